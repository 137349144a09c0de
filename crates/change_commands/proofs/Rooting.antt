-- The text of a verdict, step by step, where the input is known.
use Rattle.std.proofs.Common.{◌≡◌, ◌∙◌, ℕ, List, subst, sym}
use Rattle.std.specs.Prelude.{Option, Ok}
use Rattle.spec.specs.Reading.{◌>>=◌, Fails}
use Rattle.console.specs.Lines.{lines}
use Rattle.repository_commands.specs.Faults.{Fault}
use Rattle.repository_commands.proofs.Making.{fails_then, gives_then}
use Rattle.change_commands.specs.Texts.{answer_of_told, roots_check, roots_of, verify_change_text}
use Rattle.change_commands.specs.Told.{Told, told_in}
use Rattle.change_commands.specs.declared.direction.Direction.{Direction}

module _ (digest : List ℕ → List ℕ) (direction : Direction) (before after : List ℕ) where
  -- a word is faulty
  pub unrooted : (o : Option Fault) → Fails o (roots_of before after) → (xs : List ℕ) → Fails o (verify_change_text digest direction before after xs)
  unrooted o e xs = fails_then o (roots_of before after) (λ rs. told_in (lines xs) >>= (λ t. roots_check rs t >>= (λ _. answer_of_told digest direction t))) e

  module _ (rs : List ℕ × List ℕ) (rooted : roots_of before after ≡ Ok rs) (xs : List ℕ) where
    from_roots : verify_change_text digest direction before after xs ≡ (told_in (lines xs) >>= (λ t. roots_check rs t >>= (λ _. answer_of_told digest direction t)))
    from_roots = gives_then (roots_of before after) rs (λ rs. told_in (lines xs) >>= (λ t. roots_check rs t >>= (λ _. answer_of_told digest direction t))) rooted

    -- a line is faulty
    pub untold : (o : Option Fault) → Fails o (told_in (lines xs)) → Fails o (verify_change_text digest direction before after xs)
    untold o e = subst (Fails o) (sym from_roots) (fails_then o (told_in (lines xs)) (λ t. roots_check rs t >>= (λ _. answer_of_told digest direction t)) e)

    module _ (t : Told) (told : told_in (lines xs) ≡ Ok t) where
      from_told : verify_change_text digest direction before after xs ≡ (roots_check rs t >>= (λ _. answer_of_told digest direction t))
      from_told = from_roots ∙ gives_then (told_in (lines xs)) t (λ t. roots_check rs t >>= (λ _. answer_of_told digest direction t)) told

      -- it has other roots
      pub others : (o : Option Fault) → Fails o (roots_check rs t) → Fails o (verify_change_text digest direction before after xs)
      others o e = subst (Fails o) (sym from_told) (fails_then o (roots_check rs t) (λ _. answer_of_told digest direction t) e)

      -- it has these
      pub answered : roots_check rs t ≡ Ok tt → verify_change_text digest direction before after xs ≡ answer_of_told digest direction t
      answered e = from_told ∙ gives_then (roots_check rs t) tt (λ _. answer_of_told digest direction t) e
