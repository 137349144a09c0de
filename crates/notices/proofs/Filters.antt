-- The notices of one writer in a list.
use Rattle.std.proofs.Common.{◌≡◌, ◌≢◌, ℕ, suc, ◌+◌, Bool, true, false, cond, List, [], ◌∷◌, ◌++◌, length, ap, ◌∙◌, subst, arith, append-nil}
use Rattle.std.specs.Prelude.{◌==◌}
use Rattle.std.proofs.lemmas.Bool.Decides.{nat_tests}
use Rattle.std.proofs.lemmas.List.Elements.{filter-append}
use Rattle.notices.specs.declared.notice.Notice.{Notice}
use Rattle.notices.specs.Numbering.{of, NumberedFrom, IsNumbered}

pub of_one : (w : ℕ) (n : Notice) → n.writer ≡ w → of w (n ∷ []) ≡ n ∷ []
of_one w n e = let t : (n.writer == w) ≡ true = grind (arith, nat_tests) in ap (λ (b : Bool). cond b (n ∷ []) []) t

pub of_none : (w : ℕ) (n : Notice) → n.writer ≢ w → of w (n ∷ []) ≡ []
of_none w n e = let t : (n.writer == w) ≡ false = grind (arith, nat_tests) in ap (λ (b : Bool). cond b (n ∷ []) []) t

pub of_push_same : (w : ℕ) (ns : List Notice) (n : Notice) → n.writer ≡ w → of w (ns ++ n ∷ []) ≡ of w ns ++ n ∷ []
of_push_same w ns n e = filter-append (λ (m : Notice). m.writer == w) ns (n ∷ []) ∙ ap (λ l. of w ns ++ l) (of_one w n e)

pub of_push_else : (w : ℕ) (ns : List Notice) (n : Notice) → n.writer ≢ w → of w (ns ++ n ∷ []) ≡ of w ns
of_push_else w ns n e = filter-append (λ (m : Notice). m.writer == w) ns (n ∷ []) ∙ ap (λ l. of w ns ++ l) (of_none w n e) ∙ append-nil (of w ns)

pub numbered_push : (k : ℕ) (ns : List Notice) (n : Notice) → NumberedFrom k ns → n.seq ≡ k + length ns → NumberedFrom k (ns ++ n ∷ [])
numbered_push k [] n h e = (omega arith, tt)
numbered_push k (m ∷ ns) n h e = (h.0, numbered_push (suc k) ns n h.1 (omega arith))

pub numbered_front : (k : ℕ) (ns ms : List Notice) → NumberedFrom k (ns ++ ms) → NumberedFrom k ns
numbered_front k [] ms h = tt
numbered_front k (n ∷ ns) ms h = (h.0, numbered_front (suc k) ns ms h.1)

pub numbered_of_front : (ns ms : List Notice) → IsNumbered (ns ++ ms) → IsNumbered ns
numbered_of_front ns ms h w = numbered_front 1 (of w ns) (of w ms) (subst (NumberedFrom 1) (filter-append (λ (m : Notice). m.writer == w) ns ms) (h w))
