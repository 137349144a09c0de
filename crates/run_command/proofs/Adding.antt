-- Adding a line for each repository, and what each writer told: what is added, and what is left to add, make the whole.
use Rattle.std.proofs.Common.{◌≡◌, ℕ, suc, ◌+◌, ◌-◌, ◌<◌, ◌≤◌, List, [], ◌∷◌, ◌++◌, length, map, take, get_or, arith, sym, ap, subst, ◌∙◌, append_assoc}
use Rattle.std.specs.Prelude.{All, Option}
use Rattle.std.specs.List.{flat_map, range_with_len}
use Rattle.std.proofs.lemmas.List.{append-nil, length-map, length-take-le, map-append, take_more}
use Rattle.std.proofs.lemmas.List.Elements.{All-push}
use Rattle.spec.specs.Writes.{Write}
use Rattle.spec.specs.Stamps.{Stamped}
use Rattle.spec.specs.States.{State, IsLawful}
use Rattle.store.specs.Table.{Table}
use Rattle.closing.specs.Headline.{AreTallies, IsFromScratch}
use Rattle.run_command.specs.Report.{repository_line}
use Rattle.run_command.specs.Reports.{IsShown, ShownView, shown_line, shown_lines}

-- a line more at the end
lines-push : (n : ℕ) (rs : List ShownView) (r : ShownView) → shown_lines n (rs ++ r ∷ []) ≡ shown_lines n rs ++ shown_line (n + length rs) r
lines-push n [] r = append-nil (shown_line n r) ∙ ap (λ k. shown_line k r) (let e : n ≡ n + 0 = omega arith in e)
lines-push n (x ∷ rs) r =
    ap (λ t. shown_line n x ++ t) (lines-push (suc n) rs r ∙ ap (λ k. shown_lines (suc n) rs ++ shown_line k r) (let e : suc n + length rs ≡ n + suc (length rs) = omega arith in e))
    ∙ sym (append_assoc (shown_line n x) (shown_lines (suc n) rs) (shown_line (n + suc (length rs)) r))

-- the lines of the repositories below this number were added
pub record AreAdded (digest : List ℕ → List ℕ) (cores : List State) (tables : List Table) (number : ℕ) (old new : List ℕ) : Type 0 where
  pub shown : List ShownView
  pub states_are : map (λ r. r.state) shown ≡ take number cores
  pub from_scratch : All (IsShown digest) shown
  pub tallies : 0 < number → AreTallies digest 2 cores tables
  pub text_is : new ≡ old ++ shown_lines 0 shown

module _ (digest : List ℕ → List ℕ) (cores : List State) (tables : List Table) (old : List ℕ) where
  next-added : (i : ℕ) (t u : List ℕ) (r : ShownView) → i < length cores → r.state ≡ get_or cores i r.state → IsShown digest r → AreTallies digest 2 cores tables
      → u ≡ t ++ shown_line i r → AreAdded digest cores tables i old t → AreAdded digest cores tables (i + 1) old u
  next-added i t u r lt here is tallies added before =
      let long : length before.shown ≡ i = sym (length-map before.shown (λ (r : ShownView). r.state)) ∙ ap length before.states_are ∙ length-take-le i cores (omega (arith, lt)) in
      record {
        shown = before.shown ++ r ∷ [];
        states_are = map-append (λ (r : ShownView). r.state) before.shown (r ∷ []) ∙ (λ j. before.states_are j ++ here j ∷ []) ∙ sym (take_more cores i r.state lt);
        from_scratch = All-push (IsShown digest) before.shown r before.from_scratch is;
        tallies = λ some. tallies;
        text_is =
            added
            ∙ ap (λ x. x ++ shown_line i r) before.text_is
            ∙ append_assoc old (shown_lines 0 before.shown) (shown_line i r)
            ∙ ap (λ k. old ++ (shown_lines 0 before.shown ++ shown_line k r)) (let e : i ≡ 0 + length before.shown = omega (arith, long) in e)
            ∙ ap (λ x. old ++ x) (sym (lines-push 0 before.shown r));
      }

  pub shown-added : (i : ℕ) (t u : List ℕ) (s : State) (writes : List Write) (stamps : List Stamped) (root : List ℕ) (commit : Option (List ℕ)) (blocks : List (List ℕ)) (accepted : ℕ)
      → i < length cores → s ≡ get_or cores i s → IsLawful s → writes ≡ s.accepted → stamps ≡ s.stamps → IsFromScratch digest 2 writes stamps root commit blocks → AreTallies digest 2 cores tables
      → accepted ≡ length writes → u ≡ t ++ repository_line i root accepted commit → AreAdded digest cores tables i old t → AreAdded digest cores tables (i + 1) old u
  shown-added i t u s writes stamps root commit blocks accepted lt here lawful ws ss scratch tallies count added before =
      next-added i t u (record { state = s; root = root; commit = commit; blocks = blocks }) lt here
      (record {
        lawful = lawful;
        from_scratch = subst (λ (x : List Write). IsFromScratch digest 2 x s.stamps root commit blocks) ws (subst (λ (x : List Stamped). IsFromScratch digest 2 writes x root commit blocks) ss scratch);
      })
      tallies
      (added ∙ ap (λ n. t ++ repository_line i root n commit) (count ∙ ap length ws))
      before

module _ (f : ℕ → List ℕ) (t whole : List ℕ) (i n : ℕ) where
  abbrev pub Left : List ℕ → ℕ → Type 0
  Left u j = u ++ flat_map f (range_with_len j (n - j)) ≡ whole

  range_next : i < n → range_with_len i (n - i) ≡ i ∷ range_with_len (i + 1) (n - (i + 1))
  range_next lt = ap (range_with_len i) (let e : n - i ≡ suc (n - (i + 1)) = omega arith in e)

  pub one-added : (u : List ℕ) → i < n → u ≡ t ++ f i → Left t i → Left u (i + 1)
  one-added u lt is left =
      ap (λ z. z ++ flat_map f (range_with_len (i + 1) (n - (i + 1)))) is
      ∙ append_assoc t (f i) (flat_map f (range_with_len (i + 1) (n - (i + 1))))
      ∙ ap (λ xs. t ++ flat_map f xs) (sym (range_next lt))
      ∙ left

  pub all-added : n ≤ i → Left t i → t ≡ whole
  all-added le left =
      sym (append-nil t) ∙ ap (λ k. t ++ flat_map f (range_with_len i k)) (let e : 0 ≡ n - i = omega arith in e) ∙ left
