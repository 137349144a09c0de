-- The batch of changes, write by write.
use Rattle.std.proofs.Common.{◌≡◌, ℕ, suc, ◌+◌, ◌<◌, ◌≤◌, List, [], ◌∷◌, ◌++◌, length, drop, get_or, refl, sym, ap, subst, ◌∙◌, arith, append_assoc, Option, Some, None, Result, Ok, Err}
use Rattle.std.proofs.lemmas.List.{append-nil, at_drop_more, drop_all, map-append}
use Rattle.std.specs.Prelude.{option_map}
use Rattle.spec.specs.Writes.{Write}
use Rattle.block.specs.Writes.{write_of, writes_of}
use Rattle.block.specs.declared.write.Write.{Write as Written}
use Rattle.change_laws.specs.Told.{KeyChange}
use Rattle.difference_taking.specs.Writing.{front_or_place, in_front, write_for, writes_from}

-- those that are made, with those that are left
abbrev behind : List Write → Result (List Write) ℕ → Result (List Write) ℕ
behind ws (Ok vs) = Ok (ws ++ vs)
behind ws (Err place) = Err place

module _ (digest : List ℕ → List ℕ) (given : List (List ℕ)) where
  -- with those from a place on they are all
  abbrev pub Made : List KeyChange → List Write → ℕ → Type 0
  Made cs ws i = behind ws (writes_from digest given i (drop i cs)) ≡ writes_from digest given 0 cs

  at-place : (cs : List KeyChange) (i : ℕ) (c : KeyChange) → i < length cs → c ≡ get_or cs i c
      → writes_from digest given i (drop i cs)
      ≡ front_or_place i (write_for digest given c) (writes_from digest given (suc i) (drop (i + 1) cs))
  at-place cs i c lt is =
      at_drop_more (λ xs. writes_from digest given i xs) cs i c lt
      ∙ ap (λ (y : KeyChange). writes_from digest given i (y ∷ drop (i + 1) cs)) (sym is)

  behind-front : (ws : List Write) (w : Write) (r : Result (List Write) ℕ) → behind ws (in_front w r) ≡ behind (ws ++ w ∷ []) r
  behind-front ws w (Ok vs) = ap (λ (xs : List Write). Ok xs) (sym (append_assoc ws (w ∷ []) vs))
  behind-front ws w (Err place) = refl

  pub made-first : (cs : List KeyChange) → Made cs [] 0
  made-first cs = by-result (writes_from digest given 0 cs)
    where
      by-result : (r : Result (List Write) ℕ) → behind [] r ≡ r
      by-result (Ok vs) = refl
      by-result (Err place) = refl

  made-next : (cs : List KeyChange) (ws : List Write) (i : ℕ) (c : KeyChange) (w : Write) → i < length cs → c ≡ get_or cs i c
      → write_for digest given c ≡ Some w → Made cs ws i → Made cs (ws ++ w ∷ []) (i + 1)
  made-next cs ws i c w lt is e made =
      let rest = drop (i + 1) cs in
      let next : i + 1 ≡ suc i = omega arith in
      ap (λ (n : ℕ). behind (ws ++ w ∷ []) (writes_from digest given n rest)) next
      ∙ sym (behind-front ws w (writes_from digest given (suc i) rest))
      ∙ sym (ap (λ (o : Option Write). behind ws (front_or_place i o (writes_from digest given (suc i) rest))) e)
      ∙ sym (ap (behind ws) (at-place cs i c lt is)) ∙ made

  -- so a write that was pushed is one more of them
  pub made-more : {A : Type 0} (cs : List KeyChange) (i : ℕ) (c : KeyChange) (old new : List (Written A)) (w : Written A)
      (o : Option (Written A)) → i < length cs → c ≡ get_or cs i c → option_map write_of o ≡ write_for digest given c → o ≡ Some w
      → new ≡ old ++ w ∷ [] → Made cs (writes_of old) i → Made cs (writes_of new) (i + 1)
  made-more cs i c old new w o lt is e some pushed made =
      let grown : writes_of new ≡ writes_of old ++ write_of w ∷ [] = ap writes_of pushed ∙ map-append write_of old (w ∷ []) in
      subst (λ (ws : List Write). Made cs ws (i + 1)) (sym grown)
      (made-next cs (writes_of old) i c (write_of w) lt is (sym e ∙ ap (option_map write_of) some) made)

  pub made-stop : (cs : List KeyChange) (ws : List Write) (i : ℕ) (c : KeyChange) → i < length cs → c ≡ get_or cs i c
      → write_for digest given c ≡ None → Made cs ws i → writes_from digest given 0 cs ≡ Err i
  made-stop cs ws i c lt is e made =
      sym made ∙ ap (behind ws) (at-place cs i c lt is)
      ∙ ap (λ (o : Option Write). behind ws (front_or_place i o (writes_from digest given (suc i) (drop (i + 1) cs)))) e

  pub made-end : (cs : List KeyChange) (ws : List Write) (i : ℕ) → length cs ≤ i → Made cs ws i → writes_from digest given 0 cs ≡ Ok ws
  made-end cs ws i all made =
      sym made ∙ ap (λ (xs : List KeyChange). behind ws (writes_from digest given i xs)) (drop_all i cs all)
      ∙ ap (λ (xs : List Write). Ok xs) (append-nil ws)
