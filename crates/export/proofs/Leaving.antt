-- What an output took of some bytes, and what is left of them.
use Rattle.std.proofs.Common.{◌≡◌, ℕ, List, [], ◌++◌, length, take, drop, ◌-◌, arith, refl, sym, ap, subst, ◌∙◌, append_assoc}
use Rattle.std.specs.Prelude.{Result, Ok, Err, IsErr}
use Rattle.std.proofs.lemmas.List.{append-nil, take_all, take-append-drop, length-drop}
use Rattle.export.specs.Outs.{Leaves, TakesBeginning, Takes}

pub leaves-all : (old all : List ℕ) → Leaves old old all all
leaves-all old all = record { done = []; parts = refl; taken = sym (append-nil old) }

-- one part more
pub leaves-less : (old new newer all part rest : List ℕ) → Leaves old new all (part ++ rest) → newer ≡ new ++ part
    → Leaves old newer all rest
leaves-less old new newer all part rest p q = record {
  done = p.done ++ part;
  parts = p.parts ∙ sym (append_assoc p.done part rest);
  taken = q ∙ ap (λ t. t ++ part) p.taken ∙ append_assoc old p.done part;
}

-- the same rest in other words
pub leaves-same : (old new all rest other : List ℕ) → Leaves old new all rest → rest ≡ other → Leaves old new all other
leaves-same old new all rest other p e = record { done = p.done; parts = p.parts ∙ ap (λ t. p.done ++ t) e; taken = p.taken }

pub leaves-none : (old new all rest : List ℕ) → Leaves old new all rest → rest ≡ [] → new ≡ old ++ all
leaves-none old new all rest p e =
    p.taken ∙ ap (λ t. old ++ t) (sym (p.parts ∙ ap (λ t. p.done ++ t) e ∙ append-nil p.done))

pub leaves-some : (old new all rest : List ℕ) → Leaves old new all rest → TakesBeginning old new all
leaves-some old new all rest p = record { rest = rest; leaves = p }

-- a beginning of a part of what was left
pub leaves-beginning : (old new newer all part rest : List ℕ) → Leaves old new all (part ++ rest)
    → TakesBeginning new newer part → TakesBeginning old newer all
leaves-beginning old new newer all part rest p q =
    let e = ap (λ t. t ++ rest) q.leaves.parts ∙ append_assoc q.leaves.done q.rest rest in
    leaves-some old newer all (q.rest ++ rest)
    (leaves-less old new newer all q.leaves.done (q.rest ++ rest) (leaves-same old new all (part ++ rest) _ p e) q.leaves.taken)

-- ---- at the end of a call

-- a part of what was left failed
pub stops : {T E : Type 0} (old new newer all part rest : List ℕ) (r : Result T E) → Leaves old new all (part ++ rest) → IsErr r
    → TakesBeginning new newer part → Takes old newer r all
stops old new newer all part rest (Ok x) p err q = absurd cc
stops old new newer all part rest (Err e) p err q = leaves-beginning old new newer all part rest p q

-- so did the last part
pub stops-last : {T E : Type 0} (old new newer all part : List ℕ) (r : Result T E) → Leaves old new all part → IsErr r
    → TakesBeginning new newer part → Takes old newer r all
stops-last old new newer all part r p err q =
    stops old new newer all part [] r (leaves-same old new all part (part ++ []) p (sym (append-nil part))) err q

-- ---- three parts

module _ (old p q s all : List ℕ) (parts : all ≡ p ++ (q ++ s)) where
  leaves-two : (one : List ℕ) → one ≡ old ++ p → Leaves old one all (q ++ s)
  leaves-two one a =
      leaves-less old old one all p (q ++ s) (leaves-same old old all all _ (leaves-all old all) parts) a

  leaves-one : (one two : List ℕ) → one ≡ old ++ p → two ≡ one ++ q → Leaves old two all s
  leaves-one one two a b = leaves-less old one two all q s (leaves-two one a) b

  pub stops-first : {T E : Type 0} (new : List ℕ) (r : Result T E) → IsErr r → TakesBeginning old new p → Takes old new r all
  stops-first new r err t = stops old old new all p (q ++ s) r (leaves-same old old all all _ (leaves-all old all) parts) err t

  pub stops-second : {T E : Type 0} (one new : List ℕ) (r : Result T E) → one ≡ old ++ p → IsErr r → TakesBeginning one new q
      → Takes old new r all
  stops-second one new r a err t = stops old one new all q s r (leaves-two one a) err t

  pub stops-third : {T E : Type 0} (one two new : List ℕ) (r : Result T E) → one ≡ old ++ p → two ≡ one ++ q → IsErr r → TakesBeginning two new s
      → Takes old new r all
  stops-third one two new r a b err t = stops-last old two new all s r (leaves-one one two a b) err t

  pub takes-three : (one two new : List ℕ) → one ≡ old ++ p → two ≡ one ++ q → new ≡ two ++ s → new ≡ old ++ all
  takes-three one two new a b d =
      leaves-none old new all [] (leaves-less old two new all s [] (leaves-same old two all s _ (leaves-one one two a b) (sym (append-nil s))) d) refl

  -- and the third ended so
  pub takes-last : {T E : Type 0} (one two new : List ℕ) (r : Result T E) → one ≡ old ++ p → two ≡ one ++ q → Takes two new r s
      → Takes old new r all
  takes-last one two new (Ok x) a b t =
      leaves-none old new all [] (leaves-less old two new all s [] (leaves-same old two all s _ (leaves-one one two a b) (sym (append-nil s))) t) refl
  takes-last one two new (Err e) a b t =
      leaves-beginning old two new all s [] (leaves-same old two all s (s ++ []) (leaves-one one two a b) (sym (append-nil s))) t

-- a list is what stands before a place and what is cut off from there on
pub cut-at : (n : ℕ) (xs rest : List ℕ) → rest ≡ take (length xs - n) (drop n xs) → xs ≡ take n xs ++ rest
cut-at n xs rest e =
    let all : take (length xs - n) (drop n xs) ≡ drop n xs = take_all (length xs - n) (drop n xs) (omega (arith, length-drop n xs)) in
    sym (take-append-drop n xs) ∙ ap (λ (t : List ℕ). take n xs ++ t) (sym (e ∙ all))

-- nothing was taken
pub takes-nothing : {T E : Type 0} (old all : List ℕ) (r : Result T E) → IsErr r → Takes old old r all
takes-nothing old all (Ok x) err = absurd cc
takes-nothing old all (Err e) err = leaves-some old old all all (leaves-all old all)

-- the same bytes in other words
pub takes-same : {T E : Type 0} (old new all other : List ℕ) (r : Result T E) → IsErr r → all ≡ other → TakesBeginning old new all
    → Takes old new r other
takes-same old new all other (Ok x) err e t = absurd cc
takes-same old new all other (Err f) err e t = subst (TakesBeginning old new) e t
