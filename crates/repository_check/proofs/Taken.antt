-- Records taken one after the other.
use Rattle.std.proofs.Common.{Vec, ◌≡◌, ℕ, suc, ◌+◌, ◌<◌, ◌≤◌, List, [], ◌∷◌, ◌++◌, length, get_or, drop, map, Option, Result, Ok, Err, refl, sym, ap, subst, ◌∙◌, append_assoc, append-nil, add-one, ◌⊎◌, inl, inr, arith}
use Rattle.std.specs.declared.option.Option.TheVariants.{Some, None}
use Rattle.std.specs.Borrow.{Bor}
use Rattle.std.proofs.lemmas.List.{map-append, nil_from_length, drop_all}
use Rattle.std.proofs.Math.Seq.{drop-cons}
use Rattle.spec.specs.Reading.{◌>>=◌, Fails}
use Rattle.spec.specs.Tree.{Pair}
use Rattle.spec.specs.CarReading.{Section}
use Rattle.spec.specs.Exports.{ExportFault, at_place, keyed, record_for, records_from}
use Rattle.repository_check.specs.declared.repository.Record.{Record}
use Rattle.repository_check.specs.Views.{keyed_record, lent, pair_of, pairs_of}

abbrev Records : Type 0
Records = Result (List (List ℕ)) ExportFault

-- the records so far, and then those that are taken
abbrev pub behind : List (List ℕ) → Records → Records
behind front (Ok rs) = Ok (front ++ rs)
behind front (Err f) = Err f

behind-none : (r : Records) → behind [] r ≡ r
behind-none (Ok rs) = refl
behind-none (Err f) = refl

one-more : (front : List (List ℕ)) (r : List ℕ) (rest : Records) → behind front (rest >>= λ rs. Ok (r ∷ rs)) ≡ behind (front ++ r ∷ []) rest
one-more front r (Ok rs) = ap (λ (x : List (List ℕ)). Ok x) (sym (append_assoc front (r ∷ []) rs))
one-more front r (Err f) = refl

stop : (front : List (List ℕ)) (o : Option ExportFault) (first : Result (List ℕ) ExportFault) (rest : Records) → Fails o first
    → Fails o (behind front (first >>= λ r. rest >>= λ rs. Ok (r ∷ rs)))
stop front None first rest h = tt
stop front (Some f) first rest h = ap (λ (x : Result (List ℕ) ExportFault). behind front (x >>= λ r. rest >>= λ rs. Ok (r ∷ rs))) h

module _ {A : Type 0} (ss : List Section) (ps : List (Vec ℕ A × List ℕ)) where
  -- all of the records: those so far, and those that are taken of the rest
  abbrev pub Takes : ℕ → List (Bor (List ℕ)) → Type 0
  Takes place found =
      behind (lent found) (records_from ss place (pairs_of (drop place ps))) ≡ records_from ss 0 (pairs_of ps)

  pub takes-first : (found : List (Bor (List ℕ))) → found ≡ [] → Takes 0 found
  takes-first found none =
      ap (λ (x : List (Bor (List ℕ))). behind (lent x) (records_from ss 0 (pairs_of ps))) none ∙ behind-none (records_from ss 0 (pairs_of ps))

  at : (place : ℕ) (x : Vec ℕ A × List ℕ) → place < length ps → x ≡ get_or ps place x
      → records_from ss place (pairs_of (drop place ps))
      ≡ records_from ss place ((x.0.items, x.1) ∷ pairs_of (drop (suc place) ps))
  at place x lt is =
      ap (λ (qs : List (Vec ℕ A × List ℕ)). records_from ss place (pairs_of qs)) (drop-cons ps place x lt)
      ∙ ap (λ (y : Vec ℕ A × List ℕ). records_from ss place ((y.0.items, y.1) ∷ pairs_of (drop (suc place) ps))) (sym is)

  pub takes-next : (place : ℕ) (x : Vec ℕ A × List ℕ) (found new : List (Bor (List ℕ))) (b : Bor (List ℕ)) → place < length ps
      → x ≡ get_or ps place x → at_place place (record_for ss (x.0.items, x.1)) ≡ Ok b.now → new ≡ found ++ b ∷ [] → Takes place found
      → Takes (place + 1) new
  takes-next place x found new b lt is taken more takes =
      let rest : Records = records_from ss (suc place) (pairs_of (drop (suc place) ps)) in
      let front : lent new ≡ lent found ++ b.now ∷ [] = ap lent more ∙ map-append (λ (b : Bor (List ℕ)). b.now) found (b ∷ []) in
      ap (λ (n : ℕ). behind (lent new) (records_from ss n (pairs_of (drop n ps)))) (add-one place)
      ∙ ap (λ (f : List (List ℕ)). behind f rest) front
      ∙ sym (one-more (lent found) b.now rest)
      ∙ sym (ap (λ (y : Result (List ℕ) ExportFault). behind (lent found) (y >>= λ r. rest >>= λ rs. Ok (r ∷ rs))) taken)
      ∙ sym (ap (behind (lent found)) (at place x lt is))
      ∙ takes

  pub takes-stop : (place : ℕ) (x : Vec ℕ A × List ℕ) (found : List (Bor (List ℕ))) (o : Option ExportFault) → place < length ps
      → x ≡ get_or ps place x → Fails o (at_place place (record_for ss (x.0.items, x.1))) → Takes place found
      → Fails o (records_from ss 0 (pairs_of ps))
  takes-stop place x found o lt is fails takes =
      subst (Fails o) (sym (ap (behind (lent found)) (at place x lt is)) ∙ takes)
      (stop (lent found) o (at_place place (record_for ss (x.0.items, x.1))) (records_from ss (suc place) (pairs_of (drop (suc place) ps))) fails)

  pub takes-all : (place : ℕ) (found : List (Bor (List ℕ))) → length ps ≤ place → Takes place found
      → records_from ss 0 (pairs_of ps) ≡ Ok (lent found)
  takes-all place found end takes =
      sym takes
      ∙ ap (λ (qs : List (Vec ℕ A × List ℕ)). behind (lent found) (records_from ss place (pairs_of qs))) (drop_all place ps end)
      ∙ ap (λ (x : List (List ℕ)). Ok x) (append-nil (lent found))

-- ---- each pair with its record

module _ {A : Type 0} (xs rest : List (Vec ℕ A × List ℕ)) (x : Vec ℕ A × List ℕ) (taken : xs ≡ x ∷ rest)
    (bs others : List (Bor (List ℕ))) (b : Bor (List ℕ)) (also : bs ≡ b ∷ others) (done new : List (Record A)) (r : Record A)
    (more : new ≡ done ++ r ∷ []) where
  pub keyed-more : (whole : List (List ℕ × List ℕ)) → keyed_record r ≡ (x.0.items, b.now)
      → map keyed_record done ++ keyed (pairs_of xs) (lent bs) ≡ whole
      → map keyed_record new ++ keyed (pairs_of rest) (lent others) ≡ whole
  keyed-more whole is all =
      let tail : List (List ℕ × List ℕ) = keyed (pairs_of rest) (lent others) in
      ap (λ (t : List (Record A)). map keyed_record t ++ tail) more
      ∙ ap (λ (t : List (List ℕ × List ℕ)). t ++ tail) (map-append keyed_record done (r ∷ []))
      ∙ append_assoc (map keyed_record done) (keyed_record r ∷ []) tail
      ∙ ap (λ (t : List ℕ × List ℕ). map keyed_record done ++ t ∷ tail) is
      ∙ sym (ap (λ (t : List (Bor (List ℕ))). map keyed_record done ++ keyed (pairs_of (x ∷ rest)) (lent t)) also)
      ∙ sym (ap (λ (t : List (Vec ℕ A × List ℕ)). map keyed_record done ++ keyed (pairs_of t) (lent bs)) taken)
      ∙ all

  pub pairs-more : (whole : List Pair) → pair_of r ≡ (x.0.items, x.1) → map pair_of done ++ pairs_of xs ≡ whole
      → map pair_of new ++ pairs_of rest ≡ whole
  pairs-more whole is all =
      ap (λ (t : List (Record A)). map pair_of t ++ pairs_of rest) more
      ∙ ap (λ (t : List Pair). t ++ pairs_of rest) (map-append pair_of done (r ∷ []))
      ∙ append_assoc (map pair_of done) (pair_of r ∷ []) (pairs_of rest)
      ∙ ap (λ (t : Pair). map pair_of done ++ t ∷ pairs_of rest) is
      ∙ sym (ap (λ (t : List (Vec ℕ A × List ℕ)). map pair_of done ++ pairs_of t) taken)
      ∙ all

  pub still-long : length xs ≡ length bs → length rest ≡ length others
  still-long same =
      let p : length xs ≡ suc (length rest) = ap length taken in
      let q : length bs ≡ suc (length others) = ap length also in
      omega arith

both-ended : {X Y : Type 0} (xs : List X) (ys : List Y) → length xs ≡ 0 → length xs ≡ length ys → (xs ≡ []) × (ys ≡ [])
both-ended xs ys e same = (nil_from_length xs e, nil_from_length ys (sym same ∙ e))

-- both lists are at their ends where one of them is
pub all-ended : {X Y S T : Type 0} {P : S → Type 0} {Q : T → Type 0} (xs : List X) (ys : List Y) (n m : ℕ) → n ≡ length xs → m ≡ length ys
    → length xs ≡ length ys → ((s : S) × ((n ≡ 0) × P s)) ⊎ ((t : T) × ((m ≡ 0) × Q t)) → (xs ≡ []) × (ys ≡ [])
all-ended xs ys n m a b same (inl s) = both-ended xs ys (sym a ∙ s.1.0) same
all-ended xs ys n m a b same (inr t) = both-ended xs ys (same ∙ sym b ∙ t.1.0) same

module _ {A : Type 0} (xs : List (Vec ℕ A × List ℕ)) (bs : List (Bor (List ℕ))) (ends : (xs ≡ []) × (bs ≡ [])) (done : List (Record A)) where
  pub keyed-all : (whole : List (List ℕ × List ℕ)) → map keyed_record done ++ keyed (pairs_of xs) (lent bs) ≡ whole
      → map keyed_record done ≡ whole
  keyed-all whole all =
      sym (append-nil (map keyed_record done))
      ∙ sym (ap (λ (t : List (Vec ℕ A × List ℕ)). map keyed_record done ++ keyed (pairs_of t) (lent bs)) ends.0)
      ∙ all

  pub pairs-all : (whole : List Pair) → map pair_of done ++ pairs_of xs ≡ whole → map pair_of done ≡ whole
  pairs-all whole all =
      sym (append-nil (map pair_of done)) ∙ sym (ap (λ (t : List (Vec ℕ A × List ℕ)). map pair_of done ++ pairs_of t) ends.0) ∙ all
