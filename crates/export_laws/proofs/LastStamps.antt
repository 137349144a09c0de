-- The last stamp of a lawful repository is lawful.
use Rattle.std.proofs.Common.{◌≡◌, Bool, true, false, ◌&&◌, List, [], ◌∷◌, Option, None, Result, refl, sym, subst}
use Rattle.std.specs.declared.option.Option.TheVariants.{Some}
use Rattle.std.specs.Prelude.{IfSome, nat_lt}
use Rattle.spec.specs.Reading.{◌>>=◌, ensure}
use Rattle.spec.specs.Writes.{passes}
use Rattle.spec.specs.Stamps.{Stamp, Stamped, StampFault, BadDid, BadRev, RevOrder, is_did, is_tid, is_next_rev, last, stamp_of, rev_of, length_after, stamp_test, are_stamps, are_stamps_after}
use Rattle.spec.proofs.Bools.{both}
use Rattle.spec.proofs.StampLaws.{last_or, last-is}

abbrev pub IsGood : Stamp → Type 0
IsGood stamp = (is_did stamp.did ≡ true) × (is_tid stamp.rev ≡ true)

two : (a b : Bool) (r : Result (Unit {0}) StampFault) → passes (ensure a BadDid >>= λ (x : Unit {0}). ensure b BadRev >>= λ (y : Unit {0}). r) ≡ true
    → (a ≡ true) × (b ≡ true)
two true true r h = (refl, refl)
two true false r h = absurd cc
two false b r h = absurd cc

last-good : (before : Option Stamped) (ss : List Stamped) → IfSome before (λ x. IsGood x.0) → are_stamps_after before ss ≡ true
    → IfSome (last_or before ss) (λ x. IsGood x.0)
last-good before [] good h = good
last-good before (x ∷ ss) good h =
    let p = both (passes (stamp_test (rev_of before) x.0) && nat_lt (length_after before) x.1) (are_stamps_after (Some x) ss) h in
    let q = both (passes (stamp_test (rev_of before) x.0)) (nat_lt (length_after before) x.1) p.0 in
    last-good (Some x) ss (two (is_did x.0.did) (is_tid x.0.rev) (ensure (is_next_rev (rev_of before) x.0.rev) RevOrder) q.0) p.1

of-last : (o : Option Stamped) (stamp : Stamp) → IfSome o (λ x. IsGood x.0) → stamp_of o ≡ Some stamp → IsGood stamp
of-last None stamp good is = absurd cc
of-last (Some x) stamp good is = let same : x.0 ≡ stamp = cc in subst IsGood same good

pub stamp-good : (ss : List Stamped) (stamp : Stamp) → are_stamps ss ≡ true → stamp_of (last ss) ≡ Some stamp → IsGood stamp
stamp-good ss stamp h is =
    of-last (last ss) stamp (subst (λ (o : Option Stamped). IfSome o (λ x. IsGood x.0)) (sym (last-is ss)) (last-good None ss tt h)) is
