-- What is taken is true.
use Rattle.std.proofs.Common.{◌≡◌, ℕ, List, [], refl, sym, ap, subst, ◌∙◌, Option, Result, Ok, Err}
use Rattle.std.specs.declared.option.Option.TheVariants.{Some, None}
use Rattle.std.specs.Str.{bytes_eq}
use Rattle.spec.specs.Blocks.{ClashesWithNone, nodes, root}
use Rattle.spec.specs.CarReading.{blocks_of}
use Rattle.spec.proofs.Taking.{bind_ok, ensure_ok}
use Rattle.change_laws.specs.Given as given
use Rattle.change_laws.specs.Laws.{IsShown}
use Rattle.change_laws.specs.Verdict.{change_verdict}
use Rattle.change_laws.proofs.Showing.{verdict-sound}
use Rattle.event_laws.specs.Reading.{FormFault, read_event}
use Rattle.event_laws.specs.Verdict.{Checked, OtherPrevious, Placed, commit_in, commit_verdict, doubled_after, of_change, of_form, ordered, ordered_ops, placed_from, records_test, sections_of, single_keys, unless_doubled}
use Rattle.event_laws.specs.Laws.{TakenIsTrue}
use Rattle.event_laws.proofs.Keyed.{keyed-ordered}
use Rattle.event_laws.proofs.KeysRead.{keys-read}

same-ok : {E A : Type 0} (x y : A) → ◌≡◌ {A = Result A E} (Ok x) (Ok y) → x ≡ y
same-ok x y e = cc

was-shown : (cs : List Placed) (r : Result (Unit {0}) given.ChangeFault) (x : Unit {0}) → of_change cs r ≡ Ok x → r ≡ Ok tt
was-shown cs (Ok tt) x e = refl
was-shown cs (Err f) x e = absurd cc

was-form : {A : Type 0} (r : Result A FormFault) (x : A) → of_form r ≡ Ok x → r ≡ Ok x
was-form (Ok y) x e = cc
was-form (Err f) x e = absurd cc

were-single : (o : Option ℕ) (x : Unit {0}) → unless_doubled o ≡ Ok x → o ≡ None
were-single None x e = refl
were-single (Some place) x e = absurd cc

pub taken-is_true : TakenIsTrue
unfolding commit_verdict
taken-is_true digest bits fits previous message x is new are root_is free =
    let a = bind_ok (of_form (read_event message)) _ x is in
    let e = a.0 in
    let b = bind_ok (single_keys e.ops) _ x a.2 in
    let c = ensure_ok (bytes_eq e.before previous) OtherPrevious _ x b.2 in
    let s = bind_ok (sections_of digest e.commit e.blocks) _ x c.1 in
    let h = bind_ok (commit_in s.0 e) _ x s.2 in
    let k = bind_ok (records_test s.0 0 e.ops) _ x h.2 in
    let told = change_verdict digest bits previous h.0.root (blocks_of s.0) (ordered_ops e.ops) in
    let l = bind_ok (of_change (ordered [] (placed_from 0 e.ops)) told) _ x k.2 in
    let x_is = same-ok (record { event = e; commit = h.0; sections = s.0 }) x l.2 in
    let tree_is : h.0.root ≡ root digest bits new = ap (λ (y : Checked). y.commit.root) x_is ∙ root_is in
    let own_keyed = keyed-ordered e.ops (were-single (doubled_after [] 0 e.ops) b.0 b.1)
    (keys-read message e (was-form (read_event message) e a.1)) in
    let own_free = subst (λ (y : Checked). ClashesWithNone digest (nodes digest bits new) (blocks_of y.sections)) (sym x_is) free in
    let shown = subst (λ r. change_verdict digest bits previous r (blocks_of s.0) (ordered_ops e.ops) ≡ Ok tt) tree_is
    (was-shown (ordered [] (placed_from 0 e.ops)) told l.0 l.1) in
    subst (λ (y : Checked). IsShown digest bits previous (ordered_ops y.event.ops) new) x_is
    (verdict-sound digest bits fits previous new are (blocks_of s.0) own_free (ordered_ops e.ops) own_keyed shown)
