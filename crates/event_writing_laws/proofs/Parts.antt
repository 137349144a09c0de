-- What was tested where there is a message, and what it so is.
use Rattle.std.proofs.Common.{◌≡◌, ℕ, suc, ◌^◌, ◌<◌, ◌≤◌, Bool, true, false, cond, List, [], ◌∷◌, length, refl, sym, ap, subst, ◌∙◌, Option, Result, Ok, Err}
use Rattle.std.specs.Prelude.{nat_le, nat_lt}
use Rattle.std.specs.List.{AllByRecursion}
use Rattle.std.specs.declared.option.Option.TheVariants.{Some}
use Rattle.std.specs.Cmp.Lexicographic.{slice_cmp}
use Rattle.std.specs.Ordering.{nat_cmp, eq_by_cmp}
use Rattle.std.proofs.lemmas.Bool.{leb-true, ltb-true}
use Rattle.spec.specs.Cid.{cid, is_own_cid}
use Rattle.spec.specs.Tree.{Pair}
use Rattle.spec.specs.Blocks.{value_of}
use Rattle.spec.specs.Keys.{is_repository_key}
use Rattle.spec.specs.NodeFormat.{is_own_cid_or_none}
use Rattle.spec.specs.Stamps.{Stamp}
use Rattle.spec.proofs.Taking.{bind_ok, ensure_ok}
use Rattle.change_laws.specs.Told.{KeyChange}
use Rattle.event_times.specs.Limits.{most_ops, most_blocks_bytes}
use Rattle.event_times.specs.Times.{is_time}
use Rattle.event_laws.specs.Ops.{is_op, ops_of}
use Rattle.event_laws.specs.Events.{Event}
use Rattle.event_laws.specs.Reading.{FormFault, BadOp, BadTime, BlocksSize, TooManyOps, since_test}
use Rattle.event_reading_laws.specs.Laws.{IsOp}
use Rattle.event_writing_laws.specs.Telling.{Told, UntoldFault, BadSeq, OfForm, of_form, paths_test, sizes_test, told_ops, told_test}
use Rattle.event_writing_laws.specs.Messages.{commit_over, event_of, file_of, left_test, short_file, stamped_event}
use Rattle.event_writing_laws.proofs.Left.{ensured}

same-ok : {E A : Type 0} (x y : A) → ◌≡◌ {A = Result A E} (Ok x) (Ok y) → x ≡ y
same-ok x y e = cc

-- ---- what stands beside the batch

pub record IsBeside (told : Told) (rev : List ℕ) : Type 0 where
  pub seq : told.seq < 2 ^ 63
  pub time : is_time told.time ≡ true
  pub since : since_test told.since rev ≡ Ok tt

was-form : {A : Type 0} (r : Result A FormFault) (x : A) → of_form r ≡ Ok x → r ≡ Ok x
was-form (Ok y) x e = cc
was-form (Err f) x e = absurd cc

pub is-beside : (told : Told) (rev : List ℕ) (x : Unit {0}) → told_test told rev ≡ Ok x → IsBeside told rev
unfolding told_test
is-beside told rev x e =
    let a = ensure_ok (nat_lt told.seq (2 ^ 63)) BadSeq _ x e in
    let b = bind_ok (of_form (since_test told.since rev)) _ x a.1 in
    record {
      seq = ltb-true told.seq (2 ^ 63) a.0;
      time = ensured (is_time told.time) (OfForm BadTime) x b.2;
      since = was-form (since_test told.since rev) b.0 b.1;
    }

-- ---- operations

pub record AreOps (cs ops : List KeyChange) : Type 0 where
  pub few : length (ops_of cs) ≤ most_ops
  pub paths : paths_test 0 (ops_of cs) ≡ Ok tt
  pub are : ops_of cs ≡ ops

pub are-ops : (cs ops : List KeyChange) → told_ops cs ≡ Ok ops → AreOps cs ops
unfolding told_ops
are-ops cs ops e =
    let a = ensure_ok (nat_le (length (ops_of cs)) most_ops) (OfForm TooManyOps) _ ops e in
    let b = bind_ok (paths_test 0 (ops_of cs)) (λ x. Ok (ops_of cs)) ops a.1 in
    record {
      few = leb-true (length (ops_of cs)) most_ops a.0;
      paths = b.1;
      are = same-ok {E = UntoldFault} (ops_of cs) ops b.2;
    }

own-case : (t : Bool) (v : List ℕ) (o : Option (List ℕ)) → is_own_cid v ≡ true → is_own_cid_or_none o ≡ true
    → is_own_cid_or_none (cond t (Some v) o) ≡ true
own-case true v o h k = h
own-case false v o h k = k

own-found : (es : List Pair) (key : List ℕ) → AllByRecursion (λ e. is_own_cid e.1 ≡ true) es
    → is_own_cid_or_none (value_of key es) ≡ true
own-found [] key a = refl
own-found (e ∷ es) key a =
    own-case (eq_by_cmp (slice_cmp nat_cmp) key e.0) e.1 (value_of key es) a.0 (own-found es key a.1)

pub are-lawful : (old new : List Pair) (place : ℕ) (cs : List KeyChange) → AllByRecursion (λ e. is_own_cid e.1 ≡ true) old
    → AllByRecursion (λ e. is_own_cid e.1 ≡ true) new → paths_test place cs ≡ Ok tt → AllByRecursion (λ c. is_op c ≡ true) cs
    → AllByRecursion (λ c. value_of c.key old ≡ c.before) cs → AllByRecursion (λ c. value_of c.key new ≡ c.after) cs
    → AllByRecursion IsOp cs
are-lawful old new place [] o n p i b a = tt
are-lawful old new place (c ∷ cs) o n p i b a =
    let e = ensure_ok (is_repository_key c.key) (OfForm (BadOp place)) (λ x. paths_test (suc place) cs) tt p in (
      record {
        key = e.0;
        op = i.0;
        before = subst (λ v. is_own_cid_or_none v ≡ true) b.0 (own-found old c.key o);
        after = subst (λ v. is_own_cid_or_none v ≡ true) a.0 (own-found new c.key n);
      },
      are-lawful old new (suc place) cs o n e.1 i.1 b.1 a.1,
    )

-- ---- the whole

pub record Parts (digest : List ℕ → List ℕ) (bits : ℕ) (m : List (List ℕ × List ℕ)) (stamp : Stamp) (before : List ℕ)
    (cs : List KeyChange) (told : Told) (e : Event) : Type 0 where
  pub beside : IsBeside told stamp.rev
  pub few : length (ops_of cs) ≤ most_ops
  pub paths : paths_test 0 (ops_of cs) ≡ Ok tt
  pub sizes : sizes_test m 0 (ops_of cs) ≡ Ok tt
  pub short : length (file_of digest bits (commit_over digest bits stamp told.sig m) m (ops_of cs)) ≤ most_blocks_bytes
  pub is : event_of told stamp (cid digest (commit_over digest bits stamp told.sig m))
      (file_of digest bits (commit_over digest bits stamp told.sig m) m (ops_of cs)) (ops_of cs) before ≡ e

pub record IsShort (file small : List ℕ) : Type 0 where
  pub short : length file ≤ most_blocks_bytes
  pub is : file ≡ small

is-short : (file small : List ℕ) → short_file file ≡ Ok small → IsShort file small
unfolding short_file
is-short file small e =
    let a = ensure_ok (nat_le (length file) most_blocks_bytes) (OfForm BlocksSize) _ small e in
    record { short = leb-true (length file) most_blocks_bytes a.0; is = same-ok {E = UntoldFault} file small a.1 }

sizes-left : (digest : List ℕ → List ℕ) (m : List (List ℕ × List ℕ)) (ops : List KeyChange) (x : Unit {0})
    → left_test digest m ops ≡ Ok x → sizes_test m 0 ops ≡ Ok tt
unfolding left_test
sizes-left digest m ops x e = (bind_ok _ (λ y. sizes_test m 0 ops) x e).2

pub parts-of : (digest : List ℕ → List ℕ) (bits : ℕ) (m : List (List ℕ × List ℕ)) (stamp : Stamp) (before : List ℕ)
    (cs : List KeyChange) (told : Told) (e : Event) → stamped_event digest bits m stamp before cs told ≡ Ok e
    → Parts digest bits m stamp before cs told e
unfolding stamped_event
parts-of digest bits m stamp before cs told e made =
    let commit = commit_over digest bits stamp told.sig m in
    let a = bind_ok (told_test told stamp.rev) _ e made in
    let b = bind_ok (told_ops cs) _ e a.2 in
    let ops = are-ops cs b.0 b.1 in
    let c = bind_ok (left_test digest m b.0) _ e b.2 in
    let d = bind_ok (short_file (file_of digest bits commit m b.0)) _ e c.2 in
    let file = is-short (file_of digest bits commit m b.0) d.0 d.1 in
    let same : event_of told stamp (cid digest commit) d.0 b.0 before ≡ e = same-ok {E = UntoldFault} (event_of told stamp (cid digest commit) d.0 b.0 before) e d.2 in
    record {
      beside = is-beside told stamp.rev a.0 a.1;
      few = ops.few;
      paths = ops.paths;
      sizes = subst (λ xs. sizes_test m 0 xs ≡ Ok tt) (sym ops.are) (sizes-left digest m b.0 c.0 c.1);
      short = subst (λ xs. length (file_of digest bits commit m xs) ≤ most_blocks_bytes) (sym ops.are) file.short;
      is = ap (λ (xs : List KeyChange). event_of told stamp (cid digest commit) (file_of digest bits commit m xs) xs before) ops.are
          ∙ ap (λ (f : List ℕ). event_of told stamp (cid digest commit) f b.0 before) file.is ∙ same;
    }
