-- What a host writes is taken.
use Rattle.std.proofs.Common.{◌≡◌, ℕ, ◌+◌, ◌^◌, ◌<◌, ◌≤◌, List, [], ◌++◌, length, refl, sym, ap, subst, ◌∙◌, Option, Ok, arith}
use Rattle.std.specs.declared.option.Option.TheVariants.{Some}
use Rattle.std.proofs.lemmas.List.{length-append}
use Rattle.std.proofs.lemmas.List.Elements.{Contains-append_left, Contains-append_right}
use Rattle.std.proofs.lemmas.Slice.Eq.{bytes_eq-Decides}
use Rattle.spec.specs.Reading.{◌>>=◌}
use Rattle.spec.specs.Cid.{IsDigest, cid}
use Rattle.spec.specs.Tree.{Pair}
use Rattle.spec.specs.Blocks.{ArePairs, ClashesWithNone, IsClashFree, nodes, pairs, root}
use Rattle.spec.specs.CarReading.{blocks_of}
use Rattle.spec.specs.Head.{head}
use Rattle.spec.specs.DagCbor.{string}
use Rattle.spec.specs.Stamps.{Stamp}
use Rattle.spec.specs.States.{State, IsLawful, last_stamp, records}
use Rattle.spec.specs.SignedCommits.{Commit, IsCommit, before_did, before_rev, before_sig, last_fields, signed_bytes}
use Rattle.spec.proofs.RecordPairs.{lawful-pairs}
use Rattle.spec.proofs.RootLaws.{in_head, in_tail}
use Rattle.signed_commits.proofs.CommitLaws.{commit-reads_back}
use Rattle.export_laws.specs.SignedCars.{signed_over}
use Rattle.export_laws.proofs.LastStamps.{stamp-good}
use Rattle.export_laws.proofs.LeftRecords.{left-by}
use Rattle.export_laws.proofs.OfOne.{own-cid}
use Rattle.batch_laws.specs.Batch.{AreKeyed}
use Rattle.change_laws.specs.Told.{KeyChange, undone}
use Rattle.change_laws.specs.Laws.{change_path}
use Rattle.change_laws.specs.Verdict.{change_verdict}
use Rattle.change_laws.proofs.Showing.{verdict-complete}
use Rattle.event_laws.specs.Ops.{ops_of}
use Rattle.event_laws.specs.Events.{Event, event_bytes}
use Rattle.event_laws.specs.Verdict.{commit_in, commit_verdict, of_change, ordered, ordered_ops, placed_from, records_test, sections_of, single_keys, unless_doubled}
use Rattle.event_reading_laws.specs.Laws.{IsEvent}
use Rattle.event_reading_laws.proofs.ReadBack.{written-is_read}
use Rattle.event_writing_laws.specs.Telling.{Told, or_no_batch}
use Rattle.event_writing_laws.specs.Messages.{batch_event, commit_over, event_of, file_of, records_left, stamped_event}
use Rattle.event_writing_laws.specs.Laws.{IsBatchFrom, WrittenIsTaken, blocks_told, checked_batch}
use Rattle.event_writing_laws.proofs.InOrder.{in-order, single-ascending}
use Rattle.event_writing_laws.proofs.Kept.{are-ops, differ-kept, keyed-kept}
use Rattle.event_writing_laws.proofs.Lengths.{event-short}
use Rattle.event_writing_laws.proofs.Given.{block-given, from-given, given, has-given, ones-short, sections-read}
use Rattle.event_writing_laws.proofs.Left.{all-records}
use Rattle.event_writing_laws.proofs.Parts.{Parts, are-lawful, parts-of}

few-writes : (n limit : ℕ) → n ≤ limit → limit ≤ 1048576 → n < 2 ^ 64
few-writes n limit a b = omega arith

-- a commit has at least the bytes of its signature
pub sig-within : (c : Commit) → length c.sig ≤ length (signed_bytes c)
unfolding signed_bytes
sig-within c =
    let last = last_fields c.root c.prev in
    let sig = string 2 c.sig in
    let rev = string 3 c.rev in
    let did = string 3 c.did in
    let a = length-append (before_did 6) (did ++ (before_rev ++ (rev ++ (before_sig ++ (sig ++ last))))) in
    let b = length-append did (before_rev ++ (rev ++ (before_sig ++ (sig ++ last)))) in
    let d = length-append before_rev (rev ++ (before_sig ++ (sig ++ last))) in
    let e = length-append rev (before_sig ++ (sig ++ last)) in
    let f = length-append before_sig (sig ++ last) in
    let g = length-append sig last in
    let h = length-append (head 2 (length c.sig)) c.sig in
    omega (arith, a, b, d, e, f, g, h)

pub short-sig : (sig block : ℕ) → sig ≤ block → 36 + block < 2 ^ 63 → sig < 2 ^ 63
short-sig sig block a b = omega arith

module _ (digest : List ℕ → List ℕ) (bits : ℕ) (fits : IsDigest digest) (s : State) (lawful : IsLawful s) (stamp : Stamp)
    (cs : List KeyChange) (keyed : AreKeyed (undone cs)) (told : Told) (old : List Pair)
    (from : IsBatchFrom digest bits s stamp cs told old) (e : Event)
    (parts : Parts digest bits (records s) stamp (root digest bits old) cs told e) where
  abbrev m : List (List ℕ × List ℕ)
  m = records s

  abbrev ops : List KeyChange
  ops = ops_of cs

  abbrev commit : Commit
  commit = signed_over digest bits stamp told.sig m

  abbrev block : List ℕ
  block = commit_over digest bits stamp told.sig m

  -- its nodes and its records
  abbrev others : List (List ℕ)
  others = change_path digest bits ops (pairs digest m) ++ records_left m ops

  abbrev bs : List (List ℕ)
  bs = blocks_told digest bits m stamp cs told

  abbrev file : List ℕ
  file = file_of digest bits block m ops

  abbrev event : Event
  event = event_of told stamp (cid digest block) file ops (root digest bits old)

  new-pairs : ArePairs (pairs digest m)
  new-pairs = lawful-pairs digest fits s.accepted lawful.writes (few-writes (length s.accepted) s.limit lawful.within_limit lawful.limit_fits)

  free : IsClashFree digest bs
  free a b i j same =
      from.free a b (Contains-append_right (nodes digest bits (pairs digest m)) bs a i)
      (Contains-append_right (nodes digest bits (pairs digest m)) bs b j) same

  is-commit : IsCommit commit
  is-commit =
      let good = stamp-good s.stamps stamp lawful.stamps from.stamped in
      let short = (ones-short digest fits (cid digest block) bs parts.short).0 in
      record {
        did = good.0;
        rev = good.1;
        sig = short-sig (length told.sig) (length block) (sig-within commit) short;
        root = own-cid digest _ fits;
        prev = refl;
      }

  keyed-ops : AreKeyed (undone ops)
  keyed-ops = keyed-kept cs keyed

  is-event : IsEvent event
  is-event =
      let differ = differ-kept cs old (pairs digest m) from.differ in
      let good = stamp-good s.stamps stamp lawful.stamps from.stamped in
      let own = own-cid digest block fits in
      let own_before = own-cid digest _ fits in
      let lawful_ops = are-lawful old (pairs digest m) 0 ops from.pairs_are.values new-pairs.values parts.paths (are-ops cs) differ.before differ.after in
      record {
        seq = parts.beside.seq;
        did = good.0;
        commit = own;
        rev = good.1;
        since = parts.beside.since;
        blocks = parts.short;
        few = parts.few;
        ops = lawful_ops;
        time = parts.beside.time;
        before = own_before;
        size = event-short event (record {
          did = good.0;
          commit = own;
          rev = good.1;
          since = parts.beside.since;
          blocks = parts.short;
          few = parts.few;
          ops = lawful_ops;
          time = parts.beside.time;
          before = own_before;
        });
      }

  single : single_keys ops ≡ Ok tt
  single = ap unless_doubled (single-ascending ops keyed-ops.ascending)

  sections : sections_of digest event.commit event.blocks ≡ Ok (given digest fits (cid digest block) bs)
  sections = sections-read digest fits (cid digest block) bs (own-cid digest block fits) parts.short

  committed : commit_in (given digest fits (cid digest block) bs) event ≡ Ok commit
  unfolding commit_in
  committed =
      rw (
        block-given digest fits (cid digest block) bs free block (in_head block others),
        commit-reads_back commit is-commit,
        (bytes_eq-Decides stamp.did stamp.did).1 refl,
        (bytes_eq-Decides stamp.rev stamp.rev).1 refl,
      ) refl

  recorded : records_test (given digest fits (cid digest block) bs) 0 ops ≡ Ok tt
  recorded =
      all-records digest m (given digest fits (cid digest block) bs) 0 ops (left-by s.accepted lawful.writes).good
      (differ-kept cs old (pairs digest m) from.differ).after
      (λ b i. block-given digest fits (cid digest block) bs free b
      (in_tail block b others (Contains-append_right (change_path digest bits ops (pairs digest m)) (records_left m ops) b i)))
      parts.sizes

  clashes-none : ClashesWithNone digest (nodes digest bits (pairs digest m)) (blocks_of (given digest fits (cid digest block) bs))
  clashes-none a b i j same =
      from.free a b (Contains-append_left (nodes digest bits (pairs digest m)) bs a i)
      (Contains-append_right (nodes digest bits (pairs digest m)) bs b (from-given digest fits (cid digest block) bs free b j)) same

  shown : change_verdict digest bits (root digest bits old) commit.root (blocks_of (given digest fits (cid digest block) bs)) ops ≡ Ok tt
  shown =
      verdict-complete digest bits fits old (pairs digest m) from.pairs_are new-pairs
      (blocks_of (given digest fits (cid digest block) bs)) clashes-none ops keyed-ops (differ-kept cs old (pairs digest m) from.differ)
      (λ b i. has-given digest fits (cid digest block) bs free b
      (in_tail block b others (Contains-append_left (change_path digest bits ops (pairs digest m)) (records_left m ops) b i)))

  changes-shown : of_change (ordered [] (placed_from 0 ops)) (change_verdict digest bits (root digest bits old) commit.root
      (blocks_of (given digest fits (cid digest block) bs)) (ordered_ops ops)) ≡ Ok tt
  changes-shown =
      ap (λ (xs : List KeyChange). of_change (ordered [] (placed_from 0 ops)) (change_verdict digest bits (root digest bits old) commit.root (blocks_of (given digest fits (cid digest block) bs)) xs))
      (in-order ops keyed-ops.ascending)
      ∙ ap (of_change (ordered [] (placed_from 0 ops))) shown

  event-taken : commit_verdict digest bits (root digest bits old) (event_bytes event)
      ≡ Ok (checked_batch digest bits m stamp cs told event)
  unfolding commit_verdict
  event-taken =
      rw (
        written-is_read event is-event,
        single,
        (bytes_eq-Decides (root digest bits old) (root digest bits old)).1 refl,
        sections,
        committed,
        recorded,
        changes-shown,
      ) refl

  pub taken : commit_verdict digest bits (root digest bits old) (event_bytes e) ≡ Ok (checked_batch digest bits m stamp cs told e)
  taken =
      subst (λ x. commit_verdict digest bits (root digest bits old) (event_bytes x) ≡ Ok (checked_batch digest bits m stamp cs told x))
      parts.is event-taken

stamped : (digest : List ℕ → List ℕ) (bits : ℕ) (s : State) (stamp : Stamp) (before : List ℕ) (cs : List KeyChange) (told : Told)
    (e : Event) → last_stamp s ≡ Some stamp → batch_event digest bits s before cs told ≡ Ok e
    → stamped_event digest bits (records s) stamp before cs told ≡ Ok e
unfolding batch_event
stamped digest bits s stamp before cs told e is made =
    sym (ap (λ (o : Option Stamp). or_no_batch o >>= (λ (x : Stamp). stamped_event digest bits (records s) x before cs told)) is) ∙ made

pub written-is_taken : WrittenIsTaken
written-is_taken digest bits fits s lawful stamp cs keyed told old from e made =
    taken digest bits fits s lawful stamp cs keyed told old from e
    (parts-of digest bits (records s) stamp (root digest bits old) cs told e
    (stamped digest bits s stamp (root digest bits old) cs told e from.stamped made))
