-- What the message of a state says.
use Rattle.std.proofs.Common.{◌≡◌, ℕ, ◌^◌, ◌<◌, ◌≤◌, true, List, [], ◌∷◌, length, refl, sym, ap, subst, ◌∙◌, Option, Result, Ok, arith}
use Rattle.std.specs.Prelude.{nat_le, nat_lt, pos}
use Rattle.std.specs.declared.option.Option.TheVariants.{Some}
use Rattle.std.specs.Str.{is_utf8, chars}
use Rattle.std.specs.Char.{encode_utf8}
use Rattle.std.proofs.lemmas.Bool.{leb-true, lt-ltb, ltb-true}
use Rattle.spec.specs.Reading.{◌>>=◌}
use Rattle.spec.specs.Cid.{IsDigest, cid}
use Rattle.spec.specs.DagCbor.{Fields, Integer, Text, fits_length, is_lawful, is_lawful_within}
use Rattle.spec.specs.Stamps.{Stamp}
use Rattle.spec.specs.SignedCommits.{Commit}
use Rattle.spec.specs.States.{State, IsLawful, last_stamp, records}
use Rattle.spec.proofs.Bools.{and}
use Rattle.spec.proofs.DagCborLaws.{read-spelling}
use Rattle.spec.proofs.Taking.{bind_ok, ensure_ok}
use Rattle.signed_commits.proofs.CommitLaws.{commit-reads_back}
use Rattle.spec.proofs.CommitLaws.{did-lawful, rev-lawful}
use Rattle.export_laws.specs.SignedCars.{signed_over}
use Rattle.export_laws.proofs.LastStamps.{stamp-good}
use Rattle.export_laws.proofs.OfOne.{own-cid}
use Rattle.event_times.specs.Times.{is_time}
use Rattle.event_laws.specs.Reading.{BadTime, BlocksSize}
use Rattle.event_laws.specs.Syncs.{SyncEvent, fields_of_sync, most_sync_bytes}
use Rattle.event_reading_laws.proofs.Texts.{time-lawful}
use Rattle.event_writing_laws.specs.Telling.{UntoldFault, BadSeq, OfForm, or_no_batch}
use Rattle.event_writing_laws.specs.Messages.{commit_over}
use Rattle.event_writing_laws.specs.Syncs.{SyncTold, commit_file, short_commit_file, stamped_sync, state_sync, sync_of, sync_test}
use Rattle.event_writing_laws.specs.SyncLaws.{SaysState, SyncSaysState}
use Rattle.event_writing_laws.proofs.Given.{ones-short, sections-read}
use Rattle.event_writing_laws.proofs.Left.{ensured}
use Rattle.event_writing_laws.proofs.Taken.{short-sig, sig-within}

same-ok : {A : Type 0} (x y : A) → ◌≡◌ {A = Result A UntoldFault} (Ok x) (Ok y) → x ≡ y
same-ok x y e = cc

-- ---- what was tested

pub record IsTested (digest : List ℕ → List ℕ) (commit : List ℕ) (stamp : Stamp) (told : SyncTold) (e : SyncEvent) : Type 0 where
  pub seq : told.seq < 2 ^ 63
  pub time : is_time told.time ≡ true
  pub short : length (commit_file digest commit) ≤ most_sync_bytes
  pub is : sync_of told stamp (commit_file digest commit) ≡ e

beside : (told : SyncTold) (x : Unit {0}) → sync_test told ≡ Ok x → (told.seq < 2 ^ 63) × (is_time told.time ≡ true)
unfolding sync_test
beside told x e =
    let a = ensure_ok (nat_lt told.seq (2 ^ 63)) BadSeq _ x e in
    (ltb-true told.seq (2 ^ 63) a.0, ensured (is_time told.time) (OfForm BadTime) x a.1)

short-is : (file small : List ℕ) → short_commit_file file ≡ Ok small → (length file ≤ most_sync_bytes) × (file ≡ small)
unfolding short_commit_file
short-is file small e =
    let a = ensure_ok (nat_le (length file) most_sync_bytes) (OfForm BlocksSize) _ small e in
    (leb-true (length file) most_sync_bytes a.0, same-ok file small a.1)

tested : (digest : List ℕ → List ℕ) (bits : ℕ) (m : List (List ℕ × List ℕ)) (stamp : Stamp) (told : SyncTold) (e : SyncEvent)
    → stamped_sync digest bits m stamp told ≡ Ok e → IsTested digest (commit_over digest bits stamp told.sig m) stamp told e
unfolding stamped_sync
tested digest bits m stamp told e made =
    let commit = commit_over digest bits stamp told.sig m in
    let a = bind_ok (sync_test told) _ e made in
    let b = bind_ok (short_commit_file (commit_file digest commit)) (λ file. Ok (sync_of told stamp file)) e a.2 in
    let two = beside told a.0 a.1 in
    let file = short-is (commit_file digest commit) b.0 b.1 in
    record {
      seq = two.0;
      time = two.1;
      short = file.0;
      is = ap (λ (f : List ℕ). sync_of told stamp f) file.1 ∙ same-ok (sync_of told stamp b.0) e b.2;
    }

-- ---- its fields

fields-lawful : (e : SyncEvent) → is_lawful_within 63 (Text e.did) ≡ true → is_lawful_within 63 (Text e.rev) ≡ true → e.seq < 2 ^ 63
    → is_time e.time ≡ true → length e.blocks ≤ most_sync_bytes → is_lawful (Fields (fields_of_sync e)) ≡ true
unfolding is_utf8 chars encode_utf8
fields-lawful e did rev seq time short =
    let long : length e.blocks < 2 ^ 64 = omega (arith, short) in
    and (is_lawful_within 63 (Text e.did)) _ did
    (and (is_lawful_within 63 (Text e.rev)) _ rev
    (and (is_lawful_within 63 (Integer (pos e.seq))) _ (lt-ltb e.seq (2 ^ 63) seq)
    (and (is_lawful_within 63 (Text e.time)) _ (time-lawful e.time time)
    (and (fits_length e.blocks) _ (lt-ltb (length e.blocks) (2 ^ 64) long) refl))))

-- ---- the whole

shorter : (n : ℕ) → n ≤ 10000 → n ≤ 2000000
shorter n h = omega arith

module _ (digest : List ℕ → List ℕ) (bits : ℕ) (fits : IsDigest digest) (s : State) (lawful : IsLawful s) (stamp : Stamp)
    (stamped : last_stamp s ≡ Some stamp) (told : SyncTold) where
  abbrev commit : Commit
  commit = signed_over digest bits stamp told.sig (records s)

  abbrev block : List ℕ
  block = commit_over digest bits stamp told.sig (records s)

  abbrev event : SyncEvent
  event = sync_of told stamp (commit_file digest block)

  says : IsTested digest block stamp told event → SaysState digest bits s stamp told event
  says is =
      let good = stamp-good s.stamps stamp lawful.stamps stamped in
      let small = shorter (length (commit_file digest block)) is.short in
      let one = (ones-short digest fits (cid digest block) (block ∷ []) small).0 in
      record {
        fields = read-spelling (Fields (fields_of_sync event))
            (fields-lawful event (did-lawful stamp.did good.0) (rev-lawful stamp.rev good.1) is.seq is.time is.short);
        did = refl;
        rev = refl;
        short = is.short;
        sections = sections-read digest fits (cid digest block) (block ∷ []) (own-cid digest block fits) small;
        commit = commit-reads_back commit (record {
          did = good.0;
          rev = good.1;
          sig = short-sig (length told.sig) (length block) (sig-within commit) one;
          root = own-cid digest _ fits;
          prev = refl;
        });
      }

stamped-is : (digest : List ℕ → List ℕ) (bits : ℕ) (s : State) (stamp : Stamp) (told : SyncTold) (e : SyncEvent)
    → last_stamp s ≡ Some stamp → state_sync digest bits s told ≡ Ok e → stamped_sync digest bits (records s) stamp told ≡ Ok e
unfolding state_sync
stamped-is digest bits s stamp told e is made =
    sym (ap (λ (o : Option Stamp). or_no_batch o >>= (λ (x : Stamp). stamped_sync digest bits (records s) x told)) is) ∙ made

pub sync-says : SyncSaysState
sync-says digest bits fits s lawful stamp stamped told e made =
    let is = tested digest bits (records s) stamp told e (stamped-is digest bits s stamp told e stamped made) in
    subst (λ (x : SyncEvent). SaysState digest bits s stamp told x) is.is
    (says digest bits fits s lawful stamp stamped told
    (record { seq = is.seq; time = is.time; short = is.short; is = refl }))
