-- The message of a state in its steps is the message.
use Rattle.std.proofs.Common.{◌≡◌, ℕ, List, [], ◌++◌, Option, Result, Ok, Err, refl, sym, ap, subst, ◌∙◌, append-nil}
use Rattle.std.specs.declared.option.Option.TheVariants.{Some, None}
use Rattle.spec.specs.Reading.{◌>>=◌, Gives}
use Rattle.spec.specs.Cid.{cid}
use Rattle.spec.specs.Car.{header, sized}
use Rattle.spec.specs.Stamps.{Stamp, Stamped, last, stamp_of}
use Rattle.spec.specs.States.{State, last_stamp, records}
use Rattle.event_laws.specs.Syncs.{SyncEvent, sync_bytes}
use Rattle.event_writing_laws.specs.Telling.{UntoldFault as Untold, NoBatch, or_no_batch}
use Rattle.event_writing_laws.specs.Messages.{commit_over}
use Rattle.event_writing_laws.specs.Syncs.{SyncTold, commit_file, short_commit_file, state_sync, stamped_sync, sync_message, sync_of, sync_test}
use Rattle.event_writing.specs.Syncing.{sync_stamped, sync_with}
use Rattle.event_writing.proofs.WholeMessage.{rebound}

abbrev spelled : SyncEvent → Result (List ℕ) Untold
spelled e = Ok (sync_bytes e)

module _ (digest : List ℕ → List ℕ) (bits : ℕ) (m : List (List ℕ × List ℕ)) (stamp : Stamp) (told : SyncTold) where
  abbrev commit : List ℕ
  commit = commit_over digest bits stamp told.sig m

  of-stamp : (stamped_sync digest bits m stamp told >>= spelled) ≡ sync_stamped digest bits m stamp told
  unfolding stamped_sync sync_stamped sync_with
  of-stamp =
      rebound (sync_test told) (λ x. short_commit_file (commit_file digest commit) >>= (λ file. Ok (sync_of told stamp file))) spelled
      (λ x. short_commit_file (commit_file digest commit) >>= (λ file. Ok (sync_bytes (sync_of told stamp file))))
      (λ x. rebound (short_commit_file (commit_file digest commit)) (λ file. Ok (sync_of told stamp file)) spelled
      (λ file. Ok (sync_bytes (sync_of told stamp file))) (λ file. refl))

  -- what is said of a message, once what stands beside it was tested
  pub tested-sync : {T E : Type 0} (x : Unit {0}) → sync_test told ≡ Ok x → (block : List ℕ) → block ≡ commit
      → (view : T → List ℕ) (fault : E → Option Untold) (r : Result T E) → Gives view fault r (sync_with digest stamp block told)
      → Gives view fault r (sync_stamped digest bits m stamp told)
  unfolding sync_stamped
  tested-sync x tested block are view fault r h =
      let is : sync_stamped digest bits m stamp told ≡ sync_with digest stamp block told =
      ap (λ (t : Result (Unit {0}) Untold). t >>= (λ y. sync_with digest stamp commit told)) tested
      ∙ ap (λ (b : List ℕ). sync_with digest stamp b told) (sym are) in
      subst (λ (t : Result (List ℕ) Untold). Gives view fault r t) (sym is) h

-- the message of a file that was made
pub sync-made : (digest : List ℕ → List ℕ) (stamp : Stamp) (block : List ℕ) (told : SyncTold) (file file2 bytes : List ℕ)
    → short_commit_file (commit_file digest block) ≡ Ok file → file2 ≡ file → bytes ≡ sync_bytes (sync_of told stamp file2)
    → sync_with digest stamp block told ≡ Ok bytes
unfolding sync_with
sync-made digest stamp block told file file2 bytes is f b =
    ap (λ (r : Result (List ℕ) Untold). r >>= (λ (x : List ℕ). Ok (sync_bytes (sync_of told stamp x)))) is
    ∙ ap (λ (x : List ℕ). Ok x) (sym (b ∙ ap (λ (x : List ℕ). sync_bytes (sync_of told stamp x)) f))

-- the header and a section are the file of a block
pub file-of-one : (digest : List ℕ → List ℕ) (v0 v1 v2 name block : List ℕ) → v0 ≡ [] → v1 ≡ v0 ++ header name
    → v2 ≡ v1 ++ sized (name ++ block) → name ≡ cid digest block → v2 ≡ commit_file digest block
file-of-one digest v0 v1 v2 name block e0 e1 e2 n =
    e2 ∙ ap (λ (x : List ℕ). x ++ sized (name ++ block)) (e1 ∙ ap (λ (x : List ℕ). x ++ header name) e0)
    ∙ ap (λ (c : List ℕ). header c ++ sized (c ++ block)) n
    ∙ ap (λ (x : List ℕ). header (cid digest block) ++ x) (sym (append-nil (sized (cid digest block ++ block))))

-- ---- of a state

module _ (digest : List ℕ → List ℕ) (bits : ℕ) (s : State) (told : SyncTold) where
  sync-is : sync_message digest bits s told
      ≡ (or_no_batch (last_stamp s) >>= (λ stamp. sync_stamped digest bits (records s) stamp told))
  unfolding sync_message state_sync
  sync-is =
      rebound (or_no_batch (last_stamp s)) (λ stamp. stamped_sync digest bits (records s) stamp told) spelled
      (λ stamp. sync_stamped digest bits (records s) stamp told) (λ stamp. of-stamp digest bits (records s) stamp told)

  -- of its last batch's stamp
  stamp-is : (ss : List Stamped) (o : Option Stamp) → ss ≡ s.stamps → o ≡ stamp_of (last ss)
      → sync_message digest bits s told ≡ (or_no_batch o >>= (λ stamp. sync_stamped digest bits (records s) stamp told))
  stamp-is ss o same is =
      sync-is ∙ ap (λ (x : Option Stamp). or_no_batch x >>= (λ stamp. sync_stamped digest bits (records s) stamp told))
      (ap (λ (xs : List Stamped). stamp_of (last xs)) (sym same) ∙ sym is)

  pub sync-none : (ss : List Stamped) → ss ≡ s.stamps → ◌≡◌ {A = Option Stamp} None (stamp_of (last ss))
      → sync_message digest bits s told ≡ Err NoBatch
  sync-none ss same is = stamp-is ss None same is

  pub gives-sync : {T E : Type 0} (ss : List Stamped) (stamp : Stamp) → ss ≡ s.stamps
      → ◌≡◌ {A = Option Stamp} (Some stamp) (stamp_of (last ss)) → (view : T → List ℕ) (fault : E → Option Untold) (r : Result T E)
      → Gives view fault r (sync_stamped digest bits (records s) stamp told) → Gives view fault r (sync_message digest bits s told)
  gives-sync ss stamp same is view fault r h =
      subst (λ (m : Result (List ℕ) Untold). Gives view fault r m) (sym (stamp-is ss (Some stamp) same is)) h
