-- The message of a batch that isn't accepted yet is taken.
use Rattle.std.proofs.Common.{◌≡◌, ℕ, ◌^◌, ◌<◌, ◌≤◌, List, [], ◌∷◌, ◌++◌, length, map, refl, sym, ap, subst, ◌∙◌, Option, Ok, arith}
use Rattle.std.specs.List.{AllByRecursion}
use Rattle.std.specs.declared.option.Option.TheVariants.{Some}
use Rattle.spec.specs.Cid.{IsDigest}
use Rattle.spec.specs.Tree.{Pair}
use Rattle.spec.specs.Blocks.{ArePairs, pairs, root, value_of}
use Rattle.spec.specs.Stamps.{Stamp, Stamped, stamp_of}
use Rattle.spec.specs.Writes.{Write}
use Rattle.spec.specs.States.{State, IsLawful, after_batch, last_stamp, records, state_root}
use Rattle.spec.proofs.RecordPairs.{lawful-pairs}
use Rattle.spec.proofs.StampLaws.{last-push}
use Rattle.batch_laws.specs.Batch.{Change, AreAscending, AreKeyed, IsLater, changed}
use Rattle.batch_laws.specs.Collecting.{collected, with_cids}
use Rattle.change_laws.specs.Told.{DifferBy, undone}
use Rattle.change_laws.proofs.Undone.{undone-differ}
use Rattle.step_laws.specs.Turned.{done, turned}
use Rattle.step_laws.proofs.Turning.{differ-turned, undone-turned}
use Rattle.repo.proofs.Exchanging.{pairs-changed_after}
use Rattle.event_writing_laws.specs.Telling.{Told}
use Rattle.event_writing_laws.specs.Signed.{batch_changes, signed_message, told_change}
use Rattle.event_writing.specs.Signing.{IsSignedTaken}
use Rattle.event_writing.proofs.WholeMessage.{is-taken}

-- ---- changes with what their keys had

module _ (es : List Pair) where
  done-told : (cs : List Change) → done (map (told_change es) cs) ≡ cs
  done-told [] = refl
  done-told (c ∷ cs) = ap (λ (ds : List Change). c ∷ ds) (done-told cs)

  later-told : (key : List ℕ) (cs : List Change) → AllByRecursion (IsLater key) (undone (map (told_change es) cs))
      → AllByRecursion (IsLater key) cs
  later-told key [] h = tt
  later-told key (c ∷ cs) h = (h.0, later-told key cs h.1)

  ascends-told : (cs : List Change) → AreAscending (undone (map (told_change es) cs)) → AreAscending cs
  ascends-told [] h = tt
  ascends-told (c ∷ cs) h = (later-told c.0 cs h.0, ascends-told cs h.1)

  had-told : (cs : List Change) → AllByRecursion (λ c. value_of c.key es ≡ c.after) (turned (map (told_change es) cs))
  had-told [] = tt
  had-told (c ∷ cs) = (refl, had-told cs)

  differ-told : (cs : List Change) → AreAscending cs → ArePairs es → DifferBy (map (told_change es) cs) es (changed cs es)
  differ-told cs ascends are =
      let told = map (told_change es) cs in
      let is : undone (turned told) ≡ cs = undone-turned told ∙ done-told cs in
      differ-turned told es (changed cs es) (subst (λ (us : List Change). DifferBy (turned told) (changed us es) es) is
      (undone-differ (turned told) es (subst AreAscending (sym is) ascends) are (had-told cs)))

-- ---- of a batch

few : (n limit : ℕ) → n ≤ limit → limit ≤ 1048576 → n < 2 ^ 64
few n limit a b = omega arith

-- its stamp is the last one after it
pub last-after : (s : State) (stamp : Stamp) (batch : List Write) → last_stamp (after_batch s stamp batch) ≡ Some stamp
last-after s stamp batch =
    ap (λ (o : Option Stamped). stamp_of o) (last-push s.stamps (stamp, length (s.accepted ++ batch)))

pub signed-taken : (digest : List ℕ → List ℕ) (bits : ℕ) → IsDigest digest → (s : State) (stamp : Stamp) (batch : List Write)
    → IsLawful s → IsLawful (after_batch s stamp batch) → AreKeyed (undone (batch_changes digest s batch)) → (told : Told) (message : List ℕ)
    → signed_message digest bits s stamp batch told ≡ Ok message → IsSignedTaken digest bits s stamp batch told message
signed-taken digest bits fits s stamp batch lawful after keyed told message is free e made =
    let es = pairs digest (records s) in
    let cs = with_cids digest (collected batch) in
    let are = lawful-pairs digest fits s.accepted lawful.writes (few _ s.limit lawful.within_limit lawful.limit_fits) in
    is-taken digest bits fits (after_batch s stamp batch) after (state_root digest bits s) (batch_changes digest s batch) keyed told
    message is stamp es refl
    (record {
      stamped = last-after s stamp batch;
      pairs_are = are;
      differ = subst (λ (ps : List Pair). DifferBy (batch_changes digest s batch) es ps) (pairs-changed_after digest s batch)
          (differ-told es cs (ascends-told es cs keyed.ascending) are);
      free = free;
    })
    e made
