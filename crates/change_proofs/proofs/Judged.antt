-- What the code answers over given blocks is the verdict.
use Rattle.std.proofs.Common.{◌≡◌, ℕ, Bool, true, false, cond, List, [], ◌∷◌, map, refl, sym, ap, subst, ◌∙◌, Option, option_map, Result, Ok, Err}
use Rattle.std.specs.Arc.{arc_value}
use Rattle.std.proofs.Math.Path.{fun_ext}
use Rattle.std.specs.Prelude.{IsSome, if◌then◌else◌}
use Rattle.std.specs.Str.{bytes_eq}
use Rattle.std.specs.declared.option.Option.TheVariants.{Some, None}
use Rattle.std.specs.declared.sync.Arc.{Arc}
use Rattle.spec.specs.Cid.{cid, IsDigest}
use Rattle.spec.specs.Reading.{◌>>=◌}
use Rattle.spec.specs.Layer.{layer}
use Rattle.spec.specs.NodeFormat.{Shape}
use Rattle.edit_laws.specs.Sources.{shown_by}
use Rattle.lookups.specs.Maps.{first_of}
use Rattle.lookups.specs.Steps.{nodes_given}
use Rattle.batch_laws.specs.Batch.{Change, AreKeyed}
use Rattle.batch_laws.specs.Links.{Log, NotShown, LinkTooDeep, Step, Stop, Top, batch_from}
use Rattle.edit.specs.Batches.{answer_of as answer_over}
use Rattle.batch_laws.specs.Counts.{most_from, layers_needed, put_layers}
use Rattle.change_laws.specs.Told.{KeyChange, undone}
use Rattle.change_laws.specs.Within.{is_within}
use Rattle.change_laws.specs.Given.{ChangeFault as GivenFault, NotTree as HasNotTree, given_at, unshown, stop_fault_of, or_stop, batch_over}
use Rattle.change_laws.specs.Verdict.{previous_of, are_told, change_verdict}
use Rattle.change_laws.proofs.Showing.{verdict-sound}
use Rattle.change_proofs.specs.Verdicts.{IsFault, IsSaid, IsSaidOver, IsVerdict, IsRight, judgement, verdict_of, verdict_over}
use Rattle.change_proofs.specs.declared.change_fault.ChangeFault.{ChangeFault}
use Rattle.change_proofs.specs.declared.change_fault.ChangeFault.TheVariants.{BlockMissing, BadNode, TooDeep, NotTree, OtherValue, OtherRoot, NoMemory}

-- ---- given blocks as a source

first-is : {A : Type 0} (digest : List ℕ → List ℕ) (bs : List (Arc (List ℕ) A)) (c : List ℕ)
    → option_map arc_value (first_of digest bs c) ≡ given_at digest (map arc_value bs) c
first-is digest [] c = refl
first-is digest (b ∷ bs) c = at (bytes_eq (cid digest (arc_value b)) c) (first-is digest bs c)
  where
    at : (t : Bool) → option_map arc_value (first_of digest bs c) ≡ given_at digest (map arc_value bs) c
        → option_map arc_value (cond t (Some b) (first_of digest bs c))
        ≡ cond t (Some (arc_value b)) (given_at digest (map arc_value bs) c)
    at true h = refl
    at false h = h

gives-same : {A : Type 0} (digest : List ℕ → List ℕ) (bs : List (Arc (List ℕ) A))
    → ◌≡◌ {A = List ℕ → Option (List ℕ)} (λ c. option_map arc_value (first_of digest bs c))
    (given_at digest (map arc_value bs))
gives-same digest bs = fun_ext (λ c. first-is digest bs c)

shows-same : {A : Type 0} (digest : List ℕ → List ℕ) (bs : List (Arc (List ℕ) A))
    → nodes_given (first_of digest bs) ≡ shown_by (given_at digest (map arc_value bs))
shows-same digest bs = ap shown_by (gives-same digest bs)

-- ---- the batch over given blocks

answer-same : {A : Type 0} (digest : List ℕ → List ℕ) (bits : ℕ) (bs : List (Arc (List ℕ) A)) (cs : List Change)
    (root : List ℕ)
    → answer_over digest bits (first_of digest bs) cs root ≡ batch_over digest bits (given_at digest (map arc_value bs)) cs root
answer-same digest bits bs cs root =
    let lay = layer digest bits in
    ap (λ (s : List ℕ → Option Shape). batch_from digest s lay (layers_needed lay (put_layers lay cs) (s root)) cs root)
    (shows-same digest bs)

unshown-same : {X Y : Type 0} (f : X → Y) (c : List ℕ) (o : Option X) → unshown c o ≡ unshown c (option_map f o)
unshown-same f c None = refl
unshown-same f c (Some x) = refl

-- where it stops is the same fault
fault-same : {A : Type 0} (digest : List ℕ → List ℕ) (bs : List (Arc (List ℕ) A)) (stop : Stop)
    → stop_fault_of (first_of digest bs) stop ≡ stop_fault_of (given_at digest (map arc_value bs)) stop
fault-same digest bs (NotShown c) =
    unshown-same arc_value c (first_of digest bs c) ∙ ap (unshown c) (first-is digest bs c)
fault-same digest bs LinkTooDeep = refl

stop-same : {A : Type 0} (digest : List ℕ → List ℕ) (bs : List (Arc (List ℕ) A)) (step : Step Top)
    → or_stop (first_of digest bs) step ≡ or_stop (given_at digest (map arc_value bs)) step
stop-same digest bs (Ok x) = refl
stop-same digest bs (Err e) = ap (λ f. Err f) (fault-same digest bs e.why)

map-some : {X Y : Type 0} (f : X → Y) (o : Option X) → IsSome o → IsSome (option_map f o)
map-some f None h = absurd cc
map-some f (Some x) h = h

first-given : {A : Type 0} (digest : List ℕ → List ℕ) (bs : List (Arc (List ℕ) A)) (c : List ℕ)
    → IsSome (first_of digest bs c) → IsSome (given_at digest (map arc_value bs) c)
first-given digest bs c h = subst (λ o. IsSome o) (first-is digest bs c) (map-some arc_value (first_of digest bs c) h)

module _ {A : Type 0} (digest : List ℕ → List ℕ) (bits : ℕ) (before after : List ℕ) (bs : List (Arc (List ℕ) A))
    (cs : List KeyChange) where
  abbrev given : List (List ℕ)
  given = map arc_value bs

  abbrev verdict_by : {X : Type 0} → (List ℕ → Option X) → (List ℕ → Option Shape) → Step Top → Result (Unit {0}) GivenFault
  verdict_by gives shows step =
      verdict_of gives (most_from (layer digest bits) (undone cs) (shows after)) step
      (previous_of shows (layer digest bits) (undone cs) (shows after)) cs before

  -- the verdict over these blocks as a source
  verdict-same : verdict_over digest bits (first_of digest bs) before after cs ≡ change_verdict digest bits before after given cs
  unfolding change_verdict
  verdict-same =
      let gives = given_at digest given in
      let shows = nodes_given (first_of digest bs) in
      let step = answer_over digest bits (first_of digest bs) (undone cs) after in
      let most = most_from (layer digest bits) (undone cs) (shows after) in
      ap (λ (t : Result (Top × Log) GivenFault). (if is_within most step then t else Err HasNotTree)
      >>= (λ old. judgement (are_told 0 (previous_of shows (layer digest bits) (undone cs) (shows after)) cs) old.0.0 before))
      (stop-same digest bs step)
      ∙ ap (verdict_by gives shows) (answer-same digest bits bs (undone cs) after)
      ∙ ap (λ (s : List ℕ → Option Shape). verdict_by gives s (batch_over digest bits gives (undone cs) after))
      (shows-same digest bs)

  fault-is : (verdict : Result (Unit {0}) GivenFault) (fault : ChangeFault) → IsFault (first_of digest bs) verdict fault
      → IsFault (given_at digest given) verdict fault
  fault-is verdict (BlockMissing c) h = (sym (first-is digest bs c) ∙ ap (option_map arc_value) h.0, h.1)
  fault-is verdict (BadNode c) h = (first-given digest bs c h.0, h.1)
  fault-is verdict TooDeep h = h
  fault-is verdict NotTree h = h
  fault-is verdict (OtherValue place) h = h
  fault-is verdict OtherRoot h = h
  fault-is verdict NoMemory h = tt

  said-is : (verdict : Result (Unit {0}) GivenFault) (result : Result (Unit {0}) ChangeFault)
      → IsSaid (first_of digest bs) verdict result → IsSaid (given_at digest given) verdict result
  said-is verdict (Ok x) h = h
  said-is verdict (Err fault) h = fault-is verdict fault h

  pub verdict-is : (result : Result (Unit {0}) ChangeFault)
      → IsSaidOver digest bits (first_of digest bs) before after cs result
      → IsVerdict digest bits before after given cs result
  verdict-is result h =
      said-is (change_verdict digest bits before after given cs) result
      (subst (λ (v : Result (Unit {0}) GivenFault). IsSaid (first_of digest bs) v result) verdict-same h)

-- ---- what the verdict means

module _ (digest : List ℕ → List ℕ) (bits : ℕ) (fits : IsDigest digest) (before after : List ℕ) (given : List (List ℕ))
    (cs : List KeyChange) (keyed : AreKeyed (undone cs)) where
  pub verdict-right : (result : Result (Unit {0}) ChangeFault) → IsVerdict digest bits before after given cs result
      → IsRight digest bits before after given cs result
  verdict-right (Ok x) h new are is free =
      verdict-sound digest bits fits before new are given free cs keyed
      (subst (λ a. change_verdict digest bits before a given cs ≡ Ok tt) is h)
  verdict-right (Err fault) h new are is free = tt
