-- Whether blocks show the operations of a message, as a verifier of changes in the order of their keys says it.
use Rattle.std.proofs.Common.{◌≡◌, ℕ, List, [], map, sym, ap, subst, ◌∙◌, Option, Result, Ok, Err}
use Rattle.std.specs.Prelude.{option_map}
use Rattle.std.specs.declared.option.Option.TheVariants.{Some, None}
use Rattle.spec.specs.Reading.{Fails}
use Rattle.change_laws.specs.Told.{KeyChange}
use Rattle.change_laws.specs.Given as given
use Rattle.change_laws.specs.Verdict.{change_verdict}
use Rattle.event_laws.specs.Verdict.{EventFault, Placed, as_event_fault, of_change, ordered, placed_from}
use Rattle.change_proofs.specs.declared.change_fault.ChangeFault.{ChangeFault}
use Rattle.change_proofs.specs.declared.change_fault.ChangeFault.TheVariants.{BlockMissing, BadNode, TooDeep, NotTree, OtherValue, OtherRoot, NoMemory}
use Rattle.change_proofs.specs.Verdicts.{IsFault, IsVerdict}
use Rattle.commit_events.specs.Views.{change_fault_of}
use Rattle.commit_events.specs.Steps.{shown_by}

-- a fault is the verdict's
fault-fails : {X : Type 0} (gives : List ℕ → Option X) (verdict : Result (Unit {0}) given.ChangeFault) (f : ChangeFault)
    → IsFault gives verdict f → Fails (change_fault_of f) verdict
fault-fails gives verdict (BlockMissing c) h = h.1
fault-fails gives verdict (BadNode c) h = h.1
fault-fails gives verdict TooDeep h = h
fault-fails gives verdict NotTree h = h
fault-fails gives verdict (OtherValue place) h = h
fault-fails gives verdict OtherRoot h = h
fault-fails gives verdict NoMemory h = tt

fails-told : (ds : List Placed) (p : Option given.ChangeFault) (verdict : Result (Unit {0}) given.ChangeFault)
    → Fails p verdict → Fails (option_map (as_event_fault ds) p) (of_change ds verdict)
fails-told ds None verdict h = tt
fails-told ds (Some f) verdict h = ap (of_change ds) h

-- over the same blocks
pub verdict-over : (digest : List ℕ → List ℕ) (bits : ℕ) (before after : List ℕ) (given blocks : List (List ℕ)) (cs : List KeyChange)
    (r : Result (Unit {0}) ChangeFault) → given ≡ blocks → IsVerdict digest bits before after given cs r
    → IsVerdict digest bits before after blocks cs r
verdict-over digest bits before after given blocks cs r same h =
    subst (λ (bs : List (List ℕ)). IsVerdict digest bits before after bs cs r) same h

module _ (digest : List ℕ → List ℕ) (bits : ℕ) (before after : List ℕ) (blocks : List (List ℕ)) (ops : List KeyChange) where
  pub shown-ok : (ds : List Placed) (cs : List KeyChange) → ds ≡ ordered [] (placed_from 0 ops) → cs ≡ map (λ x. x.1) ds
      → (x : Unit {0}) → IsVerdict digest bits before after blocks cs (Ok x)
      → shown_by digest bits before after blocks ops ≡ Ok tt
  unfolding shown_by
  shown-ok ds cs sorted alone x h =
      sym (ap (λ (xs : List Placed). of_change xs (change_verdict digest bits before after blocks (map (λ x. x.1) xs))) sorted)
      ∙ ap (of_change ds) (sym (ap (change_verdict digest bits before after blocks) alone) ∙ h)

  pub shown-fails : (ds : List Placed) (cs : List KeyChange) → ds ≡ ordered [] (placed_from 0 ops) → cs ≡ map (λ x. x.1) ds
      → (f : ChangeFault) (o : Option EventFault) → o ≡ option_map (as_event_fault ds) (change_fault_of f)
      → IsVerdict digest bits before after blocks cs (Err f) → Fails o (shown_by digest bits before after blocks ops)
  unfolding shown_by
  shown-fails ds cs sorted alone f o told h =
      let verdict = change_verdict digest bits before after blocks cs in
      let said = subst (λ (r : Result (Unit {0}) given.ChangeFault). Fails (change_fault_of f) r)
      (ap (change_verdict digest bits before after blocks) alone)
      (fault-fails (given.given_at digest blocks) verdict f h) in
      subst (λ (q : Option EventFault). Fails q (shown_by digest bits before after blocks ops)) (sym told)
      (subst (λ (xs : List Placed). Fails (option_map (as_event_fault ds) (change_fault_of f))
      (of_change xs (change_verdict digest bits before after blocks (map (λ x. x.1) xs)))) sorted
      (fails-told ds (change_fault_of f) (change_verdict digest bits before after blocks (map (λ x. x.1) ds)) said))
