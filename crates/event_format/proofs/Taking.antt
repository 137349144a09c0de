-- A field taken, and the faults of DAG-CBOR carried on.
use Rattle.std.proofs.Common.{◌≡◌, ℕ, List, Option, Some, None, Result, Ok, Err, sym, ap, ◌∙◌}
use Rattle.std.specs.Prelude.{option_map}
use Rattle.spec.specs.Reading.{Fails}
use Rattle.spec.specs.Head.{CborFault}
use Rattle.spec.specs.DagCbor.{Value, Entries}
use Rattle.event_laws.specs.Fields.{FieldName, field, field_name}
use Rattle.event_laws.specs.Reading.{BadField, Cbor, or_cbor, taken, wanted}

module _ {A : Type 0} (kind : Option Value → Option A) (name : FieldName) (es : Entries) (o : Option Value) (n : List ℕ) where
  pub taken-some : (x : A) → n ≡ field_name name → o ≡ field n es → Some x ≡ kind o → taken kind name es ≡ Ok x
  unfolding taken
  taken-some x is found kind_is =
      ap (λ m. wanted name (kind (field m es))) (sym is) ∙ ap (λ v. wanted name (kind v)) (sym found)
      ∙ ap (wanted name) (sym kind_is)

  pub taken-none : n ≡ field_name name → o ≡ field n es → None ≡ kind o → taken kind name es ≡ Err (BadField name)
  unfolding taken
  taken-none is found kind_is =
      ap (λ m. wanted name (kind (field m es))) (sym is) ∙ ap (λ v. wanted name (kind v)) (sym found)
      ∙ ap (wanted name) (sym kind_is)

pub fails-cbor : (o : Option CborFault) (r : Result Value CborFault) → Fails o r → Fails (option_map Cbor o) (or_cbor r)
fails-cbor None r h = tt
fails-cbor (Some f) r h = ap or_cbor h
