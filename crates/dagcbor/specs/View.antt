-- The value of the data model that a `Value` stands for.
use Rattle.std.specs.Prelude.{ℕ, List, [], ◌∷◌, map}
use Rattle.std.specs.Borrow.{Bor}
use Rattle.spec.specs.DagCbor.{Value as Data, Null, Boolean, Integer, Bytes, Text, Items, Fields, Link, Values, NoValue, ValueThen, Entries, NoEntry, EntryThen}
use Rattle.dagcbor.specs.declared.value.Value.{Value, fold-Value}
use Rattle.dagcbor.specs.declared.value.Value.TheOpen.{Value-F}

abbrev pub values_of : List Data → Values
values_of [] = NoValue
values_of (d ∷ ds) = ValueThen d (values_of ds)

abbrev pub entries_of : List (Bor (List ℕ) × Data) → Entries
entries_of [] = NoEntry
entries_of (m ∷ ms) = EntryThen m.0.now m.1 (entries_of ms)

-- one level, with each value inside already seen as its data
abbrev pub view_step : {A : Type 0} → Value-F A Data → Data
view_step Value-F.Null = Null
view_step (Value-F.Bool b) = Boolean b
view_step (Value-F.Int z) = Integer z
view_step (Value-F.Bytes s) = Bytes s.now
view_step (Value-F.Text s) = Text s.now
view_step (Value-F.List v) = Items (values_of v.items)
view_step (Value-F.Map v) = Fields (entries_of v.items)
view_step (Value-F.Link s) = Link s.now

abbrev pub view : {A : Type 0} → Value A → Data
view {A} = fold-Value A Data view_step

abbrev pub view_items : {A : Type 0} → List (Value A) → Values
view_items vs = values_of (map view vs)

abbrev pub view_fields : {A : Type 0} → List (Bor (List ℕ) × Value A) → Entries
view_fields ms = entries_of (map (λ m. (m.0, view m.1)) ms)
