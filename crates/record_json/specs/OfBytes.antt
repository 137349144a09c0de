-- Values of bytes.
use Rattle.std.specs.Prelude.{⊤}
use Rattle.spec.specs.Reading.{IsBytes}
use Rattle.spec.specs.DagCbor.{Value, Null, Boolean, Integer, Bytes, Text, Items, Fields, Link, Values, NoValue, ValueThen, Entries, NoEntry, EntryThen}

-- each number in its byte strings and CIDs is a byte, as it is in each value of a program
abbrev mutual
  pub IsOfBytes : Value → Type 0
  IsOfBytes Null = ⊤
  IsOfBytes (Boolean b) = ⊤
  IsOfBytes (Integer z) = ⊤
  IsOfBytes (Bytes b) = IsBytes b
  IsOfBytes (Text t) = ⊤
  IsOfBytes (Items vs) = AreOfBytes vs
  IsOfBytes (Fields es) = EntriesAreOfBytes es
  IsOfBytes (Link c) = IsBytes c

  pub AreOfBytes : Values → Type 0
  AreOfBytes NoValue = ⊤
  AreOfBytes (ValueThen v vs) = IsOfBytes v × AreOfBytes vs

  pub EntriesAreOfBytes : Entries → Type 0
  EntriesAreOfBytes NoEntry = ⊤
  EntriesAreOfBytes (EntryThen k v es) = IsOfBytes v × EntriesAreOfBytes es
