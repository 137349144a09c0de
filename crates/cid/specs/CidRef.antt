-- A lent identifier, seen as its bytes.
use Rattle.std.specs.Prelude.{ℕ, List}
use Rattle.cid.specs.declared.cid_ref.CidRef.{CidRef}

-- the bytes that are lent
abbrev pub bytes_of : CidRef → List ℕ
bytes_of c = c.bytes.now
