-- The faults of the code are the definition's.
use Rattle.std.specs.Prelude.{Option, Some}
use Rattle.spec.specs.Cid.{CidFault as Fault, BadLength as TheLength, BadPrefix as ThePrefix, BadLetter as TheLetter, BadBits as TheBits, NotThisProfile as TheProfile}
use Rattle.cid.specs.declared.cid_fault.CidFault.{CidFault}
use Rattle.cid.specs.declared.cid_fault.CidFault.TheVariants.{BadLength, BadPrefix, BadLetter, BadBits, NotThisProfile}

abbrev pub cid_fault_of : CidFault → Option Fault
cid_fault_of BadLength = Some TheLength
cid_fault_of BadPrefix = Some ThePrefix
cid_fault_of BadLetter = Some TheLetter
cid_fault_of BadBits = Some TheBits
cid_fault_of NotThisProfile = Some TheProfile
