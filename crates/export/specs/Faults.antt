-- The definitions' fault that a `ProofFault` is.
use Rattle.std.specs.Prelude.{Option, Some, option_map}
use Rattle.spec.specs.Proof as proof
use Rattle.node.specs.Fault as nodes
use Rattle.export.specs.declared.proof_fault.ProofFault.{ProofFault}
use Rattle.export.specs.declared.proof_fault.ProofFault.TheVariants as errors

abbrev pub proof_fault_of : ProofFault → Option proof.ProofFault
proof_fault_of errors.BlockMissing = Some proof.BlockMissing
proof_fault_of (errors.BadNode f) = option_map proof.BadNode (nodes.node_fault_of f)
proof_fault_of errors.TooDeep = Some proof.TooDeep
proof_fault_of errors.KeyLength = Some proof.KeyLength
