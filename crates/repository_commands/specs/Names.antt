-- The names of faults, as standard error shows them (a choice of this project): a fault inside a fault
-- stands in parentheses, and so does the CID of the block that a fault names.
use Rattle.std.specs.Prelude.{ℕ, List, ◌++◌, codes, decimal, string_bytes}
use Rattle.spec.specs.Cid.{text}
use Rattle.batches.specs.Names.{refusal_name}
use Rattle.change_proofs.specs.declared.change_fault.ChangeFault.{ChangeFault}
use Rattle.change_proofs.specs.declared.change_fault.ChangeFault.TheVariants as of_change
use Rattle.cid.specs.declared.cid_fault.CidFault.{CidFault}
use Rattle.cid.specs.declared.cid_fault.CidFault.TheVariants as of_cid
use Rattle.export.specs.declared.proof_fault.ProofFault.{ProofFault}
use Rattle.export.specs.declared.proof_fault.ProofFault.TheVariants as of_proof
use Rattle.node.specs.declared.fault.NodeFault.{NodeFault}
use Rattle.node.specs.declared.fault.NodeFault.TheVariants as of_node
use Rattle.record_forms.specs.Names.{json_fault_text}
use Rattle.repository_commands.specs.declared.fault.TextFault.{TextFault}
use Rattle.repository_commands.specs.declared.fault.TextFault.TheVariants as of_text
use Rattle.repository_commands.specs.declared.fault.LineFault.{LineFault}
use Rattle.repository_commands.specs.declared.fault.LineFault.TheVariants as of_line

-- ---- what standard error is told

abbrev pub root_fault_name : CidFault → List ℕ
root_fault_name of_cid.BadLength = codes "BadLength"
root_fault_name of_cid.BadPrefix = codes "BadPrefix"
root_fault_name of_cid.BadLetter = codes "BadLetter"
root_fault_name of_cid.BadBits = codes "BadBits"
root_fault_name of_cid.NotThisProfile = codes "NotThisProfile"

abbrev pub node_fault_name : NodeFault → List ℕ
node_fault_name of_node.NotNode = codes "NotNode"
node_fault_name of_node.BadPrefix = codes "BadPrefix"
node_fault_name of_node.KeyOrder = codes "KeyOrder"
node_fault_name of_node.KeyLength = codes "KeyLength"

abbrev pub bad_node_name : NodeFault → List ℕ
bad_node_name fault = codes "BadNode(" ++ node_fault_name fault ++ codes ")"

abbrev pub proof_fault_name : ProofFault → List ℕ
proof_fault_name of_proof.BlockMissing = codes "BlockMissing"
proof_fault_name (of_proof.BadNode fault) = bad_node_name fault
proof_fault_name of_proof.TooDeep = codes "TooDeep"
proof_fault_name of_proof.KeyLength = codes "KeyLength"

abbrev pub line_fault_name : {D A : Type 0} → LineFault D A → List ℕ
line_fault_name of_line.BadLine = codes "BadLine"
line_fault_name (of_line.BadJson kind path) = json_fault_text kind (string_bytes path)
line_fault_name (of_line.Refused fault) = refusal_name fault
line_fault_name of_line.OtherValue = codes "OtherValue"

abbrev pub change_fault_name : ChangeFault → List ℕ
change_fault_name (of_change.BlockMissing c) = codes "BlockMissing(" ++ (text c ++ codes ")")
change_fault_name (of_change.BadNode c) = codes "BadNode(" ++ (text c ++ codes ")")
change_fault_name of_change.TooDeep = codes "TooDeep"
change_fault_name of_change.NotTree = codes "NotTree"
change_fault_name (of_change.OtherValue place) = codes "OtherValue"
change_fault_name of_change.OtherRoot = codes "OtherRoot"
change_fault_name of_change.NoMemory = codes "NoMemory"

-- what is wrong with the line of this number
abbrev pub of_line_number : ℕ → List ℕ → List ℕ
of_line_number n name = codes "line " ++ (decimal n ++ (codes ": " ++ name))

abbrev pub fault_text : {D A : Type 0} → TextFault D A → List ℕ
fault_text of_text.BadDid = codes "BadDid"
fault_text of_text.BadRev = codes "BadRev"
fault_text of_text.BadSig = codes "BadSig"
fault_text of_text.NothingToSign = codes "NothingToSign"
fault_text (of_text.Root fault) = root_fault_name fault
fault_text (of_text.BadBefore fault) = codes "BadBefore(" ++ (root_fault_name fault ++ codes ")")
fault_text (of_text.BadAfter fault) = codes "BadAfter(" ++ (root_fault_name fault ++ codes ")")
fault_text (of_text.Proof fault) = proof_fault_name fault
fault_text of_text.OtherBefore = codes "OtherBefore"
fault_text of_text.OtherAfter = codes "OtherAfter"
fault_text (of_text.Change fault) = change_fault_name fault
fault_text (of_text.Line n fault) = of_line_number n (line_fault_name fault)
fault_text of_text.NoMemory = codes "no memory"
fault_text of_text.ReadFailed = codes "read failed"
