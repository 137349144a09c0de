-- The lines of a report (a choice of this project): words with one space between each two.
use Rattle.std.specs.Prelude.{ℕ, List, [], ◌∷◌, ◌++◌, codes, decimal, Option, Some, None}
use Rattle.std.specs.List.{join_with_byte, flat_map}
use Rattle.spec.specs.Cid.{text}
use Rattle.notices.specs.declared.notice.Notice.{Notice}
use Rattle.host.specs.declared.fault.HostFault.{HostFault}
use Rattle.host.specs.declared.fault.HostFault.TheVariants as faults
use Rattle.scripts.specs.declared.script.Answer.{Answer}
use Rattle.scripts.specs.declared.script.Answer.TheVariants as answers
use Rattle.batches.specs.Names.{refusal_name}
use Rattle.record_forms.specs.Records.{word_of_record}
use Rattle.record_forms.specs.declared.form.Form.{Form}

-- a line of these words
abbrev pub words_line : List (List ℕ) → List ℕ
words_line words = join_with_byte 32 words ++ (10 ∷ [])

-- ---- what each line of a script was answered

-- at which write, from 0, and why; what is no fault of one write stands at 0
abbrev pub refusal_of : {D A : Type 0} → HostFault D A → ℕ × List ℕ
refusal_of faults.NoSuchRepository = (0, codes "NoSuchRepository")
refusal_of (faults.Refused place fault) = (place, refusal_name fault)
refusal_of faults.NoMemory = (0, codes "NoMemory")
refusal_of faults.SeqFull = (0, codes "SeqFull")

abbrev pub refused_line : ℕ → ℕ × List ℕ → List ℕ
refused_line number refusal =
    words_line (decimal number ∷ codes "refused" ∷ decimal refusal.0 ∷ refusal.1 ∷ [])

-- a record that was found, in this form; what has no JSON stands in hexadecimal
abbrev pub found_line : Form → ℕ → List ℕ → List ℕ
found_line form number bytes =
    words_line (decimal number ∷ codes "found" ∷ word_of_record form bytes ∷ [])

-- of the line of this number
abbrev pub answer_line : {D : Type 0} → Form → ℕ → Answer D → List ℕ
answer_line form number (answers.Accepted notice) =
    words_line (decimal number ∷ codes "ok" ∷ decimal notice.number ∷ [])
answer_line form number (answers.Refused fault) = refused_line number (refusal_of fault)
answer_line form number (answers.Found record_bytes) = found_line form number record_bytes.items
answer_line form number answers.Absent = words_line (decimal number ∷ codes "none" ∷ [])

-- of all lines of these numbers
abbrev pub answer_lines : {D : Type 0} → Form → List ℕ → List (Answer D) → List ℕ
answer_lines form [] given = []
answer_lines form (n ∷ ns) [] = []
answer_lines form (n ∷ ns) (a ∷ given) = answer_line form n a ++ answer_lines form ns given

-- ---- what there is in the end

abbrev pub or_none : Option (List ℕ) → List ℕ
or_none None = codes "none"
or_none (Some cid) = text cid

-- a repository: its number, its root, how many writes it has accepted, and its commit
abbrev pub repository_line : ℕ → List ℕ → ℕ → Option (List ℕ) → List ℕ
repository_line number root accepted commit = words_line
    (codes "repo" ∷ decimal number ∷ text root ∷ decimal accepted ∷ or_none commit ∷ [])

-- a block: its CID, and how many repositories have it
abbrev pub block_line : List ℕ × ℕ → List ℕ
block_line e = words_line (codes "block" ∷ text e.0 ∷ decimal e.1 ∷ [])

abbrev pub block_lines : List (List ℕ × ℕ) → List ℕ
block_lines counts = flat_map block_line counts

-- what a writer told of an accepted batch
abbrev pub notice_line : Notice → List ℕ
notice_line n = words_line (codes "notice" ∷ decimal n.writer ∷ decimal n.seq ∷ decimal n.repo
    ∷ decimal n.number ∷ text n.root ∷ [])

abbrev pub notice_lines : List Notice → List ℕ
notice_lines ns = flat_map notice_line ns
