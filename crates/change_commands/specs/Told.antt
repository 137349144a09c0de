-- What the lines of `verify-change` say: two roots, changes of keys, and blocks (a choice of this project).
use Rattle.std.specs.Prelude.{ℕ, ◌+◌, Bool, false, List, [], ◌∷◌, ◌++◌, codes, if◌then◌else◌, Option, Some, None, Result, Ok, Err}
use Rattle.std.specs.List.{before_first, after_first}
use Rattle.std.specs.Str.{bytes_eq}
use Rattle.spec.specs.Reading.{◌>>=◌}
use Rattle.spec.specs.Cid.{CidFault, cid_of_text}
use Rattle.key_changes.specs.Keyed.{are_changes}
use Rattle.change_laws.specs.Told.{KeyChange, undone}
use Rattle.console.specs.Lines.{is_space, bytes_of_hex}
use Rattle.repository_commands.specs.Faults.{Fault, Line, BadLine}

-- ---- the words of a change

-- the CID of a text, where it is one
abbrev pub cid_or_none : Result (List ℕ) CidFault → Option (List ℕ)
cid_or_none (Ok c) = Some c
cid_or_none (Err f) = None

abbrev pub some_value : Option (List ℕ) → Option (Option (List ℕ))
some_value None = None
some_value (Some c) = Some (Some c)

-- the CID of a text, or none for `-`
abbrev pub value_of_word : List ℕ → Option (Option (List ℕ))
value_of_word word =
    if bytes_eq word (codes "-") then Some None else some_value (cid_or_none (cid_of_text word))

abbrev pub change_of_values : List ℕ → Option (Option (List ℕ)) → Option (Option (List ℕ)) → Option KeyChange
change_of_values key None after = None
change_of_values key (Some b) None = None
change_of_values key (Some b) (Some a) = Some (record { key = key; before = b; after = a })

-- a key and two values, parted by one space each
abbrev pub change_of_words : List ℕ → Option KeyChange
change_of_words words =
    let values = after_first is_space words in
    change_of_values (before_first is_space words) (value_of_word (before_first is_space values))
    (value_of_word (after_first is_space values))

-- ---- one line

-- what some lines say
pub record Parts : Type 0 where
  pub before : Option (List ℕ)
  pub after : Option (List ℕ)
  pub changes : List KeyChange
  pub numbers : List ℕ
  pub blocks : List (List ℕ)

abbrev pub no_parts : Parts
no_parts = record { before = None; after = None; changes = []; numbers = []; blocks = [] }

-- with a root
abbrev pub with_before : Parts → Option (List ℕ) → Option Parts
with_before p None = None
with_before p (Some c) = Some (record p { before = Some c })

abbrev pub with_after : Parts → Option (List ℕ) → Option Parts
with_after p None = None
with_after p (Some c) = Some (record p { after = Some c })

-- With a change, which comes before all blocks. Its key has 1 to 1,024 bytes, and comes behind those of the others.
abbrev pub may_follow : List (List ℕ) → List KeyChange → Bool
may_follow [] cs = are_changes (undone cs)
may_follow (b ∷ bs) cs = false

abbrev pub with_change : Parts → ℕ → Option KeyChange → Option Parts
with_change p n None = None
with_change p n (Some c) =
    if may_follow p.blocks (p.changes ++ c ∷ [])
    then Some (record p { changes = p.changes ++ c ∷ []; numbers = p.numbers ++ n ∷ [] })
    else None

-- with a block
abbrev pub with_block : Parts → Option (List ℕ) → Option Parts
with_block p None = None
with_block p (Some b) = Some (record p { blocks = p.blocks ++ b ∷ [] })

-- behind both roots a line `change KEY BEFORE AFTER`, or a block in hexadecimal
abbrev pub with_shown : Parts → ℕ → List ℕ → Option Parts
with_shown p n l =
    if bytes_eq (before_first is_space l) (codes "change")
    then with_change p n (change_of_words (after_first is_space l))
    else with_block p (bytes_of_hex l)

abbrev pub with_line_after : Option (List ℕ) → Option (List ℕ) → Parts → ℕ → List ℕ → Option Parts
with_line_after None after p n l = with_before p (cid_or_none (cid_of_text l))
with_line_after (Some b) None p n l = with_after p (cid_or_none (cid_of_text l))
with_line_after (Some b) (Some a) p n l = with_shown p n l

-- with a line of this number, where it is one that may come next
abbrev pub with_told_line : Parts → ℕ → List ℕ → Option Parts
with_told_line p n l = with_line_after p.before p.after p n l

-- ---- all lines

-- both roots, the changes with the numbers of their lines, and the blocks
pub record Told : Type 0 where
  pub before : List ℕ
  pub after : List ℕ
  pub changes : List KeyChange
  pub numbers : List ℕ
  pub blocks : List (List ℕ)

-- where a root is missing, the line behind the last is at fault
abbrev pub told_of : ℕ → Option (List ℕ) → Option (List ℕ) → Parts → Result Told Fault
told_of n None after p = Err (Line n BadLine)
told_of n (Some b) None p = Err (Line n BadLine)
told_of n (Some b) (Some a) p = Ok (record {
  before = b;
  after = a;
  changes = p.changes;
  numbers = p.numbers;
  blocks = p.blocks;
})

abbrev pub or_bad_part : ℕ → Option Parts → Result Parts Fault
or_bad_part n None = Err (Line n BadLine)
or_bad_part n (Some p) = Ok p

-- what the lines from this number on say behind some, or the first that may not come there
unfoldable pub told_from : Parts → ℕ → List (List ℕ) → Result Told Fault
told_from p n [] = told_of n p.before p.after p
told_from p n ([] ∷ ls) = told_from p (n + 1) ls
told_from p n ((c ∷ l) ∷ ls) = do
  q ← or_bad_part n (with_told_line p n (c ∷ l))
  told_from q (n + 1) ls

-- of the lines of a text
abbrev pub told_in : List (List ℕ) → Result Told Fault
told_in ls = told_from no_parts 1 ls
