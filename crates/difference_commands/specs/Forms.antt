-- In which form a file says what a repository has (a choice of this project).
use Rattle.std.specs.Prelude.{ℕ, Bool, false, ◌==◌, List, [], ◌∷◌, take, codes, if◌then◌else◌, Option, Some, None}
use Rattle.std.specs.List.{after_first}
use Rattle.std.specs.Str.{bytes_eq}
use Rattle.console.specs.Lines.{is_space, numbered_lines}
use Rattle.difference_commands.specs.declared.command.Form.{Form}
use Rattle.difference_commands.specs.declared.command.Form.TheVariants as forms

-- the second byte of a CAR begins its header, a map of two; that of a line is none of a key's
abbrev pub begins_car : List ℕ → Bool
begins_car [] = false
begins_car (a ∷ []) = false
begins_car (a ∷ b ∷ file) = b == 0xa2

-- the text of each CID begins so, and no hexadecimal
abbrev pub begins_cid : List ℕ → Bool
begins_cid word = bytes_eq (take 4 word) (codes "bafy")

-- what stands behind the first space of a line
abbrev pub is_pair_line : List ℕ → Bool
is_pair_line l = begins_cid (after_first is_space l)

-- the first line that isn't empty decides
abbrev pub form_of_lines : List (ℕ × List ℕ) → Form
form_of_lines [] = forms.Records
form_of_lines (l ∷ ls) = if is_pair_line l.1 then forms.Listing else forms.Records

abbrev pub form_found : List ℕ → Form
form_found file = if begins_car file then forms.Car else form_of_lines (numbered_lines file)

-- the form that is asked for, or the one that is found out
abbrev pub form_of : Option Form → List ℕ → Form
form_of None file = form_found file
form_of (Some form) file = form
