-- Lines of an input, and words in them (a choice of this project).
use Rattle.std.specs.Prelude.{ℕ, ◌+◌, Bool, List, [], ◌∷◌, ◌==◌, map, Option, Some, None, Result, Ok, Err}
use Rattle.bstr.specs.Text.{lines_of, without_terminator}
use Rattle.hex.specs.Hex.{decode_of}

-- the lines, each without the LF or CR LF that ends it; a last line needs no end
abbrev pub lines : List ℕ → List (List ℕ)
lines input = map without_terminator (lines_of input)

-- those of some lines that aren't empty, each with its number, where the first of all has the number n
abbrev pub numbered : ℕ → List (List ℕ) → List (ℕ × List ℕ)
numbered n [] = []
numbered n ([] ∷ ls) = numbered (n + 1) ls
numbered n ((c ∷ l) ∷ ls) = (n, c ∷ l) ∷ numbered (n + 1) ls

-- the lines of an input that aren't empty, each with its number, from 1
abbrev pub numbered_lines : List ℕ → List (ℕ × List ℕ)
numbered_lines input = numbered 1 (lines input)

-- what parts the words of a line
abbrev pub is_space : ℕ → Bool
is_space c = c == 32

-- what was read, if anything was
abbrev pub if_read : {A E : Type 0} → Result A E → Option A
if_read (Ok x) = Some x
if_read (Err e) = None

-- the bytes of a word in hexadecimal, in either case; an empty word has none
abbrev pub bytes_of_hex : List ℕ → Option (List ℕ)
bytes_of_hex [] = None
bytes_of_hex (c ∷ word) = if_read (decode_of (c ∷ word))
