-- Lines `KEY HEX` or `KEY JSON`, each of which puts a record under a key (a choice of this project).
use Rattle.std.specs.Prelude.{ℕ, List, [], ◌∷◌, ◌++◌, Option, Some, None, Result, Ok, Err}
use Rattle.std.specs.List.{before_first, after_first}
use Rattle.spec.specs.Writes.{Write, Put}
use Rattle.console.specs.Lines.{numbered_lines, is_space}
use Rattle.record_forms.specs.Records.{WordFault, BadWord, record_of_word}
use Rattle.record_forms.specs.declared.form.Form.{Form}

-- the put of a key and of the bytes of its record; an empty key is none, and nor is one without bytes
abbrev pub put_of : List ℕ → Result (List ℕ) WordFault → Result Write WordFault
put_of [] read = Err BadWord
put_of (c ∷ key) (Err f) = Err f
put_of (c ∷ key) (Ok bytes) = Ok (Put (c ∷ key) bytes)

-- The key is all before the first space, and the record all after it. So in hexadecimal a third word is
-- no digit, and there is no put; in JSON there may be spaces.
abbrev pub put_of_line : Form → List ℕ → Result Write WordFault
put_of_line form l =
    put_of (before_first is_space l) (record_of_word form (after_first is_space l))

-- the puts of some lines, up to the first line that is none: the number of each put's line, the puts,
-- and the line that is none, where there is one: its number, and what is wrong with it
pub record Given : Type 0 where
  pub numbers : List ℕ
  pub writes : List Write
  pub stop : Option (ℕ × WordFault)

-- of no line
abbrev pub nothing_given : Given
nothing_given = record { numbers = []; writes = []; stop = None }

-- with one more, of this line
abbrev pub added : Given → ℕ → Write → Given
added g n w = record { numbers = g.numbers ++ n ∷ []; writes = g.writes ++ w ∷ []; stop = g.stop }

-- with what a line gives
abbrev pub taken : Given → ℕ → Result Write WordFault → Given
taken g n (Err f) = record { numbers = g.numbers; writes = g.writes; stop = Some (n, f) }
taken g n (Ok w) = added g n w

-- of a line with this number, and of those after it
abbrev pub with_put : ℕ → Result Write WordFault → Given → Given
with_put n (Err f) rest = record { numbers = []; writes = []; stop = Some (n, f) }
with_put n (Ok w) rest =
    record { numbers = n ∷ rest.numbers; writes = w ∷ rest.writes; stop = rest.stop }

-- of numbered lines
unfoldable pub given_from : Form → List (ℕ × List ℕ) → Given
given_from form [] = nothing_given
given_from form (l ∷ ls) = with_put l.0 (put_of_line form l.1) (given_from form ls)

-- of an input
abbrev pub given_in : Form → List ℕ → Given
given_in form input = given_from form (numbered_lines input)
