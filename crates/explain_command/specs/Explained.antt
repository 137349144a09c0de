-- What `explain` writes (a choice of this project).
use Rattle.std.specs.Prelude.{ℕ, List, [], ◌∷◌, ◌++◌, codes, Option, Some, None, option_map, if◌then◌else◌}
use Rattle.std.specs.Borrow.{Bor}
use Rattle.std.specs.List.{flat_map}
use Rattle.std.specs.Str.{bytes_eq}
use Rattle.explain_command.specs.declared.table.TheConstants.{FAULTS, FAULTS_OF_FILES, FAULTS_OF_MESSAGES}

-- the text of a word, if there is one
abbrev pub word_of : Option (Bor (List ℕ)) → Option (List ℕ)
word_of word = option_map (λ w. w.now) word

abbrev pub line_of_name : List ℕ → List ℕ
line_of_name name = name ++ (10 ∷ [])

-- what there is to say of a fault: its name, what it means, and what causes it
abbrev pub Explanation : Type 0
Explanation = List ℕ × List ℕ × List ℕ

-- what it means and what causes it, under its name
abbrev pub paragraph : Explanation → List ℕ
paragraph e = line_of_name e.0 ++ (codes "  " ++ (line_of_name e.1
    ++ (codes "  Usual causes: " ++ line_of_name e.2)))

-- what there is to say of a fault under a name, or where none is given
abbrev pub said : Option (List ℕ) → Explanation → List ℕ
said None e = line_of_name e.0
said (Some name) e = if bytes_eq name e.0 then paragraph e else []

-- the three texts
abbrev pub texts_of : Bor (List ℕ) × Bor (List ℕ) × Bor (List ℕ) → Explanation
texts_of e = (e.0.now, e.1.now, e.2.now)

abbrev pub explained : List (Bor (List ℕ) × Bor (List ℕ) × Bor (List ℕ)) → Option (List ℕ) → List ℕ
explained faults name = flat_map (λ e. said name (texts_of e)) faults

-- of the faults that are none of a file or of a message, of those of files, and of those of messages
unfoldable pub explanation_of_common : Option (List ℕ) → List ℕ
explanation_of_common name = flat_map (λ e. said name (e.0.now, e.1.now, e.2.now)) FAULTS

unfoldable pub explanation_of_files : Option (List ℕ) → List ℕ
explanation_of_files name = flat_map (λ e. said name (e.0.now, e.1.now, e.2.now)) FAULTS_OF_FILES

unfoldable pub explanation_of_messages : Option (List ℕ) → List ℕ
explanation_of_messages name = flat_map (λ e. said name (e.0.now, e.1.now, e.2.now)) FAULTS_OF_MESSAGES

-- of all faults of the program
unfoldable pub explanation : Option (List ℕ) → List ℕ
explanation name = explanation_of_common name ++ (explanation_of_files name ++ explanation_of_messages name)
