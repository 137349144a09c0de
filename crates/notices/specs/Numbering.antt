-- The notices of one writer, and their numbers.
use Rattle.std.specs.Prelude.{◌≡◌, ℕ, suc, ◌==◌, List, [], ◌∷◌, filter}
use Rattle.notices.specs.declared.notice.Notice.{Notice}

-- the notices of one writer, in order
abbrev pub of : ℕ → List Notice → List Notice
of writer notices = filter (λ n. n.writer == writer) notices

-- they are numbered from k on
abbrev pub NumberedFrom : ℕ → List Notice → Type 0
NumberedFrom k [] = Unit {0}
NumberedFrom k (n ∷ ns) = (n.seq ≡ k) × NumberedFrom (suc k) ns

-- the notices of each writer are numbered 1, 2, ..
abbrev pub IsNumbered : List Notice → Type 0
IsNumbered notices = (writer : ℕ) → NumberedFrom 1 (of writer notices)
