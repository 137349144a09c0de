-- Whether a step keeps within what a tree has for it, as far as it comes: no more nodes are read than so many, and keys ascend
-- in each node that is made.
use Rattle.std.specs.Prelude.{◌≤◌, ℕ, suc, ◌++◌, length, Ok, Err}
use Rattle.edit_laws.specs.Lawful.{HasKeys}
use Rattle.batch_laws.specs.Links.{LinkEdge, LinkClear, LinkTooDeep, Log, NotShown, Step, Stop, Top, and_then}
use Rattle.batch_laws.specs.Written.{AreWritten}

-- a top with all that was read for it, also the node that stays
abbrev pub at_top : Step Top → Step LinkEdge
at_top step =
    and_then step (λ top later. Ok (LinkClear, record { read = later.read ++ top.1; made = later.made }))

-- how many nodes were read or asked for where a step stops
abbrev pub asked : Stop → Log → ℕ
asked (NotShown c) log = suc (length log.read)
asked LinkTooDeep log = length log.read

-- so many nodes are read or asked for at most, and each that was made has keys of the grammar, with each that is open one that
-- may still have them
abbrev pub IsWithin : ℕ → Step LinkEdge → Type 0
IsWithin most (Ok x) = (length x.1.read ≤ most) × AreWritten HasKeys x.0 x.1
IsWithin most (Err e) = (asked e.why e.log ≤ most) × AreWritten HasKeys e.edge e.log
