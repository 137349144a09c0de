-- Whether a batch keeps within what a tree has for it, as far as it comes: no more nodes are read than a tree with such a root
-- has, and keys ascend in each node that is made.
use Rattle.std.specs.Prelude.{ℕ, Bool, true, ◌&&◌, nat_le, List, [], ◌++◌, length, None, Ok, Err}
use Rattle.std.specs.List.{list_all}
use Rattle.spec.specs.NodeFormat.{Shape, LastLink, entries_of, are_keys_after}
use Rattle.batch_laws.specs.Links.{LinkEdge, LinkClear, LinkWaiting, LinkOpened, Step, Top, onto_links}
use Rattle.batch_laws.specs.Within.{asked}

-- keys of 1 to 1,024 bytes that ascend
abbrev pub has_keys : Shape → Bool
has_keys s = are_keys_after [] (entries_of s)

abbrev pub have_keys : List Shape → Bool
have_keys made = list_all has_keys made

-- each node that is open has such keys so far
abbrev pub go_on : LinkEdge → Bool
go_on LinkClear = true
go_on (LinkWaiting c) = true
go_on (LinkOpened rows s) = has_keys (onto_links rows (LastLink None)) && go_on s

-- so many nodes are read at most, also the one that stays as the new top, and keys ascend in each that is made
abbrev pub is_within : ℕ → Step Top → Bool
is_within most (Ok x) = nat_le (length (x.1.read ++ x.0.1)) most && have_keys x.1.made
is_within most (Err e) = nat_le (asked e.why e.log) most && (have_keys e.log.made && go_on e.edge)
