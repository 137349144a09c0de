-- A walk over a tree and its records, in the order of an export.
use Rattle.std.specs.Prelude.{◌≡◌, ◌-◌, ⊤, ℕ, zero, suc, List, [], ◌∷◌, ◌++◌, length, Option, Some, None, Result, Ok, Err}
use Rattle.std.specs.List.{cons_option, flat_map}
use Rattle.std.specs.declared.sync.Arc.{Arc}
use Rattle.spec.specs.NodeFormat.{Entry, NodeFault, Shape, LastLink, MoreLinks}
use Rattle.spec.specs.Car.{car_of}
use Rattle.spec.specs.Commits.{car_root}
use Rattle.edit_laws.specs.Sources.{shown_by}
use Rattle.node.specs.Rows.{Row, rows}
use Rattle.export.specs.Founds.{bytes_found, seen_found}
use Rattle.export.specs.Once.{sections}
use Rattle.export.specs.declared.found.Found.{Found}
use Rattle.export.specs.declared.walk.Step.{Step}
use Rattle.export.specs.declared.walk.Step.TheVariants as steps

-- ---- what a walk comes to

-- below a node's links, where below is what a walk from a link on comes to, and its pairs' records
abbrev pub cids_of : (Option (List ℕ) → List (List ℕ)) → Shape → List (List ℕ)
cids_of below (LastLink l) = below l
cids_of below (MoreLinks l e r) = below l ++ e.1 ∷ cids_of below r

-- the same of what is shown, if anything is
abbrev pub cids_in : (Option (List ℕ) → List (List ℕ)) → Option Shape → List (List ℕ)
cids_in below None = []
cids_in below (Some s) = cids_of below s

-- the CIDs that a walk from a link on comes to, over at most n layers of nodes
abbrev pub cids_from : (List ℕ → Option Shape) → ℕ → Option (List ℕ) → List (List ℕ)
cids_from shows zero l = []
cids_from shows (suc n) None = []
cids_from shows (suc n) (Some c) = c ∷ cids_in (cids_from shows n) (shows c)

-- the blocks of these CIDs, those that a source has
abbrev pub blocks_at : (List ℕ → Option (List ℕ)) → List (List ℕ) → List (List ℕ)
blocks_at gives cids = flat_map (λ c. cons_option (gives c) []) cids

-- the block of a commit, if there is one and a source has it
abbrev pub commit_block : (List ℕ → Option (List ℕ)) → Option (List ℕ) → List (List ℕ)
commit_block gives None = []
commit_block gives (Some c) = cons_option (gives c) []

-- the block of a commit, and those that a walk from a root on comes to
abbrev pub blocks_met : (List ℕ → Option (List ℕ)) → ℕ → Option (List ℕ) → List ℕ → List (List ℕ)
blocks_met gives most commit root =
    commit_block gives commit ++ blocks_at gives (cids_from (shown_by gives) most (Some root))

-- the CAR of a commit and of what a walk from a root on comes to
abbrev pub car_met : (List ℕ → List ℕ) → (List ℕ → Option (List ℕ)) → ℕ → Option (List ℕ) → List ℕ → List ℕ
car_met digest gives most commit root =
    car_of digest (car_root commit root) (blocks_met gives most commit root)

-- ---- a walk on its way

-- The greatest number of layers; the link to go down from; and what is left of the nodes above it, the
-- lowest first.
pub record Walking : Type 0 where
  pub most : ℕ
  pub link : Option (List ℕ)
  pub stack : List (List Row)

-- the last first
abbrev pub turned : List (List Row) → List (List Row)
turned [] = []
turned (rows ∷ stack) = turned stack ++ rows ∷ []

-- the next row, and what is left after it
abbrev pub next_row : List (List Row) → Option (Row × List (List Row))
next_row [] = None
next_row ([] ∷ below) = next_row below
next_row ((r ∷ rs) ∷ below) = Some (r, rs ∷ below)

-- the CIDs of rows, with those below the link after each
abbrev pub row_cids : (Option (List ℕ) → List (List ℕ)) → List Row → List (List ℕ)
row_cids below rows = flat_map (λ r. r.value ∷ below r.tree) rows

-- those of a stack of rows, where n layers are left below the first of them
abbrev pub cids_stacked : (List ℕ → Option Shape) → ℕ → List (List Row) → List (List ℕ)
cids_stacked shows n [] = []
cids_stacked shows n (rows ∷ below) =
    row_cids (cids_from shows n) rows ++ cids_stacked shows (suc n) below

-- how many layers are left below the link
abbrev pub layers_left : Walking → ℕ
layers_left w = w.most - length w.stack

-- the CIDs that a walk is still to come to
abbrev pub cids_left : (List ℕ → Option Shape) → Walking → List (List ℕ)
cids_left shows w =
    cids_from shows (layers_left w) w.link ++ cids_stacked shows (layers_left w) w.stack

-- the blocks of those, as far as a source has them
abbrev pub blocks_left : (List ℕ → Option (List ℕ)) → Walking → List (List ℕ)
blocks_left gives w = blocks_at gives (cids_left (shown_by gives) w)

-- with the block of a commit before them
abbrev pub blocks_due : (List ℕ → Option (List ℕ)) → Option (List ℕ) → Walking → List (List ℕ)
blocks_due gives commit w = commit_block gives commit ++ blocks_left gives w

-- the blocks that are still to be written behind a step: that which it came to, and those left after it
abbrev pub blocks_behind : {D A : Type 0} → (List ℕ → Option (List ℕ)) → Step D A → Walking → List (List ℕ)
blocks_behind gives (steps.Found b) w = bytes_found (seen_found b) ∷ blocks_left gives w
blocks_behind gives steps.Missing w = blocks_left gives w
blocks_behind gives steps.End w = []

-- how many steps there are to take with it
abbrev pub steps_behind : {D A : Type 0} → (List ℕ → Option (List ℕ)) → Step D A → Walking → ℕ
steps_behind gives (steps.Found b) w = suc (length (cids_left (shown_by gives) w))
steps_behind gives steps.Missing w = suc (length (cids_left (shown_by gives) w))
steps_behind gives steps.End w = 0

-- the sections that are still to be written, after those of these CIDs
abbrev pub sections_left : (List ℕ → List ℕ) → (List ℕ → Option (List ℕ)) → List (List ℕ) → Walking → List ℕ
sections_left digest gives cids w = sections digest cids (blocks_left gives w)

-- with that of a commit before them
abbrev pub sections_due : (List ℕ → List ℕ) → (List ℕ → Option (List ℕ)) → List (List ℕ) → Option (List ℕ) → Walking → List ℕ
sections_due digest gives cids commit w = sections digest cids (blocks_due gives commit w)

-- those with what is shown under the link, where the link was taken
abbrev pub cids_entered : (List ℕ → Option Shape) → Walking → Option Shape → List (List ℕ)
cids_entered shows w o =
    cids_in (cids_from shows (layers_left w - 1)) o ++ cids_stacked shows (layers_left w) w.stack

-- the link is taken
abbrev pub without_link : Walking → Walking
without_link w = record { most = w.most; link = None; stack = w.stack }

-- into a node that was read, if it is one
abbrev pub entered : Walking → Result (Option (List ℕ) × List Entry) NodeFault → Walking
entered w (Ok x) = record { most = w.most; link = x.0; stack = rows [] x.1 ∷ w.stack }
entered w (Err f) = w

-- the record of a row is next, and then the link after it
pub record IsAtRow (old new : Walking) (value : List ℕ) : Type 0 where
  pub row : Row
  pub next : next_row old.stack ≡ Some (row, new.stack)
  pub value_is : value ≡ row.value
  pub link_is : new.link ≡ row.tree
  pub most_is : new.most ≡ old.most

-- the next record of a walk, if there is one
abbrev pub IsNext : Walking → Walking → Option (List ℕ) → Type 0
IsNext old new None = next_row old.stack ≡ None
IsNext old new (Some c) = IsAtRow old new c

-- a walk goes on by one CID, under which the source has this
pub record GoesBy (gives : List ℕ → Option (List ℕ)) (old new : Walking) (found : Option (List ℕ)) : Type 0 where
  pub cid : List ℕ
  pub left : cids_left (shown_by gives) old ≡ cid ∷ cids_left (shown_by gives) new
  pub given : gives cid ≡ found

-- a step of a walk, over a source
abbrev pub IsStep : {D A : Type 0} → (List ℕ → Option (List ℕ)) → Walking → Walking → Step D A → Type 0
IsStep gives old new (steps.Found b) = GoesBy gives old new (Some (bytes_found (seen_found b)))
IsStep gives old new steps.Missing = GoesBy gives old new None
IsStep gives old new steps.End = cids_left (shown_by gives) old ≡ []

-- what a step found is what a source gives for some CID
abbrev pub IsStepFrom : {D A : Type 0} → (List ℕ → Option (Found (Arc (List ℕ) A))) → Step D A → Type 0
IsStepFrom gives (steps.Found f) = (c : List ℕ) × (gives c ≡ Some (seen_found f))
IsStepFrom gives steps.Missing = ⊤
IsStepFrom gives steps.End = ⊤
