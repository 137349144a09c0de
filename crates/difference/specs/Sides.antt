-- Lines and sides of the code as the laws see them.
use Rattle.std.specs.Prelude.{◌≡◌, ℕ, ◌+◌, ◌≤◌, Bool, false, List, [], ◌∷◌, ◌++◌, map, length, Option, Some, None, Result, Err, IsSome}
use Rattle.std.specs.Arc.{arc_value}
use Rattle.std.specs.BTreeSet.{BTreeSet, contains}
use Rattle.std.specs.Cmp.Lexicographic.{slice_cmp}
use Rattle.std.specs.List.{cons_option}
use Rattle.std.specs.Ordering.{nat_cmp}
use Rattle.std.specs.declared.sync.Arc.{Arc}
use Rattle.spec.specs.Tree.{Pair}
use Rattle.spec.specs.NodeFormat.{Shape, LastLink}
use Rattle.edit_laws.specs.Changes.{has_cid}
use Rattle.edit_laws.specs.ShapeEdit.{last_link}
use Rattle.batch_laws.specs.Links.{Rows, rows_in_shape, onto_links}
use Rattle.rows.specs.Drafts.{shape_in}
use Rattle.difference_laws.specs.Lines.{Stop, NotShown, link_without, within, opened}
use Rattle.difference_laws.specs.Lines as lines
use Rattle.difference.specs.Keys.{key_in}
use Rattle.difference.specs.declared.line.Row.{Row}
use Rattle.difference.specs.declared.line.Line.{Line}
use Rattle.difference.specs.declared.faults.DifferenceFault.{DifferenceFault}
use Rattle.difference.specs.declared.faults.DifferenceFault.TheVariants.{BlockMissing, BadNode, TooDeep, NotTree, NoMemory}

-- ---- lines

abbrev pub row_of : {A : Type 0} → Row A → Option (List ℕ) × Pair
row_of r = (r.link, (key_in r.key, r.value))

abbrev pub rows_of : {A : Type 0} → List (Row A) → Rows
rows_of rs = map row_of rs

abbrev pub line_of : {A : Type 0} → Line A → Shape
line_of l = onto_links (rows_of l.rows.items) (LastLink l.last)

-- a set has these links and no others
abbrev pub HasLinks : List (List ℕ) → BTreeSet (List ℕ) → Type 0
HasLinks cids links = (c : List ℕ) → contains (slice_cmp nat_cmp) links c ≡ has_cid c cids

abbrev pub has_link : Option (List ℕ) → List (List ℕ) → Bool
has_link None cids = false
has_link (Some c) cids = has_cid c cids

-- a link came to a set of these links, and it was there already or not
pub record IsNoted (cids : List (List ℕ)) (link : Option (List ℕ)) (again : Bool) (links : BTreeSet (List ℕ)) : Type 0 where
  pub again_is : again ≡ has_link link cids
  pub links_are : HasLinks (cids ++ cons_option link []) links

-- ---- nodes that were read

-- the nodes of some blocks
abbrev pub shapes_in : {A : Type 0} → List (Arc (List ℕ) A) → List Shape
shapes_in blocks = map (λ b. shape_in (arc_value b)) blocks

-- ---- why it stops

-- a step stops for this: the source lacks the block that is asked for, or gives one that is no node; the nodes are no tree's; or
-- memory was wanted
abbrev pub IsStopped : {A X : Type 0} → (List ℕ → Option A) → Result X Stop → DifferenceFault → Type 0
IsStopped gives step (BlockMissing c) = (gives c ≡ None) × (step ≡ Err (NotShown c))
IsStopped gives step (BadNode c) = IsSome (gives c) × (step ≡ Err (NotShown c))
IsStopped gives step TooDeep = ⊥
IsStopped gives step NotTree = step ≡ Err lines.NotTree
IsStopped gives step NoMemory = Unit {0}

-- the source lacks the block of a link, or gives one that is no node; or memory was wanted
abbrev pub IsLackAt : {A : Type 0} → (List ℕ → Option A) → (List ℕ → Option Shape) → Option (List ℕ) → DifferenceFault
    → Type 0
IsLackAt gives shows link (BlockMissing c) = (link ≡ Some c) × (gives c ≡ None) × (shows c ≡ None)
IsLackAt gives shows link (BadNode c) = (link ≡ Some c) × IsSome (gives c) × (shows c ≡ None)
IsLackAt gives shows link TooDeep = ⊥
IsLackAt gives shows link NotTree = ⊥
IsLackAt gives shows link NoMemory = Unit {0}

-- ---- one layer more is open

-- the root's block, which is known before the root's link is opened
abbrev pub IsTop : {A : Type 0} → (List ℕ → Option A) → Option (List ℕ) → Option A → Type 0
IsTop gives link None = Unit {0}
IsTop gives link (Some top) = (c : List ℕ) → link ≡ Some c → gives c ≡ Some top

-- it serves for the first link that is opened
abbrev pub top_after : {A : Type 0} → Option (List ℕ) → Option A → Option A
top_after None top = top
top_after (Some c) top = None

-- a block that was read and isn't opened yet
abbrev pub waiting : {A : Type 0} → Option A → ℕ
waiting None = 0
waiting (Some top) = 1

-- the node behind a link came to some rows, if there is a link; this is its last link
abbrev pub IsSpread : (List ℕ → Option Shape) → Option (List ℕ) → Rows → Rows → List Shape → List Shape
    → Option (List ℕ) → Type 0
IsSpread shows None old new read then last = (new ≡ old) × (then ≡ read) × (last ≡ None)
IsSpread shows (Some c) old new read then last = (m : Shape)
    × ((shows c ≡ Some m) × (new ≡ old ++ rows_in_shape m) × (then ≡ read ++ (m ∷ [])) × (last ≡ last_link m))

-- some rows without these links
abbrev pub rows_without : List (List ℕ) → Rows → Rows
rows_without cids rows = map (λ x. (link_without cids x.0, x.1)) rows

-- how many links these rows have then
abbrev pub links_among : List (List ℕ) → Rows → ℕ
links_among cids [] = 0
links_among cids (x ∷ rows) = length (cons_option (link_without cids x.0) []) + links_among cids rows

-- these rows were opened: all that is still to come after them comes after those, which were made of them
abbrev pub AreOpened : (List ℕ → Option Shape) → Rows → Rows → List Shape → List Shape → Type 0
AreOpened shows old new read then = (r : Shape)
    → opened shows (onto_links old r) read ≡ within (onto_links new) (opened shows r then)

-- or opening them stopped
abbrev pub AreStopped : {A : Type 0} → (List ℕ → Option A) → (List ℕ → Option Shape) → Rows → List Shape → DifferenceFault
    → Type 0
AreStopped gives shows old read fault = (r : Shape) → IsStopped gives (opened shows (onto_links old r) read) fault

-- Nothing but the root's block is read, and the line is the root's link at most; or some nodes were opened.
abbrev pub IsBegun : {A : Type 0} → (List ℕ → Option A) → Rows → Option (List ℕ) → Option A → List A → Type 0
IsBegun gives rows last None read = 1 ≤ length read
IsBegun gives rows last (Some top) read = (rows ≡ []) × ((c : List ℕ) → last ≡ Some c → gives c ≡ Some top) × (read ≡ [])
