-- Steps below layers that are open.
use Rattle.std.proofs.Common.{◌≡◌, ℕ, zero, suc, ◌≤◌, ◌<◌, List, [], ◌∷◌, ◌++◌, length, take, drop, refl, ap, arith, Option, Err, Ok}
use Rattle.std.specs.declared.option.Option.TheVariants.{Some}
use Rattle.spec.specs.Tree.{Pair}
use Rattle.spec.specs.NodeFormat.{Shape}
use Rattle.batch_laws.specs.Links.{Rows, LinkEdge, LinkOpened, Log, and_then, opening, link_edge, pairing, parting, subtreeing, under_rows, Step}
use Rattle.edit.specs.Edges.{edge_of, within, under}

pub then-same : {A B : Type 0} (x : Step A) (f g : A → Log → Step B)
    → ((a : A) (log : Log) → f a log ≡ g a log) → and_then x f ≡ and_then x g
then-same (Err stop) f g h = refl
then-same (Ok x) f g h = h x.0 x.1

pub pair-within : (digest : List ℕ → List ℕ) (shows : List ℕ → Option Shape) (d : ℕ) (e : Pair) (s : LinkEdge) (log : Log)
    → pairing digest shows d e s log ≡ within shows d (pairing digest shows zero e) s log
pair-within digest shows zero e s log = refl
pair-within digest shows (suc d) e s log =
    then-same (opening shows s log) (λ o log1. under_rows o.0 (pairing digest shows d e o.1 log1))
    (λ o log1. under_rows o.0 (within shows d (pairing digest shows zero e) o.1 log1))
    (λ o log1. ap (λ x. under_rows o.0 x) (pair-within digest shows d e o.1 log1))

pub subtree-within : (digest : List ℕ → List ℕ) (shows : List ℕ → Option Shape) (k d : ℕ) (c : List ℕ) (s : LinkEdge)
    (log : Log) → subtreeing digest shows k d c s log ≡ within shows d (parting digest shows k (Some c)) s log
subtree-within digest shows k zero c s log = refl
subtree-within digest shows k (suc d) c s log =
    then-same (opening shows s log) (λ o log1. under_rows o.0 (subtreeing digest shows k d c o.1 log1))
    (λ o log1. under_rows o.0 (within shows d (parting digest shows k (Some c)) o.1 log1))
    (λ o log1. ap (λ x. under_rows o.0 x) (subtree-within digest shows k d c o.1 log1))

-- where the layers above are open
pub within-under : (shows : List ℕ → Option Shape) (d : ℕ) (f : LinkEdge → Log → Step LinkEdge) (ls : List Rows)
    (rest : Option (List ℕ)) (log : Log) → d ≤ length ls
    → within shows d f (edge_of ls rest) log ≡ under (take d ls) (f (edge_of (drop d ls) rest) log)
within-under shows zero f ls rest log h = refl
within-under shows (suc d) f [] rest log h = absurd (omega arith)
within-under shows (suc d) f (r ∷ ls) rest log h =
    ap (λ x. under_rows r x) (within-under shows d f ls rest log (omega arith))

-- one layer more is open
first-opened : (shows : List ℕ → Option Shape) (d : ℕ) (f : LinkEdge → Log → Step LinkEdge)
    (rest link : Option (List ℕ)) (log next : Log) (rows : Rows)
    → opening shows (link_edge rest) log ≡ Ok ((rows, link_edge link), next)
    → within shows (suc d) f (link_edge rest) log ≡ within shows (suc d) f (LinkOpened rows (link_edge link)) next
first-opened shows d f rest link log next rows h =
    ap (λ o. and_then o (λ o log1. under_rows o.0 (within shows d f o.1 log1))) h

pub one-opened : (shows : List ℕ → Option Shape) (d : ℕ) (f : LinkEdge → Log → Step LinkEdge) (ls : List Rows)
    (rest link : Option (List ℕ)) (log next : Log) (rows : Rows) → length ls < d
    → opening shows (link_edge rest) log ≡ Ok ((rows, link_edge link), next)
    → within shows d f (edge_of ls rest) log ≡ within shows d f (edge_of (ls ++ (rows ∷ [])) link) next
one-opened shows zero f ls rest link log next rows l h = absurd (omega arith)
one-opened shows (suc d) f [] rest link log next rows l h = first-opened shows d f rest link log next rows h
one-opened shows (suc d) f (x ∷ ls) rest link log next rows l h =
    ap (λ o. under_rows x o) (one-opened shows d f ls rest link log next rows (omega arith) h)

pub under-some : (ls ms : List Rows) (rest : Option (List ℕ)) (log : Log)
    → under ls (Ok (edge_of ms rest, log)) ≡ Ok (edge_of (ls ++ ms) rest, log)
under-some [] ms rest log = refl
under-some (l ∷ ls) ms rest log = ap (λ x. under_rows l x) (under-some ls ms rest log)
