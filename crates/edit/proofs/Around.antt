-- Nodes that come one below the other.
use Rattle.std.proofs.Common.{◌≡◌, ℕ, zero, suc, ◌+◌, false, List, [], ◌∷◌, ◌++◌, length, refl, ap, ◌∙◌, arith, Option, Ok}
use Rattle.std.specs.declared.option.Option.TheVariants.{Some, None}
use Rattle.spec.specs.NodeFormat.{Shape, LastLink, MoreLinks, first_link}
use Rattle.batch_laws.specs.Links.{Rows, LinkEdge, LinkClear, LinkWaiting, LinkOpened, Log, and_then, ask, log_shown, opening, opened_rows, noding, parting, under_rows, rows_in_shape, link_edge, Step}
use Rattle.edit_laws.specs.ShapeEdit.{last_link}
use Rattle.edit.specs.Edges.{under, joined, around, is_clear}
use Rattle.edit.proofs.Topping.{read-at}

pub around-none : (digest : List ℕ → List ℕ) (b : ℕ) (ls : List Rows) (x : Step LinkEdge)
    → around digest b ls [] x ≡ under ls x
around-none digest zero [] x = refl
around-none digest (suc b) [] x = refl
around-none digest zero (l ∷ ls) x = ap (λ y. under_rows l y) (around-none digest zero ls x)
around-none digest (suc b) (l ∷ ls) x = ap (λ y. under_rows l y) (around-none digest b ls x)

pub around-more : (digest : List ℕ → List ℕ) (b : ℕ) (ls : List Rows) (r : Rows) (fs : List Shape) (f : Shape)
    (x : Step LinkEdge) → length ls ≡ b + length fs
    → around digest b (ls ++ (r ∷ [])) (fs ++ (f ∷ [])) x ≡ around digest b ls fs (joined digest r f x)
around-more digest zero [] r [] f x h = refl
around-more digest zero [] r (g ∷ fs) f x h = absurd (omega arith)
around-more digest (suc b) [] r fs f x h = absurd (omega arith)
around-more digest zero (l ∷ ls) r [] f x h = absurd (omega arith)
around-more digest zero (l ∷ ls) r (g ∷ fs) f x h =
    ap (joined digest l g) (around-more digest zero ls r fs f x (omega arith))
around-more digest (suc b) (l ∷ ls) r fs f x h =
    ap (λ y. under_rows l y) (around-more digest b ls r fs f x (omega arith))

noding-joined : (digest : List ℕ → List ℕ) (further : Option (List ℕ) → LinkEdge → Log → Step LinkEdge)
    (rows : Rows) (s : LinkEdge) (node : Shape) (log : Log)
    → noding digest further rows s node log ≡ joined digest rows node (further (first_link node) s log)
noding-joined digest further rows s (LastLink l) log = refl
noding-joined digest further rows s (MoreLinks l e r) log = refl

-- a subtree that comes where something stands
then-shown : (digest : List ℕ → List ℕ) (shows : List ℕ → Option Shape) (k : ℕ) (b c : List ℕ) (o : Option Shape) (log : Log)
    → and_then (log_shown b (LinkWaiting b) o log) (λ t log1.
    and_then (ask shows c (LinkOpened (rows_in_shape t) (link_edge (last_link t))) log1)
    (noding digest (parting digest shows k) (rows_in_shape t) (link_edge (last_link t))))
    ≡ and_then (and_then (log_shown b (LinkWaiting b) o log) opened_rows)
    (λ o log1. and_then (ask shows c (LinkOpened o.0 o.1) log1) (noding digest (parting digest shows k) o.0 o.1))
then-shown digest shows k b c None log = refl
then-shown digest shows k b c (Some s) log = refl

pub part-opened : (digest : List ℕ → List ℕ) (shows : List ℕ → Option Shape) (k : ℕ) (c : List ℕ) (s t : LinkEdge)
    (rows : Rows) (node : Shape) (log mid next : Log) → is_clear s ≡ false → opening shows s log ≡ Ok ((rows, t), mid)
    → ask shows c LinkClear mid ≡ Ok (node, next)
    → parting digest shows (suc k) (Some c) s log
    ≡ joined digest rows node (parting digest shows k (first_link node) t next)
part-opened digest shows k c LinkClear t rows node log mid next h o a = absurd cc
part-opened digest shows k c (LinkWaiting b) t rows node log mid next h o a =
    then-shown digest shows k b c (shows b) log
    ∙ ap (λ x. and_then x (λ o log1. and_then (ask shows c (LinkOpened o.0 o.1) log1)
    (noding digest (parting digest shows k) o.0 o.1))) o
    ∙ ap (λ x. and_then x (noding digest (parting digest shows k) rows t))
    (read-at shows c (LinkOpened rows t) mid (node, next) a)
    ∙ noding-joined digest (parting digest shows k) rows t node next
part-opened digest shows k c (LinkOpened rows0 s) t rows node log mid next h o a =
    ap (λ x. and_then x (λ o log1. and_then (ask shows c (LinkOpened o.0 o.1) log1)
    (noding digest (parting digest shows k) o.0 o.1))) o
    ∙ ap (λ x. and_then x (noding digest (parting digest shows k) rows t))
    (read-at shows c (LinkOpened rows t) mid (node, next) a)
    ∙ noding-joined digest (parting digest shows k) rows t node next

-- the same before anything is read
pub part-through : (digest : List ℕ → List ℕ) (shows : List ℕ → Option Shape) (k : ℕ) (c : List ℕ) (s : LinkEdge) (log : Log)
    → is_clear s ≡ false → parting digest shows (suc k) (Some c) s log
    ≡ and_then (opening shows s log) (λ o log1. and_then (ask shows c (LinkOpened o.0 o.1) log1)
    (noding digest (parting digest shows k) o.0 o.1))
part-through digest shows k c LinkClear log h = absurd cc
part-through digest shows k c (LinkWaiting b) log h = then-shown digest shows k b c (shows b) log
part-through digest shows k c (LinkOpened rows s) log h = refl
