-- Layers that are opened, and a pair.
use Rattle.std.proofs.Common.{◌≡◌, ℕ, zero, suc, ◌+◌, ◌<◌, ◌≤◌, List, [], ◌∷◌, ◌++◌, length, take, drop, sym, ap, subst, ◌∙◌, arith, Option, Ok}
use Rattle.std.specs.declared.option.Option.TheVariants.{None}
use Rattle.spec.specs.Tree.{Pair}
use Rattle.spec.specs.NodeFormat.{Shape}
use Rattle.batch_laws.specs.Links.{Rows, LinkEdge, Log, and_then, opening, closing, pairing, add_row, Step}
use Rattle.edit.specs.Budgets.{Budget}
use Rattle.edit.specs.Edges.{edge_of, within, under}
use Rattle.edit.specs.States.{IsOpened, IsOpenAt, IsAdded, IsCounted, KeepsWithin}
use Rattle.edit.proofs.Within.{pair-within, within-under, under-some, one-opened}
use Rattle.edit.proofs.Cuts.{snoc-same, cut-at}

-- it is open already
pub open-already : (shows : List ℕ → Option Shape) (d : ℕ) (ls : List Rows) (rest : Option (List ℕ)) (log : Log)
    → d < length ls → IsOpenAt shows d ls rest log ls rest log
open-already shows d ls rest log h =
    let c = cut-at d ls h in
    let one : d + 1 ≡ suc d = omega arith in
    record {
      rows = c.rows;
      is = ap (λ ys. opening shows (edge_of ys rest) log) c.back
          ∙ ap (λ m. Ok ((c.rows, edge_of (drop m ls) rest), log)) (sym one);
      levels = ap (λ m. take m ls) one ∙ c.front;
      long = h;
    }

pub paired : (digest : List ℕ → List ℕ) (shows : List ℕ → Option Shape) (d : ℕ) (e : Pair) (all : LinkEdge)
    (start : Log) (ls mid new : List Rows) (rest link : Option (List ℕ)) (log inner next : Log)
    → ((f : LinkEdge → Log → Step LinkEdge)
    → within shows d f all start ≡ within shows d f (edge_of ls rest) log)
    → d ≤ length ls → IsOpenAt shows d ls rest log mid link inner → IsAdded digest d e mid link inner new next
    → pairing digest shows d e all start ≡ Ok (edge_of new None, next)
paired digest shows d e all start ls mid new rest link log inner next same h o p =
    let below = closing digest (edge_of (drop (d + 1) mid) link) inner in
    let s = snoc-same p.above (take d ls) p.rows o.rows (sym p.cut ∙ o.levels) in
    let row : Rows = p.rows ++ ((below.0, e) ∷ []) in
    let met : pairing digest shows zero e (edge_of (drop d ls) rest) log ≡ Ok (edge_of (row ∷ []) None, below.1) =
    ap (λ x. and_then x (λ o log1. add_row e o.0 (closing digest o.1 log1))) o.is
    ∙ ap (λ r. Ok (edge_of ((r ++ ((below.0, e) ∷ [])) ∷ []) None, below.1)) (sym s.1) in
    pair-within digest shows d e all start ∙ same (pairing digest shows zero e)
    ∙ within-under shows d (pairing digest shows zero e) ls rest log h
    ∙ ap (under (take d ls)) met
    ∙ under-some (take d ls) (row ∷ []) None below.1
    ∙ ap (λ ys. Ok (edge_of (ys ++ (row ∷ [])) None, below.1)) (sym s.0)
    ∙ ap (λ ys. Ok (edge_of ys None, below.1)) (sym p.levels)
    ∙ ap (λ l. Ok (edge_of new None, l)) (sym p.log_is)

pub counted-then : (b m a : Budget) (log mid next : Log) → IsCounted b m log mid → IsCounted m a mid next
    → IsCounted b a log next
counted-then b m a log mid next h k = record { reads = omega arith; left = omega arith }

-- from an edge with the same log, for which as many nodes may be read
pub counted-from : (b m a : Budget) (log mid next : Log) → mid ≡ log → m.1 ≡ b.1 → m.0 ≡ b.0 → IsCounted m a mid next
    → IsCounted b a log next
counted-from b m a log mid next e l r k =
    let h = subst (λ x. IsCounted m a x next) e k in
    let i = h.reads in
    let j = h.left in
    record { reads = omega arith; left = omega arith }

pub keeps-opened : (shows : List ℕ → Option Shape) (d : ℕ) (s : LinkEdge) (log mid next : Log) (ls new : List Rows)
    (rest link : Option (List ℕ)) → length ls < d → KeepsWithin shows d s log (edge_of ls rest) mid
    → IsOpened shows ls rest mid new link next → KeepsWithin shows d s log (edge_of new link) next
keeps-opened shows d s log mid next ls new rest link l h o f =
    h f ∙ one-opened shows d f ls rest link mid next o.rows l o.is
    ∙ ap (λ ys. within shows d f (edge_of ys link) next) (sym o.levels)
