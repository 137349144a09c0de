-- Layers are complete from the lowest up.
use Rattle.std.proofs.Common.{◌≡◌, ℕ, ◌<◌, List, [], ◌∷◌, ◌++◌, length, drop, length-append, refl, sym, ap, ◌∙◌, arith, Option}
use Rattle.std.proofs.lemmas.List.{drop-append-le}
use Rattle.std.specs.declared.option.Option.TheVariants.{Some, None}
use Rattle.batch_laws.specs.Links.{Rows, Log, complete, closing, link_edge}
use Rattle.edit.specs.Edges.{edge_of}

pub closing-rest : (digest : List ℕ → List ℕ) (rest : Option (List ℕ)) (log : Log)
    → closing digest (link_edge rest) log ≡ (rest, log)
closing-rest digest None log = refl
closing-rest digest (Some c) log = refl

-- the lowest layer first
closing-last : (digest : List ℕ → List ℕ) (xs : List Rows) (rows : Rows) (rest link : Option (List ℕ)) (log next : Log)
    → complete digest rows (rest, log) ≡ (link, next)
    → closing digest (edge_of (xs ++ (rows ∷ [])) rest) log ≡ closing digest (edge_of xs link) next
closing-last digest [] rows rest link log next h =
    ap (complete digest rows) (closing-rest digest rest log) ∙ h ∙ sym (closing-rest digest link next)
closing-last digest (x ∷ xs) rows rest link log next h =
    ap (complete digest x) (closing-last digest xs rows rest link log next h)

pub closing-from : (digest : List ℕ → List ℕ) (d : ℕ) (old xs : List Rows) (rows : Rows) (rest link : Option (List ℕ))
    (log next : Log) → old ≡ xs ++ (rows ∷ []) → d < length old → complete digest rows (rest, log) ≡ (link, next)
    → closing digest (edge_of (drop d old) rest) log ≡ closing digest (edge_of (drop d xs) link) next
closing-from digest d old xs rows rest link log next e h c =
    let n : length old ≡ length (xs ++ (rows ∷ [])) = ap length e in
    let a = length-append xs (rows ∷ []) in
    ap (λ ls. closing digest (edge_of (drop d ls) rest) log) e
    ∙ ap (λ ls. closing digest (edge_of ls rest) log) (drop-append-le d xs (rows ∷ []) (omega arith))
    ∙ closing-last digest (drop d xs) rows rest link log next c
