-- A subtree that comes to the edge.
use Rattle.std.proofs.Common.{◌≡◌, ℕ, zero, suc, ◌+◌, ◌<◌, ◌≤◌, true, false, List, [], ◌∷◌, ◌++◌, length, take, drop, refl, sym, ap, subst, ◌∙◌, arith, Option, length-append, Ok}
use Rattle.std.specs.Prelude.{Bool, is_some, not}
use Rattle.std.specs.declared.option.Option.TheVariants.{Some, None}
use Rattle.std.proofs.lemmas.List.{append_assoc}
use Rattle.spec.specs.Tree.{Pair}
use Rattle.spec.specs.NodeFormat.{Shape, LastLink, MoreLinks, first_link}
use Rattle.edit_laws.specs.ShapeEdit.{last_link}
use Rattle.batch_laws.specs.Links.{Rows, LinkEdge, LinkOpened, Log, ask, closing, link_edge, parting, subtreeing, rows_in_shape, Step, LinkClear}
use Rattle.edit.specs.Edges.{edge_of, within, under, joined, around, is_clear}
use Rattle.rows.specs.Entries.{Reading}
use Rattle.edit.specs.States.{shapes_coming, IsOpenAt, IsComing, IsWaiting, IsOnTheWay, IsArrived, IsJoined}
use Rattle.edit.proofs.Within.{subtree-within, within-under, under-some}
use Rattle.edit.proofs.Around.{around-none, around-more, part-opened}
use Rattle.edit.proofs.Cuts.{snoc-same, cut-at, take-length, cut-whole, drop-snoc, take-snoc}

-- ---- whether something stands there

pub taken-open : (d : ℕ) (ls : List Rows) (rest : Option (List ℕ)) → d < length ls
    → is_clear (edge_of (drop d ls) rest) ≡ false
taken-open d [] rest h = absurd (omega arith)
taken-open zero (x ∷ ls) rest h = refl
taken-open (suc d) (x ∷ ls) rest h = taken-open d ls rest (omega arith)

pub taken-waiting : (d : ℕ) (ls : List Rows) (c : List ℕ) → is_clear (edge_of (drop d ls) (Some c)) ≡ false
taken-waiting zero [] c = refl
taken-waiting (suc d) [] c = refl
taken-waiting zero (x ∷ ls) c = refl
taken-waiting (suc d) (x ∷ ls) c = taken-waiting d ls c

pub taken-some : (d : ℕ) (ls : List Rows) (rest : Option (List ℕ)) (b : Bool) → is_some rest ≡ not b → b ≡ false
    → is_clear (edge_of (drop d ls) rest) ≡ false
taken-some d ls None true e h = absurd cc
taken-some d ls None false e h = absurd cc
taken-some d ls (Some c) b e h = taken-waiting d ls c

pub coming : (digest : List ℕ → List ℕ) (shows : List ℕ → Option Shape) (d : ℕ) (c : List ℕ) (ls new : List Rows)
    (rest link : Option (List ℕ)) (log mid next : Log) (node : Shape) → is_clear (edge_of (drop d ls) rest) ≡ false
    → IsOpenAt shows d ls rest log new link mid → ask shows c LinkClear mid ≡ Ok (node, next)
    → IsComing digest shows d c ls rest log node new link next
coming digest shows d c ls new rest link log mid next node h o a = record {
  rows = o.rows;
  is = λ k. part-opened digest shows k c (edge_of (drop d ls) rest) (edge_of (drop (d + 1) new) link) o.rows node log mid next
      h o.is a;
  levels = o.levels;
  long = o.long;
}

-- ---- the way down

pub way-begins : (digest : List ℕ → List ℕ) (shows : List ℕ → Option Shape) (k d : ℕ) (c : List ℕ) (all : LinkEdge)
    (start : Log) (ls : List Rows) (rest : Option (List ℕ)) (log : Log)
    → ((f : LinkEdge → Log → Step LinkEdge)
    → within shows d f all start ≡ within shows d f (edge_of ls rest) log)
    → d ≤ length ls → IsOnTheWay digest shows (subtreeing digest shows k d c all start) d k (Some c) [] ls rest log
way-begins digest shows k d c all start ls rest log same h =
    let n : d ≡ d + length {A = Shape} [] = omega arith in
    let part = parting digest shows k (Some c) in
    record {
      is = subtree-within digest shows k d c all start ∙ same part ∙ within-under shows d part ls rest log h
          ∙ ap (λ m. under (take m ls) (part (edge_of (drop m ls) rest) log)) n
          ∙ sym (around-none digest d (take (d + length {A = Shape} []) ls) (part (edge_of (drop (d + length {A = Shape} []) ls) rest) log));
      long = omega arith;
    }

pub way-more : (digest : List ℕ → List ℕ) (shows : List ℕ → Option Shape) (all : Step LinkEdge) (b k m at : ℕ)
    (c : List ℕ) (fs : List Shape) (ls new : List Rows) (rest link : Option (List ℕ)) (log next : Log) (node : Shape)
    → k ≡ suc m → at ≡ b + length fs → IsOnTheWay digest shows all b k (Some c) fs ls rest log
    → IsComing digest shows at c ls rest log node new link next
    → IsOnTheWay digest shows all b m (first_link node) (fs ++ (node ∷ [])) new link next
way-more digest shows all b k m at c fs ls new rest link log next node e f w h =
    let l = w.long in
    let g = h.long in
    let a = length-append fs (node ∷ []) in
    let one : at + 1 ≡ b + length (fs ++ (node ∷ [])) = omega arith in
    let x = parting digest shows m (first_link node) (edge_of (drop (at + 1) new) link) next in
    record {
      is = w.is
          ∙ ap (λ j. around digest b (take (b + length fs) ls) fs (parting digest shows j (Some c) (edge_of (drop (b + length fs) ls) rest) log)) e
          ∙ ap (λ j. around digest b (take j ls) fs (parting digest shows (suc m) (Some c) (edge_of (drop j ls) rest) log)) (sym f)
          ∙ ap (around digest b (take at ls) fs) (h.is m)
          ∙ sym (around-more digest b (take at ls) h.rows fs node x (take-length at ls (omega arith) ∙ f))
          ∙ ap (λ ys. around digest b ys (fs ++ (node ∷ [])) x) (sym h.levels)
          ∙ ap (λ j. around digest b (take j new) (fs ++ (node ∷ []))
          (parting digest shows m (first_link node) (edge_of (drop j new) link) next)) one;
      long = omega arith;
    }

part-none : (digest : List ℕ → List ℕ) (shows : List ℕ → Option Shape) (k : ℕ) (s : LinkEdge) (log : Log)
    → parting digest shows k None s log ≡ Ok (s, log)
part-none digest shows zero s log = refl
part-none digest shows (suc k) s log = refl

pub way-none : (digest : List ℕ → List ℕ) (shows : List ℕ → Option Shape) (all : Step LinkEdge) (b k : ℕ)
    (fs : List Shape) (ls : List Rows) (rest : Option (List ℕ)) (log : Log)
    → IsOnTheWay digest shows all b k None fs ls rest log → IsArrived digest all b fs ls rest log
way-none digest shows all b k fs ls rest log w = record {
  is = w.is ∙ ap (around digest b (take (b + length fs) ls) fs) (part-none digest shows k (edge_of (drop (b + length fs) ls) rest) log);
  long = w.long;
}

pub way-waits : (digest : List ℕ → List ℕ) (shows : List ℕ → Option Shape) (all : Step LinkEdge) (b k m at : ℕ)
    (c : List ℕ) (fs : List Shape) (ls new : List Rows) (rest link : Option (List ℕ)) (log next : Log)
    → k ≡ suc m → at ≡ b + length fs → IsOnTheWay digest shows all b k (Some c) fs ls rest log
    → IsWaiting digest shows at c ls rest log new link next → IsArrived digest all b fs new link next
way-waits digest shows all b k m at c fs ls new rest link log next e f w h = record {
  is = w.is
      ∙ ap (λ j. around digest b (take (b + length fs) ls) fs (parting digest shows j (Some c) (edge_of (drop (b + length fs) ls) rest) log)) e
      ∙ ap (λ j. around digest b (take j ls) fs (parting digest shows (suc m) (Some c) (edge_of (drop j ls) rest) log)) (sym f)
      ∙ ap (around digest b (take at ls) fs) (h.is m)
      ∙ ap (λ ys. around digest b (take at ys) fs (Ok (edge_of (drop at new) link, next))) (sym h.levels)
      ∙ ap (λ j. around digest b (take j new) fs (Ok (edge_of (drop j new) link, next))) f;
  long = subst (λ ys. b + length fs ≤ length ys) (sym h.levels) w.long;
}

-- ---- the way up

pub joined-none : (digest : List ℕ → List ℕ) (d : ℕ) (node : Shape) (l : Option (List ℕ)) (ls : List Rows)
    (rest : Option (List ℕ)) (log : Log) → node ≡ LastLink l → d < length ls
    → IsJoined digest d node ls rest log ls rest log
joined-none digest d node l ls rest log e h =
    let c = cut-at d ls h in
    let one : d + 1 ≡ suc d = omega arith in
    record {
      rows = c.rows;
      cut = ap (λ m. take m ls) one ∙ c.front;
      is = ap (λ s. joined digest c.rows s (Ok (edge_of (drop (d + 1) ls) rest, log))) e
          ∙ ap (λ m. Ok (LinkOpened c.rows (edge_of (drop m ls) rest), log)) one
          ∙ ap (λ ys. Ok (edge_of ys rest, log)) (sym c.back);
      same = refl;
      long = omega arith;
    }

pub joined-more : (digest : List ℕ → List ℕ) (d : ℕ) (node r : Shape) (l : Option (List ℕ)) (e : Pair)
    (ls mid above new : List Rows) (rows more full : Rows) (rest below link : Option (List ℕ)) (log next : Log)
    → node ≡ MoreLinks l e r → d < length ls → mid ≡ take (d + 1) ls → mid ≡ above ++ (rows ∷ [])
    → closing digest (edge_of (drop (d + 1) ls) rest) log ≡ (below, next)
    → more ≡ rows ++ ((below, e) ∷ []) → full ≡ more ++ rows_in_shape r → new ≡ above ++ (full ∷ [])
    → link ≡ last_link r → IsJoined digest d node ls rest log new link next
joined-more digest d node r l e ls mid above new rows more full rest below link log next n h m p c q f w v =
    let k = cut-at d ls h in
    let one : d + 1 ≡ suc d = omega arith in
    let s = snoc-same above (take d ls) rows k.rows (sym p ∙ m ∙ ap (λ j. take j ls) one ∙ k.front) in
    let a : length above ≡ d = ap length s.0 ∙ take-length d ls (omega arith) in
    let t = length-append above (full ∷ []) in
    let u : length new ≡ length (above ++ (full ∷ [])) = ap length w in
    let made : full ≡ rows ++ ((below, e) ∷ rows_in_shape r) =
    f ∙ ap (λ x. x ++ rows_in_shape r) q ∙ append_assoc rows ((below, e) ∷ []) (rows_in_shape r) in
    record {
      rows = rows;
      cut = sym m ∙ p ∙ ap (λ ys. ys ++ (rows ∷ [])) s.0;
      is = ap (λ x. joined digest rows x (Ok (edge_of (drop (d + 1) ls) rest, log))) n
          ∙ ap (λ x. Ok (LinkOpened (rows ++ ((x.0, e) ∷ rows_in_shape r)) (link_edge (last_link r)), x.1)) c
          ∙ ap (λ x. Ok (LinkOpened x (link_edge (last_link r)), next)) (sym made)
          ∙ ap (λ ys. Ok (edge_of ys (last_link r), next)) (sym (drop-snoc d above full a))
          ∙ ap (λ ys. Ok (edge_of (drop d ys) (last_link r), next)) (sym w)
          ∙ ap (λ x. Ok (edge_of (drop d new) x, next)) (sym v);
      same = ap (take d) w ∙ take-snoc d above full a ∙ s.0;
      long = omega arith;
    }

pub arrived-less : (digest : List ℕ → List ℕ) (all : Step LinkEdge) (b d : ℕ) (fs gs : List Shape) (node : Shape)
    (ls new : List Rows) (rest link : Option (List ℕ)) (log next : Log) → fs ≡ gs ++ (node ∷ []) → d ≡ b + length gs
    → IsArrived digest all b fs ls rest log → IsJoined digest d node ls rest log new link next
    → IsArrived digest all b gs new link next
arrived-less digest all b d fs gs node ls new rest link log next e f w j =
    let l = w.long in
    let g = j.long in
    let a = length-append gs (node ∷ []) in
    let n : length fs ≡ length (gs ++ (node ∷ [])) = ap length e in
    let one : b + length fs ≡ d + 1 = omega arith in
    let x : Step LinkEdge = Ok (edge_of (drop (d + 1) ls) rest, log) in
    record {
      is = w.is
          ∙ ap (λ m. around digest b (take m ls) fs (Ok (edge_of (drop m ls) rest, log))) one
          ∙ ap (λ hs. around digest b (take (d + 1) ls) hs x) e
          ∙ ap (λ ys. around digest b ys (gs ++ (node ∷ [])) x) j.cut
          ∙ around-more digest b (take d ls) j.rows gs node x (take-length d ls (omega arith) ∙ f)
          ∙ ap (around digest b (take d ls) gs) j.is
          ∙ ap (λ ys. around digest b ys gs (Ok (edge_of (drop d new) link, next))) (sym j.same)
          ∙ ap (λ m. around digest b (take m new) gs (Ok (edge_of (drop m new) link, next))) f;
      long = omega arith;
    }

pub arrived-end : (digest : List ℕ → List ℕ) (all : Step LinkEdge) (b : ℕ) (fs : List Shape) (ls : List Rows)
    (rest : Option (List ℕ)) (log : Log) → fs ≡ [] → IsArrived digest all b fs ls rest log
    → all ≡ Ok (edge_of ls rest, log)
arrived-end digest all b fs ls rest log e w =
    let n = b + length fs in
    w.is ∙ ap (λ gs. around digest b (take n ls) gs (Ok (edge_of (drop n ls) rest, log))) e
    ∙ around-none digest b (take n ls) (Ok (edge_of (drop n ls) rest, log))
    ∙ under-some (take n ls) (drop n ls) rest log
    ∙ ap (λ ys. Ok (edge_of ys rest, log)) (cut-whole n ls)

-- ---- the nodes on the way, as the code has them

pub coming-none : (rs : List Reading) → length rs ≡ 0 → shapes_coming rs ≡ []
coming-none [] h = refl
coming-none (r ∷ rs) h = absurd (omega arith)

pub coming-count : (rs : List Reading) → length (shapes_coming rs) ≡ length rs
coming-count [] = refl
coming-count (r ∷ rs) = ap suc (coming-count rs)

pub coming-more : (all rs : List Reading) (r : Reading) → all ≡ rs ++ (r ∷ [])
    → shapes_coming all ≡ shapes_coming rs ++ (r.rest ∷ [])
coming-more all rs r e = ap shapes_coming e ∙ more rs r
  where
    more : (xs : List Reading) (x : Reading) → shapes_coming (xs ++ (x ∷ [])) ≡ shapes_coming xs ++ (x.rest ∷ [])
    more [] x = refl
    more (y ∷ xs) x = ap (λ ss. y.rest ∷ ss) (more xs x)
