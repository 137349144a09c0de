-- Over a source that may lack nodes of a tree and shows no other node in the place of one: a batch has an answer just where
-- each node that it reads is shown, and then links do what subtrees do.
use Rattle.std.proofs.Common.{◌≡◌, ℕ, zero, suc, ◌-◌, List, [], ◌∷◌, ◌++◌, map, refl, sym, ap, subst, ◌∙◌, append_assoc, Option, Ok, Err}
use Rattle.std.proofs.lemmas.List.{append-nil, map-append}
use Rattle.std.specs.declared.option.Option.TheVariants.{Some, None}
use Rattle.spec.specs.Tree.{Pair, Node, Part, Last, More, Nothing, Sub, EachNode, EachUnder}
use Rattle.spec.specs.NodeFormat.{Shape, LastLink, MoreLinks, shape, part_link, shape_cid}
use Rattle.edit_laws.specs.TreeEdit.{onto, close, layer_of}
use Rattle.edit_laws.specs.Trace.{last_part, made_close}
use Rattle.edit_laws.specs.ShapeEdit.{close_link, close_shapes, last_link, layer_of_shape}
use Rattle.edit_laws.proofs.Within.{IsWithin, AllWithin}
use Rattle.batch_laws.specs.Batch.{Change, before, at_key, after, puts, entry}
use Rattle.batch_laws.specs.Edge.{Edge, Clear, Waiting, Opened, edge_of, closed, rows_in, rows_of, next_of, with_pair, with_part, with_node, with_subtree, pruned, topmost}
use Rattle.batch_laws.specs.Walking.{depth_of, with_pairs, walk_part, walk_node, walk_top, batch_top}
use Rattle.batch_laws.specs.Trace.{opened_gone, closed_made, pair_gone, pair_made, part_gone, node_gone, part_made, node_made, subtree_gone, subtree_made, pruned_gone, top_gone, top_made, top_left, pairs_gone, pairs_made, walk_gone, walk_under_gone, walk_made, walk_under_made, batch_gone, batch_made}
use Rattle.batch_laws.specs.Links.{Rows, LinkEdge, LinkClear, LinkWaiting, LinkOpened, Log, and_then, ask, link_edge, rows_in_shape, onto_links, complete, closing, opened_rows, opening, add_row, under_rows, pairing, joined_row, noding, parting, subtreeing, pairs_in_turn, walking_node, walking, Top, log_shown, pruning_at, pruning, new_top, topping, walking_top, batch_from, Step}
use Rattle.std.specs.List.{AllByRecursion}
use Rattle.batch_laws.specs.Trace.{batch_read}

-- ---- all of some nodes

pub all-front : (P : Node → Type 0) (xs ys : List Node) → AllByRecursion P (xs ++ ys) → AllByRecursion P xs
all-front P [] ys h = tt
all-front P (x ∷ xs) ys h = (h.0, all-front P xs ys h.1)

pub all-back : (P : Node → Type 0) (xs ys : List Node) → AllByRecursion P (xs ++ ys) → AllByRecursion P ys
all-back P [] ys h = h
all-back P (x ∷ xs) ys h = all-back P xs ys h.1

pub all-both : (P : Node → Type 0) (xs ys : List Node) → AllByRecursion P xs → AllByRecursion P ys
    → AllByRecursion P (xs ++ ys)
all-both P [] ys h k = k
all-both P (x ∷ xs) ys h k = (h.0, all-both P xs ys h.1 k)

-- a step that has an answer
abbrev pub IsAnswered : {A : Type 0} → Step A → Type 0
IsAnswered (Err stop) = ⊥
IsAnswered (Ok x) = Unit {0}

pub first-answered : {A B : Type 0} (step : Step A) (f : A → Log → Step B) → IsAnswered (and_then step f)
    → IsAnswered step
first-answered (Err stop) f h = h
first-answered (Ok x) f h = tt

module _ (digest : List ℕ → List ℕ) (shows : List ℕ → Option Shape) where
  abbrev pub Shown : Node → Type 0
  Shown m = shows (shape_cid digest (shape digest m)) ≡ Some (shape digest m)

  -- nothing else is shown in its place
  abbrev pub Known : Node → Type 0
  Known m = (s : Shape) → shows (shape_cid digest (shape digest m)) ≡ Some s → s ≡ shape digest m

  abbrev pub AllShown : List Node → Type 0
  AllShown ms = AllByRecursion Shown ms

  -- so it is of each node of what waits
  abbrev pub HoldsEdge : Edge → Type 0
  HoldsEdge Clear = Unit {0}
  HoldsEdge (Waiting m) = Known m × EachUnder Known m
  HoldsEdge (Opened rows s) = HoldsEdge s

  abbrev Held : Part → Type 0
  Held p = EachNode Known p

  -- ---- what the shapes of rows, edges and nodes are

  abbrev pub links_of : List (Part × Pair) → Rows
  links_of [] = []
  links_of (x ∷ xs) = (part_link digest x.0, x.1) ∷ links_of xs

  abbrev pub links_edge : Edge → LinkEdge
  links_edge Clear = LinkClear
  links_edge (Waiting m) = LinkWaiting (shape_cid digest (shape digest m))
  links_edge (Opened rows s) = LinkOpened (links_of rows) (links_edge s)

  links-append : (xs ys : List (Part × Pair)) → links_of (xs ++ ys) ≡ links_of xs ++ links_of ys
  links-append [] ys = refl
  links-append (x ∷ xs) ys = ap (λ t. (part_link digest x.0, x.1) ∷ t) (links-append xs ys)

  links-rows : (m : Node) → rows_in_shape (shape digest m) ≡ links_of (rows_in m)
  links-rows (Last p) = refl
  links-rows (More p e r) = ap (λ t. (part_link digest p, e) ∷ t) (links-rows r)

  links-onto : (rows : List (Part × Pair)) (p : Part)
      → onto_links (links_of rows) (LastLink (part_link digest p)) ≡ shape digest (onto rows (Last p))
  links-onto [] p = refl
  links-onto (x ∷ xs) p = ap (MoreLinks (part_link digest x.0) x.1) (links-onto xs p)

  links-last : (m : Node) → last_link (shape digest m) ≡ part_link digest (last_part m)
  links-last (Last p) = refl
  links-last (More p e r) = links-last r

  links-edge_of : (p : Part) → link_edge (part_link digest p) ≡ links_edge (edge_of p)
  links-edge_of Nothing = refl
  links-edge_of (Sub m) = refl

  links-next : (m : Node) → link_edge (last_link (shape digest m)) ≡ links_edge (edge_of (last_part m))
  links-next m = ap link_edge (links-last m) ∙ links-edge_of (last_part m)

  close-link : (m : Node) → close_link digest (shape digest m) ≡ part_link digest (close m)
  close-link (Last Nothing) = refl
  close-link (Last (Sub m)) = refl
  close-link (More p e r) = refl

  close-shapes : (m : Node) → close_shapes (shape digest m) ≡ map (shape digest) (made_close m)
  close-shapes (Last Nothing) = refl
  close-shapes (Last (Sub m)) = refl
  close-shapes (More p e r) = refl

  -- ---- the log

  abbrev pub grow : Log → List Node → List Node → Log
  grow log gone made = record {
    read = log.read ++ map (shape digest) gone;
    made = log.made ++ map (shape digest) made;
  }

  logs : (xs ys zs ts : List Shape) → xs ≡ zs → ys ≡ ts
      → let l : Log = record { read = xs; made = ys } in l ≡ record { read = zs; made = ts }
  logs xs ys zs ts q r = rw (q, r) refl

  two : (xs : List Shape) (a b : List Node)
      → xs ++ map (shape digest) a ++ map (shape digest) b ≡ xs ++ map (shape digest) (a ++ b)
  two xs a b = append_assoc xs (map (shape digest) a) (map (shape digest) b)
      ∙ ap (λ t. xs ++ t) (sym (map-append (shape digest) a b))

  grow-grow : (l : Log) (g1 m1 g2 m2 : List Node) → grow (grow l g1 m1) g2 m2 ≡ grow l (g1 ++ g2) (m1 ++ m2)
  grow-grow l g1 m1 g2 m2 = logs _ _ _ _ (two l.read g1 g2) (two l.made m1 m2)

  grow-none : (l : Log) → l ≡ grow l [] []
  grow-none l = logs _ _ _ _ (sym (append-nil l.read)) (sym (append-nil l.made))

  -- a step gives this answer, reads this and makes that
  abbrev pub Does : {A : Type 0} → Step A → Log → A → List Node → List Node → Type 0
  Does step l a gone made = step ≡ Ok (a, grow l gone made)

  does-then : {A B : Type 0} (step : Step A) (f : A → Log → Step B) (l : Log) (a : A) (b : B)
      (g1 m1 g2 m2 : List Node) → Does step l a g1 m1 → Does (f a (grow l g1 m1)) (grow l g1 m1) b g2 m2
      → Does (and_then step f) l b (g1 ++ g2) (m1 ++ m2)
  does-then step f l a b g1 m1 g2 m2 h k = rw (h, k) (ap (λ t. Ok (b, t)) (grow-grow l g1 m1 g2 m2))

  does-lists : {A : Type 0} (step : Step A) (l : Log) (a : A) (g m g2 m2 : List Node) → g ≡ g2 → m ≡ m2
      → Does step l a g m → Does step l a g2 m2
  does-lists step l a g m g2 m2 q r h = h ∙ rw (q, r) refl

  does-under : (step : Step LinkEdge) (rows : List (Part × Pair)) (l : Log) (s : Edge) (g m : List Node)
      → Does step l (links_edge s) g m
      → Does (under_rows (links_of rows) step) l (links_edge (Opened rows s)) g m
  does-under step rows l s g m h = rw h refl

  does-same : {A : Type 0} (a : A) (l : Log) → Does (Ok (a, l)) l a [] []
  does-same a l = ap (λ t. Ok (a, t)) (grow-none l)

  ask-does : (m : Node) (s : LinkEdge) (l : Log) → Shown m → Does (ask shows (shape_cid digest (shape digest m)) s l) l
      (shape digest m) (m ∷ []) []
  ask-does m s l h = rw h (ap (λ t. Ok (shape digest m, t)) (logs _ _ _ _ refl (sym (append-nil l.made))))

  -- ---- a step has this answer where some nodes are shown, and none where one of them isn't

  abbrev pub Needs : {A : Type 0} → Step A → Log → A → List Node → List Node → List Node → Type 0
  Needs step l a need gone made = (AllShown need → Does step l a gone made) × (IsAnswered step → AllShown need)

  -- which are those that it reads
  abbrev Reads : {A : Type 0} → Step A → Log → A → List Node → List Node → Type 0
  Reads step l a gone made = Needs step l a gone gone made

  needs-then : {A B : Type 0} (step : Step A) (f : A → Log → Step B) (l : Log) (a : A) (b : B)
      (n1 g1 m1 n2 g2 m2 : List Node) → Needs step l a n1 g1 m1
      → Needs (f a (grow l g1 m1)) (grow l g1 m1) b n2 g2 m2
      → Needs (and_then step f) l b (n1 ++ n2) (g1 ++ g2) (m1 ++ m2)
  needs-then step f l a b n1 g1 m1 n2 g2 m2 h k = (
    λ all. does-then step f l a b g1 m1 g2 m2 (h.0 (all-front Shown n1 n2 all)) (k.0 (all-back Shown n1 n2 all)),
    λ answered.
        let first = h.1 (first-answered step f answered) in
        let rest = subst (λ t. IsAnswered (and_then t f)) (h.0 first) answered in
        all-both Shown n1 n2 first (k.1 rest),
  )

  reads-then : {A B : Type 0} (step : Step A) (f : A → Log → Step B) (l : Log) (a : A) (b : B)
      (g1 m1 g2 m2 : List Node) → Reads step l a g1 m1 → Reads (f a (grow l g1 m1)) (grow l g1 m1) b g2 m2
      → Reads (and_then step f) l b (g1 ++ g2) (m1 ++ m2)
  reads-then step f l a b g1 m1 g2 m2 h k = needs-then step f l a b g1 g1 m1 g2 g2 m2 h k

  reads-lists : {A : Type 0} (step : Step A) (l : Log) (a : A) (g m g2 m2 : List Node) → g ≡ g2 → m ≡ m2
      → Reads step l a g m → Reads step l a g2 m2
  reads-lists step l a g m g2 m2 q r h =
      subst (λ t. Reads step l a t m2) q (subst (λ t. Reads step l a g t) r h)

  reads-none : {A : Type 0} (step : Step A) (l : Log) (a : A) (m : List Node) → Does step l a [] m
      → Reads step l a [] m
  reads-none step l a m h = (λ all. h, λ answered. tt)

  reads-same : {A : Type 0} (a : A) (l : Log) → Reads (Ok (a, l)) l a [] []
  reads-same a l = reads-none (Ok (a, l)) l a [] (does-same a l)

  under-answered : (rows : Rows) (step : Step LinkEdge) → IsAnswered (under_rows rows step) → IsAnswered step
  under-answered rows (Ok x) h = tt
  under-answered rows (Err f) h = h

  reads-under : (step : Step LinkEdge) (rows : List (Part × Pair)) (l : Log) (s : Edge) (g m : List Node)
      → Reads step l (links_edge s) g m
      → Reads (under_rows (links_of rows) step) l (links_edge (Opened rows s)) g m
  reads-under step rows l s g m h = (
    λ all. does-under step rows l s g m (h.0 all),
    λ answered. h.1 (under-answered (links_of rows) step answered),
  )

  pub logged-shown : (m : Node) (s : LinkEdge) (l : Log) → Known m → (o : Option Shape) → shows (shape_cid digest (shape digest m)) ≡ o
      → IsAnswered (log_shown (shape_cid digest (shape digest m)) s o l) → Shown m
  logged-shown m s l known None q h = absurd h
  logged-shown m s l known (Some t) q h = q ∙ ap (λ x. Some x) (known t q)

  ask-reads : (m : Node) (s : LinkEdge) (l : Log) → Known m → Reads (ask shows (shape_cid digest (shape digest m)) s l) l
      (shape digest m) (m ∷ []) []
  ask-reads m s l known = (
    λ all. ask-does m s l all.0,
    λ answered. (logged-shown m s l known (shows (shape_cid digest (shape digest m))) refl answered, tt),
  )

  -- ---- the edge

  complete-does : (rows : List (Part × Pair)) (p : Part) (l : Log) → let m = onto rows (Last p) in
      complete digest (links_of rows) (part_link digest p, l)
      ≡ (part_link digest (close m), grow l [] (made_close m))
  complete-does rows p l =
      let m = onto rows (Last p) in
      rw (links-onto rows p, close-link m, close-shapes m)
      (ap (λ t. (part_link digest (close m), t)) (logs _ _ _ _ (sym (append-nil l.read)) refl))

  closing-does : (s : Edge) (l : Log)
      → closing digest (links_edge s) l ≡ (part_link digest (closed s), grow l [] (closed_made s))
  closing-does Clear l = ap (λ t. (None, t)) (grow-none l)
  closing-does (Waiting m) l = ap (λ t. (Some (shape_cid digest (shape digest m)), t)) (grow-none l)
  closing-does (Opened rows s) l =
      let m = onto rows (Last (closed s)) in
      ap (complete digest (links_of rows)) (closing-does s l)
      ∙ complete-does rows (closed s) (grow l [] (closed_made s))
      ∙ ap (λ t. (part_link digest (close m), t)) (grow-grow l [] (closed_made s) [] (made_close m))

  opened-rows-does : (m : Node) (l : Log)
      → Does (opened_rows (shape digest m) l) l (links_of (rows_in m), links_edge (edge_of (last_part m))) [] []
  opened-rows-does m l = rw (links-rows m, links-next m) (does-same _ l)

  opening-reads : (s : Edge) (l : Log) → HoldsEdge s
      → Reads (opening shows (links_edge s) l) l (links_of (rows_of s), links_edge (next_of s)) (opened_gone s) []
  opening-reads Clear l h = reads-same _ l
  opening-reads (Waiting m) l h =
      reads-then _ opened_rows l (shape digest m) _ (m ∷ []) [] [] [] (ask-reads m _ l h.0)
      (reads-none _ (grow l (m ∷ []) []) _ [] (opened-rows-does m (grow l (m ∷ []) [])))
  opening-reads (Opened rows s) l h = reads-same _ l

  add-does : (e : Pair) (rows : List (Part × Pair)) (s : Edge) (l : Log)
      → Does (add_row e (links_of rows) (closing digest (links_edge s) l)) l
      (links_edge (Opened (rows ++ ((closed s, e) ∷ [])) Clear)) [] (closed_made s)
  add-does e rows s l =
      ap (add_row e (links_of rows)) (closing-does s l)
      ∙ ap (λ t. Ok (LinkOpened t LinkClear, grow l [] (closed_made s)))
      (sym (links-append rows ((closed s, e) ∷ [])))

  -- ---- what waits is held

  held-last : (m : Node) → EachUnder Known m → Held (last_part m)
  held-last (Last p) h = h
  held-last (More p e r) h = held-last r h.1

  holds-edge_of : (p : Part) → Held p → HoldsEdge (edge_of p)
  holds-edge_of Nothing h = tt
  holds-edge_of (Sub m) h = h

  holds-next : (s : Edge) → HoldsEdge s → HoldsEdge (next_of s)
  holds-next Clear h = tt
  holds-next (Waiting m) h = holds-edge_of (last_part m) (held-last m h.1)
  holds-next (Opened rows s) h = h

  holds-pair : (d : ℕ) (e : Pair) (s : Edge) → HoldsEdge s → HoldsEdge (with_pair d e s)
  holds-pair zero e s h = tt
  holds-pair (suc d) e s h = holds-pair d e (next_of s) (holds-next s h)

  mutual
    holds-part : (p : Part) (s : Edge) → Held p → HoldsEdge s → HoldsEdge (with_part p s)
    holds-part Nothing s k h = h
    holds-part (Sub m) Clear k h = k
    holds-part (Sub m) (Waiting b) k h =
        holds-node m (rows_in b) (edge_of (last_part b)) k.1 (holds-next (Waiting b) h)
    holds-part (Sub m) (Opened rows s) k h = holds-node m rows s k.1 h

    holds-node : (m : Node) (rows : List (Part × Pair)) (s : Edge) → EachUnder Known m → HoldsEdge s
        → HoldsEdge (with_node m rows s)
    holds-node (Last p) rows s k h = holds-part p s k h
    holds-node (More p e r) rows s k h = holds-edge_of (last_part r) (held-last r k.1)

  holds-subtree : (d : ℕ) (m : Node) (s : Edge) → Held (Sub m) → HoldsEdge s → HoldsEdge (with_subtree d m s)
  holds-subtree zero m s k h = holds-part (Sub m) s k h
  holds-subtree (suc d) m s k h = holds-subtree d m (next_of s) k (holds-next s h)

  -- ---- a pair, a part, a subtree

  pairing-reads : (d : ℕ) (e : Pair) (s : Edge) (l : Log) → HoldsEdge s
      → Reads (pairing digest shows d e (links_edge s) l) l (links_edge (with_pair d e s)) (pair_gone d s) (pair_made d s)
  pairing-reads zero e s l h =
      reads-lists _ l _ (opened_gone s ++ []) ([] ++ closed_made (next_of s)) (opened_gone s) (closed_made (next_of s))
      (append-nil (opened_gone s)) refl
      (reads-then _ (λ o log1. add_row e o.0 (closing digest o.1 log1)) l _ _ (opened_gone s) [] []
      (closed_made (next_of s)) (opening-reads s l h)
      (reads-none _ (grow l (opened_gone s) []) _ (closed_made (next_of s))
      (add-does e (rows_of s) (next_of s) (grow l (opened_gone s) []))))
  pairing-reads (suc d) e s l h =
      let l1 = grow l (opened_gone s) [] in
      let i = pairing-reads d e (next_of s) l1 (holds-next s h) in
      reads-then _ (λ o log1. under_rows o.0 (pairing digest shows d e o.1 log1)) l _ _ (opened_gone s) []
      (pair_gone d (next_of s)) (pair_made d (next_of s)) (opening-reads s l h)
      (reads-under _ (rows_of s) l1 (with_pair d e (next_of s)) _ _ i)

  abbrev PartingReads : ℕ → Type 0
  PartingReads k = (p : Part) (s : Edge) (l : Log) → IsWithin k p → Held p → HoldsEdge s
      → Reads (parting digest shows k (part_link digest p) (links_edge s) l) l (links_edge (with_part p s)) (part_gone p s)
      (part_made p s)

  -- a node after what comes below the rows before it
  abbrev join_row : Pair → Rows → Shape → Option (List ℕ) × Log → Step LinkEdge
  join_row e rows r below =
      Ok (LinkOpened (rows ++ ((below.0, e) ∷ rows_in_shape r)) (link_edge (last_link r)), below.1)

  joined-is : (e : Pair) (rows : List (Part × Pair)) (r : Node) (s : Edge) (l : Log)
      → Does (join_row e (links_of rows) (shape digest r) (closing digest (links_edge s) l)) l
      (links_edge (Opened (rows ++ ((closed s, e) ∷ rows_in r)) (edge_of (last_part r)))) [] (closed_made s)
  joined-is e rows r s l =
      ap (join_row e (links_of rows) (shape digest r)) (closing-does s l)
      ∙ rw (links-rows r, links-next r)
      (ap (λ t. Ok (LinkOpened t (links_edge (edge_of (last_part r))), grow l [] (closed_made s)))
      (sym (links-append rows ((closed s, e) ∷ rows_in r))))

  joined-does : (e : Pair) (rows : List (Part × Pair)) (r : Node) (s : Edge) (l : Log) (step : Step LinkEdge)
      (g m : List Node) → Does step l (links_edge s) g m
      → Does (joined_row digest e (links_of rows) (shape digest r) step) l
      (links_edge (Opened (rows ++ ((closed s, e) ∷ rows_in r)) (edge_of (last_part r)))) (g ++ []) (m ++ closed_made s)
  joined-does e rows r s l step g m h =
      ap (joined_row digest e (links_of rows) (shape digest r)) h
      ∙ joined-is e rows r s (grow l g m)
      ∙ ap (λ t. Ok (links_edge (Opened (rows ++ ((closed s, e) ∷ rows_in r)) (edge_of (last_part r))), t))
      (grow-grow l g m [] (closed_made s))

  joined-answered : (e : Pair) (rows : Rows) (r : Shape) (step : Step LinkEdge)
      → IsAnswered (joined_row digest e rows r step) → IsAnswered step
  joined-answered e rows r (Ok x) h = tt
  joined-answered e rows r (Err f) h = h

  joined-reads : (e : Pair) (rows : List (Part × Pair)) (r : Node) (s : Edge) (l : Log) (step : Step LinkEdge)
      (g m : List Node) → Reads step l (links_edge s) g m
      → Reads (joined_row digest e (links_of rows) (shape digest r) step) l
      (links_edge (Opened (rows ++ ((closed s, e) ∷ rows_in r)) (edge_of (last_part r)))) g (m ++ closed_made s)
  joined-reads e rows r s l step g m h = (
    λ all. does-lists _ l _ (g ++ []) (m ++ closed_made s) g (m ++ closed_made s) (append-nil g) refl
        (joined-does e rows r s l step g m (h.0 all)),
    λ answered. h.1 (joined-answered e (links_of rows) (shape digest r) step answered),
  )

  noding-reads : (k : ℕ) → PartingReads k → (m : Node) (rows : List (Part × Pair)) (s : Edge) (l : Log) → AllWithin k m
      → EachUnder Known m → HoldsEdge s
      → Reads (noding digest (parting digest shows k) (links_of rows) (links_edge s) (shape digest m) l) l
      (links_edge (with_node m rows s)) (node_gone m s) (node_made m s)
  noding-reads k ih (Last p) rows s l w v h = reads-under _ rows l (with_part p s) _ _ (ih p s l w v h)
  noding-reads k ih (More p e r) rows s l w v h =
      joined-reads e rows r (with_part p s) l _ (part_gone p s) (part_made p s) (ih p s l w.0 v.0 h)

  -- a node is read and comes where a node is open
  asked-reads : (k : ℕ) → PartingReads k → (m : Node) (rows : List (Part × Pair)) (s : Edge) (at : LinkEdge) (l : Log)
      → AllWithin k m
      → Known m → EachUnder Known m → HoldsEdge s
      → Reads (and_then (ask shows (shape_cid digest (shape digest m)) at l)
      (noding digest (parting digest shows k) (links_of rows) (links_edge s))) l
      (links_edge (with_node m rows s)) (m ∷ node_gone m s) (node_made m s)
  asked-reads k ih m rows s at l w v u h =
      reads-then _ (noding digest (parting digest shows k) (links_of rows) (links_edge s)) l (shape digest m) _
      (m ∷ []) [] (node_gone m s) (node_made m s) (ask-reads m at l v)
      (noding-reads k ih m rows s (grow l (m ∷ []) []) w u h)

  parting-reads : (k : ℕ) → PartingReads k
  parting-reads zero Nothing s l w v h = reads-same _ l
  parting-reads zero (Sub m) s l w v h = absurd w
  parting-reads (suc k) Nothing s l w v h = reads-same _ l
  parting-reads (suc k) (Sub m) Clear l w v h = reads-same _ l
  parting-reads (suc k) (Sub m) (Waiting b) l w v h =
      let c = shape_cid digest (shape digest m) in
      let l1 = grow l (b ∷ []) [] in
      reads-then _ (λ t log1. and_then (ask shows c (LinkOpened (rows_in_shape t) (link_edge (last_link t))) log1)
      (noding digest (parting digest shows k) (rows_in_shape t) (link_edge (last_link t)))) l (shape digest b) _
      (b ∷ []) [] (m ∷ node_gone m (edge_of (last_part b))) (node_made m (edge_of (last_part b))) (ask-reads b _ l h.0)
      (rw (links-rows b, links-next b)
      (asked-reads k (parting-reads k) m (rows_in b) (edge_of (last_part b)) _ l1 w v.0 v.1 (holds-next (Waiting b) h)))
  parting-reads (suc k) (Sub m) (Opened rows s) l w v h =
      asked-reads k (parting-reads k) m rows s _ l w v.0 v.1 h

  subtreeing-reads : (k d : ℕ) (m : Node) (s : Edge) (l : Log) → IsWithin k (Sub m) → Held (Sub m) → HoldsEdge s
      → Reads (subtreeing digest shows k d (shape_cid digest (shape digest m)) (links_edge s) l) l
      (links_edge (with_subtree d m s)) (subtree_gone d m s) (subtree_made d m s)
  subtreeing-reads k zero m s l w v h = parting-reads k (Sub m) s l w v h
  subtreeing-reads k (suc d) m s l w v h =
      let c = shape_cid digest (shape digest m) in
      let l1 = grow l (opened_gone s) [] in
      let i = subtreeing-reads k d m (next_of s) l1 w v (holds-next s h) in
      reads-then _ (λ o log1. under_rows o.0 (subtreeing digest shows k d c o.1 log1)) l _ _ (opened_gone s)
      [] (subtree_gone d m (next_of s)) (subtree_made d m (next_of s)) (opening-reads s l h)
      (reads-under _ (rows_of s) l1 (with_subtree d m (next_of s)) _ _ i)

  -- ---- the walk

  holds-pairs : (depth : List ℕ → ℕ) (ps : List Pair) (s : Edge) → HoldsEdge s → HoldsEdge (with_pairs depth ps s)
  holds-pairs depth [] s h = h
  holds-pairs depth (p ∷ ps) s h =
      let d = depth p.0 in holds-pairs depth ps (with_pair d p s) (holds-pair d p s h)

  pairs-read : (depth : List ℕ → ℕ) (ps : List Pair) (s : Edge) (l : Log) → HoldsEdge s
      → Reads (pairs_in_turn digest shows depth ps (links_edge s) l) l (links_edge (with_pairs depth ps s))
      (pairs_gone depth ps s) (pairs_made depth ps s)
  pairs-read depth [] s l h = reads-same _ l
  pairs-read depth (p ∷ ps) s l h =
      let d = depth p.0 in
      let t = with_pair d p s in
      reads-then _ (pairs_in_turn digest shows depth ps) l (links_edge t) _ (pair_gone d s) (pair_made d s)
      (pairs_gone depth ps t) (pairs_made depth ps t) (pairing-reads d p s l h)
      (pairs-read depth ps t (grow l (pair_gone d s) (pair_made d s)) (holds-pair d p s h))

  module _ (layer : List ℕ → ℕ) (n : ℕ) where
    mutual
      holds-walk : (d : ℕ) (p : Part) (cs : List Change) (s : Edge) → Held p → HoldsEdge s
          → HoldsEdge (walk_part layer n d p cs s)
      holds-walk d Nothing cs s v h = holds-pairs (depth_of layer n) (puts cs) s h
      holds-walk d (Sub m) [] s v h = holds-subtree d m s v h
      holds-walk d (Sub m) (c ∷ cs) s v h = holds-walk_node d m (c ∷ cs) s v.1 h

      holds-walk_node : (d : ℕ) (m : Node) (cs : List Change) (s : Edge) → EachUnder Known m → HoldsEdge s
          → HoldsEdge (walk_node layer n d m cs s)
      holds-walk_node d (Last p) cs s v h = holds-walk (suc d) p cs s v h
      holds-walk_node d (More p e r) cs s v h =
          holds-walk_node d r (after e.0 cs) _ v.1
          (holds-pairs (λ key. d) (entry (at_key e.0 cs) e) _ (holds-walk (suc d) p (before e.0 cs) s v.0 h))

    abbrev WalkingReads : ℕ → Type 0
    WalkingReads k = (d : ℕ) (p : Part) (cs : List Change) (s : Edge) (l : Log) → IsWithin k p → Held p → HoldsEdge s
        → Reads (walking digest shows layer n k d (part_link digest p) cs (links_edge s) l) l
        (links_edge (walk_part layer n d p cs s)) (walk_gone layer n d p cs s) (walk_made layer n d p cs s)

    walking_node-reads : (k : ℕ) → WalkingReads k → (d : ℕ) (m : Node) (cs : List Change) (s : Edge) (l : Log)
        → AllWithin k m → EachUnder Known m → HoldsEdge s
        → Reads (walking_node digest shows d (walking digest shows layer n k (suc d)) cs (links_edge s)
        (shape digest m) l) l
        (links_edge (walk_node layer n d m cs s)) (walk_under_gone layer n d m cs s) (walk_under_made layer n d m cs s)
    walking_node-reads k ih d (Last p) cs s l w v h = ih (suc d) p cs s l w v h
    walking_node-reads k ih d (More p e r) cs s l w v h =
        let gap = walking digest shows layer n k (suc d) in
        let s1 = walk_part layer n (suc d) p (before e.0 cs) s in
        let ps = entry (at_key e.0 cs) e in
        let s2 = with_pairs (λ key. d) ps s1 in
        let g1 = walk_gone layer n (suc d) p (before e.0 cs) s in
        let m1 = walk_made layer n (suc d) p (before e.0 cs) s in
        let g2 = pairs_gone (λ key. d) ps s1 in
        let m2 = pairs_made (λ key. d) ps s1 in
        let l1 = grow l g1 m1 in
        let h1 = holds-walk (suc d) p (before e.0 cs) s v.0 h in
        reads-then _ (λ t log1. and_then (pairs_in_turn digest shows (λ key. d) ps t log1) (λ u log2.
        walking_node digest shows d gap (after e.0 cs) u (shape digest r) log2)) l (links_edge s1) _ g1 m1
        (g2 ++ walk_under_gone layer n d r (after e.0 cs) s2) (m2 ++ walk_under_made layer n d r (after e.0 cs) s2)
        (ih (suc d) p (before e.0 cs) s l w.0 v.0 h)
        (reads-then _ (λ u log2. walking_node digest shows d gap (after e.0 cs) u (shape digest r) log2) l1
        (links_edge s2) _ g2 m2 (walk_under_gone layer n d r (after e.0 cs) s2)
        (walk_under_made layer n d r (after e.0 cs) s2) (pairs-read (λ key. d) ps s1 l1 h1)
        (walking_node-reads k ih d r (after e.0 cs) s2 (grow l1 g2 m2) w.1 v.1 (holds-pairs (λ key. d) ps s1 h1)))

    walking-reads : (k : ℕ) → WalkingReads k
    walking-reads zero d Nothing cs s l w v h = pairs-read (depth_of layer n) (puts cs) s l h
    walking-reads zero d (Sub m) cs s l w v h = absurd w
    walking-reads (suc k) d Nothing cs s l w v h = pairs-read (depth_of layer n) (puts cs) s l h
    walking-reads (suc k) d (Sub m) [] s l w v h = subtreeing-reads (suc k) d m s l w v h
    walking-reads (suc k) d (Sub m) (c ∷ cs) s l w v h =
        reads-then _ (walking_node digest shows d (walking digest shows layer n k (suc d)) (c ∷ cs) (links_edge s)) l
        (shape digest m) _ (m ∷ []) [] (walk_under_gone layer n d m (c ∷ cs) s)
        (walk_under_made layer n d m (c ∷ cs) s) (ask-reads m _ l v.0)
        (walking_node-reads k (walking-reads k) d m (c ∷ cs) s (grow l (m ∷ []) []) w v.1 h)

  -- ---- the top

  -- the CID of a node, and the nodes that stay
  abbrev pub top_of : Node → List Node → Top
  top_of m left = (shape_cid digest (shape digest m), map (shape digest) left)

  pruned-shown : (further : List ℕ → Log → Step Top) (m : Node) (l : Log) → Known m → (o : Option Shape)
      → shows (shape_cid digest (shape digest m)) ≡ o
      → IsAnswered (pruning_at further (shape_cid digest (shape digest m)) l o) → Shown m
  pruned-shown further m l known None q h = absurd h
  pruned-shown further m l known (Some s) q h = q ∙ ap (λ t. Some t) (known s q)

  pruning-reads : (k : ℕ) (m : Node) (l : Log) → IsWithin k (Sub m) → Held (Sub m)
      → Needs (pruning shows k (shape_cid digest (shape digest m)) l) l (top_of (pruned m) (pruned m ∷ []))
      (pruned_gone m ++ (pruned m ∷ [])) (pruned_gone m) []
  pruning-reads zero m l w v = absurd w
  pruning-reads (suc k) (Last Nothing) l w v = (
    λ all. rw all.0 (does-same _ l),
    λ answered. (pruned-shown (pruning shows k) (Last Nothing) l v.0 _ refl answered, tt),
  )
  pruning-reads (suc k) (Last (Sub m)) l w v =
      let own = Last (Sub m) in
      let i = pruning-reads k m (grow l (own ∷ []) []) w v.1 in
      let more = ap (pruning shows k (shape_cid digest (shape digest m)))
      (logs (l.read ++ (shape digest own ∷ [])) l.made _ _ refl (sym (append-nil l.made))) in (
        λ all. rw all.0 (more ∙ i.0 all.1 ∙ ap (λ t. Ok (top_of (pruned m) (pruned m ∷ []), t))
            (grow-grow l (own ∷ []) [] (pruned_gone m) [])),
        λ answered.
            let first = pruned-shown (pruning shows k) own l v.0 _ refl answered in
            let rest = subst (λ o. IsAnswered (pruning_at (pruning shows k) (shape_cid digest (shape digest own)) l o))
            first answered in
            (first, i.1 (subst (λ t. IsAnswered t) more rest)),
      )
  pruning-reads (suc k) (More p e r) l w v = (
    λ all. rw all.0 (does-same _ l),
    λ answered. (pruned-shown (pruning shows k) (More p e r) l v.0 _ refl answered, tt),
  )

  new_top-does : (rows : List (Part × Pair)) (p : Part) (l : Log) → let m = onto rows (Last p) in
      Does (new_top digest (links_of rows) (part_link digest p, l)) l (top_of m []) [] (m ∷ [])
  new_top-does rows p l =
      rw (links-onto rows p)
      (ap (λ t. Ok (top_of (onto rows (Last p)) [], t)) (logs _ _ _ _ (sym (append-nil l.read)) refl))

  -- what waits has at most so many layers
  abbrev pub WithinEdge : ℕ → Edge → Type 0
  WithinEdge n Clear = Unit {0}
  WithinEdge n (Waiting m) = IsWithin n (Sub m)
  WithinEdge n (Opened rows s) = WithinEdge n s

  topping-reads : (n : ℕ) (s : Edge) (l : Log) → WithinEdge n s → HoldsEdge s
      → Needs (topping digest shows n (links_edge s) l) l (top_of (topmost s) (top_left s)) (top_gone s ++ top_left s)
      (top_gone s) (top_made s)
  topping-reads n Clear l w h = (λ all. new_top-does [] Nothing l, λ answered. tt)
  topping-reads n (Waiting m) l w h = pruning-reads n m l w h
  topping-reads n (Opened [] s) l w h = topping-reads n s l w h
  topping-reads n (Opened (x ∷ rows) s) l w h = (
    λ all. ap (new_top digest (links_of (x ∷ rows))) (closing-does s l)
        ∙ new_top-does (x ∷ rows) (closed s) (grow l [] (closed_made s))
        ∙ ap (λ t. Ok (top_of (onto (x ∷ rows) (Last (closed s))) [], t)) (grow-grow l [] (closed_made s) [] _),
    λ answered. tt,
  )

  -- ---- the whole tree

  layer-same : (layer : List ℕ → ℕ) (m : Node) → layer_of_shape layer (shape digest m) ≡ layer_of layer m
  layer-same layer (Last p) = refl
  layer-same layer (More p e r) = refl

  abbrev pub NeedsBatch : (List ℕ → ℕ) → ℕ → List Change → Node → Type 0
  NeedsBatch layer n cs m =
      Needs (batch_from digest shows layer n cs (shape_cid digest (shape digest m))) (record { read = []; made = [] })
      (top_of (batch_top layer n cs m) (top_left (walk_top layer n cs m))) (batch_read layer n cs m)
      (batch_gone layer n cs m) (batch_made layer n cs m)

  pub batch-needs : (layer : List ℕ → ℕ) (n : ℕ) (cs : List Change) (m : Node) → AllWithin (layer_of layer m) m
      → Held (Sub m) → WithinEdge n (walk_top layer n cs m) → NeedsBatch layer n cs m
  batch-needs layer n cs m w v u =
      let t = layer_of layer m in
      let d = n - suc t in
      let s = walk_top layer n cs m in
      let l0 : Log = record { read = []; made = [] } in
      let g = walk_under_gone layer n d m cs Clear in
      let k = walk_under_made layer n d m cs Clear in
      let l1 = grow l0 (m ∷ []) [] in
      let gone = top_gone s in
      let left = top_left s in
      let walked : Reads (walking_top digest shows layer n cs (shape digest m) l1) l1 (links_edge s) g k =
      rw (layer-same layer m) (walking_node-reads layer n t (walking-reads layer n t) d m cs Clear l1 w v.1 tt) in
      let h = holds-walk_node layer n d m cs Clear v.1 tt in
      let step = batch_from digest shows layer n cs (shape_cid digest (shape digest m)) in
      let top = top_of (batch_top layer n cs m) left in
      let all : Needs step l0 top (m ∷ (g ++ (gone ++ left))) (m ∷ (g ++ gone)) (k ++ top_made s) =
      needs-then _ (λ x log. and_then (walking_top digest shows layer n cs x log) (topping digest shows n)) l0
      (shape digest m) _ (m ∷ []) (m ∷ []) [] (g ++ (gone ++ left)) (g ++ gone) (k ++ top_made s) (ask-reads m LinkClear l0 v.0)
      (needs-then _ (topping digest shows n) l1 (links_edge s) _ g g k (gone ++ left) gone (top_made s) walked
      (topping-reads n s (grow l1 g k) u h)) in
      subst (λ need. Needs step l0 top need (m ∷ (g ++ gone)) (k ++ top_made s))
      (ap (λ xs. m ∷ xs) (sym (append_assoc g gone left))) all
