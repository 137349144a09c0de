-- One delete reads the path of its key, what meets where the key stood, and the chain that is pruned, whatever the source
-- shows.
use Rattle.std.proofs.Common.{◌≡◌, ℕ, zero, suc, ◌-◌, ◌<◌, ◌≤◌, List, [], ◌∷◌, ◌++◌, refl, sym, ap, subst, ◌∙◌, arith, append_assoc, Option, Ok, Err}
use Rattle.std.proofs.lemmas.List.{append-nil}
use Rattle.std.specs.declared.option.Option.TheVariants.{Some, None}
use Rattle.std.specs.declared.cmp.Ordering.{Ordering}
use Rattle.std.specs.declared.cmp.Ordering.TheVariants.{Less, Equal, Greater}
use Rattle.spec.specs.Tree.{Pair}
use Rattle.spec.specs.NodeFormat.{Shape, LastLink, MoreLinks, first_link}
use Rattle.edit_laws.specs.Order.{order}
use Rattle.edit_laws.specs.PathEdit.{flat, lowest_shape, prune_link, delete_read}
use Rattle.edit_laws.specs.ShapeEdit.{last_shape, layer_of_shape, links_beside, single_shape, trim_links}
use Rattle.edit_laws.specs.Sources.{gap, value_at, value_from, path_from, path_at, seam_from, delete_seam_from, pruned_from}
use Rattle.edit_laws.proofs.Orders.{order-equal, order-same, turned, turned_back}
use Rattle.batch_laws.specs.Batch.{Change}
use Rattle.batch_laws.specs.Links.{LinkEdge, LinkClear, LinkWaiting, Log, with_read, and_then, log_shown, parting, pairs_in_turn, walking_node, walking, walking_top, Top, topping, Step}
use Rattle.batch_laws.specs.Written.{OnAnswer}
use Rattle.batch_laws.specs.Paths.{IsWhole, IsWholeAt, IsWholeSeam, IsWholeChain, IsDeleteRead}
use Rattle.batch_laws.specs.Previous.{previous_top}
use Rattle.batch_laws.specs.Laws.Reads.{OneDeleteReads}
use Rattle.batch_laws.proofs.LinkQuiet.{Calm, Quiet, HasPair, place, calm-quiet, calm-less, quiet-more, calm-place, has-place, placed, subtree-first, subtree-second, Unread, IsPairAt, one-calm, IsStill, still-part, still-node, unread-then}
use Rattle.batch_laws.proofs.OnePrevious.{found-enough, one-node, one-part}
use Rattle.batch_laws.proofs.PutReads.{Reads, after-unread, before-unread, path-none, whole-none, enough}
use Rattle.batch_laws.proofs.SeamReads.{top_link, top-pair, top-place, seam-left, seam-right, whole-left, whole-right, seam-enough, chain-enough, IsSeam, seam-reads, ChainReads, top-reads}

then-assoc : {A B C : Type 0} (o : Step A) (f : A → Log → Step B) (g : B → Log → Step C)
    → and_then (and_then o f) g ≡ and_then o (λ a l. and_then (f a l) g)
then-assoc (Err stop) f g = refl
then-assoc (Ok x) f g = refl

module _ (digest : List ℕ → List ℕ) (shows : List ℕ → Option Shape) (layer : List ℕ → ℕ) (n : ℕ) (key : List ℕ)
    (most : ℕ) where
  abbrev one : List Change
  one = (key, None) ∷ []

  abbrev walked : ℕ → ℕ → Option (List ℕ) → List Change → LinkEdge → Log → Step LinkEdge
  walked k d = walking digest shows layer n k d

  -- the links beside the key in the lowest of some nodes
  abbrev beside : Shape → List Shape → Option (List ℕ) × Option (List ℕ)
  beside m path = links_beside key (last_shape m path)

  abbrev seam : Shape → List Shape → List (Shape × Shape)
  seam m path = let x = beside m path in seam_from shows most x.0 x.1

  abbrev Whole : Shape → List Shape → Type 0
  Whole m path = let x = beside m path in IsWholeSeam shows most x.0 x.1

  -- of a node in which the key has the same place
  beside-same : (m r : Shape) (path : List Shape) → links_beside key m ≡ links_beside key r
      → beside m path ≡ beside r path
  beside-same m r [] q = q
  beside-same m r (s ∷ ss) q = refl

  abbrev below : ℕ → Shape → List Shape
  below k m = path_from shows k key (gap key m)

  -- ---- the two gaps beside the key

  record IsJoined (d : ℕ) (x y : Option (List ℕ)) (s t : LinkEdge) : Type 0 where
    whole : IsWholeSeam shows most x y
    calm : Calm (suc d) t
    pair : HasPair s → HasPair t
    prune : s ≡ LinkClear → top_link t ≡ trim_links x y (seam_from shows most x y)

  abbrev two : ℕ → ℕ → Option (List ℕ) → Option (List ℕ) → LinkEdge → Log → Step LinkEdge
  two k d x y s log = and_then (walked k (suc d) x [] s log) (walked k (suc d) y [])

  joined-none : (d : ℕ) (s : LinkEdge) (log : Log) → Quiet (suc d) s
      → (log.read ≡ log.read ++ flat (seam_from shows most None None)) × IsJoined d None None s s
  joined-none d s log h =
      let e = seam-left shows most None in (
        sym (append-nil log.read) ∙ ap (λ ss. log.read ++ flat ss) (sym e),
        record {
          whole = whole-left shows most None;
          calm = calm-quiet (suc d) (suc d) s h;
          pair = λ p. p;
          prune = λ q. ap top_link q ∙ sym (ap (trim_links None None) e);
        },
      )

  joined-one : (d : ℕ) (x y : Option (List ℕ)) (c : List ℕ) (s : LinkEdge) (log : Log) → Quiet (suc d) s
      → seam_from shows most x y ≡ [] → IsWholeSeam shows most x y → Some c ≡ trim_links x y []
      → (log.read ≡ log.read ++ flat (seam_from shows most x y)) × IsJoined d x y s (place (suc d) (LinkWaiting c) s)
  joined-one d x y c s log h e w q = (
    sym (append-nil log.read) ∙ ap (λ ss. log.read ++ flat ss) (sym e),
    record {
      whole = w;
      calm = calm-place (suc d) (LinkWaiting c) s h;
      pair = has-place (suc d) (LinkWaiting c) s h;
      prune = λ k. ap (λ t. top_link (place (suc d) (LinkWaiting c) t)) k ∙ top-place (suc d) (LinkWaiting c) ∙ q
          ∙ sym (ap (trim_links x y) e);
    },
  )

  joined-both : (k d : ℕ) (c b : List ℕ) (s : LinkEdge) (log : Log) → k ≤ most → Quiet (suc d) s
      → (o : Step LinkEdge)
      → Reads o log (flat (seam_from shows k (Some c) (Some b))) (IsSeam digest shows k (Some c) (Some b))
      → Reads (placed digest shows (suc d) s o) log (flat (seam_from shows most (Some c) (Some b)))
      (IsJoined d (Some c) (Some b) s)
  joined-both k d c b s log l h (Err stop) j = tt
  joined-both k d c b s log l h (Ok x) j =
      let e = seam-enough shows k most (Some c) (Some b) l j.1.0 in (
        j.0 ∙ ap (λ ss. log.read ++ flat ss) e.0,
        record {
          whole = e.1;
          calm = calm-place (suc d) x.0 s h;
          pair = has-place (suc d) x.0 s h;
          prune = λ q. ap (λ t. top_link (place (suc d) x.0 t)) q ∙ top-place (suc d) x.0 ∙ j.1.1
              ∙ ap (trim_links (Some c) (Some b)) e.0;
        },
      )

  two-reads : (k d : ℕ) (x y : Option (List ℕ)) (s : LinkEdge) (log : Log) → k ≤ most → Quiet (suc d) s
      → Reads (two k d x y s log) log (flat (seam_from shows most x y)) (IsJoined d x y s)
  two-reads zero d None None s log l h = joined-none d s log h
  two-reads zero d None (Some b) s log l h = tt
  two-reads zero d (Some c) y s log l h = tt
  two-reads (suc k) d None None s log l h = joined-none d s log h
  two-reads (suc k) d None (Some b) s log l h =
      rw (subtree-first digest shows k (suc d) b s log h)
      (joined-one d None (Some b) b s log h (seam-left shows most (Some b)) (whole-left shows most (Some b)) refl)
  two-reads (suc k) d (Some c) None s log l h =
      rw (subtree-first digest shows k (suc d) c s log h)
      (joined-one d (Some c) None c s log h (seam-right shows most (Some c)) (whole-right shows most (Some c)) refl)
  two-reads (suc k) d (Some c) (Some b) s log l h =
      rw (subtree-first digest shows k (suc d) c s log h, subtree-second digest shows (suc k) (suc d) b (LinkWaiting c) s log h)
      (joined-both (suc k) d c b s log l h (parting digest shows (suc k) (Some b) (LinkWaiting c) log)
      (seam-reads digest shows (suc k) (Some c) (Some b) log))

  -- ---- a node

  -- where the top is the key's node, its one key goes or another one is there
  abbrev Prunes : Shape → List (Shape × Shape) → LinkEdge → Type 0
  Prunes (LastLink l) ss t = Unit {0}
  Prunes (MoreLinks l e r) ss t = top_link t ≡ single_shape key (MoreLinks l e r) (λ x y. trim_links x y ss) None

  record IsGone (k d : ℕ) (m : Shape) (s t : LinkEdge) : Type 0 where
    path : IsWhole shows k key (gap key m)
    whole : Whole m (below k m)
    calm : Calm (suc d) t
    pair : HasPair s → HasPair t
    prune : s ≡ LinkClear → Prunes m (seam m (below k m)) t

  record IsPartGone (k d : ℕ) (l : Option (List ℕ)) (s t : LinkEdge) : Type 0 where
    path : IsWhole shows k key l
    whole : Whole (LastLink l) (path_from shows k key l)
    calm : Calm d t
    pair : HasPair s → HasPair t

  abbrev node_reads : ℕ → Shape → List Shape
  node_reads k m = below k m ++ flat (seam m (below k m))

  abbrev DeletesPart : ℕ → Type 0
  DeletesPart k = (d : ℕ) (l : Option (List ℕ)) (s : LinkEdge) (log : Log) → Quiet d s
      → Reads (walked k d l one s log) log (node_reads k (LastLink l)) (IsPartGone k d l s)

  abbrev DeletesNode : ℕ → ℕ → Shape → LinkEdge → Log → Type 0
  DeletesNode k d m s log = Reads (walking_node digest shows d (walked k (suc d)) one s m log) log (node_reads k m)
      (IsGone k d m s)

  -- the key has the same place in another node
  reads-same : (k : ℕ) (m r : Shape) → gap key m ≡ gap key r → links_beside key m ≡ links_beside key r
      → node_reads k m ≡ node_reads k r
  reads-same k m r q b =
      let p = ap (path_from shows k key) q in
      ap (λ path. path ++ flat (seam m path)) p
      ∙ ap (λ x. below k r ++ flat (seam_from shows most x.0 x.1)) (beside-same m r (below k r) b)

  whole-same : (k : ℕ) (m r : Shape) → gap key m ≡ gap key r → links_beside key m ≡ links_beside key r
      → Whole r (below k r) → Whole m (below k m)
  whole-same k m r q b w =
      subst (λ path. Whole m path) (sym (ap (path_from shows k key) q))
      (subst (λ x. IsWholeSeam shows most x.0 x.1) (sym (beside-same m r (below k r) b)) w)

  moved : (o : Step LinkEdge) (log : Log) (xs ys : List Shape) (P Q : LinkEdge → Type 0) → xs ≡ ys
      → ((t : LinkEdge) → P t → Q t) → Reads o log xs P → Reads o log ys Q
  moved (Err stop) log xs ys P Q q f j = tt
  moved (Ok x) log xs ys P Q q f j = (j.0 ∙ ap (λ zs. log.read ++ zs) q, f x.0 j.1)

  -- pairs that stay, after what goes
  abbrev IsKept : ℕ → LinkEdge → Type 0
  IsKept d t = Calm (suc d) t × HasPair t

  rest-kept : (k d : ℕ) (e : Pair) (r : Shape) (t : LinkEdge) (log : Log) → Calm (suc d) t
      → Unread (and_then (pairs_in_turn digest shows (λ key. d) (e ∷ []) t log) (λ u log2.
      walking_node digest shows d (walked k (suc d)) [] u r log2)) log (IsKept d)
  rest-kept k d e r t log c =
      unread-then digest shows layer n (pairs_in_turn digest shows (λ key. d) (e ∷ []) t log)
      (λ u log2. walking_node digest shows d (walked k (suc d)) [] u r log2) log (IsPairAt digest shows d)
      (IsKept d) (one-calm digest shows (λ key. d) e t log c)
      (λ u log2 p. has u log2 p.1 (walking_node digest shows d (walked k (suc d)) [] u r log2)
      (still-node digest shows layer n k d r u log2 p.0))
    where
      has : (u : LinkEdge) (log2 : Log) → HasPair u → (o : Step LinkEdge)
          → Unread o log2 (IsStill digest shows layer n (suc d) u) → Unread o log2 (IsKept d)
      has u log2 p (Err stop) j = tt
      has u log2 p (Ok y) j = (j.0, (j.1.0, j.1.1 p))

  -- the top has a pair that stays
  single-other : (l : Option (List ℕ)) (e : Pair) (r : Shape) (ss : List (Shape × Shape)) (o : Ordering)
      → order e.0 key ≡ o → (o ≡ Equal → ⊥) → single_shape key (MoreLinks l e r) (λ x y. trim_links x y ss) None ≡ None
  single-other l e (LastLink x) ss Less q f = rw q refl
  single-other l e (LastLink x) ss Equal q f = absurd (f refl)
  single-other l e (LastLink x) ss Greater q f = rw q refl
  single-other l e (MoreLinks x g r) ss o q f = refl

  -- the key's own pair goes
  abbrev IsHere : ℕ → Option (List ℕ) → Shape → LinkEdge → LinkEdge → Type 0
  IsHere d l r s t = IsWholeSeam shows most l (first_link r) × Calm (suc d) t × (HasPair s → HasPair t)
      × (s ≡ LinkClear → (e : Pair) → order e.0 key ≡ Equal
      → top_link t ≡ single_shape key (MoreLinks l e r) (λ x y. trim_links x y (seam_from shows most l (first_link r))) None)

  here-reads : (k d : ℕ) (l : Option (List ℕ)) (r : Shape) (s : LinkEdge) (log : Log) → k ≤ most → Quiet (suc d) s
      → Reads (and_then (walked k (suc d) l [] s log) (λ t log1.
      walking_node digest shows d (walked k (suc d)) [] t r log1)) log (flat (seam_from shows most l (first_link r)))
      (IsHere d l r s)
  here-reads k d l (LastLink x) s log q h =
      moved (two k d l x s log) log (flat (seam_from shows most l x)) (flat (seam_from shows most l x))
      (IsJoined d l x s) (IsHere d l (LastLink x) s) refl
      (λ t j. (j.whole, j.calm, j.pair, λ c e o. j.prune c ∙ rw o refl)) (two-reads k d l x s log q h)
  here-reads k d l (MoreLinks x f r) s log q h =
      let ss = flat (seam_from shows most l x) in
      let rest = λ (u : LinkEdge) (log2 : Log). and_then (pairs_in_turn digest shows (λ key. d) (f ∷ []) u log2)
      (λ v log3. walking_node digest shows d (walked k (suc d)) [] v r log3) in
      subst (λ o. Reads o log ss (IsHere d l (MoreLinks x f r) s))
      (then-assoc (walked k (suc d) l [] s log) (walked k (suc d) x []) rest)
      (before-unread (two k d l x s log) rest log ss (IsJoined d l x s) (IsHere d l (MoreLinks x f r) s)
      (two-reads k d l x s log q h)
      (λ u log2 j. kept log2 j.whole (rest u log2) (rest-kept k d f r u log2 j.calm)))
    where
      kept : (log2 : Log) → IsWholeSeam shows most l x → (o : Step LinkEdge) → Unread o log2 (IsKept d)
          → Unread o log2 (IsHere d l (MoreLinks x f r) s)
      kept log2 w (Err stop) j = tt
      kept log2 w (Ok y) j = (j.0, (w, j.1.0, λ p. j.1.1, λ c e o. top-pair y.0 j.1.1))

  gone-more : (k d : ℕ) (l : Option (List ℕ)) (e : Pair) (r : Shape) (s : LinkEdge) (log : Log) (o : Ordering)
      → order key e.0 ≡ o → k ≤ most → DeletesPart k
      → ((t : LinkEdge) (later : Log) → Quiet (suc d) t → DeletesNode k d r t later) → Quiet (suc d) s
      → DeletesNode k d (MoreLinks l e r) s log
  gone-more k d l e r s log Less q z ih rest h =
      let m = MoreLinks l e r in
      let g = turned_back key e.0 q in
      let same : gap key m ≡ gap key (LastLink l) = rw g refl in
      let b : links_beside key m ≡ links_beside key (LastLink l) = rw g refl in
      let step = walked k (suc d) in
      let xs = node_reads k (LastLink l) in
      let onward = λ (t : LinkEdge) (log1 : Log). and_then (pairs_in_turn digest shows (λ key. d) (e ∷ []) t log1)
      (λ u log2. walking_node digest shows d step [] u r log2) in
      let P : LinkEdge → Type 0 = λ t. IsWhole shows k key l × Whole (LastLink l) (path_from shows k key l) × IsKept d t in
      let all : Reads (and_then (step l one s log) onward) log xs P =
      before-unread (step l one s log) onward log xs (IsPartGone k (suc d) l s) P (ih (suc d) l s log h)
      (λ t log1 j. with_path log1 j.path j.whole (onward t log1) (rest-kept k d e r t log1 j.calm)) in
      let done = moved (and_then (step l one s log) onward) log xs (node_reads k m) P (IsGone k d m s)
      (sym (reads-same k m (LastLink l) same b)) (λ t j. record {
        path = subst (IsWhole shows k key) (sym same) j.0;
        whole = whole-same k m (LastLink l) same b j.1;
        calm = j.2.0;
        pair = λ p. j.2.1;
        prune = λ c. top-pair t j.2.1 ∙ sym (single-other l e r (seam m (below k m)) Greater g (λ x. cc));
      }) all in
      rw q done
    where
      with_path : (log1 : Log) → IsWhole shows k key l → Whole (LastLink l) (path_from shows k key l)
          → (o : Step LinkEdge) → Unread o log1 (IsKept d)
          → Unread o log1 (λ t. IsWhole shows k key l × Whole (LastLink l) (path_from shows k key l) × IsKept d t)
      with_path log1 p w (Err stop) j = tt
      with_path log1 p w (Ok y) j = (j.0, (p, w, j.1))
  gone-more k d l e r s log Equal q z ih rest h =
      let m = MoreLinks l e r in
      let same : order e.0 key ≡ Equal = subst (λ x. order e.0 x ≡ Equal) (sym (order-equal key e.0 q)) (order-same e.0) in
      let none : gap key m ≡ None = rw same refl in
      let p : below k m ≡ [] = ap (path_from shows k key) none ∙ path-none shows k key in
      let b : beside m (below k m) ≡ (l, first_link r) = ap (beside m) p ∙ rw same refl in
      let reads : flat (seam_from shows most l (first_link r)) ≡ node_reads k m =
      ap (λ x. flat (seam_from shows most x.0 x.1)) (sym b) ∙ ap (λ path. path ++ flat (seam m (below k m))) (sym p) in
      let step = walked k (suc d) in
      let onward = λ (t : LinkEdge) (log1 : Log). walking_node digest shows d step [] t r log1 in
      let done = moved (and_then (step l [] s log) onward) log (flat (seam_from shows most l (first_link r)))
      (node_reads k m) (IsHere d l r s) (IsGone k d m s) reads (λ t j. record {
        path = subst (IsWhole shows k key) (sym none) (whole-none shows k key);
        whole = subst (λ x. IsWholeSeam shows most x.0 x.1) (sym b) j.0;
        calm = j.1;
        pair = j.2;
        prune = λ c. j.3 c e same
            ∙ ap (λ x. single_shape key m (λ a y. trim_links a y (seam_from shows most x.0 x.1)) None) (sym b);
      }) (here-reads k d l r s log z h) in
      rw q done
  gone-more k d l e r s log Greater q z ih rest h =
      let m = MoreLinks l e r in
      let g = turned key e.0 q in
      let same : gap key m ≡ gap key r = rw g refl in
      let b : links_beside key m ≡ links_beside key r = rw g refl in
      let step = walked k (suc d) in
      let xs = node_reads k r in
      let P : LinkEdge → Type 0 = λ t. IsWhole shows k key (gap key r) × Whole r (below k r) × IsKept d t in
      let onward = λ (u : LinkEdge) (log2 : Log). walking_node digest shows d step one u r log2 in
      let all : Reads (and_then (step l [] s log) (λ t log1.
      and_then (pairs_in_turn digest shows (λ key. d) (e ∷ []) t log1) onward)) log xs P =
      after-unread (step l [] s log) (λ t log1. and_then (pairs_in_turn digest shows (λ key. d) (e ∷ []) t log1) onward)
      log xs (IsStill digest shows layer n (suc d) s) P (still-part digest shows layer n k (suc d) l s log h)
      (λ t log1 p. after-unread (pairs_in_turn digest shows (λ key. d) (e ∷ []) t log1) onward log1 xs
      (IsPairAt digest shows d) P (one-calm digest shows (λ key. d) e t log1 p.0)
      (λ u log2 w. moved (onward u log2) log2 xs xs (IsGone k d r u) P refl
      (λ v j. (j.path, j.whole, (j.calm, j.pair w.1))) (rest u log2 w.0))) in
      let done = moved (and_then (step l [] s log) (λ t log1.
      and_then (pairs_in_turn digest shows (λ key. d) (e ∷ []) t log1) onward)) log xs (node_reads k m) P (IsGone k d m s)
      (sym (reads-same k m r same b)) (λ t j. record {
        path = subst (IsWhole shows k key) (sym same) j.0;
        whole = whole-same k m r same b j.1;
        calm = j.2.0;
        pair = λ p. j.2.1;
        prune = λ c. top-pair t j.2.1 ∙ sym (single-other l e r (seam m (below k m)) Less g (λ x. cc));
      }) all in
      rw q done

  gone-node : (k d : ℕ) (m : Shape) (s : LinkEdge) (log : Log) → k ≤ most → DeletesPart k → Quiet (suc d) s
      → DeletesNode k d m s log
  gone-node k d (LastLink l) s log z ih h =
      moved (walked k (suc d) l one s log) log (node_reads k (LastLink l)) (node_reads k (LastLink l))
      (IsPartGone k (suc d) l s) (IsGone k d (LastLink l) s) refl
      (λ t j. record { path = j.path; whole = j.whole; calm = j.calm; pair = j.pair; prune = λ c. tt })
      (ih (suc d) l s log h)
  gone-node k d (MoreLinks l e r) s log z ih h =
      gone-more k d l e r s log (order key e.0) refl z ih (λ t later. gone-node k d r t later z ih) h

  -- nothing is there
  nothing-gone : (k d : ℕ) (s : LinkEdge) (log : Log) → Quiet d s
      → (log.read ≡ log.read ++ node_reads k (LastLink None)) × IsPartGone k d None s s
  nothing-gone k d s log h =
      let p = path-none shows k key in
      let b : beside (LastLink None) (path_from shows k key None) ≡ (None, None) = ap (beside (LastLink None)) p in
      let ss : seam (LastLink None) (path_from shows k key None) ≡ [] =
      ap (λ x. seam_from shows most x.0 x.1) b ∙ seam-left shows most None in
      let reads : node_reads k (LastLink None) ≡ [] =
      ap (λ path. path ++ flat (seam (LastLink None) (path_from shows k key None))) p ∙ ap flat ss in (
        sym (append-nil log.read) ∙ ap (λ xs. log.read ++ xs) (sym reads),
        record {
          path = whole-none shows k key;
          whole = subst (λ x. IsWholeSeam shows most x.0 x.1) (sym b) (whole-left shows most None);
          calm = calm-quiet d d s h;
          pair = λ q. q;
        },
      )

  -- a node that is read, of the path
  gone-shown : (k d : ℕ) (c : List ℕ) (o : Option Shape) (s : LinkEdge) (log : Log) → k ≤ most → DeletesPart k → Quiet d s
      → let path = path_at (path_from shows k key) key o in
      Reads (and_then (log_shown c s o log) (walking_node digest shows d (walked k (suc d)) one s)) log
      (path ++ flat (seam (LastLink (Some c)) path))
      (λ t. IsWholeAt (IsWhole shows k key) key o × Whole (LastLink (Some c)) path × Calm d t × (HasPair s → HasPair t))
  gone-shown k d c None s log z ih h = tt
  gone-shown k d c (Some m) s log z ih h =
      after (walking_node digest shows d (walked k (suc d)) one s m (with_read m log))
      (gone-node k d m s (with_read m log) z ih (quiet-more d s h))
    where
      after : (x : Step LinkEdge) → Reads x (with_read m log) (node_reads k m) (IsGone k d m s)
          → Reads x log (m ∷ node_reads k m)
          (λ t. IsWhole shows k key (gap key m) × Whole m (below k m) × Calm d t × (HasPair s → HasPair t))
      after (Err stop) j = tt
      after (Ok y) j = (
        j.0 ∙ append_assoc log.read (m ∷ []) (node_reads k m),
        (j.1.path, j.1.whole, calm-less d y.0 j.1.calm, j.1.pair),
      )

  gone-part : (k : ℕ) → k ≤ most → DeletesPart k
  gone-part zero z d None s log h = nothing-gone zero d s log h
  gone-part zero z d (Some c) s log h = tt
  gone-part (suc k) z d None s log h = nothing-gone (suc k) d s log h
  gone-part (suc k) z d (Some c) s log h =
      let path = path_from shows (suc k) key (Some c) in
      moved (walked (suc k) d (Some c) one s log) log (path ++ flat (seam (LastLink (Some c)) path))
      (path ++ flat (seam (LastLink (Some c)) path))
      (λ t. IsWhole shows (suc k) key (Some c) × Whole (LastLink (Some c)) path × Calm d t × (HasPair s → HasPair t))
      (IsPartGone (suc k) d (Some c) s) refl
      (λ t j. record { path = j.0; whole = j.1; calm = j.2; pair = j.3 })
      (gone-shown k d c (shows c) s log (omega arith) (gone-part k (omega arith)) h)

  -- ---- the whole tree

  abbrev first_log : Shape → Log
  first_log m = with_read m (record { read = []; made = [] })

  -- what is read, by the path
  abbrev Facts : List Shape → Top → Log → Type 0
  Facts path top log =
      let x = links_beside key (lowest_shape path) in
      let ss = delete_seam_from shows most key path in
      IsWholeSeam shows most x.0 x.1 × IsWholeChain shows most (prune_link key path ss)
      × (log.read ++ top.1 ≡ delete_read path ss (pruned_from shows most (prune_link key path ss)))

  -- the link at which the top is pruned
  prune-at : (k d : ℕ) (m : Shape) (log : Log) (xs : List Shape) → k ≡ layer_of_shape layer m
      → Reads (walking_node digest shows d (walked k (suc d)) one LinkClear m log) log xs (IsGone k d m LinkClear)
      → OnAnswer (walking_node digest shows d (walked k (suc d)) one LinkClear m log)
      (λ u later. top_link u ≡ prune_link key (m ∷ below k m) (seam m (below k m)))
  prune-at zero d (LastLink None) log xs q j = refl
  prune-at zero d (LastLink (Some c)) log xs q j = tt
  prune-at (suc k) d (LastLink l) log xs q j = absurd (omega arith)
  prune-at k d (MoreLinks l e r) log xs q j =
      of (walking_node digest shows d (walked k (suc d)) one LinkClear (MoreLinks l e r) log) j
    where
      of : (x : Step LinkEdge) → Reads x log xs (IsGone k d (MoreLinks l e r) LinkClear)
          → OnAnswer x (λ u later. top_link u ≡ prune_link key (MoreLinks l e r ∷ below k (MoreLinks l e r))
          (seam (MoreLinks l e r) (below k (MoreLinks l e r))))
      of (Err stop) j = tt
      of (Ok y) j = j.1.prune refl

  facts : (k d : ℕ) (m : Shape) (u : LinkEdge) (later : Log) (top : Top) (last : Log) → n ≤ most
      → later.read ≡ m ∷ node_reads k m → IsGone k d m LinkClear u
      → top_link u ≡ prune_link key (m ∷ below k m) (seam m (below k m))
      → last.read ++ top.1 ≡ later.read ++ pruned_from shows n (top_link u) → IsWholeChain shows n (top_link u)
      → Facts (m ∷ below k m) top last
  facts k d m u later top last z reads gone prune ends whole =
      let ss = seam m (below k m) in
      let c = chain-enough shows n most (top_link u) z whole in
      let l = prune_link key (m ∷ below k m) ss in (
        gone.whole,
        subst (IsWholeChain shows most) prune c.1,
        ends ∙ ap (λ xs. xs ++ pruned_from shows n (top_link u)) reads
            ∙ ap (λ xs. (m ∷ node_reads k m) ++ xs) (c.0 ∙ ap (pruned_from shows most) prune)
            ∙ ap (λ xs. m ∷ xs) (append_assoc (below k m) (flat ss) (pruned_from shows most l)),
      )

  gone-top : (root : List ℕ) → ((k : List ℕ) → layer k < most) → n ≤ most → (o : Option Shape) → shows root ≡ o
      → let log : Log = record { read = []; made = [] } in
      OnAnswer (and_then (log_shown root LinkClear o log) (λ s log1. and_then (walking_top digest shows layer n one s log1)
      (topping digest shows n))) (IsDeleteRead shows layer most key root)
  gone-top root f z None q = tt
  gone-top root f z (Some m) q =
      let t = layer_of_shape layer m in
      let d = n - suc t in
      let l = low m in
      let reads = gone-node t d m LinkClear (first_log m) (omega arith) (gone-part t (omega arith)) tt in
      after (walking_node digest shows d (walked t (suc d)) one LinkClear m (first_log m)) reads
      (prune-at t d m (first_log m) (node_reads t m) refl reads)
    where
      of_some : (x y : Shape) → Some x ≡ Some y → x ≡ y
      of_some x y h = cc

      low : (s : Shape) → layer_of_shape layer s < most
      low (LastLink l) = let i = f [] in omega arith
      low (MoreLinks l e r) = f e.0

      path : IsWhole shows (layer_of_shape layer m) key (gap key m)
          → (m ∷ below (layer_of_shape layer m) m ≡ path_from shows most key (Some root))
          × IsWhole shows most key (Some root)
      path w =
          let t = layer_of_shape layer m in
          let l = low m in
          let whole : IsWhole shows (suc t) key (Some root) =
          subst (λ o. IsWholeAt (IsWhole shows t key) key o) (sym q) w in
          let i = enough shows (suc t) most key (Some root) (omega arith) whole in
          (ap (path_at (path_from shows t key) key) (sym q) ∙ i.0, i.1)

      previous : IsWhole shows (layer_of_shape layer m) key (gap key m) → (s : Shape) → shows root ≡ Some s
          → previous_top shows layer one s ≡ value_from shows most key (Some root) ∷ []
      previous w s r =
          let t = layer_of_shape layer m in
          let l = low m in
          let same : m ≡ s = of_some m s (sym q ∙ r) in
          let whole : IsWhole shows (suc t) key (Some root) =
          subst (λ o. IsWholeAt (IsWhole shows t key) key o) (sym q) w in
          subst (λ x. previous_top shows layer one x ≡ value_from shows most key (Some root) ∷ []) same
          (one-node shows key None t m (one-part shows key None t) w
          ∙ ap (λ o. value_at (value_from shows t key) key o ∷ []) (sym q)
          ∙ ap (λ x. x ∷ []) (found-enough shows key (suc t) most (Some root) (omega arith) whole))

      ends : (u : LinkEdge) (later : Log) → later.read ≡ m ∷ node_reads (layer_of_shape layer m) m
          → IsGone (layer_of_shape layer m) (n - suc (layer_of_shape layer m)) m LinkClear u
          → top_link u ≡ prune_link key (m ∷ below (layer_of_shape layer m) m)
          (seam m (below (layer_of_shape layer m) m)) → (x : Step Top)
          → ChainReads digest shows x later (pruned_from shows n (top_link u)) (IsWholeChain shows n (top_link u))
          → OnAnswer x (IsDeleteRead shows layer most key root)
      ends u later r gone p (Err stop) j = tt
      ends u later r gone p (Ok x) j =
          let t = layer_of_shape layer m in
          let i = path gone.path in
          let all = subst (λ xs. Facts xs x.0 x.1) i.0
          (facts t (n - suc t) m u later x.0 x.1 z r gone p j.0 j.1) in
          record {
            path = i.1;
            seam = all.0;
            chain = all.1;
            read_is = all.2;
            previous = λ s r. previous gone.path s r;
          }

      after : (x : Step LinkEdge)
          → Reads x (first_log m) (node_reads (layer_of_shape layer m) m)
          (IsGone (layer_of_shape layer m) (n - suc (layer_of_shape layer m)) m LinkClear)
          → OnAnswer x (λ u later. top_link u ≡ prune_link key (m ∷ below (layer_of_shape layer m) m)
          (seam m (below (layer_of_shape layer m) m)))
          → OnAnswer (and_then x (topping digest shows n)) (IsDeleteRead shows layer most key root)
      after (Err stop) j p = tt
      after (Ok x) j p = ends x.0 x.1 j.0 j.1 p (topping digest shows n x.0 x.1) (top-reads digest shows n x.0 x.1)

pub delete-reads : OneDeleteReads
delete-reads digest shows layer n key most root f z =
    gone-top digest shows layer n key most root f z (shows root) refl
