-- Where two subtrees come one after the other, what meets is read; and a chain is read down to its first node with a pair.
use Rattle.std.proofs.Common.{◌≡◌, ℕ, zero, suc, ◌≤◌, List, [], ◌∷◌, ◌++◌, refl, sym, ap, ◌∙◌, arith, append_assoc, Option, Ok, Err}
use Rattle.std.proofs.lemmas.List.{append-nil}
use Rattle.std.specs.declared.option.Option.TheVariants.{Some, None}
use Rattle.spec.specs.Tree.{Pair}
use Rattle.spec.specs.NodeFormat.{Shape, LastLink, MoreLinks, first_link}
use Rattle.edit_laws.specs.PathEdit.{flat}
use Rattle.edit_laws.specs.ShapeEdit.{last_link, one_link, trim_links}
use Rattle.edit_laws.specs.Sources.{shown, seam_at, seam_from, pruned_at, pruned_from}
use Rattle.batch_laws.specs.Links.{Rows, LinkEdge, LinkClear, LinkWaiting, LinkOpened, Log, with_read, and_then, log_shown, link_edge, rows_in_shape, closing, under_rows, joined_row, noding, parting, Top, pruning_at, pruning, topping, Step}
use Rattle.batch_laws.specs.Written.{OnAnswer}
use Rattle.batch_laws.specs.Paths.{IsWholeSeam, IsWholeSeamAt, IsWholeChain, IsWholeChainAt}
use Rattle.batch_laws.proofs.LinkQuiet.{HasPair, place, closing-reads}
use Rattle.batch_laws.proofs.PutReads.{Reads}

-- the link at which the top is pruned
abbrev pub top_link : LinkEdge → Option (List ℕ)
top_link LinkClear = None
top_link (LinkWaiting c) = Some c
top_link (LinkOpened [] s) = top_link s
top_link (LinkOpened (x ∷ rows) s) = None

pub top-pair : (s : LinkEdge) → HasPair s → top_link s ≡ None
top-pair LinkClear h = refl
top-pair (LinkWaiting c) h = absurd h
top-pair (LinkOpened [] s) h = top-pair s h
top-pair (LinkOpened (x ∷ rows) s) h = refl

top-more : (rows : Rows) (x : Option (List ℕ) × Pair) (more : Rows) (s : LinkEdge)
    → top_link (LinkOpened (rows ++ (x ∷ more)) s) ≡ None
top-more [] x more s = refl
top-more (y ∷ rows) x more s = refl

pub top-place : (d : ℕ) (u : LinkEdge) → top_link (place d u LinkClear) ≡ top_link u
top-place zero u = refl
top-place (suc d) u = top-place d u

top-edge : (l : Option (List ℕ)) → top_link (link_edge l) ≡ one_link l None
top-edge None = refl
top-edge (Some c) = refl

-- ---- what doesn't meet

pub seam-left : (shows : List ℕ → Option Shape) (k : ℕ) (y : Option (List ℕ)) → seam_from shows k None y ≡ []
seam-left shows zero y = refl
seam-left shows (suc k) y = refl

seam-right-at : (further : Option (List ℕ) → Option (List ℕ) → List (Shape × Shape)) (o : Option Shape)
    → seam_at further o None ≡ []
seam-right-at further None = refl
seam-right-at further (Some s) = refl

pub seam-right : (shows : List ℕ → Option Shape) (k : ℕ) (x : Option (List ℕ)) → seam_from shows k x None ≡ []
seam-right shows zero x = refl
seam-right shows (suc k) x = seam-right-at (seam_from shows k) (shown shows x)

pub whole-left : (shows : List ℕ → Option Shape) (k : ℕ) (y : Option (List ℕ)) → IsWholeSeam shows k None y
whole-left shows zero y = tt
whole-left shows (suc k) y = tt

pub whole-right : (shows : List ℕ → Option Shape) (k : ℕ) (x : Option (List ℕ)) → IsWholeSeam shows k x None
whole-right shows zero None = tt
whole-right shows zero (Some c) = tt
whole-right shows (suc k) None = tt
whole-right shows (suc k) (Some c) = tt

-- ---- more layers than a seam has

abbrev SeamEnough : (List ℕ → Option Shape) → ℕ → ℕ → Option (List ℕ) → Option (List ℕ) → Type 0
SeamEnough shows k m x y = (seam_from shows k x y ≡ seam_from shows m x y) × IsWholeSeam shows m x y

seam-enough_at : (shows : List ℕ → Option Shape) (k m : ℕ) (o p : Option Shape)
    → ((x y : Option (List ℕ)) → IsWholeSeam shows k x y → SeamEnough shows k m x y)
    → IsWholeSeamAt (IsWholeSeam shows k) o p
    → (seam_at (seam_from shows k) o p ≡ seam_at (seam_from shows m) o p) × IsWholeSeamAt (IsWholeSeam shows m) o p
seam-enough_at shows k m None p ih h = absurd h
seam-enough_at shows k m (Some s) None ih h = absurd h
seam-enough_at shows k m (Some s) (Some t) ih h =
    let i = ih (last_link s) (first_link t) h in (ap (λ ss. (s, t) ∷ ss) i.0, i.1)

pub seam-enough : (shows : List ℕ → Option Shape) (k m : ℕ) (x y : Option (List ℕ)) → k ≤ m → IsWholeSeam shows k x y
    → SeamEnough shows k m x y
seam-enough shows k m None y q h = (seam-left shows k y ∙ sym (seam-left shows m y), whole-left shows m y)
seam-enough shows k m (Some c) None q h =
    (seam-right shows k (Some c) ∙ sym (seam-right shows m (Some c)), whole-right shows m (Some c))
seam-enough shows zero m (Some c) (Some d) q h = absurd h
seam-enough shows (suc k) zero (Some c) (Some d) q h = absurd (omega arith)
seam-enough shows (suc k) (suc m) (Some c) (Some d) q h =
    seam-enough_at shows k m (shows c) (shows d) (λ x y. seam-enough shows k m x y (omega arith)) h

-- ---- and than a chain has

pub chain-none : (shows : List ℕ → Option Shape) (k : ℕ) → pruned_from shows k None ≡ []
chain-none shows zero = refl
chain-none shows (suc k) = refl

whole_chain-none : (shows : List ℕ → Option Shape) (k : ℕ) → IsWholeChain shows k None
whole_chain-none shows zero = tt
whole_chain-none shows (suc k) = tt

abbrev ChainEnough : (List ℕ → Option Shape) → ℕ → ℕ → Option (List ℕ) → Type 0
ChainEnough shows k m l = (pruned_from shows k l ≡ pruned_from shows m l) × IsWholeChain shows m l

chain-enough_at : (shows : List ℕ → Option Shape) (k m : ℕ) (o : Option Shape)
    → ((l : Option (List ℕ)) → IsWholeChain shows k l → ChainEnough shows k m l)
    → IsWholeChainAt (IsWholeChain shows k) o
    → (pruned_at (pruned_from shows k) o ≡ pruned_at (pruned_from shows m) o) × IsWholeChainAt (IsWholeChain shows m) o
chain-enough_at shows k m None ih h = absurd h
chain-enough_at shows k m (Some (LastLink l)) ih h = let i = ih l h in (ap (λ ss. LastLink l ∷ ss) i.0, i.1)
chain-enough_at shows k m (Some (MoreLinks l e r)) ih h = (refl, tt)

pub chain-enough : (shows : List ℕ → Option Shape) (k m : ℕ) (l : Option (List ℕ)) → k ≤ m → IsWholeChain shows k l
    → ChainEnough shows k m l
chain-enough shows k m None q h = (chain-none shows k ∙ sym (chain-none shows m), whole_chain-none shows m)
chain-enough shows zero m (Some c) q h = absurd h
chain-enough shows (suc k) zero (Some c) q h = absurd (omega arith)
chain-enough shows (suc k) (suc m) (Some c) q h =
    chain-enough_at shows k m (shows c) (λ l. chain-enough shows k m l (omega arith)) h

module _ (digest : List ℕ → List ℕ) (shows : List ℕ → Option Shape) where
  -- ---- a part after a part

  -- the seam is whole, and the top would be pruned here
  abbrev pub IsSeam : ℕ → Option (List ℕ) → Option (List ℕ) → LinkEdge → Type 0
  IsSeam k x y u = IsWholeSeam shows k x y × (top_link u ≡ trim_links x y (seam_from shows k x y))

  abbrev pub SeamReads : ℕ → Option (List ℕ) → Option (List ℕ) → Log → Type 0
  SeamReads k x y log = Reads (parting digest shows k y (link_edge x) log) log (flat (seam_from shows k x y)) (IsSeam k x y)

  -- nothing meets
  left-alone : (k : ℕ) (y : Option (List ℕ)) (u : LinkEdge) (log : Log) → top_link u ≡ y
      → (log.read ≡ log.read ++ flat (seam_from shows k None y)) × IsSeam k None y u
  left-alone k y u log q = rw (seam-left shows k y) (sym (append-nil log.read), (whole-left shows k y, q))

  right-alone : (k : ℕ) (x : Option (List ℕ)) (log : Log)
      → (log.read ≡ log.read ++ flat (seam_from shows k x None)) × IsSeam k x None (link_edge x)
  right-alone k x log = rw (seam-right shows k x) (sym (append-nil log.read), (whole-right shows k x, top-edge x))

  abbrev Two : ℕ → Shape → Shape → Log → Type 0
  Two k s t log = Reads (noding digest (parting digest shows k) (rows_in_shape s) (link_edge (last_link s)) t
      (with_read t (with_read s log))) log (s ∷ t ∷ flat (seam_from shows k (last_link s) (first_link t)))
      (λ u. IsWholeSeam shows k (last_link s) (first_link t)
      × (top_link u ≡ trim_links None None ((s, t) ∷ seam_from shows k (last_link s) (first_link t))))

  two-more : (log : Log) (s t : Shape) (xs : List Shape) → (log.read ++ (s ∷ [])) ++ (t ∷ xs)
      ≡ log.read ++ (s ∷ t ∷ xs)
  two-more log s t xs = append_assoc log.read (s ∷ []) (t ∷ xs)

  seam-two : (k : ℕ) → ((x y : Option (List ℕ)) (log : Log) → SeamReads k x y log) → (s t : Shape) (log : Log)
      → Two k s t log
  seam-two k ih (LastLink p) (LastLink q) log = after (parting digest shows k q (link_edge p) _) (ih p q _)
    where
      after : (o : Step LinkEdge)
          → Reads o (with_read (LastLink q) (with_read (LastLink p) log)) (flat (seam_from shows k p q)) (IsSeam k p q)
          → Reads (under_rows [] o) log (LastLink p ∷ LastLink q ∷ flat (seam_from shows k p q))
          (λ u. IsWholeSeam shows k p q × (top_link u ≡ trim_links p q (seam_from shows k p q)))
      after (Err stop) j = tt
      after (Ok x) j = (
        j.0 ∙ append_assoc (log.read ++ (LastLink p ∷ [])) (LastLink q ∷ []) (flat (seam_from shows k p q))
            ∙ two-more log (LastLink p) (LastLink q) (flat (seam_from shows k p q)),
        (j.1.0, j.1.1),
      )
  seam-two k ih (MoreLinks p e r) (LastLink q) log =
      after (parting digest shows k q (link_edge (last_link r)) _) (ih (last_link r) q _)
    where
      after : (o : Step LinkEdge)
          → Reads o (with_read (LastLink q) (with_read (MoreLinks p e r) log)) (flat (seam_from shows k (last_link r) q))
          (IsSeam k (last_link r) q)
          → Reads (under_rows ((p, e) ∷ rows_in_shape r) o) log
          (MoreLinks p e r ∷ LastLink q ∷ flat (seam_from shows k (last_link r) q))
          (λ u. IsWholeSeam shows k (last_link r) q × (top_link u ≡ None))
      after (Err stop) j = tt
      after (Ok x) j = (
        j.0 ∙ append_assoc (log.read ++ (MoreLinks p e r ∷ [])) (LastLink q ∷ []) (flat (seam_from shows k (last_link r) q))
            ∙ two-more log (MoreLinks p e r) (LastLink q) (flat (seam_from shows k (last_link r) q)),
        (j.1.0, refl),
      )
  seam-two k ih s (MoreLinks q f t) log =
      after (parting digest shows k q (link_edge (last_link s)) _) (ih (last_link s) q _)
    where
      none : (s : Shape) (ss : List (Shape × Shape)) → trim_links None None ((s, MoreLinks q f t) ∷ ss) ≡ None
      none (LastLink p) ss = refl
      none (MoreLinks p e r) ss = refl

      after : (o : Step LinkEdge)
          → Reads o (with_read (MoreLinks q f t) (with_read s log)) (flat (seam_from shows k (last_link s) q))
          (IsSeam k (last_link s) q)
          → Reads (joined_row digest f (rows_in_shape s) t o) log
          (s ∷ MoreLinks q f t ∷ flat (seam_from shows k (last_link s) q))
          (λ u. IsWholeSeam shows k (last_link s) q
          × (top_link u ≡ trim_links None None ((s, MoreLinks q f t) ∷ seam_from shows k (last_link s) q)))
      after (Err stop) j = tt
      after (Ok x) j = (
        closing-reads digest x.0 x.1 ∙ j.0
            ∙ append_assoc (log.read ++ (s ∷ [])) (MoreLinks q f t ∷ []) (flat (seam_from shows k (last_link s) q))
            ∙ two-more log s (MoreLinks q f t) (flat (seam_from shows k (last_link s) q)),
        (
          j.1.0,
          top-more (rows_in_shape s) ((closing digest x.0 x.1).0, f) (rows_in_shape t) (link_edge (last_link t))
              ∙ sym (none s (seam_from shows k (last_link s) q)),
        ),
      )

  -- both nodes are read
  seam-shown : (k : ℕ) (c d : List ℕ) (o p : Option Shape)
      → ((x y : Option (List ℕ)) (log : Log) → SeamReads k x y log) → (log : Log)
      → Reads (and_then (log_shown c (LinkWaiting c) o log) (λ t log1.
      and_then (log_shown d (LinkOpened (rows_in_shape t) (link_edge (last_link t))) p log1)
      (noding digest (parting digest shows k) (rows_in_shape t) (link_edge (last_link t))))) log
      (flat (seam_at (seam_from shows k) o p))
      (λ u. IsWholeSeamAt (IsWholeSeam shows k) o p
      × (top_link u ≡ trim_links (Some c) (Some d) (seam_at (seam_from shows k) o p)))
  seam-shown k c d None p ih log = tt
  seam-shown k c d (Some s) None ih log = tt
  seam-shown k c d (Some s) (Some t) ih log =
      links s t (noding digest (parting digest shows k) (rows_in_shape s) (link_edge (last_link s)) t
      (with_read t (with_read s log))) (seam-two k ih s t log)
    where
      same : (s t : Shape) (ss : List (Shape × Shape))
          → trim_links None None ((s, t) ∷ ss) ≡ trim_links (Some c) (Some d) ((s, t) ∷ ss)
      same (LastLink p) (LastLink q) ss = refl
      same (LastLink p) (MoreLinks q e r) ss = refl
      same (MoreLinks p e r) t ss = refl

      links : (s t : Shape) (x : Step LinkEdge)
          → Reads x log (s ∷ t ∷ flat (seam_from shows k (last_link s) (first_link t)))
          (λ u. IsWholeSeam shows k (last_link s) (first_link t)
          × (top_link u ≡ trim_links None None ((s, t) ∷ seam_from shows k (last_link s) (first_link t))))
          → Reads x log (s ∷ t ∷ flat (seam_from shows k (last_link s) (first_link t)))
          (λ u. IsWholeSeam shows k (last_link s) (first_link t)
          × (top_link u ≡ trim_links (Some c) (Some d) ((s, t) ∷ seam_from shows k (last_link s) (first_link t))))
      links s t (Err stop) j = tt
      links s t (Ok y) j = (j.0, (j.1.0, j.1.1 ∙ same s t (seam_from shows k (last_link s) (first_link t))))

  pub seam-reads : (k : ℕ) (x y : Option (List ℕ)) (log : Log) → SeamReads k x y log
  seam-reads zero x None log = right-alone zero x log
  seam-reads zero x (Some d) log = tt
  seam-reads (suc k) x None log = right-alone (suc k) x log
  seam-reads (suc k) None (Some d) log = left-alone (suc k) (Some d) (LinkWaiting d) log refl
  seam-reads (suc k) (Some c) (Some d) log = seam-shown k c d (shows c) (shows d) (seam-reads k) log

  -- ---- the chain, and the top

  abbrev pub ChainReads : Step Top → Log → List Shape → Type 0 → Type 0
  ChainReads step log xs P = OnAnswer step (λ top later. (later.read ++ top.1 ≡ log.read ++ xs) × P)

  chain-at : (k : ℕ) (c : List ℕ) (o : Option Shape) (log : Log)
      → ((b : List ℕ) (log : Log) → ChainReads (pruning shows k b log) log (pruned_from shows k (Some b))
      (IsWholeChain shows k (Some b)))
      → ChainReads (pruning_at (pruning shows k) c log o) log (pruned_at (pruned_from shows k) o)
      (IsWholeChainAt (IsWholeChain shows k) o)
  chain-at k c None log ih = tt
  chain-at k c (Some (LastLink None)) log ih =
      (ap (λ t. log.read ++ (LastLink None ∷ t)) (sym (chain-none shows k)), whole_chain-none shows k)
  chain-at k c (Some (LastLink (Some b))) log ih =
      after (pruning shows k b (with_read (LastLink (Some b)) log)) (ih b (with_read (LastLink (Some b)) log))
    where
      after : (o : Step Top)
          → ChainReads o (with_read (LastLink (Some b)) log) (pruned_from shows k (Some b)) (IsWholeChain shows k (Some b))
          → ChainReads o log (LastLink (Some b) ∷ pruned_from shows k (Some b)) (IsWholeChain shows k (Some b))
      after (Err stop) j = tt
      after (Ok x) j =
          (j.0 ∙ append_assoc log.read (LastLink (Some b) ∷ []) (pruned_from shows k (Some b)), j.1)
  chain-at k c (Some (MoreLinks l e r)) log ih = (refl, tt)

  chain-reads : (k : ℕ) (c : List ℕ) (log : Log) → ChainReads (pruning shows k c log) log (pruned_from shows k (Some c))
      (IsWholeChain shows k (Some c))
  chain-reads zero c log = tt
  chain-reads (suc k) c log = chain-at k c (shows c) log (chain-reads k)

  pub top-reads : (k : ℕ) (s : LinkEdge) (log : Log)
      → ChainReads (topping digest shows k s log) log (pruned_from shows k (top_link s)) (IsWholeChain shows k (top_link s))
  top-reads k LinkClear log = rw (chain-none shows k) (refl, whole_chain-none shows k)
  top-reads k (LinkWaiting c) log = chain-reads k c log
  top-reads k (LinkOpened [] s) log = top-reads k s log
  top-reads k (LinkOpened (x ∷ rows) s) log =
      rw (chain-none shows k) (ap (λ t. t ++ []) (closing-reads digest s log), whole_chain-none shows k)
