-- Links: where nothing waits nothing is read, whatever the source shows.
use Rattle.std.proofs.Common.{◌≡◌, ℕ, zero, suc, List, [], ◌∷◌, ◌++◌, refl, sym, subst, ◌∙◌, Option, Ok, Err}
use Rattle.std.specs.declared.option.Option.TheVariants.{Some, None}
use Rattle.spec.specs.Tree.{Pair}
use Rattle.spec.specs.NodeFormat.{Shape, LastLink, MoreLinks}
use Rattle.batch_laws.specs.Links.{Rows, LinkEdge, LinkClear, LinkWaiting, LinkOpened, Log, and_then, closing, add_row, under_rows, pairing, parting, subtreeing, pairs_in_turn, walking_node, walking, Step}
use Rattle.batch_laws.specs.Written.{OnAnswer}

-- nothing waits on the first d layers
abbrev pub Calm : ℕ → LinkEdge → Type 0
Calm zero s = Unit {0}
Calm (suc d) LinkClear = Unit {0}
Calm (suc d) (LinkWaiting c) = ⊥
Calm (suc d) (LinkOpened rows s) = Calm d s

-- nothing waits, and from d layers below on there is nothing
abbrev pub Quiet : ℕ → LinkEdge → Type 0
Quiet zero s = s ≡ LinkClear
Quiet (suc d) LinkClear = Unit {0}
Quiet (suc d) (LinkWaiting c) = ⊥
Quiet (suc d) (LinkOpened rows s) = Quiet d s

abbrev pub HasPair : LinkEdge → Type 0
HasPair LinkClear = ⊥
HasPair (LinkWaiting c) = ⊥
HasPair (LinkOpened [] s) = HasPair s
HasPair (LinkOpened (x ∷ rows) s) = Unit {0}

-- an edge with another one d layers below, where it is quiet
abbrev pub place : ℕ → LinkEdge → LinkEdge → LinkEdge
place zero u s = u
place (suc d) u LinkClear = LinkOpened [] (place d u LinkClear)
place (suc d) u (LinkWaiting c) = LinkOpened [] (place d u LinkClear)
place (suc d) u (LinkOpened rows s) = LinkOpened rows (place d u s)

-- ---- between these

calm-clear : (d : ℕ) → Calm d LinkClear
calm-clear zero = tt
calm-clear (suc d) = tt

quiet-clear : (d : ℕ) → Quiet d LinkClear
quiet-clear zero = refl
quiet-clear (suc d) = tt

pub calm-quiet : (d k : ℕ) (s : LinkEdge) → Quiet d s → Calm k s
calm-quiet zero k s h = subst (Calm k) (sym h) (calm-clear k)
calm-quiet (suc d) k LinkClear h = calm-clear k
calm-quiet (suc d) k (LinkWaiting c) h = absurd h
calm-quiet (suc d) zero (LinkOpened rows s) h = tt
calm-quiet (suc d) (suc k) (LinkOpened rows s) h = calm-quiet d k s h

pub calm-less : (d : ℕ) (s : LinkEdge) → Calm (suc d) s → Calm d s
calm-less zero s h = tt
calm-less (suc d) LinkClear h = tt
calm-less (suc d) (LinkWaiting c) h = h
calm-less (suc d) (LinkOpened rows s) h = calm-less d s h

pub quiet-more : (d : ℕ) (s : LinkEdge) → Quiet d s → Quiet (suc d) s
quiet-more zero s h = subst (Quiet 1) (sym h) tt
quiet-more (suc d) LinkClear h = tt
quiet-more (suc d) (LinkWaiting c) h = h
quiet-more (suc d) (LinkOpened rows s) h = quiet-more d s h

pub calm-place : (d : ℕ) (u s : LinkEdge) → Quiet d s → Calm d (place d u s)
calm-place zero u s h = tt
calm-place (suc d) u LinkClear h = calm-place d u LinkClear (quiet-clear d)
calm-place (suc d) u (LinkWaiting c) h = absurd h
calm-place (suc d) u (LinkOpened rows s) h = calm-place d u s h

has-opened : (rows : Rows) (s t : LinkEdge) → HasPair (LinkOpened rows s) → (HasPair s → HasPair t)
    → HasPair (LinkOpened rows t)
has-opened [] s t h f = f h
has-opened (x ∷ rows) s t h f = tt

has-rows : (rows : Rows) (s : LinkEdge) → HasPair s → HasPair (LinkOpened rows s)
has-rows [] s h = h
has-rows (x ∷ rows) s h = tt

has-more : (rows : Rows) (x : Option (List ℕ) × Pair) (more : Rows) (s : LinkEdge)
    → HasPair (LinkOpened (rows ++ (x ∷ more)) s)
has-more [] x more s = tt
has-more (y ∷ rows) x more s = tt

pub has-place : (d : ℕ) (u s : LinkEdge) → Quiet d s → HasPair s → HasPair (place d u s)
has-place zero u s h k = absurd (subst HasPair h k)
has-place (suc d) u LinkClear h k = absurd k
has-place (suc d) u (LinkWaiting c) h k = absurd k
has-place (suc d) u (LinkOpened rows s) h k = has-opened rows s (place d u s) k (has-place d u s h)

-- ---- what is closed

pub closing-reads : (digest : List ℕ → List ℕ) (s : LinkEdge) (log : Log) → (closing digest s log).1.read ≡ log.read
closing-reads digest LinkClear log = refl
closing-reads digest (LinkWaiting c) log = refl
closing-reads digest (LinkOpened rows s) log = closing-reads digest s log

-- a step that reads nothing more
abbrev pub Unread : Step LinkEdge → Log → (LinkEdge → Type 0) → Type 0
Unread step log P = OnAnswer step (λ t later. (later.read ≡ log.read) × P t)

module _ (digest : List ℕ → List ℕ) (shows : List ℕ → Option Shape) where
  -- ---- a pair where nothing waits above it

  abbrev pub IsPairAt : ℕ → LinkEdge → Type 0
  IsPairAt d t = Quiet (suc d) t × HasPair t

  row-calm : (e : Pair) (rows : Rows) (s : LinkEdge) (log : Log)
      → Unread (add_row e rows (closing digest s log)) log (IsPairAt zero)
  row-calm e rows s log =
      (closing-reads digest s log, (refl, has-more rows ((closing digest s log).0, e) [] LinkClear))

  under-calm : (d : ℕ) (rows : Rows) (step : Step LinkEdge) (log : Log) → Unread step log (IsPairAt d)
      → Unread (under_rows rows step) log (IsPairAt (suc d))
  under-calm d rows (Err stop) log h = tt
  under-calm d rows (Ok x) log h = (h.0, (h.1.0, has-rows rows x.0 h.1.1))

  pub pairing-calm : (d : ℕ) (e : Pair) (s : LinkEdge) (log : Log) → Calm (suc d) s
      → Unread (pairing digest shows d e s log) log (IsPairAt d)
  pairing-calm zero e LinkClear log h = row-calm e [] LinkClear log
  pairing-calm zero e (LinkWaiting c) log h = absurd h
  pairing-calm zero e (LinkOpened rows s) log h = row-calm e rows s log
  pairing-calm (suc d) e LinkClear log h =
      under-calm d [] (pairing digest shows d e LinkClear log) log (pairing-calm d e LinkClear log (calm-clear (suc d)))
  pairing-calm (suc d) e (LinkWaiting c) log h = absurd h
  pairing-calm (suc d) e (LinkOpened rows s) log h =
      under-calm d rows (pairing digest shows d e s log) log (pairing-calm d e s log h)

  pub one-calm : (depth : List ℕ → ℕ) (e : Pair) (s : LinkEdge) (log : Log) → Calm (suc (depth e.0)) s
      → Unread (pairs_in_turn digest shows depth (e ∷ []) s log) log (IsPairAt (depth e.0))
  one-calm depth e s log h = last (pairing digest shows (depth e.0) e s log) (pairing-calm (depth e.0) e s log h)
    where
      last : (step : Step LinkEdge) → Unread step log (IsPairAt (depth e.0))
          → Unread (and_then step (pairs_in_turn digest shows depth [])) log (IsPairAt (depth e.0))
      last (Err stop) h = tt
      last (Ok x) h = h

  -- ---- a subtree

  -- a step on the layer d layers below
  abbrev pub placed : ℕ → LinkEdge → Step LinkEdge → Step LinkEdge
  placed d s (Err e) = Err (record { why = e.why; edge = place d e.edge s; log = e.log })
  placed d s (Ok x) = Ok (place d x.0 s, x.1)

  placed-under : (rows : Rows) (d : ℕ) (s : LinkEdge) (step : Step LinkEdge)
      → under_rows rows (placed d s step) ≡ placed (suc d) (LinkOpened rows s) step
  placed-under rows d s (Err stop) = refl
  placed-under rows d s (Ok x) = refl

  placed-clear : (d : ℕ) (step : Step LinkEdge)
      → under_rows [] (placed d LinkClear step) ≡ placed (suc d) LinkClear step
  placed-clear d (Err stop) = refl
  placed-clear d (Ok x) = refl

  placed-zero : (s : LinkEdge) (step : Step LinkEdge) → step ≡ placed zero s step
  placed-zero s (Err stop) = refl
  placed-zero s (Ok x) = refl

  -- where nothing is
  pub subtree-first : (k d : ℕ) (c : List ℕ) (s : LinkEdge) (log : Log) → Quiet d s
      → subtreeing digest shows (suc k) d c s log ≡ Ok (place d (LinkWaiting c) s, log)
  subtree-first k zero c s log h = rw h refl
  subtree-first k (suc d) c LinkClear log h = rw (subtree-first k d c LinkClear log (quiet-clear d)) refl
  subtree-first k (suc d) c (LinkWaiting b) log h = absurd h
  subtree-first k (suc d) c (LinkOpened rows s) log h = rw (subtree-first k d c s log h) refl

  -- where another one is
  pub subtree-second : (k d : ℕ) (c : List ℕ) (u s : LinkEdge) (log : Log) → Quiet d s
      → subtreeing digest shows k d c (place d u s) log ≡ placed d s (parting digest shows k (Some c) u log)
  subtree-second k zero c u s log h = placed-zero s (parting digest shows k (Some c) u log)
  subtree-second k (suc d) c u LinkClear log h =
      rw (subtree-second k d c u LinkClear log (quiet-clear d)) (placed-clear d (parting digest shows k (Some c) u log))
  subtree-second k (suc d) c u (LinkWaiting b) log h = absurd h
  subtree-second k (suc d) c u (LinkOpened rows s) log h =
      rw (subtree-second k d c u s log h) (placed-under rows d s (parting digest shows k (Some c) u log))

  module _ (layer : List ℕ → ℕ) (n : ℕ) where
    -- ---- without changes

    abbrev pub IsStill : ℕ → LinkEdge → LinkEdge → Type 0
    IsStill d s t = Calm d t × (HasPair s → HasPair t)

    pub still-part : (k d : ℕ) (l : Option (List ℕ)) (s : LinkEdge) (log : Log) → Quiet d s
        → Unread (walking digest shows layer n k d l [] s log) log (IsStill d s)
    still-part zero d None s log h = (refl, (calm-quiet d d s h, λ p. p))
    still-part zero d (Some c) s log h = tt
    still-part (suc k) d None s log h = (refl, (calm-quiet d d s h, λ p. p))
    still-part (suc k) d (Some c) s log h =
        rw (subtree-first k d c s log h) (refl, (calm-place d (LinkWaiting c) s h, has-place d (LinkWaiting c) s h))

    -- a step, and then another
    pub unread-then : (step : Step LinkEdge) (f : LinkEdge → Log → Step LinkEdge) (log : Log)
        (P Q : LinkEdge → Type 0) → Unread step log P
        → ((t : LinkEdge) (later : Log) → P t → Unread (f t later) later Q) → Unread (and_then step f) log Q
    unread-then (Err stop) f log P Q h k = tt
    unread-then (Ok x) f log P Q h k = same (f x.0 x.1) (k x.0 x.1 h.1)
      where
        same : (o : Step LinkEdge) → Unread o x.1 Q → Unread o log Q
        same (Err stop) j = tt
        same (Ok y) j = (j.0 ∙ h.0, j.1)

    pub still-node : (k d : ℕ) (m : Shape) (s : LinkEdge) (log : Log) → Quiet (suc d) s
        → Unread (walking_node digest shows d (walking digest shows layer n k (suc d)) [] s m log) log (IsStill (suc d) s)
    still-node k d (LastLink l) s log h = still-part k (suc d) l s log h
    still-node k d (MoreLinks l e r) s log h =
        let gap = walking digest shows layer n k (suc d) in
        unread-then (gap l [] s log) (λ t log1. and_then (pairs_in_turn digest shows (λ key. d) (e ∷ []) t log1)
        (λ u log2. walking_node digest shows d gap [] u r log2)) log (IsStill (suc d) s) (IsStill (suc d) s)
        (still-part k (suc d) l s log h)
        (λ t log1 st. unread-then (pairs_in_turn digest shows (λ key. d) (e ∷ []) t log1)
        (λ u log2. walking_node digest shows d gap [] u r log2) log1 (IsPairAt d) (IsStill (suc d) s)
        (one-calm (λ key. d) e t log1 st.0)
        (λ u log2 p. kept (walking_node digest shows d gap [] u r log2) log2 u p.1
        (still-node k d r u log2 p.0)))
      where
        kept : (o : Step LinkEdge) (log2 : Log) (u : LinkEdge) → HasPair u → Unread o log2 (IsStill (suc d) u)
            → Unread o log2 (IsStill (suc d) s)
        kept (Err stop) log2 u p j = tt
        kept (Ok y) log2 u p j = (j.0, (j.1.0, λ q. j.1.1 p))
