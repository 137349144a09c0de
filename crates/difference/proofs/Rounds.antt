-- A source that fetches what it lacks, a layer a round.
use Rattle.std.proofs.Common.{◌≡◌, ℕ, zero, suc, ◌-◌, ◌≤◌, Bool, true, false, ◌||◌, ◌&&◌, nat_eq, max, List, [], ◌∷◌, refl, sym, ap, ◌∙◌, subst, arith, Option, Result, Ok, Err}
use Rattle.std.specs.List.{AllByRecursion, cons_option}
use Rattle.std.specs.declared.option.Option.TheVariants.{Some, None}
use Rattle.std.specs.Prelude.{option_and_then}
use Rattle.spec.specs.Cid.{IsDigest}
use Rattle.spec.specs.Layer.{layer as layer_of_key}
use Rattle.spec.specs.Reading.{◌>>=◌}
use Rattle.spec.specs.NodeFormat.{Shape, LastLink, MoreLinks, shape}
use Rattle.spec.specs.Tree.{Pair, top}
use Rattle.edit_laws.specs.Sources.{Extends, shape_of_bytes, shown_by}
use Rattle.edit_laws.proofs.OverSource.{holds-top}
use Rattle.edit_laws.proofs.ShapeBridges.{layer-shape}
use Rattle.lookups.specs.Trees.{HasTree}
use Rattle.difference_laws.specs.Laws.{HaveCompared}
use Rattle.difference_laws.proofs.Compared.{trees-compared}
use Rattle.edit_laws.specs.Changes.{has_cid}
use Rattle.difference_laws.specs.Lines.{Side, Stop, compared, compared_at, level, levels, links_in, repeats, shared_when, side_at, side_without, unless, without}
use Rattle.difference.specs.Missing.{AreRounds, Place, RoundsEnd, layers_of, lacked, missing_by, both_links, further, links_when, needed_at, needed_from, needed_in, needed_last, needed_of, reached}
use Rattle.difference.proofs.Needing.{first_stop, or_next}
use Rattle.difference.proofs.Parts.{among-lacked, contained-each, each-append, level-each, level-same, shows-part, stopped-layer}

-- ---- how many layers are left where opening stops

further-below : (n : ℕ) (x : Place) (y : Result (Side × Side) Stop) (go : Side × Side → Place) → x.0 ≤ n
    → ((w : Side × Side) → (go w).0 ≤ n) → (further x y go).0 ≤ n
further-below n x (Ok w) go h f = f w
further-below n x (Err e) go h f = h

reached-below : (shows : List ℕ → Option Shape) (k : ℕ) (a b : Side) → (reached shows k a b).0 ≤ k
reached-below shows zero a b = omega arith
reached-below shows (suc n) a b =
    further-below (suc n) (suc n, a, b) (level shows n a b) (λ w. reached shows n w.0 w.1) (omega arith)
    (λ w. (let i = reached-below shows n w.0 w.1 in omega arith))

-- ---- each of a layer's

module _ (P : List ℕ → Type 0) where
  link-each : (b : Bool) (c : List ℕ) (xs : List (List ℕ)) → P c → AllByRecursion P xs → AllByRecursion P (cons_option (unless b c) xs)
  link-each true c xs h k = k
  link-each false c xs h k = (h, k)

  without-each : (cs : List (List ℕ)) (s : Shape) → AllByRecursion P (links_in s) → AllByRecursion P (links_in (without cs s))
  without-each cs (LastLink None) h = tt
  without-each cs (LastLink (Some c)) h = link-each (has_cid c cs) c [] h.0 tt
  without-each cs (MoreLinks None e r) h = without-each cs r h
  without-each cs (MoreLinks (Some c) e r) h =
      link-each (has_cid c cs) c (links_in (without cs r)) h.0 (without-each cs r h.1)

  when-each : (p : Bool) (s : Side) → AllByRecursion P (links_in s.line) → AllByRecursion P (links_when p s)
  when-each true s h = h
  when-each false s h = tt

  both-each : (p q : Bool) (x : Side × Side) → AllByRecursion P (links_in x.0.line) → AllByRecursion P (links_in x.1.line)
      → AllByRecursion P (both_links p q x)
  both-each p q x h k = each-append P (links_when p x.0) (links_when q x.1) (when-each p x.0 h) (when-each q x.1 k)

  shared-each : (p q t : Bool) (a b : Side) → AllByRecursion P (links_in a.line) → AllByRecursion P (links_in b.line)
      → AllByRecursion P (both_links p q (shared_when t a b))
  shared-each p q true a b h k =
      both-each p q (side_without (links_in b.line) a, side_without (links_in a.line) b)
      (without-each (links_in b.line) a.line h) (without-each (links_in a.line) b.line k)
  shared-each p q false a b h k = both-each p q (a, b) h k

  needed-each : (n : ℕ) (a b : Side) → AllByRecursion P (links_in a.line) → AllByRecursion P (links_in b.line)
      → AllByRecursion P (needed_at n a b)
  needed-each n a b h k =
      let p = nat_eq a.left (suc n) in let q = nat_eq b.left (suc n) in shared-each p q (p && q) a b h k

-- ---- one round

-- what the one shows the other shows
abbrev pub Shows : (List ℕ → Option Shape) → (List ℕ → Option Shape) → Type 0
Shows some more = (c : List ℕ) (m : Shape) → some c ≡ Some m → more c ≡ Some m

module _ (some more whole : List ℕ → Option Shape) (in_more : Shows some more) (in_whole : Shows more whole) where
  some_whole : Shows some whole
  some_whole c m h = in_whole c m (in_more c m h)

  abbrev Fetched : List ℕ → Type 0
  Fetched c = more c ≡ whole c

  shown-case : (d : List ℕ) (o : Option Shape) (s : Option Stop) → some d ≡ o → or_next o d s ≡ None → Fetched d × (s ≡ None)
  shown-case d None s e h = absurd cc
  shown-case d (Some m) s e h = (in_more d m e ∙ sym (some_whole d m e), h)

  shown-each : (cs : List (List ℕ)) → first_stop some cs ≡ None → AllByRecursion Fetched cs
  shown-each [] h = tt
  shown-each (d ∷ ds) h =
      let k = shown-case d (some d) (first_stop some ds) refl h in (k.0, shown-each ds k.1)

  lower-case : (n : ℕ) (a b : Side) (z : Side × Side) (o : Option Stop) → first_stop some (needed_at n a b) ≡ o
      → (r : Result (Side × Side) Stop) → level whole n a b ≡ r → (r >>= λ y. levels whole n y.0 y.1) ≡ Ok z
      → AllByRecursion Fetched (needed_in (reached some (suc n) a b))
      → ((s t : Side) → levels whole n s t ≡ Ok z → AllByRecursion Fetched (needed_in (reached some n s t))
      → (reached more n s t).0 ≤ (reached some n s t).0 - 1)
      → (reached more (suc n) a b).0 ≤ (reached some (suc n) a b).0 - 1
  lower-case n a b z o s (Err e) q h k f = absurd cc
  lower-case n a b z None s (Ok y) q h k f =
      let x : level some n a b ≡ Ok y = level-same some whole some_whole n a b s ∙ q in
      let m : level more n a b ≡ Ok y = level-each more whole in_whole n a b (shown-each (needed_at n a b) s) ∙ q in
      let go = λ (w : Side × Side). reached some n w.0 w.1 in
      let low = f y.0 y.1 h
      (subst (λ r. AllByRecursion Fetched (needed_in (further (suc n, a, b) r (λ w. reached some n w.0 w.1)))) x k) in
      subst (λ r. (further (suc n, a, b) r (λ w. reached more n w.0 w.1)).0 ≤ (reached some (suc n) a b).0 - 1) (sym m)
      (subst (λ r. (reached more n y.0 y.1).0 ≤ (further (suc n, a, b) r (λ w. reached some n w.0 w.1)).0 - 1) (sym x) low)
  lower-case n a b z (Some e) s (Ok y) q h k f =
      let x : level some n a b ≡ Err e =
      stopped-layer some whole some_whole n a b e (repeats (links_in a.line) || repeats (links_in b.line)) refl y q s in
      let each = subst (λ r. AllByRecursion Fetched (needed_in (further (suc n, a, b) r (λ w. reached some n w.0 w.1)))) x k in
      let m : level more n a b ≡ Ok y = level-each more whole in_whole n a b each ∙ q in
      let low = reached-below more n y.0 y.1 in
      subst (λ r. (further (suc n, a, b) r (λ w. reached more n w.0 w.1)).0 ≤ (reached some (suc n) a b).0 - 1) (sym m)
      (subst (λ r. (reached more n y.0 y.1).0 ≤ (further (suc n, a, b) r (λ w. reached some n w.0 w.1)).0 - 1) (sym x)
      (omega arith))

  -- once all that a layer needs is there, opening comes to a lower one
  lower : (k : ℕ) (a b : Side) (z : Side × Side) → levels whole k a b ≡ Ok z
      → AllByRecursion Fetched (needed_in (reached some k a b)) → (reached more k a b).0 ≤ (reached some k a b).0 - 1
  lower zero a b z h k = omega arith
  lower (suc n) a b z h k =
      lower-case n a b z (first_stop some (needed_at n a b)) refl (level whole n a b) refl h k
      (λ s t i j. lower n s t z i j)

-- ---- from the roots

some-is : {A : Type 0} (x y : A) → ◌≡◌ {A = Option A} (Some x) (Some y) → x ≡ y
some-is x y q = cc

-- of a whole that has both roots and opens both trees
module _ (whole : List ℕ → Option Shape) (layer : List ℕ → ℕ) (old new : List ℕ) (s t : Shape) (z : Side × Side)
    (has_old : whole old ≡ Some s) (has_new : whole new ≡ Some t) where
  abbrev first : Side
  first = side_at layer old s

  abbrev second : Side
  second = side_at layer new t

  abbrev pub all_left : ℕ
  all_left = max first.left second.left

  -- how many layers are left where opening stops over some source; all of them where a root isn't there
  abbrev pub left_of : (List ℕ → Option Shape) → Option Shape → Option Shape → ℕ
  left_of shows None p = all_left
  left_of shows (Some m) None = all_left
  left_of shows (Some m) (Some n) = (reached shows all_left first second).0

  abbrev pub left_over : (List ℕ → Option Shape) → ℕ
  left_over shows = left_of shows (shows old) (shows new)

  most-case : (shows : List ℕ → Option Shape) (o p : Option Shape) → left_of shows o p ≤ all_left
  most-case shows None p = omega arith
  most-case shows (Some m) None = omega arith
  most-case shows (Some m) (Some n) = reached-below shows all_left first second

  pub left-most : (shows : List ℕ → Option Shape) → left_over shows ≤ all_left
  left-most shows = most-case shows (shows old) (shows new)

  -- where none is left, nothing is needed
  done-case : (shows : List ℕ → Option Shape) (o p : Option Shape) → shows old ≡ o → shows new ≡ p → Shows shows whole
      → left_of shows o p ≡ 0 → needed_from shows layer old new o p ≡ []
  done-case shows None p e f g h = absurd (omega arith)
  done-case shows (Some m) None e f g h = absurd (omega arith)
  done-case shows (Some m) (Some n) e f g h =
      let same : s ≡ m = some-is s m (sym has_old ∙ g old m e) in
      let same2 : t ≡ n = some-is t n (sym has_new ∙ g new n f) in
      let x = reached shows all_left first second in
      (λ i. needed_in (reached shows (max (side_at layer old (sym same i)).left (side_at layer new (sym same2 i)).left)
      (side_at layer old (sym same i)) (side_at layer new (sym same2 i))))
      ∙ ap (λ k. needed_of k x.1 x.2) h

  pub left-done : (shows : List ℕ → Option Shape) → Shows shows whole → left_over shows ≡ 0
      → needed_last shows layer old new ≡ []
  left-done shows g h = done-case shows (shows old) (shows new) refl refl g h

  module _ (opens : levels whole all_left first second ≡ Ok z) (some more : List ℕ → Option Shape) (in_more : Shows some more)
      (in_whole : Shows more whole) where
    roots-lower : (n : ℕ) (r : Result (Side × Side) Stop) → all_left ≡ suc n → level whole n first second ≡ r
        → (r >>= λ y. levels whole n y.0 y.1) ≡ Ok z → more old ≡ whole old → more new ≡ whole new
        → (reached more (suc n) first second).0 ≤ n
    roots-lower n (Err e) a q h k l = absurd cc
    roots-lower n (Ok y) a q h k l =
        let each = needed-each (λ c. more c ≡ whole c) n first second (k, tt) (l, tt) in
        let m : level more n first second ≡ Ok y = level-each more whole in_whole n first second each ∙ q in
        let low = reached-below more n y.0 y.1 in
        subst (λ r. (further (suc n, first, second) r (λ w. reached more n w.0 w.1)).0 ≤ n) (sym m) low

    roots-came : more old ≡ whole old → more new ≡ whole new → left_over more ≤ all_left - 1
    roots-came k l =
        let n = all_left - 1 in
        let a : all_left ≡ suc n = omega arith in
        let low = roots-lower n (level whole n first second) a refl (ap (λ j. levels whole j first second) (sym a) ∙ opens) k l in
        let is : left_over more ≡ (reached more all_left first second).0 =
        (λ i. left_of more ((k ∙ has_old) i) ((l ∙ has_new) i)) in
        let is2 : (reached more all_left first second).0 ≡ (reached more (suc n) first second).0 =
        ap (λ j. (reached more j first second).0) a in
        omega arith

    round-case : (o p : Option Shape) → some old ≡ o → some new ≡ p
        → AllByRecursion (λ c. more c ≡ whole c) (needed_from some layer old new o p)
        → left_over more ≤ left_of some o p - 1
    round-case None p e f h = roots-came h.0 h.1.0
    round-case (Some m) None e f h = roots-came h.0 h.1.0
    round-case (Some m) (Some n) e f h =
        let same : m ≡ s = some-is m s (sym (in_whole old m (in_more old m e)) ∙ has_old) in
        let same2 : n ≡ t = some-is n t (sym (in_whole new n (in_more new n f)) ∙ has_new) in
        let each = subst (λ (x : Side × Side). AllByRecursion (λ c. more c ≡ whole c)
        (needed_in (reached some (max x.0.left x.1.left) x.0 x.1)))
        (λ i. (side_at layer old (same i), side_at layer new (same2 i))) h in
        let low = lower some more whole in_more in_whole all_left first second z opens each in
        let is : left_over more ≡ (reached more all_left first second).0 =
        (λ i. left_of more (in_more old m e i) (in_more new n f i)) in
        omega arith

    -- with all that was needed at the layer where it stopped, fewer are left
    pub round-lower : AllByRecursion (λ c. more c ≡ whole c) (needed_last some layer old new)
        → left_over more ≤ left_over some - 1
    round-lower h = round-case (some old) (some new) refl refl h

  -- ---- round after round

  module _ (opens : levels whole all_left first second ≡ Ok z) (sources : ℕ → List ℕ → Option Shape)
      (grow : (i : ℕ) → Shows (sources i) (sources (suc i))) (parts : (i : ℕ) → Shows (sources i) whole)
      (fetched : (i : ℕ) → AllByRecursion (λ c. sources (suc i) c ≡ whole c) (needed_last (sources i) layer old new)) where
    left-after : (i : ℕ) → left_over (sources i) ≤ all_left - i
    left-after zero = let m = left-most (sources 0) in omega arith
    left-after (suc i) =
        let l = round-lower opens (sources i) (sources (suc i)) (grow i) (parts (suc i)) (fetched i) in
        let k = left-after i in
        omega arith

    -- after as many rounds as there are layers nothing is needed
    pub rounds-end : needed_last (sources all_left) layer old new ≡ []
    rounds-end =
        let l = left-after all_left in
        left-done (sources all_left) (parts all_left) (omega arith)

-- ---- sources of bytes

module _ (digest : List ℕ → List ℕ) (bits : ℕ) (fits : IsDigest digest) (whole : List ℕ → Option (List ℕ)) (old new : List ℕ)
    (es fs : List Pair) (has_es : HasTree digest bits whole old es) (has_fs : HasTree digest bits whole new fs) where
  abbrev lay : List ℕ → ℕ
  lay = layer_of_key digest bits

  abbrev root_shape : List Pair → Shape
  root_shape xs = shape digest (top lay xs)

  has-root : (c : List ℕ) (xs : List Pair) → HasTree digest bits whole c xs → shown_by whole c ≡ Some (root_shape xs)
  has-root c xs h = ap (shown_by whole) h.root_is ∙ (holds-top digest bits fits whole xs h.pairs h.nodes).0

  compares : HaveCompared digest bits whole es fs
  compares = trees-compared digest bits fits whole es fs has_es.pairs has_fs.pairs has_es.nodes has_fs.nodes

  abbrev ends : Side × Side
  ends = (compares.old, compares.new)

  opens-all : levels (shown_by whole) (all_left (shown_by whole) lay old new (root_shape es) (root_shape fs) ends
      (has-root old es has_es) (has-root new fs has_fs))
      (side_at lay old (root_shape es)) (side_at lay new (root_shape fs)) ≡ Ok ends
  opens-all =
      sym (λ i. compared_at (shown_by whole) lay old new (has-root old es has_es i) (has-root new fs has_fs i))
      ∙ (λ i. compared (shown_by whole) lay (has_es.root_is i) (has_fs.root_is i)) ∙ compares.is

  fetched-case : (some more : List ℕ → Option (List ℕ)) → Extends some more → Extends some whole → (c : List ℕ) (o : Option (List ℕ))
      → some c ≡ o → (some c ≡ None → more c ≡ whole c) → shown_by more c ≡ shown_by whole c
  fetched-case some more e f c None q h = ap (option_and_then shape_of_bytes) (h q)
  fetched-case some more e f c (Some b) q h = ap (option_and_then shape_of_bytes) (e c b q ∙ sym (f c b q))

  all-layers : all_left (shown_by whole) lay old new (root_shape es) (root_shape fs) ends (has-root old es has_es)
      (has-root new fs has_fs) ≡ layers_of digest bits es fs
  all-layers =
      let p = layer-shape digest lay (top lay es) in
      let q = layer-shape digest lay (top lay fs) in
      omega arith

  rounds-last : (sources : ℕ → List ℕ → Option (List ℕ)) → AreRounds digest bits whole old new sources
      → missing_by (sources (layers_of digest bits es fs)) lay old new ≡ []
  rounds-last sources r =
      let n = rounds-end (shown_by whole) lay old new (root_shape es) (root_shape fs) ends (has-root old es has_es)
      (has-root new fs has_fs) opens-all (λ i. shown_by (sources i))
      (λ i. shows-part (sources i) (sources (suc i)) (r.grow i)) (λ i. shows-part (sources i) whole (r.parts i))
      (λ i. contained-each (λ c. shown_by (sources (suc i)) c ≡ shown_by whole c)
      (needed_last (shown_by (sources i)) lay old new)
      (λ c h. fetched-case (sources i) (sources (suc i)) (r.grow i) (r.parts i) c (sources i c) refl
      (λ e. r.fetched i c (among-lacked (sources i) (needed_last (shown_by (sources i)) lay old new) c h e)))) in
      let m = layers_of digest bits es fs in
      let last = subst (λ k. needed_last (shown_by (sources k)) lay old new ≡ []) all-layers n in
      ap (lacked (sources m)) last

pub rounds-end-so : RoundsEnd
rounds-end-so digest bits fits whole old new es fs has_es has_fs sources r =
    rounds-last digest bits fits whole old new es fs has_es has_fs sources r
