-- Two trees opened side by side: what is read and what is left balance at each layer.
use Rattle.std.proofs.Common.{◌≡◌, ◌≢◌, ◌⊎◌, inl, inr, ℕ, zero, suc, ◌+◌, ◌≤◌, Bool, true, false, ◌&&◌, ◌||◌, List, [], ◌∷◌, ◌++◌, map, refl, sym, ap, subst, ◌∙◌, arith, Option, Result, Ok, nat_eq}
use Rattle.std.proofs.lemmas.List.{map-append, append-nil}
use Rattle.std.proofs.lemmas.Bool.{eqb-true, eqb-false}
use Rattle.spec.specs.Laws.Tree.{HasLayer, HasPairs}
use Rattle.std.specs.List.{AllByRecursion}
use Rattle.spec.specs.Reading.{◌>>=◌}
use Rattle.spec.specs.Tree.{Pair, Node, Sub, EachNode, EachUnder, pairs_under}
use Rattle.spec.specs.NodeFormat.{Shape, shape}
use Rattle.edit_laws.specs.Changes.{count}
use Rattle.edit_laws.specs.Pairs.{Ascending}
use Rattle.edit_laws.specs.Trace.{weight, weight_under, total}
use Rattle.edit_laws.proofs.Weights.{total-append}
use Rattle.difference_laws.specs.Lines.{Stop, Side, links_in, without, repeats, opened, side_of, opened_when, side_without, shared_when, both_opened, tested, level, levels}
use Rattle.difference_laws.proofs.Opening.{tops, spread, cid_of, bare, shape-bare, own-bare, links-are, IsShown, opened-is}
use Rattle.difference_laws.proofs.Weighing.{weight-spread, tally, rows, rows-spread, taken, heavy, weight-bare}
use Rattle.difference_laws.proofs.Sharing.{taken-same}
use Rattle.difference_laws.proofs.Kept.{under-spread, under-tops, under-bare, PartsBelow, below-spread, below-bare, pairs-spread, ascends-bare, hit, tops-counted, none-repeats, same-node, AreApart, all-both, all-of, apart-by, apart-four, left-apart, one-layer, tops-layer, PartsFull, full-spread, full-bare, full-tops}

module _ (digest : List ℕ → List ℕ) (shows : List ℕ → Option Shape) (layer : List ℕ → ℕ) where
  -- a tree down to some layer, of which these nodes were read
  pub record IsOpen (whole : Node) (s : Side) (a : Node) (ra : List Node) : Type 0 where
    pub line_is : s.line ≡ shape digest a
    pub read_is : s.read ≡ map (shape digest) ra
    pub below : PartsBelow layer s.left a
    pub shown : EachUnder (IsShown digest shows) a
    pub full : PartsFull s.left a
    pub ascends : Ascending (pairs_under a)
    pub own_is : (f : Pair → ℕ) → rows f a ≡ total (rows f) ra
    pub within : (w : Node → ℕ) → total w ra + weight_under w a ≤ weight w (Sub whole)

  -- ---- one side

  -- it is opened where it stands at this layer, and else waits
  abbrev came : Bool → Node → List Node
  came true a = tops a
  came false a = []

  -- a node of this layer, which has pairs
  pub record AtLayer (n : ℕ) (k : Node) : Type 0 where
    pub known : EachNode (IsShown digest shows) (Sub k)
    pub layer_is : HasLayer layer n k
    pub pairs : HasPairs k ⊎ (n ≡ 0)

  -- or of a higher one
  pub record From (n : ℕ) (k : Node) : Type 0 where
    pub least : ℕ
    pub above : n ≤ least
    pub at : AtLayer least k

  record Next (whole : Node) (r : Result Side Stop) (p : Bool) (n : ℕ) (a : Node) (ra : List Node) : Type 0 where
    side : Side
    node : Node
    read : List Node
    more : read ≡ ra ++ came p a
    at : AllByRecursion (AtLayer n) (came p a)
    is : r ≡ Ok side
    stands : IsOpen whole side node read
    low : side.left ≤ n
    same : (w : Node → ℕ) → total w read + weight_under w node ≡ total w ra + weight_under w a

  tops-at : (n : ℕ) (a : Node) → AllByRecursion (HasLayer layer n) (tops a)
      → AllByRecursion (λ k. EachNode (IsShown digest shows) (Sub k)) (tops a)
      → AllByRecursion (λ k. HasPairs k ⊎ (n ≡ 0)) (tops a) → AllByRecursion (AtLayer n) (tops a)
  tops-at n a = each (tops a)
    where
      each : (ks : List Node) → AllByRecursion (HasLayer layer n) ks
          → AllByRecursion (λ k. EachNode (IsShown digest shows) (Sub k)) ks
          → AllByRecursion (λ k. HasPairs k ⊎ (n ≡ 0)) ks → AllByRecursion (AtLayer n) ks
      each [] h i j = tt
      each (k ∷ ks) h i j = (record { known = i.0; layer_is = h.0; pairs = j.0 }, each ks h.1 i.1 j.1)

  open-is : (whole : Node) (s : Side) (a : Node) (ra : List Node) (n : ℕ) → IsOpen whole s a ra
      → side_of n (opened shows s.line s.read)
      ≡ Ok (record { left = n; line = shape digest (spread a); read = map (shape digest) (ra ++ tops a) })
  open-is whole s a ra n o =
      ap (side_of n) ((λ i. opened shows (o.line_is i) (o.read_is i))
      ∙ opened-is digest shows a (map (shape digest) ra) (under-tops (IsShown digest shows) a o.shown))
      ∙ ap (λ t. Ok (record { left = n; line = shape digest (spread a); read = t }))
      (sym (map-append (shape digest) ra (tops a)))

  open-true : (whole : Node) (s : Side) (a : Node) (ra : List Node) (n : ℕ) → IsOpen whole s a ra → s.left ≡ suc n
      → Next whole (side_of n (opened shows s.line s.read)) true n a ra
  open-true whole s a ra n o e =
      let below : PartsBelow layer (suc n) a = subst (λ k. PartsBelow layer k a) e o.below in
      record {
        side = record { left = n; line = shape digest (spread a); read = map (shape digest) (ra ++ tops a) };
        node = spread a;
        read = ra ++ tops a;
        more = refl;
        at = tops-at n a (tops-layer layer n a below) (under-tops (IsShown digest shows) a o.shown)
            (full-tops n a (subst (λ k. PartsFull k a) e o.full));
        is = open-is whole s a ra n o;
        stands = record {
          line_is = refl;
          read_is = refl;
          below = below-spread layer n a below;
          shown = under-spread (IsShown digest shows) a o.shown;
          full = full-spread s.left n a o.full;
          ascends = subst Ascending (sym (pairs-spread a)) o.ascends;
          own_is = λ f. (let i = rows-spread f a in let j = o.own_is f in
              let k = total-append (rows f) ra (tops a) in omega arith);
          within = λ w. (let i = weight-spread w a in let j = o.within w in
              let k = total-append w ra (tops a) in omega arith);
        };
        low = omega arith;
        same = λ w. (let i = weight-spread w a in let k = total-append w ra (tops a) in omega arith);
      }

  -- two numbers that a test finds the same or not
  lower-of : (x n : ℕ) → x ≤ suc n → nat_eq x (suc n) ≡ false → x ≤ n
  lower-of x n h e = let d : x ≢ suc n = eqb-false x (suc n) e in omega arith

  open-when : (whole : Node) (s : Side) (a : Node) (ra : List Node) (n : ℕ) → IsOpen whole s a ra → s.left ≤ suc n
      → (p : Bool) → nat_eq s.left (suc n) ≡ p → Next whole (opened_when shows n p s) p n a ra
  open-when whole s a ra n o l true e = open-true whole s a ra n o (eqb-true s.left (suc n) e)
  open-when whole s a ra n o l false e = record {
    side = s;
    node = a;
    read = ra;
    more = sym (append-nil ra);
    at = tt;
    is = refl;
    stands = o;
    low = lower-of s.left n l e;
    same = λ w. refl;
  }

  -- ---- what both have

  bare-open : (whole : Node) (s : Side) (a : Node) (ra : List Node) (cs : List (List ℕ)) → IsOpen whole s a ra
      → IsOpen whole (side_without cs s) (bare digest cs a) ra
  bare-open whole s a ra cs o = record {
    line_is = ap (without cs) o.line_is ∙ sym (shape-bare digest cs a);
    read_is = o.read_is;
    below = below-bare layer digest s.left cs a o.below;
    shown = under-bare (IsShown digest shows) digest cs a o.shown;
    full = full-bare digest s.left cs a o.full;
    ascends = ascends-bare digest cs a o.ascends;
    own_is = λ f. (ap (tally f) (own-bare digest cs a) ∙ o.own_is f);
    within = λ w. (let i = weight-bare digest w cs a in let j = o.within w in omega arith);
  }

  links-of : (whole : Node) (s : Side) (a : Node) (ra : List Node) → IsOpen whole s a ra
      → links_in s.line ≡ map (cid_of digest) (tops a)
  links-of whole s a ra o = ap links_in o.line_is ∙ links-are digest a

  once-each : (whole : Node) (s : Side) (a : Node) (ra : List Node) → IsOpen whole s a ra
      → ((c : List ℕ) → weight (hit digest c) (Sub whole) ≤ 1) → (c : List ℕ)
      → count c (map (cid_of digest) (tops a)) ≤ 1
  once-each whole s a ra o once c =
      let i = tops-counted digest c a in
      let j = o.within (hit digest c) in
      let k = once c in
      omega arith

  module _ (A B : Node) (onceA : (c : List ℕ) → weight (hit digest c) (Sub A) ≤ 1)
      (onceB : (c : List ℕ) → weight (hit digest c) (Sub B) ≤ 1) where
    record Shared (t : Bool) (x : Side × Side) (sa sb : Side) (a b : Node) (ra rb : List Node) : Type 0 where
      old : Node
      new : Node
      old_stands : IsOpen A x.0 old ra
      new_stands : IsOpen B x.1 new rb
      old_left : x.0.left ≡ sa.left
      new_left : x.1.left ≡ sb.left
      even : (w : Node → ℕ) → weight_under w old + weight_under w b ≡ weight_under w a + weight_under w new
      fresh : t ≡ true → AreApart digest (tops old) (tops new)

    share-even : (sa sb : Side) (a b : Node) (ra rb : List Node) → IsOpen A sa a ra → IsOpen B sb b rb
        → (w : Node → ℕ) → weight_under w (bare digest (links_in sb.line) a) + weight_under w b
        ≡ weight_under w a + weight_under w (bare digest (links_in sa.line) b)
    share-even sa sb a b ra rb o q w =
        let v = heavy w in
        let i = weight-bare digest w (links_in sb.line) a in
        let j = weight-bare digest w (links_in sa.line) b in
        let k = ap (λ cs. taken v (cid_of digest) cs (tops a)) (links-of B sb b rb q) in
        let l = ap (λ cs. taken v (cid_of digest) cs (tops b)) (links-of A sa a ra o) in
        let m = taken-same v (cid_of digest) (λ x. EachNode (IsShown digest shows) (Sub x))
        (λ x y g h e. ap v (same-node digest shows x y g h e)) (tops a) (tops b)
        (under-tops (IsShown digest shows) a o.shown) (under-tops (IsShown digest shows) b q.shown)
        (once-each A sa a ra o onceA) (once-each B sb b rb q onceB) in
        omega arith

    share : (t : Bool) (sa sb : Side) (a b : Node) (ra rb : List Node) → IsOpen A sa a ra → IsOpen B sb b rb
        → Shared t (shared_when t sa sb) sa sb a b ra rb
    share true sa sb a b ra rb o q = record {
      old = bare digest (links_in sb.line) a;
      new = bare digest (links_in sa.line) b;
      old_stands = bare-open A sa a ra (links_in sb.line) o;
      new_stands = bare-open B sb b rb (links_in sa.line) q;
      old_left = refl;
      new_left = refl;
      even = share-even sa sb a b ra rb o q;
      fresh = λ e. subst (λ cs. AreApart digest (tops (bare digest cs a)) (tops (bare digest (links_in sa.line) b)))
          (sym (links-of B sb b rb q)) (left-apart digest a b (links_in sa.line));
    }
    share false sa sb a b ra rb o q = record {
      old = a;
      new = b;
      old_stands = o;
      new_stands = q;
      old_left = refl;
      new_left = refl;
      even = λ w. refl;
      fresh = λ e. absurd cc;
    }

    no-repeats : (whole : Node) (s : Side) (a : Node) (ra : List Node) → IsOpen whole s a ra
        → ((c : List ℕ) → weight (hit digest c) (Sub whole) ≤ 1) → repeats (links_in s.line) ≡ false
    no-repeats whole s a ra o once =
        ap repeats (links-of whole s a ra o)
        ∙ none-repeats digest (map (cid_of digest) (tops a)) (once-each whole s a ra o once)

    neither : (a b : Bool) → a ≡ false → b ≡ false → (a || b) ≡ false
    neither a b p q = rw (p, q) refl

    -- nodes of different layers are apart
    layers-apart : (i j : ℕ) (x y : Node) → AtLayer i x → AtLayer j y → cid_of digest x ≡ cid_of digest y → i ≡ j
    layers-apart i j x y h k e =
        let same : x ≡ y = same-node digest shows x y h.known k.known e in
        let there = subst (λ z. HasLayer layer j z) (sym same) k.layer_is in
        elim h.pairs [
          | inl p ↦ one-layer layer i j x h.layer_is there p
          | inr z ↦ elim k.pairs [
            | inl p ↦ one-layer layer i j x h.layer_is there (subst HasPairs (sym same) p)
            | inr w ↦ z ∙ sym w
          ]
        ]

    higher-apart : (n : ℕ) (xs ys : List Node) → AllByRecursion (From (suc n)) xs → AllByRecursion (AtLayer n) ys
        → AreApart digest xs ys
    higher-apart n xs ys h k =
        apart-by digest (From (suc n)) (AtLayer n)
        (λ x y f a e. (let i = layers-apart f.least n x y f.at a e in let j = f.above in absurd (omega arith))) xs ys h k

    lower-apart : (n : ℕ) (xs ys : List Node) → AllByRecursion (AtLayer n) xs → AllByRecursion (From (suc n)) ys
        → AreApart digest xs ys
    lower-apart n xs ys h k =
        apart-by digest (AtLayer n) (From (suc n))
        (λ x y a f e. (let i = layers-apart n f.least x y a f.at e in let j = f.above in absurd (omega arith))) xs ys h k

    came-apart : (p t : Bool) (a b : Node) → ((p && t) ≡ true → AreApart digest (tops a) (tops b))
        → AreApart digest (came p a) (came t b)
    came-apart false t a b f = tt
    came-apart true true a b f = f refl
    came-apart true false a b f = empty (tops a)
      where
        empty : (xs : List Node) → AreApart digest xs []
        empty [] = tt
        empty (x ∷ xs) = (tt, empty xs)

    from-down : (n : ℕ) (xs ys : List Node) → AllByRecursion (From (suc n)) xs → AllByRecursion (AtLayer n) ys
        → AllByRecursion (From n) (xs ++ ys)
    from-down n xs ys h k =
        all-both (From n) xs ys
        (all-of (From (suc n)) (From n) xs (λ x f. record {
          least = f.least;
          above = (let i = f.above in omega arith);
          at = f.at;
        }) h)
        (all-of (AtLayer n) (From n) ys (λ x a. record { least = n; above = omega arith; at = a }) k)

    -- what was read of two trees down to a layer is of that layer or above, and apart
    pub record Apart (n : ℕ) (ra rb : List Node) : Type 0 where
      pub old : AllByRecursion (From n) ra
      pub new : AllByRecursion (From n) rb
      pub apart : AreApart digest ra rb

    apart-down : (n : ℕ) (p t : Bool) (a b : Node) (ra rb : List Node) → Apart (suc n) ra rb
        → AllByRecursion (AtLayer n) (came p a) → AllByRecursion (AtLayer n) (came t b)
        → ((p && t) ≡ true → AreApart digest (tops a) (tops b)) → Apart n (ra ++ came p a) (rb ++ came t b)
    apart-down n p t a b ra rb h i j f = record {
      old = from-down n ra (came p a) h.old i;
      new = from-down n rb (came t b) h.new j;
      apart = apart-four digest ra (came p a) rb (came t b) h.apart (higher-apart n ra (came t b) h.old j)
          (lower-apart n (came p a) rb i h.new) (came-apart p t a b f);
    }

    abbrev Even : Node → Node → List Node → List Node → Type 0
    Even a b ra rb = (w : Node → ℕ) → total w ra + weight_under w a + weight w (Sub B)
        ≡ total w rb + weight_under w b + weight w (Sub A)

    pub record Finished (r : Result (Side × Side) Stop) : Type 0 where
      pub old : Side
      pub new : Side
      pub old_node : Node
      pub new_node : Node
      pub old_read : List Node
      pub new_read : List Node
      pub is : r ≡ Ok (old, new)
      pub old_stands : IsOpen A old old_node old_read
      pub new_stands : IsOpen B new new_node new_read
      pub old_low : old.left ≤ 0
      pub new_low : new.left ≤ 0
      pub even : Even old_node new_node old_read new_read
      pub apart : AreApart digest old_read new_read

    pub levels-do : (n : ℕ) (sa sb : Side) (a b : Node) (ra rb : List Node) → IsOpen A sa a ra → IsOpen B sb b rb
        → sa.left ≤ n → sb.left ≤ n → Even a b ra rb → Apart n ra rb → Finished (levels shows n sa sb)
    levels-do zero sa sb a b ra rb o q l m even far = record {
      old = sa;
      new = sb;
      old_node = a;
      new_node = b;
      old_read = ra;
      new_read = rb;
      is = refl;
      old_stands = o;
      new_stands = q;
      old_low = l;
      new_low = m;
      even = even;
      apart = far.apart;
    }
    levels-do (suc n) sa sb a b ra rb o q l m even far =
        let p = nat_eq sa.left (suc n) in
        let t = nat_eq sb.left (suc n) in
        let x = shared_when (p && t) sa sb in
        let s = share (p && t) sa sb a b ra rb o q in
        let u = open-when A x.0 s.old ra n s.old_stands (subst (λ k. k ≤ suc n) (sym s.old_left) l) p
        (ap (λ k. nat_eq k (suc n)) s.old_left) in
        let v = open-when B x.1 s.new rb n s.new_stands (subst (λ k. k ≤ suc n) (sym s.new_left) m) t
        (ap (λ k. nat_eq k (suc n)) s.new_left) in
        let both : both_opened shows n p t x ≡ Ok (u.side, v.side) =
        ap (λ r. r >>= λ a. opened_when shows n t x.1 >>= λ b. Ok (a, b)) u.is
        ∙ ap (λ r. r >>= λ b. Ok (u.side, b)) v.is in
        let is : level shows n sa sb ≡ Ok (u.side, v.side) =
        ap (λ g. tested g (both_opened shows n p t x))
        (neither (repeats (links_in sa.line)) (repeats (links_in sb.line)) (no-repeats A sa a ra o onceA)
        (no-repeats B sb b rb q onceB)) ∙ both in
        let next = levels-do n u.side v.side u.node v.node u.read v.read u.stands v.stands u.low v.low
        (λ w. let i = u.same w in let j = v.same w in let k = s.even w in let h = even w in omega arith)
        (subst (λ r. Apart n r v.read) (sym u.more) (subst (λ r. Apart n (ra ++ came p s.old) r) (sym v.more)
        (apart-down n p t s.old s.new ra rb far u.at v.at s.fresh))) in
        record {
          old = next.old;
          new = next.new;
          old_node = next.old_node;
          new_node = next.new_node;
          old_read = next.old_read;
          new_read = next.new_read;
          is = ap (λ r. r >>= λ x. levels shows n x.0 x.1) is ∙ next.is;
          old_stands = next.old_stands;
          new_stands = next.new_stands;
          old_low = next.old_low;
          new_low = next.new_low;
          even = next.even;
          apart = next.apart;
        }
