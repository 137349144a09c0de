-- One step of a walk, and a walk over a whole tree.
use Rattle.std.proofs.Common.{Vec, ◌≡◌, ℕ, zero, suc, ◌+◌, ◌*◌, ◌-◌, ◌<◌, ◌≤◌, Bool, true, List, [], ◌∷◌, ◌++◌, length, Option, option_map, refl, sym, ap, subst, ◌∙◌, append-nil, append_assoc, arith}
use Rattle.std.specs.Prelude.{IfSome, IfNone, slice_get, take}
use Rattle.std.specs.declared.option.Option.TheVariants.{Some, None}
use Rattle.std.specs.declared.cmp.Ordering.{Ordering}
use Rattle.std.specs.declared.cmp.Ordering.TheVariants.{Less, Equal, Greater}
use Rattle.std.specs.Cmp.Lexicographic.{slice_cmp}
use Rattle.std.specs.Ordering.{nat_cmp, is_lt}
use Rattle.std.proofs.lemmas.List.{length-append, length-map, map-append}
use Rattle.std.proofs.Math.Nat.{suc-mul}
use Rattle.cid.specs.CidRef.{bytes_of}
use Rattle.cid.specs.declared.cid_ref.CidRef.{CidRef}
use Rattle.spec.specs.Cid.{IsDigest}
use Rattle.spec.specs.Layer.{layer}
use Rattle.spec.specs.Blocks.{listed}
use Rattle.spec.specs.Tree.{Pair, Node, Part, Last, More, Sub, EachNode, EachUnder, top}
use Rattle.spec.specs.NodeFormat.{Shape, LastLink, MoreLinks, first_link, part_link, shape}
use Rattle.spec.specs.Blocks.{listed}
use Rattle.edit_laws.specs.Order.{order}
use Rattle.edit_laws.specs.Pairs.{Each, IsAfter, IsBefore, Ascending}
use Rattle.edit_laws.specs.TreeEdit.{first}
use Rattle.edit_laws.specs.Walk.{Frame, later, go_down, last_key}
use Rattle.edit_laws.specs.Sources.{shown_by, gap, gap_at, path_from, start_shape, start_at, later_shape, down_from, next_from, walk_from, next_path, walk_path}
use Rattle.edit_laws.specs.Laws.Walks.{IsWalk}
use Rattle.edit_laws.proofs.EachPair.{halves}
use Rattle.edit_laws.proofs.Orders.{order-is}
use Rattle.edit_laws.proofs.OverSource.{holds-top}
use Rattle.edit_laws.proofs.ShapeBridges as bridge
use Rattle.edit_laws.proofs.SourceLaws.{IsShown, AreShown, frames, down-holds, down-shown}
use Rattle.edit_laws.proofs.WalkPairs.{each-first_part, ascending-filter}
use Rattle.edit_laws.proofs.RecordMaps.{ascending-sorted}
use Rattle.edit_laws.proofs.WalkTheorems.{walk-over_source}
use Rattle.edit_laws.proofs.LookupTheorems.{top-has_layer}
use Rattle.rows.specs.Entries.{Reading, shape_at}
use Rattle.lookups.specs.Steps.{layers, asked_at, asked_from}
use Rattle.lookups.specs.Trees.{HasTree}
use Rattle.lookups.specs.Walks.{nodes_walked, pairs_given, frame_of, stacked, asked_after, asked_walk, is_next, IsPlain}
use Rattle.lookups.specs.declared.walks.Frame as frame
use Rattle.lookups.proofs.Stepping.{asked-holds, asked-most}

-- ---- the stack

pub stacked-push : {A : Type 0} (fs : List (frame.Frame A)) (f : frame.Frame A)
    → stacked (fs ++ f ∷ []) ≡ frame_of f ∷ stacked fs
stacked-push [] f = refl
stacked-push (x ∷ fs) f = ap (λ s. s ++ frame_of x ∷ []) (stacked-push fs f)

-- one more pair that is given
pub given-more : {A : Type 0} (ps qs : List (Vec ℕ A × List ℕ)) (key : Vec ℕ A) (value : List ℕ) (x : Pair × Shape)
    → qs ≡ ps ++ (key, value) ∷ [] → key.items ≡ x.0.0 → value ≡ x.0.1
    → pairs_given qs ≡ pairs_given ps ++ x.0 ∷ []
given-more ps qs key value x h k v =
    ap pairs_given h ∙ map-append (λ p. (p.0.items, p.1)) ps ((key, value) ∷ [])
    ∙ ap (λ t. pairs_given ps ++ (t, value) ∷ []) k ∙ ap (λ t. pairs_given ps ++ (x.0.0, t) ∷ []) v

-- ---- the first pair of a node that isn't below a key

pub link-at : (link value : Option (List ℕ)) (r : Reading) → first_link (shape_at link value r) ≡ link
link-at link None r = refl
link-at link (Some v) r = refl

-- what a node's rows go on to is what was left of them
pub rest-at : (r q : Reading) (o : Option CidRef)
    → IfSome o (λ v. r.rest ≡ MoreLinks (first_link r.rest) (q.before, bytes_of v) q.rest)
    → IfNone o (r.rest ≡ LastLink (first_link r.rest))
    → r.rest ≡ shape_at (first_link r.rest) (option_map bytes_of o) q
rest-at r q None h k = k
rest-at r q (Some v) h k = h

gap-start-at : (from : List ℕ) (o : Ordering) (l : Option (List ℕ)) (e : Pair) (r : Shape)
    → gap from r ≡ first_link (start_shape from r)
    → gap_at o l (gap from r) ≡ first_link (start_at o l e r (start_shape from r))
gap-start-at from Less l e r h = h
gap-start-at from Equal l e r h = refl
gap-start-at from Greater l e r h = refl

pub gap-start : (from : List ℕ) (s : Shape) → gap from s ≡ first_link (start_shape from s)
gap-start from (LastLink l) = refl
gap-start from (MoreLinks l e r) = gap-start-at from (order e.0 from) l e r (gap-start from r)

-- a pair of a node, as it stands to the key
pub start-pair : (from key value : List ℕ) (l : Option (List ℕ)) (s rest : Shape) (o : Ordering)
    → s ≡ MoreLinks l (key, value) rest → o ≡ slice_cmp nat_cmp key from
    → start_shape from s ≡ start_at o l (key, value) rest (start_shape from rest)
start-pair from key value l s rest o h q =
    ap (start_shape from) h
    ∙ ap (λ t. start_at t l (key, value) rest (start_shape from rest)) (sym (q ∙ order-is key from))

-- ---- how much is asked

pub sums-step : (r0 a0 r a b c n : ℕ) → r0 + a0 ≡ r + a → a ≡ b + c → n ≡ r + b → r0 + a0 ≡ n + c
sums-step r0 a0 r a b c n h i j = omega arith

pub sums-done : (r0 a0 r a b n : ℕ) → r0 + a0 ≡ r + a → a ≡ b + 0 → n ≡ r + b → n ≡ r0 + a0
sums-done r0 a0 r a b n h i j = omega arith

pub sums-end : (r0 a0 r a : ℕ) → r0 + a0 ≡ r + a → a ≡ 0 → r ≡ r0 + a0
sums-end r0 a0 r a h i = omega arith

pub sums-last : (r0 a0 r a n : ℕ) → r0 + a0 ≡ r + a → a ≡ 1 → n ≡ suc r → n ≡ r0 + a0
sums-last r0 a0 r a n h i j = omega arith

pub within : (r0 a0 r a b c n0 n : ℕ) → r0 + a0 ≡ r + a → a ≡ b + c → r + n ≡ r0 + n0 → a0 ≤ n0 → b ≤ n
within r0 a0 r a b c n0 n h e k w = omega arith

pub one-left : (r0 a0 r a n0 n : ℕ) → r0 + a0 ≡ r + a → r + n ≡ r0 + n0 → a0 ≤ n0 → 1 ≤ a → 1 ≤ n
one-left r0 a0 r a n0 n h k w more = omega arith

-- ---- the last key, and one after it

last-before : (k key : List ℕ) (es : List Pair) → order k key ≡ Less → Each (IsBefore key) es
    → order (last_key k es) key ≡ Less
last-before k key [] h a = h
last-before k key (e ∷ es) h a = last-before e.0 key es a.0 a.1

next-before : (key : List ℕ) (es : List Pair) → Each (IsBefore key) es → is_next es key ≡ true
next-before key [] h = refl
next-before key (e ∷ es) h = ap is_lt (order-is (last_key e.0 es) key ∙ last-before e.0 key es h.0 h.1)

last-got : {A : Type 0} (before : List ℕ) (p : Vec ℕ A × List ℕ) (ps : List (Vec ℕ A × List ℕ)) (x : Vec ℕ A × List ℕ)
    → Some x ≡ slice_get (p ∷ ps) (length ps) → x.0.items ≡ last_key before (pairs_given (p ∷ ps))
last-got before p [] x e = let same : x ≡ p = cc in ap (λ (y : Vec ℕ _ × List ℕ). y.0.items) same
last-got before p (q ∷ qs) x e = last-got p.0.items q qs x e

pub next-at : {A : Type 0} (key : List ℕ) (ps : List (Vec ℕ A × List ℕ)) (x : Vec ℕ A × List ℕ) (b : Bool)
    → Some x ≡ slice_get ps (length ps - 1) → b ≡ is_lt (slice_cmp nat_cmp x.0.items key)
    → b ≡ is_next (pairs_given ps) key
next-at key [] x b e h = absurd cc
next-at key (p ∷ ps) x b e h =
    let n : suc (length ps) - 1 ≡ length ps = omega arith in
    h ∙ ap (λ k. is_lt (slice_cmp nat_cmp k key)) (last-got [] p ps x (e ∙ ap (slice_get (p ∷ ps)) n))

-- ---- one step down

module _ (shows : List ℕ → Option Shape) (from : List ℕ) where
  abbrev pub Downs : ℕ → List ℕ → Option (List ℕ) → Option (List ℕ) → Reading → List (Pair × Shape) → Type 0
  Downs n c link value r stack =
      (down_from shows (suc n) from (Some c) stack
      ≡ down_from shows n from link (later_shape (shape_at link value r) stack))
      × (asked_from shows (suc n) from (Some c) ≡ suc (asked_from shows n from link))

  downs : (n : ℕ) (c : List ℕ) (s : Shape) (link value : Option (List ℕ)) (r : Reading) (stack : List (Pair × Shape))
      → shows c ≡ Some s → start_shape from s ≡ shape_at link value r → Downs n c link value r stack
  downs n c s link value r stack e h =
      let l : first_link (start_shape from s) ≡ link = ap first_link h ∙ link-at link value r in (
        rw e (ap (λ t. down_from shows n from (first_link t) (later_shape t stack)) h
            ∙ ap (λ t. down_from shows n from t (later_shape (shape_at link value r) stack)) (link-at link value r)),
        rw e (ap (λ t. suc (asked_from shows n from t)) (gap-start from s ∙ l)),
      )

  abbrev pub DownStops : ℕ → List ℕ → List (Pair × Shape) → Type 0
  DownStops n c stack =
      (down_from shows (suc n) from (Some c) stack ≡ []) × (asked_from shows (suc n) from (Some c) ≡ 1)

  down-stops : (n : ℕ) (c : List ℕ) (stack : List (Pair × Shape)) → shows c ≡ None → DownStops n c stack
  down-stops n c stack e = rw e (refl, refl)

  some-asked : (further : Option (List ℕ) → ℕ) (o : Option Shape) → 1 ≤ asked_at further from o
  some-asked further None = omega arith
  some-asked further (Some s) = omega arith

  pub asked-some : (left : ℕ) (c : List ℕ) → 0 < left → 1 ≤ asked_from shows left from (Some c)
  asked-some zero c h = absurd (omega arith)
  asked-some (suc n) c h = some-asked (asked_from shows n from) (shows c)

  pub down-none : (n : ℕ) (stack : List (Pair × Shape)) → down_from shows n from None stack ≡ stack
  down-none zero stack = refl
  down-none (suc n) stack = refl

  -- from the number of nodes that are left
  pub down-left : (left : ℕ) (c : List ℕ) (s : Shape) (link value : Option (List ℕ)) (r : Reading)
      (stack : List (Pair × Shape)) → 0 < left
      → Some s ≡ shows c → start_shape from s ≡ shape_at link value r
      → (down_from shows left from (Some c) stack
      ≡ down_from shows (left - 1) from link (later_shape (shape_at link value r) stack))
      × (asked_from shows left from (Some c) ≡ suc (asked_from shows (left - 1) from link))
  down-left left c s link value r stack more e h =
      let q : suc (left - 1) ≡ left = omega arith in
      let d = downs (left - 1) c s link value r stack (sym e) h in (
        sym (ap (λ k. down_from shows k from (Some c) stack) q) ∙ d.0,
        sym (ap (λ k. asked_from shows k from (Some c)) q) ∙ d.1,
      )

  pub down-left_stops : (left : ℕ) (c : List ℕ) (stack : List (Pair × Shape)) → 0 < left → None ≡ shows c
      → (down_from shows left from (Some c) stack ≡ []) × (asked_from shows left from (Some c) ≡ 1)
  down-left_stops left c stack more e =
      let q : suc (left - 1) ≡ left = omega arith in
      let d = down-stops (left - 1) c stack (sym e) in (
        sym (ap (λ k. down_from shows k from (Some c) stack) q) ∙ d.0,
        sym (ap (λ k. asked_from shows k from (Some c)) q) ∙ d.1,
      )

  -- ---- one pair more

  pub walk-left : (left n : ℕ) (l : Option (List ℕ)) (stack d : List (Pair × Shape)) → 0 < left
      → d ≡ down_from shows n from l stack
      → (walk_from shows left n from l stack ≡ next_from (walk_from shows (left - 1) n from) d)
      × (asked_walk shows left n from l stack
      ≡ asked_from shows n from l + asked_after (asked_walk shows (left - 1) n from) d)
  walk-left left n l stack d more h =
      let q : suc (left - 1) ≡ left = omega arith in (
        sym (ap (λ k. walk_from shows k n from l stack) q)
            ∙ ap (next_from (walk_from shows (left - 1) n from)) (sym h),
        sym (ap (λ k. asked_walk shows k n from l stack) q)
            ∙ ap (λ t. asked_from shows n from l + asked_after (asked_walk shows (left - 1) n from) t) (sym h),
      )

  pub down-zero : (left : ℕ) (l : Option (List ℕ)) (stack : List (Pair × Shape)) → left ≤ 0
      → down_from shows left from l stack ≡ stack
  down-zero zero l stack h = refl
  down-zero (suc n) l stack h = absurd (omega arith)

  pub asked-zero : (left : ℕ) (l : Option (List ℕ)) → left ≤ 0 → asked_from shows left from l ≡ 0
  asked-zero zero l h = refl
  asked-zero (suc n) l h = absurd (omega arith)

  -- with these pairs so far, and nothing to come any more
  pub walk-zero : (left n : ℕ) (l : Option (List ℕ)) (stack : List (Pair × Shape)) (ps whole : List Pair) → left ≤ 0
      → ps ++ walk_from shows left n from l stack ≡ whole → ps ≡ whole
  walk-zero zero n l stack ps whole h k = sym (append-nil ps) ∙ k
  walk-zero (suc m) n l stack ps whole h k = absurd (omega arith)

  pub asked-walk_zero : (left n : ℕ) (l : Option (List ℕ)) (stack : List (Pair × Shape)) → left ≤ 0
      → asked_walk shows left n from l stack ≡ 0
  asked-walk_zero zero n l stack h = refl
  asked-walk_zero (suc m) n l stack h = absurd (omega arith)

  pub walk-ends : (left n : ℕ) (l : Option (List ℕ)) (stack : List (Pair × Shape)) (ps whole : List Pair) → 0 < left
      → [] ≡ down_from shows n from l stack → ps ++ walk_from shows left n from l stack ≡ whole → ps ≡ whole
  walk-ends left n l stack ps whole more h k =
      sym (append-nil ps) ∙ ap (λ t. ps ++ t) (sym (walk-left left n l stack [] more h).0) ∙ k

  pub asked-ends : (left n : ℕ) (l : Option (List ℕ)) (stack : List (Pair × Shape)) (r0 a0 r m : ℕ) → 0 < left
      → [] ≡ down_from shows n from l stack
      → r0 + a0 ≡ r + asked_walk shows left n from l stack → m ≡ r + asked_from shows n from l → m ≡ r0 + a0
  asked-ends left n l stack r0 a0 r m more h k q =
      let e = (walk-left left n l stack [] more h).1 in
      sums-done r0 a0 r (asked_walk shows left n from l stack) (asked_from shows n from l) m k e q

  pub walk-goes : (left n : ℕ) (l : Option (List ℕ)) (stack : List (Pair × Shape)) (x : Pair × Shape)
      (xs : List (Pair × Shape)) (ps qs whole : List Pair) (next : Option (List ℕ)) (rest : List (Pair × Shape))
      → 0 < left → x ∷ xs ≡ down_from shows n from l stack → qs ≡ ps ++ x.0 ∷ []
      → next ≡ first_link x.1 → rest ≡ later_shape x.1 xs
      → ps ++ walk_from shows left n from l stack ≡ whole
      → qs ++ walk_from shows (left - 1) n from next rest ≡ whole
  walk-goes left n l stack x xs ps qs whole next rest more h one link to_come k =
      ap (λ t. t ++ walk_from shows (left - 1) n from next rest) one
      ∙ ap (λ t. (ps ++ x.0 ∷ []) ++ walk_from shows (left - 1) n from t rest) link
      ∙ ap (λ t. (ps ++ x.0 ∷ []) ++ walk_from shows (left - 1) n from (first_link x.1) t) to_come
      ∙ append_assoc ps (x.0 ∷ []) (walk_from shows (left - 1) n from (first_link x.1) (later_shape x.1 xs))
      ∙ ap (λ t. ps ++ t) (sym (walk-left left n l stack (x ∷ xs) more h).0)
      ∙ k

  pub asked-goes : (left n : ℕ) (l : Option (List ℕ)) (stack : List (Pair × Shape)) (x : Pair × Shape)
      (xs : List (Pair × Shape)) (r0 a0 r m : ℕ) (next : Option (List ℕ)) (rest : List (Pair × Shape))
      → 0 < left → x ∷ xs ≡ down_from shows n from l stack
      → next ≡ first_link x.1 → rest ≡ later_shape x.1 xs
      → r0 + a0 ≡ r + asked_walk shows left n from l stack → m ≡ r + asked_from shows n from l
      → r0 + a0 ≡ m + asked_walk shows (left - 1) n from next rest
  asked-goes left n l stack x xs r0 a0 r m next rest more h link to_come k q =
      let e = (walk-left left n l stack (x ∷ xs) more h).1 in
      let f = ap (λ t. asked_walk shows (left - 1) n from t rest) link
      ∙ ap (asked_walk shows (left - 1) n from (first_link x.1)) to_come in
      sums-step r0 a0 r (asked_walk shows left n from l stack) (asked_from shows n from l)
      (asked_walk shows (left - 1) n from next rest) m k
      (e ∙ ap (λ t. asked_from shows n from l + t) (sym f)) q

  -- ---- the reads suffice for the next pair, and its key is the next

  pub asked-fits : (left n : ℕ) (l : Option (List ℕ)) (stack : List (Pair × Shape)) (r0 a0 r n0 m : ℕ) → 0 < left
      → r0 + a0 ≡ r + asked_walk shows left n from l stack → r + m ≡ r0 + n0 → a0 ≤ n0 → asked_from shows n from l ≤ m
  asked-fits left n l stack r0 a0 r n0 m more h k w =
      let d = down_from shows n from l stack in
      let e = (walk-left left n l stack d more refl).1 in
      within r0 a0 r (asked_walk shows left n from l stack) (asked_from shows n from l)
      (asked_after (asked_walk shows (left - 1) n from) d) n0 m h e k w

  pub next-is : (left n : ℕ) (l : Option (List ℕ)) (stack : List (Pair × Shape)) (x : Pair × Shape)
      (xs : List (Pair × Shape)) (ps whole : List Pair) → 0 < left → x ∷ xs ≡ down_from shows n from l stack
      → ps ++ walk_from shows left n from l stack ≡ whole → Ascending whole → is_next ps x.0.0 ≡ true
  next-is left n l stack x xs ps whole more h k up =
      let rest : List Pair = walk_from shows (left - 1) n from (first_link x.1) (later_shape x.1 xs) in
      let e : ps ++ x.0 ∷ rest ≡ whole =
      ap (λ t. ps ++ t) (sym (walk-left left n l stack (x ∷ xs) more h).0) ∙ k in
      next-before x.0.0 ps (halves ps x.0 rest (subst Ascending (sym e) up)).before

  after-most : (b : ℕ) (further : Option (List ℕ) → List (Pair × Shape) → ℕ)
      → ((l : Option (List ℕ)) (s : List (Pair × Shape)) → further l s ≤ b) → (d : List (Pair × Shape))
      → asked_after further d ≤ b
  after-most b further h [] = omega arith
  after-most b further h (x ∷ xs) = h (first_link x.1) (later_shape x.1 xs)

  pub asked-walk_most : (limit n : ℕ) (l : Option (List ℕ)) (stack : List (Pair × Shape))
      → asked_walk shows limit n from l stack ≤ limit * n
  asked-walk_most zero n l stack = omega arith
  asked-walk_most (suc limit) n l stack =
      let a = asked-most shows from n l in
      let b = after-most (limit * n) (asked_walk shows limit n from) (asked-walk_most limit n)
      (down_from shows n from l stack) in
      let e = suc-mul limit n in
      omega arith

-- ---- the same source

module _ {X : Type 0} (view : X → List ℕ) (was is : List ℕ → Option X) (same : is ≡ was) where
  pub shown-same : (c : List ℕ) (o : Option Shape) → o ≡ shown_by (λ d. option_map view (is d)) c
      → o ≡ shown_by (λ d. option_map view (was d)) c
  shown-same c o h = h ∙ ap (λ (f : List ℕ → Option X). shown_by (λ d. option_map view (f d)) c) same

  pub down-same : (n : ℕ) (from : List ℕ) (l : Option (List ℕ)) (stack d : List (Pair × Shape))
      → d ≡ down_from (shown_by (λ c. option_map view (is c))) n from l stack
      → d ≡ down_from (shown_by (λ c. option_map view (was c))) n from l stack
  down-same n from l stack d h =
      h ∙ ap (λ (f : List ℕ → Option X). down_from (shown_by (λ c. option_map view (f c))) n from l stack) same

  pub asked-same : (n : ℕ) (from : List ℕ) (l : Option (List ℕ)) (r m : ℕ)
      → m ≡ r + asked_from (shown_by (λ c. option_map view (is c))) n from l
      → m ≡ r + asked_from (shown_by (λ c. option_map view (was c))) n from l
  asked-same n from l r m h =
      h ∙ ap (λ (f : List ℕ → Option X). r + asked_from (shown_by (λ c. option_map view (f c))) n from l) same

  -- what suffices, suffices at the source as it is
  pub fits-same : (n : ℕ) (from : List ℕ) (l : Option (List ℕ)) (m : ℕ)
      → asked_from (shown_by (λ c. option_map view (was c))) n from l ≤ m
      → asked_from (shown_by (λ c. option_map view (is c))) n from l ≤ m
  fits-same n from l m h =
      subst (λ (f : List ℕ → Option X). asked_from (shown_by (λ c. option_map view (f c))) n from l ≤ m) (sym same) h

-- ---- a list without an element

pub empty : {A : Type 0} (xs : List A) → length xs ≡ 0 → xs ≡ []
empty [] h = refl
empty (x ∷ xs) h = absurd (omega arith)

-- ---- over a source that has a tree's nodes

module _ (digest : List ℕ → List ℕ) (shows : List ℕ → Option Shape) where
  shape-later : (m : Node) (stack : List Frame)
      → later_shape (shape digest m) (frames digest shows stack) ≡ frames digest shows (later m stack)
  shape-later (Last p) stack = refl
  shape-later (More p e r) stack = refl

  shown-later : (m : Node) (stack : List Frame) → EachUnder (IsShown digest shows) m → AreShown digest shows stack
      → AreShown digest shows (later m stack)
  shown-later (Last p) stack h s = s
  shown-later (More p e r) stack h s = (h.1, s)

  abbrev AskedHolds : ℕ → ℕ → List ℕ → Type 0
  AskedHolds limit n from = (p : Part) (stack : List Frame) → EachNode (IsShown digest shows) p
      → AreShown digest shows stack
      → asked_walk shows limit n from (part_link digest p) (frames digest shows stack)
      ≡ length (walk_path shows limit n from (part_link digest p) (frames digest shows stack))

  after-holds : (limit n : ℕ) (from : List ℕ) → AskedHolds limit n from → (stack : List Frame)
      → AreShown digest shows stack
      → asked_after (asked_walk shows limit n from) (frames digest shows stack)
      ≡ length (next_path (walk_path shows limit n from) (frames digest shows stack))
  after-holds limit n from ih [] s = refl
  after-holds limit n from ih (x ∷ xs) s =
      rw (bridge.link-first digest x.1, shape-later x.1 xs)
      (ih (first x.1) (later x.1 xs) (each-first_part (IsShown digest shows) x.1 s.0) (shown-later x.1 xs s.0 s.1))

  asked-walk_holds : (limit n : ℕ) (from : List ℕ) → AskedHolds limit n from
  asked-walk_holds zero n from p stack h s = refl
  asked-walk_holds (suc limit) n from p stack h s =
      let d = go_down n from p stack in
      let e = down-holds digest shows n from p stack h in
      let after = ap (asked_after (asked_walk shows limit n from)) e
      ∙ after-holds limit n from (asked-walk_holds limit n from) d (down-shown digest shows n from p stack h s)
      ∙ sym (ap (λ t. length (next_path (walk_path shows limit n from) t)) e) in
      let xs = path_from shows n from (part_link digest p) in
      let ys = next_path (walk_path shows limit n from)
      (down_from shows n from (part_link digest p) (frames digest shows stack)) in
      ap (λ k. k + asked_after (asked_walk shows limit n from)
      (down_from shows n from (part_link digest p) (frames digest shows stack))) (asked-holds digest shows n from p h)
      ∙ ap (λ k. length xs + k) after ∙ sym (length-append xs ys)

each-take : (P : Pair → Type 0) (n : ℕ) (es : List Pair) → Each P es → Each P (take n es)
each-take P zero es h = tt
each-take P (suc n) [] h = tt
each-take P (suc n) (e ∷ es) h = (h.0, each-take P n es h.1)

ascending-take : (n : ℕ) (es : List Pair) → Ascending es → Ascending (take n es)
ascending-take zero es h = tt
ascending-take (suc n) [] h = tt
ascending-take (suc n) (e ∷ es) h = (each-take (IsAfter e.0) n es h.0, ascending-take n es h.1)

module _ (digest : List ℕ → List ℕ) (bits : ℕ) (fits : IsDigest digest) (gives : List ℕ → Option (List ℕ))
    (root from : List ℕ) (es : List Pair) (has : HasTree digest bits gives root es) (n : ℕ) (enough : n ≡ layers bits) where
  is-walk : (limit : ℕ) → IsWalk digest bits gives n limit from es
  is-walk limit =
      let t = top-has_layer digest bits fits es in
      walk-over_source digest bits fits gives n limit from es has.pairs has.nodes (omega arith)

  pub tree-pairs : (limit : ℕ) → walk_from (shown_by gives) limit n from (Some root) [] ≡ listed from limit es
  tree-pairs limit = ap (λ r. walk_from (shown_by gives) limit n from (Some r) []) has.root_is ∙ (is-walk limit).given

  pub tree-asked : (limit : ℕ) → asked_walk (shown_by gives) limit n from (Some root) []
      ≡ length (nodes_walked digest bits from limit es)
  tree-asked zero = refl
  tree-asked (suc limit) =
      ap (λ r. asked_walk (shown_by gives) (suc limit) n from (Some r) []) has.root_is
      ∙ asked-walk_holds digest (shown_by gives) (suc limit) n from (Sub (top (layer digest bits) es)) []
      (holds-top digest bits fits gives es has.pairs has.nodes) tt
      ∙ ap length ((is-walk (suc limit)).reads (omega arith))
      ∙ length-map (nodes_walked digest bits from (suc limit) es) (shape digest)

  -- a walk over it in enough reads goes by its pairs
  plain : (limit reads : ℕ) → asked_walk (shown_by gives) limit n from (Some root) [] ≤ reads
      → IsPlain (shown_by gives) limit n from (Some root) reads
  plain limit reads h = record {
    ascends = subst Ascending (sym (tree-pairs limit))
        (ascending-take limit _ (ascending-filter from es (ascending-sorted es has.pairs.sorted)));
    enough = h;
  }

  pub plain-product : (limit reads : ℕ) → reads ≡ limit * n → IsPlain (shown_by gives) limit n from (Some root) reads
  plain-product limit reads e =
      let a = asked-walk_most (shown_by gives) from limit n (Some root) [] in plain limit reads (omega arith)

  pub plain-enough : (limit reads : ℕ) → length (nodes_walked digest bits from limit es) ≤ reads
      → IsPlain (shown_by gives) limit n from (Some root) reads
  plain-enough limit reads h = let e = tree-asked limit in plain limit reads (omega arith)

-- at most as many reads as were allowed
pub most-product : (r r0 reads limit n b : ℕ) → r ≤ r0 + reads → reads ≡ limit * n → n ≡ b → r ≤ r0 + limit * b
most-product r r0 reads limit n b h e k = let p = ap (λ m. limit * m) k in omega arith

pub most-bounded : (r r0 n n0 : ℕ) → r + n ≡ r0 + n0 → r ≤ r0 + n0
most-bounded r r0 n n0 h = omega arith
