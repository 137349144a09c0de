-- A batch that was prepared: what it tells.
use Rattle.std.proofs.Common.{◌≡◌, ◌≤◌, ◌-◌, ◌+◌, ◌&&◌, ℕ, suc, true, List, [], ◌∷◌, ◌++◌, map as each, length, get_or, take, drop, refl, sym, ap, subst, ◌∙◌, arith, inl, inr, ◌⊎◌, Option}
use Rattle.std.specs.Arc.{arc_value}
use Rattle.std.specs.Prelude.{IfOk, Result, Ok, Err}
use Rattle.std.specs.declared.sync.Arc.{Arc}
use Rattle.std.proofs.Math.Seq.{take-append_seam}
use Rattle.std.proofs.lemmas.List.{append-nil, append_assoc, append_cancel_left, drop-map, length-append, length-drop, length-map, take-append-drop, take-map}
use Rattle.spec.specs.Cid.{IsDigest}
use Rattle.spec.specs.Tree.{Pair}
use Rattle.spec.specs.Blocks.{nodes, value_of}
use Rattle.spec.specs.Commits.{commit_bytes}
use Rattle.spec.specs.States.{state_root}
use Rattle.spec.specs.Writes.{Write}
use Rattle.spec.proofs.StateLaws.{batch-keeps_state}
use Rattle.batch_laws.specs.Batch.{Change}
use Rattle.batch_laws.specs.Previous.{values}
use Rattle.batch_laws.specs.Collecting.{collected, with_cids}
use Rattle.batch_laws.specs.Staged.{new_pairs}
use Rattle.batch_laws.specs.Uses.{records_come}
use Rattle.change_laws.specs.Told.{KeyChange, undone}
use Rattle.edit_laws.specs.Order.{order}
use Rattle.key_changes.specs.Keyed.{are_ascending, are_changes, are_later, have_keys, is_greater}
use Rattle.spec.specs.NodeFormat.{is_key}
use Rattle.repo.specs.Edits.{IsExchangeMade}
use Rattle.repo.specs.Prepared.{Prepared, IsPassed, IsPreparedBatch, AreAdded, AreDropped, AreNodesAdded, AreNodesDropped, changes_for, commit_after, key_told, keys_changed, keys_told, keys_with, nodes_before, pairs_before, pairs_after, state_after}
use Rattle.repo.specs.declared.exchanges.Exchange.{Exchange}
use Rattle.repo.proofs.Changing.{batch-changes}
use Rattle.repo.proofs.Exchanging.{pairs-changed_after, root-after}

-- ---- parts of a list

-- the last element
pub last-is : {X Y : Type 0} (f : X → Y) (xs : List X) (ys : List Y) (z : Y) (x : X) → each f xs ≡ ys ++ z ∷ []
    → x ≡ get_or xs (length xs - 1) x → f x ≡ z
last-is f [] ys z x h e = let a = ap length h in let b = length-append ys (z ∷ []) in absurd (omega (arith, a, b))
last-is f (a ∷ []) [] z x h e = ap f e ∙ head
  where
    head : f a ≡ z
    head = cc
last-is f (a ∷ []) (y ∷ ys) z x h e = let l = ap length h in let b = length-append ys (z ∷ []) in absurd (omega (arith, l, b))
last-is f (a ∷ b ∷ xs) [] z x h e = let l = ap length h in absurd (omega (arith, l))
last-is f (a ∷ b ∷ xs) (y ∷ ys) z x h e =
    let less : length (a ∷ b ∷ xs) - 1 ≡ suc (length (b ∷ xs) - 1) = omega arith in
    last-is f (b ∷ xs) ys z x (ap (drop 1) h) (e ∙ ap (λ n. get_or (a ∷ b ∷ xs) n x) less)

pub some-there : {X Y : Type 0} (f : X → Y) (xs : List X) (ys : List Y) (z : Y) → each f xs ≡ ys ++ z ∷ [] → 1 ≤ length xs
some-there f xs ys z h =
    let a = ap length h in
    let b = length-append ys (z ∷ []) in
    let c = length-map xs f in
    omega (arith, a, b, c)

-- what lies between the first so many and the last
pub between : {X Y : Type 0} (f : X → Y) (xs : List X) (n k : ℕ) (rs : List Y) (z : Y) → n ≤ length xs
    → each f xs ≡ (take n (each f xs) ++ rs) ++ z ∷ [] → k ≡ length xs - 1 - n → each f (take k (drop n xs)) ≡ rs
between f xs n k rs z l h e =
    let ys = each f xs in
    let rest : drop n (each f xs) ≡ rs ++ z ∷ [] =
    append_cancel_left (take n (each f xs)) (drop n (each f xs)) (rs ++ z ∷ [])
    (take-append-drop n (each f xs) ∙ h ∙ append_assoc (take n (each f xs)) rs (z ∷ [])) in
    let a = ap length rest in
    let b = length-drop n (each f xs) in
    let c = length-map xs f in
    let d = length-append rs (z ∷ []) in
    let k_is : k ≡ length rs = omega (arith, a, b, c, d, e, l) in
    sym (take-map f k (drop n xs)) ∙ ap (take k) (sym (drop-map f n xs)) ∙ ap (take k) rest
    ∙ ap (λ m. take m (rs ++ z ∷ [])) k_is ∙ take-append_seam rs (z ∷ [])

-- the first so many of what comes
pub first-taken : {X : Type 0} (xs ys zs : List X) (n : ℕ) → n ≡ length xs → take n ((xs ++ ys) ++ zs) ≡ xs
first-taken xs ys zs n e =
    ap (λ m. take m ((xs ++ ys) ++ zs)) e ∙ ap (take (length xs)) (append_assoc xs ys zs) ∙ take-append_seam xs (ys ++ zs)

pub first-within : {X : Type 0} (xs ys zs : List X) (n : ℕ) → n ≡ length xs → n ≤ length ((xs ++ ys) ++ zs)
first-within xs ys zs n e =
    let a = length-append (xs ++ ys) zs in
    let b = length-append xs ys in
    omega (arith, a, b, e)

-- ---- changes that are told

-- all are told where none of either list is left
pub all-told : (told whole : List KeyChange) (cs : List Change) (vs : List (Option (List ℕ))) → (cs ≡ []) ⊎ (vs ≡ [])
    → told ++ keys_with cs vs ≡ whole → told ≡ whole
all-told told whole [] vs e h = sym (append-nil told) ∙ h
all-told told whole (c ∷ cs) [] e h = sym (append-nil told) ∙ h
all-told told whole (c ∷ cs) (v ∷ vs) (inl e) h = absurd cc
all-told told whole (c ∷ cs) (v ∷ vs) (inr e) h = absurd cc

-- with what their keys have among some pairs
pub told-values : (cs : List Change) (es : List Pair) → keys_with cs (values cs es) ≡ keys_told cs es
told-values [] es = refl
told-values (c ∷ cs) es = ap (λ (ks : List KeyChange). key_told c (value_of c.0 es) ∷ ks) (told-values cs es)

-- they have the keys of the changes

told-later : (key : List ℕ) (cs : List Change) (es : List Pair) → are_later key (undone (keys_told cs es)) ≡ are_later key cs
told-later key [] es = refl
told-later key (c ∷ cs) es = ap (λ t. is_greater (order c.0 key) && t) (told-later key cs es)

told-ascending : (cs : List Change) (es : List Pair) → are_ascending (undone (keys_told cs es)) ≡ are_ascending cs
told-ascending [] es = refl
told-ascending (c ∷ cs) es =
    ap (λ t. t && are_ascending (undone (keys_told cs es))) (told-later c.0 cs es)
    ∙ ap (λ t. are_later c.0 cs && t) (told-ascending cs es)

told-keys : (cs : List Change) (es : List Pair) → have_keys (undone (keys_told cs es)) ≡ have_keys cs
told-keys [] es = refl
told-keys (c ∷ cs) es = ap (λ t. is_key c.0 && t) (told-keys cs es)

told-changes : (cs : List Change) (es : List Pair) → are_changes (undone (keys_told cs es)) ≡ are_changes cs
told-changes cs es =
    ap (λ t. t && have_keys (undone (keys_told cs es))) (told-ascending cs es)
    ∙ ap (λ t. are_ascending cs && t) (told-keys cs es)

-- of an answer that has these, or others that are the same

pub told-as : {V E : Type 0} (r : Result V E) (told : V → List KeyChange) (ks ls : List KeyChange)
    → IfOk r (λ v. told v ≡ ks) → ks ≡ ls → IfOk r (λ v. told v ≡ ls)
told-as (Ok v) told ks ls h e = h ∙ e
told-as (Err f) told ks ls h e = tt

pub told-keyed : {V E : Type 0} (r : Result V E) (told : V → List KeyChange) (ks : List KeyChange)
    → IfOk r (λ v. told v ≡ ks) → are_changes (undone ks) ≡ true → IfOk r (λ v. are_changes (undone (told v)) ≡ true)
told-keyed (Ok v) told ks h e = ap (λ ls. are_changes (undone ls)) h ∙ e
told-keyed (Err f) told ks h e = tt

-- ---- what it tells

module _ {D A : Type 0} (digest : List ℕ → List ℕ) (bits : ℕ) (p : Prepared) (previous : List ℕ) (x : Exchange D A)
    (is : IsPreparedBatch digest bits p previous x) where
  pub is-passed : IsPassed p
  is-passed = record {
    lawful = is.lawful;
    passes = is.made.exchange.passes;
    after_lawful = batch-keeps_state p.before p.stamp p.writes is.lawful is.made.exchange.passes;
  }

  pub root-is : x.root ≡ state_root digest bits (state_after p)
  root-is =
      root-after digest bits p.before p.stamp p.writes x.root x.commit (take x.nodes (each arc_value x.come.items))
      (each arc_value x.come.items) (take x.gone x.go.items) x.go.items is.made.exchange

  pairs-are : new_pairs digest p.before p.writes ≡ pairs_after digest p
  pairs-are = pairs-changed_after digest p.before p.writes

  pub added : AreNodesAdded digest bits p (take x.nodes (each arc_value x.come.items))
  added =
      let c = is.made.exchange.changes in
      subst (λ (es : List Pair). AreAdded digest (nodes digest bits (pairs_before digest p)) (nodes digest bits es) (nodes_before digest bits p)
      (take x.nodes (each arc_value x.come.items))) pairs-are
      (record { fresh = c.fresh; whole = c.whole; once = c.once; apart = c.apart })

  pub dropped : AreNodesDropped digest bits p (take x.gone x.go.items)
  dropped =
      let c = is.made.exchange.changes in
      subst (λ (es : List Pair). AreDropped digest (nodes digest bits (pairs_before digest p)) (nodes digest bits es) (take x.gone x.go.items)) pairs-are
      (record { whole = c.dropped; once = c.drop_once })

  pub some-come : 1 ≤ length x.come.items
  some-come =
      some-there arc_value x.come.items (take x.nodes (each arc_value x.come.items) ++ records_come (collected p.writes))
      (commit_bytes p.stamp x.root) is.made.exchange.come_is

  pub commit-last : (b : Arc (List ℕ) A) → b ≡ get_or x.come.items (length x.come.items - 1) b → arc_value b ≡ commit_after digest bits p
  commit-last b e =
      last-is arc_value x.come.items (take x.nodes (each arc_value x.come.items) ++ records_come (collected p.writes))
      (commit_bytes p.stamp x.root) b is.made.exchange.come_is e
      ∙ ap (commit_bytes p.stamp) root-is

  pub records-between : (k : ℕ) → k ≡ length x.come.items - 1 - x.nodes
      → each arc_value (take k (drop x.nodes x.come.items)) ≡ records_come (collected p.writes)
  records-between k e =
      between arc_value x.come.items x.nodes k (records_come (collected p.writes)) (commit_bytes p.stamp x.root) is.made.nodes_within
      is.made.exchange.come_is e

  -- the nodes come before the commit
  pub nodes-before_last : x.nodes ≤ length x.come.items - 1
  nodes-before_last =
      let a = ap length is.made.exchange.come_is in
      let b = length-append (take x.nodes (each arc_value x.come.items) ++ records_come (collected p.writes)) (commit_bytes p.stamp x.root ∷ []) in
      let c = length-append (take x.nodes (each arc_value x.come.items)) (records_come (collected p.writes)) in
      let d = length-map x.come.items arc_value in
      let e = ap length (take-append-drop x.nodes (each arc_value x.come.items)) in
      let f = length-append (take x.nodes (each arc_value x.come.items)) (drop x.nodes (each arc_value x.come.items)) in
      let g = length-drop x.nodes (each arc_value x.come.items) in
      let h = is.made.nodes_within in
      omega (arith, a, b, c, d, e, f, g, h)

  -- what its keys had, with what they have, are the changes that it tells
  pub changes-told : (ws : List Write) (cs : List Change) (vs : List (Option (List ℕ))) → ws ≡ p.writes → cs ≡ with_cids digest (collected ws)
      → vs ≡ x.values.items → keys_with cs vs ≡ keys_changed digest p
  changes-told ws cs vs w c v =
      ap (λ (ds : List Change). keys_with ds vs) (c ∙ ap (λ (us : List Write). with_cids digest (collected us)) w)
      ∙ ap (λ (os : List (Option (List ℕ))). keys_with (changes_for digest p) os) (v ∙ is.made.values_are)
      ∙ told-values (changes_for digest p) (pairs_before digest p)

  pub changes-keyed : IsDigest digest → are_changes (undone (keys_changed digest p)) ≡ true
  changes-keyed fits =
      told-changes (changes_for digest p) (pairs_before digest p)
      ∙ batch-changes digest fits p.before p.stamp p.writes is.made.exchange.passes
