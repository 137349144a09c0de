-- What a walk over a tree comes to.
use Rattle.std.proofs.Common.{◌≡◌, ℕ, zero, suc, ◌-◌, ◌<◌, ◌≤◌, List, [], ◌∷◌, ◌++◌, length, Option, Bool, nat_lt, true, false, if◌then◌else◌, refl, sym, ap, ◌∙◌, append_assoc, arith}
use Rattle.std.specs.declared.option.Option.TheVariants.{Some, None}
use Rattle.std.proofs.lemmas.Bool.{lt-ltb, le-ltb, ltb-true, ltb-false}
use Rattle.std.proofs.lemmas.List.{append-nil, length-append}
use Rattle.std.specs.Prelude.{option_and_then, Result, Ok, Err}
use Rattle.spec.specs.NodeFormat.{Entry, NodeFault, Shape, read_node}
use Rattle.edit_laws.specs.Sources.{shape_from, shape_of_reading, shape_of_bytes, shown_by}
use Rattle.node.specs.Rows.{Row, rows}
use Rattle.export.specs.Walks.{Walking, GoesBy, IsAtRow, turned, next_row, cids_of, cids_in, cids_from, row_cids, cids_stacked, cids_left, cids_entered, layers_left, without_link, entered}

-- ---- a stack of rows

pub turned-push : (stack new : List (List Row)) (rows : List Row) → new ≡ stack ++ rows ∷ [] → turned new ≡ rows ∷ turned stack
turned-push stack new rows e = ap turned e ∙ pushed stack rows
  where
    pushed : (xs : List (List Row)) (x : List Row) → turned (xs ++ x ∷ []) ≡ x ∷ turned xs
    pushed [] x = refl
    pushed (y ∷ xs) x = ap (λ t. t ++ y ∷ []) (pushed xs x)

pub turned-size : (stack : List (List Row)) → length (turned stack) ≡ length stack
turned-size [] = refl
turned-size (rows ∷ stack) = let e = turned-size stack in omega (arith, length-append (turned stack) (rows ∷ []))

-- a node that has no more
pub next-below : (stack new : List (List Row)) (rows : List Row) → stack ≡ new ++ rows ∷ [] → rows ≡ []
    → next_row (turned stack) ≡ next_row (turned new)
next-below stack new rows e none = ap next_row (turned-push new stack rows e) ∙ ap (λ t. next_row (t ∷ turned new)) none

-- a node that has one
pub next-here : (stack below new : List (List Row)) (rows rest : List Row) (r : Row) → stack ≡ below ++ rows ∷ [] → rows ≡ r ∷ rest
    → new ≡ below ++ rest ∷ [] → next_row (turned stack) ≡ Some (r, turned new)
next-here stack below new rows rest r e some put =
    ap next_row (turned-push below stack rows e) ∙ ap (λ t. next_row (t ∷ turned below)) some
    ∙ ap (λ (t : List (List Row)). Some (r, t)) (sym (turned-push below new rest put))

-- ---- the link

pub link-none : (stack : List (List Row)) (link : Option (List ℕ)) (most : ℕ) → most ≤ length stack
    → None ≡ (if nat_lt (length (turned stack)) most then link else None)
link-none stack link most h =
    let t = le-ltb (length (turned stack)) most (rw (turned-size stack) h) in rw t refl

pub link-some : (stack : List (List Row)) (link : Option (List ℕ)) (most : ℕ) → length stack < most
    → link ≡ (if nat_lt (length (turned stack)) most then link else None)
link-some stack link most h =
    let t = lt-ltb (length (turned stack)) most (rw (turned-size stack) h) in rw t refl

-- ---- what is still to come

-- a node that was read, by its rows
cids-rows : (below : Option (List ℕ) → List (List ℕ)) (before : List ℕ) (left : Option (List ℕ)) (es : List Entry)
    → cids_of below (shape_from left es) ≡ below left ++ row_cids below (rows before es)
cids-rows below before left [] = sym (append-nil (below left))
cids-rows below before left (e ∷ es) = ap (λ t. below left ++ (e.value ∷ t)) (cids-rows below e.key e.tree es)

module _ (shows : List ℕ → Option Shape) where
  cids-none : (n : ℕ) → cids_from shows n None ≡ []
  cids-none zero = refl
  cids-none (suc n) = refl

  cids-zero : (n : ℕ) (l : Option (List ℕ)) → n ≤ 0 → cids_from shows n l ≡ []
  cids-zero zero l h = refl
  cids-zero (suc n) l h = absurd (omega arith)

  -- no link to go down from
  no-link : (b : Bool) (w : Walking) → nat_lt (length w.stack) w.most ≡ b
      → None ≡ (if b then w.link else None) → cids_from shows (layers_left w) w.link ≡ []
  no-link true w e h = ap (cids_from shows (layers_left w)) (sym h) ∙ cids-none (layers_left w)
  no-link false w e h = let k = ltb-false (length w.stack) w.most e in cids-zero (layers_left w) w.link (omega arith)

  pub left-stacked : (w : Walking) → None ≡ (if nat_lt (length w.stack) w.most then w.link else None)
      → cids_left shows w ≡ cids_stacked shows (layers_left w) w.stack
  left-stacked w h =
      ap (λ t. t ++ cids_stacked shows (layers_left w) w.stack) (no-link (nat_lt (length w.stack) w.most) w refl h)

  -- a link to go down from
  abbrev Down : Walking → List ℕ → Type 0
  Down w c = (length w.stack < w.most) × (w.link ≡ Some c)

  link-at : (b : Bool) (w : Walking) (c : List ℕ) → nat_lt (length w.stack) w.most ≡ b → Some c ≡ (if b then w.link else None) → Down w c
  link-at true w c e h = (ltb-true (length w.stack) w.most e, sym h)
  link-at false w c e h = absurd cc

  pub is-down : (w : Walking) (c : List ℕ) → Some c ≡ (if nat_lt (length w.stack) w.most then w.link else None) → Down w c
  is-down w c h = link-at (nat_lt (length w.stack) w.most) w c refl h

  one-down : (n : ℕ) (c : List ℕ) → 0 < n → cids_from shows n (Some c) ≡ c ∷ cids_in (cids_from shows (n - 1)) (shows c)
  one-down zero c h = absurd (omega arith)
  one-down (suc n) c h = let e : suc n - 1 ≡ n = omega arith in rw e refl

  pub left-down : (w : Walking) (c : List ℕ) → Down w c → cids_left shows w ≡ c ∷ cids_entered shows (without_link w) (shows c)
  left-down w c d =
      let room = d.0 in
      ap (λ l. cids_from shows (layers_left w) l ++ cids_stacked shows (layers_left w) w.stack) d.1
      ∙ ap (λ t. t ++ cids_stacked shows (layers_left w) w.stack) (one-down (layers_left w) c (omega arith))

  -- nothing is shown there
  pub entered-none : (w : Walking) → w.link ≡ None → cids_entered shows w None ≡ cids_left shows w
  entered-none w h =
      ap (λ t. t ++ cids_stacked shows (layers_left w) w.stack) (sym (ap (cids_from shows (layers_left w)) h ∙ cids-none (layers_left w)))

  entered-as : (w : Walking) (r : Result (Option (List ℕ) × List Entry) NodeFault) → w.link ≡ None → length w.stack < w.most
      → cids_entered shows w (shape_of_reading r) ≡ cids_left shows (entered w r)
  entered-as w (Err f) h room = entered-none w h
  entered-as w (Ok x) h room =
      let n = layers_left w - 1 in
      let e : layers_left (entered w (Ok x)) ≡ n = omega arith in
      let up : suc n ≡ layers_left w = omega arith in
      rw e (ap (λ t. t ++ cids_stacked shows (layers_left w) w.stack) (cids-rows (cids_from shows n) [] x.0 x.1)
      ∙ append_assoc (cids_from shows n x.0) (row_cids (cids_from shows n) (rows [] x.1)) (cids_stacked shows (layers_left w) w.stack)
      ∙ ap (λ k. cids_from shows n x.0 ++ (row_cids (cids_from shows n) (rows [] x.1) ++ cids_stacked shows k w.stack)) (sym up))

  -- the next row
  pub stacked-next : (most : ℕ) (stack new : List (List Row)) (r : Row) → length stack ≤ most → next_row stack ≡ Some (r, new)
      → cids_stacked shows (most - length stack) stack
      ≡ r.value ∷ (cids_from shows (most - length new) r.tree ++ cids_stacked shows (most - length new) new)
  stacked-next most [] new r room h = absurd cc
  stacked-next most ([] ∷ below) new r room h =
      let up : suc (most - length ([] ∷ below)) ≡ most - length below = omega arith in
      ap (λ k. cids_stacked shows k below) up ∙ stacked-next most below new r (omega arith) h
  stacked-next most ((x ∷ xs) ∷ below) new r room h =
      let both : (x, xs ∷ below) ≡ (r, new) = cc in
      let row = ap (λ (t : Row × List (List Row)). t.0) both in
      let rest = ap (λ (t : Row × List (List Row)). t.1) both in
      rw (← row, ← rest) (ap (λ t. x.value ∷ t) (append_assoc (cids_from shows (most - length (xs ∷ below)) x.tree) (row_cids (cids_from shows (most - length (xs ∷ below))) xs) (cids_stacked shows (suc (most - length (xs ∷ below))) below)))

  pub stacked-end : (n : ℕ) (stack : List (List Row)) → next_row stack ≡ None → cids_stacked shows n stack ≡ []
  stacked-end n [] h = refl
  stacked-end n ([] ∷ below) h = stacked-end (suc n) below h
  stacked-end n ((x ∷ xs) ∷ below) h = absurd cc

-- ---- a step over a source

module _ (gives : List ℕ → Option (List ℕ)) where
  -- a node that is missing
  pub goes-missing : (old new : Walking) (c : List ℕ) → Some c ≡ (if nat_lt (length old.stack) old.most then old.link else None)
      → new ≡ without_link old → gives c ≡ None → GoesBy gives old new None
  goes-missing old new c link is none = record {
    cid = c;
    left = left-down (shown_by gives) old c (is-down (shown_by gives) old c link)
        ∙ ap (λ t. c ∷ t) (ap (λ o. cids_entered (shown_by gives) (without_link old) (option_and_then shape_of_bytes o)) none
        ∙ entered-none (shown_by gives) (without_link old) refl ∙ ap (cids_left (shown_by gives)) (sym is));
    given = none;
  }

  -- a node that is there
  pub goes-down : (old taken new : Walking) (c b : List ℕ) → Some c ≡ (if nat_lt (length old.stack) old.most then old.link else None)
      → taken ≡ without_link old → new ≡ entered taken (read_node b) → gives c ≡ Some b → GoesBy gives old new (Some b)
  goes-down old taken new c b link is into there =
      let d = is-down (shown_by gives) old c link in
      record {
        cid = c;
        left = left-down (shown_by gives) old c d
            ∙ ap (λ t. c ∷ t) (ap (λ o. cids_entered (shown_by gives) (without_link old) (option_and_then shape_of_bytes o)) there
            ∙ entered-as (shown_by gives) (without_link old) (read_node b) refl d.0
            ∙ ap (λ w. cids_left (shown_by gives) (entered w (read_node b))) (sym is) ∙ ap (cids_left (shown_by gives)) (sym into));
        given = there;
      }

  -- a record
  pub goes-on : (old taken new : Walking) (c : List ℕ) (o : Option (List ℕ)) → length old.stack ≤ old.most
      → None ≡ (if nat_lt (length old.stack) old.most then old.link else None) → taken ≡ without_link old
      → IsAtRow taken new c → gives c ≡ o → GoesBy gives old new o
  goes-on old taken new c o room link is at there =
      let s = ap (λ (w : Walking). w.stack) is in
      let next : next_row old.stack ≡ Some (at.row, new.stack) = ap next_row (sym s) ∙ at.next in
      let m : new.most ≡ old.most = at.most_is ∙ ap (λ (w : Walking). w.most) is in
      record {
        cid = c;
        left = left-stacked (shown_by gives) old link ∙ stacked-next (shown_by gives) old.most old.stack new.stack at.row room next
            ∙ ap (λ v. v ∷ (cids_from (shown_by gives) (old.most - length new.stack) at.row.tree ++ cids_stacked (shown_by gives) (old.most - length new.stack) new.stack)) (sym at.value_is)
            ∙ ap (λ l. c ∷ (cids_from (shown_by gives) (old.most - length new.stack) l ++ cids_stacked (shown_by gives) (old.most - length new.stack) new.stack)) (sym at.link_is)
            ∙ ap (λ k. c ∷ (cids_from (shown_by gives) (k - length new.stack) new.link ++ cids_stacked (shown_by gives) (k - length new.stack) new.stack)) (sym m);
        given = there;
      }

  -- the end
  pub goes-nowhere : (old taken : Walking) → None ≡ (if nat_lt (length old.stack) old.most then old.link else None)
      → taken ≡ without_link old → next_row taken.stack ≡ None → cids_left (shown_by gives) old ≡ []
  goes-nowhere old taken link is none =
      left-stacked (shown_by gives) old link
      ∙ stacked-end (shown_by gives) (layers_left old) old.stack (ap (λ (w : Walking). next_row w.stack) (sym is) ∙ none)
