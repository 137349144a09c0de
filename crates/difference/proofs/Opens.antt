-- One layer more is open: what the code does, row by row.
use Rattle.std.proofs.Common.{◌≡◌, ℕ, ◌≤◌, Bool, true, false, ◌||◌, List, [], ◌∷◌, ◌++◌, length, refl, sym, ap, ◌∙◌, subst, arith, Option, Result, Ok, Err}
use Rattle.std.specs.Prelude.{IfSome, option_map, option_and_then}
use Rattle.std.proofs.lemmas.List.{map-append, length-map, length-append}
use Rattle.std.proofs.lemmas.Map.Text.{is_eq-slice_cmp}
use Rattle.std.specs.Arc.{arc_value}
use Rattle.std.specs.BTreeSet.{BTreeSet}
use Rattle.std.specs.Cmp.Lexicographic.{slice_cmp}
use Rattle.std.specs.List.{list_any}
use Rattle.std.specs.Ordering.{nat_cmp, is_eq}
use Rattle.std.specs.Str.{bytes_eq}
use Rattle.std.specs.declared.sync.Arc.{Arc}
use Rattle.std.specs.declared.option.Option.TheVariants.{Some, None}
use Rattle.spec.specs.Tree.{Pair}
use Rattle.spec.specs.NodeFormat.{Entry, NodeFault, Shape, LastLink, MoreLinks, read_node}
use Rattle.edit_laws.specs.Changes.{has_cid}
use Rattle.edit_laws.specs.ShapeEdit.{last_link}
use Rattle.edit_laws.specs.Sources.{shape_of_bytes, shape_of_reading}
use Rattle.batch_laws.specs.Links.{Rows, rows_in_shape, onto_links}
use Rattle.node.specs.Contents.{Contents}
use Rattle.block.specs.Nodes.{contents_of}
use Rattle.rows.specs.Drafts.{or_empty, shape_in}
use Rattle.rows.specs.Entries.{shape_of}
use Rattle.lookups.specs.Nodes.{IsNodeOf}
use Rattle.lookups.specs.Steps.{nodes_given}
use Rattle.difference_laws.specs.Lines.{Opened, Side, NotShown, link_without, without, unless, spliced, within, opened_last, opened_row, opened}
use Rattle.difference.specs.Keys.{key_in}
use Rattle.difference.specs.Sides.{AreOpened, AreStopped, HasLinks, IsBegun, IsSpread, IsLackAt, IsStopped, IsTop, line_of, row_of, rows_of, rows_without, shapes_in, top_after}
use Rattle.difference.specs.declared.line.Row.{Row}
use Rattle.difference.specs.declared.line.Line.{Line}
use Rattle.difference.specs.declared.faults.DifferenceFault.{DifferenceFault}
use Rattle.difference.specs.declared.faults.DifferenceFault.TheVariants.{BlockMissing, BadNode, TooDeep, NotTree, NoMemory}

-- ---- a block that is read as a node

shape-read : (r : Result (Option (List ℕ) × List Entry) NodeFault) (v : Contents) → Some v ≡ contents_of r
    → shape_of_reading r ≡ Some (shape_of v)
shape-read (Ok n) v h = let e : record { left = n.0; entries = n.1 } ≡ v = cc in ap (λ x. Some (shape_of x)) e
shape-read (Err f) v h = absurd cc

shape_in-shown : (bytes : List ℕ) (s : Shape) → shape_of_bytes bytes ≡ Some s → shape_in bytes ≡ s
unfolding shape_in
shape_in-shown bytes s h = ap or_empty h

-- it is its bytes' node
pub read-is-node : (bytes : List ℕ) (v : Contents) → Some v ≡ contents_of (read_node bytes) → IsNodeOf bytes (shape_of v)
    → IsNodeOf bytes (shape_in bytes)
read-is-node bytes v h n =
    subst (IsNodeOf bytes) (sym (shape_in-shown bytes (shape_of v) (shape-read (read_node bytes) v h))) n

module _ {A : Type 0} (gives : List ℕ → Option (Arc (List ℕ) A)) (c : List ℕ) (b : Arc (List ℕ) A) (v : Contents)
    (given : Some b ≡ gives c) (read : Some v ≡ contents_of (read_node (arc_value b))) where
  pub node-shown : nodes_given gives c ≡ Some (shape_of v)
  node-shown =
      ap (λ o. option_and_then shape_of_bytes (option_map arc_value o)) (sym given) ∙ shape-read (read_node (arc_value b)) v read

  shapes-more : (old new : List (Arc (List ℕ) A)) → new ≡ old ++ (b ∷ []) → shapes_in new ≡ shapes_in old ++ (shape_of v ∷ [])
  shapes-more old new q =
      ap shapes_in q ∙ map-append (λ x. shape_in (arc_value x)) old (b ∷ [])
      ∙ ap (λ s. shapes_in old ++ (s ∷ []))
      (shape_in-shown (arc_value b) (shape_of v) (shape-read (read_node (arc_value b)) v read))

  pub spread-some : (link last : Option (List ℕ)) (rows rows1 : Rows) (old new : List (Arc (List ℕ) A)) → link ≡ Some c
      → new ≡ old ++ (b ∷ []) → rows1 ≡ rows ++ rows_in_shape (shape_of v) → last ≡ last_link (shape_of v)
      → IsSpread (nodes_given gives) link rows rows1 (shapes_in old) (shapes_in new) last
  spread-some None last rows rows1 old new e q r l = absurd cc
  spread-some (Some d) last rows rows1 old new e q r l =
      let same : c ≡ d = cc in
      (shape_of v, (ap (nodes_given gives) (sym same) ∙ node-shown, r, shapes-more old new q, l))

-- ---- a set has its own links

any-same : (p q : List ℕ → Bool) (xs : List (List ℕ)) → ((x : List ℕ) → p x ≡ q x) → list_any p xs ≡ list_any q xs
any-same p q [] h = refl
any-same p q (x ∷ xs) h = (λ i. h x i || any-same p q xs h i)

pub own-links : (s : BTreeSet (List ℕ)) → HasLinks s.keys s
own-links s = λ c. any-same (λ k. is_eq (slice_cmp nat_cmp c k)) (bytes_eq c) s.keys (λ k. is_eq-slice_cmp c k)

link-same : (cs ds : List (List ℕ)) → ((c : List ℕ) → has_cid c cs ≡ has_cid c ds) → (l : Option (List ℕ))
    → link_without cs l ≡ link_without ds l
link-same cs ds h None = refl
link-same cs ds h (Some c) = ap (λ b. unless b c) (h c)

without-same : (cs ds : List (List ℕ)) → ((c : List ℕ) → has_cid c cs ≡ has_cid c ds) → (s : Shape)
    → without cs s ≡ without ds s
without-same cs ds h (LastLink l) = ap LastLink (link-same cs ds h l)
without-same cs ds h (MoreLinks l e r) = (λ i. MoreLinks (link-same cs ds h l i) e (without-same cs ds h r i))

-- without the links of a set is without those that it has
pub without-set : (cs : List (List ℕ)) (s : BTreeSet (List ℕ)) → HasLinks cs s → (t : Shape) → without s.keys t ≡ without cs t
without-set cs s has = without-same s.keys cs (λ c. sym (own-links s c) ∙ has c)

link-none : (l : Option (List ℕ)) → link_without [] l ≡ l
link-none None = refl
link-none (Some c) = refl

without-none : (s : Shape) → without [] s ≡ s
without-none (LastLink l) = ap LastLink (link-none l)
without-none (MoreLinks l e r) = (λ i. MoreLinks (link-none l i) e (without-none r i))

pub without-empty : (s : BTreeSet (List ℕ)) → s.keys ≡ [] → (t : Shape) → without s.keys t ≡ t
without-empty s e t = ap (λ k. without k t) e ∙ without-none t

pub without-line : (cs : List (List ℕ)) (rows : Rows) (l : Option (List ℕ))
    → without cs (onto_links rows (LastLink l)) ≡ onto_links (rows_without cs rows) (LastLink (link_without cs l))
without-line cs [] l = refl
without-line cs (x ∷ rows) l = ap (MoreLinks (link_without cs x.0) x.1) (without-line cs rows l)

onto-append : (xs ys : Rows) (t : Shape) → onto_links (xs ++ ys) t ≡ onto_links xs (onto_links ys t)
onto-append [] ys t = refl
onto-append (x ∷ xs) ys t = ap (MoreLinks x.0 x.1) (onto-append xs ys t)

pub node-onto : (m : Shape) → m ≡ onto_links (rows_in_shape m) (LastLink (last_link m))
node-onto (LastLink l) = refl
node-onto (MoreLinks l e r) = ap (MoreLinks l e) (node-onto r)

spliced-onto : (m : Shape) (e : Pair) (t : Shape)
    → spliced m e t ≡ onto_links (rows_in_shape m) (MoreLinks (last_link m) e t)
spliced-onto (LastLink l) e t = refl
spliced-onto (MoreLinks l f s) e t = ap (MoreLinks l f) (spliced-onto s e t)

-- one change of a line after another
within-same : (f g : Shape → Shape) (x : Opened) → ((t : Shape) → f t ≡ g t) → within f x ≡ within g x
within-same f g (Ok x) h = ap (λ t. Ok (t, x.1)) (h x.0)
within-same f g (Err e) h = refl

within-twice : (f g : Shape → Shape) (x : Opened) → within f (within g x) ≡ within (λ t. f (g t)) x
within-twice f g (Ok x) = refl
within-twice f g (Err e) = refl

row-some : (acc : Rows) (m : Shape) (e : Pair) (t : Shape)
    → onto_links acc (spliced m e t) ≡ onto_links ((acc ++ rows_in_shape m) ++ ((last_link m, e) ∷ [])) t
row-some acc m e t =
    ap (onto_links acc) (spliced-onto m e t)
    ∙ sym (onto-append acc (rows_in_shape m) (MoreLinks (last_link m) e t))
    ∙ sym (onto-append (acc ++ rows_in_shape m) ((last_link m, e) ∷ []) t)

-- a row came: its link's node and its pair
pub row-came : (shows : List ℕ → Option Shape) (link : Option (List ℕ)) (e : Pair) (t : Shape) (acc acc1 acc2 : Rows)
    (read read1 : List Shape) (last : Option (List ℕ)) → IsSpread shows link acc acc1 read read1 last
    → acc2 ≡ acc1 ++ ((last, e) ∷ [])
    → within (onto_links acc) (opened shows (MoreLinks link e t) read) ≡ within (onto_links acc2) (opened shows t read1)
row-came shows None e t acc acc1 acc2 read read1 last h q =
    let rows : acc2 ≡ acc ++ ((None, e) ∷ []) = q ∙ (λ i. h.0 i ++ ((h.2 i, e) ∷ [])) in
    within-twice (onto_links acc) (λ t. MoreLinks None e t) (opened shows t read)
    ∙ within-same (λ t. onto_links acc (MoreLinks None e t)) (onto_links acc2) (opened shows t read)
    (λ s. sym (ap (λ z. onto_links z s) rows ∙ onto-append acc ((None, e) ∷ []) s))
    ∙ ap (λ r. within (onto_links acc2) (opened shows t r)) (sym h.1)
row-came shows (Some c) e t acc acc1 acc2 read read1 last (m, h) q =
    let rows : acc2 ≡ (acc ++ rows_in_shape m) ++ ((last_link m, e) ∷ []) = q ∙ (λ i. h.1 i ++ ((h.3 i, e) ∷ [])) in
    ap (λ o. within (onto_links acc) (opened_row (opened shows t) c e o read)) h.0
    ∙ within-twice (onto_links acc) (λ r. spliced m e r) (opened shows t (read ++ (m ∷ [])))
    ∙ within-same (λ s. onto_links acc (spliced m e s)) (onto_links acc2) (opened shows t (read ++ (m ∷ [])))
    (λ s. row-some acc m e s ∙ ap (λ z. onto_links z s) (sym rows))
    ∙ ap (λ r. within (onto_links acc2) (opened shows t r)) (sym h.2)

-- the last link's node came
pub last-came : (shows : List ℕ → Option Shape) (link : Option (List ℕ)) (acc acc1 : Rows)
    (read read1 : List Shape) (last : Option (List ℕ)) → IsSpread shows link acc acc1 read read1 last
    → within (onto_links acc) (opened shows (LastLink link) read) ≡ Ok (onto_links acc1 (LastLink last), read1)
last-came shows None acc acc1 read read1 last h =
    λ i. Ok (onto_links (sym h.0 i) (LastLink (sym h.2 i)), sym h.1 i)
last-came shows (Some c) acc acc1 read read1 last (m, h) =
    ap (λ o. within (onto_links acc) (opened_last c o read)) h.0
    ∙ (λ i. Ok (
      (ap (onto_links acc) (node-onto m) ∙ sym (onto-append acc (rows_in_shape m) (LastLink (last_link m)))
          ∙ (λ j. onto_links (sym h.1 j) (LastLink (sym h.3 j)))) i,
      sym h.2 i,
    ))

-- ---- where a link's block isn't there

stopped-row : {A : Type 0} (gives : List ℕ → Option A) (shows : List ℕ → Option Shape) (link : Option (List ℕ)) (e : Pair)
    (t : Shape) (acc : Rows) (read : List Shape) (c : List ℕ) → link ≡ Some c → shows c ≡ None
    → within (onto_links acc) (opened shows (MoreLinks link e t) read) ≡ Err (NotShown c)
stopped-row gives shows link e t acc read c q h =
    ap (λ l. within (onto_links acc) (opened shows (MoreLinks l e t) read)) q
    ∙ ap (λ o. within (onto_links acc) (opened_row (opened shows t) c e o read)) h

stopped-last : {A : Type 0} (gives : List ℕ → Option A) (shows : List ℕ → Option Shape) (link : Option (List ℕ))
    (acc : Rows) (read : List Shape) (c : List ℕ) → link ≡ Some c → shows c ≡ None
    → within (onto_links acc) (opened shows (LastLink link) read) ≡ Err (NotShown c)
stopped-last gives shows link acc read c q h =
    ap (λ l. within (onto_links acc) (opened shows (LastLink l) read)) q
    ∙ ap (λ o. within (onto_links acc) (opened_last c o read)) h

pub row-lacks : {A : Type 0} (gives : List ℕ → Option A) (shows : List ℕ → Option Shape) (link : Option (List ℕ)) (e : Pair)
    (t : Shape) (acc : Rows) (read : List Shape) (fault : DifferenceFault) → IsLackAt gives shows link fault
    → IsStopped gives (within (onto_links acc) (opened shows (MoreLinks link e t) read)) fault
row-lacks gives shows link e t acc read (BlockMissing c) h = (h.1, stopped-row gives shows link e t acc read c h.0 h.2)
row-lacks gives shows link e t acc read (BadNode c) h = (h.1, stopped-row gives shows link e t acc read c h.0 h.2)
row-lacks gives shows link e t acc read TooDeep h = absurd h
row-lacks gives shows link e t acc read NotTree h = absurd h
row-lacks gives shows link e t acc read NoMemory h = tt

pub last-lacks : {A : Type 0} (gives : List ℕ → Option A) (shows : List ℕ → Option Shape) (link : Option (List ℕ))
    (acc : Rows) (read : List Shape) (fault : DifferenceFault) → IsLackAt gives shows link fault
    → IsStopped gives (within (onto_links acc) (opened shows (LastLink link) read)) fault
last-lacks gives shows link acc read (BlockMissing c) h = (h.1, stopped-last gives shows link acc read c h.0 h.2)
last-lacks gives shows link acc read (BadNode c) h = (h.1, stopped-last gives shows link acc read c h.0 h.2)
last-lacks gives shows link acc read TooDeep h = absurd h
last-lacks gives shows link acc read NotTree h = absurd h
last-lacks gives shows link acc read NoMemory h = tt

stopped-within : {A : Type 0} (gives : List ℕ → Option A) (x y : Opened) (fault : DifferenceFault) → x ≡ y
    → IsStopped gives y fault → IsStopped gives x fault
stopped-within gives x y fault q h = subst (λ z. IsStopped gives z fault) (sym q) h

-- ---- the rows of a line, one after the other

module _ {A B : Type 0} (gives : List ℕ → Option A) (shows : List ℕ → Option Shape) (cids : List (List ℕ)) (whole : Shape → Opened)
    (x : Row B) (rs ss : List (Row B)) (next : rs ≡ x ∷ ss) (acc : Rows) (read : List Shape) (link : Option (List ℕ))
    (is : link ≡ link_without cids x.link)
    (so_far : (r : Shape) → whole r
    ≡ within (onto_links acc) (opened shows (onto_links (rows_without cids (rows_of rs)) r) read)) where
  at-row : (r : Shape) → whole r ≡ within (onto_links acc)
      (opened shows (MoreLinks link (key_in x.key, x.value) (onto_links (rows_without cids (rows_of ss)) r)) read)
  at-row r =
      so_far r
      ∙ ap (λ (z : List (Row B)). within (onto_links acc) (opened shows (onto_links (rows_without cids (rows_of z)) r) read)) next
      ∙ ap (λ l. within (onto_links acc)
      (opened shows (MoreLinks l (key_in x.key, x.value) (onto_links (rows_without cids (rows_of ss)) r)) read)) (sym is)

  pub row-step : (acc1 acc2 : Rows) (read1 : List Shape) (last : Option (List ℕ)) → IsSpread shows link acc acc1 read read1 last
      → acc2 ≡ acc1 ++ ((last, (key_in x.key, x.value)) ∷ []) → (r : Shape) → whole r
      ≡ within (onto_links acc2) (opened shows (onto_links (rows_without cids (rows_of ss)) r) read1)
  row-step acc1 acc2 read1 last s q r =
      at-row r
      ∙ row-came shows link (key_in x.key, x.value) (onto_links (rows_without cids (rows_of ss)) r) acc acc1 acc2 read read1 last s q

  pub row-stops : (fault : DifferenceFault) → IsLackAt gives shows link fault → (r : Shape) → IsStopped gives (whole r) fault
  row-stops fault lack r =
      stopped-within gives (whole r) (within (onto_links acc)
      (opened shows (MoreLinks link (key_in x.key, x.value) (onto_links (rows_without cids (rows_of ss)) r)) read)) fault (at-row r)
      (row-lacks gives shows link (key_in x.key, x.value) (onto_links (rows_without cids (rows_of ss)) r) acc read fault lack)

pub rows-end : {A : Type 0} (rs ss : List (Row A)) (r : Row A) → rs ≡ ss ++ (r ∷ []) → rows_of rs ≡ rows_of ss ++ (row_of r ∷ [])
rows-end rs ss r q = ap rows_of q ∙ map-append row_of ss (r ∷ [])

-- ---- the root's block waits

pub no-top : {A X : Type 0} (top : Option A) (xs : List X) (x : X) (ys : List X) → IfSome top (λ t. xs ≡ []) → xs ≡ x ∷ ys
    → top ≡ None
no-top None xs x ys h q = refl
no-top (Some t) xs x ys h q = let z : ◌≡◌ {A = List _} [] (x ∷ ys) = sym h ∙ q in absurd cc

pub no-top-after : {A : Type 0} (link : Option (List ℕ)) (top : Option A) → top ≡ None → top_after link top ≡ None
no-top-after None top e = e
no-top-after (Some c) top e = refl

pub top-known : {A : Type 0} (gives : List ℕ → Option A) (link : Option (List ℕ)) (top : Option A) → top ≡ None
    → IsTop gives link top
top-known gives link None e = tt
top-known gives link (Some t) e = absurd cc

pub none-alone : {A X : Type 0} (top : Option A) (xs : List X) → top ≡ None → IfSome top (λ t. xs ≡ [])
none-alone None xs e = tt
none-alone (Some t) xs e = absurd cc

no-rows : {A : Type 0} (rs : List (Row A)) → rows_of rs ≡ [] → rs ≡ []
no-rows [] e = refl
no-rows (r ∷ rs) e = absurd cc

pub begun-alone : {A B : Type 0} (gives : List ℕ → Option A) (rs : List (Row B)) (last : Option (List ℕ)) (top : Option A)
    (read : List A) → IsBegun gives (rows_of rs) last top read → IfSome top (λ t. rs ≡ [])
begun-alone gives rs last None read h = tt
begun-alone gives rs last (Some t) read h = no-rows rs h.0

kept-link : (b : Bool) (c d : List ℕ) → unless b c ≡ Some d → c ≡ d
kept-link true c d e = absurd cc
kept-link false c d e = cc

without-is : (cids : List (List ℕ)) (l : Option (List ℕ)) (d : List ℕ) → link_without cids l ≡ Some d → l ≡ Some d
without-is cids None d e = absurd cc
without-is cids (Some c) d e = ap (λ x. Some x) (kept-link (has_cid c cids) c d e)

pub begun-top : {A : Type 0} (gives : List ℕ → Option A) (rows : Rows) (last : Option (List ℕ)) (top : Option A) (read : List A)
    (cids : List (List ℕ)) (link : Option (List ℕ)) → IsBegun gives rows last top read → link ≡ link_without cids last
    → IsTop gives link top
begun-top gives rows last None read cids link h e = tt
begun-top gives rows last (Some t) read cids link h e = λ c q. h.1 c (without-is cids last c (sym e ∙ q))

-- ---- all rows, and the last link

module _ {A : Type 0} (gives : List ℕ → Option A) (shows : List ℕ → Option Shape) (cids : List (List ℕ)) (rows acc : Rows)
    (last link : Option (List ℕ)) (read read1 : List Shape) (is : link ≡ link_without cids last)
    (so_far : AreOpened shows (rows_without cids rows) acc read read1) where
  at-last : opened shows (without cids (onto_links rows (LastLink last))) read
      ≡ within (onto_links acc) (opened shows (LastLink link) read1)
  at-last =
      ap (λ s. opened shows s read) (without-line cids rows last)
      ∙ ap (λ l. opened shows (onto_links (rows_without cids rows) (LastLink l)) read) (sym is) ∙ so_far (LastLink link)

  pub line-opened : (acc1 : Rows) (read2 : List Shape) (then : Option (List ℕ)) → IsSpread shows link acc acc1 read1 read2 then
      → opened shows (without cids (onto_links rows (LastLink last))) read ≡ Ok (onto_links acc1 (LastLink then), read2)
  line-opened acc1 read2 then s = at-last ∙ last-came shows link acc acc1 read1 read2 then s

  pub line-stops : (fault : DifferenceFault) → IsLackAt gives shows link fault
      → IsStopped gives (opened shows (without cids (onto_links rows (LastLink last))) read) fault
  line-stops fault lack =
      stopped-within gives (opened shows (without cids (onto_links rows (LastLink last))) read)
      (within (onto_links acc) (opened shows (LastLink link) read1)) fault at-last
      (last-lacks gives shows link acc read1 fault lack)

pub rows-stop : {A : Type 0} (gives : List ℕ → Option A) (shows : List ℕ → Option Shape) (cids : List (List ℕ)) (rows : Rows)
    (last : Option (List ℕ)) (read : List Shape) (fault : DifferenceFault)
    → AreStopped gives shows (rows_without cids rows) read fault
    → IsStopped gives (opened shows (without cids (onto_links rows (LastLink last))) read) fault
rows-stop gives shows cids rows last read fault h =
    stopped-within gives (opened shows (without cids (onto_links rows (LastLink last))) read)
    (opened shows (onto_links (rows_without cids rows) (LastLink (link_without cids last))) read) fault
    (ap (λ s. opened shows s read) (without-line cids rows last)) (h (LastLink (link_without cids last)))

-- ---- a tree of which nothing is open stays so, or some nodes were opened

no-onto : (rows : Rows) → LastLink None ≡ onto_links rows (LastLink None) → rows ≡ []
no-onto [] e = refl
no-onto (x ∷ rows) e = absurd cc

pub ok-is : {X Y : Type 0} (x y : X) → ◌≡◌ {A = Result X Y} (Ok x) (Ok y) → x ≡ y
ok-is x y e = cc

opened-is : (s t : Shape) (xs ys : List Shape) → ◌≡◌ {A = Opened} (Ok (s, xs)) (Ok (t, ys)) → (s ≡ t) × (xs ≡ ys)
opened-is s t xs ys e = let h = ok-is (s, xs) (t, ys) e in (ap (λ z. z.0) h, ap (λ z. z.1) h)

nothing-opened : (shows : List ℕ → Option Shape) (acc : Rows) (read then : List Shape) → AreOpened shows [] acc read then
    → (acc ≡ []) × (read ≡ then)
nothing-opened shows acc read then h =
    let i = opened-is (LastLink None) (onto_links acc (LastLink None)) read then (h (LastLink None)) in
    (no-onto acc i.0, i.1)

no-shapes : {A : Type 0} (bs : List (Arc (List ℕ) A)) → shapes_in bs ≡ [] → bs ≡ []
no-shapes [] e = refl
no-shapes (b ∷ bs) e = absurd cc

some-read : {A : Type 0} (bs : List (Arc (List ℕ) A)) (xs : List Shape) (m : Shape) → shapes_in bs ≡ xs ++ (m ∷ [])
    → 1 ≤ length bs
some-read bs xs m e =
    let n : length bs ≡ length (xs ++ (m ∷ [])) = sym (length-map bs (λ b. shape_in (arc_value b))) ∙ ap length e in
    let k = length-append xs (m ∷ []) in
    omega arith

longer : {A : Type 0} (shows : List ℕ → Option Shape) (link : Option (List ℕ)) (acc acc1 : Rows) (last : Option (List ℕ))
    (bs ds : List (Arc (List ℕ) A)) → IsSpread shows link acc acc1 (shapes_in bs) (shapes_in ds) last → length bs ≤ length ds
longer shows None acc acc1 last bs ds h =
    let n : length ds ≡ length bs = sym (length-map ds (λ b. shape_in (arc_value b))) ∙ ap length h.1
    ∙ length-map bs (λ b. shape_in (arc_value b)) in
    omega arith
longer shows (Some c) acc acc1 last bs ds (m, h) =
    let n : length ds ≡ length (shapes_in bs ++ (m ∷ [])) = sym (length-map ds (λ b. shape_in (arc_value b))) ∙ ap length h.2 in
    let k = length-append (shapes_in bs) (m ∷ []) in
    let l = length-map bs (λ b. shape_in (arc_value b)) in
    omega arith

pub spread-longer : {A : Type 0} (shows : List ℕ → Option Shape) (link : Option (List ℕ)) (acc acc1 : Rows)
    (last : Option (List ℕ)) (bs ds : List (Arc (List ℕ) A))
    → IsSpread shows link acc acc1 (shapes_in bs) (shapes_in ds) last → length bs ≤ length ds
spread-longer = longer

module _ {A : Type 0} (gives : List ℕ → Option (Arc (List ℕ) A)) (shows : List ℕ → Option Shape) (cids : List (List ℕ)) where
  begun-link : (top : Arc (List ℕ) A) (link : Option (List ℕ)) (acc acc1 : Rows) (then : Option (List ℕ))
      (read1 read2 : List (Arc (List ℕ) A)) → acc ≡ [] → read1 ≡ []
      → IsSpread shows link acc acc1 (shapes_in read1) (shapes_in read2) then
      → IsBegun gives acc1 then (top_after link (Some top)) read2
  begun-link top None acc acc1 then read1 read2 e q s = (
    s.0 ∙ e,
    λ c h. let z : None ≡ Some c = sym s.2 ∙ h in absurd cc,
    no-shapes read2 (s.1 ∙ ap shapes_in q),
  )
  begun-link top (Some c) acc acc1 then read1 read2 e q (m, s) = some-read read2 (shapes_in read1) m s.2

  begun-more : (link : Option (List ℕ)) (acc acc1 : Rows) (then : Option (List ℕ)) (read read1 read2 : List (Arc (List ℕ) A))
      → 1 ≤ length read → length read ≤ length read1
      → IsSpread shows link acc acc1 (shapes_in read1) (shapes_in read2) then
      → IsBegun gives acc1 then (top_after link None) read2
  begun-more None acc acc1 then read read1 read2 l m s = let n = longer shows None acc acc1 then read1 read2 s in omega arith
  begun-more (Some c) acc acc1 then read read1 read2 l m s =
      let n = longer shows (Some c) acc acc1 then read1 read2 s in omega arith

  pub begun-still : (top : Option (Arc (List ℕ) A)) (rows acc acc1 : Rows) (last link then : Option (List ℕ))
      (read read1 read2 : List (Arc (List ℕ) A)) → IsBegun gives rows last top read
      → AreOpened shows (rows_without cids rows) acc (shapes_in read) (shapes_in read1) → length read ≤ length read1
      → IsSpread shows link acc acc1 (shapes_in read1) (shapes_in read2) then
      → IsBegun gives acc1 then (top_after link top) read2
  begun-still None rows acc acc1 last link then read read1 read2 b o l s =
      begun-more link acc acc1 then read read1 read2 b l s
  begun-still (Some top) rows acc acc1 last link then read read1 read2 b o l s =
      let none = nothing-opened shows acc (shapes_in read) (shapes_in read1)
      (subst (λ z. AreOpened shows (rows_without cids z) acc (shapes_in read) (shapes_in read1)) b.0 o) in
      begun-link top link acc acc1 then read1 read2 none.0 (no-shapes read1 (sym none.1 ∙ ap shapes_in b.2)) s

-- ---- nothing is open

pub side-is : (s t : Side) → s.left ≡ t.left → s.line ≡ t.line → s.read ≡ t.read → s ≡ t
side-is s t p q r = λ i. record { left = p i; line = q i; read = r i }

last-of : (rows : Rows) (l : Option (List ℕ)) (c : List ℕ) → onto_links rows (LastLink l) ≡ LastLink (Some c)
    → (rows ≡ []) × (l ≡ Some c)
last-of [] l c e = (refl, cc)
last-of (x ∷ rows) l c e = absurd cc

pub begun-first : {A B : Type 0} (gives : List ℕ → Option A) (root : List ℕ) (block top : A) → Some block ≡ gives root
    → top ≡ block → (line : Line B) → line_of line ≡ LastLink (Some root) → (read : List A) → read ≡ []
    → IsBegun gives (rows_of line.rows.items) line.last (Some top) read
begun-first gives root block top given is line e read none =
    let l = last-of (rows_of line.rows.items) line.last root e in (
      l.0,
      (λ c h. (let same : c ≡ root = some-same c root (sym h ∙ l.1) in
          ap gives same ∙ sym given ∙ ap (λ x. Some x) (sym is))),
      none,
    )
  where
    some-same : (a b : List ℕ) → ◌≡◌ {A = Option (List ℕ)} (Some a) (Some b) → a ≡ b
    some-same a b q = cc
