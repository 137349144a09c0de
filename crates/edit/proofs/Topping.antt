-- The top of the tree that the edge has become.
use Rattle.std.proofs.Common.{◌≡◌, ℕ, suc, ◌+◌, ◌-◌, length-append, ◌<◌, ◌≤◌, List, [], ◌∷◌, ◌++◌, length, take, drop, refl, sym, ap, ◌∙◌, arith, Option, Ok}
use Rattle.std.proofs.lemmas.List.{append-nil}
use Rattle.std.specs.declared.option.Option.TheVariants.{Some, None}
use Rattle.spec.specs.NodeFormat.{Shape, LastLink, MoreLinks, shape_cid}
use Rattle.batch_laws.specs.Links.{Rows, LinkEdge, LinkClear, Log, Top, ask, log_shown, with_read, closing, link_edge, onto_links, new_top, topping, pruning, pruning_at, Step}
use Rattle.edit.specs.Edges.{edge_of, highest_of}
use Rattle.edit.specs.Tops.{IsTopped, IsLooked, IsTop, IsEnded, further_of}
use Rattle.edit.proofs.Cuts.{snoc-same, cut-at, drop-end}

pub top-down : (digest : List ℕ → List ℕ) (shows : List ℕ → Option Shape) (k : ℕ) (ls : List Rows) (rest : Option (List ℕ))
    (log : Log) → topping digest shows k (edge_of ls rest) log
    ≡ topping digest shows k (edge_of (drop (highest_of ls) ls) rest) log
top-down digest shows k [] rest log = refl
top-down digest shows k ([] ∷ ls) rest log = top-down digest shows k ls rest log
top-down digest shows k ((x ∷ r) ∷ ls) rest log = refl

pub record HasTop (d : ℕ) (ls : List Rows) : Type 0 where
  pub first : Option (List ℕ) × (List ℕ × List ℕ)
  pub more : Rows
  pub is : drop d ls ≡ (first ∷ more) ∷ drop (suc d) ls

pub has-top : (ls : List Rows) → highest_of ls < length ls → HasTop (highest_of ls) ls
has-top [] h = absurd (omega arith)
has-top ([] ∷ ls) h = let i = has-top ls (omega arith) in record { first = i.first; more = i.more; is = i.is }
has-top ((x ∷ r) ∷ ls) h = record { first = x; more = r; is = refl }

pub topped-all : (digest : List ℕ → List ℕ) (shows : List ℕ → Option Shape) (k d : ℕ) (ls : List Rows)
    (rest : Option (List ℕ)) (log now : Log) (root : List ℕ) → d ≡ highest_of ls → d < length ls
    → IsTopped digest d ls rest log root now → IsTop (topping digest shows k (edge_of ls rest) log) root 0 now
topped-all digest shows k d ls rest log now root e h t =
    let g : highest_of ls < length ls = omega arith in
    let p = has-top ls g in
    let c = cut-at (highest_of ls) ls g in
    let one : d + 1 ≡ suc (highest_of ls) = omega arith in
    let s = snoc-same t.above (take (highest_of ls) ls) t.rows c.rows (sym t.cut ∙ ap (λ m. take m ls) one ∙ c.front) in
    let q : c.rows ∷ drop (suc (highest_of ls)) ls ≡ (p.first ∷ p.more) ∷ drop (suc (highest_of ls)) ls = sym c.back ∙ p.is in
    let r : p.first ∷ p.more ≡ t.rows = heads (p.first ∷ p.more) c.rows (drop (suc (highest_of ls)) ls) (sym q) ∙ sym s.1 in
    record {
      left = [];
      next = now;
      is = top-down digest shows k ls rest log ∙ ap (λ ys. topping digest shows k (edge_of ys rest) log) p.is
          ∙ ap (λ m. new_top digest (p.first ∷ p.more) (closing digest (edge_of (drop m ls) rest) log)) (sym one)
          ∙ ap (λ ys. new_top digest ys (closing digest (edge_of (drop (d + 1) ls) rest) log)) r ∙ t.is;
      read = sym (append-nil now.read);
      made = refl;
      stay_is = refl;
    }
  where
    heads : (x y : Rows) (zs : List Rows) → x ∷ zs ≡ y ∷ zs → x ≡ y
    heads x y zs h = cc

pub none-top : (digest : List ℕ → List ℕ) (shows : List ℕ → Option Shape) (k d : ℕ) (ls : List Rows)
    (rest : Option (List ℕ)) (log : Log) → d ≡ highest_of ls → length ls ≤ d
    → topping digest shows k (edge_of ls rest) log ≡ topping digest shows k (link_edge rest) log
none-top digest shows k d ls rest log e h =
    top-down digest shows k ls rest log
    ∙ ap (λ ys. topping digest shows k (edge_of ys rest) log) (drop-end (highest_of ls) ls (omega arith))

pub empty-top : (digest : List ℕ → List ℕ) (shows : List ℕ → Option Shape) (k d : ℕ) (ls : List Rows)
    (rest : Option (List ℕ)) (log : Log) (root : List ℕ) (made : List Shape) → d ≡ highest_of ls → length ls ≤ d
    → rest ≡ None → root ≡ shape_cid digest (onto_links [] (LastLink None))
    → made ≡ log.made ++ (onto_links [] (LastLink None) ∷ [])
    → IsTop (topping digest shows k (edge_of ls rest) log) root 0 (record { read = log.read; made = made })
empty-top digest shows k d ls rest log root made e h n r m = record {
  left = [];
  next = record { read = log.read; made = made };
  is = none-top digest shows k d ls rest log e h ∙ ap (λ l. topping digest shows k (link_edge l) log) n
      ∙ ap (λ x. Ok ((x, []), record { read = log.read; made = log.made ++ (LastLink None ∷ []) })) (sym r)
      ∙ ap (λ ys. Ok ((root, []), record { read = log.read; made = ys })) (sym m);
  read = sym (append-nil log.read);
  made = refl;
  stay_is = refl;
}

pub pruned-top : (digest : List ℕ → List ℕ) (shows : List ℕ → Option Shape) (k d : ℕ) (ls : List Rows)
    (rest : Option (List ℕ)) (c : List ℕ) (log now : Log) (root : List ℕ) (stay : ℕ) → d ≡ highest_of ls → length ls ≤ d
    → rest ≡ Some c → IsTop (pruning shows k c log) root stay now
    → IsTop (topping digest shows k (edge_of ls rest) log) root stay now
pruned-top digest shows k d ls rest c log now root stay e h n t = record {
  left = t.left;
  next = t.next;
  is = none-top digest shows k d ls rest log e h ∙ ap (λ l. topping digest shows k (link_edge l) log) n ∙ t.is;
  read = t.read;
  made = t.made;
  stay_is = t.stay_is;
}

-- ---- pruning

pub record Shown (shown : Option Shape) (node : Shape) (log now : Log) : Type 0 where
  pub is : shown ≡ Some node
  pub log_is : now ≡ with_read node log

pub ok-same : (x y : Shape × Log) → ◌≡◌ {A = Step Shape} (Ok x) (Ok y) → x ≡ y
ok-same x y h = cc

pub was-shown : (c : List ℕ) (o : Option Shape) (node : Shape) (log now : Log)
    → log_shown c LinkClear o log ≡ Ok (node, now)
    → Shown o node log now
was-shown c None node log now h = absurd cc
was-shown c (Some m) node log now h =
    let p = ok-same (m, with_read m log) (node, now) h in
    let a : m ≡ node = ap (λ x. x.0) p in
    let b : with_read m log ≡ now = ap (λ x. x.1) p in
    record { is = ap Some a; log_is = sym b ∙ ap (λ x. with_read x log) a }

-- what is read is the same at each edge
read-case : (c : List ℕ) (s : LinkEdge) (o : Option Shape) (log : Log) (x : Shape × Log)
    → log_shown c LinkClear o log ≡ Ok x → log_shown c s o log ≡ Ok x
read-case c s None log x h = absurd cc
read-case c s (Some m) log x h = h

pub read-at : (shows : List ℕ → Option Shape) (c : List ℕ) (s : LinkEdge) (log : Log) (x : Shape × Log)
    → ask shows c LinkClear log ≡ Ok x → ask shows c s log ≡ Ok x
read-at shows c s log x h = read-case c s (shows c) log x h

ends-at : (shows : List ℕ → Option Shape) (m : ℕ) (c : List ℕ) (log : Log) (node : Shape) → None ≡ further_of node
    → pruning_at (pruning shows m) c log (Some node) ≡ Ok ((c, node ∷ []), log)
ends-at shows m c log (LastLink None) h = refl
ends-at shows m c log (LastLink (Some b)) h = absurd cc
ends-at shows m c log (MoreLinks l e r) h = refl

goes-on : (shows : List ℕ → Option Shape) (m : ℕ) (c b : List ℕ) (log : Log) (node : Shape) → Some b ≡ further_of node
    → pruning_at (pruning shows m) c log (Some node) ≡ pruning shows m b (with_read node log)
goes-on shows m c b log (LastLink None) h = absurd cc
goes-on shows m c b log (LastLink (Some d)) h = let e : d ≡ b = cc in ap (λ x. pruning shows m x (with_read (LastLink (Some d)) log)) e
goes-on shows m c b log (MoreLinks l e r) h = absurd cc

pub look-ends : (shows : List ℕ → Option Shape) (k m : ℕ) (c : List ℕ) (log now : Log) → k ≡ suc m
    → IsLooked shows c log None now → IsTop (pruning shows k c log) c 1 now
look-ends shows k m c log now e p =
    let s = was-shown c (shows c) p.node log now p.shown in
    record {
      left = p.node ∷ [];
      next = log;
      is = ap (λ j. pruning shows j c log) e ∙ ap (pruning_at (pruning shows m) c log) s.is
          ∙ ends-at shows m c log p.node p.further_is;
      read = ap (λ l. l.read) s.log_is;
      made = ap (λ l. l.made) s.log_is;
      stay_is = refl;
    }

pub look-goes : (shows : List ℕ → Option Shape) (k m : ℕ) (c b : List ℕ) (log now : Log) → k ≡ suc m
    → IsLooked shows c log (Some b) now → pruning shows k c log ≡ pruning shows m b now
look-goes shows k m c b log now e p =
    let s = was-shown c (shows c) p.node log now p.shown in
    ap (λ j. pruning shows j c log) e ∙ ap (pruning_at (pruning shows m) c log) s.is
    ∙ goes-on shows m c b log p.node p.further_is ∙ ap (pruning shows m b) (sym s.log_is)

-- ---- what the code does for it

pub top-of : (answer other : Step Top) (root : List ℕ) (stay : ℕ) (now : Log) → answer ≡ other
    → IsTop other root stay now → IsTop answer root stay now
top-of answer other root stay now e t = record {
  left = t.left;
  next = t.next;
  is = e ∙ t.is;
  read = t.read;
  made = t.made;
  stay_is = t.stay_is;
}

pub ended : (answer : Step Top) (root : List ℕ) (stay gone : ℕ) (now : Log) → IsTop answer root stay now
    → gone ≡ length now.read - stay → IsEnded answer root gone now
ended answer root stay gone now t g =
    let a = ap length t.read in
    let b = length-append t.next.read t.left in
    let c = t.stay_is in
    record {
      left = t.left;
      next = t.next;
      is = t.is;
      read = t.read;
      made = t.made;
      gone_is = omega arith;
    }
