-- Whether a file is an export doesn't depend on the order of its sections.
use Rattle.std.proofs.Common.{◌≡◌, ℕ, zero, suc, ◌<◌, Bool, true, false, cond, List, [], ◌∷◌, length, get_or, Some, refl, sym, ap, subst, ◌∙◌, arith}
use Rattle.std.specs.Prelude.{Contains, IsPermutation, option_map}
use Rattle.std.specs.List.{AllByRecursion}
use Rattle.std.specs.Str.{bytes_eq}
use Rattle.std.proofs.lemmas.List.Elements.{All-contains_itself}
use Rattle.std.proofs.lemmas.List.Sorted.{Contains-permutation, IsPermutation-sym}
use Rattle.std.proofs.lemmas.List.Sums.{AllPass-from_list_all, list_all-from_AllPass}
use Rattle.std.proofs.lemmas.Slice.Eq.{bytes_eq-Decides}
use Rattle.spec.specs.Cid.{cid}
use Rattle.spec.specs.Blocks.{IsClashFree}
use Rattle.spec.specs.CarReading.{Section, IsSection, blocks_of, car_bytes, are_named, is_named, section_with, block_with}
use Rattle.spec.specs.SignedCommits.{signed_bytes}
use Rattle.spec.specs.Exports.{given_by}
use Rattle.spec.specs.Laws.Exports.{ExportHasNoOrder}
use Rattle.spec.proofs.BlockLaws.{All-Contains}
use Rattle.spec.proofs.CarLaws.{car-reads_back}
use Rattle.export_laws.proofs.OfOne.{read-as, same-reading}

in-first : {X : Type 0} (x : X) (xs : List X) → Contains (x ∷ xs) x
in-first x xs = (0, omega arith, refl)

in-rest : {X : Type 0} (y x : X) (xs : List X) → Contains xs x → Contains (y ∷ xs) x
in-rest y x xs c = let lt : c.0 < length xs = c.1 in (suc c.0, omega arith, c.2)

-- ---- each element, by recursion and by its place

at-each : {X : Type 0} (P : X → Type 0) (xs : List X) (x : X) (i : ℕ) → AllByRecursion P xs → i < length xs → get_or xs i x ≡ x → P x
at-each P [] x i all lt is = absurd (omega arith)
at-each P (y ∷ ys) x zero all lt is = subst P is all.0
at-each P (y ∷ ys) x (suc i) all lt is = at-each P ys x i all.1 (omega arith) is

pub by-recursion : {X : Type 0} (P : X → Type 0) (xs : List X) → ((x : X) → Contains xs x → P x) → AllByRecursion P xs
by-recursion P [] h = tt
by-recursion P (x ∷ xs) h = (h x (in-first x xs), by-recursion P xs (λ y c. h y (in-rest x y xs c)))

-- ---- what a list of sections gives

-- a section with this CID and this block
record Has (ss : List Section) (c b : List ℕ) : Type 0 where
  section : Section
  among : Contains ss section
  named : section.cid ≡ c
  block : section.block ≡ b

more : (s : Section) (ss : List Section) (c b : List ℕ) → Has ss c b → Has (s ∷ ss) c b
more s ss c b h = record { section = h.section; among = in-rest s h.section ss h.among; named = h.named; block = h.block }

found : (s : Section) (ss : List Section) (c b : List ℕ) (t : Bool) → bytes_eq s.cid c ≡ t
    → option_map (λ s. s.block) (cond t (Some s) (section_with c ss)) ≡ Some b → (block_with c ss ≡ Some b → Has ss c b) → Has (s ∷ ss) c b
found s ss c b true e h rest = record { section = s; among = in-first s ss; named = (bytes_eq-Decides s.cid c).0 e; block = cc }
found s ss c b false e h rest = more s ss c b (rest h)

given-is_there : (ss : List Section) (c b : List ℕ) → block_with c ss ≡ Some b → Has ss c b
given-is_there [] c b e = absurd cc
given-is_there (s ∷ ss) c b e = found s ss c b (bytes_eq s.cid c) refl e (given-is_there ss c b)

-- where one is there, the first one is given
record First (ss : List Section) (c : List ℕ) : Type 0 where
  section : Section
  among : Contains ss section
  named : section.cid ≡ c
  given : block_with c ss ≡ Some section.block

first : (s : Section) (ss : List Section) (c : List ℕ) (t : Bool) → bytes_eq s.cid c ≡ t → (t ≡ false → First ss c) → First (s ∷ ss) c
first s ss c true e rest = record {
  section = s;
  among = in-first s ss;
  named = (bytes_eq-Decides s.cid c).0 e;
  given = ap (λ (t : Bool). option_map (λ s. s.block) (cond t (Some s) (section_with c ss))) e;
}
first s ss c false e rest =
    let r = rest refl in
    record {
      section = r.section;
      among = in-rest s r.section ss r.among;
      named = r.named;
      given = ap (λ (t : Bool). option_map (λ s. s.block) (cond t (Some s) (section_with c ss))) e ∙ r.given;
    }

there-is_given : (ss : List Section) (s : Section) (c : List ℕ) (i : ℕ) → i < length ss → get_or ss i s ≡ s → s.cid ≡ c → First ss c
there-is_given [] s c i lt is named = absurd (omega arith)
there-is_given (x ∷ ss) s c zero lt is named =
    first x ss c (bytes_eq x.cid c) refl
    (λ no. let yes : bytes_eq x.cid c ≡ true = (bytes_eq-Decides x.cid c).1 (ap (λ (y : Section). y.cid) is ∙ named) in absurd cc)
there-is_given (x ∷ ss) s c (suc i) lt is named =
    first x ss c (bytes_eq x.cid c) refl (λ no. there-is_given ss s c i (omega arith) is named)

blocks-contain : (ss : List Section) (s : Section) (i : ℕ) → i < length ss → get_or ss i s ≡ s → Contains (blocks_of ss) s.block
blocks-contain [] s i lt is = absurd (omega arith)
blocks-contain (x ∷ ss) s zero lt is = subst (λ (y : Section). Contains (x.block ∷ blocks_of ss) y.block) is (in-first x.block (blocks_of ss))
blocks-contain (x ∷ ss) s (suc i) lt is = in-rest x.block s.block (blocks_of ss) (blocks-contain ss s i (omega arith) is)

-- ---- another order

module _ (digest : List ℕ → List ℕ) (ss ts : List Section) (free : IsClashFree digest (blocks_of ss)) (named : are_named digest ss ≡ true)
    (perm : IsPermutation ss ts) where
  back : (s : Section) → Contains ts s → Contains ss s
  back s c = Contains-permutation ts ss s (IsPermutation-sym ss ts perm) c

  named-one : (s : Section) → Contains ss s → cid digest s.block ≡ s.cid
  named-one s c =
      (bytes_eq-Decides (cid digest s.block) s.cid).0
      (All-Contains (λ x. is_named digest x ≡ true) ss s (AllPass-from_list_all (is_named digest) ss named) c)

  still-named : are_named digest ts ≡ true
  still-named =
      list_all-from_AllPass (is_named digest) ts
      (λ i d h. (bytes_eq-Decides _ _).1 (named-one (get_or ts i d) (back (get_or ts i d) (All-contains_itself ts i d h))))

  still-given : (c b : List ℕ) → given_by ss c ≡ Some b → given_by ts c ≡ Some b
  still-given c b e =
      let one = given-is_there ss c b e in
      let moved : Contains ts one.section = Contains-permutation ss ts one.section perm one.among in
      let other = there-is_given ts one.section c moved.0 moved.1 moved.2 one.named in
      let among : Contains ss other.section = back other.section other.among in
      let same : other.section.block ≡ one.section.block =
      free other.section.block one.section.block (blocks-contain ss other.section among.0 among.1 among.2)
      (blocks-contain ss one.section one.among.0 one.among.1 one.among.2)
      (named-one other.section among ∙ other.named ∙ sym one.named ∙ sym (named-one one.section one.among)) in
      other.given ∙ ap (λ (x : List ℕ). Some x) (same ∙ one.block)

pub export-no_order : ExportHasNoOrder
export-no_order digest bits root ss ts c m h own lawful free perm p =
    let signed = signed_bytes c in
    let same = same-reading (cid digest signed) root p.sections ss _ (read-as digest bits (car_bytes root ss) c m h p) (car-reads_back root ss own lawful) in
    let named : are_named digest ss ≡ true = subst (λ (xs : List Section). are_named digest xs ≡ true) same.1 p.named in
    let given : (x b : List ℕ) → given_by p.sections x ≡ Some b → given_by ts x ≡ Some b =
    λ x b e. still-given digest ss ts free named perm x b (ap (λ (xs : List Section). given_by xs x) (sym same.1) ∙ e) in
    record {
      sections = ts;
      spelled = ap (λ (r : List ℕ). car_bytes r ts) (sym same.0);
      lawful = by-recursion IsSection ts (λ s k. let b = back digest ss ts free named perm s k in at-each IsSection ss s b.0 lawful b.1 b.2);
      named = still-named digest ss ts free named perm;
      commit = p.commit;
      has_commit = given (cid digest signed) signed p.has_commit;
      pairs_are = p.pairs_are;
      root_is = p.root_is;
      has_nodes = λ b k. given (cid digest b) b (p.has_nodes b k);
      has_records = λ b k. given (cid digest b) b (p.has_records b k);
      keys = p.keys;
      records = p.records;
    }
