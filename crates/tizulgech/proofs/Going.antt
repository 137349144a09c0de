-- How the links that changes go below are found, one after another.
use Rattle.std.proofs.Common.{◌≡◌, ◌<◌, ◌≤◌, ◌+◌, ◌-◌, ℕ, zero, suc, Bool, true, false, List, ◌++◌, drop, length, slice_index_or, ap, sym, ◌∙◌, arith}
use Rattle.std.specs.Prelude.{Option, Some, None, if◌then◌else◌}
use Rattle.std.proofs.lemmas.List.{append_assoc, append-nil, drop_more}
use Rattle.std.proofs.Math.ListN.{drop_of_length-le}
use Rattle.spec.specs.NodeFormat.{Shape, LastLink, MoreLinks, first_link}
use Rattle.spec.specs.Tree.{Pair}
use Rattle.batch_laws.specs.Batch.{Change}
use Rattle.buffers.specs.Answers.{number_bytes}
use Rattle.tizulgech.specs.Below.{below_bytes, front_of, goes_first, link_bytes}

-- ---- changes at the front

module _ (whole : ℕ) (goes : Bool) (key : List ℕ) (cs : List Change) (i : ℕ) (inv : whole ≡ i + front_of goes key (drop i cs)) where
  pub front_next : (c : Change) → i < length cs → goes_first goes key (slice_index_or cs i c) ≡ true
      → whole ≡ (i + 1) + front_of goes key (drop (i + 1) cs)
  front_next c within is =
      let rest : ℕ = front_of goes key (drop (i + 1) cs) in
      inv ∙ ap (λ (ys : List Change). i + front_of goes key ys) (drop_more cs i c within)
      ∙ ap (λ (b : Bool). i + (if b then suc rest else 0)) is ∙ omega arith

  pub front_stops : (c : Change) → i < length cs → goes_first goes key (slice_index_or cs i c) ≡ false → i ≡ whole
  front_stops c within is =
      let rest : ℕ = front_of goes key (drop (i + 1) cs) in
      sym (inv ∙ ap (λ (ys : List Change). i + front_of goes key ys) (drop_more cs i c within)
      ∙ ap (λ (b : Bool). i + (if b then suc rest else 0)) is ∙ omega arith)

  pub front_done : length cs ≤ i → i ≡ whole
  front_done past = sym (inv ∙ ap (λ (ys : List Change). i + front_of goes key ys) (drop_of_length-le cs past) ∙ omega arith)

-- ---- links

-- one more pair with the link before it
pub below_next : (whole old new : List ℕ) (rest more : Shape) (e : Pair) (place below passed : ℕ) (cs : List Change)
    → rest ≡ MoreLinks (first_link rest) e more → new ≡ old ++ link_bytes (first_link rest) place below
    → below ≡ front_of true e.0 (drop place cs) → passed ≡ front_of false e.0 (drop place cs)
    → whole ≡ old ++ below_bytes rest place cs → whole ≡ new ++ below_bytes more (place + passed) cs
below_next whole old new rest more e place below passed cs is put of_below of_passed inv =
    let link : Option (List ℕ) = first_link rest in
    inv ∙ ap (λ (s : Shape). old ++ below_bytes s place cs) is
    ∙ ap (λ (n : ℕ). old ++ (link_bytes link place n ++ below_bytes more (place + front_of false e.0 (drop place cs)) cs)) (sym of_below)
    ∙ ap (λ (n : ℕ). old ++ (link_bytes link place below ++ below_bytes more (place + n) cs)) (sym of_passed)
    ∙ sym (append_assoc old (link_bytes link place below) (below_bytes more (place + passed) cs))
    ∙ ap (λ (front : List ℕ). front ++ below_bytes more (place + passed) cs) (sym put)

-- the last link
pub below_done : (whole old new : List ℕ) (rest : Shape) (place below : ℕ) (cs : List Change)
    → rest ≡ LastLink (first_link rest) → new ≡ old ++ link_bytes (first_link rest) place below → below ≡ length cs - place
    → whole ≡ old ++ below_bytes rest place cs → new ≡ whole
below_done whole old new rest place below cs is put of_below inv =
    put ∙ ap (λ (n : ℕ). old ++ link_bytes (first_link rest) place n) of_below
    ∙ ap (λ (s : Shape). old ++ below_bytes s place cs) (sym is) ∙ sym inv

-- ---- a link, spelt

pub link_none : (link : Option (List ℕ)) (old : List ℕ) (first count : ℕ) → count < 1 → old ≡ old ++ link_bytes link first count
link_none None old first count none = sym (append-nil old)
link_none (Some c) old first zero none = sym (append-nil old)
link_none (Some c) old first (suc n) none = absurd (omega (arith, none))

pub link_spelt : (link : Option (List ℕ)) (cid old mid new : List ℕ) (first count : ℕ) → link ≡ Some cid → 1 ≤ count → mid ≡ old ++ cid
    → new ≡ mid ++ (number_bytes first ++ number_bytes count) → new ≡ old ++ link_bytes link first count
link_spelt None cid old mid new first count is some front whole = absurd cc
link_spelt (Some c) cid old mid new first zero is some front whole = absurd (omega (arith, some))
link_spelt (Some c) cid old mid new first (suc n) is some front whole =
    let tail : List ℕ = number_bytes first ++ number_bytes (suc n) in
    let same : cid ≡ c = cc in
    whole ∙ ap (λ (m : List ℕ). m ++ tail) front ∙ append_assoc old cid tail ∙ ap (λ (d : List ℕ). old ++ (d ++ tail)) same
