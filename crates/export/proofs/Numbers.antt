-- A number's bytes, one after the other.
use Rattle.std.proofs.Common.{◌≡◌, ℕ, zero, suc, ◌+◌, ◌-◌, ◌*◌, ◌/◌, ◌%◌, ◌^◌, ◌<◌, ◌≤◌, false, true, ltb, List, [], ◌∷◌, ◌++◌, arith, refl, sym, ap, ◌∙◌, append_assoc}
use Rattle.std.proofs.lemmas.Bool.{lt-ltb, le-ltb}
use Rattle.spec.specs.Varint.{varint, varint_within}

-- the numbers of at most k bytes are those below this
abbrev pub limit : ℕ → ℕ
limit zero = 1
limit (suc k) = 128 * limit k

within-short : (j n : ℕ) → n < 128 → varint_within (suc j) n ≡ n ∷ []
within-short j n lt = let t : ltb n 128 ≡ true = lt-ltb n 128 lt in rw t refl

within-long : (j n : ℕ) → 128 ≤ n → varint_within (suc j) n ≡ (128 + n % 128) ∷ varint_within j (n / 128)
within-long j n le = let t : ltb n 128 ≡ false = le-ltb n 128 le in rw t refl

-- some bytes of a number, and those of what is left of it in the room that is left
pub record Spells (number : ℕ) (front : List ℕ) (count left : ℕ) : Type 0 where
  pub within : count < 10
  pub small : left < limit (10 - count)
  pub whole : front ++ varint_within (10 - count) left ≡ varint number

pub spells-none : (number : ℕ) → number < 2 ^ 64 → Spells number [] 0 number
spells-none number h = record { within = omega arith; small = omega arith; whole = refl }

more-room : (room left : ℕ) → 0 < room → left < limit room → 128 ≤ left → 1 < room
more-room zero left some small long = absurd (omega arith)
more-room (suc zero) left some small long = absurd (omega arith)
more-room (suc (suc n)) left some small long = omega arith

less : (room left : ℕ) → 1 < room → left < limit room → left / 128 < limit (room - 1)
less zero left some small = absurd (omega arith)
less (suc room) left some small =
    let e : suc room - 1 ≡ room = omega arith in
    rw e (omega arith)

one-more : (room left : ℕ) → 0 < room → 128 ≤ left
    → varint_within room left ≡ (128 + left % 128) ∷ varint_within (room - 1) (left / 128)
one-more zero left some long = absurd (omega arith)
one-more (suc room) left some long =
    let e : suc room - 1 ≡ room = omega arith in
    rw e (within-long room left long)

pub spells-more : (number count left : ℕ) (front new : List ℕ) → Spells number front count left → 128 ≤ left
    → new ≡ front ++ (left % 128 + 128) ∷ [] → Spells number new (count + 1) (left / 128)
spells-more number count left front new s long e =
    let room : 1 < 10 - count = more-room (10 - count) left (let w = s.within in omega arith) s.small long in
    let next : 10 - (count + 1) ≡ 10 - count - 1 = omega arith in
    let byte : left % 128 + 128 ≡ 128 + left % 128 = omega arith in
    record {
      within = omega arith;
      small = rw next (less (10 - count) left room s.small);
      whole = rw next (ap (λ t. t ++ varint_within (10 - count - 1) (left / 128)) e
          ∙ append_assoc front ((left % 128 + 128) ∷ []) (varint_within (10 - count - 1) (left / 128))
          ∙ ap (λ b. front ++ (b ∷ varint_within (10 - count - 1) (left / 128))) byte
          ∙ ap (λ t. front ++ t) (sym (one-more (10 - count) left (omega arith) long)) ∙ s.whole);
    }

last-one : (room left : ℕ) → 0 < room → left < 128 → varint_within room left ≡ left ∷ []
last-one zero left some short = absurd (omega arith)
last-one (suc room) left some short = within-short room left short

pub spells-last : (number count left : ℕ) (front new : List ℕ) → Spells number front count left → left < 128
    → new ≡ front ++ left ∷ [] → new ≡ varint number
spells-last number count left front new s short e =
    e ∙ ap (λ t. front ++ t) (sym (last-one (10 - count) left (let w = s.within in omega arith) short)) ∙ s.whole
