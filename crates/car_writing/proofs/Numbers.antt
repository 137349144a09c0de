-- A number's bytes, one after the other.
use Rattle.std.proofs.Common.{◌≡◌, ℕ, zero, suc, ◌+◌, ◌*◌, ◌/◌, ◌%◌, ◌^◌, ◌<◌, ◌≤◌, false, true, ltb, List, [], ◌∷◌, ◌++◌, arith, refl, sym, ap, ◌∙◌, append_assoc}
use Rattle.std.proofs.lemmas.Bool.{lt-ltb, le-ltb}
use Rattle.spec.specs.Varint.{varint, varint_within}

-- the numbers of at most k bytes are those below this
abbrev pub limit : ℕ → ℕ
limit zero = 1
limit (suc k) = 128 * limit k

within-short : (j n : ℕ) → n < 128 → varint_within (suc j) n ≡ n ∷ []
within-short j n lt = let t : ltb n 128 ≡ true = lt-ltb n 128 lt in rw t refl

within-long : (j n : ℕ) → 128 ≤ n → varint_within (suc j) n ≡ (128 + n % 128) ∷ varint_within j (n / 128)
within-long j n le = let t : ltb n 128 ≡ false = le-ltb n 128 le in rw t refl

-- these bytes, and those of what is left of a number in some room, are this whole
pub record Spells (front : List ℕ) (left : ℕ) (whole : List ℕ) : Type 0 where
  pub room : ℕ
  pub small : left < limit (suc room)
  pub is : front ++ varint_within (suc room) left ≡ whole

pub spells-none : (front : List ℕ) (number : ℕ) → number < 2 ^ 64 → Spells front number (front ++ varint number)
spells-none front number h = record { room = 9; small = omega arith; is = refl }

with-room : (front : List ℕ) (left : ℕ) (whole new : List ℕ) (room : ℕ) → left < limit (suc room) → front ++ varint_within (suc room) left ≡ whole
    → 128 ≤ left → new ≡ front ++ (left % 128 + 128) ∷ [] → Spells new (left / 128) whole
with-room front left whole new zero small is long e = absurd (omega arith)
with-room front left whole new (suc n) small is long e =
    let byte : left % 128 + 128 ≡ 128 + left % 128 = omega arith in
    record {
      room = n;
      small = omega arith;
      is = ap (λ t. t ++ varint_within (suc n) (left / 128)) e
          ∙ append_assoc front ((left % 128 + 128) ∷ []) (varint_within (suc n) (left / 128))
          ∙ ap (λ b. front ++ (b ∷ varint_within (suc n) (left / 128))) byte
          ∙ ap (λ t. front ++ t) (sym (within-long (suc n) left long)) ∙ is;
    }

pub spells-more : (front : List ℕ) (left : ℕ) (whole new : List ℕ) → Spells front left whole → 128 ≤ left
    → new ≡ front ++ (left % 128 + 128) ∷ [] → Spells new (left / 128) whole
spells-more front left whole new s long e = with-room front left whole new s.room s.small s.is long e

pub spells-last : (front : List ℕ) (left : ℕ) (whole new : List ℕ) → Spells front left whole → left < 128
    → new ≡ front ++ left ∷ [] → new ≡ whole
spells-last front left whole new s short e = e ∙ ap (λ t. front ++ t) (sym (within-short s.room left short)) ∙ s.is
