-- How the lanes follow their messages, block by block.
use Rattle.std.proofs.Common.{◌≡◌, ℕ, ◌<◌, ◌≤◌, ◌+◌, List, [], ◌∷◌, length, nat_eq, slice_index_or, if◌then◌else◌, inl, inr, arith, refl, sym, ap, ◌∙◌}
use Rattle.std.proofs.lemmas.Bool.{cases_eq, eq-eqb, ne_eqb}
use Rattle.sha2.specs.Sha256.{compress, digest_bytes, hash_after, initial_hash_256, padded_message, sha256}
use Rattle.sha2.proofs.Absorbing256.{hash_after_next}
use Rattle.sha256_lanes.specs.Blocks.{block, block_count, hash_at}

-- one block more
pub next_block : (m v w b : List ℕ) (i : ℕ) → (i < block_count m → b ≡ block m i) → w ≡ compress v b
    → i < block_count m → v ≡ hash_at m i → w ≡ hash_at m (i + 1)
next_block m v w b i is e h held =
    e ∙ ap (λ (z : List ℕ). compress z b) held ∙ ap (compress (hash_at m i)) (is h) ∙ sym (hash_after_next initial_hash_256 (padded_message m) i)

-- the digest is the hash value after the last block
pub digest_is : (m : List ℕ) → digest_bytes (hash_at m (block_count m)) 8 ≡ sha256 m
unfolding sha256
digest_is m = refl

below_or : (k n : ℕ) → (k ≡ n + 1 → ⊥) → k ≤ n + 1 → k ≤ n
below_or k n a h = omega arith

kept_before : (m : List ℕ) (n count : ℕ) → count ≡ block_count m → (count ≡ n + 1 → ⊥) → block_count m ≤ n + 1 → block_count m ≤ n
kept_before m n count is a h = below_or (block_count m) n (λ e. a (is ∙ e)) h

-- a digest that is taken, or stays
pub kept : (m v was now : List ℕ) (n count : ℕ) → count ≡ block_count m
    → now ≡ (if nat_eq count (n + 1) then digest_bytes v 8 else was)
    → (n + 1 ≤ block_count m → v ≡ hash_at m (n + 1)) → (block_count m ≤ n → was ≡ sha256 m)
    → block_count m ≤ n + 1 → now ≡ sha256 m
kept m v was now n count is e hashed before h = elim (cases_eq count (n + 1)) [
  | inl a ↦
      let taken : now ≡ digest_bytes v 8 = rw (eq-eqb count (n + 1) a) at e in
      let at : n + 1 ≡ block_count m = sym a ∙ is in
      taken ∙ ap (λ (z : List ℕ). digest_bytes z 8) (hashed (omega arith)) ∙ ap (λ (k : ℕ). digest_bytes (hash_at m k) 8) at ∙ digest_is m
  | inr a ↦
      let stays : now ≡ was = rw (ne_eqb count (n + 1) a) at e in
      stays ∙ before (kept_before m n count is a h)
]

-- four lists by their places
pub four_of : (xs : List (List ℕ)) (a b c d : List ℕ) → length xs ≡ 4
    → slice_index_or xs 0 [] ≡ a → slice_index_or xs 1 [] ≡ b → slice_index_or xs 2 [] ≡ c → slice_index_or xs 3 [] ≡ d
    → xs ≡ a ∷ b ∷ c ∷ d ∷ []
four_of (x ∷ y ∷ z ∷ w ∷ []) a b c d h ha hb hc hd = cc
four_of [] a b c d h ha hb hc hd = absurd (omega arith)
four_of (x ∷ []) a b c d h ha hb hc hd = absurd (omega arith)
four_of (x ∷ y ∷ []) a b c d h ha hb hc hd = absurd (omega arith)
four_of (x ∷ y ∷ z ∷ []) a b c d h ha hb hc hd = absurd (omega arith)
four_of (x ∷ y ∷ z ∷ w ∷ v ∷ xs) a b c d h ha hb hc hd = absurd (omega arith)

pub first_hash : (m v : List ℕ) → v ≡ initial_hash_256 → v ≡ hash_at m 0
unfolding hash_after
first_hash m v e = e
