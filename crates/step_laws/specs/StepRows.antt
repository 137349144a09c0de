-- Rows worked by hand, over a digest that gives a key the layer of its last digit. One root is that of no pairs: below a key that
-- came hangs the whole old tree, also what stands before the key. Undone, the old root comes out; done, another root does.
use Rattle.std.specs.Prelude.{◌≡◌, ℕ, List, [], ◌∷◌, codes, Some, None, Ok, Err}
use Rattle.spec.specs.Tree.{Pair}
use Rattle.spec.specs.NodeFormat.{Shape, shape_bytes, shape_cid}
use Rattle.spec.specs.Blocks.{nodes, root}
use Rattle.change_laws.specs.Given.{BlockMissing, OtherValue, OtherRoot}
use Rattle.change_laws.specs.Verdict.{change_verdict}
use Rattle.change_laws.specs.Rows.{record_cid, node_with, old_pairs, new_pairs, put_b, put_between}
use Rattle.step_laws.specs.Step.{step_verdict}
use Rattle.step_laws.specs.Chain.{Step, steps_verdict}

abbrev pub around : (List ℕ → List ℕ) → List Pair
around digest = (codes "a/b0", record_cid digest 3) ∷ (codes "a/d0", record_cid digest 3) ∷ []

-- a top with the key that came, and behind it the whole tree that was
abbrev pub lost : (List ℕ → List ℕ) → Shape
lost digest = node_with digest None (codes "a/c1") (Some (root digest 2 (around digest)))

abbrev pub given_lost : (List ℕ → List ℕ) → List (List ℕ)
given_lost digest = shape_bytes (lost digest) ∷ nodes digest 2 (around digest)

-- a put, shown by the nodes before it
abbrev pub first_step : (List ℕ → List ℕ) → Step
first_step digest = record {
  after = root digest 2 (new_pairs digest);
  given = nodes digest 2 (old_pairs digest);
  changes = put_b digest 1 ∷ [];
}

-- and the key gone again
abbrev pub second_step : (List ℕ → List ℕ) → Step
second_step digest = record {
  after = root digest 2 (old_pairs digest);
  given = nodes digest 2 (new_pairs digest);
  changes = record { key = codes "a/b0"; before = Some (record_cid digest 1); after = None } ∷ [];
}

pub record AreStepRows (digest : List ℕ → List ℕ) : Type 0 where
  -- what the way back lets pass a step refuses
  pub passed : change_verdict digest 2 (root digest 2 (around digest)) (shape_cid digest (lost digest)) (given_lost digest)
      (put_between digest ∷ []) ≡ Ok tt
  pub refused : step_verdict digest 2 (root digest 2 (around digest)) (shape_cid digest (lost digest)) (given_lost digest)
      (put_between digest ∷ []) ≡ Err OtherRoot
  -- a put is shown by the nodes before it; the root before is missing where nothing is given; and another value before is told
  pub shown : step_verdict digest 2 (root digest 2 (old_pairs digest)) (root digest 2 (new_pairs digest))
      (nodes digest 2 (old_pairs digest)) (put_b digest 1 ∷ []) ≡ Ok tt
  pub missing : step_verdict digest 2 (root digest 2 (old_pairs digest)) (root digest 2 (new_pairs digest)) []
      (put_b digest 1 ∷ []) ≡ Err (BlockMissing (root digest 2 (old_pairs digest)))
  pub other_value : step_verdict digest 2 (root digest 2 (new_pairs digest)) (root digest 2 (new_pairs digest))
      (nodes digest 2 (new_pairs digest)) (put_b digest 1 ∷ []) ≡ Err (OtherValue 0)
  -- two steps lead back to where they began
  pub two : steps_verdict digest 2 (root digest 2 (old_pairs digest)) (first_step digest ∷ second_step digest ∷ []) ≡ Ok tt
