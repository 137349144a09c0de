-- A message of equal parts is the same.
use Rattle.std.proofs.Common.{◌≡◌, ℕ, List, Option, ap, ◌∙◌}
use Rattle.change_laws.specs.Told.{KeyChange}
use Rattle.event_laws.specs.Events.{Event}

abbrev pub made : ℕ → List ℕ → List ℕ → List ℕ → Option (List ℕ) → List ℕ → List KeyChange → List ℕ → List ℕ → Event
made seq did commit rev since blocks ops time before = record {
  seq = seq;
  did = did;
  commit = commit;
  rev = rev;
  since = since;
  blocks = blocks;
  ops = ops;
  time = time;
  before = before;
}

pub made-same : (seq : ℕ) (blocks did did2 commit commit2 rev rev2 : List ℕ) (since since2 : Option (List ℕ))
    (ops ops2 : List KeyChange) (time time2 before before2 : List ℕ) → did ≡ did2 → commit ≡ commit2 → rev ≡ rev2 → since ≡ since2
    → ops ≡ ops2 → time ≡ time2 → before ≡ before2
    → made seq did commit rev since blocks ops time before ≡ made seq did2 commit2 rev2 since2 blocks ops2 time2 before2
made-same seq blocks did did2 commit commit2 rev rev2 since since2 ops ops2 time time2 before before2 a b c d e f h =
    ap (λ (x : List ℕ). made seq x commit rev since blocks ops time before) a
    ∙ ap (λ (x : List ℕ). made seq did2 x rev since blocks ops time before) b
    ∙ ap (λ (x : List ℕ). made seq did2 commit2 x since blocks ops time before) c
    ∙ ap (λ (x : Option (List ℕ)). made seq did2 commit2 rev2 x blocks ops time before) d
    ∙ ap (λ (x : List KeyChange). made seq did2 commit2 rev2 since2 blocks x time before) e
    ∙ ap (λ (x : List ℕ). made seq did2 commit2 rev2 since2 blocks ops2 x before) f
    ∙ ap (λ (x : List ℕ). made seq did2 commit2 rev2 since2 blocks ops2 time2 x) h
