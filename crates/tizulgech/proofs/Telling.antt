-- How changes are read beside one another, and what is told of them.
use Rattle.std.proofs.Common.{◌≡◌, ◌<◌, ◌≤◌, ◌+◌, ℕ, List, [], ◌∷◌, ◌++◌, drop, length, slice_index_or, refl, ap, sym, subst, ◌∙◌, false, true, Bool}
use Rattle.std.specs.Prelude.{Option, Some, None, Result, Ok, Err, nat_eq, if◌then◌else◌}
use Rattle.std.proofs.lemmas.List.{append_assoc, append-nil, drop_more}
use Rattle.std.proofs.Math.ListN.{drop_of_length-le}
use Rattle.batch_laws.specs.Batch.{Change}
use Rattle.key_changes.specs.Keyed.{are_changes}
use Rattle.change_laws.specs.Told.{KeyChange, undone}
use Rattle.change_laws.specs.Given.{ChangeFault as GivenFault, OtherValue as HasOtherValue}
use Rattle.sha2.specs.Sha256.{sha256}
use Rattle.spec.specs.Tree.{Pair}
use Rattle.spec.specs.Blocks.{pairs}
use Rattle.spec.specs.States.{State, records}
use Rattle.change_laws.specs.Laws.{change_path}
use Rattle.change_proofs.specs.Provings.{AreNodes, IsUntrue, told_by}
use Rattle.change_proofs.specs.StepProvings.{IsStepOf}
use Rattle.change_proofs.specs.declared.proving_fault.ProvingFault.TheVariants as provings
use Rattle.buffers.specs.Answers.{IsHanded, parts_bytes}
use Rattle.buffers.specs.Framing.{cid_or_none_at, with_values}
use Rattle.tizulgech.specs.declared.verdicts.Direction.{Direction}
use Rattle.tizulgech.specs.Changing.{allowed, both_told, paired_changes, told_of, proof_bytes, IsStepProven, IsStepProvenOf, IsStepSpelt, IsVerdictOver, IsVerified}
use Rattle.tizulgech.specs.Inverting.{IsProven, IsProvenBy, IsProvenOf, IsSpelt}

-- one more change behind the others
pub told_next : (whole old new : List KeyChange) (c : KeyChange) (bs rest : List Change) (i : ℕ) (b a : Change)
    → i < length bs → i < length rest → new ≡ old ++ c ∷ []
    → c ≡ record { key = (slice_index_or bs i b).0; before = (slice_index_or bs i b).1; after = (slice_index_or rest i a).1 }
    → whole ≡ old ++ paired_changes (drop i bs) (drop i rest) → whole ≡ new ++ paired_changes (drop (i + 1) bs) (drop (i + 1) rest)
told_next whole old new c bs rest i b a in_bs in_rest put is inv =
    let one : KeyChange = record { key = (slice_index_or bs i b).0; before = (slice_index_or bs i b).1; after = (slice_index_or rest i a).1 } in
    let more : List KeyChange = paired_changes (drop (i + 1) bs) (drop (i + 1) rest) in
    inv ∙ ap (λ (xs : List Change). old ++ paired_changes xs (drop i rest)) (drop_more bs i b in_bs)
    ∙ ap (λ (ys : List Change). old ++ paired_changes (slice_index_or bs i b ∷ drop (i + 1) bs) ys) (drop_more rest i a in_rest)
    ∙ sym (append_assoc old (one ∷ []) more)
    ∙ ap (λ (x : KeyChange). (old ++ x ∷ []) ++ more) (sym is)
    ∙ ap (λ (front : List KeyChange). front ++ more) (sym put)

-- where there are no more
pub told_done : (whole old : List KeyChange) (bs rest : List Change) (i : ℕ) → length bs ≤ i
    → whole ≡ old ++ paired_changes (drop i bs) (drop i rest) → old ≡ whole
told_done whole old bs rest i past inv =
    sym (inv ∙ ap (λ (xs : List Change). old ++ paired_changes xs (drop i rest)) (drop_of_length-le bs past) ∙ append-nil old)

-- ---- where keys, or values beside them, are none

pub no_keys : (keys : Option (List (List ℕ))) (befores afters : List ℕ) → None ≡ keys → None ≡ both_told keys befores afters
no_keys keys befores afters e = ap (λ (k : Option (List (List ℕ))). both_told k befores afters) e

pub no_befores : (keys : Option (List (List ℕ))) (parts : List (List ℕ)) (befores afters : List ℕ) → Some parts ≡ keys
    → None ≡ with_values cid_or_none_at parts befores → None ≡ both_told keys befores afters
no_befores keys parts befores afters e n =
    ap (λ (b : Option (List Change)). told_of b (with_values cid_or_none_at parts afters)) n
    ∙ ap (λ (k : Option (List (List ℕ))). both_told k befores afters) e

pub no_afters : (keys : Option (List (List ℕ))) (parts : List (List ℕ)) (befores afters : List ℕ) (bs : List Change) → Some parts ≡ keys
    → Some bs ≡ with_values cid_or_none_at parts befores → None ≡ with_values cid_or_none_at parts afters → None ≡ both_told keys befores afters
no_afters keys parts befores afters bs e b n =
    ap (told_of (Some bs)) n ∙ ap (λ (x : Option (List Change)). told_of x (with_values cid_or_none_at parts afters)) b
    ∙ ap (λ (k : Option (List (List ℕ))). both_told k befores afters) e

pub uneven : (keys : Option (List (List ℕ))) (parts : List (List ℕ)) (befores afters : List ℕ) (bs rest : List Change) → Some parts ≡ keys
    → Some bs ≡ with_values cid_or_none_at parts befores → Some rest ≡ with_values cid_or_none_at parts afters
    → nat_eq (length bs) (length rest) ≡ false → None ≡ both_told keys befores afters
uneven keys parts befores afters bs rest e b a n =
    sym (ap (λ (t : Bool). if t then Some (paired_changes bs rest) else None) n)
    ∙ ap (told_of (Some bs)) a ∙ ap (λ (x : Option (List Change)). told_of x (with_values cid_or_none_at parts afters)) b
    ∙ ap (λ (k : Option (List (List ℕ))). both_told k befores afters) e

pub even : (keys : Option (List (List ℕ))) (parts : List (List ℕ)) (befores afters : List ℕ) (bs rest : List Change) (cs : List KeyChange)
    → Some parts ≡ keys
    → Some bs ≡ with_values cid_or_none_at parts befores → Some rest ≡ with_values cid_or_none_at parts afters
    → nat_eq (length bs) (length rest) ≡ true → cs ≡ paired_changes bs rest → Some cs ≡ both_told keys befores afters
even keys parts befores afters bs rest cs e b a n is =
    ap Some is ∙ sym (ap (λ (t : Bool). if t then Some (paired_changes bs rest) else None) n)
    ∙ ap (told_of (Some bs)) a ∙ ap (λ (x : Option (List Change)). told_of x (with_values cid_or_none_at parts afters)) b
    ∙ ap (λ (k : Option (List (List ℕ))). both_told k befores afters) e

-- ---- where a verdict takes them, or doesn't

pub none_allowed : (told : Option (List KeyChange)) → None ≡ told → None ≡ allowed told
none_allowed told e = ap allowed e

pub is_allowed : (told : Option (List KeyChange)) (cs : List KeyChange) → Some cs ≡ told → are_changes (undone cs) ≡ true → Some cs ≡ allowed told
is_allowed o cs e is = sym (ap (λ (t : Bool). if t then Some cs else None) is) ∙ ap allowed e

pub not_allowed : (told : Option (List KeyChange)) (cs : List KeyChange) → Some cs ≡ told → are_changes (undone cs) ≡ false → None ≡ allowed told
not_allowed o cs e isnt = sym (ap (λ (t : Bool). if t then Some cs else None) isnt) ∙ ap allowed e

-- where the arguments of a verdict are there
pub verified : (direction : Direction) (code : ℕ) (missing : List ℕ) (place : ℕ) (nodes : List (List ℕ)) (before after : List ℕ)
    (cs : List KeyChange) (n : Option (List (List ℕ))) (b a : Option (List ℕ)) (c : Option (List KeyChange))
    → Some nodes ≡ n → Some before ≡ b → Some after ≡ a → Some cs ≡ c
    → IsVerdictOver direction code missing place nodes before after cs → IsVerified direction code missing place n b a c
verified direction code missing place nodes before after cs n b a c is_n is_b is_a is_c h =
    subst (λ x. IsVerified direction code missing place x b a c) is_n
    (subst (λ x. IsVerified direction code missing place (Some nodes) x a c) is_b
    (subst (λ x. IsVerified direction code missing place (Some nodes) (Some before) x c) is_a
    (subst (λ x. IsVerified direction code missing place (Some nodes) (Some before) (Some after) x) is_c h)))

-- where the changes of a proof are there
pub step_of : (code : ℕ) (before room : List ℕ) (size : ℕ) (s : State) (cs : List Change) (c : Option (List Change))
    → Some cs ≡ c → IsStepProvenOf code before room size s cs → IsStepProven code before room size s c
step_of code before room size s cs c is h = subst (IsStepProven code before room size s) is h

pub no_step : (code : ℕ) (before room : List ℕ) (size : ℕ) (s : State) (c : Option (List Change)) → None ≡ c → code ≡ 252
    → IsStepProven code before room size s c
no_step code before room size s c is h = subst (IsStepProven code before room size s) is h

-- a proof, spelt
pub step_spelt : (s t : State) (cs : List Change) (after : List ℕ) (told : List KeyChange) (nodes : List (List ℕ)) (bytes : List ℕ)
    → t ≡ s → IsStepOf sha256 2 cs (pairs sha256 (records t)) after told nodes → bytes ≡ proof_bytes after told nodes → IsStepSpelt s cs bytes
step_spelt s t cs after told nodes bytes same step is = record {
  after = after;
  told = told;
  nodes = nodes;
  step = subst (λ (u : State). IsStepOf sha256 2 cs (pairs sha256 (records u)) after told nodes) same step;
  bytes_are = is;
}

-- ---- proofs of changes that are undone

-- where each key has what is told
pub proven : (test : Result (Unit {0}) GivenFault) (code place : ℕ) (before room bytes : List ℕ) (size : ℕ) (path : List (List ℕ))
    → test ≡ Ok tt → bytes ≡ parts_bytes path → IsHanded code bytes before room size → IsProvenBy test code place before room size path
proven test code place before room bytes size path is same h =
    subst (λ t. IsProvenBy t code place before room size path) (sym is) (subst (λ (b : List ℕ). IsHanded code b before room size) same h)

-- where one hasn't
pub other : (test : Result (Unit {0}) GivenFault) (code place : ℕ) (before room : List ℕ) (size : ℕ) (path : List (List ℕ))
    → test ≡ Err (HasOtherValue place) → code ≡ 33 → IsProvenBy test code place before room size path
other test code place before room size path is e =
    subst (λ t. IsProvenBy t code place before room size path) (sym is) (e, refl)

-- where the changes that are to be proved are there
pub proven_of : (code place : ℕ) (before room : List ℕ) (size : ℕ) (s : State) (cs : List KeyChange) (c : Option (List KeyChange))
    → Some cs ≡ c → IsProvenOf code place before room size s cs → IsProven code place before room size s c
proven_of code place before room size s cs c is h = subst (IsProven code place before room size s) is h

-- the nodes of a proof, spelt
pub spelt : (s t : State) (cs : List KeyChange) (nodes : List (List ℕ)) (bytes : List ℕ) → t ≡ s
    → AreNodes sha256 2 cs (pairs sha256 (records t)) nodes → bytes ≡ parts_bytes nodes → IsSpelt s cs bytes
spelt s t cs nodes bytes same are is = record {
  told_is = subst (λ (u : State). told_by (pairs sha256 (records u)) cs ≡ Ok tt) same are.told;
  bytes_are = is ∙ ap parts_bytes (are.nodes_are ∙ ap (λ (u : State). change_path sha256 2 cs (pairs sha256 (records u))) same);
}

pub proven_told : (code place : ℕ) (before room bytes : List ℕ) (size : ℕ) (s : State) (cs : List KeyChange) → IsSpelt s cs bytes
    → IsHanded code bytes before room size → IsProvenOf code place before room size s cs
proven_told code place before room bytes size s cs are h =
    let es : List Pair = pairs sha256 (records s) in
    proven (told_by es cs) code place before room bytes size (change_path sha256 2 cs es) are.told_is are.bytes_are h

pub other_told : (code place at : ℕ) (before room : List ℕ) (size : ℕ) (s : State) (cs : List KeyChange)
    → IsUntrue sha256 s cs (provings.OtherValue at) → place ≡ at → code ≡ 33 → IsProvenOf code place before room size s cs
other_told code place at before room size s cs h is e =
    let es : List Pair = pairs sha256 (records s) in
    other (told_by es cs) code place before room size (change_path sha256 2 cs es) (h ∙ ap (λ (i : ℕ). Err (HasOtherValue i)) (sym is)) e
