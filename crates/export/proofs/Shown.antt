-- What a proof shows of the lists of pairs with its root.
use Rattle.std.proofs.Common.{◌≡◌, sym, ap, ◌∙◌, subst, ◌+◌, ◌/◌, ℕ, List, length, Option, Result, Ok, Err, true, false, Contains}
use Rattle.std.specs.Prelude.{IfOk}
use Rattle.spec.specs.Reading.{◌>>=◌, ensure, Gives, Fails}
use Rattle.spec.specs.Tree.{Pair}
use Rattle.spec.specs.NodeFormat.{is_key}
use Rattle.spec.specs.Blocks.{ArePairs, ClashesWithNone, value_of, nodes, root}
use Rattle.spec.specs.Proof.{path, verified, verified_within, KeyLength}
use Rattle.spec.specs.Proof as proof
use Rattle.spec.proofs.VerifyLaws.{verifier-sound, verifier-complete}
use Rattle.spec.proofs.Taking.{ok_is}
use Rattle.node.specs.declared.fault.NodeFault.TheVariants as nodes_faults
use Rattle.export.specs.declared.proof_fault.ProofFault.{ProofFault}
use Rattle.export.specs.declared.proof_fault.ProofFault.TheVariants as errors
use Rattle.export.specs.Faults.{proof_fault_of}

-- a key of another length is refused
pub refused : (digest : List ℕ → List ℕ) (bits : ℕ) (c : List ℕ) (given : List (List ℕ)) (key : List ℕ) → is_key key ≡ false
    → verified digest bits c given key ≡ Err KeyLength
unfolding verified
refused digest bits c given key bad = ap (λ b. ensure b KeyLength >>= (λ ok. verified_within (256 / bits + 1) digest given key c)) bad

-- any other is looked up
pub looked_up : (digest : List ℕ → List ℕ) (bits : ℕ) (c : List ℕ) (given : List (List ℕ)) (key : List ℕ) → is_key key ≡ true
    → verified digest bits c given key ≡ verified_within (256 / bits + 1) digest given key c
unfolding verified
looked_up digest bits c given key good = ap (λ b. ensure b KeyLength >>= (λ ok. verified_within (256 / bits + 1) digest given key c)) good

-- an answer is the key's value
pub shown_right : (digest : List ℕ → List ℕ) (bits : ℕ) → ((bytes : List ℕ) → length (digest bytes) ≡ 32) → (c : List ℕ) (given : List (List ℕ)) (key : List ℕ)
    (r : Result (Option (List ℕ)) ProofFault) → Gives (λ x. x) proof_fault_of r (verified digest bits c given key)
    → (es : List Pair) → ArePairs es → c ≡ root digest bits es → ClashesWithNone digest (nodes digest bits es) given → IfOk r (λ x. value_of key es ≡ x)
shown_right digest bits fits c given key (Ok x) answer es are is free =
    verifier-sound digest bits fits es are given free key x (ap (λ d. verified digest bits d given key) (sym is) ∙ answer)
shown_right digest bits fits c given key (Err f) answer es are is free = tt

err_is_none : {A E : Type 0} (r : Result A E) (f : E) (x : A) → r ≡ Err f → r ≡ Ok x → ⊥
err_is_none r f x bad good = subst (λ s. IfOk s (λ y. ⊥)) (sym bad ∙ good) tt

no_fault : (f : ProofFault) (r : Result (Option (List ℕ)) proof.ProofFault) (x : Option (List ℕ)) → Fails (proof_fault_of f) r → r ≡ Ok x → ⊥
no_fault errors.BlockMissing r x bad good = err_is_none r _ x bad good
no_fault (errors.BadNode nodes_faults.NotNode) r x bad good = err_is_none r _ x bad good
no_fault (errors.BadNode nodes_faults.BadPrefix) r x bad good = err_is_none r _ x bad good
no_fault (errors.BadNode nodes_faults.KeyOrder) r x bad good = err_is_none r _ x bad good
no_fault (errors.BadNode nodes_faults.KeyLength) r x bad good = err_is_none r _ x bad good
no_fault errors.TooDeep r x bad good = err_is_none r _ x bad good
no_fault errors.KeyLength r x bad good = err_is_none r _ x bad good

answer_is : (r : Result (Option (List ℕ)) ProofFault) (s : Result (Option (List ℕ)) proof.ProofFault) (x : Option (List ℕ))
    → Gives (λ v. v) proof_fault_of r s → s ≡ Ok x → r ≡ Ok x
answer_is (Ok v) s x answer good = ap Ok (ok_is proof.ProofFault v x (sym answer ∙ good))
answer_is (Err f) s x answer good = absurd (no_fault f s x answer good)

-- with the key's path there is one
pub shown_all : (digest : List ℕ → List ℕ) (bits : ℕ) → ((bytes : List ℕ) → length (digest bytes) ≡ 32) → (c : List ℕ) (given : List (List ℕ)) (key : List ℕ)
    (r : Result (Option (List ℕ)) ProofFault) → Gives (λ x. x) proof_fault_of r (verified digest bits c given key)
    → (es : List Pair) → ArePairs es → c ≡ root digest bits es → ClashesWithNone digest (nodes digest bits es) given → is_key key ≡ true
    → ((b : List ℕ) → Contains (path digest bits es key) b → Contains given b) → r ≡ Ok (value_of key es)
shown_all digest bits fits c given key r answer es are is free good has =
    answer_is r (verified digest bits c given key) (value_of key es) answer
    (ap (λ d. verified digest bits d given key) is ∙ verifier-complete digest bits fits es are given free key good has)
