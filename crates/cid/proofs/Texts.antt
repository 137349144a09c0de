-- A text of a CID that passes the first tests.
use Rattle.std.proofs.Common.{◌≡◌, ℕ, ◌%◌, ◌-◌, eqb, Bool, true, false, List, length, get_or, take, drop, Result, Ok, Err, arith, cond, refl, subst, sym, ap, ◌∙◌}
use Rattle.std.specs.Prelude.{nat_lt, IfOk}
use Rattle.std.proofs.Common.{length-drop}
use Rattle.std.proofs.lemmas.List.{take_all, get_or-drop, get_or-map}
use Rattle.std.specs.List.{list_all}
use Rattle.std.specs.Str.{bytes_eq}
use Rattle.spec.specs.Reading.{◌>>=◌, ensure, Gives}
use Rattle.spec.proofs.CidTexts.{cid_of_text_takes}
use Rattle.cid.specs.CidFault.{cid_fault_of}
use Rattle.cid.specs.declared.cid_fault.CidFault.{CidFault as Fault}
use Rattle.cid.specs.declared.cid_fault.CidFault.TheVariants.{NotThisProfile as OtherProfile}
use Rattle.spec.specs.Cid.{prefix, is_own_cid, letter_value, BadLetter, BadBits, NotThisProfile, letter_values, bytes_of_text, cid_of_text, text, CidFault}

pub text_bad_letter : (s : List ℕ) → length s ≡ 59 → get_or s 0 0 ≡ 98 → list_all (λ v. nat_lt v 32) (letter_values s) ≡ false → cid_of_text s ≡ Err BadLetter
unfolding cid_of_text
text_bad_letter s size begins fails = rw (size, begins, fails)

pub text_bad_bits : (s : List ℕ) → length s ≡ 59 → get_or s 0 0 ≡ 98 → list_all (λ v. nat_lt v 32) (letter_values s) ≡ true
    → eqb (get_or (letter_values s) 57 0 % 4) 0 ≡ false → cid_of_text s ≡ Err BadBits
unfolding cid_of_text
text_bad_bits s size begins passes bits = rw (size, begins, passes, bits)

-- a last test
ensured : {E A : Type 0} (test : Bool) (fault : E) (x : A) → (ensure test fault >>= (λ passed. Ok x)) ≡ cond test (Ok x) (Err fault)
ensured true fault x = refl
ensured false fault x = refl

pub text_profile : (s : List ℕ) → length s ≡ 59 → get_or s 0 0 ≡ 98 → list_all (λ v. nat_lt v 32) (letter_values s) ≡ true
    → eqb (get_or (letter_values s) 57 0 % 4) 0 ≡ true → cid_of_text s ≡ cond (bytes_eq (take 4 (bytes_of_text s)) prefix) (Ok (bytes_of_text s)) (Err NotThisProfile)
unfolding cid_of_text
text_profile s size begins passes bits =
    rw (size, begins, passes, bits) (ensured (bytes_eq (take 4 (bytes_of_text s)) prefix) NotThisProfile (bytes_of_text s))

-- what a conversion of the bytes gives
pub profile_gives : (test : Bool) (c : List ℕ) (read : Result (List ℕ) CidFault) → read ≡ cond test (Ok c) (Err NotThisProfile)
    → Gives (λ cid. cid) cid_fault_of (cond test (Ok c) (Err OtherProfile)) read
profile_gives true c read e = e
profile_gives false c read e = e

-- the letters after the first
pub tail_is : (s : List ℕ) → length s ≡ 59 → take (length s - 1) (drop 1 s) ≡ drop 1 s
tail_is s size = take_all _ _ (omega (arith, length-drop 1 s))

-- a text that passes the first tests: its bytes decide
pub text_read : (s c : List ℕ) (r : Result (List ℕ) Fault) → length s ≡ 59 → get_or s 0 0 ≡ 98 → list_all (λ v. nat_lt v 32) (letter_values s) ≡ true
    → eqb (get_or (letter_values s) 57 0 % 4) 0 ≡ true → c ≡ bytes_of_text s → r ≡ cond (is_own_cid c) (Ok c) (Err OtherProfile)
    → Gives (λ cid. cid) cid_fault_of r (cid_of_text s)
text_read s c r size begins passes bits is gave =
    let Given : List ℕ → Type 0 = λ x. r ≡ cond (is_own_cid x) (Ok x) (Err OtherProfile) in
    let Read : Result (List ℕ) Fault → Type 0 = λ x. Gives (λ cid. cid) cid_fault_of x (cid_of_text s) in
    let given : r ≡ cond (bytes_eq (take 4 (bytes_of_text s)) prefix) (Ok (bytes_of_text s)) (Err OtherProfile) = subst Given is gave in
    subst Read (sym given) (profile_gives (bytes_eq (take 4 (bytes_of_text s)) prefix) (bytes_of_text s) (cid_of_text s) (text_profile s size begins passes bits))

-- what is read is the text of what it was read as
pub read_text : (s : List ℕ) (r : Result (List ℕ) Fault) → Gives (λ cid. cid) cid_fault_of r (cid_of_text s) → IfOk r (λ cid. s ≡ text cid)
read_text s (Ok c) read = (cid_of_text_takes s c read).0
read_text s (Err f) read = tt

-- the last letter's value
pub last_value : (s : List ℕ) (v : ℕ) → length s ≡ 59 → v ≡ letter_value (get_or s 58 0) → get_or (letter_values s) 57 0 ≡ v
last_value s v size is =
    get_or-map letter_value (drop 1 s) 57 0 0 (omega (arith, length-drop 1 s)) ∙ ap letter_value (get_or-drop 1 s 57 0) ∙ sym is
