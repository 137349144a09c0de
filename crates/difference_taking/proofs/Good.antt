-- The records that lawful writes leave: lawful records under lawful keys.
use Rattle.std.proofs.Common.{◌≡◌, ℕ, Bool, true, false, not, if◌then◌else◌, List, [], ◌∷◌, refl, sym, subst, ◌∙◌, Option, Some, None, Result, Ok, Err}
use Rattle.std.specs.Cmp.Lexicographic.{slice_cmp}
use Rattle.std.specs.Ordering.{nat_cmp}
use Rattle.std.specs.FinMap.{find}
use Rattle.std.specs.Str.{bytes_eq}
use Rattle.std.proofs.lemmas.Slice.Eq.{bytes_eq-Decides}
use Rattle.spec.specs.Reading.{◌>>=◌, ensure}
use Rattle.spec.specs.Keys.{is_repository_key}
use Rattle.spec.specs.Writes.{Write, WriteFault, BadKey, KeyExists, NoSuchKey, Put, Create, Update, Delete, after_write, has_key, is_lawful_from, is_lawful_list, key_of, last_record, leaves, names, passes, record_of, record_test, test_when, write_test}
use Rattle.spec.proofs.Bools.{both}
use Rattle.spec.proofs.WriteLaws.{find-leaves}

abbrev Records : Type 0
Records = List (List ℕ × List ℕ)

-- a lawful record under a lawful key
abbrev pub IsGood : List ℕ → List ℕ → Type 0
IsGood key b = (is_repository_key key ≡ true) × (record_test b ≡ Ok tt)

passed : (r : Result (Unit {0}) WriteFault) → passes r ≡ true → r ≡ Ok tt
passed (Ok u) h = refl
passed (Err f) h = absurd cc

passed-first : (r : Result (Unit {0}) WriteFault) (f : Unit {0} → Result (Unit {0}) WriteFault) → passes (r >>= f) ≡ true → r ≡ Ok tt
passed-first (Ok u) f h = refl
passed-first (Err e) f h = absurd cc

key-first : (t : Bool) (f : Unit {0} → Result (Unit {0}) WriteFault) → passes (ensure t BadKey >>= f) ≡ true → (t ≡ true) × (passes (f tt) ≡ true)
key-first true f h = (refl, h)
key-first false f h = absurd cc

some-is : (x y : List ℕ) → ◌≡◌ {A = Option (List ℕ)} (Some x) (Some y) → x ≡ y
some-is x y e = cc

good-record : (key x b : List ℕ) → is_repository_key key ≡ true → record_test x ≡ Ok tt → ◌≡◌ {A = Option (List ℕ)} (Some x) (Some b)
    → IsGood key b
good-record key x b k r e = (k, subst (λ (y : List ℕ). record_test y ≡ Ok tt) (some-is x b e) r)

good-write : (there : Bool) (w : Write) (b : List ℕ) → passes (test_when there w) ≡ true → record_of w ≡ Some b → IsGood (key_of w) b
good-write there (Put key x) b h e =
    let k = key-first (is_repository_key key) (λ _. record_test x) h in
    good-record key x b k.0 (passed (record_test x) k.1) e
good-write there (Create key x) b h e =
    let k = key-first (is_repository_key key) (λ _. record_test x >>= (λ ok. ensure (not there) KeyExists)) h in
    good-record key x b k.0 (passed-first (record_test x) (λ ok. ensure (not there) KeyExists) k.1) e
good-write there (Update key x) b h e =
    let k = key-first (is_repository_key key) (λ _. record_test x >>= (λ ok. ensure there NoSuchKey)) h in
    good-record key x b k.0 (passed-first (record_test x) (λ ok. ensure there NoSuchKey) k.1) e
good-write there (Delete key) b h e = absurd cc

last-case : (key b : List ℕ) (w : Write) (t : Bool) (before : Option (List ℕ)) → bytes_eq key (key_of w) ≡ t
    → ((x : List ℕ) → record_of w ≡ Some x → IsGood (key_of w) x) → (before ≡ Some b → IsGood key b)
    → (if t then record_of w else before) ≡ Some b → IsGood key b
last-case key b w true before e g i h = subst (λ (k : List ℕ). IsGood k b) (sym ((bytes_eq-Decides key (key_of w)).0 e)) (g b h)
last-case key b w false before e g i h = i h

good-last : (m : Records) (ws : List Write) (key b : List ℕ) (before : Option (List ℕ)) → is_lawful_from m ws ≡ true
    → last_record key before ws ≡ Some b → (before ≡ Some b → IsGood key b) → IsGood key b
good-last m [] key b before lawful h i = i h
good-last m (w ∷ ws) key b before lawful h i =
    let p = both (passes (write_test m w)) (is_lawful_from (after_write m w) ws) lawful in
    good-last (after_write m w) ws key b (if names key w then record_of w else before) p.1 h
    (last-case key b w (names key w) before refl (λ x e. good-write (has_key m (key_of w)) w x p.0 e) i)

none-some : (b : List ℕ) {P : Type 0} → ◌≡◌ {A = Option (List ℕ)} None (Some b) → P
none-some b e = absurd cc

pub good-left : (ws : List Write) (key b : List ℕ) → is_lawful_list ws ≡ true → find (slice_cmp nat_cmp) key (leaves ws) ≡ Some b
    → IsGood key b
good-left ws key b lawful h = good-last [] ws key b None lawful (sym (find-leaves ws key) ∙ h) (λ e. none-some b e)
