-- Sections read one after the other.
use Rattle.std.proofs.Common.{◌≡◌, ℕ, zero, suc, ◌+◌, ◌-◌, ◌<◌, ◌≤◌, List, [], ◌∷◌, ◌++◌, length, Option, Some, None, Result, Ok, Err, refl, sym, ap, ◌∙◌, append_assoc, arith}
use Rattle.spec.specs.Reading.{◌>>=◌, Fails, Gives}
use Rattle.std.proofs.Common.{subst}
use Rattle.std.proofs.lemmas.List.{length-append, append-nil, nil_from_length, map-append}
use Rattle.spec.specs.CarReading.{CarFault, Section, section_at, sections_within}
use Rattle.car_reader.specs.Views.{section_of, sections_of}
use Rattle.car_reader.specs.declared.section.Section.{Section as Lent}

-- the sections so far, and then those that are read
abbrev pub behind : List Section → Result (List Section) CarFault → Result (List Section) CarFault
behind front (Ok ss) = Ok (front ++ ss)
behind front (Err f) = Err f

pub behind-none : (r : Result (List Section) CarFault) → behind [] r ≡ r
behind-none (Ok ss) = refl
behind-none (Err f) = refl

-- at the end
pub sections-end : (most : ℕ) → sections_within most [] ≡ Ok []
sections-end zero = refl
sections-end (suc most) = refl

one-more : (front : List Section) (s : Section) (r : Result (List Section) CarFault)
    → behind front (r >>= λ ss. Ok (s ∷ ss)) ≡ behind (front ++ s ∷ []) r
one-more front s (Ok ss) = ap (λ (x : List Section). Ok x) (sym (append_assoc front (s ∷ []) ss))
one-more front s (Err f) = refl

go-on : (most : ℕ) (front : List Section) (r : Result (Section × List ℕ) CarFault) (x : Section × List ℕ) → r ≡ Ok x
    → behind front (r >>= λ s. sections_within most s.1 >>= λ ss. Ok (s.0 ∷ ss)) ≡ behind (front ++ x.0 ∷ []) (sections_within most x.1)
go-on most front r x e = rw e (one-more front x.0 (sections_within most x.1))

-- one more section
pub sections-next : (most : ℕ) (front : List Section) (bytes : List ℕ) (x : Section × List ℕ) → 0 < most → 0 < length bytes
    → section_at bytes ≡ Ok x
    → behind front (sections_within most bytes) ≡ behind (front ++ x.0 ∷ []) (sections_within (most - 1) x.1)
sections-next zero front bytes x some long e = absurd (omega arith)
sections-next (suc most) front [] x some long e = absurd (omega arith)
sections-next (suc most) front (b ∷ bytes) x some long e =
    let less : suc most - 1 ≡ most = omega arith in
    rw less (go-on most front (section_at (b ∷ bytes)) x e)

stop : (most : ℕ) (front : List Section) (o : Option CarFault) (r : Result (Section × List ℕ) CarFault) → Fails o r
    → Fails o (behind front (r >>= λ s. sections_within most s.1 >>= λ ss. Ok (s.0 ∷ ss)))
stop most front None r e = tt
stop most front (Some f) r e = rw e refl

-- a section that isn't one
pub sections-stop : (most : ℕ) (front : List Section) (bytes : List ℕ) (o : Option CarFault) → 0 < most → 0 < length bytes
    → Fails o (section_at bytes) → Fails o (behind front (sections_within most bytes))
sections-stop zero front bytes o some long e = absurd (omega arith)
sections-stop (suc most) front [] o some long e = absurd (omega arith)
sections-stop (suc most) front (b ∷ bytes) o some long e = stop most front o (section_at (b ∷ bytes)) e

-- ---- the same at the code's variables

-- all of the sections: those so far, and those that are read of the rest
abbrev pub Reads : List ℕ → List Lent → List ℕ → Type 0
Reads bytes found rest =
    behind (sections_of found) (sections_within (length bytes - length found) rest) ≡ sections_within (length bytes) bytes

pub reads-first : (bytes : List ℕ) (found : List Lent) → found ≡ [] → Reads bytes found bytes
reads-first bytes found none =
    let n : length bytes - length found ≡ length bytes = let e : length found ≡ 0 = ap length none in omega arith in
    ap (λ (x : List Lent). behind (sections_of x) (sections_within (length bytes - length found) bytes)) none
    ∙ behind-none (sections_within (length bytes - length found) bytes) ∙ ap (λ (m : ℕ). sections_within m bytes) n

pub reads-next : (bytes rest after : List ℕ) (found new : List Lent) (s : Lent) → length found + length rest ≤ length bytes → 0 < length rest
    → section_at rest ≡ Ok (section_of s, after) → new ≡ found ++ s ∷ [] → Reads bytes found rest → Reads bytes new after
reads-next bytes rest after found new s room some e more reads =
    let most : ℕ = length bytes - length found in
    let count : length new ≡ length found + 1 = ap length more ∙ length-append found (s ∷ []) in
    let n : length bytes - length new ≡ most - 1 = omega arith in
    let front : sections_of new ≡ sections_of found ++ section_of s ∷ [] = ap sections_of more ∙ map-append section_of found (s ∷ []) in
    ap (λ (x : List Section). behind x (sections_within (length bytes - length new) after)) front
    ∙ ap (λ (m : ℕ). behind (sections_of found ++ section_of s ∷ []) (sections_within m after)) n
    ∙ sym (sections-next most (sections_of found) rest (section_of s, after) (omega arith) some e) ∙ reads

pub reads-stop : (bytes rest : List ℕ) (found : List Lent) (o : Option CarFault) → length found + length rest ≤ length bytes → 0 < length rest
    → Fails o (section_at rest) → Reads bytes found rest → Fails o (sections_within (length bytes) bytes)
reads-stop bytes rest found o room some fails reads =
    subst (Fails o) reads (sections-stop (length bytes - length found) (sections_of found) rest o (omega arith) some fails)

pub reads-last : (bytes rest : List ℕ) (found : List Lent) → length rest ≡ 0 → Reads bytes found rest
    → sections_within (length bytes) bytes ≡ Ok (sections_of found)
reads-last bytes rest found none reads =
    let is : rest ≡ [] = nil_from_length rest none in
    sym reads ∙ ap (λ (x : List ℕ). behind (sections_of found) (sections_within (length bytes - length found) x)) is
    ∙ ap (behind (sections_of found)) (sections-end (length bytes - length found))
    ∙ ap (λ (x : List Section). Ok x) (append-nil (sections_of found))

pub Gives-at_err : {X Y E F : Type 0} (view : X → Y) (fault : E → Option F) (e : E) (r : Result X E) (read : Result Y F) → r ≡ Err e
    → Fails (fault e) read → Gives view fault r read
Gives-at_err view fault e r read is h = rw is h
