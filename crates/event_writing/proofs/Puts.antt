-- Blocks that are put into a file, one after the other, and a file that is too long.
use Rattle.std.proofs.Common.{◌≡◌, ℕ, ◌<◌, ◌≤◌, Bool, List, [], ◌∷◌, ◌++◌, length, Ok, Err, refl, sym, ap, subst, ◌∙◌, append_assoc, arith}
use Rattle.std.specs.Prelude.{option_map}
use Rattle.std.specs.List.{flat_map}
use Rattle.std.proofs.lemmas.Bool.{le-leb, lt-leb}
use Rattle.std.proofs.lemmas.List.{length-append}
use Rattle.spec.specs.Reading.{◌>>=◌, Fails, ensure}
use Rattle.spec.specs.Car.{section}
use Rattle.car_writing.specs.Once.{IsPut, Written, file_with, fresh}
use Rattle.event_times.specs.Limits.{most_blocks_bytes}
use Rattle.event_laws.specs.Reading as reading
use Rattle.event_format.specs.Views.{form_fault_of}
use Rattle.event_format.specs.declared.fault.FormFault.{FormFault}
use Rattle.event_format.specs.declared.fault.FormFault.TheVariants as forms
use Rattle.event_writing_laws.specs.Telling as telling
use Rattle.event_writing_laws.specs.Messages.{short_file}
use Rattle.event_writing.specs.Views.{untold_fault_of}
use Rattle.event_writing.specs.Putting.{ArePut, IsTooLong}
use Rattle.event_writing.specs.declared.fault.UntoldFault.{UntoldFault}
use Rattle.event_writing.specs.declared.fault.UntoldFault.TheVariants as errors

abbrev Blocks : Type 0
Blocks = List (List ℕ)

-- whatever follows, a file has the bytes that it has
file-grows : (digest : List ℕ → List ℕ) (w : Written) (bs : Blocks) → length w.bytes ≤ length (file_with digest w bs)
file-grows digest w bs =
    let a = length-append w.bytes (flat_map (section digest) (fresh digest w.cids bs)) in
    omega (arith, a)

more-than : (m n k : ℕ) → m < n → n ≤ k → m < k
more-than m n k a b = omega arith

pub too-long : (digest : List ℕ → List ℕ) (b : List ℕ) (old new : Written) → IsPut digest b old new
    → most_blocks_bytes < length new.bytes → IsTooLong digest (b ∷ []) old (errors.Form forms.BlocksSize)
too-long digest b old new put long = (
  refl,
  λ rest. subst (λ (f : List ℕ). most_blocks_bytes < length f) (put rest)
      (more-than most_blocks_bytes (length new.bytes) (length (file_with digest new rest)) long (file-grows digest new rest)),
)

-- ---- some blocks, and then what is left

-- once what is left is put, all are
abbrev pub IsLeft : (List ℕ → List ℕ) → Blocks → Blocks → Written → Written → Type 0
IsLeft digest left all start now = (rest : Blocks) → file_with digest now (left ++ rest) ≡ file_with digest start (all ++ rest)

module _ (digest : List ℕ → List ℕ) (all left one behind : Blocks) (start now : Written) (parts : left ≡ one ++ behind)
    (is : IsLeft digest left all start now) where
  whole : (rest : Blocks) → file_with digest now (one ++ (behind ++ rest)) ≡ file_with digest start (all ++ rest)
  whole rest =
      ap (file_with digest now) (sym (append_assoc one behind rest) ∙ ap (λ (xs : Blocks). xs ++ rest) (sym parts)) ∙ is rest

  pub put-next : (next : Written) → ArePut digest one now next → IsLeft digest behind all start next
  put-next next put rest = put (behind ++ rest) ∙ whole rest

  pub put-stop : (fault : UntoldFault) → IsTooLong digest one now fault → IsTooLong digest all start fault
  put-stop errors.NoBatch h = h
  put-stop errors.BadSeq h = h
  put-stop (errors.Form f) h =
      (h.0, λ rest. subst (λ (x : List ℕ). most_blocks_bytes < length x) (whole rest) (h.1 (behind ++ rest)))
  put-stop (errors.OtherValue place) h = h
  put-stop (errors.RecordSize place) h = h
  put-stop errors.NoMemory h = h

pub put-end : (digest : List ℕ → List ℕ) (all left : Blocks) (start now : Written) → left ≡ [] → IsLeft digest left all start now
    → ArePut digest all start now
put-end digest all left start now none is rest =
    ap (λ (xs : Blocks). file_with digest now (xs ++ rest)) (sym none) ∙ is rest

-- ---- a file that is too long

long-file : (file : List ℕ) → most_blocks_bytes < length file → short_file file ≡ Err (telling.OfForm reading.BlocksSize)
unfolding short_file
long-file file h =
    ap (λ (t : Bool). ensure t (telling.OfForm reading.BlocksSize) >>= (λ x. Ok file)) (lt-leb (length file) most_blocks_bytes h)

pub short-is : (file : List ℕ) → length file ≤ most_blocks_bytes → short_file file ≡ Ok file
unfolding short_file
short-is file h =
    ap (λ (t : Bool). ensure t (telling.OfForm reading.BlocksSize) >>= (λ x. Ok file)) (le-leb (length file) most_blocks_bytes h)

-- what is said of a file that these blocks and some others make
pub long-fails : (digest : List ℕ → List ℕ) (bs rest : Blocks) (w : Written) (file : List ℕ) (fault : UntoldFault)
    → IsTooLong digest bs w fault → file_with digest w (bs ++ rest) ≡ file → Fails (untold_fault_of fault) (short_file file)
long-fails digest bs rest w file errors.NoBatch h e = absurd h
long-fails digest bs rest w file errors.BadSeq h e = absurd h
long-fails digest bs rest w file (errors.Form f) h e =
    subst (λ (x : FormFault). Fails (option_map telling.OfForm (form_fault_of x)) (short_file file)) (sym h.0)
    (long-file file (subst (λ (x : List ℕ). most_blocks_bytes < length x) e (h.1 rest)))
long-fails digest bs rest w file (errors.OtherValue place) h e = absurd h
long-fails digest bs rest w file (errors.RecordSize place) h e = absurd h
long-fails digest bs rest w file errors.NoMemory h e = tt
