-- What a file says ascends: keys of a tree, each greater than those before it.
use Rattle.std.proofs.Common.{◌≡◌, ℕ, true, ◌&&◌, List, [], ◌∷◌, refl, ap, subst, ◌∙◌}
use Rattle.std.specs.Prelude.{Result, Ok, Err}
use Rattle.std.specs.List.{list_all}
use Rattle.std.specs.Cmp.Lexicographic.{slice_cmp}
use Rattle.std.specs.Ordering.{nat_cmp, is_lt}
use Rattle.std.specs.FinMap.{is_sorted}
use Rattle.std.specs.FinMap.Entries.{below_all}
use Rattle.spec.specs.Tree.{Pair}
use Rattle.spec.specs.NodeFormat.{is_key, is_ascending}
use Rattle.spec.specs.Keys.{is_repository_key}
use Rattle.spec.specs.Blocks.{pairs}
use Rattle.spec.specs.Writes.{WriteFault, BadKey, Put, write_test}
use Rattle.spec.proofs.Bools.{and, from_T}
use Rattle.spec.proofs.Taking.{bind_then, ensure_ok, ok_is}
use Rattle.spec.proofs.RecordPairs.{repository-key}
use Rattle.console.specs.Lines.{numbered_lines}
use Rattle.repository_check.proofs.Trees.{pairs-ascend}
use Rattle.tree_command.specs.TreeText.{last_of_each_key}
use Rattle.tree_command.specs.declared.keys.Keys.TheVariants as keys
use Rattle.tree_command.proofs.LastLines.{is_sorted-last_of_each_key}
use Rattle.tree_command.proofs.LeftPairs.{all-fold, ascending-left}
use Rattle.difference_commands.specs.RecordLines.{LineFault, LinesFault, at_line, map_of_records, of_write, or_bad_line, record_of_line, records_of_lines, words_of_line}
use Rattle.export_commands.specs.Texts.{Records}
use Rattle.difference_commands.specs.Files.{Says}
use Rattle.difference_commands.specs.declared.command.Form.{Form}
use Rattle.difference_commands.specs.declared.command.Form.TheVariants as forms
use Rattle.difference_commands.specs.declared.command.ChangesCommand.{ChangesCommand}

-- ---- records that lines leave

was-taken : (r : Result (Unit {0}) WriteFault) (x : Unit {0}) → of_write r ≡ Ok x → r ≡ Ok x
was-taken (Ok y) x e = ap Ok (ok_is LineFault y x e)
was-taken (Err f) x e = absurd cc

good-key : (key bytes : List ℕ) (x : Unit {0}) → write_test [] (Put key bytes) ≡ Ok x → is_key key ≡ true
good-key key bytes x e = repository-key key (ensure_ok (is_repository_key key) BadKey _ x e).0

good-line : (l : List ℕ) (e : List ℕ × List ℕ) → record_of_line l ≡ Ok e → is_key e.0 ≡ true
unfolding record_of_line
good-line l e is =
    bind_then (or_bad_line (words_of_line l)) _ e is (λ w read next.
    bind_then (of_write (write_test [] (Put w.0 w.1))) _ e next (λ ok taken made.
    subst (λ (p : List ℕ × List ℕ). is_key p.0 ≡ true) (ok_is LineFault w e made)
    (good-key w.0 w.1 ok (was-taken (write_test [] (Put w.0 w.1)) ok taken))))

at : (n : ℕ) (l : List ℕ) (r : Result (List ℕ × List ℕ) LineFault) (e : List ℕ × List ℕ) → record_of_line l ≡ r → at_line n r ≡ Ok e
    → is_key e.0 ≡ true
at n l (Ok f) e is made = good-line l e (is ∙ ap Ok (ok_is LinesFault f e made))
at n l (Err f) e is made = absurd cc

all-of : (ls : List (ℕ × List ℕ)) (es : Records) → records_of_lines ls ≡ Ok es → list_all (λ e. is_key e.0) es ≡ true
unfolding records_of_lines
all-of [] es made = subst (λ (fs : Records). list_all (λ e. is_key e.0) fs ≡ true) (ok_is LinesFault [] es made) refl
all-of (l ∷ ls) es made =
    bind_then (at_line l.0 (record_of_line l.1)) _ es made (λ e on next.
    bind_then (records_of_lines ls) _ es next (λ more of last.
    subst (λ (gs : Records). list_all (λ e. is_key e.0) gs ≡ true) (ok_is LinesFault (e ∷ more) es last)
    (and (is_key e.0) (list_all (λ e. is_key e.0) more) (at l.0 l.1 _ e refl on) (all-of ls more of))))

keys-left : (input : List ℕ) (m : Records) → map_of_records input ≡ Ok m → list_all (λ e. is_key e.0) m ≡ true
unfolding map_of_records
keys-left input m made =
    bind_then (records_of_lines (numbered_lines input)) _ m made (λ es of left.
    subst (λ (gs : Records). list_all (λ e. is_key e.0) gs ≡ true) (ok_is LinesFault (last_of_each_key es) m left)
    (all-fold (λ e. is_key e.0) [] es refl (all-of (numbered_lines input) es of)))

sorted-left : (input : List ℕ) (m : Records) → map_of_records input ≡ Ok m → is_sorted (slice_cmp nat_cmp) m ≡ true
unfolding map_of_records
sorted-left input m made =
    bind_then (records_of_lines (numbered_lines input)) _ m made (λ es of left.
    subst (λ (gs : Records). is_sorted (slice_cmp nat_cmp) gs ≡ true) (ok_is LinesFault (last_of_each_key es) m left)
    (from_T _ (is_sorted-last_of_each_key es)))

-- ---- with their CIDs

below-pairs : (digest : List ℕ → List ℕ) (k : List ℕ) (m : Records)
    → below_all (slice_cmp nat_cmp) k (pairs digest m) ≡ below_all (slice_cmp nat_cmp) k m
below-pairs digest k [] = refl
below-pairs digest k (e ∷ m) = ap (λ t. is_lt (slice_cmp nat_cmp k e.0) && t) (below-pairs digest k m)

sorted-pairs : (digest : List ℕ → List ℕ) (m : Records)
    → is_sorted (slice_cmp nat_cmp) (pairs digest m) ≡ is_sorted (slice_cmp nat_cmp) m
sorted-pairs digest [] = refl
sorted-pairs digest (e ∷ m) =
    ap (λ t. t && is_sorted (slice_cmp nat_cmp) (pairs digest m)) (below-pairs digest e.0 m)
    ∙ ap (λ t. below_all (slice_cmp nat_cmp) e.0 m && t) (sorted-pairs digest m)

keys-pairs : (digest : List ℕ → List ℕ) (m : Records) → list_all (λ e. is_key e.0) (pairs digest m) ≡ list_all (λ e. is_key e.0) m
keys-pairs digest [] = refl
keys-pairs digest (e ∷ m) = ap (λ t. is_key e.0 && t) (keys-pairs digest m)

records-ascend : (digest : List ℕ → List ℕ) (input : List ℕ) (m : Records) → map_of_records input ≡ Ok m
    → is_ascending (pairs digest m) ≡ true
records-ascend digest input m made =
    and (is_sorted (slice_cmp nat_cmp) (pairs digest m)) (list_all (λ e. is_key e.0) (pairs digest m))
    (sorted-pairs digest m ∙ sorted-left input m made) (keys-pairs digest m ∙ keys-left input m made)

-- ---- in each form

pub says-ascending : (digest : List ℕ → List ℕ) (asked : ChangesCommand) (form : Form) (file : List ℕ) (es : List Pair) (m : Records)
    → Says digest asked form file es m → is_ascending es ≡ true
says-ascending digest asked forms.Car file es m s =
    ap is_ascending s.1 ∙ pairs-ascend (pairs digest m) s.0.1.pairs_are
says-ascending digest asked forms.Listing file es m s = ascending-left keys.Paths file es s.1
says-ascending digest asked forms.Records file es m s = ap is_ascending s.1 ∙ records-ascend digest file m s.0
