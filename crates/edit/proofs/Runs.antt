-- Pairs of a node that were read, and then come at once.
use Rattle.std.proofs.Common.{◌≡◌, ℕ, suc, ◌+◌, ◌<◌, List, [], ◌∷◌, ◌++◌, length, take, drop, length-append, refl, sym, ap, ◌∙◌, arith, Option}
use Rattle.std.proofs.Math.Seq.{take-append_seam, drop-append_seam}
use Rattle.std.proofs.lemmas.List.{append_assoc, append-nil}
use Rattle.spec.specs.Tree.{Pair}
use Rattle.spec.specs.NodeFormat.{Shape, LastLink, MoreLinks}
use Rattle.edit_laws.specs.ShapeEdit.{last_link}
use Rattle.rows.specs.Entries.{part_of, pairs_left, key_behind}
use Rattle.batch_laws.specs.Links.{Rows, rows_in_shape}

-- those behind the first ones, of which more may have been read since
pub part-is : (begun more read last now : Rows) (from to : ℕ) → from ≡ length begun → to ≡ length read → now ≡ read ++ last
    → read ≡ begun ++ more → part_of from to now ≡ more
part-is begun more read last now from to from_is to_is now_is read_is =
    ap (λ (n : ℕ). part_of n to now) from_is ∙ ap (λ (n : ℕ). part_of (length begun) n now) to_is
    ∙ ap (drop (length begun)) (ap (take (length read)) now_is ∙ take-append_seam read last ∙ read_is)
    ∙ drop-append_seam begun more

pub part-all : (begun more now : Rows) (from to : ℕ) → from ≡ length begun → to ≡ length now → now ≡ begun ++ more
    → part_of from to now ≡ more
part-all begun more now from to from_is to_is now_is =
    part-is begun more now [] now from to from_is to_is (sym (append-nil now)) now_is

-- how many they are
pub part-long : (begun more read : Rows) (from to : ℕ) → from ≡ length begun → to ≡ length read → read ≡ begun ++ more
    → to ≡ from + length more
part-long begun more read from to from_is to_is read_is =
    let long : length read ≡ length (begun ++ more) = ap length read_is in
    let size = length-append begun more in
    omega (arith, long, size, from_is, to_is)

-- ---- the key before them

pub key-snoc : (before : List ℕ) (rows : Rows) (l : Option (List ℕ)) (e : Pair) → key_behind before (rows ++ ((l, e) ∷ [])) ≡ e.0
key-snoc before [] l e = refl
key-snoc before (x ∷ rows) l e = key-snoc x.1.0 rows l e

pub key-of-last : (written new : Rows) (l : Option (List ℕ)) (key value before : List ℕ)
    → new ≡ written ++ ((l, (key, value)) ∷ []) → key ≡ before → key_behind [] new ≡ before
key-of-last written new l key value before new_is key_is =
    ap (key_behind []) new_is ∙ key-snoc [] written l (key, value) ∙ key_is

pub run-follows : (begun more now written : Rows) (before : List ℕ) (start : ℕ) → start ≡ length begun → now ≡ begun ++ more
    → key_behind [] begun ≡ before → key_behind [] written ≡ before → key_behind [] written ≡ key_behind [] (take start now)
run-follows begun more now written before start start_is now_is begun_key written_key =
    written_key ∙ sym begun_key
    ∙ sym (ap (key_behind []) (ap (λ (n : ℕ). take n now) start_is ∙ ap (take (length begun)) now_is ∙ take-append_seam begun more))

-- ---- all pairs that are left

-- one pair more was read
pub read-more : (begun old new : Rows) (first s r : Shape) (l : Option (List ℕ)) (e : Pair) → s ≡ MoreLinks l e r
    → new ≡ old ++ ((l, e) ∷ []) → old ++ rows_in_shape s ≡ begun ++ rows_in_shape first
    → new ++ rows_in_shape r ≡ begun ++ rows_in_shape first
read-more begun old new first s r l e shape_is new_is same =
    ap (λ xs. xs ++ rows_in_shape r) new_is ∙ append_assoc old ((l, e) ∷ []) (rows_in_shape r)
    ∙ sym (ap (λ x. old ++ rows_in_shape x) shape_is) ∙ same

pub last-more : (s r : Shape) (l last : Option (List ℕ)) (e : Pair) → s ≡ MoreLinks l e r → last_link s ≡ last
    → last_link r ≡ last
last-more s r l last e shape_is last_is = sym (ap last_link shape_is) ∙ last_is

pub fewer-left : (s r : Shape) (l : Option (List ℕ)) (e : Pair) → s ≡ MoreLinks l e r → pairs_left r < pairs_left s
fewer-left s r l e shape_is = let n : pairs_left s ≡ suc (pairs_left r) = ap pairs_left shape_is in omega (arith, n)

-- one pair came, and then what is left
pub rest-came : (written one : Rows) (s r : Shape) (link first : Option (List ℕ)) (key before value : List ℕ)
    → one ≡ written ++ ((link, (key, value)) ∷ []) → s ≡ MoreLinks first (before, value) r → link ≡ first → key ≡ before
    → one ++ rows_in_shape r ≡ written ++ rows_in_shape s
rest-came written one s r link first key before value one_is shape_is link_is key_is =
    ap (λ xs. xs ++ rows_in_shape r) one_is ∙ append_assoc written ((link, (key, value)) ∷ []) (rows_in_shape r)
    ∙ ap (λ (x : Option (List ℕ)). written ++ ((x, (key, value)) ∷ rows_in_shape r)) link_is
    ∙ ap (λ (k : List ℕ). written ++ ((first, (k, value)) ∷ rows_in_shape r)) key_is
    ∙ ap (λ x. written ++ rows_in_shape x) (sym shape_is)

-- none is left
pub read-all : (begun now : Rows) (first s : Shape) (l : Option (List ℕ)) → s ≡ LastLink l
    → now ++ rows_in_shape s ≡ begun ++ rows_in_shape first → now ≡ begun ++ rows_in_shape first
read-all begun now first s l shape_is same =
    sym (append-nil now) ∙ sym (ap (λ x. now ++ rows_in_shape x) shape_is) ∙ same
