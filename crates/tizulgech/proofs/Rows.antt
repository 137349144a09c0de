-- How lists are read one element after another, and what is told of them.
use Rattle.std.proofs.Common.{◌≡◌, ◌<◌, ◌≤◌, ◌+◌, ℕ, List, [], ◌∷◌, ◌++◌, drop, length, map, slice_index_or, refl, ap, sym, subst, ◌∙◌, true, false}
use Rattle.std.specs.Prelude.{Option, Some, None, option_map}
use Rattle.std.proofs.lemmas.List.{append_assoc, append-nil, drop_more, map-append, map-id}
use Rattle.std.proofs.Math.ListN.{drop_of_length-le}
use Rattle.spec.specs.Tree.{Pair}
use Rattle.spec.specs.NodeFormat.{is_ascending}
use Rattle.spec.specs.Stamps.{Stamp}
use Rattle.spec.specs.Writes.{Write, Put}
use Rattle.batch_laws.specs.Batch.{Change}
use Rattle.buffers.specs.Framing.{onto, with_values}
use Rattle.tizulgech.specs.Known.{known_of}
use Rattle.tizulgech.specs.Trees.{puts, IsListed, IsTreeWhen, IsTreeOf, IsEdited, IsEditKnown, IsEditOver, IsEditWhen, IsFileOf, IsFiled}

-- one more put behind the others
pub puts_next : {K R W : Type 0} (key : K → List ℕ) (bytes : R → List ℕ) (view : W → Write) (whole : List Write) (old new : List W) (w : W)
    (ks : List K) (rs : List R) (i : ℕ) (k : K) (r : R)
    → i < length ks → i < length rs → new ≡ old ++ w ∷ []
    → view w ≡ Put (key (slice_index_or ks i k)) (bytes (slice_index_or rs i r))
    → whole ≡ map view old ++ puts (map key (drop i ks)) (map bytes (drop i rs))
    → whole ≡ map view new ++ puts (map key (drop (i + 1) ks)) (map bytes (drop (i + 1) rs))
puts_next {K} {R} key bytes view whole old new w ks rs i k r in_ks in_rs put is inv =
    let rest : List Write = puts (map key (drop (i + 1) ks)) (map bytes (drop (i + 1) rs)) in
    let one : List Write = Put (key (slice_index_or ks i k)) (bytes (slice_index_or rs i r)) ∷ [] in
    inv ∙ ap (λ (xs : List K). map view old ++ puts (map key xs) (map bytes (drop i rs))) (drop_more ks i k in_ks)
    ∙ ap (λ (ys : List R). map view old ++ puts (key (slice_index_or ks i k) ∷ map key (drop (i + 1) ks)) (map bytes ys)) (drop_more rs i r in_rs)
    ∙ sym (append_assoc (map view old) one rest)
    ∙ ap (λ (x : Write). (map view old ++ x ∷ []) ++ rest) (sym is)
    ∙ ap (λ (front : List Write). front ++ rest) (sym (ap (map view) put ∙ map-append view old (w ∷ [])))

-- one more element that is seen as the one of another list
pub seen_next : {X Y Z : Type 0} (f : X → Z) (g : Y → Z) (whole : List Z) (old new : List Y) (xs : List X) (i : ℕ) (x : X) (y : Y)
    → i < length xs → new ≡ old ++ y ∷ [] → g y ≡ f (slice_index_or xs i x)
    → whole ≡ map g old ++ map f (drop i xs) → whole ≡ map g new ++ map f (drop (i + 1) xs)
seen_next {X} {Y} {Z} f g whole old new xs i x y within put is inv =
    let rest : List Z = map f (drop (i + 1) xs) in
    inv ∙ ap (λ (ys : List X). map g old ++ map f ys) (drop_more xs i x within)
    ∙ sym (append_assoc (map g old) (f (slice_index_or xs i x) ∷ []) rest)
    ∙ ap (λ (z : Z). (map g old ++ z ∷ []) ++ rest) (sym is)
    ∙ ap (λ (front : List Z). front ++ rest) (sym (ap (map g) put ∙ map-append g old (y ∷ [])))

-- where keys don't ascend
pub unsorted : (out : List ℕ) (count : ℕ) (es : List Pair) (listed : Option (List Pair))
    → is_ascending es ≡ false → Some es ≡ listed → IsListed 3 out count listed
unsorted out count es listed is e = subst (IsListed 3 out count) e (subst (λ b. IsTreeWhen b 3 out count es) (sym is) refl)

-- where they do
pub sorted : (code : ℕ) (out : List ℕ) (count : ℕ) (es : List Pair) (listed : Option (List Pair))
    → is_ascending es ≡ true → Some es ≡ listed → IsTreeOf code out count es → IsListed code out count listed
sorted code out count es listed is e h = subst (IsListed code out count) e (subst (λ b. IsTreeWhen b code out count es) (sym is) h)

-- what comes of the values that are left behind the last key
at_end : {V : Type 0} (value : List ℕ → Option V) (old : List (List ℕ × V)) (rest : List ℕ) → length rest ≡ 0
    → onto old (with_values value [] rest) ≡ Some old
at_end value old [] e = ap Some (append-nil old)
at_end value old (x ∷ xs) e = absurd cc

pub values_done : {K V : Type 0} (value : List ℕ → Option V) (key : K → List ℕ) (all : Option (List (List ℕ × V)))
    (old : List (List ℕ × V)) (ks : List K) (i : ℕ) (rest : List ℕ)
    → all ≡ onto (map (λ o. o) old) (with_values value (map key (drop i ks)) rest) → length ks ≤ i → length rest ≡ 0 → Some old ≡ all
values_done {K} {V} value key all old ks i rest inv past none =
    sym (inv ∙ ap (λ (os : List (List ℕ × V)). onto os (with_values value (map key (drop i ks)) rest)) (map-id old)
    ∙ ap (λ (xs : List K). onto old (with_values value (map key xs) rest)) (drop_of_length-le ks past)
    ∙ at_end value old rest none)

-- where the arguments of an edit are there
pub edited : (code : ℕ) (missing before room : List ℕ) (size : ℕ) (given : List (List ℕ)) (cids root : List ℕ) (cs : List Change)
    (g : Option (List (List ℕ))) (r : Option (List ℕ)) (c : Option (List Change))
    → Some given ≡ g → Some root ≡ r → Some cs ≡ c → IsEditKnown code missing before room size given cids root cs
    → IsEdited code missing before room size g cids r c
edited code missing before room size given cids root cs g r c is_given is_root is_cs h =
    subst (λ x. IsEdited code missing before room size x cids r c) is_given
    (subst (λ x. IsEdited code missing before room size (Some given) cids x c) is_root
    (subst (λ x. IsEdited code missing before room size (Some given) cids (Some root) x) is_cs h))

-- where the first of its nodes have their CIDs, and where these are none
pub edit_known : (code : ℕ) (missing before room : List ℕ) (size : ℕ) (given blocks : List (List ℕ)) (cids root : List ℕ) (cs : List Change)
    → Some blocks ≡ option_map (λ known. given) (known_of given cids) → IsEditOver code missing before room size blocks root cs
    → IsEditKnown code missing before room size given cids root cs
edit_known code missing before room size given blocks cids root cs are h =
    when (known_of given cids) are where
      when : (known : Option (List (List ℕ × List ℕ))) → Some blocks ≡ option_map (λ known. given) known
          → IsEditWhen known code missing before room size given root cs
      when None e = absurd cc
      when (Some known) e = let is : blocks ≡ given = cc in subst (λ (ns : List (List ℕ)). IsEditOver code missing before room size ns root cs) is h

pub edit_unknown : (code : ℕ) (missing before room : List ℕ) (size : ℕ) (given : List (List ℕ)) (cids root : List ℕ) (cs : List Change)
    → None ≡ option_map (λ known. given) (known_of given cids) → code ≡ 252
    → IsEditKnown code missing before room size given cids root cs
edit_unknown code missing before room size given cids root cs none is =
    when (known_of given cids) none where
      when : (known : Option (List (List ℕ × List ℕ))) → None ≡ option_map (λ known. given) known
          → IsEditWhen known code missing before room size given root cs
      when None e = is
      when (Some known) e = absurd cc

-- where those of a file are
pub filed : (code : ℕ) (before room : List ℕ) (size : ℕ) (stamp : Stamp) (ws : List Write) (w : Option (List Write))
    → Some ws ≡ w → IsFileOf code before room size stamp ws → IsFiled code before room size stamp w
filed code before room size stamp ws w is h = subst (IsFiled code before room size stamp) is h
