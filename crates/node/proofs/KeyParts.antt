-- Laws of a key that its parts show.
use Rattle.std.proofs.Common.{◌≡◌, ℕ, zero, suc, ◌+◌, ◌-◌, ◌≤◌, ◌<◌, List, [], ◌∷◌, ◌++◌, length, take, get_or, slice_index, arith, refl, sym, ap, subst, ◌∙◌}
use Rattle.std.proofs.lemmas.List.{take_more, take-take, take-append-le, length-append, length-take-le, get_or-take, get_or-append_right}
use Rattle.node.specs.declared.key_before.Part.{Part}
use Rattle.node.specs.KeyParts.{key_from, place_after, AreParts}

-- ---- one more part at the end

pub key_from-more : (key : List ℕ) (parts : List Part) (part : Part) → key_from key (parts ++ part ∷ []) ≡ take part.prefix (key_from key parts) ++ part.suffix.now
key_from-more key [] part = refl
key_from-more key (first ∷ parts) part = key_from-more (take first.prefix key ++ first.suffix.now) parts part

pub place_after-more : (place : ℕ) (parts : List Part) (part : Part) → place_after place (parts ++ part ∷ []) ≡ suc part.prefix
place_after-more place [] part = refl
place_after-more place (first ∷ parts) part = place_after-more (suc first.prefix) parts part

pub are_parts-more : (place : ℕ) (key : List ℕ) (parts : List Part) (part : Part) → AreParts place key parts → place_after place parts ≤ part.prefix → part.prefix ≤ length (key_from key parts) → AreParts place key (parts ++ part ∷ [])
are_parts-more place key [] part are after within = (after, within, tt)
are_parts-more place key (first ∷ parts) part are after within =
    (are.0, are.1, are_parts-more (suc first.prefix) (take first.prefix key ++ first.suffix.now) parts part are.2 after within)

-- ---- the first parts alone

pub are_parts-take : (n place : ℕ) (key : List ℕ) (parts : List Part) → AreParts place key parts → AreParts place key (take n parts)
are_parts-take zero place key parts are = tt
are_parts-take (suc n) place key [] are = tt
are_parts-take (suc n) place key (part ∷ parts) are =
    (are.0, are.1, are_parts-take n (suc part.prefix) (take part.prefix key ++ part.suffix.now) parts are.2)

-- there are no more parts than places before them
pub are_parts-count : (place : ℕ) (key : List ℕ) (parts : List Part) → AreParts place key parts → place + length parts ≤ place_after place parts
are_parts-count place key [] are = omega arith
are_parts-count place key (part ∷ parts) are =
    omega (arith, are.0, are_parts-count (suc part.prefix) (take part.prefix key ++ part.suffix.now) parts are.2)

-- the last part begins within the key before it
last_within : (place : ℕ) (key : List ℕ) (parts : List Part) (part : Part) → AreParts place key (parts ++ part ∷ []) → part.prefix ≤ length (key_from key parts)
last_within place key [] part are = are.1
last_within place key (first ∷ parts) part are = last_within (suc first.prefix) (take first.prefix key ++ first.suffix.now) parts part are.2

-- the last of the first n parts, which goes on from the key of those before it
pub record IsLast (parts : List Part) (n : ℕ) (part : Part) : Type 0 where
  pub key : key_from [] (take n parts) ≡ take part.prefix (key_from [] (take (n - 1) parts)) ++ part.suffix.now
  pub within : part.prefix ≤ length (key_from [] (take (n - 1) parts))
  pub begins : place_after 0 (take n parts) ≡ suc part.prefix

pub last_part : (parts : List Part) (n : ℕ) (d : Part) → AreParts 0 [] parts → 0 < n → n ≤ length parts → IsLast parts n (get_or parts (n - 1) d)
last_part parts n d are some fits =
    let before = take (n - 1) parts in
    let part = get_or parts (n - 1) d in
    let one : n - 1 + 1 ≡ n = omega arith in
    let e : take n parts ≡ before ++ part ∷ [] = ap (λ (k : ℕ). take k parts) (sym one) ∙ take_more parts (n - 1) d (omega arith) in
    record {
      key = ap (key_from []) e ∙ key_from-more [] before part;
      within = last_within 0 [] before part (subst (AreParts 0 []) e (are_parts-take n 0 [] parts are));
      begins = ap (place_after 0) e ∙ place_after-more 0 before part;
    }

-- how long the key of the first n parts is
pub length-last : (parts : List Part) (n : ℕ) (part : Part) → IsLast parts n part → length (key_from [] (take n parts)) ≡ part.prefix + length part.suffix.now
length-last parts n part is =
    let before = key_from [] (take (n - 1) parts) in
    ap length is.key ∙ length-append (take part.prefix before) part.suffix.now ∙ ap (λ (k : ℕ). k + length part.suffix.now) (length-take-le part.prefix before is.within)

-- where the last begins at a place or after it, the parts before it have the same bytes before the place
pub before-last : (place : ℕ) (parts : List Part) (n : ℕ) (part : Part) → IsLast parts n part → place ≤ part.prefix → take place (key_from [] (take (n - 1) parts)) ≡ take place (key_from [] (take n parts))
before-last place parts n part is begins =
    let before = key_from [] (take (n - 1) parts) in
    let long : length (take part.prefix before) ≡ part.prefix = length-take-le part.prefix before is.within in
    sym (take-take place part.prefix before begins) ∙ sym (take-append-le place (take part.prefix before) part.suffix.now (omega (arith, long))) ∙ sym (ap (take place) is.key)

-- where the last begins at a place or before it, the byte there is its own
pub byte-last : (place : ℕ) (parts : List Part) (n : ℕ) (part : Part) → IsLast parts n part → part.prefix ≤ place → slice_index (key_from [] (take n parts)) place ≡ slice_index part.suffix.now (place - part.prefix)
byte-last place parts n part is begins =
    let before = key_from [] (take (n - 1) parts) in
    ap (λ (key : List ℕ). slice_index key place) is.key ∙ get_or-append_right (take part.prefix before) part.suffix.now part.prefix place 0 (length-take-le part.prefix before is.within) begins

-- two keys with the same bytes up to a place have the same byte there
pub byte-same : (place : ℕ) (one other : List ℕ) → take (place + 1) one ≡ take (place + 1) other → slice_index one place ≡ slice_index other place
byte-same place one other same =
    sym (get_or-take (place + 1) one place 0 (omega arith)) ∙ ap (λ (key : List ℕ). slice_index key place) same ∙ get_or-take (place + 1) other place 0 (omega arith)
