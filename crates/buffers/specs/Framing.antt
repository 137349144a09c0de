-- Lists as a caller gives them: parts that lie one after another, each up to its end.
use Rattle.std.specs.Prelude.{ℕ, ◌-◌, List, [], ◌∷◌, ◌++◌, take, drop, length, replicate, nat_lt, nat_eq, Option, Some, None, option_map, if◌then◌else◌}
use Rattle.std.specs.Str.{bytes_eq}
use Rattle.spec.specs.Cid.{is_own_cid}

-- the next part, and what comes after it; there is none where the end is before the start or behind the bytes
abbrev pub part_at : ℕ → ℕ → List ℕ → Option (List ℕ × List ℕ)
part_at start end bytes =
    if nat_lt end start then None
    else if nat_lt (length bytes) (end - start) then None
    else Some (take (end - start) bytes, drop (end - start) bytes)

-- a part, and then others
abbrev pub before : Option (List ℕ × List ℕ) → (List ℕ → Option (List (List ℕ))) → Option (List (List ℕ))
before None others = None
before (Some p) others = option_map (λ parts. p.0 ∷ parts) (others p.1)

-- all parts, from a start on
abbrev pub cut : ℕ → List ℕ → List ℕ → Option (List (List ℕ))
cut start [] bytes = Some []
cut start (end ∷ ends) bytes = before (part_at start end bytes) (cut end ends)

-- some elements, and then others
abbrev pub onto : {A : Type 0} → List A → Option (List A) → Option (List A)
onto some others = option_map (λ more. some ++ more) others

-- ---- CIDs beside such a list: 36 bytes for each part, and none behind them

-- a part with its value, and then others
abbrev pub beside : {V : Type 0} → List ℕ → Option V → Option (List (List ℕ × V)) → Option (List (List ℕ × V))
beside part None others = None
beside part (Some v) others = option_map (λ more. (part, v) ∷ more) others

-- each part with what 36 bytes stand for
abbrev pub with_values : {V : Type 0} → (List ℕ → Option V) → List (List ℕ) → List ℕ → Option (List (List ℕ × V))
with_values value [] bytes = if nat_eq (length bytes) 0 then Some [] else None
with_values value (part ∷ parts) bytes = beside part (value (take 36 bytes)) (with_values value parts (drop 36 bytes))

-- a CID as a value
abbrev pub cid_at : List ℕ → Option (List ℕ)
cid_at bytes = if is_own_cid bytes then Some bytes else None

-- what stands where there is no CID: 36 zeros
abbrev pub no_cid : List ℕ
no_cid = replicate 36 0

-- a CID, or none
abbrev pub cid_or_none_at : List ℕ → Option (Option (List ℕ))
cid_or_none_at bytes = if bytes_eq bytes no_cid then Some None else option_map Some (cid_at bytes)
