-- What a type that fits in memory has as its fields fits too.
use Rattle.std.proofs.Common.{◌≤◌, ◌<◌, ◌^◌, ◌+◌, ◌*◌, ℕ, zero, suc, arith}
use mir.Syntax.{Ty, Tys, tnil, tcons, ty_int, ty_bool, ty_float, ty_ptr, ty_ref, ty_array, ty_unit, ty_struct, ty_enum, ty_param, ty_const, ty_array_p, ty_named}
use prog.Memory.{size, align, aligns, up, end_of}
use prog.Align.{up-ge, end_ge}

-- the field at a place of a struct; a type of no bytes where there is none
abbrev pub nth : Tys → ℕ → Ty
nth tnil k = ty_unit
nth (tcons t ts) zero = t
nth (tcons t ts) (suc k) = nth ts k

abbrev pub field : Ty → ℕ → Ty
field (ty_int w) k = ty_unit
field ty_bool k = ty_unit
field (ty_float f) k = ty_unit
field ty_ptr k = ty_unit
field (ty_ref a m t) k = ty_unit
field (ty_array t n) k = ty_unit
field ty_unit k = ty_unit
field (ty_struct s ts) k = nth ts k
field (ty_enum s tss) k = ty_unit
field (ty_param i) k = ty_unit
field (ty_const i) k = ty_unit
field (ty_array_p t i) k = ty_unit
field (ty_named h ts) k = ty_unit

-- the element of an array
abbrev pub elem : Ty → Ty
elem (ty_int w) = ty_unit
elem ty_bool = ty_unit
elem (ty_float f) = ty_unit
elem ty_ptr = ty_unit
elem (ty_ref a m t) = ty_unit
elem (ty_array t n) = t
elem ty_unit = ty_unit
elem (ty_struct s ts) = ty_unit
elem (ty_enum s tss) = ty_unit
elem (ty_param i) = ty_unit
elem (ty_const i) = ty_unit
elem (ty_array_p t i) = t
elem (ty_named h ts) = ty_unit

nth_within : (e : ℕ) (ts : Tys) (k : ℕ) → size (nth ts k) ≤ end_of e ts
nth_within e tnil k = omega arith
nth_within e (tcons t ts) zero = let after = end_ge (up (align t) e + size t) ts in omega (arith, after)
nth_within e (tcons t ts) (suc k) = nth_within (up (align t) e + size t) ts k

pub field_fits : (t : Ty) (k : ℕ) → size t < 2 ^ 63 → size (field t k) < 2 ^ 63
field_fits (ty_int w) k h = omega arith
field_fits ty_bool k h = omega arith
field_fits (ty_float f) k h = omega arith
field_fits ty_ptr k h = omega arith
field_fits (ty_ref a m t) k h = omega arith
field_fits (ty_array t n) k h = omega arith
field_fits ty_unit k h = omega arith
field_fits (ty_struct s ts) k h =
    let within = nth_within 0 ts k in
    let padded = up-ge (aligns ts) (end_of 0 ts) in omega (arith, within, padded, h)
field_fits (ty_enum s tss) k h = omega arith
field_fits (ty_param i) k h = omega arith
field_fits (ty_const i) k h = omega arith
field_fits (ty_array_p t i) k h = omega arith
field_fits (ty_named a ts) k h = omega arith

-- a field isn't greater than its struct
pub field_smaller : (t : Ty) (k : ℕ) → size (field t k) ≤ size t
field_smaller (ty_int w) k = omega arith
field_smaller ty_bool k = omega arith
field_smaller (ty_float f) k = omega arith
field_smaller ty_ptr k = omega arith
field_smaller (ty_ref a m t) k = omega arith
field_smaller (ty_array t n) k = omega arith
field_smaller ty_unit k = omega arith
field_smaller (ty_struct s ts) k =
    let within = nth_within 0 ts k in
    let padded = up-ge (aligns ts) (end_of 0 ts) in omega (arith, within, padded)
field_smaller (ty_enum s tss) k = omega arith
field_smaller (ty_param i) k = omega arith
field_smaller (ty_const i) k = omega arith
field_smaller (ty_array_p t i) k = omega arith
field_smaller (ty_named a ts) k = omega arith

-- sixteen of what isn't greater fit too
pub sixteen_fit : (a b c : ℕ) → a ≤ b → b ≤ c → 16 * c < 2 ^ 63 → 16 * a < 2 ^ 63
sixteen_fit a b c first second h = omega (arith, first, second, h)

-- the core of a repository, out of its lock
pub core_fits : (t : Ty) → size t < 2 ^ 63 → size (field (field (field (field t 0) 2) 1) 0) < 2 ^ 63
core_fits t h = field_fits (field (field (field t 0) 2) 1) 0 (field_fits (field (field t 0) 2) 1 (field_fits (field t 0) 2 (field_fits t 0 h)))
