-- The laws of the order of keys.
use Rattle.std.proofs.Common.{◌≡◌, ℕ, Bool, true, false, List, [], ◌∷◌, refl, sym, ap, ◌∙◌, cond, eqb, ltb}
use Rattle.std.specs.declared.cmp.Ordering.{Ordering}
use Rattle.std.specs.declared.cmp.Ordering.TheVariants.{Less, Equal, Greater}
use Rattle.std.specs.Ordering.{nat_cmp, ordering_reverse, ordering_then}
use Rattle.std.specs.Cmp.{IsTotalOrder}
use Rattle.std.specs.Cmp.Lexicographic.{slice_cmp}
use Rattle.std.proofs.lemmas.Cmp.{nat_list_cmp_total, tied_itself, alike_right}
use Rattle.std.proofs.lemmas.Bool.{eqb-true}
use Rattle.edit_laws.specs.Order.{order}

pub order-total : IsTotalOrder order
unfolding order
order-total = nat_list_cmp_total

pub order-same : (x : List ℕ) → order x x ≡ Equal
order-same x = tied_itself order-total x

pub after-same : (x y key : List ℕ) → order x y ≡ Greater → order y key ≡ Equal → order x key ≡ Greater
after-same x y key h e = sym (alike_right order-total y key x e) ∙ h

pub turned : (x y : List ℕ) → order x y ≡ Greater → order y x ≡ Less
turned x y h = order-total.antisymm y x ∙ ap ordering_reverse h

pub turned_back : (x y : List ℕ) → order x y ≡ Less → order y x ≡ Greater
turned_back x y h = order-total.antisymm y x ∙ ap ordering_reverse h

pub after-trans : (x y key : List ℕ) → order x y ≡ Greater → order y key ≡ Greater → order x key ≡ Greater
after-trans x y key h e = turned_back key x (order-total.trans key y x (turned y key e) (turned x y h))

nat-equal : (x y : ℕ) (b c : Bool) → c ≡ eqb x y → cond b Less (cond c Equal Greater) ≡ Equal → x ≡ y
nat-equal x y true c e h = cc
nat-equal x y false true e h = eqb-true x y (sym e)
nat-equal x y false false e h = cc

nat_cmp-equal : (x y : ℕ) → nat_cmp x y ≡ Equal → x ≡ y
nat_cmp-equal x y h = nat-equal x y (ltb x y) (eqb x y) refl h

then-equal : (o q : Ordering) → ordering_then o q ≡ Equal → (o ≡ Equal) × (q ≡ Equal)
then-equal Less q h = cc
then-equal Equal q h = (refl, h)
then-equal Greater q h = cc

slices-equal : (xs ys : List ℕ) → slice_cmp nat_cmp xs ys ≡ Equal → xs ≡ ys
slices-equal [] [] h = refl
slices-equal [] (y ∷ ys) h = cc
slices-equal (x ∷ xs) [] h = cc
slices-equal (x ∷ xs) (y ∷ ys) h =
    let p = then-equal (nat_cmp x y) (slice_cmp nat_cmp xs ys) h in
    let e = nat_cmp-equal x y p.0 in
    let f = slices-equal xs ys p.1 in
    cc

pub order-equal : (x y : List ℕ) → order x y ≡ Equal → x ≡ y
unfolding order
order-equal x y h = slices-equal x y h

-- the order of spec
pub order-is : (x y : List ℕ) → slice_cmp nat_cmp x y ≡ order x y
unfolding order
order-is x y = refl

pub before-trans : (x y key : List ℕ) → order x y ≡ Less → order y key ≡ Less → order x key ≡ Less
before-trans x y key h k = order-total.trans x y key h k
