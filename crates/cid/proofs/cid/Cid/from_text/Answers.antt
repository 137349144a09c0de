use Rattle.std.proofs.Common.{◌≡◌, ℕ, ◌%◌, ◌-◌, Bool, refl, eqb, true, false, length, List, map, take, drop, get_or, sym, ap, ◌∙◌}
use Rattle.std.specs.Prelude.{nat_lt}
use Rattle.std.specs.List.{list_all, range_with_len}
use Rattle.std.proofs.lemmas.Bool.{ne_eqb}
use Rattle.spec.specs.Cid.{letter_value, letter_values, eight_bits, bytes_of_text, cid_of_text}
use Rattle.spec.specs.Reading.{Gives}
use Rattle.cid.specs.CidFault.{cid_fault_of}
use Rattle.cid.proofs.Filling.{none_says, some_says, some_is}
use Rattle.cid.proofs.Texts.{text_bad_letter, text_bad_bits, text_read, read_text, tail_is, last_value}
use Rattle.cid.proofs.cid.Cid.from_text.Goals as goal

-- the letters after the first have no other test
letters_pass : (s : List ℕ) (answer : Bool) → length s ≡ 59 → list_all (λ v. nat_lt v 32) (map letter_value (take (length s - 1) (drop 1 s))) ≡ answer → list_all (λ v. nat_lt v 32) (letter_values s) ≡ answer
letters_pass s answer size e = ap (λ (l : List ℕ). list_all (λ v. nat_lt v 32) (map letter_value l)) (sym (tail_is s size)) ∙ e

pub returns-in_default-clause-read : goal.returns-in_default-clause-read
returns-in_default-clause-read c =
    text_bad_letter c.args.text.now c.if-text-ne59.false c.if-text-ne98.false (letters_pass c.args.text.now false c.if-text-ne59.false (none_says _ _ c.in_default.ensures))

pub returns-then-value-ne0-clause-read : goal.returns-then-value-ne0-clause-read
returns-then-value-ne0-clause-read c =
    text_bad_bits c.args.text.now c.if-text-ne59.false c.if-text-ne98.false (letters_pass c.args.text.now true c.if-text-ne59.false (some_says _ _ _ c.in-Some.ensures))
    (ap (λ (v : ℕ). eqb (v % 4) 0) (last_value c.args.text.now c.value.result c.if-text-ne59.false c.value.ensures) ∙ ne_eqb _ 0 c.if-value-ne0.true)

pub returns : goal.returns
returns c =
    let values : map letter_value (take (length c.args.text.now - 1) (drop 1 c.args.text.now)) ≡ letter_values c.args.text.now = ap (map letter_value) (tail_is c.args.text.now c.if-text-ne59.false) in
    let bytes : c.in-Some.bytes ≡ bytes_of_text c.args.text.now =
    some_is _ _ _ c.in-Some.ensures ∙ ap (λ (v : List ℕ). map (eight_bits v) (range_with_len 0 36)) values in
    let bits : eqb (get_or (letter_values c.args.text.now) 57 0 % 4) 0 ≡ true =
    ap (λ (v : ℕ). eqb (v % 4) 0) (last_value c.args.text.now c.value.result c.if-text-ne59.false c.value.ensures) ∙ rw c.if-value-ne0.false refl in
    let read : Gives (λ cid. cid) cid_fault_of c.try_from.result (cid_of_text c.args.text.now) =
    text_read c.args.text.now c.in-Some.bytes c.try_from.result c.if-text-ne59.false c.if-text-ne98.false
    (letters_pass c.args.text.now true c.if-text-ne59.false (some_says _ _ _ c.in-Some.ensures)) bits bytes c.try_from.ensures in
    record { read = read; text = read_text c.args.text.now c.try_from.result read }
