use Rattle.std.proofs.Common.{◌≡◌, ℕ, List, ◌+◌, ◌*◌, ◌∙◌, true, false, Some, map, length, arith, ap, rules}
use Rattle.std.specs.List.{range_with_len}
use Rattle.std.proofs.lemmas.List.{length-map}
use Rattle.spec.specs.Cid.{eight_bits, letter_value}
use Rattle.cid.proofs.Filling.{group_filled, place_filled, length-put_mid, none_says, some_says, some_is}
use Rattle.cid.proofs.Groups.{are_values, each_small, values_at, last_values_at, bytes_of_group, byte_of_last, group_refused, group_passed, last_refused, all_passed}
use Rattle.cid.proofs.base32.bytes.Goals as goal

pub returns-in_err-five_bytes : goal.returns-in_err-five_bytes
returns-in_err-five_bytes c =
    let values : List ℕ = map letter_value c.args.letters.now in
    let group = values_at c.args.letters.now (8 * c.loop-group.group) _ _ _ _ _ _ _ _ (omega arith) c.value.ensures c.value-in-loop-group.ensures c.value-in-loop-group-2.ensures c.value-in-loop-group-3.ensures
    c.value-in-loop-group-4.ensures c.value-in-loop-group-5.ensures c.value-in-loop-group-6.ensures c.value-in-loop-group-7.ensures in
    let fails : are_values values ≡ false = group_refused values _ (8 * c.loop-group.group) group (none_says _ _ c.in_err-five_bytes.ensures) in
    rw fails c.from_residual.ensures

pub loop-group-preserved : goal.loop-group-preserved
loop-group-preserved c =
    let values : List ℕ = map letter_value c.args.letters.now in
    let size = c.loop-group.invariant.size in
    let group = values_at c.args.letters.now (8 * c.loop-group.group) _ _ _ _ _ _ _ _ (omega arith) c.value.ensures c.value-in-loop-group.ensures c.value-in-loop-group-2.ensures c.value-in-loop-group-3.ensures
    c.value-in-loop-group-4.ensures c.value-in-loop-group-5.ensures c.value-in-loop-group-6.ensures c.value-in-loop-group-7.ensures in
    record {
      size = length-put_mid (5 * c.loop-group.group) _ c.loop-group.bytes c.copy_from_slice.new.self (omega arith) (search rules) ∙ size;
      in_alphabet = group_passed values _ (8 * c.loop-group.group) (8 * (c.loop-group.group + 1)) (omega arith) group (some_says _ _ _ c.in_ok-five_bytes.ensures) c.loop-group.invariant.in_alphabet;
      written = λ all.
          group_filled (eight_bits values) c.loop-group.bytes c.copy_from_slice.new.self (5 * c.loop-group.group) 5 _ (5 * (c.loop-group.group + 1)) (omega arith) (omega arith)
          (c.copy_from_slice.ensures.after ∙ some_is _ _ _ c.in_ok-five_bytes.ensures ∙ ap (λ (v : List ℕ). map (eight_bits v) (range_with_len 0 5)) group
          ∙ bytes_of_group values (each_small values all) c.loop-group.group) (c.loop-group.invariant.written all);
    }

pub returns-in_err-bytes : goal.returns-in_err-bytes
returns-in_err-bytes c =
    let values : List ℕ = map letter_value c.args.letters.now in
    let last = last_values_at c.args.letters.now _ _ c.requires c.value-2.ensures c.value-3.ensures in
    let fails : are_values values ≡ false = last_refused values _ last (none_says _ _ c.in_err-bytes.ensures) in
    rw fails c.from_residual-in_err-bytes.ensures

pub returns : goal.returns
returns c =
    let values : List ℕ = map letter_value c.args.letters.now in
    let long : length values ≡ 58 = length-map c.args.letters.now letter_value ∙ c.requires in
    let last = last_values_at c.args.letters.now _ _ c.requires c.value-2.ensures c.value-3.ensures in
    let passes : are_values values ≡ true = all_passed values _ (8 * c.loop-group.group) long (omega arith) last (some_says _ _ _ c.in_ok-bytes.ensures) c.loop-group.invariant.in_alphabet in
    let byte : c.in_ok-bytes.field-0 ≡ eight_bits values 35 = some_is _ _ _ c.in_ok-bytes.ensures ∙ ap (λ (v : List ℕ). eight_bits v 0) last ∙ byte_of_last values long in
    rw passes (ap Some (place_filled (eight_bits values) c.loop-group.bytes 35 (5 * c.loop-group.group) _ c.loop-group.invariant.size (omega arith) byte (c.loop-group.invariant.written passes)))
