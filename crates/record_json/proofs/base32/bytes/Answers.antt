use Rattle.std.proofs.Common.{◌-◌, [], ◌∷◌, ◌++◌, length, take, drop, map, sym, ap, ◌∙◌, arith}
use Rattle.std.specs.List.{range_with_len}
use Rattle.std.proofs.lemmas.List.FromFn.{map-range_with_len_more}
use Rattle.spec.specs.Cid.{eight_bits, letter_value}
use Rattle.record_json.proofs.base32.bytes.Goals as goal

pub loop-j-preserved : goal.loop-j-preserved
loop-j-preserved g c =
    let f = eight_bits (map letter_value (take (length c.args.text.now - 1) (drop 1 c.args.text.now))) in
    let j = c.loop-j.j in
    c.in_ok-push.ensures.items ∙ ap (λ xs. xs ++ c.eight_bits.result ∷ []) c.loop-j.invariant ∙ ap (λ x. map f (range_with_len 0 j) ++ x ∷ []) c.eight_bits.ensures
    ∙ sym (map-range_with_len_more f 0 j j (omega arith))
