use Rattle.std.proofs.Common.{◌≡◌, ℕ, ◌+◌, ◌*◌, ◌/◌, ◌∙◌, take, map, arith, ap, sym, subst, refl, rules}
use Rattle.std.specs.List.{range_with_len}
use Rattle.std.proofs.lemmas.List.{take_all}
use Rattle.spec.specs.Cid.{letter}
use Rattle.cid.proofs.Filling.{group_filled, length-put_mid}
use Rattle.cid.proofs.Groups.{letters_of_group, letters_of_last}
use Rattle.cid.proofs.base32.letters.Goals as goal

pub loop-group-preserved : goal.loop-group-preserved
loop-group-preserved c =
    let size = c.loop-group.invariant.size in
    record {
      size = length-put_mid (8 * c.loop-group.group) _ c.loop-group.letters c.copy_from_slice.new.self (omega arith) (search rules) ∙ size;
      written =
          group_filled (letter c.args.bytes.now) c.loop-group.letters c.copy_from_slice.new.self (8 * c.loop-group.group) 8 _ (8 * (c.loop-group.group + 1)) (omega arith) (omega arith)
          (c.copy_from_slice.ensures.after ∙ c.eight_letters.ensures ∙ letters_of_group c.args.bytes.now c.fits-bytes c.loop-group.group) c.loop-group.invariant.written;
    }

pub returns-clause-value : goal.returns-clause-value
returns-clause-value c =
    let size = c.loop-group.invariant.size in
    let f : ℕ → ℕ = letter c.args.bytes.now in
    let Written : ℕ → Type 0 = λ group. take (8 * group) c.loop-group.letters ≡ map f (range_with_len 0 (8 * group)) in
    let end : c.loop-group.group ≡ 7 = omega arith in
    let so_far : Written 7 = subst Written end c.loop-group.invariant.written in
    let last : c.copy_from_slice-2.new.self ≡ map f (range_with_len 56 2) = c.copy_from_slice-2.ensures.after ∙ c.two_letters.ensures ∙ letters_of_last c.args.bytes.now c.told-bytes in
    sym (take_all 58 _ (omega (arith, length-put_mid 56 2 c.loop-group.letters c.copy_from_slice-2.new.self (omega arith) (search rules))))
    ∙ group_filled f c.loop-group.letters c.copy_from_slice-2.new.self 56 2 2 58 (omega arith) refl last so_far
    ∙ ap (λ (n : ℕ). map f (range_with_len 0 ((8 * n + 4) / 5))) (sym c.told-bytes)
