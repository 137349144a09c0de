use Rattle.std.proofs.Common.{◌∷◌, [], ◌∙◌, map, get_or, ap, arith, rules}
use Rattle.spec.specs.Cid.{alphabet}
use Rattle.cid.proofs.Groups.{bits_are_five}
use Rattle.cid.proofs.base32.eight_letters.Goals as goal

pub returns : goal.returns
returns c =
    (λ k. c.letter.ensures k ∷ c.letter-2.ensures k ∷ c.letter-3.ensures k ∷ c.letter-4.ensures k ∷ c.letter-5.ensures k ∷ c.letter-6.ensures k ∷ c.letter-7.ensures k ∷ c.letter-8.ensures k ∷ [])
    ∙ ap (map (λ i. get_or alphabet i 0)) (bits_are_five c.args.five (search rules) (omega arith) c.from_be_bytes-bits.result c.from_be_bytes-bits.ensures)
