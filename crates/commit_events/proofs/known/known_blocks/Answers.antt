use Rattle.std.proofs.Common.{◌<◌, ◌≤◌, List, length, map, sym, ap, ◌∙◌, arith}
use Rattle.std.proofs.lemmas.List.{take_all}
use Rattle.std.proofs.lemmas.Simd.{map-map}
use Rattle.car_reader.specs.Views.{section_of}
use Rattle.car_reader.specs.declared.section.Section.{Section}
use Rattle.commit_events.proofs.Named.{named-at}
use Rattle.commit_events.proofs.known.known_blocks.Goals as goal

pub block-requires : goal.block-requires
block-requires g c =
    let ss = c.args.sections.now in
    let i = c.loop-section.section-index in
    let lt : i < length ss = omega arith in
    named-at g.D.Digest.digest_of ss i c.section-item.result lt c.section-item.is c.requires

pub returns : goal.returns
returns g c =
    let ss = c.args.sections.now in
    let i = c.loop-section.section-index in
    let all : length ss ≤ i = omega arith in
    c.loop-section.invariant
    ∙ ap (λ (xs : List Section). map (λ s. s.block.now) xs) (take_all i ss all)
    ∙ sym (map-map (λ s. s.block) section_of ss)
