use Rattle.std.proofs.Common.{option_map, sym, ap}
use Rattle.std.specs.declared.option.Option.TheVariants.{Some, None}
use Rattle.export.specs.Founds.{bytes_found, seen_found}
use Rattle.export.proofs.Walked.{goes-missing, goes-down, goes-on, goes-nowhere}
use Rattle.export.proofs.walk.Walk.step.Goals as goal

pub returns-in_default-get-clause-step : goal.returns-in_default-get-clause-step
returns-in_default-get-clause-step g c =
    goes-missing (λ d. option_map bytes_found (g.S.Source.gives c.args.src.now d)) c.args.self.now c.take_link.new.self c.in-Some.cid
    c.in-Some.ensures.link c.take_link.ensures.taken (ap (option_map bytes_found) (sym c.in_default-get.ensures.found))

pub returns-in-Some-clause-step : goal.returns-in-Some-clause-step
returns-in-Some-clause-step g c =
    goes-down (λ d. option_map bytes_found (g.S.Source.gives c.args.src.now d)) c.args.self.now c.take_link.new.self c.enter.new.self c.in-Some.cid
    (bytes_found (seen_found c.in-Some-get.found)) c.in-Some.ensures.link c.take_link.ensures.taken
    c.in_ok-enter.ensures (ap (option_map bytes_found) (sym c.in-Some-get.ensures.found))

pub returns-in_default-2-clause-step : goal.returns-in_default-2-clause-step
returns-in_default-2-clause-step g c =
    goes-nowhere (λ d. option_map bytes_found (g.S.Source.gives c.args.src.now d)) c.args.self.now c.take_link.new.self
    c.in_default.ensures.link c.take_link.ensures.taken (rw c.in_default-2.is at c.in_ok-cid.ensures)

pub returns-in-Some-get-2-clause-step : goal.returns-in-Some-get-2-clause-step
returns-in-Some-get-2-clause-step g c =
    goes-on (λ d. option_map bytes_found (g.S.Source.gives c.args.src.now d)) c.args.self.now c.take_link.new.self c.next_record.new.self c.in-Some-2.cid
    (Some (bytes_found (seen_found c.in-Some-get-2.found))) c.take_link.ensures.within c.in_default.ensures.link c.take_link.ensures.taken
    (rw c.in-Some-2.is at c.in_ok-cid.ensures)
    (ap (option_map bytes_found) (sym c.in-Some-get-2.ensures.found))

pub returns-in-None-clause-step : goal.returns-in-None-clause-step
returns-in-None-clause-step g c =
    goes-on (λ d. option_map bytes_found (g.S.Source.gives c.args.src.now d)) c.args.self.now c.take_link.new.self c.next_record.new.self c.in-Some-2.cid
    None c.take_link.ensures.within c.in_default.ensures.link c.take_link.ensures.taken
    (rw c.in-Some-2.is at c.in_ok-cid.ensures) (ap (option_map bytes_found) (sym c.in-None.ensures.found))
