use Rattle.dagcbor.specs.View.{view_fields}
use Rattle.event_laws.specs.Fields.{flag_in}
use Rattle.event_format.specs.Views.{name_of}
use Rattle.event_format.proofs.Taking.{taken-some, taken-none}
use Rattle.event_format.proofs.fields.flag.Goals as goal

pub returns-in-Some : goal.returns-in-Some
returns-in-Some g c =
    taken-some flag_in (name_of c.args.field) (view_fields c.args.pairs.now.items) _ _ _ c.name.ensures c.value_of.ensures c.in-Some.ensures

pub returns-in-None : goal.returns-in-None
returns-in-None g c =
    taken-none flag_in (name_of c.args.field) (view_fields c.args.pairs.now.items) _ _ c.name.ensures c.value_of.ensures c.in-None.ensures
