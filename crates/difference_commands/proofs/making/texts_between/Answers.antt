use Rattle.std.proofs.Common.{◌∙◌, ap}
use Rattle.difference_commands.specs.Views.{pairs_in, records_in}
use Rattle.difference_commands.proofs.Made.{fault-said, texts-between}
use Rattle.difference_commands.proofs.making.texts_between.Goals as goal

pub returns-clause-texts : goal.returns-clause-texts
returns-clause-texts g c =
    texts-between g.D.Digest.digest_of c.args.command c.args.before.now c.args.after.now c.deref.result.now c.deref-2.result.now
    (ap pairs_in c.deref.ensures.value ∙ c.in_ok-old.ensures.pairs) (ap records_in c.deref.ensures.value ∙ c.in_ok-old.ensures.records)
    (ap pairs_in c.deref-2.ensures.value ∙ c.in_ok-new.ensures.pairs) (ap records_in c.deref-2.ensures.value ∙ c.in_ok-new.ensures.records)
    c.texts_of_entries.result c.texts_of_entries.ensures.texts

pub returns-clause-fault : goal.returns-clause-fault
returns-clause-fault g c =
    fault-said g.D.Digest.digest_of c.args.command c.args.before.now c.args.after.now c.deref.result.now c.deref-2.result.now
    (ap pairs_in c.deref.ensures.value ∙ c.in_ok-old.ensures.pairs) (ap records_in c.deref.ensures.value ∙ c.in_ok-old.ensures.records)
    (ap pairs_in c.deref-2.ensures.value ∙ c.in_ok-new.ensures.pairs) (ap records_in c.deref-2.ensures.value ∙ c.in_ok-new.ensures.records)
    c.texts_of_entries.result c.texts_of_entries.ensures.fault
