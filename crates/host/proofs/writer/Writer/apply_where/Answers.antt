use Rattle.std.proofs.Common.{◌≡◌, ◌+◌, ◌%◌, ◌^◌, ◌∷◌, ◌++◌, [], length, sym, ap, ◌∙◌, subst, arith, length-append, length-set}
use Rattle.notices.specs.declared.notice.Notice.{Notice}
use Rattle.batches.specs.Values.{stamp_of, writes_of}
use Rattle.host.specs.Rooting.{IsSeenWith}
use Rattle.host.specs.Seeing.{IsAcceptanceAfter, Wanted, wanted_by}
use Rattle.host.specs.Views.{WriterView, IsOrderly}
use Rattle.host.proofs.Keeping.{orderly_push}
use Rattle.host.proofs.writer.Writer.apply_where.Goals as goal

pub invariant_of-self-3 : goal.invariant_of-self-3
invariant_of-self-3 g c =
    let i = c.self.invariant in
    let a = c.in-Ok-taken.applied in
    let n : Notice = record { writer = c.writer.result; seq = c.self.inside.last + 1; repo = c.args.repo; number = a.number; root = a.root } in
    let now : c.keep.new.kept.items ≡ c.self.inside.kept.items ++ n ∷ [] = c.keep.ensures ∙ ap (λ l. l ++ n ∷ []) c.in-Ok.ensures.items in
    let pass = c.self.inside.sender.pass in record {
      lent = i.lent;
      queue = i.queue;
      orderly = subst (IsOrderly pass) (sym now) (orderly_push pass c.self.inside.kept.items n i.orderly c.writer.ensures (let last = i.last_is in omega arith));
      last_is = omega (arith, i.last_is, ap length now, length-append c.self.inside.kept.items (n ∷ []));
      room = i.room;
      places = length-set c.self.inside.seen.items c.args.repo a.number ∙ i.places;
    }

pub returns-clause-accepted : goal.returns-clause-accepted
returns-clause-accepted g c =
    let a = c.in-Ok-taken.applied in
    subst (λ (w : Wanted). IsAcceptanceAfter g.D.Digest.digest_of g.row.B (IsSeenWith g.D.Digest.digest_of g.row.B w c.args.root)
    (stamp_of c.args.stamp.now) (writes_of c.args.writes.now) a.number a.root)
    (ap (λ (w : WriterView). wanted_by w c.args.repo) c.self.view_is) c.in-Ok-taken.ensures.accepted

pub returns-clause-pushed : goal.returns-clause-pushed
returns-clause-pushed g c some =
    let pushed = c.flush.ensures.pushed some in
    (pushed.0, pushed.1 ∙ ap (λ (w : WriterView). (w.refused + 1) % 2 ^ 64) c.self.view_is)

pub returns-clause-none_back : goal.returns-clause-none_back
returns-clause-none_back g c none = c.flush.ensures.none_back none ∙ ap (λ (w : WriterView). w.refused) c.self.view_is
