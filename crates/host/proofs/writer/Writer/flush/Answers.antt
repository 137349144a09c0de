use Rattle.std.proofs.Common.{◌≡◌, ◌∷◌, ◌++◌, [], List, Option, length, refl, sym, ap, ◌∙◌, subst, arith, length-append}
use Rattle.std.specs.Prelude.{Some, option_to_list}
use Rattle.notices.specs.declared.notice.Notice.{Notice}
use Rattle.notices.specs.Views.{SenderView, with_sent}
use Rattle.ended.specs.Ending.{notices_told}
use Rattle.host.specs.Views.{IsOrderly, IsWriting}
use Rattle.host.proofs.Keeping.{orderly_rest, told_rest, given_back}
use Rattle.host.proofs.writer.Writer.flush.Goals as goal

-- the first of the kept notices was sent, and is taken away
pub loop-first-preserved : goal.loop-first-preserved
loop-first-preserved g c =
    let was = c.loop-first.self-inside in
    let n : Notice = c.in-Some.first.now in
    let rest : List Notice = c.pop_front.new.self.items in
    let taken : c.pop_front.result ≡ Some n = c.pop_front.ensures.value n (c.in-Some.ensures.variant.0 refl) ∙ ap Some (sym c.in-Some.ensures.lookup) in
    let cons : was.kept.items ≡ n ∷ rest = c.pop_front.ensures.items ∙ ap (λ (o : Option Notice). option_to_list o ++ rest) taken in
    let sent : c.push.new.self ≡ with_sent was.sender n = c.in-Ok.ensures.sent in
    let held = c.loop-first.invariant in
    let w = held.writing in
    record {
      told = ap (λ (s : SenderView). notices_told s.pass rest) sent ∙ told_rest was.sender.pass n rest ∙ ap (notices_told was.sender.pass) (sym cons) ∙ held.told;
      writing = subst (λ (s : SenderView). IsWriting was.host.now was.hosts.now s rest was.last was.seen.items) (sym sent) (record {
        lent = w.lent;
        queue = w.queue;
        orderly = orderly_rest was.sender.pass n rest (subst (IsOrderly was.sender.pass) cons w.orderly);
        last_is = omega (arith, w.last_is, ap length cons, length-append was.sender.pass.sent (n ∷ []));
        room = w.room;
        places = w.places;
      });
      refused = ap (λ (s : SenderView). s.refused) sent ∙ held.refused;
      host = held.host;
      seen = held.seen;
      queue = ap (λ (s : SenderView). s.pass.queue_id) sent ∙ held.queue;
      writer = ap (λ (s : SenderView). s.pass.writer) sent ∙ held.writer;
    }

pub returns-in-Err-clause-pushed : goal.returns-in-Err-clause-pushed
returns-in-Err-clause-pushed g c some =
    let was = c.loop-first.self-inside in
    let held = c.loop-first.invariant in
    let e = c.in-Err.ensures in
    given_back was.host.now.queue.room c.args.self.now.refused was.sender c.push.new.self e.refused e.full held.writing.room held.refused
