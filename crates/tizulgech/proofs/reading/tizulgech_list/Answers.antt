use Rattle.sha2.specs.Sha256.{sha256}
use Rattle.repo.specs.Readings.{pairs_from}
use Rattle.buffers.specs.Answers.{pairs_bytes}
use Rattle.owned_repo.specs.Owning.{Owned}
use Rattle.tizulgech.specs.Numbers.{IsHandedOr255}
use Rattle.tizulgech.proofs.Shown.{shown}
use Rattle.tizulgech.proofs.reading.tizulgech_list.Goals as goal

pub returns-clause-pairs : goal.returns-clause-pairs
returns-clause-pairs c = shown (λ (o : Owned). IsHandedOr255 c.list_told-code.result (pairs_bytes (pairs_from sha256 o.state c.args.from.now c.args.most)) c.args.out.now c.list_told-code.new.out c.list_told-code.new.size)
    _ c.in-Some.repo.value c.deref.result.now c.in-Some.ensures.taken c.deref.ensures c.list_told-code.ensures.answer
