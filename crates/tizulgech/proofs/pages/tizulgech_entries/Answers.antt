use Rattle.std.specs.Prelude.{length}
use Rattle.sha2.specs.Sha256.{sha256}
use Rattle.repo.specs.Readings.{pairs_from}
use Rattle.buffers.specs.Answers.{pairs_bytes}
use Rattle.owned_repo.specs.Owning.{Owned}
use Rattle.tizulgech.specs.Numbers.{IsHandedOr255}
use Rattle.tizulgech.specs.Parting.{page_of}
use Rattle.tizulgech.proofs.Shown.{shown}
use Rattle.tizulgech.proofs.pages.tizulgech_entries.Goals as goal

pub returns-clause-page : goal.returns-clause-page
returns-clause-page c = shown (λ (o : Owned). IsHandedOr255 c.page_told-code.result (pairs_bytes (page_of (length c.args.out.now) (pairs_from sha256 o.state c.args.from.now c.args.most))) c.args.out.now c.page_told-code.new.out c.page_told-code.new.size)
    _ c.in-Some.repo.value c.deref.result.now c.in-Some.ensures.taken c.deref.ensures c.page_told-code.ensures.answer
