use Rattle.sha2.specs.Sha256.{sha256}
use Rattle.spec.specs.States.{state_commit}
use Rattle.owned_repo.specs.Owning.{Owned}
use Rattle.tizulgech.specs.Numbers.{IsCommit}
use Rattle.tizulgech.proofs.Shown.{shown}
use Rattle.tizulgech.proofs.reading.tizulgech_commit.Goals as goal

pub returns-clause-commit : goal.returns-clause-commit
returns-clause-commit c = shown (λ (o : Owned). IsCommit c.write_commit-code.result c.write_commit-code.new.commit (state_commit sha256 2 o.state))
    _ c.in-Some.repo.value c.deref.result.now c.in-Some.ensures.taken c.deref.ensures c.write_commit-code.ensures.commit
