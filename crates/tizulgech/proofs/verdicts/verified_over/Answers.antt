use Rattle.tizulgech.proofs.verdicts.verified_over.Goals as goal

pub returns-clause-verdict : goal.returns-clause-verdict
returns-clause-verdict c _ = record {
  result = c.verdict-answer.result;
  said = c.verdict-answer.ensures;
  told_is = c.tell_verdict.ensures.verdict;
}
