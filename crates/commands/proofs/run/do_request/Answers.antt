use Rattle.std.proofs.Common.{rules}
use Rattle.commands.proofs.run.do_request.Goals as goal

pub returns-in-Tree-clause-done : goal.returns-in-Tree-clause-done
returns-in-Tree-clause-done g c = search rules

pub returns-in-Tree-clause-faulty : goal.returns-in-Tree-clause-faulty
returns-in-Tree-clause-faulty g c = search rules

pub returns-in-Tree-clause-beginning : goal.returns-in-Tree-clause-beginning
returns-in-Tree-clause-beginning g c = search rules

pub returns-in-OnRepository-clause-faulty_word : goal.returns-in-OnRepository-clause-faulty_word
returns-in-OnRepository-clause-faulty_word g c = search rules

pub returns-in-OnChange-clause-faulty_word : goal.returns-in-OnChange-clause-faulty_word
returns-in-OnChange-clause-faulty_word g c = search rules

pub returns-in-OnMessages-clause-faulty_word : goal.returns-in-OnMessages-clause-faulty_word
returns-in-OnMessages-clause-faulty_word g c = search rules
