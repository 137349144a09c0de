use Rattle.std.proofs.Common.{◌≡◌, ◌∙◌, List, ap, subst}
use Rattle.std.specs.Prelude.{IfOk}
use Rattle.sha2.specs.Sha256.{sha256}
use Rattle.spec.specs.Tree.{Pair}
use Rattle.spec.specs.States.{State}
use Rattle.lookups.specs.Walks.{pairs_given}
use Rattle.repo.specs.Readings.{pairs_from}
use Rattle.buffers.specs.Answers.{pairs_bytes}
use Rattle.tizulgech.specs.Parting.{page_of}
use Rattle.tizulgech.proofs.pages.page_bytes.Goals as goal

pub returns : goal.returns
returns c =
    let is : pairs_given c.deref.result.now ≡ pairs_from sha256 c.args.repo.now.state c.args.from.now c.args.most =
    ap pairs_given c.deref.ensures.value ∙ c.in_ok-pairs.ensures.pairs
    ∙ ap (λ (s : State). pairs_from sha256 s c.args.from.now c.args.most) c.core.ensures in
    subst (λ (ps : List Pair). IfOk c.spell_page.result (λ bytes. bytes.items ≡ pairs_bytes (page_of c.args.room ps))) is c.spell_page.ensures
