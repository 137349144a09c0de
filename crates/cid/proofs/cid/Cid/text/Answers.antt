use Rattle.std.proofs.Common.{◌≡◌, ◌∷◌, ◌++◌, [], List, ℕ, Ok, ap, ◌∙◌, append-nil}
use Rattle.spec.specs.Cid.{base32, text, cid_of_text}
use Rattle.spec.proofs.CidTexts.{cid_of_text-text}
use Rattle.cid.proofs.cid.Cid.text.Goals as goal

pub returns-clause-reads_back : goal.returns-clause-reads_back
returns-clause-reads_back c =
    let spelled : c.copy_from_slice.new.self ++ [] ≡ base32 c.self.inside.bytes = append-nil c.copy_from_slice.new.self ∙ c.copy_from_slice.ensures.after ∙ c.letters.ensures.value in
    let read : cid_of_text (text c.self.inside.bytes) ≡ Ok c.self.inside.bytes = cid_of_text-text c.self.inside.bytes c.letters.ensures.bytes c.self.invariant in
    ap (λ (letters : List ℕ). cid_of_text (98 ∷ letters)) spelled ∙ read ∙ ap Ok c.self.view_is
