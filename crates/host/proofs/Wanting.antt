-- What a writer wants of a repository, by its fields and by its view.
use Rattle.std.proofs.Common.{◌≡◌, ◌<◌, ℕ, List, length, get_or, ap, ◌∙◌}
use Rattle.std.proofs.lemmas.List.{get_or_default}
use Rattle.std.specs.Prelude.{slice_index}
use Rattle.host.specs.Seeing.{wanted_of, wanted_by}
use Rattle.host.specs.Views.{HostView, WriterView}

pub wanted_is : (w : WriterView) (host : HostView) (seen : List ℕ) (repo number : ℕ) → host ≡ w.host → seen ≡ w.seen → repo < length seen
    → number ≡ get_or seen repo number → wanted_of host repo number ≡ wanted_by w repo
wanted_is w host seen repo number same same_seen place is =
    let e : number ≡ slice_index w.seen repo = is ∙ get_or_default seen repo number 0 place ∙ ap (λ xs. slice_index xs repo) same_seen in
    λ j. wanted_of (same j) repo (e j)
