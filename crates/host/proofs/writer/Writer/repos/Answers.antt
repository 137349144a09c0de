use Rattle.std.proofs.Common.{◌∙◌, ap}
use Rattle.host.specs.Views.{WriterView}
use Rattle.host.proofs.writer.Writer.repos.Goals as goal

pub repos-requires : goal.repos-requires
repos-requires g c = c.element.ensures.fits

pub returns-clause-repos : goal.returns-clause-repos
returns-clause-repos g c = c.repos.ensures.repos ∙ ap (λ (w : WriterView). w.host.repos) c.self.view_is
