use Rattle.std.proofs.Common.{◌∙◌, ap, sym, subst, List, ℕ}
use Rattle.std.specs.Prelude.{nat_eq}
use Rattle.std.specs.Cmp.Lexicographic.{pointwise}
use Rattle.std.specs.List.{IsDistinct}
use Rattle.std.specs.Map.{keys_of}
use Rattle.std.specs.FinMap as map
use Rattle.kept.specs.declared.kept_use.Use.{Use}
use Rattle.kept.proofs.use_map.UseMap.iter.Goals as goal

pub returns-clause-entries : goal.returns-clause-entries
returns-clause-entries g c = ap map.from_entries c.iter.ensures.rest ∙ c.self.view_is

pub returns-clause-distinct : goal.returns-clause-distinct
returns-clause-distinct g c =
    subst (λ (es : List (List ℕ × Use g.row.D.Denot g.row.A.Denot)). IsDistinct (pointwise nat_eq) (keys_of es)) (sym c.iter.ensures.rest) c.iter.ensures.unique
