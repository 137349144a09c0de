use Rattle.std.specs.Prelude.{◌≡◌, nat_eq, false}
use Rattle.owned_repo.specs.Owning.{Owned}
use Rattle.tizulgech.specs.Changing.{told_in}
use Rattle.tizulgech.specs.Inverting.{IsProven}
use Rattle.tizulgech.proofs.Shown.{shown}
use Rattle.tizulgech.proofs.inversions.tizulgech_prove_inversion.Goals as goal

pub returns-clause-proof : goal.returns-clause-proof
returns-clause-proof c = shown (λ (o : Owned). nat_eq c.proven_in-code.result 255 ≡ false → IsProven c.proven_in-code.result c.proven_in-code.new.place c.args.out.now c.proven_in-code.new.out c.proven_in-code.new.size o.state (told_in c.args.keys.now c.args.key_ends.now c.args.befores.now c.args.afters.now))
    _ c.in-Some.repo.value c.deref.result.now c.in-Some.ensures.taken c.deref.ensures c.proven_in-code.ensures.proof
