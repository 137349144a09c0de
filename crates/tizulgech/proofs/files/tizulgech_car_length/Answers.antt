use Rattle.sha2.specs.Sha256.{sha256}
use Rattle.std.specs.Prelude.{◌≡◌, nat_eq, false}
use Rattle.export.specs.Exports.{car_length}
use Rattle.owned_repo.specs.Owning.{Owned}
use Rattle.tizulgech.proofs.Shown.{shown}
use Rattle.tizulgech.proofs.files.tizulgech_car_length.Goals as goal

pub returns-clause-length : goal.returns-clause-length
returns-clause-length c = shown (λ (o : Owned). nat_eq c.car_length_told-code.result 255 ≡ false → c.car_length_told-code.new.length ≡ car_length sha256 2 o.state)
    _ c.in-Some.repo.value c.deref.result.now c.in-Some.ensures.taken c.deref.ensures c.car_length_told-code.ensures.length
