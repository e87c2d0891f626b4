use Rattle.std.proofs.Common.{refl}
use Rattle.unix_model.specs.Boot.{first_process}
use Rattle.flat_boot.proofs.loading.first_process.Goals as goal

pub returns : goal.returns
unfolding first_process
returns c = λ file plan registers memory break. rw (registers, break, ← memory) refl
