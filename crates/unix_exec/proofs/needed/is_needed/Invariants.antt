use Rattle.std.proofs.Common.{◌≡◌, take}
use Rattle.std.specs.List.{list_any}
use Rattle.std.specs.Prelude.{◌||◌}
use Rattle.unix_model.specs.Loading.{in_stack, touches}
use Rattle.unix_exec.proofs.needed.is_needed.Given as goal

abbrev pub invariant-loop-load : goal.invariant-loop-load
invariant-loop-load l = l.needed ≡ (in_stack l.page || list_any (touches l.page) (take l.load-index l.loads))
