use Rattle.std.proofs.Common.{◌≡◌, take}
use Rattle.std.specs.List.{list_any}
use Rattle.std.specs.Prelude.{◌||◌, ◌&&◌}
use Rattle.unix_model.specs.declared.elf.Load.{Load}
use Rattle.unix_model.specs.Loading.{in_stack, touches}
use Rattle.unix_exec.proofs.seal.is_writable.Given as goal

abbrev pub invariant-loop-load : goal.invariant-loop-load
invariant-loop-load l = l.writable ≡ (in_stack l.page || list_any (λ (load : Load). load.writable && touches l.page load) (take l.load-index l.loads))
