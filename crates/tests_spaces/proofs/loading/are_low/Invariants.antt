use Rattle.std.proofs.Common.{take}
use Rattle.std.specs.Prelude.{All}
use Rattle.unix_exec.specs.Plans.{IsLow}
use Rattle.tests_spaces.proofs.loading.are_low.Given as goal

-- the loads so far end below the stack
abbrev pub invariant-loop-load : goal.invariant-loop-load
invariant-loop-load l = All IsLow (take l.load-index l.loads)
