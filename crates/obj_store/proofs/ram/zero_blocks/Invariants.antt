use Rattle.std.proofs.Common.{◌≡◌, replicate}
use Rattle.kn_base.specs.Memory.{zero_page}
use Rattle.obj_store.proofs.ram.zero_blocks.Given as goal

-- so many blocks so far
abbrev pub invariant-loop : goal.invariant-loop
invariant-loop l = l.blocks.items ≡ replicate l.counter zero_page
