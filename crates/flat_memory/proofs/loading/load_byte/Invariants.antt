use Rattle.std.proofs.Common.{◌≡◌, drop}
use Rattle.unix_model.specs.Loading.{load_byte}
use Rattle.flat_memory.proofs.loading.load_byte.Given as goal

abbrev pub invariant-loop-load : goal.invariant-loop-load
invariant-loop-load l = load_byte l.file l.loads l.address ≡ load_byte l.file (drop l.load-index l.loads) l.address
