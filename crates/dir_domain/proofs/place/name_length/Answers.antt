use Rattle.std.proofs.Common.{arith}
use Rattle.std.specs.Prelude.{slice_index}
use Rattle.dir_domain.proofs.Names.{take-most}
use Rattle.dir_domain.proofs.place.name_length.Goals as goal

pub returns-then-bytes-gt27-clause-name : goal.returns-then-bytes-gt27-clause-name
returns-then-bytes-gt27-clause-name c = take-most c.args.bytes.now (slice_index c.args.bytes.now 4) c.told-bytes (let more = c.if-bytes-gt27.true in omega arith)
