use Rattle.std.proofs.Common.{arith, ap, length, drop, length-take, length-drop}
use Rattle.flat_file_calls.proofs.reads.read_stored.Goals as goal

pub overflow_add-offset : goal.overflow_add-offset
overflow_add-offset c =
    omega (
      arith,
      ap length c.in_ok-piece-in-Some-File.ensures.piece,
      length-take c.args.count (drop c.args.file.description.offset c.in-Some-File.contents.bytes.items),
      length-drop c.args.file.description.offset c.in-Some-File.contents.bytes.items,
      c.in-Some-File.contents.few,
    )
