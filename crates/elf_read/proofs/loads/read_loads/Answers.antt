use Rattle.std.proofs.Common.{◌≡◌, ◌+◌, ◌*◌, Ok, arith, ◌∙◌, ap, sym}
use Rattle.elf_read.proofs.LoadLemmas.{loads_of_first-zero, loads_of_first-step, loads_of_first-refused}
use Rattle.elf_read.proofs.loads.read_loads.Goals as goal

pub loop-number-init : goal.loop-number-init
loop-number-init g c = ap Ok c.new-loads.ensures ∙ sym (loads_of_first-zero (g.B.FileBytes.bytes c.args.file.now) c.args.header.now.table)

pub returns-in-Err : goal.returns-in-Err
returns-in-Err g c =
    let place : c.args.header.now.table + 32 * c.from.result ≡ c.args.header.now.table + 32 * c.loop-number.number = omega arith in
    let step = loads_of_first-step c.loop-number.number (g.B.FileBytes.bytes c.args.file.now) c.args.header.now.table c.length-file_length.result
    (c.args.header.now.table + 32 * c.from.result) c.read_program_header-program_header.result c.loop-number.loads.items c.loop-number.invariant c.length-file_length.ensures.length place
    c.read_program_header-program_header.ensures in
    sym (loads_of_first-refused (c.loop-number.number + 1) c.args.header.now.headers (g.B.FileBytes.bytes c.args.file.now) c.args.header.now.table c.in-Err.fault (omega arith) (step ∙ sym c.in-Err.ensures))

pub loop-number-preserved : goal.loop-number-preserved
loop-number-preserved g c =
    let place : c.args.header.now.table + 32 * c.from.result ≡ c.args.header.now.table + 32 * c.loop-number.number = omega arith in
    let step = loads_of_first-step c.loop-number.number (g.B.FileBytes.bytes c.args.file.now) c.args.header.now.table c.length-file_length.result
    (c.args.header.now.table + 32 * c.from.result) c.read_program_header-program_header.result c.loop-number.loads.items c.loop-number.invariant c.length-file_length.ensures.length place
    c.read_program_header-program_header.ensures in
    c.in-Ok.ensures ∙ sym step
