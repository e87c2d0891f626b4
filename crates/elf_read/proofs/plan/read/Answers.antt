use Rattle.std.proofs.Common.{length, sym, ap, ◌∙◌}
use Rattle.unix_model.specs.Elf.{break_start_of}
use Rattle.elf_read.proofs.PlanLemmas.{header_passes, plan_of-refused, plan_of-no_table, plan_of-no_loads, plan_of-loads, table_within, ends_within, is_none, is_some, plans_are_sound}
use Rattle.elf_read.proofs.plan.read.Goals as goal

pub returns-in-Err-clause-plan : goal.returns-in-Err-clause-plan
returns-in-Err-clause-plan g c = plan_of-refused (g.B.FileBytes.bytes c.args.file.now) c.in-Err.fault c.in-Err.ensures

pub read_loads-requires : goal.read_loads-requires
read_loads-requires g c =
    let bytes = g.B.FileBytes.bytes c.args.file.now in
    let passed = header_passes bytes c.in-Ok.header c.in-Ok.ensures in
    table_within bytes c.in-Ok.header passed

pub returns-in-Err-read_loads-clause-plan : goal.returns-in-Err-read_loads-clause-plan
returns-in-Err-read_loads-clause-plan g c =
    let bytes = g.B.FileBytes.bytes c.args.file.now in
    let passed = header_passes bytes c.in-Ok.header c.in-Ok.ensures in
    plan_of-no_table bytes c.in-Ok.header c.in-Err-read_loads.fault passed c.in-Err-read_loads.ensures

pub returns-then-is_empty-clause-plan : goal.returns-then-is_empty-clause-plan
returns-then-is_empty-clause-plan g c =
    let bytes = g.B.FileBytes.bytes c.args.file.now in
    let passed = header_passes bytes c.in-Ok.header c.in-Ok.ensures in
    let none = is_none (length c.in-Ok-read_loads.loads.items) c.is_empty.result c.is_empty.ensures c.if-is_empty.true in
    plan_of-no_loads bytes c.in-Ok.header c.in-Ok-read_loads.loads.items passed c.in-Ok-read_loads.ensures none

pub break_start-break_start-requires : goal.break_start-break_start-requires
break_start-break_start-requires g c =
    let bytes = g.B.FileBytes.bytes c.args.file.now in
    ends_within bytes c.in-Ok.header.headers c.in-Ok.header.table c.in-Ok-read_loads.loads.items c.as_slice.result.now c.in-Ok-read_loads.ensures c.as_slice.ensures.value

pub returns-clause-plan : goal.returns-clause-plan
returns-clause-plan g c =
    let bytes = g.B.FileBytes.bytes c.args.file.now in
    let passed = header_passes bytes c.in-Ok.header c.in-Ok.ensures in
    let some = is_some (length c.in-Ok-read_loads.loads.items) c.is_empty.result c.is_empty.ensures c.if-is_empty.false in
    let break_start = c.break_start-break_start.ensures ∙ ap break_start_of c.as_slice.ensures.value in
    let is = plan_of-loads bytes c.in-Ok.header c.in-Ok-read_loads.loads.items c.break_start-break_start.result passed c.in-Ok-read_loads.ensures some break_start in
    is

pub returns-clause-sound : goal.returns-clause-sound
returns-clause-sound g c =
    let bytes = g.B.FileBytes.bytes c.args.file.now in
    let passed = header_passes bytes c.in-Ok.header c.in-Ok.ensures in
    let some = is_some (length c.in-Ok-read_loads.loads.items) c.is_empty.result c.is_empty.ensures c.if-is_empty.false in
    let break_start = c.break_start-break_start.ensures ∙ ap break_start_of c.as_slice.ensures.value in
    let is = plan_of-loads bytes c.in-Ok.header c.in-Ok-read_loads.loads.items c.break_start-break_start.result passed c.in-Ok-read_loads.ensures some break_start in
    plans_are_sound bytes (record { entry = c.in-Ok.header.entry; loads = c.in-Ok-read_loads.loads.items; break_start = c.break_start-break_start.result }) (sym is)
