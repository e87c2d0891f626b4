use Rattle.std.proofs.Common.{◌≡◌, ◌<◌, ◌≤◌, ℕ, List, Ok, arith, refl, sym, subst, ap, ◌∙◌, length}
use Rattle.elf_read.specs.Shown.{shown_plan}
use Rattle.unix_model.specs.declared.elf.Load.{Load}
use Rattle.unix_model.specs.Boot.{init_arguments, with_first_process}
use Rattle.unix_model.specs.Elf.{LoadPlan}
use Rattle.unix_model.specs.Loading.{image, start_registers, string_bytes}
use Rattle.unix_model.specs.Memory.{mapped_pages}
use Rattle.unix_model.specs.Process.{Process}
use Rattle.unix_model.proofs.BootLaws.{loaded-bad, loaded-crowded, loaded-there}
use Rattle.flat_memory.specs.MemoryView.{memory_of}
use Rattle.flat_memory.specs.StringsView.{strings_of}
use Rattle.flat_state.specs.StateView.{unix_of}
use Rattle.flat_boot.proofs.Room.{started-crowded}
use Rattle.flat_boot.proofs.loading.load.Goals as goal

pub returns-in-Err : goal.returns-in-Err
returns-in-Err c = loaded-bad (unix_of c.args.state.now) c.args.file.now c.in-Err.fault c.requires.file (sym c.in-Err.ensures.plan)

pub load_program-requires-clause-strings : goal.load_program-requires-clause-strings
load_program-requires-clause-strings c =
    let strings : strings_of c.deref.result.now ≡ init_arguments = ap strings_of c.deref.ensures.value ∙ c.in-Ok-init_arguments.ensures in
    subst (λ (strings : List (List ℕ)). length (string_bytes strings) ≤ 4096) (sym strings) (omega arith)

pub returns-in-Ok-None : goal.returns-in-Ok-None
returns-in-Ok-None c =
    let plan : LoadPlan = shown_plan c.in-Ok.plan in
    let strings : strings_of c.deref.result.now ≡ init_arguments = ap strings_of c.deref.ensures.value ∙ c.in-Ok-init_arguments.ensures in
    let is : image c.args.file.now c.as_slice-loads.result.now (strings_of c.deref.result.now) ≡ image c.args.file.now plan.loads init_arguments =
    ap (λ (loads : List Load). image c.args.file.now loads (strings_of c.deref.result.now)) c.as_slice-loads.ensures.value ∙ ap (image c.args.file.now plan.loads) strings in
    let more : c.room_to_start-limit.result < mapped_pages (image c.args.file.now c.as_slice-loads.result.now (strings_of c.deref.result.now)) = rw c.in-Ok-None.field-0-is at c.in-Ok-None.ensures.full in
    loaded-crowded (unix_of c.args.state.now) c.args.file.now plan c.requires.file (sym c.in-Ok.ensures.plan)
    (started-crowded (unix_of c.args.state.now) c.args.file.now plan c.room_to_start-limit.result c.room_to_start-limit.ensures (omega (arith, more, ap mapped_pages is)))

pub returns-then-not-has_room_to_start : goal.returns-then-not-has_room_to_start
returns-then-not-has_room_to_start c =
    let plan : LoadPlan = shown_plan c.in-Ok.plan in
    let strings : strings_of c.deref.result.now ≡ init_arguments = ap strings_of c.deref.ensures.value ∙ c.in-Ok-init_arguments.ensures in
    let is : image c.args.file.now c.as_slice-loads.result.now (strings_of c.deref.result.now) ≡ image c.args.file.now plan.loads init_arguments =
    ap (λ (loads : List Load). image c.args.file.now loads (strings_of c.deref.result.now)) c.as_slice-loads.ensures.value ∙ ap (image c.args.file.now plan.loads) strings in
    let memory : memory_of c.in-Ok-Some.program.memory ≡ image c.args.file.now c.as_slice-loads.result.now (strings_of c.deref.result.now) = rw c.in-Ok-Some.field-0-is at c.in-Ok-Some.ensures.memory in
    loaded-crowded (unix_of c.args.state.now) c.args.file.now plan c.requires.file (sym c.in-Ok.ensures.plan)
    (sym (c.has_room_to_start.ensures c.args.file.now plan (c.mapped.ensures.mapped ∙ ap mapped_pages (memory ∙ is))) ∙ c.if-not-has_room_to_start.true)

pub returns : goal.returns
returns c =
    let plan : LoadPlan = shown_plan c.in-Ok.plan in
    let strings : strings_of c.deref.result.now ≡ init_arguments = ap strings_of c.deref.ensures.value ∙ c.in-Ok-init_arguments.ensures in
    let is : image c.args.file.now c.as_slice-loads.result.now (strings_of c.deref.result.now) ≡ image c.args.file.now plan.loads init_arguments =
    ap (λ (loads : List Load). image c.args.file.now loads (strings_of c.deref.result.now)) c.as_slice-loads.ensures.value ∙ ap (image c.args.file.now plan.loads) strings in
    let memory : memory_of c.in-Ok-Some.program.memory ≡ image c.args.file.now c.as_slice-loads.result.now (strings_of c.deref.result.now) = rw c.in-Ok-Some.field-0-is at c.in-Ok-Some.ensures.memory in
    let registers : c.in-Ok-Some.program.registers ≡ start_registers c.in-Ok.plan.entry (strings_of c.deref.result.now) = rw c.in-Ok-Some.field-0-is at c.in-Ok-Some.ensures.registers in
    loaded-there (unix_of c.args.state.now) c.args.file.now plan c.requires.file (sym c.in-Ok.ensures.plan)
    (sym (c.has_room_to_start.ensures c.args.file.now plan (c.mapped.ensures.mapped ∙ ap mapped_pages (memory ∙ is))) ∙ c.if-not-has_room_to_start.false)
    ∙ ap (λ (process : Process). Ok (with_first_process (unix_of c.args.state.now) process))
    (sym (c.first_process.ensures c.args.file.now plan (registers ∙ ap (start_registers plan.entry) strings) (memory ∙ is) refl))
