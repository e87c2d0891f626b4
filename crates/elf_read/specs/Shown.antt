-- What the reader's answers say in the words of the definitions.
use Rattle.std.specs.Prelude.{List, Result, Ok, Err}
use Rattle.arrayvec.specs.ArrayVec.{ArrayVec}
use Rattle.unix_model.specs.declared.elf.Load.{Load}
use Rattle.unix_model.specs.declared.elf.ElfFault.{ElfFault}
use Rattle.unix_model.specs.Elf.{LoadPlan}
use Rattle.elf_read.specs.declared.plan.ElfPlan.{ElfPlan}

-- the loads as a list, or the refusal
abbrev pub shown_loads : Result (ArrayVec Load) ElfFault → Result (List Load) ElfFault
shown_loads (Ok loads) = Ok loads.items
shown_loads (Err fault) = Err fault

-- the plan with its loads as a list
abbrev pub shown_plan : ElfPlan → LoadPlan
shown_plan plan = record { entry = plan.entry; loads = plan.loads.items; break_start = plan.break_start }

-- that plan, or the refusal
abbrev pub shown_answer : Result ElfPlan ElfFault → Result LoadPlan ElfFault
shown_answer (Ok plan) = Ok (shown_plan plan)
shown_answer (Err fault) = Err fault
