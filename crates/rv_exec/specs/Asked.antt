-- What may be asked of memory, and who answers.
use Rattle.std.specs.Prelude.{◌≡◌, ℕ, ◌*◌, ◌^◌, ◌<◌, ◌⊎◌, Option, Some}
use Rattle.unix_model.specs.declared.instructions.Access.{Access}
use Rattle.unix_model.specs.declared.instructions.Access.TheVariants.{Finished, Load as WantsLoad, Store as WantsStore}
use Rattle.unix_model.specs.declared.instructions.Cause.{Cause}
use Rattle.unix_model.specs.declared.instructions.Cause.TheVariants.{Illegal, BadTarget, BadFetch, BadLoad, BadStore}
use Rattle.unix_model.specs.declared.instructions.Instr.{Instr}
use Rattle.unix_model.specs.declared.instructions.Instr.TheVariants.{Load}
use Rattle.unix_model.specs.declared.instructions.Outcome.{Outcome}
use Rattle.unix_model.specs.declared.instructions.Outcome.TheVariants.{Next, Call, Break, Fault}
use Rattle.unix_model.specs.declared.instructions.Regs.{Regs}
use Rattle.unix_model.specs.Execution.{load_size}

-- the instruction is a load, and its bytes can spell the number
abbrev pub CanLoad : Option Instr → ℕ → Type 0
CanLoad (Some (Load op rd rs1 imm)) number = number < 2 ^ (8 * load_size op)
CanLoad _ number = ⊥

abbrev pub IsSize : ℕ → Type 0
IsSize size = (size ≡ 1) ⊎ ((size ≡ 2) ⊎ (size ≡ 4))

-- the faults that need no memory
abbrev pub IsOwnFault : Cause → Type 0
IsOwnFault Illegal = Unit {0}
IsOwnFault BadTarget = Unit {0}
IsOwnFault BadFetch = ⊥
IsOwnFault BadLoad = ⊥
IsOwnFault BadStore = ⊥

abbrev pub IsOwn : Outcome → Type 0
IsOwn Next = Unit {0}
IsOwn Call = Unit {0}
IsOwn Break = Unit {0}
IsOwn (Fault cause) = IsOwnFault cause

-- an access that an instruction may want: a load of so many bytes, whatever they spell, or a store of a number that so
-- many bytes can spell
abbrev pub IsAccess : Option Instr → Access → Type 0
IsAccess instr (Finished outcome) = IsOwn outcome
IsAccess instr (WantsLoad address size) = IsSize size × ((number : ℕ) → number < 2 ^ (8 * size) → CanLoad instr number)
IsAccess instr (WantsStore address size value) = IsSize size × (value < 2 ^ (8 * size))

-- only an instruction after which the next one follows changes registers before memory was asked
abbrev pub ChangesAtNext : Regs → Regs → Access → Type 0
ChangesAtNext old new (Finished Next) = Unit {0}
ChangesAtNext old new (Finished _) = new ≡ old
ChangesAtNext old new (WantsLoad address size) = new ≡ old
ChangesAtNext old new (WantsStore address size value) = new ≡ old
