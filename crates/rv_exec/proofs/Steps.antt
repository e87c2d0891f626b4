-- One instruction, by its parts.
use Rattle.std.proofs.Common.{◌≡◌, ◌⊎◌, ℕ, ◌%◌, ◌==◌, ◌/◌, ◌*◌, Bool, true, false, List, Option, Some, None, refl, ap, ◌∙◌, inl, inr, if◌then◌else◌}
use Rattle.unix_model.specs.declared.instructions.Access.{Access}
use Rattle.unix_model.specs.declared.instructions.Access.TheVariants.{Finished}
use Rattle.unix_model.specs.declared.instructions.Cause.TheVariants.{BadTarget, BadFetch}
use Rattle.unix_model.specs.declared.instructions.Instr.{Instr}
use Rattle.unix_model.specs.declared.instructions.Instr.TheVariants.{Lui, Auipc, Jal, Jalr, Branch, Load, Store, OpImm, Op, Fence, Ecall, Ebreak}
use Rattle.unix_model.specs.declared.instructions.Outcome.TheVariants.{Next, Fault}
use Rattle.unix_model.specs.declared.instructions.Regs.{Regs}
use Rattle.unix_model.specs.Execution.{Begun, Executed, executed, executed_word, executed_instruction, accessed, loaded, stops, goes_on, begun, begun_by, faulted, address_of, is_taken, register_word, load_size, store_size}
use Rattle.unix_model.specs.Instructions.{decoded}
use Rattle.unix_model.specs.Memory.{Memory, word_at, bytes_at, all_writable}
use Rattle.unix_model.specs.Numbers.{plus_signed}

pub step : (regs first : Regs) (memory : Memory) (word : ℕ) (access : Access) → word_at memory regs.pc ≡ Some word → begun_by regs (decoded word) ≡ record { registers = first; access = access } → executed regs memory ≡ accessed first (decoded word) memory access
unfolding executed
step regs first memory word access there begins =
    ap (executed_word regs memory) there
    ∙ ap (λ (b : Begun). accessed b.registers (decoded word) memory b.access) begins

pub fetch : (regs : Regs) (memory : Memory) → word_at memory regs.pc ≡ None → executed regs memory ≡ faulted regs memory BadFetch
unfolding executed
fetch regs memory unmapped = ap (executed_word regs memory) unmapped

-- the next instruction follows, or nothing has changed
abbrev Stops : Regs → Memory → Executed → Type 0
Stops regs memory executed = (executed.outcome ≡ Next) ⊎ ((executed.registers ≡ regs) × (executed.memory ≡ memory))

abbrev of_begun : Begun → Option Instr → Memory → Executed
of_begun begun instr memory = accessed begun.registers instr memory begun.access

jump_stops : (regs after : Regs) (instr : Option Instr) (memory : Memory) (aligned : Bool)
    → Stops regs memory (of_begun (if aligned then record { registers = after; access = Finished Next } else stops regs (Fault BadTarget)) instr memory)
jump_stops regs after instr memory true = inl refl
jump_stops regs after instr memory false = inr (refl, refl)

branch_stops : (regs after : Regs) (instr : Option Instr) (memory : Memory) (taken aligned : Bool)
    → Stops regs memory (of_begun (if taken then (if aligned then record { registers = after; access = Finished Next } else stops regs (Fault BadTarget)) else goes_on regs) instr memory)
branch_stops regs after instr memory true aligned = jump_stops regs after instr memory aligned
branch_stops regs after instr memory false aligned = inl refl

load_stops : (regs : Regs) (instr : Option Instr) (memory : Memory) (found : Option (List ℕ)) → Stops regs memory (loaded regs instr memory found)
load_stops regs instr memory None = inr (refl, refl)
load_stops regs instr memory (Some bytes) = inl refl

store_stops : (regs after : Regs) (memory after_memory : Memory) (fault : Executed) (writable : Bool) → Stops regs memory fault
    → Stops regs memory (if writable then record { registers = after; memory = after_memory; outcome = Next } else fault)
store_stops regs after memory after_memory fault true stops = inl refl
store_stops regs after memory after_memory fault false stops = stops

instr_stops : (regs : Regs) (memory : Memory) (instr : Instr) → Stops regs memory (executed_instruction regs memory (Some instr))
instr_stops regs memory (Lui rd imm) = inl refl
instr_stops regs memory (Auipc rd imm) = inl refl
instr_stops regs memory (Jal rd imm) = jump_stops regs _ (Some (Jal rd imm)) memory (plus_signed regs.pc imm % 4 == 0)
instr_stops regs memory (Jalr rd rs1 imm) = jump_stops regs _ (Some (Jalr rd rs1 imm)) memory (address_of regs rs1 imm / 2 * 2 % 4 == 0)
instr_stops regs memory (Branch op rs1 rs2 imm) = branch_stops regs _ (Some (Branch op rs1 rs2 imm)) memory (is_taken op (register_word regs rs1) (register_word regs rs2)) (plus_signed regs.pc imm % 4 == 0)
instr_stops regs memory (Load op rd rs1 imm) = load_stops regs (Some (Load op rd rs1 imm)) memory (bytes_at memory (address_of regs rs1 imm) (load_size op))
instr_stops regs memory (Store op rs1 rs2 imm) = store_stops regs _ memory _ _ (all_writable memory (address_of regs rs1 imm) (store_size op)) (inr (refl, refl))
instr_stops regs memory (OpImm op rd rs1 imm) = inl refl
instr_stops regs memory (Op op rd rs1 rs2) = inl refl
instr_stops regs memory Fence = inl refl
instr_stops regs memory Ecall = inr (refl, refl)
instr_stops regs memory Ebreak = inr (refl, refl)

by_stops : (regs : Regs) (memory : Memory) (instr : Option Instr) → Stops regs memory (executed_instruction regs memory instr)
by_stops regs memory None = inr (refl, refl)
by_stops regs memory (Some instr) = instr_stops regs memory instr

word_stops : (regs : Regs) (memory : Memory) (word : Option ℕ) → Stops regs memory (executed_word regs memory word)
word_stops regs memory None = inr (refl, refl)
word_stops regs memory (Some word) = by_stops regs memory (decoded word)

pub stop : (regs : Regs) (memory : Memory) → ((executed regs memory).outcome ≡ Next) ⊎ (((executed regs memory).registers ≡ regs) × ((executed regs memory).memory ≡ memory))
unfolding executed
stop regs memory = word_stops regs memory (word_at memory regs.pc)
