-- An instruction leaves registers and memory that are such.
use Rattle.std.proofs.Common.{◌≡◌, ℕ, ◌+◌, ◌*◌, ◌/◌, ◌%◌, ◌^◌, Bool, true, false, List, Option, Some, None, arith, refl, sym, ◌∙◌, inl, inr, get_or, length}
use Rattle.std.proofs.Math.Nat.{div-mul-le_self}
use Rattle.std.proofs.lemmas.Bool.{cases_Bool, cases_lt}
use Rattle.std.proofs.lemmas.Int.{ints}
use Rattle.std.proofs.lemmas.List.{get_or-set_other, get_or_past, length-set}
use Rattle.std.proofs.lemmas.List.Elements.{All-get_or, All-set}
use Rattle.std.specs.Int.{bytes_low_first, cast_unsigned, w32}
use Rattle.std.specs.Prelude.{All, pos, ◌<ℤ◌, ◌==◌, if◌then◌else◌}
use Rattle.unix_model.specs.declared.instructions.Access.{Access}
use Rattle.unix_model.specs.declared.instructions.Access.TheVariants.{Finished, Load as WantsLoad, Store as WantsStore}
use Rattle.unix_model.specs.declared.instructions.ImmOp.{ImmOp}
use Rattle.unix_model.specs.declared.instructions.ImmOp.TheVariants.{Addi, Slli, Slti, Sltiu, Xori, Srli, Srai, Ori, Andi}
use Rattle.unix_model.specs.declared.instructions.Instr.{Instr}
use Rattle.unix_model.specs.declared.instructions.Instr.TheVariants.{Lui, Auipc, Jal, Jalr, Branch, Load, Store, OpImm, Op, Fence, Ecall, Ebreak}
use Rattle.unix_model.specs.declared.instructions.BranchOp.{BranchOp}
use Rattle.unix_model.specs.declared.instructions.LoadOp.{LoadOp}
use Rattle.unix_model.specs.declared.instructions.RegOp.{RegOp}
use Rattle.unix_model.specs.declared.instructions.StoreOp.{StoreOp}
use Rattle.unix_model.specs.declared.instructions.Regs.{Regs}
use Rattle.unix_model.specs.Execution.{Executed, accessed, address_of, at_next, begun_by, branches, executed, executed_word, imm_value, is_taken, jumps, load_ended, load_value, loaded, next_pc, reg_op_of, reg_value, register_word, stored, with_register, writes}
use Rattle.unix_model.specs.Instructions.{branch_of, branch_op, decoded, field, funct3, funct7, imm_op, immediate_I, load_of, load_op, op_imm_of, op_of, opcode, operand, reg_op, store_of, store_op}
use Rattle.unix_model.specs.Memory.{Memory, all_writable, bytes_at, word_at}
use Rattle.unix_model.specs.Numbers.{plus_signed, word_of_bytes}
use Rattle.unix_model.specs.Rules.{AreRegisters, IsMemory, IsWord}
use Rattle.unix_laws.proofs.Basics.{apart-of, same-of}
use Rattle.unix_rules.proofs.Pages.{bytes-read, bytes-written, get-byte}
use Rattle.unix_rules.proofs.Words.{bytes-word, cast-word, load-word, low-bytes, reg-word, signed-below_12}
use Rattle.unix_rules.specs.ProcessRules.{ExecutedStays}

-- ---- registers

pub word-in : (words : List ℕ) → All IsWord words → (i : ℕ) → IsWord (get_or words i 0)
word-in words each i = elim (cases_lt i (length words)) as (λ _. IsWord (get_or words i 0)) [
  | inl below ↦ All-get_or IsWord words i 0 below each
  | inr past ↦ let zero_is : get_or words i 0 ≡ 0 = get_or_past words i 0 past in omega (arith, zero_is)
]

pub read-word : (regs : Regs) → AreRegisters regs → (number : ℕ) → IsWord (register_word regs number)
read-word regs are number = word-in regs.x are.words number

pub register-written : (regs : Regs) (number word : ℕ) → AreRegisters regs → IsWord word → AreRegisters (with_register regs number word)
register-written regs number word are is = elim (cases_Bool (number == 0)) as (λ _. AreRegisters (with_register regs number word)) [
  | inl first ↦ rw first are
  | inr rest ↦ rw rest record {
    count = length-set regs.x number word ∙ are.count;
    words = All-set IsWord regs.x number word is are.words;
    zero_is_zero = get_or-set_other regs.x number 0 word 0 (λ e. apart-of number 0 rest (sym e)) ∙ are.zero_is_zero;
    pc_word = are.pc_word;
    pc_aligned = are.pc_aligned;
  }
]

-- another address of the next instruction
pub pc-written : (regs : Regs) (pc : ℕ) → AreRegisters regs → IsWord pc → pc % 4 ≡ 0 → AreRegisters (record regs { pc = pc })
pc-written regs pc are word aligned = record { count = are.count; words = are.words; zero_is_zero = are.zero_is_zero; pc_word = word; pc_aligned = aligned }

pub next-stays : (regs : Regs) → AreRegisters regs → AreRegisters (at_next regs)
next-stays regs are = pc-written regs (next_pc regs) are (omega arith) (omega (arith, are.pc_aligned))

jump-stays : (regs : Regs) (rd target : ℕ) → AreRegisters regs → IsWord target → AreRegisters (jumps regs rd target).registers
jump-stays regs rd target are word = elim (cases_Bool (target % 4 == 0)) as (λ _. AreRegisters (jumps regs rd target).registers) [
  | inl aligned ↦ rw aligned (pc-written (with_register regs rd (next_pc regs)) target (register-written regs rd (next_pc regs) are (omega arith)) word (same-of (target % 4) 0 aligned))
  | inr not ↦ rw not are
]

branch-stays : (regs : Regs) (taken : Bool) (target : ℕ) → AreRegisters regs → IsWord target → AreRegisters (branches regs taken target).registers
branch-stays regs true target are word = jump-stays regs 0 target are word
branch-stays regs false target are word = next-stays regs are

write-stays : (regs : Regs) (rd word : ℕ) → AreRegisters regs → IsWord word → AreRegisters (writes regs rd word).registers
write-stays regs rd word are is = next-stays (with_register regs rd word) (register-written regs rd word are is)

-- ---- what a word spells

-- immediates that are words
abbrev Narrow : Option Instr → Type 0
Narrow None = Unit {0}
Narrow (Some (Lui rd imm)) = IsWord imm
Narrow (Some (Auipc rd imm)) = Unit {0}
Narrow (Some (Jal rd imm)) = Unit {0}
Narrow (Some (Jalr rd rs1 imm)) = Unit {0}
Narrow (Some (Branch op rs1 rs2 imm)) = Unit {0}
Narrow (Some (Load op rd rs1 imm)) = Unit {0}
Narrow (Some (Store op rs1 rs2 imm)) = Unit {0}
Narrow (Some (OpImm op rd rs1 imm)) = imm <ℤ pos (2 ^ 32)
Narrow (Some (Op op rd rs1 rs2)) = Unit {0}
Narrow (Some Fence) = Unit {0}
Narrow (Some Ecall) = Unit {0}
Narrow (Some Ebreak) = Unit {0}

choose : (test : Bool) (first second : Option Instr) → Narrow first → Narrow second → Narrow (if test then first else second)
choose true first second one two = one
choose false first second one two = two

immediate-narrow : (word : ℕ) → immediate_I word <ℤ pos (2 ^ 32)
immediate-narrow word = signed-below_12 (field word 31 20) (omega arith)

operand-narrow : (op : ImmOp) (word : ℕ) → operand op word <ℤ pos (2 ^ 32)
operand-narrow Addi word = immediate-narrow word
operand-narrow Slli word = omega (arith, ints)
operand-narrow Slti word = immediate-narrow word
operand-narrow Sltiu word = immediate-narrow word
operand-narrow Xori word = immediate-narrow word
operand-narrow Srli word = omega (arith, ints)
operand-narrow Srai word = omega (arith, ints)
operand-narrow Ori word = immediate-narrow word
operand-narrow Andi word = immediate-narrow word

op-imm-narrow : (word : ℕ) (op : Option ImmOp) → Narrow (op_imm_of word op)
op-imm-narrow word None = tt
op-imm-narrow word (Some op) = operand-narrow op word

branch-narrow : (word : ℕ) (op : Option BranchOp) → Narrow (branch_of word op)
branch-narrow word None = tt
branch-narrow word (Some op) = tt

load-narrow : (word : ℕ) (op : Option LoadOp) → Narrow (load_of word op)
load-narrow word None = tt
load-narrow word (Some op) = tt

store-narrow : (word : ℕ) (op : Option StoreOp) → Narrow (store_of word op)
store-narrow word None = tt
store-narrow word (Some op) = tt

op-narrow : (word : ℕ) (op : Option RegOp) → Narrow (op_of word op)
op-narrow word None = tt
op-narrow word (Some op) = tt

decoded-narrow : (word : ℕ) → Narrow (decoded word)
unfolding decoded
decoded-narrow word =
    choose (opcode word == 0b0110111) _ _ (omega arith)
    (choose (opcode word == 0b0010111) _ _ tt
    (choose (opcode word == 0b1101111) _ _ tt
    (choose (opcode word == 0b1100111) _ _ (choose (funct3 word == 0) _ _ tt tt)
    (choose (opcode word == 0b1100011) _ _ (branch-narrow word (branch_op (funct3 word)))
    (choose (opcode word == 0b0000011) _ _ (load-narrow word (load_op (funct3 word)))
    (choose (opcode word == 0b0100011) _ _ (store-narrow word (store_op (funct3 word)))
    (choose (opcode word == 0b0010011) _ _ (op-imm-narrow word (imm_op (funct3 word) (funct7 word)))
    (choose (opcode word == 0b0110011) _ _ (op-narrow word (reg_op (funct3 word) (funct7 word)))
    (choose (opcode word == 0b0001111) _ _ (choose (funct3 word == 0) _ _ tt tt)
    (choose (opcode word == 0b1110011) _ _ (choose (word == 0x0000_0073) _ _ tt (choose (word == 0x0010_0073) _ _ tt tt)) tt))))))))))

-- ---- an instruction

-- registers and a memory that are such
abbrev Good : Executed → Type 0
Good done = AreRegisters done.registers × IsMemory done.memory

begun-stays : (regs : Regs) (instr : Option Instr) → AreRegisters regs → Narrow instr → AreRegisters (begun_by regs instr).registers
begun-stays regs None are narrow = are
begun-stays regs (Some (Lui rd imm)) are narrow = write-stays regs rd imm are narrow
begun-stays regs (Some (Auipc rd imm)) are narrow = write-stays regs rd ((regs.pc + imm) % 2 ^ 32) are (omega arith)
begun-stays regs (Some (Jal rd imm)) are narrow = jump-stays regs rd (plus_signed regs.pc imm) are (omega arith)
begun-stays regs (Some (Jalr rd rs1 imm)) are narrow = jump-stays regs rd (address_of regs rs1 imm / 2 * 2) are (omega (arith, div-mul-le_self (address_of regs rs1 imm) 2))
begun-stays regs (Some (Branch op rs1 rs2 imm)) are narrow = branch-stays regs (is_taken op (register_word regs rs1) (register_word regs rs2)) (plus_signed regs.pc imm) are (omega arith)
begun-stays regs (Some (Load op rd rs1 imm)) are narrow = are
begun-stays regs (Some (Store op rs1 rs2 imm)) are narrow = are
begun-stays regs (Some (OpImm op rd rs1 imm)) are narrow =
    write-stays regs rd (imm_value op (register_word regs rs1) imm) are (reg-word (reg_op_of op) (register_word regs rs1) (cast_unsigned w32 imm) (read-word regs are rs1) (cast-word imm narrow))
begun-stays regs (Some (Op op rd rs1 rs2)) are narrow =
    write-stays regs rd (reg_value op (register_word regs rs1) (register_word regs rs2)) are (reg-word op (register_word regs rs1) (register_word regs rs2) (read-word regs are rs1) (read-word regs are rs2))
begun-stays regs (Some Fence) are narrow = next-stays regs are
begun-stays regs (Some Ecall) are narrow = are
begun-stays regs (Some Ebreak) are narrow = are

load-stays : (regs : Regs) (instr : Option Instr) (number : ℕ) → AreRegisters regs → IsWord number → AreRegisters (load_ended regs instr number)
load-stays regs None number are word = are
load-stays regs (Some (Lui rd imm)) number are word = are
load-stays regs (Some (Auipc rd imm)) number are word = are
load-stays regs (Some (Jal rd imm)) number are word = are
load-stays regs (Some (Jalr rd rs1 imm)) number are word = are
load-stays regs (Some (Branch op rs1 rs2 imm)) number are word = are
load-stays regs (Some (Load op rd rs1 imm)) number are word =
    next-stays (with_register regs rd (load_value op number)) (register-written regs rd (load_value op number) are (load-word op number word))
load-stays regs (Some (Store op rs1 rs2 imm)) number are word = are
load-stays regs (Some (OpImm op rd rs1 imm)) number are word = are
load-stays regs (Some (Op op rd rs1 rs2)) number are word = are
load-stays regs (Some Fence) number are word = are
load-stays regs (Some Ecall) number are word = are
load-stays regs (Some Ebreak) number are word = are

loaded-stays : (regs : Regs) (instr : Option Instr) (memory : Memory) (address size : ℕ) (found : Option (List ℕ)) → bytes_at memory address size ≡ found → AreRegisters regs → IsMemory memory
    → Good (loaded regs instr memory found)
loaded-stays regs instr memory address size None e are is = (are, is)
loaded-stays regs instr memory address size (Some bytes) e are is =
    (load-stays regs instr (word_of_bytes bytes) are (bytes-word bytes (get-byte bytes (bytes-read memory address size bytes is e).bytes)), is)

stored-stays : (regs : Regs) (memory : Memory) (address size value : ℕ) → AreRegisters regs → IsMemory memory → Good (stored regs memory address size value)
stored-stays regs memory address size value are is = elim (cases_Bool (all_writable memory address size)) as (λ _. Good (stored regs memory address size value)) [
  | inl may ↦ rw may (next-stays regs are, bytes-written memory address (bytes_low_first 0 size value) is (low-bytes 0 size value))
  | inr not ↦ rw not (are, is)
]

accessed-stays : (regs : Regs) (instr : Option Instr) (memory : Memory) (access : Access) → AreRegisters regs → IsMemory memory → Good (accessed regs instr memory access)
accessed-stays regs instr memory (Finished outcome) are is = (are, is)
accessed-stays regs instr memory (WantsLoad address size) are is = loaded-stays regs instr memory address size (bytes_at memory address size) refl are is
accessed-stays regs instr memory (WantsStore address size value) are is = stored-stays regs memory address size value are is

word-stays : (regs : Regs) (memory : Memory) (found : Option ℕ) → AreRegisters regs → IsMemory memory → Good (executed_word regs memory found)
word-stays regs memory None are is = (are, is)
word-stays regs memory (Some word) are is =
    accessed-stays (begun_by regs (decoded word)).registers (decoded word) memory (begun_by regs (decoded word)).access (begun-stays regs (decoded word) are (decoded-narrow word)) is

pub executed_stays : ExecutedStays
unfolding executed
executed_stays regs memory are is = word-stays regs memory (word_at memory regs.pc) are is
