-- The instructions that a word can spell: register numbers are below 32, and immediates are in the range of their
-- format.
use Rattle.std.specs.Prelude.{◌≡◌, ℕ, ◌-◌, ◌%◌, ◌^◌, ◌<◌, ℤ, pos, neg_ℤ, ◌≤ℤ◌, ◌<ℤ◌}
use Rattle.std.specs.Int.{cast_unsigned, w32}
use Rattle.unix_model.specs.declared.instructions.ImmOp.{ImmOp}
use Rattle.unix_model.specs.declared.instructions.ImmOp.TheVariants.{Addi, Slli, Slti, Sltiu, Xori, Srli, Srai, Ori, Andi}
use Rattle.unix_model.specs.declared.instructions.Instr.{Instr}
use Rattle.unix_model.specs.declared.instructions.Instr.TheVariants.{Lui, Auipc, Jal, Jalr, Branch, Load, Store, OpImm, Op, Fence, Ecall, Ebreak}

abbrev pub IsRegister : ℕ → Type 0
IsRegister number = number < 32

-- a number that so many bits spell in two's complement
abbrev pub IsSigned : ℕ → ℤ → Type 0
IsSigned bits immediate = (neg_ℤ (pos (2 ^ (bits - 1))) ≤ℤ immediate) × (immediate <ℤ pos (2 ^ (bits - 1)))

-- its lowest bit is 0
abbrev pub IsEven : ℤ → Type 0
IsEven immediate = cast_unsigned w32 immediate % 2 ≡ 0

-- its lowest twelve bits are 0
abbrev pub IsUpper : ℕ → Type 0
IsUpper immediate = immediate % 2 ^ 12 ≡ 0

-- the amount of a shift
abbrev pub IsAmount : ℤ → Type 0
IsAmount immediate = (pos 0 ≤ℤ immediate) × (immediate <ℤ pos 32)

-- the immediate of an operation
abbrev pub IsOperand : ImmOp → ℤ → Type 0
IsOperand Addi immediate = IsSigned 12 immediate
IsOperand Slli immediate = IsAmount immediate
IsOperand Slti immediate = IsSigned 12 immediate
IsOperand Sltiu immediate = IsSigned 12 immediate
IsOperand Xori immediate = IsSigned 12 immediate
IsOperand Srli immediate = IsAmount immediate
IsOperand Srai immediate = IsAmount immediate
IsOperand Ori immediate = IsSigned 12 immediate
IsOperand Andi immediate = IsSigned 12 immediate

abbrev pub Fits : Instr → Type 0
Fits (Lui rd imm) = IsRegister rd × IsUpper imm
Fits (Auipc rd imm) = IsRegister rd × IsUpper imm
Fits (Jal rd imm) = IsRegister rd × IsSigned 21 imm × IsEven imm
Fits (Jalr rd rs1 imm) = IsRegister rd × IsRegister rs1 × IsSigned 12 imm
Fits (Branch op rs1 rs2 imm) = IsRegister rs1 × IsRegister rs2 × IsSigned 13 imm × IsEven imm
Fits (Load op rd rs1 imm) = IsRegister rd × IsRegister rs1 × IsSigned 12 imm
Fits (Store op rs1 rs2 imm) = IsRegister rs1 × IsRegister rs2 × IsSigned 12 imm
Fits (OpImm op rd rs1 imm) = IsRegister rd × IsRegister rs1 × IsOperand op imm
Fits (Op op rd rs1 rs2) = IsRegister rd × IsRegister rs1 × IsRegister rs2
Fits Fence = Unit {0}
Fits Ecall = Unit {0}
Fits Ebreak = Unit {0}
