-- The numbers that spell the operations.
use Rattle.std.specs.Prelude.{ℕ}
use Rattle.unix_model.specs.declared.instructions.BranchOp.{BranchOp}
use Rattle.unix_model.specs.declared.instructions.BranchOp.TheVariants.{Beq, Bne, Blt, Bge, Bltu, Bgeu}
use Rattle.unix_model.specs.declared.instructions.ImmOp.{ImmOp}
use Rattle.unix_model.specs.declared.instructions.ImmOp.TheVariants.{Addi, Slli, Slti, Sltiu, Xori, Srli, Srai, Ori, Andi}
use Rattle.unix_model.specs.declared.instructions.LoadOp.{LoadOp}
use Rattle.unix_model.specs.declared.instructions.LoadOp.TheVariants.{Lb, Lh, Lw, Lbu, Lhu}
use Rattle.unix_model.specs.declared.instructions.RegOp.{RegOp}
use Rattle.unix_model.specs.declared.instructions.RegOp.TheVariants.{Add, Sub, Sll, Slt, Sltu, Xor, Srl, Sra, Or, And}
use Rattle.unix_model.specs.declared.instructions.StoreOp.{StoreOp}
use Rattle.unix_model.specs.declared.instructions.StoreOp.TheVariants.{Sb, Sh, Sw}

-- funct3 of a branch
abbrev pub branch_number : BranchOp → ℕ
branch_number Beq = 0b000
branch_number Bne = 0b001
branch_number Blt = 0b100
branch_number Bge = 0b101
branch_number Bltu = 0b110
branch_number Bgeu = 0b111

-- funct3 of a load
abbrev pub load_number : LoadOp → ℕ
load_number Lb = 0b000
load_number Lh = 0b001
load_number Lw = 0b010
load_number Lbu = 0b100
load_number Lhu = 0b101

-- funct3 of a store
abbrev pub store_number : StoreOp → ℕ
store_number Sb = 0b000
store_number Sh = 0b001
store_number Sw = 0b010

-- funct3 of an operation of a register and an immediate
abbrev pub imm_number : ImmOp → ℕ
imm_number Addi = 0b000
imm_number Slli = 0b001
imm_number Slti = 0b010
imm_number Sltiu = 0b011
imm_number Xori = 0b100
imm_number Srli = 0b101
imm_number Srai = 0b101
imm_number Ori = 0b110
imm_number Andi = 0b111

-- funct3 of an operation of two registers
abbrev pub reg_number : RegOp → ℕ
reg_number Add = 0b000
reg_number Sub = 0b000
reg_number Sll = 0b001
reg_number Slt = 0b010
reg_number Sltu = 0b011
reg_number Xor = 0b100
reg_number Srl = 0b101
reg_number Sra = 0b101
reg_number Or = 0b110
reg_number And = 0b111

-- funct7 of an operation of two registers
abbrev pub reg_upper : RegOp → ℕ
reg_upper Add = 0b0000000
reg_upper Sub = 0b0100000
reg_upper Sll = 0b0000000
reg_upper Slt = 0b0000000
reg_upper Sltu = 0b0000000
reg_upper Xor = 0b0000000
reg_upper Srl = 0b0000000
reg_upper Sra = 0b0100000
reg_upper Or = 0b0000000
reg_upper And = 0b0000000
