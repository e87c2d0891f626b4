-- Each operation is named by its name.
use Rattle.std.proofs.Common.{◌≡◌, Some, refl}
use Rattle.unix_model.specs.declared.instructions.BranchOp.{BranchOp}
use Rattle.unix_model.specs.declared.instructions.BranchOp.TheVariants.{Beq, Bne, Blt, Bge, Bltu, Bgeu}
use Rattle.unix_model.specs.declared.instructions.ImmOp.{ImmOp}
use Rattle.unix_model.specs.declared.instructions.ImmOp.TheVariants.{Addi, Slli, Slti, Sltiu, Xori, Srli, Srai, Ori, Andi}
use Rattle.unix_model.specs.declared.instructions.LoadOp.{LoadOp}
use Rattle.unix_model.specs.declared.instructions.LoadOp.TheVariants.{Lb, Lh, Lw, Lbu, Lhu}
use Rattle.unix_model.specs.declared.instructions.RegOp.{RegOp}
use Rattle.unix_model.specs.declared.instructions.RegOp.TheVariants.{Add, Sub, Sll, Slt, Sltu, Xor, Srl, Sra, Or, And}
use Rattle.unix_model.specs.declared.instructions.StoreOp.{StoreOp}
use Rattle.unix_model.specs.declared.instructions.StoreOp.TheVariants.{Sb, Sh, Sw}
use Rattle.rv_asm.specs.declared.mnemonics.Mnemonic.TheVariants.{Branch, Load, Store, Imm, Reg}
use Rattle.rv_asm.specs.Mnemonics.{branch_name, branch_named, load_name, load_named, store_name, store_named, imm_name, imm_named, reg_name, reg_named, mnemonic_named}

pub branch-named : (op : BranchOp) → branch_named (branch_name op) ≡ Some op
unfolding branch_named
branch-named Beq = refl
branch-named Bne = refl
branch-named Blt = refl
branch-named Bge = refl
branch-named Bltu = refl
branch-named Bgeu = refl

pub load-named : (op : LoadOp) → load_named (load_name op) ≡ Some op
unfolding load_named
load-named Lb = refl
load-named Lh = refl
load-named Lw = refl
load-named Lbu = refl
load-named Lhu = refl

pub store-named : (op : StoreOp) → store_named (store_name op) ≡ Some op
unfolding store_named
store-named Sb = refl
store-named Sh = refl
store-named Sw = refl

pub imm-named : (op : ImmOp) → imm_named (imm_name op) ≡ Some op
unfolding imm_named
imm-named Addi = refl
imm-named Slli = refl
imm-named Slti = refl
imm-named Sltiu = refl
imm-named Xori = refl
imm-named Srli = refl
imm-named Srai = refl
imm-named Ori = refl
imm-named Andi = refl

pub reg-named : (op : RegOp) → reg_named (reg_name op) ≡ Some op
unfolding reg_named
reg-named Add = refl
reg-named Sub = refl
reg-named Sll = refl
reg-named Slt = refl
reg-named Sltu = refl
reg-named Xor = refl
reg-named Srl = refl
reg-named Sra = refl
reg-named Or = refl
reg-named And = refl

pub branch-alone : (op : BranchOp) → mnemonic_named (branch_name op) ≡ Some (Branch op)
unfolding reg_named imm_named load_named store_named branch_named
branch-alone Beq = refl
branch-alone Bne = refl
branch-alone Blt = refl
branch-alone Bge = refl
branch-alone Bltu = refl
branch-alone Bgeu = refl

pub load-alone : (op : LoadOp) → mnemonic_named (load_name op) ≡ Some (Load op)
unfolding reg_named imm_named load_named
load-alone Lb = refl
load-alone Lh = refl
load-alone Lw = refl
load-alone Lbu = refl
load-alone Lhu = refl

pub store-alone : (op : StoreOp) → mnemonic_named (store_name op) ≡ Some (Store op)
unfolding reg_named imm_named load_named store_named
store-alone Sb = refl
store-alone Sh = refl
store-alone Sw = refl

pub imm-alone : (op : ImmOp) → mnemonic_named (imm_name op) ≡ Some (Imm op)
unfolding reg_named imm_named
imm-alone Addi = refl
imm-alone Slli = refl
imm-alone Slti = refl
imm-alone Sltiu = refl
imm-alone Xori = refl
imm-alone Srli = refl
imm-alone Srai = refl
imm-alone Ori = refl
imm-alone Andi = refl

pub reg-alone : (op : RegOp) → mnemonic_named (reg_name op) ≡ Some (Reg op)
unfolding reg_named
reg-alone Add = refl
reg-alone Sub = refl
reg-alone Sll = refl
reg-alone Slt = refl
reg-alone Sltu = refl
reg-alone Xor = refl
reg-alone Srl = refl
reg-alone Sra = refl
reg-alone Or = refl
reg-alone And = refl
