-- The words of statements, a line for each instruction. Each operation has its name, and is named by it alone.
use Rattle.std.specs.Prelude.{ℕ, List, codes, Option, Some, None, option_map, bytes_eq, if◌then◌else◌}
use Rattle.unix_model.specs.declared.instructions.BranchOp.{BranchOp}
use Rattle.unix_model.specs.declared.instructions.BranchOp.TheVariants.{Beq, Bne, Blt, Bge, Bltu, Bgeu}
use Rattle.unix_model.specs.declared.instructions.ImmOp.{ImmOp}
use Rattle.unix_model.specs.declared.instructions.ImmOp.TheVariants.{Addi, Slli, Slti, Sltiu, Xori, Srli, Srai, Ori, Andi}
use Rattle.unix_model.specs.declared.instructions.LoadOp.{LoadOp}
use Rattle.unix_model.specs.declared.instructions.LoadOp.TheVariants.{Lb, Lh, Lw, Lbu, Lhu}
use Rattle.unix_model.specs.declared.instructions.RegOp.{RegOp}
use Rattle.unix_model.specs.declared.instructions.RegOp.TheVariants.{Add, Sub, Sll, Slt, Sltu, Xor, Srl, Sra, Or, And}
use Rattle.unix_model.specs.declared.instructions.StoreOp.{StoreOp}
use Rattle.unix_model.specs.declared.instructions.StoreOp.TheVariants.{Sb, Sh, Sw}
use Rattle.rv_asm.specs.declared.mnemonics.Directive.{Directive}
use Rattle.rv_asm.specs.declared.mnemonics.Directive.TheVariants.{Word, Byte, Ascii, Space, Align}
use Rattle.rv_asm.specs.declared.mnemonics.Mnemonic.{Mnemonic}
use Rattle.rv_asm.specs.declared.mnemonics.Mnemonic.TheVariants.{Lui, Auipc, Jal, Jalr, Branch, Load, Store, Imm, Reg, Fence, Ecall, Ebreak, Li, La, Mv, Nop, J, Call, Ret, Beqz, Bnez}
use Rattle.rv_asm.specs.declared.mnemonics.Part.{Part}
use Rattle.rv_asm.specs.declared.mnemonics.Part.TheVariants.{Text, Data}

unfoldable pub branch_named : List ℕ → Option BranchOp
branch_named word =
    if bytes_eq word (codes "beq") then Some Beq else
    if bytes_eq word (codes "bne") then Some Bne else
    if bytes_eq word (codes "blt") then Some Blt else
    if bytes_eq word (codes "bge") then Some Bge else
    if bytes_eq word (codes "bltu") then Some Bltu else
    if bytes_eq word (codes "bgeu") then Some Bgeu else
    None

unfoldable pub load_named : List ℕ → Option LoadOp
load_named word =
    if bytes_eq word (codes "lb") then Some Lb else
    if bytes_eq word (codes "lh") then Some Lh else
    if bytes_eq word (codes "lw") then Some Lw else
    if bytes_eq word (codes "lbu") then Some Lbu else
    if bytes_eq word (codes "lhu") then Some Lhu else
    None

unfoldable pub store_named : List ℕ → Option StoreOp
store_named word =
    if bytes_eq word (codes "sb") then Some Sb else
    if bytes_eq word (codes "sh") then Some Sh else
    if bytes_eq word (codes "sw") then Some Sw else
    None

unfoldable pub imm_named : List ℕ → Option ImmOp
imm_named word =
    if bytes_eq word (codes "addi") then Some Addi else
    if bytes_eq word (codes "slli") then Some Slli else
    if bytes_eq word (codes "slti") then Some Slti else
    if bytes_eq word (codes "sltiu") then Some Sltiu else
    if bytes_eq word (codes "xori") then Some Xori else
    if bytes_eq word (codes "srli") then Some Srli else
    if bytes_eq word (codes "srai") then Some Srai else
    if bytes_eq word (codes "ori") then Some Ori else
    if bytes_eq word (codes "andi") then Some Andi else
    None

unfoldable pub reg_named : List ℕ → Option RegOp
reg_named word =
    if bytes_eq word (codes "add") then Some Add else
    if bytes_eq word (codes "sub") then Some Sub else
    if bytes_eq word (codes "sll") then Some Sll else
    if bytes_eq word (codes "slt") then Some Slt else
    if bytes_eq word (codes "sltu") then Some Sltu else
    if bytes_eq word (codes "xor") then Some Xor else
    if bytes_eq word (codes "srl") then Some Srl else
    if bytes_eq word (codes "sra") then Some Sra else
    if bytes_eq word (codes "or") then Some Or else
    if bytes_eq word (codes "and") then Some And else
    None

-- the instructions that stand alone, and the short forms
unfoldable pub other_named : List ℕ → Option Mnemonic
other_named word =
    if bytes_eq word (codes "lui") then Some Lui else
    if bytes_eq word (codes "auipc") then Some Auipc else
    if bytes_eq word (codes "jal") then Some Jal else
    if bytes_eq word (codes "jalr") then Some Jalr else
    if bytes_eq word (codes "fence") then Some Fence else
    if bytes_eq word (codes "ecall") then Some Ecall else
    if bytes_eq word (codes "ebreak") then Some Ebreak else
    if bytes_eq word (codes "li") then Some Li else
    if bytes_eq word (codes "la") then Some La else
    if bytes_eq word (codes "mv") then Some Mv else
    if bytes_eq word (codes "nop") then Some Nop else
    if bytes_eq word (codes "j") then Some J else
    if bytes_eq word (codes "call") then Some Call else
    if bytes_eq word (codes "ret") then Some Ret else
    if bytes_eq word (codes "beqz") then Some Beqz else
    if bytes_eq word (codes "bnez") then Some Bnez else
    None

abbrev pub or_else : {A : Type 0} → Option A → Option A → Option A
or_else None other = other
or_else (Some first) other = Some first

-- what a word in `.text` says
abbrev pub mnemonic_named : List ℕ → Option Mnemonic
mnemonic_named word =
    or_else (option_map (λ op. Reg op) (reg_named word))
    (or_else (option_map (λ op. Imm op) (imm_named word))
    (or_else (option_map (λ op. Load op) (load_named word))
    (or_else (option_map (λ op. Store op) (store_named word))
    (or_else (option_map (λ op. Branch op) (branch_named word))
    (other_named word)))))

-- what a word in `.data` says
unfoldable pub directive_named : List ℕ → Option Directive
directive_named word =
    if bytes_eq word (codes ".word") then Some Word else
    if bytes_eq word (codes ".byte") then Some Byte else
    if bytes_eq word (codes ".ascii") then Some Ascii else
    if bytes_eq word (codes ".space") then Some Space else
    if bytes_eq word (codes ".align") then Some Align else
    None

-- the part that a word switches to
unfoldable pub part_named : List ℕ → Option Part
part_named word =
    if bytes_eq word (codes ".text") then Some Text else
    if bytes_eq word (codes ".data") then Some Data else
    None

-- ---- the names of the operations

abbrev pub branch_name : BranchOp → List ℕ
branch_name Beq = codes "beq"
branch_name Bne = codes "bne"
branch_name Blt = codes "blt"
branch_name Bge = codes "bge"
branch_name Bltu = codes "bltu"
branch_name Bgeu = codes "bgeu"

abbrev pub load_name : LoadOp → List ℕ
load_name Lb = codes "lb"
load_name Lh = codes "lh"
load_name Lw = codes "lw"
load_name Lbu = codes "lbu"
load_name Lhu = codes "lhu"

abbrev pub store_name : StoreOp → List ℕ
store_name Sb = codes "sb"
store_name Sh = codes "sh"
store_name Sw = codes "sw"

abbrev pub imm_name : ImmOp → List ℕ
imm_name Addi = codes "addi"
imm_name Slli = codes "slli"
imm_name Slti = codes "slti"
imm_name Sltiu = codes "sltiu"
imm_name Xori = codes "xori"
imm_name Srli = codes "srli"
imm_name Srai = codes "srai"
imm_name Ori = codes "ori"
imm_name Andi = codes "andi"

abbrev pub reg_name : RegOp → List ℕ
reg_name Add = codes "add"
reg_name Sub = codes "sub"
reg_name Sll = codes "sll"
reg_name Slt = codes "slt"
reg_name Sltu = codes "sltu"
reg_name Xor = codes "xor"
reg_name Srl = codes "srl"
reg_name Sra = codes "sra"
reg_name Or = codes "or"
reg_name And = codes "and"
