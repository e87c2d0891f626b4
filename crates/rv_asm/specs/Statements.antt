-- The statements: what a line's text says, before any label has an address.
use Rattle.std.specs.Prelude.{ℕ, ◌+◌, ◌-◌, ◌*◌, ◌/◌, ◌%◌, Bool, ◌&&◌, List, [], ◌∷◌, Option, Some, None, option_map, ℤ, pos, neg_ℤ, int_le, int_lt, nat_abs, if◌then◌else◌}
use Rattle.unix_model.specs.declared.instructions.BranchOp.{BranchOp}
use Rattle.unix_model.specs.declared.instructions.BranchOp.TheVariants.{Beq, Bne}
use Rattle.unix_model.specs.declared.instructions.ImmOp.{ImmOp}
use Rattle.unix_model.specs.declared.instructions.ImmOp.TheVariants.{Addi, Slli, Slti, Sltiu, Xori, Srli, Srai, Ori, Andi}
use Rattle.unix_model.specs.declared.instructions.Instr.{Instr}
use Rattle.unix_model.specs.declared.instructions.Instr.TheVariants as instr
use Rattle.unix_model.specs.declared.instructions.LoadOp.{LoadOp}
use Rattle.unix_model.specs.declared.instructions.RegOp.{RegOp}
use Rattle.unix_model.specs.declared.instructions.StoreOp.{StoreOp}
use Rattle.unix_model.specs.Numbers.{signed}
use Rattle.rv_asm.specs.declared.mnemonics.Directive.{Directive}
use Rattle.rv_asm.specs.declared.mnemonics.Directive.TheVariants as directive
use Rattle.rv_asm.specs.declared.mnemonics.Mnemonic.{Mnemonic}
use Rattle.rv_asm.specs.declared.mnemonics.Mnemonic.TheVariants as mnemonic
use Rattle.rv_asm.specs.declared.mnemonics.Part.{Part}
use Rattle.rv_asm.specs.declared.mnemonics.Part.TheVariants.{Text, Data}
use Rattle.rv_asm.specs.Choices.{◌>>=◌}
use Rattle.rv_asm.specs.Letters.{is_label}
use Rattle.rv_asm.specs.Lines.{word_of, operands_of, one_operand, two_operands, three_operands}
use Rattle.rv_asm.specs.Mnemonics.{mnemonic_named, directive_named, part_named}
use Rattle.rv_asm.specs.Operands.{register, number, offset_and_base, quoted}

-- What a line says. None stands where a number doesn't fit; such a line is refused only once all lines were read.
pub data Statement : Type 0 where
  Nothing : Statement
  Switch : Part → Statement
  -- one instruction, or two
  Single : Option Instr → Statement
  Double : Option (Instr × Instr) → Statement
  -- `jal`, a branch, and `la`, with their label
  Jump : (rd : ℕ) → (label : List ℕ) → Statement
  Branch : BranchOp → (rs1 rs2 : ℕ) → (label : List ℕ) → Statement
  Address : (rd : ℕ) → (label : List ℕ) → Statement
  -- a number of four bytes, of one byte, and the bytes of a text
  Word : Option ℕ → Statement
  Byte : Option ℕ → Statement
  Ascii : List ℕ → Statement
  -- so many zeros, and zeros up to a multiple of 2^n
  Space : Option ℕ → Statement
  Align : Option ℕ → Statement

-- ---- which numbers fit

abbrev pub fitting : {A : Type 0} → Bool → A → Option A
fitting fits value = if fits then Some value else None

-- from -2^11 to 2^11 - 1
abbrev pub is_signed_12 : ℤ → Bool
is_signed_12 n = int_le (neg_ℤ (pos 2048)) n && int_lt n (pos 2048)

-- the amount of a shift
abbrev pub is_amount : ℤ → Bool
is_amount n = int_le (pos 0) n && int_lt n (pos 32)

abbrev pub is_immediate : ImmOp → ℤ → Bool
is_immediate Addi n = is_signed_12 n
is_immediate Slli n = is_amount n
is_immediate Slti n = is_signed_12 n
is_immediate Sltiu n = is_signed_12 n
is_immediate Xori n = is_signed_12 n
is_immediate Srli n = is_amount n
is_immediate Srai n = is_amount n
is_immediate Ori n = is_signed_12 n
is_immediate Andi n = is_signed_12 n

-- below 2^20
abbrev pub is_upper : ℤ → Bool
is_upper n = int_le (pos 0) n && int_lt n (pos 1048576)

-- what four bytes hold, signed or unsigned, and what one byte holds
abbrev pub is_word : ℤ → Bool
is_word n = int_le (neg_ℤ (pos 2147483648)) n && int_lt n (pos 4294967296)

abbrev pub is_byte : ℤ → Bool
is_byte n = int_le (neg_ℤ (pos 128)) n && int_lt n (pos 256)

abbrev pub is_exponent : ℤ → Bool
is_exponent n = int_le (pos 0) n && int_le n (pos 12)

-- a number modulo another, for a negative one not below it
abbrev pub wrapped : ℕ → ℤ → ℕ
wrapped modulus n = if int_lt n (pos 0) then modulus - nat_abs n else nat_abs n

-- ---- a value in two instructions: `lui` has the upper twenty bits, rounded, since `addi` adds the lower twelve signed

abbrev pub upper_part : ℕ → ℕ
upper_part value = (value + 2048) / 4096 % 1048576 * 4096

abbrev pub lower_part : ℕ → ℤ
lower_part value = signed 12 (value % 4096)

unfoldable pub halves : ℕ → ℕ → Instr × Instr
halves rd value = (instr.Lui rd (upper_part value), instr.OpImm Addi rd rd (lower_part value))

-- ---- statements in `.text`, a line for each form of operands

abbrev pub label : List ℕ → Option (List ℕ)
label text = fitting (is_label text) text

-- no operands
abbrev pub plain_statement : Instr → List ℕ → Option Statement
plain_statement instruction [] = Some (Single (Some instruction))
plain_statement instruction (byte ∷ bytes) = None

-- rd, rs1, rs2
unfoldable pub reg_statement : RegOp → List ℕ → Option Statement
reg_statement op text = do
  operands ← three_operands text
  rd ← register operands.0
  rs1 ← register operands.1
  rs2 ← register operands.2
  Some (Single (Some (instr.Op op rd rs1 rs2)))

-- rd, rs1, imm
unfoldable pub imm_statement : ImmOp → List ℕ → Option Statement
imm_statement op text = do
  operands ← three_operands text
  rd ← register operands.0
  rs1 ← register operands.1
  imm ← number operands.2
  Some (Single (fitting (is_immediate op imm) (instr.OpImm op rd rs1 imm)))

-- rd, imm(rs1)
unfoldable pub load_statement : LoadOp → List ℕ → Option Statement
load_statement op text = do
  operands ← two_operands text
  rd ← register operands.0
  address ← offset_and_base operands.1
  Some (Single (fitting (is_signed_12 address.0) (instr.Load op rd address.1 address.0)))

unfoldable pub jalr_statement : List ℕ → Option Statement
jalr_statement text = do
  operands ← two_operands text
  rd ← register operands.0
  address ← offset_and_base operands.1
  Some (Single (fitting (is_signed_12 address.0) (instr.Jalr rd address.1 address.0)))

-- rs2, imm(rs1)
unfoldable pub store_statement : StoreOp → List ℕ → Option Statement
store_statement op text = do
  operands ← two_operands text
  rs2 ← register operands.0
  address ← offset_and_base operands.1
  Some (Single (fitting (is_signed_12 address.0) (instr.Store op address.1 rs2 address.0)))

-- rs1, rs2, label
unfoldable pub branch_statement : BranchOp → List ℕ → Option Statement
branch_statement op text = do
  operands ← three_operands text
  rs1 ← register operands.0
  rs2 ← register operands.1
  target ← label operands.2
  Some (Branch op rs1 rs2 target)

-- rs, label: a branch that compares with 0
unfoldable pub zero_branch_statement : BranchOp → List ℕ → Option Statement
zero_branch_statement op text = do
  operands ← two_operands text
  rs ← register operands.0
  target ← label operands.1
  Some (Branch op rs 0 target)

-- rd, label
unfoldable pub jal_statement : List ℕ → Option Statement
jal_statement text = do
  operands ← two_operands text
  rd ← register operands.0
  target ← label operands.1
  Some (Jump rd target)

unfoldable pub la_statement : List ℕ → Option Statement
la_statement text = do
  operands ← two_operands text
  rd ← register operands.0
  target ← label operands.1
  Some (Address rd target)

-- label: a jump that keeps its return address in a register
unfoldable pub jump_statement : ℕ → List ℕ → Option Statement
jump_statement rd text = do
  operand ← one_operand text
  target ← label operand
  Some (Jump rd target)

-- rd, imm
unfoldable pub lui_statement : List ℕ → Option Statement
lui_statement text = do
  operands ← two_operands text
  rd ← register operands.0
  imm ← number operands.1
  Some (Single (fitting (is_upper imm) (instr.Lui rd (4096 * nat_abs imm))))

unfoldable pub auipc_statement : List ℕ → Option Statement
auipc_statement text = do
  operands ← two_operands text
  rd ← register operands.0
  imm ← number operands.1
  Some (Single (fitting (is_upper imm) (instr.Auipc rd (4096 * nat_abs imm))))

-- rd, n: one instruction where that is enough
abbrev pub constant : ℕ → ℤ → Statement
constant rd n =
    if is_signed_12 n then Single (Some (instr.OpImm Addi rd 0 n)) else
    Double (fitting (is_word n) (halves rd (wrapped 4294967296 n)))

unfoldable pub li_statement : List ℕ → Option Statement
li_statement text = do
  operands ← two_operands text
  rd ← register operands.0
  n ← number operands.1
  Some (constant rd n)

-- rd, rs
unfoldable pub mv_statement : List ℕ → Option Statement
mv_statement text = do
  operands ← two_operands text
  rd ← register operands.0
  rs ← register operands.1
  Some (Single (Some (instr.OpImm Addi rd rs (pos 0))))

unfoldable pub text_statement : Mnemonic → List ℕ → Option Statement
text_statement mnemonic.Lui text = lui_statement text
text_statement mnemonic.Auipc text = auipc_statement text
text_statement mnemonic.Jal text = jal_statement text
text_statement mnemonic.Jalr text = jalr_statement text
text_statement (mnemonic.Branch op) text = branch_statement op text
text_statement (mnemonic.Load op) text = load_statement op text
text_statement (mnemonic.Store op) text = store_statement op text
text_statement (mnemonic.Imm op) text = imm_statement op text
text_statement (mnemonic.Reg op) text = reg_statement op text
text_statement mnemonic.Fence text = plain_statement instr.Fence text
text_statement mnemonic.Ecall text = plain_statement instr.Ecall text
text_statement mnemonic.Ebreak text = plain_statement instr.Ebreak text
text_statement mnemonic.Li text = li_statement text
text_statement mnemonic.La text = la_statement text
text_statement mnemonic.Mv text = mv_statement text
text_statement mnemonic.Nop text = plain_statement (instr.OpImm Addi 0 0 (pos 0)) text
text_statement mnemonic.J text = jump_statement 0 text
text_statement mnemonic.Call text = jump_statement 1 text
text_statement mnemonic.Ret text = plain_statement (instr.Jalr 0 1 (pos 0)) text
text_statement mnemonic.Beqz text = zero_branch_statement Beq text
text_statement mnemonic.Bnez text = zero_branch_statement Bne text

-- ---- statements in `.data`, each with one operand

abbrev pub one_number : List ℕ → Option ℤ
one_number text = do
  operand ← one_operand text
  number operand

unfoldable pub data_statement : Directive → List ℕ → Option Statement
data_statement directive.Word text = option_map (λ n. Word (fitting (is_word n) (wrapped 4294967296 n))) (one_number text)
data_statement directive.Byte text = option_map (λ n. Byte (fitting (is_byte n) (wrapped 256 n))) (one_number text)
data_statement directive.Ascii text = option_map (λ bytes. Ascii bytes) (quoted text)
data_statement directive.Space text = option_map (λ n. Space (fitting (int_le (pos 0) n) (nat_abs n))) (one_number text)
data_statement directive.Align text = option_map (λ n. Align (fitting (is_exponent n) (nat_abs n))) (one_number text)

-- ---- any statement

abbrev pub switch_statement : Part → List ℕ → Option Statement
switch_statement part [] = Some (Switch part)
switch_statement part (byte ∷ bytes) = None

-- a statement by its word, where the word switches to a part, and where it doesn't and stands in a part
abbrev pub statement_with : Part → Option Part → List ℕ → List ℕ → Option Statement
statement_with part (Some other) word operands = switch_statement other operands
statement_with Text None word operands = do
  name ← mnemonic_named word
  text_statement name operands
statement_with Data None word operands = do
  name ← directive_named word
  data_statement name operands

-- what a statement says in a part; None where it is none
unfoldable pub statement_of : Part → List ℕ → Option Statement
statement_of part [] = Some Nothing
statement_of part (byte ∷ bytes) =
    statement_with part (part_named (word_of (byte ∷ bytes))) (word_of (byte ∷ bytes)) (operands_of (byte ∷ bytes))
