-- What is said in `.text` adds as many bytes as its instructions have.
use Rattle.std.proofs.Common.{◌≡◌, ℕ, ℤ, ◌*◌, List, [], ◌∷◌, length, true, false, Option, Some, None, Ok, arith, nat_lt, if◌then◌else◌}
use Rattle.unix_model.specs.declared.instructions.ImmOp.TheVariants.{Addi}
use Rattle.unix_model.specs.declared.instructions.Instr.{Instr}
use Rattle.unix_model.specs.declared.instructions.Instr.TheVariants as instr
use Rattle.rv_asm.specs.declared.fault.AsmKind.TheVariants.{OutOfRange}
use Rattle.rv_asm.specs.declared.mnemonics.Mnemonic.{Mnemonic}
use Rattle.rv_asm.specs.declared.mnemonics.Mnemonic.TheVariants as mnemonic
use Rattle.rv_asm.specs.declared.mnemonics.Part.{Part}
use Rattle.rv_asm.specs.declared.mnemonics.Part.TheVariants.{Text}
use Rattle.rv_asm.specs.Choices.{◌>>=◌}
use Rattle.rv_asm.specs.Layout.{size_of}
use Rattle.rv_asm.specs.Lines.{parts_of, word_of, operands_of, one_operand, two_operands, three_operands}
use Rattle.rv_asm.specs.Mnemonics.{mnemonic_named, part_named}
use Rattle.rv_asm.specs.Operands.{number, offset_and_base, register}
use Rattle.rv_asm.specs.Programs.{Layout, instructions_of, most_line_bytes, statement_at, statement_or_nothing, target_of}
use Rattle.rv_asm.specs.Statements as model
use Rattle.rv_asm.specs.Statements.{Statement, Nothing, Switch, Single, Double, Jump, Branch, Address, Word, Byte, Ascii, Space, Align}
use Rattle.rv_asm.proofs.SizeLaws.{bind_ok, fits_itself, given}

-- no data
abbrev pub IsTextual : Statement → Type 0
IsTextual Nothing = Unit {0}
IsTextual (Switch part) = Unit {0}
IsTextual (Single instruction) = Unit {0}
IsTextual (Double instructions) = Unit {0}
IsTextual (Jump rd label) = Unit {0}
IsTextual (Branch op rs1 rs2 label) = Unit {0}
IsTextual (Address rd label) = Unit {0}
IsTextual (Word number) = ⊥
IsTextual (Byte number) = ⊥
IsTextual (Ascii text) = ⊥
IsTextual (Space zeros) = ⊥
IsTextual (Align exponent) = ⊥

abbrev pub IsTextualIf : Option Statement → Type 0
IsTextualIf None = Unit {0}
IsTextualIf (Some statement) = IsTextual statement

-- a choice that gives no data
pub record GivesText (choice : Option Statement) : Type 0 where
  pub textual : IsTextualIf choice

after : {A : Type 0} (first : Option A) (next : A → Option Statement) → ((value : A) → GivesText (next value)) → GivesText (first >>= next)
after None next gives = record { textual = tt }
after (Some value) next gives = gives value

constant_text : (rd : ℕ) (n : ℤ) → GivesText (Some (model.constant rd n))
constant_text rd n = record { textual = elim (model.is_signed_12 n) as (λ short. IsTextual (if short then Single (Some (instr.OpImm Addi rd 0 n)) else Double (model.fitting (model.is_word n) (model.halves rd (model.wrapped 4294967296 n))))) [ true ↦ tt | false ↦ tt ] }

switch_text : (part : Part) (operands : List ℕ) → GivesText (model.switch_statement part operands)
switch_text part [] = record { textual = tt }
switch_text part (byte ∷ bytes) = record { textual = tt }

plain_text : (instruction : Instr) (operands : List ℕ) → GivesText (model.plain_statement instruction operands)
plain_text instruction [] = record { textual = tt }
plain_text instruction (byte ∷ bytes) = record { textual = tt }

named_text : (name : Mnemonic) (operands : List ℕ) → GivesText (model.text_statement name operands)
unfolding model.text_statement model.lui_statement model.auipc_statement model.jal_statement model.jalr_statement model.branch_statement model.load_statement model.store_statement model.imm_statement model.reg_statement model.li_statement model.la_statement model.mv_statement model.jump_statement model.zero_branch_statement
named_text mnemonic.Lui text = after (two_operands text) _ (λ operands. after (register operands.0) _ (λ rd. after (number operands.1) _ (λ imm. record { textual = tt })))
named_text mnemonic.Auipc text = after (two_operands text) _ (λ operands. after (register operands.0) _ (λ rd. after (number operands.1) _ (λ imm. record { textual = tt })))
named_text mnemonic.Jal text = after (two_operands text) _ (λ operands. after (register operands.0) _ (λ rd. after (model.label operands.1) _ (λ target. record { textual = tt })))
named_text mnemonic.Jalr text = after (two_operands text) _ (λ operands. after (register operands.0) _ (λ rd. after (offset_and_base operands.1) _ (λ address. record { textual = tt })))
named_text (mnemonic.Branch op) text = after (three_operands text) _ (λ operands. after (register operands.0) _ (λ rs1. after (register operands.1) _ (λ rs2. after (model.label operands.2) _ (λ target. record { textual = tt }))))
named_text (mnemonic.Load op) text = after (two_operands text) _ (λ operands. after (register operands.0) _ (λ rd. after (offset_and_base operands.1) _ (λ address. record { textual = tt })))
named_text (mnemonic.Store op) text = after (two_operands text) _ (λ operands. after (register operands.0) _ (λ rs2. after (offset_and_base operands.1) _ (λ address. record { textual = tt })))
named_text (mnemonic.Imm op) text = after (three_operands text) _ (λ operands. after (register operands.0) _ (λ rd. after (register operands.1) _ (λ rs1. after (number operands.2) _ (λ imm. record { textual = tt }))))
named_text (mnemonic.Reg op) text = after (three_operands text) _ (λ operands. after (register operands.0) _ (λ rd. after (register operands.1) _ (λ rs1. after (register operands.2) _ (λ rs2. record { textual = tt }))))
named_text mnemonic.Fence text = plain_text _ text
named_text mnemonic.Ecall text = plain_text _ text
named_text mnemonic.Ebreak text = plain_text _ text
named_text mnemonic.Li text = after (two_operands text) _ (λ operands. after (register operands.0) _ (λ rd. after (number operands.1) _ (λ n. constant_text rd n)))
named_text mnemonic.La text = after (two_operands text) _ (λ operands. after (register operands.0) _ (λ rd. after (model.label operands.1) _ (λ target. record { textual = tt })))
named_text mnemonic.Mv text = after (two_operands text) _ (λ operands. after (register operands.0) _ (λ rd. after (register operands.1) _ (λ rs. record { textual = tt })))
named_text mnemonic.Nop text = plain_text _ text
named_text mnemonic.J text = after (one_operand text) _ (λ operand. after (model.label operand) _ (λ target. record { textual = tt }))
named_text mnemonic.Call text = after (one_operand text) _ (λ operand. after (model.label operand) _ (λ target. record { textual = tt }))
named_text mnemonic.Ret text = plain_text _ text
named_text mnemonic.Beqz text = after (two_operands text) _ (λ operands. after (register operands.0) _ (λ rs. after (model.label operands.1) _ (λ target. record { textual = tt })))
named_text mnemonic.Bnez text = after (two_operands text) _ (λ operands. after (register operands.0) _ (λ rs. after (model.label operands.1) _ (λ target. record { textual = tt })))

with_text : (part : Option Part) (word operands : List ℕ) → GivesText (model.statement_with Text part word operands)
with_text (Some part) word operands = switch_text part operands
with_text None word operands = after (mnemonic_named word) _ (λ name. named_text name operands)

pub text_all : (text : List ℕ) → GivesText (model.statement_of Text text)
unfolding model.statement_of
text_all [] = record { textual = tt }
text_all (byte ∷ bytes) = with_text (part_named (word_of (byte ∷ bytes))) (word_of (byte ∷ bytes)) (operands_of (byte ∷ bytes))

-- the instructions have all of its bytes
pub exact_size : (layout : Layout) (address : ℕ) (statement : Statement) (instructions : List Instr) (bytes : ℕ) → IsTextual statement
    → instructions_of layout address statement ≡ Ok instructions → size_of statement bytes ≡ 4 * length instructions
unfolding instructions_of size_of
exact_size layout address Nothing instructions bytes is makes = grind (arith)
exact_size layout address (Switch part) instructions bytes is makes = grind (arith)
exact_size layout address (Single None) instructions bytes is makes = cc
exact_size layout address (Single (Some only)) instructions bytes is makes = grind (arith)
exact_size layout address (Double None) instructions bytes is makes = cc
exact_size layout address (Double (Some pair)) instructions bytes is makes = grind (arith)
exact_size layout address (Jump rd label) instructions bytes is makes =
    let (target, found, reached) = bind_ok (target_of layout label) _ instructions makes in
    let same = fits_itself _ _ _ (given OutOfRange _ instructions reached) in
    grind (arith)
exact_size layout address (Branch op rs1 rs2 label) instructions bytes is makes =
    let (target, found, reached) = bind_ok (target_of layout label) _ instructions makes in
    let same = fits_itself _ _ _ (given OutOfRange _ instructions reached) in
    grind (arith)
exact_size layout address (Address rd label) instructions bytes is makes =
    let (target, found, reached) = bind_ok (target_of layout label) _ instructions makes in
    grind (arith)
exact_size layout address (Word number) instructions bytes is makes = elim is [ ]
exact_size layout address (Byte number) instructions bytes is makes = elim is [ ]
exact_size layout address (Ascii text) instructions bytes is makes = elim is [ ]
exact_size layout address (Space zeros) instructions bytes is makes = elim is [ ]
exact_size layout address (Align exponent) instructions bytes is makes = elim is [ ]

-- the statement of a line in `.text`
textual_or_nothing : (choice : Option Statement) → GivesText choice → IsTextual (statement_or_nothing choice)
textual_or_nothing None gives = tt
textual_or_nothing (Some statement) gives = gives.textual

pub line_textual : (line : List ℕ) → IsTextual (statement_at Text line)
unfolding statement_at
line_textual line =
    elim (nat_lt most_line_bytes (length line)) as (λ long. IsTextual (if long then Nothing else statement_or_nothing (model.statement_of Text (parts_of line).statement)))
    [ true ↦ tt | false ↦ textual_or_nothing _ (text_all (parts_of line).statement) ]
