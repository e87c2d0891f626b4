-- Two words that decode to the same instruction are equal, but for FENCE: the instruction tells every field of its word.
use Rattle.std.proofs.Common.{◌≡◌, ◌≢◌, ℕ, ◌+◌, ◌*◌, ◌^◌, ◌<◌, Option, Some, None, ℤ, pos, arith, refl, sym, ◌∙◌, subst, inl, inr, if◌then◌else◌, ◌==◌}
use Rattle.std.proofs.lemmas.Bool.Decides.{nat_tests, eqb_tells}
use Rattle.std.proofs.lemmas.Int.{ints}
use Rattle.unix_model.specs.declared.instructions.BranchOp.{BranchOp}
use Rattle.unix_model.specs.declared.instructions.BranchOp.TheVariants.{Beq, Bne, Blt, Bge, Bltu, Bgeu}
use Rattle.unix_model.specs.declared.instructions.ImmOp.{ImmOp}
use Rattle.unix_model.specs.declared.instructions.ImmOp.TheVariants.{Addi, Slli, Slti, Sltiu, Xori, Srli, Srai, Ori, Andi}
use Rattle.unix_model.specs.declared.instructions.Instr.{Instr}
use Rattle.unix_model.specs.declared.instructions.Instr.TheVariants.{Lui, Auipc, Jal, Jalr, Branch, Load, Store, OpImm, Op, Fence, Ecall, Ebreak}
use Rattle.unix_model.specs.declared.instructions.LoadOp.{LoadOp}
use Rattle.unix_model.specs.declared.instructions.LoadOp.TheVariants.{Lb, Lh, Lw, Lbu, Lhu}
use Rattle.unix_model.specs.declared.instructions.RegOp.{RegOp}
use Rattle.unix_model.specs.declared.instructions.RegOp.TheVariants.{Add, Sub, Sll, Slt, Sltu, Xor, Srl, Sra, Or, And}
use Rattle.unix_model.specs.declared.instructions.StoreOp.{StoreOp}
use Rattle.unix_model.specs.declared.instructions.StoreOp.TheVariants.{Sb, Sh, Sw}
use Rattle.unix_model.specs.Instructions.{decoded, field, opcode, rd_of, rs1_of, rs2_of, funct3, funct7, immediate_I, immediate_S, immediate_B, immediate_U, immediate_J, operand, branch_op, load_op, store_op, imm_op, reg_op, branch_of, load_of, store_of, op_imm_of, op_of, where_zero, system}
use Rattle.unix_model.specs.Numbers.{signed}
use Rattle.rv_decode.specs.Numbers.{branch_number, load_number, store_number, imm_number, reg_number, reg_upper}

-- ---- an operation tells its numbers

branch_op-is : (n : ℕ) (op : BranchOp) → branch_op n ≡ Some op → n ≡ branch_number op
branch_op-is n Beq e = grind (arith, nat_tests)
branch_op-is n Bne e = grind (arith, nat_tests)
branch_op-is n Blt e = grind (arith, nat_tests)
branch_op-is n Bge e = grind (arith, nat_tests)
branch_op-is n Bltu e = grind (arith, nat_tests)
branch_op-is n Bgeu e = grind (arith, nat_tests)

load_op-is : (n : ℕ) (op : LoadOp) → load_op n ≡ Some op → n ≡ load_number op
load_op-is n Lb e = grind (arith, nat_tests)
load_op-is n Lh e = grind (arith, nat_tests)
load_op-is n Lw e = grind (arith, nat_tests)
load_op-is n Lbu e = grind (arith, nat_tests)
load_op-is n Lhu e = grind (arith, nat_tests)

store_op-is : (n : ℕ) (op : StoreOp) → store_op n ≡ Some op → n ≡ store_number op
store_op-is n Sb e = grind (arith, nat_tests)
store_op-is n Sh e = grind (arith, nat_tests)
store_op-is n Sw e = grind (arith, nat_tests)

imm_op-is : (n upper : ℕ) (op : ImmOp) → imm_op n upper ≡ Some op → n ≡ imm_number op
imm_op-is n upper Addi e = grind (arith, nat_tests)
imm_op-is n upper Slli e = grind (arith, nat_tests)
imm_op-is n upper Slti e = grind (arith, nat_tests)
imm_op-is n upper Sltiu e = grind (arith, nat_tests)
imm_op-is n upper Xori e = grind (arith, nat_tests)
imm_op-is n upper Srli e = grind (arith, nat_tests)
imm_op-is n upper Srai e = grind (arith, nat_tests)
imm_op-is n upper Ori e = grind (arith, nat_tests)
imm_op-is n upper Andi e = grind (arith, nat_tests)

-- a shift tells its upper seven bits too
slli-upper : (n upper : ℕ) → imm_op n upper ≡ Some Slli → upper ≡ 0
slli-upper n upper e = grind (arith, nat_tests)

srli-upper : (n upper : ℕ) → imm_op n upper ≡ Some Srli → upper ≡ 0
srli-upper n upper e = grind (arith, nat_tests)

srai-upper : (n upper : ℕ) → imm_op n upper ≡ Some Srai → upper ≡ 32
srai-upper n upper e = grind (arith, nat_tests)

reg_op-is : (n upper : ℕ) (op : RegOp) → reg_op n upper ≡ Some op → (n ≡ reg_number op) × (upper ≡ reg_upper op)
reg_op-is n upper Add e = grind (arith, nat_tests)
reg_op-is n upper Sub e = grind (arith, nat_tests)
reg_op-is n upper Sll e = grind (arith, nat_tests)
reg_op-is n upper Slt e = grind (arith, nat_tests)
reg_op-is n upper Sltu e = grind (arith, nat_tests)
reg_op-is n upper Xor e = grind (arith, nat_tests)
reg_op-is n upper Srl e = grind (arith, nat_tests)
reg_op-is n upper Sra e = grind (arith, nat_tests)
reg_op-is n upper Or e = grind (arith, nat_tests)
reg_op-is n upper And e = grind (arith, nat_tests)

-- ---- a signed number tells its bits

signed_12-same : (a b : ℕ) → a < 4096 → b < 4096 → signed 12 a ≡ signed 12 b → a ≡ b
signed_12-same a b p q e = grind (arith, ints)

signed_13-same : (a b : ℕ) → a < 8192 → b < 8192 → signed 13 a ≡ signed 13 b → a ≡ b
signed_13-same a b p q e = grind (arith, ints)

signed_21-same : (a b : ℕ) → a < 2097152 → b < 2097152 → signed 21 a ≡ signed 21 b → a ≡ b
signed_21-same a b p q e = grind (arith, ints)

pos-same : (a b : ℕ) → pos a ≡ pos b → a ≡ b
pos-same a b e = cc

-- ---- what an instruction tells of its word

-- the opcode and the fields; an operation's numbers by the table
abbrev Tells : ℕ → Instr → Type 0
Tells w (Lui rd imm) = (opcode w ≡ 0b0110111) × (rd_of w ≡ rd) × (immediate_U w ≡ imm)
Tells w (Auipc rd imm) = (opcode w ≡ 0b0010111) × (rd_of w ≡ rd) × (immediate_U w ≡ imm)
Tells w (Jal rd imm) = (opcode w ≡ 0b1101111) × (rd_of w ≡ rd) × (immediate_J w ≡ imm)
Tells w (Jalr rd rs1 imm) = (opcode w ≡ 0b1100111) × (funct3 w ≡ 0) × (rd_of w ≡ rd) × (rs1_of w ≡ rs1) × (immediate_I w ≡ imm)
Tells w (Branch op rs1 rs2 imm) = (opcode w ≡ 0b1100011) × (funct3 w ≡ branch_number op) × (rs1_of w ≡ rs1) × (rs2_of w ≡ rs2) × (immediate_B w ≡ imm)
Tells w (Load op rd rs1 imm) = (opcode w ≡ 0b0000011) × (funct3 w ≡ load_number op) × (rd_of w ≡ rd) × (rs1_of w ≡ rs1) × (immediate_I w ≡ imm)
Tells w (Store op rs1 rs2 imm) = (opcode w ≡ 0b0100011) × (funct3 w ≡ store_number op) × (rs1_of w ≡ rs1) × (rs2_of w ≡ rs2) × (immediate_S w ≡ imm)
Tells w (OpImm op rd rs1 imm) = (opcode w ≡ 0b0010011) × (imm_op (funct3 w) (funct7 w) ≡ Some op) × (rd_of w ≡ rd) × (rs1_of w ≡ rs1) × (operand op w ≡ imm)
Tells w (Op op rd rs1 rs2) = (opcode w ≡ 0b0110011) × (funct3 w ≡ reg_number op) × (funct7 w ≡ reg_upper op) × (rd_of w ≡ rd) × (rs1_of w ≡ rs1) × (rs2_of w ≡ rs2)
Tells w Fence = Unit {0}
Tells w Ecall = w ≡ 0x0000_0073
Tells w Ebreak = w ≡ 0x0010_0073

-- one test of the table
row : {P : Type 0} (x y : ℕ) (a rest : Option Instr) (i : Instr) → (x ≡ y → a ≡ Some i → P) → (rest ≡ Some i → P) → (if x == y then a else rest) ≡ Some i → P
row {P} x y a rest i here below e =
    elim (eqb_tells x y) as (λ _. P) [
      | inl same ↦ here same.1 (rw same.0 at e)
      | inr apart ↦ below (rw apart.0 at e)
    ]

-- the instruction of a row
the_row : (w : ℕ) (i j : Instr) → Tells w i → Some i ≡ Some j → Tells w j
the_row w i j tells e = let same : i ≡ j = cc in subst (λ k. Tells w k) same tells

zero_row : (w : ℕ) (i j : Instr) → (funct3 w ≡ 0 → Tells w i) → where_zero (funct3 w) i ≡ Some j → Tells w j
zero_row w i j tells e = row (funct3 w) 0 (Some i) None j (λ zero same. the_row w i j (tells zero) same) (λ none. absurd (cc)) e

branch_row : (w : ℕ) (op : Option BranchOp) (i : Instr) → opcode w ≡ 0b1100011 → branch_op (funct3 w) ≡ op → branch_of w op ≡ Some i → Tells w i
branch_row w None i code is e = absurd (cc)
branch_row w (Some op) i code is e = the_row w (Branch op (rs1_of w) (rs2_of w) (immediate_B w)) i (code, branch_op-is (funct3 w) op is, refl, refl, refl) e

load_row : (w : ℕ) (op : Option LoadOp) (i : Instr) → opcode w ≡ 0b0000011 → load_op (funct3 w) ≡ op → load_of w op ≡ Some i → Tells w i
load_row w None i code is e = absurd (cc)
load_row w (Some op) i code is e = the_row w (Load op (rd_of w) (rs1_of w) (immediate_I w)) i (code, load_op-is (funct3 w) op is, refl, refl, refl) e

store_row : (w : ℕ) (op : Option StoreOp) (i : Instr) → opcode w ≡ 0b0100011 → store_op (funct3 w) ≡ op → store_of w op ≡ Some i → Tells w i
store_row w None i code is e = absurd (cc)
store_row w (Some op) i code is e = the_row w (Store op (rs1_of w) (rs2_of w) (immediate_S w)) i (code, store_op-is (funct3 w) op is, refl, refl, refl) e

op_imm_row : (w : ℕ) (op : Option ImmOp) (i : Instr) → opcode w ≡ 0b0010011 → imm_op (funct3 w) (funct7 w) ≡ op → op_imm_of w op ≡ Some i → Tells w i
op_imm_row w None i code is e = absurd (cc)
op_imm_row w (Some op) i code is e = the_row w (OpImm op (rd_of w) (rs1_of w) (operand op w)) i (code, is, refl, refl, refl) e

op_row : (w : ℕ) (op : Option RegOp) (i : Instr) → opcode w ≡ 0b0110011 → reg_op (funct3 w) (funct7 w) ≡ op → op_of w op ≡ Some i → Tells w i
op_row w None i code is e = absurd (cc)
op_row w (Some op) i code is e =
    let numbers : (funct3 w ≡ reg_number op) × (funct7 w ≡ reg_upper op) = reg_op-is (funct3 w) (funct7 w) op is in
    the_row w (Op op (rd_of w) (rs1_of w) (rs2_of w)) i (code, numbers.0, numbers.1, refl, refl, refl) e

system_row : (w : ℕ) (i : Instr) → system w ≡ Some i → Tells w i
system_row w i e =
    row w 0x0000_0073 (Some Ecall) (if w == 0x0010_0073 then Some Ebreak else None) i (λ is same. the_row w Ecall i is same)
    (λ rest. row w 0x0010_0073 (Some Ebreak) None i (λ is same. the_row w Ebreak i is same) (λ none. absurd (cc)) rest)
    e

pub decoded-tells : (w : ℕ) (i : Instr) → decoded w ≡ Some i → Tells w i
unfolding decoded
decoded-tells w i e =
    row (opcode w) 0b0110111 _ _ i (λ code same. the_row w (Lui (rd_of w) (immediate_U w)) i (code, refl, refl) same)
    (row (opcode w) 0b0010111 _ _ i (λ code same. the_row w (Auipc (rd_of w) (immediate_U w)) i (code, refl, refl) same)
    (row (opcode w) 0b1101111 _ _ i (λ code same. the_row w (Jal (rd_of w) (immediate_J w)) i (code, refl, refl) same)
    (row (opcode w) 0b1100111 _ _ i (λ code same. zero_row w (Jalr (rd_of w) (rs1_of w) (immediate_I w)) i (λ zero. (code, zero, refl, refl, refl)) same)
    (row (opcode w) 0b1100011 _ _ i (λ code same. branch_row w (branch_op (funct3 w)) i code refl same)
    (row (opcode w) 0b0000011 _ _ i (λ code same. load_row w (load_op (funct3 w)) i code refl same)
    (row (opcode w) 0b0100011 _ _ i (λ code same. store_row w (store_op (funct3 w)) i code refl same)
    (row (opcode w) 0b0010011 _ _ i (λ code same. op_imm_row w (imm_op (funct3 w) (funct7 w)) i code refl same)
    (row (opcode w) 0b0110011 _ _ i (λ code same. op_row w (reg_op (funct3 w) (funct7 w)) i code refl same)
    (row (opcode w) 0b0001111 _ _ i (λ code same. zero_row w Fence i (λ zero. tt) same)
    (row (opcode w) 0b1110011 _ _ i (λ code same. system_row w i same) (λ none. absurd (cc))))))))))))
    e

-- ---- words with the same fields

I-same : (a b : ℕ) → a < 2 ^ 32 → b < 2 ^ 32 → opcode a ≡ opcode b → funct3 a ≡ funct3 b → rd_of a ≡ rd_of b → rs1_of a ≡ rs1_of b → immediate_I a ≡ immediate_I b → a ≡ b
I-same a b p q code number rd rs1 imm =
    let bits : field a 31 20 ≡ field b 31 20 = signed_12-same (field a 31 20) (field b 31 20) (omega arith) (omega arith) imm in
    omega arith

S-same : (a b : ℕ) → a < 2 ^ 32 → b < 2 ^ 32 → opcode a ≡ opcode b → funct3 a ≡ funct3 b → rs1_of a ≡ rs1_of b → rs2_of a ≡ rs2_of b → immediate_S a ≡ immediate_S b → a ≡ b
S-same a b p q code number rs1 rs2 imm =
    let bits : field a 31 25 * 32 + field a 11 7 ≡ field b 31 25 * 32 + field b 11 7 = signed_12-same _ _ (omega arith) (omega arith) imm in
    omega arith

B-same : (a b : ℕ) → a < 2 ^ 32 → b < 2 ^ 32 → opcode a ≡ opcode b → funct3 a ≡ funct3 b → rs1_of a ≡ rs1_of b → rs2_of a ≡ rs2_of b → immediate_B a ≡ immediate_B b → a ≡ b
B-same a b p q code number rs1 rs2 imm =
    let bits : field a 31 31 * 4096 + field a 7 7 * 2048 + field a 30 25 * 32 + field a 11 8 * 2 ≡ field b 31 31 * 4096 + field b 7 7 * 2048 + field b 30 25 * 32 + field b 11 8 * 2 = signed_13-same _ _ (omega arith) (omega arith) imm in
    omega arith

U-same : (a b : ℕ) → a < 2 ^ 32 → b < 2 ^ 32 → opcode a ≡ opcode b → rd_of a ≡ rd_of b → immediate_U a ≡ immediate_U b → a ≡ b
U-same a b p q code rd imm = omega arith

J-same : (a b : ℕ) → a < 2 ^ 32 → b < 2 ^ 32 → opcode a ≡ opcode b → rd_of a ≡ rd_of b → immediate_J a ≡ immediate_J b → a ≡ b
J-same a b p q code rd imm =
    let bits : field a 31 31 * 1048576 + field a 19 12 * 4096 + field a 20 20 * 2048 + field a 30 21 * 2 ≡ field b 31 31 * 1048576 + field b 19 12 * 4096 + field b 20 20 * 2048 + field b 30 21 * 2 = signed_21-same _ _ (omega arith) (omega arith) imm in
    omega arith

R-same : (a b : ℕ) → a < 2 ^ 32 → b < 2 ^ 32 → opcode a ≡ opcode b → funct3 a ≡ funct3 b → funct7 a ≡ funct7 b → rd_of a ≡ rd_of b → rs1_of a ≡ rs1_of b → rs2_of a ≡ rs2_of b → a ≡ b
R-same a b p q code number upper rd rs1 rs2 = omega arith

-- the numbers of an operation with an immediate
same_number : (m n u v : ℕ) (op : ImmOp) → imm_op m u ≡ Some op → imm_op n v ≡ Some op → m ≡ n
same_number m n u v op e f = imm_op-is m u op e ∙ sym (imm_op-is n v op f)

op_imm-same : (a b : ℕ) (op : ImmOp) (rd rs1 : ℕ) (imm : ℤ) → a < 2 ^ 32 → b < 2 ^ 32 → Tells a (OpImm op rd rs1 imm) → Tells b (OpImm op rd rs1 imm) → a ≡ b
op_imm-same a b Addi rd rs1 imm p q s t = I-same a b p q (s.0 ∙ sym t.0) (same_number _ _ _ _ Addi s.1 t.1) (s.2 ∙ sym t.2) (s.3 ∙ sym t.3) (s.4 ∙ sym t.4)
op_imm-same a b Slti rd rs1 imm p q s t = I-same a b p q (s.0 ∙ sym t.0) (same_number _ _ _ _ Slti s.1 t.1) (s.2 ∙ sym t.2) (s.3 ∙ sym t.3) (s.4 ∙ sym t.4)
op_imm-same a b Sltiu rd rs1 imm p q s t = I-same a b p q (s.0 ∙ sym t.0) (same_number _ _ _ _ Sltiu s.1 t.1) (s.2 ∙ sym t.2) (s.3 ∙ sym t.3) (s.4 ∙ sym t.4)
op_imm-same a b Xori rd rs1 imm p q s t = I-same a b p q (s.0 ∙ sym t.0) (same_number _ _ _ _ Xori s.1 t.1) (s.2 ∙ sym t.2) (s.3 ∙ sym t.3) (s.4 ∙ sym t.4)
op_imm-same a b Ori rd rs1 imm p q s t = I-same a b p q (s.0 ∙ sym t.0) (same_number _ _ _ _ Ori s.1 t.1) (s.2 ∙ sym t.2) (s.3 ∙ sym t.3) (s.4 ∙ sym t.4)
op_imm-same a b Andi rd rs1 imm p q s t = I-same a b p q (s.0 ∙ sym t.0) (same_number _ _ _ _ Andi s.1 t.1) (s.2 ∙ sym t.2) (s.3 ∙ sym t.3) (s.4 ∙ sym t.4)
op_imm-same a b Slli rd rs1 imm p q s t = R-same a b p q (s.0 ∙ sym t.0) (same_number _ _ _ _ Slli s.1 t.1) (slli-upper (funct3 a) (funct7 a) s.1 ∙ sym (slli-upper (funct3 b) (funct7 b) t.1)) (s.2 ∙ sym t.2) (s.3 ∙ sym t.3) (pos-same _ _ (s.4 ∙ sym t.4))
op_imm-same a b Srli rd rs1 imm p q s t = R-same a b p q (s.0 ∙ sym t.0) (same_number _ _ _ _ Srli s.1 t.1) (srli-upper (funct3 a) (funct7 a) s.1 ∙ sym (srli-upper (funct3 b) (funct7 b) t.1)) (s.2 ∙ sym t.2) (s.3 ∙ sym t.3) (pos-same _ _ (s.4 ∙ sym t.4))
op_imm-same a b Srai rd rs1 imm p q s t = R-same a b p q (s.0 ∙ sym t.0) (same_number _ _ _ _ Srai s.1 t.1) (srai-upper (funct3 a) (funct7 a) s.1 ∙ sym (srai-upper (funct3 b) (funct7 b) t.1)) (s.2 ∙ sym t.2) (s.3 ∙ sym t.3) (pos-same _ _ (s.4 ∙ sym t.4))

pub tells-same : (a b : ℕ) (i : Instr) → a < 2 ^ 32 → b < 2 ^ 32 → Tells a i → Tells b i → i ≢ Fence → a ≡ b
tells-same a b (Lui rd imm) p q s t other = U-same a b p q (s.0 ∙ sym t.0) (s.1 ∙ sym t.1) (s.2 ∙ sym t.2)
tells-same a b (Auipc rd imm) p q s t other = U-same a b p q (s.0 ∙ sym t.0) (s.1 ∙ sym t.1) (s.2 ∙ sym t.2)
tells-same a b (Jal rd imm) p q s t other = J-same a b p q (s.0 ∙ sym t.0) (s.1 ∙ sym t.1) (s.2 ∙ sym t.2)
tells-same a b (Jalr rd rs1 imm) p q s t other = I-same a b p q (s.0 ∙ sym t.0) (s.1 ∙ sym t.1) (s.2 ∙ sym t.2) (s.3 ∙ sym t.3) (s.4 ∙ sym t.4)
tells-same a b (Branch op rs1 rs2 imm) p q s t other = B-same a b p q (s.0 ∙ sym t.0) (s.1 ∙ sym t.1) (s.2 ∙ sym t.2) (s.3 ∙ sym t.3) (s.4 ∙ sym t.4)
tells-same a b (Load op rd rs1 imm) p q s t other = I-same a b p q (s.0 ∙ sym t.0) (s.1 ∙ sym t.1) (s.2 ∙ sym t.2) (s.3 ∙ sym t.3) (s.4 ∙ sym t.4)
tells-same a b (Store op rs1 rs2 imm) p q s t other = S-same a b p q (s.0 ∙ sym t.0) (s.1 ∙ sym t.1) (s.2 ∙ sym t.2) (s.3 ∙ sym t.3) (s.4 ∙ sym t.4)
tells-same a b (OpImm op rd rs1 imm) p q s t other = op_imm-same a b op rd rs1 imm p q s t
tells-same a b (Op op rd rs1 rs2) p q s t other = R-same a b p q (s.0 ∙ sym t.0) (s.1 ∙ sym t.1) (s.2 ∙ sym t.2) (s.3 ∙ sym t.3) (s.4 ∙ sym t.4) (s.5 ∙ sym t.5)
tells-same a b Fence p q s t other = absurd (other refl)
tells-same a b Ecall p q s t other = s ∙ sym t
tells-same a b Ebreak p q s t other = s ∙ sym t

pub one_word : (first second : ℕ) (instr : Instr) → first < 2 ^ 32 → second < 2 ^ 32 → decoded first ≡ Some instr → decoded second ≡ Some instr → instr ≢ Fence → first ≡ second
one_word first second instr p q d e other = tells-same first second instr p q (decoded-tells first instr d) (decoded-tells second instr e) other
