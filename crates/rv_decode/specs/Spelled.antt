-- What the parts of the encoder promise: the fields of the words that they give.
use Rattle.std.specs.Prelude.{◌≡◌, ℕ, ℤ}
use Rattle.unix_model.specs.Instructions.{opcode, rd_of, funct3, rs1_of, rs2_of, funct7, immediate_I, immediate_S, immediate_B, immediate_U, immediate_J, amount}

pub record SpellsR (word code upper number rd rs1 rs2 : ℕ) : Type 0 where
  pub opcode_is : opcode word ≡ code
  pub upper_is : funct7 word ≡ upper
  pub number_is : funct3 word ≡ number
  pub rd_is : rd_of word ≡ rd
  pub rs1_is : rs1_of word ≡ rs1
  pub rs2_is : rs2_of word ≡ rs2

pub record SpellsI (word code number rd rs1 : ℕ) (immediate : ℤ) : Type 0 where
  pub opcode_is : opcode word ≡ code
  pub number_is : funct3 word ≡ number
  pub rd_is : rd_of word ≡ rd
  pub rs1_is : rs1_of word ≡ rs1
  pub immediate_is : immediate_I word ≡ immediate

pub record SpellsS (word code number rs1 rs2 : ℕ) (immediate : ℤ) : Type 0 where
  pub opcode_is : opcode word ≡ code
  pub number_is : funct3 word ≡ number
  pub rs1_is : rs1_of word ≡ rs1
  pub rs2_is : rs2_of word ≡ rs2
  pub immediate_is : immediate_S word ≡ immediate

pub record SpellsB (word code number rs1 rs2 : ℕ) (immediate : ℤ) : Type 0 where
  pub opcode_is : opcode word ≡ code
  pub number_is : funct3 word ≡ number
  pub rs1_is : rs1_of word ≡ rs1
  pub rs2_is : rs2_of word ≡ rs2
  pub immediate_is : immediate_B word ≡ immediate

pub record SpellsU (word code rd immediate : ℕ) : Type 0 where
  pub opcode_is : opcode word ≡ code
  pub rd_is : rd_of word ≡ rd
  pub immediate_is : immediate_U word ≡ immediate

pub record SpellsJ (word code rd : ℕ) (immediate : ℤ) : Type 0 where
  pub opcode_is : opcode word ≡ code
  pub rd_is : rd_of word ≡ rd
  pub immediate_is : immediate_J word ≡ immediate

-- a shift's word has its amount in the place of rs2
pub record SpellsShift (word code upper number rd rs1 : ℕ) (immediate : ℤ) : Type 0 where
  pub opcode_is : opcode word ≡ code
  pub upper_is : funct7 word ≡ upper
  pub number_is : funct3 word ≡ number
  pub rd_is : rd_of word ≡ rd
  pub rs1_is : rs1_of word ≡ rs1
  pub amount_is : amount word ≡ immediate
