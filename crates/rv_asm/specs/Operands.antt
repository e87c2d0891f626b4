-- The operands: registers, numbers, an address with its offset, and text between quotes.
use Rattle.std.specs.Prelude.{ℕ, ◌+◌, ◌-◌, ◌*◌, min, Bool, true, false, ◌&&◌, List, [], ◌∷◌, codes, length, take, drop, position, slice_index_or, Option, Some, None, option_map, ℤ, pos, neg_ℤ, bytes_eq, ◌==◌, nat_le, nat_lt, if◌then◌else◌}
use Rattle.unix_model.specs.Texts.{decimal_value}
use Rattle.rv_asm.specs.Choices.{◌>>=◌}

-- ---- registers

-- the number of a register by its name in the calling convention (RISC-V psABI, Integer Register Convention)
unfoldable pub register_named : List ℕ → Option ℕ
register_named name =
    if bytes_eq name (codes "zero") then Some 0 else
    if bytes_eq name (codes "ra") then Some 1 else
    if bytes_eq name (codes "sp") then Some 2 else
    if bytes_eq name (codes "gp") then Some 3 else
    if bytes_eq name (codes "tp") then Some 4 else
    if bytes_eq name (codes "t0") then Some 5 else
    if bytes_eq name (codes "t1") then Some 6 else
    if bytes_eq name (codes "t2") then Some 7 else
    if bytes_eq name (codes "s0") then Some 8 else
    if bytes_eq name (codes "s1") then Some 9 else
    if bytes_eq name (codes "a0") then Some 10 else
    if bytes_eq name (codes "a1") then Some 11 else
    if bytes_eq name (codes "a2") then Some 12 else
    if bytes_eq name (codes "a3") then Some 13 else
    if bytes_eq name (codes "a4") then Some 14 else
    if bytes_eq name (codes "a5") then Some 15 else
    if bytes_eq name (codes "a6") then Some 16 else
    if bytes_eq name (codes "a7") then Some 17 else
    if bytes_eq name (codes "s2") then Some 18 else
    if bytes_eq name (codes "s3") then Some 19 else
    if bytes_eq name (codes "s4") then Some 20 else
    if bytes_eq name (codes "s5") then Some 21 else
    if bytes_eq name (codes "s6") then Some 22 else
    if bytes_eq name (codes "s7") then Some 23 else
    if bytes_eq name (codes "s8") then Some 24 else
    if bytes_eq name (codes "s9") then Some 25 else
    if bytes_eq name (codes "s10") then Some 26 else
    if bytes_eq name (codes "s11") then Some 27 else
    if bytes_eq name (codes "t3") then Some 28 else
    if bytes_eq name (codes "t4") then Some 29 else
    if bytes_eq name (codes "t5") then Some 30 else
    if bytes_eq name (codes "t6") then Some 31 else
    None

abbrev pub numbered : Option ℕ → Option ℕ
numbered None = None
numbered (Some number) = if nat_lt number 32 then Some number else None

-- the number of a register: what stands after `x`, or its name's
unfoldable pub register : List ℕ → Option ℕ
register [] = None
register (byte ∷ bytes) = if byte == 120 then numbered (decimal_value bytes) else register_named (byte ∷ bytes)

-- ---- numbers

-- What is above 2^32 - 1 fits nowhere, so it is read as 2^32.
abbrev pub cut : ℕ → ℕ
cut number = min number 4294967296

-- the value of a hexadecimal digit, of either case
abbrev pub hex_digit : ℕ → Option ℕ
hex_digit byte =
    if nat_le 48 byte && nat_le byte 57 then Some (byte - 48) else
    if nat_le 97 byte && nat_le byte 102 then Some (byte - 87) else
    if nat_le 65 byte && nat_le byte 70 then Some (byte - 55) else
    None

abbrev pub hex_step : ℕ → Option ℕ → Option ℕ
hex_step number None = None
hex_step number (Some digit) = Some (16 * number + digit)

-- the number that hexadecimal digits spell after those of another
abbrev pub hex_after : Option ℕ → List ℕ → Option ℕ
hex_after None bytes = None
hex_after (Some number) [] = Some number
hex_after (Some number) (byte ∷ bytes) = hex_after (hex_step number (hex_digit byte)) bytes

-- at least one digit
abbrev pub hex_value : List ℕ → Option ℕ
hex_value [] = None
hex_value (byte ∷ bytes) = hex_after (Some 0) (byte ∷ bytes)

-- a number without a sign: decimal, or `0x` and hexadecimal digits
abbrev pub unsigned : List ℕ → Option ℕ
unsigned [] = None
unsigned (byte ∷ []) = decimal_value (byte ∷ [])
unsigned (byte ∷ next ∷ bytes) = if (byte == 48) && (next == 120) then hex_value bytes else decimal_value (byte ∷ next ∷ bytes)

-- a number: without a sign, or decimal behind a `-`
unfoldable pub number : List ℕ → Option ℤ
number [] = None
number (byte ∷ bytes) =
    if byte == 45 then option_map (λ value. neg_ℤ (pos (cut value))) (decimal_value bytes) else
    option_map (λ value. pos (cut value)) (unsigned (byte ∷ bytes))

-- ---- an address: `imm(rs1)`

abbrev pub is_open : ℕ → Bool
is_open byte = byte == 40

-- what stands before the last byte, where that is the one asked for
unfoldable pub before_last : ℕ → List ℕ → Option (List ℕ)
before_last byte text = if slice_index_or text (length text - 1) 0 == byte then Some (take (length text - 1) text) else None

-- the offset and the register
unfoldable pub offset_and_base : List ℕ → Option (ℤ × ℕ)
offset_and_base text = do
  place ← position is_open text
  offset ← number (take place text)
  inner ← before_last 41 (drop (place + 1) text)
  base ← register inner
  Some (offset, base)

-- ---- text between quotes

-- the byte that stands for itself behind a `\`, or for a line feed
abbrev pub escaped : ℕ → Option ℕ
escaped byte =
    if byte == 110 then Some 10 else
    if byte == 92 then Some 92 else
    if byte == 34 then Some 34 else
    None

-- printable ASCII
abbrev pub is_printable : ℕ → Bool
is_printable byte = nat_le 32 byte && nat_le byte 126

abbrev pub with_byte : Option ℕ → Option (List ℕ) → Option (List ℕ)
with_byte None text = None
with_byte (Some byte) None = None
with_byte (Some byte) (Some bytes) = Some (byte ∷ bytes)

-- nothing stands behind the closing quote
abbrev pub closed : List ℕ → Option (List ℕ)
closed [] = Some []
closed (byte ∷ bytes) = None

-- the text behind an opening quote, up to the closing one: printable bytes, and `\n`, `\\` and `\"`
unfoldable pub text_from : Bool → List ℕ → Option (List ℕ)
text_from behind [] = None
text_from true (byte ∷ bytes) = with_byte (escaped byte) (text_from false bytes)
text_from false (byte ∷ bytes) =
    if byte == 34 then closed bytes else
    if byte == 92 then text_from true bytes else
    if is_printable byte then with_byte (Some byte) (text_from false bytes) else
    None

-- the closing quote, with nothing behind it
abbrev pub ending : List ℕ → Option (List ℕ)
ending text = if bytes_eq text (34 ∷ []) then Some [] else None

unfoldable pub quoted : List ℕ → Option (List ℕ)
quoted [] = None
quoted (byte ∷ bytes) = if byte == 34 then text_from false bytes else None
