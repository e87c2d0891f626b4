-- Where statements stand: the two parts, their bytes so far, and labels.
use Rattle.std.specs.Prelude.{ℕ, ◌+◌, ◌-◌, ◌*◌, ◌/◌, ◌%◌, ◌^◌, List, length, Option, Some, None, bytes_eq}
use Rattle.std.specs.Map.{update}
use Rattle.rv_asm.specs.declared.layout.Place.{Place}
use Rattle.rv_asm.specs.declared.layout.Position.{Position}
use Rattle.rv_asm.specs.declared.mnemonics.Part.{Part}
use Rattle.rv_asm.specs.declared.mnemonics.Part.TheVariants.{Text, Data}
use Rattle.rv_asm.specs.Statements.{Statement, Nothing, Switch, Single, Double, Jump, Branch, Address, Word, Byte, Ascii, Space, Align}

-- the zeros behind so many bytes, up to a multiple of 2^exponent
abbrev pub padding : ℕ → ℕ → ℕ
padding exponent bytes = (2 ^ exponent - bytes % 2 ^ exponent) % 2 ^ exponent

abbrev pub bytes_if : Option ℕ → ℕ
bytes_if None = 0
bytes_if (Some bytes) = bytes

abbrev pub padding_if : Option ℕ → ℕ → ℕ
padding_if None bytes = 0
padding_if (Some exponent) bytes = padding exponent bytes

-- how many bytes a statement adds to a part of so many bytes
unfoldable pub size_of : Statement → ℕ → ℕ
size_of Nothing bytes = 0
size_of (Switch part) bytes = 0
size_of (Single instruction) bytes = 4
size_of (Double instructions) bytes = 8
size_of (Jump rd label) bytes = 4
size_of (Branch op rs1 rs2 label) bytes = 4
size_of (Address rd label) bytes = 8
size_of (Word number) bytes = 4
size_of (Byte number) bytes = 1
size_of (Ascii text) bytes = length text
size_of (Space zeros) bytes = bytes_if zeros
size_of (Align exponent) bytes = padding_if exponent bytes

-- the bytes of the part that goes on
abbrev pub bytes_in : Part → Position → ℕ
bytes_in Text position = position.text_bytes
bytes_in Data position = position.data_bytes

abbrev pub grown : Part → ℕ → Position → Position
grown Text size position = record position { text_bytes = position.text_bytes + size }
grown Data size position = record position { data_bytes = position.data_bytes + size }

abbrev pub switched : Statement → Part → Part
switched Nothing part = part
switched (Switch other) part = other
switched (Single instruction) part = part
switched (Double instructions) part = part
switched (Jump rd label) part = part
switched (Branch op rs1 rs2 label) part = part
switched (Address rd label) part = part
switched (Word number) part = part
switched (Byte number) part = part
switched (Ascii text) part = part
switched (Space zeros) part = part
switched (Align exponent) part = part

-- the position behind a statement
unfoldable pub moved : Statement → Position → Position
moved statement position =
    record (grown position.part (size_of statement (bytes_in position.part position)) position) { part = switched statement position.part }

abbrev pub start : Position
start = record { part = Text; text_bytes = 0; data_bytes = 0 }

-- the place at which the next byte will stand
abbrev pub place_of : Position → Place
place_of position = record { part = position.part; offset = bytes_in position.part position }

-- ---- labels

-- the place of each name that is a label
abbrev pub Labels : Type 0
Labels = List ℕ → Option Place

abbrev pub no_labels : Labels
no_labels name = None

abbrev pub with_label : Labels → List ℕ → Place → Labels
with_label labels name place = update bytes_eq labels name (Some place)

-- ---- addresses

-- the address at which the text begins, and at which data begin behind a text of so many bytes: the next multiple of 4096
unfoldable pub text_start : ℕ
text_start = 0x1_0000

unfoldable pub data_start : ℕ → ℕ
data_start text_bytes = (text_start + text_bytes + 4095) / 4096 * 4096

abbrev pub address_in : Part → ℕ → ℕ → ℕ
address_in Text text_bytes offset = text_start + offset
address_in Data text_bytes offset = data_start text_bytes + offset

-- the address of a place, where the text has so many bytes
abbrev pub address_of : ℕ → Place → ℕ
address_of text_bytes place = address_in place.part text_bytes place.offset
