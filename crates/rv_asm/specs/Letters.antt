-- The bytes of a source, in ASCII: blanks, and what names are made of.
use Rattle.std.specs.Prelude.{ℕ, Bool, false, not, ◌&&◌, ◌||◌, List, [], ◌∷◌, length, position, is_none, ◌==◌, nat_le}
use Rattle.unix_model.specs.Texts.{is_digit}

-- a space or a tab
abbrev pub is_blank : ℕ → Bool
is_blank byte = (byte == 32) || (byte == 9)

abbrev pub is_letter : ℕ → Bool
is_letter byte = (nat_le 65 byte && nat_le byte 90) || (nat_le 97 byte && nat_le byte 122)

-- a letter, a digit or `_`
abbrev pub is_name_byte : ℕ → Bool
is_name_byte byte = is_letter byte || is_digit byte || (byte == 95)

abbrev pub is_other : ℕ → Bool
is_other byte = not (is_name_byte byte)

-- the name of a label: 1 to 64 letters, digits and `_`, of which the first is no digit
unfoldable pub is_label : List ℕ → Bool
is_label [] = false
is_label (byte ∷ bytes) = not (is_digit byte) && is_none (position is_other (byte ∷ bytes)) && nat_le (length (byte ∷ bytes)) 64
