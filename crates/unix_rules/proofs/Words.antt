-- Bytes and words: what bounds the values that instructions and answers give.
use Rattle.std.proofs.Common.{ℕ, zero, suc, ◌-◌, ◌/◌, ◌%◌, ◌^◌, ◌<◌, ◌≤◌, Bool, true, false, List, arith, get_or}
use Rattle.std.proofs.Math.Nat.{div-le_self}
use Rattle.std.proofs.lemmas.List.Elements.{All-cons, All-nil}
use Rattle.std.proofs.lemmas.Int.{ints}
use Rattle.std.proofs.lemmas.Nat.{and_le_l, or_lt, xor_lt}
use Rattle.std.specs.Int.{bytes_low_first, byte_at, cast_signed, cast_unsigned, int_shr, to_le_bytes, w32}
use Rattle.std.specs.Prelude.{All, ℤ, pos, negsuc, ◌<ℤ◌, if◌then◌else◌, int_lt, nat_lt}
use Rattle.unix_model.specs.declared.instructions.RegOp.{RegOp}
use Rattle.unix_model.specs.declared.instructions.RegOp.TheVariants.{Add, Sub, Sll, Slt, Sltu, Xor, Srl, Sra, Or, And}
use Rattle.unix_model.specs.declared.instructions.LoadOp.{LoadOp}
use Rattle.unix_model.specs.declared.instructions.LoadOp.TheVariants.{Lb, Lh, Lw, Lbu, Lhu}
use Rattle.unix_model.specs.Execution.{load_value, reg_value}
use Rattle.unix_model.specs.Numbers.{signed, word_of_bytes}
use Rattle.unix_model.specs.Rules.{IsByte, IsWord}

-- a number below 2^32, or any below 0, as a word
pub cast-word : (z : ℤ) → z <ℤ pos (2 ^ 32) → IsWord (cast_unsigned w32 z)
cast-word (pos n) below = omega (arith, ints)
cast-word (negsuc n) below = let h : 2 ^ 32 - suc n < 2 ^ 32 = omega arith in h

pub signed-below : (n : ℕ) → n < 2 ^ 32 → signed 8 n <ℤ pos (2 ^ 32)
signed-below n below = grind (arith, ints)

pub signed-below_16 : (n : ℕ) → n < 2 ^ 32 → signed 16 n <ℤ pos (2 ^ 32)
signed-below_16 n below = grind (arith, ints)

pub signed-below_12 : (n : ℕ) → n < 2 ^ 12 → signed 12 n <ℤ pos (2 ^ 32)
signed-below_12 n below = grind (arith, ints)

shifted : (z : ℤ) (k : ℕ) → z <ℤ pos (2 ^ 31) → int_shr z k <ℤ pos (2 ^ 32)
shifted (pos n) k below = let h : n / 2 ^ k ≤ n = div-le_self n (2 ^ k) in omega (arith, ints, h)
shifted (negsuc n) k below = omega (arith, ints)

pub bit-word : (test : Bool) → IsWord (if test then 1 else 0)
bit-word true = omega arith
bit-word false = omega arith

pub reg-word : (op : RegOp) (x y : ℕ) → IsWord x → IsWord y → IsWord (reg_value op x y)
reg-word Add x y word other = omega arith
reg-word Sub x y word other = omega arith
reg-word Sll x y word other = omega arith
reg-word Slt x y word other = bit-word (int_lt (cast_signed w32 x) (cast_signed w32 y))
reg-word Sltu x y word other = bit-word (nat_lt x y)
reg-word Xor x y word other = xor_lt 32 x y word other
reg-word Srl x y word other = omega (arith, div-le_self x (2 ^ (y % 32)))
reg-word Sra x y word other = cast-word (int_shr (cast_signed w32 x) (y % 32)) (shifted (cast_signed w32 x) (y % 32) (omega (arith, ints)))
reg-word Or x y word other = or_lt 32 x y word other
reg-word And x y word other = omega (arith, and_le_l x y)

pub load-word : (op : LoadOp) (number : ℕ) → IsWord number → IsWord (load_value op number)
load-word Lb number word = cast-word (signed 8 number) (signed-below number word)
load-word Lh number word = cast-word (signed 16 number) (signed-below_16 number word)
load-word Lw number word = word
load-word Lbu number word = word
load-word Lhu number word = word

-- the bytes of a number
byte-at : (i n : ℕ) → IsByte (byte_at i n)
byte-at zero n = omega arith
byte-at (suc i) n = omega arith

pub low-bytes : (i k n : ℕ) → All IsByte (bytes_low_first i k n)
low-bytes i zero n = All-nil IsByte
low-bytes i (suc k) n = All-cons IsByte (byte_at i n) (bytes_low_first (suc i) k n) (byte-at i n) (low-bytes (suc i) k n)

pub word-bytes : (n : ℕ) → All IsByte (to_le_bytes w32 n)
word-bytes n = low-bytes 0 4 n

-- the number of bytes
pub bytes-word : (bytes : List ℕ) → ((i : ℕ) → IsByte (get_or bytes i 0)) → IsWord (word_of_bytes bytes)
bytes-word bytes each = omega (arith, each 0, each 1, each 2, each 3)
