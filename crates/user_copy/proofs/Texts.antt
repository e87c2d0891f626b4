-- A text that is read byte by byte.
use Rattle.std.proofs.Common.{◌≡◌, ◌≢◌, ◌<◌, ◌+◌, ◌-◌, ◌/◌, ◌%◌, ℕ, suc, Some, None, List, [], ◌∷◌, ◌++◌, drop, get_or, refl, ap, sym, ◌∙◌, arith, append_assoc, append-nil, add-zero, add-one}
use Rattle.std.specs.Prelude.{Result, Ok, Err}
use Rattle.std.proofs.lemmas.Bool.{ne_eqb}
use Rattle.std.proofs.lemmas.List.{get_or-drop, get_or-take}
use Rattle.kn_base.specs.Rows.{part_at}
use Rattle.unix_model.specs.Memory.{Memory, Page, byte_at, bytes_at}
use Rattle.unix_model.specs.Enter.{text_at}
use Rattle.unix_model.specs.Refusals.{◌>>=◌}
use Rattle.unix_model.specs.Tables.{at}
use Rattle.unix_model.specs.declared.calls.Errno.{Errno}
use Rattle.unix_model.specs.declared.calls.Errno.TheVariants.{Efault}
use Rattle.user_copy.proofs.Reading.{byte_here}

-- a text behind some bytes
abbrev pub text_behind : List ℕ → Result (List ℕ) Errno → Result (List ℕ) Errno
text_behind bytes (Ok text) = Ok (bytes ++ text)
text_behind bytes (Err errno) = Err errno

behind_more : (bytes : List ℕ) (byte : ℕ) (text : Result (List ℕ) Errno) → text_behind bytes (text_behind (byte ∷ []) text) ≡ text_behind (bytes ++ byte ∷ []) text
behind_more bytes byte (Ok text) = ap (λ (all : List ℕ). Ok all) (sym (append_assoc bytes (byte ∷ []) text))
behind_more bytes byte (Err errno) = refl

and_behind : (byte : ℕ) (text : Result (List ℕ) Errno) → (text >>= (λ (bytes : List ℕ). Ok (byte ∷ bytes))) ≡ text_behind (byte ∷ []) text
and_behind byte (Ok text) = refl
and_behind byte (Err errno) = refl

behind_nothing : (text : Result (List ℕ) Errno) → text ≡ text_behind [] text
behind_nothing (Ok text) = refl
behind_nothing (Err errno) = refl

module _ (memory : Memory) (too_long : Errno) (address : ℕ) where
  text_end : (n : ℕ) → byte_at memory address ≡ Some 0 → text_at memory too_long (suc n) address ≡ Ok []
  unfolding text_at
  text_end n e = rw e refl

  text_more : (n byte : ℕ) → byte_at memory address ≡ Some byte → byte ≢ 0 → text_at memory too_long (suc n) address ≡ text_behind (byte ∷ []) (text_at memory too_long n (address + 1))
  unfolding text_at
  text_more n byte e some = rw (e, ne_eqb byte 0 some) (and_behind byte (text_at memory too_long n (address + 1)))

  text_unmapped : (n : ℕ) → byte_at memory address ≡ None → text_at memory too_long (suc n) address ≡ Err Efault
  unfolding text_at
  text_unmapped n e = rw e refl

  pub text_first : text_at memory too_long 256 address ≡ text_behind [] (text_at memory too_long 256 (address + 0))
  text_first = rw (add-zero address) (behind_nothing (text_at memory too_long 256 address))

-- the text once so many bytes of it were read
module _ (memory : Memory) (too_long : Errno) (address i : ℕ) (bytes : List ℕ) (below : i < 256)
    (so_far : text_at memory too_long 256 address ≡ text_behind bytes (text_at memory too_long (256 - i) (address + i))) where
  left : 256 - i ≡ suc (256 - (i + 1))
  left = omega arith

  one_left : text_at memory too_long 256 address ≡ text_behind bytes (text_at memory too_long (suc (256 - (i + 1))) (address + i))
  one_left = so_far ∙ ap (λ n. text_behind bytes (text_at memory too_long n (address + i))) left

  pub ends_here : byte_at memory (address + i) ≡ Some 0 → text_at memory too_long 256 address ≡ Ok bytes
  ends_here e =
      one_left ∙ ap (text_behind bytes) (text_end memory too_long (address + i) (256 - (i + 1)) e)
      ∙ ap (λ (all : List ℕ). Ok all) (append-nil bytes)

  pub goes_on : (byte : ℕ) → byte_at memory (address + i) ≡ Some byte → byte ≢ 0
      → text_at memory too_long 256 address ≡ text_behind (bytes ++ byte ∷ []) (text_at memory too_long (256 - (i + 1)) (address + (i + 1)))
  goes_on byte e some =
      let next : address + i + 1 ≡ address + (i + 1) = omega arith in
      one_left
      ∙ ap (text_behind bytes) (text_more memory too_long (address + i) (256 - (i + 1)) byte e some)
      ∙ behind_more bytes byte (text_at memory too_long (256 - (i + 1)) (address + i + 1))
      ∙ ap (λ k. text_behind (bytes ++ byte ∷ []) (text_at memory too_long (256 - (i + 1)) k)) next

  pub is_unmapped : byte_at memory (address + i) ≡ None → text_at memory too_long 256 address ≡ Err Efault
  is_unmapped e = one_left ∙ ap (text_behind bytes) (text_unmapped memory too_long (address + i) (256 - (i + 1)) e)

-- no NUL was among them
pub is_too_long : (memory : Memory) (too_long : Errno) (address i : ℕ) (bytes : List ℕ) → i ≡ 256
    → text_at memory too_long 256 address ≡ text_behind bytes (text_at memory too_long (256 - i) (address + i)) → text_at memory too_long 256 address ≡ Err too_long
unfolding text_at
is_too_long memory too_long address i bytes all so_far =
    let none : 256 - i ≡ 0 = omega arith in
    so_far ∙ ap (λ n. text_behind bytes (text_at memory too_long n (address + i))) none

-- one byte of a page
pub one_byte : (memory : Memory) (address : ℕ) (page : Page) (bytes : List ℕ) → at memory (address / 4096) ≡ Some page → bytes ≡ part_at page.bytes (address % 4096) 1
    → Some (get_or bytes 0 0) ≡ byte_at memory address
one_byte memory address page bytes e is =
    let zero_more : address + 0 ≡ address = omega arith in
    let place : address % 4096 + 0 ≡ address % 4096 = omega arith in
    ap (λ (found : List ℕ). Some (get_or found 0 0)) is
    ∙ ap (λ (n : ℕ). Some n) (get_or-take 1 (drop (address % 4096) page.bytes) 0 0 (omega arith) ∙ get_or-drop (address % 4096) page.bytes 0 0)
    ∙ sym (ap (byte_at memory) (sym zero_more) ∙ byte_here memory address 0 page e (omega arith))

pub no_byte : (memory : Memory) (address : ℕ) → at memory (address / 4096) ≡ None → None ≡ byte_at memory address
unfolding byte_at
no_byte memory address e = rw e refl

-- the bytes that were read so far: none, and one more
pub held_none : (memory : Memory) (address : ℕ) (bytes : List ℕ) → bytes ≡ [] → bytes_at memory address 0 ≡ Some bytes
unfolding bytes_at
held_none memory address bytes none = ap (λ (all : List ℕ). Some all) (sym none)

pub held_more : (memory : Memory) (address i byte : ℕ) (bytes : List ℕ) → bytes_at memory address i ≡ Some bytes → byte_at memory (address + i) ≡ Some byte
    → bytes_at memory address (i + 1) ≡ Some (bytes ++ byte ∷ [])
unfolding bytes_at
held_more memory address i byte bytes before here = ap (bytes_at memory address) (add-one i) ∙ rw (before, here) refl
