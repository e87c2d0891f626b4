-- Bytes that are read: in one page, and across pages.
use Rattle.std.proofs.Common.{◌≡◌, ◌<◌, ◌≤◌, ◌+◌, ◌-◌, ◌/◌, ◌%◌, ◌^◌, ℕ, zero, suc, Option, Some, None, List, [], ◌∷◌, ◌++◌, length, take, get_or, refl, ap, sym, ◌∙◌, arith, add-zero, add-one, append-nil, append_assoc}
use Rattle.std.specs.Prelude.{option_map, Err}
use Rattle.std.proofs.lemmas.Slice.{take-put_mid}
use borrow.Rule.Slice.PartMut.{put_mid}
use Rattle.kn_base.specs.Rows.{part_at}
use Rattle.kn_base.proofs.RowLaws.{part_at-more}
use Rattle.kernel_tables.specs.Kernel.{Kernel}
use Rattle.unix_model.specs.Memory.{Memory, Page, byte_at, bytes_at, and_byte}
use Rattle.unix_model.specs.Tables.{at}
use Rattle.unix_model.proofs.MemoryLaws.{bytes_at-unmapped}
use Rattle.user_copy.specs.SpaceMemory.{space_memory}
use Rattle.user_copy.specs.Taking.{Takes}
use Rattle.user_copy.specs.declared.fault.CopyFault.{CopyFault}
use Rattle.user_copy.specs.declared.fault.CopyFault.TheVariants.{BadAddress, TooLong}
use Rattle.user_copy.proofs.Pages.{memory_far}

-- a byte of a page
pub byte_here : (memory : Memory) (address i : ℕ) (page : Page) → at memory (address / 4096) ≡ Some page → address % 4096 + i < 4096
    → byte_at memory (address + i) ≡ Some (get_or page.bytes (address % 4096 + i) 0)
unfolding byte_at
byte_here memory address i page e inside =
    let number : (address + i) / 4096 ≡ address / 4096 = omega arith in
    let place : (address + i) % 4096 ≡ address % 4096 + i = omega arith in
    rw (number, place, e) refl

-- bytes of a page
pub bytes_here : (memory : Memory) (address n : ℕ) (page : Page) → at memory (address / 4096) ≡ Some page → length page.bytes ≡ 4096 → address % 4096 + n ≤ 4096
    → bytes_at memory address n ≡ Some (part_at page.bytes (address % 4096) n)
unfolding bytes_at
bytes_here memory address zero page e whole inside = refl
bytes_here memory address (suc n) page e whole inside =
    let before : bytes_at memory address n ≡ Some (part_at page.bytes (address % 4096) n) = bytes_here memory address n page e whole (omega arith) in
    let byte : byte_at memory (address + n) ≡ Some (get_or page.bytes (address % 4096 + n) 0) = byte_here memory address n page e (omega arith) in
    let more : part_at page.bytes (address % 4096) n ++ get_or page.bytes (address % 4096 + n) 0 ∷ [] ≡ part_at page.bytes (address % 4096) (n + 1)
    = part_at-more page.bytes (address % 4096) n (get_or page.bytes (address % 4096 + n) 0) 0 (omega arith) refl in
    rw (before, byte) (ap (λ (bytes : List ℕ). Some bytes) (more ∙ ap (part_at page.bytes (address % 4096)) (add-one n)))

-- no bytes
pub bytes_empty : (memory : Memory) (address : ℕ) (bytes : List ℕ) → length bytes ≡ 0 → bytes_at memory address (length bytes) ≡ Some bytes
unfolding bytes_at
bytes_empty memory address [] e = refl
bytes_empty memory address (byte ∷ bytes) e = absurd (omega arith)

-- none where the page of the first one isn't mapped
pub bytes_none : (memory : Memory) (address n : ℕ) → at memory (address / 4096) ≡ None → 0 < n → bytes_at memory address n ≡ None
unfolding byte_at
bytes_none memory address n e some = bytes_at-unmapped memory address 0 n some (rw (add-zero address, e) refl)

-- none where the range passes the end of all pages
pub bytes_far : (kernel : Kernel) (space address n : ℕ) → 2 ^ 31 < address + n → 0 < n → bytes_at (space_memory kernel space) address n ≡ None
unfolding byte_at
bytes_far kernel space address n far some =
    bytes_at-unmapped (space_memory kernel space) address (n - 1) n (omega arith)
    (rw (memory_far kernel space ((address + (n - 1)) / 4096) (omega arith)) refl)

and_more : (first : List ℕ) (found : Option (List ℕ)) (byte : Option ℕ) → and_byte (option_map (λ more. first ++ more) found) byte ≡ option_map (λ more. first ++ more) (and_byte found byte)
and_more first None byte = refl
and_more first (Some bytes) None = refl
and_more first (Some bytes) (Some byte) = ap (λ (all : List ℕ). Some all) (append_assoc first bytes (byte ∷ []))

-- bytes behind bytes
pub bytes_more : (memory : Memory) (address n m : ℕ) (first : List ℕ) → bytes_at memory address n ≡ Some first
    → bytes_at memory address (n + m) ≡ option_map (λ more. first ++ more) (bytes_at memory (address + n) m)
unfolding bytes_at
bytes_more memory address n zero first e = ap (bytes_at memory address) (add-zero n) ∙ e ∙ ap (λ (all : List ℕ). Some all) (sym (append-nil first))
bytes_more memory address n (suc m) first e =
    let next : n + suc m ≡ suc (n + m) = omega arith in
    let place : address + (n + m) ≡ address + n + m = omega arith in
    let before : bytes_at memory address (n + m) ≡ option_map (λ more. first ++ more) (bytes_at memory (address + n) m) = bytes_more memory address n m first e in
    ap (bytes_at memory address) next
    ∙ ap (λ found. and_byte found (byte_at memory (address + (n + m)))) before
    ∙ ap (λ k. and_byte (option_map (λ more. first ++ more) (bytes_at memory (address + n) m)) (byte_at memory k)) place
    ∙ and_more first (bytes_at memory (address + n) m) (byte_at memory (address + n + m))

none_byte : (byte : Option ℕ) → and_byte None byte ≡ None
none_byte None = refl
none_byte (Some byte) = refl

-- where some are not mapped, more aren't either
pub bytes_none_more : (memory : Memory) (address n m : ℕ) → bytes_at memory address n ≡ None → bytes_at memory address (n + m) ≡ None
unfolding bytes_at
bytes_none_more memory address n zero e = ap (bytes_at memory address) (add-zero n) ∙ e
bytes_none_more memory address n (suc m) e =
    let next : n + suc m ≡ suc (n + m) = omega arith in
    ap (bytes_at memory address) next
    ∙ ap (λ found. and_byte found (byte_at memory (address + (n + m)))) (bytes_none_more memory address n m e)
    ∙ none_byte (byte_at memory (address + (n + m)))

-- so many bytes are there, and those of a further piece
pub piece_more : (memory : Memory) (address done end : ℕ) (first piece : List ℕ) → done ≤ end
    → bytes_at memory address done ≡ Some first → bytes_at memory (address + done) (end - done) ≡ Some piece
    → bytes_at memory address end ≡ Some (first ++ piece)
piece_more memory address done end first piece order before here =
    let sum : end ≡ done + (end - done) = omega arith in
    ap (bytes_at memory address) sum ∙ bytes_more memory address done (end - done) first before ∙ ap (option_map (λ more. first ++ more)) here

-- .. or one of the piece isn't
pub piece_none : (memory : Memory) (address done end all : ℕ) (first : List ℕ) → done ≤ end → end ≤ all
    → bytes_at memory address done ≡ Some first → bytes_at memory (address + done) (end - done) ≡ None
    → bytes_at memory address all ≡ None
piece_none memory address done end all first order within before here =
    let sum : end ≡ done + (end - done) = omega arith in
    let rest : all ≡ end + (all - end) = omega arith in
    let none : bytes_at memory address end ≡ None = ap (bytes_at memory address) sum ∙ bytes_more memory address done (end - done) first before ∙ ap (option_map (λ more. first ++ more)) here in
    ap (bytes_at memory address) rest ∙ bytes_none_more memory address end (all - end) none

-- the same, of a call for the piece
pub piece_missed : (fault : CopyFault) (memory : Memory) (address done end all count : ℕ) (first piece into : List ℕ) → done ≤ end → end ≤ all → count ≡ end - done
    → bytes_at memory address done ≡ Some first → Takes (Err fault) piece (bytes_at memory (address + done) count)
    → Takes (Err fault) into (bytes_at memory address all)
piece_missed BadAddress memory address done end all count first piece into order within is before here =
    piece_none memory address done end all first order within before (ap (bytes_at memory (address + done)) (sym is) ∙ here)
piece_missed TooLong memory address done end all count first piece into order within is before here = absurd here

-- what has been read once a piece was put behind what was there
pub piece_put : (memory : Memory) (address done end count : ℕ) (old piece : List ℕ) → done ≤ end → end ≤ length old → count ≡ end - done → length piece ≡ count
    → bytes_at memory address done ≡ Some (take done old) → bytes_at memory (address + done) count ≡ Some piece
    → bytes_at memory address end ≡ Some (take end (put_mid done (end - done) old piece))
piece_put memory address done end count old piece order within is long before here =
    piece_more memory address done end (take done old) piece order before (ap (bytes_at memory (address + done)) (sym is) ∙ here)
    ∙ ap (λ (bytes : List ℕ). Some bytes) (sym (take-put_mid done (end - done) old piece end (omega arith) (omega arith)))
