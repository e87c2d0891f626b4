-- How the fields of a header are found in bytes that were read from a part of the file.
use Rattle.std.proofs.Common.{◌≡◌, ℕ, ◌+◌, ◌-◌, ◌<◌, ◌≤◌, List, length, take, drop, get_or, refl, arith, add-zero, add_assoc, ap}
use Rattle.std.proofs.lemmas.List.{get_or-take, get_or-drop, take_rest}
use Rattle.byteorder.specs.Endian.{little_number}
use Rattle.unix_model.specs.Elf.{header_half, header_word, file_header, program_header, has_magic}

-- the number in the first 2 bytes of what a list has from a place on
pub little_number-half : (bytes : List ℕ) (place : ℕ) → little_number 2 (take (length bytes - place) (drop place bytes)) ≡ header_half bytes place
unfolding header_half
little_number-half bytes place =
    rw (take_rest bytes place, get_or-drop place bytes 0 0, get_or-drop place bytes 1 0, add-zero place) (omega arith)

-- the number in the first 4 bytes of what a list has from a place on
pub little_number-word : (bytes : List ℕ) (place : ℕ) → little_number 4 (take (length bytes - place) (drop place bytes)) ≡ header_word bytes place
unfolding header_half header_word
little_number-word bytes place =
    let fourth = ap (λ i. get_or bytes i 0) (add_assoc place 2 1) in
    rw (take_rest bytes place, get_or-drop place bytes 0 0, get_or-drop place bytes 1 0, get_or-drop place bytes 2 0, get_or-drop place bytes 3 0, add-zero place)
    (omega (arith, fourth))

-- a byte of a part of the file, by its place in the whole file
pub byte-part : (bytes : List ℕ) (start size place : ℕ) → place < size → get_or (take size (drop start bytes)) place 0 ≡ get_or bytes (start + place) 0
byte-part bytes start size place within = rw get_or-take (get_or-drop start bytes place 0)

-- the numbers of a part of the file, by their places in the whole file
pub half-part : (bytes : List ℕ) (start size place : ℕ) → place + 2 ≤ size → header_half (take size (drop start bytes)) place ≡ header_half bytes (start + place)
unfolding header_half
half-part bytes start size place within =
    let low = byte-part bytes start size place (omega arith) in
    let high = byte-part bytes start size (place + 1) (omega arith) in
    rw (low, high, add_assoc) refl

pub word-part : (bytes : List ℕ) (start size place : ℕ) → place + 4 ≤ size → header_word (take size (drop start bytes)) place ≡ header_word bytes (start + place)
unfolding header_word
word-part bytes start size place within =
    let low = half-part bytes start size place (omega arith) in
    let high = half-part bytes start size (place + 2) (omega arith) in
    rw (low, high, add_assoc) refl

-- a header in a part of the file is the header in the whole file
pub has_magic-part : (bytes : List ℕ) → has_magic (take 52 bytes) ≡ has_magic bytes
unfolding has_magic
has_magic-part bytes =
    let first = byte-part bytes 0 52 0 (omega arith) in
    let second = byte-part bytes 0 52 1 (omega arith) in
    let third = byte-part bytes 0 52 2 (omega arith) in
    let fourth = byte-part bytes 0 52 3 (omega arith) in
    rw (first, second, third, fourth) refl

pub file_header-part : (bytes : List ℕ) → file_header (take 52 bytes) ≡ file_header bytes
unfolding file_header
file_header-part bytes =
    let class = byte-part bytes 0 52 4 (omega arith) in
    let encoding = byte-part bytes 0 52 5 (omega arith) in
    let version = byte-part bytes 0 52 6 (omega arith) in
    let kind = half-part bytes 0 52 16 (omega arith) in
    let machine = half-part bytes 0 52 18 (omega arith) in
    let entry = word-part bytes 0 52 24 (omega arith) in
    let table = word-part bytes 0 52 28 (omega arith) in
    let header_bytes = half-part bytes 0 52 42 (omega arith) in
    let headers = half-part bytes 0 52 44 (omega arith) in
    rw (has_magic-part bytes, class, encoding, version, kind, machine, entry, table, header_bytes, headers) refl

pub program_header-part : (bytes : List ℕ) (place : ℕ) → program_header (take 32 (drop place bytes)) 0 ≡ program_header bytes place
unfolding program_header
program_header-part bytes place =
    let kind = word-part bytes place 32 0 (omega arith) in
    let offset = word-part bytes place 32 4 (omega arith) in
    let at = word-part bytes place 32 8 (omega arith) in
    let file_bytes = word-part bytes place 32 16 (omega arith) in
    let memory_bytes = word-part bytes place 32 20 (omega arith) in
    let flags = word-part bytes place 32 24 (omega arith) in
    rw (kind, offset, at, file_bytes, memory_bytes, flags, add-zero) refl

pub ruleset parts = (file_header-part, program_header-part)
