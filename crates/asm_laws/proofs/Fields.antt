-- The headers that are read from the head of a file.
use Rattle.std.proofs.Common.{◌≡◌, ℕ, ◌+◌, ◌<◌, ◌^◌, List, ◌++◌, true, refl, arith}
use Rattle.unix_model.specs.declared.elf.FileHeader.{FileHeader}
use Rattle.unix_model.specs.declared.elf.ProgramHeader.{ProgramHeader}
use Rattle.unix_model.specs.Elf as elf
use Rattle.rv_asm.specs.Files.{file_header, head, program_header, word}
use Rattle.rv_asm.specs.Layout.{text_start, data_start}

-- a number that was written as a word is read back
word_read : (n : ℕ) → n < 2 ^ 32 → elf.header_word (word n) 0 ≡ n
unfolding elf.header_word elf.header_half
word_read n small = omega arith

abbrev pub header_made : FileHeader
header_made = record {
  magic = true;
  class = 1;
  encoding = 1;
  version = 1;
  kind = 2;
  machine = 243;
  entry = text_start;
  table = 52;
  header_bytes = 32;
  headers = 2;
}

pub file_header_read : (text_bytes data_bytes : ℕ) (rest : List ℕ) → elf.file_header (head text_bytes data_bytes ++ rest) ≡ header_made
unfolding elf.file_header elf.has_magic elf.header_word elf.header_half head file_header program_header text_start
file_header_read text_bytes data_bytes rest = refl

-- a program header of an offset, an address, a size and flags
abbrev pub load_header : ℕ → ℕ → ℕ → ℕ → ProgramHeader
load_header offset address bytes flags = record {
  kind = 1;
  offset = offset;
  at = address;
  file_bytes = bytes;
  memory_bytes = bytes;
  flags = flags;
}

words_read : (offset address bytes : ℕ) → offset < 2 ^ 32 → address < 2 ^ 32 → bytes < 2 ^ 32 → (flags : ℕ)
    → ◌≡◌ {A = ProgramHeader} (record {
      kind = 1;
      offset = elf.header_word (word offset) 0;
      at = elf.header_word (word address) 0;
      file_bytes = elf.header_word (word bytes) 0;
      memory_bytes = elf.header_word (word bytes) 0;
      flags = flags;
    }) (load_header offset address bytes flags)
words_read offset address bytes first second third flags = rw (word_read offset first, word_read address second, word_read bytes third) refl

pub text_header_read : (text_bytes data_bytes : ℕ) (rest : List ℕ) → text_bytes < 2 ^ 32
    → elf.program_header (head text_bytes data_bytes ++ rest) 52 ≡ load_header 116 text_start text_bytes 5
unfolding elf.program_header elf.header_word elf.header_half head file_header program_header text_start
text_header_read text_bytes data_bytes rest small = words_read 116 text_start text_bytes (omega arith) (omega arith) small 5

pub data_header_read : (text_bytes data_bytes : ℕ) (rest : List ℕ) → 116 + text_bytes < 2 ^ 32 → data_start text_bytes < 2 ^ 32 → data_bytes < 2 ^ 32
    → elf.program_header (head text_bytes data_bytes ++ rest) 84 ≡ load_header (116 + text_bytes) (data_start text_bytes) data_bytes 6
unfolding elf.program_header elf.header_word elf.header_half head file_header program_header
data_header_read text_bytes data_bytes rest offset address bytes = words_read (116 + text_bytes) (data_start text_bytes) data_bytes offset address bytes 6
