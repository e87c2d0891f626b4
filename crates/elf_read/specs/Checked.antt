-- The file header that the reader goes on with.
use Rattle.std.specs.Prelude.{ℕ, List, length, Result, Ok}
use Rattle.unix_model.specs.declared.elf.FileHeader.{FileHeader}
use Rattle.unix_model.specs.declared.elf.ElfFault.{ElfFault}
use Rattle.unix_model.specs.Elf.{first_of_tests, file_tests, file_header}

-- the header of a file that passes its tests, or the first fault
abbrev pub checked_file_header : List ℕ → Result FileHeader ElfFault
checked_file_header bytes = first_of_tests (file_tests (length bytes) (file_header bytes)) (Ok (file_header bytes))
