-- A source over a file, whose type has those of the open files and folders beside it.
use Rattle.std.specs.Prelude.{ℕ}
use Rattle.kn_io.specs.declared.file_source.FileSource.{FileSource}

-- how many of its calls failed
abbrev pub file_faults : {Files File Folder : Type 0} → FileSource Files File Folder → ℕ
file_faults source = source.faults
