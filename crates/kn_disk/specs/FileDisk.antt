-- A disk over a file, whose type has those of the open files and folders beside it.
use Rattle.std.specs.Prelude.{ℕ}
use Rattle.kn_disk.specs.declared.file_disk.FileDisk.{FileDisk}

-- how many of its calls failed
abbrev pub file_faults : {Files File Folder : Type 0} → FileDisk Files File Folder → ℕ
file_faults disk = disk.faults
