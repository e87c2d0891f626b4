-- The files that the tables of the plain machine stand for.
use Rattle.unix_model.specs.Files as model
use Rattle.flat_files.specs.declared.files.Files.{Files}
use Rattle.flat_files.specs.DescriptionsView.{descriptions_of}
use Rattle.flat_files.specs.InodesView.{inodes_of}

abbrev pub files_of : Files → model.Files
files_of files = record { inodes = inodes_of files.inodes; descriptions = descriptions_of files.descriptions }
