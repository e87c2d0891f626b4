-- The open files that those of the plain machine stand for.
use Rattle.unix_model.specs.State as model
use Rattle.flat_files.specs.declared.opened.Opened.{Opened}
use Rattle.flat_files.specs.InodeView.{description_of}

abbrev pub opened_of : Opened → model.Opened
opened_of file = record { number = file.number; description = description_of file.description }
