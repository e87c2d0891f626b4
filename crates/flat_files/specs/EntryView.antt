-- The entries that those of the plain machine stand for.
use Rattle.std.specs.Prelude.{Option, option_map}
use Rattle.unix_model.specs.Files as model
use Rattle.flat_files.specs.declared.entry.Entry.{Entry}

abbrev pub entry_of : Entry → model.Entry
entry_of entry = record { name = entry.name.items; inode = entry.inode }

abbrev pub place_of : Option Entry → Option model.Entry
place_of place = option_map entry_of place
