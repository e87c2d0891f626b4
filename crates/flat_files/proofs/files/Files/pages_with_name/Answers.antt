use Rattle.std.proofs.Common.{Option, Some, ap, ◌∙◌}
use Rattle.unix_model.specs.Files.{Inode, Directory, inode_pages, places_of, with_entry}
use Rattle.flat_files.proofs.files.Files.pages_with_name.Goals as goal

pub returns-in-Some-clause-pages : goal.returns-in-Some-clause-pages
returns-in-Some-clause-pages c = λ parent entry.
    c.pages_with_entry.ensures.pages parent entry
    ∙ ap (λ (held : Option Inode). inode_pages (Some (Directory parent (with_entry (places_of held) entry)))) c.in-Some.ensures.value
