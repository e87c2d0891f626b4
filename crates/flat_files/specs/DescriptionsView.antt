-- The open descriptions that the table of the plain machine stands for.
use Rattle.std.specs.Prelude.{ℕ, Option, None, option_map, slice_index_or}
use Rattle.unix_model.specs.Files as model
use Rattle.flat_files.specs.declared.descriptions.Descriptions.{Descriptions}
use Rattle.flat_files.specs.InodeView.{description_of}

unfoldable pub descriptions_of : Descriptions → ℕ → Option model.Description
descriptions_of descriptions = λ n. option_map description_of (slice_index_or descriptions.items.items n None)
