-- The pages that a region stands for.
use Rattle.std.specs.Prelude.{ℕ, Option, None, option_map, slice_index_or}
use Rattle.unix_model.specs.Memory as model
use Rattle.flat_memory.specs.declared.region.Region.{Region}
use Rattle.flat_memory.specs.PageView.{page_of}

unfoldable pub region_of : Region → ℕ → Option model.Page
region_of region = λ place. option_map page_of (slice_index_or region.pages.items place None)
