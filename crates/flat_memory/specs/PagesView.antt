-- The flat memory that the pages of a process stand for.
use Rattle.std.specs.Prelude.{ℕ, ◌/◌, ◌%◌, Option, Some, None, slice_index_or}
use Rattle.unix_model.specs.Memory as model
use Rattle.unix_model.specs.Tables.{at, nothing}
use Rattle.flat_memory.specs.declared.pages.Pages.{Pages}
use Rattle.flat_memory.specs.declared.region.Region.{Region}
use Rattle.flat_memory.specs.RegionView.{region_of}

-- the pages of a region, where it is there
abbrev pub pages_in : Option Region → ℕ → Option model.Page
pages_in None = nothing
pages_in (Some region) = region_of region

-- page n is at place n mod 1,024 of region n / 1,024
unfoldable pub table_of : Pages → model.Memory
table_of pages = λ n. at (pages_in (slice_index_or pages.regions.items (n / 1024) None)) (n % 1024)
