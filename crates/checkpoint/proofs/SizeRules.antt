-- The number of pages that a store counts.
use Rattle.obj_store.specs.StoreLaws.{ram-pages}

pub ruleset counted = (ram-pages)
