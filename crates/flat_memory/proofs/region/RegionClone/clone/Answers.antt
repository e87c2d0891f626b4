use Rattle.std.proofs.Math.Path.{fun_ext}
use Rattle.flat_memory.specs.PageView.{page_of}
use Rattle.flat_memory.specs.RegionView.{region_of}
use Rattle.flat_memory.proofs.PlaceLaws.{table-copied}
use Rattle.flat_memory.proofs.region.RegionClone.clone.Goals as goal

pub returns : goal.returns
unfolding region_of
returns c =
    record { cases = fun_ext (λ k. table-copied page_of _ c.args.self.now.pages.items c.in_ok-clone.field-0.items (λ x y e. e) (λ x e. e) (λ y e. e) c.in_ok-clone.ensures.cases.0 k) }
