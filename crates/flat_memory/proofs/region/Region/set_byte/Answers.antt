use Rattle.std.proofs.Common.{arith, Some, ap, ◌∙◌, sym}
use Rattle.std.specs.Prelude.{option_map}
use Rattle.unix_model.specs.Memory as model
use Rattle.unix_model.specs.Memory.{page_with_byte}
use Rattle.unix_model.specs.Tables.{at}
use Rattle.flat_memory.specs.PageView.{page_of}
use Rattle.flat_memory.specs.RegionView.{region_of}
use Rattle.flat_memory.proofs.PlaceLaws.{table-changed}
use Rattle.flat_memory.proofs.region.Region.set_byte.Goals as goal

pub returns-in-Some : goal.returns-in-Some
unfolding region_of at
returns-in-Some c =
    table-changed page_of (page_with_byte c.args.at_byte c.args.byte) c.args.self.now.pages.items c.args.place c.index_mut.result.now (Some c.set.new.self)
    (omega (arith, c.args.self.now.full)) c.index_mut.ensures.value
    (ap (λ (page : model.Page). Some page) c.set.ensures ∙ ap (λ held. option_map (page_with_byte c.args.at_byte c.args.byte) (option_map page_of held)) (sym c.in-Some.is))

pub returns-in-None : goal.returns-in-None
unfolding region_of at
returns-in-None c =
    table-changed page_of (page_with_byte c.args.at_byte c.args.byte) c.args.self.now.pages.items c.args.place c.index_mut.result.now c.index_mut.result.now
    (omega (arith, c.args.self.now.full)) c.index_mut.ensures.value
    (ap (option_map page_of) c.in-None.is ∙ ap (λ held. option_map (page_with_byte c.args.at_byte c.args.byte) (option_map page_of held)) (sym c.in-None.is))
