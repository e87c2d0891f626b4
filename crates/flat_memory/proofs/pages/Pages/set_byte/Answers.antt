use Rattle.std.proofs.Common.{arith, sym, Some, ap, ◌∙◌, ◌/◌, ◌%◌}
use Rattle.std.specs.Prelude.{option_map}
use Rattle.unix_model.specs.Memory.{page_with_byte}
use Rattle.unix_model.specs.Tables.{with_at, at}
use Rattle.flat_memory.specs.PagesView.{table_of, pages_in}
use Rattle.flat_memory.proofs.PageLaws.{byte-past, byte-written, byte-unmapped}
use Rattle.flat_memory.proofs.pages.Pages.set_byte.Goals as goal

pub returns-then-number-ge524288 : goal.returns-then-number-ge524288
returns-then-number-ge524288 c = byte-past c.args.self.now c.args.address c.args.byte c.args.self.now.full (omega (arith, c.if-number-ge524288.true))

pub returns-in-Some : goal.returns-in-Some
unfolding table_of
returns-in-Some c =
    byte-written c.args.self.now c.args.address c.args.byte c.index_mut.result.now (Some c.set_byte.new.self) (omega (arith, c.args.self.now.full)) c.index_mut.ensures.value
    (c.set_byte.ensures ∙ ap (λ region. with_at (pages_in region) (c.args.address / 4096 % 1024) (option_map (page_with_byte (c.args.address % 4096) c.args.byte) (at (pages_in region) (c.args.address / 4096 % 1024)))) (sym c.in-Some.is))

pub returns-in-None : goal.returns-in-None
unfolding table_of
returns-in-None c =
    byte-written c.args.self.now c.args.address c.args.byte c.index_mut.result.now c.index_mut.result.now (omega (arith, c.args.self.now.full)) c.index_mut.ensures.value
    (byte-unmapped c.index_mut.result.now (c.args.address / 4096 % 1024) (c.args.address % 4096) c.args.byte c.in-None.is)
