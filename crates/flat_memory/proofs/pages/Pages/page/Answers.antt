use Rattle.std.proofs.Common.{arith, sym}
use Rattle.flat_memory.proofs.PageLaws.{region-none}
use Rattle.flat_memory.proofs.pages.Pages.page.Goals as goal

pub returns-in-None : goal.returns-in-None
returns-in-None c =
    sym (region-none c.args.self.now c.args.number c.index.result.now (omega (arith, c.args.self.now.full)) c.index.ensures c.in-None.is)
