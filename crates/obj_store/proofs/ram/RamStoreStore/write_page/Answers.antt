use Rattle.obj_store.specs.StoreLaws.{page_inside}
use Rattle.obj_store.proofs.Pages.{part_of_page_written}
use Rattle.obj_store.proofs.ram.RamStoreStore.write_page.Goals as goal

pub put-requires-clause-number : goal.put-requires-clause-number
put-requires-clause-number c = page_inside c.args.self.now c.args.page.0 c.requires.page

pub returns-clause-written : goal.returns-clause-written
returns-clause-written c =
    part_of_page_written c.args.self.now c.put.new.self c.args.page.0 c.args.at c.args.from.now c.requires.page
    c.put.ensures
