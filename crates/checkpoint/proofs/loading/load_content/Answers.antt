use Rattle.obj_store.specs.Store.{ram_of}
use Rattle.checkpoint.proofs.LoadLaws.{keeps-none, keeps-set}
use Rattle.checkpoint.proofs.loading.load_content.Goals as goal

pub returns-in-Err-clause-kept : goal.returns-in-Err-clause-kept
returns-in-Err-clause-kept g c = keeps-none (ram_of c.args.store.now)

pub returns-clause-kept : goal.returns-clause-kept
returns-clause-kept g c = keeps-set (ram_of c.args.store.now) (ram_of c.put_block.new.self) c.args.number c.in-Ok.block c.put_block.ensures
