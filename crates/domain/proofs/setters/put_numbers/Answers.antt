use Rattle.std.proofs.Common.{◌∙◌, ◌+◌, ap}
use Rattle.kernel_tables.specs.Kernel.{kernel_of}
use Rattle.domain.specs.Rules.{written}
use Rattle.domain.proofs.Kept.{keys-pages}
use Rattle.domain.proofs.Writing.{writes_trans, same_block}
use Rattle.domain.proofs.setters.put_numbers.Goals as goal

pub returns-clause-put : goal.returns-clause-put
returns-clause-put g c =
    c.put_number-2.ensures.put ∙ ap (λ rows. written rows c.args.root.0 (c.args.place + 1) c.args.second) c.put_number.ensures.put

pub returns-clause-others : goal.returns-clause-others
returns-clause-others g c =
    writes_trans (kernel_of (g.T.Store.memory c.args.store.now)) (kernel_of (g.T.Store.memory c.put_number.new.store)) (kernel_of (g.T.Store.memory c.put_number-2.new.store))
    c.put_number.ensures.others c.put_number-2.ensures.others

pub returns-clause-blocks : goal.returns-clause-blocks
returns-clause-blocks g c =
    same_block (kernel_of (g.T.Store.memory c.args.store.now)).pages (kernel_of (g.T.Store.memory c.put_number.new.store)).pages c.args.root.0
    (keys-pages (kernel_of (g.T.Store.memory c.args.store.now)) (kernel_of (g.T.Store.memory c.put_number.new.store)) c.put_number.ensures.others.rest) c.put_number.ensures.blocks c.put_number-2.ensures.blocks
