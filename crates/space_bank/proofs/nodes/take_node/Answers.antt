use Rattle.std.proofs.Common.{sym, subst}
use Rattle.kernel_tables.specs.Kernel.{kernel_of}
use Rattle.space_bank.specs.Bank.{BankGood}
use Rattle.space_bank.proofs.BankLaws.{bank_good-node_taken, takes_node}
use Rattle.space_bank.proofs.EntryLaws.{free_node-high}
use Rattle.space_bank.proofs.ShareLaws.{node-taken_in_hand}
use Rattle.space_bank.proofs.nodes.take_node.Goals as goal

pub returns-in-Some-clause-taken : goal.returns-in-Some-clause-taken
returns-in-Some-clause-taken g c =
    let kernel = kernel_of (g.T.Store.memory c.args.store.now) in
    takes_node kernel (kernel_of (g.T.Store.memory c.use_node.new.store)) c.in-Some.node.0 c.args.owner c.in-Some.ensures.first c.requires c.use_node.ensures.written

pub returns-in-Some-clause-good : goal.returns-in-Some-clause-good
returns-in-Some-clause-good g c =
    let kernel = kernel_of (g.T.Store.memory c.args.store.now) in
    subst BankGood (sym c.use_node.ensures.written)
    (bank_good-node_taken kernel c.in-Some.node.0 c.args.owner c.in-Some.ensures.first c.requires)

pub returns-in-Some-clause-shares : goal.returns-in-Some-clause-shares
returns-in-Some-clause-shares g c =
    let kernel = kernel_of (g.T.Store.memory c.args.store.now) in
    node-taken_in_hand kernel (kernel_of (g.T.Store.memory c.use_node.new.store)) c.in-Some.node.0 c.args.owner
    (free_node-high kernel.nodes kernel.node_entries kernel.machine.free_node kernel.machine.nodes_taken kernel.keys
    c.in-Some.node.0 c.in-Some.ensures.first.free c.requires.nodes)
    c.in-Some.ensures.first c.use_node.ensures.written
