use Rattle.std.proofs.Common.{sym, subst}
use Rattle.kernel_tables.specs.Kernel.{Kernel, kernel_of}
use Rattle.space_bank.specs.Shares.{NoneNamed}
use Rattle.space_bank.proofs.ShareLaws.{none_named-nulls}
use Rattle.tests_kernel.proofs.bank.give_node_back.Goals as goal

pub returns-clause-unnamed : goal.returns-clause-unnamed
returns-clause-unnamed g c =
    let kernel = kernel_of (g.T.Store.memory c.args.store.now) in
    subst (λ (k : Kernel). NoneNamed k.keys) (sym c.give_node.ensures.given)
    (none_named-nulls kernel.keys c.args.node.0 c.requires.unnamed)
