use Rattle.std.proofs.Common.{ℕ, ◌+◌, ◌∙◌, sym, ap, subst, arith}
use Rattle.kernel_tables.specs.Kernel.{kernel_of}
use Rattle.kernel_tables.specs.Rows.{entry_at}
use Rattle.space_bank.specs.FreeList.{shares}
use Rattle.space_bank.specs.Bank.{BankGood}
use Rattle.space_bank.specs.Changes.{IsTaken, node_counted}
use Rattle.space_bank.proofs.ChangeLaws.{node-raised, bank_good-node_counted, taken_high}
use Rattle.space_bank.proofs.counts.raise_node.Goals as goal

pub returns-clause-shares : goal.returns-clause-shares
returns-clause-shares g c =
    let kernel = kernel_of (g.T.Store.memory c.args.store.now) in
    let new = kernel_of (g.T.Store.memory c.count_node.new.store) in
    let taken : IsTaken (entry_at kernel.node_entries c.args.node.0) = c.requires.taken in
    node-raised kernel new c.args.node.0 (taken_high kernel c.args.node.0 taken c.requires.good) c.requires.inside taken
    (c.count_node.ensures.counted ∙ ap (λ (x : ℕ). node_counted kernel c.args.node.0 (x + 1)) (c.count_in-count.ensures ∙ ap shares c.node_entry.ensures))

pub returns-clause-good : goal.returns-clause-good
returns-clause-good g c =
    let kernel = kernel_of (g.T.Store.memory c.args.store.now) in
    let taken : IsTaken (entry_at kernel.node_entries c.args.node.0) = c.requires.taken in
    subst BankGood (sym (c.count_node.ensures.counted ∙ ap (λ (x : ℕ). node_counted kernel c.args.node.0 (x + 1)) (c.count_in-count.ensures ∙ ap shares c.node_entry.ensures)))
    (bank_good-node_counted kernel c.args.node.0 (shares (entry_at kernel.node_entries c.args.node.0) + 1)
    c.requires.inside taken (omega arith) c.requires.good)
