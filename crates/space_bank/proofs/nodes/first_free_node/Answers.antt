use Rattle.std.proofs.Common.{◌≡◌, ℕ, ◌-◌, ◌<◌, ◌≤◌, ◌∙◌, sym, subst, arith}
use Rattle.kernel_tables.specs.Kernel.{kernel_of, node_count}
use Rattle.space_bank.specs.Bank.{IsFirstFree}
use Rattle.space_bank.proofs.FreeListLaws.{free_list-none, free_list-first}
use Rattle.space_bank.proofs.EntryLaws.{entries-few}
use Rattle.space_bank.proofs.nodes.first_free_node.Goals as goal

pub returns-then-node-eq0-clause-first : goal.returns-then-node-eq0-clause-first
returns-then-node-eq0-clause-first g c =
    let kernel = kernel_of (g.T.Store.memory c.args.store.now) in
    free_list-none kernel.node_entries 0 kernel.nodes kernel.machine.free_node
    (sym c.free_node-node.ensures ∙ c.if-node-eq0.true) c.requires.nodes.entries_good.free

pub returns-then-node-eq0-clause-few_nodes : goal.returns-then-node-eq0-clause-few_nodes
returns-then-node-eq0-clause-few_nodes g c =
    let kernel = kernel_of (g.T.Store.memory c.args.store.now) in
    let size = c.requires.sized.most in
    let all : kernel.nodes ≡ node_count kernel.size = c.requires.sized.all_nodes in
    let small : kernel.nodes ≤ 131072 = omega arith in
    entries-few kernel.node_entries 0 kernel.nodes kernel.machine.free_node kernel.machine.nodes_taken small
    c.requires.nodes.entries_good

pub returns-clause-first : goal.returns-clause-first
returns-clause-first g c =
    let kernel = kernel_of (g.T.Store.memory c.args.store.now) in
    let some : 0 < kernel.machine.free_node = omega (arith, c.free_node-node.ensures, c.if-node-eq0.false) in
    let head =
    free_list-first kernel.node_entries 0 kernel.nodes kernel.machine.free_node some c.requires.nodes.entries_good.free
    in
    let same : kernel.machine.free_node - 0 ≡ c.free_node-node.result = omega (arith, c.free_node-node.ensures) in
    subst (λ (m : ℕ). IsFirstFree kernel.node_entries 0 kernel.nodes kernel.machine.free_node m) same head

pub returns-clause-few_nodes : goal.returns-clause-few_nodes
returns-clause-few_nodes g c =
    let kernel = kernel_of (g.T.Store.memory c.args.store.now) in
    let size = c.requires.sized.most in
    let all : kernel.nodes ≡ node_count kernel.size = c.requires.sized.all_nodes in
    let small : kernel.nodes ≤ 131072 = omega arith in
    entries-few kernel.node_entries 0 kernel.nodes kernel.machine.free_node kernel.machine.nodes_taken small
    c.requires.nodes.entries_good
