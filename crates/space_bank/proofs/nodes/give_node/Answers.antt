use Rattle.std.proofs.Common.{ℕ, ◌*◌, ◌<◌, ◌≤◌, Some, replicate, sym, subst, ⊎_elim, arith}
use Rattle.std.proofs.lemmas.Bool.{cases_lt}
use Rattle.kn_base.specs.declared.key.Key.TheVariants.{Null}
use Rattle.kernel_tables.specs.Kernel.{Kernel}
use Rattle.kernel_tables.specs.Rows.{entry_at}
use Rattle.space_bank.specs.Bank.{IsTakenOnce}
use Rattle.space_bank.specs.Fixed.{FixedNodes}
use Rattle.space_bank.proofs.FixedLaws.{fixed_nodes-overwritten}
use Rattle.space_bank.proofs.ShareLaws.{node-given_out_of_hand, fixed_untaken}
use Rattle.kernel_tables.specs.Kernel.{kernel_of}
use Rattle.space_bank.specs.Bank.{BankGood}
use Rattle.space_bank.proofs.BankLaws.{bank_good-node_given, node-counted}
use Rattle.space_bank.proofs.nodes.give_node.Goals as goal

pub free_up-requires-clause-keys : goal.free_up-requires-clause-keys
free_up-requires-clause-keys g c = omega (arith, c.requires.good.nodes.all_keys, c.requires.inside)

pub free_up-requires-clause-some_node : goal.free_up-requires-clause-some_node
free_up-requires-clause-some_node g c =
    node-counted (kernel_of (g.T.Store.memory c.args.store.now)) c.args.node.0 c.requires.inside c.requires.taken
    c.requires.good

pub returns-clause-good : goal.returns-clause-good
returns-clause-good g c =
    subst BankGood (sym c.free_up.ensures.written)
    (bank_good-node_given (kernel_of (g.T.Store.memory c.args.store.now)) c.args.node.0 c.requires.inside c.requires.taken
    c.requires.good)

-- a node that is taken is none of the fixed ones
bank_node : (kernel : Kernel) (n : ℕ) → IsTakenOnce (entry_at kernel.node_entries n) → BankGood kernel → 15 ≤ n
bank_node kernel n once good =
    ⊎_elim (λ (low : n < 15). absurd (fixed_untaken (entry_at kernel.node_entries n) (good.nodes.fixed n low) once))
    (λ (high : 15 ≤ n). high) (cases_lt n 15)

pub returns-clause-shares : goal.returns-clause-shares
returns-clause-shares g c =
    let kernel = kernel_of (g.T.Store.memory c.args.store.now) in
    node-given_out_of_hand kernel (kernel_of (g.T.Store.memory c.free_up.new.store)) c.args.node.0
    (bank_node kernel c.args.node.0 c.requires.taken c.requires.good) c.requires.inside c.requires.taken
    c.free_up.ensures.written

pub returns-clause-fixed : goal.returns-clause-fixed
returns-clause-fixed g c fixed =
    let kernel = kernel_of (g.T.Store.memory c.args.store.now) in
    let low = bank_node kernel c.args.node.0 c.requires.taken c.requires.good in
    subst (λ (k : Kernel). FixedNodes k.keys) (sym c.free_up.ensures.written)
    (fixed_nodes-overwritten kernel.keys (16 * c.args.node.0) (replicate 16 (Some Null))
    (omega (arith, c.requires.good.nodes.all_keys, c.requires.inside)) (omega arith) fixed)
