use Rattle.std.proofs.Common.{◌≡◌, ℕ, ◌+◌, ◌/◌, ◌%◌, [], ap, sym, subst, ◌∙◌, arith, rules}
use Rattle.kn_base.specs.declared.key.Key.{Key}
use Rattle.kernel_tables.specs.Kernel.{Kernel, kernel_of}
use Rattle.space_bank.specs.Shares.{nothing_outside}
use Rattle.space_bank.proofs.HandLaws.{handed-out}
use Rattle.forest.specs.Walks.{space_key}
use Rattle.kernel_forest.proofs.Rest.{rest-nodes}
use Rattle.unix_model.specs.Tables.{at}
use Rattle.unix_model.proofs.TableLaws.{at-with_at}
use Rattle.domain.specs.Domains.{Domain, domains}
use Rattle.domain.specs.Life.{born}
use Rattle.domain.specs.Rules.{RowsGood}
use Rattle.first_machine.proofs.All.{first-now}
use Rattle.first_machine.proofs.Made.{Makes, fixed-added, rows-added, trees-added}
use Rattle.first_machine.proofs.Tables.{many-nodes, no-node, rows-good, slot-null, trees-good}
use Rattle.first_machine.proofs.make.first_machine.Goals as goal

pub new_space-space-requires-clause-trees : goal.new_space-space-requires-clause-trees
new_space-space-requires-clause-trees g c =
    (nothing_outside, trees-good c.args.pages c.args.quantum (kernel_of (g.T.Store.memory c.promise_one.new.store)) c.promise_one.ensures.begun)

pub new_space-space-requires-clause-room : goal.new_space-space-requires-clause-room
new_space-space-requires-clause-room g c =
    let k0 = kernel_of (g.T.Store.memory c.promise_one.new.store) in
    omega (arith, many-nodes c.args.pages c.args.quantum k0 c.promise_one.ensures.begun, no-node c.args.pages c.args.quantum k0 c.promise_one.ensures.begun)

pub new_domain-root-requires-clause-rows : goal.new_domain-root-requires-clause-rows
new_domain-root-requires-clause-rows g c =
    let k0 = kernel_of (g.T.Store.memory c.promise_one.new.store) in
    let k1 = kernel_of (g.T.Store.memory c.new_space-space.new.store) in
    subst RowsGood (sym (rows-added c.args.pages c.args.quantum k0 k1 c.new_space-space.result.0.0 c.promise_one.ensures.begun c.new_space-space.ensures.added c.new_space-space.ensures.good))
    (rows-good c.args.pages c.args.quantum k0 c.promise_one.ensures.begun)

pub new_domain-root-requires-clause-free : goal.new_domain-root-requires-clause-free
new_domain-root-requires-clause-free g c =
    let k0 = kernel_of (g.T.Store.memory c.promise_one.new.store) in
    let k1 = kernel_of (g.T.Store.memory c.new_space-space.new.store) in
    ap (λ (rows : ℕ → ℕ → Key). rows (11 + 0 / 16) (0 % 16)) (fixed-added c.args.pages c.args.quantum k0 k1 c.new_space-space.result.0.0 c.promise_one.ensures.begun c.new_space-space.ensures.added c.new_space-space.ensures.good)
    ∙ slot-null c.args.pages c.args.quantum k0 c.promise_one.ensures.begun 0 (omega arith)

pub new_domain-root-requires-clause-room : goal.new_domain-root-requires-clause-room
new_domain-root-requires-clause-room g c =
    let k0 = kernel_of (g.T.Store.memory c.promise_one.new.store) in
    let one = c.new_space-space.ensures.added.number in
    let nodes = rest-nodes k0 (kernel_of (g.T.Store.memory c.new_space-space.new.store)) c.new_space-space.ensures.added.rest in
    omega (arith, one, nodes, many-nodes c.args.pages c.args.quantum k0 c.promise_one.ensures.begun, no-node c.args.pages c.args.quantum k0 c.promise_one.ensures.begun)

pub new_domain-root-requires-clause-shares : goal.new_domain-root-requires-clause-shares
new_domain-root-requires-clause-shares g c =
    let k0 = kernel_of (g.T.Store.memory c.promise_one.new.store) in
    let k1 = kernel_of (g.T.Store.memory c.new_space-space.new.store) in
    let trees = trees-added c.args.pages c.args.quantum k0 k1 c.new_space-space.result.0.0 c.promise_one.ensures.begun c.new_space-space.ensures.added c.new_space-space.ensures.good in
    (nothing_outside, [], (handed-out k1 nothing_outside [] (space_key c.new_space-space.result.0.0)).1 trees.shares)

pub set_heads-requires-clause-live : goal.set_heads-requires-clause-live
set_heads-requires-clause-live g c =
    let made = c.new_domain-root.ensures.made in
    ap (λ (table : ℕ → Domain). (at table c.new_domain-root.result.0).live) made.domains_now
    ∙ ap (λ (domain : Domain). domain.live) (at-with_at (domains (kernel_of (g.T.Store.memory c.new_space-space.new.store))) c.new_domain-root.result.0 (born 0 c.new_space-space.result.0.0 made.regs made.descriptors))

pub returns-clause-first : goal.returns-clause-first
returns-clause-first g c =
    let k0 = kernel_of (g.T.Store.memory c.promise_one.new.store) in
    let k1 = kernel_of (g.T.Store.memory c.new_space-space.new.store) in
    let k2 = kernel_of (g.T.Store.memory c.new_domain-root.new.store) in
    let k3 = kernel_of (g.T.Store.memory c.set_heads.new.store) in
    let makes : Makes c.args.pages c.args.quantum k0 k1 k2 k3 c.new_space-space.result.0.0 c.new_domain-root.result.0 = record {
      begins = c.promise_one.ensures.begun;
      adds = c.new_space-space.ensures.added;
      good1 = c.new_space-space.ensures.good;
      made = c.new_domain-root.ensures.made;
      good2 = c.new_domain-root.ensures.good;
      heads = c.set_heads.ensures.set;
      lives_now = c.set_heads.ensures.lives;
      writes = c.set_heads.ensures.others;
      rows3 = c.set_heads.ensures.rows;
      good3 = c.set_heads.ensures.good;
    } in
    first-now c.args.pages c.args.quantum k0 k1 k2 k3 c.new_space-space.result.0.0 c.new_domain-root.result.0 makes

pub returns-clause-keeps : goal.returns-clause-keeps
returns-clause-keeps g c = search (g.met.T.Store.keeps_trans, rules) depth 14
