use Rattle.std.proofs.Common.{◌∙◌, ap, subst, sym}
use Rattle.kernel_tables.specs.Kernel.{kernel_of}
use Rattle.kernel_tables.specs.Rows.{domain_rows, fixed_rows}
use Rattle.kernel_tables.specs.Blocks.{ChangesBlocks}
use Rattle.domain.specs.Domains.{lives_by, words_by}
use Rattle.domain.specs.Sets.{node_blocks}
use Rattle.domain.proofs.WordLaws.{regs_set, regs_lives, no_register}
use Rattle.domain.proofs.setters.words.set_regs.Goals as goal

pub put_registers-requires-clause-named : goal.put_registers-requires-clause-named
put_registers-requires-clause-named g c = (c.args.root.0, c.node_of_words-node.ensures)

pub returns-clause-set : goal.returns-clause-set
returns-clause-set g c =
    let old = kernel_of (g.T.Store.memory c.args.store.now) in
    let new = kernel_of (g.T.Store.memory c.put_registers.new.store) in
    regs_set (domain_rows old) (domain_rows new) c.args.root.0 c.node_of_words-node.result.0 (words_by c.args.regs.now) c.requires.rows c.requires.live c.node_of_words-node.ensures c.put_registers.ensures.put
    (no_register c.args.regs.now)

pub returns-clause-lives : goal.returns-clause-lives
returns-clause-lives g c =
    let old = kernel_of (g.T.Store.memory c.args.store.now) in
    let new = kernel_of (g.T.Store.memory c.put_registers.new.store) in
    regs_lives (domain_rows old) (domain_rows new) (fixed_rows new) c.node_of_words-node.result.0 (words_by c.args.regs.now) c.requires.rows (record { by = c.args.root.0; place = 3; named = c.node_of_words-node.ensures }) c.put_registers.ensures.put
    ∙ ap (lives_by (domain_rows old)) c.put_registers.ensures.others.fixed_now

pub returns-clause-blocks : goal.returns-clause-blocks
returns-clause-blocks g c =
    subst (λ named. ChangesBlocks (g.T.Store.blocks c.args.store.now) (g.T.Store.blocks c.put_registers.new.store) (node_blocks (kernel_of (g.T.Store.memory c.args.store.now)).pages named))
    (sym c.node_of_words-node.ensures) c.put_registers.ensures.blocks
