use Rattle.std.proofs.Common.{◌∙◌, ap, arith}
use Rattle.kernel_tables.specs.Kernel.{kernel_of}
use Rattle.domain.specs.Keys.{words_in, is_number}
use Rattle.domain.proofs.Writing.{words_mine, domain_below, row_key}
use Rattle.domain.proofs.readers.words.words_at.Goals as goal

pub number_at-requires-clause-node : goal.number_at-requires-clause-node
number_at-requires-clause-node g c =
    let kernel = kernel_of (g.T.Store.memory c.args.store.now) in
    domain_below kernel c.args.node.0 c.requires.good (words_mine kernel c.args.node.0 c.requires.rows c.requires.named)

pub number_at-requires-clause-number : goal.number_at-requires-clause-number
number_at-requires-clause-number g c =
    let kernel = kernel_of (g.T.Store.memory c.args.store.now) in
    let low = c.requires.place in
    ap is_number (row_key kernel c.args.node.0 c.args.place (words_mine kernel c.args.node.0 c.requires.rows c.requires.named) (omega arith))
    ∙ c.requires.rows.plain c.requires.named.by c.requires.named.place c.args.node.0 c.args.place c.requires.named.named c.requires.place

pub returns : goal.returns
returns g c =
    let kernel = kernel_of (g.T.Store.memory c.args.store.now) in
    let low = c.requires.place in
    c.words_in.ensures ∙ ap words_in (c.number_at.ensures ∙ row_key kernel c.args.node.0 c.args.place (words_mine kernel c.args.node.0 c.requires.rows c.requires.named) (omega arith))
