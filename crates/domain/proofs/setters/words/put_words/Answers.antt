use Rattle.std.proofs.Common.{◌∙◌, ap, sym, subst, arith}
use Rattle.kernel_tables.specs.Kernel.{kernel_of}
use Rattle.kernel_tables.specs.Rows.{domain_rows, of_domain}
use Rattle.domain.specs.Keys.{node_in}
use Rattle.domain.specs.Rules.{RowsGood}
use Rattle.domain.proofs.WordLaws.{words_good, names_kept}
use Rattle.domain.proofs.Writing.{words_mine, writes_number}
use Rattle.domain.proofs.setters.words.put_words.Goals as goal

pub put_row-requires-clause-mine : goal.put_row-requires-clause-mine
put_row-requires-clause-mine g c = words_mine (kernel_of (g.T.Store.memory c.args.store.now)) c.args.node.0 c.requires.rows c.requires.named

pub returns-clause-put : goal.returns-clause-put
returns-clause-put g c =
    c.put_row.ensures.put.rows_now of_domain (words_mine (kernel_of (g.T.Store.memory c.args.store.now)) c.args.node.0 c.requires.rows c.requires.named)

pub returns-clause-rows : goal.returns-clause-rows
returns-clause-rows g c =
    let old = kernel_of (g.T.Store.memory c.args.store.now) in
    subst RowsGood (sym (returns-clause-put g c)) (words_good (domain_rows old) c.args.node.0 c.args.place c.args.key c.requires.rows c.requires.named c.requires.place c.requires.number c.requires.words)

pub returns-clause-names : goal.returns-clause-names
returns-clause-names g c a i =
    let old = kernel_of (g.T.Store.memory c.args.store.now) in
    ap (λ rows. node_in (rows a i)) (returns-clause-put g c) ∙ names_kept (domain_rows old) c.args.node.0 c.args.place c.args.key c.requires.rows c.requires.named c.requires.place c.requires.number a i

pub returns-clause-others : goal.returns-clause-others
returns-clause-others g c =
    let old = kernel_of (g.T.Store.memory c.args.store.now) in
    let low = c.requires.place in
    writes_number old (kernel_of (g.T.Store.memory c.put_row.new.store)) c.args.node.0 c.args.place c.args.key
    (words_mine old c.args.node.0 c.requires.rows c.requires.named) (omega arith)
    (c.requires.rows.plain c.requires.named.by c.requires.named.place c.args.node.0 c.args.place c.requires.named.named c.requires.place) c.requires.number c.put_row.ensures.put
