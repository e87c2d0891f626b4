use Rattle.std.proofs.Common.{◌∙◌, ap, ◌/◌, ◌%◌, subst, sym}
use Rattle.kernel_tables.specs.Kernel.{kernel_of}
use Rattle.kernel_tables.specs.Rows.{domain_rows, fixed_rows}
use Rattle.kernel_tables.specs.Blocks.{ChangesBlocks}
use Rattle.domain.specs.Keys.{words_in}
use Rattle.domain.specs.Domains.{domain_at, lives_by}
use Rattle.domain.specs.Sets.{node_blocks}
use Rattle.domain.proofs.WordLaws.{descriptor_set, description_again, word_few, word_set, put_lives}
use Rattle.domain.proofs.WordRows.{descriptor_fits}
use Rattle.domain.proofs.setters.words.set_descriptor.Goals as goal

pub words_at-words-requires-clause-named : goal.words_at-words-requires-clause-named
words_at-words-requires-clause-named g c = record { by = c.args.root.0; place = 4; named = c.node_of_words-node.ensures }

pub put_words-requires-clause-named : goal.put_words-requires-clause-named
put_words-requires-clause-named g c = record { by = c.args.root.0; place = 4; named = c.node_of_words-node.ensures }

pub put_words-requires-clause-words : goal.put_words-requires-clause-words
put_words-requires-clause-words g c =
    let rows = domain_rows (kernel_of (g.T.Store.memory c.args.store.now)) in
    let row = rows c.node_of_words-node.result.0 in
    descriptor_fits rows c.node_of_words-node.result.0 c.args.number c.description_word.result c.with_word-key.result c.requires.rows
    (c.args.root.0, c.node_of_words-node.ensures) c.requires.number (word_few c.args.description c.description_word.result c.description_word.ensures c.requires.description)
    (word_set c.with_word-key.result c.words_at-words.result (words_in (row (c.args.number / 3))) (c.args.number % 3) c.description_word.result c.with_word-key.ensures.words c.words_at-words.ensures)

pub returns-clause-set : goal.returns-clause-set
returns-clause-set g c =
    let rows = domain_rows (kernel_of (g.T.Store.memory c.args.store.now)) in
    let row = rows c.node_of_words-node.result.0 in
    ap domain_at c.put_words.ensures.put
    ∙ descriptor_set rows c.args.root.0 c.node_of_words-node.result.0 c.args.number c.description_word.result c.with_word-key.result c.args.description
    c.requires.rows c.requires.live c.node_of_words-node.ensures c.requires.number c.with_word-key.ensures.number
    (word_set c.with_word-key.result c.words_at-words.result (words_in (row (c.args.number / 3))) (c.args.number % 3) c.description_word.result c.with_word-key.ensures.words c.words_at-words.ensures)
    (description_again c.args.description c.description_word.result c.description_word.ensures c.requires.description)

pub returns-clause-lives : goal.returns-clause-lives
returns-clause-lives g c =
    let old = kernel_of (g.T.Store.memory c.args.store.now) in
    let new = kernel_of (g.T.Store.memory c.put_words.new.store) in
    ap (λ rows. lives_by rows (fixed_rows new)) c.put_words.ensures.put
    ∙ put_lives (domain_rows old) (fixed_rows new) c.node_of_words-node.result.0 (c.args.number / 3) c.with_word-key.result c.requires.rows
    (record { by = c.args.root.0; place = 4; named = c.node_of_words-node.ensures }) c.with_word-key.ensures.number
    ∙ ap (lives_by (domain_rows old)) c.put_words.ensures.others.fixed_now

pub returns-clause-blocks : goal.returns-clause-blocks
returns-clause-blocks g c =
    subst (λ named. ChangesBlocks (g.T.Store.blocks c.args.store.now) (g.T.Store.blocks c.put_words.new.store) (node_blocks (kernel_of (g.T.Store.memory c.args.store.now)).pages named))
    (sym c.node_of_words-node.ensures) c.put_words.ensures.blocks
