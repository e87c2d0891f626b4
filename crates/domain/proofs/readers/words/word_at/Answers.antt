use Rattle.std.proofs.Common.{◌≡◌, ◌∙◌, ◌/◌, ◌%◌, ap, sym, arith, get_or, ℕ, List}
use Rattle.kernel_tables.specs.Kernel.{kernel_of}
use Rattle.kernel_tables.specs.Rows.{domain_rows}
use Rattle.domain.specs.Keys.{word_in}
use Rattle.domain.proofs.WordLaws.{word_of}
use Rattle.domain.proofs.readers.words.word_at.Goals as goal

pub returns-in-0 : goal.returns-in-0
returns-in-0 g c =
    let row = domain_rows (kernel_of (g.T.Store.memory c.args.store.now)) c.args.node.0 in
    ap (λ (w : List ℕ). get_or w 0 0) c.words_at.ensures ∙ ap (word_in (row (c.args.n / 3))) (sym c.in-0.is) ∙ sym (word_of row c.args.n c.requires.word)

pub returns-in-1 : goal.returns-in-1
returns-in-1 g c =
    let row = domain_rows (kernel_of (g.T.Store.memory c.args.store.now)) c.args.node.0 in
    ap (λ (w : List ℕ). get_or w 1 0) c.words_at.ensures ∙ ap (word_in (row (c.args.n / 3))) (sym c.in-1.is) ∙ sym (word_of row c.args.n c.requires.word)

pub returns-in_default : goal.returns-in_default
returns-in_default g c =
    let row = domain_rows (kernel_of (g.T.Store.memory c.args.store.now)) c.args.node.0 in
    let two : 2 ≡ c.args.n % 3 = omega arith in
    ap (λ (w : List ℕ). get_or w 2 0) c.words_at.ensures ∙ ap (word_in (row (c.args.n / 3))) two ∙ sym (word_of row c.args.n c.requires.word)
