use Rattle.std.proofs.Common.{◌∙◌, [], ◌∷◌, ap, arith}
use Rattle.kernel_tables.specs.Kernel.{kernel_of}
use Rattle.kernel_tables.specs.Rows.{domain_rows, fixed_rows}
use Rattle.domain.specs.Keys.{word_in}
use Rattle.domain.proofs.DomainLaws.{live_meter, first_word, second_word, third_word}
use Rattle.domain.proofs.Fits.{ids_fit, break_fits}
use Rattle.domain.proofs.FieldLaws.{heads_set, lives_two}
use Rattle.domain.proofs.setters.set_heads.Goals as goal

pub put_numbers-requires-clause-first_fits : goal.put_numbers-requires-clause-first_fits
put_numbers-requires-clause-first_fits g c =
    let rows = domain_rows (kernel_of (g.T.Store.memory c.args.store.now)) in
    ids_fit c.with_ids-ids.result (rows c.args.root.0 7) c.with_ids-ids.ensures.number
    (third_word c.with_ids-ids.result c.args.heads.pid c.args.heads.parent (word_in c.root_key.result 2) c.with_ids-ids.ensures.words ∙ ap (λ key. word_in key 2) c.root_key.ensures)
    ((c.requires.rows.roots c.args.root.0 (live_meter rows c.args.root.0 c.requires.live)).numbers 7 (omega arith) (omega arith))

pub put_numbers-requires-clause-second_fits : goal.put_numbers-requires-clause-second_fits
put_numbers-requires-clause-second_fits g c =
    break_fits c.number_of-rest.result c.args.heads.break_start c.args.heads.break_end c.number_of-rest.ensures.number
    (first_word c.number_of-rest.result c.args.heads.break_start c.args.heads.break_end c.args.heads.word c.number_of-rest.ensures.words)
    (second_word c.number_of-rest.result c.args.heads.break_start c.args.heads.break_end c.args.heads.word c.number_of-rest.ensures.words) c.requires.in_bounds

pub returns-clause-set : goal.returns-clause-set
returns-clause-set g c =
    let rows = domain_rows (kernel_of (g.T.Store.memory c.args.store.now)) in
    heads_set rows (domain_rows (kernel_of (g.T.Store.memory c.put_numbers.new.store))) c.args.root.0 c.with_ids-ids.result c.number_of-rest.result c.args.heads
    c.put_numbers.ensures.put c.requires.rows (live_meter rows c.args.root.0 c.requires.live)
    (c.with_ids-ids.ensures.words ∙ ap (λ key. c.args.heads.pid ∷ c.args.heads.parent ∷ word_in key 2 ∷ []) c.root_key.ensures) c.number_of-rest.ensures.words

pub returns-clause-lives : goal.returns-clause-lives
returns-clause-lives g c =
    let old = kernel_of (g.T.Store.memory c.args.store.now) in
    let new = kernel_of (g.T.Store.memory c.put_numbers.new.store) in
    lives_two (domain_rows old) (domain_rows new) (fixed_rows old) (fixed_rows new) c.args.root.0 7 8 c.with_ids-ids.result c.number_of-rest.result
    c.put_numbers.ensures.put c.put_numbers.ensures.others.fixed_now (omega arith) (omega arith)
