use Rattle.std.proofs.Common.{◌∙◌, ◌≤◌, ◌∷◌, [], ap, sym, subst, arith}
use Rattle.kernel_tables.specs.Kernel.{kernel_of}
use Rattle.kernel_tables.specs.Rows.{domain_rows, fixed_rows}
use Rattle.domain.specs.Domains.{domain_at, lives_by}
use Rattle.domain.proofs.DomainLaws.{live_meter, lives_same, answer_set, third_word}
use Rattle.domain.proofs.Fits.{answer_fits}
use Rattle.domain.proofs.setters.set_answer.Goals as goal

pub put_number-requires-clause-fits : goal.put_number-requires-clause-fits
put_number-requires-clause-fits g c =
    let third = third_word c.number_of-key.result c.args.answer.value c.args.answer.at c.args.answer.length (c.number_of-key.ensures.words ∙ ap (λ n. c.args.answer.value ∷ c.args.answer.at ∷ n ∷ []) c.from.ensures) in
    answer_fits c.number_of-key.result c.number_of-key.ensures.number (subst (λ n. n ≤ 4096) (sym third) c.requires.length)

pub returns-clause-set : goal.returns-clause-set
returns-clause-set g c =
    let old = kernel_of (g.T.Store.memory c.args.store.now) in
    ap domain_at c.put_number.ensures.put
    ∙ answer_set (domain_rows old) c.args.root.0 c.number_of-key.result c.args.answer c.requires.rows (live_meter (domain_rows old) c.args.root.0 c.requires.live) (c.number_of-key.ensures.words ∙ ap (λ n. c.args.answer.value ∷ c.args.answer.at ∷ n ∷ []) c.from.ensures)

pub returns-clause-lives : goal.returns-clause-lives
returns-clause-lives g c =
    let old = kernel_of (g.T.Store.memory c.args.store.now) in
    let new = kernel_of (g.T.Store.memory c.put_number.new.store) in
    ap (λ rows. lives_by rows (fixed_rows new)) c.put_number.ensures.put
    ∙ lives_same (domain_rows old) (fixed_rows new) c.args.root.0 11 c.number_of-key.result (omega arith)
    ∙ ap (lives_by (domain_rows old)) c.put_number.ensures.others.fixed_now
