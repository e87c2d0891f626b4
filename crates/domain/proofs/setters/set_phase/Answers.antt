use Rattle.std.proofs.Common.{◌∙◌, ap, arith}
use Rattle.kernel_tables.specs.Kernel.{kernel_of}
use Rattle.kernel_tables.specs.Rows.{domain_rows, fixed_rows}
use Rattle.domain.specs.Domains.{domain_at, lives_by, phase_by, phase_number}
use Rattle.domain.specs.Keys.{word_in}
use Rattle.domain.proofs.DomainLaws.{live_meter, lives_same, phase_set, first_word, second_word, third_word, phase_again}
use Rattle.domain.proofs.Fits.{phase_fits}
use Rattle.domain.proofs.setters.set_phase.Goals as goal

pub put_number-requires-clause-fits : goal.put_number-requires-clause-fits
put_number-requires-clause-fits g c =
    phase_fits c.with_phase-key.result c.args.phase c.with_phase-key.ensures.number (third_word c.with_phase-key.result (word_in c.root_key.result 0) (word_in c.root_key.result 1) (phase_number c.args.phase) c.with_phase-key.ensures.words)

pub returns-clause-set : goal.returns-clause-set
returns-clause-set g c =
    let old = kernel_of (g.T.Store.memory c.args.store.now) in
    ap domain_at c.put_number.ensures.put
    ∙ phase_set (domain_rows old) c.args.root.0 c.with_phase-key.result c.args.phase c.requires.rows (live_meter (domain_rows old) c.args.root.0 c.requires.live)
    (first_word c.with_phase-key.result (word_in c.root_key.result 0) (word_in c.root_key.result 1) (phase_number c.args.phase) c.with_phase-key.ensures.words ∙ ap (λ key. word_in key 0) c.root_key.ensures)
    (second_word c.with_phase-key.result (word_in c.root_key.result 0) (word_in c.root_key.result 1) (phase_number c.args.phase) c.with_phase-key.ensures.words ∙ ap (λ key. word_in key 1) c.root_key.ensures)
    (ap phase_by (third_word c.with_phase-key.result (word_in c.root_key.result 0) (word_in c.root_key.result 1) (phase_number c.args.phase) c.with_phase-key.ensures.words) ∙ phase_again c.args.phase)

pub returns-clause-lives : goal.returns-clause-lives
returns-clause-lives g c =
    let old = kernel_of (g.T.Store.memory c.args.store.now) in
    let new = kernel_of (g.T.Store.memory c.put_number.new.store) in
    ap (λ rows. lives_by rows (fixed_rows new)) c.put_number.ensures.put
    ∙ lives_same (domain_rows old) (fixed_rows new) c.args.root.0 7 c.with_phase-key.result (omega arith)
    ∙ ap (lives_by (domain_rows old)) c.put_number.ensures.others.fixed_now
