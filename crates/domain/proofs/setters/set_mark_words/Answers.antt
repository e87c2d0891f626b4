use Rattle.std.proofs.Common.{◌∙◌, ◌<◌, ℕ, List, get_or, ap, sym, subst, arith}
use Rattle.kernel_tables.specs.Kernel.{kernel_of}
use Rattle.kernel_tables.specs.Rows.{domain_rows, fixed_rows}
use Rattle.domain.specs.Domains.{domain_at, lives_by}
use Rattle.domain.proofs.DomainLaws.{live_meter, lives_same, marks_set}
use Rattle.domain.proofs.Fits.{marks_fit}
use Rattle.domain.proofs.setters.set_mark_words.Goals as goal

pub put_number-requires-clause-fits : goal.put_number-requires-clause-fits
put_number-requires-clause-fits g c =
    marks_fit c.number_of-key.result c.number_of-key.ensures.number
    (subst (λ n. n < 2) (sym (ap (λ (w : List ℕ). get_or w 0 0) c.number_of-key.ensures.words)) c.requires.parked)
    (ap (λ (w : List ℕ). get_or w 2 0) c.number_of-key.ensures.words ∙ c.requires.unused)

pub returns-clause-set : goal.returns-clause-set
returns-clause-set g c =
    let old = kernel_of (g.T.Store.memory c.args.store.now) in
    ap domain_at c.put_number.ensures.put
    ∙ marks_set (domain_rows old) c.args.root.0 c.number_of-key.result c.args.words c.requires.rows (live_meter (domain_rows old) c.args.root.0 c.requires.live) c.number_of-key.ensures.words

pub returns-clause-lives : goal.returns-clause-lives
returns-clause-lives g c =
    let old = kernel_of (g.T.Store.memory c.args.store.now) in
    let new = kernel_of (g.T.Store.memory c.put_number.new.store) in
    ap (λ rows. lives_by rows (fixed_rows new)) c.put_number.ensures.put
    ∙ lives_same (domain_rows old) (fixed_rows new) c.args.root.0 12 c.number_of-key.result (omega arith)
    ∙ ap (lives_by (domain_rows old)) c.put_number.ensures.others.fixed_now
