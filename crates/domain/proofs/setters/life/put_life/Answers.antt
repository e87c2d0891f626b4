use Rattle.std.proofs.Common.{◌∙◌, ap, refl}
use Rattle.kernel_tables.specs.Kernel.{kernel_of}
use Rattle.kernel_tables.specs.Rows.{domain_rows, fixed_rows}
use Rattle.domain.specs.Domains.{domain_at, lives_by, life_in}
use Rattle.domain.specs.Rules.{written}
use Rattle.domain.proofs.DomainLaws.{live_meter, life_set, life_is_apart}
use Rattle.domain.proofs.setters.life.put_life.Goals as goal

pub returns-clause-set : goal.returns-clause-set
returns-clause-set g c =
    let old = kernel_of (g.T.Store.memory c.args.store.now) in
    let new = kernel_of (g.T.Store.memory c.put_number.new.store) in
    let life = life_in c.args.key in
    ap (λ rows. lives_by rows (fixed_rows new)) c.put_number.ensures.put
    ∙ ap (lives_by (written (domain_rows old) c.args.root.0 6 c.args.key)) c.put_number.ensures.others.fixed_now
    ∙ life_set (domain_rows old) (fixed_rows old) c.args.root.0 c.args.key life.state life.count (live_meter (domain_rows old) c.args.root.0 c.requires.live) refl refl

pub returns-clause-domains : goal.returns-clause-domains
returns-clause-domains g c =
    let old = kernel_of (g.T.Store.memory c.args.store.now) in
    ap domain_at c.put_number.ensures.put
    ∙ life_is_apart (domain_rows old) c.args.root.0 c.args.key c.requires.rows (live_meter (domain_rows old) c.args.root.0 c.requires.live)
