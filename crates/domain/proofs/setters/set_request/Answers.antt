use Rattle.std.proofs.Common.{◌∙◌, ◌≤◌, sym, subst, arith, get_or}
use Rattle.kernel_tables.specs.Kernel.{kernel_of}
use Rattle.kernel_tables.specs.Rows.{domain_rows, fixed_rows}
use Rattle.domain.proofs.DomainLaws.{live_meter, third_word}
use Rattle.domain.proofs.FieldLaws.{request_written, lives_two}
use Rattle.domain.proofs.Fits.{call_fits, request_fits}
use Rattle.domain.proofs.setters.set_request.Goals as goal

pub put_numbers-requires-clause-first_fits : goal.put_numbers-requires-clause-first_fits
put_numbers-requires-clause-first_fits g c = call_fits c.call_number-head.result c.call_number-head.ensures.number c.call_number-head.ensures.fits

pub put_numbers-requires-clause-second_fits : goal.put_numbers-requires-clause-second_fits
put_numbers-requires-clause-second_fits g c =
    let is = third_word c.number_of-rest.result (get_or c.arguments.result 2 0) (get_or c.arguments.result 3 0) c.from.result c.number_of-rest.ensures.words in
    request_fits c.number_of-rest.result c.number_of-rest.ensures.number (subst (λ n. n ≤ 4096) (sym (is ∙ c.from.ensures)) c.requires.length)

pub returns-clause-set : goal.returns-clause-set
returns-clause-set g c =
    let rows = domain_rows (kernel_of (g.T.Store.memory c.args.store.now)) in
    request_written rows (domain_rows (kernel_of (g.T.Store.memory c.put_numbers.new.store))) c.args.root.0 c.call_number-head.result c.number_of-rest.result c.args.request c.arguments.result c.from.result
    c.put_numbers.ensures.put c.requires.rows (live_meter rows c.args.root.0 c.requires.live) c.call_number-head.ensures.words c.number_of-rest.ensures.words c.arguments.ensures.four c.arguments.ensures.words c.from.ensures

pub returns-clause-lives : goal.returns-clause-lives
returns-clause-lives g c =
    let old = kernel_of (g.T.Store.memory c.args.store.now) in
    let new = kernel_of (g.T.Store.memory c.put_numbers.new.store) in
    lives_two (domain_rows old) (domain_rows new) (fixed_rows old) (fixed_rows new) c.args.root.0 9 10 c.call_number-head.result c.number_of-rest.result
    c.put_numbers.ensures.put c.put_numbers.ensures.others.fixed_now (omega arith) (omega arith)
