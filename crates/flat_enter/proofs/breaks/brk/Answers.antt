use Rattle.std.proofs.Common.{◌≡◌, ◌+◌, arith, ap, sym, ◌∙◌, false, true, refl}
use Rattle.std.specs.Prelude.{nat_lt, ◌==◌}
use Rattle.std.proofs.lemmas.Bool.Decides.{nat_tests}
use Rattle.unix_model.specs.Limits.{loads_end}
use Rattle.unix_model.specs.Enter.{or_refused, with_moved_break}
use Rattle.unix_model.specs.Process as model
use Rattle.unix_model.specs.Room.{has_room, promised}
use Rattle.unix_model.specs.State.{Unix, with_process}
use Rattle.flat_enter.proofs.BreakLines.{brk-crowded, brk-done, moved-crowded}
use Rattle.unix_model.proofs.RoomLaws.{promised-broken}
use Rattle.flat_state.specs.StateView.{unix_of}
use Rattle.flat_state.specs.ProcessView.{process_of}
use Rattle.flat_enter.proofs.breaks.brk.Goals as goal

pub returns-then-not-fits : goal.returns-then-not-fits
unfolding loads_end
returns-then-not-fits c = λ slot inside free.
    let process : model.Process = process_of c.args.process in
    let unix : Unix = with_process (unix_of c.args.state.now) slot process in
    let after : Unix = with_process unix slot (with_moved_break process c.args.address) in
    let some : c.args.address == 0 ≡ false = grind (arith, nat_tests) in
    let above : nat_lt c.args.address process.break_start ≡ false = grind (arith, nat_tests) in
    let below : nat_lt loads_end c.args.address ≡ false = grind (arith, nat_tests) in
    let promises : promised after + c.mapped.result ≡ promised unix + c.in-Some.mapped = omega (arith, promised-broken (unix_of c.args.state.now) slot process (with_moved_break process c.args.address) inside c.requires c.requires, c.in-Some.ensures.mapped, c.mapped.ensures.mapped) in
    let crowded : has_room after ≡ false = sym (c.fits.ensures slot after inside free refl promises) ∙ c.if-not-fits.true in
    c.refused-then-not-fits.ensures ∙ sym (ap (or_refused process) (brk-crowded unix slot c.args.address process some above below crowded))

pub returns-in-Ok : goal.returns-in-Ok
unfolding loads_end
returns-in-Ok c = λ slot inside free.
    let process : model.Process = process_of c.args.process in
    let unix : Unix = with_process (unix_of c.args.state.now) slot process in
    let after : Unix = with_process unix slot (with_moved_break process c.args.address) in
    let some : c.args.address == 0 ≡ false = grind (arith, nat_tests) in
    let above : nat_lt c.args.address process.break_start ≡ false = grind (arith, nat_tests) in
    let below : nat_lt loads_end c.args.address ≡ false = grind (arith, nat_tests) in
    let promises : promised after + c.mapped.result ≡ promised unix + c.in-Some.mapped = omega (arith, promised-broken (unix_of c.args.state.now) slot process (with_moved_break process c.args.address) inside c.requires c.requires, c.in-Some.ensures.mapped, c.mapped.ensures.mapped) in
    let room : has_room after ≡ true = sym (c.fits.ensures slot after inside free refl promises) ∙ c.if-not-fits.false in
    c.in-Ok.ensures ∙ sym (ap (or_refused process) (brk-done unix slot c.args.address process some above below room))

pub returns-in-None : goal.returns-in-None
unfolding loads_end
returns-in-None c = λ slot inside free.
    let process : model.Process = process_of c.args.process in
    let unix : Unix = with_process (unix_of c.args.state.now) slot process in
    let some : c.args.address == 0 ≡ false = grind (arith, nat_tests) in
    let above : nat_lt c.args.address process.break_start ≡ false = grind (arith, nat_tests) in
    let below : nat_lt loads_end c.args.address ≡ false = grind (arith, nat_tests) in
    let crowded : has_room (with_process unix slot (with_moved_break process c.args.address)) ≡ false = moved-crowded unix slot (with_moved_break process c.args.address) inside c.requires c.in-None.ensures.many in
    c.refused-in-None.ensures ∙ sym (ap (or_refused process) (brk-crowded unix slot c.args.address process some above below crowded))
