use Rattle.std.proofs.Common.{◌≡◌, [], length, true, false, arith, refl, sym, subst, ◌∙◌}
use Rattle.std.proofs.lemmas.Bool.Decides.{nat_tests}
use Rattle.std.specs.Prelude.{◌==◌}
use Rattle.unix_model.specs.Effect.{Line, settled}
use Rattle.unix_model.specs.FileCalls.{writes_to}
use Rattle.unix_model.specs.Process as model
use Rattle.unix_model.specs.Process.{answered}
use Rattle.unix_model.specs.State.{Unix, Opened, opened_inode, with_phase, with_process}
use Rattle.flat_files.specs.OpenedView.{opened_of}
use Rattle.flat_state.specs.ProcessView.{process_of}
use Rattle.flat_state.specs.StateView.{unix_of}
use Rattle.flat_file_calls.specs.Console.{Writes, write_turn}
use Rattle.flat_file_calls.proofs.ConsoleTurns.{phase-over, writes-as, write-nothing, write-puts, write-stored, console-writes, stored-silent, silent-writes}
use Rattle.flat_file_calls.proofs.writes.write.Goals as goal

pub returns-then-is_empty-clause-turn : goal.returns-then-is_empty-clause-turn
returns-then-is_empty-clause-turn g c =
    let process : model.Process = process_of c.args.process in
    let unix : Unix = with_process (unix_of c.args.state.now) c.args.slot process in
    let none : (length c.args.written.now == 0) ≡ true = grind (arith, nat_tests) in
    writes-as g.K.Sink.grew c.args.output.now c.args.output.now (unix_of c.reply.new.self) c.reply.result
    (write_turn unix c.args.slot process c.args.number c.args.written.now) (with_phase unix c.args.slot process (answered 0)) []
    (write-nothing unix c.args.slot c.args.number process (opened_of c.in-Some.file) (sym c.in-Some.ensures.opened) c.args.written.now none)
    (c.reply.ensures.state ∙ phase-over (unix_of c.args.state.now) c.args.slot process (answered 0)) c.reply.ensures.answer (g.met.K.Sink.grew_nothing c.args.output.now)

pub returns-then-is_console-clause-turn : goal.returns-then-is_console-clause-turn
returns-then-is_console-clause-turn g c =
    let process : model.Process = process_of c.args.process in
    let unix : Unix = with_process (unix_of c.args.state.now) c.args.slot process in
    let phase : model.Phase = answered (length c.args.written.now) in
    let some : (length c.args.written.now == 0) ≡ false = grind (arith, nat_tests) in
    console-writes g.K.Sink.grew c.args.output.now c.write_console.new.output
    (write_turn unix c.args.slot process c.args.number c.args.written.now) (with_phase unix c.args.slot process phase) (with_phase (unix_of c.args.state.now) c.args.slot process phase) (unix_of c.write_console.new.state)
    (phase-over (unix_of c.args.state.now) c.args.slot process phase) c.args.written.now c.write_console.result
    (write-puts unix c.args.slot c.args.number process (opened_of c.in-Some.file) (sym c.in-Some.ensures.opened) c.args.written.now some (c.if-is_console.ensures.yes refl))
    c.write_console.ensures.state c.write_console.ensures.answer c.write_console.ensures.grew

pub returns-in-Ok-clause-turn : goal.returns-in-Ok-clause-turn
returns-in-Ok-clause-turn g c =
    let process : model.Process = process_of c.args.process in
    let unix : Unix = with_process (unix_of c.args.state.now) c.args.slot process in
    let file : Opened = opened_of c.in-Some.file in
    let some : (length c.args.written.now == 0) ≡ false = grind (arith, nat_tests) in
    let line : Line = writes_to unix c.args.slot process file c.args.written.now (opened_inode unix file) in
    subst (λ (line : Line). Writes (λ bytes. settled unix c.args.slot process bytes line) g.K.Sink.grew (unix_of c.write_stored.new.state) c.in-Ok.turned c.args.output.now c.args.output.now)
    (sym (write-stored unix c.args.slot c.args.number process file (sym c.in-Some.ensures.opened) c.args.written.now some))
    (silent-writes g.K.Sink.grew c.args.output.now unix c.args.slot process line (unix_of c.write_stored.new.state) c.in-Ok.turned
    (stored-silent unix c.args.slot process file c.args.written.now (opened_inode unix file) (c.if-is_console.ensures.no refl)) c.in-Ok.ensures (g.met.K.Sink.grew_nothing c.args.output.now))
