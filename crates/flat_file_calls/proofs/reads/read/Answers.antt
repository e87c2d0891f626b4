use Rattle.std.proofs.Common.{◌≡◌, ◌<◌, ℕ, List, [], ◌∷◌, length, true, false, arith, refl, ap, sym, ◌∙◌}
use Rattle.std.proofs.lemmas.Bool.Decides.{nat_tests}
use Rattle.std.specs.Prelude.{◌==◌}
use Rattle.unix_model.specs.FileCalls.{line_taken}
use Rattle.unix_model.specs.Process as model
use Rattle.unix_model.specs.Process.{answered, answered_with}
use Rattle.unix_model.specs.State.{Unix, with_phase, with_process}
use Rattle.unix_model.specs.TurnRecord.{Turn, worked_turn}
use Rattle.flat_files.specs.OpenedView.{opened_of}
use Rattle.flat_state.specs.ProcessView.{process_of}
use Rattle.flat_state.specs.StateView.{unix_of}
use Rattle.flat_file_calls.specs.Console.{read_turn}
use Rattle.flat_file_calls.proofs.ConsoleTurns.{phase-over, reads-as, read-nothing, read-line, console-reads, line-some}
use Rattle.flat_file_calls.proofs.reads.read.Goals as goal

pub returns-then-count-eq0-clause-turn : goal.returns-then-count-eq0-clause-turn
returns-then-count-eq0-clause-turn g c = λ bytes told.
    let process : model.Process = process_of c.args.process in
    let unix : Unix = with_process (unix_of c.args.state.now) c.args.slot process in
    let none : (c.args.count == 0) ≡ true = grind (arith, nat_tests) in
    reads-as g.S.Source.left c.args.input.now (unix_of c.reply.new.self) c.reply.result
    (read_turn unix c.args.slot process c.args.number c.args.address c.args.count bytes) (worked_turn (with_phase unix c.args.slot process (answered 0)) bytes)
    (read-nothing unix c.args.slot c.args.number c.args.address c.args.count process (opened_of c.in-Some.file) (sym c.in-Some.ensures.opened) bytes none)
    (c.reply.ensures.state ∙ phase-over (unix_of c.args.state.now) c.args.slot process (answered 0)) c.reply.ensures.answer told refl

pub returns-then-is_console-clause-turn : goal.returns-then-is_console-clause-turn
returns-then-is_console-clause-turn g c =
    let process : model.Process = process_of c.args.process in
    let unix : Unix = with_process (unix_of c.args.state.now) c.args.slot process in
    let some : (c.args.count == 0) ≡ false = grind (arith, nat_tests) in
    let line : List ℕ → model.Phase = λ bytes. answered_with (length (line_taken c.args.count bytes)) c.args.address (line_taken c.args.count bytes) in
    console-reads g.S.Source.left c.args.input.now c.read_console.new.input
    (λ bytes. read_turn unix c.args.slot process c.args.number c.args.address c.args.count bytes) (λ bytes. with_phase unix c.args.slot process (line bytes)) (λ bytes. with_phase (unix_of c.args.state.now) c.args.slot process (line bytes))
    (λ bytes. phase-over (unix_of c.args.state.now) c.args.slot process (line bytes)) c.args.count (unix_of c.read_console.new.state) c.read_console.result
    (λ bytes. read-line unix c.args.slot c.args.number c.args.address c.args.count process (opened_of c.in-Some.file) (sym c.in-Some.ensures.opened) bytes some (c.if-is_console.ensures.yes refl))
    c.read_console.ensures.state c.read_console.ensures.answer c.read_console.ensures.left

pub returns-then-is_console-clause-quiet : goal.returns-then-is_console-clause-quiet
returns-then-is_console-clause-quiet g c = λ none.
    let process : model.Process = process_of c.args.process in
    let unix : Unix = with_process (unix_of c.args.state.now) c.args.slot process in
    let some : (c.args.count == 0) ≡ false = grind (arith, nat_tests) in
    let least : 0 < c.args.count = grind arith in
    let turn = read-line unix c.args.slot c.args.number c.args.address c.args.count process (opened_of c.in-Some.file) (sym c.in-Some.ensures.opened) (0 ∷ []) some (c.if-is_console.ensures.yes refl) in
    line-some c.args.count least (sym (ap (λ (turn : Turn). turn.taken) turn) ∙ none (0 ∷ []))
