use Rattle.std.proofs.Common.{◌≡◌, ℕ, Option, Some, None, Err, List, [], IfOk, OnErr, ap, subst, ◌∙◌}
use Rattle.kn_io.specs.Sink.{GrewByPrefix}
use Rattle.unix_model.specs.Calls.{call_of}
use Rattle.unix_model.specs.Process as model
use Rattle.unix_model.specs.State.{Unix}
use Rattle.unix_model.specs.Tables.{at}
use Rattle.unix_model.specs.Turn.{MakesTurn, ticked, turned}
use Rattle.flat_file_calls.specs.Console.{TakesFront}
use Rattle.flat_state.specs.ProcessView.{process_of}
use Rattle.flat_state.specs.SlotsView.{slots_of}
use Rattle.flat_state.specs.StateView.{unix_of}
use Rattle.flat_unix.specs.declared.flat.FlatFault.TheVariants.{ReadFault, WriteFault}
use Rattle.unix_model.proofs.TableLaws.{at-with_at}
use Rattle.flat_unix.proofs.TurnSteps.{taken-out}
use Rattle.flat_unix.proofs.turning.work.Goals as goal

pub go_on-requires-clause-free : goal.go_on-requires-clause-free
go_on-requires-clause-free g c =
    ap (λ (processes : ℕ → Option model.Process). at processes c.args.slot) c.take.ensures.free
    ∙ at-with_at (unix_of c.args.state.now).processes c.args.slot None

pub returns-clause-turn : goal.returns-clause-turn
returns-clause-turn g c =
    subst (λ (now : Unix). IfOk c.go_on.result (λ answer. (bytes : List ℕ) → g.S.Source.left c.args.input.now ≡ Some bytes → MakesTurn (turned call_of now c.args.slot bytes) g.S.Source.left g.K.Sink.grew (ticked (unix_of c.go_on.new.state)) answer c.go_on.new.input c.args.output.now c.go_on.new.output))
    (taken-out (unix_of c.args.state.now) c.args.slot (process_of c.in-Some.process) (slots_of c.take.new.self) c.in-Some.ensures.taken c.take.ensures.free) c.go_on.ensures.turn

pub returns-clause-read_fault : goal.returns-clause-read_fault
returns-clause-read_fault g c =
    subst (λ (now : Unix). c.go_on.result ≡ Err ReadFault → (unix_of c.go_on.new.state ≡ now) × (c.go_on.new.output ≡ c.args.output.now))
    (taken-out (unix_of c.args.state.now) c.args.slot (process_of c.in-Some.process) (slots_of c.take.new.self) c.in-Some.ensures.taken c.take.ensures.free) c.go_on.ensures.read_fault

pub returns-clause-write_fault : goal.returns-clause-write_fault
returns-clause-write_fault g c =
    subst (λ (now : Unix). c.go_on.result ≡ Err WriteFault → (unix_of c.go_on.new.state ≡ now) × (c.go_on.new.input ≡ c.args.input.now))
    (taken-out (unix_of c.args.state.now) c.args.slot (process_of c.in-Some.process) (slots_of c.take.new.self) c.in-Some.ensures.taken c.take.ensures.free) c.go_on.ensures.write_fault

pub returns-clause-lost : goal.returns-clause-lost
returns-clause-lost g c =
    subst (λ (now : Unix). OnErr c.go_on.result ((bytes : List ℕ) → g.S.Source.left c.args.input.now ≡ Some bytes → TakesFront bytes (turned call_of now c.args.slot bytes).taken (g.S.Source.left c.go_on.new.input)))
    (taken-out (unix_of c.args.state.now) c.args.slot (process_of c.in-Some.process) (slots_of c.take.new.self) c.in-Some.ensures.taken c.take.ensures.free) c.go_on.ensures.lost

pub returns-clause-part : goal.returns-clause-part
returns-clause-part g c =
    subst (λ (now : Unix). OnErr c.go_on.result ((bytes : List ℕ) → g.S.Source.left c.args.input.now ≡ Some bytes → GrewByPrefix g.K.Sink.grew c.args.output.now (turned call_of now c.args.slot bytes).put c.go_on.new.output))
    (taken-out (unix_of c.args.state.now) c.args.slot (process_of c.in-Some.process) (slots_of c.take.new.self) c.in-Some.ensures.taken c.take.ensures.free) c.go_on.ensures.part

pub returns-clause-takes_nothing : goal.returns-clause-takes_nothing
returns-clause-takes_nothing g c =
    subst (λ (now : Unix). ((bytes : List ℕ) → (turned call_of now c.args.slot bytes).taken ≡ []) → c.go_on.new.input ≡ c.args.input.now)
    (taken-out (unix_of c.args.state.now) c.args.slot (process_of c.in-Some.process) (slots_of c.take.new.self) c.in-Some.ensures.taken c.take.ensures.free) c.go_on.ensures.takes_nothing

pub returns-clause-puts_nothing : goal.returns-clause-puts_nothing
returns-clause-puts_nothing g c =
    subst (λ (now : Unix). ((bytes : List ℕ) → (turned call_of now c.args.slot bytes).put ≡ []) → c.go_on.new.output ≡ c.args.output.now)
    (taken-out (unix_of c.args.state.now) c.args.slot (process_of c.in-Some.process) (slots_of c.take.new.self) c.in-Some.ensures.taken c.take.ensures.free) c.go_on.ensures.puts_nothing
