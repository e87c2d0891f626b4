use Rattle.std.proofs.Common.{◌≡◌, Some, refl, ap, ◌∙◌, arith}
use Rattle.kn_io.specs.InMemory.{bytes_left}
use Rattle.workload.specs.Workload.{work_bundle}
use Rattle.command_line.specs.WordsView.{load_view, setup_view}
use Rattle.keynix.proofs.WorkSteps.{halted-puts, other-ends, runs-so, counts-stay, no-cause}
use Rattle.keynix.proofs.work.work.Goals as goal

pub returns-in-Halted-clause-ends : goal.returns-in-Halted-clause-ends
returns-in-Halted-clause-ends g c =
    halted-puts (load_view c.args.load) (λ s. Some (bytes_left s)) c.run_input.new.input c.new-console.result c.run_input.new.output g.K.Sink.grew c.args.output.now
    c.run_puts_few.ensures c.new-console.ensures.count c.new-console.ensures.sum c.in-Halted.field-0
    (runs-so (load_view c.args.load) (λ s. Some (bytes_left s)) c.run_input.new.input c.new-console.result c.run_input.new.output g.K.Sink.grew c.args.output.now
    (setup_view c.default_setup.result) c.run_input.result _ c.default_setup.ensures c.in-Halted.is (c.run_input.ensures.ends (work_bundle c.args.load.seed c.args.load.lines) (ap (λ bytes. Some bytes) (c.new-input.ensures ∙ c.in-Ok.ensures))))
    c.put_summary.new.output c.put_summary.result c.put_summary.ensures.puts

pub returns : goal.returns
returns g c =
    record {
      ends = other-ends (load_view c.args.load) (λ s. Some (bytes_left s)) c.run_input.new.input c.new-console.result c.run_input.new.output g.K.Sink.grew c.args.output.now
          c.run_input.result c.in_default.not-Halted c.run_input.ensures.caused
          (runs-so (load_view c.args.load) (λ s. Some (bytes_left s)) c.run_input.new.input c.new-console.result c.run_input.new.output g.K.Sink.grew c.args.output.now
          (setup_view c.default_setup.result) c.run_input.result c.run_input.result c.default_setup.ensures refl (c.run_input.ensures.ends (work_bundle c.args.load.seed c.args.load.lines) (ap (λ bytes. Some bytes) (c.new-input.ensures ∙ c.in-Ok.ensures))));
      counts = counts-stay (g.K.Sink.faults c.args.output.now ≡ g.K.Sink.faults c.args.output.now) refl c.run_input.result;
      caused = no-cause _ c.run_input.result c.run_input.ensures.caused;
      output_counted = omega arith;
    }
