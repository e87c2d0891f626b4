use Rattle.std.proofs.Common.{◌≡◌, ◌<◌, IfSome}
use Rattle.std.specs.Prelude.{is_none}
use Rattle.unix_model.specs.Process.{descriptor}
use Rattle.unix_model.specs.Tables.{least_below}
use Rattle.flat_state.specs.ProcessView.{process_of}
use Rattle.flat_state.proofs.process.Process.lowest_closed.Given as goal

abbrev pub invariant-loop-number : goal.invariant-loop-number
invariant-loop-number l = record {
  least : l.lowest ≡ least_below (λ number. is_none (descriptor (process_of l.self) number)) l.number;
  inside : IfSome l.lowest (λ number. number < 32);
}
