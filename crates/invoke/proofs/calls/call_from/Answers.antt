use Rattle.std.proofs.Common.{sym, ◌∙◌}
use Rattle.kernel_tables.specs.Kernel.{kernel_of}
use Rattle.invoke.proofs.Leaving.{call_leaves}
use Rattle.invoke.proofs.calls.call_from.Goals as goal

pub returns-in-Running-clause-others : goal.returns-in-Running-clause-others
returns-in-Running-clause-others g c =
    call_leaves (kernel_of (g.T.Store.memory c.args.store.now)) (kernel_of (g.T.Store.memory c.wait.new.store)) c.args.root.0 c.in-Start.domain c.in-Start.byte
    c.requires.caller.seated (sym c.in-Running.is ∙ c.state_of.ensures) c.wait.ensures.invokes
