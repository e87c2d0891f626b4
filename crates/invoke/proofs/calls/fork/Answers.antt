use Rattle.std.proofs.Common.{sym, subst}
use Rattle.kn_base.specs.declared.key.Key.TheVariants.{Start, Resume}
use Rattle.kernel_tables.specs.Kernel.{kernel_of}
use Rattle.invoke.specs.Steps.{Reaches}
use Rattle.invoke.specs.Others.{LeavesOthers, reached_by}
use Rattle.invoke.proofs.Leaving.{fork_leaves}
use Rattle.invoke.proofs.calls.fork.Goals as goal

pub returns-in-Ok-clause-others : goal.returns-in-Ok-clause-others
returns-in-Ok-clause-others g c =
    let old = kernel_of (g.T.Store.memory c.args.store.now) in
    let new = kernel_of (g.T.Store.memory c.start.new.store) in
    subst (λ key. LeavesOthers old new (reached_by key)) (sym c.in-Start.is)
    (fork_leaves old new (Start c.in-Start.domain c.in-Start.byte) (Reaches c.in-Start.domain.0 c.in-Start.byte) c.in-Ok.ensures.goes)

pub returns-in-Ok-resume-clause-others : goal.returns-in-Ok-resume-clause-others
returns-in-Ok-resume-clause-others g c =
    let old = kernel_of (g.T.Store.memory c.args.store.now) in
    let new = kernel_of (g.T.Store.memory c.resume.new.store) in
    subst (λ key. LeavesOthers old new (reached_by key)) (sym c.in-Resume.is)
    (fork_leaves old new (Resume c.in-Resume.domain c.in-Resume.count) (Reaches c.in-Resume.domain.0 0) c.in-Ok-resume.ensures.goes)
