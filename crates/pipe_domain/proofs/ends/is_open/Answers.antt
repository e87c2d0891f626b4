use Rattle.std.proofs.Common.{◌+◌, ℕ, Bool, Some, refl, ap, sym, subst, ◌∙◌, arith}
use Rattle.kernel_tables.specs.Kernel.{kernel_of}
use Rattle.kernel_machine.specs.Machine.{machine_of}
use Rattle.kernel_machine.specs.View.{descriptions_in, files_in}
use Rattle.pipe_domain.proofs.EndLaws.{Looked, looked-none, looked-all, looked-past, looked-beside, looked-found, has-end}
use Rattle.pipe_domain.proofs.ends.is_open.Goals as goal
use Rattle.pipe_domain.proofs.ends.is_open.Goals.{in-Some-false, in-None}

pub loop-number-init : goal.loop-number-init
loop-number-init g c = looked-none c.args.end c.args.pipe (descriptions_in (machine_of (kernel_of (g.T.Store.memory c.args.store.now)))) c.args.count c.requires.counted

pub returns-then-left-eq0 : goal.returns-then-left-eq0
returns-then-left-eq0 g c =
    let machine = machine_of (kernel_of (g.T.Store.memory c.args.store.now)) in
    sym
    (has-end c.args.end c.args.pipe (descriptions_in machine) (files_in machine) refl
    ∙ looked-all c.args.end c.args.pipe (descriptions_in machine) c.loop-number.number (omega (arith, c.loop-number-test.true))
    (subst (λ (left : ℕ). Looked c.args.end c.args.pipe (descriptions_in machine) c.loop-number.number left) c.if-left-eq0.true c.loop-number.invariant))

pub returns-in-Some-true : goal.returns-in-Some-true
returns-in-Some-true g c =
    let machine = machine_of (kernel_of (g.T.Store.memory c.args.store.now)) in
    sym
    (has-end c.args.end c.args.pipe (descriptions_in machine) (files_in machine) refl
    ∙ looked-found c.args.end c.args.pipe (descriptions_in machine) c.loop-number.number c.loop-number.left c.loop-number.invariant
    (sym (ap (λ (b : Bool). Some b) c.in-Some-true.field-0-test) ∙ c.in-Some-true.ensures) c.loop-number-test.true)

pub loop-number-preserved : goal.loop-number-preserved
loop-number-preserved g c =
    let machine = machine_of (kernel_of (g.T.Store.memory c.args.store.now)) in
    elim c.match-end_at.branch as (λ _. Looked c.args.end c.args.pipe (descriptions_in machine) (c.loop-number.number + 1) c.match-end_at.left) [
      | in-Some-false w ↦
          subst (λ (left : ℕ). Looked c.args.end c.args.pipe (descriptions_in machine) (c.loop-number.number + 1) left) (sym w.left-is)
          (looked-beside c.args.end c.args.pipe (descriptions_in machine) c.loop-number.number c.loop-number.left c.loop-number.invariant
          (sym (ap (λ (b : Bool). Some b) w.in-Some-false.field-0-test) ∙ w.in-Some-false.ensures) (omega (arith, c.if-left-eq0.false)))
      | in-None w ↦
          subst (λ (left : ℕ). Looked c.args.end c.args.pipe (descriptions_in machine) (c.loop-number.number + 1) left) (sym w.left-is)
          (looked-past c.args.end c.args.pipe (descriptions_in machine) c.loop-number.number c.loop-number.left c.loop-number.invariant w.in-None.ensures)
    ]
