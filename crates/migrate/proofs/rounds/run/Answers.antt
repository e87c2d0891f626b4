use Rattle.std.proofs.Common.{◌≡◌, ◌+◌, List, ℕ, arith, refl, ap, sym, ◌∙◌, subst, add-zero, zero-add}
use Rattle.kn_disk.specs.Images.{LeavesOnly}
use Rattle.kn_disk.proofs.RunLaws.{leaves-none, each-since}
use Rattle.obj_store.specs.Store.{ram_of}
use Rattle.disk_layout.specs.Saved.{raw, Machine}
use Rattle.checkpoint.specs.Commit.{SavedOr}
use Rattle.migrate.proofs.StoreLaws.{turns-keep, stores-image}
use Rattle.migrate.proofs.RoundLaws.{sizes-same, sizes-cleaned, pages-cleaned, blocks-cleaned, held-first, held-next, next-planned, plan-goes-on, one-wider, one_same, one_more, round-leaves}
use Rattle.migrate.proofs.rounds.run.Goals as goal

pub rounds-init : goal.rounds-init
rounds-init g c = record {
  generation = sym (add-zero c.args.at.now.generation);
  sizes = c.requires.sizes;
  pages = c.requires.pages;
  order = c.requires.order;
  few = c.requires.few;
  plan = λ n. ap (g.M.Turns.plan c.args.machine.now (ram_of c.args.store.now).blocks) (sym (zero-add n));
  stores = c.requires.stores;
  label = λ told. refl;
  holds = λ told. held-first (g.M.Turns.plan c.args.machine.now (ram_of c.args.store.now).blocks) c.args.at.now.generation (g.D.Disk.contents c.args.disk.now) (ram_of c.args.store.now).blocks (g.met.M.Turns.plan_none c.args.machine.now (ram_of c.args.store.now).blocks) (c.requires.saved told);
  leaves = λ told. leaves-none g.D.Disk.moment g.D.Disk.image g.D.Disk.since _ _;
  same = refl;
}

pub save-requires-clause-stores : goal.save-requires-clause-stores
save-requires-clause-stores g c told =
    let inv = c.rounds.invariant in
    turns-keep (ram_of c.rounds.store) (ram_of c.interval.new.store) _ _ _ _ _ _ c.interval.ensures.pages
    (sizes-same (ram_of c.rounds.store) (ram_of c.interval.new.store) inv.sizes c.interval.ensures.sizes c.interval.ensures.pages) c.interval.ensures.keeps (inv.stores told)

pub rounds-preserved : goal.rounds-preserved
rounds-preserved g c =
    let inv = c.rounds.invariant in
    let e : (ram_of c.interval.new.store).blocks ≡ g.M.Turns.plan c.args.machine.now (ram_of c.args.store.now).blocks (c.rounds.i + 1) = next-planned (g.M.Turns.plan c.args.machine.now (ram_of c.args.store.now).blocks) (g.M.Turns.plan c.rounds.machine (ram_of c.rounds.store).blocks) (g.M.Turns.plan c.interval.new.self) (ram_of c.interval.new.store).blocks c.rounds.i inv.plan c.interval.ensures.plan (g.met.M.Turns.plan_none c.interval.new.self (ram_of c.interval.new.store).blocks) in
    record {
      generation = omega (arith, c.in-Ok.ensures.generation, inv.generation);
      sizes = sizes-cleaned (ram_of c.interval.new.store) (ram_of c.save.new.store) _ c.in-Ok.ensures.cleaned c.interval.ensures.sizes;
      pages = inv.pages ∙ sym c.interval.ensures.pages ∙ sym (pages-cleaned (ram_of c.interval.new.store) (ram_of c.save.new.store) _ c.in-Ok.ensures.cleaned);
      order = c.in-Ok.ensures.order;
      few = c.in-Ok.ensures.few;
      plan = plan-goes-on (g.M.Turns.plan c.args.machine.now (ram_of c.args.store.now).blocks) (g.M.Turns.plan c.rounds.machine (ram_of c.rounds.store).blocks) (g.M.Turns.plan c.interval.new.self) (ram_of c.interval.new.store).blocks c.rounds.i inv.plan c.interval.ensures.plan (ram_of c.save.new.store).blocks (blocks-cleaned (ram_of c.interval.new.store) (ram_of c.save.new.store) _ c.in-Ok.ensures.cleaned);
      stores = c.in-Ok.ensures.stores;
      label = λ told. c.in-Ok.ensures.label told ∙ inv.label told;
      holds = λ told. held-next (g.M.Turns.plan c.args.machine.now (ram_of c.args.store.now).blocks) c.args.at.now.generation c.rounds.i c.rounds.at.generation (g.D.Disk.contents c.save.new.disk) (ram_of c.interval.new.store).blocks inv.generation e (c.in-Ok.ensures.saved told);
      leaves = λ told.
          round-leaves (g.M.Turns.plan c.args.machine.now (ram_of c.args.store.now).blocks) (g.D.Disk.contents c.args.disk.now) c.args.at.now.generation c.rounds.i (g.D.Disk.contents c.rounds.disk) (inv.label told) (inv.holds told) (ram_of c.interval.new.store).blocks e
          g.D.Disk.moment g.D.Disk.image g.D.Disk.since c.args.intervals c.rounds-test.true _ _ _ (inv.leaves told)
          (subst (λ n. LeavesOnly g.D.Disk.moment g.D.Disk.since (SavedOr (g.D.Disk.contents c.rounds.disk) (n + 1) (ram_of c.interval.new.store).blocks) c.rounds.disk c.save.new.disk) inv.generation (c.save.ensures.leaves told));
      same = c.in-Ok.ensures.same ∙ inv.same;
    }

pub returns-in-Err-clause-each : goal.returns-in-Err-clause-each
returns-in-Err-clause-each g c told =
    let inv = c.rounds.invariant in
    let e : (ram_of c.interval.new.store).blocks ≡ g.M.Turns.plan c.args.machine.now (ram_of c.args.store.now).blocks (c.rounds.i + 1) = next-planned (g.M.Turns.plan c.args.machine.now (ram_of c.args.store.now).blocks) (g.M.Turns.plan c.rounds.machine (ram_of c.rounds.store).blocks) (g.M.Turns.plan c.interval.new.self) (ram_of c.interval.new.store).blocks c.rounds.i inv.plan c.interval.ensures.plan (g.met.M.Turns.plan_none c.interval.new.self (ram_of c.interval.new.store).blocks) in
    let held : raw (g.D.Disk.contents c.args.disk.now) ≡ Machine (c.args.at.now.generation + 0) (g.M.Turns.plan c.args.machine.now (ram_of c.args.store.now).blocks 0) =
    held-first (g.M.Turns.plan c.args.machine.now (ram_of c.args.store.now).blocks) c.args.at.now.generation (g.D.Disk.contents c.args.disk.now) (ram_of c.args.store.now).blocks (g.met.M.Turns.plan_none c.args.machine.now (ram_of c.args.store.now).blocks) (c.requires.saved told) in
    each-since g.D.Disk.moment g.D.Disk.image g.D.Disk.since g.met.D.Disk.only_now _ _ _
    (λ image now. one-wider _ _ _ 0 0 0 c.args.intervals image (omega arith) (omega arith) (one_same _ _ _ 0 _ refl held image (stores-image _ _ _ _ _ _ _ (c.requires.stores told) image now)))
    (round-leaves (g.M.Turns.plan c.args.machine.now (ram_of c.args.store.now).blocks) (g.D.Disk.contents c.args.disk.now) c.args.at.now.generation c.rounds.i (g.D.Disk.contents c.rounds.disk) (inv.label told) (inv.holds told) (ram_of c.interval.new.store).blocks e
    g.D.Disk.moment g.D.Disk.image g.D.Disk.since c.args.intervals c.rounds-test.true _ _ _ (inv.leaves told)
    (subst (λ n. LeavesOnly g.D.Disk.moment g.D.Disk.since (SavedOr (g.D.Disk.contents c.rounds.disk) (n + 1) (ram_of c.interval.new.store).blocks) c.rounds.disk c.save.new.disk) inv.generation (c.save.ensures.leaves told)))

pub returns-in-Err-clause-now : goal.returns-in-Err-clause-now
returns-in-Err-clause-now g c told image now =
    let inv = c.rounds.invariant in
    let e : (ram_of c.interval.new.store).blocks ≡ g.M.Turns.plan c.args.machine.now (ram_of c.args.store.now).blocks (c.rounds.i + 1) = next-planned (g.M.Turns.plan c.args.machine.now (ram_of c.args.store.now).blocks) (g.M.Turns.plan c.rounds.machine (ram_of c.rounds.store).blocks) (g.M.Turns.plan c.interval.new.self) (ram_of c.interval.new.store).blocks c.rounds.i inv.plan c.interval.ensures.plan (g.met.M.Turns.plan_none c.interval.new.self (ram_of c.interval.new.store).blocks) in
    let left = g.met.D.Disk.counts_now c.save.new.disk (g.D.Disk.moment c.rounds.disk) image (c.save.ensures.leaves told).later now in
    let saved = subst (λ n. SavedOr (g.D.Disk.contents c.rounds.disk) (n + 1) (ram_of c.interval.new.store).blocks image) inv.generation (c.save.ensures.each told image left) in
    one-wider _ _ _ c.rounds.i (c.rounds.i + 1) c.rounds.i _ image (omega arith) (omega (arith, c.rounds-test.true))
    (one_more (g.M.Turns.plan c.args.machine.now (ram_of c.args.store.now).blocks) (g.D.Disk.contents c.args.disk.now) c.args.at.now.generation c.rounds.i (g.D.Disk.contents c.rounds.disk) (inv.label told) (inv.holds told) (ram_of c.interval.new.store).blocks e image saved)

pub returns-clause-each : goal.returns-clause-each
returns-clause-each g c told =
    let held : raw (g.D.Disk.contents c.args.disk.now) ≡ Machine (c.args.at.now.generation + 0) (g.M.Turns.plan c.args.machine.now (ram_of c.args.store.now).blocks 0) =
    held-first (g.M.Turns.plan c.args.machine.now (ram_of c.args.store.now).blocks) c.args.at.now.generation (g.D.Disk.contents c.args.disk.now) (ram_of c.args.store.now).blocks (g.met.M.Turns.plan_none c.args.machine.now (ram_of c.args.store.now).blocks) (c.requires.saved told) in
    each-since g.D.Disk.moment g.D.Disk.image g.D.Disk.since g.met.D.Disk.only_now _ _ _
    (λ image now. one-wider _ _ _ 0 0 0 c.args.intervals image (omega arith) (omega arith) (one_same _ _ _ 0 _ refl held image (stores-image _ _ _ _ _ _ _ (c.requires.stores told) image now)))
    (c.rounds.invariant.leaves told)

pub returns-clause-now : goal.returns-clause-now
returns-clause-now g c told image now =
    let inv = c.rounds.invariant in
    one-wider _ _ _ c.rounds.i c.rounds.i c.args.intervals _ image (omega (arith, c.rounds.auto.i-end)) (omega (arith, c.rounds.auto.i-end))
    (one_same _ _ _ c.rounds.i _ (inv.label told) (inv.holds told) image (stores-image _ _ _ _ _ _ _ (inv.stores told) image now))

pub returns-clause-last : goal.returns-clause-last
returns-clause-last g c told =
    let all : c.rounds.i ≡ c.args.intervals = omega (arith, c.rounds.auto.i-end, c.rounds-test.false) in
    subst (λ n. raw (g.D.Disk.contents c.rounds.disk) ≡ Machine (c.args.at.now.generation + n) (g.M.Turns.plan c.args.machine.now (ram_of c.args.store.now).blocks n)) all (c.rounds.invariant.holds told)
