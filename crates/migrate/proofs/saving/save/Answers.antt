use Rattle.std.proofs.Common.{◌+◌, subst}
use Rattle.kn_disk.specs.Images.{LeavesOnly}
use Rattle.kn_disk.proofs.RunLaws.{each-since}
use Rattle.obj_store.specs.Store.{ram_of}
use Rattle.checkpoint.specs.Commit.{SavedOr}
use Rattle.migrate.proofs.StoreLaws.{saved-first, saved-after, stores-image}
use Rattle.migrate.proofs.saving.save.Goals as goal

pub returns-in-Ok-commit-clause-leaves : goal.returns-in-Ok-commit-clause-leaves
returns-in-Ok-commit-clause-leaves g c told =
    subst (λ n. LeavesOnly g.D.Disk.moment g.D.Disk.since (SavedOr (g.D.Disk.contents c.args.disk.now) (n + 1) (ram_of c.args.store.now).blocks) c.args.disk.now c.commit.new.disk) c.some.ensures.generation
    (saved-after g.D.Disk.moment g.D.Disk.image g.D.Disk.since (g.D.Disk.contents c.args.disk.now) (g.D.Disk.contents c.some.new.disk) (c.some.new.at.generation + 1) (ram_of c.args.store.now).blocks _ _ _
    (c.in-Ok.ensures.machine told) (c.some.ensures.leaves told) (c.commit.ensures.leaves told))

pub returns-in-Ok-commit-clause-each : goal.returns-in-Ok-commit-clause-each
returns-in-Ok-commit-clause-each g c told =
    each-since g.D.Disk.moment g.D.Disk.image g.D.Disk.since g.met.D.Disk.only_now (SavedOr (g.D.Disk.contents c.args.disk.now) (c.args.at.now.generation + 1) (ram_of c.args.store.now).blocks) _ _
    (λ image now. saved-first (g.D.Disk.contents c.args.disk.now) (c.args.at.now.generation + 1) (ram_of c.args.store.now).blocks image (stores-image _ _ _ _ _ _ _ (c.requires.stores told) image now))
    (returns-in-Ok-commit-clause-leaves g c told)
