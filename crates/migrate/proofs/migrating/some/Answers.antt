use Rattle.kn_disk.proofs.RunLaws.{each-since, leaves-joined, leaves-call}
use Rattle.disk_layout.specs.Saved.{SameMachine}
use Rattle.migrate.proofs.SomeLaws.{stands-same}
use Rattle.migrate.proofs.migrating.some.Goals as goal

pub returns-in-Err-clause-each : goal.returns-in-Err-clause-each
returns-in-Err-clause-each g c told =
    each-since g.D.Disk.moment g.D.Disk.image g.D.Disk.since g.met.D.Disk.only_now (SameMachine (g.D.Disk.contents c.args.disk.now)) _ _
    (stands-same _ _ _ _ _ _ _ (c.requires.stands told)) (c.move_entries.ensures.leaves told)

pub returns-in-Err-sync_if-clause-each : goal.returns-in-Err-sync_if-clause-each
returns-in-Err-sync_if-clause-each g c told =
    each-since g.D.Disk.moment g.D.Disk.image g.D.Disk.since g.met.D.Disk.only_now (SameMachine (g.D.Disk.contents c.args.disk.now)) _ _
    (stands-same _ _ _ _ _ _ _ (c.requires.stands told))
    (leaves-joined g.D.Disk.moment g.D.Disk.image g.D.Disk.since _ _ _ _ (c.move_entries.ensures.leaves told)
    (leaves-call g.D.Disk.moment g.D.Disk.image g.D.Disk.since _ _ _ c.sync_if.ensures.time (λ image now. c.in-Ok.ensures.images told image (c.sync_if.ensures.images image now))))

pub returns-clause-each : goal.returns-clause-each
returns-clause-each g c told =
    each-since g.D.Disk.moment g.D.Disk.image g.D.Disk.since g.met.D.Disk.only_now (SameMachine (g.D.Disk.contents c.args.disk.now)) _ _
    (stands-same _ _ _ _ _ _ _ (c.requires.stands told))
    (leaves-joined g.D.Disk.moment g.D.Disk.image g.D.Disk.since _ _ _ _ (c.move_entries.ensures.leaves told)
    (leaves-call g.D.Disk.moment g.D.Disk.image g.D.Disk.since _ _ _ c.sync_if.ensures.time (λ image now. c.in-Ok.ensures.images told image (c.sync_if.ensures.images image now))))
