use Rattle.std.proofs.Common.{List, ℕ}
use Rattle.kn_disk.specs.Images.{Scarred}
use Rattle.kn_disk.proofs.RunLaws.{leaves-call, leaves-joined, after-only}
use Rattle.checkpoint.proofs.gate.write_gate.Goals as goal

pub returns-in-Err-clause-leaves : goal.returns-in-Err-clause-leaves
returns-in-Err-clause-leaves g c told =
    let torn : (f : List ℕ) → g.D.Disk.image c.write_at.new.self f → Scarred c.args.start 1 (g.D.Disk.contents c.args.disk.now) f =
    λ f now. after-only g.D.Disk.moment g.D.Disk.image g.D.Disk.since _ _ _ c.args.disk.now f (c.requires.only told) (c.write_at.ensures.images f now) in
    leaves-call g.D.Disk.moment g.D.Disk.image g.D.Disk.since _ _ _ c.write_at.ensures.time torn

pub returns-in-Ok-sync-clause-leaves : goal.returns-in-Ok-sync-clause-leaves
returns-in-Ok-sync-clause-leaves g c told =
    let torn : (f : List ℕ) → g.D.Disk.image c.write_at.new.self f → Scarred c.args.start 1 (g.D.Disk.contents c.args.disk.now) f =
    λ f now. after-only g.D.Disk.moment g.D.Disk.image g.D.Disk.since _ _ _ c.args.disk.now f (c.requires.only told) (c.write_at.ensures.images f now) in
    leaves-joined g.D.Disk.moment g.D.Disk.image g.D.Disk.since _ _ _ _
    (leaves-call g.D.Disk.moment g.D.Disk.image g.D.Disk.since _ _ _ c.write_at.ensures.time torn)
    (leaves-call g.D.Disk.moment g.D.Disk.image g.D.Disk.since _ _ _ c.sync.ensures.time (λ f now. torn f (c.sync.ensures.images f now)))

pub returns-in-Err-sync-clause-leaves : goal.returns-in-Err-sync-clause-leaves
returns-in-Err-sync-clause-leaves g c told =
    let torn : (f : List ℕ) → g.D.Disk.image c.write_at.new.self f → Scarred c.args.start 1 (g.D.Disk.contents c.args.disk.now) f =
    λ f now. after-only g.D.Disk.moment g.D.Disk.image g.D.Disk.since _ _ _ c.args.disk.now f (c.requires.only told) (c.write_at.ensures.images f now) in
    leaves-joined g.D.Disk.moment g.D.Disk.image g.D.Disk.since _ _ _ _
    (leaves-call g.D.Disk.moment g.D.Disk.image g.D.Disk.since _ _ _ c.write_at.ensures.time torn)
    (leaves-call g.D.Disk.moment g.D.Disk.image g.D.Disk.since _ _ _ c.sync.ensures.time (λ f now. torn f (c.sync.ensures.images f now)))
