use Rattle.std.proofs.Common.{◌≡◌, [], ◌∷◌, ◌∙◌, sym, ap, subst, inl}
use Rattle.std.specs.Prelude.{slice_index}
use Rattle.kn_base.specs.Rows.{overwritten}
use Rattle.kn_disk.specs.Images.{Scarred, LeavesOnly}
use Rattle.checkpoint.specs.Filling.{IsClosing}
use Rattle.kn_disk.proofs.RunLaws.{leaves-call, leaves-joined, leaves-wider}
use Rattle.checkpoint.proofs.GateLaws.{closing, closed-written}
use Rattle.checkpoint.proofs.gate.close_gate.Goals as goal

pub returns-in-Ok-write_gate-clause-closed : goal.returns-in-Ok-write_gate-clause-closed
returns-in-Ok-write_gate-clause-closed g c told =
    closed-written c.args.start (g.D.Disk.contents c.args.disk.now) _ (c.requires.within told)
    (c.in-Ok-write_gate.ensures.written told ∙ ap (λ b. overwritten b c.args.start (0 ∷ [])) (c.read_gate.ensures.contents told))

pub returns-in-Ok-write_gate-clause-leaves : goal.returns-in-Ok-write_gate-clause-leaves
returns-in-Ok-write_gate-clause-leaves g c told =
    let same = c.read_gate.ensures.contents told in
    let one : slice_index (g.D.Disk.contents c.args.disk.now) c.args.start ≡ 1 = sym (c.in-Ok.ensures.byte told) ∙ c.if-gate-ne1.false in
    let read : LeavesOnly g.D.Disk.moment g.D.Disk.since (IsClosing c.args.start (g.D.Disk.contents c.args.disk.now)) c.args.disk.now c.read_gate.new.disk =
    leaves-call g.D.Disk.moment g.D.Disk.image g.D.Disk.since _ _ _ c.read_gate.ensures.time (λ f now. inl (c.requires.only told f (c.read_gate.ensures.images f now))) in
    let write : LeavesOnly g.D.Disk.moment g.D.Disk.since (IsClosing c.args.start (g.D.Disk.contents c.args.disk.now)) c.read_gate.new.disk c.write_gate.new.disk =
    leaves-wider g.D.Disk.moment g.D.Disk.image g.D.Disk.since (Scarred c.args.start 1 (g.D.Disk.contents c.read_gate.new.disk)) _ _ _
    (λ f torn. closing c.args.start (g.D.Disk.contents c.args.disk.now) f one (subst (λ b. Scarred c.args.start 1 b f) same torn)) (c.write_gate.ensures.leaves told) in
    leaves-joined g.D.Disk.moment g.D.Disk.image g.D.Disk.since _ _ _ _ read write

pub returns-in-Err-write_gate-clause-leaves : goal.returns-in-Err-write_gate-clause-leaves
returns-in-Err-write_gate-clause-leaves g c told =
    let same = c.read_gate.ensures.contents told in
    let one : slice_index (g.D.Disk.contents c.args.disk.now) c.args.start ≡ 1 = sym (c.in-Ok.ensures.byte told) ∙ c.if-gate-ne1.false in
    let read : LeavesOnly g.D.Disk.moment g.D.Disk.since (IsClosing c.args.start (g.D.Disk.contents c.args.disk.now)) c.args.disk.now c.read_gate.new.disk =
    leaves-call g.D.Disk.moment g.D.Disk.image g.D.Disk.since _ _ _ c.read_gate.ensures.time (λ f now. inl (c.requires.only told f (c.read_gate.ensures.images f now))) in
    let write : LeavesOnly g.D.Disk.moment g.D.Disk.since (IsClosing c.args.start (g.D.Disk.contents c.args.disk.now)) c.read_gate.new.disk c.write_gate.new.disk =
    leaves-wider g.D.Disk.moment g.D.Disk.image g.D.Disk.since (Scarred c.args.start 1 (g.D.Disk.contents c.read_gate.new.disk)) _ _ _
    (λ f torn. closing c.args.start (g.D.Disk.contents c.args.disk.now) f one (subst (λ b. Scarred c.args.start 1 b f) same torn)) (c.write_gate.ensures.leaves told) in
    leaves-joined g.D.Disk.moment g.D.Disk.image g.D.Disk.since _ _ _ _ read write
