use Rattle.std.proofs.Common.{◌∙◌}
use Rattle.disk_layout.proofs.HomeLaws.{gate-front}
use Rattle.disk_layout.proofs.generations.read_gate.Goals as goal

pub returns-in-Ok-clause-gate : goal.returns-in-Ok-clause-gate
returns-in-Ok-clause-gate g c told =
    c.gate_from.ensures ∙ gate-front c.args.place.now.blocks c.args.place.now.start (g.D.Disk.contents c.args.disk.now) c.in-Ok.bytes (c.in-Ok.ensures.header told)
