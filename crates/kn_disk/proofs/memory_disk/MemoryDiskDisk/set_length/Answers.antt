use Rattle.std.proofs.Common.{refl}
use Rattle.kn_disk.specs.Steps.{Cut}
use Rattle.kn_disk.specs.History.{kept_steps}
use Rattle.kn_disk.proofs.DiskLaws.{held-cut, time-step, image-cut}
use Rattle.kn_disk.proofs.memory_disk.MemoryDiskDisk.set_length.Goals as goal

pub invariant_of-self-2-clause-held : goal.invariant_of-self-2-clause-held
invariant_of-self-2-clause-held c = held-cut c.args.self.now.first.items (kept_steps c.args.self.now.history) _ c.args.self.now.bytes.items _ c.args.length c.args.self.now.held c.in-Ok-resize.ensures.ok c.note_cut.ensures.steps

pub returns-clause-images : goal.returns-clause-images
returns-clause-images c = image-cut c.args.self.now.first.items (kept_steps c.args.self.now.history) _ c.args.length c.note_cut.ensures.steps

pub returns-clause-time : goal.returns-clause-time
returns-clause-time c = time-step c.args.self.now _ (Cut c.args.length) refl c.note_cut.ensures.steps
