use Rattle.std.proofs.Common.{refl}
use Rattle.kn_disk.specs.Steps.{Written}
use Rattle.kn_disk.specs.History.{kept_steps}
use Rattle.kn_disk.proofs.DiskLaws.{held-written, time-step, image-written}
use Rattle.kn_disk.proofs.memory_disk.MemoryDiskDisk.write_at.Goals as goal

pub invariant_of-self-2-clause-held : goal.invariant_of-self-2-clause-held
invariant_of-self-2-clause-held c = held-written c.args.self.now.first.items (kept_steps c.args.self.now.history) _ c.args.self.now.bytes.items _ c.args.at c.args.from.now c.args.self.now.held c.requires c.write_over.ensures.written c.note_write.ensures.steps

pub returns-clause-images : goal.returns-clause-images
returns-clause-images c = image-written c.args.self.now.first.items (kept_steps c.args.self.now.history) _ c.args.at c.args.from.now c.note_write.ensures.steps

pub returns-clause-time : goal.returns-clause-time
returns-clause-time c = time-step c.args.self.now _ (Written c.args.at c.args.from.now) refl c.note_write.ensures.steps
