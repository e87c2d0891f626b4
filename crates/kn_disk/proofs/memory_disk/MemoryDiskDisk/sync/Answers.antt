use Rattle.std.proofs.Common.{refl}
use Rattle.kn_disk.specs.Steps.{Synced}
use Rattle.kn_disk.specs.History.{kept_steps}
use Rattle.kn_disk.proofs.DiskLaws.{held-synced, time-step, only-synced, image-synced}
use Rattle.kn_disk.proofs.memory_disk.MemoryDiskDisk.sync.Goals as goal

pub invariant_of-self-2-clause-held : goal.invariant_of-self-2-clause-held
invariant_of-self-2-clause-held c = held-synced c.args.self.now.first.items (kept_steps c.args.self.now.history) _ c.args.self.now.bytes.items c.args.self.now.held c.note_sync.ensures.steps

pub returns-clause-durable : goal.returns-clause-durable
returns-clause-durable c = only-synced c.args.self.now.first.items (kept_steps c.args.self.now.history) _ c.args.self.now.bytes.items c.args.self.now.held c.note_sync.ensures.steps

pub returns-clause-images : goal.returns-clause-images
returns-clause-images c = image-synced c.args.self.now.first.items (kept_steps c.args.self.now.history) _ c.args.self.now.bytes.items c.args.self.now.held c.note_sync.ensures.steps

pub returns-clause-time : goal.returns-clause-time
returns-clause-time c = time-step c.args.self.now _ Synced refl c.note_sync.ensures.steps
