use Rattle.std.proofs.Common.{arith}
use Rattle.flat_files.proofs.InodeCounts.{inodes-few}
use Rattle.flat_files.proofs.files.Files.pages.Goals as goal

pub returns-clause-few : goal.returns-clause-few
returns-clause-few c = omega (arith, c.args.self.now.counted, inodes-few c.args.self.now.inodes)
