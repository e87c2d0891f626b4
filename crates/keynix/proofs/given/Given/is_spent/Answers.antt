use Rattle.keynix.proofs.GivenLaws.{row-spent}
use Rattle.keynix.proofs.given.Given.is_spent.Goals as goal

pub returns : goal.returns
returns c = row-spent c.args.self.now.left c.args.self.now.next c.args.self.now.slot c.args.self.now.spans.items c.args.self.now.current
