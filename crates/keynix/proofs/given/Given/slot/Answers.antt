use Rattle.keynix.proofs.GivenLaws.{given-slot, given-some}
use Rattle.keynix.proofs.given.Given.slot.Goals as goal

pub returns-clause-next : goal.returns-clause-next
returns-clause-next c = λ unix. given-slot unix c.args.self.now.left c.args.self.now.next c.args.self.now.slot c.args.self.now.spans.items c.args.self.now.current

pub returns-clause-some : goal.returns-clause-some
returns-clause-some c = given-some c.args.self.now.left c.args.self.now.next c.args.self.now.slot c.args.self.now.spans.items c.args.self.now.current
