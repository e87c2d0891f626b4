use Rattle.forest.proofs.ExampleLaws.{example_holds}
use Rattle.forest.proofs.example.example_holds.Goals as goal

pub returns : goal.returns
returns c = example_holds
