use Rattle.forest.proofs.ExampleShows.{example_shows}
use Rattle.forest.proofs.example.example_shows.Goals as goal

pub returns : goal.returns
returns c = example_shows
