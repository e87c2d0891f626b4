use Rattle.forest.proofs.ReachLaws.{every_page_is_mapped}
use Rattle.forest.proofs.reach.every_page_is_mapped.Goals as goal

pub returns : goal.returns
returns c = every_page_is_mapped
