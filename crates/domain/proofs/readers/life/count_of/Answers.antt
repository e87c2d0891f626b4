use Rattle.std.proofs.Common.{◌∙◌, ap}
use Rattle.domain.specs.Domains.{Life}
use Rattle.domain.proofs.readers.life.count_of.Goals as goal

pub returns : goal.returns
returns g c = c.count_in.ensures ∙ ap (λ (l : Life). l.count) c.life_key.ensures
