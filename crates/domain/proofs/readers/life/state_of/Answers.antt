use Rattle.std.proofs.Common.{◌∙◌, ap}
use Rattle.domain.specs.Domains.{Life, state_by}
use Rattle.domain.proofs.readers.life.state_of.Goals as goal

pub returns : goal.returns
returns g c = c.state_by.ensures ∙ ap state_by c.word.ensures ∙ ap (λ (l : Life). l.state) c.life_key.ensures
