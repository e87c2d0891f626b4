use Rattle.std.proofs.Common.{ap, ◌∙◌}
use Rattle.std.specs.Prelude.{is_none}
use Rattle.kernel_machine.specs.Contents.{place_in}
use Rattle.dir_domain.specs.Places.{is_hole}
use Rattle.dir_domain.proofs.Names.{hole-test}
use Rattle.dir_domain.proofs.search.is_hole.Goals as goal

pub returns : goal.returns
unfolding is_hole
returns g c = c.eq.ensures ∙ hole-test c.place_bytes.result ∙ ap (λ bytes. is_none (place_in bytes)) c.place_bytes.ensures
