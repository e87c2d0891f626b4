use Rattle.std.proofs.Common.{◌≡◌, ◌∙◌, ap, sym, subst, ℕ, Option, Some, None}
use Rattle.std.specs.Prelude.{MatchOption}
use Rattle.kernel_tables.specs.Kernel.{kernel_of}
use Rattle.kernel_tables.specs.Rows.{domain_rows}
use Rattle.kn_base.specs.declared.key.NodeId.{NodeId}
use Rattle.domain.specs.Keys.{segment_in}
use Rattle.domain.proofs.FieldLaws.{root_space}
use Rattle.domain.proofs.readers.space_of.Goals as goal

pub returns : goal.returns
returns g c =
    subst (λ (o : Option ℕ). MatchOption c.segment_in.result (o ≡ None) (λ (node : NodeId). o ≡ Some node.0))
    (ap segment_in c.root_key.ensures ∙ sym (root_space (domain_rows (kernel_of (g.T.Store.memory c.args.store.now))) c.args.root.0 c.requires.live)) c.segment_in.ensures
