use Rattle.std.proofs.Common.{◌≡◌, ◌∙◌, ap, sym, subst, ℕ, Option, Some, None}
use Rattle.std.specs.Prelude.{MatchOption}
use Rattle.kernel_tables.specs.Kernel.{kernel_of}
use Rattle.kernel_tables.specs.Rows.{fixed_rows}
use Rattle.kn_base.specs.declared.key.NodeId.{NodeId}
use Rattle.domain.specs.Keys.{root_in}
use Rattle.domain.proofs.FieldLaws.{slot_root}
use Rattle.domain.proofs.readers.slots.root_of.Goals as goal

pub returns : goal.returns
returns g c =
    subst (λ (o : Option ℕ). MatchOption c.root_in.result (o ≡ None) (λ (node : NodeId). o ≡ Some node.0))
    (ap root_in c.slot_key.ensures ∙ sym (slot_root (fixed_rows (kernel_of (g.T.Store.memory c.args.store.now))) c.args.slot c.requires.slot)) c.root_in.ensures
