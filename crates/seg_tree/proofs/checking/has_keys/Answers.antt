use Rattle.std.proofs.Common.{◌≡◌, true, false, sym, ◌∙◌}
use Rattle.kernel_tables.specs.Kernel.{kernel_of}
use Rattle.kernel_tables.specs.Rows.{key_table}
use Rattle.seg_tree.proofs.Forms.{segment_names, segment_no_name, node_filled, node_not_filled, not_true, not_false}
use Rattle.seg_tree.proofs.checking.has_keys.Goals as goal

pub is_empty-requires : goal.is_empty-requires
is_empty-requires g c = record { node = c.requires c.in-Some.node.0 (segment_names c.args.key c.in-Some.node (sym c.segment_of.ensures ∙ c.in-Some.is)) }

pub returns-in-Some-clause-filled : goal.returns-in-Some-clause-filled
returns-in-Some-clause-filled g c e =
    node_filled (key_table (kernel_of (g.T.Store.memory c.args.store.now)).keys) c.args.key c.in-Some.node (sym c.segment_of.ensures ∙ c.in-Some.is) (c.is_empty.ensures.filled (not_true c.is_empty.result e))

pub returns-in-Some-clause-otherwise : goal.returns-in-Some-clause-otherwise
returns-in-Some-clause-otherwise g c e =
    node_not_filled (key_table (kernel_of (g.T.Store.memory c.args.store.now)).keys) c.args.key c.in-Some.node (sym c.segment_of.ensures ∙ c.in-Some.is) (c.is_empty.ensures.empty (not_false c.is_empty.result e))

pub returns-in-None-clause-filled : goal.returns-in-None-clause-filled
returns-in-None-clause-filled g c e node h = absurd (segment_no_name c.args.key (sym c.segment_of.ensures ∙ c.in-None.is) node h)

pub returns-in-None-clause-otherwise : goal.returns-in-None-clause-otherwise
returns-in-None-clause-otherwise g c e = (let wrong : true ≡ false = e in cc)
