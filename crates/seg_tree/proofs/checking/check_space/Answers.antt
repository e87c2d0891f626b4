use Rattle.std.proofs.Common.{sym, ◌∙◌}
use Rattle.kernel_tables.specs.Kernel.{kernel_of}
use Rattle.kernel_tables.specs.Rows.{key_table}
use Rattle.seg_tree.proofs.Forms.{both_true, well_formed, not_well_formed}
use Rattle.seg_tree.proofs.checking.check_space.Goals as goal

pub returns-clause-well_formed : goal.returns-clause-well_formed
returns-clause-well_formed g c e =
    let told = both_true c.has_parts.result c.has_no_more.result (sym c.both.ensures ∙ e) in
    well_formed (key_table (kernel_of (g.T.Store.memory c.args.store.now)).keys) c.args.space.0.0 (c.has_parts.ensures.parts told.0) (c.has_no_more.ensures.nulls told.1)

pub returns-clause-otherwise : goal.returns-clause-otherwise
returns-clause-otherwise g c e =
    not_well_formed (key_table (kernel_of (g.T.Store.memory c.args.store.now)).keys) c.args.space.0.0 c.has_parts.result c.has_no_more.result c.has_parts.ensures.otherwise c.has_no_more.ensures.otherwise (sym c.both.ensures ∙ e)
