use Rattle.std.proofs.Common.{sym, ◌∙◌}
use Rattle.seg_tree.proofs.Forms.{not_true, not_false, broken_by, whole_by}
use Rattle.seg_tree.proofs.checking.is_broken.Goals as goal

pub has_keys-requires : goal.has_keys-requires
has_keys-requires g c = c.requires

pub returns-clause-broken : goal.returns-clause-broken
returns-clause-broken g c e = broken_by c.fits_under.result c.has_keys.result (sym c.both.ensures ∙ not_true c.both.result e) c.fits_under.ensures.otherwise c.has_keys.ensures.otherwise

pub returns-clause-whole : goal.returns-clause-whole
returns-clause-whole g c e = whole_by c.fits_under.result c.has_keys.result (sym c.both.ensures ∙ not_false c.both.result e) c.fits_under.ensures.fits c.has_keys.ensures.filled
