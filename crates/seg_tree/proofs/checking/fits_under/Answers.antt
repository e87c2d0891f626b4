use Rattle.std.proofs.Common.{◌≡◌, ◌∙◌, true, false, sym, subst}
use Rattle.std.proofs.lemmas.Bool.{eq-eqb, eqb-true}
use Rattle.forest.specs.Forest.{FitsUnder}
use Rattle.seg_tree.proofs.Forms.{no_fit}
use Rattle.seg_tree.proofs.checking.fits_under.Goals as goal

pub returns-in-Null-clause-fits : goal.returns-in-Null-clause-fits
returns-in-Null-clause-fits c e = subst (FitsUnder c.args.height) (sym c.in-Null.is) tt

pub returns-in-Null-clause-otherwise : goal.returns-in-Null-clause-otherwise
returns-in-Null-clause-otherwise c e = (let wrong : true ≡ false = e in cc)

pub returns-in-Page-clause-fits : goal.returns-in-Page-clause-fits
returns-in-Page-clause-fits c e = subst (FitsUnder c.args.height) (sym c.in-Page.is) (eqb-true c.args.height 1 e)

pub returns-in-Page-clause-otherwise : goal.returns-in-Page-clause-otherwise
returns-in-Page-clause-otherwise c e fits = let wrong : true ≡ false = sym (eq-eqb c.args.height 1 (subst (FitsUnder c.args.height) c.in-Page.is fits)) ∙ e in cc

pub returns-in-Segment-clause-fits : goal.returns-in-Segment-clause-fits
returns-in-Segment-clause-fits c e = subst (FitsUnder c.args.height) (sym c.in-Segment.is) (c.is_next.ensures.next e)

pub returns-in-Segment-clause-otherwise : goal.returns-in-Segment-clause-otherwise
returns-in-Segment-clause-otherwise c e fits = c.is_next.ensures.otherwise e (subst (FitsUnder c.args.height) c.in-Segment.is fits)

pub returns-in_default-clause-fits : goal.returns-in_default-clause-fits
returns-in_default-clause-fits c e = (let wrong : false ≡ true = e in cc)

pub returns-in_default-clause-otherwise : goal.returns-in_default-clause-otherwise
returns-in_default-clause-otherwise c e fits = no_fit c.args.height c.args.key c.in_default.not-Null c.in_default.not-Page c.in_default.not-Segment fits
