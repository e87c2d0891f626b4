use Rattle.std.proofs.Common.{◌≡◌, ◌-◌, ◌∙◌, true, false, sym, arith}
use Rattle.std.proofs.lemmas.Bool.{eq-eqb, eqb-true}
use Rattle.seg_tree.proofs.checking.is_next.Goals as goal

pub returns-then-height-lt2-clause-next : goal.returns-then-height-lt2-clause-next
returns-then-height-lt2-clause-next c e = (let wrong : false ≡ true = e in cc)

pub returns-then-height-lt2-clause-otherwise : goal.returns-then-height-lt2-clause-otherwise
returns-then-height-lt2-clause-otherwise c e h = let a = h.0 in let b = h.1 in let small = c.if-height-lt2.true in omega arith

pub returns-clause-next : goal.returns-clause-next
returns-clause-next c e = let large = c.if-height-lt2.false in let same = eqb-true c.args.below (c.args.height - 1) e in (omega arith, omega arith)

pub returns-clause-otherwise : goal.returns-clause-otherwise
returns-clause-otherwise c e h =
    let b = h.1 in
    let wrong : true ≡ false = sym (eq-eqb c.args.below (c.args.height - 1) (omega arith)) ∙ e in cc
