use Rattle.std.proofs.Common.{◌≡◌, ◌∙◌, ap, arith}
use Rattle.unix_model.specs.State.{adopted}
use Rattle.flat_state.specs.SlotsView.{slots_of}
use Rattle.flat_state.proofs.SlotLaws.{changed_below, changed_below-all}
use Rattle.flat_state.proofs.SlotBounds.{slots-beyond}
use Rattle.flat_state.proofs.slots.Slots.adopt_orphans.Goals as goal

pub returns : goal.returns
returns c =
    let all : c.loop-slot.slot ≡ 64 = omega arith in
    c.loop-slot.invariant
    ∙ (ap (changed_below (adopted c.args.ended) (slots_of c.args.self.now)) all
    ∙ changed_below-all (adopted c.args.ended) (slots_of c.args.self.now) 64 (slots-beyond c.args.self.now))
