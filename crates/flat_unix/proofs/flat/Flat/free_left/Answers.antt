use Rattle.std.proofs.Common.{◌≡◌, ◌+◌, ◌*◌, ◌/◌, ◌<◌, false, None, sym, subst, ◌∙◌, arith}
use Rattle.unix_model.specs.Tables.{at}
use Rattle.flat_unix.specs.FlatView.{unix_of}
use Rattle.flat_unix.specs.FreeTurns.{has_nothing_to_do}
use Rattle.flat_unix.proofs.FreeTurns.{busy-here, free-before, slot-begins, slot-behind, slot-below}
use Rattle.flat_unix.proofs.flat.Flat.free_left.Goals as goal

-- the slot of the position comes before one that has something to do
behind : (c : goal.After-from) → c.args.self.now.state.position < c.from.result * c.args.self.now.state.quantum
behind c =
    slot-behind c.args.self.now.state.position c.args.self.now.state.quantum c.args.self.now.state.in_round c.from.result
    (subst (λ slot. slot < c.from.result) (c.round_slot-slot.ensures.slot None) (omega (arith, c.from.ensures, c.next_busy-next.ensures.range.0, c.if-next-slot.false)))

pub overflow_sub-result : goal.overflow_sub-result
overflow_sub-result c = omega (arith, behind c)

pub returns-then-next-slot-clause-some : goal.returns-then-next-slot-clause-some
returns-then-next-slot-clause-some c = λ free.
    let busy : has_nothing_to_do (at (unix_of c.args.self.now).processes (c.args.self.now.state.position / c.args.self.now.state.quantum)) ≡ false =
    busy-here (λ slot. has_nothing_to_do (at (unix_of c.args.self.now).processes slot)) c.args.self.now.state.position c.args.self.now.state.quantum c.next_busy-next.result c.round_slot-slot.result (c.round_slot-slot.ensures.slot None) c.if-next-slot.true c.round_slot-slot.ensures.below c.next_busy-next.ensures.ends in
    cc

pub returns-then-next-slot-clause-ends : goal.returns-then-next-slot-clause-ends
returns-then-next-slot-clause-ends c = λ more.
    let none : c.args.self.now.state.position ≡ c.args.self.now.state.position + 0 = omega arith in
    subst (λ position. has_nothing_to_do (at (unix_of c.args.self.now).processes (position / c.args.self.now.state.quantum)) ≡ false) none
    (busy-here (λ slot. has_nothing_to_do (at (unix_of c.args.self.now).processes slot)) c.args.self.now.state.position c.args.self.now.state.quantum c.next_busy-next.result c.round_slot-slot.result (c.round_slot-slot.ensures.slot None) c.if-next-slot.true c.round_slot-slot.ensures.below c.next_busy-next.ensures.ends)

pub returns-else-next-slot-clause-free : goal.returns-else-next-slot-clause-free
returns-else-next-slot-clause-free c = λ k few.
    free-before (λ slot. has_nothing_to_do (at (unix_of c.args.self.now).processes slot)) c.args.self.now.state.position c.args.self.now.state.quantum c.args.self.now.state.in_round c.from.result c.next_busy-next.result c.round_slot-slot.result (c.round_slot-slot.ensures.slot None) c.from.ensures c.next_busy-next.ensures.free k few

pub returns-else-next-slot-clause-some : goal.returns-else-next-slot-clause-some
returns-else-next-slot-clause-some c = λ free. omega (arith, behind c)

pub returns-else-next-slot-clause-ends : goal.returns-else-next-slot-clause-ends
returns-else-next-slot-clause-ends c = λ before.
    subst (λ slot. has_nothing_to_do (at (unix_of c.args.self.now).processes slot) ≡ false)
    (sym c.from.ensures ∙ sym (slot-begins c.args.self.now.state.position c.args.self.now.state.quantum c.args.self.now.state.in_round c.from.result (behind c)))
    (c.next_busy-next.ensures.ends (subst (λ slot. slot < 64) c.from.ensures (slot-below c.args.self.now.state.position c.args.self.now.state.quantum c.args.self.now.state.in_round c.from.result (behind c) before)))
