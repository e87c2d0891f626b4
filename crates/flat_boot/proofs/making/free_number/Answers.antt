use Rattle.std.proofs.Common.{sym, ◌∙◌}
use Rattle.unix_model.proofs.BootLaws.{made-no_inode, made-full, made-crowded, made-there}
use Rattle.flat_files.specs.SpotView.{spot_of}
use Rattle.flat_state.specs.StateView.{unix_of}
use Rattle.flat_boot.proofs.making.free_number.Goals as goal

pub returns-in-None-clause-number : goal.returns-in-None-clause-number
returns-in-None-clause-number c = λ new pages. sym (made-no_inode (unix_of c.args.state.now) (spot_of c.args.spot) new (sym c.in-None.ensures.least))

pub returns-then-is_full-clause-number : goal.returns-then-is_full-clause-number
returns-then-is_full-clause-number c = λ new pages.
    sym (made-full (unix_of c.args.state.now) (spot_of c.args.spot) new c.in-Some.number (sym c.in-Some.ensures.least) (sym c.is_full.ensures ∙ c.if-is_full.true))

pub returns-then-not-has_room_for-clause-number : goal.returns-then-not-has_room_for-clause-number
returns-then-not-has_room_for-clause-number c = λ new pages.
    sym (made-crowded (unix_of c.args.state.now) (spot_of c.args.spot) new c.in-Some.number (sym c.in-Some.ensures.least) (sym c.is_full.ensures ∙ c.if-is_full.false)
    (sym (c.has_room_for.ensures new pages) ∙ c.if-not-has_room_for.true))

pub returns-clause-number : goal.returns-clause-number
returns-clause-number c = λ new pages.
    sym (made-there (unix_of c.args.state.now) (spot_of c.args.spot) new c.in-Some.number (sym c.in-Some.ensures.least) (sym c.is_full.ensures ∙ c.if-is_full.false)
    (sym (c.has_room_for.ensures new pages) ∙ c.if-not-has_room_for.false))
