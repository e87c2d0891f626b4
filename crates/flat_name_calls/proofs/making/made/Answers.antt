use Rattle.std.proofs.Common.{◌≡◌, ◌+◌, ℕ, true, false, arith, refl, sym, ◌∙◌}
use Rattle.unix_model.specs.NameCalls.{with_made}
use Rattle.unix_model.specs.Paths.{Spot}
use Rattle.unix_model.specs.Room.{has_room, promised}
use Rattle.unix_model.specs.State.{Unix, with_process}
use Rattle.flat_files.specs.SpotView.{spot_of}
use Rattle.flat_state.specs.ProcessView.{process_of}
use Rattle.flat_state.specs.StateView.{unix_of}
use Rattle.flat_name_calls.proofs.MakingLaws.{made-crowded, made-done, promised-made}
use Rattle.flat_name_calls.proofs.making.made.Goals as goal

pub returns-then-not-fits-clause-made : goal.returns-then-not-fits-clause-made
returns-then-not-fits-clause-made c = λ slot new inside free empty none.
    let unix : Unix = with_process (unix_of c.args.state.now) slot (process_of c.args.process.now) in
    let spot : Spot = spot_of c.args.spot in
    let number : ℕ = c.in-Some.inode in
    let promises : promised (with_made unix spot number new) + c.inode_pages.result ≡ promised unix + c.pages_with_name-more.result =
    omega (arith, promised-made unix spot number c.pages_with_name-more.result new c.in-Some.ensures.free.below_limit c.args.spot.directory_below c.in-Some.ensures.free.free empty none c.pages_with_name-more.ensures.pages, c.inode_pages.ensures.pages) in
    let crowded : has_room (with_made unix spot number new) ≡ false = sym (c.fits.ensures slot (with_made unix spot number new) inside free refl promises) ∙ c.if-not-fits.true in
    sym (made-crowded unix spot new number (sym c.in-Some.ensures.least) (sym c.is_full.ensures ∙ c.if-is_full.false) crowded)

pub returns-clause-made : goal.returns-clause-made
returns-clause-made c = λ slot new inside free empty none.
    let unix : Unix = with_process (unix_of c.args.state.now) slot (process_of c.args.process.now) in
    let spot : Spot = spot_of c.args.spot in
    let number : ℕ = c.in-Some.inode in
    let promises : promised (with_made unix spot number new) + c.inode_pages.result ≡ promised unix + c.pages_with_name-more.result =
    omega (arith, promised-made unix spot number c.pages_with_name-more.result new c.in-Some.ensures.free.below_limit c.args.spot.directory_below c.in-Some.ensures.free.free empty none c.pages_with_name-more.ensures.pages, c.inode_pages.ensures.pages) in
    let room : has_room (with_made unix spot number new) ≡ true = sym (c.fits.ensures slot (with_made unix spot number new) inside free refl promises) ∙ c.if-not-fits.false in
    sym (made-done unix spot new number (sym c.in-Some.ensures.least) (sym c.is_full.ensures ∙ c.if-is_full.false) room)
