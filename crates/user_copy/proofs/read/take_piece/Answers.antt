use Rattle.std.proofs.Common.{◌≢◌, ◌/◌, Some, length, ap, sym, ◌∙◌, arith}
use Rattle.std.proofs.lemmas.Bool.{eqb-true, eqb-false}
use Rattle.kernel_tables.specs.Kernel.{kernel_of}
use Rattle.user_copy.specs.SpaceMemory.{space_memory}
use Rattle.user_copy.proofs.Pages.{found_inside, memory_found, memory_none}
use Rattle.user_copy.proofs.Reading.{bytes_here, bytes_none, bytes_empty}
use Rattle.user_copy.proofs.read.take_piece.Goals as goal

pub returns-then-is_empty : goal.returns-then-is_empty
returns-then-is_empty g c =
    bytes_empty (space_memory (kernel_of (g.T.Store.memory c.args.store.now)) c.args.space.0.0) c.args.at c.args.into.now
    (eqb-true (length c.args.into.now) 0 (sym c.is_empty.ensures ∙ c.if-is_empty.true))

pub read_memory_page-requires-clause-page : goal.read_memory_page-requires-clause-page
read_memory_page-requires-clause-page g c =
    found_inside (kernel_of (g.T.Store.memory c.args.store.now)) c.args.space.0.0 (c.args.at / 4096) (record { writable = c.in-Some.found.writable; page = c.in-Some.found.page.0 })
    c.requires.good c.requires.trees.1.held.sound c.requires.space (sym c.in-Some.ensures)

pub returns-in-Some : goal.returns-in-Some
returns-in-Some g c =
    let kernel = kernel_of (g.T.Store.memory c.args.store.now) in
    bytes_here (space_memory kernel c.args.space.0.0) c.args.at (length c.args.into.now) _
    (memory_found kernel c.args.space.0.0 (c.args.at / 4096) (record { writable = c.in-Some.found.writable; page = c.in-Some.found.page.0 }) (sym c.in-Some.ensures))
    c.read_memory_page.ensures.whole c.requires.within
    ∙ ap Some (sym c.read_memory_page.ensures.read)

pub returns-in-None : goal.returns-in-None
returns-in-None g c =
    let kernel = kernel_of (g.T.Store.memory c.args.store.now) in
    let some : length c.args.into.now ≢ 0 = λ none. absurd (eqb-false (length c.args.into.now) 0 (sym c.is_empty.ensures ∙ c.if-is_empty.false) none) in
    bytes_none (space_memory kernel c.args.space.0.0) c.args.at (length c.args.into.now)
    (memory_none kernel c.args.space.0.0 (c.args.at / 4096) (sym c.in-None.ensures)) (omega arith)
