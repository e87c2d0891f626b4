use Rattle.std.proofs.Common.{◌≡◌, true, false, length, sym, ◌∙◌, arith}
use Rattle.kernel_tables.specs.Kernel.{kernel_of}
use Rattle.kernel_tables.proofs.Sizes.{length-memory_page}
use Rattle.user_copy.specs.SpaceMemory.{space_memory}
use Rattle.user_copy.proofs.Across.{may_low, may_found, byte_may}
use Rattle.seg_tree.proofs.BlockCounts.{at_most, more_at_most, widen_most}
use Rattle.user_copy.proofs.Pieces.{puts_piece}
use Rattle.user_copy.proofs.write.put_in_page.Goals as goal

pub writable-requires-clause-page : goal.writable-requires-clause-page
writable-requires-clause-page g c =
    let kernel = kernel_of (g.T.Store.memory c.args.store.now) in
    may_low kernel c.args.space.0.0 c.args.at (byte_may (space_memory kernel c.args.space.0.0) c.args.at (length c.args.from.now) c.requires.some c.requires.can_write)

pub writable-requires-clause-page_room : goal.writable-requires-clause-page_room
writable-requires-clause-page_room g c found mapped may shared = c.requires.page_room found mapped shared

pub returns-in-Some-clause-put : goal.returns-in-Some-clause-put
returns-in-Some-clause-put g c =
    let old = kernel_of (g.T.Store.memory c.args.store.now) in
    let mid = kernel_of (g.T.Store.memory c.writable.new.store) in
    puts_piece old mid c.args.space.0.0 c.args.at c.in-Some.page.0 c.args.owner c.args.from.now c.requires.good c.writable.ensures.good
    (record { whole = λ page which. length-memory_page (g.T.Store.memory c.args.store.now) page c.requires.good.sized which (g.met.T.Store.page_length c.args.store.now) })
    c.requires.trees.0 c.requires.trees.1 c.requires.space c.in-Some.ensures.written c.requires.within
    (kernel_of (g.T.Store.memory c.write_page.new.store)) c.write_page.ensures.written

pub returns-in-Some-clause-blocks : goal.returns-in-Some-clause-blocks
returns-in-Some-clause-blocks g c = more_at_most 90 (omega arith) c.writable.ensures.blocks (at_most 1 (omega arith) c.write_page.ensures.blocks)

pub returns-in-None-clause-put : goal.returns-in-None-clause-put
returns-in-None-clause-put g c =
    let kernel = kernel_of (g.T.Store.memory c.args.store.now) in
    let may = (may_found kernel c.args.space.0.0 c.args.at (byte_may (space_memory kernel c.args.space.0.0) c.args.at (length c.args.from.now) c.requires.some c.requires.can_write)).may in
    let no : true ≡ false = sym may ∙ c.in-None.ensures.written.0 in cc

pub returns-in-None-clause-blocks : goal.returns-in-None-clause-blocks
returns-in-None-clause-blocks g c = widen_most 90 (omega arith) c.writable.ensures.blocks

pub returns-in-Some-clause-keeps : goal.returns-in-Some-clause-keeps
returns-in-Some-clause-keeps g c = g.met.T.Store.keeps_trans c.args.store.now c.writable.new.store c.write_page.new.store c.writable.ensures.keeps c.write_page.ensures.keeps
