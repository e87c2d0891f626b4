use Rattle.std.proofs.Common.{◌-◌, [], ◌∷◌, arith}
use Rattle.kernel_tables.specs.Kernel.{kernel_of, first_page}
use Rattle.kernel_tables.specs.Blocks.{key_block, page_entry_block, machine_block}
use Rattle.space_bank.proofs.FullLaws.{no_page-free}
use Rattle.domain.proofs.Pages.{mine_before, takes_buffer, buffer_rows}
use Rattle.domain.proofs.BlockSets.{blocks_then, keys_changed}
use Rattle.domain.proofs.Kept.{taken-pages}
use Rattle.domain.proofs.setters.buffer.take_buffer.Goals as goal

pub unreachable-requires : goal.unreachable-requires
unreachable-requires g c =
    let full = no_page-free (kernel_of (g.T.Store.memory c.args.store.now)) c.requires.good c.in-None.ensures.taken.0 in
    let room = c.requires.room in
    omega arith

pub put_row-requires-clause-mine : goal.put_row-requires-clause-mine
put_row-requires-clause-mine g c =
    mine_before (kernel_of (g.T.Store.memory c.args.store.now)) (kernel_of (g.T.Store.memory c.take_page.new.store)) (kernel_of (g.T.Store.memory c.take_page.new.store)) c.args.root.0 c.in-Some.id
    c.requires.good c.requires.rows c.requires.live c.requires.none c.in-Some.ensures.taken c.in-Some.ensures.shares

pub returns-clause-taken : goal.returns-clause-taken
returns-clause-taken g c =
    takes_buffer (kernel_of (g.T.Store.memory c.args.store.now)) (kernel_of (g.T.Store.memory c.take_page.new.store)) (kernel_of (g.T.Store.memory c.put_row.new.store)) c.args.root.0 c.in-Some.id
    c.requires.good c.requires.rows c.requires.live c.requires.none c.in-Some.ensures.taken c.in-Some.ensures.shares c.put_row.ensures.put

pub returns-clause-rows : goal.returns-clause-rows
returns-clause-rows g c =
    buffer_rows (kernel_of (g.T.Store.memory c.args.store.now)) (kernel_of (g.T.Store.memory c.take_page.new.store)) (kernel_of (g.T.Store.memory c.put_row.new.store)) c.args.root.0 c.in-Some.id
    c.requires.good c.requires.rows c.requires.live c.requires.none c.in-Some.ensures.taken c.in-Some.ensures.shares c.put_row.ensures.put

pub returns-clause-blocks : goal.returns-clause-blocks
returns-clause-blocks g c =
    let old = kernel_of (g.T.Store.memory c.args.store.now) in
    let mid = kernel_of (g.T.Store.memory c.take_page.new.store) in
    blocks_then (g.T.Store.blocks c.args.store.now) (g.T.Store.blocks c.take_page.new.store) (g.T.Store.blocks c.put_row.new.store)
    (page_entry_block (c.in-Some.id.0 - first_page old.size) ∷ machine_block ∷ []) (key_block old.pages c.args.root.0 ∷ []) c.in-Some.ensures.blocks
    (keys_changed (g.T.Store.blocks c.take_page.new.store) (g.T.Store.blocks c.put_row.new.store) old.pages mid.pages c.args.root.0 (taken-pages old mid c.in-Some.ensures.taken) c.put_row.ensures.blocks)
