use Rattle.std.proofs.Common.{[], ◌∷◌, sym, ◌∙◌, arith}
use Rattle.kernel_tables.specs.Kernel.{kernel_of}
use Rattle.user_copy.specs.SpaceMemory.{space_memory}
use Rattle.tests_spaces.proofs.Loads.{put_loading, stack_pages, stack_writable, two_strings}
use Rattle.tests_spaces.proofs.loading.starts.Goals as goal

pub put_start-requires-clause-strings : goal.put_start-requires-clause-strings
put_start-requires-clause-strings g c = (_, two_strings)

pub put_start-requires-clause-stack : goal.put_start-requires-clause-stack
put_start-requires-clause-stack g c =
    stack_writable (space_memory (kernel_of (g.T.Store.memory c.args.store.now)) c.args.space.0.0) (sym c.can_write.ensures ∙ c.if-not-can_write.false)

pub put_start-requires-clause-page_room : goal.put_start-requires-clause-page_room
put_start-requires-clause-page_room g c list are taken counts =
    stack_pages (kernel_of (g.T.Store.memory c.args.store.now)) c.args.space.0.0 (99 ∷ 97 ∷ 116 ∷ 0 ∷ 45 ∷ 110 ∷ 0 ∷ []) 2 (omega arith) (omega arith) (c.has_room.ensures.pages c.if-not-has_room.false)
    list are taken counts

pub returns : goal.returns
returns g c =
    put_loading (kernel_of (g.T.Store.memory c.args.store.now)) (kernel_of (g.T.Store.memory c.put_start.new.store)) c.args.space.0.0 c.args.plan.now.loads.items
    c.requires c.put_start.ensures.good (c.put_start.ensures.put _ two_strings)
