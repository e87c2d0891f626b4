use Rattle.std.proofs.Common.{◌≡◌, ◌≢◌, ◌+◌, ◌-◌, ◌/◌, ◌%◌, ◌<◌, ◌^◌, Some, length, take, drop, sym, ap, subst, ◌∙◌, arith}
use Rattle.std.proofs.lemmas.Bool.{eqb-true, eqb-false}
use Rattle.kernel_tables.specs.Kernel.{Kernel, kernel_of}
use Rattle.kernel_tables.proofs.Sizes.{length-memory_page}
use Rattle.kernel_forest.specs.Trees.{forest_of}
use Rattle.kernel_forest.proofs.Rest.{unreleased-size}
use Rattle.forest.specs.Walks.{map_of}
use Rattle.forest.specs.Calls.{IsOwn}
use Rattle.user_copy.specs.SpaceMemory.{space_memory}
use Rattle.user_copy.specs.Writing.{NotOwn, PutsBytes}
use Rattle.user_copy.proofs.Across.{nothing_put, one_piece, two_pieces, touched_one, touched_two, room_for_one, room_for_first, room_for_second, may_low, may_found, byte_may, first_may, second_may, front_length, back_length, parts_are, MayWrite}
use Rattle.seg_tree.proofs.BlockCounts.{more_at_most}
use Rattle.user_copy.proofs.Bytes.{each_may}
use Rattle.user_copy.proofs.write.put_bytes.Goals as goal

pub returns-then-is_empty-clause-put : goal.returns-then-is_empty-clause-put
returns-then-is_empty-clause-put g c =
    nothing_put (kernel_of (g.T.Store.memory c.args.store.now)) c.args.space.0.0 c.args.at c.args.from.now
    (eqb-true (length c.args.from.now) 0 (sym c.is_empty.ensures ∙ c.if-is_empty.true))

pub put_in_page-requires-clause-page_room : goal.put_in_page-requires-clause-page_room
put_in_page-requires-clause-page_room g c found mapped shared =
    let kernel = kernel_of (g.T.Store.memory c.args.store.now) in
    let some : length c.args.from.now ≢ 0 = eqb-false (length c.args.from.now) 0 (sym c.is_empty.ensures ∙ c.if-is_empty.false) in
    let short = c.if-from-in_first.true in
    room_for_one (forest_of kernel) c.args.space.0.0 (c.args.at / 4096) kernel.machine.pages_taken kernel.size found mapped
    (λ taken counts. c.requires.page_room taken
    (subst (λ n. NotOwn (forest_of kernel) c.args.space.0.0 (c.args.at / 4096) n taken) (sym (touched_one c.args.at (length c.args.from.now) (omega arith) (omega arith))) counts))
    shared

pub returns-then-from-in_first-clause-put : goal.returns-then-from-in_first-clause-put
returns-then-from-in_first-clause-put g c =
    let some : length c.args.from.now ≢ 0 = eqb-false (length c.args.from.now) 0 (sym c.is_empty.ensures ∙ c.if-is_empty.false) in
    let short = c.if-from-in_first.true in
    one_piece (kernel_of (g.T.Store.memory c.args.store.now)) (kernel_of (g.T.Store.memory c.put_in_page.new.store)) c.args.space.0.0 c.args.at c.args.from.now
    c.page_owner-owner.result c.page_owner-owner.ensures.owner c.requires.space c.put_in_page.ensures.put (omega arith) (omega arith)

pub put_in_page-requires-else-from-in_first-clause-can_write :
    goal.put_in_page-requires-else-from-in_first-clause-can_write
put_in_page-requires-else-from-in_first-clause-can_write g c =
    let long = c.if-from-in_first.false in
    first_may (space_memory (kernel_of (g.T.Store.memory c.args.store.now)) c.args.space.0.0) c.args.at (length (take (4096 - c.args.at % 4096) c.args.from.now)) (length c.args.from.now)
    (let front = front_length c.args.from.now (4096 - c.args.at % 4096) (omega arith) in omega arith) c.requires.can_write

pub put_in_page-requires-else-from-in_first-clause-page_room :
    goal.put_in_page-requires-else-from-in_first-clause-page_room
put_in_page-requires-else-from-in_first-clause-page_room g c found mapped shared =
    let kernel = kernel_of (g.T.Store.memory c.args.store.now) in
    let long = c.if-from-in_first.false in
    let few = c.requires.within in
    let next = may_found kernel c.args.space.0.0 (c.args.at + (4096 - c.args.at % 4096))
    (each_may (space_memory kernel c.args.space.0.0) c.args.at (length c.args.from.now) (4096 - c.args.at % 4096) c.requires.can_write long) in
    let page : (c.args.at + (4096 - c.args.at % 4096)) / 4096 ≡ c.args.at / 4096 + 1 = omega arith in
    let second = subst (MayWrite kernel c.args.space.0.0) page next in
    room_for_first (forest_of kernel) c.args.space.0.0 (c.args.at / 4096) kernel.machine.pages_taken kernel.size found second.found mapped second.mapped
    (λ taken counts. c.requires.page_room taken
    (subst (λ n. NotOwn (forest_of kernel) c.args.space.0.0 (c.args.at / 4096) n taken) (sym (touched_two c.args.at (length c.args.from.now) few (omega arith))) counts))
    shared

pub overflow_add-at : goal.overflow_add-at
overflow_add-at g c =
    let kernel = kernel_of (g.T.Store.memory c.args.store.now) in
    let long = c.if-from-in_first.false in
    let low : c.args.at / 4096 < 2 ^ 19 = may_low kernel c.args.space.0.0 c.args.at (byte_may (space_memory kernel c.args.space.0.0) c.args.at (length c.args.from.now) (omega arith) c.requires.can_write) in
    omega arith

pub put_in_page-requires-else-from-in_first-2-clause-can_write :
    goal.put_in_page-requires-else-from-in_first-2-clause-can_write
put_in_page-requires-else-from-in_first-2-clause-can_write g c =
    let long = c.if-from-in_first.false in
    let few = c.requires.within in
    let front = front_length c.args.from.now (4096 - c.args.at % 4096) (omega arith) in
    let back = back_length c.args.from.now (4096 - c.args.at % 4096) (omega arith) in
    second_may (kernel_of (g.T.Store.memory c.args.store.now)) (kernel_of (g.T.Store.memory c.put_in_page-else-from-in_first.new.store)) c.args.space.0.0 c.args.at (c.args.at + (4096 - c.args.at % 4096))
    (take (4096 - c.args.at % 4096) c.args.from.now) c.requires.good c.requires.trees.1.held.sound c.requires.space
    (record { whole = λ page which. length-memory_page (g.T.Store.memory c.args.store.now) page c.requires.good.sized which (g.met.T.Store.page_length c.args.store.now) })
    (omega arith) (omega arith) c.page_owner-owner.result c.put_in_page-else-from-in_first.ensures.put
    (length (take (length c.args.from.now - (4096 - c.args.at % 4096)) (drop (4096 - c.args.at % 4096) c.args.from.now))) (length c.args.from.now)
    (omega arith) (omega arith) c.requires.can_write

pub put_in_page-requires-else-from-in_first-2-clause-page_room :
    goal.put_in_page-requires-else-from-in_first-2-clause-page_room
put_in_page-requires-else-from-in_first-2-clause-page_room g c again e shared =
    let kernel = kernel_of (g.T.Store.memory c.args.store.now) in
    let mid = kernel_of (g.T.Store.memory c.put_in_page-else-from-in_first.new.store) in
    let put = c.put_in_page-else-from-in_first.ensures.put in
    let long = c.if-from-in_first.false in
    let few = c.requires.within in
    let next = may_found kernel c.args.space.0.0 (c.args.at + (4096 - c.args.at % 4096))
    (each_may (space_memory kernel c.args.space.0.0) c.args.at (length c.args.from.now) (4096 - c.args.at % 4096) c.requires.can_write long) in
    let page : (c.args.at + (4096 - c.args.at % 4096)) / 4096 ≡ c.args.at / 4096 + 1 = omega arith in
    let second = subst (MayWrite kernel c.args.space.0.0) page next in
    let size = unreleased-size kernel mid put.rest in
    subst (λ s. mid.machine.pages_taken < s) (sym size)
    (room_for_second (forest_of kernel) c.args.space.0.0 (c.args.at / 4096) kernel.machine.pages_taken kernel.size put.found second.found put.mapped second.mapped
    (λ taken counts. c.requires.page_room taken
    (subst (λ n. NotOwn (forest_of kernel) c.args.space.0.0 (c.args.at / 4096) n taken) (sym (touched_two c.args.at (length c.args.from.now) few (omega arith))) counts))
    (forest_of mid) put.result mid.machine.pages_taken c.requires.space put.owns put.kept put.copied again
    (subst (λ p. map_of (forest_of mid).keys c.args.space.0.0 p ≡ Some again) page e)
    (λ own. shared (subst (λ p. IsOwn (forest_of mid) c.args.space.0.0 p again) (sym page) own)))

pub put_in_page-requires-else-from-in_first-2-clause-owner :
    goal.put_in_page-requires-else-from-in_first-2-clause-owner
put_in_page-requires-else-from-in_first-2-clause-owner g c =
    let put = c.put_in_page-else-from-in_first.ensures.put in
    c.page_owner-owner.ensures.tree ∙ sym (put.owns.roots c.args.space.0.0 ((put.owns.spaces c.args.space.0.0).0 c.requires.space)).owner

pub returns-else-from-in_first-clause-put : goal.returns-else-from-in_first-clause-put
returns-else-from-in_first-clause-put g c =
    let old = kernel_of (g.T.Store.memory c.args.store.now) in
    let mid = kernel_of (g.T.Store.memory c.put_in_page-else-from-in_first.new.store) in
    let new = kernel_of (g.T.Store.memory c.put_in_page-else-from-in_first-2.new.store) in
    let long = c.if-from-in_first.false in
    let few = c.requires.within in
    let front = front_length c.args.from.now (4096 - c.args.at % 4096) (omega arith) in
    let back = back_length c.args.from.now (4096 - c.args.at % 4096) (omega arith) in
    subst (PutsBytes old new c.args.space.0.0 c.args.at) (parts_are c.args.from.now (4096 - c.args.at % 4096) (omega arith))
    (two_pieces old mid new c.args.space.0.0 c.args.at (c.args.at + (4096 - c.args.at % 4096))
    (take (4096 - c.args.at % 4096) c.args.from.now) (take (length c.args.from.now - (4096 - c.args.at % 4096)) (drop (4096 - c.args.at % 4096) c.args.from.now))
    c.page_owner-owner.result c.page_owner-owner.ensures.owner c.requires.space (omega arith) (omega arith) (omega arith) (omega arith)
    c.put_in_page-else-from-in_first.ensures.put c.put_in_page-else-from-in_first-2.ensures.put)

pub returns-else-from-in_first-clause-blocks : goal.returns-else-from-in_first-clause-blocks
returns-else-from-in_first-clause-blocks g c = more_at_most 180 (omega arith) c.put_in_page-else-from-in_first.ensures.blocks c.put_in_page-else-from-in_first-2.ensures.blocks
