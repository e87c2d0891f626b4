use Rattle.std.proofs.Common.{◌+◌, ◌*◌, ◌/◌, None, arith}
use Rattle.std.specs.Prelude.{min}
use Rattle.kernel_tables.specs.Kernel.{kernel_of, memory_page}
use Rattle.kernel_machine.specs.Machine.{machine_of}
use Rattle.kernel_machine.specs.View.{file_memory}
use Rattle.dir_domain.specs.Places.{has_name}
use Rattle.dir_domain.specs.Rows.{bytes_stored}
use Rattle.dir_domain.proofs.Searches.{found-inside, least-of-none, named-next, named-first}
use Rattle.dir_domain.proofs.Seen.{tree-whole}
use Rattle.dir_domain.proofs.search.first_named.Goals as goal

pub loop-page-init : goal.loop-page-init
loop-page-init g c =
    least-of-none (has_name c.args.name.now (bytes_stored (kernel_of (g.T.Store.memory c.args.store.now)) c.args.row.now)) (min (128 * 0) (c.args.row.now.length / 32)) (omega arith)

pub overflow_add-result : goal.overflow_add-result
overflow_add-result g c =
    let few = c.requires.row.1.few in
    let here = c.min-here.ensures in
    let below = c.loop-page-test.true in
    let inside = found-inside (has_name c.args.name.now (memory_page (kernel_of (g.T.Store.memory c.args.store.now)) c.tree_page.result.0)) c.min-here.result c.in-Some.number c.in-Some.ensures in
    omega arith

pub returns-in-Some : goal.returns-in-Some
returns-in-Some g c =
    let kernel = kernel_of (g.T.Store.memory c.args.store.now) in
    let row = c.args.row.now in
    let here = c.min-here.ensures in
    let more = c.loop-page-test.true in
    named-first (file_memory (machine_of kernel) row.root) c.args.name.now (memory_page kernel c.tree_page.result.0)
    (tree-whole kernel row.root c.requires.standing c.requires.row.1.tree) row.length c.loop-page.page (row.length / 32) c.min-here.result c.in-Some.number
    c.tree_page.ensures.bytes (omega arith) (omega arith) (omega arith)
    (min (128 * c.loop-page.page) (row.length / 32)) (omega arith) c.loop-page.invariant c.in-Some.ensures

pub loop-page-preserved : goal.loop-page-preserved
loop-page-preserved g c =
    let kernel = kernel_of (g.T.Store.memory c.args.store.now) in
    let row = c.args.row.now in
    let here = c.min-here.ensures in
    let more = c.loop-page-test.true in
    named-next (file_memory (machine_of kernel) row.root) c.args.name.now (memory_page kernel c.tree_page.result.0)
    (tree-whole kernel row.root c.requires.standing c.requires.row.1.tree) row.length c.loop-page.page (row.length / 32) c.min-here.result None
    c.tree_page.ensures.bytes (omega arith) (omega arith) (omega arith)
    (min (128 * c.loop-page.page) (row.length / 32)) (min (128 * (c.loop-page.page + 1)) (row.length / 32)) (omega arith) (omega arith)
    c.loop-page.invariant c.in-None.ensures
