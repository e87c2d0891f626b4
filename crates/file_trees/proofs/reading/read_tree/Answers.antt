use Rattle.std.proofs.Common.{◌≡◌, ◌+◌, ◌-◌, length, take, drop, refl, ap, sym, ◌∙◌, arith}
use Rattle.std.proofs.lemmas.List.{take_all}
use borrow.Rule.Slice.PartMut.{same_len_mid}
use Rattle.kn_base.specs.Rows.{part_at}
use Rattle.kn_base.proofs.RowLaws.{length-part_at}
use Rattle.kernel_tables.specs.Kernel.{kernel_of}
use Rattle.kernel_tables.proofs.Sizes.{length-memory_page}
use Rattle.kernel_machine.specs.Contents.{file_in}
use Rattle.file_trees.specs.Trees.{tree_memory}
use Rattle.file_trees.proofs.Contents.{piece_put, piece_read}
use Rattle.file_trees.proofs.Pages.{tree_whole}
use Rattle.file_trees.proofs.reading.read_tree.Goals as goal

pub loop-done-init : goal.loop-done-init
loop-done-init g c = record { within = omega arith; taken = λ size far. refl }

pub loop-done-preserved : goal.loop-done-preserved
loop-done-preserved g c =
    let end = c.min-end.ensures in
    let more = c.loop-done-test.true in
    let kernel = kernel_of (g.T.Store.memory c.args.store.now) in
    let count = length-part_at c.loop-done.into c.loop-done.done (c.min-end.result - c.loop-done.done) (omega arith) in
    record {
      within = let long = same_len_mid c.loop-done.done (c.min-end.result - c.loop-done.done) c.loop-done.into c.read_piece.new.into c.read_piece.auto.into in omega arith;
      taken = λ size far.
          let long = c.loop-done.auto.into in
          piece_put (file_in (tree_memory kernel c.args.root) size) c.loop-done.into c.read_piece.new.into c.args.at c.loop-done.done c.min-end.result
          (length (take (c.min-end.result - c.loop-done.done) (drop c.loop-done.done c.loop-done.into)))
          (omega arith) (omega arith) count c.read_piece.auto.into (c.loop-done.invariant.taken size far)
          (piece_read (tree_memory kernel c.args.root)
          (tree_whole kernel c.args.root c.requires.good c.requires.trees.1.held.sound c.requires.tree
          (record { whole = λ page which. length-memory_page (g.T.Store.memory c.args.store.now) page c.requires.good.sized which (g.met.T.Store.page_length c.args.store.now) }))
          c.read_piece.new.into size (c.args.at + c.loop-done.done) (length (take (c.min-end.result - c.loop-done.done) (drop c.loop-done.done c.loop-done.into)))
          c.read_piece.ensures (omega arith) (omega arith));
    }

pub returns-clause-read : goal.returns-clause-read
returns-clause-read g c size far =
    let past = c.loop-done-test.false in
    let within = c.loop-done.invariant.within in
    let long = c.loop-done.auto.into in
    let all : c.loop-done.done ≡ length c.args.into.now = omega arith in
    sym (take_all c.loop-done.done c.loop-done.into (omega arith)) ∙ c.loop-done.invariant.taken size far
    ∙ ap (part_at (file_in (tree_memory (kernel_of (g.T.Store.memory c.args.store.now)) c.args.root) size) c.args.at) all
