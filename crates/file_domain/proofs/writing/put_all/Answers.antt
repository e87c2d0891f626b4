use Rattle.std.proofs.Common.{◌≡◌, ◌+◌, ◌-◌, take, drop, ap, sym, subst, ◌∙◌, arith}
use Rattle.std.proofs.Math.Seq.{take-add}
use Rattle.std.proofs.lemmas.List.{length-take-le, take_all}
use Rattle.kn_base.proofs.RowLaws.{length-part_at}
use Rattle.kernel_tables.specs.declared.inode.Inode.{Inode}
use Rattle.kernel_tables.specs.Kernel.{kernel_of}
use Rattle.kernel_tables.proofs.Sizes.{length-memory_page}
use Rattle.kernel_machine.proofs.PagesHeld.{file-long}
use Rattle.file_trees.specs.Trees.{tree_memory}
use Rattle.file_trees.proofs.Pages.{tree_whole}
use Rattle.file_domain.specs.Effects.{PutsAt}
use Rattle.file_domain.proofs.Chains.{one_row, puts_more, puts_nothing}
use Rattle.file_domain.proofs.Seen.{file_tree, file_row}
use Rattle.file_domain.proofs.writing.put_all.Goals as goal

pub loop-done-init : goal.loop-done-init
loop-done-init g c =
    record {
      within = omega arith;
      put = puts_nothing (kernel_of (g.T.Store.memory c.args.store.now)) c.args.file c.args.at c.requires.file.0 c.requires.good c.requires.file.1;
      keeps = g.met.T.Store.keeps_same c.args.store.now;
    }

pub overflow_cast-here : goal.overflow_cast-here
overflow_cast-here g c =
    let row = file_row (kernel_of (g.T.Store.memory c.args.store.now)) c.args.file c.requires.file.0 c.requires.good.standing c.requires.number c.requires.file.1 in
    let most = row.length in
    let fits = c.requires.file.2 in
    let within = c.loop-done.invariant.within in
    omega arith

pub overflow_add-here : goal.overflow_add-here
overflow_add-here g c =
    let row = file_row (kernel_of (g.T.Store.memory c.args.store.now)) c.args.file c.requires.file.0 c.requires.good.standing c.requires.number c.requires.file.1 in
    let most = row.length in
    let fits = c.requires.file.2 in
    let within = c.loop-done.invariant.within in
    omega arith

pub put_at-requires-clause-good : goal.put_at-requires-clause-good
put_at-requires-clause-good g c = c.loop-done.invariant.put.good

pub put_at-requires-clause-file : goal.put_at-requires-clause-file
put_at-requires-clause-file g c =
    let put = c.loop-done.invariant.put in
    let same = put.length_same ∙ ap (λ (i : Inode). i.length) (one_row (kernel_of (g.T.Store.memory c.args.store.now)) c.args.file put.inode c.requires.file.0 put.was c.requires.file.1) in
    let end = c.min-end.ensures in
    let more = c.loop-done-test.true in
    let count = length-part_at c.args.from.now c.loop-done.done (c.min-end.result - c.loop-done.done) (omega arith) in
    let fits = c.requires.file.2 in
    (put.now, put.file, omega arith)

pub loop-done-preserved : goal.loop-done-preserved
loop-done-preserved g c =
    let old = kernel_of (g.T.Store.memory c.args.store.now) in
    let put = c.loop-done.invariant.put in
    let end = c.min-end.ensures in
    let more = c.loop-done-test.true in
    let count = length-part_at c.args.from.now c.loop-done.done (c.min-end.result - c.loop-done.done) (omega arith) in
    let front = length-take-le c.loop-done.done c.args.from.now (omega arith) in
    let same = ap (λ (i : Inode). i.length) (one_row old c.args.file put.inode c.requires.file.0 put.was c.requires.file.1) in
    let standing = c.requires.good.standing in
    let whole = tree_whole old put.inode.root standing.bank standing.trees.held.sound (file_tree old c.args.file put.inode standing put.was)
    (record { whole = λ page which. length-memory_page (g.T.Store.memory c.args.store.now) page standing.bank.sized which (g.met.T.Store.page_length c.args.store.now) }) in
    let long = file-long (tree_memory old put.inode.root) whole put.inode.length in
    let fits = c.requires.file.2 in
    let sum : c.loop-done.done + (c.min-end.result - c.loop-done.done) ≡ c.min-end.result = omega arith in
    record {
      within = omega arith;
      put = subst (PutsAt old (kernel_of (g.T.Store.memory c.put_at.new.store)) c.args.file c.args.at)
          (sym (take-add c.loop-done.done (c.min-end.result - c.loop-done.done) c.args.from.now) ∙ ap (λ n. take n c.args.from.now) sum)
          (puts_more old (kernel_of (g.T.Store.memory c.loop-done.store)) (kernel_of (g.T.Store.memory c.put_at.new.store)) c.args.file c.args.at (c.args.at + c.loop-done.done)
          (take c.loop-done.done c.args.from.now) (take (c.min-end.result - c.loop-done.done) (drop c.loop-done.done c.args.from.now)) (omega arith) put c.put_at.ensures.put (omega arith));
      keeps = g.met.T.Store.keeps_trans c.args.store.now c.loop-done.store c.put_at.new.store c.loop-done.invariant.keeps c.put_at.ensures.keeps;
    }

pub returns-clause-put : goal.returns-clause-put
returns-clause-put g c =
    let past = c.loop-done-test.false in
    let within = c.loop-done.invariant.within in
    subst (PutsAt (kernel_of (g.T.Store.memory c.args.store.now)) (kernel_of (g.T.Store.memory c.loop-done.store)) c.args.file c.args.at)
    (take_all c.loop-done.done c.args.from.now past) c.loop-done.invariant.put

pub returns-clause-keeps : goal.returns-clause-keeps
returns-clause-keeps g c = c.loop-done.invariant.keeps
