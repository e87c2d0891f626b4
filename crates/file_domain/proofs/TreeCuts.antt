-- The tree of a file is cut where it keeps a page, and the rest of the page where a length ends becomes zero.
use Rattle.std.proofs.Common.{◌≡◌, ◌≢◌, ℕ, ◌-◌, ◌%◌, ◌<◌, ◌≤◌, refl, ap, sym, subst, ◌∙◌}
use Rattle.kernel_tables.specs.declared.entry.PageOwner.TheVariants.{File as FilePage}
use Rattle.kernel_tables.specs.declared.inode.Inode.{Inode}
use Rattle.kernel_tables.specs.Kernel.{Kernel, memory_page}
use Rattle.space_bank.specs.Bank.{BankGood}
use Rattle.unix_model.specs.FileCalls.{resized}
use Rattle.unix_model.specs.Memory.{Memory}
use Rattle.unix_model.specs.Numbers.{pages_of}
use Rattle.unix_model.specs.State.{Unix}
use Rattle.user_copy.specs.SpaceMemory.{page_of}
use Rattle.kernel_machine.specs.Contents.{file_in}
use Rattle.kernel_machine.specs.Held.{AllWhole}
use Rattle.kernel_machine.specs.Machine.{machine_of}
use Rattle.kernel_machine.specs.View.{view, stored}
use Rattle.kernel_machine.proofs.PageHolders.{file-whole}
use Rattle.file_trees.specs.Cuts.{ClearsPiece, CutsTree, without_pages}
use Rattle.file_trees.specs.FileMemory.{IsFileMemory}
use Rattle.file_trees.specs.Trees.{tree_memory}
use Rattle.file_trees.proofs.Contents.{WholeTree}
use Rattle.file_trees.proofs.FileTrees.{there_found}
use Rattle.file_trees.proofs.Leaving.{leaves_same}
use Rattle.file_domain.specs.Cutting.{ChangesTree, MapsBelow, without_rest}
use Rattle.file_domain.specs.Effects.{with_file, Resizes}
use Rattle.file_trees.specs.Good.{FilesGood}
use Rattle.file_domain.specs.Good.{IsFileAt}
use Rattle.file_domain.proofs.Chains.{changes_more, file_twice}
use Rattle.file_domain.proofs.CutMemory.{before_cut, cut_whole, memory_cut, memory_rest, rest_none, rest_some, rest_stays, rest_whole, short_bytes, short_memory, short_whole, shorter}
use Rattle.file_domain.proofs.Growth.{memory_of_file}
use Rattle.file_domain.proofs.Seen.{file_root}
use Rattle.file_domain.proofs.TreeChanges.{changes_tree, changes_tree_more}

module _ (k0 k1 : Kernel) (number size : ℕ) (inode : Inode) (good : FilesGood k0) (below : number < 1024) (file : IsFileAt k0 number inode) (some : inode.root ≢ 0) (bank : BankGood k1) (pages : AllWhole k1.bank) where
  whole : WholeTree (tree_memory k0 inode.root)
  whole = file-whole k0 good.accounted inode.root

  memory : IsFileMemory (tree_memory k0 inode.root) inode.length
  memory = memory_of_file k0 number inode good.standing file whole

  -- pages were given back from a first one on, below which one is left
  pub cut_changes : (first next : ℕ) → MapsBelow k0 inode.root first → CutsTree k0 k1 inode.root first next → ChangesTree k0 k1 number inode (without_pages (tree_memory k0 inode.root) first next)
  cut_changes first next left cut =
      changes_tree k0 k1 number inode (without_pages (tree_memory k0 inode.root) first next) good below file some cut.leaves (cut.owned FilePage) cut.here
      (cut_whole (tree_memory k0 inode.root) first next whole) (memory_cut (tree_memory k0 inode.root) first next whole inode.length memory)
      left.0 (page_of (memory_page k0) left.2)
      (before_cut (tree_memory k0 inode.root) first next left.0 left.1 ∙ there_found k0 inode.root left.0 left.2 some left.3) bank pages

  -- the rest of a page was cleared
  pub clear_changes : size ≤ inode.length → size % 4096 ≢ 0 → ClearsPiece k0 k1 inode.root size (4096 - size % 4096) FilePage
      → ChangesTree k0 k1 number inode (without_rest (tree_memory k0 inode.root) size)
  clear_changes order odd cleared =
      let t = (file_root k0 number inode good.standing file some).2.some_page in
      let stays = rest_stays (tree_memory k0 inode.root) size whole t.0 (page_of (memory_page k0) t.1) (there_found k0 inode.root t.0 t.1 some t.2) in
      changes_tree k0 k1 number inode (without_rest (tree_memory k0 inode.root) size) good below file some cleared.leaves cleared.owned
      (cleared.here ∙ sym (rest_some (tree_memory k0 inode.root) size whole odd))
      (rest_whole (tree_memory k0 inode.root) size whole) (memory_rest (tree_memory k0 inode.root) size whole inode.length order memory) t.0 stays.0 stays.1 bank pages

-- where a length ends with a page, there is no rest
pub clear_nothing : (kernel : Kernel) (number size : ℕ) (inode : Inode) → FilesGood kernel → number < 1024 → IsFileAt kernel number inode → inode.root ≢ 0 → size % 4096 ≡ 0
    → ChangesTree kernel kernel number inode (without_rest (tree_memory kernel inode.root) size)
clear_nothing kernel number size inode good below file some even =
    let whole : WholeTree (tree_memory kernel inode.root) = file-whole kernel good.accounted inode.root in
    let same = rest_none (tree_memory kernel inode.root) size whole even in
    let t = (file_root kernel number inode good.standing file some).2.some_page in
    subst (ChangesTree kernel kernel number inode) (sym same)
    (changes_tree kernel kernel number inode (tree_memory kernel inode.root) good below file some (leaves_same kernel inode.root) (λ was. was) refl whole
    (memory_of_file kernel number inode good.standing file whole)
    t.0 (page_of (memory_page kernel) t.1) (there_found kernel inode.root t.0 t.1 some t.2) good.standing.bank good.standing.whole)

-- ---- the steps of a cut, one after another

module _ (k0 k1 k2 k3 : Kernel) (number size : ℕ) (inode : Inode) (good : FilesGood k0) (file : IsFileAt k0 number inode) (order : size ≤ inode.length) where
  abbrev was : Memory
  was = tree_memory k0 inode.root

  abbrev short : Memory
  short = without_rest (without_pages (tree_memory k0 inode.root) (pages_of size) (pages_of inode.length)) size

  whole_was : WholeTree was
  whole_was = file-whole k0 good.accounted inode.root

  memory_was : IsFileMemory was inode.length
  memory_was = memory_of_file k0 number inode good.standing file whole_was

  -- both changes of the tree
  pub both_changes : ChangesTree k0 k1 number inode (without_pages (tree_memory k0 inode.root) (pages_of size) (pages_of inode.length)) → ChangesTree k1 k2 number inode (without_rest (tree_memory k1 inode.root) size)
      → ChangesTree k0 k2 number inode short
  both_changes a b = changes_tree_more k0 k1 k2 number inode _ _ a (subst (λ (m : Memory). ChangesTree k1 k2 number inode (without_rest m size)) a.here b)

  -- the tree is one for the length now
  pub memory_short : ChangesTree k0 k2 number inode short → IsFileMemory (tree_memory k2 inode.root) size
  memory_short cut = subst (λ (m : Memory). IsFileMemory m size) (sym cut.here) (short_memory was inode.length size whole_was memory_was order)

  bytes_same : ChangesTree k0 k2 number inode short → resized (stored (machine_of k2) inode) size ≡ resized (stored (machine_of k0) inode) size
  bytes_same cut =
      let whole_short = short_whole was inode.length size whole_was memory_was order in
      ap (λ (m : Memory). resized (file_in m inode.length) size) cut.here
      ∙ sym (shorter short short size inode.length whole_short whole_short order (λ i under. refl))
      ∙ shorter short was size inode.length whole_short whole_was order (λ i under. short_bytes was inode.length size whole_was memory_was order i under)

  pub cut_resizes : ChangesTree k0 k2 number inode short → Resizes k2 k3 number inode (record inode { length = size }) → Resizes k0 k3 number inode (record inode { length = size })
  cut_resizes cut lower = record {
    changes = changes_more k0 k2 k3 number inode inode (record inode { length = size }) cut.changes lower.changes;
    seen = lower.seen
        ∙ ap (with_file (view (machine_of k2)) number) (bytes_same cut)
        ∙ ap (λ (u : Unix). with_file u number (resized (stored (machine_of k0) inode) size)) cut.seen
        ∙ file_twice (view (machine_of k0)) number (file_in short inode.length) (resized (stored (machine_of k0) inode) size);
    room = lower.room;
    good = lower.good;
    file = lower.file;
  }
