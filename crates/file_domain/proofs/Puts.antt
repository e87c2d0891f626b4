-- A piece is put into a file whose tree is there.
use Rattle.std.proofs.Common.{◌≢◌, ℕ, ◌+◌, ◌/◌, ◌%◌, true, ◌<◌, ◌≤◌, Some, List, length, refl, ap, ◌∙◌}
use Rattle.kn_base.specs.Rows.{overwritten}
use Rattle.kernel_tables.specs.declared.entry.PageOwner.TheVariants.{File as FilePage}
use Rattle.kernel_tables.specs.declared.inode.Inode.{Inode}
use Rattle.kernel_tables.specs.Kernel.{Kernel}
use Rattle.space_bank.specs.Bank.{BankGood}
use Rattle.forest.specs.Calls.{IsOwn}
use Rattle.forest.specs.Walks.{Mapping}
use Rattle.kernel_forest.specs.Trees.{forest_of}
use Rattle.unix_model.specs.Memory.{Memory}
use Rattle.unix_model.specs.Numbers.{pages_of}
use Rattle.unix_model.proofs.TableLaws.{at-with_at}
use Rattle.kernel_machine.specs.Held.{AllWhole}
use Rattle.kernel_machine.specs.Machine.{machine_of}
use Rattle.kernel_machine.specs.View.{view}
use Rattle.file_trees.specs.Pieces.{PutsInTree, MayBeWritten, with_piece}
use Rattle.file_trees.specs.Trees.{tree_memory, tree_page}
use Rattle.file_trees.proofs.Contents.{WholeTree}
use Rattle.file_trees.proofs.FileMemory.{file_put, memory_put, put_whole}
use Rattle.file_domain.specs.Cutting.{ChangesTree}
use Rattle.file_domain.specs.Effects.{with_file, PutsAt}
use Rattle.file_trees.specs.Good.{FilesGood}
use Rattle.file_domain.specs.Good.{IsFileAt}
use Rattle.file_domain.proofs.Growth.{memory_of_file}
use Rattle.file_domain.proofs.TreeChanges.{changes_tree}
use Rattle.file_domain.proofs.Seen.{has-tree, there_file, file_root}
use Rattle.file_trees.proofs.Accounting.{tree_page_left}

module _ (k0 k1 : Kernel) (number place : ℕ) (bytes : List ℕ) (inode : Inode) (good : FilesGood k0) (below : number < 1024) (file : IsFileAt k0 number inode) (whole : WholeTree (tree_memory k0 inode.root))
    (some : inode.root ≢ 0) (any : 0 < length bytes) (inside : place % 4096 + length bytes ≤ 4096) (within : place + length bytes ≤ inode.length)
    (put : PutsInTree k0 k1 inode.root place bytes FilePage) (bank : BankGood k1) (pages : AllWhole k1.bank) where
  abbrev was : Memory
  was = tree_memory k0 inode.root

  after : ChangesTree k0 k1 number inode (with_piece was place bytes)
  after =
      changes_tree k0 k1 number inode (with_piece was place bytes) good below file some put.leaves put.owned put.here
      (put_whole was inode.length place bytes whole inside within)
      (memory_put was inode.length place bytes whole inside within any (memory_of_file k0 number inode good.standing file whole))
      (place / 4096) _ (at-with_at was (place / 4096) (Some (record { writable = true; bytes = overwritten (tree_page was (place / 4096)) (place % 4096) bytes }))) bank pages

  pub puts_at : PutsAt k0 k1 number place bytes
  puts_at = record {
    inode = inode;
    was = file;
    now = inode;
    changes = after.changes;
    length_same = refl;
    seen = after.seen ∙ ap (with_file (view (machine_of k0)) number) (file_put was inode.length place bytes whole inside within);
    promised_same = after.promised_same;
    good = after.good;
    file = after.file;
  }

-- what a piece of a file needs is there
pub page_left : (kernel : Kernel) (number page : ℕ) (inode : Inode) → FilesGood kernel → IsFileAt kernel number inode → page < pages_of inode.length
    → ((found : Mapping) → inode.root ≢ 0 → IsOwn (forest_of kernel) inode.root page found → ⊥) → kernel.machine.pages_taken < kernel.size
page_left kernel number page inode good file = tree_page_left kernel number page inode good (there_file kernel number inode file) (has-tree inode.kind file.kind)

pub may_write : (kernel : Kernel) (number : ℕ) (inode : Inode) → FilesGood kernel → IsFileAt kernel number inode → inode.root ≢ 0 → MayBeWritten kernel inode.root
may_write kernel number inode good file some = (file_root kernel number inode good.standing file some).2.writable
