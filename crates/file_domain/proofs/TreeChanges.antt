-- The tree of a file has another memory, which is one for the same length still.
use Rattle.std.proofs.Common.{◌≡◌, ◌≢◌, ℕ, ◌<◌, Some, List, length, refl, ap, sym, subst, ◌∙◌}
use Rattle.kernel_tables.specs.declared.entry.PageOwner.TheVariants.{File as FilePage}
use Rattle.kernel_tables.specs.declared.inode.Inode.{Inode}
use Rattle.kernel_tables.specs.declared.row.Row.{Row}
use Rattle.kernel_tables.specs.Kernel.{Kernel, memory_page, inode_at}
use Rattle.space_bank.specs.Bank.{BankGood}
use Rattle.forest.specs.Walks.{map_of}
use Rattle.kernel_forest.specs.Owners.{page_owners, PagesAreOf}
use Rattle.kernel_forest.specs.Trees.{forest_of}
use Rattle.unix_model.specs.Files.{File, with_inode}
use Rattle.unix_model.specs.Memory.{Memory, Page}
use Rattle.unix_model.specs.Room.{promised}
use Rattle.unix_model.specs.State.{Unix, with_files}
use Rattle.unix_model.specs.Tables.{at, with_at}
use Rattle.unix_model.proofs.TableLaws.{with_at-same}
use Rattle.kernel_machine.specs.Contents.{file_in}
use Rattle.kernel_machine.specs.Held.{AllWhole}
use Rattle.kernel_machine.specs.Machine.{KernelMachine, machine_of, inodes_of}
use Rattle.kernel_machine.specs.Standing.{Standing, LeavesSpaces}
use Rattle.kernel_machine.specs.Trees.{IsFileTree, pages_owner}
use Rattle.kernel_machine.specs.View.{view, inodes_in, descriptions_in, files_in, stored, inode_in}
use Rattle.kernel_machine.proofs.MemoryLaws.{tree_changed}
use Rattle.kernel_machine.proofs.PageHolders.{file-whole}
use Rattle.kernel_machine.proofs.PagesHeld.{file-long}
use Rattle.kernel_machine.proofs.SpacesStand.{standing_with_tree}
use Rattle.file_trees.specs.FileMemory.{IsFileMemory}
use Rattle.file_trees.specs.Pieces.{StaysOwned}
use Rattle.file_trees.specs.Trees.{tree_memory, tree_page}
use Rattle.file_trees.proofs.Contents.{WholeTree}
use Rattle.file_trees.proofs.FileTrees.{memory_to_tree}
use Rattle.file_domain.specs.Cutting.{ChangesTree}
use Rattle.file_domain.specs.Effects.{ChangesFile, with_file}
use Rattle.file_trees.specs.Good.{FilesGood}
use Rattle.file_domain.specs.Good.{IsFileAt}
use Rattle.file_domain.proofs.Chains.{changes_more, file_twice}
use Rattle.file_domain.proofs.Keeping.{accounted_file, same_promise}
use Rattle.file_domain.proofs.Rows.{seen_row}
use Rattle.file_domain.proofs.Seen.{file_root, has-tree, there_file, seen_file}
use Rattle.file_trees.proofs.Views.{changes_memory, state-now}

module _ (k0 k1 : Kernel) (number : ℕ) (inode : Inode) (memory : Memory) (good : FilesGood k0) (below : number < 1024) (file : IsFileAt k0 number inode)
    (some : inode.root ≢ 0) (leaves : LeavesSpaces k0 k1 inode.root) (owned : StaysOwned FilePage k0 k1 inode.root)
    (here : tree_memory k1 inode.root ≡ memory) (whole_now : WholeTree memory) (is : IsFileMemory memory inode.length)
    (page : ℕ) (found : Page) (there : at memory page ≡ Some found) (bank : BankGood k1) (pages : AllWhole k1.bank) where
  whole : WholeTree (tree_memory k0 inode.root)
  whole = file-whole k0 good.accounted inode.root

  inodes_same : k1.inodes ≡ k0.inodes
  inodes_same = ap (λ (k : Kernel). k.inodes) leaves.rest

  tree_now : IsFileTree (forest_of k1).keys (memory_page k1) inode.root inode.length
  tree_now = memory_to_tree k1 inode.root inode.length some
      (λ n. ap (λ (m : Memory). length (tree_page m n)) here ∙ whole_now n) page found
      (ap (λ (m : Memory). at m page) here ∙ there) (subst (λ (m : Memory). IsFileMemory m inode.length) (sym here) is)

  owned_now : PagesAreOf (pages_owner inode.kind) (page_owners k1) (map_of (forest_of k1).keys inode.root)
  owned_now = subst (λ k. PagesAreOf (pages_owner k) (page_owners k1) (map_of (forest_of k1).keys inode.root)) (sym file.kind)
      (owned (file_root k0 number inode good.standing file some).3)

  file_now : IsFileAt k1 number inode
  file_now = record { there = ap (λ rows. inode_in_rows rows) inodes_same ∙ file.there; kind = file.kind }
    where
      inode_in_rows : List (Row Inode) → Row Inode
      inode_in_rows rows = inode_at (record k0 { inodes = rows }) number

  base : view (machine_of k1) ≡ with_files (view (machine_of k0)) (with_inode (files_in (machine_of k0)) number (inode_in (machine_of k1) inode))
  unfolding machine_of
  base =
      tree_changed (machine_of k0) (machine_of k1) number inode inode.root good.standing.holdings good.standing.roots (there_file k0 number inode file) refl some (has-tree inode.kind file.kind)
      (changes_memory k0 k1 inode.root leaves)

  seen_now : view (machine_of k1) ≡ with_file (view (machine_of k0)) number (file_in memory inode.length)
  unfolding view inodes_in descriptions_in
  seen_now =
      base
      ∙ ap (λ seen. let unix : Unix = with_files (view (machine_of k0)) (with_inode (files_in (machine_of k0)) number seen) in unix)
      (seen_row k1 inode file.kind ∙ ap File (ap (λ (m : Memory). file_in m inode.length) here))

  promises_now : promised (with_file (view (machine_of k0)) number (file_in memory inode.length)) ≡ promised (view (machine_of k0))
  promises_now = same_promise (view (machine_of k0)) number (stored (machine_of k0) inode) (file_in memory inode.length) below (seen_file k0 number inode file)
      (file-long memory whole_now inode.length ∙ sym (file-long (tree_memory k0 inode.root) whole inode.length))

  standing_now : Standing k1
  standing_now =
      standing_with_tree k0 k1 inode.root number inode leaves (there_file k0 number inode file) (has-tree inode.kind file.kind) refl
      tree_now owned_now bank pages good.standing

  state_now :
      machine_of k1
      ≡ record (machine_of k0) {
        forest = (machine_of k1).forest;
        page_bytes = (machine_of k1).page_bytes;
        page_owner = (machine_of k1).page_owner;
        inodes = with_at (machine_of k0).inodes number (Some inode);
        words = record (machine_of k1).words { size = k0.machine.size; quantum = k0.machine.quantum; position = k0.machine.position; next_pid = k0.machine.next_pid };
      }
  unfolding machine_of
  state_now =
      state-now k0 k1 leaves.rest leaves.rows_now
      ∙ ap (λ table. let m : KernelMachine = record (machine_of k0) { forest = (machine_of k1).forest; page_bytes = (machine_of k1).page_bytes; page_owner = (machine_of k1).page_owner; inodes = table; words = record (machine_of k1).words { size = k0.machine.size; quantum = k0.machine.quantum; position = k0.machine.position; next_pid = k0.machine.next_pid } } in m)
      (sym (with_at-same (inodes_of k0) number (Some inode) (there_file k0 number inode file)))

  changes_now : ChangesFile k0 k1 number inode inode
  changes_now = record { row = refl; there = file_now.there; state = state_now }

  pub changes_tree : ChangesTree k0 k1 number inode memory
  changes_tree = record {
    changes = changes_now;
    here = here;
    seen = seen_now;
    promised_same = ap (λ (k : Kernel). k.machine.promised) leaves.rest;
    good = record {
      standing = standing_now;
      accounted = accounted_file k0 k1 number inode inode below changes_now standing_now good.accounted;
      promises = ap (λ (k : Kernel). k.machine.promised) leaves.rest ∙ good.promises ∙ sym (ap promised seen_now ∙ promises_now);
    };
    file = file_now;
  }

-- one change after another
pub changes_tree_more : (k0 k1 k2 : Kernel) (number : ℕ) (inode : Inode) (one two : Memory) → ChangesTree k0 k1 number inode one → ChangesTree k1 k2 number inode two → ChangesTree k0 k2 number inode two
changes_tree_more k0 k1 k2 number inode one two a b = record {
  changes = changes_more k0 k1 k2 number inode inode inode a.changes b.changes;
  here = b.here;
  seen = b.seen ∙ ap (λ (u : Unix). with_file u number (file_in two inode.length)) a.seen ∙ file_twice (view (machine_of k0)) number (file_in one inode.length) (file_in two inode.length);
  promised_same = b.promised_same ∙ a.promised_same;
  good = b.good;
  file = b.file;
}
