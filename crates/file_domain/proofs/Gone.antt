-- An inode is freed, what it had is given back, and its promise is taken back.
use Rattle.std.proofs.Common.{◌≡◌, ◌≢◌, ℕ, ◌+◌, ◌-◌, ◌<◌, ◌≤◌, ◌%◌, Some, None, List, length, slice_set, refl, ap, sym, subst, ◌∙◌, arith}
use Rattle.std.specs.Prelude.{option_map}
use Rattle.std.proofs.lemmas.List.{length-set, get_or-set_same}
use Rattle.kernel_tables.specs.declared.inode.Inode.{Inode}
use Rattle.kernel_tables.specs.declared.inode.InodeKind.{InodeKind}
use Rattle.kernel_tables.specs.declared.inode.InodeKind.TheVariants as kind
use Rattle.kernel_tables.specs.declared.row.Row.TheVariants.{Free, Unspelled}
use Rattle.kernel_tables.specs.Kernel.{Kernel, first_page, inode_at, memory_page}
use Rattle.kernel_tables.specs.Rows.{domain_rows, fixed_rows, is_fixed, of_domain}
use Rattle.kernel_forest.proofs.RowLaws.{domains_apart, fixed_apart}
use Rattle.kernel_forest.specs.Owners.{page_owners}
use Rattle.kernel_forest.specs.Trees.{forest_of}
use Rattle.space_bank.specs.Bank.{BankGood}
use Rattle.file_tables.specs.Roots.{ExchangesRoots}
use Rattle.file_tables.specs.Rows.{InodesGood, IsInodeRow, IsOfKind}
use Rattle.domain.specs.Domains.{domain_at, roots_by}
use Rattle.unix_model.specs.Files.{Files, inode_pages}
use Rattle.unix_model.specs.Room.{promised}
use Rattle.unix_model.specs.State.{with_files}
use Rattle.unix_model.specs.Tables.{at, with_at}
use Rattle.unix_model.proofs.RoomLaws.{promised-inode}
use Rattle.kernel_machine.specs.Invocations.{FixedBut}
use Rattle.kernel_machine.specs.Loose.{StandingBut, root_of, word_of}
use Rattle.kernel_machine.specs.Machine.{KernelMachine, machine_of, inodes_of, descriptions_of, held}
use Rattle.kernel_machine.specs.View.{view, inode_by, inode_in, inodes_in}
use Rattle.kernel_machine.proofs.LooseLaws.{nothing_loose, ring-word}
use Rattle.kernel_machine.proofs.MachineLaws.{inode_written}
use Rattle.kernel_machine.proofs.MemoryLaws.{page-of}
use Rattle.kernel_machine.proofs.PageBounds.{whole-row}
use Rattle.kernel_machine.proofs.PageHolders.{file-whole}
use Rattle.kernel_machine.proofs.PagesHeld.{file-pages, places-pages}
use Rattle.kernel_machine.proofs.RootStands.{ring-real, standing_with_root}
use Rattle.kernel_machine.proofs.ViewLaws.{inode_freed}
use Rattle.file_domain.specs.Dropping.{DropsInode, GivesBack, IsNamedOnce, IsUnnamed, Releases, pages_given, row_pages}
use Rattle.file_trees.specs.Good.{FilesGood}
use Rattle.file_domain.proofs.Alone.{ring_once}
use Rattle.file_domain.proofs.Keeping.{accounted_still}
use Rattle.file_trees.proofs.Views.{state-now}
use Rattle.file_trees.proofs.Promising.{promising, promise_unseen}
use Rattle.file_domain.proofs.Rows.{promise_stands}
use Rattle.file_domain.proofs.Unnamed.{is_dropped}

-- the tables in which a number is free
abbrev pub freeing : Kernel → ℕ → Kernel
freeing kernel number = record kernel { inodes = slice_set kernel.inodes number Free }

-- the longest row
few-of : (k : InodeKind) (row : Inode) → IsOfKind k row → row.length ≤ 4194304
few-of kind.File row right = right.length
few-of kind.Dir row right = let few = right.length in omega arith
few-of kind.Pipe row right = let few = right.length in omega arith
few-of kind.Console row right = let none = right.no_length in omega arith

module _ (k0 : Kernel) (number : ℕ) (inode : Inode) (good : FilesGood k0) (below : number < 1024) (unnamed : IsUnnamed k0 number inode) where
  there : at (inodes_of k0) number ≡ Some inode
  unfolding inodes_of at
  there = ap held unnamed.there

  pub few_bytes : inode.length ≤ 4194304
  few_bytes = few-of inode.kind inode (subst (IsInodeRow number) unnamed.there (good.standing.inodes.right number below)).of_kind

  -- the page of a pipe is one of the bank
  pub real_page : inode.kind ≡ kind.Pipe → inode.root ≢ 0
  real_page pipe = ring-real k0 inode.root (page-of (forest_of k0) (memory_page k0) (page_owners k0) inode inode.kind (good.standing.roots.each number inode there) pipe)

  -- what it is promised
  seen-there : at (view (machine_of k0)).files.inodes number ≡ Some (inode_by (machine_of k0) inode inode.kind)
  unfolding view inodes_in inode_in machine_of at
  seen-there = ap (option_map (inode_in (machine_of k0))) there

  pages-of : (k : InodeKind) → (k ≡ kind.Dir → inode.length % 32 ≡ 0) → inode_pages (Some (inode_by (machine_of k0) inode k)) ≡ row_pages k inode.length
  pages-of kind.File places = file-pages (machine_of k0) inode (file-whole k0 good.accounted inode.root)
  pages-of kind.Dir places = places-pages (machine_of k0) inode (places refl)
  pages-of kind.Pipe places = refl
  pages-of kind.Console places = refl

  pages-seen : inode_pages (at (view (machine_of k0)).files.inodes number) ≡ row_pages inode.kind inode.length
  pages-seen = ap inode_pages seen-there ∙ pages-of inode.kind (whole-row number (inode_at k0 number) inode (good.standing.inodes.right number below) (ap held unnamed.there))

  abbrev files_now : Files
  files_now = record (view (machine_of k0)).files { inodes = with_at (view (machine_of k0)).files.inodes number None }

  promised-now : promised (with_files (view (machine_of k0)) files_now) + row_pages inode.kind inode.length ≡ k0.machine.promised
  promised-now =
      let all = promised-inode (view (machine_of k0)) None (view (machine_of k0)).files.descriptions number below in
      let pages = pages-seen in
      let before = good.promises in
      omega arith

  module _ (k1 : Kernel) (freed : k1 ≡ freeing k0 number) (all : length k0.inodes ≡ 1024) where
    inside : number < length k0.inodes
    inside = omega arith

    -- its root is loose
    pub root_loose : ExchangesRoots k0 k1 number Free → InodesGood k1.inodes → StandingBut k1 (word_of inode.kind inode.root)
    root_loose exchanges rows =
        subst (StandingBut k1) (ap root_of unnamed.there) (standing_with_root k0 k1 number Free inside freed exchanges rows tt ((nothing_loose k0).0 good.standing))

    fixed-freed : (apart : List ℕ) → FixedBut k0 apart → FixedBut k1 apart
    fixed-freed apart fixed = subst (λ (k : Kernel). FixedBut k apart) (sym freed)
        (record { null_node = fixed.null_node; services = fixed.services; available = fixed.available; room = fixed.room; slots = fixed.slots })

    -- a pipe's page is named once, by what is loose
    pub once_now : ExchangesRoots k0 k1 number Free → InodesGood k1.inodes → (inode.kind ≡ kind.Pipe → (apart : List ℕ) × FixedBut k0 apart) → inode.kind ≡ kind.Pipe → IsNamedOnce k1 inode.root
    once_now exchanges rows fixed pipe =
        let nodes = fixed pipe in
        ring_once k1 inode.root nodes.0
        (subst (StandingBut k1) (ap (λ k. word_of k inode.root) pipe ∙ ring-word kind.Pipe inode.root refl (real_page pipe)) (root_loose exchanges rows))
        (fixed-freed nodes.0 nodes.1)

    seen-freed : view (machine_of k1) ≡ with_files (view (machine_of k0)) files_now
    unfolding machine_of view
    seen-freed = ap view (inode_written k0 k1 number Free inside freed) ∙ inode_freed (machine_of k0) number

    module _ (k2 : Kernel) (released : Releases k1 k2 inode.root inode.kind) (pages : ℕ) (pages_are : pages ≡ row_pages inode.kind inode.length) where
      promised-same : k2.machine.promised ≡ k0.machine.promised
      promised-same = ap (λ (k : Kernel). k.machine.promised) released.rest ∙ ap (λ (k : Kernel). k.machine.promised) freed

      pub promised_enough : pages ≤ k2.machine.promised
      promised_enough = let same = promised-same in let now = promised-now in omega arith

      abbrev k3 : Kernel
      k3 = promising k2 (k2.machine.promised - pages)

      seen-now : view (machine_of k3) ≡ with_files (view (machine_of k0)) files_now
      seen-now = promise_unseen k2 (k2.machine.promised - pages) ∙ released.seen ∙ seen-freed

      promises-now : k3.machine.promised ≡ promised (view (machine_of k3))
      promises-now = let same = promised-same in let now = promised-now in let seen = ap promised seen-now in omega arith

      rows3 : k3.inodes ≡ slice_set k0.inodes number Free
      rows3 = ap (λ (k : Kernel). k.inodes) released.rest ∙ ap (λ (k : Kernel). k.inodes) freed

      free-now : inode_at k3 number ≡ Free
      free-now = ap (λ rows. inode_at (record k0 { inodes = rows }) number) rows3 ∙ get_or-set_same k0.inodes number Free Unspelled inside

      fixed-now : fixed_rows k3 ≡ fixed_rows k0
      fixed-now = released.rows_now is_fixed fixed_apart ∙ ap fixed_rows freed

      state2 :
          machine_of k2
          ≡ record (machine_of k0) {
            forest = (machine_of k2).forest;
            page_bytes = (machine_of k2).page_bytes;
            page_owner = (machine_of k2).page_owner;
            inodes = with_at (machine_of k0).inodes number None;
            words = record (machine_of k2).words { size = k0.machine.size; quantum = k0.machine.quantum; position = k0.machine.position; next_pid = k0.machine.next_pid };
          }
      unfolding machine_of
      state2 =
          state-now k1 k2 released.rest released.rows_now
          ∙ ap (λ (m : KernelMachine). let n : KernelMachine = record m {
            forest = (machine_of k2).forest;
            page_bytes = (machine_of k2).page_bytes;
            page_owner = (machine_of k2).page_owner;
            words = record (machine_of k2).words { size = m.words.size; quantum = m.words.quantum; position = m.words.position; next_pid = m.words.next_pid };
          } in n) (inode_written k0 k1 number Free inside freed)

      state3 :
          machine_of k3
          ≡ record (machine_of k0) {
            forest = (machine_of k3).forest;
            page_bytes = (machine_of k3).page_bytes;
            page_owner = (machine_of k3).page_owner;
            inodes = with_at (machine_of k0).inodes number None;
            words = record (machine_of k3).words { size = k0.machine.size; quantum = k0.machine.quantum; position = k0.machine.position; next_pid = k0.machine.next_pid };
          }
      unfolding machine_of inodes_of descriptions_of
      state3 = ap (λ (m : KernelMachine). let n : KernelMachine = record m { words = record m.words { promised = k2.machine.promised - pages } } in n) state2

      given-by : GivesBack k0 k3 inode.root inode.kind
      given-by = record {
        of_tree = λ tree. subst (λ (k : Kernel). k3.machine.pages_taken + pages_given (forest_of k) (forest_of k3) (first_page k.size) k.size ≡ k.machine.pages_taken) freed (released.given.of_tree tree);
        of_pipe = λ pipe. subst (λ (k : Kernel). (k3.machine.pages_taken + 1 ≡ k.machine.pages_taken) × (forest_of k3 ≡ forest_of k) × (page_owners k3 ≡ with_at (page_owners k) inode.root None)) freed (released.given.of_pipe pipe);
      }

      drops-to : 2 ≤ number → BankGood k3 → DropsInode k0 k3 number inode
      drops-to low bank =
          let standing = promise_stands k2 (k2.machine.promised - pages) bank released.standing in
          record {
            free = free-now;
            state = state3;
            seen = seen-now ∙ ap (with_files (view (machine_of k0))) (sym (is_dropped k0 number inode low unnamed));
            promised = let same = promised-same in let now = promised-now in let is = pages-seen in omega arith;
            given = given-by;
            fixed_same = fixed-now;
            good = record {
              standing = standing;
              accounted =
                  accounted_still k0 k3 (ap roots_by fixed-now) (ap domain_at (released.rows_now of_domain domains_apart ∙ ap domain_rows freed))
                  (ap length rows3 ∙ length-set k0.inodes number Free ∙ all) standing good.accounted;
              promises = promises-now;
            };
          }

      pub drops_inode : (new : Kernel) → 2 ≤ number → new ≡ k3 → BankGood new → DropsInode k0 new number inode
      drops_inode new low e bank = subst (λ (k : Kernel). DropsInode k0 k number inode) (sym e) (drops-to low (subst BankGood e bank))
