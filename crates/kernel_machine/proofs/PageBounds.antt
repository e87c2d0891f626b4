-- Taken pages are at most the promised ones.
use Rattle.std.proofs.Common.{◌≡◌, ℕ, ◌+◌, ◌%◌, ◌<◌, ◌≤◌, Bool, true, false, Some, List, arith, refl, ap, ◌||◌}
use Rattle.kernel_tables.specs.declared.row.Row.{Row}
use Rattle.kernel_tables.specs.declared.row.Row.TheVariants.{Free as FreeRow, Used, Unspelled as UnspelledRow}
use Rattle.kernel_tables.specs.declared.entry.Entry.{Entry}
use Rattle.kernel_tables.specs.declared.entry.Entry.TheVariants.{Free, Taken, Fixed, Unspelled}
use Rattle.kernel_tables.specs.declared.entry.PageOwner.{PageOwner}
use Rattle.kernel_tables.specs.declared.inode.Inode.{Inode}
use Rattle.kernel_tables.specs.declared.inode.InodeKind.{InodeKind}
use Rattle.kernel_tables.specs.declared.inode.InodeKind.TheVariants.{File, Dir, Pipe, Console}
use Rattle.kernel_tables.specs.Kernel.{Kernel, first_page, inode_at}
use Rattle.kernel_tables.specs.Rows.{entry_at, fixed_rows}
use Rattle.space_bank.specs.Bank.{EntriesGood}
use Rattle.space_bank.specs.FreeList.{taken_one, taken_count}
use Rattle.file_tables.specs.Rows.{IsInodeRow, IsOfKind}
use Rattle.kernel_forest.specs.Trees.{forest_of}
use Rattle.unix_model.specs.Files.{inode_pages}
use Rattle.unix_model.specs.Room.{promised, process_pages}
use Rattle.unix_model.specs.Tables.{at, count_below, sum_below}
use Rattle.unix_model.proofs.CountLaws.{one_if}
use Rattle.domain.specs.Domains.{domains, roots_by}
use Rattle.kernel_machine.specs.Machine.{machine_of, inodes_of, held}
use Rattle.kernel_machine.specs.View.{view, processes_in, inodes_in}
use Rattle.kernel_machine.specs.Bounds.{Accounted}
use Rattle.kernel_machine.specs.Bounds as law
use Rattle.kernel_machine.proofs.Counting.{count-less, count-or, count-any, sum-less, sum-list}
use Rattle.kernel_machine.proofs.PagesHeld.{slot-has, inode-has, slot-few, inode-few}
use Rattle.kernel_machine.proofs.PageHolders.{owned-page, file-whole, slots-have, inodes-have}

abbrev pub is_taken : {O : Type 0} → Entry O → Bool
is_taken (Free next) = false
is_taken (Taken owner count) = true
is_taken Fixed = false
is_taken Unspelled = false

pub untaken : {P : Type 0} → false ≡ true → P
untaken e = cc

one-taken : {O : Type 0} (entry : Entry O) → taken_one entry ≤ one_if (is_taken entry)
one-taken (Free next) = omega arith
one-taken (Taken owner count) = omega arith
one-taken Fixed = omega arith
one-taken Unspelled = omega arith

-- what is taken, counted by the numbers of objects
pub taken-counted : {O : Type 0} (entries : List (Entry O)) (base count first taken : ℕ) → EntriesGood entries base count first taken → taken ≤ count_below (λ n. is_taken (entry_at entries n)) count
unfolding taken_count
taken-counted entries base count first taken good =
    let all = sum-list taken_one entries Unspelled (λ n. is_taken (entry_at entries n)) count (λ n below. one-taken (entry_at entries n)) (λ n low high. ap taken_one (good.unused n low high)) in
    omega (arith, good.number)

-- the places of a directory are whole
pub whole-row : (number : ℕ) (there : Row Inode) (row : Inode) → IsInodeRow number there → held there ≡ Some row → row.kind ≡ Dir → row.length % 32 ≡ 0
whole-row number FreeRow row right is dir = cc
whole-row number (Used inode) row right is dir = let same : inode ≡ row = cc in whole-kind row row.kind dir (rw (← same) right.of_kind)
  where
    whole-kind : (row : Inode) (kind : InodeKind) → kind ≡ Dir → IsOfKind kind row → row.length % 32 ≡ 0
    whole-kind row Dir dir right = right.whole_places
    whole-kind row File dir right = cc
    whole-kind row Pipe dir right = cc
    whole-kind row Console dir right = cc
whole-row number UnspelledRow row right is dir = absurd right

module _ (kernel : Kernel) (good : Accounted kernel) where
  abbrev first : ℕ
  first = first_page kernel.size

  taken-had : (n : ℕ) (entry : Entry PageOwner) → entry_at kernel.page_entries n ≡ entry → is_taken entry ≡ true → (slots-have kernel good (first + n) || inodes-have kernel good (first + n)) ≡ true
  taken-had n (Free next) e taken = untaken taken
  taken-had n (Taken owner count) e taken = owned-page kernel good n count owner e
  taken-had n Fixed e taken = untaken taken
  taken-had n Unspelled e taken = untaken taken

  pub slots-few : count_below (λ n. slots-have kernel good (first + n)) kernel.size ≤ sum_below (λ slot. process_pages (at (view (machine_of kernel)).processes slot)) 64
  unfolding slots-have view processes_in at machine_of
  slots-few =
      let all = count-any (λ slot n. slot-has (forest_of kernel).keys (domains kernel) (at (roots_by (fixed_rows kernel)) slot) (first + n)) kernel.size 64 in
      let each = sum-less (λ slot. count_below (λ n. slot-has (forest_of kernel).keys (domains kernel) (at (roots_by (fixed_rows kernel)) slot) (first + n)) kernel.size)
      (λ slot. process_pages (at (view (machine_of kernel)).processes slot)) 64
      (λ slot below. slot-few (machine_of kernel) first kernel.size slot (at (roots_by (fixed_rows kernel)) slot) (λ root there. good.machine.zombies slot root there)) in
      omega arith

  inodes-few : count_below (λ n. inodes-have kernel good (first + n)) kernel.size ≤ sum_below (λ number. inode_pages (at (view (machine_of kernel)).files.inodes number)) 1024
  unfolding inodes-have view inodes_in at machine_of inodes_of
  inodes-few =
      let all = count-any (λ number n. inode-has (forest_of kernel).keys (at (inodes_of kernel) number) (first + n)) kernel.size 1024 in
      let each = sum-less (λ number. count_below (λ n. inode-has (forest_of kernel).keys (at (inodes_of kernel) number) (first + n)) kernel.size)
      (λ number. inode_pages (at (view (machine_of kernel)).files.inodes number)) 1024
      (λ number below. inode-few (machine_of kernel) first kernel.size (at (inodes_of kernel) number) (λ row there. file-whole kernel good row.root)
      (λ row there. whole-row number (inode_at kernel number) row (good.inodes.right number below) there)) in
      omega arith

  -- where all that is taken is had by inodes, or else by what is so much less than slots are promised, so is less taken
  pub covered-by : (have : ℕ → Bool) (spare : ℕ) → ((n : ℕ) → n < kernel.size → is_taken (entry_at kernel.page_entries n) ≡ true → (have (first + n) || inodes-have kernel good (first + n)) ≡ true)
      → count_below (λ n. have (first + n)) kernel.size + spare ≤ sum_below (λ slot. process_pages (at (view (machine_of kernel)).processes slot)) 64
      → kernel.machine.pages_taken + spare ≤ promised (view (machine_of kernel))
  unfolding promised
  covered-by have spare has less =
      let counted = taken-counted kernel.page_entries first kernel.size kernel.machine.free_page kernel.machine.pages_taken good.bank.pages.entries_good in
      let covered = count-less (λ n. is_taken (entry_at kernel.page_entries n)) (λ n. have (first + n) || inodes-have kernel good (first + n)) kernel.size has in
      let both = count-or (λ n. have (first + n)) (λ n. inodes-have kernel good (first + n)) kernel.size in
      omega (arith, less, inodes-few)

  pub taken-has : (n : ℕ) → is_taken (entry_at kernel.page_entries n) ≡ true → (slots-have kernel good (first + n) || inodes-have kernel good (first + n)) ≡ true
  taken-has n taken = taken-had n (entry_at kernel.page_entries n) refl taken

  -- where slots have so much less than they are promised
  pub bounded-by : (spare : ℕ) → count_below (λ n. slots-have kernel good (first + n)) kernel.size + spare ≤ sum_below (λ slot. process_pages (at (view (machine_of kernel)).processes slot)) 64
      → kernel.machine.pages_taken + spare ≤ promised (view (machine_of kernel))
  bounded-by spare less = covered-by (slots-have kernel good) spare (λ n below taken. taken-has n taken) less

  -- where inodes have so much less than they are promised
  pub bounded-inodes : (spare : ℕ) → count_below (λ n. inodes-have kernel good (first + n)) kernel.size + spare ≤ sum_below (λ number. inode_pages (at (view (machine_of kernel)).files.inodes number)) 1024
      → kernel.machine.pages_taken + spare ≤ promised (view (machine_of kernel))
  unfolding promised
  bounded-inodes spare less =
      let counted = taken-counted kernel.page_entries first kernel.size kernel.machine.free_page kernel.machine.pages_taken good.bank.pages.entries_good in
      let covered = count-less (λ n. is_taken (entry_at kernel.page_entries n)) (λ n. slots-have kernel good (first + n) || inodes-have kernel good (first + n)) kernel.size (λ n below taken. taken-has n taken) in
      let both = count-or (λ n. slots-have kernel good (first + n)) (λ n. inodes-have kernel good (first + n)) kernel.size in
      omega (arith, slots-few, less)

pub pages_accounted : law.PagesAccounted
pages_accounted kernel good = let few = bounded-by kernel good 0 (let slots = slots-few kernel good in omega arith) in omega arith
