-- What the bank keeps of a store: sizes and ranges, exact free lists, the numbers of what is taken, zeros in all that
-- is free, and share counts.
use Rattle.std.specs.Prelude.{◌≡◌, ◌≢◌, ℕ, ◌+◌, ◌-◌, ◌*◌, ◌<◌, ◌≤◌, ◌^◌, ◌==◌, true, false, Option, Some, None, IsSome, List, [], length, slice_index_or, slice_set, replicate, if◌then◌else◌}
use Rattle.std.specs.List.{sum_by}
use Rattle.kn_base.specs.declared.key.Key.{Key}
use Rattle.kn_base.specs.declared.key.Key.TheVariants.{Null}
use Rattle.kn_base.specs.Rows.{overwritten}
use Rattle.kn_base.specs.Memory.{zero_page}
use Rattle.kernel_tables.specs.declared.entry.PageOwner.{PageOwner}
use Rattle.kernel_tables.specs.declared.entry.PageOwner.TheVariants.{Memory, File, Directory, Pipe, Buffer}
use Rattle.kernel_tables.specs.declared.entry.NodeOwner.{NodeOwner}
use Rattle.kernel_tables.specs.declared.entry.Entry.{Entry}
use Rattle.kernel_tables.specs.declared.entry.Entry.TheVariants.{Free, Taken, Fixed, Unspelled}
use Rattle.kernel_tables.specs.declared.machine.Machine.{Machine}
use Rattle.kernel_tables.specs.Kernel.{Kernel, IsSized, first_page, entry_pages}
use Rattle.kernel_tables.specs.Rows.{entry_at}
use Rattle.space_bank.specs.FreeList.{is_free, next_of, shares, taken_one, is_free_at, IsFreeList, taken_count}

-- The entries of `count` objects, of which the first has the number `base`: each is spelled, the free ones form the list
-- that begins with `first`, `taken` of them are taken, each of these is named at least once, and rows behind them are
-- zero.
pub record EntriesGood {O : Type 0} (entries : List (Entry O)) (base count first taken : ℕ) : Type 0 where
  pub rows : length entries ≡ 512 * entry_pages count
  pub spelled : (n : ℕ) → n < count → entry_at entries n ≢ Unspelled
  pub free : IsFreeList entries base count first
  pub number : taken ≡ taken_count entries
  pub named : (n : ℕ) → taken_one (entry_at entries n) ≤ shares (entry_at entries n)
  pub unused : (n : ℕ) → count ≤ n → n < length entries → entry_at entries n ≡ Free 0

-- 1 for the owner of pages of memory
abbrev pub memory_one : PageOwner → ℕ
memory_one Memory = 1
memory_one File = 0
memory_one Directory = 0
memory_one Pipe = 0
memory_one Buffer = 0

abbrev pub memory_taken_one : Entry PageOwner → ℕ
memory_taken_one (Free next) = 0
memory_taken_one (Taken owner count) = memory_one owner
memory_taken_one Fixed = 0
memory_taken_one Unspelled = 0

-- how many pages are taken for memory
unfoldable pub memory_count : List (Entry PageOwner) → ℕ
memory_count entries = sum_by memory_taken_one entries

-- The pages of the bank: their entries, none of which is fixed, the number of those that are memory, and zeros in each free
-- page.
pub record PagesGood (size : ℕ) (entries : List (Entry PageOwner)) (first taken memory : ℕ) (bank : List (List ℕ)) : Type 0 where
  pub entries_good : EntriesGood entries (first_page size) size first taken
  pub none_fixed : (n : ℕ) → n < size → entry_at entries n ≢ Fixed
  pub memory_number : memory ≡ memory_count entries
  pub pages : length bank ≡ size
  pub zeros : (n : ℕ) → is_free_at size entries n ≡ true → slice_index_or bank n [] ≡ zero_page

-- the bytes at each place of a node spell a key
abbrev pub AllSpelled : List (Option Key) → Type 0
AllSpelled keys = (place : ℕ) → place < length keys → IsSome (slice_index_or keys place None)

-- The nodes: their entries, of which those of nodes 0 to 14 and no others are fixed, keys that are spelled, and Null keys in
-- each free node.
pub record NodesGood (nodes : ℕ) (entries : List (Entry NodeOwner)) (first taken : ℕ) (keys : List (Option Key)) : Type 0 where
  pub entries_good : EntriesGood entries 0 nodes first taken
  pub fixed : (n : ℕ) → n < 15 → entry_at entries n ≡ Fixed
  pub others : (n : ℕ) → 15 ≤ n → n < nodes → entry_at entries n ≢ Fixed
  pub all_keys : length keys ≡ 16 * nodes
  pub spelled : AllSpelled keys
  pub nulls : (n k : ℕ) → is_free_at nodes entries n ≡ true → k < 16 → slice_index_or keys (16 * n + k) None ≡ Some Null

-- The ranges of the machine's words: the bank's size, the quantum, the position in the round, the next process id, and
-- the promised pages.
pub record WordsGood (size bank_size quantum position next_pid promised : ℕ) : Type 0 where
  pub same_size : bank_size ≡ size
  pub least_quantum : 1 ≤ quantum
  pub most_quantum : quantum ≤ 10000
  pub in_round : position < 64 * quantum
  pub most_pid : next_pid ≤ 2 ^ 31
  pub promises : promised ≤ size

-- All that the bank keeps.
pub record BankGood (kernel : Kernel) : Type 0 where
  pub sized : IsSized kernel.size kernel.pages kernel.nodes
  pub words : WordsGood kernel.size kernel.machine.size kernel.machine.quantum kernel.machine.position kernel.machine.next_pid kernel.machine.promised
  pub pages : PagesGood kernel.size kernel.page_entries kernel.machine.free_page kernel.machine.pages_taken kernel.machine.memory_taken kernel.bank
  pub nodes : NodesGood kernel.nodes kernel.node_entries kernel.machine.free_node kernel.machine.nodes_taken kernel.keys

-- no object is free
abbrev pub NoneFree : {O : Type 0} → List (Entry O) → ℕ → Type 0
NoneFree entries count = (n : ℕ) → n < count → is_free (entry_at entries n) ≡ false

-- entry n is that of the first free object
pub record IsFirstFree {O : Type 0} (entries : List (Entry O)) (base count first n : ℕ) : Type 0 where
  pub number : base + n ≡ first
  pub inside : n < count
  pub some : 0 < base + n
  pub free : is_free (entry_at entries n) ≡ true

-- A free page is taken: it is zero, its share count is 1, and the numbers of what is taken grow. Which page is free next
-- isn't said.
pub record TakesPage (old new : Kernel) (page : ℕ) (owner : PageOwner) : Type 0 where
  pub low : first_page old.size ≤ page
  pub high : page < first_page old.size + old.size
  pub was_free : is_free (entry_at old.page_entries (page - first_page old.size)) ≡ true
  pub zero : slice_index_or new.bank (page - first_page old.size) [] ≡ zero_page
  pub state :
      new
      ≡ record old {
        machine = record old.machine { free_page = new.machine.free_page; memory_taken = old.machine.memory_taken + memory_one owner; pages_taken = old.machine.pages_taken + 1 };
        page_entries = slice_set old.page_entries (page - first_page old.size) (Taken owner 1);
      }

-- the tables after the page of entry n was taken
abbrev pub page_taken : Kernel → ℕ → PageOwner → Kernel
page_taken kernel n owner = record kernel {
  machine = record kernel.machine { free_page = next_of (entry_at kernel.page_entries n); memory_taken = kernel.machine.memory_taken + memory_one owner; pages_taken = kernel.machine.pages_taken + 1 };
  page_entries = slice_set kernel.page_entries n (Taken owner 1);
}

-- entry n is that of an object that is taken and named once
abbrev pub IsTakenOnce : {O : Type 0} → Entry O → Type 0
IsTakenOnce (Free next) = ⊥
IsTakenOnce (Taken owner count) = count ≡ 1
IsTakenOnce Fixed = ⊥
IsTakenOnce Unspelled = ⊥

-- the tables after the page of entry n was given back: it is zero and the first of the free list, and the numbers of
-- what is taken fall
abbrev pub page_given : Kernel → ℕ → Kernel
page_given kernel n = record kernel {
  machine = record kernel.machine { free_page = first_page kernel.size + n; memory_taken = kernel.machine.memory_taken - memory_taken_one (entry_at kernel.page_entries n); pages_taken = kernel.machine.pages_taken - 1 };
  page_entries = slice_set kernel.page_entries n (Free kernel.machine.free_page);
  bank = slice_set kernel.bank n zero_page;
}

-- the tables after node n was taken, and after it was given back
abbrev pub node_taken : Kernel → ℕ → NodeOwner → Kernel
node_taken kernel n owner = record kernel {
  machine = record kernel.machine { free_node = next_of (entry_at kernel.node_entries n); nodes_taken = kernel.machine.nodes_taken + 1 };
  node_entries = slice_set kernel.node_entries n (Taken owner 1);
}

abbrev pub node_given : Kernel → ℕ → Kernel
node_given kernel n = record kernel {
  machine = record kernel.machine { free_node = n; nodes_taken = kernel.machine.nodes_taken - 1 };
  node_entries = slice_set kernel.node_entries n (Free kernel.machine.free_node);
  keys = overwritten kernel.keys (16 * n) (replicate 16 (Some Null));
}

-- A free node is taken: it holds Null keys, its share count is 1, and the number of taken nodes grows. Which node is free
-- next isn't said.
pub record TakesNode (old new : Kernel) (node : ℕ) (owner : NodeOwner) : Type 0 where
  pub low : 15 ≤ node
  pub high : node < old.nodes
  pub was_free : is_free (entry_at old.node_entries node) ≡ true
  pub nulls : (place : ℕ) → place < 16 → slice_index_or new.keys (16 * node + place) None ≡ Some Null
  pub state :
      new
      ≡ record old {
        machine = record old.machine { free_node = new.machine.free_node; nodes_taken = old.machine.nodes_taken + 1 };
        node_entries = slice_set old.node_entries node (Taken owner 1);
      }

-- a word of the machine page by its place: the bank's size at 0, the quantum at 4, the position at 8, the next process
-- id at 12
abbrev pub word_at : Machine → ℕ → ℕ
word_at machine at =
    if at == 0 then machine.size else if at == 4 then machine.quantum else if at == 8 then machine.position else machine.next_pid

-- the machine page with another position (at 8) or next process id (at 12)
abbrev pub with_word_at : Machine → ℕ → ℕ → Machine
with_word_at machine at value = record machine {
  position = if at == 8 then value else machine.position;
  next_pid = if at == 12 then value else machine.next_pid;
}
