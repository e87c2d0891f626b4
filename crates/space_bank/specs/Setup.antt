-- The tables of an empty bank.
use Rattle.std.specs.Prelude.{ℕ, ◌+◌, ◌*◌, ◌-◌, zero, suc, Option, Some, List, ◌++◌, map, replicate, slice_set}
use Rattle.std.specs.List.{range_with_len}
use Rattle.kn_base.specs.declared.key.Key.{Key}
use Rattle.kn_base.specs.declared.key.Key.TheVariants.{Null, Service}
use Rattle.kernel_tables.specs.declared.entry.Entry.{Entry}
use Rattle.kernel_tables.specs.declared.entry.Entry.TheVariants.{Free, Fixed}
use Rattle.kernel_tables.specs.Kernel.{Kernel, zero_kernel, first_page, entry_pages, node_count, inode_count}
use Rattle.kernel_tables.specs.declared.row.Row.TheVariants.{Used, Free as FreeRow}
use Rattle.space_bank.specs.Fixed.{state_key, console_inode, empty_root}
use Rattle.space_bank.specs.FreeList.{following}

-- the entries of n objects from entry `start` on, each free and naming the next one
unfoldable pub free_entries : {O : Type 0} → ℕ → ℕ → ℕ → ℕ → List (Entry O)
free_entries base count start n = map (λ k. Free (following base count k)) (range_with_len start n)

-- the keys of a store in which a node is the root of the service of its number: key 0 names the service, and key 6 says
-- that it is available and has made no call
abbrev pub with_service_root : List (Option Key) → ℕ → List (Option Key)
with_service_root keys service =
    slice_set (slice_set keys (16 * service) (Some (Service service))) (16 * service + 6) (Some (state_key 0 0))

-- likewise of the services 1 to n
unfoldable pub with_service_roots : List (Option Key) → ℕ → List (Option Key)
with_service_roots keys zero = keys
with_service_roots keys (suc n) = with_service_root (with_service_roots keys n) (n + 1)

-- the entries of so many objects of which the first are fixed and the others free, each naming the next one, and rows of
-- zeros behind them
unfoldable pub empty_entries : {O : Type 0} → ℕ → ℕ → ℕ → List (Entry O)
empty_entries base count fixed =
    replicate fixed Fixed ++ (free_entries base count fixed (count - fixed) ++ replicate (512 * entry_pages count - count) (Free 0))

-- the tables of an empty bank of so many pages: inodes 0 and 1 are the console and the empty root, all pages and all
-- nodes but 0 to 14 are free, nodes 1 to 6 are the roots of the services, the next process id is 1, and all else is zero
unfoldable pub empty_bank : ℕ → ℕ → Kernel
empty_bank size quantum = record (zero_kernel size) {
  machine = record {
    size = size;
    quantum = quantum;
    position = 0;
    next_pid = 1;
    promised = 0;
    free_page = first_page size;
    free_node = 15;
    memory_taken = 0;
    pages_taken = 0;
    nodes_taken = 0;
  };
  inodes = slice_set (slice_set (replicate inode_count FreeRow) 0 (Used console_inode)) 1 (Used empty_root);
  page_entries = empty_entries (first_page size) size 0;
  node_entries = empty_entries 0 (node_count size) 15;
  keys = with_service_roots (replicate (16 * node_count size) (Some Null)) 6;
}
