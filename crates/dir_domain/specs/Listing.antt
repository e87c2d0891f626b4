-- Entries of a directory are listed (getdents, our own).
use Rattle.std.specs.Prelude.{◌≡◌, ◌⊎◌, ℕ, ◌+◌, ◌/◌, List, Option, length, take, drop}
use Rattle.kernel_tables.specs.Kernel.{Kernel, IsBankPage, memory_page}
use Rattle.unix_model.specs.FileCalls.{listed_bytes, looked_at}
use Rattle.unix_model.specs.Files.{Entry}
use Rattle.unix_model.specs.Limits.{place_bytes}
use Rattle.file_trees.specs.Trees.{tree_memory, tree_page}

-- The entries of places from one on were written, as many as fit, and nothing behind them has changed. The next place is the one
-- behind the last that was looked at.
pub record Lists (places : List (Option Entry)) (place : ℕ) (old new : List ℕ) (written next : ℕ) : Type 0 where
  pub bytes : take written new ≡ listed_bytes (length old / place_bytes) (drop place places)
  pub count : written ≡ length (listed_bytes (length old / place_bytes) (drop place places))
  pub rest : drop written new ≡ drop written old
  pub looked : next ≡ place + looked_at (length old / place_bytes) (drop place places)

-- The page at a page number of a tree, or page 0 where none is mapped.
pub record IsPageAt (kernel : Kernel) (root number page : ℕ) : Type 0 where
  pub bytes : memory_page kernel page ≡ tree_page (tree_memory kernel root) number
  pub inside : (page ≡ 0) ⊎ IsBankPage kernel.size page
