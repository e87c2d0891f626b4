-- The promise of a file and its row are written: what stands then, and what is seen.
use Rattle.std.proofs.Common.{◌≡◌, ℕ, ◌<◌, length, slice_set, refl, ap, sym, subst, ◌∙◌, arith}
use Rattle.std.proofs.lemmas.List.{length-set, get_or-set_same}
use Rattle.kernel_tables.specs.declared.inode.Inode.{Inode}
use Rattle.kernel_tables.specs.declared.inode.InodeKind.{InodeKind}
use Rattle.kernel_tables.specs.declared.inode.InodeKind.TheVariants as kind
use Rattle.kernel_tables.specs.declared.row.Row.TheVariants.{Used, Unspelled}
use Rattle.kernel_tables.specs.Kernel.{Kernel, memory_page}
use Rattle.space_bank.specs.Bank.{BankGood}
use Rattle.file_tables.specs.Roots.{ExchangesRoots}
use Rattle.file_tables.specs.Rows.{InodesGood}
use Rattle.kernel_forest.specs.Owners.{page_owners}
use Rattle.kernel_forest.specs.Trees.{forest_of}
use Rattle.unix_model.specs.Files.{Inode as Seen, File, with_inode}
use Rattle.unix_model.specs.State.{Unix, with_files}
use Rattle.kernel_machine.specs.Machine.{machine_of}
use Rattle.kernel_machine.specs.Standing.{Standing}
use Rattle.kernel_machine.specs.Trees.{IsRootOf}
use Rattle.kernel_machine.specs.View.{view, inode_in, inode_by, stored, files_in, inodes_in, descriptions_in}
use Rattle.kernel_machine.proofs.SetLaws.{inode_set}
use Rattle.kernel_machine.proofs.StandingLaws.{standing_with_words, standing_with_inode}
use Rattle.file_trees.proofs.Promising.{promising}
use Rattle.file_domain.specs.Effects.{with_file}
use Rattle.file_domain.specs.Good.{IsFileAt}

-- the tables with another row of an inode
abbrev pub with_row : Kernel → ℕ → Inode → Kernel
with_row kernel number row = record kernel { inodes = slice_set kernel.inodes number (Used row) }

pub promise_stands : (kernel : Kernel) (pages : ℕ) → BankGood (promising kernel pages) → Standing kernel → Standing (promising kernel pages)
promise_stands kernel pages bank standing = standing_with_words kernel (promising kernel pages) kernel.machine.next_pid kernel.machine.position pages refl bank standing

-- what a row of a file is seen as
pub seen_row : (kernel : Kernel) (row : Inode) → row.kind ≡ kind.File → inode_in (machine_of kernel) row ≡ File (stored (machine_of kernel) row)
unfolding inode_in
seen_row kernel row is = ap (λ (k : InodeKind). let seen : Seen = inode_by (machine_of kernel) row k in seen) is

-- a row of a file is written that keeps its root
module _ (kernel : Kernel) (number : ℕ) (inode row : Inode) (all : length kernel.inodes ≡ 1024) (below : number < 1024) (file : IsFileAt kernel number inode) (is_file : row.kind ≡ kind.File) where
  pub row_there : IsFileAt (with_row kernel number row) number row
  row_there = record { there = get_or-set_same kernel.inodes number (Used row) Unspelled (omega arith); kind = is_file }

  pub row_all : length (with_row kernel number row).inodes ≡ 1024
  row_all = length-set kernel.inodes number (Used row) ∙ all

  pub row_seen : view (machine_of (with_row kernel number row)) ≡ with_file (view (machine_of kernel)) number (stored (machine_of kernel) row)
  unfolding view inodes_in descriptions_in
  row_seen = inode_set kernel (with_row kernel number row) number row (omega arith) refl
      ∙ ap (λ (seen : Seen). machine_with seen) (seen_row kernel row is_file)
    where
      machine_with : Seen → Unix
      machine_with seen = with_files (view (machine_of kernel)) (with_inode (files_in (machine_of kernel)) number seen)

  pub row_stands : row.root ≡ inode.root → ExchangesRoots kernel (with_row kernel number row) number (Used row) → InodesGood (with_row kernel number row).inodes
      → IsRootOf (forest_of kernel) (memory_page kernel) (page_owners kernel) row kind.File → Standing kernel → Standing (with_row kernel number row)
  row_stands same exchanges good root standing =
      standing_with_inode kernel (with_row kernel number row) number inode row (omega arith) file.there refl exchanges good (is_file ∙ sym file.kind) same
      (subst (IsRootOf (forest_of kernel) (memory_page kernel) (page_owners kernel) row) (sym is_file) root) standing
