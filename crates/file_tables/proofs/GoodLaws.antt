-- What is written keeps the table of inodes good.
use Rattle.std.proofs.Common.{◌≡◌, ◌≢◌, ℕ, ◌<◌, ◌≤◌, List, length, set, get_or, refl, sym, subst, ⊎_elim, arith}
use Rattle.std.proofs.lemmas.List.{get_or-set_same, get_or-set_other}
use Rattle.std.proofs.lemmas.Bool.{cases_eq}
use Rattle.kernel_tables.specs.declared.row.Row.{Row}
use Rattle.kernel_tables.specs.declared.row.Row.TheVariants.{Unspelled}
use Rattle.kernel_tables.specs.declared.inode.InodeKind.{InodeKind}
use Rattle.kernel_tables.specs.declared.inode.InodeKind.TheVariants.{File, Dir, Pipe, Console}
use Rattle.kernel_tables.specs.declared.inode.Inode.{Inode}
use Rattle.kernel_tables.specs.Kernel.{Kernel}
use Rattle.file_tables.specs.Rows.{IsOfKind, IsInodeAt, IsInodeRow, InodesGood}
use Rattle.file_tables.specs.Numbers.{fresh_inode}

-- a new inode that isn't the console is right at each number from 2 on
pub fresh_right : (kind : InodeKind) (number : ℕ) → kind ≢ Console → 2 ≤ number → IsInodeAt number (fresh_inode kind)
fresh_right kind number other low = record {
  of_kind = of kind other;
  console = (λ e. absurd (other e), λ e. absurd (omega arith));
  root_kind = λ e. absurd (omega arith);
  root_parent = λ e. absurd (omega arith);
}
  where
    of : (kind : InodeKind) → kind ≢ Console → IsOfKind kind (fresh_inode kind)
    of File other = record { length = omega arith; no_parent = refl; no_start = refl }
    of Dir other = record { length = omega arith; whole_places = refl; parent = omega arith; no_start = refl }
    of Pipe other = record { length = omega arith; start = omega arith; no_parent = refl }
    of Console other = absurd (other refl)

-- a right row is written
inodes_good-set : (inodes : List (Row Inode)) (number : ℕ) (row : Row Inode) → length inodes ≡ 1024 → number < 1024 → IsInodeRow number row → InodesGood inodes → InodesGood (set inodes number row)
inodes_good-set inodes number row all inside right good = record {
  right = λ other below. ⊎_elim
      (λ (t : number ≡ other).
      subst (λ k. IsInodeRow k (get_or (set inodes number row) k Unspelled)) t
      (subst (IsInodeRow number) (sym (get_or-set_same inodes number row Unspelled (omega arith))) right))
      (λ (t : number ≢ other).
      subst (IsInodeRow other) (sym (get_or-set_other inodes number other row Unspelled (λ e. t (sym e)))) (good.right other below))
      (cases_eq number other);
}

pub inodes_good-written : (old new : Kernel) (number : ℕ) (row : Row Inode) → new ≡ record old { inodes = set old.inodes number row } → length old.inodes ≡ 1024 → number < 1024
    → IsInodeRow number row → InodesGood old.inodes → InodesGood new.inodes
inodes_good-written old new number row e all inside right good =
    subst (λ (kernel : Kernel). InodesGood kernel.inodes) (sym e) (inodes_good-set old.inodes number row all inside right good)
