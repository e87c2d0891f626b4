-- The tables of files of a new machine.
use Rattle.std.proofs.Common.{◌≡◌, ◌≢◌, ℕ, suc, ◌+◌, ◌<◌, ◌≤◌, Bool, false, cond, List, [], ◌∷◌, length, get_or, refl, ap, sym, subst, ⊎_elim, arith}
use Rattle.std.proofs.Math.Path.{fun_ext}
use Rattle.std.proofs.lemmas.Bool.{cases_eq}
use Rattle.std.proofs.lemmas.List.Sums.{sum_by-cons}
use Rattle.std.specs.List.{count_by}
use Rattle.kernel_tables.specs.declared.row.Row.{Row}
use Rattle.kernel_tables.specs.declared.row.Row.TheVariants.{Free, Used, Unspelled}
use Rattle.kernel_tables.specs.declared.inode.InodeKind.TheVariants.{Dir, Console}
use Rattle.kernel_tables.specs.declared.inode.Inode.{Inode}
use Rattle.kernel_tables.specs.declared.description.Description.{Description}
use Rattle.kn_base.specs.declared.key.Key.TheVariants.{Null}
use Rattle.space_bank.specs.Fixed.{FreshFiles, console_inode, empty_root}
use Rattle.space_bank.specs.Shares.{key_names_page, key_names_node}
use Rattle.file_tables.specs.Rows.{IsInodeAt, IsInodeRow, IsDescriptionRow}
use Rattle.file_tables.specs.Roots.{root_key, page_roots, node_roots}
use Rattle.file_tables.specs.Laws.{FreshFilesAreGood, FreshFilesNameNothing}
use Rattle.file_tables.proofs.RootLaws.{same_counts}

console_right : IsInodeAt 0 console_inode
console_right = record {
  of_kind = record { no_length = refl; no_root = refl; no_parent = refl; no_start = refl };
  console = (λ e. refl, λ e. refl);
  root_kind = λ e. absurd (omega arith);
  root_parent = λ e. absurd (omega arith);
}

root_right : IsInodeAt 1 empty_root
root_right = record {
  of_kind = record { length = omega arith; whole_places = refl; parent = omega arith; no_start = refl };
  console = (λ e. let no : Dir ≡ Console = e in cc, λ e. absurd (omega arith));
  root_kind = λ e. refl;
  root_parent = λ e. refl;
}

-- what holds of the console, of the root, and of free rows, holds of each row
each_row : (P : ℕ → Row Inode → Type 0) (inodes : List (Row Inode)) (descriptions : List (Row Description)) → FreshFiles inodes descriptions
    → P 0 (Used console_inode) → P 1 (Used empty_root) → ((number : ℕ) → 2 ≤ number → P number Free)
    → (number : ℕ) → number < 1024 → P number (get_or inodes number Unspelled)
each_row P inodes descriptions fresh console root free number below = ⊎_elim
    (λ (t : number ≡ 0). subst (λ k. P k (get_or inodes k Unspelled)) (sym t) (subst (P 0) (sym fresh.console) console))
    (λ (t : number ≢ 0). ⊎_elim
    (λ (u : number ≡ 1). subst (λ k. P k (get_or inodes k Unspelled)) (sym u) (subst (P 1) (sym fresh.root) root))
    (λ (u : number ≢ 1).
    let low : 2 ≤ number = omega arith in
    subst (P number) (sym (fresh.free_inodes number low below)) (free number low))
    (cases_eq number 1))
    (cases_eq number 0)

pub fresh_good : FreshFilesAreGood
fresh_good inodes descriptions fresh = (
  record { right = each_row IsInodeRow inodes descriptions fresh console_right root_right (λ number low. low) },
  record { right = λ number below. subst IsDescriptionRow (sym (fresh.free_descriptions number below)) tt },
)

none_counted : {X : Type 0} (test : X → Bool) (d : X) (xs : List X) → ((n : ℕ) → n < length xs → test (get_or xs n d) ≡ false) → count_by test xs ≡ 0
none_counted test d [] none = refl
none_counted test d (x ∷ xs) none =
    let rest = none_counted test d xs (λ n inside. none (suc n) (omega arith)) in
    let here : cond {A = ℕ} (test x) 1 0 ≡ 0 = ap (λ b. cond {A = ℕ} b 1 0) (none 0 (omega arith)) in
    let both : count_by test (x ∷ xs) ≡ cond {A = ℕ} (test x) 1 0 + count_by test xs = sum_by-cons (λ y. cond {A = ℕ} (test y) 1 0) x xs in
    omega arith

pub fresh_nothing : FreshFilesNameNothing
unfolding page_roots node_roots
fresh_nothing inodes descriptions all fresh =
    let null : (number : ℕ) → number < length inodes → root_key (get_or inodes number Unspelled) ≡ Null =
    λ number inside. each_row (λ k row. root_key row ≡ Null) inodes descriptions fresh refl refl (λ k low. refl) number (omega arith)
    in
    same_counts
    (fun_ext (λ id. none_counted (λ row. key_names_page id (root_key row)) Unspelled inodes (λ n inside. ap (key_names_page id) (null n inside))))
    (fun_ext (λ id. none_counted (λ row. key_names_node id (root_key row)) Unspelled inodes (λ n inside. ap (key_names_node id) (null n inside))))
