-- An inode without entries and opens isn't kept.
use Rattle.std.proofs.Common.{◌≡◌, ℕ, zero, suc, ◌+◌, ◌≤◌, Bool, true, false, Option, Some, None, List, [], ◌∷◌, refl, ap, sym, ◌∙◌, arith, ⊎_elim}
use Rattle.std.specs.Prelude.{cond}
use Rattle.std.specs.List.{count_by, list_any}
use Rattle.std.proofs.lemmas.Bool.{cases_Bool, le-ltb}
use Rattle.std.proofs.lemmas.List.Sums.{sum_by-cons}
use Rattle.kernel_tables.specs.declared.inode.Inode.{Inode as Row}
use Rattle.kernel_tables.specs.Kernel.{Kernel}
use Rattle.unix_model.specs.Files.{Inode, File, Directory, Pipe, Console, Entry, Files, description_names, directory_names, entry_names, is_kept, is_linked, is_open, links, places_of, with_inode_dropped}
use Rattle.unix_model.proofs.CountLaws.{one_if}
use Rattle.unix_model.specs.Tables.{at, with_at, any_below, count_below, sum_below}
use Rattle.kernel_machine.specs.Counts.{opens}
use Rattle.kernel_machine.specs.Machine.{machine_of}
use Rattle.kernel_machine.specs.View.{view}
use Rattle.file_domain.specs.Dropping.{IsUnnamed}

-- ---- what isn't counted isn't there

if-none : (b : Bool) → one_if b ≡ 0 → b ≡ false
if-none true e = absurd (omega arith)
if-none false e = refl

none-below : (test : ℕ → Bool) (limit : ℕ) → count_below test limit ≡ 0 → any_below test limit ≡ false
unfolding count_below any_below
none-below test zero none = refl
none-below test (suc n) none =
    let rest = none-below test n (omega arith) in
    let last = if-none (test n) (omega arith) in
    rw (rest, last) refl

none-summed : (f : ℕ → ℕ) (test : ℕ → Bool) (limit : ℕ) → ((n : ℕ) → f n ≡ 0 → test n ≡ false) → sum_below f limit ≡ 0 → any_below test limit ≡ false
unfolding sum_below any_below
none-summed f test zero each none = refl
none-summed f test (suc n) each none =
    let rest = none-summed f test n each (omega arith) in
    let last = each n (omega arith) in
    rw (rest, last) refl

count-cons : {X : Type 0} (test : X → Bool) (x : X) (xs : List X) → count_by test (x ∷ xs) ≡ cond {A = ℕ} (test x) 1 0 + count_by test xs
count-cons test x xs = sum_by-cons (λ y. cond {A = ℕ} (test y) 1 0) x xs

no-entry : (number : ℕ) (places : List (Option Entry)) → count_by (entry_names number) places ≡ 0 → list_any (entry_names number) places ≡ false
no-entry number [] none = refl
no-entry number (place ∷ places) none = ⊎_elim
    (λ (t : entry_names number place ≡ true).
    let one : cond {A = ℕ} (entry_names number place) 1 0 ≡ 1 = ap (λ b. cond {A = ℕ} b 1 0) t in
    absurd (omega (arith, count-cons (entry_names number) place places)))
    (λ (t : entry_names number place ≡ false).
    let rest = no-entry number places (omega (arith, count-cons (entry_names number) place places)) in
    rw (t, rest) refl)
    (cases_Bool (entry_names number place))

no-name : (number : ℕ) (inode : Option Inode) → count_by (entry_names number) (places_of inode) ≡ 0 → directory_names number inode ≡ false
no-name number (Some (Directory parent places)) none = no-entry number places none
no-name number (Some (File bytes)) none = refl
no-name number (Some (Pipe bytes)) none = refl
no-name number (Some Console) none = refl
no-name number None none = refl

-- ---- the inode

unlinked : (inodes : ℕ → Option Inode) (number : ℕ) → links inodes number ≡ 0 → is_linked inodes number ≡ false
unfolding links
unlinked inodes number none =
    none-summed (λ n. count_by (entry_names number) (places_of (at inodes n))) (λ n. directory_names number (at inodes n)) 1024 (λ n zero_here. no-name number (at inodes n) zero_here) (omega arith)

module _ (kernel : Kernel) (number : ℕ) (row : Row) (low : 2 ≤ number) (unnamed : IsUnnamed kernel number row) where
  files : Files
  files = (view (machine_of kernel)).files

  closed : is_open (view (machine_of kernel)).files.descriptions number ≡ false
  unfolding opens
  closed = none-below (λ n. description_names number (at (view (machine_of kernel)).files.descriptions n)) 2048 (sym unnamed.opens_counted ∙ unnamed.no_opens)

  unkept : is_kept (view (machine_of kernel)).files number ≡ false
  unkept =
      let none = unlinked (view (machine_of kernel)).files.inodes number (sym unnamed.entries_counted ∙ unnamed.no_entries) in
      rw (le-ltb number 2 low, none, closed) refl

  -- so it is dropped
  pub is_dropped : with_inode_dropped (view (machine_of kernel)).files number ≡ (let files : Files = record (view (machine_of kernel)).files { inodes = with_at (view (machine_of kernel)).files.inodes number None } in files)
  is_dropped = rw unkept refl
