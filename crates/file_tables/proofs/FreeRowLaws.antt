-- What tells that a spelled row is free: the number of its kind, or its first byte.
use Rattle.std.proofs.Common.{◌≡◌, ◌≢◌, ℕ, ◌==◌, ◌+◌, ◌*◌, ◌/◌, ◌%◌, ◌<◌, Bool, true, false, Option, Some, None, List, drop, length, replicate, refl, ap, sym, subst, ◌∙◌, ⊎_elim, arith, if◌then◌else◌}
use Rattle.std.proofs.lemmas.Bool.{cases_Bool, cases_eq, eq-eqb, ne_eqb}
use Rattle.std.proofs.lemmas.Slice.Eq.{bytes_eq-Decides}
use Rattle.std.proofs.lemmas.List.{get_or-take, take-take}
use Rattle.std.specs.Prelude.{slice_index}
use Rattle.std.specs.Int.{from_le_bytes, w32}
use Rattle.std.specs.Str.{bytes_eq}
use Rattle.kn_base.specs.Rows.{part_at}
use Rattle.kn_base.specs.Memory.{Memory, page_at}
use Rattle.kn_base.proofs.RowLaws.{table_at-row}
use Rattle.kernel_tables.specs.declared.row.Row.{Row}
use Rattle.kernel_tables.specs.declared.row.Row.TheVariants.{Free, Used, Unspelled}
use Rattle.kernel_tables.specs.declared.inode.InodeKind.{InodeKind}
use Rattle.kernel_tables.specs.declared.inode.Inode.{Inode}
use Rattle.kernel_tables.specs.declared.description.Description.{Description}
use Rattle.kernel_tables.specs.Files.{row_word, inode_kind, inode_of_kind, inode_entry_of, description_entry_of, free_or_unspelled}
use Rattle.kernel_tables.specs.Kernel.{kernel_of, tables_of, first_page, Sized, inode_at, description_at}
use Rattle.file_tables.specs.Rows.{InodesGood, DescriptionsGood, IsInodeRow, IsDescriptionRow}
use Rattle.file_tables.specs.Numbers.{is_free_row}

-- zeros are free, if they are spelled, and other bytes are not
spelled_zeros : (X : Type 0) (bytes : List ℕ) (size : ℕ) → free_or_unspelled {X = X} bytes size ≢ Unspelled → is_free_row (free_or_unspelled {X = X} bytes size) ≡ true
spelled_zeros X bytes size spelled = ⊎_elim
    (λ (t : bytes_eq bytes (replicate size 0) ≡ true). ap (λ b. is_free_row {X = X} (if◌then◌else◌ {A = Row X} b Free Unspelled)) t)
    (λ (t : bytes_eq bytes (replicate size 0) ≡ false). absurd (spelled (ap (λ b. if◌then◌else◌ {A = Row X} b Free Unspelled) t)))
    (cases_Bool (bytes_eq bytes (replicate size 0)))

other_bytes : (X : Type 0) (bytes : List ℕ) (size : ℕ) → (bytes ≡ replicate size 0 → ⊥) → is_free_row (free_or_unspelled {X = X} bytes size) ≡ false
other_bytes X bytes size other = ⊎_elim
    (λ (t : bytes_eq bytes (replicate size 0) ≡ true). absurd (other ((bytes_eq-Decides bytes (replicate size 0)).0 t)))
    (λ (t : bytes_eq bytes (replicate size 0) ≡ false). ap (λ b. is_free_row {X = X} (if◌then◌else◌ {A = Row X} b Free Unspelled)) t)
    (cases_Bool (bytes_eq bytes (replicate size 0)))

used_row : {X : Type 0} (b : Bool) (x : X) → is_free_row (if b then Used x else Unspelled) ≡ false
used_row true x = refl
used_row false x = refl

kindless : (bytes : List ℕ) (kind : Option InodeKind) → kind ≡ None → inode_of_kind kind bytes ≢ Unspelled → is_free_row (inode_of_kind kind bytes) ≡ true
kindless bytes None e spelled = spelled_zeros Inode bytes 32 spelled
kindless bytes (Some kind) e spelled = cc

of_kind : (bytes : List ℕ) (kind : Option InodeKind) → row_word bytes 0 ≢ 0 → is_free_row (inode_of_kind kind bytes) ≡ false
of_kind bytes None other = other_bytes Inode bytes 32 (λ e. other (ap (λ b. row_word b 0) e))
of_kind bytes (Some kind) other = used_row (row_word bytes 28 == 0) _

free_by_kind : (bytes : List ℕ) → inode_entry_of bytes ≢ Unspelled → (row_word bytes 0 == 0) ≡ is_free_row (inode_entry_of bytes)
unfolding inode_entry_of
free_by_kind bytes spelled = ⊎_elim
    (λ (t : row_word bytes 0 ≡ 0). eq-eqb (row_word bytes 0) 0 t ∙ sym (kindless bytes (inode_kind (row_word bytes 0)) (ap inode_kind t) spelled))
    (λ (t : row_word bytes 0 ≢ 0). ne_eqb (row_word bytes 0) 0 t ∙ sym (of_kind bytes (inode_kind (row_word bytes 0)) t))
    (cases_eq (row_word bytes 0) 0)

used_or : (b : Bool) (description : Description) (bytes : List ℕ) → slice_index bytes 0 ≢ 0 → is_free_row (if b then Used description else free_or_unspelled bytes 16) ≡ false
used_or true description bytes other = refl
used_or false description bytes other = other_bytes Description bytes 16 (λ e. other (ap (λ b. slice_index b 0) e))

free_by_byte : (bytes : List ℕ) → description_entry_of bytes ≢ Unspelled → (slice_index bytes 0 == 0) ≡ is_free_row (description_entry_of bytes)
unfolding description_entry_of
free_by_byte bytes spelled = ⊎_elim
    (λ (t : slice_index bytes 0 ≡ 0).
    let no : (slice_index bytes 0 == 1) ≡ false = ne_eqb (slice_index bytes 0) 1 (λ e. absurd (omega arith)) in
    eq-eqb (slice_index bytes 0) 0 t ∙ sym (rw no (spelled_zeros Description bytes 16 (rw no at spelled))))
    (λ (t : slice_index bytes 0 ≢ 0). ne_eqb (slice_index bytes 0) 0 t ∙ sym (used_or _ _ bytes t))
    (cases_eq (slice_index bytes 0) 0)

inode_spelled : (number : ℕ) (row : Row Inode) → IsInodeRow number row → row ≢ Unspelled
inode_spelled number row right e = subst (IsInodeRow number) e right

description_spelled : (row : Row Description) → IsDescriptionRow row → row ≢ Unspelled
description_spelled row right e = subst IsDescriptionRow e right

-- the word of the kind in its page
pub free_inode_read : (memory : Memory) (number : ℕ) → Sized (kernel_of memory) → InodesGood (kernel_of memory).inodes → number < 1024
    → (from_le_bytes w32 (part_at (page_at memory (2 + number / 128)) (32 * (number % 128)) 4) == 0) ≡ is_free_row (inode_at (kernel_of memory) number)
unfolding kernel_of tables_of first_page
free_inode_read memory number sized good inside =
    let row : inode_at (kernel_of memory) number ≡ inode_entry_of (part_at (page_at memory (2 + number / 128)) (32 * (number % 128)) 32) =
    table_at-row inode_entry_of 32 128 2 8 memory.pages number Unspelled refl (omega arith) (omega (arith, sized.all_pages))
    in
    let head : part_at (page_at memory (2 + number / 128)) (32 * (number % 128)) 4 ≡ part_at (part_at (page_at memory (2 + number / 128)) (32 * (number % 128)) 32) 0 4 =
    sym (take-take 4 32 (drop (32 * (number % 128)) (page_at memory (2 + number / 128))) (omega arith))
    in
    ap (λ b. from_le_bytes w32 b == 0) head
    ∙ free_by_kind (part_at (page_at memory (2 + number / 128)) (32 * (number % 128)) 32) (subst (λ (r : Row Inode). r ≢ Unspelled) row (inode_spelled number (inode_at (kernel_of memory) number) (good.right number inside)))
    ∙ sym (ap is_free_row row)

-- the byte that tells whether a description is used
pub free_description_read : (memory : Memory) (number : ℕ) → Sized (kernel_of memory) → DescriptionsGood (kernel_of memory).descriptions → number < 2048
    → (slice_index (part_at (page_at memory (10 + number / 256)) (16 * (number % 256)) 1) 0 == 0) ≡ is_free_row (description_at (kernel_of memory) number)
unfolding kernel_of tables_of first_page
free_description_read memory number sized good inside =
    let row : description_at (kernel_of memory) number ≡ description_entry_of (part_at (page_at memory (10 + number / 256)) (16 * (number % 256)) 16) =
    table_at-row description_entry_of 16 256 10 8 memory.pages number Unspelled refl (omega arith) (omega (arith, sized.all_pages))
    in
    let head : slice_index (part_at (page_at memory (10 + number / 256)) (16 * (number % 256)) 1) 0 ≡ slice_index (part_at (page_at memory (10 + number / 256)) (16 * (number % 256)) 16) 0 =
    get_or-take 1 (drop (16 * (number % 256)) (page_at memory (10 + number / 256))) 0 0 (omega arith)
    ∙ sym (get_or-take 16 (drop (16 * (number % 256)) (page_at memory (10 + number / 256))) 0 0 (omega arith))
    in
    ap (λ b. b == 0) head
    ∙ free_by_byte (part_at (page_at memory (10 + number / 256)) (16 * (number % 256)) 16) (subst (λ (r : Row Description). r ≢ Unspelled) row (description_spelled (description_at (kernel_of memory) number) (good.right number inside)))
    ∙ sym (ap is_free_row row)

pub free_row : {X : Type 0} (row : Row X) → is_free_row row ≡ true → row ≡ Free
free_row Free e = refl
free_row (Used x) e = let no : false ≡ true = e in cc
free_row Unspelled e = let no : false ≡ true = e in cc

-- the pages of the tables of files are there
pub table_page : (memory : Memory) (page : ℕ) → Sized (kernel_of memory) → page < 18 → page < length memory.pages
unfolding kernel_of tables_of first_page
table_page memory page sized below = omega (arith, sized.all_pages)
