-- The bytes of a file by the pages of its memory, and how they change with these.
use Rattle.std.proofs.Common.{◌≡◌, ◌≢◌, ℕ, ◌+◌, ◌-◌, ◌/◌, ◌%◌, ◌<◌, ◌≤◌, true, Some, None, List, ◌++◌, length, take, replicate, get_or, ap, sym, ◌∙◌, arith, ⊎_elim, ◌⊎◌, inl, inr, take_all}
use Rattle.std.proofs.lemmas.Bool.{cases_eq, cases_lt}
use Rattle.std.proofs.lemmas.Grind.{same_number_lists}
use Rattle.std.proofs.lemmas.List.{length-append, length-replicate, get_or_append_left, get_or-append_right, get_or-replicate}
use Rattle.kn_base.specs.Memory.{zero_page}
use Rattle.kn_base.specs.Rows.{overwritten}
use Rattle.kn_base.proofs.RowLaws.{length-overwritten, get_or-overwritten_in, get_or-overwritten_below, get_or-overwritten_above}
use Rattle.unix_model.specs.FileCalls.{resized}
use Rattle.unix_model.specs.Memory.{Memory, Page}
use Rattle.unix_model.specs.Tables.{at}
use Rattle.unix_model.proofs.TableLaws.{at-with_at, at-with_at-other}
use Rattle.kernel_machine.specs.Contents.{file_in, mapped_bytes}
use Rattle.kernel_machine.proofs.PagesHeld.{file-long}
use Rattle.file_trees.specs.Trees.{tree_page}
use Rattle.file_trees.specs.Pieces.{with_piece}
use Rattle.file_trees.specs.FileMemory.{byte_in, IsFileMemory}
use Rattle.file_trees.proofs.Contents.{WholeTree, file_get}

pub zero_get : (i : ℕ) → i < 4096 → get_or zero_page i 0 ≡ 0
unfolding zero_page
zero_get i below = get_or-replicate 4096 i 0 0 below

-- ---- growth

pub file_grown : (memory : Memory) (size more : ℕ) → WholeTree memory → IsFileMemory memory size → size ≤ more → file_in memory more ≡ resized (file_in memory size) more
unfolding resized
file_grown memory size more whole is order =
    let long : length (file_in memory more) ≡ more = file-long memory whole more in
    let short : length (file_in memory size) ≡ size = file-long memory whole size in
    let front : take more (file_in memory size) ≡ file_in memory size = take_all more (file_in memory size) (omega arith) in
    let all : length (file_in memory size ++ replicate (more - size) 0) ≡ more = omega (arith, length-append (file_in memory size) (replicate (more - size) 0), length-replicate {A = ℕ} (more - size) 0) in
    same_number_lists (file_in memory more) (file_in memory size ++ replicate (more - size) 0) (long ∙ sym all)
    (λ k below. ⊎_elim
    (λ (t : k < size).
    file_get memory whole more k 0 (omega arith)
    ∙ sym (get_or_append_left (file_in memory size) (replicate (more - size) 0) 0 k (omega arith) ∙ file_get memory whole size k 0 t))
    (λ (t : size ≤ k).
    file_get memory whole more k 0 (omega arith) ∙ is.zeros k t
    ∙ sym (get_or-append_right (file_in memory size) (replicate (more - size) 0) size k 0 short t ∙ get_or-replicate (more - size) (k - size) 0 0 (omega arith)))
    (cases_lt k size))
    ∙ ap (λ bytes. bytes ++ replicate (more - size) 0) (sym front)
    ∙ ap (λ n. take more (file_in memory size) ++ replicate (more - n) 0) (sym short)

pub memory_grown : (memory : Memory) (size more : ℕ) → IsFileMemory memory size → size ≤ more → IsFileMemory memory more
memory_grown memory size more is order = record {
  within = λ number page there. let low = is.within number page there in omega arith;
  writable = is.writable;
  zeros = λ i past. is.zeros i (omega arith);
}

-- a memory without pages is one of any length
pub memory_empty : (memory : Memory) → ((number : ℕ) → at memory number ≡ None) → (size : ℕ) → IsFileMemory memory size
memory_empty memory none size = record {
  within = λ number page there. let no : None ≡ Some page = sym (none number) ∙ there in cc;
  writable = λ number page there. let no : None ≡ Some page = sym (none number) ∙ there in cc;
  zeros = λ i past. ap (λ page. get_or (mapped_bytes page) (i % 4096) 0) (none (i / 4096)) ∙ zero_get (i % 4096) (omega arith);
}

-- ---- a piece is put

module _ (memory : Memory) (size place : ℕ) (bytes : List ℕ) (whole : WholeTree memory) (inside : place % 4096 + length bytes ≤ 4096) (within : place + length bytes ≤ size) where
  abbrev page_now : List ℕ
  page_now = overwritten (tree_page memory (place / 4096)) (place % 4096) bytes

  put_page : (number : ℕ) → number ≡ place / 4096 → tree_page (with_piece memory place bytes) number ≡ page_now
  put_page number t =
      ap (tree_page (with_piece memory place bytes)) t ∙ ap mapped_bytes (at-with_at memory (place / 4096) (Some (record { writable = true; bytes = page_now })))

  put_other : (number : ℕ) → number ≢ place / 4096 → tree_page (with_piece memory place bytes) number ≡ tree_page memory number
  put_other number t = ap mapped_bytes (at-with_at-other memory (place / 4096) number (Some (record { writable = true; bytes = page_now })) t)

  fits : place % 4096 + length bytes ≤ length (tree_page memory (place / 4096))
  fits = let long = whole (place / 4096) in omega arith

  pub put_whole : WholeTree (with_piece memory place bytes)
  put_whole number = ⊎_elim
      (λ (t : number ≡ place / 4096). ap length (put_page number t) ∙ length-overwritten (tree_page memory (place / 4096)) (place % 4096) bytes fits ∙ whole (place / 4096))
      (λ (t : number ≡ place / 4096 → ⊥). ap length (put_other number t) ∙ whole number)
      (cases_eq number (place / 4096))

  pub put_in : (i : ℕ) → place ≤ i → i < place + length bytes → byte_in (with_piece memory place bytes) i ≡ get_or bytes (i - place) 0
  put_in i low high =
      let number : i / 4096 ≡ place / 4096 = omega arith in
      let back : i % 4096 - place % 4096 ≡ i - place = omega arith in
      ap (λ page. get_or page (i % 4096) 0) (put_page (i / 4096) number)
      ∙ get_or-overwritten_in (tree_page memory (place / 4096)) (place % 4096) bytes (i % 4096) 0 fits (omega arith) (omega arith)
      ∙ ap (λ k. get_or bytes k 0) back

  pub put_out : (i : ℕ) → (i < place) ⊎ (place + length bytes ≤ i) → byte_in (with_piece memory place bytes) i ≡ byte_in memory i
  put_out i apart = ⊎_elim
      (λ (t : i / 4096 ≡ place / 4096).
      ap (λ page. get_or page (i % 4096) 0) (put_page (i / 4096) t)
      ∙ ⊎_elim
      (λ (low : i < place). get_or-overwritten_below (tree_page memory (place / 4096)) (place % 4096) bytes (i % 4096) 0 fits (omega arith))
      (λ (high : place + length bytes ≤ i). get_or-overwritten_above (tree_page memory (place / 4096)) (place % 4096) bytes (i % 4096) 0 fits (omega arith))
      apart
      ∙ ap (λ number. get_or (tree_page memory number) (i % 4096) 0) (sym t))
      (λ (t : i / 4096 ≡ place / 4096 → ⊥). ap (λ page. get_or page (i % 4096) 0) (put_other (i / 4096) t))
      (cases_eq (i / 4096) (place / 4096))

  pub file_put : file_in (with_piece memory place bytes) size ≡ overwritten (file_in memory size) place bytes
  file_put =
      let long : length (file_in (with_piece memory place bytes) size) ≡ size = file-long (with_piece memory place bytes) put_whole size in
      let was : length (file_in memory size) ≡ size = file-long memory whole size in
      let room : place + length bytes ≤ length (file_in memory size) = omega arith in
      same_number_lists (file_in (with_piece memory place bytes) size) (overwritten (file_in memory size) place bytes)
      (long ∙ sym (length-overwritten (file_in memory size) place bytes room ∙ was))
      (λ k below.
      let under : k < size = omega arith in
      file_get (with_piece memory place bytes) put_whole size k 0 under ∙ ⊎_elim
      (λ (low : k < place). put_out k (inl low) ∙ sym (get_or-overwritten_below (file_in memory size) place bytes k 0 room low ∙ file_get memory whole size k 0 under))
      (λ (up : place ≤ k). ⊎_elim
      (λ (mid : k < place + length bytes). put_in k up mid ∙ sym (get_or-overwritten_in (file_in memory size) place bytes k 0 room up mid))
      (λ (high : place + length bytes ≤ k). put_out k (inr high) ∙ sym (get_or-overwritten_above (file_in memory size) place bytes k 0 room high ∙ file_get memory whole size k 0 under))
      (cases_lt k (place + length bytes)))
      (cases_lt k place))

  pub memory_put : 0 < length bytes → IsFileMemory memory size → IsFileMemory (with_piece memory place bytes) size
  memory_put some is = record {
    within = λ number page there. ⊎_elim
        (λ (t : number ≡ place / 4096). omega arith)
        (λ (t : number ≡ place / 4096 → ⊥). is.within number page (sym (at-with_at-other memory (place / 4096) number (Some (record { writable = true; bytes = page_now })) t) ∙ there))
        (cases_eq number (place / 4096));
    writable = λ number page there. ⊎_elim
        (λ (t : number ≡ place / 4096).
        let same : Some page ≡ Some (record { writable = true; bytes = page_now }) = sym there ∙ ap (at (with_piece memory place bytes)) t ∙ at-with_at memory (place / 4096) (Some (record { writable = true; bytes = page_now })) in
        let it : page ≡ record { writable = true; bytes = page_now } = cc in
        ap (λ (p : Page). p.writable) it)
        (λ (t : number ≡ place / 4096 → ⊥). is.writable number page (sym (at-with_at-other memory (place / 4096) number (Some (record { writable = true; bytes = page_now })) t) ∙ there))
        (cases_eq number (place / 4096));
    zeros = λ i past. put_out i (inr (omega arith)) ∙ is.zeros i past;
  }
