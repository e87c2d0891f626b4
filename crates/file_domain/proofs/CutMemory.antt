-- The memory of a file that is cut at a length: the bytes before it are as they were, and all behind it are zero.
use Rattle.std.proofs.Common.{◌≡◌, ◌≢◌, ℕ, ◌-◌, ◌/◌, ◌%◌, ◌<◌, ◌≤◌, Option, Some, None, ◌++◌, length, take, replicate, get_or, refl, ap, sym, ◌∙◌, arith, ⊎_elim}
use Rattle.std.specs.Prelude.{option_map}
use Rattle.std.proofs.lemmas.Bool.{cases_eq, cases_lt, eq-eqb, ne_eqb, lt-ltb, le-ltb, le-leb, lt-leb}
use Rattle.std.proofs.lemmas.Grind.{same_number_lists}
use Rattle.std.proofs.lemmas.List.{append-nil, length-replicate, length-take-le, get_or-replicate, get_or-take}
use Rattle.kn_base.proofs.RowLaws.{length-overwritten, get_or-overwritten_in, get_or-overwritten_below}
use Rattle.unix_model.specs.FileCalls.{resized}
use Rattle.unix_model.specs.Memory.{Memory, Page}
use Rattle.unix_model.specs.Numbers.{pages_of}
use Rattle.unix_model.specs.Tables.{at, with_at}
use Rattle.unix_model.proofs.TableLaws.{at-with_at, at-with_at-other}
use Rattle.kernel_machine.specs.Contents.{file_in, mapped_bytes}
use Rattle.kernel_machine.proofs.PagesHeld.{file-long}
use Rattle.file_trees.specs.Cuts.{without_pages, cleared}
use Rattle.file_trees.specs.FileMemory.{byte_in, IsFileMemory}
use Rattle.file_trees.specs.Trees.{tree_page}
use Rattle.file_trees.proofs.Contents.{WholeTree, file_get}
use Rattle.file_trees.proofs.FileMemory.{zero_get}
use Rattle.file_trees.proofs.Pages.{zero_long}
use Rattle.file_domain.specs.Cutting.{without_rest}

-- ---- pages are taken out

pub before_cut : (memory : Memory) (first next number : ℕ) → number < first → at (without_pages memory first next) number ≡ at memory number
unfolding without_pages at
before_cut memory first next number low = rw (lt-leb first number low) refl

in_cut : (memory : Memory) (first next number : ℕ) → first ≤ number → number < next → at (without_pages memory first next) number ≡ None
unfolding without_pages at
in_cut memory first next number low high = rw (le-leb first number low, lt-ltb number next high) refl

behind_cut : (memory : Memory) (first next number : ℕ) → first ≤ number → next ≤ number → at (without_pages memory first next) number ≡ at memory number
unfolding without_pages at
behind_cut memory first next number low high = rw (le-leb first number low, le-ltb number next high) refl

-- a page that is there was there
still_there : (memory : Memory) (first next number : ℕ) (page : Page) → at (without_pages memory first next) number ≡ Some page → at memory number ≡ Some page
still_there memory first next number page there = ⊎_elim
    (λ (low : number < first). sym (before_cut memory first next number low) ∙ there)
    (λ (up : first ≤ number). ⊎_elim
    (λ (cut : number < next). let no : None ≡ Some page = sym (in_cut memory first next number up cut) ∙ there in cc)
    (λ (behind : next ≤ number). sym (behind_cut memory first next number up behind) ∙ there)
    (cases_lt number next))
    (cases_lt number first)

module _ (memory : Memory) (first next : ℕ) (whole : WholeTree memory) where
  pub cut_whole : WholeTree (without_pages memory first next)
  cut_whole number = ⊎_elim
      (λ (low : number < first). ap (λ page. length (mapped_bytes page)) (before_cut memory first next number low) ∙ whole number)
      (λ (up : first ≤ number). ⊎_elim
      (λ (cut : number < next). ap (λ page. length (mapped_bytes page)) (in_cut memory first next number up cut) ∙ zero_long)
      (λ (behind : next ≤ number). ap (λ page. length (mapped_bytes page)) (behind_cut memory first next number up behind) ∙ whole number)
      (cases_lt number next))
      (cases_lt number first)

  byte_cut : (i : ℕ) → first ≤ i / 4096 → i / 4096 < next → byte_in (without_pages memory first next) i ≡ 0
  byte_cut i up cut = ap (λ page. get_or (mapped_bytes page) (i % 4096) 0) (in_cut memory first next (i / 4096) up cut) ∙ zero_get (i % 4096) (omega arith)

  pub byte_left : (i : ℕ) → i / 4096 < first → byte_in (without_pages memory first next) i ≡ byte_in memory i
  byte_left i low = ap (λ page. get_or (mapped_bytes page) (i % 4096) 0) (before_cut memory first next (i / 4096) low)

  -- from what is cut on all is zero, up to where it was zero before
  pub zero_cut : (size i : ℕ) → IsFileMemory memory size → first ≤ i / 4096 → (next ≤ i / 4096 → size ≤ i) → byte_in (without_pages memory first next) i ≡ 0
  zero_cut size i is up past = ⊎_elim
      (λ (cut : i / 4096 < next). byte_cut i up cut)
      (λ (behind : next ≤ i / 4096). ap (λ page. get_or (mapped_bytes page) (i % 4096) 0) (behind_cut memory first next (i / 4096) up behind) ∙ is.zeros i (past behind))
      (cases_lt (i / 4096) next)

  pub memory_cut : (size : ℕ) → IsFileMemory memory size → IsFileMemory (without_pages memory first next) size
  memory_cut size is = record {
    within = λ number page there. is.within number page (still_there memory first next number page there);
    writable = λ number page there. is.writable number page (still_there memory first next number page there);
    zeros = λ i past. ⊎_elim
        (λ (low : i / 4096 < first). byte_left i low ∙ is.zeros i past)
        (λ (up : first ≤ i / 4096). zero_cut size i is up (λ behind. past))
        (cases_lt (i / 4096) first);
  }

-- ---- the rest of a page becomes zero

rest_long : (used : ℕ) (found : Option Page) → used ≤ 4096 → length (mapped_bytes found) ≡ 4096 → length (mapped_bytes (option_map (cleared used (4096 - used)) found)) ≡ 4096
rest_long used None low long = long
rest_long used (Some page) low long =
    length-overwritten page.bytes used (replicate (4096 - used) 0) (omega (arith, long, length-replicate {A = ℕ} (4096 - used) 0)) ∙ long

rest_before : (used k : ℕ) (found : Option Page) → used ≤ 4096 → k < used → length (mapped_bytes found) ≡ 4096
    → get_or (mapped_bytes (option_map (cleared used (4096 - used)) found)) k 0 ≡ get_or (mapped_bytes found) k 0
rest_before used k None low below long = refl
rest_before used k (Some page) low below long =
    get_or-overwritten_below page.bytes used (replicate (4096 - used) 0) k 0 (omega (arith, long, length-replicate {A = ℕ} (4096 - used) 0)) below

rest_behind : (used k : ℕ) (found : Option Page) → used ≤ k → k < 4096 → length (mapped_bytes found) ≡ 4096
    → get_or (mapped_bytes (option_map (cleared used (4096 - used)) found)) k 0 ≡ 0
rest_behind used k None up below long = zero_get k below
rest_behind used k (Some page) up below long =
    let zeros : length (replicate {A = ℕ} (4096 - used) 0) ≡ 4096 - used = length-replicate {A = ℕ} (4096 - used) 0 in
    get_or-overwritten_in page.bytes used (replicate (4096 - used) 0) k 0 (omega (arith, long)) up (omega arith) ∙ get_or-replicate (4096 - used) (k - used) 0 0 (omega arith)

rest_from : (used : ℕ) (found : Option Page) (page : Page) → option_map (cleared used (4096 - used)) found ≡ Some page → (was : Page) × (found ≡ Some was) × (page.writable ≡ was.writable)
rest_from used None page e = cc
rest_from used (Some was) page e =
    let same : cleared used (4096 - used) was ≡ page = cc in
    (was, refl, ap (λ (p : Page). p.writable) (sym same))

module _ (memory : Memory) (size : ℕ) (whole : WholeTree memory) where
  -- a length that ends with a page
  pub rest_none : size % 4096 ≡ 0 → without_rest memory size ≡ memory
  unfolding without_rest
  rest_none even = rw (eq-eqb (size % 4096) 0 even) refl

  pub rest_some : size % 4096 ≢ 0 → without_rest memory size ≡ with_at memory (size / 4096) (option_map (cleared (size % 4096) (4096 - size % 4096)) (at memory (size / 4096)))
  unfolding without_rest
  rest_some odd = rw (ne_eqb (size % 4096) 0 odd) refl

  -- another page
  at_other : (number : ℕ) → number ≢ size / 4096 → at (without_rest memory size) number ≡ at memory number
  at_other number apart = ⊎_elim
      (λ (even : size % 4096 ≡ 0). ap (λ (m : Memory). at m number) (rest_none even))
      (λ (odd : size % 4096 ≢ 0).
      ap (λ (m : Memory). at m number) (rest_some odd)
      ∙ at-with_at-other memory (size / 4096) number (option_map (cleared (size % 4096) (4096 - size % 4096)) (at memory (size / 4096))) apart)
      (cases_eq (size % 4096) 0)

  -- and this one
  at_here : size % 4096 ≢ 0 → at (without_rest memory size) (size / 4096) ≡ option_map (cleared (size % 4096) (4096 - size % 4096)) (at memory (size / 4096))
  at_here odd =
      ap (λ (m : Memory). at m (size / 4096)) (rest_some odd)
      ∙ at-with_at memory (size / 4096) (option_map (cleared (size % 4096) (4096 - size % 4096)) (at memory (size / 4096)))

  pub rest_whole : WholeTree (without_rest memory size)
  rest_whole number = ⊎_elim
      (λ (even : size % 4096 ≡ 0). ap (λ (m : Memory). length (tree_page m number)) (rest_none even) ∙ whole number)
      (λ (odd : size % 4096 ≢ 0). ⊎_elim
      (λ (t : number ≡ size / 4096).
      ap (λ n. length (tree_page (without_rest memory size) n)) t
      ∙ ap (λ page. length (mapped_bytes page)) (at_here odd)
      ∙ rest_long (size % 4096) (at memory (size / 4096)) (omega arith) (whole (size / 4096)))
      (λ (d : number ≢ size / 4096). ap (λ page. length (mapped_bytes page)) (at_other number d) ∙ whole number)
      (cases_eq number (size / 4096)))
      (cases_eq (size % 4096) 0)

  -- bytes before the length
  pub byte_before : (i : ℕ) → i < size → byte_in (without_rest memory size) i ≡ byte_in memory i
  byte_before i below = ⊎_elim
      (λ (even : size % 4096 ≡ 0). ap (λ (m : Memory). byte_in m i) (rest_none even))
      (λ (odd : size % 4096 ≢ 0). ⊎_elim
      (λ (t : i / 4096 ≡ size / 4096).
      ap (λ n. get_or (tree_page (without_rest memory size) n) (i % 4096) 0) t
      ∙ ap (λ page. get_or (mapped_bytes page) (i % 4096) 0) (at_here odd)
      ∙ rest_before (size % 4096) (i % 4096) (at memory (size / 4096)) (omega arith) (omega arith) (whole (size / 4096))
      ∙ ap (λ n. get_or (tree_page memory n) (i % 4096) 0) (sym t))
      (λ (d : i / 4096 ≢ size / 4096). ap (λ page. get_or (mapped_bytes page) (i % 4096) 0) (at_other (i / 4096) d))
      (cases_eq (i / 4096) (size / 4096)))
      (cases_eq (size % 4096) 0)

  -- bytes behind it
  pub byte_behind : (i : ℕ) → size ≤ i → pages_of size ≤ i / 4096 → byte_in memory i ≡ 0 → byte_in (without_rest memory size) i ≡ 0
  byte_behind i past behind zero = ⊎_elim
      (λ (even : size % 4096 ≡ 0). ap (λ (m : Memory). byte_in m i) (rest_none even) ∙ zero)
      (λ (odd : size % 4096 ≢ 0). ap (λ page. get_or (mapped_bytes page) (i % 4096) 0) (at_other (i / 4096) (λ t. absurd (omega arith))) ∙ zero)
      (cases_eq (size % 4096) 0)

  pub byte_rest : (i : ℕ) → size ≤ i → i / 4096 < pages_of size → byte_in (without_rest memory size) i ≡ 0
  byte_rest i past last =
      let t : i / 4096 ≡ size / 4096 = omega arith in
      ap (λ n. get_or (tree_page (without_rest memory size) n) (i % 4096) 0) t
      ∙ ap (λ page. get_or (mapped_bytes page) (i % 4096) 0) (at_here (omega arith))
      ∙ rest_behind (size % 4096) (i % 4096) (at memory (size / 4096)) (omega arith) (omega arith) (whole (size / 4096))

  -- a page that is there was there, and stays
  rest_was : (number : ℕ) (page : Page) → at (without_rest memory size) number ≡ Some page → (was : Page) × (at memory number ≡ Some was) × (page.writable ≡ was.writable)
  rest_was number page there = ⊎_elim
      (λ (even : size % 4096 ≡ 0). (page, ap (λ (m : Memory). at m number) (sym (rest_none even)) ∙ there, refl))
      (λ (odd : size % 4096 ≢ 0). ⊎_elim
      (λ (t : number ≡ size / 4096).
      let h = rest_from (size % 4096) (at memory (size / 4096)) page (sym (at_here odd) ∙ ap (at (without_rest memory size)) (sym t) ∙ there) in
      (h.0, ap (at memory) t ∙ h.1, h.2))
      (λ (d : number ≢ size / 4096). (page, sym (at_other number d) ∙ there, refl))
      (cases_eq number (size / 4096)))
      (cases_eq (size % 4096) 0)

  pub rest_stays : (number : ℕ) (page : Page) → at memory number ≡ Some page → (now : Page) × (at (without_rest memory size) number ≡ Some now)
  rest_stays number page there = ⊎_elim
      (λ (even : size % 4096 ≡ 0). (page, ap (λ (m : Memory). at m number) (rest_none even) ∙ there))
      (λ (odd : size % 4096 ≢ 0). ⊎_elim
      (λ (t : number ≡ size / 4096). (
        cleared (size % 4096) (4096 - size % 4096) page,
        ap (at (without_rest memory size)) t ∙ at_here odd ∙ ap (option_map (cleared (size % 4096) (4096 - size % 4096))) (ap (at memory) (sym t) ∙ there),
      ))
      (λ (d : number ≢ size / 4096). (page, at_other number d ∙ there))
      (cases_eq number (size / 4096)))
      (cases_eq (size % 4096) 0)

  pub memory_rest : (was : ℕ) → size ≤ was → IsFileMemory memory was → IsFileMemory (without_rest memory size) was
  memory_rest was order is = record {
    within = λ number page there. let h = rest_was number page there in is.within number h.0 h.1;
    writable = λ number page there. let h = rest_was number page there in h.2 ∙ is.writable number h.0 h.1;
    zeros = λ i past. ⊎_elim
        (λ (last : i / 4096 < pages_of size). byte_rest i (omega arith) last)
        (λ (behind : pages_of size ≤ i / 4096). byte_behind i (omega arith) behind (is.zeros i past))
        (cases_lt (i / 4096) (pages_of size));
  }

-- ---- both

-- the first bytes, where two memories have the same up to a length
pub shorter : (now was : Memory) (size whole_size : ℕ) → WholeTree now → WholeTree was → size ≤ whole_size → ((i : ℕ) → i < size → byte_in now i ≡ byte_in was i)
    → file_in now size ≡ resized (file_in was whole_size) size
unfolding resized
shorter now was size whole_size whole_now whole_was order same =
    let long : length (file_in was whole_size) ≡ whole_size = file-long was whole_was whole_size in
    let none : 0 ≡ size - length (file_in was whole_size) = omega arith in
    let short : length (take size (file_in was whole_size)) ≡ size = length-take-le size (file_in was whole_size) (omega arith) in
    same_number_lists (file_in now size) (take size (file_in was whole_size)) (file-long now whole_now size ∙ sym short)
    (λ k below.
    let under : k < size = omega (arith, file-long now whole_now size) in
    file_get now whole_now size k 0 under ∙ same k under ∙ sym (get_or-take size (file_in was whole_size) k 0 under ∙ file_get was whole_was whole_size k 0 (omega arith)))
    ∙ sym (append-nil (take size (file_in was whole_size)))
    ∙ ap (λ n. take size (file_in was whole_size) ++ replicate n 0) none

module _ (memory : Memory) (was size : ℕ) (whole : WholeTree memory) (is : IsFileMemory memory was) (order : size ≤ was) where
  middle_whole : WholeTree (without_pages memory (pages_of size) (pages_of was))
  middle_whole = cut_whole memory (pages_of size) (pages_of was) whole

  pub short_whole : WholeTree (without_rest (without_pages memory (pages_of size) (pages_of was)) size)
  short_whole = rest_whole (without_pages memory (pages_of size) (pages_of was)) size middle_whole

  pub short_memory : IsFileMemory (without_rest (without_pages memory (pages_of size) (pages_of was)) size) size
  short_memory =
      let rest = memory_rest (without_pages memory (pages_of size) (pages_of was)) size middle_whole was order (memory_cut memory (pages_of size) (pages_of was) whole was is) in
      record {
        within = λ number page there. ⊎_elim
            (λ (low : number < pages_of size). low)
            (λ (up : pages_of size ≤ number).
            let h = rest_was (without_pages memory (pages_of size) (pages_of was)) size middle_whole number page there in
            let no : None ≡ Some h.0 = sym (in_cut memory (pages_of size) (pages_of was) number up (rest.within number page there)) ∙ h.1 in
            absurd (none-some h.0 no))
            (cases_lt number (pages_of size));
        writable = rest.writable;
        zeros = λ i past. ⊎_elim
            (λ (last : i / 4096 < pages_of size). byte_rest (without_pages memory (pages_of size) (pages_of was)) size middle_whole i past last)
            (λ (behind : pages_of size ≤ i / 4096).
            byte_behind (without_pages memory (pages_of size) (pages_of was)) size middle_whole i past behind
            (zero_cut memory (pages_of size) (pages_of was) whole was i is behind (λ far. omega arith)))
            (cases_lt (i / 4096) (pages_of size));
      }
    where
      none-some : (page : Page) → None ≡ Some page → ⊥
      none-some page e = cc

  pub short_bytes : (i : ℕ) → i < size → byte_in (without_rest (without_pages memory (pages_of size) (pages_of was)) size) i ≡ byte_in memory i
  short_bytes i below =
      byte_before (without_pages memory (pages_of size) (pages_of was)) size middle_whole i below
      ∙ byte_left memory (pages_of size) (pages_of was) whole i (omega arith)
