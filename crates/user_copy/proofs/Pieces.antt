-- A piece is put: a page was made own, and bytes were written into it.
use Rattle.std.proofs.Common.{◌≡◌, ◌≢◌, ◌<◌, ◌≤◌, ◌+◌, ◌-◌, ◌/◌, ◌%◌, ℕ, Bool, true, Option, Some, None, List, [], length, refl, ap, sym, subst, ◌∙◌, arith, ⊎_elim, ◌⊎◌}
use Rattle.std.proofs.Math.Path.{fun_ext}
use Rattle.std.specs.Prelude.{option_map}
use Rattle.std.proofs.lemmas.Bool.{cases_eq, eq-eqb, ne_eqb}
use Rattle.std.proofs.lemmas.List.{get_or-set_same, get_or-set_other}
use Rattle.kn_base.specs.Rows.{overwritten}
use Rattle.kernel_tables.specs.declared.entry.PageOwner.{PageOwner}
use Rattle.kernel_tables.specs.Kernel.{Kernel, IsBankPage, bank_page, memory_page, with_bank_page, first_page}
use Rattle.space_bank.specs.Bank.{BankGood}
use Rattle.space_bank.specs.Shares.{Outside}
use Rattle.unix_model.specs.Memory.{Memory, Page, with_bytes}
use Rattle.unix_model.specs.Tables.{at, with_at}
use Rattle.unix_model.proofs.TableLaws.{at-with_at, at-with_at-other}
use Rattle.forest.specs.Walks.{Mapping, map_of}
use Rattle.forest.specs.Forest.{IsSpace, Sound}
use Rattle.forest.specs.Calls.{IsOwn}
use Rattle.kernel_forest.specs.Trees.{forest_of, TreesGood}
use Rattle.kernel_forest.specs.Owners.{page_owners, PagesAreOf}
use Rattle.kernel_forest.proofs.Owners.{takes-owned}
use Rattle.kernel_forest.proofs.ApartLaws.{apart-page_written}
use Rattle.kernel_forest.specs.Releases.{KeepsUnreleased}
use Rattle.seg_tree.proofs.Emptying.{unreleased_trans}
use Rattle.user_copy.specs.SpaceMemory.{page_of, memory_by, space_memory}
use Rattle.seg_tree.specs.Writes.{Owns, writable_mapping}
use Rattle.user_copy.specs.Writing.{MakesOwn, PutsPiece}
use Rattle.user_copy.proofs.Pages.{found_inside, found_owned, memory_found}
use Rattle.user_copy.proofs.Bytes.{bytes_put}
use Rattle.user_copy.proofs.Turns.{map_here, map_there}

-- a page that is found alike, with the same bytes
same_pages : (b c : ℕ → List ℕ) (m n : Option Mapping) → m ≡ n → ((found : Mapping) → n ≡ Some found → b found.page ≡ c found.page)
    → option_map (page_of b) m ≡ option_map (page_of c) n
same_pages b c m None e same = ap (option_map (page_of b)) e
same_pages b c m (Some found) e same =
    ap (option_map (page_of b)) e ∙ ap (λ (bytes : List ℕ). let page : Page = record { writable = found.writable; bytes = bytes } in Some page) (same found refl)

-- the bytes of the pages that a memory has, where these are the pages of a bank and have 4,096 bytes
pub record WholePages (kernel : Kernel) : Type 0 where
  pub whole : (page : ℕ) → (page ≡ 0) ⊎ IsBankPage kernel.size page → length (memory_page kernel page) ≡ 4096

module _ (k0 k1 : Kernel) (space address result : ℕ) (owner : PageOwner) (bytes : List ℕ) (good : BankGood k0) (good1 : BankGood k1) (lengths : WholePages k0)
    (known : Outside) (trees : TreesGood k0 known []) (is : IsSpace (forest_of k0) [] space) (owns : Owns k0 k1 space (address / 4096) result owner)
    (inside : address % 4096 + length bytes ≤ 4096) where
  abbrev k2 : Kernel
  k2 = record k1 { bank = with_bank_page k1 result (overwritten (bank_page k1 result) (address % 4096) bytes) }

  sound : Sound (forest_of k0)
  sound = trees.held.sound

  sizes : k1.size ≡ k0.size
  sizes = ap (λ (k : Kernel). k.size) owns.rest

  zeros : k1.page_zero ≡ k0.page_zero
  zeros = ap (λ (k : Kernel). k.page_zero) owns.rest

  made : MakesOwn (forest_of k0) (forest_of k1) space (address / 4096) result
  made = record {
    spaces = owns.spaces;
    roots = (owns.changes known trees).1.roots;
    here = (owns.changes known trees).1.here;
    others = λ other still apart. (owns.changes known trees).1.others.maps other still apart;
    own = owns.own;
  }

  result_low : first_page k1.size ≤ result
  result_low = owns.in_use.inside.low

  result_inside : result - first_page k1.size < length k1.bank
  result_inside = let high = owns.in_use.inside.high in let low = result_low in let pages = good1.pages.pages in omega arith

  -- the page that was written
  bytes_here : bank_page k2 result ≡ overwritten (memory_page k0 owns.found.page) (address % 4096) bytes
  bytes_here =
      get_or-set_same k1.bank (result - first_page k1.size) (overwritten (bank_page k1 result) (address % 4096) bytes) [] result_inside
      ∙ ap (λ (page : List ℕ). overwritten page (address % 4096) bytes) owns.content

  -- every other one
  bytes_there : (number : ℕ) → IsBankPage k0.size number → number ≢ result → bank_page k2 number ≡ bank_page k0 number
  bytes_there number page apart =
      let low : first_page k1.size ≤ number = rw sizes page.low in
      let low_result = result_low in
      get_or-set_other k1.bank (result - first_page k1.size) (number - first_page k1.size) (overwritten (bank_page k1 result) (address % 4096) bytes) [] (λ e. apart (omega arith))
      ∙ owns.bytes number page apart

  zero_or_bank : (number : ℕ) → (number ≡ 0) ⊎ IsBankPage k0.size number → number ≢ result → memory_page k2 number ≡ memory_page k0 number
  zero_or_bank number which apart = ⊎_elim
      (λ (t : number ≡ 0). rw (eq-eqb number 0 t) zeros)
      (λ (t : number ≡ 0 → ⊥). rw (ne_eqb number 0 t) (bytes_there number (⊎_elim (λ (z : number ≡ 0). absurd (t z)) (λ (b : IsBankPage k0.size number). b) which) apart))
      (cases_eq number 0)

  -- what stands at a page number where another page than this one is mapped, and was
  stays_at : (other number : ℕ) → IsSpace (forest_of k0) [] other → map_of (forest_of k1).keys other number ≡ map_of (forest_of k0).keys other number
      → ((other ≡ space) → number ≡ address / 4096 → ⊥)
      → option_map (page_of (memory_page k2)) (map_of (forest_of k1).keys other number) ≡ option_map (page_of (memory_page k0)) (map_of (forest_of k0).keys other number)
  stays_at other number still same apart =
      same_pages (memory_page k2) (memory_page k0) (map_of (forest_of k1).keys other number) (map_of (forest_of k0).keys other number) same
      (λ found e. zero_or_bank found.page (found_inside k0 other number found good sound still e)
      (λ t. let both = owns.own.alone other number found ((owns.spaces other).0 still) (same ∙ e) t in apart both.0 both.1))

  others_stay : (other : ℕ) → IsSpace (forest_of k0) [] other → other ≢ space → space_memory k2 other ≡ space_memory k0 other
  unfolding memory_by
  others_stay other still apart = fun_ext (λ number.
      stays_at other number still (ap (λ (map : ℕ → Option Mapping). map number) (made.others other still apart)) (λ s n. apart s))

  -- the page number that was written
  page_here : option_map (page_of (memory_page k2)) (map_of (forest_of k1).keys space (address / 4096))
      ≡ Some (record (page_of (memory_page k0) owns.found) { bytes = overwritten (memory_page k0 owns.found.page) (address % 4096) bytes })
  page_here =
      let content : memory_page k2 result ≡ overwritten (memory_page k0 owns.found.page) (address % 4096) bytes = rw (ne_eqb result 0 owns.own.real) bytes_here in
      ap (option_map (page_of (memory_page k2))) (map_here (forest_of k0) (forest_of k1) space (address / 4096) result is made)
      ∙ ap (λ (page : List ℕ). let p : Page = record { writable = true; bytes = page } in Some p) content
      ∙ ap (λ (w : Bool). let p : Page = record { writable = w; bytes = overwritten (memory_page k0 owns.found.page) (address % 4096) bytes } in Some p) (sym owns.writable)

  abbrev written : Memory
  written = with_at (space_memory k0 space) (address / 4096) (Some (record (page_of (memory_page k0) owns.found) { bytes = overwritten (memory_page k0 owns.found.page) (address % 4096) bytes }))

  at_page : (number : ℕ) → number ≡ address / 4096 → space_memory k2 space number ≡ written number
  unfolding memory_by at
  at_page number t =
      ap (λ n. option_map (page_of (memory_page k2)) (map_of (forest_of k1).keys space n)) t
      ∙ page_here
      ∙ sym (at-with_at (space_memory k0 space) (address / 4096) (Some (record (page_of (memory_page k0) owns.found) { bytes = overwritten (memory_page k0 owns.found.page) (address % 4096) bytes })))
      ∙ ap written (sym t)

  elsewhere : (number : ℕ) → number ≢ address / 4096 → space_memory k2 space number ≡ written number
  unfolding memory_by at
  elsewhere number t =
      stays_at space number is (map_there (forest_of k0) (forest_of k1) space (address / 4096) result is made number t) (λ s n. t n)
      ∙ sym (at-with_at-other (space_memory k0 space) (address / 4096) number (Some (record (page_of (memory_page k0) owns.found) { bytes = overwritten (memory_page k0 owns.found.page) (address % 4096) bytes })) t)

  memory_here : space_memory k2 space ≡ with_bytes (space_memory k0 space) address bytes
  memory_here =
      let page = page_of (memory_page k0) owns.found in
      let which = found_inside k0 space (address / 4096) owns.found good sound is owns.mapped in
      fun_ext (λ number. ⊎_elim
      (λ (t : number ≡ address / 4096).
      at_page number t)
      (λ (t : number ≡ address / 4096 → ⊥).
      elsewhere number t)
      (cases_eq number (address / 4096)))
      ∙ sym (bytes_put (space_memory k0 space) address page bytes (memory_found k0 space (address / 4096) owns.found owns.mapped) (lengths.whole owns.found.page which) inside)

  rest_now : KeepsUnreleased k0 k2
  rest_now = unreleased_trans k0 k1 k2 owns.rest refl

  written_trees : (outside : Outside) → TreesGood k0 outside [] → TreesGood k2 outside []
  written_trees outside was =
      let now = (owns.changes outside was).0 in
      record { shares = now.shares; held = now.held; in_hand = now.in_hand; short = now.short; in_trees = now.in_trees; single = now.single }

  -- the page that was written is the owner's where those of the space were, ..
  result_owned : PagesAreOf owner (page_owners k0) (map_of (forest_of k0).keys space) → at (page_owners k1) result ≡ Some owner
  unfolding at
  result_owned are = ⊎_elim
      (λ (own : IsOwn (forest_of k0) space (address / 4096) owns.found).
      ap (at (page_owners k1)) (owns.kept own).0
      ∙ takes-owned owner k0 k1 owns.found.page owner owns.owners_now (are (address / 4096) owns.found owns.mapped own.real))
      (λ (shared : IsOwn (forest_of k0) space (address / 4096) owns.found → ⊥).
      ap (λ (owners : ℕ → Option PageOwner). at owners result) (owns.copied shared).owners_now ∙ at-with_at (page_owners k0) result (Some owner))
      owns.told

  -- .. and so are all of them
  pages_owned : PagesAreOf owner (page_owners k0) (map_of (forest_of k0).keys space) → PagesAreOf owner (page_owners k1) (map_of (forest_of k1).keys space)
  unfolding at
  pages_owned are number mapping e real = ⊎_elim
      (λ (t : number ≡ address / 4096).
      let same : Some mapping ≡ Some (writable_mapping result)
      = sym e ∙ ap (map_of (forest_of k1).keys space) t ∙ map_here (forest_of k0) (forest_of k1) space (address / 4096) result is made in
      let it : mapping ≡ writable_mapping result = cc in
      ap (λ (m : Mapping). at (page_owners k1) m.page) it ∙ result_owned are)
      (λ (t : number ≡ address / 4096 → ⊥).
      takes-owned owner k0 k1 mapping.page owner owns.owners_now
      (are number mapping (sym (map_there (forest_of k0) (forest_of k1) space (address / 4096) result is made number t) ∙ e) real))
      (cases_eq number (address / 4096))

  puts_here : PutsPiece k0 k2 space address bytes owner
  puts_here = record {
    result = result;
    found = owns.found;
    mapped = owns.mapped;
    owns = made;
    trees = written_trees;
    here = memory_here;
    others = others_stay;
    filled = owns.filled;
    outside_now = owns.outside_now;
    rows_now = owns.rows_now;
    apart_now = apart-page_written k1 result (overwritten (bank_page k1 result) (address % 4096) bytes)
        (found_owned (forest_of k1) space (address / 4096) (writable_mapping result) (owns.changes known trees).0.held.sound (owns.changes known trees).1.stays owns.own.mapped owns.own.real)
        ∙ owns.apart_now;
    owners_now = owns.owners_now;
    owned = pages_owned;
    inside = owns.inside;
    rest = rest_now;
    pages = bytes_there;
    told = owns.told;
    kept = λ own. ap (λ (k : Kernel). k.machine.pages_taken) (owns.kept own).1;
    copied = λ shared. (owns.copied shared).number;
    ways = owns.ways;
    most = owns.most;
    none = owns.none;
  }

  pub puts_piece : (new : Kernel) → new ≡ record k1 { bank = with_bank_page k1 result (overwritten (bank_page k1 result) (address % 4096) bytes) } → PutsPiece k0 new space address bytes owner
  puts_piece new e = subst (λ k. PutsPiece k0 k space address bytes owner) (sym e) puts_here
