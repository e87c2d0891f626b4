-- Regions as a table of pages.
use Rattle.std.proofs.Common.{◌≡◌, ◌≢◌, ℕ, ◌<◌, ◌≤◌, ◌/◌, ◌%◌, ◌^◌, Option, Some, None, List, length, get_or, set, arith, refl, ap, sym, ◌∙◌, inl, inr, get_or-set_same, get_or-set_other, set-set}
use Rattle.std.proofs.Math.Path.{fun_ext}
use Rattle.std.proofs.lemmas.Bool.Decides.{eqb_tells}
use Rattle.std.proofs.lemmas.List.{get_or_past}
use Rattle.std.specs.List.{AllZip}
use Rattle.std.specs.Prelude.{option_map, ◌==◌, if◌then◌else◌}
use Rattle.unix_model.specs.Memory as model
use Rattle.unix_model.specs.Memory.{with_byte, page_with_byte}
use Rattle.unix_model.specs.Tables.{at, with_at, nothing}
use Rattle.unix_model.proofs.TableLaws.{at-with_at, at-with_at-other, with_at-same}
use Rattle.flat_memory.specs.declared.pages.Pages.{Pages}
use Rattle.flat_memory.specs.declared.region.Region.{Region}
use Rattle.flat_memory.specs.PagesView.{pages_in, table_of}
use Rattle.flat_memory.specs.RegionView.{region_of}
use Rattle.flat_memory.proofs.PlaceLaws.{other-default, table-copied}

-- the table of these regions
abbrev pub in_regions : List (Option Region) → ℕ → Option model.Page
in_regions regions n = at (pages_in (get_or regions (n / 1024) None)) (n % 1024)

-- one region changed at one place
region-set-at : (regions : List (Option Region)) (n k : ℕ) (region : Option Region) (page : Option model.Page) → n / 1024 < length regions
    → pages_in region ≡ with_at (pages_in (get_or regions (n / 1024) None)) (n % 1024) page
    → in_regions (set regions (n / 1024) region) k ≡ (if k == n then page else in_regions regions k)
region-set-at regions n k region page inside changed =
    elim (eqb_tells k n) as (λ _. in_regions (set regions (n / 1024) region) k ≡ (if k == n then page else in_regions regions k)) [
      | inl same ↦ rw same.0 (rw same.1 (rw get_or-set_same (rw changed (at-with_at (pages_in (get_or regions (n / 1024) None)) (n % 1024) page))))
      | inr apart ↦ rw apart.0 (elim (eqb_tells (k / 1024) (n / 1024)) as (λ _. in_regions (set regions (n / 1024) region) k ≡ in_regions regions k) [
        | inl here ↦
            let other : k % 1024 ≢ n % 1024 = omega (arith, apart.1, here.1) in
            rw here.1 (rw get_or-set_same (rw changed (at-with_at-other (pages_in (get_or regions (n / 1024) None)) (n % 1024) (k % 1024) page other)))
        | inr there ↦ let other : k / 1024 ≢ n / 1024 = there.1 in rw get_or-set_other refl
      ])
    ]

pub region-set : (regions : List (Option Region)) (n : ℕ) (region : Option Region) (page : Option model.Page) → n / 1024 < length regions
    → pages_in region ≡ with_at (pages_in (get_or regions (n / 1024) None)) (n % 1024) page
    → in_regions (set regions (n / 1024) region) ≡ with_at (in_regions regions) n page
unfolding with_at
region-set regions n region page inside changed = fun_ext (λ k. region-set-at regions n k region page inside changed)

-- the same, where the region before it is told
pub region-changed : (regions : List (Option Region)) (n : ℕ) (old new : Option Region) (page : Option model.Page) → n / 1024 < length regions
    → old ≡ get_or regions (n / 1024) old → pages_in new ≡ with_at (pages_in old) (n % 1024) page
    → in_regions (set regions (n / 1024) new) ≡ with_at (in_regions regions) n page
region-changed regions n old new page inside there changed =
    region-set regions n new page inside
    (changed ∙ ap (λ region. with_at (pages_in region) (n % 1024) page) (there ∙ other-default regions (n / 1024) old None inside))

at-nothing : (n : ℕ) → at (nothing {X = model.Page}) n ≡ None
unfolding at nothing
at-nothing n = refl

-- nothing is mapped
pub table-none : (regions : List (Option Region)) → ((k : ℕ) → get_or regions k None ≡ None) → in_regions regions ≡ nothing
unfolding nothing at
table-none regions free = fun_ext (λ n. ap (λ region. pages_in region (n % 1024)) (free (n / 1024)))

-- nothing is mapped past the last region
pub table-past : (pages : Pages) (n : ℕ) → length pages.regions.items ≡ 512 → 2 ^ 19 ≤ n → at (table_of pages) n ≡ None
unfolding at nothing table_of
table-past pages n full past =
    let beyond : 512 ≤ n / 1024 = omega arith in
    ap (λ region. pages_in region (n % 1024)) (get_or_past pages.regions.items (n / 1024) None (omega (arith, full, beyond)))

pub ruleset regions = (region-set, table-none, table-past)

-- a region that isn't there maps no page
pub region-none : (pages : Pages) (n : ℕ) (old : Option Region) → n / 1024 < length pages.regions.items
    → old ≡ get_or pages.regions.items (n / 1024) old → old ≡ None → at (table_of pages) n ≡ None
unfolding table_of at nothing
region-none pages n old inside there none =
    ap (λ region. pages_in region (n % 1024)) (sym (there ∙ other-default pages.regions.items (n / 1024) old None inside) ∙ none)

-- no page is unmapped where the region isn't there
pub region-kept : (old : Option Region) (place : ℕ) → old ≡ None → pages_in old ≡ with_at (pages_in old) place None
region-kept None place none = sym (with_at-same nothing place None (at-nothing place))
region-kept (Some region) place none = absurd (cc)

-- a page that is mapped as the first of its region, or beside others
pub region-mapped : (regions : List (Option Region)) (n : ℕ) (taken new : Option Region) (page : Option model.Page) → n / 1024 < length regions
    → pages_in new ≡ with_at (pages_in (get_or regions (n / 1024) None)) (n % 1024) page
    → in_regions (set (set regions (n / 1024) taken) (n / 1024) new) ≡ with_at (in_regions regions) n page
region-mapped regions n taken new page inside changed =
    ap in_regions (set-set regions (n / 1024) taken new) ∙ region-set regions n new page inside changed

-- regions that were copied
copied-in : (old new : Option Region) → option_map region_of new ≡ option_map region_of old → pages_in new ≡ pages_in old
copied-in None None same = refl
copied-in None (Some new) same = absurd (cc)
copied-in (Some old) None same = absurd (cc)
copied-in (Some old) (Some new) same = cc

pub regions-copied : (R : Option Region → Option Region → Type 0) (xs ys : List (Option Region))
    → ((x y : Region) → R (Some x) (Some y) → region_of y ≡ region_of x) → ((x : Region) → R (Some x) None → ⊥) → ((y : Region) → R None (Some y) → ⊥)
    → AllZip R xs ys → in_regions ys ≡ in_regions xs
regions-copied R xs ys both lost made copied =
    fun_ext (λ n. ap (λ pages. at pages (n % 1024)) (copied-in (get_or xs (n / 1024) None) (get_or ys (n / 1024) None) (table-copied region_of R xs ys both lost made copied (n / 1024))))

-- a byte of no page
pub byte-past : (pages : Pages) (address byte : ℕ) → length pages.regions.items ≡ 512 → 2 ^ 19 ≤ address / 4096 → table_of pages ≡ with_byte (table_of pages) address byte
unfolding with_byte
byte-past pages address byte full past =
    let none : at (table_of pages) (address / 4096) ≡ None = table-past pages (address / 4096) full past in
    rw none (sym (with_at-same (table_of pages) (address / 4096) None none))

-- a byte of a page
pub byte-written : (pages : Pages) (address byte : ℕ) (old new : Option Region) → address / 4096 / 1024 < length pages.regions.items
    → old ≡ get_or pages.regions.items (address / 4096 / 1024) old
    → pages_in new ≡ with_at (pages_in old) (address / 4096 % 1024) (option_map (page_with_byte (address % 4096) byte) (at (pages_in old) (address / 4096 % 1024)))
    → in_regions (set pages.regions.items (address / 4096 / 1024) new) ≡ with_byte (table_of pages) address byte
unfolding with_byte table_of at with_at
byte-written pages address byte old new inside there changed =
    region-changed pages.regions.items (address / 4096) old new (option_map (page_with_byte (address % 4096) byte) (at (pages_in old) (address / 4096 % 1024))) inside there changed
    ∙ ap (λ region. with_at (in_regions pages.regions.items) (address / 4096) (option_map (page_with_byte (address % 4096) byte) (at (pages_in region) (address / 4096 % 1024))))
    (there ∙ other-default pages.regions.items (address / 4096 / 1024) old None inside)

-- a byte in a region that isn't there
pub byte-unmapped : (old : Option Region) (place at_byte byte : ℕ) → old ≡ None
    → pages_in old ≡ with_at (pages_in old) place (option_map (page_with_byte at_byte byte) (at (pages_in old) place))
byte-unmapped None place at_byte byte none = rw (at-nothing place) (sym (with_at-same nothing place None (at-nothing place)))
byte-unmapped (Some region) place at_byte byte none = absurd (cc)

-- the pages of what was read among the regions
pub pages-read : (regions : List (Option Region)) (i : ℕ) (old region : Option Region) → i < length regions → old ≡ get_or regions i old → old ≡ region
    → pages_in region ≡ pages_in (get_or regions i None)
pages-read regions i old region inside there is = ap pages_in (sym is ∙ (there ∙ other-default regions i old None inside))
