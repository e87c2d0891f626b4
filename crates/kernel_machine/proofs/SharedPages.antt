-- Where a page of a process is no page of its own, fewer pages are taken than are promised.
use Rattle.std.proofs.Common.{◌≡◌, ◌≢◌, ℕ, ◌+◌, ◌^◌, ◌<◌, ◌≤◌, Bool, true, false, not, Option, Some, None, [], arith, refl, sym, ap, ◌∙◌, ◌||◌, ◌&&◌, ◌==◌, if◌then◌else◌, ⊎_elim}
use Rattle.std.proofs.Math.Path.{fun_ext}
use Rattle.std.specs.Option.{is_some}
use Rattle.std.specs.Prelude.{option_map}
use Rattle.std.proofs.lemmas.Bool.{cases_Bool, cases_eq, eq-eqb, ne_eqb, eqb-true, or_left, or_right}
use Rattle.kn_base.specs.declared.key.Key.{Key}
use Rattle.kernel_tables.specs.Kernel.{Kernel, first_page}
use Rattle.kernel_tables.specs.Rows.{fixed_rows}
use Rattle.kernel_forest.specs.Trees.{forest_of}
use Rattle.forest.specs.Calls.{IsOwn}
use Rattle.forest.specs.Forest.{IsSpace}
use Rattle.forest.specs.Labels.{page_number, shared_page}
use Rattle.forest.specs.Objects.{NodeObject, Owner, OfProcess, OfFile}
use Rattle.forest.specs.Walks.{Mapping, map_of}
use Rattle.forest.proofs.OwnLaws.{found_at}
use Rattle.unix_model.specs.Memory.{Memory, mapped_pages}
use Rattle.unix_model.specs.Room.{process_pages, promised}
use Rattle.unix_model.specs.Tables.{at, any_below, count_below, sum_below}
use Rattle.unix_model.proofs.CountLaws.{one_if}
use Rattle.user_copy.specs.SpaceMemory.{memory_by, page_of}
use Rattle.domain.specs.declared.types.Phase.TheVariants.{Zombie}
use Rattle.domain.specs.Domains.{domains, roots_by}
use Rattle.kernel_machine.specs.Machine.{KernelMachine, machine_of}
use Rattle.kernel_machine.specs.View.{view, memory_in, process_in, processes_in}
use Rattle.kernel_machine.specs.Bounds as law
use Rattle.kernel_machine.specs.Bounds.{Accounted}
use Rattle.kernel_machine.proofs.Counting.{any-at, count-never, count-less, count-any, count-or, count-label, is_label, sum-ones, sum-below-more}
use Rattle.kernel_machine.proofs.PagesHeld.{maps, domain-has, slot-has, label-mapped, slot-few}
use Rattle.kernel_machine.proofs.PageHolders.{slot-below, slots-have, inodes-have, file-place, mapped-has}
use Rattle.kernel_machine.proofs.PageBounds.{covered-by, taken-has, untaken}
use Rattle.kernel_machine.proofs.PagesLeft.{live-left, blank_is_left}

-- a space maps a page at another page number than this one
unfoldable pub maps-but : (ℕ → Key) → ℕ → ℕ → ℕ → Bool
maps-but keys space skip page = any_below (λ number. not (number == skip) && is_label page (shared_page keys (space, number))) (2 ^ 19)

pub and-right : (a b : Bool) → (a && b) ≡ true → b ≡ true
and-right true b e = e
and-right false b e = absurd (cc)

pub not-but : (b : Bool) → b ≡ true → (c : Bool) → (not b && c) ≡ false
not-but b e c = rw e refl

pub but-label : (keys : ℕ → Key) (space skip first size number : ℕ) → count_below (λ n. not (number == skip) && is_label (first + n) (shared_page keys (space, number))) size
    ≤ count_below (λ n. is_label (first + n) (shared_page keys (space, number))) size
but-label keys space skip first size number =
    count-less (λ n. not (number == skip) && is_label (first + n) (shared_page keys (space, number))) (λ n. is_label (first + n) (shared_page keys (space, number))) size
    (λ n below h. and-right (not (number == skip)) (is_label (first + n) (shared_page keys (space, number))) h)

but-few : (machine : KernelMachine) (first size space skip : ℕ) (found : Mapping) → map_of machine.forest.keys space skip ≡ Some found
    → count_below (λ n. maps-but machine.forest.keys space skip (first + n)) size + 1 ≤ mapped_pages (memory_in machine (Some space))
unfolding maps-but mapped_pages memory_in memory_by at
but-few machine first size space skip found is =
    let memory : Memory = memory_by machine.page_bytes (map_of machine.forest.keys space) in
    let all = count-any (λ number n. not (number == skip) && is_label (first + n) (shared_page machine.forest.keys (space, number))) size (2 ^ 19) in
    let zero_here = count-never (λ n. not (skip == skip) && is_label (first + n) (shared_page machine.forest.keys (space, skip))) size
    (λ n below. not-but (skip == skip) (eq-eqb skip skip refl) (is_label (first + n) (shared_page machine.forest.keys (space, skip)))) in
    let one_there : one_if (is_some (at memory skip)) ≡ 1 = ap (λ there. one_if (is_some (option_map (page_of machine.page_bytes) there))) is in
    let each = sum-below-more (λ number. count_below (λ n. not (number == skip) && is_label (first + n) (shared_page machine.forest.keys (space, number))) size) (λ number. one_if (is_some (at memory number))) (2 ^ 19)
    skip (found_at machine.forest.keys space skip found is).below (omega arith)
    (λ number below. let few = but-label machine.forest.keys space skip first size number in let more = label-mapped machine.page_bytes first size (map_of machine.forest.keys space number) in omega arith) in
    let ones = sum-ones (λ number. is_some (at memory number)) (2 ^ 19) in
    omega arith

-- of another page it makes no difference
pub label-apart : (page other : ℕ) (label : Option ℕ) → label ≡ Some other → page ≢ other → is_label page label ≡ false
label-apart page other label e apart = ap (is_label page) e ∙ ne_eqb other page (λ s. apart (sym s))

but-same : (keys : ℕ → Key) (space skip other page : ℕ) → shared_page keys (space, skip) ≡ Some other → page ≢ other → maps-but keys space skip page ≡ maps keys (Some space) (2 ^ 19) page
unfolding maps-but maps
but-same keys space skip other page is apart =
    ap (λ test. any_below test (2 ^ 19)) (fun_ext (λ number. ⊎_elim
    (λ (e : (number == skip) ≡ true).
    let same : number ≡ skip = eqb-true number skip e in
    let here : is_label page (shared_page keys (space, number)) ≡ false = ap (λ n. is_label page (shared_page keys (space, n))) same ∙ label-apart page other (shared_page keys (space, skip)) is apart in
    rw (e, here) refl)
    (λ (e : (number == skip) ≡ false). rw e refl)
    (cases_Bool (number == skip))))

module _ (kernel : Kernel) (good : Accounted kernel) (slot root space page : ℕ) (found : Mapping) (there : at (roots_by (fixed_rows kernel)) slot ≡ Some root) (own : (at (domains kernel) root).space ≡ Some space) (is : map_of (forest_of kernel).keys space page ≡ Some found) (real : found.page ≢ 0) where
  abbrev keys : ℕ → Key
  keys = (forest_of kernel).keys

  abbrev first : ℕ
  first = first_page kernel.size

  named-here : shared_page keys (space, page) ≡ Some found.page
  named-here = ap page_number is ∙ real-label found real
    where
      real-label : (found : Mapping) → found.page ≢ 0 → page_number (Some found) ≡ Some found.page
      real-label found real = rw (ne_eqb found.page 0 real) refl

  unfoldable pub here-but : ℕ → Bool
  here-but p = maps-but (forest_of kernel).keys space page p || is_label p (at (domains kernel) root).buffer

  unfoldable pub slot-but : ℕ → ℕ → Bool
  slot-but k p = if k == slot then here-but p else slot-has (forest_of kernel).keys (domains kernel) (at (roots_by (fixed_rows kernel)) k) p

  unfoldable pub slots-but : ℕ → Bool
  slots-but p = any_below (λ k. slot-but k p) 64

  goes : (at (domains kernel) root).phase ≢ Zombie
  unfolding machine_of
  goes ended = let no_space = (good.machine.zombies slot root there ended).0 in let both : None ≡ Some space = sym no_space ∙ own in cc

  slot-same : (k p : ℕ) → p ≢ found.page → slot-but k p ≡ slot-has keys (domains kernel) (at (roots_by (fixed_rows kernel)) k) p
  unfolding slot-but here-but slot-has domain-has
  slot-same k p apart = ⊎_elim
      (λ (e : (k == slot) ≡ true).
      let same : k ≡ slot = eqb-true k slot e in
      let owned : at (roots_by (fixed_rows kernel)) k ≡ Some root = ap (at (roots_by (fixed_rows kernel))) same ∙ there in
      rw (e, owned, own) (ap (λ b. b || is_label p (at (domains kernel) root).buffer) (but-same keys space page found.page p named-here apart)))
      (λ (e : (k == slot) ≡ false). rw e refl)
      (cases_Bool (k == slot))

  slots-same : (p : ℕ) → p ≢ found.page → slots-but p ≡ slots-have kernel good p
  unfolding slots-but slots-have
  slots-same p apart = ap (λ test. any_below test 64) (fun_ext (λ k. slot-same k p apart))

  here-few : count_below (λ n. here-but (first + n)) kernel.size ≤ mapped_pages (process_in (machine_of kernel) (at (domains kernel) root)).memory
  unfolding here-but process_in machine_of
  here-few =
      let both = count-or (λ n. maps-but keys space page (first + n)) (λ n. is_label (first + n) (at (domains kernel) root).buffer) kernel.size in
      let few = but-few (machine_of kernel) first kernel.size space page found is in
      let mine : count_below (λ n. maps-but keys space page (first + n)) kernel.size + 1 ≤ mapped_pages (memory_in (machine_of kernel) (at (domains kernel) root).space) = rw own few in
      omega (arith, count-label first (at (domains kernel) root).buffer kernel.size)

  slot-left : count_below (λ n. slot-but slot (first + n)) kernel.size + 1 ≤ process_pages (option_map (λ root. process_in (machine_of kernel) (at (domains kernel) root)) (at (roots_by (fixed_rows kernel)) slot))
  unfolding slot-but process_in machine_of
  slot-left = rw (eq-eqb slot slot refl, there) (live-left (machine_of kernel) _ (machine_of kernel).page_bytes (at (domains kernel) root) (at (domains kernel) root).phase goes here-few)

  other-few : (k : ℕ) → k < 64 → count_below (λ n. slot-but k (first + n)) kernel.size ≤ process_pages (option_map (λ root. process_in (machine_of kernel) (at (domains kernel) root)) (at (roots_by (fixed_rows kernel)) k))
  unfolding slot-but machine_of
  other-few k below = ⊎_elim
      (λ (e : (k == slot) ≡ true). let same : k ≡ slot = eqb-true k slot e in rw same (let left = slot-left in omega arith))
      (λ (e : (k == slot) ≡ false). rw e (slot-few (machine_of kernel) first kernel.size k (at (roots_by (fixed_rows kernel)) k) (λ root owned. good.machine.zombies k root owned)))
      (cases_Bool (k == slot))

  slots-left : count_below (λ n. slots-but (first + n)) kernel.size + 1 ≤ sum_below (λ slot. process_pages (at (view (machine_of kernel)).processes slot)) 64
  unfolding slots-but view processes_in at machine_of
  slots-left =
      let all = count-any (λ k n. slot-but k (first + n)) kernel.size 64 in
      let each = sum-below-more (λ k. count_below (λ n. slot-but k (first + n)) kernel.size) (λ slot. process_pages (at (view (machine_of kernel)).processes slot)) 64 slot
      (slot-below (fixed_rows kernel) slot root there) slot-left other-few in
      omega arith

  -- where another place has the page too, nothing that is taken is missed without this one
  pub left : (slots-but found.page || inodes-have kernel good found.page) ≡ true → kernel.machine.pages_taken < promised (view (machine_of kernel))
  left shared =
      let more = covered-by kernel good slots-but 1 (λ n below taken. ⊎_elim
      (λ (e : first + n ≡ found.page). ap (λ p. slots-but p || inodes-have kernel good p) e ∙ shared)
      (λ (apart : first + n ≢ found.page). ap (λ b. b || inodes-have kernel good (first + n)) (slots-same (first + n) apart) ∙ taken-has kernel good n taken)
      (cases_eq (first + n) found.page)) slots-left in
      omega arith

  has-but : (k : ℕ) → k < 64 → slot-but k found.page ≡ true → slots-but found.page ≡ true
  unfolding slots-but
  has-but k below has = any-at (λ k. slot-but k found.page) 64 k below has

  -- in this slot, at another page number
  here-again : (number : ℕ) → number < 2 ^ 19 → number ≢ page → shared_page keys (space, number) ≡ Some found.page → slots-but found.page ≡ true
  unfolding slot-but here-but maps-but
  here-again number below apart label =
      let second : is_label found.page (shared_page keys (space, number)) ≡ true = ap (is_label found.page) label ∙ eq-eqb found.page found.page refl in
      let but : any_below (λ number. not (number == page) && is_label found.page (shared_page keys (space, number))) (2 ^ 19) ≡ true =
      any-at (λ number. not (number == page) && is_label found.page (shared_page keys (space, number))) (2 ^ 19) number below (rw (ne_eqb number page apart, second) refl) in
      has-but slot (slot-below (fixed_rows kernel) slot root there) (rw (eq-eqb slot slot refl) (or_left _ (is_label found.page (at (domains kernel) root).buffer) but))

  -- in another slot
  elsewhere : (k other_root other number : ℕ) → k ≢ slot → at (roots_by (fixed_rows kernel)) k ≡ Some other_root → (at (domains kernel) other_root).space ≡ Some other → number < 2 ^ 19
      → shared_page keys (other, number) ≡ Some found.page → slots-but found.page ≡ true
  unfolding slot-but slot-has domain-has
  elsewhere k other_root other number apart owned other_own below label =
      let has = mapped-has keys other (2 ^ 19) number found.page below label in
      has-but k (slot-below (fixed_rows kernel) k other_root owned)
      (rw (ne_eqb k slot apart, owned, other_own) (or_left _ (is_label found.page (at (domains kernel) other_root).buffer) has))

  only-here : (other number : ℕ) → number < 2 ^ 19 → (slots-but found.page || inodes-have kernel good found.page) ≡ false → IsSpace (forest_of kernel) [] other → shared_page keys (other, number) ≡ Some found.page
      → (owner : Option Owner) → (forest_of kernel).owner (NodeObject other) ≡ owner → (other ≡ space) × (number ≡ page)
  unfolding machine_of
  only-here other number below alone is_space label None owned = absurd (let no : false ≡ true = ap is_some (sym owned) ∙ is_space.owned in cc)
  only-here other number below alone is_space label (Some OfFile) owned =
      absurd (untaken (sym alone ∙ or_right (slots-but found.page) (inodes-have kernel good found.page) (file-place kernel good other number found.page is_space owned label)))
  only-here other number below alone is_space label (Some OfProcess) owned =
      let h = good.machine.held.spaces other is_space owned in
      let k = (at (domains kernel) h.0).slot in
      let in_slot : at (roots_by (fixed_rows kernel)) k ≡ Some h.0 = good.machine.in_slots h.0 h.1 in
      ⊎_elim
      (λ (e : k ≡ slot).
      let both : Some h.0 ≡ Some root = sym in_slot ∙ ap (at (roots_by (fixed_rows kernel))) e ∙ there in
      let same_root : h.0 ≡ root = cc in
      let spaces : Some other ≡ Some space = sym h.2 ∙ ap (λ r. (at (domains kernel) r).space) same_root ∙ own in
      let same : other ≡ space = cc in
      ⊎_elim
      (λ (n : number ≡ page). (same, n))
      (λ (n : number ≢ page). absurd (untaken (sym alone ∙ or_left (slots-but found.page) (inodes-have kernel good found.page)
      (here-again number below n (ap (λ s. shared_page keys (s, number)) (sym same) ∙ label)))))
      (cases_eq number page))
      (λ (apart : k ≢ slot). absurd (untaken (sym alone ∙ or_left (slots-but found.page) (inodes-have kernel good found.page)
      (elsewhere k h.0 other number apart in_slot h.2 below label))))
      (cases_eq k slot)

  real-label : (other : Mapping) → other.page ≡ found.page → page_number (Some other) ≡ Some found.page
  real-label other same = rw (ne_eqb other.page 0 (λ e. real (sym same ∙ e))) (ap Some same)

  pub own-page : (slots-but found.page || inodes-have kernel good found.page) ≡ false → IsOwn (forest_of kernel) space page found
  own-page alone = record {
    mapped = is;
    real = real;
    alone =
        λ other number other_found is_space e same.
        only-here other number (found_at keys other number other_found e).below alone is_space (ap page_number e ∙ real-label other_found same) ((forest_of kernel).owner (NodeObject other)) refl;
  }

pub shared_is_left : law.SharedIsLeft
unfolding machine_of
shared_is_left kernel slot root space page found good there own is shared = ⊎_elim
    (λ (blank : found.page ≡ 0). blank_is_left kernel slot root space page found good there own is blank)
    (λ (real : found.page ≢ 0). ⊎_elim
    (λ (again : (slots-but kernel good slot root space page found there own is real found.page || inodes-have kernel good found.page) ≡ true).
    left kernel good slot root space page found there own is real again)
    (λ (alone : (slots-but kernel good slot root space page found there own is real found.page || inodes-have kernel good found.page) ≡ false).
    absurd (shared (own-page kernel good slot root space page found there own is real alone)))
    (cases_Bool (slots-but kernel good slot root space page found there own is real found.page || inodes-have kernel good found.page)))
    (cases_eq found.page 0)
