-- Where a process holds no buffer, or has a blank page, fewer pages are taken than are promised.
use Rattle.std.proofs.Common.{◌≡◌, ◌≢◌, ℕ, ◌+◌, ◌^◌, ◌<◌, ◌≤◌, Some, None, List, arith, refl, sym, ap, ◌∙◌}
use Rattle.std.specs.Option.{is_some}
use Rattle.std.specs.Prelude.{option_map}
use Rattle.kernel_tables.specs.Kernel.{Kernel, first_page}
use Rattle.kernel_tables.specs.Rows.{fixed_rows}
use Rattle.kernel_forest.specs.Trees.{forest_of}
use Rattle.forest.specs.Labels.{page_number, shared_page}
use Rattle.forest.specs.Walks.{Mapping, map_of}
use Rattle.forest.proofs.OwnLaws.{found_at}
use Rattle.unix_model.specs.Memory.{Memory, mapped_pages}
use Rattle.unix_model.specs.Room.{live_pages, process_pages, promised}
use Rattle.unix_model.specs.Calls.{call_of}
use Rattle.unix_model.specs.Tables.{at, count_below, sum_below}
use Rattle.unix_model.proofs.CountLaws.{one_if}
use Rattle.user_copy.specs.SpaceMemory.{memory_by, page_of}
use Rattle.domain.specs.declared.types.Phase.{Phase}
use Rattle.domain.specs.declared.types.Phase.TheVariants.{Run, Asked, Sent, Done, Exiting, Zombie}
use Rattle.domain.specs.Domains.{Domain, domains, roots_by}
use Rattle.kernel_machine.specs.Machine.{KernelMachine, machine_of}
use Rattle.kernel_machine.specs.View.{view, memory_in, phase_in, process_in, processes_in}
use Rattle.kernel_machine.specs.Bounds as law
use Rattle.kernel_machine.specs.Bounds.{Accounted}
use Rattle.kernel_machine.proofs.Counting.{count-never, count-any, count-or, count-label, is_label, sum-ones, sum-below-more}
use Rattle.kernel_machine.proofs.PagesHeld.{maps, domain-has, slot-has, space-few, label-mapped, sent-live, slot-few}
use Rattle.kernel_machine.proofs.PageHolders.{slot-below, slots-have}
use Rattle.kernel_machine.proofs.PageBounds.{bounded-by}

-- the pages that a process has beside those that it is promised
pub live-left : (machine : KernelMachine) (few : ℕ) (bytes : ℕ → List ℕ) (domain : Domain) (phase : Phase) → phase ≢ Zombie → few ≤ mapped_pages (process_in machine domain).memory
    → few + 1 ≤ live_pages (process_in machine domain) (phase_in bytes domain phase)
live-left machine few bytes domain Run goes less = omega arith
live-left machine few bytes domain Asked goes less = omega arith
live-left machine few bytes domain Sent goes less = rw (sent-live machine domain domain.request _ (call_of domain.request.call)) (omega arith)
live-left machine few bytes domain Done goes less = omega arith
live-left machine few bytes domain Exiting goes less = omega arith
live-left machine few bytes domain Zombie goes less = absurd (goes refl)

no-buffer : (machine : KernelMachine) (first size : ℕ) (domain : Domain) → domain.buffer ≡ None → count_below (λ n. domain-has machine.forest.keys domain (first + n)) size ≤ mapped_pages (process_in machine domain).memory
unfolding domain-has process_in
no-buffer machine first size domain none =
    let both = count-or (λ n. maps machine.forest.keys domain.space (2 ^ 19) (first + n)) (λ n. is_label (first + n) domain.buffer) size in
    let never = count-never (λ n. is_label (first + n) domain.buffer) size (λ n below. ap (is_label (first + n)) none) in
    omega (arith, space-few machine first size domain.space)

-- a blank page is no page of the space
blank-few : (machine : KernelMachine) (first size space page : ℕ) (found : Mapping) → map_of machine.forest.keys space page ≡ Some found → found.page ≡ 0
    → count_below (λ n. maps machine.forest.keys (Some space) (2 ^ 19) (first + n)) size + 1 ≤ mapped_pages (memory_in machine (Some space))
unfolding maps mapped_pages memory_in memory_by at
blank-few machine first size space page found is blank =
    let memory : Memory = memory_by machine.page_bytes (map_of machine.forest.keys space) in
    let all = count-any (λ number n. is_label (first + n) (shared_page machine.forest.keys (space, number))) size (2 ^ 19) in
    let none : shared_page machine.forest.keys (space, page) ≡ None = ap page_number is ∙ blank-label found blank in
    let zero_here = count-never (λ n. is_label (first + n) (shared_page machine.forest.keys (space, page))) size (λ n below. ap (is_label (first + n)) none) in
    let one_there : one_if (is_some (at memory page)) ≡ 1 = ap (λ there. one_if (is_some (option_map (page_of machine.page_bytes) there))) is in
    let each = sum-below-more (λ number. count_below (λ n. is_label (first + n) (shared_page machine.forest.keys (space, number))) size) (λ number. one_if (is_some (at memory number))) (2 ^ 19)
    page (found_at machine.forest.keys space page found is).below (omega arith)
    (λ number below. label-mapped machine.page_bytes first size (map_of machine.forest.keys space number)) in
    let ones = sum-ones (λ number. is_some (at memory number)) (2 ^ 19) in
    omega arith
  where
    blank-label : (found : Mapping) → found.page ≡ 0 → page_number (Some found) ≡ None
    blank-label found blank = rw blank refl

has-blank : (machine : KernelMachine) (first size space page : ℕ) (found : Mapping) (domain : Domain) → domain.space ≡ Some space → map_of machine.forest.keys space page ≡ Some found → found.page ≡ 0
    → count_below (λ n. domain-has machine.forest.keys domain (first + n)) size ≤ mapped_pages (process_in machine domain).memory
unfolding domain-has process_in
has-blank machine first size space page found domain own is blank =
    let both = count-or (λ n. maps machine.forest.keys domain.space (2 ^ 19) (first + n)) (λ n. is_label (first + n) domain.buffer) size in
    let few = blank-few machine first size space page found is blank in
    let same : count_below (λ n. maps machine.forest.keys domain.space (2 ^ 19) (first + n)) size + 1 ≤ mapped_pages (memory_in machine domain.space) = rw own few in
    omega (arith, count-label first domain.buffer size)

module _ (kernel : Kernel) (good : Accounted kernel) (slot root : ℕ) (there : at (roots_by (fixed_rows kernel)) slot ≡ Some root) (goes : (at (domains kernel) root).phase ≢ Zombie) (less : count_below (λ n. domain-has (forest_of kernel).keys (at (domains kernel) root) (first_page kernel.size + n)) kernel.size ≤ mapped_pages (process_in (machine_of kernel) (at (domains kernel) root)).memory) where
  slot-left : count_below (λ n. slot-has (forest_of kernel).keys (domains kernel) (at (roots_by (fixed_rows kernel)) slot) (first_page kernel.size + n)) kernel.size + 1
      ≤ process_pages (option_map (λ root. process_in (machine_of kernel) (at (domains kernel) root)) (at (roots_by (fixed_rows kernel)) slot))
  unfolding slot-has process_in machine_of
  slot-left = rw there (live-left (machine_of kernel) _ (machine_of kernel).page_bytes (at (domains kernel) root) (at (domains kernel) root).phase goes less)

  slots-left : count_below (λ n. slots-have kernel good (first_page kernel.size + n)) kernel.size + 1 ≤ sum_below (λ slot. process_pages (at (view (machine_of kernel)).processes slot)) 64
  unfolding slots-have view processes_in at machine_of
  slots-left =
      let all = count-any (λ slot n. slot-has (forest_of kernel).keys (domains kernel) (at (roots_by (fixed_rows kernel)) slot) (first_page kernel.size + n)) kernel.size 64 in
      let each = sum-below-more (λ slot. count_below (λ n. slot-has (forest_of kernel).keys (domains kernel) (at (roots_by (fixed_rows kernel)) slot) (first_page kernel.size + n)) kernel.size)
      (λ slot. process_pages (at (view (machine_of kernel)).processes slot)) 64 slot (slot-below (fixed_rows kernel) slot root there) slot-left
      (λ slot below. slot-few (machine_of kernel) (first_page kernel.size) kernel.size slot (at (roots_by (fixed_rows kernel)) slot) (λ root there. good.machine.zombies slot root there)) in
      omega arith

  left : kernel.machine.pages_taken < promised (view (machine_of kernel))
  left = let more = bounded-by kernel good 1 slots-left in omega arith

pub buffer_is_left : law.BufferIsLeft
unfolding machine_of
buffer_is_left kernel slot root good there goes none = left kernel good slot root there goes (no-buffer (machine_of kernel) (first_page kernel.size) kernel.size (at (domains kernel) root) none)

pub blank_is_left : law.BlankIsLeft
unfolding machine_of
blank_is_left kernel slot root space page found good there own is blank =
    left kernel good slot root there (λ ended. let no_space = (good.machine.zombies slot root there ended).0 in let both : None ≡ Some space = sym no_space ∙ own in cc)
    (has-blank (machine_of kernel) (first_page kernel.size) kernel.size space page found (at (domains kernel) root) own is blank)
