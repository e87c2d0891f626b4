-- The pages that a domain or an inode has are at most those that it is promised.
use Rattle.std.proofs.Common.{◌≡◌, ℕ, zero, suc, ◌+◌, ◌*◌, ◌^◌, ◌≤◌, Bool, false, Option, Some, None, List, [], ◌∷◌, length, arith, refl, ap, ◌∙◌, ◌||◌, length-append, length-take-le}
use Rattle.std.specs.Option.{is_some}
use Rattle.std.specs.Prelude.{option_map, ◌/◌, ◌%◌}
use Rattle.kn_base.specs.declared.key.Key.{Key}
use Rattle.kernel_tables.specs.declared.inode.Inode.{Inode}
use Rattle.kernel_tables.specs.declared.inode.InodeKind.{InodeKind}
use Rattle.kernel_tables.specs.declared.inode.InodeKind.TheVariants.{File, Dir, Pipe, Console}
use Rattle.unix_model.specs.Files.{inode_pages}
use Rattle.kn_base.specs.Rows.{part_at}
use Rattle.unix_model.specs.Limits.{place_bytes}
use Rattle.unix_model.specs.Memory.{Memory, mapped_pages}
use Rattle.unix_model.specs.Numbers.{pages_of}
use Rattle.unix_model.specs.Room.{live_pages, process_pages}
use Rattle.unix_model.specs.Tables.{at, any_below, count_below}
use Rattle.unix_model.specs.Calls.{call_of}
use Rattle.unix_model.specs.declared.calls.Call.{Call}
use Rattle.unix_model.specs.declared.calls.Request.{Request}
use Rattle.unix_model.proofs.CountLaws.{one_if}
use Rattle.forest.specs.Labels.{page_number, shared_page}
use Rattle.forest.specs.Walks.{Mapping, map_of}
use Rattle.user_copy.specs.SpaceMemory.{memory_by, page_of}
use Rattle.domain.specs.declared.types.Phase.{Phase}
use Rattle.domain.specs.declared.types.Phase.TheVariants.{Run, Asked, Sent, Done, Exiting, Zombie}
use Rattle.domain.specs.Domains.{Domain}
use Rattle.kernel_machine.specs.Machine.{KernelMachine}
use Rattle.kernel_machine.specs.Bounds.{HasEnded}
use Rattle.kernel_machine.specs.Contents.{mapped_bytes, pages_in, file_in, place_in, places_in}
use Rattle.kernel_machine.specs.View.{memory_in, phase_in, sent_call, process_in, file_memory, stored, inode_by, inode_in}
use Rattle.kernel_machine.proofs.Counting.{count-never, count-any, count-or, count-label, is_label, sum-less, sum-ones, sum-at-most-one}

-- a space maps a page at one of its first page numbers
unfoldable pub maps : (ℕ → Key) → Option ℕ → ℕ → ℕ → Bool
maps keys None limit page = false
maps keys (Some space) limit page = any_below (λ number. is_label page (shared_page keys (space, number))) limit

unfoldable pub domain-has : (ℕ → Key) → Domain → ℕ → Bool
domain-has keys domain page = maps keys domain.space (2 ^ 19) page || is_label page domain.buffer

unfoldable pub slot-has : (ℕ → Key) → (ℕ → Domain) → Option ℕ → ℕ → Bool
slot-has keys domains None page = false
slot-has keys domains (Some root) page = domain-has keys (at domains root) page

unfoldable pub kind-has : (ℕ → Key) → Inode → InodeKind → ℕ → Bool
kind-has keys inode File page = maps keys (Some inode.root) (pages_of inode.length) page
kind-has keys inode Dir page = maps keys (Some inode.root) (pages_of inode.length) page
kind-has keys inode Pipe page = is_label page (Some inode.root)
kind-has keys inode Console page = false

unfoldable pub inode-has : (ℕ → Key) → Option Inode → ℕ → Bool
inode-has keys None page = false
inode-has keys (Some inode) page = kind-has keys inode inode.kind page

-- ---- spaces

pub label-mapped : (bytes : ℕ → List ℕ) (first size : ℕ) (found : Option Mapping) → count_below (λ n. is_label (first + n) (page_number found)) size ≤ one_if (is_some (option_map (page_of bytes) found))
label-mapped bytes first size None = omega (arith, count-never (λ n. false) size (λ n below. refl))
label-mapped bytes first size (Some found) = count-label first (page_number (Some found)) size

-- the pages that a process's space maps are at most its mapped page numbers
pub space-few : (machine : KernelMachine) (first size : ℕ) (space : Option ℕ) → count_below (λ n. maps machine.forest.keys space (2 ^ 19) (first + n)) size ≤ mapped_pages (memory_in machine space)
unfolding maps mapped_pages memory_in memory_by at
space-few machine first size None = omega (arith, count-never (λ n. false) size (λ n below. refl))
space-few machine first size (Some space) =
    let memory : Memory = memory_by machine.page_bytes (map_of machine.forest.keys space) in
    let all = count-any (λ number n. is_label (first + n) (shared_page machine.forest.keys (space, number))) size (2 ^ 19) in
    let each = sum-less (λ number. count_below (λ n. is_label (first + n) (shared_page machine.forest.keys (space, number))) size) (λ number. one_if (is_some (at memory number))) (2 ^ 19)
    (λ number below. label-mapped machine.page_bytes first size (map_of machine.forest.keys space number)) in
    let ones = sum-ones (λ number. is_some (at memory number)) (2 ^ 19) in
    omega arith

-- the pages that it maps at its first page numbers are no more than these
pub file-few : (keys : ℕ → Key) (first size root limit : ℕ) → count_below (λ n. maps keys (Some root) limit (first + n)) size ≤ limit
unfolding maps
file-few keys first size root limit =
    let all = count-any (λ number n. is_label (first + n) (shared_page keys (root, number))) size limit in
    let each = sum-at-most-one (λ number. count_below (λ n. is_label (first + n) (shared_page keys (root, number))) size) limit
    (λ number below. count-label first (shared_page keys (root, number)) size) in
    omega arith

-- ---- domains

pub sent-live : (machine : KernelMachine) (domain : Domain) (request : Request) (bytes : List ℕ) (call : Option Call)
    → live_pages (process_in machine domain) (sent_call request bytes call) ≡ mapped_pages (process_in machine domain).memory + 1
sent-live machine domain request bytes None = refl
sent-live machine domain request bytes (Some call) = refl

has-few : (machine : KernelMachine) (first size : ℕ) (domain : Domain) → count_below (λ n. domain-has machine.forest.keys domain (first + n)) size ≤ mapped_pages (process_in machine domain).memory + 1
unfolding domain-has process_in
has-few machine first size domain =
    let both = count-or (λ n. maps machine.forest.keys domain.space (2 ^ 19) (first + n)) (λ n. is_label (first + n) domain.buffer) size in
    omega (arith, space-few machine first size domain.space, count-label first domain.buffer size)

has-none : (keys : ℕ → Key) (first size : ℕ) (domain : Domain) → domain.space ≡ None → domain.buffer ≡ None → count_below (λ n. domain-has keys domain (first + n)) size ≡ 0
unfolding domain-has maps
has-none keys first size domain no_space no_buffer = count-never (λ n. domain-has keys domain (first + n)) size (λ n below. rw (no_space, no_buffer) refl)

pub domain-few : (machine : KernelMachine) (first size : ℕ) (bytes : ℕ → List ℕ) (domain : Domain) (phase : Phase) → (phase ≡ Zombie → (domain.space ≡ None) × (domain.buffer ≡ None))
    → count_below (λ n. domain-has machine.forest.keys domain (first + n)) size ≤ live_pages (process_in machine domain) (phase_in bytes domain phase)
domain-few machine first size bytes domain Run fits = has-few machine first size domain
domain-few machine first size bytes domain Asked fits = has-few machine first size domain
domain-few machine first size bytes domain Sent fits = rw (sent-live machine domain domain.request _ (call_of domain.request.call)) (has-few machine first size domain)
domain-few machine first size bytes domain Done fits = has-few machine first size domain
domain-few machine first size bytes domain Exiting fits = has-few machine first size domain
domain-few machine first size bytes domain Zombie fits = omega (arith, has-none machine.forest.keys first size domain (fits refl).0 (fits refl).1)

-- a slot and who is in it
pub slot-few : (machine : KernelMachine) (first size slot : ℕ) (there : Option ℕ) → ((root : ℕ) → there ≡ Some root → HasEnded (at machine.domains root))
    → count_below (λ n. slot-has machine.forest.keys machine.domains there (first + n)) size ≤ process_pages (option_map (λ root. process_in machine (at machine.domains root)) there)
unfolding slot-has process_in
slot-few machine first size slot None fits = omega (arith, count-never (λ n. false) size (λ n below. refl))
slot-few machine first size slot (Some root) fits = domain-few machine first size machine.page_bytes (at machine.domains root) (at machine.domains root).phase (fits root refl)

-- ---- inodes

pub pages-long : (memory : Memory) → ((number : ℕ) → length (mapped_bytes (at memory number)) ≡ 4096) → (n : ℕ) → length (pages_in memory n) ≡ 4096 * n
unfolding pages_in
pages-long memory whole zero = refl
pages-long memory whole (suc n) = omega (arith, length-append (pages_in memory n) (mapped_bytes (at memory n)), pages-long memory whole n, whole n)

-- a file has as many bytes as its row says
pub file-long : (memory : Memory) → ((number : ℕ) → length (mapped_bytes (at memory number)) ≡ 4096) → (size : ℕ) → length (file_in memory size) ≡ size
unfolding file_in
file-long memory whole size =
    let long : length (pages_in memory (pages_of size)) ≡ 4096 * pages_of size = pages-long memory whole (pages_of size) in
    length-take-le size (pages_in memory (pages_of size)) (omega (arith, long))

pub places-long : (bytes : List ℕ) (n : ℕ) → length (places_in bytes n) ≡ n
unfolding places_in
places-long bytes zero = refl
places-long bytes (suc n) = omega (arith, length-append (places_in bytes n) (place_in (part_at bytes (place_bytes * n) place_bytes) ∷ []), places-long bytes n)

-- the pages that a file, and a directory, is promised
pub file-pages : (machine : KernelMachine) (row : Inode) → ((number : ℕ) → length (mapped_bytes (at (file_memory machine row.root) number)) ≡ 4096)
    → inode_pages (Some (inode_by machine row File)) ≡ pages_of row.length
file-pages machine row whole = ap pages_of (file-long (file_memory machine row.root) whole row.length)

pub places-pages : (machine : KernelMachine) (row : Inode) → row.length % 32 ≡ 0 → inode_pages (Some (inode_by machine row Dir)) ≡ pages_of row.length
places-pages machine row places =
    let all : 32 * (row.length / 32) ≡ row.length = omega arith in
    ap (λ n. pages_of (32 * n)) (places-long (stored machine row) (row.length / 32)) ∙ ap pages_of all

pub kind-few : (machine : KernelMachine) (first size : ℕ) (row : Inode) (kind : InodeKind)
    → ((number : ℕ) → length (mapped_bytes (at (file_memory machine row.root) number)) ≡ 4096) → (kind ≡ Dir → row.length % 32 ≡ 0)
    → count_below (λ n. kind-has machine.forest.keys row kind (first + n)) size ≤ inode_pages (Some (inode_by machine row kind))
unfolding kind-has
kind-few machine first size row File whole places = rw (file-pages machine row whole) (file-few machine.forest.keys first size row.root (pages_of row.length))
kind-few machine first size row Dir whole places = rw (places-pages machine row (places refl)) (file-few machine.forest.keys first size row.root (pages_of row.length))
kind-few machine first size row Pipe whole places = count-label first (Some row.root) size
kind-few machine first size row Console whole places = omega (arith, count-never (λ n. false) size (λ n below. refl))

pub inode-few : (machine : KernelMachine) (first size : ℕ) (there : Option Inode)
    → ((row : Inode) → there ≡ Some row → (number : ℕ) → length (mapped_bytes (at (file_memory machine row.root) number)) ≡ 4096)
    → ((row : Inode) → there ≡ Some row → row.kind ≡ Dir → row.length % 32 ≡ 0)
    → count_below (λ n. inode-has machine.forest.keys there (first + n)) size ≤ inode_pages (option_map (inode_in machine) there)
unfolding inode-has inode_in
inode-few machine first size None whole places = omega (arith, count-never (λ n. false) size (λ n below. refl))
inode-few machine first size (Some row) whole places = kind-few machine first size row row.kind (whole row refl) (places row refl)
