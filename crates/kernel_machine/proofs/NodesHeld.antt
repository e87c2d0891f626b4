-- The nodes that a domain or an inode has, by the pages that it is promised.
use Rattle.std.proofs.Common.{◌≡◌, ℕ, suc, ◌+◌, ◌*◌, ◌^◌, ◌≤◌, Bool, false, Option, Some, None, List, length, drop, arith, refl, ◌||◌}
use Rattle.std.specs.Option.{is_some}
use Rattle.std.specs.Prelude.{option_map, ◌%◌}
use Rattle.kn_base.specs.declared.key.Key.{Key}
use Rattle.kernel_tables.specs.declared.inode.Inode.{Inode}
use Rattle.kernel_tables.specs.declared.inode.InodeKind.{InodeKind}
use Rattle.kernel_tables.specs.declared.inode.InodeKind.TheVariants.{File, Dir, Pipe, Console}
use Rattle.unix_model.specs.Files.{inode_pages}
use Rattle.unix_model.specs.Memory.{Memory, mapped_pages}
use Rattle.unix_model.specs.Numbers.{pages_of}
use Rattle.unix_model.specs.Room.{live_pages, process_pages}
use Rattle.unix_model.specs.Tables.{at, any_below, count_below, sum_below}
use Rattle.unix_model.specs.Calls.{call_of}
use Rattle.unix_model.proofs.CountLaws.{one_if}
use Rattle.forest.specs.Objects.{Object, PageObject, NodeObject, named}
use Rattle.forest.specs.Walks.{Mapping, map_of, key_along, space_key, page_way}
use Rattle.user_copy.specs.SpaceMemory.{memory_by, page_of}
use Rattle.domain.specs.declared.types.Phase.{Phase}
use Rattle.domain.specs.declared.types.Phase.TheVariants.{Run, Asked, Sent, Done, Exiting, Zombie}
use Rattle.domain.specs.Domains.{Domain}
use Rattle.domain.specs.Keys.{node_in}
use Rattle.kernel_machine.specs.Machine.{KernelMachine}
use Rattle.kernel_machine.specs.Bounds.{HasEnded}
use Rattle.kernel_machine.specs.Contents.{mapped_bytes}
use Rattle.kernel_machine.specs.View.{memory_in, phase_in, process_in, file_memory, inode_by, inode_in}
use Rattle.kernel_machine.proofs.Counting.{count-never, count-any, count-or, count-named, is_label, sum-less, sum-fours, sum-at-most-four}
use Rattle.kernel_machine.proofs.PagesHeld.{sent-live, file-pages, places-pages}

-- the number of a node
abbrev pub node_number : Option Object → Option ℕ
node_number None = None
node_number (Some (PageObject page)) = None
node_number (Some (NodeObject node)) = Some node

-- the node on the way to a mapped page, so many levels above it
abbrev pub on_way : (ℕ → Key) → ℕ → ℕ → Option Mapping → ℕ → Option ℕ
on_way keys space number None level = None
on_way keys space number (Some mapping) level = node_number (named (key_along keys (space_key space) (drop (suc level) (page_way number))))

-- one of the four nodes on the way to a page
unfoldable pub leads : (ℕ → Key) → ℕ → ℕ → ℕ → Bool
leads keys space number node = any_below (λ level. is_label node (on_way keys space number (map_of keys space number) level)) 4

-- a space has a node: its root, or one on the way to one of its first pages
unfoldable pub space-has : (ℕ → Key) → Option ℕ → ℕ → ℕ → Bool
space-has keys None limit node = false
space-has keys (Some space) limit node = is_label node (Some space) || any_below (λ number. leads keys space number node) limit

unfoldable pub own-has : (ℕ → ℕ → Key) → ℕ → ℕ → Bool
own-has rows root node = is_label node (Some root) || (is_label node (node_in (rows root 3)) || is_label node (node_in (rows root 4)))

unfoldable pub slot-has : (ℕ → Key) → (ℕ → ℕ → Key) → (ℕ → Domain) → Option ℕ → ℕ → Bool
slot-has keys rows domains None node = false
slot-has keys rows domains (Some root) node = own-has rows root node || space-has keys (at domains root).space (2 ^ 19) node

unfoldable pub kind-has : (ℕ → Key) → Inode → InodeKind → ℕ → Bool
kind-has keys inode File node = space-has keys (Some inode.root) (pages_of inode.length) node
kind-has keys inode Dir node = space-has keys (Some inode.root) (pages_of inode.length) node
kind-has keys inode Pipe node = false
kind-has keys inode Console node = false

unfoldable pub inode-has : (ℕ → Key) → Option Inode → ℕ → Bool
inode-has keys None node = false
inode-has keys (Some inode) node = kind-has keys inode inode.kind node

-- ---- spaces

leads-few : (keys : ℕ → Key) (space number nodes : ℕ) → count_below (leads keys space number) nodes ≤ 4
unfolding leads sum_below
leads-few keys space number nodes =
    let all = count-any (λ level node. is_label node (on_way keys space number (map_of keys space number) level)) nodes 4 in
    omega (
      arith,
      count-named (on_way keys space number (map_of keys space number) 0) nodes,
      count-named (on_way keys space number (map_of keys space number) 1) nodes,
      count-named (on_way keys space number (map_of keys space number) 2) nodes,
      count-named (on_way keys space number (map_of keys space number) 3) nodes,
    )

leads-none : (keys : ℕ → Key) (space number node : ℕ) (found : Option Mapping) → map_of keys space number ≡ found → found ≡ None → leads keys space number node ≡ false
unfolding leads any_below
leads-none keys space number node found e none = rw (e, none) refl

leads-mapped : (keys : ℕ → Key) (bytes : ℕ → List ℕ) (space number nodes : ℕ) (found : Option Mapping) → map_of keys space number ≡ found
    → count_below (leads keys space number) nodes ≤ 4 * one_if (is_some (option_map (page_of bytes) found))
leads-mapped keys bytes space number nodes None e = omega (arith, count-never (leads keys space number) nodes (λ n below. leads-none keys space number n None e refl))
leads-mapped keys bytes space number nodes (Some found) e = leads-few keys space number nodes

space-few : (machine : KernelMachine) (nodes : ℕ) (space : ℕ) → count_below (space-has machine.forest.keys (Some space) (2 ^ 19)) nodes ≤ 4 * mapped_pages (memory_in machine (Some space)) + 1
unfolding space-has mapped_pages memory_in memory_by at
space-few machine nodes space =
    let memory : Memory = memory_by machine.page_bytes (map_of machine.forest.keys space) in
    let both = count-or (λ node. is_label node (Some space)) (λ node. any_below (λ number. leads machine.forest.keys space number node) (2 ^ 19)) nodes in
    let all = count-any (λ number node. leads machine.forest.keys space number node) nodes (2 ^ 19) in
    let each = sum-less (λ number. count_below (leads machine.forest.keys space number) nodes) (λ number. 4 * one_if (is_some (at memory number))) (2 ^ 19)
    (λ number below. leads-mapped machine.forest.keys machine.page_bytes space number nodes (map_of machine.forest.keys space number) refl) in
    let fours = sum-fours (λ number. is_some (at memory number)) (2 ^ 19) in
    let root = count-named (Some space) nodes in
    omega arith

file-few : (keys : ℕ → Key) (nodes root limit : ℕ) → count_below (space-has keys (Some root) limit) nodes ≤ 4 * limit + 1
unfolding space-has
file-few keys nodes root limit =
    let both = count-or (λ node. is_label node (Some root)) (λ node. any_below (λ number. leads keys root number node) limit) nodes in
    let all = count-any (λ number node. leads keys root number node) nodes limit in
    let each = sum-at-most-four (λ number. count_below (leads keys root number) nodes) limit (λ number below. leads-few keys root number nodes) in
    let own = count-named (Some root) nodes in
    omega arith

-- ---- domains

own-few : (rows : ℕ → ℕ → Key) (root nodes : ℕ) → count_below (own-has rows root) nodes ≤ 3
unfolding own-has
own-few rows root nodes =
    let both = count-or (λ node. is_label node (Some root)) (λ node. is_label node (node_in (rows root 3)) || is_label node (node_in (rows root 4))) nodes in
    let rest = count-or (λ node. is_label node (node_in (rows root 3))) (λ node. is_label node (node_in (rows root 4))) nodes in
    omega (arith, count-named (Some root) nodes, count-named (node_in (rows root 3)) nodes, count-named (node_in (rows root 4)) nodes)

-- a space, if there is one, beside one page more
some-few : (machine : KernelMachine) (nodes : ℕ) (space : Option ℕ) → count_below (space-has machine.forest.keys space (2 ^ 19)) nodes ≤ 4 * (mapped_pages (memory_in machine space) + 1)
unfolding space-has
some-few machine nodes None = omega (arith, count-never (λ n. false) nodes (λ n below. refl))
some-few machine nodes (Some space) = omega (arith, space-few machine nodes space)

none-few : (keys : ℕ → Key) (nodes : ℕ) (space : Option ℕ) → space ≡ None → count_below (space-has keys space (2 ^ 19)) nodes ≡ 0
unfolding space-has
none-few keys nodes space none = count-never (space-has keys space (2 ^ 19)) nodes (λ n below. rw none refl)

process-few : (machine : KernelMachine) (nodes : ℕ) (bytes : ℕ → List ℕ) (domain : Domain) (phase : Phase) → (phase ≡ Zombie → (domain.space ≡ None) × (domain.buffer ≡ None))
    → count_below (space-has machine.forest.keys domain.space (2 ^ 19)) nodes ≤ 4 * live_pages (process_in machine domain) (phase_in bytes domain phase)
unfolding process_in
process-few machine nodes bytes domain Run fits = some-few machine nodes domain.space
process-few machine nodes bytes domain Asked fits = some-few machine nodes domain.space
process-few machine nodes bytes domain Sent fits = rw (sent-live machine domain domain.request _ (call_of domain.request.call)) (some-few machine nodes domain.space)
process-few machine nodes bytes domain Done fits = some-few machine nodes domain.space
process-few machine nodes bytes domain Exiting fits = some-few machine nodes domain.space
process-few machine nodes bytes domain Zombie fits = omega (arith, none-few machine.forest.keys nodes domain.space (fits refl).0)

pub slot-few : (machine : KernelMachine) (rows : ℕ → ℕ → Key) (nodes : ℕ) (there : Option ℕ) → ((root : ℕ) → there ≡ Some root → HasEnded (at machine.domains root))
    → count_below (slot-has machine.forest.keys rows machine.domains there) nodes ≤ 4 * process_pages (option_map (λ root. process_in machine (at machine.domains root)) there) + 3
unfolding slot-has process_in
slot-few machine rows nodes None fits = omega (arith, count-never (λ n. false) nodes (λ n below. refl))
slot-few machine rows nodes (Some root) fits =
    let both = count-or (own-has rows root) (space-has machine.forest.keys (at machine.domains root).space (2 ^ 19)) nodes in
    omega (arith, own-few rows root nodes, process-few machine nodes machine.page_bytes (at machine.domains root) (at machine.domains root).phase (fits root refl))

-- ---- inodes

kind-few : (machine : KernelMachine) (nodes : ℕ) (row : Inode) (kind : InodeKind)
    → ((number : ℕ) → length (mapped_bytes (at (file_memory machine row.root) number)) ≡ 4096) → (kind ≡ Dir → row.length % 32 ≡ 0)
    → count_below (kind-has machine.forest.keys row kind) nodes ≤ 4 * inode_pages (Some (inode_by machine row kind)) + 1
unfolding kind-has
kind-few machine nodes row File whole places = rw (file-pages machine row whole) (file-few machine.forest.keys nodes row.root (pages_of row.length))
kind-few machine nodes row Dir whole places = rw (places-pages machine row (places refl)) (file-few machine.forest.keys nodes row.root (pages_of row.length))
kind-few machine nodes row Pipe whole places = omega (arith, count-never (λ n. false) nodes (λ n below. refl))
kind-few machine nodes row Console whole places = omega (arith, count-never (λ n. false) nodes (λ n below. refl))

pub inode-few : (machine : KernelMachine) (nodes : ℕ) (there : Option Inode)
    → ((row : Inode) → there ≡ Some row → (number : ℕ) → length (mapped_bytes (at (file_memory machine row.root) number)) ≡ 4096)
    → ((row : Inode) → there ≡ Some row → row.kind ≡ Dir → row.length % 32 ≡ 0)
    → count_below (inode-has machine.forest.keys there) nodes ≤ 4 * inode_pages (option_map (inode_in machine) there) + 1
unfolding inode-has inode_in
inode-few machine nodes None whole places = omega (arith, count-never (λ n. false) nodes (λ n below. refl))
inode-few machine nodes (Some row) whole places = kind-few machine nodes row row.kind (whole row refl) (places row refl)
