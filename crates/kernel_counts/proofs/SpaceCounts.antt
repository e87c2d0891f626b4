-- Calls on spaces and buffers leave the counts.
use Rattle.std.proofs.Common.{◌≡◌, ◌≢◌, ◌+◌, ◌-◌, ℕ, true, false, Option, Some, None, List, [], refl, sym, ap, ap₂, subst, ◌∙◌}
use Rattle.std.specs.Prelude.{◌/◌, ◌==◌, if◌then◌else◌, is_some, option_map}
use Rattle.std.specs.List.{count_by}
use Rattle.std.proofs.Math.Path.{fun_ext}
use Rattle.kernel_tables.specs.declared.inode.Inode.{Inode}
use Rattle.kernel_tables.specs.declared.inode.InodeKind.{InodeKind}
use Rattle.kernel_tables.specs.declared.inode.InodeKind.TheVariants.{File, Dir, Pipe, Console}
use Rattle.kn_base.specs.Memory.{zero_page}
use Rattle.kernel_tables.specs.declared.entry.Entry.TheVariants.{Free, Taken}
use Rattle.kernel_tables.specs.declared.entry.PageOwner.TheVariants.{Pipe as PipePage}
use Rattle.kernel_tables.specs.Kernel.{Kernel, first_page, memory_page}
use Rattle.kernel_tables.specs.Rows.{entry_at}
use Rattle.space_bank.proofs.EntryLaws.{free_spelled}
use Rattle.space_bank.proofs.FreeListLaws.{entry_inside}
use Rattle.domain.proofs.Pages.{forest_paged}
use Rattle.kernel_machine.proofs.OwnerLaws.{free-tree, none-shares, owned-no-tree}
use Rattle.kernel_machine.proofs.StandingLaws.{same-memory}
use Rattle.kernel_tables.specs.Rows.{KeepsRows, is_fixed, of_domain}
use Rattle.space_bank.specs.Shares.{Outside}
use Rattle.forest.specs.Forest.{Forest, IsSpace}
use Rattle.forest.specs.Walks.{map_of}
use Rattle.forest.specs.Objects.{NodeObject, OfFile, OfProcess}
use Rattle.kernel_forest.specs.Owners.{page_owners}
use Rattle.kernel_forest.specs.Trees.{forest_of, TreesGood}
use Rattle.kernel_forest.proofs.RowLaws.{domains_apart, fixed_apart}
use Rattle.kernel_forest.proofs.Owners.{owned-inside}
use Rattle.file_tables.specs.Roots.{named_by}
use Rattle.user_copy.specs.SpaceMemory.{memory_by, space_memory}
use Rattle.domain.specs.Buffers.{WritesBuffer}
use Rattle.domain.specs.Domains.{Domain, domains, domain_at, roots, roots_by}
use Rattle.unix_model.specs.Files.{entry_names, links, places_of}
use Rattle.unix_model.specs.Limits.{place_bytes}
use Rattle.unix_model.specs.Memory.{Memory}
use Rattle.unix_model.specs.Tables.{at, with_at, sum_below}
use Rattle.kernel_counts.specs.Counted as law
use Rattle.kernel_counts.specs.Counted.{CountsOff, Offs}
use Rattle.kernel_counts.proofs.CountsStand.{same-descriptors}
use Rattle.kernel_counts.proofs.DomainCounts.{counted-by}
use Rattle.kernel_machine.specs.Contents.{file_in, places_in}
use Rattle.kernel_machine.specs.Machine.{machine_of, inodes_of, descriptions_of}
use Rattle.kernel_machine.specs.Trees.{HasTree, RootsGood}
use Rattle.kernel_machine.specs.View.{inode_by, inode_in, inodes_in, memory_in}
use Rattle.kernel_machine.proofs.AddStands.{outside-owned}
use Rattle.kernel_machine.proofs.BufferStands.{buffer-memory, gone-memory}
use Rattle.kernel_machine.proofs.HeldLaws.{stays}
use Rattle.kernel_machine.proofs.LooseLaws.{not-loose}
use Rattle.kernel_machine.proofs.MemoryLaws.{memory-kept, tree-of}
use Rattle.kernel_machine.proofs.SpacesStand.{memory-by-map}
use Rattle.kernel_machine.proofs.SpacesStand as spaces

-- ---- names, where the trees of inodes have the memories that they had

-- the trees of inodes keep their memories
abbrev KeepsTrees : Kernel → Kernel → Type 0
KeepsTrees old new =
    (number : ℕ) (inode : Inode) → at (inodes_of old) number ≡ Some inode → HasTree inode.kind → inode.root ≢ 0 → space_memory new inode.root ≡ space_memory old inode.root

-- what a memory is, by the machine
by-machine : (kernel : Kernel) (space : ℕ) → memory_in (machine_of kernel) (Some space) ≡ space_memory kernel space
unfolding memory_in machine_of
by-machine kernel space = refl

places-kept : (old new : Kernel) (inode : Inode) (kind : InodeKind) → (HasTree kind → inode.root ≢ 0 → space_memory new inode.root ≡ space_memory old inode.root)
    → places_of (Some (inode_by (machine_of new) inode kind)) ≡ places_of (Some (inode_by (machine_of old) inode kind))
places-kept old new inode File same = refl
places-kept old new inode Dir same =
    ap (λ (memory : Memory). places_in (file_in memory inode.length) (inode.length / place_bytes))
    (memory-kept (machine_of old) (machine_of new) inode.root (λ some. by-machine new inode.root ∙ same tt some ∙ sym (by-machine old inode.root)))
places-kept old new inode Pipe same = refl
places-kept old new inode Console same = refl

links-kept : (old new : Kernel) → inodes_of new ≡ inodes_of old → KeepsTrees old new → (number : ℕ) → links (inodes_in (machine_of new)) number ≡ links (inodes_in (machine_of old)) number
unfolding links inodes_in inode_in machine_of at
links-kept old new inodes trees number =
    ap (λ f. sum_below f 1024 + (if number == 1 then 1 else 0))
    (fun_ext (λ n.
    ap (λ (table : ℕ → Option Inode). count_by (entry_names number) (places_of (option_map (inode_in (machine_of new)) (at table n)))) inodes
    ∙ by-row n (at (inodes_of old) n) refl))
  where
    by-row : (n : ℕ) (row : Option Inode) → at (inodes_of old) n ≡ row
        → count_by (entry_names number) (places_of (option_map (inode_in (machine_of new)) row)) ≡ count_by (entry_names number) (places_of (option_map (inode_in (machine_of old)) row))
    by-row n None is = refl
    by-row n (Some inode) is = ap (count_by (entry_names number)) (places-kept old new inode inode.kind (trees n inode is))

-- rows of domains are the same, and the trees of inodes
spaces-counted : (old new : Kernel) (offs : Offs) → KeepsRows old new → inodes_of new ≡ inodes_of old → descriptions_of new ≡ descriptions_of old → KeepsTrees old new → CountsOff old offs → CountsOff new offs
unfolding machine_of
spaces-counted old new offs rows inodes descriptions trees counts =
    let same : domains new ≡ domains old = ap domain_at (rows of_domain domains_apart) in
    let slots : roots new ≡ roots old = ap roots_by (rows is_fixed fixed_apart) in
    counted-by old new offs inodes descriptions (links-kept old new inodes trees)
    (same-descriptors (machine_of old) (machine_of new) slots (λ root. ap (λ (table : ℕ → Domain). (at table root).descriptors) same)) counts

-- ---- calls on spaces

-- the tree of an inode is a space
its-space : (kernel : Kernel) → RootsGood (forest_of kernel) (memory_page kernel) (page_owners kernel) (inodes_of kernel) → (number : ℕ) (inode : Inode) → at (inodes_of kernel) number ≡ Some inode
    → HasTree inode.kind → inode.root ≢ 0 → IsSpace (forest_of kernel) [] inode.root × ((forest_of kernel).owner (NodeObject inode.root) ≡ Some OfFile)
its-space kernel good number inode found tree some = tree-of (forest_of kernel) (memory_page kernel) (page_owners kernel) inode inode.kind (good.each number inode found) tree some

pub counts_with_memory : law.CountsWithMemory
unfolding inodes_of descriptions_of
counts_with_memory old new space offs leaves owner standing counts =
    spaces-counted old new offs leaves.rows_now (ap inodes_of leaves.rest) (ap descriptions_of leaves.rest)
    (λ number inode found tree some.
    let h = its-space old standing.roots number inode found tree some in
    leaves.memories inode.root h.0 (λ same. let no : Some OfFile ≡ Some OfProcess = sym h.1 ∙ ap (λ n. (forest_of old).owner (NodeObject n)) same ∙ owner in cc)) counts

pub counts_with_loose : law.CountsWithLoose
unfolding inodes_of descriptions_of
counts_with_loose old new space owner offs leaves standing counts =
    spaces-counted old new offs leaves.rows_now (ap inodes_of leaves.rest) (ap descriptions_of leaves.rest)
    (λ number inode found tree some.
    let h = its-space old standing.roots number inode found tree some in
    leaves.memories inode.root h.0 (not-loose owner space (domains old) (forest_of old) (page_owners old) (inodes_of old) standing.is_loose number inode found tree some h.1)) counts

pub counts_with_space : law.CountsWithSpace
unfolding inodes_of descriptions_of
counts_with_space old new space owner key map offs adds standing counts =
    let added = (adds.adds (named_by old.inodes) standing.trees).1 in
    spaces-counted old new offs adds.rows_now (ap inodes_of adds.rest) (ap descriptions_of adds.rest)
    (λ number inode found tree some.
    let h = its-space old standing.roots number inode found tree some in
    memory-by-map old new inode.root
    (added.others.maps inode.root h.0 (λ same.
    let no : true ≡ false = sym h.0.owned ∙ ap (λ n. is_some ((forest_of old).owner (NodeObject n))) same ∙ ap is_some added.fresh in cc))
    (λ page mapping mapped. ap (λ (k : Kernel). memory_page k mapping.page) adds.rest)) counts

pub counts_with_space_dropped : law.CountsWithSpaceDropped
unfolding inodes_of descriptions_of
counts_with_space_dropped old new space owner offs drops bank standing counts =
    let dropped = drops.drops (named_by old.inodes) (subst (λ (outside : Outside). TreesGood old outside []) (outside-owned old owner space) standing.trees) in
    spaces-counted old new offs drops.rows_now (ap inodes_of drops.rest) (ap descriptions_of drops.rest)
    (λ number inode found tree some.
    let h = its-space old standing.roots number inode found tree some in
    let apart = not-loose owner space (domains old) (forest_of old) (page_owners old) (inodes_of old) standing.is_loose number inode found tree some h.1 in
    spaces.memory-kept old new drops.rest bank dropped.0.held.sound drops.keeps.bytes inode.root (dropped.1.others.stay inode.root h.0 apart) (dropped.1.others.maps inode.root h.0 apart)) counts

-- ---- buffers

-- a domain has another buffer
buffers-counted : (old new : Kernel) (root : ℕ) (domain : Domain) (offs : Offs) → domains new ≡ with_at (domains old) root domain → domain.descriptors ≡ (at (domains old) root).descriptors → roots new ≡ roots old
    → inodes_of new ≡ inodes_of old → descriptions_of new ≡ descriptions_of old → KeepsTrees old new → CountsOff old offs → CountsOff new offs
unfolding machine_of
buffers-counted old new root domain offs now same slots inodes descriptions trees counts =
    counted-by old new offs inodes descriptions (links-kept old new inodes trees)
    (same-descriptors (machine_of old) (machine_of new) slots (λ r. ap (λ (table : ℕ → Domain). (at table r).descriptors) now ∙ stays (domains old) root domain (λ d. d.descriptors) same r)) counts

by-buffer : (old new : Kernel) (root start : ℕ) (bytes : List ℕ) (held : Option ℕ) (offs : Offs) → WritesBuffer old new root start bytes held → KeepsTrees old new → CountsOff old offs → CountsOff new offs
unfolding inodes_of descriptions_of machine_of
by-buffer old new root start bytes (Some page) offs writes trees counts =
    counted-by old new offs (ap inodes_of writes) (ap descriptions_of writes) (links-kept old new (ap inodes_of writes) trees)
    (same-descriptors (machine_of old) (machine_of new) (ap roots writes) (λ root. ap (λ (k : Kernel). (at (domains k) root).descriptors) writes)) counts
by-buffer old new root start bytes None offs first trees counts =
    let takes = first.takes in
    buffers-counted old new root (let was = at (domains old) root in record was { buffer = Some first.page }) offs
    (ap domains first.writes ∙ takes.domains_now) refl (ap roots first.writes ∙ ap roots_by takes.fixed_now)
    (ap inodes_of first.writes ∙ ap inodes_of takes.rest) (ap descriptions_of first.writes ∙ ap descriptions_of takes.rest) trees counts

pub counts_with_buffer : law.CountsWithBuffer
counts_with_buffer old new root start bytes offs writes live inside bank rows standing counts =
    by-buffer old new root start bytes (at (domains old) root).buffer offs writes
    (λ number inode found tree some. buffer-memory old new root start bytes writes live inside bank rows standing inode.root (its-space old standing.roots number inode found tree some).0) counts

pub counts_without_buffer : law.CountsWithoutBuffer
unfolding inodes_of descriptions_of
counts_without_buffer old new root page offs drops has standing counts =
    buffers-counted old new root (let was = at (domains old) root in record was { buffer = None }) offs drops.domains_now refl (ap roots_by drops.fixed_now)
    (ap inodes_of drops.given) (ap descriptions_of drops.given)
    (λ number inode found tree some. gone-memory old new root page drops has standing inode.root (its-space old standing.roots number inode found tree some).0) counts

-- ---- pages of pipes

-- a page of no tree has another entry
paged : (old new : Kernel) (offs : Offs) → forest_of new ≡ forest_of old → domains new ≡ domains old → roots new ≡ roots old
    → inodes_of new ≡ inodes_of old → descriptions_of new ≡ descriptions_of old → KeepsTrees old new → CountsOff old offs → CountsOff new offs
unfolding machine_of
paged old new offs forest same slots inodes descriptions trees counts =
    counted-by old new offs inodes descriptions (links-kept old new inodes trees)
    (same-descriptors (machine_of old) (machine_of new) slots (λ root. ap (λ (table : ℕ → Domain). (at table root).descriptors) same)) counts

pub counts_with_page : law.CountsWithPage
unfolding inodes_of descriptions_of
counts_with_page old new page offs takes counts =
    let free = free-tree (entry_at old.page_entries (page - first_page old.size)) takes.was_free in
    let inside = entry_inside old.page_entries (page - first_page old.size) (free_spelled (entry_at old.page_entries (page - first_page old.size)) takes.was_free) in
    let forest : forest_of new ≡ forest_of old =
    ap forest_of takes.state
    ∙ forest_paged old (page - first_page old.size) (Taken PipePage 1) inside free refl (none-shares (entry_at old.page_entries (page - first_page old.size)) free) refl
    in
    paged old new offs forest (ap domains takes.state) (ap roots takes.state) (ap inodes_of takes.state) (ap descriptions_of takes.state)
    (λ number inode found tree some. ap₂ (λ (bytes : ℕ → List ℕ) (f : Forest). memory_by bytes (map_of f.keys inode.root)) (ap memory_page takes.state) forest) counts

pub counts_without_page : law.CountsWithoutPage
unfolding inodes_of descriptions_of
counts_without_page old new page offs given standing counts =
    let owned = standing.is_loose.taken in
    let none = owned-no-tree old page PipePage owned refl in
    let forest : forest_of new ≡ forest_of old =
    ap forest_of given
    ∙ forest_paged old (page - first_page old.size) (Free old.machine.free_page) (owned-inside old page PipePage owned) none refl (none-shares (entry_at old.page_entries (page - first_page old.size)) none) refl
    in
    paged old new offs forest (ap domains given) (ap roots given) (ap inodes_of given) (ap descriptions_of given)
    (λ number inode found tree some.
    ap₂ (λ (bytes : ℕ → List ℕ) (f : Forest). memory_by bytes (map_of f.keys inode.root)) (ap memory_page given) forest
    ∙ same-memory old page PipePage zero_page owned refl standing.bank standing.trees.held.sound inode.root (its-space old standing.roots number inode found tree some).0) counts
