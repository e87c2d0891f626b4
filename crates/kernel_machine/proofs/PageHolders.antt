-- Each taken page is one that a domain or an inode has.
use Rattle.std.proofs.Common.{◌≡◌, ◌≢◌, ℕ, zero, suc, ◌+◌, ◌-◌, ◌^◌, ◌<◌, ◌≤◌, Bool, true, false, Option, Some, None, List, [], ◌∷◌, length, arith, refl, sym, ap, ◌∙◌, ⊎_elim, ◌||◌, ◌/◌, ◌%◌, nat_lt}
use Rattle.std.specs.Option.{is_some, IsSome}
use Rattle.std.specs.Prelude.{option_map}
use Rattle.std.proofs.lemmas.Bool.{cases_lt, cases_eq, le-ltb, eq-eqb, ne_eqb, or_left, or_right}
use Rattle.std.proofs.lemmas.List.{length-replicate}
use Rattle.kn_base.specs.declared.key.Key.{Key}
use Rattle.kn_base.specs.Memory.{zero_page}
use Rattle.kernel_tables.specs.declared.entry.PageOwner.{PageOwner}
use Rattle.kernel_tables.specs.declared.entry.PageOwner.TheVariants.{Memory, File as FilePage, Directory, Pipe as PipePage, Buffer}
use Rattle.kernel_tables.specs.declared.entry.Entry.TheVariants.{Taken, Fixed}
use Rattle.kernel_tables.specs.declared.inode.Inode.{Inode}
use Rattle.kernel_tables.specs.declared.inode.InodeKind.{InodeKind}
use Rattle.kernel_tables.specs.declared.inode.InodeKind.TheVariants.{File, Dir, Pipe, Console}
use Rattle.kernel_tables.specs.Kernel.{Kernel, first_page, memory_page}
use Rattle.kernel_tables.specs.Rows.{entry_at, fixed_rows}
use Rattle.unix_model.specs.Numbers.{pages_of}
use Rattle.unix_model.specs.Tables.{at, nothing, any_below}
use Rattle.forest.specs.Objects.{Object, PageObject, NodeObject, Owner, OfProcess, OfFile}
use Rattle.forest.specs.Forest.{IsSpace, EndsAt}
use Rattle.forest.specs.Labels.{page_number, shared_page}
use Rattle.forest.specs.Walks.{Mapping, map_of, key_along, key_at_page, space_key, place_of, page_way, digits}
use Rattle.forest.proofs.OwnLaws.{owned_object, found_at, mapped_named}
use Rattle.forest.proofs.ReachLaws.{every_page_is_mapped}
use Rattle.forest.proofs.WalkLaws.{step}
use Rattle.kernel_forest.specs.Owners.{page_owner_of}
use Rattle.kernel_forest.specs.Trees.{forest_of, outside_trees, owner_of, page_tree}
use Rattle.kernel_forest.proofs.Bridge.{page_inside}
use Rattle.file_tables.specs.Roots.{named_by}
use Rattle.user_copy.specs.SpaceMemory.{memory_by, page_of}
use Rattle.domain.specs.Domains.{domains, roots_by}
pub use Rattle.domain.proofs.SlotLaws.{slot-below}
use Rattle.kernel_machine.specs.Machine.{machine_of, inodes_of}
use Rattle.kernel_machine.specs.Contents.{mapped_bytes}
use Rattle.kernel_machine.specs.Trees.{HasTree}
use Rattle.kernel_machine.specs.View.{memory_in, file_memory}
use Rattle.kernel_machine.specs.Bounds.{Accounted}
use Rattle.kernel_machine.proofs.Counting.{any-at, is_label}
use Rattle.kernel_machine.proofs.PagesHeld.{maps, domain-has, slot-has, kind-has, inode-has}

-- ---- pages and their owners

pub owner-there : (kernel : Kernel) (n count : ℕ) (owner : PageOwner) → entry_at kernel.page_entries n ≡ Taken owner count
    → (forest_of kernel).owner (PageObject (first_page kernel.size + n)) ≡ page_tree owner
unfolding owner_of
owner-there kernel n count owner e =
    let past : nat_lt (first_page kernel.size + n) (first_page kernel.size) ≡ false = le-ltb (first_page kernel.size + n) (first_page kernel.size) (omega arith) in
    let minus : first_page kernel.size + n - first_page kernel.size ≡ n = omega arith in
    rw (past, minus, e) refl

pub page-owner-there : (kernel : Kernel) (n count : ℕ) (owner : PageOwner) → entry_at kernel.page_entries n ≡ Taken owner count
    → at (page_owner_of (first_page kernel.size) kernel.page_entries) (first_page kernel.size + n) ≡ Some owner
unfolding page_owner_of at
page-owner-there kernel n count owner e =
    let past : nat_lt (first_page kernel.size + n) (first_page kernel.size) ≡ false = le-ltb (first_page kernel.size + n) (first_page kernel.size) (omega arith) in
    let minus : first_page kernel.size + n - first_page kernel.size ≡ n = omega arith in
    rw (past, minus, e) refl

-- a page number at which a page is found is mapped
record Mapped (found : Option Mapping) : Type 0 where
  mapping : Mapping
  is : found ≡ Some mapping

mapped-there : (found : Option Mapping) (page : ℕ) → page_number found ≡ Some page → Mapped found
mapped-there None page e = cc
mapped-there (Some mapping) page e = record { mapping = mapping; is = refl }

pub mapped-has : (keys : ℕ → Key) (space limit number page : ℕ) → number < limit → shared_page keys (space, number) ≡ Some page → maps keys (Some space) limit page ≡ true
unfolding maps
mapped-has keys space limit number page below e =
    any-at (λ k. is_label page (shared_page keys (space, k))) limit number below (ap (is_label page) e ∙ eq-eqb page page refl)

tree-has : (keys : ℕ → Key) (row : Inode) (kind : InodeKind) (page : ℕ) → HasTree kind → maps keys (Some row.root) (pages_of row.length) page ≡ true → kind-has keys row kind page ≡ true
unfolding kind-has
tree-has keys row File page tree has = has
tree-has keys row Dir page tree has = has
tree-has keys row Pipe page tree has = absurd tree
tree-has keys row Console page tree has = absurd tree

pipe-has : (keys : ℕ → Key) (row : Inode) (kind : InodeKind) (page : ℕ) → kind ≡ Pipe → row.root ≡ page → kind-has keys row kind page ≡ true
unfolding kind-has
pipe-has keys row File page pipe e = cc
pipe-has keys row Dir page pipe e = cc
pipe-has keys row Pipe page pipe e = eq-eqb row.root page e
pipe-has keys row Console page pipe e = cc

module _ (kernel : Kernel) (good : Accounted kernel) where
  abbrev keys : ℕ → Key
  keys = (forest_of kernel).keys

  unfoldable pub slots-have : ℕ → Bool
  slots-have page = any_below (λ slot. slot-has keys (domains kernel) (at (roots_by (fixed_rows kernel)) slot) page) 64

  unfoldable pub inodes-have : ℕ → Bool
  inodes-have page = any_below (λ number. inode-has keys (at (inodes_of kernel) number) page) 1024

  domain-in-slot : (root page : ℕ) → (at (domains kernel) root).live ≡ true → domain-has keys (at (domains kernel) root) page ≡ true → slots-have page ≡ true
  unfolding slots-have slot-has machine_of
  domain-in-slot root page live has =
      let slot = (at (domains kernel) root).slot in
      let there : at (roots_by (fixed_rows kernel)) slot ≡ Some root = good.machine.in_slots root live in
      any-at (λ k. slot-has keys (domains kernel) (at (roots_by (fixed_rows kernel)) k) page) 64 slot (slot-below (fixed_rows kernel) slot root there)
      (ap (λ own. slot-has keys (domains kernel) own page) there ∙ has)

  pub inode-below : (number : ℕ) (row : Inode) → at (inodes_of kernel) number ≡ Some row → number < 1024
  unfolding machine_of
  inode-below number row there = ⊎_elim
      (λ (t : number < 1024). t)
      (λ (t : 1024 ≤ number). absurd (let both : None ≡ Some row = sym (good.machine.last number t) ∙ there in cc))
      (cases_lt number 1024)

  inode-there : (number : ℕ) (row : Inode) (page : ℕ) → at (inodes_of kernel) number ≡ Some row → kind-has keys row row.kind page ≡ true → inodes-have page ≡ true
  unfolding inodes-have inode-has
  inode-there number row page there has =
      any-at (λ k. inode-has keys (at (inodes_of kernel) k) page) 1024 number (inode-below number row there) (ap (λ own. inode-has keys own page) there ∙ has)

  node-zero : (forest_of kernel).owner (NodeObject 0) ≡ None
  unfolding owner_of
  node-zero = let fixed : entry_at kernel.node_entries 0 ≡ Fixed = good.bank.nodes.fixed 0 (omega arith) in rw fixed refl

  pub space-real : (space : ℕ) (owner : Owner) → (forest_of kernel).owner (NodeObject space) ≡ Some owner → space ≢ 0
  space-real space owner e zero_root =
      let no : None ≡ Some owner = sym node-zero ∙ ap (λ n. (forest_of kernel).owner (NodeObject n)) (sym zero_root) ∙ e in cc

  process-page : (page : ℕ) → (forest_of kernel).owner (PageObject page) ≡ Some OfProcess → slots-have page ≡ true
  unfolding machine_of domain-has
  process-page page owned =
      let r = every_page_is_mapped (forest_of kernel) (outside_trees kernel (named_by kernel.inodes)) page good.trees good.pages_inside (ap is_some owned) in
      let space = r.0 in
      let number = r.1 in
      let h = good.machine.held.spaces space r.2 (r.3 ∙ owned) in
      let root = h.0 in
      let has : maps keys (Some space) (2 ^ 19) page ≡ true = mapped-has keys space (2 ^ 19) number page r.4 r.5 in
      domain-in-slot root page h.1 (or_left (maps keys (at (domains kernel) root).space (2 ^ 19) page) (is_label page (at (domains kernel) root).buffer)
      (ap (λ own. maps keys own (2 ^ 19) page) h.2 ∙ has))

  buffer-page : (page : ℕ) → at (page_owner_of (first_page kernel.size) kernel.page_entries) page ≡ Some Buffer → slots-have page ≡ true
  unfolding machine_of domain-has
  buffer-page page owned =
      let h = good.machine.held.buffers page owned in
      let root = h.0 in
      domain-in-slot root page h.1 (or_right (maps keys (at (domains kernel) root).space (2 ^ 19) page) (is_label page (at (domains kernel) root).buffer)
      (ap (is_label page) h.2 ∙ eq-eqb page page refl))

  -- a page that is found in a tree of files
  pub file-place : (space number page : ℕ) → IsSpace (forest_of kernel) [] space → (forest_of kernel).owner (NodeObject space) ≡ Some OfFile → shared_page keys (space, number) ≡ Some page
      → inodes-have page ≡ true
  unfolding machine_of
  file-place space number page is_space of_file there =
      let h = good.machine.held.trees space is_space of_file in
      let row = h.1 in
      let root_is : row.root ≡ space = h.4 in
      let real : row.root ≢ 0 = λ e. space-real space OfFile of_file (sym root_is ∙ e) in
      let found : shared_page keys (row.root, number) ≡ Some page = ap (λ s. shared_page keys (s, number)) root_is ∙ there in
      let m = mapped-there (map_of keys row.root number) page found in
      inode-there h.0 row page h.2 (tree-has keys row row.kind page h.3 (mapped-has keys row.root (pages_of row.length) number page (good.machine.within h.0 row h.2 h.3 real number m.mapping m.is) found))

  file-page : (page : ℕ) → (forest_of kernel).owner (PageObject page) ≡ Some OfFile → inodes-have page ≡ true
  file-page page owned =
      let r = every_page_is_mapped (forest_of kernel) (outside_trees kernel (named_by kernel.inodes)) page good.trees good.pages_inside (ap is_some owned) in
      file-place r.0 r.1 page r.2 (r.3 ∙ owned) r.5

  pipe-page : (page : ℕ) → at (page_owner_of (first_page kernel.size) kernel.page_entries) page ≡ Some PipePage → inodes-have page ≡ true
  unfolding machine_of
  pipe-page page owned =
      let h = good.machine.held.pipes page owned in
      inode-there h.0 h.1 page h.2 (pipe-has keys h.1 h.1.kind page h.3 h.4)

  pub owned-page : (n count : ℕ) (owner : PageOwner) → entry_at kernel.page_entries n ≡ Taken owner count
      → (slots-have (first_page kernel.size + n) || inodes-have (first_page kernel.size + n)) ≡ true
  owned-page n count Memory e = or_left _ _ (process-page (first_page kernel.size + n) (owner-there kernel n count Memory e))
  owned-page n count FilePage e = or_right _ _ (file-page (first_page kernel.size + n) (owner-there kernel n count FilePage e))
  owned-page n count Directory e = or_right _ _ (file-page (first_page kernel.size + n) (owner-there kernel n count Directory e))
  owned-page n count PipePage e = or_right _ _ (pipe-page (first_page kernel.size + n) (page-owner-there kernel n count PipePage e))
  owned-page n count Buffer e = or_left _ _ (buffer-page (first_page kernel.size + n) (page-owner-there kernel n count Buffer e))

  -- ---- the bytes of mapped pages

  page-whole : (page : ℕ) → (page ≢ 0 → IsSome ((forest_of kernel).owner (PageObject page))) → length (memory_page kernel page) ≡ 4096
  unfolding zero_page
  page-whole page owned = ⊎_elim
      (λ (t : page ≡ 0). rw (t, good.zero) (length-replicate {A = ℕ} 4096 0))
      (λ (t : page ≢ 0).
      let inside = page_inside kernel page good.bank (owned t) in
      rw (ne_eqb page 0 t) (good.whole (page - first_page kernel.size) (let b = inside.below in omega (arith, good.bank.pages.pages))))
      (cases_eq page 0)

  step-owned : (upper : Key) (digit : ℕ) (way : List ℕ) (object : Object) (space : ℕ) → EndsAt keys space (digit ∷ way) object → IsSome ((forest_of kernel).owner object)
  step-owned upper digit way object space ends =
      let s = step keys (key_along keys (space_key space) way) digit object ends in
      owned_object (forest_of kernel) good.trees.sound (place_of s.node digit) object s.here

  page-owned : (space number : ℕ) (found : Mapping) → map_of keys space number ≡ Some found → found.page ≢ 0 → IsSome ((forest_of kernel).owner (PageObject found.page))
  unfolding page_way digits
  page-owned space number found e real =
      let f = found_at keys space number found e in
      let n = mapped_named (key_at_page keys space number) found f.maps real in
      step-owned (space_key space) (number % 16) (digits 4 (number / 16)) (PageObject found.page) space n

  mapped-whole : (space number : ℕ) (found : Option Mapping) → map_of keys space number ≡ found → length (mapped_bytes (option_map (page_of (memory_page kernel)) found)) ≡ 4096
  unfolding zero_page
  mapped-whole space number None e = length-replicate {A = ℕ} 4096 0
  mapped-whole space number (Some found) e = page-whole found.page (page-owned space number found e)

  pub file-whole : (root number : ℕ) → length (mapped_bytes (at (file_memory (machine_of kernel) root) number)) ≡ 4096
  unfolding file_memory memory_in memory_by at machine_of nothing zero_page
  file-whole zero number = length-replicate {A = ℕ} 4096 0
  file-whole (suc root) number = mapped-whole (suc root) number (map_of keys (suc root) number) refl
