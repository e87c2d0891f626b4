-- A tree is made for a file or directory that had none: what stands stands on, and of the flat state that inode alone changes.
use Rattle.std.proofs.Common.{◌≡◌, ◌≢◌, ◌<◌, ℕ, Option, Some, true, false, List, [], length, set, refl, sym, ap, ap₂, subst, ◌∙◌}
use Rattle.std.specs.Option.{is_some}
use Rattle.std.specs.Prelude.{slice_index_or}
use Rattle.kn_base.specs.declared.key.Key.TheVariants.{Null}
use Rattle.kernel_tables.specs.declared.entry.PageOwner.{PageOwner}
use Rattle.kernel_tables.specs.declared.entry.PageOwner.TheVariants.{Buffer, Pipe as PipePage}
use Rattle.kernel_tables.specs.declared.inode.Inode.{Inode}
use Rattle.kernel_tables.specs.declared.inode.InodeKind.{InodeKind}
use Rattle.kernel_tables.specs.declared.inode.InodeKind.TheVariants.{File, Dir, Pipe, Console}
use Rattle.kernel_tables.specs.declared.row.Row.TheVariants.{Used, Unspelled}
use Rattle.kernel_tables.specs.Kernel.{Kernel, inode_at, memory_page}
use Rattle.kernel_tables.specs.Rows.{KeepsRows}
use Rattle.space_bank.specs.Bank.{BankGood}
use Rattle.space_bank.specs.Laws.{and_outside}
use Rattle.forest.specs.Calls.{AddsSpace}
use Rattle.forest.specs.Forest.{Forest, IsSpace}
use Rattle.forest.specs.Objects.{NodeObject, OfFile}
use Rattle.forest.specs.Walks.{Mapping, map_of, space_key}
use Rattle.kernel_forest.specs.Apart.{KeepsApart}
use Rattle.kernel_forest.specs.Owners.{page_owners, PagesAreOf}
use Rattle.kernel_forest.specs.Releases.{KeepsUnreleased}
use Rattle.kernel_forest.specs.Trees.{forest_of, TreesGood}
use Rattle.kernel_forest.proofs.GivingNodes.{unreleased}
use Rattle.file_tables.specs.Roots.{named_by, ExchangesRoots}
use Rattle.file_tables.specs.Rows.{InodesGood}
use Rattle.unix_model.specs.Files.{with_inode}
use Rattle.unix_model.specs.State.{Unix, with_files}
use Rattle.unix_model.specs.Tables.{at}
use Rattle.user_copy.specs.SpaceMemory.{memory_by, space_memory}
use Rattle.seg_tree.specs.Promises.{Adds}
use Rattle.seg_tree.proofs.Emptying.{unreleased_trans}
use Rattle.domain.specs.Domains.{domains}
use Rattle.kernel_machine.specs.Held.{AllWhole}
use Rattle.kernel_machine.specs.Laws.{ChangesMemory}
use Rattle.kernel_machine.specs.Loose.{Nothing, Tree, StandingBut, root_of, word_of}
use Rattle.kernel_machine.specs.Machine.{machine_of, inodes_of}
use Rattle.kernel_machine.specs.Standing.{LeavesSpaces, Standing}
use Rattle.kernel_machine.specs.Trees.{HasTree, IsFileTree, IsRootOf, pages_owner}
use Rattle.kernel_machine.specs.View.{view, files_in, inode_in, memory_in}
use Rattle.kernel_machine.proofs.AddStands.{standing_with_space}
use Rattle.kernel_machine.proofs.LooseLaws.{nothing_loose, tree-word}
use Rattle.kernel_machine.proofs.MemoryLaws.{memory_unseen, tree-of}
use Rattle.kernel_machine.proofs.RootStands.{standing_with_root}
use Rattle.kernel_machine.proofs.SetLaws.{inode_set}
use Rattle.kernel_machine.proofs.SpacesStand.{standing_with_loose}
use Rattle.file_trees.proofs.Views.{state-now, bytes-apart}

-- what a root is, by the kind
root-is : (forest : Forest) (bytes : ℕ → List ℕ) (owner : ℕ → Option PageOwner) (row : Inode) (kind : InodeKind) → HasTree kind
    → IsSpace forest [] row.root × (forest.owner (NodeObject row.root) ≡ Some OfFile) × IsFileTree forest.keys bytes row.root row.length
    × PagesAreOf (pages_owner kind) owner (map_of forest.keys row.root)
    → IsRootOf forest bytes owner row kind
root-is forest bytes owner row File tree is = λ some. is
root-is forest bytes owner row Dir tree is = λ some. is
root-is forest bytes owner row Pipe tree is = absurd tree
root-is forest bytes owner row Console tree is = absurd tree

no-word : (kind : InodeKind) → HasTree kind → word_of kind 0 ≡ Nothing
no-word File tree = refl
no-word Dir tree = refl
no-word Pipe tree = absurd tree
no-word Console tree = absurd tree

module _ (old mid k2 : Kernel) (space number : ℕ) (inode row : Inode) (map : ℕ → Option Mapping) (adds : Adds old mid space (Some OfFile) Null map) (leaves : LeavesSpaces mid k2 space) (standing : Standing old)
    (was : inode_at old number ≡ Used inode) (inside : number < length old.inodes) (tree : HasTree inode.kind) (none : inode.root ≡ 0) (kind : row.kind ≡ inode.kind) (root : row.root ≡ space) (some : space ≢ 0) where
  abbrev now : Kernel
  now = record k2 { inodes = set k2.inodes number (Used row) }

  added : TreesGood mid (and_outside (named_by old.inodes) (space_key space)) [] × AddsSpace (forest_of old) (forest_of mid) space map
  added = adds.adds (named_by old.inodes) standing.trees

  rest-now : KeepsUnreleased old k2
  rest-now = unreleased_trans old mid k2 (unreleased old mid adds.rest) leaves.rest

  rows-now : KeepsRows old k2
  rows-now = λ mine apart. leaves.rows_now mine apart ∙ adds.rows_now mine apart

  apart-now : KeepsApart old k2
  apart-now = leaves.apart_now ∙ adds.apart_now

  inodes-same : k2.inodes ≡ old.inodes
  inodes-same = ap (λ (k : Kernel). k.inodes) rest-now

  inside-now : number < length k2.inodes
  inside-now = subst (λ rows. number < length rows) (sym inodes-same) inside

  -- ---- what stands

  had-none : root_of (inode_at k2 number) ≡ Nothing
  had-none = ap (λ rows. root_of (slice_index_or rows number Unspelled)) inodes-same ∙ ap root_of was ∙ ap (word_of inode.kind) none ∙ no-word inode.kind tree

  row-tree : HasTree row.kind
  row-tree = subst HasTree (sym kind) tree

  pub root_stands : BankGood mid → BankGood k2 → AllWhole k2.bank → ExchangesRoots k2 now number (Used row) → InodesGood now.inodes
      → IsFileTree (forest_of k2).keys (memory_page k2) space row.length
      → PagesAreOf (pages_owner row.kind) (page_owners k2) (map_of (forest_of k2).keys space) → Standing now
  root_stands first bank all exchanges good file owned =
      let but : StandingBut k2 (Tree space) = standing_with_loose mid k2 space OfFile leaves bank all (standing_with_space old mid space OfFile (Some OfFile) Null map adds refl refl first standing) in
      let word : word_of row.kind row.root ≡ Tree space = ap (word_of row.kind) root ∙ tree-word row.kind space row-tree some in
      (nothing_loose now).1 (subst (StandingBut now) had-none
      (standing_with_root k2 now number (Used row) inside-now refl exchanges good
      (root-is (forest_of k2) (memory_page k2) (page_owners k2) row row.kind row-tree
      (subst (λ n. IsSpace (forest_of k2) [] n × ((forest_of k2).owner (NodeObject n) ≡ Some OfFile)
      × IsFileTree (forest_of k2).keys (memory_page k2) n row.length
      × PagesAreOf (pages_owner row.kind) (page_owners k2) (map_of (forest_of k2).keys n)) (sym root)
      (but.is_loose.taken.0, but.is_loose.taken.1, file, owned)))
      (subst (StandingBut k2) (sym word) but)))

  -- ---- the flat state

  not-space : (other : ℕ) → IsSpace (forest_of old) [] other → other ≢ space
  not-space other is same =
      let no : true ≡ false = sym is.owned ∙ ap (λ n. is_some ((forest_of old).owner (NodeObject n))) same ∙ ap is_some added.1.fresh in cc

  memory-same : (other : ℕ) → IsSpace (forest_of old) [] other → space_memory k2 other ≡ space_memory old other
  memory-same other is =
      leaves.memories other (added.1.others.stay other is (not-space other is)) (not-space other is)
      ∙ ap₂ memory_by (ap memory_page adds.rest) (added.1.others.maps other is (not-space other is))

  pub changes-now : ChangesMemory (machine_of old) (machine_of k2) space
  unfolding machine_of memory_in at
  changes-now = record {
    rest = state-now old k2 rest-now rows-now;
    memories = λ other differs is. memory-same other is;
    buffers = λ page owned. bytes-apart old k2 rest-now apart-now page Buffer refl owned;
    pipes = λ page owned. bytes-apart old k2 rest-now apart-now page PipePage refl owned;
  }

  -- no process has the tree, and no inode had it
  unheld : (r : ℕ) → (at (domains old) r).space ≢ Some space
  unheld r has = not-space space (standing.holdings.spaces r space has).0 refl

  old-root : (other : ℕ) (found : Inode) → at (inodes_of old) other ≡ Some found → HasTree found.kind → found.root ≢ 0 → found.root ≢ space
  old-root other found is has_tree real =
      not-space found.root (tree-of (forest_of old) (memory_page old) (page_owners old) found found.kind (standing.roots.each other found is) has_tree real).0

  pub root_seen : view (machine_of now) ≡ with_files (view (machine_of old)) (with_inode (files_in (machine_of old)) number (inode_in (machine_of k2) row))
  unfolding view machine_of
  root_seen =
      let unseen : view (machine_of k2) ≡ view (machine_of old) = memory_unseen (machine_of old) (machine_of k2) space standing.holdings standing.roots unheld old-root changes-now in
      inode_set k2 now number row inside-now refl
      ∙ ap (λ (u : Unix). with_files u (with_inode u.files number (inode_in (machine_of k2) row))) unseen
