-- Each taken node is one that a domain or an inode has.
use Rattle.std.proofs.Common.{◌≡◌, ◌≢◌, ℕ, ◌^◌, ◌<◌, ◌⊎◌, Bool, true, Some, List, [], ◌∷◌, refl, sym, ap, ◌∙◌, ⊎_elim, ◌||◌}
use Rattle.std.specs.Option.{is_some}
use Rattle.std.proofs.lemmas.Bool.{eq-eqb, or_left, or_right}
use Rattle.kn_base.specs.declared.key.Key.{Key}
use Rattle.kernel_tables.specs.declared.entry.NodeOwner.{NodeOwner}
use Rattle.kernel_tables.specs.declared.entry.NodeOwner.TheVariants.{Domain as DomainNode, Tree, FileTree}
use Rattle.kernel_tables.specs.declared.entry.Entry.TheVariants.{Taken}
use Rattle.kernel_tables.specs.declared.inode.Inode.{Inode}
use Rattle.kernel_tables.specs.declared.inode.InodeKind.{InodeKind}
use Rattle.kernel_tables.specs.declared.inode.InodeKind.TheVariants.{File, Dir, Pipe, Console}
use Rattle.kernel_tables.specs.Kernel.{Kernel}
use Rattle.kernel_tables.specs.Rows.{entry_at, fixed_rows, domain_rows, of_domain}
use Rattle.unix_model.specs.Numbers.{pages_of}
use Rattle.unix_model.specs.Tables.{at, any_below}
use Rattle.forest.specs.Objects.{NodeObject, OfProcess, OfFile}
use Rattle.forest.specs.Forest.{IsSpace, EndsAt}
use Rattle.forest.specs.Walks.{Mapping, map_of, IsWay}
use Rattle.forest.proofs.ReachLaws.{everything_is_reached, way_owner}
use Rattle.kernel_forest.specs.Trees.{forest_of, outside_trees, owner_of, node_tree}
use Rattle.file_tables.specs.Roots.{named_by}
use Rattle.domain.specs.Domains.{domains, domain_at, full_domain, roots_by}
use Rattle.domain.specs.Keys.{is_meter, node_in}
use Rattle.kernel_machine.specs.Machine.{machine_of, inodes_of}
use Rattle.kernel_machine.specs.Held.{IsNodeOf}
use Rattle.kernel_machine.specs.Trees.{HasTree}
use Rattle.kernel_machine.specs.Bounds.{Accounted}
use Rattle.kernel_machine.proofs.Counting.{any-at, is_label}
use Rattle.kernel_machine.proofs.PageHolders.{slot-below, inode-below, space-real}
use Rattle.kernel_machine.proofs.NodesBelow.{OnPage, on-page}
use Rattle.kernel_machine.proofs.NodesHeld.{node_number, on_way, leads, space-has, own-has, slot-has, kind-has, inode-has}

pub tree-owner : (kernel : Kernel) (node count : ℕ) (owner : NodeOwner) → entry_at kernel.node_entries node ≡ Taken owner count → (forest_of kernel).owner (NodeObject node) ≡ node_tree owner
unfolding owner_of
tree-owner kernel node count owner e = rw e refl

live-meter : (rows : ℕ → ℕ → Key) (root : ℕ) → is_meter (rows root 2) ≡ true → (at (domain_at rows) root).live ≡ true
unfolding at domain_at full_domain
live-meter rows root meter = rw meter refl

own-there : (rows : ℕ → ℕ → Key) (root node : ℕ) → IsNodeOf rows root node → own-has rows root node ≡ true
unfolding own-has
own-there rows root node own = ⊎_elim
    (λ (e : root ≡ node). or_left (is_label node (Some root)) (is_label node (node_in (rows root 3)) || is_label node (node_in (rows root 4))) (eq-eqb root node e))
    (λ (rest : (node_in (rows root 3) ≡ Some node) ⊎ (node_in (rows root 4) ≡ Some node)).
    or_right (is_label node (Some root)) (is_label node (node_in (rows root 3)) || is_label node (node_in (rows root 4))) (⊎_elim
    (λ (e : node_in (rows root 3) ≡ Some node). or_left (is_label node (node_in (rows root 3))) (is_label node (node_in (rows root 4))) (ap (is_label node) e ∙ eq-eqb node node refl))
    (λ (e : node_in (rows root 4) ≡ Some node). or_right (is_label node (node_in (rows root 3))) (is_label node (node_in (rows root 4))) (ap (is_label node) e ∙ eq-eqb node node refl))
    rest))
    own.1

leads-there : (keys : ℕ → Key) (space node : ℕ) (p : OnPage keys space node) → leads keys space p.number node ≡ true
unfolding leads
leads-there keys space node p =
    any-at (λ level. is_label node (on_way keys space p.number (map_of keys space p.number) level)) 4 p.level p.low
    (ap (λ found. is_label node (on_way keys space p.number found p.level)) p.mapped
    ∙ ap (λ object. is_label node (node_number object)) p.stands
    ∙ eq-eqb node node refl)

tree-has : (keys : ℕ → Key) (row : Inode) (kind : InodeKind) (node : ℕ) → HasTree kind → space-has keys (Some row.root) (pages_of row.length) node ≡ true → kind-has keys row kind node ≡ true
unfolding kind-has
tree-has keys row File node tree has = has
tree-has keys row Dir node tree has = has
tree-has keys row Pipe node tree has = absurd tree
tree-has keys row Console node tree has = absurd tree

module _ (kernel : Kernel) (good : Accounted kernel) where
  abbrev keys : ℕ → Key
  keys = (forest_of kernel).keys

  abbrev own-rows : ℕ → ℕ → Key
  own-rows = domain_rows kernel

  unfoldable pub slots-have : ℕ → Bool
  slots-have node = any_below (λ slot. slot-has (forest_of kernel).keys (domain_rows kernel) (domains kernel) (at (roots_by (fixed_rows kernel)) slot) node) 64

  unfoldable pub inodes-have : ℕ → Bool
  inodes-have node = any_below (λ number. inode-has (forest_of kernel).keys (at (inodes_of kernel) number) node) 1024

  domain-in-slot : (root node : ℕ) → (at (domains kernel) root).live ≡ true → slot-has keys own-rows (domains kernel) (Some root) node ≡ true → slots-have node ≡ true
  unfolding slots-have machine_of
  domain-in-slot root node live has =
      let slot = (at (domains kernel) root).slot in
      let there : at (roots_by (fixed_rows kernel)) slot ≡ Some root = good.machine.in_slots root live in
      any-at (λ k. slot-has keys own-rows (domains kernel) (at (roots_by (fixed_rows kernel)) k) node) 64 slot (slot-below (fixed_rows kernel) slot root there)
      (ap (λ own. slot-has keys own-rows (domains kernel) own node) there ∙ has)

  inode-there : (number : ℕ) (row : Inode) (node : ℕ) → at (inodes_of kernel) number ≡ Some row → kind-has keys row row.kind node ≡ true → inodes-have node ≡ true
  unfolding inodes-have inode-has
  inode-there number row node there has =
      any-at (λ k. inode-has keys (at (inodes_of kernel) k) node) 1024 number (inode-below kernel good number row there) (ap (λ own. inode-has keys own node) there ∙ has)

  -- a node that is reached on a way from a space, of which only the first page numbers are mapped
  space-there : (space limit node : ℕ) (way : List ℕ) → IsSpace (forest_of kernel) [] space → IsWay way → EndsAt keys space way (NodeObject node)
      → ((number : ℕ) (mapping : Mapping) → number < 2 ^ 19 → map_of keys space number ≡ Some mapping → number < limit) → space-has keys (Some space) limit node ≡ true
  unfolding space-has
  space-there space limit node [] is_space is_way ends within =
      or_left (is_label node (Some space)) (any_below (λ number. leads keys space number node) limit) (eq-eqb space node (let same : space ≡ node = cc in same))
  space-there space limit node (digit ∷ way) is_space is_way ends within =
      let p = on-page (forest_of kernel) [] good.trees.sound good.trees.rooted good.filled space is_space digit way is_way node ends in
      or_right (is_label node (Some space)) (any_below (λ number. leads keys space number node) limit)
      (any-at (λ number. leads keys space number node) limit p.number (within p.number p.mapping p.below p.mapped) (leads-there keys space node p))

  process-node : (node : ℕ) → (forest_of kernel).owner (NodeObject node) ≡ Some OfProcess → slots-have node ≡ true
  unfolding machine_of slot-has
  process-node node owned =
      let r = everything_is_reached (forest_of kernel) (outside_trees kernel (named_by kernel.inodes)) (NodeObject node) good.trees good.pages_inside (ap is_some owned) in
      let space = r.0 in
      let same = way_owner (forest_of kernel) good.trees.sound space r.1 r.3 (NodeObject node) r.4 in
      let h = good.machine.held.spaces space r.2 (sym same ∙ owned) in
      let root = h.0 in
      let has : space-has keys (Some space) (2 ^ 19) node ≡ true = space-there space (2 ^ 19) node r.1 r.2 r.3 r.4 (λ number mapping below mapped. below) in
      domain-in-slot root node h.1 (or_right (own-has own-rows root node) (space-has keys (at (domains kernel) root).space (2 ^ 19) node)
      (ap (λ own. space-has keys own (2 ^ 19) node) h.2 ∙ has))

  file-node : (node : ℕ) → (forest_of kernel).owner (NodeObject node) ≡ Some OfFile → inodes-have node ≡ true
  unfolding machine_of
  file-node node owned =
      let r = everything_is_reached (forest_of kernel) (outside_trees kernel (named_by kernel.inodes)) (NodeObject node) good.trees good.pages_inside (ap is_some owned) in
      let space = r.0 in
      let same = way_owner (forest_of kernel) good.trees.sound space r.1 r.3 (NodeObject node) r.4 in
      let of_file : (forest_of kernel).owner (NodeObject space) ≡ Some OfFile = sym same ∙ owned in
      let h = good.machine.held.trees space r.2 of_file in
      let row = h.1 in
      let root_is : row.root ≡ space = h.4 in
      let real : row.root ≢ 0 = λ e. space-real kernel good space OfFile of_file (sym root_is ∙ e) in
      let has : space-has keys (Some space) (pages_of row.length) node ≡ true = space-there space (pages_of row.length) node r.1 r.2 r.3 r.4
      (λ number mapping below mapped. good.machine.within h.0 row h.2 h.3 real number mapping (ap (λ s. map_of keys s number) root_is ∙ mapped)) in
      inode-there h.0 row node h.2 (tree-has keys row row.kind node h.3 (ap (λ s. space-has keys (Some s) (pages_of row.length) node) root_is ∙ has))

  domain-node : (node : ℕ) → of_domain (entry_at kernel.node_entries node) ≡ true → slots-have node ≡ true
  unfolding slot-has
  domain-node node owned =
      let h = good.nodes_held node owned in
      domain-in-slot h.0 node (live-meter own-rows h.0 h.1.0) (or_left (own-has own-rows h.0 node) (space-has keys (at (domains kernel) h.0).space (2 ^ 19) node) (own-there own-rows h.0 node h.1))

  pub owned-node : (node count : ℕ) (owner : NodeOwner) → entry_at kernel.node_entries node ≡ Taken owner count → (slots-have node || inodes-have node) ≡ true
  owned-node node count DomainNode e = or_left _ _ (domain-node node (ap of_domain e))
  owned-node node count Tree e = or_left _ _ (process-node node (tree-owner kernel node count Tree e))
  owned-node node count FileTree e = or_right _ _ (file-node node (tree-owner kernel node count FileTree e))
