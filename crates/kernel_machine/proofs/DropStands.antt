-- What stands goes along with the space of a domain that is set, and with a loose space that is released.
use Rattle.std.proofs.Common.{◌≡◌, ◌≢◌, ◌⊎◌, ℕ, Option, Some, None, true, false, [], refl, sym, ap, subst, ◌∙◌, ⊎_elim, inl, inr}
use Rattle.std.specs.Option.{is_some}
use Rattle.std.proofs.lemmas.Bool.{cases_eq}
use Rattle.kernel_tables.specs.declared.entry.PageOwner.{PageOwner}
use Rattle.kernel_tables.specs.declared.entry.PageOwner.TheVariants.{File as FilePage, Directory, Buffer, Pipe as PipePage}
use Rattle.kernel_tables.specs.declared.inode.Inode.{Inode}
use Rattle.kernel_tables.specs.declared.inode.InodeKind.{InodeKind}
use Rattle.kernel_tables.specs.declared.inode.InodeKind.TheVariants.{File, Dir, Pipe, Console}
use Rattle.kernel_tables.specs.Kernel.{Kernel, memory_page}
use Rattle.kernel_tables.specs.Rows.{domain_rows, entry_at, of_domain}
use Rattle.space_bank.specs.Bank.{BankGood}
use Rattle.space_bank.specs.Laws.{and_outside}
use Rattle.space_bank.specs.Shares.{Outside}
use Rattle.space_bank.proofs.HandLaws.{handed-out}
use Rattle.forest.specs.Calls.{DropsSpace}
use Rattle.forest.specs.Forest.{Forest, IsSpace, NoPageOutside}
use Rattle.forest.specs.Objects.{Object, PageObject, NodeObject, Owner, OfProcess, OfFile}
use Rattle.kernel_forest.specs.Owners.{page_owners, PagesAreOf}
use Rattle.forest.specs.Walks.{map_of}
use Rattle.kernel_forest.specs.Trees.{forest_of, outside_trees, page_tree, TreesGood}
use Rattle.kernel_forest.proofs.RowLaws.{domains_apart}
use Rattle.file_tables.specs.Roots.{named_by}
use Rattle.unix_model.specs.Tables.{at, with_at}
use Rattle.unix_model.proofs.TableLaws.{at-with_at, at-with_at-other}
use Rattle.seg_tree.specs.Promises.{Drops}
use Rattle.domain.specs.Domains.{Domain, domains, domain_at}
use Rattle.domain.specs.Keys.{key_of_space}
use Rattle.domain.specs.Rules.{RowsGood}
use Rattle.domain.specs.Sets.{HandsOver}
use Rattle.kernel_machine.specs.Held.{AllHeld, AllWhole, IsNodeOf}
use Rattle.kernel_machine.specs.Loose as law
use Rattle.kernel_machine.specs.Loose.{Loose, Nothing, Space, Tree, Ring, loose_key, space_of, word_of, owned_space, IsTaken, IsLoose, HeldBut, StandingBut, outside_with}
use Rattle.kernel_machine.specs.Machine.{inodes_of}
use Rattle.kernel_machine.specs.Processes.{HoldingsGood}
use Rattle.kernel_machine.specs.Standing.{Standing}
use Rattle.kernel_machine.specs.Trees.{HasTree, IsFileTree, IsRootOf, RootsGood, KeepersGood}
use Rattle.kernel_machine.proofs.AddStands.{outside-owned, page-outside}
use Rattle.kernel_machine.proofs.HeldLaws.{stays}
use Rattle.kernel_machine.proofs.KeepLaws.{trees-again}
use Rattle.kernel_machine.proofs.LooseLaws.{loose-space, not-loose, space-or-not, word-no-space}
use Rattle.kernel_machine.proofs.OwnerLaws.{pages-in-use}
use Rattle.kernel_machine.proofs.SpacesStand.{memory-kept, nodes-kept, owner-kept, tree-by-memory}
use Rattle.kernel_machine.proofs.StandingLaws.{filled-to, holdings-to, is-node, keepers-to, roots-to}

-- ---- the space of a domain

module _ (old new : Kernel) (root : ℕ) (space : Option ℕ) (handed : HandsOver old new (key_of_space space) (key_of_space (at (domains old) root).space))
    (set : domains new ≡ with_at (domains old) root (record (at (domains old) root) { space = space })) (live : (at (domains old) root).live ≡ true)
    (bank : BankGood new) (rows : RowsGood (domain_rows new)) (standing : StandingBut old (space_of space)) where
  mine : Domain
  mine = record (at (domains old) root) { space = space }

  domains-now : domains new ≡ with_at (domains old) root mine
  unfolding mine
  domains-now = set

  here : at (domains new) root ≡ mine
  here = ap (λ (table : ℕ → Domain). at table root) domains-now ∙ at-with_at (domains old) root mine

  there : (other : ℕ) → other ≢ root → at (domains new) other ≡ at (domains old) other
  there other apart = ap (λ (table : ℕ → Domain). at table other) domains-now ∙ at-with_at-other (domains old) root other mine apart

  kept : {X : Type 0} (field : Domain → X) → field mine ≡ field (at (domains old) root) → (other : ℕ) → field (at (domains new) other) ≡ field (at (domains old) other)
  kept field same other = ap (λ (table : ℕ → Domain). field (at table other)) domains-now ∙ stays (domains old) root mine field same other

  -- the space of a domain: the one that was set, or the one that it had
  space-of : (other held : ℕ) → (at (domains new) other).space ≡ Some held → ((other ≡ root) × (space ≡ Some held)) ⊎ ((other ≢ root) × ((at (domains old) other).space ≡ Some held))
  unfolding mine
  space-of other held has = ⊎_elim
      (λ (t : other ≡ root). inl (t, sym (ap (λ (domain : Domain). domain.space) here) ∙ ap (λ r. (at (domains new) r).space) (sym t) ∙ has))
      (λ (d : other ≢ root). inr (d, ap (λ (domain : Domain). domain.space) (sym (there other d)) ∙ has))
      (cases_eq other root)

  -- no domain had the space that was set
  not-held : (other held : ℕ) → space ≡ Some held → (at (domains old) other).space ≡ Some held → ⊥
  not-held other held is has = standing.is_loose.no_space other held has (ap space_of is)

  taken-space : (held : ℕ) → space ≡ Some held → IsSpace (forest_of old) [] held × ((forest_of old).owner (NodeObject held) ≡ Some OfProcess)
  taken-space held is = subst (λ (loose : Loose). IsTaken (forest_of old) (page_owners old) loose) (ap space_of is) standing.is_loose.taken

  holdings-good : HoldingsGood (domains new) (forest_of old) (page_owners old)
  unfolding mine
  holdings-good =
      record {
        spaces = λ other held has. ⊎_elim
            (λ (t : (other ≡ root) × (space ≡ Some held)). taken-space held t.1)
            (λ (t : (other ≢ root) × ((at (domains old) other).space ≡ Some held)). standing.holdings.spaces other held t.1)
            (space-of other held has);
        buffers = λ other page has. standing.holdings.buffers other page (sym (kept (λ d. d.buffer) refl other) ∙ has);
        spaces_differ = λ one two held has also. ⊎_elim
            (λ (a : (one ≡ root) × (space ≡ Some held)). ⊎_elim
            (λ (b : (two ≡ root) × (space ≡ Some held)). a.0 ∙ sym b.0)
            (λ (b : (two ≢ root) × ((at (domains old) two).space ≡ Some held)). absurd (not-held two held a.1 b.1))
            (space-of two held also))
            (λ (a : (one ≢ root) × ((at (domains old) one).space ≡ Some held)). ⊎_elim
            (λ (b : (two ≡ root) × (space ≡ Some held)). absurd (not-held one held b.1 a.1))
            (λ (b : (two ≢ root) × ((at (domains old) two).space ≡ Some held)). standing.holdings.spaces_differ one two held a.1 b.1)
            (space-of two held also))
            (space-of one held has);
        buffers_differ = λ one two page has also. standing.holdings.buffers_differ one two page (sym (kept (λ d. d.buffer) refl one) ∙ has) (sym (kept (λ d. d.buffer) refl two) ∙ also);
      }

  set-is : (held : ℕ) → space_of space ≡ Space held → space ≡ Some held
  set-is held e = by-option space e
    where
      by-option : (space : Option ℕ) → space_of space ≡ Space held → space ≡ Some held
      by-option None e = cc
      by-option (Some one) e = let same : one ≡ held = cc in ap Some same

  held-good : HeldBut (space_of (at (domains old) root).space) (domains new) (forest_of old) (page_owners old) (inodes_of old)
  unfolding mine
  held-good =
      record {
        spaces = λ held is owned apart. ⊎_elim
            (λ (t : space_of space ≡ Space held). (root, kept (λ d. d.live) refl root ∙ live, ap (λ (domain : Domain). domain.space) here ∙ set-is held t))
            (λ (d : space_of space ≢ Space held).
            let h = standing.held.spaces held is owned d in
            let other : h.0 ≢ root = λ same. apart (ap space_of (ap (λ r. (at (domains old) r).space) (sym same) ∙ h.2)) in
            (h.0, ap (λ (domain : Domain). domain.live) (there h.0 other) ∙ h.1, ap (λ (domain : Domain). domain.space) (there h.0 other) ∙ h.2))
            (space-or-not (space_of space) held);
        trees = λ held is owned apart. standing.held.trees held is owned (no-tree space held);
        buffers = λ page owned. let h = standing.held.buffers page owned in (h.0, kept (λ d. d.live) refl h.0 ∙ h.1, kept (λ d. d.buffer) refl h.0 ∙ h.2);
        pipes = λ page owned apart. standing.held.pipes page owned (no-ring space page);
      }
    where
      no-tree : (space : Option ℕ) (held : ℕ) → space_of space ≢ Tree held
      no-tree None held e = cc
      no-tree (Some one) held e = cc

      no-ring : (space : Option ℕ) (page : ℕ) → space_of space ≢ Ring page
      no-ring None page e = cc
      no-ring (Some one) page e = cc

  -- the space that the domain had is loose
  loose-by : (before : Option ℕ) → (at (domains old) root).space ≡ before → IsLoose (space_of before) (domains new) (forest_of old) (page_owners old) (inodes_of old)
  loose-by None e = record { taken = tt; no_space = λ other held has same. cc; no_root = λ number inode found same. refl }
  loose-by (Some before) e =
      record {
        taken = standing.holdings.spaces root before e;
        no_space = λ other held has same. ⊎_elim
            (λ (t : (other ≡ root) × (space ≡ Some held)). not-held root held t.1 (e ∙ ap Some (let is : before ≡ held = cc in is)))
            (λ (t : (other ≢ root) × ((at (domains old) other).space ≡ Some held)).
            t.0 (standing.holdings.spaces_differ other root before (t.1 ∙ ap Some (let is : before ≡ held = cc in sym is)) e))
            (space-of other held has);
        no_root = λ number inode found same. absurd (word-no-space inode.kind inode.root before same);
      }

  before-key : outside_with old (space_of space) ≡ and_outside (named_by old.inodes) (key_of_space space)
  before-key = ap (and_outside (named_by old.inodes)) (loose-space space)

  now-key : outside_with new (space_of (at (domains old) root).space) ≡ and_outside (named_by old.inodes) (key_of_space (at (domains old) root).space)
  now-key =
      ap (λ (k : Kernel). and_outside (named_by k.inodes) (loose_key (space_of (at (domains old) root).space))) handed.rest
      ∙ ap (and_outside (named_by old.inodes)) (loose-space (at (domains old) root).space)

  trees-now : TreesGood new (and_outside (named_by old.inodes) (key_of_space (at (domains old) root).space)) []
  trees-now =
      let named = named_by old.inodes in
      let was = subst (λ (outside : Outside). TreesGood old outside []) before-key standing.trees in
      trees-again old new (and_outside (named_by old.inodes) (key_of_space space)) (and_outside (named_by old.inodes) (key_of_space (at (domains old) root).space)) handed.forest_now
      (λ object some. ap (λ (f : Object → ℕ). f object) (handed.outside_now (named_by old.inodes)))
      ((handed-out new (named_by old.inodes) [] (key_of_space (at (domains old) root).space)).0
      (handed.shares (named_by old.inodes) [] ((handed-out old (named_by old.inodes) [] (key_of_space space)).1 was.shares))) was

  inside-now : NoPageOutside (forest_of old) (outside_trees new (and_outside (named_by old.inodes) (key_of_space (at (domains old) root).space)))
  inside-now page some =
      ap (λ (f : Object → ℕ). f (PageObject page)) (handed.outside_now (named_by old.inodes))
      ∙ subst (λ (outside : Outside). outside_trees old outside (PageObject page) ≡ 0) before-key (standing.pages_inside page some)

  node-now : (r node : ℕ) → IsNodeOf (domain_rows old) r node → IsNodeOf (domain_rows new) r node
  unfolding at mine
  node-now r node = is-node (domain_rows old) (domain_rows new) r node (kept (λ d. d.live) refl r) (kept (λ d. d.regs_node) refl r) (kept (λ d. d.descriptors_node) refl r)

  set-stands : StandingBut new (space_of (at (domains old) root).space)
  unfolding inodes_of
  set-stands =
      let owners : page_owners new ≡ page_owners old = ap page_owners handed.rest in
      let inodes : inodes_of new ≡ inodes_of old = ap inodes_of handed.rest in
      record {
        bank = bank;
        whole = rw (ap (λ (k : Kernel). k.bank) handed.rest) standing.whole;
        unused = rw (ap (λ (k : Kernel). k.page_zero) handed.rest, ap (λ (k : Kernel). k.other_words) handed.rest) standing.unused;
        trees = subst (λ (outside : Outside). TreesGood new outside []) (sym now-key) trees-now;
        pages_inside = subst (λ (outside : Outside). NoPageOutside (forest_of new) (outside_trees new outside)) (sym now-key)
            (subst (λ (forest : Forest). NoPageOutside forest (outside_trees new (and_outside (named_by old.inodes) (key_of_space (at (domains old) root).space)))) (sym handed.forest_now) inside-now);
        filled = filled-to handed.forest_now standing.filled;
        rows = rows;
        nodes_held = λ node own. let h = standing.nodes_held node (ap (λ (k : Kernel). of_domain (entry_at k.node_entries node)) (sym handed.rest) ∙ own) in (h.0, node-now h.0 node h.1);
        inodes = rw (ap (λ (k : Kernel). k.inodes) handed.rest) standing.inodes;
        descriptions = rw (ap (λ (k : Kernel). k.descriptions) handed.rest) standing.descriptions;
        holdings = holdings-to refl handed.forest_now owners holdings-good;
        roots = roots-to handed.forest_now (ap memory_page handed.rest) owners inodes standing.roots;
        keepers = keepers-to handed.forest_now standing.keepers;
        held = rw (handed.forest_now, owners, inodes) held-good;
        is_loose = rw (handed.forest_now, owners, inodes) (loose-by (at (domains old) root).space refl);
      }

pub standing_with_space_set : law.StandingWithSpaceSet
standing_with_space_set old new root space handed set live bank rows standing = set-stands old new root space handed set live bank rows standing

-- ---- a space is released

module _ (old new : Kernel) (space : ℕ) (owner : Owner) (drops : Drops old new space) (bank : BankGood new) (whole : AllWhole new.bank) (standing : StandingBut old (owned_space owner space)) where
  dropped : TreesGood new (named_by old.inodes) [] × DropsSpace (forest_of old) (forest_of new) space
  dropped = drops.drops (named_by old.inodes) (subst (λ (outside : Outside). TreesGood old outside []) (outside-owned old owner space) standing.trees)

  inodes-left : new.inodes ≡ old.inodes
  inodes-left = ap (λ (k : Kernel). k.inodes) drops.rest

  there-left : inodes_of new ≡ inodes_of old
  unfolding inodes_of
  there-left = ap inodes_of drops.rest

  rows-left : domain_rows new ≡ domain_rows old
  rows-left = drops.rows_now of_domain domains_apart

  domains-left : domains new ≡ domains old
  domains-left = ap domain_at rows-left

  size-left : new.size ≡ old.size
  size-left = ap (λ (k : Kernel). k.size) drops.rest

  owned-left : (page : ℕ) (whose : PageOwner) → page_tree whose ≡ None → at (page_owners old) page ≡ Some whose → at (page_owners new) page ≡ Some whose
  owned-left page whose none owned = owner-kept old new page whose size-left drops.apart_now none owned

  owned-before : (page : ℕ) (whose : PageOwner) → page_tree whose ≡ None → at (page_owners new) page ≡ Some whose → at (page_owners old) page ≡ Some whose
  owned-before page whose none owned = owner-kept new old page whose (sym size-left) (sym drops.apart_now) none owned

  -- spaces are others, and were there
  not-space : (other : ℕ) → IsSpace (forest_of new) [] other → other ≢ space
  not-space other is same =
      let no : true ≡ false = sym is.owned ∙ ap (λ n. is_some ((forest_of new).owner (NodeObject n))) same ∙ ap is_some dropped.1.gone in cc

  space-left : (other : ℕ) (whose : Owner) → other ≢ space → IsSpace (forest_of old) [] other × ((forest_of old).owner (NodeObject other) ≡ Some whose)
      → IsSpace (forest_of new) [] other × ((forest_of new).owner (NodeObject other) ≡ Some whose)
  space-left other whose apart was = let now = dropped.1.others.stay other was.0 apart in (now, (dropped.1.roots other now).owner ∙ was.1)

  owner-before : (other : ℕ) (whose : Owner) → IsSpace (forest_of new) [] other → (forest_of new).owner (NodeObject other) ≡ Some whose → (forest_of old).owner (NodeObject other) ≡ Some whose
  owner-before other whose is owned = sym (dropped.1.roots other is).owner ∙ owned

  -- no domain and no inode has it
  not-domain : (root held : ℕ) → (at (domains old) root).space ≡ Some held → held ≢ space
  not-domain root held has same = by-owner owner standing.is_loose.taken (λ e. standing.is_loose.no_space root held has (e ∙ ap Space (sym same)))
    where
      by-owner : (whose : Owner) → IsTaken (forest_of old) (page_owners old) (owned_space whose space) → (owned_space whose space ≡ Space space → ⊥) → ⊥
      by-owner OfProcess taken not = not refl
      by-owner OfFile taken not =
          let mine = (standing.holdings.spaces root held has).1 in
          let no : Some OfFile ≡ Some OfProcess = sym taken.1 ∙ ap (λ n. (forest_of old).owner (NodeObject n)) (sym same) ∙ mine in cc

  not-inode : (number : ℕ) (inode : Inode) → at (inodes_of old) number ≡ Some inode → HasTree inode.kind → inode.root ≢ 0 → (forest_of old).owner (NodeObject inode.root) ≡ Some OfFile → inode.root ≢ space
  not-inode = not-loose owner space (domains old) (forest_of old) (page_owners old) (inodes_of old) standing.is_loose

  holdings-left : HoldingsGood (domains old) (forest_of new) (page_owners new)
  holdings-left =
      record {
        spaces = λ root held has. space-left held OfProcess (not-domain root held has) (standing.holdings.spaces root held has);
        buffers = λ root page has. owned-left page Buffer refl (standing.holdings.buffers root page has);
        spaces_differ = standing.holdings.spaces_differ;
        buffers_differ = standing.holdings.buffers_differ;
      }

  held-left : AllHeld (domains old) (forest_of new) (page_owners new) (inodes_of old)
  held-left =
      record {
        spaces = λ held is owned. standing.held.spaces held (dropped.1.roots held is).was (owner-before held OfProcess is owned) (λ same. not-space held is (is-space owner held same));
        trees = λ held is owned. standing.held.trees held (dropped.1.roots held is).was (owner-before held OfFile is owned) (λ same. not-space held is (is-tree owner held same));
        buffers = λ page owned. standing.held.buffers page (owned-before page Buffer refl owned);
        pipes = λ page owned. standing.held.pipes page (owned-before page PipePage refl owned) (no-ring owner page);
      }
    where
      is-space : (whose : Owner) (held : ℕ) → owned_space whose space ≡ Space held → held ≡ space
      is-space OfProcess held e = let same : space ≡ held = cc in sym same
      is-space OfFile held e = cc

      is-tree : (whose : Owner) (held : ℕ) → owned_space whose space ≡ Tree held → held ≡ space
      is-tree OfProcess held e = cc
      is-tree OfFile held e = let same : space ≡ held = cc in sym same

      no-ring : (whose : Owner) (page : ℕ) → owned_space whose space ≢ Ring page
      no-ring OfProcess page e = cc
      no-ring OfFile page e = cc

  keepers-left : KeepersGood (forest_of new)
  keepers-left =
      record {
        of_process = λ held is owned. (dropped.1.roots held is).keeper ∙ standing.keepers.of_process held (dropped.1.roots held is).was (owner-before held OfProcess is owned);
        of_file = λ held is owned. (dropped.1.roots held is).keeper ∙ standing.keepers.of_file held (dropped.1.roots held is).was (owner-before held OfFile is owned);
      }

  tree-left : (inode : Inode) → inode.root ≢ space → IsSpace (forest_of old) [] inode.root → IsFileTree (forest_of old).keys (memory_page old) inode.root inode.length
      → IsFileTree (forest_of new).keys (memory_page new) inode.root inode.length
  tree-left inode apart is tree =
      tree-by-memory (forest_of old).keys (forest_of new).keys (memory_page old) (memory_page new) inode.root inode.length
      (memory-kept old new drops.rest bank dropped.0.held.sound drops.keeps.bytes inode.root (dropped.1.others.stay inode.root is apart) (dropped.1.others.maps inode.root is apart)) tree

  pages-still : (whose : PageOwner) (inode : Inode) → inode.root ≢ space → IsSpace (forest_of old) [] inode.root
      → PagesAreOf whose (page_owners old) (map_of (forest_of old).keys inode.root)
      → PagesAreOf whose (page_owners new) (map_of (forest_of new).keys inode.root)
  pages-still whose inode apart is =
      pages-in-use whose old new inode.root (dropped.1.others.maps inode.root is apart)
      drops.owners_now dropped.0.held.sound (dropped.1.others.stay inode.root is apart)

  root-left : (number : ℕ) (inode : Inode) → at (inodes_of old) number ≡ Some inode → (kind : InodeKind) → inode.kind ≡ kind
      → IsRootOf (forest_of old) (memory_page old) (page_owners old) inode kind → IsRootOf (forest_of new) (memory_page new) (page_owners new) inode kind
  root-left number inode found File kind is = λ some.
      let h = is some in
      let apart = not-inode number inode found (subst HasTree (sym kind) tt) some h.1 in
      let now = space-left inode.root OfFile apart (h.0, h.1) in (now.0, now.1, tree-left inode apart h.0 h.2, pages-still FilePage inode apart h.0 h.3)
  root-left number inode found Dir kind is = λ some.
      let h = is some in
      let apart = not-inode number inode found (subst HasTree (sym kind) tt) some h.1 in
      let now = space-left inode.root OfFile apart (h.0, h.1) in (now.0, now.1, tree-left inode apart h.0 h.2, pages-still Directory inode apart h.0 h.3)
  root-left number inode found Pipe kind is = owned-left inode.root PipePage refl is
  root-left number inode found Console kind is = is

  left-stands : Standing new
  left-stands =
      let named : named_by new.inodes ≡ named_by old.inodes = ap named_by inodes-left in
      record {
        bank = bank;
        whole = whole;
        unused = rw (ap (λ (k : Kernel). k.page_zero) drops.rest, ap (λ (k : Kernel). k.other_words) drops.rest) standing.unused;
        trees = subst (λ (outside : Outside). TreesGood new outside []) (sym named) dropped.0;
        pages_inside = subst (λ (outside : Outside). NoPageOutside (forest_of new) (outside_trees new outside)) (sym named)
            (drops.inside (named_by old.inodes)
            (λ page some.
            sym (page-outside old (named_by old.inodes) space page)
            ∙ subst (λ (outside : Outside). outside_trees old outside (PageObject page) ≡ 0) (outside-owned old owner space) (standing.pages_inside page some)));
        filled = drops.filled standing.filled;
        rows = subst RowsGood (sym rows-left) standing.rows;
        nodes_held = nodes-kept old new rows-left drops.apart_now standing.nodes_held;
        inodes = rw inodes-left standing.inodes;
        descriptions = rw (ap (λ (k : Kernel). k.descriptions) drops.rest) standing.descriptions;
        holdings = subst (λ (table : ℕ → Domain). HoldingsGood table (forest_of new) (page_owners new)) (sym domains-left) holdings-left;
        roots = subst (λ (table : ℕ → Option Inode). RootsGood (forest_of new) (memory_page new) (page_owners new) table) (sym there-left)
            (record {
              each = λ number inode found. root-left number inode found inode.kind refl (standing.roots.each number inode found);
              trees_differ = standing.roots.trees_differ;
              pipes_differ = standing.roots.pipes_differ;
            });
        keepers = keepers-left;
        held = subst (λ (table : ℕ → Domain). AllHeld table (forest_of new) (page_owners new) (inodes_of new)) (sym domains-left)
            (subst (λ (table : ℕ → Option Inode). AllHeld (domains old) (forest_of new) (page_owners new) table) (sym there-left) held-left);
      }

pub standing_with_space_dropped : law.StandingWithSpaceDropped
standing_with_space_dropped old new space owner drops bank whole standing = left-stands old new space owner drops bank whole standing
