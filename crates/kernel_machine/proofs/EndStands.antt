-- What stands within a turn too goes along with the end of a process.
use Rattle.std.proofs.Common.{◌≡◌, ◌≢◌, ◌⊎◌, ℕ, Option, Some, None, true, false, [], refl, sym, ap, subst, ◌∙◌, ⊎_elim, inl, inr}
use Rattle.std.specs.Prelude.{◌&&◌}
use Rattle.std.specs.Option.{IsSome, is_some}
use Rattle.std.proofs.lemmas.Bool.{cases_eq}
use Rattle.kn_base.specs.declared.key.Key.TheVariants.{Node, Start, Domain as DomainKey}
use Rattle.kernel_tables.specs.declared.entry.Entry.{Entry}
use Rattle.kernel_tables.specs.declared.entry.Entry.TheVariants.{Free, Taken, Fixed, Unspelled}
use Rattle.kernel_tables.specs.declared.entry.NodeOwner.{NodeOwner}
use Rattle.kernel_tables.specs.Kernel.{Kernel, memory_page}
use Rattle.kernel_tables.specs.Rows.{domain_rows, entry_at, of_domain}
use Rattle.space_bank.specs.Bank.{BankGood}
use Rattle.space_bank.specs.FreeList.{is_free}
use Rattle.space_bank.specs.Laws.{and_outside}
use Rattle.space_bank.specs.Shares.{Outside}
use Rattle.forest.specs.Forest.{Forest, NoPageOutside}
use Rattle.forest.specs.Objects.{Object, PageObject}
use Rattle.kernel_forest.specs.Owners.{page_owners}
use Rattle.kernel_forest.specs.Trees.{forest_of, outside_trees, TreesGood}
use Rattle.file_tables.specs.Roots.{named_by}
use Rattle.unix_model.specs.Tables.{at, with_at}
use Rattle.unix_model.proofs.TableLaws.{at-with_at, at-with_at-other}
use Rattle.domain.specs.Domains.{Domain, no_domain, domains, description_by, full_domain, words_of}
use Rattle.domain.specs.Ends.{MakesZombie, ended, MayDrop, DropsDomain}
use Rattle.domain.specs.Keys.{node_in}
use Rattle.domain.specs.Rules.{RowsGood}
use Rattle.domain.proofs.DomainLaws.{live_meter, root_domain}
use Rattle.domain.proofs.Ending.{root_regs_node, root_descriptors_node}
use Rattle.domain.proofs.FieldLaws.{root_whole}
use Rattle.kernel_machine.specs.Held.{AllHeld, NodesHeld, IsNodeOf}
use Rattle.kernel_machine.specs.Machine.{inodes_of, machine_of}
use Rattle.kernel_machine.specs.Processes.{HoldingsGood}
use Rattle.kernel_machine.specs.Standing as law
use Rattle.kernel_machine.specs.Standing.{Standing}
use Rattle.kernel_machine.proofs.HeldLaws.{held_with_domain}
use Rattle.kernel_machine.proofs.KeepLaws.{as-domain, free-unowned, no-keeper, other-node, outside-more, trees-again}
use Rattle.kernel_machine.proofs.StandingLaws.{filled-to, held-to, holdings-to, holdings-with, is-node, keepers-to, roots-to}

not-free : (entry : Entry NodeOwner) → is_free entry ≡ true → of_domain entry ≡ true → ⊥
not-free (Free next) free mine = let no : false ≡ true = mine in cc
not-free (Taken owner count) free mine = let no : false ≡ true = free in cc
not-free Fixed free mine = let no : false ≡ true = free in cc
not-free Unspelled free mine = let no : false ≡ true = free in cc

-- ---- a domain becomes a zombie

module _ (old new : Kernel) (root : ℕ) (ends : MakesZombie old new root) (live : (at (domains old) root).live ≡ true) (bank : BankGood new) (rows : RowsGood (domain_rows new)) (standing : Standing old) where
  there : (other : ℕ) → other ≢ root → at (domains new) other ≡ at (domains old) other
  there other apart = ap (λ (table : ℕ → Domain). at table other) ends.domains_now ∙ at-with_at-other (domains old) root other (ended (at (domains old) root)) apart

  live-now : (at (domains new) root).live ≡ true
  live-now = ap (λ (table : ℕ → Domain). (at table root).live) ends.domains_now ∙ ap (λ (domain : Domain). domain.live) (at-with_at (domains old) root (ended (at (domains old) root))) ∙ live

  named-same : named_by new.inodes ≡ named_by old.inodes
  named-same = ap (λ (k : Kernel). named_by k.inodes) ends.rest

  owner-now : (object : Object) → IsSome ((forest_of old).owner object) → IsSome ((forest_of new).owner object)
  owner-now object some = subst (λ (forest : Forest). IsSome (forest.owner object)) (sym ends.forest_now) some

  -- what names objects of trees from outside is as before
  outside-same : (outside : Outside) (object : Object) → IsSome ((forest_of old).owner object) → outside_trees new outside object ≡ outside_trees old outside object
  outside-same outside object some =
      sym (outside-more new (and_outside outside (Node (record { 0 = ends.regs }))) (Node (record { 0 = ends.descriptors })) object
      (λ counted. other-node (forest_of new) object ends.descriptors (owner-now object some) (free-unowned new ends.descriptors (ends.free ends.descriptors (inr refl))))
      ∙ outside-more new outside (Node (record { 0 = ends.regs })) object
      (λ counted. other-node (forest_of new) object ends.regs (owner-now object some) (free-unowned new ends.regs (ends.free ends.regs (inl refl)))))
      ∙ ap (λ (f : Object → ℕ). f object) (ends.outside_now outside)

  trees-good : TreesGood new (named_by old.inodes) []
  trees-good =
      trees-again old new (named_by old.inodes) (named_by old.inodes) ends.forest_now (outside-same (named_by old.inodes))
      (ends.shares (named_by old.inodes) [] standing.trees.shares) standing.trees

  inside-good : NoPageOutside (forest_of old) (outside_trees new (named_by old.inodes))
  inside-good page some = outside-same (named_by old.inodes) (PageObject page) some ∙ standing.pages_inside page some

  -- nodes of domains
  no-words : (node : ℕ) → of_domain (entry_at new.node_entries node) ≡ true → (node ≢ ends.regs) × (node ≢ ends.descriptors)
  no-words node mine = (
    λ same. not-free (entry_at new.node_entries node) (ends.free node (inl same)) mine,
    λ same. not-free (entry_at new.node_entries node) (ends.free node (inr same)) mine,
  )

  own-node : (node : ℕ) → of_domain (entry_at new.node_entries node) ≡ true → IsNodeOf (domain_rows old) root node → IsNodeOf (domain_rows new) root node
  own-node node mine is = (
    live_meter (domain_rows new) root live-now,
    ⊎_elim
        (λ (t : root ≡ node). inl t)
        (λ (t : (node_in (domain_rows old root 3) ≡ Some node) ⊎ (node_in (domain_rows old root 4) ≡ Some node)). absurd (⊎_elim
        (λ (u : node_in (domain_rows old root 3) ≡ Some node).
        let both : Some node ≡ Some ends.regs = sym u ∙ sym (root_regs_node (domain_rows old) root live) ∙ ends.regs_were in (no-words node mine).0 (let same : node ≡ ends.regs = cc in same))
        (λ (u : node_in (domain_rows old root 4) ≡ Some node).
        let both : Some node ≡ Some ends.descriptors = sym u ∙ sym (root_descriptors_node (domain_rows old) root live) ∙ ends.descriptors_were in (no-words node mine).1 (let same : node ≡ ends.descriptors = cc in same)) t))
        is.1,
  )

  nodes-good : NodesHeld (domain_rows new) new.node_entries
  nodes-good node mine =
      let apart = no-words node mine in
      let h = standing.nodes_held node (ap of_domain (sym (ends.entries node apart.0 apart.1)) ∙ mine) in
      ⊎_elim
      (λ (t : h.0 ≡ root). (root, own-node node mine (subst (λ r. IsNodeOf (domain_rows old) r node) t h.1)))
      (λ (d : h.0 ≢ root).
      let same = there h.0 d in
      (h.0, is-node (domain_rows old) (domain_rows new) h.0 node (ap (λ (domain : Domain). domain.live) same) (ap (λ (domain : Domain). domain.regs_node) same) (ap (λ (domain : Domain). domain.descriptors_node) same) h.1))
      (cases_eq h.0 root)

  held-good : AllHeld (with_at (domains old) root (ended (at (domains old) root))) (forest_of old) (page_owners old) (inodes_of old)
  unfolding machine_of
  held-good = held_with_domain (machine_of old) root (ended (at (domains old) root)) refl refl refl standing.held

  stands : Standing new
  unfolding inodes_of
  stands =
      let owners : page_owners new ≡ page_owners old = ap page_owners ends.rest in
      let inodes : inodes_of new ≡ inodes_of old = ap inodes_of ends.rest in
      record {
        bank = bank;
        whole = rw (ap (λ (k : Kernel). k.bank) ends.rest) standing.whole;
        unused = rw (ap (λ (k : Kernel). k.page_zero) ends.rest, ap (λ (k : Kernel). k.other_words) ends.rest) standing.unused;
        trees = subst (λ (outside : Outside). TreesGood new outside []) (sym named-same) trees-good;
        pages_inside = subst (λ (outside : Outside). NoPageOutside (forest_of new) (outside_trees new outside)) (sym named-same)
            (subst (λ (forest : Forest). NoPageOutside forest (outside_trees new (named_by old.inodes))) (sym ends.forest_now) inside-good);
        filled = filled-to ends.forest_now standing.filled;
        rows = rows;
        nodes_held = nodes-good;
        inodes = rw (ap (λ (k : Kernel). k.inodes) ends.rest) standing.inodes;
        descriptions = rw (ap (λ (k : Kernel). k.descriptions) ends.rest) standing.descriptions;
        holdings = holdings-to ends.domains_now ends.forest_now owners
            (holdings-with (domains old) (forest_of old) (page_owners old) root (ended (at (domains old) root)) refl refl standing.holdings);
        roots = roots-to ends.forest_now (ap memory_page ends.rest) owners inodes standing.roots;
        keepers = keepers-to ends.forest_now standing.keepers;
        held = held-to ends.domains_now ends.forest_now owners inodes held-good;
      }

pub standing_with_end : law.StandingWithEnd
standing_with_end old new root ends live bank rows standing = stands old new root ends live bank rows standing

-- ---- a zombie is dropped

-- a zombie has its root alone, and so no descriptor
wordless : (kernel : Kernel) (root : ℕ) → RowsGood (domain_rows kernel) → MayDrop kernel root → (node_in (domain_rows kernel root 3) ≡ None) × (node_in (domain_rows kernel root 4) ≡ None)
wordless kernel root rows may =
    none-of (node_in (domain_rows kernel root 3)) (node_in (domain_rows kernel root 4)) (rows.places root (live_meter (domain_rows kernel) root may.live)).both
    (sym (root_whole (domain_rows kernel) root may.live) ∙ may.wordless)
  where
    none-of : {X Y : Type 0} (one : Option X) (two : Option Y) → is_some one ≡ is_some two → (is_some one && is_some two) ≡ false → (one ≡ None) × (two ≡ None)
    none-of None None same e = (refl, refl)
    none-of None (Some y) same e = cc
    none-of (Some x) None same e = cc
    none-of (Some x) (Some y) same e = cc

pub no-descriptors : (kernel : Kernel) (root : ℕ) → RowsGood (domain_rows kernel) → MayDrop kernel root → (number : ℕ) → (at (domains kernel) root).descriptors number ≡ None
unfolding full_domain
no-descriptors kernel root rows may number =
    ap (λ (domain : Domain). domain.descriptors number) (root_domain (domain_rows kernel) root (live_meter (domain_rows kernel) root may.live))
    ∙ ap (λ node. description_by (words_of (domain_rows kernel) node number)) (wordless kernel root rows may).1

module _ (old new : Kernel) (slot root : ℕ) (drops : DropsDomain old new slot root) (may : MayDrop old root) (bank : BankGood new) (rows : RowsGood (domain_rows new)) (standing : Standing old) where
  apart-there : (other : ℕ) → other ≢ root → at (domains new) other ≡ at (domains old) other
  apart-there other apart = ap (λ (table : ℕ → Domain). at table other) drops.domains_now ∙ at-with_at-other (domains old) root other no_domain apart

  gone-here : at (domains new) root ≡ no_domain
  gone-here = ap (λ (table : ℕ → Domain). at table root) drops.domains_now ∙ at-with_at (domains old) root no_domain

  -- what names objects of trees from outside is as before
  outside-still : (outside : Outside) (object : Object) → IsSome ((forest_of old).owner object) → outside_trees new outside object ≡ outside_trees old outside object
  outside-still outside object some =
      let some_now = subst (λ (forest : Forest). IsSome (forest.owner object)) (sym drops.forest_now) some in
      sym (outside-more new (and_outside outside (DomainKey (record { 0 = root }))) (Start (record { 0 = 1 }) (at (domains old) root).slot) object (no-keeper object (at (domains old) root).slot)
      ∙ outside-more new outside (DomainKey (record { 0 = root })) object
      (λ counted. as-domain object root ∙ other-node (forest_of new) object root some_now (free-unowned new root drops.free)))
      ∙ ap (λ (f : Object → ℕ). f object) (drops.outside_now outside)

  -- a domain that has a space or a buffer is another one
  field-same : {X : Type 0} (field : Domain → Option X) → field no_domain ≡ None → field (at (domains old) root) ≡ None → (other : ℕ) → field (at (domains new) other) ≡ field (at (domains old) other)
  field-same field now was other = ⊎_elim
      (λ (t : other ≡ root). ap (λ r. field (at (domains new) r)) t ∙ ap field gone-here ∙ now ∙ sym was ∙ ap (λ r. field (at (domains old) r)) (sym t))
      (λ (d : other ≢ root). ap field (apart-there other d))
      (cases_eq other root)

  not-root : {X : Type 0} (field : Domain → Option X) (x : X) → field (at (domains old) root) ≡ None → (other : ℕ) → field (at (domains old) other) ≡ Some x → other ≢ root
  not-root field x was other has same = let no : Some x ≡ None = sym has ∙ ap (λ r. field (at (domains old) r)) same ∙ was in cc

  holdings-still : HoldingsGood (domains new) (forest_of old) (page_owners old)
  holdings-still =
      let of_space = field-same (λ d. d.space) refl may.no_space in
      let of_buffer = field-same (λ d. d.buffer) refl may.no_buffer in
      record {
        spaces = λ r s has. standing.holdings.spaces r s (sym (of_space r) ∙ has);
        buffers = λ r page has. standing.holdings.buffers r page (sym (of_buffer r) ∙ has);
        spaces_differ = λ r other s has also. standing.holdings.spaces_differ r other s (sym (of_space r) ∙ has) (sym (of_space other) ∙ also);
        buffers_differ = λ r other page has also. standing.holdings.buffers_differ r other page (sym (of_buffer r) ∙ has) (sym (of_buffer other) ∙ also);
      }

  held-still : AllHeld (domains new) (forest_of old) (page_owners old) (inodes_of old)
  held-still =
      record {
        spaces = λ s is owned.
            let h = standing.held.spaces s is owned in
            let same = apart-there h.0 (not-root (λ d. d.space) s may.no_space h.0 h.2) in
            (h.0, ap (λ (domain : Domain). domain.live) same ∙ h.1, ap (λ (domain : Domain). domain.space) same ∙ h.2);
        trees = standing.held.trees;
        buffers = λ page owned.
            let h = standing.held.buffers page owned in
            let same = apart-there h.0 (not-root (λ d. d.buffer) page may.no_buffer h.0 h.2) in
            (h.0, ap (λ (domain : Domain). domain.live) same ∙ h.1, ap (λ (domain : Domain). domain.buffer) same ∙ h.2);
        pipes = standing.held.pipes;
      }

  nodes-still : NodesHeld (domain_rows new) new.node_entries
  nodes-still node mine =
      let apart : node ≢ root = λ same. not-free (entry_at new.node_entries node) (ap (λ n. is_free (entry_at new.node_entries n)) same ∙ drops.free) mine in
      let h = standing.nodes_held node (ap of_domain (sym (drops.entries node apart)) ∙ mine) in
      let other : h.0 ≢ root = λ same. no-node node apart (subst (λ r. IsNodeOf (domain_rows old) r node) same h.1) in
      let same = apart-there h.0 other in
      (h.0, is-node (domain_rows old) (domain_rows new) h.0 node (ap (λ (domain : Domain). domain.live) same) (ap (λ (domain : Domain). domain.regs_node) same) (ap (λ (domain : Domain). domain.descriptors_node) same) h.1)
    where
      no-node : (node : ℕ) → node ≢ root → IsNodeOf (domain_rows old) root node → ⊥
      no-node node apart is = ⊎_elim
          (λ (t : root ≡ node). apart (sym t))
          (λ (t : (node_in (domain_rows old root 3) ≡ Some node) ⊎ (node_in (domain_rows old root 4) ≡ Some node)). ⊎_elim
          (λ (u : node_in (domain_rows old root 3) ≡ Some node). let no : Some node ≡ None = sym u ∙ (wordless old root standing.rows may).0 in cc)
          (λ (u : node_in (domain_rows old root 4) ≡ Some node). let no : Some node ≡ None = sym u ∙ (wordless old root standing.rows may).1 in cc) t)
          is.1

  still-stands : Standing new
  unfolding inodes_of
  still-stands =
      let named : named_by new.inodes ≡ named_by old.inodes = ap (λ (k : Kernel). named_by k.inodes) drops.rest in
      let owners : page_owners new ≡ page_owners old = ap page_owners drops.rest in
      let inodes : inodes_of new ≡ inodes_of old = ap inodes_of drops.rest in
      record {
        bank = bank;
        whole = rw (ap (λ (k : Kernel). k.bank) drops.rest) standing.whole;
        unused = rw (ap (λ (k : Kernel). k.page_zero) drops.rest, ap (λ (k : Kernel). k.other_words) drops.rest) standing.unused;
        trees = subst (λ (outside : Outside). TreesGood new outside []) (sym named)
            (trees-again old new (named_by old.inodes) (named_by old.inodes) drops.forest_now (outside-still (named_by old.inodes)) (drops.shares (named_by old.inodes) [] standing.trees.shares) standing.trees);
        pages_inside = subst (λ (outside : Outside). NoPageOutside (forest_of new) (outside_trees new outside)) (sym named)
            (subst (λ (forest : Forest). NoPageOutside forest (outside_trees new (named_by old.inodes))) (sym drops.forest_now)
            (λ page some. outside-still (named_by old.inodes) (PageObject page) some ∙ standing.pages_inside page some));
        filled = filled-to drops.forest_now standing.filled;
        rows = rows;
        nodes_held = nodes-still;
        inodes = rw (ap (λ (k : Kernel). k.inodes) drops.rest) standing.inodes;
        descriptions = rw (ap (λ (k : Kernel). k.descriptions) drops.rest) standing.descriptions;
        holdings = holdings-to refl drops.forest_now owners holdings-still;
        roots = roots-to drops.forest_now (ap memory_page drops.rest) owners inodes standing.roots;
        keepers = keepers-to drops.forest_now standing.keepers;
        held = held-to refl drops.forest_now owners inodes held-still;
      }

pub standing_with_gone : law.StandingWithGone
standing_with_gone old new slot root drops may bank rows standing = still-stands old new slot root drops may bank rows standing
