-- The tables once the first process is made.
use Rattle.std.proofs.Common.{◌≡◌, ◌≢◌, ◌⊎◌, ◌<◌, ◌+◌, ◌/◌, ◌%◌, ℕ, Option, Some, None, true, false, List, [], length, replicate, slice_index_or, refl, sym, ap, subst, ◌∙◌, arith, ⊎_elim, inl, inr}
use Rattle.std.specs.Option.{IsSome, is_some}
use Rattle.std.proofs.lemmas.Bool.{cases_eq}
use Rattle.std.proofs.lemmas.List.{length-replicate, get_or-replicate}
use Rattle.kn_base.specs.declared.key.Key.{Key}
use Rattle.kn_base.specs.declared.key.Key.TheVariants.{Null, Domain as DomainKey}
use Rattle.kn_base.specs.Memory.{zero_page}
use Rattle.kernel_tables.specs.declared.entry.Entry.{Entry}
use Rattle.kernel_tables.specs.declared.entry.Entry.TheVariants.{Free, Taken, Fixed, Unspelled}
use Rattle.kernel_tables.specs.declared.entry.NodeOwner.{NodeOwner}
use Rattle.kernel_tables.specs.Kernel.{Kernel}
use Rattle.kernel_tables.specs.Rows.{entry_at, fixed_rows, domain_rows, of_domain, is_fixed}
use Rattle.space_bank.specs.Bank.{BankGood}
use Rattle.space_bank.specs.Fixed.{FixedNodes}
use Rattle.space_bank.specs.FreeList.{taken_one, taken_count}
use Rattle.space_bank.specs.Laws.{and_outside}
use Rattle.space_bank.specs.Shares.{Outside, nothing_outside}
use Rattle.forest.specs.Forest.{Forest, NoneEmpty}
use Rattle.forest.specs.Objects.{NodeObject, OfProcess, named}
use Rattle.forest.specs.Walks.{space_key}
use Rattle.kernel_forest.specs.Moves.{KeepsRest}
use Rattle.kernel_forest.specs.Trees.{forest_of, owner_of, TreesGood}
use Rattle.kernel_forest.proofs.RowLaws.{domains_apart, fixed_apart, tree_apart}
use Rattle.file_tables.specs.Roots.{named_by}
use Rattle.unix_model.specs.Tables.{at, with_at, nothing}
use Rattle.unix_model.proofs.TableLaws.{at-with_at, at-with_at-other, with_at-twice}
use Rattle.seg_tree.specs.Promises.{Adds}
use Rattle.domain.specs.declared.types.Heads.{Heads}
use Rattle.domain.specs.declared.types.State.TheVariants.{Running}
use Rattle.domain.specs.Domains.{Domain, Life, no_domain, domains, domain_at, lives, roots, roots_by, with_heads}
use Rattle.domain.specs.Keys.{node_in}
use Rattle.domain.specs.Life.{MakesDomain, born}
use Rattle.domain.specs.Rules.{RowsGood, written}
use Rattle.domain.specs.Sets.{WritesNumbers}
use Rattle.domain.proofs.DomainLaws.{live_meter}
use Rattle.domain.proofs.Ending.{root_regs_node, root_descriptors_node}
use Rattle.domain.proofs.RowLaws.{written_both}
use Rattle.kernel_machine.specs.Held.{NodesHeld, AllWhole}
use Rattle.kernel_machine.specs.Trees.{keeper}
use Rattle.kernel_machine.proofs.KeepLaws.{trees_with_birth, trees_with_numbers, fixed_with_birth, fixed_with_rows}
use Rattle.kernel_machine.proofs.UntakenLaws.{no-node-owner}
use Rattle.unix_rules.proofs.Boot.{nothing-some}
use Rattle.unix_rules.proofs.Changed.{put-reads}
use Rattle.first_machine.specs.First.{Begins}
use Rattle.first_machine.proofs.Tables.{one-taken, tree-taken, no-page, no-node, trees-good, nothing-named, no-domains, room-null, no-roots, bank-is}

-- the ids of process 1
abbrev pub first_heads : Heads
first_heads = record { pid = 1; parent = 0; break_start = 0; break_end = 0; word = 0 }

-- What the calls said by which the first process was made: a bank is set up, a space is added, a domain made, its ids written.
pub record Makes (pages quantum : ℕ) (k0 k1 k2 k3 : Kernel) (space root : ℕ) : Type 0 where
  pub begins : Begins pages quantum k0
  pub adds : Adds k0 k1 space (Some OfProcess) keeper (λ page. None)
  pub good1 : BankGood k1
  pub made : MakesDomain k1 k2 0 space root
  pub good2 : BankGood k2
  pub heads : domains k3 ≡ with_at (domains k2) root (with_heads (at (domains k2) root) first_heads)
  pub lives_now : lives k3 ≡ lives k2
  pub writes : WritesNumbers k2 k3
  pub rows3 : RowsGood (domain_rows k3)
  pub good3 : BankGood k3

-- all of the tables that no such call changes
abbrev pub rest-of : Kernel → Kernel
rest-of kernel = record kernel { machine = record kernel.machine { free_node = 0; nodes_taken = 0 }; page_entries = []; node_entries = []; keys = [] }

pub rest-kept : (old new : Kernel) → KeepsRest old new → rest-of new ≡ rest-of old
rest-kept old new rest = ap rest-of rest

pub rest-written : (old new : Kernel) → new ≡ record old { keys = new.keys } → rest-of new ≡ rest-of old
rest-written old new rest = ap rest-of rest

-- ---- after the space was added

module _ (pages quantum : ℕ) (k0 k1 : Kernel) (space : ℕ) (begins : Begins pages quantum k0) (adds : Adds k0 k1 space (Some OfProcess) keeper (λ page. None)) (good1 : BankGood k1) where
  pub fixed-added : fixed_rows k1 ≡ fixed_rows k0
  fixed-added = adds.rows_now is_fixed fixed_apart

  pub rows-added : domain_rows k1 ≡ domain_rows k0
  rows-added = adds.rows_now of_domain domains_apart

  pub trees-added : TreesGood k1 (and_outside nothing_outside (space_key space)) []
  trees-added = (adds.adds nothing_outside (trees-good pages quantum k0 begins)).0

  pub one-node : taken_count k1.node_entries ≡ 1
  one-node = sym good1.nodes.entries_good.number ∙ adds.number ∙ ap (λ n. n + 1) (no-node pages quantum k0 begins)

  taken-of : (node : ℕ) → IsSome ((forest_of k1).owner (NodeObject node)) → taken_one (entry_at k1.node_entries node) ≡ 1
  unfolding owner_of
  taken-of node some = tree-taken (entry_at k1.node_entries node) some

  space-owned : IsSome ((forest_of k1).owner (NodeObject space))
  space-owned = ap is_some adds.owned

  pub taken-is : (node : ℕ) → taken_one (entry_at k1.node_entries node) ≡ 1 → node ≡ space
  unfolding taken_count
  taken-is node taken = one-taken k1.node_entries node space one-node taken (taken-of space space-owned)

  pub only-space : (node : ℕ) → IsSome ((forest_of k1).owner (NodeObject node)) → node ≡ space
  only-space node some = taken-is node (taken-of node some)

  pub no-domain-node : of_domain (entry_at k1.node_entries space) ≡ false
  unfolding owner_of
  no-domain-node = tree_apart of_domain domains_apart (entry_at k1.node_entries space) space-owned

-- ---- at the end

domain-taken : (entry : Entry NodeOwner) → of_domain entry ≡ true → taken_one entry ≡ 1
domain-taken (Free next) mine = cc
domain-taken (Taken owner count) mine = refl
domain-taken Fixed mine = cc
domain-taken Unspelled mine = cc

module _ (pages quantum : ℕ) (k0 k1 k2 k3 : Kernel) (space root : ℕ) (m : Makes pages quantum k0 k1 k2 k3 space root) where
  pub rest-now : rest-of k3 ≡ rest-of k0
  rest-now = rest-written k2 k3 m.writes.rest ∙ rest-kept k1 k2 m.made.rest ∙ rest-kept k0 k1 m.adds.rest

  pub forest-now : forest_of k3 ≡ forest_of k1
  forest-now = m.writes.forest_now ∙ m.made.forest_now

  pub inodes-now : k3.inodes ≡ k0.inodes
  inodes-now = ap (λ (k : Kernel). k.inodes) rest-now

  pub descriptions-now : k3.descriptions ≡ k0.descriptions
  descriptions-now = ap (λ (k : Kernel). k.descriptions) rest-now

  pub nothing-named-now : named_by k3.inodes ≡ nothing_outside
  nothing-named-now = ap named_by inodes-now ∙ nothing-named pages quantum k0 m.begins

  pub no-page-now : k3.machine.pages_taken ≡ 0
  no-page-now = ap (λ (k : Kernel). k.machine.pages_taken) rest-now ∙ no-page pages quantum k0 m.begins

  pub whole-now : AllWhole k3.bank
  unfolding zero_page
  whole-now page below =
      let e : k3.bank ≡ replicate pages zero_page = ap (λ (k : Kernel). k.bank) rest-now ∙ bank-is pages quantum k0 m.begins in
      let inside : page < pages = omega (arith, ap length e, length-replicate pages zero_page) in
      ap (λ (bank : List (List ℕ)). length (slice_index_or bank page [])) e ∙ ap length (get_or-replicate pages page zero_page [] inside) ∙ length-replicate {A = ℕ} 4096 0

  pub trees-now : TreesGood k3 (named_by k3.inodes) []
  trees-now = subst (λ (outside : Outside). TreesGood k3 outside []) (sym nothing-named-now)
      (trees_with_numbers k2 k3 nothing_outside [] m.writes (trees_with_birth k1 k2 nothing_outside 0 space root m.good1 m.made (trees-added pages quantum k0 k1 space m.begins m.adds m.good1)))

  pub filled-now : NoneEmpty (forest_of k3).keys
  filled-now = subst (λ (forest : Forest). NoneEmpty forest.keys) (sym forest-now) (m.adds.filled none-named)
    where
      none-named : NoneEmpty (forest_of k0).keys
      none-named place node named_it =
          let no : None ≡ Some (NodeObject node) =
          sym (ap named ((trees-good pages quantum k0 m.begins).held.sound.masked place (no-node-owner k0 m.begins.good (no-node pages quantum k0 m.begins) (place / 16)))) ∙ named_it in cc

  pub fixed-now : FixedNodes k3.keys
  fixed-now =
      fixed_with_rows k2 k3 m.good2 m.good3 m.writes.fixed_now
      (fixed_with_birth k1 k2 0 space root (omega arith) m.good1 m.good2 m.made
      (fixed_with_rows k0 k1 m.begins.good m.good1 (fixed-added pages quantum k0 k1 space m.begins m.adds m.good1) m.begins.fixed))

  -- slots, and the resume room
  fixed-is : fixed_rows k3 ≡ written (fixed_rows k0) 11 0 (DomainKey (record { 0 = root }))
  fixed-is = m.writes.fixed_now ∙ m.made.fixed_now ∙ ap (λ (rows : ℕ → ℕ → Key). written rows 11 0 (DomainKey (record { 0 = root }))) (fixed-added pages quantum k0 k1 space m.begins m.adds m.good1)

  pub room-now : (slot : ℕ) → slot < 64 → fixed_rows k3 (7 + slot / 16) (slot % 16) ≡ Null
  room-now slot low =
      ap (λ (rows : ℕ → ℕ → Key). rows (7 + slot / 16) (slot % 16)) fixed-is
      ∙ written_both (fixed_rows k0) 11 0 (DomainKey (record { 0 = root })) (λ key. key ≡ Null) (7 + slot / 16) (slot % 16)
      (λ node digit. absurd (omega arith)) (room-null pages quantum k0 m.begins slot low)

  pub roots-now : roots k3 ≡ with_at nothing 0 (Some root)
  roots-now =
      ap roots_by m.writes.fixed_now ∙ m.made.roots_now
      ∙ ap (λ (table : ℕ → Option ℕ). with_at table 0 (Some root)) (ap roots_by (fixed-added pages quantum k0 k1 space m.begins m.adds m.good1) ∙ no-roots pages quantum k0 m.begins)

  pub root-of : (slot other : ℕ) → at (roots k3) slot ≡ Some other → (slot ≡ 0) × (other ≡ root)
  root-of slot other there = by_place (put-reads nothing 0 slot root other (ap (λ (table : ℕ → Option ℕ). at table slot) (sym roots-now) ∙ there))
    where
      by_place : ((slot ≡ 0) × (root ≡ other)) ⊎ ((slot ≢ 0) × (at nothing slot ≡ Some other)) → (slot ≡ 0) × (other ≡ root)
      by_place (inl own) = (own.0, sym own.1)
      by_place (inr elsewhere) = absurd (nothing-some slot other elsewhere.1)

  -- domains and lives
  abbrev pub first : Domain
  first = with_heads (born 0 space m.made.regs m.made.descriptors) first_heads

  pub domains-now : domains k3 ≡ with_at (λ r. no_domain) root first
  domains-now =
      let before : domains k1 ≡ (λ r. no_domain) = ap domain_at (rows-added pages quantum k0 k1 space m.begins m.adds m.good1) ∙ no-domains pages quantum k0 m.begins in
      let was : Domain = born 0 space m.made.regs m.made.descriptors in
      let birth : domains k2 ≡ with_at (λ r. no_domain) root was = m.made.domains_now ∙ ap (λ (table : ℕ → Domain). with_at table root was) before in
      m.heads
      ∙ ap (λ (table : ℕ → Domain). with_at table root (with_heads (at table root) first_heads)) birth
      ∙ ap (λ (domain : Domain). with_at (with_at (λ r. no_domain) root was) root (with_heads domain first_heads)) (at-with_at (λ r. no_domain) root was)
      ∙ with_at-twice (λ r. no_domain) root was first

  pub domain-here : at (domains k3) root ≡ first
  domain-here = ap (λ (table : ℕ → Domain). at table root) domains-now ∙ at-with_at (λ r. no_domain) root first

  pub domain-there : (other : ℕ) → other ≢ root → at (domains k3) other ≡ no_domain
  unfolding at
  domain-there other apart = ap (λ (table : ℕ → Domain). at table other) domains-now ∙ at-with_at-other (λ r. no_domain) root other first apart

  pub life-here : at (lives k3) root ≡ record { state = Running; count = 0 }
  life-here = ap (λ (table : ℕ → Life). at table root) (m.lives_now ∙ m.made.lives_now) ∙ at-with_at (lives k1) root (record { state = Running; count = 0 })

  -- what only the root's domain has
  pub only-root : (P : Domain → Type 0) (other : ℕ) → (P no_domain → ⊥) → P (at (domains k3) other) → other ≡ root
  only-root P other none has = ⊎_elim
      (λ (t : other ≡ root). t)
      (λ (t : other ≢ root). absurd (none (subst P (domain-there other t) has)))
      (cases_eq other root)

  live-now : (at (domains k3) root).live ≡ true
  live-now = ap (λ (domain : Domain). domain.live) domain-here

  regs-node : node_in (domain_rows k3 root 3) ≡ Some m.made.regs
  regs-node = sym (root_regs_node (domain_rows k3) root live-now) ∙ ap (λ (domain : Domain). domain.regs_node) domain-here

  descriptors-node : node_in (domain_rows k3 root 4) ≡ Some m.made.descriptors
  descriptors-node = sym (root_descriptors_node (domain_rows k3) root live-now) ∙ ap (λ (domain : Domain). domain.descriptors_node) domain-here

  -- nodes of domains
  no-other : (node : ℕ) → node ≢ m.made.regs → node ≢ m.made.descriptors → node ≢ root → of_domain (entry_at k2.node_entries node) ≡ true → ⊥
  no-other node not_regs not_descriptors not_root mine =
      let before : of_domain (entry_at k1.node_entries node) ≡ true = ap of_domain (sym (m.made.entries node not_regs not_descriptors not_root)) ∙ mine in
      let same : node ≡ space = taken-is pages quantum k0 k1 space m.begins m.adds m.good1 node (domain-taken (entry_at k1.node_entries node) before) in
      let no : false ≡ true = sym (no-domain-node pages quantum k0 k1 space m.begins m.adds m.good1) ∙ ap (λ n. of_domain (entry_at k1.node_entries n)) (sym same) ∙ before in cc

  which : (node : ℕ) → of_domain (entry_at k2.node_entries node) ≡ true
      → (root ≡ node) ⊎ ((node_in (domain_rows k3 root 3) ≡ Some node) ⊎ (node_in (domain_rows k3 root 4) ≡ Some node))
  which node mine = ⊎_elim
      (λ (t : node ≡ root). inl (sym t))
      (λ (not_root : node ≢ root). ⊎_elim
      (λ (t : node ≡ m.made.regs). inr (inl (regs-node ∙ ap Some (sym t))))
      (λ (not_regs : node ≢ m.made.regs). ⊎_elim
      (λ (t : node ≡ m.made.descriptors). inr (inr (descriptors-node ∙ ap Some (sym t))))
      (λ (not_descriptors : node ≢ m.made.descriptors). absurd (no-other node not_regs not_descriptors not_root mine))
      (cases_eq node m.made.descriptors))
      (cases_eq node m.made.regs))
      (cases_eq node root)

  pub nodes-held-now : NodesHeld (domain_rows k3) k3.node_entries
  nodes-held-now node mine = (
    root,
    (live_meter (domain_rows k3) root live-now, which node (ap (λ (entries : List (Entry NodeOwner)). of_domain (entry_at entries node)) (sym (ap (λ (k : Kernel). k.node_entries) m.writes.rest)) ∙ mine)),
  )
