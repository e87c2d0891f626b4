-- What stands within a turn too goes along with single calls.
use Rattle.std.proofs.Common.{◌≡◌, ◌≢◌, ◌⊎◌, ◌<◌, ◌≤◌, ◌-◌, ℕ, Option, Some, None, true, false, List, [], length, slice_set, refl, sym, ap, ap₂, subst, ◌∙◌, arith, ⊎_elim, inl, inr}
use Rattle.std.specs.Prelude.{◌==◌, if◌then◌else◌}
use Rattle.std.proofs.Math.Path.{fun_ext}
use Rattle.std.specs.Option.{is_some}
use Rattle.std.proofs.lemmas.Bool.{cases_eq}
use Rattle.std.proofs.lemmas.List.{get_or-set_other}
use Rattle.kn_base.specs.declared.key.Key.{Key}
use Rattle.kernel_tables.specs.declared.entry.PageOwner.{PageOwner}
use Rattle.kernel_tables.specs.declared.inode.Inode.{Inode}
use Rattle.kernel_tables.specs.declared.inode.InodeKind.{InodeKind}
use Rattle.kernel_tables.specs.declared.inode.InodeKind.TheVariants.{File, Dir, Pipe, Console}
use Rattle.kernel_tables.specs.declared.row.Row.{Row}
use Rattle.kernel_tables.specs.declared.row.Row.TheVariants.{Used}
use Rattle.kernel_tables.specs.Kernel.{Kernel, IsBankPage, inode_at, first_page, memory_page, with_bank_page}
use Rattle.kernel_tables.specs.Rows.{domain_rows, entry_at, of_domain}
use Rattle.space_bank.specs.Bank.{BankGood}
use Rattle.space_bank.specs.Shares.{Outside}
use Rattle.forest.specs.Forest.{Forest, IsSpace, NoneEmpty, NoPageOutside, Sound}
use Rattle.forest.specs.Objects.{Object, PageObject}
use Rattle.forest.specs.Walks.{Mapping, map_of, key_at_page, page_way}
use Rattle.forest.proofs.CopyLaws.{end_owned}
use Rattle.forest.proofs.OwnLaws.{found_at, mapped_named}
use Rattle.kernel_forest.specs.Owners.{page_owners}
use Rattle.kernel_forest.proofs.Bridge.{page_inside}
use Rattle.kernel_forest.proofs.Moves.{bank_page as its_page}
use Rattle.kernel_forest.specs.Trees.{forest_of, outside_trees, page_tree, TreesGood}
use Rattle.kernel_forest.proofs.Owners.{owned-in-bank}
use Rattle.file_tables.specs.Roots.{named_by, root_key, word_key}
use Rattle.file_tables.specs.Rows.{InodesGood, DescriptionsGood}
use Rattle.file_tables.proofs.RootLaws.{kept, trees_beside}
use Rattle.domain.specs.Domains.{Domain, Life, domains, domain_at, full_domain}
use Rattle.domain.specs.Keys.{is_meter, node_in}
use Rattle.domain.specs.Rules.{RowsGood}
use Rattle.domain.specs.Sets.{WritesNumbers}
use Rattle.domain.proofs.DomainLaws.{live_meter}
use Rattle.domain.proofs.Ending.{root_regs_node, root_descriptors_node}
use Rattle.unix_model.specs.Calls.{Calls}
use Rattle.unix_model.specs.Memory.{Page}
use Rattle.unix_model.specs.Tables.{at, with_at}
use Rattle.unix_model.proofs.TableLaws.{at-with_at, at-with_at-other}
use Rattle.user_copy.specs.SpaceMemory.{memory_by, page_of}
use Rattle.kernel_machine.specs.Good.{Good}
use Rattle.kernel_machine.specs.Held.{AllHeld, IsNodeOf}
use Rattle.kernel_machine.specs.Machine.{KernelMachine, machine_of, inodes_of, held}
use Rattle.kernel_machine.specs.Processes.{IsInSlot, HoldingsGood}
use Rattle.kernel_machine.specs.Standing as law
use Rattle.kernel_machine.specs.Standing.{Standing, Settled, HasSame}
use Rattle.kernel_machine.specs.Trees.{HasTree, IsFileTree, IsRootOf, RootsGood, KeepersGood}
use Rattle.kernel_machine.proofs.HeldLaws.{stays, held_with_domain, held_with_inode}
use Rattle.kernel_machine.proofs.KeepLaws.{trees_with_numbers}
use Rattle.kernel_machine.proofs.MachineLaws.{inode_written}
use Rattle.kernel_machine.proofs.MemoryLaws.{made-same}
use Rattle.kernel_machine.proofs.OwnerLaws.{unowned-by, whole-set}

-- ---- both together

apart : (calls : Calls) (kernel : Kernel) → Good calls kernel → Standing kernel × Settled calls kernel
unfolding machine_of
apart calls kernel good = (
  record {
    bank = good.bank;
    whole = good.whole;
    unused = good.unused;
    trees = good.trees;
    pages_inside = good.pages_inside;
    filled = good.filled;
    rows = good.rows;
    nodes_held = good.nodes_held;
    inodes = good.inodes;
    descriptions = good.descriptions;
    holdings = good.machine.holdings;
    roots = good.machine.roots;
    keepers = good.machine.keepers;
    held = good.machine.held;
  },
  record {
    fixed = good.fixed;
    slots = good.machine.slots;
    inodes_counted = good.machine.inodes_counted;
    descriptions_counted = good.machine.descriptions_counted;
    promises = good.machine.promises;
    unix = good.machine.unix;
    parked = good.machine.parked;
  },
)

together : (calls : Calls) (kernel : Kernel) → Standing kernel × Settled calls kernel → Good calls kernel
unfolding machine_of
together calls kernel both =
    let standing = both.0 in
    let settled = both.1 in
    record {
      bank = standing.bank;
      whole = standing.whole;
      unused = standing.unused;
      fixed = settled.fixed;
      trees = standing.trees;
      pages_inside = standing.pages_inside;
      filled = standing.filled;
      rows = standing.rows;
      nodes_held = standing.nodes_held;
      inodes = standing.inodes;
      descriptions = standing.descriptions;
      machine = record {
        slots = settled.slots;
        holdings = standing.holdings;
        roots = standing.roots;
        keepers = standing.keepers;
        held = standing.held;
        inodes_counted = settled.inodes_counted;
        descriptions_counted = settled.descriptions_counted;
        promises = settled.promises;
        unix = settled.unix;
        parked = settled.parked;
      };
    }

pub good_is_both : law.GoodIsBoth
good_is_both calls kernel = (apart calls kernel, together calls kernel)

-- ---- tables that are these

pub holdings-to : {d1 d2 : ℕ → Domain} {f1 f2 : Forest} {o1 o2 : ℕ → Option PageOwner} → d2 ≡ d1 → f2 ≡ f1 → o2 ≡ o1 → HoldingsGood d1 f1 o1 → HoldingsGood d2 f2 o2
holdings-to d f o good = rw (d, f, o) good

pub roots-to : {f1 f2 : Forest} {b1 b2 : ℕ → List ℕ} {o1 o2 : ℕ → Option PageOwner} {i1 i2 : ℕ → Option Inode} → f2 ≡ f1 → b2 ≡ b1 → o2 ≡ o1 → i2 ≡ i1 → RootsGood f1 b1 o1 i1 → RootsGood f2 b2 o2 i2
roots-to f b o i good = rw (f, b, o, i) good

pub held-to : {d1 d2 : ℕ → Domain} {f1 f2 : Forest} {o1 o2 : ℕ → Option PageOwner} {i1 i2 : ℕ → Option Inode} → d2 ≡ d1 → f2 ≡ f1 → o2 ≡ o1 → i2 ≡ i1 → AllHeld d1 f1 o1 i1 → AllHeld d2 f2 o2 i2
held-to d f o i held = rw (d, f, o, i) held

pub filled-to : {f1 f2 : Forest} → f2 ≡ f1 → NoneEmpty f1.keys → NoneEmpty f2.keys
filled-to f filled = subst (λ (forest : Forest). NoneEmpty forest.keys) (sym f) filled

pub keepers-to : {f1 f2 : Forest} → f2 ≡ f1 → KeepersGood f1 → KeepersGood f2
keepers-to f good = rw f good

pub inside-to : {f1 f2 : Forest} {o1 o2 : Object → ℕ} → f2 ≡ f1 → o2 ≡ o1 → NoPageOutside f1 o1 → NoPageOutside f2 o2
inside-to {f1} {f2} {o1} {o2} f o inside = subst (λ (forest : Forest). NoPageOutside forest o2) (sym f) (subst (λ (out : Object → ℕ). NoPageOutside f1 out) (sym o) inside)

-- ---- numbers in a domain

-- holdings, with a domain that keeps its space and its buffer
pub holdings-with : (domains : ℕ → Domain) (forest : Forest) (owner : ℕ → Option PageOwner) (root : ℕ) (domain : Domain) → domain.space ≡ (at domains root).space → domain.buffer ≡ (at domains root).buffer
    → HoldingsGood domains forest owner → HoldingsGood (with_at domains root domain) forest owner
holdings-with domains forest owner root domain space buffer good =
    let of_space = stays domains root domain (λ d. d.space) space in
    let of_buffer = stays domains root domain (λ d. d.buffer) buffer in
    record {
      spaces = λ r s has. good.spaces r s (sym (of_space r) ∙ has);
      buffers = λ r page has. good.buffers r page (sym (of_buffer r) ∙ has);
      spaces_differ = λ r other s has also. good.spaces_differ r other s (sym (of_space r) ∙ has) (sym (of_space other) ∙ also);
      buffers_differ = λ r other page has also. good.buffers_differ r other page (sym (of_buffer r) ∙ has) (sym (of_buffer other) ∙ also);
    }

pub meter-live : (rows : ℕ → ℕ → Key) (root : ℕ) → is_meter (rows root 2) ≡ true → (at (domain_at rows) root).live ≡ true
unfolding domain_at full_domain at
meter-live rows root meter = rw meter refl

-- a node of a domain, where its root is one as before and has the nodes that it had
pub is-node : (old new : ℕ → ℕ → Key) (root node : ℕ) → (at (domain_at new) root).live ≡ (at (domain_at old) root).live
    → (at (domain_at new) root).regs_node ≡ (at (domain_at old) root).regs_node → (at (domain_at new) root).descriptors_node ≡ (at (domain_at old) root).descriptors_node
    → IsNodeOf old root node → IsNodeOf new root node
is-node old new root node live regs descriptors is =
    let was = meter-live old root is.0 in
    let now = live ∙ was in
    let third = sym (root_regs_node new root now) ∙ regs ∙ root_regs_node old root was in
    let fourth = sym (root_descriptors_node new root now) ∙ descriptors ∙ root_descriptors_node old root was in (
      live_meter new root now,
      ⊎_elim (λ (t : root ≡ node). inl t)
          (λ (t : (node_in (old root 3) ≡ Some node) ⊎ (node_in (old root 4) ≡ Some node)). inr (⊎_elim (λ (u : node_in (old root 3) ≡ Some node). inl (third ∙ u)) (λ (u : node_in (old root 4) ≡ Some node). inr (fourth ∙ u)) t)) is.1,
    )

module _ (old new : Kernel) (writes : WritesNumbers old new) (bank : BankGood new) (rows : RowsGood (domain_rows new)) (standing : Standing old)
    (nodes : (root node : ℕ) → IsNodeOf (domain_rows old) root node → IsNodeOf (domain_rows new) root node)
    (holdings : HoldingsGood (domains new) (forest_of old) (page_owners old)) (held : AllHeld (domains new) (forest_of old) (page_owners old) (inodes_of old)) where
  pub with-numbers : Standing new
  unfolding inodes_of
  with-numbers =
      let named : named_by new.inodes ≡ named_by old.inodes = ap (λ (k : Kernel). named_by k.inodes) writes.rest in
      let owners : page_owners new ≡ page_owners old = ap page_owners writes.rest in
      let inodes : inodes_of new ≡ inodes_of old = ap inodes_of writes.rest in
      let out : outside_trees new (named_by new.inodes) ≡ outside_trees old (named_by old.inodes) = ap (outside_trees new) named ∙ writes.outside_now (named_by old.inodes) in
      record {
        bank = bank;
        whole = rw (ap (λ (k : Kernel). k.bank) writes.rest) standing.whole;
        unused = rw (ap (λ (k : Kernel). k.page_zero) writes.rest, ap (λ (k : Kernel). k.other_words) writes.rest) standing.unused;
        trees = subst (λ (outside : Outside). TreesGood new outside []) (sym named) (trees_with_numbers old new (named_by old.inodes) [] writes standing.trees);
        pages_inside = inside-to writes.forest_now out standing.pages_inside;
        filled = filled-to writes.forest_now standing.filled;
        rows = rows;
        nodes_held = λ node mine.
            let h = standing.nodes_held node (ap (λ (k : Kernel). of_domain (entry_at k.node_entries node)) (sym writes.rest) ∙ mine) in (h.0, nodes h.0 node h.1);
        inodes = rw (ap (λ (k : Kernel). k.inodes) writes.rest) standing.inodes;
        descriptions = rw (ap (λ (k : Kernel). k.descriptions) writes.rest) standing.descriptions;
        holdings = holdings-to refl writes.forest_now owners holdings;
        roots = roots-to writes.forest_now (ap memory_page writes.rest) owners inodes standing.roots;
        keepers = keepers-to writes.forest_now standing.keepers;
        held = held-to refl writes.forest_now owners inodes held;
      }

stay : {X : Type 0} (old new : Kernel) (root : ℕ) (domain : Domain) → domains new ≡ with_at (domains old) root domain → (field : Domain → X) → field domain ≡ field (at (domains old) root)
    → (other : ℕ) → field (at (domains new) other) ≡ field (at (domains old) other)
stay old new root domain now field e other = ap (λ (table : ℕ → Domain). field (at table other)) now ∙ stays (domains old) root domain field e other

held_domain : (old : Kernel) (root : ℕ) (domain : Domain) → HasSame (at (domains old) root) domain → AllHeld (domains old) (forest_of old) (page_owners old) (inodes_of old)
    → AllHeld (with_at (domains old) root domain) (forest_of old) (page_owners old) (inodes_of old)
unfolding machine_of
held_domain old root domain same held = held_with_domain (machine_of old) root domain same.live same.space same.buffer held

pub standing_with_numbers : law.StandingWithNumbers
standing_with_numbers old new root domain writes now same bank rows standing =
    with-numbers old new writes bank rows standing
    (λ r node. is-node (domain_rows old) (domain_rows new) r node (stay old new root domain now (λ d. d.live) same.live r)
    (stay old new root domain now (λ d. d.regs_node) same.regs_node r) (stay old new root domain now (λ d. d.descriptors_node) same.descriptors_node r))
    (holdings-to now refl refl (holdings-with (domains old) (forest_of old) (page_owners old) root domain same.space same.buffer standing.holdings))
    (held-to now refl refl refl (held_domain old root domain same standing.held))

pub standing_with_life : law.StandingWithLife
standing_with_life old new writes now bank rows standing =
    with-numbers old new writes bank rows standing
    (λ r node. is-node (domain_rows old) (domain_rows new) r node (ap (λ (table : ℕ → Domain). (at table r).live) now)
    (ap (λ (table : ℕ → Domain). (at table r).regs_node) now) (ap (λ (table : ℕ → Domain). (at table r).descriptors_node) now))
    (holdings-to now refl refl standing.holdings) (held-to now refl refl refl standing.held)

-- ---- rows of files

-- the row that a number had before one was written which keeps kind and root
record Before (inodes : ℕ → Option Inode) (other : ℕ) (now : Inode) : Type 0 where
  was : Inode
  there : at inodes other ≡ Some was
  same_kind : now.kind ≡ was.kind
  same_root : now.root ≡ was.root

before : (inodes : ℕ → Option Inode) (number : ℕ) (inode row : Inode) → at inodes number ≡ Some inode → row.kind ≡ inode.kind → row.root ≡ inode.root
    → (other : ℕ) (now : Inode) → at (with_at inodes number (Some row)) other ≡ Some now → ((other ≡ number) × (row ≡ now)) ⊎ (at inodes other ≡ Some now)
before inodes number inode row is kind root other now there = ⊎_elim
    (λ (e : other ≡ number).
    let both : Some row ≡ Some now = sym (at-with_at inodes number (Some row)) ∙ ap (at (with_at inodes number (Some row))) (sym e) ∙ there in inl (e, (let same : row ≡ now = cc in same)))
    (λ (d : other ≢ number). inr (sym (at-with_at-other inodes number other (Some row) d) ∙ there))
    (cases_eq other number)

module _ (forest : Forest) (bytes : ℕ → List ℕ) (owner : ℕ → Option PageOwner) (inodes : ℕ → Option Inode) (number : ℕ) (inode row : Inode)
    (is : at inodes number ≡ Some inode) (kind : row.kind ≡ inode.kind) (root : row.root ≡ inode.root) (good : RootsGood forest bytes owner inodes) where
  was-of : (other : ℕ) (now : Inode) → at (with_at inodes number (Some row)) other ≡ Some now → Before inodes other now
  was-of other now there = ⊎_elim
      (λ (t : (other ≡ number) × (row ≡ now)).
      record {
        was = inode;
        there = ap (at inodes) t.0 ∙ is;
        same_kind = ap (λ (i : Inode). i.kind) (sym t.1) ∙ kind;
        same_root = ap (λ (i : Inode). i.root) (sym t.1) ∙ root;
      })
      (λ (t : at inodes other ≡ Some now). record { was = now; there = t; same_kind = refl; same_root = refl })
      (before inodes number inode row is kind root other now there)

  roots-with : IsRootOf forest bytes owner row row.kind → RootsGood forest bytes owner (with_at inodes number (Some row))
  roots-with is_root =
      record {
        each = λ other now there. ⊎_elim
            (λ (t : (other ≡ number) × (row ≡ now)). subst (λ (i : Inode). IsRootOf forest bytes owner i i.kind) t.1 is_root)
            (λ (t : at inodes other ≡ Some now). good.each other now t)
            (before inodes number inode row is kind root other now there);
        trees_differ = λ one two now second there also tree too some e.
            let a = was-of one now there in
            let b = was-of two second also in
            good.trees_differ one two a.was b.was a.there b.there (subst HasTree a.same_kind tree) (subst HasTree b.same_kind too) (λ z. some (a.same_root ∙ z)) (sym a.same_root ∙ e ∙ b.same_root);
        pipes_differ = λ one two now second there also pipe too e.
            let a = was-of one now there in
            let b = was-of two second also in
            good.pipes_differ one two a.was b.was a.there b.there (sym a.same_kind ∙ pipe) (sym b.same_kind ∙ too) (sym a.same_root ∙ e ∙ b.same_root);
      }

-- what of the machine are inodes
used-there : (old : Kernel) (number : ℕ) (inode : Inode) → inode_at old number ≡ Used inode → at (inodes_of old) number ≡ Some inode
unfolding inodes_of at
used-there old number inode was = ap held was

row-written : (old : Kernel) (number : ℕ) (row : Inode) → number < length old.inodes
    → inodes_of (record old { inodes = slice_set old.inodes number (Used row) }) ≡ with_at (inodes_of old) number (Some row)
unfolding machine_of
row-written old number row inside = ap (λ (machine : KernelMachine). machine.inodes) (inode_written old (record old { inodes = slice_set old.inodes number (Used row) }) number (Used row) inside refl)

held-inode : (old : Kernel) (number : ℕ) (inode row : Inode) → at (inodes_of old) number ≡ Some inode → row.kind ≡ inode.kind → row.root ≡ inode.root
    → AllHeld (domains old) (forest_of old) (page_owners old) (inodes_of old) → AllHeld (domains old) (forest_of old) (page_owners old) (with_at (inodes_of old) number (Some row))
unfolding machine_of
held-inode old number inode row there kind root held = held_with_inode (machine_of old) number inode row there kind root held

with-inodes : (old : Kernel) (now : List (Row Inode)) → InodesGood now → named_by now ≡ named_by old.inodes → Standing old
    → RootsGood (forest_of old) (memory_page old) (page_owners old) (inodes_of (record old { inodes = now }))
    → AllHeld (domains old) (forest_of old) (page_owners old) (inodes_of (record old { inodes = now })) → Standing (record old { inodes = now })
with-inodes old now good named standing roots held =
    let kernel : Kernel = record old { inodes = now } in
    record {
      bank = record { sized = standing.bank.sized; words = standing.bank.words; pages = standing.bank.pages; nodes = standing.bank.nodes };
      whole = standing.whole;
      unused = standing.unused;
      trees = subst (λ (outside : Outside). TreesGood kernel outside []) (sym named) ((trees_beside old kernel (named_by old.inodes) [] refl).0 standing.trees);
      pages_inside = subst (λ (out : Object → ℕ). NoPageOutside (forest_of old) out) (sym (ap (outside_trees old) named)) standing.pages_inside;
      filled = standing.filled;
      rows = standing.rows;
      nodes_held = standing.nodes_held;
      inodes = good;
      descriptions = standing.descriptions;
      holdings = standing.holdings;
      roots = roots;
      keepers = standing.keepers;
      held = held;
    }

pub standing_with_inode : law.StandingWithInode
standing_with_inode old new number inode row inside was e exchanges good kind root is standing =
    let now : List (Row Inode) = slice_set old.inodes number (Used row) in
    let there : at (inodes_of old) number ≡ Some inode = used-there old number inode was in
    let inodes : inodes_of (record old { inodes = now }) ≡ with_at (inodes_of old) number (Some row) = row-written old number row inside in
    let named : named_by now ≡ named_by old.inodes =
    ap (λ (k : Kernel). named_by k.inodes) (sym e) ∙ kept old new number (Used row) exchanges (ap₂ word_key kind root ∙ sym (ap root_key was)) in
    subst (λ (k : Kernel). Standing k) (sym e)
    (with-inodes old now (subst (λ (k : Kernel). InodesGood k.inodes) e good) named standing
    (roots-to refl refl refl inodes (roots-with (forest_of old) (memory_page old) (page_owners old) (inodes_of old) number inode row there kind root standing.roots is))
    (held-to refl refl refl inodes (held-inode old number inode row there kind root standing.held)))

pub standing_with_description : law.StandingWithDescription
unfolding inodes_of
standing_with_description old new descriptions e good standing = subst (λ (k : Kernel). Standing k) (sym e)
    (record {
      bank = record { sized = standing.bank.sized; words = standing.bank.words; pages = standing.bank.pages; nodes = standing.bank.nodes };
      whole = standing.whole;
      unused = standing.unused;
      trees = (trees_beside old (record old { descriptions = descriptions }) (named_by old.inodes) [] refl).0 standing.trees;
      pages_inside = standing.pages_inside;
      filled = standing.filled;
      rows = standing.rows;
      nodes_held = standing.nodes_held;
      inodes = standing.inodes;
      descriptions = subst (λ (k : Kernel). DescriptionsGood k.descriptions) e good;
      holdings = standing.holdings;
      roots = standing.roots;
      keepers = standing.keepers;
      held = standing.held;
    })

pub standing_with_words : law.StandingWithWords
unfolding inodes_of
standing_with_words old new next_pid position promised e bank standing = subst (λ (k : Kernel). Standing k) (sym e)
    (record {
      bank = subst BankGood e bank;
      whole = standing.whole;
      unused = standing.unused;
      trees = record {
        shares = standing.trees.shares;
        held = standing.trees.held;
        in_hand = standing.trees.in_hand;
        short = standing.trees.short;
        in_trees = standing.trees.in_trees;
        single = standing.trees.single;
      };
      pages_inside = standing.pages_inside;
      filled = standing.filled;
      rows = standing.rows;
      nodes_held = standing.nodes_held;
      inodes = standing.inodes;
      descriptions = standing.descriptions;
      holdings = standing.holdings;
      roots = standing.roots;
      keepers = standing.keepers;
      held = standing.held;
    })

module _ (old : Kernel) (page : ℕ) (owner : PageOwner) (bytes : List ℕ) (owned : at (page_owners old) page ≡ Some owner) (none : page_tree owner ≡ None) (bank : BankGood old) (sound : Sound (forest_of old)) where
  abbrev written : Kernel
  written = record old { bank = with_bank_page old page bytes }

  in-bank : first_page old.size ≤ page
  in-bank = owned-in-bank old page owner owned

  unowned : (forest_of old).owner (PageObject page) ≡ None
  unowned = unowned-by old page owner owned none

  -- pages of trees are other ones
  mapped-apart : (space number : ℕ) (mapping : Mapping) → IsSpace (forest_of old) [] space → map_of (forest_of old).keys space number ≡ Some mapping
      → (mapping.page ≡ 0) ⊎ ((mapping.page ≢ page) × IsBankPage old.size mapping.page)
  mapped-apart space number mapping is mapped = ⊎_elim
      (λ (t : mapping.page ≡ 0). inl t)
      (λ (real : mapping.page ≢ 0).
      let found = found_at (forest_of old).keys space number mapping mapped in
      let named_it = mapped_named (key_at_page (forest_of old).keys space number) mapping found.maps real in
      let some = end_owned (forest_of old) [] sound space is (page_way number) (PageObject mapping.page) named_it in
      let inside = page_inside old mapping.page bank some in
      inr ((λ same. let no : true ≡ false = sym some ∙ ap (λ n. is_some ((forest_of old).owner (PageObject n))) same ∙ ap is_some unowned in cc), its_page old mapping.page inside))
      (cases_eq mapping.page 0)

  same-bytes : (space number : ℕ) (mapping : Mapping) → IsSpace (forest_of old) [] space → map_of (forest_of old).keys space number ≡ Some mapping
      → memory_page written mapping.page ≡ memory_page old mapping.page
  same-bytes space number mapping is mapped = ⊎_elim
      (λ (t : mapping.page ≡ 0). rw t refl)
      (λ (t : (mapping.page ≢ page) × IsBankPage old.size mapping.page).
      let low = t.1.low in
      ap (λ content. if mapping.page == 0 then old.page_zero else content)
      (get_or-set_other old.bank (page - first_page old.size) (mapping.page - first_page old.size) bytes [] (λ e. t.0 (omega (arith, e, in-bank)))))
      (mapped-apart space number mapping is mapped)

  pub same-memory : (space : ℕ) → IsSpace (forest_of old) [] space → memory_by (memory_page written) (map_of (forest_of old).keys space) ≡ memory_by (memory_page old) (map_of (forest_of old).keys space)
  unfolding memory_by
  same-memory space is = fun_ext (λ number. made-same (page_of (memory_page written)) (page_of (memory_page old)) (map_of (forest_of old).keys space number)
      (λ mapping mapped. ap (λ content. let now : Page = record { writable = mapping.writable; bytes = content } in now) (same-bytes space number mapping is mapped)))

  tree-same : (root size : ℕ) → IsSpace (forest_of old) [] root → IsFileTree (forest_of old).keys (memory_page old) root size → IsFileTree (forest_of old).keys (memory_page written) root size
  tree-same root size is tree = record { some_page = tree.some_page; within = tree.within; writable = tree.writable; zeros = rw (same-memory root is) tree.zeros }

  pub root-same : (inode : Inode) (kind : InodeKind) → IsRootOf (forest_of old) (memory_page old) (page_owners old) inode kind → IsRootOf (forest_of old) (memory_page written) (page_owners old) inode kind
  root-same inode File is = λ some. let h = is some in (h.0, h.1, tree-same inode.root inode.length h.0 h.2, h.3)
  root-same inode Dir is = λ some. let h = is some in (h.0, h.1, tree-same inode.root inode.length h.0 h.2, h.3)
  root-same inode Pipe is = is
  root-same inode Console is = is

with-bytes : (old : Kernel) (page : ℕ) (owner : PageOwner) (bytes : List ℕ) → at (page_owners old) page ≡ Some owner → page_tree owner ≡ None → length bytes ≡ 4096
    → BankGood (record old { bank = with_bank_page old page bytes }) → Standing old → Standing (record old { bank = with_bank_page old page bytes })
unfolding inodes_of
with-bytes old page owner bytes owned none size bank standing =
    record {
      bank = bank;
      whole = whole-set old.bank (page - first_page old.size) bytes size standing.whole;
      unused = standing.unused;
      trees = record {
        shares = standing.trees.shares;
        held = standing.trees.held;
        in_hand = standing.trees.in_hand;
        short = standing.trees.short;
        in_trees = standing.trees.in_trees;
        single = standing.trees.single;
      };
      pages_inside = standing.pages_inside;
      filled = standing.filled;
      rows = standing.rows;
      nodes_held = standing.nodes_held;
      inodes = standing.inodes;
      descriptions = standing.descriptions;
      holdings = standing.holdings;
      roots = record {
        each = λ number inode there. root-same old page owner bytes owned none standing.bank standing.trees.held.sound inode inode.kind (standing.roots.each number inode there);
        trees_differ = standing.roots.trees_differ;
        pipes_differ = standing.roots.pipes_differ;
      };
      keepers = standing.keepers;
      held = standing.held;
    }

pub standing_with_bytes : law.StandingWithBytes
standing_with_bytes old new page owner bytes owned none size e bank standing =
    subst (λ (k : Kernel). Standing k) (sym e) (with-bytes old page owner bytes owned none size (subst BankGood e bank) standing)

-- ---- slots

in-slot-same : (room1 room2 : ℕ → Key) (lives1 lives2 : ℕ → Life) (domains1 domains2 : ℕ → Domain) (slot root : ℕ)
    → at room2 slot ≡ at room1 slot → at lives2 root ≡ at lives1 root → at domains2 root ≡ at domains1 root
    → IsInSlot room1 lives1 domains1 slot root → IsInSlot room2 lives2 domains2 slot root
in-slot-same room1 room2 lives1 lives2 domains1 domains2 slot root r l d is =
    record {
      live = rw d is.live;
      slot_is = rw d is.slot_is;
      state = rw (l, d) is.state;
      key = rw (r, l, d) is.key;
      count = rw l is.count;
      fits = rw d is.fits;
      marks = rw d is.marks;
    }

pub slots_changed : law.SlotsChanged
slots_changed roots room lives domains slot root key life domain good has fits =
    let owned : (other : ℕ) → at roots other ≡ Some root → other ≡ slot = λ other found. sym (good.each other root found).slot_is ∙ (good.each slot root has).slot_is in
    record {
      each = λ s r found. ⊎_elim
          (λ (t : s ≡ slot).
          let both : Some r ≡ Some root = sym found ∙ ap (at roots) t ∙ has in
          let same : r ≡ root = cc in
          subst (λ n. IsInSlot (with_at room slot key) (with_at lives root life) (with_at domains root domain) n r) (sym t)
          (subst (λ n. IsInSlot (with_at room slot key) (with_at lives root life) (with_at domains root domain) slot n) (sym same) fits))
          (λ (d : s ≢ slot).
          let other : r ≢ root = λ same. d (owned s (found ∙ ap Some same)) in
          in-slot-same room (with_at room slot key) lives (with_at lives root life) domains (with_at domains root domain) s r
          (at-with_at-other room slot s key d) (at-with_at-other lives root r life other) (at-with_at-other domains root r domain other) (good.each s r found))
          (cases_eq s slot);
      all = λ r live. ⊎_elim
          (λ (t : r ≡ root). subst (λ n. at roots (at (with_at domains root domain) n).slot ≡ Some n) (sym t) (ap (at roots) fits.slot_is ∙ has))
          (λ (d : r ≢ root).
          let same = at-with_at-other domains root r domain d in
          ap (λ (now : Domain). at roots now.slot) same ∙ good.all r (ap (λ (now : Domain). now.live) (sym same) ∙ live))
          (cases_eq r root);
      free = λ s low none.
          at-with_at-other room slot s key (λ t. let no : Some root ≡ None = sym has ∙ ap (at roots) (sym t) ∙ none in cc) ∙ good.free s low none;
    }

pub slots_born : law.SlotsBorn
slots_born roots room lives domains slot root life domain good free dead fits =
    let not-root : (other : ℕ) → (at domains other).live ≡ true → other ≢ root = λ other live same. let no : true ≡ false = sym live ∙ ap (λ n. (at domains n).live) same ∙ dead in cc in
    record {
      each = λ s r found. ⊎_elim
          (λ (t : s ≡ slot).
          let both : Some root ≡ Some r = sym (at-with_at roots slot (Some root)) ∙ ap (at (with_at roots slot (Some root))) (sym t) ∙ found in
          let same : root ≡ r = cc in
          subst (λ n. IsInSlot room (with_at lives root life) (with_at domains root domain) n r) (sym t)
          (subst (λ n. IsInSlot room (with_at lives root life) (with_at domains root domain) slot n) same fits))
          (λ (d : s ≢ slot).
          let was = good.each s r (sym (at-with_at-other roots slot s (Some root) d) ∙ found) in
          let other = not-root r was.live in
          in-slot-same room room lives (with_at lives root life) domains (with_at domains root domain) s r refl (at-with_at-other lives root r life other) (at-with_at-other domains root r domain other) was)
          (cases_eq s slot);
      all = λ r live. ⊎_elim
          (λ (t : r ≡ root).
          subst (λ n. at (with_at roots slot (Some root)) (at (with_at domains root domain) n).slot ≡ Some n) (sym t)
          (ap (at (with_at roots slot (Some root))) fits.slot_is ∙ at-with_at roots slot (Some root)))
          (λ (d : r ≢ root).
          let same = at-with_at-other domains root r domain d in
          let was = good.all r (ap (λ (now : Domain). now.live) (sym same) ∙ live) in
          ap (λ (now : Domain). at (with_at roots slot (Some root)) now.slot) same
          ∙ at-with_at-other roots slot (at domains r).slot (Some root) (λ t. let no : Some r ≡ None = sym was ∙ ap (at roots) t ∙ free in cc)
          ∙ was)
          (cases_eq r root);
      free = λ s low none. ⊎_elim
          (λ (t : s ≡ slot). let no : Some root ≡ None = sym (at-with_at roots slot (Some root)) ∙ ap (at (with_at roots slot (Some root))) (sym t) ∙ none in cc)
          (λ (d : s ≢ slot). good.free s low (sym (at-with_at-other roots slot s (Some root) d) ∙ none))
          (cases_eq s slot);
    }

pub slots_gone : law.SlotsGone
slots_gone roots room lives domains slot root life domain good has key dead =
    let owned : (other : ℕ) → at roots other ≡ Some root → other ≡ slot = λ other found. sym (good.each other root found).slot_is ∙ (good.each slot root has).slot_is in
    record {
      each = λ s r found. ⊎_elim
          (λ (t : s ≡ slot). let no : None ≡ Some r = sym (at-with_at roots slot None) ∙ ap (at (with_at roots slot None)) (sym t) ∙ found in cc)
          (λ (d : s ≢ slot).
          let before = sym (at-with_at-other roots slot s None d) ∙ found in
          let other : r ≢ root = λ same. d (owned s (before ∙ ap Some same)) in
          in-slot-same room room lives (with_at lives root life) domains (with_at domains root domain) s r refl (at-with_at-other lives root r life other) (at-with_at-other domains root r domain other) (good.each s r before))
          (cases_eq s slot);
      all = λ r live. ⊎_elim
          (λ (t : r ≡ root).
          let no : true ≡ false = sym live ∙ ap (λ n. (at (with_at domains root domain) n).live) t ∙ ap (λ (now : Domain). now.live) (at-with_at domains root domain) ∙ dead in cc)
          (λ (d : r ≢ root).
          let same = at-with_at-other domains root r domain d in
          let was = good.all r (ap (λ (now : Domain). now.live) (sym same) ∙ live) in
          ap (λ (now : Domain). at (with_at roots slot None) now.slot) same
          ∙ at-with_at-other roots slot (at domains r).slot None (λ t. d (let both : Some r ≡ Some root = sym was ∙ ap (at roots) t ∙ has in let e : r ≡ root = cc in e))
          ∙ was)
          (cases_eq r root);
      free = λ s low none. ⊎_elim
          (λ (t : s ≡ slot). ap (at room) t ∙ key)
          (λ (d : s ≢ slot). good.free s low (sym (at-with_at-other roots slot s None d) ∙ none))
          (cases_eq s slot);
    }
