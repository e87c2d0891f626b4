-- Pages that belong to no tree, while they are taken and given back.
use Rattle.std.proofs.Common.{◌≡◌, ◌<◌, ◌+◌, ◌-◌, ◌*◌, ℕ, Some, None, true, false, nat_lt, List, [], ◌∷◌, length, set, get_or-set_same, refl, ap, sym, subst, ◌∙◌, arith, inr, add-zero, if◌then◌else◌}
use Rattle.std.proofs.Math.Path.{fun_ext}
use Rattle.std.proofs.lemmas.Bool.{eq-eqb}
use Rattle.std.specs.Prelude.{slice_index_or}
use Rattle.kn_base.specs.declared.key.Key.{Key}
use Rattle.kn_base.specs.declared.key.Key.TheVariants.{Null, Page}
use Rattle.kn_base.specs.declared.key.PageId.{PageId}
use Rattle.kernel_tables.specs.declared.entry.PageOwner.{PageOwner}
use Rattle.kernel_tables.specs.declared.entry.PageOwner.TheVariants.{Buffer}
use Rattle.kernel_tables.specs.declared.entry.NodeOwner.{NodeOwner}
use Rattle.kernel_tables.specs.declared.entry.Entry.{Entry}
use Rattle.kernel_tables.specs.declared.entry.Entry.TheVariants.{Free, Taken, Fixed, Unspelled}
use Rattle.kernel_tables.specs.Kernel.{Kernel, IsBankPage, bank_page, first_page}
use Rattle.kernel_tables.specs.Rows.{entry_at, key_table, domain_rows, fixed_rows, of_domain, is_fixed}
use Rattle.space_bank.specs.FreeList.{is_free}
use Rattle.space_bank.specs.Bank.{BankGood, TakesPage, IsTakenOnce, page_given}
use Rattle.space_bank.specs.Laws.{and_outside}
use Rattle.space_bank.specs.Shares.{Outside, Shares, PutsPageInHand, TakesPageOutOfHand, page_places, key_names_page}
use Rattle.space_bank.proofs.EntryLaws.{set_cases}
use Rattle.space_bank.proofs.FreeListLaws.{entry_inside}
use Rattle.space_bank.proofs.HandLaws.{nothing-in_hand, page-in_hand_unnamed}
use Rattle.unix_model.specs.Tables.{at}
use Rattle.forest.specs.Objects.{Object, PageObject, NodeObject}
use Rattle.forest.specs.Forest.{masked}
use Rattle.kernel_forest.specs.Trees.{owner_of, count_of, tree_in, tree_shares, page_tree, forest_of, outside_trees, outside_by}
use Rattle.kernel_forest.specs.Moves.{PutsRow}
use Rattle.kernel_forest.proofs.Moves.{forest_same}
use Rattle.domain.specs.Keys.{is_meter, node_in, page_in}
use Rattle.domain.specs.Domains.{domains, domain_at, lives_by}
use Rattle.domain.specs.Rules.{RowsGood, written}
use Rattle.domain.specs.Buffers.{buffer_key, IsBuffer, HoldsBuffer, TakesBuffer, DropsBuffer}
use Rattle.domain.proofs.RowLaws.{root_good_buffer}
use Rattle.domain.proofs.DomainLaws.{live_meter}
use Rattle.domain.proofs.FieldLaws.{buffer_set, lives_early, root_buffer}
use Rattle.domain.proofs.Handing.{rows_good_root}
use Rattle.domain.proofs.Writing.{root_mine, row_key, domain_not_fixed}

-- the entry of a page that belongs to no tree becomes one of no tree
owner_paged : (first : ℕ) (pages : List (Entry PageOwner)) (nodes : List (Entry NodeOwner)) (n : ℕ) (entry : Entry PageOwner) → n < length pages
    → tree_in page_tree (entry_at pages n) ≡ None → tree_in page_tree entry ≡ None
    → (object : Object) → owner_of first (set pages n entry) nodes object ≡ owner_of first pages nodes object
unfolding owner_of
owner_paged first pages nodes n entry inside was now (PageObject page) =
    ap (λ t. if nat_lt page first then None else t)
    (set_cases (λ e. tree_in page_tree e ≡ tree_in page_tree (entry_at pages (page - first))) pages n (page - first) entry inside
    (λ same. now ∙ sym (ap (λ k. tree_in page_tree (entry_at pages k)) (sym same) ∙ was))
    (λ other. refl))
owner_paged first pages nodes n entry inside was now (NodeObject node) = refl

count_paged : (first : ℕ) (pages : List (Entry PageOwner)) (nodes : List (Entry NodeOwner)) (n : ℕ) (entry : Entry PageOwner) → n < length pages
    → tree_shares page_tree (entry_at pages n) ≡ 0 → tree_shares page_tree entry ≡ 0
    → (object : Object) → count_of first (set pages n entry) nodes object ≡ count_of first pages nodes object
unfolding count_of
count_paged first pages nodes n entry inside was now (PageObject page) =
    ap (λ t. if nat_lt page first then 0 else t)
    (set_cases (λ e. tree_shares page_tree e ≡ tree_shares page_tree (entry_at pages (page - first))) pages n (page - first) entry inside
    (λ same. now ∙ sym (ap (λ k. tree_shares page_tree (entry_at pages k)) (sym same) ∙ was))
    (λ other. refl))
count_paged first pages nodes n entry inside was now (NodeObject node) = refl

free_none : (entry : Entry PageOwner) → is_free entry ≡ true → tree_in page_tree entry ≡ None
free_none (Free next) free = refl
free_none (Taken owner count) free = cc
free_none Fixed free = refl
free_none Unspelled free = refl

free_zero : (entry : Entry PageOwner) → is_free entry ≡ true → tree_shares page_tree entry ≡ 0
free_zero (Free next) free = refl
free_zero (Taken owner count) free = cc
free_zero Fixed free = refl
free_zero Unspelled free = refl

free_spelled : (entry : Entry PageOwner) → is_free entry ≡ true → entry ≡ Unspelled → ⊥
free_spelled entry free e = let no : false ≡ true = ap is_free (sym e) ∙ free in cc

-- the forest, and what is outside of it, where one entry of a page was changed so
pub forest_paged : (kernel : Kernel) (n : ℕ) (entry : Entry PageOwner) → n < length kernel.page_entries
    → tree_in page_tree (entry_at kernel.page_entries n) ≡ None → tree_in page_tree entry ≡ None
    → tree_shares page_tree (entry_at kernel.page_entries n) ≡ 0 → tree_shares page_tree entry ≡ 0
    → forest_of (record kernel { page_entries = set kernel.page_entries n entry }) ≡ forest_of kernel
forest_paged kernel n entry inside was now none zero =
    forest_same kernel.nodes (key_table kernel.keys) (forest_of kernel).owner (owner_of (first_page kernel.size) (set kernel.page_entries n entry) kernel.node_entries)
    (forest_of kernel).count (count_of (first_page kernel.size) (set kernel.page_entries n entry) kernel.node_entries)
    (fun_ext (owner_paged (first_page kernel.size) kernel.page_entries kernel.node_entries n entry inside was now))
    (fun_ext (count_paged (first_page kernel.size) kernel.page_entries kernel.node_entries n entry inside none zero))

pub outside_paged : (kernel : Kernel) (n : ℕ) (entry : Entry PageOwner) (outside : Outside) → n < length kernel.page_entries
    → tree_in page_tree (entry_at kernel.page_entries n) ≡ None → tree_in page_tree entry ≡ None
    → outside_trees (record kernel { page_entries = set kernel.page_entries n entry }) outside ≡ outside_trees kernel outside
outside_paged kernel n entry outside inside was now =
    ap (λ owner. outside_by kernel.nodes (key_table kernel.keys) (masked owner (key_table kernel.keys)) outside)
    (fun_ext (owner_paged (first_page kernel.size) kernel.page_entries kernel.node_entries n entry inside was now))

-- Null names nothing
pub null_outside : (outside : Outside) → and_outside outside Null ≡ outside
null_outside outside =
    ap (λ p. let o : Outside = record { pages = p; nodes = λ id. outside.nodes id + 0 } in o) (fun_ext (λ id. add-zero (outside.pages id)))
    ∙ ap (λ n. let o : Outside = record { pages = outside.pages; nodes = n } in o) (fun_ext (λ id. add-zero (outside.nodes id)))

-- A page is taken, and its key is written in a root.
module _ (k0 k1 k2 : Kernel) (root : ℕ) (id : PageId) (good : BankGood k0) (rows : RowsGood (domain_rows k0)) (live : (at (domains k0) root).live ≡ true) (none : (at (domains k0) root).buffer ≡ None)
    (takes : TakesPage k0 k1 id.0 Buffer) (in_hand : PutsPageInHand k0 k1 id.0) where
  pub rows_before : domain_rows k1 ≡ domain_rows k0
  rows_before = ap domain_rows takes.state

  pub live_before : (at (domains k1) root).live ≡ true
  live_before = subst (λ r. (at (domain_at r) root).live ≡ true) (sym (ap domain_rows takes.state)) live

  pub mine_before : of_domain (entry_at k1.node_entries root) ≡ true
  mine_before = root_mine k1 root (live_meter (domain_rows k1) root live_before)

  inside : id.0 - first_page k0.size < length k0.page_entries
  inside = entry_inside k0.page_entries (id.0 - first_page k0.size) (free_spelled (entry_at k0.page_entries (id.0 - first_page k0.size)) takes.was_free)

  module _ (puts : PutsRow k1 k2 root 5 (Page id true)) where
    rows_now : domain_rows k2 ≡ written (domain_rows k0) root 5 (Page id true)
    rows_now = puts.rows_now of_domain mine_before ∙ ap (λ r. written r root 5 (Page id true)) rows_before

    fixed_same : fixed_rows k2 ≡ fixed_rows k0
    fixed_same = puts.others_now is_fixed (domain_not_fixed (entry_at k1.node_entries root) mine_before) ∙ ap fixed_rows takes.state

    meter : is_meter (domain_rows k0 root 2) ≡ true
    meter = live_meter (domain_rows k0) root live

    stood : domain_rows k0 root 5 ≡ Null
    stood = (rows.roots root meter).no_buffer (sym (root_buffer (domain_rows k0) root live) ∙ none)

    stood_there : key_table k1.keys (16 * root + 5) ≡ Null
    stood_there = row_key k1 root 5 mine_before (omega arith) ∙ ap (λ (r : ℕ → ℕ → Key). r root 5) rows_before ∙ stood

    pub buffer_rows : RowsGood (domain_rows k2)
    buffer_rows = subst RowsGood (sym rows_now)
        (rows_good_root (domain_rows k0) root 5 (Page id true) rows meter (inr refl) refl (ap node_in stood)
        (root_good_buffer (domain_rows k0 root) (Page id true) (rows.roots root meter) (λ e. let no : Some id.0 ≡ None = e in cc)))

    state : k2 ≡ record k1 { keys = k2.keys }
    state = puts.state ∙ ap (λ k. let n : Kernel = record k1 { keys = k } in n) (sym (ap (λ (k : Kernel). k.keys) puts.state))

    pub takes_buffer : TakesBuffer k0 k2 root id.0
    takes_buffer = record {
      buffer = record {
        inside = subst (λ (k : Kernel). IsBankPage k.size id.0) (sym (state ∙ ap (λ k. let n : Kernel = record k { keys = k2.keys } in n) takes.state)) (record { low = takes.low; high = takes.high });
        entry = ap (λ (k : Kernel). entry_at k.page_entries (id.0 - first_page k.size)) (state ∙ ap (λ k. let n : Kernel = record k { keys = k2.keys } in n) takes.state)
            ∙ get_or-set_same k0.page_entries (id.0 - first_page k0.size) (Taken Buffer 1) Unspelled inside;
      };
      was_free = takes.was_free;
      zero = ap (λ (k : Kernel). bank_page k id.0) state ∙ ap (λ n. slice_index_or k1.bank (id.0 - first_page n) []) (ap (λ (k : Kernel). k.size) takes.state) ∙ takes.zero;
      domains_now = ap domain_at rows_now ∙ buffer_set (domain_rows k0) root (Page id true) (Some id.0) rows meter refl;
      lives_now = ap (λ r. lives_by r (fixed_rows k2)) rows_now
          ∙ lives_early (domain_rows k0) (fixed_rows k2) root 5 (Page id true) (λ e. absurd (omega arith)) (λ e. absurd (omega arith))
          ∙ ap (lives_by (domain_rows k0)) fixed_same;
      rest = state ∙ ap (λ k. let n : Kernel = record k { keys = k2.keys } in n) takes.state
          ∙ ap (λ m. let n : Kernel = record k0 { machine = record k0.machine { free_page = k1.machine.free_page; memory_taken = m; pages_taken = k0.machine.pages_taken + 1 }; page_entries = set k0.page_entries (id.0 - first_page k0.size) (Taken Buffer 1); keys = k2.keys } in n)
          (add-zero k0.machine.memory_taken)
          ∙ ap (λ f. let n : Kernel = record k0 { machine = record k0.machine { free_page = f; pages_taken = k0.machine.pages_taken + 1 }; page_entries = set k0.page_entries (id.0 - first_page k0.size) (Taken Buffer 1); keys = k2.keys } in n)
          (sym (ap (λ (k : Kernel). k.machine.free_page) state));
      forest_now = puts.forest_now ∙ ap forest_of takes.state
          ∙ forest_paged k0 (id.0 - first_page k0.size) (Taken Buffer 1) inside (free_none (entry_at k0.page_entries (id.0 - first_page k0.size)) takes.was_free) refl
          (free_zero (entry_at k0.page_entries (id.0 - first_page k0.size)) takes.was_free) refl;
      outside_now = λ outside. ap (outside_trees k2) (sym (ap (and_outside outside) stood_there ∙ null_outside outside)) ∙ puts.outside_now outside
          ∙ ap (λ k. outside_trees k (and_outside outside (Page id true))) takes.state
          ∙ outside_paged k0 (id.0 - first_page k0.size) (Taken Buffer 1) (and_outside outside (Page id true)) inside
          (free_none (entry_at k0.page_entries (id.0 - first_page k0.size)) takes.was_free) refl;
      fixed_now = fixed_same;
      shares = λ outside hand counted. (nothing-in_hand k2 outside hand Null tt).0
          (subst (λ k. Shares k2 outside (k ∷ hand)) stood_there (puts.shares outside hand (in_hand.counted outside hand (Page id true) (eq-eqb id.0 id.0 refl) counted)));
    }

-- the page that a domain holds
pub held_page : (kernel : Kernel) (root page : ℕ) → (at (domains kernel) root).buffer ≡ Some page → HoldsBuffer kernel (at (domains kernel) root).buffer → IsBuffer kernel page
held_page kernel root page is holds = subst (HoldsBuffer kernel) is holds

page_named : (key : Key) (page : ℕ) → page_in key ≡ Some page → key_names_page page key ≡ true
page_named (Page p writable) page e = let same : p.0 ≡ page = cc in eq-eqb p.0 page same
page_named _ page e = cc

-- how often the key of a page is counted doesn't turn on whether it may be written
page_outside : (outside : Outside) (key : Key) (page : ℕ) → page_in key ≡ Some page → and_outside outside (buffer_key page) ≡ and_outside outside key
page_outside outside (Page p writable) page e = let same : page ≡ p.0 = cc in ap (λ n. and_outside outside (buffer_key n)) same
page_outside outside _ page e = cc

buffer_spelled : (entry : Entry PageOwner) → entry ≡ Taken Buffer 1 → entry ≡ Unspelled → ⊥
buffer_spelled entry e f = let no : Taken Buffer 1 ≡ Unspelled = sym e ∙ f in cc

page_no_node : (key : Key) (page : ℕ) → page_in key ≡ Some page → node_in key ≡ None
page_no_node (Page p writable) page e = refl
page_no_node _ page e = cc

-- The key of a buffer is taken out of a root, and its page is given back.
module _ (k0 k1 : Kernel) (root page : ℕ) (rows : RowsGood (domain_rows k0)) (live : (at (domains k0) root).live ≡ true) (held : (at (domains k0) root).buffer ≡ Some page)
    (buffer : IsBuffer k0 page) (puts : PutsRow k0 k1 root 5 Null) where
  its_root : is_meter (domain_rows k0 root 2) ≡ true
  its_root = live_meter (domain_rows k0) root live

  its_node : of_domain (entry_at k0.node_entries root) ≡ true
  its_node = root_mine k0 root its_root

  its_key : page_in (key_table k0.keys (16 * root + 5)) ≡ Some page
  its_key = ap page_in (row_key k0 root 5 its_node (omega arith)) ∙ sym (root_buffer (domain_rows k0) root live) ∙ held

  keys_alone : k1 ≡ record k0 { keys = k1.keys }
  keys_alone = puts.state ∙ ap (λ k. let n : Kernel = record k0 { keys = k } in n) (sym (ap (λ (k : Kernel). k.keys) puts.state))

  pub still_buffer : IsBuffer k1 page
  still_buffer = subst (λ k. IsBuffer k page) (sym keys_alone) (record { inside = buffer.inside; entry = buffer.entry })

  pub taken_once : IsTakenOnce (entry_at k1.page_entries (page - first_page k1.size))
  taken_once = subst IsTakenOnce (sym still_buffer.entry) refl

  pub out_of_hand : (outside : Outside) (hand : List Key) → Shares k0 outside hand → Shares k1 outside (key_table k0.keys (16 * root + 5) ∷ hand)
  out_of_hand outside hand counted = puts.shares outside hand ((nothing-in_hand k0 outside hand Null tt).1 counted)

  pub no_place : (outside : Outside) (hand : List Key) → Shares k0 outside hand → page_places k1.keys page ≡ 0
  no_place outside hand counted =
      page-in_hand_unnamed k1 outside hand (key_table k0.keys (16 * root + 5)) page still_buffer.inside taken_once (page_named (key_table k0.keys (16 * root + 5)) page its_key) (out_of_hand outside hand counted)

  rows_after : domain_rows k1 ≡ written (domain_rows k0) root 5 Null
  rows_after = puts.rows_now of_domain its_node

  module _ (k2 : Kernel) (e : k2 ≡ page_given k1 (page - first_page k1.size)) (gives : TakesPageOutOfHand k1 k2 page) where
    rows_end : domain_rows k2 ≡ written (domain_rows k0) root 5 Null
    rows_end = ap domain_rows e ∙ rows_after

    fixed_end : fixed_rows k2 ≡ fixed_rows k0
    fixed_end = ap fixed_rows e ∙ puts.others_now is_fixed (domain_not_fixed (entry_at k0.node_entries root) its_node)

    entry_there : page - first_page k1.size < length k1.page_entries
    entry_there = entry_inside k1.page_entries (page - first_page k1.size) (buffer_spelled (entry_at k1.page_entries (page - first_page k1.size)) still_buffer.entry)

    no_tree : tree_in page_tree (entry_at k1.page_entries (page - first_page k1.size)) ≡ None
    no_tree = ap (tree_in page_tree) still_buffer.entry

    no_shares : tree_shares page_tree (entry_at k1.page_entries (page - first_page k1.size)) ≡ 0
    no_shares = ap (tree_shares page_tree) still_buffer.entry

    pub dropped_rows : RowsGood (domain_rows k2)
    dropped_rows = subst RowsGood (sym rows_end)
        (rows_good_root (domain_rows k0) root 5 Null rows its_root (inr refl) refl (page_no_node (domain_rows k0 root 5) page (sym (root_buffer (domain_rows k0) root live) ∙ held))
        (root_good_buffer (domain_rows k0 root) Null (rows.roots root its_root) (λ none. refl)))

    pub drops_buffer : DropsBuffer k0 k2 root page
    drops_buffer = record {
      domains_now = ap domain_at rows_end ∙ buffer_set (domain_rows k0) root Null None rows its_root refl;
      lives_now = ap (λ r. lives_by r (fixed_rows k2)) rows_end
          ∙ lives_early (domain_rows k0) (fixed_rows k2) root 5 Null (λ f. absurd (omega arith)) (λ f. absurd (omega arith))
          ∙ ap (lives_by (domain_rows k0)) fixed_end;
      given = e ∙ ap (λ k. page_given k (page - first_page k.size)) keys_alone
          ∙ ap (λ ks. page_given (let n : Kernel = record k0 { keys = ks } in n) (page - first_page k0.size)) (sym (ap (λ (k : Kernel). k.keys) e));
      forest_now = ap forest_of e ∙ forest_paged k1 (page - first_page k1.size) (Free k1.machine.free_page) entry_there no_tree refl no_shares refl ∙ puts.forest_now;
      outside_now = λ outside. ap (λ k. outside_trees k (and_outside outside (buffer_key page))) e
          ∙ outside_paged k1 (page - first_page k1.size) (Free k1.machine.free_page) (and_outside outside (buffer_key page)) entry_there no_tree refl
          ∙ ap (outside_trees k1) (page_outside outside (key_table k0.keys (16 * root + 5)) page its_key)
          ∙ puts.outside_now outside ∙ ap (outside_trees k0) (null_outside outside);
      fixed_now = fixed_end;
      shares = λ outside hand counted. gives outside hand (key_table k0.keys (16 * root + 5)) (page_named (key_table k0.keys (16 * root + 5)) page its_key) (out_of_hand outside hand counted);
    }
