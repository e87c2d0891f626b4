-- A key is written in the resume room, and its root is counted once more or less.
use Rattle.std.proofs.Common.{◌≡◌, ◌≢◌, ◌<◌, ◌+◌, ◌-◌, ◌*◌, ◌/◌, ◌%◌, ℕ, Some, true, List, ◌∷◌, length, set, refl, ap, sym, subst, ◌∙◌, arith}
use Rattle.std.proofs.Math.Path.{fun_ext}
use Rattle.std.proofs.lemmas.Bool.{eq-eqb}
use Rattle.kn_base.specs.declared.key.NodeId.{NodeId}
use Rattle.kn_base.specs.declared.key.Key.TheVariants.{Null, Resume}
use Rattle.kernel_tables.specs.declared.entry.PageOwner.{PageOwner}
use Rattle.kernel_tables.specs.declared.entry.NodeOwner.{NodeOwner}
use Rattle.kernel_tables.specs.declared.entry.NodeOwner.TheVariants.{Domain as DomainOwner}
use Rattle.kernel_tables.specs.declared.entry.Entry.{Entry}
use Rattle.kernel_tables.specs.declared.entry.Entry.TheVariants.{Taken, Unspelled}
use Rattle.kernel_tables.specs.Kernel.{Kernel, first_page}
use Rattle.kernel_tables.specs.Rows.{entry_at, key_table, of_domain, is_fixed, domain_rows, fixed_rows}
use Rattle.space_bank.specs.Bank.{BankGood}
use Rattle.space_bank.specs.Changes.{with_count, node_counted, PutsNodeKeyInHand, TakesNodeKeyOutOfHand}
use Rattle.space_bank.specs.Laws.{and_outside}
use Rattle.space_bank.specs.FreeList.{shares}
use Rattle.space_bank.specs.Shares.{Outside, Shares, key_names_node}
use Rattle.space_bank.proofs.EntryLaws.{set_cases}
use Rattle.space_bank.proofs.FreeListLaws.{entry_inside}
use Rattle.space_bank.proofs.HandLaws.{nothing-in_hand}
use Rattle.forest.specs.Objects.{Object, PageObject, NodeObject}
use Rattle.kernel_forest.specs.Trees.{owner_of, count_of, tree_in, tree_shares, node_tree, forest_of, outside_trees}
use Rattle.kernel_forest.specs.Moves.{PutsRow}
use Rattle.kernel_forest.proofs.Moves.{forest_same, outside-node_counted}
use Rattle.kernel_forest.proofs.RowLaws.{domains_apart, fixed_apart, rows-node_counted}
use Rattle.unix_model.specs.Tables.{at}
use Rattle.domain.specs.Rules.{written}
use Rattle.domain.proofs.Writing.{fixed_key}
use Rattle.domain.specs.Slots.{room_of}
use Rattle.invoke.specs.Room.{room, Seats}

-- ---- how often a node of a domain is counted makes no difference to trees and rows

owner_counted : (first : ℕ) (pages : List (Entry PageOwner)) (nodes : List (Entry NodeOwner)) (n was now : ℕ) → n < length nodes → entry_at nodes n ≡ Taken DomainOwner was
    → (object : Object) → owner_of first pages (set nodes n (Taken DomainOwner now)) object ≡ owner_of first pages nodes object
unfolding owner_of
owner_counted first pages nodes n was now inside named (PageObject page) = refl
owner_counted first pages nodes n was now inside named (NodeObject node) =
    set_cases (λ e. tree_in node_tree e ≡ tree_in node_tree (entry_at nodes node)) nodes n node (Taken DomainOwner now) inside
    (λ same. sym (ap (λ k. tree_in node_tree (entry_at nodes k)) (sym same) ∙ ap (tree_in node_tree) named))
    (λ other. refl)

count_counted : (first : ℕ) (pages : List (Entry PageOwner)) (nodes : List (Entry NodeOwner)) (n was now : ℕ) → n < length nodes → entry_at nodes n ≡ Taken DomainOwner was
    → (object : Object) → count_of first pages (set nodes n (Taken DomainOwner now)) object ≡ count_of first pages nodes object
unfolding count_of
count_counted first pages nodes n was now inside named (PageObject page) = refl
count_counted first pages nodes n was now inside named (NodeObject node) =
    set_cases (λ e. tree_shares node_tree e ≡ tree_shares node_tree (entry_at nodes node)) nodes n node (Taken DomainOwner now) inside
    (λ same. sym (ap (λ k. tree_shares node_tree (entry_at nodes k)) (sym same) ∙ ap (tree_shares node_tree) named))
    (λ other. refl)

record Recounts (old new : Kernel) (root now : ℕ) : Type 0 where
  state : new ≡ record old { node_entries = set old.node_entries root (Taken DomainOwner now) }
  forest_now : forest_of new ≡ forest_of old
  outside_now : (outside : Outside) → outside_trees new outside ≡ outside_trees old outside
  rows_now : domain_rows new ≡ domain_rows old
  fixed_now : fixed_rows new ≡ fixed_rows old

pub spelled : (entry : Entry NodeOwner) (count : ℕ) → entry ≡ Taken DomainOwner count → entry ≢ Unspelled
spelled entry count named e = let no : Taken DomainOwner count ≡ Unspelled = sym named ∙ e in cc

recounts : (old new : Kernel) (root was now : ℕ) → entry_at old.node_entries root ≡ Taken DomainOwner was → new ≡ node_counted old root now → Recounts old new root now
recounts old new root was now named e =
    let inside : root < length old.node_entries = entry_inside old.node_entries root (spelled (entry_at old.node_entries root) was named) in
    let state : new ≡ record old { node_entries = set old.node_entries root (Taken DomainOwner now) } =
    e ∙ ap (λ (x : Entry NodeOwner). let k : Kernel = record old { node_entries = set old.node_entries root (with_count x now) } in k) named in
    record {
      state = state;
      forest_now = ap forest_of state
          ∙ forest_same old.nodes (key_table old.keys) (forest_of old).owner (owner_of (first_page old.size) old.page_entries (set old.node_entries root (Taken DomainOwner now)))
          (forest_of old).count (count_of (first_page old.size) old.page_entries (set old.node_entries root (Taken DomainOwner now)))
          (fun_ext (owner_counted (first_page old.size) old.page_entries old.node_entries root was now inside named))
          (fun_ext (count_counted (first_page old.size) old.page_entries old.node_entries root was now inside named));
      outside_now = λ outside. ap (λ k. outside_trees k outside) e ∙ outside-node_counted old root now outside inside;
      rows_now = ap domain_rows e ∙ rows-node_counted old root now inside of_domain domains_apart;
      fixed_now = ap fixed_rows e ∙ rows-node_counted old root now inside is_fixed fixed_apart;
    }

-- ---- the place of a slot

room_there : (kernel : Kernel) (slot : ℕ) → BankGood kernel → slot < 64 → key_table kernel.keys (16 * (7 + slot / 16) + slot % 16) ≡ at (room kernel) slot
unfolding at room_of
room_there kernel slot good low = fixed_key kernel (7 + slot / 16) (slot % 16) good (omega arith) (omega arith)

room_same : (old new : Kernel) (slot : ℕ) → fixed_rows new ≡ fixed_rows old → at (room new) slot ≡ at (room old) slot
room_same old new slot same = ap (λ f. at (room_of f) slot) same

names_root : (root : NodeId) (count : ℕ) → key_names_node root.0 (Resume root count) ≡ true
names_root root count = eq-eqb root.0 root.0 refl

pub enters : (old mid new : Kernel) (root : NodeId) (slot count : ℕ) → BankGood mid → slot < 64 → at (room old) slot ≡ Null → entry_at old.node_entries root.0 ≡ Taken DomainOwner 1
    → mid ≡ node_counted old root.0 (shares (entry_at old.node_entries root.0) + 1) → PutsNodeKeyInHand old mid root.0
    → PutsRow mid new (7 + slot / 16) (slot % 16) (Resume root count) → Seats old new root.0 slot 2 (Resume root count) Null
enters old mid new root slot count good low empty named raised in_hand puts =
    let r : Recounts old mid root.0 2 = recounts old mid root.0 1 2 named (raised ∙ ap (λ (x : Entry NodeOwner). node_counted old root.0 (shares x + 1)) named) in
    let stood : key_table mid.keys (16 * (7 + slot / 16) + slot % 16) ≡ Null = room_there mid slot good low ∙ room_same old mid slot r.fixed_now ∙ empty in
    let fixed = good.nodes.fixed (7 + slot / 16) (omega arith) in
    let state = puts.state ∙ ap (λ (k : Kernel). let n : Kernel = record k { keys = set mid.keys (16 * (7 + slot / 16) + slot % 16) (Some (Resume root count)) } in n) r.state in
    record {
      rest = state ∙ ap (λ k. let n : Kernel = record old { node_entries = set old.node_entries root.0 (Taken DomainOwner 2); keys = k } in n) (sym (ap (λ (k : Kernel). k.keys) state));
      rows_now = puts.others_now of_domain (ap of_domain fixed) ∙ r.rows_now;
      fixed_now = puts.rows_now is_fixed (ap is_fixed fixed) ∙ ap (λ f. written f (7 + slot / 16) (slot % 16) (Resume root count)) r.fixed_now;
      forest_now = puts.forest_now ∙ r.forest_now;
      outside_now = λ outside. ap (λ k. outside_trees new (and_outside outside k)) (sym stood) ∙ puts.outside_now outside ∙ r.outside_now (and_outside outside (Resume root count));
      shares = λ outside hand counted.
          (nothing-in_hand new outside hand Null tt).0
          (subst (λ k. Shares new outside (k ∷ hand)) stood (puts.shares outside hand (in_hand outside hand (Resume root count) (names_root root count) counted)));
    }

pub leaves : (old mid new : Kernel) (root : NodeId) (slot count : ℕ) → BankGood old → slot < 64 → at (room old) slot ≡ Resume root count → entry_at old.node_entries root.0 ≡ Taken DomainOwner 2
    → PutsRow old mid (7 + slot / 16) (slot % 16) Null
    → new ≡ node_counted mid root.0 (shares (entry_at mid.node_entries root.0) - 1) → TakesNodeKeyOutOfHand mid new root.0
    → Seats old new root.0 slot 1 Null (Resume root count)
leaves old mid new root slot count good low held named puts lowered out_of_hand =
    let named_mid : entry_at mid.node_entries root.0 ≡ Taken DomainOwner 2 = ap (λ (k : Kernel). entry_at k.node_entries root.0) puts.state ∙ named in
    let r : Recounts mid new root.0 1 = recounts mid new root.0 2 1 named_mid (lowered ∙ ap (λ (x : Entry NodeOwner). node_counted mid root.0 (shares x - 1)) named_mid) in
    let stood : key_table old.keys (16 * (7 + slot / 16) + slot % 16) ≡ Resume root count = room_there old slot good low ∙ held in
    let fixed = good.nodes.fixed (7 + slot / 16) (omega arith) in
    let state = r.state ∙ ap (λ (k : Kernel). let n : Kernel = record k { node_entries = set k.node_entries root.0 (Taken DomainOwner 1) } in n) puts.state in
    record {
      rest = state ∙ ap (λ k. let n : Kernel = record old { node_entries = set old.node_entries root.0 (Taken DomainOwner 1); keys = k } in n) (sym (ap (λ (k : Kernel). k.keys) state));
      rows_now = r.rows_now ∙ puts.others_now of_domain (ap of_domain fixed);
      fixed_now = r.fixed_now ∙ puts.rows_now is_fixed (ap is_fixed fixed);
      forest_now = r.forest_now ∙ puts.forest_now;
      outside_now = λ outside. r.outside_now (and_outside outside (Resume root count)) ∙ ap (λ k. outside_trees mid (and_outside outside k)) (sym stood) ∙ puts.outside_now outside;
      shares = λ outside hand counted.
          out_of_hand outside hand (Resume root count) (names_root root count)
          (subst (λ k. Shares mid outside (k ∷ hand)) stood (puts.shares outside hand ((nothing-in_hand old outside hand Null tt).1 counted)));
    }
