-- Rows that are cleared, and their nodes that are given back.
use Rattle.std.proofs.Common.{◌≡◌, ◌<◌, ◌≤◌, ◌+◌, ◌*◌, ℕ, suc, Option, Some, None, true, List, ◌∷◌, length, get_or-set_same, get_or-set_other, refl, ap, sym, subst, ◌∙◌, arith, ⊎_elim}
use Rattle.std.proofs.Math.Path.{fun_ext}
use Rattle.std.proofs.lemmas.Bool.{cases_lt, lt-ltb, le-ltb}
use Rattle.kn_base.specs.declared.key.Key.{Key}
use Rattle.kn_base.specs.declared.key.Key.TheVariants.{Null}
use Rattle.kernel_tables.specs.declared.entry.NodeOwner.TheVariants.{Domain as DomainOwner}
use Rattle.kernel_tables.specs.declared.entry.Entry.TheVariants.{Free, Taken, Fixed, Unspelled}
use Rattle.kernel_tables.specs.Kernel.{Kernel}
use Rattle.kernel_tables.specs.Rows.{entry_at, key_table, rows, domain_rows, of_domain, is_fixed, spelled_or_null}
use Rattle.space_bank.specs.Bank.{BankGood, IsTakenOnce, node_given}
use Rattle.space_bank.specs.Fixed.{key_in}
use Rattle.space_bank.specs.FreeList.{is_free, taken_one}
use Rattle.space_bank.specs.Laws.{and_outside}
use Rattle.space_bank.specs.Shares.{Outside, Shares, NamesNothing, TakesNodeOutOfHand, key_names_node, node_places}
use Rattle.space_bank.proofs.FreeListLaws.{entry_inside, taken_count-set}
use Rattle.space_bank.proofs.HandLaws.{nothing-in_hand, node-in_hand_unnamed}
use Rattle.kernel_forest.specs.Trees.{outside_trees}
use Rattle.kernel_forest.specs.Moves.{PutsRow}
use Rattle.kernel_forest.proofs.NoTree.{gives_row}
use Rattle.kernel_forest.proofs.RowLaws.{domains_apart, fixed_apart}
use Rattle.unix_model.specs.Tables.{at, with_at}
use Rattle.unix_model.proofs.TableLaws.{with_at-twice, with_at-same}
use Rattle.domain.specs.Life.{null_row, and_all}
use Rattle.domain.specs.Ends.{IsNodeOnce, IsQuiet, Clears, GivesBack, KeepsAllButNodes, with_nulls, row_keys}
use Rattle.domain.proofs.RowLaws.{here_at, changed_at}
use Rattle.domain.proofs.Pages.{null_outside}
use Rattle.domain.proofs.Writing.{row_key, domain_below, domain_not_fixed}

nulls_none : (row : ℕ → Key) → with_nulls row 0 ≡ row
unfolding with_nulls
nulls_none row = fun_ext (λ place. rw (le-ltb place 0 (omega arith)) refl)

nulls_step : (row : ℕ → Key) (n : ℕ) → with_at (with_nulls row n) n Null ≡ with_nulls row (n + 1)
unfolding with_nulls
nulls_step row n = sym (changed_at (with_nulls row n) (with_nulls row (n + 1)) n Null
    (rw (lt-ltb n (n + 1) (omega arith)) refl)
    (λ q apart. ⊎_elim
    (λ (t : q < n). rw (lt-ltb q n t, lt-ltb q (n + 1) (omega arith)) refl)
    (λ (t : n ≤ q). rw (le-ltb q n t, le-ltb q (n + 1) (omega arith)) refl)
    (cases_lt q n)))

nulls_past : (row : ℕ → Key) (n : ℕ) → with_nulls row n n ≡ row n
unfolding with_nulls
nulls_past row n = rw (le-ltb n n (omega arith)) refl

keys_step : (row : ℕ → Key) (n : ℕ) → row_keys row (n + 1) ≡ row n ∷ row_keys row n
unfolding row_keys
keys_step row n = ap (row_keys row) (let e : n + 1 ≡ suc n = omega arith in e)

pub clears_none : (kernel : Kernel) (node : ℕ) → Clears kernel kernel node 0
unfolding at and_all row_keys
clears_none kernel node = record {
  rest = refl;
  forest_now = refl;
  fixed_now = refl;
  rows_now = sym (ap (with_at (domain_rows kernel) node) (nulls_none (domain_rows kernel node)) ∙ with_at-same (domain_rows kernel) node (domain_rows kernel node) refl);
  outside_now = λ outside. refl;
  shares = λ outside hand counted. counted;
}

and_all-cons : (outside : Outside) (key : Key) (keys : List Key) → and_all outside (key ∷ keys) ≡ and_outside (and_all outside keys) key
unfolding and_all
and_all-cons outside key keys = refl

pub clears_mine : (old new : Kernel) (node count : ℕ) → Clears old new node count → of_domain (entry_at old.node_entries node) ≡ true → of_domain (entry_at new.node_entries node) ≡ true
clears_mine old new node count clears mine = ap (λ (k : Kernel). of_domain (entry_at k.node_entries node)) clears.rest ∙ mine

pub clears_more : (old mid new : Kernel) (node n : ℕ) → of_domain (entry_at old.node_entries node) ≡ true → n < 16 → IsQuiet (domain_rows old node) → Clears old mid node n → PutsRow mid new node n Null
    → Clears old new node (n + 1)
unfolding at
clears_more old mid new node n mine low quiet clears puts =
    let row = domain_rows old node in
    let owned = clears_mine old mid node n clears mine in
    let stood : key_table mid.keys (16 * node + n) ≡ domain_rows old node n =
    row_key mid node n (clears_mine old mid node n clears mine) low ∙ ap (λ (r : ℕ → ℕ → Key). r node n) clears.rows_now
    ∙ ap (λ (r : ℕ → Key). r n) (here_at (domain_rows old) node (with_nulls (domain_rows old node) n)) ∙ nulls_past (domain_rows old node) n in
    record {
      rest = puts.state ∙ ap (λ k. let m : Kernel = record mid { keys = k } in m) (sym (ap (λ (k : Kernel). k.keys) puts.state)) ∙ ap (λ k. let m : Kernel = record k { keys = new.keys } in m) clears.rest;
      forest_now = puts.forest_now ∙ clears.forest_now;
      fixed_now = puts.others_now is_fixed (domain_not_fixed (entry_at mid.node_entries node) owned) ∙ clears.fixed_now;
      rows_now = puts.rows_now of_domain owned
          ∙ ap (λ (r : ℕ → ℕ → Key). with_at r node (with_at (r node) n Null)) clears.rows_now
          ∙ ap (λ (r : ℕ → Key). with_at (with_at (domain_rows old) node (with_nulls (domain_rows old node) n)) node (with_at r n Null)) (here_at (domain_rows old) node (with_nulls (domain_rows old node) n))
          ∙ with_at-twice (domain_rows old) node (with_nulls (domain_rows old node) n) (with_at (with_nulls (domain_rows old node) n) n Null)
          ∙ ap (with_at (domain_rows old) node) (nulls_step (domain_rows old node) n);
      outside_now = λ outside.
          ap (λ l. outside_trees new (and_all outside l)) (keys_step (domain_rows old node) n)
          ∙ ap (outside_trees new) (and_all-cons outside (domain_rows old node n) (row_keys (domain_rows old node) n))
          ∙ ap (λ k. outside_trees new (and_outside (and_all outside (row_keys (domain_rows old node) n)) k)) (sym stood)
          ∙ puts.outside_now (and_all outside (row_keys (domain_rows old node) n))
          ∙ ap (outside_trees mid) (null_outside (and_all outside (row_keys (domain_rows old node) n)))
          ∙ clears.outside_now outside;
      shares = λ outside hand counted.
          (nothing-in_hand new outside hand (domain_rows old node n) (quiet n low)).0
          (subst (λ k. Shares new outside (k ∷ hand)) stood (puts.shares outside hand ((nothing-in_hand mid outside hand Null tt).1 (clears.shares outside hand counted))));
    }

-- a row has sixteen keys
past_row : (kernel : Kernel) (node place : ℕ) → 16 ≤ place → of_domain (entry_at kernel.node_entries node) ≡ true → domain_rows kernel node place ≡ Null
unfolding rows
past_row kernel node place past mine = rw (mine, le-ltb place 16 past) refl

nulls_all : (kernel : Kernel) (node : ℕ) → of_domain (entry_at kernel.node_entries node) ≡ true → with_nulls (domain_rows kernel node) 16 ≡ null_row
unfolding with_nulls
nulls_all kernel node mine = fun_ext (λ place. ⊎_elim
    (λ (t : place < 16). rw (lt-ltb place 16 t) refl)
    (λ (t : 16 ≤ place). rw (le-ltb place 16 t) (past_row kernel node place t mine))
    (cases_lt place 16))

once_spelled : (kernel : Kernel) (node : ℕ) → IsNodeOnce kernel node → entry_at kernel.node_entries node ≡ Unspelled → ⊥
once_spelled kernel node once e = let no : Taken DomainOwner 1 ≡ Unspelled = sym once ∙ e in cc

null_names : (key : Option Key) → spelled_or_null key ≡ Null → NamesNothing key
null_names None e = tt
null_names (Some Null) e = tt
null_names (Some _) e = cc

null_there : (keys : List (Option Key)) (node place : ℕ) → key_table keys (16 * node + place) ≡ Null → NamesNothing (key_in keys node place)
unfolding key_table
null_there keys node place e = null_names (key_in keys node place) e

pub once_mine : (kernel : Kernel) (node : ℕ) → IsNodeOnce kernel node → of_domain (entry_at kernel.node_entries node) ≡ true
once_mine kernel node once = ap of_domain once

pub clears_once : (old new : Kernel) (node count : ℕ) → Clears old new node count → IsNodeOnce old node → IsNodeOnce new node
clears_once old new node count clears once = ap (λ (k : Kernel). entry_at k.node_entries node) clears.rest ∙ once

rest_of_keys : (old mid new : Kernel) → mid ≡ record old { keys = mid.keys } → KeepsAllButNodes mid new → KeepsAllButNodes old new
rest_of_keys old mid new e rest =
    rest ∙ ap (λ (k : Kernel). let n : Kernel = record k { machine = record k.machine { free_node = new.machine.free_node; nodes_taken = new.machine.nodes_taken }; node_entries = new.node_entries; keys = new.keys } in n) e

-- a node that was cleared is given back
pub gives_back : (k0 k1 k2 : Kernel) (node : ℕ) → BankGood k1 → IsNodeOnce k0 node → Clears k0 k1 node 16 → k2 ≡ node_given k1 node → TakesNodeOutOfHand k1 k2 node → GivesBack k0 k2 node
gives_back k0 k1 k2 node good once clears e gives =
    let mine0 : of_domain (entry_at k0.node_entries node) ≡ true = once_mine k0 node once in
    let now : IsNodeOnce k1 node = clears_once k0 k1 node 16 clears once in
    let mine : of_domain (entry_at k1.node_entries node) ≡ true = once_mine k1 node (clears_once k0 k1 node 16 clears once) in
    let inside : node < length k1.node_entries = entry_inside k1.node_entries node (once_spelled k1 node (clears_once k0 k1 node 16 clears once)) in
    let nulls : (place : ℕ) → place < 16 → key_table k1.keys (16 * node + place) ≡ Null = cleared_keys k0 k1 node once clears in
    let row = gives_row k1 k2 node good (domain_below k1 node good (once_mine k1 node (clears_once k0 k1 node 16 clears once))) (once_mine k1 node (clears_once k0 k1 node 16 clears once)) (cleared_keys k0 k1 node once clears) e in
    record {
      rows_now = row.rows_now of_domain domains_apart ∙ clears.rows_now ∙ ap (with_at (domain_rows k0) node) (nulls_all k0 node mine0);
      fixed_now = row.rows_now is_fixed fixed_apart ∙ clears.fixed_now;
      forest_now = row.forest_now ∙ clears.forest_now;
      outside_now = λ outside. row.outside_now (and_all outside (row_keys (domain_rows k0 node) 16)) ∙ clears.outside_now outside;
      free = ap (λ (k : Kernel). is_free (entry_at k.node_entries node)) e ∙ ap is_free (get_or-set_same k1.node_entries node (Free k1.machine.free_node) Unspelled inside);
      others = λ other apart. ap (λ (k : Kernel). entry_at k.node_entries other) e ∙ get_or-set_other k1.node_entries node other (Free k1.machine.free_node) Unspelled apart
          ∙ ap (λ (k : Kernel). entry_at k.node_entries other) clears.rest;
      rest = rest_of_keys k0 k1 k2 clears.rest (subst (λ k. KeepsAllButNodes k1 k) (sym e) refl);
      number =
          let total = taken_count-set k1.node_entries node (Free k1.machine.free_node) inside in
          let one : taken_one (entry_at k1.node_entries node) ≡ 1 = ap taken_one now in
          let counted = good.nodes.entries_good.number in
          let after = ap (λ (k : Kernel). k.machine.nodes_taken) e in
          let before = ap (λ (k : Kernel). k.machine.nodes_taken) clears.rest in
          omega arith;
      shares = λ outside hand key named counted. gives.nothing outside hand key named
          (λ place low. null_there k1.keys node place (cleared_keys k0 k1 node once clears place low)) (clears.shares outside (key ∷ hand) counted);
    }
  where
    cleared_keys : (k0 k1 : Kernel) (node : ℕ) → IsNodeOnce k0 node → Clears k0 k1 node 16 → (place : ℕ) → place < 16 → key_table k1.keys (16 * node + place) ≡ Null
    cleared_keys k0 k1 node once clears place low =
        row_key k1 node place (once_mine k1 node (clears_once k0 k1 node 16 clears once)) low
        ∙ ap (λ (r : ℕ → ℕ → Key). r node place) clears.rows_now ∙ ap (λ (r : ℕ → Key). r place) (here_at (domain_rows k0) node (with_nulls (domain_rows k0 node) 16))
        ∙ ap (λ (r : ℕ → Key). r place) (nulls_all k0 node (once_mine k0 node once))

-- nothing but the key in hand names it
pub once_place : (old new : Kernel) (node : ℕ) → BankGood new → IsNodeOnce old node → Clears old new node 16 → (outside : Outside) (hand : List Key) (key : Key) → key_names_node node key ≡ true
    → Shares old outside (key ∷ hand) → node_places new.keys node ≡ 0
once_place old new node good once clears outside hand key named counted =
    let now : IsNodeOnce new node = clears_once old new node 16 clears once in
    node-in_hand_unnamed new outside hand key node (once_high new node good now) (domain_below new node good (once_mine new node now))
    (subst IsTakenOnce (sym now) refl) named (clears.shares outside (key ∷ hand) counted)
  where
    once_high : (kernel : Kernel) (node : ℕ) → BankGood kernel → IsNodeOnce kernel node → 15 ≤ node
    once_high kernel node good once = ⊎_elim
        (λ (t : node < 15). let no : Fixed ≡ Taken DomainOwner 1 = sym (good.nodes.fixed node t) ∙ once in cc)
        (λ (t : 15 ≤ node). t)
        (cases_lt node 15)
