-- Numbers that are written in the nodes of domains.
use Rattle.std.proofs.Common.{◌≡◌, ◌<◌, ◌≤◌, ◌+◌, ◌*◌, ℕ, Some, None, true, false, List, [], ◌∷◌, length, refl, ap, sym, subst, ◌∙◌, arith, add-zero, ⊎_elim}
use Rattle.std.proofs.Math.Path.{fun_ext}
use Rattle.std.proofs.lemmas.Bool.{cases_Bool, cases_lt, lt-ltb}
use Rattle.std.proofs.lemmas.List.{get_or_past}
use Rattle.kn_base.specs.declared.key.Key.{Key}
use Rattle.kn_base.specs.declared.key.Key.TheVariants.{Number}
use Rattle.kernel_tables.specs.declared.entry.NodeOwner.{NodeOwner}
use Rattle.kernel_tables.specs.declared.entry.NodeOwner.TheVariants.{Domain, Tree, FileTree}
use Rattle.kernel_tables.specs.declared.entry.Entry.{Entry}
use Rattle.kernel_tables.specs.declared.entry.Entry.TheVariants.{Free, Taken, Fixed, Unspelled}
use Rattle.kernel_tables.specs.Kernel.{Kernel}
use Rattle.kernel_tables.specs.Rows.{entry_at, key_table, rows, of_domain, is_fixed, domain_rows, fixed_rows}
use Rattle.space_bank.specs.FreeList.{is_free}
use Rattle.space_bank.specs.Bank.{BankGood}
use Rattle.space_bank.specs.Changes.{key_written, ExchangesKeys}
use Rattle.space_bank.specs.Laws.{and_outside}
use Rattle.space_bank.specs.Shares.{Outside, Shares, NamesNothing}
use Rattle.space_bank.proofs.HandLaws.{nothing-in_hand}
use Rattle.forest.specs.Objects.{NodeObject}
use Rattle.kernel_forest.specs.Trees.{owner_of, tree_in, node_tree, forest_of, outside_trees}
use Rattle.kernel_forest.specs.Moves.{PutsRow}
use Rattle.kernel_forest.proofs.NoTree.{puts_row}
use Rattle.kernel_tables.specs.Blocks.{IsAmong, ChangesBlocks, key_block}
use Rattle.kernel_tables.proofs.BlockLaws.{both_change}
use Rattle.domain.specs.Keys.{is_number, is_meter}
use Rattle.domain.specs.Rules.{RowsGood, IsNamed}
use Rattle.domain.specs.Sets.{WritesNumbers, HandsOver}

-- a root is a node of a domain
pub root_mine : (kernel : Kernel) (root : ℕ) → is_meter (domain_rows kernel root 2) ≡ true → of_domain (entry_at kernel.node_entries root) ≡ true
unfolding rows
root_mine kernel root meter = ⊎_elim
    (λ (t : of_domain (entry_at kernel.node_entries root) ≡ true). t)
    (λ (t : of_domain (entry_at kernel.node_entries root) ≡ false). let no : false ≡ true = rw t at meter in cc)
    (cases_Bool (of_domain (entry_at kernel.node_entries root)))

pub domain_used : (entry : Entry NodeOwner) → of_domain entry ≡ true → is_free entry ≡ false
domain_used (Free next) mine = cc
domain_used (Taken owner count) mine = refl
domain_used Fixed mine = cc
domain_used Unspelled mine = cc

domain_none : (entry : Entry NodeOwner) → of_domain entry ≡ true → tree_in node_tree entry ≡ None
domain_none (Free next) mine = refl
domain_none (Taken Domain count) mine = refl
domain_none (Taken Tree count) mine = cc
domain_none (Taken FileTree count) mine = cc
domain_none Fixed mine = refl
domain_none Unspelled mine = refl

pub domain_not_fixed : (entry : Entry NodeOwner) → of_domain entry ≡ true → is_fixed entry ≡ false
domain_not_fixed (Free next) mine = refl
domain_not_fixed (Taken owner count) mine = refl
domain_not_fixed Fixed mine = cc
domain_not_fixed Unspelled mine = refl

pub domain_below : (kernel : Kernel) (node : ℕ) → BankGood kernel → of_domain (entry_at kernel.node_entries node) ≡ true → node < kernel.nodes
domain_below kernel node good mine = ⊎_elim
    (λ (t : node < kernel.nodes). t)
    (λ (t : kernel.nodes ≤ node). ⊎_elim
    (λ (u : node < length kernel.node_entries).
    let no : false ≡ true = sym (ap of_domain (good.nodes.entries_good.unused node t u)) ∙ mine in cc)
    (λ (u : length kernel.node_entries ≤ node).
    let no : false ≡ true = sym (ap of_domain (get_or_past kernel.node_entries node Unspelled u)) ∙ mine in cc)
    (cases_lt node (length kernel.node_entries)))
    (cases_lt node kernel.nodes)

unowned : (kernel : Kernel) (node : ℕ) → of_domain (entry_at kernel.node_entries node) ≡ true → (forest_of kernel).owner (NodeObject node) ≡ None
unfolding owner_of
unowned kernel node mine = domain_none (entry_at kernel.node_entries node) mine

-- the key at a place of a row is the one that stands there
pub row_key : (kernel : Kernel) (node place : ℕ) → of_domain (entry_at kernel.node_entries node) ≡ true → place < 16 → key_table kernel.keys (16 * node + place) ≡ domain_rows kernel node place
unfolding rows
row_key kernel node place mine low = rw (mine, lt-ltb place 16 low) refl

-- a number names nothing
pub number_outside : (outside : Outside) (key : Key) → is_number key ≡ true → and_outside outside key ≡ outside
number_outside outside (Number body) number =
    ap (λ p. let o : Outside = record { pages = p; nodes = λ id. outside.nodes id + 0 } in o) (fun_ext (λ id. add-zero (outside.pages id)))
    ∙ ap (λ n. let o : Outside = record { pages = outside.pages; nodes = n } in o) (fun_ext (λ id. add-zero (outside.nodes id)))
number_outside outside _ number = cc

pub number_nothing : (key : Key) → is_number key ≡ true → NamesNothing (Some key)
number_nothing (Number body) number = tt
number_nothing _ number = cc

-- a number in place of a number
pub writes_number : (old new : Kernel) (node place : ℕ) (key : Key) → of_domain (entry_at old.node_entries node) ≡ true → place < 16
    → is_number (domain_rows old node place) ≡ true → is_number key ≡ true → PutsRow old new node place key → WritesNumbers old new
writes_number old new node place key mine low was number puts =
    let before : is_number (key_table old.keys (16 * node + place)) ≡ true = ap is_number (row_key old node place mine low) ∙ was in
    record {
      rest = puts.state ∙ ap (λ k. let n : Kernel = record old { keys = k } in n) (sym (ap (λ (k : Kernel). k.keys) puts.state));
      forest_now = puts.forest_now;
      outside_now = λ outside.
          ap (outside_trees new) (sym (number_outside outside (key_table old.keys (16 * node + place)) (ap is_number (row_key old node place mine low) ∙ was)))
          ∙ puts.outside_now outside ∙ ap (outside_trees old) (number_outside outside key number);
      fixed_now = puts.others_now is_fixed (domain_not_fixed (entry_at old.node_entries node) mine);
      shares = λ outside hand counted.
          (nothing-in_hand new outside hand (key_table old.keys (16 * node + place)) (number_nothing (key_table old.keys (16 * node + place)) (ap is_number (row_key old node place mine low) ∙ was))).0
          (puts.shares outside hand ((nothing-in_hand old outside hand key (number_nothing key number)).1 counted));
    }

-- a number is written in a root
pub number_put : (old new : Kernel) (root place : ℕ) (key : Key) → BankGood old → of_domain (entry_at old.node_entries root) ≡ true → place < 16
    → new ≡ key_written old root place key → ExchangesKeys old new root place key → PutsRow old new root place key
number_put old new root place key good mine low e exchanges = puts_row old new root place key good (domain_below old root good mine) (unowned old root mine) low e exchanges

-- a node in which a number stands is a node of a domain
pub number_mine : (kernel : Kernel) (node place : ℕ) → is_number (domain_rows kernel node place) ≡ true → of_domain (entry_at kernel.node_entries node) ≡ true
unfolding rows
number_mine kernel node place number = ⊎_elim
    (λ (t : of_domain (entry_at kernel.node_entries node) ≡ true). t)
    (λ (t : of_domain (entry_at kernel.node_entries node) ≡ false). let no : false ≡ true = rw t at number in cc)
    (cases_Bool (of_domain (entry_at kernel.node_entries node)))

-- so is a node of words
pub words_mine : (kernel : Kernel) (node : ℕ) → RowsGood (domain_rows kernel) → IsNamed (domain_rows kernel) node → of_domain (entry_at kernel.node_entries node) ≡ true
words_mine kernel node good is = number_mine kernel node 0 (good.plain is.by is.place node 0 is.named (omega arith))

-- numbers that are written one after the other
pub writes_trans : (old mid new : Kernel) → WritesNumbers old mid → WritesNumbers mid new → WritesNumbers old new
writes_trans old mid new first second = record {
  rest = second.rest ∙ ap (λ k. let n : Kernel = record k { keys = new.keys } in n) first.rest;
  forest_now = second.forest_now ∙ first.forest_now;
  outside_now = λ outside. second.outside_now outside ∙ first.outside_now outside;
  fixed_now = second.fixed_now ∙ first.fixed_now;
  shares = λ outside hand counted. second.shares outside hand (first.shares outside hand counted);
}

pub writes_none : (kernel : Kernel) → WritesNumbers kernel kernel
writes_none kernel = record { rest = refl; forest_now = refl; outside_now = λ outside. refl; fixed_now = refl; shares = λ outside hand counted. counted }

-- a key that is written in place of another one is handed over
pub hands_over : (old new : Kernel) (node place : ℕ) (key was : Key) → of_domain (entry_at old.node_entries node) ≡ true → place < 16 → domain_rows old node place ≡ was
    → PutsRow old new node place key → HandsOver old new key was
hands_over old new node place key was mine low is puts =
    let stood : key_table old.keys (16 * node + place) ≡ was = row_key old node place mine low ∙ is in
    record {
      rest = puts.state ∙ ap (λ k. let n : Kernel = record old { keys = k } in n) (sym (ap (λ (k : Kernel). k.keys) puts.state));
      forest_now = puts.forest_now;
      outside_now = λ outside. ap (λ k. outside_trees new (and_outside outside k)) (sym (row_key old node place mine low ∙ is)) ∙ puts.outside_now outside;
      fixed_now = puts.others_now is_fixed (domain_not_fixed (entry_at old.node_entries node) mine);
      shares = λ outside hand counted. subst (λ k. Shares new outside (k ∷ hand)) stood (puts.shares outside hand counted);
    }

-- two writes in the same block
pub same_block : {first old new : List (List ℕ)} (pages more node : ℕ) → more ≡ pages → ChangesBlocks first old (key_block pages node ∷ []) → ChangesBlocks old new (key_block more node ∷ [])
    → ChangesBlocks first new (key_block pages node ∷ [])
same_block pages more node e before after = both_change before (λ block among. subst (λ p. IsAmong block (key_block p node ∷ [])) e among) after

-- the key at a place of a fixed node
pub fixed_key : (kernel : Kernel) (node place : ℕ) → BankGood kernel → node < 15 → place < 16 → key_table kernel.keys (16 * node + place) ≡ fixed_rows kernel node place
unfolding rows
fixed_key kernel node place good few low = rw (good.nodes.fixed node few, lt-ltb place 16 low) refl

-- a key is written in a fixed node
fixed_none : (entry : Entry NodeOwner) → entry ≡ Fixed → tree_in node_tree entry ≡ None
fixed_none entry e = ap (tree_in node_tree) e

pub slot_put : (old new : Kernel) (node place : ℕ) (key : Key) → BankGood old → node < 15 → place < 16 → new ≡ key_written old node place key → ExchangesKeys old new node place key → PutsRow old new node place key
unfolding owner_of
slot_put old new node place key good few low e exchanges =
    puts_row old new node place key good (let n = good.sized.all_nodes in omega arith) (fixed_none (entry_at old.node_entries node) (good.nodes.fixed node few)) low e exchanges
