-- Rows of keys, while nodes are taken, counted and written.
use Rattle.std.proofs.Common.{◌≡◌, ◌≢◌, ◌<◌, ◌+◌, ◌*◌, ◌&&◌, ℕ, Bool, true, false, nat_lt, Option, Some, None, List, length, set, get_or, get_or-set_same, get_or-set_other, refl, ap, sym, subst, ◌∙◌, arith, if◌then◌else◌, ⊎_elim}
use Rattle.std.specs.Option.{IsSome}
use Rattle.std.proofs.Math.Path.{fun_ext}
use Rattle.std.proofs.lemmas.Bool.{cases_eq, lt-ltb, ltb-true, eq-eqb, ne_eqb}
use Rattle.kn_base.specs.declared.key.Key.{Key}
use Rattle.kn_base.specs.declared.key.Key.TheVariants.{Null}
use Rattle.kernel_tables.specs.declared.entry.NodeOwner.{NodeOwner}
use Rattle.kernel_tables.specs.declared.entry.NodeOwner.TheVariants.{Domain, Tree, FileTree}
use Rattle.kernel_tables.specs.declared.entry.Entry.{Entry}
use Rattle.kernel_tables.specs.declared.entry.Entry.TheVariants.{Free, Taken, Fixed, Unspelled}
use Rattle.kernel_tables.specs.Kernel.{Kernel}
use Rattle.kernel_tables.specs.Rows.{entry_at, key_table, rows, of_domain, is_fixed, IsApart, KeepsRows}
use Rattle.space_bank.specs.FreeList.{is_free}
use Rattle.space_bank.specs.Bank.{TakesNode}
use Rattle.space_bank.specs.Changes.{with_count, node_counted, key_written}
use Rattle.space_bank.proofs.EntryLaws.{set_cases}
use Rattle.unix_model.specs.Tables.{at, with_at}
use Rattle.kernel_forest.specs.Trees.{tree_in, node_tree}

pub domains_apart : IsApart of_domain
domains_apart = record { free = λ next. refl; tree = λ count. refl; file_tree = λ count. refl; counted = same }
  where
    same : (owner : NodeOwner) (count other : ℕ) → of_domain (Taken owner count) ≡ of_domain (Taken owner other)
    same Domain count other = refl
    same Tree count other = refl
    same FileTree count other = refl

pub fixed_apart : IsApart is_fixed
fixed_apart = record { free = λ next. refl; tree = λ count. refl; file_tree = λ count. refl; counted = λ owner count other. refl }

-- a node of a tree is told apart, whoever's the tree is
apart_tree : (mine : Entry NodeOwner → Bool) → IsApart mine → (owner : NodeOwner) (count : ℕ) → IsSome (node_tree owner) → mine (Taken owner count) ≡ false
apart_tree mine apart Domain count some = cc
apart_tree mine apart Tree count some = apart.tree count
apart_tree mine apart FileTree count some = apart.file_tree count

shown : (old new low : Bool) (x y : Key) → new ≡ old → (old ≡ true → low ≡ true → x ≡ y) → (if new && low then x else Null) ≡ (if old && low then y else Null)
shown true new true x y e same = rw e (same refl refl)
shown true new false x y e same = rw e refl
shown false new low x y e same = rw e refl

-- rows that are told apart alike, and show the same keys
pub rows_same : (mine : Entry NodeOwner → Bool) (entries now : List (Entry NodeOwner)) (keys new : List (Option Key))
    → ((node : ℕ) → mine (entry_at now node) ≡ mine (entry_at entries node))
    → ((node place : ℕ) → mine (entry_at entries node) ≡ true → place < 16 → key_table new (16 * node + place) ≡ key_table keys (16 * node + place))
    → rows mine now new ≡ rows mine entries keys
unfolding rows
rows_same mine entries now keys new owners same = fun_ext (λ node. fun_ext (λ place.
    shown (mine (entry_at entries node)) (mine (entry_at now node)) (nat_lt place 16) (key_table new (16 * node + place)) (key_table keys (16 * node + place)) (owners node)
    (λ own low. same node place own (ltb-true place 16 low))))

count_apart : (mine : Entry NodeOwner → Bool) → IsApart mine → (entry : Entry NodeOwner) (count : ℕ) → mine (with_count entry count) ≡ mine entry
count_apart mine apart (Free next) count = refl
count_apart mine apart (Taken owner old) count = apart.counted owner count old
count_apart mine apart Fixed count = refl
count_apart mine apart Unspelled count = refl

pub rows-node_counted : (kernel : Kernel) (n count : ℕ) → n < length kernel.node_entries → KeepsRows kernel (node_counted kernel n count)
rows-node_counted kernel n count inside mine apart =
    rows_same mine kernel.node_entries (node_counted kernel n count).node_entries kernel.keys kernel.keys
    (λ node. set_cases (λ e. mine e ≡ mine (entry_at kernel.node_entries node)) kernel.node_entries n node (with_count (entry_at kernel.node_entries n) count) inside
    (λ same. count_apart mine apart (entry_at kernel.node_entries n) count ∙ ap (λ k. mine (entry_at kernel.node_entries k)) same)
    (λ other. refl))
    (λ node place own low. refl)

free_apart : (mine : Entry NodeOwner → Bool) → IsApart mine → (entry : Entry NodeOwner) → is_free entry ≡ true → mine entry ≡ false
free_apart mine apart (Free next) free = apart.free next
free_apart mine apart (Taken owner count) free = let no : false ≡ true = free in cc
free_apart mine apart Fixed free = let no : false ≡ true = free in cc
free_apart mine apart Unspelled free = let no : false ≡ true = free in cc

pub rows-node_taken : (old new : Kernel) (n : ℕ) (owner : NodeOwner) → n < length old.node_entries → IsSome (node_tree owner) → TakesNode old new n owner → KeepsRows old new
rows-node_taken old new n owner inside some takes mine apart =
    ap (λ (k : Kernel). rows mine k.node_entries k.keys) takes.state
    ∙ rows_same mine old.node_entries (set old.node_entries n (Taken owner 1)) old.keys old.keys
    (λ node. set_cases (λ e. mine e ≡ mine (entry_at old.node_entries node)) old.node_entries n node (Taken owner 1) inside
    (λ same. apart_tree mine apart owner 1 some ∙ sym (ap (λ k. mine (entry_at old.node_entries k)) (sym same) ∙ free_apart mine apart (entry_at old.node_entries n) takes.was_free))
    (λ other. refl))
    (λ node place own low. refl)

pub tree_apart : (mine : Entry NodeOwner → Bool) → IsApart mine → (entry : Entry NodeOwner) → IsSome (tree_in node_tree entry) → mine entry ≡ false
tree_apart mine apart (Free next) some = cc
tree_apart mine apart (Taken owner count) some = apart_tree mine apart owner count some
tree_apart mine apart Fixed some = cc
tree_apart mine apart Unspelled some = cc

key_other : (keys : List (Option Key)) (place p : ℕ) (key : Key) → p ≢ place → key_table (set keys place (Some key)) p ≡ key_table keys p
unfolding key_table
key_other keys place p key apart = rw (get_or-set_other keys place p (Some key) None apart) refl

-- a key is written in a node of another kind
pub rows-written_elsewhere : (mine : Entry NodeOwner → Bool) (kernel : Kernel) (node place : ℕ) (key : Key) → place < 16 → mine (entry_at kernel.node_entries node) ≡ false
    → rows mine (key_written kernel node place key).node_entries (key_written kernel node place key).keys ≡ rows mine kernel.node_entries kernel.keys
rows-written_elsewhere mine kernel node place key low none =
    rows_same mine kernel.node_entries kernel.node_entries kernel.keys (set kernel.keys (16 * node + place) (Some key)) (λ n. refl)
    (λ n p own below. key_other kernel.keys (16 * node + place) (16 * n + p) key (λ e.
    let same : n ≡ node = omega arith in
    let no : false ≡ true = sym none ∙ ap (λ k. mine (entry_at kernel.node_entries k)) (sym same) ∙ own in cc))

pub rows-tree_written : (kernel : Kernel) (node place : ℕ) (key : Key) → place < 16 → IsSome (tree_in node_tree (entry_at kernel.node_entries node)) → KeepsRows kernel (key_written kernel node place key)
rows-tree_written kernel node place key low some mine apart =
    rows-written_elsewhere mine kernel node place key low (tree_apart mine apart (entry_at kernel.node_entries node) some)

-- a fresh node of this kind shows Null keys, as it did before
pub rows-own_taken : (mine : Entry NodeOwner → Bool) → IsApart mine → (old new : Kernel) (n : ℕ) (owner : NodeOwner) → n < length old.node_entries → TakesNode old new n owner
    → rows mine new.node_entries new.keys ≡ rows mine old.node_entries old.keys
unfolding rows key_table
rows-own_taken mine apart old new n owner inside takes =
    ap (λ (k : Kernel). rows mine k.node_entries k.keys) takes.state
    ∙ fun_ext (λ node. fun_ext (λ place.
    set_cases (λ e. (if mine e && nat_lt place 16 then key_table old.keys (16 * node + place) else Null) ≡ (if mine (entry_at old.node_entries node) && nat_lt place 16 then key_table old.keys (16 * node + place) else Null))
    old.node_entries n node (Taken owner 1) inside
    (λ same. nulls (mine (Taken owner 1)) (mine (entry_at old.node_entries node)) (nat_lt place 16) (key_table old.keys (16 * node + place))
    (λ low.
    let null : get_or old.keys (16 * n + place) None ≡ Some Null = ap (λ (k : Kernel). get_or k.keys (16 * n + place) None) (sym takes.state) ∙ takes.nulls place (ltb-true place 16 low) in
    let here : get_or old.keys (16 * node + place) None ≡ Some Null = subst (λ m. get_or old.keys (16 * m + place) None ≡ Some Null) same null in
    rw here refl))
    (λ other. refl)))
  where
    nulls : (a b low : Bool) (x : Key) → (low ≡ true → x ≡ Null) → (if a && low then x else Null) ≡ (if b && low then x else Null)
    nulls true true low x h = refl
    nulls true false true x h = h refl
    nulls true false false x h = refl
    nulls false true true x h = sym (h refl)
    nulls false true false x h = refl
    nulls false false low x h = refl

changed_at : {X : Type 0} (f g : ℕ → X) (n : ℕ) (x : X) → g n ≡ x → ((q : ℕ) → q ≢ n → g q ≡ f q) → g ≡ with_at f n x
unfolding with_at
changed_at f g n x here there = fun_ext (λ q. ⊎_elim
    (λ (e : q ≡ n). rw (e, eq-eqb n n refl) here)
    (λ (d : q ≢ n). rw (ne_eqb q n d) (there q d))
    (cases_eq q n))

key_here : (keys : List (Option Key)) (place : ℕ) (key : Key) → place < length keys → key_table (set keys place (Some key)) place ≡ key
unfolding key_table
key_here keys place key inside = rw (get_or-set_same keys place (Some key) None inside) refl

-- a key is written in a node of this kind
pub rows-written : (mine : Entry NodeOwner → Bool) (kernel : Kernel) (node place : ℕ) (key : Key) → place < 16 → 16 * node + place < length kernel.keys → mine (entry_at kernel.node_entries node) ≡ true
    → rows mine (key_written kernel node place key).node_entries (key_written kernel node place key).keys
    ≡ with_at (rows mine kernel.node_entries kernel.keys) node (with_at (at (rows mine kernel.node_entries kernel.keys) node) place key)
unfolding rows at
rows-written mine kernel node place key low inside own =
    changed_at (rows mine kernel.node_entries kernel.keys) (rows mine kernel.node_entries (set kernel.keys (16 * node + place) (Some key))) node
    (with_at (rows mine kernel.node_entries kernel.keys node) place key)
    (changed_at (rows mine kernel.node_entries kernel.keys node) (rows mine kernel.node_entries (set kernel.keys (16 * node + place) (Some key)) node) place key
    (rw (own, lt-ltb place 16 low) (key_here kernel.keys (16 * node + place) key inside))
    (λ q apart. ap (λ k. if mine (entry_at kernel.node_entries node) && nat_lt q 16 then k else Null) (key_other kernel.keys (16 * node + place) (16 * node + q) key (λ e. apart (omega arith)))))
    (λ m apart. fun_ext (λ q. shown (mine (entry_at kernel.node_entries m)) (mine (entry_at kernel.node_entries m)) (nat_lt q 16)
    (key_table (set kernel.keys (16 * node + place) (Some key)) (16 * m + q)) (key_table kernel.keys (16 * m + q)) refl
    (λ mine_too less. let below = ltb-true q 16 less in key_other kernel.keys (16 * node + place) (16 * m + q) key (λ e. apart (omega arith)))))
