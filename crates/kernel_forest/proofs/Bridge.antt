-- The bank counts all keys of all nodes, by the page or node that they name. The forest counts parts of trees, in the nodes
-- of trees. What the bank counts beside that is outside for the forest.
use Rattle.std.proofs.Common.{◌≡◌, ◌≢◌, ◌<◌, ◌≤◌, ◌+◌, ◌-◌, ◌*◌, ◌/◌, ◌==◌, ◌&&◌, not, ℕ, zero, suc, Bool, true, false, nat_lt, Option, Some, None, List, [], ◌∷◌, length, refl, ap, sym, ◌∙◌, arith, if◌then◌else◌, ⊎_elim}
use Rattle.std.specs.Option.{is_some, IsSome}
use Rattle.std.specs.List.{count_by}
use Rattle.std.proofs.lemmas.List.Sums.{sum_by-cons}
use Rattle.std.proofs.lemmas.Bool.{cases_Bool, cases_eq, cases_lt, eq-eqb, lt-ltb, le-ltb, ne_eqb}
use Rattle.kn_base.specs.declared.key.Key.{Key}
use Rattle.kn_base.specs.declared.key.Key.TheVariants.{Null, Number, Page, Node, Segment, Start, Resume, Domain, Meter, Service}
use Rattle.kernel_tables.specs.declared.entry.Entry.{Entry}
use Rattle.kernel_tables.specs.declared.entry.Entry.TheVariants.{Free, Taken, Fixed, Unspelled}
use Rattle.kernel_tables.specs.Kernel.{Kernel, first_page}
use Rattle.kernel_tables.specs.Rows.{entry_at, key_table}
use Rattle.space_bank.specs.FreeList.{shares}
use Rattle.space_bank.specs.Bank.{BankGood, EntriesGood}
use Rattle.space_bank.specs.Changes.{IsTaken}
use Rattle.space_bank.specs.Shares.{Outside, Shares, spelled_and, key_names_page, key_names_node, page_places, node_places, page_in_hand, node_in_hand}
use Rattle.space_bank.proofs.FreeListLaws.{entry_inside}
use Rattle.space_bank.proofs.ChangeLaws.{taken_high}
use Rattle.unix_model.specs.Tables.{at, count_below}
use Rattle.forest.specs.Objects.{Object, PageObject, NodeObject, Owner, named, names}
use Rattle.forest.specs.Forest.{masked, namings, in_hand}
use Rattle.forest.proofs.CountLaws.{names-true}
use Rattle.forest.proofs.ExactLaws.{bit}
use Rattle.kernel_forest.specs.Trees.{owner_of, count_of, forest_of, tree_in, tree_shares, page_tree, node_tree, raw_names, is_counted, elsewhere, outside_by, outside_trees, IsTreeKey, AreTreeKeys}
use Rattle.kernel_forest.specs.Laws.{BankIsExact}

-- a count from the other end
count_shift : (test : ℕ → Bool) (n : ℕ) → count_below test (suc n) ≡ bit (test 0) + count_below (λ k. test (suc k)) n
unfolding count_below
count_shift test zero = omega arith
count_shift test (suc n) = let e = count_shift test n in omega arith

-- keys that are counted in a list are counted by their places
pub count_places : (test : Key → Bool) (keys : List (Option Key)) → test Null ≡ false → count_by (spelled_and test) keys ≡ count_below (λ p. test (key_table keys p)) (length keys)
unfolding count_below key_table
count_places test [] null = refl
count_places test (None ∷ keys) null =
    let first = sum_by-cons (λ k. bit (spelled_and test k)) None keys in
    let rest = count_places test keys null in
    let shift = count_shift (λ p. test (key_table (None ∷ keys) p)) (length keys) in
    let zero_first : bit (test Null) ≡ 0 = ap bit null in
    omega arith
count_places test (Some key ∷ keys) null =
    let first = sum_by-cons (λ k. bit (spelled_and test k)) (Some key) keys in
    let rest = count_places test keys null in
    let shift = count_shift (λ p. test (key_table (Some key ∷ keys) p)) (length keys) in
    omega arith

bit_split : (a b : Bool) → (b ≡ true → a ≡ true) → bit a ≡ bit b + bit (a && not b)
bit_split true true h = omega arith
bit_split true false h = omega arith
bit_split false true h = let no : false ≡ true = h refl in cc
bit_split false false h = omega arith

-- what is counted, and what is counted beside it
count_split : (f g : ℕ → Bool) (n : ℕ) → ((p : ℕ) → g p ≡ true → f p ≡ true) → count_below f n ≡ count_below g n + count_below (λ p. f p && not (g p)) n
unfolding count_below
count_split f g zero h = refl
count_split f g (suc n) h = let e = count_split f g n h in let here = bit_split (f n) (g n) (h n) in omega arith

-- what names a part of a tree, the bank counts
if_same : {X : Type 0} (b : Bool) (x : X) → (if b then x else x) ≡ x
if_same true x = refl
if_same false x = refl

record PageNumber (page object : ℕ) : Type 0 where
  same : page ≡ object
  real : object ≢ 0

page_number : (page object : ℕ) → named (Page (record { 0 = page }) true) ≡ Some (PageObject object) → PageNumber page object
page_number page object h = ⊎_elim
    (λ (t : page ≡ 0). let no : None ≡ Some (PageObject object) = rw t at h in cc)
    (λ (t : page ≢ 0).
    let is : Some (PageObject page) ≡ Some (PageObject object) = rw (ne_eqb page 0 t) at h in
    let same : page ≡ object = cc in
    record { same = same; real = λ e. t (same ∙ e) })
    (cases_eq page 0)

page_never_node : (page node : ℕ) → named (Page (record { 0 = page }) true) ≡ Some (NodeObject node) → ⊥
page_never_node page node h = ⊎_elim
    (λ (t : (page == 0) ≡ true). let no : None ≡ Some (NodeObject node) = rw t at h in cc)
    (λ (t : (page == 0) ≡ false). let is : Some (PageObject page) ≡ Some (NodeObject node) = rw t at h in cc)
    (cases_Bool (page == 0))

named_counts : (object : Object) (key : Key) → named key ≡ Some object → raw_names object key ≡ true
named_counts (PageObject a) (Page page writable) h =
    let n = page_number page.0 a h in eq-eqb page.0 a n.same
named_counts (NodeObject a) (Page page writable) h = absurd (page_never_node page.0 a h)
named_counts (PageObject a) (Segment node height) h = cc
named_counts (NodeObject a) (Segment node height) h = eq-eqb node.0 a (let is : Some (NodeObject node.0) ≡ Some (NodeObject a) = h in cc)
named_counts object _ h = cc

masked_counts : (object : Object) (b : Bool) (key : Key) → names object (if b then key else Null) ≡ true → raw_names object key ≡ true
masked_counts object true key h = named_counts object key (names-true object key h)
masked_counts object false key h = let no : None ≡ Some object = names-true object Null h in cc

-- the places that name an object for the bank are those of the forest, and those elsewhere
pub places_split : (kernel : Kernel) (object : Object) → count_below (λ p. raw_names object (key_table kernel.keys p)) (16 * kernel.nodes) ≡ namings (forest_of kernel) object + elsewhere kernel.nodes (key_table kernel.keys) (forest_of kernel).keys object
unfolding namings elsewhere at masked
places_split kernel object =
    count_split (λ p. raw_names object (key_table kernel.keys p)) (λ p. names object ((forest_of kernel).keys p)) (16 * kernel.nodes)
    (λ p. masked_counts object (is_some (owner_of (first_page kernel.size) kernel.page_entries kernel.node_entries (NodeObject (p / 16)))) (key_table kernel.keys p))

-- bank and forest count a key of a tree alike, but for the page of zeros
same_number : (a b : ℕ) → (a == b) ≡ (b == a)
same_number a b = ⊎_elim
    (λ (t : a ≡ b). rw t refl)
    (λ (t : a ≢ b). ne_eqb a b t ∙ sym (ne_eqb b a (λ e. t (sym e))))
    (cases_eq a b)

page_alike : (a page : ℕ) → not (a == 0) ≡ true → (page == a) ≡ names (PageObject a) (Page (record { 0 = page }) true)
page_alike a page counted = ⊎_elim
    (λ (t : page ≡ 0). ⊎_elim
    (λ (z : a ≡ 0). let no : false ≡ true = rw z at counted in cc)
    (λ (z : a ≢ 0). rw t (ne_eqb 0 a (λ e. z (sym e))))
    (cases_eq a 0))
    (λ (t : page ≢ 0). rw (ne_eqb page 0 t) (same_number page a))
    (cases_eq page 0)

page_no_node : (a page : ℕ) → false ≡ names (NodeObject a) (Page (record { 0 = page }) true)
page_no_node a page = ⊎_elim
    (λ (t : (page == 0) ≡ true). rw t refl)
    (λ (t : (page == 0) ≡ false). rw t refl)
    (cases_Bool (page == 0))

fixed_other : (a n : ℕ) → not (nat_lt a 15) ≡ true → n < 15 → (n == a) ≡ false
fixed_other a n counted low = ne_eqb n a (λ e.
    let less : a < 15 = omega arith in
    let no : false ≡ true = rw (lt-ltb a 15 less) at counted in cc)

pub counts_alike : (object : Object) (key : Key) → is_counted object ≡ true → IsTreeKey key → raw_names object key ≡ names object key
counts_alike (PageObject a) Null counted tree = refl
counts_alike (PageObject a) (Number body) counted tree = refl
counts_alike (PageObject a) (Page page writable) counted tree = page_alike a page.0 counted
counts_alike (PageObject a) (Node node) counted tree = refl
counts_alike (PageObject a) (Segment node height) counted tree = refl
counts_alike (PageObject a) (Start root byte) counted tree = refl
counts_alike (PageObject a) (Resume root count) counted tree = refl
counts_alike (PageObject a) (Domain root) counted tree = refl
counts_alike (PageObject a) (Meter slot) counted tree = refl
counts_alike (PageObject a) (Service code) counted tree = refl
counts_alike (NodeObject a) Null counted tree = refl
counts_alike (NodeObject a) (Number body) counted tree = refl
counts_alike (NodeObject a) (Page page writable) counted tree = page_no_node a page.0
counts_alike (NodeObject a) (Node node) counted tree = fixed_other a node.0 counted tree
counts_alike (NodeObject a) (Segment node height) counted tree = same_number node.0 a
counts_alike (NodeObject a) (Start root byte) counted tree = fixed_other a root.0 counted tree
counts_alike (NodeObject a) (Resume root count) counted tree = fixed_other a root.0 counted tree
counts_alike (NodeObject a) (Domain root) counted tree = fixed_other a root.0 counted tree
counts_alike (NodeObject a) (Meter slot) counted tree = refl
counts_alike (NodeObject a) (Service code) counted tree = refl

pub hand_alike : (object : Object) (hand : List Key) → is_counted object ≡ true → AreTreeKeys hand → count_by (raw_names object) hand ≡ in_hand hand object
unfolding in_hand
hand_alike object [] counted trees = refl
hand_alike object (key ∷ hand) counted trees =
    let one = sum_by-cons (λ k. bit (raw_names object k)) key hand in
    let two = sum_by-cons (λ k. bit (names object k)) key hand in
    let same : bit (raw_names object key) ≡ bit (names object key) = ap bit (counts_alike object key counted trees.0) in
    let rest = hand_alike object hand counted trees.1 in
    omega arith

-- what belongs to a tree is taken, and inside
pub tree_taken : {O : Type 0} (tree : O → Option Owner) (entry : Entry O) → IsSome (tree_in tree entry) → IsTaken entry
tree_taken tree (Free next) h = cc
tree_taken tree (Taken owner count) h = tt
tree_taken tree Fixed h = cc
tree_taken tree Unspelled h = cc

pub tree_below : {O : Type 0} (tree : O → Option Owner) (entries : List (Entry O)) (base count first taken n : ℕ) → EntriesGood entries base count first taken → IsSome (tree_in tree (entry_at entries n)) → n < count
tree_below tree entries base count first taken n good some = ⊎_elim
    (λ (t : n < count). t)
    (λ (t : count ≤ n).
    let inside : n < length entries = entry_inside entries n (λ e. let no : IsSome (tree_in tree Unspelled) = rw e at some in cc) in
    let free = good.unused n t inside in
    absurd (let no : IsSome (tree_in tree (Free 0)) = rw free at some in let f : false ≡ true = no in cc))
    (cases_lt n count)

pub shares_tree : {O : Type 0} (tree : O → Option Owner) (entry : Entry O) → IsSome (tree_in tree entry) → tree_shares tree entry ≡ shares entry
shares_tree tree (Free next) h = refl
shares_tree tree (Taken owner count) h = rw h refl
shares_tree tree Fixed h = refl
shares_tree tree Unspelled h = refl

-- the page of a tree is one of the bank
pub record PageInside (kernel : Kernel) (page : ℕ) : Type 0 where
  pub low : first_page kernel.size ≤ page
  pub some : IsSome (tree_in page_tree (entry_at kernel.page_entries (page - first_page kernel.size)))
  pub below : page - first_page kernel.size < kernel.size

pub page_inside : (kernel : Kernel) (page : ℕ) → BankGood kernel → IsSome ((forest_of kernel).owner (PageObject page)) → PageInside kernel page
unfolding owner_of
page_inside kernel page good owned = ⊎_elim
    (λ (t : page < first_page kernel.size). absurd (let no : false ≡ true = rw (lt-ltb page (first_page kernel.size) t) at owned in cc))
    (λ (t : first_page kernel.size ≤ page).
    let off : nat_lt page (first_page kernel.size) ≡ false = le-ltb page (first_page kernel.size) t in
    let some : IsSome (tree_in page_tree (entry_at kernel.page_entries (page - first_page kernel.size))) = rw off at owned in
    record {
      low = t;
      some = some;
      below = tree_below page_tree kernel.page_entries (first_page kernel.size) kernel.size kernel.machine.free_page kernel.machine.pages_taken (page - first_page kernel.size) good.pages.entries_good some;
    })
    (cases_lt page (first_page kernel.size))

exact_at : (kernel : Kernel) (outside : Outside) (hand : List Key) → BankGood kernel → AreTreeKeys hand → Shares kernel outside hand
    → (object : Object) → IsSome ((forest_of kernel).owner object)
    → (forest_of kernel).count object ≡ namings (forest_of kernel) object + outside_trees kernel outside object + in_hand hand object
unfolding count_of outside_by page_places node_places page_in_hand node_in_hand first_page owner_of
exact_at kernel outside hand good trees counted (PageObject page) owned =
    let inside = page_inside kernel page good owned in
    let low : first_page kernel.size ≤ page = inside.low in
    let n = page - first_page kernel.size in
    let number : first_page kernel.size + n ≡ page = omega arith in
    let off : nat_lt page (first_page kernel.size) ≡ false = le-ltb page (first_page kernel.size) low in
    let real : (page == 0) ≡ false = ne_eqb page 0 (λ e. absurd (omega arith)) in
    let yes : is_counted (PageObject page) ≡ true = ap not real in
    let agreed = counted.of_pages.agree n (omega arith) inside.below in
    let places = count_places (key_names_page page) kernel.keys refl in
    let split = rw (← good.nodes.all_keys) at (places_split kernel (PageObject page)) in
    let held = hand_alike (PageObject page) hand yes trees in
    let same = shares_tree page_tree (entry_at kernel.page_entries (page - first_page kernel.size)) inside.some in
    rw (off, real, same, agreed, number) (omega arith)
exact_at kernel outside hand good trees counted (NodeObject node) owned =
    let high = taken_high kernel node (tree_taken node_tree (entry_at kernel.node_entries node) owned) good in
    let below = tree_below node_tree kernel.node_entries 0 kernel.nodes kernel.machine.free_node kernel.machine.nodes_taken node good.nodes.entries_good owned in
    let zero_add : 0 + node ≡ node = omega arith in
    let real : nat_lt node 15 ≡ false = le-ltb node 15 high in
    let yes : is_counted (NodeObject node) ≡ true = ap not real in
    let agreed = counted.of_nodes.agree node high below in
    let places = count_places (key_names_node node) kernel.keys refl in
    let split = rw (← good.nodes.all_keys) at (places_split kernel (NodeObject node)) in
    let held = hand_alike (NodeObject node) hand yes trees in
    let same = shares_tree node_tree (entry_at kernel.node_entries node) owned in
    rw (real, same, agreed, zero_add) (omega arith)

pub bank_exact : BankIsExact
bank_exact kernel outside hand good trees counted = record { counted = exact_at kernel outside hand good trees counted }
