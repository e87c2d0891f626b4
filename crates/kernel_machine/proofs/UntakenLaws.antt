-- Where nothing is taken, nobody has to hold anything.
use Rattle.std.proofs.Common.{◌≡◌, ℕ, zero, suc, ◌-◌, true, false, nat_lt, Option, Some, None, List, [], ◌∷◌, refl, sym, ap, ◌∙◌, arith, ⊎_elim}
use Rattle.std.specs.Option.{IsSome, is_some}
use Rattle.std.specs.List.{sum_by}
use Rattle.std.proofs.lemmas.Bool.{cases_Bool}
use Rattle.std.proofs.lemmas.List.Sums.{sum_by-cons}
use Rattle.kernel_tables.specs.declared.entry.Entry.{Entry}
use Rattle.kernel_tables.specs.declared.entry.Entry.TheVariants.{Free, Taken, Fixed, Unspelled}
use Rattle.kernel_tables.specs.declared.entry.NodeOwner.{NodeOwner}
use Rattle.kernel_tables.specs.Kernel.{Kernel, first_page}
use Rattle.kernel_tables.specs.Rows.{entry_at, of_domain}
use Rattle.space_bank.specs.Bank.{BankGood}
use Rattle.space_bank.specs.FreeList.{taken_one, taken_count}
use Rattle.forest.specs.Forest.{NoPageOutside}
use Rattle.forest.specs.Objects.{Object, PageObject, NodeObject, Owner}
use Rattle.kernel_forest.specs.Owners.{owner_in, page_owner_of}
use Rattle.kernel_forest.specs.Trees.{forest_of, outside_trees, owner_of, tree_in, page_tree, node_tree}
use Rattle.file_tables.specs.Roots.{named_by}
use Rattle.unix_model.specs.Tables.{at}
use Rattle.kernel_machine.specs.Machine.{machine_of}
use Rattle.kernel_machine.specs.Bounds as law

pub none-taken : {O : Type 0} (entries : List (Entry O)) (n : ℕ) → sum_by taken_one entries ≡ 0 → taken_one (entry_at entries n) ≡ 0
none-taken [] n e = refl
none-taken (entry ∷ entries) zero e = omega (arith, sum_by-cons taken_one entry entries)
none-taken (entry ∷ entries) (suc n) e = none-taken entries n (omega (arith, sum_by-cons taken_one entry entries))

untaken-tree : {O : Type 0} (tree : O → Option Owner) (entry : Entry O) → taken_one entry ≡ 0 → tree_in tree entry ≡ None
untaken-tree tree (Free next) e = refl
untaken-tree tree (Taken owner count) e = absurd (omega arith)
untaken-tree tree Fixed e = refl
untaken-tree tree Unspelled e = refl

untaken-owner : {O : Type 0} (entry : Entry O) → taken_one entry ≡ 0 → owner_in entry ≡ None
untaken-owner (Free next) e = refl
untaken-owner (Taken owner count) e = absurd (omega arith)
untaken-owner Fixed e = refl
untaken-owner Unspelled e = refl

pub untaken-node : {P : Type 0} (entry : Entry NodeOwner) → taken_one entry ≡ 0 → of_domain entry ≡ true → P
untaken-node (Free next) e is = absurd (cc)
untaken-node (Taken owner count) e is = absurd (omega arith)
untaken-node Fixed e is = absurd (cc)
untaken-node Unspelled e is = absurd (cc)

pub no-some : {X P : Type 0} (x : X) (there : Option X) → there ≡ None → there ≡ Some x → P
no-some x there none some = let both : None ≡ Some x = sym none ∙ some in absurd (cc)

pub not-some : {X P : Type 0} (there : Option X) → IsSome there → there ≡ None → P
not-some there some none = let no : false ≡ true = ap is_some (sym none) ∙ some in absurd (cc)

module _ (kernel : Kernel) (good : BankGood kernel) (no_page : kernel.machine.pages_taken ≡ 0) where
  page-free : (n : ℕ) → taken_one (entry_at kernel.page_entries n) ≡ 0
  unfolding taken_count
  page-free n = none-taken kernel.page_entries n (sym good.pages.entries_good.number ∙ no_page)

  no-page-owner : (page : ℕ) → (forest_of kernel).owner (PageObject page) ≡ None
  unfolding owner_of
  no-page-owner page = ⊎_elim
      (λ (t : nat_lt page (first_page kernel.size) ≡ true). rw t refl)
      (λ (t : nat_lt page (first_page kernel.size) ≡ false). rw t (untaken-tree page_tree (entry_at kernel.page_entries (page - first_page kernel.size)) (page-free (page - first_page kernel.size))))
      (cases_Bool (nat_lt page (first_page kernel.size)))

  pub no-owner : (page : ℕ) → at (page_owner_of (first_page kernel.size) kernel.page_entries) page ≡ None
  unfolding page_owner_of at
  no-owner page = ⊎_elim
      (λ (t : nat_lt page (first_page kernel.size) ≡ true). rw t refl)
      (λ (t : nat_lt page (first_page kernel.size) ≡ false). rw t (untaken-owner (entry_at kernel.page_entries (page - first_page kernel.size)) (page-free (page - first_page kernel.size))))
      (cases_Bool (nat_lt page (first_page kernel.size)))

  -- where no page is taken, none of a tree is named from outside
  pub no-page-outside : (outside : Object → ℕ) → NoPageOutside (forest_of kernel) outside
  no-page-outside outside page owned = not-some ((forest_of kernel).owner (PageObject page)) owned (no-page-owner page)

module _ (kernel : Kernel) (good : BankGood kernel) (no_node : kernel.machine.nodes_taken ≡ 0) where
  node-free : (n : ℕ) → taken_one (entry_at kernel.node_entries n) ≡ 0
  unfolding taken_count
  node-free n = none-taken kernel.node_entries n (sym good.nodes.entries_good.number ∙ no_node)

  pub no-node-owner : (node : ℕ) → (forest_of kernel).owner (NodeObject node) ≡ None
  unfolding owner_of
  no-node-owner node = untaken-tree node_tree (entry_at kernel.node_entries node) (node-free node)

pub untaken_is_held : law.UntakenIsHeld
unfolding machine_of
untaken_is_held kernel good no_page no_node = (
  record {
    spaces = λ space is_space owned. no-some _ ((forest_of kernel).owner (NodeObject space)) (no-node-owner kernel good no_node space) owned;
    trees = λ space is_space owned. no-some _ ((forest_of kernel).owner (NodeObject space)) (no-node-owner kernel good no_node space) owned;
    buffers = λ page owned. no-some _ (at (page_owner_of (first_page kernel.size) kernel.page_entries) page) (no-owner kernel good no_page page) owned;
    pipes = λ page owned. no-some _ (at (page_owner_of (first_page kernel.size) kernel.page_entries) page) (no-owner kernel good no_page page) owned;
  },
  no-page-outside kernel good no_page (outside_trees kernel (named_by kernel.inodes)),
  λ node owned. untaken-node (entry_at kernel.node_entries node) (node-free kernel good no_node node) owned,
)
