-- What the tables of an empty bank are, with a page promised.
use Rattle.std.proofs.Common.{◌≡◌, ◌≢◌, ◌<◌, ◌≤◌, ◌+◌, ◌*◌, ◌/◌, ◌%◌, ℕ, zero, suc, Some, None, true, false, nat_lt, List, [], ◌∷◌, length, replicate, refl, sym, ap, ◌∙◌, arith, ⊎_elim}
use Rattle.std.specs.Option.{IsSome}
use Rattle.std.specs.List.{sum_by}
use Rattle.std.proofs.Math.Path.{fun_ext}
use Rattle.std.proofs.lemmas.Bool.{cases_eq, cases_lt, cases_Bool, ltb-true}
use Rattle.std.proofs.lemmas.List.{length-replicate, length-set, get_or_past}
use Rattle.std.proofs.lemmas.List.Sums.{sum_by-cons}
use Rattle.kn_base.specs.declared.key.Key.TheVariants.{Null}
use Rattle.kn_base.specs.Memory.{zero_page}
use Rattle.kernel_tables.specs.declared.entry.Entry.{Entry}
use Rattle.kernel_tables.specs.declared.entry.Entry.TheVariants.{Free, Taken, Fixed, Unspelled}
use Rattle.kernel_tables.specs.declared.entry.NodeOwner.{NodeOwner}
use Rattle.kernel_tables.specs.declared.row.Row.TheVariants.{Unspelled as UnspelledRow}
use Rattle.kernel_tables.specs.Kernel.{Kernel, zero_kernel}
use Rattle.kernel_tables.specs.Rows.{entry_at, fixed_rows, domain_rows, key_table, spelled_or_null}
use Rattle.space_bank.specs.Fixed.{console_inode, empty_root}
use Rattle.space_bank.specs.FreeList.{taken_one, taken_count}
use Rattle.space_bank.specs.Setup.{empty_bank}
use Rattle.space_bank.specs.Shares.{nothing_outside}
use Rattle.file_tables.specs.Roots.{named_by}
use Rattle.file_tables.proofs.FreshLaws.{fresh_nothing}
use Rattle.kernel_forest.specs.Trees.{TreesGood, tree_in, node_tree}
use Rattle.kernel_forest.proofs.Empty.{untaken_good}
use Rattle.unix_model.specs.Tables.{with_at, nothing}
use Rattle.domain.specs.Domains.{no_domain, domains, domain_at, roots, roots_by}
use Rattle.domain.specs.Keys.{is_meter, root_in}
use Rattle.domain.specs.Rules.{RowsGood}
use Rattle.domain.proofs.RowLaws.{here_at, other_at}
use Rattle.domain.proofs.Untaken.{untaken_rows}
use Rattle.domain.proofs.Writing.{fixed_key, root_mine}
use Rattle.kernel_machine.specs.Machine.{inodes_of, descriptions_of, held}
use Rattle.kernel_machine.proofs.UntakenLaws.{none-taken, untaken-node}
use Rattle.kernel_machine.proofs.ViewLaws.{changed_at}
use Rattle.first_machine.specs.First.{promised_bank, Begins}

-- ---- counts

-- where one object is taken, any two taken ones are one
pub one-taken : {O : Type 0} (entries : List (Entry O)) (a b : ℕ) → sum_by taken_one entries ≡ 1 → taken_one (entry_at entries a) ≡ 1 → taken_one (entry_at entries b) ≡ 1 → a ≡ b
one-taken [] a b e x y = absurd (omega arith)
one-taken (entry ∷ entries) zero zero e x y = refl
one-taken (entry ∷ entries) zero (suc b) e x y = absurd (omega (arith, none-taken entries b (omega (arith, sum_by-cons taken_one entry entries)), y))
one-taken (entry ∷ entries) (suc a) zero e x y = absurd (omega (arith, none-taken entries a (omega (arith, sum_by-cons taken_one entry entries)), x))
one-taken (entry ∷ entries) (suc a) (suc b) e x y = ⊎_elim
    (λ (same : sum_by taken_one entries ≡ 1). ap suc (one-taken entries a b same x y))
    (λ (none : sum_by taken_one entries ≢ 1). absurd (omega (arith, none-taken entries a (omega (arith, sum_by-cons taken_one entry entries)), x)))
    (cases_eq (sum_by taken_one entries) 1)

-- a node of a tree is taken
pub tree-taken : (entry : Entry NodeOwner) → IsSome (tree_in node_tree entry) → taken_one entry ≡ 1
tree-taken (Free next) some = cc
tree-taken (Taken owner count) some = refl
tree-taken Fixed some = cc
tree-taken Unspelled some = cc

-- ---- the tables

module _ (pages quantum : ℕ) (kernel : Kernel) (begins : Begins pages quantum kernel) where
  pub no-page : kernel.machine.pages_taken ≡ 0
  unfolding promised_bank empty_bank
  no-page = ap (λ (k : Kernel). k.machine.pages_taken) begins.is

  pub no-node : kernel.machine.nodes_taken ≡ 0
  unfolding promised_bank empty_bank
  no-node = ap (λ (k : Kernel). k.machine.nodes_taken) begins.is

  pub one-promised : kernel.machine.promised ≡ 1
  unfolding promised_bank
  one-promised = ap (λ (k : Kernel). k.machine.promised) begins.is

  pub next-is : kernel.machine.next_pid ≡ 2
  unfolding promised_bank
  next-is = ap (λ (k : Kernel). k.machine.next_pid) begins.is

  pub pages-are : kernel.machine.size ≡ pages
  unfolding promised_bank empty_bank
  pages-are = ap (λ (k : Kernel). k.machine.size) begins.is

  pub quantum-is : kernel.machine.quantum ≡ quantum
  unfolding promised_bank empty_bank
  quantum-is = ap (λ (k : Kernel). k.machine.quantum) begins.is

  pub position-is : kernel.machine.position ≡ 0
  unfolding promised_bank empty_bank
  position-is = ap (λ (k : Kernel). k.machine.position) begins.is

  pub many-nodes : kernel.nodes ≡ 4 * pages + 1296
  unfolding promised_bank empty_bank zero_kernel
  many-nodes = ap (λ (k : Kernel). k.nodes) begins.is

  pub bank-is : kernel.bank ≡ replicate pages zero_page
  unfolding promised_bank empty_bank zero_kernel
  bank-is = ap (λ (k : Kernel). k.bank) begins.is

  many-inodes : length kernel.inodes ≡ 1024
  unfolding promised_bank empty_bank
  many-inodes = ap (λ (k : Kernel). length k.inodes) begins.is ∙ grind (arith, length-set, length-replicate)

  many-descriptions : length kernel.descriptions ≡ 2048
  unfolding promised_bank empty_bank zero_kernel
  many-descriptions = ap (λ (k : Kernel). length k.descriptions) begins.is ∙ grind (arith, length-replicate)

  pub trees-good : TreesGood kernel nothing_outside []
  trees-good = untaken_good kernel nothing_outside begins.good no-page no-node begins.shares

  pub nothing-named : named_by kernel.inodes ≡ nothing_outside
  nothing-named = fresh_nothing kernel.inodes kernel.descriptions many-inodes begins.files

  pub rows-good : RowsGood (domain_rows kernel)
  rows-good = untaken_rows kernel begins.good no-node

  node-free : (n : ℕ) → taken_one (entry_at kernel.node_entries n) ≡ 0
  unfolding taken_count
  node-free n = none-taken kernel.node_entries n (sym begins.good.nodes.entries_good.number ∙ no-node)

  -- nothing is the root of a domain
  pub no-domains : domains kernel ≡ (λ root. no_domain)
  unfolding domain_at
  no-domains = fun_ext (λ root. ⊎_elim
      (λ (t : is_meter (domain_rows kernel root 2) ≡ true). untaken-node (entry_at kernel.node_entries root) (node-free root) (root_mine kernel root t))
      (λ (t : is_meter (domain_rows kernel root 2) ≡ false). rw t refl)
      (cases_Bool (is_meter (domain_rows kernel root 2))))

  -- the keys of the resume room and of the slot table are Null
  row-null : (node place : ℕ) → node < 15 → place < 16 → key_table kernel.keys (16 * node + place) ≡ Null → fixed_rows kernel node place ≡ Null
  row-null node place few low null = sym (fixed_key kernel node place begins.good few low) ∙ null

  pub room-null : (slot : ℕ) → slot < 64 → fixed_rows kernel (7 + slot / 16) (slot % 16) ≡ Null
  unfolding key_table
  room-null slot low =
      let e : 16 * (7 + slot / 16) + slot % 16 ≡ 16 * 7 + slot = omega arith in
      row-null (7 + slot / 16) (slot % 16) (omega arith) (omega arith) (ap (key_table kernel.keys) e ∙ ap spelled_or_null (begins.nodes.room slot low))

  pub slot-null : (slot : ℕ) → slot < 64 → fixed_rows kernel (11 + slot / 16) (slot % 16) ≡ Null
  unfolding key_table
  slot-null slot low =
      let e : 16 * (11 + slot / 16) + slot % 16 ≡ 16 * 11 + slot = omega arith in
      row-null (11 + slot / 16) (slot % 16) (omega arith) (omega arith) (ap (key_table kernel.keys) e ∙ ap spelled_or_null (begins.nodes.slots slot low))

  pub no-roots : roots kernel ≡ nothing
  unfolding roots_by nothing
  no-roots = fun_ext (λ slot. ⊎_elim
      (λ (t : nat_lt slot 64 ≡ true). rw t (ap root_in (slot-null slot (ltb-true slot 64 t))))
      (λ (t : nat_lt slot 64 ≡ false). rw t refl)
      (cases_Bool (nat_lt slot 64)))

  -- the inodes are the console and the empty root, ..
  no-inode : (number : ℕ) → 2 ≤ number → inodes_of kernel number ≡ None
  unfolding inodes_of
  no-inode number past = ⊎_elim
      (λ (t : number < 1024). ap held (begins.files.free_inodes number past t))
      (λ (t : 1024 ≤ number). ap held (get_or_past kernel.inodes number UnspelledRow (omega (arith, many-inodes))))
      (cases_lt number 1024)

  first-inode : (number : ℕ) → number ≢ 1 → inodes_of kernel number ≡ with_at nothing 0 (Some console_inode) number
  unfolding inodes_of nothing
  first-inode number apart = ⊎_elim
      (λ (t : number ≡ 0). ap (inodes_of kernel) t ∙ ap held begins.files.console ∙ sym (ap (with_at nothing 0 (Some console_inode)) t ∙ here_at nothing 0 (Some console_inode)))
      (λ (t : number ≢ 0). no-inode number (omega arith) ∙ sym (other_at nothing 0 number (Some console_inode) t))
      (cases_eq number 0)

  pub inodes-are : inodes_of kernel ≡ with_at (with_at nothing 0 (Some console_inode)) 1 (Some empty_root)
  unfolding inodes_of
  inodes-are = changed_at (with_at nothing 0 (Some console_inode)) (inodes_of kernel) 1 (Some empty_root) (ap held begins.files.root) first-inode

  -- .. and no description is open
  pub no-descriptions : descriptions_of kernel ≡ nothing
  unfolding descriptions_of nothing
  no-descriptions = fun_ext (λ number. ⊎_elim
      (λ (t : number < 2048). ap held (begins.files.free_descriptions number t))
      (λ (t : 2048 ≤ number). ap held (get_or_past kernel.descriptions number UnspelledRow (omega (arith, many-descriptions))))
      (cases_lt number 2048))
