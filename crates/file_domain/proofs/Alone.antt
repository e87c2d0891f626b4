-- The page of a pipe is named by its row alone: no key in a node names it.
use Rattle.std.proofs.Common.{◌≡◌, ◌≢◌, ◌⊎◌, ℕ, ◌+◌, ◌*◌, ◌-◌, ◌/◌, ◌%◌, ◌<◌, ◌≤◌, Bool, true, false, nat_lt, Option, Some, None, List, [], ◌∷◌, suc, length, get_or, refl, ap, sym, subst, ◌∙◌, arith, ⊎_elim}
use Rattle.std.specs.Prelude.{◌==◌, slice_index_or, cond}
use Rattle.std.specs.List.{count_by}
use Rattle.std.specs.Option.{is_some}
use Rattle.std.proofs.lemmas.Bool.{cases_eq, cases_lt, eq-eqb, lt-ltb, ne_eqb}
use Rattle.std.proofs.lemmas.List.Sums.{sum_by-cons}
use Rattle.kn_base.specs.declared.key.Key.{Key}
use Rattle.kn_base.specs.declared.key.Key.TheVariants.{Null, Number, Page, Node, Segment, Start, Resume, Domain, Meter, Service}
use Rattle.kn_base.specs.declared.key.PageId.{PageId}
use Rattle.kernel_tables.specs.declared.entry.Entry.{Entry}
use Rattle.kernel_tables.specs.declared.entry.Entry.TheVariants.{Free, Taken, Fixed, Unspelled}
use Rattle.kernel_tables.specs.declared.entry.NodeOwner.{NodeOwner}
use Rattle.kernel_tables.specs.declared.entry.NodeOwner.TheVariants.{Domain as DomainNode, Tree as TreeNode, FileTree}
use Rattle.kernel_tables.specs.declared.entry.PageOwner.{PageOwner}
use Rattle.kernel_tables.specs.declared.entry.PageOwner.TheVariants.{Buffer, Pipe as PipePage}
use Rattle.kernel_tables.specs.declared.inode.Inode.{Inode}
use Rattle.kernel_tables.specs.declared.row.Row.{Row}
use Rattle.kernel_tables.specs.declared.row.Row.TheVariants.{Free as RowFree, Used, Unspelled as RowUnspelled}
use Rattle.kernel_tables.specs.Kernel.{Kernel, first_page, inode_at}
use Rattle.kernel_tables.specs.Rows.{domain_rows, entry_at, key_table, of_domain, rows, spelled_or_null}
use Rattle.file_tables.specs.Roots.{page_roots, root_key}
use Rattle.space_bank.specs.Bank.{BankGood, IsTakenOnce}
use Rattle.space_bank.specs.Fixed.{IsRoomKey, IsSlotKey}
use Rattle.space_bank.specs.FreeList.{is_free_at, shares}
use Rattle.space_bank.specs.Shares.{key_names_page, page_in_hand, page_names, page_places}
use Rattle.domain.specs.Domains.{domains}
use Rattle.domain.specs.Keys.{is_meter, is_number, key_of_space, node_in, page_in, segment_in}
use Rattle.domain.specs.Rules.{RowsGood}
use Rattle.domain.proofs.FieldLaws.{root_buffer}
use Rattle.forest.specs.Forest.{Sound, masked}
use Rattle.forest.specs.Objects.{NodeObject, PageObject, named}
use Rattle.kernel_forest.specs.Owners.{owner_in, page_owner_of, page_owners}
use Rattle.kernel_forest.specs.Trees.{forest_of, owner_of}
use Rattle.kernel_forest.proofs.Bridge.{count_places}
use Rattle.kernel_forest.proofs.Owners.{owned-entry, owned-in-bank}
use Rattle.unix_model.specs.Tables.{at}
use Rattle.kernel_machine.specs.Held.{IsNodeOf, NodesHeld}
use Rattle.kernel_machine.specs.Invocations.{FixedBut}
use Rattle.kernel_machine.specs.Loose.{Loose, Nothing, Space, Tree, Ring, StandingBut, loose_key, outside_with, root_of}
use Rattle.kernel_machine.specs.Machine.{held as row_held, inodes_of}
use Rattle.kernel_machine.specs.Processes.{HoldingsGood}
use Rattle.kernel_machine.proofs.Counting.{count-never}
use Rattle.kernel_machine.proofs.LooseLaws.{loose-root}
use Rattle.kernel_machine.proofs.OwnerLaws.{owned-below, unowned-by}
use Rattle.kernel_machine.proofs.RootStands.{ring-real}
use Rattle.kernel_machine.proofs.StandingLaws.{meter-live}
use Rattle.file_domain.specs.Dropping.{IsNamedOnce}

-- ---- keys that name no page

no-page : (page : ℕ) (key : Key) → ((id : PageId) (writable : Bool) → key ≡ Page id writable → id.0 ≡ page → ⊥) → key_names_page page key ≡ false
no-page page Null not = refl
no-page page (Number body) not = refl
no-page page (Page id writable) not = ne_eqb id.0 page (λ same. not id writable refl same)
no-page page (Node node) not = refl
no-page page (Segment node height) not = refl
no-page page (Start root byte) not = refl
no-page page (Resume root count) not = refl
no-page page (Domain root) not = refl
no-page page (Meter slot) not = refl
no-page page (Service code) not = refl

null-names : (page : ℕ) (key : Key) → key ≡ Null → key_names_page page key ≡ false
null-names page key e = ap (key_names_page page) e

number-names : (page : ℕ) (key : Key) → is_number key ≡ true → key_names_page page key ≡ false
number-names page key number = no-page page key (λ id writable e same. let no : false ≡ true = sym (ap is_number e) ∙ number in cc)

meter-names : (page : ℕ) (key : Key) → is_meter key ≡ true → key_names_page page key ≡ false
meter-names page key meter = no-page page key (λ id writable e same. let no : false ≡ true = sym (ap is_meter e) ∙ meter in cc)

space-names : (page : ℕ) (space : Option ℕ) → key_names_page page (key_of_space space) ≡ false
space-names page None = refl
space-names page (Some space) = refl

node-names : (page : ℕ) (key : Key) → (node_in key ≡ None → key ≡ Null) → key_names_page page key ≡ false
node-names page key null = no-page page key (λ id writable e same. let no : Page id writable ≡ Null = sym e ∙ null (ap node_in e) in cc)

room-names : (page : ℕ) (there : Option Key) → IsRoomKey there → key_names_page page (spelled_or_null there) ≡ false
room-names page None is = absurd is
room-names page (Some key) is = no-page page key (λ id writable e same. subst (λ k. IsRoomKey (Some k)) e is)

slot-names : (page : ℕ) (there : Option Key) → IsSlotKey there → key_names_page page (spelled_or_null there) ≡ false
slot-names page None is = absurd is
slot-names page (Some key) is = no-page page key (λ id writable e same. subst (λ k. IsSlotKey (Some k)) e is)

module _ (kernel : Kernel) (page : ℕ) (owned : at (page_owners kernel) page ≡ Some PipePage) where
  -- ---- nodes of domains

  module _ (good : RowsGood (domain_rows kernel)) (holdings : HoldingsGood (domains kernel) (forest_of kernel) (page_owners kernel)) where
    -- a buffer is another page
    buffer-names : (root : ℕ) → is_meter (domain_rows kernel root 2) ≡ true → key_names_page page (domain_rows kernel root 5) ≡ false
    buffer-names root meter = no-page page (domain_rows kernel root 5) (λ id writable e same.
        let held : (at (domains kernel) root).buffer ≡ Some page = root_buffer (domain_rows kernel) root (meter-live (domain_rows kernel) root meter) ∙ ap page_in e ∙ ap Some same in
        let no : Some Buffer ≡ Some PipePage = sym (holdings.buffers root page held) ∙ owned in cc)

    root-names : (root place : ℕ) → is_meter (domain_rows kernel root 2) ≡ true → key_names_page page (domain_rows kernel root place) ≡ false
    root-names root place meter =
        let places = good.places root meter in
        let keys = good.roots root meter in
        let at_place = λ (n : ℕ) (e : place ≡ n) (is : key_names_page page (domain_rows kernel root n) ≡ false). ap (λ p. key_names_page page (domain_rows kernel root p)) e ∙ is in
        ⊎_elim (λ (e : place ≡ 0). at_place 0 e (ap (key_names_page page) keys.of_space ∙ space-names page (segment_in (domain_rows kernel root 0))))
        (λ (n0 : place ≢ 0). ⊎_elim (λ (e : place ≡ 1). at_place 1 e (ap (key_names_page page) places.keeper))
        (λ (n1 : place ≢ 1). ⊎_elim (λ (e : place ≡ 2). at_place 2 e (meter-names page (domain_rows kernel root 2) meter))
        (λ (n2 : place ≢ 2). ⊎_elim (λ (e : place ≡ 5). at_place 5 e (buffer-names root meter))
        (λ (n5 : place ≢ 5). ⊎_elim
        (λ (low : place < 5). node-names page (domain_rows kernel root place) (places.no_words place (omega arith) (omega arith)))
        (λ (high : 5 ≤ place). ⊎_elim
        (λ (low : place < 13). number-names page (domain_rows kernel root place) (keys.numbers place (omega arith) (omega arith)).number)
        (λ (past : 13 ≤ place). null-names page (domain_rows kernel root place) (places.blank place past))
        (cases_lt place 13))
        (cases_lt place 5))
        (cases_eq place 5))
        (cases_eq place 2))
        (cases_eq place 1))
        (cases_eq place 0)

    word-names : (root i node place : ℕ) → node_in (domain_rows kernel root i) ≡ Some node → key_names_page page (domain_rows kernel node place) ≡ false
    word-names root i node place e = ⊎_elim
        (λ (low : place < 11). number-names page (domain_rows kernel node place) (good.plain root i node place e low))
        (λ (past : 11 ≤ place). null-names page (domain_rows kernel node place) (good.blank root i node place e past))
        (cases_lt place 11)

    pub domain-names : (node place : ℕ) → (root : ℕ) × IsNodeOf (domain_rows kernel) root node → key_names_page page (domain_rows kernel node place) ≡ false
    domain-names node place h = ⊎_elim
        (λ (same : h.0 ≡ node). ap (λ n. key_names_page page (domain_rows kernel n place)) (sym same) ∙ root-names h.0 place h.1.0)
        (λ (more : (node_in (domain_rows kernel h.0 3) ≡ Some node) ⊎ (node_in (domain_rows kernel h.0 4) ≡ Some node)). ⊎_elim
        (λ (e : node_in (domain_rows kernel h.0 3) ≡ Some node). word-names h.0 3 node place e)
        (λ (e : node_in (domain_rows kernel h.0 4) ≡ Some node). word-names h.0 4 node place e)
        more)
        h.1.1

  -- ---- nodes of trees

  module _ (sound : Sound (forest_of kernel)) where
    tree-key : (place : ℕ) → is_some ((forest_of kernel).owner (NodeObject (place / 16))) ≡ true → key_names_page page (key_table kernel.keys place) ≡ false
    unfolding masked at
    tree-key place some = no-page page (key_table kernel.keys place) (λ id writable e same.
        let here : (forest_of kernel).keys place ≡ Page id writable = rw some e in
        let real : id.0 ≢ 0 = λ zero. ring-real kernel page owned (sym same ∙ zero) in
        let its : named ((forest_of kernel).keys place) ≡ Some (PageObject page) = ap named here ∙ rw (ne_eqb id.0 0 real) (ap (λ n. Some (PageObject n)) same) in
        let none : (forest_of kernel).owner (NodeObject (place / 16)) ≡ None = sym (sound.owned place (PageObject page) its) ∙ unowned-by kernel page PipePage owned refl in
        let no : true ≡ false = sym some ∙ ap is_some none in cc)

  -- ---- fixed nodes

  module _ (apart : List ℕ) (fixed : FixedBut kernel apart) where
    spelled : (place n : ℕ) → place ≡ n → (key : Key) → slice_index_or kernel.keys n None ≡ Some key → key_names_page page key ≡ false → key_names_page page (key_table kernel.keys place) ≡ false
    unfolding key_table
    spelled place n e key is none = ap (λ p. key_names_page page (spelled_or_null (slice_index_or kernel.keys p None))) e ∙ ap (λ there. key_names_page page (spelled_or_null there)) is ∙ none

    service-names : (place service digit : ℕ) → 1 ≤ service → service ≤ 6 → digit < 16 → place ≡ 16 * service + digit → key_names_page page (key_table kernel.keys place) ≡ false
    service-names place service digit least most low e =
        let root = fixed.services service least most in
        ⊎_elim
        (λ (t : digit ≡ 0). spelled place (16 * service + 0) (omega arith) _ root.own_key refl)
        (λ (d : digit ≢ 0). ⊎_elim
        (λ (t : digit ≡ 6). spelled place (16 * service + 6) (omega arith) _ root.life refl)
        (λ (n : digit ≢ 6). spelled place (16 * service + digit) e Null (root.others digit low d n) refl)
        (cases_eq digit 6))
        (cases_eq digit 0)

    pub fixed-names : (place : ℕ) → place < 240 → key_names_page page (key_table kernel.keys place) ≡ false
    unfolding key_table
    fixed-names place below = ⊎_elim
        (λ (t : place < 16). spelled place (16 * 0 + place) (omega arith) Null (fixed.null_node place t) refl)
        (λ (one : 16 ≤ place). ⊎_elim
        (λ (t : place < 112). service-names place (place / 16) (place % 16) (omega arith) (omega arith) (omega arith) (omega arith))
        (λ (seven : 112 ≤ place). ⊎_elim
        (λ (t : place < 176).
        let e : 16 * 7 + (place - 112) ≡ place = omega arith in
        ap (λ p. key_names_page page (spelled_or_null (slice_index_or kernel.keys p None))) (sym e) ∙ room-names page (slice_index_or kernel.keys (16 * 7 + (place - 112)) None) (fixed.room (place - 112) (omega arith)))
        (λ (eleven : 176 ≤ place).
        let e : 16 * 11 + (place - 176) ≡ place = omega arith in
        ap (λ p. key_names_page page (spelled_or_null (slice_index_or kernel.keys p None))) (sym e) ∙ slot-names page (slice_index_or kernel.keys (16 * 11 + (place - 176)) None) (fixed.slots (place - 176) (omega arith)))
        (cases_lt place 176))
        (cases_lt place 112))
        (cases_lt place 16)

  -- ---- any node

  module _ (bank : BankGood kernel) (sound : Sound (forest_of kernel)) (good : RowsGood (domain_rows kernel)) (holdings : HoldingsGood (domains kernel) (forest_of kernel) (page_owners kernel))
      (held : NodesHeld (domain_rows kernel) kernel.node_entries) (apart : List ℕ) (fixed : FixedBut kernel apart) where
    by-entry : (place : ℕ) (entry : Entry NodeOwner) → place < length kernel.keys → entry_at kernel.node_entries (place / 16) ≡ entry → key_names_page page (key_table kernel.keys place) ≡ false
    unfolding rows key_table owner_of
    by-entry place (Free next) below e =
        let all = bank.nodes.all_keys in
        let there : nat_lt (place / 16) kernel.nodes ≡ true = lt-ltb (place / 16) kernel.nodes (omega arith) in
        let free : is_free_at kernel.nodes kernel.node_entries (place / 16) ≡ true = rw (there, e) refl in
        let null = bank.nodes.nulls (place / 16) (place % 16) free (omega arith) in
        let same : 16 * (place / 16) + place % 16 ≡ place = omega arith in
        ap (λ p. key_names_page page (spelled_or_null (slice_index_or kernel.keys p None))) (sym same) ∙ ap (λ there. key_names_page page (spelled_or_null there)) null
    by-entry place (Taken DomainNode count) below e =
        let same : 16 * (place / 16) + place % 16 ≡ place = omega arith in
        let low : nat_lt (place % 16) 16 ≡ true = lt-ltb (place % 16) 16 (omega arith) in
        let here : domain_rows kernel (place / 16) (place % 16) ≡ key_table kernel.keys place = rw (e, low, same) refl in
        ap (key_names_page page) (sym here) ∙ domain-names good holdings (place / 16) (place % 16) (held (place / 16) (ap of_domain e))
    by-entry place (Taken TreeNode count) below e = tree-key sound place (rw e refl)
    by-entry place (Taken FileTree count) below e = tree-key sound place (rw e refl)
    by-entry place Fixed below e =
        let all = bank.nodes.all_keys in
        ⊎_elim
        (λ (t : place / 16 < 15). fixed-names apart fixed place (omega arith))
        (λ (t : 15 ≤ place / 16). absurd (bank.nodes.others (place / 16) t (omega arith) e))
        (cases_lt (place / 16) 15)
    by-entry place Unspelled below e = let all = bank.nodes.all_keys in absurd (bank.nodes.entries_good.spelled (place / 16) (omega arith) e)

    pub in_no_node : page_places kernel.keys page ≡ 0
    unfolding page_places
    in_no_node =
        count_places (key_names_page page) kernel.keys refl
        ∙ count-never (λ p. key_names_page page (key_table kernel.keys p)) (length kernel.keys) (λ place below. by-entry place (entry_at kernel.node_entries (place / 16)) below refl)

-- ---- rows of inodes

loose-names : (page : ℕ) (loose : Loose) → (loose ≡ Ring page → ⊥) → key_names_page page (loose_key loose) ≡ false
loose-names page Nothing not = refl
loose-names page (Space space) not = refl
loose-names page (Tree root) not = refl
loose-names page (Ring other) not = ne_eqb other page (λ same. not (ap Ring same))

counted-none : {X : Type 0} (test : X → Bool) (xs : List X) (d : X) → ((n : ℕ) → n < length xs → test (get_or xs n d) ≡ false) → count_by test xs ≡ 0
counted-none test [] d none = refl
counted-none test (x ∷ xs) d none =
    let first : cond {A = ℕ} (test x) 1 0 ≡ 0 = ap (λ b. cond {A = ℕ} b 1 0) (none 0 (omega arith)) in
    let rest = counted-none test xs d (λ n below. none (suc n) (omega arith)) in
    omega (arith, sum_by-cons (λ y. cond {A = ℕ} (test y) 1 0) x xs)

-- a taken page that is counted once
once-by : (entry : Entry PageOwner) → owner_in entry ≡ Some PipePage → shares entry ≡ 1 → IsTakenOnce entry
once-by (Free next) owned one = cc
once-by (Taken owner count) owned one = one
once-by Fixed owned one = cc
once-by Unspelled owned one = cc

-- a loose page of a pipe is named once: by what has it
module _ (kernel : Kernel) (page : ℕ) (apart : List ℕ) (standing : StandingBut kernel (Ring page)) (fixed : FixedBut kernel apart) where
  owned : at (page_owners kernel) page ≡ Some PipePage
  owned = standing.is_loose.taken

  no-row : page_roots kernel.inodes page ≡ 0
  unfolding page_roots inodes_of at
  no-row = counted-none (λ row. key_names_page page (root_key row)) kernel.inodes RowUnspelled (λ n below.
      ap (key_names_page page) (sym (loose-root (inode_at kernel n))) ∙ loose-names page (root_of (inode_at kernel n)) (λ same. used n (inode_at kernel n) refl same))
    where
      used : (n : ℕ) (row : Row Inode) → inode_at kernel n ≡ row → root_of row ≡ Ring page → ⊥
      used n RowFree e same = cc
      used n (Used inode) e same = let no : Ring page ≡ Nothing = standing.is_loose.no_root n inode (ap row_held e) same in cc
      used n RowUnspelled e same = cc

  pub ring_once : IsNamedOnce kernel page
  unfolding page_owner_of at page_in_hand
  ring_once =
      let low = owned-in-bank kernel page PipePage owned in
      let below = owned-below kernel page PipePage standing.bank owned in
      let number : first_page kernel.size + (page - first_page kernel.size) ≡ page = omega arith in
      let agreed = standing.trees.shares.of_pages.agree (page - first_page kernel.size) (omega arith) below in
      let names = ap (page_names kernel.keys (outside_with kernel (Ring page)) []) number in
      let places = in_no_node kernel page owned standing.bank standing.trees.held.sound standing.rows standing.holdings standing.nodes_held apart fixed in
      let rows = no-row in
      let mine : cond {A = ℕ} (page == page) 1 0 ≡ 1 = ap (λ b. cond {A = ℕ} b 1 0) (eq-eqb page page refl) in
      once-by (entry_at kernel.page_entries (page - first_page kernel.size)) (owned-entry kernel page PipePage owned) (agreed ∙ names ∙ omega arith)
