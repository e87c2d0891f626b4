-- An empty bank keeps all that a bank keeps.
use Rattle.std.proofs.Common.{◌≡◌, ℕ, zero, suc, ◌+◌, ◌-◌, ◌*◌, ◌%◌, ◌<◌, ◌≤◌, ◌&&◌, true, false, nat_lt, Option, Some, None, List, [], ◌++◌, map, length, set, replicate, refl, ap, sym, subst, ◌∙◌, ⊎_elim, arith, rules}
use Rattle.std.proofs.Math.Bool.{and-false}
use Rattle.std.proofs.lemmas.Bool.{and_parts, cases_lt, ltb-true}
use Rattle.std.proofs.lemmas.List.{places, same_lists, length-append, length-replicate, length-set, get_or-replicate, get_or_append_left, get_or-append_right, get_or_past, get_or-set_other}
use Rattle.std.proofs.lemmas.List.FromFn.{length-map-range_with_len, get_or-map-range_with_len}
use Rattle.std.proofs.lemmas.List.Folds.{sum_by-replicate}
use Rattle.std.proofs.lemmas.List.Sums.{sum_by-append, sum_by-cons}
use Rattle.std.specs.Option.{IsSome}
use Rattle.std.specs.List.{range_with_len, sum_by}
use Rattle.kn_base.specs.declared.key.Key.{Key}
use Rattle.kn_base.specs.declared.key.Key.TheVariants.{Null, Service}
use Rattle.kn_base.specs.Memory.{zero_page}
use Rattle.kn_base.specs.Rows.{overwritten}
use Rattle.kn_base.proofs.RowLaws.{overwritten-none, length-overwritten}
use Rattle.kernel_tables.specs.declared.entry.PageOwner.{PageOwner}
use Rattle.kernel_tables.specs.declared.entry.NodeOwner.{NodeOwner}
use Rattle.kernel_tables.specs.declared.entry.Entry.{Entry}
use Rattle.kernel_tables.specs.declared.entry.Entry.TheVariants.{Free, Fixed, Unspelled}
use Rattle.kernel_tables.specs.Kernel.{Kernel, zero_kernel, first_page, entry_pages, node_count}
use Rattle.kernel_tables.specs.declared.row.Row.TheVariants.{Used}
use Rattle.space_bank.specs.Fixed.{state_key, console_inode, empty_root}
use Rattle.kernel_tables.specs.Rows.{entry_at}
use Rattle.space_bank.specs.FreeList.{is_free, is_free_at, taken_one, shares, following, Linked, taken_count}
use Rattle.space_bank.specs.Bank.{AllSpelled, BankGood, EntriesGood, PagesGood, NodesGood, memory_count, memory_taken_one}
use Rattle.space_bank.specs.Shares.{Shares, NoneNamed, nothing_outside, key_names_page, key_names_node, page_places, node_places, page_in_hand, node_in_hand}
use Rattle.space_bank.specs.Setup.{free_entries, empty_entries, with_service_roots, empty_bank}
use Rattle.space_bank.proofs.SetupLaws.{linked-free_list}
use Rattle.space_bank.proofs.FreshLaws.{length-with_service_roots, key-above, unnamed-fresh}
use Rattle.space_bank.proofs.BankLaws.{first_page-some}
use Rattle.space_bank.proofs.EntryLaws.{spelled_with}

length-free_entries : (O : Type 0) (base count start n : ℕ) → length (free_entries {O = O} base count start n) ≡ n
unfolding free_entries
length-free_entries O base count start n =
    length-map-range_with_len (λ (k : ℕ). let entry : Entry O = Free (following base count k) in entry) start n

pub length-empty_entries : (O : Type 0) (base count fixed : ℕ) → fixed ≤ count → length (empty_entries {O = O} base count fixed) ≡ 512 * entry_pages count
unfolding empty_entries
length-empty_entries O base count fixed few =
    let front : List (Entry O) = replicate fixed Fixed in
    let middle : List (Entry O) = free_entries base count fixed (count - fixed) in
    let behind : List (Entry O) = replicate (512 * entry_pages count - count) (Free 0) in
    let a = length-append front (middle ++ behind) in
    let b = length-append middle behind in
    let c : length front ≡ fixed = length-replicate fixed Fixed in
    let d : length middle ≡ count - fixed = length-free_entries O base count fixed (count - fixed) in
    let e : length behind ≡ 512 * entry_pages count - count = length-replicate (512 * entry_pages count - count) (Free 0) in
    omega arith

pub empty-fixed : (O : Type 0) (base count fixed n : ℕ) → n < fixed → entry_at (empty_entries {O = O} base count fixed) n ≡ Fixed
unfolding empty_entries
empty-fixed O base count fixed n low =
    let front : List (Entry O) = replicate fixed Fixed in
    let middle : List (Entry O) = free_entries base count fixed (count - fixed) in
    let behind : List (Entry O) = replicate (512 * entry_pages count - count) (Free 0) in
    let c : length front ≡ fixed = length-replicate fixed Fixed in
    get_or_append_left front (middle ++ behind) Unspelled n (omega arith) ∙ get_or-replicate fixed n Fixed Unspelled low

empty-linked : (O : Type 0) (base count fixed : ℕ) → Linked (empty_entries {O = O} base count fixed) base count fixed count
unfolding empty_entries free_entries
empty-linked O base count fixed n low high =
    let link = λ (k : ℕ). let entry : Entry O = Free (following base count k) in entry in
    let front : List (Entry O) = replicate fixed Fixed in
    let middle : List (Entry O) = map link (range_with_len fixed (count - fixed)) in
    let behind : List (Entry O) = replicate (512 * entry_pages count - count) (Free 0) in
    let c : length front ≡ fixed = length-replicate fixed Fixed in
    let d : length middle ≡ count - fixed = length-map-range_with_len link fixed (count - fixed) in
    get_or-append_right front (middle ++ behind) fixed n Unspelled c low
    ∙ get_or_append_left middle behind Unspelled (n - fixed) (omega arith)
    ∙ get_or-map-range_with_len link fixed (count - fixed) (n - fixed) n Unspelled (omega arith) (omega arith)

empty-behind : (O : Type 0) (base count fixed n : ℕ) → fixed ≤ count → count ≤ n → n < 512 * entry_pages count → entry_at (empty_entries {O = O} base count fixed) n ≡ Free 0
unfolding empty_entries
empty-behind O base count fixed n few past inside =
    let front : List (Entry O) = replicate fixed Fixed in
    let middle : List (Entry O) = free_entries base count fixed (count - fixed) in
    let rows : ℕ = 512 * entry_pages count in
    let behind : List (Entry O) = replicate (rows - count) (Free 0) in
    let c : length front ≡ fixed = length-replicate fixed Fixed in
    let d : length middle ≡ count - fixed = length-free_entries O base count fixed (count - fixed) in
    let low : fixed ≤ n = omega arith in
    let under : count - fixed ≤ n - fixed = omega arith in
    let place : n - fixed - (count - fixed) < rows - count = omega arith in
    get_or-append_right front (middle ++ behind) fixed n Unspelled c low
    ∙ get_or-append_right middle behind (count - fixed) (n - fixed) Unspelled d under
    ∙ get_or-replicate (rows - count) (n - fixed - (count - fixed)) (Free 0) Unspelled place

-- an entry of an empty bank is fixed, or free, or isn't there
empty_cases : {O : Type 0} (P : Entry O → Type 0) (base count fixed : ℕ) → fixed ≤ count → P Fixed → ((next : ℕ) → P (Free next)) → P Unspelled → (n : ℕ) → P (entry_at (empty_entries base count fixed) n)
empty_cases {O} P base count fixed few is_fixed free absent n =
    ⊎_elim (λ (low : n < fixed). subst P (sym (empty-fixed O base count fixed n low)) is_fixed)
    (λ (past : fixed ≤ n).
    ⊎_elim
    (λ (inside : n < count).
    subst P (sym (empty-linked O base count fixed n past inside)) (free (following base count n)))
    (λ (behind : count ≤ n).
    ⊎_elim
    (λ (row : n < 512 * entry_pages count). subst P (sym (empty-behind O base count fixed n few behind row)) (free 0))
    (λ (out : 512 * entry_pages count ≤ n).
    let all : length (empty_entries {O = O} base count fixed) ≡ 512 * entry_pages count = length-empty_entries O base count fixed few in
    subst P (sym (get_or_past (empty_entries base count fixed) n Unspelled (omega arith))) absent)
    (cases_lt n (512 * entry_pages count)))
    (cases_lt n count))
    (cases_lt n fixed)

-- nothing is counted where no entry is taken
sum-free : {O : Type 0} (g : Entry O → ℕ) → ((next : ℕ) → g (Free next) ≡ 0) → (base count start n : ℕ) → sum_by g (free_entries base count start n) ≡ 0
unfolding free_entries
sum-free g none base count start zero = refl
sum-free {O} g none base count start (suc n) =
    sum_by-cons g (Free (following base count start)) (free_entries base count (start + 1) n)
    ∙ omega (arith, none (following base count start), sum-free g none base count (start + 1) n)

sum-empty : {O : Type 0} (g : Entry O → ℕ) → g Fixed ≡ 0 → ((next : ℕ) → g (Free next) ≡ 0) → (base count fixed : ℕ) → sum_by g (empty_entries base count fixed) ≡ 0
unfolding empty_entries
sum-empty {O} g is_fixed none base count fixed =
    let front : List (Entry O) = replicate fixed Fixed in
    let middle : List (Entry O) = free_entries base count fixed (count - fixed) in
    let rows : ℕ = 512 * entry_pages count - count in
    let behind : List (Entry O) = replicate rows (Free 0) in
    let a = sum_by-append g front (middle ++ behind) in
    let b = sum_by-append g middle behind in
    let c : sum_by g front ≡ fixed * 0 = sum_by-replicate g fixed Fixed ∙ ap (λ k. fixed * k) is_fixed in
    let d : sum_by g middle ≡ 0 = sum-free g none base count fixed (count - fixed) in
    let e : sum_by g behind ≡ rows * 0 = sum_by-replicate g rows (Free 0) ∙ ap (λ k. rows * k) (none 0) in
    omega arith

pub taken_count-empty : (O : Type 0) (base count fixed : ℕ) → taken_count (empty_entries {O = O} base count fixed) ≡ 0
unfolding taken_count
taken_count-empty O base count fixed = sum-empty (taken_one {O = O}) refl (λ next. refl) base count fixed

pub memory_count-empty : (base count fixed : ℕ) → memory_count (empty_entries base count fixed) ≡ 0
unfolding memory_count
memory_count-empty base count fixed = sum-empty memory_taken_one refl (λ next. refl) base count fixed

empty-used : (O : Type 0) (base count fixed n : ℕ) → n < fixed → is_free (entry_at (empty_entries {O = O} base count fixed) n) ≡ false
empty-used O base count fixed n low = ap is_free (empty-fixed O base count fixed n low)

pub entries_good-empty : (O : Type 0) (base count fixed : ℕ) → 0 < base + fixed → fixed < count → EntriesGood (empty_entries {O = O} base count fixed) base count (base + fixed) 0
entries_good-empty O base count fixed some few =
    let entries : List (Entry O) = empty_entries base count fixed in
    let most : fixed ≤ count = omega arith in
    let all : length entries ≡ 512 * entry_pages count = length-empty_entries O base count fixed most in
    record {
      rows = all;
      spelled =
          λ n inside.
          ⊎_elim
          (λ (low : n < fixed) e. let no : Fixed ≡ Unspelled = sym (empty-fixed O base count fixed n low) ∙ e in cc)
          (λ (past : fixed ≤ n) e.
          let no : Free (following base count n) ≡ Unspelled = sym (empty-linked O base count fixed n past inside) ∙ e in cc)
          (cases_lt n fixed);
      free = linked-free_list entries base count fixed some few (empty-used O base count fixed) (empty-linked O base count fixed);
      number = sym (taken_count-empty O base count fixed);
      named =
          empty_cases (λ e. taken_one e ≤ shares e) base count fixed most (omega arith) (λ next. omega arith) (omega arith);
      unused = λ n past row. empty-behind O base count fixed n most past (omega arith);
    }

free_inside : {O : Type 0} (count : ℕ) (entries : List (Entry O)) (n : ℕ) → is_free_at count entries n ≡ true → n < count
free_inside count entries n free =
    ltb-true n count (and_parts (nat_lt n count) (is_free (entry_at entries n)) free).0

pages_good-empty : (size : ℕ) → 64 ≤ size → PagesGood size (empty_entries (first_page size) size 0) (first_page size) 0 0 (replicate size zero_page)
pages_good-empty size some =
    let entries : List (Entry PageOwner) = empty_entries (first_page size) size 0 in
    let first : first_page size + 0 ≡ first_page size = omega arith in
    let behind = first_page-some size in
    record {
      entries_good =
          subst (λ (k : ℕ). EntriesGood entries (first_page size) size k 0) first
          (entries_good-empty PageOwner (first_page size) size 0 (omega arith) (omega arith));
      none_fixed =
          λ n inside e.
          let no : Free (following (first_page size) size n) ≡ Fixed = sym (empty-linked PageOwner (first_page size) size 0 n (omega arith) inside) ∙ e in cc;
      memory_number = sym (memory_count-empty (first_page size) size 0);
      pages = length-replicate size zero_page;
      zeros = λ n free. get_or-replicate size n zero_page [] (free_inside size entries n free);
    }

-- all keys of an empty bank are spelled
spelled-roots : (keys : List (Option Key)) (n : ℕ) → 16 * n + 16 ≤ length keys → AllSpelled keys → AllSpelled (with_service_roots keys n)
unfolding with_service_roots
spelled-roots keys zero fits spelled = spelled
spelled-roots keys (suc n) fits spelled =
    let before = with_service_roots keys n in
    let own : List (Option Key) = set before (16 * (n + 1)) (Some (Service (n + 1))) in
    let sizes : length before ≡ length keys = length-with_service_roots keys n in
    let longer : length own ≡ length before = length-set before (16 * (n + 1)) (Some (Service (n + 1))) in
    spelled_with own (16 * (n + 1) + 6) (state_key 0 0) (omega arith)
    (spelled_with before (16 * (n + 1)) (Service (n + 1)) (omega arith) (spelled-roots keys n (omega arith) spelled))

spelled-nulls : (count : ℕ) → AllSpelled (replicate count (Some Null))
spelled-nulls count place low =
    subst (λ (k : Option Key). IsSome k)
    (sym (get_or-replicate {A = Option Key} count place (Some Null) None (omega (arith, length-replicate {A = Option Key} count (Some Null))))) refl

nodes_good-empty : (nodes : ℕ) → 16 ≤ nodes → NodesGood nodes (empty_entries 0 nodes 15) 15 0 (with_service_roots (replicate (16 * nodes) (Some Null)) 6)
nodes_good-empty nodes some =
    let entries : List (Entry NodeOwner) = empty_entries 0 nodes 15 in
    let nulls : List (Option Key) = replicate (16 * nodes) (Some Null) in
    record {
      entries_good = entries_good-empty NodeOwner 0 nodes 15 (omega arith) (omega arith);
      fixed = empty-fixed NodeOwner 0 nodes 15;
      others =
          λ n past inside e.
          let no : Free (following 0 nodes n) ≡ Fixed = sym (empty-linked NodeOwner 0 nodes 15 n past inside) ∙ e in cc;
      all_keys = length-with_service_roots nulls 6 ∙ length-replicate (16 * nodes) (Some Null);
      spelled =
          spelled-roots nulls 6 (omega (arith, length-replicate {A = Option Key} (16 * nodes) (Some Null))) (spelled-nulls (16 * nodes));
      nulls =
          λ n k free low.
          let inside = free_inside nodes entries n free in
          ⊎_elim
          (λ (used : n < 15).
          let no : false ≡ true = sym (ap (λ b. nat_lt n nodes && b) (empty-used NodeOwner 0 nodes 15 n used) ∙ and-false (nat_lt n nodes)) ∙ free in cc)
          (λ (past : 15 ≤ n).
          key-above nulls 6 (16 * n + k) (omega arith)
          ∙ get_or-replicate (16 * nodes) (16 * n + k) (Some Null) None (omega arith))
          (cases_lt n 15);
    }

pub bank_good-empty : (size quantum : ℕ) → 64 ≤ size → size ≤ 16384 → size % 64 ≡ 0 → 1 ≤ quantum → quantum ≤ 10000 → BankGood (empty_bank size quantum)
unfolding empty_bank zero_kernel
bank_good-empty size quantum least most multiple some few = record {
  sized = record { least = least; most = most; multiple = multiple; all_pages = refl; all_nodes = refl };
  words = record {
    same_size = refl;
    least_quantum = some;
    most_quantum = few;
    in_round = omega arith;
    most_pid = omega arith;
    promises = omega arith;
  };
  pages = pages_good-empty size least;
  nodes = nodes_good-empty (node_count size) (omega arith);
}

-- no object of an empty bank is counted, or named
pub shares-empty : (size quantum : ℕ) → Shares (empty_bank size quantum) nothing_outside []
unfolding empty_bank zero_kernel page_places node_places page_in_hand node_in_hand
shares-empty size quantum = record {
  of_pages = record {
    agree =
        λ n low high.
        empty_cases (λ e. shares e ≡ 0) (first_page size) size 0 (omega arith) refl (λ next. refl) refl n
        ∙ sym (ap (λ places. places + 0 + 0) (unnamed-fresh (key_names_page (first_page size + n)) refl refl (λ service. refl) (node_count size) (omega arith)));
  };
  of_nodes = record {
    agree =
        λ n low high.
        empty_cases (λ e. shares e ≡ 0) 0 (node_count size) 15 (omega arith) refl (λ next. refl) refl n
        ∙ sym (ap (λ places. places + 0 + 0) (unnamed-fresh (key_names_node (0 + n)) refl refl (λ service. refl) (node_count size) (omega arith)));
  };
}

pub none_named-empty : (size quantum : ℕ) → NoneNamed (empty_bank size quantum).keys
unfolding empty_bank zero_kernel page_places node_places
none_named-empty size quantum = record {
  no_page = λ id. unnamed-fresh (key_names_page id) refl refl (λ service. refl) (node_count size) (omega arith);
  no_node = λ id. unnamed-fresh (key_names_node id) refl refl (λ service. refl) (node_count size) (omega arith);
}

-- two parts written one behind the other over equal elements
overwritten_twice : {X : Type 0} (x : X) (front middle : List X) (f m rows : ℕ) → length front ≡ f → length middle ≡ m → f + m ≤ rows → overwritten (overwritten (replicate rows x) 0 front) f middle ≡ front ++ (middle ++ replicate (rows - f - m) x)
unfolding overwritten
overwritten_twice x front middle f m rows a b fits =
    same_lists _ _ (search (rules, places)) (λ k d l. grind (arith, places))

-- the entries of zeros in which the first were made fixed and those behind them linked
pub made_entries : (O : Type 0) (base count fixed : ℕ) → fixed ≤ count → overwritten (overwritten (replicate (512 * entry_pages count) (Free 0)) 0 (replicate fixed Fixed)) fixed (free_entries base count fixed (count - fixed)) ≡ empty_entries {O = O} base count fixed
unfolding empty_entries
made_entries O base count fixed few =
    let rows : ℕ = 512 * entry_pages count in
    let front : List (Entry O) = replicate fixed Fixed in
    let middle : List (Entry O) = free_entries base count fixed (count - fixed) in
    let c : length front ≡ fixed = length-replicate fixed Fixed in
    let d : length middle ≡ count - fixed = length-free_entries O base count fixed (count - fixed) in
    overwritten_twice (Free 0) front middle fixed (count - fixed) rows c d (omega arith)
    ∙ ap (λ k. front ++ (middle ++ replicate k (Free 0))) (omega arith)

pub made_pages : (size : ℕ) → overwritten (replicate (512 * entry_pages size) (Free 0)) 0 (free_entries (first_page size) size 0 size) ≡ empty_entries {O = PageOwner} (first_page size) size 0
made_pages size =
    let zeros : List (Entry PageOwner) = replicate (512 * entry_pages size) (Free 0) in
    let all : size ≡ size - 0 = omega arith in
    ap (λ (list : List (Entry PageOwner)). overwritten list 0 (free_entries (first_page size) size 0 size)) (sym (overwritten-none zeros 0))
    ∙ ap (λ n. overwritten (overwritten zeros 0 []) 0 (free_entries (first_page size) size 0 n)) all
    ∙ made_entries PageOwner (first_page size) size 0 (omega arith)

-- the steps in which the tables of a store of zeros become those of an empty bank
abbrev words_written : ℕ → ℕ → Kernel → Kernel
words_written size quantum kernel = record kernel { machine = record kernel.machine { size = size; quantum = quantum; next_pid = 1; free_page = first_page size; free_node = 15 } }

abbrev inodes_written : Kernel → Kernel
inodes_written kernel = record kernel { inodes = set (set kernel.inodes 0 (Used console_inode)) 1 (Used empty_root) }

abbrev pages_linked : ℕ → Kernel → Kernel
pages_linked size kernel = record kernel { page_entries = overwritten kernel.page_entries 0 (free_entries (first_page size) size 0 size) }

abbrev nodes_fixed : Kernel → Kernel
nodes_fixed kernel = record kernel { node_entries = overwritten kernel.node_entries 0 (replicate 15 Fixed) }

abbrev nodes_linked : ℕ → Kernel → Kernel
nodes_linked nodes kernel = record kernel { node_entries = overwritten kernel.node_entries 15 (free_entries 0 nodes 15 (nodes - 15)) }

abbrev services_rooted : Kernel → Kernel
services_rooted kernel = record kernel { keys = with_service_roots kernel.keys 6 }

steps_make : (size quantum : ℕ) → services_rooted (nodes_linked (node_count size) (nodes_fixed (pages_linked size (inodes_written (words_written size quantum (zero_kernel size)))))) ≡ empty_bank size quantum
unfolding empty_bank zero_kernel
steps_make size quantum =
    let kernel = empty_bank size quantum in
    let nodes = overwritten (overwritten (replicate (512 * entry_pages (node_count size)) (Free 0)) 0 (replicate 15 Fixed)) 15 (free_entries 0 (node_count size) 15 (node_count size - 15)) in
    ap (λ (entries : List (Entry PageOwner)). record kernel { page_entries = entries; node_entries = nodes }) (made_pages size)
    ∙ ap (λ (entries : List (Entry NodeOwner)). record kernel { node_entries = entries }) (made_entries NodeOwner 0 (node_count size) 15 (omega arith))

pub made_bank : (size quantum : ℕ) (zeros words inodes pages fixed linked rooted : Kernel) → zeros ≡ zero_kernel size → words ≡ words_written size quantum zeros → inodes ≡ inodes_written words → pages ≡ pages_linked size inodes → fixed ≡ nodes_fixed pages → linked ≡ nodes_linked (node_count size) fixed → rooted ≡ services_rooted linked → rooted ≡ empty_bank size quantum
made_bank size quantum zeros words inodes pages fixed linked rooted a b i c d e f =
    f
    ∙ ap services_rooted
    (e
    ∙ ap (nodes_linked (node_count size))
    (d ∙ ap nodes_fixed (c ∙ ap (pages_linked size) (i ∙ ap inodes_written (b ∙ ap (words_written size quantum) a)))))
    ∙ steps_make size quantum

-- for the function that makes the tables: the entries of zeros are all there
pub ruleset making = (length-replicate, length-overwritten)
