-- What taking and giving an object leave of the entries, the pages and the nodes of the bank.
use Rattle.std.proofs.Common.{◌≡◌, ◌≢◌, ℕ, ◌+◌, ◌-◌, ◌*◌, ◌^◌, ◌<◌, ◌≤◌, ◌&&◌, true, false, nat_lt, Option, Some, None, List, [], length, set, get_or, replicate, refl, ap, sym, subst, ◌∙◌, ⊎_elim, arith}
use Rattle.std.proofs.Math.Bool.{and-false}
use Rattle.std.proofs.lemmas.List.{get_or-set_same, get_or-set_other, length-set, length-replicate, get_or-replicate}
use Rattle.std.proofs.lemmas.List.Sums.{sum_by-set}
use Rattle.std.proofs.lemmas.Bool.{cases_eq, cases_lt}
use Rattle.kn_base.specs.declared.key.Key.{Key}
use Rattle.kn_base.specs.declared.key.Key.TheVariants.{Null}
use Rattle.kn_base.specs.Rows.{overwritten}
use Rattle.kn_base.specs.Memory.{zero_page}
use Rattle.kn_base.proofs.RowLaws.{length-overwritten, get_or-overwritten_in, get_or-overwritten_below, get_or-overwritten_above}
use Rattle.kernel_tables.specs.declared.entry.PageOwner.{PageOwner}
use Rattle.kernel_tables.specs.declared.entry.PageOwner.TheVariants.{Memory, File, Directory, Pipe, Buffer}
use Rattle.kernel_tables.specs.declared.entry.NodeOwner.{NodeOwner}
use Rattle.kernel_tables.specs.declared.entry.Entry.{Entry}
use Rattle.kernel_tables.specs.declared.entry.Entry.TheVariants.{Free, Taken, Fixed, Unspelled}
use Rattle.kernel_tables.specs.Kernel.{first_page}
use Rattle.kernel_tables.specs.Rows.{entry_at}
use Rattle.space_bank.specs.FreeList.{is_free, next_of, shares, taken_one, IsFreeList, taken_count}
use Rattle.std.specs.Option.{IsSome}
use Rattle.space_bank.specs.Bank.{AllSpelled, EntriesGood, PagesGood, NodesGood, IsFirstFree, memory_one, memory_taken_one, memory_count}
use Rattle.space_bank.proofs.FreeListLaws.{entry_inside, free_list-taken, free_list-given, taken_count-set, taken_count-few, sum_by-few}

-- what holds of an entry that is written and of each other one
pub set_cases : {O : Type 0} (P : Entry O → Type 0) (entries : List (Entry O)) (n m : ℕ) (entry : Entry O) → n < length entries → (n ≡ m → P entry) → (n ≢ m → P (entry_at entries m)) → P (entry_at (set entries n entry) m)
set_cases P entries n m entry inside here there =
    ⊎_elim
    (λ (same : n ≡ m).
    subst P (sym (ap (λ k. entry_at (set entries n entry) k) (sym same) ∙ get_or-set_same entries n entry Unspelled inside))
    (here same))
    (λ (other : n ≢ m).
    subst P (sym (get_or-set_other entries n m entry Unspelled (λ e. other (sym e)))) (there other))
    (cases_eq n m)

free_one : {O : Type 0} (entry : Entry O) → is_free entry ≡ true → taken_one entry ≡ 0
free_one (Free next) h = refl
free_one (Taken owner count) h = let no : false ≡ true = h in cc
free_one Fixed h = refl
free_one Unspelled h = refl

pub free_spelled : {O : Type 0} (entry : Entry O) → is_free entry ≡ true → entry ≢ Unspelled
free_spelled entry h e = let no : true ≡ false = sym h ∙ ap is_free e in cc

taken_used : {O : Type 0} (entry : Entry O) → taken_one entry ≡ 1 → is_free entry ≡ false
taken_used (Free next) h = absurd (omega arith)
taken_used (Taken owner count) h = refl
taken_used Fixed h = refl
taken_used Unspelled h = refl

free_memory : (entry : Entry PageOwner) → is_free entry ≡ true → memory_taken_one entry ≡ 0
free_memory (Free next) h = refl
free_memory (Taken owner count) h = let no : false ≡ true = h in cc
free_memory Fixed h = refl
free_memory Unspelled h = refl

-- the first free object is taken
pub entries_good-taken : {O : Type 0} (entries : List (Entry O)) (base count first taken n : ℕ) (owner : O) → IsFirstFree entries base count first n → EntriesGood entries base count first taken → EntriesGood (set entries n (Taken owner 1)) base count (next_of (entry_at entries n)) (taken + 1)
entries_good-taken entries base count first taken n owner head good =
    let inside : n < length entries = entry_inside entries n (free_spelled (entry_at entries n) head.free) in
    let was_free : taken_one (entry_at entries n) ≡ 0 = free_one (entry_at entries n) head.free in
    let counted : taken_count (set entries n (Taken owner 1)) + taken_one (entry_at entries n) ≡ taken_count entries + 1 =
    taken_count-set entries n (Taken owner 1) inside
    in
    record {
      rows = length-set entries n (Taken owner 1) ∙ good.rows;
      spelled =
          λ m below.
          set_cases (λ e. e ≢ Unspelled) entries n m (Taken owner 1) inside
          (λ same e. let no : Taken owner 1 ≡ Unspelled = e in cc) (λ other. good.spelled m below);
      free =
          free_list-taken entries base count n (Taken owner 1) refl head.some
          (subst (λ k. IsFreeList entries base count k) (sym head.number) good.free);
      number = let e = good.number in omega arith;
      named =
          λ m.
          set_cases (λ e. taken_one e ≤ shares e) entries n m (Taken owner 1) inside (λ same. omega arith)
          (λ other. good.named m);
      unused =
          λ m past low.
          set_cases (λ e. e ≡ Free 0) entries n m (Taken owner 1) inside
          (λ same. let below = head.inside in absurd (omega arith))
          (λ other. good.unused m past (omega (arith, length-set entries n (Taken owner 1))));
    }

-- a taken object is given back
pub entries_good-given : {O : Type 0} (entries : List (Entry O)) (base count first taken n : ℕ) → n < count → 0 < base + n → taken_one (entry_at entries n) ≡ 1 → EntriesGood entries base count first taken → EntriesGood (set entries n (Free first)) base count (base + n) (taken - 1)
entries_good-given entries base count first taken n below some was_taken good =
    let inside : n < length entries = entry_inside entries n (good.spelled n below) in
    let counted : taken_count (set entries n (Free first)) + taken_one (entry_at entries n) ≡ taken_count entries + 0 =
    taken_count-set entries n (Free first) inside
    in
    record {
      rows = length-set entries n (Free first) ∙ good.rows;
      spelled =
          λ m under.
          set_cases (λ e. e ≢ Unspelled) entries n m (Free first) inside
          (λ same e. let no : Free first ≡ Unspelled = e in cc) (λ other. good.spelled m under);
      free =
          free_list-given entries base count first n below inside some (taken_used (entry_at entries n) was_taken) good.free;
      number = let e = good.number in omega arith;
      named =
          λ m.
          set_cases (λ e. taken_one e ≤ shares e) entries n m (Free first) inside (λ same. omega arith)
          (λ other. good.named m);
      unused =
          λ m past low.
          set_cases (λ e. e ≡ Free 0) entries n m (Free first) inside
          (λ same. absurd (omega arith))
          (λ other. good.unused m past (omega (arith, length-set entries n (Free first))));
    }

pub memory_count-set : (entries : List (Entry PageOwner)) (n : ℕ) (entry : Entry PageOwner) → n < length entries → memory_count (set entries n entry) + memory_taken_one (entry_at entries n) ≡ memory_count entries + memory_taken_one entry
unfolding memory_count
memory_count-set entries n entry inside = sum_by-set memory_taken_one entries n entry Unspelled inside

memory_one-few : (owner : PageOwner) → memory_one owner ≤ 1
memory_one-few Memory = omega arith
memory_one-few File = omega arith
memory_one-few Directory = omega arith
memory_one-few Pipe = omega arith
memory_one-few Buffer = omega arith

memory_taken_one-few : (entry : Entry PageOwner) → memory_taken_one entry ≤ 1
memory_taken_one-few (Free next) = omega arith
memory_taken_one-few (Taken owner count) = memory_one-few owner
memory_taken_one-few Fixed = omega arith
memory_taken_one-few Unspelled = omega arith

memory_count-few : (entries : List (Entry PageOwner)) → memory_count entries ≤ length entries
unfolding memory_count
memory_count-few entries = sum_by-few memory_taken_one memory_taken_one-few entries

-- the numbers of what is taken are small
pub entries-few : {O : Type 0} (entries : List (Entry O)) (base count first taken : ℕ) → count ≤ 131072 → EntriesGood entries base count first taken → taken < 2 ^ 31
entries-few entries base count first taken small good =
    let e = good.number in let l = good.rows in omega (arith, taken_count-few entries)

pub memory-few : (size : ℕ) (entries : List (Entry PageOwner)) (first taken memory : ℕ) (bank : List (List ℕ)) → size ≤ 16384 → PagesGood size entries first taken memory bank → memory < 2 ^ 31
memory-few size entries first taken memory bank small good =
    let e = good.memory_number in let l = good.entries_good.rows in omega (arith, memory_count-few entries)

-- the first free page is taken
pub pages_good-taken : (size : ℕ) (entries : List (Entry PageOwner)) (first taken memory : ℕ) (bank : List (List ℕ)) (n : ℕ) (owner : PageOwner) → IsFirstFree entries (first_page size) size first n → PagesGood size entries first taken memory bank → PagesGood size (set entries n (Taken owner 1)) (next_of (entry_at entries n)) (taken + 1) (memory + memory_one owner) bank
pages_good-taken size entries first taken memory bank n owner head good =
    let inside : n < length entries = entry_inside entries n (free_spelled (entry_at entries n) head.free) in
    let was_free : memory_taken_one (entry_at entries n) ≡ 0 = free_memory (entry_at entries n) head.free in
    let counted : memory_count (set entries n (Taken owner 1)) + memory_taken_one (entry_at entries n) ≡ memory_count entries + memory_one owner =
    memory_count-set entries n (Taken owner 1) inside
    in
    record {
      entries_good = entries_good-taken entries (first_page size) size first taken n owner head good.entries_good;
      none_fixed =
          λ m below.
          set_cases (λ e. e ≢ Fixed) entries n m (Taken owner 1) inside
          (λ same e. let no : Taken owner 1 ≡ Fixed = e in cc) (λ other. good.none_fixed m below);
      memory_number = let e = good.memory_number in omega arith;
      pages = good.pages;
      zeros =
          λ m.
          set_cases (λ e. (nat_lt m size && is_free e) ≡ true → get_or bank m [] ≡ zero_page) entries n m (Taken owner 1) inside
          (λ same h. let no : false ≡ true = sym (and-false (nat_lt m size)) ∙ h in cc) (λ other. good.zeros m);
    }

-- a taken page is given back
pub pages_good-given : (size : ℕ) (entries : List (Entry PageOwner)) (first taken memory : ℕ) (bank : List (List ℕ)) (n : ℕ) → n < size → 0 < first_page size + n → taken_one (entry_at entries n) ≡ 1 → PagesGood size entries first taken memory bank → PagesGood size (set entries n (Free first)) (first_page size + n) (taken - 1) (memory - memory_taken_one (entry_at entries n)) (set bank n zero_page)
pages_good-given size entries first taken memory bank n below some was_taken good =
    let inside : n < length entries = entry_inside entries n (good.entries_good.spelled n below) in
    let counted : memory_count (set entries n (Free first)) + memory_taken_one (entry_at entries n) ≡ memory_count entries + 0 =
    memory_count-set entries n (Free first) inside
    in
    let all : length bank ≡ size = good.pages in
    record {
      entries_good = entries_good-given entries (first_page size) size first taken n below some was_taken good.entries_good;
      none_fixed =
          λ m under.
          set_cases (λ e. e ≢ Fixed) entries n m (Free first) inside
          (λ same e. let no : Free first ≡ Fixed = e in cc) (λ other. good.none_fixed m under);
      memory_number = let e = good.memory_number in omega arith;
      pages = length-set bank n zero_page ∙ good.pages;
      zeros =
          λ m.
          set_cases (λ e. (nat_lt m size && is_free e) ≡ true → get_or (set bank n zero_page) m [] ≡ zero_page) entries n m (Free first)
          inside
          (λ same h.
          ap (λ k. get_or (set bank n zero_page) k []) (sym same) ∙ get_or-set_same bank n zero_page [] (omega arith))
          (λ other h. get_or-set_other bank n m zero_page [] (λ e. other (sym e)) ∙ good.zeros m h);
    }

-- a taken object is counted
pub taken-some : {O : Type 0} (entries : List (Entry O)) (base count first taken n : ℕ) → n < count → taken_one (entry_at entries n) ≡ 1 → EntriesGood entries base count first taken → 1 ≤ taken
taken-some entries base count first taken n below was_taken good =
    let inside : n < length entries = entry_inside entries n (good.spelled n below) in
    let counted = taken_count-set entries n (Free 0) inside in
    let e = good.number in
    omega arith

pub memory-some : (size : ℕ) (entries : List (Entry PageOwner)) (first taken memory : ℕ) (bank : List (List ℕ)) (n : ℕ) → n < size → PagesGood size entries first taken memory bank → memory_taken_one (entry_at entries n) ≤ memory
memory-some size entries first taken memory bank n below good =
    let inside : n < length entries = entry_inside entries n (good.entries_good.spelled n below) in
    let counted : memory_count (set entries n (Free 0)) + memory_taken_one (entry_at entries n) ≡ memory_count entries + 0 =
    memory_count-set entries n (Free 0) inside
    in
    let e = good.memory_number in
    omega arith

-- free nodes are no fixed ones
pub free_node-high : (nodes : ℕ) (entries : List (Entry NodeOwner)) (first taken : ℕ) (keys : List (Option Key)) (n : ℕ) → is_free (entry_at entries n) ≡ true → NodesGood nodes entries first taken keys → 15 ≤ n
free_node-high nodes entries first taken keys n free good =
    ⊎_elim
    (λ (low : n < 15). let no : false ≡ true = sym (ap is_free (good.fixed n low)) ∙ free in cc)
    (λ (high : 15 ≤ n). high)
    (cases_lt n 15)

taken_high : (nodes : ℕ) (entries : List (Entry NodeOwner)) (first taken : ℕ) (keys : List (Option Key)) (n : ℕ) → taken_one (entry_at entries n) ≡ 1 → NodesGood nodes entries first taken keys → 15 ≤ n
taken_high nodes entries first taken keys n was_taken good =
    ⊎_elim
    (λ (low : n < 15).
    let no : 0 ≡ 1 = sym (ap taken_one (good.fixed n low)) ∙ was_taken in absurd (omega arith))
    (λ (high : 15 ≤ n). high)
    (cases_lt n 15)

-- the first free node is taken
pub nodes_good-taken : (nodes : ℕ) (entries : List (Entry NodeOwner)) (first taken : ℕ) (keys : List (Option Key)) (n : ℕ) (owner : NodeOwner) → IsFirstFree entries 0 nodes first n → NodesGood nodes entries first taken keys → NodesGood nodes (set entries n (Taken owner 1)) (next_of (entry_at entries n)) (taken + 1) keys
nodes_good-taken nodes entries first taken keys n owner head good =
    let inside : n < length entries = entry_inside entries n (free_spelled (entry_at entries n) head.free) in
    let high : 15 ≤ n = free_node-high nodes entries first taken keys n head.free good in
    record {
      entries_good = entries_good-taken entries 0 nodes first taken n owner head good.entries_good;
      fixed =
          λ m low.
          set_cases (λ e. e ≡ Fixed) entries n m (Taken owner 1) inside (λ same. absurd (omega arith)) (λ other. good.fixed m low);
      others =
          λ m past below.
          set_cases (λ e. e ≢ Fixed) entries n m (Taken owner 1) inside
          (λ same e. let no : Taken owner 1 ≡ Fixed = e in cc) (λ other. good.others m past below);
      all_keys = good.all_keys;
      spelled = good.spelled;
      nulls =
          λ m k.
          set_cases (λ e. (nat_lt m nodes && is_free e) ≡ true → k < 16 → get_or keys (16 * m + k) None ≡ Some Null) entries n m
          (Taken owner 1) inside
          (λ same h low. let no : false ≡ true = sym (and-false (nat_lt m nodes)) ∙ h in cc) (λ other. good.nulls m k);
    }

-- sixteen Null keys are written
nulls_at : (keys : List (Option Key)) (n k : ℕ) → 16 * n + 16 ≤ length keys → k < 16 → get_or (overwritten keys (16 * n) (replicate 16 (Some Null))) (16 * n + k) None ≡ Some Null
nulls_at keys n k fits low =
    let long : length (replicate 16 (Some Null)) ≡ 16 = length-replicate {A = Option Key} 16 (Some Null) in
    let place : 16 * n + k - 16 * n ≡ k = omega arith in
    get_or-overwritten_in keys (16 * n) (replicate 16 (Some Null)) (16 * n + k) None (omega arith) (omega arith) (omega arith)
    ∙ ap (λ j. get_or (replicate 16 (Some Null)) j None) place
    ∙ get_or-replicate {A = Option Key} 16 k (Some Null) None low

nulls_beside : (keys : List (Option Key)) (n m k : ℕ) → 16 * n + 16 ≤ length keys → n ≢ m → k < 16 → get_or (overwritten keys (16 * n) (replicate 16 (Some Null))) (16 * m + k) None ≡ get_or keys (16 * m + k) None
nulls_beside keys n m k fits other low =
    let long : length (replicate 16 (Some Null)) ≡ 16 = length-replicate {A = Option Key} 16 (Some Null) in
    ⊎_elim
    (λ (below : m < n). get_or-overwritten_below keys (16 * n) (replicate 16 (Some Null)) (16 * m + k) None (omega arith) (omega arith))
    (λ (above : n ≤ m). get_or-overwritten_above keys (16 * n) (replicate 16 (Some Null)) (16 * m + k) None (omega arith) (omega arith))
    (cases_lt m n)

-- all keys are spelled where one is written, ..
pub spelled_with : (keys : List (Option Key)) (n : ℕ) (key : Key) → n < length keys → AllSpelled keys → AllSpelled (set keys n (Some key))
spelled_with keys n key inside spelled place low =
    ⊎_elim
    (λ (same : n ≡ place). subst (λ (k : Option Key). IsSome k) (sym (ap (λ k. get_or (set keys n (Some key)) k None) (sym same) ∙ get_or-set_same keys n (Some key) None inside)) refl)
    (λ (other : n ≢ place).
    subst (λ (k : Option Key). IsSome k) (sym (get_or-set_other keys n place (Some key) None (λ e. other (sym e))))
    (spelled place (omega (arith, length-set keys n (Some key)))))
    (cases_eq n place)

-- .. and where those of a node become Null
spelled_beside : (keys : List (Option Key)) (n : ℕ) → 16 * n + 16 ≤ length keys → AllSpelled keys → AllSpelled (overwritten keys (16 * n) (replicate 16 (Some Null)))
spelled_beside keys n fits spelled place low =
    let nulls : List (Option Key) = replicate 16 (Some Null) in
    let long : length nulls ≡ 16 = length-replicate {A = Option Key} 16 (Some Null) in
    let all : length (overwritten keys (16 * n) nulls) ≡ length keys = length-overwritten keys (16 * n) nulls (omega arith) in
    ⊎_elim
    (λ (below : place < 16 * n).
    subst (λ (k : Option Key). IsSome k) (sym (get_or-overwritten_below keys (16 * n) nulls place None (omega arith) below)) (spelled place (omega arith)))
    (λ (high : 16 * n ≤ place).
    ⊎_elim
    (λ (inside : place < 16 * n + 16).
    subst (λ (k : Option Key). IsSome k)
    (sym (get_or-overwritten_in keys (16 * n) nulls place None (omega arith) high (omega arith) ∙ get_or-replicate {A = Option Key} 16 (place - 16 * n) (Some Null) None (omega arith)))
    refl)
    (λ (above : 16 * n + 16 ≤ place).
    subst (λ (k : Option Key). IsSome k) (sym (get_or-overwritten_above keys (16 * n) nulls place None (omega arith) (omega arith))) (spelled place (omega arith)))
    (cases_lt place (16 * n + 16)))
    (cases_lt place (16 * n))

-- a taken node is given back
pub nodes_good-given : (nodes : ℕ) (entries : List (Entry NodeOwner)) (first taken : ℕ) (keys : List (Option Key)) (n : ℕ) → n < nodes → taken_one (entry_at entries n) ≡ 1 → NodesGood nodes entries first taken keys → NodesGood nodes (set entries n (Free first)) n (taken - 1) (overwritten keys (16 * n) (replicate 16 (Some Null)))
nodes_good-given nodes entries first taken keys n below was_taken good =
    let inside : n < length entries = entry_inside entries n (good.entries_good.spelled n below) in
    let high : 15 ≤ n = taken_high nodes entries first taken keys n was_taken good in
    let all = good.all_keys in
    let fits : 16 * n + 16 ≤ length keys = omega arith in
    let long : length (replicate 16 (Some Null)) ≡ 16 = length-replicate {A = Option Key} 16 (Some Null) in
    let zero_add : 0 + n ≡ n = omega arith in
    record {
      entries_good =
          subst (λ (k : ℕ). EntriesGood (set entries n (Free first)) 0 nodes k (taken - 1)) zero_add
          (entries_good-given entries 0 nodes first taken n below (omega arith) was_taken good.entries_good);
      fixed =
          λ m low.
          set_cases (λ e. e ≡ Fixed) entries n m (Free first) inside (λ same. absurd (omega arith)) (λ other. good.fixed m low);
      others =
          λ m past under.
          set_cases (λ e. e ≢ Fixed) entries n m (Free first) inside
          (λ same e. let no : Free first ≡ Fixed = e in cc) (λ other. good.others m past under);
      all_keys = length-overwritten keys (16 * n) (replicate 16 (Some Null)) (omega arith) ∙ good.all_keys;
      spelled = spelled_beside keys n fits good.spelled;
      nulls =
          λ m k.
          set_cases
          (λ e. (nat_lt m nodes && is_free e) ≡ true → k < 16 → get_or (overwritten keys (16 * n) (replicate 16 (Some Null))) (16 * m + k) None ≡ Some Null)
          entries n m (Free first) inside
          (λ same h low.
          ap (λ j. get_or (overwritten keys (16 * n) (replicate 16 (Some Null))) (16 * j + k) None) (sym same)
          ∙ nulls_at keys n k fits low)
          (λ other h low. nulls_beside keys n m k fits other low ∙ good.nulls m k h low);
    }
