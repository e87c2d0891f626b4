-- What a count, a key or a page that is written leaves of all that the bank keeps.
use Rattle.std.proofs.Common.{◌≡◌, ◌≢◌, ℕ, ◌+◌, ◌-◌, ◌*◌, ◌<◌, ◌≤◌, ◌&&◌, cond, Bool, true, false, nat_lt, Option, Some, None, List, [], ◌∷◌, length, set, get_or, refl, ap, sym, subst, ◌∙◌, ⊎_elim, arith}
use Rattle.std.proofs.Math.Bool.{and-false}
use Rattle.std.proofs.lemmas.Bool.{cases_lt}
use Rattle.std.proofs.lemmas.List.{length-set}
use Rattle.std.proofs.lemmas.List.Sums.{sum_by-set}
use Rattle.std.specs.List.{count_by}
use Rattle.kn_base.specs.declared.key.Key.{Key}
use Rattle.kn_base.specs.declared.key.Key.TheVariants.{Null}
use Rattle.kn_base.specs.Memory.{zero_page}
use Rattle.kernel_tables.specs.declared.entry.PageOwner.{PageOwner}
use Rattle.kernel_tables.specs.declared.entry.NodeOwner.{NodeOwner}
use Rattle.kernel_tables.specs.declared.entry.Entry.{Entry}
use Rattle.kernel_tables.specs.declared.entry.Entry.TheVariants.{Free, Taken, Fixed, Unspelled}
use Rattle.kernel_tables.specs.Kernel.{Kernel, first_page}
use Rattle.kernel_tables.specs.Rows.{entry_at, spelled_or_null, key_table}
use Rattle.space_bank.specs.FreeList.{is_free, shares, taken_one, elem, IsFreeList}
use Rattle.space_bank.specs.Bank.{BankGood, EntriesGood, memory_taken_one}
use Rattle.space_bank.specs.Shares.{SharesAgree, Shares, spelled_and, key_names_page, key_names_node, page_places, node_places, page_in_hand, node_in_hand, page_names, node_names}
use Rattle.space_bank.specs.Changes.{IsTaken, with_count, page_counted, node_counted, key_written, PutsPageKeyInHand, PutsNodeKeyInHand, TakesPageKeyOutOfHand, TakesNodeKeyOutOfHand, ExchangesKeys}
use Rattle.space_bank.proofs.FreeListLaws.{entry_inside, threads-set, taken_count-set}
use Rattle.space_bank.proofs.EntryLaws.{set_cases, memory_count-set}
use Rattle.space_bank.proofs.ShareLaws.{agree-set, agree-same, in_hand-cons, one_page, one_node, page_no_node, node_no_page, page-named_in_hand, page-other_in_hand, node-named_in_hand, node-other_in_hand}

-- a taken object with another count
taken_spelled : {O : Type 0} (entry : Entry O) → IsTaken entry → entry ≢ Unspelled
taken_spelled (Free next) h e = absurd h
taken_spelled (Taken owner count) h e = let no : Taken owner count ≡ Unspelled = e in cc
taken_spelled Fixed h e = absurd h
taken_spelled Unspelled h e = absurd h

taken_unfixed : {O : Type 0} (entry : Entry O) → IsTaken entry → entry ≢ Fixed
taken_unfixed (Free next) h e = absurd h
taken_unfixed (Taken owner count) h e = let no : Taken owner count ≡ Fixed = e in cc
taken_unfixed Fixed h e = absurd h
taken_unfixed Unspelled h e = absurd h

taken_used : {O : Type 0} (entry : Entry O) → IsTaken entry → is_free entry ≡ false
taken_used (Free next) h = absurd h
taken_used (Taken owner count) h = refl
taken_used Fixed h = absurd h
taken_used Unspelled h = absurd h

counted_taken : {O : Type 0} (entry : Entry O) (count : ℕ) → IsTaken entry → IsTaken (with_count entry count)
counted_taken (Free next) count h = absurd h
counted_taken (Taken owner old) count h = tt
counted_taken Fixed count h = absurd h
counted_taken Unspelled count h = absurd h

counted_one : {O : Type 0} (entry : Entry O) (count : ℕ) → taken_one (with_count entry count) ≡ taken_one entry
counted_one (Free next) count = refl
counted_one (Taken owner old) count = refl
counted_one Fixed count = refl
counted_one Unspelled count = refl

counted_memory : (entry : Entry PageOwner) (count : ℕ) → memory_taken_one (with_count entry count) ≡ memory_taken_one entry
counted_memory (Free next) count = refl
counted_memory (Taken owner old) count = refl
counted_memory Fixed count = refl
counted_memory Unspelled count = refl

counted_shares : {O : Type 0} (entry : Entry O) (count : ℕ) → IsTaken entry → shares (with_count entry count) ≡ count
counted_shares (Free next) count h = absurd h
counted_shares (Taken owner old) count h = refl
counted_shares Fixed count h = absurd h
counted_shares Unspelled count h = absurd h

-- what is counted is taken
pub shared_taken : {O : Type 0} (entry : Entry O) → 1 ≤ shares entry → IsTaken entry
shared_taken (Free next) h = absurd (omega arith)
shared_taken (Taken owner count) h = tt
shared_taken Fixed h = absurd (omega arith)
shared_taken Unspelled h = absurd (omega arith)

one_taken : {O : Type 0} (entry : Entry O) → IsTaken entry → taken_one entry ≡ 1
one_taken (Free next) h = absurd h
one_taken (Taken owner count) h = refl
one_taken Fixed h = absurd h
one_taken Unspelled h = absurd h

-- an entry that is not free is written, and was not free
free_list-kept : {O : Type 0} (entries : List (Entry O)) (base count first n : ℕ) (entry : Entry O) → n < length entries → is_free (entry_at entries n) ≡ false → is_free entry ≡ false → IsFreeList entries base count first → IsFreeList (set entries n entry) base count first
free_list-kept entries base count first n entry inside was_used used list = record {
  places = list.places;
  begins = list.begins;
  threads =
      threads-set entries base list.places n entry
      (list.exact n ∙ ap (λ b. nat_lt n count && b) was_used ∙ and-false (nat_lt n count)) list.threads;
  exact =
      λ m.
      set_cases (λ e. elem m list.places ≡ (nat_lt m count && is_free e)) entries n m entry inside
      (λ same.
      ap (λ k. elem k list.places) (sym same) ∙ list.exact n ∙ ap (λ b. nat_lt n count && b) was_used ∙ and-false (nat_lt n count)
      ∙ sym (ap (λ b. nat_lt m count && b) used ∙ and-false (nat_lt m count)))
      (λ other. list.exact m);
}

entries_good-counted : {O : Type 0} (entries : List (Entry O)) (base objects first taken n count : ℕ) → n < objects → IsTaken (entry_at entries n) → 1 ≤ count → EntriesGood entries base objects first taken → EntriesGood (set entries n (with_count (entry_at entries n) count)) base objects first taken
entries_good-counted {O} entries base objects first taken n count below was some good =
    let entry : Entry O = with_count (entry_at entries n) count in
    let now : IsTaken entry = counted_taken (entry_at entries n) count was in
    let inside : n < length entries = entry_inside entries n (good.spelled n below) in
    let total = taken_count-set entries n entry inside in
    let same_one : taken_one entry ≡ taken_one (entry_at entries n) = counted_one (entry_at entries n) count in
    record {
      rows = length-set entries n entry ∙ good.rows;
      spelled =
          λ m under.
          set_cases (λ e. e ≢ Unspelled) entries n m entry inside (λ same. taken_spelled entry now)
          (λ other. good.spelled m under);
      free =
          free_list-kept entries base objects first n entry inside (taken_used (entry_at entries n) was) (taken_used entry now)
          good.free;
      number = let e = good.number in omega arith;
      named =
          λ m.
          set_cases (λ e. taken_one e ≤ shares e) entries n m entry inside
          (λ same.
          let one = one_taken entry now in
          let counted : shares entry ≡ count = counted_shares (entry_at entries n) count was in
          omega arith)
          (λ other. good.named m);
      unused =
          λ m past low.
          set_cases (λ e. e ≡ Free 0) entries n m entry inside (λ same. absurd (omega arith))
          (λ other. good.unused m past (omega (arith, length-set entries n entry)));
    }

pub bank_good-page_counted : (kernel : Kernel) (n count : ℕ) → n < kernel.size → IsTaken (entry_at kernel.page_entries n) → 1 ≤ count → BankGood kernel → BankGood (page_counted kernel n count)
bank_good-page_counted kernel n count below was some good =
    let entry : Entry PageOwner = with_count (entry_at kernel.page_entries n) count in
    let now : IsTaken entry = counted_taken (entry_at kernel.page_entries n) count was in
    let inside : n < length kernel.page_entries = entry_inside kernel.page_entries n (good.pages.entries_good.spelled n below) in
    let total = memory_count-set kernel.page_entries n entry inside in
    let same_memory : memory_taken_one entry ≡ memory_taken_one (entry_at kernel.page_entries n) =
    counted_memory (entry_at kernel.page_entries n) count
    in
    record {
      sized = good.sized;
      words = good.words;
      pages = record {
        entries_good =
            entries_good-counted kernel.page_entries (first_page kernel.size) kernel.size kernel.machine.free_page
            kernel.machine.pages_taken n count below was some good.pages.entries_good;
        none_fixed =
            λ m under.
            set_cases (λ e. e ≢ Fixed) kernel.page_entries n m entry inside (λ same. taken_unfixed entry now)
            (λ other. good.pages.none_fixed m under);
        memory_number = let e = good.pages.memory_number in omega arith;
        pages = good.pages.pages;
        zeros =
            λ m.
            set_cases (λ e. (nat_lt m kernel.size && is_free e) ≡ true → get_or kernel.bank m [] ≡ zero_page)
            kernel.page_entries n m entry inside
            (λ same h.
            let no : false ≡ true =
            sym (ap (λ b. nat_lt m kernel.size && b) (taken_used entry now) ∙ and-false (nat_lt m kernel.size)) ∙ h
            in cc)
            (λ other. good.pages.zeros m);
      };
      nodes = good.nodes;
    }

pub bank_good-node_counted : (kernel : Kernel) (n count : ℕ) → n < kernel.nodes → IsTaken (entry_at kernel.node_entries n) → 1 ≤ count → BankGood kernel → BankGood (node_counted kernel n count)
bank_good-node_counted kernel n count below was some good =
    let entry : Entry NodeOwner = with_count (entry_at kernel.node_entries n) count in
    let now : IsTaken entry = counted_taken (entry_at kernel.node_entries n) count was in
    let inside : n < length kernel.node_entries = entry_inside kernel.node_entries n (good.nodes.entries_good.spelled n below) in
    record {
      sized = good.sized;
      words = good.words;
      pages = good.pages;
      nodes = record {
        entries_good =
            entries_good-counted kernel.node_entries 0 kernel.nodes kernel.machine.free_node kernel.machine.nodes_taken n count
            below was some good.nodes.entries_good;
        fixed =
            λ m low.
            set_cases (λ e. e ≡ Fixed) kernel.node_entries n m entry inside
            (λ same.
            absurd
            (taken_unfixed (entry_at kernel.node_entries n) was
            (ap (entry_at kernel.node_entries) same ∙ good.nodes.fixed m low)))
            (λ other. good.nodes.fixed m low);
        others =
            λ m past under.
            set_cases (λ e. e ≢ Fixed) kernel.node_entries n m entry inside (λ same. taken_unfixed entry now)
            (λ other. good.nodes.others m past under);
        all_keys = good.nodes.all_keys;
        spelled = good.nodes.spelled;
        nulls =
            λ m k.
            set_cases
            (λ e. (nat_lt m kernel.nodes && is_free e) ≡ true → k < 16 → get_or kernel.keys (16 * m + k) None ≡ Some Null)
            kernel.node_entries n m entry inside
            (λ same h low.
            let no : false ≡ true =
            sym (ap (λ b. nat_lt m kernel.nodes && b) (taken_used entry now) ∙ and-false (nat_lt m kernel.nodes)) ∙ h
            in cc)
            (λ other. good.nodes.nulls m k);
      };
    }

-- a page counted by its number
pub counted_by_number : (old new : Kernel) (page first was : ℕ) (step : ℕ → ℕ) → first ≡ first_page old.size → was ≡ shares (entry_at old.page_entries (page - first)) → new ≡ page_counted old (page - first) (step was) → new ≡ page_counted old (page - first_page old.size) (step (shares (entry_at old.page_entries (page - first_page old.size))))
counted_by_number old new page first was step base counted e =
    subst (λ (x : ℕ). new ≡ page_counted old (page - x) (step (shares (entry_at old.page_entries (page - x))))) base
    (e ∙ ap (λ (x : ℕ). page_counted old (page - first) (step x)) counted)

-- a taken node is none of the fixed ones
pub taken_high : (kernel : Kernel) (n : ℕ) → IsTaken (entry_at kernel.node_entries n) → BankGood kernel → 15 ≤ n
taken_high kernel n taken good =
    ⊎_elim (λ (low : n < 15). absurd (taken_unfixed (entry_at kernel.node_entries n) taken (good.nodes.fixed n low)))
    (λ (high : 15 ≤ n). high) (cases_lt n 15)

-- an object is counted as often as it is named now
agree-counted : {O : Type 0} (entries : List (Entry O)) (base start objects n count : ℕ) (old new : ℕ → ℕ) → IsTaken (entry_at entries n) → count ≡ new (base + n) → ((m : ℕ) → m ≢ base + n → new m ≡ old m) → SharesAgree entries base start objects old → SharesAgree (set entries n (with_count (entry_at entries n) count)) base start objects new
agree-counted entries base start objects n count old new was here others agreed =
    agree-set entries base start objects n (with_count (entry_at entries n) count) old new
    (taken_spelled (entry_at entries n) was) (counted_shares (entry_at entries n) count was ∙ here) others agreed

pub page-raised : (kernel new : Kernel) (n page : ℕ) → first_page kernel.size + n ≡ page → n < kernel.size → IsTaken (entry_at kernel.page_entries n) → new ≡ page_counted kernel n (shares (entry_at kernel.page_entries n) + 1) → PutsPageKeyInHand kernel new page
page-raised kernel new n page number below was e outside hand key named counted =
    let names : key_names_page (first_page kernel.size + n) key ≡ true = ap (λ id. key_names_page id key) number ∙ named in
    let agreed = counted.of_pages.agree n (omega arith) below in
    let more = page-named_in_hand kernel.keys outside hand (first_page kernel.size + n) key names in
    subst (λ (k : Kernel). Shares k outside (key ∷ hand)) (sym e)
    (record {
      of_pages =
          agree-counted kernel.page_entries (first_page kernel.size) 0 kernel.size n
          (shares (entry_at kernel.page_entries n) + 1) (page_names kernel.keys outside hand)
          (page_names kernel.keys outside (key ∷ hand)) was (omega arith)
          (λ m other. page-other_in_hand kernel.keys outside hand m key (one_page (first_page kernel.size + n) m key names other))
          counted.of_pages;
      of_nodes =
          agree-same kernel.node_entries 0 15 kernel.nodes (node_names kernel.keys outside hand)
          (node_names kernel.keys outside (key ∷ hand))
          (λ m. node-other_in_hand kernel.keys outside hand m key (page_no_node (first_page kernel.size + n) m key names))
          counted.of_nodes;
    })

pub page-lowered : (kernel new : Kernel) (n page : ℕ) → first_page kernel.size + n ≡ page → n < kernel.size → IsTaken (entry_at kernel.page_entries n) → new ≡ page_counted kernel n (shares (entry_at kernel.page_entries n) - 1) → TakesPageKeyOutOfHand kernel new page
page-lowered kernel new n page number below was e outside hand key named counted =
    let names : key_names_page (first_page kernel.size + n) key ≡ true = ap (λ id. key_names_page id key) number ∙ named in
    let agreed = counted.of_pages.agree n (omega arith) below in
    let more = page-named_in_hand kernel.keys outside hand (first_page kernel.size + n) key names in
    subst (λ (k : Kernel). Shares k outside hand) (sym e)
    (record {
      of_pages =
          agree-counted kernel.page_entries (first_page kernel.size) 0 kernel.size n
          (shares (entry_at kernel.page_entries n) - 1) (page_names kernel.keys outside (key ∷ hand))
          (page_names kernel.keys outside hand) was (omega arith)
          (λ m other.
          sym (page-other_in_hand kernel.keys outside hand m key (one_page (first_page kernel.size + n) m key names other)))
          counted.of_pages;
      of_nodes =
          agree-same kernel.node_entries 0 15 kernel.nodes (node_names kernel.keys outside (key ∷ hand))
          (node_names kernel.keys outside hand)
          (λ m. sym (node-other_in_hand kernel.keys outside hand m key (page_no_node (first_page kernel.size + n) m key names)))
          counted.of_nodes;
    })

pub node-raised : (kernel new : Kernel) (n : ℕ) → 15 ≤ n → n < kernel.nodes → IsTaken (entry_at kernel.node_entries n) → new ≡ node_counted kernel n (shares (entry_at kernel.node_entries n) + 1) → PutsNodeKeyInHand kernel new n
node-raised kernel new n low below was e outside hand key named counted =
    let zero_add : 0 + n ≡ n = omega arith in
    let agreed = counted.of_nodes.agree n low below in
    let more = node-named_in_hand kernel.keys outside hand (0 + n) key (ap (λ id. key_names_node id key) zero_add ∙ named) in
    subst (λ (k : Kernel). Shares k outside (key ∷ hand)) (sym e)
    (record {
      of_pages =
          agree-same kernel.page_entries (first_page kernel.size) 0 kernel.size (page_names kernel.keys outside hand)
          (page_names kernel.keys outside (key ∷ hand))
          (λ m. page-other_in_hand kernel.keys outside hand m key (node_no_page n m key named)) counted.of_pages;
      of_nodes =
          agree-counted kernel.node_entries 0 15 kernel.nodes n (shares (entry_at kernel.node_entries n) + 1)
          (node_names kernel.keys outside hand) (node_names kernel.keys outside (key ∷ hand)) was (omega arith)
          (λ m other.
          node-other_in_hand kernel.keys outside hand m key (one_node n m key named (λ same. other (same ∙ sym zero_add))))
          counted.of_nodes;
    })

pub node-lowered : (kernel new : Kernel) (n : ℕ) → 15 ≤ n → n < kernel.nodes → IsTaken (entry_at kernel.node_entries n) → new ≡ node_counted kernel n (shares (entry_at kernel.node_entries n) - 1) → TakesNodeKeyOutOfHand kernel new n
node-lowered kernel new n low below was e outside hand key named counted =
    let zero_add : 0 + n ≡ n = omega arith in
    let agreed = counted.of_nodes.agree n low below in
    let more = node-named_in_hand kernel.keys outside hand (0 + n) key (ap (λ id. key_names_node id key) zero_add ∙ named) in
    subst (λ (k : Kernel). Shares k outside hand) (sym e)
    (record {
      of_pages =
          agree-same kernel.page_entries (first_page kernel.size) 0 kernel.size (page_names kernel.keys outside (key ∷ hand))
          (page_names kernel.keys outside hand)
          (λ m. sym (page-other_in_hand kernel.keys outside hand m key (node_no_page n m key named))) counted.of_pages;
      of_nodes =
          agree-counted kernel.node_entries 0 15 kernel.nodes n (shares (entry_at kernel.node_entries n) - 1)
          (node_names kernel.keys outside (key ∷ hand)) (node_names kernel.keys outside hand) was (omega arith)
          (λ m other.
          sym (node-other_in_hand kernel.keys outside hand m key (one_node n m key named (λ same. other (same ∙ sym zero_add)))))
          counted.of_nodes;
    })

-- a key in hand and the key at a place change places, where an unspelled one counts as Null
spelled_alike : (test : Key → Bool) (there : Option Key) → test Null ≡ false → cond {A = ℕ} (spelled_and test there) 1 0 ≡ cond {A = ℕ} (test (spelled_or_null there)) 1 0
spelled_alike test None null = ap (λ b. cond {A = ℕ} b 1 0) (sym null)
spelled_alike test (Some key) null = refl

exchanged : (test : Key → Bool) (keys : List (Option Key)) (place : ℕ) (key : Key) (hand : List Key) → test Null ≡ false → place < length keys → count_by (spelled_and test) (set keys place (Some key)) + count_by test (key_table keys place ∷ hand) ≡ count_by (spelled_and test) keys + count_by test (key ∷ hand)
unfolding key_table
exchanged test keys place key hand null inside =
    let written = sum_by-set (λ k. cond {A = ℕ} (spelled_and test k) 1 0) keys place (Some key) None inside in
    let own = spelled_alike test (get_or keys place None) null in
    let first = in_hand-cons test (spelled_or_null (get_or keys place None)) hand (test (spelled_or_null (get_or keys place None))) refl in
    let second = in_hand-cons test key hand (test key) refl in
    omega arith

pub keys-exchanged : (kernel new : Kernel) (node place : ℕ) (key : Key) → 16 * node + place < length kernel.keys → new ≡ key_written kernel node place key → ExchangesKeys kernel new node place key
unfolding page_places node_places page_in_hand node_in_hand
keys-exchanged kernel new node place key inside e outside hand counted =
    subst (λ (k : Kernel). Shares k outside (key_table kernel.keys (16 * node + place) ∷ hand)) (sym e)
    (record {
      of_pages =
          agree-same kernel.page_entries (first_page kernel.size) 0 kernel.size (page_names kernel.keys outside (key ∷ hand))
          (page_names (key_written kernel node place key).keys outside (key_table kernel.keys (16 * node + place) ∷ hand))
          (λ m.
          let both = exchanged (key_names_page m) kernel.keys (16 * node + place) key hand refl inside in
          omega arith)
          counted.of_pages;
      of_nodes =
          agree-same kernel.node_entries 0 15 kernel.nodes (node_names kernel.keys outside (key ∷ hand))
          (node_names (key_written kernel node place key).keys outside (key_table kernel.keys (16 * node + place) ∷ hand))
          (λ m.
          let both = exchanged (key_names_node m) kernel.keys (16 * node + place) key hand refl inside in
          omega arith)
          counted.of_nodes;
    })
