-- What taking and giving an object leave of the share counts.
use Rattle.std.proofs.Common.{◌≡◌, ◌≢◌, ℕ, suc, ◌+◌, ◌*◌, ◌<◌, ◌≤◌, ◌==◌, cond, Bool, true, false, Option, Some, None, List, [], ◌∷◌, ◌++◌, length, take, drop, replicate, set, get_or, refl, ap, sym, subst, ◌∙◌, arith}
use Rattle.std.proofs.lemmas.Bool.{eqb-true, ne_eqb}
use Rattle.std.proofs.lemmas.List.{get_or-drop, get_or-take, get_or-replicate, length-replicate, length-take, drop-drop}
use Rattle.std.proofs.lemmas.List.Sums.{sum_by-cons, sum_by-append, sum_by-take-drop}
use Rattle.std.specs.List.{sum_by, count_by}
use Rattle.kn_base.specs.declared.key.Key.{Key}
use Rattle.kn_base.specs.declared.key.Key.TheVariants.{Null, Number, Page, Node, Segment, Start, Resume, Domain, Meter, Service}
use Rattle.kn_base.specs.Rows.{part_at, overwritten}
use Rattle.kernel_tables.specs.declared.entry.Entry.{Entry}
use Rattle.kernel_tables.specs.declared.entry.Entry.TheVariants.{Free, Taken, Fixed, Unspelled}
use Rattle.kernel_tables.specs.declared.entry.PageOwner.{PageOwner}
use Rattle.kernel_tables.specs.declared.entry.NodeOwner.{NodeOwner}
use Rattle.kernel_tables.specs.Kernel.{Kernel, first_page}
use Rattle.kernel_tables.specs.Rows.{entry_at}
use Rattle.space_bank.specs.FreeList.{is_free, shares}
use Rattle.space_bank.specs.Bank.{IsFirstFree, IsTakenOnce, page_taken, page_given, node_taken, node_given}
use Rattle.space_bank.specs.Fixed.{key_in}
use Rattle.space_bank.specs.Shares.{SharesAgree, Shares, Outside, Unnamed, NoneNamed, PutsPageInHand, PutsNodeInHand, TakesPageOutOfHand, TakesNodeOutOfHand, NamesNothing, key_names_page, key_names_node, spelled_and, spelled_keys, node_keys, page_places, node_places, page_in_hand, node_in_hand, page_names, node_names}
use Rattle.space_bank.proofs.FreeListLaws.{entry_inside}
use Rattle.space_bank.proofs.EntryLaws.{set_cases, free_spelled}

free_unshared : {O : Type 0} (entry : Entry O) → is_free entry ≡ true → shares entry ≡ 0
free_unshared (Free next) h = refl
free_unshared (Taken owner count) h = let no : false ≡ true = h in cc
free_unshared Fixed h = refl
free_unshared Unspelled h = refl

pub shared_once : {O : Type 0} (entry : Entry O) → IsTakenOnce entry → shares entry ≡ 1
shared_once (Free next) h = absurd h
shared_once (Taken owner count) h = h
shared_once Fixed h = absurd h
shared_once Unspelled h = absurd h

once_spelled : {O : Type 0} (entry : Entry O) → IsTakenOnce entry → entry ≢ Unspelled
once_spelled entry h e = let one = shared_once entry h in let none = ap shares e in absurd (omega arith)

-- a fixed object is not taken
pub fixed_untaken : {O : Type 0} (entry : Entry O) → entry ≡ Fixed → IsTakenOnce entry → ⊥
fixed_untaken entry e once = let one = shared_once entry once in let none = ap shares e in absurd (omega arith)

-- one entry is written, and its object is named more often or less, where all others that are counted are named as often
agree-set_among : {O : Type 0} (entries : List (Entry O)) (base start count n : ℕ) (entry : Entry O) (old new : ℕ → ℕ) → entry_at entries n ≢ Unspelled → shares entry ≡ new (base + n) → ((m : ℕ) → base + start ≤ m → m ≢ base + n → new m ≡ old m) → SharesAgree entries base start count old → SharesAgree (set entries n entry) base start count new
agree-set_among entries base start count n entry old new spelled here there agreed = record {
  agree =
      λ m low high.
      set_cases (λ e. shares e ≡ new (base + m)) entries n m entry (entry_inside entries n spelled)
      (λ same. subst (λ (k : ℕ). shares entry ≡ new (base + k)) same here)
      (λ other. agreed.agree m low high ∙ sym (there (base + m) (omega arith) (λ e. other (omega arith))));
}

pub agree-set : {O : Type 0} (entries : List (Entry O)) (base start count n : ℕ) (entry : Entry O) (old new : ℕ → ℕ) → entry_at entries n ≢ Unspelled → shares entry ≡ new (base + n) → ((m : ℕ) → m ≢ base + n → new m ≡ old m) → SharesAgree entries base start count old → SharesAgree (set entries n entry) base start count new
agree-set entries base start count n entry old new spelled here there =
    agree-set_among entries base start count n entry old new spelled here (λ m low. there m)

-- no object that is counted is named more often or less
pub agree-among : {O : Type 0} (entries : List (Entry O)) (base start count : ℕ) (old new : ℕ → ℕ) → ((m : ℕ) → base + start ≤ m → new m ≡ old m) → SharesAgree entries base start count old → SharesAgree entries base start count new
agree-among entries base start count old new same agreed = record { agree = λ m low high. agreed.agree m low high ∙ sym (same (base + m) (omega arith)) }

-- no object is named more often or less
pub agree-same : {O : Type 0} (entries : List (Entry O)) (base start count : ℕ) (old new : ℕ → ℕ) → ((m : ℕ) → new m ≡ old m) → SharesAgree entries base start count old → SharesAgree entries base start count new
agree-same entries base start count old new same agreed = record { agree = λ m low high. agreed.agree m low high ∙ sym (same (base + m)) }

-- a number that is one is not another
other_number : (a id other : ℕ) → (a == id) ≡ true → other ≢ id → (a == other) ≡ false
other_number a id other h apart = let same = eqb-true a id h in ne_eqb a other (λ e. apart (omega arith))

-- a key names one page alone, or one node, and not both
pub one_page : (id other : ℕ) (key : Key) → key_names_page id key ≡ true → other ≢ id → key_names_page other key ≡ false
one_page id other Null h apart = refl
one_page id other (Number body) h apart = refl
one_page id other (Page page writable) h apart = other_number page.0 id other h apart
one_page id other (Node node) h apart = refl
one_page id other (Segment node height) h apart = refl
one_page id other (Start root byte) h apart = refl
one_page id other (Resume root count) h apart = refl
one_page id other (Domain root) h apart = refl
one_page id other (Meter slot) h apart = refl
one_page id other (Service code) h apart = refl

pub one_node : (id other : ℕ) (key : Key) → key_names_node id key ≡ true → other ≢ id → key_names_node other key ≡ false
one_node id other Null h apart = refl
one_node id other (Number body) h apart = refl
one_node id other (Page page writable) h apart = refl
one_node id other (Node node) h apart = other_number node.0 id other h apart
one_node id other (Segment node height) h apart = other_number node.0 id other h apart
one_node id other (Start root byte) h apart = other_number root.0 id other h apart
one_node id other (Resume root count) h apart = other_number root.0 id other h apart
one_node id other (Domain root) h apart = other_number root.0 id other h apart
one_node id other (Meter slot) h apart = refl
one_node id other (Service code) h apart = refl

pub page_no_node : (id other : ℕ) (key : Key) → key_names_page id key ≡ true → key_names_node other key ≡ false
page_no_node id other Null h = refl
page_no_node id other (Number body) h = refl
page_no_node id other (Page page writable) h = refl
page_no_node id other (Node node) h = let no : false ≡ true = h in cc
page_no_node id other (Segment node height) h = let no : false ≡ true = h in cc
page_no_node id other (Start root byte) h = let no : false ≡ true = h in cc
page_no_node id other (Resume root count) h = let no : false ≡ true = h in cc
page_no_node id other (Domain root) h = let no : false ≡ true = h in cc
page_no_node id other (Meter slot) h = refl
page_no_node id other (Service code) h = refl

pub node_no_page : (id other : ℕ) (key : Key) → key_names_node id key ≡ true → key_names_page other key ≡ false
node_no_page id other Null h = refl
node_no_page id other (Number body) h = refl
node_no_page id other (Page page writable) h = let no : false ≡ true = h in cc
node_no_page id other (Node node) h = refl
node_no_page id other (Segment node height) h = refl
node_no_page id other (Start root byte) h = refl
node_no_page id other (Resume root count) h = refl
node_no_page id other (Domain root) h = refl
node_no_page id other (Meter slot) h = refl
node_no_page id other (Service code) h = refl

-- what a key in hand counts for
pub in_hand-cons : (test : Key → Bool) (key : Key) (hand : List Key) (named : Bool) → test key ≡ named → count_by test (key ∷ hand) ≡ cond named 1 0 + count_by test hand
in_hand-cons test key hand named e = sum_by-cons (λ k. cond (test k) 1 0) key hand ∙ ap (λ b. cond b 1 0 + count_by test hand) e

pub page-named_in_hand : (keys : List (Option Key)) (outside : Outside) (hand : List Key) (id : ℕ) (key : Key) → key_names_page id key ≡ true → page_names keys outside (key ∷ hand) id ≡ page_names keys outside hand id + 1
unfolding page_in_hand
page-named_in_hand keys outside hand id key h = let e = in_hand-cons (key_names_page id) key hand true h in omega arith

pub page-other_in_hand : (keys : List (Option Key)) (outside : Outside) (hand : List Key) (id : ℕ) (key : Key) → key_names_page id key ≡ false → page_names keys outside (key ∷ hand) id ≡ page_names keys outside hand id
unfolding page_in_hand
page-other_in_hand keys outside hand id key h = let e = in_hand-cons (key_names_page id) key hand false h in omega arith

pub node-named_in_hand : (keys : List (Option Key)) (outside : Outside) (hand : List Key) (id : ℕ) (key : Key) → key_names_node id key ≡ true → node_names keys outside (key ∷ hand) id ≡ node_names keys outside hand id + 1
unfolding node_in_hand
node-named_in_hand keys outside hand id key h = let e = in_hand-cons (key_names_node id) key hand true h in omega arith

pub node-other_in_hand : (keys : List (Option Key)) (outside : Outside) (hand : List Key) (id : ℕ) (key : Key) → key_names_node id key ≡ false → node_names keys outside (key ∷ hand) id ≡ node_names keys outside hand id
unfolding node_in_hand
node-other_in_hand keys outside hand id key h = let e = in_hand-cons (key_names_node id) key hand false h in omega arith

-- what the places of a node count for
pub sum_by-none : {X : Type 0} (f : X → ℕ) (xs : List X) (d : X) → ((k : ℕ) → k < length xs → f (get_or xs k d) ≡ 0) → sum_by f xs ≡ 0
sum_by-none f [] d none = refl
sum_by-none f (x ∷ xs) d none =
    let first : f x ≡ 0 = none 0 (omega arith) in
    let rest = sum_by-none f xs d (λ k h. none (suc k) (omega arith)) in
    omega (arith, sum_by-cons f x xs)

spelled_keys-counted : (test : Key → Bool) (keys : List (Option Key)) → count_by test (spelled_keys keys) ≡ count_by (spelled_and test) keys
unfolding spelled_keys
spelled_keys-counted test [] = refl
spelled_keys-counted test (None ∷ keys) =
    spelled_keys-counted test keys
spelled_keys-counted test (Some key ∷ keys) =
    sum_by-cons (λ k. cond (test k) 1 0) key (spelled_keys keys)
    ∙ ap (λ n. cond (test key) 1 0 + n) (spelled_keys-counted test keys)
    ∙ sym (sum_by-cons (λ k. cond (spelled_and test k) 1 0) (Some key) keys)

-- sixteen Null keys written over a node's own, which are counted apart
nulls-counted : (test : Key → Bool) (keys : List (Option Key)) (at : ℕ) → test Null ≡ false → count_by (spelled_and test) (overwritten keys at (replicate 16 (Some Null))) + count_by (spelled_and test) (part_at keys at 16) ≡ count_by (spelled_and test) keys
unfolding overwritten
nulls-counted test keys at none =
    let f : Option Key → ℕ = λ k. cond (spelled_and test k) 1 0 in
    let nulls : List (Option Key) = replicate 16 (Some Null) in
    let sixteen : length nulls ≡ 16 = length-replicate 16 (Some Null) in
    let zero_nulls : sum_by f nulls ≡ 0 =
    sum_by-none f nulls None
    (λ k h. ap f (get_or-replicate 16 k (Some Null) None (omega arith)) ∙ ap (λ b. cond b 1 0) none)
    in
    let written : count_by (spelled_and test) (overwritten keys at (replicate 16 (Some Null))) ≡ sum_by f (take at keys ++ nulls) + sum_by f (drop (at + length nulls) keys) =
    sum_by-append f (take at keys ++ nulls) (drop (at + length nulls) keys)
    in
    let before = sum_by-append f (take at keys) nulls in
    let whole = sum_by-take-drop f keys at in
    let part = sum_by-take-drop f (drop at keys) 16 in
    let rest : sum_by f (drop 16 (drop at keys)) ≡ sum_by f (drop (at + length nulls) keys) =
    ap (sum_by f) (drop-drop 16 at keys)
    in
    omega arith

-- a node whose keys name nothing counts for nothing
nothing-counted : (test : Key → Bool) (keys : List (Option Key)) (node : ℕ) → ((key : Option Key) → NamesNothing key → spelled_and test key ≡ false) → ((place : ℕ) → place < 16 → NamesNothing (key_in keys node place)) → count_by (spelled_and test) (part_at keys (16 * node) 16) ≡ 0
nothing-counted test keys node blind nothing =
    sum_by-none (λ k. cond (spelled_and test k) 1 0) (part_at keys (16 * node) 16) None
    (λ k h.
    let low : k < 16 = omega (arith, length-take 16 (drop (16 * node) keys)) in
    ap (λ key. cond (spelled_and test key) 1 0) (get_or-take 16 (drop (16 * node) keys) k None low ∙ get_or-drop (16 * node) keys k None)
    ∙ ap (λ b. cond b 1 0) (blind (key_in keys node k) (nothing k low)))

pub nothing-page : (id : ℕ) → 0 < id → (key : Option Key) → NamesNothing key → spelled_and (key_names_page id) key ≡ false
nothing-page id real None h = refl
nothing-page id real (Some Null) h = refl
nothing-page id real (Some (Number body)) h = refl
nothing-page id real (Some (Page page writable)) h = ne_eqb page.0 id (λ e. absurd (omega arith))
nothing-page id real (Some (Node node)) h = refl
nothing-page id real (Some (Segment node height)) h = refl
nothing-page id real (Some (Start root byte)) h = refl
nothing-page id real (Some (Resume root count)) h = refl
nothing-page id real (Some (Domain root)) h = refl
nothing-page id real (Some (Meter slot)) h = refl
nothing-page id real (Some (Service code)) h = refl

pub nothing-node : (id : ℕ) → 15 ≤ id → (key : Option Key) → NamesNothing key → spelled_and (key_names_node id) key ≡ false
nothing-node id real None h = refl
nothing-node id real (Some Null) h = refl
nothing-node id real (Some (Number body)) h = refl
nothing-node id real (Some (Page page writable)) h = refl
nothing-node id real (Some (Node node)) h = ne_eqb node.0 id (λ e. absurd (omega arith))
nothing-node id real (Some (Segment node height)) h = ne_eqb node.0 id (λ e. absurd (omega arith))
nothing-node id real (Some (Start root byte)) h = ne_eqb root.0 id (λ e. absurd (omega arith))
nothing-node id real (Some (Resume root count)) h = ne_eqb root.0 id (λ e. absurd (omega arith))
nothing-node id real (Some (Domain root)) h = ne_eqb root.0 id (λ e. absurd (omega arith))
nothing-node id real (Some (Meter slot)) h = refl
nothing-node id real (Some (Service code)) h = refl

-- the keys of a node that became Null are in hand
page-moved : (keys : List (Option Key)) (node : ℕ) (outside : Outside) (hand : List Key) (id : ℕ) → page_names (overwritten keys (16 * node) (replicate 16 (Some Null))) outside (node_keys keys node ++ hand) id ≡ page_names keys outside hand id
unfolding page_places page_in_hand node_keys
page-moved keys node outside hand id =
    let written = nulls-counted (key_names_page id) keys (16 * node) refl in
    let own = spelled_keys-counted (key_names_page id) (part_at keys (16 * node) 16) in
    let both = sum_by-append (λ k. cond (key_names_page id k) 1 0) (spelled_keys (part_at keys (16 * node) 16)) hand in
    omega arith

node-moved : (keys : List (Option Key)) (node : ℕ) (outside : Outside) (hand : List Key) (id : ℕ) → node_names (overwritten keys (16 * node) (replicate 16 (Some Null))) outside (node_keys keys node ++ hand) id ≡ node_names keys outside hand id
unfolding node_places node_in_hand node_keys
node-moved keys node outside hand id =
    let written = nulls-counted (key_names_node id) keys (16 * node) refl in
    let own = spelled_keys-counted (key_names_node id) (part_at keys (16 * node) 16) in
    let both = sum_by-append (λ k. cond (key_names_node id k) 1 0) (spelled_keys (part_at keys (16 * node) 16)) hand in
    omega arith

-- a node whose keys became Null, all of which named nothing
page-idle : (keys : List (Option Key)) (node : ℕ) (outside : Outside) (hand : List Key) (id : ℕ) → 0 < id → ((place : ℕ) → place < 16 → NamesNothing (key_in keys node place)) → page_names (overwritten keys (16 * node) (replicate 16 (Some Null))) outside hand id ≡ page_names keys outside hand id
unfolding page_places
page-idle keys node outside hand id real nothing =
    let written = nulls-counted (key_names_page id) keys (16 * node) refl in
    let none = nothing-counted (key_names_page id) keys node (nothing-page id real) nothing in
    omega arith

node-idle : (keys : List (Option Key)) (node : ℕ) (outside : Outside) (hand : List Key) (id : ℕ) → 15 ≤ id → ((place : ℕ) → place < 16 → NamesNothing (key_in keys node place)) → node_names (overwritten keys (16 * node) (replicate 16 (Some Null))) outside hand id ≡ node_names keys outside hand id
unfolding node_places
node-idle keys node outside hand id real nothing =
    let written = nulls-counted (key_names_node id) keys (16 * node) refl in
    let none = nothing-counted (key_names_node id) keys node (nothing-node id real) nothing in
    omega arith

-- a free object is named by nothing
agree-unnamed : {O : Type 0} (entries : List (Entry O)) (base start count n places outside in_hand : ℕ) (names : ℕ → ℕ) → start ≤ n → n < count → is_free (entry_at entries n) ≡ true → names (base + n) ≡ places + outside + in_hand → SharesAgree entries base start count names → Unnamed places outside in_hand
agree-unnamed entries base start count n places outside in_hand names low high free all agreed =
    let none = free_unshared (entry_at entries n) free in
    let e = agreed.agree n low high in
    record { no_place = omega arith; none_outside = omega arith; none_in_hand = omega arith }

-- one that is taken and in hand
agree-taken : {O : Type 0} (entries : List (Entry O)) (base start count n : ℕ) (owner : O) (old new : ℕ → ℕ) → start ≤ n → n < count → is_free (entry_at entries n) ≡ true → new (base + n) ≡ old (base + n) + 1 → ((m : ℕ) → m ≢ base + n → new m ≡ old m) → SharesAgree entries base start count old → SharesAgree (set entries n (Taken owner 1)) base start count new
agree-taken entries base start count n owner old new low high free more others agreed =
    let none = free_unshared (entry_at entries n) free in
    let e = agreed.agree n low high in
    let here : 1 ≡ new (base + n) = omega arith in
    agree-set entries base start count n (Taken owner 1) old new (free_spelled (entry_at entries n) free) here others agreed

-- one that is given back out of hand
agree-given : {O : Type 0} (entries : List (Entry O)) (base start count n next : ℕ) (old new : ℕ → ℕ) → start ≤ n → n < count → IsTakenOnce (entry_at entries n) → old (base + n) ≡ new (base + n) + 1 → ((m : ℕ) → base + start ≤ m → m ≢ base + n → new m ≡ old m) → SharesAgree entries base start count old → SharesAgree (set entries n (Free next)) base start count new
agree-given entries base start count n next old new low high once less others agreed =
    let one = shared_once (entry_at entries n) once in
    let e = agreed.agree n low high in
    let here : 0 ≡ new (base + n) = omega arith in
    agree-set_among entries base start count n (Free next) old new (once_spelled (entry_at entries n) once) here others agreed

pub page-taken_in_hand : (kernel new : Kernel) (n : ℕ) (owner : PageOwner) → IsFirstFree kernel.page_entries (first_page kernel.size) kernel.size kernel.machine.free_page n → new ≡ page_taken kernel n owner → PutsPageInHand kernel new (first_page kernel.size + n)
page-taken_in_hand kernel new n owner head e = record {
  unnamed =
      λ outside hand counted.
      agree-unnamed kernel.page_entries (first_page kernel.size) 0 kernel.size n
      (page_places kernel.keys (first_page kernel.size + n)) (outside.pages (first_page kernel.size + n))
      (page_in_hand hand (first_page kernel.size + n)) (page_names kernel.keys outside hand) (omega arith) head.inside head.free
      refl counted.of_pages;
  counted =
      λ outside hand key named counted.
      subst (λ (k : Kernel). Shares k outside (key ∷ hand)) (sym e)
      (record {
        of_pages =
            agree-taken kernel.page_entries (first_page kernel.size) 0 kernel.size n owner (page_names kernel.keys outside hand)
            (page_names kernel.keys outside (key ∷ hand)) (omega arith) head.inside head.free
            (page-named_in_hand kernel.keys outside hand (first_page kernel.size + n) key named)
            (λ m other. page-other_in_hand kernel.keys outside hand m key (one_page (first_page kernel.size + n) m key named other))
            counted.of_pages;
        of_nodes =
            agree-same kernel.node_entries 0 15 kernel.nodes (node_names kernel.keys outside hand)
            (node_names kernel.keys outside (key ∷ hand))
            (λ m. node-other_in_hand kernel.keys outside hand m key (page_no_node (first_page kernel.size + n) m key named))
            counted.of_nodes;
      });
}

pub node-taken_in_hand : (kernel new : Kernel) (n : ℕ) (owner : NodeOwner) → 15 ≤ n → IsFirstFree kernel.node_entries 0 kernel.nodes kernel.machine.free_node n → new ≡ node_taken kernel n owner → PutsNodeInHand kernel new n
node-taken_in_hand kernel new n owner low head e =
    let zero_add : 0 + n ≡ n = omega arith in
    record {
      unnamed =
          λ outside hand counted.
          agree-unnamed kernel.node_entries 0 15 kernel.nodes n (node_places kernel.keys n) (outside.nodes n)
          (node_in_hand hand n) (node_names kernel.keys outside hand) low head.inside head.free
          (ap (node_names kernel.keys outside hand) zero_add) counted.of_nodes;
      counted =
          λ outside hand key named counted.
          subst (λ (k : Kernel). Shares k outside (key ∷ hand)) (sym e)
          (record {
            of_pages =
                agree-same kernel.page_entries (first_page kernel.size) 0 kernel.size (page_names kernel.keys outside hand)
                (page_names kernel.keys outside (key ∷ hand))
                (λ m. page-other_in_hand kernel.keys outside hand m key (node_no_page n m key named)) counted.of_pages;
            of_nodes =
                agree-taken kernel.node_entries 0 15 kernel.nodes n owner (node_names kernel.keys outside hand)
                (node_names kernel.keys outside (key ∷ hand)) low head.inside head.free
                (node-named_in_hand kernel.keys outside hand (0 + n) key
                (ap (λ id. key_names_node id key) zero_add ∙ named))
                (λ m other.
                node-other_in_hand kernel.keys outside hand m key
                (one_node n m key named (λ same. other (same ∙ sym zero_add))))
                counted.of_nodes;
          });
    }

pub page-given_out_of_hand : (kernel new : Kernel) (n page : ℕ) → first_page kernel.size + n ≡ page → n < kernel.size → IsTakenOnce (entry_at kernel.page_entries n) → new ≡ page_given kernel n → TakesPageOutOfHand kernel new page
page-given_out_of_hand kernel new n page number below once e outside hand key named counted =
    let names : key_names_page (first_page kernel.size + n) key ≡ true = ap (λ id. key_names_page id key) number ∙ named in
    subst (λ (k : Kernel). Shares k outside hand) (sym e)
    (record {
      of_pages =
          agree-given kernel.page_entries (first_page kernel.size) 0 kernel.size n kernel.machine.free_page
          (page_names kernel.keys outside (key ∷ hand)) (page_names kernel.keys outside hand) (omega arith) below once
          (page-named_in_hand kernel.keys outside hand (first_page kernel.size + n) key names)
          (λ m low other.
          sym (page-other_in_hand kernel.keys outside hand m key (one_page (first_page kernel.size + n) m key names other)))
          counted.of_pages;
      of_nodes =
          agree-same kernel.node_entries 0 15 kernel.nodes (node_names kernel.keys outside (key ∷ hand))
          (node_names kernel.keys outside hand)
          (λ m. sym (node-other_in_hand kernel.keys outside hand m key (page_no_node (first_page kernel.size + n) m key names)))
          counted.of_nodes;
    })

-- a node is given back, after which another hand is held, that counts as much together with the keys that are left
node-given : (kernel : Kernel) (n : ℕ) (outside : Outside) (hand left : List Key) (key : Key) → 15 ≤ n → n < kernel.nodes → IsTakenOnce (entry_at kernel.node_entries n) → key_names_node n key ≡ true → ((id : ℕ) → 0 < id → page_names (node_given kernel n).keys outside left id ≡ page_names kernel.keys outside hand id) → ((id : ℕ) → 15 ≤ id → node_names (node_given kernel n).keys outside left id ≡ node_names kernel.keys outside hand id) → Shares kernel outside (key ∷ hand) → Shares (node_given kernel n) outside left
unfolding first_page
node-given kernel n outside hand left key low below once named pages nodes counted =
    let zero_add : 0 + n ≡ n = omega arith in
    record {
      of_pages =
          agree-among kernel.page_entries (first_page kernel.size) 0 kernel.size (page_names kernel.keys outside (key ∷ hand))
          (page_names (node_given kernel n).keys outside left)
          (λ m some. pages m (omega arith) ∙ sym (page-other_in_hand kernel.keys outside hand m key (node_no_page n m key named))) counted.of_pages;
      of_nodes =
          agree-given kernel.node_entries 0 15 kernel.nodes n kernel.machine.free_node
          (node_names kernel.keys outside (key ∷ hand)) (node_names (node_given kernel n).keys outside left) low below once
          (node-named_in_hand kernel.keys outside hand (0 + n) key (ap (λ id. key_names_node id key) zero_add ∙ named)
          ∙ ap (λ k. k + 1) (sym (nodes (0 + n) (omega arith))))
          (λ m past other.
          nodes m (omega arith)
          ∙ sym
          (node-other_in_hand kernel.keys outside hand m key (one_node n m key named (λ same. other (same ∙ sym zero_add)))))
          counted.of_nodes;
    }

pub node-given_out_of_hand : (kernel new : Kernel) (n : ℕ) → 15 ≤ n → n < kernel.nodes → IsTakenOnce (entry_at kernel.node_entries n) → new ≡ node_given kernel n → TakesNodeOutOfHand kernel new n
node-given_out_of_hand kernel new n low below once e = record {
  counted =
      λ outside hand key named counted.
      subst (λ (k : Kernel). Shares k outside (node_keys kernel.keys n ++ hand)) (sym e)
      (node-given kernel n outside hand (node_keys kernel.keys n ++ hand) key low below once named
      (λ id real. page-moved kernel.keys n outside hand id) (λ id real. node-moved kernel.keys n outside hand id) counted);
  nothing =
      λ outside hand key named nothing counted.
      subst (λ (k : Kernel). Shares k outside hand) (sym e)
      (node-given kernel n outside hand hand key low below once named (λ id real. page-idle kernel.keys n outside hand id real nothing)
      (λ id real. node-idle kernel.keys n outside hand id real nothing) counted);
}

-- Keys that become Null name nothing more.
pub none_named-nulls : (keys : List (Option Key)) (node : ℕ) → NoneNamed keys → NoneNamed (overwritten keys (16 * node) (replicate 16 (Some Null)))
unfolding page_places node_places
none_named-nulls keys node none = record {
  no_page = λ id. let e = nulls-counted (key_names_page id) keys (16 * node) refl in let all = none.no_page id in omega arith;
  no_node = λ id. let e = nulls-counted (key_names_node id) keys (16 * node) refl in let all = none.no_node id in omega arith;
}
