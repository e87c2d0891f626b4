-- What taking and giving an object leave of a free list.
use Rattle.std.proofs.Common.{◌≡◌, ◌≢◌, ℕ, ◌+◌, ◌-◌, ◌<◌, ◌≤◌, ◌==◌, ◌&&◌, ◌||◌, true, false, nat_lt, List, [], ◌∷◌, length, set, refl, ap, sym, subst, ◌∙◌, ⊎_elim, arith}
use Rattle.std.proofs.Math.Bool.{and-false}
use Rattle.std.proofs.lemmas.List.{get_or-set_same, get_or-set_other, get_or_past}
use Rattle.std.proofs.lemmas.List.Sums.{sum_by-set, sum_by-cons}
use Rattle.std.proofs.lemmas.Bool.{and_parts, cases_eq, cases_lt, eq-eqb, ne_eqb, eqb-false, lt-ltb, ltb-true, or_parts}
use Rattle.std.specs.List.{sum_by}
use Rattle.kernel_tables.specs.declared.entry.Entry.{Entry}
use Rattle.kernel_tables.specs.declared.entry.Entry.TheVariants.{Free, Taken, Fixed, Unspelled}
use Rattle.kernel_tables.specs.Rows.{entry_at}
use Rattle.space_bank.specs.FreeList.{is_free, next_of, is_free_at, taken_one, elem, first_of, Threads, IsFreeList, taken_count}
use Rattle.space_bank.specs.Bank.{NoneFree, IsFirstFree}

-- an entry that is spelled is there
pub entry_inside : {O : Type 0} (entries : List (Entry O)) (n : ℕ) → entry_at entries n ≢ Unspelled → n < length entries
entry_inside entries n spelled =
    ⊎_elim (λ (inside : n < length entries). inside)
    (λ (past : length entries ≤ n). absurd (spelled (get_or_past entries n Unspelled past)))
    (cases_lt n (length entries))

free_spelled : {O : Type 0} (entry : Entry O) (next : ℕ) → entry ≡ Free next → entry ≢ Unspelled
free_spelled entry next e h = let no : Free next ≡ Unspelled = sym e ∙ h in cc

-- an entry outside of a list changes
pub threads-set : {O : Type 0} (entries : List (Entry O)) (base : ℕ) (places : List ℕ) (n : ℕ) (entry : Entry O) → elem n places ≡ false → Threads entries base places → Threads (set entries n entry) base places
unfolding Threads elem first_of
threads-set entries base [] n entry out t = tt
threads-set entries base (place ∷ places) n entry out t =
    let other : place ≢ n = eqb-false place n (or_parts (place == n) (elem n places) out).0 in (
      get_or-set_other entries n place entry Unspelled other ∙ t.0,
      t.1,
      t.2,
      threads-set entries base places n entry (or_parts (place == n) (elem n places) out).1 t.3,
    )

-- the first object is taken
taken_first : {O : Type 0} (entries : List (Entry O)) (base count place : ℕ) (places : List ℕ) (entry : Entry O) → is_free entry ≡ false → Threads entries base (place ∷ places) → ((m : ℕ) → elem m (place ∷ places) ≡ is_free_at count entries m) → IsFreeList (set entries place entry) base count (next_of (entry_at entries place))
unfolding Threads elem
taken_first entries base count place places entry used t exact =
    let inside : place < length entries =
    entry_inside entries place (free_spelled (entry_at entries place) (first_of base places) t.0)
    in
    record {
      places = places;
      begins = sym (ap next_of t.0);
      threads = threads-set entries base places place entry t.2 t.3;
      exact =
          λ m.
          ⊎_elim
          (λ (same : place ≡ m).
          ap (λ k. elem k places) (sym same)
          ∙ t.2
          ∙ sym
          (ap (λ k. nat_lt m count && is_free (entry_at (set entries place entry) k)) (sym same)
          ∙ ap (λ e. nat_lt m count && is_free e) (get_or-set_same entries place entry Unspelled inside)
          ∙ ap (λ b. nat_lt m count && b) used
          ∙ and-false (nat_lt m count)))
          (λ (other : place ≢ m).
          ap (λ b. b || elem m places) (sym (ne_eqb place m other))
          ∙ exact m
          ∙ ap (λ e. nat_lt m count && is_free e) (sym (get_or-set_other entries place m entry Unspelled (λ e. other (sym e)))))
          (cases_eq place m);
    }

taken_of_places : {O : Type 0} (entries : List (Entry O)) (base count n : ℕ) (entry : Entry O) (places : List ℕ) → is_free entry ≡ false → 0 < base + n → first_of base places ≡ base + n → Threads entries base places → ((m : ℕ) → elem m places ≡ is_free_at count entries m) → IsFreeList (set entries n entry) base count (next_of (entry_at entries n))
unfolding first_of
taken_of_places entries base count n entry [] used some begins t exact = absurd (omega arith)
taken_of_places entries base count n entry (place ∷ places) used some begins t exact =
    let same : place ≡ n = omega arith in
    subst (λ (m : ℕ). IsFreeList (set entries m entry) base count (next_of (entry_at entries m))) same
    (taken_first entries base count place places entry used t exact)

pub free_list-taken : {O : Type 0} (entries : List (Entry O)) (base count n : ℕ) (entry : Entry O) → is_free entry ≡ false → 0 < base + n → IsFreeList entries base count (base + n) → IsFreeList (set entries n entry) base count (next_of (entry_at entries n))
free_list-taken entries base count n entry used some free =
    taken_of_places entries base count n entry free.places used some free.begins free.threads free.exact

-- an object is given back
pub free_list-given : {O : Type 0} (entries : List (Entry O)) (base count first n : ℕ) → n < count → n < length entries → 0 < base + n → is_free (entry_at entries n) ≡ false → IsFreeList entries base count first → IsFreeList (set entries n (Free first)) base count (base + n)
unfolding Threads elem first_of
free_list-given entries base count first n inside here some used free =
    let out : elem n free.places ≡ false =
    free.exact n ∙ ap (λ b. nat_lt n count && b) used ∙ and-false (nat_lt n count)
    in
    record {
      places = n ∷ free.places;
      begins = refl;
      threads = (
        get_or-set_same entries n (Free first) Unspelled here ∙ ap Free (sym free.begins),
        some,
        out,
        threads-set entries base free.places n (Free first) out free.threads,
      );
      exact =
          λ m.
          ⊎_elim
          (λ (same : n ≡ m).
          ap (λ b. b || elem m free.places) (eq-eqb n m same)
          ∙ sym
          (ap (λ k. nat_lt k count && is_free (entry_at (set entries n (Free first)) k)) (sym same)
          ∙ ap (λ e. nat_lt n count && is_free e) (get_or-set_same entries n (Free first) Unspelled here)
          ∙ ap (λ b. b && true) (lt-ltb n count inside)))
          (λ (other : n ≢ m).
          ap (λ b. b || elem m free.places) (ne_eqb n m other)
          ∙ free.exact m
          ∙ ap (λ e. nat_lt m count && is_free e)
          (sym (get_or-set_other entries n m (Free first) Unspelled (λ e. other (sym e)))))
          (cases_eq n m);
    }

-- a free list that begins with a number
places_first : {O : Type 0} (entries : List (Entry O)) (base count first : ℕ) (places : List ℕ) → 0 < first → first_of base places ≡ first → Threads entries base places → ((m : ℕ) → elem m places ≡ is_free_at count entries m) → IsFirstFree entries base count first (first - base)
unfolding first_of Threads elem
places_first entries base count first [] some begins t exact = absurd (omega arith)
places_first entries base count first (place ∷ places) some begins t exact =
    let same : place ≡ first - base = omega arith in
    let free : is_free_at count entries place ≡ true =
    sym (exact place) ∙ ap (λ b. b || elem place places) (eq-eqb place place refl)
    in
    subst (λ (m : ℕ). IsFirstFree entries base count first m) same
    (record {
      number = begins;
      inside = ltb-true place count (and_parts (nat_lt place count) (is_free (entry_at entries place)) free).0;
      some = t.1;
      free = (and_parts (nat_lt place count) (is_free (entry_at entries place)) free).1;
    })

pub free_list-first : {O : Type 0} (entries : List (Entry O)) (base count first : ℕ) → 0 < first → IsFreeList entries base count first → IsFirstFree entries base count first (first - base)
free_list-first entries base count first some free =
    places_first entries base count first free.places some free.begins free.threads free.exact

-- a free list that begins with 0
places_none : {O : Type 0} (entries : List (Entry O)) (base count : ℕ) (places : List ℕ) → first_of base places ≡ 0 → Threads entries base places → ((m : ℕ) → elem m places ≡ is_free_at count entries m) → NoneFree entries count
unfolding first_of Threads elem
places_none entries base count [] begins t exact = λ n inside.
    sym (exact n ∙ ap (λ b. b && is_free (entry_at entries n)) (lt-ltb n count inside))
places_none entries base count (place ∷ places) begins t exact = let some : 0 < base + place = t.1 in absurd (omega arith)

pub free_list-none : {O : Type 0} (entries : List (Entry O)) (base count first : ℕ) → first ≡ 0 → IsFreeList entries base count first → NoneFree entries count
free_list-none entries base count first none free =
    places_none entries base count free.places (free.begins ∙ none) free.threads free.exact

-- no more objects are counted than there are
pub sum_by-few : {X : Type 0} (f : X → ℕ) → ((x : X) → f x ≤ 1) → (xs : List X) → sum_by f xs ≤ length xs
sum_by-few f few [] = omega arith
sum_by-few f few (x ∷ xs) = omega (arith, sum_by-cons f x xs, few x, sum_by-few f few xs)

taken_one-few : {O : Type 0} (entry : Entry O) → taken_one entry ≤ 1
taken_one-few (Free next) = omega arith
taken_one-few (Taken owner count) = omega arith
taken_one-few Fixed = omega arith
taken_one-few Unspelled = omega arith

pub taken_count-few : {O : Type 0} (entries : List (Entry O)) → taken_count entries ≤ length entries
unfolding taken_count
taken_count-few entries = sum_by-few taken_one taken_one-few entries

-- how an entry that changes changes the number of taken objects
pub taken_count-set : {O : Type 0} (entries : List (Entry O)) (n : ℕ) (entry : Entry O) → n < length entries → taken_count (set entries n entry) + taken_one (entry_at entries n) ≡ taken_count entries + taken_one entry
unfolding taken_count
taken_count-set entries n entry inside = sum_by-set taken_one entries n entry Unspelled inside
