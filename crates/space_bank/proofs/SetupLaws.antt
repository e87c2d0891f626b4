-- Objects that are free in their order form a free list.
use Rattle.std.proofs.Common.{◌≡◌, ◌≢◌, ℕ, zero, suc, ◌+◌, ◌-◌, ◌<◌, ◌≤◌, ◌&&◌, ◌||◌, if◌then◌else◌, true, false, nat_lt, List, map, length, set, refl, ap, sym, ◌∙◌, ⊎_elim, arith}
use Rattle.std.proofs.Math.Bool.{and-false}
use Rattle.std.proofs.lemmas.Bool.{cases_eq, cases_lt, eq-eqb, ne_eqb, lt-ltb, le-ltb}
use Rattle.std.specs.List.{range_with_len}
use Rattle.std.proofs.lemmas.List.FromFn.{length-map-range_with_len, map-range_with_len_more}
use Rattle.kn_base.specs.Rows.{overwritten}
use Rattle.kn_base.proofs.RowLaws.{overwritten-none, overwritten-more}
use Rattle.kernel_tables.specs.declared.entry.Entry.{Entry}
use Rattle.kernel_tables.specs.declared.entry.Entry.TheVariants.{Free}
use Rattle.kernel_tables.specs.Rows.{entry_at}
use Rattle.space_bank.specs.FreeList.{is_free, elem, first_of, Threads, IsFreeList, following, Linked}
use Rattle.space_bank.specs.Setup.{free_entries}

elem-range_in : (a n m : ℕ) → a ≤ m → m < a + n → elem m (range_with_len a n) ≡ true
unfolding elem
elem-range_in a zero m low high = absurd (omega arith)
elem-range_in a (suc n) m low high =
    ⊎_elim
    (λ (same : a ≡ m). ap (λ b. b || elem m (range_with_len (a + 1) n)) (eq-eqb a m same))
    (λ (other : a ≢ m).
    ap (λ b. b || elem m (range_with_len (a + 1) n)) (ne_eqb a m other)
    ∙ elem-range_in (a + 1) n m (omega arith) (omega arith))
    (cases_eq a m)

elem-range_below : (a n m : ℕ) → m < a → elem m (range_with_len a n) ≡ false
unfolding elem
elem-range_below a zero m low = refl
elem-range_below a (suc n) m low =
    let other : a ≢ m = λ e. absurd (omega arith) in
    ap (λ b. b || elem m (range_with_len (a + 1) n)) (ne_eqb a m other)
    ∙ elem-range_below (a + 1) n m (omega arith)

elem-range_above : (a n m : ℕ) → a + n ≤ m → elem m (range_with_len a n) ≡ false
unfolding elem
elem-range_above a zero m high = refl
elem-range_above a (suc n) m high =
    let other : a ≢ m = λ e. absurd (omega arith) in
    ap (λ b. b || elem m (range_with_len (a + 1) n)) (ne_eqb a m other)
    ∙ elem-range_above (a + 1) n m (omega arith)

following-range : (base count a n : ℕ) → a + 1 + n ≡ count → following base count a ≡ first_of base (range_with_len (a + 1) n)
unfolding first_of
following-range base count a zero e =
    ap (λ b. if b then 0 else base + (a + 1)) (eq-eqb (a + 1) count (omega arith))
following-range base count a (suc n) e =
    let other : a + 1 ≢ count = λ h. absurd (omega arith) in
    ap (λ b. if b then 0 else base + (a + 1)) (ne_eqb (a + 1) count other)

threads-range : {O : Type 0} (entries : List (Entry O)) (base count a n : ℕ) → 0 < base + a → a + n ≡ count → Linked entries base count a count → Threads entries base (range_with_len a n)
unfolding Threads
threads-range entries base count a zero some e linked = tt
threads-range entries base count a (suc n) some e linked = (
  linked a (omega arith) (omega arith) ∙ ap Free (following-range base count a n (omega arith)),
  some,
  elem-range_below (a + 1) n a (omega arith),
  threads-range entries base count (a + 1) n (omega arith) (omega arith) (λ m low high. linked m (omega arith) high),
)

first-range : (base a n : ℕ) → 0 < n → first_of base (range_with_len a n) ≡ base + a
unfolding first_of
first-range base a zero some = absurd (omega arith)
first-range base a (suc n) some = refl

pub linked-free_list : {O : Type 0} (entries : List (Entry O)) (base count start : ℕ) → 0 < base + start → start < count → ((n : ℕ) → n < start → is_free (entry_at entries n) ≡ false) → Linked entries base count start count → IsFreeList entries base count (base + start)
linked-free_list entries base count start some inside used linked =
    let all : start + (count - start) ≡ count = omega arith in
    record {
      places = range_with_len start (count - start);
      begins = first-range base start (count - start) (omega arith);
      threads = threads-range entries base count start (count - start) some all linked;
      exact =
          λ n.
          ⊎_elim
          (λ (below : n < start).
          elem-range_below start (count - start) n below
          ∙ sym (ap (λ b. nat_lt n count && b) (used n below) ∙ and-false (nat_lt n count)))
          (λ (low : start ≤ n).
          ⊎_elim
          (λ (high : n < count).
          elem-range_in start (count - start) n low (omega arith)
          ∙ sym (ap (λ e. nat_lt n count && is_free e) (linked n low high) ∙ ap (λ b. b && true) (lt-ltb n count high)))
          (λ (past : count ≤ n).
          elem-range_above start (count - start) n (omega arith)
          ∙ sym (ap (λ b. b && is_free (entry_at entries n)) (le-ltb n count past)))
          (cases_lt n count))
          (cases_lt n start);
    }

-- linked so far
pub link-none : {O : Type 0} (entries : List (Entry O)) (base count start : ℕ) → overwritten entries start (free_entries base count start 0) ≡ entries
unfolding free_entries
link-none entries base count start = overwritten-none entries start

pub link-more : {O : Type 0} (entries : List (Entry O)) (base count start n next : ℕ) → start + n ≡ next → next < length entries → set (overwritten entries start (free_entries base count start n)) next (Free (following base count next)) ≡ overwritten entries start (free_entries base count start (n + 1))
unfolding free_entries
link-more {O} entries base count start n next e inside =
    let link = λ (k : ℕ). let entry : Entry O = Free (following base count k) in entry in
    overwritten-more entries start (map link (range_with_len start n)) (link next) next
    (ap (λ k. start + k) (length-map-range_with_len link start n) ∙ e) inside
    ∙ ap (overwritten entries start) (sym (map-range_with_len_more link start n next e))

-- for a function that links
pub ruleset linking = (link-none, link-more)
