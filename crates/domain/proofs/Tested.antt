-- The test of the domain of a slot tells whether it is right.
use Rattle.std.proofs.Common.{◌≡◌, ◌≢◌, ◌<◌, ◌≤◌, ◌+◌, ◌-◌, ◌*◌, ◌/◌, ◌%◌, ◌↔◌, IsTrue, ◌==◌, ◌&&◌, ◌||◌, not, nat_lt, nat_le, ℕ, Bool, Option, Some, None, true, false, refl, ap, sym, subst, ◌∙◌, arith, ⊎_elim, if◌then◌else◌}
use Rattle.std.specs.Option.{is_some}
use Rattle.std.proofs.lemmas.Bool.{and_parts, and_from, cases_eq, cases_lt, eqb-true, eq-eqb, leb-true, le-leb, ltb-true, lt-ltb, le-ltb}
use Rattle.kn_base.specs.declared.key.Key.{Key}
use Rattle.kn_base.specs.declared.key.Key.TheVariants.{Null, Start, Meter, Domain as DomainKey}
use Rattle.kn_base.specs.declared.key.NodeId.{NodeId}
use Rattle.kernel_tables.specs.Kernel.{Kernel}
use Rattle.kernel_tables.specs.Rows.{key_table, rows}
use Rattle.unix_model.specs.Tables.{at}
use Rattle.domain.specs.declared.types.Phase.{Phase}
use Rattle.domain.specs.declared.types.Phase.TheVariants.{Run, Asked, Sent, Done, Exiting, Zombie}
use Rattle.domain.specs.Keys.{is_number, is_meter, meter_in, node_in, root_in, segment_in, page_in, word_in, count_in, key_of_space}
use Rattle.domain.specs.Domains.{Domain, full_domain, domain_at, words_of, node_words, state_by, state_number, phase_by}
use Rattle.domain.specs.Rules.{NumberFits, RegistersGood, DescriptorsGood}
use Rattle.domain.specs.Phases.{state_for, key_for, FitsPhase, IsWhole, HasSpace, BufferFits}
use Rattle.domain.specs.Checks.{node_rows, HasWords, IsDomainOf, KeysInRange, IsRightSlot, SlotGood}
use Rattle.domain.specs.Tests.{all_pass, is_zombie, is_sent, is_done, has_ended, is_null, are_zero, is_meter_of, is_keeper, in_bounds, fits_space, fits_life, fits_ids, fits_break, fits_call, fits_rest, fits_answer, fits_marks, fits_buffer, fits_room, has_words, has_registers, has_descriptors, fits_node, has_places, has_numbers, has_objects, has_nodes, is_domain_of}
use Rattle.domain.proofs.DomainLaws.{root_domain}
use Rattle.domain.proofs.Fits.{state_low, life_fits, break_fits, call_fits, request_fits, answer_fits, marks_fit, ids_low}
use Rattle.domain.proofs.KeysTested.{null_is, is_null_then, meter_is, is_meter_then, keeper_is, is_keeper_then, room_is, fits_room_then, space_told, space_then, state_again, number_again, request_told, call_few, length_few, call_then, rest_then, answer_told, answer_then, word_told, word_then, bounds_told, bounds_then, buffer_told, buffer_then}
use Rattle.domain.proofs.Passing.{passed, all_passed}

-- the rows of a store end at place 15
pub rows_end : (kernel : Kernel) (node place : ℕ) → 16 ≤ place → node_rows kernel node place ≡ Null
unfolding rows
rows_end kernel node place above = rw (le-ltb place 16 above) refl

-- the key at a place of a row is the one that stands there
pub row_is : (kernel : Kernel) (node place : ℕ) → place < 16 → node_rows kernel node place ≡ key_table kernel.keys (16 * node + place)
unfolding rows
row_is kernel node place low = rw (lt-ltb place 16 low) refl

-- so a key that was read there names a node in range, ..
pub node_read : (kernel : Kernel) (node place : ℕ) (key : Key) → place < 16 → key ≡ node_rows kernel node place → KeysInRange kernel → (other : ℕ) → node_in key ≡ Some other → other < kernel.nodes
node_read kernel node place key low read within other names = (within (16 * node + place)).node other (ap node_in (sym (read ∙ row_is kernel node place low)) ∙ names)

-- .. or a root
pub root_read : (kernel : Kernel) (node place : ℕ) (key : Key) (root : NodeId) → place < 16 → key ≡ node_rows kernel node place → key ≡ DomainKey root → KeysInRange kernel → root.0 < kernel.nodes
root_read kernel node place key root low read is within = (within (16 * node + place)).root root.0 (ap root_in (sym (read ∙ row_is kernel node place low) ∙ is))

-- ---- nodes of words

module _ (row : ℕ → Key) (end : (place : ℕ) → 16 ≤ place → row place ≡ Null) where
  nulls_told : (from count : ℕ) → from + count ≡ 16 → all_pass (λ n. is_null (row (from + n))) count ≡ true → (place : ℕ) → from ≤ place → row place ≡ Null
  nulls_told from count sum e place above = ⊎_elim
      (λ (t : place < 16).
      let far : place - from < count = omega arith in
      let same : from + (place - from) ≡ place = omega arith in
      ap row (sym same) ∙ null_is (row (from + (place - from))) (passed (λ n. is_null (row (from + n))) count (place - from) e far))
      (λ (t : 16 ≤ place). end place t)
      (cases_lt place 16)

  nulls_then : (from count : ℕ) → ((place : ℕ) → from ≤ place → row place ≡ Null) → all_pass (λ n. is_null (row (from + n))) count ≡ true
  nulls_then from count blank = all_passed (λ n. is_null (row (from + n))) count (λ k low. is_null_then (row (from + k)) (blank (from + k) (omega arith)))

  words_told : has_words row ≡ true → HasWords row
  words_told e =
      let both = and_parts (all_pass (λ place. is_number (row place)) 11) (all_pass (λ n. is_null (row (11 + n))) 5) e in
      record {
        numbers = λ place low. passed (λ p. is_number (row p)) 11 place both.0 low;
        blank = nulls_told 11 5 refl both.1;
      }

  words_then : HasWords row → has_words row ≡ true
  words_then has = and_from (all_pass (λ place. is_number (row place)) 11) (all_pass (λ n. is_null (row (11 + n))) 5) (all_passed (λ p. is_number (row p)) 11 has.numbers) (nulls_then 11 5 has.blank)

  registers_told : has_registers row ≡ true → HasWords row × RegistersGood row
  registers_told e =
      let one = and_parts (has_words row) (node_words row 0 == 0 && node_words row 32 % 4 == 0) e in
      let two = and_parts (node_words row 0 == 0) (node_words row 32 % 4 == 0) one.1 in
      (words_told one.0, record { zero = eqb-true (node_words row 0) 0 two.0; aligned = eqb-true (node_words row 32 % 4) 0 two.1 })

  registers_then : HasWords row × RegistersGood row → has_registers row ≡ true
  registers_then (words, good) = and_from (has_words row) (node_words row 0 == 0 && node_words row 32 % 4 == 0) (words_then words)
      (and_from (node_words row 0 == 0) (node_words row 32 % 4 == 0) (eq-eqb (node_words row 0) 0 good.zero) (eq-eqb (node_words row 32 % 4) 0 good.aligned))

  descriptors_told : has_descriptors row ≡ true → HasWords row × DescriptorsGood row
  descriptors_told e =
      let one = and_parts (has_words row) (all_pass (λ n. nat_le (node_words row n) 2048) 32 && node_words row 32 == 0) e in
      let two = and_parts (all_pass (λ n. nat_le (node_words row n) 2048) 32) (node_words row 32 == 0) one.1 in (
        words_told one.0,
        record {
          fit = λ number low. leb-true (node_words row number) 2048 (passed (λ n. nat_le (node_words row n) 2048) 32 number two.0 low);
          unused = eqb-true (node_words row 32) 0 two.1;
        },
      )

  descriptors_then : HasWords row × DescriptorsGood row → has_descriptors row ≡ true
  descriptors_then (words, good) = and_from (has_words row) (all_pass (λ n. nat_le (node_words row n) 2048) 32 && node_words row 32 == 0) (words_then words)
      (and_from (all_pass (λ n. nat_le (node_words row n) 2048) 32) (node_words row 32 == 0)
      (all_passed (λ n. nat_le (node_words row n) 2048) 32 (λ k low. le-leb (node_words row k) 2048 (good.fit k low))) (eq-eqb (node_words row 32) 0 good.unused))

-- ---- the nodes of a root

node_some : (test : ℕ → Bool) (phase : Phase) (key : Key) (named : Option ℕ) → fits_node test phase key named ≡ true → is_some named ≡ not (is_zombie phase)
node_some test phase key None e = sym (ap not (and_parts (is_zombie phase) (is_null key) e).0)
node_some test phase key (Some node) e = sym (and_parts (not (is_zombie phase)) (test node) e).0

node_null : (test : ℕ → Bool) (phase : Phase) (key : Key) (named : Option ℕ) → fits_node test phase key named ≡ true → named ≡ None → key ≡ Null
node_null test phase key None e none = null_is key (and_parts (is_zombie phase) (is_null key) e).1
node_null test phase key (Some node) e none = let no : Some node ≡ None = none in cc

node_test : (test : ℕ → Bool) (phase : Phase) (key : Key) (named : Option ℕ) (node : ℕ) → fits_node test phase key named ≡ true → named ≡ Some node → test node ≡ true
node_test test phase key None node e some = let no : None ≡ Some node = some in cc
node_test test phase key (Some m) node e some = let same : m ≡ node = cc in ap test (sym same) ∙ (and_parts (not (is_zombie phase)) (test m) e).1

node_then : (test : ℕ → Bool) (phase : Phase) (key : Key) (named : Option ℕ) → is_some named ≡ not (is_zombie phase) → (named ≡ None → key ≡ Null) → ((node : ℕ) → named ≡ Some node → test node ≡ true)
    → fits_node test phase key named ≡ true
node_then test phase key None some null good = and_from (is_zombie phase) (is_null key) (not_again (is_zombie phase) some) (is_null_then key (null refl))
  where
    not_again : (x : Bool) → false ≡ not x → x ≡ true
    not_again true e = refl
    not_again false e = cc
node_then test phase key (Some node) some null good = and_from (not (is_zombie phase)) (test node) (sym some) (good node refl)

whole_told : (row : ℕ → Key) (a b : ℕ → ℕ) (phase : Phase) → is_some (node_in (row 3)) ≡ not (is_zombie phase) → is_some (node_in (row 4)) ≡ not (is_zombie phase) → IsWhole (full_domain row a b) phase
unfolding full_domain
whole_told row a b Run third fourth = ap (λ x. x && is_some (node_in (row 4))) third ∙ fourth
whole_told row a b Asked third fourth = ap (λ x. x && is_some (node_in (row 4))) third ∙ fourth
whole_told row a b Sent third fourth = ap (λ x. x && is_some (node_in (row 4))) third ∙ fourth
whole_told row a b Done third fourth = ap (λ x. x && is_some (node_in (row 4))) third ∙ fourth
whole_told row a b Exiting third fourth = ap (λ x. x && is_some (node_in (row 4))) third ∙ fourth
whole_told row a b Zombie third fourth = ap (λ x. x && is_some (node_in (row 4))) third

both_true : (x y : Bool) → x ≡ y → (x && y) ≡ true → x ≡ true
both_true true y e h = refl
both_true false y e h = cc

both_false : (x y : Bool) → x ≡ y → (x && y) ≡ false → x ≡ false
both_false true true e h = cc
both_false true false e h = cc
both_false false y e h = refl

whole_then : (row : ℕ → Key) (a b : ℕ → ℕ) (phase : Phase) → is_some (node_in (row 3)) ≡ is_some (node_in (row 4)) → IsWhole (full_domain row a b) phase → is_some (node_in (row 3)) ≡ not (is_zombie phase)
unfolding full_domain
whole_then row a b Run both is = both_true (is_some (node_in (row 3))) (is_some (node_in (row 4))) both is
whole_then row a b Asked both is = both_true (is_some (node_in (row 3))) (is_some (node_in (row 4))) both is
whole_then row a b Sent both is = both_true (is_some (node_in (row 3))) (is_some (node_in (row 4))) both is
whole_then row a b Done both is = both_true (is_some (node_in (row 3))) (is_some (node_in (row 4))) both is
whole_then row a b Exiting both is = both_true (is_some (node_in (row 3))) (is_some (node_in (row 4))) both is
whole_then row a b Zombie both is = both_false (is_some (node_in (row 3))) (is_some (node_in (row 4))) both is

-- ---- a root

-- of the places 6 to 12
number_at : (P : ℕ → Type 0) → P 6 → P 7 → P 8 → P 9 → P 10 → P 11 → P 12 → (place : ℕ) → 6 ≤ place → place ≤ 12 → P place
number_at P six seven eight nine ten eleven twelve place low high =
    ⊎_elim (λ (e : place ≡ 6). subst P (sym e) six) (λ (d6 : place ≢ 6).
    ⊎_elim (λ (e : place ≡ 7). subst P (sym e) seven) (λ (d7 : place ≢ 7).
    ⊎_elim (λ (e : place ≡ 8). subst P (sym e) eight) (λ (d8 : place ≢ 8).
    ⊎_elim (λ (e : place ≡ 9). subst P (sym e) nine) (λ (d9 : place ≢ 9).
    ⊎_elim (λ (e : place ≡ 10). subst P (sym e) ten) (λ (d10 : place ≢ 10).
    ⊎_elim (λ (e : place ≡ 11). subst P (sym e) eleven) (λ (d11 : place ≢ 11). subst P (let e : 12 ≡ place = omega arith in e) twelve)
    (cases_eq place 11)) (cases_eq place 10)) (cases_eq place 9)) (cases_eq place 8)) (cases_eq place 7)) (cases_eq place 6)

-- of the places 3 and 4
word_place : (P : ℕ → Type 0) → P 3 → P 4 → (place : ℕ) → 3 ≤ place → place ≤ 4 → P place
word_place P three four place low high = ⊎_elim (λ (e : place ≡ 3). subst P (sym e) three) (λ (d : place ≢ 3). subst P (let e : 4 ≡ place = omega arith in e) four) (cases_eq place 3)

module _ (rows : ℕ → ℕ → Key) (room : Key) (slot root : ℕ) (end : (node place : ℕ) → 16 ≤ place → rows node place ≡ Null) where
  abbrev row : ℕ → Key
  row = rows root

  abbrev phase : Phase
  phase = phase_by (word_in (rows root 7) 2)

  abbrev a : ℕ → ℕ
  a = words_of rows (node_in (rows root 3))

  abbrev b : ℕ → ℕ
  b = words_of rows (node_in (rows root 4))

  abbrev domain : Domain
  domain = full_domain (rows root) (words_of rows (node_in (rows root 3))) (words_of rows (node_in (rows root 4)))

  module _ (e : is_domain_of rows room slot root ≡ true) where
    one : (has_places slot row ≡ true) × ((has_numbers phase row && (has_objects phase row && (has_nodes phase rows root && fits_room phase root (count_in (row 6)) room))) ≡ true)
    one = and_parts (has_places slot row) (has_numbers phase row && (has_objects phase row && (has_nodes phase rows root && fits_room phase root (count_in (row 6)) room))) e

    two : (has_numbers phase row ≡ true) × ((has_objects phase row && (has_nodes phase rows root && fits_room phase root (count_in (row 6)) room)) ≡ true)
    two = and_parts (has_numbers phase row) (has_objects phase row && (has_nodes phase rows root && fits_room phase root (count_in (row 6)) room)) one.1

    three : (has_objects phase row ≡ true) × ((has_nodes phase rows root && fits_room phase root (count_in (row 6)) room) ≡ true)
    three = and_parts (has_objects phase row) (has_nodes phase rows root && fits_room phase root (count_in (row 6)) room) two.1

    four : (has_nodes phase rows root ≡ true) × (fits_room phase root (count_in (row 6)) room ≡ true)
    four = and_parts (has_nodes phase rows root) (fits_room phase root (count_in (row 6)) room) three.1

    places : (is_meter_of slot (row 2) ≡ true) × ((is_keeper slot (row 1) && all_pass (λ n. is_null (row (13 + n))) 3) ≡ true)
    places = and_parts (is_meter_of slot (row 2)) (is_keeper slot (row 1) && all_pass (λ n. is_null (row (13 + n))) 3) one.0

    keeper : (is_keeper slot (row 1) ≡ true) × (all_pass (λ n. is_null (row (13 + n))) 3 ≡ true)
    keeper = and_parts (is_keeper slot (row 1)) (all_pass (λ n. is_null (row (13 + n))) 3) places.1

    objects : (fits_space phase (row 0) ≡ true) × (fits_buffer phase (word_in (row 10) 2) (word_in (row 11) 2) (row 5) ≡ true)
    objects = and_parts (fits_space phase (row 0)) (fits_buffer phase (word_in (row 10) 2) (word_in (row 11) 2) (row 5)) three.0

    nodes : (fits_node (λ node. has_registers (rows node)) phase (row 3) (node_in (row 3)) ≡ true) × (fits_node (λ node. has_descriptors (rows node)) phase (row 4) (node_in (row 4)) ≡ true)
    nodes = and_parts (fits_node (λ node. has_registers (rows node)) phase (row 3) (node_in (row 3))) (fits_node (λ node. has_descriptors (rows node)) phase (row 4) (node_in (row 4))) four.0

    n0 : ((fits_life phase (row 6) && (fits_ids (row 7) && fits_break phase (row 8))) ≡ true) × (((fits_call phase (row 9) && fits_rest phase (row 10)) && (fits_answer phase (row 11) && fits_marks (row 12))) ≡ true)
    n0 = and_parts (fits_life phase (row 6) && (fits_ids (row 7) && fits_break phase (row 8))) ((fits_call phase (row 9) && fits_rest phase (row 10)) && (fits_answer phase (row 11) && fits_marks (row 12))) two.0

    n1 : (fits_life phase (row 6) ≡ true) × ((fits_ids (row 7) && fits_break phase (row 8)) ≡ true)
    n1 = and_parts (fits_life phase (row 6)) (fits_ids (row 7) && fits_break phase (row 8)) n0.0

    n2 : (fits_ids (row 7) ≡ true) × (fits_break phase (row 8) ≡ true)
    n2 = and_parts (fits_ids (row 7)) (fits_break phase (row 8)) n1.1

    n3 : ((fits_call phase (row 9) && fits_rest phase (row 10)) ≡ true) × ((fits_answer phase (row 11) && fits_marks (row 12)) ≡ true)
    n3 = and_parts (fits_call phase (row 9) && fits_rest phase (row 10)) (fits_answer phase (row 11) && fits_marks (row 12)) n0.1

    n4 : (fits_call phase (row 9) ≡ true) × (fits_rest phase (row 10) ≡ true)
    n4 = and_parts (fits_call phase (row 9)) (fits_rest phase (row 10)) n3.0

    n5 : (fits_answer phase (row 11) ≡ true) × (fits_marks (row 12) ≡ true)
    n5 = and_parts (fits_answer phase (row 11)) (fits_marks (row 12)) n3.1

    life : (is_number (row 6) ≡ true) × ((word_in (row 6) 0 == state_number (state_for phase)) ≡ true)
    life = and_parts (is_number (row 6)) (word_in (row 6) 0 == state_number (state_for phase)) n1.0

    ids : (is_number (row 7) ≡ true) × (nat_lt (word_in (row 7) 2) 6 ≡ true)
    ids = and_parts (is_number (row 7)) (nat_lt (word_in (row 7) 2) 6) n2.0

    break : (is_number (row 8) ≡ true) × ((in_bounds (word_in (row 8) 0) (word_in (row 8) 1) && (has_ended phase || word_in (row 8) 2 == 0)) ≡ true)
    break = and_parts (is_number (row 8)) (in_bounds (word_in (row 8) 0) (word_in (row 8) 1) && (has_ended phase || word_in (row 8) 2 == 0)) n2.1

    bounds : (in_bounds (word_in (row 8) 0) (word_in (row 8) 1) ≡ true) × ((has_ended phase || word_in (row 8) 2 == 0) ≡ true)
    bounds = and_parts (in_bounds (word_in (row 8) 0) (word_in (row 8) 1)) (has_ended phase || word_in (row 8) 2 == 0) break.1

    call : (is_number (row 9) ≡ true) × ((if is_sent phase then nat_lt (word_in (row 9) 0) 256 else are_zero (row 9)) ≡ true)
    call = and_parts (is_number (row 9)) (if is_sent phase then nat_lt (word_in (row 9) 0) 256 else are_zero (row 9)) n4.0

    rest : (is_number (row 10) ≡ true) × ((if is_sent phase then nat_le (word_in (row 10) 2) 4096 else are_zero (row 10)) ≡ true)
    rest = and_parts (is_number (row 10)) (if is_sent phase then nat_le (word_in (row 10) 2) 4096 else are_zero (row 10)) n4.1

    answer : (is_number (row 11) ≡ true) × ((if is_done phase then nat_le (word_in (row 11) 2) 4096 else are_zero (row 11)) ≡ true)
    answer = and_parts (is_number (row 11)) (if is_done phase then nat_le (word_in (row 11) 2) 4096 else are_zero (row 11)) n5.0

    marks : (is_number (row 12) ≡ true) × ((nat_lt (word_in (row 12) 0) 2 && word_in (row 12) 2 == 0) ≡ true)
    marks = and_parts (is_number (row 12)) (nat_lt (word_in (row 12) 0) 2 && word_in (row 12) 2 == 0) n5.1

    parked : (nat_lt (word_in (row 12) 0) 2 ≡ true) × ((word_in (row 12) 2 == 0) ≡ true)
    parked = and_parts (nat_lt (word_in (row 12) 0) 2) (word_in (row 12) 2 == 0) marks.1

    space : (row 0 ≡ key_of_space (segment_in (row 0))) × HasSpace domain phase
    space = space_told row a b phase objects.0

    buffer : (page_in (row 5) ≡ None → row 5 ≡ Null) × BufferFits domain phase
    buffer = buffer_told row a b phase objects.1

    third : is_some (node_in (row 3)) ≡ not (is_zombie phase)
    third = node_some (λ node. has_registers (rows node)) phase (row 3) (node_in (row 3)) nodes.0

    fourth : is_some (node_in (row 4)) ≡ not (is_zombie phase)
    fourth = node_some (λ node. has_descriptors (rows node)) phase (row 4) (node_in (row 4)) nodes.1

    meter : row 2 ≡ Meter slot
    meter = meter_is slot (row 2) places.0

    good_numbers : (place : ℕ) → 6 ≤ place → place ≤ 12 → NumberFits place (row place)
    good_numbers = number_at (λ p. NumberFits p (row p))
        (life_fits (row 6) (state_number (state_for phase)) (state_low (state_for phase)) life.0 (eqb-true (word_in (row 6) 0) (state_number (state_for phase)) life.1))
        (ids_low (row 7) ids.0 (ltb-true (word_in (row 7) 2) 6 ids.1))
        (break_fits (row 8) (word_in (row 8) 0) (word_in (row 8) 1) break.0 refl refl (bounds_told (word_in (row 8) 0) (word_in (row 8) 1) bounds.0))
        (call_fits (row 9) call.0 (call_few row a b phase call.1))
        (request_fits (row 10) rest.0 (length_few row a b (is_sent phase) (row 10) rest.1))
        (answer_fits (row 11) answer.0 (length_few row a b (is_done phase) (row 11) answer.1))
        (marks_fit (row 12) marks.0 (ltb-true (word_in (row 12) 0) 2 parked.0) (eqb-true (word_in (row 12) 2) 0 parked.1))

    fits_told : FitsPhase domain domain.phase
    unfolding full_domain
    fits_told = record {
      whole = whole_told row a b phase third fourth;
      buffer = buffer.1;
      request = request_told row a b phase call.1 rest.1;
      answer = answer_told row a b phase answer.1;
      word = word_told row a b phase bounds.1;
      space = space.1;
    }

    is_root : at (domain_at rows) root ≡ domain
    is_root = root_domain rows root (ap is_meter meter)

    phase_is : domain.phase ≡ phase
    unfolding full_domain
    phase_is = refl

    phase_now : (at (domain_at rows) root).phase ≡ phase
    phase_now = ap (λ (d : Domain). d.phase) is_root ∙ phase_is

    pub domain_told : IsDomainOf rows room slot root
    domain_told = record {
      meter = meter;
      places = record {
        keeper = keeper_is slot (row 1) keeper.0 ∙ ap (λ k. Start (record { 0 = 1 }) (meter_in k)) (sym meter);
        both = third ∙ sym fourth;
        no_words = word_place (λ p. node_in (row p) ≡ None → row p ≡ Null)
            (node_null (λ node. has_registers (rows node)) phase (row 3) (node_in (row 3)) nodes.0)
            (node_null (λ node. has_descriptors (rows node)) phase (row 4) (node_in (row 4)) nodes.1);
        blank = nulls_told row (end root) 13 3 refl keeper.1;
      };
      good = record { of_space = space.0; no_buffer = buffer.0; numbers = good_numbers };
      registers = λ node named. registers_told (rows node) (end node) (node_test (λ node. has_registers (rows node)) phase (row 3) (node_in (row 3)) node nodes.0 named);
      descriptors = λ node named. descriptors_told (rows node) (end node) (node_test (λ node. has_descriptors (rows node)) phase (row 4) (node_in (row 4)) node nodes.1 named);
      fits = subst (λ (d : Domain). FitsPhase d d.phase) (sym is_root) fits_told;
      state = ap state_by (eqb-true (word_in (row 6) 0) (state_number (state_for phase)) life.1) ∙ state_again (state_for phase) ∙ ap state_for (sym phase_now);
      key = room_is phase root (count_in (row 6)) room four.1 ∙ ap (key_for root (count_in (row 6))) (sym phase_now);
    }

  module _ (is : IsDomainOf rows room slot root) where
    was_root : at (domain_at rows) root ≡ domain
    was_root = root_domain rows root (ap is_meter is.meter)

    was_phase : domain.phase ≡ phase
    unfolding full_domain
    was_phase = refl

    phase_then : (at (domain_at rows) root).phase ≡ phase
    phase_then = ap (λ (d : Domain). d.phase) was_root ∙ was_phase

    fits_then : FitsPhase domain phase
    fits_then = subst (FitsPhase domain) was_phase (subst (λ (d : Domain). FitsPhase d d.phase) was_root is.fits)

    number : (place : ℕ) → 6 ≤ place → place ≤ 12 → NumberFits place (row place)
    number = is.good.numbers

    life_then : fits_life phase (row 6) ≡ true
    life_then =
        let six = number 6 (omega arith) (omega arith) in
        and_from (is_number (row 6)) (word_in (row 6) 0 == state_number (state_for phase)) six.number
        (eq-eqb (word_in (row 6) 0) (state_number (state_for phase)) (sym (number_again (word_in (row 6) 0) (six.state refl)) ∙ ap state_number (is.state ∙ ap state_for phase_then)))

    ids_then : fits_ids (row 7) ≡ true
    ids_then =
        let seven = number 7 (omega arith) (omega arith) in
        and_from (is_number (row 7)) (nat_lt (word_in (row 7) 2) 6) seven.number (lt-ltb (word_in (row 7) 2) 6 (seven.phase refl))

    break_then : fits_break phase (row 8) ≡ true
    break_then =
        let eight = number 8 (omega arith) (omega arith) in
        and_from (is_number (row 8)) (in_bounds (word_in (row 8) 0) (word_in (row 8) 1) && (has_ended phase || word_in (row 8) 2 == 0)) eight.number
        (and_from (in_bounds (word_in (row 8) 0) (word_in (row 8) 1)) (has_ended phase || word_in (row 8) 2 == 0)
        (bounds_then (word_in (row 8) 0) (word_in (row 8) 1) (eight.break refl)) (word_then row a b phase fits_then.word))

    call_is : fits_call phase (row 9) ≡ true
    call_is =
        let nine = number 9 (omega arith) (omega arith) in
        and_from (is_number (row 9)) (if is_sent phase then nat_lt (word_in (row 9) 0) 256 else are_zero (row 9)) nine.number (call_then row a b phase fits_then.request (nine.call refl))

    rest_is : fits_rest phase (row 10) ≡ true
    rest_is =
        let ten = number 10 (omega arith) (omega arith) in
        and_from (is_number (row 10)) (if is_sent phase then nat_le (word_in (row 10) 2) 4096 else are_zero (row 10)) ten.number (rest_then row a b phase fits_then.request (ten.request refl))

    answer_is : fits_answer phase (row 11) ≡ true
    answer_is =
        let eleven = number 11 (omega arith) (omega arith) in
        and_from (is_number (row 11)) (if is_done phase then nat_le (word_in (row 11) 2) 4096 else are_zero (row 11)) eleven.number (answer_then row a b phase fits_then.answer (eleven.answer refl))

    marks_then : fits_marks (row 12) ≡ true
    marks_then =
        let twelve = number 12 (omega arith) (omega arith) in
        and_from (is_number (row 12)) (nat_lt (word_in (row 12) 0) 2 && word_in (row 12) 2 == 0) twelve.number
        (and_from (nat_lt (word_in (row 12) 0) 2) (word_in (row 12) 2 == 0) (lt-ltb (word_in (row 12) 0) 2 (twelve.parked refl)) (eq-eqb (word_in (row 12) 2) 0 (twelve.unused refl)))

    numbers_then : has_numbers phase row ≡ true
    numbers_then =
        and_from (fits_life phase (row 6) && (fits_ids (row 7) && fits_break phase (row 8))) ((fits_call phase (row 9) && fits_rest phase (row 10)) && (fits_answer phase (row 11) && fits_marks (row 12)))
        (and_from (fits_life phase (row 6)) (fits_ids (row 7) && fits_break phase (row 8)) life_then (and_from (fits_ids (row 7)) (fits_break phase (row 8)) ids_then break_then))
        (and_from (fits_call phase (row 9) && fits_rest phase (row 10)) (fits_answer phase (row 11) && fits_marks (row 12))
        (and_from (fits_call phase (row 9)) (fits_rest phase (row 10)) call_is rest_is) (and_from (fits_answer phase (row 11)) (fits_marks (row 12)) answer_is marks_then))

    places_then : has_places slot row ≡ true
    places_then = and_from (is_meter_of slot (row 2)) (is_keeper slot (row 1) && all_pass (λ n. is_null (row (13 + n))) 3) (is_meter_then slot (row 2) is.meter)
        (and_from (is_keeper slot (row 1)) (all_pass (λ n. is_null (row (13 + n))) 3)
        (is_keeper_then slot (row 1) (is.places.keeper ∙ ap (λ k. Start (record { 0 = 1 }) (meter_in k)) is.meter)) (nulls_then row (end root) 13 3 is.places.blank))

    objects_then : has_objects phase row ≡ true
    objects_then = and_from (fits_space phase (row 0)) (fits_buffer phase (word_in (row 10) 2) (word_in (row 11) 2) (row 5))
        (space_then row a b phase is.good.of_space fits_then.space) (buffer_then row a b phase is.good.no_buffer fits_then.buffer)

    some_node : is_some (node_in (row 3)) ≡ not (is_zombie phase)
    some_node = whole_then row a b phase is.places.both fits_then.whole

    nodes_then : has_nodes phase rows root ≡ true
    nodes_then = and_from (fits_node (λ node. has_registers (rows node)) phase (row 3) (node_in (row 3))) (fits_node (λ node. has_descriptors (rows node)) phase (row 4) (node_in (row 4)))
        (node_then (λ node. has_registers (rows node)) phase (row 3) (node_in (row 3)) some_node (is.places.no_words 3 (omega arith) (omega arith))
        (λ node named. registers_then (rows node) (end node) (is.registers node named)))
        (node_then (λ node. has_descriptors (rows node)) phase (row 4) (node_in (row 4)) (sym is.places.both ∙ some_node) (is.places.no_words 4 (omega arith) (omega arith))
        (λ node named. descriptors_then (rows node) (end node) (is.descriptors node named)))

    pub domain_then : is_domain_of rows room slot root ≡ true
    domain_then =
        and_from (has_places slot row) (has_numbers phase row && (has_objects phase row && (has_nodes phase rows root && fits_room phase root (count_in (row 6)) room))) places_then
        (and_from (has_numbers phase row) (has_objects phase row && (has_nodes phase rows root && fits_room phase root (count_in (row 6)) room)) numbers_then
        (and_from (has_objects phase row) (has_nodes phase rows root && fits_room phase root (count_in (row 6)) room) objects_then
        (and_from (has_nodes phase rows root) (fits_room phase root (count_in (row 6)) room) nodes_then
        (fits_room_then phase root (count_in (row 6)) room (is.key ∙ ap (key_for root (count_in (row 6))) phase_then)))))

-- a slot whose key names a root is right where the test of that root tells so
pub slot_told : (kernel : Kernel) (slot : ℕ) (key room : Key) (root : NodeId) (result : Bool) → key ≡ node_rows kernel (11 + slot / 16) (slot % 16) → room ≡ node_rows kernel (7 + slot / 16) (slot % 16)
    → key ≡ DomainKey root → result ≡ is_domain_of (node_rows kernel) room slot root.0 → IsTrue result ↔ SlotGood kernel slot
slot_told kernel slot key room root result key_read room_read is told =
    let rows = node_rows kernel in
    subst (λ (k : Key). IsTrue result ↔ IsRightSlot rows (rows (7 + slot / 16) (slot % 16)) slot k) (sym (sym key_read ∙ is)) (
      λ e. subst (λ (r : Key). IsDomainOf rows r slot root.0) room_read (domain_told rows room slot root.0 (rows_end kernel) (sym told ∙ e)),
      λ right. told ∙ domain_then rows room slot root.0 (rows_end kernel) (subst (λ (r : Key). IsDomainOf rows r slot root.0) (sym room_read) right),
    )
