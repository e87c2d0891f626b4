-- A domain of three fresh nodes.
use Rattle.std.proofs.Common.{◌≡◌, ◌≢◌, ◌<◌, ◌≤◌, ◌+◌, ◌/◌, ◌%◌, ℕ, Option, Some, None, Bool, true, false, nat_lt, List, refl, ap, sym, subst, ◌∙◌, arith, if◌then◌else◌, ⊎_elim, ◌⊎◌, inl, inr}
use Rattle.std.proofs.Math.Path.{fun_ext}
use Rattle.std.proofs.lemmas.Bool.{cases_eq, cases_lt, cases_Bool, lt-ltb, le-ltb, eq-eqb}
use Rattle.kn_base.specs.declared.key.Key.{Key}
use Rattle.kn_base.specs.declared.key.Key.TheVariants.{Null, Node, Start, Meter, Domain as DomainKey}
use Rattle.kernel_tables.specs.declared.entry.NodeOwner.{NodeOwner}
use Rattle.kernel_tables.specs.declared.entry.Entry.{Entry}
use Rattle.kernel_tables.specs.declared.entry.Entry.TheVariants.{Free, Taken, Fixed, Unspelled}
use Rattle.kernel_tables.specs.Kernel.{Kernel}
use Rattle.kernel_tables.specs.Rows.{entry_at, rows, domain_rows, of_domain}
use Rattle.space_bank.specs.FreeList.{is_free}
use Rattle.space_bank.specs.Shares.{Outside, Shares, key_names_node}
use Rattle.kernel_forest.specs.Moves.{TakesRow}
use Rattle.unix_model.specs.Tables.{at, with_at}
use Rattle.unix_model.proofs.TableLaws.{with_at-same}
use Rattle.domain.specs.Keys.{is_number, is_meter, node_in, root_in, word_in, count_in, key_of_space}
use Rattle.domain.specs.Domains.{no_domain, full_domain, domain_by, domain_at, words_of, node_words, lives_by, life_in, roots_by}
use Rattle.unix_model.specs.Rules.{IsBreak}
use Rattle.domain.specs.Rules.{RootGood, RootPlaces, RowsGood, NumberFits, RegistersGood, DescriptorsGood, NobodyIn, written}
use Rattle.domain.specs.Life.{with_zeros, null_row, zero_row, zero_number, root_row, born}
use Rattle.domain.proofs.RowLaws.{here_at, other_at, changed_at, row_case, written_both, rows_good_same, unnamed_words_good, number_no_node}
use Rattle.domain.proofs.DomainLaws.{domains_at, lives_row_same}
use Rattle.domain.proofs.WordLaws.{number_no_meter, no_root}
use Rattle.domain.proofs.WordRows.{three_four}

-- the keys of a fresh node are Null, and nothing names it
pub fresh_null : (old new : Kernel) (node : ℕ) → TakesRow old new node → domain_rows new node ≡ null_row
unfolding rows
fresh_null old new node takes = fun_ext (λ place. ⊎_elim
    (λ (t : place < 16). rw (takes.entry, lt-ltb place 16 t) (takes.nulls place t))
    (λ (t : 16 ≤ place). rw (takes.entry, le-ltb place 16 t) refl)
    (cases_lt place 16))

pub null_place : (row : ℕ → Key) → row ≡ null_row → (place : ℕ) → row place ≡ Null
null_place row null place = ap (λ (r : ℕ → Key). r place) null

pub fresh_place : (old new : Kernel) (node : ℕ) → TakesRow old new node → (place : ℕ) → domain_rows new node place ≡ Null
fresh_place old new node takes place = null_place (domain_rows new node) (fresh_null old new node takes) place

pub fresh_mine : (old new : Kernel) (node : ℕ) → TakesRow old new node → of_domain (entry_at new.node_entries node) ≡ true
fresh_mine old new node takes = ap of_domain takes.entry

node_named : (key : Key) (n : ℕ) → node_in key ≡ Some n → key_names_node n key ≡ true
node_named (Node node) n e = let same : node.0 ≡ n = cc in eq-eqb node.0 n same
node_named _ n e = cc

pub fresh_nobody : (old new : Kernel) (node : ℕ) (outside : Outside) (hand : List Key) → TakesRow old new node → Shares old outside hand → NobodyIn (domain_rows new) node
fresh_nobody old new node outside hand takes counted a i named =
    let no : false ≡ true = sym (takes.unnamed outside hand counted of_domain a i) ∙ node_named (domain_rows new a i) node named in cc

none_not : (o : Option ℕ) (x : ℕ) → o ≡ None → o ≡ Some x → ⊥
none_not o x none some = let no : None ≡ Some x = sym none ∙ some in cc

-- ---- a node of words is filled

zero_place : (place : ℕ) → (zero_row place ≡ zero_number) ⊎ (zero_row place ≡ Null)
unfolding with_zeros
zero_place place = ⊎_elim
    (λ (t : place < 11). inl (rw (le-ltb place 0 (omega arith), lt-ltb place 11 t) refl))
    (λ (t : 11 ≤ place). inr (rw (le-ltb place 0 (omega arith), le-ltb place 11 t) refl))
    (cases_lt place 11)

pub zero_plain : (place : ℕ) → node_in (zero_row place) ≡ None
zero_plain place = ⊎_elim (λ e. ap node_in e) (λ e. ap node_in e) (zero_place place)

pub zero_is_number : (place : ℕ) → place < 11 → is_number (zero_row place) ≡ true
unfolding with_zeros
zero_is_number place low = rw (le-ltb place 0 (omega arith), lt-ltb place 11 low) refl

pub zero_is_null : (place : ℕ) → 11 ≤ place → zero_row place ≡ Null
unfolding with_zeros
zero_is_null place above = rw (le-ltb place 0 (omega arith), le-ltb place 11 above) refl

pub nobody_row : (rows : ℕ → ℕ → Key) (n : ℕ) (row : ℕ → Key) (m : ℕ) → NobodyIn rows m → ((i : ℕ) → node_in (row i) ≡ None) → NobodyIn (with_at rows n row) m
nobody_row rows n row m nobody none a i = row_case rows n row (λ (r : ℕ → Key). node_in (r i) ≡ Some m → ⊥) a (λ e. none_not (node_in (row i)) m (none i)) (λ d. nobody a i)

-- a row without Node keys, of a fresh node, which is no root's
pub idle_good : (rows : ℕ → ℕ → Key) (n : ℕ) (row : ℕ → Key) → RowsGood rows → NobodyIn rows n → rows n ≡ null_row → ((i : ℕ) → node_in (row i) ≡ None) → is_meter (row 2) ≡ false → RowsGood (with_at rows n row)
idle_good rows n row good nobody null plain none = rows_good_same rows n row good (λ i. plain i ∙ sym (ap (λ (r : ℕ → Key). node_in (r i)) null)) (λ a i j named low. absurd (nobody a i named))
    (λ a i j named above. absurd (nobody a i named)) (unnamed_words_good rows n row nobody) (λ meter. let no : false ≡ true = sym none ∙ meter in cc)
    (λ meter. let no : false ≡ true = sym none ∙ meter in cc)

pub idle_domains : (rows : ℕ → ℕ → Key) (n : ℕ) (row : ℕ → Key) → NobodyIn rows n → rows n ≡ null_row → ((i : ℕ) → node_in (row i) ≡ None) → is_meter (row 2) ≡ false → domain_at (with_at rows n row) ≡ domain_at rows
unfolding domain_at at
idle_domains rows n row nobody null plain none =
    domains_at rows n row nobody (none_not (node_in (row 3)) n (plain 3)) (none_not (node_in (row 4)) n (plain 4))
    ∙ with_at-same (domain_at rows) n (domain_by row (words_of rows (node_in (row 3))) (words_of rows (node_in (row 4))))
    (no_root (rows n) (words_of rows (node_in (rows n 3))) (words_of rows (node_in (rows n 4))) (ap (λ (r : ℕ → Key). is_meter (r 2)) null)
    ∙ sym (no_root row (words_of rows (node_in (row 3))) (words_of rows (node_in (row 4))) none))

pub idle_lives : (rows fixed : ℕ → ℕ → Key) (n : ℕ) (row : ℕ → Key) → rows n ≡ null_row → is_meter (row 2) ≡ false → lives_by (with_at rows n row) fixed ≡ lives_by rows fixed
idle_lives rows fixed n row null none = lives_row_same rows fixed n row (none ∙ sym (ap (λ (r : ℕ → Key). is_meter (r 2)) null))
    (λ meter. let no : false ≡ true = sym (ap (λ (r : ℕ → Key). is_meter (r 2)) null) ∙ meter in cc)

-- no word of a fresh node says anything
no_word : (key : Key) (r : ℕ) → r < 3 → word_in key 0 ≡ 0 → word_in key 1 ≡ 0 → word_in key 2 ≡ 0 → word_in key r ≡ 0
no_word key r low a b d = ⊎_elim
    (λ (e : r ≡ 0). ap (word_in key) e ∙ a)
    (λ (f : r ≢ 0). ⊎_elim (λ (e : r ≡ 1). ap (word_in key) e ∙ b) (λ (h : r ≢ 1). ap (word_in key) (let two : r ≡ 2 = omega arith in two) ∙ d) (cases_eq r 1))
    (cases_eq r 0)

pub zero_word : (r : ℕ) → r < 3 → word_in zero_number r ≡ 0
unfolding word_in
zero_word r low = no_word zero_number r low refl refl refl

null_word : (r : ℕ) → r < 3 → word_in Null r ≡ 0
unfolding word_in
null_word r low = no_word Null r low refl refl refl

zero_words : (n : ℕ) → node_words zero_row n ≡ 0
unfolding node_words
zero_words n = ⊎_elim
    (λ (t : n < 33). rw (lt-ltb n 33 t) (⊎_elim
    (λ e. ap (λ k. word_in k (n % 3)) e ∙ zero_word (n % 3) (let low : n % 3 < 3 = omega arith in low))
    (λ e. ap (λ k. word_in k (n % 3)) e ∙ null_word (n % 3) (let low : n % 3 < 3 = omega arith in low))
    (zero_place (n / 3))))
    (λ (t : 33 ≤ n). rw (le-ltb n 33 t) refl)
    (cases_lt n 33)

zero_registers_good : RegistersGood zero_row
zero_registers_good = record { zero = zero_words 0; aligned = ap (λ w. w % 4) (zero_words 32) }

zero_descriptors_good : DescriptorsGood zero_row
zero_descriptors_good = record { fit = λ n low. let z = zero_words n in omega arith; unused = zero_words 32 }

-- a break that nobody has set
pub no_break : IsBreak 0 0
no_break = record { start_aligned = refl; order = omega arith; limit = omega arith }

zero_fits : (place : ℕ) → NumberFits place zero_number
zero_fits place =
    let first = zero_word 0 (omega arith) in
    let second = zero_word 1 (omega arith) in
    let third = zero_word 2 (omega arith) in
    record {
      number = refl;
      state = λ e. omega arith;
      phase = λ e. omega arith;
      break = λ e. subst (λ n. IsBreak n (word_in zero_number 1)) (sym first) (subst (IsBreak 0) (sym second) no_break);
      call = λ e. omega arith;
      request = λ e. omega arith;
      answer = λ e. omega arith;
      parked = λ e. omega arith;
      unused = λ e. third;
    }

-- ---- the root

data Names (rows : ℕ → ℕ → Key) (root a b p i m : ℕ) : Type 0 where
  third : p ≡ root → i ≡ 3 → m ≡ a → Names rows root a b p i m
  fourth : p ≡ root → i ≡ 4 → m ≡ b → Names rows root a b p i m
  as_before : node_in (rows p i) ≡ Some m → Names rows root a b p i m

-- A root's row in a fresh node, which names two nodes of words that nothing names yet.
module _ (rows : ℕ → ℕ → Key) (root a b : ℕ) (row : ℕ → Key) (good : RowsGood rows) (no_root_named : NobodyIn rows root) (no_a : NobodyIn rows a) (no_b : NobodyIn rows b)
    (a_b : a ≢ b) (root_a : root ≢ a) (root_b : root ≢ b) (is_a : node_in (row 3) ≡ Some a) (is_b : node_in (row 4) ≡ Some b)
    (plain : (i : ℕ) → i ≢ 3 → i ≢ 4 → node_in (row i) ≡ None) (zero_a : rows a ≡ zero_row) (zero_b : rows b ≡ zero_row) (root_places : RootPlaces row) (root_good : RootGood row) where
  in_row : (p i m : ℕ) → p ≡ root → node_in (row i) ≡ Some m → Names rows root a b p i m
  in_row p i m here named = ⊎_elim
      (λ (e : i ≡ 3). third here e (let same : Some a ≡ Some m = sym is_a ∙ ap (λ j. node_in (row j)) (sym e) ∙ named in cc))
      (λ (d : i ≢ 3). ⊎_elim
      (λ (e : i ≡ 4). fourth here e (let same : Some b ≡ Some m = sym is_b ∙ ap (λ j. node_in (row j)) (sym e) ∙ named in cc))
      (λ (f : i ≢ 4). absurd (none_not (node_in (row i)) m (plain i d f) named))
      (cases_eq i 4))
      (cases_eq i 3)

  names_in : (p i m : ℕ) → node_in (with_at rows root row p i) ≡ Some m → Names rows root a b p i m
  names_in p i m = row_case rows root row (λ (r : ℕ → Key). node_in (r i) ≡ Some m → Names rows root a b p i m) p (λ e. in_row p i m e) (λ d h. as_before h)

  one_place : (p i q j m : ℕ) → Names rows root a b p i m → Names rows root a b q j m → (p ≡ q) × (i ≡ j)
  one_place p i q j m (third x y z) (third u v w) = (x ∙ sym u, y ∙ sym v)
  one_place p i q j m (third x y z) (fourth u v w) = absurd (a_b (sym z ∙ w))
  one_place p i q j m (third x y z) (as_before u) = absurd (no_a q j (u ∙ ap Some z))
  one_place p i q j m (fourth x y z) (third u v w) = absurd (a_b (sym w ∙ z))
  one_place p i q j m (fourth x y z) (fourth u v w) = (x ∙ sym u, y ∙ sym v)
  one_place p i q j m (fourth x y z) (as_before u) = absurd (no_b q j (u ∙ ap Some z))
  one_place p i q j m (as_before x) (third u v w) = absurd (no_a p i (x ∙ ap Some w))
  one_place p i q j m (as_before x) (fourth u v w) = absurd (no_b p i (x ∙ ap Some w))
  one_place p i q j m (as_before x) (as_before u) = good.single p i q j m x u

  holds_numbers : (p i m j : ℕ) → Names rows root a b p i m → j < 11 → is_number (rows m j) ≡ true
  holds_numbers p i m j (third x y z) low = ap (λ n. is_number (rows n j)) z ∙ ap (λ (r : ℕ → Key). is_number (r j)) zero_a ∙ zero_is_number j low
  holds_numbers p i m j (fourth x y z) low = ap (λ n. is_number (rows n j)) z ∙ ap (λ (r : ℕ → Key). is_number (r j)) zero_b ∙ zero_is_number j low
  holds_numbers p i m j (as_before x) low = good.plain p i m j x low

  holds_nulls : (p i m j : ℕ) → Names rows root a b p i m → 11 ≤ j → rows m j ≡ Null
  holds_nulls p i m j (third x y z) above = ap (λ n. rows n j) z ∙ ap (λ (r : ℕ → Key). r j) zero_a ∙ zero_is_null j above
  holds_nulls p i m j (fourth x y z) above = ap (λ n. rows n j) z ∙ ap (λ (r : ℕ → Key). r j) zero_b ∙ zero_is_null j above
  holds_nulls p i m j (as_before x) above = good.blank p i m j x above

  holds_registers : (p i m : ℕ) → Names rows root a b p i m → i ≡ 3 → RegistersGood (rows m)
  holds_registers p i m (third x y z) here = subst RegistersGood (sym (ap rows z ∙ zero_a)) zero_registers_good
  holds_registers p i m (fourth x y z) here = absurd (three_four (sym here ∙ y))
  holds_registers p i m (as_before x) here = (good.words m).registers p (ap (λ j. node_in (rows p j)) (sym here) ∙ x)

  holds_descriptors : (p i m : ℕ) → Names rows root a b p i m → i ≡ 4 → DescriptorsGood (rows m)
  holds_descriptors p i m (third x y z) here = absurd (three_four (sym y ∙ here))
  holds_descriptors p i m (fourth x y z) here = subst DescriptorsGood (sym (ap rows z ∙ zero_b)) zero_descriptors_good
  holds_descriptors p i m (as_before x) here = (good.words m).descriptors p (ap (λ j. node_in (rows p j)) (sym here) ∙ x)

  not_root : (p i m : ℕ) → Names rows root a b p i m → m ≡ root → ⊥
  not_root p i m (third x y z) e = root_a (sym e ∙ z)
  not_root p i m (fourth x y z) e = root_b (sym e ∙ z)
  not_root p i m (as_before x) e = no_root_named p i (x ∙ ap Some e)

  pub born_good : RowsGood (with_at rows root row)
  born_good = record {
    single = λ p i q j m h k. one_place p i q j m (names_in p i m h) (names_in q j m k);
    plain = λ p i m j h low. row_case rows root row (λ (r : ℕ → Key). is_number (r j) ≡ true) m
        (λ e. absurd (not_root p i m (names_in p i m h) e)) (λ d. holds_numbers p i m j (names_in p i m h) low);
    blank = λ p i m j h above. row_case rows root row (λ (r : ℕ → Key). r j ≡ Null) m
        (λ e. absurd (not_root p i m (names_in p i m h) e)) (λ d. holds_nulls p i m j (names_in p i m h) above);
    words = λ m. record {
      registers = λ p h. row_case rows root row RegistersGood m (λ e. absurd (not_root p 3 m (names_in p 3 m h) e)) (λ d. holds_registers p 3 m (names_in p 3 m h) refl);
      descriptors = λ p h. row_case rows root row DescriptorsGood m (λ e. absurd (not_root p 4 m (names_in p 4 m h) e)) (λ d. holds_descriptors p 4 m (names_in p 4 m h) refl);
    };
    places = λ m meter. row_case rows root row (λ (r : ℕ → Key). is_meter (r 2) ≡ true → RootPlaces r) m (λ e h. root_places) (λ d h. good.places m h) meter;
    roots = λ m meter. row_case rows root row (λ (r : ℕ → Key). is_meter (r 2) ≡ true → RootGood r) m (λ e h. root_good) (λ d h. good.roots m h) meter;
  }

  pub born_domains : is_meter (row 2) ≡ true → domain_at (with_at rows root row) ≡ with_at (domain_at rows) root (full_domain row (node_words zero_row) (node_words zero_row))
  born_domains meter =
      domains_at rows root row no_root_named (λ e. root_a (let same : Some a ≡ Some root = sym is_a ∙ e in cc)) (λ e. root_b (let same : Some b ≡ Some root = sym is_b ∙ e in cc))
      ∙ ap (with_at (domain_at rows) root)
      (ap (λ o. domain_by row (words_of rows o) (words_of rows (node_in (row 4)))) is_a
      ∙ ap (λ o. domain_by row (node_words (rows a)) (words_of rows o)) is_b
      ∙ ap (λ (r : ℕ → Key). domain_by row (node_words r) (node_words (rows b))) zero_a
      ∙ ap (λ (r : ℕ → Key). domain_by row (node_words zero_row) (node_words r)) zero_b
      ∙ ap (λ t. if t then full_domain row (node_words zero_row) (node_words zero_row) else no_domain) meter)

-- the life of a fresh root
pub born_lives : (rows fixed : ℕ → ℕ → Key) (root : ℕ) (row : ℕ → Key) → is_meter (row 2) ≡ true → lives_by (with_at rows root row) fixed ≡ with_at (lives_by rows fixed) root (life_in (row 6))
unfolding lives_by
born_lives rows fixed root row meter =
    changed_at (lives_by rows fixed) (lives_by (with_at rows root row) fixed) root (life_in (row 6))
    (ap (λ (r : ℕ → Key). life_in (if is_meter (r 2) then r 6 else fixed root 6)) (here_at rows root row) ∙ ap (λ t. life_in (if t then row 6 else fixed root 6)) meter)
    (λ q apart. ap (λ (r : ℕ → Key). life_in (if is_meter (r 2) then r 6 else fixed q 6)) (other_at rows root q row apart))

born_row : (life : Key) (slot space regs descriptors : ℕ) → full_domain (root_row life slot space regs descriptors) (λ n. 0) (λ n. 0) ≡ born slot space regs descriptors
unfolding full_domain root_row with_zeros with_at word_in
born_row life slot space regs descriptors = refl

pub born_is : (life : Key) (slot space regs descriptors : ℕ) → full_domain (root_row life slot space regs descriptors) (node_words zero_row) (node_words zero_row) ≡ born slot space regs descriptors
born_is life slot space regs descriptors =
    ap (λ w. full_domain (root_row life slot space regs descriptors) w (node_words zero_row)) (fun_ext zero_words)
    ∙ ap (full_domain (root_row life slot space regs descriptors) (λ n. 0)) (fun_ext zero_words)
    ∙ born_row life slot space regs descriptors

zeros_there : (place : ℕ) → 7 ≤ place → place < 13 → with_zeros null_row 7 13 place ≡ zero_number
unfolding with_zeros
zeros_there place low high = rw (le-ltb place 7 low, lt-ltb place 13 high) refl

root_numbers : (life : Key) (slot space regs descriptors place : ℕ) → NumberFits 6 life → 6 ≤ place → place ≤ 12 → NumberFits place (root_row life slot space regs descriptors place)
unfolding root_row
root_numbers life slot space regs descriptors place fits low high =
    let r0 = with_zeros null_row 7 13 in
    let r1 = with_at r0 6 life in
    let r2 = with_at r1 2 (Meter slot) in
    let r3 = with_at r2 0 (key_of_space (Some space)) in
    let r4 = with_at r3 1 (Start (record { 0 = 1 }) slot) in
    let r5 = with_at r4 3 (Node (record { 0 = regs })) in
    row_case r5 4 (Node (record { 0 = descriptors })) (NumberFits place) place (λ e. absurd (omega arith)) (λ d5.
    row_case r4 3 (Node (record { 0 = regs })) (NumberFits place) place (λ e. absurd (omega arith)) (λ d4.
    row_case r3 1 (Start (record { 0 = 1 }) slot) (NumberFits place) place (λ e. absurd (omega arith)) (λ d3.
    row_case r2 0 (key_of_space (Some space)) (NumberFits place) place (λ e. absurd (omega arith)) (λ d2.
    row_case r1 2 (Meter slot) (NumberFits place) place (λ e. absurd (omega arith)) (λ d1.
    row_case r0 6 life (NumberFits place) place (λ e. subst (λ p. NumberFits p life) (sym e) fits) (λ d0. subst (NumberFits place) (sym (zeros_there place (omega arith) (omega arith))) (zero_fits place)))))))

pub born_root_good : (life : Key) (slot space regs descriptors : ℕ) → NumberFits 6 life → RootGood (root_row life slot space regs descriptors)
unfolding root_row with_zeros with_at
born_root_good life slot space regs descriptors fits = record {
  of_space = refl;
  no_buffer = λ e. refl;
  numbers = λ place low high. root_numbers life slot space regs descriptors place fits low high;
}

zeros_past : (place : ℕ) → 13 ≤ place → with_zeros null_row 7 13 place ≡ Null
unfolding with_zeros
zeros_past place above = rw (le-ltb place 7 (omega arith), le-ltb place 13 above) refl

root_blank : (life : Key) (slot space regs descriptors place : ℕ) → 13 ≤ place → root_row life slot space regs descriptors place ≡ Null
unfolding root_row
root_blank life slot space regs descriptors place above =
    let r0 = with_zeros null_row 7 13 in
    let r1 = with_at r0 6 life in
    let r2 = with_at r1 2 (Meter slot) in
    let r3 = with_at r2 0 (key_of_space (Some space)) in
    let r4 = with_at r3 1 (Start (record { 0 = 1 }) slot) in
    let r5 = with_at r4 3 (Node (record { 0 = regs })) in
    row_case r5 4 (Node (record { 0 = descriptors })) (λ k. k ≡ Null) place (λ e. absurd (omega arith)) (λ d5.
    row_case r4 3 (Node (record { 0 = regs })) (λ k. k ≡ Null) place (λ e. absurd (omega arith)) (λ d4.
    row_case r3 1 (Start (record { 0 = 1 }) slot) (λ k. k ≡ Null) place (λ e. absurd (omega arith)) (λ d3.
    row_case r2 0 (key_of_space (Some space)) (λ k. k ≡ Null) place (λ e. absurd (omega arith)) (λ d2.
    row_case r1 2 (Meter slot) (λ k. k ≡ Null) place (λ e. absurd (omega arith)) (λ d1.
    row_case r0 6 life (λ k. k ≡ Null) place (λ e. absurd (omega arith)) (λ d0. zeros_past place above))))))

root_words : (life : Key) (slot space regs descriptors place : ℕ) → 3 ≤ place → place ≤ 4 → node_in (root_row life slot space regs descriptors place) ≡ None → root_row life slot space regs descriptors place ≡ Null
unfolding root_row with_at with_zeros
root_words life slot space regs descriptors place low high none = ⊎_elim
    (λ (e : place ≡ 3). let no : Some regs ≡ None = ap (λ p. node_in (root_row life slot space regs descriptors p)) (sym e) ∙ none in cc)
    (λ (d : place ≢ 3). let e : place ≡ 4 = omega arith in let no : Some descriptors ≡ None = ap (λ p. node_in (root_row life slot space regs descriptors p)) (sym e) ∙ none in cc)
    (cases_eq place 3)

pub born_root_places : (life : Key) (slot space regs descriptors : ℕ) → RootPlaces (root_row life slot space regs descriptors)
unfolding root_row with_at with_zeros
born_root_places life slot space regs descriptors = record {
  keeper = refl;
  both = refl;
  no_words = λ place low high none. root_words life slot space regs descriptors place low high none;
  blank = λ place above. root_blank life slot space regs descriptors place above;
}

zeros_plain : (i : ℕ) → node_in (with_zeros null_row 7 13 i) ≡ None
unfolding with_zeros
zeros_plain i = ⊎_elim
    (λ (t : nat_lt i 7 ≡ true). rw t refl)
    (λ (t : nat_lt i 7 ≡ false). ⊎_elim (λ (u : nat_lt i 13 ≡ true). rw (t, u) refl) (λ (u : nat_lt i 13 ≡ false). rw (t, u) refl) (cases_Bool (nat_lt i 13)))
    (cases_Bool (nat_lt i 7))

root_plain : (life : Key) (slot space regs descriptors i : ℕ) → is_number life ≡ true → i ≢ 3 → i ≢ 4 → node_in (root_row life slot space regs descriptors i) ≡ None
unfolding root_row
root_plain life slot space regs descriptors i number three four =
    let r0 = with_zeros null_row 7 13 in
    let r1 = with_at r0 6 life in
    let r2 = with_at r1 2 (Meter slot) in
    let r3 = with_at r2 0 (key_of_space (Some space)) in
    let r4 = with_at r3 1 (Start (record { 0 = 1 }) slot) in
    let r5 = with_at r4 3 (Node (record { 0 = regs })) in
    row_case r5 4 (Node (record { 0 = descriptors })) (λ k. node_in k ≡ None) i (λ e. absurd (four e)) (λ d5.
    row_case r4 3 (Node (record { 0 = regs })) (λ k. node_in k ≡ None) i (λ e. absurd (three e)) (λ d4.
    row_case r3 1 (Start (record { 0 = 1 }) slot) (λ k. node_in k ≡ None) i (λ e. refl) (λ d3.
    row_case r2 0 (key_of_space (Some space)) (λ k. node_in k ≡ None) i (λ e. refl) (λ d2.
    row_case r1 2 (Meter slot) (λ k. node_in k ≡ None) i (λ e. refl) (λ d1.
    row_case r0 6 life (λ k. node_in k ≡ None) i (λ e. number_no_node life number) (λ d0. zeros_plain i))))))

-- what else stands in a fresh root
pub root_meter : (life : Key) (slot space regs descriptors : ℕ) → is_meter (root_row life slot space regs descriptors 2) ≡ true
unfolding root_row with_at
root_meter life slot space regs descriptors = refl

pub root_third : (life : Key) (slot space regs descriptors : ℕ) → node_in (root_row life slot space regs descriptors 3) ≡ Some regs
unfolding root_row with_at
root_third life slot space regs descriptors = refl

pub root_fourth : (life : Key) (slot space regs descriptors : ℕ) → node_in (root_row life slot space regs descriptors 4) ≡ Some descriptors
unfolding root_row with_at
root_fourth life slot space regs descriptors = refl

pub root_life_key : (life : Key) (slot space regs descriptors : ℕ) → root_row life slot space regs descriptors 6 ≡ life
unfolding root_row with_at
root_life_key life slot space regs descriptors = refl

pub root_plain_keys : (life : Key) (slot space regs descriptors : ℕ) → is_number life ≡ true → (i : ℕ) → i ≢ 3 → i ≢ 4 → node_in (root_row life slot space regs descriptors i) ≡ None
root_plain_keys life slot space regs descriptors number i three four = root_plain life slot space regs descriptors i number three four

-- the slot table with one slot more
written_here : (rows : ℕ → ℕ → Key) (node place : ℕ) (key : Key) → written rows node place key node place ≡ key
unfolding at
written_here rows node place key = ap (λ (r : ℕ → Key). r place) (here_at rows node (with_at (rows node) place key)) ∙ here_at (rows node) place key

pub roots_more : (fixed : ℕ → ℕ → Key) (slot root : ℕ) → slot < 64 → roots_by (written fixed (11 + slot / 16) (slot % 16) (DomainKey (record { 0 = root }))) ≡ with_at (roots_by fixed) slot (Some root)
unfolding roots_by
roots_more fixed slot root low =
    changed_at (roots_by fixed) (roots_by (written fixed (11 + slot / 16) (slot % 16) (DomainKey (record { 0 = root })))) slot (Some root)
    (ap (λ k. if nat_lt slot 64 then root_in k else None) (written_here fixed (11 + slot / 16) (slot % 16) (DomainKey (record { 0 = root }))) ∙ ap (λ b. if b then Some root else None) (lt-ltb slot 64 low))
    (λ q apart. ap (λ k. if nat_lt q 64 then root_in k else None)
    (written_both fixed (11 + slot / 16) (slot % 16) (DomainKey (record { 0 = root })) (λ k. k ≡ fixed (11 + q / 16) (q % 16)) (11 + q / 16) (q % 16)
    (λ e f. absurd (apart (let same : q ≡ slot = omega arith in same))) refl))

life_if : (b : Bool) (x y z : Key) → life_in y ≡ life_in z → life_in (if b then x else y) ≡ life_in (if b then x else z)
life_if true x y z e = refl
life_if false x y z e = e

no_life : (root : ℕ) → life_in (DomainKey (record { 0 = root })) ≡ life_in Null
unfolding word_in count_in
no_life root = refl

pub lives_slot : (rows fixed : ℕ → ℕ → Key) (node place root : ℕ) → fixed node place ≡ Null → lives_by rows (written fixed node place (DomainKey (record { 0 = root }))) ≡ lives_by rows fixed
unfolding lives_by
lives_slot rows fixed node place root null = fun_ext (λ m.
    life_if (is_meter (rows m 2)) (rows m 6) (written fixed node place (DomainKey (record { 0 = root })) m 6) (fixed m 6)
    (written_both fixed node place (DomainKey (record { 0 = root })) (λ k. life_in k ≡ life_in (fixed m 6)) m 6
    (λ e f. no_life root ∙ ap life_in (sym null) ∙ ap (λ n. life_in (fixed n place)) (sym e) ∙ ap (λ p. life_in (fixed m p)) (sym f)) refl))

pub zero_no_meter : is_meter (zero_row 2) ≡ false
zero_no_meter = number_no_meter (zero_row 2) (zero_is_number 2 (omega arith))

free_no_domain : (entry : Entry NodeOwner) → is_free entry ≡ true → of_domain entry ≡ false
free_no_domain (Free next) free = refl
free_no_domain (Taken owner count) free = cc
free_no_domain Fixed free = refl
free_no_domain Unspelled free = refl

-- a free node is no root
pub fresh_domain : (kernel : Kernel) (node : ℕ) → is_free (entry_at kernel.node_entries node) ≡ true → at (domain_at (domain_rows kernel)) node ≡ no_domain
unfolding at domain_at rows
fresh_domain kernel node free =
    no_root (domain_rows kernel node) (words_of (domain_rows kernel) (node_in (domain_rows kernel node 3))) (words_of (domain_rows kernel) (node_in (domain_rows kernel node 4)))
    (rw (free_no_domain (entry_at kernel.node_entries node) free) refl)
