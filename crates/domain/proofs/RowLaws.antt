-- Rows of keys, while a key is written in one.
use Rattle.std.proofs.Common.{◌≡◌, ◌≢◌, ◌<◌, ◌≤◌, ℕ, Some, None, true, false, refl, ap, sym, subst, ◌∙◌, arith, ⊎_elim}
use Rattle.std.proofs.Math.Path.{fun_ext}
use Rattle.std.specs.Option.{is_some}
use Rattle.std.proofs.lemmas.Bool.{cases_eq, eq-eqb, ne_eqb}
use Rattle.kn_base.specs.declared.key.Key.{Key}
use Rattle.kn_base.specs.declared.key.Key.TheVariants.{Null, Number, Meter, Start}
use Rattle.unix_model.specs.Tables.{at, with_at}
use Rattle.domain.specs.Keys.{is_number, is_meter, meter_in, node_in, segment_in, page_in, key_of_space}
use Rattle.domain.specs.Rules.{RootGood, RootPlaces, RowsGood, NumberFits, WordsGood, NobodyIn, written}

pub here_at : {X : Type 0} (f : ℕ → X) (n : ℕ) (x : X) → with_at f n x n ≡ x
unfolding with_at
here_at f n x = rw (eq-eqb n n refl) refl

pub other_at : {X : Type 0} (f : ℕ → X) (n m : ℕ) (x : X) → m ≢ n → with_at f n x m ≡ f m
unfolding with_at
other_at f n m x apart = rw (ne_eqb m n apart) refl

pub changed_at : {X : Type 0} (f g : ℕ → X) (n : ℕ) (x : X) → g n ≡ x → ((q : ℕ) → q ≢ n → g q ≡ f q) → g ≡ with_at f n x
changed_at f g n x here there = fun_ext (λ q. ⊎_elim
    (λ (e : q ≡ n). ap g e ∙ here ∙ sym (ap (with_at f n x) e ∙ here_at f n x))
    (λ (d : q ≢ n). there q d ∙ sym (other_at f n q x d))
    (cases_eq q n))

-- what stands at a place after a key was written
pub data At (rows : ℕ → ℕ → Key) (node place : ℕ) (key : Key) (m j : ℕ) : Type 0 where
  there : m ≡ node → j ≡ place → written rows node place key m j ≡ key → At rows node place key m j
  as_before : written rows node place key m j ≡ rows m j → At rows node place key m j

pub at_place : (rows : ℕ → ℕ → Key) (node place : ℕ) (key : Key) (m j : ℕ) → At rows node place key m j
unfolding at
at_place rows node place key m j = ⊎_elim
    (λ (e : m ≡ node).
    let row : written rows node place key m ≡ with_at (rows node) place key = ap (written rows node place key) e ∙ here_at rows node (with_at (rows node) place key) in
    ⊎_elim
    (λ (f : j ≡ place). there e f (ap (λ (r : ℕ → Key). r j) row ∙ ap (with_at (rows node) place key) f ∙ here_at (rows node) place key))
    (λ (f : j ≢ place). as_before (ap (λ (r : ℕ → Key). r j) row ∙ other_at (rows node) place j key f ∙ ap (λ k. rows k j) (sym e)))
    (cases_eq j place))
    (λ (e : m ≢ node). as_before (ap (λ (r : ℕ → Key). r j) (other_at rows node m (with_at (rows node) place key) e)))
    (cases_eq m node)

pub written_other : (rows : ℕ → ℕ → Key) (node place : ℕ) (key : Key) (m j : ℕ) → j ≢ place → written rows node place key m j ≡ rows m j
written_other rows node place key m j apart = go (at_place rows node place key m j)
  where
    go : At rows node place key m j → written rows node place key m j ≡ rows m j
    go (there a b e) = absurd (apart b)
    go (as_before e) = e

pub written_case : (rows : ℕ → ℕ → Key) (node place : ℕ) (key : Key) (P : Key → Type 0) (m j : ℕ) → (j ≡ place → P key) → P (rows m j) → P (written rows node place key m j)
written_case rows node place key P m j here before = go (at_place rows node place key m j)
  where
    go : At rows node place key m j → P (written rows node place key m j)
    go (there a b e) = subst P (sym e) (here b)
    go (as_before e) = subst P (sym e) before

-- a number is no root's Meter key, and names no node
pub meter_no_number : (key : Key) → is_meter key ≡ true → is_number key ≡ true → ⊥
meter_no_number (Meter slot) meter number = let no : false ≡ true = number in cc
meter_no_number _ meter number = cc

pub number_no_node : (key : Key) → is_number key ≡ true → node_in key ≡ None
number_no_node (Number body) number = refl
number_no_node _ number = cc

-- no Node key names a root
pub root_unnamed : (rows : ℕ → ℕ → Key) (root : ℕ) → RowsGood rows → is_meter (rows root 2) ≡ true → NobodyIn rows root
root_unnamed rows root good meter a i named = meter_no_number (rows root 2) meter (good.plain a i root 2 named (omega arith))

-- what holds of the new value, and of each old one, holds of the table with the new value
pub row_case : {X : Type 0} (f : ℕ → X) (n : ℕ) (x : X) (P : X → Type 0) (m : ℕ) → (m ≡ n → P x) → (m ≢ n → P (f m)) → P (with_at f n x m)
row_case f n x P m now before = ⊎_elim
    (λ (e : m ≡ n). subst P (sym (ap (with_at f n x) e ∙ here_at f n x)) (now e))
    (λ (d : m ≢ n). subst P (sym (other_at f n m x d)) (before d))
    (cases_eq m n)

-- what holds of the key that was written, at its place, and of the key that stood at a place holds after the write
pub written_both : (rows : ℕ → ℕ → Key) (node place : ℕ) (key : Key) (P : Key → Type 0) (m j : ℕ) → (m ≡ node → j ≡ place → P key) → P (rows m j) → P (written rows node place key m j)
written_both rows node place key P m j here before = go (at_place rows node place key m j)
  where
    go : At rows node place key m j → P (written rows node place key m j)
    go (there a b e) = subst P (sym e) (here a b)
    go (as_before e) = subst P (sym e) before

-- a key of a root at none of the places 1 to 4 is written
pub places_kept : (row : ℕ → Key) (place : ℕ) (key : Key) → ((j : ℕ) → 1 ≤ j → j ≤ 4 → j ≢ place) → place < 13 → RootPlaces row → RootPlaces (with_at row place key)
places_kept row place key apart low is = record {
  keeper = other_at row place 1 key (apart 1 (omega arith) (omega arith)) ∙ is.keeper
      ∙ ap (λ k. Start (record { 0 = 1 }) (meter_in k)) (sym (other_at row place 2 key (apart 2 (omega arith) (omega arith))));
  both = ap (λ k. is_some (node_in k)) (other_at row place 3 key (apart 3 (omega arith) (omega arith))) ∙ is.both
      ∙ ap (λ k. is_some (node_in k)) (sym (other_at row place 4 key (apart 4 (omega arith) (omega arith))));
  no_words = λ p above below none. other_at row place p key (apart p (omega arith) below)
      ∙ is.no_words p above below (ap node_in (sym (other_at row place p key (apart p (omega arith) below))) ∙ none);
  blank = λ p above. other_at row place p key (λ e. absurd (omega arith)) ∙ is.blank p above;
}

-- the rows of a node that nobody names are right as words
pub unnamed_words_good : (rows : ℕ → ℕ → Key) (node : ℕ) (row : ℕ → Key) → NobodyIn rows node → WordsGood rows node row
unnamed_words_good rows node row nobody = record { registers = λ a named. absurd (nobody a 3 named); descriptors = λ a named. absurd (nobody a 4 named) }

-- where each Node key was there before, rows that are right as words stay so
pub words_good_before : (rows new : ℕ → ℕ → Key) (node : ℕ) (row : ℕ → Key) → ((a i : ℕ) → node_in (new a i) ≡ Some node → node_in (rows a i) ≡ Some node)
    → WordsGood rows node row → WordsGood new node row
words_good_before rows new node row was good = record { registers = λ a named. good.registers a (was a 3 named); descriptors = λ a named. good.descriptors a (was a 4 named) }

-- one row is another
pub words_good_row : (rows : ℕ → ℕ → Key) (n : ℕ) (row : ℕ → Key) → ((a i m : ℕ) → node_in (with_at rows n row a i) ≡ Some m → node_in (rows a i) ≡ Some m)
    → ((m : ℕ) → WordsGood rows m (rows m)) → WordsGood rows n row → (m : ℕ) → WordsGood (with_at rows n row) m (with_at rows n row m)
words_good_row rows n row was good now m = words_good_before rows (with_at rows n row) m (with_at rows n row m) (λ a i. was a i m)
    (row_case rows n row (WordsGood rows m) m (λ e. subst (λ k. WordsGood rows k row) (sym e) now) (λ d. good m))

-- a number is written in a root
pub rows_good_number : (rows : ℕ → ℕ → Key) (root place : ℕ) (key : Key) → RowsGood rows → is_meter (rows root 2) ≡ true → 6 ≤ place → place ≤ 12 → NumberFits place key
    → RowsGood (written rows root place key)
unfolding at
rows_good_number rows root place key good meter low high fits = record {
  single = λ a i b j n h k. good.single a i b j n (was a i n h) (was b j n k);
  plain = λ a i n j h below. written_case rows root place key (λ k. is_number k ≡ true) n j (λ e. fits.number) (good.plain a i n j (was a i n h) below);
  blank = λ a i n j h above. written_both rows root place key (λ k. k ≡ Null) n j (λ e f. absurd (root_unnamed rows root good meter a i (was a i n h ∙ ap Some e))) (good.blank a i n j (was a i n h) above);
  words = words_good_row rows root (with_at (rows root) place key) was good.words (unnamed_words_good rows root (with_at (rows root) place key) (root_unnamed rows root good meter));
  places = λ m. row_case rows root (with_at (rows root) place key) (λ (r : ℕ → Key). is_meter (r 2) ≡ true → RootPlaces r) m
      (λ e h. places_kept (rows root) place key (λ j above below e. absurd (omega arith)) (omega arith) (good.places root meter)) (λ d. good.places m);
  roots = λ m h.
      let root_good = good.roots m (sym (ap is_meter (written_other rows root place key m 2 (λ e. absurd (omega arith)))) ∙ h) in
      record {
        of_space = written_case rows root place key (λ k. k ≡ key_of_space (segment_in k)) m 0 (λ e. absurd (omega arith)) root_good.of_space;
        no_buffer = written_case rows root place key (λ k. page_in k ≡ None → k ≡ Null) m 5 (λ e. absurd (omega arith)) root_good.no_buffer;
        numbers = λ j above below. written_case rows root place key (NumberFits j) m j (λ e. subst (λ p. NumberFits p key) (sym e) fits) (root_good.numbers j above below);
      };
}
  where
    was : (a i n : ℕ) → node_in (written rows root place key a i) ≡ Some n → node_in (rows a i) ≡ Some n
    was a i n = written_case rows root place key (λ k. node_in k ≡ Some n → node_in (rows a i) ≡ Some n) a i
        (λ e h. let no : None ≡ Some n = sym (number_no_node key fits.number) ∙ h in cc)
        (λ h. h)

-- a row whose keys name the nodes that they named before, in place of a node's own
pub rows_good_same : (rows : ℕ → ℕ → Key) (n : ℕ) (row : ℕ → Key) → RowsGood rows → ((i : ℕ) → node_in (row i) ≡ node_in (rows n i))
    → ((a i j : ℕ) → node_in (rows a i) ≡ Some n → j < 11 → is_number (row j) ≡ true) → ((a i j : ℕ) → node_in (rows a i) ≡ Some n → 11 ≤ j → row j ≡ Null) → WordsGood rows n row
    → (is_meter (row 2) ≡ true → RootPlaces row) → (is_meter (row 2) ≡ true → RootGood row) → RowsGood (with_at rows n row)
rows_good_same rows n row good names numbers blanks words places root = record {
  single = λ a i b j m h k. good.single a i b j m (was a i m h) (was b j m k);
  plain = λ a i m j h below.
      row_case rows n row (λ (r : ℕ → Key). is_number (r j) ≡ true) m (λ e. numbers a i j (was a i m h ∙ ap Some e) below) (λ d. good.plain a i m j (was a i m h) below);
  blank = λ a i m j h above.
      row_case rows n row (λ (r : ℕ → Key). r j ≡ Null) m (λ e. blanks a i j (was a i m h ∙ ap Some e) above) (λ d. good.blank a i m j (was a i m h) above);
  words = words_good_row rows n row was good.words words;
  places = λ m h. row_case rows n row (λ (r : ℕ → Key). is_meter (r 2) ≡ true → RootPlaces r) m (λ e. places) (λ d. good.places m) h;
  roots = λ m h. row_case rows n row (λ (r : ℕ → Key). is_meter (r 2) ≡ true → RootGood r) m (λ e. root) (λ d. good.roots m) h;
}
  where
    was : (a i m : ℕ) → node_in (with_at rows n row a i) ≡ Some m → node_in (rows a i) ≡ Some m
    was a i m = row_case rows n row (λ (r : ℕ → Key). node_in (r i) ≡ Some m → node_in (rows a i) ≡ Some m) a
        (λ e h. ap (λ k. node_in (rows k i)) e ∙ sym (names i) ∙ h)
        (λ d h. h)

-- a root's row with another key 0, or another key 5
pub root_good_space : (row : ℕ → Key) (key : Key) → RootGood row → key ≡ key_of_space (segment_in key) → RootGood (with_at row 0 key)
root_good_space row key good is = record {
  of_space = row_case row 0 key (λ k. k ≡ key_of_space (segment_in k)) 0 (λ e. is) (λ d. good.of_space);
  no_buffer = row_case row 0 key (λ k. page_in k ≡ None → k ≡ Null) 5 (λ e. absurd (omega arith)) (λ d. good.no_buffer);
  numbers = λ place above below. row_case row 0 key (NumberFits place) place (λ e. absurd (omega arith)) (λ d. good.numbers place above below);
}

pub root_good_buffer : (row : ℕ → Key) (key : Key) → RootGood row → (page_in key ≡ None → key ≡ Null) → RootGood (with_at row 5 key)
root_good_buffer row key good is = record {
  of_space = row_case row 5 key (λ k. k ≡ key_of_space (segment_in k)) 0 (λ e. absurd (omega arith)) (λ d. good.of_space);
  no_buffer = row_case row 5 key (λ k. page_in k ≡ None → k ≡ Null) 5 (λ e. is) (λ d. good.no_buffer);
  numbers = λ place above below. row_case row 5 key (NumberFits place) place (λ e. absurd (omega arith)) (λ d. good.numbers place above below);
}
