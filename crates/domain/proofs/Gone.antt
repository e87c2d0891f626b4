-- Rows of domains, while a root loses its nodes of words and nodes lose their keys.
use Rattle.std.proofs.Common.{◌≡◌, ◌<◌, ◌≤◌, ℕ, zero, suc, Some, None, true, false, refl, ap, sym, subst, ◌∙◌, arith, ⊎_elim}
use Rattle.std.proofs.lemmas.Bool.{cases_lt}
use Rattle.kn_base.specs.declared.key.Key.{Key}
use Rattle.kn_base.specs.declared.key.Key.TheVariants.{Null}
use Rattle.space_bank.specs.Laws.{and_outside}
use Rattle.space_bank.specs.Shares.{Outside, NamesNothing}
use Rattle.unix_model.specs.Tables.{at, with_at}
use Rattle.unix_model.proofs.TableLaws.{with_at-same}
use Rattle.domain.specs.Keys.{is_number, is_meter, node_in}
use Rattle.domain.specs.Domains.{Domain, no_domain, full_domain, domain_by, domain_at, words_of, lives_by}
use Rattle.domain.specs.Rules.{RootGood, RootPlaces, RowsGood, NumberFits, NobodyIn}
use Rattle.domain.specs.Life.{null_row, and_all}
use Rattle.domain.specs.Ends.{IsQuiet, row_keys}
use Rattle.domain.proofs.RowLaws.{here_at, row_case, root_unnamed, unnamed_words_good, words_good_row}
use Rattle.domain.proofs.DomainLaws.{domains_at, a_root, root_domain, lives_row_same}
use Rattle.domain.proofs.FieldLaws.{two_other}
use Rattle.domain.proofs.WordLaws.{no_root}
use Rattle.domain.proofs.Pages.{null_outside}
use Rattle.domain.proofs.Writing.{number_outside, number_nothing}

-- the row of a root without the keys of its nodes of words
abbrev pub unnamed_row : (ℕ → Key) → ℕ → Key
unnamed_row row = with_at (with_at row 3 Null) 4 Null

-- a domain without them
abbrev pub wordless : Domain → Domain
wordless domain = record domain { whole = false; regs_node = None; descriptors_node = None; regs = λ n. 0; descriptors = λ n. None }

no_some : (m : ℕ) → None ≡ Some m → ⊥
no_some m e = cc

was_row : (row : ℕ → Key) (i m : ℕ) → node_in (unnamed_row row i) ≡ Some m → node_in (row i) ≡ Some m
was_row row i m = row_case (with_at row 3 Null) 4 Null (λ k. node_in k ≡ Some m → node_in (row i) ≡ Some m) i
    (λ e h. absurd (no_some m h))
    (λ d. row_case row 3 Null (λ k. node_in k ≡ Some m → node_in (row i) ≡ Some m) i (λ e h. absurd (no_some m h)) (λ f h. h))

unnamed_words : (row : ℕ → Key) (place : ℕ) → 3 ≤ place → place ≤ 4 → unnamed_row row place ≡ Null
unnamed_words row place low high = row_case (with_at row 3 Null) 4 Null (λ k. k ≡ Null) place (λ e. refl) (λ d. row_case row 3 Null (λ k. k ≡ Null) place (λ e. refl) (λ f. absurd (omega arith)))

unnamed_places : (row : ℕ → Key) → RootPlaces row → RootPlaces (unnamed_row row)
unfolding with_at
unnamed_places row is = record {
  keeper = is.keeper;
  both = refl;
  no_words = λ place low high none. unnamed_words row place low high;
  blank = λ place above. two_other row 3 4 place Null Null (λ e. absurd (omega arith)) (λ e. absurd (omega arith)) ∙ is.blank place above;
}

unnamed_root : (row : ℕ → Key) → RootGood row → RootGood (unnamed_row row)
unfolding with_at
unnamed_root row good = record {
  of_space = good.of_space;
  no_buffer = good.no_buffer;
  numbers = λ place low high. subst (NumberFits place) (sym (two_other row 3 4 place Null Null (λ e. absurd (omega arith)) (λ e. absurd (omega arith)))) (good.numbers place low high);
}

third_gone : (row : ℕ → Key) → node_in (unnamed_row row 3) ≡ None
unfolding with_at
third_gone row = refl

fourth_gone : (row : ℕ → Key) → node_in (unnamed_row row 4) ≡ None
unfolding with_at
fourth_gone row = refl

meter_kept : (row : ℕ → Key) → unnamed_row row 2 ≡ row 2
unfolding with_at
meter_kept row = refl

wordless_fields : (row : ℕ → Key) (regs descriptors : ℕ → ℕ) → full_domain (unnamed_row row) (λ n. 0) (λ n. 0) ≡ wordless (full_domain row regs descriptors)
unfolding full_domain with_at
wordless_fields row regs descriptors = refl

module _ (rows : ℕ → ℕ → Key) (root : ℕ) (good : RowsGood rows) (meter : is_meter (rows root 2) ≡ true) where
  was : (a i m : ℕ) → node_in (with_at rows root (unnamed_row (rows root)) a i) ≡ Some m → node_in (rows a i) ≡ Some m
  was a i m = row_case rows root (unnamed_row (rows root)) (λ (r : ℕ → Key). node_in (r i) ≡ Some m → node_in (rows a i) ≡ Some m) a
      (λ e h. ap (λ k. node_in (rows k i)) e ∙ was_row (rows root) i m h) (λ d h. h)

  pub unnamed_good : RowsGood (with_at rows root (unnamed_row (rows root)))
  unnamed_good = record {
    single = λ a i b j m h k. good.single a i b j m (was a i m h) (was b j m k);
    plain = λ a i m j h low. row_case rows root (unnamed_row (rows root)) (λ (r : ℕ → Key). is_number (r j) ≡ true) m
        (λ e. absurd (root_unnamed rows root good meter a i (was a i m h ∙ ap Some e))) (λ d. good.plain a i m j (was a i m h) low);
    blank = λ a i m j h above. row_case rows root (unnamed_row (rows root)) (λ (r : ℕ → Key). r j ≡ Null) m
        (λ e. absurd (root_unnamed rows root good meter a i (was a i m h ∙ ap Some e))) (λ d. good.blank a i m j (was a i m h) above);
    words = words_good_row rows root (unnamed_row (rows root)) was good.words (unnamed_words_good rows root (unnamed_row (rows root)) (root_unnamed rows root good meter));
    places = λ m. row_case rows root (unnamed_row (rows root)) (λ (r : ℕ → Key). is_meter (r 2) ≡ true → RootPlaces r) m
        (λ e h. unnamed_places (rows root) (good.places root meter)) (λ d. good.places m);
    roots = λ m. row_case rows root (unnamed_row (rows root)) (λ (r : ℕ → Key). is_meter (r 2) ≡ true → RootGood r) m
        (λ e h. unnamed_root (rows root) (good.roots root meter)) (λ d. good.roots m);
  }

  -- a Node key that is taken away leaves its node unnamed
  pub third_nobody : (node : ℕ) → node_in (rows root 3) ≡ Some node → NobodyIn (with_at rows root (unnamed_row (rows root))) node
  third_nobody node named a i h =
      let same = good.single a i root 3 node (was a i node h) named in
      absurd (no_some node (sym (ap (λ (r : ℕ → Key). node_in (r 3)) (here_at rows root (unnamed_row (rows root))) ∙ third_gone (rows root))
      ∙ sym (ap (λ x. node_in (with_at rows root (unnamed_row (rows root)) x i)) same.0 ∙ ap (λ j. node_in (with_at rows root (unnamed_row (rows root)) root j)) same.1) ∙ h))

  pub fourth_nobody : (node : ℕ) → node_in (rows root 4) ≡ Some node → NobodyIn (with_at rows root (unnamed_row (rows root))) node
  fourth_nobody node named a i h =
      let same = good.single a i root 4 node (was a i node h) named in
      absurd (no_some node (sym (ap (λ (r : ℕ → Key). node_in (r 4)) (here_at rows root (unnamed_row (rows root))) ∙ fourth_gone (rows root))
      ∙ sym (ap (λ x. node_in (with_at rows root (unnamed_row (rows root)) x i)) same.0 ∙ ap (λ j. node_in (with_at rows root (unnamed_row (rows root)) root j)) same.1) ∙ h))

  pub unnamed_domains : domain_at (with_at rows root (unnamed_row (rows root))) ≡ with_at (domain_at rows) root (wordless (at (domain_at rows) root))
  unnamed_domains =
      domains_at rows root (unnamed_row (rows root)) (root_unnamed rows root good meter)
      (λ h. no_some root (sym (third_gone (rows root)) ∙ h)) (λ h. no_some root (sym (fourth_gone (rows root)) ∙ h))
      ∙ ap (with_at (domain_at rows) root)
      (a_root (unnamed_row (rows root)) (words_of rows (node_in (unnamed_row (rows root) 3))) (words_of rows (node_in (unnamed_row (rows root) 4))) (ap is_meter (meter_kept (rows root)) ∙ meter)
      ∙ ap (λ o. full_domain (unnamed_row (rows root)) (words_of rows o) (words_of rows (node_in (unnamed_row (rows root) 4)))) (third_gone (rows root))
      ∙ ap (λ o. full_domain (unnamed_row (rows root)) (λ n. 0) (words_of rows o)) (fourth_gone (rows root))
      ∙ wordless_fields (rows root) (words_of rows (node_in (rows root 3))) (words_of rows (node_in (rows root 4)))
      ∙ ap wordless (sym (root_domain rows root meter)))

  pub unnamed_lives : (fixed : ℕ → ℕ → Key) → lives_by (with_at rows root (unnamed_row (rows root))) fixed ≡ lives_by rows fixed
  unnamed_lives fixed = lives_row_same rows fixed root (unnamed_row (rows root)) (ap is_meter (meter_kept (rows root)))
      (λ m. two_other (rows root) 3 4 6 Null Null (λ e. absurd (omega arith)) (λ e. absurd (omega arith)))

-- The row of a node that nobody names is gone.
module _ (rows : ℕ → ℕ → Key) (n : ℕ) (good : RowsGood rows) (nobody : NobodyIn rows n) where
  had : (a i m : ℕ) → node_in (with_at rows n null_row a i) ≡ Some m → node_in (rows a i) ≡ Some m
  had a i m = row_case rows n null_row (λ (r : ℕ → Key). node_in (r i) ≡ Some m → node_in (rows a i) ≡ Some m) a (λ e h. absurd (no_some m h)) (λ d h. h)

  pub gone_nobody : (m : ℕ) → NobodyIn rows m → NobodyIn (with_at rows n null_row) m
  gone_nobody m none a i h = none a i (had a i m h)

  pub gone_good : RowsGood (with_at rows n null_row)
  gone_good = record {
    single = λ a i b j m h k. good.single a i b j m (had a i m h) (had b j m k);
    plain = λ a i m j h low. row_case rows n null_row (λ (r : ℕ → Key). is_number (r j) ≡ true) m (λ e. absurd (nobody a i (had a i m h ∙ ap Some e))) (λ d. good.plain a i m j (had a i m h) low);
    blank = λ a i m j h above. row_case rows n null_row (λ (r : ℕ → Key). r j ≡ Null) m (λ e. refl) (λ d. good.blank a i m j (had a i m h) above);
    words = words_good_row rows n null_row had good.words (unnamed_words_good rows n null_row nobody);
    places = λ m. row_case rows n null_row (λ (r : ℕ → Key). is_meter (r 2) ≡ true → RootPlaces r) m (λ e h. let no : false ≡ true = h in cc) (λ d. good.places m);
    roots = λ m. row_case rows n null_row (λ (r : ℕ → Key). is_meter (r 2) ≡ true → RootGood r) m (λ e h. let no : false ≡ true = h in cc) (λ d. good.roots m);
  }

  -- it was no root, ..
  module _ (no_meter : is_meter (rows n 2) ≡ false) where
    pub gone_domains : domain_at (with_at rows n null_row) ≡ domain_at rows
    unfolding domain_at at
    gone_domains =
        domains_at rows n null_row nobody (λ h. no_some n h) (λ h. no_some n h)
        ∙ with_at-same (domain_at rows) n (domain_by null_row (words_of rows None) (words_of rows None))
        (no_root (rows n) (words_of rows (node_in (rows n 3))) (words_of rows (node_in (rows n 4))) no_meter)

    pub gone_lives : (fixed : ℕ → ℕ → Key) → lives_by (with_at rows n null_row) fixed ≡ lives_by rows fixed
    gone_lives fixed = lives_row_same rows fixed n null_row (sym no_meter) (λ meter. let no : false ≡ true = sym no_meter ∙ meter in cc)

  -- .. or one
  pub dropped_domains : domain_at (with_at rows n null_row) ≡ with_at (domain_at rows) n no_domain
  dropped_domains = domains_at rows n null_row nobody (λ h. no_some n h) (λ h. no_some n h)

-- a row of keys that no tree and no count reads
quiet_keys : (row : ℕ → Key) (n : ℕ) → ((i : ℕ) → i < n → (outside : Outside) → and_outside outside (row i) ≡ outside) → (outside : Outside) → and_all outside (row_keys row n) ≡ outside
unfolding row_keys and_all
quiet_keys row zero quiet outside = refl
quiet_keys row (suc n) quiet outside = ap (λ o. and_outside o (row n)) (quiet_keys row n (λ i low. quiet i (omega arith)) outside) ∙ quiet n (omega arith) outside

module _ (row : ℕ → Key) (numbers : (place : ℕ) → place < 11 → is_number (row place) ≡ true) (blank : (place : ℕ) → 11 ≤ place → row place ≡ Null) where
  pub words_quiet : IsQuiet row
  words_quiet place low = ⊎_elim
      (λ (t : place < 11). number_nothing (row place) (numbers place t))
      (λ (t : 11 ≤ place). subst (λ k. NamesNothing (Some k)) (sym (blank place t)) tt)
      (cases_lt place 11)

  word_outside : (place : ℕ) → place < 16 → (outside : Outside) → and_outside outside (row place) ≡ outside
  word_outside place low outside = ⊎_elim
      (λ (t : place < 11). number_outside outside (row place) (numbers place t))
      (λ (t : 11 ≤ place). ap (and_outside outside) (blank place t) ∙ null_outside outside)
      (cases_lt place 11)

  pub words_outside : (outside : Outside) → and_all outside (row_keys row 16) ≡ outside
  words_outside outside = quiet_keys row 16 word_outside outside
