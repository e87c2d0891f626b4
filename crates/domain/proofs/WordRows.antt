-- Words of registers and of descriptors are right, while one key of their node is written.
use Rattle.std.proofs.Common.{◌≡◌, ◌≢◌, ◌<◌, ◌≤◌, ◌/◌, ◌%◌, ℕ, Some, set, ap, sym, subst, ◌∙◌, arith, ⊎_elim}
use Rattle.std.proofs.lemmas.Bool.{cases_eq}
use Rattle.kn_base.specs.declared.key.Key.{Key}
use Rattle.unix_model.specs.Tables.{with_at}
use Rattle.domain.specs.Keys.{node_in, word_in, words_in}
use Rattle.domain.specs.Domains.{node_words}
use Rattle.domain.specs.Rules.{RowsGood, NamedAt, WordsGood}
use Rattle.domain.proofs.RowLaws.{row_case}
use Rattle.domain.proofs.WordLaws.{word_of, word_kept, word_now}

pub three_four : ◌≡◌ {A = ℕ} 3 4 → ⊥
three_four e = cc

-- what key 3 of a root names, key 4 of none does, and the other way round
registers_alone : (rows : ℕ → ℕ → Key) (node root : ℕ) → RowsGood rows → NamedAt rows 3 node → node_in (rows root 4) ≡ Some node → ⊥
registers_alone rows node root good (a, named) other = three_four (good.single a 3 root 4 node named other).1

descriptors_alone : (rows : ℕ → ℕ → Key) (node root : ℕ) → RowsGood rows → NamedAt rows 4 node → node_in (rows root 3) ≡ Some node → ⊥
descriptors_alone rows node root good (a, named) other = three_four (good.single root 3 a 4 node other named).1

module _ (rows : ℕ → ℕ → Key) (node place : ℕ) (key : Key) (good : RowsGood rows) where
  pub registers_fit : NamedAt rows 3 node → (place ≡ 0 → word_in key 0 ≡ 0) → (place ≡ 10 → word_in key 2 % 4 ≡ 0) → WordsGood rows node (with_at (rows node) place key)
  registers_fit (a, named) first last =
      let was = (good.words node).registers a named in
      record {
        registers = λ root h. record {
          zero = word_of (with_at (rows node) place key) 0 (omega arith)
              ∙ row_case (rows node) place key (λ k. word_in k 0 ≡ 0) 0 (λ e. first (sym e)) (λ d. sym (word_of (rows node) 0 (omega arith)) ∙ was.zero);
          aligned = ap (λ w. w % 4) (word_of (with_at (rows node) place key) 32 (omega arith))
              ∙ row_case (rows node) place key (λ k. word_in k 2 % 4 ≡ 0) 10 (λ e. last (sym e)) (λ d. ap (λ w. w % 4) (sym (word_of (rows node) 32 (omega arith))) ∙ was.aligned);
        };
        descriptors = λ root h. absurd (registers_alone rows node root good (a, named) h);
      }

-- the word of a descriptor is another
pub descriptor_fits : (rows : ℕ → ℕ → Key) (node number word : ℕ) (key : Key) → RowsGood rows → NamedAt rows 4 node → number < 32 → word ≤ 2048
    → words_in key ≡ set (words_in (rows node (number / 3))) (number % 3) word → WordsGood rows node (with_at (rows node) (number / 3) key)
descriptor_fits rows node number word key good (a, named) low few words =
    let was = (good.words node).descriptors a named in
    record {
      registers = λ root h. absurd (descriptors_alone rows node root good (a, named) h);
      descriptors = λ root h. record {
        fit = λ n below. ⊎_elim
            (λ (e : n ≡ number). subst (λ w. w ≤ 2048) (sym (ap (node_words (with_at (rows node) (number / 3) key)) e ∙ word_now (rows node) number word key low words)) few)
            (λ (d : n ≢ number). subst (λ w. w ≤ 2048) (sym (word_kept (rows node) number word key words n d)) (was.fit n below))
            (cases_eq n number);
        unused = word_kept (rows node) number word key words 32 (λ e. absurd (omega arith)) ∙ was.unused;
      };
    }
