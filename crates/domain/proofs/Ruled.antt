-- The fields of a domain, where the rows are right.
use Rattle.std.proofs.Common.{◌≡◌, ◌<◌, ◌≤◌, ◌%◌, ◌==◌, ◌-◌, ℕ, Option, Some, None, true, false, refl, ap, sym, subst, ◌∙◌, arith, if◌then◌else◌, ⊎_elim}
use Rattle.std.proofs.lemmas.Bool.{cases_Bool}
use Rattle.kn_base.specs.declared.key.Key.{Key}
use Rattle.kernel_tables.specs.Rows.{domain_rows}
use Rattle.unix_model.specs.Tables.{at}
use Rattle.domain.specs.Keys.{node_in}
use Rattle.domain.specs.Domains.{domain_at, full_domain, words_of, description_by}
use Rattle.domain.specs.Rules.{RowsGood, RegistersGood, DescriptorsGood}
use Rattle.domain.specs.Fields.{FieldsGood, FieldsAreGood}
use Rattle.domain.proofs.DomainLaws.{live_meter, root_domain}

registers_ruled : (rows : ℕ → ℕ → Key) (named : Option ℕ) → ((node : ℕ) → named ≡ Some node → RegistersGood (rows node)) → (words_of rows named 0 ≡ 0) × (words_of rows named 32 % 4 ≡ 0)
registers_ruled rows None good = (refl, refl)
registers_ruled rows (Some node) good = let is = good node refl in (is.zero, is.aligned)

few_by : (word description : ℕ) → word ≤ 2048 → description_by word ≡ Some description → description < 2048
few_by word description few e = ⊎_elim
    (λ (t : (word == 0) ≡ true). let no : None ≡ Some description = sym (ap (λ b. if b then None else Some (word - 1)) t) ∙ e in cc)
    (λ (t : (word == 0) ≡ false).
    let is : Some (word - 1) ≡ Some description = sym (ap (λ b. if b then None else Some (word - 1)) t) ∙ e in
    let same : word - 1 ≡ description = cc in
    omega arith)
    (cases_Bool (word == 0))

descriptors_ruled : (rows : ℕ → ℕ → Key) (named : Option ℕ) → ((node : ℕ) → named ≡ Some node → DescriptorsGood (rows node)) → (number description : ℕ) → number < 32
    → description_by (words_of rows named number) ≡ Some description → description < 2048
descriptors_ruled rows None good number description low e = let no : None ≡ Some description = e in cc
descriptors_ruled rows (Some node) good number description low e = few_by (words_of rows (Some node) number) description ((good node refl).fit number low) e

ruled : (rows : ℕ → ℕ → Key) (root : ℕ) → RowsGood rows → (at (domain_at rows) root).live ≡ true
    → FieldsGood (full_domain (rows root) (words_of rows (node_in (rows root 3))) (words_of rows (node_in (rows root 4))))
unfolding full_domain at
ruled rows root good live =
    let number = (good.roots root (live_meter rows root live)).numbers in
    let registers = registers_ruled rows (node_in (rows root 3)) (λ node named. (good.words node).registers root named) in
    record {
      zero = registers.0;
      aligned = registers.1;
      in_bounds = (number 8 (omega arith) (omega arith)).break refl;
      descriptions = descriptors_ruled rows (node_in (rows root 4)) (λ node named. (good.words node).descriptors root named);
      call = (number 9 (omega arith) (omega arith)).call refl;
      request = (number 10 (omega arith) (omega arith)).request refl;
      answer = (number 11 (omega arith) (omega arith)).answer refl;
      parked = (number 12 (omega arith) (omega arith)).parked refl;
      unused = (number 12 (omega arith) (omega arith)).unused refl;
    }

pub fields_good : FieldsAreGood
fields_good kernel root good live = subst FieldsGood (sym (root_domain (domain_rows kernel) root (live_meter (domain_rows kernel) root live))) (ruled (domain_rows kernel) root good live)
