-- The rows of domains where no node is taken.
use Rattle.std.proofs.Common.{◌≡◌, ℕ, zero, suc, Some, None, true, false, List, [], ◌∷◌, refl, sym, subst, ◌∙◌, arith}
use Rattle.std.proofs.Math.Path.{fun_ext}
use Rattle.std.specs.List.{sum_by}
use Rattle.std.proofs.lemmas.List.Sums.{sum_by-cons}
use Rattle.kernel_tables.specs.declared.entry.NodeOwner.{NodeOwner}
use Rattle.kernel_tables.specs.declared.entry.Entry.{Entry}
use Rattle.kernel_tables.specs.declared.entry.Entry.TheVariants.{Free, Taken, Fixed, Unspelled}
use Rattle.kernel_tables.specs.Kernel.{Kernel}
use Rattle.kernel_tables.specs.Rows.{entry_at, rows, of_domain, domain_rows}
use Rattle.space_bank.specs.FreeList.{taken_one, taken_count}
use Rattle.space_bank.specs.Bank.{BankGood}
use Rattle.domain.specs.Rules.{RowsGood}
use Rattle.domain.specs.Life.{UntakenRowsGood, null_row}
use Rattle.domain.proofs.RowLaws.{unnamed_words_good}

none_taken : {O : Type 0} (entries : List (Entry O)) (n : ℕ) → sum_by taken_one entries ≡ 0 → taken_one (entry_at entries n) ≡ 0
none_taken [] n e = refl
none_taken (entry ∷ entries) zero e = omega (arith, sum_by-cons taken_one entry entries)
none_taken (entry ∷ entries) (suc n) e = none_taken entries n (omega (arith, sum_by-cons taken_one entry entries))

untaken_none : (entry : Entry NodeOwner) → taken_one entry ≡ 0 → of_domain entry ≡ false
untaken_none (Free next) e = refl
untaken_none (Taken owner count) e = absurd (omega arith)
untaken_none Fixed e = refl
untaken_none Unspelled e = refl

pub all_null : (kernel : Kernel) → BankGood kernel → kernel.machine.nodes_taken ≡ 0 → domain_rows kernel ≡ (λ node. null_row)
unfolding rows taken_count
all_null kernel good none = fun_ext (λ node. fun_ext (λ place.
    rw (untaken_none (entry_at kernel.node_entries node) (none_taken kernel.node_entries node (sym good.nodes.entries_good.number ∙ none))) refl))

null_rows : RowsGood (λ node. null_row)
null_rows = record {
  single = λ a i b j node h k. let no : None ≡ Some node = h in cc;
  plain = λ a i node j h low. let no : None ≡ Some node = h in cc;
  blank = λ a i node j h above. let no : None ≡ Some node = h in cc;
  words = λ node. unnamed_words_good (λ n. null_row) node null_row (λ a i h. let no : None ≡ Some node = h in cc);
  places = λ root meter. let no : false ≡ true = meter in cc;
  roots = λ root meter. let no : false ≡ true = meter in cc;
}

pub untaken_rows : UntakenRowsGood
untaken_rows kernel good none = subst RowsGood (sym (all_null kernel good none)) null_rows
