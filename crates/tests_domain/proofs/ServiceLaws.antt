-- The services of an empty machine.
use Rattle.std.proofs.Common.{◌≡◌, ◌≤◌, ℕ, ap, sym, subst, ◌∙◌, arith, refl}
use Rattle.kernel_tables.specs.Kernel.{Kernel}
use Rattle.kernel_tables.specs.Rows.{spelled_or_null, key_table, fixed_rows}
use Rattle.space_bank.specs.Bank.{BankGood}
use Rattle.space_bank.specs.Fixed.{FreshNodes, state_key}
use Rattle.domain.specs.Keys.{word_in}
use Rattle.domain.specs.Rules.{NumberFits}
use Rattle.domain.specs.Lives.{IsService}
use Rattle.domain.proofs.Fits.{life_fits}
use Rattle.domain.proofs.Writing.{fixed_key}

no_life_word : word_in (state_key 0 0) 0 ≡ 0
unfolding word_in
no_life_word = refl

fresh_key : (kernel : Kernel) (service : ℕ) → BankGood kernel → FreshNodes kernel.keys → 1 ≤ service → service ≤ 6 → fixed_rows kernel service 6 ≡ state_key 0 0
unfolding key_table
fresh_key kernel service good fresh low high = sym (fixed_key kernel service 6 good (omega arith) (omega arith)) ∙ ap spelled_or_null (fresh.services service low high).life

pub fresh_service : (kernel : Kernel) (service : ℕ) → BankGood kernel → FreshNodes kernel.keys → 1 ≤ service → service ≤ 6 → IsService (fixed_rows kernel) service
fresh_service kernel service good fresh low high = record {
  low = low;
  high = high;
  fits = subst (NumberFits 6) (sym (fresh_key kernel service good fresh low high)) (life_fits (state_key 0 0) 0 (omega arith) refl no_life_word);
}
