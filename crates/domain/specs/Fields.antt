-- What the rules of the rows say of the fields of a domain.
use Rattle.std.specs.Prelude.{◌≡◌, ◌<◌, ◌≤◌, ◌%◌, ℕ, true, Some, slice_index_or}
use Rattle.kernel_tables.specs.Kernel.{Kernel}
use Rattle.kernel_tables.specs.Rows.{domain_rows}
use Rattle.unix_model.specs.Rules.{IsBreak}
use Rattle.unix_model.specs.Tables.{at}
use Rattle.domain.specs.Domains.{Domain, domains}
use Rattle.domain.specs.Rules.{RowsGood}

pub record FieldsGood (domain : Domain) : Type 0 where
  pub zero : at domain.regs 0 ≡ 0
  pub aligned : at domain.regs 32 % 4 ≡ 0
  pub in_bounds : IsBreak domain.break_start domain.break_end
  pub descriptions : (number description : ℕ) → number < 32 → at domain.descriptors number ≡ Some description → description < 2048
  pub call : domain.request.call < 256
  pub request : domain.request.length ≤ 4096
  pub answer : domain.answer.length ≤ 4096
  pub parked : slice_index_or domain.marks 0 0 < 2
  pub unused : slice_index_or domain.marks 2 0 ≡ 0

-- Where the rows are right, the fields of each domain are.
abbrev pub FieldsAreGood : Type 0
FieldsAreGood = (kernel : Kernel) (root : ℕ) → RowsGood (domain_rows kernel) → (at (domains kernel) root).live ≡ true → FieldsGood (at (domains kernel) root)
