-- A machine in which a first domain can be made that calls.
use Rattle.std.specs.Prelude.{◌≡◌, ℕ, false}
use Rattle.kn_base.specs.declared.key.Key.TheVariants.{Null}
use Rattle.kernel_tables.specs.Kernel.{Kernel}
use Rattle.kernel_tables.specs.Rows.{fixed_rows}
use Rattle.unix_model.specs.Tables.{at}
use Rattle.domain.specs.Domains.{domains}
use Rattle.domain.specs.Lives.{IsService}
use Rattle.tests_domain.specs.First.{IsReady}

-- A space is in hand, slot 5 and its place of the resume room are free, the service of directories is there, and there is no domain.
pub record IsFresh (kernel : Kernel) (space : ℕ) : Type 0 where
  pub ready : IsReady kernel space
  pub room : fixed_rows kernel 7 5 ≡ Null
  pub directories : IsService (fixed_rows kernel) 3
  pub nobody : (root : ℕ) → (at (domains kernel) root).live ≡ false
