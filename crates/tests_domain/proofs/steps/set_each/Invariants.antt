use Rattle.std.proofs.Common.{◌≡◌, true}
use Rattle.kernel_tables.specs.Kernel.{kernel_of}
use Rattle.kernel_tables.specs.Rows.{domain_rows}
use Rattle.space_bank.specs.Bank.{BankGood}
use Rattle.unix_model.specs.Tables.{at}
use Rattle.domain.specs.Rules.{RowsGood}
use Rattle.domain.specs.Domains.{domains}
use Rattle.tests_domain.proofs.steps.set_each.Given as goal

abbrev pub invariant-loop-step : goal.invariant-loop-step
invariant-loop-step g l = record {
  good : BankGood (kernel_of (g.T.Store.memory l.store));
  rows : RowsGood (domain_rows (kernel_of (g.T.Store.memory l.store)));
  live : (at (domains (kernel_of (g.T.Store.memory l.store))) l.fn.root.0).live ≡ true;
  whole : (at (domains (kernel_of (g.T.Store.memory l.store))) l.fn.root.0).whole ≡ true;
}
