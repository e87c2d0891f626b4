use Rattle.std.proofs.Common.{◌≡◌, ◌≤◌}
use Rattle.unix_model.specs.Loading.{page_mapped}
use Rattle.unix_model.specs.Tables.{count_below}
use Rattle.unix_exec.proofs.needed.count_needed.Given as goal

abbrev pub invariant-loop-page : goal.invariant-loop-page
invariant-loop-page l = record {
  pages : l.needed ≡ count_below (page_mapped l.loads) l.page;
  few : l.needed ≤ l.page;
}
