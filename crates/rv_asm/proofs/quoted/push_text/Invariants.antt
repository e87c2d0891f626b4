use Rattle.std.proofs.Common.{◌≡◌, ◌++◌, false, length}
use Rattle.std.specs.Prelude.{IsSome}
use Rattle.rv_asm.specs.Operands.{text_from}
use Rattle.rv_asm.specs.Views.{text_in}
use Rattle.rv_asm.proofs.quoted.push_text.Given as goal

abbrev pub invariant-bytes : goal.invariant-bytes
invariant-bytes l = record {
  right : IsSome (text_from false l.rest);
  so_far : l.into.items ++ text_in l.rest ≡ l.fn.into.items ++ text_in l.behind;
}

abbrev pub decreases-bytes : goal.decreases-bytes
decreases-bytes l = length l.rest
