use Rattle.std.proofs.Common.{◌≡◌, ◌+◌, ◌≤◌, false, length}
use Rattle.std.specs.Prelude.{option_map}
use Rattle.rv_asm.specs.Operands.{text_from}
use Rattle.rv_asm.proofs.quoted.text_length.Given as goal

abbrev pub invariant-bytes : goal.invariant-bytes
invariant-bytes l = record {
  counted : option_map (λ bytes. length bytes) (text_from false l.behind) ≡ option_map (λ bytes. l.count + length bytes) (text_from false l.rest);
  within : l.count + length l.rest ≤ length l.behind;
}

abbrev pub decreases-bytes : goal.decreases-bytes
decreases-bytes l = length l.rest
