-- Refusals are handed on.
use Rattle.std.proofs.Common.{◌≡◌, Err, Result}
use Rattle.rv_asm.specs.declared.fault.AsmFault.{AsmFault}
use Rattle.rv_asm.specs.declared.fault.AsmFault.TheVariants.{At, NoMemory}
use Rattle.rv_asm.specs.Files.{Tells}
use Rattle.rv_asm.specs.Programs.{Refusal}

-- what refuses a part refuses the whole
pub refused : {A B : Type 0} (fault : AsmFault) (part : Result A Refusal) (whole : Result B Refusal)
    → Tells fault part → ((refusal : Refusal) → part ≡ Err refusal → whole ≡ Err refusal) → Tells fault whole
refused (At kind line) part whole told then = then (record { kind = kind; line = line }) told
refused NoMemory part whole told then = tt
