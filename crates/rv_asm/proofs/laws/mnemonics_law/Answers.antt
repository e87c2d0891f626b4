use Rattle.rv_asm.proofs.NameLaws.{branch-alone, load-alone, store-alone, imm-alone, reg-alone}
use Rattle.rv_asm.proofs.laws.mnemonics_law.Goals as goal

pub returns : goal.returns
returns c = record {
  branches = branch-alone;
  loads = load-alone;
  stores = store-alone;
  imms = imm-alone;
  regs = reg-alone;
}
