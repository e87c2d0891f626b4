use Rattle.rv_asm.proofs.NameLaws.{branch-named, load-named, store-named, imm-named, reg-named}
use Rattle.rv_asm.proofs.laws.names_law.Goals as goal

pub returns : goal.returns
returns c = record {
  branches = branch-named;
  loads = load-named;
  stores = store-named;
  imms = imm-named;
  regs = reg-named;
}
