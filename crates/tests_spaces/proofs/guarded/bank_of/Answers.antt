use Rattle.std.proofs.Common.{ap}
use Rattle.kernel_tables.specs.Kernel.{Kernel, kernel_of}
use Rattle.obj_store.specs.Store.{ram_memory}
use Rattle.space_bank.specs.Setup.{empty_bank}
use Rattle.space_bank.specs.Shares.{nothing_outside}
use Rattle.kernel_forest.proofs.Empty.{untaken_good}
use Rattle.tests_spaces.proofs.guarded.bank_of.Goals as goal

pub returns-in-Ok : goal.returns-in-Ok
unfolding empty_bank
returns-in-Ok c = record {
  ready = record {
    good = c.setup.ensures.good;
    zero = c.setup.ensures.unused.zero;
    outside = nothing_outside;
    trees = untaken_good (kernel_of (ram_memory c.setup.new.store)) nothing_outside c.setup.ensures.good
        (ap (λ (k : Kernel). k.machine.pages_taken) c.setup.ensures.made) (ap (λ (k : Kernel). k.machine.nodes_taken) c.setup.ensures.made) c.setup.ensures.shares;
  };
}
