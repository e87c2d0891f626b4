use Rattle.std.proofs.Common.{[], ap, sym, subst, ◌∙◌}
use Rattle.kernel_tables.specs.Kernel.{Kernel, kernel_of}
use Rattle.kernel_tables.proofs.ZeroTables.{kernel_of-zeros}
use Rattle.space_bank.specs.Bank.{BankGood}
use Rattle.space_bank.specs.Fixed.{UnusedGood, FreshNodes, FixedNodes, FreshFiles}
use Rattle.space_bank.specs.Shares.{NoneNamed, Shares, nothing_outside}
use Rattle.space_bank.proofs.FreshLaws.{unused_good-empty, fresh_nodes-empty, fresh_files-empty}
use Rattle.space_bank.proofs.EmptyBank.{bank_good-empty, shares-empty, none_named-empty}
use Rattle.space_bank.specs.Setup.{empty_bank}
use Rattle.space_bank.proofs.FixedLaws.{fresh-fixed}
use Rattle.space_bank.proofs.empty.setup.Goals as goal

pub fill-requires-clause-zeros : goal.fill-requires-clause-zeros
fill-requires-clause-zeros g c = ap kernel_of c.requires.zeros ∙ kernel_of-zeros c.args.pages

pub returns-clause-good : goal.returns-clause-good
returns-clause-good g c =
    subst BankGood (sym c.fill.ensures.made)
    (bank_good-empty c.args.pages c.args.quantum c.requires.least c.requires.most c.requires.multiple c.requires.some_turns
    c.requires.few_turns)

pub returns-clause-unused : goal.returns-clause-unused
returns-clause-unused g c =
    subst (λ (k : Kernel). UnusedGood k.page_zero k.other_words) (sym c.fill.ensures.made)
    (unused_good-empty c.args.pages c.args.quantum)

pub returns-clause-nodes : goal.returns-clause-nodes
returns-clause-nodes g c =
    subst (λ (k : Kernel). FreshNodes k.keys) (sym c.fill.ensures.made) (fresh_nodes-empty c.args.pages c.args.quantum)

pub returns-clause-files : goal.returns-clause-files
returns-clause-files g c =
    subst (λ (k : Kernel). FreshFiles k.inodes k.descriptions) (sym c.fill.ensures.made)
    (fresh_files-empty c.args.pages c.args.quantum)

pub returns-clause-unnamed : goal.returns-clause-unnamed
returns-clause-unnamed g c =
    subst (λ (k : Kernel). NoneNamed k.keys) (sym c.fill.ensures.made) (none_named-empty c.args.pages c.args.quantum)

pub returns-clause-shares : goal.returns-clause-shares
returns-clause-shares g c =
    subst (λ (k : Kernel). Shares k nothing_outside []) (sym c.fill.ensures.made) (shares-empty c.args.pages c.args.quantum)

pub returns-clause-fixed : goal.returns-clause-fixed
returns-clause-fixed g c =
    subst (λ (k : Kernel). FixedNodes k.keys) (sym c.fill.ensures.made)
    (fresh-fixed (empty_bank c.args.pages c.args.quantum).keys (fresh_nodes-empty c.args.pages c.args.quantum))
