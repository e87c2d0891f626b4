use Rattle.kernel_tables.specs.Kernel.{kernel_of}
use Rattle.kernel_machine.specs.Loose.{StandingBut, word_of}
use Rattle.std.proofs.Common.{sym, subst}
use Rattle.file_domain.specs.Dropping.{Releases}
use Rattle.file_domain.proofs.Released.{no_root}
use Rattle.file_domain.proofs.dropping.give_root.Goals as goal

pub returns-in-Console-clause-released : goal.returns-in-Console-clause-released
returns-in-Console-clause-released g c =
    let old = kernel_of (g.T.Store.memory c.args.store.now) in
    subst (Releases old old c.args.inode.root) (sym c.in-Console.is) (no_root old c.args.inode.root (subst (λ kind. StandingBut old (word_of kind c.args.inode.root)) c.in-Console.is c.requires.loose))
