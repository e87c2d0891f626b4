use Rattle.std.proofs.Common.{◌≤◌, ◌∙◌, ap, sym, subst}
use Rattle.kernel_tables.specs.declared.inode.Inode.{Inode}
use Rattle.pipe_domain.specs.Pipes.{row_inode}
use Rattle.pipe_domain.proofs.pipes.pipe_inode.Goals as goal

pub returns-clause-size : goal.returns-clause-size
returns-clause-size g c = subst (λ (inode : Inode). inode.length ≤ 4096) (ap row_inode c.in-Some.ensures) c.requires.ring.size

pub returns-clause-counted : goal.returns-clause-counted
returns-clause-counted g c = ap (λ (inode : Inode). inode.opens) (sym (ap row_inode c.in-Some.ensures)) ∙ c.requires.counted
