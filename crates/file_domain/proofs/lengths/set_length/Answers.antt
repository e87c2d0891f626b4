use Rattle.std.proofs.Common.{Err, refl, subst, sym}
use Rattle.unix_model.specs.declared.calls.Errno.{Errno}
use Rattle.kernel_tables.specs.Kernel.{kernel_of}
use Rattle.file_domain.specs.Cutting.{Truncates}
use Rattle.file_domain.proofs.Truncating.{length_crowded, length_set}
use Rattle.file_domain.proofs.lengths.set_length.Goals as goal

pub returns-then-length-inode-clause-truncated : goal.returns-then-length-inode-clause-truncated
returns-then-length-inode-clause-truncated g c =
    let short = c.shrink.ensures.shortened in
    length_set (kernel_of (g.T.Store.memory c.args.store.now)) (kernel_of (g.T.Store.memory c.shrink.new.store)) c.args.file c.args.length c.args.inode short.now c.requires.most short.length_now short.resizes

pub returns-in-Ok-clause-truncated : goal.returns-in-Ok-clause-truncated
returns-in-Ok-clause-truncated g c =
    length_set (kernel_of (g.T.Store.memory c.args.store.now)) (kernel_of (g.T.Store.memory c.grow.new.store)) c.args.file c.args.length c.args.inode _ c.requires.most refl c.in-Ok.ensures.grown

pub returns-in-Err-clause-truncated : goal.returns-in-Err-clause-truncated
returns-in-Err-clause-truncated g c =
    let old = kernel_of (g.T.Store.memory c.args.store.now) in
    let new = kernel_of (g.T.Store.memory c.grow.new.store) in
    subst (λ (errno : Errno). Truncates old new c.args.file c.args.inode c.args.length (Err errno)) (sym (c.in-Err.ensures.errno c.in-Err.errno refl))
    (length_crowded old new c.args.file c.args.length c.args.inode c.requires.most c.in-Err.ensures.refused)
