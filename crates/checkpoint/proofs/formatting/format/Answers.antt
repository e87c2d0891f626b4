use Rattle.std.proofs.Common.{sym, subst}
use Rattle.checkpoint.specs.Format.{Blank}
use Rattle.checkpoint.proofs.BlankLaws.{absent-blank}
use Rattle.checkpoint.proofs.formatting.format.Goals as goal

pub lay-requires-clause-blank : goal.lay-requires-clause-blank
lay-requires-clause-blank g c told =
    subst Blank (sym (c.sync_first.ensures.still.contents_same told)) (absent-blank (g.D.Disk.contents c.args.disk.now) (c.requires.absent told))
