use Rattle.std.proofs.Common.{◌+◌}
use Rattle.bundle.proofs.PathLaws.{last-slash, rest-whole}
use Rattle.bundle.proofs.paths.form_of.Goals as goal

pub returns-then-is_long-2-clause-parent : goal.returns-then-is_long-2-clause-parent
returns-then-is_long-2-clause-parent c = last-slash c.args.path.now c.names.last_slash c.names.invariant.inside c.names.invariant.here (rw (rest-whole c.args.path.now (c.names.last_slash + 1)) at c.in-Last.ensures.no_slash)

pub returns-else-is_long-2-clause-parent : goal.returns-else-is_long-2-clause-parent
returns-else-is_long-2-clause-parent c = last-slash c.args.path.now c.names.last_slash c.names.invariant.inside c.names.invariant.here (rw (rest-whole c.args.path.now (c.names.last_slash + 1)) at c.in-Last.ensures.no_slash)
