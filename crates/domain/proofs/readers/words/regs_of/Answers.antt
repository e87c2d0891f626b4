use Rattle.std.proofs.Common.{◌∙◌, ap, sym, Some, None}
use Rattle.kernel_tables.specs.Kernel.{kernel_of}
use Rattle.kernel_tables.specs.Rows.{domain_rows}
use Rattle.domain.specs.Domains.{regs_by}
use Rattle.domain.proofs.WordLaws.{root_regs, zero_registers}
use Rattle.domain.proofs.readers.words.regs_of.Goals as goal

pub registers-requires-clause-named : goal.registers-requires-clause-named
registers-requires-clause-named g c = record { by = c.args.root.0; place = 3; named = c.in-Some.ensures }

pub returns-in-Some : goal.returns-in-Some
returns-in-Some g c =
    c.registers.ensures ∙ ap regs_by (sym (root_regs (domain_rows (kernel_of (g.T.Store.memory c.args.store.now))) c.args.root.0 (Some c.in-Some.node.0) c.requires.live c.in-Some.ensures))

pub returns-in-None : goal.returns-in-None
returns-in-None g c =
    zero_registers ∙ ap regs_by (sym (root_regs (domain_rows (kernel_of (g.T.Store.memory c.args.store.now))) c.args.root.0 None c.requires.live c.in-None.ensures))
