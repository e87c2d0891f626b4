use Rattle.kernel_tables.specs.Kernel.{kernel_of}
use Rattle.file_domain.proofs.Released.{ring_high, ring_low, ring_released, ring_unnamed}
use Rattle.file_domain.proofs.dropping.give_ring.Goals as goal

pub give_page-requires-clause-low : goal.give_page-requires-clause-low
give_page-requires-clause-low g c = ring_low (kernel_of (g.T.Store.memory c.args.store.now)) c.args.page c.requires.real c.requires.loose

pub give_page-requires-clause-high : goal.give_page-requires-clause-high
give_page-requires-clause-high g c = ring_high (kernel_of (g.T.Store.memory c.args.store.now)) c.args.page c.requires.real c.requires.loose

pub give_page-requires-clause-unnamed : goal.give_page-requires-clause-unnamed
give_page-requires-clause-unnamed g c = ring_unnamed (kernel_of (g.T.Store.memory c.args.store.now)) c.args.page c.requires.real c.requires.loose c.requires.once

pub returns-clause-released : goal.returns-clause-released
returns-clause-released g c =
    ring_released (kernel_of (g.T.Store.memory c.args.store.now)) c.args.page c.requires.real c.requires.loose (kernel_of (g.T.Store.memory c.give_page.new.store)) c.requires.once
    c.give_page.ensures.given c.give_page.ensures.shares c.give_page.ensures.good
