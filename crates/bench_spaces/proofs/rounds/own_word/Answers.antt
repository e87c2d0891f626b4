use Rattle.std.proofs.Common.{sym, subst}
use Rattle.kernel_tables.specs.Kernel.{kernel_of}
use Rattle.bench_spaces.specs.Own.{HasOwnPage}
use Rattle.bench_spaces.proofs.Owning.{found_own, written_own}
use Rattle.bench_spaces.proofs.rounds.own_word.Goals as goal

pub writable-requires-clause-page_room : goal.writable-requires-clause-page_room
writable-requires-clause-page_room g c found mapped may shared =
    absurd (shared (found_own (kernel_of (g.T.Store.memory c.args.store.now)) c.args.space.0.0 c.args.owner c.requires.own found mapped))

pub returns-in-Some : goal.returns-in-Some
returns-in-Some g c = record {
  own = written_own (kernel_of (g.T.Store.memory c.args.store.now)) (kernel_of (g.T.Store.memory c.writable.new.store)) (kernel_of (g.T.Store.memory c.write_page.new.store)) _ c.args.space.0.0 c.in-Some.id.0 c.args.owner
      c.requires.own c.in-Some.ensures.written c.write_page.ensures.good c.write_page.ensures.written;
}

pub returns-in-None : goal.returns-in-None
returns-in-None g c = record { own = subst (λ k. HasOwnPage k c.args.space.0.0 c.args.owner) (sym c.in-None.ensures.written.1) c.requires.own }
