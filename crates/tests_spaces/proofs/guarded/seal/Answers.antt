use Rattle.std.proofs.Common.{ap, ◌∙◌, sym}
use Rattle.kernel_tables.specs.Kernel.{Kernel, kernel_of}
use Rattle.tests_spaces.proofs.Keeping.{changed_keeps}
use Rattle.tests_spaces.proofs.guarded.seal.Goals as goal

pub returns-in-Some-clause-spaces : goal.returns-in-Some-clause-spaces
returns-in-Some-clause-spaces g c =
    changed_keeps (kernel_of (g.T.Store.memory c.args.store.now)) (kernel_of (g.T.Store.memory c.protect.new.store)) c.args.space.0.0 _ (c.protect.ensures.protected (record { writable = c.in-Some._found.writable; page = c.in-Some._found.page.0 }) (sym c.in-Some.ensures.found)).outside_now
    ((c.protect.ensures.protected (record { writable = c.in-Some._found.writable; page = c.in-Some._found.page.0 }) (sym c.in-Some.ensures.found)).changes c.requires.ready.outside c.requires.ready.trees).1

pub returns-in-Some-clause-stays : goal.returns-in-Some-clause-stays
returns-in-Some-clause-stays g c =
    (changed_keeps (kernel_of (g.T.Store.memory c.args.store.now)) (kernel_of (g.T.Store.memory c.protect.new.store)) c.args.space.0.0 _ (c.protect.ensures.protected (record { writable = c.in-Some._found.writable; page = c.in-Some._found.page.0 }) (sym c.in-Some.ensures.found)).outside_now
    ((c.protect.ensures.protected (record { writable = c.in-Some._found.writable; page = c.in-Some._found.page.0 }) (sym c.in-Some.ensures.found)).changes c.requires.ready.outside c.requires.ready.trees).1).stay c.args.space.0.0 c.requires.space

pub returns-in-Some-clause-ready : goal.returns-in-Some-clause-ready
returns-in-Some-clause-ready g c = record {
  good = c.protect.ensures.good;
  zero = ap (λ (k : Kernel). k.page_zero) (c.protect.ensures.protected (record { writable = c.in-Some._found.writable; page = c.in-Some._found.page.0 }) (sym c.in-Some.ensures.found)).rest ∙ c.requires.ready.zero;
  outside = c.requires.ready.outside;
  trees = ((c.protect.ensures.protected (record { writable = c.in-Some._found.writable; page = c.in-Some._found.page.0 }) (sym c.in-Some.ensures.found)).changes c.requires.ready.outside c.requires.ready.trees).0;
}
