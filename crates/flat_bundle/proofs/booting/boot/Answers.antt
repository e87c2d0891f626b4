use Rattle.std.proofs.Common.{◌∙◌}
use Rattle.std.specs.Option.{option_to_list}
use Rattle.flat_unix.specs.FlatView.{unix_of}
use Rattle.bundle.specs.Views.{pending, place_of}
use Rattle.flat_bundle.proofs.BootLaws.{fails, loads, more, not_stored}
use Rattle.flat_bundle.proofs.booting.boot.Goals as goal

pub returns-in-Err-store-clause-boots : goal.returns-in-Err-store-clause-boots
returns-in-Err-store-clause-boots g c =
    not_stored c.args.pages c.args.quantum (option_to_list c.args.first) (g.S.Source.left c.args.from.now) (g.S.Source.left c.reading.from) (unix_of c.reading.flat) (place_of c.reading.reader) (pending c.reading.reader) c.reading.invariant.so_far
    c.in-Ok-Some.entry (place_of c.next_entry.new.reader) (g.S.Source.left c.next_entry.new.from) c.in-Err-store.fault (rw c.in-Ok-Some.field-0-is at c.in-Ok-Some.ensures.taken) c.in-Err-store.ensures.refused

pub reading-preserved-in-Ok-store : goal.reading-preserved-in-Ok-store
reading-preserved-in-Ok-store g c = record {
  so_far = more c.args.pages c.args.quantum (option_to_list c.args.first) (g.S.Source.left c.args.from.now) (g.S.Source.left c.reading.from) (unix_of c.reading.flat) (place_of c.reading.reader) (pending c.reading.reader) c.reading.invariant.so_far
      c.in-Ok-Some.entry (place_of c.next_entry.new.reader) (g.S.Source.left c.next_entry.new.from) (unix_of c.store.new.flat) (pending c.next_entry.new.reader) (rw c.in-Ok-Some.field-0-is at c.in-Ok-Some.ensures.taken) c.in-Ok-store.ensures.stored c.in-Ok-Some.ensures.pending;
  is_open = rw c.in-Ok-Some.field-0-is at c.in-Ok-Some.ensures.open;
  same = c.in-Ok-Some.ensures.same ∙ c.reading.invariant.same;
}

pub reading-preserved : goal.reading-preserved
reading-preserved g c = record {
  so_far = more c.args.pages c.args.quantum (option_to_list c.args.first) (g.S.Source.left c.args.from.now) (g.S.Source.left c.reading.from) (unix_of c.reading.flat) (place_of c.reading.reader) (pending c.reading.reader) c.reading.invariant.so_far
      c.in-Ok-Some.entry (place_of c.next_entry.new.reader) (g.S.Source.left c.next_entry.new.from) (unix_of c.store.new.flat) (pending c.next_entry.new.reader) (rw c.in-Ok-Some.field-0-is at c.in-Ok-Some.ensures.taken) c.in-Ok-store.ensures.stored c.in-Ok-Some.ensures.pending;
  is_open = rw c.in-Ok-Some.field-0-is at c.in-Ok-Some.ensures.open;
  same = c.in-Ok-Some.ensures.same ∙ c.reading.invariant.same;
}

pub returns-in-Ok-None-clause-boots : goal.returns-in-Ok-None-clause-boots
returns-in-Ok-None-clause-boots g c =
    loads c.args.pages c.args.quantum (option_to_list c.args.first) (g.S.Source.left c.args.from.now) (g.S.Source.left c.reading.from) (unix_of c.reading.flat) (place_of c.reading.reader) (pending c.reading.reader) c.reading.invariant.so_far
    (place_of c.next_entry.new.reader) (g.S.Source.left c.next_entry.new.from) c.start.result (rw c.in-Ok-None.field-0-is at c.in-Ok-None.ensures.taken) c.start.ensures.loads

pub returns-in-Err-next_entry-clause-boots : goal.returns-in-Err-next_entry-clause-boots
returns-in-Err-next_entry-clause-boots g c = λ bytes told.
    rw c.told.ensures
    (fails c.args.pages c.args.quantum (option_to_list c.args.first) (g.S.Source.left c.args.from.now) (g.S.Source.left c.reading.from) (unix_of c.reading.flat) (place_of c.reading.reader) (pending c.reading.reader) c.reading.invariant.so_far
    c.in-Err-next_entry.fault (g.S.Source.left c.next_entry.new.from) c.in-Err-next_entry.ensures.fault bytes told)
