use Rattle.std.proofs.Common.{◌+◌, true, drop, sym, ◌∙◌, ap, arith, ◌++◌}
use Rattle.std.specs.Prelude.{slice_index_or, ◌==◌}
use Rattle.unix_exec.specs.Addresses.{addresses_from}
use Rattle.unix_exec.proofs.Strings.{address_fits, addresses_more, addresses_end}
use Rattle.unix_exec.proofs.stack.append_addresses.Goals as goal

pub append_address-requires : goal.append_address-requires
append_address-requires c = record {
  room = address_fits c.loop-byte.bytes.items (addresses_from c.loop-byte.begins c.loop-byte.address (drop c.loop-byte.byte-index c.args.strings.now)) c.args.bytes.now.items
      (addresses_from true c.args.start c.args.strings.now) c.loop-byte.invariant.so_far c.requires.room;
}

pub loop-byte-preserved : goal.loop-byte-preserved
loop-byte-preserved c = record {
  place = let place = c.loop-byte.invariant.place in omega arith;
  so_far = ap (λ items. items ++ addresses_from (slice_index_or c.args.strings.now c.loop-byte.byte-index 0 == 0) (c.loop-byte.address + 1) (drop (c.loop-byte.byte-index + 1) c.args.strings.now)) c.append_address.ensures.items
      ∙ addresses_more c.loop-byte.bytes.items c.loop-byte.begins c.loop-byte.address c.args.strings.now c.loop-byte.byte-index 0 c.loop-byte-test.true
      ∙ c.loop-byte.invariant.so_far;
}

pub returns : goal.returns
returns c = record {
  items = sym (addresses_end c.loop-byte.bytes.items c.loop-byte.begins c.loop-byte.address c.args.strings.now c.loop-byte.byte-index (let past = c.loop-byte-test.false in omega arith))
      ∙ c.loop-byte.invariant.so_far;
}
