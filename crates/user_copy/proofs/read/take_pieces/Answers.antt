use Rattle.std.proofs.Common.{◌-◌, length, take, drop, refl, arith}
use borrow.Rule.Slice.PartMut.{put_mid, same_len_mid}
use Rattle.kn_base.proofs.RowLaws.{length-part_at}
use Rattle.kernel_tables.specs.Kernel.{kernel_of}
use Rattle.unix_model.specs.Memory.{bytes_at}
use Rattle.user_copy.specs.SpaceMemory.{space_memory}
use Rattle.user_copy.proofs.Reading.{bytes_far, piece_missed, piece_put}
use Rattle.user_copy.proofs.read.take_pieces.Goals as goal

pub returns-then-at-into-gt2147483648 : goal.returns-then-at-into-gt2147483648
returns-then-at-into-gt2147483648 g c =
    let far = c.if-at-into-gt2147483648.true in
    bytes_far (kernel_of (g.T.Store.memory c.args.store.now)) c.args.space.0.0 c.args.at (length c.args.into.now) (omega arith) c.requires.some

pub loop-done-init : goal.loop-done-init
unfolding bytes_at
loop-done-init g c = record { within = omega arith; taken = refl }

pub returns-in-Err : goal.returns-in-Err
returns-in-Err g c =
    let end = c.min-end.ensures in
    let more = c.loop-done-test.true in
    let long = c.loop-done.auto.into in
    piece_missed c.in-Err.fault (space_memory (kernel_of (g.T.Store.memory c.args.store.now)) c.args.space.0.0) c.args.at c.loop-done.done c.min-end.result (length c.args.into.now)
    (length (take (c.min-end.result - c.loop-done.done) (drop c.loop-done.done c.loop-done.into)))
    (take c.loop-done.done c.loop-done.into) c.take_piece.new.into
    (put_mid c.loop-done.done (c.min-end.result - c.loop-done.done) c.loop-done.into c.take_piece.new.into)
    (omega arith) (omega arith) (length-part_at c.loop-done.into c.loop-done.done (c.min-end.result - c.loop-done.done) (omega arith))
    c.loop-done.invariant.taken c.in-Err.ensures

pub loop-done-preserved : goal.loop-done-preserved
loop-done-preserved g c =
    let end = c.min-end.ensures in
    let more = c.loop-done-test.true in
    let count = length-part_at c.loop-done.into c.loop-done.done (c.min-end.result - c.loop-done.done) (omega arith) in
    record {
      within = let long = same_len_mid c.loop-done.done (c.min-end.result - c.loop-done.done) c.loop-done.into c.take_piece.new.into c.take_piece.auto.into in omega arith;
      taken = piece_put (space_memory (kernel_of (g.T.Store.memory c.args.store.now)) c.args.space.0.0) c.args.at c.loop-done.done c.min-end.result
          (length (take (c.min-end.result - c.loop-done.done) (drop c.loop-done.done c.loop-done.into))) c.loop-done.into c.take_piece.new.into
          (omega arith) (omega arith) count c.take_piece.auto.into c.loop-done.invariant.taken c.in-Ok.ensures;
    }
