use Rattle.std.proofs.Common.{◌∙◌, arith}
use Rattle.kernel_tables.specs.Kernel.{kernel_of}
use Rattle.kernel_tables.specs.Rows.{domain_rows}
use Rattle.domain.proofs.WordLaws.{regs_told, three_long, three_read}
use Rattle.domain.proofs.readers.words.registers.Goals as goal

pub loop-place-preserved : goal.loop-place-preserved
loop-place-preserved g c =
    let row = domain_rows (kernel_of (g.T.Store.memory c.args.store.now)) c.args.node.0 in
    let low = c.loop-place-test.true in
    let so_far = c.loop-place.invariant in
    record {
      size = three_long row c.loop-place.x c.put_three.new.x c.words_at.result c.loop-place.place c.put_three.ensures ∙ so_far.size;
      reads = three_read row c.loop-place.x c.put_three.new.x c.words_at.result c.loop-place.place c.put_three.ensures (omega arith) so_far.size c.words_at.ensures so_far.reads;
    }

pub returns : goal.returns
returns g c =
    let past = c.loop-place-test.false in
    regs_told (domain_rows (kernel_of (g.T.Store.memory c.args.store.now)) c.args.node.0) c.loop-place.x c.words_at-2.result c.loop-place.invariant.size c.words_at-2.ensures (λ k below. c.loop-place.invariant.reads k (omega arith))
