use Rattle.std.proofs.Common.{◌+◌, ◌-◌, Some, ℕ, List, length, ap, sym, ◌∙◌, arith}
use Rattle.kernel_tables.specs.Kernel.{kernel_of}
use Rattle.unix_model.specs.Memory.{byte_at, bytes_at}
use Rattle.unix_model.specs.Enter.{text_at}
use Rattle.user_copy.specs.SpaceMemory.{space_memory}
use Rattle.user_copy.proofs.Texts.{text_behind, text_first, ends_here, goes_on, is_unmapped, is_too_long, held_none, held_more}
use Rattle.user_copy.proofs.read.take_text.Goals as goal

pub loop-i-init : goal.loop-i-init
loop-i-init g c =
    let memory = space_memory (kernel_of (g.T.Store.memory c.args.store.now)) c.args.space.0.0 in
    record {
      number = ap length c.clear.ensures;
      so_far = λ too_long. text_first memory too_long c.args.at ∙ ap (λ bytes. text_behind bytes (text_at memory too_long 256 (c.args.at + 0))) (sym c.clear.ensures);
      held = held_none memory c.args.at _ c.clear.ensures;
    }

pub returns-then-byte-eq0 : goal.returns-then-byte-eq0
returns-then-byte-eq0 g c =
    let memory = space_memory (kernel_of (g.T.Store.memory c.args.store.now)) c.args.space.0.0 in
    let here = sym c.in-Some.ensures ∙ ap (λ (byte : ℕ). Some byte) c.if-byte-eq0.true in
    record {
      taken = λ too_long. ends_here memory too_long c.args.at c.loop-i.i c.loop-i.into.items c.loop-i-test.true (c.loop-i.invariant.so_far too_long) here;
      held = ap (bytes_at memory c.args.at) c.loop-i.invariant.number ∙ c.loop-i.invariant.held;
      stopped = ap (λ n. byte_at memory (c.args.at + n)) c.loop-i.invariant.number ∙ here;
    }

pub returns-in-None : goal.returns-in-None
returns-in-None g c =
    let memory = space_memory (kernel_of (g.T.Store.memory c.args.store.now)) c.args.space.0.0 in
    record {
      taken = λ too_long. is_unmapped memory too_long c.args.at c.loop-i.i c.loop-i.into.items c.loop-i-test.true (c.loop-i.invariant.so_far too_long) (sym c.in-None.ensures);
      held = ap (bytes_at memory c.args.at) c.loop-i.invariant.number ∙ c.loop-i.invariant.held;
      stopped = ap (λ n. byte_at memory (c.args.at + n)) c.loop-i.invariant.number ∙ sym c.in-None.ensures;
    }

pub loop-i-preserved : goal.loop-i-preserved
loop-i-preserved g c =
    let memory = space_memory (kernel_of (g.T.Store.memory c.args.store.now)) c.args.space.0.0 in
    record {
      number = c.push.ensures.len ∙ ap (λ n. n + 1) c.loop-i.invariant.number;
      so_far = λ too_long. goes_on memory too_long c.args.at c.loop-i.i c.loop-i.into.items c.loop-i-test.true
          (c.loop-i.invariant.so_far too_long) c.in-Some.byte (sym c.in-Some.ensures) c.if-byte-eq0.false
          ∙ ap (λ bytes. text_behind bytes (text_at memory too_long (256 - (c.loop-i.i + 1)) (c.args.at + (c.loop-i.i + 1)))) (sym c.push.ensures.items);
      held = held_more memory c.args.at c.loop-i.i c.in-Some.byte c.loop-i.into.items c.loop-i.invariant.held (sym c.in-Some.ensures)
          ∙ ap (λ (bytes : List ℕ). Some bytes) (sym c.push.ensures.items);
    }

pub returns : goal.returns
returns g c =
    let past = c.loop-i-test.false in
    let most = c.loop-i.auto.i-end in
    let number = c.loop-i.invariant.number in
    let memory = space_memory (kernel_of (g.T.Store.memory c.args.store.now)) c.args.space.0.0 in
    record {
      taken = λ too_long. is_too_long memory too_long c.args.at c.loop-i.i c.loop-i.into.items (omega arith) (c.loop-i.invariant.so_far too_long);
      held = ap (bytes_at memory c.args.at) number ∙ c.loop-i.invariant.held;
      stopped = omega arith;
    }
