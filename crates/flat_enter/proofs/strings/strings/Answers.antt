use Rattle.std.proofs.Common.{arith, ◌∙◌, ◌≡◌, ◌+◌, ◌-◌, ◌*◌, ◌++◌, ℕ, List, length, Some, None, ap, sym}
use Rattle.unix_model.specs.Enter.{strings_at}
use Rattle.unix_model.specs.Memory.{Memory, word_at}
use Rattle.flat_memory.specs.MemoryView.{memory_of}
use Rattle.flat_enter.specs.Enters.{before}
use Rattle.flat_enter.proofs.StringLaws.{last-end, last-more, last-unmapped, strings-end, strings-fault, strings-more, strings-unmapped}
use Rattle.flat_enter.proofs.strings.strings.Goals as goal

pub returns-in-None-clause-strings : goal.returns-in-None-clause-strings
returns-in-None-clause-strings c =
    let there : word_at (memory_of c.args.memory.now) (c.args.address + 4 * c.loop-i.i) ≡ None = cc in
    c.loop-i.invariant.strings ∙ strings-unmapped (memory_of c.args.memory.now) 16 c.loop-i.i c.loop-i.left c.args.address c.loop-i.bytes.items (omega arith) there

pub returns-then-pointer-eq0-clause-strings : goal.returns-then-pointer-eq0-clause-strings
returns-then-pointer-eq0-clause-strings c =
    let there : word_at (memory_of c.args.memory.now) (c.args.address + 4 * c.loop-i.i) ≡ Some 0 = cc in
    c.loop-i.invariant.strings ∙ strings-end (memory_of c.args.memory.now) 16 c.loop-i.i c.loop-i.left c.args.address c.loop-i.bytes.items (omega arith) there

pub returns-in-Err-clause-strings : goal.returns-in-Err-clause-strings
returns-in-Err-clause-strings c =
    let there : word_at (memory_of c.args.memory.now) (c.args.address + 4 * c.loop-i.i) ≡ Some c.in-Some.pointer = cc in
    strings-fault (memory_of c.args.memory.now) 16 c.loop-i.i c.loop-i.left c.args.address c.in-Some.pointer c.loop-i.bytes.items _ c.in-Err.fault (omega arith) there c.if-pointer-eq0.false
    c.loop-i.invariant.strings c.in-Err.ensures.string

pub loop-i-preserved : goal.loop-i-preserved
loop-i-preserved c =
    let memory : Memory = memory_of c.args.memory.now in
    let there : word_at memory (c.args.address + 4 * c.loop-i.i) ≡ Some c.in-Some.pointer = cc in
    let all : c.extend_from_slice.new.self.items ≡ c.loop-i.bytes.items ++ c.in-Ok.string.items =
    c.in-Ok-extend_from_slice.ensures.items ∙ ap (λ (b : List ℕ). c.loop-i.bytes.items ++ b) c.as_slice.ensures.value in
    let len : c.len.result ≡ length c.in-Ok.string.items = omega (arith, c.len.ensures) in
    record {
      strings =
          c.loop-i.invariant.strings
          ∙ (strings-more memory 16 c.loop-i.i c.loop-i.left c.args.address c.in-Some.pointer c.loop-i.bytes.items c.in-Ok.string.items (omega arith) there c.if-pointer-eq0.false c.in-Ok.ensures.string
          ∙ (ap (λ (k : ℕ). before (c.loop-i.bytes.items ++ c.in-Ok.string.items) (strings_at memory (16 - (c.loop-i.i + 1)) (c.loop-i.left - k) (c.args.address + 4 * (c.loop-i.i + 1)))) (sym len)
          ∙ ap (λ (b : List ℕ). before b (strings_at memory (16 - (c.loop-i.i + 1)) (c.loop-i.left - c.len.result) (c.args.address + 4 * (c.loop-i.i + 1)))) (sym all)));
      room = omega (arith, c.in-Ok-extend_from_slice.ensures.len, c.as_slice.ensures.len, c.len.ensures, c.loop-i.invariant.room, c.in-Ok.ensures.few);
    }

pub returns-in-Some-eq0-clause-strings : goal.returns-in-Some-eq0-clause-strings
returns-in-Some-eq0-clause-strings c =
    let last : c.loop-i.i ≡ 16 = omega arith in
    let there : word_at (memory_of c.args.memory.now) (c.args.address + 64) ≡ Some 0 = cc in
    let at_last : word_at (memory_of c.args.memory.now) (c.args.address + 4 * c.loop-i.i) ≡ Some 0 = ap (λ (k : ℕ). word_at (memory_of c.args.memory.now) (c.args.address + 4 * k)) last ∙ there in
    c.loop-i.invariant.strings ∙ last-end (memory_of c.args.memory.now) 16 c.loop-i.i c.loop-i.left c.args.address c.loop-i.bytes.items (omega arith) at_last

pub returns-in-Some-word-clause-strings : goal.returns-in-Some-word-clause-strings
returns-in-Some-word-clause-strings c =
    let last : c.loop-i.i ≡ 16 = omega arith in
    let there : word_at (memory_of c.args.memory.now) (c.args.address + 64) ≡ Some c.in-Some-word.field-0 = cc in
    let at_last : word_at (memory_of c.args.memory.now) (c.args.address + 4 * c.loop-i.i) ≡ Some c.in-Some-word.field-0 = ap (λ (k : ℕ). word_at (memory_of c.args.memory.now) (c.args.address + 4 * k)) last ∙ there in
    c.loop-i.invariant.strings ∙ last-more (memory_of c.args.memory.now) 16 c.loop-i.i c.loop-i.left c.args.address c.in-Some-word.field-0 c.loop-i.bytes.items (omega arith) at_last c.in-Some-word.field-0-test.1

pub returns-in-None-word-clause-strings : goal.returns-in-None-word-clause-strings
returns-in-None-word-clause-strings c =
    let last : c.loop-i.i ≡ 16 = omega arith in
    let there : word_at (memory_of c.args.memory.now) (c.args.address + 64) ≡ None = cc in
    let at_last : word_at (memory_of c.args.memory.now) (c.args.address + 4 * c.loop-i.i) ≡ None = ap (λ (k : ℕ). word_at (memory_of c.args.memory.now) (c.args.address + 4 * k)) last ∙ there in
    c.loop-i.invariant.strings ∙ last-unmapped (memory_of c.args.memory.now) 16 c.loop-i.i c.loop-i.left c.args.address c.loop-i.bytes.items (omega arith) at_last
