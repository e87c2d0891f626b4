use Rattle.std.proofs.Common.{arith, ◌∙◌}
use Rattle.flat_memory.proofs.StackLaws.{strings-few, words-whole}
use Rattle.flat_memory.proofs.stack_bytes.argument_words.Goals as goal

pub overflow_cast-strings : goal.overflow_cast-strings
overflow_cast-strings c = omega (arith, strings-few c.args.strings.now, c.requires.few)

pub returns : goal.returns
returns c = c.in_ok-extend_from_slice-2.ensures.items ∙ words-whole c.args.strings.now c.loop-string.string-index c.args.start c.loop-string.address c.loop-string.bytes.items (omega arith) c.requires.start c.loop-string.invariant.words
