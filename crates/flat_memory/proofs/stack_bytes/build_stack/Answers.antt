use Rattle.std.proofs.Common.{arith, ap, ◌∙◌, ◌≡◌, ◌≤◌, ◌-◌, ◌*◌, length, ◌++◌, ◌/◌, length-append, ℕ}
use Rattle.unix_model.specs.Limits.{stack_end}
use Rattle.unix_model.specs.Loading.{argument_words, stack_pointer, strings_start}
use Rattle.flat_memory.specs.StringsView.{strings_of}
use Rattle.flat_memory.proofs.StackLaws.{strings-few, length-words, bytes-whole}
use Rattle.flat_memory.proofs.stack_bytes.build_stack.Goals as goal

pub argument_words-requires-clause-start : goal.argument_words-requires-clause-start
unfolding strings_start stack_end
argument_words-requires-clause-start c = omega (arith, c.len.ensures, ap length c.in_ok-texts.ensures)

pub overflow_cast-words : goal.overflow_cast-words
overflow_cast-words c = omega (arith, c.len-words.ensures, ap length c.in_ok-bytes.ensures, length-words c.args.strings.now, strings-few c.args.strings.now, c.requires)

pub overflow_sub-pointer : goal.overflow_sub-pointer
overflow_sub-pointer c = omega (arith, c.len.ensures, ap length c.in_ok-texts.ensures, c.len-words.ensures, ap length c.in_ok-bytes.ensures, length-words c.args.strings.now, strings-few c.args.strings.now, c.requires)

pub overflow_sub-start-2 : goal.overflow_sub-start-2
overflow_sub-start-2 c = omega (arith, c.len.ensures, ap length c.in_ok-texts.ensures, c.len-words.ensures, ap length c.in_ok-bytes.ensures, length-words c.args.strings.now, strings-few c.args.strings.now, c.requires)

pub invariant_of-result : goal.invariant_of-result
invariant_of-result c =
    let texts : c.len.result ≡ length c.as_slice-2.result.now = omega (arith, c.len.ensures, ap length c.as_slice-2.ensures.value) in
    let words : c.len-words.result ≡ length c.in_ok-bytes.bytes.items = omega (arith, c.len-words.ensures) in
    let most : c.len-words.result ≤ 2147483648 - c.len.result =
    omega (arith, c.len.ensures, ap length c.in_ok-texts.ensures, c.len-words.ensures, ap length c.in_ok-bytes.ensures, length-words c.args.strings.now, strings-few c.args.strings.now, c.requires) in
    omega (
      arith,
      most,
      texts,
      words,
      c.len.ensures,
      ap length c.in_ok-texts.ensures,
      c.requires,
      c.in_ok-between.ensures.len,
      c.as_slice.ensures.len,
      ap length c.in_ok-extend_from_slice.ensures.items,
      length-append c.in_ok-bytes.bytes.items c.as_slice.result.now,
      ap length c.in_ok-extend_from_slice-2.ensures.items,
      length-append c.extend_from_slice.new.self.items c.as_slice-2.result.now,
    )

pub returns-clause-pointer : goal.returns-clause-pointer
unfolding strings_start stack_end stack_pointer
returns-clause-pointer c =
    let start : 2147483648 - c.len.result ≡ strings_start (strings_of c.args.strings.now) = omega (arith, c.len.ensures, ap length c.in_ok-texts.ensures) in
    let words : c.len-words.result ≡ length (argument_words (strings_of c.args.strings.now)) = omega (arith, c.len-words.ensures, ap length c.in_ok-bytes.ensures) in
    ap (λ (n : ℕ). (n - c.len-words.result) / 16 * 16) start ∙ ap (λ (n : ℕ). (strings_start (strings_of c.args.strings.now) - n) / 16 * 16) words

pub returns-clause-bytes : goal.returns-clause-bytes
unfolding strings_start stack_end stack_pointer
returns-clause-bytes c =
    let start : 2147483648 - c.len.result ≡ strings_start (strings_of c.args.strings.now) = omega (arith, c.len.ensures, ap length c.in_ok-texts.ensures) in
    let words : c.len-words.result ≡ length (argument_words (strings_of c.args.strings.now)) = omega (arith, c.len-words.ensures, ap length c.in_ok-bytes.ensures) in
    let pointer : (2147483648 - c.len.result - c.len-words.result) / 16 * 16 ≡ stack_pointer (strings_of c.args.strings.now) =
    ap (λ (n : ℕ). (n - c.len-words.result) / 16 * 16) start ∙ ap (λ (n : ℕ). (strings_start (strings_of c.args.strings.now) - n) / 16 * 16) words in
    bytes-whole c.args.strings.now (2147483648 - c.len.result) c.len-words.result _ c.in_ok-bytes.bytes.items c.as_slice-2.result.now c.as_slice.result.now _
    start words pointer c.in_ok-bytes.ensures (c.as_slice-2.ensures.value ∙ c.in_ok-texts.ensures) (c.as_slice.ensures.value ∙ c.in_ok-between.ensures.items_if_clones_equal (λ y e. e))
    (c.in_ok-extend_from_slice-2.ensures.items ∙ ap (λ b. b ++ c.as_slice-2.result.now) c.in_ok-extend_from_slice.ensures.items)
