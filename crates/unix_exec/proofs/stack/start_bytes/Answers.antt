use Rattle.std.proofs.Common.{◌≡◌, ◌+◌, ◌*◌, ◌-◌, ◌%◌, ℕ, true, ◌++◌, length, ap, ◌∙◌, arith, length-append}
use Rattle.std.proofs.lemmas.List.{take-replicate, length-replicate}
use Rattle.std.specs.Prelude.{replicate}
use Rattle.std.specs.Int.{to_le_bytes, w32}
use Rattle.unix_exec.specs.Addresses.{addresses_from}
use Rattle.unix_exec.proofs.Strings.{length-from, length-word, stack_is}
use Rattle.unix_exec.proofs.stack.start_bytes.Goals as goal

pub append_addresses-requires-clause-room : goal.append_addresses-requires-clause-room
append_addresses-requires-clause-room c =
    let few = c.requires.few in
    omega (
      arith,
      c.append.ensures.len,
      ap length c.new-bytes.ensures,
      ap length c.to_le_bytes.ensures,
      length-word c.args.count,
      length-from c.args.strings.now c.args.count c.requires.strings.0 (2147483648 - length c.args.strings.now) c.requires.strings.1,
    )

pub append-requires-2 : goal.append-requires-2
append-requires-2 c =
    let few = c.requires.few in
    record {
      room = omega (
        arith,
        c.append.ensures.len,
        ap length c.new-bytes.ensures,
        ap length c.to_le_bytes.ensures,
        length-word c.args.count,
        ap length c.append_addresses.ensures.items,
        length-append c.append.new.bytes.items (addresses_from true (2147483648 - length c.args.strings.now) c.args.strings.now),
        length-from c.args.strings.now c.args.count c.requires.strings.0 (2147483648 - length c.args.strings.now) c.requires.strings.1,
      );
    }

pub append-requires-3 : goal.append-requires-3
append-requires-3 c =
    let few = c.requires.few in
    record {
      room = omega (
        arith,
        c.append.ensures.len,
        ap length c.new-bytes.ensures,
        ap length c.to_le_bytes.ensures,
        length-word c.args.count,
        ap length c.append_addresses.ensures.items,
        length-append c.append.new.bytes.items (addresses_from true (2147483648 - length c.args.strings.now) c.args.strings.now),
        length-from c.args.strings.now c.args.count c.requires.strings.0 (2147483648 - length c.args.strings.now) c.requires.strings.1,
        c.append-2.ensures.len,
        ap length (take-replicate {X = ℕ} ((2147483648 - length c.args.strings.now - c.len.result) % 16) 16 0 (omega arith)),
        length-replicate {A = ℕ} ((2147483648 - length c.args.strings.now - c.len.result) % 16) 0,
      );
    }

pub append-requires-4 : goal.append-requires-4
append-requires-4 c =
    let few = c.requires.few in
    let short = c.requires.short in
    record {
      room = omega (
        arith,
        c.append.ensures.len,
        ap length c.new-bytes.ensures,
        ap length c.to_le_bytes.ensures,
        length-word c.args.count,
        ap length c.append_addresses.ensures.items,
        length-append c.append.new.bytes.items (addresses_from true (2147483648 - length c.args.strings.now) c.args.strings.now),
        length-from c.args.strings.now c.args.count c.requires.strings.0 (2147483648 - length c.args.strings.now) c.requires.strings.1,
        c.append-2.ensures.len,
        c.append-3.ensures.len,
        ap length (take-replicate {X = ℕ} ((2147483648 - length c.args.strings.now - c.len.result) % 16) 16 0 (omega arith)),
        length-replicate {A = ℕ} ((2147483648 - length c.args.strings.now - c.len.result) % 16) 0,
      );
    }

pub returns : goal.returns
returns c = λ list are.
    let long : c.len.result ≡ 12 + 4 * c.args.count
    = omega (
      arith,
      c.append.ensures.len,
      ap length c.new-bytes.ensures,
      ap length c.to_le_bytes.ensures,
      length-word c.args.count,
      ap length c.append_addresses.ensures.items,
      length-append c.append.new.bytes.items (addresses_from true (2147483648 - length c.args.strings.now) c.args.strings.now),
      length-from c.args.strings.now c.args.count list (2147483648 - length c.args.strings.now) are,
      c.append-2.ensures.len,
      c.len.ensures.value,
    ) in
    let between : ℕ = (2147483648 - length c.args.strings.now - c.len.result) % 16 in
    let count : c.append.new.bytes.items ≡ to_le_bytes w32 c.args.count
    = c.append.ensures.items ∙ ap (λ items. items ++ c.to_le_bytes.result) c.new-bytes.ensures ∙ c.to_le_bytes.ensures in
    c.append-4.ensures.items
    ∙ ap (λ items. items ++ c.args.strings.now)
    (c.append-3.ensures.items
    ∙ ap (λ zeros. c.append-2.new.bytes.items ++ zeros) (take-replicate {X = ℕ} between 16 0 (omega arith))
    ∙ ap (λ items. items ++ replicate between 0)
    (c.append-2.ensures.items
    ∙ ap (λ items. items ++ replicate 8 0)
    (c.append_addresses.ensures.items
    ∙ ap (λ items. items ++ addresses_from true (2147483648 - length c.args.strings.now) c.args.strings.now) count)))
    ∙ stack_is c.args.strings.now c.args.count between list are c.requires.few c.requires.short (ap (λ n. (2147483648 - length c.args.strings.now - n) % 16) long)
