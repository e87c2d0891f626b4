use Rattle.std.proofs.Common.{◌++◌}
use Rattle.rv_asm.specs.Files.{program_header, word}
use Rattle.rv_asm.proofs.FileLaws.{next}
use Rattle.rv_asm.proofs.file.push_header.Goals as goal

pub returns : goal.returns
unfolding program_header
returns c =
    let old = c.args.file.now.items in
    let offset = word c.args.offset in
    let address = word c.args.address in
    let bytes = word c.args.bytes in
    let flags = word c.args.flags in
    let two = next old (word 1) offset _ _ c.in_ok-push_number.ensures c.in_ok-push_number-2.ensures in
    let three = next old (word 1 ++ offset) address _ _ two c.in_ok-push_number-3.ensures in
    let four = next old (word 1 ++ offset ++ address) address _ _ three c.in_ok-push_number-4.ensures in
    let five = next old (word 1 ++ offset ++ address ++ address) bytes _ _ four c.in_ok-push_number-5.ensures in
    let six = next old (word 1 ++ offset ++ address ++ address ++ bytes) bytes _ _ five c.in_ok-push_number-6.ensures in
    let seven = next old (word 1 ++ offset ++ address ++ address ++ bytes ++ bytes) flags _ _ six c.in_ok-push_number-7.ensures in
    next old (word 1 ++ offset ++ address ++ address ++ bytes ++ bytes ++ flags) (word 1) _ _ seven c.in_ok-push_number-8.ensures
