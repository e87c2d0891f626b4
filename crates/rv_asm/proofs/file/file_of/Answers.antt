use Rattle.std.proofs.Common.{rules, ◌≡◌, ◌∙◌, ◌++◌, ◌+◌, ap, length}
use Rattle.rv_asm.specs.Files.{file_header, head, program_header}
use Rattle.rv_asm.specs.Layout.{data_start, text_start}
use Rattle.rv_asm.proofs.file.file_of.Goals as goal

pub returns : goal.returns
unfolding head text_start
returns c =
    let text = c.args.program.now.text.items in
    let bytes = c.args.program.now.bytes.items in
    let first = program_header 116 text_start (length text) 5 in
    let second = program_header (116 + length text) (data_start (length text)) (length bytes) 6 in
    let one = c.in_ok-push_file_header.ensures ∙ ap (λ old. old ++ file_header) c.new-file.ensures.items in
    let two : c.push_header.new.file.items ≡ file_header ++ first = search rules in
    let three : c.push_header-2.new.file.items ≡ file_header ++ first ++ second = search rules in
    let four : c.extend_from_slice.new.self.items ≡ file_header ++ first ++ second ++ text = search rules in
    search rules
