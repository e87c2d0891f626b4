-- How many bytes the parts of a program have.
use Rattle.std.proofs.Common.{◌≡◌, ℕ, zero, suc, ◌+◌, ◌*◌, ◌<◌, ◌≤◌, List, [], ◌∷◌, length, false, Some, Ok, ◌==◌, refl, ap, sym, ◌∙◌, subst, arith, nat_lt}
use Rattle.std.proofs.lemmas.List.{length-append}
use Rattle.std.proofs.lemmas.Bool.{ltb-false}
use Rattle.unix_model.specs.Texts.{lines_of}
use Rattle.rv_asm.specs.declared.fault.AsmKind.TheVariants.{OutOfRange, Syntax, TooLong}
use Rattle.rv_asm.specs.declared.layout.Position.{Position}
use Rattle.rv_asm.specs.declared.mnemonics.Part.{Part}
use Rattle.rv_asm.specs.declared.mnemonics.Part.TheVariants.{Text, Data}
use Rattle.rv_asm.specs.Layout.{moved, place_of, start, text_start}
use Rattle.rv_asm.specs.Lines.{parts_of}
use Rattle.rv_asm.specs.Programs.{Layout, Program, Scan, assembled, at_line, data_of, empty, followed_by, instructions_of, labelled, layout_of, made_in, made_of, make_lines, most_line_bytes, most_lines, only_bytes, only_instructions, or_refused, passes, scan_line, scan_lines, start_scan, statement_at}
use Rattle.rv_asm.specs.Statements.{Statement, statement_of}
use Rattle.rv_asm.proofs.SizeLaws.{at_line_ok, bind_ok, data_moved, data_size, given, ok_is, passed, text_moved}
use Rattle.rv_asm.proofs.PlacedLaws.{data_bytes_made, text_bytes_made}

-- what a piece adds to the parts at a position
pub record Adds (position next : Position) (piece : Program) : Type 0 where
  pub text : position.text_bytes + 4 * length piece.instructions ≡ next.text_bytes
  pub data_part : position.data_bytes + length piece.bytes ≤ next.data_bytes

-- no part passes its limit
pub record IsInside (position : Position) : Type 0 where
  pub text : position.text_bytes ≤ 1048576
  pub data_part : position.data_bytes ≤ 1048576

text_adds : (layout : Layout) (position : Position) (line : List ℕ) (piece : Program) → position.part ≡ Text → IsInside position
    → made_in Text layout position (statement_at Text line) ≡ Ok piece
    → Adds position (moved (statement_at Text line) position) piece × IsInside (moved (statement_at Text line) position)
text_adds layout position line piece part inside makes =
    let (instructions, found, more) = bind_ok (instructions_of layout (text_start + position.text_bytes) (statement_at Text line)) _ piece makes in
    let (few, same) = passed (passes (moved (statement_at Text line) position).text_bytes) OutOfRange _ piece more in
    let none = ap (λ program. length program.bytes) (ok_is (only_instructions instructions) piece same) in
    let grown = text_bytes_made layout position line piece makes part in
    let stays = (text_moved (statement_at Text line) position part).1 in
    let least = inside.data_part in
    let below : (moved (statement_at Text line) position).text_bytes ≤ 1048576 = ltb-false _ _ few in
    (record { text = grown; data_part = omega (arith, none, stays) }, record { text = below; data_part = omega (arith, stays, least) })

data_adds : (layout : Layout) (position : Position) (line : List ℕ) (piece : Program) → position.part ≡ Data → IsInside position
    → made_in Data layout position (statement_at Data line) ≡ Ok piece
    → Adds position (moved (statement_at Data line) position) piece × IsInside (moved (statement_at Data line) position)
data_adds layout position line piece part inside makes =
    let (few, more) = passed (passes (moved (statement_at Data line) position).data_bytes) OutOfRange _ piece makes in
    let (bytes, found, same) = bind_ok (data_of position.data_bytes (statement_at Data line)) _ piece more in
    let many = ap (λ program. length program.bytes) (ok_is (only_bytes bytes) piece same) in
    let grown = data_bytes_made layout position line piece makes part in
    let (added, stays) = data_moved (statement_at Data line) position part in
    let size = data_size position.data_bytes (statement_at Data line) bytes found in
    let least = inside.text in
    let below : (moved (statement_at Data line) position).data_bytes ≤ 1048576 = ltb-false _ _ few in
    (record { text = grown; data_part = omega (arith, many, added, size) }, record { text = omega (arith, stays, least); data_part = below })

part_adds : (layout : Layout) (position : Position) (line : List ℕ) (piece : Program) (part : Part) → position.part ≡ part → IsInside position
    → made_in part layout position (statement_at part line) ≡ Ok piece
    → Adds position (moved (statement_at part line) position) piece × IsInside (moved (statement_at part line) position)
part_adds layout position line piece Text is inside makes = text_adds layout position line piece is inside makes
part_adds layout position line piece Data is inside makes = data_adds layout position line piece is inside makes

-- one line
line_adds : (layout : Layout) (position : Position) (line : List ℕ) (piece : Program) → IsInside position
    → made_of layout position (statement_at position.part line) ≡ Ok piece
    → Adds position (moved (statement_at position.part line) position) piece × IsInside (moved (statement_at position.part line) position)
unfolding made_of
line_adds layout position line piece inside makes = part_adds layout position line piece position.part refl inside makes

-- what all lines make has no more bytes than fit behind a position
pub record HasRoom (position : Position) (program : Program) : Type 0 where
  pub text : position.text_bytes + 4 * length program.instructions ≤ 1048576
  pub data_part : position.data_bytes + length program.bytes ≤ 1048576

followed_room : (position next : Position) (piece others : Program) → Adds position next piece → HasRoom next others → HasRoom position (followed_by piece others)
followed_room position next piece others adds room =
    let instructions = length-append piece.instructions others.instructions in
    let bytes = length-append piece.bytes others.bytes in
    record { text = omega (arith, instructions); data_part = omega (arith, bytes) }

lines_room : (layout : Layout) (number : ℕ) (position : Position) (lines : List (List ℕ)) (program : Program) → IsInside position
    → make_lines layout number position lines ≡ Ok program → HasRoom position program
unfolding make_lines
lines_room layout number position [] program inside makes =
    subst (HasRoom position) (ok_is empty program makes) (record { text = omega arith; data_part = omega arith })
lines_room layout number position (line ∷ lines) program inside makes =
    let (piece, made, more) = bind_ok (at_line number (made_of layout position (statement_at position.part line))) _ program makes in
    let next = moved (statement_at position.part line) position in
    let (others, rest, same) = bind_ok (make_lines layout (number + 1) next lines) _ program more in
    let (adds, stays) = line_adds layout position line piece inside (at_line_ok number _ piece made) in
    subst (HasRoom position) (ok_is (followed_by piece others) program same)
    (followed_room position next piece others adds (lines_room layout (number + 1) next lines others stays rest))

-- ---- the text that the first reading counts

statement_is : (part : Part) (line : List ℕ) (statement : Statement) → nat_lt most_line_bytes (length line) ≡ false → statement_of part (parts_of line).statement ≡ Some statement → statement_at part line ≡ statement
unfolding statement_at
statement_is part line statement short says = rw short (rw says refl)

-- where one line leads
line_leads : (scan next : Scan) (line : List ℕ) → scan_line scan line ≡ Ok next → next.position ≡ moved (statement_at scan.position.part line) scan.position
unfolding scan_line
line_leads scan next line gives =
    let (short, more) = passed (nat_lt most_line_bytes (length line)) TooLong _ next gives in
    let (labels, found, rest) = bind_ok (labelled scan.labels (place_of scan.position) (parts_of line).label) _ next more in
    let (statement, says, is) = bind_ok (or_refused Syntax (statement_of scan.position.part (parts_of line).statement)) _ next rest in
    let same = ok_is (record { position = moved statement scan.position; labels = labels }) next is in
    let at = statement_is scan.position.part line statement short (given Syntax _ statement says) in
    ap (λ s. s.position) (sym same) ∙ ap (λ s. moved s scan.position) (sym at)

lines_lead : (number : ℕ) (scan final : Scan) (line : List ℕ) (lines : List (List ℕ)) → scan_lines number scan (line ∷ lines) ≡ Ok final
    → (next : Scan) × (next.position ≡ moved (statement_at scan.position.part line) scan.position) × (scan_lines (number + 1) next lines ≡ Ok final)
unfolding scan_lines
lines_lead number scan final line lines gives =
    let (few, more) = passed (nat_lt most_lines number) (record { kind = TooLong; line = number }) _ final gives in
    let (next, read, rest) = bind_ok (at_line number (scan_line scan line)) _ final more in
    (next, line_leads scan next line (at_line_ok number _ next read), rest)

-- both readings count the same text
text_counted : (layout : Layout) (number : ℕ) (scan final : Scan) (lines : List (List ℕ)) (program : Program) → IsInside scan.position
    → scan_lines number scan lines ≡ Ok final → make_lines layout number scan.position lines ≡ Ok program
    → scan.position.text_bytes + 4 * length program.instructions ≡ final.position.text_bytes
unfolding scan_lines make_lines
text_counted layout number scan final [] program inside reads makes =
    let none = ap (λ p. length p.instructions) (ok_is empty program makes) in
    let stays = ap (λ s. s.position.text_bytes) (ok_is scan final reads) in
    omega (arith, none, stays)
text_counted layout number scan final (line ∷ lines) program inside reads makes =
    let (next, leads, further) = lines_lead number scan final line lines reads in
    let (piece, made, more) = bind_ok (at_line number (made_of layout scan.position (statement_at scan.position.part line))) _ program makes in
    let behind = moved (statement_at scan.position.part line) scan.position in
    let (others, rest, same) = bind_ok (make_lines layout (number + 1) behind lines) _ program more in
    let (adds, stays) = line_adds layout scan.position line piece inside (at_line_ok number _ piece made) in
    let counted =
    text_counted layout (number + 1) next final lines others (subst IsInside (sym leads) stays) further
    (ap (λ p. make_lines layout (number + 1) p lines) leads ∙ rest) in
    let many = ap (λ p. length p.instructions) (ok_is (followed_by piece others) program same) in
    let both = length-append piece.instructions others.instructions in
    let here = ap (λ p. p.text_bytes) leads in
    let added = adds.text in
    omega (arith, counted, many, both, here, added)

-- ---- the whole

-- the sizes of a program that has a meaning
pub record HasSizes (program : Program) : Type 0 where
  pub some_text : 0 < length program.instructions
  pub few_text : 4 * length program.instructions ≤ 1048576
  pub few_data : length program.bytes ≤ 1048576

above_zero : (n : ℕ) → (n == 0) ≡ false → 0 < n
above_zero zero is = cc
above_zero (suc n) is = omega arith

start_inside : IsInside start
start_inside = record { text = omega arith; data_part = omega arith }

pub meaning_sizes : (source : List ℕ) (program : Program) → assembled source ≡ Ok program → HasSizes program
unfolding assembled
meaning_sizes source program means =
    let (scan, reads, made) = bind_ok (scan_lines 1 start_scan (lines_of source)) _ program means in
    let (some, makes) = passed (scan.position.text_bytes == 0) (record { kind = Syntax; line = length (lines_of source) + 1 }) _ program made in
    let room = lines_room (layout_of scan) 1 start (lines_of source) program start_inside makes in
    let counted = text_counted (layout_of scan) 1 start_scan scan (lines_of source) program start_inside reads makes in
    let above : 0 < scan.position.text_bytes = above_zero scan.position.text_bytes some in
    let text = room.text in
    let few = room.data_part in
    record { some_text = omega (arith, counted, above); few_text = omega (arith, text); few_data = omega (arith, few) }
