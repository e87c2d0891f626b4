-- Where a line's instructions stand among those of the program, and in its file.
use Rattle.std.proofs.Common.{◌≡◌, ℕ, zero, suc, ◌+◌, ◌*◌, ◌<◌, ◌^◌, List, [], ◌∷◌, ◌++◌, length, take, drop, slice_get, Some, Ok, ◌==◌, refl, ap, sym, ◌∙◌, subst, arith, append_assoc}
use Rattle.std.specs.Int.{from_le_bytes, w32}
use Rattle.std.proofs.Math.Seq.{drop-append-add}
use Rattle.std.proofs.lemmas.List.{length-append}
use Rattle.std.proofs.lemmas.Nat.{from_le_bytes-to_le_bytes_4}
use Rattle.unix_model.specs.declared.instructions.Instr.{Instr}
use Rattle.unix_model.specs.Instructions.{decoded}
use Rattle.unix_model.specs.Texts.{lines_of}
use Rattle.rv_asm.specs.declared.fault.AsmKind.TheVariants.{OutOfRange}
use Rattle.rv_asm.specs.declared.layout.Position.{Position}
use Rattle.rv_asm.specs.declared.mnemonics.Part.{Part}
use Rattle.rv_asm.specs.declared.mnemonics.Part.TheVariants.{Text, Data}
use Rattle.rv_asm.specs.Files.{IsFile, SpellAll, file_header, head, program_header, word}
use Rattle.rv_asm.specs.Layout.{moved, start, text_start}
use Rattle.rv_asm.specs.Placement.{HoldsAt, position_behind, word_in}
use Rattle.rv_asm.specs.Programs.{Layout, Program, Scan, ◌>>=◌, assembled, at_line, data_of, followed_by, instructions_of, layout_of, made_in, make, make_lines, made_of, only_bytes, only_instructions, passes, scan_lines, start_scan, statement_at}
use Rattle.rv_asm.specs.Statements.{Statement}
use Rattle.rv_asm.proofs.SizeLaws.{at_line_ok, bind_ok, data_moved, ok_is, passed, some_is, text_moved}
use Rattle.rv_asm.proofs.TextualLaws.{exact_size, line_textual}

-- a word in front of other bytes
word_in-front : (spelled : ℕ) (rest : List ℕ) → spelled < 2 ^ 32 → word_in (word spelled ++ rest) 0 ≡ spelled
unfolding word_in
word_in-front spelled rest small = from_le_bytes-to_le_bytes_4 spelled small

-- behind some bytes
pub word_in-behind : (front rest : List ℕ) (n place : ℕ) → length front ≡ n → word_in (front ++ rest) (n + place) ≡ word_in rest place
unfolding word_in
word_in-behind front rest n place long = ap (λ bytes. from_le_bytes w32 (take 4 bytes)) (ap (λ m. drop (m + place) (front ++ rest)) (sym long) ∙ drop-append-add front rest place)

-- the words of instructions decode to them
pub words_decode : (instructions : List Instr) (text tail : List ℕ) (k : ℕ) (instruction : Instr) → SpellAll instructions text
    → slice_get instructions k ≡ Some instruction → decoded (word_in (text ++ tail) (4 * k)) ≡ Some instruction
words_decode [] text tail k instruction spelled there = cc
words_decode (first ∷ instructions) text tail zero instruction (spelled, spells, rest, is, others) there =
    ap (λ bytes. decoded (word_in (bytes ++ tail) 0)) is
    ∙ ap (λ bytes. decoded (word_in bytes 0)) (append_assoc (word spelled) rest tail)
    ∙ ap decoded (word_in-front spelled (rest ++ tail) spells.small)
    ∙ spells.decodes
    ∙ there
words_decode (first ∷ instructions) text tail (suc k) instruction (spelled, spells, rest, is, others) there =
    let place : 4 * suc k ≡ 4 + 4 * k = omega arith in
    ap (λ bytes. decoded (word_in (bytes ++ tail) (4 * suc k))) is
    ∙ ap (λ bytes. decoded (word_in bytes (4 * suc k))) (append_assoc (word spelled) rest tail)
    ∙ ap (λ at. decoded (word_in (word spelled ++ (rest ++ tail)) at)) place
    ∙ ap decoded (word_in-behind (word spelled) (rest ++ tail) 4 (4 * k) refl)
    ∙ words_decode instructions rest tail k instruction others there

-- what a line makes among what all make: the instructions before it have the bytes between the two positions
pub record IsMade (layout : Layout) (position behind : Position) (line : List ℕ) (program : Program) : Type 0 where
  pub piece : Program
  pub makes : made_of layout behind (statement_at behind.part line) ≡ Ok piece
  pub before : List Instr
  pub after : List Instr
  pub all : program.instructions ≡ before ++ (piece.instructions ++ after)
  pub far : position.text_bytes + 4 * length before ≡ behind.text_bytes

-- a line adds as many bytes of text as its instructions have
pub text_bytes_made : (layout : Layout) (position : Position) (line : List ℕ) (piece : Program) → made_in Text layout position (statement_at Text line) ≡ Ok piece
    → position.part ≡ Text → position.text_bytes + 4 * length piece.instructions ≡ (moved (statement_at Text line) position).text_bytes
text_bytes_made layout position line piece makes part =
    let (instructions, found, inside) = bind_ok (instructions_of layout (text_start + position.text_bytes) (statement_at Text line)) _ piece makes in
    let same = ok_is (only_instructions instructions) piece (passed (passes (moved (statement_at Text line) position).text_bytes) OutOfRange _ piece inside).1 in
    let size = exact_size layout (text_start + position.text_bytes) (statement_at Text line) instructions position.text_bytes (line_textual line) found in
    let grown = (text_moved (statement_at Text line) position part).0 in
    let many = ap (λ program. length program.instructions) same in
    omega (arith, size, grown, many)

pub data_bytes_made : (layout : Layout) (position : Position) (line : List ℕ) (piece : Program) → made_in Data layout position (statement_at Data line) ≡ Ok piece
    → position.part ≡ Data → position.text_bytes + 4 * length piece.instructions ≡ (moved (statement_at Data line) position).text_bytes
data_bytes_made layout position line piece makes part =
    let (bytes, found, same) = bind_ok (data_of position.data_bytes (statement_at Data line)) _ piece (passed (passes (moved (statement_at Data line) position).data_bytes) OutOfRange _ piece makes).1 in
    let stays = (data_moved (statement_at Data line) position part).1 in
    let none = ap (λ program. length program.instructions) (ok_is (only_bytes bytes) piece same) in
    omega (arith, stays, none)

part_bytes_made : (layout : Layout) (position : Position) (line : List ℕ) (piece : Program) (part : Part) → position.part ≡ part
    → made_in part layout position (statement_at part line) ≡ Ok piece
    → position.text_bytes + 4 * length piece.instructions ≡ (moved (statement_at part line) position).text_bytes
part_bytes_made layout position line piece Text is makes = text_bytes_made layout position line piece makes is
part_bytes_made layout position line piece Data is makes = data_bytes_made layout position line piece makes is

made_bytes : (layout : Layout) (position : Position) (line : List ℕ) (piece : Program) → made_of layout position (statement_at position.part line) ≡ Ok piece
    → position.text_bytes + 4 * length piece.instructions ≡ (moved (statement_at position.part line) position).text_bytes
unfolding made_of
made_bytes layout position line piece makes = part_bytes_made layout position line piece position.part refl makes

-- what follows the first part of a list, itself in three parts
behind : {A : Type 0} (whole first rest before others : List A) → whole ≡ first ++ rest → rest ≡ before ++ others → whole ≡ (first ++ before) ++ others
behind whole first rest before others is so = is ∙ ap (λ rest. first ++ rest) so ∙ sym (append_assoc first before others)

-- each line among the program
pub line_is_made : (layout : Layout) (number n : ℕ) (position : Position) (line : List ℕ) (lines : List (List ℕ)) (program : Program)
    → make_lines layout number position lines ≡ Ok program → slice_get lines n ≡ Some line
    → IsMade layout position (position_behind n position lines) line program
unfolding make_lines position_behind
line_is_made layout number n position line [] program makes there = cc
line_is_made layout number zero position line (first ∷ lines) program makes there =
    let (piece, made, more) = bind_ok (at_line number (made_of layout position (statement_at position.part first))) _ program makes in
    let (others, rest, same) = bind_ok (make_lines layout (number + 1) (moved (statement_at position.part first) position) lines) _ program more in
    let whole = ok_is (followed_by piece others) program same in
    let is : first ≡ line = some_is first line there in
    record {
      piece = piece;
      makes = subst (λ l. made_of layout position (statement_at position.part l) ≡ Ok piece) is (at_line_ok number _ piece made);
      before = [];
      after = others.instructions;
      all = ap (λ p. p.instructions) (sym whole);
      far = omega arith;
    }
line_is_made layout number (suc n) position line (first ∷ lines) program makes there =
    let (piece, made, more) = bind_ok (at_line number (made_of layout position (statement_at position.part first))) _ program makes in
    let next = moved (statement_at position.part first) position in
    let (others, rest, same) = bind_ok (make_lines layout (number + 1) next lines) _ program more in
    let whole = ok_is (followed_by piece others) program same in
    let further = line_is_made layout (number + 1) n next line lines others rest there in
    let bytes = made_bytes layout position first piece (at_line_ok number _ piece made) in
    let long = length-append piece.instructions further.before in
    record {
      piece = further.piece;
      makes = further.makes;
      before = piece.instructions ++ further.before;
      after = further.after;
      all = behind program.instructions piece.instructions others.instructions further.before (further.piece.instructions ++ further.after) (ap (λ p. p.instructions) (sym whole)) further.all;
      far = let far = further.far in omega (arith, bytes, long, far);
    }

slice_get-behind : {A : Type 0} (front others : List A) (k : ℕ) → slice_get (front ++ others) (length front + k) ≡ slice_get others k
slice_get-behind [] others k = let same : 0 + k ≡ k = omega arith in ap (slice_get others) same
slice_get-behind (first ∷ front) others k =
    let next : length (first ∷ front) + k ≡ suc (length front + k) = omega arith in
    ap (slice_get (first ∷ (front ++ others))) next ∙ slice_get-behind front others k

slice_get-front : {A : Type 0} (front others : List A) (k : ℕ) (value : A) → slice_get front k ≡ Some value → slice_get (front ++ others) k ≡ Some value
slice_get-front [] others k value there = cc
slice_get-front (first ∷ front) others zero value there = there
slice_get-front (first ∷ front) others (suc k) value there = slice_get-front front others k value there

pub head_length : (text_bytes data_bytes : ℕ) → length (head text_bytes data_bytes) ≡ 116
unfolding head file_header program_header
head_length text_bytes data_bytes = refl

text_makes : (layout : Layout) (position : Position) (statement : Statement) (piece : Program) → position.part ≡ Text
    → made_of layout position statement ≡ Ok piece → made_in Text layout position statement ≡ Ok piece
unfolding made_of
text_makes layout position statement piece part makes = subst (λ p. made_in p layout position statement ≡ Ok piece) part makes

-- what the file holds of a line's instructions
pub line_holds : (layout : Layout) (behind : Position) (line : List ℕ) (program : Program) (file : List ℕ) → IsMade layout start behind line program → IsFile program file
    → behind.part ≡ Text → HoldsAt layout file behind line
line_holds layout behind line program file made written part =
    let makes : made_in Text layout behind (statement_at behind.part line) ≡ Ok made.piece = text_makes layout behind (statement_at behind.part line) made.piece part made.makes in
    let (instructions, found, inside) = bind_ok (instructions_of layout (text_start + behind.text_bytes) (statement_at behind.part line)) _ made.piece makes in
    let same = ok_is (only_instructions instructions) made.piece (passed (passes (moved (statement_at behind.part line) behind).text_bytes) OutOfRange _ made.piece inside).1 in
    let is : instructions ≡ made.piece.instructions = ap (λ p. p.instructions) same in
    record {
      instructions = instructions;
      makes = found;
      decodes = λ k instruction there.
          let place : behind.text_bytes + 4 * k ≡ 4 * (length made.before + k) = let far = made.far in omega arith in
          let among : slice_get program.instructions (length made.before + k) ≡ Some instruction =
          ap (λ all. slice_get all (length made.before + k)) made.all
          ∙ slice_get-behind made.before (made.piece.instructions ++ made.after) k
          ∙ slice_get-front made.piece.instructions made.after k instruction (ap (λ all. slice_get all k) (sym is) ∙ there) in
          ap (λ bytes. decoded (word_in bytes (116 + (behind.text_bytes + 4 * k)))) (written.whole ∙ append_assoc (head (length written.text) (length program.bytes)) written.text program.bytes)
          ∙ ap decoded (word_in-behind (head (length written.text) (length program.bytes)) (written.text ++ program.bytes) 116 (behind.text_bytes + 4 * k) (head_length (length written.text) (length program.bytes)))
          ∙ ap (λ at. decoded (word_in (written.text ++ program.bytes) at)) place
          ∙ words_decode program.instructions written.text program.bytes (length made.before + k) instruction written.spelled among;
    }

-- the reading and the making of a source that has a meaning
pub meaning_made : (source : List ℕ) (scan : Scan) (program : Program) → scan_lines 1 start_scan (lines_of source) ≡ Ok scan → assembled source ≡ Ok program
    → make_lines (layout_of scan) 1 start (lines_of source) ≡ Ok program
unfolding assembled
meaning_made source scan program reads means =
    let made : make (lines_of source) scan ≡ Ok program = ap (λ r. r >>= make (lines_of source)) (sym reads) ∙ means in
    (passed (scan.position.text_bytes == 0) _ _ program made).1
