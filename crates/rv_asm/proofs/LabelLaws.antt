-- Where labels stand.
use Rattle.std.proofs.Common.{◌≡◌, ℕ, zero, suc, ◌+◌, List, [], ◌∷◌, length, true, false, Option, Some, None, is_some, Ok, slice_get, bytes_eq, refl, ap, sym, ◌∙◌, subst, inl, inr, true≢false, nat_lt}
use Rattle.std.proofs.lemmas.Bool.{cases_Bool}
use Rattle.std.proofs.lemmas.Slice.Eq.{bytes_eq-Decides}
use Rattle.rv_asm.specs.declared.fault.AsmKind.TheVariants.{DoubleLabel, Syntax, TooLong}
use Rattle.rv_asm.specs.declared.layout.Place.{Place}
use Rattle.rv_asm.specs.declared.mnemonics.Part.{Part}
use Rattle.rv_asm.specs.Layout.{Labels, moved, place_of, with_label}
use Rattle.rv_asm.specs.Letters.{is_label}
use Rattle.rv_asm.specs.Lines.{parts_of}
use Rattle.rv_asm.specs.Placement.{position_behind}
use Rattle.rv_asm.specs.Programs.{Scan, at_line, labelled, most_line_bytes, most_lines, or_refused, scan_line, scan_lines, statement_at}
use Rattle.rv_asm.specs.Statements.{Statement, statement_of}
use Rattle.rv_asm.proofs.SizeLaws.{at_line_ok, bind_ok, given, held, ok_is, passed, some_is}

-- a label more: it has its place, and no other has another
added_here : (labels : Labels) (name : List ℕ) (place : Place) → with_label labels name place name ≡ Some place
added_here labels name place = rw ((bytes_eq-Decides name name).1 refl) refl

added_kept : (labels : Labels) (other name : List ℕ) (place there : Place) → is_some (labels other) ≡ false → labels name ≡ Some there → with_label labels other place name ≡ Some there
added_kept labels other name place there new known =
    elim (cases_Bool (bytes_eq other name)) as (λ _. with_label labels other place name ≡ Some there) [
      | inl same ↦
          let is : other ≡ name = (bytes_eq-Decides other name).0 same in
          let found : is_some (labels other) ≡ true = ap (λ n. is_some (labels n)) is ∙ ap is_some known in
          absurd (true≢false (sym found ∙ new))
      | inr differs ↦ rw differs known
    ]

-- what the label of a line leaves
labelled_kept : (labels after : Labels) (place there : Place) (label : Option (List ℕ)) (name : List ℕ) → labelled labels place label ≡ Ok after → labels name ≡ Some there → after name ≡ Some there
labelled_kept labels after place there None name gives known = ap (λ l. l name) (sym (ok_is labels after gives)) ∙ known
labelled_kept labels after place there (Some other) name gives known =
    let right = held (is_label other) _ Syntax after gives in
    let (new, is) = passed (is_some (labels other)) DoubleLabel _ after right in
    ap (λ l. l name) (sym (ok_is (with_label labels other place) after is)) ∙ added_kept labels other name place there new known

labelled_here : (labels after : Labels) (place : Place) (label : Option (List ℕ)) (name : List ℕ) → labelled labels place label ≡ Ok after → label ≡ Some name → after name ≡ Some place
labelled_here labels after place None name gives is = cc
labelled_here labels after place (Some other) name gives is =
    let right = held (is_label other) _ Syntax after gives in
    let (new, made) = passed (is_some (labels other)) DoubleLabel _ after right in
    let same : other ≡ name = some_is other name is in
    ap (λ l. l name) (sym (ok_is (with_label labels other place) after made)) ∙ subst (λ n. with_label labels other place n ≡ Some place) same (added_here labels other place)

-- what one line leaves
pub record Reads (scan next : Scan) (line : List ℕ) : Type 0 where
  pub position : next.position ≡ moved (statement_at scan.position.part line) scan.position
  pub labels : labelled scan.labels (place_of scan.position) (parts_of line).label ≡ Ok next.labels

statement_is : (part : Part) (line : List ℕ) (statement : Statement) → nat_lt most_line_bytes (length line) ≡ false → statement_of part (parts_of line).statement ≡ Some statement → statement_at part line ≡ statement
unfolding statement_at
statement_is part line statement short says = rw short (rw says refl)

line_reads : (scan next : Scan) (line : List ℕ) → scan_line scan line ≡ Ok next → Reads scan next line
unfolding scan_line
line_reads scan next line gives =
    let (short, more) = passed (nat_lt most_line_bytes (length line)) TooLong _ next gives in
    let (labels, found, rest) = bind_ok (labelled scan.labels (place_of scan.position) (parts_of line).label) _ next more in
    let (statement, says, is) = bind_ok (or_refused Syntax (statement_of scan.position.part (parts_of line).statement)) _ next rest in
    let same = ok_is (record { position = moved statement scan.position; labels = labels }) next is in
    let at = statement_is scan.position.part line statement short (given Syntax _ statement says) in
    record {
      position = ap (λ s. s.position) (sym same) ∙ ap (λ s. moved s scan.position) (sym at);
      labels = found ∙ ap (λ s. Ok s.labels) same;
    }

-- what all lines leave
lines_read : (number : ℕ) (scan final : Scan) (line : List ℕ) (lines : List (List ℕ)) → scan_lines number scan (line ∷ lines) ≡ Ok final
    → (next : Scan) × Reads scan next line × (scan_lines (number + 1) next lines ≡ Ok final)
unfolding scan_lines
lines_read number scan final line lines gives =
    let (few, more) = passed (nat_lt most_lines number) (record { kind = TooLong; line = number }) _ final gives in
    let (next, read, rest) = bind_ok (at_line number (scan_line scan line)) _ final more in
    (next, line_reads scan next line (at_line_ok number _ next read), rest)

labels_kept : (number : ℕ) (scan final : Scan) (lines : List (List ℕ)) (name : List ℕ) (there : Place) → scan_lines number scan lines ≡ Ok final → scan.labels name ≡ Some there → final.labels name ≡ Some there
unfolding scan_lines
labels_kept number scan final [] name there gives known = ap (λ s. s.labels name) (sym (ok_is scan final gives)) ∙ known
labels_kept number scan final (line ∷ lines) name there gives known =
    let (next, read, rest) = lines_read number scan final line lines gives in
    labels_kept (number + 1) next final lines name there rest (labelled_kept scan.labels next.labels (place_of scan.position) there (parts_of line).label name read.labels known)

pub label_stands : (number n : ℕ) (scan final : Scan) (lines : List (List ℕ)) (line name : List ℕ) → scan_lines number scan lines ≡ Ok final
    → slice_get lines n ≡ Some line → (parts_of line).label ≡ Some name → final.labels name ≡ Some (place_of (position_behind n scan.position lines))
unfolding position_behind
label_stands number n scan final [] line name gives there label = cc
label_stands number zero scan final (first ∷ lines) line name gives there label =
    let (next, read, rest) = lines_read number scan final first lines gives in
    let is : first ≡ line = some_is first line there in
    labels_kept (number + 1) next final lines name (place_of scan.position) rest
    (labelled_here scan.labels next.labels (place_of scan.position) (parts_of first).label name read.labels (ap (λ l. (parts_of l).label) is ∙ label))
label_stands number (suc n) scan final (first ∷ lines) line name gives there label =
    let (next, read, rest) = lines_read number scan final first lines gives in
    label_stands (number + 1) n next final lines line name rest there label
    ∙ ap (λ p. Some (place_of (position_behind n p lines))) read.position
