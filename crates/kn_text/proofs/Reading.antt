-- From the bytes that were taken one after another to the line that they were.
use Rattle.std.proofs.Common.{◌≡◌, ◌≢◌, ℕ, ◌<◌, ◌≤◌, ◌+◌, List, [], ◌∷◌, ◌++◌, length, Some, sym, ap, ◌∙◌, subst, append_assoc, append-nil, length-append, arith}
use Rattle.std.specs.Prelude.{Option}
use Rattle.std.proofs.Math.Seq.{take-append_seam, drop-append_seam}
use Rattle.std.proofs.lemmas.Bool.Decides.{nat_tests}
use Rattle.std.proofs.lemmas.List.Folds.{list_any-append}
use Rattle.kn_io.specs.Source.{Takes, IsAtEnd}
use Rattle.kn_io.proofs.Taking.{takes-told}
use Rattle.unix_model.specs.Texts.{IsLine, line_front, lines_of}
use Rattle.unix_model.proofs.TextLaws.{line_front-append, line_front-ended, line_rest-ended, line_front-last, line_rest-last, lines_of-nothing, lines_of-ended, lines_of-last}
use Rattle.kn_text.specs.Lines.{IsFirstLine, IsTooLong, IsNoLine, ahead}

-- a byte of a line at its end
pub IsLine-append : (line : List ℕ) (byte : ℕ) → IsLine line → byte ≢ 10 → IsLine (line ++ byte ∷ [])
IsLine-append line byte fits other = grind (arith, list_any-append, nat_tests)

-- a list with a byte at its end has bytes
pub ends-there : (line rest : List ℕ) (byte : ℕ) → line ++ byte ∷ rest ≢ []
ends-there [] rest byte = λ e. cc
ends-there (first ∷ line) rest byte = λ e. cc

-- a line feed ended the line
pub line-ended : (whole left : Option (List ℕ)) (line : List ℕ) (byte : ℕ) → Takes whole (line ++ byte ∷ []) left → byte ≡ 10 → IsLine line → length line ≤ 1024 → (bytes : List ℕ) → whole ≡ Some bytes → IsFirstLine bytes line left
line-ended whole left line byte taken feed fits short bytes told =
    let r = takes-told whole left (line ++ 10 ∷ []) bytes (subst (λ byte. Takes whole (line ++ byte ∷ []) left) feed taken) told in
    let e : bytes ≡ line ++ 10 ∷ r.0 = r.1 ∙ append_assoc line (10 ∷ []) r.0 in
    rw e (record {
      there = ends-there line r.0 10;
      line_is = sym (line_front-ended line r.0 fits);
      short = short;
      left_is = rw (line_rest-ended line r.0 fits) r.2;
      lines = rw (line_rest-ended line r.0 fits) (lines_of-ended line r.0 fits);
    })

-- the end came after it
pub line-last : (whole left now : Option (List ℕ)) (part line : List ℕ) (byte : ℕ) → Takes whole (part ++ byte ∷ []) left → (now ≡ left) × IsAtEnd left → line ≡ part ++ byte ∷ [] → byte ≢ 10 → IsLine part → length line ≤ 1024 → (bytes : List ℕ) → whole ≡ Some bytes → IsFirstLine bytes line now
unfolding lines_of
line-last whole left now part line byte taken at_end line_is other fits short bytes told =
    let r = takes-told whole left (part ++ byte ∷ []) bytes taken told in
    let nothing : r.0 ≡ [] = at_end.1 r.0 r.2 in
    let e : bytes ≡ line = r.1 ∙ ap (λ rest. part ++ byte ∷ [] ++ rest) nothing ∙ append-nil (part ++ byte ∷ []) ∙ sym line_is in
    let whole_line : IsLine line = rw line_is (IsLine-append part byte fits other) in
    let there : line ≢ [] = rw line_is (ends-there part [] byte) in
    rw e (record {
      there = there;
      line_is = sym (line_front-last line whole_line);
      short = short;
      left_is = rw (line_rest-last line whole_line) (at_end.0 ∙ r.2 ∙ ap (λ rest. Some rest) nothing);
      lines = rw (line_rest-last line whole_line) (lines_of-last line whole_line there);
    })

-- a byte that ends no line, before others, begins their first line
line_front-other : (byte : ℕ) (bytes : List ℕ) → byte ≢ 10 → line_front (byte ∷ bytes) ≡ byte ∷ line_front bytes
unfolding line_front
line_front-other byte bytes other = grind (arith, nat_tests)

-- one byte more than a line may have
pub line-too_long : (whole left : Option (List ℕ)) (line : List ℕ) (byte : ℕ) → Takes whole (line ++ byte ∷ []) left → byte ≢ 10 → IsLine line → length line ≡ 1024 → (bytes : List ℕ) → whole ≡ Some bytes → IsTooLong bytes line left
line-too_long whole left line byte taken other fits full bytes told =
    let r = takes-told whole left (line ++ byte ∷ []) bytes taken told in
    let front : line_front bytes ≡ line ++ byte ∷ line_front r.0 =
    ap line_front (r.1 ∙ append_assoc line (byte ∷ []) r.0) ∙ line_front-append line (byte ∷ r.0) fits ∙ ap (λ rest. line ++ rest) (line_front-other byte r.0 other) in
    let count : length (line ++ byte ∷ []) ≡ 1025 = length-append line (byte ∷ []) ∙ ap (λ n. n + 1) full in
    record {
      long = rw front (longer line (line_front r.0) byte full);
      line_is = rw (front, ← full) (sym (take-append_seam line (byte ∷ line_front r.0)));
      left_is = rw (r.1, ← count) (r.2 ∙ sym (ap (λ rest. Some rest) (drop-append_seam (line ++ byte ∷ []) r.0)));
    }
  where
    longer : (line rest : List ℕ) (byte : ℕ) → length line ≡ 1024 → 1024 < length (line ++ byte ∷ rest)
    longer line rest byte full = omega (arith, length-append line (byte ∷ rest))

-- what holds of the bytes from the one that was taken on holds of all that were ahead
pub after-first : (first : List ℕ) (old left : Option (List ℕ)) (byte : ℕ) (P : List ℕ → Type 0) → Takes (ahead first old) (byte ∷ []) left → ((bytes : List ℕ) → left ≡ Some bytes → P (byte ∷ bytes)) → (bytes : List ℕ) → old ≡ Some bytes → P (first ++ bytes)
after-first first old left byte P taken holds bytes told =
    let r = takes-told (ahead first old) left (byte ∷ []) (first ++ bytes) taken (ap (ahead first) told) in
    subst P (sym r.1) (holds r.0 r.2)

-- nothing was ahead
pub no-line : (first : List ℕ) (old left : Option (List ℕ)) (line : List ℕ) → (left ≡ ahead first old) × IsAtEnd (ahead first old) → line ≡ [] → (bytes : List ℕ) → old ≡ Some bytes → IsNoLine (first ++ bytes) line left
no-line first old left line at_end empty bytes told =
    let all : ahead first old ≡ Some (first ++ bytes) = ap (ahead first) told in
    let nothing : first ++ bytes ≡ [] = at_end.1 (first ++ bytes) all in
    record {
      ended = nothing;
      line_is = empty;
      left_is = at_end.0 ∙ all ∙ ap (λ rest. Some rest) nothing;
      lines = ap lines_of nothing ∙ lines_of-nothing;
    }
