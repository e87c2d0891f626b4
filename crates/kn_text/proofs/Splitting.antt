-- Where a text in memory is cut, in the words of the definitions.
use Rattle.std.proofs.Common.{◌≡◌, ◌≢◌, ℕ, ◌+◌, ◌-◌, ◌<◌, ◌≤◌, List, [], ◌∷◌, ◌++◌, length, take, drop, get_or, Some, None, refl, sym, ap, ◌∙◌, add-one, length-drop, arith}
use Rattle.std.proofs.Math.Seq.{drop-cons, take-length}
use Rattle.std.proofs.lemmas.List.{take-append-drop, get_or-take, length-take-le}
use Rattle.std.proofs.lemmas.List.Sums.{fails_before_first}
use Rattle.std.proofs.lemmas.Bool.Decides.{nat_tests}
use Rattle.std.proofs.lemmas.List.Folds.{list_any_none}
use Rattle.std.proofs.lemmas.List.Quantifiers.{position-Some}
use Rattle.std.specs.List.{position, position_or_len}
use Rattle.unix_model.specs.Texts.{ends_line, IsLine, line_front, line_rest, lines_of}
use Rattle.unix_model.proofs.TextLaws.{line_front-ended, line_rest-ended, line_front-last, line_rest-last, line_front-is_line, lines_of-first}

-- before the first line feed is a line
before-is_line : (bytes : List ℕ) (at : ℕ) → position ends_line bytes ≡ Some at → IsLine (take at bytes)
before-is_line bytes at found =
    list_any_none ends_line (take at bytes) (λ k d below.
    let r = position-Some ends_line bytes at d found in
    let within : at ≤ length bytes = omega (arith, r.0) in
    let before : k < at = omega (arith, below, length-take-le at bytes within) in
    rw (get_or-take at bytes k d before) (r.2 k before))

-- a text is that line, the line feed and what follows
cut-at : (bytes : List ℕ) (at : ℕ) → position ends_line bytes ≡ Some at → bytes ≡ take at bytes ++ 10 ∷ drop (at + 1) bytes
cut-at bytes at found =
    let r = position-Some ends_line bytes at 0 found in
    let feed : get_or bytes at 0 ≡ 10 = grind (arith, nat_tests, r.1) in
    let within : at < length bytes = r.0 in
    sym (take-append-drop at bytes) ∙ ap (λ rest. take at bytes ++ rest) (rw (add-one at, ← feed) (drop-cons bytes at 0 within))

-- without a line feed a text is a line
pub none-is_line : (bytes : List ℕ) → position ends_line bytes ≡ None → IsLine bytes
none-is_line bytes none = list_any_none ends_line bytes (λ k d below. fails_before_first ends_line bytes k d (omega (arith, below, no_feed bytes none)))
  where
    no_feed : (bytes : List ℕ) → position ends_line bytes ≡ None → length bytes ≤ position_or_len ends_line bytes
    no_feed bytes none = grind (arith, nat_tests)

-- what follows a place of a list, up to its end
pub tail-whole : (bytes : List ℕ) (from : ℕ) → take (length bytes - from) (drop from bytes) ≡ drop from bytes
tail-whole bytes from = rw (← length-drop from bytes) (take-length (drop from bytes))

-- where the first line feed stands, the first line ends
pub line_front-at : (bytes : List ℕ) (at : ℕ) → position ends_line bytes ≡ Some at → line_front bytes ≡ take at bytes
line_front-at bytes at found =
    ap line_front (cut-at bytes at found) ∙ line_front-ended (take at bytes) (drop (at + 1) bytes) (before-is_line bytes at found)

pub line_rest-at : (bytes : List ℕ) (at : ℕ) → position ends_line bytes ≡ Some at → line_rest bytes ≡ drop (at + 1) bytes
line_rest-at bytes at found =
    ap line_rest (cut-at bytes at found) ∙ line_rest-ended (take at bytes) (drop (at + 1) bytes) (before-is_line bytes at found)

-- and where there is none, the text is its first line
pub line_front-none : (bytes : List ℕ) → position ends_line bytes ≡ None → line_front bytes ≡ bytes
line_front-none bytes none = line_front-last bytes (none-is_line bytes none)

pub line_rest-none : (bytes : List ℕ) → position ends_line bytes ≡ None → line_rest bytes ≡ []
line_rest-none bytes none = line_rest-last bytes (none-is_line bytes none)

-- the lines of a text with bytes
pub lines_of-split : (bytes : List ℕ) → bytes ≢ [] → lines_of bytes ≡ line_front bytes ∷ lines_of (line_rest bytes)
lines_of-split [] there = absurd (there refl)
lines_of-split (byte ∷ bytes) there = lines_of-first byte bytes

pub ruleset splitting = (none-is_line, tail-whole, line_front-at, line_rest-at, line_front-none, line_rest-none, lines_of-split, line_front-is_line)
