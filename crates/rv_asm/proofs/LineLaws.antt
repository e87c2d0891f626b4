-- Blanks at the end of a text, and the comment at the end of a line, place by place.
use Rattle.std.proofs.Common.{◌≡◌, ℕ, ◌+◌, ◌-◌, ◌<◌, ◌≤◌, true, false, List, [], ◌∷◌, ◌++◌, length, take, drop, get_or, refl, sym, ap, ◌∙◌, append_assoc, append-nil, arith}
use Rattle.std.specs.Prelude.{reverse}
use Rattle.std.proofs.lemmas.List.{at_drop_more, drop_all, reverse-append, reverse-reverse, take_all, take_more}
use Rattle.rv_asm.specs.declared.lines.Quoting.{Quoting}
use Rattle.rv_asm.specs.Letters.{is_blank}
use Rattle.rv_asm.specs.Lines.{without_front, without_end, before_comment, begins_comment, after_byte}

-- a text is what stands before its last byte, and that byte
ends-with : (text : List ℕ) → 0 < length text → text ≡ take (length text - 1) text ++ get_or text (length text - 1) 0 ∷ []
ends-with text there =
    let whole : take (length text - 1 + 1) text ≡ text = take_all (length text - 1 + 1) text (omega arith) in
    sym whole ∙ take_more text (length text - 1) 0 (omega arith)

without_end-blank : (text : List ℕ) (byte : ℕ) → is_blank byte ≡ true → without_end (text ++ byte ∷ []) ≡ without_end text
unfolding without_end without_front
without_end-blank text byte blank = rw (reverse-append text (byte ∷ []), blank) refl

without_end-other : (text : List ℕ) (byte : ℕ) → is_blank byte ≡ false → without_end (text ++ byte ∷ []) ≡ text ++ byte ∷ []
unfolding without_end without_front
without_end-other text byte other = rw (reverse-append text (byte ∷ []), other) (reverse-append (byte ∷ []) (reverse text) ∙ ap (λ front. front ++ byte ∷ []) (reverse-reverse text))

-- a blank at the end goes, and a text that ends with another byte, or has none, stays
pub blank_goes : (text : List ℕ) → 0 < length text → is_blank (get_or text (length text - 1) 0) ≡ true → without_end (take (length text - 1) text) ≡ without_end text
blank_goes text there blank =
    sym (ap without_end (ends-with text there) ∙ without_end-blank (take (length text - 1) text) (get_or text (length text - 1) 0) blank)

pub other_stays : (text : List ℕ) → 0 < length text → is_blank (get_or text (length text - 1) 0) ≡ false → without_end text ≡ text
other_stays text there other =
    ap without_end (ends-with text there) ∙ without_end-other (take (length text - 1) text) (get_or text (length text - 1) 0) other ∙ sym (ends-with text there)

pub nothing_stays : (text : List ℕ) → length text < 1 → without_end text ≡ text
unfolding without_end without_front
nothing_stays [] none = refl
nothing_stays (byte ∷ bytes) none = absurd (omega arith)

-- what stands before the comment, from a place on
pub comment_cuts : (quoting : Quoting) (line : List ℕ) (place : ℕ) → place < length line → begins_comment quoting (get_or line place 0) ≡ true → take place line ++ before_comment quoting (drop place line) ≡ take place line
unfolding before_comment
comment_cuts quoting line place inside begins =
    ap (λ text. take place line ++ text) (at_drop_more (before_comment quoting) line place 0 inside ∙ rw begins refl) ∙ append-nil (take place line)

byte-step : (quoting : Quoting) (line : List ℕ) (place : ℕ) → place < length line → begins_comment quoting (get_or line place 0) ≡ false → before_comment quoting (drop place line) ≡ get_or line place 0 ∷ before_comment (after_byte quoting (get_or line place 0)) (drop (place + 1) line)
unfolding before_comment
byte-step quoting line place inside other = at_drop_more (before_comment quoting) line place 0 inside ∙ rw other refl

pub byte_stays : (quoting : Quoting) (line : List ℕ) (place : ℕ) → place < length line → begins_comment quoting (get_or line place 0) ≡ false → take place line ++ before_comment quoting (drop place line) ≡ take (place + 1) line ++ before_comment (after_byte quoting (get_or line place 0)) (drop (place + 1) line)
byte_stays quoting line place inside other =
    let byte : ℕ = get_or line place 0 in
    let rest : List ℕ = before_comment (after_byte quoting byte) (drop (place + 1) line) in
    ap (λ text. take place line ++ text) (byte-step quoting line place inside other)
    ∙ sym (append_assoc (take place line) (byte ∷ []) rest)
    ∙ sym (ap (λ text. text ++ rest) (take_more line place 0 inside))

pub line_ends : (quoting : Quoting) (line : List ℕ) (place : ℕ) → length line ≤ place → take place line ++ before_comment quoting (drop place line) ≡ line
unfolding before_comment
line_ends quoting line place ended =
    ap (λ text. take place line ++ text) (ap (before_comment quoting) (drop_all place line ended)) ∙ append-nil (take place line) ∙ take_all place line ended

pub ruleset endings = (blank_goes, other_stays, nothing_stays)

pub ruleset comments = (comment_cuts, byte_stays, line_ends)
