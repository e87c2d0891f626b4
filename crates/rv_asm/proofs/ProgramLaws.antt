-- The second reading, line by line: what is made so far, and what the rest makes.
use Rattle.std.proofs.Common.{◌≡◌, ℕ, ◌+◌, List, [], ◌∷◌, ◌++◌, Result, Ok, Err, refl, ap, append_assoc, append-nil}
use Rattle.unix_model.specs.declared.instructions.Instr.{Instr}
use Rattle.rv_asm.specs.declared.layout.Position.{Position}
use Rattle.rv_asm.specs.Files.{SpellAll, word}
use Rattle.rv_asm.specs.Layout.{moved}
use Rattle.rv_asm.specs.Programs.{Layout, Program, Refusal, ◌>>=◌, at_line, empty, followed_by, made_of, make_lines, statement_at}

-- a program before what others make
abbrev pub with_front : Program → Result Program Refusal → Result Program Refusal
with_front front (Ok program) = Ok (followed_by front program)
with_front front (Err refusal) = Err refusal

pub followed_twice : (first second third : Program) → followed_by first (followed_by second third) ≡ followed_by (followed_by first second) third
followed_twice first second third =
    rw (append_assoc first.instructions second.instructions third.instructions, append_assoc first.bytes second.bytes third.bytes) refl

pub front_further : (front piece : Program) (rest : Result Program Refusal)
    → with_front front (rest >>= λ others. Ok (followed_by piece others)) ≡ with_front (followed_by front piece) rest
front_further front piece (Ok others) = ap (λ program. Ok program) (followed_twice front piece others)
front_further front piece (Err refusal) = refl

-- a line that makes something, before others
pub line_made : (layout : Layout) (number : ℕ) (position : Position) (line : List ℕ) (lines : List (List ℕ)) (front piece : Program)
    → at_line number (made_of layout position (statement_at position.part line)) ≡ Ok piece
    → with_front front (make_lines layout number position (line ∷ lines))
    ≡ with_front (followed_by front piece) (make_lines layout (number + 1) (moved (statement_at position.part line) position) lines)
unfolding make_lines
line_made layout number position line lines front piece made =
    rw made (front_further front piece (make_lines layout (number + 1) (moved (statement_at position.part line) position) lines))

-- a line that is refused
pub line_unmade : (layout : Layout) (number : ℕ) (position : Position) (line : List ℕ) (lines : List (List ℕ)) (front : Program) (refusal : Refusal)
    → at_line number (made_of layout position (statement_at position.part line)) ≡ Err refusal
    → with_front front (make_lines layout number position (line ∷ lines)) ≡ Err refusal
unfolding make_lines
line_unmade layout number position line lines front refusal refuses = rw refuses refl

-- the words of instructions follow one another
pub spell_more : (first second : List Instr) (text more : List ℕ) → SpellAll first text → SpellAll second more → SpellAll (first ++ second) (text ++ more)
spell_more [] second text more none spelled = rw none spelled
spell_more (instruction ∷ first) second text more (number, spells, rest, is, others) spelled =
    (number, spells, rest ++ more, rw is (append_assoc (word number) rest more), spell_more first second rest more others spelled)

pub front_empty : (rest : Result Program Refusal) → rest ≡ with_front empty rest
front_empty (Ok program) = refl
front_empty (Err refusal) = refl

-- no line is left
pub none_left : (layout : Layout) (number : ℕ) (position : Position) (front : Program) → with_front front (make_lines layout number position []) ≡ Ok front
unfolding make_lines
none_left layout number position front = rw (append-nil front.instructions, append-nil front.bytes) refl
