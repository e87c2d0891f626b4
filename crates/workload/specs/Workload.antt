-- The load of the command `work`, our own.
use Rattle.std.specs.Prelude.{ℕ, zero, suc, ◌+◌, ◌*◌, ◌/◌, ◌%◌, ◌^◌, List, [], ◌∷◌, ◌++◌, codes}
use Rattle.std.specs.Fmt.{decimal}

-- the number that follows another: a linear congruential generator
abbrev pub next_number : ℕ → ℕ
next_number x = (1664525 * x + 1013904223) % 2 ^ 32

-- a digit in ASCII
abbrev pub digit : ℕ → ℕ
digit n = 48 + n

-- the line of a number: its last three digits, and a line feed
unfoldable pub data_line : ℕ → List ℕ
data_line x = digit (x % 1000 / 100) ∷ digit (x % 1000 / 10 % 10) ∷ digit (x % 1000 % 10) ∷ 10 ∷ []

-- so many lines, of the numbers that follow one
unfoldable pub data_lines : ℕ → ℕ → List ℕ
data_lines zero x = []
data_lines (suc n) x = data_line (next_number x) ++ data_lines n (next_number x)

-- the bundle for a seed and a number of lines
unfoldable pub work_bundle : (seed lines : ℕ) → List ℕ
work_bundle seed lines =
    (codes "keynix bundle 1\ntext /data " ++ decimal lines ++ codes "\n") ++ data_lines lines seed ++ codes "user /init pump\nend\n"

-- what is told of its run: how many bytes the console got, and their sum
unfoldable pub summary : (seed lines console sum : ℕ) → List ℕ
summary seed lines console sum =
    (((codes "work seed " ++ decimal seed) ++ (codes " lines " ++ decimal lines)) ++ (codes " console " ++ decimal console))
    ++ (codes " sum " ++ decimal sum) ++ codes "\n"
