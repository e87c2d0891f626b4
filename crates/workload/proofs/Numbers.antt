-- Numbers of a generator in words of 32 bits, and their lines.
use Rattle.std.proofs.Common.{◌≡◌, ℕ, suc, ◌+◌, ◌-◌, ◌*◌, ◌%◌, ◌^◌, ◌<◌, ◌≤◌, List, ◌++◌, arith, ap, sym, ◌∙◌, append_assoc, append-nil}
use Rattle.std.proofs.Math.Nat.{mod-add-mod}
use Rattle.workload.specs.Workload.{next_number, data_line, data_lines}

-- a product that wraps, and then a sum that wraps
pub wrapped : (x : ℕ) → (1664525 * x % 2 ^ 32 + 1013904223) % 2 ^ 32 ≡ next_number x
wrapped x = mod-add-mod (1664525 * x) (2 ^ 32) 1013904223

pub ruleset steps = (wrapped)

more : (lines made x : ℕ) → made < lines → data_lines (lines - made) x ≡ data_line (next_number x) ++ data_lines (lines - (made + 1)) (next_number x)
unfolding data_lines
more lines made x inside = let one_less : lines - made ≡ suc (lines - (made + 1)) = omega (arith, inside) in ap (λ n. data_lines n x) one_less

-- one line more, and the rest
pub one_more : (bytes now whole : List ℕ) (lines made x : ℕ) → made < lines → now ≡ bytes ++ data_line (next_number x)
    → bytes ++ data_lines (lines - made) x ≡ whole → now ++ data_lines (lines - (made + 1)) (next_number x) ≡ whole
one_more bytes now whole lines made x inside put before =
    ap (λ front. front ++ data_lines (lines - (made + 1)) (next_number x)) put
    ∙ append_assoc bytes (data_line (next_number x)) (data_lines (lines - (made + 1)) (next_number x))
    ∙ ap (λ rest. bytes ++ rest) (sym (more lines made x inside)) ∙ before

-- all lines were put
pub no_more : (bytes whole : List ℕ) (lines made x : ℕ) → lines ≤ made → bytes ++ data_lines (lines - made) x ≡ whole → bytes ≡ whole
unfolding data_lines
no_more bytes whole lines made x all before =
    let none : lines - made ≡ 0 = omega (arith, all) in
    sym (append-nil bytes) ∙ ap (λ n. bytes ++ data_lines n x) (sym none) ∙ before
