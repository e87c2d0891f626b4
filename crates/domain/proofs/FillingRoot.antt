-- The keys of the root of a fresh domain, one after the other.
use Rattle.std.proofs.Common.{◌≡◌, ◌+◌, ℕ, Some, true, [], ◌∷◌, refl, ap, ◌∙◌, arith, add-zero}
use Rattle.std.proofs.Math.Path.{fun_ext}
use Rattle.kn_base.specs.declared.key.Key.{Key}
use Rattle.kn_base.specs.declared.key.Key.TheVariants.{Node, Start, Meter}
use Rattle.kernel_tables.specs.Kernel.{Kernel}
use Rattle.kernel_tables.specs.Rows.{entry_at, domain_rows, of_domain}
use Rattle.space_bank.specs.Laws.{and_outside}
use Rattle.space_bank.specs.Shares.{Outside}
use Rattle.kernel_forest.specs.Moves.{PutsRow}
use Rattle.unix_model.specs.Tables.{with_at}
use Rattle.domain.specs.declared.types.State.TheVariants.{Running}
use Rattle.domain.specs.Keys.{word_in, count_in, key_of_space}
use Rattle.domain.specs.Domains.{Life, life_in, state_by}
use Rattle.domain.specs.Rules.{NumberFits}
use Rattle.domain.specs.Life.{Fills, FillsRoot, with_zeros, null_row, root_row}
use Rattle.domain.proofs.Filling.{fills_key, fills_quiet, fills_to}
use Rattle.domain.proofs.Writing.{number_outside, number_nothing}

pub meter_outside : (outside : Outside) (slot : ℕ) → and_outside outside (Meter slot) ≡ outside
meter_outside outside slot =
    ap (λ p. let o : Outside = record { pages = p; nodes = λ id. outside.nodes id + 0 } in o) (fun_ext (λ id. add-zero (outside.pages id)))
    ∙ ap (λ n. let o : Outside = record { pages = outside.pages; nodes = n } in o) (fun_ext (λ id. add-zero (outside.nodes id)))

pub runs : (life : Key) → word_in life 0 ≡ 1 → count_in life ≡ 0 → life_in life ≡ record { state = Running; count = 0 }
runs life word count =
    ap (λ w. let l : Life = record { state = state_by w; count = count_in life } in l) word
    ∙ ap (λ n. let l : Life = record { state = Running; count = n } in l) count

pub fills_root : (k0 k1 k2 k3 k4 k5 k6 k7 : Kernel) (root slot space regs descriptors : ℕ) (life : Key) → of_domain (entry_at k0.node_entries root) ≡ true → domain_rows k0 root ≡ null_row
    → life_in life ≡ record { state = Running; count = 0 } → NumberFits 6 life
    → Fills k0 k1 root (with_zeros (domain_rows k0 root) 7 13) [] → PutsRow k1 k2 root 6 life → PutsRow k2 k3 root 2 (Meter slot) → PutsRow k3 k4 root 0 (key_of_space (Some space))
    → PutsRow k4 k5 root 1 (Start (record { 0 = 1 }) slot) → PutsRow k5 k6 root 3 (Node (record { 0 = regs })) → PutsRow k6 k7 root 4 (Node (record { 0 = descriptors }))
    → FillsRoot k0 k7 root slot space regs descriptors
unfolding root_row with_zeros with_at
fills_root k0 k1 k2 k3 k4 k5 k6 k7 root slot space regs descriptors life mine null runs fits zeros p1 p2 p3 p4 p5 p6 =
    let r0 = with_zeros null_row 7 13 in
    let r1 = with_at r0 6 life in
    let r2 = with_at r1 2 (Meter slot) in
    let r3 = with_at r2 0 (key_of_space (Some space)) in
    let r4 = with_at r3 1 (Start (record { 0 = 1 }) slot) in
    let r5 = with_at r4 3 (Node (record { 0 = regs })) in
    let f0 = fills_to k0 k1 root (with_zeros (domain_rows k0 root) 7 13) (with_zeros null_row 7 13) [] (ap (λ r. with_zeros r 7 13) null) zeros in
    let f1 = fills_quiet k0 k2 root r1 life (number_nothing life fits.number) (λ outside. number_outside outside life fits.number) (fills_key k0 k1 k2 root 6 r0 [] life mine (omega arith) f0 refl p1) in
    let f2 = fills_quiet k0 k3 root r2 (Meter slot) tt (λ outside. meter_outside outside slot) (fills_key k0 k2 k3 root 2 r1 [] (Meter slot) mine (omega arith) f1 refl p2) in
    let f3 = fills_key k0 k3 k4 root 0 r2 [] (key_of_space (Some space)) mine (omega arith) f2 refl p3 in
    let f4 = fills_key k0 k4 k5 root 1 r3 (key_of_space (Some space) ∷ []) (Start (record { 0 = 1 }) slot) mine (omega arith) f3 refl p4 in
    let f5 = fills_key k0 k5 k6 root 3 r4 (key_of_space (Some space) ∷ Start (record { 0 = 1 }) slot ∷ []) (Node (record { 0 = regs })) mine (omega arith) f4 refl p5 in
    let f6 = fills_key k0 k6 k7 root 4 r5 (key_of_space (Some space) ∷ Start (record { 0 = 1 }) slot ∷ Node (record { 0 = regs }) ∷ []) (Node (record { 0 = descriptors })) mine (omega arith) f5 refl p6 in
    record { life = life; runs = runs; fits = fits; fills = f6 }
