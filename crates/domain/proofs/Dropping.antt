-- A domain is dropped, call by call.
use Rattle.std.proofs.Common.{◌≡◌, ◌≢◌, ◌<◌, ◌≤◌, ◌+◌, ◌*◌, ◌/◌, ◌%◌, ◌&&◌, ℕ, zero, suc, Bool, Option, Some, None, true, false, nat_lt, List, ◌∷◌, refl, ap, sym, subst, ◌∙◌, arith, ⊎_elim, if◌then◌else◌}
use Rattle.std.proofs.Math.Path.{fun_ext}
use Rattle.std.specs.Option.{is_some}
use Rattle.std.proofs.lemmas.Bool.{cases_eq, cases_lt, lt-ltb, eq-eqb}
use Rattle.kn_base.specs.declared.key.Key.{Key}
use Rattle.kn_base.specs.declared.key.Key.TheVariants.{Null, Start, Meter, Domain as DomainKey}
use Rattle.kernel_tables.specs.Kernel.{Kernel}
use Rattle.kernel_tables.specs.Rows.{entry_at, key_table, rows, domain_rows, fixed_rows, of_domain, is_fixed}
use Rattle.space_bank.specs.Bank.{BankGood}
use Rattle.space_bank.specs.Laws.{and_outside}
use Rattle.space_bank.specs.Shares.{Outside, Shares, NamesNothing}
use Rattle.space_bank.proofs.HandLaws.{nothing-in_hand}
use Rattle.kernel_forest.specs.Trees.{outside_trees}
use Rattle.kernel_forest.specs.Moves.{PutsRow}
use Rattle.unix_model.specs.Tables.{at, with_at}
use Rattle.domain.specs.Keys.{is_meter, meter_in, is_number, node_in, root_in, segment_in, page_in, key_of_space, word_in, count_in}
use Rattle.domain.specs.Domains.{Domain, full_domain, domain_at, lives_by, life_in, roots, roots_by}
use Rattle.domain.specs.Rules.{RootGood, RootPlaces, RowsGood, written}
use Rattle.domain.specs.Life.{null_row, and_all}
use Rattle.domain.specs.Ends.{IsNodeOnce, IsQuiet, MayDrop, DropsDomain, GivesBack, no_life, row_keys}
use Rattle.domain.proofs.RowLaws.{here_at, other_at, changed_at, written_both, root_unnamed}
use Rattle.domain.proofs.DomainLaws.{live_meter, root_domain}
use Rattle.domain.proofs.FieldLaws.{root_space, root_buffer, root_whole, slot_root}
use Rattle.domain.proofs.Pages.{null_outside}
use Rattle.domain.proofs.FillingRoot.{meter_outside}
use Rattle.domain.proofs.Writing.{fixed_key, number_outside, number_nothing}
use Rattle.domain.proofs.Gone.{gone_good, dropped_domains}

root_slot : (rows : ℕ → ℕ → Key) (root : ℕ) → (at (domain_at rows) root).live ≡ true → (at (domain_at rows) root).slot ≡ meter_in (rows root 2)
unfolding full_domain
root_slot rows root live = ap (λ (d : Domain). d.slot) (root_domain rows root (live_meter rows root live))

root_is : (key : Key) (n : ℕ) → root_in key ≡ Some n → key ≡ DomainKey (record { 0 = n })
root_is (DomainKey root) n e = let same : root.0 ≡ n = cc in ap (λ m. DomainKey (record { 0 = m })) same
root_is _ n e = cc

both_none : (a b : Option ℕ) → is_some a ≡ is_some b → (is_some a && is_some b) ≡ false → (a ≡ None) × (b ≡ None)
both_none None None same none = (refl, refl)
both_none None (Some b) same none = cc
both_none (Some a) None same none = cc
both_none (Some a) (Some b) same none = cc

-- the keys of the root of a zombie
data RootKey (row : ℕ → Key) (place : ℕ) : Type 0 where
  nothing : row place ≡ Null → RootKey row place
  keeper : place ≡ 1 → RootKey row place
  meter : is_meter (row place) ≡ true → RootKey row place
  number : is_number (row place) ≡ true → RootKey row place

root_key_is : (row : ℕ → Key) (place : ℕ) → RootGood row → RootPlaces row → is_meter (row 2) ≡ true → segment_in (row 0) ≡ None → page_in (row 5) ≡ None
    → node_in (row 3) ≡ None → node_in (row 4) ≡ None → RootKey row place
root_key_is row place good places is_root no_space no_page no_regs no_descriptors = ⊎_elim
    (λ (e : place ≡ 0). nothing (ap row e ∙ good.of_space ∙ ap key_of_space no_space))
    (λ (d0 : place ≢ 0). ⊎_elim
    (λ (e : place ≡ 1). keeper e)
    (λ (d1 : place ≢ 1). ⊎_elim
    (λ (e : place ≡ 2). meter (ap (λ p. is_meter (row p)) e ∙ is_root))
    (λ (d2 : place ≢ 2). ⊎_elim
    (λ (e : place ≡ 3). nothing (ap row e ∙ places.no_words 3 (omega arith) (omega arith) no_regs))
    (λ (d3 : place ≢ 3). ⊎_elim
    (λ (e : place ≡ 4). nothing (ap row e ∙ places.no_words 4 (omega arith) (omega arith) no_descriptors))
    (λ (d4 : place ≢ 4). ⊎_elim
    (λ (e : place ≡ 5). nothing (ap row e ∙ good.no_buffer no_page))
    (λ (d5 : place ≢ 5). ⊎_elim
    (λ (t : place < 13). number (good.numbers place (omega arith) (omega arith)).number)
    (λ (t : 13 ≤ place). nothing (places.blank place t))
    (cases_lt place 13)) (cases_eq place 5)) (cases_eq place 4)) (cases_eq place 3)) (cases_eq place 2)) (cases_eq place 1)) (cases_eq place 0)

meter_nothing : (key : Key) → is_meter key ≡ true → NamesNothing (Some key)
meter_nothing (Meter slot) e = tt
meter_nothing _ e = cc

meter_quiet : (outside : Outside) (key : Key) → is_meter key ≡ true → and_outside outside key ≡ outside
meter_quiet outside (Meter slot) e = meter_outside outside slot
meter_quiet outside _ e = cc

key_nothing : (row : ℕ → Key) (place : ℕ) → RootPlaces row → RootKey row place → NamesNothing (Some (row place))
key_nothing row place places (nothing e) = subst (λ k. NamesNothing (Some k)) (sym e) tt
key_nothing row place places (keeper e) = subst (λ k. NamesNothing (Some k)) (sym (ap row e ∙ places.keeper)) (let one : 1 < 15 = omega arith in one)
key_nothing row place places (meter e) = meter_nothing (row place) e
key_nothing row place places (number e) = number_nothing (row place) e

key_quiet : (row : ℕ → Key) (place : ℕ) (outside : Outside) → place ≢ 1 → RootKey row place → and_outside outside (row place) ≡ outside
key_quiet row place outside apart (nothing e) = ap (and_outside outside) e ∙ null_outside outside
key_quiet row place outside apart (keeper e) = absurd (apart e)
key_quiet row place outside apart (meter e) = meter_quiet outside (row place) e
key_quiet row place outside apart (number e) = number_outside outside (row place) e

second_key : (row : ℕ → Key) (n : ℕ) (outside : Outside) → ((place : ℕ) → RootKey row place) → and_all outside (row_keys row (suc (suc n))) ≡ and_outside outside (row 1)
unfolding row_keys and_all
second_key row zero outside keys = ap (λ o. and_outside o (row 1)) (key_quiet row 0 outside (λ e. absurd (omega arith)) (keys 0))
second_key row (suc n) outside keys = key_quiet row (suc (suc n)) (and_all outside (row_keys row (suc (suc n)))) (λ e. absurd (omega arith)) (keys (suc (suc n))) ∙ second_key row n outside keys

-- the slot table with one slot less
written_here : (rows : ℕ → ℕ → Key) (node place : ℕ) (key : Key) → written rows node place key node place ≡ key
unfolding at
written_here rows node place key = ap (λ (r : ℕ → Key). r place) (here_at rows node (with_at (rows node) place key)) ∙ here_at (rows node) place key

roots_less : (fixed : ℕ → ℕ → Key) (slot : ℕ) → slot < 64 → roots_by (written fixed (11 + slot / 16) (slot % 16) Null) ≡ with_at (roots_by fixed) slot None
unfolding roots_by
roots_less fixed slot low =
    changed_at (roots_by fixed) (roots_by (written fixed (11 + slot / 16) (slot % 16) Null)) slot None
    (ap (λ k. if nat_lt slot 64 then root_in k else None) (written_here fixed (11 + slot / 16) (slot % 16) Null) ∙ ap (λ b. if b then None else None) (lt-ltb slot 64 low))
    (λ q apart. ap (λ k. if nat_lt q 64 then root_in k else None)
    (written_both fixed (11 + slot / 16) (slot % 16) Null (λ k. k ≡ fixed (11 + q / 16) (q % 16)) (11 + q / 16) (q % 16)
    (λ e f. absurd (apart (let same : q ≡ slot = omega arith in same))) refl))

life_if : (b : Bool) (x y z : Key) → life_in y ≡ life_in z → life_in (if b then x else y) ≡ life_in (if b then x else z)
life_if true x y z e = refl
life_if false x y z e = e

domain_no_life : (root : ℕ) → life_in Null ≡ life_in (DomainKey (record { 0 = root }))
unfolding word_in count_in
domain_no_life root = refl

null_life : life_in Null ≡ no_life
unfolding word_in count_in
null_life = refl

lives_slot_gone : (rows fixed : ℕ → ℕ → Key) (node place root : ℕ) → fixed node place ≡ DomainKey (record { 0 = root }) → lives_by rows (written fixed node place Null) ≡ lives_by rows fixed
unfolding lives_by
lives_slot_gone rows fixed node place root stood = fun_ext (λ m.
    life_if (is_meter (rows m 2)) (rows m 6) (written fixed node place Null m 6) (fixed m 6)
    (written_both fixed node place Null (λ k. life_in k ≡ life_in (fixed m 6)) m 6
    (λ e f. domain_no_life root ∙ ap life_in (sym stood) ∙ ap (λ n. life_in (fixed n place)) (sym e) ∙ ap (λ p. life_in (fixed m p)) (sym f)) refl))

lives_gone : (rows fixed : ℕ → ℕ → Key) (root : ℕ) → fixed root 6 ≡ Null → lives_by (with_at rows root null_row) fixed ≡ with_at (lives_by rows fixed) root no_life
unfolding lives_by
lives_gone rows fixed root none =
    changed_at (lives_by rows fixed) (lives_by (with_at rows root null_row) fixed) root no_life
    (ap (λ (r : ℕ → Key). life_in (if is_meter (r 2) then r 6 else fixed root 6)) (here_at rows root null_row) ∙ ap life_in none ∙ null_life)
    (λ q apart. ap (λ (r : ℕ → Key). life_in (if is_meter (r 2) then r 6 else fixed q 6)) (other_at rows root q null_row apart))

once_not_fixed : (kernel : Kernel) (node place : ℕ) → IsNodeOnce kernel node → fixed_rows kernel node place ≡ Null
unfolding rows
once_not_fixed kernel node place once = rw once refl

module _ (k0 k1 : Kernel) (slot root : ℕ) (good : BankGood k0) (rows0 : RowsGood (domain_rows k0)) (low : slot < 64) (named : at (roots k0) slot ≡ Some root) (may : MayDrop k0 root)
    (put : PutsRow k0 k1 (11 + slot / 16) (slot % 16) Null) where
  meter0 : is_meter (domain_rows k0 root 2) ≡ true
  meter0 = live_meter (domain_rows k0) root may.live

  rows1 : domain_rows k1 ≡ domain_rows k0
  rows1 = put.others_now of_domain (ap of_domain (good.nodes.fixed (11 + slot / 16) (omega arith)))

  fixed1 : fixed_rows k1 ≡ written (fixed_rows k0) (11 + slot / 16) (slot % 16) Null
  fixed1 = put.rows_now is_fixed (ap is_fixed (good.nodes.fixed (11 + slot / 16) (omega arith)))

  slot_there : fixed_rows k0 (11 + slot / 16) (slot % 16) ≡ DomainKey (record { 0 = root })
  slot_there = root_is (fixed_rows k0 (11 + slot / 16) (slot % 16)) root (sym (slot_root (fixed_rows k0) slot low) ∙ named)

  stood : key_table k0.keys (16 * (11 + slot / 16) + slot % 16) ≡ DomainKey (record { 0 = root })
  stood = fixed_key k0 (11 + slot / 16) (slot % 16) good (omega arith) (omega arith) ∙ slot_there

  good1 : RowsGood (domain_rows k1)
  good1 = subst RowsGood (sym rows1) rows0

  no_words : (node_in (domain_rows k0 root 3) ≡ None) × (node_in (domain_rows k0 root 4) ≡ None)
  no_words = both_none (node_in (domain_rows k0 root 3)) (node_in (domain_rows k0 root 4)) (rows0.places root meter0).both (sym (root_whole (domain_rows k0) root may.live) ∙ may.wordless)

  keys0 : (place : ℕ) → RootKey (domain_rows k0 root) place
  keys0 place = root_key_is (domain_rows k0 root) place (rows0.roots root meter0) (rows0.places root meter0) meter0
      (sym (root_space (domain_rows k0) root may.live) ∙ may.no_space) (sym (root_buffer (domain_rows k0) root may.live) ∙ may.no_buffer) no_words.0 no_words.1

  pub once1 : IsNodeOnce k1 root
  once1 = ap (λ (k : Kernel). entry_at k.node_entries root) put.state ∙ may.once

  pub quiet1 : IsQuiet (domain_rows k1 root)
  quiet1 place below = subst (λ (r : ℕ → ℕ → Key). NamesNothing (Some (r root place))) (sym rows1) (key_nothing (domain_rows k0 root) place (rows0.places root meter0) (keys0 place))

  pub in_hand1 : (outside : Outside) (hand : List Key) → Shares k0 outside hand → Shares k1 outside (DomainKey (record { 0 = root }) ∷ hand)
  in_hand1 outside hand counted = subst (λ k. Shares k1 outside (k ∷ hand)) stood (put.shares outside hand ((nothing-in_hand k0 outside hand Null tt).1 counted))

  module _ (k2 : Kernel) (gives : GivesBack k1 k2 root) where
    rows2 : domain_rows k2 ≡ with_at (domain_rows k0) root null_row
    rows2 = gives.rows_now ∙ ap (λ x. with_at x root null_row) rows1

    fixed2 : fixed_rows k2 ≡ written (fixed_rows k0) (11 + slot / 16) (slot % 16) Null
    fixed2 = gives.fixed_now ∙ fixed1

    pub dropped_rows : RowsGood (domain_rows k2)
    dropped_rows = subst RowsGood (sym rows2) (gone_good (domain_rows k0) root rows0 (root_unnamed (domain_rows k0) root rows0 meter0))

    pub drops_domain : DropsDomain k0 k2 slot root
    drops_domain = record {
      domains_now = ap domain_at rows2 ∙ dropped_domains (domain_rows k0) root rows0 (root_unnamed (domain_rows k0) root rows0 meter0);
      lives_now = ap (λ x. lives_by x (fixed_rows k2)) rows2
          ∙ lives_gone (domain_rows k0) (fixed_rows k2) root (ap (λ (f : ℕ → ℕ → Key). f root 6) gives.fixed_now ∙ once_not_fixed k1 root 6 once1)
          ∙ ap (λ x. with_at x root no_life) (ap (lives_by (domain_rows k0)) fixed2 ∙ lives_slot_gone (domain_rows k0) (fixed_rows k0) (11 + slot / 16) (slot % 16) root slot_there);
      roots_now = ap roots_by fixed2 ∙ roots_less (fixed_rows k0) slot low;
      fixed_now = fixed2;
      forest_now = gives.forest_now ∙ put.forest_now;
      outside_now = λ outside.
          ap (λ n. outside_trees k2 (and_outside (and_outside outside (DomainKey (record { 0 = root }))) (Start (record { 0 = 1 }) n))) (root_slot (domain_rows k0) root may.live)
          ∙ ap (λ k. outside_trees k2 (and_outside (and_outside outside (DomainKey (record { 0 = root }))) k)) (sym (rows0.places root meter0).keeper)
          ∙ ap (outside_trees k2) (sym (second_key (domain_rows k0 root) 14 (and_outside outside (DomainKey (record { 0 = root }))) keys0))
          ∙ ap (λ (r : ℕ → ℕ → Key). outside_trees k2 (and_all (and_outside outside (DomainKey (record { 0 = root }))) (row_keys (r root) 16))) (sym rows1)
          ∙ gives.outside_now (and_outside outside (DomainKey (record { 0 = root })))
          ∙ ap (λ k. outside_trees k1 (and_outside outside k)) (sym stood) ∙ put.outside_now outside ∙ ap (outside_trees k0) (null_outside outside);
      entries = λ node apart. gives.others node apart ∙ ap (λ (k : Kernel). entry_at k.node_entries node) put.state;
      free = gives.free;
      rest = gives.rest
          ∙ ap (λ (k : Kernel). let n : Kernel = record k { machine = record k.machine { free_node = k2.machine.free_node; nodes_taken = k2.machine.nodes_taken }; node_entries = k2.node_entries; keys = k2.keys } in n) put.state;
      number = gives.number ∙ ap (λ (k : Kernel). k.machine.nodes_taken) put.state;
      shares = λ outside hand counted. gives.shares outside hand (DomainKey (record { 0 = root })) (eq-eqb root root refl) (in_hand1 outside hand counted);
    }
