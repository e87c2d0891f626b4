-- A domain becomes a zombie, call by call.
use Rattle.std.proofs.Common.{◌≡◌, ◌≢◌, ◌<◌, ◌≤◌, ◌+◌, ◌*◌, ℕ, Some, true, false, List, ◌∷◌, refl, ap, sym, subst, ◌∙◌, arith, ⊎_elim}
use Rattle.std.proofs.lemmas.Bool.{eq-eqb}
use Rattle.kn_base.specs.declared.key.Key.{Key}
use Rattle.kn_base.specs.declared.key.Key.TheVariants.{Null, Node}
use Rattle.kernel_tables.specs.Kernel.{Kernel}
use Rattle.kernel_tables.specs.Rows.{entry_at, key_table, domain_rows, fixed_rows, of_domain, is_fixed}
use Rattle.space_bank.specs.FreeList.{is_free}
use Rattle.space_bank.specs.Laws.{and_outside}
use Rattle.space_bank.specs.Shares.{Outside, Shares, key_names_node}
use Rattle.space_bank.proofs.HandLaws.{nothing-in_hand, hand-swapped}
use Rattle.kernel_forest.specs.Trees.{outside_trees}
use Rattle.kernel_forest.specs.Moves.{PutsRow}
use Rattle.unix_model.specs.Tables.{at, with_at}
use Rattle.unix_model.proofs.TableLaws.{at-with_at, with_at-twice}
use Rattle.domain.specs.declared.types.Phase.TheVariants.{Zombie}
use Rattle.domain.specs.Keys.{is_meter, is_number, node_in}
use Rattle.domain.specs.Domains.{Domain, full_domain, domains, domain_at, lives, lives_by}
use Rattle.domain.specs.Rules.{RowsGood, NobodyIn, written}
use Rattle.domain.specs.Sets.{WritesNumbers}
use Rattle.domain.specs.Life.{null_row}
use Rattle.domain.specs.Ends.{IsNodeOnce, IsQuiet, MayEnd, MakesZombie, GivesBack, KeepsAllButNodes, ended}
use Rattle.domain.proofs.RowLaws.{here_at, other_at, root_unnamed}
use Rattle.domain.proofs.DomainLaws.{live_meter, root_domain}
use Rattle.domain.proofs.FieldLaws.{written_two}
use Rattle.domain.proofs.WordLaws.{number_no_meter}
use Rattle.domain.proofs.WordRows.{three_four}
use Rattle.domain.proofs.Pages.{null_outside}
use Rattle.domain.proofs.Writing.{root_mine, row_key, domain_not_fixed}
use Rattle.domain.proofs.Gone.{unnamed_row, wordless, unnamed_good, third_nobody, fourth_nobody, unnamed_domains, unnamed_lives, gone_nobody, gone_good, gone_domains, gone_lives, words_quiet, words_outside}

pub root_regs_node : (rows : ℕ → ℕ → Key) (root : ℕ) → (at (domain_at rows) root).live ≡ true → (at (domain_at rows) root).regs_node ≡ node_in (rows root 3)
unfolding full_domain
root_regs_node rows root live = ap (λ (d : Domain). d.regs_node) (root_domain rows root (live_meter rows root live))

pub root_descriptors_node : (rows : ℕ → ℕ → Key) (root : ℕ) → (at (domain_at rows) root).live ≡ true → (at (domain_at rows) root).descriptors_node ≡ node_in (rows root 4)
unfolding full_domain
root_descriptors_node rows root live = ap (λ (d : Domain). d.descriptors_node) (root_domain rows root (live_meter rows root live))

row_at : (x : ℕ → ℕ → Key) (n m : ℕ) → at x n m ≡ x n m
unfolding at
row_at x n m = refl

node_is : (key : Key) (n : ℕ) → node_in key ≡ Some n → key ≡ Node (record { 0 = n })
node_is (Node node) n e = let same : node.0 ≡ n = cc in ap (λ m. Node (record { 0 = m })) same
node_is _ n e = cc

pub names_itself : (n : ℕ) → key_names_node n (Node (record { 0 = n })) ≡ true
names_itself n = eq-eqb n n refl

module _ (k0 k1 k2 k3 : Kernel) (root r d : ℕ) (rows0 : RowsGood (domain_rows k0)) (may : MayEnd k0 root)
    (third : node_in (domain_rows k0 root 3) ≡ Some r) (fourth : node_in (domain_rows k0 root 4) ≡ Some d)
    (phase_set : domains k1 ≡ with_at (domains k0) root (let was = at (domains k0) root in record was { phase = Zombie })) (others : WritesNumbers k0 k1) (rows1 : RowsGood (domain_rows k1)) where
  at_root : at (domains k1) root ≡ (let was = at (domains k0) root in record was { phase = Zombie })
  at_root = ap (λ (f : ℕ → Domain). at f root) phase_set ∙ at-with_at (domains k0) root (let was = at (domains k0) root in record was { phase = Zombie })

  live1 : (at (domains k1) root).live ≡ true
  live1 = ap (λ (x : Domain). x.live) at_root ∙ may.live

  meter1 : is_meter (domain_rows k1 root 2) ≡ true
  meter1 = live_meter (domain_rows k1) root live1

  pub mine1 : of_domain (entry_at k1.node_entries root) ≡ true
  mine1 = root_mine k1 root meter1

  regs_were : (at (domains k0) root).regs_node ≡ Some r
  regs_were = root_regs_node (domain_rows k0) root may.live ∙ third

  descriptors_were : (at (domains k0) root).descriptors_node ≡ Some d
  descriptors_were = root_descriptors_node (domain_rows k0) root may.live ∙ fourth

  third1 : node_in (domain_rows k1 root 3) ≡ Some r
  third1 = sym (root_regs_node (domain_rows k1) root live1) ∙ ap (λ (x : Domain). x.regs_node) at_root ∙ regs_were

  fourth1 : node_in (domain_rows k1 root 4) ≡ Some d
  fourth1 = sym (root_descriptors_node (domain_rows k1) root live1) ∙ ap (λ (x : Domain). x.descriptors_node) at_root ∙ descriptors_were

  r_root : r ≢ root
  r_root e = root_unnamed (domain_rows k1) root rows1 meter1 root 3 (third1 ∙ ap Some e)

  d_root : d ≢ root
  d_root e = root_unnamed (domain_rows k1) root rows1 meter1 root 4 (fourth1 ∙ ap Some e)

  d_r : d ≢ r
  d_r e = three_four (sym (rows1.single root 4 root 3 d fourth1 (third1 ∙ ap Some (sym e))).1)

  module _ (p3 : PutsRow k1 k2 root 3 Null) (p4 : PutsRow k2 k3 root 4 Null) where
    mine2 : of_domain (entry_at k2.node_entries root) ≡ true
    mine2 = ap (λ (k : Kernel). of_domain (entry_at k.node_entries root)) p3.state ∙ mine1

    rows2 : domain_rows k2 ≡ written (domain_rows k1) root 3 Null
    rows2 = p3.rows_now of_domain mine1

    rows3 : domain_rows k3 ≡ with_at (domain_rows k1) root (unnamed_row (domain_rows k1 root))
    rows3 = p4.rows_now of_domain mine2 ∙ ap (λ x. written x root 4 Null) rows2 ∙ written_two (domain_rows k1) root 3 4 Null Null

    fixed3 : fixed_rows k3 ≡ fixed_rows k0
    fixed3 = p4.others_now is_fixed (domain_not_fixed (entry_at k2.node_entries root) mine2) ∙ p3.others_now is_fixed (domain_not_fixed (entry_at k1.node_entries root) mine1) ∙ others.fixed_now

    keys3 : k3 ≡ record k0 { keys = k3.keys }
    keys3 = p4.state ∙ ap (λ k. let n : Kernel = record k2 { keys = k } in n) (sym (ap (λ (k : Kernel). k.keys) p4.state))
        ∙ ap (λ (k : Kernel). let n : Kernel = record k { keys = k3.keys } in n) p3.state
        ∙ ap (λ (k : Kernel). let n : Kernel = record k { keys = k3.keys } in n) others.rest

    good3 : RowsGood (domain_rows k3)
    good3 = subst RowsGood (sym rows3) (unnamed_good (domain_rows k1) root rows1 meter1)

    domains3 : domain_at (domain_rows k3) ≡ with_at (domain_at (domain_rows k0)) root (ended (at (domains k0) root))
    domains3 = ap domain_at rows3 ∙ unnamed_domains (domain_rows k1) root rows1 meter1
        ∙ ap (λ x. with_at (domain_at (domain_rows k1)) root (wordless x)) at_root
        ∙ ap (λ x. with_at x root (ended (at (domains k0) root))) phase_set
        ∙ with_at-twice (domain_at (domain_rows k0)) root (let was = at (domains k0) root in record was { phase = Zombie }) (ended (at (domains k0) root))

    nobody_r : NobodyIn (domain_rows k3) r
    nobody_r = subst (λ x. NobodyIn x r) (sym rows3) (third_nobody (domain_rows k1) root rows1 meter1 r third1)

    nobody_d : NobodyIn (domain_rows k3) d
    nobody_d = subst (λ x. NobodyIn x d) (sym rows3) (fourth_nobody (domain_rows k1) root rows1 meter1 d fourth1)

    row_r : domain_rows k3 r ≡ domain_rows k1 r
    row_r = ap (λ (x : ℕ → ℕ → Key). x r) rows3 ∙ other_at (domain_rows k1) root r (unnamed_row (domain_rows k1 root)) r_root

    row_d : domain_rows k3 d ≡ domain_rows k1 d
    row_d = ap (λ (x : ℕ → ℕ → Key). x d) rows3 ∙ other_at (domain_rows k1) root d (unnamed_row (domain_rows k1 root)) d_root

    numbers_r : (place : ℕ) → place < 11 → is_number (domain_rows k3 r place) ≡ true
    numbers_r place low = ap (λ (x : ℕ → Key). is_number (x place)) row_r ∙ rows1.plain root 3 r place third1 low

    blank_r : (place : ℕ) → 11 ≤ place → domain_rows k3 r place ≡ Null
    blank_r place above = ap (λ (x : ℕ → Key). x place) row_r ∙ rows1.blank root 3 r place third1 above

    numbers_d : (place : ℕ) → place < 11 → is_number (domain_rows k3 d place) ≡ true
    numbers_d place low = ap (λ (x : ℕ → Key). is_number (x place)) row_d ∙ rows1.plain root 4 d place fourth1 low

    blank_d : (place : ℕ) → 11 ≤ place → domain_rows k3 d place ≡ Null
    blank_d place above = ap (λ (x : ℕ → Key). x place) row_d ∙ rows1.blank root 4 d place fourth1 above

    pub once_r : IsNodeOnce k3 r
    once_r = ap (λ (k : Kernel). entry_at k.node_entries r) keys3 ∙ may.regs_once r regs_were

    pub quiet_r : IsQuiet (domain_rows k3 r)
    quiet_r = words_quiet (domain_rows k3 r) numbers_r blank_r

    stood3 : key_table k1.keys (16 * root + 3) ≡ Node (record { 0 = r })
    stood3 = row_key k1 root 3 mine1 (omega arith) ∙ node_is (domain_rows k1 root 3) r third1

    stood4 : key_table k2.keys (16 * root + 4) ≡ Node (record { 0 = d })
    stood4 = row_key k2 root 4 mine2 (omega arith) ∙ ap (λ (x : ℕ → ℕ → Key). x root 4) rows2
        ∙ ap (λ (x : ℕ → Key). x 4) (here_at (domain_rows k1) root (with_at (at (domain_rows k1) root) 3 Null))
        ∙ other_at (at (domain_rows k1) root) 3 4 Null (λ e. absurd (omega arith)) ∙ row_at (domain_rows k1) root 4 ∙ node_is (domain_rows k1 root 4) d fourth1

    pub in_hand : (outside : Outside) (hand : List Key) → Shares k0 outside hand → Shares k3 outside (Node (record { 0 = r }) ∷ Node (record { 0 = d }) ∷ hand)
    in_hand outside hand counted =
        let first : Shares k2 outside (Node (record { 0 = r }) ∷ hand) = subst (λ k. Shares k2 outside (k ∷ hand)) stood3 (p3.shares outside hand ((nothing-in_hand k1 outside hand Null tt).1 (others.shares outside hand counted))) in
        hand-swapped k3 outside hand (Node (record { 0 = d })) (Node (record { 0 = r }))
        (subst (λ k. Shares k3 outside (k ∷ Node (record { 0 = r }) ∷ hand)) stood4
        (p4.shares outside (Node (record { 0 = r }) ∷ hand) ((nothing-in_hand k2 outside (Node (record { 0 = r }) ∷ hand) Null tt).1 first)))

    outside3 : (outside : Outside) → outside_trees k3 (and_outside (and_outside outside (Node (record { 0 = r }))) (Node (record { 0 = d }))) ≡ outside_trees k0 outside
    outside3 outside =
        ap (λ k. outside_trees k3 (and_outside (and_outside outside (Node (record { 0 = r }))) k)) (sym stood4) ∙ p4.outside_now (and_outside outside (Node (record { 0 = r })))
        ∙ ap (outside_trees k2) (null_outside (and_outside outside (Node (record { 0 = r }))))
        ∙ ap (λ k. outside_trees k2 (and_outside outside k)) (sym stood3) ∙ p3.outside_now outside ∙ ap (outside_trees k1) (null_outside outside) ∙ others.outside_now outside

    module _ (k4 : Kernel) (g1 : GivesBack k3 k4 r) where
      rows4 : domain_rows k4 ≡ with_at (domain_rows k3) r null_row
      rows4 = g1.rows_now

      row_d4 : domain_rows k4 d ≡ domain_rows k3 d
      row_d4 = ap (λ (x : ℕ → ℕ → Key). x d) g1.rows_now ∙ other_at (domain_rows k3) r d null_row d_r

      numbers_d4 : (place : ℕ) → place < 11 → is_number (domain_rows k4 d place) ≡ true
      numbers_d4 place low = ap (λ (x : ℕ → Key). is_number (x place)) row_d4 ∙ numbers_d place low

      blank_d4 : (place : ℕ) → 11 ≤ place → domain_rows k4 d place ≡ Null
      blank_d4 place above = ap (λ (x : ℕ → Key). x place) row_d4 ∙ blank_d place above

      pub once_d : IsNodeOnce k4 d
      once_d = g1.others d d_r ∙ ap (λ (k : Kernel). entry_at k.node_entries d) keys3 ∙ may.descriptors_once d descriptors_were

      pub quiet_d : IsQuiet (domain_rows k4 d)
      quiet_d = words_quiet (domain_rows k4 d) numbers_d4 blank_d4

      pub in_hand_d : (outside : Outside) (hand : List Key) → Shares k0 outside hand → Shares k4 outside (Node (record { 0 = d }) ∷ hand)
      in_hand_d outside hand counted = g1.shares outside (Node (record { 0 = d }) ∷ hand) (Node (record { 0 = r })) (names_itself r) (in_hand outside hand counted)

      no_meter_r : is_meter (domain_rows k3 r 2) ≡ false
      no_meter_r = number_no_meter (domain_rows k3 r 2) (numbers_r 2 (omega arith))

      good4 : RowsGood (domain_rows k4)
      good4 = subst RowsGood (sym g1.rows_now) (gone_good (domain_rows k3) r good3 nobody_r)

      nobody_d4 : NobodyIn (domain_rows k4) d
      nobody_d4 = subst (λ x. NobodyIn x d) (sym g1.rows_now) (gone_nobody (domain_rows k3) r good3 nobody_r d nobody_d)

      no_meter_d : is_meter (domain_rows k4 d 2) ≡ false
      no_meter_d = number_no_meter (domain_rows k4 d 2) (numbers_d4 2 (omega arith))

      module _ (k5 : Kernel) (g2 : GivesBack k4 k5 d) where
        pub ended_rows : RowsGood (domain_rows k5)
        ended_rows = subst RowsGood (sym g2.rows_now) (gone_good (domain_rows k4) d good4 nobody_d4)

        domains5 : domain_at (domain_rows k5) ≡ domain_at (domain_rows k3)
        domains5 = ap domain_at g2.rows_now ∙ gone_domains (domain_rows k4) d good4 nobody_d4 no_meter_d ∙ ap domain_at g1.rows_now ∙ gone_domains (domain_rows k3) r good3 nobody_r no_meter_r

        lives5 : (fixed : ℕ → ℕ → Key) → lives_by (domain_rows k5) fixed ≡ lives_by (domain_rows k1) fixed
        lives5 fixed = ap (λ x. lives_by x fixed) g2.rows_now ∙ gone_lives (domain_rows k4) d good4 nobody_d4 no_meter_d fixed
            ∙ ap (λ x. lives_by x fixed) g1.rows_now ∙ gone_lives (domain_rows k3) r good3 nobody_r no_meter_r fixed
            ∙ ap (λ x. lives_by x fixed) rows3 ∙ unnamed_lives (domain_rows k1) root rows1 meter1 fixed

        fixed5 : fixed_rows k5 ≡ fixed_rows k0
        fixed5 = g2.fixed_now ∙ g1.fixed_now ∙ fixed3

        pub ends_domain : lives k1 ≡ lives k0 → MakesZombie k0 k5 root
        ends_domain lives1 = record {
          regs = r;
          descriptors = d;
          regs_were = regs_were;
          descriptors_were = descriptors_were;
          domains_now = domains5 ∙ domains3;
          lives_now = lives5 (fixed_rows k5) ∙ ap (lives_by (domain_rows k1)) (fixed5 ∙ sym others.fixed_now) ∙ lives1;
          fixed_now = fixed5;
          forest_now = g2.forest_now ∙ g1.forest_now ∙ p4.forest_now ∙ p3.forest_now ∙ others.forest_now;
          outside_now = λ outside.
              ap (outside_trees k5) (sym (words_outside (domain_rows k4 d) numbers_d4 blank_d4 (and_outside (and_outside outside (Node (record { 0 = r }))) (Node (record { 0 = d })))))
              ∙ g2.outside_now (and_outside (and_outside outside (Node (record { 0 = r }))) (Node (record { 0 = d })))
              ∙ ap (outside_trees k4) (sym (words_outside (domain_rows k3 r) numbers_r blank_r (and_outside (and_outside outside (Node (record { 0 = r }))) (Node (record { 0 = d })))))
              ∙ g1.outside_now (and_outside (and_outside outside (Node (record { 0 = r }))) (Node (record { 0 = d })))
              ∙ outside3 outside;
          entries = λ node other_r other_d. g2.others node other_d ∙ g1.others node other_r ∙ ap (λ (k : Kernel). entry_at k.node_entries node) keys3;
          entry_of_root = g2.others root (λ e. d_root (sym e)) ∙ g1.others root (λ e. r_root (sym e)) ∙ ap (λ (k : Kernel). entry_at k.node_entries root) keys3;
          free = λ node which. ⊎_elim
              (λ (e : node ≡ r). ap (λ n. is_free (entry_at k5.node_entries n)) e ∙ ap is_free (g2.others r (λ f. d_r (sym f))) ∙ g1.free)
              (λ (e : node ≡ d). ap (λ n. is_free (entry_at k5.node_entries n)) e ∙ g2.free) which;
          rest = rest_two k0 k3 k4 k5 keys3 g1.rest g2.rest;
          number =
              let a = g1.number in
              let b = g2.number in
              let c = ap (λ (k : Kernel). k.machine.nodes_taken) keys3 in
              omega arith;
          shares = λ outside hand counted. g2.shares outside hand (Node (record { 0 = d })) (names_itself d) (in_hand_d outside hand counted);
        }
          where
            rest_two : (a b c e : Kernel) → b ≡ record a { keys = b.keys } → KeepsAllButNodes b c → KeepsAllButNodes c e → KeepsAllButNodes a e
            rest_two a b c e keys first second = second
                ∙ ap (λ (k : Kernel). let n : Kernel = record k { machine = record k.machine { free_node = e.machine.free_node; nodes_taken = e.machine.nodes_taken }; node_entries = e.node_entries; keys = e.keys } in n) first
                ∙ ap (λ (k : Kernel). let n : Kernel = record k { machine = record k.machine { free_node = e.machine.free_node; nodes_taken = e.machine.nodes_taken }; node_entries = e.node_entries; keys = e.keys } in n) keys
