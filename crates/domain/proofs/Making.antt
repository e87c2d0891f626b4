-- A domain is made, call by call.
use Rattle.std.proofs.Common.{◌≡◌, ◌≢◌, ◌<◌, ◌+◌, ◌*◌, ◌/◌, ◌%◌, ℕ, Some, true, false, List, [], ◌∷◌, ◌++◌, refl, ap, sym, subst, ◌∙◌, arith, ⊎_elim}
use Rattle.kn_base.specs.declared.key.Key.{Key}
use Rattle.kn_base.specs.declared.key.Key.TheVariants.{Null, Node, Start, Domain as DomainKey}
use Rattle.kernel_tables.specs.declared.entry.NodeOwner.TheVariants.{Domain as DomainOwner}
use Rattle.kernel_tables.specs.declared.entry.Entry.TheVariants.{Taken}
use Rattle.kernel_tables.specs.Kernel.{Kernel}
use Rattle.kernel_tables.specs.Rows.{entry_at, key_table, domain_rows, fixed_rows, of_domain, is_fixed}
use Rattle.space_bank.specs.Bank.{BankGood}
use Rattle.space_bank.specs.FreeList.{is_free}
use Rattle.space_bank.specs.Laws.{and_outside}
use Rattle.space_bank.specs.Shares.{Outside, Shares}
use Rattle.space_bank.proofs.HandLaws.{nothing-in_hand, hand-swapped, handed-out}
use Rattle.kernel_forest.specs.Trees.{outside_trees}
use Rattle.kernel_forest.specs.Moves.{TakesRow, PutsRow, KeepsRest}
use Rattle.kernel_forest.proofs.RowLaws.{domains_apart, fixed_apart}
use Rattle.unix_model.specs.Tables.{at, with_at}
use Rattle.domain.specs.declared.types.State.TheVariants.{Running}
use Rattle.std.proofs.lemmas.Bool.{eq-eqb}
use Rattle.domain.specs.Keys.{key_of_space}
use Rattle.domain.specs.Domains.{Domain, domain_at, lives_by, life_in, roots_by}
use Rattle.domain.specs.Rules.{RowsGood, NobodyIn, written}
use Rattle.domain.specs.Life.{Fills, FillsRoot, MakesDomain, with_zeros, null_row, zero_row, root_row, root_keys, and_all, born, slot_key}
use Rattle.domain.proofs.RowLaws.{here_at, other_at}
use Rattle.domain.proofs.Pages.{null_outside}
use Rattle.domain.proofs.Filling.{fills_to, and_all-last, and_all-none}
use Rattle.domain.proofs.Writing.{fixed_key}
use Rattle.domain.proofs.Born.{fresh_null, fresh_nobody, nobody_row, idle_good, idle_domains, idle_lives, zero_plain, zero_no_meter, born_good, born_domains, born_lives, born_is, born_root_places, born_root_good, root_meter, root_third, root_fourth, root_life_key, root_plain_keys, roots_more, lives_slot, fresh_domain}

-- keys in hand, in another order
swap_second : (k : Kernel) (o : Outside) (a b c : Key) (h : List Key) → Shares k o (a ∷ b ∷ c ∷ h) → Shares k o (a ∷ c ∷ b ∷ h)
swap_second k o a b c h s = (handed-out k o (c ∷ b ∷ h) a).1 (hand-swapped k (and_outside o a) h b c ((handed-out k o (b ∷ c ∷ h) a).0 s))

swap_third : (k : Kernel) (o : Outside) (a b c d : Key) (h : List Key) → Shares k o (a ∷ b ∷ c ∷ d ∷ h) → Shares k o (a ∷ b ∷ d ∷ c ∷ h)
swap_third k o a b c d h s = (handed-out k o (b ∷ d ∷ c ∷ h) a).1 (swap_second k (and_outside o a) b c d h ((handed-out k o (b ∷ c ∷ d ∷ h) a).0 s))

four_back : (k : Kernel) (o : Outside) (a b c d : Key) (h : List Key) → Shares k o (a ∷ b ∷ c ∷ d ∷ h) → Shares k o (d ∷ c ∷ b ∷ a ∷ h)
four_back k o a b c d h s =
    swap_third k o d c a b h
    (swap_second k o d a c (b ∷ h)
    (swap_third k o d a b c h
    (hand-swapped k o (b ∷ c ∷ h) a d
    (swap_second k o a b d (c ∷ h)
    (swap_third k o a b c d h s)))))

rest_keys : (old new : Kernel) → new ≡ record old { keys = new.keys } → KeepsRest old new
rest_keys old new e = subst (λ (k : Kernel). KeepsRest old k) (sym e) refl

rest_trans : (a b c : Kernel) → KeepsRest a b → KeepsRest b c → KeepsRest a c
rest_trans a b c first second = second ∙ ap (λ (k : Kernel). let n : Kernel = record k { machine = record k.machine { free_node = c.machine.free_node; nodes_taken = c.machine.nodes_taken }; page_entries = c.page_entries; node_entries = c.node_entries; keys = c.keys } in n) first

module _ (k0 k1 k2 k3 k4 k5 k6 k7 : Kernel) (slot space r d t : ℕ) (good : RowsGood (domain_rows k0)) (bank : BankGood k6) (low : slot < 64) (free : slot_key k0 slot ≡ Null)
    (some : Outside) (rest : List Key) (counted : Shares k0 some (key_of_space (Some space) ∷ rest))
    (t1 : TakesRow k0 k1 r) (u1 : is_free (entry_at k0.node_entries r) ≡ true) (z1 : Fills k1 k2 r (with_zeros (domain_rows k1 r) 0 11) [])
    (t2 : TakesRow k2 k3 d) (u2 : is_free (entry_at k2.node_entries d) ≡ true) (z2 : Fills k3 k4 d (with_zeros (domain_rows k3 d) 0 11) [])
    (t3 : TakesRow k4 k5 t) (u3 : is_free (entry_at k4.node_entries t) ≡ true) (root : FillsRoot k5 k6 t slot space r d)
    (put : PutsRow k6 k7 (11 + slot / 16) (slot % 16) (DomainKey (record { 0 = t }))) where
  f1 : Fills k1 k2 r zero_row []
  f1 = fills_to k1 k2 r (with_zeros (domain_rows k1 r) 0 11) zero_row [] (ap (λ x. with_zeros x 0 11) (fresh_null k0 k1 r t1)) z1

  f2 : Fills k3 k4 d zero_row []
  f2 = fills_to k3 k4 d (with_zeros (domain_rows k3 d) 0 11) zero_row [] (ap (λ x. with_zeros x 0 11) (fresh_null k2 k3 d t2)) z2

  -- ---- which entries there are
  taken_r : entry_at k2.node_entries r ≡ Taken DomainOwner 1
  taken_r = ap (λ (k : Kernel). entry_at k.node_entries r) f1.rest ∙ t1.entry

  r_d : r ≢ d
  r_d e = let no : false ≡ true = ap is_free (sym (ap (λ n. entry_at k2.node_entries n) (sym e) ∙ taken_r)) ∙ u2 in cc

  taken_d : entry_at k4.node_entries d ≡ Taken DomainOwner 1
  taken_d = ap (λ (k : Kernel). entry_at k.node_entries d) f2.rest ∙ t2.entry

  taken_r_too : entry_at k4.node_entries r ≡ Taken DomainOwner 1
  taken_r_too = ap (λ (k : Kernel). entry_at k.node_entries r) f2.rest ∙ t2.others r r_d ∙ taken_r

  t_r : t ≢ r
  t_r e = let no : false ≡ true = ap is_free (sym (ap (λ n. entry_at k4.node_entries n) e ∙ taken_r_too)) ∙ u3 in cc

  t_d : t ≢ d
  t_d e = let no : false ≡ true = ap is_free (sym (ap (λ n. entry_at k4.node_entries n) e ∙ taken_d)) ∙ u3 in cc

  -- ---- what is counted
  s1 : (o : Outside) (h : List Key) → Shares k0 o h → Shares k2 o (Node (record { 0 = r }) ∷ h)
  s1 o h c = f1.shares o (Node (record { 0 = r }) ∷ h) (t1.shares o h (Node (record { 0 = r })) (eq-eqb r r refl) c)

  s2 : (o : Outside) (h : List Key) → Shares k0 o h → Shares k4 o (Node (record { 0 = d }) ∷ Node (record { 0 = r }) ∷ h)
  s2 o h c = f2.shares o (Node (record { 0 = d }) ∷ Node (record { 0 = r }) ∷ h)
      (t2.shares o (Node (record { 0 = r }) ∷ h) (Node (record { 0 = d })) (eq-eqb d d refl) (s1 o h c))

  s3 : (o : Outside) (h : List Key) → Shares k0 o h → Shares k5 o (DomainKey (record { 0 = t }) ∷ Node (record { 0 = d }) ∷ Node (record { 0 = r }) ∷ h)
  s3 o h c = t3.shares o (Node (record { 0 = d }) ∷ Node (record { 0 = r }) ∷ h) (DomainKey (record { 0 = t })) (eq-eqb t t refl) (s2 o h c)

  s4 : (o : Outside) (h : List Key) → Shares k0 o (key_of_space (Some space) ∷ h) → Shares k6 o (DomainKey (record { 0 = t }) ∷ h)
  s4 o h c = root.fills.shares o (DomainKey (record { 0 = t }) ∷ h)
      (hand-swapped k5 o (Node (record { 0 = r }) ∷ Node (record { 0 = d }) ∷ DomainKey (record { 0 = t }) ∷ h) (Start (record { 0 = 1 }) slot) (key_of_space (Some space))
      ((nothing-in_hand k5 o (key_of_space (Some space) ∷ Node (record { 0 = r }) ∷ Node (record { 0 = d }) ∷ DomainKey (record { 0 = t }) ∷ h) (Start (record { 0 = 1 }) slot) (let one : 1 < 15 = omega arith in one)).1
      (four_back k5 o (DomainKey (record { 0 = t })) (Node (record { 0 = d })) (Node (record { 0 = r })) (key_of_space (Some space)) h (s3 o (key_of_space (Some space) ∷ h) c))))

  fixed_before : fixed_rows k6 ≡ fixed_rows k0
  fixed_before = root.fills.fixed_now ∙ t3.rows_now is_fixed fixed_apart ∙ f2.fixed_now ∙ t2.rows_now is_fixed fixed_apart ∙ f1.fixed_now ∙ t1.rows_now is_fixed fixed_apart

  stood : key_table k6.keys (16 * (11 + slot / 16) + slot % 16) ≡ Null
  stood = fixed_key k6 (11 + slot / 16) (slot % 16) bank (omega arith) (omega arith) ∙ ap (λ (f : ℕ → ℕ → Key). f (11 + slot / 16) (slot % 16)) fixed_before ∙ free

  s5 : (o : Outside) (h : List Key) → Shares k0 o (key_of_space (Some space) ∷ h) → Shares k7 o h
  s5 o h c = (nothing-in_hand k7 o h Null tt).0 (subst (λ k. Shares k7 o (k ∷ h)) stood (put.shares o h (s4 o h c)))

  -- ---- rows
  rows1 : domain_rows k1 ≡ domain_rows k0
  rows1 = t1.rows_now of_domain domains_apart

  good1 : RowsGood (domain_rows k1)
  good1 = subst RowsGood (sym rows1) good

  nobody1 : NobodyIn (domain_rows k1) r
  nobody1 = fresh_nobody k0 k1 r some (key_of_space (Some space) ∷ rest) t1 counted

  null1 : domain_rows k1 r ≡ null_row
  null1 = fresh_null k0 k1 r t1

  good2 : RowsGood (domain_rows k2)
  good2 = subst RowsGood (sym f1.rows_now) (idle_good (domain_rows k1) r zero_row good1 nobody1 null1 zero_plain zero_no_meter)

  domains2 : domain_at (domain_rows k2) ≡ domain_at (domain_rows k0)
  domains2 = ap domain_at f1.rows_now ∙ idle_domains (domain_rows k1) r zero_row nobody1 null1 zero_plain zero_no_meter ∙ ap domain_at rows1

  lives2 : (fixed : ℕ → ℕ → Key) → lives_by (domain_rows k2) fixed ≡ lives_by (domain_rows k0) fixed
  lives2 fixed = ap (λ x. lives_by x fixed) f1.rows_now ∙ idle_lives (domain_rows k1) fixed r zero_row null1 zero_no_meter ∙ ap (λ x. lives_by x fixed) rows1

  rows3 : domain_rows k3 ≡ domain_rows k2
  rows3 = t2.rows_now of_domain domains_apart

  nobody3 : NobodyIn (domain_rows k3) d
  nobody3 = fresh_nobody k2 k3 d some (Node (record { 0 = r }) ∷ key_of_space (Some space) ∷ rest) t2 (s1 some (key_of_space (Some space) ∷ rest) counted)

  null3 : domain_rows k3 d ≡ null_row
  null3 = fresh_null k2 k3 d t2

  good3 : RowsGood (domain_rows k3)
  good3 = subst RowsGood (sym rows3) good2

  good4 : RowsGood (domain_rows k4)
  good4 = subst RowsGood (sym f2.rows_now) (idle_good (domain_rows k3) d zero_row good3 nobody3 null3 zero_plain zero_no_meter)

  domains4 : domain_at (domain_rows k4) ≡ domain_at (domain_rows k0)
  domains4 = ap domain_at f2.rows_now ∙ idle_domains (domain_rows k3) d zero_row nobody3 null3 zero_plain zero_no_meter ∙ ap domain_at rows3 ∙ domains2

  lives4 : (fixed : ℕ → ℕ → Key) → lives_by (domain_rows k4) fixed ≡ lives_by (domain_rows k0) fixed
  lives4 fixed = ap (λ x. lives_by x fixed) f2.rows_now ∙ idle_lives (domain_rows k3) fixed d zero_row null3 zero_no_meter ∙ ap (λ x. lives_by x fixed) rows3 ∙ lives2 fixed

  rows5 : domain_rows k5 ≡ domain_rows k4
  rows5 = t3.rows_now of_domain domains_apart

  good5 : RowsGood (domain_rows k5)
  good5 = subst RowsGood (sym rows5) good4

  nobody_t : NobodyIn (domain_rows k5) t
  nobody_t = fresh_nobody k4 k5 t some (Node (record { 0 = d }) ∷ Node (record { 0 = r }) ∷ key_of_space (Some space) ∷ rest) t3 (s2 some (key_of_space (Some space) ∷ rest) counted)

  nobody_r2 : NobodyIn (domain_rows k2) r
  nobody_r2 = subst (λ x. NobodyIn x r) (sym f1.rows_now) (nobody_row (domain_rows k1) r zero_row r nobody1 zero_plain)

  nobody_r : NobodyIn (domain_rows k5) r
  nobody_r = subst (λ x. NobodyIn x r) (sym (rows5 ∙ f2.rows_now)) (nobody_row (domain_rows k3) d zero_row r (subst (λ x. NobodyIn x r) (sym rows3) nobody_r2) zero_plain)

  nobody_d : NobodyIn (domain_rows k5) d
  nobody_d = subst (λ x. NobodyIn x d) (sym (rows5 ∙ f2.rows_now)) (nobody_row (domain_rows k3) d zero_row d nobody3 zero_plain)

  zero_d : domain_rows k5 d ≡ zero_row
  zero_d = ap (λ (x : ℕ → ℕ → Key). x d) (rows5 ∙ f2.rows_now) ∙ here_at (domain_rows k3) d zero_row

  zero_r : domain_rows k5 r ≡ zero_row
  zero_r = ap (λ (x : ℕ → ℕ → Key). x r) (rows5 ∙ f2.rows_now) ∙ other_at (domain_rows k3) d r zero_row r_d ∙ ap (λ (x : ℕ → ℕ → Key). x r) (rows3 ∙ f1.rows_now) ∙ here_at (domain_rows k1) r zero_row

  good6 : RowsGood (domain_rows k6)
  good6 = subst RowsGood (sym root.fills.rows_now)
      (born_good (domain_rows k5) t r d (root_row root.life slot space r d) good5 nobody_t nobody_r nobody_d r_d t_r t_d (root_third root.life slot space r d) (root_fourth root.life slot space r d)
      (root_plain_keys root.life slot space r d root.fits.number) zero_r zero_d (born_root_places root.life slot space r d) (born_root_good root.life slot space r d root.fits))

  domains6 : domain_at (domain_rows k6) ≡ with_at (domain_at (domain_rows k0)) t (born slot space r d)
  domains6 = ap domain_at root.fills.rows_now
      ∙ born_domains (domain_rows k5) t r d (root_row root.life slot space r d) good5 nobody_t nobody_r nobody_d r_d t_r t_d (root_third root.life slot space r d) (root_fourth root.life slot space r d)
      (root_plain_keys root.life slot space r d root.fits.number) zero_r zero_d (born_root_places root.life slot space r d) (born_root_good root.life slot space r d root.fits) (root_meter root.life slot space r d)
      ∙ ap (with_at (domain_at (domain_rows k5)) t) (born_is root.life slot space r d)
      ∙ ap (λ x. with_at x t (born slot space r d)) (ap domain_at rows5 ∙ domains4)

  lives6 : (fixed : ℕ → ℕ → Key) → lives_by (domain_rows k6) fixed ≡ with_at (lives_by (domain_rows k0) fixed) t (life_in root.life)
  lives6 fixed = ap (λ x. lives_by x fixed) root.fills.rows_now ∙ born_lives (domain_rows k5) fixed t (root_row root.life slot space r d) (root_meter root.life slot space r d)
      ∙ ap (λ k. with_at (lives_by (domain_rows k5) fixed) t (life_in k)) (root_life_key root.life slot space r d)
      ∙ ap (λ x. with_at x t (life_in root.life)) (ap (λ x. lives_by x fixed) rows5 ∙ lives4 fixed)

  fixed_here : is_fixed (entry_at k6.node_entries (11 + slot / 16)) ≡ true
  fixed_here = ap is_fixed (bank.nodes.fixed (11 + slot / 16) (omega arith))

  no_domain_here : of_domain (entry_at k6.node_entries (11 + slot / 16)) ≡ false
  no_domain_here = ap of_domain (bank.nodes.fixed (11 + slot / 16) (omega arith))

  rows7 : domain_rows k7 ≡ domain_rows k6
  rows7 = put.others_now of_domain no_domain_here

  fixed7 : fixed_rows k7 ≡ written (fixed_rows k0) (11 + slot / 16) (slot % 16) (DomainKey (record { 0 = t }))
  fixed7 = put.rows_now is_fixed fixed_here ∙ ap (λ f. written f (11 + slot / 16) (slot % 16) (DomainKey (record { 0 = t }))) fixed_before

  pub made_good : RowsGood (domain_rows k7)
  made_good = subst RowsGood (sym rows7) good6

  first : (node : ℕ) → node ≢ r → entry_at k2.node_entries node ≡ entry_at k0.node_entries node
  first node other = ap (λ (k : Kernel). entry_at k.node_entries node) f1.rest ∙ t1.others node other

  middle : (node : ℕ) → node ≢ r → node ≢ d → entry_at k4.node_entries node ≡ entry_at k0.node_entries node
  middle node other_r other_d = ap (λ (k : Kernel). entry_at k.node_entries node) f2.rest ∙ t2.others node other_d ∙ first node other_r

  number_now : k7.machine.nodes_taken ≡ k0.machine.nodes_taken + 3
  number_now =
      let a = ap (λ (k : Kernel). k.machine.nodes_taken) put.state in
      let b = ap (λ (k : Kernel). k.machine.nodes_taken) root.fills.rest in
      let c = t3.number in
      let e = ap (λ (k : Kernel). k.machine.nodes_taken) f2.rest in
      let f = t2.number in
      let g = ap (λ (k : Kernel). k.machine.nodes_taken) f1.rest in
      let h = t1.number in
      omega arith

  pub makes_domain : MakesDomain k0 k7 slot space t
  makes_domain = record {
    regs = r;
    descriptors = d;
    high = t3.high;
    within = subst (λ n. t < n) (sym (ap (λ (k : Kernel). k.nodes) put.state ∙ ap (λ (k : Kernel). k.nodes) root.fills.rest ∙ ap (λ (k : Kernel). k.nodes) t3.rest)) t3.within;
    was_none = ap (λ (f : ℕ → Domain). at f t) (sym domains4) ∙ fresh_domain k4 t u3;
    domains_now = ap domain_at rows7 ∙ domains6;
    lives_now = ap (λ x. lives_by x (fixed_rows k7)) rows7 ∙ lives6 (fixed_rows k7) ∙ ap (with_at (lives_by (domain_rows k0) (fixed_rows k7)) t) root.runs
        ∙ ap (λ x. with_at x t (record { state = Running; count = 0 })) (ap (lives_by (domain_rows k0)) fixed7 ∙ lives_slot (domain_rows k0) (fixed_rows k0) (11 + slot / 16) (slot % 16) t free);
    roots_now = ap roots_by fixed7 ∙ roots_more (fixed_rows k0) slot t low;
    fixed_now = fixed7;
    forest_now = put.forest_now ∙ root.fills.forest_now ∙ t3.forest_now ∙ f2.forest_now ∙ t2.forest_now ∙ f1.forest_now ∙ t1.forest_now;
    outside_now = λ outside. ap (outside_trees k7) (sym (ap (and_outside outside) stood ∙ null_outside outside)) ∙ put.outside_now outside
        ∙ root.fills.outside_now (and_outside outside (DomainKey (record { 0 = t }))) ∙ ap (outside_trees k5) (sym (and_all-last outside (root_keys slot space r d) (DomainKey (record { 0 = t }))))
        ∙ before (and_all outside (root_keys slot space r d ++ DomainKey (record { 0 = t }) ∷ []));
    entries = λ node other_r other_d other_t. ap (λ (k : Kernel). entry_at k.node_entries node) put.state ∙ ap (λ (k : Kernel). entry_at k.node_entries node) root.fills.rest
        ∙ t3.others node other_t ∙ middle node other_r other_d;
    free = λ node which. ⊎_elim (λ e. ap (λ n. is_free (entry_at k0.node_entries n)) e ∙ u1)
        (λ other. ⊎_elim
        (λ e. ap (λ n. is_free (entry_at k0.node_entries n)) e ∙ ap is_free (sym (first d (λ f. r_d (sym f)))) ∙ u2)
        (λ e. ap (λ n. is_free (entry_at k0.node_entries n)) e ∙ ap is_free (sym (middle t t_r t_d)) ∙ u3) other) which;
    pages_now = ap (λ (k : Kernel). k.page_entries) put.state ∙ ap (λ (k : Kernel). k.page_entries) root.fills.rest ∙ t3.pages_now ∙ ap (λ (k : Kernel). k.page_entries) f2.rest
        ∙ t2.pages_now ∙ ap (λ (k : Kernel). k.page_entries) f1.rest ∙ t1.pages_now;
    rest = rest_trans k0 k1 k7 t1.rest (rest_trans k1 k2 k7 (rest_keys k1 k2 f1.rest) (rest_trans k2 k3 k7 t2.rest (rest_trans k3 k4 k7 (rest_keys k3 k4 f2.rest) (rest_trans k4 k5 k7 t3.rest (rest_trans k5 k6 k7 (rest_keys k5 k6 root.fills.rest)
        (rest_keys k6 k7 (put.state ∙ ap (λ ks. let n : Kernel = record k6 { keys = ks } in n) (sym (ap (λ (k : Kernel). k.keys) put.state)))))))));
    entry_of_root = after t ∙ t3.entry;
    entry_of_regs = after r ∙ t3.others r (λ e. t_r (sym e)) ∙ taken_r_too;
    entry_of_descriptors = after d ∙ t3.others d (λ e. t_d (sym e)) ∙ taken_d;
    number = number_now;
    shares = s5;
  }
    where
      before : (outside : Outside) → outside_trees k5 outside ≡ outside_trees k0 outside
      before outside = t3.outside_now outside ∙ f2.outside_now outside ∙ ap (outside_trees k3) (and_all-none outside) ∙ t2.outside_now outside ∙ f1.outside_now outside ∙ ap (outside_trees k1) (and_all-none outside) ∙ t1.outside_now outside

      after : (node : ℕ) → entry_at k7.node_entries node ≡ entry_at k5.node_entries node
      after node = ap (λ (k : Kernel). entry_at k.node_entries node) put.state ∙ ap (λ (k : Kernel). entry_at k.node_entries node) root.fills.rest
