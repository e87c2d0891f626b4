-- A machine gets one process after the other, whose calls wait.
use Rattle.std.proofs.Common.{◌≡◌, ◌≢◌, ◌<◌, ◌≤◌, ◌+◌, ◌*◌, ◌/◌, ◌%◌, ℕ, Bool, true, false, nat_lt, Option, Some, None, [], ◌∷◌, length, refl, ap, sym, subst, ◌∙◌, arith, ⊎_elim, if◌then◌else◌}
use Rattle.std.proofs.lemmas.Bool.{cases_eq, eq-eqb}
use Rattle.kn_base.specs.declared.key.Key.{Key}
use Rattle.kn_base.specs.declared.key.Key.TheVariants.{Null, Domain as DomainKey}
use Rattle.kernel_tables.specs.declared.entry.NodeOwner.TheVariants.{Tree}
use Rattle.kernel_tables.specs.Kernel.{Kernel}
use Rattle.kernel_tables.specs.Rows.{spelled_or_null, key_table, domain_rows, fixed_rows, of_domain, is_fixed}
use Rattle.space_bank.specs.Bank.{BankGood, TakesNode}
use Rattle.space_bank.specs.Fixed.{FreshNodes}
use Rattle.space_bank.specs.Setup.{empty_bank}
use Rattle.space_bank.specs.Shares.{Shares, PutsNodeInHand, nothing_outside}
use Rattle.space_bank.proofs.FreeListLaws.{entry_inside}
use Rattle.kernel_forest.proofs.RowLaws.{domains_apart, fixed_apart, rows-node_taken}
use Rattle.unix_model.specs.Tables.{at, with_at}
use Rattle.unix_model.proofs.TableLaws.{at-with_at, at-with_at-other}
use Rattle.domain.specs.declared.types.Phase.TheVariants.{Sent}
use Rattle.domain.specs.Domains.{Domain, domains, domain_at, roots, roots_by}
use Rattle.domain.specs.Keys.{root_in, key_of_space}
use Rattle.domain.specs.Life.{MakesDomain, born, null_row, slot_key}
use Rattle.domain.specs.Marks.{released, all_woken}
use Rattle.domain.specs.Rules.{RowsGood}
use Rattle.domain.specs.Sets.{WritesNumbers}
use Rattle.domain.specs.Slots.{AreInSlots}
use Rattle.domain.proofs.MarkLaws.{stays, woken_only, released_only, all_woken_at}
use Rattle.domain.proofs.RowLaws.{written_both}
use Rattle.domain.proofs.SlotLaws.{slot-below}
use Rattle.domain.proofs.Untaken.{all_null, untaken_rows}
use Rattle.domain.proofs.Writing.{fixed_key}
use Rattle.invoke.specs.Invokes.{root_in_slot, some_or_zero}
use Rattle.invoke.specs.Parking.{IsSent, released_in}
use Rattle.tests_domain.proofs.Ready.{empty_taken, empty_nodes}
use Rattle.tests_invoke.specs.People.{IsPeopled}

-- ---- nobody

slot_null : (kernel : Kernel) (slot : ℕ) → BankGood kernel → FreshNodes kernel.keys → slot < 64 → slot_key kernel slot ≡ Null
unfolding key_table
slot_null kernel slot good fresh low =
    let e : 16 * (11 + slot / 16) + slot % 16 ≡ 16 * 11 + slot = omega arith in
    sym (fixed_key kernel (11 + slot / 16) (slot % 16) good (omega arith) (omega arith)) ∙ ap (key_table kernel.keys) e ∙ ap spelled_or_null (fresh.slots slot low)

none_either : (test : Bool) (held : Option ℕ) → (if test then held else held) ≡ held
none_either true held = refl
none_either false held = refl

free_root : (kernel : Kernel) (slot : ℕ) → slot_key kernel slot ≡ Null → at (roots kernel) slot ≡ None
unfolding at roots_by
free_root kernel slot null = ap (λ k. if nat_lt slot 64 then root_in k else None) null ∙ none_either (nat_lt slot 64) None

null_dead : (root : ℕ) → (at (domain_at (λ node. null_row)) root).live ≡ false
unfolding at domain_at
null_dead root = refl

pub nobody_lives : (kernel : Kernel) (root : ℕ) → BankGood kernel → kernel.machine.nodes_taken ≡ 0 → (at (domains kernel) root).live ≡ false
nobody_lives kernel root good none = ap (λ (rows : ℕ → ℕ → Key). (at (domain_at rows) root).live) (all_null kernel good none) ∙ null_dead root

pub empty_people : (kernel : Kernel) → kernel ≡ empty_bank 64 100 → BankGood kernel → FreshNodes kernel.keys → Shares kernel nothing_outside [] → IsPeopled kernel 0
empty_people kernel e good fresh shares =
    let none : kernel.machine.nodes_taken ≡ 0 = empty_taken kernel e in
    let free = λ (slot : ℕ) (low : slot < 64). slot_null kernel slot good fresh low in
    let nobody = λ (slot root : ℕ) (used : at (roots kernel) slot ≡ Some root).
    (let no : None ≡ Some root = sym (free_root kernel slot (free slot (slot-below (fixed_rows kernel) slot root used))) ∙ used in no) in
    record {
      rows = untaken_rows kernel good none;
      in_slots = record {
        live = λ slot root used. let no = nobody slot root used in cc;
        own = λ slot root used. let no = nobody slot root used in cc;
        all = λ root live. let no : false ≡ true = sym (nobody_lives kernel root good none) ∙ live in cc;
      };
      sent = λ slot few. absurd (omega arith);
      free = λ slot high low. free slot low;
      taken = none;
      nodes = empty_nodes kernel e;
      shares = shares;
    }

-- ---- one more

module _ (k0 k1 : Kernel) (slot space : ℕ) (was : IsPeopled k0 slot) (few : slot < 4) (good : BankGood k0) (takes : TakesNode k0 k1 space Tree) where
  inside : space < length k0.node_entries
  inside = entry_inside k0.node_entries space (good.nodes.entries_good.spelled space takes.high)

  fixed_taken : fixed_rows k1 ≡ fixed_rows k0
  fixed_taken = rows-node_taken k0 k1 space Tree inside refl takes is_fixed fixed_apart

  domains_taken : domains k1 ≡ domains k0
  domains_taken = ap domain_at (rows-node_taken k0 k1 space Tree inside refl takes of_domain domains_apart)

  pub rows_taken : RowsGood (domain_rows k1)
  rows_taken = subst RowsGood (sym (rows-node_taken k0 k1 space Tree inside refl takes of_domain domains_apart)) was.rows

  pub free_taken : slot_key k1 slot ≡ Null
  free_taken = ap (λ (f : ℕ → ℕ → Key). f (11 + slot / 16) (slot % 16)) fixed_taken ∙ was.free slot (omega arith) (omega arith)

  pub room_taken : k1.machine.nodes_taken + 18 ≤ k1.nodes
  room_taken = let a = ap (λ (k : Kernel). k.machine.nodes_taken) takes.state in let b = ap (λ (k : Kernel). k.nodes) takes.state in let d = was.taken in let e = was.nodes in omega arith

pub space_in_hand : (k0 k1 : Kernel) (slot space : ℕ) → IsPeopled k0 slot → PutsNodeInHand k0 k1 space → Shares k1 nothing_outside (key_of_space (Some space) ∷ [])
space_in_hand k0 k1 slot space was puts = puts.counted nothing_outside [] (key_of_space (Some space)) (eq-eqb space space refl) was.shares

pub born_lives : (k1 k2 : Kernel) (slot space root : ℕ) → MakesDomain k1 k2 slot space root → (at (domains k2) root).live ≡ true
born_lives k1 k2 slot space root made =
    ap (λ (d : ℕ → Domain). (at d root).live) made.domains_now ∙ ap (λ (d : Domain). d.live) (at-with_at (domains k1) root (born slot space made.regs made.descriptors))

module _ (k0 k1 k2 k3 : Kernel) (slot space root : ℕ) (was : IsPeopled k0 slot) (few : slot < 4) (good : BankGood k0)
    (takes : TakesNode k0 k1 space Tree) (puts : PutsNodeInHand k0 k1 space) (made : MakesDomain k1 k2 slot space root)
    (writes : WritesNumbers k2 k3) (set : domains k3 ≡ with_at (domains k2) root (let old = at (domains k2) root in record old { phase = Sent })) (rows3 : RowsGood (domain_rows k3)) where
  fixed1 : fixed_rows k1 ≡ fixed_rows k0
  fixed1 = fixed_taken k0 k1 slot space was few good takes

  domains1 : domains k1 ≡ domains k0
  domains1 = domains_taken k0 k1 slot space was few good takes

  roots3 : roots k3 ≡ with_at (roots k0) slot (Some root)
  roots3 = ap roots_by writes.fixed_now ∙ made.roots_now ∙ ap (λ (r : ℕ → Option ℕ). with_at r slot (Some root)) (ap roots_by fixed1)

  -- the new domain, and the others
  here : at (domains k3) root ≡ record (born slot space made.regs made.descriptors) { phase = Sent }
  here = ap (λ (d : ℕ → Domain). at d root) set ∙ at-with_at (domains k2) root _
      ∙ ap (λ (d : ℕ → Domain). let old = at d root in let new : Domain = record old { phase = Sent } in new) made.domains_now
      ∙ ap (λ (old : Domain). let new : Domain = record old { phase = Sent } in new) (at-with_at (domains k1) root (born slot space made.regs made.descriptors))

  there : (other : ℕ) → other ≢ root → at (domains k3) other ≡ at (domains k0) other
  there other apart = ap (λ (d : ℕ → Domain). at d other) set ∙ at-with_at-other (domains k2) root other _ apart
      ∙ ap (λ (d : ℕ → Domain). at d other) made.domains_now ∙ at-with_at-other (domains k1) root other (born slot space made.regs made.descriptors) apart
      ∙ ap (λ (d : ℕ → Domain). at d other) domains1

  not_new : (other : ℕ) → (at (domains k0) other).live ≡ true → other ≢ root
  not_new other live e = let no : false ≡ true = sym (ap (λ (d : Domain). d.live) made.was_none) ∙ ap (λ (d : ℕ → Domain). (at d root).live) domains1 ∙ ap (λ n. (at (domains k0) n).live) (sym e) ∙ live in cc

  used_here : at (roots k3) slot ≡ Some root
  used_here = ap (λ (r : ℕ → Option ℕ). at r slot) roots3 ∙ at-with_at (roots k0) slot (Some root)

  used_there : (other : ℕ) → other ≢ slot → at (roots k3) other ≡ at (roots k0) other
  used_there other apart = ap (λ (r : ℕ → Option ℕ). at r other) roots3 ∙ at-with_at-other (roots k0) slot other (Some root) apart

  -- whoever a slot names is the new domain in its slot, or was named before
  named : (P : ℕ → ℕ → Type 0) → P slot root → (other held : ℕ) → (at (roots k0) other ≡ Some held → other ≢ slot → P other held) → at (roots k3) other ≡ Some held → P other held
  named P new other held old used = ⊎_elim
      (λ (e : other ≡ slot).
      let same : Some root ≡ Some held = sym used_here ∙ ap (at (roots k3)) (sym e) ∙ used in
      let r : root ≡ held = cc in
      subst (λ s. P s held) (sym e) (subst (P slot) r new))
      (λ (d : other ≢ slot). old (sym (used_there other d) ∙ used) d)
      (cases_eq other slot)

  slot_free : (held : ℕ) → at (roots k0) slot ≡ Some held → ⊥
  slot_free held used = let no : None ≡ Some held = sym (free_root k0 slot (was.free slot (omega arith) (omega arith))) ∙ used in cc

  in_slots3 : AreInSlots (roots k3) (domains k3)
  in_slots3 = record {
    live = λ other held. named (λ s r. (at (domains k3) r).live ≡ true) (ap (λ (d : Domain). d.live) here) other held
        (λ used apart. let live = was.in_slots.live other held used in ap (λ (d : Domain). d.live) (there held (not_new held live)) ∙ live);
    own = λ other held. named (λ s r. (at (domains k3) r).slot ≡ s) (ap (λ (d : Domain). d.slot) here) other held
        (λ used apart. ap (λ (d : Domain). d.slot) (there held (not_new held (was.in_slots.live other held used))) ∙ was.in_slots.own other held used);
    all = λ other live. ⊎_elim
        (λ (e : other ≡ root). subst (λ r. at (roots k3) (at (domains k3) r).slot ≡ Some r) (sym e) (ap (λ (d : Domain). at (roots k3) d.slot) here ∙ used_here))
        (λ (d : other ≢ root).
        let lived : (at (domains k0) other).live ≡ true = sym (ap (λ (d : Domain). d.live) (there other d)) ∙ live in
        let place = was.in_slots.all other lived in
        ap (λ (d : Domain). at (roots k3) d.slot) (there other d)
        ∙ used_there (at (domains k0) other).slot (λ e. slot_free other (sym (ap (at (roots k0)) e) ∙ place)) ∙ place)
        (cases_eq other root);
  }

  sent_new : IsSent k3 slot root
  sent_new = record { used = used_here; live = ap (λ (d : Domain). d.live) here; sent = ap (λ (d : Domain). d.phase) here }

  sent_old : (other held : ℕ) → other ≢ slot → IsSent k0 other held → IsSent k3 other held
  sent_old other held apart is = record {
    used = used_there other apart ∙ is.used;
    live = ap (λ (d : Domain). d.live) (there held (not_new held is.live)) ∙ is.live;
    sent = ap (λ (d : Domain). d.phase) (there held (not_new held is.live)) ∙ is.sent;
  }

  sent3 : (other : ℕ) → other < slot + 1 → IsSent k3 other (root_in_slot k3 other)
  sent3 other low = ⊎_elim
      (λ (e : other ≡ slot). subst (λ s. IsSent k3 s (root_in_slot k3 s)) (sym e) (subst (IsSent k3 slot) (sym (ap some_or_zero used_here)) sent_new))
      (λ (d : other ≢ slot). subst (IsSent k3 other) (sym (ap some_or_zero (used_there other d))) (sent_old other (root_in_slot k0 other) d (was.sent other (omega arith))))
      (cases_eq other slot)

  free3 : (other : ℕ) → slot + 1 ≤ other → other < 64 → slot_key k3 other ≡ Null
  free3 other high low =
      ap (λ (f : ℕ → ℕ → Key). f (11 + other / 16) (other % 16)) (writes.fixed_now ∙ made.fixed_now)
      ∙ written_both (fixed_rows k1) (11 + slot / 16) (slot % 16) (DomainKey (record { 0 = root })) (λ k. k ≡ Null) (11 + other / 16) (other % 16)
      (λ e f. absurd (omega arith))
      (ap (λ (f : ℕ → ℕ → Key). f (11 + other / 16) (other % 16)) fixed1 ∙ was.free other (omega arith) low)

  pub one_more : IsPeopled k3 (slot + 1)
  one_more = record {
    rows = rows3;
    in_slots = in_slots3;
    sent = sent3;
    free = free3;
    taken =
        (let a = ap (λ (k : Kernel). k.machine.nodes_taken) writes.rest in let b = made.number in let c = ap (λ (k : Kernel). k.machine.nodes_taken) takes.state in let d = was.taken in omega arith);
    nodes = ap (λ (k : Kernel). k.nodes) writes.rest ∙ ap (λ (k : Kernel). k.nodes) made.rest ∙ ap (λ (k : Kernel). k.nodes) takes.state ∙ was.nodes;
    shares = writes.shares nothing_outside [] (made.shares nothing_outside [] (space_in_hand k0 k1 slot space was puts));
  }

-- ---- marks are written

module _ (old new : Kernel) (count : ℕ) (was : IsPeopled old count) (writes : WritesNumbers old new) (rows : RowsGood (domain_rows new))
    (live : (root : ℕ) → (at (domains new) root).live ≡ (at (domains old) root).live) (slot : (root : ℕ) → (at (domains new) root).slot ≡ (at (domains old) root).slot)
    (phase : (root : ℕ) → (at (domains new) root).phase ≡ (at (domains old) root).phase) where
  roots_same : roots new ≡ roots old
  roots_same = ap roots_by writes.fixed_now

  used_same : (s held : ℕ) → at (roots new) s ≡ Some held → at (roots old) s ≡ Some held
  used_same s held used = sym (ap (λ (r : ℕ → Option ℕ). at r s) roots_same) ∙ used

  still : IsPeopled new count
  still = record {
    rows = rows;
    in_slots = record {
      live = λ s held used. live held ∙ was.in_slots.live s held (used_same s held used);
      own = λ s held used. slot held ∙ was.in_slots.own s held (used_same s held used);
      all = λ root lives. ap (at (roots new)) (slot root) ∙ ap (λ (r : ℕ → Option ℕ). at r (at (domains old) root).slot) roots_same ∙ was.in_slots.all root (sym (live root) ∙ lives);
    };
    sent = λ s few.
        let is = was.sent s few in
        let root = root_in_slot old s in
        subst (IsSent new s) (sym (ap (λ (r : ℕ → Option ℕ). some_or_zero (at r s)) roots_same))
        (record { used = ap (λ (r : ℕ → Option ℕ). at r s) roots_same ∙ is.used; live = live root ∙ is.live; sent = phase root ∙ is.sent });
    free = λ s high low. ap (λ (f : ℕ → ℕ → Key). f (11 + s / 16) (s % 16)) writes.fixed_now ∙ was.free s high low;
    taken = ap (λ (k : Kernel). k.machine.nodes_taken) writes.rest ∙ was.taken;
    nodes = ap (λ (k : Kernel). k.nodes) writes.rest ∙ was.nodes;
    shares = writes.shares nothing_outside [] was.shares;
  }

pub one_marked : (old new : Kernel) (count root : ℕ) (domain : Domain) → IsPeopled old count → WritesNumbers old new → RowsGood (domain_rows new) → domains new ≡ with_at (domains old) root domain
    → domain.live ≡ (at (domains old) root).live → domain.slot ≡ (at (domains old) root).slot → domain.phase ≡ (at (domains old) root).phase → IsPeopled new count
one_marked old new count root domain was writes rows is live slot phase = still old new count was writes rows
    (λ r. ap (λ (d : ℕ → Domain). (at d r).live) is ∙ stays (domains old) root domain (λ d. d.live) live r)
    (λ r. ap (λ (d : ℕ → Domain). (at d r).slot) is ∙ stays (domains old) root domain (λ d. d.slot) slot r)
    (λ r. ap (λ (d : ℕ → Domain). (at d r).phase) is ∙ stays (domains old) root domain (λ d. d.phase) phase r)

pub all_marked : (old new : Kernel) (count word : ℕ) → IsPeopled old count → WritesNumbers old new → RowsGood (domain_rows new) → domains new ≡ all_woken word (domains old) → IsPeopled new count
all_marked old new count word was writes rows is =
    let now = λ (r : ℕ). ap (λ (d : ℕ → Domain). at d r) is ∙ all_woken_at word (domains old) r ∙ woken_only word (at (domains old) r) in
    still old new count was writes rows (λ r. ap (λ (d : Domain). d.live) (now r)) (λ r. ap (λ (d : Domain). d.slot) (now r)) (λ r. ap (λ (d : Domain). d.phase) (now r))

-- the process of a slot is parked no more, if there is one
pub slot_marked : (old new : Kernel) (count : ℕ) (held : Option ℕ) → IsPeopled old count → WritesNumbers old new → RowsGood (domain_rows new) → domains new ≡ released_in (domains old) held → IsPeopled new count
slot_marked old new count None was writes rows is = still old new count was writes rows
    (λ r. ap (λ (d : ℕ → Domain). (at d r).live) is) (λ r. ap (λ (d : ℕ → Domain). (at d r).slot) is) (λ r. ap (λ (d : ℕ → Domain). (at d r).phase) is)
slot_marked old new count (Some root) was writes rows is =
    let only = released_only (at (domains old) root) in
    one_marked old new count root (released (at (domains old) root)) was writes rows is (ap (λ (d : Domain). d.live) only) (ap (λ (d : Domain). d.slot) only) (ap (λ (d : Domain). d.phase) only)
