-- Whoever is parked goes on, one slot after the other.
use Rattle.std.proofs.Common.{◌≡◌, ◌<◌, ◌≤◌, ◌+◌, ◌==◌, ◌&&◌, ℕ, Bool, true, false, nat_lt, get_or, if◌then◌else◌, Option, Some, None, List, [], ◌∷◌, ◌++◌, refl, ap, sym, subst, ◌∙◌, add-one, arith, ⊎_elim}
use Rattle.std.proofs.Math.Path.{fun_ext}
use Rattle.std.proofs.lemmas.Bool.{cases_Bool, cases_lt, lt-ltb, le-ltb}
use Rattle.kn_base.specs.declared.key.Key.{Key}
use Rattle.kernel_tables.specs.Kernel.{Kernel}
use Rattle.kernel_tables.specs.Rows.{domain_rows, fixed_rows}
use Rattle.kernel_tables.specs.Blocks.{IsAmong, ChangesBlocks, key_block}
use Rattle.kernel_tables.proofs.BlockLaws.{both_change}
use Rattle.unix_model.specs.Tables.{at, with_at}
use Rattle.unix_model.proofs.TableLaws.{with_at-same}
use Rattle.domain.specs.Domains.{Domain, no_domain, domains, domain_at, roots, roots_by}
use Rattle.domain.specs.Marks.{is_marked, is_parked_on, unparked, released, woken, all_woken}
use Rattle.domain.specs.Sets.{WritesNumbers}
use Rattle.domain.specs.Slots.{AreInSlots}
use Rattle.domain.proofs.BlockSets.{among_left, among_right}
use Rattle.domain.proofs.MarkLaws.{woken_only, all_woken_at}
use Rattle.domain.proofs.RowLaws.{changed_at}
use Rattle.domain.proofs.SlotLaws.{slot-below, dead_domain}
use Rattle.invoke.specs.Parking.{HasDomain, woken_in, woken_block, woken_blocks}

-- ---- one domain

pub woken_yes : (word : ℕ) (domain : Domain) → is_parked_on word domain ≡ true → woken word domain ≡ unparked domain
unfolding woken
woken_yes word domain e = rw e refl

pub woken_no : (word : ℕ) (domain : Domain) → is_parked_on word domain ≡ false → woken word domain ≡ domain
unfolding woken
woken_no word domain e = rw e refl

pub released_yes : (domain : Domain) → is_marked domain ≡ true → released domain ≡ unparked domain
unfolding released
released_yes domain e = rw e refl

pub released_no : (domain : Domain) → is_marked domain ≡ false → released domain ≡ domain
unfolding released
released_no domain e = rw e refl

-- the words of a mark that was read tell whether it is taken away
module _ (old : ℕ → Domain) (root : ℕ) (marks : List ℕ) (result : Bool) (read : marks ≡ (at old root).marks) where
  pub released_set : (now : ℕ → Domain) → result ≡ (get_or marks 0 0 == 1) → result ≡ true → now ≡ with_at old root (unparked (at old root)) → now ≡ with_at old root (released (at old root))
  released_set now told is set =
      set ∙ ap (with_at old root) (sym (released_yes (at old root) (ap (λ (m : List ℕ). get_or m 0 0 == 1) (sym read) ∙ sym told ∙ is)))

  pub released_left : result ≡ (get_or marks 0 0 == 1) → result ≡ false → old ≡ with_at old root (released (at old root))
  released_left told is =
      sym (with_at-same old root (released (at old root)) (sym (released_no (at old root) (ap (λ (m : List ℕ). get_or m 0 0 == 1) (sym read) ∙ sym told ∙ is))))

  pub woken_set : (word : ℕ) (now : ℕ → Domain) → result ≡ ((get_or marks 0 0 == 1) && (get_or marks 1 0 == word)) → result ≡ true → now ≡ with_at old root (unparked (at old root))
      → now ≡ with_at old root (woken word (at old root))
  woken_set word now told is set =
      set ∙ ap (with_at old root) (sym (woken_yes word (at old root) (ap (λ (m : List ℕ). (get_or m 0 0 == 1) && (get_or m 1 0 == word)) (sym read) ∙ sym told ∙ is)))

  pub woken_left : (word : ℕ) → result ≡ ((get_or marks 0 0 == 1) && (get_or marks 1 0 == word)) → result ≡ false → old ≡ with_at old root (woken word (at old root))
  woken_left word told is =
      sym (with_at-same old root (woken word (at old root)) (sym (woken_no word (at old root) (ap (λ (m : List ℕ). (get_or m 0 0 == 1) && (get_or m 1 0 == word)) (sym read) ∙ sym told ∙ is))))

-- what is no domain isn't parked
pub woken_dead : (word : ℕ) (rows : ℕ → ℕ → Key) (root : ℕ) → (at (domain_at rows) root).live ≡ false → woken word (at (domain_at rows) root) ≡ at (domain_at rows) root
woken_dead word rows root dead = let none = dead_domain rows root dead in ap (woken word) none ∙ woken_no word no_domain refl ∙ sym none

woken_field : {X : Type 0} (field : Domain → X) (word : ℕ) (domain : Domain) → ((was : Domain) (marks : List ℕ) → field (record was { marks = marks }) ≡ field was) → field (woken word domain) ≡ field domain
woken_field field word domain same = ap field (woken_only word domain) ∙ same domain (woken word domain).marks

pub nobody_then : (word : ℕ) (domain : Domain) → is_parked_on word (woken word domain) ≡ false
nobody_then word domain = ⊎_elim
    (λ (t : is_parked_on word domain ≡ true). ap (is_parked_on word) (woken_yes word domain t))
    (λ (t : is_parked_on word domain ≡ false). ap (is_parked_on word) (woken_no word domain t) ∙ t)
    (cases_Bool (is_parked_on word domain))

-- ---- all in the slots below one

unfoldable pub woken_below : ℕ → ℕ → (ℕ → Domain) → ℕ → Domain
woken_below word slots domains = λ root. if nat_lt (at domains root).slot slots then woken word (at domains root) else at domains root

below_yes : (word slots : ℕ) (domains : ℕ → Domain) (root : ℕ) → (at domains root).slot < slots → woken_below word slots domains root ≡ woken word (at domains root)
unfolding woken_below
below_yes word slots domains root low = rw (lt-ltb (at domains root).slot slots low) refl

below_no : (word slots : ℕ) (domains : ℕ → Domain) (root : ℕ) → slots ≤ (at domains root).slot → woken_below word slots domains root ≡ at domains root
unfolding woken_below
below_no word slots domains root high = rw (le-ltb (at domains root).slot slots high) refl

is_at : (domains : ℕ → Domain) (root : ℕ) → at domains root ≡ domains root
unfolding at
is_at domains root = refl

pub below_none : (word : ℕ) (domains : ℕ → Domain) → domains ≡ woken_below word 0 domains
below_none word domains = fun_ext (λ root. sym (is_at domains root) ∙ sym (below_no word 0 domains root (omega arith)))

pub below_field : {X : Type 0} (field : Domain → X) (word slots : ℕ) (domains : ℕ → Domain) (root : ℕ) → ((was : Domain) (marks : List ℕ) → field (record was { marks = marks }) ≡ field was)
    → field (at (woken_below word slots domains) root) ≡ field (at domains root)
below_field field word slots domains root same = ap field (is_at (woken_below word slots domains) root) ∙ ⊎_elim
    (λ (t : (at domains root).slot < slots). ap field (below_yes word slots domains root t) ∙ woken_field field word (at domains root) same)
    (λ (t : slots ≤ (at domains root).slot). ap field (below_no word slots domains root t))
    (cases_lt (at domains root).slot slots)

-- a root that has another slot, or isn't parked, is as it was
below_same : (word slot : ℕ) (domains : ℕ → Domain) (root : ℕ) → ((at domains root).slot ≡ slot → woken word (at domains root) ≡ at domains root)
    → woken_below word (slot + 1) domains root ≡ woken_below word slot domains root
below_same word slot domains root apart = ⊎_elim
    (λ (t : (at domains root).slot < slot). below_yes word (slot + 1) domains root (omega arith) ∙ sym (below_yes word slot domains root t))
    (λ (t : slot ≤ (at domains root).slot). ⊎_elim
    (λ (u : (at domains root).slot < slot + 1).
    below_yes word (slot + 1) domains root u ∙ apart (omega arith) ∙ sym (below_no word slot domains root t))
    (λ (u : slot + 1 ≤ (at domains root).slot). below_no word (slot + 1) domains root u ∙ sym (below_no word slot domains root t))
    (cases_lt (at domains root).slot (slot + 1)))
    (cases_lt (at domains root).slot slot)

module _ (word slot : ℕ) (kernel : Kernel) (in_slots : AreInSlots (roots kernel) (domains kernel)) where
  unless_live : (root : ℕ) → ((at (domains kernel) root).live ≡ true → (at (domains kernel) root).slot ≡ slot → woken word (at (domains kernel) root) ≡ at (domains kernel) root)
      → (at (domains kernel) root).slot ≡ slot → woken word (at (domains kernel) root) ≡ at (domains kernel) root
  unless_live root same own = ⊎_elim
      (λ (t : (at (domains kernel) root).live ≡ true). same t own)
      (λ (t : (at (domains kernel) root).live ≡ false). woken_dead word (domain_rows kernel) root t)
      (cases_Bool (at (domains kernel) root).live)

  -- the slot is free
  pub below_free : at (roots kernel) slot ≡ None → woken_below word slot (domains kernel) ≡ woken_below word (slot + 1) (domains kernel)
  below_free free = fun_ext (λ root. sym (below_same word slot (domains kernel) root (unless_live root (λ live own.
      let no : Some root ≡ None = sym (in_slots.all root live) ∙ ap (at (roots kernel)) own ∙ free in cc))))

  -- it is that of a root
  pub below_more : (root : ℕ) → at (roots kernel) slot ≡ Some root
      → with_at (woken_below word slot (domains kernel)) root (woken word (at (woken_below word slot (domains kernel)) root)) ≡ woken_below word (slot + 1) (domains kernel)
  below_more root used =
      let own = in_slots.own slot root used in
      sym (changed_at (woken_below word slot (domains kernel)) (woken_below word (slot + 1) (domains kernel)) root (woken word (at (woken_below word slot (domains kernel)) root))
      (below_yes word (slot + 1) (domains kernel) root (omega arith)
      ∙ ap (woken word) (sym (is_at (woken_below word slot (domains kernel)) root ∙ below_no word slot (domains kernel) root (omega arith))))
      (λ other apart. below_same word slot (domains kernel) other (unless_live other (λ live there.
      absurd (apart (let same : Some other ≡ Some root = sym (in_slots.all other live) ∙ ap (at (roots kernel)) there ∙ used in cc))))))

-- ---- all

pub below_all : (word : ℕ) (kernel : Kernel) → AreInSlots (roots kernel) (domains kernel) → woken_below word 64 (domains kernel) ≡ all_woken word (domains kernel)
unfolding all_woken
below_all word kernel in_slots = fun_ext (λ root. ⊎_elim
    (λ (t : (at (domains kernel) root).slot < 64). below_yes word 64 (domains kernel) root t)
    (λ (t : 64 ≤ (at (domains kernel) root).slot). below_no word 64 (domains kernel) root t ∙ sym (⊎_elim
    (λ (live : (at (domains kernel) root).live ≡ true).
    let low = slot-below (fixed_rows kernel) (at (domains kernel) root).slot root (in_slots.all root live) in absurd (omega arith))
    (λ (dead : (at (domains kernel) root).live ≡ false). woken_dead word (domain_rows kernel) root dead)
    (cases_Bool (at (domains kernel) root).live)))
    (cases_lt (at (domains kernel) root).slot 64))

-- ---- the steps of the loop

blocks_step : (kernel : Kernel) (word slot : ℕ) → woken_blocks kernel word (slot + 1) ≡ woken_block kernel word (at (roots kernel) slot) ++ woken_blocks kernel word slot
unfolding woken_blocks
blocks_step kernel word slot = rw (add-one slot) refl

module _ (word slot : ℕ) (first old new : Kernel) (in_slots : AreInSlots (roots first) (domains first)) (writes : WritesNumbers first old)
    (so_far : domains old ≡ woken_below word slot (domains first)) where
  pub same_roots : roots old ≡ roots first
  same_roots = ap roots_by writes.fixed_now

  pub still_domain : HasDomain old slot
  still_domain root used =
      ap (λ (d : ℕ → Domain). (at d root).live) so_far ∙ below_field (λ d. d.live) word slot (domains first) root (λ was marks. refl)
      ∙ in_slots.live slot root (ap (λ (r : ℕ → Option ℕ). at r slot) (sym same_roots) ∙ used)

  woken_more : (held : Option ℕ) → at (roots first) slot ≡ held → domains new ≡ woken_in word (domains old) held → domains new ≡ woken_below word (slot + 1) (domains first)
  woken_more None free is = is ∙ so_far ∙ below_free word slot first in_slots free
  woken_more (Some root) used is = is ∙ ap (λ (d : ℕ → Domain). with_at d root (woken word (at d root))) so_far ∙ below_more word slot first in_slots root used

  pub one_woken : domains new ≡ woken_in word (domains old) (at (roots old) slot) → domains new ≡ woken_below word (slot + 1) (domains first)
  one_woken is = woken_more (at (roots first) slot) refl (is ∙ ap (λ (r : ℕ → Option ℕ). woken_in word (domains old) (at r slot)) same_roots)

  block_same : (held : Option ℕ) → at (roots first) slot ≡ held → woken_block old word held ≡ woken_block first word held
  block_same None free = refl
  block_same (Some root) used =
      let own = in_slots.own slot root used in
      let here : at (domains old) root ≡ at (domains first) root = ap (λ (d : ℕ → Domain). at d root) so_far
      ∙ is_at (woken_below word slot (domains first)) root ∙ below_no word slot (domains first) root (omega arith) in
      ap (λ (d : Domain). if is_parked_on word d then key_block old.pages root ∷ [] else []) here
      ∙ ap (λ (k : Kernel). if is_parked_on word (at (domains first) root) then key_block k.pages root ∷ [] else []) writes.rest

  block_here : (block : ℕ) → IsAmong block (woken_block first word (at (roots first) slot)) → IsAmong block (woken_blocks first word (slot + 1))
  block_here block here = subst (IsAmong block) (sym (blocks_step first word slot)) (among_left block (woken_block first word (at (roots first) slot)) (woken_blocks first word slot) here)

  block_before : (block : ℕ) → IsAmong block (woken_blocks first word slot) → IsAmong block (woken_blocks first word (slot + 1))
  block_before block here = subst (IsAmong block) (sym (blocks_step first word slot)) (among_right block (woken_block first word (at (roots first) slot)) (woken_blocks first word slot) here)

  pub blocks_more : (b0 b1 b2 : List (List ℕ)) → ChangesBlocks b0 b1 (woken_blocks first word slot) → ChangesBlocks b1 b2 (woken_block old word (at (roots old) slot))
      → ChangesBlocks b0 b2 (woken_blocks first word (slot + 1))
  blocks_more b0 b1 b2 before after =
      let same : woken_block old word (at (roots old) slot) ≡ woken_block first word (at (roots first) slot) =
      ap (λ (r : ℕ → Option ℕ). woken_block old word (at r slot)) same_roots ∙ block_same (at (roots first) slot) refl in
      both_change
      (record { same_number = before.same_number; others = λ block apart. before.others block (λ here. apart (block_before block here)) })
      (λ block here. block_here block (subst (IsAmong block) same here)) after

-- ---- nobody is parked on it any more

pub nobody_woken : (word : ℕ) (domains now : ℕ → Domain) → now ≡ all_woken word domains → (root : ℕ) → is_parked_on word (at now root) ≡ false
nobody_woken word domains now is root = ap (λ (d : ℕ → Domain). is_parked_on word (at d root)) is ∙ ap (is_parked_on word) (all_woken_at word domains root) ∙ nobody_then word (at domains root)
