-- What stands, and all that holds between turns, along with marks.
use Rattle.std.proofs.Common.{◌≡◌, ◌≢◌, ℕ, Option, Some, List, replicate, refl, sym, ap, subst, ◌∙◌, ⊎_elim}
use Rattle.std.proofs.Math.Path.{fun_ext}
use Rattle.std.proofs.lemmas.Bool.{cases_eq}
use Rattle.kn_base.specs.declared.key.Key.{Key}
use Rattle.kernel_tables.specs.Kernel.{Kernel}
use Rattle.kernel_tables.specs.Rows.{domain_rows}
use Rattle.space_bank.specs.Bank.{BankGood}
use Rattle.kernel_forest.specs.Owners.{page_owners}
use Rattle.kernel_forest.specs.Trees.{forest_of}
use Rattle.domain.specs.declared.types.Phase.{Phase}
use Rattle.domain.specs.declared.types.Phase.TheVariants as phase
use Rattle.domain.specs.Domains.{Domain, Life, domains, lives, roots, roots_by}
use Rattle.domain.specs.Marks.{parked_on, released, woken, all_woken}
use Rattle.domain.specs.Phases.{FitsPhase, state_for, key_for}
use Rattle.domain.specs.Rules.{RowsGood}
use Rattle.domain.specs.Sets.{WritesNumbers}
use Rattle.domain.proofs.MarkLaws.{woken_only, released_only, woken_marks, released_marks, all_woken_at}
use Rattle.unix_model.specs.Calls.{Calls}
use Rattle.unix_model.specs.Room.{promised}
use Rattle.unix_model.specs.Rules.{IsUnix}
use Rattle.unix_model.specs.State.{Unix}
use Rattle.unix_model.specs.Tables.{at, with_at}
use Rattle.unix_model.proofs.TableLaws.{at-with_at, at-with_at-other}
use Rattle.kernel_machine.specs.Counts.{InodesCounted, DescriptionsCounted}
use Rattle.kernel_machine.specs.Good.{Good, MarksFit, ParkedGood}
use Rattle.kernel_machine.specs.Held.{AllHeld}
use Rattle.kernel_machine.specs.Machine.{KernelMachine, machine_of, inodes_of}
use Rattle.kernel_machine.specs.Marks as law
use Rattle.kernel_machine.specs.Marks.{OnlyMarks, WritesMarks, SettledButMarks, MarksFitButOn}
use Rattle.kernel_machine.specs.Processes.{SlotsGood, IsInSlot, HasMarks, HoldingsGood}
use Rattle.kernel_machine.specs.Standing.{Standing}
use Rattle.kernel_machine.specs.View.{view, process_in, processes_in, memory_in, inode_in, inodes_in, descriptions_in, file_memory}
use Rattle.kernel_machine.proofs.KeepLaws.{fixed_with_rows}
use Rattle.kernel_machine.proofs.MachineLaws.{numbers_written}
use Rattle.kernel_machine.proofs.StandingLaws.{with-numbers, is-node, good_is_both}

pub slots_are_named : law.SlotsAreNamed
slots_are_named machine good = record {
  live = λ slot root used. (good.each slot root used).live;
  own = λ slot root used. (good.each slot root used).slot_is;
  all = good.all;
}

-- ---- domains with other marks

unfoldable with_marks : (ℕ → Domain) → (ℕ → List ℕ) → ℕ → Domain
with_marks domains marks = λ root. record (at domains root) { marks = marks root }

abbrev marks_in : (ℕ → Domain) → ℕ → List ℕ
marks_in domains = λ root. (at domains root).marks

is_at : (domains : ℕ → Domain) (root : ℕ) → at domains root ≡ domains root
unfolding at
is_at domains root = refl

-- domains that are as they were but for their marks are those with other marks
so_marked : (domains now : ℕ → Domain) → OnlyMarks domains now → now ≡ with_marks domains (marks_in now)
unfolding with_marks
so_marked domains now only = fun_ext (λ root. sym (is_at now root) ∙ only root)

seen_same : (machine : KernelMachine) (marks : ℕ → List ℕ) → view (record machine { domains = with_marks machine.domains marks }) ≡ view machine
unfolding view processes_in process_in memory_in inodes_in descriptions_in inode_in file_memory at with_marks
seen_same machine marks = refl

module _ (old new : Kernel) (marked : WritesMarks old new) where
  abbrev now : KernelMachine
  now = record (machine_of old) { domains = with_marks (domains old) (marks_in (domains new)) }

  machine-now : machine_of new ≡ now
  unfolding machine_of
  machine-now = numbers_written old new marked.writes
      ∙ ap (λ (l : ℕ → Life). let m : KernelMachine = record (machine_of old) { lives = l; domains = domains new } in m) marked.lives_now
      ∙ ap (λ (d : ℕ → Domain). let m : KernelMachine = record (machine_of old) { domains = d } in m) (so_marked (domains old) (domains new) marked.only)

  seen : view (machine_of new) ≡ view (machine_of old)
  unfolding machine_of
  seen = ap view machine-now ∙ seen_same (machine_of old) (marks_in (domains new))

  -- every other field of a domain is as it was
  field_same : {X : Type 0} (field : Domain → X) → ((domain : Domain) (marks : List ℕ) → field (record domain { marks = marks }) ≡ field domain)
      → (root : ℕ) → field (at (domains new) root) ≡ field (at (domains old) root)
  field_same field same root = ap field (marked.only root) ∙ same (at (domains old) root) (at (domains new) root).marks

  live_same : (root : ℕ) → (at (domains new) root).live ≡ (at (domains old) root).live
  live_same root = field_same (λ d. d.live) (λ d m. refl) root

  space_same : (root : ℕ) → (at (domains new) root).space ≡ (at (domains old) root).space
  space_same root = field_same (λ d. d.space) (λ d m. refl) root

  buffer_same : (root : ℕ) → (at (domains new) root).buffer ≡ (at (domains old) root).buffer
  buffer_same root = field_same (λ d. d.buffer) (λ d m. refl) root

  holdings : Standing old → HoldingsGood (domains new) (forest_of old) (page_owners old)
  holdings standing = let good = standing.holdings in record {
    spaces = λ r s has. good.spaces r s (sym (space_same r) ∙ has);
    buffers = λ r page has. good.buffers r page (sym (buffer_same r) ∙ has);
    spaces_differ = λ r other s has also. good.spaces_differ r other s (sym (space_same r) ∙ has) (sym (space_same other) ∙ also);
    buffers_differ = λ r other page has also. good.buffers_differ r other page (sym (buffer_same r) ∙ has) (sym (buffer_same other) ∙ also);
  }

  held : Standing old → AllHeld (domains new) (forest_of old) (page_owners old) (inodes_of old)
  held standing = let was = standing.held in record {
    spaces = λ s is_space owned. let h = was.spaces s is_space owned in (h.0, live_same h.0 ∙ h.1, space_same h.0 ∙ h.2);
    trees = was.trees;
    buffers = λ page owned. let h = was.buffers page owned in (h.0, live_same h.0 ∙ h.1, buffer_same h.0 ∙ h.2);
    pipes = was.pipes;
  }

  standing_then : Standing old → Standing new
  standing_then standing = with-numbers old new marked.writes marked.bank marked.rows standing
      (λ r node. is-node (domain_rows old) (domain_rows new) r node (live_same r) (field_same (λ d. d.regs_node) (λ d m. refl) r) (field_same (λ d. d.descriptors_node) (λ d m. refl) r))
      (holdings standing) (held standing)

pub marks_unseen : law.MarksUnseen
marks_unseen old new marked = seen old new marked

pub standing_with_marks : law.StandingWithMarks
standing_with_marks old new marked standing = standing_then old new marked standing

-- ---- slots

fits_then : (domain : Domain) (marks : List ℕ) (phase : Phase) → FitsPhase domain phase → FitsPhase (record domain { marks = marks }) phase
fits_then domain marks phase.Run fits = record { whole = fits.whole; buffer = fits.buffer; request = fits.request; answer = fits.answer; word = fits.word; space = fits.space }
fits_then domain marks phase.Asked fits = record { whole = fits.whole; buffer = fits.buffer; request = fits.request; answer = fits.answer; word = fits.word; space = fits.space }
fits_then domain marks phase.Sent fits = record { whole = fits.whole; buffer = fits.buffer; request = fits.request; answer = fits.answer; word = fits.word; space = fits.space }
fits_then domain marks phase.Done fits = record { whole = fits.whole; buffer = fits.buffer; request = fits.request; answer = fits.answer; word = fits.word; space = fits.space }
fits_then domain marks phase.Exiting fits = record { whole = fits.whole; buffer = fits.buffer; request = fits.request; answer = fits.answer; word = fits.word; space = fits.space }
fits_then domain marks phase.Zombie fits = record { whole = fits.whole; buffer = fits.buffer; request = fits.request; answer = fits.answer; word = fits.word; space = fits.space }

-- marks that a phase may have: in any phase none, and those that stood there before
none_fit : (domain : Domain) (phase : Phase) → domain.marks ≡ replicate 3 0 → HasMarks domain phase
none_fit domain phase.Run none = none
none_fit domain phase.Asked none = none
none_fit domain phase.Sent none = tt
none_fit domain phase.Done none = none
none_fit domain phase.Exiting none = none
none_fit domain phase.Zombie none = none

same_fit : (was domain : Domain) (phase : Phase) → domain.marks ≡ was.marks → HasMarks was phase → HasMarks domain phase
same_fit was domain phase.Run same fits = same ∙ fits
same_fit was domain phase.Asked same fits = same ∙ fits
same_fit was domain phase.Sent same fits = tt
same_fit was domain phase.Done same fits = same ∙ fits
same_fit was domain phase.Exiting same fits = same ∙ fits
same_fit was domain phase.Zombie same fits = same ∙ fits

in_slot : (room : ℕ → Key) (lives : ℕ → Life) (domains now : ℕ → Domain) (slot root : ℕ) (domain : Domain) → at now root ≡ record (at domains root) { marks = domain.marks }
    → HasMarks (record (at domains root) { marks = domain.marks }) (at domains root).phase → IsInSlot room lives domains slot root → IsInSlot room lives now slot root
in_slot room lives domains now slot root domain is marks was =
    let to : Domain = record (at domains root) { marks = domain.marks } in
    let phase_is : (at now root).phase ≡ (at domains root).phase = ap (λ (d : Domain). d.phase) is in
    record {
      live = ap (λ (d : Domain). d.live) is ∙ was.live;
      slot_is = ap (λ (d : Domain). d.slot) is ∙ was.slot_is;
      state = subst (λ (p : Phase). (at lives root).state ≡ state_for p) (sym phase_is) was.state;
      key = subst (λ (p : Phase). at room slot ≡ key_for root (at lives root).count p) (sym phase_is) was.key;
      count = was.count;
      fits = subst (λ (d : Domain). FitsPhase d d.phase) (sym is) (fits_then (at domains root) domain.marks (at domains root).phase was.fits);
      marks = subst (λ (d : Domain). HasMarks d d.phase) (sym is) marks;
    }

slots_then : (roots : ℕ → Option ℕ) (room : ℕ → Key) (lives : ℕ → Life) (domains now : ℕ → Domain) → OnlyMarks domains now
    → ((slot root : ℕ) → at roots slot ≡ Some root → HasMarks (at domains root) (at domains root).phase → HasMarks (record (at domains root) { marks = (at now root).marks }) (at domains root).phase)
    → SlotsGood roots room lives domains → SlotsGood roots room lives now
slots_then roots room lives domains now only fit good = record {
  each = λ slot root used. let was = good.each slot root used in in_slot room lives domains now slot root (at now root) (only root) (fit slot root used was.marks) was;
  all = λ root live. ap (λ (d : Domain). at roots d.slot) (only root) ∙ good.all root (sym (ap (λ (d : Domain). d.live) (only root)) ∙ live);
  free = good.free;
}

-- ---- all

fit-to : (calls : Calls) (slot : ℕ) (unix to : Unix) (marks now : List ℕ) → to ≡ unix → now ≡ marks → MarksFit calls unix slot marks → MarksFit calls to slot now
fit-to calls slot unix to marks now e m fits = rw (e, m) fits

no-marks-fit : (calls : Calls) (unix : Unix) (slot : ℕ) → MarksFit calls unix slot (replicate 3 0)
no-marks-fit calls unix slot = record {
  few = λ some. absurd (some refl);
  blocked = λ one input. let no : 0 ≡ 1 = one in cc;
  on = λ process sent one. let no : 0 ≡ 1 = one in cc;
  unset = λ none. refl;
  unused = refl;
}

-- marks that fit in the flat state as it was fit in the one that it is, since that is the same
parked-then : (calls : Calls) (old new : Kernel) (marked : WritesMarks old new)
    → ((slot root : ℕ) → at (roots old) slot ≡ Some root → MarksFit calls (view (machine_of old)) slot (at (domains new) root).marks) → ParkedGood calls (machine_of new)
unfolding machine_of ParkedGood
parked-then calls old new marked fits slot root used =
    fit-to calls slot (view (machine_of old)) (view (machine_of new)) (at (domains new) root).marks (at (domains new) root).marks (seen old new marked) refl
    (fits slot root (ap (λ (r : ℕ → Option ℕ). at r slot) (sym (ap roots_by marked.writes.fixed_now)) ∙ used))

module _ (calls : Calls) (old new : Kernel) (marked : WritesMarks old new) (standing : Standing old) (settled : SettledButMarks calls old) where
  abbrev was : KernelMachine
  was = machine_of old

  all-good : ((slot root : ℕ) → at (roots old) slot ≡ Some root → HasMarks (at (domains old) root) (at (domains old) root).phase
      → HasMarks (record (at (domains old) root) { marks = (at (domains new) root).marks }) (at (domains old) root).phase)
      → ((slot root : ℕ) → at (roots old) slot ≡ Some root → MarksFit calls (view was) slot (at (domains new) root).marks) → Good calls new
  unfolding machine_of with_marks inodes_in descriptions_in inode_in file_memory memory_in view processes_in ParkedGood
  all-good fit fits =
      let e = machine-now old new marked in
      let same = seen old new marked in
      (good_is_both calls new).1 (
        standing_then old new marked standing,
        record {
          fixed = fixed_with_rows old new standing.bank marked.bank marked.writes.fixed_now settled.fixed;
          slots = subst (λ (m : KernelMachine). SlotsGood m.roots m.room m.lives m.domains) (sym e)
              (subst (λ (d : ℕ → Domain). SlotsGood was.roots was.room was.lives d) (so_marked (domains old) (domains new) marked.only)
              (slots_then was.roots was.room was.lives (domains old) (domains new) marked.only fit settled.slots));
          inodes_counted = subst (λ (m : KernelMachine). InodesCounted m.inodes (inodes_in m) (descriptions_in m)) (sym e) settled.inodes_counted;
          descriptions_counted = subst (λ (m : KernelMachine). DescriptionsCounted m.descriptions (processes_in m)) (sym e)
              (subst (λ (u : Unix). DescriptionsCounted was.descriptions u.processes) (sym (seen_same was (marks_in (domains new)))) settled.descriptions_counted);
          promises = ap (λ (k : Kernel). k.machine.promised) marked.writes.rest ∙ settled.promises ∙ ap promised (sym same);
          unix = subst (IsUnix calls) (sym same) settled.unix;
          parked = parked-then calls old new marked fits;
        },
      )

-- ---- all are woken

-- the marks that a domain has now fit its phase
abbrev PhaseFits : Domain → List ℕ → Type 0
PhaseFits domain marks = HasMarks (record domain { marks = marks }) domain.phase

phase_none : (domain : Domain) → PhaseFits domain (replicate 3 0)
phase_none domain = none_fit (record domain { marks = replicate 3 0 }) domain.phase refl

phase_same : (domain : Domain) → HasMarks domain domain.phase → PhaseFits domain domain.marks
phase_same domain fits = same_fit domain (record domain { marks = domain.marks }) domain.phase refl fits

woken-fits : (word : ℕ) (domain : Domain) → HasMarks domain domain.phase → PhaseFits domain (woken word domain).marks
woken-fits word domain fit = woken_marks word domain (PhaseFits domain) (λ parked. phase_none domain) (λ apart. phase_same domain fit)

pub woken-only : (word : ℕ) (domains : ℕ → Domain) → OnlyMarks domains (all_woken word domains)
woken-only word domains root = all_woken_at word domains root ∙ woken_only word (at domains root)
    ∙ ap (λ (d : Domain). let now : Domain = record (at domains root) { marks = d.marks } in now) (sym (all_woken_at word domains root))

-- a domain in its slot stays in it where all are woken
pub woken-in-slot : (room : ℕ → Key) (lives : ℕ → Life) (domains : ℕ → Domain) (word slot root : ℕ) → IsInSlot room lives domains slot root → IsInSlot room lives (all_woken word domains) slot root
woken-in-slot room lives domains word slot root was =
    in_slot room lives domains (all_woken word domains) slot root (at (all_woken word domains) root) (woken-only word domains root)
    (subst (λ (d : Domain). PhaseFits (at domains root) d.marks) (sym (all_woken_at word domains root)) (woken-fits word (at domains root) was.marks)) was

module _ (old new : Kernel) (word : ℕ) (writes : WritesNumbers old new) (lived : lives new ≡ lives old) (is : domains new ≡ all_woken word (domains old))
    (bank : BankGood new) (rows : RowsGood (domain_rows new)) where
  marks-woken : (root : ℕ) → (at (domains new) root).marks ≡ (woken word (at (domains old) root)).marks
  marks-woken root = ap (λ (d : ℕ → Domain). (at d root).marks) is ∙ ap (λ (d : Domain). d.marks) (all_woken_at word (domains old) root)

  wake-writes : WritesMarks old new
  wake-writes = record {
    writes = writes;
    lives_now = lived;
    only = λ root. ap (λ (d : ℕ → Domain). at d root) is ∙ woken-only word (domains old) root
        ∙ ap (λ (d : ℕ → Domain). let now : Domain = record (at (domains old) root) { marks = (at d root).marks } in now) (sym is);
    bank = bank;
    rows = rows;
  }

  wake-fits : (calls : Calls) → MarksFitButOn calls (machine_of old) word → (slot root : ℕ) → at (roots old) slot ≡ Some root → MarksFit calls (view (machine_of old)) slot (at (domains new) root).marks
  unfolding machine_of
  wake-fits calls fits slot root used = subst (MarksFit calls (view (machine_of old)) slot) (sym (marks-woken root))
      (woken_marks word (at (domains old) root) (MarksFit calls (view (machine_of old)) slot) (λ parked. no-marks-fit calls (view (machine_of old)) slot) (λ apart. fits slot root used apart))

pub parked_with_wake : law.ParkedWithWake
parked_with_wake calls old new word writes lived is bank rows fits =
    parked-then calls old new (wake-writes old new word writes lived is bank rows) (wake-fits old new word writes lived is bank rows calls fits)

pub good_with_wake : law.GoodWithWake
good_with_wake calls old new word writes lived is bank rows standing settled fits =
    all-good calls old new (wake-writes old new word writes lived is bank rows) standing settled
    (λ slot root used fit. subst (PhaseFits (at (domains old) root)) (sym (marks-woken old new word writes lived is bank rows root)) (woken-fits word (at (domains old) root) fit))
    (wake-fits old new word writes lived is bank rows calls fits)

-- ---- one domain has other marks

one_here : (domains : ℕ → Domain) (root : ℕ) (domain : Domain) (P : ℕ → Domain → Type 0) → P root domain → (other : ℕ) → (other ≢ root → P other (at domains other)) → P other (at (with_at domains root domain) other)
one_here domains root domain P now other before = ⊎_elim
    (λ (e : other ≡ root). subst (λ n. P n (at (with_at domains root domain) n)) (sym e) (subst (P root) (sym (at-with_at domains root domain)) now))
    (λ (d : other ≢ root). subst (P other) (sym (at-with_at-other domains root other domain d)) (before d))
    (cases_eq other root)

module _ (calls : Calls) (old new : Kernel) (slot root : ℕ) (domain : Domain) (writes : WritesNumbers old new) (lived : lives new ≡ lives old)
    (used : at (roots old) slot ≡ Some root) (is : domains new ≡ with_at (domains old) root domain) (only : domain ≡ record (at (domains old) root) { marks = domain.marks })
    (bank : BankGood new) (rows : RowsGood (domain_rows new)) (standing : Standing old) (settled : SettledButMarks calls old)
    (phased : HasMarks (at (domains old) root) (at (domains old) root).phase → PhaseFits (at (domains old) root) domain.marks)
    (fitted : MarksFit calls (view (machine_of old)) slot domain.marks)
    (others : (other held : ℕ) → at (roots old) other ≡ Some held → other ≢ slot → MarksFit calls (view (machine_of old)) other (at (domains old) held).marks) where
  now-at : (P : ℕ → Domain → Type 0) → P root domain → (other : ℕ) → (other ≢ root → P other (at (domains old) other)) → P other (at (domains new) other)
  now-at P now other before = subst (λ (d : ℕ → Domain). P other (at d other)) (sym is) (one_here (domains old) root domain P now other before)

  one_writes : WritesMarks old new
  one_writes = record {
    writes = writes;
    lives_now = lived;
    only = λ other. now-at (λ r d. d ≡ record (at (domains old) r) { marks = d.marks }) only other (λ apart. refl);
    bank = bank;
    rows = rows;
  }

  -- no two slots have one root
  same_slot : (other : ℕ) → at (roots old) other ≡ Some root → other ≡ slot
  unfolding machine_of
  same_slot other held = sym (settled.slots.each other root held).slot_is ∙ (settled.slots.each slot root used).slot_is

  one_good : Good calls new
  one_good = all-good calls old new one_writes standing settled
      (λ other held there fit. now-at (λ r d. HasMarks (at (domains old) r) (at (domains old) r).phase → PhaseFits (at (domains old) r) d.marks) phased held (λ apart. phase_same (at (domains old) held)) fit)
      (λ other held there. now-at (λ r d. at (roots old) other ≡ Some r → MarksFit calls (view (machine_of old)) other d.marks)
      (λ here. subst (λ s. MarksFit calls (view (machine_of old)) s domain.marks) (sym (same_slot other here)) fitted) held
      (λ apart here. others other held here (λ e. apart (let same : Some held ≡ Some root = sym here ∙ ap (at (roots old)) e ∙ used in let r : held ≡ root = cc in r))) there)

pub good_with_wake_of_slot : law.GoodWithWakeOfSlot
unfolding machine_of
good_with_wake_of_slot calls old new slot root writes lived used is bank rows standing settled fits =
    let was : Domain = at (domains old) root in
    one_good calls old new slot root (released was) writes lived used is (released_only was) bank rows standing settled
    (λ fit. released_marks was (PhaseFits was) (λ parked. phase_none was) (λ apart. phase_same was fit))
    (released_marks was (MarksFit calls (view (machine_of old)) slot) (λ parked. no-marks-fit calls (view (machine_of old)) slot) (λ apart. fits slot root used (λ e. apart)))
    (λ other held there apart. fits other held there (λ e. absurd (apart e)))

pub good_with_park : law.GoodWithPark
unfolding machine_of
good_with_park calls old new slot root word writes lived used sent is bank rows blocked waits standing settled fits =
    let was : Domain = at (domains old) root in
    one_good calls old new slot root (parked_on word was) writes lived used is refl bank rows standing settled
    (λ fit. subst (HasMarks (parked_on word was)) (sym sent) tt)
    (record {
      few = λ some. refl;
      blocked = λ one. blocked;
      on = λ process call one there phased. waits process call there phased;
      unset = λ none. let no : 1 ≡ 0 = none in cc;
      unused = refl;
    })
    fits
