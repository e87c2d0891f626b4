-- All that holds between turns holds once the first process is made.
use Rattle.std.proofs.Common.{◌≡◌, ◌≢◌, ◌⊎◌, ◌<◌, ◌≤◌, ◌%◌, ℕ, Option, Some, None, true, false, List, [], replicate, if◌then◌else◌, refl, sym, ap, subst, ◌∙◌, arith, ⊎_elim, inl, inr}
use Rattle.std.specs.Option.{IsSome, is_some}
use Rattle.std.specs.List.{count_by}
use Rattle.std.specs.Prelude.{◌==◌}
use Rattle.std.proofs.Math.Path.{fun_ext}
use Rattle.std.proofs.lemmas.Bool.{cases_lt}
use Rattle.std.proofs.lemmas.List.{length-replicate, get_or-replicate, get_or_past}
use Rattle.std.proofs.lemmas.List.Elements.{All-replicate}
use Rattle.kn_base.specs.declared.key.Key.TheVariants.{Null}
use Rattle.kernel_tables.specs.declared.inode.Inode.{Inode}
use Rattle.kernel_tables.specs.declared.inode.InodeKind.TheVariants.{Dir, Pipe, Console}
use Rattle.kernel_tables.specs.declared.description.Description.{Description}
use Rattle.kernel_tables.specs.declared.row.Row.{Row}
use Rattle.kernel_tables.specs.Kernel.{Kernel, first_page, memory_page}
use Rattle.kernel_tables.specs.Rows.{fixed_rows}
use Rattle.space_bank.specs.Fixed.{UnusedGood, console_inode, empty_root}
use Rattle.file_tables.specs.Roots.{named_by}
use Rattle.file_tables.specs.Rows.{InodesGood, DescriptionsGood}
use Rattle.file_tables.proofs.FreshLaws.{fresh_good}
use Rattle.forest.specs.Forest.{Forest, IsSpace}
use Rattle.forest.specs.Objects.{NodeObject, OfProcess, OfFile}
use Rattle.forest.specs.Walks.{place_of}
use Rattle.kernel_forest.specs.Owners.{page_owner_of}
use Rattle.kernel_forest.specs.Trees.{forest_of, outside_trees}
use Rattle.unix_model.specs.Boot.{empty_machine, first_inodes}
use Rattle.unix_model.specs.Calls.{Calls}
use Rattle.unix_model.specs.Files as model
use Rattle.unix_model.specs.Files.{links, entry_names, places_of, description_names, inode_pages}
use Rattle.unix_model.specs.Process.{descriptor}
use Rattle.unix_model.specs.Room.{promised}
use Rattle.unix_model.specs.Limits.{loads_end}
use Rattle.unix_model.specs.Rules.{AreSizes, IsUnix, IsWord}
use Rattle.unix_model.specs.State.{Unix}
use Rattle.unix_model.specs.Tables.{at, with_at, nothing, sum_below}
use Rattle.unix_model.proofs.CountLaws.{mapped-nothing}
use Rattle.unix_model.proofs.RoomLaws.{promised-put, slots-nothing, inodes-nothing, inodes-put}
use Rattle.unix_model.proofs.TableLaws.{at-with_at}
use Rattle.unix_laws.proofs.Basics.{some-same}
use Rattle.unix_laws.proofs.Counting.{sum-zero}
use Rattle.unix_rules.specs.WholeRules.{IsAlone}
use Rattle.unix_rules.proofs.Boot.{alone_is_unix, first-places, none-there, nothing-some}
use Rattle.unix_rules.proofs.Changed.{put-reads}
use Rattle.domain.specs.declared.types.Phase.TheVariants.{Run as Running}
use Rattle.domain.specs.Phases.{FitsPhase, state_for, key_for}
use Rattle.domain.specs.Domains.{Domain, Life, no_domain, domains, lives, roots}
use Rattle.domain.specs.Slots.{room_of}
use Rattle.kernel_machine.specs.Counts.{InodesCounted, DescriptionsCounted, opens}
use Rattle.kernel_machine.specs.Good.{Good, MachineGood, MarksFit, ParkedGood}
use Rattle.kernel_machine.specs.Held.{AllHeld}
use Rattle.kernel_machine.specs.Machine.{machine_of, inodes_of, descriptions_of}
use Rattle.kernel_machine.specs.Processes.{HasMarks, IsInSlot, SlotsGood, HoldingsGood}
use Rattle.kernel_machine.specs.Trees.{IsRootOf, RootsGood, KeepersGood, keeper}
use Rattle.kernel_machine.specs.View.{view, inodes_in, descriptions_in, processes_in}
use Rattle.kernel_machine.proofs.Counting.{count-never}
use Rattle.kernel_machine.proofs.UntakenLaws.{no-owner, no-page-outside, no-some}
use Rattle.first_machine.specs.First.{blank_process, blank_machine, IsFirst}
use Rattle.first_machine.proofs.Made as made
use Rattle.first_machine.proofs.Made.{Makes}
use Rattle.first_machine.proofs.Seen.{inodes-there, no-descriptions-there, inodes-seen, descriptions-seen, view-now}
use Rattle.first_machine.proofs.Tables.{one-promised, pages-are, quantum-is, trees-good}

-- ---- the flat state

no-descriptor : (number : ℕ) → descriptor blank_process number ≡ None
no-descriptor number = ⊎_elim
    (λ (t : number < 32). get_or-replicate {A = Option ℕ} 32 number None None t)
    (λ (t : 32 ≤ number). get_or_past (replicate 32 None) number None (omega (arith, length-replicate {A = Option ℕ} 32 None)))
    (cases_lt number 32)

blank-alone : IsAlone blank_process
unfolding loads_end
blank-alone =
    record {
      is = record {
        registers = record { count = length-replicate {A = ℕ} 32 0; words = All-replicate IsWord 32 0 (omega arith); zero_is_zero = refl; pc_word = omega arith; pc_aligned = refl };
        memory = record { end = λ number past. none-there number; pages = λ number page there. absurd (nothing-some number page there) };
        break = record { start_aligned = refl; order = omega arith; limit = omega arith };
        descriptors = length-replicate {A = Option ℕ} 32 None;
        phase = tt;
      };
      runs = refl;
      pid = refl;
      parent = refl;
      closed = no-descriptor;
    }

-- nothing names an inode but the root itself, and nothing is open
links-first : (number : ℕ) → links first_inodes number ≡ (if number == 1 then 1 else 0)
unfolding links
links-first number =
    let none : sum_below (λ n. count_by (entry_names number) (places_of (at first_inodes n))) 1024 ≡ 0 =
    ap (λ (f : ℕ → ℕ). sum_below f 1024) (fun_ext (λ n. ap (count_by (entry_names number)) (first-places n))) ∙ sum-zero 1024 in
    omega (arith, none)

opens-none : (number : ℕ) → opens nothing number ≡ 0
unfolding opens at nothing
opens-none number = count-never (λ n. description_names number (at nothing n)) 2048 (λ n below. refl)

-- one page is promised
free-first : (pages quantum : ℕ) → at (empty_machine pages quantum).processes 0 ≡ None
unfolding empty_machine
free-first pages quantum = none-there 0

empty-promised : (pages quantum : ℕ) → promised (record (empty_machine pages quantum) { next_pid = 2 }) ≡ 0
unfolding promised empty_machine first_inodes
empty-promised pages quantum =
    omega (arith, slots-nothing, inodes-nothing, inodes-put nothing 0 (Some model.Console) (omega arith), inodes-put (with_at nothing 0 (Some model.Console)) 1 (Some (model.Directory 1 [])) (omega arith))

blank-promised : (pages quantum : ℕ) → promised (blank_machine pages quantum) ≡ 1
blank-promised pages quantum =
    promised-put (record (empty_machine pages quantum) { next_pid = 2 }) 0 blank_process (omega arith) (free-first pages quantum)
    ∙ omega (arith, empty-promised pages quantum, mapped-nothing)

fits-marks : (calls : Calls) (unix : Unix) (slot : ℕ) → MarksFit calls unix slot (replicate 3 0)
fits-marks calls unix slot =
    record {
      few = λ some. absurd (some refl);
      blocked = λ parked. absurd (let no : 0 ≡ 1 = parked in omega arith);
      on = λ process sent parked. absurd (let no : 0 ≡ 1 = parked in omega arith);
      unset = λ none. refl;
      unused = refl;
    }

module _ (pages quantum : ℕ) (k0 k1 k2 k3 : Kernel) (space root : ℕ) (m : Makes pages quantum k0 k1 k2 k3 space root) where
  abbrev mine : Domain
  mine = made.first pages quantum k0 k1 k2 k3 space root m

  here : at (domains k3) root ≡ mine
  here = made.domain-here pages quantum k0 k1 k2 k3 space root m

  there : (other : ℕ) → other ≢ root → at (domains k3) other ≡ no_domain
  there = made.domain-there pages quantum k0 k1 k2 k3 space root m

  only : (P : Domain → Type 0) (other : ℕ) → (P no_domain → ⊥) → P (at (domains k3) other) → other ≡ root
  only = made.only-root pages quantum k0 k1 k2 k3 space root m

  live : (at (domains k3) root).live ≡ true
  live = ap (λ (domain : Domain). domain.live) here

  -- ---- slots

  fits : FitsPhase (at (domains k3) root) (at (domains k3) root).phase
  fits = subst (λ (domain : Domain). FitsPhase domain domain.phase) (sym here) first-fits
    where
      first-fits : FitsPhase mine Running
      first-fits = record { whole = refl; buffer = refl; request = refl; answer = refl; word = refl; space = refl }

  marks-first : HasMarks mine Running
  marks-first = refl

  room : (slot : ℕ) → slot < 64 → at (room_of (fixed_rows k3)) slot ≡ Null
  unfolding room_of at
  room slot low = made.room-now pages quantum k0 k1 k2 k3 space root m slot low

  in-slot : IsInSlot (room_of (fixed_rows k3)) (lives k3) (domains k3) 0 root
  in-slot =
      let life = made.life-here pages quantum k0 k1 k2 k3 space root m in
      record {
        live = live;
        slot_is = ap (λ (domain : Domain). domain.slot) here;
        state = ap (λ (l : Life). l.state) life ∙ sym (ap (λ (domain : Domain). state_for domain.phase) here);
        key = room 0 (omega arith) ∙ sym (ap (λ (domain : Domain). key_for root (at (lives k3) root).count domain.phase) here);
        count = omega (arith, ap (λ (l : Life). l.count) life);
        fits = fits;
        marks = subst (λ (domain : Domain). HasMarks domain domain.phase) (sym here) marks-first;
      }

  slots-good : SlotsGood (roots k3) (room_of (fixed_rows k3)) (lives k3) (domains k3)
  slots-good =
      record {
        each = λ slot other e.
            let is = made.root-of pages quantum k0 k1 k2 k3 space root m slot other e in
            subst (λ s. IsInSlot (room_of (fixed_rows k3)) (lives k3) (domains k3) s other) (sym is.0)
            (subst (λ r. IsInSlot (room_of (fixed_rows k3)) (lives k3) (domains k3) 0 r) (sym is.1) in-slot);
        all = λ other lives_so.
            let is : other ≡ root = only (λ domain. domain.live ≡ true) other (λ h. let no : false ≡ true = h in cc) lives_so in
            subst (λ r. at (roots k3) (at (domains k3) r).slot ≡ Some r) (sym is)
            (ap (λ (domain : Domain). at (roots k3) domain.slot) here ∙ ap (λ (table : ℕ → Option ℕ). at table 0) (made.roots-now pages quantum k0 k1 k2 k3 space root m) ∙ at-with_at nothing 0 (Some root));
        free = λ slot low none. room slot low;
      }

  -- ---- what is held

  space-good : IsSpace (forest_of k3) [] space × ((forest_of k3).owner (NodeObject space) ≡ Some OfProcess)
  space-good =
      subst (λ (forest : Forest). IsSpace forest [] space × (forest.owner (NodeObject space) ≡ Some OfProcess)) (sym (made.forest-now pages quantum k0 k1 k2 k3 space root m))
      ((m.adds.adds _ (trees-good pages quantum k0 m.begins)).1.is_space, m.adds.owned)

  only-space : (node : ℕ) → IsSome ((forest_of k3).owner (NodeObject node)) → node ≡ space
  only-space node some =
      made.only-space pages quantum k0 k1 space m.begins m.adds m.good1 node
      (subst (λ (forest : Forest). IsSome (forest.owner (NodeObject node))) (made.forest-now pages quantum k0 k1 k2 k3 space root m) some)

  no-file : {P : Type 0} (node : ℕ) → (forest_of k3).owner (NodeObject node) ≡ Some OfFile → P
  no-file node owner =
      let same : node ≡ space = only-space node (ap is_some owner) in
      let no : Some OfFile ≡ Some OfProcess = sym owner ∙ ap (λ n. (forest_of k3).owner (NodeObject n)) same ∙ space-good.1 in cc

  has-space : (other held : ℕ) → (at (domains k3) other).space ≡ Some held → (other ≡ root) × (space ≡ held)
  has-space other held has =
      let is : other ≡ root = only (λ domain. domain.space ≡ Some held) other (λ h. let no : None ≡ Some held = h in cc) has in
      (is, some-same space held (sym (ap (λ (domain : Domain). domain.space) here) ∙ ap (λ r. (at (domains k3) r).space) (sym is) ∙ has))

  no-buffer : {P : Type 0} (other page : ℕ) → (at (domains k3) other).buffer ≡ Some page → P
  no-buffer other page has =
      let is : other ≡ root = only (λ domain. domain.buffer ≡ Some page) other (λ h. let no : None ≡ Some page = h in cc) has in
      no-some page (at (domains k3) root).buffer (ap (λ (domain : Domain). domain.buffer) here) (ap (λ r. (at (domains k3) r).buffer) (sym is) ∙ has)

  holdings-good : HoldingsGood (domains k3) (forest_of k3) (page_owner_of (first_page k3.size) k3.page_entries)
  holdings-good =
      record {
        spaces = λ other held has. subst (λ n. IsSpace (forest_of k3) [] n × ((forest_of k3).owner (NodeObject n) ≡ Some OfProcess)) (has-space other held has).1 space-good;
        buffers = λ other page has. no-buffer other page has;
        spaces_differ = λ one two held has also. (has-space one held has).0 ∙ sym (has-space two held also).0;
        buffers_differ = λ one two page has also. no-buffer one page has;
      }

  all-held : AllHeld (domains k3) (forest_of k3) (page_owner_of (first_page k3.size) k3.page_entries) (inodes_of k3)
  all-held =
      let no_page = made.no-page-now pages quantum k0 k1 k2 k3 space root m in
      record {
        spaces = λ held is owner. (root, live, ap (λ (domain : Domain). domain.space) here ∙ ap Some (sym (only-space held (ap is_some owner))));
        trees = λ held is owner. no-file held owner;
        buffers = λ page owned. no-some _ (at (page_owner_of (first_page k3.size) k3.page_entries) page) (no-owner k3 m.good3 no_page page) owned;
        pipes = λ page owned. no-some _ (at (page_owner_of (first_page k3.size) k3.page_entries) page) (no-owner k3 m.good3 no_page page) owned;
      }

  keepers-good : KeepersGood (forest_of k3)
  keepers-good =
      record {
        of_process = λ held is owner.
            subst (λ n. at (forest_of k3).keys (place_of n 15) ≡ keeper) (sym (only-space held (ap is_some owner)))
            (ap (λ (forest : Forest). at forest.keys (place_of space 15)) (made.forest-now pages quantum k0 k1 k2 k3 space root m) ∙ m.adds.its_keeper);
        of_file = λ held is owner. no-file held owner;
      }

  -- ---- files

  which : (number : ℕ) (inode : Inode) → at (inodes_of k3) number ≡ Some inode → ((number ≡ 1) × (empty_root ≡ inode)) ⊎ ((number ≡ 0) × (console_inode ≡ inode))
  which number inode found =
      by_root (put-reads (with_at nothing 0 (Some console_inode)) 1 number empty_root inode
      (ap (λ (table : ℕ → Option Inode). at table number) (sym (inodes-there pages quantum k0 k1 k2 k3 space root m)) ∙ found))
    where
      by_console : ((number ≡ 0) × (console_inode ≡ inode)) ⊎ ((number ≢ 0) × (at nothing number ≡ Some inode)) → ((number ≡ 1) × (empty_root ≡ inode)) ⊎ ((number ≡ 0) × (console_inode ≡ inode))
      by_console (inl own) = inr own
      by_console (inr other) = absurd (nothing-some number inode other.1)

      by_root : ((number ≡ 1) × (empty_root ≡ inode)) ⊎ ((number ≢ 1) × (at (with_at nothing 0 (Some console_inode)) number ≡ Some inode))
          → ((number ≡ 1) × (empty_root ≡ inode)) ⊎ ((number ≡ 0) × (console_inode ≡ inode))
      by_root (inl own) = inl own
      by_root (inr other) = by_console (put-reads nothing 0 number console_inode inode other.1)

  -- what holds of the root and of the console holds of each inode
  each-inode : (P : ℕ → Inode → Type 0) → P 1 empty_root → P 0 console_inode → (number : ℕ) (inode : Inode) → at (inodes_of k3) number ≡ Some inode → P number inode
  each-inode P of_root of_console number inode found = by_which (which number inode found)
    where
      by_which : ((number ≡ 1) × (empty_root ≡ inode)) ⊎ ((number ≡ 0) × (console_inode ≡ inode)) → P number inode
      by_which (inl own) = subst (λ n. P n inode) (sym own.0) (subst (λ i. P 1 i) own.1 of_root)
      by_which (inr own) = subst (λ n. P n inode) (sym own.0) (subst (λ i. P 0 i) own.1 of_console)

  roots-good : RootsGood (forest_of k3) (memory_page k3) (page_owner_of (first_page k3.size) k3.page_entries) (inodes_of k3)
  roots-good =
      record {
        each = each-inode (λ number inode. IsRootOf (forest_of k3) (memory_page k3) (page_owner_of (first_page k3.size) k3.page_entries) inode inode.kind) (λ some. absurd (some refl)) tt;
        trees_differ = λ number other inode second found also tree too some. absurd (some (each-inode (λ n i. i.root ≡ 0) refl refl number inode found));
        pipes_differ = λ number other inode second found also pipe.
            absurd (each-inode (λ n i. i.kind ≡ Pipe → ⊥) (λ e. let no : Dir ≡ Pipe = e in cc) (λ e. let no : Console ≡ Pipe = e in cc) number inode found pipe);
      }

  inodes-counted : InodesCounted (inodes_of k3) (inodes_in (machine_of k3)) (descriptions_in (machine_of k3))
  inodes-counted =
      let seen = inodes-seen pages quantum k0 k1 k2 k3 space root m in
      let none = descriptions-seen pages quantum k0 k1 k2 k3 space root m in
      record {
        entries = λ number inode found.
            each-inode (λ n i. i.entries ≡ (if n == 1 then 1 else 0)) refl refl number inode found
            ∙ sym (ap (λ (table : ℕ → Option model.Inode). links table number) seen ∙ links-first number);
        opened = λ number inode found.
            each-inode (λ n i. i.opens ≡ 0) refl refl number inode found
            ∙ sym (ap (λ (table : ℕ → Option model.Description). opens table number) none ∙ opens-none number);
      }

  descriptions-counted : DescriptionsCounted (descriptions_of k3) (processes_in (machine_of k3))
  descriptions-counted = λ number description found.
      absurd (nothing-some number description (ap (λ (table : ℕ → Option Description). at table number) (sym (no-descriptions-there pages quantum k0 k1 k2 k3 space root m)) ∙ found))

  -- ---- all

  parked-good : (calls : Calls) → ParkedGood calls (machine_of k3)
  unfolding ParkedGood machine_of
  parked-good calls = λ slot other e.
      let is = made.root-of pages quantum k0 k1 k2 k3 space root m slot other e in
      subst (λ (marks : List ℕ). MarksFit calls (view (machine_of k3)) slot marks)
      (sym (ap (λ r. (at (domains k3) r).marks) is.1 ∙ ap (λ (domain : Domain). domain.marks) here)) (fits-marks calls (view (machine_of k3)) slot)

  one-promised-now : k3.machine.promised ≡ 1
  one-promised-now = ap (λ (k : Kernel). k.machine.promised) (made.rest-now pages quantum k0 k1 k2 k3 space root m) ∙ one-promised pages quantum k0 m.begins

  sizes : AreSizes pages quantum 0
  sizes =
      let bank = m.begins.good in
      let size : pages ≡ k0.size = sym (pages-are pages quantum k0 m.begins) ∙ bank.words.same_size in
      let turns = quantum-is pages quantum k0 m.begins in
      record {
        least = omega (arith, size, bank.sized.least);
        most = omega (arith, size, bank.sized.most);
        whole = ap (λ n. n % 64) size ∙ bank.sized.multiple;
        some_turns = omega (arith, turns, bank.words.least_quantum);
        few_turns = omega (arith, turns, bank.words.most_quantum);
        round = omega (arith, turns, bank.words.least_quantum);
      }

  machine-good : (calls : Calls) → MachineGood calls (machine_of k3)
  unfolding machine_of
  machine-good calls =
      let seen = view-now pages quantum k0 k1 k2 k3 space root m in
      record {
        slots = slots-good;
        holdings = holdings-good;
        roots = roots-good;
        keepers = keepers-good;
        held = all-held;
        inodes_counted = inodes-counted;
        descriptions_counted = descriptions-counted;
        promises = one-promised-now ∙ sym (ap promised seen ∙ blank-promised pages quantum);
        unix = subst (IsUnix calls) (sym seen) (alone_is_unix calls pages quantum blank_process sizes blank-alone);
        parked = parked-good calls;
      }

  good-now : (calls : Calls) → Good calls k3
  good-now calls =
      let rest = made.rest-now pages quantum k0 k1 k2 k3 space root m in
      let files = fresh_good k0.inodes k0.descriptions m.begins.files in
      record {
        bank = m.good3;
        whole = made.whole-now pages quantum k0 k1 k2 k3 space root m;
        unused = subst (λ (k : Kernel). UnusedGood k.page_zero k.other_words) (sym rest) m.begins.unused;
        fixed = made.fixed-now pages quantum k0 k1 k2 k3 space root m;
        trees = made.trees-now pages quantum k0 k1 k2 k3 space root m;
        pages_inside = no-page-outside k3 m.good3 (made.no-page-now pages quantum k0 k1 k2 k3 space root m) (outside_trees k3 (named_by k3.inodes));
        filled = made.filled-now pages quantum k0 k1 k2 k3 space root m;
        rows = m.rows3;
        nodes_held = made.nodes-held-now pages quantum k0 k1 k2 k3 space root m;
        inodes = subst (λ (rows : List (Row Inode)). InodesGood rows) (sym (made.inodes-now pages quantum k0 k1 k2 k3 space root m)) files.0;
        descriptions = subst (λ (rows : List (Row Description)). DescriptionsGood rows) (sym (made.descriptions-now pages quantum k0 k1 k2 k3 space root m)) files.1;
        machine = machine-good calls;
      }

  pub first-now : IsFirst pages quantum k3
  first-now =
      record {
        good = good-now;
        view = view-now pages quantum k0 k1 k2 k3 space root m;
        promised = one-promised-now;
        untaken = made.no-page-now pages quantum k0 k1 k2 k3 space root m;
      }
