-- Boot gives all rules, and every turn keeps them.
use Rattle.std.proofs.Common.{◌≡◌, ◌≢◌, ◌⊎◌, ℕ, ◌<◌, ◌≤◌, false, List, [], ◌∷◌, Option, Some, None, Result, Ok, arith, refl, sym, subst, ap, ◌∙◌, inl, inr, get_or, length}
use Rattle.std.proofs.lemmas.Bool.Decides.{nat_tests}
use Rattle.std.proofs.lemmas.List.Elements.{All-cons, All-nil, All-weaker}
use Rattle.std.specs.Option.{option_and_then}
use Rattle.std.specs.Prelude.{All, IsSome, is_some, ◌==◌}
use Rattle.unix_model.specs.declared.calls.Errno.{Errno}
use Rattle.unix_model.specs.Boot.{Node, NewDirectory, NewFile, console_description, empty_machine, first_inodes, first_process, init_arguments, init_path, is_too_long, node_inode, started}
use Rattle.unix_model.specs.Calls.{Calls}
use Rattle.unix_model.specs.Elf.{LoadPlan, plan_of}
use Rattle.unix_model.specs.Files.{Console, Description, Directory, Entry, Files, Inode, console_inode, file_bytes, is_directory, parent_of, places_of, root_inode}
use Rattle.unix_model.specs.Limits.{most_file_bytes, most_places}
use Rattle.unix_model.specs.NameCalls.{with_made}
use Rattle.unix_model.specs.Paths.{Spot, file_at, spot_inode, walked}
use Rattle.unix_model.specs.Process.{Process, Phase, Run, Asked, Sent, Done, Exiting, Zombie, descriptor}
use Rattle.unix_model.specs.Rules.{AreInodes, AreSlots, IsByte, IsDescription, IsInode, IsPhase, IsProcess, IsUnix, AreSent, entry_at}
use Rattle.unix_model.specs.State.{Unix}
use Rattle.unix_model.specs.Tables.{at, nothing, with_at}
use Rattle.unix_model.specs.Turn.{turned}
use Rattle.unix_model.proofs.TableLaws.{at-with_at, at-with_at-other}
use Rattle.unix_laws.proofs.Basics.{apart-is, some-differ, true-false}
use Rattle.unix_laws.proofs.BootRuled.{boot_gives_rules}
use Rattle.unix_laws.proofs.BootSteps.{KeepsSuch, Starts, after-such}
use Rattle.unix_laws.proofs.Changes.{Making}
use Rattle.unix_laws.proofs.DescriptorsKeep.{descriptors_kept, slots_have_descriptors}
use Rattle.unix_laws.proofs.OpenTurns.{open_kept}
use Rattle.unix_laws.proofs.SentKeep.{sent_kept}
use Rattle.unix_laws.proofs.SizesKeep.{sizes_kept}
use Rattle.unix_laws.specs.RuleLaws.{BootRules, HaveDescriptors}
use Rattle.unix_rules.proofs.Bodies.{bodies_kept, bytes-of}
use Rattle.unix_rules.proofs.Changed.{put-reads}
use Rattle.unix_rules.proofs.FileTurns.{directory-new, file-new, files_kept, from-ruled, none-of}
use Rattle.unix_rules.proofs.Image.{IsLoaded, image-is, plan-is, registers-are}
use Rattle.unix_rules.proofs.Kin.{kin_kept}
use Rattle.unix_rules.proofs.Living.{RuledAll}
use Rattle.unix_rules.proofs.Phases.{phases_kept}
use Rattle.unix_rules.proofs.Steps.{lives-more, open-ruled}
use Rattle.unix_rules.proofs.Texts.{IsTextByte}
use Rattle.unix_rules.proofs.Trees.{Tree, from-tree}
use Rattle.unix_rules.proofs.Walks.{walk-is}
use Rattle.unix_rules.specs.FileRules.{AreFiles}
use Rattle.unix_rules.specs.ProcessRules.{AreKin, Each, HasBody, HasPhase, IsAnswer}
use Rattle.unix_rules.specs.WholeRules.{AloneIsUnix, BootGivesUnix, IsEntry, IsPathByte, UnixKept}

-- ---- a turn

phase-answer : (process : Process) (phase : Phase) → IsPhase process phase → IsAnswer phase
phase-answer process Run is = tt
phase-answer process Asked is = tt
phase-answer process (Sent sent) is = tt
phase-answer process (Done value address bytes) is = (is.0, is.2)
phase-answer process (Exiting word) is = tt
phase-answer process (Zombie word) is = tt

bodies-of : (processes : ℕ → Option Process) → AreSlots processes → Each HasBody processes
bodies-of processes slots slot process there =
    let is : IsProcess process = slots.each slot process there in
    record { registers_are = is.registers; memory_is = is.memory; break_is = is.break }

phases-of : (processes : ℕ → Option Process) → AreSlots processes → Each HasPhase processes
phases-of processes slots slot process there = (slots.each slot process there).phase

slots-of : (processes : ℕ → Option Process) → HaveDescriptors processes → Each HasBody processes → Each HasPhase processes → AreSlots processes
slots-of processes have bodies phases =
    record {
      end = have.end;
      each = λ slot process there. record {
        registers = (bodies slot process there).registers_are;
        memory = (bodies slot process there).memory_is;
        break = (bodies slot process there).break_is;
        descriptors = have.each slot process there;
        phase = phases slot process there;
      };
    }

files-of : (calls : Calls) (unix : Unix) → IsUnix calls unix → AreFiles unix.files
files-of calls unix is = record { inodes = is.inodes; names = is.names; tree = is.tree; kept = is.kept; descriptions = is.descriptions }

pub unix_kept : UnixKept
unix_kept calls unix slot input small is =
    let have : HaveDescriptors unix.processes = slots_have_descriptors unix.processes is.slots in
    let bodies : Each HasBody unix.processes = bodies-of unix.processes is.slots in
    let phases : Each HasPhase unix.processes = phases-of unix.processes is.slots in
    let kin : AreKin unix.processes unix.next_pid = record { pids = is.pids; parents = is.parents } in
    let after : Unix = (turned calls unix slot input).state in
    let kin_after : AreKin after.processes after.next_pid = kin_kept calls unix slot input kin in
    let files_after : AreFiles after.files = files_kept calls unix slot input is.sent bodies (files-of calls unix is) in
    record {
      sizes = sizes_kept calls unix slot input is.sizes;
      slots =
          slots-of after.processes (descriptors_kept calls unix slot input have)
          (bodies_kept calls unix slot input is.inodes is.sent (λ s process there. phase-answer process process.phase (phases s process there)) bodies)
          (phases_kept calls unix slot input small is.inodes is.names kin is.sent bodies phases);
      pids = kin_after.pids;
      parents = kin_after.parents;
      sent = sent_kept calls unix slot input have is.sent;
      inodes = files_after.inodes;
      names = files_after.names;
      tree = files_after.tree;
      kept = files_after.kept;
      descriptions = files_after.descriptions;
      opens = open_kept calls unix slot input have is.opens;
    }

-- ---- boot: before anything is stored

pub nothing-some : {X : Type 0} (n : ℕ) (x : X) → at nothing n ≡ Some x → ⊥
unfolding at nothing
nothing-some n x e = some-differ x e

pub none-there : {X : Type 0} (n : ℕ) → at (nothing {X = X}) n ≡ None
unfolding at nothing
none-there n = refl

first-of : (n : ℕ) (inode : Inode) → at first_inodes n ≡ Some inode → ((n ≡ root_inode) × (Directory root_inode [] ≡ inode)) ⊎ ((n ≡ console_inode) × (Console ≡ inode))
unfolding first_inodes
first-of n inode e = by_root (put-reads (with_at nothing console_inode (Some Console)) root_inode n (Directory root_inode []) inode e)
  where
    by_console : ((n ≡ console_inode) × (Console ≡ inode)) ⊎ ((n ≢ console_inode) × (at nothing n ≡ Some inode)) → ((n ≡ root_inode) × (Directory root_inode [] ≡ inode)) ⊎ ((n ≡ console_inode) × (Console ≡ inode))
    by_console (inl own) = inr own
    by_console (inr other) = absurd (nothing-some n inode other.1)

    by_root : ((n ≡ root_inode) × (Directory root_inode [] ≡ inode)) ⊎ ((n ≢ root_inode) × (at (with_at nothing console_inode (Some Console)) n ≡ Some inode))
        → ((n ≡ root_inode) × (Directory root_inode [] ≡ inode)) ⊎ ((n ≡ console_inode) × (Console ≡ inode))
    by_root (inl own) = inl own
    by_root (inr other) = by_console (put-reads nothing console_inode n Console inode other.1)

-- nothing has an entry
first-empty : (found : Option Inode) → ((inode : Inode) → found ≡ Some inode → places_of (Some inode) ≡ []) → places_of found ≡ []
first-empty None none = refl
first-empty (Some inode) none = none inode refl

pub first-places : (number : ℕ) → places_of (at first_inodes number) ≡ []
first-places number = first-empty (at first_inodes number) (λ inode e. places_none inode (first-of number inode e))
  where
    places_none : (inode : Inode) → ((number ≡ root_inode) × (Directory root_inode [] ≡ inode)) ⊎ ((number ≡ console_inode) × (Console ≡ inode)) → places_of (Some inode) ≡ []
    places_none inode (inl own) = ap (λ (i : Inode). places_of (Some i)) (sym own.1)
    places_none inode (inr own) = ap (λ (i : Inode). places_of (Some i)) (sym own.1)

no-entry : (directory place : ℕ) → entry_at first_inodes directory place ≡ None
no-entry directory place = ap (λ (l : List (Option Entry)). get_or l place None) (first-places directory)

root-there : at first_inodes root_inode ≡ Some (Directory root_inode [])
unfolding first_inodes
root-there = at-with_at (with_at nothing console_inode (Some Console)) root_inode (Some (Directory root_inode []))

console-there : at first_inodes console_inode ≡ Some Console
unfolding first_inodes
console-there = at-with_at-other (with_at nothing console_inode (Some Console)) root_inode console_inode (Some (Directory root_inode [])) (λ same. absurd (omega (arith, same))) ∙ at-with_at nothing console_inode (Some Console)

abbrev IsFirst : ℕ → Inode → Type 0
IsFirst n inode = ((n ≡ root_inode) × (Directory root_inode [] ≡ inode)) ⊎ ((n ≡ console_inode) × (Console ≡ inode))

first-inode : (n : ℕ) (inode : Inode) → IsFirst n inode → IsInode inode
unfolding most_places
first-inode n inode (inl own) = subst IsInode own.1 (omega arith, omega arith)
first-inode n inode (inr own) = subst IsInode own.1 tt

first-low : (n : ℕ) (inode : Inode) → IsFirst n inode → n < 2
first-low n inode (inl own) = omega (arith, own.0)
first-low n inode (inr own) = omega (arith, own.0)

first-console : (n : ℕ) → IsFirst n Console → n ≡ console_inode
first-console n (inl own) = absurd (true-false (ap (λ (i : Inode). is_directory (Some i)) own.1))
first-console n (inr own) = own.0

none-past : (found : Option Inode) → ((inode : Inode) → found ≡ Some inode → ⊥) → found ≡ None
none-past None none = refl
none-past (Some inode) none = absurd (none inode refl)

first-inodes : AreInodes first_inodes
first-inodes =
    record {
      end = λ n past. none-past (at first_inodes n) (λ inode e. absurd (omega (arith, past, first-low n inode (first-of n inode e))));
      each = λ n inode e. first-inode n inode (first-of n inode e);
      console = console-there;
      one_console = λ n e. first-console n (first-of n Console e);
      root = ap is_directory root-there;
      root_parent = ap parent_of root-there;
    }

no-entries : {P : Type 0} (directory place : ℕ) (entry : Entry) → entry_at first_inodes directory place ≡ Some entry → P
no-entries directory place entry e = some-differ entry (sym (no-entry directory place) ∙ e)

first-tree : Tree first_inodes
first-tree =
    record {
      names = λ directory place entry e. no-entries directory place entry e;
      root_has_none = λ directory place entry e. no-entries directory place entry e;
      parents = λ directory place entry e. no-entries directory place entry e;
      once = λ directory place other entry second e. no-entries directory place entry e;
      below = λ number is has. no-entries has.directory has.place has.entry has.there;
      empty = λ number is apart none place. no-entry number place;
    }

abbrev first_files : Files
first_files = record { inodes = first_inodes; descriptions = nothing }

some-of : (found : Option Inode) → IsSome found → (inode : Inode) × (found ≡ Some inode)
some-of None some = absurd (true-false (sym some))
some-of (Some inode) some = (inode, refl)

first-ruled : RuledAll first_files
first-ruled =
    record {
      ruled = record {
        inodes = first-inodes;
        names = record { each = λ directory place entry e. no-entries directory place entry e; differ = λ directory place other entry second e. no-entries directory place entry e };
        tree = first-tree;
        descriptions = record { end = λ n past. none-there n; each = λ n description e. absurd (nothing-some n description e) };
      };
      live = λ n some. let found : (inode : Inode) × (at first_inodes n ≡ Some inode) = some-of (at first_inodes n) some in inl (first-low n found.0 (first-of n found.0 found.1));
    }

-- ---- boot: entry by entry

-- a machine in which nothing runs yet
record Stored (unix : Unix) : Type 0 where
  no_process : unix.processes ≡ nothing
  no_description : unix.files.descriptions ≡ nothing
  all : RuledAll unix.files

stored-first : (pages quantum : ℕ) → Stored (empty_machine pages quantum)
unfolding empty_machine
stored-first pages quantum = record { no_process = refl; no_description = refl; all = first-ruled }

path-byte : (byte : ℕ) → IsPathByte byte → IsTextByte byte
path-byte byte both = (both.0, not-nul byte both.1)
  where
    not-nul : (byte : ℕ) → byte ≢ 0 → byte == 0 ≡ false
    not-nul byte apart = apart-is byte 0 apart

short-file : (bytes : List ℕ) → is_too_long (NewFile bytes) ≡ false → length bytes ≤ most_file_bytes
short-file bytes e = grind (arith, nat_tests)

node-made : (unix : Unix) (spot : Spot) (node : Node) (number : ℕ) (path : List ℕ) → IsEntry (record { path = path; node = node }) → RuledAll unix.files → is_too_long node ≡ false → walked unix.files path ≡ Ok spot
    → is_some spot.inode ≡ false → Making unix spot (node_inode spot.directory node) number → RuledAll (with_made unix spot number (node_inode spot.directory node)).files
node-made unix spot NewDirectory number path such all short walk none making_so =
    directory-new unix all spot number
    (walk-is IsTextByte unix.files all.ruled.inodes (from-tree unix.files.inodes all.ruled.inodes.end all.ruled.tree) path spot (All-weaker IsPathByte IsTextByte path-byte path such.path) walk) (none-of spot.inode none) making_so
node-made unix spot (NewFile bytes) number path such all short walk none making_so =
    file-new unix all spot number bytes (short-file bytes short, such.node)
    (walk-is IsTextByte unix.files all.ruled.inodes (from-tree unix.files.inodes all.ruled.inodes.end all.ruled.tree) path spot (All-weaker IsPathByte IsTextByte path-byte path such.path) walk) (none-of spot.inode none) making_so

stored-kept : KeepsSuch IsEntry Stored
stored-kept unix path spot node number such stored short walk none making_so =
    record { no_process = stored.no_process; no_description = stored.no_description; all = node-made unix spot node number path such stored.all short walk none making_so }

-- ---- boot: the first process

console-is : (inodes : ℕ → Option Inode) → at inodes console_inode ≡ Some Console → IsDescription inodes console_description
console-is inodes there =
    record {
      inode = ap is_some there;
      mode = refl;
      offset = omega arith;
      directory_mode = λ e. absurd (true-false (sym e ∙ ap is_directory there));
      directory_offset = λ e. refl;
    }

started-files : (unix : Unix) (file : List ℕ) (plan : LoadPlan) → Stored unix → RuledAll (started unix file plan).files
started-files unix file plan stored =
    let none : at unix.files.descriptions 0 ≡ None = ap (λ (d : ℕ → Option Description). at d 0) stored.no_description ∙ none-there 0 in
    let is : IsDescription unix.files.inodes console_description = console-is unix.files.inodes stored.all.ruled.inodes.console in
    record {
      ruled = open-ruled unix.files 0 console_description none (omega arith) is stored.all.ruled;
      live = λ inode some. lives-more unix.files 0 console_description none (omega arith) is inode (stored.all.live inode some);
    }

read-file : (files : Files) (found : Result Spot Errno) (file : List ℕ) → AreInodes files.inodes → option_and_then (λ number. file_bytes (at files.inodes number)) (spot_inode found) ≡ Some file → All IsByte file
read-file files found file are e = by_number (spot_inode found) e
  where
    by_number : (number : Option ℕ) → option_and_then (λ n. file_bytes (at files.inodes n)) number ≡ Some file → All IsByte file
    by_number None f = some-differ file f
    by_number (Some n) f = bytes-of (at files.inodes n) file (λ inode there. are.each n inode there) f

file-bytes : (files : Files) (path file : List ℕ) → AreInodes files.inodes → file_at files path ≡ Some file → All IsByte file
unfolding file_at
file-bytes files path file are e = read-file files (walked files path) file are e

init-bytes : All IsByte init_path
init-bytes =
    All-cons IsByte 47 (105 ∷ 110 ∷ 105 ∷ 116 ∷ []) (omega arith) (All-cons IsByte 105 (110 ∷ 105 ∷ 116 ∷ []) (omega arith)
    (All-cons IsByte 110 (105 ∷ 116 ∷ []) (omega arith) (All-cons IsByte 105 (116 ∷ []) (omega arith) (All-cons IsByte 116 [] (omega arith) (All-nil IsByte)))))

first-body : (file : List ℕ) (plan : LoadPlan) → All IsByte file → plan_of file ≡ Ok plan → HasBody (first_process file plan)
unfolding first_process
first-body file plan all planned =
    let is : IsLoaded file plan = plan-is file plan all planned in
    record {
      registers_are = registers-are plan.entry init_arguments is.entry is.aligned (omega arith);
      memory_is = image-is file plan.loads init_arguments all (All-cons (All IsByte) init_path [] init-bytes (All-nil (All IsByte))) is.ends;
      break_is = is.break;
    }

first-phase : (file : List ℕ) (plan : LoadPlan) → HasPhase (first_process file plan)
unfolding first_process
first-phase file plan = tt

first-ids : (file : List ℕ) (plan : LoadPlan) → ((first_process file plan).pid ≡ 1) × ((first_process file plan).parent ≡ 0)
unfolding first_process
first-ids file plan = (refl, refl)

module _ (unix : Unix) (first : Process) (no_process : unix.processes ≡ nothing) where
  abbrev slots : ℕ → Option Process
  slots = with_at unix.processes 0 (Some first)

  only : (slot : ℕ) (process : Process) → at slots slot ≡ Some process → (slot ≡ 0) × (first ≡ process)
  only slot process e = by_place (put-reads unix.processes 0 slot first process e)
    where
      by_place : ((slot ≡ 0) × (first ≡ process)) ⊎ ((slot ≢ 0) × (at unix.processes slot ≡ Some process)) → (slot ≡ 0) × (first ≡ process)
      by_place (inl own) = own
      by_place (inr other) = absurd (nothing-some slot process (ap (λ (p : ℕ → Option Process). at p slot) (sym no_process) ∙ other.1))

  only-has : (P : Process → Type 0) → P first → Each P slots
  only-has P holds slot process e = subst P (only slot process e).1 holds

  first-kin : first.pid ≡ 1 → first.parent ≡ 0 → AreKin slots 2
  first-kin pid parent =
      record {
        pids = record {
          first = λ process e. only-has (λ p. p.pid ≡ 1) pid 0 process e;
          there = ap is_some (at-with_at unix.processes 0 (Some first));
          least = only-has (λ p. 1 ≤ p.pid) (omega (arith, pid));
          most = only-has (λ p. p.pid < 2) (omega (arith, pid));
          differ = λ slot other process second e f same. (only slot process e).0 ∙ sym (only other second f).0;
          limit = omega arith;
        };
        parents = record {
          first = λ process e. only-has (λ p. p.parent ≡ 0) parent 0 process e;
          older = only-has (λ p. p.parent < p.pid) (omega (arith, pid, parent));
          lives = λ slot process e apart. absurd (apart (only slot process e).0);
        };
      }

-- what boot gives beside the rules that were shown before
record Started (unix : Unix) : Type 0 where
  bodies : Each HasBody unix.processes
  phases : Each HasPhase unix.processes
  kin : AreKin unix.processes unix.next_pid
  files : AreFiles unix.files

started-is : Starts Stored Started
started-is unix file plan stored found planned room =
    let all : All IsByte file = file-bytes unix.files init_path file stored.all.ruled.inodes found in
    record {
      bodies = only-has unix (first_process file plan) stored.no_process HasBody (first-body file plan all planned);
      phases = only-has unix (first_process file plan) stored.no_process HasPhase (first-phase file plan);
      kin = first-kin unix (first_process file plan) stored.no_process (first-ids file plan).0 (first-ids file plan).1;
      files = from-ruled (started unix file plan).files (started-files unix file plan stored);
    }

pub boot_gives_unix : BootGivesUnix
boot_gives_unix calls pages quantum entries unix sizes such e =
    let rules : BootRules calls unix = boot_gives_rules calls pages quantum entries unix sizes e in
    let begun : Started unix = after-such IsEntry Stored stored-kept Started started-is pages quantum entries unix such (stored-first pages quantum) e in
    record {
      sizes = rules.sizes;
      slots = slots-of unix.processes rules.slots begun.bodies begun.phases;
      pids = begun.kin.pids;
      parents = begun.kin.parents;
      sent = rules.sent;
      inodes = begun.files.inodes;
      names = begun.files.names;
      tree = begun.files.tree;
      kept = begun.files.kept;
      descriptions = begun.files.descriptions;
      opens = rules.opens;
    }

-- ---- one process alone

pub alone_is_unix : AloneIsUnix
unfolding empty_machine AreSent
alone_is_unix calls pages quantum first sizes alone =
    let files : AreFiles first_files = from-ruled first_files first-ruled in
    let kin : AreKin (slots (empty_machine pages quantum) first refl) 2 = first-kin (empty_machine pages quantum) first refl alone.pid alone.parent in
    record {
      sizes = sizes;
      slots = record {
        end = λ slot past. at-with_at-other nothing 0 slot (Some first) (λ same. absurd (omega (arith, past, same))) ∙ none-there slot;
        each = only-has (empty_machine pages quantum) first refl IsProcess alone.is;
      };
      pids = kin.pids;
      parents = kin.parents;
      sent = λ slot process sent there phase.
          let e : Run ≡ Sent sent = sym alone.runs ∙ ap (λ (p : Process). p.phase) (only (empty_machine pages quantum) first refl slot process there).1 ∙ phase in cc;
      inodes = files.inodes;
      names = files.names;
      tree = files.tree;
      kept = files.kept;
      descriptions = files.descriptions;
      opens = record {
        named = λ number some. absurd (true-false (sym some ∙ ap is_some (none-there number)));
        there = λ slot number description process there names.
            some-differ description (sym (alone.closed number) ∙ ap (λ (p : Process). descriptor p number) (only (empty_machine pages quantum) first refl slot process there).1 ∙ names);
      };
    }
