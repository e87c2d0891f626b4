-- Every turn keeps registers, memories and breaks.
use Rattle.std.proofs.Common.{◌≡◌, ℕ, ◌/◌, ◌≤◌, Bool, true, false, List, drop, Option, Some, None, Result, Ok, Err, arith, refl, sym, subst, inl, inr, length, length-drop}
use Rattle.std.proofs.lemmas.Bool.{cases_Bool}
use Rattle.std.proofs.lemmas.Bool.Decides.{nat_tests}
use Rattle.std.proofs.lemmas.List.Elements.{All-drop, All-replicate}
use Rattle.std.proofs.lemmas.List.{length-replicate}
use Rattle.std.specs.Prelude.{All, nat_le, nat_lt, ◌&&◌, ◌==◌, if◌then◌else◌}
use Rattle.unix_model.specs.Calls.{Calls}
use Rattle.unix_model.specs.declared.elf.ElfFault.{ElfFault}
use Rattle.unix_model.specs.Effect.{texts_of}
use Rattle.unix_model.specs.Elf.{LoadPlan, plan_of}
use Rattle.unix_model.specs.Enter.{with_moved_break}
use Rattle.unix_model.specs.Execution.{executed, with_register}
use Rattle.unix_model.specs.FileCalls.{with_descriptors}
use Rattle.unix_model.specs.Files.{Inode, File, Directory, Pipe, Console, file_bytes}
use Rattle.unix_model.specs.Limits.{loads_end, page_bytes, user_pages}
use Rattle.unix_model.specs.Memory.{Memory, Page, with_zero_pages, without_pages, zero_page}
use Rattle.unix_model.specs.Numbers.{pages_of}
use Rattle.unix_model.specs.Process.{Process, SentCall, Phase, Exiting, descriptor, in_phase, with_descriptor, without_descriptor, zombie}
use Rattle.unix_model.specs.ProcessCalls.{program, with_program}
use Rattle.unix_model.specs.Rules.{AreInodes, AreRegisters, AreSent, IsByte, IsInode, IsMemory, IsPage, IsWord}
use Rattle.unix_model.specs.State.{Unix, adopted, with_descriptor_closed, with_process}
use Rattle.unix_model.specs.Tables.{at, nothing, option_or, with_at}
use Rattle.unix_model.specs.Turn.{ran, returned, with_orphans_adopted}
use Rattle.unix_laws.proofs.Basics.{some-differ, some-same}
use Rattle.unix_laws.proofs.Changes.{Changes, settles, exits, forks, loads, reaps, kills, dups, closes, dups_to, pipes, reads_file, seeks, lists, takes_pipe, puts_pipe, writes_file, resizes, opens, makes_directory, removes_directory, unlinks, links, renames}
use Rattle.unix_laws.proofs.Lasts.{released-processes}
use Rattle.unix_laws.proofs.TurnChanges.{Enters, TurnChanges, after-turn, answers, breaks, drops, effects, ends, enters, idles, returns, runs, sends}
use Rattle.unix_rules.proofs.Each.{If, Passes, each-after, if-adopted, if-at, put-own}
use Rattle.unix_rules.proofs.Image.{IsLoaded, image-is, plan-is, registers-are}
use Rattle.unix_rules.proofs.Instructions.{executed_stays, next-stays, register-written}
use Rattle.unix_rules.proofs.Pages.{bytes-written}
use Rattle.unix_rules.proofs.SentWords.{HasWords, sent-words}
use Rattle.unix_rules.proofs.Texts.{text-bytes, texts-few, texts-hold}
use Rattle.unix_rules.specs.ProcessRules.{BodiesKept, Each, HasAnswer, HasBody, IsAnswer}

-- ---- one process

ran-body : (process : Process) → HasBody process → HasBody (ran process)
unfolding ran
ran-body process body =
    let after : AreRegisters (executed process.registers process.memory).registers × IsMemory (executed process.registers process.memory).memory = executed_stays process.registers process.memory body.registers_are body.memory_is in
    record { registers_are = after.0; memory_is = after.1; break_is = body.break_is }

returned-body : (process : Process) (value address : ℕ) (bytes : List ℕ) → HasBody process → IsWord value → All IsByte bytes → HasBody (returned process value address bytes)
unfolding returned
returned-body process value address bytes body word small =
    record {
      registers_are = next-stays (with_register process.registers 10 value) (register-written process.registers 10 value body.registers_are word);
      memory_is = bytes-written process.memory address bytes body.memory_is small;
      break_is = body.break_is;
    }

program-body : (process : Process) (file : List ℕ) (plan : LoadPlan) (strings : List (List ℕ)) → All IsByte file → All (All IsByte) strings → IsWord (length strings) → IsLoaded file plan
    → HasBody (with_program process file plan strings)
unfolding with_program
program-body process file plan strings all texts few is =
    record { registers_are = registers-are plan.entry strings is.entry is.aligned few; memory_is = image-is file plan.loads strings all texts is.ends; break_is = is.break }

zombie-body : (process : Process) (word : ℕ) → HasBody process → HasBody (zombie process word)
unfolding nothing at
zombie-body process word body =
    record {
      registers_are = record { count = length-replicate {A = ℕ} 32 0; words = All-replicate IsWord 32 0 (omega arith); zero_is_zero = refl; pc_word = omega arith; pc_aligned = refl };
      memory_is = record { end = λ number past. refl; pages = λ number page there. some-differ page there };
      break_is = body.break_is;
    }

adopted-body : (ended : ℕ) (process : Process) → HasBody process → HasBody (adopted ended process)
adopted-body ended process body = elim (cases_Bool (process.parent == ended)) as (λ _. HasBody (adopted ended process)) [
  | inl orphan ↦ rw orphan body
  | inr other ↦ rw other body
]

-- ---- a break that moves

zero-page : IsPage zero_page
unfolding zero_page
zero-page = record { size = length-replicate {A = ℕ} 4096 0; bytes = All-replicate IsByte 4096 0 (omega arith) }

mapped-or : (found : Option Page) (page : Page) → ((before : Page) → found ≡ Some before → IsPage before) → option_or found (Some zero_page) ≡ Some page → IsPage page
mapped-or None page pages e = subst IsPage (some-same zero_page page e) zero-page
mapped-or (Some before) page pages e = pages page e

zeroed-page : (test : Bool) (found : Option Page) (page : Page) → ((before : Page) → found ≡ Some before → IsPage before) → (if test then option_or found (Some zero_page) else found) ≡ Some page → IsPage page
zeroed-page true found page pages e = mapped-or found page pages e
zeroed-page false found page pages e = pages page e

zeroed-is : (memory : Memory) (from to : ℕ) → IsMemory memory → to ≤ user_pages → IsMemory (with_zero_pages memory from to)
unfolding with_zero_pages at
zeroed-is memory from to is few =
    record {
      end = λ number past. past-end number past (nat_le from number && nat_lt number to) (outside number past);
      pages = λ number page there. zeroed-page (nat_le from number && nat_lt number to) (memory number) page (λ before e. is.pages number before e) there;
    }
  where
    outside : (number : ℕ) → user_pages ≤ number → (nat_le from number && nat_lt number to) ≡ false
    outside number past = grind (arith, nat_tests)

    past-end : (number : ℕ) → user_pages ≤ number → (test : Bool) → test ≡ false → (if test then option_or (memory number) (Some zero_page) else memory number) ≡ None
    past-end number past true e = cc
    past-end number past false e = is.end number past

cut-page : (test : Bool) (found : Option Page) (page : Page) → ((before : Page) → found ≡ Some before → IsPage before) → (if test then None else found) ≡ Some page → IsPage page
cut-page true found page pages e = some-differ page e
cut-page false found page pages e = pages page e

cut-end : (test : Bool) (found : Option Page) → found ≡ None → (if test then None else found) ≡ None
cut-end true found e = refl
cut-end false found e = e

cut-is : (memory : Memory) (from to : ℕ) → IsMemory memory → IsMemory (without_pages memory from to)
unfolding without_pages at
cut-is memory from to is =
    record {
      end = λ number past. cut-end (nat_le from number && nat_lt number to) (memory number) (is.end number past);
      pages = λ number page there. cut-page (nat_le from number && nat_lt number to) (memory number) page (λ before e. is.pages number before e) there;
    }

moved-body : (process : Process) (address : ℕ) → HasBody process → nat_lt address process.break_start ≡ false → nat_lt loads_end address ≡ false → HasBody (with_moved_break process address)
unfolding loads_end
moved-body process address body above below =
    let low : process.break_start ≤ address = grind (arith, nat_tests) in
    let high : address ≤ 0x7FFE_0000 = grind (arith, nat_tests) in
    record {
      registers_are = body.registers_are;
      memory_is =
          cut-is (with_zero_pages process.memory (process.break_start / page_bytes) (pages_of address)) (pages_of address) (pages_of process.break_end)
          (zeroed-is process.memory (process.break_start / page_bytes) (pages_of address) body.memory_is (omega (arith, high)));
      break_is = record { start_aligned = body.break_is.start_aligned; order = low; limit = high };
    }

entered-body : (unix : Unix) (slot : ℕ) (process after : Process) → HasBody process → Enters unix slot process after → HasBody after
entered-body unix slot process after body (answers phase answer) = body
entered-body unix slot process after body (sends sent tested) = body
entered-body unix slot process after body (breaks address above below room) = moved-body process address body above below

-- ---- a program

planned-so : (step : Result LoadPlan ElfFault) (plan : LoadPlan) → program step ≡ Ok plan → step ≡ Ok plan
planned-so (Ok given) plan e = cc
planned-so (Err fault) plan e = cc

pub bytes-of : (found : Option Inode) (file : List ℕ) → ((inode : Inode) → found ≡ Some inode → IsInode inode) → file_bytes found ≡ Some file → All IsByte file
bytes-of None file is e = some-differ file e
bytes-of (Some (File bytes)) file is e = subst (All IsByte) (some-same bytes file e) (is (File bytes) refl).1
bytes-of (Some (Directory parent places)) file is e = some-differ file e
bytes-of (Some (Pipe bytes)) file is e = some-differ file e
bytes-of (Some Console) file is e = some-differ file e

loaded-body : (process : Process) (sent : SentCall) (file : List ℕ) (plan : LoadPlan) → HasWords sent → All IsByte file → program (plan_of file) ≡ Ok plan → HasBody (with_program process file plan (drop 1 (texts_of sent)))
loaded-body process sent file plan has all planned =
    program-body process file plan (drop 1 (texts_of sent)) all
    (All-drop (All IsByte) 1 (texts_of sent) (text-bytes (texts_of sent) (texts-hold sent has.bytes)))
    (omega (arith, length-drop 1 (texts_of sent), texts-few sent, has.few))
    (plan-is file plan all (planned-so (plan_of file) plan planned))

-- ---- the process of a turn

module _ (unix : Unix) (mover : ℕ) (inodes : AreInodes unix.files.inodes) (each : Each HasBody unix.processes) where
  put : (processes : ℕ → Option Process) (next : Process) → HasBody next → If HasBody (at (with_at processes mover (Some next)) mover)
  put processes next body = put-own HasBody processes mover next body

  module _ (mine : Process) (there : at unix.processes mover ≡ Some mine) where
    mine-body : HasBody mine
    mine-body = each mover mine there

    -- the same process with other descriptors, in another phase
    goes : (processes : ℕ → Option Process) (next : Process) (phase : Phase) → HasBody next → If HasBody (at (with_at processes mover (Some (in_phase next phase))) mover)
    goes processes next phase body = put processes (in_phase next phase) body

    change-body : (sent : SentCall) → HasWords sent → (state : Unix) → Changes unix mover mine sent state → If HasBody (at state.processes mover)
    change-body sent has state (settles phase answer) = goes _ mine phase mine-body
    change-body sent has state (exits word) = goes _ mine (Exiting word) mine-body
    change-body sent has state (forks place free pid room) = goes _ mine _ mine-body
    change-body sent has state (loads inode file plan held planned room) =
        put unix.processes (with_program mine file plan (drop 1 (texts_of sent)))
        (loaded-body mine sent file plan has (bytes-of (at unix.files.inodes inode) file (λ found is. inodes.each inode found is) held) planned)
    change-body sent has state (reaps wanted ended phase least answer) = goes _ mine phase mine-body
    change-body sent has state (kills pid target signal given_so is differ) = goes _ mine _ mine-body
    change-body sent has state (dups number lowest file held low) = goes _ (with_descriptor mine lowest file.number) _ mine-body
    change-body sent has state (closes number) = goes _ (without_descriptor mine number) _ mine-body
    change-body sent has state (dups_to number to file held differ) = goes _ (with_descriptor mine to file.number) _ mine-body
    change-body sent has state (pipes first second reader writer number phase low next free free2 free_i room answer) = goes _ (with_descriptors mine first reader second writer) phase mine-body
    change-body sent has state (reads_file number count file bytes phase held is answer) = goes _ mine phase mine-body
    change-body sent has state (seeks number place file held stream aligned below) = goes _ mine _ mine-body
    change-body sent has state (lists number count file phase held directory answer) = goes _ mine phase mine-body
    change-body sent has state (takes_pipe number count file bytes phase held is answer) = goes _ mine phase mine-body
    change-body sent has state (puts_pipe number file bytes written given_so held is few) = goes _ mine _ mine-body
    change-body sent has state (writes_file number place file bytes written given_so held is below room) = goes _ mine _ mine-body
    change-body sent has state (resizes number size file bytes held is few room) = goes _ mine _ mine-body
    change-body sent has state (opens path flags number lowest spot new low free walk opening_so) = goes _ (with_descriptor mine lowest number) _ mine-body
    change-body sent has state (makes_directory path spot number walk free making_so) = goes _ mine _ mine-body
    change-body sent has state (removes_directory path spot gone walk root dots is directory names) = goes _ mine _ mine-body
    change-body sent has state (unlinks path spot gone walk is file) = goes _ mine _ mine-body
    change-body sent has state (links old new from to linked walk is file walk2 free place room) = goes _ mine _ mine-body
    change-body sent has state (renames old new from to named files walk root dots is walk2 root2 dots2 differ within renaming_so) = goes _ mine _ mine-body

    closed-body : (number : ℕ) (found : Option ℕ) → If HasBody (at (with_descriptor_closed unix mover mine number found).processes mover)
    closed-body number None = if-at HasBody unix.processes mover each
    closed-body number (Some description) =
        subst (λ (processes : ℕ → Option Process). If HasBody (at processes mover)) (sym (released-processes (with_process unix mover (without_descriptor mine number)) description))
        (put unix.processes (without_descriptor mine number) mine-body)

    ended-body : (word : ℕ) → If HasBody (at (with_orphans_adopted mine.pid (with_process unix mover (zombie mine word))).processes mover)
    unfolding at
    ended-body word =
        if-adopted HasBody mine.pid (adopted-body mine.pid) (at (with_at unix.processes mover (Some (zombie mine word))) mover) (put unix.processes (zombie mine word) (zombie-body mine word mine-body))

  own-body : (calls : Calls) → AreSent calls unix → Each HasAnswer unix.processes → (state : Unix) → TurnChanges unix mover state → If HasBody (at state.processes mover)
  own-body calls sent_so answers_are state idles = if-at HasBody unix.processes mover each
  own-body calls sent_so answers_are state (runs mine there phase) = put unix.processes (ran mine) (ran-body mine (each mover mine there))
  own-body calls sent_so answers_are state (enters mine next there phase entering) = put unix.processes next (entered-body unix mover mine next (each mover mine there) entering)
  own-body calls sent_so answers_are state (effects mine sent next there phase changes) =
      change-body mine there sent (sent-words calls unix mover mine sent sent_so (each mover mine there).registers_are (each mover mine there).memory_is there phase) state changes
  own-body calls sent_so answers_are state (returns mine value address bytes there phase) =
      let answer : IsWord value × All IsByte bytes = subst IsAnswer phase (answers_are mover mine there) in
      put unix.processes (returned mine value address bytes) (returned-body mine value address bytes (each mover mine there) answer.0 answer.1)
  own-body calls sent_so answers_are state (drops mine word lowest there phase low) = closed-body mine there lowest (descriptor mine lowest)
  own-body calls sent_so answers_are state (ends mine word there phase low) = ended-body mine there word

body-passes : (unix : Unix) (mover : ℕ) → Passes HasBody unix mover
body-passes unix mover = record { to_child = λ process body. body; by_signal = λ process signal by body. body; by_adoption = adopted-body }

pub bodies_kept : BodiesKept
bodies_kept calls unix slot input inodes sent_so answers_are each =
    after-turn (λ state. Each HasBody state.processes) calls unix slot input
    (λ state changes. each-after HasBody unix slot (body-passes unix slot) each state changes (own-body unix slot inodes each calls sent_so answers_are state changes))
