-- Every turn keeps what the rules ask of phases: a call is answered with a word, and with bytes for writable memory.
use Rattle.std.proofs.Common.{◌≡◌, ℕ, zero, suc, ◌+◌, ◌-◌, ◌*◌, ◌/◌, ◌<◌, ◌≤◌, ◌%◌, ◌^◌, Bool, true, false, List, [], ◌∷◌, ◌++◌, take, drop, Option, Some, None, Result, Ok, Err, arith, refl, sym, subst, inl, inr, length, length-append, length-take, get_or}
use Rattle.std.proofs.lemmas.Bool.{cases_Bool, cases_lt}
use Rattle.std.proofs.lemmas.Bool.Decides.{nat_tests}
use Rattle.std.proofs.lemmas.List.{length-replicate}
use Rattle.std.proofs.lemmas.List.Elements.{All-append, All-cons, All-drop, All-head, All-nil, All-replicate, All-tail, All-take, All-weaker}
use Rattle.std.specs.Int.{to_le_bytes, w32}
use Rattle.std.specs.Prelude.{All, replicate, if◌then◌else◌, ◌==◌, ◌&&◌, nat_le, nat_lt}
use Rattle.unix_model.specs.declared.calls.Call.{Call}
use Rattle.unix_model.specs.declared.calls.Call.TheVariants as call
use Rattle.unix_model.specs.declared.calls.Errno.{Errno}
use Rattle.unix_model.specs.declared.calls.Errno.TheVariants.{Eperm, Echild, Efbig, Enospc, Enosys, Epipe}
use Rattle.unix_model.specs.declared.instructions.Outcome.{Outcome}
use Rattle.unix_model.specs.declared.instructions.Outcome.TheVariants as outcome
use Rattle.unix_model.specs.declared.instructions.Cause.{Cause}
use Rattle.unix_model.specs.declared.instructions.Cause.TheVariants.{Illegal, BadTarget, BadFetch, BadLoad, BadStore}
use Rattle.unix_model.specs.Calls.{Calls, errno_number, refusal_word}
use Rattle.unix_model.specs.Effect.{Line, Waits, Goes, Takes, Puts, argument_of, replies, settled}
use Rattle.unix_model.specs.Elf.{LoadPlan}
use Rattle.unix_model.specs.Enter.{call_enters, entered_line, is_given, or_refused, answers}
use Rattle.unix_model.specs.Execution.{executed}
use Rattle.unix_model.specs.FileCalls.{entry_bytes, line_taken, listed_bytes, reads_from, with_written, write_place, writes_to}
use Rattle.unix_model.specs.Files.{Inode, File, Directory, Pipe, Console, Entry, has_reader, has_writer, places_of}
use Rattle.unix_model.specs.Limits.{loads_end, most_file_bytes, offset_end, pid_end, pipe_bytes, place_bytes, slot_count}
use Rattle.unix_model.specs.Memory.{Memory, all_writable, is_writable}
use Rattle.unix_model.specs.Process.{Process, SentCall, Phase, Run, Asked, Sent, Done, Exiting, Zombie, answered, answered_with, argument, descriptor, in_phase, lowest_closed, lowest_open, refused, without_descriptor, zombie}
use Rattle.unix_model.specs.ProcessCalls.{EndedChild, child, is_waited, least_ended, waitpid_line, waits_for, with_killed, with_loaded, with_program, word_bytes}
use Rattle.unix_model.specs.Refusals.{◌>>=◌, ◌>>◌, refuse◌when◌, refuse◌where_not◌, refuse◌unless◌}
use Rattle.unix_model.specs.Room.{has_room}
use Rattle.unix_model.specs.Rules.{AreInodes, AreNames, AreSent, IsByte, IsInode, IsName, IsNameByte, IsPhase, IsWord, entry_at}
use Rattle.unix_model.specs.State.{Unix, Opened, adopted, opened_inode, with_descriptor_closed, with_phase, with_process}
use Rattle.unix_model.specs.Tables.{at, any_below, with_at}
use Rattle.unix_model.specs.Turn.{call_line, exit_step, phase_after, ran, returned, signal_of, turned, turned_at, turned_in, with_orphans_adopted}
use Rattle.unix_laws.proofs.Lasts.{IsEndedChild, least-ended-is, released-processes}
use Rattle.unix_laws.proofs.Lines.{through, needs, asks, bars, either}
use Rattle.unix_laws.proofs.OpenTurns.{lowest-is}
use Rattle.unix_laws.proofs.OtherSlots.{SendsSignal}
use Rattle.unix_laws.proofs.Tested.{tested}
use Rattle.unix_laws.proofs.TurnChanges.{Sendable, at-changes}
use Rattle.unix_rules.proofs.Each.{If, Passes, each-after, if-adopted, if-at, put-own}
use Rattle.unix_rules.proofs.Instructions.{word-in}
use Rattle.unix_rules.proofs.SentWords.{HasWords, sent-words}
use Rattle.unix_rules.proofs.Words.{word-bytes}
use Rattle.unix_rules.specs.ProcessRules.{AreKin, Each, HasBody, HasPhase, PhasesKept}

-- ---- writable ranges

writable-none : (memory : Memory) (address : ℕ) → all_writable memory address 0 ≡ true
unfolding all_writable
writable-none memory address = refl

and-first : (first second : Bool) → (first && second) ≡ true → first ≡ true
and-first true second e = refl
and-first false second e = cc

writable-less : (memory : Memory) (address more n : ℕ) → n ≤ more → all_writable memory address more ≡ true → all_writable memory address n ≡ true
unfolding all_writable
writable-less memory address zero n order e = let none : n ≡ 0 = omega arith in subst (λ k. all_writable memory address k ≡ true) (sym none) refl
writable-less memory address (suc more) n order e = elim (cases_lt more n) as (λ _. all_writable memory address n ≡ true) [
  | inl last ↦ let same : n ≡ suc more = omega arith in subst (λ k. all_writable memory address k ≡ true) (sym same) e
  | inr before ↦ writable-less memory address more n before (and-first (all_writable memory address more) (is_writable memory (address + more)) e)
]

-- ---- answers

answer-alone : (process : Process) (value : ℕ) → IsWord value → IsPhase process (answered value)
answer-alone process value word = (word, omega arith, All-nil IsByte, writable-none process.memory 0)

answer-bytes : (process : Process) (value address : ℕ) (bytes : List ℕ) → IsWord value → IsWord address → All IsByte bytes → all_writable process.memory address (length bytes) ≡ true
    → IsPhase process (answered_with value address bytes)
answer-bytes process value address [] word place small may = answer-alone process value word
answer-bytes process value address (byte ∷ bytes) word place small may = (word, place, small, may)

some-number : (errno : Errno) → 1 ≤ errno_number errno
some-number Eperm = omega arith
some-number _ = omega arith

refusal-is : (errno : Errno) → IsWord (refusal_word errno)
refusal-is errno = omega (arith, some-number errno)

refused-is : (process : Process) (errno : Errno) → HasPhase (refused process errno)
refused-is process errno = answer-alone process (refusal_word errno) (refusal-is errno)

-- ---- bytes that are given

taken-few : (count : ℕ) (bytes : List ℕ) → length (take count bytes) ≤ count
taken-few count bytes = omega (arith, length-take count bytes)

taken-less : (count : ℕ) (bytes : List ℕ) → length (take count bytes) ≤ length bytes
taken-less count bytes = omega (arith, length-take count bytes)

line-few : (n : ℕ) (input : List ℕ) → length (line_taken n input) ≤ n
line-few zero input = omega arith
line-few (suc n) [] = omega arith
line-few (suc n) (byte ∷ input) = elim (cases_Bool (byte == 10)) as (λ _. length (line_taken (suc n) (byte ∷ input)) ≤ suc n) [
  | inl ends ↦ rw ends (omega arith)
  | inr goes ↦ rw goes (omega (arith, line-few n input))
]

choose-bytes : (test : Bool) (first second : List ℕ) → All IsByte first → All IsByte second → All IsByte (if test then first else second)
choose-bytes true first second one two = one
choose-bytes false first second one two = two

line-bytes : (n : ℕ) (input : List ℕ) → All IsByte input → All IsByte (line_taken n input)
line-bytes zero input all = All-nil IsByte
line-bytes (suc n) [] all = All-nil IsByte
line-bytes (suc n) (byte ∷ input) all =
    All-cons IsByte byte (if byte == 10 then [] else line_taken n input) (All-head IsByte byte input all)
    (choose-bytes (byte == 10) [] (line_taken n input) (All-nil IsByte) (line-bytes n input (All-tail IsByte byte input all)))

-- an entry's bytes
entry-all : (entry : Entry) → IsName entry.name → All IsByte (entry_bytes entry)
unfolding entry_bytes
entry-all entry is =
    All-append IsByte (to_le_bytes w32 entry.inode ++ length entry.name ∷ [] ++ entry.name) (replicate (27 - length entry.name) 0)
    (All-append IsByte (to_le_bytes w32 entry.inode ++ length entry.name ∷ []) entry.name
    (All-append IsByte (to_le_bytes w32 entry.inode) (length entry.name ∷ []) (word-bytes entry.inode) (All-cons IsByte (length entry.name) [] (omega (arith, is.few_bytes)) (All-nil IsByte)))
    (All-weaker IsNameByte IsByte (λ byte three. three.0) entry.name is.bytes))
    (All-replicate IsByte (27 - length entry.name) 0 (omega arith))

entry-size : (entry : Entry) → IsName entry.name → length (entry_bytes entry) ≡ 32
unfolding entry_bytes
entry-size entry is = simp (length-append, length-replicate) (omega (arith, is.few_bytes))

-- entries whose names are such
abbrev Named : Option Entry → Type 0
Named None = Unit {0}
Named (Some entry) = IsName entry.name

listed-all : (n : ℕ) (places : List (Option Entry)) → All Named places → All IsByte (listed_bytes n places)
listed-all zero places all = All-nil IsByte
listed-all (suc n) [] all = All-nil IsByte
listed-all (suc n) (None ∷ places) all = listed-all (suc n) places (All-tail Named None places all)
listed-all (suc n) (Some entry ∷ places) all =
    All-append IsByte (entry_bytes entry) (listed_bytes n places) (entry-all entry (All-head Named (Some entry) places all)) (listed-all n places (All-tail Named (Some entry) places all))

listed-size : (n : ℕ) (places : List (Option Entry)) → All Named places → length (listed_bytes n places) ≤ 32 * n
listed-size zero places all = omega arith
listed-size (suc n) [] all = omega arith
listed-size (suc n) (None ∷ places) all = listed-size (suc n) places (All-tail Named None places all)
listed-size (suc n) (Some entry ∷ places) all =
    let size : length (entry_bytes entry) ≡ 32 = entry-size entry (All-head Named (Some entry) places all) in
    let rest : length (listed_bytes n places) ≤ 32 * n = listed-size n places (All-tail Named (Some entry) places all) in
    simp length-append (omega (arith, size, rest))

-- ---- the line of a call

-- a property of the own process after a line
abbrev GivesOwn : (Process → Type 0) → ℕ → Line → Type 0
GivesOwn P slot (Err errno) = Unit {0}
GivesOwn P slot (Ok Waits) = Unit {0}
GivesOwn P slot (Ok (Goes state)) = If P (at state.processes slot)
GivesOwn P slot (Ok (Takes state taken left)) = If P (at state.processes slot)
GivesOwn P slot (Ok (Puts state put)) = If P (at state.processes slot)

program-phase : (process : Process) (file : List ℕ) (plan : LoadPlan) (strings : List (List ℕ)) → HasPhase (with_program process file plan strings)
unfolding with_program
program-phase process file plan strings = tt

below-end : (n : ℕ) → nat_le pid_end n ≡ false → IsWord n
below-end n e = grind (arith, nat_tests)

below-offset : (n : ℕ) → nat_le offset_end n ≡ false → IsWord n
below-offset n e = grind (arith, nat_tests)

lowest-word : (process : Process) (lowest : ℕ) → lowest_closed process ≡ Some lowest → IsWord lowest
lowest-word process lowest low = omega (arith, (lowest-is process lowest low).0)

or-given : (address : ℕ) (memory : Memory) (word : ℕ) → is_given memory address 4 ≡ true → all_writable memory address (length (word_bytes address word)) ≡ true
or-given address memory word e = elim (cases_Bool (address == 0)) as (λ _. all_writable memory address (length (word_bytes address word)) ≡ true) [
  | inl none ↦ rw none (writable-none memory address)
  | inr some ↦ rw some (rw some at e)
]

word-or-none : (address word : ℕ) → All IsByte (word_bytes address word)
word-or-none address word = choose-bytes (address == 0) [] (to_le_bytes w32 word) (All-nil IsByte) (word-bytes word)

module _ (unix : Unix) (slot : ℕ) (process : Process) (input : List ℕ) (sent : SentCall) (has : HasWords sent) (small : All IsByte input) (inodes : AreInodes unix.files.inodes) (names : AreNames unix.files.inodes)
    (kin : AreKin unix.processes unix.next_pid) where
  abbrev Q : Line → Type 0
  Q line = GivesOwn HasPhase slot line

  no : (errno : Errno) → Q (Err errno)
  no errno = tt

  step : {A : Type 0} (first : Result A Errno) (rest : A → Line) → ((x : A) → first ≡ Ok x → Q (rest x)) → Q (first >>= rest)
  step = through Q no

  need : {A : Type 0} (errno : Errno) (found : Option A) (rest : A → Line) → ((x : A) → found ≡ Some x → Q (rest x)) → Q ((refuse errno unless found) >>= rest)
  need = needs Q no

  ask : (errno : Errno) (test : Bool) (rest : Line) → (test ≡ true → Q rest) → Q ((refuse errno where_not test) >> rest)
  ask = asks Q no

  bar : (errno : Errno) (test : Bool) (rest : Line) → (test ≡ false → Q rest) → Q ((refuse errno when test) >> rest)
  bar = bars Q no

  choose : (test : Bool) (first second : Line) → (test ≡ true → Q first) → (test ≡ false → Q second) → Q (if test then first else second)
  choose = either Q no

  -- a process put into the own slot
  abbrev Puts-own : (ℕ → Option Process) → Process → Type 0
  Puts-own processes next = If HasPhase (at (with_at processes slot (Some next)) slot)

  puts-own : (processes : ℕ → Option Process) (next : Process) → HasPhase next → Puts-own processes next
  puts-own processes next phase = put-own HasPhase processes slot next phase

  -- the answer is a word
  reply : (processes : ℕ → Option Process) (next : Process) (value : ℕ) → IsWord value → Puts-own processes (in_phase next (answered value))
  reply processes next value word = puts-own processes (in_phase next (answered value)) (answer-alone next value word)

  reply-zero : (processes : ℕ → Option Process) (next : Process) → Puts-own processes (in_phase next (answered 0))
  reply-zero processes next = reply processes next 0 (omega arith)

  -- with bytes
  reply-with : (processes : ℕ → Option Process) (next : Process) (value address : ℕ) (bytes : List ℕ) → IsWord value → IsWord address → All IsByte bytes → all_writable next.memory address (length bytes) ≡ true
      → Puts-own processes (in_phase next (answered_with value address bytes))
  reply-with processes next value address bytes word place all may = puts-own processes (in_phase next (answered_with value address bytes)) (answer-bytes next value address bytes word place all may)

  exit-own : (state : Unix) (word : ℕ) → IsWord word → Q (Ok (Goes (with_phase state slot process (Exiting word))))
  exit-own state word is = puts-own state.processes (in_phase process (Exiting word)) is

  given : (number : ℕ) → IsWord (argument_of sent number)
  given number = word-in sent.arguments has.words number

  waits-phase : (wanted address options : ℕ) (found : Option EndedChild) → IsWord address → is_given process.memory address 4 ≡ true → least_ended unix.processes process.pid wanted slot_count ≡ found
      → Q (waits_for unix slot process address options found)
  waits-phase wanted address options (Some ended) word may least =
      let is : IsEndedChild unix.processes process.pid ended = least-ended-is unix.processes process.pid wanted slot_count ended least in
      let most : is.process.pid < unix.next_pid = kin.pids.most ended.slot is.process is.there in
      let limit : unix.next_pid ≤ 2 ^ 31 = kin.pids.limit in
      reply-with _ process ended.pid address (word_bytes address ended.word) (omega (arith, is.pid, most, limit)) word (word-or-none address ended.word) (or-given address process.memory ended.word may)
  waits-phase wanted address options None word may least = choose (options == 1) (replies unix slot process 0) (Ok Waits) (λ e. reply-zero unix.processes process) (λ e. tt)

  waitpid-phase : (wanted address options : ℕ) → IsWord address → is_given process.memory address 4 ≡ true → Q (waitpid_line unix slot process wanted address options)
  waitpid-phase wanted address options word may =
      ask Echild (any_below (λ n. is_waited process.pid wanted (at unix.processes n)) slot_count) (waits_for unix slot process address options (least_ended unix.processes process.pid wanted slot_count))
      (λ e. waits-phase wanted address options (least_ended unix.processes process.pid wanted slot_count) word may refl)

  -- what is read from an inode that is such
  module _ (address count : ℕ) (place : IsWord address) (many : IsWord count) (may : all_writable process.memory address count ≡ true) where
    piece-word : (piece : List ℕ) → length piece ≤ count → IsWord (length piece)
    piece-word piece few = omega (arith, few, many)

    piece-may : (piece : List ℕ) → length piece ≤ count → all_writable process.memory address (length piece) ≡ true
    piece-may piece few = writable-less process.memory address count (length piece) few may

    gives : (processes : ℕ → Option Process) (piece : List ℕ) → All IsByte piece → length piece ≤ count → Puts-own processes (in_phase process (answered_with (length piece) address piece))
    gives processes piece all few = reply-with processes process (length piece) address piece (piece-word piece few) place all (piece-may piece few)

    reads-phase : (file : Opened) (found : Option Inode) → ((inode : Inode) → found ≡ Some inode → IsInode inode) → Q (reads_from unix slot process input file address count found)
    reads-phase file None is = tt
    reads-phase file (Some (File bytes)) is =
        gives _ (take count (drop file.description.offset bytes))
        (All-take IsByte count (drop file.description.offset bytes) (All-drop IsByte file.description.offset bytes (is (File bytes) refl).1)) (taken-few count (drop file.description.offset bytes))
    reads-phase file (Some (Directory parent places)) is = tt
    reads-phase file (Some (Pipe bytes)) is =
        choose ((length bytes == 0) && has_writer unix.files file.description.inode) (Ok Waits) _ (λ e. tt)
        (λ e. gives _ (take count bytes) (All-take IsByte count bytes (is (Pipe bytes) refl).1) (taken-few count bytes))
    reads-phase file (Some Console) is =
        puts-own unix.processes (in_phase process (answered_with (length (line_taken count input)) address (line_taken count input)))
        (answer-bytes process (length (line_taken count input)) address (line_taken count input) (piece-word (line_taken count input) (line-few count input)) place (line-bytes count input small)
        (piece-may (line_taken count input) (line-few count input)))

  reads-inode : (address count : ℕ) (file : Opened) → IsWord address → IsWord count → all_writable process.memory address count ≡ true → Q (reads_from unix slot process input file address count (opened_inode unix file))
  reads-inode address count file place many may = reads-phase address count place many may file (opened_inode unix file) (λ inode e. inodes.each file.description.inode inode e)

  few-written : (written : List ℕ) → length written ≤ 8192 → IsWord (length written)
  few-written written few = omega (arith, few)

  file-phase : (file : Opened) (bytes written : List ℕ) (place : ℕ) → length written ≤ 8192
      → Q (replies (with_written unix file bytes place (take (most_file_bytes - place) written)) slot process (length (take (most_file_bytes - place) written)))
  file-phase file bytes written place few =
      reply unix.processes process (length (take (most_file_bytes - place) written)) (omega (arith, few, taken-less (most_file_bytes - place) written))

  writes-phase : (file : Opened) (written : List ℕ) (found : Option Inode) → length written ≤ 8192 → Q (writes_to unix slot process file written found)
  writes-phase file written None few = tt
  writes-phase file written (Some (File bytes)) few =
      bar Efbig (nat_le most_file_bytes (write_place file.description bytes)) _ (λ below.
      ask Enospc (has_room (with_written unix file bytes (write_place file.description bytes) (take (most_file_bytes - write_place file.description bytes) written))) _ (λ room.
      file-phase file bytes written (write_place file.description bytes) few))
  writes-phase file written (Some (Directory parent places)) few = tt
  writes-phase file written (Some (Pipe bytes)) few =
      ask Epipe (has_reader unix.files file.description.inode) _ (λ reader.
      choose (nat_lt pipe_bytes (length bytes + length written)) (Ok Waits) _ (λ full. tt) (λ fits. reply _ process (length written) (few-written written few)))
  writes-phase file written (Some Console) few = puts-own unix.processes (in_phase process (answered (length written))) (answer-alone process (length written) (few-written written few))

  -- the places of a directory have names that are such
  places-named : (directory : ℕ) → All Named (places_of (at unix.files.inodes directory))
  places-named directory = λ k d below. named-at k (get_or (places_of (at unix.files.inodes directory)) k d) (get_or-any (places_of (at unix.files.inodes directory)) k d below)
    where
      get_or-any : (places : List (Option Entry)) (k : ℕ) (d : Option Entry) → k < length places → get_or places k None ≡ get_or places k d
      get_or-any [] k d below = absurd (omega arith)
      get_or-any (place ∷ places) zero d below = refl
      get_or-any (place ∷ places) (suc k) d below = get_or-any places k d (omega arith)

      named-at : (k : ℕ) (found : Option Entry) → entry_at unix.files.inodes directory k ≡ found → Named found
      named-at k None e = tt
      named-at k (Some entry) e = names.each directory k entry e

  listed-phase : (file : Opened) (address count : ℕ) (processes : ℕ → Option Process) → IsWord address → IsWord count → all_writable process.memory address count ≡ true
      → Puts-own processes
      (in_phase process (answered_with (length (listed_bytes (count / place_bytes) (drop (file.description.offset / place_bytes) (places_of (opened_inode unix file))))) address
      (listed_bytes (count / place_bytes) (drop (file.description.offset / place_bytes) (places_of (opened_inode unix file))))))
  listed-phase file address count processes place many may =
      let places : List (Option Entry) = drop (file.description.offset / place_bytes) (places_of (opened_inode unix file)) in
      let all : All Named places = All-drop Named (file.description.offset / place_bytes) (places_of (opened_inode unix file)) (places-named file.description.inode) in
      gives address count place many may processes (listed_bytes (count / place_bytes) places) (listed-all (count / place_bytes) places all) (omega (arith, listed-size (count / place_bytes) places all))

  kill-phase : (target signal : ℕ) → IsWord signal
      → Q (if target == slot then Ok (Goes (with_phase unix slot process (Exiting signal))) else replies (with_killed unix target signal (at unix.processes target)) slot process 0)
  kill-phase target signal word = choose (target == slot) _ _ (λ e. exit-own unix signal word) (λ e. reply-zero _ process)

  loads-phase : (file : List ℕ) (plan : LoadPlan) (strings : List (List ℕ)) → Q (Ok (Goes (with_loaded unix slot process file plan strings)))
  loads-phase file plan strings = puts-own unix.processes (with_program process file plan strings) (program-phase process file plan strings)

  eight : (processes : ℕ → Option Process) (next : Process) (address first second : ℕ) → IsWord address → all_writable next.memory address 8 ≡ true
      → Puts-own processes (in_phase next (answered_with 0 address (to_le_bytes w32 first ++ to_le_bytes w32 second)))
  eight processes next address first second word may =
      reply-with processes next 0 address (to_le_bytes w32 first ++ to_le_bytes w32 second) (omega arith) word (All-append IsByte (to_le_bytes w32 first) (to_le_bytes w32 second) (word-bytes first) (word-bytes second)) may

  sixteen : (processes : ℕ → Option Process) (next : Process) (address a b c d : ℕ) → IsWord address → all_writable next.memory address 16 ≡ true
      → Puts-own processes (in_phase next (answered_with 0 address (to_le_bytes w32 a ++ to_le_bytes w32 b ++ to_le_bytes w32 c ++ to_le_bytes w32 d)))
  sixteen processes next address a b c d word may =
      reply-with processes next 0 address (to_le_bytes w32 a ++ to_le_bytes w32 b ++ to_le_bytes w32 c ++ to_le_bytes w32 d) (omega arith) word
      (All-append IsByte (to_le_bytes w32 a ++ to_le_bytes w32 b ++ to_le_bytes w32 c) (to_le_bytes w32 d)
      (All-append IsByte (to_le_bytes w32 a ++ to_le_bytes w32 b) (to_le_bytes w32 c) (All-append IsByte (to_le_bytes w32 a) (to_le_bytes w32 b) (word-bytes a) (word-bytes b)) (word-bytes c)) (word-bytes d)) may

  code-word : (code : ℕ) → IsWord (256 * (code % 256))
  code-word code = omega arith

  zero-word : IsWord 0
  zero-word = omega arith

  line-phase : (before : Unix) (wanted : Call) → Sendable before (in_phase process Asked) sent wanted → Q (call_line unix slot process input sent wanted)
  line-phase before call.Exit tests = exit-own unix (256 * (argument_of sent 0 % 256)) (code-word (argument_of sent 0))
  line-phase before call.Fork tests = search (need, bar, ask, reply, below-end) depth 20
  line-phase before call.Exec tests = search (step, need, ask, loads-phase) depth 20
  line-phase before call.Wait tests = waitpid-phase (2 ^ 32 - 1) (argument_of sent 0) 0 (given 0) tests
  line-phase before call.Waitpid tests = waitpid-phase (argument_of sent 0) (argument_of sent 1) (argument_of sent 2) (given 1) tests
  line-phase before call.Getpid tests = tt
  line-phase before call.Getppid tests = tt
  line-phase before call.Brk tests = tt
  line-phase before call.Open tests = search (step, need, reply, lowest-word) depth 20
  line-phase before call.Close tests = reply-zero _ (without_descriptor process (argument_of sent 0))
  line-phase before call.Read tests =
      let place : IsWord (argument_of sent 1) = given 1 in
      let many : IsWord (argument_of sent 2) = given 2 in
      let may : all_writable process.memory (argument_of sent 1) (argument_of sent 2) ≡ true = tests.2.1 in
      search (need, choose, reply-zero, reads-inode, place, many, may) depth 20
  line-phase before call.Write tests =
      let few : length sent.bytes ≤ 8192 = has.few in
      search (need, choose, reply-zero, writes-phase, few) depth 20
  line-phase before call.Lseek tests = search (need, bar, reply, below-offset) depth 20
  line-phase before call.Dup tests = search (need, reply, lowest-word) depth 20
  line-phase before call.Dup2 tests =
      let word : IsWord (argument_of sent 1) = given 1 in
      search (need, choose, reply, word) depth 20
  line-phase before call.Pipe tests =
      let word : IsWord (argument_of sent 0) = given 0 in
      let may : all_writable process.memory (argument_of sent 0) 8 ≡ true = tests in
      search (need, ask, eight, word, may) depth 20
  line-phase before call.Mkdir tests = search (step, bar, reply-zero) depth 20
  line-phase before call.Rmdir tests = search (step, bar, need, ask, reply-zero) depth 20
  line-phase before call.Unlink tests = search (step, need, bar, reply-zero) depth 20
  line-phase before call.Link tests = search (step, need, bar, ask, reply-zero) depth 20
  line-phase before call.Rename tests = search (step, need, bar, choose, reply-zero) depth 20
  line-phase before call.Fstat tests =
      let word : IsWord (argument_of sent 1) = given 1 in
      let may : all_writable process.memory (argument_of sent 1) 16 ≡ true = tests.2 in
      search (need, sixteen, word, may) depth 20
  line-phase before call.Getdents tests =
      let place : IsWord (argument_of sent 1) = given 1 in
      let many : IsWord (argument_of sent 2) = given 2 in
      let may : all_writable process.memory (argument_of sent 1) (argument_of sent 2) ≡ true = tests.2 in
      search (need, ask, listed-phase, place, many, may) depth 20
  line-phase before call.Ftruncate tests = search (need, bar, ask, reply-zero) depth 20
  line-phase before call.Kill tests =
      let word : IsWord (argument_of sent 1) = given 1 in
      search (need, kill-phase, word) depth 20

-- ---- the keeper's answers

abbrev EntryIs : Result Process Errno → Type 0
EntryIs (Err errno) = Unit {0}
EntryIs (Ok after) = HasPhase after

module _ (unix : Unix) (slot : ℕ) (process : Process) (kin : AreKin unix.processes unix.next_pid) (body : HasBody process) (there : at unix.processes slot ≡ Some process) where
  abbrev E : Result Process Errno → Type 0
  E entry = EntryIs entry

  no-entry : (errno : Errno) → E (Err errno)
  no-entry errno = tt

  e-step : {A : Type 0} (first : Result A Errno) (rest : A → Result Process Errno) → ((x : A) → first ≡ Ok x → E (rest x)) → E (first >>= rest)
  e-step = through E no-entry

  e-need : {A : Type 0} (errno : Errno) (found : Option A) (rest : A → Result Process Errno) → ((x : A) → found ≡ Some x → E (rest x)) → E ((refuse errno unless found) >>= rest)
  e-need = needs E no-entry

  e-ask : (errno : Errno) (test : Bool) (rest : Result Process Errno) → (test ≡ true → E rest) → E ((refuse errno where_not test) >> rest)
  e-ask = asks E no-entry

  e-bar : (errno : Errno) (test : Bool) (rest : Result Process Errno) → (test ≡ false → E rest) → E ((refuse errno when test) >> rest)
  e-bar = bars E no-entry

  e-choose : (test : Bool) (first second : Result Process Errno) → (test ≡ true → E first) → (test ≡ false → E second) → E (if test then first else second)
  e-choose = either E no-entry

  pid-word : IsWord process.pid
  pid-word = let most : process.pid < unix.next_pid = kin.pids.most slot process there in let limit : unix.next_pid ≤ 2 ^ 31 = kin.pids.limit in omega (arith, most, limit)

  parent-word : IsWord process.parent
  parent-word = omega (arith, pid-word, kin.parents.older slot process there)

  address-word : (address : ℕ) → nat_lt loads_end address ≡ false → IsWord address
  unfolding loads_end
  address-word address e = grind (arith, nat_tests)

  end-word : IsWord process.break_end
  unfolding loads_end
  end-word = let limit : process.break_end ≤ 0x7FFE_0000 = body.break_is.limit in omega (arith, limit)

  answer-entry : (next : Process) (value : ℕ) → IsWord value → E (answers next value)
  answer-entry next value word = answer-alone next value word

  call-phase : (wanted : Call) → E (call_enters unix slot process (argument process 0) (argument process 1) (argument process 2) wanted)
  call-phase call.Exit = tt
  call-phase call.Fork = tt
  call-phase call.Exec = search (e-step, tt) depth 20
  call-phase call.Wait = search (e-ask, tt) depth 20
  call-phase call.Waitpid = search (e-bar, e-ask, tt) depth 20
  call-phase call.Getpid = answer-entry process process.pid pid-word
  call-phase call.Getppid = answer-entry process process.parent parent-word
  call-phase call.Brk = search (e-choose, e-bar, e-ask, answer-entry, end-word, address-word) depth 20
  call-phase call.Open = search (e-step, e-ask, tt) depth 20
  call-phase call.Close = search (e-need, tt) depth 20
  call-phase call.Read = search (e-need, e-ask, tt) depth 20
  call-phase call.Write = search (e-need, e-ask, tt) depth 20
  call-phase call.Lseek = search (e-need, e-bar, tt) depth 20
  call-phase call.Dup = search (e-need, tt) depth 20
  call-phase call.Dup2 = search (e-need, e-bar, tt) depth 20
  call-phase call.Pipe = search (e-ask, tt) depth 20
  call-phase call.Mkdir = search (e-step, tt) depth 20
  call-phase call.Rmdir = search (e-step, tt) depth 20
  call-phase call.Unlink = search (e-step, tt) depth 20
  call-phase call.Link = search (e-step, tt) depth 20
  call-phase call.Rename = search (e-step, tt) depth 20
  call-phase call.Fstat = search (e-need, e-ask, tt) depth 20
  call-phase call.Getdents = search (e-need, e-bar, e-ask, tt) depth 20
  call-phase call.Ftruncate = search (e-need, e-ask, e-bar, tt) depth 20
  call-phase call.Kill = search (e-ask, e-bar, tt) depth 20

  entry-phase : (calls : Calls) → E (entered_line calls unix slot process)
  unfolding entered_line
  entry-phase calls =
      e-need Enosys (calls (argument process 7)) (λ asked. call_enters unix slot process (argument process 0) (argument process 1) (argument process 2) asked) (λ asked e. call-phase asked)

  or-phase : (entry : Result Process Errno) → E entry → HasPhase (or_refused process entry)
  or-phase (Ok after) is = is
  or-phase (Err errno) is = refused-is process errno

-- ---- the process of a turn

cause-phase : (process : Process) (cause : Cause) → IsPhase process (Exiting (signal_of cause))
cause-phase process Illegal = omega arith
cause-phase process BadTarget = omega arith
cause-phase process BadFetch = omega arith
cause-phase process BadLoad = omega arith
cause-phase process BadStore = omega arith

after-phase : (process : Process) (done : Outcome) → IsPhase process (phase_after done)
after-phase process outcome.Next = tt
after-phase process outcome.Call = tt
after-phase process outcome.Break = omega arith
after-phase process (outcome.Fault cause) = cause-phase process cause

ran-phase : (process : Process) → HasPhase (ran process)
unfolding ran
ran-phase process = after-phase (ran process) (executed process.registers process.memory).outcome

returned-phase : (process : Process) (value address : ℕ) (bytes : List ℕ) → HasPhase (returned process value address bytes)
unfolding returned
returned-phase process value address bytes = tt

adopted-is : (ended : ℕ) (process : Process) → HasPhase process → HasPhase (adopted ended process)
adopted-is ended process is = elim (cases_Bool (process.parent == ended)) as (λ _. HasPhase (adopted ended process)) [
  | inl orphan ↦ rw orphan is
  | inr other ↦ rw other is
]

settled-phase : (unix : Unix) (slot : ℕ) (process : Process) (input : List ℕ) (line : Line) → Each HasPhase unix.processes → GivesOwn HasPhase slot line → If HasPhase (at (settled unix slot process input line).state.processes slot)
settled-phase unix slot process input (Err errno) each gives = put-own HasPhase unix.processes slot (refused process errno) (refused-is process errno)
settled-phase unix slot process input (Ok Waits) each gives = if-at HasPhase unix.processes slot each
settled-phase unix slot process input (Ok (Goes state)) each gives = gives
settled-phase unix slot process input (Ok (Takes state taken left)) each gives = gives
settled-phase unix slot process input (Ok (Puts state put)) each gives = gives

module _ (calls : Calls) (unix : Unix) (slot : ℕ) (input : List ℕ) (small : All IsByte input) (inodes : AreInodes unix.files.inodes) (names : AreNames unix.files.inodes) (kin : AreKin unix.processes unix.next_pid)
    (sent_so : AreSent calls unix) (bodies : Each HasBody unix.processes) (each : Each HasPhase unix.processes) where
  closed-phase : (process : Process) (word number : ℕ) (found : Option ℕ) → at unix.processes slot ≡ Some process → process.phase ≡ Exiting word
      → If HasPhase (at (with_descriptor_closed unix slot process number found).processes slot)
  closed-phase process word number None there is = if-at HasPhase unix.processes slot each
  closed-phase process word number (Some description) there is =
      subst (λ (processes : ℕ → Option Process). If HasPhase (at processes slot)) (sym (released-processes (with_process unix slot (without_descriptor process number)) description))
      (put-own HasPhase unix.processes slot (without_descriptor process number)
      (subst (IsPhase (without_descriptor process number)) (sym is) (subst (IsPhase process) is (each slot process there))))

  ended-phase : (process : Process) (word : ℕ) → IsWord word → If HasPhase (at (with_orphans_adopted process.pid (with_process unix slot (zombie process word))).processes slot)
  unfolding at
  ended-phase process word is =
      if-adopted HasPhase process.pid (adopted-is process.pid) (at (with_at unix.processes slot (Some (zombie process word))) slot)
      (put-own HasPhase unix.processes slot (zombie process word) (is, refl, refl, refl))

  exit-phase : (process : Process) (word : ℕ) (found : Option ℕ) → at unix.processes slot ≡ Some process → process.phase ≡ Exiting word → If HasPhase (at (exit_step unix slot process word found).processes slot)
  exit-phase process word (Some lowest) there is = closed-phase process word lowest (descriptor process lowest) there is
  exit-phase process word None there is = ended-phase process word (subst (IsPhase process) is (each slot process there))

  sent-tests : (process : Process) (sent : SentCall) → at unix.processes slot ≡ Some process → process.phase ≡ Sent sent → Sendable (with_phase unix slot process Asked) (in_phase process Asked) sent sent.call
  unfolding AreSent
  sent-tests process sent there is = tested calls (with_phase unix slot process Asked) slot process sent (sent_so slot process sent there is) is

  in-phase : (process : Process) (phase : Phase) → at unix.processes slot ≡ Some process → process.phase ≡ phase → If HasPhase (at (turned_in calls unix slot process input phase).state.processes slot)
  in-phase process Run there is = put-own HasPhase unix.processes slot (ran process) (ran-phase process)
  in-phase process Asked there is =
      put-own HasPhase unix.processes slot (or_refused process (entered_line calls unix slot process))
      (or-phase unix slot process kin (bodies slot process there) there (entered_line calls unix slot process) (entry-phase unix slot process kin (bodies slot process there) there calls))
  in-phase process (Sent sent) there is =
      settled-phase unix slot process input (call_line unix slot process input sent sent.call) each
      (line-phase unix slot process input sent (sent-words calls unix slot process sent sent_so (bodies slot process there).registers_are (bodies slot process there).memory_is there is) small inodes names kin
      (with_phase unix slot process Asked) sent.call (sent-tests process sent there is))
  in-phase process (Done value address bytes) there is = put-own HasPhase unix.processes slot (returned process value address bytes) (returned-phase process value address bytes)
  in-phase process (Exiting word) there is = exit-phase process word (lowest_open process) there is
  in-phase process (Zombie word) there is = if-at HasPhase unix.processes slot each

  own-phase : (found : Option Process) → at unix.processes slot ≡ found → If HasPhase (at (turned_at calls unix slot input found).state.processes slot)
  own-phase None there = if-at HasPhase unix.processes slot each
  own-phase (Some process) there = in-phase process process.phase there refl

  signal-word : (signal : ℕ) → SendsSignal unix slot signal → IsWord signal
  signal-word signal by =
      let has : HasWords by.sent = sent-words calls unix slot by.mine by.sent sent_so (bodies slot by.mine by.there).registers_are (bodies slot by.mine by.there).memory_is by.there by.phase in
      subst IsWord (sym by.signal_is) (word-in by.sent.arguments has.words 1)

  phase-passes : Passes HasPhase unix slot
  phase-passes =
      record {
        to_child = λ process is. answer-alone (child unix.next_pid process) 0 (omega arith);
        by_signal = λ process signal by is. signal-word signal by;
        by_adoption = adopted-is;
      }

  turn-phases : Each HasPhase (turned calls unix slot input).state.processes
  unfolding turned
  turn-phases =
      each-after HasPhase unix slot phase-passes each (turned_at calls unix slot input (at unix.processes slot)).state (at-changes calls unix slot input (at unix.processes slot) refl)
      (own-phase (at unix.processes slot) refl)

pub phases_kept : PhasesKept
phases_kept calls unix slot input small inodes names kin sent_so bodies each = turn-phases calls unix slot input small inodes names kin sent_so bodies each
