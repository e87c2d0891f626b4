-- What a call can do to the state: each line of the table of calls gives one of these states, with what its tests tell.
use Rattle.std.proofs.Common.{◌≡◌, ℕ, zero, suc, ◌+◌, ◌-◌, ◌*◌, ◌/◌, ◌%◌, ◌^◌, Bool, true, false, List, [], ◌∷◌, ◌++◌, take, drop, length, Option, Some, None, Result, Ok, Err, refl, ap, inl, inr}
use Rattle.std.proofs.lemmas.Bool.{cases_Bool}
use Rattle.std.specs.Prelude.{if◌then◌else◌, ◌==◌, ◌&&◌, not, is_some, nat_le, nat_lt}
use Rattle.unix_model.specs.declared.calls.Call.{Call}
use Rattle.unix_model.specs.declared.calls.Call.TheVariants as call
use Rattle.unix_model.specs.declared.calls.Errno.{Errno}
use Rattle.unix_model.specs.declared.calls.Errno.TheVariants.{Echild, Eexist, Eisdir, Enoent, Enospc, Enotdir, Enotempty}
use Rattle.unix_model.specs.Effect.{Line, Waits, Goes, argument_of, replies, text_of, texts_of}
use Rattle.unix_model.specs.Elf.{LoadPlan, plan_of}
use Rattle.unix_model.specs.Enter.{has_flag}
use Rattle.unix_model.specs.FileCalls.{is_stream, line_left, line_taken, looked_at, reads_from, with_contents, with_descriptors, with_offset, with_pipe, with_resized, with_written, writes_to}
use Rattle.unix_model.specs.Files.{next_description, Files, Inode, File, Directory, Pipe, Console, free_description, free_inode, has_names, has_writer, is_full, is_within, with_inode_dropped, with_name_moved, is_directory, file_bytes, places_of}
use Rattle.unix_model.specs.Limits.{inode_count, most_file_bytes, offset_end, pid_end, pipe_bytes, place_bytes, slot_count}
use Rattle.unix_model.specs.NameCalls.{ToOpen, made, to_open, opens_to_change, opening, moved, removed, renamed, is_same, with_link, with_made, with_opened, with_truncated}
use Rattle.unix_model.specs.Paths.{Spot, walked, is_root, is_dots, is_slashed}
use Rattle.unix_model.specs.Process.{Process, SentCall, Phase, Run, Asked, Sent, Done, Exiting, Zombie, answered, answered_with, descriptor, lowest_closed, next_closed, with_descriptor, without_descriptor}
use Rattle.unix_model.specs.ProcessCalls.{EndedChild, forked, is_waited, least_ended, waitpid_line, with_killed, with_loaded, waits_for, program}
use Rattle.unix_model.specs.Refusals.{◌>>=◌, ◌>>◌, refuse◌when◌, refuse◌where_not◌, refuse◌unless◌}
use Rattle.unix_model.specs.Room.{has_room}
use Rattle.unix_model.specs.State.{Unix, Opened, free_slot, opened, opened_inode, slot_of, with_descriptor_closed, with_files, with_phase, without_process}
use Rattle.unix_model.specs.Tables.{any_below, at}
use Rattle.unix_model.specs.Turn.{call_line}
use Rattle.unix_laws.proofs.Lines.{Gives, Tells, tells-nothing, tells-of, through, needs, asks, bars, either}

-- the phase of a call that is answered
abbrev pub IsAnswer : Phase → Type 0
IsAnswer Run = ⊥
IsAnswer Asked = ⊥
IsAnswer (Sent sent) = ⊥
IsAnswer (Done value address bytes) = Unit {0}
IsAnswer (Exiting word) = ⊥
IsAnswer (Zombie word) = ⊥

answer-with : (value address : ℕ) (bytes : List ℕ) → IsAnswer (answered_with value address bytes)
answer-with value address [] = tt
answer-with value address (byte ∷ bytes) = tt

-- the number of a new inode, with a place and room for it
pub data Making (unix : Unix) (spot : Spot) (new : Inode) : ℕ → Type 0 where
  makes : (number : ℕ) → free_inode unix.files.inodes ≡ Some number → is_full unix.files spot.directory ≡ false → has_room (with_made unix spot number new) ≡ true
      → Making unix spot new number

-- what is opened
pub data Opening (unix : Unix) (flags : ℕ) (spot : Spot) : ToOpen → Type 0 where
  finds : (number : ℕ) → spot.inode ≡ Some number → (is_directory (at unix.files.inodes number) && opens_to_change flags) ≡ false
      → Opening unix flags spot (record { state = with_truncated unix flags number; inode = number })
  creates : (number : ℕ) → spot.inode ≡ None → Making unix spot (File []) number
      → Opening unix flags spot (record { state = with_made unix spot number (File []); inode = number })

-- a name that goes onto another, or to a place where none stands
pub data Renaming (unix : Unix) (from to : Spot) (named : ℕ) : Files → Type 0 where
  onto : (other : ℕ) → to.inode ≡ Some other → (is_directory (at unix.files.inodes named) && not (is_directory (at unix.files.inodes other))) ≡ false
      → (is_directory (at unix.files.inodes other) && not (is_directory (at unix.files.inodes named))) ≡ false → has_names (at unix.files.inodes other) ≡ false
      → Renaming unix from to named (with_inode_dropped (moved (with_name_moved unix.files to.directory to.name named) from to named) other)
  anew : to.inode ≡ None → is_full unix.files to.directory ≡ false → has_room (with_link unix to named) ≡ true
      → Renaming unix from to named (moved (with_link unix to named).files from to named)

-- what a call that was sent does; paths are among the texts that it brings
pub data Changes (unix : Unix) (slot : ℕ) (process : Process) (sent : SentCall) : Unix → Type 0 where
  settles : (phase : Phase) → IsAnswer phase → Changes unix slot process sent (with_phase unix slot process phase)
  exits : (word : ℕ) → Changes unix slot process sent (with_phase unix slot process (Exiting word))
  forks : (place : ℕ) → free_slot unix.processes ≡ Some place → nat_le pid_end unix.next_pid ≡ false → has_room (forked unix place process) ≡ true
      → Changes unix slot process sent (with_phase (forked unix place process) slot process (answered unix.next_pid))
  loads : (inode : ℕ) (file : List ℕ) (plan : LoadPlan) → file_bytes (at unix.files.inodes inode) ≡ Some file → program (plan_of file) ≡ Ok plan → has_room (with_loaded unix slot process file plan (drop 1 (texts_of sent))) ≡ true
      → Changes unix slot process sent (with_loaded unix slot process file plan (drop 1 (texts_of sent)))
  reaps : (wanted : ℕ) (ended : EndedChild) (phase : Phase) → least_ended unix.processes process.pid wanted slot_count ≡ Some ended → IsAnswer phase
      → Changes unix slot process sent (with_phase (without_process unix ended.slot) slot process phase)
  kills : (pid target signal : ℕ) → signal ≡ argument_of sent 1 → slot_of unix.processes pid ≡ Some target → target == slot ≡ false
      → Changes unix slot process sent (with_phase (with_killed unix target signal (at unix.processes target)) slot process (answered 0))
  dups : (number lowest : ℕ) (file : Opened) → opened unix process number ≡ Some file → lowest_closed process ≡ Some lowest
      → Changes unix slot process sent (with_phase unix slot (with_descriptor process lowest file.number) (answered lowest))
  closes : (number : ℕ)
      → Changes unix slot process sent (with_phase (with_descriptor_closed unix slot process number (descriptor process number)) slot (without_descriptor process number) (answered 0))
  dups_to : (number to : ℕ) (file : Opened) → opened unix process number ≡ Some file → number == to ≡ false
      → Changes unix slot process sent (with_phase (with_descriptor_closed unix slot process to (descriptor process to)) slot (with_descriptor process to file.number) (answered to))
  pipes : (first second reader writer number : ℕ) (phase : Phase) → lowest_closed process ≡ Some first → next_closed process first ≡ Some second
      → free_description unix.files.descriptions ≡ Some reader → next_description unix.files.descriptions reader ≡ Some writer
      → free_inode unix.files.inodes ≡ Some number → has_room (with_pipe unix number reader writer) ≡ true → IsAnswer phase
      → Changes unix slot process sent (with_phase (with_pipe unix number reader writer) slot (with_descriptors process first reader second writer) phase)
  reads_file : (number count : ℕ) (file : Opened) (bytes : List ℕ) (phase : Phase) → opened unix process number ≡ Some file → opened_inode unix file ≡ Some (File bytes) → IsAnswer phase
      → Changes unix slot process sent (with_phase (with_files unix (with_offset unix.files file (file.description.offset + length (take count (drop file.description.offset bytes))))) slot process phase)
  seeks : (number place : ℕ) (file : Opened) → opened unix process number ≡ Some file → is_stream (opened_inode unix file) ≡ false
      → (is_directory (opened_inode unix file) && not (place % place_bytes == 0)) ≡ false → nat_le offset_end place ≡ false
      → Changes unix slot process sent (with_phase (with_files unix (with_offset unix.files file place)) slot process (answered place))
  lists : (number count : ℕ) (file : Opened) (phase : Phase) → opened unix process number ≡ Some file → is_directory (opened_inode unix file) ≡ true → IsAnswer phase
      → Changes unix slot process sent (with_phase (with_files unix (with_offset unix.files file (file.description.offset + place_bytes * looked_at count (drop (file.description.offset / place_bytes) (places_of (opened_inode unix file)))))) slot process phase)
  takes_pipe : (number count : ℕ) (file : Opened) (bytes : List ℕ) (phase : Phase) → opened unix process number ≡ Some file → opened_inode unix file ≡ Some (Pipe bytes) → IsAnswer phase
      → Changes unix slot process sent (with_phase (with_files unix (with_contents unix.files file (Pipe (drop count bytes)))) slot process phase)
  puts_pipe : (number : ℕ) (file : Opened) (bytes written : List ℕ) → written ≡ sent.bytes → opened unix process number ≡ Some file → opened_inode unix file ≡ Some (Pipe bytes)
      → nat_lt pipe_bytes (length bytes + length written) ≡ false
      → Changes unix slot process sent (with_phase (with_files unix (with_contents unix.files file (Pipe (bytes ++ written)))) slot process (answered (length written)))
  writes_file : (number place : ℕ) (file : Opened) (bytes written : List ℕ) → written ≡ sent.bytes → opened unix process number ≡ Some file → opened_inode unix file ≡ Some (File bytes)
      → nat_le most_file_bytes place ≡ false → has_room (with_written unix file bytes place (take (most_file_bytes - place) written)) ≡ true
      → Changes unix slot process sent (with_phase (with_written unix file bytes place (take (most_file_bytes - place) written)) slot process (answered (length (take (most_file_bytes - place) written))))
  resizes : (number size : ℕ) (file : Opened) (bytes : List ℕ) → opened unix process number ≡ Some file → file_bytes (opened_inode unix file) ≡ Some bytes
      → nat_lt most_file_bytes size ≡ false → has_room (with_resized unix file bytes size) ≡ true
      → Changes unix slot process sent (with_phase (with_resized unix file bytes size) slot process (answered 0))
  opens : (path flags number lowest : ℕ) (spot : Spot) (new : ToOpen) → lowest_closed process ≡ Some lowest → free_description unix.files.descriptions ≡ Some number
      → walked unix.files (text_of sent path) ≡ Ok spot → Opening unix flags spot new
      → Changes unix slot process sent (with_phase (with_opened new.state number (opening flags new.inode)) slot (with_descriptor process lowest number) (answered lowest))
  makes_directory : (path : ℕ) (spot : Spot) (number : ℕ) → walked unix.files (text_of sent path) ≡ Ok spot → is_some spot.inode ≡ false → Making unix spot (Directory spot.directory []) number
      → Changes unix slot process sent (with_phase (with_made unix spot number (Directory spot.directory [])) slot process (answered 0))
  removes_directory : (path : ℕ) (spot : Spot) (gone : ℕ) → walked unix.files (text_of sent path) ≡ Ok spot → is_root spot ≡ false → is_dots spot ≡ false → spot.inode ≡ Some gone
      → is_directory (at unix.files.inodes gone) ≡ true → has_names (at unix.files.inodes gone) ≡ false
      → Changes unix slot process sent (with_phase (with_files unix (removed unix.files spot gone)) slot process (answered 0))
  unlinks : (path : ℕ) (spot : Spot) (gone : ℕ) → walked unix.files (text_of sent path) ≡ Ok spot → spot.inode ≡ Some gone → is_directory (at unix.files.inodes gone) ≡ false
      → Changes unix slot process sent (with_phase (with_files unix (removed unix.files spot gone)) slot process (answered 0))
  links : (old new : ℕ) (from to : Spot) (linked : ℕ) → walked unix.files (text_of sent old) ≡ Ok from → from.inode ≡ Some linked → is_directory (at unix.files.inodes linked) ≡ false
      → walked unix.files (text_of sent new) ≡ Ok to → is_some to.inode ≡ false → is_full unix.files to.directory ≡ false → has_room (with_link unix to linked) ≡ true
      → Changes unix slot process sent (with_phase (with_link unix to linked) slot process (answered 0))
  renames : (old new : ℕ) (from to : Spot) (named : ℕ) (files : Files) → walked unix.files (text_of sent old) ≡ Ok from → is_root from ≡ false → is_dots from ≡ false → from.inode ≡ Some named
      → walked unix.files (text_of sent new) ≡ Ok to → is_root to ≡ false → is_dots to ≡ false → is_same named to.inode ≡ false
      → (is_directory (at unix.files.inodes named) && is_within unix.files.inodes named inode_count to.directory) ≡ false
      → Renaming unix from to named files
      → Changes unix slot process sent (with_phase (with_files unix files) slot process (answered 0))

making : (unix : Unix) (spot : Spot) (new : Inode) → Tells (Making unix spot new) (made unix spot new)
making unix spot new =
    needs (Tells (Making unix spot new)) (tells-nothing (Making unix spot new)) Enospc (free_inode unix.files.inodes) _ (λ number free.
    bars (Tells (Making unix spot new)) (tells-nothing (Making unix spot new)) Enospc (is_full unix.files spot.directory) _ (λ place.
    asks (Tells (Making unix spot new)) (tells-nothing (Making unix spot new)) Enospc (has_room (with_made unix spot number new)) _ (λ room. makes number free place room)))

pub making-of : (unix : Unix) (spot : Spot) (new : Inode) (number : ℕ) → made unix spot new ≡ Ok number → Making unix spot new number
making-of unix spot new number e = tells-of (Making unix spot new) (made unix spot new) number (making unix spot new) e

opens-found : (unix : Unix) (path : List ℕ) (flags : ℕ) (spot : Spot) (found : Option ℕ) (result : ToOpen) → spot.inode ≡ found → to_open unix path flags spot found ≡ Ok result → Opening unix flags spot result
opens-found unix path flags spot None result is e =
    tells-of (Opening unix flags spot) (to_open unix path flags spot None) result
    (asks (Tells (Opening unix flags spot)) (tells-nothing (Opening unix flags spot)) Enoent (has_flag flags 16) _ (λ create.
    bars (Tells (Opening unix flags spot)) (tells-nothing (Opening unix flags spot)) Enotdir (is_slashed path) _ (λ bare.
    through (Tells (Opening unix flags spot)) (tells-nothing (Opening unix flags spot)) (made unix spot (File [])) _ (λ number new.
    creates number is (making-of unix spot (File []) number new))))) e
opens-found unix path flags spot (Some number) result is e =
    tells-of (Opening unix flags spot) (to_open unix path flags spot (Some number)) result
    (bars (Tells (Opening unix flags spot)) (tells-nothing (Opening unix flags spot)) Eexist (has_flag flags 16 && has_flag flags 32) _ (λ may.
    bars (Tells (Opening unix flags spot)) (tells-nothing (Opening unix flags spot)) Eisdir (is_directory (at unix.files.inodes number) && opens_to_change flags) _ (λ reads.
    finds number is reads))) e

renames-found : (unix : Unix) (from to : Spot) (named : ℕ) (found : Option ℕ) (files : Files) → to.inode ≡ found → renamed unix from to named found ≡ Ok files → Renaming unix from to named files
renames-found unix from to named None files is e =
    tells-of (Renaming unix from to named) (renamed unix from to named None) files
    (bars (Tells (Renaming unix from to named)) (tells-nothing (Renaming unix from to named)) Enospc (is_full unix.files to.directory) _ (λ place.
    asks (Tells (Renaming unix from to named)) (tells-nothing (Renaming unix from to named)) Enospc (has_room (with_link unix to named)) _ (λ room. anew is place room))) e
renames-found unix from to named (Some other) files is e =
    tells-of (Renaming unix from to named) (renamed unix from to named (Some other)) files
    (bars (Tells (Renaming unix from to named)) (tells-nothing (Renaming unix from to named)) Enotdir (is_directory (at unix.files.inodes named) && not (is_directory (at unix.files.inodes other))) _ (λ first.
    bars (Tells (Renaming unix from to named)) (tells-nothing (Renaming unix from to named)) Eisdir (is_directory (at unix.files.inodes other) && not (is_directory (at unix.files.inodes named))) _ (λ second.
    bars (Tells (Renaming unix from to named)) (tells-nothing (Renaming unix from to named)) Enotempty (has_names (at unix.files.inodes other)) _ (λ third. onto other is first second third)))) e

-- what a line of the console's input takes and leaves
line-parts : (n : ℕ) (input : List ℕ) → line_taken n input ++ line_left n input ≡ input
line-parts zero input = refl
line-parts (suc n) [] = refl
line-parts (suc n) (byte ∷ input) =
    elim (cases_Bool (byte == 10)) as (λ _. (byte ∷ (if byte == 10 then [] else line_taken n input)) ++ (if byte == 10 then input else line_left n input) ≡ byte ∷ input) [
      | inl ends ↦ rw ends refl
      | inr goes ↦ rw goes (ap (λ rest. byte ∷ rest) (line-parts n input))
    ]

module _ (unix : Unix) (slot : ℕ) (process : Process) (input : List ℕ) (sent : SentCall) where
  abbrev Q : Line → Type 0
  Q line = Gives (Changes unix slot process sent) input line

  refused : (errno : Errno) → Q (Err errno)
  refused errno = tt

  step : {A : Type 0} (first : Result A Errno) (rest : A → Line) → ((x : A) → first ≡ Ok x → Q (rest x)) → Q (first >>= rest)
  step = through Q refused

  need : {A : Type 0} (errno : Errno) (found : Option A) (rest : A → Line) → ((x : A) → found ≡ Some x → Q (rest x)) → Q ((refuse errno unless found) >>= rest)
  need = needs Q refused

  ask : (errno : Errno) (test : Bool) (rest : Line) → (test ≡ true → Q rest) → Q ((refuse errno where_not test) >> rest)
  ask = asks Q refused

  bar : (errno : Errno) (test : Bool) (rest : Line) → (test ≡ false → Q rest) → Q ((refuse errno when test) >> rest)
  bar = bars Q refused

  choose : (test : Bool) (first second : Line) → (test ≡ true → Q first) → (test ≡ false → Q second) → Q (if test then first else second)
  choose = either Q refused

  waits-change : (wanted address options : ℕ) (found : Option EndedChild) → least_ended unix.processes process.pid wanted slot_count ≡ found → Q (waits_for unix slot process address options found)
  waits-change wanted address options (Some ended) least = reaps wanted ended _ least (answer-with _ _ _)
  waits-change wanted address options None least = choose (options == 1) (replies unix slot process 0) (Ok Waits) (λ e. settles (answered 0) tt) (λ e. tt)

  reads-change : (number address count : ℕ) (file : Opened) (found : Option Inode) → opened unix process number ≡ Some file → opened_inode unix file ≡ found
      → Q (reads_from unix slot process input file address count found)
  reads-change number address count file (Some (File bytes)) there is = reads_file number count file bytes _ there is (answer-with _ _ _)
  reads-change number address count file (Some (Pipe bytes)) there is =
      choose ((length bytes == 0) && has_writer unix.files file.description.inode) (Ok Waits) (Ok (Goes (with_phase (with_files unix (with_contents unix.files file (Pipe (drop count bytes)))) slot process (answered_with (length (take count bytes)) address (take count bytes)))))
      (λ e. tt) (λ e. takes_pipe number count file bytes _ there is (answer-with _ _ _))
  reads-change number address count file (Some Console) there is = (settles _ (answer-with _ _ _), line-parts count input)
  reads-change number address count file (Some (Directory parent places)) there is = tt
  reads-change number address count file None there is = tt

  writes-change : (number : ℕ) (file : Opened) (written : List ℕ) (found : Option Inode) → written ≡ sent.bytes → opened unix process number ≡ Some file → opened_inode unix file ≡ found
      → Q (writes_to unix slot process file written found)
  writes-change number file written (Some (File bytes)) given_so there is = search (ask, bar, writes_file, tt) depth 14
  writes-change number file written (Some (Pipe bytes)) given_so there is = search (ask, bar, choose, puts_pipe, tt) depth 14
  writes-change number file written (Some Console) given_so there is = settles _ tt
  writes-change number file written (Some (Directory parent places)) given_so there is = tt
  writes-change number file written None given_so there is = tt

  kill-change : (pid signal target : ℕ) → signal ≡ argument_of sent 1 → slot_of unix.processes pid ≡ Some target
      → Q (if target == slot then Ok (Goes (with_phase unix slot process (Exiting signal))) else replies (with_killed unix target signal (at unix.processes target)) slot process 0)
  kill-change pid signal target given_so there =
      choose (target == slot) (Ok (Goes (with_phase unix slot process (Exiting signal)))) (replies (with_killed unix target signal (at unix.processes target)) slot process 0)
      (λ e. exits signal) (λ e. kills pid target signal given_so there e)

  waitpid-change : (pid address options : ℕ) → Q (waitpid_line unix slot process pid address options)
  waitpid-change pid address options =
      ask Echild (any_below (λ n. is_waited process.pid pid (at unix.processes n)) slot_count) (waits_for unix slot process address options (least_ended unix.processes process.pid pid slot_count))
      (λ e. waits-change pid address options (least_ended unix.processes process.pid pid slot_count) refl)

  -- each line, by its tests
  pub line-changes : (wanted : Call) → Q (call_line unix slot process input sent wanted)
  line-changes call.Exit = exits _
  line-changes call.Fork = search (step, need, ask, bar, choose, forks) depth 14
  line-changes call.Exec = search (step, need, ask, loads) depth 20
  line-changes call.Wait = waitpid-change (2 ^ 32 - 1) (argument_of sent 0) 0
  line-changes call.Waitpid = waitpid-change (argument_of sent 0) (argument_of sent 1) (argument_of sent 2)
  line-changes call.Getpid = tt
  line-changes call.Getppid = tt
  line-changes call.Brk = tt
  line-changes call.Open = search (step, need, opens, opens-found, refl) depth 20
  line-changes call.Close = closes _
  line-changes call.Read = search (need, choose, settles, reads-change, refl, tt) depth 20
  line-changes call.Write = search (need, choose, settles, writes-change, refl, tt) depth 20
  line-changes call.Lseek = search (need, bar, seeks) depth 20
  line-changes call.Dup = search (need, dups) depth 14
  line-changes call.Dup2 = search (need, choose, settles, dups_to, tt) depth 20
  line-changes call.Pipe = search (need, ask, pipes, answer-with) depth 20
  line-changes call.Mkdir = search (step, bar, makes_directory, making-of) depth 20
  line-changes call.Rmdir = search (step, bar, need, ask, removes_directory) depth 20
  line-changes call.Unlink = search (step, need, bar, unlinks) depth 20
  line-changes call.Link = search (step, need, bar, ask, links) depth 20
  line-changes call.Rename = search (step, need, bar, choose, settles, renames, renames-found, refl, tt) depth 20
  line-changes call.Fstat = search (need, settles, answer-with) depth 20
  line-changes call.Getdents = search (need, ask, lists, answer-with) depth 20
  line-changes call.Ftruncate = search (need, bar, ask, resizes) depth 20
  line-changes call.Kill = search (need, kill-change, refl) depth 20
