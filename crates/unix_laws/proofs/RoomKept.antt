-- A turn promises no more than it may: each change either promises no more than before it, or was tested for room.
use Rattle.std.proofs.Common.{◌≡◌, ℕ, ◌+◌, ◌-◌, ◌*◌, ◌/◌, ◌≤◌, true, List, [], ◌∷◌, ◌++◌, take, drop, length, Option, Some, None, arith, refl, subst, ap, ◌∙◌, inl, inr}
use Rattle.std.proofs.lemmas.Bool.{cases_Bool}
use Rattle.std.proofs.lemmas.Bool.Decides.{eqb_tells, nat_tests}
use Rattle.std.specs.Int.{bytes_low_first}
use Rattle.std.specs.Prelude.{if◌then◌else◌, ◌==◌, is_some, nat_le, option_map}
use Rattle.unix_model.specs.declared.instructions.Access.{Access}
use Rattle.unix_model.specs.declared.instructions.Access.TheVariants.{Finished, Load as WantsLoad, Store as WantsStore}
use Rattle.unix_model.specs.declared.instructions.Instr.{Instr}
use Rattle.unix_model.specs.declared.instructions.Regs.{Regs}
use Rattle.unix_model.specs.Boot.{empty_machine, started}
use Rattle.unix_model.specs.Enter.{has_flag, with_moved_break}
use Rattle.unix_model.specs.Execution as exec
use Rattle.unix_model.specs.FileCalls.{looked_at, with_offset, with_contents, with_descriptors, with_pipe, with_written, with_resized}
use Rattle.unix_model.specs.Files.{Files, Inode, File, Directory, Pipe, Console, Description, Entry, inode_pages, is_kept, parent_of, places_of, with_inode_dropped, with_description_freed, with_inode, with_place, with_places, with_name_moved, without_name, place_inode, with_description}
use Rattle.unix_model.specs.Instructions.{decoded}
use Rattle.unix_model.specs.Limits.{most_file_bytes, place_bytes}
use Rattle.unix_model.specs.Memory.{Memory, mapped_pages, all_writable, bytes_at, word_at}
use Rattle.unix_model.specs.NameCalls.{ToOpen, removed, opening, moved, with_link, with_made, with_opened, with_parent, with_truncated}
use Rattle.unix_model.specs.Paths.{Spot}
use Rattle.unix_model.specs.Process.{Process, SentCall, Phase, Run, Asked, Sent, Done, Exiting, Zombie, answered, descriptor, in_phase, with_descriptor, without_descriptor, zombie}
use Rattle.unix_model.specs.ProcessCalls.{child, forked, with_loaded, with_killed, is_ending}
use Rattle.unix_model.specs.Room.{promised, has_room, process_pages, live_pages}
use Rattle.unix_model.specs.State.{Unix, Opened, adopted, has_descriptor, opened_inode, with_descriptor_closed, with_description_released, with_files, with_phase, with_process, without_process}
use Rattle.unix_model.specs.Tables.{at, with_at}
use Rattle.unix_model.specs.Turn.{ran, returned, ticked, with_orphans_adopted}
use Rattle.unix_model.proofs.CountLaws.{mapped-with_bytes}
use Rattle.unix_model.proofs.TurnLaws.{with_process-twice}
use Rattle.unix_model.proofs.TableLaws.{at-with_at, at-with_at-other}
use Rattle.unix_laws.proofs.Counting.{sum-less}
use Rattle.unix_laws.proofs.BootSteps.{KeepsEntries, after-boot}
use Rattle.unix_laws.proofs.Changes.{Changes, settles, exits, forks, loads, reaps, kills, dups, closes, dups_to, pipes, reads_file, seeks, lists, takes_pipe, puts_pipe, writes_file, resizes, opens, makes_directory, removes_directory, unlinks, links, renames, Making, makes, Opening, finds, creates, Renaming, onto, anew}
use Rattle.unix_laws.proofs.TurnChanges.{TurnChanges, idles, runs, enters, effects, returns, drops, ends, Enters, answers, sends, breaks, after-turn}
use Rattle.unix_laws.specs.RoomLaws.{Fits, BootFits, TurnFits}

-- no slot and no inode promises more than before
pub record NoMore (after before : Unix) : Type 0 where
  pub slots : (k : ℕ) → process_pages (at after.processes k) ≤ process_pages (at before.processes k)
  pub inodes : (k : ℕ) → inode_pages (at after.files.inodes k) ≤ inode_pages (at before.files.inodes k)
  pub pages : after.pages ≡ before.pages

promised-less : (after before : Unix) → NoMore after before → promised after ≤ promised before
unfolding promised
promised-less after before less =
    omega (arith, sum-less (λ k. process_pages (at after.processes k)) (λ k. process_pages (at before.processes k)) 64 (λ k below. less.slots k), sum-less (λ k. inode_pages (at after.files.inodes k)) (λ k. inode_pages (at before.files.inodes k)) 1024 (λ k below. less.inodes k))

-- a table with one place changed, where the new value counts no more
put-less : {X : Type 0} (f : X → ℕ) (table other : ℕ → X) (n : ℕ) (x : X) → f x ≤ f (at other n) → ((k : ℕ) → f (at table k) ≤ f (at other k)) → (k : ℕ) → f (at (with_at table n x) k) ≤ f (at other k)
put-less f table other n x few rest k = elim (eqb_tells k n) as (λ _. f (at (with_at table n x) k) ≤ f (at other k)) [
  | inl same ↦ let here : at (with_at table n x) k ≡ x = ap (at (with_at table n x)) same.1 ∙ at-with_at table n x in
      let there : at other k ≡ at other n = ap (at other) same.1 in
      omega (arith, ap f here, ap f there, few)
  | inr apart ↦ omega (arith, ap f (at-with_at-other table n k x apart.1), rest k)
]

as-before : (unix : Unix) → NoMore unix unix
as-before unix = record { slots = λ k. omega arith; inodes = λ k. omega arith; pages = refl }

live-most : (process : Process) (phase : Phase) → live_pages process phase ≤ mapped_pages process.memory + 1
live-most process Run = omega arith
live-most process Asked = omega arith
live-most process (Sent sent) = omega arith
live-most process (Done value address bytes) = omega arith
live-most process (Exiting word) = omega arith
live-most process (Zombie word) = omega arith

-- a process that is put, and an inode
put-process : (state before : Unix) (slot : ℕ) (process : Process) → process_pages (Some process) ≤ process_pages (at before.processes slot) → NoMore state before → NoMore (with_process state slot process) before
put-process state before slot process few less = record { slots = put-less process_pages state.processes before.processes slot (Some process) few less.slots; inodes = less.inodes; pages = less.pages }

-- files whose inodes promise no more than those of others
abbrev FewerInodes : Files → Files → Type 0
FewerInodes after before = (k : ℕ) → inode_pages (at after.inodes k) ≤ inode_pages (at before.inodes k)

put-files : (unix : Unix) (files : Files) → FewerInodes files unix.files → NoMore (with_files unix files) unix
put-files unix files less = record { slots = λ k. omega arith; inodes = less; pages = refl }

put-inode : (files before : Files) (n : ℕ) (inode : Option Inode) → inode_pages inode ≤ inode_pages (at before.inodes n) → FewerInodes files before
    → FewerInodes (record files { inodes = with_at files.inodes n inode }) before
put-inode files before n inode few less = put-less inode_pages files.inodes before.inodes n inode few less

inode-dropped : (files before : Files) (n : ℕ) → FewerInodes files before → FewerInodes (with_inode_dropped files n) before
inode-dropped files before n less = elim (cases_Bool (is_kept files n)) as (λ _. FewerInodes (with_inode_dropped files n) before) [
  | inl kept ↦ rw kept less
  | inr gone ↦ rw gone (put-inode files before n None (omega arith) less)
]

description-freed : (files : Files) (n : ℕ) (found : Option Description) → FewerInodes (with_description_freed files n found) files
description-freed files n None = λ k. omega arith
description-freed files n (Some description) = inode-dropped (record files { descriptions = with_at files.descriptions n None }) files description.inode (λ k. omega arith)

description-released : (state before : Unix) (n : ℕ) → NoMore state before → NoMore (with_description_released state n) before
description-released state before n less = elim (cases_Bool (has_descriptor state.processes n)) as (λ _. NoMore (with_description_released state n) before) [
  | inl kept ↦ rw kept less
  | inr gone ↦ rw gone record { slots = less.slots; inodes = λ k. omega (arith, description-freed state.files n (at state.files.descriptions n) k, less.inodes k); pages = less.pages }
]

descriptor-closed : (unix : Unix) (slot : ℕ) (process : Process) (n : ℕ) (found : Option ℕ) → process_pages (Some (without_descriptor process n)) ≤ process_pages (at unix.processes slot)
    → NoMore (with_descriptor_closed unix slot process n found) unix
descriptor-closed unix slot process n None few = as-before unix
descriptor-closed unix slot process n (Some description) few =
    description-released (with_process unix slot (without_descriptor process n)) unix description (put-process unix unix slot (without_descriptor process n) few (as-before unix))

-- a process that is sent a signal
killed-by : (unix : Unix) (target signal : ℕ) (process : Process) (phase : Phase) → at unix.processes target ≡ Some process → process.phase ≡ phase → live_pages process phase ≡ mapped_pages process.memory + 1
    → NoMore (with_phase unix target process (Exiting signal)) unix
killed-by unix target signal process phase there is live =
    let stands : process_pages (at unix.processes target) ≡ mapped_pages process.memory + 1 = ap process_pages there ∙ ap (live_pages process) is ∙ live in
    put-process unix unix target (in_phase process (Exiting signal)) (omega (arith, stands)) (as-before unix)

killed-in : (unix : Unix) (target signal : ℕ) (process : Process) (phase : Phase) → at unix.processes target ≡ Some process → process.phase ≡ phase
    → NoMore (if is_ending phase then unix else with_phase unix target process (Exiting signal)) unix
killed-in unix target signal process Run there is = killed-by unix target signal process Run there is refl
killed-in unix target signal process Asked there is = killed-by unix target signal process Asked there is refl
killed-in unix target signal process (Sent sent) there is = killed-by unix target signal process (Sent sent) there is refl
killed-in unix target signal process (Done value address bytes) there is = killed-by unix target signal process (Done value address bytes) there is refl
killed-in unix target signal process (Exiting word) there is = as-before unix
killed-in unix target signal process (Zombie word) there is = as-before unix

killed : (unix : Unix) (target signal : ℕ) (found : Option Process) → at unix.processes target ≡ found → NoMore (with_killed unix target signal found) unix
killed unix target signal None there = as-before unix
killed unix target signal (Some process) there = killed-in unix target signal process process.phase there refl

-- names
place-length : (places : List (Option Entry)) (name : List ℕ) (changed : Option Entry) → length (with_place places name changed) ≡ length places
place-length [] name changed = refl
place-length (place ∷ places) name changed = elim (cases_Bool (is_some (place_inode name place))) as (λ _. length (with_place (place ∷ places) name changed) ≡ length (place ∷ places)) [
  | inl here ↦ rw here refl
  | inr below ↦ rw below (omega (arith, place-length places name changed))
]

places-few : (found : Option Inode) (places : List (Option Entry)) (parent : ℕ) → length places ≡ length (places_of found) → inode_pages (Some (Directory parent places)) ≤ inode_pages found
places-few None places parent e = rw e (omega arith)
places-few (Some (File bytes)) places parent e = rw e (omega arith)
places-few (Some (Directory old others)) places parent e = rw e (omega arith)
places-few (Some (Pipe bytes)) places parent e = rw e (omega arith)
places-few (Some Console) places parent e = rw e (omega arith)

put-places : (files before : Files) (directory : ℕ) (places : List (Option Entry)) → length places ≡ length (places_of (at files.inodes directory)) → FewerInodes files before
    → FewerInodes (with_places files directory places) before
put-places files before directory places e less =
    put-inode files before directory (Some (Directory (parent_of (at files.inodes directory)) places)) (omega (arith, places-few (at files.inodes directory) places (parent_of (at files.inodes directory)) e, less directory)) less

with-parent : (after before : Files) (n parent : ℕ) (found : Option Inode) → at after.inodes n ≡ found → FewerInodes after before → FewerInodes (with_parent after n parent found) before
with-parent after before n parent (Some (Directory old places)) there less =
    let same : inode_pages (at after.inodes n) ≡ inode_pages (Some (Directory parent places)) = ap inode_pages there in
    put-inode after before n (Some (Directory parent places)) (omega (arith, same, less n)) less
with-parent after before n parent (Some (File bytes)) there less = less
with-parent after before n parent (Some (Pipe bytes)) there less = less
with-parent after before n parent (Some Console) there less = less
with-parent after before n parent None there less = less

moved-fewer : (files before : Files) (from to : Spot) (n : ℕ) → FewerInodes files before → FewerInodes (moved files from to n) before
moved-fewer files before from to n less =
    let after : Files = without_name files from.directory from.name in
    with-parent after before n to.directory (at after.inodes n) refl
    (put-places files before from.directory (with_place (places_of (at files.inodes from.directory)) from.name None) (place-length (places_of (at files.inodes from.directory)) from.name None) less)

removed-fewer : (files : Files) (spot : Spot) (n : ℕ) → FewerInodes (removed files spot n) files
removed-fewer files spot n =
    inode-dropped (without_name files spot.directory spot.name) files n
    (put-places files files spot.directory (with_place (places_of (at files.inodes spot.directory)) spot.name None) (place-length (places_of (at files.inodes spot.directory)) spot.name None) (λ k. omega arith))

-- ---- states that fit

fits-less : (pages : ℕ) (after before : Unix) → Fits pages before → NoMore after before → Fits pages after
fits-less pages after before fits less = record { promised_few = omega (arith, promised-less after before less, fits.promised_few); pages_stay = less.pages ∙ fits.pages_stay }

room-le : (promises pages : ℕ) → nat_le promises pages ≡ true → promises ≤ pages
room-le promises pages e = grind (arith, nat_tests)

fits-room : (pages : ℕ) (unix : Unix) → has_room unix ≡ true → unix.pages ≡ pages → Fits pages unix
fits-room pages unix room same = record { promised_few = omega (arith, room-le (promised unix) unix.pages room, same); pages_stay = same }

making-fits : (unix : Unix) (spot : Spot) (new : Inode) (number : ℕ) → Making unix spot new number → Fits unix.pages (with_made unix spot number new)
making-fits unix spot new number (makes given free place room) = fits-room unix.pages (with_made unix spot given new) room refl

truncated-fits : (unix : Unix) (flags number : ℕ) → Fits unix.pages unix → Fits unix.pages (with_truncated unix flags number)
truncated-fits unix flags number fits = elim (cases_Bool (has_flag flags 64)) as (λ _. Fits unix.pages (with_truncated unix flags number)) [
  | inl cuts ↦ rw cuts (fits-less unix.pages (with_files unix (with_inode unix.files number (File []))) unix fits (put-files unix (with_inode unix.files number (File [])) (put-inode unix.files unix.files number (Some (File [])) (omega arith) (λ k. omega arith))))
  | inr keeps ↦ rw keeps fits
]

-- an inode is opened, and a description put
opened-fits : (pages : ℕ) (state : Unix) (number : ℕ) (description : Description) → Fits pages state → Fits pages (with_opened state number description)
opened-fits pages state number description fits =
    fits-less pages (with_opened state number description) state fits (put-files state (with_description state.files number description) (λ k. omega arith))

renaming-fits : (unix : Unix) (from to : Spot) (named : ℕ) (files : Files) → Fits unix.pages unix → Renaming unix from to named files → Fits unix.pages (with_files unix files)
renaming-fits unix from to named files fits (onto other there first second third) =
    let placed : Files = with_name_moved unix.files to.directory to.name named in
    let fewer : FewerInodes placed unix.files =
    put-places unix.files unix.files to.directory (with_place (places_of (at unix.files.inodes to.directory)) to.name (Some (record { name = to.name; inode = named }))) (place-length (places_of (at unix.files.inodes to.directory)) to.name (Some (record { name = to.name; inode = named }))) (λ k. omega arith) in
    fits-less unix.pages (with_files unix (with_inode_dropped (moved placed from to named) other)) unix fits
    (put-files unix (with_inode_dropped (moved placed from to named) other) (inode-dropped (moved placed from to named) unix.files other (moved-fewer placed unix.files from to named fewer)))
renaming-fits unix from to named files fits (anew there place room) =
    let linked : Unix = with_link unix to named in
    fits-less unix.pages (with_files unix (moved linked.files from to named)) linked (fits-room unix.pages linked room refl)
    (put-files linked (moved linked.files from to named) (moved-fewer linked.files linked.files from to named (λ k. omega arith)))

-- ---- changes by a call

module _ (unix : Unix) (slot : ℕ) (process : Process) (stands : process_pages (at unix.processes slot) ≡ mapped_pages process.memory + 1) (fits : Fits unix.pages unix) where
  -- the process goes on in a state that fits, and in one that promises no more than before
  goes-fits : (state : Unix) (next : Process) (phase : Phase) → Fits unix.pages state → process_pages (at state.processes slot) ≡ mapped_pages next.memory + 1
      → Fits unix.pages (with_phase state slot next phase)
  goes-fits state next phase state_fits e =
      fits-less unix.pages (with_phase state slot next phase) state state_fits
      (put-process state state slot (in_phase next phase) (omega (arith, live-most (in_phase next phase) phase, e)) (as-before state))

  goes-less : (state : Unix) (next : Process) (phase : Phase) → NoMore state unix → mapped_pages next.memory ≡ mapped_pages process.memory → Fits unix.pages (with_phase state slot next phase)
  goes-less state next phase less e =
      fits-less unix.pages (with_phase state slot next phase) unix fits
      (put-process state unix slot (in_phase next phase) (omega (arith, live-most (in_phase next phase) phase, stands, e)) less)

  closed-less : (number : ℕ) (found : Option ℕ) → NoMore (with_descriptor_closed unix slot process number found) unix
  closed-less number found = descriptor-closed unix slot process number found (omega (arith, live-most (without_descriptor process number) process.phase, stands))

  truncated-stands : (flags number : ℕ) → process_pages (at (with_truncated unix flags number).processes slot) ≡ mapped_pages process.memory + 1
  truncated-stands flags number = elim (cases_Bool (has_flag flags 64)) as (λ _. process_pages (at (with_truncated unix flags number).processes slot) ≡ mapped_pages process.memory + 1) [
    | inl cuts ↦ rw cuts stands
    | inr keeps ↦ rw keeps stands
  ]

  forked-stands : (place : ℕ) → process_pages (at (with_at unix.processes place (Some (child unix.next_pid process))) slot) ≡ mapped_pages process.memory + 1
  forked-stands place = elim (eqb_tells slot place) as (λ _. process_pages (at (with_at unix.processes place (Some (child unix.next_pid process))) slot) ≡ mapped_pages process.memory + 1) [
    | inl alike ↦ ap process_pages (ap (at (with_at unix.processes place (Some (child unix.next_pid process)))) alike.1 ∙ at-with_at unix.processes place (Some (child unix.next_pid process)))
    | inr apart ↦ ap process_pages (at-with_at-other unix.processes place slot (Some (child unix.next_pid process)) apart.1) ∙ stands
  ]

  offset-fits : (file : Opened) (offset : ℕ) (phase : Phase) → Fits unix.pages (with_phase (with_files unix (with_offset unix.files file offset)) slot process phase)
  offset-fits file offset phase = goes-less (with_files unix (with_offset unix.files file offset)) process phase (put-files unix (with_offset unix.files file offset) (λ k. omega arith)) refl

  pipe-fits : (file : Opened) (bytes now : List ℕ) (phase : Phase) → opened_inode unix file ≡ Some (Pipe bytes) → Fits unix.pages (with_phase (with_files unix (with_contents unix.files file (Pipe now))) slot process phase)
  pipe-fits file bytes now phase is =
      goes-less (with_files unix (with_contents unix.files file (Pipe now))) process phase
      (put-files unix (with_contents unix.files file (Pipe now)) (put-inode unix.files unix.files file.description.inode (Some (Pipe now)) (omega (arith, ap inode_pages is)) (λ k. omega arith))) refl

  opening-fits : (flags number lowest : ℕ) (spot : Spot) (new : ToOpen) → Opening unix flags spot new
      → Fits unix.pages (with_phase (with_opened new.state number (opening flags new.inode)) slot (with_descriptor process lowest number) (answered lowest))
  opening-fits flags number lowest spot new (finds found there reads) =
      goes-fits (with_opened (with_truncated unix flags found) number (opening flags found)) (with_descriptor process lowest number) (answered lowest)
      (opened-fits unix.pages (with_truncated unix flags found) number (opening flags found) (truncated-fits unix flags found fits))
      (truncated-stands flags found)
  opening-fits flags number lowest spot new (creates made_number there making_so) =
      goes-fits (with_opened (with_made unix spot made_number (File [])) number (opening flags made_number)) (with_descriptor process lowest number) (answered lowest)
      (opened-fits unix.pages (with_made unix spot made_number (File [])) number (opening flags made_number) (making-fits unix spot (File []) made_number making_so)) stands

  removed-fits : (spot : Spot) (gone : ℕ) → Fits unix.pages (with_phase (with_files unix (removed unix.files spot gone)) slot process (answered 0))
  removed-fits spot gone = goes-less (with_files unix (removed unix.files spot gone)) process (answered 0) (put-files unix (removed unix.files spot gone) (removed-fewer unix.files spot gone)) refl

  change-fits : {sent : SentCall} (state : Unix) → Changes unix slot process sent state → Fits unix.pages state
  change-fits state (settles phase answer) = goes-less unix process phase (as-before unix) refl
  change-fits state (exits word) = goes-less unix process (Exiting word) (as-before unix) refl
  change-fits state (forks place free pid room) = goes-fits (forked unix place process) process (answered unix.next_pid) (fits-room unix.pages (forked unix place process) room refl) (forked-stands place)
  change-fits state (loads inode file plan held planned room) = fits-room unix.pages (with_loaded unix slot process file plan _) room refl
  change-fits state (reaps wanted ended phase least answer) =
      goes-less (without_process unix ended.slot) process phase
      record { slots = put-less process_pages unix.processes unix.processes ended.slot None (omega arith) (λ k. omega arith); inodes = λ k. omega arith; pages = refl } refl
  change-fits state (kills pid target signal given_so there other) =
      goes-less (with_killed unix target signal (at unix.processes target)) process (answered 0) (killed unix target signal (at unix.processes target) refl) refl
  change-fits state (dups number lowest file held low) = goes-less unix (with_descriptor process lowest file.number) (answered lowest) (as-before unix) refl
  change-fits state (closes number) =
      goes-less (with_descriptor_closed unix slot process number (descriptor process number)) (without_descriptor process number) (answered 0) (closed-less number (descriptor process number)) refl
  change-fits state (dups_to number to file held other) =
      goes-less (with_descriptor_closed unix slot process to (descriptor process to)) (with_descriptor process to file.number) (answered to) (closed-less to (descriptor process to)) refl
  change-fits state (pipes first second reader writer number phase low next free free2 free_i room answer) =
      goes-fits (with_pipe unix number reader writer) (with_descriptors process first reader second writer) phase (fits-room unix.pages (with_pipe unix number reader writer) room refl) stands
  change-fits state (reads_file number count file bytes phase held is answer) = offset-fits file (file.description.offset + length (take count (drop file.description.offset bytes))) phase
  change-fits state (seeks number place file held stream aligned below) = offset-fits file place (answered place)
  change-fits state (lists number count file phase held directory answer) =
      offset-fits file (file.description.offset + place_bytes * looked_at count (drop (file.description.offset / place_bytes) (places_of (opened_inode unix file)))) phase
  change-fits state (takes_pipe number count file bytes phase held is answer) = pipe-fits file bytes (drop count bytes) phase is
  change-fits state (puts_pipe number file bytes written given_so held is few) = pipe-fits file bytes (bytes ++ written) (answered (length written)) is
  change-fits state (writes_file number place file bytes written given_so held is below room) =
      goes-fits (with_written unix file bytes place (take (most_file_bytes - place) written)) process (answered (length (take (most_file_bytes - place) written)))
      (fits-room unix.pages (with_written unix file bytes place (take (most_file_bytes - place) written)) room refl) stands
  change-fits state (resizes number size file bytes held is few room) =
      goes-fits (with_resized unix file bytes size) process (answered 0) (fits-room unix.pages (with_resized unix file bytes size) room refl) stands
  change-fits state (opens path flags number lowest spot new low free walk opening_so) = opening-fits flags number lowest spot new opening_so
  change-fits state (makes_directory path spot number walk free making_so) =
      goes-fits (with_made unix spot number (Directory spot.directory [])) process (answered 0) (making-fits unix spot (Directory spot.directory []) number making_so) stands
  change-fits state (removes_directory path spot gone walk root dots there directory names) = removed-fits spot gone
  change-fits state (unlinks path spot gone walk there file) = removed-fits spot gone
  change-fits state (links old new from to linked walk there file walk2 free place room) = goes-fits (with_link unix to linked) process (answered 0) (fits-room unix.pages (with_link unix to linked) room refl) stands
  change-fits state (renames old new from to named files walk root dots there walk2 root2 dots2 other within renaming_so) =
      goes-fits (with_files unix files) process (answered 0) (renaming-fits unix from to named files fits renaming_so) stands

-- ---- changes by a turn

-- an instruction maps no page, nor does the return of an answer
loaded-mapped : (regs : Regs) (instr : Option Instr) (memory : Memory) (found : Option (List ℕ)) → mapped_pages (exec.loaded regs instr memory found).memory ≡ mapped_pages memory
loaded-mapped regs instr memory None = refl
loaded-mapped regs instr memory (Some bytes) = refl

stored-mapped : (regs : Regs) (memory : Memory) (address size value : ℕ) → mapped_pages (exec.stored regs memory address size value).memory ≡ mapped_pages memory
stored-mapped regs memory address size value = elim (cases_Bool (all_writable memory address size)) as (λ _. mapped_pages (exec.stored regs memory address size value).memory ≡ mapped_pages memory) [
  | inl may ↦ rw may (mapped-with_bytes memory address (bytes_low_first 0 size value))
  | inr not_writable ↦ rw not_writable refl
]

accessed-mapped : (regs : Regs) (instr : Option Instr) (memory : Memory) (access : Access) → mapped_pages (exec.accessed regs instr memory access).memory ≡ mapped_pages memory
accessed-mapped regs instr memory (Finished outcome) = refl
accessed-mapped regs instr memory (WantsLoad address size) = loaded-mapped regs instr memory (bytes_at memory address size)
accessed-mapped regs instr memory (WantsStore address size value) = stored-mapped regs memory address size value

word-mapped : (regs : Regs) (memory : Memory) (found : Option ℕ) → mapped_pages (exec.executed_word regs memory found).memory ≡ mapped_pages memory
word-mapped regs memory None = refl
word-mapped regs memory (Some word) = accessed-mapped (exec.begun_by regs (decoded word)).registers (decoded word) memory (exec.begun_by regs (decoded word)).access

ran-mapped : (process : Process) → mapped_pages (ran process).memory ≡ mapped_pages process.memory
unfolding ran exec.executed
ran-mapped process = word-mapped process.registers process.memory (word_at process.memory process.registers.pc)

returned-mapped : (process : Process) (value address : ℕ) (bytes : List ℕ) → mapped_pages (returned process value address bytes).memory ≡ mapped_pages process.memory
unfolding returned
returned-mapped process value address bytes = mapped-with_bytes process.memory address bytes

-- a process gets another parent
adopted-pages : (ended : ℕ) (process : Process) → process_pages (Some (adopted ended process)) ≡ process_pages (Some process)
adopted-pages ended process = elim (cases_Bool (process.parent == ended)) as (λ _. process_pages (Some (adopted ended process)) ≡ process_pages (Some process)) [
  | inl orphan ↦ rw orphan refl
  | inr other ↦ rw other refl
]

adopted-held : (ended : ℕ) (held : Option Process) → process_pages (option_map (adopted ended) held) ≤ process_pages held
adopted-held ended None = omega arith
adopted-held ended (Some process) = omega (arith, adopted-pages ended process)

orphans-less : (ended : ℕ) (unix : Unix) → NoMore (with_orphans_adopted ended unix) unix
unfolding at
orphans-less ended unix = record { slots = λ k. adopted-held ended (unix.processes k); inodes = λ k. omega arith; pages = refl }

module _ (unix : Unix) (slot : ℕ) (fits : Fits unix.pages unix) (process : Process) where
  process-fits : (next : Process) → process_pages (at unix.processes slot) ≡ mapped_pages process.memory + 1 → mapped_pages next.memory ≡ mapped_pages process.memory → Fits unix.pages (with_process unix slot next)
  process-fits next stands e =
      fits-less unix.pages (with_process unix slot next) unix fits (put-process unix unix slot next (omega (arith, live-most next next.phase, stands, e)) (as-before unix))

  entering-fits : (after : Process) → process_pages (at unix.processes slot) ≡ mapped_pages process.memory + 1 → process.phase ≡ Asked → Enters unix slot process after → Fits unix.pages (with_process unix slot after)
  entering-fits after stands is (answers phase answer) = process-fits (in_phase process phase) stands refl
  entering-fits after stands is (sends sent tested) = process-fits (in_phase process (Sent sent)) stands refl
  entering-fits after stands is (breaks address above below room) =
      let moved_break : Process = with_moved_break process address in
      let state : Unix = with_process unix slot moved_break in
      let here : process_pages (at state.processes slot) ≡ mapped_pages moved_break.memory + 1 =
      ap process_pages (at-with_at unix.processes slot (Some moved_break)) ∙ ap (live_pages moved_break) is in
      subst (λ (s : Unix). Fits unix.pages s) (with_process-twice unix slot moved_break (in_phase moved_break (answered address)))
      (fits-less unix.pages (with_process state slot (in_phase moved_break (answered address))) state (fits-room unix.pages state room refl)
      (put-process state state slot (in_phase moved_break (answered address)) (omega (arith, here)) (as-before state)))

turn-fits : (unix : Unix) (slot : ℕ) → Fits unix.pages unix → (state : Unix) → TurnChanges unix slot state → Fits unix.pages state
turn-fits unix slot fits state idles = fits
turn-fits unix slot fits state (runs process there is) = process-fits unix slot fits process (ran process) (ap process_pages there ∙ ap (live_pages process) is) (ran-mapped process)
turn-fits unix slot fits state (enters process after there is entering) = entering-fits unix slot fits process after (ap process_pages there ∙ ap (live_pages process) is) is entering
turn-fits unix slot fits state (effects process sent after there is changes) = change-fits unix slot process (ap process_pages there ∙ ap (live_pages process) is) fits after changes
turn-fits unix slot fits state (returns process value address bytes there is) =
    process-fits unix slot fits process (returned process value address bytes) (ap process_pages there ∙ ap (live_pages process) is) (returned-mapped process value address bytes)
turn-fits unix slot fits state (drops process word lowest there is low) =
    let stands : process_pages (at unix.processes slot) ≡ mapped_pages process.memory + 1 = ap process_pages there ∙ ap (live_pages process) is in
    fits-less unix.pages (with_descriptor_closed unix slot process lowest (descriptor process lowest)) unix fits
    (descriptor-closed unix slot process lowest (descriptor process lowest) (omega (arith, live-most (without_descriptor process lowest) process.phase, stands)))
turn-fits unix slot fits state (ends process word there is low) =
    let ended : Unix = with_process unix slot (zombie process word) in
    fits-less unix.pages (with_orphans_adopted process.pid ended) ended
    (fits-less unix.pages ended unix fits (put-process unix unix slot (zombie process word) (omega arith) (as-before unix)))
    (orphans-less process.pid ended)

-- the position promises nothing
ticked-fits : (pages : ℕ) (unix : Unix) → Fits pages unix → Fits pages (ticked unix)
unfolding promised
ticked-fits pages unix fits = record { promised_few = fits.promised_few; pages_stay = fits.pages_stay }

pub turn_within : TurnFits
turn_within calls unix slot input few =
    after-turn (Fits unix.pages) calls unix slot input (λ state changes. ticked-fits unix.pages state (turn-fits unix slot (record { promised_few = few; pages_stay = refl }) state changes))

-- ---- boot

made-pages : (pages : ℕ) → KeepsEntries (λ unix. unix.pages ≡ pages)
made-pages pages unix path spot node number holds short walk new making_so = holds

pub boot_within : BootFits
unfolding empty_machine
boot_within pages quantum entries unix e =
    after-boot (λ state. state.pages ≡ pages) (made-pages pages) (Fits pages) (λ state file plan same planned room. fits-room pages (started state file plan) room same) pages quantum entries unix refl e
