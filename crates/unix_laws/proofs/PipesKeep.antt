-- No pipe ever holds more than its limit.
use Rattle.std.proofs.Common.{◌≡◌, ℕ, ◌+◌, ◌≤◌, false, List, [], ◌++◌, drop, length, Option, Some, None, arith, refl, sym, subst, ap, ◌∙◌, inl, inr, length-append, length-drop}
use Rattle.std.proofs.lemmas.Bool.{cases_Bool}
use Rattle.std.proofs.lemmas.Bool.Decides.{eqb_tells, nat_tests}
use Rattle.std.specs.Prelude.{nat_lt}
use Rattle.unix_model.specs.Boot.{Node, NewDirectory, NewFile, empty_machine, first_inodes, node_inode}
use Rattle.unix_model.specs.Enter.{has_flag}
use Rattle.unix_model.specs.Files.{console_inode, root_inode, Files, Inode, File, Directory, Pipe, Console, Description, is_kept, with_description_freed, with_inode, with_inode_dropped, with_name_moved, with_places, without_name}
use Rattle.unix_model.specs.Limits.{pipe_bytes}
use Rattle.unix_model.specs.NameCalls.{ToOpen, moved, removed, with_link, with_made, with_parent, with_truncated}
use Rattle.unix_model.specs.Paths.{Spot}
use Rattle.unix_model.specs.Process.{Process, SentCall, descriptor, without_descriptor}
use Rattle.unix_model.specs.ProcessCalls.{is_ending, with_killed}
use Rattle.unix_model.specs.State.{Unix, has_descriptor, with_description_released, with_descriptor_closed, with_process}
use Rattle.unix_model.specs.Tables.{at, nothing, with_at}
use Rattle.unix_model.proofs.TableLaws.{at-with_at, at-with_at-other}
use Rattle.unix_laws.proofs.BootSteps.{after-boot}
use Rattle.unix_laws.proofs.Changes.{Changes, settles, exits, forks, loads, reaps, kills, dups, closes, dups_to, pipes, reads_file, seeks, lists, takes_pipe, puts_pipe, writes_file, resizes, opens, makes_directory, removes_directory, unlinks, links, renames, Opening, finds, creates, Renaming, onto, anew}
use Rattle.unix_laws.proofs.TurnChanges.{TurnChanges, after-turn, drops, effects, ends, enters, idles, returns, runs}
use Rattle.unix_laws.specs.CallLaws.{BootPipesFit, PipesFit, PipesKept}

-- an inode that holds no more than a pipe may
abbrev Small : Option Inode → Type 0
Small None = Unit {0}
Small (Some (File bytes)) = Unit {0}
Small (Some (Directory parent places)) = Unit {0}
Small (Some (Pipe bytes)) = length bytes ≤ pipe_bytes
Small (Some Console) = Unit {0}

abbrev AllSmall : (ℕ → Option Inode) → Type 0
AllSmall inodes = (n : ℕ) → Small (at inodes n)

put : (inodes : ℕ → Option Inode) (number : ℕ) (inode : Option Inode) → Small inode → AllSmall inodes → AllSmall (with_at inodes number inode)
put inodes number inode small rest n = elim (eqb_tells n number) as (λ _. Small (at (with_at inodes number inode) n)) [
  | inl same ↦ subst Small (sym (ap (at (with_at inodes number inode)) same.1 ∙ at-with_at inodes number inode)) small
  | inr apart ↦ subst Small (sym (at-with_at-other inodes number n inode apart.1)) (rest n)
]

dropped : (files : Files) (number : ℕ) → AllSmall files.inodes → AllSmall (with_inode_dropped files number).inodes
dropped files number rest = elim (cases_Bool (is_kept files number)) as (λ _. AllSmall (with_inode_dropped files number).inodes) [
  | inl kept ↦ rw kept rest
  | inr gone ↦ rw gone (put files.inodes number None tt rest)
]

freed : (files : Files) (number : ℕ) (found : Option Description) → AllSmall files.inodes → AllSmall (with_description_freed files number found).inodes
freed files number None rest = rest
freed files number (Some description) rest = dropped (record files { descriptions = with_at files.descriptions number None }) description.inode rest

released : (state : Unix) (number : ℕ) → AllSmall state.files.inodes → AllSmall (with_description_released state number).files.inodes
released state number rest = elim (cases_Bool (has_descriptor state.processes number)) as (λ _. AllSmall (with_description_released state number).files.inodes) [
  | inl kept ↦ rw kept rest
  | inr gone ↦ rw gone (freed state.files number (at state.files.descriptions number) rest)
]

closed : (unix : Unix) (slot : ℕ) (process : Process) (number : ℕ) (found : Option ℕ) → AllSmall unix.files.inodes → AllSmall (with_descriptor_closed unix slot process number found).files.inodes
closed unix slot process number None rest = rest
closed unix slot process number (Some description) rest = released (with_process unix slot (without_descriptor process number)) description rest

killed : (unix : Unix) (target signal : ℕ) (found : Option Process) → AllSmall unix.files.inodes → AllSmall (with_killed unix target signal found).files.inodes
killed unix target signal None rest = rest
killed unix target signal (Some held) rest = elim (cases_Bool (is_ending held.phase)) as (λ _. AllSmall (with_killed unix target signal (Some held)).files.inodes) [
  | inl ending ↦ rw ending rest
  | inr goes ↦ rw goes rest
]

truncated : (unix : Unix) (flags number : ℕ) → AllSmall unix.files.inodes → AllSmall (with_truncated unix flags number).files.inodes
truncated unix flags number rest = elim (cases_Bool (has_flag flags 64)) as (λ _. AllSmall (with_truncated unix flags number).files.inodes) [
  | inl cuts ↦ rw cuts (put unix.files.inodes number (Some (File [])) tt rest)
  | inr keeps ↦ rw keeps rest
]

-- a directory's places, and its parent
placed : (files : Files) (directory : ℕ) (places : _) → AllSmall files.inodes → AllSmall (with_places files directory places).inodes
placed files directory places rest = put files.inodes directory (Some (Directory _ places)) tt rest

parented : (files : Files) (number parent : ℕ) (found : Option Inode) → AllSmall files.inodes → AllSmall (with_parent files number parent found).inodes
parented files number parent None rest = rest
parented files number parent (Some (File bytes)) rest = rest
parented files number parent (Some (Directory old places)) rest = put files.inodes number (Some (Directory parent places)) tt rest
parented files number parent (Some (Pipe bytes)) rest = rest
parented files number parent (Some Console) rest = rest

moved-small : (files : Files) (from to : Spot) (number : ℕ) → AllSmall files.inodes → AllSmall (moved files from to number).inodes
moved-small files from to number rest =
    let after : Files = without_name files from.directory from.name in
    parented after number to.directory (at after.inodes number) (placed files from.directory _ rest)

renamed-small : (unix : Unix) (from to : Spot) (named : ℕ) (files : Files) → Renaming unix from to named files → AllSmall unix.files.inodes → AllSmall files.inodes
renamed-small unix from to named files (onto other is first second third) rest =
    let given : Files = with_name_moved unix.files to.directory to.name named in
    dropped (moved given from to named) other (moved-small given from to named (placed unix.files to.directory _ rest))
renamed-small unix from to named files (anew is place room) rest = moved-small (with_link unix to named).files from to named (placed unix.files to.directory _ rest)

made-small : (unix : Unix) (spot : Spot) (number : ℕ) (new : Inode) → Small (Some new) → AllSmall unix.files.inodes → AllSmall (with_made unix spot number new).files.inodes
made-small unix spot number new small rest = placed (with_inode unix.files number new) spot.directory _ (put unix.files.inodes number (Some new) small rest)

opened-small : (unix : Unix) (flags : ℕ) (spot : Spot) (new : ToOpen) → Opening unix flags spot new → AllSmall unix.files.inodes → AllSmall new.state.files.inodes
opened-small unix flags spot new (finds found is reads) rest = truncated unix flags found rest
opened-small unix flags spot new (creates given is making_so) rest = made-small unix spot given (File []) tt rest

removed-small : (files : Files) (spot : Spot) (number : ℕ) → AllSmall files.inodes → AllSmall (removed files spot number).inodes
removed-small files spot number rest = dropped (without_name files spot.directory spot.name) number (placed files spot.directory _ rest)

few : (i j : ℕ) → nat_lt i j ≡ false → j ≤ i
few i j e = grind (arith, nat_tests)

change-small : {sent : SentCall} (unix : Unix) (slot : ℕ) (mine : Process) → AllSmall unix.files.inodes → (state : Unix) → Changes unix slot mine sent state → AllSmall state.files.inodes
change-small unix slot mine rest state (settles phase answer) = rest
change-small unix slot mine rest state (exits word) = rest
change-small unix slot mine rest state (forks place free pid room) = rest
change-small unix slot mine rest state (loads inode file plan held planned room) = rest
change-small unix slot mine rest state (reaps wanted ended phase least answer) = rest
change-small unix slot mine rest state (kills pid target signal given_so is apart) = killed unix target signal (at unix.processes target) rest
change-small unix slot mine rest state (dups number lowest file held low) = rest
change-small unix slot mine rest state (closes number) = closed unix slot mine number (descriptor mine number) rest
change-small unix slot mine rest state (dups_to number to file held apart) = closed unix slot mine to (descriptor mine to) rest
change-small unix slot mine rest state (pipes first second reader writer number phase low next free free2 free_i room answer) = put unix.files.inodes number (Some (Pipe [])) (omega arith) rest
change-small unix slot mine rest state (reads_file number count file bytes phase held is answer) = rest
change-small unix slot mine rest state (seeks number place file held stream aligned below) = rest
change-small unix slot mine rest state (lists number count file phase held directory answer) = rest
change-small unix slot mine rest state (takes_pipe number count file bytes phase held is answer) =
    let before : length bytes ≤ pipe_bytes = subst Small is (rest file.description.inode) in
    put unix.files.inodes file.description.inode (Some (Pipe (drop count bytes))) (omega (arith, before, length-drop count bytes)) rest
change-small unix slot mine rest state (puts_pipe number file bytes written given_so held is full) =
    put unix.files.inodes file.description.inode (Some (Pipe (bytes ++ written))) (omega (arith, length-append bytes written, few pipe_bytes (length bytes + length written) full)) rest
change-small unix slot mine rest state (writes_file number place file bytes written given_so held is below room) = put unix.files.inodes file.description.inode (Some (File _)) tt rest
change-small unix slot mine rest state (resizes number size file bytes held is below room) = put unix.files.inodes file.description.inode (Some (File _)) tt rest
change-small unix slot mine rest state (opens path flags number lowest spot new low free walk opening_so) = opened-small unix flags spot new opening_so rest
change-small unix slot mine rest state (makes_directory path spot number walk free making_so) = made-small unix spot number (Directory spot.directory []) tt rest
change-small unix slot mine rest state (removes_directory path spot gone walk root dots is directory names) = removed-small unix.files spot gone rest
change-small unix slot mine rest state (unlinks path spot gone walk is file) = removed-small unix.files spot gone rest
change-small unix slot mine rest state (links old new from to linked walk is file walk2 free place room) = placed unix.files to.directory _ rest
change-small unix slot mine rest state (renames old new from to named files walk root dots is walk2 root2 dots2 apart within renaming_so) = renamed-small unix from to named files renaming_so rest

turn-small : (unix : Unix) (slot : ℕ) → AllSmall unix.files.inodes → (state : Unix) → TurnChanges unix slot state → AllSmall state.files.inodes
turn-small unix slot rest state idles = rest
turn-small unix slot rest state (runs mine there phase) = rest
turn-small unix slot rest state (enters mine after there phase entering) = rest
turn-small unix slot rest state (effects mine sent after there phase changes) = change-small unix slot mine rest after changes
turn-small unix slot rest state (returns mine value address bytes there phase) = rest
turn-small unix slot rest state (drops mine word lowest there phase low) = closed unix slot mine lowest (descriptor mine lowest) rest
turn-small unix slot rest state (ends mine word there phase low) = rest

-- the same, pipe by pipe
small-of : (inodes : ℕ → Option Inode) (n : ℕ) (found : Option Inode) → at inodes n ≡ found → ((bytes : List ℕ) → at inodes n ≡ Some (Pipe bytes) → length bytes ≤ pipe_bytes) → Small found
small-of inodes n None is fits = tt
small-of inodes n (Some (File bytes)) is fits = tt
small-of inodes n (Some (Directory parent places)) is fits = tt
small-of inodes n (Some (Pipe bytes)) is fits = fits bytes is
small-of inodes n (Some Console) is fits = tt

pub pipes_kept : PipesKept
pipes_kept calls unix slot input fits =
    after-turn PipesFit calls unix slot input
    (λ state changes number bytes is. subst Small is (turn-small unix slot (λ n. small-of unix.files.inodes n (at unix.files.inodes n) refl (fits n)) state changes number))

-- what boot makes
node-small : (directory : ℕ) (node : Node) → Small (Some (node_inode directory node))
node-small directory NewDirectory = tt
node-small directory (NewFile bytes) = tt

nothing-small : AllSmall nothing
unfolding at nothing
nothing-small n = tt

first-small : (pages quantum : ℕ) → AllSmall (empty_machine pages quantum).files.inodes
unfolding empty_machine first_inodes
first-small pages quantum =
    put (with_at nothing console_inode (Some Console)) root_inode (Some (Directory root_inode [])) tt (put nothing console_inode (Some Console) tt nothing-small)

pub boot_pipes_fit : BootPipesFit
boot_pipes_fit pages quantum entries unix e =
    after-boot (λ state. AllSmall state.files.inodes) (λ state path spot node number rest short walk new making_so. made-small state spot number (node_inode spot.directory node) (node-small spot.directory node) rest)
    PipesFit (λ state file plan rest planned room. λ number bytes is. subst Small is (rest number)) pages quantum entries unix (first-small pages quantum) e
