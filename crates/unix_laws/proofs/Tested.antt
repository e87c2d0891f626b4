-- What the keeper has tested of a call that it sends, so that no line refuses it for that again.
use Rattle.std.proofs.Common.{◌≡◌, ℕ, Bool, true, false, List, [], ◌∷◌, length, Option, Some, None, Result, Ok, Err, refl, sym, subst, ap, ◌∙◌}
use Rattle.std.specs.Prelude.{IsSome, if◌then◌else◌, ◌||◌, ◌==◌}
use Rattle.unix_model.specs.declared.calls.Call.{Call}
use Rattle.unix_model.specs.declared.calls.Call.TheVariants as call
use Rattle.unix_model.specs.declared.calls.Errno.{Errno}
use Rattle.unix_model.specs.Calls.{Calls, errno_number}
use Rattle.unix_model.specs.Effect.{argument_of}
use Rattle.unix_model.specs.Elf.{LoadPlan}
use Rattle.unix_model.specs.declared.elf.ElfFault.{ElfFault}
use Rattle.unix_model.specs.Enter.{entered_line}
use Rattle.unix_model.specs.FileCalls.{reads_from, writes_to}
use Rattle.unix_model.specs.Files.{Files, Inode, File, Directory, Pipe, Console, Description, is_directory}
use Rattle.unix_model.specs.NameCalls.{made, renamed, to_open}
use Rattle.unix_model.specs.Paths.{Spot, named, stepped, walked, walked_from, walked_in}
use Rattle.unix_model.specs.Process.{Process, SentCall, Phase, Run, Asked, Sent, Done, Exiting, Zombie, descriptor, in_phase}
use Rattle.unix_model.specs.ProcessCalls.{EndedChild, program, waits_for}
use Rattle.unix_model.specs.Refusals.{◌>>=◌, ◌>>◌, refuse◌when◌, refuse◌where_not◌, refuse◌unless◌}
use Rattle.unix_model.specs.Rules.{AreDescriptions}
use Rattle.unix_model.specs.State.{Unix, Opened, opened, opened_as, opened_at, opened_inode}
use Rattle.unix_model.specs.Tables.{at}
use Rattle.unix_model.specs.Turn.{call_line}
use Rattle.unix_laws.proofs.Basics.{true-false}
use Rattle.unix_laws.proofs.Changes.{IsAnswer}
use Rattle.unix_laws.proofs.TurnChanges.{Entering, Enters, Sendable, answers, breaks, line-enters, sends}
use Rattle.unix_laws.specs.DescriptorLaws.{SentDescriptorsAreOpen}

-- ---- what was tested

abbrev pub NoSent : Phase → Type 0
NoSent Run = Unit {0}
NoSent Asked = Unit {0}
NoSent (Sent sent) = ⊥
NoSent (Done value address bytes) = Unit {0}
NoSent (Exiting word) = Unit {0}
NoSent (Zombie word) = Unit {0}

sent-tests : (unix : Unix) (slot : ℕ) (process after : Process) (sent : SentCall) → Enters unix slot process after → after.phase ≡ Sent sent → Sendable unix process sent sent.call
sent-tests unix slot process after sent (answers phase answer) is = absurd (subst IsAnswer is answer)
sent-tests unix slot process after sent (sends given tested) is =
    let same : given ≡ sent = cc in
    subst (λ (s : SentCall). Sendable unix process s s.call) same tested
sent-tests unix slot process after sent (breaks address above below room) is = absurd (subst NoSent is tt)

pub tested : (calls : Calls) (unix : Unix) (slot : ℕ) (process : Process) (sent : SentCall)
    → entered_line calls unix slot (in_phase process Asked) ≡ Ok process → process.phase ≡ Sent sent → Sendable unix (in_phase process Asked) sent sent.call
tested calls unix slot process sent e is =
    sent-tests unix slot (in_phase process Asked) process sent (subst (Entering unix slot (in_phase process Asked)) e (line-enters calls unix slot (in_phase process Asked))) is

-- what a descriptor is open on
pub record IsOpened (files : Files) (process : Process) (number : ℕ) (file : Opened) : Type 0 where
  pub names : descriptor process number ≡ Some file.number
  pub there : at files.descriptions file.number ≡ Some file.description

opened-by : (files : Files) (found : Option ℕ) (number : ℕ) (held : Option Description) (file : Opened) → at files.descriptions number ≡ held → opened_as number held ≡ Some file
    → (number ≡ file.number) × (at files.descriptions file.number ≡ Some file.description)
opened-by files found number None file is e = cc
opened-by files found number (Some description) file is e =
    let same : record { number = number; description = description } ≡ file = cc in
    (ap (λ (f : Opened). f.number) same, ap (λ (f : Opened). at files.descriptions f.number) (sym same) ∙ is ∙ ap (λ (f : Opened). Some f.description) same)

opened-names : (files : Files) (process : Process) (number : ℕ) (found : Option ℕ) (file : Opened) → descriptor process number ≡ found → opened_at files found ≡ Some file → IsOpened files process number file
opened-names files process number None file is e = cc
opened-names files process number (Some description) file is e =
    let both : (description ≡ file.number) × (at files.descriptions file.number ≡ Some file.description) = opened-by files (Some description) description (at files.descriptions description) file refl e in
    record { names = is ∙ ap (λ n. Some n) both.0; there = both.1 }

pub opened-is : (unix : Unix) (process : Process) (number : ℕ) (file : Opened) → opened unix process number ≡ Some file → IsOpened unix.files process number file
opened-is unix process number file e = opened-names unix.files process number (descriptor process number) file refl e

-- ---- no refusal for want of a descriptor

-- a refusal that isn't EBADF or ENOSYS
abbrev is_barred : Errno → Bool
is_barred errno = (errno_number errno == 9) || (errno_number errno == 38)

abbrev Sound : {B : Type 0} → Result B Errno → Type 0
Sound (Err errno) = is_barred errno ≡ false
Sound (Ok x) = Unit {0}

step : {A B : Type 0} (first : Result A Errno) (rest : A → Result B Errno) → Sound first → ((x : A) → first ≡ Ok x → Sound (rest x)) → Sound (first >>= rest)
step (Ok x) rest sound holds = holds x refl
step (Err errno) rest sound holds = sound

need : {A B : Type 0} (errno : Errno) (found : Option A) (rest : A → Result B Errno) → is_barred errno ≡ false → ((x : A) → found ≡ Some x → Sound (rest x)) → Sound ((refuse errno unless found) >>= rest)
need errno (Some x) rest sound holds = holds x refl
need errno None rest sound holds = sound

-- something that is there
have : {A B : Type 0} (errno : Errno) (found : Option A) (x : A) (rest : A → Result B Errno) → found ≡ Some x → Sound (rest x) → Sound ((refuse errno unless found) >>= rest)
have errno found x rest there holds = rw there holds

ask : {B : Type 0} (errno : Errno) (test : Bool) (rest : Result B Errno) → is_barred errno ≡ false → Sound rest → Sound ((refuse errno where_not test) >> rest)
ask errno true rest sound holds = holds
ask errno false rest sound holds = sound

bar : {B : Type 0} (errno : Errno) (test : Bool) (rest : Result B Errno) → is_barred errno ≡ false → Sound rest → Sound ((refuse errno when test) >> rest)
bar errno true rest sound holds = sound
bar errno false rest sound holds = holds

choose : {B : Type 0} (test : Bool) (first second : Result B Errno) → Sound first → Sound second → Sound (if test then first else second)
choose true first second holds other = holds
choose false first second holds other = other

named-sound : (files : Files) (spot : Spot) (name : List ℕ) → Sound (named files spot name)
named-sound files spot name = search (need, ask, bar, refl, tt) depth 14

stepped-sound : (files : Files) (spot : Spot) (part : List ℕ) → Sound (stepped files spot part)
stepped-sound files spot part = choose (length part == 0) (Ok spot) (named files spot part) tt (named-sound files spot part)

from-sound : (files : Files) (spot : Spot) (parts : List (List ℕ)) → Sound (walked_from files spot parts)
from-sound files spot [] = tt
from-sound files spot (part ∷ parts) = step (stepped files spot part) (λ next. walked_from files next parts) (stepped-sound files spot part) (λ next e. from-sound files next parts)

walked-sound : (files : Files) (path : List ℕ) → Sound (walked files path)
unfolding walked walked_in
walked-sound files path = search (step, ask, bar, from-sound, refl, tt) depth 14

made-sound : (unix : Unix) (spot : Spot) (new : Inode) → Sound (made unix spot new)
made-sound unix spot new = search (need, ask, bar, refl, tt) depth 14

to-open-sound : (unix : Unix) (path : List ℕ) (flags : ℕ) (spot : Spot) (found : Option ℕ) → Sound (to_open unix path flags spot found)
to-open-sound unix path flags spot None = search (step, ask, bar, made-sound, refl, tt) depth 14
to-open-sound unix path flags spot (Some number) = search (bar, refl, tt) depth 14

renamed-sound : (unix : Unix) (from to : Spot) (number : ℕ) (found : Option ℕ) → Sound (renamed unix from to number found)
renamed-sound unix from to number None = search (ask, bar, refl, tt) depth 14
renamed-sound unix from to number (Some other) = search (bar, refl, tt) depth 14

program-sound : (plan : Result LoadPlan ElfFault) → Sound (program plan)
program-sound (Ok plan) = tt
program-sound (Err fault) = refl

module _ (unix : Unix) (slot : ℕ) (process : Process) (input : List ℕ) where
  reads-sound : (file : Opened) (address count : ℕ) (found : Option Inode) → IsSome found → Sound (reads_from unix slot process input file address count found)
  reads-sound file address count (Some (File bytes)) there = tt
  reads-sound file address count (Some (Directory parent places)) there = refl
  reads-sound file address count (Some (Pipe bytes)) there = search (choose, tt) depth 14
  reads-sound file address count (Some Console) there = tt
  reads-sound file address count None there = cc

  writes-sound : (file : Opened) (written : List ℕ) (found : Option Inode) → IsSome found → is_directory found ≡ false → Sound (writes_to unix slot process file written found)
  writes-sound file written (Some (File bytes)) there plain = search (ask, bar, refl, tt) depth 14
  writes-sound file written (Some (Directory parent places)) there plain = cc
  writes-sound file written (Some (Pipe bytes)) there plain = search (ask, choose, refl, tt) depth 14
  writes-sound file written (Some Console) there plain = tt
  writes-sound file written None there plain = cc

  waits-sound : (address options : ℕ) (found : Option EndedChild) → Sound (waits_for unix slot process address options found)
  waits-sound address options (Some ended) = tt
  waits-sound address options None = search (choose, tt) depth 14

  module _ (files : AreDescriptions unix.files) where
    opened-there : (number : ℕ) (file : Opened) → opened unix process number ≡ Some file → IsSome (opened_inode unix file)
    opened-there number file held = (files.each file.number file.description (opened-is unix process number file held).there).inode

    plain : (number : ℕ) (file : Opened) (directory : Bool) → opened unix process number ≡ Some file → file.description.writable ≡ true → is_directory (opened_inode unix file) ≡ directory → directory ≡ false
    plain number file true held writable is = cc ((files.each file.number file.description (opened-is unix process number file held).there).directory_mode is)
    plain number file false held writable is = refl

    line-sound : (sent : SentCall) (wanted : Call) → Sendable unix (in_phase process Asked) sent wanted → Sound (call_line unix slot process input sent wanted)
    line-sound sent call.Exit tests = tt
    line-sound sent call.Fork tests = search (need, ask, bar, refl, tt) depth 14
    line-sound sent call.Exec tests = search (step, need, ask, walked-sound, program-sound, refl, tt) depth 20
    line-sound sent call.Wait tests = search (ask, waits-sound, refl, tt) depth 14
    line-sound sent call.Waitpid tests = search (ask, waits-sound, refl, tt) depth 14
    line-sound sent call.Getpid tests = absurd tests
    line-sound sent call.Getppid tests = absurd tests
    line-sound sent call.Brk tests = absurd tests
    line-sound sent call.Open tests = search (step, need, walked-sound, to-open-sound, refl, tt) depth 20
    line-sound sent call.Close tests = tt
    line-sound sent call.Read tests =
        let held : opened unix process (argument_of sent 0) ≡ Some tests.0 = tests.1 in
        let there : IsSome (opened_inode unix tests.0) = opened-there (argument_of sent 0) tests.0 held in
        search (have, choose, reads-sound, held, there, tt) depth 14
    line-sound sent call.Write tests =
        let held : opened unix process (argument_of sent 0) ≡ Some tests.0 = tests.1 in
        let there : IsSome (opened_inode unix tests.0) = opened-there (argument_of sent 0) tests.0 held in
        let file : is_directory (opened_inode unix tests.0) ≡ false = plain (argument_of sent 0) tests.0 (is_directory (opened_inode unix tests.0)) held tests.2 refl in
        search (have, choose, writes-sound, held, there, file, tt) depth 14
    line-sound sent call.Lseek tests = let held : opened unix process (argument_of sent 0) ≡ Some tests.0 = tests.1 in search (have, need, bar, held, refl, tt) depth 14
    line-sound sent call.Dup tests = let held : opened unix process (argument_of sent 0) ≡ Some tests.0 = tests.1 in search (have, need, held, refl, tt) depth 14
    line-sound sent call.Dup2 tests = let held : opened unix process (argument_of sent 0) ≡ Some tests.0 = tests.1 in search (have, choose, held, refl, tt) depth 14
    line-sound sent call.Pipe tests = search (need, ask, refl, tt) depth 20
    line-sound sent call.Mkdir tests = search (step, bar, walked-sound, made-sound, refl, tt) depth 20
    line-sound sent call.Rmdir tests = search (step, need, ask, bar, walked-sound, refl, tt) depth 20
    line-sound sent call.Unlink tests = search (step, need, ask, bar, walked-sound, refl, tt) depth 20
    line-sound sent call.Link tests = search (step, need, ask, bar, walked-sound, refl, tt) depth 20
    line-sound sent call.Rename tests = search (step, need, ask, bar, choose, walked-sound, renamed-sound, refl, tt) depth 20
    line-sound sent call.Fstat tests = let held : opened unix process (argument_of sent 0) ≡ Some tests.0 = tests.1 in search (have, held, tt) depth 14
    line-sound sent call.Getdents tests = let held : opened unix process (argument_of sent 0) ≡ Some tests.0 = tests.1 in search (have, ask, held, refl, tt) depth 14
    line-sound sent call.Ftruncate tests = let held : opened unix process (argument_of sent 0) ≡ Some tests.0 = tests.1 in search (have, need, bar, ask, held, refl, tt) depth 14
    line-sound sent call.Kill tests = search (need, choose, refl, tt) depth 14

pub sent_descriptors_are_open : SentDescriptorsAreOpen
sent_descriptors_are_open calls unix slot process sent input files entered is =
    let sound : Sound (call_line unix slot process input sent sent.call) = line-sound unix slot process input files sent sent.call (tested calls unix slot process sent entered is) in
    (λ refused. true-false (subst Sound refused sound), λ refused. true-false (subst Sound refused sound))
