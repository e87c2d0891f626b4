-- Which refusals each call may meet.
use Rattle.std.proofs.Common.{◌≡◌, ℕ, zero, suc, Bool, true, false, List, [], ◌∷◌, length, Option, Some, None, Result, Ok, Err, refl, sym, subst}
use Rattle.std.specs.Prelude.{IsSome, if◌then◌else◌, ◌==◌}
use Rattle.unix_model.specs.declared.calls.Call.{Call}
use Rattle.unix_model.specs.declared.calls.Call.TheVariants as call
use Rattle.unix_model.specs.declared.calls.Errno.{Errno}
use Rattle.unix_model.specs.declared.calls.Errno.TheVariants.{E2big, Efault, Emfile, Enametoolong, Enomem, Enfile, Enoent, Enoexec, Enosys, Enospc, Enotdir, Eisdir}
use Rattle.unix_model.specs.declared.elf.ElfFault.{ElfFault}
use Rattle.unix_model.specs.Effect.{argument_of}
use Rattle.unix_model.specs.Elf.{LoadPlan}
use Rattle.unix_model.specs.Enter.{call_enters, entered_line, path_at, strings_at, text_at}
use Rattle.unix_model.specs.FileCalls.{pipe_line, reads_from, with_pipe, writes_to}
use Rattle.unix_model.specs.Files.{Console, Directory, File, Files, Inode, Pipe, free_description, free_inode, is_directory, next_description}
use Rattle.unix_model.specs.Memory.{Memory}
use Rattle.unix_model.specs.NameCalls.{made, renamed, to_open}
use Rattle.unix_model.specs.Paths.{Spot, named, stepped, walked, walked_from, walked_in}
use Rattle.unix_model.specs.Process.{Process, SentCall, Asked, argument, in_phase, lowest_closed, next_closed}
use Rattle.unix_model.specs.ProcessCalls.{EndedChild, program, waits_for}
use Rattle.unix_model.specs.Refusals.{◌>>=◌, ◌>>◌, refuse◌when◌, refuse◌where_not◌, refuse◌unless◌}
use Rattle.unix_model.specs.Room.{has_room}
use Rattle.unix_model.specs.Rules.{AreDescriptions, AreSent}
use Rattle.unix_model.specs.State.{Unix, Opened, opened, opened_inode, with_phase}
use Rattle.unix_model.specs.Turn.{call_line}
use Rattle.unix_laws.proofs.Basics.{true-false}
use Rattle.unix_laws.proofs.DescriptorsFree.{free_description_exists, two_free_descriptions_exist}
use Rattle.unix_laws.proofs.DescriptorsKeep.{slots_have_descriptors}
use Rattle.unix_laws.proofs.Tested.{opened-is, tested}
use Rattle.unix_laws.proofs.TurnChanges.{Sendable}
use Rattle.unix_laws.specs.RuleLaws.{HaveDescriptors}
use Rattle.unix_rules.specs.RefusalLaws.{KeeperRows, PipeWantsInode, ServerRows, is_among, keeper_row, server_row}

module _ (row : List Errno) where
  -- a refusal, if any, is one of the row
  abbrev pub In : {B : Type 0} → Result B Errno → Type 0
  In (Err errno) = is_among errno row ≡ true
  In (Ok x) = Unit {0}

  step : {A B : Type 0} (first : Result A Errno) (rest : A → Result B Errno) → In first → ((x : A) → first ≡ Ok x → In (rest x)) → In (first >>= rest)
  step (Ok x) rest among holds = holds x refl
  step (Err errno) rest among holds = among

  need : {A B : Type 0} (errno : Errno) (found : Option A) (rest : A → Result B Errno) → is_among errno row ≡ true → ((x : A) → found ≡ Some x → In (rest x)) → In ((refuse errno unless found) >>= rest)
  need errno (Some x) rest among holds = holds x refl
  need errno None rest among holds = among

  -- something that is there
  have : {A B : Type 0} (errno : Errno) (found : Option A) (x : A) (rest : A → Result B Errno) → found ≡ Some x → In (rest x) → In ((refuse errno unless found) >>= rest)
  have errno found x rest there holds = rw there holds

  some : {A B : Type 0} (errno : Errno) (found : Option A) (rest : A → Result B Errno) → IsSome found → ((x : A) → found ≡ Some x → In (rest x)) → In ((refuse errno unless found) >>= rest)
  some errno (Some x) rest there holds = holds x refl
  some errno None rest there holds = absurd (true-false (sym there))

  ask : {B : Type 0} (errno : Errno) (test : Bool) (rest : Result B Errno) → is_among errno row ≡ true → In rest → In ((refuse errno where_not test) >> rest)
  ask errno true rest among holds = holds
  ask errno false rest among holds = among

  bar : {B : Type 0} (errno : Errno) (test : Bool) (rest : Result B Errno) → is_among errno row ≡ true → In rest → In ((refuse errno when test) >> rest)
  bar errno true rest among holds = among
  bar errno false rest among holds = holds

  choose : {B : Type 0} (test : Bool) (first second : Result B Errno) → In first → In second → In (if test then first else second)
  choose true first second holds other = holds
  choose false first second holds other = other

  -- ---- walks, and what the keeper reads

  module _ (no_entry : is_among Enoent row ≡ true) (no_directory : is_among Enotdir row ≡ true) (too_long : is_among Enametoolong row ≡ true) where
    named-in : (files : Files) (spot : Spot) (name : List ℕ) → In (named files spot name)
    named-in files spot name = search (need, ask, bar, no_entry, no_directory, too_long, tt) depth 14

    stepped-in : (files : Files) (spot : Spot) (part : List ℕ) → In (stepped files spot part)
    stepped-in files spot part = choose (length part == 0) (Ok spot) (named files spot part) tt (named-in files spot part)

    from-in : (files : Files) (spot : Spot) (parts : List (List ℕ)) → In (walked_from files spot parts)
    from-in files spot [] = tt
    from-in files spot (part ∷ parts) = step (stepped files spot part) (λ next. walked_from files next parts) (stepped-in files spot part) (λ next e. from-in files next parts)

    walked-in : (files : Files) (path : List ℕ) → In (walked files path)
    unfolding walked walked_in
    walked-in files path = search (step, ask, bar, from-in, no_entry, no_directory, tt) depth 14

  text-in : (memory : Memory) (too_long : Errno) (n address : ℕ) → is_among Efault row ≡ true → is_among too_long row ≡ true → In (text_at memory too_long n address)
  unfolding text_at
  text-in memory too_long zero address fault long = long
  text-in memory too_long (suc n) address fault long =
      let rest : (a : ℕ) → In (text_at memory too_long n a) = λ a. text-in memory too_long n a fault long in
      search (need, choose, step, fault, rest, tt) depth 14

  path-in : (memory : Memory) (address : ℕ) → is_among Efault row ≡ true → is_among Enametoolong row ≡ true → In (path_at memory address)
  path-in memory address fault long = text-in memory Enametoolong 256 address fault long

  strings-in : (memory : Memory) (n room address : ℕ) → is_among Efault row ≡ true → is_among E2big row ≡ true → In (strings_at memory n room address)
  unfolding strings_at
  strings-in memory zero room address fault big = search (need, ask, fault, big, tt) depth 14
  strings-in memory (suc n) room address fault big =
      let rest : (r a : ℕ) → In (strings_at memory n r a) = λ r a. strings-in memory n r a fault big in
      let text : (k a : ℕ) → In (text_at memory E2big k a) = λ k a. text-in memory E2big k a fault big in
      search (need, choose, step, bar, fault, big, rest, text, tt) depth 14

-- ---- the keeper

module _ (unix : Unix) (slot : ℕ) (process : Process) where
  enters-in : (wanted : Call) → In (keeper_row wanted) (call_enters unix slot process (argument process 0) (argument process 1) (argument process 2) wanted)
  enters-in call.Exit = tt
  enters-in call.Fork = tt
  enters-in call.Exec = search (step, choose, path-in, strings-in, refl, tt) depth 20
  enters-in call.Wait = search (ask, refl, tt) depth 20
  enters-in call.Waitpid = search (ask, bar, refl, tt) depth 20
  enters-in call.Getpid = tt
  enters-in call.Getppid = tt
  enters-in call.Brk = search (choose, bar, ask, refl, tt) depth 20
  enters-in call.Open = search (step, ask, path-in, refl, tt) depth 20
  enters-in call.Close = search (need, refl, tt) depth 20
  enters-in call.Read = search (need, ask, refl, tt) depth 20
  enters-in call.Write = search (need, ask, refl, tt) depth 20
  enters-in call.Lseek = search (need, bar, refl, tt) depth 20
  enters-in call.Dup = search (need, refl, tt) depth 20
  enters-in call.Dup2 = search (need, bar, refl, tt) depth 20
  enters-in call.Pipe = search (ask, refl, tt) depth 20
  enters-in call.Mkdir = search (step, path-in, refl, tt) depth 20
  enters-in call.Rmdir = search (step, path-in, refl, tt) depth 20
  enters-in call.Unlink = search (step, path-in, refl, tt) depth 20
  enters-in call.Link = search (step, path-in, refl, tt) depth 20
  enters-in call.Rename = search (step, path-in, refl, tt) depth 20
  enters-in call.Fstat = search (need, ask, refl, tt) depth 20
  enters-in call.Getdents = search (need, bar, ask, refl, tt) depth 20
  enters-in call.Ftruncate = search (need, ask, bar, refl, tt) depth 20
  enters-in call.Kill = search (ask, bar, refl, tt) depth 20

in-err : {B : Type 0} (row : List Errno) (found : Result B Errno) (errno : Errno) → found ≡ Err errno → In row found → is_among errno row ≡ true
in-err row (Ok x) errno e among = cc
in-err row (Err given) errno e among = let same : given ≡ errno = cc in subst (λ (x : Errno). is_among x row ≡ true) same among

pub keeper_rows : KeeperRows
unfolding entered_line
keeper_rows calls unix slot process wanted errno is e =
    in-err (keeper_row wanted) (entered_line calls unix slot process) errno e
    (have (keeper_row wanted) Enosys (calls (argument process 7)) wanted (λ asked. call_enters unix slot process (argument process 0) (argument process 1) (argument process 2) asked) is (enters-in unix slot process wanted))

-- ---- the servers

module _ (unix : Unix) (slot : ℕ) (process : Process) (input : List ℕ) (files : AreDescriptions unix.files) where
  opened-there : (number : ℕ) (file : Opened) → opened unix process number ≡ Some file → IsSome (opened_inode unix file)
  opened-there number file held = (files.each file.number file.description (opened-is unix process number file held).there).inode

  plain : (number : ℕ) (file : Opened) (directory : Bool) → opened unix process number ≡ Some file → file.description.writable ≡ true → is_directory (opened_inode unix file) ≡ directory → directory ≡ false
  plain number file true held writable is = cc ((files.each file.number file.description (opened-is unix process number file held).there).directory_mode is)
  plain number file false held writable is = refl

  reads-in : (row : List Errno) (file : Opened) (address count : ℕ) (found : Option Inode) → is_among Eisdir row ≡ true → IsSome found → In row (reads_from unix slot process input file address count found)
  reads-in row file address count (Some (File bytes)) among there = tt
  reads-in row file address count (Some (Directory parent places)) among there = among
  reads-in row file address count (Some (Pipe bytes)) among there = search (choose, tt) depth 14
  reads-in row file address count (Some Console) among there = tt
  reads-in row file address count None among there = cc

  writes-in : (file : Opened) (written : List ℕ) (found : Option Inode) → IsSome found → is_directory found ≡ false → In (server_row call.Write) (writes_to unix slot process file written found)
  writes-in file written (Some (File bytes)) there is_plain = search (ask, bar, refl, tt) depth 14
  writes-in file written (Some (Directory parent places)) there is_plain = cc
  writes-in file written (Some (Pipe bytes)) there is_plain = search (ask, choose, refl, tt) depth 14
  writes-in file written (Some Console) there is_plain = tt
  writes-in file written None there is_plain = cc

  waits-in : (row : List Errno) (address options : ℕ) (found : Option EndedChild) → In row (waits_for unix slot process address options found)
  waits-in row address options (Some ended) = tt
  waits-in row address options None = search (choose, tt) depth 14

  made-in : (row : List Errno) (spot : Spot) (new : Inode) → is_among Enospc row ≡ true → In row (made unix spot new)
  made-in row spot new among = search (need, ask, bar, among, tt) depth 14

  to-open-in : (path : List ℕ) (flags : ℕ) (spot : Spot) (found : Option ℕ) → In (server_row call.Open) (to_open unix path flags spot found)
  to-open-in path flags spot None = search (step, ask, bar, made-in, refl, tt) depth 14
  to-open-in path flags spot (Some number) = search (bar, refl, tt) depth 14

  renamed-in : (from to : Spot) (inode : ℕ) (found : Option ℕ) → In (server_row call.Rename) (renamed unix from to inode found)
  renamed-in from to inode None = search (ask, bar, refl, tt) depth 14
  renamed-in from to inode (Some other) = search (bar, refl, tt) depth 14

  program-in : (row : List Errno) (plan : Result LoadPlan ElfFault) → is_among Enoexec row ≡ true → In row (program plan)
  program-in row (Ok plan) among = tt
  program-in row (Err fault) among = among

  module _ (one : (lowest : ℕ) → lowest_closed process ≡ Some lowest → IsSome (free_description unix.files.descriptions))
      (two : (first second reader : ℕ) → lowest_closed process ≡ Some first → next_closed process first ≡ Some second → free_description unix.files.descriptions ≡ Some reader
      → IsSome (next_description unix.files.descriptions reader)) where
    server-in : (sent : SentCall) (wanted : Call) → Sendable (with_phase unix slot process Asked) (in_phase process Asked) sent wanted → In (server_row wanted) (call_line unix slot process input sent wanted)
    server-in sent call.Exit tests = tt
    server-in sent call.Fork tests = search (need, ask, bar, refl, tt) depth 14
    server-in sent call.Exec tests = search (step, need, ask, walked-in, program-in, refl, tt) depth 20
    server-in sent call.Wait tests = search (ask, waits-in, refl, tt) depth 14
    server-in sent call.Waitpid tests = search (ask, waits-in, refl, tt) depth 14
    server-in sent call.Getpid tests = absurd tests
    server-in sent call.Getppid tests = absurd tests
    server-in sent call.Brk tests = absurd tests
    server-in sent call.Open tests = search (step, need, some, one, walked-in, to-open-in, refl, tt) depth 20
    server-in sent call.Close tests = tt
    server-in sent call.Read tests =
        let held : opened unix process (argument_of sent 0) ≡ Some tests.0 = tests.1 in
        let there : IsSome (opened_inode unix tests.0) = opened-there (argument_of sent 0) tests.0 held in
        search (have, choose, reads-in, held, there, refl, tt) depth 14
    server-in sent call.Write tests =
        let held : opened unix process (argument_of sent 0) ≡ Some tests.0 = tests.1 in
        let there : IsSome (opened_inode unix tests.0) = opened-there (argument_of sent 0) tests.0 held in
        let file : is_directory (opened_inode unix tests.0) ≡ false = plain (argument_of sent 0) tests.0 (is_directory (opened_inode unix tests.0)) held tests.2 refl in
        search (have, choose, writes-in, held, there, file, tt) depth 14
    server-in sent call.Lseek tests = let held : opened unix process (argument_of sent 0) ≡ Some tests.0 = tests.1 in search (have, need, bar, held, refl, tt) depth 14
    server-in sent call.Dup tests = let held : opened unix process (argument_of sent 0) ≡ Some tests.0 = tests.1 in search (have, need, held, refl, tt) depth 14
    server-in sent call.Dup2 tests = let held : opened unix process (argument_of sent 0) ≡ Some tests.0 = tests.1 in search (have, choose, held, refl, tt) depth 14
    server-in sent call.Pipe tests = search (need, ask, refl, tt) depth 20
    server-in sent call.Mkdir tests = search (step, bar, walked-in, made-in, refl, tt) depth 20
    server-in sent call.Rmdir tests = search (step, need, ask, bar, walked-in, refl, tt) depth 20
    server-in sent call.Unlink tests = search (step, need, ask, bar, walked-in, refl, tt) depth 20
    server-in sent call.Link tests = search (step, need, ask, bar, walked-in, refl, tt) depth 20
    server-in sent call.Rename tests = search (step, need, ask, bar, choose, walked-in, renamed-in, refl, tt) depth 20
    server-in sent call.Fstat tests = let held : opened unix process (argument_of sent 0) ≡ Some tests.0 = tests.1 in search (have, held, tt) depth 14
    server-in sent call.Getdents tests = let held : opened unix process (argument_of sent 0) ≡ Some tests.0 = tests.1 in search (have, ask, held, refl, tt) depth 14
    server-in sent call.Ftruncate tests = let held : opened unix process (argument_of sent 0) ≡ Some tests.0 = tests.1 in search (have, need, bar, ask, held, refl, tt) depth 14
    server-in sent call.Kill tests = search (need, choose, refl, tt) depth 14

pub server_rows : ServerRows
unfolding AreSent
server_rows calls unix slot process sent input errno is there sends e =
    let have_descriptors : HaveDescriptors unix.processes = slots_have_descriptors unix.processes is.slots in
    in-err (server_row sent.call) (call_line unix slot process input sent sent.call) errno e
    (server-in unix slot process input is.descriptions (λ lowest low. free_description_exists unix slot lowest process have_descriptors is.opens there low)
    (λ first second reader low next free. two_free_descriptions_exist unix slot first second reader process have_descriptors is.opens there low next free) sent sent.call
    (tested calls (with_phase unix slot process Asked) slot process sent (is.sent slot process sent there sends) sends))

-- ---- ENFILE

-- where the refusal is ENFILE, this holds
abbrev Only : {B : Type 0} → Type 0 → Result B Errno → Type 0
Only G (Err errno) = errno ≡ Enfile → G
Only G (Ok x) = Unit {0}

not-file : {P : Type 0} → Emfile ≡ Enfile → P
not-file e = cc

not-memory : {P : Type 0} → Enomem ≡ Enfile → P
not-memory e = cc

o-need : {A B : Type 0} (G : Type 0) (errno : Errno) (found : Option A) (rest : A → Result B Errno) → (found ≡ None → errno ≡ Enfile → G) → ((x : A) → found ≡ Some x → Only G (rest x)) → Only G ((refuse errno unless found) >>= rest)
o-need G errno (Some x) rest none holds = holds x refl
o-need G errno None rest none holds = none refl

o-ask : {B : Type 0} (G : Type 0) (errno : Errno) (test : Bool) (rest : Result B Errno) → (errno ≡ Enfile → G) → Only G rest → Only G ((refuse errno where_not test) >> rest)
o-ask G errno true rest refused holds = holds
o-ask G errno false rest refused holds = refused

o-err : {B : Type 0} (G : Type 0) (found : Result B Errno) → found ≡ Err Enfile → Only G found → G
o-err G (Ok x) e only = cc
o-err G (Err given) e only = only (cc)

no-none : {X : Type 0} {P : Type 0} (found : Option X) → IsSome found → found ≡ None → P
no-none None there e = absurd (true-false (sym there))
no-none (Some x) there e = cc

pub pipe_wants_inode : PipeWantsInode
pipe_wants_inode calls unix slot process address is there e =
    let have_descriptors : HaveDescriptors unix.processes = slots_have_descriptors unix.processes is.slots in
    let G : Type 0 = free_inode unix.files.inodes ≡ None in
    o-err G (pipe_line unix slot process address) e
    (o-need G Emfile (lowest_closed process) _ (λ none. not-file) (λ first low.
    o-need G Emfile (next_closed process first) _ (λ none. not-file) (λ second next.
    o-need G Enfile (free_description unix.files.descriptions) _
    (λ none same. no-none (free_description unix.files.descriptions) (free_description_exists unix slot first process have_descriptors is.opens there low) none) (λ reader free.
    o-need G Enfile (next_description unix.files.descriptions reader) _
    (λ none same. no-none (next_description unix.files.descriptions reader) (two_free_descriptions_exist unix slot first second reader process have_descriptors is.opens there low next free) none) (λ writer free2.
    o-need G Enfile (free_inode unix.files.inodes) _ (λ none same. none) (λ inode free3. o-ask G Enomem (has_room (with_pipe unix inode reader writer)) _ not-memory tt))))))
