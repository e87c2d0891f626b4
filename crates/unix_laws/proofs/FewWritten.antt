-- What a call of `write` brings is few: the keeper reads no more of it than one call moves.
use Rattle.std.proofs.Common.{◌≡◌, ℕ, zero, suc, ◌+◌, ◌≤◌, Bool, true, false, List, [], ◌∷◌, ◌++◌, Option, Some, None, Result, Ok, Err, refl, arith, subst, ap, ◌∙◌, sym, length, length-append}
use Rattle.std.specs.Prelude.{if◌then◌else◌}
use Rattle.unix_model.specs.declared.calls.Call.{Call}
use Rattle.unix_model.specs.declared.calls.Call.TheVariants as call
use Rattle.unix_model.specs.declared.calls.Errno.{Errno}
use Rattle.unix_model.specs.declared.calls.Errno.TheVariants.{Enosys}
use Rattle.unix_model.specs.Calls.{Calls}
use Rattle.unix_model.specs.Enter.{call_enters, cut_count, entered_line}
use Rattle.unix_model.specs.Memory.{Memory, and_byte, byte_at, bytes_at}
use Rattle.unix_model.specs.Process.{Process, SentCall, Phase, Run, Asked, Sent, Done, Exiting, Zombie, argument, in_phase}
use Rattle.unix_model.specs.Refusals.{◌>>=◌, ◌>>◌, refuse◌when◌, refuse◌where_not◌, refuse◌unless◌}
use Rattle.unix_model.specs.Rules.{AreSent}
use Rattle.unix_model.specs.State.{Unix, with_phase}
use Rattle.unix_model.specs.Tables.{at}
use Rattle.unix_laws.proofs.Basics.{some-differ, some-same}
use Rattle.unix_laws.proofs.Lines.{through, needs, asks, bars, either}

-- as many bytes are read as are asked for
read-more : (n : ℕ) (found : Option (List ℕ)) (byte : Option ℕ) (bytes : List ℕ) → ((before : List ℕ) → found ≡ Some before → length before ≡ n) → and_byte found byte ≡ Some bytes → length bytes ≡ suc n
read-more n None byte bytes rest e = some-differ bytes e
read-more n (Some before) None bytes rest e = some-differ bytes e
read-more n (Some before) (Some byte) bytes rest e =
    let size : length before ≡ n = rest before refl in
    ap length (sym (some-same (before ++ byte ∷ []) bytes e)) ∙ simp length-append (omega (arith, size))

read-size : (memory : Memory) (address n : ℕ) (bytes : List ℕ) → bytes_at memory address n ≡ Some bytes → length bytes ≡ n
unfolding bytes_at
read-size memory address zero bytes e = ap length (sym (some-same [] bytes e))
read-size memory address (suc n) bytes e =
    read-more n (bytes_at memory address n) (byte_at memory (address + n)) bytes (λ before f. read-size memory address n before f) e

-- a call of `write` brings few bytes
abbrev pub FewWritten : SentCall → Call → Type 0
FewWritten sent call.Write = length sent.bytes ≤ 4096
FewWritten sent call.Exit = Unit {0}
FewWritten sent call.Fork = Unit {0}
FewWritten sent call.Exec = Unit {0}
FewWritten sent call.Wait = Unit {0}
FewWritten sent call.Waitpid = Unit {0}
FewWritten sent call.Getpid = Unit {0}
FewWritten sent call.Getppid = Unit {0}
FewWritten sent call.Brk = Unit {0}
FewWritten sent call.Open = Unit {0}
FewWritten sent call.Close = Unit {0}
FewWritten sent call.Read = Unit {0}
FewWritten sent call.Lseek = Unit {0}
FewWritten sent call.Dup = Unit {0}
FewWritten sent call.Dup2 = Unit {0}
FewWritten sent call.Pipe = Unit {0}
FewWritten sent call.Mkdir = Unit {0}
FewWritten sent call.Rmdir = Unit {0}
FewWritten sent call.Unlink = Unit {0}
FewWritten sent call.Link = Unit {0}
FewWritten sent call.Rename = Unit {0}
FewWritten sent call.Fstat = Unit {0}
FewWritten sent call.Getdents = Unit {0}
FewWritten sent call.Ftruncate = Unit {0}
FewWritten sent call.Kill = Unit {0}

abbrev pub PhaseFew : Phase → Type 0
PhaseFew (Sent sent) = FewWritten sent sent.call
PhaseFew Run = Unit {0}
PhaseFew Asked = Unit {0}
PhaseFew (Done value address bytes) = Unit {0}
PhaseFew (Exiting word) = Unit {0}
PhaseFew (Zombie word) = Unit {0}

abbrev EntryFew : Result Process Errno → Type 0
EntryFew (Err errno) = Unit {0}
EntryFew (Ok after) = PhaseFew after.phase

module _ (unix : Unix) (slot : ℕ) (process : Process) where
  abbrev Q : Result Process Errno → Type 0
  Q entry = EntryFew entry

  refused : (errno : Errno) → Q (Err errno)
  refused errno = tt

  step : {A : Type 0} (first : Result A Errno) (rest : A → Result Process Errno) → ((x : A) → first ≡ Ok x → Q (rest x)) → Q (first >>= rest)
  step = through Q refused

  need : {A : Type 0} (errno : Errno) (found : Option A) (rest : A → Result Process Errno) → ((x : A) → found ≡ Some x → Q (rest x)) → Q ((refuse errno unless found) >>= rest)
  need = needs Q refused

  ask : (errno : Errno) (test : Bool) (rest : Result Process Errno) → (test ≡ true → Q rest) → Q ((refuse errno where_not test) >> rest)
  ask = asks Q refused

  bar : (errno : Errno) (test : Bool) (rest : Result Process Errno) → (test ≡ false → Q rest) → Q ((refuse errno when test) >> rest)
  bar = bars Q refused

  choose : (test : Bool) (first second : Result Process Errno) → (test ≡ true → Q first) → (test ≡ false → Q second) → Q (if test then first else second)
  choose = either Q refused

  written : (address count : ℕ) (bytes : List ℕ) → bytes_at process.memory address (cut_count count) ≡ Some bytes → length bytes ≤ 4096
  written address count bytes e =
      let size : length bytes ≡ cut_count count = read-size process.memory address (cut_count count) bytes e in
      omega (arith, size)

  call-few : (wanted : Call) → Q (call_enters unix slot process (argument process 0) (argument process 1) (argument process 2) wanted)
  call-few call.Exit = tt
  call-few call.Fork = tt
  call-few call.Exec = search (step, tt) depth 20
  call-few call.Wait = search (ask, tt) depth 20
  call-few call.Waitpid = search (bar, ask, tt) depth 20
  call-few call.Getpid = tt
  call-few call.Getppid = tt
  call-few call.Brk = search (choose, bar, ask, tt) depth 20
  call-few call.Open = search (step, ask, tt) depth 20
  call-few call.Close = search (need, tt) depth 20
  call-few call.Read = search (need, ask, tt) depth 20
  call-few call.Write = search (need, ask, written) depth 20
  call-few call.Lseek = search (need, bar, tt) depth 20
  call-few call.Dup = search (need, tt) depth 20
  call-few call.Dup2 = search (need, bar, tt) depth 20
  call-few call.Pipe = search (ask, tt) depth 20
  call-few call.Mkdir = search (step, tt) depth 20
  call-few call.Rmdir = search (step, tt) depth 20
  call-few call.Unlink = search (step, tt) depth 20
  call-few call.Link = search (step, tt) depth 20
  call-few call.Rename = search (step, tt) depth 20
  call-few call.Fstat = search (need, ask, tt) depth 20
  call-few call.Getdents = search (need, bar, ask, tt) depth 20
  call-few call.Ftruncate = search (need, ask, bar, tt) depth 20
  call-few call.Kill = search (ask, bar, tt) depth 20

line-few : (calls : Calls) (unix : Unix) (slot : ℕ) (process : Process) → EntryFew (entered_line calls unix slot process)
unfolding entered_line
line-few calls unix slot process =
    needs EntryFew (λ errno. tt) Enosys (calls (argument process 7)) _ (λ asked e. call-few unix slot process asked)

-- a call that was sent is one that the keeper gives
pub sent-few : (calls : Calls) (unix : Unix) (slot : ℕ) (process : Process) (sent : SentCall) → AreSent calls unix → at unix.processes slot ≡ Some process → process.phase ≡ Sent sent → FewWritten sent sent.call
unfolding AreSent
sent-few calls unix slot process sent are there is =
    subst PhaseFew is (subst EntryFew (are slot process sent there is) (line-few calls (with_phase unix slot process Asked) slot (in_phase process Asked)))

-- so of any phase in which the call on its way is such
pub phase-few : (phase : Phase) → ((sent : SentCall) → phase ≡ Sent sent → FewWritten sent sent.call) → PhaseFew phase
phase-few (Sent sent) few = few sent refl
phase-few Run few = tt
phase-few Asked few = tt
phase-few (Done value address bytes) few = tt
phase-few (Exiting word) few = tt
phase-few (Zombie word) few = tt
