-- Which calls have to wait.
use Rattle.std.proofs.Common.{◌≡◌, ◌≢◌, ◌↔◌, ℕ, ◌+◌, ◌-◌, ◌<◌, ◌^◌, Bool, true, false, List, [], ◌∷◌, length, Option, Some, None, Result, Ok, Err, arith, refl, sym, subst, ap, ◌∙◌, inl, inr}
use Rattle.std.proofs.lemmas.Bool.Decides.{eqb_tells, nat_tests}
use Rattle.std.specs.Prelude.{if◌then◌else◌, ◌==◌, ◌&&◌, nat_lt}
use Rattle.unix_model.specs.declared.calls.Call.{Call}
use Rattle.unix_model.specs.declared.calls.Call.TheVariants as call
use Rattle.unix_model.specs.declared.calls.Errno.{Errno}
use Rattle.unix_model.specs.declared.calls.Errno.TheVariants.{Ebadf, Echild, Epipe}
use Rattle.unix_model.specs.Effect.{Line, Waits, Goes, Takes, Puts, argument_of, replies}
use Rattle.unix_model.specs.FileCalls.{read_line, reads_from, write_file, write_line, writes_to}
use Rattle.unix_model.specs.Files.{Inode, File, Directory, Pipe, Console, has_reader, has_writer}
use Rattle.unix_model.specs.Limits.{pipe_bytes, slot_count}
use Rattle.unix_model.specs.Process.{Process, SentCall}
use Rattle.unix_model.specs.ProcessCalls.{EndedChild, is_waited, kill_line, least_ended, waitpid_line, waits_for}
use Rattle.unix_model.specs.Refusals.{◌>>=◌, ◌>>◌}
use Rattle.unix_model.specs.State.{Unix, Opened, opened, opened_inode}
use Rattle.unix_model.specs.Tables.{at, any_below}
use Rattle.unix_model.specs.Turn.{call_line}
use Rattle.unix_laws.proofs.Basics.{true-false, apart-of, apart-is}
use Rattle.unix_laws.proofs.Lines.{asks, either, needs, through}
use Rattle.unix_laws.specs.WaitingLaws.{ChildWaits, IsWaiting, ReadWaits, WaitsExactly, WriteWaits}

-- ---- lines that never wait

abbrev GoesThrough : Line → Type 0
GoesThrough (Err errno) = Unit {0}
GoesThrough (Ok Waits) = ⊥
GoesThrough (Ok (Goes state)) = Unit {0}
GoesThrough (Ok (Takes state taken left)) = Unit {0}
GoesThrough (Ok (Puts state put)) = Unit {0}

refused : (errno : Errno) → GoesThrough (Err errno)
refused errno = tt

step : {A : Type 0} (first : Result A Errno) (rest : A → Line) → ((x : A) → GoesThrough (rest x)) → GoesThrough (first >>= rest)
step first rest holds = through GoesThrough refused first rest (λ x e. holds x)

ask : (test : Result (Unit {0}) Errno) (rest : Line) → GoesThrough rest → GoesThrough (test >> rest)
ask (Ok x) rest holds = holds
ask (Err errno) rest holds = tt

choose : (test : Bool) (first second : Line) → GoesThrough first → GoesThrough second → GoesThrough (if test then first else second)
choose test first second one two = either GoesThrough refused test first second (λ e. one) (λ e. two)

-- a line that waits, where it can't
never : {W : Type 0} (line : Line) → GoesThrough line → line ≡ Ok Waits → W
never line goes e = absurd (subst GoesThrough e goes)

only : (line : Line) → GoesThrough line → (line ≡ Ok Waits) ↔ ⊥
only line goes = (never line goes, λ none. absurd none)

below : (i j : ℕ) → nat_lt i j ≡ true → i < j
below i j e = grind (arith, nat_tests)

is-below : (i j : ℕ) → i < j → nat_lt i j ≡ true
is-below i j e = grind (arith, nat_tests)

module _ (unix : Unix) (slot : ℕ) (process : Process) (input : List ℕ) where
  -- ---- a read

  module _ (number address count : ℕ) where
    abbrev R : Line → Type 0
    R line = line ≡ Ok Waits → ReadWaits unix process number count

    read-refused : (errno : Errno) → R (Err errno)
    read-refused errno = never (Err errno) tt

    empty : (bytes : List ℕ) (test : Bool) → (length bytes == 0 && test) ≡ true → (bytes ≡ []) × (test ≡ true)
    empty [] true e = (refl, refl)
    empty [] false e = (refl, e)
    empty (byte ∷ bytes) test e = elim (eqb_tells (length (byte ∷ bytes)) 0) as (λ _. (byte ∷ bytes ≡ []) × (test ≡ true)) [
      | inl same ↦ let some : length (byte ∷ bytes) ≡ 0 = same.1 in absurd (omega (arith, some))
      | inr apart ↦ absurd (true-false (sym (rw apart.0 at e)))
    ]

    reads-wait : (file : Opened) (found : Option Inode) → opened unix process number ≡ Some file → count ≢ 0 → opened_inode unix file ≡ found → R (reads_from unix slot process input file address count found)
    reads-wait file (Some (File bytes)) held some is = never (reads_from unix slot process input file address count (Some (File bytes))) tt
    reads-wait file (Some (Directory parent places)) held some is = never (reads_from unix slot process input file address count (Some (Directory parent places))) tt
    reads-wait file (Some (Pipe bytes)) held some is =
        either R read-refused ((length bytes == 0) && has_writer unix.files file.description.inode) (Ok Waits) _
        (λ waits e. let both : (bytes ≡ []) × (has_writer unix.files file.description.inode ≡ true) = empty bytes (has_writer unix.files file.description.inode) waits in
        record { file = file; held = held; some_bytes = some; empty = is ∙ ap (λ b. Some (Pipe b)) both.0; writer = both.1 })
        (λ goes. never (Ok (Goes _)) tt)
    reads-wait file (Some Console) held some is = never (reads_from unix slot process input file address count (Some Console)) tt
    reads-wait file None held some is = never (reads_from unix slot process input file address count None) tt

    read-waits : R (read_line unix slot process input number address count)
    read-waits =
        needs R read-refused Ebadf (opened unix process number) _ (λ file held.
        either R read-refused (count == 0) (replies unix slot process 0) _ (λ none. never (replies unix slot process 0) tt) (λ some. reads-wait file (opened_inode unix file) held (apart-of count 0 some) refl))

    waits-read : ReadWaits unix process number count → read_line unix slot process input number address count ≡ Ok Waits
    waits-read w = rw w.held (rw (apart-is count 0 w.some_bytes) (rw w.empty (rw w.writer refl)))

  -- ---- a write

  module _ (number : ℕ) (written : List ℕ) where
    abbrev W : Line → Type 0
    W line = line ≡ Ok Waits → WriteWaits unix process number written

    write-refused : (errno : Errno) → W (Err errno)
    write-refused errno = never (Err errno) tt

    writes-wait : (file : Opened) (found : Option Inode) → opened unix process number ≡ Some file → length written ≢ 0 → opened_inode unix file ≡ found → W (writes_to unix slot process file written found)
    writes-wait file (Some (File bytes)) held some is = never (write_file unix slot process file bytes written) (search (ask, tt) depth 14)
    writes-wait file (Some (Directory parent places)) held some is = never (writes_to unix slot process file written (Some (Directory parent places))) tt
    writes-wait file (Some (Pipe bytes)) held some is =
        asks W write-refused Epipe (has_reader unix.files file.description.inode) _ (λ reader.
        either W write-refused (nat_lt pipe_bytes (length bytes + length written)) (Ok Waits) _
        (λ full e. record { file = file; contents = bytes; held = held; some_bytes = some; pipe = is; reader = reader; full = below pipe_bytes (length bytes + length written) full })
        (λ goes. never (Ok (Goes _)) tt))
    writes-wait file (Some Console) held some is = never (writes_to unix slot process file written (Some Console)) tt
    writes-wait file None held some is = never (writes_to unix slot process file written None) tt

    write-waits : W (write_line unix slot process number written)
    write-waits =
        needs W write-refused Ebadf (opened unix process number) _ (λ file held.
        either W write-refused (length written == 0) (replies unix slot process 0) _ (λ none. never (replies unix slot process 0) tt)
        (λ some. writes-wait file (opened_inode unix file) held (apart-of (length written) 0 some) refl))

    waits-write : WriteWaits unix process number written → write_line unix slot process number written ≡ Ok Waits
    waits-write w = rw w.held (rw (apart-is (length written) 0 w.some_bytes) (rw w.pipe (rw w.reader (rw (is-below pipe_bytes (length w.contents + length written) w.full) refl))))

  -- ---- a wait

  module _ (wanted address options : ℕ) where
    abbrev C : Line → Type 0
    C line = line ≡ Ok Waits → ChildWaits unix process wanted options

    wait-refused : (errno : Errno) → C (Err errno)
    wait-refused errno = never (Err errno) tt

    child-waits : (found : Option EndedChild) → any_below (λ s. is_waited process.pid wanted (at unix.processes s)) slot_count ≡ true → least_ended unix.processes process.pid wanted slot_count ≡ found
        → C (waits_for unix slot process address options found)
    child-waits (Some ended) some is = never (waits_for unix slot process address options (Some ended)) tt
    child-waits None some is =
        either C wait-refused (options == 1) (replies unix slot process 0) (Ok Waits) (λ at_once. never (replies unix slot process 0) tt)
        (λ may e. record { some_child = some; none_ended = is; may_wait = apart-of options 1 may })

    wait-waits : C (waitpid_line unix slot process wanted address options)
    wait-waits =
        asks C wait-refused Echild (any_below (λ s. is_waited process.pid wanted (at unix.processes s)) slot_count) (waits_for unix slot process address options (least_ended unix.processes process.pid wanted slot_count))
        (λ some. child-waits (least_ended unix.processes process.pid wanted slot_count) some refl)

    waits-child : ChildWaits unix process wanted options → waitpid_line unix slot process wanted address options ≡ Ok Waits
    waits-child w = rw w.some_child (rw w.none_ended (rw (apart-is options 1 w.may_wait) refl))

  -- ---- every other call

  kill-goes : (pid signal : ℕ) → GoesThrough (kill_line unix slot process pid signal)
  kill-goes pid signal = search (step, choose, tt) depth 14

  line-goes : (sent : SentCall) (wanted : Call) → (call_line unix slot process input sent wanted ≡ Ok Waits) ↔ IsWaiting unix process sent wanted
  line-goes sent call.Exit = only (call_line unix slot process input sent call.Exit) tt
  line-goes sent call.Fork = only (call_line unix slot process input sent call.Fork) (search (step, ask, tt) depth 14)
  line-goes sent call.Exec = only (call_line unix slot process input sent call.Exec) (search (step, ask, tt) depth 14)
  line-goes sent call.Wait = (wait-waits (2 ^ 32 - 1) (argument_of sent 0) 0, waits-child (2 ^ 32 - 1) (argument_of sent 0) 0)
  line-goes sent call.Waitpid = (wait-waits (argument_of sent 0) (argument_of sent 1) (argument_of sent 2), waits-child (argument_of sent 0) (argument_of sent 1) (argument_of sent 2))
  line-goes sent call.Getpid = only (call_line unix slot process input sent call.Getpid) tt
  line-goes sent call.Getppid = only (call_line unix slot process input sent call.Getppid) tt
  line-goes sent call.Brk = only (call_line unix slot process input sent call.Brk) tt
  line-goes sent call.Open = only (call_line unix slot process input sent call.Open) (search (step, ask, tt) depth 14)
  line-goes sent call.Close = only (call_line unix slot process input sent call.Close) tt
  line-goes sent call.Read = (read-waits (argument_of sent 0) (argument_of sent 1) (argument_of sent 2), waits-read (argument_of sent 0) (argument_of sent 1) (argument_of sent 2))
  line-goes sent call.Write = (write-waits (argument_of sent 0) sent.bytes, waits-write (argument_of sent 0) sent.bytes)
  line-goes sent call.Lseek = only (call_line unix slot process input sent call.Lseek) (search (step, ask, tt) depth 14)
  line-goes sent call.Dup = only (call_line unix slot process input sent call.Dup) (search (step, ask, tt) depth 14)
  line-goes sent call.Dup2 = only (call_line unix slot process input sent call.Dup2) (search (step, choose, tt) depth 14)
  line-goes sent call.Pipe = only (call_line unix slot process input sent call.Pipe) (search (step, ask, tt) depth 14)
  line-goes sent call.Mkdir = only (call_line unix slot process input sent call.Mkdir) (search (step, ask, tt) depth 14)
  line-goes sent call.Rmdir = only (call_line unix slot process input sent call.Rmdir) (search (step, ask, tt) depth 14)
  line-goes sent call.Unlink = only (call_line unix slot process input sent call.Unlink) (search (step, ask, tt) depth 14)
  line-goes sent call.Link = only (call_line unix slot process input sent call.Link) (search (step, ask, tt) depth 14)
  line-goes sent call.Rename = only (call_line unix slot process input sent call.Rename) (search (step, ask, choose, tt) depth 20)
  line-goes sent call.Fstat = only (call_line unix slot process input sent call.Fstat) (search (step, ask, tt) depth 14)
  line-goes sent call.Getdents = only (call_line unix slot process input sent call.Getdents) (search (step, ask, tt) depth 14)
  line-goes sent call.Ftruncate = only (call_line unix slot process input sent call.Ftruncate) (search (step, ask, tt) depth 14)
  line-goes sent call.Kill = only (call_line unix slot process input sent call.Kill) (kill-goes (argument_of sent 0) (argument_of sent 1))

pub waits_exactly : WaitsExactly
waits_exactly unix slot process sent input = line-goes unix slot process input sent sent.call
