-- Calls that neither read nor write take nothing from the console and put nothing there, whatever input is there; and of
-- them wait and waitpid alone may wait.
use Rattle.std.proofs.Common.{◌≡◌, ◌≢◌, ℕ, ◌-◌, ◌^◌, Bool, true, false, List, [], Option, Some, None, Result, Ok, Err, refl, sym, subst}
use Rattle.std.specs.Prelude.{if◌then◌else◌, ◌==◌}
use Rattle.unix_model.specs.declared.calls.Call.{Call}
use Rattle.unix_model.specs.declared.calls.Call.TheVariants as call
use Rattle.unix_model.specs.declared.calls.Errno.{Errno}
use Rattle.unix_model.specs.declared.calls.Errno.TheVariants.{Echild, Enosys}
use Rattle.unix_model.specs.declared.calls.Turned.{Turned}
use Rattle.unix_model.specs.declared.calls.Turned.TheVariants.{Worked, Blocked}
use Rattle.unix_model.specs.Effect.{Line, Waits, Goes, Takes, Puts, argument_of, replies, settled}
use Rattle.unix_model.specs.Process.{Process, SentCall}
use Rattle.unix_model.specs.Limits.{slot_count}
use Rattle.unix_model.specs.ProcessCalls.{EndedChild, is_waited, least_ended, waitpid_line, waits_for}
use Rattle.unix_model.specs.Refusals.{◌>>=◌, ◌>>◌, refuse◌where_not◌}
use Rattle.unix_model.specs.Tables.{at, any_below}
use Rattle.unix_model.specs.State.{Unix}
use Rattle.unix_model.specs.Turn.{call_line}
use Rattle.flat_state.specs.Settles.{Settles}
use Rattle.flat_unix.specs.Idle.{is_waiting}
use Rattle.flat_unix.specs.Families.{family_of}
use Rattle.flat_unix.specs.Turns.{quiet_turn}
use Rattle.flat_unix.specs.declared.families.Family.TheVariants.{Keeper, Streams}

-- a line that takes nothing and puts nothing, and waits only where it may
abbrev IsQuietLine : Type 0 → Line → Type 0
IsQuietLine May (Err errno) = Unit {0}
IsQuietLine May (Ok Waits) = May
IsQuietLine May (Ok (Goes state)) = Unit {0}
IsQuietLine May (Ok (Takes state taken left)) = ⊥
IsQuietLine May (Ok (Puts state put)) = ⊥

-- the calls that may wait
abbrev MayWait : Call → Type 0
MayWait call.Wait = Unit {0}
MayWait call.Waitpid = Unit {0}
MayWait _ = ⊥

module _ (May : Type 0) where
  step : {A : Type 0} (first : Result A Errno) (rest : A → Line) → ((x : A) → IsQuietLine May (rest x)) → IsQuietLine May (first >>= rest)
  step (Ok x) rest holds = holds x
  step (Err errno) rest holds = tt

  ask : (test : Result (Unit {0}) Errno) (rest : Line) → IsQuietLine May rest → IsQuietLine May (test >> rest)
  ask (Ok x) rest holds = holds
  ask (Err errno) rest holds = tt

  choose : (test : Bool) (first second : Line) → IsQuietLine May first → IsQuietLine May second → IsQuietLine May (if test then first else second)
  choose true first second one two = one
  choose false first second one two = two

module _ (unix : Unix) (slot : ℕ) (process : Process) (input : List ℕ) where
  waits-child : (address options : ℕ) (found : Option EndedChild) → IsQuietLine (Unit {0}) (waits_for unix slot process address options found)
  waits-child address options (Some ended) = tt
  waits-child address options None = choose (Unit {0}) (options == 1) (replies unix slot process 0) (Ok Waits) tt tt

  waits-line : (wanted address options : ℕ) → IsQuietLine (Unit {0}) (waitpid_line unix slot process wanted address options)
  waits-line wanted address options =
      ask (Unit {0}) (refuse Echild where_not any_below (λ n. is_waited process.pid wanted (at unix.processes n)) slot_count) (waits_for unix slot process address options (least_ended unix.processes process.pid wanted slot_count))
      (waits-child address options (least_ended unix.processes process.pid wanted slot_count))

  quiet-line : (sent : SentCall) (wanted : Call) → family_of wanted ≢ Streams → IsQuietLine (MayWait wanted) (call_line unix slot process input sent wanted)
  quiet-line sent call.Exit apart = tt
  quiet-line sent call.Fork apart = search (step, ask, tt) depth 14
  quiet-line sent call.Exec apart = search (step, ask, tt) depth 14
  quiet-line sent call.Wait apart = waits-line (2 ^ 32 - 1) (argument_of sent 0) 0
  quiet-line sent call.Waitpid apart = waits-line (argument_of sent 0) (argument_of sent 1) (argument_of sent 2)
  quiet-line sent call.Getpid apart = tt
  quiet-line sent call.Getppid apart = tt
  quiet-line sent call.Brk apart = tt
  quiet-line sent call.Open apart = search (step, ask, tt) depth 14
  quiet-line sent call.Close apart = tt
  quiet-line sent call.Read apart = absurd (apart refl)
  quiet-line sent call.Write apart = absurd (apart refl)
  quiet-line sent call.Lseek apart = search (step, ask, tt) depth 14
  quiet-line sent call.Dup apart = search (step, ask, tt) depth 14
  quiet-line sent call.Dup2 apart = search (step, choose, tt) depth 14
  quiet-line sent call.Pipe apart = search (step, ask, tt) depth 14
  quiet-line sent call.Mkdir apart = search (step, ask, tt) depth 14
  quiet-line sent call.Rmdir apart = search (step, ask, tt) depth 14
  quiet-line sent call.Unlink apart = search (step, ask, tt) depth 14
  quiet-line sent call.Link apart = search (step, ask, tt) depth 14
  quiet-line sent call.Rename apart = search (step, ask, choose, tt) depth 20
  quiet-line sent call.Fstat apart = search (step, ask, tt) depth 14
  quiet-line sent call.Getdents apart = search (step, ask, tt) depth 14
  quiet-line sent call.Ftruncate apart = search (step, ask, tt) depth 14
  quiet-line sent call.Kill apart = search (step, choose, tt) depth 14

  -- the input doesn't matter
  same-line : (sent : SentCall) (wanted : Call) → family_of wanted ≢ Streams → call_line unix slot process input sent wanted ≡ call_line unix slot process [] sent wanted
  same-line sent call.Read apart = absurd (apart refl)
  same-line sent call.Write apart = absurd (apart refl)
  same-line sent call.Exit apart = refl
  same-line sent call.Fork apart = refl
  same-line sent call.Exec apart = refl
  same-line sent call.Wait apart = refl
  same-line sent call.Waitpid apart = refl
  same-line sent call.Getpid apart = refl
  same-line sent call.Getppid apart = refl
  same-line sent call.Brk apart = refl
  same-line sent call.Open apart = refl
  same-line sent call.Close apart = refl
  same-line sent call.Lseek apart = refl
  same-line sent call.Dup apart = refl
  same-line sent call.Dup2 apart = refl
  same-line sent call.Pipe apart = refl
  same-line sent call.Mkdir apart = refl
  same-line sent call.Rmdir apart = refl
  same-line sent call.Unlink apart = refl
  same-line sent call.Link apart = refl
  same-line sent call.Rename apart = refl
  same-line sent call.Fstat apart = refl
  same-line sent call.Getdents apart = refl
  same-line sent call.Ftruncate apart = refl
  same-line sent call.Kill apart = refl

  settles-line : (May : Type 0) (line : Line) → IsQuietLine May line → (state : Unix) (answer : Turned) → Settles unix slot process line state answer → settled unix slot process input line ≡ quiet_turn state answer input
  settles-line May (Err errno) quiet state answer made = let s : state ≡ (settled unix slot process [] (Err errno)).state = made.state_is in let a : answer ≡ Worked = made.answer_is in cc
  settles-line May (Ok Waits) quiet state answer made = let s : state ≡ unix = made.state_is in let a : answer ≡ Blocked = made.answer_is in cc
  settles-line May (Ok (Goes after)) quiet state answer made = let s : state ≡ after = made.state_is in let a : answer ≡ Worked = made.answer_is in cc
  settles-line May (Ok (Takes after taken left)) quiet state answer made = absurd quiet
  settles-line May (Ok (Puts after put)) quiet state answer made = absurd quiet

  -- the turn of a call that neither reads nor writes
  pub settles-quietly : (sent : SentCall) → family_of sent.call ≢ Streams → (state : Unix) (answer : Turned) → Settles unix slot process (call_line unix slot process [] sent sent.call) state answer
      → settled unix slot process input (call_line unix slot process input sent sent.call) ≡ quiet_turn state answer input
  settles-quietly sent apart state answer made =
      settles-line (MayWait sent.call) (call_line unix slot process input sent sent.call) (quiet-line sent sent.call apart) state answer
      (subst (λ line. Settles unix slot process line state answer) (sym (same-line sent sent.call apart)) made)

  -- a call of the keeper is refused where it comes to a server
  pub keeper-line : (sent : SentCall) (wanted : Call) → family_of wanted ≡ Keeper → call_line unix slot process input sent wanted ≡ Err Enosys
  keeper-line sent call.Exit kept = cc
  keeper-line sent call.Fork kept = cc
  keeper-line sent call.Exec kept = cc
  keeper-line sent call.Wait kept = cc
  keeper-line sent call.Waitpid kept = cc
  keeper-line sent call.Getpid kept = refl
  keeper-line sent call.Getppid kept = refl
  keeper-line sent call.Brk kept = refl
  keeper-line sent call.Open kept = cc
  keeper-line sent call.Close kept = cc
  keeper-line sent call.Read kept = cc
  keeper-line sent call.Write kept = cc
  keeper-line sent call.Lseek kept = cc
  keeper-line sent call.Dup kept = cc
  keeper-line sent call.Dup2 kept = cc
  keeper-line sent call.Pipe kept = cc
  keeper-line sent call.Mkdir kept = cc
  keeper-line sent call.Rmdir kept = cc
  keeper-line sent call.Unlink kept = cc
  keeper-line sent call.Link kept = cc
  keeper-line sent call.Rename kept = cc
  keeper-line sent call.Fstat kept = cc
  keeper-line sent call.Getdents kept = cc
  keeper-line sent call.Ftruncate kept = cc
  keeper-line sent call.Kill kept = cc

  -- a call never waits, but for read and write, wait and waitpid
  pub goes-through : (line : Line) → IsQuietLine ⊥ line → is_waiting line ≡ false
  goes-through (Err errno) quiet = refl
  goes-through (Ok Waits) quiet = absurd quiet
  goes-through (Ok (Goes after)) quiet = refl
  goes-through (Ok (Takes after taken left)) quiet = absurd quiet
  goes-through (Ok (Puts after put)) quiet = absurd quiet

  pub never-waits : (sent : SentCall) (wanted : Call) → wanted ≢ call.Wait → wanted ≢ call.Waitpid → wanted ≢ call.Read → wanted ≢ call.Write → is_waiting (call_line unix slot process input sent wanted) ≡ false
  never-waits sent call.Exit wait waitpid read write = goes-through (call_line unix slot process input sent call.Exit) (quiet-line sent call.Exit (λ e. cc))
  never-waits sent call.Fork wait waitpid read write = goes-through (call_line unix slot process input sent call.Fork) (quiet-line sent call.Fork (λ e. cc))
  never-waits sent call.Exec wait waitpid read write = goes-through (call_line unix slot process input sent call.Exec) (quiet-line sent call.Exec (λ e. cc))
  never-waits sent call.Wait wait waitpid read write = absurd (wait refl)
  never-waits sent call.Waitpid wait waitpid read write = absurd (waitpid refl)
  never-waits sent call.Getpid wait waitpid read write = goes-through (call_line unix slot process input sent call.Getpid) (quiet-line sent call.Getpid (λ e. cc))
  never-waits sent call.Getppid wait waitpid read write = goes-through (call_line unix slot process input sent call.Getppid) (quiet-line sent call.Getppid (λ e. cc))
  never-waits sent call.Brk wait waitpid read write = goes-through (call_line unix slot process input sent call.Brk) (quiet-line sent call.Brk (λ e. cc))
  never-waits sent call.Open wait waitpid read write = goes-through (call_line unix slot process input sent call.Open) (quiet-line sent call.Open (λ e. cc))
  never-waits sent call.Close wait waitpid read write = goes-through (call_line unix slot process input sent call.Close) (quiet-line sent call.Close (λ e. cc))
  never-waits sent call.Read wait waitpid read write = absurd (read refl)
  never-waits sent call.Write wait waitpid read write = absurd (write refl)
  never-waits sent call.Lseek wait waitpid read write = goes-through (call_line unix slot process input sent call.Lseek) (quiet-line sent call.Lseek (λ e. cc))
  never-waits sent call.Dup wait waitpid read write = goes-through (call_line unix slot process input sent call.Dup) (quiet-line sent call.Dup (λ e. cc))
  never-waits sent call.Dup2 wait waitpid read write = goes-through (call_line unix slot process input sent call.Dup2) (quiet-line sent call.Dup2 (λ e. cc))
  never-waits sent call.Pipe wait waitpid read write = goes-through (call_line unix slot process input sent call.Pipe) (quiet-line sent call.Pipe (λ e. cc))
  never-waits sent call.Mkdir wait waitpid read write = goes-through (call_line unix slot process input sent call.Mkdir) (quiet-line sent call.Mkdir (λ e. cc))
  never-waits sent call.Rmdir wait waitpid read write = goes-through (call_line unix slot process input sent call.Rmdir) (quiet-line sent call.Rmdir (λ e. cc))
  never-waits sent call.Unlink wait waitpid read write = goes-through (call_line unix slot process input sent call.Unlink) (quiet-line sent call.Unlink (λ e. cc))
  never-waits sent call.Link wait waitpid read write = goes-through (call_line unix slot process input sent call.Link) (quiet-line sent call.Link (λ e. cc))
  never-waits sent call.Rename wait waitpid read write = goes-through (call_line unix slot process input sent call.Rename) (quiet-line sent call.Rename (λ e. cc))
  never-waits sent call.Fstat wait waitpid read write = goes-through (call_line unix slot process input sent call.Fstat) (quiet-line sent call.Fstat (λ e. cc))
  never-waits sent call.Getdents wait waitpid read write = goes-through (call_line unix slot process input sent call.Getdents) (quiet-line sent call.Getdents (λ e. cc))
  never-waits sent call.Ftruncate wait waitpid read write = goes-through (call_line unix slot process input sent call.Ftruncate) (quiet-line sent call.Ftruncate (λ e. cc))
  never-waits sent call.Kill wait waitpid read write = goes-through (call_line unix slot process input sent call.Kill) (quiet-line sent call.Kill (λ e. cc))
