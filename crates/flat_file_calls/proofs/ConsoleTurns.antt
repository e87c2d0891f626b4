-- The turns of reads and writes: by the console, and by anything else, which takes nothing from the input and puts nothing.
use Rattle.std.proofs.Common.{◌≡◌, ℕ, ◌+◌, ◌<◌, ◌-◌, Bool, true, false, Option, Some, None, Ok, Err, List, [], ◌∷◌, ◌++◌, take, length, refl, ap, sym, subst, ◌∙◌}
use Rattle.std.specs.Prelude.{◌≢◌, ◌==◌, if◌then◌else◌, Result, IfOk, nat_le, nat_lt}
use Rattle.unix_model.specs.declared.calls.Errno.{Errno}
use Rattle.unix_model.specs.declared.calls.Errno.TheVariants.{Efbig, Enospc, Epipe}
use Rattle.unix_model.specs.declared.calls.Turned.{Turned}
use Rattle.unix_model.specs.declared.calls.Turned.TheVariants.{Worked}
use Rattle.unix_model.specs.Effect.{Line, Waits, Goes, Takes, Puts, replies, settled}
use Rattle.unix_model.specs.FileCalls.{line_left, line_taken, writes_to, write_line, with_contents, with_written, write_place}
use Rattle.unix_model.specs.Files.{Inode, File, Directory, Pipe, Console, has_reader}
use Rattle.unix_model.specs.Limits.{most_file_bytes, pipe_bytes}
use Rattle.unix_model.specs.Process.{Process, Phase, answered, answered_with}
use Rattle.unix_model.specs.Refusals.{◌>>◌, refuse◌when◌, refuse◌where_not◌}
use Rattle.unix_model.specs.Room.{has_room}
use Rattle.unix_model.specs.State.{Unix, Opened, opened, opened_inode, with_files, with_phase, with_process}
use Rattle.unix_model.specs.TurnRecord.{Turn, worked_turn}
use Rattle.unix_model.proofs.TableLaws.{with_at-twice}
use Rattle.flat_state.specs.Settles.{Settles}
use Rattle.flat_file_calls.specs.declared.console.fault.ConsoleFault.{ConsoleFault}
use Rattle.flat_file_calls.specs.Console.{Reads, Writes, read_turn, write_turn}
use Rattle.console_domain.proofs.LineLaws.{taken-next}

-- a process is put back in another phase
pub phase-over : (unix : Unix) (slot : ℕ) (process : Process) (phase : Phase) → with_phase unix slot process phase ≡ with_phase (with_process unix slot process) slot process phase
phase-over unix slot process phase = ap (λ (table : ℕ → Option Process). record unix { processes = table }) (sym (with_at-twice unix.processes slot (Some process) (Some (record process { phase = phase }))))

-- ---- reads

module _ {S : Type 0} (left : S → Option (List ℕ)) (source : S) (state : Unix) (answer : Turned) where
  pub reads-as : (turn end : Turn) → turn ≡ end → state ≡ end.state → answer ≡ end.answer → left source ≡ Some end.left → end.put ≡ [] → Reads turn left state answer source
  reads-as turn end is state_is answer_is source_left nothing_put =
      subst (λ (turn : Turn). Reads turn left state answer source) (sym is) (record { state_is = state_is; answer_is = answer_is; source_left = source_left; nothing_put = nothing_put })

module _ (unix : Unix) (slot number address count : ℕ) (process : Process) (file : Opened) (there : opened unix process number ≡ Some file) (bytes : List ℕ) where
  pub read-nothing : (count == 0) ≡ true → read_turn unix slot process number address count bytes ≡ worked_turn (with_phase unix slot process (answered 0)) bytes
  read-nothing none = rw (there, none) refl

  pub read-line : (count == 0) ≡ false → opened_inode unix file ≡ Some Console
      → read_turn unix slot process number address count bytes
      ≡ record { state = with_phase unix slot process (answered_with (length (line_taken count bytes)) address (line_taken count bytes)); answer = Worked; taken = line_taken count bytes; left = line_left count bytes; put = [] }
  read-line some console = rw (there, some, console) refl

-- a console's answer
pub console-reads : {S : Type 0} (left : S → Option (List ℕ)) (old new : S) (turn : List ℕ → Turn) (line over : List ℕ → Unix) (is_over : (bytes : List ℕ) → over bytes ≡ line bytes) (count : ℕ) (state : Unix) (result : Result Turned ConsoleFault)
    → ((bytes : List ℕ) → turn bytes ≡ record { state = line bytes; answer = Worked; taken = line_taken count bytes; left = line_left count bytes; put = [] })
    → IfOk result (λ answer. (bytes : List ℕ) → left old ≡ Some bytes → state ≡ over bytes)
    → IfOk result (λ answer. answer ≡ Worked)
    → IfOk result (λ answer. (bytes : List ℕ) → left old ≡ Some bytes → left new ≡ Some (line_left count bytes))
    → IfOk result (λ answer. (bytes : List ℕ) → left old ≡ Some bytes → Reads (turn bytes) left state answer new)
console-reads left old new turn line over is_over count state (Ok answer) is state_is answer_is left_is = λ bytes told.
    reads-as left new state answer (turn bytes) (record { state = line bytes; answer = Worked; taken = line_taken count bytes; left = line_left count bytes; put = [] }) (is bytes) (state_is bytes told ∙ is_over bytes) answer_is (left_is bytes told) refl
console-reads left old new turn line over is_over count state (Err fault) is state_is answer_is left_is = tt

-- a line of at least one byte takes one
pub line-some : {P : Type 0} (count : ℕ) → 0 < count → line_taken count (0 ∷ []) ≡ [] → P
line-some count some none =
    let byte : 0 ∷ (if 0 == 10 then [] else line_taken (count - 1) []) ≡ [] = sym (taken-next count 0 [] some) ∙ none in
    cc

-- ---- writes

module _ (unix : Unix) (slot number : ℕ) (process : Process) (file : Opened) (there : opened unix process number ≡ Some file) (written : List ℕ) where
  pub write-nothing : (length written == 0) ≡ true → (bytes : List ℕ) → write_turn unix slot process number written bytes ≡ worked_turn (with_phase unix slot process (answered 0)) bytes
  write-nothing none bytes = rw (there, none) refl

  pub write-puts : (length written == 0) ≡ false → opened_inode unix file ≡ Some Console → (bytes : List ℕ)
      → write_turn unix slot process number written bytes
      ≡ record { state = with_phase unix slot process (answered (length written)); answer = Worked; taken = []; left = bytes; put = written }
  write-puts some console bytes = rw (there, some, console) refl

  pub write-stored : (length written == 0) ≡ false → write_line unix slot process number written ≡ writes_to unix slot process file written (opened_inode unix file)
  write-stored some = rw (there, some) refl

module _ {K : Type 0} (grew : K → List ℕ → K → Type 0) (old new : K) (state : Unix) (answer : Turned) where
  -- what is put, and the state, are the same for every input
  pub writes-as : (turn : List ℕ → Turn) (after : Unix) (put : List ℕ) → ((bytes : List ℕ) → turn bytes ≡ record { state = after; answer = Worked; taken = []; left = bytes; put = put })
      → state ≡ after → answer ≡ Worked → grew old put new → Writes turn grew state answer old new
  writes-as turn after put is state_is answer_is grown = record {
    state_is = λ bytes. state_is ∙ sym (ap (λ (turn : Turn). turn.state) (is bytes));
    answer_is = λ bytes. answer_is ∙ sym (ap (λ (turn : Turn). turn.answer) (is bytes));
    nothing_taken = λ bytes. ap (λ (turn : Turn). turn.taken) (is bytes);
    left_is = λ bytes. ap (λ (turn : Turn). turn.left) (is bytes);
    sink_grew = λ bytes. subst (λ (turn : Turn). grew old turn.put new) (sym (is bytes)) grown;
  }

pub console-writes : {K : Type 0} (grew : K → List ℕ → K → Type 0) (old new : K) (turn : List ℕ → Turn) (after over state : Unix) (is_over : over ≡ after) (put : List ℕ) (result : Result Turned ConsoleFault)
    → ((bytes : List ℕ) → turn bytes ≡ record { state = after; answer = Worked; taken = []; left = bytes; put = put })
    → IfOk result (λ answer. state ≡ over) → IfOk result (λ answer. answer ≡ Worked) → IfOk result (λ answer. grew old put new)
    → IfOk result (λ answer. Writes turn grew state answer old new)
console-writes grew old new turn after over state is_over put (Ok answer) is state_is answer_is grown = writes-as grew old new state answer turn after put is (state_is ∙ is_over) answer_is grown
console-writes grew old new turn after over state is_over put (Err fault) is state_is answer_is grown = tt

-- ---- lines that take nothing from the input and put nothing

abbrev pub IsSilent : Line → Type 0
IsSilent (Err errno) = Unit {0}
IsSilent (Ok Waits) = Unit {0}
IsSilent (Ok (Goes state)) = Unit {0}
IsSilent (Ok (Takes state taken left)) = ⊥
IsSilent (Ok (Puts state put)) = ⊥

silent-if : (test : Bool) (first second : Line) → IsSilent first → IsSilent second → IsSilent (if test then first else second)
silent-if true first second one other = one
silent-if false first second one other = other

silent-after : (step : Result (Unit {0}) Errno) (rest : Line) → IsSilent rest → IsSilent (step >> rest)
silent-after (Ok tt) rest silent = silent
silent-after (Err errno) rest silent = tt

-- a write on anything but the console
pub stored-silent : (unix : Unix) (slot : ℕ) (process : Process) (file : Opened) (written : List ℕ) (found : Option Inode) → found ≢ Some Console → IsSilent (writes_to unix slot process file written found)
stored-silent unix slot process file written (Some (File bytes)) other =
    let place : ℕ = write_place file.description bytes in
    let part : List ℕ = take (most_file_bytes - place) written in
    let after : Unix = with_written unix file bytes place part in
    silent-after (refuse Efbig when nat_le most_file_bytes place) ((refuse Enospc where_not has_room after) >> replies after slot process (length part))
    (silent-after (refuse Enospc where_not has_room after) (replies after slot process (length part)) (tt {0}))
stored-silent unix slot process file written (Some (Pipe bytes)) other =
    let after : Unix = with_files unix (with_contents unix.files file (Pipe (bytes ++ written))) in
    let test : Bool = nat_lt pipe_bytes (length bytes + length written) in
    silent-after (refuse Epipe where_not has_reader unix.files file.description.inode) (if test then Ok Waits else replies after slot process (length written))
    (silent-if test (Ok Waits) (replies after slot process (length written)) (tt {0}) (tt {0}))
stored-silent unix slot process file written (Some (Directory parent places)) other = tt
stored-silent unix slot process file written (Some Console) other = absurd (other refl)
stored-silent unix slot process file written None other = tt

pub silent-writes : {K : Type 0} (grew : K → List ℕ → K → Type 0) (old : K) (unix : Unix) (slot : ℕ) (process : Process) (line : Line) (state : Unix) (answer : Turned)
    → IsSilent line → Settles unix slot process line state answer → grew old [] old → Writes (λ bytes. settled unix slot process bytes line) grew state answer old old
silent-writes grew old unix slot process (Err errno) state answer silent settles grown =
    record { state_is = λ bytes. settles.state_is; answer_is = λ bytes. settles.answer_is; nothing_taken = λ bytes. refl; left_is = λ bytes. refl; sink_grew = λ bytes. grown }
silent-writes grew old unix slot process (Ok Waits) state answer silent settles grown =
    record { state_is = λ bytes. settles.state_is; answer_is = λ bytes. settles.answer_is; nothing_taken = λ bytes. refl; left_is = λ bytes. refl; sink_grew = λ bytes. grown }
silent-writes grew old unix slot process (Ok (Goes after)) state answer silent settles grown =
    record { state_is = λ bytes. settles.state_is; answer_is = λ bytes. settles.answer_is; nothing_taken = λ bytes. refl; left_is = λ bytes. refl; sink_grew = λ bytes. grown }
silent-writes grew old unix slot process (Ok (Takes after taken left)) state answer silent settles grown = absurd silent
silent-writes grew old unix slot process (Ok (Puts after put)) state answer silent settles grown = absurd silent
