-- Turns of a process that was taken out of its slot.
use Rattle.std.proofs.Common.{◌≡◌, ℕ, Option, Some, None, List, sym, ap, ◌∙◌}
use Rattle.unix_model.specs.Calls.{Calls}
use Rattle.unix_model.specs.TurnRecord.{Turn, free_turn}
use Rattle.unix_model.specs.Process.{Process}
use Rattle.unix_model.specs.State.{Unix, with_process, without_process}
use Rattle.unix_model.specs.Tables.{at}
use Rattle.unix_model.specs.Turn.{turned, turned_at, turned_in, ticked}
use Rattle.unix_model.proofs.TableLaws.{with_at-twice, with_at-same}

-- a turn, and the position goes on
abbrev pub ticked_turn : Turn → Turn
ticked_turn turn = record turn { state = ticked turn.state }

-- a process that was taken out is put back
pub put-back : (unix : Unix) (slot : ℕ) (process : Process) → at unix.processes slot ≡ Some process → with_process (without_process unix slot) slot process ≡ unix
put-back unix slot process there =
    ap (λ (processes : ℕ → Option Process). record unix { processes = processes })
    (with_at-twice unix.processes slot None (Some process) ∙ with_at-same unix.processes slot (Some process) there)

-- of two processes in one slot the last counts
pub with_process-twice : (unix : Unix) (slot : ℕ) (first last : Process) → with_process (with_process unix slot first) slot last ≡ with_process unix slot last
with_process-twice unix slot first last =
    ap (λ (processes : ℕ → Option Process). record unix { processes = processes }) (with_at-twice unix.processes slot (Some first) (Some last))

-- a turn of a slot that holds a process
pub turned-process : (calls : Calls) (unix : Unix) (slot : ℕ) (process : Process) (bytes : List ℕ) → at unix.processes slot ≡ Some process
    → turned calls unix slot bytes ≡ ticked_turn (turned_in calls (with_process (without_process unix slot) slot process) slot process bytes process.phase)
unfolding turned
turned-process calls unix slot process bytes there =
    ap (λ held. ticked_turn (turned_at calls unix slot bytes held)) there
    ∙ ap (λ state. ticked_turn (turned_in calls state slot process bytes process.phase)) (sym (put-back unix slot process there))

-- a turn of a free slot
pub turned-free : (calls : Calls) (unix : Unix) (slot : ℕ) (bytes : List ℕ) → at unix.processes slot ≡ None
    → turned calls unix slot bytes ≡ ticked_turn (free_turn (without_process unix slot) bytes)
unfolding turned
turned-free calls unix slot bytes free =
    ap (λ held. ticked_turn (turned_at calls unix slot bytes held)) free
    ∙ ap (λ (processes : ℕ → Option Process). ticked_turn (free_turn (record unix { processes = processes }) bytes)) (sym (with_at-same unix.processes slot None free))
