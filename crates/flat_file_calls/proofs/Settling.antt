-- From where a line ends to what its call leaves.
use Rattle.std.proofs.Common.{◌≡◌, ℕ, ◌+◌, length, List, Option, Some, Ok, ap, sym, subst, ◌∙◌}
use Rattle.unix_model.specs.declared.calls.Turned.{Turned}
use Rattle.unix_model.specs.declared.calls.Turned.TheVariants.{Worked}
use Rattle.unix_model.specs.Effect.{Line, Goes}
use Rattle.unix_model.specs.FileCalls.{overwritten, with_contents, with_offset, with_written}
use Rattle.unix_model.specs.Files.{Files, File}
use Rattle.unix_model.specs.Process.{Process, answered, in_phase}
use Rattle.unix_model.specs.State.{Unix, Opened, with_files, with_phase, with_process}
use Rattle.unix_model.proofs.TableLaws.{with_at-twice}
use Rattle.flat_state.specs.Settles.{Settles}

module _ (unix : Unix) (slot : ℕ) (process : Process) (after : Unix) (answer : Turned) where
  -- the line ends so
  pub settles-by : (line end : Line) → line ≡ end → Settles unix slot process end after answer → Settles unix slot process line after answer
  settles-by line end is settles = subst (λ (line : Line). Settles unix slot process line after answer) (sym is) settles

  -- the line goes through, to this state
  pub settles-to : (line : Line) (state : Unix) → line ≡ Ok (Goes state) → after ≡ state → answer ≡ Worked → Settles unix slot process line after answer
  settles-to line state is after_is answer_is = settles-by line (Ok (Goes state)) is (record { state_is = after_is; answer_is = answer_is })

-- the files were changed while the process was out of its slot
pub files-changed : (old after : Unix) (files : Files) (slot : ℕ) (process next : Process) → after ≡ with_files old files
    → with_process after slot next ≡ with_process (with_files (with_process old slot process) files) slot next
files-changed old after files slot process next is =
    let Table : Type 0 = ℕ → Option Process in
    ap (λ (unix : Unix). with_process unix slot next) is
    ∙ ap (λ (table : Table). record old { processes = table; files = files }) (sym (with_at-twice old.processes slot (Some process) (Some next)))

-- a file and an offset were
pub written-out : (old state after : Unix) (slot : ℕ) (process : Process) (file : Opened) (held part : List ℕ) (place end value : ℕ) (files : Files)
    → files ≡ with_contents old.files file (File (overwritten held place part)) → state ≡ with_files old (with_offset files file end)
    → end ≡ place + length part → value ≡ length part → after ≡ with_phase state slot process (answered value)
    → after ≡ with_phase (with_written (with_process old slot process) file held place part) slot process (answered (length part))
written-out old state after slot process file held part place end value files files_are state_is end_is value_is after_is =
    let changed : with_offset files file end ≡ with_offset (with_contents old.files file (File (overwritten held place part))) file (place + length part) =
    ap (λ (files : Files). with_offset files file end) files_are ∙ ap (with_offset (with_contents old.files file (File (overwritten held place part))) file) end_is in
    after_is
    ∙ (ap (λ (value : ℕ). with_phase state slot process (answered value)) value_is
    ∙ files-changed old state (with_offset (with_contents old.files file (File (overwritten held place part))) file (place + length part)) slot process (in_phase process (answered (length part))) (state_is ∙ ap (with_files old) changed))
