-- The machine before anything is loaded: the flat state, and the tables on the way to it.
use Rattle.std.specs.Prelude.{◌≡◌, ℕ, None, [], replicate}
use Rattle.kernel_tables.specs.Kernel.{Kernel}
use Rattle.space_bank.specs.Bank.{BankGood}
use Rattle.space_bank.specs.Fixed.{FixedNodes, FreshFiles, FreshNodes, UnusedGood}
use Rattle.space_bank.specs.Setup.{empty_bank}
use Rattle.space_bank.specs.Shares.{Shares, nothing_outside}
use Rattle.unix_model.specs.Boot.{empty_machine}
use Rattle.unix_model.specs.Calls.{Calls}
use Rattle.unix_model.specs.Limits.{descriptor_count}
use Rattle.unix_model.specs.Process.{Process, Run, zero_registers}
use Rattle.unix_model.specs.State.{Unix, with_process}
use Rattle.unix_model.specs.Tables.{nothing}
use Rattle.kernel_machine.specs.Good.{Good}
use Rattle.kernel_machine.specs.Machine.{machine_of}
use Rattle.kernel_machine.specs.View.{view as view_of}

-- process 1 before a program is loaded: it runs, with zeros in its registers, an empty memory and no descriptor
abbrev pub blank_process : Process
blank_process =
    record {
      pid = 1;
      parent = 0;
      registers = zero_registers;
      memory = nothing;
      break_start = 0;
      break_end = 0;
      descriptors = replicate descriptor_count None;
      phase = Run;
    }

-- the machine with this process in slot 0, the console and the empty root, and 2 as the next process id
abbrev pub blank_machine : (pages quantum : ℕ) → Unix
blank_machine pages quantum = with_process (record (empty_machine pages quantum) { next_pid = 2 }) 0 blank_process

-- the tables of an empty bank of which one page is promised, and 2 is the next process id
unfoldable pub promised_bank : (pages quantum : ℕ) → Kernel
promised_bank pages quantum = record (empty_bank pages quantum) { machine = record (empty_bank pages quantum).machine { promised = 1; next_pid = 2 } }

-- An empty bank of which one page is promised, with what is known of it.
pub record Begins (pages quantum : ℕ) (kernel : Kernel) : Type 0 where
  pub is : kernel ≡ promised_bank pages quantum
  pub good : BankGood kernel
  pub shares : Shares kernel nothing_outside []
  pub unused : UnusedGood kernel.page_zero kernel.other_words
  pub nodes : FreshNodes kernel.keys
  pub fixed : FixedNodes kernel.keys
  pub files : FreshFiles kernel.inodes kernel.descriptions

-- The tables are those of the machine before anything is loaded: all that holds between turns holds of them, whatever table of
-- calls is served, and this is the flat state for which they stand. One page is promised, and none is taken.
pub record IsFirst (pages quantum : ℕ) (kernel : Kernel) : Type 0 where
  pub good : (calls : Calls) → Good calls kernel
  pub view : view_of (machine_of kernel) ≡ blank_machine pages quantum
  pub promised : kernel.machine.promised ≡ 1
  pub untaken : kernel.machine.pages_taken ≡ 0
