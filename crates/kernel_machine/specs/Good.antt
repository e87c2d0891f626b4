-- What holds of the kernel's tables between turns. Each part speaks of the fields that it reads, so that a change of others
-- leaves it as it is. All rules that speak of processes and files alone are those of the flat state (`IsUnix`).
use Rattle.std.specs.Prelude.{◌≡◌, ◌≢◌, ℕ, ◌+◌, Option, Some, None, List, [], slice_index_or}
use Rattle.kernel_tables.specs.Kernel.{Kernel}
use Rattle.kernel_tables.specs.Rows.{domain_rows}
use Rattle.space_bank.specs.Bank.{BankGood}
use Rattle.space_bank.specs.Fixed.{FixedNodes, UnusedGood}
use Rattle.forest.specs.Forest.{NoneEmpty, NoPageOutside}
use Rattle.kernel_forest.specs.Trees.{forest_of, outside_trees, TreesGood}
use Rattle.file_tables.specs.Roots.{named_by}
use Rattle.file_tables.specs.Rows.{InodesGood, DescriptionsGood}
use Rattle.domain.specs.Rules.{RowsGood}
use Rattle.unix_model.specs.declared.calls.Call.{Call}
use Rattle.unix_model.specs.declared.calls.Call.TheVariants.{Read, Write}
use Rattle.unix_model.specs.declared.calls.Turned.TheVariants.{Blocked}
use Rattle.unix_model.specs.Calls.{Calls}
use Rattle.unix_model.specs.Process.{Process, SentCall, Sent}
use Rattle.unix_model.specs.Room.{promised}
use Rattle.unix_model.specs.Rules.{IsUnix}
use Rattle.unix_model.specs.State.{Unix, Opened, opened}
use Rattle.unix_model.specs.Tables.{at}
use Rattle.unix_model.specs.Turn.{turned}
use Rattle.kernel_machine.specs.Machine.{KernelMachine, machine_of}
use Rattle.kernel_machine.specs.View.{view, processes_in, inodes_in, descriptions_in}
use Rattle.kernel_machine.specs.Processes.{SlotsGood, HoldingsGood}
use Rattle.kernel_machine.specs.Trees.{RootsGood, KeepersGood}
use Rattle.kernel_machine.specs.Counts.{InodesCounted, DescriptionsCounted}
use Rattle.kernel_machine.specs.Held.{AllHeld, AllWhole, NodesHeld}

-- ---- who is parked

-- the inode of a description, and 1
abbrev pub inode_word : Option Opened → ℕ
inode_word None = 0
inode_word (Some file) = file.description.inode + 1

-- what a call that waits waits for: the inode of its pipe and 1, or 0 where it waits for a child
abbrev pub waits_for : Unix → Process → SentCall → Call → ℕ
waits_for unix process sent Read = inode_word (opened unix process (slice_index_or sent.arguments 0 0))
waits_for unix process sent Write = inode_word (opened unix process (slice_index_or sent.arguments 0 0))
waits_for unix process sent _ = 0

-- A process that is parked waits: its turn is Blocked, and its marks say on what. Of one that isn't no mark is set.
pub record MarksFit (calls : Calls) (unix : Unix) (slot : ℕ) (marks : List ℕ) : Type 0 where
  pub few : slice_index_or marks 0 0 ≢ 0 → slice_index_or marks 0 0 ≡ 1
  pub blocked : slice_index_or marks 0 0 ≡ 1 → (input : List ℕ) → (turned calls unix slot input).answer ≡ Blocked
  pub on : (process : Process) (sent : SentCall) → slice_index_or marks 0 0 ≡ 1 → at unix.processes slot ≡ Some process → process.phase ≡ Sent sent
      → slice_index_or marks 1 0 ≡ waits_for unix process sent sent.call
  pub unset : slice_index_or marks 0 0 ≡ 0 → slice_index_or marks 1 0 ≡ 0
  pub unused : slice_index_or marks 2 0 ≡ 0

unfoldable pub ParkedGood : Calls → KernelMachine → Type 0
ParkedGood calls machine = (slot root : ℕ) → at machine.roots slot ≡ Some root → MarksFit calls (view machine) slot (at machine.domains root).marks

-- ---- all

pub record MachineGood (calls : Calls) (machine : KernelMachine) : Type 0 where
  pub slots : SlotsGood machine.roots machine.room machine.lives machine.domains
  pub holdings : HoldingsGood machine.domains machine.forest machine.page_owner
  pub roots : RootsGood machine.forest machine.page_bytes machine.page_owner machine.inodes
  pub keepers : KeepersGood machine.forest
  pub held : AllHeld machine.domains machine.forest machine.page_owner machine.inodes
  pub inodes_counted : InodesCounted machine.inodes (inodes_in machine) (descriptions_in machine)
  pub descriptions_counted : DescriptionsCounted machine.descriptions (processes_in machine)
  pub promises : machine.words.promised ≡ promised (view machine)
  pub unix : IsUnix calls (view machine)
  pub parked : ParkedGood calls machine

pub record Good (calls : Calls) (kernel : Kernel) : Type 0 where
  pub bank : BankGood kernel
  pub whole : AllWhole kernel.bank
  pub unused : UnusedGood kernel.page_zero kernel.other_words
  pub fixed : FixedNodes kernel.keys
  pub trees : TreesGood kernel (named_by kernel.inodes) []
  pub pages_inside : NoPageOutside (forest_of kernel) (outside_trees kernel (named_by kernel.inodes))
  pub filled : NoneEmpty (forest_of kernel).keys
  pub rows : RowsGood (domain_rows kernel)
  pub nodes_held : NodesHeld (domain_rows kernel) kernel.node_entries
  pub inodes : InodesGood kernel.inodes
  pub descriptions : DescriptionsGood kernel.descriptions
  pub machine : MachineGood calls (machine_of kernel)
