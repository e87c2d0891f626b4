-- A machine with processes in its first slots, whose calls wait for servers.
use Rattle.std.specs.Prelude.{◌≡◌, ◌<◌, ◌≤◌, ℕ, ◌*◌, []}
use Rattle.kn_base.specs.declared.key.Key.TheVariants.{Null}
use Rattle.kernel_tables.specs.Kernel.{Kernel}
use Rattle.kernel_tables.specs.Rows.{domain_rows}
use Rattle.space_bank.specs.Shares.{Shares, nothing_outside}
use Rattle.domain.specs.Domains.{domains, roots}
use Rattle.domain.specs.Life.{slot_key}
use Rattle.domain.specs.Rules.{RowsGood}
use Rattle.domain.specs.Slots.{AreInSlots}
use Rattle.invoke.specs.Invokes.{root_in_slot}
use Rattle.invoke.specs.Parking.{IsSent}

-- So many slots are used, and all others are free. Each process has four nodes, one of which is its space.
pub record IsPeopled (kernel : Kernel) (count : ℕ) : Type 0 where
  pub rows : RowsGood (domain_rows kernel)
  pub in_slots : AreInSlots (roots kernel) (domains kernel)
  pub sent : (slot : ℕ) → slot < count → IsSent kernel slot (root_in_slot kernel slot)
  pub free : (slot : ℕ) → count ≤ slot → slot < 64 → slot_key kernel slot ≡ Null
  pub taken : kernel.machine.nodes_taken ≡ 4 * count
  pub nodes : kernel.nodes ≡ 1552
  pub shares : Shares kernel nothing_outside []
