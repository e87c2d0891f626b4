-- A machine in which a first domain can be made.
use Rattle.std.specs.Prelude.{◌≡◌, ℕ, ◌+◌, ◌*◌, ◌<◌, ◌≤◌, true, Some, List, [], ◌∷◌, length}
use Rattle.kn_base.specs.declared.key.Key.{Key}
use Rattle.kn_base.specs.declared.key.Key.TheVariants.{Null}
use Rattle.kernel_tables.specs.Kernel.{Kernel, Sized}
use Rattle.kernel_tables.specs.Rows.{domain_rows, fixed_rows}
use Rattle.space_bank.specs.Shares.{Shares, nothing_outside}
use Rattle.domain.specs.Keys.{key_of_space}
use Rattle.unix_model.specs.Tables.{at}
use Rattle.domain.specs.Domains.{domains, roots}
use Rattle.domain.specs.Life.{born}
use Rattle.domain.specs.Ends.{IsNodeOnce, MayDrop}
use Rattle.domain.specs.Buffers.{IsBuffer}
use Rattle.domain.specs.Rules.{RowsGood}

-- Slot 5 is free, there are nodes enough, and the one key of a space is in hand.
pub record IsReady (kernel : Kernel) (space : ℕ) : Type 0 where
  pub rows : RowsGood (domain_rows kernel)
  pub free : fixed_rows kernel 11 5 ≡ Null
  pub room : kernel.machine.nodes_taken + 18 ≤ kernel.nodes
  pub pages : kernel.machine.pages_taken < kernel.size
  pub shares : Shares kernel nothing_outside (key_of_space (Some space) ∷ [])

-- The first domain is just born in slot 5. Its three nodes are named once each, and nothing else is counted.
pub record IsFirst (kernel : Kernel) (root : ℕ) : Type 0 where
  pub space : ℕ
  pub regs : ℕ
  pub descriptors : ℕ
  pub domain : at (domains kernel) root ≡ born 5 space regs descriptors
  pub named : at (roots kernel) 5 ≡ Some root
  pub root_once : IsNodeOnce kernel root
  pub regs_once : IsNodeOnce kernel regs
  pub descriptors_once : IsNodeOnce kernel descriptors
  pub pages : kernel.machine.pages_taken < kernel.size
  pub shares : Shares kernel nothing_outside []

-- The domain of slot 5 is a zombie that may be dropped.
pub record IsDead (kernel : Kernel) (root : ℕ) : Type 0 where
  pub named : at (roots kernel) 5 ≡ Some root
  pub drops : MayDrop kernel root
  pub hand : List Key
  pub shares : Shares kernel nothing_outside hand

-- The first domain holds a buffer.
pub record IsBuffered (kernel : Kernel) (root : ℕ) : Type 0 where
  pub page : ℕ
  pub live : (at (domains kernel) root).live ≡ true
  pub whole : (at (domains kernel) root).whole ≡ true
  pub held : (at (domains kernel) root).buffer ≡ Some page
  pub is : IsBuffer kernel page
  pub shares : Shares kernel nothing_outside []

-- the keys of nodes may be read, whatever they say
pub record IsReadable (kernel : Kernel) : Type 0 where
  pub sized : Sized kernel
  pub all_keys : length kernel.keys ≡ 16 * kernel.nodes
