-- The flat state for which the tables stand once the first process is made.
use Rattle.std.proofs.Common.{◌≡◌, ℕ, Option, Some, None, List, [], slice_index_or, refl, ap, ◌∙◌}
use Rattle.std.proofs.Math.Path.{fun_ext}
use Rattle.std.specs.Prelude.{option_map}
use Rattle.kernel_tables.specs.declared.inode.Inode.{Inode as Row}
use Rattle.kernel_tables.specs.declared.description.Description.{Description}
use Rattle.kernel_tables.specs.declared.row.Row.{Row as TableRow}
use Rattle.kernel_tables.specs.declared.row.Row.TheVariants.{Unspelled}
use Rattle.kernel_tables.specs.Kernel.{Kernel, memory_page}
use Rattle.space_bank.specs.Fixed.{console_inode, empty_root}
use Rattle.forest.specs.Forest.{Forest}
use Rattle.forest.specs.Walks.{map_of}
use Rattle.kernel_forest.specs.Trees.{forest_of}
use Rattle.unix_model.specs.Boot.{empty_machine, first_inodes}
use Rattle.unix_model.specs.Files as model
use Rattle.unix_model.specs.Memory.{Memory}
use Rattle.unix_model.specs.Process.{Process}
use Rattle.unix_model.specs.State.{Unix}
use Rattle.unix_model.specs.Tables.{at, with_at, nothing, tabulate}
use Rattle.user_copy.specs.SpaceMemory.{memory_by}
use Rattle.domain.specs.Domains.{Domain, domains}
use Rattle.kernel_machine.specs.Contents.{places_in}
use Rattle.kernel_machine.specs.Machine.{machine_of, inodes_of, descriptions_of, held}
use Rattle.kernel_machine.specs.View.{view, listed, memory_in, process_in, processes_in, inode_in, inodes_in, description_in, descriptions_in}
use Rattle.kernel_machine.proofs.ViewLaws.{mapped_changed}
use Rattle.first_machine.specs.First.{blank_process, blank_machine}
use Rattle.first_machine.proofs.Made.{Makes, rest-now, forest-now, inodes-now, descriptions-now, roots-now, first, domain-here}
use Rattle.first_machine.proofs.Tables.{trees-good, inodes-are, no-descriptions, next-is, pages-are, quantum-is, position-is}

-- what is made of an empty table
mapped-nothing : {X Y : Type 0} (make : X → Y) → (λ k. option_map make (at nothing k)) ≡ nothing
unfolding at nothing
mapped-nothing make = fun_ext (λ k. refl)

-- a state, by its fields
abbrev state-of : (ℕ → Option Process) → (ℕ → Option model.Inode) → (ℕ → Option model.Description) → (next_pid pages quantum position : ℕ) → Unix
state-of processes inodes descriptions next_pid pages quantum position =
    record { processes = processes; files = record { inodes = inodes; descriptions = descriptions }; next_pid = next_pid; pages = pages; quantum = quantum; position = position }

same-state : {p1 p2 : ℕ → Option Process} {i1 i2 : ℕ → Option model.Inode} {d1 d2 : ℕ → Option model.Description} {n1 n2 s1 s2 q1 q2 t1 t2 : ℕ}
    → p1 ≡ p2 → i1 ≡ i2 → d1 ≡ d2 → n1 ≡ n2 → s1 ≡ s2 → q1 ≡ q2 → t1 ≡ t2 → state-of p1 i1 d1 n1 s1 q1 t1 ≡ state-of p2 i2 d2 n2 s2 q2 t2
same-state p i d n s q t = rw (p, i, d, n, s, q, t) refl

module _ (pages quantum : ℕ) (k0 k1 k2 k3 : Kernel) (space root : ℕ) (m : Makes pages quantum k0 k1 k2 k3 space root) where
  -- files
  pub inodes-there : inodes_of k3 ≡ with_at (with_at nothing 0 (Some console_inode)) 1 (Some empty_root)
  unfolding inodes_of
  inodes-there =
      ap {B = ℕ → Option Row} (λ (rows : List (TableRow Row)) (number : ℕ). held (slice_index_or rows number Unspelled)) (inodes-now pages quantum k0 k1 k2 k3 space root m)
      ∙ inodes-are pages quantum k0 m.begins

  pub no-descriptions-there : descriptions_of k3 ≡ nothing
  unfolding descriptions_of
  no-descriptions-there =
      ap {B = ℕ → Option Description} (λ (rows : List (TableRow Description)) (number : ℕ). held (slice_index_or rows number Unspelled)) (descriptions-now pages quantum k0 k1 k2 k3 space root m)
      ∙ no-descriptions pages quantum k0 m.begins

  console-seen : inode_in (machine_of k3) console_inode ≡ model.Console
  unfolding inode_in
  console-seen = refl

  root-seen : inode_in (machine_of k3) empty_root ≡ model.Directory 1 []
  unfolding inode_in places_in
  root-seen = refl

  pub inodes-seen : inodes_in (machine_of k3) ≡ first_inodes
  unfolding inodes_in machine_of first_inodes
  inodes-seen =
      ap {B = ℕ → Option model.Inode} (λ (table : ℕ → Option Row) (number : ℕ). option_map (inode_in (machine_of k3)) (at table number)) inodes-there
      ∙ mapped_changed (inode_in (machine_of k3)) (with_at nothing 0 (Some console_inode)) 1 (Some empty_root)
      ∙ ap (λ (table : ℕ → Option model.Inode). with_at table 1 (Some (inode_in (machine_of k3) empty_root))) (mapped_changed (inode_in (machine_of k3)) nothing 0 (Some console_inode))
      ∙ rw (console-seen, root-seen, mapped-nothing (inode_in (machine_of k3))) refl

  pub descriptions-seen : descriptions_in (machine_of k3) ≡ nothing
  unfolding descriptions_in machine_of
  descriptions-seen =
      ap {B = ℕ → Option model.Description} (λ (table : ℕ → Option Description) (number : ℕ). option_map description_in (at table number)) no-descriptions-there
      ∙ mapped-nothing description_in

  -- the process
  map-now : map_of (forest_of k3).keys space ≡ (λ page. None)
  map-now =
      ap (λ (forest : Forest). map_of forest.keys space) (forest-now pages quantum k0 k1 k2 k3 space root m)
      ∙ (m.adds.adds _ (trees-good pages quantum k0 m.begins)).1.here

  memory-seen : memory_in (machine_of k3) (Some space) ≡ nothing
  unfolding memory_in memory_by machine_of nothing
  memory-seen = ap (memory_by (memory_page k3)) map-now

  process-seen : process_in (machine_of k3) (first pages quantum k0 k1 k2 k3 space root m) ≡ blank_process
  unfolding process_in listed tabulate at
  process-seen = ap (λ (memory : Memory). record blank_process { memory = memory }) memory-seen

  pub processes-seen : processes_in (machine_of k3) ≡ with_at nothing 0 (Some blank_process)
  unfolding processes_in machine_of
  processes-seen =
      ap {B = ℕ → Option Process} (λ (table : ℕ → Option ℕ) (slot : ℕ). option_map (λ r. process_in (machine_of k3) (at (domains k3) r)) (at table slot)) (roots-now pages quantum k0 k1 k2 k3 space root m)
      ∙ mapped_changed (λ r. process_in (machine_of k3) (at (domains k3) r)) nothing 0 (Some root)
      ∙ ap (λ (table : ℕ → Option Process). with_at table 0 (Some (process_in (machine_of k3) (at (domains k3) root)))) (mapped-nothing (λ r. process_in (machine_of k3) (at (domains k3) r)))
      ∙ ap (λ (domain : Domain). with_at nothing 0 (Some (process_in (machine_of k3) domain))) (domain-here pages quantum k0 k1 k2 k3 space root m)
      ∙ ap (λ (process : Process). with_at nothing 0 (Some process)) process-seen

  pub view-now : view (machine_of k3) ≡ blank_machine pages quantum
  unfolding view machine_of empty_machine
  view-now =
      let rest = rest-now pages quantum k0 k1 k2 k3 space root m in
      same-state processes-seen inodes-seen descriptions-seen
      (ap (λ (k : Kernel). k.machine.next_pid) rest ∙ next-is pages quantum k0 m.begins)
      (ap (λ (k : Kernel). k.machine.size) rest ∙ pages-are pages quantum k0 m.begins)
      (ap (λ (k : Kernel). k.machine.quantum) rest ∙ quantum-is pages quantum k0 m.begins)
      (ap (λ (k : Kernel). k.machine.position) rest ∙ position-is pages quantum k0 m.begins)
