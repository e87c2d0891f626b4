-- Enough nodes are free.
use Rattle.std.proofs.Common.{◌≡◌, ℕ, ◌+◌, ◌*◌, ◌≤◌, true, arith, refl, ◌||◌}
use Rattle.kernel_tables.specs.declared.entry.Entry.{Entry}
use Rattle.kernel_tables.specs.declared.entry.Entry.TheVariants.{Free, Taken, Fixed, Unspelled}
use Rattle.kernel_tables.specs.declared.entry.NodeOwner.{NodeOwner}
use Rattle.kernel_tables.specs.Kernel.{Kernel, inode_at}
use Rattle.kernel_tables.specs.Rows.{entry_at, fixed_rows, domain_rows}
use Rattle.kernel_forest.specs.Trees.{forest_of}
use Rattle.unix_model.specs.Files.{inode_pages}
use Rattle.unix_model.specs.Room.{promised, process_pages}
use Rattle.unix_model.specs.Tables.{at, count_below, sum_below}
use Rattle.domain.specs.Domains.{domains, roots_by}
use Rattle.kernel_machine.specs.Machine.{machine_of, inodes_of}
use Rattle.kernel_machine.specs.View.{view, processes_in, inodes_in}
use Rattle.kernel_machine.specs.Bounds.{Accounted}
use Rattle.kernel_machine.specs.Bounds as law
use Rattle.kernel_machine.proofs.Counting.{count-less, count-or, count-any, sum-four-and-three, sum-four-and-one}
use Rattle.kernel_machine.proofs.NodesHeld.{slot-has, inode-has, slot-few, inode-few}
use Rattle.kernel_machine.proofs.NodeHolders.{owned-node, slots-have, inodes-have}
use Rattle.kernel_machine.proofs.PageHolders.{file-whole}
use Rattle.kernel_machine.proofs.PageBounds.{is_taken, untaken, taken-counted, whole-row}

module _ (kernel : Kernel) (good : Accounted kernel) where
  taken-had : (n : ℕ) (entry : Entry NodeOwner) → entry_at kernel.node_entries n ≡ entry → is_taken entry ≡ true → (slots-have kernel good n || inodes-have kernel good n) ≡ true
  taken-had n (Free next) e taken = untaken taken
  taken-had n (Taken owner count) e taken = owned-node kernel good n count owner e
  taken-had n Fixed e taken = untaken taken
  taken-had n Unspelled e taken = untaken taken

  slots-few : count_below (slots-have kernel good) kernel.nodes ≤ 4 * sum_below (λ slot. process_pages (at (view (machine_of kernel)).processes slot)) 64 + 3 * 64
  unfolding slots-have view processes_in at machine_of
  slots-few =
      let all = count-any (λ slot n. slot-has (forest_of kernel).keys (domain_rows kernel) (domains kernel) (at (roots_by (fixed_rows kernel)) slot) n) kernel.nodes 64 in
      let each = sum-four-and-three (λ slot. count_below (slot-has (forest_of kernel).keys (domain_rows kernel) (domains kernel) (at (roots_by (fixed_rows kernel)) slot)) kernel.nodes)
      (λ slot. process_pages (at (view (machine_of kernel)).processes slot)) 64
      (λ slot below. slot-few (machine_of kernel) (domain_rows kernel) kernel.nodes (at (roots_by (fixed_rows kernel)) slot) (λ root there. good.machine.zombies slot root there)) in
      omega arith

  inodes-few : count_below (inodes-have kernel good) kernel.nodes ≤ 4 * sum_below (λ number. inode_pages (at (view (machine_of kernel)).files.inodes number)) 1024 + 1024
  unfolding inodes-have view inodes_in at machine_of inodes_of
  inodes-few =
      let all = count-any (λ number n. inode-has (forest_of kernel).keys (at (inodes_of kernel) number) n) kernel.nodes 1024 in
      let each = sum-four-and-one (λ number. count_below (inode-has (forest_of kernel).keys (at (inodes_of kernel) number)) kernel.nodes)
      (λ number. inode_pages (at (view (machine_of kernel)).files.inodes number)) 1024
      (λ number below. inode-few (machine_of kernel) kernel.nodes (at (inodes_of kernel) number) (λ row there. file-whole kernel good row.root)
      (λ row there. whole-row number (inode_at kernel number) row (good.inodes.right number below) there)) in
      omega arith

  bounded : kernel.machine.nodes_taken ≤ 4 * promised (view (machine_of kernel)) + 1216
  unfolding promised
  bounded =
      let counted = taken-counted kernel.node_entries 0 kernel.nodes kernel.machine.free_node kernel.machine.nodes_taken good.bank.nodes.entries_good in
      let covered = count-less (λ n. is_taken (entry_at kernel.node_entries n)) (λ n. slots-have kernel good n || inodes-have kernel good n) kernel.nodes
      (λ n below taken. taken-had n (entry_at kernel.node_entries n) refl taken) in
      let both = count-or (slots-have kernel good) (inodes-have kernel good) kernel.nodes in
      omega (arith, slots-few, inodes-few)

pub nodes_accounted : law.NodesAccounted
nodes_accounted kernel good = bounded kernel good
