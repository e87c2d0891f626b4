-- All that a good machine has taken is accounted for.
use Rattle.std.proofs.Common.{◌≡◌, ◌≢◌, ℕ, Option, Some, None, arith, refl}
use Rattle.std.specs.Prelude.{option_map}
use Rattle.kernel_tables.specs.declared.entry.PageOwner.{PageOwner}
use Rattle.kernel_tables.specs.declared.inode.Inode.{Inode}
use Rattle.kernel_tables.specs.declared.inode.InodeKind.{InodeKind}
use Rattle.kernel_tables.specs.declared.inode.InodeKind.TheVariants.{File, Dir, Pipe, Console}
use Rattle.space_bank.proofs.FullLaws.{no_page-free}
use Rattle.forest.specs.Forest.{Forest}
use Rattle.domain.specs.declared.types.Phase.{Phase}
use Rattle.domain.specs.declared.types.Phase.TheVariants.{Zombie}
use Rattle.domain.specs.Domains.{Domain}
use Rattle.unix_model.specs.Tables.{at}
use Rattle.kernel_machine.specs.Machine.{machine_of}
use Rattle.domain.specs.Phases.{FitsPhase}
use Rattle.kernel_machine.specs.Trees.{HasTree, IsRootOf, IsFileTree}
use Rattle.kernel_machine.specs.View.{view, inodes_in, inode_in}
use Rattle.kernel_machine.specs.Bounds as law
use Rattle.kernel_machine.specs.Bounds.{HasEnded}
use Rattle.kernel_machine.proofs.PageBounds.{pages_accounted}
use Rattle.kernel_machine.proofs.NodeBounds.{nodes_accounted}

-- the tree of an inode of this kind
file-tree : (forest : Forest) (bytes : ℕ → _) (owner : ℕ → Option PageOwner) (row : Inode) (kind : InodeKind) → IsRootOf forest bytes owner row kind → HasTree kind → row.root ≢ 0
    → IsFileTree forest.keys bytes row.root row.length
file-tree forest bytes owner row File root tree there = (root there).2
file-tree forest bytes owner row Dir root tree there = (root there).2
file-tree forest bytes owner row Pipe root tree there = absurd tree
file-tree forest bytes owner row Console root tree there = absurd tree

ended : (domain : Domain) (phase : Phase) → FitsPhase domain phase → phase ≡ Zombie → (domain.space ≡ None) × (domain.buffer ≡ None)
ended domain Zombie fits is = (fits.space, fits.buffer)
ended domain _ fits is = cc

none-made : {X Y : Type 0} (f : X → Y) (there : Option X) → option_map f there ≡ None → there ≡ None
none-made f None e = refl
none-made f (Some x) e = cc

pub good_is_accounted : law.GoodIsAccounted
unfolding machine_of view inodes_in at
good_is_accounted calls kernel good = record {
  bank = good.bank;
  whole = good.whole;
  zero = good.unused.zero;
  trees = good.trees.held;
  pages_inside = good.pages_inside;
  filled = good.filled;
  nodes_held = good.nodes_held;
  inodes = good.inodes;
  machine = record {
    held = good.machine.held;
    in_slots = good.machine.slots.all;
    zombies = λ slot root there. ended (at (machine_of kernel).domains root) (at (machine_of kernel).domains root).phase (good.machine.slots.each slot root there).fits;
    within =
        λ number inode there tree real page mapping found.
        (file-tree (machine_of kernel).forest (machine_of kernel).page_bytes (machine_of kernel).page_owner inode inode.kind (good.machine.roots.each number inode there) tree real).within page mapping found;
    last = λ number past. none-made (inode_in (machine_of kernel)) (at (machine_of kernel).inodes number) (good.machine.unix.inodes.end number past);
  };
}

pub taken_are_promised : law.TakenArePromised
unfolding machine_of
taken_are_promised calls kernel good =
    let few = pages_accounted kernel (good_is_accounted calls kernel good) in
    let promises = good.machine.promises in
    omega arith

pub promised_is_free : law.PromisedIsFree
promised_is_free calls kernel good less none =
    let all = no_page-free kernel good.bank none in
    let promises = good.bank.words.promises in
    absurd (omega arith)

pub nodes_are_free : law.NodesAreFree
unfolding machine_of
nodes_are_free calls kernel good =
    let few = nodes_accounted kernel (good_is_accounted calls kernel good) in
    let same = good.machine.promises in
    let all = good.bank.sized.all_nodes in
    let promises = good.bank.words.promises in
    omega arith
