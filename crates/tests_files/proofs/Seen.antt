-- Directories, and what may have a name, in the flat state.
use Rattle.std.proofs.Common.{◌≡◌, ℕ, true, Some, refl, ap, ◌∙◌}
use Rattle.std.specs.Prelude.{option_map}
use Rattle.kernel_tables.specs.declared.inode.Inode.{Inode}
use Rattle.kernel_tables.specs.declared.inode.InodeKind.{InodeKind}
use Rattle.kernel_tables.specs.declared.inode.InodeKind.TheVariants as kind
use Rattle.kernel_tables.specs.declared.row.Row.TheVariants.{Used}
use Rattle.kernel_tables.specs.Kernel.{Kernel, inode_at}
use Rattle.unix_model.specs.Files as model
use Rattle.unix_model.specs.Files.{is_directory}
use Rattle.unix_model.specs.Rules.{is_named_kind}
use Rattle.unix_model.specs.Tables.{at}
use Rattle.kernel_machine.specs.Machine.{machine_of, inodes_of, held}
use Rattle.kernel_machine.specs.View.{inodes_in, inode_in, inode_by}
use Rattle.dir_domain.specs.Rows.{inode_seen}

seen : (kernel : Kernel) (number : ℕ) (inode : Inode) (k : InodeKind) → inode_at kernel number ≡ Used inode → inode.kind ≡ k → inode_seen kernel number ≡ Some (inode_by (machine_of kernel) inode k)
unfolding inodes_in inode_in machine_of inodes_of at
seen kernel number inode k there is =
    ap (option_map (inode_in (machine_of kernel))) (ap held there) ∙ ap (λ (k : InodeKind). let here : model.Inode = inode_by (machine_of kernel) inode k in Some here) is

pub directory_seen : (kernel : Kernel) (number : ℕ) (inode : Inode) → inode_at kernel number ≡ Used inode → inode.kind ≡ kind.Dir → is_directory (inode_seen kernel number) ≡ true
directory_seen kernel number inode there is = ap is_directory (seen kernel number inode kind.Dir there is)

named : (kernel : Kernel) (number : ℕ) (inode : Inode) (k : InodeKind) → inode_at kernel number ≡ Used inode → inode.kind ≡ k → is_named_kind (Some (inode_by (machine_of kernel) inode k)) ≡ true
    → is_named_kind (inode_seen kernel number) ≡ true
named kernel number inode k there is right = ap is_named_kind (seen kernel number inode k there is) ∙ right

pub directory_named : (kernel : Kernel) (number : ℕ) (inode : Inode) → inode_at kernel number ≡ Used inode → inode.kind ≡ kind.Dir → is_named_kind (inode_seen kernel number) ≡ true
directory_named kernel number inode there is = named kernel number inode kind.Dir there is refl

pub file_named : (kernel : Kernel) (number : ℕ) (inode : Inode) → inode_at kernel number ≡ Used inode → inode.kind ≡ kind.File → is_named_kind (inode_seen kernel number) ≡ true
file_named kernel number inode there is = named kernel number inode kind.File there is refl

pub ruleset named_seen = (directory_named, file_named)
