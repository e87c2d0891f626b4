-- The pages that inodes of the plain machine promise are few.
use Rattle.std.proofs.Common.{◌≤◌, Option, Some, None, arith, get_or}
use Rattle.std.specs.Prelude.{option_map}
use Rattle.unix_model.specs.Files.{inode_pages}
use Rattle.unix_model.specs.Tables.{at}
use Rattle.unix_model.proofs.RoomLaws.{inodes_promise, sum-few}
use Rattle.flat_files.specs.declared.inode.Inode.{Inode}
use Rattle.flat_files.specs.declared.inode.Inode.TheVariants.{File, Directory, Pipe, Console}
use Rattle.flat_files.specs.declared.inodes.Inodes.{Inodes}
use Rattle.flat_files.specs.EntryView.{place_of}
use Rattle.flat_files.specs.InodeView.{inode_of}
use Rattle.flat_files.specs.InodesView.{inodes_of}
use Rattle.flat_files.proofs.SlotLaws.{length-mapped}

inode-few : (inode : Inode) → inode_pages (Some (inode_of inode)) ≤ 1024
inode-few (File contents) = omega (arith, contents.few)
inode-few (Directory directory) = omega (arith, directory.few, length-mapped place_of directory.places.items)
inode-few (Pipe pipe) = omega arith
inode-few Console = omega arith

held-few : (held : Option Inode) → inode_pages (option_map inode_of held) ≤ 1024
held-few None = omega arith
held-few (Some inode) = inode-few inode

pub inodes-few : (inodes : Inodes) → inodes_promise (inodes_of inodes) ≤ 1048576
unfolding inodes_of at
inodes-few inodes = omega (arith, sum-few (λ n. inode_pages (at (inodes_of inodes) n)) 1024 1024 (λ k. held-few (get_or inodes.items.items k None)))

pub ruleset inode_few = (inodes-few)
