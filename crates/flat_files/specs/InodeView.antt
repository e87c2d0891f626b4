-- The inodes and descriptions that those of the plain machine stand for.
use Rattle.std.specs.Prelude.{map}
use Rattle.unix_model.specs.Files as model
use Rattle.flat_files.specs.EntryView.{place_of}
use Rattle.flat_files.specs.declared.inode.Inode.{Inode}
use Rattle.flat_files.specs.declared.inode.Inode.TheVariants.{File, Directory, Pipe, Console}
use Rattle.flat_files.specs.declared.description.Description.{Description}

abbrev pub inode_of : Inode → model.Inode
inode_of (File contents) = model.File contents.bytes.items
inode_of (Directory directory) = model.Directory directory.parent (map place_of directory.places.items)
inode_of (Pipe pipe) = model.Pipe pipe.bytes.items
inode_of Console = model.Console

abbrev pub description_of : Description → model.Description
description_of description =
    record {
      inode = description.inode;
      readable = description.readable;
      writable = description.writable;
      append = description.append;
      offset = description.offset;
    }
