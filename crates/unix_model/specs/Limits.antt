-- The limits of the machine, each in one place. Where POSIX.1 has a name for one it stands beside it.
use Rattle.std.specs.Prelude.{ℕ, ◌^◌}

-- ---- the machine

-- the pages P of a machine are a multiple of 64 in these limits, and its quantum Q is from 1 to this one
abbrev pub least_pages : ℕ
least_pages = 64

abbrev pub most_pages : ℕ
most_pages = 16384

abbrev pub most_quantum : ℕ
most_quantum = 10000

-- ---- memory

-- the bytes of a page, and how many pages user memory has: addresses are below 0x8000_0000
abbrev pub page_bytes : ℕ
page_bytes = 4096

abbrev pub user_pages : ℕ
user_pages = 2 ^ 19

-- the end of the memory in which a program's loads lie, and of its break
unfoldable pub loads_end : ℕ
loads_end = 0x7FFE_0000

-- the first address past the stack, and past all user memory
unfoldable pub stack_end : ℕ
stack_end = 0x8000_0000

-- ---- processes

-- the slots for processes
abbrev pub slot_count : ℕ
slot_count = 64

-- the first number past all process ids
abbrev pub pid_end : ℕ
pid_end = 2 ^ 31

-- the descriptors of a process (OPEN_MAX)
abbrev pub descriptor_count : ℕ
descriptor_count = 32

-- the strings of exec, and the bytes of its path and strings with their NULs (ARG_MAX)
abbrev pub most_strings : ℕ
most_strings = 16

abbrev pub most_string_bytes : ℕ
most_string_bytes = 4096

-- ---- files

-- the inodes, the console and the root among them
abbrev pub inode_count : ℕ
inode_count = 1024

-- the open descriptions
abbrev pub description_count : ℕ
description_count = 2048

-- the bytes of a file
unfoldable pub most_file_bytes : ℕ
most_file_bytes = 4194304

-- the places of a directory, and the bytes of one
unfoldable pub most_places : ℕ
most_places = 1024

abbrev pub place_bytes : ℕ
place_bytes = 32

-- the bytes of a name (NAME_MAX), and of a path without its NUL
abbrev pub most_name_bytes : ℕ
most_name_bytes = 27

abbrev pub most_path_bytes : ℕ
most_path_bytes = 255

-- the bytes that one read or write moves
abbrev pub most_moved : ℕ
most_moved = 4096

-- the bytes that a pipe holds, which is also PIPE_BUF
abbrev pub pipe_bytes : ℕ
pipe_bytes = 4096

-- the first number past all offsets
abbrev pub offset_end : ℕ
offset_end = 2 ^ 31
