-- Laws of the ways of directories to the root, by their parents.
use Rattle.std.specs.Prelude.{◌≡◌, ◌≢◌, ◌<◌, ℕ, true, false, Option}
use Rattle.unix_model.specs.Files.{Inode, is_within, parent_of}
use Rattle.unix_model.specs.Limits.{inode_count}
use Rattle.unix_model.specs.Tables.{at}

-- The test of rename looks far enough: a directory that isn't another, nor below it within as many parents as there are
-- inodes, isn't below it at all.
abbrev pub RenameLooksFar : Type 0
RenameLooksFar =
    (inodes : ℕ → Option Inode) (outer number : ℕ)
    → ((n : ℕ) → parent_of (at inodes n) < inode_count) → number < inode_count
    → is_within inodes outer inode_count number ≡ false → (steps : ℕ) → is_within inodes outer steps number ≡ false

-- Where one directory gets another parent, a way that doesn't lead over it stays.
abbrev pub WaysBesideStay : Type 0
WaysBesideStay =
    (inodes after : ℕ → Option Inode) (outer moved : ℕ)
    → ((n : ℕ) → n ≢ moved → parent_of (at after n) ≡ parent_of (at inodes n))
    → (steps number : ℕ) → ((k : ℕ) → is_within inodes moved k number ≡ false)
    → is_within inodes outer steps number ≡ true → is_within after outer steps number ≡ true

-- And where its new parent has a way, each directory that had one has one.
abbrev pub WaysStay : Type 0
WaysStay =
    (inodes after : ℕ → Option Inode) (outer moved : ℕ)
    → ((n : ℕ) → n ≢ moved → parent_of (at after n) ≡ parent_of (at inodes n))
    → (steps number beyond : ℕ) → is_within after outer beyond (parent_of (at after moved)) ≡ true
    → is_within inodes outer steps number ≡ true → (later : ℕ) × (is_within after outer later number ≡ true)
