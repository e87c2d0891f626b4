-- Numbers of new inodes.
use Rattle.std.specs.Prelude.{◌≡◌, ℕ, ◌<◌, false}
use Rattle.unix_model.specs.Files.{Files, is_full}

-- a number for a new inode, and a place for its name in a directory
pub record IsNewNumber (files : Files) (directory number : ℕ) : Type 0 where
  pub inside : number < 1024
  pub place : is_full files directory ≡ false
