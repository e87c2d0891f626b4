-- The parent of a directory that was moved.
use Rattle.std.proofs.Common.{◌≡◌, ℕ, zero, suc, ◌<◌, ◌-◌, Option, Some, None, true, false, [], refl, arith, ap, ◌∙◌, inl, inr}
use Rattle.std.proofs.lemmas.Bool.Decides.{eqb_tells}
use Rattle.std.specs.Prelude.{◌||◌, ◌==◌}
use Rattle.unix_model.specs.Files.{Files, Inode, File, Directory, Pipe, Console, is_directory, is_full, is_within, parent_of, places_of, with_inode}
use Rattle.unix_model.specs.NameCalls.{with_parent}
use Rattle.unix_model.specs.Limits.{most_places}
use Rattle.unix_model.specs.Tables.{at, with_at}
use Rattle.unix_model.proofs.TableLaws.{at-with_at, at-with_at-other}

pub directory-moved : (files : Files) (inode parent : ℕ) (held : Option Inode) → is_directory held ≡ true → with_parent files inode parent held ≡ with_inode files inode (Directory parent (places_of held))
directory-moved files inode parent None e = absurd (cc)
directory-moved files inode parent (Some (File bytes)) e = absurd (cc)
directory-moved files inode parent (Some (Directory old places)) e = refl
directory-moved files inode parent (Some (Pipe bytes)) e = absurd (cc)
directory-moved files inode parent (Some Console) e = absurd (cc)

pub other-moved : (files : Files) (inode parent : ℕ) (held : Option Inode) → is_directory held ≡ false → with_parent files inode parent held ≡ files
other-moved files inode parent None e = refl
other-moved files inode parent (Some (File bytes)) e = refl
other-moved files inode parent (Some (Directory old places)) e = absurd (cc)
other-moved files inode parent (Some (Pipe bytes)) e = refl
other-moved files inode parent (Some Console) e = refl

-- a directory has the same room where an inode without names is made
pub full-made : (files : Files) (number directory : ℕ) (new : Inode) → places_of (Some new) ≡ [] → is_full files directory ≡ false
    → is_full (with_inode files number new) directory ≡ false
unfolding most_places
full-made files number directory new empty room = elim (eqb_tells directory number) as (λ _. is_full (with_inode files number new) directory ≡ false) [
  | inl same ↦ rw (ap (at (with_at files.inodes number (Some new))) same.1 ∙ at-with_at files.inodes number (Some new), empty) refl
  | inr apart ↦ rw (at-with_at-other files.inodes number directory (Some new) apart.1) room
]

pub ruleset made = (full-made)

-- one parent more
pub within-step : (inodes : ℕ → Option Inode) (outer steps directory : ℕ) → 0 < steps
    → is_within inodes outer steps directory ≡ ((directory == outer) || is_within inodes outer (steps - 1) (parent_of (at inodes directory)))
unfolding is_within
within-step inodes outer zero directory more = absurd (omega arith)
within-step inodes outer (suc steps) directory more = let less : suc steps - 1 ≡ steps = omega arith in rw less refl

pub within-end : (inodes : ℕ → Option Inode) (outer directory : ℕ) → is_within inodes outer 0 directory ≡ (directory == outer)
unfolding is_within
within-end inodes outer directory = refl

pub ruleset within = (within-step, within-end)

pub ruleset parents = (directory-moved, other-moved)
