-- Whether a path may be taken, from the steps of looking it up.
use Rattle.std.proofs.Common.{◌≡◌, ℕ, List, length, true, false, Result, Ok, Err, refl}
use Rattle.std.specs.Prelude.{◌||◌, ◌==◌, bytes_eq, codes, Some}
use Rattle.bundle.specs.declared.fault.NotAdded.{NotAdded}
use Rattle.bundle.specs.declared.fault.NotAdded.TheVariants.{Refused, NoMemory}
use Rattle.bundle.specs.declared.fault.BundleKind.TheVariants.{NoParent}
use Rattle.bundle.specs.Bundles.{accepted, line_said}
use Rattle.bundle.specs.EntryLines.{Said, said}
use Rattle.bundle.specs.Keys.{IsAllowed, IsNew}
use Rattle.bundle.specs.Paths.{Known, allowed, has_directory, has_parent, is_long, is_path, parent_of}

-- the directory is none
pub no-parent : (known : Known) (path parent : List ℕ) → is_path path ≡ true → is_long path ≡ false → parent ≡ parent_of path → (length parent == 0) || has_directory known parent ≡ false
    → allowed known path ≡ Err NoParent
unfolding allowed has_parent
no-parent known path parent form short is none = rw form (rw short (rw (← is) (rw none refl)))

-- it is one, and whether the path is new decides
pub with-parent : (known : Known) (path parent : List ℕ) (result : Result (Unit {0}) NotAdded) → is_path path ≡ true → is_long path ≡ false → parent ≡ parent_of path
    → (length parent == 0) || has_directory known parent ≡ true → IsNew (known path) result → IsAllowed (allowed known path) result
unfolding allowed has_parent
with-parent known path parent (Ok done) form short is there new = rw form (rw short (rw (← is) (rw there (rw new refl))))
with-parent known path parent (Err (Refused kind)) form short is there new = rw form (rw short (rw (← is) (rw there (rw (new.1, new.0) refl))))
with-parent known path parent (Err NoMemory) form short is there new = rw form (rw short (rw (← is) (rw there (rw new refl))))

-- a line whose entry's path may be taken
pub line-accepted : (room number : ℕ) (known : Known) (line : List ℕ) (told : Said) → bytes_eq line (codes "end") ≡ false → (room == 0) ≡ false → said line ≡ Some told → allowed known told.path ≡ Ok tt
    → (rest : List ℕ) → accepted room known number (record { line = line; rest = rest }) ≡ Ok (record { said = told; rest = rest })
unfolding accepted line_said
line-accepted room number known line told other some says fine rest = rw other (rw some (rw says (rw fine refl)))
