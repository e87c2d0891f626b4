-- Entries that are stored, one at a time.
use Rattle.std.proofs.Common.{◌≡◌, ℕ, List, [], ◌∷◌, Bool, true, false, Option, Some, None, Result, Ok, Err, refl, sym, ap, subst}
use Rattle.std.specs.Prelude.{not, is_none, is_some}
use Rattle.unix_model.specs.declared.calls.Errno.{Errno}
use Rattle.unix_model.specs.declared.calls.Errno.TheVariants.{Eexist}
use Rattle.unix_model.specs.Boot.{BootEntry, BootRefusal, NoRoomFor, NoProgram, Node, NewDirectory, NewFile, is_too_long, or_no_room, with_boot_entries, with_boot_entry, with_entry_at, with_init, init_path, stop◌where_not◌}
use Rattle.unix_model.specs.Paths.{Spot, walked, file_at}
use Rattle.unix_model.specs.Refusals.{◌>>=◌, ◌>>◌}
use Rattle.unix_model.specs.State.{Unix}
use Rattle.flat_boot.specs.NewPaths.{ends_new, is_new_path}
use Rattle.bundle.specs.declared.entry.Entry.{Entry}
use Rattle.bundle.specs.declared.entry.Entry.TheVariants.{Dir, File}
use Rattle.bundle.specs.Contents.{Content, Directory, Bytes, Elf, Holds, Puts}
use Rattle.bundle.specs.Bundles.{Described, IsStored}
use Rattle.bundle.specs.Views.{IsEntry}
use Rattle.flat_bundle.specs.Steps.{HasNoRoom, Stores}

-- ---- a path that isn't new

-- one entry, by whether it is too long and what its step gives
one-by : Bool → Result Unix Errno → Result Unix BootRefusal
one-by long step = (stop (NoRoomFor 0) where_not not long) >> (or_no_room 0 step >>= (λ unix. Ok unix))

no-room-by : (long : Bool) (step : Result Unix Errno) (errno : Errno) → step ≡ Err errno → one-by long step ≡ Err (NoRoomFor 0)
unfolding one-by
no-room-by true step errno refused = refl
no-room-by false step errno refused = ap (λ (given : Result Unix Errno). or_no_room 0 given >>= (λ unix. Ok unix)) refused

some-there : (held : Option ℕ) → is_none held ≡ false → is_some held ≡ true
some-there None none = cc
some-there (Some inode) none = refl

-- a walk that isn't new is refused
refused-walk : (unix : Unix) (node : Node) (walk : Result Spot Errno) → ends_new walk ≡ false → (errno : Errno) × ((walk >>= (λ spot. with_entry_at unix spot node)) ≡ Err errno)
refused-walk unix node (Err errno) old = (errno, refl)
refused-walk unix node (Ok spot) old = let there : is_some spot.inode ≡ true = some-there spot.inode old in (Eexist, rw there refl)

pub not_new : (unix : Unix) (entry : BootEntry) → is_new_path unix.files entry.path ≡ false → with_boot_entries 0 unix (entry ∷ []) ≡ Err (NoRoomFor 0)
unfolding is_new_path with_boot_entries with_boot_entry one-by
not_new unix entry old =
    let refused = refused-walk unix entry.node (walked unix.files entry.path) old in
    no-room-by (is_too_long entry.node) (with_boot_entry unix entry) refused.0 refused.1

-- ---- entries

-- the entry of a boot for a directory, and for a file
dir-stored : (path : List ℕ) (line : ℕ) (described : Described) → IsEntry described (Dir path line) → IsStored described (record { path = path; node = NewDirectory })
dir-stored path line described is =
    record { path = sym (ap (λ (d : Described). d.path) is); node = subst (λ (d : Described). Puts d.content NewDirectory) (sym is) tt }

held-put : (content : Content) (file : List ℕ) → Holds content file → Puts content (NewFile file)
held-put Directory file holds = absurd holds
held-put (Bytes bytes) file holds = holds
held-put (Elf program) file holds = holds

file-stored : (path bytes : List ℕ) (line : ℕ) (described : Described) → IsEntry described (File path bytes line) → IsStored described (record { path = path; node = NewFile bytes })
file-stored path bytes line described is = record { path = sym is.0; node = held-put described.content bytes is.1 }

dir-line : (path : List ℕ) (line : ℕ) (described : Described) → IsEntry described (Dir path line) → described.line ≡ line
dir-line path line described is = ap (λ (d : Described). d.line) is

file-line : (path bytes : List ℕ) (line : ℕ) (described : Described) → IsEntry described (File path bytes line) → described.line ≡ line
file-line path bytes line described is = is.2

-- ---- what was done with an entry

pub dir_stores : (entry : Entry) (path : List ℕ) (line : ℕ) (old new : Unix) → entry ≡ Dir path line
    → with_boot_entries 0 old (record { path = path; node = NewDirectory } ∷ []) ≡ Ok new → Stores entry old new
dir_stores entry path line old new is done = record {
  stored = record { path = path; node = NewDirectory };
  is_stored = λ described said. dir-stored path line described (subst (IsEntry described) is said);
  next = done;
}

pub file_stores : (entry : Entry) (path bytes : List ℕ) (line : ℕ) (old new : Unix) → entry ≡ File path bytes line
    → with_boot_entries 0 old (record { path = path; node = NewFile bytes } ∷ []) ≡ Ok new → Stores entry old new
file_stores entry path bytes line old new is done = record {
  stored = record { path = path; node = NewFile bytes };
  is_stored = λ described said. file-stored path bytes line described (subst (IsEntry described) is said);
  next = done;
}

pub dir_refused : (entry : Entry) (path : List ℕ) (line : ℕ) (old : Unix) → entry ≡ Dir path line
    → with_boot_entries 0 old (record { path = path; node = NewDirectory } ∷ []) ≡ Err (NoRoomFor 0) → HasNoRoom entry old line
dir_refused entry path line old is none = record {
  stored = record { path = path; node = NewDirectory };
  is_stored = λ described said. dir-stored path line described (subst (IsEntry described) is said);
  refused = none;
  line_is = λ described said. dir-line path line described (subst (IsEntry described) is said);
}

pub file_refused : (entry : Entry) (path bytes : List ℕ) (line : ℕ) (old : Unix) → entry ≡ File path bytes line
    → with_boot_entries 0 old (record { path = path; node = NewFile bytes } ∷ []) ≡ Err (NoRoomFor 0) → HasNoRoom entry old line
file_refused entry path bytes line old is none = record {
  stored = record { path = path; node = NewFile bytes };
  is_stored = λ described said. file-stored path bytes line described (subst (IsEntry described) is said);
  refused = none;
  line_is = λ described said. file-line path bytes line described (subst (IsEntry described) is said);
}

-- ---- no program

pub no_program : (unix : Unix) → file_at unix.files init_path ≡ None → with_init unix ≡ Err NoProgram
unfolding with_init
no_program unix none = rw none refl
