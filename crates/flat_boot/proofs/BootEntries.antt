-- What an entry of boot comes to.
use Rattle.std.proofs.Common.{◌≡◌, ℕ, List, [], ◌∷◌, Option, Result, Ok, Err, true, false, refl, sym, ap, ◌∙◌}
use Rattle.std.specs.Prelude.{IfErr, OnOk}
use Rattle.unix_model.specs.declared.calls.Errno.{Errno}
use Rattle.unix_model.specs.declared.calls.Errno.TheVariants.{Enospc}
use Rattle.unix_model.specs.Boot.{BootEntry, BootRefusal, NewDirectory, NewFile, NoRoomFor, is_too_long, node_inode, or_no_room, with_boot_entry, with_boot_entries}
use Rattle.unix_model.specs.Files.{Inode, File, Directory, Entry}
use Rattle.unix_model.specs.NameCalls.{made, with_made}
use Rattle.unix_model.specs.Paths.{Spot}
use Rattle.unix_model.specs.Refusals.{◌>>=◌}
use Rattle.unix_model.specs.State.{Unix}
use Rattle.flat_boot.specs.declared.fault.BootFault.{BootFault}
use Rattle.flat_boot.specs.declared.fault.BootFault.TheVariants.{NoMemory, NoRoom, Elf}
use Rattle.flat_boot.specs.Making.{new_inode, IsStoreFault, Makes}
use Rattle.flat_boot.specs.NewPaths.{IsNewSpot}

-- an inode, by its number
module _ (unix : Unix) (spot : Spot) (new : Inode) where
  pub no-inode : Err Enospc ≡ made unix spot new → new_inode unix spot new ≡ Err Enospc
  unfolding new_inode
  no-inode e = rw (← e) refl

  pub inode-there : (number : ℕ) → Ok number ≡ made unix spot new → new_inode unix spot new ≡ Ok (with_made unix spot number new)
  unfolding new_inode
  inode-there number e = rw (← e) refl

-- an entry, by its inode
pub boot-entry : (number : ℕ) (unix : Unix) (entry : BootEntry) (spot : Spot) → is_too_long entry.node ≡ false → IsNewSpot unix.files entry.path spot
    → with_boot_entries number unix (entry ∷ []) ≡ or_no_room number (new_inode unix spot (node_inode spot.directory entry.node))
unfolding with_boot_entries with_boot_entry new_inode
boot-entry number unix entry spot short new =
    rw (short, new.walk, new.absent) (bound (or_no_room number (new_inode unix spot (node_inode spot.directory entry.node))))
  where
    bound : (found : Result Unix BootRefusal) → (found >>= (λ next. Ok next)) ≡ found
    bound (Ok unix) = refl
    bound (Err refusal) = refl

-- a directory and a file, as they are made
pub directory-entered : (number : ℕ) (unix : Unix) (path : List ℕ) (spot : Spot) (places : List (Option Entry)) → IsNewSpot unix.files path spot → places ≡ []
    → with_boot_entries number unix (record { path = path; node = NewDirectory } ∷ []) ≡ or_no_room number (new_inode unix spot (Directory spot.directory places))
directory-entered number unix path spot places new none =
    boot-entry number unix (record { path = path; node = NewDirectory }) spot refl new
    ∙ ap (λ (places : List (Option Entry)). or_no_room number (new_inode unix spot (Directory spot.directory places))) (sym none)

pub file-entered : (number : ℕ) (unix : Unix) (path bytes copy : List ℕ) (spot : Spot) → IsNewSpot unix.files path spot → is_too_long (NewFile bytes) ≡ false → copy ≡ bytes
    → with_boot_entries number unix (record { path = path; node = NewFile bytes } ∷ []) ≡ or_no_room number (new_inode unix spot (File copy))
file-entered number unix path bytes copy spot new short same =
    boot-entry number unix (record { path = path; node = NewFile bytes }) spot short new
    ∙ ap (λ (bytes : List ℕ). or_no_room number (new_inode unix spot (File bytes))) (sym same)

pub too-long : (number : ℕ) (unix : Unix) (entry : BootEntry) → is_too_long entry.node ≡ true → with_boot_entries number unix (entry ∷ []) ≡ Err (NoRoomFor number)
unfolding with_boot_entries
too-long number unix entry long = rw long refl

-- what making its inode comes to
module _ (number : ℕ) (wanted : Result Unix Errno) (entered : Result Unix BootRefusal) (is : entered ≡ or_no_room number wanted) (old new : Unix) where
  pub entry-ok : (result : Result (Unit {0}) BootFault) → Makes wanted old new result → OnOk result (entered ≡ Ok new)
  entry-ok (Ok done) made = is ∙ ap (or_no_room number) made
  entry-ok (Err fault) made = tt

  pub entry-no_room : (result : Result (Unit {0}) BootFault) → Makes wanted old new result → result ≡ Err NoRoom → entered ≡ Err (NoRoomFor number)
  entry-no_room (Ok done) made e = cc
  entry-no_room (Err NoRoom) made e = is ∙ ap (or_no_room number) made.0
  entry-no_room (Err NoMemory) made e = cc
  entry-no_room (Err (Elf fault)) made e = cc

pub entry-unchanged : (wanted : Result Unix Errno) (old new : Unix) (result : Result (Unit {0}) BootFault) → Makes wanted old new result → result ≡ Err NoRoom → new ≡ old
entry-unchanged wanted old new (Ok done) made e = cc
entry-unchanged wanted old new (Err NoRoom) made e = made.1
entry-unchanged wanted old new (Err NoMemory) made e = cc
entry-unchanged wanted old new (Err (Elf fault)) made e = cc

pub entry-fault : (wanted : Result Unix Errno) (old new : Unix) (result : Result (Unit {0}) BootFault) → Makes wanted old new result → IfErr result IsStoreFault
entry-fault wanted old new (Ok done) made = tt
entry-fault wanted old new (Err NoRoom) made = tt
entry-fault wanted old new (Err NoMemory) made = tt
entry-fault wanted old new (Err (Elf fault)) made = made
