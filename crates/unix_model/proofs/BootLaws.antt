-- Entries of boot, and the first program.
use Rattle.std.proofs.Common.{◌≡◌, ◌≢◌, ℕ, zero, suc, ◌+◌, ◌<◌, ◌≤◌, Option, Some, None, Bool, true, false, List, [], ◌∷◌, Result, Ok, Err, arith, refl, sym, ap, ◌∙◌, subst}
use Rattle.std.proofs.lemmas.Bool.{leb-true}
use Rattle.std.specs.Prelude.{◌&&◌, codes, is_none, nat_le, if◌then◌else◌}
use Rattle.unix_model.specs.declared.calls.Errno.{Errno}
use Rattle.unix_model.specs.declared.calls.Errno.TheVariants.{Enospc}
use Rattle.unix_model.specs.declared.elf.ElfFault.{ElfFault}
use Rattle.unix_model.specs.Boot.{BootRefusal, booted, NoRoomFor, BadProgram, NoRoomToStart, NewFile, booted_file, empty_machine, first_inodes, init_path, is_too_long, started, with_boot_entry, with_boot_entries, with_entry_at, with_init, init_entry, or_no_room}
use Rattle.unix_model.specs.Elf.{LoadPlan, plan_of}
use Rattle.unix_model.specs.Files.{Files, Inode, File, Directory, Console, Entry, free_inode, inode_pages, is_full, parent_of, places_of, with_entry}
use Rattle.unix_model.specs.NameCalls.{made, with_made}
use Rattle.unix_model.specs.Paths.{Spot, file_at, inode_at, is_dots, walked, walked_in}
use Rattle.unix_model.specs.Refusals.{◌>>=◌, ◌>>◌}
use Rattle.unix_model.specs.Room.{has_room, promised}
use Rattle.unix_model.specs.State.{Unix}
use Rattle.unix_model.specs.Tables.{at, with_at, nothing, least_below, option_or}
use Rattle.unix_model.proofs.RoomLaws.{sum-with_at}
use Rattle.unix_model.proofs.TableLaws.{at-with_at, at-with_at-other}

-- ---- a new inode at a spot

pub made-no_inode : (unix : Unix) (spot : Spot) (new : Inode) → free_inode unix.files.inodes ≡ None → made unix spot new ≡ Err Enospc
made-no_inode unix spot new none = rw none refl

pub made-full : (unix : Unix) (spot : Spot) (new : Inode) (inode : ℕ) → free_inode unix.files.inodes ≡ Some inode
    → is_full unix.files spot.directory ≡ true → made unix spot new ≡ Err Enospc
made-full unix spot new inode free full = rw (free, full) refl

pub made-crowded : (unix : Unix) (spot : Spot) (new : Inode) (inode : ℕ) → free_inode unix.files.inodes ≡ Some inode
    → is_full unix.files spot.directory ≡ false → has_room (with_made unix spot inode new) ≡ false → made unix spot new ≡ Err Enospc
made-crowded unix spot new inode free place crowded = rw (free, place, crowded) refl

pub made-there : (unix : Unix) (spot : Spot) (new : Inode) (inode : ℕ) → free_inode unix.files.inodes ≡ Some inode
    → is_full unix.files spot.directory ≡ false → has_room (with_made unix spot inode new) ≡ true → made unix spot new ≡ Ok inode
made-there unix spot new inode free place room = rw (free, place, room) refl

-- what a machine promises with a new inode: that one's pages, and those of its directory with an entry more
pub promised-made : (unix : Unix) (spot : Spot) (inode : ℕ) (new : Inode) → spot.directory < 1024 → inode < 1024 → spot.directory ≢ inode
    → at unix.files.inodes inode ≡ None
    → promised (with_made unix spot inode new) + inode_pages (at unix.files.inodes spot.directory)
    ≡ promised unix + inode_pages (Some new)
    + inode_pages (Some (Directory (parent_of (at unix.files.inodes spot.directory)) (with_entry (places_of (at unix.files.inodes spot.directory)) (record { name = spot.name; inode = inode }))))
unfolding promised
promised-made unix spot inode new directory_inside inside other free =
    let Inodes : Type 0 = ℕ → Option Inode in
    let entry : Entry = record { name = spot.name; inode = inode } in
    let filed : Inodes = with_at unix.files.inodes inode (Some new) in
    let directory : at filed spot.directory ≡ at unix.files.inodes spot.directory = at-with_at-other unix.files.inodes inode spot.directory (Some new) other in
    let nothing_there : inode_pages (at unix.files.inodes inode) ≡ 0 = ap inode_pages free in
    omega (
      arith,
      sum-with_at inode_pages unix.files.inodes inode (Some new) 1024 inside,
      sum-with_at inode_pages filed spot.directory (Some (Directory (parent_of (at filed spot.directory)) (with_entry (places_of (at filed spot.directory)) entry))) 1024 directory_inside,
      nothing_there,
      ap inode_pages directory,
      ap (λ found. inode_pages (Some (Directory (parent_of found) (with_entry (places_of found) entry)))) directory,
    )

-- ---- the entry `/init`

-- where it stands in the empty machine
pub init_spot : Spot
init_spot = record { directory = 1; name = codes "init"; inode = None }

pub init-walked : (pages quantum : ℕ) → walked (empty_machine pages quantum).files init_path ≡ Ok init_spot
unfolding walked walked_in empty_machine first_inodes at with_at is_dots inode_at init_spot
init-walked pages quantum = refl

-- ---- boot of one file, by its entry

pub booted-long : (pages quantum : ℕ) (file : List ℕ) → is_too_long (NewFile file) ≡ true → booted_file pages quantum file ≡ Err (NoRoomFor 0)
unfolding booted_file booted with_boot_entries
booted-long pages quantum file long = rw long refl

entry-made : (pages quantum : ℕ) (file : List ℕ) → with_boot_entry (empty_machine pages quantum) (init_entry file) ≡ with_entry_at (empty_machine pages quantum) init_spot (NewFile file)
unfolding with_boot_entry
entry-made pages quantum file = rw (init-walked pages quantum) refl

booted-by : (pages quantum : ℕ) (file : List ℕ) (answer : Result Unix Errno) → is_too_long (NewFile file) ≡ false
    → with_entry_at (empty_machine pages quantum) init_spot (NewFile file) ≡ answer
    → booted_file pages quantum file ≡ (or_no_room 0 answer >>= with_init)
unfolding booted_file booted with_boot_entries
booted-by pages quantum file answer short e =
    rw short (rw (entry-made pages quantum file ∙ e) (bound (or_no_room 0 answer)))
  where
    bound : (found : Result Unix BootRefusal) → ((found >>= (λ next. Ok next)) >>= with_init) ≡ (found >>= with_init)
    bound (Ok unix) = refl
    bound (Err refusal) = refl

pub booted-refused : (pages quantum : ℕ) (file : List ℕ) (errno : Errno) → is_too_long (NewFile file) ≡ false
    → with_entry_at (empty_machine pages quantum) init_spot (NewFile file) ≡ Err errno → booted_file pages quantum file ≡ Err (NoRoomFor 0)
booted-refused pages quantum file errno short e = booted-by pages quantum file (Err errno) short e

pub booted-entry : (pages quantum : ℕ) (file : List ℕ) (unix : Unix) → is_too_long (NewFile file) ≡ false
    → with_entry_at (empty_machine pages quantum) init_spot (NewFile file) ≡ Ok unix → booted_file pages quantum file ≡ with_init unix
booted-entry pages quantum file unix short e = booted-by pages quantum file (Ok unix) short e

-- ---- the file is found again

pub file-found : (files : Files) (inode : ℕ) (file : List ℕ) → at files.inodes 1 ≡ Some (Directory 1 (Some (record { name = codes "init"; inode = inode }) ∷ []))
    → at files.inodes inode ≡ Some (File file) → file_at files init_path ≡ Some file
unfolding file_at walked walked_in is_dots inode_at
file-found files inode file root there = rw (root, there) refl

-- the test holds of the least number that it holds of
least_holds : (test : ℕ → Bool) (limit n : ℕ) (b : Bool) → test limit ≡ b → (if b then Some limit else None) ≡ Some n → test n ≡ true
least_holds test limit n true holds e = let same : limit ≡ n = cc in subst (λ k. test k ≡ true) same holds
least_holds test limit n false holds e = cc

least_step : (test : ℕ → Bool) (limit n : ℕ) (before : Option ℕ) → (before ≡ Some n → test n ≡ true) → option_or before (if test limit then Some limit else None) ≡ Some n → test n ≡ true
least_step test limit n (Some m) earlier e = earlier e
least_step test limit n None earlier e = least_holds test limit n (test limit) refl e

pub least_below-holds : (test : ℕ → Bool) (limit n : ℕ) → least_below test limit ≡ Some n → test n ≡ true
unfolding least_below
least_below-holds test zero n e = cc
least_below-holds test (suc limit) n e = least_step test limit n (least_below test limit) (least_below-holds test limit n) e

both : (a b : Bool) → (a && b) ≡ true → a ≡ true
both true b e = refl
both false b e = cc

-- a free inode number is above the root's
pub free_inode-above : (inodes : ℕ → Option Inode) (n : ℕ) → free_inode inodes ≡ Some n → 2 ≤ n
unfolding free_inode
free_inode-above inodes n free =
    leb-true 2 n (both (nat_le 2 n) (is_none (at inodes n)) (least_below-holds (λ n. nat_le 2 n && is_none (at inodes n)) 1024 n free))

-- where something was made, it has a free number
when_full : (unix : Unix) (spot : Spot) (new : Inode) (inode : ℕ) (full room : Bool) (made_inode : ℕ)
    → ((if full then Err Enospc else Ok tt) >> ((if room then Ok tt else Err Enospc) >> Ok inode)) ≡ Ok made_inode → inode ≡ made_inode
when_full unix spot new inode true room made_inode e = cc
when_full unix spot new inode false true made_inode e = cc
when_full unix spot new inode false false made_inode e = cc

by_number : (unix : Unix) (spot : Spot) (new : Inode) (found : Option ℕ) (inode : ℕ) → free_inode unix.files.inodes ≡ found → made unix spot new ≡ Ok inode → found ≡ Some inode
by_number unix spot new None inode free e = let none = made-no_inode unix spot new free in cc
by_number unix spot new (Some number) inode free e =
    ap (λ n. Some n) (when_full unix spot new number (is_full unix.files spot.directory) (has_room (with_made unix spot number new)) inode (sym (rw free refl) ∙ e))

pub made-is_free : (unix : Unix) (spot : Spot) (new : Inode) (inode : ℕ) → made unix spot new ≡ Ok inode → free_inode unix.files.inodes ≡ Some inode
made-is_free unix spot new inode e = by_number unix spot new (free_inode unix.files.inodes) inode refl e

-- the state with the file of `/init`
made_or : (pages quantum : ℕ) (file : List ℕ) (unix : Unix) (found : Result ℕ Errno) → made (empty_machine pages quantum) init_spot (File file) ≡ found
    → (found >>= (λ inode. Ok (with_made (empty_machine pages quantum) init_spot inode (File file)))) ≡ Ok unix
    → (inode : ℕ) × (2 ≤ inode) × (unix ≡ with_made (empty_machine pages quantum) init_spot inode (File file))
unfolding empty_machine
made_or pages quantum file unix (Ok inode) e same =
    (inode, free_inode-above first_inodes inode (made-is_free (empty_machine pages quantum) init_spot (File file) inode e), cc)
made_or pages quantum file unix (Err errno) e same = cc

pub init-made : (pages quantum : ℕ) (file : List ℕ) (unix : Unix) → with_entry_at (empty_machine pages quantum) init_spot (NewFile file) ≡ Ok unix
    → (inode : ℕ) × (2 ≤ inode) × (unix ≡ with_made (empty_machine pages quantum) init_spot inode (File file))
unfolding init_spot
init-made pages quantum file unix e = made_or pages quantum file unix (made (empty_machine pages quantum) init_spot (File file)) refl e

-- the root of the empty machine
first_root : at first_inodes 1 ≡ Some (Directory 1 [])
unfolding first_inodes
first_root = at-with_at (with_at nothing 0 (Some Console)) 1 (Some (Directory 1 []))

-- the file in it
found_in : (pages quantum : ℕ) (file : List ℕ) (inode : ℕ) → 2 ≤ inode → file_at (with_made (empty_machine pages quantum) init_spot inode (File file)).files init_path ≡ Some file
unfolding empty_machine init_spot
found_in pages quantum file inode above =
    let Inodes : Type 0 = ℕ → Option Inode in
    let entry : Entry = record { name = codes "init"; inode = inode } in
    let filed : Inodes = with_at first_inodes inode (Some (File file)) in
    let other : 1 ≢ inode = omega arith in
    let apart : inode ≢ 1 = omega arith in
    let root_stays : at filed 1 ≡ Some (Directory 1 []) = at-with_at-other first_inodes inode 1 (Some (File file)) other ∙ first_root in
    let directory : Option Inode = Some (Directory (parent_of (at filed 1)) (with_entry (places_of (at filed 1)) entry)) in
    let root : at (with_at filed 1 directory) 1 ≡ Some (Directory 1 (Some entry ∷ [])) =
    at-with_at filed 1 directory ∙ ap (λ found. Some (Directory (parent_of found) (with_entry (places_of found) entry))) root_stays in
    let there : at (with_at filed 1 directory) inode ≡ Some (File file) = at-with_at-other filed 1 inode directory apart ∙ at-with_at first_inodes inode (Some (File file)) in
    file-found (record { inodes = with_at filed 1 directory; descriptions = nothing }) inode file root there

pub init-found : (pages quantum : ℕ) (file : List ℕ) (unix : Unix) → with_entry_at (empty_machine pages quantum) init_spot (NewFile file) ≡ Ok unix → file_at unix.files init_path ≡ Some file
init-found pages quantum file unix e =
    let there = init-made pages quantum file unix e in
    ap (λ (state : Unix). file_at state.files init_path) there.2 ∙ found_in pages quantum file there.0 there.1

-- ---- the program is loaded

pub loaded-bad : (unix : Unix) (file : List ℕ) (fault : ElfFault) → file_at unix.files init_path ≡ Some file → plan_of file ≡ Err fault
    → with_init unix ≡ Err (BadProgram fault)
unfolding with_init
loaded-bad unix file fault there bad = rw (there, bad) refl

pub loaded-crowded : (unix : Unix) (file : List ℕ) (plan : LoadPlan) → file_at unix.files init_path ≡ Some file → plan_of file ≡ Ok plan
    → has_room (started unix file plan) ≡ false → with_init unix ≡ Err NoRoomToStart
unfolding with_init
loaded-crowded unix file plan there good crowded = rw (there, good, crowded) refl

pub loaded-there : (unix : Unix) (file : List ℕ) (plan : LoadPlan) → file_at unix.files init_path ≡ Some file → plan_of file ≡ Ok plan
    → has_room (started unix file plan) ≡ true → with_init unix ≡ Ok (started unix file plan)
unfolding with_init
loaded-there unix file plan there good room = rw (there, good, room) refl
