-- A boot, step by step.
use Rattle.std.proofs.Common.{◌≡◌, ℕ, List, [], ◌∷◌, Option, Some, None, Ok, Err, Result, Bool, true, false, refl, sym, ap, subst, ◌∙◌, ◌++◌, inl, inr}
use Rattle.std.proofs.lemmas.Bool.{eqb-true, lt-ltb}
use Rattle.std.specs.Option.{option_to_list}
use Rattle.flat_unix.specs.declared.flat.Flat.{Flat}
use Rattle.flat_unix.specs.FlatView.{unix_of}
use Rattle.std.specs.Prelude.{length, not, ◌<◌}
use Rattle.flat_boot.specs.NewPaths.{ends_new, is_new_path}
use Rattle.flat_unix.specs.Boots.{Starts, IsStoreFault}
use Rattle.flat_unix.specs.declared.flat.FlatFault.{FlatFault}
use Rattle.flat_unix.specs.declared.flat.FlatFault.TheVariants.{ReadFault, WriteFault, NoMemory, NoRoom, Elf}
use Rattle.unix_model.specs.declared.calls.Errno.{Errno}
use Rattle.unix_model.specs.Boot as model
use Rattle.unix_model.specs.Boot.{stop◌where_not◌}
use Rattle.unix_model.specs.Limits.{most_file_bytes}
use Rattle.unix_model.specs.Paths.{file_at, inode_at, is_dots, walked, walked_in}
use Rattle.unix_model.specs.Tables.{at, with_at}
use Rattle.unix_model.specs.Refusals.{◌>>◌, ◌>>=◌}
use Rattle.unix_model.specs.State.{Unix}
use Rattle.command_line.specs.Words.{Setup}
use Rattle.unix_model.proofs.BootLaws.{booted-long, init-found, init-walked, init_spot}
use Rattle.keynix.specs.declared.ending.Ending.{Ending}
use Rattle.keynix.specs.declared.ending.Ending.TheVariants as ending
use Rattle.flat_bundle.specs.Booting as booting
use Rattle.flat_bundle.specs.Booting.{Booted, OneOutcome, Refusal}
use Rattle.flat_bundle.specs.Steps as steps
use Rattle.flat_bundle.specs.declared.fault.BootFault.{BootFault}
use Rattle.flat_bundle.specs.declared.fault.BootFault.TheVariants as fault
use Rattle.bundle.specs.Bundles.{bundle_of}
use Rattle.kn_io.specs.Source.{Gives}
use Rattle.kn_io.proofs.Taking.{takes-told}
use Rattle.keynix.specs.declared.ending.Refusal.TheVariants as refusal
use Rattle.keynix.specs.Inputs.{BootsAs, IsBoot, IsBootWhere, Reads, boot_ending, refusal_of, with_file}
use Rattle.keynix.specs.Endings.{EndsOn, IsSpent, PutsPart, RunsOn, RunsWhole, fault_ending, run_ending, run_of}
use Rattle.keynix.specs.Runs.{RunsAs}
use Rattle.unix_model.specs.Machine.{Stop, Halted, Idle, PlanDone, Going}
use Rattle.flat_unix.specs.Turns.{IsTurnFault}
use Rattle.unix_model.specs.Schedule.{Schedule}

module _ (setup : Setup) where
  -- the machine before anything is stored
  abbrev empty : Unix
  empty = model.empty_machine setup.pages setup.quantum

  -- an ELF file is booted as one file
  file-boot : (bytes : List ℕ) (loaded : Result Unix model.BootRefusal) → model.is_elf bytes ≡ true → model.booted_file setup.pages setup.quantum bytes ≡ loaded → IsBoot setup bytes (with_file loaded)
  unfolding IsBoot
  file-boot bytes loaded elf is = subst (λ elf. IsBootWhere elf setup bytes (with_file loaded)) (sym elf) (ap with_file is)

  -- and every other input as a bundle
  text-boot : (bytes : List ℕ) (found : Result Booted Refusal) → model.is_elf bytes ≡ false → booting.BootsText setup.pages setup.quantum bytes found → IsBoot setup bytes found
  unfolding IsBoot
  text-boot bytes found other boots = subst (λ elf. IsBootWhere elf setup bytes found) (sym other) boots

  -- an input boots in one way
  pub one-boot : OneOutcome → (bytes : List ℕ) (first second : Result Booted Refusal) → IsBoot setup bytes first → IsBoot setup bytes second → first ≡ second
  unfolding IsBoot
  one-boot one bytes first second boots again = by (model.is_elf bytes) boots again
    where
      by : (elf : Bool) → IsBootWhere elf setup bytes first → IsBootWhere elf setup bytes second → first ≡ second
      by true boots again = sym boots ∙ again
      by false boots again = one empty (bundle_of bytes) first second boots again

  -- a bundle was booted
  pub text-boots : (bytes : List ℕ) (left : Option (List ℕ)) (flat : Flat) → model.is_elf bytes ≡ false → steps.BootsAs setup.pages setup.quantum bytes left (Ok flat) → BootsAs setup bytes left (Ok flat)
  text-boots bytes left flat other boots = (boots.0, boots.1, text-boot bytes (Ok (record { unix = unix_of flat; input = boots.0 })) other boots.2)

  -- or wasn't
  pub text-fails : (bytes : List ℕ) (left : Option (List ℕ)) (failed : BootFault) → model.is_elf bytes ≡ false → steps.BootsAs setup.pages setup.quantum bytes left (Err failed) → BootsAs setup bytes left (Err (boot_ending failed))
  text-fails bytes left (fault.At kind line) other boots = text-boot bytes (Err (booting.At kind line)) other boots
  text-fails bytes left (fault.NoRoom line) other boots = text-boot bytes (Err (booting.NoRoom line)) other boots
  text-fails bytes left (fault.Elf bad) other boots = text-boot bytes (Err (booting.BadProgram bad)) other boots
  text-fails bytes left fault.ReadFault other boots = tt
  text-fails bytes left fault.NoMemory other boots = tt

  -- a file that has more bytes than one may have
  too_long : (bytes : List ℕ) → model.is_elf bytes ≡ true → 4194304 < length bytes → IsBoot setup bytes (Err (booting.NoRoom 0))
  unfolding most_file_bytes
  too_long bytes elf long = file-boot bytes (Err (model.NoRoomFor 0)) elf (booted-long setup.pages setup.quantum bytes (lt-ltb 4194304 (length bytes) long))

  -- a file wasn't read to its end
  pub unread-boots : (bytes : List ℕ) (left : Option (List ℕ)) (ending : Ending) → model.is_elf bytes ≡ true → Reads bytes left (Err ending) → BootsAs setup bytes left (Err ending)
  unread-boots bytes left (ending.Refused (refusal.NoRoom line)) elf long = subst (λ line. IsBoot setup bytes (Err (booting.NoRoom line))) (sym long.0) (too_long bytes elf long.1)
  unread-boots bytes left (ending.Refused (refusal.At kind line)) elf never = absurd never
  unread-boots bytes left (ending.Refused (refusal.Elf bad)) elf never = absurd never
  unread-boots bytes left ending.ReadFault elf failed = tt
  unread-boots bytes left ending.NoMemory elf failed = tt
  unread-boots bytes left ending.WriteFault elf never = never
  unread-boots bytes left (ending.Halted word) elf never = never
  unread-boots bytes left (ending.TurnsSpent made) elf never = never
  unread-boots bytes left (ending.Idle made) elf never = never
  unread-boots bytes left ending.Done elf never = never
  unread-boots bytes left ending.Usage elf never = never
  unread-boots bytes left (ending.NotAssembled kind line) elf never = never
  unread-boots bytes left (ending.BadPlan line) elf never = never

  -- the machine with the file stored, or why it isn't
  abbrev stored : List ℕ → Result Unix model.BootRefusal
  stored file = model.with_boot_entries 0 empty (model.init_entry file ∷ [])

  -- nothing stands at `/init` before
  ends-new : ends_new (walked empty.files model.init_path) ≡ true
  unfolding walked walked_in model.empty_machine model.first_inodes at with_at is_dots inode_at
  ends-new = refl

  pub init-new : (unix : Unix) → unix ≡ empty → is_new_path unix.files model.init_path ≡ true
  unfolding is_new_path
  init-new unix is = ap (λ (unix : Unix). ends_new (walked unix.files model.init_path)) is ∙ ends-new

  -- the file was stored by the one entry
  entry-made : (file : List ℕ) → model.with_boot_entry empty (model.init_entry file) ≡ model.with_entry_at empty init_spot (model.NewFile file)
  unfolding model.with_boot_entry
  entry-made file = rw (init-walked setup.pages setup.quantum) refl

  by_entry : (found : Result Unix Errno) (long : Bool) (after : Unix) → ((stop (model.NoRoomFor 0) where_not not long) >> (model.or_no_room 0 found >>= (λ next. Ok next))) ≡ Ok after → found ≡ Ok after
  by_entry found true after e = cc
  by_entry (Err errno) false after e = cc
  by_entry (Ok unix) false after e = let same : unix ≡ after = cc in ap (λ (unix : Unix). Ok unix) same

  -- and is there
  pub boot-named : (file : List ℕ) (after : Unix) → stored file ≡ Ok after → file_at after.files model.init_path ≡ Some file
  unfolding model.with_boot_entries
  boot-named file after e =
      init-found setup.pages setup.quantum file after
      (sym (entry-made file) ∙ by_entry (model.with_boot_entry empty (model.init_entry file)) (model.is_too_long (model.NewFile file)) after e)

  pub boot-stored : (file : List ℕ) (after : Unix) → stored file ≡ Ok after → model.booted_file setup.pages setup.quantum file ≡ model.with_init after
  unfolding model.booted_file model.booted
  boot-stored file after e = rw e refl

  -- there was no room for it
  boot-no_room : (file : List ℕ) → stored file ≡ Err (model.NoRoomFor 0) → model.booted_file setup.pages setup.quantum file ≡ Err (model.NoRoomFor 0)
  unfolding model.booted_file model.booted
  boot-no_room file e = rw e refl

  -- why it wasn't stored
  pub store-fails : (file : List ℕ) → model.is_elf file ≡ true → (failed : FlatFault) → IsStoreFault failed → (failed ≡ NoRoom → stored file ≡ Err (model.NoRoomFor 0))
      → BootsAs setup file (Some []) (Err (fault_ending failed))
  store-fails file elf NoRoom cause full = file-boot file (Err (model.NoRoomFor 0)) elf (boot-no_room file (full refl))
  store-fails file elf NoMemory cause full = tt
  store-fails file elf ReadFault cause full = absurd cause
  store-fails file elf WriteFault cause full = absurd cause
  store-fails file elf (Elf bad) cause full = absurd cause

  -- it was started
  pub start-boots : (file : List ℕ) (flat : Flat) → model.is_elf file ≡ true → (after : Unix) → stored file ≡ Ok after → model.with_init after ≡ Ok (unix_of flat) → BootsAs setup file (Some []) (Ok flat)
  start-boots file flat elf after e starts = ([], refl, file-boot file (Ok (unix_of flat)) elf (boot-stored file after e ∙ starts))

  -- why it wasn't started
  pub start-fails : (file : List ℕ) → model.is_elf file ≡ true → (after old new : Unix) → stored file ≡ Ok after → (failed : FlatFault) → Starts (model.with_init after) old new (Err failed) → BootsAs setup file (Some []) (Err (fault_ending failed))
  start-fails file elf after old new e NoRoom starts = file-boot file (Err model.NoRoomToStart) elf (boot-stored file after e ∙ starts.0)
  start-fails file elf after old new e (Elf bad) starts = file-boot file (Err (model.BadProgram bad)) elf (boot-stored file after e ∙ starts.0)
  start-fails file elf after old new e NoMemory starts = tt
  start-fails file elf after old new e ReadFault starts = absurd starts
  start-fails file elf after old new e WriteFault starts = absurd starts

-- ---- the first byte

-- what was told begins with it, where it is one, and the rest is still told
pub record BeginsWith (bytes : List ℕ) (first : Option ℕ) (left : Option (List ℕ)) : Type 0 where
  pub rest : List ℕ
  pub bytes_are : bytes ≡ option_to_list first ++ rest
  pub left_is : left ≡ Some rest
  pub elf_is : model.is_elf bytes ≡ model.is_elf (option_to_list first)

pub begins : (old new : Option (List ℕ)) (first : Option ℕ) (bytes : List ℕ) → Gives old (Ok first) new → old ≡ Some bytes → BeginsWith bytes first new
begins old new (Some byte) bytes gives told =
    let taken = takes-told old new (byte ∷ []) bytes gives told in
    record { rest = taken.0; bytes_are = taken.1; left_is = taken.2; elf_is = ap model.is_elf taken.1 }
begins old new None bytes gives told =
    record { rest = bytes; bytes_are = refl; left_is = gives.0 ∙ told; elf_is = ap model.is_elf (gives.1 bytes told) }

-- a file begins with 7F
pub elf-first : (first : Option ℕ) (rest bytes : List ℕ) → model.is_elf (option_to_list first) ≡ true → bytes ≡ option_to_list first ++ rest → bytes ≡ 127 ∷ rest
elf-first (Some byte) rest bytes elf are = are ∙ ap (λ byte. byte ∷ rest) (eqb-true byte 127 elf)
elf-first None rest bytes elf are = cc

-- ---- the ending

module _ {S K : Type 0} (setup : Setup) (schedule : Schedule) (left : S → Option (List ℕ)) (grew : K → List ℕ → K → Type 0) (source : S) (old : K) where
  -- the input wasn't booted
  pub unbooted-ends : (bytes : List ℕ) (after : Option (List ℕ)) (ending : Ending) → BootsAs setup bytes after (Err ending) → EndsOn setup schedule bytes left grew source old old ending
  unbooted-ends bytes after (ending.Refused told) boots = inl (Err (refusal_of told), boots, (refl, refl))
  unbooted-ends bytes after ending.ReadFault boots = inr (tt, refl)
  unbooted-ends bytes after ending.NoMemory boots = inr (tt, refl)
  unbooted-ends bytes after ending.WriteFault never = absurd never
  unbooted-ends bytes after (ending.Halted word) never = absurd never
  unbooted-ends bytes after (ending.TurnsSpent made) never = absurd never
  unbooted-ends bytes after (ending.Idle made) never = absurd never
  unbooted-ends bytes after ending.Done never = absurd never
  unbooted-ends bytes after ending.Usage never = absurd never
  unbooted-ends bytes after (ending.NotAssembled kind line) never = absurd never
  unbooted-ends bytes after (ending.BadPlan line) never = absurd never

module _ {S K : Type 0} (left : S → Option (List ℕ)) (grew : K → List ℕ → K → Type 0) (source : S) (old new : K) where
  -- a run ends so
  pub ran-ends : (turns : ℕ) (schedule later : Schedule) (start : Booted) (unix : Unix) (made : ℕ) (why : Stop) → RunsAs (run_of turns schedule start) start.input left grew unix later made why source old new
      → RunsOn (run_of turns schedule start) start.input left grew source old new (run_ending why made)
  ran-ends turns schedule later start unix made why runs = by why runs.stop_is
    where
      whole : RunsWhole (run_of turns schedule start) start.input left grew source old new
      whole = record { output_grew = runs.output_grew; input_left = runs.input_left; input_split = runs.input_split }

      by : (why : Stop) → why ≡ (run_of turns schedule start).stop → RunsOn (run_of turns schedule start) start.input left grew source old new (run_ending why made)
      by (Halted word) is = (whole, sym is)
      by Idle is = (whole, sym is, sym runs.turns_are)
      by PlanDone is = (whole, subst IsSpent is tt, sym runs.turns_are)
      by Going is = (whole, subst IsSpent is tt, sym runs.turns_are)

  -- a run that failed ends so
  pub fault-ends : (turns : ℕ) (schedule : Schedule) (start : Booted) (read write : Type 0) (failed : FlatFault) → IsTurnFault read write failed → PutsPart (run_of turns schedule start) grew old new
      → RunsOn (run_of turns schedule start) start.input left grew source old new (fault_ending failed)
  fault-ends turns schedule start read write ReadFault cause part = part
  fault-ends turns schedule start read write WriteFault cause part = part
  fault-ends turns schedule start read write NoMemory cause part = part
  fault-ends turns schedule start read write NoRoom cause part = cause
  fault-ends turns schedule start read write (Elf fault) cause part = cause
