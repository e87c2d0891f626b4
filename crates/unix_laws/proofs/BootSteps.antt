-- What boot does to the state: entries are made, one after the other, and then `/init` is loaded.
use Rattle.std.proofs.Common.{◌≡◌, ℕ, ◌+◌, Bool, true, false, List, [], ◌∷◌, Option, Some, None, Result, Ok, Err, refl}
use Rattle.std.proofs.lemmas.List.Elements.{All-head, All-tail}
use Rattle.std.specs.Prelude.{All, is_some, not}
use Rattle.unix_model.specs.declared.calls.Errno.{Errno}
use Rattle.unix_model.specs.declared.calls.Errno.TheVariants.{Eexist}
use Rattle.unix_model.specs.declared.elf.ElfFault.{ElfFault}
use Rattle.unix_model.specs.Boot.{BootEntry, BootRefusal, Node, NoRoomFor, NoRoomToStart, booted, empty_machine, init_path, is_too_long, node_inode, or_bad_program, or_no_program, or_no_room, started, stop◌where_not◌, with_boot_entries, with_boot_entry, with_entry_at, with_init}
use Rattle.unix_model.specs.Elf.{LoadPlan, plan_of}
use Rattle.unix_model.specs.NameCalls.{made, with_made}
use Rattle.unix_model.specs.Paths.{Spot, file_at, walked}
use Rattle.unix_model.specs.Refusals.{◌>>◌}
use Rattle.unix_model.specs.Room.{has_room}
use Rattle.unix_model.specs.State.{Unix}
use Rattle.unix_laws.proofs.Changes.{Making, making-of}
use Rattle.unix_laws.proofs.Lines.{Tells, tells-nothing, tells-of, through, bars}

-- a test of boot
stops : {B : Type 0} (Q : Result B BootRefusal → Type 0) (refused : (e : BootRefusal) → Q (Err e)) (refusal : BootRefusal) (test : Bool) (rest : Result B BootRefusal)
    → (test ≡ true → Q rest) → Q ((stop refusal where_not test) >> rest)
stops Q refused refusal true rest holds = holds refl
stops Q refused refusal false rest holds = refused refusal

no-room-tells : (P : Unix → Type 0) (number : ℕ) (step : Result Unix Errno) → Tells P step → Tells P (or_no_room number step)
no-room-tells P number (Ok unix) holds = holds
no-room-tells P number (Err errno) holds = tt

not-true : (test : Bool) → not test ≡ true → test ≡ false
not-true true e = cc
not-true false e = refl

is-plan : (step : Result LoadPlan ElfFault) (plan : LoadPlan) → or_bad_program step ≡ Ok plan → step ≡ Ok plan
is-plan (Ok given) plan e = cc
is-plan (Err fault) plan e = cc

-- what a property has to keep: each entry that is made, of those that are such
abbrev pub KeepsSuch : (BootEntry → Type 0) → (Unix → Type 0) → Type 0
KeepsSuch IsSuch P =
    (unix : Unix) (path : List ℕ) (spot : Spot) (node : Node) (number : ℕ) → IsSuch (record { path = path; node = node }) → P unix → is_too_long node ≡ false → walked unix.files path ≡ Ok spot
    → is_some spot.inode ≡ false → Making unix spot (node_inode spot.directory node) number → P (with_made unix spot number (node_inode spot.directory node))

-- and of all
abbrev pub KeepsEntries : (Unix → Type 0) → Type 0
KeepsEntries P =
    (unix : Unix) (path : List ℕ) (spot : Spot) (node : Node) (number : ℕ) → P unix → is_too_long node ≡ false → walked unix.files path ≡ Ok spot → is_some spot.inode ≡ false
    → Making unix spot (node_inode spot.directory node) number → P (with_made unix spot number (node_inode spot.directory node))

-- what holds where `/init` is loaded
abbrev pub Starts : (Unix → Type 0) → (Unix → Type 0) → Type 0
Starts P R =
    (unix : Unix) (file : List ℕ) (plan : LoadPlan) → P unix → file_at unix.files init_path ≡ Some file → plan_of file ≡ Ok plan → has_room (started unix file plan) ≡ true → R (started unix file plan)

found-file : (found : Option (List ℕ)) (file : List ℕ) → or_no_program found ≡ Ok file → found ≡ Some file
found-file (Some given) file e = cc
found-file None file e = cc

module _ (IsSuch : BootEntry → Type 0) (P : Unix → Type 0) (keeps : KeepsSuch IsSuch P) where
  entry-tells : (unix : Unix) (entry : BootEntry) → IsSuch entry → P unix → is_too_long entry.node ≡ false → Tells P (with_boot_entry unix entry)
  unfolding with_boot_entry
  entry-tells unix entry such holds short =
      through (Tells P) (tells-nothing P) (walked unix.files entry.path) (λ spot. with_entry_at unix spot entry.node) (λ spot walk.
      bars (Tells P) (tells-nothing P) Eexist (is_some spot.inode) _ (λ new.
      through (Tells P) (tells-nothing P) (made unix spot (node_inode spot.directory entry.node)) _ (λ number e.
      keeps unix entry.path spot entry.node number such holds short walk new (making-of unix spot (node_inode spot.directory entry.node) number e))))

  pub entries-tell : (number : ℕ) (unix : Unix) (entries : List BootEntry) → All IsSuch entries → P unix → Tells P (with_boot_entries number unix entries)
  unfolding with_boot_entries
  entries-tell number unix [] such holds = holds
  entries-tell number unix (entry ∷ entries) such holds =
      stops (Tells P) (tells-nothing P) (NoRoomFor number) (not (is_too_long entry.node)) _ (λ short.
      through (Tells P) (tells-nothing P) (or_no_room number (with_boot_entry unix entry)) (λ next. with_boot_entries (number + 1) next entries) (λ next e.
      entries-tell (number + 1) next entries (All-tail IsSuch entry entries such)
      (tells-of P (or_no_room number (with_boot_entry unix entry)) next
      (no-room-tells P number (with_boot_entry unix entry) (entry-tells unix entry (All-head IsSuch entry entries such) holds (not-true (is_too_long entry.node) short))) e)))

  pub init-tells : (R : Unix → Type 0) → Starts P R → (unix : Unix) → P unix → Tells R (with_init unix)
  unfolding with_init
  init-tells R starts unix holds =
      through (Tells R) (tells-nothing R) (or_no_program (file_at unix.files init_path)) _ (λ file found.
      through (Tells R) (tells-nothing R) (or_bad_program (plan_of file)) _ (λ plan planned.
      stops (Tells R) (tells-nothing R) NoRoomToStart (has_room (started unix file plan)) _ (λ room.
      starts unix file plan holds (found-file (file_at unix.files init_path) file found) (is-plan (plan_of file) plan planned) room)))

  -- what holds of the machine before anything is stored, and is kept by each such entry, holds where `/init` is loaded
  pub after-such : (R : Unix → Type 0) → Starts P R → (pages quantum : ℕ) (entries : List BootEntry) (unix : Unix) → All IsSuch entries → P (empty_machine pages quantum) → booted pages quantum entries ≡ Ok unix → R unix
  unfolding booted
  after-such R starts pages quantum entries unix such holds e =
      tells-of R (booted pages quantum entries) unix
      (through (Tells R) (tells-nothing R) (with_boot_entries 0 (empty_machine pages quantum) entries) with_init (λ stored given.
      init-tells R starts stored (tells-of P (with_boot_entries 0 (empty_machine pages quantum) entries) stored (entries-tell 0 (empty_machine pages quantum) entries such holds) given))) e

-- the same over all entries
pub after-boot : (P : Unix → Type 0) → KeepsEntries P → (R : Unix → Type 0) → ((unix : Unix) (file : List ℕ) (plan : LoadPlan) → P unix → plan_of file ≡ Ok plan → has_room (started unix file plan) ≡ true → R (started unix file plan))
    → (pages quantum : ℕ) (entries : List BootEntry) (unix : Unix) → P (empty_machine pages quantum) → booted pages quantum entries ≡ Ok unix → R unix
after-boot P keeps R starts pages quantum entries unix holds e =
    after-such (λ entry. Unit {0}) P (λ state path spot node number such. keeps state path spot node number) R (λ state file plan now found. starts state file plan now) pages quantum entries unix (λ k d below. tt) holds e
