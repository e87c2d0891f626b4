-- What is told of a name that is added, by the tests that were made.
use Rattle.std.proofs.Common.{◌≡◌, ◌≢◌, ℕ, ◌+◌, ◌*◌, ◌/◌, ◌^◌, ◌<◌, ◌≤◌, Bool, true, false, ◌&&◌, Option, Some, None, List, [], ◌∷◌, length, set, length-append, refl, ap, sym, subst, ◌∙◌, arith, ⊎_elim}
use Rattle.std.specs.Option.{is_some}
use Rattle.std.specs.Prelude.{nat_le, Result, Ok, Err}
use Rattle.std.specs.List.{list_all}
use Rattle.std.proofs.lemmas.Bool.{cases_eq, le-leb, lt-leb}
use Rattle.std.proofs.lemmas.List.{length-set}
use Rattle.kernel_tables.specs.declared.inode.Inode.{Inode}
use Rattle.kernel_tables.specs.Kernel.{Kernel}
use Rattle.unix_model.specs.declared.calls.Errno.{Errno}
use Rattle.unix_model.specs.declared.calls.Errno.TheVariants.{Enospc}
use Rattle.unix_model.specs.FileCalls.{entry_bytes}
use Rattle.unix_model.specs.Files.{Entry, Files, inode_named, is_directory, is_full, places_of, with_entry, with_name}
use Rattle.unix_model.specs.Limits.{most_places}
use Rattle.unix_model.specs.Numbers.{pages_of}
use Rattle.unix_model.specs.Room.{promised}
use Rattle.unix_model.specs.Rules.{IsName}
use Rattle.unix_model.specs.State.{Unix, with_files}
use Rattle.unix_model.specs.Tables.{at, least_below}
use Rattle.kernel_machine.specs.Contents.{place_in, places_in}
use Rattle.kernel_machine.specs.Machine.{machine_of}
use Rattle.kernel_machine.specs.View.{view}
use Rattle.kernel_machine.proofs.PagesHeld.{places-long}
use Rattle.file_trees.specs.Good.{FilesGood}
use Rattle.dir_domain.specs.Changes.{AddsName, Appends, ChangesPlaces, entry_of, more_pages}
use Rattle.dir_domain.specs.Places.{has_name, is_hole}
use Rattle.dir_domain.specs.Rows.{IsDirectoryRow, places_seen, inode_seen, bytes_stored}
use Rattle.dir_domain.proofs.Adding.{no-place, no-room, added, promised-with}
use Rattle.dir_domain.proofs.FirstHoles.{HasNoHole, first-hole, no-hole}
use Rattle.dir_domain.proofs.FoundPlaces.{none-named}
use Rattle.dir_domain.proofs.Keeping.{good-now, good-same}
use Rattle.dir_domain.proofs.Names.{entry-place}
use Rattle.dir_domain.proofs.Seen.{places-are}

and-false : (b : Bool) → (b && false) ≡ false
and-false true = refl
and-false false = refl

not-full : (files : Files) (dir : ℕ) → list_all is_some (places_of (at files.inodes dir)) ≡ false → is_full files dir ≡ false
not-full files dir e = ap (λ b. nat_le most_places (length (places_of (at files.inodes dir))) && b) e ∙ and-false (nat_le most_places (length (places_of (at files.inodes dir))))

has-more : (files : Files) (dir : ℕ) → length (places_of (at files.inodes dir)) < 1024 → is_full files dir ≡ false
unfolding most_places
has-more files dir few = rw (lt-leb 1024 (length (places_of (at files.inodes dir))) few) refl

all-used : (files : Files) (dir : ℕ) → 1024 ≤ length (places_of (at files.inodes dir)) → list_all is_some (places_of (at files.inodes dir)) ≡ true → is_full files dir ≡ true
unfolding most_places
all-used files dir many all = rw (le-leb 1024 (length (places_of (at files.inodes dir))) many, all) refl

module _ (old : Kernel) (dir inode : ℕ) (row : Inode) (name : List ℕ) (good : FilesGood old) (is : IsDirectoryRow old dir row) (directory : is_directory (inode_seen old dir) ≡ true)
    (right : IsName name) (small : inode < 2 ^ 32) (absent : None ≡ least_below (has_name name (bytes_stored old row)) (row.length / 32)) where
  abbrev before : Unix
  before = view (machine_of old)

  abbrev places : List (Option Entry)
  places = places_seen old dir

  abbrev entry : Entry
  entry = entry_of name inode

  abbrev after : List (Option Entry)
  after = with_entry places entry

  seen : places ≡ places_in (bytes_stored old row) (row.length / 32)
  seen = places-are old dir row is

  spelled : (bytes : List ℕ) → bytes ≡ entry_bytes entry → place_in bytes ≡ Some entry
  spelled bytes e = ap place_in e ∙ entry-place name inode right.some_bytes right.few_bytes small

  count : length places ≡ row.length / 32
  count = ap length seen ∙ places-long (bytes_stored old row) (row.length / 32)

  none-there : is_some (inode_named (places_of (at before.files.inodes dir)) name) ≡ false
  unfolding view
  none-there = ap (λ found. is_some (inode_named found name)) seen ∙ ap is_some (none-named (bytes_stored old row) name (row.length / 32) absent).absent

  size-is : before.pages ≡ old.size
  unfolding view machine_of
  size-is = good.standing.bank.words.same_size

  promised-then : promised (with_files before (with_name before.files dir name inode)) + pages_of (32 * length places) ≡ promised before + pages_of (32 * length after)
  unfolding view
  promised-then = promised-with before dir after is.below directory

  -- ---- in a hole

  filled-tells : (new : Kernel) → list_all is_some places ≡ false → length after ≡ length places → ChangesPlaces old new dir after → new.machine.promised ≡ old.machine.promised
      → AddsName old new dir name inode (Ok tt) × FilesGood new
  unfolding view
  filled-tells new some same changes kept =
      let then = promised-then in
      let fits = good.standing.bank.words.promises in
      let promises = good.promises in
      let pages = size-is in
      let equal : promised (with_files before (with_name before.files dir name inode)) ≡ old.machine.promised = omega (arith, ap (λ n. pages_of (32 * n)) same) in (
        (added before (view (machine_of new)) dir name inode none-there (not-full before.files dir some) (le-leb _ _ (omega arith)) changes.view, changes),
        good-same old new dir after good is.below changes directory same kept,
      )

  pub name-filled : (new : Kernel) (number : ℕ) (bytes : List ℕ) → bytes ≡ entry_bytes entry → Some number ≡ least_below (is_hole (bytes_stored old row)) (row.length / 32)
      → ChangesPlaces old new dir (set (places_in (bytes_stored old row) (row.length / 32)) number (place_in bytes)) → new.machine.promised ≡ old.machine.promised
      → AddsName old new dir name inode (Ok tt) × FilesGood new
  name-filled new number bytes e least changes kept =
      let hole = first-hole (bytes_stored old row) (row.length / 32) number least in
      let placed = ap (λ place. set (places_in (bytes_stored old row) (row.length / 32)) number place) (spelled bytes e) ∙ sym (hole.filled entry) ∙ ap (λ found. with_entry found entry) (sym seen) in
      filled-tells new (ap (list_all is_some) seen ∙ hole.some)
      (ap (λ found. length (with_entry found entry)) seen ∙ ap length (hole.filled entry) ∙ length-set (places_in (bytes_stored old row) (row.length / 32)) number (Some entry) ∙ ap length (sym seen))
      (subst (ChangesPlaces old new dir) placed changes) kept

  -- ---- at the end

  sizes : 32 * length places ≡ row.length
  sizes = let exact = is.whole in let c = count in omega arith

  sizes-then : HasNoHole places → 32 * length after ≡ row.length + 32
  sizes-then holes = let c = sizes in let more = ap length (holes.ends entry) ∙ length-append places (Some entry ∷ []) in omega arith

  -- what is promised with a place more
  promised-more : HasNoHole places → promised (with_files before (with_name before.files dir name inode)) ≡ old.machine.promised + more_pages row.length
  promised-more holes =
      let then = promised-then in
      let promises = good.promises in
      let a = ap pages_of sizes in
      let b = ap pages_of (sizes-then holes) in
      let order : pages_of row.length ≤ pages_of (row.length + 32) = omega arith in
      omega arith

  full-told : (new : Kernel) → HasNoHole places → row.length ≡ 32768 → new ≡ old → AddsName old new dir name inode (Err Enospc)
  unfolding view
  full-told new holes all same = (no-place before dir name inode none-there (all-used before.files dir (let c = sizes in omega arith) holes.all), same)

  appended-tells : (new : Kernel) (result : Result (Unit {0}) Errno) → HasNoHole places → Appends old new dir row (Some entry) result → AddsName old new dir name inode result × FilesGood new
  unfolding view
  appended-tells new (Ok done) holes appends =
      let more = promised-more holes in
      let pages = size-is in
      let fits = appends.1 in
      let low = appends.0 in
      let changes : ChangesPlaces old new dir after = subst (ChangesPlaces old new dir) (sym (holes.ends entry)) appends.3 in (
        (added before (view (machine_of new)) dir name inode none-there (has-more before.files dir (let c = sizes in omega arith)) (le-leb _ _ (omega arith)) changes.view, changes),
        good-now old new dir after good is.below changes (appends.2 ∙ sym more ∙ ap promised (sym changes.view)),
      )
  appended-tells new (Err errno) holes appends =
      let same = appends.2 in (
        subst (λ e. AddsName old new dir name inode (Err e)) (sym appends.0)
            (⊎_elim
            (λ (all : row.length ≡ 32768). full-told new holes all same)
            (λ (some : row.length ≢ 32768). ⊎_elim
            (λ (all : row.length ≡ 32768). full-told new holes all same)
            (λ (short : old.size < old.machine.promised + more_pages row.length).
            let few = is.few in
            let more = promised-more holes in
            let pages = size-is in
            (no-room before dir name inode none-there (has-more before.files dir (let c = sizes in omega arith)) (lt-leb _ _ (omega arith)), same))
            appends.1)
            (cases_eq row.length 32768)),
        subst FilesGood (sym same) good,
      )

  pub name-appended : (new : Kernel) (result : Result (Unit {0}) Errno) (bytes : List ℕ) → bytes ≡ entry_bytes entry → None ≡ least_below (is_hole (bytes_stored old row)) (row.length / 32)
      → Appends old new dir row (place_in bytes) result → AddsName old new dir name inode result × FilesGood new
  name-appended new result bytes e least appends =
      appended-tells new result (subst HasNoHole (sym seen) (no-hole (bytes_stored old row) (row.length / 32) least))
      (subst (λ place. Appends old new dir row place result) (spelled bytes e) appends)
