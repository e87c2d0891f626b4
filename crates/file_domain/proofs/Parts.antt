-- A part of a write in the words of the definitions: within the length, or where the file gets longer first.
use Rattle.std.proofs.Common.{◌≡◌, ℕ, ◌+◌, ◌-◌, ◌<◌, ◌≤◌, nat_le, ◌==◌, Bool, true, false, Some, List, length, length-take, take, Result, Ok, Err, refl, ap, sym, subst, ◌∙◌, arith}
use Rattle.std.proofs.lemmas.Bool.{le-leb, lt-leb, ne_eqb, eq-eqb, eqb-true, eqb-false}
use Rattle.kn_base.specs.Rows.{overwritten as put_over}
use Rattle.kernel_tables.specs.declared.inode.Inode.{Inode}
use Rattle.kernel_tables.specs.Kernel.{Kernel}
use Rattle.unix_model.specs.declared.calls.Errno.{Errno}
use Rattle.unix_model.specs.declared.calls.Errno.TheVariants.{Efbig, Enospc}
use Rattle.unix_model.specs.FileCalls.{overwritten, resized}
use Rattle.unix_model.specs.Files.{File, file_bytes}
use Rattle.unix_model.specs.Limits.{most_file_bytes}
use Rattle.unix_model.specs.Numbers.{pages_of}
use Rattle.unix_model.specs.Room.{promised, has_room}
use Rattle.unix_model.specs.State.{Unix}
use Rattle.unix_model.specs.Tables.{at}
use Rattle.unix_model.proofs.TableLaws.{at-with_at}
use Rattle.kernel_machine.specs.Machine.{machine_of}
use Rattle.kernel_machine.specs.View.{view, stored}
use Rattle.file_domain.specs.Effects.{with_file, part_within, with_part_written, with_bytes_written, ChangesFile, NoRoom, PutsAt, Resizes, Writes, WritesBy, WritesPart}
use Rattle.file_trees.specs.Good.{FilesGood}
use Rattle.file_domain.specs.Good.{IsFileAt}
use Rattle.file_domain.proofs.Chains.{changes_more, changes_nothing, file_twice, one_row}
use Rattle.file_domain.proofs.Keeping.{promised_file}
use Rattle.file_domain.proofs.Seen.{seen_file}
use Rattle.file_domain.proofs.WriteLaws.{length-resized, length-written, written-inside, written-past}

-- ---- the line

line_large : (unix : Unix) (number place : ℕ) (bytes part : List ℕ) → 4194304 ≤ place → with_part_written unix number bytes place part ≡ Err Efbig
unfolding most_file_bytes
line_large unix number place bytes part past = rw (le-leb 4194304 place past) refl

line_crowded : (unix : Unix) (number place : ℕ) (bytes part : List ℕ) → place < 4194304 → has_room (with_file unix number (overwritten bytes place part)) ≡ false
    → with_part_written unix number bytes place part ≡ Err Enospc
unfolding most_file_bytes
line_crowded unix number place bytes part below full = rw (lt-leb 4194304 place below, full) refl

line_written : (unix : Unix) (number place : ℕ) (bytes part : List ℕ) → place < 4194304 → has_room (with_file unix number (overwritten bytes place part)) ≡ true
    → with_part_written unix number bytes place part ≡ Ok (with_file unix number (overwritten bytes place part))
unfolding most_file_bytes
line_written unix number place bytes part below room = rw (lt-leb 4194304 place below, room) refl

line_some : (unix : Unix) (number place : ℕ) (bytes written : List ℕ) → 1 ≤ length written → with_bytes_written unix number bytes place written ≡ with_part_written unix number bytes place (part_within place written)
line_some unix number place bytes written some = rw (ne_eqb (length written) 0 (λ none. absurd (omega arith))) refl

line_none : (unix : Unix) (number place : ℕ) (bytes written : List ℕ) → length written ≡ 0 → with_bytes_written unix number bytes place written ≡ Ok unix
line_none unix number place bytes written none = rw (eq-eqb (length written) 0 none) refl

-- whether there are bytes
pub no_bytes : (count : ℕ) (test : Bool) → test ≡ (count == 0) → test ≡ true → count ≡ 0
no_bytes count test is holds = eqb-true count 0 (sym is ∙ holds)

pub some_bytes : (count : ℕ) (test : Bool) → test ≡ (count == 0) → test ≡ false → 1 ≤ count
some_bytes count test is fails = let some = eqb-false count 0 (sym is ∙ fails) in omega arith

-- ---- room

pages_are : (kernel : Kernel) → (view (machine_of kernel)).pages ≡ kernel.machine.size
unfolding view machine_of
pages_are kernel = refl

-- what is promised has room
pub has : (kernel : Kernel) → FilesGood kernel → has_room (view (machine_of kernel)) ≡ true
has kernel good =
    let promises = good.promises in
    let fits = good.standing.bank.words.promises in
    let same = good.standing.bank.words.same_size in
    let pages = pages_are kernel in
    le-leb (promised (view (machine_of kernel))) (view (machine_of kernel)).pages (omega arith)

-- ---- the state after a part

module _ (old new : Kernel) (number place : ℕ) (part : List ℕ) (inode : Inode) (below : place < 4194304) where
  seen_to : (now : Inode) → ChangesFile old new number inode now → FilesGood new → IsFileAt new number now
      → view (machine_of new) ≡ with_file (view (machine_of old)) number (overwritten (stored (machine_of old) inode) place part)
      → (count : ℕ) → count ≡ length part → WritesPart old new number inode place part (Ok count)
  seen_to now changes good file seen count few =
      let room : has_room (with_file (view (machine_of old)) number (overwritten (stored (machine_of old) inode) place part)) ≡ true = ap has_room (sym seen) ∙ has new good in (
        line_written (view (machine_of old)) number place (stored (machine_of old) inode) part below room ∙ ap (λ (unix : Unix). let r : Result Unix Errno = Ok unix in r) (sym seen),
        few,
        record { now = now; changes = changes; good = good; file = file },
      )

  -- within the length
  pub part_inside : PutsAt old new number place part → IsFileAt old number inode → place + length part ≤ length (stored (machine_of old) inode) → (count : ℕ) → count ≡ length part
      → WritesPart old new number inode place part (Ok count)
  part_inside put file fits =
      let same : put.inode ≡ inode = one_row old number put.inode inode put.was file in
      seen_to put.now (subst (λ (i : Inode). ChangesFile old new number i put.now) same put.changes) put.good put.file
      (put.seen
      ∙ ap (λ (i : Inode). with_file (view (machine_of old)) number (put_over (stored (machine_of old) i) place part)) same
      ∙ ap (with_file (view (machine_of old)) number) (written-inside (stored (machine_of old) inode) part place fits))

  -- there is no room for the length
  pub part_crowded : number < 1024 → IsFileAt old number inode → NoRoom old new number inode (place + length part) → length (stored (machine_of old) inode) ≤ place + length part
      → WritesPart old new number inode place part (Err Enospc)
  part_crowded low file none short =
      let unix : Unix = view (machine_of old) in
      let was : List ℕ = stored (machine_of old) inode in
      let seen = seen_file old number inode file in
      let long = length-written was part place short in
      let zeros = length-resized was (place + length part) short in
      let one = promised_file unix number was (overwritten was place part) low seen in
      let two = promised_file unix number was (resized was (place + length part)) low seen in
      let pages : pages_of (length (overwritten was place part)) ≡ pages_of (length (resized was (place + length part))) = ap pages_of (long ∙ sym zeros) in
      let promises : promised (with_file unix number (overwritten was place part)) ≡ promised (with_file unix number (resized was (place + length part))) = omega arith in (
        line_crowded unix number place was part below (ap (λ n. nat_le n unix.pages) promises ∙ none.none),
        none.state,
      )

-- past the length
module _ (old mid new : Kernel) (number place : ℕ) (part : List ℕ) (inode now : Inode) (below : place < 4194304) (grown : Resizes old mid number inode now) (put : PutsAt mid new number place part)
    (size : now.length ≡ place + length part) (short : length (stored (machine_of old) inode) ≤ place + length part) where
  same_inode : put.inode ≡ now
  same_inode = one_row mid number put.inode now put.was grown.file

  bytes_between : stored (machine_of mid) put.inode ≡ resized (stored (machine_of old) inode) (place + length part)
  bytes_between =
      let here : at (view (machine_of mid)).files.inodes number ≡ Some (File (resized (stored (machine_of old) inode) now.length))
      = ap (λ (u : Unix). at u.files.inodes number) grown.seen ∙ at-with_at (view (machine_of old)).files.inodes number (Some (File (resized (stored (machine_of old) inode) now.length))) in
      let both : Some (stored (machine_of mid) put.inode) ≡ Some (resized (stored (machine_of old) inode) now.length) = ap file_bytes (sym (seen_file mid number put.inode put.was) ∙ here) in
      let bytes : stored (machine_of mid) put.inode ≡ resized (stored (machine_of old) inode) now.length = cc in
      bytes ∙ ap (resized (stored (machine_of old) inode)) size

  seen_after : view (machine_of new) ≡ with_file (view (machine_of old)) number (overwritten (stored (machine_of old) inode) place part)
  seen_after =
      put.seen
      ∙ ap (λ bytes. with_file (view (machine_of mid)) number (put_over bytes place part)) bytes_between
      ∙ ap (with_file (view (machine_of mid)) number) (written-past (stored (machine_of old) inode) part place short)
      ∙ ap (λ (u : Unix). with_file u number (overwritten (stored (machine_of old) inode) place part)) grown.seen
      ∙ file_twice (view (machine_of old)) number (resized (stored (machine_of old) inode) now.length) (overwritten (stored (machine_of old) inode) place part)

  pub part_past : (count : ℕ) → count ≡ length part → WritesPart old new number inode place part (Ok count)
  part_past =
      seen_to old new number place part inode below put.now
      (changes_more old mid new number inode now put.now grown.changes (subst (λ (i : Inode). ChangesFile mid new number i put.now) same_inode put.changes)) put.good put.file seen_after

-- ---- the whole

pub whole_written : (old new : Kernel) (number place : ℕ) (inode other : Inode) (written part : List ℕ) (result : Result ℕ Errno) → IsFileAt old number inode → IsFileAt old number other → 1 ≤ length written
    → part ≡ take (4194304 - place) written → WritesPart old new number other place part result → Writes old new number inode place written result
unfolding most_file_bytes
whole_written old new number place inode other written part result file held some cut writes =
    let same : other ≡ inode = one_row old number other inode held file in
    subst (λ line. WritesBy line old new number inode (length (part_within place written)) result) (sym (line_some (view (machine_of old)) number place (stored (machine_of old) inode) written some))
    (subst (λ p. WritesPart old new number inode place p result) cut (subst (λ (i : Inode). WritesPart old new number i place part result) same writes))

pub nothing_written : (kernel : Kernel) (number place : ℕ) (inode : Inode) (written : List ℕ) → FilesGood kernel → IsFileAt kernel number inode → length written ≡ 0 → Writes kernel kernel number inode place written (Ok 0)
nothing_written kernel number place inode written good file none = (
  line_none (view (machine_of kernel)) number place (stored (machine_of kernel) inode) written none,
  omega (arith, length-take (most_file_bytes - place) written),
  record { now = inode; changes = changes_nothing kernel number place inode good file; good = good; file = file },
)

pub too_far : (kernel : Kernel) (number place : ℕ) (inode : Inode) (written : List ℕ) → 1 ≤ length written → 4194304 ≤ place → Writes kernel kernel number inode place written (Err Efbig)
too_far kernel number place inode written some past = (
  line_some (view (machine_of kernel)) number place (stored (machine_of kernel) inode) written some
      ∙ line_large (view (machine_of kernel)) number place (stored (machine_of kernel) inode) (part_within place written) past,
  refl,
)
