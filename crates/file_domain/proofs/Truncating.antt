-- Another length in the words of the line: what it says of each answer.
use Rattle.std.proofs.Common.{◌≡◌, ℕ, ◌<◌, ◌≤◌, true, false, List, Result, Ok, Err, refl, ap, sym, subst, ◌∙◌}
use Rattle.std.proofs.lemmas.Bool.{lt-ltb, le-ltb}
use Rattle.kernel_tables.specs.declared.inode.Inode.{Inode}
use Rattle.kernel_tables.specs.Kernel.{Kernel}
use Rattle.unix_model.specs.declared.calls.Errno.{Errno}
use Rattle.unix_model.specs.declared.calls.Errno.TheVariants.{Efbig, Enospc}
use Rattle.unix_model.specs.FileCalls.{resized}
use Rattle.unix_model.specs.Limits.{most_file_bytes}
use Rattle.unix_model.specs.Room.{has_room}
use Rattle.unix_model.specs.State.{Unix}
use Rattle.kernel_machine.specs.Machine.{machine_of}
use Rattle.kernel_machine.specs.View.{view, stored}
use Rattle.file_domain.specs.Cutting.{with_length, Truncates}
use Rattle.file_domain.specs.Effects.{with_file, NoRoom, Resizes}
use Rattle.file_domain.specs.Good.{IsFileAt}
use Rattle.file_domain.proofs.Chains.{one_row}

-- ---- the line

line_large : (unix : Unix) (number size : ℕ) (bytes : List ℕ) → 4194304 < size → with_length unix number bytes size ≡ Err Efbig
unfolding most_file_bytes
line_large unix number size bytes past = rw (lt-ltb 4194304 size past) refl

line_crowded : (unix : Unix) (number size : ℕ) (bytes : List ℕ) → size ≤ 4194304 → has_room (with_file unix number (resized bytes size)) ≡ false → with_length unix number bytes size ≡ Err Enospc
unfolding most_file_bytes
line_crowded unix number size bytes low full = rw (le-ltb 4194304 size low, full) refl

line_fits : (unix : Unix) (number size : ℕ) (bytes : List ℕ) → size ≤ 4194304 → has_room (with_file unix number (resized bytes size)) ≡ true
    → with_length unix number bytes size ≡ Ok (with_file unix number (resized bytes size))
unfolding most_file_bytes
line_fits unix number size bytes low room = rw (le-ltb 4194304 size low, room) refl

-- ---- the answers

pub length_large : (kernel : Kernel) (number size : ℕ) (inode : Inode) → 4194304 < size → Truncates kernel kernel number inode size (Err Efbig)
length_large kernel number size inode past = (line_large (view (machine_of kernel)) number size (stored (machine_of kernel) inode) past, refl)

pub length_crowded : (old new : Kernel) (number size : ℕ) (inode : Inode) → size ≤ 4194304 → NoRoom old new number inode size → Truncates old new number inode size (Err Enospc)
length_crowded old new number size inode low none = (line_crowded (view (machine_of old)) number size (stored (machine_of old) inode) low none.none, none.state)

pub length_set : (old new : Kernel) (number size : ℕ) (inode now : Inode) → size ≤ 4194304 → now.length ≡ size → Resizes old new number inode now → Truncates old new number inode size (Ok tt)
length_set old new number size inode now low short resizes =
    let seen : view (machine_of new) ≡ with_file (view (machine_of old)) number (resized (stored (machine_of old) inode) size)
    = resizes.seen ∙ ap (λ n. with_file (view (machine_of old)) number (resized (stored (machine_of old) inode) n)) short in (
      line_fits (view (machine_of old)) number size (stored (machine_of old) inode) low (ap has_room (sym seen) ∙ resizes.room) ∙ ap (λ (unix : Unix). let r : Result Unix Errno = Ok unix in r) (sym seen),
      record { now = now; changes = resizes.changes; good = resizes.good; file = resizes.file },
    )

-- a number has one row
pub length_by_row : (old new : Kernel) (number size : ℕ) (inode other : Inode) (result : Result (Unit {0}) Errno) → IsFileAt old number inode → IsFileAt old number other → Truncates old new number other size result
    → Truncates old new number inode size result
length_by_row old new number size inode other result file held truncates =
    subst (λ (i : Inode). Truncates old new number i size result) (one_row old number other inode held file) truncates
