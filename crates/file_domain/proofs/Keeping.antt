-- What calls on files keep: what is taken stays accounted for, and how much the flat state promises.
use Rattle.std.proofs.Common.{◌≡◌, ℕ, ◌+◌, ◌<◌, Some, List, length, ap, arith}
use Rattle.std.proofs.lemmas.List.{get_or_past}
use Rattle.kernel_tables.specs.declared.inode.Inode.{Inode}
use Rattle.kernel_tables.specs.declared.row.Row.TheVariants.{Unspelled}
use Rattle.kernel_tables.specs.Kernel.{Kernel}
use Rattle.unix_model.specs.Files.{File, inode_pages}
use Rattle.unix_model.specs.Numbers.{pages_of}
use Rattle.unix_model.specs.Room.{promised}
use Rattle.unix_model.specs.Rules.{EndsAt}
use Rattle.unix_model.specs.State.{Unix}
use Rattle.unix_model.specs.Tables.{at}
use Rattle.unix_model.proofs.RoomLaws.{promised-inode}
use Rattle.domain.specs.Domains.{domains, roots}
use Rattle.kernel_machine.specs.Bounds.{Accounted}
use Rattle.kernel_machine.specs.Machine.{KernelMachine, inodes_of, held}
use Rattle.kernel_machine.specs.Standing.{Standing}
use Rattle.file_trees.proofs.Accounting.{accounted_kept, accounted_with_inode}
use Rattle.file_domain.specs.Effects.{ChangesFile, with_file}

-- behind the last number no inode is there
pub inodes_end : (kernel : Kernel) → length kernel.inodes ≡ 1024 → EndsAt 1024 (inodes_of kernel)
unfolding inodes_of at
inodes_end kernel all number past = ap held (get_or_past kernel.inodes number Unspelled (omega arith))

-- what stands is accounted for, where no slot and no domain has changed
pub accounted_still : (old new : Kernel) → roots new ≡ roots old → domains new ≡ domains old → length new.inodes ≡ 1024 → Standing new → Accounted old → Accounted new
accounted_still old new same_roots same_domains all = accounted_kept old new same_roots same_domains (inodes_end new all)

-- such as where of the machine a file has changed
pub accounted_file : (old new : Kernel) (number : ℕ) (inode now : Inode) → number < 1024 → ChangesFile old new number inode now → Standing new → Accounted old → Accounted new
accounted_file old new number inode now below changes =
    accounted_with_inode old new number (Some now) below (ap (λ (m : KernelMachine). m.roots) changes.state) (ap (λ (m : KernelMachine). m.domains) changes.state) (ap (λ (m : KernelMachine). m.inodes) changes.state)

-- what is promised once a file has another length
pub promised_file : (unix : Unix) (number : ℕ) (was now : List ℕ) → number < 1024 → at unix.files.inodes number ≡ Some (File was)
    → promised (with_file unix number now) + pages_of (length was) ≡ promised unix + pages_of (length now)
promised_file unix number was now below there =
    let before : inode_pages (at unix.files.inodes number) ≡ pages_of (length was) = ap inode_pages there in
    let all = promised-inode unix (Some (File now)) unix.files.descriptions number below in
    omega arith

pub same_promise : (unix : Unix) (number : ℕ) (was now : List ℕ) → number < 1024 → at unix.files.inodes number ≡ Some (File was) → length now ≡ length was
    → promised (with_file unix number now) ≡ promised unix
same_promise unix number was now below there same =
    let change = promised_file unix number was now below there in
    let pages : pages_of (length now) ≡ pages_of (length was) = ap pages_of same in
    omega arith
