-- The machine, along with changes of the kernel's tables.
use Rattle.std.proofs.Common.{◌≡◌, ◌<◌, ℕ, Option, List, length, slice_set, slice_index_or, refl, sym, ap, ap₂, subst, ◌∙◌}
use Rattle.kn_base.specs.declared.key.Key.{Key}
use Rattle.kernel_tables.specs.declared.row.Row.{Row}
use Rattle.kernel_tables.specs.declared.row.Row.TheVariants.{Unspelled}
use Rattle.kernel_tables.specs.declared.inode.Inode.{Inode}
use Rattle.kernel_tables.specs.declared.description.Description.{Description}
use Rattle.kernel_tables.specs.Kernel.{Kernel}
use Rattle.kernel_tables.specs.Rows.{fixed_rows, domain_rows, is_fixed, of_domain}
use Rattle.kernel_forest.specs.Trees.{forest_of}
use Rattle.kernel_forest.proofs.RowLaws.{domains_apart, fixed_apart}
use Rattle.std.proofs.lemmas.List.{get_or-set_same, get_or-set_other}
use Rattle.forest.specs.Forest.{Forest}
use Rattle.unix_model.specs.Tables.{with_at}
use Rattle.domain.specs.Domains.{domain_at, domains, lives, lives_by, roots_by}
use Rattle.domain.specs.Slots.{room_of}
use Rattle.kernel_machine.specs.Machine.{KernelMachine, machine_of, inodes_of, descriptions_of, held}
use Rattle.kernel_machine.specs.Laws as law
use Rattle.kernel_machine.proofs.ViewLaws.{changed_at}

-- keys that leave the fixed rows and the forest
with_fixed : Kernel → (ℕ → ℕ → Key) → Forest → KernelMachine
with_fixed kernel fixed forest = record (machine_of kernel) { roots = roots_by fixed; room = room_of fixed; forest = forest }

keys-written : (old : Kernel) (keys : List (Option Key)) → forest_of (record old { keys = keys }) ≡ forest_of old → fixed_rows (record old { keys = keys }) ≡ fixed_rows old
    → machine_of (record old { keys = keys }) ≡ record (machine_of old) { lives = lives (record old { keys = keys }); domains = domains (record old { keys = keys }) }
unfolding machine_of with_fixed inodes_of descriptions_of
keys-written old keys forest fixed = ap₂ (with_fixed (record old { keys = keys })) fixed forest

-- the same of tables that are said to be these
keys-said : (old new : Kernel) → new ≡ record old { keys = new.keys } → forest_of new ≡ forest_of old → fixed_rows new ≡ fixed_rows old
    → machine_of new ≡ record (machine_of old) { lives = lives new; domains = domains new }
keys-said old new rest forest fixed =
    subst (λ (kernel : Kernel). machine_of kernel ≡ record (machine_of old) { lives = lives kernel; domains = domains kernel }) (sym rest)
    (keys-written old new.keys (ap forest_of (sym rest) ∙ forest) (ap fixed_rows (sym rest) ∙ fixed))

pub numbers_written : law.NumbersWritten
numbers_written old new writes = keys-said old new writes.rest writes.forest_now writes.fixed_now

pub key_handed_over : law.KeyHandedOver
key_handed_over old new key was over = keys-said old new over.rest over.forest_now over.fixed_now

files-written : (old new : Kernel) → machine_of (record old { inodes = new.inodes; descriptions = new.descriptions })
    ≡ record (machine_of old) { inodes = inodes_of new; descriptions = descriptions_of new }
unfolding machine_of inodes_of descriptions_of
files-written old new = refl

pub files_written : law.FilesWritten
files_written old new writes = ap machine_of writes ∙ files-written old new

-- ---- rows of files

-- what rows hold, with one of them another one
rows-written : {X : Type 0} (rows : List (Row X)) (number : ℕ) (row : Row X) → number < length rows
    → (λ n. held (slice_index_or (slice_set rows number row) n Unspelled)) ≡ with_at (λ n. held (slice_index_or rows n Unspelled)) number (held row)
rows-written rows number row inside =
    changed_at (λ n. held (slice_index_or rows n Unspelled)) (λ n. held (slice_index_or (slice_set rows number row) n Unspelled)) number (held row)
    (ap held (get_or-set_same rows number row Unspelled inside)) (λ k apart. ap held (get_or-set_other rows number k row Unspelled apart))

inodes-with : KernelMachine → (ℕ → Option Inode) → KernelMachine
inodes-with machine inodes = record machine { inodes = inodes }

pub inode_written : law.InodeWritten
unfolding machine_of inodes_of descriptions_of inodes-with
inode_written old new number row inside is = ap machine_of is ∙ ap (inodes-with (machine_of old)) (rows-written old.inodes number row inside)

descriptions-with : KernelMachine → (ℕ → Option Description) → KernelMachine
descriptions-with machine descriptions = record machine { descriptions = descriptions }

pub description_written : law.DescriptionWritten
unfolding machine_of inodes_of descriptions_of descriptions-with
description_written old new number row inside is = ap machine_of is ∙ ap (descriptions-with (machine_of old)) (rows-written old.descriptions number row inside)

-- ---- calls on spaces

-- the machine, by its rows of keys and of files
by_rows : Kernel → (fixed domain : ℕ → ℕ → Key) → (inodes : List (Row Inode)) → (descriptions : List (Row Description)) → KernelMachine
by_rows kernel fixed domain inodes descriptions =
    record (machine_of kernel) {
      roots = roots_by fixed;
      room = room_of fixed;
      lives = lives_by domain fixed;
      domains = domain_at domain;
      inodes = λ n. held (slice_index_or inodes n Unspelled);
      descriptions = λ n. held (slice_index_or descriptions n Unspelled);
    }

rows-same : (kernel : Kernel) (f1 f2 d1 d2 : ℕ → ℕ → Key) (i1 i2 : List (Row Inode)) (o1 o2 : List (Row Description)) → f1 ≡ f2 → d1 ≡ d2 → i1 ≡ i2 → o1 ≡ o2
    → by_rows kernel f1 d1 i1 o1 ≡ by_rows kernel f2 d2 i2 o2
rows-same kernel f1 f2 d1 d2 i1 i2 o1 o2 f d i o = rw (f, d, i, o) refl

pub spaces_changed : law.SpacesChanged
unfolding machine_of inodes_of descriptions_of by_rows
spaces_changed old new keeps inodes descriptions =
    rows-same new (fixed_rows new) (fixed_rows old) (domain_rows new) (domain_rows old) new.inodes old.inodes new.descriptions old.descriptions
    (keeps is_fixed fixed_apart) (keeps of_domain domains_apart) inodes descriptions
