-- How far the counts that the tables keep are off within a turn, and what each change makes of it, each law as one statement. A
-- change of what is counted leaves the stored count behind until it is written, or the other way round; both together cancel.
use Rattle.std.specs.Prelude.{◌≡◌, ◌≢◌, ◌<◌, ◌≤◌, ◌+◌, ◌-◌, ◌==◌, ℕ, true, false, Option, Some, None, List, [], ◌∷◌, ◌++◌, length, replicate, slice_set}
use Rattle.std.specs.List.{count_by}
use Rattle.kn_base.specs.declared.key.Key.{Key}
use Rattle.kernel_tables.specs.declared.description.Description.{Description}
use Rattle.kernel_tables.specs.declared.inode.Inode.{Inode}
use Rattle.kernel_tables.specs.declared.inode.InodeKind.{InodeKind}
use Rattle.kernel_tables.specs.declared.row.Row.TheVariants.{Free, Used}
use Rattle.kernel_tables.specs.declared.entry.PageOwner.TheVariants.{Pipe}
use Rattle.kernel_tables.specs.Kernel.{Kernel, inode_at, description_at, first_page}
use Rattle.kernel_tables.specs.Rows.{domain_rows}
use Rattle.space_bank.specs.Bank.{BankGood, TakesPage, page_given}
use Rattle.forest.specs.Objects.{NodeObject, Owner, OfProcess}
use Rattle.forest.specs.Walks.{Mapping}
use Rattle.kernel_forest.specs.Trees.{forest_of}
use Rattle.file_tables.specs.Numbers.{TakesDescription, TakesInode}
use Rattle.seg_tree.specs.Promises.{Adds, Drops}
use Rattle.domain.specs.Buffers.{WritesBuffer, DropsBuffer}
use Rattle.domain.specs.Domains.{Domain, domains, roots}
use Rattle.domain.specs.Ends.{MakesZombie, MayEnd, DropsDomain, MayDrop}
use Rattle.domain.specs.Keys.{key_of_space}
use Rattle.domain.specs.Life.{MakesDomain}
use Rattle.domain.specs.Rules.{RowsGood}
use Rattle.domain.specs.Sets.{WritesNumbers, HandsOver}
use Rattle.invoke.specs.Invokes.{Goes}
use Rattle.invoke.specs.Others.{seat_at}
use Rattle.invoke.specs.Steps.{Step, Given}
use Rattle.unix_model.specs.Calls.{Calls}
use Rattle.unix_model.specs.Files as model
use Rattle.unix_model.specs.Files.{Entry, Files, entry_names, has_names, inode_named, links, places_of, with_entry, with_inode, with_place}
use Rattle.unix_model.specs.Limits.{description_count, descriptor_count, inode_count, slot_count}
use Rattle.unix_model.specs.Process.{Process}
use Rattle.unix_model.specs.State.{with_files, with_process}
use Rattle.unix_model.specs.Tables.{at, with_at}
use Rattle.kernel_machine.specs.Counts.{InodesCounted, DescriptionsCounted, descriptors_of, opens}
use Rattle.kernel_machine.specs.Good.{Good}
use Rattle.kernel_machine.specs.Laws.{HasRoot}
use Rattle.kernel_machine.specs.Loose.{Ring, StandingBut, owned_space}
use Rattle.kernel_machine.specs.Standing.{Standing, LeavesSpaces}
use Rattle.kernel_machine.specs.Machine.{machine_of, inodes_of, descriptions_of}
use Rattle.kernel_machine.specs.View.{view, processes_in, inode_in, inodes_in, descriptions_in, files_in}

-- what the tables say of a number, and 0 where nothing is there
abbrev pub entries_in : Option Inode → ℕ
entries_in None = 0
entries_in (Some inode) = inode.entries

abbrev pub opens_in : Option Inode → ℕ
opens_in None = 0
opens_in (Some inode) = inode.opens

abbrev pub descriptors_in : Option Description → ℕ
descriptors_in None = 0
descriptors_in (Some description) = description.descriptors

-- Numbers of which the stored count is to be raised yet, and to be lowered yet, each as often as it stands here.
pub record Off : Type 0 where
  pub raise : List ℕ
  pub lower : List ℕ

unfoldable pub times : ℕ → List ℕ → ℕ
times number numbers = count_by (λ n. n == number) numbers

-- each stored count, raised and lowered so, is what is counted; of what isn't there nothing is counted
abbrev pub Agrees : (ℕ → ℕ) → (ℕ → ℕ) → Off → Type 0
Agrees stored counted off = (number : ℕ) → stored number + times number off.raise ≡ counted number + times number off.lower

-- the same, for the entries and opens of inodes and the descriptors of descriptions
pub record Offs : Type 0 where
  pub entries : Off
  pub opens : Off
  pub descriptors : Off

pub record CountsOff (kernel : Kernel) (offs : Offs) : Type 0 where
  pub of_entries : Agrees (λ number. entries_in (at (inodes_of kernel) number)) (links (inodes_in (machine_of kernel))) offs.entries
  pub of_opens : Agrees (λ number. opens_in (at (inodes_of kernel) number)) (opens (descriptions_in (machine_of kernel))) offs.opens
  pub of_descriptors : Agrees (λ number. descriptors_in (at (descriptions_of kernel) number)) (descriptors_of (processes_in (machine_of kernel))) offs.descriptors

-- no count is off
abbrev pub exact : Off
exact = record { raise = []; lower = [] }

abbrev pub all_exact : Offs
all_exact = record { entries = exact; opens = exact; descriptors = exact }

-- ---- between turns, and what cancels

-- Between turns no count is off, ..
abbrev pub CountsAreExact : Type 0
CountsAreExact = (calls : Calls) (kernel : Kernel) → Good calls kernel → CountsOff kernel all_exact

-- .. and where none is, the counts are what is settled.
abbrev pub CountsSettle : Type 0
CountsSettle =
    (kernel : Kernel) → CountsOff kernel all_exact
    → InodesCounted (machine_of kernel).inodes (inodes_in (machine_of kernel)) (descriptions_in (machine_of kernel))
    × DescriptionsCounted (machine_of kernel).descriptions (processes_in (machine_of kernel))

-- as much is off
abbrev pub IsEven : Off → Off → Type 0
IsEven off other = (number : ℕ) → times number off.raise + times number other.lower ≡ times number other.raise + times number off.lower

abbrev pub CountsEven : Type 0
CountsEven =
    (kernel : Kernel) (offs other : Offs) → IsEven offs.entries other.entries → IsEven offs.opens other.opens → IsEven offs.descriptors other.descriptors
    → CountsOff kernel offs → CountsOff kernel other

-- A number that is to be raised and to be lowered cancels.
abbrev pub RaisedAndLowered : Type 0
RaisedAndLowered = (number : ℕ) (off : Off) → IsEven (record { raise = number ∷ off.raise; lower = number ∷ off.lower }) off

-- ---- what isn't read

-- Processes and files of the flat state are the same, and so are the rows of files, as where the words of the machine change.
abbrev pub CountsWithState : Type 0
CountsWithState =
    (old new : Kernel) (offs : Offs)
    → (view (machine_of new)).processes ≡ (view (machine_of old)).processes → (view (machine_of new)).files ≡ (view (machine_of old)).files
    → inodes_of new ≡ inodes_of old → descriptions_of new ≡ descriptions_of old
    → CountsOff old offs → CountsOff new offs

-- A process is another one with the same descriptors, as where its memory changes.
abbrev pub CountsWithProcess : Type 0
CountsWithProcess =
    (old new : Kernel) (slot : ℕ) (was process : Process) (offs : Offs)
    → view (machine_of new) ≡ with_process (view (machine_of old)) slot process → at (view (machine_of old)).processes slot ≡ Some was
    → process.descriptors ≡ was.descriptors → inodes_of new ≡ inodes_of old → descriptions_of new ≡ descriptions_of old
    → CountsOff old offs → CountsOff new offs

-- Somebody calls, is reached or answers.
abbrev pub CountsWithInvocation : Type 0
CountsWithInvocation =
    (old new : Kernel) (one : Step) (given : Given) (offs : Offs) → Goes old new one given (seat_at old one) → CountsOff old offs → CountsOff new offs

-- Numbers were written in a domain that keeps its descriptors, or its space was set.
abbrev pub CountsWithNumbers : Type 0
CountsWithNumbers =
    (old new : Kernel) (root : ℕ) (domain : Domain) (offs : Offs)
    → WritesNumbers old new → domains new ≡ with_at (domains old) root domain → domain.descriptors ≡ (at (domains old) root).descriptors
    → CountsOff old offs → CountsOff new offs

abbrev pub CountsWithSpaceSet : Type 0
CountsWithSpaceSet =
    (old new : Kernel) (root : ℕ) (space : Option ℕ) (offs : Offs)
    → HandsOver old new (key_of_space space) (key_of_space (at (domains old) root).space)
    → domains new ≡ with_at (domains old) root (record (at (domains old) root) { space = space })
    → CountsOff old offs → CountsOff new offs

-- Bytes were written in the buffer of a domain, for which a page may have been taken, or it was given back.
abbrev pub CountsWithBuffer : Type 0
CountsWithBuffer =
    (old new : Kernel) (root start : ℕ) (bytes : List ℕ) (offs : Offs)
    → WritesBuffer old new root start bytes (at (domains old) root).buffer → (at (domains old) root).live ≡ true → start + length bytes ≤ 4096
    → BankGood new → RowsGood (domain_rows new) → Standing old → CountsOff old offs → CountsOff new offs

abbrev pub CountsWithoutBuffer : Type 0
CountsWithoutBuffer =
    (old new : Kernel) (root page : ℕ) (offs : Offs)
    → DropsBuffer old new root page → (at (domains old) root).buffer ≡ Some page → Standing old → CountsOff old offs → CountsOff new offs

-- A page was taken for a pipe, or a loose one was given back.
abbrev pub CountsWithPage : Type 0
CountsWithPage =
    (old new : Kernel) (page : ℕ) (offs : Offs) → TakesPage old new page Pipe → CountsOff old offs → CountsOff new offs

abbrev pub CountsWithoutPage : Type 0
CountsWithoutPage =
    (old new : Kernel) (page : ℕ) (offs : Offs)
    → new ≡ page_given old (page - first_page old.size) → StandingBut old (Ring page) → CountsOff old offs → CountsOff new offs

-- ---- calls on spaces

-- The memory of a process is another one, ..
abbrev pub CountsWithMemory : Type 0
CountsWithMemory =
    (old new : Kernel) (space : ℕ) (offs : Offs)
    → LeavesSpaces old new space → (forest_of old).owner (NodeObject space) ≡ Some OfProcess → Standing old → CountsOff old offs → CountsOff new offs

-- .. or a space or tree that is loose; ..
abbrev pub CountsWithLoose : Type 0
CountsWithLoose =
    (old new : Kernel) (space : ℕ) (owner : Owner) (offs : Offs)
    → LeavesSpaces old new space → StandingBut old (owned_space owner space) → CountsOff old offs → CountsOff new offs

-- .. one was added, ..
abbrev pub CountsWithSpace : Type 0
CountsWithSpace =
    (old new : Kernel) (space : ℕ) (owner : Option Owner) (key : Key) (map : ℕ → Option Mapping) (offs : Offs)
    → Adds old new space owner key map → Standing old → CountsOff old offs → CountsOff new offs

-- .. or released that was loose.
abbrev pub CountsWithSpaceDropped : Type 0
CountsWithSpaceDropped =
    (old new : Kernel) (space : ℕ) (owner : Owner) (offs : Offs)
    → Drops old new space → BankGood new → StandingBut old (owned_space owner space) → CountsOff old offs → CountsOff new offs

-- ---- descriptors

-- the number of a description, if there is one
abbrev pub numbers_of : Option ℕ → List ℕ
numbers_of None = []
numbers_of (Some number) = number ∷ []

-- A descriptor was set, or cleared: the description that it names is to be raised, and the one that it named to be lowered.
abbrev pub CountsWithDescriptor : Type 0
CountsWithDescriptor =
    (old new : Kernel) (slot root number : ℕ) (was description : Option ℕ) (offs : Offs)
    → WritesNumbers old new
    → domains new ≡ with_at (domains old) root (record (at (domains old) root) { descriptors = with_at (at (domains old) root).descriptors number description })
    → at (at (domains old) root).descriptors number ≡ was → HasRoot (machine_of old) slot root → number < descriptor_count
    → CountsOff old offs
    → CountsOff new (record offs {
      descriptors = record { raise = numbers_of description ++ offs.descriptors.raise; lower = numbers_of was ++ offs.descriptors.lower };
    })

-- ---- descriptions

-- The row of a description was written that keeps its inode: its stored count has risen by one number, and fallen by another.
abbrev pub CountsWithDescription : Type 0
CountsWithDescription =
    (old new : Kernel) (number up down : ℕ) (was row : Description) (offs : Offs)
    → new ≡ record old { descriptions = slice_set old.descriptions number (Used row) } → description_at old number ≡ Used was
    → row.inode ≡ was.inode → row.descriptors + down ≡ was.descriptors + up
    → CountsOff old offs
    → CountsOff new (record offs {
      descriptors = record { raise = replicate down number ++ offs.descriptors.raise; lower = replicate up number ++ offs.descriptors.lower };
    })

-- A description was made: it is open on its inode, and no descriptor names it yet.
abbrev pub CountsWithNewDescription : Type 0
CountsWithNewDescription =
    (old new : Kernel) (number : ℕ) (row : Description) (offs : Offs)
    → TakesDescription old new row number → CountsOff old offs
    → CountsOff new (record offs {
      opens = record { raise = row.inode ∷ offs.opens.raise; lower = offs.opens.lower };
      descriptors = record { raise = offs.descriptors.raise; lower = replicate row.descriptors number ++ offs.descriptors.lower };
    })

-- A description was freed.
abbrev pub CountsWithoutDescription : Type 0
CountsWithoutDescription =
    (old new : Kernel) (number : ℕ) (was : Description) (offs : Offs)
    → new ≡ record old { descriptions = slice_set old.descriptions number Free } → description_at old number ≡ Used was → number < description_count
    → CountsOff old offs
    → CountsOff new (record offs {
      opens = record { raise = offs.opens.raise; lower = was.inode ∷ offs.opens.lower };
      descriptors = record { raise = replicate was.descriptors number ++ offs.descriptors.raise; lower = offs.descriptors.lower };
    })

-- ---- names

-- Places of a directory are other ones now: these inodes have gained a name, and those lost one, each as often as it stands here.
abbrev pub ChangesNames : List (Option Entry) → List (Option Entry) → List ℕ → List ℕ → Type 0
ChangesNames was now gained lost = (inode : ℕ) → count_by (entry_names inode) now + times inode lost ≡ count_by (entry_names inode) was + times inode gained

-- A name is added, ..
abbrev pub NameAdded : Type 0
NameAdded = (places : List (Option Entry)) (entry : Entry) → ChangesNames places (with_entry places entry) (entry.inode ∷ []) []

-- .. the name of an inode is taken away, or is given to another one, ..
abbrev pub NameChanged : Type 0
NameChanged =
    (places : List (Option Entry)) (name : List ℕ) (inode : ℕ) (entry : Entry) → inode_named places name ≡ Some inode
    → ChangesNames places (with_place places name None) [] (inode ∷ []) × ChangesNames places (with_place places name (Some entry)) (entry.inode ∷ []) (inode ∷ [])

-- .. and an inode that keeps its kind, its root and its length keeps its names.
abbrev pub NamesKept : Type 0
NamesKept =
    (kernel : Kernel) (was row : Inode) → row.kind ≡ was.kind → row.root ≡ was.root → row.length ≡ was.length
    → ChangesNames (places_of (Some (inode_in (machine_of kernel) was))) (places_of (Some (inode_in (machine_of kernel) row))) [] []

-- The bytes of a file, a directory or a pipe were written: a directory's names have changed.
abbrev pub CountsWithBytes : Type 0
CountsWithBytes =
    (old new : Kernel) (number : ℕ) (inode : model.Inode) (gained lost : List ℕ) (offs : Offs)
    → view (machine_of new) ≡ with_files (view (machine_of old)) (with_inode (files_in (machine_of old)) number inode)
    → inodes_of new ≡ inodes_of old → descriptions_of new ≡ descriptions_of old → number < inode_count
    → ChangesNames (places_of (at (files_in (machine_of old)).inodes number)) (places_of (Some inode)) gained lost
    → CountsOff old offs
    → CountsOff new (record offs { entries = record { raise = gained ++ offs.entries.raise; lower = lost ++ offs.entries.lower } })

-- ---- inodes

-- The row of an inode was written: its stored counts have risen by one number, and fallen by another, and its names have changed.
abbrev pub CountsWithInode : Type 0
CountsWithInode =
    (old new : Kernel) (number linked unlinked opened closed : ℕ) (was row : Inode) (gained lost : List ℕ) (offs : Offs)
    → new ≡ record old { inodes = slice_set old.inodes number (Used row) } → inode_at old number ≡ Used was → number < inode_count
    → row.entries + unlinked ≡ was.entries + linked → row.opens + closed ≡ was.opens + opened
    → ChangesNames (places_of (Some (inode_in (machine_of old) was))) (places_of (Some (inode_in (machine_of old) row))) gained lost
    → CountsOff old offs
    → CountsOff new (record offs {
      entries = record {
        raise = gained ++ (replicate unlinked number ++ offs.entries.raise);
        lower = lost ++ (replicate linked number ++ offs.entries.lower);
      };
      opens = record { raise = replicate closed number ++ offs.opens.raise; lower = replicate opened number ++ offs.opens.lower };
    })

-- An inode was made: it has no entry, nothing is open on it, and it has no names.
abbrev pub CountsWithNewInode : Type 0
CountsWithNewInode =
    (old new : Kernel) (kind : InodeKind) (number : ℕ) (offs : Offs) → TakesInode old new kind number → CountsOff old offs → CountsOff new offs

-- An inode was freed that has no names.
abbrev pub CountsWithoutInode : Type 0
CountsWithoutInode =
    (old new : Kernel) (number : ℕ) (was : Inode) (offs : Offs)
    → new ≡ record old { inodes = slice_set old.inodes number Free } → inode_at old number ≡ Used was → number < inode_count
    → has_names (Some (inode_in (machine_of old) was)) ≡ false
    → CountsOff old offs
    → CountsOff new (record offs {
      entries = record { raise = replicate was.entries number ++ offs.entries.raise; lower = offs.entries.lower };
      opens = record { raise = replicate was.opens number ++ offs.opens.raise; lower = offs.opens.lower };
    })

-- ---- domains

-- A domain that was made has no descriptor, ..
abbrev pub CountsWithBirth : Type 0
CountsWithBirth =
    (old new : Kernel) (slot space root : ℕ) (offs : Offs)
    → MakesDomain old new slot space root → slot < slot_count → at (roots old) slot ≡ None → ((other : ℕ) → at (roots old) other ≢ Some root)
    → CountsOff old offs → CountsOff new offs

-- .. one that became a zombie had closed all of them, ..
abbrev pub CountsWithEnd : Type 0
CountsWithEnd =
    (old new : Kernel) (root : ℕ) (offs : Offs) → MakesZombie old new root → MayEnd old root → CountsOff old offs → CountsOff new offs

-- .. and a zombie that was dropped had none.
abbrev pub CountsWithGone : Type 0
CountsWithGone =
    (old new : Kernel) (slot root : ℕ) (offs : Offs)
    → DropsDomain old new slot root → MayDrop old root → RowsGood (domain_rows old) → at (roots old) slot ≡ Some root → slot < slot_count
    → CountsOff old offs → CountsOff new offs
