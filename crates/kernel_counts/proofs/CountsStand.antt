-- How far the counts are off, along with descriptors, descriptions and domains.
use Rattle.std.proofs.Common.{◌≡◌, ◌≢◌, ◌<◌, ◌≤◌, ◌+◌, ℕ, Option, Some, None, [], ◌∷◌, ◌++◌, length, set, refl, sym, ap, ap₂, subst, ◌∙◌, arith, ⊎_elim}
use Rattle.std.specs.Prelude.{◌==◌, option_map, replicate}
use Rattle.std.specs.List.{count_by}
use Rattle.std.proofs.Math.Path.{fun_ext}
use Rattle.std.proofs.lemmas.Bool.{cases_eq, cases_lt, le-ltb}
use Rattle.kernel_tables.specs.declared.description.Description.{Description}
use Rattle.kernel_tables.specs.declared.inode.Inode.{Inode}
use Rattle.kernel_tables.specs.declared.row.Row.{Row}
use Rattle.kernel_tables.specs.declared.row.Row.TheVariants.{Free, Used, Unspelled}
use Rattle.kernel_tables.specs.Kernel.{Kernel, description_at}
use Rattle.domain.specs.Domains.{Domain, domains, lives, roots, roots_by}
use Rattle.domain.specs.Keys.{key_of_space}
use Rattle.unix_model.specs.Files as model
use Rattle.unix_model.specs.Files.{Files, description_names, links, with_description}
use Rattle.unix_model.specs.Process.{Process}
use Rattle.unix_model.specs.State.{Unix, names_description, with_files, with_process}
use Rattle.unix_model.specs.Tables.{at, with_at, count_below, sum_below}
use Rattle.unix_model.proofs.CountLaws.{count-with_at, one_if}
use Rattle.unix_model.proofs.RoomLaws.{sum-with_at}
use Rattle.unix_model.proofs.TableLaws.{at-with_at, at-with_at-other}
use Rattle.kernel_machine.specs.Counts.{opens, process_descriptors, descriptors_of}
use Rattle.kernel_counts.specs.Counted as law
use Rattle.kernel_counts.specs.Counted.{Agrees, CountsOff, IsEven, Offs, descriptors_in, entries_in, opens_in, numbers_of, times}
use Rattle.kernel_machine.specs.Machine.{KernelMachine, machine_of, inodes_of, descriptions_of, held}
use Rattle.kernel_machine.specs.View.{view, listed, process_in, processes_in, memory_in, file_memory, inode_in, inodes_in, description_in, descriptions_in, files_in}
use Rattle.kernel_machine.proofs.HeldLaws.{stays}
use Rattle.kernel_machine.proofs.InvocationsStand.{invocation_unseen}
use Rattle.kernel_machine.proofs.MachineLaws.{description_written, key_handed_over, numbers_written}
use Rattle.kernel_machine.proofs.SetLaws.{description_set, domain_set}
use Rattle.kernel_counts.proofs.TallyLaws.{listed-count, stored-set, times-append, times-cons, times-none}
use Rattle.kernel_machine.proofs.OwnerLaws.{row-inside}
use Rattle.kernel_machine.proofs.ViewLaws.{description_freed}

-- ---- by the flat state

pub record CountsBy (inodes : ℕ → Option Inode) (descriptions : ℕ → Option Description) (unix : Unix) (offs : Offs) : Type 0 where
  pub by_entries : Agrees (λ number. entries_in (at inodes number)) (links unix.files.inodes) offs.entries
  pub by_opens : Agrees (λ number. opens_in (at inodes number)) (opens unix.files.descriptions) offs.opens
  pub by_descriptors : Agrees (λ number. descriptors_in (at descriptions number)) (descriptors_of unix.processes) offs.descriptors

pub to-state : (kernel : Kernel) (offs : Offs) → CountsOff kernel offs → CountsBy (inodes_of kernel) (descriptions_of kernel) (view (machine_of kernel)) offs
unfolding view
to-state kernel offs counts = record { by_entries = counts.of_entries; by_opens = counts.of_opens; by_descriptors = counts.of_descriptors }

from-state : (kernel : Kernel) (offs : Offs) → CountsBy (inodes_of kernel) (descriptions_of kernel) (view (machine_of kernel)) offs → CountsOff kernel offs
unfolding view
from-state kernel offs counts = record { of_entries = counts.by_entries; of_opens = counts.by_opens; of_descriptors = counts.by_descriptors }

pub by-state : (new : Kernel) (offs : Offs) (inodes : ℕ → Option Inode) (descriptions : ℕ → Option Description) (unix : Unix)
    → inodes_of new ≡ inodes → descriptions_of new ≡ descriptions → view (machine_of new) ≡ unix → CountsBy inodes descriptions unix offs → CountsOff new offs
by-state new offs inodes descriptions unix i d v counts = from-state new offs
    (subst (λ (table : ℕ → Option Inode). CountsBy table (descriptions_of new) (view (machine_of new)) offs) (sym i)
    (subst (λ (table : ℕ → Option Description). CountsBy inodes table (view (machine_of new)) offs) (sym d)
    (subst (λ (state : Unix). CountsBy inodes descriptions state offs) (sym v) counts)))

pub counts_even : law.CountsEven
counts_even kernel offs other entries opens descriptors counts = record {
  of_entries = λ n. let a = entries n in let b = counts.of_entries n in omega arith;
  of_opens = λ n. let a = opens n in let b = counts.of_opens n in omega arith;
  of_descriptors = λ n. let a = descriptors n in let b = counts.of_descriptors n in omega arith;
}

pub counts_with_state : law.CountsWithState
counts_with_state old new offs processes files inodes descriptions counts =
    let by = to-state old offs counts in
    from-state new offs
    (record {
      by_entries = λ n.
          let stored = ap (λ (table : ℕ → Option Inode). entries_in (at table n)) inodes in
          let counted = ap (λ (f : Files). links f.inodes n) files in
          let was = by.by_entries n in omega arith;
      by_opens = λ n.
          let stored = ap (λ (table : ℕ → Option Inode). opens_in (at table n)) inodes in
          let counted = ap (λ (f : Files). opens f.descriptions n) files in
          let was = by.by_opens n in omega arith;
      by_descriptors = λ n.
          let stored = ap (λ (table : ℕ → Option Description). descriptors_in (at table n)) descriptions in
          let counted = ap (λ (table : ℕ → Option Process). descriptors_of table n) processes in
          let was = by.by_descriptors n in omega arith;
    })

-- lives, and keys of the resume room, are no part of the flat state
pub counts_with_invocation : law.CountsWithInvocation
unfolding inodes_of descriptions_of
counts_with_invocation old new one given offs goes counts =
    let seen : view (machine_of new) ≡ view (machine_of old) = invocation_unseen old new one given goes in
    counts_with_state old new offs (ap (λ (unix : Unix). unix.processes) seen) (ap (λ (unix : Unix). unix.files) seen)
    (ap inodes_of goes.invokes.rest) (ap descriptions_of goes.invokes.rest) counts

-- ---- processes

process-same : (processes : ℕ → Option Process) (slot : ℕ) (was process : Process) → at processes slot ≡ Some was → process.descriptors ≡ was.descriptors
    → (number : ℕ) → descriptors_of (with_at processes slot (Some process)) number ≡ descriptors_of processes number
unfolding descriptors_of
process-same processes slot was process there same number =
    ap (λ f. sum_below f 64) (fun_ext (λ s. ⊎_elim
    (λ (t : s ≡ slot).
    ap (λ k. process_descriptors number (at (with_at processes slot (Some process)) k)) t
    ∙ ap (process_descriptors number) (at-with_at processes slot (Some process))
    ∙ ap (count_by (names_description number)) same
    ∙ sym (ap (process_descriptors number) (ap (at processes) t ∙ there)))
    (λ (d : s ≢ slot). ap (process_descriptors number) (at-with_at-other processes slot s (Some process) d))
    (cases_eq s slot)))

pub counts_with_process : law.CountsWithProcess
counts_with_process old new slot was process offs seen there same inodes descriptions counts =
    let by = to-state old offs counts in
    by-state new offs (inodes_of old) (descriptions_of old) (with_process (view (machine_of old)) slot process) inodes descriptions seen
    (record {
      by_entries = by.by_entries;
      by_opens = by.by_opens;
      by_descriptors = λ n. let a = by.by_descriptors n in let b = process-same (view (machine_of old)).processes slot was process there same n in omega arith;
    })

-- ---- descriptors, by the roots of domains

-- how many descriptors of the domain of a root name a description
unfoldable pub held-descriptors : ℕ → (ℕ → ℕ → Option ℕ) → Option ℕ → ℕ
held-descriptors number table None = 0
held-descriptors number table (Some root) = count_by (names_description number) (listed (table root) 32)

pub by-roots : (machine : KernelMachine) (number : ℕ)
    → descriptors_of (processes_in machine) number ≡ sum_below (λ slot. held-descriptors number (λ root. (at machine.domains root).descriptors) (at machine.roots slot)) 64
unfolding descriptors_of processes_in process_in held-descriptors at
by-roots machine number = ap (λ f. sum_below f 64) (fun_ext (λ slot. by-root (at machine.roots slot)))
  where
    by-root : (root : Option ℕ) → process_descriptors number (option_map (λ r. process_in machine (at machine.domains r)) root) ≡ held-descriptors number (λ r. (at machine.domains r).descriptors) root
    by-root None = refl
    by-root (Some root) = refl

-- domains with the same descriptors
pub same-descriptors : (old new : KernelMachine) → new.roots ≡ old.roots → ((root : ℕ) → (at new.domains root).descriptors ≡ (at old.domains root).descriptors)
    → (number : ℕ) → descriptors_of (processes_in new) number ≡ descriptors_of (processes_in old) number
same-descriptors old new slots same number =
    by-roots new number
    ∙ ap₂ (λ (table : ℕ → ℕ → Option ℕ) (slots : ℕ → Option ℕ). sum_below (λ slot. held-descriptors number table (at slots slot)) 64) (fun_ext same) slots
    ∙ sym (by-roots old number)

-- keys were written in a domain that keeps its descriptors
keys-counted : (old new : Kernel) (root : ℕ) (domain : Domain) (offs : Offs)
    → machine_of new ≡ record (machine_of old) { lives = lives new; domains = domains new } → new ≡ record old { keys = new.keys }
    → domains new ≡ with_at (domains old) root domain → domain.descriptors ≡ (at (domains old) root).descriptors → CountsOff old offs → CountsOff new offs
unfolding machine_of inodes_of descriptions_of inodes_in descriptions_in inode_in file_memory memory_in
keys-counted old new root domain offs machine rest now same counts =
    let inodes : inodes_of new ≡ inodes_of old = ap inodes_of rest in
    let descriptions : descriptions_of new ≡ descriptions_of old = ap descriptions_of rest in
    let seen : inodes_in (machine_of new) ≡ inodes_in (machine_of old) = ap inodes_in machine in
    let opened : descriptions_in (machine_of new) ≡ descriptions_in (machine_of old) = ap descriptions_in machine in
    let slots : (machine_of new).roots ≡ (machine_of old).roots = ap (λ (m : KernelMachine). m.roots) machine in
    let kept : (r : ℕ) → (at (machine_of new).domains r).descriptors ≡ (at (machine_of old).domains r).descriptors =
    λ r. ap (λ (table : ℕ → Domain). (at table r).descriptors) now ∙ stays (domains old) root domain (λ d. d.descriptors) same r
    in
    record {
      of_entries = λ n.
          let stored = ap (λ (table : ℕ → Option Inode). entries_in (at table n)) inodes in
          let counted = ap (λ (table : ℕ → Option model.Inode). links table n) seen in
          let was = counts.of_entries n in omega arith;
      of_opens = λ n.
          let stored = ap (λ (table : ℕ → Option Inode). opens_in (at table n)) inodes in
          let counted = ap (λ (table : ℕ → Option model.Description). opens table n) opened in
          let was = counts.of_opens n in omega arith;
      of_descriptors = λ n.
          let stored = ap (λ (table : ℕ → Option Description). descriptors_in (at table n)) descriptions in
          let counted = same-descriptors (machine_of old) (machine_of new) slots kept n in
          let was = counts.of_descriptors n in omega arith;
    }

pub counts_with_numbers : law.CountsWithNumbers
counts_with_numbers old new root domain offs writes now same counts = keys-counted old new root domain offs (numbers_written old new writes) writes.rest now same counts

pub counts_with_space_set : law.CountsWithSpaceSet
counts_with_space_set old new root space offs handed now counts =
    keys-counted old new root (record (at (domains old) root) { space = space }) offs
    (key_handed_over old new (key_of_space space) (key_of_space (at (domains old) root).space) handed) handed.rest now refl counts

-- ---- a descriptor

numbers-times : (number : ℕ) (description : Option ℕ) → times number (numbers_of description) ≡ one_if (names_description number description)
numbers-times number None = times-none number
numbers-times number (Some other) = let a = times-cons number other [] in let b = times-none number in omega arith

pub slot-below : (kernel : Kernel) (slot root : ℕ) → at (roots kernel) slot ≡ Some root → slot < 64
unfolding roots_by at
slot-below kernel slot root has = ⊎_elim
    (λ (t : slot < 64). t)
    (λ (t : 64 ≤ slot). let no : None ≡ Some root = rw (le-ltb slot 64 t) at has in cc)
    (cases_lt slot 64)

module _ (old : Kernel) (slot root number : ℕ) (description : Option ℕ) (has : at (machine_of old).roots slot ≡ Some root) (low : slot < 64) (below : number < 32) where
  mine : Domain
  mine = record (at (domains old) root) { descriptors = with_at (at (domains old) root).descriptors number description }

  its-process : at (processes_in (machine_of old)) slot ≡ Some (process_in (machine_of old) (at (machine_of old).domains root))
  unfolding processes_in at
  its-process = ap (option_map (λ r. process_in (machine_of old) ((machine_of old).domains r))) has

  one-more : (n : ℕ) → process_descriptors n (Some (process_in (machine_of old) mine)) + one_if (names_description n (at (at (domains old) root).descriptors number))
      ≡ process_descriptors n (Some (process_in (machine_of old) (at (domains old) root))) + one_if (names_description n description)
  unfolding mine process_in
  one-more n =
      let table = (at (domains old) root).descriptors in
      let a = listed-count (names_description n) (with_at (at (domains old) root).descriptors number description) 32 in
      let b = listed-count (names_description n) (at (domains old) root).descriptors 32 in
      let c = count-with_at (names_description n) (at (domains old) root).descriptors number description 32 below in
      omega arith

  counted-now : (n : ℕ) → descriptors_of (with_at (processes_in (machine_of old)) slot (Some (process_in (machine_of old) mine))) n + one_if (names_description n (at (at (domains old) root).descriptors number))
      ≡ descriptors_of (processes_in (machine_of old)) n + one_if (names_description n description)
  unfolding descriptors_of machine_of
  counted-now n =
      let a = sum-with_at (process_descriptors n) (processes_in (machine_of old)) slot (Some (process_in (machine_of old) mine)) 64 low in
      let b = ap (process_descriptors n) its-process in
      let c = one-more n in
      omega arith

pub counts_with_descriptor : law.CountsWithDescriptor
unfolding view mine machine_of inodes_of descriptions_of
counts_with_descriptor old new slot root number was description offs writes now is has below counts =
    let low = slot-below old slot root has.0 in
    let by = to-state old offs counts in
    by-state new (record offs {
      descriptors = record { raise = numbers_of description ++ offs.descriptors.raise; lower = numbers_of was ++ offs.descriptors.lower };
    }) (inodes_of old) (descriptions_of old) (with_process (view (machine_of old)) slot (process_in (machine_of old) (mine old slot root number description has.0 low below)))
    (ap inodes_of writes.rest) (ap descriptions_of writes.rest)
    (domain_set old new slot root (mine old slot root number description has.0 low below) writes now has)
    (record {
      by_entries = by.by_entries;
      by_opens = by.by_opens;
      by_descriptors = λ n.
          let a = by.by_descriptors n in
          let b = counted-now old slot root number description has.0 low below n in
          let c = times-append n (numbers_of description) offs.descriptors.raise in
          let d = times-append n (numbers_of was) offs.descriptors.lower in
          let e = numbers-times n description in
          let f = numbers-times n was in
          let g = ap (λ held. one_if (names_description n held)) is in
          omega arith;
    })

-- ---- descriptions

-- the description of a row that is there
seen-description : (kernel : Kernel) (number : ℕ) (row : Row Description) → description_at kernel number ≡ row → at (descriptions_in (machine_of kernel)) number ≡ option_map description_in (held row)
unfolding descriptions_in machine_of descriptions_of at
seen-description kernel number row is = ap (λ r. option_map description_in (held r)) is

stored-description : (kernel : Kernel) (number : ℕ) (row : Row Description) → description_at kernel number ≡ row → at (descriptions_of kernel) number ≡ held row
unfolding descriptions_of at
stored-description kernel number row is = ap held is

used-inside : (kernel : Kernel) (number : ℕ) (row : Row Description) → description_at kernel number ≡ row → row ≢ Unspelled → number < length kernel.descriptions
used-inside kernel number row is spelled = row-inside kernel.descriptions number (λ same. spelled (sym is ∙ same))

now-stored : (old new : Kernel) (number : ℕ) (row : Row Description) → number < length old.descriptions → new ≡ record old { descriptions = set old.descriptions number row }
    → descriptions_of new ≡ with_at (descriptions_of old) number (held row)
unfolding machine_of
now-stored old new number row inside now = ap (λ (machine : KernelMachine). machine.descriptions) (description_written old new number row inside now)

-- a description of the same inode
opens-same : (descriptions : ℕ → Option model.Description) (number : ℕ) (was row : model.Description) → at descriptions number ≡ Some was → row.inode ≡ was.inode
    → (inode : ℕ) → opens (with_at descriptions number (Some row)) inode ≡ opens descriptions inode
unfolding opens
opens-same descriptions number was row there same inode =
    ap (λ test. count_below test 2048) (fun_ext (λ n. ⊎_elim
    (λ (t : n ≡ number).
    ap (λ k. description_names inode (at (with_at descriptions number (Some row)) k)) t
    ∙ ap (description_names inode) (at-with_at descriptions number (Some row))
    ∙ ap (λ k. k == inode) same
    ∙ sym (ap (description_names inode) (ap (at descriptions) t ∙ there)))
    (λ (d : n ≢ number). ap (description_names inode) (at-with_at-other descriptions number n (Some row) d))
    (cases_eq n number)))

opens-set : (descriptions : ℕ → Option model.Description) (number : ℕ) (description : Option model.Description) → number < 2048
    → (inode : ℕ) → opens (with_at descriptions number description) inode + one_if (description_names inode (at descriptions number)) ≡ opens descriptions inode + one_if (description_names inode description)
unfolding opens
opens-set descriptions number description below inode = count-with_at (description_names inode) descriptions number description 2048 below

pub counts_with_description : law.CountsWithDescription
unfolding inodes_of view
counts_with_description old new number up down was row offs now is same moved counts =
    let inside = used-inside old number (Used was) is (λ e. cc) in
    let by = to-state old offs counts in
    let there = stored-description old number (Used was) is in
    by-state new (record offs {
      descriptors = record { raise = replicate down number ++ offs.descriptors.raise; lower = replicate up number ++ offs.descriptors.lower };
    }) (inodes_of old) (with_at (descriptions_of old) number (Some row))
    (with_files (view (machine_of old)) (with_description (files_in (machine_of old)) number (description_in row)))
    (ap inodes_of now) (now-stored old new number (Used row) inside now) (description_set old new number row inside now)
    (record {
      by_entries = by.by_entries;
      by_opens = λ n.
          let a = by.by_opens n in
          let b = opens-same (descriptions_in (machine_of old)) number (description_in was) (description_in row) (seen-description old number (Used was) is) same n in
          omega arith;
      by_descriptors = λ n.
          let a = by.by_descriptors n in
          let stored = ap descriptors_in there in
          let b = stored-set descriptors_in (descriptions_of old) number (Some row) up down (omega arith) n in
          let c = times-append n (replicate down number) offs.descriptors.raise in
          let d = times-append n (replicate up number) offs.descriptors.lower in
          omega arith;
    })

pub counts_with_new_description : law.CountsWithNewDescription
unfolding inodes_of view
counts_with_new_description old new number row offs takes counts =
    let inside = used-inside old number Free takes.was_free (λ e. cc) in
    let by = to-state old offs counts in
    let there = stored-description old number Free takes.was_free in
    by-state new (record offs {
      opens = record { raise = row.inode ∷ offs.opens.raise; lower = offs.opens.lower };
      descriptors = record { raise = offs.descriptors.raise; lower = replicate row.descriptors number ++ offs.descriptors.lower };
    }) (inodes_of old) (with_at (descriptions_of old) number (Some row))
    (with_files (view (machine_of old)) (with_description (files_in (machine_of old)) number (description_in row)))
    (ap inodes_of takes.state) (now-stored old new number (Used row) inside takes.state) (description_set old new number row inside takes.state)
    (record {
      by_entries = by.by_entries;
      by_opens = λ n.
          let a = by.by_opens n in
          let b = opens-set (descriptions_in (machine_of old)) number (Some (description_in row)) takes.high n in
          let c = ap (λ d. one_if (description_names n d)) (seen-description old number Free takes.was_free) in
          let d = times-cons n row.inode offs.opens.raise in
          omega arith;
      by_descriptors = λ n.
          let a = by.by_descriptors n in
          let stored = ap descriptors_in there in
          let b = stored-set descriptors_in (descriptions_of old) number (Some row) row.descriptors 0 (omega arith) n in
          let c = times-none n in
          let d = times-append n (replicate row.descriptors number) offs.descriptors.lower in
          omega arith;
    })

pub counts_without_description : law.CountsWithoutDescription
unfolding inodes_of view machine_of
counts_without_description old new number was offs now is below counts =
    let inside = used-inside old number (Used was) is (λ e. cc) in
    let by = to-state old offs counts in
    let there = stored-description old number (Used was) is in
    by-state new (record offs {
      opens = record { raise = offs.opens.raise; lower = was.inode ∷ offs.opens.lower };
      descriptors = record { raise = replicate was.descriptors number ++ offs.descriptors.raise; lower = offs.descriptors.lower };
    }) (inodes_of old) (with_at (descriptions_of old) number None)
    (with_files (view (machine_of old)) (record (files_in (machine_of old)) { descriptions = with_at (files_in (machine_of old)).descriptions number None }))
    (ap inodes_of now) (now-stored old new number Free inside now)
    (ap view (description_written old new number Free inside now) ∙ description_freed (machine_of old) number)
    (record {
      by_entries = by.by_entries;
      by_opens = λ n.
          let a = by.by_opens n in
          let b = opens-set (descriptions_in (machine_of old)) number None below n in
          let c = ap (λ d. one_if (description_names n d)) (seen-description old number (Used was) is) in
          let d = times-cons n was.inode offs.opens.lower in
          omega arith;
      by_descriptors = λ n.
          let a = by.by_descriptors n in
          let stored = ap descriptors_in there in
          let b = stored-set descriptors_in (descriptions_of old) number None 0 was.descriptors (omega arith) n in
          let c = times-none n in
          let d = times-append n (replicate was.descriptors number) offs.descriptors.raise in
          omega arith;
    })
