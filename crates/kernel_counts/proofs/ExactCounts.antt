-- Between turns no count is off, and where none is the counts are settled.
use Rattle.std.proofs.Common.{◌≡◌, ◌≢◌, ℕ, true, false, Option, Some, None, get_or, refl, sym, ap, ◌∙◌, arith}
use Rattle.std.specs.Prelude.{◌==◌, is_some, option_map}
use Rattle.std.specs.Option.{IsSome}
use Rattle.std.specs.List.{count_by}
use Rattle.std.proofs.lemmas.Bool.{ne_eqb}
use Rattle.kernel_tables.specs.declared.description.Description.{Description}
use Rattle.kernel_tables.specs.declared.inode.Inode.{Inode}
use Rattle.kernel_tables.specs.Kernel.{Kernel}
use Rattle.unix_model.specs.Calls.{Calls}
use Rattle.unix_model.specs.Files as model
use Rattle.unix_model.specs.Files.{Entry, description_names, entry_names, is_directory, links, places_of}
use Rattle.unix_model.specs.Process.{Process}
use Rattle.unix_model.specs.Rules.{AreInodes, IsTree, AreOpen, IsUnix, is_named_kind}
use Rattle.unix_model.specs.State.{names_description}
use Rattle.unix_model.specs.Tables.{at}
use Rattle.unix_model.proofs.CountLaws.{one_if}
use Rattle.kernel_machine.specs.Counts.{descriptors_of, opens, process_descriptors}
use Rattle.kernel_counts.specs.Counted as law
use Rattle.kernel_counts.specs.Counted.{CountsOff, all_exact, descriptors_in, entries_in, opens_in, times}
use Rattle.kernel_machine.specs.Good.{Good}
use Rattle.kernel_machine.specs.Machine.{machine_of, inodes_of, descriptions_of}
use Rattle.kernel_machine.specs.View.{view, processes_in, inode_in, inodes_in, description_in, descriptions_in}
use Rattle.kernel_counts.proofs.TallyLaws.{count-zero, never-counted, sum-never}

-- ---- what isn't there

-- no entry names an inode that isn't there
no-entry : (inodes : ℕ → Option model.Inode) (number : ℕ) → IsTree inodes → at inodes number ≡ None → (directory place : ℕ) (entry : Option Entry)
    → get_or (places_of (at inodes directory)) place None ≡ entry → entry_names number entry ≡ false
no-entry inodes number tree none directory place None is = refl
no-entry inodes number tree none directory place (Some entry) is = ne_eqb entry.inode number (λ same.
    let no : true ≡ false = sym (tree.names directory place entry is) ∙ ap (λ n. is_named_kind (at inodes n)) same ∙ ap is_named_kind none in cc)

links-absent : (inodes : ℕ → Option model.Inode) (number : ℕ) → AreInodes inodes → IsTree inodes → at inodes number ≡ None → links inodes number ≡ 0
unfolding links
links-absent inodes number are tree none =
    let sum = sum-never (λ n. count_by (entry_names number) (places_of (at inodes n))) 1024
    (λ n. count-zero (entry_names number) (places_of (at inodes n)) None (λ place. no-entry inodes number tree none n place (get_or (places_of (at inodes n)) place None) refl))
    in
    let other : number ≢ 1 = λ same. let no : true ≡ false = sym are.root ∙ ap (λ n. is_directory (at inodes n)) (sym same) ∙ ap is_directory none in cc in
    let root : one_if (number == model.root_inode) ≡ 0 = ap one_if (ne_eqb number 1 other) in
    omega arith

opens-absent : (inodes : ℕ → Option model.Inode) (descriptions : ℕ → Option model.Description) (number : ℕ)
    → ((n : ℕ) (description : model.Description) → at descriptions n ≡ Some description → IsSome (at inodes description.inode)) → at inodes number ≡ None → opens descriptions number ≡ 0
unfolding opens
opens-absent inodes descriptions number each none = never-counted (λ n. description_names number (at descriptions n)) 2048 (λ n. by-description n (at descriptions n) refl)
  where
    by-description : (n : ℕ) (description : Option model.Description) → at descriptions n ≡ description → description_names number description ≡ false
    by-description n None is = refl
    by-description n (Some description) is = ne_eqb description.inode number (λ same.
        let no : true ≡ false = sym (each n description is) ∙ ap (λ k. is_some (at inodes k)) same ∙ ap is_some none in cc)

descriptors-absent : (processes : ℕ → Option Process) (descriptions : ℕ → Option model.Description) (number : ℕ) → AreOpen processes descriptions → at descriptions number ≡ None → descriptors_of processes number ≡ 0
unfolding descriptors_of
descriptors-absent processes descriptions number are none = sum-never (λ slot. process_descriptors number (at processes slot)) 64 (λ slot. by-process slot (at processes slot) refl)
  where
    by-process : (slot : ℕ) (process : Option Process) → at processes slot ≡ process → process_descriptors number process ≡ 0
    by-process slot None is = refl
    by-process slot (Some process) is =
        count-zero (names_description number) process.descriptors None (λ place. by-descriptor slot process is place (get_or process.descriptors place None) refl)
      where
        by-descriptor : (slot : ℕ) (process : Process) → at processes slot ≡ Some process → (place : ℕ) (description : Option ℕ) → get_or process.descriptors place None ≡ description → names_description number description ≡ false
        by-descriptor slot process there place None e = refl
        by-descriptor slot process there place (Some description) e = ne_eqb description number (λ same.
            let no : true ≡ false = sym (are.there slot place description process there e) ∙ ap (λ k. is_some (at descriptions k)) same ∙ ap is_some none in cc)

-- ---- tables and the flat state

none-seen : (kernel : Kernel) (number : ℕ) → at (inodes_of kernel) number ≡ None → at (inodes_in (machine_of kernel)) number ≡ None
unfolding inodes_in machine_of at
none-seen kernel number none = ap (option_map (inode_in (machine_of kernel))) none

none-open : (kernel : Kernel) (number : ℕ) → at (descriptions_of kernel) number ≡ None → at (descriptions_in (machine_of kernel)) number ≡ None
unfolding descriptions_in machine_of at
none-open kernel number none = ap (option_map description_in) none

module _ (calls : Calls) (kernel : Kernel) (good : Good calls kernel) where
  unix : IsUnix calls (view (machine_of kernel))
  unix = good.machine.unix

  tree : IsTree (inodes_in (machine_of kernel))
  unfolding view
  tree = good.machine.unix.tree

  inodes : AreInodes (inodes_in (machine_of kernel))
  unfolding view
  inodes = good.machine.unix.inodes

  each : (n : ℕ) (description : model.Description) → at (descriptions_in (machine_of kernel)) n ≡ Some description → IsSome (at (inodes_in (machine_of kernel)) description.inode)
  unfolding view
  each n description there = (good.machine.unix.descriptions.each n description there).inode

  opened : AreOpen (processes_in (machine_of kernel)) (descriptions_in (machine_of kernel))
  unfolding view
  opened = good.machine.unix.opens

  entries-exact : (number : ℕ) (inode : Option Inode) → at (inodes_of kernel) number ≡ inode → entries_in inode ≡ links (inodes_in (machine_of kernel)) number
  unfolding machine_of
  entries-exact number None is = sym (links-absent (inodes_in (machine_of kernel)) number inodes tree (none-seen kernel number is))
  entries-exact number (Some inode) is = good.machine.inodes_counted.entries number inode is

  opens-exact : (number : ℕ) (inode : Option Inode) → at (inodes_of kernel) number ≡ inode → opens_in inode ≡ opens (descriptions_in (machine_of kernel)) number
  unfolding machine_of
  opens-exact number None is = sym (opens-absent (inodes_in (machine_of kernel)) (descriptions_in (machine_of kernel)) number each (none-seen kernel number is))
  opens-exact number (Some inode) is = good.machine.inodes_counted.opened number inode is

  descriptors-exact : (number : ℕ) (description : Option Description) → at (descriptions_of kernel) number ≡ description → descriptors_in description ≡ descriptors_of (processes_in (machine_of kernel)) number
  unfolding machine_of
  descriptors-exact number None is = sym (descriptors-absent (processes_in (machine_of kernel)) (descriptions_in (machine_of kernel)) number opened (none-open kernel number is))
  descriptors-exact number (Some description) is = good.machine.descriptions_counted number description is

pub counts_are_exact : law.CountsAreExact
counts_are_exact calls kernel good = record {
  of_entries = λ n. let a = entries-exact calls kernel good n (at (inodes_of kernel) n) refl in omega arith;
  of_opens = λ n. let a = opens-exact calls kernel good n (at (inodes_of kernel) n) refl in omega arith;
  of_descriptors = λ n. let a = descriptors-exact calls kernel good n (at (descriptions_of kernel) n) refl in omega arith;
}

pub counts_settle : law.CountsSettle
unfolding machine_of
counts_settle kernel counts = (
  record {
    entries = λ number inode there. let a = ap entries_in there in let b = counts.of_entries number in omega arith;
    opened = λ number inode there. let a = ap opens_in there in let b = counts.of_opens number in omega arith;
  },
  λ number description there. let a = ap descriptors_in there in let b = counts.of_descriptors number in omega arith,
)
