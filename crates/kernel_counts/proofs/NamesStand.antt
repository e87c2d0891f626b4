-- How far the counts are off, along with names and rows of inodes.
use Rattle.std.proofs.Common.{◌≡◌, ◌≢◌, ◌<◌, ◌+◌, ℕ, false, Option, Some, None, List, [], ◌∷◌, ◌++◌, length, set, refl, sym, ap, ap₂, ◌∙◌, arith}
use Rattle.std.specs.Prelude.{◌/◌, is_some, option_map, replicate}
use Rattle.std.specs.List.{count_by, list_any}
use Rattle.kernel_tables.specs.declared.inode.Inode.{Inode}
use Rattle.kernel_tables.specs.declared.inode.InodeKind.{InodeKind}
use Rattle.kernel_tables.specs.declared.inode.InodeKind.TheVariants.{File, Dir, Pipe, Console}
use Rattle.kernel_tables.specs.declared.row.Row.{Row}
use Rattle.kernel_tables.specs.declared.row.Row.TheVariants.{Free, Used, Unspelled}
use Rattle.kernel_tables.specs.Kernel.{Kernel, inode_at}
use Rattle.file_tables.specs.Numbers.{fresh_inode}
use Rattle.unix_model.specs.Files as model
use Rattle.unix_model.specs.Files.{Entry, entry_names, has_names, links, places_of, with_inode}
use Rattle.unix_model.specs.Limits.{place_bytes}
use Rattle.unix_model.specs.State.{with_files}
use Rattle.unix_model.specs.Tables.{at, with_at}
use Rattle.unix_model.proofs.RoomLaws.{sum-with_at}
use Rattle.kernel_machine.specs.Contents.{file_in, places_in}
use Rattle.kernel_counts.specs.Counted as law
use Rattle.kernel_counts.specs.Counted.{ChangesNames, CountsOff, Offs, entries_in, opens_in, times}
use Rattle.kernel_machine.specs.Machine.{KernelMachine, machine_of, inodes_of, descriptions_of, held}
use Rattle.kernel_machine.specs.View.{view, file_memory, inode_by, inode_in, inodes_in, files_in}
use Rattle.kernel_counts.proofs.CountsStand.{by-state, to-state}
use Rattle.kernel_machine.proofs.MachineLaws.{inode_written}
use Rattle.kernel_machine.proofs.SetLaws.{inode_set}
use Rattle.kernel_counts.proofs.TallyLaws.{count-cons, stored-set, times-append, times-none}
use Rattle.kernel_machine.proofs.OwnerLaws.{row-inside}
use Rattle.kernel_machine.proofs.ViewLaws.{inode_freed}

-- ---- names

-- the names of an inode that keeps its root and its length
kept-by : (machine : KernelMachine) (was row : Inode) → row.root ≡ was.root → row.length ≡ was.length → (kind : InodeKind) → places_of (Some (inode_by machine row kind)) ≡ places_of (Some (inode_by machine was kind))
kept-by machine was row root size File = refl
kept-by machine was row root size Dir = ap₂ (λ r l. places_in (file_in (file_memory machine r) l) (l / place_bytes)) root size
kept-by machine was row root size Pipe = refl
kept-by machine was row root size Console = refl

pub names_kept : law.NamesKept
unfolding inode_in
names_kept kernel was row kind root size inode =
    let same : places_of (Some (inode_in (machine_of kernel) row)) ≡ places_of (Some (inode_in (machine_of kernel) was)) =
    ap (λ k. places_of (Some (inode_by (machine_of kernel) row k))) kind ∙ kept-by (machine_of kernel) was row root size was.kind
    in
    ap (λ places. count_by (entry_names inode) places + times inode []) same

-- a directory without names
no-names : (inode : ℕ) (places : List (Option Entry)) → list_any is_some places ≡ false → count_by (entry_names inode) places ≡ 0
no-names inode [] none = refl
no-names inode (None ∷ places) none = let rest = no-names inode places none in let first = count-cons (entry_names inode) None places in omega arith
no-names inode (Some entry ∷ places) none = cc

-- a fresh inode has none
fresh-names : (machine : KernelMachine) (kind : InodeKind) → places_of (Some (inode_by machine (fresh_inode kind) kind)) ≡ []
unfolding places_in
fresh-names machine File = refl
fresh-names machine Dir = refl
fresh-names machine Pipe = refl
fresh-names machine Console = refl

-- ---- links

links-set : (inodes : ℕ → Option model.Inode) (number : ℕ) (inode : Option model.Inode) → number < 1024
    → (n : ℕ) → links (with_at inodes number inode) n + count_by (entry_names n) (places_of (at inodes number)) ≡ links inodes n + count_by (entry_names n) (places_of inode)
unfolding links
links-set inodes number inode below n = let a = sum-with_at (λ x. count_by (entry_names n) (places_of x)) inodes number inode 1024 below in omega arith

pub counts_with_bytes : law.CountsWithBytes
unfolding view
counts_with_bytes old new number inode gained lost offs seen inodes descriptions below names counts =
    let by = to-state old offs counts in
    by-state new (record offs { entries = record { raise = gained ++ offs.entries.raise; lower = lost ++ offs.entries.lower } })
    (inodes_of old) (descriptions_of old) (with_files (view (machine_of old)) (with_inode (files_in (machine_of old)) number inode)) inodes descriptions seen
    (record {
      by_entries = λ n.
          let a = by.by_entries n in
          let b = links-set (inodes_in (machine_of old)) number (Some inode) below n in
          let c = names n in
          let d = times-append n gained offs.entries.raise in
          let e = times-append n lost offs.entries.lower in
          omega arith;
      by_opens = by.by_opens;
      by_descriptors = by.by_descriptors;
    })

-- ---- rows

seen-inode : (kernel : Kernel) (number : ℕ) (row : Row Inode) → inode_at kernel number ≡ row → at (inodes_in (machine_of kernel)) number ≡ option_map (inode_in (machine_of kernel)) (held row)
unfolding inodes_in machine_of inodes_of at
seen-inode kernel number row is = ap (λ r. option_map (inode_in (machine_of kernel)) (held r)) is

stored-inode : (kernel : Kernel) (number : ℕ) (row : Row Inode) → inode_at kernel number ≡ row → at (inodes_of kernel) number ≡ held row
unfolding inodes_of at
stored-inode kernel number row is = ap held is

row-there : (kernel : Kernel) (number : ℕ) (row : Row Inode) → inode_at kernel number ≡ row → row ≢ Unspelled → number < length kernel.inodes
row-there kernel number row is spelled = row-inside kernel.inodes number (λ same. spelled (sym is ∙ same))

inodes-now : (old new : Kernel) (number : ℕ) (row : Row Inode) → number < length old.inodes → new ≡ record old { inodes = set old.inodes number row }
    → inodes_of new ≡ with_at (inodes_of old) number (held row)
unfolding machine_of
inodes-now old new number row inside now = ap (λ (machine : KernelMachine). machine.inodes) (inode_written old new number row inside now)

pub counts_with_inode : law.CountsWithInode
unfolding descriptions_of view
counts_with_inode old new number linked unlinked opened closed was row gained lost offs now is below entries opens names counts =
    let inside = row-there old number (Used was) is (λ e. cc) in
    let by = to-state old offs counts in
    let there = stored-inode old number (Used was) is in
    by-state new (record offs {
      entries = record {
        raise = gained ++ (replicate unlinked number ++ offs.entries.raise);
        lower = lost ++ (replicate linked number ++ offs.entries.lower);
      };
      opens = record { raise = replicate closed number ++ offs.opens.raise; lower = replicate opened number ++ offs.opens.lower };
    }) (with_at (inodes_of old) number (Some row)) (descriptions_of old)
    (with_files (view (machine_of old)) (with_inode (files_in (machine_of old)) number (inode_in (machine_of old) row)))
    (inodes-now old new number (Used row) inside now) (ap descriptions_of now) (inode_set old new number row inside now)
    (record {
      by_entries = λ n.
          let a = by.by_entries n in
          let b = links-set (inodes_in (machine_of old)) number (Some (inode_in (machine_of old) row)) below n in
          let c = names n in
          let d = ap (λ i. count_by (entry_names n) (places_of i)) (seen-inode old number (Used was) is) in
          let stored = ap entries_in there in
          let e = stored-set entries_in (inodes_of old) number (Some row) linked unlinked (omega arith) n in
          let f = times-append n gained (replicate unlinked number ++ offs.entries.raise) in
          let g = times-append n (replicate unlinked number) offs.entries.raise in
          let h = times-append n lost (replicate linked number ++ offs.entries.lower) in
          let i = times-append n (replicate linked number) offs.entries.lower in
          omega arith;
      by_opens = λ n.
          let a = by.by_opens n in
          let stored = ap opens_in there in
          let b = stored-set opens_in (inodes_of old) number (Some row) opened closed (omega arith) n in
          let c = times-append n (replicate closed number) offs.opens.raise in
          let d = times-append n (replicate opened number) offs.opens.lower in
          omega arith;
      by_descriptors = by.by_descriptors;
    })

pub counts_with_new_inode : law.CountsWithNewInode
unfolding descriptions_of view inode_in
counts_with_new_inode old new kind number offs takes counts =
    let inside = row-there old number Free takes.was_free (λ e. cc) in
    let by = to-state old offs counts in
    let there = stored-inode old number Free takes.was_free in
    by-state new offs (with_at (inodes_of old) number (Some (fresh_inode kind))) (descriptions_of old)
    (with_files (view (machine_of old)) (with_inode (files_in (machine_of old)) number (inode_in (machine_of old) (fresh_inode kind))))
    (inodes-now old new number (Used (fresh_inode kind)) inside takes.state) (ap descriptions_of takes.state) (inode_set old new number (fresh_inode kind) inside takes.state)
    (record {
      by_entries = λ n.
          let a = by.by_entries n in
          let b = links-set (inodes_in (machine_of old)) number (Some (inode_in (machine_of old) (fresh_inode kind))) takes.high n in
          let c = ap (count_by (entry_names n)) (fresh-names (machine_of old) kind) in
          let d = ap (λ i. count_by (entry_names n) (places_of i)) (seen-inode old number Free takes.was_free) in
          let stored = ap entries_in there in
          let e = stored-set entries_in (inodes_of old) number (Some (fresh_inode kind)) 0 0 (omega arith) n in
          let f = times-none n in
          omega arith;
      by_opens = λ n.
          let a = by.by_opens n in
          let stored = ap opens_in there in
          let b = stored-set opens_in (inodes_of old) number (Some (fresh_inode kind)) 0 0 (omega arith) n in
          let c = times-none n in
          omega arith;
      by_descriptors = by.by_descriptors;
    })

pub counts_without_inode : law.CountsWithoutInode
unfolding descriptions_of view machine_of
counts_without_inode old new number was offs now is below unnamed counts =
    let inside = row-there old number (Used was) is (λ e. cc) in
    let by = to-state old offs counts in
    let there = stored-inode old number (Used was) is in
    by-state new (record offs {
      entries = record { raise = replicate was.entries number ++ offs.entries.raise; lower = offs.entries.lower };
      opens = record { raise = replicate was.opens number ++ offs.opens.raise; lower = offs.opens.lower };
    }) (with_at (inodes_of old) number None) (descriptions_of old)
    (with_files (view (machine_of old)) (record (files_in (machine_of old)) { inodes = with_at (files_in (machine_of old)).inodes number None }))
    (inodes-now old new number Free inside now) (ap descriptions_of now)
    (ap view (inode_written old new number Free inside now) ∙ inode_freed (machine_of old) number)
    (record {
      by_entries = λ n.
          let a = by.by_entries n in
          let b = links-set (inodes_in (machine_of old)) number None below n in
          let c = no-names n (places_of (Some (inode_in (machine_of old) was))) unnamed in
          let d = ap (λ i. count_by (entry_names n) (places_of i)) (seen-inode old number (Used was) is) in
          let stored = ap entries_in there in
          let e = stored-set entries_in (inodes_of old) number None 0 was.entries (omega arith) n in
          let f = times-none n in
          let g = times-append n (replicate was.entries number) offs.entries.raise in
          omega arith;
      by_opens = λ n.
          let a = by.by_opens n in
          let stored = ap opens_in there in
          let b = stored-set opens_in (inodes_of old) number None 0 was.opens (omega arith) n in
          let c = times-none n in
          let d = times-append n (replicate was.opens number) offs.opens.raise in
          omega arith;
      by_descriptors = by.by_descriptors;
    })
