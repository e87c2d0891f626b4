-- How far the counts are off, along with domains that are born, end and go.
use Rattle.std.proofs.Common.{◌≡◌, ◌≢◌, ◌<◌, ℕ, Option, Some, None, List, refl, sym, ap, ap₂, ◌∙◌, arith, ⊎_elim}
use Rattle.std.specs.List.{count_by}
use Rattle.std.proofs.Math.Path.{fun_ext}
use Rattle.std.proofs.lemmas.Bool.{cases_eq}
use Rattle.kernel_tables.specs.declared.description.Description.{Description}
use Rattle.kernel_tables.specs.declared.inode.Inode.{Inode}
use Rattle.kernel_tables.specs.Kernel.{Kernel, memory_page}
use Rattle.kernel_tables.specs.Rows.{domain_rows}
use Rattle.forest.specs.Forest.{Forest}
use Rattle.kernel_forest.specs.Trees.{forest_of}
use Rattle.domain.specs.Domains.{Domain, no_domain, domains, roots, roots_by}
use Rattle.domain.specs.Ends.{MakesZombie, MayEnd, DropsDomain, MayDrop, ended}
use Rattle.domain.specs.Life.{MakesDomain, born}
use Rattle.domain.specs.Rules.{RowsGood}
use Rattle.unix_model.specs.Files as model
use Rattle.unix_model.specs.Files.{links}
use Rattle.unix_model.specs.State.{names_description}
use Rattle.unix_model.specs.Tables.{at, sum_below}
use Rattle.unix_model.proofs.RoomLaws.{sum-with_at}
use Rattle.unix_model.proofs.TableLaws.{at-with_at, at-with_at-other}
use Rattle.kernel_machine.specs.Counts.{opens, descriptors_of}
use Rattle.kernel_counts.specs.Counted as law
use Rattle.kernel_counts.specs.Counted.{CountsOff, Offs, descriptors_in, entries_in, opens_in}
use Rattle.kernel_machine.specs.Machine.{KernelMachine, machine_of, inodes_of, descriptions_of}
use Rattle.kernel_machine.specs.View.{listed, processes_in, memory_in, file_memory, inode_in, inodes_in, descriptions_in}
use Rattle.kernel_counts.proofs.CountsStand.{by-roots, held-descriptors, same-descriptors}
use Rattle.kernel_machine.proofs.EndStands.{no-descriptors}
use Rattle.kernel_counts.proofs.TallyLaws.{listed-count, never-counted}

-- ---- inodes, where trees and bytes are the same

inodes-by : KernelMachine → Forest → (ℕ → List ℕ) → (ℕ → Option Inode) → ℕ → Option model.Inode
inodes-by machine forest bytes inodes = inodes_in (record machine { forest = forest; page_bytes = bytes; inodes = inodes })

inodes-same : (old new : Kernel) → forest_of new ≡ forest_of old → memory_page new ≡ memory_page old → inodes_of new ≡ inodes_of old → inodes_in (machine_of new) ≡ inodes_in (machine_of old)
unfolding machine_of inodes_in inode_in file_memory memory_in inodes-by
inodes-same old new forest bytes inodes =
    ap (λ f. inodes-by (machine_of old) f (memory_page new) (inodes_of new)) forest
    ∙ ap (λ b. inodes-by (machine_of old) (forest_of old) b (inodes_of new)) bytes
    ∙ ap (λ i. inodes-by (machine_of old) (forest_of old) (memory_page old) i) inodes

opened-same : (old new : Kernel) → descriptions_of new ≡ descriptions_of old → descriptions_in (machine_of new) ≡ descriptions_in (machine_of old)
unfolding machine_of descriptions_in
opened-same old new descriptions = ap (λ (table : ℕ → Option Description). descriptions_in (record (machine_of old) { descriptions = table })) descriptions

-- rows are the same, and as many names and descriptors are counted
pub counted-by : (old new : Kernel) (offs : Offs) → inodes_of new ≡ inodes_of old → descriptions_of new ≡ descriptions_of old
    → ((number : ℕ) → links (inodes_in (machine_of new)) number ≡ links (inodes_in (machine_of old)) number)
    → ((number : ℕ) → descriptors_of (processes_in (machine_of new)) number ≡ descriptors_of (processes_in (machine_of old)) number) → CountsOff old offs → CountsOff new offs
counted-by old new offs inodes descriptions named same counts =
    record {
      of_entries = λ n.
          let stored = ap (λ (table : ℕ → Option Inode). entries_in (at table n)) inodes in
          let names = named n in
          let was = counts.of_entries n in omega arith;
      of_opens = λ n.
          let stored = ap (λ (table : ℕ → Option Inode). opens_in (at table n)) inodes in
          let opened = ap (λ (table : ℕ → Option model.Description). opens table n) (opened-same old new descriptions) in
          let was = counts.of_opens n in omega arith;
      of_descriptors = λ n.
          let stored = ap (λ (table : ℕ → Option Description). descriptors_in (at table n)) descriptions in
          let now = same n in
          let was = counts.of_descriptors n in omega arith;
    }

-- likewise where trees and bytes are the same
counted : (old new : Kernel) (offs : Offs) → forest_of new ≡ forest_of old → memory_page new ≡ memory_page old → inodes_of new ≡ inodes_of old → descriptions_of new ≡ descriptions_of old
    → ((number : ℕ) → descriptors_of (processes_in (machine_of new)) number ≡ descriptors_of (processes_in (machine_of old)) number) → CountsOff old offs → CountsOff new offs
counted old new offs forest bytes inodes descriptions same counts =
    counted-by old new offs inodes descriptions (λ n. ap (λ (table : ℕ → Option model.Inode). links table n) (inodes-same old new forest bytes inodes)) same counts

-- ---- without descriptors

none-held : (number : ℕ) (table : ℕ → ℕ → Option ℕ) (root : ℕ) → ((n : ℕ) → at (table root) n ≡ None) → held-descriptors number table (Some root) ≡ 0
unfolding held-descriptors
none-held number table root none =
    listed-count (names_description number) (table root) 32 ∙ never-counted (λ n. names_description number (at (table root) n)) 32 (λ n. ap (names_description number) (none n))

nobody : (number : ℕ) (table : ℕ → ℕ → Option ℕ) → held-descriptors number table None ≡ 0
unfolding held-descriptors
nobody number table = refl

-- a table, read by its word
read-at : {X : Type 0} (table : ℕ → X) (n : ℕ) → table n ≡ at table n
unfolding at
read-at table n = refl

-- ---- a domain is made

module _ (old new : Kernel) (slot space root : ℕ) (made : MakesDomain old new slot space root) (below : slot < 64) (free : at (roots old) slot ≡ None) (apart : (other : ℕ) → at (roots old) other ≢ Some root) where
  other-held : (number : ℕ) (held : Option ℕ) → held ≢ Some root → held-descriptors number (λ r. (at (domains new) r).descriptors) held ≡ held-descriptors number (λ r. (at (domains old) r).descriptors) held
  unfolding held-descriptors
  other-held number None differs = refl
  other-held number (Some other) differs =
      ap (λ (table : ℕ → Domain). count_by (names_description number) (listed (at table other).descriptors 32)) made.domains_now
      ∙ ap (λ (domain : Domain). count_by (names_description number) (listed domain.descriptors 32))
      (at-with_at-other (domains old) root other (born slot space made.regs made.descriptors) (λ same. differs (ap Some same)))

  its-none : (n : ℕ) → at (at (domains new) root).descriptors n ≡ None
  unfolding at
  its-none n =
      ap (λ (table : ℕ → Domain). (table root).descriptors n) made.domains_now
      ∙ ap (λ (domain : Domain). domain.descriptors n) (at-with_at (domains old) root (born slot space made.regs made.descriptors))

  born-same : (number : ℕ) → descriptors_of (processes_in (machine_of new)) number ≡ descriptors_of (processes_in (machine_of old)) number
  unfolding machine_of
  born-same number =
      let now = by-roots (machine_of new) number in
      let was = by-roots (machine_of old) number in
      let slots = ap (λ (table : ℕ → Option ℕ). sum_below (λ s. held-descriptors number (λ r. (at (domains new) r).descriptors) (at table s)) 64) made.roots_now in
      let set = sum-with_at (held-descriptors number (λ r. (at (domains new) r).descriptors)) (roots old) slot (Some root) 64 below in
      let none = none-held number (λ r. (at (domains new) r).descriptors) root its-none in
      let before = ap (held-descriptors number (λ r. (at (domains new) r).descriptors)) free in
      let nothing = nobody number (λ r. (at (domains new) r).descriptors) in
      let others = ap (λ f. sum_below f 64) (fun_ext (λ s. other-held number (at (roots old) s) (apart s))) in
      omega arith

pub counts_with_birth : law.CountsWithBirth
unfolding inodes_of descriptions_of
counts_with_birth old new slot space root offs made below free apart counts =
    counted old new offs made.forest_now (ap memory_page made.rest) (ap inodes_of made.rest) (ap descriptions_of made.rest) (born-same old new slot space root made below free apart) counts

-- ---- a domain ends

module _ (old new : Kernel) (root : ℕ) (ends : MakesZombie old new root) (may : MayEnd old root) where
  ended-same : (other : ℕ) → (at (domains new) other).descriptors ≡ (at (domains old) other).descriptors
  ended-same other = ⊎_elim
      (λ (t : other ≡ root).
      ap (λ r. (at (domains new) r).descriptors) t
      ∙ ap (λ (table : ℕ → Domain). (at table root).descriptors) ends.domains_now
      ∙ ap (λ (domain : Domain). domain.descriptors) (at-with_at (domains old) root (ended (at (domains old) root)))
      ∙ fun_ext (λ n. sym (closed n))
      ∙ ap (λ r. (at (domains old) r).descriptors) (sym t))
      (λ (d : other ≢ root).
      ap (λ (table : ℕ → Domain). (at table other).descriptors) ends.domains_now
      ∙ ap (λ (domain : Domain). domain.descriptors) (at-with_at-other (domains old) root other (ended (at (domains old) root)) d))
      (cases_eq other root)
    where
      closed : (n : ℕ) → (at (domains old) root).descriptors n ≡ None
      closed n = read-at (at (domains old) root).descriptors n ∙ may.closed n

  slots-same : roots new ≡ roots old
  slots-same = ap roots_by ends.fixed_now

  ends-same : (number : ℕ) → descriptors_of (processes_in (machine_of new)) number ≡ descriptors_of (processes_in (machine_of old)) number
  unfolding machine_of
  ends-same number = same-descriptors (machine_of old) (machine_of new) slots-same ended-same number

pub counts_with_end : law.CountsWithEnd
unfolding inodes_of descriptions_of
counts_with_end old new root offs ends may counts =
    counted old new offs ends.forest_now (ap memory_page ends.rest) (ap inodes_of ends.rest) (ap descriptions_of ends.rest) (ends-same old new root ends may) counts

-- ---- a zombie is dropped

module _ (old new : Kernel) (slot root : ℕ) (drops : DropsDomain old new slot root) (may : MayDrop old root) (rows : RowsGood (domain_rows old)) (has : at (roots old) slot ≡ Some root) (below : slot < 64) where
  gone-same : (other : ℕ) → (at (domains new) other).descriptors ≡ (at (domains old) other).descriptors
  gone-same other = ⊎_elim
      (λ (t : other ≡ root).
      ap (λ r. (at (domains new) r).descriptors) t
      ∙ ap (λ (table : ℕ → Domain). (at table root).descriptors) drops.domains_now
      ∙ ap (λ (domain : Domain). domain.descriptors) (at-with_at (domains old) root no_domain)
      ∙ fun_ext (λ n. sym (no-descriptors old root rows may n))
      ∙ ap (λ r. (at (domains old) r).descriptors) (sym t))
      (λ (d : other ≢ root).
      ap (λ (table : ℕ → Domain). (at table other).descriptors) drops.domains_now
      ∙ ap (λ (domain : Domain). domain.descriptors) (at-with_at-other (domains old) root other no_domain d))
      (cases_eq other root)

  dropped-none : (number : ℕ) → held-descriptors number (λ r. (at (domains old) r).descriptors) (Some root) ≡ 0
  dropped-none number = none-held number (λ r. (at (domains old) r).descriptors) root (λ n. sym (read-at (at (domains old) root).descriptors n) ∙ no-descriptors old root rows may n)

  drop-same : (number : ℕ) → descriptors_of (processes_in (machine_of new)) number ≡ descriptors_of (processes_in (machine_of old)) number
  unfolding machine_of
  drop-same number =
      let now = by-roots (machine_of new) number in
      let was = by-roots (machine_of old) number in
      let tables = ap₂ (λ (table : ℕ → ℕ → Option ℕ) (slots : ℕ → Option ℕ). sum_below (λ s. held-descriptors number table (at slots s)) 64) (fun_ext gone-same) drops.roots_now in
      let set = sum-with_at (held-descriptors number (λ r. (at (domains old) r).descriptors)) (roots old) slot None 64 below in
      let none = dropped-none number in
      let before = ap (held-descriptors number (λ r. (at (domains old) r).descriptors)) has in
      let nothing = nobody number (λ r. (at (domains old) r).descriptors) in
      omega arith

pub counts_with_gone : law.CountsWithGone
unfolding inodes_of descriptions_of
counts_with_gone old new slot root offs drops may rows has below counts =
    counted old new offs drops.forest_now (ap memory_page drops.rest) (ap inodes_of drops.rest) (ap descriptions_of drops.rest) (drop-same old new slot root drops may rows has below) counts
