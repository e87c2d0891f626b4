-- A call on the tree of a file or directory: what of the machine it changes.
use Rattle.std.proofs.Common.{◌≡◌, ◌≢◌, ℕ, ◌-◌, Some, None, refl, ap, ◌∙◌, arith}
use Rattle.std.proofs.lemmas.Bool.{ne_eqb}
use Rattle.kernel_tables.specs.declared.entry.Entry.{Entry}
use Rattle.kernel_tables.specs.declared.entry.Entry.TheVariants.{Free, Taken, Fixed, Unspelled}
use Rattle.kernel_tables.specs.declared.entry.PageOwner.{PageOwner}
use Rattle.kernel_tables.specs.declared.entry.PageOwner.TheVariants.{Buffer, Pipe as PipePage}
use Rattle.kernel_tables.specs.declared.machine.Machine.{Machine as Words}
use Rattle.kernel_tables.specs.Kernel.{Kernel, first_page, memory_page}
use Rattle.kernel_tables.specs.Rows.{entry_at, KeepsRows}
use Rattle.kernel_forest.specs.Apart.{KeepsApart}
use Rattle.kernel_forest.specs.Owners.{owner_in, page_owners}
use Rattle.kernel_forest.specs.Releases.{KeepsUnreleased}
use Rattle.kernel_forest.specs.Trees.{forest_of, page_tree}
use Rattle.kernel_forest.proofs.ApartLaws.{page_stays_apart}
use Rattle.kernel_forest.proofs.Owners.{owned-entry, owned-in-bank}
use Rattle.unix_model.specs.Tables.{at}
use Rattle.kernel_machine.specs.Laws.{ChangesMemory}
use Rattle.kernel_machine.specs.Machine.{KernelMachine, machine_of}
use Rattle.kernel_machine.specs.Standing.{LeavesSpaces}
use Rattle.kernel_machine.specs.View.{memory_in}
use Rattle.kernel_machine.proofs.MachineLaws.{spaces_changed}

is-taken : (entry : Entry PageOwner) (owner : PageOwner) → owner_in entry ≡ Some owner → (count : ℕ) × (entry ≡ Taken owner count)
is-taken (Free next) owner e = cc
is-taken (Taken held count) owner e = (count, (let same : held ≡ owner = cc in ap (λ o. Taken o count) same))
is-taken Fixed owner e = cc
is-taken Unspelled owner e = cc

module _ (old new : Kernel) (rest : KeepsUnreleased old new) where
  size-same : new.size ≡ old.size
  size-same = ap (λ (k : Kernel). k.size) rest

  -- a page that belongs to no tree has its bytes
  pub bytes-apart : KeepsApart old new → (page : ℕ) (owner : PageOwner) → page_tree owner ≡ None → at (page_owners old) page ≡ Some owner → memory_page new page ≡ memory_page old page
  unfolding first_page
  bytes-apart apart_now page owner none owned =
      let low = owned-in-bank old page owner owned in
      let real : page ≢ 0 = λ z. absurd (omega arith) in
      let taken = is-taken (entry_at old.page_entries (page - first_page old.size)) owner (owned-entry old page owner owned) in
      let same = (page_stays_apart old new (page - first_page old.size) owner taken.0 apart_now none).1 taken.1 in
      rw (ne_eqb page 0 real, size-same) same

  words-same : new.machine ≡ record new.machine { size = old.machine.size; quantum = old.machine.quantum; position = old.machine.position; next_pid = old.machine.next_pid }
  words-same =
      ap (λ s. let w : Words = record new.machine { size = s } in w) (ap (λ (k : Kernel). k.machine.size) rest)
      ∙ ap (λ q. let w : Words = record new.machine { size = old.machine.size; quantum = q } in w) (ap (λ (k : Kernel). k.machine.quantum) rest)
      ∙ ap (λ p. let w : Words = record new.machine { size = old.machine.size; quantum = old.machine.quantum; position = p } in w) (ap (λ (k : Kernel). k.machine.position) rest)
      ∙ ap (λ n. let w : Words = record new.machine { size = old.machine.size; quantum = old.machine.quantum; position = old.machine.position; next_pid = n } in w) (ap (λ (k : Kernel). k.machine.next_pid) rest)

  pub state-now :
      KeepsRows old new
      → machine_of new
      ≡ record (machine_of old) {
        forest = (machine_of new).forest;
        page_bytes = (machine_of new).page_bytes;
        page_owner = (machine_of new).page_owner;
        words = record (machine_of new).words { size = old.machine.size; quantum = old.machine.quantum; position = old.machine.position; next_pid = old.machine.next_pid };
      }
  unfolding machine_of
  state-now rows_now =
      spaces_changed old new rows_now (ap (λ (k : Kernel). k.inodes) rest) (ap (λ (k : Kernel). k.descriptions) rest)
      ∙ ap (λ w. let m : KernelMachine = record (machine_of old) { forest = forest_of new; page_bytes = memory_page new; page_owner = page_owners new; words = w } in m) words-same

pub changes_memory : (old new : Kernel) (space : ℕ) → LeavesSpaces old new space → ChangesMemory (machine_of old) (machine_of new) space
unfolding machine_of memory_in at
changes_memory old new space leaves = record {
  rest = state-now old new leaves.rest leaves.rows_now;
  memories = λ other apart is. leaves.memories other is apart;
  buffers = λ page owned. bytes-apart old new leaves.rest leaves.apart_now page Buffer refl owned;
  pipes = λ page owned. bytes-apart old new leaves.rest leaves.apart_now page PipePage refl owned;
}
