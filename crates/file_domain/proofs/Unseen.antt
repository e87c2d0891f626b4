-- What is loose is no part of the flat state.
use Rattle.std.proofs.Common.{◌≡◌, ◌≢◌, ℕ, Option, Some, None, [], refl, ap, ap₂, sym, subst, ◌∙◌}
use Rattle.std.proofs.Math.Path.{fun_ext}
use Rattle.std.specs.Prelude.{option_map}
use Rattle.kernel_tables.specs.declared.entry.PageOwner.TheVariants.{Buffer, Pipe as PipePage}
use Rattle.kernel_tables.specs.declared.inode.Inode.{Inode}
use Rattle.kernel_tables.specs.declared.inode.InodeKind.TheVariants.{Pipe}
use Rattle.kernel_tables.specs.Kernel.{Kernel, memory_page}
use Rattle.space_bank.specs.Bank.{BankGood}
use Rattle.file_tables.specs.Roots.{named_by}
use Rattle.unix_model.specs.Files as model
use Rattle.unix_model.specs.Process.{Process}
use Rattle.unix_model.specs.State.{Unix}
use Rattle.unix_model.specs.Tables.{at}
use Rattle.forest.specs.Calls.{DropsSpace}
use Rattle.forest.specs.Forest.{IsSpace}
use Rattle.forest.specs.Objects.{OfFile, OfProcess}
use Rattle.kernel_forest.specs.Owners.{page_owners}
use Rattle.kernel_forest.specs.Trees.{forest_of, TreesGood}
use Rattle.seg_tree.specs.Promises.{Drops}
use Rattle.domain.specs.Domains.{domains}
use Rattle.kernel_machine.specs.Loose.{Loose, Nothing, Space, Tree, Ring, IsTaken, StandingBut}
use Rattle.kernel_machine.specs.Machine.{KernelMachine, machine_of, inodes_of}
use Rattle.kernel_machine.specs.Trees.{HasTree}
use Rattle.kernel_machine.specs.View.{view, memory_in, process_in, processes_in, inode_in, inodes_in, descriptions_in}
use Rattle.kernel_machine.proofs.LooseLaws.{ring-word, tree-word}
use Rattle.kernel_machine.proofs.MemoryLaws.{made-same, process-kept, inode-kept, tree-of, page-of}
use Rattle.kernel_machine.proofs.RootStands.{ring-real}
use Rattle.kernel_machine.proofs.SpacesStand.{memory-kept}
use Rattle.file_trees.proofs.Views.{bytes-apart, state-now}

-- Trees and the bytes of pages have changed, but the memory of no space that isn't loose, and no page of a buffer or of a pipe that isn't.
pub record ChangesLoose (old new : Kernel) (loose : Loose) : Type 0 where
  pub rest :
      machine_of new
      ≡ record (machine_of old) {
        forest = (machine_of new).forest;
        page_bytes = (machine_of new).page_bytes;
        page_owner = (machine_of new).page_owner;
        words = record (machine_of new).words { size = old.machine.size; quantum = old.machine.quantum; position = old.machine.position; next_pid = old.machine.next_pid };
      }
  pub memories : (other : ℕ) → loose ≢ Space other → loose ≢ Tree other → IsSpace (forest_of old) [] other → memory_in (machine_of new) (Some other) ≡ memory_in (machine_of old) (Some other)
  pub buffers : (page : ℕ) → at (page_owners old) page ≡ Some Buffer → memory_page new page ≡ memory_page old page
  pub pipes : (page : ℕ) → loose ≢ Ring page → at (page_owners old) page ≡ Some PipePage → memory_page new page ≡ memory_page old page

same-state : (p1 p2 : ℕ → Option Process) (i1 i2 : ℕ → Option model.Inode) (d1 d2 : ℕ → Option model.Description) (n1 n2 s1 s2 q1 q2 t1 t2 : ℕ)
    → p1 ≡ p2 → i1 ≡ i2 → d1 ≡ d2 → n1 ≡ n2 → s1 ≡ s2 → q1 ≡ q2 → t1 ≡ t2
    → record { processes = p1; files = record { inodes = i1; descriptions = d1 }; next_pid = n1; pages = s1; quantum = q1; position = t1 }
    ≡ (let unix : Unix = record { processes = p2; files = record { inodes = i2; descriptions = d2 }; next_pid = n2; pages = s2; quantum = q2; position = t2 } in unix)
same-state p1 p2 i1 i2 d1 d2 n1 n2 s1 s2 q1 q2 t1 t2 p i d n s q t = rw (p, i, d, n, s, q, t) refl

module _ (old new : Kernel) (loose : Loose) (standing : StandingBut old loose) (changes : ChangesLoose old new loose) where
  is-taken : (other : Loose) → loose ≡ other → IsTaken (forest_of old) (page_owners old) other
  is-taken other same = subst (λ (l : Loose). IsTaken (forest_of old) (page_owners old) l) same standing.is_loose.taken

  -- ---- processes

  memory-same : (root : ℕ) (own : Option ℕ) → own ≡ (at (domains old) root).space → memory_in (machine_of new) own ≡ memory_in (machine_of old) own
  unfolding memory_in
  memory-same root None is = refl
  memory-same root (Some space) is =
      let held = standing.holdings.spaces root space (sym is) in
      changes.memories space (standing.is_loose.no_space root space (sym is))
      (λ same. let no : Some OfFile ≡ Some OfProcess = sym (is-taken (Tree space) same).1 ∙ held.1 in cc)
      held.0

  processes-same : processes_in (machine_of new) ≡ processes_in (machine_of old)
  unfolding processes_in machine_of at
  processes-same =
      ap₂ (λ roots domains. λ slot. option_map (λ root. process_in (machine_of new) (at domains root)) (at roots slot)) (ap (λ (m : KernelMachine). m.roots) changes.rest) (ap (λ (m : KernelMachine). m.domains) changes.rest)
      ∙ fun_ext (λ slot. made-same (λ root. process_in (machine_of new) (at (domains old) root)) (λ root. process_in (machine_of old) (at (domains old) root)) (at (machine_of old).roots slot)
      (λ root is. process-kept (machine_of old) (machine_of new) (at (domains old) root) (memory-same root (at (domains old) root).space refl)
      (λ page held. changes.buffers page (standing.holdings.buffers root page held))))

  -- ---- inodes

  tree-apart : (number : ℕ) (row : Inode) → at (inodes_of old) number ≡ Some row → HasTree row.kind → row.root ≢ 0 → memory_in (machine_of new) (Some row.root) ≡ memory_in (machine_of old) (Some row.root)
  tree-apart number row is tree some =
      let held = tree-of (forest_of old) (memory_page old) (page_owners old) row row.kind (standing.roots.each number row is) tree some in
      changes.memories row.root
      (λ same. let no : Some OfProcess ≡ Some OfFile = sym (is-taken (Space row.root) same).1 ∙ held.1 in cc)
      (λ same. let no : Tree row.root ≡ Nothing = sym same ∙ standing.is_loose.no_root number row is (tree-word row.kind row.root tree some ∙ sym same) in cc)
      held.0

  page-apart : (number : ℕ) (row : Inode) → at (inodes_of old) number ≡ Some row → row.kind ≡ Pipe → memory_page new row.root ≡ memory_page old row.root
  page-apart number row is pipe =
      let owned = page-of (forest_of old) (memory_page old) (page_owners old) row row.kind (standing.roots.each number row is) pipe in
      changes.pipes row.root
      (λ same. let no : Ring row.root ≡ Nothing = sym same ∙ standing.is_loose.no_root number row is (ring-word row.kind row.root pipe (ring-real old row.root owned) ∙ sym same) in cc)
      owned

  inode-same : (number : ℕ) (row : Inode) → at (inodes_of old) number ≡ Some row → inode_in (machine_of new) row ≡ inode_in (machine_of old) row
  unfolding inode_in machine_of
  inode-same number row is = inode-kept (machine_of old) (machine_of new) row row.kind (tree-apart number row is) (page-apart number row is)

  inodes-same : inodes_in (machine_of new) ≡ inodes_in (machine_of old)
  unfolding inodes_in machine_of
  inodes-same =
      ap (λ inodes. λ number. option_map (inode_in (machine_of new)) (at inodes number)) (ap (λ (m : KernelMachine). m.inodes) changes.rest)
      ∙ fun_ext (λ number. made-same (inode_in (machine_of new)) (inode_in (machine_of old)) (at (inodes_of old) number) (λ row is. inode-same number row is))

  descriptions-same : descriptions_in (machine_of new) ≡ descriptions_in (machine_of old)
  unfolding descriptions_in
  descriptions-same = ap (λ (m : KernelMachine). descriptions_in m) changes.rest

  pub loose_unseen : view (machine_of new) ≡ view (machine_of old)
  unfolding view machine_of
  loose_unseen =
      same-state (processes_in (machine_of new)) (processes_in (machine_of old)) (inodes_in (machine_of new)) (inodes_in (machine_of old)) (descriptions_in (machine_of new)) (descriptions_in (machine_of old))
      new.machine.next_pid old.machine.next_pid new.machine.size old.machine.size new.machine.quantum old.machine.quantum new.machine.position old.machine.position processes-same inodes-same descriptions-same
      (ap (λ (m : KernelMachine). m.words.next_pid) changes.rest) (ap (λ (m : KernelMachine). m.words.size) changes.rest) (ap (λ (m : KernelMachine). m.words.quantum) changes.rest) (ap (λ (m : KernelMachine). m.words.position) changes.rest)

-- a tree that is loose is given back
module _ (old new : Kernel) (root : ℕ) (standing : StandingBut old (Tree root)) (drops : Drops old new root) (bank : BankGood new) where
  dropped : TreesGood new (named_by old.inodes) [] × DropsSpace (forest_of old) (forest_of new) root
  dropped = drops.drops (named_by old.inodes) standing.trees

  memory-beside : (other : ℕ) → Tree root ≢ Tree other → IsSpace (forest_of old) [] other → memory_in (machine_of new) (Some other) ≡ memory_in (machine_of old) (Some other)
  unfolding machine_of memory_in
  memory-beside other apart is =
      let differ : other ≢ root = λ same. apart (ap Tree (sym same)) in
      memory-kept old new drops.rest bank dropped.0.held.sound drops.keeps.bytes other (dropped.1.others.stay other is differ) (dropped.1.others.maps other is differ)

  pub drop_unseen : view (machine_of new) ≡ view (machine_of old)
  drop_unseen = loose_unseen old new (Tree root) standing (record {
    rest = state-now old new drops.rest drops.rows_now;
    memories = λ other space tree is. memory-beside other tree is;
    buffers = λ page owned. bytes-apart old new drops.rest drops.apart_now page Buffer refl owned;
    pipes = λ page apart owned. bytes-apart old new drops.rest drops.apart_now page PipePage refl owned;
  })
