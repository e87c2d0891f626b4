-- The flat state, while the memory of one space changes.
use Rattle.std.proofs.Common.{◌≡◌, ◌≢◌, ℕ, suc, zero, Option, Some, None, List, [], take, refl, sym, ap, ap₂, ◌∙◌}
use Rattle.std.proofs.Math.Path.{fun_ext}
use Rattle.std.specs.Prelude.{option_map, ◌/◌}
use Rattle.kernel_tables.specs.declared.inode.Inode.{Inode}
use Rattle.kernel_tables.specs.declared.inode.InodeKind.{InodeKind}
use Rattle.kernel_tables.specs.declared.inode.InodeKind.TheVariants.{File, Dir, Pipe, Console}
use Rattle.kernel_tables.specs.declared.entry.PageOwner.{PageOwner}
use Rattle.kernel_tables.specs.declared.entry.PageOwner.TheVariants.{Pipe as PipePage}
use Rattle.forest.specs.Forest.{Forest, IsSpace}
use Rattle.forest.specs.Objects.{NodeObject, OfFile, OfProcess}
use Rattle.unix_model.specs.Files as model
use Rattle.unix_model.specs.Limits.{place_bytes}
use Rattle.unix_model.specs.Memory.{Memory}
use Rattle.unix_model.specs.Process as process
use Rattle.unix_model.specs.Process.{Process}
use Rattle.unix_model.specs.State.{Unix}
use Rattle.unix_model.specs.Tables.{at, with_at}
use Rattle.unix_model.specs.Calls.{call_of}
use Rattle.domain.specs.declared.types.Phase.{Phase}
use Rattle.domain.specs.declared.types.Phase.TheVariants.{Run, Asked, Sent, Done, Exiting, Zombie}
use Rattle.domain.specs.Domains.{Domain}
use Rattle.kernel_machine.specs.Machine.{KernelMachine}
use Rattle.kernel_machine.specs.Contents.{file_in, places_in, ring_in}
use Rattle.kernel_machine.specs.View.{view, memory_in, buffer_in, phase_in, sent_call, process_in, processes_in, file_memory, inode_by, inode_in, inodes_in, descriptions_in}
use Rattle.kernel_machine.specs.Processes.{HoldingsGood}
use Rattle.kernel_machine.specs.Trees.{IsRootOf, RootsGood, HasTree}
use Rattle.kernel_machine.specs.Laws as law
use Rattle.kernel_machine.specs.Laws.{HasRoot, ChangesMemory}
use Rattle.kernel_machine.proofs.ViewLaws.{changed_at}

-- what is made of what is there
pub made-same : {X Y : Type 0} (f g : X → Y) (held : Option X) → ((x : X) → held ≡ Some x → f x ≡ g x) → option_map f held ≡ option_map g held
made-same f g None same = refl
made-same f g (Some x) same = ap (λ y. Some y) (same x refl)

-- ---- buffers and phases

buffer-same : (old new : ℕ → List ℕ) (buffer : Option ℕ) (length : ℕ) → ((page : ℕ) → buffer ≡ Some page → new page ≡ old page)
    → buffer_in new buffer length ≡ buffer_in old buffer length
buffer-same old new None length same = refl
buffer-same old new (Some page) length same = ap (take length) (same page refl)

phase-same : (old new : ℕ → List ℕ) (domain : Domain) (phase : Phase) → ((page : ℕ) → domain.buffer ≡ Some page → new page ≡ old page)
    → phase_in new domain phase ≡ phase_in old domain phase
phase-same old new domain Run same = refl
phase-same old new domain Asked same = refl
phase-same old new domain Sent same = ap (λ bytes. sent_call domain.request bytes (call_of domain.request.call)) (buffer-same old new domain.buffer domain.request.length same)
phase-same old new domain Done same = ap (process.Done domain.answer.value domain.answer.at) (buffer-same old new domain.buffer domain.answer.length same)
phase-same old new domain Exiting same = refl
phase-same old new domain Zombie same = refl

-- ---- processes

-- a process with another memory and phase
process-with : KernelMachine → Domain → Memory → process.Phase → Process
process-with machine domain memory phase = record (process_in machine domain) { memory = memory; phase = phase }

pub process-kept : (old new : KernelMachine) (domain : Domain) → memory_in new domain.space ≡ memory_in old domain.space
    → ((page : ℕ) → domain.buffer ≡ Some page → at new.page_bytes page ≡ at old.page_bytes page) → process_in new domain ≡ process_in old domain
unfolding process_in process-with at
process-kept old new domain memory buffers =
    ap₂ (process-with old domain) memory (phase-same old.page_bytes new.page_bytes domain domain.phase buffers)

process-moved : (old new : KernelMachine) (domain : Domain) (space : ℕ) → domain.space ≡ Some space
    → ((page : ℕ) → domain.buffer ≡ Some page → at new.page_bytes page ≡ at old.page_bytes page)
    → process_in new domain ≡ record (process_in old domain) { memory = memory_in new (Some space) }
unfolding process_in process-with at
process-moved old new domain space is buffers =
    ap₂ (process-with old domain) (ap (memory_in new) is) (phase-same old.page_bytes new.page_bytes domain domain.phase buffers)

-- ---- inodes

no-zero : (n : ℕ) → suc n ≢ 0
no-zero n e = cc

pub memory-kept : (old new : KernelMachine) (root : ℕ) → (root ≢ 0 → memory_in new (Some root) ≡ memory_in old (Some root)) → file_memory new root ≡ file_memory old root
unfolding file_memory
memory-kept old new zero same = refl
memory-kept old new (suc root) same = same (no-zero root)

-- an inode whose tree, or whose page, is as before
pub inode-kept : (old new : KernelMachine) (row : Inode) (kind : InodeKind)
    → (HasTree kind → row.root ≢ 0 → memory_in new (Some row.root) ≡ memory_in old (Some row.root)) → (kind ≡ Pipe → new.page_bytes row.root ≡ old.page_bytes row.root)
    → inode_by new row kind ≡ inode_by old row kind
inode-kept old new row File memory page = ap (λ pages. model.File (file_in pages row.length)) (memory-kept old new row.root (memory tt))
inode-kept old new row Dir memory page = ap (λ pages. model.Directory row.parent (places_in (file_in pages row.length) (row.length / place_bytes))) (memory-kept old new row.root (memory tt))
inode-kept old new row Pipe memory page = ap (λ bytes. model.Pipe (ring_in bytes row.start row.length)) (page refl)
inode-kept old new row Console memory page = refl

-- what the rules of roots say of a tree, and of a pipe's page
pub tree-of : (forest : Forest) (bytes : ℕ → List ℕ) (owner : ℕ → Option PageOwner) (row : Inode) (kind : InodeKind) → IsRootOf forest bytes owner row kind → HasTree kind → row.root ≢ 0
    → IsSpace forest [] row.root × (forest.owner (NodeObject row.root) ≡ Some OfFile)
tree-of forest bytes owner row File root tree there = let all = root there in (all.0, all.1)
tree-of forest bytes owner row Dir root tree there = let all = root there in (all.0, all.1)
tree-of forest bytes owner row Pipe root tree there = absurd tree
tree-of forest bytes owner row Console root tree there = absurd tree

pub page-of : (forest : Forest) (bytes : ℕ → List ℕ) (owner : ℕ → Option PageOwner) (row : Inode) (kind : InodeKind) → IsRootOf forest bytes owner row kind → kind ≡ Pipe
    → at owner row.root ≡ Some PipePage
page-of forest bytes owner row File root pipe = cc
page-of forest bytes owner row Dir root pipe = cc
page-of forest bytes owner row Pipe root pipe = root
page-of forest bytes owner row Console root pipe = cc

-- ---- what a change of one memory leaves

-- states with the same parts
same-state : (p1 p2 : ℕ → Option Process) (i1 i2 : ℕ → Option model.Inode) (d1 d2 : ℕ → Option model.Description) (n1 n2 s1 s2 q1 q2 t1 t2 : ℕ)
    → p1 ≡ p2 → i1 ≡ i2 → d1 ≡ d2 → n1 ≡ n2 → s1 ≡ s2 → q1 ≡ q2 → t1 ≡ t2
    → record { processes = p1; files = record { inodes = i1; descriptions = d1 }; next_pid = n1; pages = s1; quantum = q1; position = t1 }
    ≡ (let unix : Unix = record { processes = p2; files = record { inodes = i2; descriptions = d2 }; next_pid = n2; pages = s2; quantum = q2; position = t2 } in unix)
same-state p1 p2 i1 i2 d1 d2 n1 n2 s1 s2 q1 q2 t1 t2 p i d n s q t = rw (p, i, d, n, s, q, t) refl

module _ (old new : KernelMachine) (space : ℕ) (holdings : HoldingsGood old.domains old.forest old.page_owner) (trees : RootsGood old.forest old.page_bytes old.page_owner old.inodes) (changes : ChangesMemory old new space) where
  buffers : (root page : ℕ) → (at old.domains root).buffer ≡ Some page → at new.page_bytes page ≡ at old.page_bytes page
  buffers root page held = changes.buffers page (holdings.buffers root page held)

  -- the space of another domain is another one
  space-kept : (root held : ℕ) (own : Option ℕ) → (at old.domains root).space ≡ Some space → held ≢ root → own ≡ (at old.domains held).space
      → memory_in new own ≡ memory_in old own
  unfolding memory_in
  space-kept root held None has apart is = refl
  space-kept root held (Some other) has apart is =
      changes.memories other (λ same. apart (holdings.spaces_differ held root other (sym is) (has ∙ ap Some (sym same)))) (holdings.spaces held other (sym is)).0

  unheld : (root : ℕ) (own : Option ℕ) → (at old.domains root).space ≢ Some space → own ≡ (at old.domains root).space → memory_in new own ≡ memory_in old own
  unfolding memory_in
  unheld root None apart is = refl
  unheld root (Some other) apart is = changes.memories other (λ same. apart (sym is ∙ ap Some same)) (holdings.spaces root other (sym is)).0

  other-kept : (root held : ℕ) → (at old.domains root).space ≡ Some space → held ≢ root → process_in new (at old.domains held) ≡ process_in old (at old.domains held)
  other-kept root held has apart =
      process-kept old new (at old.domains held) (space-kept root held (at old.domains held).space has apart refl) (buffers held)

  own-moved : (root : ℕ) → (at old.domains root).space ≡ Some space
      → process_in new (at old.domains root) ≡ record (process_in old (at old.domains root)) { memory = memory_in new (Some space) }
  own-moved root has = process-moved old new (at old.domains root) space has (buffers root)

  inode-same : (number : ℕ) (row : Inode) → at old.inodes number ≡ Some row → (HasTree row.kind → row.root ≢ 0 → row.root ≢ space) → inode_in new row ≡ inode_in old row
  unfolding inode_in at
  inode-same number row is apart =
      inode-kept old new row row.kind
      (λ tree there. changes.memories row.root (apart tree there) (tree-of old.forest old.page_bytes old.page_owner row row.kind (trees.each number row is) tree there).0)
      (λ pipe. changes.pipes row.root (page-of old.forest old.page_bytes old.page_owner row row.kind (trees.each number row is) pipe))

  -- the space of a process is no file's
  file-apart : (root number : ℕ) (row : Inode) → (at old.domains root).space ≡ Some space → at old.inodes number ≡ Some row → HasTree row.kind → row.root ≢ 0 → row.root ≢ space
  file-apart root number row has is tree there same =
      let of_file : old.forest.owner (NodeObject row.root) ≡ Some OfFile = (tree-of old.forest old.page_bytes old.page_owner row row.kind (trees.each number row is) tree there).1 in
      let of_process : old.forest.owner (NodeObject space) ≡ Some OfProcess = (holdings.spaces root space has).1 in
      let both : Some OfFile ≡ Some OfProcess = sym of_file ∙ ap (λ n. old.forest.owner (NodeObject n)) same ∙ of_process in
      cc

  -- ---- the flat state

  roots-same : new.roots ≡ old.roots
  roots-same = ap (λ (m : KernelMachine). m.roots) changes.rest

  domains-same : new.domains ≡ old.domains
  domains-same = ap (λ (m : KernelMachine). m.domains) changes.rest

  inodes-same : new.inodes ≡ old.inodes
  inodes-same = ap (λ (m : KernelMachine). m.inodes) changes.rest

  descriptions-same : descriptions_in new ≡ descriptions_in old
  unfolding descriptions_in
  descriptions-same = ap (λ (m : KernelMachine). descriptions_in m) changes.rest

  -- the processes, by the slots and domains that there were
  processes-now : processes_in new ≡ (λ slot. option_map (λ root. process_in new (at old.domains root)) (at old.roots slot))
  unfolding processes_in
  processes-now = ap₂ (λ roots domains. λ slot. option_map (λ root. process_in new (at domains root)) (at roots slot)) roots-same domains-same

  inodes-now : inodes_in new ≡ (λ number. option_map (inode_in new) (at old.inodes number))
  unfolding inodes_in
  inodes-now = ap (λ inodes. λ number. option_map (inode_in new) (at inodes number)) inodes-same

  view-now : (processes : ℕ → Option Process) (inodes : ℕ → Option model.Inode) → processes_in new ≡ processes → inodes_in new ≡ inodes
      → view new ≡ record (view old) { processes = processes; files = record { inodes = inodes; descriptions = descriptions_in old } }
  unfolding view
  view-now processes inodes p i =
      let next : new.words.next_pid ≡ old.words.next_pid = ap (λ (m : KernelMachine). m.words.next_pid) changes.rest in
      let size : new.words.size ≡ old.words.size = ap (λ (m : KernelMachine). m.words.size) changes.rest in
      let quantum : new.words.quantum ≡ old.words.quantum = ap (λ (m : KernelMachine). m.words.quantum) changes.rest in
      let position : new.words.position ≡ old.words.position = ap (λ (m : KernelMachine). m.words.position) changes.rest in
      same-state (processes_in new) processes (inodes_in new) inodes (descriptions_in new) (descriptions_in old) new.words.next_pid old.words.next_pid new.words.size old.words.size
      new.words.quantum old.words.quantum new.words.position old.words.position p i descriptions-same next size quantum position

  -- all inodes are as before, but for those whose tree is the space
  inodes-kept : ((number : ℕ) (row : Inode) → at old.inodes number ≡ Some row → HasTree row.kind → row.root ≢ 0 → row.root ≢ space) → inodes_in new ≡ inodes_in old
  unfolding inodes_in
  inodes-kept apart = inodes-now ∙ fun_ext (λ number. made-same (inode_in new) (inode_in old) (at old.inodes number) (λ row is. inode-same number row is (apart number row is)))

  -- all processes are as before, where the space is no domain's
  processes-kept : ((root : ℕ) → (at old.domains root).space ≢ Some space) → processes_in new ≡ processes_in old
  unfolding processes_in
  processes-kept apart =
      processes-now ∙ fun_ext (λ slot. made-same (λ root. process_in new (at old.domains root)) (λ root. process_in old (at old.domains root)) (at old.roots slot)
      (λ root is. process-kept old new (at old.domains root) (unheld root (at old.domains root).space (apart root) refl) (buffers root)))

  processes-moved : (slot root : ℕ) → HasRoot old slot root → (at old.domains root).space ≡ Some space
      → processes_in new ≡ with_at (processes_in old) slot (Some (record (process_in old (at old.domains root)) { memory = memory_in new (Some space) }))
  unfolding processes_in at
  processes-moved slot root has space_is =
      processes-now ∙ changed_at (processes_in old) (λ slot. option_map (λ root. process_in new (at old.domains root)) (at old.roots slot)) slot
      (Some (record (process_in old (at old.domains root)) { memory = memory_in new (Some space) }))
      (ap (option_map (λ root. process_in new (at old.domains root))) has.0 ∙ ap (λ process. Some process) (own-moved root space_is))
      (λ k elsewhere. made-same (λ root. process_in new (at old.domains root)) (λ root. process_in old (at old.domains root)) (at old.roots k)
      (λ held is. other-kept root held space_is (λ same. elsewhere (has.1 k (is ∙ ap Some same)))))

pub memory_changed : law.MemoryChanged
unfolding view
memory_changed old new slot root space holdings trees has space_is changes =
    view-now old new space holdings trees changes
    (with_at (processes_in old) slot (Some (record (process_in old (at old.domains root)) { memory = memory_in new (Some space) }))) (inodes_in old)
    (processes-moved old new space holdings trees changes slot root has space_is)
    (inodes-kept old new space holdings trees changes (λ number row is. file-apart old new space holdings trees changes root number row space_is is))

pub memory_unseen : law.MemoryUnseen
unfolding view
memory_unseen old new space holdings trees no_domain no_inode changes =
    view-now old new space holdings trees changes (processes_in old) (inodes_in old)
    (processes-kept old new space holdings trees changes no_domain) (inodes-kept old new space holdings trees changes no_inode)

-- a file's tree changes
module _ (old new : KernelMachine) (number space : ℕ) (inode : Inode) (holdings : HoldingsGood old.domains old.forest old.page_owner) (trees : RootsGood old.forest old.page_bytes old.page_owner old.inodes) (is : at old.inodes number ≡ Some inode) (root_is : inode.root ≡ space) (there : space ≢ 0) (tree : HasTree inode.kind) (changes : ChangesMemory old new space) where
  there-root : inode.root ≢ 0
  there-root none = there (sym root_is ∙ none)

  of-file : old.forest.owner (NodeObject space) ≡ Some OfFile
  of-file = ap (λ n. old.forest.owner (NodeObject n)) (sym root_is) ∙ (tree-of old.forest old.page_bytes old.page_owner inode inode.kind (trees.each number inode is) tree there-root).1

  -- the tree is no process's
  no-process : (root : ℕ) → (at old.domains root).space ≢ Some space
  no-process root has = let both : Some OfFile ≡ Some OfProcess = sym of-file ∙ (holdings.spaces root space has).1 in cc

  -- and no other file's
  no-other : (other : ℕ) (row : Inode) → other ≢ number → at old.inodes other ≡ Some row → HasTree row.kind → row.root ≢ 0 → row.root ≢ space
  no-other other row apart held has_tree has_root same =
      apart (trees.trees_differ other number row inode held is has_tree tree has_root (same ∙ sym root_is))

  inodes-moved : inodes_in new ≡ with_at (inodes_in old) number (Some (inode_in new inode))
  unfolding inodes_in at
  inodes-moved =
      inodes-now old new space holdings trees changes
      ∙ changed_at (inodes_in old) (λ number. option_map (inode_in new) (at old.inodes number)) number (Some (inode_in new inode))
      (ap (option_map (inode_in new)) is)
      (λ k elsewhere. made-same (inode_in new) (inode_in old) (at old.inodes k) (λ row held. inode-same old new space holdings trees changes k row held (no-other k row elsewhere held)))

pub tree_changed : law.TreeChanged
unfolding view
tree_changed old new number inode space holdings trees is root_is there tree changes =
    view-now old new space holdings trees changes (processes_in old) (with_at (inodes_in old) number (Some (inode_in new inode)))
    (processes-kept old new space holdings trees changes (no-process old new number space inode holdings trees is root_is there tree changes))
    (inodes-moved old new number space inode holdings trees is root_is there tree changes)
