-- The flat state, while the page of a pipe gets other bytes.
use Rattle.std.proofs.Common.{◌≡◌, ◌≢◌, ℕ, Option, Some, None, List, [], refl, sym, ap, ap₂, ◌∙◌}
use Rattle.std.proofs.Math.Path.{fun_ext}
use Rattle.std.specs.Prelude.{option_map}
use Rattle.kernel_tables.specs.declared.inode.Inode.{Inode}
use Rattle.kernel_tables.specs.declared.inode.InodeKind.TheVariants.{Pipe}
use Rattle.kernel_tables.specs.declared.entry.PageOwner.TheVariants.{Buffer, Pipe as PipePage}
use Rattle.forest.specs.Forest.{IsSpace}
use Rattle.forest.specs.Walks.{Mapping, map_of}
use Rattle.unix_model.specs.Files as model
use Rattle.unix_model.specs.Memory.{Page}
use Rattle.unix_model.specs.Process.{Process}
use Rattle.unix_model.specs.State.{Unix}
use Rattle.unix_model.specs.Tables.{at, with_at}
use Rattle.user_copy.specs.SpaceMemory.{memory_by, page_of}
use Rattle.kernel_machine.specs.Machine.{KernelMachine}
use Rattle.kernel_machine.specs.View.{view, memory_in, process_in, processes_in, inode_in, inodes_in, descriptions_in}
use Rattle.kernel_machine.specs.Processes.{HoldingsGood}
use Rattle.kernel_machine.specs.Trees.{RootsGood}
use Rattle.kernel_machine.specs.Laws as law
use Rattle.kernel_machine.specs.Laws.{with_page}
use Rattle.kernel_machine.proofs.ViewLaws.{changed_at, other}
use Rattle.kernel_machine.proofs.MemoryLaws.{made-same, process-kept, inode-kept, tree-of, page-of}

module _ (machine : KernelMachine) (number : ℕ) (inode : Inode) (bytes : List ℕ) (holdings : HoldingsGood machine.domains machine.forest machine.page_owner) (roots : RootsGood machine.forest machine.page_bytes machine.page_owner machine.inodes) (is : at machine.inodes number ≡ Some inode) (pipe : inode.kind ≡ Pipe) (unmapped : (space page : ℕ) (mapping : Mapping) → IsSpace machine.forest [] space → map_of machine.forest.keys space page ≡ Some mapping → mapping.page ≢ inode.root) where
  now : KernelMachine
  now = with_page machine inode.root bytes

  pipe-page : at machine.page_owner inode.root ≡ Some PipePage
  pipe-page = page-of machine.forest machine.page_bytes machine.page_owner inode inode.kind (roots.each number inode is) pipe

  -- every other page
  page-same : (page : ℕ) → page ≢ inode.root → now.page_bytes page ≡ machine.page_bytes page
  unfolding now
  page-same page apart = other machine.page_bytes inode.root page bytes apart

  memory-same : (space : ℕ) → IsSpace machine.forest [] space → memory_in now (Some space) ≡ memory_in machine (Some space)
  unfolding memory_in memory_by now
  memory-same space spaced =
      fun_ext (λ n. made-same (page_of now.page_bytes) (page_of machine.page_bytes) (map_of machine.forest.keys space n)
      (λ mapping mapped. ap (λ page_bytes. let page : Page = record { writable = mapping.writable; bytes = page_bytes } in page) (page-same mapping.page (unmapped space n mapping spaced mapped))))

  own-same : (root : ℕ) (own : Option ℕ) → own ≡ (at machine.domains root).space → memory_in now own ≡ memory_in machine own
  unfolding memory_in now
  own-same root None held = refl
  own-same root (Some space) held = memory-same space (holdings.spaces root space (sym held)).0

  buffer-kept : (root page : ℕ) → (at machine.domains root).buffer ≡ Some page → at now.page_bytes page ≡ at machine.page_bytes page
  unfolding at
  buffer-kept root page held =
      page-same page (λ same. let both : Some Buffer ≡ Some PipePage = sym (holdings.buffers root page held) ∙ ap (at machine.page_owner) same ∙ pipe-page in cc)

  processes-kept : processes_in now ≡ processes_in machine
  unfolding processes_in now
  processes-kept =
      fun_ext (λ slot. made-same (λ root. process_in now (at machine.domains root)) (λ root. process_in machine (at machine.domains root)) (at machine.roots slot)
      (λ root held. process-kept machine now (at machine.domains root) (own-same root (at machine.domains root).space refl) (buffer-kept root)))

  others-kept : (k : ℕ) (row : Inode) → k ≢ number → at machine.inodes k ≡ Some row → inode_in now row ≡ inode_in machine row
  unfolding inode_in
  others-kept k row apart held =
      inode-kept machine now row row.kind
      (λ tree there. memory-same row.root (tree-of machine.forest machine.page_bytes machine.page_owner row row.kind (roots.each k row held) tree there).0)
      (λ other_pipe. page-same row.root (λ same. apart (roots.pipes_differ k number row inode held is other_pipe pipe same)))

  inodes-moved : inodes_in now ≡ with_at (inodes_in machine) number (Some (inode_in now inode))
  unfolding inodes_in at now
  inodes-moved =
      changed_at (inodes_in machine) (inodes_in now) number (Some (inode_in now inode)) (ap (option_map (inode_in now)) is)
      (λ k elsewhere. made-same (inode_in now) (inode_in machine) (at machine.inodes k) (λ row held. others-kept k row elsewhere held))

  state-with : (ℕ → Option Process) → (ℕ → Option model.Inode) → Unix
  state-with processes inodes = record (view machine) { processes = processes; files = record { inodes = inodes; descriptions = descriptions_in machine } }

pub ring_changed : law.RingChanged
unfolding view now state-with descriptions_in
ring_changed machine number inode bytes holdings roots is pipe unmapped =
    ap₂ (state-with machine number inode bytes holdings roots is pipe unmapped)
    (processes-kept machine number inode bytes holdings roots is pipe unmapped) (inodes-moved machine number inode bytes holdings roots is pipe unmapped)
