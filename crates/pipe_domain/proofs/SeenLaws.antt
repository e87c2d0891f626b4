-- The flat state, while the row and the page of a pipe change.
use Rattle.std.proofs.Common.{◌≡◌, ◌≢◌, ℕ, false, Option, Some, None, List, [], refl, sym, ap, ap₂, ◌∙◌, arith}
use Rattle.std.proofs.Math.Path.{fun_ext}
use Rattle.std.proofs.lemmas.Bool.{ne_eqb}
use Rattle.std.specs.Prelude.{option_map, ◌==◌}
use Rattle.kernel_tables.specs.declared.entry.PageOwner.TheVariants.{Buffer, Pipe as PipePage}
use Rattle.kernel_tables.specs.declared.inode.Inode.{Inode}
use Rattle.kernel_tables.specs.declared.inode.InodeKind.TheVariants.{Pipe}
use Rattle.kernel_tables.specs.Kernel.{Kernel, IsBankPage, first_page, bank_page}
use Rattle.unix_model.specs.Files as model
use Rattle.unix_model.specs.Files.{Files, with_inode}
use Rattle.unix_model.specs.Process.{Process}
use Rattle.unix_model.specs.State.{Unix, with_files}
use Rattle.unix_model.specs.Tables.{at, with_at}
use Rattle.unix_model.proofs.TableLaws.{with_at-twice}
use Rattle.forest.specs.Forest.{IsSpace}
use Rattle.forest.specs.Walks.{map_of}
use Rattle.user_copy.specs.SpaceMemory.{memory_by}
use Rattle.kernel_machine.specs.Contents.{ring_in}
use Rattle.kernel_machine.specs.Machine.{KernelMachine, held, inodes_of, machine_of}
use Rattle.kernel_tables.specs.declared.row.Row.{Row}
use Rattle.pipe_domain.specs.Pipes.{PipeGood, pipe_at, queue}
use Rattle.kernel_machine.specs.View.{view, memory_in, process_in, processes_in, inode_by, inode_in, inodes_in, descriptions_in, files_in}
use Rattle.kernel_machine.specs.Processes.{HoldingsGood}
use Rattle.kernel_machine.specs.Trees.{RootsGood}
use Rattle.kernel_machine.proofs.ViewLaws.{changed_at}
use Rattle.kernel_machine.proofs.MemoryLaws.{made-same, process-kept, inode-kept, tree-of, page-of}

-- the inode of a pipe, as it is seen
pub pipe-seen : (kernel : Kernel) (row : Inode) → row.kind ≡ Pipe → IsBankPage kernel.size row.root → inode_in (machine_of kernel) row ≡ model.Pipe (ring_in (bank_page kernel row.root) row.start row.length)
unfolding inode_in machine_of first_page
pipe-seen kernel row pipe page =
    ap (inode_by (machine_of kernel) row) pipe
    ∙ ap (λ (bytes : List ℕ). model.Pipe (ring_in bytes row.start row.length)) (let real : (row.root == 0) ≡ false = ne_eqb row.root 0 (λ none. let low = page.low in omega (arith, low, none)) in rw real refl)

-- Of all pages that are seen that of one pipe alone has other bytes: that pipe alone is another one.
module _ (machine : KernelMachine) (bytes : ℕ → List ℕ) (number : ℕ) (inode : Inode)
    (holdings : HoldingsGood machine.domains machine.forest machine.page_owner) (roots : RootsGood machine.forest machine.page_bytes machine.page_owner machine.inodes)
    (is : at machine.inodes number ≡ Some inode) (pipe : inode.kind ≡ Pipe)
    (memories : (space : ℕ) → IsSpace machine.forest [] space → memory_by bytes (map_of machine.forest.keys space) ≡ memory_by machine.page_bytes (map_of machine.forest.keys space))
    (buffers : (page : ℕ) → at machine.page_owner page ≡ Some Buffer → bytes page ≡ machine.page_bytes page)
    (pipes : (page : ℕ) → at machine.page_owner page ≡ Some PipePage → page ≢ inode.root → bytes page ≡ machine.page_bytes page) where
  abbrev pub now : KernelMachine
  now = record machine { page_bytes = bytes }

  memory-same : (space : ℕ) → IsSpace machine.forest [] space → memory_in now (Some space) ≡ memory_in machine (Some space)
  unfolding memory_in
  memory-same space spaced = memories space spaced

  own-same : (root : ℕ) (own : Option ℕ) → own ≡ (at machine.domains root).space → memory_in now own ≡ memory_in machine own
  unfolding memory_in
  own-same root None held = refl
  own-same root (Some space) held = memories space (holdings.spaces root space (sym held)).0

  buffer-kept : (root page : ℕ) → (at machine.domains root).buffer ≡ Some page → at now.page_bytes page ≡ at machine.page_bytes page
  unfolding at
  buffer-kept root page held = buffers page (holdings.buffers root page held)

  processes-kept : processes_in now ≡ processes_in machine
  unfolding processes_in
  processes-kept =
      fun_ext (λ slot. made-same (λ root. process_in now (at machine.domains root)) (λ root. process_in machine (at machine.domains root)) (at machine.roots slot)
      (λ root held. process-kept machine now (at machine.domains root) (own-same root (at machine.domains root).space refl) (buffer-kept root)))

  others-kept : (k : ℕ) (row : Inode) → k ≢ number → at machine.inodes k ≡ Some row → inode_in now row ≡ inode_in machine row
  unfolding inode_in
  others-kept k row apart held =
      inode-kept machine now row row.kind
      (λ tree there. memory-same row.root (tree-of machine.forest machine.page_bytes machine.page_owner row row.kind (roots.each k row held) tree there).0)
      (λ other_pipe. pipes row.root (page-of machine.forest machine.page_bytes machine.page_owner row row.kind (roots.each k row held) other_pipe)
      (λ same. apart (roots.pipes_differ k number row inode held is other_pipe pipe same)))

  inodes-moved : inodes_in now ≡ with_at (inodes_in machine) number (Some (inode_in now inode))
  unfolding inodes_in at
  inodes-moved =
      changed_at (inodes_in machine) (inodes_in now) number (Some (inode_in now inode)) (ap (option_map (inode_in now)) is)
      (λ k elsewhere. made-same (inode_in now) (inode_in machine) (at machine.inodes k) (λ row held. others-kept k row elsewhere held))

  state-with : (ℕ → Option Process) → (ℕ → Option model.Inode) → Unix
  state-with processes inodes = record (view machine) { processes = processes; files = record { inodes = inodes; descriptions = descriptions_in machine } }

  pub ring-moved : view now ≡ with_files (view machine) (with_inode (files_in machine) number (inode_in now inode))
  unfolding view state-with descriptions_in
  ring-moved = ap₂ state-with processes-kept inodes-moved

-- an inode is another one twice
pub inode-twice : (unix : Unix) (files : Files) (number : ℕ) (first second : model.Inode)
    → with_files (with_files unix (with_inode files number first)) (with_inode (with_inode files number first) number second) ≡ with_files unix (with_inode files number second)
inode-twice unix files number first second =
    ap (λ (inodes : ℕ → Option model.Inode). with_files unix (record files { inodes = inodes })) (with_at-twice files.inodes number (Some first) (Some second))

-- a pipe in the flat state
pub pipe-in-state : (kernel : Kernel) (pipe : ℕ) → PipeGood kernel pipe → at (inodes_in (machine_of kernel)) pipe ≡ Some (model.Pipe (queue kernel pipe))
unfolding inodes_in at machine_of inodes_of
pipe-in-state kernel pipe good =
    ap (λ (row : Row Inode). option_map (inode_in (machine_of kernel)) (held row)) good.is_pipe.row
    ∙ ap (λ (inode : model.Inode). Some inode) (pipe-seen kernel (pipe_at kernel pipe) good.is_pipe.kind good.ring.page)
