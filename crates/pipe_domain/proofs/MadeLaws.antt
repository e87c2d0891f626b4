-- What a pipe that was made leaves.
use Rattle.std.proofs.Common.{◌≡◌, ℕ, ◌+◌, ◌-◌, ◌<◌, ◌≤◌, Bool, true, false, ⊎_elim, Some, List, [], ◌∷◌, inl, inr, length, slice_index_or, slice_set, arith, refl, sym, ap, subst, ◌∙◌}
use Rattle.std.proofs.Math.Path.{fun_ext}
use Rattle.std.proofs.lemmas.Bool.{cases_lt, le-ltb, ne_eqb}
use Rattle.std.proofs.lemmas.List.{get_or_past, get_or-set_same, length-replicate}
use Rattle.kn_base.specs.Memory.{zero_page}
use Rattle.std.specs.Prelude.{if◌then◌else◌}
use Rattle.kn_base.specs.declared.key.Key.{Key}
use Rattle.kn_base.specs.declared.key.Key.TheVariants.{Null}
use Rattle.kernel_tables.specs.declared.entry.Entry.{Entry}
use Rattle.kernel_tables.specs.declared.entry.Entry.TheVariants.{Taken, Unspelled as UnspelledEntry}
use Rattle.kernel_tables.specs.Blocks.{ChangesBlocks, inode_block, machine_block, page_entry_block}
use Rattle.kernel_tables.specs.Rows.{entry_at}
use Rattle.space_bank.specs.FreeList.{is_free}
use Rattle.unix_model.specs.Tables.{at}
use Rattle.kernel_machine.specs.Loose.{Loose, Nothing, Ring, root_of, IsRowRoot, StandingBut}
use Rattle.kernel_machine.specs.Standing.{Standing}
use Rattle.kernel_machine.specs.Trees.{IsRootOf}
use Rattle.kernel_tables.specs.declared.entry.PageOwner.{PageOwner}
use Rattle.kernel_tables.specs.declared.entry.PageOwner.TheVariants.{Pipe as PipePage}
use Rattle.kernel_tables.specs.declared.inode.Inode.{Inode}
use Rattle.kernel_tables.specs.declared.row.Row.{Row}
use Rattle.kernel_tables.specs.declared.row.Row.TheVariants.{Free, Used, Unspelled}
use Rattle.kernel_tables.specs.Kernel.{Kernel, IsBankPage, first_page, inode_at, bank_page, memory_page}
use Rattle.space_bank.specs.Bank.{BankGood, TakesPage}
use Rattle.space_bank.specs.Laws.{and_outside}
use Rattle.space_bank.specs.Shares.{Outside, PutsPageInHand}
use Rattle.file_tables.specs.Laws.{WritesFiles}
use Rattle.file_tables.specs.Numbers.{least_free_inode}
use Rattle.file_tables.specs.Roots.{named_by, pipe_key, root_key, ExchangesRoots}
use Rattle.file_tables.specs.Rows.{IsInodeAt, IsInodeRow, InodesGood}
use Rattle.file_tables.proofs.PageLaws.{page_taken}
use Rattle.file_tables.proofs.RootLaws.{handed_over}
use Rattle.forest.specs.Forest.{masked}
use Rattle.kernel_forest.specs.Owners.{owner_in, page_owner_of, page_owners}
use Rattle.kernel_forest.specs.Trees.{TreesGood, forest_of, owner_of}
use Rattle.kernel_machine.specs.Contents.{ring_in}
use Rattle.kernel_machine.specs.Machine.{machine_of, inodes_of, descriptions_of}
use Rattle.kernel_machine.specs.View.{view, memory_in, process_in, processes_in, file_memory, inode_in, inodes_in, descriptions_in, files_in}
use Rattle.kernel_machine.proofs.SetLaws.{inode_set}
use Rattle.kernel_machine.proofs.StandingLaws.{standing_with_words}
use Rattle.kernel_machine.proofs.LooseLaws.{nothing_loose}
use Rattle.kernel_machine.proofs.PageStands.{standing_with_page}
use Rattle.kernel_machine.proofs.RootStands.{standing_with_root}
use Rattle.unix_model.specs.Files as model
use Rattle.unix_model.specs.Files.{with_inode}
use Rattle.unix_model.specs.State.{Unix, with_files}
use Rattle.pipe_domain.specs.Made.{MakesPipe, empty_pipe, made_blocks, with_promise}
use Rattle.pipe_domain.specs.Pipes.{HasRing, IsPipeAt, IsSeenWith, pipe_at, queue, row_inode}

-- the inode of an empty pipe may stand at any number from 2 on
empty-right : (pipe page : ℕ) → 2 ≤ pipe → IsInodeAt pipe (empty_pipe page)
empty-right pipe page low = record {
  of_kind = record { length = omega arith; start = omega arith; no_parent = refl };
  console = (λ e. cc, λ e. absurd (omega (arith, e, low)));
  root_kind = λ e. absurd (omega (arith, e, low));
  root_parent = λ e. absurd (omega (arith, e, low));
}

pub empty-at : (pipe page : ℕ) (inode : Inode) → inode ≡ empty_pipe page → 2 ≤ pipe → IsInodeAt pipe inode
empty-at pipe page inode is low = subst (λ (i : Inode). IsInodeAt pipe i) (sym is) (empty-right pipe page low)

-- what a row may be at a number is what a free one may be there, where it is free
pub free-row : (pipe : ℕ) (row : Row Inode) → row ≡ Free → IsInodeRow pipe row → IsInodeRow pipe Free
free-row pipe row free right = subst (IsInodeRow pipe) free right

-- What is said of the tables after a promise, told of the tables with a page more promised.
module _ (old one : Kernel) (promised : one ≡ with_promise old) where
  pub good-then : BankGood one → BankGood (with_promise old)
  good-then good = subst BankGood promised good

  pub full-then : one.size ≤ one.machine.pages_taken → old.size ≤ old.machine.pages_taken
  full-then full = subst (λ (k : Kernel). k.size ≤ k.machine.pages_taken) promised full

  module _ (two : Kernel) (page : ℕ) where
    pub takes-then : TakesPage one two page PipePage → TakesPage (with_promise old) two page PipePage
    takes-then takes = subst (λ (k : Kernel). TakesPage k two page PipePage) promised takes

    pub hand-then : PutsPageInHand one two page → PutsPageInHand (with_promise old) two page
    hand-then hand = subst (λ (k : Kernel). PutsPageInHand k two page) promised hand

  pub blocks-then : (b1 b2 : List (List ℕ)) (page : ℕ) → ChangesBlocks b1 b2 (page_entry_block (page - first_page one.size) ∷ machine_block ∷ []) → ChangesBlocks b1 b2 (page_entry_block (page - first_page old.size) ∷ machine_block ∷ [])
  blocks-then b1 b2 page changes = subst (λ (k : Kernel). ChangesBlocks b1 b2 (page_entry_block (page - first_page k.size) ∷ machine_block ∷ [])) promised changes

-- keys of trees don't hang on who owns pages
keys-same : (kernel : Kernel) (entries : List (Entry PageOwner)) → (forest_of (record kernel { page_entries = entries })).keys ≡ (forest_of kernel).keys
unfolding masked owner_of
keys-same kernel entries = fun_ext (λ place. refl)

view-by : Kernel → (ℕ → Key) → Unix
view-by kernel keys = view (record (machine_of kernel) { forest = record (forest_of kernel) { keys = keys } })

-- the bank's words and who owns its pages are no part of the flat state
bank-unseen : (kernel : Kernel) (promised free taken memory : ℕ) (entries : List (Entry PageOwner))
    → view (machine_of (record kernel { machine = record kernel.machine { promised = promised; free_page = free; memory_taken = memory; pages_taken = taken }; page_entries = entries })) ≡ view (machine_of kernel)
unfolding view-by view memory_in process_in processes_in file_memory inode_in inodes_in descriptions_in machine_of inodes_of descriptions_of
bank-unseen kernel promised free taken memory entries = ap (view-by kernel) (keys-same kernel entries)

-- the machine's words are written, then they and the entry of a page, then the row of an inode
all-changed : (b0 b1 b2 b3 : List (List ℕ)) (words entry row : ℕ) → ChangesBlocks b0 b1 (words ∷ []) → ChangesBlocks b1 b2 (entry ∷ words ∷ []) → ChangesBlocks b2 b3 (row ∷ [])
    → ChangesBlocks b0 b3 (entry ∷ words ∷ row ∷ [])
all-changed b0 b1 b2 b3 words entry row promised taken written = record {
  same_number = written.same_number ∙ taken.same_number ∙ promised.same_number;
  others = λ block apart.
      written.others block (λ h. ⊎_elim (λ e. apart (inr (inr (inl e)))) (λ t. absurd t) h)
      ∙ taken.others block (λ h. ⊎_elim (λ e. apart (inl e)) (λ more. ⊎_elim (λ e. apart (inr (inl e))) (λ t. absurd t) more) h)
      ∙ promised.others block (λ h. ⊎_elim (λ e. apart (inr (inl e))) (λ t. absurd t) h);
}

module _ (old two new : Kernel) (pipe page : ℕ) (row : Inode) (takes : TakesPage (with_promise old) two page PipePage) (row_is : row ≡ empty_pipe page) (inside : pipe < length old.inodes)
    (set : new ≡ record two { inodes = slice_set two.inodes pipe (Used row) }) where
  inodes-same : two.inodes ≡ old.inodes
  inodes-same = ap (λ (k : Kernel). k.inodes) takes.state

  state : new ≡ record two { inodes = slice_set two.inodes pipe (Used (empty_pipe page)) }
  state = set ∙ ap (λ (r : Inode). let k : Kernel = record two { inodes = slice_set two.inodes pipe (Used r) } in k) row_is

  inside-two : pipe < length two.inodes
  inside-two = subst (λ (rows : List (Row Inode)). pipe < length rows) (sym inodes-same) inside

  there : inode_at new pipe ≡ Used (empty_pipe page)
  there = ap (λ (k : Kernel). inode_at k pipe) state ∙ get_or-set_same two.inodes pipe (Used (empty_pipe page)) Unspelled inside-two

  row-now : pipe_at new pipe ≡ empty_pipe page
  row-now = ap row_inode there

  view-same : view (machine_of two) ≡ view (machine_of old)
  view-same =
      ap (λ (k : Kernel). view (machine_of k)) takes.state
      ∙ bank-unseen old (old.machine.promised + 1) two.machine.free_page (old.machine.pages_taken + 1) (old.machine.memory_taken + 0) (slice_set old.page_entries (page - first_page old.size) _)

  with-row : Unix → model.Inode → Unix
  with-row unix inode = with_files unix (with_inode unix.files pipe inode)

  no-bytes : inode_in (machine_of two) (empty_pipe page) ≡ model.Pipe []
  unfolding inode_in ring_in
  no-bytes = refl

  seen-made : IsSeenWith old new pipe []
  unfolding view with-row
  seen-made =
      inode_set two new pipe (empty_pipe page) inside-two state
      ∙ ap (λ (unix : Unix). with-row unix (inode_in (machine_of two) (empty_pipe page))) view-same
      ∙ ap (λ (inode : model.Inode). with_files (view (machine_of old)) (with_inode (files_in (machine_of old)) pipe inode)) no-bytes

  is-pipe : pipe < 1024 → IsPipeAt new pipe
  is-pipe below = record {
    number = below;
    row = there ∙ ap (λ (r : Inode). let used : Row Inode = Used r in used) (sym row-now);
    kind = ap (λ (r : Inode). r.kind) row-now;
  }

  nothing-in : queue new pipe ≡ []
  unfolding ring_in
  nothing-in = ap (λ (r : Inode). ring_in (bank_page new r.root) r.start r.length) row-now

  n-inside : page - first_page old.size < length old.page_entries
  n-inside = ⊎_elim
      (λ (t : page - first_page old.size < length old.page_entries). t)
      (λ (past : length old.page_entries ≤ page - first_page old.size).
      let wrong : false ≡ true = sym (ap is_free (get_or_past old.page_entries (page - first_page old.size) UnspelledEntry past)) ∙ takes.was_free in cc)
      (cases_lt (page - first_page old.size) (length old.page_entries))

  abbrev pub final : Kernel
  final = record two { inodes = slice_set two.inodes pipe (Used (empty_pipe page)) }

  entry : entry_at two.page_entries (page - first_page old.size) ≡ Taken PipePage 1
  entry = ap (λ (k : Kernel). entry_at k.page_entries (page - first_page old.size)) takes.state ∙ get_or-set_same old.page_entries (page - first_page old.size) (Taken PipePage 1) UnspelledEntry n-inside

  size-same : two.size ≡ old.size
  size-same = ap (λ (k : Kernel). k.size) takes.state

  entry-by : entry_at two.page_entries (page - first_page two.size) ≡ Taken PipePage 1
  entry-by = ap (λ (size : ℕ). entry_at two.page_entries (page - first_page size)) size-same ∙ entry

  in-bank : IsBankPage two.size page
  in-bank = subst (λ (size : ℕ). IsBankPage size page) (sym size-same) (record { low = takes.low; high = takes.high })

  owned : at (page_owners two) page ≡ Some PipePage
  unfolding page_owner_of at
  owned = rw (le-ltb page (first_page two.size) in-bank.low) (ap owner_in entry-by)

  ring-final : 2 ≤ pipe → HasRing final pipe (empty_pipe page)
  unfolding zero_page
  ring-final low = record {
    same = sym (ap row_inode (get_or-set_same two.inodes pipe (Used (empty_pipe page)) Unspelled inside-two));
    right = empty-right pipe page low;
    kind = refl;
    size = omega arith;
    start = omega arith;
    page = in-bank;
    used = ap is_free entry-by;
    owned = owned;
    whole = ap (λ (size : ℕ). length (slice_index_or two.bank (page - first_page size) [])) size-same ∙ ap length takes.zero ∙ length-replicate {A = ℕ} 4096 0;
  }

  ring-made : 2 ≤ pipe → HasRing new pipe (pipe_at new pipe)
  ring-made low = subst (λ (r : Inode). HasRing new pipe r) (sym row-now) (subst (λ (k : Kernel). HasRing k pipe (empty_pipe page)) (sym state) (ring-final low))

  descriptions-same : new.descriptions ≡ old.descriptions
  descriptions-same = ap (λ (k : Kernel). k.descriptions) set ∙ ap (λ (k : Kernel). k.descriptions) takes.state

  pub makes-pipe : least_free_inode old ≡ Some pipe → pipe < 1024 → 2 ≤ pipe → old.machine.promised + 1 ≤ old.size → PutsPageInHand (with_promise old) two page → ExchangesRoots two new pipe (Used row) → MakesPipe old new pipe
  makes-pipe least below low room in_hand exchanges = record {
    least = least;
    room = room;
    page = page;
    taken = two;
    takes = takes;
    in_hand = in_hand;
    state = state ∙ ap (λ (rows : List (Row Inode)). let k : Kernel = record two { inodes = slice_set rows pipe (Used (empty_pipe page)) } in k) inodes-same;
    roots = subst (λ (r : Inode). ExchangesRoots two new pipe (Used r)) row_is exchanges;
    is_pipe = is-pipe below;
    ring = ring-made low;
    descriptions = descriptions-same;
    empty = nothing-in;
    seen = seen-made;
  }

  promised-trees : (outside : Outside) → TreesGood old outside [] → TreesGood (with_promise old) outside []
  promised-trees outside trees = record { shares = trees.shares; held = trees.held; in_hand = trees.in_hand; short = trees.short; in_trees = trees.in_trees; single = trees.single }

  writes : WritesFiles two new
  writes = subst (λ (k : Kernel). k ≡ record two { inodes = k.inodes; descriptions = k.descriptions }) (sym set) refl

  named : root_key (Used row) ≡ pipe_key page
  unfolding first_page
  named =
      ap (λ (r : Inode). root_key (Used r)) row_is
      ∙ ap (λ (none : Bool). if none then Null else pipe_key page) (let low = takes.low in ne_eqb page 0 (λ none. omega (arith, low, none)))

  was-free : inode_at old pipe ≡ Free → inode_at two pipe ≡ Free
  was-free free = ap (λ (rows : List (Row Inode)). slice_index_or rows pipe Unspelled) inodes-same ∙ free

  pub trees-made : BankGood (with_promise old) → inode_at old pipe ≡ Free → PutsPageInHand (with_promise old) two page → ExchangesRoots two new pipe (Used row)
      → TreesGood old (named_by old.inodes) [] → TreesGood new (named_by new.inodes) []
  trees-made bank free in_hand exchanges trees =
      handed_over two new pipe (Used row) [] writes exchanges
      (ap root_key (was-free free))
      (subst (λ (key : Key). TreesGood two (and_outside (named_by two.inodes) key) []) (sym named)
      (subst (λ (rows : List (Row Inode)). TreesGood two (and_outside (named_by rows) (pipe_key page)) []) (sym inodes-same)
      (page_taken (with_promise old) two page PipePage (named_by old.inodes) [] bank refl takes in_hand (promised-trees (named_by old.inodes) trees))))

  -- the page that was taken is what the row has
  row-loose : root_of (Used row) ≡ Ring page
  unfolding first_page
  row-loose =
      ap (λ (r : Inode). root_of (Used r)) row_is
      ∙ ap (λ (none : Bool). if none then Nothing else Ring page) (let low = takes.low in ne_eqb page 0 (λ none. omega (arith, low, none)))

  row-rooted : IsRowRoot two (Used row)
  row-rooted = subst (λ (r : Inode). IsRootOf (forest_of two) (memory_page two) (page_owners two) r r.kind) (sym row_is) owned

  pub standing-made : BankGood (with_promise old) → BankGood two → inode_at old pipe ≡ Free → PutsPageInHand (with_promise old) two page → ExchangesRoots two new pipe (Used row)
      → InodesGood new.inodes → Standing old → Standing new
  standing-made promised bank free in_hand exchanges good standing =
      (nothing_loose new).1
      (subst (λ (loose : Loose). StandingBut new loose) (ap root_of (was-free free))
      (standing_with_root two new pipe (Used row) inside-two set exchanges good row-rooted
      (subst (λ (loose : Loose). StandingBut two loose) (sym row-loose)
      (standing_with_page (with_promise old) two page takes in_hand bank
      (standing_with_words old (with_promise old) old.machine.next_pid old.machine.position (old.machine.promised + 1) refl promised standing)))))

  entry-place : (pipe_at new pipe).root - first_page new.size ≡ page - first_page old.size
  entry-place =
      ap (λ (r : Inode). r.root - first_page new.size) row-now
      ∙ ap (λ (size : ℕ). page - first_page size) (ap (λ (k : Kernel). k.size) set ∙ size-same)

  pub blocks-made : (b0 b1 b2 b3 : List (List ℕ)) → ChangesBlocks b0 b1 (machine_block ∷ []) → ChangesBlocks b1 b2 (page_entry_block (page - first_page old.size) ∷ machine_block ∷ [])
      → ChangesBlocks b2 b3 (inode_block pipe ∷ []) → ChangesBlocks b0 b3 (made_blocks new pipe)
  blocks-made b0 b1 b2 b3 promised taken written =
      subst (λ (n : ℕ). ChangesBlocks b0 b3 (page_entry_block n ∷ machine_block ∷ inode_block pipe ∷ [])) (sym entry-place)
      (all-changed b0 b1 b2 b3 machine_block (page_entry_block (page - first_page old.size)) (inode_block pipe) promised taken written)
