-- What is in a pipe to which bytes were put.
use Rattle.std.proofs.Common.{◌≡◌, ◌≢◌, ℕ, ◌+◌, ◌-◌, ◌%◌, ◌<◌, ◌≤◌, Bool, true, Some, List, [], ◌++◌, length, slice_set, arith, refl, sym, ap, subst, ◌∙◌}
use Rattle.std.proofs.lemmas.List.{get_or-set_same, get_or-set_other}
use Rattle.std.specs.Prelude.{◌==◌, if◌then◌else◌}
use Rattle.kernel_tables.specs.declared.entry.PageOwner.{PageOwner}
use Rattle.kernel_tables.specs.declared.entry.PageOwner.TheVariants.{Buffer, Pipe as PipePage}
use Rattle.kernel_tables.specs.declared.inode.Inode.{Inode}
use Rattle.kernel_tables.specs.declared.row.Row.TheVariants.{Used, Unspelled}
use Rattle.kernel_tables.specs.Kernel.{Kernel, IsBankPage, first_page, bank_page, memory_page, with_bank_page}
use Rattle.space_bank.specs.Bank.{BankGood}
use Rattle.kernel_forest.specs.Owners.{page_owners}
use Rattle.file_tables.specs.Roots.{ExchangesRoots}
use Rattle.file_tables.specs.Rows.{InodesGood}
use Rattle.unix_model.specs.Files as model
use Rattle.unix_model.specs.Files.{has_reader, with_inode}
use Rattle.unix_model.specs.State.{Unix, with_files}
use Rattle.unix_model.specs.Tables.{at}
use Rattle.kernel_machine.specs.Contents.{ring_in}
use Rattle.kernel_machine.specs.Machine.{machine_of, inodes_of, descriptions_of}
use Rattle.kernel_machine.specs.Standing.{Standing}
use Rattle.kernel_machine.specs.View.{view, descriptions_in, files_in, inode_in}
use Rattle.kernel_machine.proofs.SetLaws.{inode_set}
use Rattle.kernel_machine.proofs.StandingLaws.{standing_with_inode, standing_with_bytes, same-memory}
use Rattle.pipe_domain.specs.Pipes.{FindsNoRoom, HasRing, IsPipeAt, MovesIn, PipeGood, pipe_at, queue, row_inode, more_by, with_put, with_ring_put, IsSeenWith}
use Rattle.pipe_domain.specs.Rings.{ring_written}
use Rattle.pipe_domain.proofs.PipeLaws.{good-row, more-right, page-in-bank, pipe-inside, pipe-there}
use Rattle.pipe_domain.proofs.RingLaws.{length-ring, length-written, ring-put}
use Rattle.pipe_domain.proofs.SeenLaws.{inode-twice, pipe-seen, ring-moved}
use Rattle.pipe_domain.proofs.TakeLaws.{queue-length, root-right}

-- a page of the bank beside one that is written
bank-other : (kernel : Kernel) (page other : ℕ) (bytes : List ℕ) → IsBankPage kernel.size page → IsBankPage kernel.size other → other ≢ page
    → memory_page (record kernel { bank = with_bank_page kernel page bytes }) other ≡ memory_page kernel other
bank-other kernel page other bytes is also apart =
    let low = is.low in
    let low_too = also.low in
    ap (λ (content : List ℕ). if other == 0 then kernel.page_zero else content)
    (get_or-set_other kernel.bank (page - first_page kernel.size) (other - first_page kernel.size) bytes [] (λ e. apart (omega (arith, e, low, low_too))))

module _ (old new : Kernel) (pipe : ℕ) (from : List ℕ) (good : PipeGood old pipe) (fits : (pipe_at old pipe).length + length from ≤ 4096) where
  abbrev pub mid : Kernel
  mid = with_ring_put old pipe from

  ring : HasRing old pipe (pipe_at old pipe)
  ring = good.ring

  is : IsPipeAt old pipe
  is = good.is_pipe

  abbrev pub written : List ℕ
  written = ring_written (bank_page old (pipe_at old pipe).root) (((pipe_at old pipe).start + (pipe_at old pipe).length) % 4096) from

  whole : length written ≡ 4096
  whole = length-written (bank_page old (pipe_at old pipe).root) (((pipe_at old pipe).start + (pipe_at old pipe).length) % 4096) from ring.whole (omega arith) (omega (arith, fits))

  inside : (pipe_at old pipe).root - first_page old.size < length old.bank
  inside = let low = ring.page.low in let high = ring.page.high in omega (arith, low, high, good.bank.pages.pages)

  is-mid : IsPipeAt mid pipe
  is-mid = record { number = is.number; row = is.row; kind = is.kind }

  page-now : bank_page mid (pipe_at old pipe).root ≡ written
  page-now = get_or-set_same old.bank ((pipe_at old pipe).root - first_page old.size) written [] inside

  behind : ring_in written (pipe_at old pipe).start ((pipe_at old pipe).length + length from) ≡ queue old pipe ++ from
  behind = ring-put (bank_page old (pipe_at old pipe).root) (pipe_at old pipe).start (pipe_at old pipe).length from ring.whole ring.start fits (((pipe_at old pipe).start + (pipe_at old pipe).length) % 4096) refl

  row-seen : inode_in (machine_of mid) (more_by (pipe_at old pipe) (length from)) ≡ model.Pipe (queue old pipe ++ from)
  row-seen =
      pipe-seen mid (more_by (pipe_at old pipe) (length from)) is.kind ring.page
      ∙ ap (λ (bytes : List ℕ). model.Pipe bytes) (ap (λ (page : List ℕ). ring_in page (pipe_at old pipe).start ((pipe_at old pipe).length + length from)) page-now ∙ behind)

  other-page : Standing old → (page : ℕ) (owner : PageOwner) → at (page_owners old) page ≡ Some owner → page ≢ (pipe_at old pipe).root → memory_page mid page ≡ memory_page old page
  other-page standing page owner owned apart = bank-other old (pipe_at old pipe).root page written ring.page (page-in-bank old page owner owned standing) apart

  mid-seen : Standing old → view (machine_of mid) ≡ with_files (view (machine_of old)) (with_inode (files_in (machine_of old)) pipe (inode_in (machine_of mid) (pipe_at old pipe)))
  unfolding machine_of inodes_of descriptions_of
  mid-seen standing =
      ring-moved (machine_of old) (memory_page mid) pipe (pipe_at old pipe) standing.holdings standing.roots (pipe-there old pipe is) is.kind
      (λ space spaced. same-memory old (pipe_at old pipe).root PipePage written ring.owned refl standing.bank standing.trees.held.sound space spaced)
      (λ page owned. other-page standing page Buffer owned (λ same. let both : Some Buffer ≡ Some PipePage = sym owned ∙ ap (at (page_owners old)) same ∙ ring.owned in cc))
      (λ page owned apart. other-page standing page PipePage owned apart)

  with-row : Unix → model.Inode → Unix
  with-row unix inode = with_files unix (with_inode unix.files pipe inode)

  seen-put : new ≡ with_put old pipe from → Standing old → IsSeenWith old new pipe (queue old pipe ++ from)
  unfolding view with-row
  seen-put state standing =
      inode_set mid new pipe (more_by (pipe_at old pipe) (length from)) (pipe-inside old pipe is) state
      ∙ ap (λ (unix : Unix). with-row unix (inode_in (machine_of mid) (more_by (pipe_at old pipe) (length from)))) (mid-seen standing)
      ∙ inode-twice (view (machine_of old)) (files_in (machine_of old)) pipe (inode_in (machine_of mid) (pipe_at old pipe)) (inode_in (machine_of mid) (more_by (pipe_at old pipe) (length from)))
      ∙ ap (λ (inode : model.Inode). with_files (view (machine_of old)) (with_inode (files_in (machine_of old)) pipe inode)) row-seen

  queue-put : new ≡ with_put old pipe from → queue new pipe ≡ queue old pipe ++ from
  queue-put state =
      ap (λ (kernel : Kernel). queue kernel pipe) state
      ∙ ap (λ (row : Inode). ring_in (bank_page mid row.root) row.start row.length)
      (ap row_inode (get_or-set_same old.inodes pipe (Used (more_by (pipe_at old pipe) (length from))) Unspelled (pipe-inside old pipe is)))
      ∙ ap (λ (page : List ℕ). ring_in page (pipe_at old pipe).start ((pipe_at old pipe).length + length from)) page-now
      ∙ behind

  pub moves-in : has_reader (files_in (machine_of old)) pipe ≡ true → new ≡ with_put old pipe from → MovesIn old new pipe from (length from)
  moves-in reads state = record {
    reads = reads;
    room = let held = length-ring (bank_page old (pipe_at old pipe).root) (pipe_at old pipe).start (pipe_at old pipe).length ring.whole ring.size in omega (arith, held, fits);
    number = refl;
    state = state;
    all = queue-put state;
    seen = seen-put state;
  }

  pub standing-put : BankGood mid → new ≡ with_put old pipe from → ExchangesRoots mid new pipe (Used (more_by (pipe_at old pipe) (length from))) → InodesGood new.inodes → Standing old → Standing new
  standing-put bank state exchanges inodes standing =
      standing_with_inode mid new pipe (pipe_at old pipe) (more_by (pipe_at old pipe) (length from)) (pipe-inside old pipe is) is.row state exchanges inodes refl refl
      (root-right mid (more_by (pipe_at old pipe) (length from)) (pipe_at old pipe).kind is.kind ring.owned)
      (standing_with_bytes old mid (pipe_at old pipe).root PipePage written ring.owned refl whole refl bank standing)

  ring-mid : HasRing mid pipe (pipe_at mid pipe)
  ring-mid = record { same = refl; right = ring.right; kind = ring.kind; size = ring.size; start = ring.start; page = ring.page; used = ring.used; owned = ring.owned; whole = ap length page-now ∙ whole }

  pub good-put : BankGood mid → new ≡ with_put old pipe from → InodesGood new.inodes → PipeGood new pipe
  unfolding descriptions_in machine_of descriptions_of
  good-put bank state inodes =
      subst (λ (kernel : Kernel). PipeGood kernel pipe) (sym state)
      (good-row mid pipe (more_by (pipe_at old pipe) (length from)) is-mid ring-mid (more-right pipe (pipe_at old pipe) (length from) fits is.kind ring.right) is.kind refl bank good.descriptions good.counted
      (subst (λ (kernel : Kernel). InodesGood kernel.inodes) state inodes))

-- the same, by the inode that was read
module _ (old between new : Kernel) (pipe : ℕ) (from : List ℕ) (inode : Inode) (good : PipeGood old pipe) (same : inode ≡ pipe_at old pipe) (room : inode.length + length from ≤ 4096)
    (wrote : between ≡ record old { bank = with_bank_page old inode.root (ring_written (bank_page old inode.root) ((inode.start + inode.length) % 4096) from) })
    (set : new ≡ record between { inodes = slice_set between.inodes pipe (Used (more_by inode (length from))) }) where
  has-room : (pipe_at old pipe).length + length from ≤ 4096
  has-room = subst (λ (row : Inode). row.length + length from ≤ 4096) same room

  mid-by : between ≡ with_ring_put old pipe from
  mid-by =
      wrote
      ∙ ap (λ (row : Inode). let k : Kernel = record old { bank = with_bank_page old row.root (ring_written (bank_page old row.root) ((row.start + row.length) % 4096) from) } in k) same

  state-by : new ≡ with_put old pipe from
  state-by =
      set
      ∙ ap (λ (kernel : Kernel). let k : Kernel = record kernel { inodes = slice_set kernel.inodes pipe (Used (more_by inode (length from))) } in k) mid-by
      ∙ ap (λ (row : Inode). let k : Kernel = record (with_ring_put old pipe from) { inodes = slice_set old.inodes pipe (Used (more_by row (length from))) } in k) same

  pub moves-in-by : has_reader (files_in (machine_of old)) pipe ≡ true → MovesIn old new pipe from (length from)
  moves-in-by reads = moves-in old new pipe from good has-room reads state-by

  pub standing-put-by : BankGood between → ExchangesRoots between new pipe (Used (more_by inode (length from))) → InodesGood new.inodes → Standing old → Standing new
  standing-put-by bank exchanges inodes =
      standing-put old new pipe from good has-room (subst BankGood mid-by bank) state-by
      (subst (λ (row : Inode). ExchangesRoots (with_ring_put old pipe from) new pipe (Used (more_by row (length from)))) same
      (subst (λ (kernel : Kernel). ExchangesRoots kernel new pipe (Used (more_by inode (length from)))) mid-by exchanges)) inodes

  pub good-put-by : BankGood between → InodesGood new.inodes → PipeGood new pipe
  good-put-by bank inodes = good-put old new pipe from good has-room (subst BankGood mid-by bank) state-by inodes

-- what is found where there is no room
pub finds-no-room : (kernel : Kernel) (pipe : ℕ) (from : List ℕ) (inode : Inode) (reader : Bool) → PipeGood kernel pipe → inode ≡ pipe_at kernel pipe → 4096 < inode.length + length from
    → reader ≡ true → reader ≡ has_reader (files_in (machine_of kernel)) pipe → FindsNoRoom kernel kernel pipe from
finds-no-room kernel pipe from inode reader good same full reader_is reads = record {
  reads = sym reads ∙ reader_is;
  full = let held = queue-length kernel pipe inode good same in omega (arith, held, full);
  same = refl;
}
