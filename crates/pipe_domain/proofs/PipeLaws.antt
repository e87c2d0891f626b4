-- What the inode of a pipe has, in a machine in which all stands.
use Rattle.std.proofs.Common.{◌≡◌, ℕ, ◌+◌, ◌-◌, ◌<◌, ◌≤◌, false, Some, None, length, slice_set, arith, refl, sym, ap, subst, ◌∙◌, ⊎_elim}
use Rattle.std.proofs.lemmas.Bool.{cases_lt}
use Rattle.std.proofs.lemmas.List.{get_or_past, get_or-set_same}
use Rattle.kernel_tables.specs.declared.entry.Entry.{Entry}
use Rattle.kernel_tables.specs.declared.entry.Entry.TheVariants.{Free, Taken, Fixed, Unspelled}
use Rattle.kernel_tables.specs.declared.entry.PageOwner.{PageOwner}
use Rattle.kernel_tables.specs.declared.entry.PageOwner.TheVariants.{Pipe as PipePage}
use Rattle.kernel_tables.specs.declared.inode.Inode.{Inode}
use Rattle.kernel_tables.specs.declared.inode.InodeKind.{InodeKind}
use Rattle.kernel_tables.specs.declared.inode.InodeKind.TheVariants.{Pipe}
use Rattle.kernel_tables.specs.declared.row.Row.{Row}
use Rattle.kernel_tables.specs.declared.row.Row.TheVariants.{Used, Unspelled as UnspelledRow}
use Rattle.kernel_tables.specs.Kernel.{Kernel, IsBankPage, first_page, inode_at, bank_page, memory_page}
use Rattle.kernel_tables.specs.Rows.{entry_at}
use Rattle.space_bank.specs.Bank.{BankGood}
use Rattle.space_bank.specs.FreeList.{is_free}
use Rattle.file_tables.specs.Rows.{DescriptionsGood, InodesGood, IsInodeAt, IsInodeRow, IsOfKind, IsPipe}
use Rattle.unix_model.specs.Tables.{at}
use Rattle.kernel_forest.specs.Owners.{owner_in, page_owners}
use Rattle.kernel_forest.specs.Trees.{forest_of}
use Rattle.kernel_forest.proofs.Owners.{owned-entry, owned-in-bank}
use Rattle.kernel_machine.specs.Counts.{opens}
use Rattle.kernel_machine.specs.Machine.{machine_of, descriptions_of, held, inodes_of}
use Rattle.kernel_machine.specs.View.{descriptions_in}
use Rattle.kernel_machine.specs.Standing.{Standing}
use Rattle.kernel_machine.proofs.MemoryLaws.{page-of}
use Rattle.kernel_machine.proofs.OwnerLaws.{owned-below}
use Rattle.pipe_domain.specs.Pipes.{HasRing, IsPipeAt, PipeGood, pipe_at, row_inode, less_by, more_by}

-- an entry of an owner is taken
owned-used : (entry : Entry PageOwner) (owner : PageOwner) → owner_in entry ≡ Some owner → is_free entry ≡ false
owned-used (Free next) owner e = let wrong : None ≡ Some owner = e in cc
owned-used (Taken held count) owner e = refl
owned-used Fixed owner e = refl
owned-used Unspelled owner e = refl

module _ (kernel : Kernel) (page : ℕ) (owner : PageOwner) (owned : at (page_owners kernel) page ≡ Some owner) (standing : Standing kernel) where
  page-used : is_free (entry_at kernel.page_entries (page - first_page kernel.size)) ≡ false
  page-used = owned-used (entry_at kernel.page_entries (page - first_page kernel.size)) owner (owned-entry kernel page owner owned)

  pub page-in-bank : IsBankPage kernel.size page
  page-in-bank =
      let low = owned-in-bank kernel page owner owned in
      let high = owned-below kernel page owner standing.bank owned in record { low = low; high = omega arith }

  pub page-whole : length (bank_page kernel page) ≡ 4096
  page-whole =
      let high = owned-below kernel page owner standing.bank owned in
      standing.whole (page - first_page kernel.size) (let all = standing.bank.pages.pages in omega arith)

-- what the table of inodes says of a pipe
pub pipe-there : (kernel : Kernel) (pipe : ℕ) → IsPipeAt kernel pipe → at (inodes_of kernel) pipe ≡ Some (pipe_at kernel pipe)
unfolding inodes_of at
pipe-there kernel pipe is = ap held is.row

of-pipe : (kind : InodeKind) (inode : Inode) → kind ≡ Pipe → IsOfKind kind inode → IsPipe inode
of-pipe kind inode pipe right = subst (λ (k : InodeKind). IsOfKind k inode) pipe right

module _ (kernel : Kernel) (pipe : ℕ) (standing : Standing kernel) (is : IsPipeAt kernel pipe) where
  pipe-owned : at (page_owners kernel) (pipe_at kernel pipe).root ≡ Some PipePage
  pipe-owned = page-of (forest_of kernel) (memory_page kernel) (page_owners kernel) (pipe_at kernel pipe) (pipe_at kernel pipe).kind (standing.roots.each pipe (pipe_at kernel pipe) (pipe-there kernel pipe is)) is.kind

  pipe-right : IsInodeAt pipe (pipe_at kernel pipe)
  pipe-right = subst (λ (row : Row Inode). IsInodeRow pipe row) is.row (standing.inodes.right pipe is.number)

  pub pipe-ring : HasRing kernel pipe (pipe_at kernel pipe)
  pipe-ring =
      let of_kind = of-pipe (pipe_at kernel pipe).kind (pipe_at kernel pipe) is.kind pipe-right.of_kind in
      record {
        same = refl;
        right = pipe-right;
        kind = is.kind;
        size = of_kind.length;
        start = of_kind.start;
        page = page-in-bank kernel (pipe_at kernel pipe).root PipePage pipe-owned standing;
        used = page-used kernel (pipe_at kernel pipe).root PipePage pipe-owned standing;
        owned = pipe-owned;
        whole = page-whole kernel (pipe_at kernel pipe).root PipePage pipe-owned standing;
      }

-- the inode of a pipe, which holds less or more
pub less-right : (pipe : ℕ) (inode : Inode) (count : ℕ) → inode.length ≤ 4096 → inode.kind ≡ Pipe → IsInodeAt pipe inode → IsInodeAt pipe (less_by inode count)
less-right pipe inode count few kind right = record {
  of_kind = subst (λ (k : InodeKind). IsOfKind k (less_by inode count)) (sym kind) (record { length = omega (arith, few); start = omega arith; no_parent = (of-pipe inode.kind inode kind right.of_kind).no_parent });
  console = right.console;
  root_kind = right.root_kind;
  root_parent = right.root_parent;
}

pub more-right : (pipe : ℕ) (inode : Inode) (count : ℕ) → inode.length + count ≤ 4096 → inode.kind ≡ Pipe → IsInodeAt pipe inode → IsInodeAt pipe (more_by inode count)
more-right pipe inode count fits kind right = record {
  of_kind = subst (λ (k : InodeKind). IsOfKind k (more_by inode count)) (sym kind) (record { length = fits; start = (of-pipe inode.kind inode kind right.of_kind).start; no_parent = (of-pipe inode.kind inode kind right.of_kind).no_parent });
  console = right.console;
  root_kind = right.root_kind;
  root_parent = right.root_parent;
}

-- a row that is there is in the table
pub pipe-inside : (kernel : Kernel) (pipe : ℕ) → IsPipeAt kernel pipe → pipe < length kernel.inodes
pipe-inside kernel pipe is = ⊎_elim
    (λ (t : pipe < length kernel.inodes). t)
    (λ (past : length kernel.inodes ≤ pipe). let wrong : Used (pipe_at kernel pipe) ≡ UnspelledRow = sym is.row ∙ get_or_past kernel.inodes pipe UnspelledRow past in cc)
    (cases_lt pipe (length kernel.inodes))

-- all that calls on a pipe ask, where all stands
pub pipe-good : (kernel : Kernel) (pipe : ℕ) → Standing kernel → IsPipeAt kernel pipe → (pipe_at kernel pipe).opens ≡ opens (descriptions_in (machine_of kernel)) pipe → PipeGood kernel pipe
pipe-good kernel pipe standing is counted = record {
  bank = standing.bank;
  inodes = standing.inodes;
  descriptions = standing.descriptions;
  is_pipe = is;
  ring = pipe-ring kernel pipe standing is;
  counted = counted;
}

-- another row for a pipe, with the same page, which says how many descriptions are open on it
module _ (kernel : Kernel) (pipe : ℕ) (row : Inode) (is : IsPipeAt kernel pipe) (ring : HasRing kernel pipe (pipe_at kernel pipe)) (right : IsInodeAt pipe row) (kind : row.kind ≡ Pipe)
    (root : row.root ≡ (pipe_at kernel pipe).root) where
  abbrev pub with-row : Kernel
  with-row = record kernel { inodes = slice_set kernel.inodes pipe (Used row) }

  there : inode_at with-row pipe ≡ Used row
  there = get_or-set_same kernel.inodes pipe (Used row) UnspelledRow (pipe-inside kernel pipe is)

  row-now : pipe_at with-row pipe ≡ row
  row-now = ap row_inode there

  its-ring : HasRing with-row pipe row
  its-ring =
      let of_kind = of-pipe row.kind row kind right.of_kind in
      record {
        same = sym row-now;
        right = right;
        kind = kind;
        size = of_kind.length;
        start = of_kind.start;
        page = subst (λ (r : ℕ). IsBankPage kernel.size r) (sym root) ring.page;
        used = subst (λ (r : ℕ). is_free (entry_at kernel.page_entries (r - first_page kernel.size)) ≡ false) (sym root) ring.used;
        owned = subst (λ (r : ℕ). at (page_owners kernel) r ≡ Some PipePage) (sym root) ring.owned;
        whole = subst (λ (r : ℕ). length (bank_page kernel r) ≡ 4096) (sym root) ring.whole;
      }

  pub good-row : BankGood kernel → DescriptionsGood kernel.descriptions → row.opens ≡ opens (descriptions_in (machine_of kernel)) pipe
      → InodesGood (slice_set kernel.inodes pipe (Used row)) → PipeGood with-row pipe
  unfolding descriptions_in machine_of descriptions_of
  good-row bank descriptions counted inodes = record {
    bank = record { sized = bank.sized; words = bank.words; pages = bank.pages; nodes = bank.nodes };
    inodes = inodes;
    descriptions = descriptions;
    is_pipe = record {
      number = is.number;
      row = there ∙ ap (λ (r : Inode). let used : Row Inode = Used r in used) (sym row-now);
      kind = ap (λ (r : Inode). r.kind) row-now ∙ kind;
    };
    ring = subst (λ (r : Inode). HasRing with-row pipe r) (sym row-now) its-ring;
    counted = ap (λ (r : Inode). r.opens) row-now ∙ counted;
  }

-- the same, by the inode that was read
pub less-right-by : (pipe : ℕ) (was inode : Inode) (count : ℕ) → inode ≡ was → was.length ≤ 4096 → was.kind ≡ Pipe → IsInodeAt pipe was → IsInodeAt pipe (less_by inode count)
less-right-by pipe was inode count same few kind right = subst (λ (row : Inode). IsInodeAt pipe (less_by row count)) (sym same) (less-right pipe was count few kind right)

pub more-right-by : (pipe : ℕ) (was inode : Inode) (count : ℕ) → inode ≡ was → inode.length + count ≤ 4096 → was.kind ≡ Pipe → IsInodeAt pipe was → IsInodeAt pipe (more_by inode count)
more-right-by pipe was inode count same fits kind right =
    subst (λ (row : Inode). IsInodeAt pipe (more_by row count)) (sym same) (more-right pipe was count (subst (λ (row : Inode). row.length + count ≤ 4096) same fits) kind right)
