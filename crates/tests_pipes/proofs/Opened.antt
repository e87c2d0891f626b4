-- A pipe on which descriptions are opened.
use Rattle.std.proofs.Common.{◌≡◌, ℕ, List, slice_set, refl, sym, ap, subst, ◌∙◌}
use Rattle.kernel_tables.specs.declared.description.Description.{Description}
use Rattle.kernel_tables.specs.declared.inode.Inode.{Inode}
use Rattle.kernel_tables.specs.declared.inode.InodeKind.{InodeKind}
use Rattle.kernel_tables.specs.declared.inode.InodeKind.TheVariants.{Pipe}
use Rattle.kernel_tables.specs.declared.row.Row.{Row}
use Rattle.kernel_tables.specs.declared.row.Row.TheVariants.{Used}
use Rattle.kernel_tables.specs.Kernel.{Kernel, inode_at}
use Rattle.space_bank.specs.Bank.{BankGood}
use Rattle.file_tables.specs.Numbers.{TakesDescription}
use Rattle.file_tables.specs.Rows.{DescriptionsGood, InodesGood, IsInodeAt, IsOfKind, IsPipe}
use Rattle.kernel_machine.specs.Counts.{opens}
use Rattle.kernel_machine.specs.Machine.{machine_of}
use Rattle.kernel_machine.specs.View.{descriptions_in}
use Rattle.pipe_domain.specs.Pipes.{HasRing, IsPipeAt, PipeGood, pipe_at, row_inode}
use Rattle.pipe_domain.proofs.PipeLaws.{good-row}

abbrev pub with-opens : Inode → ℕ → Inode
with-opens inode count = record inode { opens = count }

opens-right : (pipe : ℕ) (inode : Inode) (count : ℕ) → inode.kind ≡ Pipe → IsInodeAt pipe inode → IsInodeAt pipe (with-opens inode count)
opens-right pipe inode count kind right =
    let of_pipe : IsPipe inode = subst (λ (k : InodeKind). IsOfKind k inode) kind right.of_kind in
    record {
      of_kind = subst (λ (k : InodeKind). IsOfKind k (with-opens inode count)) (sym kind) (record { length = of_pipe.length; start = of_pipe.start; no_parent = of_pipe.no_parent });
      console = right.console;
      root_kind = right.root_kind;
      root_parent = right.root_parent;
    }

-- what the tables are once a description has been taken, told of them themselves
pub has-opened : (old mid : Kernel) {description : Description} {number : ℕ} → TakesDescription old mid description number → mid ≡ record old { descriptions = mid.descriptions }
has-opened old mid taken = subst (λ (k : Kernel). k ≡ record old { descriptions = k.descriptions }) (sym taken.state) refl

module _ (old mid : Kernel) (pipe count : ℕ) (inode : Inode) (rows : List (Row Description)) (good : PipeGood old pipe) (opened : mid ≡ record old { descriptions = rows })
    (read : inode_at mid pipe ≡ Used inode) where
  is-mid : IsPipeAt mid pipe
  is-mid = subst (λ (k : Kernel). IsPipeAt k pipe) (sym opened) (record { number = good.is_pipe.number; row = good.is_pipe.row; kind = good.is_pipe.kind })

  ring-mid : HasRing mid pipe (pipe_at mid pipe)
  ring-mid =
      subst (λ (k : Kernel). HasRing k pipe (pipe_at k pipe)) (sym opened)
      (record {
        same = refl;
        right = good.ring.right;
        kind = good.ring.kind;
        size = good.ring.size;
        start = good.ring.start;
        page = good.ring.page;
        used = good.ring.used;
        owned = good.ring.owned;
        whole = good.ring.whole;
      })

  bank-mid : BankGood mid
  bank-mid = subst BankGood (sym opened) (record { sized = good.bank.sized; words = good.bank.words; pages = good.bank.pages; nodes = good.bank.nodes })

  same : pipe_at mid pipe ≡ inode
  same = ap row_inode read

  pub opened-right : IsInodeAt pipe (with-opens inode count)
  opened-right =
      subst (λ (row : Inode). IsInodeAt pipe (with-opens row count)) same (opens-right pipe (pipe_at mid pipe) count ring-mid.kind ring-mid.right)

  pub opened-good : (new : Kernel) → count ≡ opens (descriptions_in (machine_of mid)) pipe → DescriptionsGood mid.descriptions
      → new ≡ record mid { inodes = slice_set mid.inodes pipe (Used (with-opens inode count)) } → InodesGood new.inodes → PipeGood new pipe
  opened-good new counted descriptions state inodes =
      subst (λ (k : Kernel). PipeGood k pipe) (sym state)
      (good-row mid pipe (with-opens inode count) is-mid ring-mid opened-right
      (ap (λ (row : Inode). row.kind) (sym same) ∙ ring-mid.kind) (ap (λ (row : Inode). row.root) (sym same)) bank-mid descriptions counted
      (subst (λ (k : Kernel). InodesGood k.inodes) state inodes))
