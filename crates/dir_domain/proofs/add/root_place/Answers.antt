use Rattle.std.proofs.Common.{◌≡◌, ℕ, ◌*◌, List, ap, sym, subst, ◌∙◌, arith}
use Rattle.kernel_tables.specs.declared.inode.Inode.{Inode}
use Rattle.kernel_tables.specs.declared.row.Row.{Row}
use Rattle.kernel_tables.specs.Kernel.{Kernel, kernel_of}
use Rattle.kernel_tables.proofs.Sizes.{length-inodes}
use Rattle.file_tables.specs.Rows.{InodesGood}
use Rattle.kernel_machine.proofs.OwnerLaws.{store_is_whole}
use Rattle.dir_domain.specs.Changes.{Plants}
use Rattle.dir_domain.proofs.Planting.{place-planted}
use Rattle.dir_domain.proofs.Stretching.{right-with, same-taken, same-promised}
use Rattle.dir_domain.proofs.add.root_place.Goals as goal

-- a tree that was made and written has left the rows and what is promised as they were
planted-inodes : (old new : Kernel) (space place : ℕ) (bytes : List ℕ) → Plants old new space place bytes → new.inodes ≡ old.inodes
planted-inodes old new space place bytes planted = ap (λ (k : Kernel). k.inodes) planted.puts.leaves.rest ∙ ap (λ (k : Kernel). k.inodes) planted.adds.rest

planted-promised : (old new : Kernel) (space place : ℕ) (bytes : List ℕ) → Plants old new space place bytes → new.machine.promised ≡ old.machine.promised
planted-promised old new space place bytes planted =
    ap (λ (k : Kernel). k.machine.promised) planted.puts.leaves.rest ∙ ap (λ (k : Kernel). k.machine.promised) planted.adds.rest

-- the rows are good as those that they equal
good-as : (old new : List (Row Inode)) → new ≡ old → InodesGood old → InodesGood new
good-as old new same good = subst InodesGood (sym same) good

pub set_inode-requires : goal.set_inode-requires
set_inode-requires g c =
    let old = kernel_of (g.T.Store.memory c.args.store.now) in
    let mid = kernel_of (g.T.Store.memory c.plant-tree.new.store) in
    record {
      sized = c.plant-tree.ensures.good.sized;
      good = good-as old.inodes mid.inodes (planted-inodes old mid c.plant-tree.result.0.0 (32 * c.args.number) c.args.bytes.now c.plant-tree.ensures.planted) c.requires.standing.inodes;
      number = c.requires.row.below;
      right = right-with c.args.dir c.args.row c.plant-tree.result.0.0 c.args.length c.requires.row.right c.requires.row.kind c.requires.few c.requires.whole;
    }

pub returns-clause-changed : goal.returns-clause-changed
returns-clause-changed g c =
    let memory = g.T.Store.memory c.args.store.now in
    let k2 = kernel_of (g.T.Store.memory c.plant-tree.new.store) in
    let count = length-inodes memory c.requires.standing.bank.sized in
    let below = c.requires.row.below in
    place-planted (kernel_of memory) k2 c.args.dir c.args.length c.args.number c.plant-tree.result.0.0 c.args.row c.args.bytes.now c.requires.standing c.requires.row c.requires.none (omega (arith, count))
    c.told-bytes c.requires.number c.plant-tree.ensures.planted c.plant-tree.ensures.good (kernel_of (g.T.Store.memory c.set_inode.new.store)) c.set_inode.ensures.written c.requires.whole
    c.set_inode.ensures.roots c.set_inode.ensures.good
    (store_is_whole (g.T.Store.memory c.plant-tree.new.store) c.plant-tree.ensures.good (g.met.T.Store.page_length c.plant-tree.new.store))

pub returns-clause-promised : goal.returns-clause-promised
returns-clause-promised g c =
    let old = kernel_of (g.T.Store.memory c.args.store.now) in
    let mid = kernel_of (g.T.Store.memory c.plant-tree.new.store) in
    same-promised mid (kernel_of (g.T.Store.memory c.set_inode.new.store)) c.args.dir (record c.args.row { root = c.plant-tree.result.0.0; length = c.args.length }) c.set_inode.ensures.written
    ∙ planted-promised old mid c.plant-tree.result.0.0 (32 * c.args.number) c.args.bytes.now c.plant-tree.ensures.planted

pub returns-clause-most : goal.returns-clause-most
returns-clause-most g c =
    let same = same-taken (kernel_of (g.T.Store.memory c.plant-tree.new.store)) (kernel_of (g.T.Store.memory c.set_inode.new.store)) c.args.dir (record c.args.row { root = c.plant-tree.result.0.0; length = c.args.length }) c.set_inode.ensures.written in
    let most = c.plant-tree.ensures.most in
    omega arith
