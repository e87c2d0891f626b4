use Rattle.std.proofs.Common.{◌≡◌, ℕ, Option, Some, None, ap, sym, ◌∙◌, arith}
use Rattle.kernel_tables.specs.Kernel.{Kernel, kernel_of}
use Rattle.space_bank.specs.Laws.{and_outside}
use Rattle.file_tables.specs.Roots.{named_by}
use Rattle.forest.specs.Walks.{Mapping, map_of, space_key}
use Rattle.kernel_forest.specs.Trees.{forest_of}
use Rattle.kernel_forest.proofs.Rest.{rest-nodes, rest-pages_taken, rest-size, rest-zero}
use Rattle.file_trees.specs.Pieces.{MayBeWritten}
use Rattle.dir_domain.proofs.add.plant.Goals as goal

-- a space in which nothing is mapped has no page to be written
none-mapped : (kernel : Kernel) (space : ℕ) → map_of (forest_of kernel).keys space ≡ (λ page. None) → MayBeWritten kernel space
none-mapped kernel space none = λ page mapping is. absurd (let no : None ≡ Some mapping = sym (ap (λ (m : ℕ → Option Mapping). m page) none) ∙ is in cc)

pub new_space-tree-requires-clause-good : goal.new_space-tree-requires-clause-good
new_space-tree-requires-clause-good g c = c.requires.standing.bank

pub new_space-tree-requires-clause-trees : goal.new_space-tree-requires-clause-trees
new_space-tree-requires-clause-trees g c = (named_by (kernel_of (g.T.Store.memory c.args.store.now)).inodes, c.requires.standing.trees)

pub new_space-tree-requires-clause-room : goal.new_space-tree-requires-clause-room
new_space-tree-requires-clause-room g c = omega (arith, c.requires.nodes)

pub put_piece-requires-clause-good : goal.put_piece-requires-clause-good
put_piece-requires-clause-good g c = c.new_space-tree.ensures.good

pub put_piece-requires-clause-trees : goal.put_piece-requires-clause-trees
put_piece-requires-clause-trees g c =
    let outside = named_by (kernel_of (g.T.Store.memory c.args.store.now)).inodes in
    (and_outside outside (space_key c.new_space-tree.result.0.0), (c.new_space-tree.ensures.added.adds outside c.requires.standing.trees).0)

pub put_piece-requires-clause-space : goal.put_piece-requires-clause-space
put_piece-requires-clause-space g c = (c.new_space-tree.ensures.added.adds (named_by (kernel_of (g.T.Store.memory c.args.store.now)).inodes) c.requires.standing.trees).1.is_space

pub put_piece-requires-clause-zero : goal.put_piece-requires-clause-zero
put_piece-requires-clause-zero g c = rest-zero (kernel_of (g.T.Store.memory c.args.store.now)) (kernel_of (g.T.Store.memory c.new_space-tree.new.store)) c.new_space-tree.ensures.added.rest c.requires.standing.unused.zero

pub put_piece-requires-clause-writable : goal.put_piece-requires-clause-writable
put_piece-requires-clause-writable g c =
    none-mapped (kernel_of (g.T.Store.memory c.new_space-tree.new.store)) c.new_space-tree.result.0.0 (c.new_space-tree.ensures.added.adds (named_by (kernel_of (g.T.Store.memory c.args.store.now)).inodes) c.requires.standing.trees).1.here

pub put_piece-requires-clause-owner : goal.put_piece-requires-clause-owner
put_piece-requires-clause-owner g c = sym c.new_space-tree.ensures.added.owned

pub put_piece-requires-clause-low : goal.put_piece-requires-clause-low
put_piece-requires-clause-low g c = omega (arith, c.requires.number)

pub put_piece-requires-clause-some : goal.put_piece-requires-clause-some
put_piece-requires-clause-some g c = omega (arith, c.told-bytes)

pub put_piece-requires-clause-within : goal.put_piece-requires-clause-within
put_piece-requires-clause-within g c = omega (arith, c.told-bytes)

pub put_piece-requires-clause-room : goal.put_piece-requires-clause-room
put_piece-requires-clause-room g c =
    let one = c.new_space-tree.ensures.added.number in
    let all = rest-nodes (kernel_of (g.T.Store.memory c.args.store.now)) (kernel_of (g.T.Store.memory c.new_space-tree.new.store)) c.new_space-tree.ensures.added.rest in
    omega (arith, one, all, c.requires.nodes)

pub put_piece-requires-clause-page_room : goal.put_piece-requires-clause-page_room
put_piece-requires-clause-page_room g c = λ own.
    let taken = rest-pages_taken (kernel_of (g.T.Store.memory c.args.store.now)) (kernel_of (g.T.Store.memory c.new_space-tree.new.store)) c.new_space-tree.ensures.added.rest in
    let size = rest-size (kernel_of (g.T.Store.memory c.args.store.now)) (kernel_of (g.T.Store.memory c.new_space-tree.new.store)) c.new_space-tree.ensures.added.rest in
    omega (arith, taken, size, c.requires.pages)

pub returns-clause-planted : goal.returns-clause-planted
returns-clause-planted g c = record {
  mid = kernel_of (g.T.Store.memory c.new_space-tree.new.store);
  adds = c.new_space-tree.ensures.added;
  good = c.new_space-tree.ensures.good;
  puts = c.put_piece.ensures.put;
}

pub returns-clause-good : goal.returns-clause-good
returns-clause-good g c = c.put_piece.ensures.good

pub returns-clause-most : goal.returns-clause-most
returns-clause-most g c = omega (arith, c.new_space-tree.ensures.added.number, c.put_piece.ensures.put.most)

pub returns-clause-keeps : goal.returns-clause-keeps
returns-clause-keeps g c = g.met.T.Store.keeps_trans c.args.store.now c.new_space-tree.new.store c.put_piece.new.store c.new_space-tree.ensures.keeps c.put_piece.ensures.keeps
