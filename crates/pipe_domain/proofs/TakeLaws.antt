-- What is left of a pipe from which bytes were taken.
use Rattle.std.proofs.Common.{◌≡◌, ℕ, ◌+◌, ◌-◌, ◌%◌, ◌<◌, ◌≤◌, Bool, true, false, Some, List, [], ◌++◌, length, take, drop, min, slice_set, arith, refl, sym, ap, subst, ◌∙◌}
use Rattle.std.proofs.Math.Nat.{min-le_right}
use Rattle.std.proofs.lemmas.List.{take_min, drop_min, length-take, nil_from_length, get_or-set_same}
use Rattle.kernel_tables.specs.declared.entry.PageOwner.TheVariants.{Pipe as PipePage}
use Rattle.kernel_tables.specs.declared.inode.Inode.{Inode}
use Rattle.kernel_tables.specs.declared.inode.InodeKind.{InodeKind}
use Rattle.kernel_tables.specs.declared.inode.InodeKind.TheVariants.{Pipe}
use Rattle.kernel_tables.specs.declared.row.Row.TheVariants.{Used, Unspelled}
use Rattle.kernel_tables.specs.Kernel.{Kernel, bank_page, memory_page}
use Rattle.file_tables.specs.Roots.{ExchangesRoots}
use Rattle.file_tables.specs.Rows.{InodesGood}
use Rattle.unix_model.specs.Files as model
use Rattle.unix_model.specs.Files.{has_writer, with_inode}
use Rattle.unix_model.specs.State.{with_files}
use Rattle.unix_model.specs.Tables.{at}
use Rattle.kernel_forest.specs.Owners.{page_owners}
use Rattle.kernel_forest.specs.Trees.{forest_of}
use Rattle.kernel_machine.specs.Contents.{ring_in}
use Rattle.kernel_machine.specs.Machine.{machine_of}
use Rattle.kernel_machine.specs.Standing.{Standing}
use Rattle.kernel_machine.specs.Trees.{IsRootOf}
use Rattle.kernel_machine.specs.View.{view, files_in}
use Rattle.kernel_machine.proofs.SetLaws.{inode_set}
use Rattle.kernel_machine.proofs.StandingLaws.{standing_with_inode}
use Rattle.std.specs.Prelude.{if◌then◌else◌}
use Rattle.pipe_domain.specs.declared.piped.Piped.{Piped}
use Rattle.pipe_domain.specs.declared.piped.Piped.TheVariants.{End, Wait}
use Rattle.pipe_domain.specs.Pipes.{HasRing, IsPipeAt, MovesOut, PipeGood, Takes, pipe_at, queue, row_inode, less_by, with_taken, IsSeenWith}
use Rattle.pipe_domain.proofs.PipeLaws.{good-row, less-right, pipe-inside}
use Rattle.pipe_domain.proofs.RingLaws.{length-ring, ring-front, ring-taken}
use Rattle.pipe_domain.proofs.SeenLaws.{pipe-seen}

-- the root of a pipe is the page of a pipe, whatever else its row says
pub root-right : (kernel : Kernel) (row : Inode) (kind : InodeKind) → kind ≡ Pipe → at (page_owners kernel) row.root ≡ Some PipePage → IsRootOf (forest_of kernel) (memory_page kernel) (page_owners kernel) row kind
root-right kernel row kind pipe owned = subst (λ (k : InodeKind). IsRootOf (forest_of kernel) (memory_page kernel) (page_owners kernel) row k) (sym pipe) owned

module _ (old new : Kernel) (pipe count : ℕ) (into : List ℕ) (good : PipeGood old pipe)
    (count_is : count ≡ min (length into) (pipe_at old pipe).length) (state : new ≡ with_taken old pipe count) where
  ring : HasRing old pipe (pipe_at old pipe)
  ring = good.ring

  is : IsPipeAt old pipe
  is = good.is_pipe

  held : length (queue old pipe) ≡ (pipe_at old pipe).length
  held = length-ring (bank_page old (pipe_at old pipe).root) (pipe_at old pipe).start (pipe_at old pipe).length ring.whole ring.size

  by-length : count ≡ min (length into) (length (queue old pipe))
  by-length = count_is ∙ ap (λ (n : ℕ). min (length into) n) (sym held)

  few : count ≤ (pipe_at old pipe).length
  few = let most = min-le_right (length into) (pipe_at old pipe).length in omega (arith, count_is, most)

  front : take (length into) (queue old pipe) ≡ ring_in (bank_page old (pipe_at old pipe).root) (pipe_at old pipe).start count
  front =
      sym (take_min (length into) (queue old pipe)) ∙ ap (λ (n : ℕ). take n (queue old pipe)) (sym by-length)
      ∙ ring-front (bank_page old (pipe_at old pipe).root) (pipe_at old pipe).start (pipe_at old pipe).length count few

  behind : drop count (queue old pipe) ≡ drop (length into) (queue old pipe)
  behind = ap (λ (n : ℕ). drop n (queue old pipe)) by-length ∙ drop_min (length into) (queue old pipe)

  left : ring_in (bank_page old (pipe_at old pipe).root) (((pipe_at old pipe).start + count) % 4096) ((pipe_at old pipe).length - count) ≡ drop (length into) (queue old pipe)
  left = ring-taken (bank_page old (pipe_at old pipe).root) (pipe_at old pipe).start (pipe_at old pipe).length count ring.whole ring.start few ring.size ∙ behind

  row-now : pipe_at (with_taken old pipe count) pipe ≡ less_by (pipe_at old pipe) count
  row-now = ap row_inode (get_or-set_same old.inodes pipe (Used (less_by (pipe_at old pipe) count)) Unspelled (pipe-inside old pipe is))

  queue-now : queue new pipe ≡ drop (length into) (queue old pipe)
  queue-now =
      ap (λ (kernel : Kernel). queue kernel pipe) state
      ∙ ap (λ (row : Inode). ring_in (bank_page old row.root) row.start row.length) row-now
      ∙ left

  seen-now : IsSeenWith old new pipe (drop (length into) (queue old pipe))
  seen-now =
      inode_set old new pipe (less_by (pipe_at old pipe) count) (pipe-inside old pipe is) state
      ∙ ap (λ (inode : model.Inode). with_files (view (machine_of old)) (with_inode (files_in (machine_of old)) pipe inode))
      (pipe-seen old (less_by (pipe_at old pipe) count) is.kind ring.page ∙ ap (λ (bytes : List ℕ). model.Pipe bytes) left)

  pub moves-out : (now : List ℕ) → 0 < length (queue old pipe) → now ≡ ring_in (bank_page old (pipe_at old pipe).root) (pipe_at old pipe).start count ++ drop count into → MovesOut old new pipe into now count
  moves-out now some moved = record {
    some = some;
    number = by-length ∙ sym (length-take (length into) (queue old pipe));
    moved = moved ∙ ap (λ (bytes : List ℕ). bytes ++ drop count into) (sym front);
    state = state;
    left = queue-now;
    seen = seen-now;
  }

  pub standing-taken : ExchangesRoots old new pipe (Used (less_by (pipe_at old pipe) count)) → InodesGood new.inodes → Standing old → Standing new
  standing-taken exchanges inodes standing =
      standing_with_inode old new pipe (pipe_at old pipe) (less_by (pipe_at old pipe) count) (pipe-inside old pipe is) is.row state exchanges inodes refl refl
      (root-right old (less_by (pipe_at old pipe) count) (pipe_at old pipe).kind is.kind ring.owned) standing

  pub good-taken : InodesGood new.inodes → PipeGood new pipe
  good-taken inodes =
      subst (λ (kernel : Kernel). PipeGood kernel pipe) (sym state)
      (good-row old pipe (less_by (pipe_at old pipe) count) is ring (less-right pipe (pipe_at old pipe) count ring.size is.kind ring.right) is.kind refl good.bank good.descriptions good.counted
      (subst (λ (kernel : Kernel). InodesGood kernel.inodes) state inodes))

-- the same, by the inode that was read
module _ (old new : Kernel) (pipe count : ℕ) (into piece : List ℕ) (inode : Inode) (good : PipeGood old pipe) (same : inode ≡ pipe_at old pipe)
    (count_is : count ≡ min (length into) inode.length) (state : new ≡ record old { inodes = slice_set old.inodes pipe (Used (less_by inode count)) }) where
  state-by : new ≡ with_taken old pipe count
  state-by = state ∙ ap (λ (row : Inode). let k : Kernel = record old { inodes = slice_set old.inodes pipe (Used (less_by row count)) } in k) same

  count-by : count ≡ min (length into) (pipe_at old pipe).length
  count-by = count_is ∙ ap (λ (row : Inode). min (length into) row.length) same

  pub moves-out-by : 0 < length (queue old pipe) → (n : ℕ) → n ≡ count → piece ≡ ring_in (bank_page old inode.root) inode.start n → MovesOut old new pipe into (piece ++ drop count into) count
  moves-out-by some n n_is moved =
      moves-out old new pipe count into good count-by state-by (piece ++ drop count into) some
      (ap (λ (bytes : List ℕ). bytes ++ drop count into)
      (moved ∙ ap (λ (m : ℕ). ring_in (bank_page old inode.root) inode.start m) n_is ∙ ap (λ (row : Inode). ring_in (bank_page old row.root) row.start count) same))

  pub standing-taken-by : ExchangesRoots old new pipe (Used (less_by inode count)) → InodesGood new.inodes → Standing old → Standing new
  standing-taken-by exchanges inodes =
      standing-taken old new pipe count into good count-by state-by
      (subst (λ (row : Inode). ExchangesRoots old new pipe (Used (less_by row count))) same exchanges) inodes

  pub good-taken-by : InodesGood new.inodes → PipeGood new pipe
  good-taken-by inodes = good-taken old new pipe count into good count-by state-by inodes

-- how many bytes a pipe holds
pub queue-length : (kernel : Kernel) (pipe : ℕ) (inode : Inode) → PipeGood kernel pipe → inode ≡ pipe_at kernel pipe → length (queue kernel pipe) ≡ inode.length
queue-length kernel pipe inode good same =
    length-ring (bank_page kernel (pipe_at kernel pipe).root) (pipe_at kernel pipe).start (pipe_at kernel pipe).length good.ring.whole good.ring.size
    ∙ ap (λ (row : Inode). row.length) (sym same)

-- what is found where a pipe is empty
pub finds-none : (kernel : Kernel) (pipe : ℕ) (into : List ℕ) (inode : Inode) (writer : Bool) (answer : Piped) → PipeGood kernel pipe → inode ≡ pipe_at kernel pipe → inode.length ≡ 0
    → writer ≡ has_writer (files_in (machine_of kernel)) pipe → answer ≡ (if writer then Wait else End) → Takes kernel kernel pipe into into answer
finds-none kernel pipe into inode writer answer good same empty writes told =
    subst (λ (answer : Piped). Takes kernel kernel pipe into into answer) (sym told) (by_writer writer writes) where
      none : queue kernel pipe ≡ []
      none = nil_from_length (queue kernel pipe) (queue-length kernel pipe inode good same ∙ empty)

      by_writer : (writer : Bool) → writer ≡ has_writer (files_in (machine_of kernel)) pipe → Takes kernel kernel pipe into into (if writer then Wait else End)
      by_writer true has = record { none = none; writes = sym has; same_into = refl; same = refl }
      by_writer false has = record { none = none; writes = sym has; same_into = refl; same = refl }
