-- What is loose is given back: the tree of a file or directory, or the page of a pipe.
use Rattle.std.proofs.Common.{◌≡◌, ◌≢◌, ℕ, ◌+◌, ◌-◌, ◌<◌, ◌≤◌, Some, None, List, [], length, refl, ap, sym, subst, ◌∙◌, arith}
use Rattle.std.specs.Prelude.{◌==◌, if◌then◌else◌}
use Rattle.std.proofs.lemmas.Bool.{eq-eqb}
use Rattle.std.proofs.lemmas.List.{get_or-set_other}
use Rattle.kn_base.specs.Memory.{zero_page}
use Rattle.kernel_tables.specs.declared.entry.Entry.TheVariants.{Free}
use Rattle.kernel_tables.specs.declared.entry.PageOwner.{PageOwner}
use Rattle.kernel_tables.specs.declared.entry.PageOwner.TheVariants.{Buffer, Pipe as PipePage}
use Rattle.kernel_tables.specs.declared.inode.InodeKind.TheVariants as kind
use Rattle.kernel_tables.specs.Kernel.{Kernel, first_page, memory_page, with_bank_page}
use Rattle.kernel_tables.specs.Rows.{KeepsRows, entry_at}
use Rattle.space_bank.specs.Bank.{BankGood, page_given}
use Rattle.space_bank.specs.Shares.{TakesPageOutOfHand, page_places}
use Rattle.space_bank.proofs.BankLaws.{page-counted}
use Rattle.space_bank.proofs.HandLaws.{handed-out, page-in_hand_unnamed}
use Rattle.file_tables.specs.Roots.{named_by, pipe_key}
use Rattle.forest.specs.Forest.{Forest, IsSpace}
use Rattle.forest.specs.Walks.{map_of}
use Rattle.kernel_forest.specs.Owners.{page_owners}
use Rattle.kernel_forest.specs.Releases.{KeepsUnreleased}
use Rattle.kernel_forest.specs.Trees.{forest_of}
use Rattle.kernel_forest.proofs.Owners.{owned-in-bank, owned-inside, owners-page_given}
use Rattle.domain.proofs.Pages.{forest_paged}
use Rattle.seg_tree.specs.Promises.{Drops}
use Rattle.unix_model.specs.Tables.{at, with_at}
use Rattle.user_copy.specs.SpaceMemory.{memory_by}
use Rattle.kernel_machine.specs.Held.{AllWhole}
use Rattle.kernel_machine.specs.Loose.{Tree, Ring, StandingBut, word_of}
use Rattle.kernel_machine.specs.Machine.{machine_of}
use Rattle.kernel_machine.specs.View.{memory_in}
use Rattle.kernel_machine.proofs.DropStands.{standing_with_space_dropped}
use Rattle.kernel_machine.proofs.LooseLaws.{nothing_loose, ring-word, tree-word}
use Rattle.kernel_machine.proofs.OwnerLaws.{none-shares, owned-below, owned-no-tree}
use Rattle.kernel_machine.proofs.PageStands.{standing_without_page}
use Rattle.kernel_machine.proofs.StandingLaws.{same-memory}
use Rattle.forest.specs.Objects.{OfFile}
use Rattle.file_domain.specs.Dropping.{IsNamedOnce, Releases}
use Rattle.file_domain.proofs.PagesGiven.{none_given, tree_pages_given}
use Rattle.file_domain.proofs.Unseen.{ChangesLoose, drop_unseen, loose_unseen}
use Rattle.file_trees.proofs.Views.{state-now}

-- ---- a tree

module _ (old : Kernel) (root : ℕ) (some : root ≢ 0) (loose : StandingBut old (word_of kind.File root)) where
  pub tree_loose : StandingBut old (Tree root)
  tree_loose = subst (StandingBut old) (tree-word kind.File root tt some) loose

  module _ (new : Kernel) (drops : Drops old new root) (bank : BankGood new) (whole : AllWhole new.bank) where
    pub tree_released : Releases old new root kind.File
    tree_released = record {
      standing = standing_with_space_dropped old new root OfFile drops bank whole tree_loose;
      rest = drops.rest;
      rows_now = drops.rows_now;
      seen = drop_unseen old new root tree_loose drops bank;
      given = record {
        of_tree = λ tree. tree_pages_given old new drops.rest drops.apart_now drops.keeps tree_loose.bank bank;
        of_pipe = λ e. cc;
      };
    }

-- the word 0 stands for no tree
pub no_tree : (kernel : Kernel) (root : ℕ) → root ≡ 0 → StandingBut kernel (word_of kind.File root) → Releases kernel kernel root kind.File
no_tree kernel root none loose = record {
  standing = (nothing_loose kernel).1 (subst (λ r. StandingBut kernel (word_of kind.File r)) none loose);
  rest = refl;
  rows_now = λ mine apart. refl;
  seen = refl;
  given = record {
    of_tree = λ tree. let none = none_given (forest_of kernel) (first_page kernel.size) kernel.size in omega arith;
    of_pipe = λ e. cc;
  };
}

-- the console has nothing
pub no_root : (kernel : Kernel) (root : ℕ) → StandingBut kernel (word_of kind.Console root) → Releases kernel kernel root kind.Console
no_root kernel root loose = record {
  standing = (nothing_loose kernel).1 loose;
  rest = refl;
  rows_now = λ mine apart. refl;
  seen = refl;
  given = record { of_tree = λ tree. absurd tree; of_pipe = λ e. cc };
}

-- ---- the page of a pipe

module _ (old : Kernel) (page : ℕ) (real : page ≢ 0) (loose : StandingBut old (word_of kind.Pipe page)) where
  pub ring_loose : StandingBut old (Ring page)
  ring_loose = subst (StandingBut old) (ring-word kind.Pipe page refl real) loose

  owned : at (page_owners old) page ≡ Some PipePage
  owned = ring_loose.is_loose.taken

  pub ring_low : first_page old.size ≤ page
  ring_low = owned-in-bank old page PipePage owned

  below : page - first_page old.size < old.size
  below = owned-below old page PipePage ring_loose.bank owned

  pub ring_high : page < first_page old.size + old.size
  ring_high = let low = ring_low in let high = below in omega arith

  -- what is named once, and by the row alone, stands in no node
  pub ring_unnamed : IsNamedOnce old page → page_places old.keys page ≡ 0
  ring_unnamed once =
      page-in_hand_unnamed old (named_by old.inodes) [] (pipe_key page) page (record { low = ring_low; high = ring_high }) once (eq-eqb page page refl)
      ((handed-out old (named_by old.inodes) [] (pipe_key page)).1 ring_loose.trees.shares)

  module _ (new : Kernel) (once : IsNamedOnce old page) (given : new ≡ page_given old (page - first_page old.size)) (out : TakesPageOutOfHand old new page) (bank : BankGood new) where
    in-rows : page - first_page old.size < length old.page_entries
    in-rows = owned-inside old page PipePage owned

    forest-left : forest_of new ≡ forest_of old
    forest-left =
        let none = owned-no-tree old page PipePage owned refl in
        ap forest_of given
        ∙ forest_paged old (page - first_page old.size) (Free old.machine.free_page) in-rows none refl (none-shares (entry_at old.page_entries (page - first_page old.size)) none) refl

    owners-left : page_owners new ≡ with_at (page_owners old) page None
    owners-left = ap page_owners given ∙ owners-page_given old page ring_low in-rows

    rest-left : KeepsUnreleased old new
    rest-left = subst (KeepsUnreleased old) (sym given) refl

    rows-left : KeepsRows old new
    rows-left = subst (KeepsRows old) (sym given) (λ mine apart. refl)

    abbrev cleared : Kernel
    cleared = record old { bank = with_bank_page old page zero_page }

    bytes-left : memory_page new ≡ memory_page cleared
    bytes-left = ap memory_page given

    memory-left : (other : ℕ) → IsSpace (forest_of old) [] other → memory_in (machine_of new) (Some other) ≡ memory_in (machine_of old) (Some other)
    unfolding machine_of memory_in
    memory-left other is =
        ap (λ (forest : Forest). memory_by (memory_page new) (map_of forest.keys other)) forest-left
        ∙ ap (λ (bytes : ℕ → List ℕ). memory_by bytes (map_of (forest_of old).keys other)) bytes-left
        ∙ same-memory old page PipePage zero_page owned refl ring_loose.bank ring_loose.trees.held.sound other is

    -- a page of another owner, or another one of the same
    other-bytes : (other : ℕ) (owner : PageOwner) → at (page_owners old) other ≡ Some owner → other ≢ page → memory_page new other ≡ memory_page old other
    other-bytes other owner its apart =
        let low = owned-in-bank old other owner its in
        let mine = ring_low in
        ap (λ (bytes : ℕ → List ℕ). bytes other) bytes-left
        ∙ ap (λ content. if other == 0 then old.page_zero else content)
        (get_or-set_other old.bank (page - first_page old.size) (other - first_page old.size) zero_page [] (λ e. apart (omega arith)))

    ring-changes : ChangesLoose old new (Ring page)
    ring-changes = record {
      rest = state-now old new rest-left rows-left;
      memories = λ other space tree is. memory-left other is;
      buffers = λ other its. other-bytes other Buffer its (λ same. let no : Some Buffer ≡ Some PipePage = sym its ∙ ap (at (page_owners old)) same ∙ owned in cc);
      pipes = λ other apart its. other-bytes other PipePage its (λ same. apart (ap Ring (sym same)));
    }

    pub ring_released : Releases old new page kind.Pipe
    ring_released = record {
      standing = standing_without_page old new page given out bank ring_loose;
      rest = rest-left;
      rows_now = rows-left;
      seen = loose_unseen old new (Ring page) ring_loose ring-changes;
      given = record {
        of_tree = λ tree. absurd tree;
        of_pipe = λ e. (
          (let one = (page-counted old (page - first_page old.size) below once ring_loose.bank).0 in
              let pages : new.machine.pages_taken ≡ old.machine.pages_taken - 1 = ap (λ (k : Kernel). k.machine.pages_taken) given in
              omega arith),
          forest-left,
          owners-left,
        );
      };
    }
