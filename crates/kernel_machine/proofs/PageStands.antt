-- What stands goes along with pages of pipes that are taken and given back.
use Rattle.std.proofs.Common.{◌≡◌, ◌≢◌, ◌<◌, ◌-◌, ℕ, Option, Some, None, [], length, refl, sym, ap, subst, ◌∙◌, arith}
use Rattle.std.proofs.lemmas.List.{length-replicate}
use Rattle.kn_base.specs.Memory.{zero_page}
use Rattle.kernel_tables.specs.declared.entry.Entry.TheVariants.{Free, Taken}
use Rattle.kernel_tables.specs.declared.entry.PageOwner.{PageOwner}
use Rattle.kernel_tables.specs.declared.entry.PageOwner.TheVariants.{File as FilePage, Directory, Buffer, Pipe as PipePage}
use Rattle.kernel_tables.specs.declared.inode.Inode.{Inode}
use Rattle.kernel_tables.specs.declared.inode.InodeKind.{InodeKind}
use Rattle.kernel_tables.specs.declared.inode.InodeKind.TheVariants.{File, Dir, Pipe, Console}
use Rattle.kernel_tables.specs.Kernel.{Kernel, IsBankPage, first_page, memory_page, with_bank_page}
use Rattle.kernel_tables.specs.Rows.{domain_rows, entry_at}
use Rattle.space_bank.specs.Bank.{BankGood, TakesPage, page_given}
use Rattle.space_bank.specs.Laws.{and_outside}
use Rattle.space_bank.specs.Shares.{Outside, PutsPageInHand, TakesPageOutOfHand}
use Rattle.space_bank.proofs.EntryLaws.{free_spelled}
use Rattle.space_bank.proofs.FreeListLaws.{entry_inside}
use Rattle.forest.specs.Forest.{Forest, NoPageOutside}
use Rattle.forest.specs.Objects.{PageObject}
use Rattle.kernel_forest.specs.Owners.{page_owners}
use Rattle.kernel_forest.specs.Trees.{forest_of, outside_trees, TreesGood}
use Rattle.kernel_forest.proofs.Owners.{free-by-nobody, owned-in-bank, owned-inside, owners-set}
use Rattle.file_tables.specs.Roots.{named_by, pipe_key}
use Rattle.file_tables.proofs.PageLaws.{page_taken, page_given_back}
use Rattle.unix_model.specs.Tables.{at, with_at}
use Rattle.unix_model.proofs.TableLaws.{at-with_at, at-with_at-other}
use Rattle.domain.specs.Domains.{domains}
use Rattle.domain.proofs.Pages.{forest_paged, outside_paged}
use Rattle.kernel_machine.specs.Held.{AllHeld}
use Rattle.kernel_machine.specs.Loose as law
use Rattle.kernel_machine.specs.Loose.{Nothing, Space, Tree, Ring, IsLoose, HeldBut, StandingBut, outside_with}
use Rattle.kernel_machine.specs.Machine.{inodes_of}
use Rattle.kernel_machine.specs.Processes.{HoldingsGood}
use Rattle.kernel_machine.specs.Standing.{Standing}
use Rattle.kernel_machine.specs.Trees.{IsRootOf, RootsGood}
use Rattle.kernel_machine.proofs.KeepLaws.{outside-more}
use Rattle.kernel_machine.proofs.LooseLaws.{ring-word, word-ring}
use Rattle.kernel_machine.proofs.OwnerLaws.{free-in-no-tree, free-tree, none-shares, other-page, owned-below, owned-no-tree, unowned-by, whole-set}
use Rattle.kernel_machine.proofs.MemoryLaws.{page-of}
use Rattle.kernel_machine.proofs.RootStands.{ring-real}
use Rattle.kernel_machine.proofs.StandingLaws.{filled-to, keepers-to, root-same}

-- ---- a page is taken

module _ (old new : Kernel) (page : ℕ) (takes : TakesPage old new page PipePage) (puts : PutsPageInHand old new page) (bank : BankGood new) (standing : Standing old) where
  inside : page - first_page old.size < length old.page_entries
  inside = entry_inside old.page_entries (page - first_page old.size) (free_spelled (entry_at old.page_entries (page - first_page old.size)) takes.was_free)

  in-no-tree : (forest_of old).owner (PageObject page) ≡ None
  in-no-tree = free-in-no-tree old page takes.was_free

  forest-now : forest_of new ≡ forest_of old
  forest-now =
      let free = free-tree (entry_at old.page_entries (page - first_page old.size)) takes.was_free in
      ap forest_of takes.state
      ∙ forest_paged old (page - first_page old.size) (Taken PipePage 1) inside free refl (none-shares (entry_at old.page_entries (page - first_page old.size)) free) refl

  outside-now : (outside : Outside) → outside_trees new outside ≡ outside_trees old outside
  outside-now outside =
      ap (λ (k : Kernel). outside_trees k outside) takes.state
      ∙ outside_paged old (page - first_page old.size) (Taken PipePage 1) outside inside (free-tree (entry_at old.page_entries (page - first_page old.size)) takes.was_free) refl

  owners-now : page_owners new ≡ with_at (page_owners old) page (Some PipePage)
  owners-now = ap page_owners takes.state ∙ owners-set (first_page old.size) old.page_entries page (Taken PipePage 1) takes.low inside

  owner-here : at (page_owners new) page ≡ Some PipePage
  owner-here = ap (λ (table : ℕ → Option PageOwner). at table page) owners-now ∙ at-with_at (page_owners old) page (Some PipePage)

  owner-there : (other : ℕ) → other ≢ page → at (page_owners new) other ≡ at (page_owners old) other
  owner-there other apart = ap (λ (table : ℕ → Option PageOwner). at table other) owners-now ∙ at-with_at-other (page_owners old) page other (Some PipePage) apart

  -- whoever owned a page owns another one
  owned-other : (other : ℕ) (owner : PageOwner) → at (page_owners old) other ≡ Some owner → other ≢ page
  owned-other other owner owned same = let no : Some owner ≡ None = sym owned ∙ ap (at (page_owners old)) same ∙ free-by-nobody old page takes.was_free in cc

  owned-now : (other : ℕ) (owner : PageOwner) → at (page_owners old) other ≡ Some owner → at (page_owners new) other ≡ Some owner
  owned-now other owner owned = owner-there other (owned-other other owner owned) ∙ owned

  root-now : (inode : Inode) (kind : InodeKind) → IsRootOf (forest_of old) (memory_page old) (page_owners old) inode kind → IsRootOf (forest_of old) (memory_page old) (page_owners new) inode kind
  root-now inode File is = λ some.
      let h = is some in (h.0, h.1, h.2, λ number mapping mapped real. owned-now mapping.page FilePage (h.3 number mapping mapped real))
  root-now inode Dir is = λ some.
      let h = is some in (h.0, h.1, h.2, λ number mapping mapped real. owned-now mapping.page Directory (h.3 number mapping mapped real))
  root-now inode Pipe is = owned-now inode.root PipePage is
  root-now inode Console is = is

  holdings-good : HoldingsGood (domains old) (forest_of old) (page_owners new)
  holdings-good =
      record {
        spaces = standing.holdings.spaces;
        buffers = λ root held has. owned-now held Buffer (standing.holdings.buffers root held has);
        spaces_differ = standing.holdings.spaces_differ;
        buffers_differ = standing.holdings.buffers_differ;
      }

  roots-good : RootsGood (forest_of old) (memory_page old) (page_owners new) (inodes_of old)
  roots-good = record {
    each = λ number inode found. root-now inode inode.kind (standing.roots.each number inode found);
    trees_differ = standing.roots.trees_differ;
    pipes_differ = standing.roots.pipes_differ;
  }

  held-good : HeldBut (Ring page) (domains old) (forest_of old) (page_owners new) (inodes_of old)
  held-good =
      record {
        spaces = λ held is owned apart. standing.held.spaces held is owned;
        trees = λ held is owned apart. standing.held.trees held is owned;
        buffers = λ held owned.
            standing.held.buffers held (sym (owner-there held (λ same. let no : Some PipePage ≡ Some Buffer = sym owner-here ∙ ap (at (page_owners new)) (sym same) ∙ owned in cc)) ∙ owned);
        pipes = λ held owned apart. standing.held.pipes held (sym (owner-there held (λ same. apart (ap Ring (sym same)))) ∙ owned);
      }

  loose-good : IsLoose (Ring page) (domains old) (forest_of old) (page_owners new) (inodes_of old)
  loose-good =
      record {
        taken = owner-here;
        no_space = λ root held has same. cc;
        no_root = λ number inode found same.
            let w = word-ring inode.kind inode.root page same in
            absurd (owned-other inode.root PipePage (page-of (forest_of old) (memory_page old) (page_owners old) inode inode.kind (standing.roots.each number inode found) w.0) w.2);
      }

  page-stands : StandingBut new (Ring page)
  unfolding inodes_of
  page-stands =
      let outside : outside_with new (Ring page) ≡ and_outside (named_by old.inodes) (pipe_key page) = ap (λ (k : Kernel). outside_with k (Ring page)) takes.state in
      let of_domains = ap domains takes.state in
      let of_inodes = ap inodes_of takes.state in
      record {
        bank = bank;
        whole = rw (ap (λ (k : Kernel). k.bank) takes.state) standing.whole;
        unused = rw (ap (λ (k : Kernel). k.page_zero) takes.state, ap (λ (k : Kernel). k.other_words) takes.state) standing.unused;
        trees = subst (λ (out : Outside). TreesGood new out []) (sym outside) (page_taken old new page PipePage (named_by old.inodes) [] standing.bank refl takes puts standing.trees);
        pages_inside = subst (λ (out : Outside). NoPageOutside (forest_of new) (outside_trees new out)) (sym outside)
            (subst (λ (forest : Forest). NoPageOutside forest (outside_trees new (and_outside (named_by old.inodes) (pipe_key page)))) (sym forest-now)
            (λ number some.
            ap (λ out. out (PageObject number)) (outside-now (and_outside (named_by old.inodes) (pipe_key page)))
            ∙ outside-more old (named_by old.inodes) (pipe_key page) (PageObject number) (λ counted. other-page (forest_of old) (PageObject number) page some in-no-tree)
            ∙ standing.pages_inside number some));
        filled = filled-to forest-now standing.filled;
        rows = rw (ap domain_rows takes.state) standing.rows;
        nodes_held = rw (ap domain_rows takes.state, ap (λ (k : Kernel). k.node_entries) takes.state) standing.nodes_held;
        inodes = rw (ap (λ (k : Kernel). k.inodes) takes.state) standing.inodes;
        descriptions = rw (ap (λ (k : Kernel). k.descriptions) takes.state) standing.descriptions;
        holdings = rw (of_domains, forest-now) holdings-good;
        roots = rw (forest-now, ap memory_page takes.state, of_inodes) roots-good;
        keepers = keepers-to forest-now standing.keepers;
        held = rw (of_domains, forest-now, of_inodes) held-good;
        is_loose = rw (of_domains, forest-now, of_inodes) loose-good;
      }

pub standing_with_page : law.StandingWithPage
standing_with_page old new page takes puts bank standing = page-stands old new page takes puts bank standing

-- ---- a page is given back

module _ (old new : Kernel) (page : ℕ) (given : new ≡ page_given old (page - first_page old.size)) (out : TakesPageOutOfHand old new page) (bank : BankGood new) (standing : StandingBut old (Ring page)) where
  its-owner : at (page_owners old) page ≡ Some PipePage
  its-owner = standing.is_loose.taken

  in-rows : page - first_page old.size < length old.page_entries
  in-rows = owned-inside old page PipePage its-owner

  no-tree : (forest_of old).owner (PageObject page) ≡ None
  no-tree = unowned-by old page PipePage its-owner refl

  of-bank : IsBankPage old.size page
  of-bank =
      let low = owned-in-bank old page PipePage its-owner in
      let high = owned-below old page PipePage standing.bank its-owner in record { low = low; high = omega arith }

  forest-left : forest_of new ≡ forest_of old
  forest-left =
      let none = owned-no-tree old page PipePage its-owner refl in
      ap forest_of given
      ∙ forest_paged old (page - first_page old.size) (Free old.machine.free_page) in-rows none refl (none-shares (entry_at old.page_entries (page - first_page old.size)) none) refl

  outside-left : (outside : Outside) → outside_trees new outside ≡ outside_trees old outside
  outside-left outside =
      ap (λ (k : Kernel). outside_trees k outside) given
      ∙ outside_paged old (page - first_page old.size) (Free old.machine.free_page) outside in-rows (owned-no-tree old page PipePage its-owner refl) refl

  owners-left : page_owners new ≡ with_at (page_owners old) page None
  owners-left = ap page_owners given ∙ owners-set (first_page old.size) old.page_entries page (Free old.machine.free_page) of-bank.low in-rows

  owner-gone : at (page_owners new) page ≡ None
  owner-gone = ap (λ (table : ℕ → Option PageOwner). at table page) owners-left ∙ at-with_at (page_owners old) page None

  owner-left : (other : ℕ) → other ≢ page → at (page_owners new) other ≡ at (page_owners old) other
  owner-left other apart = ap (λ (table : ℕ → Option PageOwner). at table other) owners-left ∙ at-with_at-other (page_owners old) page other None apart

  other-left : (other : ℕ) (owner : PageOwner) → at (page_owners new) other ≡ Some owner → other ≢ page
  other-left other owner owned same = let no : Some owner ≡ None = sym owned ∙ ap (at (page_owners new)) same ∙ owner-gone in cc

  owned-before : (other : ℕ) (owner : PageOwner) → at (page_owners new) other ≡ Some owner → at (page_owners old) other ≡ Some owner
  owned-before other owner owned = sym (owner-left other (other-left other owner owned)) ∙ owned

  -- whoever owns another page owns it still
  owned-left : (other : ℕ) (owner : PageOwner) → at (page_owners old) other ≡ Some owner → owner ≢ PipePage → at (page_owners new) other ≡ Some owner
  owned-left other owner owned apart =
      owner-left other (λ same.
      let both : Some owner ≡ Some PipePage = sym owned ∙ ap (at (page_owners old)) same ∙ its-owner in apart (let e : owner ≡ PipePage = cc in e)) ∙ owned

  holdings-left : HoldingsGood (domains old) (forest_of old) (page_owners new)
  holdings-left =
      record {
        spaces = standing.holdings.spaces;
        buffers = λ root held has. owned-left held Buffer (standing.holdings.buffers root held has) (λ e. cc);
        spaces_differ = standing.holdings.spaces_differ;
        buffers_differ = standing.holdings.buffers_differ;
      }

  held-left : AllHeld (domains old) (forest_of old) (page_owners new) (inodes_of old)
  held-left =
      record {
        spaces = λ held is owned. standing.held.spaces held is owned (λ same. cc);
        trees = λ held is owned. standing.held.trees held is owned (λ same. cc);
        buffers = λ held owned. standing.held.buffers held (owned-before held Buffer owned);
        pipes = λ held owned. standing.held.pipes held (owned-before held PipePage owned) (λ same. other-left held PipePage owned (let e : page ≡ held = cc in sym e));
      }

  root-left : (number : ℕ) (inode : Inode) → at (inodes_of old) number ≡ Some inode → (kind : InodeKind) → inode.kind ≡ kind
      → IsRootOf (forest_of old) (memory_page (record old { bank = with_bank_page old page zero_page })) (page_owners old) inode kind
      → IsRootOf (forest_of old) (memory_page (record old { bank = with_bank_page old page zero_page })) (page_owners new) inode kind
  root-left number inode found File kind is = λ some.
      let h = is some in (h.0, h.1, h.2, λ page mapping mapped real. owned-left mapping.page FilePage (h.3 page mapping mapped real) (λ e. cc))
  root-left number inode found Dir kind is = λ some.
      let h = is some in (h.0, h.1, h.2, λ page mapping mapped real. owned-left mapping.page Directory (h.3 page mapping mapped real) (λ e. cc))
  root-left number inode found Pipe kind is =
      owner-left inode.root (λ same.
      let no : Ring page ≡ Nothing = standing.is_loose.no_root number inode found (ring-word inode.kind inode.root kind (ring-real old inode.root is) ∙ ap Ring same) in cc) ∙ is
  root-left number inode found Console kind is = is

  roots-left : RootsGood (forest_of old) (memory_page (record old { bank = with_bank_page old page zero_page })) (page_owners new) (inodes_of old)
  roots-left =
      record {
        each = λ number inode found.
            root-left number inode found inode.kind refl
            (root-same old page PipePage zero_page its-owner refl standing.bank standing.trees.held.sound inode inode.kind (standing.roots.each number inode found));
        trees_differ = standing.roots.trees_differ;
        pipes_differ = standing.roots.pipes_differ;
      }

  given-stands : Standing new
  unfolding inodes_of zero_page
  given-stands =
      let named : named_by new.inodes ≡ named_by old.inodes = ap (λ (k : Kernel). named_by k.inodes) given in
      let of_domains = ap domains given in
      let of_inodes = ap inodes_of given in
      record {
        bank = bank;
        whole = rw (ap (λ (k : Kernel). k.bank) given) (whole-set old.bank (page - first_page old.size) zero_page (length-replicate {A = ℕ} 4096 0) standing.whole);
        unused = rw (ap (λ (k : Kernel). k.page_zero) given, ap (λ (k : Kernel). k.other_words) given) standing.unused;
        trees = subst (λ (outside : Outside). TreesGood new outside []) (sym named) (page_given_back old new page (named_by old.inodes) [] standing.bank of-bank no-tree given out standing.trees);
        pages_inside = subst (λ (outside : Outside). NoPageOutside (forest_of new) (outside_trees new outside)) (sym named)
            (subst (λ (forest : Forest). NoPageOutside forest (outside_trees new (named_by old.inodes))) (sym forest-left)
            (λ number some.
            ap (λ outside. outside (PageObject number)) (outside-left (named_by old.inodes))
            ∙ sym (outside-more old (named_by old.inodes) (pipe_key page) (PageObject number) (λ counted. other-page (forest_of old) (PageObject number) page some no-tree))
            ∙ standing.pages_inside number some));
        filled = filled-to forest-left standing.filled;
        rows = rw (ap domain_rows given) standing.rows;
        nodes_held = rw (ap domain_rows given, ap (λ (k : Kernel). k.node_entries) given) standing.nodes_held;
        inodes = rw (ap (λ (k : Kernel). k.inodes) given) standing.inodes;
        descriptions = rw (ap (λ (k : Kernel). k.descriptions) given) standing.descriptions;
        holdings = rw (of_domains, forest-left) holdings-left;
        roots = rw (forest-left, ap memory_page given, of_inodes) roots-left;
        keepers = keepers-to forest-left standing.keepers;
        held = rw (of_domains, forest-left, of_inodes) held-left;
      }

pub standing_without_page : law.StandingWithoutPage
standing_without_page old new page given out bank standing = given-stands old new page given out bank standing
