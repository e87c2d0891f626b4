-- What stands within a turn too goes along with buffers, for which pages are taken and given back.
use Rattle.std.proofs.Common.{◌≡◌, ◌≢◌, ◌≤◌, ◌+◌, ◌-◌, ◌⊎◌, ℕ, Option, Some, None, true, false, List, [], length, refl, sym, ap, ap₂, subst, ◌∙◌, arith, ⊎_elim, inl, inr}
use Rattle.std.specs.Prelude.{◌&&◌, Bool, nat_lt}
use Rattle.std.specs.Option.{IsSome}
use Rattle.std.proofs.lemmas.Bool.{cases_eq}
use Rattle.std.proofs.lemmas.List.{length-set, length-replicate, get_or-set_other}
use Rattle.kn_base.specs.Memory.{zero_page}
use Rattle.kn_base.specs.Rows.{overwritten}
use Rattle.kn_base.proofs.RowLaws.{length-overwritten}
use Rattle.kernel_tables.specs.declared.entry.Entry.TheVariants.{Free, Taken}
use Rattle.kernel_tables.specs.declared.entry.PageOwner.{PageOwner}
use Rattle.kernel_tables.specs.declared.entry.PageOwner.TheVariants.{File as FilePage, Directory, Buffer, Pipe as PipePage}
use Rattle.kernel_tables.specs.declared.inode.Inode.{Inode}
use Rattle.kernel_tables.specs.declared.inode.InodeKind.{InodeKind}
use Rattle.kernel_tables.specs.declared.inode.InodeKind.TheVariants.{File, Dir, Pipe, Console}
use Rattle.kernel_tables.specs.Kernel.{Kernel, first_page, memory_page, bank_page, with_bank_page}
use Rattle.kernel_tables.specs.Rows.{domain_rows, entry_at, of_domain}
use Rattle.space_bank.specs.Bank.{BankGood}
use Rattle.space_bank.specs.FreeList.{is_free}
use Rattle.space_bank.specs.Shares.{Outside}
use Rattle.space_bank.proofs.FreeListLaws.{entry_inside}
use Rattle.space_bank.proofs.EntryLaws.{free_spelled}
use Rattle.forest.specs.Forest.{Forest, IsSpace, NoPageOutside}
use Rattle.forest.specs.Walks.{map_of}
use Rattle.forest.specs.Objects.{Object, PageObject}
use Rattle.kernel_forest.specs.Owners.{page_owners}
use Rattle.kernel_forest.specs.Trees.{forest_of, outside_trees, TreesGood}
use Rattle.kernel_forest.proofs.Owners.{free-by-nobody, owned-in-bank, owned-inside, owners-set}
use Rattle.file_tables.specs.Roots.{named_by}
use Rattle.unix_model.specs.Tables.{at, with_at}
use Rattle.unix_model.proofs.TableLaws.{at-with_at, at-with_at-other}
use Rattle.user_copy.specs.SpaceMemory.{memory_by, space_memory}
use Rattle.domain.specs.Buffers.{TakesBuffer, DropsBuffer, WritesBytes, WritesBuffer, buffer_key}
use Rattle.domain.specs.Domains.{Domain, domains}
use Rattle.domain.specs.Rules.{RowsGood}
use Rattle.kernel_machine.specs.Held.{AllHeld, IsNodeOf}
use Rattle.kernel_machine.specs.Machine.{inodes_of}
use Rattle.kernel_machine.specs.Processes.{HoldingsGood}
use Rattle.kernel_machine.specs.Standing as law
use Rattle.kernel_machine.specs.Standing.{Standing}
use Rattle.kernel_machine.specs.Trees.{IsRootOf}
use Rattle.kernel_machine.proofs.HeldLaws.{stays}
use Rattle.kernel_machine.proofs.KeepLaws.{outside-more, trees-again}
use Rattle.kernel_machine.proofs.OwnerLaws.{free-in-no-tree, other-page, owned-below, unowned-by, whole-set}
use Rattle.kernel_machine.proofs.StandingLaws.{filled-to, held-to, holdings-to, is-node, keepers-to, root-same, roots-to, same-memory, standing_with_bytes}

-- ---- a page more for a buffer

module _ (old new : Kernel) (root page : ℕ) (takes : TakesBuffer old new root page) (live : (at (domains old) root).live ≡ true) (none : (at (domains old) root).buffer ≡ None)
    (bank : BankGood new) (rows : RowsGood (domain_rows new)) (standing : Standing old) where
  size-same : new.size ≡ old.size
  size-same = ap (λ (k : Kernel). k.size) takes.rest

  mine : Domain
  mine = let was = at (domains old) root in record was { buffer = Some page }

  domains-now : domains new ≡ with_at (domains old) root mine
  unfolding mine
  domains-now = takes.domains_now

  there : (other : ℕ) → other ≢ root → at (domains new) other ≡ at (domains old) other
  there other apart = ap (λ (table : ℕ → Domain). at table other) domains-now ∙ at-with_at-other (domains old) root other mine apart

  here : at (domains new) root ≡ mine
  here = ap (λ (table : ℕ → Domain). at table root) domains-now ∙ at-with_at (domains old) root mine

  kept : {X : Type 0} (field : Domain → X) → field mine ≡ field (at (domains old) root) → (other : ℕ) → field (at (domains new) other) ≡ field (at (domains old) other)
  kept field same other = ap (λ (table : ℕ → Domain). field (at table other)) domains-now ∙ stays (domains old) root mine field same other

  owners-now : page_owners new ≡ with_at (page_owners old) page (Some Buffer)
  owners-now =
      let low = takes.buffer.inside.low in
      let inside = entry_inside old.page_entries (page - first_page old.size) (free_spelled (entry_at old.page_entries (page - first_page old.size)) takes.was_free) in
      ap page_owners takes.rest ∙ owners-set (first_page old.size) old.page_entries page (Taken Buffer 1) (subst (λ size. first_page size ≤ page) size-same low) inside

  was-free : at (page_owners old) page ≡ None
  was-free = free-by-nobody old page takes.was_free

  -- whoever owns another page
  owned-other : (other : ℕ) (owner : PageOwner) → at (page_owners old) other ≡ Some owner → other ≢ page
  owned-other other owner owned same = let no : Some owner ≡ None = sym owned ∙ ap (at (page_owners old)) same ∙ was-free in cc

  owner-there : (other : ℕ) → other ≢ page → at (page_owners new) other ≡ at (page_owners old) other
  owner-there other apart = ap (λ (table : ℕ → Option PageOwner). at table other) owners-now ∙ at-with_at-other (page_owners old) page other (Some Buffer) apart

  owner-here : at (page_owners new) page ≡ Some Buffer
  owner-here = ap (λ (table : ℕ → Option PageOwner). at table page) owners-now ∙ at-with_at (page_owners old) page (Some Buffer)

  owned-now : (other : ℕ) (owner : PageOwner) → at (page_owners old) other ≡ Some owner → at (page_owners new) other ≡ Some owner
  owned-now other owner owned = owner-there other (owned-other other owner owned) ∙ owned

  -- a buffer: the page, or one that was held
  buffer-of : (other held : ℕ) → (at (domains new) other).buffer ≡ Some held → ((other ≡ root) × (held ≡ page)) ⊎ ((at (domains old) other).buffer ≡ Some held)
  unfolding mine
  buffer-of other held has = ⊎_elim
      (λ (t : other ≡ root).
      let both : Some page ≡ Some held = sym (ap (λ (domain : Domain). domain.buffer) here) ∙ ap (λ r. (at (domains new) r).buffer) (sym t) ∙ has in inl (t, (let same : held ≡ page = cc in same)))
      (λ (d : other ≢ root). inr (ap (λ (domain : Domain). domain.buffer) (sym (there other d)) ∙ has))
      (cases_eq other root)

  not-held : (other : ℕ) → (at (domains old) other).buffer ≡ Some page → ⊥
  not-held other has = owned-other page Buffer (standing.holdings.buffers other page has) refl

  holdings-good : HoldingsGood (domains new) (forest_of old) (page_owners new)
  unfolding at mine
  holdings-good =
      record {
        spaces = λ other held has. standing.holdings.spaces other held (sym (kept (λ d. d.space) refl other) ∙ has);
        buffers = λ other held has. ⊎_elim
            (λ (t : (other ≡ root) × (held ≡ page)). ap (at (page_owners new)) t.1 ∙ owner-here)
            (λ (t : (at (domains old) other).buffer ≡ Some held). owned-now held Buffer (standing.holdings.buffers other held t))
            (buffer-of other held has);
        spaces_differ = λ one two held has also. standing.holdings.spaces_differ one two held (sym (kept (λ d. d.space) refl one) ∙ has) (sym (kept (λ d. d.space) refl two) ∙ also);
        buffers_differ = λ one two held has also. ⊎_elim
            (λ (a : (one ≡ root) × (held ≡ page)). ⊎_elim
            (λ (b : (two ≡ root) × (held ≡ page)). a.0 ∙ sym b.0)
            (λ (b : (at (domains old) two).buffer ≡ Some held). absurd (not-held two (b ∙ ap Some a.1)))
            (buffer-of two held also))
            (λ (a : (at (domains old) one).buffer ≡ Some held). ⊎_elim
            (λ (b : (two ≡ root) × (held ≡ page)). absurd (not-held one (a ∙ ap Some b.1)))
            (λ (b : (at (domains old) two).buffer ≡ Some held). standing.holdings.buffers_differ one two held a b)
            (buffer-of two held also))
            (buffer-of one held has);
      }

  held-good : AllHeld (domains new) (forest_of old) (page_owners new) (inodes_of old)
  unfolding mine
  held-good =
      record {
        spaces = λ held is owned. let h = standing.held.spaces held is owned in (h.0, kept (λ d. d.live) refl h.0 ∙ h.1, kept (λ d. d.space) refl h.0 ∙ h.2);
        trees = standing.held.trees;
        buffers = λ held owned. ⊎_elim
            (λ (t : held ≡ page). (root, kept (λ d. d.live) refl root ∙ live, ap (λ (domain : Domain). domain.buffer) here ∙ ap Some (sym t)))
            (λ (d : held ≢ page).
            let h = standing.held.buffers held (sym (owner-there held d) ∙ owned) in
            let apart : h.0 ≢ root = λ same. let no : Some held ≡ None = sym h.2 ∙ ap (λ r. (at (domains old) r).buffer) same ∙ none in cc in
            (h.0, ap (λ (domain : Domain). domain.live) (there h.0 apart) ∙ h.1, ap (λ (domain : Domain). domain.buffer) (there h.0 apart) ∙ h.2))
            (cases_eq held page);
        pipes = λ held owned.
            standing.held.pipes held (sym (owner-there held (λ same. let no : Some Buffer ≡ Some PipePage = sym owner-here ∙ ap (at (page_owners new)) (sym same) ∙ owned in cc)) ∙ owned);
      }

  root-now : (inode : Inode) (kind : InodeKind) → IsRootOf (forest_of old) (memory_page old) (page_owners old) inode kind → IsRootOf (forest_of old) (memory_page old) (page_owners new) inode kind
  root-now inode File is = λ some.
      let h = is some in (h.0, h.1, h.2, λ number mapping mapped real. owned-now mapping.page FilePage (h.3 number mapping mapped real))
  root-now inode Dir is = λ some.
      let h = is some in (h.0, h.1, h.2, λ number mapping mapped real. owned-now mapping.page Directory (h.3 number mapping mapped real))
  root-now inode Pipe is = owned-now inode.root PipePage is
  root-now inode Console is = is

  outside-same : (outside : Outside) (object : Object) → IsSome ((forest_of old).owner object) → outside_trees new outside object ≡ outside_trees old outside object
  outside-same outside object some =
      ap (λ (f : Object → ℕ). f object) (takes.outside_now outside)
      ∙ outside-more old outside (buffer_key page) object (λ counted. other-page (forest_of old) object page some (free-in-no-tree old page takes.was_free))

  node-now : (r node : ℕ) → IsNodeOf (domain_rows old) r node → IsNodeOf (domain_rows new) r node
  unfolding at mine
  node-now r node = is-node (domain_rows old) (domain_rows new) r node (kept (λ d. d.live) refl r) (kept (λ d. d.regs_node) refl r) (kept (λ d. d.descriptors_node) refl r)

  taken-stands : Standing new
  unfolding inodes_of
  taken-stands =
      let named : named_by new.inodes ≡ named_by old.inodes = ap (λ (k : Kernel). named_by k.inodes) takes.rest in
      let inodes : inodes_of new ≡ inodes_of old = ap inodes_of takes.rest in
      record {
        bank = bank;
        whole = rw (ap (λ (k : Kernel). k.bank) takes.rest) standing.whole;
        unused = rw (ap (λ (k : Kernel). k.page_zero) takes.rest, ap (λ (k : Kernel). k.other_words) takes.rest) standing.unused;
        trees = subst (λ (outside : Outside). TreesGood new outside []) (sym named)
            (trees-again old new (named_by old.inodes) (named_by old.inodes) takes.forest_now (outside-same (named_by old.inodes)) (takes.shares (named_by old.inodes) [] standing.trees.shares) standing.trees);
        pages_inside = subst (λ (outside : Outside). NoPageOutside (forest_of new) (outside_trees new outside)) (sym named)
            (subst (λ (forest : Forest). NoPageOutside forest (outside_trees new (named_by old.inodes))) (sym takes.forest_now)
            (λ number some. outside-same (named_by old.inodes) (PageObject number) some ∙ standing.pages_inside number some));
        filled = filled-to takes.forest_now standing.filled;
        rows = rows;
        nodes_held = λ node own. let h = standing.nodes_held node (ap (λ (k : Kernel). of_domain (entry_at k.node_entries node)) (sym takes.rest) ∙ own) in (h.0, node-now h.0 node h.1);
        inodes = rw (ap (λ (k : Kernel). k.inodes) takes.rest) standing.inodes;
        descriptions = rw (ap (λ (k : Kernel). k.descriptions) takes.rest) standing.descriptions;
        holdings = holdings-to refl takes.forest_now refl holdings-good;
        roots = roots-to takes.forest_now (ap memory_page takes.rest) refl inodes
            (record { each = λ number inode found. root-now inode inode.kind (standing.roots.each number inode found); trees_differ = standing.roots.trees_differ; pipes_differ = standing.roots.pipes_differ });
        keepers = keepers-to takes.forest_now standing.keepers;
        held = held-to refl takes.forest_now refl inodes held-good;
      }

both-true : (a b : Bool) → (a && b) ≡ true → b ≡ true
both-true true b e = e
both-true false b e = cc

-- the bank before bytes were written in a page that isn't free
bank-before : (before : Kernel) (page : ℕ) (bytes : List ℕ) → is_free (entry_at before.page_entries (page - first_page before.size)) ≡ false
    → BankGood (record before { bank = with_bank_page before page bytes }) → BankGood before
bank-before before page bytes taken good =
    record {
      sized = good.sized;
      words = good.words;
      pages = record {
        entries_good = good.pages.entries_good;
        none_fixed = good.pages.none_fixed;
        memory_number = good.pages.memory_number;
        pages = sym (length-set before.bank (page - first_page before.size) bytes) ∙ good.pages.pages;
        zeros = λ n free. ⊎_elim
            (λ (t : n ≡ page - first_page before.size).
            let both : is_free (entry_at before.page_entries n) ≡ true = both-true (nat_lt n before.size) (is_free (entry_at before.page_entries n)) free in
            let no : true ≡ false = sym both ∙ ap (λ k. is_free (entry_at before.page_entries k)) t ∙ taken in cc)
            (λ (d : n ≢ page - first_page before.size). sym (get_or-set_other before.bank (page - first_page before.size) n bytes [] d) ∙ good.pages.zeros n free)
            (cases_eq n (page - first_page before.size));
      };
      nodes = good.nodes;
    }

-- bytes in a page of a buffer change no memory
written-memory : (old new : Kernel) (page : ℕ) (content : List ℕ) → at (page_owners old) page ≡ Some Buffer → Standing old → new ≡ record old { bank = with_bank_page old page content }
    → (space : ℕ) → IsSpace (forest_of old) [] space → space_memory new space ≡ space_memory old space
written-memory old new page content owned standing writes space is =
    ap (λ (k : Kernel). space_memory k space) writes ∙ same-memory old page Buffer content owned refl standing.bank standing.trees.held.sound space is

-- bytes in a buffer that a domain holds
module _ (old new : Kernel) (root start page : ℕ) (bytes : List ℕ) (inside : start + length bytes ≤ 4096) (bank : BankGood new) (standing : Standing old)
    (has : (at (domains old) root).buffer ≡ Some page) (writes : WritesBytes old new page start bytes) where
  its-owner : at (page_owners old) page ≡ Some Buffer
  its-owner = standing.holdings.buffers root page has

  was-whole : length (bank_page old page) ≡ 4096
  was-whole = standing.whole (page - first_page old.size) (let low = owned-below old page Buffer standing.bank its-owner in let all = standing.bank.pages.pages in omega arith)

  written-stands : Standing new
  written-stands =
      standing_with_bytes old new page Buffer (overwritten (bank_page old page) start bytes) its-owner refl
      (length-overwritten (bank_page old page) start bytes (omega (arith, was-whole)) ∙ was-whole) writes bank standing

by-buffer : (old new : Kernel) (root start : ℕ) (bytes : List ℕ) (held : Option ℕ) → (at (domains old) root).buffer ≡ held → WritesBuffer old new root start bytes held
    → (at (domains old) root).live ≡ true → start + length bytes ≤ 4096 → BankGood new → RowsGood (domain_rows new) → Standing old → Standing new
unfolding mine
by-buffer old new root start bytes (Some page) has writes live inside bank rows standing = written-stands old new root start page bytes inside bank standing has writes
by-buffer old new root start bytes None has first live inside bank rows standing =
    let between = first.between in
    let page = first.page in
    let content : List ℕ = overwritten (bank_page between page) start bytes in
    let good : BankGood between =
    bank-before between page content (ap is_free first.takes.buffer.entry) (subst BankGood first.writes bank)
    in
    let stands : Standing between =
    taken-stands old between root page first.takes live has good (subst RowsGood (ap domain_rows first.writes) rows) standing
    in
    written-stands between new root start page bytes inside bank stands
    (ap (λ (domain : Domain). domain.buffer) (here old between root page first.takes live has good (subst RowsGood (ap domain_rows first.writes) rows) standing)) first.writes

memory-by-buffer : (old new : Kernel) (root start : ℕ) (bytes : List ℕ) (held : Option ℕ) → (at (domains old) root).buffer ≡ held → WritesBuffer old new root start bytes held
    → (at (domains old) root).live ≡ true → start + length bytes ≤ 4096 → BankGood new → RowsGood (domain_rows new) → Standing old
    → (space : ℕ) → IsSpace (forest_of old) [] space → space_memory new space ≡ space_memory old space
unfolding mine
memory-by-buffer old new root start bytes (Some page) has writes live inside bank rows standing space is =
    written-memory old new page (overwritten (bank_page old page) start bytes) (standing.holdings.buffers root page has) standing writes space is
memory-by-buffer old new root start bytes None has first live inside bank rows standing space is =
    let between = first.between in
    let page = first.page in
    let content : List ℕ = overwritten (bank_page between page) start bytes in
    let good : BankGood between =
    bank-before between page content (ap is_free first.takes.buffer.entry) (subst BankGood first.writes bank)
    in
    let rows_then = subst RowsGood (ap domain_rows first.writes) rows in
    let stands : Standing between =
    taken-stands old between root page first.takes live has good rows_then standing
    in
    let buffer = ap (λ (domain : Domain). domain.buffer) (here old between root page first.takes live has good rows_then standing) in
    written-memory between new page content (stands.holdings.buffers root page buffer) stands first.writes space
    (subst (λ (forest : Forest). IsSpace forest [] space) (sym first.takes.forest_now) is)
    ∙ ap₂ (λ (bytes : ℕ → List ℕ) (forest : Forest). memory_by bytes (map_of forest.keys space)) (ap memory_page first.takes.rest) first.takes.forest_now

-- a buffer that is written changes no memory, ..
pub buffer-memory : (old new : Kernel) (root start : ℕ) (bytes : List ℕ) → WritesBuffer old new root start bytes (at (domains old) root).buffer
    → (at (domains old) root).live ≡ true → start + length bytes ≤ 4096 → BankGood new → RowsGood (domain_rows new) → Standing old
    → (space : ℕ) → IsSpace (forest_of old) [] space → space_memory new space ≡ space_memory old space
buffer-memory old new root start bytes = memory-by-buffer old new root start bytes (at (domains old) root).buffer refl

-- .. nor one that is given back
pub gone-memory : (old new : Kernel) (root page : ℕ) → DropsBuffer old new root page → (at (domains old) root).buffer ≡ Some page → Standing old
    → (space : ℕ) → IsSpace (forest_of old) [] space → space_memory new space ≡ space_memory old space
gone-memory old new root page drops has standing space is =
    ap₂ (λ (bytes : ℕ → List ℕ) (forest : Forest). memory_by bytes (map_of forest.keys space)) (ap memory_page drops.given) drops.forest_now
    ∙ same-memory old page Buffer zero_page (standing.holdings.buffers root page has) refl standing.bank standing.trees.held.sound space is

pub standing_with_buffer : law.StandingWithBuffer
standing_with_buffer old new root start bytes writes live inside bank rows standing = by-buffer old new root start bytes (at (domains old) root).buffer refl writes live inside bank rows standing

-- ---- a buffer less

module _ (old new : Kernel) (root page : ℕ) (drops : DropsBuffer old new root page) (live : (at (domains old) root).live ≡ true) (has : (at (domains old) root).buffer ≡ Some page)
    (bank : BankGood new) (rows : RowsGood (domain_rows new)) (standing : Standing old) where
  left : Domain
  left = let was = at (domains old) root in record was { buffer = None }

  domains-left : domains new ≡ with_at (domains old) root left
  unfolding left
  domains-left = drops.domains_now

  there-left : (other : ℕ) → other ≢ root → at (domains new) other ≡ at (domains old) other
  there-left other apart = ap (λ (table : ℕ → Domain). at table other) domains-left ∙ at-with_at-other (domains old) root other left apart

  here-left : at (domains new) root ≡ left
  here-left = ap (λ (table : ℕ → Domain). at table root) domains-left ∙ at-with_at (domains old) root left

  kept-left : {X : Type 0} (field : Domain → X) → field left ≡ field (at (domains old) root) → (other : ℕ) → field (at (domains new) other) ≡ field (at (domains old) other)
  kept-left field same other = ap (λ (table : ℕ → Domain). field (at table other)) domains-left ∙ stays (domains old) root left field same other

  its-buffer : at (page_owners old) page ≡ Some Buffer
  its-buffer = standing.holdings.buffers root page has

  owners-left : page_owners new ≡ with_at (page_owners old) page None
  owners-left =
      ap page_owners drops.given
      ∙ owners-set (first_page old.size) old.page_entries page (Free old.machine.free_page) (owned-in-bank old page Buffer its-buffer) (owned-inside old page Buffer its-buffer)

  owner-gone : at (page_owners new) page ≡ None
  owner-gone = ap (λ (table : ℕ → Option PageOwner). at table page) owners-left ∙ at-with_at (page_owners old) page None

  owner-left : (other : ℕ) → other ≢ page → at (page_owners new) other ≡ at (page_owners old) other
  owner-left other apart = ap (λ (table : ℕ → Option PageOwner). at table other) owners-left ∙ at-with_at-other (page_owners old) page other None apart

  other-left : (other : ℕ) (owner : PageOwner) → at (page_owners new) other ≡ Some owner → other ≢ page
  other-left other owner owned same = let no : Some owner ≡ None = sym owned ∙ ap (at (page_owners new)) same ∙ owner-gone in cc

  -- whoever owns another page owns it still
  owned-left : (other : ℕ) (owner : PageOwner) → at (page_owners old) other ≡ Some owner → owner ≢ Buffer → at (page_owners new) other ≡ Some owner
  owned-left other owner owned apart =
      owner-left other (λ same.
      let both : Some owner ≡ Some Buffer = sym owned ∙ ap (at (page_owners old)) same ∙ its-buffer in apart (let e : owner ≡ Buffer = cc in e)) ∙ owned

  -- a buffer is another domain's, and another page
  buffer-left : (other held : ℕ) → (at (domains new) other).buffer ≡ Some held → (other ≢ root) × ((at (domains old) other).buffer ≡ Some held)
  unfolding left
  buffer-left other held has_now = ⊎_elim
      (λ (t : other ≡ root). let no : None ≡ Some held = sym (ap (λ (domain : Domain). domain.buffer) here-left) ∙ ap (λ r. (at (domains new) r).buffer) (sym t) ∙ has_now in cc)
      (λ (d : other ≢ root). (d, ap (λ (domain : Domain). domain.buffer) (sym (there-left other d)) ∙ has_now))
      (cases_eq other root)

  holdings-left : HoldingsGood (domains new) (forest_of old) (page_owners new)
  unfolding left
  holdings-left =
      record {
        spaces = λ other held now. standing.holdings.spaces other held (sym (kept-left (λ d. d.space) refl other) ∙ now);
        buffers = λ other held now.
            let was = buffer-left other held now in
            owner-left held (λ same. was.0 (standing.holdings.buffers_differ other root page (was.1 ∙ ap Some same) has)) ∙ standing.holdings.buffers other held was.1;
        spaces_differ = λ one two held now also. standing.holdings.spaces_differ one two held (sym (kept-left (λ d. d.space) refl one) ∙ now) (sym (kept-left (λ d. d.space) refl two) ∙ also);
        buffers_differ = λ one two held now also. standing.holdings.buffers_differ one two held (buffer-left one held now).1 (buffer-left two held also).1;
      }

  held-left : AllHeld (domains new) (forest_of old) (page_owners new) (inodes_of old)
  unfolding left
  held-left =
      record {
        spaces = λ held is owned. let h = standing.held.spaces held is owned in (h.0, kept-left (λ d. d.live) refl h.0 ∙ h.1, kept-left (λ d. d.space) refl h.0 ∙ h.2);
        trees = standing.held.trees;
        buffers = λ held owned.
            let apart = other-left held Buffer owned in
            let h = standing.held.buffers held (sym (owner-left held apart) ∙ owned) in
            let other : h.0 ≢ root = λ same. apart (let both : Some held ≡ Some page = sym h.2 ∙ ap (λ r. (at (domains old) r).buffer) same ∙ has in let e : held ≡ page = cc in e) in
            (h.0, ap (λ (domain : Domain). domain.live) (there-left h.0 other) ∙ h.1, ap (λ (domain : Domain). domain.buffer) (there-left h.0 other) ∙ h.2);
        pipes = λ held owned. standing.held.pipes held (sym (owner-left held (other-left held PipePage owned)) ∙ owned);
      }

  bytes-left : memory_page new ≡ memory_page (record old { bank = with_bank_page old page zero_page })
  bytes-left = ap memory_page drops.given

  root-left : (inode : Inode) (kind : InodeKind) → IsRootOf (forest_of old) (memory_page old) (page_owners old) inode kind → IsRootOf (forest_of old) (memory_page new) (page_owners new) inode kind
  root-left inode kind is =
      subst (λ (content : ℕ → List ℕ). IsRootOf (forest_of old) content (page_owners new) inode kind) (sym bytes-left)
      (owner-changed inode kind (root-same old page Buffer zero_page its-buffer refl standing.bank standing.trees.held.sound inode kind is))
    where
      owner-changed : (row : Inode) (kind : InodeKind) → IsRootOf (forest_of old) (memory_page (record old { bank = with_bank_page old page zero_page })) (page_owners old) row kind
          → IsRootOf (forest_of old) (memory_page (record old { bank = with_bank_page old page zero_page })) (page_owners new) row kind
      owner-changed row File root = λ some.
          let h = root some in (h.0, h.1, h.2, λ number mapping mapped real. owned-left mapping.page FilePage (h.3 number mapping mapped real) (λ e. cc))
      owner-changed row Dir root = λ some.
          let h = root some in (h.0, h.1, h.2, λ number mapping mapped real. owned-left mapping.page Directory (h.3 number mapping mapped real) (λ e. cc))
      owner-changed row Pipe root = owned-left row.root PipePage root (λ e. cc)
      owner-changed row Console root = root

  outside-left : (outside : Outside) (object : Object) → IsSome ((forest_of old).owner object) → outside_trees new outside object ≡ outside_trees old outside object
  outside-left outside object some =
      sym (outside-more new outside (buffer_key page) object (λ counted. other-page (forest_of old) object page some (unowned-by old page Buffer its-buffer refl)))
      ∙ ap (λ (f : Object → ℕ). f object) (drops.outside_now outside)

  node-left : (r node : ℕ) → IsNodeOf (domain_rows old) r node → IsNodeOf (domain_rows new) r node
  unfolding left
  node-left r node = is-node (domain_rows old) (domain_rows new) r node (kept-left (λ d. d.live) refl r) (kept-left (λ d. d.regs_node) refl r) (kept-left (λ d. d.descriptors_node) refl r)

  left-stands : Standing new
  unfolding inodes_of zero_page
  left-stands =
      let named : named_by new.inodes ≡ named_by old.inodes = ap (λ (k : Kernel). named_by k.inodes) drops.given in
      let inodes : inodes_of new ≡ inodes_of old = ap inodes_of drops.given in
      record {
        bank = bank;
        whole = rw (ap (λ (k : Kernel). k.bank) drops.given) (whole-set old.bank (page - first_page old.size) zero_page (length-replicate {A = ℕ} 4096 0) standing.whole);
        unused = rw (ap (λ (k : Kernel). k.page_zero) drops.given, ap (λ (k : Kernel). k.other_words) drops.given) standing.unused;
        trees = subst (λ (outside : Outside). TreesGood new outside []) (sym named)
            (trees-again old new (named_by old.inodes) (named_by old.inodes) drops.forest_now (outside-left (named_by old.inodes)) (drops.shares (named_by old.inodes) [] standing.trees.shares) standing.trees);
        pages_inside = subst (λ (outside : Outside). NoPageOutside (forest_of new) (outside_trees new outside)) (sym named)
            (subst (λ (forest : Forest). NoPageOutside forest (outside_trees new (named_by old.inodes))) (sym drops.forest_now)
            (λ number some. outside-left (named_by old.inodes) (PageObject number) some ∙ standing.pages_inside number some));
        filled = filled-to drops.forest_now standing.filled;
        rows = rows;
        nodes_held = λ node own. let h = standing.nodes_held node (ap (λ (k : Kernel). of_domain (entry_at k.node_entries node)) (sym drops.given) ∙ own) in (h.0, node-left h.0 node h.1);
        inodes = rw (ap (λ (k : Kernel). k.inodes) drops.given) standing.inodes;
        descriptions = rw (ap (λ (k : Kernel). k.descriptions) drops.given) standing.descriptions;
        holdings = holdings-to refl drops.forest_now refl holdings-left;
        roots = roots-to drops.forest_now refl refl inodes
            (record { each = λ number inode found. root-left inode inode.kind (standing.roots.each number inode found); trees_differ = standing.roots.trees_differ; pipes_differ = standing.roots.pipes_differ });
        keepers = keepers-to drops.forest_now standing.keepers;
        held = held-to refl drops.forest_now refl inodes held-left;
      }

pub standing_without_buffer : law.StandingWithoutBuffer
standing_without_buffer old new root page drops live has bank rows standing = left-stands old new root page drops live has bank rows standing
