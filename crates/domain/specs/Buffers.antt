-- The buffer of a domain: a page of its own for the bytes of a request or an answer.
use Rattle.std.specs.Prelude.{◌≡◌, ℕ, ◌+◌, ◌-◌, true, Option, Some, None, List, [], ◌∷◌, slice_set, ⊤}
use Rattle.kn_base.specs.declared.key.Key.{Key}
use Rattle.kn_base.specs.declared.key.Key.TheVariants.{Page}
use Rattle.kn_base.specs.Memory.{zero_page}
use Rattle.kn_base.specs.Rows.{overwritten}
use Rattle.kernel_tables.specs.declared.entry.PageOwner.TheVariants.{Buffer}
use Rattle.kernel_tables.specs.declared.entry.Entry.TheVariants.{Taken}
use Rattle.kernel_tables.specs.Kernel.{Kernel, IsBankPage, first_page, bank_page, with_bank_page}
use Rattle.kernel_tables.specs.Rows.{entry_at, fixed_rows}
use Rattle.kernel_tables.specs.Blocks.{ChangesBlocks, key_block, page_entry_block, machine_block}
use Rattle.space_bank.specs.Bank.{page_given}
use Rattle.space_bank.specs.FreeList.{is_free}
use Rattle.space_bank.specs.Laws.{and_outside}
use Rattle.space_bank.specs.Shares.{Outside, Shares}
use Rattle.kernel_forest.specs.Trees.{forest_of, outside_trees}
use Rattle.unix_model.specs.Tables.{at, with_at}
use Rattle.domain.specs.Domains.{domains, lives}

-- the key of a buffer
abbrev pub buffer_key : ℕ → Key
buffer_key page = Page (record { 0 = page }) true

-- A page of the bank is taken for a buffer, and named once.
pub record IsBuffer (kernel : Kernel) (page : ℕ) : Type 0 where
  pub inside : IsBankPage kernel.size page
  pub entry : entry_at kernel.page_entries (page - first_page kernel.size) ≡ Taken Buffer 1

-- likewise the page that a domain holds, if it holds one
abbrev pub HoldsBuffer : Kernel → Option ℕ → Type 0
HoldsBuffer kernel None = ⊤
HoldsBuffer kernel (Some page) = IsBuffer kernel page

-- the bytes of a buffer, and none where no page is held
abbrev pub buffer_bytes : Kernel → Option ℕ → List ℕ
buffer_bytes kernel None = []
buffer_bytes kernel (Some page) = bank_page kernel page

-- A free page was taken, and is the buffer of the domain of the root. It is zero. The trees are as they were, and the page's one
-- key is the domain's.
pub record TakesBuffer (old new : Kernel) (root page : ℕ) : Type 0 where
  pub buffer : IsBuffer new page
  pub was_free : is_free (entry_at old.page_entries (page - first_page old.size)) ≡ true
  pub zero : bank_page new page ≡ zero_page
  pub domains_now : domains new ≡ with_at (domains old) root (let was = at (domains old) root in record was { buffer = Some page })
  pub lives_now : lives new ≡ lives old
  pub rest :
      new
      ≡ record old {
        machine = record old.machine { free_page = new.machine.free_page; pages_taken = old.machine.pages_taken + 1 };
        page_entries = slice_set old.page_entries (page - first_page old.size) (Taken Buffer 1);
        keys = new.keys;
      }
  pub forest_now : forest_of new ≡ forest_of old
  pub outside_now : (outside : Outside) → outside_trees new outside ≡ outside_trees old (and_outside outside (buffer_key page))
  pub fixed_now : fixed_rows new ≡ fixed_rows old
  pub shares : (outside : Outside) (hand : List Key) → Shares old outside hand → Shares new outside hand

-- Bytes were written in a page.
abbrev pub WritesBytes : Kernel → Kernel → ℕ → ℕ → List ℕ → Type 0
WritesBytes old new page at bytes = new ≡ record old { bank = with_bank_page old page (overwritten (bank_page old page) at bytes) }

-- Bytes were written in the buffer of a domain: in the page that it holds, or in one that was taken.
pub record FirstBytes (old new : Kernel) (root at : ℕ) (bytes : List ℕ) : Type 0 where
  pub page : ℕ
  pub between : Kernel
  pub takes : TakesBuffer old between root page
  pub writes : WritesBytes between new page at bytes

abbrev pub WritesBuffer : Kernel → Kernel → ℕ → ℕ → List ℕ → Option ℕ → Type 0
WritesBuffer old new root at bytes None = FirstBytes old new root at bytes
WritesBuffer old new root at bytes (Some page) = WritesBytes old new page at bytes

-- The buffer of the domain of the root was given back: its page is free and zero, and was named by the domain alone. The trees are
-- as they were.
pub record DropsBuffer (old new : Kernel) (root page : ℕ) : Type 0 where
  pub domains_now : domains new ≡ with_at (domains old) root (let was = at (domains old) root in record was { buffer = None })
  pub lives_now : lives new ≡ lives old
  pub given : new ≡ page_given (record old { keys = new.keys }) (page - first_page old.size)
  pub forest_now : forest_of new ≡ forest_of old
  pub outside_now : (outside : Outside) → outside_trees new (and_outside outside (buffer_key page)) ≡ outside_trees old outside
  pub fixed_now : fixed_rows new ≡ fixed_rows old
  pub shares : (outside : Outside) (hand : List Key) → Shares old outside hand → Shares new outside hand

-- the blocks that may change where bytes are written in the buffer of a domain: the page, and where one is taken its entry, the
-- machine's words and the keys of the root
abbrev pub BufferBlocks : Kernel → ℕ → Option ℕ → List (List ℕ) → List (List ℕ) → Type 0
BufferBlocks kernel root None old new =
    (page : ℕ) × ChangesBlocks old new (page_entry_block (page - first_page kernel.size) ∷ machine_block ∷ key_block kernel.pages root ∷ page ∷ [])
BufferBlocks kernel root (Some page) old new = ChangesBlocks old new (page ∷ [])
