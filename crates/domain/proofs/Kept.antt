-- What calls leave of the tables: how large the store is, how many pages and nodes there are, and how many nodes are taken.
use Rattle.std.proofs.Common.{◌≡◌, ℕ, ap}
use Rattle.kernel_tables.specs.declared.entry.PageOwner.{PageOwner}
use Rattle.kernel_tables.specs.Kernel.{Kernel}
use Rattle.space_bank.specs.Bank.{TakesPage}
use Rattle.domain.specs.Ends.{KeepsAllButNodes}

-- where keys were written, ..
module _ (old new : Kernel) (written : new ≡ record old { keys = new.keys }) where
  pub keys-size : new.size ≡ old.size
  keys-size = ap (λ (k : Kernel). k.size) written

  pub keys-pages : new.pages ≡ old.pages
  keys-pages = ap (λ (k : Kernel). k.pages) written

  pub keys-nodes : new.nodes ≡ old.nodes
  keys-nodes = ap (λ (k : Kernel). k.nodes) written

  pub keys-taken : new.machine.nodes_taken ≡ old.machine.nodes_taken
  keys-taken = ap (λ (k : Kernel). k.machine.nodes_taken) written

-- .. where nodes were given back, ..
module _ (old new : Kernel) (given : KeepsAllButNodes old new) where
  pub given-size : new.size ≡ old.size
  given-size = ap (λ (k : Kernel). k.size) given

  pub given-pages : new.pages ≡ old.pages
  given-pages = ap (λ (k : Kernel). k.pages) given

-- .. and where a page was taken
pub taken-pages : (old new : Kernel) {page : ℕ} {owner : PageOwner} → TakesPage old new page owner → new.pages ≡ old.pages
taken-pages old new takes = ap (λ (k : Kernel). k.pages) takes.state
