-- What calls on trees and on rows leave of the tables: how large the store is, how many pages and nodes there are, how many pages are
-- taken, and page 0.
use Rattle.std.proofs.Common.{◌≡◌, ◌∙◌, ℕ, ap}
use Rattle.kn_base.specs.declared.key.Key.{Key}
use Rattle.kn_base.specs.Memory.{zero_page}
use Rattle.kernel_tables.specs.Kernel.{Kernel}
use Rattle.kernel_forest.specs.Moves.{KeepsRest, PutsRow}
use Rattle.kernel_forest.specs.Releases.{KeepsUnreleased}

-- where nodes were taken and keys written, ..
module _ (old new : Kernel) (rest : KeepsRest old new) where
  pub rest-size : new.size ≡ old.size
  rest-size = ap (λ (k : Kernel). k.size) rest

  pub rest-pages : new.pages ≡ old.pages
  rest-pages = ap (λ (k : Kernel). k.pages) rest

  pub rest-nodes : new.nodes ≡ old.nodes
  rest-nodes = ap (λ (k : Kernel). k.nodes) rest

  pub rest-pages_taken : new.machine.pages_taken ≡ old.machine.pages_taken
  rest-pages_taken = ap (λ (k : Kernel). k.machine.pages_taken) rest

  pub rest-zero : old.page_zero ≡ zero_page → new.page_zero ≡ zero_page
  rest-zero zero = ap (λ (k : Kernel). k.page_zero) rest ∙ zero

-- .. one key of a row was written, ..
module _ (old new : Kernel) {node place : ℕ} {key : Key} (put : PutsRow old new node place key) where
  pub put-size : new.size ≡ old.size
  put-size = ap (λ (k : Kernel). k.size) put.state

  pub put-pages : new.pages ≡ old.pages
  put-pages = ap (λ (k : Kernel). k.pages) put.state

-- .. or parts of trees were given back
pub unreleased-size : (old new : Kernel) → KeepsUnreleased old new → new.size ≡ old.size
unreleased-size old new rest = ap (λ (k : Kernel). k.size) rest
