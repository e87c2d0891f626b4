-- What the calls of the bank leave of all that the bank keeps.
use Rattle.std.proofs.Common.{◌≡◌, ℕ, ◌+◌, ◌*◌, ◌<◌, ◌≤◌, ◌∙◌, ◌&&◌, true, None, set, get_or, refl, ap, sym, arith}
use Rattle.std.proofs.lemmas.Bool.{lt-ltb}
use Rattle.kernel_tables.specs.declared.entry.PageOwner.{PageOwner}
use Rattle.kernel_tables.specs.declared.entry.Entry.TheVariants.{Free, Taken, Fixed, Unspelled}
use Rattle.kernel_tables.specs.declared.entry.Entry.{Entry}
use Rattle.kernel_tables.specs.declared.entry.NodeOwner.{NodeOwner}
use Rattle.kernel_tables.specs.Kernel.{Kernel, first_page}
use Rattle.kernel_tables.specs.Rows.{entry_at}
use Rattle.space_bank.specs.FreeList.{is_free, taken_one, is_free_at}
use Rattle.space_bank.specs.Bank.{BankGood, IsFirstFree, TakesNode, IsTakenOnce, memory_taken_one, page_taken, page_given, node_taken, node_given}
use Rattle.space_bank.proofs.EntryLaws.{pages_good-taken, pages_good-given, nodes_good-taken, nodes_good-given, taken-some, memory-some, free_node-high}

pub bank_good-page_taken : (kernel : Kernel) (n : ℕ) (owner : PageOwner) → IsFirstFree kernel.page_entries (first_page kernel.size) kernel.size kernel.machine.free_page n → BankGood kernel → BankGood (page_taken kernel n owner)
bank_good-page_taken kernel n owner head good = record {
  sized = good.sized;
  words = good.words;
  pages =
      pages_good-taken kernel.size kernel.page_entries kernel.machine.free_page kernel.machine.pages_taken
      kernel.machine.memory_taken kernel.bank n owner head good.pages;
  nodes = good.nodes;
}

-- an object that is named once is taken
pub taken_once : {O : Type 0} (entry : Entry O) → IsTakenOnce entry → taken_one entry ≡ 1
taken_once (Free next) h = absurd h
taken_once (Taken owner count) h = refl
taken_once Fixed h = absurd h
taken_once Unspelled h = absurd h

-- the first page of a bank is not page 0
pub first_page-some : (size : ℕ) → 0 < first_page size
unfolding first_page
first_page-some size = omega arith

pub bank_good-page_given : (kernel : Kernel) (n : ℕ) → n < kernel.size → IsTakenOnce (entry_at kernel.page_entries n) → BankGood kernel → BankGood (page_given kernel n)
bank_good-page_given kernel n below once good = record {
  sized = good.sized;
  words = good.words;
  pages =
      pages_good-given kernel.size kernel.page_entries kernel.machine.free_page kernel.machine.pages_taken
      kernel.machine.memory_taken kernel.bank n below (let some = first_page-some kernel.size in omega arith)
      (taken_once (entry_at kernel.page_entries n) once) good.pages;
  nodes = good.nodes;
}

pub bank_good-node_taken : (kernel : Kernel) (n : ℕ) (owner : NodeOwner) → IsFirstFree kernel.node_entries 0 kernel.nodes kernel.machine.free_node n → BankGood kernel → BankGood (node_taken kernel n owner)
bank_good-node_taken kernel n owner head good = record {
  sized = good.sized;
  words = good.words;
  pages = good.pages;
  nodes =
      nodes_good-taken kernel.nodes kernel.node_entries kernel.machine.free_node kernel.machine.nodes_taken kernel.keys n owner
      head good.nodes;
}

pub bank_good-node_given : (kernel : Kernel) (n : ℕ) → n < kernel.nodes → IsTakenOnce (entry_at kernel.node_entries n) → BankGood kernel → BankGood (node_given kernel n)
bank_good-node_given kernel n below once good = record {
  sized = good.sized;
  words = good.words;
  pages = good.pages;
  nodes =
      nodes_good-given kernel.nodes kernel.node_entries kernel.machine.free_node kernel.machine.nodes_taken kernel.keys n below
      (taken_once (entry_at kernel.node_entries n) once) good.nodes;
}

-- what a taken page counts for
pub page-counted : (kernel : Kernel) (n : ℕ) → n < kernel.size → IsTakenOnce (entry_at kernel.page_entries n) → BankGood kernel → (1 ≤ kernel.machine.pages_taken) × (memory_taken_one (entry_at kernel.page_entries n) ≤ kernel.machine.memory_taken)
page-counted kernel n below once good = (
  taken-some kernel.page_entries (first_page kernel.size) kernel.size kernel.machine.free_page kernel.machine.pages_taken n
      below (taken_once (entry_at kernel.page_entries n) once) good.pages.entries_good,
  memory-some kernel.size kernel.page_entries kernel.machine.free_page kernel.machine.pages_taken
      kernel.machine.memory_taken kernel.bank n below good.pages,
)

pub node-counted : (kernel : Kernel) (n : ℕ) → n < kernel.nodes → IsTakenOnce (entry_at kernel.node_entries n) → BankGood kernel → 1 ≤ kernel.machine.nodes_taken
node-counted kernel n below once good =
    taken-some kernel.node_entries 0 kernel.nodes kernel.machine.free_node kernel.machine.nodes_taken n below
    (taken_once (entry_at kernel.node_entries n) once) good.nodes.entries_good

-- what taking a node promises
pub takes_node : (old new : Kernel) (n : ℕ) (owner : NodeOwner) → IsFirstFree old.node_entries 0 old.nodes old.machine.free_node n → BankGood old → new ≡ node_taken old n owner → TakesNode old new n owner
takes_node old new n owner head good e = record {
  low = free_node-high old.nodes old.node_entries old.machine.free_node old.machine.nodes_taken old.keys n head.free good.nodes;
  high = head.inside;
  was_free = head.free;
  nulls =
      λ place low.
      let free : is_free_at old.nodes old.node_entries n ≡ true =
      ap (λ b. b && is_free (entry_at old.node_entries n)) (lt-ltb n old.nodes head.inside) ∙ head.free
      in
      ap (λ (k : Kernel). get_or k.keys (16 * n + place) None) e ∙ good.nodes.nulls n place free low;
  state = e ∙ ap (λ (first : ℕ). record old { machine = record old.machine { free_node = first; nodes_taken = old.machine.nodes_taken + 1 }; node_entries = set old.node_entries n (Taken owner 1) }) (sym (ap (λ (k : Kernel). k.machine.free_node) e));
}
