-- Laws of share counts, each as one statement, for the tables of any store and whatever is outside and in hand.
use Rattle.std.specs.Prelude.{◌≡◌, ◌↔◌, ℕ, ◌+◌, ◌-◌, ◌<◌, ◌≤◌, true, cond, Some, List, ◌∷◌}
use Rattle.kn_base.specs.declared.key.Key.{Key}
use Rattle.kernel_tables.specs.Kernel.{Kernel, first_page, IsBankPage}
use Rattle.kernel_tables.specs.Rows.{entry_at}
use Rattle.space_bank.specs.Bank.{BankGood, NoneFree, IsTakenOnce}
use Rattle.space_bank.specs.Shares.{Outside, Shares, NamesNothing, key_names_page, key_names_node, page_places, node_places}

-- What is counted once and named by a key in hand stands at no place, so it may be given back.
abbrev pub PageInHandIsUnnamed : Type 0
PageInHandIsUnnamed =
    (kernel : Kernel) (outside : Outside) (hand : List Key) (key : Key) (page : ℕ)
    → IsBankPage kernel.size page → IsTakenOnce (entry_at kernel.page_entries (page - first_page kernel.size))
    → key_names_page page key ≡ true → Shares kernel outside (key ∷ hand) → page_places kernel.keys page ≡ 0

abbrev pub NodeInHandIsUnnamed : Type 0
NodeInHandIsUnnamed =
    (kernel : Kernel) (outside : Outside) (hand : List Key) (key : Key) (node : ℕ)
    → 15 ≤ node → node < kernel.nodes → IsTakenOnce (entry_at kernel.node_entries node)
    → key_names_node node key ≡ true → Shares kernel outside (key ∷ hand) → node_places kernel.keys node ≡ 0

-- A key that names nothing that is counted is in hand, or isn't.
abbrev pub NothingInHand : Type 0
NothingInHand =
    (kernel : Kernel) (outside : Outside) (hand : List Key) (key : Key)
    → NamesNothing (Some key) → Shares kernel outside (key ∷ hand) ↔ Shares kernel outside hand

-- The order of keys in hand doesn't matter.
abbrev pub HandSwapped : Type 0
HandSwapped =
    (kernel : Kernel) (outside : Outside) (hand : List Key) (first second : Key)
    → Shares kernel outside (first ∷ second ∷ hand) → Shares kernel outside (second ∷ first ∷ hand)

-- what is outside, and one key more
abbrev pub and_outside : Outside → Key → Outside
and_outside outside key = record {
  pages = λ id. outside.pages id + cond (key_names_page id key) 1 0;
  nodes = λ id. outside.nodes id + cond (key_names_node id key) 1 0;
}

-- A key in hand is handed out, to a table or a caller, and back.
abbrev pub HandedOut : Type 0
HandedOut =
    (kernel : Kernel) (outside : Outside) (hand : List Key) (key : Key)
    → Shares kernel outside (key ∷ hand) ↔ Shares kernel (and_outside outside key) hand

-- Where no page is free, all are taken.
abbrev pub NoPageIsFree : Type 0
NoPageIsFree = (kernel : Kernel) → BankGood kernel → NoneFree kernel.page_entries kernel.size → kernel.size ≤ kernel.machine.pages_taken

-- Where no node is free, all but the fifteen fixed ones are taken.
abbrev pub NoNodeIsFree : Type 0
NoNodeIsFree = (kernel : Kernel) → BankGood kernel → NoneFree kernel.node_entries kernel.nodes → kernel.nodes ≤ kernel.machine.nodes_taken + 15
