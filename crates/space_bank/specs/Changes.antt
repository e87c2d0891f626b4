-- What the bank's calls change of objects that are taken: how often one is counted, what a page holds, and a key of a
-- node.
use Rattle.std.specs.Prelude.{◌≡◌, ℕ, ◌+◌, ◌*◌, true, Some, List, ◌∷◌, slice_set, ⊤}
use Rattle.kn_base.specs.declared.key.Key.{Key}
use Rattle.kernel_tables.specs.declared.entry.Entry.{Entry}
use Rattle.kernel_tables.specs.declared.entry.Entry.TheVariants.{Free, Taken, Fixed, Unspelled}
use Rattle.kernel_tables.specs.Kernel.{Kernel}
use Rattle.kernel_tables.specs.Rows.{entry_at, key_table}
use Rattle.space_bank.specs.Shares.{Outside, Shares, key_names_page, key_names_node}

-- the object is taken
abbrev pub IsTaken : {O : Type 0} → Entry O → Type 0
IsTaken (Free next) = ⊥
IsTaken (Taken owner count) = ⊤
IsTaken Fixed = ⊥
IsTaken Unspelled = ⊥

-- an entry whose object is counted so often, if it is taken
abbrev pub with_count : {O : Type 0} → Entry O → ℕ → Entry O
with_count (Free next) count = Free next
with_count (Taken owner old) count = Taken owner count
with_count Fixed count = Fixed
with_count Unspelled count = Unspelled

-- the tables in which the page of entry n is counted so often, and in which node n is
abbrev pub page_counted : Kernel → ℕ → ℕ → Kernel
page_counted kernel n count = record kernel { page_entries = slice_set kernel.page_entries n (with_count (entry_at kernel.page_entries n) count) }

abbrev pub node_counted : Kernel → ℕ → ℕ → Kernel
node_counted kernel n count = record kernel { node_entries = slice_set kernel.node_entries n (with_count (entry_at kernel.node_entries n) count) }

-- the tables in which a key stands at a place of a node
abbrev pub key_written : Kernel → ℕ → ℕ → Key → Kernel
key_written kernel node place key = record kernel { keys = slice_set kernel.keys (16 * node + place) (Some key) }

-- A page was counted once more, and a key that names it is in hand; likewise a node.
abbrev pub PutsPageKeyInHand : Kernel → Kernel → ℕ → Type 0
PutsPageKeyInHand old new page =
    (outside : Outside) (hand : List Key) (key : Key) → key_names_page page key ≡ true
    → Shares old outside hand → Shares new outside (key ∷ hand)

abbrev pub PutsNodeKeyInHand : Kernel → Kernel → ℕ → Type 0
PutsNodeKeyInHand old new node =
    (outside : Outside) (hand : List Key) (key : Key) → key_names_node node key ≡ true
    → Shares old outside hand → Shares new outside (key ∷ hand)

-- A page was counted once less, and the key in hand that named it is gone; likewise a node.
abbrev pub TakesPageKeyOutOfHand : Kernel → Kernel → ℕ → Type 0
TakesPageKeyOutOfHand old new page =
    (outside : Outside) (hand : List Key) (key : Key) → key_names_page page key ≡ true
    → Shares old outside (key ∷ hand) → Shares new outside hand

abbrev pub TakesNodeKeyOutOfHand : Kernel → Kernel → ℕ → Type 0
TakesNodeKeyOutOfHand old new node =
    (outside : Outside) (hand : List Key) (key : Key) → key_names_node node key ≡ true
    → Shares old outside (key ∷ hand) → Shares new outside hand

-- A key was written: it was in hand, and in its place is the key that stood there, or Null where none was spelled.
abbrev pub ExchangesKeys : Kernel → Kernel → ℕ → ℕ → Key → Type 0
ExchangesKeys old new node place key =
    (outside : Outside) (hand : List Key)
    → Shares old outside (key ∷ hand) → Shares new outside (key_table old.keys (16 * node + place) ∷ hand)
