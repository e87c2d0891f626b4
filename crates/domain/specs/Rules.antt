-- What holds of the rows of domains from call to call.
use Rattle.std.specs.Prelude.{◌≡◌, ℕ, ◌<◌, ◌≤◌, ◌%◌, true, Some, None, is_some}
use Rattle.kn_base.specs.declared.key.Key.{Key}
use Rattle.kn_base.specs.declared.key.Key.TheVariants.{Null, Start}
use Rattle.unix_model.specs.Rules.{IsBreak}
use Rattle.unix_model.specs.Tables.{at, with_at}
use Rattle.domain.specs.Keys.{is_number, is_meter, meter_in, node_in, segment_in, page_in, word_in, key_of_space}
use Rattle.domain.specs.Domains.{node_words}

-- The key may stand at a place of a root, of 6 to 12. There are three states and six phases. The break starts at a page, and lies
-- between its start and the end of the memory for loads. The number of a call fits a byte, and no request and no answer brings
-- more than a page. A process is parked or isn't, and the last word of its marks is unused.
pub record NumberFits (place : ℕ) (key : Key) : Type 0 where
  pub number : is_number key ≡ true
  pub state : place ≡ 6 → word_in key 0 < 3
  pub phase : place ≡ 7 → word_in key 2 < 6
  pub break : place ≡ 8 → IsBreak (word_in key 0) (word_in key 1)
  pub call : place ≡ 9 → word_in key 0 < 256
  pub request : place ≡ 10 → word_in key 2 ≤ 4096
  pub answer : place ≡ 11 → word_in key 2 ≤ 4096
  pub parked : place ≡ 12 → word_in key 0 < 2
  pub unused : place ≡ 12 → word_in key 2 ≡ 0

-- Key 0 of a root is that of a space or Null, and key 5 that of a page or Null. Keys 6 to 12 are numbers.
pub record RootGood (row : ℕ → Key) : Type 0 where
  pub of_space : row 0 ≡ key_of_space (segment_in (row 0))
  pub no_buffer : page_in (row 5) ≡ None → row 5 ≡ Null
  pub numbers : (place : ℕ) → 6 ≤ place → place ≤ 12 → NumberFits place (row place)

-- Key 1 of a root is the keeper's Start key, with the slot as its byte. Keys 3 and 4 are Node keys, or both are Null. Keys 13 to 15
-- are Null.
pub record RootPlaces (row : ℕ → Key) : Type 0 where
  pub keeper : row 1 ≡ Start (record { 0 = 1 }) (meter_in (row 2))
  pub both : is_some (node_in (row 3)) ≡ is_some (node_in (row 4))
  pub no_words : (place : ℕ) → 3 ≤ place → place ≤ 4 → node_in (row place) ≡ None → row place ≡ Null
  pub blank : (place : ℕ) → 13 ≤ place → row place ≡ Null

-- Of the registers x0 is zero, and pc is a multiple of 4.
pub record RegistersGood (row : ℕ → Key) : Type 0 where
  pub zero : node_words row 0 ≡ 0
  pub aligned : node_words row 32 % 4 ≡ 0

-- Each descriptor is closed or has one of the 2,048 open descriptions, and the word behind them is unused.
pub record DescriptorsGood (row : ℕ → Key) : Type 0 where
  pub fit : (number : ℕ) → number < 32 → node_words row number ≤ 2048
  pub unused : node_words row 32 ≡ 0

-- A row has the words of registers where key 3 of a root names its node, and those of descriptors where key 4 does.
pub record WordsGood (rows : ℕ → ℕ → Key) (node : ℕ) (row : ℕ → Key) : Type 0 where
  pub registers : (root : ℕ) → node_in (rows root 3) ≡ Some node → RegistersGood row
  pub descriptors : (root : ℕ) → node_in (rows root 4) ≡ Some node → DescriptorsGood row

-- A Node key stands at one place only, and what it names holds numbers at keys 0 to 10, and Null behind them. So a root is named
-- by none, and a key that is written in a root changes one domain.
pub record RowsGood (rows : ℕ → ℕ → Key) : Type 0 where
  pub single : (a i b j node : ℕ) → node_in (rows a i) ≡ Some node → node_in (rows b j) ≡ Some node → (a ≡ b) × (i ≡ j)
  pub plain : (a i node j : ℕ) → node_in (rows a i) ≡ Some node → j < 11 → is_number (rows node j) ≡ true
  pub blank : (a i node j : ℕ) → node_in (rows a i) ≡ Some node → 11 ≤ j → rows node j ≡ Null
  pub words : (node : ℕ) → WordsGood rows node (rows node)
  pub places : (root : ℕ) → is_meter (rows root 2) ≡ true → RootPlaces (rows root)
  pub roots : (root : ℕ) → is_meter (rows root 2) ≡ true → RootGood (rows root)

-- a Node key names the node
pub record IsNamed (rows : ℕ → ℕ → Key) (node : ℕ) : Type 0 where
  pub by : ℕ
  pub place : ℕ
  pub named : node_in (rows by place) ≡ Some node

-- no Node key names the node
abbrev pub NobodyIn : (ℕ → ℕ → Key) → ℕ → Type 0
NobodyIn rows node = (a i : ℕ) → node_in (rows a i) ≡ Some node → ⊥

-- the rows with a key at a place
abbrev pub written : (ℕ → ℕ → Key) → ℕ → ℕ → Key → ℕ → ℕ → Key
written rows node place key = with_at rows node (with_at (at rows node) place key)

-- a Node key at a place of some node names the node
abbrev pub NamedAt : (ℕ → ℕ → Key) → ℕ → ℕ → Type 0
NamedAt rows place node = (root : ℕ) × (node_in (rows root place) ≡ Some node)
