-- What the keys in the nodes of domains say.
use Rattle.std.specs.Prelude.{ℕ, ◌*◌, Bool, true, false, Option, Some, None, List, [], ◌∷◌, drop}
use Rattle.std.specs.Int.{from_le_bytes, w32, w64}
use Rattle.kn_base.specs.declared.key.Key.{Key}
use Rattle.kn_base.specs.declared.key.Key.TheVariants.{Null, Number, Page, Node, Segment, Domain, Meter}

-- Twelve bytes of data, ..
abbrev pub is_number : Key → Bool
is_number (Number body) = true
is_number _ = false

abbrev pub body_in : Key → List ℕ
body_in (Number body) = body
body_in _ = []

-- .. which are three words, or one word and a count of eight bytes. Any other key is read as zeros.
unfoldable pub word_in : Key → ℕ → ℕ
word_in key n = from_le_bytes w32 (drop (4 * n) (body_in key))

unfoldable pub count_in : Key → ℕ
count_in key = from_le_bytes w64 (drop 4 (body_in key))

abbrev pub words_in : Key → List ℕ
words_in key = word_in key 0 ∷ word_in key 1 ∷ word_in key 2 ∷ []

-- The key that makes a node the root of a domain, with the number of its slot.
abbrev pub is_meter : Key → Bool
is_meter (Meter slot) = true
is_meter _ = false

abbrev pub meter_in : Key → ℕ
meter_in (Meter slot) = slot
meter_in _ = 0

-- what a key names: the root of a domain, a row of keys, a space, a page
abbrev pub root_in : Key → Option ℕ
root_in (Domain root) = Some root.0
root_in _ = None

abbrev pub node_in : Key → Option ℕ
node_in (Node node) = Some node.0
node_in _ = None

abbrev pub segment_in : Key → Option ℕ
segment_in (Segment node height) = Some node.0
segment_in _ = None

abbrev pub page_in : Key → Option ℕ
page_in (Page page writable) = Some page.0
page_in _ = None

-- the key of a space, which has five levels
abbrev pub key_of_space : Option ℕ → Key
key_of_space None = Null
key_of_space (Some space) = Segment (record { 0 = space }) 5
