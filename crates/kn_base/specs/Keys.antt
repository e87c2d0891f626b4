-- How a key is spelled in sixteen bytes, and which key sixteen bytes spell. Byte 0 is the number of the kind, byte 1 the
-- side byte, bytes 2 and 3 are zero, and bytes 4 to 15 are the body. Numbers stand with their lowest byte first. What a
-- kind does not use is zero; any other bytes spell no key.
use Rattle.std.specs.Prelude.{◌≡◌, ◌==◌, ◌<◌, ◌^◌, ℕ, Option, Some, None, List, [], ◌∷◌, ◌++◌, length, drop, if◌then◌else◌, replicate, slice_get, slice_index, ⊤}
use Rattle.std.specs.Int.{to_le_bytes, from_le_bytes, w32, w64}
use Rattle.std.specs.Str.{bytes_eq}
use Rattle.kn_base.specs.declared.key.Key.{Key}
use Rattle.kn_base.specs.declared.key.Key.TheVariants.{Null, Number, Page, Node, Segment, Start, Resume, Domain, Meter, Service}
use Rattle.kn_base.specs.declared.key.NodeId.{NodeId}
use Rattle.kn_base.specs.declared.key.PageId.{PageId}

-- a body of zeros
abbrev pub empty_body : List ℕ
empty_body = replicate 12 0

-- a body of one word, followed by zeros
abbrev pub word_body : ℕ → List ℕ
word_body word = to_le_bytes w32 word ++ replicate 8 0

-- a body of one word and a count of eight bytes
abbrev pub counted_body : ℕ → ℕ → List ℕ
counted_body word count = to_le_bytes w32 word ++ to_le_bytes w64 count

-- sixteen bytes: the kind, the side byte, two zeros and the body
abbrev pub sixteen : ℕ → ℕ → List ℕ → List ℕ
sixteen kind side body = kind ∷ side ∷ 0 ∷ 0 ∷ body

-- the spelling of a key
unfoldable pub spelling : Key → List ℕ
spelling Null = sixteen 0 0 empty_body
spelling (Number body) = sixteen 1 0 body
spelling (Page page writable) = sixteen 2 (if writable then 1 else 0) (word_body page.0)
spelling (Node node) = sixteen 3 0 (word_body node.0)
spelling (Segment node height) = sixteen 4 height (word_body node.0)
spelling (Start root byte) = sixteen 5 byte (word_body root.0)
spelling (Resume root count) = sixteen 6 0 (counted_body root.0 count)
spelling (Domain root) = sixteen 7 0 (word_body root.0)
spelling (Meter slot) = sixteen 8 slot empty_body
spelling (Service code) = sixteen 9 code empty_body

-- the node and the page of the first word of a body
abbrev pub node_in : List ℕ → NodeId
node_in body = record { 0 = from_le_bytes w32 body }

abbrev pub page_in : List ℕ → PageId
page_in body = record { 0 = from_le_bytes w32 body }

-- the keys with this side byte and this body, one of each kind, by the kinds' numbers
unfoldable pub keys_by_kind : ℕ → List ℕ → List Key
keys_by_kind side body =
    Null
    ∷ Number body
    ∷ Page (page_in body) (side == 1)
    ∷ Node (node_in body)
    ∷ Segment (node_in body) side
    ∷ Start (node_in body) side
    ∷ Resume (node_in body) (from_le_bytes w64 (drop 4 body))
    ∷ Domain (node_in body)
    ∷ Meter side
    ∷ Service side
    ∷ []

-- a key that was read, if it is spelled by these bytes
abbrev pub if_spelled : List ℕ → Option Key → Option Key
if_spelled bytes None = None
if_spelled bytes (Some key) = if bytes_eq (spelling key) bytes then Some key else None

-- the key that is spelled by these bytes: the one of their kind, if it is spelled so
unfoldable pub spelled_key : List ℕ → Option Key
spelled_key bytes =
    if_spelled bytes (slice_get (keys_by_kind (slice_index bytes 1) (drop 4 bytes)) (slice_index bytes 0))

-- the numbers of a key fit their fields, and the bytes of a number are twelve
abbrev pub KeyFits : Key → Type 0
KeyFits Null = ⊤
KeyFits (Number body) = length body ≡ 12
KeyFits (Page page writable) = page.0 < 2 ^ 32
KeyFits (Node node) = node.0 < 2 ^ 32
KeyFits (Segment node height) = node.0 < 2 ^ 32
KeyFits (Start root byte) = root.0 < 2 ^ 32
KeyFits (Resume root count) = (root.0 < 2 ^ 32) × (count < 2 ^ 64)
KeyFits (Domain root) = root.0 < 2 ^ 32
KeyFits (Meter slot) = ⊤
KeyFits (Service code) = ⊤
