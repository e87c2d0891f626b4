-- What a reader tests of each kind of key is that the bytes are that key's spelling.
use Rattle.std.proofs.Common.{get_or, ◌+◌, length, nat_le, bytes_eq, ◌≡◌, ◌≢◌, ◌<◌, ◌^◌, ◌&&◌, ◌==◌, ◌≤◌, ℕ, Bool, true, false, true≢false, Option, Some, None, List, [], ◌∷◌, ◌++◌, refl, ap, sym, ◌∙◌, drop, arith, slice_index, if◌then◌else◌, zero, suc}
use Rattle.std.proofs.lemmas.Bool.Decides.{Decides-eqb, Decides-and, not_from_Decides, same_from_decides}
use Rattle.std.proofs.Math.Bool.{and-true, and_assoc}
use Rattle.std.proofs.Math.Seq.{drop-cons}
use Rattle.std.proofs.lemmas.List.{drop_all}
use Rattle.std.proofs.lemmas.Option.{slice_get_past}
use Rattle.std.proofs.lemmas.Nat.{from_le_bytes-to_le_bytes_4, from_le_bytes-to_le_bytes_8, le_bytes_4, le_bytes_8}
use Rattle.std.proofs.lemmas.Slice.Eq.{bytes_eq-Decides}
use Rattle.std.specs.Bool.{⊤, Decides, then_some}
use Rattle.std.specs.Int.{from_le_bytes, to_le_bytes, w32, w64}
use Rattle.kn_base.specs.declared.key.Key.{Key}
use Rattle.kn_base.specs.declared.key.Key.TheVariants.{Null, Number, Page, Node, Segment, Start, Resume, Domain, Meter, Service}
use Rattle.kn_base.specs.Keys.{spelling, spelled_key, keys_by_kind, if_spelled, sixteen, counted_body}
use Rattle.kn_base.proofs.KeyLaws.{key_by_kind}

-- a test is an option of what it lets through
chosen : (test : Bool) (key : Key) → (if test then Some key else None) ≡ then_some test key
chosen true key = refl
chosen false key = refl

-- the side byte, the word and the count of a key's bytes
record Parts : Type 0 where
  side : ℕ
  word : ℕ
  count : ℕ

record AreIn (p : Parts) : Type 0 where
  word : p.word < 2 ^ 32
  count : p.count < 2 ^ 64

abbrev bytes_with : ℕ → Parts → List ℕ
bytes_with kind p = sixteen kind p.side (counted_body p.word p.count)

abbrev same : Parts → Parts → Bool
same p q = (p.side == q.side) && ((p.word == q.word) && (p.count == q.count))

-- bytes are the same where their parts are
same_parts : (kind : ℕ) (p q : Parts) → (p.side ≡ q.side) × ((p.word ≡ q.word) × (p.count ≡ q.count)) → bytes_with kind q ≡ bytes_with kind p
same_parts kind p q h =
    ap (λ side. sixteen kind side (counted_body q.word q.count)) (sym h.0)
    ∙ ap (λ word. sixteen kind p.side (counted_body word q.count)) (sym h.1.0)
    ∙ ap (λ count. sixteen kind p.side (counted_body p.word count)) (sym h.1.1)

same_bytes : (kind : ℕ) (p q : Parts) → AreIn p → AreIn q → bytes_with kind q ≡ bytes_with kind p → (p.side ≡ q.side) × ((p.word ≡ q.word) × (p.count ≡ q.count))
same_bytes kind p q p_in q_in e = (
  sym (ap (λ bytes. slice_index bytes 1) e),
  (
    sym (from_le_bytes-to_le_bytes_4 p.word p_in.word) ∙ sym (ap (λ bytes. from_le_bytes w32 (drop 4 bytes)) e) ∙ from_le_bytes-to_le_bytes_4 q.word q_in.word,
    sym (from_le_bytes-to_le_bytes_8 p.count p_in.count) ∙ sym (ap (λ bytes. from_le_bytes w64 (drop 8 bytes)) e) ∙ from_le_bytes-to_le_bytes_8 q.count q_in.count,
  ),
)

same-Decides : (kind : ℕ) (p q : Parts) → AreIn p → AreIn q → Decides (same p q) (bytes_with kind q ≡ bytes_with kind p)
same-Decides kind p q p_in q_in =
    let d = Decides-and (p.side == q.side) ((p.word == q.word) && (p.count == q.count)) (Decides-eqb p.side q.side)
    (Decides-and (p.word == q.word) (p.count == q.count) (Decides-eqb p.word q.word) (Decides-eqb p.count q.count)) in
    (λ e. same_parts kind p q (d.0 e), λ h. d.1 (same_bytes kind p q p_in q_in h))

-- bytes whose kind names a key spell it where their parts are those of its spelling
by_parts : (kind : ℕ) (p q : Parts) (key : Key) → AreIn p → AreIn q → key_by_kind (bytes_with kind p) ≡ Some key → spelling key ≡ bytes_with kind q → spelled_key (bytes_with kind p) ≡ then_some (same p q) key
unfolding spelled_key
by_parts kind p q key p_in q_in named spelled =
    ap (if_spelled (bytes_with kind p)) named
    ∙ ap (λ test. if test then Some key else None)
    (same_from_decides _ _ (bytes_eq-Decides (spelling key) (bytes_with kind p)) (let d = same-Decides kind p q p_in q_in in (λ e. spelled ∙ d.0 e, λ h. d.1 (sym spelled ∙ h))))
    ∙ chosen (same p q) key

-- the same by what a reader tests
read_as : (kind : ℕ) (p q : Parts) (key : Key) (test : Bool) → AreIn p → AreIn q → key_by_kind (bytes_with kind p) ≡ Some key → spelling key ≡ bytes_with kind q → same p q ≡ test → spelled_key (bytes_with kind p) ≡ then_some test key
read_as kind p q key test p_in q_in named spelled e = by_parts kind p q key p_in q_in named spelled ∙ ap (λ b. then_some b key) e

-- a side byte is what a page's is spelled as where it is 0 or 1
page_side : (side : ℕ) → (side == (if side == 1 then 1 else 0)) ≡ nat_le side 1
page_side zero = refl
page_side (suc zero) = refl
page_side (suc (suc side)) = grind arith

module _ (side word count : ℕ) (word_in : word < 2 ^ 32) (count_in : count < 2 ^ 64) where
  abbrev read : Parts
  read = record { side = side; word = word; count = count }

  abbrev with_parts : ℕ → ℕ → ℕ → Parts
  with_parts s w n = record { side = s; word = w; count = n }

  are_in : (s : ℕ) → AreIn (with_parts s word count)
  are_in s = record { word = word_in; count = count_in }

  have_no_body : (s : ℕ) → AreIn (with_parts s 0 0)
  have_no_body s = record { word = omega arith; count = omega arith }

  have_word : (s : ℕ) → AreIn (with_parts s word 0)
  have_word s = record { word = word_in; count = omega arith }

  word_found : from_le_bytes w32 (to_le_bytes w32 word) ≡ word
  word_found = from_le_bytes-to_le_bytes_4 word word_in

  -- the tests that are left of a spelling that has the word, or both, or the side byte as well
  itself : (n : ℕ) → (n == n) ≡ true
  itself n = let d = Decides-eqb n n in d.1 refl

  word_itself : (b c : Bool) → (b && ((word == word) && c)) ≡ (b && c)
  word_itself b c = ap (λ w. b && (w && c)) (itself word)

  both_itself : (b : Bool) → (b && ((word == word) && (count == count))) ≡ b
  both_itself b = word_itself b (count == count) ∙ ap (λ c. b && c) (itself count) ∙ and-true b

  side_itself : (b : Bool) → ((side == side) && b) ≡ b
  side_itself b = ap (λ s. s && b) (itself side)

  pub null_read : spelled_key (sixteen 0 side (counted_body word count)) ≡ then_some (((side == 0) && (word == 0)) && (count == 0)) Null
  unfolding spelling keys_by_kind
  null_read = read_as 0 read (with_parts 0 0 0) Null _ (are_in side) (have_no_body 0) refl refl (sym (and_assoc (side == 0) (word == 0) (count == 0)))

  pub number_read : spelled_key (sixteen 1 side (counted_body word count)) ≡ then_some (side == 0) (Number (counted_body word count))
  unfolding spelling keys_by_kind
  number_read = read_as 1 read (with_parts 0 word count) (Number (counted_body word count)) _ (are_in side) (are_in 0) refl refl (both_itself (side == 0))

  pub page_read : spelled_key (sixteen 2 side (counted_body word count)) ≡ then_some (nat_le side 1 && (count == 0)) (Page (record { 0 = word }) (side == 1))
  unfolding spelling keys_by_kind
  page_read =
      read_as 2 read (with_parts (if side == 1 then 1 else 0) word 0) (Page (record { 0 = word }) (side == 1)) _ (are_in side) (have_word (if side == 1 then 1 else 0))
      (ap (λ n. Some (Page (record { 0 = n }) (side == 1))) word_found) refl
      (word_itself (side == (if side == 1 then 1 else 0)) (count == 0) ∙ ap (λ b. b && (count == 0)) (page_side side))

  pub node_read : spelled_key (sixteen 3 side (counted_body word count)) ≡ then_some ((side == 0) && (count == 0)) (Node (record { 0 = word }))
  unfolding spelling keys_by_kind
  node_read =
      read_as 3 read (with_parts 0 word 0) (Node (record { 0 = word })) _ (are_in side) (have_word 0)
      (ap (λ n. Some (Node (record { 0 = n }))) word_found) refl (word_itself (side == 0) (count == 0))

  pub segment_read : spelled_key (sixteen 4 side (counted_body word count)) ≡ then_some (count == 0) (Segment (record { 0 = word }) side)
  unfolding spelling keys_by_kind
  segment_read =
      read_as 4 read (with_parts side word 0) (Segment (record { 0 = word }) side) _ (are_in side) (have_word side)
      (ap (λ n. Some (Segment (record { 0 = n }) side)) word_found) refl (word_itself (side == side) (count == 0) ∙ side_itself (count == 0))

  pub start_read : spelled_key (sixteen 5 side (counted_body word count)) ≡ then_some (count == 0) (Start (record { 0 = word }) side)
  unfolding spelling keys_by_kind
  start_read =
      read_as 5 read (with_parts side word 0) (Start (record { 0 = word }) side) _ (are_in side) (have_word side)
      (ap (λ n. Some (Start (record { 0 = n }) side)) word_found) refl (word_itself (side == side) (count == 0) ∙ side_itself (count == 0))

  pub resume_read : spelled_key (sixteen 6 side (counted_body word count)) ≡ then_some (side == 0) (Resume (record { 0 = word }) count)
  unfolding spelling keys_by_kind
  resume_read =
      read_as 6 read (with_parts 0 word count) (Resume (record { 0 = word }) count) _ (are_in side) (are_in 0)
      (ap (λ n. Some (Resume (record { 0 = n }) (from_le_bytes w64 (to_le_bytes w64 count)))) word_found
      ∙ ap (λ n. Some (Resume (record { 0 = word }) n)) (from_le_bytes-to_le_bytes_8 count count_in))
      refl (both_itself (side == 0))

  pub domain_read : spelled_key (sixteen 7 side (counted_body word count)) ≡ then_some ((side == 0) && (count == 0)) (Domain (record { 0 = word }))
  unfolding spelling keys_by_kind
  domain_read =
      read_as 7 read (with_parts 0 word 0) (Domain (record { 0 = word })) _ (are_in side) (have_word 0)
      (ap (λ n. Some (Domain (record { 0 = n }))) word_found) refl (word_itself (side == 0) (count == 0))

  pub meter_read : spelled_key (sixteen 8 side (counted_body word count)) ≡ then_some ((word == 0) && (count == 0)) (Meter side)
  unfolding spelling keys_by_kind
  meter_read = read_as 8 read (with_parts side 0 0) (Meter side) _ (are_in side) (have_no_body side) refl refl (side_itself ((word == 0) && (count == 0)))

  pub service_read : spelled_key (sixteen 9 side (counted_body word count)) ≡ then_some ((word == 0) && (count == 0)) (Service side)
  unfolding spelling keys_by_kind
  service_read = read_as 9 read (with_parts side 0 0) (Service side) _ (are_in side) (have_no_body side) refl refl (side_itself ((word == 0) && (count == 0)))

-- no key has a kind from ten on
pub none_read : (kind side : ℕ) (body : List ℕ) → 10 ≤ kind → spelled_key (sixteen kind side body) ≡ None
unfolding spelled_key keys_by_kind
none_read kind side body h = ap (if_spelled (sixteen kind side body)) (slice_get_past (keys_by_kind side body) kind h)

-- bytes 2 and 3 of each spelling are zero
spare_zero : (key : Key) → (slice_index (spelling key) 2 ≡ 0) × (slice_index (spelling key) 3 ≡ 0)
unfolding spelling
spare_zero Null = (refl, refl)
spare_zero (Number body) = (refl, refl)
spare_zero (Page page writable) = (refl, refl)
spare_zero (Node node) = (refl, refl)
spare_zero (Segment node height) = (refl, refl)
spare_zero (Start root byte) = (refl, refl)
spare_zero (Resume root count) = (refl, refl)
spare_zero (Domain root) = (refl, refl)
spare_zero (Meter slot) = (refl, refl)
spare_zero (Service code) = (refl, refl)

-- bytes that no key is spelled as are read as none
not_spelled : (bytes : List ℕ) (read : Option Key) → ((key : Key) → spelling key ≢ bytes) → if_spelled bytes read ≡ None
not_spelled bytes None h = refl
not_spelled bytes (Some key) h =
    ap (λ test. if test then Some key else None)
    (same_from_decides (bytes_eq (spelling key) bytes) false (bytes_eq-Decides (spelling key) bytes) (λ e. absurd (true≢false (sym e)), λ e. absurd (h key e)))

-- the test of both
abbrev has_spare_zeros : List ℕ → Bool
has_spare_zeros bytes = (slice_index bytes 2 == 0) && (slice_index bytes 3 == 0)

spare_Decides : (bytes : List ℕ) → Decides (has_spare_zeros bytes) ((slice_index bytes 2 ≡ 0) × (slice_index bytes 3 ≡ 0))
spare_Decides bytes = Decides-and (slice_index bytes 2 == 0) (slice_index bytes 3 == 0) (Decides-eqb (slice_index bytes 2) 0) (Decides-eqb (slice_index bytes 3) 0)

-- so no key is read where one of them is not zero
pub spare_read : (bytes : List ℕ) → has_spare_zeros bytes ≡ false → spelled_key bytes ≡ None
unfolding spelled_key
spare_read bytes h =
    not_spelled bytes _
    (λ key e. let z = spare_zero key in
    not_from_Decides (has_spare_zeros bytes) (spare_Decides bytes) h
    (sym (ap (λ read. slice_index read 2) e) ∙ z.0, sym (ap (λ read. slice_index read 3) e) ∙ z.1))

-- a list of bytes
abbrev are_bytes : List ℕ → Type 0
are_bytes [] = ⊤
are_bytes (x ∷ xs) = (x < 256) × are_bytes xs

each_byte : (xs : List ℕ) → are_bytes xs → (i : ℕ) → get_or xs i 0 < 256
each_byte [] h i = omega arith
each_byte (x ∷ xs) h zero = h.0
each_byte (x ∷ xs) h (suc i) = each_byte xs h.1 i

-- so many elements of a list from a place on, read one by one
unfoldable pub reads : ℕ → ℕ → List ℕ → List ℕ
reads zero i xs = []
reads (suc n) i xs = get_or xs i 0 ∷ reads n (suc i) xs

all_read : (n i : ℕ) (xs : List ℕ) → i + n ≡ length xs → reads n i xs ≡ drop i xs
unfolding reads
all_read zero i xs e = sym (drop_all i xs (omega arith))
all_read (suc n) i xs e = ap (λ more. get_or xs i 0 ∷ more) (all_read n (suc i) xs (omega arith)) ∙ sym (drop-cons xs i 0 (omega arith))

-- sixteen bytes by what is read of them: the kind, the side byte, two zeros, a word and a count
pub bytes_read : (bytes : List ℕ) (word count : ℕ) → length bytes ≡ 16 → to_le_bytes w32 word ≡ reads 4 4 bytes → to_le_bytes w64 count ≡ reads 8 8 bytes → has_spare_zeros bytes ≡ true → sixteen (slice_index bytes 0) (slice_index bytes 1) (counted_body word count) ≡ bytes
unfolding reads
bytes_read bytes word count whole word_there count_there zeros =
    let d = spare_Decides bytes in let spare = d.0 zeros in
    ap (λ word. sixteen (slice_index bytes 0) (slice_index bytes 1) (word ++ to_le_bytes w64 count)) word_there
    ∙ ap (λ count. sixteen (slice_index bytes 0) (slice_index bytes 1) (reads 4 4 bytes ++ count)) count_there
    ∙ ap (λ low. slice_index bytes 0 ∷ slice_index bytes 1 ∷ low ∷ 0 ∷ (reads 4 4 bytes ++ reads 8 8 bytes)) (sym spare.0)
    ∙ ap (λ high. slice_index bytes 0 ∷ slice_index bytes 1 ∷ slice_index bytes 2 ∷ high ∷ (reads 4 4 bytes ++ reads 8 8 bytes)) (sym spare.1)
    ∙ all_read 16 0 bytes (sym whole)

-- a word and a count have the bytes from which they are read
pub word_read : (a b c d word : ℕ) → a < 256 → b < 256 → c < 256 → d < 256 → word ≡ from_le_bytes w32 (a ∷ b ∷ c ∷ d ∷ []) → to_le_bytes w32 word ≡ a ∷ b ∷ c ∷ d ∷ []
word_read a b c d word ha hb hc hd e =
    le_bytes_4 (a ∷ b ∷ c ∷ d ∷ []) word refl (each_byte (a ∷ b ∷ c ∷ d ∷ []) (ha, (hb, (hc, (hd, tt))))) e

pub count_read : (a b c d e f g h count : ℕ) → a < 256 → b < 256 → c < 256 → d < 256 → e < 256 → f < 256 → g < 256 → h < 256 → count ≡ from_le_bytes w64 (a ∷ b ∷ c ∷ d ∷ e ∷ f ∷ g ∷ h ∷ []) → to_le_bytes w64 count ≡ a ∷ b ∷ c ∷ d ∷ e ∷ f ∷ g ∷ h ∷ []
count_read a b c d e f g h count ha hb hc hd he hf hg hh is =
    le_bytes_8 (a ∷ b ∷ c ∷ d ∷ e ∷ f ∷ g ∷ h ∷ []) count refl
    (each_byte (a ∷ b ∷ c ∷ d ∷ e ∷ f ∷ g ∷ h ∷ []) (ha, (hb, (hc, (hd, (he, (hf, (hg, (hh, tt))))))))) is

pub ruleset number_laws = (word_read, count_read)
