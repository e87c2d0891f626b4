-- What is spelled is read back, and bytes that spell nothing are no key's spelling.
use Rattle.std.proofs.Common.{◌≡◌, ◌≢◌, ◌<◌, ℕ, true, false, Option, Some, None, List, [], ◌∷◌, ◌++◌, refl, ap, sym, ◌∙◌, drop, arith, slice_get, slice_index, get_or, map, replicate, if◌then◌else◌, ◌%◌, ◌/◌, zero, suc, IfNone, IfSome, Bool, bytes_eq}
use Rattle.std.proofs.lemmas.Nat.{from_le_bytes-to_le_bytes_4, from_le_bytes-to_le_bytes_8, le_bytes_4, le_bytes_8}
use Rattle.std.proofs.lemmas.Slice.Eq.{bytes_eq-Decides}
use Rattle.std.specs.Int.{from_le_bytes, to_le_bytes, w32, w64}
use Rattle.kn_base.specs.declared.key.Key.{Key}
use Rattle.kn_base.specs.declared.key.Key.TheVariants.{Null, Number, Page, Node, Segment, Start, Resume, Domain, Meter, Service}
use Rattle.kn_base.specs.Keys.{spelling, spelled_key, keys_by_kind, if_spelled, sixteen, KeyFits}

-- the key of the kind that these bytes name
abbrev pub key_by_kind : List ℕ → Option Key
key_by_kind bytes = slice_get (keys_by_kind (slice_index bytes 1) (drop 4 bytes)) (slice_index bytes 0)

-- a spelling names its own key
key_by_kind-spelling : (key : Key) → KeyFits key → key_by_kind (spelling key) ≡ Some key
unfolding spelling keys_by_kind
key_by_kind-spelling Null fits = refl
key_by_kind-spelling (Number body) fits = refl
key_by_kind-spelling (Page page true) fits = ap (λ n. Some (Page (record { 0 = n }) true)) (from_le_bytes-to_le_bytes_4 page.0 fits)
key_by_kind-spelling (Page page false) fits = ap (λ n. Some (Page (record { 0 = n }) false)) (from_le_bytes-to_le_bytes_4 page.0 fits)
key_by_kind-spelling (Node node) fits = ap (λ n. Some (Node (record { 0 = n }))) (from_le_bytes-to_le_bytes_4 node.0 fits)
key_by_kind-spelling (Segment node height) fits = ap (λ n. Some (Segment (record { 0 = n }) height)) (from_le_bytes-to_le_bytes_4 node.0 fits)
key_by_kind-spelling (Start root byte) fits = ap (λ n. Some (Start (record { 0 = n }) byte)) (from_le_bytes-to_le_bytes_4 root.0 fits)
key_by_kind-spelling (Resume root count) fits =
    ap (λ n. Some (Resume (record { 0 = n }) (from_le_bytes w64 (to_le_bytes w64 count)))) (from_le_bytes-to_le_bytes_4 root.0 fits.0)
    ∙ ap (λ n. Some (Resume root n)) (from_le_bytes-to_le_bytes_8 count fits.1)
key_by_kind-spelling (Domain root) fits = ap (λ n. Some (Domain (record { 0 = n }))) (from_le_bytes-to_le_bytes_4 root.0 fits)
key_by_kind-spelling (Meter slot) fits = refl
key_by_kind-spelling (Service code) fits = refl

-- the bytes of a key are its spelling
if_spelled-spelling : (key : Key) → if_spelled (spelling key) (Some key) ≡ Some key
if_spelled-spelling key =
    ap (λ b. if b then Some key else None) ((bytes_eq-Decides (spelling key) (spelling key)).1 refl)

-- a key's spelling is read as that key
pub spelled_key-spelling : (key : Key) → KeyFits key → spelled_key (spelling key) ≡ Some key
unfolding spelled_key
spelled_key-spelling key fits =
    ap (if_spelled (spelling key)) (key_by_kind-spelling key fits) ∙ if_spelled-spelling key

-- remainders by 256 are bytes
bytes_below : (xs : List ℕ) (i : ℕ) → get_or (map (λ n. n % 256) xs) i 0 < 256
bytes_below [] i = omega arith
bytes_below (x ∷ xs) zero = omega arith
bytes_below (x ∷ xs) (suc i) = bytes_below xs i

-- a word's bytes are those of the word that is read from them, whatever the number is
word_again : (n : ℕ) → to_le_bytes w32 (from_le_bytes w32 (to_le_bytes w32 n)) ≡ to_le_bytes w32 n
word_again n =
    le_bytes_4 (to_le_bytes w32 n) (from_le_bytes w32 (to_le_bytes w32 n)) refl
    (bytes_below (n ∷ n / 256 ∷ n / 65536 ∷ n / 16777216 ∷ [])) refl

-- likewise the eight bytes of a count
count_again : (n : ℕ) → to_le_bytes w64 (from_le_bytes w64 (to_le_bytes w64 n)) ≡ to_le_bytes w64 n
count_again n =
    le_bytes_8 (to_le_bytes w64 n) (from_le_bytes w64 (to_le_bytes w64 n)) refl
    (bytes_below
    (n ∷ n / 256 ∷ n / 65536 ∷ n / 16777216 ∷ n / 4294967296 ∷ n / 1099511627776 ∷ n / 281474976710656 ∷ n / 72057594037927936 ∷ []))
    refl

-- a spelling names a key that is spelled so, whether or not the key's numbers fit
record Renamed (key : Key) : Type 0 where
  named : Key
  found : key_by_kind (spelling key) ≡ Some named
  spelled_so : spelling named ≡ spelling key

renamed : (key : Key) → Renamed key
unfolding spelling keys_by_kind
renamed Null = record { named = Null; found = refl; spelled_so = refl }
renamed (Number body) = record { named = Number body; found = refl; spelled_so = refl }
renamed (Page page true) = record {
  named = Page (record { 0 = from_le_bytes w32 (to_le_bytes w32 page.0) }) true;
  found = refl;
  spelled_so = ap (λ word. sixteen 2 1 (word ++ replicate 8 0)) (word_again page.0);
}
renamed (Page page false) = record {
  named = Page (record { 0 = from_le_bytes w32 (to_le_bytes w32 page.0) }) false;
  found = refl;
  spelled_so = ap (λ word. sixteen 2 0 (word ++ replicate 8 0)) (word_again page.0);
}
renamed (Node node) = record {
  named = Node (record { 0 = from_le_bytes w32 (to_le_bytes w32 node.0) });
  found = refl;
  spelled_so = ap (λ word. sixteen 3 0 (word ++ replicate 8 0)) (word_again node.0);
}
renamed (Segment node height) = record {
  named = Segment (record { 0 = from_le_bytes w32 (to_le_bytes w32 node.0) }) height;
  found = refl;
  spelled_so = ap (λ word. sixteen 4 height (word ++ replicate 8 0)) (word_again node.0);
}
renamed (Start root byte) = record {
  named = Start (record { 0 = from_le_bytes w32 (to_le_bytes w32 root.0) }) byte;
  found = refl;
  spelled_so = ap (λ word. sixteen 5 byte (word ++ replicate 8 0)) (word_again root.0);
}
renamed (Resume root count) = record {
  named = Resume (record { 0 = from_le_bytes w32 (to_le_bytes w32 root.0) }) (from_le_bytes w64 (to_le_bytes w64 count));
  found = refl;
  spelled_so =
      ap (λ word. sixteen 6 0 (word ++ to_le_bytes w64 (from_le_bytes w64 (to_le_bytes w64 count)))) (word_again root.0)
      ∙ ap (λ eight. sixteen 6 0 (to_le_bytes w32 root.0 ++ eight)) (count_again count);
}
renamed (Domain root) = record {
  named = Domain (record { 0 = from_le_bytes w32 (to_le_bytes w32 root.0) });
  found = refl;
  spelled_so = ap (λ word. sixteen 7 0 (word ++ replicate 8 0)) (word_again root.0);
}
renamed (Meter slot) = record { named = Meter slot; found = refl; spelled_so = refl }
renamed (Service code) = record { named = Service code; found = refl; spelled_so = refl }

-- a key that was read by bytes that spell it is there
if_spelled-found : (bytes : List ℕ) (read : Option Key) (key : Key) → read ≡ Some key → spelling key ≡ bytes → if_spelled bytes read ≡ None → ⊥
if_spelled-found bytes read key e h none =
    let there : if_spelled bytes read ≡ Some key =
    ap (if_spelled bytes) e ∙ ap (λ b. if b then Some key else None) ((bytes_eq-Decides (spelling key) bytes).1 h)
    in let contra : Some key ≡ None = sym there ∙ none in cc

-- bytes that spell no key are no key's spelling
pub no_spelling : (bytes : List ℕ) → spelled_key bytes ≡ None → (key : Key) → spelling key ≢ bytes
unfolding spelled_key
no_spelling bytes none key h =
    let r = renamed key in
    if_spelled-found bytes (key_by_kind bytes) r.named (ap key_by_kind (sym h) ∙ r.found) (r.spelled_so ∙ h) none

-- so a reader that finds no key has seen no key's spelling
pub none_spelled : (bytes : List ℕ) (read : Option Key) → read ≡ spelled_key bytes → IfNone read ((key : Key) → spelling key ≢ bytes)
none_spelled bytes None h = no_spelling bytes (sym h)
none_spelled bytes (Some key) h = tt

-- and one that finds a key has found one that is spelled so
spelled_if : (bytes : List ℕ) (read : Key) (test : Bool) → (test ≡ true → spelling read ≡ bytes) → IfSome (if test then Some read else None) (λ key. spelling key ≡ bytes)
spelled_if bytes read true h = h refl
spelled_if bytes read false h = tt

spelled_there : (bytes : List ℕ) (read : Option Key) → IfSome (if_spelled bytes read) (λ key. spelling key ≡ bytes)
spelled_there bytes None = tt
spelled_there bytes (Some read) = spelled_if bytes read (bytes_eq (spelling read) bytes) (let d = bytes_eq-Decides (spelling read) bytes in d.0)

pub spelled_so : (bytes : List ℕ) → IfSome (spelled_key bytes) (λ key. spelling key ≡ bytes)
unfolding spelled_key
spelled_so bytes = spelled_there bytes (key_by_kind bytes)

pub ruleset key_laws = (spelled_key-spelling)
