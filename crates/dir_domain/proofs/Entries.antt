-- The bytes of entries, and the places that are listed, one at a time.
use Rattle.std.proofs.Common.{◌≡◌, ℕ, zero, suc, ◌+◌, ◌-◌, ◌/◌, ◌≤◌, true, false, Option, Some, None, List, [], ◌∷◌, ◌++◌, length, take, drop, set, replicate, refl, ap, sym, ◌∙◌, arith, append-nil, append_assoc, add-zero, ⊎_elim, ◌⊎◌}
use Rattle.std.specs.Int.{from_le_bytes, to_le_bytes, w32}
use Rattle.std.specs.Prelude.{bytes_eq, option_map, slice_index}
use Rattle.std.proofs.lemmas.List.{drop_all, drop-replicate, length-take-le}
use Rattle.std.proofs.lemmas.Slice.{take-put_mid, drop-put_mid}
use borrow.Rule.Slice.PartMut.{put_mid}
use Rattle.std.proofs.Math.Seq.{drop-drop}
use Rattle.kn_base.specs.Rows.{part_at}
use Rattle.kn_base.proofs.RowLaws.{length-part_at}
use Rattle.unix_model.specs.FileCalls.{entry_bytes, listed_bytes, looked_at}
use Rattle.unix_model.specs.Files.{Entry}
use Rattle.kernel_machine.specs.Contents.{place_in}
use Rattle.dir_domain.specs.Listing.{Lists}

-- ---- an entry's bytes

pub entry-spelled : (inode k : ℕ) (word own name : List ℕ) → word ≡ to_le_bytes w32 inode → own ≡ name → k ≡ length name
    → put_mid 5 k (set (word ++ replicate 28 0) 4 (length name)) own ≡ entry_bytes (record { name = name; inode = inode })
unfolding entry_bytes
entry-spelled inode k word own name w o e =
    rw (w, o)
    (ap (λ rest. to_le_bytes w32 inode ++ length name ∷ (name ++ rest)) (behind (length name) k e))
  where
    behind : (n k : ℕ) → k ≡ n → drop k (drop 5 (set (to_le_bytes w32 inode ++ replicate 28 0) 4 n)) ≡ replicate (27 - n) 0
    behind n k e = drop-replicate k 27 0 ∙ ap (λ i. replicate (27 - i) 0) e

-- no entry stands in a hole, ..
pub hole-listed : (bytes : List ℕ) → bytes_eq bytes (replicate 32 0) ≡ true → None ≡ option_map entry_bytes (place_in bytes)
unfolding place_in
hole-listed bytes hole = rw hole refl

-- .. and in another place the one of its bytes
pub place-listed : (bytes entry : List ℕ) (n inode : ℕ) → bytes_eq bytes (replicate 32 0) ≡ false → take n (drop 5 bytes) ≡ take (slice_index bytes 4) (drop 5 bytes)
    → inode ≡ from_le_bytes w32 (part_at bytes 0 4) → entry ≡ entry_bytes (record { name = take n (drop 5 bytes); inode = inode })
    → Some entry ≡ option_map entry_bytes (place_in bytes)
unfolding place_in
place-listed bytes entry n inode some own number e = rw (some, ← own, ← number) (ap Some e)

-- ---- places one by one

pub listed-none : (left : ℕ) (place : Option Entry) (rest : List (Option Entry)) → None ≡ option_map entry_bytes place → 1 ≤ left → listed_bytes left (place ∷ rest) ≡ listed_bytes left rest
listed-none zero place rest e room = absurd (omega arith)
listed-none (suc left) None rest e room = refl
listed-none (suc left) (Some entry) rest e room = absurd (cc)

pub looked-none : (left : ℕ) (place : Option Entry) (rest : List (Option Entry)) → None ≡ option_map entry_bytes place → 1 ≤ left → looked_at left (place ∷ rest) ≡ looked_at left rest + 1
looked-none zero place rest e room = absurd (omega arith)
looked-none (suc left) None rest e room = refl
looked-none (suc left) (Some entry) rest e room = absurd (cc)

pub listed-some : (left : ℕ) (place : Option Entry) (bytes : List ℕ) (rest : List (Option Entry)) → Some bytes ≡ option_map entry_bytes place → 1 ≤ left
    → listed_bytes left (place ∷ rest) ≡ bytes ++ listed_bytes (left - 1) rest
listed-some zero place bytes rest e room = absurd (omega arith)
listed-some (suc left) None bytes rest e room = absurd (cc)
listed-some (suc left) (Some entry) bytes rest e room =
    let less : suc left - 1 ≡ left = omega arith in
    let same : bytes ≡ entry_bytes entry = cc in
    rw (less, same) refl

pub looked-some : (left : ℕ) (place : Option Entry) (bytes : List ℕ) (rest : List (Option Entry)) → Some bytes ≡ option_map entry_bytes place → 1 ≤ left
    → looked_at left (place ∷ rest) ≡ looked_at (left - 1) rest + 1
looked-some zero place bytes rest e room = absurd (omega arith)
looked-some (suc left) None bytes rest e room = absurd (cc)
looked-some (suc left) (Some entry) bytes rest e room =
    let less : suc left - 1 ≡ left = omega arith in
    rw less refl

pub listed-end : (left : ℕ) → listed_bytes left [] ≡ []
listed-end zero = refl
listed-end (suc left) = refl

pub looked-end : (left : ℕ) → looked_at left [] ≡ 0
looked-end zero = refl
looked-end (suc left) = refl

-- an entry was written behind the bytes so far
pub written-more : (old entry new : List ℕ) (done k left : ℕ) (place : Option Entry) (rest : List (Option Entry)) → new ≡ entry → length new ≡ length (part_at old done k) → k ≡ 32 → done + 32 ≤ length old
    → Some entry ≡ option_map entry_bytes place → 1 ≤ left
    → take (done + 32) (put_mid done k old new) ++ listed_bytes (left - 1) rest ≡ take done old ++ listed_bytes left (place ∷ rest)
written-more old entry new done k left place rest is long e fits here room =
    let size : length new ≡ k = long ∙ length-part_at old done k (omega arith) in
    ap (λ front. front ++ listed_bytes (left - 1) rest) (take-put_mid done k old new (done + 32) (omega arith) (omega arith))
    ∙ append_assoc (take done old) new (listed_bytes (left - 1) rest)
    ∙ ap (λ back. take done old ++ back) (ap (λ front. front ++ listed_bytes (left - 1) rest) is ∙ sym (listed-some left place entry rest here room))

pub behind-more : (old new : List ℕ) (done k : ℕ) → length new ≡ length (part_at old done k) → k ≡ 32 → done + 32 ≤ length old → drop (done + 32) (put_mid done k old new) ≡ drop (done + 32) old
behind-more old new done k long e fits =
    drop-put_mid done k old new (done + 32) (omega arith) (omega arith) (long ∙ length-part_at old done k (omega arith))

-- what is the same from a place on is the same from any later one on
pub drop-later : (xs ys : List ℕ) (n m : ℕ) → n ≤ m → drop n xs ≡ drop n ys → drop m xs ≡ drop m ys
drop-later xs ys n m order e =
    let sum : n + (m - n) ≡ m = omega arith in
    ap (λ k. drop k xs) (sym sum) ∙ sym (drop-drop (m - n) n xs) ∙ ap (drop (m - n)) e ∙ drop-drop (m - n) n ys ∙ ap (λ k. drop k ys) sum

-- ---- all

-- nothing is listed from the end on
pub lists-none : (places : List (Option Entry)) (place : ℕ) (into : List ℕ) → length places ≤ place → Lists places place into into 0 place
lists-none places place into past =
    let gone : drop place places ≡ [] = drop_all place places past in
    let most = length into / 32 in
    record {
      bytes = sym (ap (listed_bytes most) gone ∙ listed-end most);
      count = sym (ap (λ rest. length (listed_bytes most rest)) gone ∙ ap length (listed-end most));
      rest = refl;
      looked = sym (ap (λ rest. place + looked_at most rest) gone ∙ ap (λ n. place + n) (looked-end most) ∙ add-zero place);
    }

-- what was written, where nothing is left to look at
pub lists-all : (places : List (Option Entry)) (place next done left : ℕ) (old new : List ℕ) → ((length places ≤ next) ⊎ (left ≡ 0)) → done ≤ length new
    → take done new ++ listed_bytes left (drop next places) ≡ listed_bytes (length old / 32) (drop place places)
    → next + looked_at left (drop next places) ≡ place + looked_at (length old / 32) (drop place places)
    → drop done new ≡ drop done old → Lists places place old new done next
lists-all places place next done left old new over fits bytes looked behind =
    let none : listed_bytes left (drop next places) ≡ [] = ⊎_elim
    (λ (t : length places ≤ next). ap (listed_bytes left) (drop_all next places t) ∙ listed-end left)
    (λ (t : left ≡ 0). ap (λ n. listed_bytes n (drop next places)) t)
    over in
    let still : looked_at left (drop next places) ≡ 0 = ⊎_elim
    (λ (t : length places ≤ next). ap (looked_at left) (drop_all next places t) ∙ looked-end left)
    (λ (t : left ≡ 0). ap (λ n. looked_at n (drop next places)) t)
    over in
    let all : take done new ≡ listed_bytes (length old / 32) (drop place places) = sym (append-nil (take done new)) ∙ ap (λ more. take done new ++ more) (sym none) ∙ bytes in
    record {
      bytes = all;
      count = sym (length-take-le done new fits) ∙ ap length all;
      rest = behind;
      looked = omega (arith, still, looked);
    }
