-- A name is found, or no place has it.
use Rattle.std.proofs.Common.{◌≡◌, ◌≢◌, ℕ, ◌+◌, ◌*◌, ◌/◌, ◌-◌, ◌^◌, ◌<◌, ◌≤◌, Bool, true, false, Option, Some, None, List, ◌∷◌, ◌++◌, length, take, drop, set, Result, refl, ap, ap₂, sym, subst, ◌∙◌, arith}
use Rattle.std.specs.Int.{from_le_bytes, to_le_bytes, w32}
use Rattle.std.specs.Prelude.{◌%◌, slice_index, bytes_eq, replicate, is_none, is_some, Ok, Err, IfOk}
use Rattle.std.proofs.lemmas.Nat.{from_le_bytes-to_le_bytes_4}
use Rattle.std.proofs.lemmas.Slice.Eq.{bytes_eq-Decides}
use Rattle.std.proofs.lemmas.List.{take_all, take-append-le, length-drop}
use Rattle.kn_base.specs.Rows.{part_at}
use Rattle.kernel_tables.specs.declared.inode.Inode.{Inode}
use Rattle.kernel_tables.specs.Kernel.{Kernel}
use Rattle.unix_model.specs.declared.calls.Errno.TheVariants.{Enoent}
use Rattle.unix_model.specs.FileCalls.{entry_bytes}
use Rattle.unix_model.specs.Files.{Entry, inode_named, place_inode, with_place}
use Rattle.unix_model.specs.Refusals.{refuse◌unless◌}
use Rattle.unix_model.specs.Tables.{least_below}
use Rattle.kernel_machine.specs.Contents.{place_in, places_in}
use Rattle.kernel_machine.specs.Standing.{Standing}
use Rattle.kernel_machine.proofs.PagesHeld.{places-long}
use Rattle.file_trees.specs.Trees.{tree_memory, tree_page}
use Rattle.file_trees.proofs.Pages.{page_absent, zero_part}
use Rattle.dir_domain.specs.Changes.{ChangesPlaces, entry_of, name_told}
use Rattle.dir_domain.specs.Places.{numbered_place, has_name}
use Rattle.dir_domain.specs.Rows.{IsDirectoryRow, places_seen, bytes_stored}
use Rattle.dir_domain.proofs.FoundPlaces.{first-named, get-place, drop-here}
use Rattle.dir_domain.proofs.Searches.{place-here}
use Rattle.dir_domain.proofs.Seen.{places-are, tree-whole}

-- a name has at most the 27 bytes that are there
pub take-most : (bytes : List ℕ) (n : ℕ) → length bytes ≡ 32 → 27 ≤ n → take 27 (drop 5 bytes) ≡ take n (drop 5 bytes)
take-most bytes n long more =
    let rest : length (drop 5 bytes) ≡ 27 = omega (arith, length-drop 5 bytes) in
    take_all 27 (drop 5 bytes) (omega (arith, rest)) ∙ sym (take_all n (drop 5 bytes) (omega (arith, rest)))

-- a hole has no name, ..
pub hole-named : (bytes name : List ℕ) → bytes_eq bytes (replicate 32 0) ≡ true → None ≡ place_inode name (place_in bytes)
unfolding place_in
hole-named bytes name hole = rw hole refl

-- .. and of another place the names are compared
pub place-named : (bytes name : List ℕ) (n : ℕ) → bytes_eq bytes (replicate 32 0) ≡ false → take n (drop 5 bytes) ≡ take (slice_index bytes 4) (drop 5 bytes)
    → bytes_eq (take n (drop 5 bytes)) name ≡ true → Some (from_le_bytes w32 (part_at bytes 0 4)) ≡ place_inode name (place_in bytes)
unfolding place_in
place-named bytes name n some own same = rw (some, ← own, same) refl

pub place-other : (bytes name : List ℕ) (n : ℕ) → bytes_eq bytes (replicate 32 0) ≡ false → take n (drop 5 bytes) ≡ take (slice_index bytes 4) (drop 5 bytes)
    → bytes_eq (take n (drop 5 bytes)) name ≡ false → None ≡ place_inode name (place_in bytes)
unfolding place_in
place-other bytes name n some own other = rw (some, ← own, other) refl

-- the inode of a place that has a name
pub named-inode : (bytes name : List ℕ) → is_some (place_inode name (place_in bytes)) ≡ true → place_inode name (place_in bytes) ≡ Some (from_le_bytes w32 (part_at bytes 0 4))
unfolding place_in
named-inode bytes name e = go (bytes_eq bytes (replicate 32 0)) (bytes_eq (take (slice_index bytes 4) (drop 5 bytes)) name) refl refl e
  where
    go : (hole same : Bool) → bytes_eq bytes (replicate 32 0) ≡ hole → bytes_eq (take (slice_index bytes 4) (drop 5 bytes)) name ≡ same
        → is_some (place_inode name (place_in bytes)) ≡ true → place_inode name (place_in bytes) ≡ Some (from_le_bytes w32 (part_at bytes 0 4))
    go true same h s e = absurd (let no : false ≡ true = sym (ap is_some (sym (hole-named bytes name h))) ∙ e in cc)
    go false true h s e = rw (h, s) refl
    go false false h s e = absurd (let no : false ≡ true = (rw (h, s) at e) in cc)

module _ (kernel : Kernel) (dir : ℕ) (row : Inode) (standing : Standing kernel) (is : IsDirectoryRow kernel dir row) where
  -- a place of a directory, in its page
  pub place-there : (number : ℕ) (page_bytes : List ℕ) → number < row.length / 32 → page_bytes ≡ tree_page (tree_memory kernel row.root) (number / 128)
      → numbered_place (bytes_stored kernel row) number ≡ numbered_place page_bytes (number % 128)
  place-there number page_bytes below e =
      let split : number ≡ 128 * (number / 128) + number % 128 = omega arith in
      ap (numbered_place (bytes_stored kernel row)) split
      ∙ place-here (tree_memory kernel row.root) (tree-whole kernel row.root standing is.tree) row.length (number / 128) (number % 128) (omega arith) (omega arith)
      ∙ ap (λ bytes. numbered_place bytes (number % 128)) (sym e)

  pub found-below : (name : List ℕ) (number : ℕ) → Some number ≡ least_below (has_name name (bytes_stored kernel row)) (row.length / 32) → number < 1024
  found-below name number e = let first = first-named (bytes_stored kernel row) name (row.length / 32) number e in let inside = first.inside in let few = is.few in omega arith

  -- the inode of the first place with a name
  pub found-inode : (name page_bytes bytes : List ℕ) (number inode : ℕ) → Some number ≡ least_below (has_name name (bytes_stored kernel row)) (row.length / 32)
      → page_bytes ≡ tree_page (tree_memory kernel row.root) (number / 128) → bytes ≡ part_at page_bytes (32 * (number % 128)) 32 → inode ≡ from_le_bytes w32 (part_at bytes 0 4)
      → Some inode ≡ inode_named (places_in (bytes_stored kernel row) (row.length / 32)) name
  found-inode name page_bytes bytes number inode least e read is_inode =
      let first = first-named (bytes_stored kernel row) name (row.length / 32) number least in
      let here : numbered_place (bytes_stored kernel row) number ≡ place_in bytes = place-there number page_bytes first.inside e ∙ ap place_in (sym read) in
      let named : is_some (place_inode name (place_in bytes)) ≡ true = ap (λ place. is_some (place_inode name place)) (sym here) ∙ first.named in
      ap Some is_inode ∙ sym (named-inode bytes name named) ∙ ap (place_inode name) (sym here) ∙ sym first.found

  -- the places that are seen from one on
  pub next-place : (number : ℕ) (page_bytes bytes : List ℕ) → number < row.length / 32 → page_bytes ≡ tree_page (tree_memory kernel row.root) (number / 128)
      → bytes ≡ part_at page_bytes (32 * (number % 128)) 32 → drop number (places_seen kernel dir) ≡ place_in bytes ∷ drop (number + 1) (places_seen kernel dir)
  next-place number page_bytes bytes below e read =
      let places = places_in (bytes_stored kernel row) (row.length / 32) in
      ap (drop number) (places-are kernel dir row is)
      ∙ drop-here places number None (omega (arith, places-long (bytes_stored kernel row) (row.length / 32)))
      ∙ ap₂ (λ place rest. place ∷ rest)
      (get-place (bytes_stored kernel row) (row.length / 32) number below ∙ place-there number page_bytes below e ∙ ap place_in (sym read))
      (ap (drop (number + 1)) (sym (places-are kernel dir row is)))

-- a directory has as many places as its row says
pub places-count : (kernel : Kernel) (dir : ℕ) (row : Inode) → IsDirectoryRow kernel dir row → length (places_seen kernel dir) ≡ row.length / 32
places-count kernel dir row is = ap length (places-are kernel dir row is) ∙ places-long (bytes_stored kernel row) (row.length / 32)

-- where a place has a name, the directory has a tree
pub named-tree : (kernel : Kernel) (dir number : ℕ) (row : Inode) (name : List ℕ) → Standing kernel → IsDirectoryRow kernel dir row → number < row.length / 32
    → is_some (place_inode name (numbered_place (bytes_stored kernel row) number)) ≡ true → row.root ≢ 0
unfolding place_in
named-tree kernel dir number row name standing is below named none =
    let split : number ≡ 128 * (number / 128) + number % 128 = omega arith in
    let here : numbered_place (bytes_stored kernel row) number ≡ numbered_place (tree_page (tree_memory kernel row.root) (number / 128)) (number % 128) =
    ap (numbered_place (bytes_stored kernel row)) split
    ∙ place-here (tree_memory kernel row.root) (tree-whole kernel row.root standing is.tree) row.length (number / 128) (number % 128) (omega arith) (omega arith)
    in
    let zeros : part_at (tree_page (tree_memory kernel row.root) (number / 128)) (32 * (number % 128)) 32 ≡ replicate 32 0 =
    ap (λ page. part_at page (32 * (number % 128)) 32) (page_absent kernel row.root (number / 128) none) ∙ zero_part (32 * (number % 128)) 32 (omega arith)
    in
    let no : false ≡ true = sym (ap (λ place. is_some (place_inode name place)) (here ∙ ap place_in zeros)) ∙ named in
    cc

-- an entry's bytes are its place
pub entry-place : (name : List ℕ) (inode : ℕ) → 1 ≤ length name → length name ≤ 27 → inode < 2 ^ 32 → place_in (entry_bytes (entry_of name inode)) ≡ Some (entry_of name inode)
unfolding place_in entry_bytes
entry-place name inode some few fits =
    let zeros : bytes_eq (entry_bytes (entry_of name inode)) (replicate 32 0) ≡ false = other (bytes_eq (entry_bytes (entry_of name inode)) (replicate 32 0)) refl in
    let number : from_le_bytes w32 (to_le_bytes w32 inode) ≡ inode = from_le_bytes-to_le_bytes_4 inode fits in
    let own : take (length name) (name ++ replicate (27 - length name) 0) ≡ name =
    take-append-le (length name) name (replicate (27 - length name) 0) (omega arith) ∙ take_all (length name) name (omega arith)
    in
    rw (zeros, number, own) refl
  where
    other : (same : Bool) → bytes_eq (entry_bytes (entry_of name inode)) (replicate 32 0) ≡ same → bytes_eq (entry_bytes (entry_of name inode)) (replicate 32 0) ≡ false
    other false e = e
    other true e =
        let all : entry_bytes (entry_of name inode) ≡ replicate 32 0 = (bytes_eq-Decides (entry_bytes (entry_of name inode)) (replicate 32 0)).0 e in
        let none : length name ≡ 0 = ap (λ bytes. slice_index bytes 4) all in
        absurd (omega arith)

-- what is told of a name that was found, or wasn't
pub found-told : (places : List (Option Entry)) (name : List ℕ) (inode : ℕ) → Some inode ≡ inode_named places name → Ok inode ≡ name_told places name
found-told places name inode e = ap (λ (found : Option ℕ). refuse Enoent unless found) e

pub none-told : (places : List (Option Entry)) (name : List ℕ) → None ≡ inode_named places name → Err Enoent ≡ name_told places name
none-told places name e = ap (λ (found : Option ℕ). refuse Enoent unless found) e

-- a place of zeros is a hole
pub hole-place : place_in (replicate 32 0) ≡ None
unfolding place_in
hole-place = refl

-- the places in which the first one with a name is another one
pub place-changed : (kernel : Kernel) (dir number : ℕ) (row : Inode) (name : List ℕ) (bytes : List ℕ) (place : Option Entry) → IsDirectoryRow kernel dir row
    → Some number ≡ least_below (has_name name (bytes_stored kernel row)) (row.length / 32) → place_in bytes ≡ place
    → set (places_seen kernel dir) number (place_in bytes) ≡ with_place (places_seen kernel dir) name place
place-changed kernel dir number row name bytes place is least e =
    let first = first-named (bytes_stored kernel row) name (row.length / 32) number least in
    ap₂ (λ places p. set places number p) (places-are kernel dir row is) e ∙ sym (first.set place) ∙ ap (λ places. with_place places name place) (sym (places-are kernel dir row is))

-- the test of a hole
pub hole-test : (bytes : List ℕ) → bytes_eq bytes (replicate 32 0) ≡ is_none (place_in bytes)
unfolding place_in
hole-test bytes = go (bytes_eq bytes (replicate 32 0)) refl
  where
    go : (hole : Bool) → bytes_eq bytes (replicate 32 0) ≡ hole → bytes_eq bytes (replicate 32 0) ≡ is_none (place_in bytes)
    go true e = rw e refl
    go false e = rw e refl

-- the place of an entry's bytes
pub entry-put : (name : List ℕ) (inode : ℕ) (bytes : List ℕ) → bytes ≡ entry_bytes (entry_of name inode) → 1 ≤ length name → length name ≤ 27 → inode < 2 ^ 32 → place_in bytes ≡ Some (entry_of name inode)
entry-put name inode bytes is some few fits = ap place_in is ∙ entry-place name inode some few fits

-- a place that was put may be told in another way
pub put-told : {E : Type 0} (old new : Kernel) (dir : ℕ) (name : List ℕ) (place told : Option Entry) (result : Result ℕ E) → place ≡ told
    → IfOk result (λ inode. ChangesPlaces old new dir (with_place (places_seen old dir) name place)) → IfOk result (λ inode. ChangesPlaces old new dir (with_place (places_seen old dir) name told))
put-told old new dir name place told result is changed = subst (λ (p : Option Entry). IfOk result (λ inode. ChangesPlaces old new dir (with_place (places_seen old dir) name p))) is changed
