-- What a written part leaves of a list, and what a written row leaves of a table.
use Rattle.std.proofs.Common.{◌≡◌, ◌≢◌, ℕ, ◌+◌, ◌-◌, ◌*◌, ◌/◌, ◌%◌, ◌<◌, ◌≤◌, zero, suc, List, [], ◌∷◌, ◌++◌, length, take, drop, map, get_or, set, refl, ap, sym, ◌∙◌, arith, rules, zero-add, add-zero, ⊎_elim, ◌⊎◌}
use Rattle.std.proofs.Math.Nat.{mul-le-mul_left, mul-suc, mul-zero, zero-mul, mul_comm, div-add-mod, mod-lt}
use Rattle.std.proofs.Math.Seq.{take-set-lt}
use Rattle.std.proofs.lemmas.List.{places, same_lists, length-set, length-take, length-drop, length-append, get_or-set_same, get_or-set_other, get_or-take, get_or-drop, get_or-append_right, get_or_append_left, set-append_left, set-append_right, drop-set-add, drop-set-lt, take-set-le, append-nil, take-append-drop, length_push, get_or_push, length-replicate, replicate_more, take_more}
use Rattle.std.proofs.lemmas.List.FromFn.{length-map-range_with_len, get_or-map-range_with_len}
use Rattle.std.proofs.lemmas.Bool.{cases_lt, cases_eq}
use Rattle.kn_base.specs.Rows.{part_at, overwritten, rows, table, table_at}

pub length-overwritten : {X : Type 0} (xs : List X) (place : ℕ) (part : List X) → place + length part ≤ length xs → length (overwritten xs place part) ≡ length xs
unfolding overwritten
length-overwritten xs place part h = search (rules, places)

-- an element of the part, before it and behind it
pub get_or-overwritten_in : {X : Type 0} (xs : List X) (place : ℕ) (part : List X) (k : ℕ) (d : X) → place + length part ≤ length xs → place ≤ k → k < place + length part → get_or (overwritten xs place part) k d ≡ get_or part (k - place) d
unfolding overwritten
get_or-overwritten_in xs place part k d h low high = grind (arith, places)

pub get_or-overwritten_below : {X : Type 0} (xs : List X) (place : ℕ) (part : List X) (k : ℕ) (d : X) → place + length part ≤ length xs → k < place → get_or (overwritten xs place part) k d ≡ get_or xs k d
unfolding overwritten
get_or-overwritten_below xs place part k d h below = grind (arith, places)

pub get_or-overwritten_above : {X : Type 0} (xs : List X) (place : ℕ) (part : List X) (k : ℕ) (d : X) → place + length part ≤ length xs → place + length part ≤ k → get_or (overwritten xs place part) k d ≡ get_or xs k d
unfolding overwritten
get_or-overwritten_above xs place part k d h above = grind (arith, places)

-- what is read where it was written, below it and above it
pub part_at-overwritten : {X : Type 0} (xs : List X) (place : ℕ) (part : List X) (n : ℕ) → length part ≡ n → place + n ≤ length xs → part_at (overwritten xs place part) place n ≡ part
unfolding overwritten
part_at-overwritten xs place part n e h = same_lists _ _ (search (rules, places)) (λ k d l. grind (arith, places))

pub part_at-overwritten_below : {X : Type 0} (xs : List X) (place : ℕ) (part : List X) (from n : ℕ) → place + length part ≤ length xs → from + n ≤ place → part_at (overwritten xs place part) from n ≡ part_at xs from n
unfolding overwritten
part_at-overwritten_below xs place part from n h below = same_lists _ _ (search (rules, places)) (λ k d l. grind (arith, places))

pub part_at-overwritten_above : {X : Type 0} (xs : List X) (place : ℕ) (part : List X) (from n : ℕ) → place + length part ≤ length xs → place + length part ≤ from → part_at (overwritten xs place part) from n ≡ part_at xs from n
unfolding overwritten
part_at-overwritten_above xs place part from n h above = same_lists _ _ (search (rules, places)) (λ k d l. grind (arith, places))

pub length-part_at : {X : Type 0} (xs : List X) (place n : ℕ) → place + n ≤ length xs → length (part_at xs place n) ≡ n
length-part_at xs place n h = grind (arith, places)

pub part_at-more : {X : Type 0} (xs : List X) (place n : ℕ) (x d : X) → place + n < length xs → get_or xs (place + n) d ≡ x → part_at xs place n ++ x ∷ [] ≡ part_at xs place (n + 1)
part_at-more xs place n x d h read =
    sym
    (take_more (drop place xs) n d (omega (arith, length-drop place xs))
    ∙ ap (λ y. take n (drop place xs) ++ y ∷ []) (get_or-drop place xs n d ∙ read))

-- a part of no elements, and a part that grows at its end
pub overwritten-none : {X : Type 0} (xs : List X) (place : ℕ) → overwritten xs place [] ≡ xs
unfolding overwritten
overwritten-none xs place = rw (append-nil, add-zero) (take-append-drop place xs)

pub overwritten-more : {X : Type 0} (xs : List X) (place : ℕ) (part : List X) (x : X) (next : ℕ) → place + length part ≡ next → next < length xs → set (overwritten xs place part) next x ≡ overwritten xs place (part ++ x ∷ [])
unfolding overwritten
overwritten-more xs place part x next e h =
    same_lists _ _ (search (rules, places)) (λ k d l. grind (arith, places, get_or-set_same, cases_eq k next))

pub overwritten-one : {X : Type 0} (xs : List X) (place : ℕ) (x : X) → place < length xs → overwritten xs place (x ∷ []) ≡ set xs place x
unfolding overwritten
overwritten-one xs place x h =
    same_lists _ _ (search (rules, places)) (λ k d l. grind (arith, places, get_or-set_same, cases_eq k place))

-- a table has so many rows for each page
pub length-rows : {X : Type 0} (decode : List ℕ → X) (size count : ℕ) (page : List ℕ) → length (rows decode size count page) ≡ count
unfolding rows
length-rows decode size count page = length-map-range_with_len (λ row. decode (part_at page (size * row) size)) 0 count

pub get_or-rows : {X : Type 0} (decode : List ℕ → X) (size count : ℕ) (page : List ℕ) (row : ℕ) (d : X) → row < count → get_or (rows decode size count page) row d ≡ decode (part_at page (size * row) size)
unfolding rows
get_or-rows decode size count page row d h = get_or-map-range_with_len (λ row. decode (part_at page (size * row) size)) 0 count row row d h (zero-add row)

-- a row that begins before another one ends before it
row_before : (size j k : ℕ) → j < k → size * j + size ≤ size * k
row_before size j k h =
    let next : j + 1 ≤ k = omega arith in omega (arith, mul-le-mul_left {m = j + 1} {n = k} size next)

-- where a row is read that another row was written beside
part_at-other_row : (size count : ℕ) (page : List ℕ) (row : ℕ) (part : List ℕ) (k : ℕ) → row < count → k < count → size * count ≤ length page → length part ≡ size → k ≢ row → part_at (overwritten page (size * row) part) (size * k) size ≡ part_at page (size * k) size
part_at-other_row size count page row part k h l fits e other =
    let inside : size * row + length part ≤ length page = omega (arith, row_before size row count h) in
    ⊎_elim
    (λ below. part_at-overwritten_below page (size * row) part (size * k) size inside (row_before size k row below))
    (λ above.
    let behind : row < k = omega arith in
    part_at-overwritten_above page (size * row) part (size * k) size inside
    (omega (arith, row_before size row k behind)))
    (cases_lt k row)

-- a page in which a row is written
rows-overwritten : {X : Type 0} (decode : List ℕ → X) (size count : ℕ) (page : List ℕ) (row : ℕ) (part : List ℕ) → row < count → size * count ≤ length page → length part ≡ size → rows decode size count (overwritten page (size * row) part) ≡ set (rows decode size count page) row (decode part)
rows-overwritten decode size count page row part h fits e =
    let inside : size * row + size ≤ length page = omega (arith, row_before size row count h) in
    same_lists _ _
    (length-rows decode size count (overwritten page (size * row) part)
    ∙ sym (length-set (rows decode size count page) row (decode part) ∙ length-rows decode size count page))
    (λ k d l.
    let within : k < count = omega (arith, length-rows decode size count (overwritten page (size * row) part)) in
    let read = get_or-rows decode size count (overwritten page (size * row) part) k d within in
    ⊎_elim
    (λ (same : k ≡ row).
    rw same
    (get_or-rows decode size count (overwritten page (size * row) part) row d h
    ∙ ap decode (part_at-overwritten page (size * row) part size e inside)
    ∙ sym
    (get_or-set_same (rows decode size count page) row (decode part) d
    (omega (arith, length-rows decode size count page)))))
    (λ (other : k ≢ row).
    read
    ∙ ap decode (part_at-other_row size count page row part k h within fits e other)
    ∙ sym
    (get_or-set_other (rows decode size count page) row k (decode part) d other
    ∙ get_or-rows decode size count page k d within))
    (cases_eq k row))

-- how many rows a table has
pub length-table : {X : Type 0} (decode : List ℕ → X) (size per_page : ℕ) (pages : List (List ℕ)) → length (table decode size per_page pages) ≡ per_page * length pages
unfolding table
length-table decode size per_page [] = sym (mul-zero per_page)
length-table decode size per_page (page ∷ pages) =
    omega (
      arith,
      length-append (rows decode size per_page page) (table decode size per_page pages),
      length-rows decode size per_page page,
      length-table decode size per_page pages,
      mul-suc per_page (length pages),
    )

-- the row of a table at a row of a page
get_or-table : {X : Type 0} (decode : List ℕ → X) (size per_page : ℕ) (pages : List (List ℕ)) (page row n : ℕ) (d : X) → page < length pages → row < per_page → per_page * page + row ≡ n → get_or (table decode size per_page pages) n d ≡ decode (part_at (get_or pages page []) (size * row) size)
unfolding table
get_or-table decode size per_page [] page row n d h l e = absurd (omega arith)
get_or-table decode size per_page (first ∷ pages) zero row n d h l e =
    let same : n ≡ row = omega (arith, mul-zero per_page) in
    rw same
    (get_or_append_left (rows decode size per_page first) (table decode size per_page pages) d row
    (omega (arith, length-rows decode size per_page first))
    ∙ get_or-rows decode size per_page first row d l)
get_or-table decode size per_page (first ∷ pages) (suc page) row n d h l e =
    let after : per_page ≤ n = omega (arith, mul-suc per_page page) in
    get_or-append_right (rows decode size per_page first) (table decode size per_page pages) per_page n d
    (length-rows decode size per_page first) after
    ∙ get_or-table decode size per_page pages page row (n - per_page) d (omega arith) l
    (omega (arith, mul-suc per_page page))

-- a table in one of whose pages a row was written
table-set : {X : Type 0} (decode : List ℕ → X) (size per_page : ℕ) (pages : List (List ℕ)) (page row n : ℕ) (new : List ℕ) (x : X) → page < length pages → row < per_page → per_page * page + row ≡ n → rows decode size per_page new ≡ set (rows decode size per_page (get_or pages page [])) row x → table decode size per_page (set pages page new) ≡ set (table decode size per_page pages) n x
unfolding table
table-set decode size per_page [] page row n new x h l e w = absurd (omega arith)
table-set decode size per_page (first ∷ pages) zero row n new x h l e w =
    let same : n ≡ row = omega (arith, mul-zero per_page) in
    rw same
    (ap (λ written. written ++ table decode size per_page pages) w
    ∙ sym
    (set-append_left (rows decode size per_page first) (table decode size per_page pages) row x
    (omega (arith, length-rows decode size per_page first))))
table-set decode size per_page (first ∷ pages) (suc page) row n new x h l e w =
    let after : per_page ≤ n = omega (arith, mul-suc per_page page) in
    ap (λ rest. rows decode size per_page first ++ rest)
    (table-set decode size per_page pages page row (n - per_page) new x (omega arith) l
    (omega (arith, mul-suc per_page page)) w)
    ∙ sym
    (set-append_right (rows decode size per_page first) (table decode size per_page pages) per_page n x
    (length-rows decode size per_page first) after)

-- a page written among others: inside the part that a table lies in, before it, and behind it
pub part_at-set : {X : Type 0} (xs : List X) (first count k : ℕ) (x : X) → first ≤ k → k < first + count → part_at (set xs k x) first count ≡ set (part_at xs first count) (k - first) x
part_at-set xs first count k x low high =
    let place : k ≡ first + (k - first) = omega arith in
    ap (λ j. take count (drop first (set xs j x))) place
    ∙ ap (take count) (drop-set-add first xs (k - first) x)
    ∙ take-set-lt count (drop first xs) (k - first) x (omega arith)

pub part_at-set_below : {X : Type 0} (xs : List X) (first count k : ℕ) (x : X) → k < first → part_at (set xs k x) first count ≡ part_at xs first count
part_at-set_below xs first count k x below = ap (take count) (drop-set-lt first xs k x below)

pub part_at-set_above : {X : Type 0} (xs : List X) (first count k : ℕ) (x : X) → first + count ≤ k → part_at (set xs k x) first count ≡ part_at xs first count
part_at-set_above xs first count k x above =
    let place : k ≡ first + (k - first) = omega arith in
    ap (λ j. take count (drop first (set xs j x))) place
    ∙ ap (take count) (drop-set-add first xs (k - first) x)
    ∙ take-set-le count (drop first xs) (k - first) x (omega arith)

pub get_or-part_at : {X : Type 0} (xs : List X) (first count k : ℕ) (d : X) → first ≤ k → k < first + count → get_or (part_at xs first count) (k - first) d ≡ get_or xs k d
get_or-part_at xs first count k d low high =
    let place : first + (k - first) ≡ k = omega arith in
    get_or-take count (drop first xs) (k - first) d (omega arith)
    ∙ get_or-drop first xs (k - first) d
    ∙ ap (λ j. get_or xs j d) place

-- the factors of a number above zero
positive_factor : (size per_page whole : ℕ) → size * per_page ≡ whole → 0 < whole → 0 < size
positive_factor zero per_page whole e h = absurd (omega (arith, zero-mul per_page))
positive_factor (suc size) per_page whole e h = omega arith

-- Row n of a table begins at byte size * n of its pages: where that is in which page.
record RowPlace (size per_page page at n : ℕ) : Type 0 where
  row : ℕ
  in_page : row < per_page
  in_table : per_page * page + row ≡ n
  begins : size * row ≡ at

row_place : (size per_page whole page at n : ℕ) → size * per_page ≡ whole → at < whole → size * n ≡ whole * page + at → RowPlace size per_page page at n
row_place size per_page whole page at n e h p =
    let positive : 0 < size = positive_factor size per_page whole e (omega arith) in
    let pages_before : size * per_page * page ≡ whole * page = ap (λ w. w * page) e in
    let low : per_page * page ≤ n =
    ⊎_elim
    (λ (short : n < per_page * page). absurd (omega (arith, row_before size n (per_page * page) short)))
    (λ (enough : per_page * page ≤ n). enough)
    (cases_lt n (per_page * page))
    in
    let whole_row : per_page * page + (n - per_page * page) ≡ n = omega arith in
    let bytes : size * (per_page * page + (n - per_page * page)) ≡ size * n = ap (λ k. size * k) whole_row in
    let begins : size * (n - per_page * page) ≡ at = omega arith in
    record {
      row = n - per_page * page;
      in_page =
          ⊎_elim
          (λ (inside : n - per_page * page < per_page). inside)
          (λ (past : per_page ≤ n - per_page * page).
          absurd (omega (arith, mul-le-mul_left {m = per_page} {n = n - per_page * page} size past)))
          (cases_lt (n - per_page * page) per_page);
      in_table = whole_row;
      begins = begins;
    }

-- The row that is read at byte `at` of a page, and the table after a row was written there.
pub table-read : {X : Type 0} (decode : List ℕ → X) (size per_page : ℕ) (pages : List (List ℕ)) (page at n : ℕ) (d : X) → size * per_page ≡ 4096 → page < length pages → at < 4096 → size * n ≡ 4096 * page + at → get_or (table decode size per_page pages) n d ≡ decode (part_at (get_or pages page []) at size)
table-read decode size per_page pages page at n d whole in_pages in_page place =
    let r : RowPlace size per_page page at n = row_place size per_page 4096 page at n whole in_page place in
    get_or-table decode size per_page pages page r.row n d in_pages r.in_page r.in_table
    ∙ ap (λ begin. decode (part_at (get_or pages page []) begin size)) r.begins

pub table-written : {X : Type 0} (decode : List ℕ → X) (size per_page : ℕ) (pages : List (List ℕ)) (page at n : ℕ) (part : List ℕ) (x : X) → size * per_page ≡ 4096 → page < length pages → length (get_or pages page []) ≡ 4096 → at < 4096 → size * n ≡ 4096 * page + at → length part ≡ size → decode part ≡ x → table decode size per_page (set pages page (overwritten (get_or pages page []) at part)) ≡ set (table decode size per_page pages) n x
table-written decode size per_page pages page at n part x whole in_pages size_of_page in_page place size_of_part spelled =
    let r : RowPlace size per_page page at n = row_place size per_page 4096 page at n whole in_page place in
    table-set decode size per_page pages page r.row n (overwritten (get_or pages page []) at part) x in_pages r.in_page
    r.in_table
    (ap (λ begin. rows decode size per_page (overwritten (get_or pages page []) begin part)) (sym r.begins)
    ∙ rows-overwritten decode size per_page (get_or pages page []) r.row part r.in_page (omega arith) size_of_part
    ∙ ap (set (rows decode size per_page (get_or pages page [])) r.row) spelled)

-- The same where the table begins at a page of a store and has so many pages.
pub length-table_at : {X : Type 0} (decode : List ℕ → X) (size per_page first count : ℕ) (pages : List (List ℕ)) → first + count ≤ length pages → length (table_at decode size per_page first count pages) ≡ per_page * count
unfolding table_at
length-table_at decode size per_page first count pages h =
    length-table decode size per_page (part_at pages first count)
    ∙ ap (λ n. per_page * n) (length-part_at pages first count h)

pub table_at-read : {X : Type 0} (decode : List ℕ → X) (size per_page first count : ℕ) (pages : List (List ℕ)) (page at n : ℕ) (d : X) → size * per_page ≡ 4096 → first ≤ page → page < first + count → first + count ≤ length pages → at < 4096 → size * n ≡ 4096 * (page - first) + at → get_or (table_at decode size per_page first count pages) n d ≡ decode (part_at (get_or pages page []) at size)
unfolding table_at
table_at-read decode size per_page first count pages page at n d whole low high in_pages in_page place =
    table-read decode size per_page (part_at pages first count) (page - first) at n d whole
    (omega (arith, length-part_at pages first count in_pages)) in_page place
    ∙ ap (λ bytes. decode (part_at bytes at size)) (get_or-part_at pages first count page [] low high)

pub table_at-written : {X : Type 0} (decode : List ℕ → X) (size per_page first count : ℕ) (pages : List (List ℕ)) (page at n : ℕ) (part : List ℕ) (x : X) → size * per_page ≡ 4096 → first ≤ page → page < first + count → first + count ≤ length pages → length (get_or pages page []) ≡ 4096 → at < 4096 → size * n ≡ 4096 * (page - first) + at → length part ≡ size → decode part ≡ x → table_at decode size per_page first count (set pages page (overwritten (get_or pages page []) at part)) ≡ set (table_at decode size per_page first count pages) n x
unfolding table_at
table_at-written decode size per_page first count pages page at n part x whole low high in_pages size_of_page in_page place size_of_part spelled =
    let bytes = get_or-part_at pages first count page [] low high in
    ap (table decode size per_page)
    (part_at-set pages first count page (overwritten (get_or pages page []) at part) low high
    ∙ ap (λ old. set (part_at pages first count) (page - first) (overwritten old at part)) (sym bytes))
    ∙ table-written decode size per_page (part_at pages first count) (page - first) at n part x whole
    (omega (arith, length-part_at pages first count in_pages)) (ap length bytes ∙ size_of_page) in_page place size_of_part
    spelled

-- Row n where each page but the last is full: its page and its byte from its number.
pub table_at-row : {X : Type 0} (decode : List ℕ → X) (size per_page first count : ℕ) (pages : List (List ℕ)) (n : ℕ) (d : X) → size * per_page ≡ 4096 → n < per_page * count → first + count ≤ length pages → get_or (table_at decode size per_page first count pages) n d ≡ decode (part_at (get_or pages (first + n / per_page) []) (size * (n % per_page)) size)
table_at-row decode size per_page first count pages n d whole inside in_pages =
    let positive : 0 < per_page =
    positive_factor per_page size 4096 (mul_comm per_page size ∙ whole) (omega arith)
    in
    let split : per_page * (n / per_page) + n % per_page ≡ n = div-add-mod n per_page in
    let short : n % per_page < per_page = mod-lt n {m = per_page} positive in
    let in_page : size * (n % per_page) + size ≤ size * per_page = row_before size (n % per_page) per_page short in
    let some : 0 < size = positive_factor size per_page 4096 whole (omega arith) in
    let page : n / per_page < count =
    ⊎_elim (λ (before : n / per_page < count). before)
    (λ (past : count ≤ n / per_page).
    absurd (omega (arith, mul-le-mul_left {m = count} {n = n / per_page} per_page past)))
    (cases_lt (n / per_page) count)
    in
    let bytes : size * (per_page * (n / per_page) + n % per_page) ≡ size * n = ap (λ k. size * k) split in
    let whole_pages : size * per_page * (n / per_page) ≡ 4096 * (n / per_page) = ap (λ w. w * (n / per_page)) whole in
    table_at-read decode size per_page first count pages (first + n / per_page) (size * (n % per_page)) n d whole (omega arith)
    (omega arith) in_pages (omega arith) (omega arith)

-- A page before the table, or behind it, that changes.
pub table_at-below : {X : Type 0} (decode : List ℕ → X) (size per_page first count : ℕ) (pages : List (List ℕ)) (page : ℕ) (new : List ℕ) → page < first → table_at decode size per_page first count (set pages page new) ≡ table_at decode size per_page first count pages
unfolding table_at
table_at-below decode size per_page first count pages page new below =
    ap (table decode size per_page) (part_at-set_below pages first count page new below)

pub table_at-above : {X : Type 0} (decode : List ℕ → X) (size per_page first count : ℕ) (pages : List (List ℕ)) (page : ℕ) (new : List ℕ) → first + count ≤ page → table_at decode size per_page first count (set pages page new) ≡ table_at decode size per_page first count pages
unfolding table_at
table_at-above decode size per_page first count pages page new above =
    ap (table decode size per_page) (part_at-set_above pages first count page new above)

-- what was written, what stands beside it, and parts that grow at their end
pub ruleset writes = (
  length-overwritten,
  get_or-overwritten_in,
  get_or-overwritten_below,
  get_or-overwritten_above,
  part_at-overwritten,
  part_at-overwritten_below,
  part_at-overwritten_above,
  overwritten-none,
  overwritten-more,
  length-part_at,
  length-replicate,
  replicate_more,
  get_or-set_same,
  get_or-set_other,
  length-set,
)

-- for a function that reads a row
pub ruleset tables_read = (table_at-row)

-- for a function that writes a row
pub ruleset tables_written = (
  length-table_at,
  table_at-written,
  table_at-below,
  table_at-above,
  length-set,
  get_or-set_same,
  get_or-set_other,
)
