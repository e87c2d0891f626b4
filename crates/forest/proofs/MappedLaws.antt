-- The number of mapped pages is the sum over the subtrees.
use Rattle.std.proofs.Common.{◌≡◌, ◌<◌, ◌≤◌, ◌+◌, ◌*◌, ◌/◌, ◌%◌, ◌^◌, ℕ, zero, suc, Bool, List, [], ◌∷◌, ◌++◌, refl, ap, ◌∙◌, arith, if◌then◌else◌}
use Rattle.std.specs.Option.{is_some}
use Rattle.kn_base.specs.declared.key.Key.{Key}
use Rattle.unix_model.specs.Tables.{count_below, sum_below}
use Rattle.unix_model.proofs.TableLaws.{count_below-zero}
use Rattle.forest.specs.Walks.{key_below, key_along, space_key, digits, page_way, mapping_of, map_of}
use Rattle.forest.specs.Mapped.{mapped, pages_below}
use Rattle.forest.specs.Laws.{MappedIsSum}
use Rattle.forest.proofs.ExactLaws.{count_same}
use Rattle.forest.proofs.ReachLaws.{map_inside}

-- how many pages so many levels can reach
size : ℕ → ℕ
size zero = 1
size (suc levels) = 16 * size levels

count_append : (f : ℕ → Bool) (a n : ℕ) → count_below f (a + n) ≡ count_below f a + count_below (λ r. f (a + r)) n
unfolding count_below
count_append f a zero = let e : a + 0 ≡ a = omega arith in rw e (omega arith)
count_append f a (suc n) =
    let e : a + suc n ≡ suc (a + n) = omega arith in
    let rest = count_append f a n in
    rw e (omega arith)

pub count_blocks : (f : ℕ → Bool) (length k : ℕ) → count_below f (k * length) ≡ sum_below (λ top. count_below (λ r. f (top * length + r)) length) k
unfolding sum_below
count_blocks f length zero = let e : 0 * length ≡ 0 = omega arith in rw e (count_below-zero f)
count_blocks f length (suc k) =
    let e : suc k * length ≡ k * length + length = omega arith in
    rw e (count_append f (k * length) length ∙ ap (λ n. n + count_below (λ r. f (k * length + r)) length) (count_blocks f length k))

pub sum_same : (f g : ℕ → ℕ) (n : ℕ) → ((k : ℕ) → k < n → f k ≡ g k) → sum_below f n ≡ sum_below g n
unfolding sum_below
sum_same f g zero h = refl
sum_same f g (suc n) h =
    let e = sum_same f g n (λ k less. h k (omega arith)) in
    let here : f n ≡ g n = h n (omega arith) in
    rw (e, here) refl

-- the highest digit stands at the end
digits_top : (levels top r : ℕ) → top < 16 → r < size levels → digits (suc levels) (top * size levels + r) ≡ digits levels r ++ (top ∷ [])
unfolding digits size
digits_top zero top r small less = ap (λ d. d ∷ []) (let e : (top * 1 + r) % 16 ≡ top = omega arith in e)
digits_top (suc levels) top r small less =
    let first : (top * (16 * size levels) + r) % 16 ≡ r % 16 = omega arith in
    let rest : (top * (16 * size levels) + r) / 16 ≡ top * size levels + r / 16 = omega arith in
    rw (first, rest) (ap (λ ds. r % 16 ∷ ds) (digits_top levels top (r / 16) small (omega arith)))

along_top : (keys : ℕ → Key) (key : Key) (way : List ℕ) (top : ℕ) → key_along keys key (way ++ (top ∷ [])) ≡ key_along keys (key_below keys key top) way
along_top keys key [] top = refl
along_top keys key (digit ∷ way) top = ap (λ upper. key_below keys upper digit) (along_top keys key way top)

-- pages by their numbers, and by the first digits of their ways
top_pages : (keys : ℕ → Key) (key : Key) (levels parts : ℕ) → parts ≤ 16
    → ((lower : Key) → count_below (λ n. is_some (mapping_of (key_along keys lower (digits levels n)))) (size levels) ≡ pages_below keys lower levels)
    → count_below (λ n. is_some (mapping_of (key_along keys key (digits (suc levels) n)))) (parts * size levels)
    ≡ sum_below (λ digit. pages_below keys (key_below keys key digit) levels) parts
top_pages keys key levels parts few below =
    count_blocks (λ n. is_some (mapping_of (key_along keys key (digits (suc levels) n)))) (size levels) parts
    ∙ sum_same (λ top. count_below (λ r. is_some (mapping_of (key_along keys key (digits (suc levels) (top * size levels + r))))) (size levels))
    (λ digit. pages_below keys (key_below keys key digit) levels) parts
    (λ top small.
    count_same (λ r. is_some (mapping_of (key_along keys key (digits (suc levels) (top * size levels + r)))))
    (λ r. is_some (mapping_of (key_along keys (key_below keys key top) (digits levels r)))) (size levels)
    (λ r less. ap (λ k. is_some (mapping_of k))
    (ap (key_along keys key) (digits_top levels top r (omega arith) less) ∙ along_top keys key (digits levels r) top))
    ∙ below (key_below keys key top))

count_one : (f : ℕ → Bool) → count_below f 1 ≡ (if f 0 then 1 else 0)
unfolding count_below
count_one f = omega arith

one_page : (keys : ℕ → Key) (key : Key) → count_below (λ n. is_some (mapping_of (key_along keys key (digits 0 n)))) 1 ≡ pages_below keys key 0
unfolding digits
one_page keys key = count_one (λ n. is_some (mapping_of key))

-- pages by their numbers, and by subtrees
count_pages : (keys : ℕ → Key) (key : Key) (levels : ℕ)
    → count_below (λ n. is_some (mapping_of (key_along keys key (digits levels n)))) (size levels) ≡ pages_below keys key levels
unfolding size
count_pages keys key zero = one_page keys key
count_pages keys key (suc levels) = top_pages keys key levels 16 (omega arith) (λ lower. count_pages keys lower levels)

five : (page : ℕ) → page_way page ≡ digits 5 page
unfolding page_way
five page = refl

eight : 2 ^ 19 ≡ 8 * size 4
unfolding size
eight = refl

pub mapped_is_sum : MappedIsSum
unfolding mapped
mapped_is_sum keys space =
    count_same (λ page. is_some (map_of keys space page)) (λ page. is_some (mapping_of (key_along keys (space_key space) (digits 5 page)))) (2 ^ 19)
    (λ page below. ap is_some (map_inside keys space page below ∙ ap (λ way. mapping_of (key_along keys (space_key space) way)) (five page)))
    ∙ ap (count_below (λ page. is_some (mapping_of (key_along keys (space_key space) (digits 5 page))))) eight
    ∙ top_pages keys (space_key space) 4 8 (omega arith) (λ lower. count_pages keys lower 4)
