-- The places of a directory in their order: the first one with a name, and the first hole.
use Rattle.std.proofs.Common.{◌≡◌, ℕ, zero, suc, ◌+◌, ◌-◌, ◌<◌, ◌≤◌, Bool, true, false, Option, Some, None, List, [], ◌∷◌, ◌++◌, length, drop, get_or, set, refl, ap, sym, subst, ◌∙◌, arith, ⊎_elim}
use Rattle.std.specs.Option.{is_some}
use Rattle.std.specs.Prelude.{if◌then◌else◌}
use Rattle.std.proofs.lemmas.Bool.{cases_lt}
use Rattle.std.proofs.lemmas.List.{get_or_append_left, get_or-append_right, set-append_left, set-append_right}
use Rattle.unix_model.specs.Files.{Entry, inode_named, place_inode, with_place}
use Rattle.unix_model.specs.Tables.{least_below, option_or}
use Rattle.kernel_machine.specs.Contents.{places_in}
use Rattle.kernel_machine.proofs.PagesHeld.{places-long}
use Rattle.dir_domain.specs.Places.{numbered_place, has_name, HasNoName, IsFirstNamed}

-- ---- places by number

pub drop-here : {X : Type 0} (xs : List X) (n : ℕ) (d : X) → n < length xs → drop n xs ≡ get_or xs n d ∷ drop (n + 1) xs
drop-here [] n d below = absurd (omega arith)
drop-here (x ∷ xs) zero d below = refl
drop-here (x ∷ xs) (suc n) d below =
    let next : suc n + 1 ≡ suc (n + 1) = omega arith in
    drop-here xs n d (omega arith) ∙ ap (λ k. get_or xs n d ∷ drop k (x ∷ xs)) (sym next)

pub get-place-any : (bytes : List ℕ) (n k : ℕ) (d : Option Entry) → k < n → get_or (places_in bytes n) k d ≡ numbered_place bytes k
unfolding places_in
get-place-any bytes zero k d below = absurd (omega arith)
get-place-any bytes (suc n) k d below = ⊎_elim
    (λ (t : k < n). get_or_append_left (places_in bytes n) (numbered_place bytes n ∷ []) d k (omega (arith, places-long bytes n)) ∙ get-place-any bytes n k d t)
    (λ (t : n ≤ k).
    let last : k ≡ n = omega arith in
    let none : k - n ≡ 0 = omega arith in
    get_or-append_right (places_in bytes n) (numbered_place bytes n ∷ []) n k d (places-long bytes n) t
    ∙ ap (λ i. get_or (numbered_place bytes n ∷ []) i d) none
    ∙ ap (numbered_place bytes) (sym last))
    (cases_lt k n)

pub get-place : (bytes : List ℕ) (n k : ℕ) → k < n → get_or (places_in bytes n) k None ≡ numbered_place bytes k
get-place bytes n k below = get-place-any bytes n k None below

-- ---- one place more

or-none : (x : Option ℕ) → option_or x None ≡ x
or-none None = refl
or-none (Some x) = refl

or-or : (x y z : Option ℕ) → option_or x (option_or y z) ≡ option_or (option_or x y) z
or-or None y z = refl
or-or (Some x) y z = refl

some-or : (x y : Option ℕ) → is_some x ≡ true → option_or x y ≡ x
some-or None y e = absurd (let no : false ≡ true = e in cc)
some-or (Some x) y e = refl

none-is : (x : Option ℕ) → is_some x ≡ false → x ≡ None
none-is None e = refl
none-is (Some x) e = absurd (let no : true ≡ false = e in cc)

named-more : (places : List (Option Entry)) (last : Option Entry) (name : List ℕ)
    → inode_named (places ++ last ∷ []) name ≡ option_or (inode_named places name) (place_inode name last)
named-more [] last name = or-none (place_inode name last)
named-more (place ∷ places) last name =
    ap (option_or (place_inode name place)) (named-more places last name) ∙ or-or (place_inode name place) (inode_named places name) (place_inode name last)

changed-first : (place last changed : Option Entry) (places : List (Option Entry)) (name : List ℕ) (here : Bool) → is_some (place_inode name place) ≡ here
    → (is_some (place_inode name place) ≡ false → with_place (places ++ last ∷ []) name changed ≡ with_place places name changed ++ last ∷ [])
    → with_place ((place ∷ places) ++ last ∷ []) name changed ≡ with_place (place ∷ places) name changed ++ last ∷ []
changed-first place last changed places name true is rest = rw is refl
changed-first place last changed places name false is rest = rw is (ap (λ (more : List (Option Entry)). place ∷ more) (rest is))

-- a place that has the name is changed, and the last one stays
pub set-before : (places : List (Option Entry)) (last changed : Option Entry) (name : List ℕ) → is_some (inode_named places name) ≡ true
    → with_place (places ++ last ∷ []) name changed ≡ with_place places name changed ++ last ∷ []
set-before [] last changed name e = absurd (let no : false ≡ true = e in cc)
set-before (place ∷ places) last changed name e =
    changed-first place last changed places name (is_some (place_inode name place)) refl
    (λ is. set-before places last changed name (ap (λ x. is_some (option_or x (inode_named places name))) (sym (none-is (place_inode name place) is)) ∙ e))

changed-last : (place last changed : Option Entry) (places rest : List (Option Entry)) (name : List ℕ) → place_inode name place ≡ None
    → with_place (places ++ last ∷ []) name changed ≡ rest
    → with_place ((place ∷ places) ++ last ∷ []) name changed ≡ place ∷ rest
changed-last place last changed places rest name is e = rw (ap is_some is) (ap (λ (more : List (Option Entry)). place ∷ more) e)

one-changed : (last changed : Option Entry) (test : Bool) → (if test then changed ∷ [] else last ∷ []) ≡ (if test then changed else last) ∷ []
one-changed last changed true = refl
one-changed last changed false = refl

or-first : (x y : Option ℕ) → option_or x y ≡ None → x ≡ None
or-first None y e = refl
or-first (Some k) y e = absurd (cc)

or-second : (x y : Option ℕ) → option_or x y ≡ None → y ≡ None
or-second None y e = e
or-second (Some k) y e = absurd (cc)

-- where none has it, only the last one may be changed
pub set-last : (places : List (Option Entry)) (last changed : Option Entry) (name : List ℕ) → inode_named places name ≡ None
    → with_place (places ++ last ∷ []) name changed ≡ places ++ (if is_some (place_inode name last) then changed else last) ∷ []
set-last [] last changed name e = one-changed last changed (is_some (place_inode name last))
set-last (place ∷ places) last changed name e =
    changed-last place last changed places (places ++ (if is_some (place_inode name last) then changed else last) ∷ []) name
    (or-first (place_inode name place) (inode_named places name) e)
    (set-last places last changed name (or-second (place_inode name place) (inode_named places name) e))

-- ---- the first place with a name

-- what the least number of a place with a name tells
abbrev pub Tells : List ℕ → List ℕ → ℕ → Option ℕ → Type 0
Tells bytes name n None = HasNoName bytes n name
Tells bytes name n (Some k) = IsFirstNamed bytes n name k

module _ (bytes name : List ℕ) (n : ℕ) where
  abbrev places : List (Option Entry)
  places = places_in bytes n

  abbrev last : Option Entry
  last = numbered_place bytes n

  more-some : (k : ℕ) → IsFirstNamed bytes n name k → IsFirstNamed bytes (suc n) name k
  unfolding places_in
  more-some k first =
      let has : is_some (inode_named places name) ≡ true = ap is_some first.found ∙ first.named in
      record {
        inside = let h = first.inside in omega arith;
        found = named-more places last name ∙ some-or (inode_named places name) (place_inode name last) has ∙ first.found;
        named = first.named;
        set = λ changed.
            set-before places last changed name has
            ∙ ap (λ (front : List (Option Entry)). front ++ last ∷ []) (first.set changed)
            ∙ sym (set-append_left places (last ∷ []) k changed (let h = first.inside in omega (arith, places-long bytes n)));
      }

  more-first : HasNoName bytes n name → has_name name bytes n ≡ true → IsFirstNamed bytes (suc n) name n
  unfolding places_in has_name
  more-first none is =
      let nothing_before : n - n ≡ 0 = omega arith in
      record {
        inside = omega arith;
        found = named-more places last name ∙ ap (λ x. option_or x (place_inode name last)) none.absent;
        named = is;
        set = λ changed.
            set-last places last changed name none.absent
            ∙ ap (λ b. places ++ (if b then changed else last) ∷ []) is
            ∙ ap (λ i. places ++ set (last ∷ []) i changed) (sym nothing_before)
            ∙ sym (set-append_right places (last ∷ []) n n changed (places-long bytes n) (omega arith));
      }

  more-none : HasNoName bytes n name → has_name name bytes n ≡ false → HasNoName bytes (suc n) name
  unfolding places_in has_name
  more-none none is = record {
    absent = named-more places last name ∙ ap (λ x. option_or x (place_inode name last)) none.absent ∙ none-is (place_inode name last) is;
    stays = λ changed. set-last places last changed name none.absent ∙ ap (λ b. places ++ (if b then changed else last) ∷ []) is;
  }

  more : (before : Option ℕ) → Tells bytes name n before → (here : Bool) → has_name name bytes n ≡ here
      → Tells bytes name (suc n) (option_or before (if here then Some n else None))
  more (Some k) first here is = more-some k first
  more None none true is = more-first none is
  more None none false is = more-none none is

pub tells : (bytes name : List ℕ) (n : ℕ) → Tells bytes name n (least_below (has_name name bytes) n)
unfolding least_below places_in
tells bytes name zero = record { absent = refl; stays = λ changed. refl }
tells bytes name (suc n) = more bytes name n (least_below (has_name name bytes) n) (tells bytes name n) (has_name name bytes n) refl

pub first-named : (bytes name : List ℕ) (n k : ℕ) → Some k ≡ least_below (has_name name bytes) n → IsFirstNamed bytes n name k
first-named bytes name n k e = subst (Tells bytes name n) (sym e) (tells bytes name n)

pub none-named : (bytes name : List ℕ) (n : ℕ) → None ≡ least_below (has_name name bytes) n → HasNoName bytes n name
none-named bytes name n e = subst (Tells bytes name n) (sym e) (tells bytes name n)
