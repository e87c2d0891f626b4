-- How many different labels there are.
use Rattle.std.proofs.Common.{◌≡◌, ◌≢◌, ◌<◌, ◌≤◌, ◌+◌, ◌^◌, ℕ, zero, suc, Bool, true, false, Option, Some, None, List, [], ◌∷◌, ◌++◌, refl, ap, sym, ◌∙◌, arith, if◌then◌else◌, ⊎_elim, ◌==◌, ◌⊎◌, inl, inr, ◌||◌, ◌↔◌}
use Rattle.std.specs.Option.{is_some, IsSome}
use Rattle.std.proofs.lemmas.Bool.{cases_Bool, cases_lt, eq-eqb, ne_eqb, eqb-true, eqb-false, or_cases, or_left, or_right}
use Rattle.unix_model.specs.Tables.{count_below}
use Rattle.forest.specs.Objects.{Object, PageObject, NodeObject, Owner, OfProcess, OfFile, named}
use Rattle.forest.specs.Walks.{map_of, Mapping, page_way, key_at_page}
use Rattle.forest.specs.Forest.{Forest, Sound, IsSpace, Held, NoPageOutside}
use Rattle.forest.specs.Labels.{IsIn, is_in, different, and_label, labels, TellsAlike, page_number, shared_page, places_below, places_of, is_process}
use Rattle.forest.specs.Laws.{AlikeIsEquallyMany, TakenIsDifferent}
use Rattle.forest.proofs.ExactLaws.{bit, count_same, count_changed}
use Rattle.forest.proofs.OwnLaws.{found_at, mapped_named, way_of_page}
use Rattle.forest.proofs.ReachLaws.{every_page_is_mapped, way_owner}

-- a test that answers alike on both sides
same_bool : (a b : Bool) → (a ≡ true → b ≡ true) → (b ≡ true → a ≡ true) → a ≡ b
same_bool true b f g = sym (f refl)
same_bool false true f g = g refl
same_bool false false f g = refl

-- the label of some place
pub record Labelled {X : Type 0} (label : X → Option ℕ) (places : List X) (n : ℕ) : Type 0 where
  pub place : X
  pub within : IsIn place places
  pub has : label place ≡ Some n

is_in-label : (there : Option ℕ) (ns : List ℕ) (n : ℕ) → is_in n (and_label there ns) ≡ true → (there ≡ Some n) ⊎ (is_in n ns ≡ true)
is_in-label None ns n h = inr h
is_in-label (Some m) ns n h = ⊎_elim
    (λ (t : (n == m) ≡ true). inl (ap Some (sym (eqb-true n m t))))
    (λ (t : is_in n ns ≡ true). inr t)
    (or_cases (n == m) (is_in n ns) h)

label-is_in : (there : Option ℕ) (ns : List ℕ) (n : ℕ) → (there ≡ Some n) ⊎ (is_in n ns ≡ true) → is_in n (and_label there ns) ≡ true
label-is_in None ns n h = ⊎_elim (λ (t : None ≡ Some n). absurd (let contra : None ≡ Some n = t in cc)) (λ (t : is_in n ns ≡ true). t) h
label-is_in (Some m) ns n h = ⊎_elim
    (λ (t : Some m ≡ Some n). or_left (n == m) (is_in n ns) (eq-eqb n m (let is : n ≡ m = cc in is)))
    (λ (t : is_in n ns ≡ true). or_right (n == m) (is_in n ns) t)
    h

labelled : {X : Type 0} (label : X → Option ℕ) (places : List X) (n : ℕ) → is_in n (labels label places) ≡ true → Labelled label places n
labelled label [] n h = absurd (let contra : false ≡ true = h in cc)
labelled label (x ∷ xs) n h = ⊎_elim
    (λ (t : label x ≡ Some n). record { place = x; within = inl refl; has = t })
    (λ (t : is_in n (labels label xs) ≡ true).
    let l = labelled label xs n t in record { place = l.place; within = inr l.within; has = l.has })
    (is_in-label (label x) (labels label xs) n h)

has_label : {X : Type 0} (label : X → Option ℕ) (places : List X) (place : X) (n : ℕ) → IsIn place places → label place ≡ Some n → is_in n (labels label places) ≡ true
has_label label [] place n within has = absurd within
has_label label (x ∷ xs) place n within has = label-is_in (label x) (labels label xs) n (⊎_elim
    (λ (t : place ≡ x). inl (ap label (sym t) ∙ has))
    (λ (t : IsIn place xs). inr (has_label label xs place n t has))
    within)

-- one more place
different_more : (there : Option ℕ) (ns : List ℕ) → (n : ℕ) → there ≡ Some n → different (and_label there ns) ≡ (if is_in n ns then different ns else different ns + 1)
different_more None ns n h = cc
different_more (Some m) ns n h = let is : m ≡ n = cc in rw is refl

different_same : (there : Option ℕ) (ns : List ℕ) → there ≡ None → different (and_label there ns) ≡ different ns
different_same None ns h = refl
different_same (Some m) ns h = cc

alike_rest : {X : Type 0} (one two : X → Option ℕ) (x : X) (xs : List X) → TellsAlike one two (x ∷ xs) → TellsAlike one two xs
alike_rest one two x xs a = record {
  labelled = λ y within. a.labelled y (inr within);
  alike = λ y z y_in z_in. a.alike y z (inr y_in) (inr z_in);
}

same_in : {X : Type 0} (one two : X → Option ℕ) (x : X) (xs : List X) → ((y : X) → IsIn y xs → (one x ≡ one y) → (two x ≡ two y)) → (n m : ℕ) → one x ≡ Some n → two x ≡ Some m
    → is_in n (labels one xs) ≡ true → is_in m (labels two xs) ≡ true
same_in one two x xs alike n m e g h =
    let l = labelled one xs n h in
    has_label two xs l.place m l.within (sym (alike l.place l.within (e ∙ sym l.has)) ∙ g)

more_alike : {X : Type 0} (one two : X → Option ℕ) (x : X) (xs : List X) → TellsAlike one two (x ∷ xs) → different (labels one xs) ≡ different (labels two xs)
    → (p q : Option ℕ) → one x ≡ p → two x ≡ q → different (labels one (x ∷ xs)) ≡ different (labels two (x ∷ xs))
more_alike one two x xs a e None None f g = different_same (one x) (labels one xs) f ∙ e ∙ sym (different_same (two x) (labels two xs) g)
more_alike one two x xs a e None (Some m) f g = absurd (let contra : None ≡ Some m = sym ((a.labelled x (inl refl)).0 f) ∙ g in cc)
more_alike one two x xs a e (Some n) None f g = absurd (let contra : None ≡ Some n = sym ((a.labelled x (inl refl)).1 g) ∙ f in cc)
more_alike one two x xs a e (Some n) (Some m) f g =
    let same : is_in n (labels one xs) ≡ is_in m (labels two xs) = same_bool (is_in n (labels one xs)) (is_in m (labels two xs))
    (same_in one two x xs (λ y within. (a.alike x y (inl refl) (inr within)).0) n m f g)
    (same_in two one x xs (λ y within. (a.alike x y (inl refl) (inr within)).1) m n g f) in
    different_more (one x) (labels one xs) n f
    ∙ ap (λ b. if b then different (labels one xs) else different (labels one xs) + 1) same
    ∙ ap (λ d. if is_in m (labels two xs) then d else d + 1) e
    ∙ sym (different_more (two x) (labels two xs) m g)

equally_many : {X : Type 0} (one two : X → Option ℕ) (places : List X) → TellsAlike one two places → different (labels one places) ≡ different (labels two places)
equally_many one two [] a = refl
equally_many one two (x ∷ xs) a = more_alike one two x xs a (equally_many one two xs (alike_rest one two x xs a)) (one x) (two x) refl refl

pub alike_is_equally_many : AlikeIsEquallyMany
alike_is_equally_many one two places a = equally_many one two places a

none_in : (limit : ℕ) → count_below (λ n. false) limit ≡ 0
unfolding count_below
none_in zero = refl
none_in (suc limit) = let e = none_in limit in omega arith

-- how many numbers below a limit are in a list whose numbers are all below it
count_in : (ns : List ℕ) (limit : ℕ) → ((n : ℕ) → is_in n ns ≡ true → n < limit) → count_below (λ n. is_in n ns) limit ≡ different ns
count_in [] limit below = none_in limit
count_in (n ∷ ns) limit below =
    let rest = count_in ns limit (λ m h. below m (or_right (m == n) (is_in m ns) h)) in
    ⊎_elim
    (λ (t : is_in n ns ≡ true).
    rw t (count_same (λ m. is_in m (n ∷ ns)) (λ m. is_in m ns) limit
    (λ m less. same_bool (is_in m (n ∷ ns)) (is_in m ns)
    (λ h. ⊎_elim
    (λ (e : (m == n) ≡ true). ap (λ k. is_in k ns) (eqb-true m n e) ∙ t)
    (λ (e : is_in m ns ≡ true). e)
    (or_cases (m == n) (is_in m ns) h))
    (λ h. or_right (m == n) (is_in m ns) h)) ∙ rest))
    (λ (t : is_in n ns ≡ false).
    let here : is_in n (n ∷ ns) ≡ true = or_left (n == n) (is_in n ns) (eq-eqb n n refl) in
    let changed = count_changed (λ m. is_in m (n ∷ ns)) (λ m. is_in m ns) limit n (below n here)
    (λ m apart. ap (λ b. b || is_in m ns) (ne_eqb m n apart)) in
    let off : bit (is_in n ns) ≡ 0 = ap bit t in
    let on : bit (is_in n (n ∷ ns)) ≡ 1 = ap bit here in
    rw t (omega arith))
    (cases_Bool (is_in n ns))

is_process-true : (owner : Option Owner) → is_process owner ≡ true → owner ≡ Some OfProcess
is_process-true None h = cc
is_process-true (Some OfProcess) h = refl
is_process-true (Some OfFile) h = cc

-- what is found where a page is found
record FoundPage (there : Option Mapping) (page : ℕ) : Type 0 where
  found : Mapping
  is : there ≡ Some found
  number : found.page ≡ page
  there_is : page ≢ 0

found_page : (there : Option Mapping) (page : ℕ) → page_number there ≡ Some page → FoundPage there page
found_page None page h = absurd (let contra : None ≡ Some page = h in cc)
found_page (Some found) page h = ⊎_elim
    (λ (t : (found.page == 0) ≡ true). absurd (let contra : None ≡ Some page = rw t at h in cc))
    (λ (t : (found.page == 0) ≡ false).
    let same_page : Some found.page ≡ Some page = rw t at h in
    let number : found.page ≡ page = cc in
    record { found = found; is = refl; number = number; there_is = λ z. eqb-false found.page 0 t (number ∙ z) })
    (cases_Bool (found.page == 0))

-- a page number of a process's space
abbrev IsProcessPlace : Forest → ℕ × ℕ → Type 0
IsProcessPlace forest place = IsSpace forest [] place.0 × (forest.owner (NodeObject place.0) ≡ Some OfProcess) × (place.1 < 2 ^ 19)

-- a page that is found in a process's space belongs to processes
place_owner : (forest : Forest) → Sound forest → (place : ℕ × ℕ) → IsProcessPlace forest place → (page : ℕ) → shared_page forest.keys place ≡ Some page
    → forest.owner (PageObject page) ≡ Some OfProcess
place_owner forest sound place is page h =
    let f = found_page (map_of forest.keys place.0 place.1) page h in
    let at_page = found_at forest.keys place.0 place.1 f.found f.is in
    let names_it : named (key_at_page forest.keys place.0 place.1) ≡ Some (PageObject page) =
    mapped_named (key_at_page forest.keys place.0 place.1) f.found at_page.maps (λ z. f.there_is (sym f.number ∙ z)) ∙ ap (λ n. Some (PageObject n)) f.number in
    way_owner forest sound place.0 (page_way place.1) (way_of_page place.1) (PageObject page) names_it ∙ is.1

taken_at : (forest : Forest) (outside : Object → ℕ) (pages : ℕ) (places : List (ℕ × ℕ))
    → Held forest outside [] → NoPageOutside forest outside
    → ((page : ℕ) → IsSome (forest.owner (PageObject page)) → page < pages)
    → ((place : ℕ × ℕ) → IsIn place places ↔ IsProcessPlace forest place)
    → count_below (λ page. is_process (forest.owner (PageObject page))) pages ≡ different (labels (shared_page forest.keys) places)
taken_at forest outside pages places held none_outside within listed =
    let found = λ (page : ℕ) (h : is_in page (labels (shared_page forest.keys) places) ≡ true).
    (let l = labelled (shared_page forest.keys) places page h in
    place_owner forest held.sound l.place ((listed l.place).0 l.within) page l.has) in
    count_same (λ page. is_process (forest.owner (PageObject page))) (λ page. is_in page (labels (shared_page forest.keys) places)) pages
    (λ page less. same_bool (is_process (forest.owner (PageObject page))) (is_in page (labels (shared_page forest.keys) places))
    (λ h.
    let owner = is_process-true (forest.owner (PageObject page)) h in
    let m = every_page_is_mapped forest outside page held none_outside (ap is_some owner) in
    has_label (shared_page forest.keys) places (m.0, m.1) page ((listed (m.0, m.1)).1 (m.2, m.3 ∙ owner, m.4)) m.5)
    (λ h. ap is_process (found page h)))
    ∙ count_in (labels (shared_page forest.keys) places) pages (λ page h. within page (ap is_some (found page h)))

in_append : {X : Type 0} (x : X) (xs ys : List X) → IsIn x (xs ++ ys) → IsIn x xs ⊎ IsIn x ys
in_append x [] ys h = inr h
in_append x (y ∷ xs) ys h = ⊎_elim
    (λ (t : x ≡ y). inl (inl t))
    (λ (t : IsIn x (xs ++ ys)). ⊎_elim (λ (u : IsIn x xs). inl (inr u)) (λ (u : IsIn x ys). inr u) (in_append x xs ys t))
    h

append_in : {X : Type 0} (x : X) (xs ys : List X) → IsIn x xs ⊎ IsIn x ys → IsIn x (xs ++ ys)
append_in x [] ys h = ⊎_elim (λ (t : ⊥). absurd t) (λ (t : IsIn x ys). t) h
append_in x (y ∷ xs) ys h = ⊎_elim
    (λ (t : IsIn x (y ∷ xs)). ⊎_elim (λ (u : x ≡ y). inl u) (λ (u : IsIn x xs). inr (append_in x xs ys (inl u))) t)
    (λ (t : IsIn x ys). inr (append_in x xs ys (inr t)))
    h

in_below : (space limit : ℕ) (place : ℕ × ℕ) → IsIn place (places_below space limit) → (place.0 ≡ space) × (place.1 < limit)
unfolding places_below
in_below space zero place h = absurd h
in_below space (suc limit) place h = ⊎_elim
    (λ (t : place ≡ (space, limit)). (ap (λ p. p.0) t, (let e : place.1 ≡ limit = ap (λ p. p.1) t in omega arith)))
    (λ (t : IsIn place (places_below space limit)). let r = in_below space limit place t in (r.0, (let less = r.1 in omega arith)))
    h

below_in : (space limit page : ℕ) → page < limit → IsIn (space, page) (places_below space limit)
unfolding places_below
below_in space zero page h = absurd (omega arith)
below_in space (suc limit) page h = ⊎_elim
    (λ (t : page < limit). inr (below_in space limit page t))
    (λ (t : limit ≤ page). inl (ap (λ p. (space, p)) (let e : page ≡ limit = omega arith in e)))
    (cases_lt page limit)

in_places : (spaces : List ℕ) (place : ℕ × ℕ) → IsIn place (places_of spaces) → IsIn place.0 spaces × (place.1 < 2 ^ 19)
unfolding places_of
in_places [] place h = absurd h
in_places (space ∷ spaces) place h = ⊎_elim
    (λ (t : IsIn place (places_below space (2 ^ 19))). let r = in_below space (2 ^ 19) place t in (inl r.0, r.1))
    (λ (t : IsIn place (places_of spaces)). let r = in_places spaces place t in (inr r.0, r.1))
    (in_append place (places_below space (2 ^ 19)) (places_of spaces) h)

places_in : (spaces : List ℕ) (space page : ℕ) → IsIn space spaces → page < 2 ^ 19 → IsIn (space, page) (places_of spaces)
unfolding places_of
places_in [] space page h below = absurd h
places_in (first ∷ spaces) space page h below = append_in (space, page) (places_below first (2 ^ 19)) (places_of spaces) (⊎_elim
    (λ (t : space ≡ first). inl (rw t (below_in first (2 ^ 19) page below)))
    (λ (t : IsIn space spaces). inr (places_in spaces space page t below))
    h)

pub taken_is_different : TakenIsDifferent
taken_is_different forest outside pages spaces held none_outside within listed =
    taken_at forest outside pages (places_of spaces) held none_outside within
    (λ place. (
      λ h. let r = in_places spaces place h in let is = (listed place.0).0 r.0 in (is.0, is.1, r.1),
      λ is. places_in spaces place.0 place.1 ((listed place.0).1 (is.0, is.1)) is.2,
    ))
