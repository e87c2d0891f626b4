-- How many pages are given back with a tree.
use Rattle.std.proofs.Common.{◌≡◌, ℕ, zero, suc, ◌+◌, ◌-◌, ◌*◌, ◌<◌, ◌≤◌, ◌&&◌, Bool, true, false, Option, Some, None, List, [], ◌∷◌, length, get_or, refl, ap, sym, subst, ◌∙◌, arith, ⊎_elim}
use Rattle.std.specs.Option.{IsSome, is_some, is_none}
use Rattle.std.proofs.lemmas.Bool.{cases_Bool, cases_lt, le-ltb}
use Rattle.std.proofs.lemmas.List.{get_or_past}
use Rattle.std.proofs.lemmas.List.Sums.{sum_by-cons}
use Rattle.std.specs.List.{sum_by}
use Rattle.kernel_tables.specs.declared.entry.Entry.{Entry}
use Rattle.kernel_tables.specs.declared.entry.Entry.TheVariants.{Free, Taken, Fixed, Unspelled}
use Rattle.kernel_tables.specs.declared.entry.PageOwner.{PageOwner}
use Rattle.kernel_tables.specs.Kernel.{Kernel, first_page, entry_pages}
use Rattle.kernel_tables.specs.Rows.{entry_at}
use Rattle.space_bank.specs.Bank.{BankGood}
use Rattle.space_bank.specs.FreeList.{taken_one, taken_count}
use Rattle.forest.specs.Forest.{Forest}
use Rattle.forest.specs.Objects.{PageObject, Owner}
use Rattle.kernel_forest.specs.Apart.{Apart, KeepsApart, apart_by, apart_entry}
use Rattle.kernel_forest.specs.Releases.{KeepsBytes, KeepsUnreleased}
use Rattle.kernel_forest.specs.Trees.{forest_of, owner_of, page_tree, tree_in}
use Rattle.unix_model.specs.Tables.{count_below}
use Rattle.unix_model.proofs.CountLaws.{one_if}
use Rattle.kernel_machine.proofs.Counting.{count-never}
use Rattle.file_domain.specs.Dropping.{pages_given}

-- a count from the other end
count-shift : (test : ℕ → Bool) (n : ℕ) → count_below test (suc n) ≡ one_if (test 0) + count_below (λ k. test (suc k)) n
unfolding count_below
count-shift test zero = omega arith
count-shift test (suc n) = omega (arith, count-shift test n)

-- two lists that differ where one alone counts, among the first ones
sum-fewer : {X : Type 0} (f : X → ℕ) (xs ys : List X) (d : X) (gone : ℕ → Bool) (count : ℕ) → length xs ≡ length ys → count ≤ length xs
    → ((n : ℕ) → n < count → f (get_or xs n d) ≡ f (get_or ys n d) + one_if (gone n)) → ((n : ℕ) → count ≤ n → f (get_or xs n d) ≡ f (get_or ys n d))
    → sum_by f xs ≡ sum_by f ys + count_below gone count
unfolding count_below
sum-fewer f [] [] d gone zero same few one rest = refl
sum-fewer f [] [] d gone (suc count) same few one rest = absurd (omega arith)
sum-fewer f [] (y ∷ ys) d gone count same few one rest = absurd (omega arith)
sum-fewer f (x ∷ xs) [] d gone count same few one rest = absurd (omega arith)
sum-fewer f (x ∷ xs) (y ∷ ys) d gone zero same few one rest =
    let first : f x ≡ f y = rest 0 (omega arith) in
    let more = sum-fewer f xs ys d gone zero (omega arith) (omega arith) (λ n below. absurd (omega arith)) (λ n low. rest (suc n) (omega arith)) in
    omega (arith, sum_by-cons f x xs, sum_by-cons f y ys)
sum-fewer f (x ∷ xs) (y ∷ ys) d gone (suc count) same few one rest =
    let first : f x ≡ f y + one_if (gone 0) = one 0 (omega arith) in
    let more = sum-fewer f xs ys d (λ n. gone (suc n)) count (omega arith) (omega arith) (λ n below. one (suc n) (omega arith)) (λ n low. rest (suc n) (omega arith)) in
    omega (arith, sum_by-cons f x xs, sum_by-cons f y ys, count-shift gone count)

-- an entry that is as it was, but for those of trees, of which one may be free now
one-entry : (was now : Entry PageOwner) → apart_entry page_tree now ≡ apart_entry page_tree was → (IsSome (tree_in page_tree now) → IsSome (tree_in page_tree was))
    → taken_one was ≡ taken_one now + one_if (is_some (tree_in page_tree was) && is_none (tree_in page_tree now))
one-entry (Free one) (Free two) same fewer = refl
one-entry (Free one) (Taken owner count) same fewer = ⊎_elim
    (λ (t : is_some (page_tree owner) ≡ true). let no : false ≡ true = fewer t in cc)
    (λ (t : is_some (page_tree owner) ≡ false). let no : Taken owner count ≡ Free 0 = rw t at same in cc)
    (cases_Bool (is_some (page_tree owner)))
one-entry (Free one) Fixed same fewer = cc
one-entry (Free one) Unspelled same fewer = cc
one-entry (Taken owner count) (Free two) same fewer = ⊎_elim
    (λ (t : is_some (page_tree owner) ≡ true). rw t refl)
    (λ (t : is_some (page_tree owner) ≡ false). let no : Free 0 ≡ Taken owner count = rw t at same in cc)
    (cases_Bool (is_some (page_tree owner)))
one-entry (Taken owner count) (Taken other many) same fewer = ⊎_elim
    (λ (t : is_some (page_tree other) ≡ true). some-none (page_tree owner) (page_tree other) t)
    (λ (t : is_some (page_tree other) ≡ false). ⊎_elim
    (λ (s : is_some (page_tree owner) ≡ true). let no : Taken other many ≡ Free 0 = rw (t, s) at same in cc)
    (λ (s : is_some (page_tree owner) ≡ false). rw s refl)
    (cases_Bool (is_some (page_tree owner))))
    (cases_Bool (is_some (page_tree other)))
  where
    some-none : (a b : Option Owner) → is_some b ≡ true → 1 ≡ 1 + one_if (is_some a && is_none b)
    some-none None b some = refl
    some-none (Some a) None some = cc
    some-none (Some a) (Some b) some = refl
one-entry (Taken owner count) Fixed same fewer = ⊎_elim
    (λ (t : is_some (page_tree owner) ≡ true). let no : Fixed ≡ Free 0 = rw t at same in cc)
    (λ (t : is_some (page_tree owner) ≡ false). let no : Fixed ≡ Taken owner count = rw t at same in cc)
    (cases_Bool (is_some (page_tree owner)))
one-entry (Taken owner count) Unspelled same fewer = ⊎_elim
    (λ (t : is_some (page_tree owner) ≡ true). let no : Unspelled ≡ Free 0 = rw t at same in cc)
    (λ (t : is_some (page_tree owner) ≡ false). let no : Unspelled ≡ Taken owner count = rw t at same in cc)
    (cases_Bool (is_some (page_tree owner)))
one-entry Fixed (Free two) same fewer = cc
one-entry Fixed (Taken owner count) same fewer = ⊎_elim
    (λ (t : is_some (page_tree owner) ≡ true). let no : Free 0 ≡ Fixed = rw t at same in cc)
    (λ (t : is_some (page_tree owner) ≡ false). let no : Taken owner count ≡ Fixed = rw t at same in cc)
    (cases_Bool (is_some (page_tree owner)))
one-entry Fixed Fixed same fewer = refl
one-entry Fixed Unspelled same fewer = cc
one-entry Unspelled (Free two) same fewer = cc
one-entry Unspelled (Taken owner count) same fewer = ⊎_elim
    (λ (t : is_some (page_tree owner) ≡ true). let no : Free 0 ≡ Unspelled = rw t at same in cc)
    (λ (t : is_some (page_tree owner) ≡ false). let no : Taken owner count ≡ Unspelled = rw t at same in cc)
    (cases_Bool (is_some (page_tree owner)))
one-entry Unspelled Fixed same fewer = cc
one-entry Unspelled Unspelled same fewer = refl

-- whose tree a page of the bank belongs to
owner-at : (kernel : Kernel) (n : ℕ) → (forest_of kernel).owner (PageObject (first_page kernel.size + n)) ≡ tree_in page_tree (entry_at kernel.page_entries n)
unfolding owner_of
owner-at kernel n =
    let same : first_page kernel.size + n - first_page kernel.size ≡ n = omega arith in
    rw (le-ltb (first_page kernel.size + n) (first_page kernel.size) (omega arith), same) refl

-- behind the last page nothing is taken
past : (kernel : Kernel) (n : ℕ) → kernel.size ≤ n → BankGood kernel → taken_one (entry_at kernel.page_entries n) ≡ 0
past kernel n low good = ⊎_elim
    (λ (t : n < length kernel.page_entries). ap taken_one (good.pages.entries_good.unused n low t))
    (λ (t : length kernel.page_entries ≤ n). ap taken_one (get_or_past kernel.page_entries n Unspelled t))
    (cases_lt n (length kernel.page_entries))

module _ (old new : Kernel) (rest : KeepsUnreleased old new) (apart : KeepsApart old new) (keeps : KeepsBytes old new) (before : BankGood old) (after : BankGood new) where
  size-same : new.size ≡ old.size
  size-same = ap (λ (k : Kernel). k.size) rest

  owner-new : (n : ℕ) → (forest_of new).owner (PageObject (first_page old.size + n)) ≡ tree_in page_tree (entry_at new.page_entries n)
  owner-new n = ap (λ size. (forest_of new).owner (PageObject (first_page size + n))) (sym size-same) ∙ owner-at new n

  abbrev gone : ℕ → Bool
  gone n = is_some ((forest_of old).owner (PageObject (first_page old.size + n))) && is_none ((forest_of new).owner (PageObject (first_page old.size + n)))

  gone-is : (n : ℕ) → gone n ≡ (is_some (tree_in page_tree (entry_at old.page_entries n)) && is_none (tree_in page_tree (entry_at new.page_entries n)))
  gone-is n = rw (owner-at old n, owner-new n) refl

  each : (n : ℕ) → taken_one (entry_at old.page_entries n) ≡ taken_one (entry_at new.page_entries n) + one_if (gone n)
  unfolding apart_by
  each n =
      one-entry (entry_at old.page_entries n) (entry_at new.page_entries n) (ap (λ (a : Apart). a.pages n) apart)
      (λ some. subst IsSome (owner-at old n) (keeps.fewer (PageObject (first_page old.size + n)) (subst IsSome (sym (owner-new n)) some)))
      ∙ ap (λ b. taken_one (entry_at new.page_entries n) + one_if b) (sym (gone-is n))

  many : length old.page_entries ≡ length new.page_entries
  many = before.pages.entries_good.rows ∙ ap (λ size. 512 * entry_pages size) (sym size-same) ∙ sym after.pages.entries_good.rows

  pub tree_pages_given : new.machine.pages_taken + pages_given (forest_of old) (forest_of new) (first_page old.size) old.size ≡ old.machine.pages_taken
  unfolding pages_given taken_count
  tree_pages_given =
      let long = before.pages.entries_good.rows in
      let all = sum-fewer taken_one old.page_entries new.page_entries Unspelled gone old.size many (omega arith) (λ n below. each n) (λ n low. unused n low) in
      let one = before.pages.entries_good.number in
      let two = after.pages.entries_good.number in
      omega arith
    where
      unused : (n : ℕ) → old.size ≤ n → taken_one (entry_at old.page_entries n) ≡ taken_one (entry_at new.page_entries n)
      unused n low = sym (past new n (subst (λ size. size ≤ n) (sym size-same) low) after ∙ sym (past old n low before))

-- where trees are the same none is given
pub none_given : (forest : Forest) (first size : ℕ) → pages_given forest forest first size ≡ 0
unfolding pages_given
none_given forest first size = count-never (λ n. is_some (forest.owner (PageObject (first + n))) && is_none (forest.owner (PageObject (first + n)))) size
    (λ n below. never (forest.owner (PageObject (first + n))))
  where
    never : (owner : Option Owner) → (is_some owner && is_none owner) ≡ false
    never None = refl
    never (Some owner) = refl
