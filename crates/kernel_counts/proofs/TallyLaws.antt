-- How often numbers stand in lists, and what is counted of a table with one place changed.
use Rattle.std.proofs.Common.{◌≡◌, ◌≢◌, ◌+◌, ℕ, zero, suc, Bool, true, false, cond, Option, Some, None, List, [], ◌∷◌, ◌++◌, get_or, refl, sym, ap, ◌∙◌, arith, ⊎_elim}
use Rattle.std.specs.Prelude.{◌==◌, bytes_eq, replicate}
use Rattle.std.specs.List.{count_by}
use Rattle.std.proofs.lemmas.Bool.{cases_Bool, cases_eq, eq-eqb, ne_eqb}
use Rattle.std.proofs.lemmas.List.Sums.{sum_by-append, sum_by-cons}
use Rattle.unix_model.specs.Files.{Entry, entry_names, inode_named, with_entry, with_place}
use Rattle.unix_model.specs.Tables.{at, with_at, count_below, sum_below}
use Rattle.unix_model.proofs.CountLaws.{one_if}
use Rattle.unix_model.proofs.TableLaws.{at-with_at, at-with_at-other}
use Rattle.kernel_counts.specs.Counted as law
use Rattle.kernel_counts.specs.Counted.{Off, times, numbers_of, IsEven}
use Rattle.kernel_machine.specs.View.{listed}
use Rattle.kernel_machine.proofs.Counting.{count-never}

-- ---- lists of numbers

pub count-cons : {X : Type 0} (p : X → Bool) (x : X) (xs : List X) → count_by p (x ∷ xs) ≡ one_if (p x) + count_by p xs
count-cons p x xs = sum_by-cons (λ y. cond (p y) 1 0) x xs

pub count-append : {X : Type 0} (p : X → Bool) (xs ys : List X) → count_by p (xs ++ ys) ≡ count_by p xs + count_by p ys
count-append p xs ys = sum_by-append (λ y. cond (p y) 1 0) xs ys

pub times-append : (number : ℕ) (xs ys : List ℕ) → times number (xs ++ ys) ≡ times number xs + times number ys
unfolding times
times-append number xs ys = count-append (λ n. n == number) xs ys

pub times-cons : (number x : ℕ) (xs : List ℕ) → times number (x ∷ xs) ≡ one_if (x == number) + times number xs
unfolding times
times-cons number x xs = count-cons (λ n. n == number) x xs

pub times-none : (number : ℕ) → times number [] ≡ 0
unfolding times
times-none number = refl

pub times-same : (number many : ℕ) → times number (replicate many number) ≡ many
times-same number zero = times-none number
times-same number (suc many) =
    let one : one_if (number == number) ≡ 1 = ap one_if (eq-eqb number number refl) in
    times-cons number number (replicate many number) ∙ (let rest = times-same number many in omega arith)

pub times-other : (number other many : ℕ) → other ≢ number → times number (replicate many other) ≡ 0
times-other number other zero apart = times-none number
times-other number other (suc many) apart =
    let none : one_if (other == number) ≡ 0 = ap one_if (ne_eqb other number apart) in
    times-cons number other (replicate many other) ∙ (let rest = times-other number other many apart in omega arith)

pub raised_and_lowered : law.RaisedAndLowered
raised_and_lowered number off other =
    let a = times-cons other number off.raise in
    let b = times-cons other number off.lower in
    omega arith

-- ---- what is stored

-- one number is another one now, by so much more and so much less
pub stored-set : {X : Type 0} (f : X → ℕ) (table : ℕ → X) (number : ℕ) (x : X) (up down : ℕ) → f x + down ≡ f (at table number) + up
    → (n : ℕ) → f (at (with_at table number x) n) + times n (replicate down number) ≡ f (at table n) + times n (replicate up number)
stored-set f table number x up down e n = ⊎_elim
    (λ (t : n ≡ number).
    let now : f (at (with_at table number x) n) ≡ f x = ap (λ k. f (at (with_at table number x) k)) t ∙ ap f (at-with_at table number x) in
    let was : f (at table n) ≡ f (at table number) = ap (λ k. f (at table k)) t in
    let less : times n (replicate down number) ≡ down = ap (λ k. times k (replicate down number)) t ∙ times-same number down in
    let more : times n (replicate up number) ≡ up = ap (λ k. times k (replicate up number)) t ∙ times-same number up in
    omega arith)
    (λ (d : n ≢ number).
    let same : f (at (with_at table number x) n) ≡ f (at table n) = ap f (at-with_at-other table number n x d) in
    let less : times n (replicate down number) ≡ 0 = times-other n number down (λ t. d (sym t)) in
    let more : times n (replicate up number) ≡ 0 = times-other n number up (λ t. d (sym t)) in
    omega arith)
    (cases_eq n number)

-- ---- tables as lists

pub listed-count : {X : Type 0} (p : X → Bool) (table : ℕ → X) (many : ℕ) → count_by p (listed table many) ≡ count_below (λ n. p (at table n)) many
unfolding listed count_below
listed-count p table zero = refl
listed-count p table (suc many) =
    count-append p (listed table many) (at table many ∷ [])
    ∙ (let rest = listed-count p table many in let last = count-cons p (at table many) [] in omega arith)

-- nothing passes a test in a list
pub count-zero : {X : Type 0} (p : X → Bool) (xs : List X) (d : X) → ((i : ℕ) → p (get_or xs i d) ≡ false) → count_by p xs ≡ 0
count-zero p [] d none = refl
count-zero p (x ∷ xs) d none =
    let first : one_if (p x) ≡ 0 = ap one_if (none 0) in
    count-cons p x xs ∙ (let rest = count-zero p xs d (λ i. none (suc i)) in omega arith)

pub never-counted : (test : ℕ → Bool) (limit : ℕ) → ((n : ℕ) → test n ≡ false) → count_below test limit ≡ 0
never-counted test limit none = count-never test limit (λ n below. none n)

pub sum-never : (f : ℕ → ℕ) (limit : ℕ) → ((n : ℕ) → f n ≡ 0) → sum_below f limit ≡ 0
unfolding sum_below
sum-never f zero none = refl
sum-never f (suc limit) none = let here = none limit in let rest = sum-never f limit none in omega arith

-- ---- names in places

pub name_added : law.NameAdded
name_added [] entry inode =
    let a = count-cons (entry_names inode) (Some entry) [] in
    let b = times-cons inode entry.inode [] in
    let c = times-none inode in
    omega arith
name_added (None ∷ places) entry inode =
    let a = count-cons (entry_names inode) (Some entry) places in
    let b = count-cons (entry_names inode) None places in
    let c = times-cons inode entry.inode [] in
    let d = times-none inode in
    omega arith
name_added (Some other ∷ places) entry inode =
    let rest = name_added places entry inode in
    let a = count-cons (entry_names inode) (Some other) (with_entry places entry) in
    let b = count-cons (entry_names inode) (Some other) places in
    omega arith

-- the place of a name is another one
place-changed : (places : List (Option Entry)) (name : List ℕ) (gone : ℕ) (changed : Option Entry) → inode_named places name ≡ Some gone
    → (inode : ℕ) → count_by (entry_names inode) (with_place places name changed) + one_if (gone == inode) ≡ count_by (entry_names inode) places + one_if (entry_names inode changed)
place-changed [] name gone changed e inode = cc
place-changed (None ∷ places) name gone changed e inode =
    let rest = place-changed places name gone changed e inode in
    let a = count-cons (entry_names inode) None (with_place places name changed) in
    let b = count-cons (entry_names inode) None places in
    omega arith
place-changed (Some entry ∷ places) name gone changed e inode = ⊎_elim
    (λ (t : bytes_eq entry.name name ≡ true).
    let found : Some entry.inode ≡ Some gone = rw t at e in
    let same : entry.inode ≡ gone = cc in
    let one : one_if (entry_names inode (Some entry)) ≡ one_if (gone == inode) = ap (λ n. one_if (n == inode)) same in
    let now : with_place (Some entry ∷ places) name changed ≡ changed ∷ places = rw t refl in
    let a = ap (count_by (entry_names inode)) now ∙ count-cons (entry_names inode) changed places in
    let b = count-cons (entry_names inode) (Some entry) places in
    omega arith)
    (λ (t : bytes_eq entry.name name ≡ false).
    let rest = place-changed places name gone changed (rw t at e) inode in
    let now : with_place (Some entry ∷ places) name changed ≡ Some entry ∷ with_place places name changed = rw t refl in
    let a = ap (count_by (entry_names inode)) now ∙ count-cons (entry_names inode) (Some entry) (with_place places name changed) in
    let b = count-cons (entry_names inode) (Some entry) places in
    omega arith)
    (cases_Bool (bytes_eq entry.name name))

pub name_changed : law.NameChanged
name_changed places name gone entry e = (
  λ inode.
      let h = place-changed places name gone None e inode in
      let a = times-cons inode gone [] in
      let b = times-none inode in
      omega arith,
  λ inode.
      let h = place-changed places name gone (Some entry) e inode in
      let a = times-cons inode gone [] in
      let b = times-cons inode entry.inode [] in
      let c = times-none inode in
      omega arith,
)
