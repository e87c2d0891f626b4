-- The names of a path, and what stands before its last slash.
use Rattle.std.proofs.Common.{◌≡◌, ℕ, zero, suc, ◌+◌, ◌-◌, ◌<◌, ◌≤◌, List, [], ◌∷◌, length, take, drop, get_or, Bool, true, false, refl, sym, ap, ◌∙◌, inl, inr, length-drop, nat_lt, arith}
use Rattle.std.specs.Prelude.{◌==◌}
use Rattle.std.specs.List.{list_all, list_any, slice_split, onto_first}
use Rattle.std.proofs.lemmas.Bool.{cases_Bool}
use Rattle.std.proofs.lemmas.Bool.Decides.{nat_tests}
use Rattle.unix_model.specs.Paths.{is_slash}
use Rattle.std.proofs.Math.Seq.{take-length}
use Rattle.std.proofs.lemmas.List.{get_or-drop, get_or-take, length-take-le}
use Rattle.bundle.specs.Forms.{HasNoSlash}
use Rattle.bundle.specs.Paths.{is_long, is_name, is_nul, parent_of}

-- a slash is among bytes
slash-there : (bytes : List ℕ) (i : ℕ) → i < length bytes → is_slash (get_or bytes i 0) ≡ true → list_any is_slash bytes ≡ true
slash-there [] i inside here = absurd (omega arith)
slash-there (byte ∷ bytes) zero inside here = rw here refl
slash-there (byte ∷ bytes) (suc i) inside here =
    elim (cases_Bool (is_slash byte)) as (λ _. list_any is_slash (byte ∷ bytes) ≡ true) [
      | inl holds ↦ rw holds refl
      | inr other ↦ rw other (slash-there bytes i (omega arith) here)
    ]

pub none-any : (p : ℕ → Bool) (bytes : List ℕ) → ((k : ℕ) → k < length bytes → p (get_or bytes k 0) ≡ false) → list_any p bytes ≡ false
none-any p [] none = refl
none-any p (byte ∷ bytes) none =
    let first : p byte ≡ false = none 0 (omega arith) in
    rw first (none-any p bytes (λ k below. none (suc k) (omega arith)))

-- what stands before the last slash
pub parent-is : (path : List ℕ) (last : ℕ) → last < length path → is_slash (get_or path last 0) ≡ true
    → ((k : ℕ) → last < k → k < length path → is_slash (get_or path k 0) ≡ false) → take last path ≡ parent_of path
unfolding parent_of
parent-is [] last inside here none = absurd (omega arith)
parent-is (byte ∷ bytes) zero inside here none =
    rw (none-any is_slash bytes (λ k below. none (suc k) (omega arith) (omega arith))) refl
parent-is (byte ∷ bytes) (suc last) inside here none =
    let less : last < length bytes = omega arith in
    rw (slash-there bytes last less here) (ap (λ front. byte ∷ front) (parent-is bytes last less here (λ k above below. none (suc k) (omega arith) (omega arith))))

-- the last slash stands here, where none comes after it
pub last-slash : (path : List ℕ) (last : ℕ) → last < length path → is_slash (get_or path last 0) ≡ true → HasNoSlash (drop (last + 1) path) → take last path ≡ parent_of path
last-slash path last inside here none =
    parent-is path last inside here (λ k above below. rw (there k above) (none (k - (last + 1)) (omega (arith, length-drop (last + 1) path, above, below))))
  where
    there : (k : ℕ) → last < k → get_or path k 0 ≡ get_or (drop (last + 1) path) (k - (last + 1)) 0
    there k above =
        let e : last + 1 + (k - (last + 1)) ≡ k = omega (arith, above) in
        sym (get_or-drop (last + 1) path (k - (last + 1)) 0 ∙ ap (λ n. get_or path n 0) e)

-- what follows a place of a path, up to its end
pub rest-whole : (path : List ℕ) (from : ℕ) → take (length path - from) (drop from path) ≡ drop from path
rest-whole path from = rw (← length-drop from path) (take-length (drop from path))

-- ---- bytes that fail a test

pub none-before : (p : ℕ → Bool) (bytes : List ℕ) (i : ℕ) → i ≤ length bytes → ((k : ℕ) → k < i → p (get_or bytes k 0) ≡ false) → list_any p (take i bytes) ≡ false
none-before p bytes i few none =
    none-any p (take i bytes) (λ k below. rw (get_or-take i bytes k 0 (omega (arith, below, length-take-le i bytes few))) (none k (omega (arith, below, length-take-le i bytes few))))

pub slash-is : (byte : ℕ) → byte ≡ 47 → is_slash byte ≡ true
slash-is byte is = rw is refl

pub nul-is : (byte : ℕ) → byte ≡ 0 → is_nul byte ≡ true
nul-is byte is = rw is refl

-- ---- a name with a NUL

nul-no_slash : (byte : ℕ) → is_nul byte ≡ true → is_slash byte ≡ false
nul-no_slash byte is = grind (arith, nat_tests, is)

nul-onto : (byte : ℕ) (parts : List (List ℕ)) → is_nul byte ≡ true → (first : List ℕ) × (rest : List (List ℕ)) × (onto_first byte parts ≡ first ∷ rest) × (list_any is_nul first ≡ true)
nul-onto byte [] is = (byte ∷ [], [], refl, rw is refl)
nul-onto byte (part ∷ parts) is = (byte ∷ part, parts, refl, rw is refl)

-- where a NUL stands before any slash, the first part has it
nul-first : (bytes : List ℕ) (i : ℕ) → i < length bytes → ((k : ℕ) → k < i → is_slash (get_or bytes k 0) ≡ false) → is_nul (get_or bytes i 0) ≡ true
    → (first : List ℕ) × (rest : List (List ℕ)) × (slice_split is_slash bytes ≡ first ∷ rest) × (list_any is_nul first ≡ true)
nul-first [] i inside none here = absurd (omega arith)
nul-first (byte ∷ bytes) zero inside none here =
    rw (nul-no_slash byte here) (nul-onto byte (slice_split is_slash bytes) here)
nul-first (byte ∷ bytes) (suc i) inside none here =
    let first : is_slash byte ≡ false = none 0 (omega arith) in
    let later = nul-first bytes i (omega arith) (λ k below. none (suc k) (omega arith)) here in
    rw (first, later.2) (byte ∷ later.0, later.1, refl, any-later byte later.0 later.3)
  where
    any-later : (byte : ℕ) (bytes : List ℕ) → list_any is_nul bytes ≡ true → list_any is_nul (byte ∷ bytes) ≡ true
    any-later byte bytes there = elim (cases_Bool (is_nul byte)) as (λ _. list_any is_nul (byte ∷ bytes) ≡ true) [
      | inl holds ↦ rw holds refl
      | inr other ↦ rw other there
    ]

with-nul : (name : List ℕ) → list_any is_nul name ≡ true → is_name name ≡ false
unfolding is_name
with-nul name there = elim (cases_Bool (length name == 0)) as (λ _. is_name name ≡ false) [
  | inl e ↦ rw e refl
  | inr e ↦ rw (e, there) refl
]

-- so not all parts are names
pub nul-bad : (bytes : List ℕ) (i : ℕ) → i < length bytes → ((k : ℕ) → k < i → is_slash (get_or bytes k 0) ≡ false) → is_nul (get_or bytes i 0) ≡ true
    → list_all is_name (slice_split is_slash bytes) ≡ false
nul-bad bytes i inside none here =
    let first = nul-first bytes i inside none here in
    rw first.2 (rw (with-nul first.0 first.3) refl)

-- ---- lengths

pub short : (path : List ℕ) → is_long path ≡ false → length path ≤ 255
unfolding is_long
short path fits = elim (cases_Bool (nat_lt 255 (length path))) as (λ _. length path ≤ 255) [
  | inl long ↦ absurd (is-true (rw long at fits))
  | inr few ↦ grind (arith, nat_tests, few)
]
  where
    is-true : true ≡ false → ⊥
    is-true e = cc

pub short-front : (path : List ℕ) (at : ℕ) → is_long path ≡ false → at < length path → length (take at path) ≤ 255
short-front path at fits inside =
    let count : length (take at path) ≡ at = length-take-le at path (omega (arith, inside)) in
    omega (arith, count, short path fits, inside)
