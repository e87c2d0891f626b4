-- The first hole of a directory: an entry more stands there.
use Rattle.std.proofs.Common.{◌≡◌, ℕ, zero, suc, ◌-◌, ◌<◌, Bool, true, false, ◌&&◌, Option, Some, None, List, [], ◌∷◌, ◌++◌, length, length-append, append_assoc, set, refl, ap, sym, subst, ◌∙◌, arith}
use Rattle.std.specs.Option.{is_some}
use Rattle.std.specs.Prelude.{is_none, if◌then◌else◌}
use Rattle.std.specs.List.{list_all}
use Rattle.std.proofs.lemmas.List.{set-append_left, set-append_right}
use Rattle.unix_model.specs.Files.{Entry, with_entry}
use Rattle.unix_model.specs.Tables.{least_below, option_or}
use Rattle.kernel_machine.specs.Contents.{places_in}
use Rattle.kernel_machine.proofs.PagesHeld.{places-long}
use Rattle.dir_domain.specs.Places.{numbered_place, is_hole}

-- no place is a hole, and an entry more stands behind them
pub record HasNoHole (places : List (Option Entry)) : Type 0 where
  pub all : list_all is_some places ≡ true
  pub ends : (entry : Entry) → with_entry places entry ≡ places ++ Some entry ∷ []

-- the first hole, in which an entry more stands
pub record IsFirstHole (places : List (Option Entry)) (hole : ℕ) : Type 0 where
  pub inside : hole < length places
  pub some : list_all is_some places ≡ false
  pub filled : (entry : Entry) → with_entry places entry ≡ set places hole (Some entry)

all-more : (places : List (Option Entry)) (last : Option Entry) → list_all is_some (places ++ last ∷ []) ≡ (list_all is_some places && is_some last)
all-more [] None = refl
all-more [] (Some entry) = refl
all-more (None ∷ places) last = refl
all-more (Some entry ∷ places) last = all-more places last

ends-more : (places : List (Option Entry)) (last : Option Entry) (entry : Entry) → list_all is_some places ≡ true → with_entry (places ++ last ∷ []) entry ≡ places ++ with_entry (last ∷ []) entry
ends-more [] last entry e = refl
ends-more (None ∷ places) last entry e = absurd (let no : false ≡ true = e in cc)
ends-more (Some first ∷ places) last entry e = ap (λ (more : List (Option Entry)). Some first ∷ more) (ends-more places last entry e)

fills-more : (places : List (Option Entry)) (last : Option Entry) (entry : Entry) → list_all is_some places ≡ false → with_entry (places ++ last ∷ []) entry ≡ with_entry places entry ++ last ∷ []
fills-more [] last entry e = absurd (let no : true ≡ false = e in cc)
fills-more (None ∷ places) last entry e = refl
fills-more (Some first ∷ places) last entry e = ap (λ (more : List (Option Entry)). Some first ∷ more) (fills-more places last entry e)

abbrev Tells : List (Option Entry) → Option ℕ → Type 0
Tells places None = HasNoHole places
Tells places (Some hole) = IsFirstHole places hole

module _ (places : List (Option Entry)) (n : ℕ) (long : length places ≡ n) where
  still : (hole : ℕ) (last : Option Entry) → IsFirstHole places hole → IsFirstHole (places ++ last ∷ []) hole
  still hole last first = record {
    inside = let h = first.inside in omega (arith, length-append places (last ∷ []));
    some = all-more places last ∙ ap (λ b. b && is_some last) first.some;
    filled = λ entry.
        fills-more places last entry first.some
        ∙ ap (λ (front : List (Option Entry)). front ++ last ∷ []) (first.filled entry)
        ∙ sym (set-append_left places (last ∷ []) hole (Some entry) first.inside);
  }

  here : (last : Option Entry) → HasNoHole places → is_none last ≡ true → IsFirstHole (places ++ last ∷ []) n
  here (Some entry) none e = absurd (let no : false ≡ true = e in cc)
  here None none e =
      let zero_more : n - n ≡ 0 = omega arith in
      record {
        inside = omega (arith, length-append places (None ∷ []), long);
        some = all-more places None ∙ ap (λ b. b && false) none.all;
        filled = λ entry.
            ends-more places None entry none.all
            ∙ ap (λ i. places ++ set (None ∷ []) i (Some entry)) (sym zero_more)
            ∙ sym (set-append_right places (None ∷ []) n n (Some entry) long (omega arith));
      }

  more : (last : Option Entry) → HasNoHole places → is_none last ≡ false → HasNoHole (places ++ last ∷ [])
  more None none e = absurd (let no : true ≡ false = e in cc)
  more (Some taken) none e = record {
    all = all-more places (Some taken) ∙ ap (λ b. b && true) none.all;
    ends = λ entry. ends-more places (Some taken) entry none.all ∙ sym (append_assoc places (Some taken ∷ []) (Some entry ∷ []));
  }

  step : (before : Option ℕ) (last : Option Entry) → Tells places before → (test : Bool) → is_none last ≡ test → Tells (places ++ last ∷ []) (option_or before (if test then Some n else None))
  step (Some hole) last first test e = still hole last first
  step None last none true e = here last none e
  step None last none false e = more last none e

tells : (bytes : List ℕ) (n : ℕ) → Tells (places_in bytes n) (least_below (is_hole bytes) n)
unfolding least_below places_in is_hole
tells bytes zero = record { all = refl; ends = λ entry. refl }
tells bytes (suc n) = step (places_in bytes n) n (places-long bytes n) (least_below (is_hole bytes) n) (numbered_place bytes n) (tells bytes n) (is_hole bytes n) refl

pub first-hole : (bytes : List ℕ) (n hole : ℕ) → Some hole ≡ least_below (is_hole bytes) n → IsFirstHole (places_in bytes n) hole
first-hole bytes n hole e = subst (Tells (places_in bytes n)) (sym e) (tells bytes n)

pub no-hole : (bytes : List ℕ) (n : ℕ) → None ≡ least_below (is_hole bytes) n → HasNoHole (places_in bytes n)
no-hole bytes n e = subst (Tells (places_in bytes n)) (sym e) (tells bytes n)
