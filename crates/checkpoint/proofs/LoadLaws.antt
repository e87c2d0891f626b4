-- A store is filled from a disk.
use Rattle.std.proofs.Common.{◌≡◌, ◌≢◌, ◌⊎◌, inl, inr, ⊎_elim, ℕ, zero, suc, ◌+◌, ◌<◌, ◌≤◌, Bool, true, false, ◌&&◌, List, [], length, get_or, set, refl, sym, ◌∙◌, ap, subst, arith, add-one}
use Rattle.std.specs.Prelude.{nat_le, nat_lt, Option, Some, IfSome}
use Rattle.std.proofs.lemmas.List.{same_lists, get_or_default, length-set, get_or-set_same, get_or-set_other}
use Rattle.std.proofs.lemmas.Bool.{cases_lt, cases_eq}
use Rattle.std.proofs.lemmas.Bool.Decides.{nat_tests}
use Rattle.obj_store.specs.Ram.{Ram}
use Rattle.disk_layout.specs.Sizes.{home_block, contents_from, entry, content, area_in}
use Rattle.disk_layout.specs.Saved.{home_of, ascends, least, overlaid}
use Rattle.disk_layout.proofs.HomeLaws.{length-home, home-at}
use Rattle.checkpoint.specs.Loading.{KeepsSizes, Laid}

pub keeps-none : (ram : Ram) → KeepsSizes ram ram
keeps-none ram = record { pages = refl; size = refl; dirty = refl }

pub keeps-joined : (old mid new : Ram) → KeepsSizes old mid → KeepsSizes mid new → KeepsSizes old new
keeps-joined old mid new a b = record { pages = b.pages ∙ a.pages; size = b.size ∙ a.size; dirty = b.dirty ∙ a.dirty }

pub keeps-set : (old new : Ram) (number : ℕ) (block : List ℕ) → new ≡ record old { blocks = set old.blocks number block } → KeepsSizes old new
keeps-set old new number block e = record {
  pages = ap (λ (r : Ram). r.pages) e;
  size = ap (λ (r : Ram). length r.blocks) e ∙ length-set old.blocks number block;
  dirty = ap (λ (r : Ram). r.dirty) e;
}

-- home blocks that are read one after the other
pub loaded-more : (blocks number : ℕ) (first now : List ℕ) (old new : Ram) → number < length old.blocks → now ≡ first → new ≡ record old { blocks = set old.blocks number (home_block blocks now number) } → ((b : ℕ) → b < number → get_or old.blocks b [] ≡ home_block blocks first b) → (b : ℕ) → b < number + 1 → get_or new.blocks b [] ≡ home_block blocks first b
loaded-more blocks number first now old new h same e loaded b l =
    let there : new.blocks ≡ set old.blocks number (home_block blocks now number) = ap (λ (r : Ram). r.blocks) e in
    ap (λ (xs : List (List ℕ)). get_or xs b []) there
    ∙ ⊎_elim
    (λ (here : b ≡ number). rw here (get_or-set_same old.blocks number (home_block blocks now number) [] h ∙ ap (λ c. home_block blocks c number) same))
    (λ (other : b ≢ number). get_or-set_other old.blocks number b (home_block blocks now number) [] other ∙ loaded b (omega arith))
    (cases_eq b number)

pub loaded-all : (blocks : ℕ) (contents : List ℕ) (ram : Ram) → blocks ≡ length ram.blocks → ((b : ℕ) → b < blocks → get_or ram.blocks b [] ≡ home_block blocks contents b) → ram.blocks ≡ home_of blocks contents
loaded-all blocks contents ram e loaded =
    same_lists _ _ (sym e ∙ sym (length-home blocks contents))
    (λ k d l.
    let h : k < blocks = omega (arith, e) in
    let m : k < length (home_of blocks contents) = omega (arith, length-home blocks contents) in
    get_or_default ram.blocks k d [] l ∙ loaded k h ∙ sym (home-at blocks contents k h) ∙ get_or_default (home_of blocks contents) k [] d m)

-- entries that are laid one after the other
pub laid-none : (blocks : ℕ) (area : List ℕ) (home : List (List ℕ)) → Laid blocks area home 0 0 home
unfolding ascends least overlaid
laid-none blocks area home = record { sound = refl; next = refl; over = refl }

laid-suc : (blocks : ℕ) (area : List ℕ) (home : List (List ℕ)) (i from number : ℕ) (given : List (List ℕ)) → Laid blocks area home i from given → number ≡ entry area i → from ≤ number → number < blocks → Laid blocks area home (suc i) (number + 1) (set given number (content (contents_from blocks) area i))
unfolding ascends least overlaid
laid-suc blocks area home i from number given laid is low high =
    let a : ascends blocks area i ≡ true = laid.sound in
    let b : nat_le (least area i) (entry area i) ≡ true = (let h : least area i ≤ entry area i = omega (arith, laid.next, is) in grind (arith, nat_tests)) in
    let c : nat_lt (entry area i) blocks ≡ true = (let h : entry area i < blocks = omega (arith, is) in grind (arith, nat_tests)) in
    record {
      sound = rw (a, b, c) refl;
      next = ap (λ k. k + 1) is;
      over =
          ap (λ (xs : List (List ℕ)). set xs number (content (contents_from blocks) area i)) laid.over
          ∙ ap (λ k. set (overlaid (contents_from blocks) area i home) k (content (contents_from blocks) area i)) is;
    }

pub laid-more : (blocks : ℕ) (area now : List ℕ) (home : List (List ℕ)) (i from number : ℕ) (old new : Ram) → now ≡ area → number ≡ entry area i → from ≤ number → number < blocks → new ≡ record old { blocks = set old.blocks number (content (contents_from blocks) now i) } → Laid blocks area home i from old.blocks → Laid blocks area home (i + 1) (number + 1) new.blocks
laid-more blocks area now home i from number old new same is low high e laid =
    let there : new.blocks ≡ set old.blocks number (content (contents_from blocks) area i) =
    ap (λ (r : Ram). r.blocks) e ∙ ap (λ (a : List ℕ). set old.blocks number (content (contents_from blocks) a i)) same in
    subst (λ k. Laid blocks area home k (number + 1) new.blocks) (sym (add-one i))
    (subst (λ xs. Laid blocks area home (suc i) (number + 1) xs) (sym there) (laid-suc blocks area home i from number old.blocks laid is low high))

-- an entry that isn't right
wrong-suc : (blocks : ℕ) (area : List ℕ) (i from number : ℕ) → from ≡ least area i → number ≡ entry area i → (number < from) ⊎ (blocks ≤ number) → ascends blocks area (suc i) ≡ false
unfolding ascends
wrong-suc blocks area i from number next is (inl low) =
    let b : nat_le (least area i) (entry area i) ≡ false = (let h : entry area i < least area i = omega (arith, next, is) in grind (arith, nat_tests)) in
    ap (λ x. ascends blocks area i && (x && nat_lt (entry area i) blocks)) b ∙ and_false (ascends blocks area i)
  where
    and_false : (x : Bool) → (x && false) ≡ false
    and_false true = refl
    and_false false = refl
wrong-suc blocks area i from number next is (inr high) =
    let c : nat_lt (entry area i) blocks ≡ false = (let h : blocks ≤ entry area i = omega (arith, is) in grind (arith, nat_tests)) in
    ap (λ x. ascends blocks area i && (nat_le (least area i) (entry area i) && x)) c ∙ both_false (ascends blocks area i) (nat_le (least area i) (entry area i))
  where
    both_false : (x y : Bool) → (x && (y && false)) ≡ false
    both_false true true = refl
    both_false true false = refl
    both_false false y = refl

pub wrong-entry : (blocks : ℕ) (area : List ℕ) (home : List (List ℕ)) (i from number : ℕ) (given : List (List ℕ)) → Laid blocks area home i from given → number ≡ entry area i → (number < from) ⊎ (blocks ≤ number) → ascends blocks area (i + 1) ≡ false
wrong-entry blocks area home i from number given laid is wrong =
    subst (λ k. ascends blocks area k ≡ false) (sym (add-one i)) (wrong-suc blocks area i from number laid.next is wrong)

-- so are more entries
ascends-fewer : (blocks : ℕ) (area : List ℕ) (n : ℕ) → ascends blocks area n ≡ false → ascends blocks area (suc n) ≡ false
unfolding ascends
ascends-fewer blocks area n e = ap (λ b. b && (nat_le (least area n) (entry area n) && nat_lt (entry area n) blocks)) e

pub wrong-more : (blocks : ℕ) (area : List ℕ) (m n : ℕ) → m ≤ n → ascends blocks area m ≡ false → ascends blocks area n ≡ false
wrong-more blocks area m zero h e = let same : m ≡ 0 = omega arith in subst (λ k. ascends blocks area k ≡ false) same e
wrong-more blocks area m (suc n) h e =
    ⊎_elim (λ (l : m < suc n). ascends-fewer blocks area n (wrong-more blocks area m n (omega arith) e))
    (λ (l : suc n ≤ m). let same : m ≡ suc n = omega arith in subst (λ k. ascends blocks area k ≡ false) same e)
    (cases_lt m (suc n))

-- The same area of a disk that was only read.
module _ (blocks start : ℕ) (first now : List ℕ) (home : List (List ℕ)) (i from : ℕ) (given : List (List ℕ)) (same : now ≡ first) where
  pub laid-from : Laid blocks (area_in blocks start first) home i from given → Laid blocks (area_in blocks start now) home i from given
  laid-from laid = subst (λ c. Laid blocks (area_in blocks start c) home i from given) (sym same) laid

  pub laid-back : Laid blocks (area_in blocks start now) home i from given → Laid blocks (area_in blocks start first) home i from given
  laid-back laid = subst (λ c. Laid blocks (area_in blocks start c) home i from given) same laid

pub wrong-back : (blocks start : ℕ) (first now : List ℕ) (m n : ℕ) → now ≡ first → m ≤ n → ascends blocks (area_in blocks start now) m ≡ false → ascends blocks (area_in blocks start first) n ≡ false
wrong-back blocks start first now m n same h e =
    wrong-more blocks (area_in blocks start first) m n h (subst (λ c. ascends blocks (area_in blocks start c) m ≡ false) same e)

pub laid-all : (blocks : ℕ) (area : List ℕ) (home : List (List ℕ)) (i n from : ℕ) (given : List (List ℕ)) → i ≡ n → Laid blocks area home i from given → (ascends blocks area n ≡ true) × (given ≡ overlaid (contents_from blocks) area n home)
laid-all blocks area home i n from given e laid =
    (subst (λ k. ascends blocks area k ≡ true) e laid.sound, subst (λ k. given ≡ overlaid (contents_from blocks) area k home) e laid.over)

pub some-at : (o : Option ℕ) (x : ℕ) (P : ℕ → Type 0) → o ≡ Some x → IfSome o P → P x
some-at o x P e h = let there : IfSome (Some x) P = subst (λ r. IfSome r P) e h in there
