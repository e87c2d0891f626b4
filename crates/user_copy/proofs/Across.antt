-- Bytes that are put into one page, or into two.
use Rattle.std.proofs.Common.{inl, inr, ◌⊎◌, ◌≡◌, ◌≢◌, ◌<◌, ◌≤◌, ◌+◌, ◌-◌, ◌*◌, ◌/◌, ◌%◌, ◌^◌, ℕ, true, Option, Some, None, List, [], ◌∷◌, ◌++◌, length, take, drop, length-drop, refl, ap, sym, subst, ◌∙◌, arith, ⊎_elim, add-zero, length-append}
use Rattle.std.specs.Option.{is_some, IsSome}
use Rattle.std.proofs.lemmas.List.{length-take-le, take_all, take-append-drop}
use Rattle.kn_base.proofs.RowLaws.{length-part_at}
use Rattle.std.proofs.lemmas.Bool.{cases_eq, cases_lt, eq-eqb, ne_eqb}
use Rattle.kernel_tables.specs.declared.entry.PageOwner.{PageOwner}
use Rattle.kernel_tables.specs.Kernel.{Kernel, IsBankPage, memory_page}
use Rattle.space_bank.specs.Bank.{BankGood}
use Rattle.unix_model.specs.Memory.{Memory, Page, with_bytes, is_writable, all_writable}
use Rattle.forest.specs.Walks.{Mapping, map_of}
use Rattle.forest.specs.Forest.{Forest, IsSpace, Sound}
use Rattle.forest.specs.Calls.{IsOwn}
use Rattle.forest.proofs.RootLaws.{root_trans}
use Rattle.kernel_forest.specs.Trees.{forest_of}
use Rattle.kernel_forest.specs.Owners.{page_owners, PagesAreOf, TakesFor}
use Rattle.kernel_forest.proofs.Owners.{takes-takes}
use Rattle.seg_tree.proofs.Emptying.{unreleased_trans}
use Rattle.user_copy.specs.SpaceMemory.{page_of, space_memory}
use Rattle.seg_tree.specs.Writes.{writable_mapping, may_write}
use Rattle.seg_tree.specs.Ways.{HasOwnWay}
use Rattle.user_copy.specs.Writing.{MakesOwn, IsOwnInTurn, CountsPage, is_own, is_other, NotOwn, pages_touched, owner_for, PutsPiece, PutsBytes}
use Rattle.user_copy.proofs.Bytes.{bytes_put, bytes_put_more, each_may, all_may, Writable, page_may, may_elsewhere}
use Rattle.user_copy.proofs.Pages.{found_inside, memory_found, memory_none, memory_far}
use Rattle.user_copy.proofs.Pieces.{WholePages}
use Rattle.user_copy.proofs.Turns.{map_here, map_there, own_now, own_in_turn, own_stays}

-- ---- the first page is own in turn where it is own

pub turn_own : (forest : Forest) (space page : ℕ) (found : Mapping) → IsOwnInTurn forest space page page found → IsOwn forest space page found
turn_own forest space page found turn = record {
  mapped = turn.mapped;
  real = turn.real;
  alone = λ other number other_found still e same.
      let reached = turn.alone other number other_found still e same in
      let low : page ≤ number = reached.1 in
      let high : number ≤ page = reached.2 in
      (reached.0, omega arith);
}

pub own_turn : (forest : Forest) (space page : ℕ) (found : Mapping) → IsOwn forest space page found → IsOwnInTurn forest space page page found
own_turn forest space page found own = record {
  mapped = own.mapped;
  real = own.real;
  alone = λ other number other_found still e same.
      let reached = own.alone other number other_found still e same in
      let here : number ≡ page = reached.1 in
      (reached.0, omega arith, omega arith);
}

-- ---- one page and two pages

pub one_counted : (forest : Forest) (space page taken : ℕ) → NotOwn forest space page 1 taken → CountsPage forest space page page 0 taken
unfolding NotOwn
one_counted forest space page taken h =
    subst (λ p. CountsPage forest space page p 0 taken) (add-zero page) (subst (λ before. CountsPage forest space page (page + 0) before taken) h.1 h.2)

pub count_one : (forest : Forest) (space page taken : ℕ) → CountsPage forest space page page 0 taken → NotOwn forest space page 1 taken
unfolding NotOwn
count_one forest space page taken h = (0, refl, subst (λ p. CountsPage forest space page p 0 taken) (sym (add-zero page)) h)

pub two_counted : (forest : Forest) (space page taken : ℕ) → NotOwn forest space page 2 taken
    → (before : ℕ) × CountsPage forest space page page 0 before × CountsPage forest space page (page + 1) before taken
unfolding NotOwn
two_counted forest space page taken h = (h.0, one_counted forest space page h.0 h.1, h.2)

pub count_two : (forest : Forest) (space page before taken : ℕ) → CountsPage forest space page page 0 before → CountsPage forest space page (page + 1) before taken
    → NotOwn forest space page 2 taken
unfolding NotOwn
count_two forest space page before taken first second = (before, count_one forest space page before first, second)

pub touched_none : (address n : ℕ) → n ≡ 0 → pages_touched address n ≡ 0
touched_none address n none = rw (eq-eqb n 0 none) refl

pub touched_one : (address n : ℕ) → 0 < n → address % 4096 + n ≤ 4096 → pages_touched address n ≡ 1
touched_one address n some within = rw (ne_eqb n 0 (λ e. absurd (omega arith))) (omega arith)

pub touched_two : (address n : ℕ) → address % 4096 + n ≤ 8192 → 4096 < address % 4096 + n → pages_touched address n ≡ 2
touched_two address n few past = rw (ne_eqb n 0 (λ e. absurd (omega arith))) (omega arith)

-- ---- room for pages

pub room_for_one : (forest : Forest) (space page pages size : ℕ) (found : Mapping) → map_of forest.keys space page ≡ Some found
    → ((taken : ℕ) → NotOwn forest space page 1 taken → pages + taken ≤ size) → (IsOwn forest space page found → ⊥) → pages < size
room_for_one forest space page pages size found mapped room shared =
    let r : pages + 1 ≤ size = room 1 (count_one forest space page 1 (is_other found mapped (λ turn. shared (turn_own forest space page found turn)) refl)) in
    omega arith

module _ (forest : Forest) (space page pages size : ℕ) (found next : Mapping) (mapped : map_of forest.keys space page ≡ Some found) (mapped_next : map_of forest.keys space (page + 1) ≡ Some next)
    (room : (taken : ℕ) → NotOwn forest space page 2 taken → pages + taken ≤ size) where
  other_first : (IsOwn forest space page found → ⊥) → CountsPage forest space page page 0 1
  other_first shared = is_other found mapped (λ turn. shared (turn_own forest space page found turn)) refl

  pub room_for_first : (IsOwn forest space page found → ⊥) → pages < size
  room_for_first shared = ⊎_elim
      (λ (t : pages < size). t)
      (λ (t : size ≤ pages).
      let not_next : IsOwnInTurn forest space page (page + 1) next → ⊥ = λ turn.
      let r : pages + 1 ≤ size = room 1 (count_two forest space page 1 1 (other_first shared) (is_own next turn refl)) in absurd (omega arith) in
      let r : pages + 2 ≤ size = room 2 (count_two forest space page 1 2 (other_first shared) (is_other next mapped_next not_next refl)) in
      absurd (omega arith))
      (cases_lt pages size)

  pub room_for_second : (new : Forest) (result pages_now : ℕ) → IsSpace forest [] space → MakesOwn forest new space page result
      → (IsOwn forest space page found → pages_now ≡ pages) → ((IsOwn forest space page found → ⊥) → pages_now ≡ pages + 1)
      → (again : Mapping) → map_of new.keys space (page + 1) ≡ Some again → (IsOwn new space (page + 1) again → ⊥) → pages_now < size
  room_for_second new result pages_now is owns kept copied again e shared =
      let mapped_again : map_of forest.keys space (page + 1) ≡ Some again = sym (map_there forest new space page result is owns (page + 1) (λ p. absurd (omega arith))) ∙ e in
      let not_second : IsOwnInTurn forest space page (page + 1) again → ⊥ = λ turn. shared (own_now forest new space page result is owns again turn) in
      ⊎_elim
      (λ (t : pages_now < size). t)
      (λ (t : size ≤ pages_now).
      let not_first : IsOwn forest space page found → ⊥ = λ own.
      let r : pages + 1 ≤ size = room 1 (count_two forest space page 0 1 (is_own found (own_turn forest space page found own) refl) (is_other again mapped_again not_second refl)) in
      let k : pages_now ≡ pages = kept own in absurd (omega arith) in
      let r : pages + 2 ≤ size = room 2 (count_two forest space page 1 2 (other_first not_first) (is_other again mapped_again not_second refl)) in
      let k : pages_now ≡ pages + 1 = copied not_first in
      absurd (omega arith))
      (cases_lt pages_now size)

-- ---- how many pages are taken

-- a page that is own, or isn't, is counted
told_counted : (forest : Forest) (space first page before : ℕ) (found : Mapping) → map_of forest.keys space page ≡ Some found
    → IsOwnInTurn forest space first page found ⊎ (IsOwnInTurn forest space first page found → ⊥) → (taken : ℕ) × CountsPage forest space first page before taken
told_counted forest space first page before found mapped told = ⊎_elim
    (λ (turn : IsOwnInTurn forest space first page found). (before, is_own found turn refl))
    (λ (shared : IsOwnInTurn forest space first page found → ⊥). (before + 1, is_other found mapped shared refl))
    told

told_turn : (forest : Forest) (space page : ℕ) (found : Mapping) → IsOwn forest space page found ⊎ (IsOwn forest space page found → ⊥)
    → IsOwnInTurn forest space page page found ⊎ (IsOwnInTurn forest space page page found → ⊥)
told_turn forest space page found told = ⊎_elim
    (λ (own : IsOwn forest space page found). inl (own_turn forest space page found own))
    (λ (shared : IsOwn forest space page found → ⊥). inr (λ (turn : IsOwnInTurn forest space page page found). shared (turn_own forest space page found turn)))
    told

one_taken : (forest : Forest) (space first page before taken pages pages_now : ℕ) (found : Mapping) → map_of forest.keys space page ≡ Some found
    → (IsOwnInTurn forest space first page found → pages_now ≡ pages) → ((IsOwnInTurn forest space first page found → ⊥) → pages_now ≡ pages + 1)
    → CountsPage forest space first page before taken → pages_now + before ≡ pages + taken
one_taken forest space first page before taken pages pages_now found mapped kept copied (is_own other turn e) =
    let same : Some other ≡ Some found = sym turn.mapped ∙ mapped in
    let it : other ≡ found = cc in
    let k : pages_now ≡ pages = kept (subst (IsOwnInTurn forest space first page) it turn) in
    omega arith
one_taken forest space first page before taken pages pages_now found mapped kept copied (is_other other e shared n) =
    let same : Some found ≡ Some other = sym mapped ∙ e in
    let it : found ≡ other = cc in
    let k : pages_now ≡ pages + 1 = copied (λ turn. shared (subst (IsOwnInTurn forest space first page) it turn)) in
    omega arith

-- ---- what was mapped is so still

still_mapped : (old new : Forest) (space page result : ℕ) → IsSpace old [] space → MakesOwn old new space page result
    → (number : ℕ) → IsSome (map_of old.keys space number) → IsSome (map_of new.keys space number)
still_mapped old new space page result is owns number some = ⊎_elim
    (λ (t : number ≡ page). ap is_some (ap (map_of new.keys space) t ∙ map_here old new space page result is owns))
    (λ (t : number ≡ page → ⊥). ap is_some (map_there old new space page result is owns number t) ∙ some)
    (cases_eq number page)

-- ---- no byte

pub nothing_put : (kernel : Kernel) (space address : ℕ) (bytes : List ℕ) → length bytes ≡ 0 → PutsBytes kernel kernel space address bytes
unfolding NotOwn with_bytes
nothing_put kernel space address (byte ∷ bytes) none = absurd (omega arith)
nothing_put kernel space address [] none = record {
  trees = λ outside was. was;
  spaces = λ other. (λ was. was, λ was. was);
  roots = λ other is. record { was = is; owner = refl; keeper = refl };
  here = refl;
  others = λ other was apart. refl;
  maps = λ other was apart. refl;
  own = λ page touched. absurd (let some : 0 < 0 = touched.0 in omega arith);
  filled = λ was. was;
  outside_now = λ outside. refl;
  rows_now = λ mine apart. refl;
  apart_now = refl;
  owners_now = λ page. inl refl;
  owned = λ are. are;
  inside = λ outside was within. within;
  rest = refl;
  pages = λ number page off. refl;
  counted = (0, refl);
  taken = λ taken counts. let zero_taken : taken ≡ 0 = counts in omega arith;
  mapped = λ page some. some;
  ways = λ mine page still own. own;
  most = omega arith;
  none = λ ways. refl;
}

-- ---- one piece

module _ (k0 k1 : Kernel) (space address : ℕ) (bytes : List ℕ) (owner : PageOwner) (which : owner ≡ owner_for k0 space)
    (is : IsSpace (forest_of k0) [] space) (piece : PutsPiece k0 k1 space address bytes owner)
    (some : 0 < length bytes) (inside : address % 4096 + length bytes ≤ 4096) where
  pub one_piece : PutsBytes k0 k1 space address bytes
  one_piece = record {
    trees = piece.trees;
    spaces = piece.owns.spaces;
    roots = piece.owns.roots;
    here = piece.here;
    others = piece.others;
    maps = piece.owns.others;
    own = λ page touched.
        let low : address / 4096 ≤ page = touched.1 in
        let high : 4096 * page < address + length bytes = touched.2 in
        let here : address / 4096 ≡ page = omega arith in
        (piece.result, subst (λ p. IsOwn (forest_of k1) space p (writable_mapping piece.result)) here piece.owns.own);
    filled = piece.filled;
    outside_now = piece.outside_now;
    rows_now = piece.rows_now;
    apart_now = piece.apart_now;
    owners_now = subst (λ o. TakesFor o k0 k1) which piece.owners_now;
    owned = subst (λ o. PagesAreOf o (page_owners k0) (map_of (forest_of k0).keys space) → PagesAreOf o (page_owners k1) (map_of (forest_of k1).keys space)) which piece.owned;
    inside = piece.inside;
    rest = piece.rest;
    pages = λ number page off. piece.pages number page (λ e.
        off (address / 4096) (writable_mapping piece.result) (some, omega arith, omega arith) (map_here (forest_of k0) (forest_of k1) space (address / 4096) piece.result is piece.owns) (sym e));
    counted =
        let one = told_counted (forest_of k0) space (address / 4096) (address / 4096) 0 piece.found piece.mapped (told_turn (forest_of k0) space (address / 4096) piece.found piece.told) in
        (one.0, subst (λ n. NotOwn (forest_of k0) space (address / 4096) n one.0) (sym (touched_one address (length bytes) some inside)) (count_one (forest_of k0) space (address / 4096) one.0 one.1));
    taken = λ taken counts.
        let all = one_taken (forest_of k0) space (address / 4096) (address / 4096) 0 taken k0.machine.pages_taken k1.machine.pages_taken piece.found piece.mapped
        (λ turn. piece.kept (turn_own (forest_of k0) space (address / 4096) piece.found turn))
        (λ shared. piece.copied (λ own. shared (own_turn (forest_of k0) space (address / 4096) piece.found own)))
        (one_counted (forest_of k0) space (address / 4096) taken
        (subst (λ n. NotOwn (forest_of k0) space (address / 4096) n taken) (touched_one address (length bytes) some inside) counts)) in
        omega arith;
    mapped = still_mapped (forest_of k0) (forest_of k1) space (address / 4096) piece.result is piece.owns;
    ways = piece.ways;
    most = let most = piece.most in omega arith;
    none = λ ways. piece.none (ways (address / 4096) (some, omega arith, omega arith));
  }

-- ---- two pieces

module _ (k0 k1 k2 : Kernel) (space address next : ℕ) (first rest : List ℕ) (owner : PageOwner) (which : owner ≡ owner_for k0 space) (is : IsSpace (forest_of k0) [] space)
    (begins : next ≡ address + length first) (full : address % 4096 + length first ≡ 4096) (some : 0 < length rest) (few : address % 4096 + (length first + length rest) ≤ 8192)
    (a : PutsPiece k0 k1 space address first owner) (b : PutsPiece k1 k2 space next rest owner) where
  next_page : next / 4096 ≡ address / 4096 + 1
  next_page = omega arith

  second : MakesOwn (forest_of k1) (forest_of k2) space (address / 4096 + 1) b.result
  second = subst (λ p. MakesOwn (forest_of k1) (forest_of k2) space p b.result) next_page b.owns

  is_now : IsSpace (forest_of k1) [] space
  is_now = (a.owns.spaces space).0 is

  sizes : k1.size ≡ k0.size
  sizes = ap (λ (k : Kernel). k.size) a.rest

  first_now : map_of (forest_of k2).keys space (address / 4096) ≡ Some (writable_mapping a.result)
  first_now =
      map_there (forest_of k1) (forest_of k2) space (address / 4096 + 1) b.result is_now second (address / 4096) (λ e. absurd (omega arith))
      ∙ map_here (forest_of k0) (forest_of k1) space (address / 4096) a.result is a.owns

  memory_here : space_memory k2 space ≡ with_bytes (space_memory k0 space) address (first ++ rest)
  memory_here =
      b.here
      ∙ ap (λ (m : Memory). with_bytes m next rest) a.here
      ∙ ap (λ n. with_bytes (with_bytes (space_memory k0 space) address first) n rest) begins
      ∙ sym (bytes_put_more (space_memory k0 space) address first rest)

  own_pages : (p : ℕ) → address / 4096 ≤ p → 4096 * p < address + length (first ++ rest) → (result : ℕ) × IsOwn (forest_of k2) space p (writable_mapping result)
  own_pages p low high = ⊎_elim
      (λ (t : address / 4096 ≡ p). (
        a.result,
        subst (λ q. IsOwn (forest_of k2) space q (writable_mapping a.result)) t
            (own_stays (forest_of k1) (forest_of k2) space (address / 4096 + 1) b.result is_now second (address / 4096) (writable_mapping a.result) (λ e. absurd (omega arith)) a.owns.own),
      ))
      (λ (t : address / 4096 ≡ p → ⊥).
      let last : address / 4096 + 1 ≡ p = omega (arith, length-append first rest) in
      (b.result, subst (λ q. IsOwn (forest_of k2) space q (writable_mapping b.result)) last second.own))
      (cases_eq (address / 4096) p)

  second_told : IsOwnInTurn (forest_of k0) space (address / 4096) (address / 4096 + 1) b.found ⊎ (IsOwnInTurn (forest_of k0) space (address / 4096) (address / 4096 + 1) b.found → ⊥)
  second_told = ⊎_elim
      (λ (own : IsOwn (forest_of k1) space (next / 4096) b.found).
      inl (own_in_turn (forest_of k0) (forest_of k1) space (address / 4096) a.result is a.owns b.found (subst (λ p. IsOwn (forest_of k1) space p b.found) next_page own)))
      (λ (shared : IsOwn (forest_of k1) space (next / 4096) b.found → ⊥).
      inr (λ (turn : IsOwnInTurn (forest_of k0) space (address / 4096) (address / 4096 + 1) b.found).
      shared (subst (λ p. IsOwn (forest_of k1) space p b.found) (sym next_page) (own_now (forest_of k0) (forest_of k1) space (address / 4096) a.result is a.owns b.found turn))))
      b.told

  second_mapped : map_of (forest_of k0).keys space (address / 4096 + 1) ≡ Some b.found
  second_mapped =
      sym (map_there (forest_of k0) (forest_of k1) space (address / 4096) a.result is a.owns (address / 4096 + 1) (λ e. absurd (omega arith)))
      ∙ ap (map_of (forest_of k1).keys space) (sym next_page) ∙ b.mapped

  both_counted : (taken : ℕ) × NotOwn (forest_of k0) space (address / 4096) 2 taken
  both_counted =
      let one = told_counted (forest_of k0) space (address / 4096) (address / 4096) 0 a.found a.mapped (told_turn (forest_of k0) space (address / 4096) a.found a.told) in
      let two = told_counted (forest_of k0) space (address / 4096) (address / 4096 + 1) one.0 b.found second_mapped second_told in
      (two.0, count_two (forest_of k0) space (address / 4096) one.0 two.0 one.1 two.1)

  pages_taken_now : (taken : ℕ) → NotOwn (forest_of k0) space (address / 4096) 2 taken → k2.machine.pages_taken ≡ k0.machine.pages_taken + taken
  pages_taken_now taken counts =
      let both = two_counted (forest_of k0) space (address / 4096) taken counts in
      let one : k1.machine.pages_taken + 0 ≡ k0.machine.pages_taken + both.0
      = one_taken (forest_of k0) space (address / 4096) (address / 4096) 0 both.0 k0.machine.pages_taken k1.machine.pages_taken a.found a.mapped
      (λ turn. a.kept (turn_own (forest_of k0) space (address / 4096) a.found turn))
      (λ shared. a.copied (λ own. shared (own_turn (forest_of k0) space (address / 4096) a.found own)))
      both.1 in
      let two : k2.machine.pages_taken + both.0 ≡ k1.machine.pages_taken + taken
      = one_taken (forest_of k0) space (address / 4096) (address / 4096 + 1) both.0 taken k1.machine.pages_taken k2.machine.pages_taken b.found second_mapped
      (λ turn. b.kept (subst (λ p. IsOwn (forest_of k1) space p b.found) (sym next_page) (own_now (forest_of k0) (forest_of k1) space (address / 4096) a.result is a.owns b.found turn)))
      (λ shared. b.copied (λ own. shared (own_in_turn (forest_of k0) (forest_of k1) space (address / 4096) a.result is a.owns b.found
      (subst (λ p. IsOwn (forest_of k1) space p b.found) next_page own))))
      both.2 in
      omega arith

  pub two_pieces : PutsBytes k0 k2 space address (first ++ rest)
  two_pieces = record {
    trees = λ outside was. b.trees outside (a.trees outside was);
    spaces = λ other. (λ was. (b.owns.spaces other).0 ((a.owns.spaces other).0 was), λ now. (a.owns.spaces other).1 ((b.owns.spaces other).1 now));
    roots = λ other now.
        let last = b.owns.roots other now in
        root_trans (forest_of k0) (forest_of k1) (forest_of k2) [] [] other (a.owns.roots other last.was) last;
    here = memory_here;
    others = λ other was apart. b.others other ((a.owns.spaces other).0 was) apart ∙ a.others other was apart;
    maps = λ other was apart. b.owns.others other ((a.owns.spaces other).0 was) apart ∙ a.owns.others other was apart;
    own = λ p touched. own_pages p touched.1 touched.2;
    filled = λ was. b.filled (a.filled was);
    outside_now = λ outside. b.outside_now outside ∙ a.outside_now outside;
    rows_now = λ mine apart. b.rows_now mine apart ∙ a.rows_now mine apart;
    apart_now = b.apart_now ∙ a.apart_now;
    owners_now = subst (λ o. TakesFor o k0 k2) which (takes-takes owner k0 k1 k2 a.owners_now b.owners_now);
    owned = subst (λ o. PagesAreOf o (page_owners k0) (map_of (forest_of k0).keys space) → PagesAreOf o (page_owners k2) (map_of (forest_of k2).keys space)) which
        (λ are. b.owned (a.owned are));
    inside = λ outside was within. b.inside outside (a.trees outside was) (a.inside outside was within);
    rest = unreleased_trans k0 k1 k2 a.rest b.rest;
    pages = λ number p off.
        b.pages number (subst (λ s. IsBankPage s number) (sym sizes) p) (λ e.
        off (address / 4096 + 1) (writable_mapping b.result) (omega (arith, length-append first rest), omega arith, omega (arith, length-append first rest)) (map_here (forest_of k1) (forest_of k2) space (address / 4096 + 1) b.result is_now second) (sym e))
        ∙ a.pages number p (λ e. off (address / 4096) (writable_mapping a.result) (omega (arith, length-append first rest), omega arith, omega (arith, length-append first rest)) first_now (sym e));
    counted = (
      both_counted.0,
      subst (λ n. NotOwn (forest_of k0) space (address / 4096) n both_counted.0)
          (sym (ap (pages_touched address) (length-append first rest) ∙ touched_two address (length first + length rest) few (omega arith))) both_counted.1,
    );
    taken = λ taken counts.
        pages_taken_now taken (subst (λ n. NotOwn (forest_of k0) space (address / 4096) n taken)
        (ap (pages_touched address) (length-append first rest) ∙ touched_two address (length first + length rest) few (omega arith)) counts);
    mapped = λ page some.
        still_mapped (forest_of k1) (forest_of k2) space (address / 4096 + 1) b.result is_now second page
        (still_mapped (forest_of k0) (forest_of k1) space (address / 4096) a.result is a.owns page some);
    ways = λ mine page still own. b.ways mine page ((a.owns.spaces mine).0 still) (a.ways mine page still own);
    most = let m = a.most in let n = b.most in omega arith;
    none = λ ways.
        b.none (subst (HasOwnWay k1 space) (sym next_page) (a.ways space (address / 4096 + 1) is
        (ways (address / 4096 + 1) (omega (arith, length-append first rest), omega arith, omega (arith, length-append first rest)))))
        ∙ a.none (ways (address / 4096) (omega (arith, length-append first rest), omega arith, omega (arith, length-append first rest)));
  }

-- ---- what may be written

-- a page of which a byte may be written is below 2^19, and mapped
pub may_low : (kernel : Kernel) (space address : ℕ) → is_writable (space_memory kernel space) address ≡ true → address / 4096 < 2 ^ 19
may_low kernel space address may = ⊎_elim
    (λ (t : address / 4096 < 2 ^ 19). t)
    (λ (t : 2 ^ 19 ≤ address / 4096).
    let page = page_may (space_memory kernel space) address may in
    let no : Some page.page ≡ None = sym page.mapped ∙ memory_far kernel space (address / 4096) t in cc)
    (cases_lt (address / 4096) (2 ^ 19))

pub record MayWrite (kernel : Kernel) (space page : ℕ) : Type 0 where
  pub found : Mapping
  pub mapped : map_of (forest_of kernel).keys space page ≡ Some found
  pub may : may_write (map_of (forest_of kernel).keys space page) ≡ true

pub may_found : (kernel : Kernel) (space address : ℕ) → is_writable (space_memory kernel space) address ≡ true → MayWrite kernel space (address / 4096)
may_found kernel space address may = go (map_of (forest_of kernel).keys space (address / 4096)) refl
  where
    page : Writable (space_memory kernel space) (address / 4096)
    page = page_may (space_memory kernel space) address may

    go : (found : Option Mapping) → map_of (forest_of kernel).keys space (address / 4096) ≡ found → MayWrite kernel space (address / 4096)
    go None is = let no : Some page.page ≡ None = sym page.mapped ∙ memory_none kernel space (address / 4096) is in cc
    go (Some found) is =
        let same : Some page.page ≡ Some (page_of (memory_page kernel) found) = sym page.mapped ∙ memory_found kernel space (address / 4096) found is in
        let it : page.page ≡ page_of (memory_page kernel) found = cc in
        record { found = found; mapped = is; may = ap may_write is ∙ sym (ap (λ (p : Page). p.writable) it) ∙ page.may }

-- the second page may be written after the first one was
module _ (k0 k1 : Kernel) (space address next : ℕ) (first : List ℕ) (good : BankGood k0) (sound : Sound (forest_of k0)) (is : IsSpace (forest_of k0) [] space) (lengths : WholePages k0)
    (begins : next ≡ address + length first) (full : address % 4096 + length first ≡ 4096) (owner : PageOwner) (a : PutsPiece k0 k1 space address first owner) where
  may_still : (target : ℕ) → target / 4096 ≢ address / 4096 → is_writable (space_memory k1 space) target ≡ is_writable (space_memory k0 space) target
  may_still target apart =
      ap (λ (m : Memory). is_writable m target)
      (a.here
      ∙ bytes_put (space_memory k0 space) address (page_of (memory_page k0) a.found) first (memory_found k0 space (address / 4096) a.found a.mapped)
      (lengths.whole a.found.page (found_inside k0 space (address / 4096) a.found good sound is a.mapped)) (omega arith))
      ∙ may_elsewhere (space_memory k0 space) (address / 4096) target _ apart

  pub second_may : (n all : ℕ) → length first + n ≡ all → n ≤ 4096 → all_writable (space_memory k0 space) address all ≡ true → all_writable (space_memory k1 space) next n ≡ true
  second_may n all sum few may =
      all_may (space_memory k1 space) next n (λ i below.
      let place : next + i ≡ address + (length first + i) = omega arith in
      may_still (next + i) (λ e. absurd (omega arith))
      ∙ ap (is_writable (space_memory k0 space)) place
      ∙ each_may (space_memory k0 space) address all (length first + i) may (omega arith))

-- the first bytes may be written where all may
pub first_may : (memory : Memory) (address n all : ℕ) → n ≤ all → all_writable memory address all ≡ true → all_writable memory address n ≡ true
first_may memory address n all few may = all_may memory address n (λ i below. each_may memory address all i may (omega arith))

pub byte_may : (memory : Memory) (address n : ℕ) → 0 < n → all_writable memory address n ≡ true → is_writable memory address ≡ true
byte_may memory address n some may = ap (is_writable memory) (sym (add-zero address)) ∙ each_may memory address n 0 may some

-- ---- the parts of what is put

pub front_length : (bytes : List ℕ) (n : ℕ) → n ≤ length bytes → length (take n bytes) ≡ n
front_length bytes n few = length-take-le n bytes few

pub back_length : (bytes : List ℕ) (n : ℕ) → n ≤ length bytes → length (take (length bytes - n) (drop n bytes)) ≡ length bytes - n
back_length bytes n few = length-part_at bytes n (length bytes - n) (omega arith)

pub parts_are : (bytes : List ℕ) (n : ℕ) → n ≤ length bytes → take n bytes ++ take (length bytes - n) (drop n bytes) ≡ bytes
parts_are bytes n few =
    ap (λ back. take n bytes ++ back) (take_all (length bytes - n) (drop n bytes) (omega (arith, length-drop n bytes)))
    ∙ take-append-drop n bytes
