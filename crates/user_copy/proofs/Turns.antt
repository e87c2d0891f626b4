-- Which pages of a space are own, while they are made so one after another.
use Rattle.std.proofs.Common.{◌≡◌, ◌≢◌, ◌≤◌, ◌+◌, ℕ, Option, Some, [], ap, sym, ◌∙◌, arith, ⊎_elim}
use Rattle.std.proofs.lemmas.Bool.{cases_eq}
use Rattle.unix_model.specs.Tables.{at}
use Rattle.unix_model.proofs.TableLaws.{at-with_at, at-with_at-other}
use Rattle.forest.specs.Walks.{Mapping, map_of}
use Rattle.forest.specs.Forest.{Forest, IsSpace}
use Rattle.forest.specs.Calls.{IsOwn}
use Rattle.seg_tree.specs.Writes.{writable_mapping}
use Rattle.user_copy.specs.Writing.{MakesOwn, IsOwnInTurn}

module _ (old new : Forest) (space page result : ℕ) (is : IsSpace old [] space) (owns : MakesOwn old new space page result) where
  -- where the page was made own, ..
  pub map_here : map_of new.keys space page ≡ Some (writable_mapping result)
  unfolding at
  map_here = ap (λ (map : ℕ → Option Mapping). at map page) owns.here ∙ at-with_at (map_of old.keys space) page (Some (writable_mapping result))

  -- .. at every other page, ..
  pub map_there : (number : ℕ) → number ≢ page → map_of new.keys space number ≡ map_of old.keys space number
  unfolding at
  map_there number apart = ap (λ (map : ℕ → Option Mapping). at map number) owns.here ∙ at-with_at-other (map_of old.keys space) page number (Some (writable_mapping result)) apart

  -- .. and wherever it isn't this page of this space
  pub map_else : (other number : ℕ) → IsSpace old [] other → ((other ≡ space) → number ≡ page → ⊥) → map_of new.keys other number ≡ map_of old.keys other number
  map_else other number still apart = ⊎_elim
      (λ (t : other ≡ space). ap (λ s. map_of new.keys s number) t ∙ map_there number (apart t) ∙ ap (λ s. map_of old.keys s number) (sym t))
      (λ (t : other ≡ space → ⊥). ap (λ (map : ℕ → Option Mapping). map number) (owns.others other still t))
      (cases_eq other space)

  new_space : IsSpace new [] space
  new_space = (owns.spaces space).0 is

  -- nothing else reaches the page that it became
  pub not_result : (other number : ℕ) (found : Mapping) → IsSpace old [] other → map_of new.keys other number ≡ Some found → ((other ≡ space) → number ≡ page → ⊥) → found.page ≢ result
  not_result other number found still e apart same =
      let both = owns.own.alone other number found ((owns.spaces other).0 still) e same in
      apart both.0 both.1

  -- the page behind it is own now exactly where it was so in turn
  pub own_now : (found : Mapping) → IsOwnInTurn old space page (page + 1) found → IsOwn new space (page + 1) found
  own_now found turn = record {
    mapped = map_there (page + 1) (λ e. absurd (omega arith)) ∙ turn.mapped;
    real = turn.real;
    alone = λ other number other_found still e same. two_cases other number other_found still e same;
  }
    where
      mapped_now : map_of new.keys space (page + 1) ≡ Some found
      mapped_now = map_there (page + 1) (λ e. absurd (omega arith)) ∙ turn.mapped

      -- the page itself became another one
      not_here : (number : ℕ) (other_found : Mapping) → number ≡ page → map_of new.keys space number ≡ Some other_found → other_found.page ≡ found.page → ⊥
      not_here number other_found at_page e same =
          let is_result : Some other_found ≡ Some (writable_mapping result) = sym e ∙ ap (map_of new.keys space) at_page ∙ map_here in
          let it : other_found ≡ writable_mapping result = cc in
          let its : other_found.page ≡ result = ap (λ (m : Mapping). m.page) it in
          not_result space (page + 1) found is mapped_now (λ s n. absurd (omega arith)) (sym same ∙ its)

      before : (other number : ℕ) (other_found : Mapping) → IsSpace new [] other → map_of new.keys other number ≡ Some other_found → other_found.page ≡ found.page
          → (other ≡ space → number ≡ page → ⊥) → (other ≡ space) × (number ≡ page + 1)
      before other number other_found still e same apart =
          let was = (owns.spaces other).1 still in
          let reached = turn.alone other number other_found was (sym (map_else other number was apart) ∙ e) same in
          let high : number ≤ page + 1 = reached.2 in
          let low : page ≤ number = reached.1 in
          let not_page : number ≢ page = apart reached.0 in
          (reached.0, omega arith)

      two_cases : (other number : ℕ) (other_found : Mapping) → IsSpace new [] other → map_of new.keys other number ≡ Some other_found → other_found.page ≡ found.page
          → (other ≡ space) × (number ≡ page + 1)
      two_cases other number other_found still e same = ⊎_elim
          (λ (t : other ≡ space). ⊎_elim
          (λ (n : number ≡ page). absurd (not_here number other_found n (ap (λ s. map_of new.keys s number) (sym t) ∙ e) same))
          (λ (n : number ≡ page → ⊥). before other number other_found still e same (λ s. n))
          (cases_eq number page))
          (λ (t : other ≡ space → ⊥). before other number other_found still e same (λ s n. t s))
          (cases_eq other space)

  pub own_in_turn : (found : Mapping) → IsOwn new space (page + 1) found → IsOwnInTurn old space page (page + 1) found
  own_in_turn found own = record {
    mapped = sym (map_there (page + 1) (λ e. absurd (omega arith))) ∙ own.mapped;
    real = own.real;
    alone = λ other number other_found still e same. two_cases other number other_found still e same;
  }
    where
      Reached : ℕ → ℕ → Type 0
      Reached other number = (other ≡ space) × (page ≤ number) × (number ≤ page + 1)

      elsewhere : (other number : ℕ) (other_found : Mapping) → IsSpace old [] other → map_of old.keys other number ≡ Some other_found → other_found.page ≡ found.page
          → (other ≡ space → number ≡ page → ⊥) → (other ≡ space) × (page ≤ number) × (number ≤ page + 1)
      elsewhere other number other_found still e same apart =
          let reached = own.alone other number other_found ((owns.spaces other).0 still) (map_else other number still apart ∙ e) same in
          let here : number ≡ page + 1 = reached.1 in
          (reached.0, omega arith, omega arith)

      two_cases : (other number : ℕ) (other_found : Mapping) → IsSpace old [] other → map_of old.keys other number ≡ Some other_found → other_found.page ≡ found.page
          → (other ≡ space) × (page ≤ number) × (number ≤ page + 1)
      two_cases other number other_found still e same = ⊎_elim
          (λ (t : other ≡ space). ⊎_elim
          (λ (n : number ≡ page). (t, omega arith, omega arith))
          (λ (n : number ≡ page → ⊥). elsewhere other number other_found still e same (λ s. n))
          (cases_eq number page))
          (λ (t : other ≡ space → ⊥). elsewhere other number other_found still e same (λ s n. t s))
          (cases_eq other space)

  -- a page that was own before stays so
  pub own_stays : (number : ℕ) (found : Mapping) → number ≢ page → IsOwn old space number found → IsOwn new space number found
  own_stays number found apart own = record {
    mapped = map_there number apart ∙ own.mapped;
    real = own.real;
    alone = λ other n other_found still e same. two_cases other n other_found still e same;
  }
    where
      mapped_now : map_of new.keys space number ≡ Some found
      mapped_now = map_there number apart ∙ own.mapped

      elsewhere : (other n : ℕ) (other_found : Mapping) → IsSpace new [] other → map_of new.keys other n ≡ Some other_found → other_found.page ≡ found.page
          → (other ≡ space → n ≡ page → ⊥) → (other ≡ space) × (n ≡ number)
      elsewhere other n other_found still e same off =
          let was = (owns.spaces other).1 still in
          own.alone other n other_found was (sym (map_else other n was off) ∙ e) same

      not_here : (n : ℕ) (other_found : Mapping) → n ≡ page → map_of new.keys space n ≡ Some other_found → other_found.page ≡ found.page → ⊥
      not_here n other_found at_page e same =
          let is_result : Some other_found ≡ Some (writable_mapping result) = sym e ∙ ap (map_of new.keys space) at_page ∙ map_here in
          let it : other_found ≡ writable_mapping result = cc in
          let its : other_found.page ≡ result = ap (λ (m : Mapping). m.page) it in
          not_result space number found is mapped_now (λ s k. apart k) (sym same ∙ its)

      two_cases : (other n : ℕ) (other_found : Mapping) → IsSpace new [] other → map_of new.keys other n ≡ Some other_found → other_found.page ≡ found.page
          → (other ≡ space) × (n ≡ number)
      two_cases other n other_found still e same = ⊎_elim
          (λ (t : other ≡ space). ⊎_elim
          (λ (k : n ≡ page). absurd (not_here n other_found k (ap (λ s. map_of new.keys s n) (sym t) ∙ e) same))
          (λ (k : n ≡ page → ⊥). elsewhere other n other_found still e same (λ s. k))
          (cases_eq n page))
          (λ (t : other ≡ space → ⊥). elsewhere other n other_found still e same (λ s k. t s))
          (cases_eq other space)
