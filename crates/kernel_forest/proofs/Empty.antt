-- Where nothing belongs to a tree, all that holds of trees holds.
use Rattle.std.proofs.Common.{◌≡◌, ◌<◌, ◌/◌, ℕ, Option, Some, None, refl, ap, sym, subst, ◌∙◌, arith, ◌-◌, zero, suc, nat_lt, ⊎_elim, ◌∷◌, true, false, [], List}
use Rattle.kn_base.specs.declared.key.Key.{Key}
use Rattle.kn_base.specs.declared.key.Key.TheVariants.{Null}
use Rattle.unix_model.specs.Tables.{at}
use Rattle.forest.specs.Objects.{Object, PageObject, NodeObject, Owner, named}
use Rattle.forest.specs.Walks.{key_below}
use Rattle.forest.specs.Forest.{masked, FitsBelow, key_height}
use Rattle.forest.proofs.ReachLaws.{nothing_in_hand}
use Rattle.forest.proofs.ReleaseLaws.{some_not_none}
use Rattle.std.specs.List.{sum_by}
use Rattle.std.proofs.lemmas.Bool.{cases_Bool}
use Rattle.std.proofs.lemmas.List.Sums.{sum_by-cons}
use Rattle.kernel_tables.specs.Kernel.{Kernel, first_page}
use Rattle.kernel_tables.specs.declared.entry.Entry.{Entry}
use Rattle.kernel_tables.specs.declared.entry.Entry.TheVariants.{Free, Taken, Fixed, Unspelled}
use Rattle.space_bank.specs.FreeList.{taken_one, taken_count}
use Rattle.space_bank.specs.Bank.{BankGood}
use Rattle.kernel_forest.specs.Trees.{forest_of, owner_of, tree_in, page_tree, node_tree, IsTreeKey}
use Rattle.kernel_tables.specs.Rows.{entry_at, key_table}
use Rattle.kernel_forest.specs.Laws.{EmptyIsGood, UntakenIsGood}

null_here : (owner : Object → Option Owner) (keys : ℕ → Key) (place : ℕ) → owner (NodeObject (place / 16)) ≡ None → at (masked owner keys) place ≡ Null
unfolding masked at
null_here owner keys place none = rw none refl

pub empty_good : EmptyIsGood
empty_good kernel outside none counted =
    record {
      shares = counted;
      held = record {
        counts = record {
          sound = record {
            within = λ node some. absurd (some_not_none ((forest_of kernel).owner (NodeObject node)) some (none (NodeObject node)));
            masked = λ place e. all_null place;
            owned = λ place object h. absurd (no_name place object h);
            heights = λ place digit less. subst (λ key. FitsBelow key (key_below (forest_of kernel).keys key digit)) (sym (all_null place)) tt;
            low = λ place. subst (λ key. key_height key < 5) (sym (all_null place)) (omega arith);
          };
          exact = record { counted = λ object some. absurd (some_not_none ((forest_of kernel).owner object) some (none object)) };
          alive = λ object some. absurd (some_not_none ((forest_of kernel).owner object) some (none object));
          gone = λ object e. nothing_in_hand object;
          apart = λ object out. (λ place h. no_name place object h, nothing_in_hand object);
        };
        rooted = λ space is. absurd (some_not_none ((forest_of kernel).owner (NodeObject space)) is.owned (none (NodeObject space)));
      };
      in_hand = tt;
      short = omega arith;
      in_trees = λ place. subst IsTreeKey (sym (all_null place)) tt;
      single = λ object some. absurd (some_not_none ((forest_of kernel).owner object) some (none object));
    }
  where
    all_null : (place : ℕ) → at (forest_of kernel).keys place ≡ Null
    all_null place = null_here (forest_of kernel).owner (key_table kernel.keys) place (none (NodeObject (place / 16)))

    no_name : (place : ℕ) (object : Object) → named (at (forest_of kernel).keys place) ≡ Some object → ⊥
    no_name place object h = let no : None ≡ Some object = sym (ap named (all_null place)) ∙ h in cc

-- where none is taken, none belongs to a tree
none_taken : {O : Type 0} (entries : List (Entry O)) (n : ℕ) → sum_by taken_one entries ≡ 0 → taken_one (entry_at entries n) ≡ 0
none_taken [] n e = refl
none_taken (entry ∷ entries) zero e = omega (arith, sum_by-cons taken_one entry entries)
none_taken (entry ∷ entries) (suc n) e = none_taken entries n (omega (arith, sum_by-cons taken_one entry entries))

untaken_none : {O : Type 0} (tree : O → Option Owner) (entry : Entry O) → taken_one entry ≡ 0 → tree_in tree entry ≡ None
untaken_none tree (Free next) e = refl
untaken_none tree (Taken owner count) e = absurd (omega arith)
untaken_none tree Fixed e = refl
untaken_none tree Unspelled e = refl

nobody_owns : (kernel : Kernel) → BankGood kernel → kernel.machine.pages_taken ≡ 0 → kernel.machine.nodes_taken ≡ 0 → (object : Object) → (forest_of kernel).owner object ≡ None
unfolding owner_of taken_count
nobody_owns kernel good no_page no_node (PageObject page) =
    let none = untaken_none page_tree (entry_at kernel.page_entries (page - first_page kernel.size))
    (none_taken kernel.page_entries (page - first_page kernel.size) (sym good.pages.entries_good.number ∙ no_page)) in
    ⊎_elim
    (λ (t : nat_lt page (first_page kernel.size) ≡ true). rw t refl)
    (λ (t : nat_lt page (first_page kernel.size) ≡ false). rw t none)
    (cases_Bool (nat_lt page (first_page kernel.size)))
nobody_owns kernel good no_page no_node (NodeObject node) =
    untaken_none node_tree (entry_at kernel.node_entries node) (none_taken kernel.node_entries node (sym good.nodes.entries_good.number ∙ no_node))

pub untaken_good : UntakenIsGood
untaken_good kernel outside good no_page no_node counted = empty_good kernel outside (nobody_owns kernel good no_page no_node) counted
