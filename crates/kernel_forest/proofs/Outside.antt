-- A key that is handed out of a tree, or handed in.
use Rattle.std.proofs.Common.{◌≡◌, ◌≤◌, ◌+◌, ℕ, true, false, nat_lt, refl, ap, arith, ⊎_elim}
use Rattle.std.proofs.Math.Path.{fun_ext}
use Rattle.std.proofs.lemmas.Bool.{cases_Bool, ne_eqb, ltb-true}
use Rattle.kn_base.specs.declared.key.Key.{Key}
use Rattle.space_bank.specs.Shares.{Outside}
use Rattle.space_bank.specs.Laws.{and_outside}
use Rattle.forest.specs.Objects.{Object, PageObject, NodeObject, names}
use Rattle.forest.specs.Walks.{space_key}
use Rattle.forest.specs.Changes.{and_outside as and_outside_trees}
use Rattle.forest.proofs.ExactLaws.{bit}
use Rattle.kernel_forest.specs.Trees.{outside_by, bank_outside, raw_names, is_counted}
use Rattle.kernel_tables.specs.Rows.{key_table}
use Rattle.kernel_forest.specs.Trees.{forest_of}
use Rattle.kernel_forest.specs.Laws.{SpaceHandedOut}
use Rattle.kernel_forest.proofs.Bridge.{counts_alike}

-- one key of a tree more outside is one more outside for both
pub more_outside : (outside : Outside) (key : Key) (object : Object) → bank_outside (and_outside outside key) object ≡ bank_outside outside object + bit (raw_names object key)
more_outside outside key (PageObject page) = refl
more_outside outside key (NodeObject node) = refl

pub outside_out : (nodes : ℕ) (keys trees : ℕ → Key) (outside : Outside) (space : ℕ) → 15 ≤ space
    → outside_by nodes keys trees (and_outside outside (space_key space)) ≡ and_outside_trees (outside_by nodes keys trees outside) (space_key space)
unfolding outside_by and_outside_trees
outside_out nodes keys trees outside space high = fun_ext (λ object. ⊎_elim
    (λ (t : is_counted object ≡ true).
    let more = more_outside outside (space_key space) object in
    let same : bit (raw_names object (space_key space)) ≡ bit (names object (space_key space)) = ap bit (counts_alike object (space_key space) t tt) in
    rw t (omega arith))
    (λ (t : is_counted object ≡ false).
    let none : bit (names object (space_key space)) ≡ 0 = ap bit (fixed object t) in
    rw t (omega arith))
    (cases_Bool (is_counted object)))
  where
    fixed : (object : Object) → is_counted object ≡ false → names object (space_key space) ≡ false
    fixed (PageObject page) e = refl
    fixed (NodeObject node) e = ne_eqb node space (λ same. ⊎_elim
        (λ (t : nat_lt node 15 ≡ true). let low = ltb-true node 15 t in absurd (omega arith))
        (λ (t : nat_lt node 15 ≡ false). let no : true ≡ false = rw t at e in cc)
        (cases_Bool (nat_lt node 15)))

pub space_out : SpaceHandedOut
space_out kernel outside space high = outside_out kernel.nodes (key_table kernel.keys) (forest_of kernel).keys outside space high
