-- Copying the keys of a node, one after another.
use Rattle.std.proofs.Common.{◌≡◌, ◌≢◌, ◌<◌, ◌≤◌, ◌+◌, ◌/◌, ℕ, zero, suc, Bool, true, false, Option, Some, None, List, [], ◌∷◌, refl, ap, sym, subst, ◌∙◌, arith, ⊎_elim, add-one, add-zero}
use Rattle.std.specs.Option.{is_some, IsSome}
use Rattle.std.proofs.lemmas.Bool.{cases_Bool, cases_eq}
use Rattle.kn_base.specs.declared.key.Key.{Key}
use Rattle.kn_base.specs.declared.key.Key.TheVariants.{Null}
use Rattle.kernel_tables.specs.Blocks.{key_block, ChangesBlocks}
use Rattle.kernel_tables.specs.Kernel.{Kernel}
use Rattle.space_bank.specs.Shares.{Shares}
use Rattle.unix_model.specs.Tables.{at, count_below}
use Rattle.unix_model.proofs.TableLaws.{at-with_at, at-with_at-other}
use Rattle.forest.specs.Objects.{Object, NodeObject, Owner, named, names}
use Rattle.forest.specs.Walks.{place_of}
use Rattle.forest.specs.Forest.{Forest}
use Rattle.forest.specs.Changes.{with_key, raised, counted_more}
use Rattle.forest.proofs.ExactLaws.{count-more}
use Rattle.kernel_forest.specs.Trees.{forest_of, IsTreeKey}
use Rattle.kernel_forest.specs.Moves.{KeepsRest, MayRaise, Steps, Changes, RaisesKey, PutsKey}
use Rattle.seg_tree.specs.Blocks.{ChangesBeside}
use Rattle.seg_tree.specs.Steps.{MayCopyKey, MayCopy, key_copied, copying}
use Rattle.kernel_forest.proofs.Moves.{uncounted_in_hand}
use Rattle.kernel_forest.proofs.Rest.{rest-pages}

-- raising changes counts alone
pub more_owner : (forest : Forest) (there : Option Object) → (counted_more forest there).owner ≡ forest.owner
more_owner forest None = refl
more_owner forest (Some object) = refl

pub more_keys : (forest : Forest) (there : Option Object) → (counted_more forest there).keys ≡ forest.keys
more_keys forest None = refl
more_keys forest (Some object) = refl

pub more_nodes : (forest : Forest) (there : Option Object) → (counted_more forest there).nodes ≡ forest.nodes
more_nodes forest None = refl
more_nodes forest (Some object) = refl

-- steps follow each other
pub rest_trans : (old mid new : Kernel) → KeepsRest old mid → KeepsRest mid new → KeepsRest old new
rest_trans old mid new first second =
    second
    ∙ ap (λ (k : Kernel). let r : Kernel = record k {
      machine = record k.machine { free_node = new.machine.free_node; nodes_taken = new.machine.nodes_taken };
      page_entries = new.page_entries;
      node_entries = new.node_entries;
      keys = new.keys;
    } in r) first

-- the keys of a node stand in the same block, if the rest is as it was
pub rest_block : (old new : Kernel) (node : ℕ) (before after : List (List ℕ)) → KeepsRest old new → ChangesBlocks before after (key_block new.pages node ∷ []) → ChangesBlocks before after (key_block old.pages node ∷ [])
rest_block old new node before after rest changes = subst (λ (pages : ℕ). ChangesBlocks before after (key_block pages node ∷ [])) (rest-pages old new rest) changes

pub rest_beside : (old new : Kernel) (node most : ℕ) (before after : List (List ℕ)) → KeepsRest old new
    → ChangesBeside before after (key_block new.pages node ∷ []) most → ChangesBeside before after (key_block old.pages node ∷ []) most
rest_beside old new node most before after rest changes = subst (λ (pages : ℕ). ChangesBeside before after (key_block pages node ∷ []) most) (rest-pages old new rest) changes

pub steps_trans : (old mid new : Kernel) (between after : Forest) (few more : ℕ) → Steps old mid between few → Steps mid new after more → Steps old new after (few + more)
steps_trans old mid new between after few more first second = record {
  forest_now = second.forest_now;
  outside_now = λ outside. second.outside_now outside ∙ first.outside_now outside;
  rows_now = λ mine apart. second.rows_now mine apart ∙ first.rows_now mine apart;
  apart_now = second.apart_now ∙ first.apart_now;
  owners_now = second.owners_now ∙ first.owners_now;
  rest = rest_trans old mid new first.rest second.rest;
  number = let a = first.number in let b = second.number in omega arith;
}

pub steps_to : (old new : Kernel) (forest other : Forest) (few more : ℕ) → forest ≡ other → few ≡ more → Steps old new forest few → Steps old new other more
steps_to old new forest other few more e n steps = record {
  forest_now = steps.forest_now ∙ e;
  outside_now = steps.outside_now;
  rows_now = steps.rows_now;
  apart_now = steps.apart_now;
  owners_now = steps.owners_now;
  rest = steps.rest;
  number = steps.number ∙ ap (λ k. old.machine.nodes_taken + k) n;
}

changes_trans : (old mid new : Kernel) (between after : Forest) (few more : ℕ) → Changes old mid between few → Changes mid new after more → Changes old new after (few + more)
changes_trans old mid new between after few more first second = record {
  steps = steps_trans old mid new between after few more first.steps second.steps;
  shares = λ outside hand counted. second.shares outside hand (first.shares outside hand counted);
}

pub no_change : (kernel : Kernel) → Changes kernel kernel (forest_of kernel) 0
no_change kernel = record {
  steps = record { forest_now = refl; outside_now = λ outside. refl; rows_now = λ mine apart. refl; apart_now = refl; owners_now = refl; rest = refl; number = sym (add-zero kernel.machine.nodes_taken) };
  shares = λ outside hand counted. counted;
}

-- the key that is copied may be told in another way
pub copied_tree : (forest : Forest) (from to digit : ℕ) (key : Key) → MayCopyKey forest from to digit → key ≡ at forest.keys (place_of from digit) → IsTreeKey key
copied_tree forest from to digit key may is = subst IsTreeKey (sym is) may.of_tree

pub copied_may : (forest : Forest) (from to digit : ℕ) (key : Key) → MayCopyKey forest from to digit → key ≡ at forest.keys (place_of from digit) → MayRaise forest key
copied_may forest from to digit key may is = subst (λ (k : Key). MayRaise forest k) (sym is) may.may

-- a key that was raised has left nodes of trees as they were, ..
pub raised_owned : (old mid : Kernel) (key : Key) (node : ℕ) → RaisesKey old mid key → IsSome ((forest_of old).owner (NodeObject node)) → IsSome ((forest_of mid).owner (NodeObject node))
raised_owned old mid key node raises owned =
    ap (λ (f : Forest). is_some (f.owner (NodeObject node))) raises.steps.forest_now
    ∙ ap (λ (owner : Object → Option Owner). is_some (owner (NodeObject node))) (more_owner (forest_of old) (named key)) ∙ owned

-- .. and places where nothing stood
raised_null : (old mid : Kernel) (key : Key) (place : ℕ) → RaisesKey old mid key → at (forest_of old).keys place ≡ Null → at (forest_of mid).keys place ≡ Null
raised_null old mid key place raises null = ap (λ (f : Forest). at f.keys place) raises.steps.forest_now ∙ ap (λ keys. at keys place) (more_keys (forest_of old) (named key)) ∙ null

pub raised_was_tree : (old mid : Kernel) (key : Key) (place : ℕ) → RaisesKey old mid key → at (forest_of old).keys place ≡ Null → IsTreeKey (at (forest_of mid).keys place)
raised_was_tree old mid key place raises null = subst IsTreeKey (sym (raised_null old mid key place raises null)) tt

-- a key was raised and put where nothing stood
copies_it : (old mid new : Kernel) (from to digit : ℕ) → MayCopyKey (forest_of old) from to digit
    → RaisesKey old mid (at (forest_of old).keys (place_of from digit))
    → PutsKey mid new (place_of to digit) (at (forest_of old).keys (place_of from digit))
    → Changes old new (key_copied (forest_of old) (at (forest_of old).keys (place_of from digit)) (place_of to digit)) 0
copies_it old mid new from to digit may raises puts =
    let null = raised_null old mid (at (forest_of old).keys (place_of from digit)) (place_of to digit) raises may.was_null in
    record {
      steps = steps_trans old mid new (raised (forest_of old) (at (forest_of old).keys (place_of from digit)))
          (key_copied (forest_of old) (at (forest_of old).keys (place_of from digit)) (place_of to digit)) 0 0 raises.steps
          (steps_to mid new (with_key (forest_of mid) (place_of to digit) (at (forest_of old).keys (place_of from digit)))
          (key_copied (forest_of old) (at (forest_of old).keys (place_of from digit)) (place_of to digit)) 0 0
          (ap (λ f. with_key f (place_of to digit) (at (forest_of old).keys (place_of from digit))) raises.steps.forest_now) refl puts.steps);
      shares = λ outside hand counted.
          (uncounted_in_hand new outside hand Null refl tt).1
          (subst (λ was. Shares new outside (was ∷ hand)) null (puts.shares outside hand (raises.shares outside hand counted)));
    }

pub copies_key : (old mid new : Kernel) (from to digit : ℕ) (key : Key) → MayCopyKey (forest_of old) from to digit → key ≡ at (forest_of old).keys (place_of from digit)
    → RaisesKey old mid key → PutsKey mid new (place_of to digit) key
    → Changes old new (key_copied (forest_of old) (at (forest_of old).keys (place_of from digit)) (place_of to digit)) 0
copies_key old mid new from to digit key may is raises puts =
    copies_it old mid new from to digit may (subst (λ (k : Key). RaisesKey old mid k) is raises) (subst (λ (k : Key). PutsKey mid new (place_of to digit) k) is puts)

-- what a copy so far has: owners, counts, and keys
pub record CopiedSoFar (forest : Forest) (from to n : ℕ) (now : Forest) : Type 0 where
  pub nodes : now.nodes ≡ forest.nodes
  pub owner : now.owner ≡ forest.owner
  pub counts : (object : Object) → now.count object ≡ forest.count object + count_below (λ digit. names object (at forest.keys (place_of from digit))) n
  pub others : (place : ℕ) → place / 16 ≢ to → at now.keys place ≡ at forest.keys place
  pub done : (digit : ℕ) → digit < n → at now.keys (place_of to digit) ≡ at forest.keys (place_of from digit)
  pub later : (digit : ℕ) → n ≤ digit → digit < 16 → at now.keys (place_of to digit) ≡ at forest.keys (place_of to digit)

pub copied_so_far : (forest : Forest) (from to n : ℕ) → n ≤ 16 → CopiedSoFar forest from to n (copying forest from to n)
unfolding copying count_below
copied_so_far forest from to zero low = record {
  nodes = refl;
  owner = refl;
  counts = λ object. omega arith;
  others = λ place apart. refl;
  done = λ digit less. absurd (omega arith);
  later = λ digit high below. refl;
}
copied_so_far forest from to (suc n) low =
    let was = copied_so_far forest from to n (omega arith) in
    let key = at forest.keys (place_of from n) in
    let before = copying forest from to n in
    let same = more_keys (copying forest from to n) (named (at forest.keys (place_of from n))) in
    record {
      nodes = more_nodes (copying forest from to n) (named (at forest.keys (place_of from n))) ∙ was.nodes;
      owner = more_owner (copying forest from to n) (named (at forest.keys (place_of from n))) ∙ was.owner;
      counts = λ object.
          let more = count-more (copying forest from to n) (named (at forest.keys (place_of from n))) object in
          let so_far = was.counts object in
          omega arith;
      others = λ place apart.
          at-with_at-other (raised (copying forest from to n) (at forest.keys (place_of from n))).keys (place_of to n) place (at forest.keys (place_of from n)) (λ e. apart (omega arith))
          ∙ ap (λ keys. at keys place) same ∙ was.others place apart;
      done = λ digit less. ⊎_elim
          (λ (t : digit ≡ n). rw t (at-with_at (raised (copying forest from to n) (at forest.keys (place_of from n))).keys (place_of to n) (at forest.keys (place_of from n))))
          (λ (t : digit ≢ n).
          at-with_at-other (raised (copying forest from to n) (at forest.keys (place_of from n))).keys (place_of to n) (place_of to digit) (at forest.keys (place_of from n)) (λ e. t (omega arith))
          ∙ ap (λ keys. at keys (place_of to digit)) same ∙ was.done digit (omega arith))
          (cases_eq digit n);
      later = λ digit high below.
          at-with_at-other (raised (copying forest from to n) (at forest.keys (place_of from n))).keys (place_of to n) (place_of to digit) (at forest.keys (place_of from n)) (λ e. absurd (omega arith))
          ∙ ap (λ keys. at keys (place_of to digit)) same ∙ was.later digit (omega arith) below;
    }

pub count_most : (test : ℕ → Bool) (n : ℕ) → count_below test n ≤ n
unfolding count_below
count_most test zero = omega arith
count_most test (suc n) = ⊎_elim
    (λ (t : test n ≡ true). let rest = count_most test n in rw t (omega arith))
    (λ (t : test n ≡ false). let rest = count_most test n in rw t (omega arith))
    (cases_Bool (test n))

-- after some keys the next one may be copied
may_copy_next : (forest : Forest) (from to n : ℕ) → n < 16 → MayCopy forest from to → MayCopyKey (copying forest from to n) from to n
may_copy_next forest from to n less may =
    let was = copied_so_far forest from to n (omega arith) in
    let apart = may.apart in
    let same : at (copying forest from to n).keys (place_of from n) ≡ at forest.keys (place_of from n) = was.others (place_of from n) (λ e. apart (omega arith)) in
    record {
      from_owned = ap (λ (owner : Object → Option Owner). is_some (owner (NodeObject from))) was.owner ∙ may.from_owned;
      to_owned = ap (λ (owner : Object → Option Owner). is_some (owner (NodeObject to))) was.owner ∙ may.to_owned;
      of_tree = subst IsTreeKey (sym same) (may.of_tree n less);
      was_null = was.later n (omega arith) less ∙ may.nulls n less;
      may = λ object h.
          let there = may.may n less object (ap named (sym same) ∙ h) in
          let few = there.1 in
          let so_far = was.counts object in
          let most = count_most (λ digit. names object (at forest.keys (place_of from digit))) n in
          (ap (λ (owner : Object → Option Owner). is_some (owner object)) was.owner ∙ there.0, omega arith);
    }

-- one key more
copying-step : (forest : Forest) (from to n : ℕ) → n < 16 → MayCopy forest from to
    → key_copied (copying forest from to n) (at (copying forest from to n).keys (place_of from n)) (place_of to n) ≡ copying forest from to (n + 1)
unfolding copying
copying-step forest from to n less may =
    let was = copied_so_far forest from to n (omega arith) in
    let apart = may.apart in
    let same : at (copying forest from to n).keys (place_of from n) ≡ at forest.keys (place_of from n) = was.others (place_of from n) (λ e. apart (omega arith)) in
    rw (same, add-one n) refl

changes_to : (old new : Kernel) (forest other : Forest) (few more : ℕ) → forest ≡ other → few ≡ more → Changes old new forest few → Changes old new other more
changes_to old new forest other few more e n changes = record { steps = steps_to old new forest other few more e n changes.steps; shares = changes.shares }

-- .. told of the tables after so many keys
pub may_copy_now : (first mid : Kernel) (from to n : ℕ) → n < 16 → MayCopy (forest_of first) from to → Changes first mid (copying (forest_of first) from to n) 0 → MayCopyKey (forest_of mid) from to n
may_copy_now first mid from to n less may copies =
    subst (λ (f : Forest). MayCopyKey f from to n) (sym copies.steps.forest_now) (may_copy_next (forest_of first) from to n less may)

pub copies_next : (first mid new : Kernel) (from to n : ℕ) → n < 16 → MayCopy (forest_of first) from to → Changes first mid (copying (forest_of first) from to n) 0
    → Changes mid new (key_copied (forest_of mid) (at (forest_of mid).keys (place_of from n)) (place_of to n)) 0 → Changes first new (copying (forest_of first) from to (n + 1)) 0
copies_next first mid new from to n less may copies copies_one =
    changes_trans first mid new (copying (forest_of first) from to n) (copying (forest_of first) from to (n + 1)) 0 0 copies
    (changes_to mid new (key_copied (forest_of mid) (at (forest_of mid).keys (place_of from n)) (place_of to n)) (copying (forest_of first) from to (n + 1)) 0 0
    (ap (λ (f : Forest). key_copied f (at f.keys (place_of from n)) (place_of to n)) copies.steps.forest_now ∙ copying-step (forest_of first) from to n less may) refl copies_one)

pub no_change_copying : (kernel : Kernel) (from to : ℕ) → Changes kernel kernel (copying (forest_of kernel) from to 0) 0
unfolding copying
no_change_copying kernel from to = no_change kernel
