-- How many blocks change, from step to step.
use Rattle.std.proofs.Common.{inl, inr, ⊎_elim, ◌≤◌, ◌+◌, ℕ, List, [], ◌∷◌, ◌++◌, length, arith}
use Rattle.std.proofs.lemmas.List.{length-append}
use Rattle.kernel_tables.specs.Blocks.{IsAmong, ChangesBlocks}
use Rattle.kernel_tables.proofs.BlockLaws.{no_block, both_change}
use Rattle.seg_tree.specs.Blocks.{ChangesBeside, ChangesAtMost}

among_left : (block : ℕ) (some others : List ℕ) → IsAmong block some → IsAmong block (some ++ others)
among_left block [] others here = absurd here
among_left block (first ∷ some) others here = ⊎_elim (λ e. inl e) (λ t. inr (among_left block some others t)) here

among_right : (block : ℕ) (some others : List ℕ) → IsAmong block others → IsAmong block (some ++ others)
among_right block [] others here = here
among_right block (first ∷ some) others here = inr (among_right block some others here)

among_either : (block : ℕ) (some others : List ℕ) → IsAmong block (some ++ others) → (other : List ℕ) → (IsAmong block some → IsAmong block other) → (IsAmong block others → IsAmong block other) → IsAmong block other
among_either block [] others here other left right = right here
among_either block (first ∷ some) others here other left right = ⊎_elim
    (λ e. left (inl e))
    (λ t. among_either block some others t other (λ s. left (inr s)) right)
    here

-- more blocks may change
widen : {old new : List (List ℕ)} {some changed : List ℕ} → ((block : ℕ) → IsAmong block some → IsAmong block changed) → ChangesBlocks old new some → ChangesBlocks old new changed
widen {old = old} among changes = both_change (no_block {blocks = old}) among changes

-- nothing has changed, ..
pub none_beside : {blocks : List (List ℕ)} {known : List ℕ} → ChangesBeside blocks blocks known 0
none_beside {blocks = blocks} = record { changed = []; few = omega arith; blocks = no_block {blocks = blocks} }

pub none_at_most : {blocks : List (List ℕ)} (most : ℕ) → ChangesAtMost blocks blocks most
none_at_most {blocks = blocks} most = record { changed = []; few = omega arith; blocks = no_block {blocks = blocks} }

-- .. or these blocks have, ..
pub known_beside : {old new : List (List ℕ)} {known : List ℕ} → ChangesBlocks old new known → ChangesBeside old new known 0
known_beside {known = known} changes = record { changed = []; few = omega arith; blocks = widen (λ block here. among_left block known [] here) changes }

pub at_most : {old new : List (List ℕ)} {changed : List ℕ} (most : ℕ) → length changed ≤ most → ChangesBlocks old new changed → ChangesAtMost old new most
at_most {changed = changed} most few changes = record { changed = changed; few = few; blocks = changes }

-- .. and those of one call after another
pub more_beside : {first old new : List (List ℕ)} {known : List ℕ} {few more : ℕ} → ChangesBeside first old known few → ChangesBeside old new known more → ChangesBeside first new known (few + more)
more_beside {known = known} {few = few} {more = more} before after = record {
  changed = before.changed ++ after.changed;
  few = let a = before.few in let b = after.few in let l = length-append before.changed after.changed in omega arith;
  blocks = both_change
      (widen (λ block here. among_either block known before.changed here (known ++ (before.changed ++ after.changed))
      (λ k. among_left block known (before.changed ++ after.changed) k)
      (λ s. among_right block known (before.changed ++ after.changed) (among_left block before.changed after.changed s))) before.blocks)
      (λ block here. among_either block known after.changed here (known ++ (before.changed ++ after.changed))
      (λ k. among_left block known (before.changed ++ after.changed) k)
      (λ s. among_right block known (before.changed ++ after.changed) (among_right block before.changed after.changed s)))
      after.blocks;
}

pub more_at_most : {first old new : List (List ℕ)} {few more : ℕ} (most : ℕ) → few + more ≤ most → ChangesAtMost first old few → ChangesAtMost old new more → ChangesAtMost first new most
more_at_most {few = few} {more = more} most room before after =
    let both = more_beside before after in
    record { changed = both.changed; few = let b = both.few in omega arith; blocks = both.blocks }

pub widen_most : {old new : List (List ℕ)} {few : ℕ} (most : ℕ) → few ≤ most → ChangesAtMost old new few → ChangesAtMost old new most
widen_most {few = few} most room before = record { changed = before.changed; few = let b = before.few in omega arith; blocks = before.blocks }

-- the known ones are counted too
pub all_at_most : {old new : List (List ℕ)} {known : List ℕ} {few : ℕ} (most : ℕ) → length known + few ≤ most → ChangesBeside old new known few → ChangesAtMost old new most
all_at_most {known = known} {few = few} most room changes = record {
  changed = known ++ changes.changed;
  few = let a = changes.few in let l = length-append known changes.changed in omega arith;
  blocks = changes.blocks;
}

-- a call may change a known block too
pub beside_known : {old new : List (List ℕ)} {few : ℕ} (known : List ℕ) → ChangesAtMost old new few → ChangesBeside old new known few
beside_known known changes = record {
  changed = changes.changed;
  few = changes.few;
  blocks = widen (λ block here. among_right block known changes.changed here) changes.blocks;
}

-- a call that changes few blocks, and one that changes the known one
pub put_beside : {first old new : List (List ℕ)} {few : ℕ} (block : ℕ) → ChangesAtMost first old few → ChangesBlocks old new (block ∷ []) → ChangesBeside first new (block ∷ []) few
put_beside {few = few} block before after =
    let both = more_beside (beside_known (block ∷ []) before) (known_beside after) in
    record { changed = both.changed; few = let b = both.few in omega arith; blocks = both.blocks }
