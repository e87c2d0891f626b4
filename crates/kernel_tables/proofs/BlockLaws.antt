-- Blocks that change, from call to call.
use Rattle.std.proofs.Common.{inl, ⊎_elim, ℕ, List, [], ◌∷◌, length, get_or, refl, ap, sym, subst, ◌∙◌}
use Rattle.std.proofs.lemmas.List.{get_or-set_other, length-set}
use Rattle.kn_base.specs.Memory.{ChangesBlock}
use Rattle.kernel_tables.specs.Blocks.{IsAmong, ChangesBlocks}

-- nothing has changed
pub no_block : {blocks : List (List ℕ)} {changed : List ℕ} → ChangesBlocks blocks blocks changed
no_block = record { same_number = refl; others = λ block apart. refl }

-- one block more was written, which is among them
pub one_more : {first old new : List (List ℕ)} {changed : List ℕ} (block : ℕ) → ChangesBlocks first old changed → IsAmong block changed → ChangesBlock old new block → ChangesBlocks first new changed
one_more {first = first} {old = old} {new = new} {changed = changed} block before among written = record {
  same_number = ap length written ∙ length-set old block (get_or new block []) ∙ before.same_number;
  others = λ other apart.
      ap (λ (blocks : List (List ℕ)). get_or blocks other []) written
      ∙ get_or-set_other old block other (get_or new block []) [] (λ same. apart (subst (λ b. IsAmong b changed) (sym same) among))
      ∙ before.others other apart;
}

-- a call that writes one block
pub one_block : {old new : List (List ℕ)} (block : ℕ) → ChangesBlock old new block → ChangesBlocks old new (block ∷ [])
one_block {old = old} block written = one_more block (no_block {blocks = old}) (inl refl) written

-- two calls, of which the second changes some of the blocks
pub both_change : {first old new : List (List ℕ)} {changed some : List ℕ} → ChangesBlocks first old changed → ((block : ℕ) → IsAmong block some → IsAmong block changed) → ChangesBlocks old new some → ChangesBlocks first new changed
both_change before among after = record {
  same_number = after.same_number ∙ before.same_number;
  others = λ block apart. after.others block (λ here. apart (among block here)) ∙ before.others block apart;
}

-- a block that may change is the first of several
pub and_others : {old new : List (List ℕ)} {block : ℕ} {others : List ℕ} → ChangesBlocks old new (block ∷ []) → ChangesBlocks old new (block ∷ others)
and_others changes = record {
  same_number = changes.same_number;
  others = λ other apart. changes.others other (λ among. ⊎_elim (λ e. apart (inl e)) (λ none. none) among);
}
