-- Keys 0 and 5 of a root, which hand over a space and a page.
use Rattle.std.proofs.Common.{◌≡◌, ◌≢◌, ◌<◌, ◌≤◌, ◌⊎◌, ℕ, Option, Some, None, true, refl, ap, sym, subst, ◌∙◌, arith, inl, inr}
use Rattle.kn_base.specs.declared.key.Key.{Key}
use Rattle.kernel_tables.specs.Kernel.{Kernel}
use Rattle.kernel_tables.specs.Rows.{domain_rows, fixed_rows, of_domain, is_fixed, entry_at}
use Rattle.kernel_forest.specs.Moves.{PutsRow}
use Rattle.unix_model.specs.Tables.{at, with_at}
use Rattle.domain.specs.Keys.{is_meter, node_in, segment_in, key_of_space}
use Rattle.domain.specs.Domains.{domains, domain_at, lives, lives_by}
use Rattle.domain.specs.Rules.{RootGood, RowsGood, written}
use Rattle.domain.specs.Sets.{HandsOver}
use Rattle.domain.proofs.RowLaws.{row_case, root_unnamed, rows_good_same, unnamed_words_good, places_kept, root_good_space}
use Rattle.domain.proofs.DomainLaws.{live_meter}
use Rattle.domain.proofs.FieldLaws.{space_set, lives_early, root_space}
use Rattle.domain.proofs.Writing.{root_mine, hands_over, domain_not_fixed}

pub space_again : (space : Option ℕ) → segment_in (key_of_space space) ≡ space
space_again None = refl
space_again (Some node) = refl

space_no_node : (space : Option ℕ) → node_in (key_of_space space) ≡ None
space_no_node None = refl
space_no_node (Some node) = refl

early_apart : (place : ℕ) → (place ≡ 0) ⊎ (place ≡ 5) → (j : ℕ) → 1 ≤ j → j ≤ 4 → j ≢ place
early_apart place (inl f) j above below e = absurd (omega arith)
early_apart place (inr f) j above below e = absurd (omega arith)

early_low : (place : ℕ) → (place ≡ 0) ⊎ (place ≡ 5) → place < 13
early_low place (inl f) = omega arith
early_low place (inr f) = omega arith

-- a root's row with one key in place of another, neither of which names a row of keys
pub rows_good_root : (rows : ℕ → ℕ → Key) (root place : ℕ) (key : Key) → RowsGood rows → is_meter (rows root 2) ≡ true → (place ≡ 0) ⊎ (place ≡ 5) → node_in key ≡ None → node_in (rows root place) ≡ None
    → RootGood (with_at (rows root) place key) → RowsGood (written rows root place key)
unfolding at
rows_good_root rows root place key good meter which none was now =
    rows_good_same rows root (with_at (rows root) place key) good
    (λ i. row_case (rows root) place key (λ k. node_in k ≡ node_in (rows root i)) i (λ e. none ∙ sym (ap (λ j. node_in (rows root j)) e ∙ was)) (λ d. refl))
    (λ a i j named below. absurd (root_unnamed rows root good meter a i named))
    (λ a i j named above. absurd (root_unnamed rows root good meter a i named))
    (unnamed_words_good rows root (with_at (rows root) place key) (root_unnamed rows root good meter))
    (λ h. places_kept (rows root) place key (early_apart place which) (early_low place which) (good.places root meter))
    (λ h. now)

module _ (old new : Kernel) (root : ℕ) (space : Option ℕ) (good : RowsGood (domain_rows old)) (live : (at (domains old) root).live ≡ true) (puts : PutsRow old new root 0 (key_of_space space)) where
  meter : is_meter (domain_rows old root 2) ≡ true
  meter = live_meter (domain_rows old) root live

  mine : of_domain (entry_at old.node_entries root) ≡ true
  mine = root_mine old root (live_meter (domain_rows old) root live)

  rows_now : domain_rows new ≡ written (domain_rows old) root 0 (key_of_space space)
  rows_now = puts.rows_now of_domain (root_mine old root (live_meter (domain_rows old) root live))

  fixed_now : fixed_rows new ≡ fixed_rows old
  fixed_now = puts.others_now is_fixed (domain_not_fixed (entry_at old.node_entries root) (root_mine old root (live_meter (domain_rows old) root live)))

  pub space_domains : domains new ≡ with_at (domains old) root (record (at (domains old) root) { space = space })
  space_domains = ap domain_at rows_now ∙ space_set (domain_rows old) root (key_of_space space) space good meter (space_again space)

  pub space_lives : lives new ≡ lives old
  space_lives =
      ap (λ r. lives_by r (fixed_rows new)) rows_now
      ∙ lives_early (domain_rows old) (fixed_rows new) root 0 (key_of_space space) (λ e. absurd (omega arith)) (λ e. absurd (omega arith))
      ∙ ap (lives_by (domain_rows old)) fixed_now

  pub space_handed : HandsOver old new (key_of_space space) (key_of_space (at (domains old) root).space)
  space_handed = hands_over old new root 0 (key_of_space space) (key_of_space (at (domains old) root).space) mine (omega arith)
      ((good.roots root meter).of_space ∙ ap key_of_space (sym (root_space (domain_rows old) root live))) puts

  pub space_rows : RowsGood (domain_rows new)
  space_rows = subst RowsGood (sym rows_now)
      (rows_good_root (domain_rows old) root 0 (key_of_space space) good meter (inl refl) (space_no_node space)
      (ap node_in (good.roots root meter).of_space ∙ space_no_node (segment_in (domain_rows old root 0)))
      (root_good_space (domain_rows old root) (key_of_space space) (good.roots root meter) (ap key_of_space (sym (space_again space)))))
