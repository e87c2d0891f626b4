-- The life of a domain and of a service.
use Rattle.std.proofs.Common.{◌≡◌, ◌<◌, ◌≤◌, ◌+◌, ◌*◌, ◌/◌, ◌%◌, ℕ, None, true, false, nat_lt, refl, ap, sym, subst, ◌∙◌, arith, ⊎_elim, if◌then◌else◌}
use Rattle.std.proofs.Math.Path.{fun_ext}
use Rattle.kn_base.specs.declared.key.Key.{Key}
use Rattle.kernel_tables.specs.Kernel.{Kernel}
use Rattle.kernel_tables.specs.Rows.{entry_at, spelled_or_null, key_table, rows, domain_rows, fixed_rows, of_domain, is_fixed}
use Rattle.space_bank.specs.Bank.{BankGood}
use Rattle.space_bank.proofs.HandLaws.{nothing-in_hand}
use Rattle.kernel_forest.specs.Trees.{outside_trees}
use Rattle.kernel_forest.specs.Moves.{PutsRow}
use Rattle.unix_model.specs.Tables.{at, with_at}
use Rattle.domain.specs.Keys.{is_number, is_meter, root_in, word_in}
use Rattle.domain.specs.Domains.{domains, lives, lives_by, life_in, roots_by}
use Rattle.domain.specs.Lives.{IsService, HasLife, SetsLife, ServicesAreThere}
use Rattle.space_bank.specs.Fixed.{IsServiceRoot, state_key}
use Rattle.domain.proofs.Fits.{life_fits}
use Rattle.domain.specs.Rules.{NumberFits, written}
use Rattle.domain.specs.Sets.{WritesNumbers}
use Rattle.domain.proofs.RowLaws.{here_at, changed_at, written_both}
use Rattle.domain.proofs.DomainLaws.{live_meter, root_life}
use Rattle.domain.proofs.Writing.{root_mine, row_key, domain_below, fixed_key, number_outside, number_nothing}

-- a fixed node is no domain's
fixed_no_domain : (kernel : Kernel) (node : ℕ) → BankGood kernel → node < 15 → of_domain (entry_at kernel.node_entries node) ≡ false
fixed_no_domain kernel node good few = ap of_domain (good.nodes.fixed node few)

pub live_high : (kernel : Kernel) (root : ℕ) → BankGood kernel → (at (domains kernel) root).live ≡ true → root < 15 → ⊥
live_high kernel root good live few =
    let no : false ≡ true = sym (fixed_no_domain kernel root good few) ∙ root_mine kernel root (live_meter (domain_rows kernel) root live) in cc

-- a low root is a service's
pub alive_low : (kernel : Kernel) (root : ℕ) → BankGood kernel → HasLife kernel root → root < 15 → IsService (fixed_rows kernel) root
alive_low kernel root good has few = ⊎_elim (λ (live : (at (domains kernel) root).live ≡ true). absurd (live_high kernel root good live few)) (λ (is : IsService (fixed_rows kernel) root). is) has

no_meter_there : (kernel : Kernel) (node : ℕ) → BankGood kernel → node < 15 → is_meter (domain_rows kernel node 2) ≡ false
unfolding rows
no_meter_there kernel node good few = rw (fixed_no_domain kernel node good few) refl

-- what stands in the key
pub service_life : (kernel : Kernel) (root : ℕ) → BankGood kernel → IsService (fixed_rows kernel) root → at (lives kernel) root ≡ life_in (fixed_rows kernel root 6)
unfolding at lives_by
service_life kernel root good is = let high = is.high in ap (λ t. life_in (if t then domain_rows kernel root 6 else fixed_rows kernel root 6)) (no_meter_there kernel root good (omega arith))

pub life_there : (kernel : Kernel) (root : ℕ) → BankGood kernel → HasLife kernel root → life_in (key_table kernel.keys (16 * root + 6)) ≡ at (lives kernel) root
life_there kernel root good has = ⊎_elim
    (λ (live : (at (domains kernel) root).live ≡ true).
    let meter = live_meter (domain_rows kernel) root live in
    ap life_in (row_key kernel root 6 (root_mine kernel root (live_meter (domain_rows kernel) root live)) (omega arith)) ∙ sym (root_life (domain_rows kernel) (fixed_rows kernel) root (live_meter (domain_rows kernel) root live)))
    (λ (is : IsService (fixed_rows kernel) root). let high = is.high in ap life_in (fixed_key kernel root 6 good (omega arith) (omega arith)) ∙ sym (service_life kernel root good is))
    has

pub root_below : (kernel : Kernel) (root : ℕ) → BankGood kernel → HasLife kernel root → root < kernel.nodes
root_below kernel root good has = ⊎_elim
    (λ (live : (at (domains kernel) root).live ≡ true). domain_below kernel root good (root_mine kernel root (live_meter (domain_rows kernel) root live)))
    (λ (is : IsService (fixed_rows kernel) root). let high = is.high in let nodes = good.sized.all_nodes in omega arith)
    has

roots_other : (fixed : ℕ → ℕ → Key) (node : ℕ) (key : Key) → node ≤ 6 → roots_by (written fixed node 6 key) ≡ roots_by fixed
unfolding roots_by
roots_other fixed node key low = fun_ext (λ slot. ap (λ k. if nat_lt slot 64 then root_in k else None)
    (written_both fixed node 6 key (λ k. k ≡ fixed (11 + slot / 16) (slot % 16)) (11 + slot / 16) (slot % 16) (λ e f. absurd (omega arith)) refl))

-- a number is written in a service's key
module _ (old new : Kernel) (root : ℕ) (key : Key) (good : BankGood old) (is : IsService (fixed_rows old) root) (fits : NumberFits 6 key) (puts : PutsRow old new root 6 key) where
  few : root < 15
  few = let high = is.high in omega arith

  pub service_put : fixed_rows new ≡ written (fixed_rows old) root 6 key
  service_put = puts.rows_now is_fixed (ap is_fixed (good.nodes.fixed root few))

  pub service_rows : domain_rows new ≡ domain_rows old
  service_rows = puts.others_now of_domain (fixed_no_domain old root good few)

  written_there : (f : ℕ → ℕ → Key) → written f root 6 key root 6 ≡ key
  unfolding at
  written_there f = ap (λ (r : ℕ → Key). r 6) (here_at f root (with_at (f root) 6 key)) ∙ here_at (f root) 6 key

  pub service_lives : lives new ≡ with_at (lives old) root (life_in key)
  unfolding lives_by
  service_lives =
      ap (λ r. lives_by r (fixed_rows new)) service_rows ∙ ap (lives_by (domain_rows old)) service_put
      ∙ changed_at (lives_by (domain_rows old) (fixed_rows old)) (lives_by (domain_rows old) (written (fixed_rows old) root 6 key)) root (life_in key)
      (ap (λ t. life_in (if t then domain_rows old root 6 else written (fixed_rows old) root 6 key root 6)) (no_meter_there old root good few) ∙ ap life_in (written_there (fixed_rows old)))
      (λ m apart. ap (λ k. life_in (if is_meter (domain_rows old m 2) then domain_rows old m 6 else k))
      (written_both (fixed_rows old) root 6 key (λ k. k ≡ fixed_rows old m 6) m 6 (λ e f. absurd (apart e)) refl))

  stood : is_number (key_table old.keys (16 * root + 6)) ≡ true
  stood = ap is_number (fixed_key old root 6 good few (omega arith)) ∙ is.fits.number

  service_is : (service : ℕ) → IsService (fixed_rows old) service → IsService (fixed_rows new) service
  service_is service was = record {
    low = was.low;
    high = was.high;
    fits = subst (λ (f : ℕ → ℕ → Key). NumberFits 6 (f service 6)) (sym service_put) (written_both (fixed_rows old) root 6 key (NumberFits 6) service 6 (λ e f. fits) was.fits);
  }

  pub service_sets : SetsLife old new root key
  service_sets = record {
    rest = puts.state ∙ ap (λ k. let n : Kernel = record old { keys = k } in n) (sym (ap (λ (k : Kernel). k.keys) puts.state));
    forest_now = puts.forest_now;
    outside_now = λ outside. ap (outside_trees new) (sym (number_outside outside (key_table old.keys (16 * root + 6)) stood)) ∙ puts.outside_now outside ∙ ap (outside_trees old) (number_outside outside key fits.number);
    roots_now = ap roots_by service_put ∙ roots_other (fixed_rows old) root key is.high;
    fixed_now = λ node place apart. ap (λ (f : ℕ → ℕ → Key). f node place) service_put ∙ written_both (fixed_rows old) root 6 key (λ k. k ≡ fixed_rows old node place) node place (λ e f. absurd (apart e f)) refl;
    services_now = service_is;
    service_now = λ s. ap (λ (f : ℕ → ℕ → Key). f root 6) service_put ∙ written_there (fixed_rows old);
    shares = λ outside hand counted.
        (nothing-in_hand new outside hand (key_table old.keys (16 * root + 6)) (number_nothing (key_table old.keys (16 * root + 6)) stood)).0
        (puts.shares outside hand ((nothing-in_hand old outside hand key (number_nothing key fits.number)).1 counted));
  }

-- likewise in a domain's
pub domain_sets : (old new : Kernel) (root : ℕ) (key : Key) → BankGood old → (at (domains old) root).live ≡ true → WritesNumbers old new → SetsLife old new root key
domain_sets old new root key good live writes = record {
  rest = writes.rest;
  forest_now = writes.forest_now;
  outside_now = writes.outside_now;
  roots_now = ap roots_by writes.fixed_now;
  fixed_now = λ node place apart. ap (λ (f : ℕ → ℕ → Key). f node place) writes.fixed_now;
  services_now = λ service is. subst (λ f. IsService f service) (sym writes.fixed_now) is;
  service_now = λ is. let high = is.high in absurd (live_high old root good live (omega arith));
  shares = writes.shares;
}

-- ---- between turns

no_life_word : (calls : ℕ) → word_in (state_key 0 calls) 0 ≡ 0
unfolding word_in
no_life_word calls = refl

service_key : (kernel : Kernel) (service calls : ℕ) → BankGood kernel → service ≤ 6 → IsServiceRoot kernel.keys service 0 calls → fixed_rows kernel service 6 ≡ state_key 0 calls
unfolding key_table
service_key kernel service calls good high is = sym (fixed_key kernel service 6 good (omega arith) (omega arith)) ∙ ap spelled_or_null is.life

pub services_there : ServicesAreThere
services_there kernel service good fixed low high =
    let there = fixed.services service low high in
    record {
      low = low;
      high = high;
      fits = subst (NumberFits 6) (sym (service_key kernel service there.0 good high there.1)) (life_fits (state_key 0 there.0) 0 (omega arith) refl (no_life_word there.0));
    }
