-- Keys that are written in a node of a domain where Null stood.
use Rattle.std.proofs.Common.{◌≡◌, ◌<◌, ◌≤◌, ◌+◌, ◌*◌, ℕ, Some, true, nat_lt, List, [], ◌∷◌, ◌++◌, refl, ap, sym, subst, ◌∙◌, arith, append_assoc, if◌then◌else◌, ⊎_elim}
use Rattle.std.proofs.Math.Path.{fun_ext}
use Rattle.std.proofs.lemmas.Bool.{cases_lt, lt-ltb, le-ltb}
use Rattle.kn_base.specs.declared.key.Key.{Key}
use Rattle.kn_base.specs.declared.key.Key.TheVariants.{Null}
use Rattle.kernel_tables.specs.Kernel.{Kernel}
use Rattle.kernel_tables.specs.Rows.{entry_at, key_table, domain_rows, of_domain, is_fixed}
use Rattle.space_bank.specs.Laws.{and_outside}
use Rattle.space_bank.specs.Shares.{Outside, Shares, NamesNothing}
use Rattle.space_bank.proofs.HandLaws.{nothing-in_hand}
use Rattle.kernel_forest.specs.Trees.{outside_trees}
use Rattle.kernel_forest.specs.Moves.{PutsRow}
use Rattle.unix_model.specs.Tables.{at, with_at}
use Rattle.unix_model.proofs.TableLaws.{with_at-twice, with_at-same}
use Rattle.domain.specs.Life.{Fills, and_all, with_zeros, zero_number}
use Rattle.domain.proofs.RowLaws.{here_at, changed_at}
use Rattle.domain.proofs.Pages.{null_outside}
use Rattle.domain.proofs.Writing.{row_key, domain_not_fixed, number_outside}

pub and_all-last : (outside : Outside) (keys : List Key) (key : Key) → and_all outside (keys ++ key ∷ []) ≡ and_all (and_outside outside key) keys
unfolding and_all
and_all-last outside [] key = refl
and_all-last outside (first ∷ keys) key = ap (λ o. and_outside o first) (and_all-last outside keys key)

pub and_all-none : (outside : Outside) → and_all outside [] ≡ outside
unfolding and_all
and_all-none outside = refl

pub fills_mine : (old new : Kernel) (node : ℕ) (row : ℕ → Key) (spent : List Key) → Fills old new node row spent → of_domain (entry_at old.node_entries node) ≡ true → of_domain (entry_at new.node_entries node) ≡ true
fills_mine old new node row spent fills mine = ap (λ (k : Kernel). of_domain (entry_at k.node_entries node)) fills.rest ∙ mine

-- nothing is written yet
pub fills_start : (kernel : Kernel) (node : ℕ) → Fills kernel kernel node (domain_rows kernel node) []
unfolding at
fills_start kernel node = record {
  rest = refl;
  forest_now = refl;
  fixed_now = refl;
  rows_now = sym (with_at-same (domain_rows kernel) node (domain_rows kernel node) refl);
  outside_now = λ outside. ap (outside_trees kernel) (sym (and_all-none outside));
  shares = λ outside hand counted. counted;
}

-- one key more
pub fills_key : (old mid new : Kernel) (node place : ℕ) (row : ℕ → Key) (spent : List Key) (key : Key) → of_domain (entry_at old.node_entries node) ≡ true → place < 16
    → Fills old mid node row spent → row place ≡ Null → PutsRow mid new node place key → Fills old new node (with_at row place key) (spent ++ key ∷ [])
unfolding at
fills_key old mid new node place row spent key mine low fills null puts =
    let owned = fills_mine old mid node row spent fills mine in
    let stood : key_table mid.keys (16 * node + place) ≡ Null =
    row_key mid node place (fills_mine old mid node row spent fills mine) low ∙ ap (λ (r : ℕ → ℕ → Key). r node place) fills.rows_now ∙ ap (λ (r : ℕ → Key). r place) (here_at (domain_rows old) node row) ∙ null in
    record {
      rest = puts.state ∙ ap (λ k. let n : Kernel = record mid { keys = k } in n) (sym (ap (λ (k : Kernel). k.keys) puts.state)) ∙ ap (λ k. let n : Kernel = record k { keys = new.keys } in n) fills.rest;
      forest_now = puts.forest_now ∙ fills.forest_now;
      fixed_now = puts.others_now is_fixed (domain_not_fixed (entry_at mid.node_entries node) owned) ∙ fills.fixed_now;
      rows_now = puts.rows_now of_domain owned
          ∙ ap (λ (r : ℕ → ℕ → Key). with_at r node (with_at (r node) place key)) fills.rows_now
          ∙ ap (λ (r : ℕ → Key). with_at (with_at (domain_rows old) node row) node (with_at r place key)) (here_at (domain_rows old) node row)
          ∙ with_at-twice (domain_rows old) node row (with_at row place key);
      outside_now = λ outside.
          ap (outside_trees new) (sym (ap (and_outside outside) stood ∙ null_outside outside)) ∙ puts.outside_now outside
          ∙ fills.outside_now (and_outside outside key) ∙ ap (outside_trees old) (sym (and_all-last outside spent key));
      shares = λ outside hand counted. (nothing-in_hand new outside hand Null tt).0
          (subst (λ k. Shares new outside (k ∷ hand)) stood
          (puts.shares outside hand (fills.shares outside (key ∷ hand) (subst (λ h. Shares old outside h) (append_assoc spent (key ∷ []) hand) counted))));
    }

-- a key that names nothing isn't spent
pub fills_quiet : (old new : Kernel) (node : ℕ) (row : ℕ → Key) (key : Key) → NamesNothing (Some key) → ((outside : Outside) → and_outside outside key ≡ outside)
    → Fills old new node row (key ∷ []) → Fills old new node row []
fills_quiet old new node row key nothing quiet fills = record {
  rest = fills.rest;
  forest_now = fills.forest_now;
  fixed_now = fills.fixed_now;
  rows_now = fills.rows_now;
  outside_now = λ outside. fills.outside_now outside ∙ ap (outside_trees old) (and_all-last outside [] key ∙ ap (λ o. and_all o []) (quiet outside));
  shares = λ outside hand counted. fills.shares outside hand ((nothing-in_hand old outside hand key nothing).1 counted);
}

pub fills_to : (old new : Kernel) (node : ℕ) (row other : ℕ → Key) (spent : List Key) → row ≡ other → Fills old new node row spent → Fills old new node other spent
fills_to old new node row other spent e fills = subst (λ r. Fills old new node r spent) e fills

-- zeros, one after the other
with_zeros-none : (row : ℕ → Key) (from : ℕ) → with_zeros row from from ≡ row
unfolding with_zeros
with_zeros-none row from = fun_ext (λ place. ⊎_elim
    (λ (t : place < from). rw (lt-ltb place from t) refl)
    (λ (t : from ≤ place). rw (le-ltb place from t) refl)
    (cases_lt place from))

with_zeros-step : (row : ℕ → Key) (from place : ℕ) → from ≤ place → with_at (with_zeros row from place) place zero_number ≡ with_zeros row from (place + 1)
unfolding with_zeros
with_zeros-step row from place low = sym (changed_at (with_zeros row from place) (with_zeros row from (place + 1)) place zero_number
    (rw (le-ltb place from low, lt-ltb place (place + 1) (omega arith)) refl)
    (λ q apart. ap (λ k. if nat_lt q from then row q else k) (⊎_elim
    (λ (t : q < place). rw (lt-ltb q place t, lt-ltb q (place + 1) (omega arith)) refl)
    (λ (t : place ≤ q). rw (le-ltb q place t, le-ltb q (place + 1) (omega arith)) refl)
    (cases_lt q place))))

pub fills_none : (kernel : Kernel) (node from : ℕ) → Fills kernel kernel node (with_zeros (domain_rows kernel node) from from) []
fills_none kernel node from = fills_to kernel kernel node (domain_rows kernel node) (with_zeros (domain_rows kernel node) from from) [] (sym (with_zeros-none (domain_rows kernel node) from)) (fills_start kernel node)

zeros_null : (row : ℕ → Key) (from place : ℕ) → from ≤ place → row place ≡ Null → with_zeros row from place place ≡ Null
unfolding with_zeros
zeros_null row from place low null = rw (le-ltb place from low, le-ltb place place (omega arith)) null

pub fills_zero : (old mid new : Kernel) (node from place : ℕ) (row : ℕ → Key) → of_domain (entry_at old.node_entries node) ≡ true → place < 16 → from ≤ place → row place ≡ Null
    → Fills old mid node (with_zeros row from place) [] → PutsRow mid new node place zero_number → Fills old new node (with_zeros row from (place + 1)) []
fills_zero old mid new node from place row mine low above null fills puts =
    fills_to old new node (with_at (with_zeros row from place) place zero_number) (with_zeros row from (place + 1)) [] (with_zeros-step row from place above)
    (fills_quiet old new node (with_at (with_zeros row from place) place zero_number) zero_number tt (λ outside. number_outside outside zero_number refl)
    (fills_key old mid new node place (with_zeros row from place) [] zero_number mine low fills (zeros_null row from place above null) puts))
