-- Keys in range.
use Rattle.std.proofs.Common.{◌≡◌, ◌≢◌, ◌<◌, ◌≤◌, ◌+◌, ◌*◌, ◌/◌, ◌%◌, ℕ, Option, Some, None, List, length, length-set, set, ap, sym, subst, ◌∙◌, arith, ⊎_elim}
use Rattle.std.proofs.lemmas.Bool.{cases_eq, cases_lt}
use Rattle.std.proofs.lemmas.List.{get_or_past}
use Rattle.kn_base.specs.declared.key.Key.{Key}
use Rattle.kn_base.specs.declared.key.Key.TheVariants.{Null}
use Rattle.kernel_tables.specs.Kernel.{Kernel}
use Rattle.kernel_tables.specs.Rows.{spelled_or_null, key_table}
use Rattle.kernel_forest.proofs.Moves.{key_table-set}
use Rattle.domain.proofs.RowLaws.{row_case}
use Rattle.domain.specs.Checks.{KeyInRange, KeysInRange}
use Rattle.tests_domain.specs.First.{IsReadable}

null_in_range : (nodes : ℕ) → KeyInRange nodes Null
null_in_range nodes = record {
  node = λ n e. let no : None ≡ Some n = e in cc;
  root = λ n e. let no : None ≡ Some n = e in cc;
}

past_null : (keys : List (Option Key)) (place : ℕ) → length keys ≤ place → key_table keys place ≡ Null
unfolding key_table
past_null keys place far = ap spelled_or_null (get_or_past keys place None far)

-- one more key is in range, ..
pub more_in_range : (keys : ℕ → Key) (nodes place : ℕ) (key : Key) → ((p : ℕ) → p < place → KeyInRange nodes (keys p)) → key ≡ keys (16 * (place / 16) + place % 16)
    → KeyInRange nodes key → (p : ℕ) → p < place + 1 → KeyInRange nodes (keys p)
more_in_range keys nodes place key before is now p low = ⊎_elim
    (λ (e : p ≡ place). subst (KeyInRange nodes) (is ∙ ap keys (let same : 16 * (place / 16) + place % 16 ≡ p = omega arith in same)) now)
    (λ (d : p ≢ place). before p (omega arith))
    (cases_eq p place)

-- .. and all are, once all that there are have been looked at
pub in_range : (kernel : Kernel) → IsReadable kernel → (end : ℕ) → 16 * kernel.nodes ≤ end → ((place : ℕ) → place < end → KeyInRange kernel.nodes (key_table kernel.keys place)) → KeysInRange kernel
in_range kernel readable end far low place = ⊎_elim
    (λ (t : place < end). low place t)
    (λ (t : end ≤ place). let keys = readable.all_keys in subst (KeyInRange kernel.nodes) (sym (past_null kernel.keys place (omega arith))) (null_in_range kernel.nodes))
    (cases_lt place end)

-- a key in range is written
pub put_in_range : (old new : Kernel) (place : ℕ) (key : Key) → KeysInRange old → place < length old.keys → KeyInRange old.nodes key → new ≡ record old { keys = set old.keys place (Some key) } → KeysInRange new
put_in_range old new place key before inside low e p =
    subst (λ (k : Kernel). KeyInRange k.nodes (key_table k.keys p)) (sym e)
    (subst (λ (f : ℕ → Key). KeyInRange old.nodes (f p)) (sym (key_table-set old.keys place key inside))
    (row_case (key_table old.keys) place key (KeyInRange old.nodes) p (λ h. low) (λ h. before p)))

pub put_readable : (old new : Kernel) (place : ℕ) (key : Key) → IsReadable old → new ≡ record old { keys = set old.keys place (Some key) } → IsReadable new
put_readable old new place key readable e = subst IsReadable (sym e) (record { sized = readable.sized; all_keys = length-set old.keys place (Some key) ∙ readable.all_keys })
