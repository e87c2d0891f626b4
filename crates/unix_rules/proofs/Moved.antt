-- The tree of directories where an entry moves to another place, perhaps onto another entry.
use Rattle.std.proofs.Common.{◌≡◌, ◌≢◌, ◌⊎◌, ℕ, zero, suc, Bool, true, false, Option, Some, None, refl, sym, subst, ap, ◌∙◌, inl, inr}
use Rattle.std.proofs.lemmas.Bool.{eq-eqb}
use Rattle.std.proofs.lemmas.Bool.Decides.{eqb_tells}
use Rattle.std.specs.Prelude.{◌==◌, ◌||◌}
use Rattle.unix_model.specs.Files.{Entry, Inode, is_directory, is_within, parent_of, root_inode}
use Rattle.unix_model.specs.Limits.{inode_count}
use Rattle.unix_model.specs.Rules.{EndsAt, entry_at, is_named_kind}
use Rattle.unix_model.specs.Tables.{at}
use Rattle.unix_laws.proofs.Basics.{some-differ, some-same, true-false}
use Rattle.unix_rules.proofs.Entries.{IsEmpty}
use Rattle.unix_rules.proofs.Trees.{IsPlace, SameKinds, Tree, at-place, entry-or-none, parent-is, step-more, way-kept, way-of, which-place}
use Rattle.unix_rules.specs.FileRules.{HasEntry, IsTied}

-- the entry at (df, pf) goes, and one of its inode stands at (dt, pt), where none or another one stood
pub record Moves (before after : ℕ → Option Inode) (dt pt df pf : ℕ) (to_entry from_entry : Entry) : Type 0 where
  pub set : entry_at after dt pt ≡ Some to_entry
  pub gone : entry_at after df pf ≡ None
  pub others : (directory place : ℕ) → (IsPlace directory place dt pt → ⊥) → (IsPlace directory place df pf → ⊥) → entry_at after directory place ≡ entry_at before directory place
  pub same_inode : to_entry.inode ≡ from_entry.inode
  pub from_there : entry_at before df pf ≡ Some from_entry
  pub replaced_apart : (entry : Entry) → entry_at before dt pt ≡ Some entry → entry.inode ≢ from_entry.inode
  pub replaced_empty : (entry : Entry) → entry_at before dt pt ≡ Some entry → IsEmpty before entry.inode
  pub kinds : SameKinds before after
  pub parents : (n : ℕ) → n ≢ from_entry.inode → parent_of (at after n) ≡ parent_of (at before n)
  pub parent_is : is_directory (at before from_entry.inode) ≡ true → parent_of (at after from_entry.inode) ≡ dt
  pub plain_parent : is_directory (at before from_entry.inode) ≡ false → parent_of (at after from_entry.inode) ≡ parent_of (at before from_entry.inode)
  pub directory_is : is_directory (at before dt) ≡ true
  pub tied : IsTied before dt
  pub beyond : is_directory (at before from_entry.inode) ≡ true → (steps : ℕ) → is_within before from_entry.inode steps dt ≡ false

or-not-left : (first second : Bool) → (first || second) ≡ false → first ≡ false
or-not-left true second e = cc
or-not-left false second e = refl

or-not-right : (first second : Bool) → (first || second) ≡ false → second ≡ false
or-not-right true second e = cc
or-not-right false second e = e

module _ (before after : ℕ → Option Inode) (dt pt df pf : ℕ) (to_entry from_entry : Entry) (end : EndsAt inode_count before) (tree : Tree before) (m : Moves before after dt pt df pf to_entry from_entry) where
  abbrev moved : ℕ
  moved = from_entry.inode

  -- an entry of the new state is the one that was set, or one from before, and that at another place than the one that went
  abbrev Reads : (directory place : ℕ) → Entry → Type 0
  Reads directory place entry =
      (IsPlace directory place dt pt × (to_entry ≡ entry)) ⊎ ((IsPlace directory place dt pt → ⊥) × (IsPlace directory place df pf → ⊥) × (entry_at before directory place ≡ Some entry))

  reads : (directory place : ℕ) (entry : Entry) → entry_at after directory place ≡ Some entry → Reads directory place entry
  reads directory place entry e = elim (which-place directory place dt pt) as (λ _. Reads directory place entry) [
    | inl to ↦ inl (to, some-same to_entry entry (sym m.set ∙ sym (at-place after directory place dt pt to) ∙ e))
    | inr not_to ↦ elim (which-place directory place df pf) as (λ _. Reads directory place entry) [
      | inl from ↦ some-differ entry (sym m.gone ∙ sym (at-place after directory place df pf from) ∙ e)
      | inr not_from ↦ inr (not_to, not_from, sym (m.others directory place not_to not_from) ∙ e)
    ]
  ]

  from-kind : is_named_kind (at before moved) ≡ true
  from-kind = tree.names df pf from_entry m.from_there

  to-names : (entry : Entry) → to_entry ≡ entry → entry.inode ≡ moved
  to-names entry same = ap (λ (x : Entry). x.inode) (sym same) ∙ m.same_inode

  kind-of : (directory place : ℕ) (entry : Entry) → Reads directory place entry → is_named_kind (at after entry.inode) ≡ true
  kind-of directory place entry (inl own) = m.kinds.kind entry.inode ∙ ap (λ n. is_named_kind (at before n)) (to-names entry own.1) ∙ from-kind
  kind-of directory place entry (inr other) = m.kinds.kind entry.inode ∙ tree.names directory place entry other.2

  root-of : (directory place : ℕ) (entry : Entry) → Reads directory place entry → entry.inode ≢ root_inode
  root-of directory place entry (inl own) = λ same. tree.root_has_none df pf from_entry m.from_there (sym (to-names entry own.1) ∙ same)
  root-of directory place entry (inr other) = tree.root_has_none directory place entry other.2

  -- a directory has one entry, so an older one isn't of the directory that moves
  older-apart : (directory place : ℕ) (entry : Entry) → (IsPlace directory place df pf → ⊥) → entry_at before directory place ≡ Some entry → is_directory (at before entry.inode) ≡ true → entry.inode ≢ moved
  older-apart directory place entry not_from e is same =
      let is_moved : is_directory (at before moved) ≡ true = ap (λ n. is_directory (at before n)) (sym same) ∙ is in
      let one : directory ≡ df = sym (tree.parents directory place entry e is) ∙ ap (λ n. parent_of (at before n)) same ∙ tree.parents df pf from_entry m.from_there is_moved in
      not_from (one, tree.once df place pf entry from_entry (ap (λ n. entry_at before n place) (sym one) ∙ e) m.from_there same is)

  parent-after : (n : ℕ) → n ≡ moved → is_directory (at before n) ≡ true → parent_of (at after n) ≡ dt
  parent-after n same is = ap (λ k. parent_of (at after k)) same ∙ m.parent_is (ap (λ k. is_directory (at before k)) (sym same) ∙ is)

  parent-here : (directory place : ℕ) (entry : Entry) → Reads directory place entry → is_directory (at before entry.inode) ≡ true → parent_of (at after entry.inode) ≡ directory
  parent-here directory place entry (inl own) is = parent-after entry.inode (to-names entry own.1) is ∙ sym own.0.0
  parent-here directory place entry (inr other) is = m.parents entry.inode (older-apart directory place entry other.1 other.2 is) ∙ tree.parents directory place entry other.2 is

  once-of : (directory place other : ℕ) (entry second : Entry) → Reads directory place entry → Reads directory other second → entry.inode ≡ second.inode → is_directory (at before entry.inode) ≡ true → place ≡ other
  once-of directory place other entry second (inl own) (inl too) same is = own.0.1 ∙ sym too.0.1
  once-of directory place other entry second (inl own) (inr too) same is =
      absurd (older-apart directory other second too.1 too.2 (ap (λ n. is_directory (at before n)) (sym same) ∙ is) (sym same ∙ to-names entry own.1))
  once-of directory place other entry second (inr own) (inl too) same is = absurd (older-apart directory place entry own.1 own.2 is (same ∙ to-names second too.1))
  once-of directory place other entry second (inr own) (inr too) same is = tree.once directory place other entry second own.2 too.2 same is

  -- ---- entries that stay

  moved-has : HasEntry after moved
  moved-has = record { directory = dt; place = pt; entry = to_entry; there = m.set; names = m.same_inode }

  -- an inode keeps an entry, unless it was the one that was replaced
  pub still-has : (number : ℕ) → HasEntry before number → HasEntry after number ⊎ ((entry : Entry) × (entry_at before dt pt ≡ Some entry) × (entry.inode ≡ number))
  still-has number has = elim (which-place has.directory has.place dt pt) as (λ _. HasEntry after number ⊎ ((entry : Entry) × (entry_at before dt pt ≡ Some entry) × (entry.inode ≡ number))) [
    | inl to ↦ inr (has.entry, sym (at-place before has.directory has.place dt pt to) ∙ has.there, has.names)
    | inr not_to ↦ elim (which-place has.directory has.place df pf) as (λ _. HasEntry after number ⊎ ((entry : Entry) × (entry_at before dt pt ≡ Some entry) × (entry.inode ≡ number))) [
      | inl from ↦
          let same : moved ≡ number = ap (λ (x : Entry). x.inode) (some-same from_entry has.entry (sym m.from_there ∙ sym (at-place before has.directory has.place df pf from) ∙ has.there)) ∙ has.names in
          inl (subst (HasEntry after) same moved-has)
      | inr not_from ↦ inl (record { directory = has.directory; place = has.place; entry = has.entry; there = m.others has.directory has.place not_to not_from ∙ has.there; names = has.names })
    ]
  ]

  had : (number : ℕ) → HasEntry after number → HasEntry before number
  had number has = had_so (reads has.directory has.place has.entry has.there)
    where
      had_so : Reads has.directory has.place has.entry → HasEntry before number
      had_so (inl own) = record { directory = df; place = pf; entry = from_entry; there = m.from_there; names = sym (to-names has.entry own.1) ∙ has.names }
      had_so (inr other) = record { directory = has.directory; place = has.place; entry = has.entry; there = other.2; names = has.names }

  -- ---- ways

  abbrev W : ℕ → Type 0
  W n = (is_directory (at before n) ≡ true) × IsTied before n

  -- below nothing that moves
  abbrev Free : ℕ → Type 0
  Free n = (steps : ℕ) → is_within before moved steps n ≡ false

  free-apart : (n : ℕ) → Free n → n ≢ moved
  unfolding is_within
  free-apart n free same = true-false (sym (eq-eqb n moved same) ∙ free zero)

  free-parent : (n : ℕ) → Free n → Free (parent_of (at before n))
  unfolding is_within
  free-parent n free steps = or-not-right (n == moved) (is_within before moved steps (parent_of (at before n))) (free (suc steps))

  record WF (n : ℕ) : Type 0 where
    w : W n
    free : Free n

  -- the way of the directory to which it moves
  way-to : is_directory (at before moved) ≡ true → (later : ℕ) × (is_within after root_inode later dt ≡ true)
  way-to is =
      let both : W dt = (m.directory_is, m.tied) in
      let way : (steps : ℕ) × (is_within before root_inode steps dt ≡ true) = way-of before tree dt both in
      way-kept before after WF (λ n v apart. record { w = parent-is before end tree n v.w apart; free = free-parent n v.free }) (λ n v apart. inr (m.parents n (free-apart n v.free))) way.0 dt
      (record { w = both; free = m.beyond is }) way.1

  agree : (n : ℕ) → W n → ((later : ℕ) × (is_within after root_inode later n ≡ true)) ⊎ (parent_of (at after n) ≡ parent_of (at before n))
  agree n w = elim (eqb_tells n moved) as (λ _. ((later : ℕ) × (is_within after root_inode later n ≡ true)) ⊎ (parent_of (at after n) ≡ parent_of (at before n))) [
    | inl same ↦
        let is : is_directory (at before moved) ≡ true = ap (λ k. is_directory (at before k)) (sym same.1) ∙ w.0 in
        let way : (later : ℕ) × (is_within after root_inode later dt ≡ true) = way-to is in
        inl (suc way.0, step-more after root_inode way.0 n (subst (λ k. is_within after root_inode way.0 k ≡ true) (sym (parent-after n same.1 w.0)) way.1))
    | inr apart ↦ inr (m.parents n apart.1)
  ]

  way-after : (n : ℕ) → W n → (later : ℕ) × (is_within after root_inode later n ≡ true)
  way-after n w =
      let way : (steps : ℕ) × (is_within before root_inode steps n ≡ true) = way-of before tree n w in
      way-kept before after W (λ k v apart. parent-is before end tree k v apart) (λ k v apart. agree k v) way.0 n w way.1

  -- ---- directories without an entry

  no-holder : (number directory place : ℕ) (entry : Entry) → IsEmpty before number → entry_at before directory place ≡ Some entry → number ≢ directory
  no-holder number directory place entry empty there same = some-differ entry (sym (empty place) ∙ ap (λ n. entry_at before n place) same ∙ there)

  empty-stays : (number : ℕ) → number ≢ dt → number ≢ df → IsEmpty before number → IsEmpty after number
  empty-stays number apart other empty place = m.others number place (λ both. apart both.0) (λ both. other both.0) ∙ empty place

  -- the directory to which it moves keeps its entry
  to-tied : (number : ℕ) → number ≡ dt → number ≢ root_inode → (HasEntry after number → ⊥) → IsEmpty before number → ⊥
  to-tied number same apart none empty = by_tie (subst (IsTied before) (sym same) m.tied)
    where
      replaced : (entry : Entry) → entry_at before dt pt ≡ Some entry → entry.inode ≡ number → ⊥
      replaced entry there names = no-holder number dt pt entry empty there same

      by_tie : IsTied before number → ⊥
      by_tie (inl root) = apart root
      by_tie (inr has) = elim (still-has number has) as (λ _. ⊥) [
        | inl still ↦ none still
        | inr old ↦ replaced old.0 old.1 old.2
      ]

  was-empty : (number : ℕ) → is_directory (at before number) ≡ true → number ≢ root_inode → (HasEntry after number → ⊥) → HasEntry before number ⊎ (HasEntry before number → ⊥) → IsEmpty before number
  was-empty number is apart none (inr none_before) = tree.empty number is apart none_before
  was-empty number is apart none (inl has) = elim (still-has number has) as (λ _. IsEmpty before number) [
    | inl still ↦ absurd (none still)
    | inr old ↦ subst (IsEmpty before) old.2 (m.replaced_empty old.0 old.1)
  ]

  -- it isn't empty where an entry comes: so it has an entry of its own, or is the root
  to-apart : (number : ℕ) → is_directory (at before number) ≡ true → number ≢ root_inode → (HasEntry after number → ⊥) → number ≢ dt
  to-apart number is apart none same = to-tied number same apart none (was-empty number is apart none (entry-or-none before number end))

  empty-of : (number : ℕ) → is_directory (at before number) ≡ true → number ≢ root_inode → (HasEntry after number → ⊥) → IsEmpty after number
  empty-of number is apart none =
      let empty : IsEmpty before number = was-empty number is apart none (entry-or-none before number end) in
      empty-stays number (to-apart number is apart none) (no-holder number df pf from_entry empty m.from_there) empty

  pub tree-moves : Tree after
  tree-moves =
      record {
        names = λ directory place entry e. kind-of directory place entry (reads directory place entry e);
        root_has_none = λ directory place entry e. root-of directory place entry (reads directory place entry e);
        parents = λ directory place entry e is. parent-here directory place entry (reads directory place entry e) (sym (m.kinds.directory entry.inode) ∙ is);
        once = λ directory place other entry second e f same is. once-of directory place other entry second (reads directory place entry e) (reads directory other second f) same (sym (m.kinds.directory entry.inode) ∙ is);
        below = λ number is has. way-after number (sym (m.kinds.directory number) ∙ is, inr (had number has));
        empty = λ number is apart none. empty-of number (sym (m.kinds.directory number) ∙ is) apart none;
      }
