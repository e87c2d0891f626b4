-- A map with paths as its keys.
use Rattle.std.proofs.Common.{◌≡◌, ℕ, List, Bool, true, false, bytes_eq, Option, Some, None, sym, ◌∙◌, subst}
use Rattle.std.specs.HashMap as hash
use Rattle.std.specs.HashMap.{HashMap}
use Rattle.std.specs.Map.{update, lookup, KeepsOthers, IsKeyTest, AreApart}
use Rattle.bundle.specs.declared.key.Key.{Key}
use Rattle.std.proofs.lemmas.Bool.{cases_Bool, cond-true, cond-false}
use Rattle.std.proofs.lemmas.Cmp.{nat_list_eq_equiv}
use Rattle.std.proofs.lemmas.Slice.Eq.{bytes_eq-Decides}
use Rattle.std.proofs.Common.{inl, inr}

apart : (bs cs ks : List ℕ) → bytes_eq bs cs ≡ false → bytes_eq bs ks ≡ true → bytes_eq cs ks ≡ false
apart bs cs ks n y = nat_list_eq_equiv.symm cs ks ∙ sym (nat_list_eq_equiv.congr bs ks cs y) ∙ n

other_entries : {K X : Type 0} (eq : K → K → Bool) (test : K → Bool) (old new : List (K × X)) → KeepsOthers eq test old new → (other : K → Bool) → IsKeyTest eq other → AreApart test other → lookup other new ≡ lookup other old
unfolding KeepsOthers
other_entries eq test old new h = h

-- what a map has at each path once one was put in
pub updated : {X S : Type 0} (path : List ℕ) (old new : HashMap Key X S) (value : Option X)
    → hash.UpdatesBy (λ x y. bytes_eq x.bytes.items y.bytes.items) (λ key. bytes_eq path key.bytes.items) old new value
    → (other : List ℕ) → hash.get_by (λ key. bytes_eq other key.bytes.items) new ≡ update bytes_eq (λ given. hash.get_by (λ key. bytes_eq given key.bytes.items) old) path value other
updated path old new value updates other =
    elim (cases_Bool (bytes_eq path other)) as (λ _. hash.get_by (λ key. bytes_eq other key.bytes.items) new ≡ update bytes_eq (λ given. hash.get_by (λ key. bytes_eq given key.bytes.items) old) path value other) [
      | inl same ↦
          let is : path ≡ other = (bytes_eq-Decides path other).0 same in
          subst (λ given. hash.get_by (λ key. bytes_eq given key.bytes.items) new ≡ value) is updates.1
          ∙ sym (cond-true (bytes_eq path other) value _ same)
      | inr differs ↦
          other_entries _ _ _ _ updates.3 (λ key. bytes_eq other key.bytes.items) (λ x y. nat_list_eq_equiv.congr other x.bytes.items y.bytes.items) (λ key. apart path other key.bytes.items differs)
          ∙ sym (cond-false (bytes_eq path other) value _ differs)
    ]

-- what is known of a path stays, where another is put in that wasn't there
pub still-there : {S : Type 0} (path last : List ℕ) (old new : HashMap Key Bool S) (kind : Bool)
    → hash.UpdatesBy (λ x y. bytes_eq x.bytes.items y.bytes.items) (λ key. bytes_eq path key.bytes.items) old new (Some kind)
    → hash.get_by (λ key. bytes_eq path key.bytes.items) old ≡ None → hash.get_by (λ key. bytes_eq last key.bytes.items) old ≡ Some true
    → hash.get_by (λ key. bytes_eq last key.bytes.items) new ≡ Some true
still-there path last old new kind updates none there =
    updated path old new (Some kind) updates last
    ∙ elim (cases_Bool (bytes_eq path last)) as (λ _. update bytes_eq (λ given. hash.get_by (λ key. bytes_eq given key.bytes.items) old) path (Some kind) last ≡ Some true) [
      | inl same ↦
          let is : path ≡ last = (bytes_eq-Decides path last).0 same in
          absurd (none-some (sym none ∙ subst (λ given. hash.get_by (λ key. bytes_eq given key.bytes.items) old ≡ Some true) (sym is) there))
      | inr differs ↦ cond-false (bytes_eq path last) (Some kind) _ differs ∙ there
    ]
  where
    none-some : {A : Type 0} {kind : A} → None ≡ Some kind → ⊥
    none-some e = cc
