-- Slots and their domains.
use Rattle.std.proofs.Common.{◌≡◌, ◌<◌, ℕ, Option, Some, None, true, false, nat_lt, refl, sym, ap, ◌∙◌, ⊎_elim}
use Rattle.std.proofs.lemmas.Bool.{cases_Bool, ltb-true}
use Rattle.kn_base.specs.declared.key.Key.{Key}
use Rattle.unix_model.specs.Tables.{at}
use Rattle.domain.specs.Domains.{Domain, no_domain, full_domain, domain_at, roots_by}
use Rattle.domain.specs.Keys.{is_meter}
use Rattle.domain.specs.Slots.{SlotsDiffer, AreInSlots}

-- a slot that names somebody is one of the 64
pub slot-below : (fixed : ℕ → ℕ → Key) (slot root : ℕ) → at (roots_by fixed) slot ≡ Some root → slot < 64
unfolding roots_by at
slot-below fixed slot root e = ⊎_elim
    (λ (t : nat_lt slot 64 ≡ true). ltb-true slot 64 t)
    (λ (t : nat_lt slot 64 ≡ false). absurd (let no : None ≡ Some root = rw t at e in cc))
    (cases_Bool (nat_lt slot 64))

-- what is no root has no domain
pub dead_domain : (rows : ℕ → ℕ → Key) (root : ℕ) → (at (domain_at rows) root).live ≡ false → at (domain_at rows) root ≡ no_domain
unfolding at domain_at full_domain
dead_domain rows root dead = ⊎_elim
    (λ (t : is_meter (rows root 2) ≡ true). let no : true ≡ false = rw t at dead in cc)
    (λ (t : is_meter (rows root 2) ≡ false). rw t refl)
    (cases_Bool (is_meter (rows root 2)))

-- where each domain is in its slot, no two have one
some_same : (a b : ℕ) → Some a ≡ Some b → a ≡ b
some_same a b e = cc

pub slots_differ : {roots : ℕ → Option ℕ} {domains : ℕ → Domain} → AreInSlots roots domains → SlotsDiffer domains
slots_differ {roots = roots} in_slots root other live alive same = some_same root other (sym (in_slots.all root live) ∙ ap (λ s. at roots s) same ∙ in_slots.all other alive)
