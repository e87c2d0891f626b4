-- Slots: which domain each has, and by which key it goes on.
use Rattle.std.specs.Prelude.{◌≡◌, ℕ, ◌+◌, ◌/◌, ◌%◌, true, Option, Some}
use Rattle.kn_base.specs.declared.key.Key.{Key}
use Rattle.unix_model.specs.Tables.{at}
use Rattle.domain.specs.Domains.{Domain}

-- slot s has key s % 16 of node 7 + s / 16 in the resume room
unfoldable pub room_of : (ℕ → ℕ → Key) → ℕ → Key
room_of fixed = λ slot. fixed (7 + slot / 16) (slot % 16)

-- no two domains have one slot
abbrev pub SlotsDiffer : (ℕ → Domain) → Type 0
SlotsDiffer domains =
    (root other : ℕ) → (at domains root).live ≡ true → (at domains other).live ≡ true → (at domains root).slot ≡ (at domains other).slot → root ≡ other

-- What a slot names is a domain that has this slot, and each domain is named by its slot.
pub record AreInSlots (roots : ℕ → Option ℕ) (domains : ℕ → Domain) : Type 0 where
  pub live : (slot root : ℕ) → at roots slot ≡ Some root → (at domains root).live ≡ true
  pub own : (slot root : ℕ) → at roots slot ≡ Some root → (at domains root).slot ≡ slot
  pub all : (root : ℕ) → (at domains root).live ≡ true → at roots (at domains root).slot ≡ Some root
