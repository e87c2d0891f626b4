-- Fixed nodes along with invocations, while some services are not available.
use Rattle.std.proofs.Common.{◌≡◌, ◌≢◌, ◌<◌, ◌≤◌, ◌+◌, ◌*◌, ◌/◌, ◌%◌, ◌^◌, ℕ, Some, List, ◌++◌, refl, sym, ap, subst, ◌∙◌, arith, ⊎_elim}
use Rattle.std.proofs.lemmas.Bool.{cases_eq}
use Rattle.std.proofs.lemmas.Nat.{from_le_bytes-to_le_bytes_8}
use Rattle.kn_base.specs.declared.key.Key.{Key}
use Rattle.kn_base.specs.declared.key.Key.TheVariants.{Null, Resume, Domain as DomainKey}
use Rattle.kernel_tables.specs.Kernel.{Kernel}
use Rattle.kernel_tables.specs.Rows.{fixed_rows}
use Rattle.space_bank.specs.Bank.{BankGood}
use Rattle.space_bank.specs.Fixed.{IsServiceRoot, IsRoomKey, IsSlotKey, key_in, room_key, slot_key, state_key}
use Rattle.unix_model.specs.Tables.{at, with_at}
use Rattle.unix_model.proofs.TableLaws.{at-with_at, at-with_at-other}
use Rattle.domain.specs.declared.types.State.{State}
use Rattle.domain.specs.declared.types.State.TheVariants.{Available, Running, Waiting}
use Rattle.domain.specs.Domains.{Life, domains, life_in, lives, state_by, state_number}
use Rattle.domain.specs.Keys.{count_in, word_in}
use Rattle.domain.specs.Lives.{IsService}
use Rattle.domain.specs.Rules.{NumberFits, written}
use Rattle.domain.specs.Slots.{SlotsDiffer, room_of}
use Rattle.domain.proofs.BlockSets.{among_left, among_right}
use Rattle.domain.proofs.DomainLaws.{life_is}
use Rattle.domain.proofs.Fits.{life_fits, state_low}
use Rattle.domain.proofs.KeysTested.{state_again}
use Rattle.domain.proofs.Living.{service_life}
use Rattle.domain.proofs.RowLaws.{written_both}
use Rattle.invoke.specs.Invokes.{Goes, life_key}
use Rattle.invoke.specs.Others.{CallerLives, seat_at, touched}
use Rattle.invoke.specs.Room.{Seat, Stays, Enters, Leaves, room, room_with, slot_in}
use Rattle.invoke.specs.Steps.{Step, Given}
use Rattle.invoke.proofs.Leaving.{others_are_left}
use Rattle.kernel_machine.specs.Invocations as law
use Rattle.kernel_machine.specs.Invocations.{FixedBut}
use Rattle.kernel_machine.proofs.InvocationsStand.{among-or}
use Rattle.kernel_machine.proofs.KeepLaws.{key-fixed}

-- ---- the key with a life

worth-short : (a b c d e f g h : ℕ) → a < 256 → b < 256 → c < 256 → d < 256 → e < 256 → f < 256 → g < 256 → h < 256
    → a + b * 256 + c * 65536 + d * 16777216 + e * 4294967296 + f * 1099511627776 + g * 281474976710656 + h * 72057594037927936 < 2 ^ 64
worth-short a b c d e f g h at_0 at_1 at_2 at_3 at_4 at_5 at_6 at_7 = omega arith

byte : (n : ℕ) → n % 256 < 256
byte n = omega arith

count-short : (state count : ℕ) → count_in (state_key state count) < 2 ^ 64
unfolding count_in
count-short state count = worth-short _ _ _ _ _ _ _ _
    (byte count) (byte (count / 256)) (byte (count / 65536)) (byte (count / 16777216)) (byte (count / 4294967296)) (byte (count / 1099511627776))
    (byte (count / 281474976710656)) (byte (count / 72057594037927936))

count-read : (state count : ℕ) → count < 2 ^ 64 → count_in (state_key state count) ≡ count
unfolding count_in
count-read state count few = from_le_bytes-to_le_bytes_8 count few

word-read : (state : State) (count : ℕ) → word_in (state_key (state_number state) count) 0 ≡ state_number state
unfolding word_in
word-read Available count = refl
word-read Running count = refl
word-read Waiting count = refl

life-read : (state : State) (count : ℕ) → count < 2 ^ 64 → life_in (state_key (state_number state) count) ≡ record { state = state; count = count }
life-read state count few =
    life_is (state_key (state_number state) count) state count (ap state_by (word-read state count) ∙ state_again state) (count-read (state_number state) count few)

-- ---- keys of fixed nodes

key-at : (kernel : Kernel) (node place : ℕ) → BankGood kernel → node < 15 → place < 16 → key_in kernel.keys node place ≡ Some (fixed_rows kernel node place)
key-at kernel node place good few low =
    let n : (16 * node + place) / 16 ≡ node = omega arith in
    let p : (16 * node + place) % 16 ≡ place = omega arith in
    key-fixed kernel (16 * node + place) good (omega arith)
    ∙ ap (λ m. Some (fixed_rows kernel m ((16 * node + place) % 16))) n ∙ ap (λ q. Some (fixed_rows kernel node q)) p

room-at : (kernel : Kernel) (slot : ℕ) → BankGood kernel → slot < 64 → room_key kernel.keys slot ≡ Some (at (room kernel) slot)
unfolding room_of at
room-at kernel slot good low =
    let n : (16 * 7 + slot) / 16 ≡ 7 + slot / 16 = omega arith in
    let p : (16 * 7 + slot) % 16 ≡ slot % 16 = omega arith in
    key-fixed kernel (16 * 7 + slot) good (omega arith)
    ∙ ap (λ m. Some (fixed_rows kernel m ((16 * 7 + slot) % 16))) n ∙ ap (λ q. Some (fixed_rows kernel (7 + slot / 16) q)) p

some-key : (one other : Key) → Some one ≡ Some other → one ≡ other
some-key one other e = cc

-- the root of a service that holds this life
its-key : (kernel : Kernel) (service calls : ℕ) (state : State) → BankGood kernel → service ≤ 6 → IsServiceRoot kernel.keys service (state_number state) calls
    → fixed_rows kernel service 6 ≡ state_key (state_number state) calls
its-key kernel service calls state good high is = some-key (fixed_rows kernel service 6) (state_key (state_number state) calls) (sym (key-at kernel service 6 good (omega arith) (omega arith)) ∙ is.life)

is-service : (kernel : Kernel) (service calls : ℕ) (state : State) → BankGood kernel → 1 ≤ service → service ≤ 6 → IsServiceRoot kernel.keys service (state_number state) calls
    → IsService (fixed_rows kernel) service
is-service kernel service calls state good low high is = record {
  low = low;
  high = high;
  fits = subst (NumberFits 6) (sym (its-key kernel service calls state good high is)) (life_fits (state_key (state_number state) calls) (state_number state) (state_low state) refl (word-read state calls));
}

its-life : (kernel : Kernel) (service calls : ℕ) (state : State) → BankGood kernel → 1 ≤ service → service ≤ 6 → IsServiceRoot kernel.keys service (state_number state) calls
    → at (lives kernel) service ≡ record { state = state; count = calls }
its-life kernel service calls state good low high is =
    service_life kernel service good (is-service kernel service calls state good low high is)
    ∙ ap life_in (its-key kernel service calls state good high is) ∙ life-read state calls is.few

-- a root that holds its life, and all other keys as before
root-with : (old new : Kernel) (service state calls : ℕ) → BankGood old → BankGood new → service ≤ 6 → IsService (fixed_rows new) service
    → fixed_rows new service 6 ≡ life_key (at (lives new) service) → ((place : ℕ) → place ≢ 6 → fixed_rows new service place ≡ fixed_rows old service place)
    → IsServiceRoot old.keys service state calls → IsServiceRoot new.keys service (state_number (at (lives new) service).state) (at (lives new) service).count
root-with old new service state calls good now high is life same was =
    let keys = λ (place : ℕ) (low : place < 16) (apart : place ≢ 6).
    key-at new service place now (omega arith) low ∙ ap Some (same place apart) ∙ sym (key-at old service place good (omega arith) low) in
    record {
      own_key = keys 0 (omega arith) (λ e. absurd (omega arith)) ∙ was.own_key;
      life = key-at new service 6 now (omega arith) (omega arith) ∙ ap Some life;
      few = subst (λ n. n < 2 ^ 64) (sym (ap (λ (l : Life). l.count) (service_life new service now is ∙ ap life_in life)))
          (count-short (state_number (at (lives new) service).state) (at (lives new) service).count);
      others = λ place low first seventh. keys place low seventh ∙ was.others place low first seventh;
    }

-- ---- but for none, and settled

pub fixed_are_good_but : law.FixedAreGoodBut
fixed_are_good_but kernel good fixed =
    let held = λ (service : ℕ) (low : 1 ≤ service) (high : service ≤ 6).
    let there = fixed.services service low high in its-life kernel service there.0 Available good low high there.1 in
    record {
      null_node = fixed.null_node;
      services = λ service low high. subst (λ (l : Life). IsServiceRoot kernel.keys service (state_number l.state) l.count) (sym (held service low high)) (fixed.services service low high).1;
      available = λ service low high apart. ap (λ (l : Life). l.state) (held service low high);
      room = fixed.room;
      slots = fixed.slots;
    }

pub fixed_are_settled : law.FixedAreSettled
fixed_are_settled kernel apart but settled = record {
  null_node = but.null_node;
  services = λ service low high. (
    (at (lives kernel) service).count,
    subst (λ (state : State). IsServiceRoot kernel.keys service (state_number state) (at (lives kernel) service).count)
        (⊎_elim (settled service low high) (but.available service low high) (among-or service apart))
        (but.services service low high),
  );
  room = but.room;
  slots = but.slots;
}

-- ---- keys are as they were

module _ (old new : Kernel) (apart : List ℕ) (good : BankGood old) (now : BankGood new) (but : FixedBut old apart) where
  was-service : (service : ℕ) → 1 ≤ service → service ≤ 6 → IsService (fixed_rows old) service
  was-service service low high = is-service old service (at (lives old) service).count (at (lives old) service).state good low high (but.services service low high)

  was-key : (service : ℕ) → 1 ≤ service → service ≤ 6 → fixed_rows old service 6 ≡ life_key (at (lives old) service)
  was-key service low high = its-key old service (at (lives old) service).count (at (lives old) service).state good high (but.services service low high)

  -- a service with the same key has the same life
  life-same : (service : ℕ) → 1 ≤ service → service ≤ 6 → IsService (fixed_rows new) service → fixed_rows new service 6 ≡ fixed_rows old service 6 → at (lives new) service ≡ at (lives old) service
  life-same service low high is same =
      service_life new service now is ∙ ap life_in same ∙ sym (service_life old service good (was-service service low high))

  null-now : ((place : ℕ) → fixed_rows new 0 place ≡ fixed_rows old 0 place) → (place : ℕ) → place < 16 → key_in new.keys 0 place ≡ Some Null
  null-now same place low =
      key-at new 0 place now (omega arith) low ∙ ap Some (same place) ∙ sym (key-at old 0 place good (omega arith) low) ∙ but.null_node place low

  slot-now : ((node place : ℕ) → 11 ≤ node → fixed_rows new node place ≡ fixed_rows old node place) → (slot : ℕ) → slot < 64 → IsSlotKey (slot_key new.keys slot)
  slot-now same slot low =
      subst IsSlotKey
      (sym (key-fixed new (16 * 11 + slot) now (omega arith) ∙ ap Some (same ((16 * 11 + slot) / 16) ((16 * 11 + slot) % 16) (omega arith)) ∙ sym (key-fixed old (16 * 11 + slot) good (omega arith))))
      (but.slots slot low)

  room-key : (slot : ℕ) → slot < 64 → IsRoomKey (Some (at (room old) slot))
  room-key slot low = subst IsRoomKey (room-at old slot good low) (but.room slot low)

  -- a key was written in the room that may stand there
  room-set : (place : ℕ) (key : Key) (slot : ℕ) → IsRoomKey (Some key) → slot < 64 → IsRoomKey (Some (at (with_at (room old) place key) slot))
  room-set place key slot right low = ⊎_elim
      (λ (e : slot ≡ place). subst (λ k. IsRoomKey (Some k)) (sym (ap (at (with_at (room old) place key)) e ∙ at-with_at (room old) place key)) right)
      (λ (d : slot ≢ place). subst (λ k. IsRoomKey (Some k)) (sym (at-with_at-other (room old) place slot key d)) (room-key slot low))
      (cases_eq slot place)

  seat-room : (seat : Seat) (slot : ℕ) → slot < 64 → IsRoomKey (Some (at (room_with old seat) slot))
  seat-room Stays slot low = room-key slot low
  seat-room (Enters root count) slot low = room-set (slot_in old root) (Resume (record { 0 = root }) count) slot tt low
  seat-room (Leaves root count) slot low = room-set (slot_in old root) Null slot tt low

  room-now : (seat : Seat) → ((slot : ℕ) → slot < 64 → at (room new) slot ≡ at (room_with old seat) slot) → (slot : ℕ) → slot < 64 → IsRoomKey (room_key new.keys slot)
  room-now seat same slot low = subst IsRoomKey (sym (room-at new slot now low ∙ ap Some (same slot low))) (seat-room seat slot low)

  module _ (same : (node place : ℕ) → node < 11 → fixed_rows new node place ≡ fixed_rows old node place) where
    still-service : (service : ℕ) → 1 ≤ service → service ≤ 6 → IsService (fixed_rows new) service
    still-service service low high =
        record { low = low; high = high; fits = subst (NumberFits 6) (sym (same service 6 (omega arith))) (was-service service low high).fits }

    still-life : (service : ℕ) → 1 ≤ service → service ≤ 6 → at (lives new) service ≡ at (lives old) service
    still-life service low high = life-same service low high (still-service service low high) (same service 6 (omega arith))

    still-room : (slot : ℕ) → slot < 64 → at (room new) slot ≡ at (room old) slot
    unfolding room_of at
    still-room slot low = same (7 + slot / 16) (slot % 16) (omega arith)

    below-now : ((slot : ℕ) → slot < 64 → IsSlotKey (slot_key new.keys slot)) → FixedBut new apart
    below-now slots = record {
      null_node = null-now (λ place. same 0 place (omega arith));
      services = λ service low high.
          root-with old new service (state_number (at (lives old) service).state) (at (lives old) service).count good now high (still-service service low high)
          (same service 6 (omega arith) ∙ was-key service low high ∙ ap life_key (sym (still-life service low high)))
          (λ place other. same service place (omega arith)) (but.services service low high);
      available = λ service low high other. ap (λ (l : Life). l.state) (still-life service low high) ∙ but.available service low high other;
      room = room-now Stays still-room;
      slots = slots;
    }

  rows-now : fixed_rows new ≡ fixed_rows old → FixedBut new apart
  rows-now same =
      let rows = λ (node place : ℕ). ap (λ (r : ℕ → ℕ → Key). r node place) same in
      below-now (λ node place low. rows node place) (slot-now (λ node place high. rows node place))

  -- one key of the slot table was written, with one that may stand there
  slot-set : (slot : ℕ) (key : Key) → slot < 64 → IsSlotKey (Some key) → fixed_rows new ≡ written (fixed_rows old) (11 + slot / 16) (slot % 16) key → FixedBut new apart
  slot-set slot key below right e =
      let shown = λ (node place : ℕ). ap (λ (r : ℕ → ℕ → Key). r node place) e in
      below-now
      (λ node place low. shown node place
      ∙ written_both (fixed_rows old) (11 + slot / 16) (slot % 16) key (λ k. k ≡ fixed_rows old node place) node place (λ n digit. absurd (omega arith)) refl)
      (λ other low. subst IsSlotKey (sym (key-fixed new (16 * 11 + other) now (omega arith) ∙ ap Some (shown ((16 * 11 + other) / 16) ((16 * 11 + other) % 16))))
      (written_both (fixed_rows old) (11 + slot / 16) (slot % 16) key (λ k. IsSlotKey (Some k)) ((16 * 11 + other) / 16) ((16 * 11 + other) % 16)
      (λ n digit. right) (subst IsSlotKey (key-fixed old (16 * 11 + other) good (omega arith)) (but.slots other low))))

  -- ---- somebody calls, is reached or answers

  module _ (one : Step) (given : Given) (caller : CallerLives old one) (differ : SlotsDiffer (domains old)) (goes : Goes old new one given (seat_at old one)) where
    now-service : (service : ℕ) → 1 ≤ service → service ≤ 6 → IsService (fixed_rows new) service
    now-service service low high = goes.invokes.services_now service (was-service service low high)

    now-key : (service : ℕ) → 1 ≤ service → service ≤ 6 → fixed_rows new service 6 ≡ life_key (at (lives new) service)
    now-key service low high = ⊎_elim
        (λ (same : fixed_rows new service 6 ≡ fixed_rows old service 6).
        same ∙ was-key service low high ∙ ap life_key (sym (life-same service low high (now-service service low high) same)))
        (λ (set : fixed_rows new service 6 ≡ life_key (at goes.now service)). set ∙ ap (λ (l : ℕ → Life). life_key (at l service)) (sym goes.invokes.lives_now))
        (goes.invokes.service_life service (was-service service low high))

    invoked-now : FixedBut new (touched one ++ apart)
    invoked-now = record {
      null_node = null-now goes.invokes.null_now;
      services = λ service low high.
          root-with old new service (state_number (at (lives old) service).state) (at (lives old) service).count good now high (now-service service low high)
          (now-key service low high) (λ place other. goes.invokes.services_rest service place (omega arith) other) (but.services service low high);
      available = λ service low high other.
          ap (λ (l : Life). l.state) (others_are_left old new one given caller goes differ service (λ among. other (among_left service (touched one) apart among))).life
          ∙ but.available service low high (λ among. other (among_right service (touched one) apart among));
      room = room-now (seat_at old one) (λ slot low. ap (λ (r : ℕ → Key). at r slot) goes.invokes.room_now);
      slots = slot-now goes.invokes.slots_now;
    }

pub fixed_but_with_rows : law.FixedButWithRows
fixed_but_with_rows old new apart good now same but = rows-now old new apart good now but same

pub fixed_but_with_birth : law.FixedButWithBirth
fixed_but_with_birth old new slot space root apart below good now made but = slot-set old new apart good now but slot (DomainKey (record { 0 = root })) below tt made.fixed_now

pub fixed_but_with_gone : law.FixedButWithGone
fixed_but_with_gone old new slot root apart below good now drops but = slot-set old new apart good now but slot Null below tt drops.fixed_now

pub fixed_with_invocation : law.FixedWithInvocation
fixed_with_invocation old new one given apart caller differ goes good now but = invoked-now old new apart good now but one given caller differ goes
