-- What the tests of single keys tell.
use Rattle.std.proofs.Common.{◌≡◌, ◌<◌, ◌≤◌, ◌%◌, ◌==◌, ◌&&◌, ◌||◌, not, nat_lt, nat_le, ℕ, zero, suc, get_or, Bool, Option, Some, None, IsSome, true, false, refl, ap, ◌∙◌, arith, if◌then◌else◌}
use Rattle.std.proofs.lemmas.Bool.{and_parts, and_from, eqb-true, eqb-false, eq-eqb, ne_eqb, leb-true, le-leb, ltb-true, lt-ltb}
use Rattle.kn_base.specs.declared.key.Key.{Key}
use Rattle.kn_base.specs.declared.key.Key.TheVariants.{Null, Page, Segment, Start, Resume, Meter}
use Rattle.unix_model.specs.Limits.{loads_end}
use Rattle.unix_model.specs.Rules.{IsBreak}
use Rattle.domain.specs.declared.types.State.{State}
use Rattle.domain.specs.declared.types.State.TheVariants.{Available, Running, Waiting}
use Rattle.domain.specs.declared.types.Phase.{Phase}
use Rattle.domain.specs.declared.types.Phase.TheVariants.{Run, Asked, Sent, Done, Exiting, Zombie}
use Rattle.domain.specs.Keys.{segment_in, page_in, word_in, key_of_space}
use Rattle.domain.specs.Domains.{no_domain, full_domain, state_by, state_number}
use Rattle.domain.specs.Phases.{key_for, BufferFits, HasRequest, HasAnswer, HasWord, HasSpace}
use Rattle.domain.specs.Tests.{is_null, is_space, is_keeper, is_meter_of, is_resume, are_zero, is_held, is_sent, is_done, has_ended, in_bounds, fits_space, fits_buffer, fits_room}

pub null_is : (key : Key) → is_null key ≡ true → key ≡ Null
null_is Null e = refl
null_is _ e = cc

pub is_null_then : (key : Key) → key ≡ Null → is_null key ≡ true
is_null_then key e = ap is_null e

pub meter_is : (slot : ℕ) (key : Key) → is_meter_of slot key ≡ true → key ≡ Meter slot
meter_is slot (Meter n) e = ap Meter (eqb-true n slot e)
meter_is slot _ e = cc

pub is_meter_then : (slot : ℕ) (key : Key) → key ≡ Meter slot → is_meter_of slot key ≡ true
is_meter_then slot key e = ap (is_meter_of slot) e ∙ eq-eqb slot slot refl

pub keeper_is : (slot : ℕ) (key : Key) → is_keeper slot key ≡ true → key ≡ Start (record { 0 = 1 }) slot
keeper_is slot (Start root byte) e =
    let both = and_parts (root.0 == 1) (byte == slot) e in
    ap (λ n. Start (record { 0 = n }) byte) (eqb-true root.0 1 both.0) ∙ ap (Start (record { 0 = 1 })) (eqb-true byte slot both.1)
keeper_is slot _ e = cc

pub is_keeper_then : (slot : ℕ) (key : Key) → key ≡ Start (record { 0 = 1 }) slot → is_keeper slot key ≡ true
is_keeper_then slot key e = ap (is_keeper slot) e ∙ eq-eqb slot slot refl

pub resume_is : (root count : ℕ) (key : Key) → is_resume root count key ≡ true → key ≡ Resume (record { 0 = root }) count
resume_is root count (Resume node calls) e =
    let both = and_parts (node.0 == root) (calls == count) e in
    ap (λ n. Resume (record { 0 = n }) calls) (eqb-true node.0 root both.0) ∙ ap (Resume (record { 0 = root })) (eqb-true calls count both.1)
resume_is root count _ e = cc

pub is_resume_then : (root count : ℕ) (key : Key) → key ≡ Resume (record { 0 = root }) count → is_resume root count key ≡ true
is_resume_then root count key e = ap (is_resume root count) e ∙ and_from (root == root) (count == count) (eq-eqb root root refl) (eq-eqb count count refl)

-- ---- the resume room

pub room_is : (phase : Phase) (root count : ℕ) (key : Key) → fits_room phase root count key ≡ true → key ≡ key_for root count phase
room_is Run root count key e = null_is key e
room_is Asked root count key e = resume_is root count key e
room_is Sent root count key e = resume_is root count key e
room_is Done root count key e = resume_is root count key e
room_is Exiting root count key e = null_is key e
room_is Zombie root count key e = null_is key e

pub fits_room_then : (phase : Phase) (root count : ℕ) (key : Key) → key ≡ key_for root count phase → fits_room phase root count key ≡ true
fits_room_then Run root count key e = is_null_then key e
fits_room_then Asked root count key e = is_resume_then root count key e
fits_room_then Sent root count key e = is_resume_then root count key e
fits_room_then Done root count key e = is_resume_then root count key e
fits_room_then Exiting root count key e = is_null_then key e
fits_room_then Zombie root count key e = is_null_then key e

-- ---- spaces

space_is : (key : Key) → is_space key ≡ true → (key ≡ key_of_space (segment_in key)) × IsSome (segment_in key)
space_is (Segment node height) e = (ap (Segment node) (eqb-true height 5 e), refl)
space_is _ e = cc

no_space_is : (key : Key) → is_null key ≡ true → (key ≡ key_of_space (segment_in key)) × (segment_in key ≡ None)
no_space_is Null e = (refl, refl)
no_space_is _ e = cc

some_space : (o : Option ℕ) → IsSome o → is_space (key_of_space o) ≡ true
some_space None some = cc
some_space (Some n) some = refl

no_space : (o : Option ℕ) → o ≡ None → is_null (key_of_space o) ≡ true
no_space o e = ap (λ s. is_null (key_of_space s)) e

module _ (row : ℕ → Key) (a b : ℕ → ℕ) where
  pub space_told : (phase : Phase) → fits_space phase (row 0) ≡ true → (row 0 ≡ key_of_space (segment_in (row 0))) × HasSpace (full_domain row a b) phase
  unfolding full_domain
  space_told Run e = space_is (row 0) e
  space_told Asked e = space_is (row 0) e
  space_told Sent e = space_is (row 0) e
  space_told Done e = space_is (row 0) e
  space_told Exiting e = space_is (row 0) e
  space_told Zombie e = no_space_is (row 0) e

  pub space_then : (phase : Phase) → row 0 ≡ key_of_space (segment_in (row 0)) → HasSpace (full_domain row a b) phase → fits_space phase (row 0) ≡ true
  unfolding full_domain
  space_then Run e has = ap is_space e ∙ some_space (segment_in (row 0)) has
  space_then Asked e has = ap is_space e ∙ some_space (segment_in (row 0)) has
  space_then Sent e has = ap is_space e ∙ some_space (segment_in (row 0)) has
  space_then Done e has = ap is_space e ∙ some_space (segment_in (row 0)) has
  space_then Exiting e has = ap is_space e ∙ some_space (segment_in (row 0)) has
  space_then Zombie e has = ap is_null e ∙ no_space (segment_in (row 0)) has

-- ---- states

pub state_again : (state : State) → state_by (state_number state) ≡ state
state_again Available = refl
state_again Running = refl
state_again Waiting = refl

pub number_again : (n : ℕ) → n < 3 → state_number (state_by n) ≡ n
number_again zero low = refl
number_again (suc zero) low = refl
number_again (suc (suc zero)) low = refl
number_again (suc (suc (suc n))) low = absurd (omega arith)

-- ---- numbers that no phase uses

pub zero_is : (key : Key) → are_zero key ≡ true → (word_in key 0 ≡ 0) × (word_in key 1 ≡ 0) × (word_in key 2 ≡ 0)
zero_is key e =
    let one = and_parts (word_in key 0 == 0) (word_in key 1 == 0 && word_in key 2 == 0) e in
    let two = and_parts (word_in key 1 == 0) (word_in key 2 == 0) one.1 in
    (eqb-true (word_in key 0) 0 one.0, eqb-true (word_in key 1) 0 two.0, eqb-true (word_in key 2) 0 two.1)

pub is_zero_then : (key : Key) → word_in key 0 ≡ 0 → word_in key 1 ≡ 0 → word_in key 2 ≡ 0 → are_zero key ≡ true
is_zero_then key a b c = and_from (word_in key 0 == 0) (word_in key 1 == 0 && word_in key 2 == 0) (eq-eqb (word_in key 0) 0 a)
    (and_from (word_in key 1 == 0) (word_in key 2 == 0) (eq-eqb (word_in key 1) 0 b) (eq-eqb (word_in key 2) 0 c))

module _ (row : ℕ → Key) (a b : ℕ → ℕ) where
  no_request : are_zero (row 9) ≡ true → are_zero (row 10) ≡ true → (full_domain row a b).request ≡ no_domain.request
  unfolding full_domain
  no_request e f = let first = zero_is (row 9) e in let rest = zero_is (row 10) f in rw (first.0, first.1, first.2, rest.0, rest.1, rest.2) refl

  no_request_then : (full_domain row a b).request ≡ no_domain.request → (are_zero (row 9) ≡ true) × (are_zero (row 10) ≡ true)
  unfolding full_domain
  no_request_then e = (
    is_zero_then (row 9) (ap (λ r. r.call) e) (ap (λ r. get_or r.args 0 0) e) (ap (λ r. get_or r.args 1 0) e),
    is_zero_then (row 10) (ap (λ r. get_or r.args 2 0) e) (ap (λ r. get_or r.args 3 0) e) (ap (λ r. r.length) e),
  )

  no_answer : are_zero (row 11) ≡ true → (full_domain row a b).answer ≡ no_domain.answer
  unfolding full_domain
  no_answer e = let zero = zero_is (row 11) e in rw (zero.0, zero.1, zero.2) refl

  no_answer_then : (full_domain row a b).answer ≡ no_domain.answer → are_zero (row 11) ≡ true
  unfolding full_domain
  no_answer_then e = is_zero_then (row 11) (ap (λ r. r.value) e) (ap (λ r. r.at) e) (ap (λ r. r.length) e)

  pub request_told : (phase : Phase) → (if is_sent phase then nat_lt (word_in (row 9) 0) 256 else are_zero (row 9)) ≡ true → (if is_sent phase then nat_le (word_in (row 10) 2) 4096 else are_zero (row 10)) ≡ true
      → HasRequest (full_domain row a b) phase
  unfolding full_domain
  request_told Run e f = no_request e f
  request_told Asked e f = no_request e f
  request_told Sent e f = leb-true (word_in (row 10) 2) 4096 f
  request_told Done e f = no_request e f
  request_told Exiting e f = no_request e f
  request_told Zombie e f = no_request e f

  pub call_few : (phase : Phase) → (if is_sent phase then nat_lt (word_in (row 9) 0) 256 else are_zero (row 9)) ≡ true → word_in (row 9) 0 < 256
  call_few Run e = let zero = (zero_is (row 9) e).0 in omega arith
  call_few Asked e = let zero = (zero_is (row 9) e).0 in omega arith
  call_few Sent e = ltb-true (word_in (row 9) 0) 256 e
  call_few Done e = let zero = (zero_is (row 9) e).0 in omega arith
  call_few Exiting e = let zero = (zero_is (row 9) e).0 in omega arith
  call_few Zombie e = let zero = (zero_is (row 9) e).0 in omega arith

  pub length_few : (used : Bool) (key : Key) → (if used then nat_le (word_in key 2) 4096 else are_zero key) ≡ true → word_in key 2 ≤ 4096
  length_few true key e = leb-true (word_in key 2) 4096 e
  length_few false key e = let zero = (zero_is key e).2 in omega arith

  pub call_then : (phase : Phase) → HasRequest (full_domain row a b) phase → word_in (row 9) 0 < 256 → (if is_sent phase then nat_lt (word_in (row 9) 0) 256 else are_zero (row 9)) ≡ true
  call_then Run has few = (no_request_then has).0
  call_then Asked has few = (no_request_then has).0
  call_then Sent has few = lt-ltb (word_in (row 9) 0) 256 few
  call_then Done has few = (no_request_then has).0
  call_then Exiting has few = (no_request_then has).0
  call_then Zombie has few = (no_request_then has).0

  pub rest_then : (phase : Phase) → HasRequest (full_domain row a b) phase → word_in (row 10) 2 ≤ 4096 → (if is_sent phase then nat_le (word_in (row 10) 2) 4096 else are_zero (row 10)) ≡ true
  rest_then Run has few = (no_request_then has).1
  rest_then Asked has few = (no_request_then has).1
  rest_then Sent has few = le-leb (word_in (row 10) 2) 4096 few
  rest_then Done has few = (no_request_then has).1
  rest_then Exiting has few = (no_request_then has).1
  rest_then Zombie has few = (no_request_then has).1

  pub answer_told : (phase : Phase) → (if is_done phase then nat_le (word_in (row 11) 2) 4096 else are_zero (row 11)) ≡ true → HasAnswer (full_domain row a b) phase
  unfolding full_domain
  answer_told Run e = no_answer e
  answer_told Asked e = no_answer e
  answer_told Sent e = no_answer e
  answer_told Done e = leb-true (word_in (row 11) 2) 4096 e
  answer_told Exiting e = no_answer e
  answer_told Zombie e = no_answer e

  pub answer_then : (phase : Phase) → HasAnswer (full_domain row a b) phase → word_in (row 11) 2 ≤ 4096 → (if is_done phase then nat_le (word_in (row 11) 2) 4096 else are_zero (row 11)) ≡ true
  answer_then Run has few = no_answer_then has
  answer_then Asked has few = no_answer_then has
  answer_then Sent has few = no_answer_then has
  answer_then Done has few = le-leb (word_in (row 11) 2) 4096 few
  answer_then Exiting has few = no_answer_then has
  answer_then Zombie has few = no_answer_then has

  -- ---- the word that a wait answers

  pub word_told : (phase : Phase) → (has_ended phase || word_in (row 8) 2 == 0) ≡ true → HasWord (full_domain row a b) phase
  unfolding full_domain
  word_told Run e = eqb-true (word_in (row 8) 2) 0 e
  word_told Asked e = eqb-true (word_in (row 8) 2) 0 e
  word_told Sent e = eqb-true (word_in (row 8) 2) 0 e
  word_told Done e = eqb-true (word_in (row 8) 2) 0 e
  word_told Exiting e = tt
  word_told Zombie e = tt

  pub word_then : (phase : Phase) → HasWord (full_domain row a b) phase → (has_ended phase || word_in (row 8) 2 == 0) ≡ true
  unfolding full_domain
  word_then Run has = eq-eqb (word_in (row 8) 2) 0 has
  word_then Asked has = eq-eqb (word_in (row 8) 2) 0 has
  word_then Sent has = eq-eqb (word_in (row 8) 2) 0 has
  word_then Done has = eq-eqb (word_in (row 8) 2) 0 has
  word_then Exiting has = refl
  word_then Zombie has = refl

-- ---- the break

pub bounds_told : (first last : ℕ) → in_bounds first last ≡ true → IsBreak first last
bounds_told first last e =
    let one = and_parts (first % 4096 == 0) (nat_le first last && nat_le last loads_end) e in
    let two = and_parts (nat_le first last) (nat_le last loads_end) one.1 in
    record { start_aligned = eqb-true (first % 4096) 0 one.0; order = leb-true first last two.0; limit = leb-true last loads_end two.1 }

pub bounds_then : (first last : ℕ) → IsBreak first last → in_bounds first last ≡ true
bounds_then first last is = and_from (first % 4096 == 0) (nat_le first last && nat_le last loads_end) (eq-eqb (first % 4096) 0 is.start_aligned)
    (and_from (nat_le first last) (nat_le last loads_end) (le-leb first last is.order) (le-leb last loads_end is.limit))

-- ---- buffers

held_is : (key : Key) → is_held key ≡ true → (page_in key ≡ None → key ≡ Null) × IsSome (page_in key)
held_is (Page page writable) e = (λ none. let no : Some page.0 ≡ None = none in cc, refl)
held_is _ e = cc

not_held_is : (key : Key) → is_null key ≡ true → (page_in key ≡ None → key ≡ Null) × (page_in key ≡ None)
not_held_is Null e = (λ none. refl, refl)
not_held_is _ e = cc

some_held : (key : Key) → IsSome (page_in key) → is_held key ≡ true
some_held key some = some

either_told : (key : Key) → (is_null key || is_held key) ≡ true → page_in key ≡ None → key ≡ Null
either_told Null e none = refl
either_told (Page page writable) e none = let no : Some page.0 ≡ None = none in cc
either_told _ e none = cc

either_then : (key : Key) → (page_in key ≡ None → key ≡ Null) → (is_null key || is_held key) ≡ true
either_then (Page page writable) null = refl
either_then key null = ap (λ k. is_null k || is_held k) (null refl)

or_none : (x : Bool) → (x || false) ≡ true → x ≡ true
or_none true e = refl
or_none false e = cc

or_none_then : (x : Bool) → x ≡ true → (x || false) ≡ true
or_none_then true e = refl
or_none_then false e = cc

sent_told : (none : Bool) (key : Key) → (if (not none || false) then is_held key else (is_null key || false)) ≡ true
    → (page_in key ≡ None → key ≡ Null) × ((none ≡ true → page_in key ≡ None) × (none ≡ false → IsSome (page_in key)))
sent_told true key e = let told = not_held_is key (or_none (is_null key) e) in (told.0, (λ t. told.1, λ f. cc))
sent_told false key e = let told = held_is key e in (told.0, (λ t. cc, λ f. told.1))

done_told : (none : Bool) (key : Key) → (if not none then is_held key else (is_null key || is_held key)) ≡ true → (page_in key ≡ None → key ≡ Null) × (none ≡ false → IsSome (page_in key))
done_told true key e = (either_told key e, λ f. cc)
done_told false key e = let told = held_is key e in (told.0, λ f. told.1)

sent_then : (none : Bool) (key : Key) → (page_in key ≡ None → key ≡ Null) → (none ≡ true → page_in key ≡ None) → (none ≡ false → IsSome (page_in key))
    → (if (not none || false) then is_held key else (is_null key || false)) ≡ true
sent_then true key null without with = or_none_then (is_null key) (is_null_then key (null (without refl)))
sent_then false key null without with = some_held key (with refl)

done_then : (none : Bool) (key : Key) → (page_in key ≡ None → key ≡ Null) → (none ≡ false → IsSome (page_in key)) → (if not none then is_held key else (is_null key || is_held key)) ≡ true
done_then true key null with = either_then key null
done_then false key null with = some_held key (with refl)

module _ (row : ℕ → Key) (a b : ℕ → ℕ) where
  pub buffer_told : (phase : Phase) → fits_buffer phase (word_in (row 10) 2) (word_in (row 11) 2) (row 5) ≡ true → (page_in (row 5) ≡ None → row 5 ≡ Null) × BufferFits (full_domain row a b) phase
  unfolding full_domain
  buffer_told Run e = not_held_is (row 5) (or_none (is_null (row 5)) e)
  buffer_told Asked e = not_held_is (row 5) (or_none (is_null (row 5)) e)
  buffer_told Sent e =
      let told = sent_told (word_in (row 10) 2 == 0) (row 5) e in
      (told.0, (λ none. told.1.0 (eq-eqb (word_in (row 10) 2) 0 none), λ some. told.1.1 (ne_eqb (word_in (row 10) 2) 0 some)))
  buffer_told Done e =
      let told = done_told (word_in (row 11) 2 == 0) (row 5) e in
      (told.0, λ some. told.1 (ne_eqb (word_in (row 11) 2) 0 some))
  buffer_told Exiting e = not_held_is (row 5) (or_none (is_null (row 5)) e)
  buffer_told Zombie e = not_held_is (row 5) (or_none (is_null (row 5)) e)

  pub buffer_then : (phase : Phase) → (page_in (row 5) ≡ None → row 5 ≡ Null) → BufferFits (full_domain row a b) phase → fits_buffer phase (word_in (row 10) 2) (word_in (row 11) 2) (row 5) ≡ true
  unfolding full_domain
  buffer_then Run null fits = or_none_then (is_null (row 5)) (is_null_then (row 5) (null fits))
  buffer_then Asked null fits = or_none_then (is_null (row 5)) (is_null_then (row 5) (null fits))
  buffer_then Sent null fits = sent_then (word_in (row 10) 2 == 0) (row 5) null (λ t. fits.0 (eqb-true (word_in (row 10) 2) 0 t)) (λ f. fits.1 (eqb-false (word_in (row 10) 2) 0 f))
  buffer_then Done null fits = done_then (word_in (row 11) 2 == 0) (row 5) null (λ f. fits (eqb-false (word_in (row 11) 2) 0 f))
  buffer_then Exiting null fits = or_none_then (is_null (row 5)) (is_null_then (row 5) (null fits))
  buffer_then Zombie null fits = or_none_then (is_null (row 5)) (is_null_then (row 5) (null fits))
