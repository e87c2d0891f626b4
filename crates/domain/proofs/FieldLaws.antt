-- Fields of domains, while keys of their roots are written.
use Rattle.std.proofs.Common.{◌≡◌, ◌≢◌, ◌<◌, ◌≤◌, ◌+◌, ◌/◌, ◌%◌, ◌&&◌, ℕ, Option, true, List, [], ◌∷◌, length, get_or, refl, ap, sym, ◌∙◌, arith}
use Rattle.std.specs.Option.{is_some}
use Rattle.std.proofs.lemmas.Bool.{lt-ltb}
use Rattle.kn_base.specs.declared.key.Key.{Key}
use Rattle.unix_model.specs.Tables.{at, with_at}
use Rattle.unix_model.proofs.TableLaws.{with_at-twice}
use Rattle.unix_model.specs.declared.calls.Request.{Request}
use Rattle.domain.specs.declared.types.Answer.{Answer}
use Rattle.domain.specs.declared.types.Heads.{Heads}
use Rattle.domain.specs.Keys.{is_meter, node_in, segment_in, page_in, word_in, words_in, root_in}
use Rattle.domain.specs.Domains.{Domain, full_domain, domain_at, with_heads, heads_in, lives_by, roots_by}
use Rattle.domain.specs.Rules.{RowsGood, written}
use Rattle.domain.proofs.RowLaws.{here_at, other_at}
use Rattle.domain.proofs.DomainLaws.{live_meter, root_domain, root_row_set, lives_row_same, first_word, second_word, third_word}

-- two keys that are written one after the other in a row
pub written_two : (rows : ℕ → ℕ → Key) (root a b : ℕ) (first second : Key)
    → written (written rows root a first) root b second ≡ with_at rows root (with_at (with_at (rows root) a first) b second)
unfolding at
written_two rows root a b first second =
    ap (λ (r : ℕ → Key). with_at (with_at rows root (with_at (rows root) a first)) root (with_at r b second)) (here_at rows root (with_at (rows root) a first))
    ∙ with_at-twice rows root (with_at (rows root) a first) (with_at (with_at (rows root) a first) b second)

pub two_other : (row : ℕ → Key) (a b m : ℕ) (first second : Key) → m ≢ a → m ≢ b → with_at (with_at row a first) b second m ≡ row m
two_other row a b m first second x y = other_at (with_at row a first) b m second y ∙ other_at row a m first x

-- keys 7 and 8 with other heads
heads_fields : (row : ℕ → Key) (first second : Key) (heads : Heads) → words_in first ≡ heads.pid ∷ heads.parent ∷ word_in (row 7) 2 ∷ []
    → words_in second ≡ heads.break_start ∷ heads.break_end ∷ heads.word ∷ []
    → (regs descriptors : ℕ → ℕ) → full_domain (with_at (with_at row 7 first) 8 second) regs descriptors ≡ with_heads (full_domain row regs descriptors) heads
unfolding full_domain with_at
heads_fields row first second heads a b regs descriptors =
    let a0 = first_word first heads.pid heads.parent (word_in (row 7) 2) a in
    let a1 = second_word first heads.pid heads.parent (word_in (row 7) 2) a in
    let a2 = third_word first heads.pid heads.parent (word_in (row 7) 2) a in
    let b0 = first_word second heads.break_start heads.break_end heads.word b in
    let b1 = second_word second heads.break_start heads.break_end heads.word b in
    let b2 = third_word second heads.break_start heads.break_end heads.word b in
    rw (a0, a1, a2, b0, b1, b2) refl

pub heads_set : (rows now : ℕ → ℕ → Key) (root : ℕ) (first second : Key) (heads : Heads) → now ≡ written (written rows root 7 first) root 8 second → RowsGood rows → is_meter (rows root 2) ≡ true
    → words_in first ≡ heads.pid ∷ heads.parent ∷ word_in (rows root 7) 2 ∷ [] → words_in second ≡ heads.break_start ∷ heads.break_end ∷ heads.word ∷ []
    → domain_at now ≡ with_at (domain_at rows) root (with_heads (at (domain_at rows) root) heads)
heads_set rows now root first second heads is good meter a b =
    ap domain_at (is ∙ written_two rows root 7 8 first second)
    ∙ root_row_set rows root (with_at (with_at (rows root) 7 first) 8 second) (λ d. with_heads d heads) good meter
    (two_other (rows root) 7 8 2 first second (λ e. absurd (omega arith)) (λ e. absurd (omega arith)))
    (two_other (rows root) 7 8 3 first second (λ e. absurd (omega arith)) (λ e. absurd (omega arith)))
    (two_other (rows root) 7 8 4 first second (λ e. absurd (omega arith)) (λ e. absurd (omega arith)))
    (heads_fields (rows root) first second heads a b)

-- keys 9 and 10 with another request
request_fields : (row : ℕ → Key) (first second : Key) (call a0 a1 a2 a3 length : ℕ) → words_in first ≡ call ∷ a0 ∷ a1 ∷ [] → words_in second ≡ a2 ∷ a3 ∷ length ∷ []
    → (regs descriptors : ℕ → ℕ) → full_domain (with_at (with_at row 9 first) 10 second) regs descriptors
    ≡ record (full_domain row regs descriptors) { request = record { call = call; args = a0 ∷ a1 ∷ a2 ∷ a3 ∷ []; length = length } }
unfolding full_domain with_at
request_fields row first second call a0 a1 a2 a3 length a b regs descriptors =
    let f0 = first_word first call a0 a1 a in
    let f1 = second_word first call a0 a1 a in
    let f2 = third_word first call a0 a1 a in
    let s0 = first_word second a2 a3 length b in
    let s1 = second_word second a2 a3 length b in
    let s2 = third_word second a2 a3 length b in
    rw (f0, f1, f2, s0, s1, s2) refl

request_set : (rows : ℕ → ℕ → Key) (root : ℕ) (first second : Key) (call a0 a1 a2 a3 length : ℕ) → RowsGood rows → is_meter (rows root 2) ≡ true
    → words_in first ≡ call ∷ a0 ∷ a1 ∷ [] → words_in second ≡ a2 ∷ a3 ∷ length ∷ []
    → domain_at (written (written rows root 9 first) root 10 second)
    ≡ with_at (domain_at rows) root (record (at (domain_at rows) root) { request = record { call = call; args = a0 ∷ a1 ∷ a2 ∷ a3 ∷ []; length = length } })
request_set rows root first second call a0 a1 a2 a3 length good meter a b =
    ap domain_at (written_two rows root 9 10 first second)
    ∙ root_row_set rows root (with_at (with_at (rows root) 9 first) 10 second)
    (λ d. let e : Domain = record d { request = record { call = call; args = a0 ∷ a1 ∷ a2 ∷ a3 ∷ []; length = length } } in e) good meter
    (two_other (rows root) 9 10 2 first second (λ e. absurd (omega arith)) (λ e. absurd (omega arith)))
    (two_other (rows root) 9 10 3 first second (λ e. absurd (omega arith)) (λ e. absurd (omega arith)))
    (two_other (rows root) 9 10 4 first second (λ e. absurd (omega arith)) (λ e. absurd (omega arith)))
    (request_fields (rows root) first second call a0 a1 a2 a3 length a b)

-- lives, while two keys behind key 6 are written
pub lives_two : (rows now fixed fixed_now : ℕ → ℕ → Key) (root a b : ℕ) (first second : Key) → now ≡ written (written rows root a first) root b second → fixed_now ≡ fixed → 7 ≤ a → 7 ≤ b → lives_by now fixed_now ≡ lives_by rows fixed
lives_two rows now fixed fixed_now root a b first second is same low high =
    ap (lives_by now) same ∙ ap (λ r. lives_by r fixed) (is ∙ written_two rows root a b first second)
    ∙ lives_row_same rows fixed root (with_at (with_at (rows root) a first) b second)
    (ap is_meter (two_other (rows root) a b 2 first second (λ e. absurd (omega arith)) (λ e. absurd (omega arith))))
    (λ meter. two_other (rows root) a b 6 first second (λ e. absurd (omega arith)) (λ e. absurd (omega arith)))

-- key 0 with another space
space_fields : (row : ℕ → Key) (key : Key) (regs descriptors : ℕ → ℕ) → full_domain (with_at row 0 key) regs descriptors ≡ record (full_domain row regs descriptors) { space = segment_in key }
unfolding full_domain with_at
space_fields row key regs descriptors = refl

pub space_set : (rows : ℕ → ℕ → Key) (root : ℕ) (key : Key) (space : Option ℕ) → RowsGood rows → is_meter (rows root 2) ≡ true → segment_in key ≡ space
    → domain_at (written rows root 0 key) ≡ with_at (domain_at rows) root (record (at (domain_at rows) root) { space = space })
unfolding at
space_set rows root key space good meter is =
    root_row_set rows root (with_at (rows root) 0 key) (λ d. let e : Domain = record d { space = space } in e) good meter
    (other_at (rows root) 0 2 key (λ e. absurd (omega arith))) (other_at (rows root) 0 3 key (λ e. absurd (omega arith))) (other_at (rows root) 0 4 key (λ e. absurd (omega arith)))
    (λ regs descriptors. space_fields (rows root) key regs descriptors ∙ ap (λ s. let e : Domain = record (full_domain (rows root) regs descriptors) { space = s } in e) is)

-- key 5 with another buffer
buffer_fields : (row : ℕ → Key) (key : Key) (regs descriptors : ℕ → ℕ) → full_domain (with_at row 5 key) regs descriptors ≡ record (full_domain row regs descriptors) { buffer = page_in key }
unfolding full_domain with_at
buffer_fields row key regs descriptors = refl

pub buffer_set : (rows : ℕ → ℕ → Key) (root : ℕ) (key : Key) (buffer : Option ℕ) → RowsGood rows → is_meter (rows root 2) ≡ true → page_in key ≡ buffer
    → domain_at (written rows root 5 key) ≡ with_at (domain_at rows) root (record (at (domain_at rows) root) { buffer = buffer })
unfolding at
buffer_set rows root key buffer good meter is =
    root_row_set rows root (with_at (rows root) 5 key) (λ d. let e : Domain = record d { buffer = buffer } in e) good meter
    (other_at (rows root) 5 2 key (λ e. absurd (omega arith))) (other_at (rows root) 5 3 key (λ e. absurd (omega arith))) (other_at (rows root) 5 4 key (λ e. absurd (omega arith)))
    (λ regs descriptors. buffer_fields (rows root) key regs descriptors ∙ ap (λ p. let e : Domain = record (full_domain (rows root) regs descriptors) { buffer = p } in e) is)

-- lives, while key 0 or key 5 is written
pub lives_early : (rows fixed : ℕ → ℕ → Key) (root place : ℕ) (key : Key) → place ≢ 2 → place ≢ 6 → lives_by (written rows root place key) fixed ≡ lives_by rows fixed
unfolding at
lives_early rows fixed root place key second sixth =
    lives_row_same rows fixed root (with_at (rows root) place key)
    (ap is_meter (other_at (rows root) place 2 key (λ e. second (sym e)))) (λ meter. other_at (rows root) place 6 key (λ e. sixth (sym e)))

-- what stands in the keys of a root
pub root_heads : (rows : ℕ → ℕ → Key) (root : ℕ) → (at (domain_at rows) root).live ≡ true
    → heads_in (at (domain_at rows) root) ≡ record { pid = word_in (rows root 7) 0; parent = word_in (rows root 7) 1; break_start = word_in (rows root 8) 0; break_end = word_in (rows root 8) 1; word = word_in (rows root 8) 2 }
unfolding full_domain
root_heads rows root live = ap heads_in (root_domain rows root (live_meter rows root live))

pub root_request : (rows : ℕ → ℕ → Key) (root : ℕ) → (at (domain_at rows) root).live ≡ true
    → (at (domain_at rows) root).request
    ≡ record { call = word_in (rows root 9) 0; args = word_in (rows root 9) 1 ∷ word_in (rows root 9) 2 ∷ word_in (rows root 10) 0 ∷ word_in (rows root 10) 1 ∷ []; length = word_in (rows root 10) 2 }
unfolding full_domain
root_request rows root live = ap (λ (d : Domain). d.request) (root_domain rows root (live_meter rows root live))

pub root_answer : (rows : ℕ → ℕ → Key) (root : ℕ) → (at (domain_at rows) root).live ≡ true
    → (at (domain_at rows) root).answer ≡ record { value = word_in (rows root 11) 0; at = word_in (rows root 11) 1; length = word_in (rows root 11) 2 }
unfolding full_domain
root_answer rows root live = ap (λ (d : Domain). d.answer) (root_domain rows root (live_meter rows root live))

-- the words of a key that was read, ..
pub words_read : (words : List ℕ) (key there : Key) → words ≡ words_in key → key ≡ there → words ≡ words_in there
words_read words key there told read = told ∙ ap words_in read

pub first_read : (words : List ℕ) (key : Key) → words ≡ words_in key → get_or words 0 0 ≡ word_in key 0
first_read words key told = ap (λ (w : List ℕ). get_or w 0 0) told

pub third_read : (words : List ℕ) (key : Key) → words ≡ words_in key → get_or words 2 0 ≡ word_in key 2
third_read words key told = ap (λ (w : List ℕ). get_or w 2 0) told

-- .. and what the words of keys tell of a domain
module _ (rows : ℕ → ℕ → Key) (root : ℕ) (live : (at (domain_at rows) root).live ≡ true) where
  pub heads_told : (first second : List ℕ) → first ≡ words_in (rows root 7) → second ≡ words_in (rows root 8)
      → record { pid = get_or first 0 0; parent = get_or first 1 0; break_start = get_or second 0 0; break_end = get_or second 1 0; word = get_or second 2 0 } ≡ heads_in (at (domain_at rows) root)
  heads_told first second a b =
      ap (λ (w : List ℕ). let h : Heads = record { pid = get_or w 0 0; parent = get_or w 1 0; break_start = get_or second 0 0; break_end = get_or second 1 0; word = get_or second 2 0 } in h) a
      ∙ ap (λ (w : List ℕ). let h : Heads = record { pid = word_in (rows root 7) 0; parent = word_in (rows root 7) 1; break_start = get_or w 0 0; break_end = get_or w 1 0; word = get_or w 2 0 } in h) b
      ∙ sym (root_heads rows root live)

  pub request_told : (first second : List ℕ) → first ≡ words_in (rows root 9) → second ≡ words_in (rows root 10)
      → record { call = get_or first 0 0; args = get_or first 1 0 ∷ get_or first 2 0 ∷ get_or second 0 0 ∷ get_or second 1 0 ∷ []; length = get_or second 2 0 } ≡ (at (domain_at rows) root).request
  request_told first second a b =
      ap (λ (w : List ℕ). let r : Request = record { call = get_or w 0 0; args = get_or w 1 0 ∷ get_or w 2 0 ∷ get_or second 0 0 ∷ get_or second 1 0 ∷ []; length = get_or second 2 0 } in r) a
      ∙ ap (λ (w : List ℕ). let r : Request = record { call = word_in (rows root 9) 0; args = word_in (rows root 9) 1 ∷ word_in (rows root 9) 2 ∷ get_or w 0 0 ∷ get_or w 1 0 ∷ []; length = get_or w 2 0 } in r) b
      ∙ sym (root_request rows root live)

  pub answer_told : (words : List ℕ) → words ≡ words_in (rows root 11) → record { value = get_or words 0 0; at = get_or words 1 0; length = get_or words 2 0 } ≡ (at (domain_at rows) root).answer
  answer_told words a = ap (λ (w : List ℕ). let r : Answer = record { value = get_or w 0 0; at = get_or w 1 0; length = get_or w 2 0 } in r) a ∙ sym (root_answer rows root live)

pub root_space : (rows : ℕ → ℕ → Key) (root : ℕ) → (at (domain_at rows) root).live ≡ true → (at (domain_at rows) root).space ≡ segment_in (rows root 0)
unfolding full_domain
root_space rows root live = ap (λ (d : Domain). d.space) (root_domain rows root (live_meter rows root live))

pub root_buffer : (rows : ℕ → ℕ → Key) (root : ℕ) → (at (domain_at rows) root).live ≡ true → (at (domain_at rows) root).buffer ≡ page_in (rows root 5)
unfolding full_domain
root_buffer rows root live = ap (λ (d : Domain). d.buffer) (root_domain rows root (live_meter rows root live))

-- .. as its key tells that was read
pub buffer_read : (rows : ℕ → ℕ → Key) (root : ℕ) (key : Key) (page : Option ℕ) → (at (domain_at rows) root).live ≡ true → key ≡ rows root 5 → page_in key ≡ page → (at (domain_at rows) root).buffer ≡ page
buffer_read rows root key page live read is = root_buffer rows root live ∙ ap page_in (sym read) ∙ is

pub root_whole : (rows : ℕ → ℕ → Key) (root : ℕ) → (at (domain_at rows) root).live ≡ true
    → (at (domain_at rows) root).whole ≡ (is_some (node_in (rows root 3)) && is_some (node_in (rows root 4)))
unfolding full_domain
root_whole rows root live = ap (λ (d : Domain). d.whole) (root_domain rows root (live_meter rows root live))

-- the slot table at a slot
pub slot_root : (fixed : ℕ → ℕ → Key) (slot : ℕ) → slot < 64 → at (roots_by fixed) slot ≡ root_in (fixed (11 + slot / 16) (slot % 16))
unfolding at roots_by
slot_root fixed slot low = rw (lt-ltb slot 64 low) refl

-- a list of four is its four words
pub four_words : (xs : List ℕ) → length xs ≡ 4 → get_or xs 0 0 ∷ get_or xs 1 0 ∷ get_or xs 2 0 ∷ get_or xs 3 0 ∷ [] ≡ xs
four_words [] e = absurd (omega arith)
four_words (a ∷ []) e = absurd (omega arith)
four_words (a ∷ b ∷ []) e = absurd (omega arith)
four_words (a ∷ b ∷ c ∷ []) e = absurd (omega arith)
four_words (a ∷ b ∷ c ∷ d ∷ []) e = refl
four_words (a ∷ b ∷ c ∷ d ∷ f ∷ xs) e = absurd (omega arith)

-- a request that is told word by word
pub request_written : (rows now : ℕ → ℕ → Key) (root : ℕ) (first second : Key) (request : Request) (args : List ℕ) (n : ℕ) → now ≡ written (written rows root 9 first) root 10 second → RowsGood rows → is_meter (rows root 2) ≡ true
    → words_in first ≡ request.call ∷ get_or args 0 0 ∷ get_or args 1 0 ∷ [] → words_in second ≡ get_or args 2 0 ∷ get_or args 3 0 ∷ n ∷ [] → length args ≡ 4 → args ≡ request.args → n ≡ request.length
    → domain_at now ≡ with_at (domain_at rows) root (record (at (domain_at rows) root) { request = request })
request_written rows now root first second request args n is good meter a b four all long =
    ap domain_at is
    ∙ request_set rows root first second request.call (get_or args 0 0) (get_or args 1 0) (get_or args 2 0) (get_or args 3 0) n good meter a b
    ∙ ap (λ (r : Request). with_at (domain_at rows) root (let d : Domain = record (at (domain_at rows) root) { request = r } in d))
    (ap (λ (m : ℕ). let r : Request = record { call = request.call; args = get_or args 0 0 ∷ get_or args 1 0 ∷ get_or args 2 0 ∷ get_or args 3 0 ∷ []; length = m } in r) long
    ∙ ap (λ (l : List ℕ). let r : Request = record { call = request.call; args = l; length = request.length } in r) (four_words args four ∙ all))
