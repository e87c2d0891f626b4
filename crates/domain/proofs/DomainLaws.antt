-- Domains and their lives, while a number is written in a root.
use Rattle.std.proofs.Common.{◌≡◌, ◌≢◌, ◌≤◌, ℕ, Bool, Option, Some, None, true, false, List, [], ◌∷◌, refl, ap, sym, ◌∙◌, arith, ⊎_elim, if◌then◌else◌}
use Rattle.std.proofs.Math.Path.{fun_ext}
use Rattle.std.proofs.lemmas.Bool.{cases_Bool}
use Rattle.kn_base.specs.declared.key.Key.{Key}
use Rattle.unix_model.specs.Tables.{at, with_at}
use Rattle.unix_model.proofs.TableLaws.{at-with_at}
use Rattle.domain.specs.declared.types.State.{State}
use Rattle.domain.specs.declared.types.Phase.{Phase}
use Rattle.domain.specs.declared.types.Phase.TheVariants.{Run, Asked, Sent, Done, Exiting, Zombie}
use Rattle.domain.specs.declared.types.Answer.{Answer}
use Rattle.domain.specs.Keys.{is_meter, node_in, word_in, count_in, words_in}
use Rattle.domain.specs.Domains.{Domain, full_domain, domain_by, domain_at, words_of, node_words, Life, life_in, lives_by, state_by, phase_by, phase_number}
use Rattle.domain.specs.Rules.{RowsGood, NobodyIn, written}
use Rattle.domain.proofs.RowLaws.{here_at, other_at, changed_at, row_case, written_other, root_unnamed}

-- the words that a Node key leads to, while another node changes
pub words_other : (rows : ℕ → ℕ → Key) (n : ℕ) (row : ℕ → Key) (node : Option ℕ) → ((m : ℕ) → node ≡ Some m → m ≢ n) → words_of (with_at rows n row) node ≡ words_of rows node
words_other rows n row None apart = refl
words_other rows n row (Some m) apart = ap node_words (other_at rows n m row (apart m refl))

pub same_domain : (f g : ℕ → Key) (a b x y : ℕ → ℕ) → f ≡ g → a ≡ b → x ≡ y → domain_by f a x ≡ domain_by g b y
same_domain f g a b x y p q r = rw (p, q, r) refl

pub a_root : (f : ℕ → Key) (a x : ℕ → ℕ) → is_meter (f 2) ≡ true → domain_by f a x ≡ full_domain f a x
a_root f a x e = rw e refl

-- a row of a node that nobody names changes: its own domain changes, if it has one
pub domains_at : (rows : ℕ → ℕ → Key) (n : ℕ) (row : ℕ → Key) → NobodyIn rows n → (node_in (row 3) ≡ Some n → ⊥) → (node_in (row 4) ≡ Some n → ⊥)
    → domain_at (with_at rows n row) ≡ with_at (domain_at rows) n (domain_by row (words_of rows (node_in (row 3))) (words_of rows (node_in (row 4))))
unfolding domain_at
domains_at rows n row nobody third fourth =
    changed_at (domain_at rows) (domain_at (with_at rows n row)) n (domain_by row (words_of rows (node_in (row 3))) (words_of rows (node_in (row 4))))
    (let is : with_at rows n row n ≡ row = here_at rows n row in
    same_domain (with_at rows n row n) row (words_of (with_at rows n row) (node_in (with_at rows n row n 3))) (words_of rows (node_in (row 3)))
    (words_of (with_at rows n row) (node_in (with_at rows n row n 4))) (words_of rows (node_in (row 4))) is
    (ap (λ (f : ℕ → Key). words_of (with_at rows n row) (node_in (f 3))) is ∙ words_other rows n row (node_in (row 3)) (λ m e same. third (e ∙ ap Some same)))
    (ap (λ (f : ℕ → Key). words_of (with_at rows n row) (node_in (f 4))) is ∙ words_other rows n row (node_in (row 4)) (λ m e same. fourth (e ∙ ap Some same))))
    (λ q apart.
    let is : with_at rows n row q ≡ rows q = other_at rows n q row apart in
    same_domain (with_at rows n row q) (rows q) (words_of (with_at rows n row) (node_in (with_at rows n row q 3))) (words_of rows (node_in (rows q 3)))
    (words_of (with_at rows n row) (node_in (with_at rows n row q 4))) (words_of rows (node_in (rows q 4))) is
    (ap (λ (f : ℕ → Key). words_of (with_at rows n row) (node_in (f 3))) is ∙ words_other rows n row (node_in (rows q 3)) (λ m e same. nobody q 3 (e ∙ ap Some same)))
    (ap (λ (f : ℕ → Key). words_of (with_at rows n row) (node_in (f 4))) is ∙ words_other rows n row (node_in (rows q 4)) (λ m e same. nobody q 4 (e ∙ ap Some same))))

-- a root has a Meter key, and its domain is that of its keys
pub live_meter : (rows : ℕ → ℕ → Key) (root : ℕ) → (at (domain_at rows) root).live ≡ true → is_meter (rows root 2) ≡ true
unfolding at domain_at full_domain
live_meter rows root live = ⊎_elim
    (λ (t : is_meter (rows root 2) ≡ true). t)
    (λ (t : is_meter (rows root 2) ≡ false). let no : false ≡ true = rw t at live in cc)
    (cases_Bool (is_meter (rows root 2)))

-- the domain of a root, with another row in place of its own
abbrev pub with_row : (ℕ → ℕ → Key) → ℕ → (ℕ → Key) → Domain
with_row rows root row = full_domain row (words_of rows (node_in (rows root 3))) (words_of rows (node_in (rows root 4)))

pub root_domain : (rows : ℕ → ℕ → Key) (root : ℕ) → is_meter (rows root 2) ≡ true → at (domain_at rows) root ≡ with_row rows root (rows root)
unfolding at domain_at
root_domain rows root meter = a_root (rows root) (words_of rows (node_in (rows root 3))) (words_of rows (node_in (rows root 4))) meter

-- a key behind the first six is written in a root
pub root_written : (rows : ℕ → ℕ → Key) (root place : ℕ) (key : Key) → RowsGood rows → is_meter (rows root 2) ≡ true → 6 ≤ place
    → domain_at (written rows root place key) ≡ with_at (domain_at rows) root (with_row rows root (with_at (rows root) place key))
unfolding at
root_written rows root place key good meter low =
    let nobody = root_unnamed rows root good meter in
    let row = with_at (rows root) place key in
    let second : with_at (rows root) place key 2 ≡ rows root 2 = other_at (rows root) place 2 key (λ e. absurd (omega arith)) in
    let third : with_at (rows root) place key 3 ≡ rows root 3 = other_at (rows root) place 3 key (λ e. absurd (omega arith)) in
    let fourth : with_at (rows root) place key 4 ≡ rows root 4 = other_at (rows root) place 4 key (λ e. absurd (omega arith)) in
    domains_at rows root (with_at (rows root) place key) nobody
    (λ h. nobody root 3 (sym (ap node_in third) ∙ h))
    (λ h. nobody root 4 (sym (ap node_in fourth) ∙ h))
    ∙ ap (with_at (domain_at rows) root)
    (a_root (with_at (rows root) place key) (words_of rows (node_in (with_at (rows root) place key 3))) (words_of rows (node_in (with_at (rows root) place key 4))) (ap is_meter second ∙ meter)
    ∙ ap (λ k. full_domain (with_at (rows root) place key) (words_of rows (node_in k)) (words_of rows (node_in (with_at (rows root) place key 4)))) third
    ∙ ap (λ k. full_domain (with_at (rows root) place key) (words_of rows (node_in (rows root 3))) (words_of rows (node_in k))) fourth)

-- the words of a number that was spelled
pub first_word : (key : Key) (x y z : ℕ) → words_in key ≡ x ∷ y ∷ z ∷ [] → word_in key 0 ≡ x
first_word key x y z e = cc

pub second_word : (key : Key) (x y z : ℕ) → words_in key ≡ x ∷ y ∷ z ∷ [] → word_in key 1 ≡ y
second_word key x y z e = cc

pub third_word : (key : Key) (x y z : ℕ) → words_in key ≡ x ∷ y ∷ z ∷ [] → word_in key 2 ≡ z
third_word key x y z e = cc

-- key 7 with another phase
phase_fields : (row : ℕ → Key) (regs descriptors : ℕ → ℕ) (key : Key) (phase : Phase) → word_in key 0 ≡ word_in (row 7) 0 → word_in key 1 ≡ word_in (row 7) 1 → phase_by (word_in key 2) ≡ phase
    → full_domain (with_at row 7 key) regs descriptors ≡ record (full_domain row regs descriptors) { phase = phase }
unfolding full_domain with_at
phase_fields row regs descriptors key phase first second third =
    ap (λ n. let d : Domain = record (full_domain row regs descriptors) { pid = n; parent = word_in key 1; phase = phase_by (word_in key 2) } in d) first
    ∙ ap (λ n. let d : Domain = record (full_domain row regs descriptors) { parent = n; phase = phase_by (word_in key 2) } in d) second
    ∙ ap (λ p. let d : Domain = record (full_domain row regs descriptors) { phase = p } in d) third

pub phase_set : (rows : ℕ → ℕ → Key) (root : ℕ) (key : Key) (phase : Phase) → RowsGood rows → is_meter (rows root 2) ≡ true
    → word_in key 0 ≡ word_in (rows root 7) 0 → word_in key 1 ≡ word_in (rows root 7) 1 → phase_by (word_in key 2) ≡ phase
    → domain_at (written rows root 7 key) ≡ with_at (domain_at rows) root (record (at (domain_at rows) root) { phase = phase })
phase_set rows root key phase good meter first second third =
    root_written rows root 7 key good meter (omega arith)
    ∙ ap (with_at (domain_at rows) root)
    (phase_fields (rows root) (words_of rows (node_in (rows root 3))) (words_of rows (node_in (rows root 4))) key phase first second third
    ∙ ap (λ (d : Domain). let e : Domain = record d { phase = phase } in e) (sym (root_domain rows root meter)))

-- key 11 with another answer
answer_fields : (row : ℕ → Key) (regs descriptors : ℕ → ℕ) (key : Key) (answer : Answer) → words_in key ≡ answer.value ∷ answer.at ∷ answer.length ∷ []
    → full_domain (with_at row 11 key) regs descriptors ≡ record (full_domain row regs descriptors) { answer = answer }
unfolding full_domain with_at
answer_fields row regs descriptors key answer words =
    ap (λ n. let d : Domain = record (full_domain row regs descriptors) { answer = record { value = n; at = word_in key 1; length = word_in key 2 } } in d) (first_word key answer.value answer.at answer.length words)
    ∙ ap (λ n. let d : Domain = record (full_domain row regs descriptors) { answer = record { value = answer.value; at = n; length = word_in key 2 } } in d) (second_word key answer.value answer.at answer.length words)
    ∙ ap (λ n. let d : Domain = record (full_domain row regs descriptors) { answer = record { value = answer.value; at = answer.at; length = n } } in d) (third_word key answer.value answer.at answer.length words)

pub answer_set : (rows : ℕ → ℕ → Key) (root : ℕ) (key : Key) (answer : Answer) → RowsGood rows → is_meter (rows root 2) ≡ true → words_in key ≡ answer.value ∷ answer.at ∷ answer.length ∷ []
    → domain_at (written rows root 11 key) ≡ with_at (domain_at rows) root (record (at (domain_at rows) root) { answer = answer })
answer_set rows root key answer good meter words =
    root_written rows root 11 key good meter (omega arith)
    ∙ ap (with_at (domain_at rows) root)
    (answer_fields (rows root) (words_of rows (node_in (rows root 3))) (words_of rows (node_in (rows root 4))) key answer words
    ∙ ap (λ (d : Domain). let e : Domain = record d { answer = answer } in e) (sym (root_domain rows root meter)))

-- key 12 with other marks
marks_fields : (row : ℕ → Key) (regs descriptors : ℕ → ℕ) (key : Key) (words : List ℕ) → words_in key ≡ words
    → full_domain (with_at row 12 key) regs descriptors ≡ record (full_domain row regs descriptors) { marks = words }
unfolding full_domain with_at
marks_fields row regs descriptors key words e = ap (λ w. let d : Domain = record (full_domain row regs descriptors) { marks = w } in d) e

pub marks_set : (rows : ℕ → ℕ → Key) (root : ℕ) (key : Key) (words : List ℕ) → RowsGood rows → is_meter (rows root 2) ≡ true → words_in key ≡ words
    → domain_at (written rows root 12 key) ≡ with_at (domain_at rows) root (record (at (domain_at rows) root) { marks = words })
marks_set rows root key words good meter e =
    root_written rows root 12 key good meter (omega arith)
    ∙ ap (with_at (domain_at rows) root)
    (marks_fields (rows root) (words_of rows (node_in (rows root 3))) (words_of rows (node_in (rows root 4))) key words e
    ∙ ap (λ (d : Domain). let r : Domain = record d { marks = words } in r) (sym (root_domain rows root meter)))

-- key 6 is no part of the domain
life_fields : (row : ℕ → Key) (regs descriptors : ℕ → ℕ) (key : Key) → full_domain (with_at row 6 key) regs descriptors ≡ full_domain row regs descriptors
unfolding full_domain with_at
life_fields row regs descriptors key = refl

with_at-same : {X : Type 0} (f : ℕ → X) (n : ℕ) (x : X) → f n ≡ x → with_at f n x ≡ f
with_at-same f n x e = sym (changed_at f f n x e (λ q apart. refl))

pub life_is_apart : (rows : ℕ → ℕ → Key) (root : ℕ) (key : Key) → RowsGood rows → is_meter (rows root 2) ≡ true → domain_at (written rows root 6 key) ≡ domain_at rows
unfolding at
life_is_apart rows root key good meter =
    root_written rows root 6 key good meter (omega arith)
    ∙ ap (with_at (domain_at rows) root) (life_fields (rows root) (words_of rows (node_in (rows root 3))) (words_of rows (node_in (rows root 4))) key)
    ∙ with_at-same (domain_at rows) root (with_row rows root (rows root)) (root_domain rows root meter)

-- and it is the life, which no other key is
pub lives_same : (rows fixed : ℕ → ℕ → Key) (root place : ℕ) (key : Key) → 7 ≤ place → lives_by (written rows root place key) fixed ≡ lives_by rows fixed
unfolding lives_by
lives_same rows fixed root place key low = fun_ext (λ m.
    ap (λ k. life_in (if is_meter k then written rows root place key m 6 else fixed m 6)) (written_other rows root place key m 2 (λ e. absurd (omega arith)))
    ∙ ap (λ k. life_in (if is_meter (rows m 2) then k else fixed m 6)) (written_other rows root place key m 6 (λ e. absurd (omega arith))))

pub life_is : (key : Key) (state : State) (count : ℕ) → state_by (word_in key 0) ≡ state → count_in key ≡ count → life_in key ≡ record { state = state; count = count }
life_is key state count one two =
    ap (λ s. let l : Life = record { state = s; count = count_in key } in l) one
    ∙ ap (λ n. let l : Life = record { state = state; count = n } in l) two

pub life_set : (rows fixed : ℕ → ℕ → Key) (root : ℕ) (key : Key) (state : State) (count : ℕ) → is_meter (rows root 2) ≡ true → state_by (word_in key 0) ≡ state → count_in key ≡ count
    → lives_by (written rows root 6 key) fixed ≡ with_at (lives_by rows fixed) root (record { state = state; count = count })
unfolding lives_by at
life_set rows fixed root key state count meter one two =
    changed_at (lives_by rows fixed) (lives_by (written rows root 6 key) fixed) root (record { state = state; count = count })
    (ap (λ k. life_in (if is_meter k then written rows root 6 key root 6 else fixed root 6)) (written_other rows root 6 key root 2 (λ e. absurd (omega arith)))
    ∙ ap (λ b. life_in (if b then written rows root 6 key root 6 else fixed root 6)) meter
    ∙ ap life_in (ap (λ (r : ℕ → Key). r 6) (here_at rows root (with_at (rows root) 6 key)) ∙ here_at (rows root) 6 key)
    ∙ life_is key state count one two)
    (λ m apart. ap (λ (r : ℕ → Key). life_in (if is_meter (r 2) then r 6 else fixed m 6)) (other_at rows root m (with_at (rows root) 6 key) apart))

-- the life of a root
pub root_life : (rows fixed : ℕ → ℕ → Key) (root : ℕ) → is_meter (rows root 2) ≡ true → at (lives_by rows fixed) root ≡ life_in (rows root 6)
unfolding at lives_by
root_life rows fixed root meter = ap (λ b. life_in (if b then rows root 6 else fixed root 6)) meter

-- a phase is read back from its number
pub phase_again : (phase : Phase) → phase_by (phase_number phase) ≡ phase
phase_again Run = refl
phase_again Asked = refl
phase_again Sent = refl
phase_again Done = refl
phase_again Exiting = refl
phase_again Zombie = refl

-- what stands in the keys of a root
pub root_phase : (rows : ℕ → ℕ → Key) (root : ℕ) → (at (domain_at rows) root).live ≡ true → (at (domain_at rows) root).phase ≡ phase_by (word_in (rows root 7) 2)
unfolding full_domain
root_phase rows root live = ap (λ (d : Domain). d.phase) (root_domain rows root (live_meter rows root live))

pub root_pid : (rows : ℕ → ℕ → Key) (root : ℕ) → (at (domain_at rows) root).live ≡ true → (at (domain_at rows) root).pid ≡ word_in (rows root 7) 0
unfolding full_domain
root_pid rows root live = ap (λ (d : Domain). d.pid) (root_domain rows root (live_meter rows root live))

pub root_parent : (rows : ℕ → ℕ → Key) (root : ℕ) → (at (domain_at rows) root).live ≡ true → (at (domain_at rows) root).parent ≡ word_in (rows root 7) 1
unfolding full_domain
root_parent rows root live = ap (λ (d : Domain). d.parent) (root_domain rows root (live_meter rows root live))

pub root_break_start : (rows : ℕ → ℕ → Key) (root : ℕ) → (at (domain_at rows) root).live ≡ true → (at (domain_at rows) root).break_start ≡ word_in (rows root 8) 0
unfolding full_domain
root_break_start rows root live = ap (λ (d : Domain). d.break_start) (root_domain rows root (live_meter rows root live))

pub root_break_end : (rows : ℕ → ℕ → Key) (root : ℕ) → (at (domain_at rows) root).live ≡ true → (at (domain_at rows) root).break_end ≡ word_in (rows root 8) 1
unfolding full_domain
root_break_end rows root live = ap (λ (d : Domain). d.break_end) (root_domain rows root (live_meter rows root live))

pub root_word : (rows : ℕ → ℕ → Key) (root : ℕ) → (at (domain_at rows) root).live ≡ true → (at (domain_at rows) root).word ≡ word_in (rows root 8) 2
unfolding full_domain
root_word rows root live = ap (λ (d : Domain). d.word) (root_domain rows root (live_meter rows root live))

pub root_marks : (rows : ℕ → ℕ → Key) (root : ℕ) → (at (domain_at rows) root).live ≡ true → (at (domain_at rows) root).marks ≡ words_in (rows root 12)
unfolding full_domain
root_marks rows root live = ap (λ (d : Domain). d.marks) (root_domain rows root (live_meter rows root live))

-- another row in place of a root's own, with the same keys at 2, 3 and 4
pub root_row_set : (rows : ℕ → ℕ → Key) (root : ℕ) (row : ℕ → Key) (change : Domain → Domain) → RowsGood rows → is_meter (rows root 2) ≡ true
    → row 2 ≡ rows root 2 → row 3 ≡ rows root 3 → row 4 ≡ rows root 4
    → ((regs descriptors : ℕ → ℕ) → full_domain row regs descriptors ≡ change (full_domain (rows root) regs descriptors))
    → domain_at (with_at rows root row) ≡ with_at (domain_at rows) root (change (at (domain_at rows) root))
root_row_set rows root row change good meter second third fourth fields =
    let nobody = root_unnamed rows root good meter in
    domains_at rows root row nobody (λ h. nobody root 3 (sym (ap node_in third) ∙ h)) (λ h. nobody root 4 (sym (ap node_in fourth) ∙ h))
    ∙ ap (with_at (domain_at rows) root)
    (a_root row (words_of rows (node_in (row 3))) (words_of rows (node_in (row 4))) (ap is_meter second ∙ meter)
    ∙ ap (λ k. full_domain row (words_of rows (node_in k)) (words_of rows (node_in (row 4)))) third
    ∙ ap (λ k. full_domain row (words_of rows (node_in (rows root 3))) (words_of rows (node_in k))) fourth
    ∙ fields (words_of rows (node_in (rows root 3))) (words_of rows (node_in (rows root 4)))
    ∙ ap change (sym (root_domain rows root meter)))

-- which of two values a test chooses, where they are equal if it holds
chosen : (b : Bool) (x y z : Key) → (b ≡ true → x ≡ y) → (if b then x else z) ≡ (if b then y else z)
chosen true x y z h = h refl
chosen false x y z h = refl

-- a row that is as much a root's, with the same key 6 if it is one
pub lives_row_same : (rows fixed : ℕ → ℕ → Key) (n : ℕ) (row : ℕ → Key) → is_meter (row 2) ≡ is_meter (rows n 2) → (is_meter (rows n 2) ≡ true → row 6 ≡ rows n 6)
    → lives_by (with_at rows n row) fixed ≡ lives_by rows fixed
unfolding lives_by
lives_row_same rows fixed n row second sixth = fun_ext (λ m.
    row_case rows n row (λ (r : ℕ → Key). life_in (if is_meter (r 2) then r 6 else fixed m 6) ≡ life_in (if is_meter (rows m 2) then rows m 6 else fixed m 6)) m
    (λ e.
    ap (λ b. life_in (if b then row 6 else fixed m 6)) second
    ∙ ap life_in (chosen (is_meter (rows n 2)) (row 6) (rows n 6) (fixed m 6) sixth)
    ∙ ap (λ k. life_in (if is_meter (rows k 2) then rows k 6 else fixed m 6)) (sym e))
    (λ d. refl))

-- a root whose key behind the first six was written is one still
pub still_live : (rows : ℕ → ℕ → Key) (root place : ℕ) (key : Key) → RowsGood rows → is_meter (rows root 2) ≡ true → 6 ≤ place → (at (domain_at (written rows root place key)) root).live ≡ true
unfolding full_domain
still_live rows root place key good meter low =
    ap (λ (f : ℕ → Domain). (at f root).live) (root_written rows root place key good meter low)
    ∙ ap (λ (d : Domain). d.live) (at-with_at (domain_at rows) root (with_row rows root (with_at (rows root) place key)))
