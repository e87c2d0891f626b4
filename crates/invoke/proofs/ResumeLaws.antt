-- A resume key works once: the count of answered calls of a root only goes up, and by one at most in each invocation.
use Rattle.std.proofs.Common.{◌≡◌, ◌≢◌, ◌⊎◌, ◌<◌, ℕ, ◌+◌, ◌^◌, ◌%◌, ◌==◌, if◌then◌else◌, Bool, true, false, List, [], ◌∷◌, ◌++◌, length, Result, Ok, Err, refl, sym, ap, subst, ◌∙◌, arith, inl, inr, ⊎_elim, add-zero}
use Rattle.std.proofs.lemmas.Bool.{cases_eq, eqb-true, ne_eqb}
use Rattle.std.proofs.lemmas.List.{length-append}
use Rattle.kn_base.specs.declared.key.Key.{Key}
use Rattle.kn_base.specs.declared.key.Key.TheVariants.{Null, Number, Page, Node, Segment, Start, Resume, Domain, Meter, Service}
use Rattle.unix_model.specs.Tables.{at}
use Rattle.unix_model.proofs.TableLaws.{at-with_at, at-with_at-other}
use Rattle.domain.specs.declared.types.State.{State}
use Rattle.domain.specs.declared.types.State.TheVariants.{Available, Running, Waiting}
use Rattle.domain.specs.Domains.{Life}
use Rattle.invoke.specs.declared.types.InvokeFault.{InvokeFault}
use Rattle.invoke.specs.declared.types.InvokeFault.TheVariants.{VoidKey}
use Rattle.invoke.specs.Steps.{Step, Calls, Forks, Returns, Stepped, with_state, answered, calls_in, calls, starts_in, resumes_in, forks, then_available, returns, step, lives_or, after, after_all}
use Rattle.invoke.specs.Laws.{Uses, ResumeLaw}

-- the count of a root is as it was, or one more
abbrev Moves : (ℕ → Life) → (ℕ → Life) → ℕ → Type 0
Moves lives new root = ((at new root).count ≡ (at lives root).count) ⊎ ((at new root).count ≡ ((at lives root).count + 1) % 2 ^ 64)

state_count : (lives : ℕ → Life) (other : ℕ) (state : State) (root : ℕ) → (at (with_state lives other state) root).count ≡ (at lives root).count
state_count lives other state root = ⊎_elim
    (λ (e : root ≡ other). subst (λ r. (at (with_state lives other state) r).count ≡ (at lives r).count) (sym e) (ap (λ (l : Life). l.count) (at-with_at lives other (record { state = state; count = (at lives other).count }))))
    (λ (d : root ≢ other). ap (λ (l : Life). l.count) (at-with_at-other lives other root (record { state = state; count = (at lives other).count }) d))
    (cases_eq root other)

answered_count : (lives : ℕ → Life) (other root : ℕ) → Moves lives (answered lives other) root
answered_count lives other root = ⊎_elim
    (λ (e : root ≡ other). inr (subst (λ r. (at (answered lives other) r).count ≡ ((at lives r).count + 1) % 2 ^ 64) (sym e) (ap (λ (l : Life). l.count) (at-with_at lives other (record { state = Running; count = ((at lives other).count + 1) % 2 ^ 64 })))))
    (λ (d : root ≢ other). inl (ap (λ (l : Life). l.count) (at-with_at-other lives other root (record { state = Running; count = ((at lives other).count + 1) % 2 ^ 64 }) d)))
    (cases_eq root other)

abbrev MovesBy : (ℕ → Life) → Result Stepped InvokeFault → ℕ → Type 0
MovesBy lives result root = Moves lives (lives_or lives result) root

calls_move : (state : State) (lives : ℕ → Life) (other root : ℕ) → MovesBy lives (calls_in state lives other) root
calls_move Available lives other root = inl refl
calls_move Running lives other root = inl (state_count lives other Waiting root)
calls_move Waiting lives other root = inl refl

starts_move : (state : State) (lives : ℕ → Life) (other byte root : ℕ) → MovesBy lives (starts_in state lives other byte) root
starts_move Available lives other byte root = inl (state_count lives other Running root)
starts_move Running lives other byte root = inl refl
starts_move Waiting lives other byte root = inl refl

tested_moves : (test : Bool) (lives : ℕ → Life) (other root : ℕ) (stepped : Stepped) → Moves lives stepped.lives root
    → MovesBy lives (if test then Ok stepped else Err VoidKey) root
tested_moves true lives other root stepped moves = moves
tested_moves false lives other root stepped moves = inl refl

resumes_move : (state : State) (lives : ℕ → Life) (other count root : ℕ) → MovesBy lives (resumes_in state lives other count) root
resumes_move Available lives other count root = inl refl
resumes_move Running lives other count root = inl refl
resumes_move Waiting lives other count root = tested_moves ((at lives other).count == count) lives other root _ (answered_count lives other root)

forks_move : (lives : ℕ → Life) (key : Key) (root : ℕ) → MovesBy lives (forks lives key) root
forks_move lives Null root = inl refl
forks_move lives (Number body) root = inl refl
forks_move lives (Page page writable) root = inl refl
forks_move lives (Node node) root = inl refl
forks_move lives (Segment node height) root = inl refl
forks_move lives (Start other byte) root = starts_move (at lives other.0).state lives other.0 byte root
forks_move lives (Resume other count) root = resumes_move (at lives other.0).state lives other.0 count root
forks_move lives (Domain other) root = inl refl
forks_move lives (Meter slot) root = inl refl
forks_move lives (Service code) root = inl refl

then_moves : (lives : ℕ → Life) (from : ℕ) (result : Result Stepped InvokeFault) (root : ℕ) → MovesBy lives result root → MovesBy lives (then_available from result) root
then_moves lives from (Ok stepped) root moves =
    subst (λ n. (n ≡ (at lives root).count) ⊎ (n ≡ ((at lives root).count + 1) % 2 ^ 64)) (sym (state_count stepped.lives from Available root)) moves
then_moves lives from (Err fault) root moves = moves

calls_key_move : (lives : ℕ → Life) (other : ℕ) (key : Key) (root : ℕ) → MovesBy lives (calls lives other key) root
calls_key_move lives other Null root = inl refl
calls_key_move lives other (Number body) root = inl refl
calls_key_move lives other (Page page writable) root = inl refl
calls_key_move lives other (Node node) root = inl refl
calls_key_move lives other (Segment node height) root = inl refl
calls_key_move lives other (Start service byte) root = calls_move (at lives other).state lives other root
calls_key_move lives other (Resume service count) root = inl refl
calls_key_move lives other (Domain service) root = inl refl
calls_key_move lives other (Meter slot) root = inl refl
calls_key_move lives other (Service code) root = inl refl

returns_move : (lives : ℕ → Life) (from : ℕ) (key : Key) (root : ℕ) → MovesBy lives (returns lives from key) root
returns_move lives from Null root = inl (state_count lives from Available root)
returns_move lives from (Number body) root = inl refl
returns_move lives from (Page page writable) root = inl refl
returns_move lives from (Node node) root = inl refl
returns_move lives from (Segment node height) root = inl refl
returns_move lives from (Start other byte) root = then_moves lives from (forks lives (Start other byte)) root (forks_move lives (Start other byte) root)
returns_move lives from (Resume other count) root = then_moves lives from (forks lives (Resume other count)) root (forks_move lives (Resume other count) root)
returns_move lives from (Domain other) root = inl refl
returns_move lives from (Meter slot) root = inl refl
returns_move lives from (Service code) root = inl refl

step_moves : (lives : ℕ → Life) (one : Step) (root : ℕ) → Moves lives (after lives one) root
unfolding step
step_moves lives (Calls other key) root = calls_key_move lives other key root
step_moves lives (Forks key) root = forks_move lives key root
step_moves lives (Returns from key) root = returns_move lives from key root

-- ---- how far the count is from the one that was answered

record Behind (count n now : ℕ) : Type 0 where
  steps : ℕ
  few : steps < n
  is : now ≡ (count + 1 + steps) % 2 ^ 64

behind_one : (count n now new : ℕ) → Behind count n now → (new ≡ now) ⊎ (new ≡ (now + 1) % 2 ^ 64) → Behind count (n + 1) new
behind_one count n now new behind (inl e) = record { steps = behind.steps; few = let f = behind.few in omega arith; is = e ∙ behind.is }
behind_one count n now new behind (inr e) = record {
  steps = behind.steps + 1;
  few = let f = behind.few in omega arith;
  is = let i = behind.is in omega arith;
}

behind_all : (steps : List Step) (lives : ℕ → Life) (root count n : ℕ) → Behind count n (at lives root).count → Behind count (n + length steps) (at (after_all lives steps) root).count
unfolding after_all
behind_all [] lives root count n behind = subst (λ m. Behind count m (at lives root).count) (omega arith) behind
behind_all (one ∷ steps) lives root count n behind =
    subst (λ m. Behind count m (at (after_all (after lives one) steps) root).count) (omega arith)
    (behind_all steps (after lives one) root count (n + 1) (behind_one count n (at lives root).count (at (after lives one) root).count behind (step_moves lives one root)))

differs : (count n now : ℕ) → n < 2 ^ 64 → Behind count n now → now ≢ count
differs count n now few behind e = let a = behind.few in let b = behind.is in absurd (omega arith)

-- ---- the first use, and a later one

abbrev Counts : Result Stepped InvokeFault → ℕ → ℕ → Type 0
Counts (Ok stepped) root count = (at stepped.lives root).count ≡ (count + 1) % 2 ^ 64
Counts (Err fault) root count = Unit {0}

tested_counts : (test : Bool) (root count : ℕ) (stepped : Stepped) → (test ≡ true → (at stepped.lives root).count ≡ (count + 1) % 2 ^ 64)
    → Counts (if test then Ok stepped else Err VoidKey) root count
tested_counts true root count stepped h = h refl
tested_counts false root count stepped h = tt

resumes_count : (state : State) (lives : ℕ → Life) (root count : ℕ) → Counts (resumes_in state lives root count) root count
resumes_count Available lives root count = tt
resumes_count Running lives root count = tt
resumes_count Waiting lives root count = tested_counts ((at lives root).count == count) root count _
    (λ e. ap (λ (l : Life). l.count) (at-with_at lives root (record { state = Running; count = ((at lives root).count + 1) % 2 ^ 64 })) ∙ ap (λ n. (n + 1) % 2 ^ 64) (eqb-true (at lives root).count count e))

then_counts : (from : ℕ) (result : Result Stepped InvokeFault) (root count : ℕ) → Counts result root count → Counts (then_available from result) root count
then_counts from (Ok stepped) root count counts = state_count stepped.lives from Available root ∙ counts
then_counts from (Err fault) root count counts = tt

first_counts : (lives : ℕ → Life) (first : Step) (root count : ℕ) → Uses (Resume (record { 0 = root }) count) first → Counts (step lives first) root count
unfolding step
first_counts lives (Calls other key) root count uses = absurd uses
first_counts lives (Forks key) root count uses =
    subst (λ k. Counts (forks lives k) root count) (sym uses) (resumes_count (at lives root).state lives root count)
first_counts lives (Returns from key) root count uses =
    subst (λ k. Counts (returns lives from k) root count) (sym uses)
    (then_counts from (forks lives (Resume (record { 0 = root }) count)) root count (resumes_count (at lives root).state lives root count))

resumes_void : (state : State) (lives : ℕ → Life) (root count : ℕ) → (at lives root).count ≢ count → resumes_in state lives root count ≡ Err VoidKey
resumes_void Available lives root count apart = refl
resumes_void Running lives root count apart = refl
resumes_void Waiting lives root count apart = rw (ne_eqb (at lives root).count count apart) refl

later_void : (lives : ℕ → Life) (later : Step) (root count : ℕ) → (at lives root).count ≢ count → Uses (Resume (record { 0 = root }) count) later → step lives later ≡ Err VoidKey
unfolding step
later_void lives (Calls other key) root count apart uses = absurd uses
later_void lives (Forks key) root count apart uses =
    subst (λ k. forks lives k ≡ Err VoidKey) (sym uses) (resumes_void (at lives root).state lives root count apart)
later_void lives (Returns from key) root count apart uses =
    subst (λ k. returns lives from k ≡ Err VoidKey) (sym uses)
    (ap (then_available from) (resumes_void (at lives root).state lives root count apart))

after_append : (before : List Step) (lives : ℕ → Life) (steps : List Step) → after_all lives (before ++ steps) ≡ after_all (after_all lives before) steps
unfolding after_all
after_append [] lives steps = refl
after_append (one ∷ before) lives steps = after_append before (after lives one) steps

after_cons : (lives : ℕ → Life) (one : Step) (steps : List Step) → after_all lives (one ∷ steps) ≡ after_all (after lives one) steps
unfolding after_all
after_cons lives one steps = refl

length_apart : (before between : List Step) (first later : Step) → 1 + length between < length (before ++ first ∷ between ++ later ∷ [])
length_apart [] between first later = let h = length-append between (later ∷ []) in omega arith
length_apart (one ∷ before) between first later = let h = length_apart before between first later in omega arith

pub void_later : ResumeLaw
void_later lives before between first later root count stepped short uses_first uses_later ran =
    let middle = after_all lives before in
    let counted : (at (after middle first) root).count ≡ (count + 1) % 2 ^ 64 =
    ap (λ (l : ℕ → Life). (at l root).count) (ap (lives_or middle) ran)
    ∙ subst (λ r. Counts r root count) ran (first_counts middle first root count uses_first) in
    let behind = behind_all between (after middle first) root count 1 (record { steps = 0; few = omega arith; is = counted ∙ ap (λ n. n % 2 ^ 64) (sym (add-zero (count + 1))) }) in
    let few = length_apart before between first later in
    later_void (after_all lives (before ++ first ∷ between)) later root count
    (subst (λ (l : ℕ → Life). (at l root).count ≢ count) (sym (after_append before lives (first ∷ between) ∙ after_cons middle first between))
    (differs count (1 + length between) (at (after_all (after middle first) between) root).count (omega arith) behind))
    uses_later
