-- What a change promises: sums over a table with one place changed.
use Rattle.std.proofs.Common.{◌≡◌, ◌≢◌, ℕ, zero, suc, ◌+◌, ◌-◌, ◌*◌, ◌<◌, ◌≤◌, ◌^◌, mul-suc, Option, Some, None, Bool, true, false, List, arith, refl, ap, ◌∙◌, inl, inr}
use Rattle.std.proofs.Math.Path.{fun_ext}
use Rattle.std.proofs.lemmas.Bool.Decides.{eqb_tells, nat_tests}
use Rattle.std.specs.Prelude.{is_some, nat_le, if◌then◌else◌}
use Rattle.unix_model.specs.Boot.{started, first_process, init_arguments}
use Rattle.unix_model.specs.Elf.{LoadPlan}
use Rattle.unix_model.specs.declared.elf.Load.{Load}
use Rattle.unix_model.specs.Files.{Inode, Description, inode_pages}
use Rattle.unix_model.specs.Loading.{image, image_page, page_mapped}
use Rattle.unix_model.specs.Memory.{Page, mapped_pages}
use Rattle.unix_model.specs.Room.{promised, process_pages, live_pages, has_room}
use Rattle.unix_model.specs.Process.{Process, Phase, Run, Asked, Sent, Done, Exiting, Zombie}
use Rattle.unix_model.specs.ProcessCalls.{child}
use Rattle.unix_model.specs.State.{Unix, with_process}
use Rattle.unix_model.specs.Tables.{at, with_at, nothing, sum_below, count_below}
use Rattle.unix_model.proofs.CountLaws.{mapped-few}
use Rattle.unix_model.proofs.TableLaws.{at-with_at, at-with_at-other}

-- a change past the limit
sum-past : {X : Type 0} (f : X → ℕ) (table : ℕ → X) (n : ℕ) (x : X) (limit : ℕ) → limit ≤ n
    → sum_below (λ k. f (at (with_at table n x) k)) limit ≡ sum_below (λ k. f (at table k)) limit
unfolding sum_below
sum-past f table n x zero past = refl
sum-past f table n x (suc limit) past =
    let other : limit ≢ n = omega arith in
    let rest : limit ≤ n = omega arith in
    rw (sum-past f table n x limit rest, at-with_at-other table n limit x other) refl

-- a change below the limit
pub sum-with_at : {X : Type 0} (f : X → ℕ) (table : ℕ → X) (n : ℕ) (x : X) (limit : ℕ) → n < limit
    → sum_below (λ k. f (at (with_at table n x) k)) limit + f (at table n) ≡ sum_below (λ k. f (at table k)) limit + f x
unfolding sum_below
sum-with_at f table n x zero inside = absurd (omega arith)
sum-with_at f table n x (suc limit) inside =
    elim (eqb_tells limit n) as (λ _. (sum_below (λ k. f (at (with_at table n x) k)) limit + f (at (with_at table n x) limit)) + f (at table n) ≡ (sum_below (λ k. f (at table k)) limit + f (at table limit)) + f x) [
      | inl same ↦
          let past : limit ≤ n = omega (arith, same.1) in
          let here : f (at (with_at table n x) limit) ≡ f x = ap (λ k. f (at (with_at table n x) k)) same.1 ∙ ap f (at-with_at table n x) in
          let there : f (at table limit) ≡ f (at table n) = ap (λ k. f (at table k)) same.1 in
          omega (arith, sum-past f table n x limit past, here, there)
      | inr apart ↦
          let less : n < limit = omega (arith, apart.1) in
          let here : f (at (with_at table n x) limit) ≡ f (at table limit) = ap f (at-with_at-other table n limit x apart.1) in
          omega (arith, sum-with_at f table n x limit less, here)
    ]

-- tests that agree count the same
mapped_test : (mapped : Bool) (page : Page) → is_some (if mapped then Some page else None) ≡ mapped
mapped_test true page = refl
mapped_test false page = refl

-- the pages of a loaded program
pub mapped_pages-image : (file : List ℕ) (loads : List Load) (strings : List (List ℕ)) → mapped_pages (image file loads strings) ≡ count_below (page_mapped loads) (2 ^ 19)
unfolding mapped_pages image at
mapped_pages-image file loads strings =
    let same : (λ n. is_some (if page_mapped loads n then Some (image_page file loads strings n) else None)) ≡ page_mapped loads =
    fun_ext (λ n. mapped_test (page_mapped loads n) (image_page file loads strings n)) in
    ap (λ test. count_below test (2 ^ 19)) same

-- what a started machine promises
pub promised-started : (unix : Unix) (file : List ℕ) (plan : LoadPlan)
    → promised (started unix file plan) + process_pages (at unix.processes 0) ≡ promised unix + (count_below (page_mapped plan.loads) (2 ^ 19) + 1)
unfolding promised first_process
promised-started unix file plan =
    omega (arith, sum-with_at process_pages unix.processes 0 (Some (first_process file plan)) 64 (omega arith), mapped_pages-image file plan.loads init_arguments)

-- ---- one place of the state changed

-- a process in a free slot
pub promised-put : (unix : Unix) (slot : ℕ) (process : Process) → slot < 64 → at unix.processes slot ≡ None
    → promised (with_process unix slot process) ≡ promised unix + process_pages (Some process)
unfolding promised
promised-put unix slot process inside free =
    let none : process_pages (at unix.processes slot) ≡ 0 = ap process_pages free in
    omega (arith, sum-with_at process_pages unix.processes slot (Some process) 64 inside, none)

-- any process in any slot
pub promised-process : (unix : Unix) (slot : ℕ) (process : Option Process) → slot < 64
    → promised (record unix { processes = with_at unix.processes slot process }) + process_pages (at unix.processes slot) ≡ promised unix + process_pages process
unfolding promised
promised-process unix slot process inside = omega (arith, sum-with_at process_pages unix.processes slot process 64 inside)

-- another inode at a number, and any descriptions
pub promised-inode : (unix : Unix) (inode : Option Inode) (descriptions : ℕ → Option Description) (number : ℕ) → number < 1024
    → promised (record unix { files = record { inodes = with_at unix.files.inodes number inode; descriptions = descriptions } }) + inode_pages (at unix.files.inodes number)
    ≡ promised unix + inode_pages inode
unfolding promised
promised-inode unix inode descriptions number inside = omega (arith, sum-with_at inode_pages unix.files.inodes number inode 1024 inside)

-- what fits into a limit
le-test : (a b c d : ℕ) → a + d ≡ b → nat_le b (c + d) ≡ nat_le a c
le-test a b c d e = grind (arith, nat_tests)

-- a state that promises so much more, and so much less
pub room-by : (unix : Unix) (more less promises : ℕ) → promised unix + less ≡ promises + more → nat_le (promises + more) (unix.pages + less) ≡ has_room unix
room-by unix more less promises e = le-test (promised unix) (promises + more) unix.pages less e

-- few promise little
pub sum-few : (f : ℕ → ℕ) (most limit : ℕ) → ((k : ℕ) → f k ≤ most) → sum_below f limit ≤ most * limit
unfolding sum_below
sum-few f most zero each = omega arith
sum-few f most (suc limit) each = omega (arith, sum-few f most limit each, each limit, mul-suc most limit)

-- a process whose memory changes while it asks
pub promised-broken : (unix : Unix) (slot : ℕ) (process moved : Process) → slot < 64 → process.phase ≡ Asked → moved.phase ≡ Asked
    → promised (with_process (with_process unix slot process) slot moved) + mapped_pages process.memory ≡ promised (with_process unix slot process) + mapped_pages moved.memory
promised-broken unix slot process moved inside asked moved_asked =
    let old : process_pages (at (with_process unix slot process).processes slot) ≡ mapped_pages process.memory + 1 =
    ap process_pages (at-with_at unix.processes slot (Some process)) ∙ ap (live_pages process) asked in
    let new : process_pages (Some moved) ≡ mapped_pages moved.memory + 1 = ap (live_pages moved) moved_asked in
    omega (arith, promised-process (with_process unix slot process) slot (Some moved) inside, old, new)

-- a child in a free slot
pub promised-forked : (unix : Unix) (place pid next : ℕ) (process : Process) → place < 64 → at unix.processes place ≡ None
    → promised (record (with_process unix place (child pid process)) { next_pid = next }) ≡ promised unix + (mapped_pages process.memory + 1)
unfolding promised
promised-forked unix place pid next process inside free =
    let none : process_pages (at unix.processes place) ≡ 0 = ap process_pages free in
    omega (arith, sum-with_at process_pages unix.processes place (Some (child pid process)) 64 inside, none)

pub ruleset broken = (promised-broken)

pub ruleset forked = (promised-forked)

-- ---- the pages that the slots promise, and the inodes

abbrev pub slots_promise : (ℕ → Option Process) → ℕ
slots_promise processes = sum_below (λ slot. process_pages (at processes slot)) 64

abbrev pub inodes_promise : (ℕ → Option Inode) → ℕ
inodes_promise inodes = sum_below (λ n. inode_pages (at inodes n)) 1024

live-few : (made : Process) (phase : Phase) → live_pages made phase ≤ 2 ^ 19 + 1
live-few made Run = omega (arith, mapped-few made.memory)
live-few made Asked = omega (arith, mapped-few made.memory)
live-few made (Sent sent) = omega (arith, mapped-few made.memory)
live-few made (Done value address bytes) = omega (arith, mapped-few made.memory)
live-few made (Exiting word) = omega (arith, mapped-few made.memory)
live-few made (Zombie word) = omega arith

pub pages-few : (held : Option Process) → process_pages held ≤ 2 ^ 19 + 1
pages-few None = omega arith
pages-few (Some made) = live-few made made.phase

-- one of a sum
pub sum-one : (f : ℕ → ℕ) (n limit : ℕ) → n < limit → f n ≤ sum_below f limit
unfolding sum_below
sum-one f n zero inside = absurd (omega arith)
sum-one f n (suc limit) inside =
    elim (eqb_tells n limit) as (λ _. f n ≤ sum_below f limit + f limit) [
      | inl same ↦ let here : f n ≡ f limit = ap f same.1 in omega (arith, here)
      | inr apart ↦ let less : n < limit = omega (arith, apart.1) in omega (arith, sum-one f n limit less)
    ]

pub slots-few : (processes : ℕ → Option Process) → slots_promise processes ≤ 2 ^ 26
slots-few processes = omega (arith, sum-few (λ slot. process_pages (at processes slot)) (2 ^ 19 + 1) 64 (λ k. pages-few (at processes k)))

pub slots-put : (processes : ℕ → Option Process) (slot : ℕ) (process : Option Process) → slot < 64
    → slots_promise (with_at processes slot process) ≡ slots_promise processes - process_pages (at processes slot) + process_pages process
slots-put processes slot process inside =
    omega (arith, sum-with_at process_pages processes slot process 64 inside, sum-one (λ n. process_pages (at processes n)) slot 64 inside)

pub slots-take : (processes : ℕ → Option Process) (slot : ℕ) → slot < 64
    → slots_promise (with_at processes slot None) ≡ slots_promise processes - process_pages (at processes slot)
slots-take processes slot inside = omega (arith, slots-put processes slot None inside)

pub slots-have : (processes : ℕ → Option Process) (slot : ℕ) → slot < 64 → process_pages (at processes slot) ≤ slots_promise processes
slots-have processes slot inside = sum-one (λ n. process_pages (at processes n)) slot 64 inside

sum-nothing : (f : ℕ → ℕ) (limit : ℕ) → ((k : ℕ) → f k ≡ 0) → sum_below f limit ≡ 0
unfolding sum_below
sum-nothing f zero none = refl
sum-nothing f (suc limit) none = omega (arith, sum-nothing f limit none, none limit)

pub slots-nothing : slots_promise nothing ≡ 0
unfolding at nothing
slots-nothing = sum-nothing (λ slot. process_pages (at nothing slot)) 64 (λ k. refl)

pub inodes-nothing : inodes_promise nothing ≡ 0
unfolding at nothing
inodes-nothing = sum-nothing (λ n. inode_pages (at nothing n)) 1024 (λ k. refl)

pub inodes-put : (inodes : ℕ → Option Inode) (n : ℕ) (inode : Option Inode) → n < 1024
    → inodes_promise (with_at inodes n inode) ≡ inodes_promise inodes - inode_pages (at inodes n) + inode_pages inode
inodes-put inodes n inode inside =
    omega (arith, sum-with_at inode_pages inodes n inode 1024 inside, sum-one (λ k. inode_pages (at inodes k)) n 1024 inside)

pub inodes-have : (inodes : ℕ → Option Inode) (n : ℕ) → n < 1024 → inode_pages (at inodes n) ≤ inodes_promise inodes
inodes-have inodes n inside = sum-one (λ k. inode_pages (at inodes k)) n 1024 inside

pub ruleset slot_pages = (slots-put, slots-take, slots-have, slots-few, pages-few)

pub ruleset no_pages = (slots-nothing, inodes-nothing)

pub ruleset inode_counts = (inodes-put, inodes-have)
