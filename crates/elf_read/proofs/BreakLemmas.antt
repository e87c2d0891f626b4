-- Where the heap begins.
use Rattle.std.proofs.Common.{◌≡◌, ℕ, ◌+◌, ◌*◌, ◌/◌, ◌%◌, ◌<◌, ◌≤◌, max, List, [], ◌∷◌, ◌++◌, length, take, get_or, All, arith}
use Rattle.std.proofs.lemmas.List.{take_more}
use Rattle.std.proofs.lemmas.List.Elements.{All-head, All-tail, All-cons, All-nil, All-weaker}
use Rattle.unix_model.specs.declared.elf.Load.{Load}
use Rattle.unix_model.specs.Elf.{load_end, last_end, break_start_of}

-- the last end with one load more
pub last_end-push : (loads : List Load) (load : Load) → last_end (loads ++ load ∷ []) ≡ max (last_end loads) (load_end load)
unfolding last_end
last_end-push [] load = omega arith
last_end-push (first ∷ loads) load = rw (last_end-push loads load) (omega arith)

-- the step of a loop over the loads
pub last_end_more : (loads : List Load) (i : ℕ) (load : Load) → i < length loads → last_end (take (i + 1) loads) ≡ max (last_end (take i loads)) (load_end (get_or loads i load))
last_end_more loads i load within = rw (take_more loads i load within) (last_end-push (take i loads) (get_or loads i load))

-- no load ends past the last end
pub All-last_end : (loads : List Load) → All (λ load. load_end load ≤ last_end loads) loads
unfolding last_end
All-last_end [] = All-nil (λ load. load_end load ≤ 0)
All-last_end (load ∷ loads) =
    All-cons (λ other. load_end other ≤ max (load_end load) (last_end loads)) load loads (omega arith)
    (All-weaker (λ other. load_end other ≤ last_end loads) (λ other. load_end other ≤ max (load_end load) (last_end loads)) (λ other h. omega arith) loads (All-last_end loads))

-- the last end isn't past what all loads end at or below
pub last_end-le : (loads : List Load) (top : ℕ) → All (λ load. load_end load ≤ top) loads → last_end loads ≤ top
unfolding last_end
last_end-le [] top ends = omega arith
last_end-le (load ∷ loads) top ends =
    let here = All-head (λ other. load_end other ≤ top) load loads ends in
    let there = last_end-le loads top (All-tail (λ other. load_end other ≤ top) load loads ends) in
    omega arith

-- the break's start is past all loads, and no other boundary that is lies below it
pub break_start-boundary : (loads : List Load) → break_start_of loads % 4096 ≡ 0
unfolding break_start_of
break_start-boundary loads = omega arith

pub break_start-past : (loads : List Load) → All (λ load. load_end load ≤ break_start_of loads) loads
unfolding break_start_of
break_start-past loads =
    All-weaker (λ other. load_end other ≤ last_end loads) (λ other. load_end other ≤ (last_end loads + 4095) / 4096 * 4096) (λ other h. omega arith) loads (All-last_end loads)

pub break_start-least : (loads : List Load) (address : ℕ) → address % 4096 ≡ 0 → All (λ load. load_end load ≤ address) loads → break_start_of loads ≤ address
unfolding break_start_of
break_start-least loads address boundary ends = let h = last_end-le loads address ends in omega arith

-- all loads end in the memory for loads, which ends at a boundary
pub break_start-le : (loads : List Load) → All (λ load. load_end load ≤ 0x7FFE_0000) loads → break_start_of loads ≤ 0x7FFE_0000
unfolding break_start_of
break_start-le loads ends = let h = last_end-le loads 0x7FFE_0000 ends in omega arith
