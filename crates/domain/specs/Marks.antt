-- The marks of a process: the first word is 1 where it is parked. Then the second tells on what: it is the number of a pipe's inode
-- and 1, or 0 where the process waits for a child.
use Rattle.std.specs.Prelude.{ℕ, ◌==◌, ◌&&◌, Bool, [], ◌∷◌, replicate, slice_index_or, if◌then◌else◌}
use Rattle.unix_model.specs.Tables.{at}
use Rattle.domain.specs.Domains.{Domain}

abbrev pub is_marked : Domain → Bool
is_marked domain = slice_index_or domain.marks 0 0 == 1

abbrev pub is_parked_on : ℕ → Domain → Bool
is_parked_on word domain = is_marked domain && (slice_index_or domain.marks 1 0 == word)

-- the process parked, and parked no more
abbrev pub parked_on : ℕ → Domain → Domain
parked_on word domain = record domain { marks = 1 ∷ word ∷ 0 ∷ [] }

abbrev pub unparked : Domain → Domain
unparked domain = record domain { marks = replicate 3 0 }

-- the process that goes on whatever it is parked on, ..
unfoldable pub released : Domain → Domain
released domain = if is_marked domain then unparked domain else domain

-- .. and the one that goes on if it is parked on what the word tells
unfoldable pub woken : ℕ → Domain → Domain
woken word domain = if is_parked_on word domain then unparked domain else domain

-- so for all domains
unfoldable pub all_woken : ℕ → (ℕ → Domain) → ℕ → Domain
all_woken word domains = λ root. woken word (at domains root)
