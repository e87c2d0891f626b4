-- The blocks of a machine that counts.
use Rattle.std.specs.Prelude.{◌≡◌, ℕ, zero, suc, ◌+◌, ◌%◌, List, replicate, slice_set}
use Rattle.std.proofs.Common.{refl}

-- after so many intervals, of which the first makes all bytes of block 40 this byte, and each later one the next byte
unfoldable pub counted : ℕ → List (List ℕ) → ℕ → List (List ℕ)
counted byte blocks zero = blocks
counted byte blocks (suc n) = counted ((byte + 1) % 256) (slice_set blocks 40 (replicate 4096 byte)) n

-- after no interval they are as they were
pub counted-none : (byte : ℕ) (blocks : List (List ℕ)) → counted byte blocks 0 ≡ blocks
unfolding counted
counted-none byte blocks = refl
