use Rattle.std.proofs.Common.{◌≡◌, ◌+◌, ◌*◌, ◌≤◌, ◌++◌, length, drop}
use Rattle.std.specs.Prelude.{map}
use Rattle.unix_model.specs.FileCalls.{listed_bytes, looked_at}
use Rattle.flat_files.specs.EntryView.{place_of}
use Rattle.flat_file_calls.proofs.listing.list.Given as goal

-- so far, and the rest
abbrev pub invariant-loop-place : goal.invariant-loop-place
invariant-loop-place l = record {
  bytes : l.listing.bytes.items ++ listed_bytes l.listing.room (map place_of (drop l.place-index l.places)) ≡ listed_bytes l.most (map place_of l.places);
  looked : l.listing.looked + looked_at l.listing.room (map place_of (drop l.place-index l.places)) ≡ looked_at l.most (map place_of l.places);
  room : length l.listing.bytes.items + 32 * l.listing.room ≡ 32 * l.most;
  few : l.listing.looked ≤ l.place-index;
}
