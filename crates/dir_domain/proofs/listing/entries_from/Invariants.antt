use Rattle.std.proofs.Common.{◌≡◌, ◌≢◌, ◌+◌, ◌-◌, ◌*◌, ◌/◌, ◌%◌, ◌≤◌, ◌++◌, length, take, drop}
use Rattle.kernel_tables.specs.Kernel.{kernel_of}
use Rattle.unix_model.specs.FileCalls.{listed_bytes, looked_at}
use Rattle.dir_domain.specs.Listing.{IsPageAt}
use Rattle.dir_domain.specs.Rows.{places_seen}
use Rattle.dir_domain.proofs.listing.entries_from.Given as goal

-- so far, and the rest
abbrev pub invariant-loop-listing : goal.invariant-loop-listing
invariant-loop-listing g l =
    let kernel = kernel_of (g.T.Store.memory l.store) in
    let most = length l.initial.into / 32 in
    record {
      bytes : take l.listing.done l.into ++ listed_bytes l.listing.left (drop l.listing.next (places_seen kernel l.dir)) ≡ listed_bytes most (drop l.place (places_seen kernel l.dir));
      looked : l.listing.next + looked_at l.listing.left (drop l.listing.next (places_seen kernel l.dir)) ≡ l.place + looked_at most (drop l.place (places_seen kernel l.dir));
      behind : drop l.listing.done l.into ≡ drop l.listing.done l.initial.into;
      long : length l.into ≡ length l.initial.into;
      room : l.listing.done + 32 * l.listing.left ≡ 32 * most;
      few : l.listing.done ≤ 32 * l.listing.next;
      after : l.place ≤ l.listing.next;
      before : l.listing.next ≤ l.count;
      page : l.listing.next % 128 ≢ 0 → IsPageAt kernel l.row.root (l.listing.next / 128) l.page.0;
    }

abbrev pub decreases-loop-listing : goal.decreases-loop-listing
decreases-loop-listing g l = l.count - l.listing.next
