use Rattle.std.proofs.Common.{◌≡◌, ℕ, ◌+◌, ◌/◌, List, ◌++◌, length, take, drop, ap, sym, subst, ◌∙◌, arith, inl, inr}
use Rattle.kernel_tables.specs.Kernel.{Kernel, kernel_of, memory_page}
use Rattle.unix_model.specs.FileCalls.{listed_bytes, looked_at}
use Rattle.dir_domain.specs.Listing.{IsPageAt}
use Rattle.dir_domain.specs.Rows.{places_seen}
use Rattle.dir_domain.proofs.Names.{places-count, next-place}
use Rattle.dir_domain.proofs.Entries.{lists-none, lists-all, drop-later}
use Rattle.dir_domain.proofs.listing.entries_from.Goals as goal
use Rattle.dir_domain.proofs.listing.entries_from.Goals.{then-loop-listing-test+else-listing-gt0, else-loop-listing-test}

-- what was told of the places from here on is told of those behind the next one, once that one was looked at
carried-on : {A B : Type 0} (after before : List A → B) (places : List A) (at next : ℕ) (all : B) {here : List A} → next ≡ at + 1 → drop at places ≡ here → after (drop (at + 1) places) ≡ before here
    → before (drop at places) ≡ all → after (drop next places) ≡ all
carried-on after before places at next all is here step told = ap (λ n. after (drop n places)) is ∙ step ∙ ap before (sym here) ∙ told

page-there : (kernel : Kernel) (root number same_number page : ℕ) → number ≡ same_number → IsPageAt kernel root number page → IsPageAt kernel root same_number page
page-there kernel root number same_number page same is = subst (λ (n : ℕ). IsPageAt kernel root n page) same is

pub returns-then-count-place-clause-listed : goal.returns-then-count-place-clause-listed
returns-then-count-place-clause-listed g c =
    let kernel = kernel_of (g.T.Store.memory c.args.store.now) in
    let long = places-count kernel c.args.dir c.directory_row-row.result c.directory_row-row.ensures in
    let past = c.if-count-place.true in
    lists-none (places_seen kernel c.args.dir) c.args.place c.args.into.now (omega (arith, long))

pub loop-listing-preserved : goal.loop-listing-preserved
loop-listing-preserved g c =
    let kernel = kernel_of (g.T.Store.memory c.args.store.now) in
    let before = c.loop-listing.invariant in
    let listed = c.list_place-listing.ensures in
    let below = c.loop-listing-test.true in
    let next = listed.next in
    let here = next-place kernel c.args.dir c.directory_row-row.result c.requires.standing c.directory_row-row.ensures c.loop-listing.listing.next (memory_page kernel c.page_for-page.result.0) c.place_bytes-bytes.result
    below c.page_for-page.ensures.bytes c.place_bytes-bytes.ensures in
    let places = places_seen kernel c.args.dir in
    let most = length c.args.into.now / 32 in
    record {
      bytes = carried-on (λ rest. take c.list_place-listing.result.done c.list_place-listing.new.into ++ listed_bytes c.list_place-listing.result.left rest)
          (λ rest. take c.loop-listing.listing.done c.loop-listing.into ++ listed_bytes c.loop-listing.listing.left rest)
          places c.loop-listing.listing.next c.list_place-listing.result.next (listed_bytes most (drop c.args.place places)) next here (listed.bytes (drop (c.loop-listing.listing.next + 1) places)) before.bytes;
      looked = carried-on (λ rest. c.list_place-listing.result.next + looked_at c.list_place-listing.result.left rest) (λ rest. c.loop-listing.listing.next + looked_at c.loop-listing.listing.left rest)
          places c.loop-listing.listing.next c.list_place-listing.result.next (c.args.place + looked_at most (drop c.args.place places)) next here (listed.looked (drop (c.loop-listing.listing.next + 1) places)) before.looked;
      behind = listed.behind ∙ drop-later c.loop-listing.into c.args.into.now c.loop-listing.listing.done c.list_place-listing.result.done listed.done before.behind;
      long = listed.long ∙ before.long;
      room = listed.room ∙ before.room;
      few = let f = listed.few in let b = before.few in omega arith;
      after = let a = before.after in omega arith;
      before = omega arith;
      page = λ inside. let same : c.loop-listing.listing.next / 128 ≡ c.list_place-listing.result.next / 128 = omega arith in
          page-there kernel c.directory_row-row.result.root (c.loop-listing.listing.next / 128) (c.list_place-listing.result.next / 128) c.page_for-page.result.0 same c.page_for-page.ensures;
    }

pub returns-clause-listed : goal.returns-clause-listed
returns-clause-listed g c =
    let kernel = kernel_of (g.T.Store.memory c.args.store.now) in
    let i = c.loop-listing.invariant in
    let long = places-count kernel c.args.dir c.directory_row-row.result c.directory_row-row.ensures in
    let room = i.room in
    let size = i.long in
    lists-all (places_seen kernel c.args.dir) c.args.place c.loop-listing.listing.next c.loop-listing.listing.done c.loop-listing.listing.left c.args.into.now c.loop-listing.into
    (elim c.loop-listing-test.branch [
      | then-loop-listing-test+else-listing-gt0 w ↦ inr (let z = w.if-listing-gt0.false in omega arith)
      | else-loop-listing-test w ↦ inl (let z = w.loop-listing-test.false in omega (arith, long))
    ])
    (omega arith) i.bytes i.looked i.behind
