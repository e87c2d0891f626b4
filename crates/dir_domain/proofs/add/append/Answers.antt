use Rattle.std.proofs.Common.{◌≡◌, ◌≢◌, ℕ, ◌+◌, ◌/◌, ◌<◌, Option, [], ◌∷◌, ◌++◌, set, ap, sym, subst, ◌∙◌, arith, ⊎_elim}
use Rattle.std.specs.Prelude.{◌%◌}
use Rattle.std.proofs.lemmas.Bool.{cases_eq}
use Rattle.kernel_tables.specs.declared.inode.Inode.{Inode}
use Rattle.kernel_tables.specs.Kernel.{Kernel, kernel_of}
use Rattle.forest.specs.Calls.{IsOwn}
use Rattle.forest.specs.Walks.{Mapping}
use Rattle.kernel_forest.specs.Trees.{forest_of}
use Rattle.unix_model.specs.Files.{Entry}
use Rattle.kernel_machine.specs.Contents.{place_in}
use Rattle.kernel_machine.specs.Standing.{Standing}
use Rattle.kernel_machine.proofs.StandingLaws.{standing_with_words}
use Rattle.file_trees.proofs.Accounting.{nodes_left, taken_promised}
use Rattle.dir_domain.specs.Changes.{ChangesPlaces, more_pages, places_for}
use Rattle.dir_domain.specs.Rows.{IsDirectoryRow, places_seen}
use Rattle.dir_domain.proofs.Adding.{row-with-words, before-words, place-appended}
use Rattle.dir_domain.proofs.Keeping.{dir_page_left}
use Rattle.dir_domain.proofs.add.append.Goals as goal

-- with another number of promised pages the kernel has the same nodes, the same directory, and that number
same-taken : (old new : Kernel) (n : ℕ) → new ≡ record old { machine = record old.machine { promised = n } } → new.machine.nodes_taken ≡ old.machine.nodes_taken
same-taken old new n e = ap (λ (k : Kernel). k.machine.nodes_taken) e

same-nodes : (old new : Kernel) (n : ℕ) → new ≡ record old { machine = record old.machine { promised = n } } → new.nodes ≡ old.nodes
same-nodes old new n e = ap (λ (k : Kernel). k.nodes) e

row-kept : (old new : Kernel) (n dir : ℕ) (row : Inode) → new ≡ record old { machine = record old.machine { promised = n } } → IsDirectoryRow old dir row → IsDirectoryRow new dir row
row-kept old new n dir row e is = subst (λ (k : Kernel). IsDirectoryRow k dir row) (sym e) (row-with-words old n dir row is)

promised-now : (old new last : Kernel) (n : ℕ) → last.machine.promised ≡ new.machine.promised → new ≡ record old { machine = record old.machine { promised = n } } → last.machine.promised ≡ n
promised-now old new last n same e = same ∙ ap (λ (k : Kernel). k.machine.promised) e

pages-kept : (old new : Kernel) (n root page : ℕ) → new ≡ record old { machine = record old.machine { promised = n } }
    → ((root ≢ 0 → (found : Mapping) → IsOwn (forest_of old) root page found → ⊥) → old.machine.pages_taken < old.size)
    → (root ≢ 0 → (found : Mapping) → IsOwn (forest_of new) root page found → ⊥) → new.machine.pages_taken < new.size
pages-kept old new n root page e less = subst (λ (k : Kernel). (root ≢ 0 → (found : Mapping) → IsOwn (forest_of k) root page found → ⊥) → k.machine.pages_taken < k.size) (sym e) less

change-kept : (old new last : Kernel) (n dir : ℕ) (row : Inode) (place : Option Entry) → new ≡ record old { machine = record old.machine { promised = n } } → Standing old → IsDirectoryRow old dir row
    → ChangesPlaces new last dir (set (places_for new row (row.length + 32)) (row.length / 32) place) → ChangesPlaces old last dir (places_seen old dir ++ place ∷ [])
change-kept old new last n dir row place e standing is changes =
    subst (ChangesPlaces old last dir) (place-appended old n dir row place standing is)
    (before-words old n last dir _ (subst (λ (k : Kernel). ChangesPlaces k last dir (set (places_for k row (row.length + 32)) (row.length / 32) place)) e changes))

pub put_place-requires : goal.put_place-requires
put_place-requires g c =
    let old = kernel_of (g.T.Store.memory c.args.store.now) in
    let mid = kernel_of (g.T.Store.memory c.promise_place.new.store) in
    let row = c.args.row in
    let n = old.machine.promised + more_pages row.length in
    let granted = c.promise_place.ensures.granted c.if-promise_place.true in
    let e = granted.1 in
    let fits = granted.0 in
    let few = c.requires.row.few in
    let whole = c.requires.row.whole in
    let short = c.if-row-eq32768.false in
    record {
      standing = standing_with_words old mid old.machine.next_pid old.machine.position n e c.promise_place.ensures.good c.requires.good.standing;
      row = row-kept old mid n c.args.dir row e c.requires.row;
      order = omega arith;
      few = omega arith;
      whole = omega arith;
      number = omega arith;
      nodes = let some = nodes_left old c.requires.good in let a = same-taken old mid n e in let b = same-nodes old mid n e in omega arith;
      pages = pages-kept old mid n row.root (row.length / 32 / 128) e
          (λ own. ⊎_elim
          (λ (t : row.length % 4096 ≡ 0).
          let more : more_pages row.length ≡ 1 = omega arith in
          let taken = taken_promised old c.requires.good in
          omega arith)
          (λ (d : row.length % 4096 ≢ 0). dir_page_left old c.args.dir (row.length / 32 / 128) row c.requires.good c.requires.row (omega arith) own)
          (cases_eq (row.length % 4096) 0));
    }

pub returns-then-promise_place-clause-appended : goal.returns-then-promise_place-clause-appended
returns-then-promise_place-clause-appended g c =
    let old = kernel_of (g.T.Store.memory c.args.store.now) in
    let last = kernel_of (g.T.Store.memory c.put_place.new.store) in
    let row = c.args.row in
    let n = old.machine.promised + more_pages row.length in
    let granted = c.promise_place.ensures.granted c.if-promise_place.true in
    let e = granted.1 in
    let few = c.requires.row.few in
    let short = c.if-row-eq32768.false in
    let mid = kernel_of (g.T.Store.memory c.promise_place.new.store) in (
      omega arith,
      granted.0,
      promised-now old mid last n c.put_place.ensures.promised e,
      change-kept old mid last n c.args.dir row (place_in c.args.bytes.now) e c.requires.good.standing c.requires.row c.put_place.ensures.changed,
    )
