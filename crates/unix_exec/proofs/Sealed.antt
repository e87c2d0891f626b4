-- The pages of a plan are made read-only one after another.
use Rattle.std.proofs.Common.{◌≡◌, ◌<◌, ◌≤◌, ◌+◌, ℕ, Bool, true, false, Option, Some, None, List, [], refl, ap, sym, ◌∙◌, arith, ⊎_elim}
use Rattle.std.proofs.Math.Path.{fun_ext}
use Rattle.std.proofs.lemmas.Bool.{cases_eq, cases_lt, lt-ltb, le-ltb}
use Rattle.std.specs.Prelude.{option_map, is_some, not, ◌&&◌, IsSome}
use Rattle.kernel_tables.specs.Kernel.{Kernel}
use Rattle.space_bank.specs.Shares.{Outside}
use Rattle.unix_model.specs.declared.elf.Load.{Load}
use Rattle.unix_model.specs.Loading.{page_mapped, page_writable}
use Rattle.unix_model.specs.Tables.{at, with_at}
use Rattle.unix_model.proofs.TableLaws.{at-with_at, at-with_at-other}
use Rattle.forest.specs.Walks.{Mapping, map_of}
use Rattle.forest.specs.Forest.{IsSpace}
use Rattle.forest.proofs.RootLaws.{root_trans}
use Rattle.kernel_forest.specs.Trees.{forest_of, TreesGood}
use Rattle.seg_tree.proofs.Copying.{rest_trans}
use Rattle.seg_tree.specs.Promises.{Remaps}
use Rattle.unix_exec.specs.Seals.{page_sealed, read_only, sealed_below, SealsPlan}

sealed_none : (loads : List Load) (map : ℕ → Option Mapping) → sealed_below loads 0 map ≡ map
unfolding sealed_below
sealed_none loads map = fun_ext (λ page. rw (le-ltb page 0 (omega arith)) refl)

-- at the page itself nothing has changed yet
pub not_sealed_yet : (loads : List Load) (map : ℕ → Option Mapping) (page : ℕ) → sealed_below loads page map page ≡ map page
unfolding sealed_below
not_sealed_yet loads map page = rw (le-ltb page page (omega arith)) refl

-- at any other page one page more makes no difference
same_sealed : (loads : List Load) (map : ℕ → Option Mapping) (page number : ℕ) → (number ≡ page → ⊥) → sealed_below loads page map number ≡ sealed_below loads (page + 1) map number
unfolding sealed_below
same_sealed loads map page number apart = ⊎_elim
    (λ (t : number < page). rw (lt-ltb number page t, lt-ltb number (page + 1) (omega arith)) refl)
    (λ (t : page ≤ number). rw (le-ltb number page t, le-ltb number (page + 1) (omega arith)) refl)
    (cases_lt number page)

here_sealed : (loads : List Load) (map : ℕ → Option Mapping) (page : ℕ) (found : Mapping) → page_sealed loads page ≡ true → map page ≡ Some found
    → sealed_below loads (page + 1) map page ≡ Some (read_only found)
unfolding sealed_below
here_sealed loads map page found is mapped = rw (lt-ltb page (page + 1) (omega arith), is) (ap (option_map read_only) mapped)

one_sealed : (loads : List Load) (map : ℕ → Option Mapping) (page : ℕ) (found : Mapping) → page_sealed loads page ≡ true → map page ≡ Some found
    → with_at (sealed_below loads page map) page (Some (read_only found)) ≡ sealed_below loads (page + 1) map
unfolding at
one_sealed loads map page found is mapped = fun_ext (λ number. ⊎_elim
    (λ (t : number ≡ page).
    ap (with_at (sealed_below loads page map) page (Some (read_only found))) t
    ∙ at-with_at (sealed_below loads page map) page (Some (read_only found))
    ∙ sym (here_sealed loads map page found is mapped)
    ∙ ap (sealed_below loads (page + 1) map) (sym t))
    (λ (t : number ≡ page → ⊥).
    at-with_at-other (sealed_below loads page map) page number (Some (read_only found)) t ∙ same_sealed loads map page number t)
    (cases_eq number page))

one_left : (loads : List Load) (map : ℕ → Option Mapping) (page : ℕ) → page_sealed loads page ≡ false → sealed_below loads page map ≡ sealed_below loads (page + 1) map
unfolding sealed_below
one_left loads map page other = fun_ext (λ number. ⊎_elim
    (λ (t : number ≡ page). rw (t, le-ltb page page (omega arith), lt-ltb page (page + 1) (omega arith), other) refl)
    (λ (t : number ≡ page → ⊥). same_sealed loads map page number t)
    (cases_eq number page))

pub seals_none : (old : Kernel) (space : ℕ) (loads : List Load) → IsSpace (forest_of old) [] space → SealsPlan old old space loads 0
seals_none old space loads is = record {
  trees = λ outside was. was;
  stays = is;
  here = sym (sealed_none loads (map_of (forest_of old).keys space));
  ways = λ page own. own;
  others = record { stay = λ other still apart. still; maps = λ other still apart. refl };
  roots = λ other now. record { was = now; owner = refl; keeper = refl };
  filled = λ was. was;
  outside_now = λ outside. refl;
  rows_now = λ mine apart. refl;
  apart_now = refl;
  owners_now = refl;
  inside = λ outside within. within;
  rest = refl;
  nodes = refl;
}

module _ (k0 k1 : Kernel) (space page : ℕ) (loads : List Load) (so_far : SealsPlan k0 k1 space loads page) where
  pub map_still : map_of (forest_of k1).keys space page ≡ map_of (forest_of k0).keys space page
  map_still = ap (λ (map : ℕ → Option Mapping). map page) so_far.here ∙ not_sealed_yet loads (map_of (forest_of k0).keys space) page

  pub seals_other : page_sealed loads page ≡ false → SealsPlan k0 k1 space loads (page + 1)
  seals_other other = record {
    trees = so_far.trees;
    stays = so_far.stays;
    here = so_far.here ∙ one_left loads (map_of (forest_of k0).keys space) page other;
    ways = so_far.ways;
    others = so_far.others;
    roots = so_far.roots;
    filled = so_far.filled;
    outside_now = so_far.outside_now;
    rows_now = so_far.rows_now;
    apart_now = so_far.apart_now;
    owners_now = so_far.owners_now;
    inside = so_far.inside;
    rest = so_far.rest;
    nodes = so_far.nodes;
  }

  seals_found : (k2 : Kernel) (known : Outside) (found : Mapping) → TreesGood k0 known [] → page_sealed loads page ≡ true
      → map_of (forest_of k0).keys space page ≡ Some found
      → Remaps k1 k2 space 4 (with_at (map_of (forest_of k1).keys space) page (Some (read_only found)))
      → k2.machine.nodes_taken ≡ k1.machine.nodes_taken
      → SealsPlan k0 k2 space loads (page + 1)
  seals_found k2 known found trees is mapped maps none =
      let change = (maps.changes known (so_far.trees known trees)).1 in
      record {
        trees = λ outside was. (maps.changes outside (so_far.trees outside was)).0;
        stays = change.stays;
        here = change.here ∙ ap (λ (map : ℕ → Option Mapping). with_at map page (Some (read_only found))) so_far.here
            ∙ one_sealed loads (map_of (forest_of k0).keys space) page found is mapped;
        ways = λ number own. maps.ways space number so_far.stays (so_far.ways number own);
        others = record {
          stay = λ other still apart. change.others.stay other (so_far.others.stay other still apart) apart;
          maps = λ other still apart. change.others.maps other (so_far.others.stay other still apart) apart ∙ so_far.others.maps other still apart;
        };
        roots = λ other now.
            let last = change.roots other now in
            root_trans (forest_of k0) (forest_of k1) (forest_of k2) [] [] other (so_far.roots other last.was) last;
        filled = λ was. maps.filled (so_far.filled was);
        outside_now = λ outside. maps.outside_now outside ∙ so_far.outside_now outside;
        rows_now = λ mine apart. maps.rows_now mine apart ∙ so_far.rows_now mine apart;
        apart_now = maps.apart_now ∙ so_far.apart_now;
        owners_now = maps.owners_now ∙ so_far.owners_now;
        inside = λ outside within. maps.inside outside (so_far.inside outside within);
        rest = rest_trans k0 k1 k2 so_far.rest maps.rest;
        nodes = none ∙ so_far.nodes;
      }

  pub seals_needed : (k2 : Kernel) (known : Outside) → TreesGood k0 known [] → page_sealed loads page ≡ true
      → IsSome (map_of (forest_of k0).keys space page)
      → ((found : Mapping) → map_of (forest_of k1).keys space page ≡ Some found
      → Remaps k1 k2 space 4 (with_at (map_of (forest_of k1).keys space) page (Some (read_only found))))
      → k2.machine.nodes_taken ≡ k1.machine.nodes_taken
      → SealsPlan k0 k2 space loads (page + 1)
  seals_needed k2 known trees is some maps none = go (map_of (forest_of k0).keys space page) refl
    where
      go : (found : Option Mapping) → map_of (forest_of k0).keys space page ≡ found → SealsPlan k0 k2 space loads (page + 1)
      go None e = absurd (let s : is_some (map_of (forest_of k0).keys space page) ≡ true = some in let no : true ≡ false = sym s ∙ ap is_some e in cc)
      go (Some found) e = seals_found k2 known found trees is e (maps found (map_still ∙ e)) none

-- a page that is to be read-only is needed
pub sealed_needed : (loads : List Load) (page : ℕ) → page_sealed loads page ≡ true → page_mapped loads page ≡ true
sealed_needed loads page is = go (page_mapped loads page) refl
  where
    go : (needed : Bool) → page_mapped loads page ≡ needed → page_mapped loads page ≡ true
    go true e = e
    go false e = absurd (let no : true ≡ false = sym is ∙ ap (λ b. b && not (page_writable loads page)) e in cc)
