-- The pages of a plan are mapped one after another.
use Rattle.std.proofs.Common.{◌≡◌, ◌<◌, ◌≤◌, ◌+◌, ◌*◌, ◌-◌, ◌^◌, ℕ, zero, suc, add-zero, Bool, true, false, Option, Some, None, List, [], refl, ap, sym, subst, ◌∙◌, arith, ⊎_elim}
use Rattle.std.proofs.Math.Path.{fun_ext}
use Rattle.std.proofs.lemmas.Bool.{cases_eq, cases_lt, lt-ltb, le-ltb}
use Rattle.kernel_tables.specs.Kernel.{Kernel}
use Rattle.space_bank.specs.Shares.{Outside}
use Rattle.unix_model.specs.declared.elf.Load.{Load}
use Rattle.unix_model.specs.Loading.{page_mapped}
use Rattle.unix_model.specs.Tables.{at, with_at, count_below}
use Rattle.unix_model.proofs.TableLaws.{at-with_at, at-with_at-other, count_below-step}
use Rattle.forest.specs.Walks.{Mapping, map_of}
use Rattle.forest.specs.Forest.{IsSpace}
use Rattle.forest.proofs.RootLaws.{root_trans}
use Rattle.kernel_forest.specs.Trees.{forest_of, TreesGood}
use Rattle.seg_tree.proofs.Copying.{rest_trans}
use Rattle.seg_tree.specs.Promises.{Remaps}
use Rattle.seg_tree.specs.Ways.{HasOwnWay}
use Rattle.unix_exec.specs.Plans.{plan_map_below, MapsPlan}

below_none : (loads : List Load) → plan_map_below loads 0 ≡ (λ page. None)
unfolding plan_map_below
below_none loads = fun_ext (λ page. rw (le-ltb page 0 (omega arith)) refl)

-- at the page itself nothing is mapped yet
pub not_yet : (loads : List Load) (page : ℕ) → plan_map_below loads page page ≡ None
unfolding plan_map_below
not_yet loads page = rw (le-ltb page page (omega arith)) refl

-- one page more, which is needed or isn't
one_needed : (loads : List Load) (page : ℕ) → page_mapped loads page ≡ true
    → with_at (plan_map_below loads page) page (Some (record { writable = true; page = 0 })) ≡ plan_map_below loads (page + 1)
unfolding plan_map_below at
one_needed loads page needed = fun_ext (λ number. ⊎_elim
    (λ (t : number ≡ page).
    ap (with_at (plan_map_below loads page) page (Some (record { writable = true; page = 0 }))) t
    ∙ at-with_at (plan_map_below loads page) page (Some (record { writable = true; page = 0 }))
    ∙ sym (rw (t, lt-ltb page (page + 1) (omega arith), needed) refl))
    (λ (t : number ≡ page → ⊥).
    at-with_at-other (plan_map_below loads page) page number (Some (record { writable = true; page = 0 })) t
    ∙ same_below number t)
    (cases_eq number page))
  where
    same_below : (number : ℕ) → (number ≡ page → ⊥) → plan_map_below loads page number ≡ plan_map_below loads (page + 1) number
    same_below number apart = ⊎_elim
        (λ (t : number < page). rw (lt-ltb number page t, lt-ltb number (page + 1) (omega arith)) refl)
        (λ (t : page ≤ number). rw (le-ltb number page t, le-ltb number (page + 1) (omega arith)) refl)
        (cases_lt number page)

one_other : (loads : List Load) (page : ℕ) → page_mapped loads page ≡ false → plan_map_below loads page ≡ plan_map_below loads (page + 1)
unfolding plan_map_below
one_other loads page other = fun_ext (λ number. ⊎_elim
    (λ (t : number < page). rw (lt-ltb number page t, lt-ltb number (page + 1) (omega arith)) refl)
    (λ (t : page ≤ number). ⊎_elim
    (λ (s : number ≡ page). rw (s, le-ltb page page (omega arith), lt-ltb page (page + 1) (omega arith), other) refl)
    (λ (s : number ≡ page → ⊥). rw (le-ltb number page t, le-ltb number (page + 1) (omega arith)) refl)
    (cases_eq number page))
    (cases_lt number page))

pub maps_none : (old : Kernel) (space : ℕ) (loads : List Load) → IsSpace (forest_of old) [] space → map_of (forest_of old).keys space ≡ (λ page. None) → MapsPlan old old space loads 0
maps_none old space loads is empty = record {
  trees = λ outside was. was;
  stays = is;
  here = empty ∙ sym (below_none loads);
  ways = λ page none needed. absurd (omega arith);
  others = record { stay = λ other still apart. still; maps = λ other still apart. refl };
  roots = λ other now. record { was = now; owner = refl; keeper = refl };
  filled = λ was. was;
  outside_now = λ outside. refl;
  rows_now = λ mine apart. refl;
  apart_now = refl;
  owners_now = refl;
  inside = λ outside within. within;
  rest = refl;
  most = omega arith;
}

module _ (k0 k1 : Kernel) (space page : ℕ) (loads : List Load) (so_far : MapsPlan k0 k1 space loads page) where
  pub maps_other : page_mapped loads page ≡ false → MapsPlan k0 k1 space loads (page + 1)
  maps_other other = record {
    trees = so_far.trees;
    stays = so_far.stays;
    here = so_far.here ∙ one_other loads page other;
    ways = λ number low needed. ⊎_elim
        (λ (t : number ≡ page). absurd (let no : true ≡ false = sym needed ∙ ap (page_mapped loads) t ∙ other in cc))
        (λ (t : number ≡ page → ⊥). so_far.ways number (omega arith) needed)
        (cases_eq number page);
    others = so_far.others;
    roots = so_far.roots;
    filled = so_far.filled;
    outside_now = so_far.outside_now;
    rows_now = so_far.rows_now;
    apart_now = so_far.apart_now;
    owners_now = so_far.owners_now;
    inside = so_far.inside;
    rest = so_far.rest;
    most = let count : count_below (page_mapped loads) (page + 1) ≡ count_below (page_mapped loads) page = count_below-step (page_mapped loads) page ∙ rw other (omega arith) in
        let most = so_far.most in omega arith;
  }

  pub maps_needed : (k2 : Kernel) (known : Outside) → TreesGood k0 known [] → page_mapped loads page ≡ true → HasOwnWay k2 space page
      → Remaps k1 k2 space 4 (with_at (map_of (forest_of k1).keys space) page (Some (record { writable = true; page = 0 })))
      → MapsPlan k0 k2 space loads (page + 1)
  maps_needed k2 known trees needed own_way maps =
      let change = (maps.changes known (so_far.trees known trees)).1 in
      record {
        trees = λ outside was. (maps.changes outside (so_far.trees outside was)).0;
        stays = change.stays;
        here = change.here ∙ ap (λ (map : ℕ → Option Mapping). with_at map page (Some (record { writable = true; page = 0 }))) so_far.here ∙ one_needed loads page needed;
        ways = λ number low is_needed. ⊎_elim
            (λ (t : number ≡ page). subst (HasOwnWay k2 space) (sym t) own_way)
            (λ (t : number ≡ page → ⊥). maps.ways space number so_far.stays (so_far.ways number (omega arith) is_needed))
            (cases_eq number page);
        others = record {
          stay = λ other still apart. change.others.stay other (so_far.others.stay other still apart) apart;
          maps = λ other still apart. change.others.maps other (so_far.others.stay other still apart) apart ∙ so_far.others.maps other still apart;
        };
        roots = λ other now.
            let last = change.roots other now in
            root_trans (forest_of k0) (forest_of k1) (forest_of k2) [] [] other (so_far.roots other last.was) last;
        filled = λ was. maps.filled (so_far.filled was);
        outside_now = λ outside. maps.outside_now outside ∙ so_far.outside_now outside;
        rows_now = λ mine apart. maps.rows_now mine apart ∙ so_far.rows_now mine apart;
        apart_now = maps.apart_now ∙ so_far.apart_now;
        owners_now = maps.owners_now ∙ so_far.owners_now;
        inside = λ outside within. maps.inside outside (so_far.inside outside within);
        rest = rest_trans k0 k1 k2 so_far.rest maps.rest;
        most = let count : count_below (page_mapped loads) (page + 1) ≡ count_below (page_mapped loads) page + 1 = count_below-step (page_mapped loads) page ∙ rw needed refl in
            let most = so_far.most in let more = maps.most in omega arith;
      }

-- as many are counted below a greater number, or more
count_more : (test : ℕ → Bool) (n k : ℕ) → count_below test n ≤ count_below test (n + k)
unfolding count_below
count_more test n zero = rw add-zero (omega arith)
count_more test n (suc k) =
    let next : n + suc k ≡ suc (n + k) = omega arith in
    let before = count_more test n k in
    rw next (omega arith)

-- there is room for one page more
pub room_for_page : (loads : List Load) (page taken taken_now nodes : ℕ) → page < 2 ^ 19 → page_mapped loads page ≡ true
    → taken_now ≤ taken + 4 * count_below (page_mapped loads) page → taken + 15 + 4 * count_below (page_mapped loads) (2 ^ 19) ≤ nodes → taken_now + 19 ≤ nodes
room_for_page loads page taken taken_now nodes below needed few room =
    let one : count_below (page_mapped loads) (page + 1) ≡ count_below (page_mapped loads) page + 1 = count_below-step (page_mapped loads) page ∙ rw needed refl in
    let all : page + 1 + (2 ^ 19 - (page + 1)) ≡ 2 ^ 19 = omega arith in
    let more : count_below (page_mapped loads) (page + 1) ≤ count_below (page_mapped loads) (2 ^ 19) = rw all at (count_more (page_mapped loads) (page + 1) (2 ^ 19 - (page + 1))) in
    omega arith
