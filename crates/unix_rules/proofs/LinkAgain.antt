-- A new name that link makes goes again by unlink.
use Rattle.std.proofs.Common.{◌≡◌, ◌≢◌, ◌⊎◌, ℕ, Bool, true, false, List, [], ◌∷◌, Option, Some, None, Result, Ok, Err, refl, sym, subst, ap, ◌∙◌, inl, inr, length}
use Rattle.std.proofs.lemmas.Bool.{cases_Bool}
use Rattle.std.proofs.lemmas.Bool.Decides.{eqb_tells}
use Rattle.std.proofs.lemmas.Slice.Eq.{bytes_eq-Decides}
use Rattle.std.specs.List.{slice_split}
use Rattle.std.specs.Prelude.{bytes_eq, codes, is_some, ◌==◌, ◌&&◌, nat_lt}
use Rattle.unix_model.specs.declared.calls.Errno.{Errno}
use Rattle.unix_model.specs.declared.calls.Errno.TheVariants.{Eexist, Enametoolong, Enoent, Enospc, Enotdir, Eperm}
use Rattle.unix_model.specs.Effect.{Goes}
use Rattle.unix_model.specs.Files.{Console, Directory, Entry, File, Files, Pipe, Inode, inode_named, is_directory, is_full, is_kept, parent_of, place_inode, places_of, with_entry, with_inode_dropped, with_name, with_place, without_name}
use Rattle.unix_model.specs.NameCalls.{link_line, removed, unlink_line, with_link}
use Rattle.unix_model.specs.Paths.{Spot, inode_at, is_no_directory, is_slash, is_slashed, named, start_directory, start_spot, stepped, walked, walked_from, walked_in}
use Rattle.unix_model.specs.Process.{Process}
use Rattle.unix_model.specs.Refusals.{◌>>=◌, ◌>>◌, refuse◌when◌, refuse◌where_not◌, refuse◌unless◌}
use Rattle.unix_model.specs.Room.{has_room}
use Rattle.unix_model.specs.State.{Unix}
use Rattle.unix_model.specs.Tables.{at, option_or, with_at}
use Rattle.unix_model.proofs.TableLaws.{at-with_at, at-with_at-other}
use Rattle.unix_laws.proofs.Basics.{some-differ, some-same, true-false}
use Rattle.unix_laws.proofs.SingleCalls.{new_name_goes}
use Rattle.unix_rules.proofs.Changed.{here}
use Rattle.unix_rules.proofs.FileTurns.{none-of}
use Rattle.unix_rules.proofs.Places.{places-kinds, places-parents}
use Rattle.unix_rules.proofs.Walks.{IsWalk, new-missed, walk-is}
use Rattle.unix_rules.specs.NameLaws.{LinkThenUnlink}

-- what an outcome that is there tells
ok-step : {A B E : Type 0} (first : Result A E) (rest : A → Result B E) (y : B) → first >>= rest ≡ Ok y → (x : A) × (first ≡ Ok x) × (rest x ≡ Ok y)
ok-step (Ok x) rest y e = (x, refl, e)
ok-step (Err errno) rest y e = cc

ok-need : {A B : Type 0} (errno : Errno) (found : Option A) (rest : A → Result B Errno) (y : B) → (refuse errno unless found) >>= rest ≡ Ok y → (x : A) × (found ≡ Some x) × (rest x ≡ Ok y)
ok-need errno (Some x) rest y e = (x, refl, e)
ok-need errno None rest y e = cc

ok-ask : {B : Type 0} (errno : Errno) (test : Bool) (rest : Result B Errno) (y : B) → (refuse errno where_not test) >> rest ≡ Ok y → (test ≡ true) × (rest ≡ Ok y)
ok-ask errno true rest y e = (refl, e)
ok-ask errno false rest y e = cc

ok-bar : {B : Type 0} (errno : Errno) (test : Bool) (rest : Result B Errno) (y : B) → (refuse errno when test) >> rest ≡ Ok y → (test ≡ false) × (rest ≡ Ok y)
ok-bar errno true rest y e = cc
ok-bar errno false rest y e = (refl, e)

-- ---- a walk where a name is new

-- the same place, though something may stand there now where nothing did
record Alike (first second : Spot) : Type 0 where
  directory : first.directory ≡ second.directory
  name : first.name ≡ second.name
  inode : (first.inode ≡ second.inode) ⊎ (first.inode ≡ None)

-- files where each name has the inode that it had, or had none; directories and their parents are the same
record Newer (before after : Files) : Type 0 where
  directories : (n : ℕ) → is_directory (at after.inodes n) ≡ is_directory (at before.inodes n)
  parents : (n : ℕ) → parent_of (at after.inodes n) ≡ parent_of (at before.inodes n)
  names : (n : ℕ) (name : List ℕ) → (inode_named (places_of (at before.inodes n)) name ≡ inode_named (places_of (at after.inodes n)) name) ⊎ (inode_named (places_of (at before.inodes n)) name ≡ None)

module _ (before after : Files) (newer : Newer before after) where
  at-alike : (directory : ℕ) (name : List ℕ) → (inode_at before directory name ≡ inode_at after directory name) ⊎ (inode_at before directory name ≡ None)
  unfolding inode_at
  at-alike directory name = elim (cases_Bool (bytes_eq name (codes "."))) as (λ _. (inode_at before directory name ≡ inode_at after directory name) ⊎ (inode_at before directory name ≡ None)) [
    | inl dot ↦ inl (rw dot refl)
    | inr no_dot ↦ elim (cases_Bool (bytes_eq name (codes ".."))) as (λ _. (inode_at before directory name ≡ inode_at after directory name) ⊎ (inode_at before directory name ≡ None)) [
      | inl dots ↦ inl (rw (no_dot, dots) (ap (λ n. Some n) (sym (newer.parents directory))))
      | inr no_dots ↦ elim (newer.names directory name) as (λ _. (inode_at before directory name ≡ inode_at after directory name) ⊎ (inode_at before directory name ≡ None)) [
        | inl same ↦ inl (rw (no_dot, no_dots) same)
        | inr none ↦ inr (rw (no_dot, no_dots) none)
      ]
    ]
  ]

-- a name that was walked
record WasNamed (files : Files) (spot : Spot) (part : List ℕ) (next : Spot) : Type 0 where
  in_directory : ℕ
  held : spot.inode ≡ Some in_directory
  next_is : record { directory = in_directory; name = part; inode = inode_at files in_directory part } ≡ next

abbrev Gives : {B : Type 0} → Result B Errno → B → Type 0
Gives found y = found ≡ Ok y

same-ok : {B : Type 0} (x y : B) → Gives (Ok x) y → x ≡ y
same-ok x y e = cc

was-named : (files : Files) (spot : Spot) (part : List ℕ) (next : Spot) → named files spot part ≡ Ok next → WasNamed files spot part next
was-named files spot part next e =
    let one = ok-need {B = Spot} Enoent spot.inode (λ d. (refuse Enotdir where_not is_directory (at files.inodes d)) >> ((refuse Enametoolong when nat_lt 27 (length part)) >> Ok (record { directory = d; name = part; inode = inode_at files d part }))) next e in
    let two = ok-ask {B = Spot} Enotdir (is_directory (at files.inodes one.0)) ((refuse Enametoolong when nat_lt 27 (length part)) >> Ok (record { directory = one.0; name = part; inode = inode_at files one.0 part })) next one.2 in
    let three = ok-bar {B = Spot} Enametoolong (nat_lt 27 (length part)) (Ok (record { directory = one.0; name = part; inode = inode_at files one.0 part })) next two.1 in
    record { in_directory = one.0; held = one.1; next_is = same-ok (record { directory = one.0; name = part; inode = inode_at files one.0 part }) next three.1 }

module _ (before after : Files) (newer : Newer before after) where
  -- one name: both stand in the same directory
  alike-of : (first second next later : Spot) (part : List ℕ) → Alike first second → WasNamed before first part next → WasNamed after second part later → Alike next later
  alike-of first second next later part alike one two =
      let same : one.in_directory ≡ two.in_directory = same-directory alike.inode in
      record {
        directory = ap (λ (s : Spot). s.directory) (sym one.next_is) ∙ same ∙ ap (λ (s : Spot). s.directory) two.next_is;
        name = ap (λ (s : Spot). s.name) (sym one.next_is) ∙ ap (λ (s : Spot). s.name) two.next_is;
        inode = inodes_alike same (at-alike before after newer one.in_directory part);
      }
    where
      same-directory : (first.inode ≡ second.inode) ⊎ (first.inode ≡ None) → one.in_directory ≡ two.in_directory
      same-directory (inl same) = some-same one.in_directory two.in_directory (sym one.held ∙ same ∙ two.held)
      same-directory (inr none) = some-differ one.in_directory (sym none ∙ one.held)

      inodes_alike : one.in_directory ≡ two.in_directory → (inode_at before one.in_directory part ≡ inode_at after one.in_directory part) ⊎ (inode_at before one.in_directory part ≡ None) → (next.inode ≡ later.inode) ⊎ (next.inode ≡ None)
      inodes_alike same (inl found) = inl (ap (λ (s : Spot). s.inode) (sym one.next_is) ∙ found ∙ ap (λ n. inode_at after n part) same ∙ ap (λ (s : Spot). s.inode) two.next_is)
      inodes_alike same (inr none) = inr (ap (λ (s : Spot). s.inode) (sym one.next_is) ∙ none)

  step-alike : (first second next later : Spot) (part : List ℕ) → Alike first second → stepped before first part ≡ Ok next → stepped after second part ≡ Ok later → Alike next later
  step-alike first second next later part alike e f = elim (cases_Bool (length part == 0)) as (λ _. Alike next later) [
    | inl none ↦
        let one : first ≡ next = same-ok first next (rw none at e) in
        let two : second ≡ later = same-ok second later (rw none at f) in
        subst (λ s. Alike next s) two (subst (λ s. Alike s second) one alike)
    | inr some ↦ alike-of first second next later part alike (was-named before first part next (rw some at e)) (was-named after second part later (rw some at f))
  ]

  from-alike : (first second next later : Spot) (parts : List (List ℕ)) → Alike first second → walked_from before first parts ≡ Ok next → walked_from after second parts ≡ Ok later → Alike next later
  from-alike first second next later [] alike e f = subst (λ s. Alike next s) (same-ok second later f) (subst (λ s. Alike s second) (same-ok first next e) alike)
  from-alike first second next later (part ∷ parts) alike e f =
      let one = ok-step (stepped before first part) (λ s. walked_from before s parts) next e in
      let two = ok-step (stepped after second part) (λ s. walked_from after s parts) later f in
      from-alike one.0 two.0 next later parts (step-alike first second one.0 two.0 part alike one.1 two.1) one.2 two.2

  in-alike : (start other : ℕ) (path : List ℕ) (next later : Spot) → start ≡ other → walked_in before start path ≡ Ok next → walked_in after other path ≡ Ok later → Alike next later
  unfolding walked_in
  in-alike start other path next later same e f =
      let one = ok-step (walked_from before (start_spot start) (slice_split is_slash path)) (λ spot. (refuse Enotdir when (is_slashed path && is_no_directory before spot.inode)) >> Ok spot) next e in
      let two = ok-step (walked_from after (start_spot other) (slice_split is_slash path)) (λ spot. (refuse Enotdir when (is_slashed path && is_no_directory after spot.inode)) >> Ok spot) later f in
      let one_is : one.0 ≡ next = same-ok one.0 next (ok-bar Enotdir (is_slashed path && is_no_directory before one.0.inode) (Ok one.0) next one.2).1 in
      let two_is : two.0 ≡ later = same-ok two.0 later (ok-bar Enotdir (is_slashed path && is_no_directory after two.0.inode) (Ok two.0) later two.2).1 in
      subst (λ s. Alike next s) two_is
      (subst (λ s. Alike s two.0) one_is
      (from-alike (start_spot start) (start_spot other) one.0 two.0 (slice_split is_slash path)
      (record { directory = same; name = refl; inode = inl (ap (λ n. Some n) same) }) one.1 two.1))

  walk-alike : (path : List ℕ) (next later : Spot) → walked before path ≡ Ok next → walked after path ≡ Ok later → Alike next later
  unfolding walked
  walk-alike path next later e f =
      let one = ok-step (start_directory path) (λ start. walked_in before start path) next e in
      let two = ok-step (start_directory path) (λ start. walked_in after start path) later f in
      in-alike one.0 two.0 path next later (same-ok one.0 two.0 (sym one.1 ∙ two.1)) one.2 two.2

-- ---- an entry more

other-name : (places : List (Option Entry)) (entry : Entry) (name : List ℕ) → bytes_eq entry.name name ≡ false → inode_named (with_entry places entry) name ≡ inode_named places name
other-name [] entry name e = rw e refl
other-name (None ∷ places) entry name e = rw e refl
other-name (Some first ∷ places) entry name e = ap (option_or (place_inode name (Some first))) (other-name places entry name e)

module _ (files : Files) (d : ℕ) (name : List ℕ) (number : ℕ) (is : is_directory (at files.inodes d) ≡ true) (missed : inode_named (places_of (at files.inodes d)) name ≡ None) where
  abbrev entry : Entry
  entry = record { name = name; inode = number }

  abbrev places : List (Option Entry)
  places = places_of (at files.inodes d)

  abbrev more : Files
  more = with_name files d name number

  more-here : places_of (at more.inodes d) ≡ with_entry places entry
  more-here = ap places_of (at-with_at files.inodes d (Some (Directory (parent_of (at files.inodes d)) (with_entry places entry))))

  more-other : (n : ℕ) → n ≢ d → at more.inodes n ≡ at files.inodes n
  more-other n apart = at-with_at-other files.inodes d n (Some (Directory (parent_of (at files.inodes d)) (with_entry places entry))) apart

  more-names : (n : ℕ) (wanted : List ℕ) → (inode_named (places_of (at files.inodes n)) wanted ≡ inode_named (places_of (at more.inodes n)) wanted) ⊎ (inode_named (places_of (at files.inodes n)) wanted ≡ None)
  more-names n wanted = elim (eqb_tells n d) as (λ _. (inode_named (places_of (at files.inodes n)) wanted ≡ inode_named (places_of (at more.inodes n)) wanted) ⊎ (inode_named (places_of (at files.inodes n)) wanted ≡ None)) [
    | inr apart ↦ inl (ap (λ (found : Option Inode). inode_named (places_of found) wanted) (sym (more-other n apart.1)))
    | inl same ↦ elim (cases_Bool (bytes_eq name wanted)) as (λ _. (inode_named (places_of (at files.inodes n)) wanted ≡ inode_named (places_of (at more.inodes n)) wanted) ⊎ (inode_named (places_of (at files.inodes n)) wanted ≡ None)) [
      | inl alike ↦ inr (ap (λ k. inode_named (places_of (at files.inodes k)) wanted) same.1 ∙ ap (inode_named places) (sym ((bytes_eq-Decides name wanted).0 alike)) ∙ missed)
      | inr differs ↦
          inl (ap (λ k. inode_named (places_of (at files.inodes k)) wanted) same.1 ∙ sym (other-name places entry wanted differs) ∙ ap (λ (l : List (Option Entry)). inode_named l wanted) (sym more-here)
          ∙ ap (λ k. inode_named (places_of (at more.inodes k)) wanted) (sym same.1))
    ]
  ]

  newer-more : Newer files more
  newer-more =
      record {
        directories = (places-kinds files d (with_entry places entry) is).directory;
        parents = places-parents files d (with_entry places entry) is;
        names = more-names;
      }

  -- and without it again
  gone-names : (n : ℕ) (wanted : List ℕ) → inode_named (places_of (at (without_name more d name).inodes n)) wanted ≡ inode_named (places_of (at files.inodes n)) wanted
  gone-names n wanted = elim (eqb_tells n d) as (λ _. inode_named (places_of (at (without_name more d name).inodes n)) wanted ≡ inode_named (places_of (at files.inodes n)) wanted) [
    | inl same ↦
        ap (λ (found : Option Inode). inode_named (places_of found) wanted) (here more.inodes n d (Some (Directory (parent_of (at more.inodes d)) (with_place (places_of (at more.inodes d)) name None))) same.1)
        ∙ ap (λ (l : List (Option Entry)). inode_named (with_place l name None) wanted) more-here
        ∙ new_name_goes places entry wanted missed
        ∙ ap (λ k. inode_named (places_of (at files.inodes k)) wanted) (sym same.1)
    | inr apart ↦
        ap (λ (found : Option Inode). inode_named (places_of found) wanted)
        (at-with_at-other more.inodes d n (Some (Directory (parent_of (at more.inodes d)) (with_place (places_of (at more.inodes d)) name None))) apart.1 ∙ more-other n apart.1)
  ]

-- ---- an inode without names that is dropped

no-places : (found : Option Inode) → is_directory found ≡ false → places_of found ≡ []
no-places None e = refl
no-places (Some (File bytes)) e = refl
no-places (Some (Directory parent held)) e = absurd (true-false e)
no-places (Some (Pipe bytes)) e = refl
no-places (Some Console) e = refl

dropped-places : (files : Files) (gone n : ℕ) → is_directory (at files.inodes gone) ≡ false → places_of (at (with_inode_dropped files gone).inodes n) ≡ places_of (at files.inodes n)
dropped-places files gone n plain = elim (cases_Bool (is_kept files gone)) as (λ _. places_of (at (with_inode_dropped files gone).inodes n) ≡ places_of (at files.inodes n)) [
  | inl kept ↦ rw kept refl
  | inr unkept ↦ rw unkept (elim (eqb_tells n gone) as (λ _. places_of (at (with_at files.inodes gone None) n) ≡ places_of (at files.inodes n)) [
    | inl same ↦ ap places_of (here files.inodes n gone None same.1) ∙ sym (no-places (at files.inodes gone) plain) ∙ ap (λ k. places_of (at files.inodes k)) (sym same.1)
    | inr apart ↦ ap places_of (at-with_at-other files.inodes gone n None apart.1)
  ])
]

-- ---- the two calls

record Links (unix linked : Unix) (new : List ℕ) : Type 0 where
  to : Spot
  number : ℕ
  walk : walked unix.files new ≡ Ok to
  none : to.inode ≡ None
  files_are : linked.files ≡ with_name unix.files to.directory to.name number

record Unlinks (linked last : Unix) (new : List ℕ) : Type 0 where
  spot : Spot
  gone : ℕ
  walk : walked linked.files new ≡ Ok spot
  plain : is_directory (at linked.files.inodes gone) ≡ false
  files_are : last.files ≡ removed linked.files spot gone

same-goes : (state after : Unix) → Gives (Ok (Goes state)) (Goes after) → state ≡ after
same-goes state after e = cc

links-of : (unix linked : Unix) (slot : ℕ) (process : Process) (old new : List ℕ) → link_line unix slot process old new ≡ Ok (Goes linked) → Links unix linked new
links-of unix linked slot process old new e =
    let one = ok-step (walked unix.files old) _ (Goes linked) e in
    let two = ok-need Enoent one.0.inode _ (Goes linked) one.2 in
    let three = ok-bar Eperm (is_directory (at unix.files.inodes two.0)) _ (Goes linked) two.2 in
    let four = ok-step (walked unix.files new) _ (Goes linked) three.1 in
    let five = ok-bar Eexist (is_some four.0.inode) _ (Goes linked) four.2 in
    let six = ok-bar Enotdir (is_slashed new) _ (Goes linked) five.1 in
    let seven = ok-bar Enospc (is_full unix.files four.0.directory) _ (Goes linked) six.1 in
    let eight = ok-ask Enospc (has_room (with_link unix four.0 two.0)) _ (Goes linked) seven.1 in
    record {
      to = four.0;
      number = two.0;
      walk = four.1;
      none = none-of four.0.inode five.0;
      files_are = ap (λ (u : Unix). u.files) (sym (same-goes _ linked eight.1));
    }

unlinks-of : (linked last : Unix) (slot : ℕ) (process : Process) (new : List ℕ) → unlink_line linked slot process new ≡ Ok (Goes last) → Unlinks linked last new
unlinks-of linked last slot process new e =
    let one = ok-step (walked linked.files new) _ (Goes last) e in
    let two = ok-need Enoent one.0.inode _ (Goes last) one.2 in
    let three = ok-bar Eperm (is_directory (at linked.files.inodes two.0)) _ (Goes last) two.2 in
    record { spot = one.0; gone = two.0; walk = one.1; plain = three.0; files_are = ap (λ (u : Unix). u.files) (sym (same-goes _ last three.1)) }

pub link_then_unlink : LinkThenUnlink
link_then_unlink unix linked last slot other process second old new are e f directory name =
    let l : Links unix linked new = links-of unix linked slot process old new e in
    let u : Unlinks linked last new = unlinks-of linked last other second new f in
    let walk : IsWalk (λ byte. Unit {0}) unix.files l.to = walk-is (λ byte. Unit {0}) unix.files are.inodes are.tree new l.to (λ k d below. tt) l.walk in
    let is : is_directory (at unix.files.inodes l.to.directory) ≡ true = walk.stands.in_directory in
    let missed : inode_named (places_of (at unix.files.inodes l.to.directory)) l.to.name ≡ None = new-missed (λ byte. Unit {0}) unix.files l.to walk l.none in
    let grown : Files = with_name unix.files l.to.directory l.to.name l.number in
    let again : walked grown new ≡ Ok u.spot = ap (λ files. walked files new) (sym l.files_are) ∙ u.walk in
    let alike : Alike l.to u.spot = walk-alike unix.files grown (newer-more unix.files l.to.directory l.to.name l.number is missed) new l.to u.spot l.walk again in
    let cut : Files = without_name grown l.to.directory l.to.name in
    let last_is : last.files ≡ with_inode_dropped cut u.gone =
    u.files_are ∙ ap (λ files. removed files u.spot u.gone) l.files_are
    ∙ ap (λ d. with_inode_dropped (without_name grown d u.spot.name) u.gone) (sym alike.directory) ∙ ap (λ n. with_inode_dropped (without_name grown l.to.directory n) u.gone) (sym alike.name) in
    let grown_is : is_directory (at grown.inodes l.to.directory) ≡ true = (places-kinds unix.files l.to.directory _ is).directory l.to.directory ∙ is in
    let plain : is_directory (at cut.inodes u.gone) ≡ false =
    (places-kinds grown l.to.directory _ grown_is).directory u.gone ∙ ap (λ (files : Files). is_directory (at files.inodes u.gone)) (sym l.files_are) ∙ u.plain in
    ap (λ (files : Files). inode_named (places_of (at files.inodes directory)) name) last_is
    ∙ ap (λ (l : List (Option Entry)). inode_named l name) (dropped-places cut u.gone directory plain)
    ∙ gone-names unix.files l.to.directory l.to.name l.number is missed directory name
