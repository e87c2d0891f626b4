-- A name that moves keeps the rules of files.
use Rattle.std.proofs.Common.{◌≡◌, ◌≢◌, ◌⊎◌, ℕ, zero, suc, ◌<◌, ◌≤◌, Bool, true, false, List, [], ◌∷◌, Option, Some, None, refl, sym, subst, ap, ◌∙◌, inl, inr, get_or, length}
use Rattle.std.proofs.lemmas.Bool.{cases_Bool}
use Rattle.std.proofs.lemmas.Bool.Decides.{eqb_tells}
use Rattle.std.proofs.lemmas.Slice.Eq.{bytes_eq-Decides}
use Rattle.std.specs.Prelude.{IsSome, is_some, ◌&&◌, bytes_eq}
use Rattle.unix_model.specs.Files.{Console, Description, Directory, Entry, File, Files, Inode, Pipe, has_names, inode_named, is_directory, is_full, is_within, parent_of, places_of, root_inode, with_entry, with_inode_dropped, with_name, with_name_moved, with_place, with_places, without_name}
use Rattle.unix_model.specs.Limits.{inode_count, most_places}
use Rattle.unix_model.specs.NameCalls.{moved, with_parent}
use Rattle.unix_model.specs.Paths.{Spot}
use Rattle.unix_model.specs.Rules.{AreInodes, AreNames, IsName, entry_at, is_named_kind}
use Rattle.unix_model.specs.Tables.{at, with_at}
use Rattle.unix_model.proofs.TableLaws.{at-with_at, at-with_at-other}
use Rattle.unix_laws.proofs.Basics.{some-differ, some-same, true-false}
use Rattle.unix_laws.proofs.FewParents.{never-within}
use Rattle.unix_rules.proofs.Changed.{here}
use Rattle.unix_rules.proofs.Entries.{FoundName, IsEmpty, below-count, directory-some, entry-directory, found-name, missed-name, no-names}
use Rattle.unix_rules.proofs.Living.{IsLiving, IsOpened, Ruled, RuledAll, descriptions-same, dropped-ruled}
use Rattle.unix_rules.proofs.Moved.{Moves, still-has, tree-moves}
use Rattle.unix_rules.proofs.NameSteps.{directory-put, length-below, parent-below, places-put}
use Rattle.unix_rules.proofs.Places.{Comes, SetsPlace, Turns, came-length, entry-comes, entry-turns, names-same, names-set, places-kinds, places-parents, places-some, set-places, turned-length}
use Rattle.unix_rules.proofs.Trees.{IsPlace, SameKinds, SameParents, SetsEntry, at-place}
use Rattle.unix_rules.specs.FileRules.{IsTied}

-- a name that is there is found
abbrev IsFoundAs : List (Option Entry) → List ℕ → Type 0
IsFoundAs places name = (number : ℕ) × (inode_named places name ≡ Some number)

found-later : (first : Entry) (places : List (Option Entry)) (place : ℕ) (entry : Entry) → bytes_eq first.name entry.name ≡ false → get_or (Some first ∷ places) place None ≡ Some entry
    → ((k : ℕ) → get_or places k None ≡ Some entry → IsFoundAs places entry.name) → IsFoundAs (Some first ∷ places) entry.name
found-later first places zero entry apart f rest = absurd (true-false (sym ((bytes_eq-Decides first.name entry.name).1 (ap (λ (x : Entry). x.name) (some-same first entry f))) ∙ apart))
found-later first places (suc place) entry apart f rest = let later : IsFoundAs places entry.name = rest place f in (later.0, rw apart later.1)

found-some : (places : List (Option Entry)) (place : ℕ) (entry : Entry) → get_or places place None ≡ Some entry → IsFoundAs places entry.name
found-some [] place entry e = some-differ entry e
found-some (None ∷ places) zero entry e = some-differ entry e
found-some (None ∷ places) (suc place) entry e = found-some places place entry e
found-some (Some first ∷ places) place entry e = elim (cases_Bool (bytes_eq first.name entry.name)) as (λ _. IsFoundAs (Some first ∷ places) entry.name) [
  | inl same ↦ (first.inode, rw same refl)
  | inr apart ↦ found-later first places place entry apart e (λ k f. found-some places k entry f)
]

-- ---- a directory gets its new parent

module _ (files : Files) (number parent : ℕ) where
  abbrev Parented : Option Inode → Files
  Parented found = with_parent files number parent found

  parent-descriptions : (found : Option Inode) → (Parented found).descriptions ≡ files.descriptions
  parent-descriptions None = refl
  parent-descriptions (Some (File bytes)) = refl
  parent-descriptions (Some (Directory old places)) = refl
  parent-descriptions (Some (Pipe bytes)) = refl
  parent-descriptions (Some Console) = refl

  -- what doesn't look at a parent reads the same
  parent-reads : {X : Type 0} (read : Option Inode → X) (found : Option Inode) → at files.inodes number ≡ found
      → ((old : ℕ) (places : List (Option Entry)) → read (Some (Directory parent places)) ≡ read (Some (Directory old places))) → (n : ℕ) → read (at (Parented found).inodes n) ≡ read (at files.inodes n)
  parent-reads read None there same n = refl
  parent-reads read (Some (File bytes)) there same n = refl
  parent-reads read (Some (Directory old places)) there same n = elim (eqb_tells n number) as (λ _. read (at (with_at files.inodes number (Some (Directory parent places))) n) ≡ read (at files.inodes n)) [
    | inl alike ↦ ap read (here files.inodes n number (Some (Directory parent places)) alike.1) ∙ same old places ∙ ap read (sym there ∙ ap (at files.inodes) (sym alike.1))
    | inr apart ↦ ap read (at-with_at-other files.inodes number n (Some (Directory parent places)) apart.1)
  ]
  parent-reads read (Some (Pipe bytes)) there same n = refl
  parent-reads read (Some Console) there same n = refl

  parent-others : (found : Option Inode) (n : ℕ) → n ≢ number → at (Parented found).inodes n ≡ at files.inodes n
  parent-others None n apart = refl
  parent-others (Some (File bytes)) n apart = refl
  parent-others (Some (Directory old places)) n apart = at-with_at-other files.inodes number n (Some (Directory parent places)) apart
  parent-others (Some (Pipe bytes)) n apart = refl
  parent-others (Some Console) n apart = refl

  parent-set : (found : Option Inode) → is_directory found ≡ true → parent_of (at (Parented found).inodes number) ≡ parent
  parent-set None e = absurd (true-false (sym e))
  parent-set (Some (File bytes)) e = absurd (true-false (sym e))
  parent-set (Some (Directory old places)) e = ap parent_of (at-with_at files.inodes number (Some (Directory parent places)))
  parent-set (Some (Pipe bytes)) e = absurd (true-false (sym e))
  parent-set (Some Console) e = absurd (true-false (sym e))

  parent-plain : (found : Option Inode) → is_directory found ≡ false → (Parented found).inodes ≡ files.inodes
  parent-plain None e = refl
  parent-plain (Some (File bytes)) e = refl
  parent-plain (Some (Directory old places)) e = absurd (true-false e)
  parent-plain (Some (Pipe bytes)) e = refl
  parent-plain (Some Console) e = refl

  parent-inodes : (found : Option Inode) → at files.inodes number ≡ found → AreInodes files.inodes → parent < inode_count → number ≢ root_inode → AreInodes (Parented found).inodes
  parent-inodes None there are below apart = are
  parent-inodes (Some (File bytes)) there are below apart = are
  parent-inodes (Some (Directory old places)) there are below apart =
      directory-put files.inodes number parent places are (ap is_directory there) below
      (subst (λ (l : List (Option Entry)). length l ≤ most_places) (ap places_of there) (length-below files.inodes are number)) (λ same. absurd (apart same))
  parent-inodes (Some (Pipe bytes)) there are below apart = are
  parent-inodes (Some Console) there are below apart = are

-- ---- the name moves

-- what stands at the new name: nothing, or what is replaced
pub record IsReplaced (files : Files) (to : Spot) (place named : ℕ) : Type 0 where
  pub apart : (entry : Entry) → entry_at files.inodes to.directory place ≡ Some entry → entry.inode ≢ named
  pub empty : (entry : Entry) → entry_at files.inodes to.directory place ≡ Some entry → IsEmpty files.inodes entry.inode
  pub others : (k : ℕ) (other : Entry) → k ≢ place → entry_at files.inodes to.directory k ≡ Some other → other.name ≢ to.name

module _ (files : Files) (from to : Spot) (named place : ℕ) (places : List (Option Entry)) (all : RuledAll files)
    (from_found : inode_named (places_of (at files.inodes from.directory)) from.name ≡ Some named)
    (in_directory : is_directory (at files.inodes to.directory) ≡ true) (tied : IsTied files.inodes to.directory) (good : IsName to.name)
    (sets : SetsPlace (places_of (at files.inodes to.directory)) places place (Some (record { name = to.name; inode = named }))) (few : length places ≤ most_places)
    (replaced : IsReplaced files to place named)
    (apart : (is_directory (at files.inodes named) && is_within files.inodes named inode_count to.directory) ≡ false) where
  abbrev dt : ℕ
  dt = to.directory

  abbrev df : ℕ
  df = from.directory

  abbrev to_entry : Entry
  to_entry = record { name = to.name; inode = named }

  source : FoundName (places_of (at files.inodes df)) from.name named
  source = found-name (places_of (at files.inodes df)) from.name named from_found

  abbrev pf : ℕ
  pf = source.place

  abbrev from_entry : Entry
  from_entry = source.entry

  from-there : entry_at files.inodes df pf ≡ Some from_entry
  from-there = source.there

  from-directory : is_directory (at files.inodes df) ≡ true
  from-directory = entry-directory (at files.inodes df) pf from_entry from-there

  -- the two places differ
  places-apart : IsPlace df pf dt place → ⊥
  places-apart both = replaced.apart from_entry (sym (at-place files.inodes df pf dt place both) ∙ from-there) source.names

  -- with the new name
  abbrev given : Files
  given = with_places files dt places

  given-sets : SetsEntry files.inodes given.inodes dt place (Some to_entry)
  given-sets = set-places files dt places place (Some to_entry) sets

  given-kinds : SameKinds files.inodes given.inodes
  given-kinds = places-kinds files dt places in_directory

  given-some : (k : ℕ) → is_some (at given.inodes k) ≡ is_some (at files.inodes k)
  given-some = places-some files dt places in_directory

  given-parents : SameParents files.inodes given.inodes
  given-parents = places-parents files dt places in_directory

  given-names : AreNames given.inodes
  given-names =
      names-set files.inodes given.inodes dt place (Some to_entry) given-sets (λ entry e. subst (λ (x : Entry). IsName x.name) (some-same to_entry entry e) good)
      (λ entry e k other differs there same. replaced.others k other differs there (same ∙ ap (λ (x : Entry). x.name) (sym (some-same to_entry entry e)))) all.ruled.names

  -- without the old one
  still-there : entry_at given.inodes df pf ≡ Some from_entry
  still-there = given-sets.others df pf places-apart ∙ from-there

  abbrev given_places : List (Option Entry)
  given_places = places_of (at given.inodes df)

  again : (number : ℕ) × (inode_named given_places from_entry.name ≡ Some number)
  again = found-some given_places pf from_entry still-there

  turns : Turns given_places from.name None again.0
  turns = entry-turns given_places from.name None again.0 (ap (inode_named given_places) (sym source.name_is) ∙ again.1)

  same-place : turns.place ≡ pf
  same-place = given-names.differ df turns.place pf turns.entry from_entry turns.was still-there (turns.name_is ∙ sym source.name_is)

  given-from : is_directory (at given.inodes df) ≡ true
  given-from = given-kinds.directory df ∙ from-directory

  abbrev gone : Files
  gone = without_name given df from.name

  gone-sets : SetsEntry given.inodes gone.inodes df pf None
  gone-sets = subst (λ k. SetsEntry given.inodes gone.inodes df k None) same-place (set-places given df (with_place given_places from.name None) turns.place None turns.sets)

  gone-kinds : SameKinds given.inodes gone.inodes
  gone-kinds = places-kinds given df (with_place given_places from.name None) given-from

  gone-some : (k : ℕ) → is_some (at gone.inodes k) ≡ is_some (at given.inodes k)
  gone-some = places-some given df (with_place given_places from.name None) given-from

  gone-parents : SameParents given.inodes gone.inodes
  gone-parents = places-parents given df (with_place given_places from.name None) given-from

  -- with the new parent
  abbrev last : Files
  last = moved given from to named

  last-entries : (directory k : ℕ) → entry_at last.inodes directory k ≡ entry_at gone.inodes directory k
  last-entries directory k = parent-reads gone named dt (λ found. get_or (places_of found) k None) (at gone.inodes named) refl (λ old held. refl) directory

  last-kinds : SameKinds gone.inodes last.inodes
  last-kinds =
      record {
        directory = parent-reads gone named dt is_directory (at gone.inodes named) refl (λ old held. refl);
        kind = parent-reads gone named dt is_named_kind (at gone.inodes named) refl (λ old held. refl);
      }

  last-some : (k : ℕ) → is_some (at last.inodes k) ≡ is_some (at gone.inodes k)
  last-some = parent-reads gone named dt is_some (at gone.inodes named) refl (λ old held. refl)

  all-kinds : SameKinds files.inodes last.inodes
  all-kinds =
      record {
        directory = λ k. last-kinds.directory k ∙ gone-kinds.directory k ∙ given-kinds.directory k;
        kind = λ k. last-kinds.kind k ∙ gone-kinds.kind k ∙ given-kinds.kind k;
      }

  all-some : (k : ℕ) → is_some (at last.inodes k) ≡ is_some (at files.inodes k)
  all-some k = last-some k ∙ gone-some k ∙ given-some k

  gone-directory : is_directory (at gone.inodes named) ≡ is_directory (at files.inodes named)
  gone-directory = gone-kinds.directory named ∙ given-kinds.directory named

  named-not_root : named ≢ root_inode
  named-not_root same = all.ruled.tree.root_has_none df pf from_entry from-there (source.names ∙ same)

  and-second : (first second : Bool) → (first && second) ≡ false → first ≡ true → second ≡ false
  and-second true second e f = e
  and-second false second e f = absurd (true-false (sym f))

  moves : Moves files.inodes last.inodes dt place df pf to_entry from_entry
  moves =
      record {
        set = last-entries dt place ∙ gone-sets.others dt place (λ both. places-apart (sym both.0, sym both.1)) ∙ given-sets.set;
        gone = last-entries df pf ∙ gone-sets.set;
        others = λ directory k not_to not_from. last-entries directory k ∙ gone-sets.others directory k not_from ∙ given-sets.others directory k not_to;
        same_inode = sym source.names;
        from_there = from-there;
        replaced_apart = λ entry e same. replaced.apart entry e (same ∙ source.names);
        replaced_empty = replaced.empty;
        kinds = all-kinds;
        parents = λ k other.
            ap parent_of (parent-others gone named dt (at gone.inodes named) k (λ same. other (same ∙ sym source.names))) ∙ gone-parents k ∙ given-parents k;
        parent_is = λ is.
            ap (λ k. parent_of (at last.inodes k)) source.names
            ∙ parent-set gone named dt (at gone.inodes named) (gone-directory ∙ ap (λ k. is_directory (at files.inodes k)) (sym source.names) ∙ is);
        plain_parent = λ plain.
            ap (λ (table : ℕ → Option Inode). parent_of (at table from_entry.inode)) (parent-plain gone named dt (at gone.inodes named) (gone-directory ∙ ap (λ k. is_directory (at files.inodes k)) (sym source.names) ∙ plain))
            ∙ gone-parents from_entry.inode ∙ given-parents from_entry.inode;
        directory_is = in_directory;
        tied = tied;
        beyond = λ is steps.
            subst (λ k. is_within files.inodes k steps dt ≡ false) (sym source.names)
            (never-within files.inodes named (parent-below files.inodes all.ruled.inodes) dt (below-count files.inodes dt all.ruled.inodes.end (directory-some (at files.inodes dt) in_directory))
            (and-second (is_directory (at files.inodes named)) (is_within files.inodes named inode_count dt) apart (ap (λ k. is_directory (at files.inodes k)) (sym source.names) ∙ is)) steps);
      }

  gone-few : length (with_place given_places from.name None) ≤ most_places
  gone-few = subst (λ k. k ≤ most_places) (sym (turned-length given_places from.name None)) (length-below given.inodes given-inodes df)
    where
      given-inodes : AreInodes given.inodes
      given-inodes = places-put files dt places all.ruled.inodes in_directory few

  last-inodes : AreInodes last.inodes
  last-inodes =
      parent-inodes gone named dt (at gone.inodes named) refl
      (places-put given df (with_place given_places from.name None) (places-put files dt places all.ruled.inodes in_directory few) given-from gone-few)
      (below-count files.inodes dt all.ruled.inodes.end (directory-some (at files.inodes dt) in_directory)) named-not_root

  last-names : AreNames last.inodes
  last-names = names-same gone.inodes last.inodes last-entries (names-set given.inodes gone.inodes df pf None gone-sets (λ entry e. some-differ entry e) (λ entry e. some-differ entry e) given-names)

  last-descriptions : files.descriptions ≡ last.descriptions
  last-descriptions = sym (parent-descriptions gone named dt (at gone.inodes named))

  pub moved-ruled : Ruled last
  moved-ruled =
      record {
        inodes = last-inodes;
        names = last-names;
        tree = tree-moves files.inodes last.inodes dt place df pf to_entry from_entry all.ruled.inodes.end all.ruled.tree moves;
        descriptions = descriptions-same files last last-descriptions all-some all-kinds all.ruled.descriptions;
      }

  -- an inode lives on, unless it was replaced
  pub moved-lives : (inode : ℕ) → IsSome (at last.inodes inode) → IsLiving last inode ⊎ ((entry : Entry) × (entry_at files.inodes dt place ≡ Some entry) × (entry.inode ≡ inode))
  moved-lives inode some = by_life (all.live inode (sym (all-some inode) ∙ some))
    where
      by_life : IsLiving files inode → IsLiving last inode ⊎ ((entry : Entry) × (entry_at files.inodes dt place ≡ Some entry) × (entry.inode ≡ inode))
      by_life (inl two) = inl (inl two)
      by_life (inr (inl has)) = elim (still-has files.inodes last.inodes dt place df pf to_entry from_entry all.ruled.inodes.end all.ruled.tree moves inode has) as (λ _. IsLiving last inode ⊎ ((entry : Entry) × (entry_at files.inodes dt place ≡ Some entry) × (entry.inode ≡ inode))) [
        | inl still ↦ inl (inr (inl still))
        | inr old ↦ inr old
      ]
      by_life (inr (inr opened)) = inl (inr (inr (subst (λ (d : ℕ → Option Description). IsOpened d inode) last-descriptions opened)))

-- ---- to a name that isn't there yet, and onto one

module _ (files : Files) (from to : Spot) (named : ℕ) (all : RuledAll files)
    (from_found : inode_named (places_of (at files.inodes from.directory)) from.name ≡ Some named)
    (in_directory : is_directory (at files.inodes to.directory) ≡ true) (tied : IsTied files.inodes to.directory) (good : IsName to.name)
    (apart : (is_directory (at files.inodes named) && is_within files.inodes named inode_count to.directory) ≡ false) where
  abbrev target : List (Option Entry)
  target = places_of (at files.inodes to.directory)

  abbrev the_entry : Entry
  the_entry = record { name = to.name; inode = named }

  module _ (missed : inode_named target to.name ≡ None) (fits : is_full files to.directory ≡ false) where
    comes : Comes target the_entry
    comes = entry-comes target the_entry

    none-replaced : IsReplaced files to comes.place named
    none-replaced =
        record {
          apart = λ entry e. some-differ entry (sym comes.was ∙ e);
          empty = λ entry e. some-differ entry (sym comes.was ∙ e);
          others = λ k other differs there. missed-name target to.name missed k other there;
        }

    few-anew : length (with_entry target the_entry) ≤ most_places
    unfolding most_places
    few-anew = came-length files to.directory the_entry fits (length-below files.inodes all.ruled.inodes to.directory)

    pub anew-ruled : RuledAll (moved (with_name files to.directory to.name named) from to named)
    anew-ruled =
        record {
          ruled = moved-ruled files from to named comes.place (with_entry target the_entry) all from_found in_directory tied good comes.sets few-anew none-replaced apart;
          live = λ inode some. lives inode (moved-lives files from to named comes.place (with_entry target the_entry) all from_found in_directory tied good comes.sets few-anew none-replaced apart inode some);
        }
      where
        lives : (inode : ℕ) → IsLiving (moved (with_name files to.directory to.name named) from to named) inode ⊎ ((entry : Entry) × (entry_at files.inodes to.directory comes.place ≡ Some entry) × (entry.inode ≡ inode))
            → IsLiving (moved (with_name files to.directory to.name named) from to named) inode
        lives inode (inl living) = living
        lives inode (inr old) = some-differ old.0 (sym comes.was ∙ old.1)

  module _ (other : ℕ) (to_found : inode_named target to.name ≡ Some other) (differs : other ≢ named) (no_names : has_names (at files.inodes other) ≡ false) where
    over : Turns target to.name (Some the_entry) other
    over = entry-turns target to.name (Some the_entry) other to_found

    the-one : (entry : Entry) → entry_at files.inodes to.directory over.place ≡ Some entry → entry.inode ≡ other
    the-one entry e = ap (λ (x : Entry). x.inode) (some-same entry over.entry (sym e ∙ over.was)) ∙ over.names

    one-replaced : IsReplaced files to over.place named
    one-replaced =
        record {
          apart = λ entry e same. differs (sym (the-one entry e) ∙ same);
          empty = λ entry e. subst (IsEmpty files.inodes) (sym (the-one entry e)) (no-names files.inodes other no_names);
          others = λ k second elsewhere there same. elsewhere (all.ruled.names.differ to.directory k over.place second over.entry there over.was (same ∙ sym over.name_is));
        }

    few-onto : length (with_place target to.name (Some the_entry)) ≤ most_places
    few-onto = subst (λ k. k ≤ most_places) (sym (turned-length target to.name (Some the_entry))) (length-below files.inodes all.ruled.inodes to.directory)

    abbrev onto : Files
    onto = moved (with_name_moved files to.directory to.name named) from to named

    pub onto-ruled : RuledAll (with_inode_dropped onto other)
    onto-ruled =
        dropped-ruled onto other (moved-ruled files from to named over.place (with_place target to.name (Some the_entry)) all from_found in_directory tied good over.sets few-onto one-replaced apart)
        (λ inode elsewhere some.
        lives inode elsewhere (moved-lives files from to named over.place (with_place target to.name (Some the_entry)) all from_found in_directory tied good over.sets few-onto one-replaced apart inode some))
      where
        lives : (inode : ℕ) → inode ≢ other → IsLiving onto inode ⊎ ((entry : Entry) × (entry_at files.inodes to.directory over.place ≡ Some entry) × (entry.inode ≡ inode)) → IsLiving onto inode
        lives inode elsewhere (inl living) = living
        lives inode elsewhere (inr old) = absurd (elsewhere (sym old.2 ∙ the-one old.0 old.1))
