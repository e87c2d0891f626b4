use Rattle.std.proofs.Common.{◌≡◌, ◌+◌, ◌-◌, ◌<◌, ◌||◌, true, drop, get_or, length}
use Rattle.std.specs.List.{list_all, list_any, slice_split}
use Rattle.unix_model.specs.Paths.{is_slash}
use Rattle.bundle.specs.Paths as model
use Rattle.bundle.proofs.paths.form_of.Given as goal

abbrev pub invariant-names : goal.invariant-names
invariant-names l = record {
  inside : l.last_slash < length l.path;
  here : is_slash (get_or l.path l.last_slash 0) ≡ true;
  names : list_all model.is_name (slice_split is_slash (drop 1 l.path)) ≡ list_all model.is_name (slice_split is_slash (drop (l.last_slash + 1) l.path));
  long : model.is_long l.path ≡ l.is_long || list_any model.is_long_name (slice_split is_slash (drop (l.last_slash + 1) l.path));
}

abbrev pub decreases-names : goal.decreases-names
decreases-names l = length l.path - l.last_slash
