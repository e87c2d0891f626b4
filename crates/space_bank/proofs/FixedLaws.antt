-- What the calls of the bank leave of the fixed nodes.
use Rattle.std.proofs.Common.{◌≡◌, ℕ, ◌+◌, ◌*◌, ◌<◌, ◌≤◌, Option, None, List, length, get_or, set, sym, subst, ◌∙◌, arith}
use Rattle.std.proofs.lemmas.List.{get_or-set_other}
use Rattle.kn_base.specs.declared.key.Key.{Key}
use Rattle.kn_base.specs.Rows.{overwritten}
use Rattle.kn_base.proofs.RowLaws.{get_or-overwritten_below}
use Rattle.space_bank.specs.Fixed.{IsServiceRoot, IsRoomKey, IsSlotKey, FixedNodes, FreshNodes}

-- keys that are the same in nodes 0 to 14
abbrev pub SameFixed : List (Option Key) → List (Option Key) → Type 0
SameFixed keys new = (place : ℕ) → place < 240 → get_or new place None ≡ get_or keys place None

service_root-same : (keys new : List (Option Key)) (service state calls : ℕ) → service < 15 → SameFixed keys new → IsServiceRoot keys service state calls → IsServiceRoot new service state calls
service_root-same keys new service state calls below same root = record {
  own_key = same (16 * service + 0) (omega arith) ∙ root.own_key;
  life = same (16 * service + 6) (omega arith) ∙ root.life;
  few = root.few;
  others = λ place low first seventh. same (16 * service + place) (omega arith) ∙ root.others place low first seventh;
}

fixed_nodes-same : (keys new : List (Option Key)) → SameFixed keys new → FixedNodes keys → FixedNodes new
fixed_nodes-same keys new same good = record {
  null_node = λ place low. same (16 * 0 + place) (omega arith) ∙ good.null_node place low;
  services =
      λ service least most.
      let root = good.services service least most in
      (root.0, service_root-same keys new service 0 root.0 (omega arith) same root.1);
  room = λ slot low. subst IsRoomKey (sym (same (16 * 7 + slot) (omega arith))) (good.room slot low);
  slots = λ slot low. subst IsSlotKey (sym (same (16 * 11 + slot) (omega arith))) (good.slots slot low);
}

-- keys of another node are written
pub fixed_nodes-set : (keys : List (Option Key)) (place : ℕ) (key : Option Key) → 240 ≤ place → FixedNodes keys → FixedNodes (set keys place key)
fixed_nodes-set keys place key high =
    fixed_nodes-same keys (set keys place key) (λ k low. get_or-set_other keys place k key None (λ e. absurd (omega arith)))

pub fixed_nodes-overwritten : (keys : List (Option Key)) (place : ℕ) (part : List (Option Key)) → place + length part ≤ length keys → 240 ≤ place → FixedNodes keys → FixedNodes (overwritten keys place part)
fixed_nodes-overwritten keys place part inside high =
    fixed_nodes-same keys (overwritten keys place part) (λ k low. get_or-overwritten_below keys place part k None inside (omega arith))

-- nodes that hold what they hold before there is a process
pub fresh-fixed : (keys : List (Option Key)) → FreshNodes keys → FixedNodes keys
fresh-fixed keys fresh = record {
  null_node = fresh.null_node;
  services = λ service least most. (0, fresh.services service least most);
  room = λ slot low. subst IsRoomKey (sym (fresh.room slot low)) tt;
  slots = λ slot low. subst IsSlotKey (sym (fresh.slots slot low)) tt;
}
