-- What is in hand, in which order, and what is handed out.
use Rattle.std.proofs.Common.{◌≡◌, ℕ, ◌+◌, ◌-◌, ◌<◌, ◌≤◌, Some, List, ◌∷◌, refl, ap, sym, ◌∙◌, arith}
use Rattle.kn_base.specs.declared.key.Key.{Key}
use Rattle.kernel_tables.specs.Kernel.{Kernel, first_page}
use Rattle.kernel_tables.specs.Rows.{entry_at}
use Rattle.space_bank.specs.Shares.{Shares, Outside, key_names_page, key_names_node, page_places, node_places, page_in_hand, node_in_hand, page_names, node_names}
use Rattle.space_bank.specs.Laws.{PageInHandIsUnnamed, NodeInHandIsUnnamed, NothingInHand, HandSwapped, HandedOut, and_outside}
use Rattle.space_bank.proofs.ShareLaws.{agree-same, agree-among, shared_once, in_hand-cons, nothing-page, nothing-node, page-named_in_hand, page-other_in_hand, node-named_in_hand, node-other_in_hand}

pub page-in_hand_unnamed : PageInHandIsUnnamed
page-in_hand_unnamed kernel outside hand key page inside once named counted =
    let n = page - first_page kernel.size in
    let low = inside.low in
    let high = inside.high in
    let number : first_page kernel.size + n ≡ page = omega arith in
    let one = shared_once (entry_at kernel.page_entries n) once in
    let agreed = counted.of_pages.agree n (omega arith) (omega arith) in
    let e : 1 ≡ page_names kernel.keys outside (key ∷ hand) page =
    sym one ∙ agreed ∙ ap (page_names kernel.keys outside (key ∷ hand)) number
    in
    let more = page-named_in_hand kernel.keys outside hand page key named in
    omega arith

pub node-in_hand_unnamed : NodeInHandIsUnnamed
node-in_hand_unnamed kernel outside hand key node low high once named counted =
    let zero_add : 0 + node ≡ node = omega arith in
    let one = shared_once (entry_at kernel.node_entries node) once in
    let agreed = counted.of_nodes.agree node low high in
    let e : 1 ≡ node_names kernel.keys outside (key ∷ hand) node =
    sym one ∙ agreed ∙ ap (node_names kernel.keys outside (key ∷ hand)) zero_add
    in
    let more = node-named_in_hand kernel.keys outside hand node key named in
    omega arith

-- all is named as often with another hand and something else outside
shares-same : (kernel : Kernel) (outside other : Outside) (hand held : List Key) → ((id : ℕ) → page_names kernel.keys other held id ≡ page_names kernel.keys outside hand id) → ((id : ℕ) → node_names kernel.keys other held id ≡ node_names kernel.keys outside hand id) → Shares kernel outside hand → Shares kernel other held
shares-same kernel outside other hand held pages nodes counted = record {
  of_pages =
      agree-same kernel.page_entries (first_page kernel.size) 0 kernel.size (page_names kernel.keys outside hand)
      (page_names kernel.keys other held) pages counted.of_pages;
  of_nodes =
      agree-same kernel.node_entries 0 15 kernel.nodes (node_names kernel.keys outside hand)
      (node_names kernel.keys other held) nodes counted.of_nodes;
}

-- all that is counted is named as often with another hand
shares-among : (kernel : Kernel) (outside : Outside) (hand held : List Key) → ((id : ℕ) → 0 < id → page_names kernel.keys outside held id ≡ page_names kernel.keys outside hand id) → ((id : ℕ) → 15 ≤ id → node_names kernel.keys outside held id ≡ node_names kernel.keys outside hand id) → Shares kernel outside hand → Shares kernel outside held
unfolding first_page
shares-among kernel outside hand held pages nodes counted = record {
  of_pages =
      agree-among kernel.page_entries (first_page kernel.size) 0 kernel.size (page_names kernel.keys outside hand)
      (page_names kernel.keys outside held) (λ id some. pages id (omega arith)) counted.of_pages;
  of_nodes =
      agree-among kernel.node_entries 0 15 kernel.nodes (node_names kernel.keys outside hand)
      (node_names kernel.keys outside held) (λ id past. nodes id (omega arith)) counted.of_nodes;
}

pub nothing-in_hand : NothingInHand
nothing-in_hand kernel outside hand key nothing =
    let pages = λ (id : ℕ) (real : 0 < id). page-other_in_hand kernel.keys outside hand id key (nothing-page id real (Some key) nothing) in
    let nodes = λ (id : ℕ) (real : 15 ≤ id). node-other_in_hand kernel.keys outside hand id key (nothing-node id real (Some key) nothing) in (
      shares-among kernel outside (key ∷ hand) hand (λ id real. sym (pages id real)) (λ id real. sym (nodes id real)),
      shares-among kernel outside hand (key ∷ hand) pages nodes,
    )

-- what a key counts for before another one
page-swapped : (hand : List Key) (first second : Key) (id : ℕ) → page_in_hand (second ∷ first ∷ hand) id ≡ page_in_hand (first ∷ second ∷ hand) id
unfolding page_in_hand
page-swapped hand first second id =
    let a = in_hand-cons (key_names_page id) second (first ∷ hand) (key_names_page id second) refl in
    let b = in_hand-cons (key_names_page id) first hand (key_names_page id first) refl in
    let c = in_hand-cons (key_names_page id) first (second ∷ hand) (key_names_page id first) refl in
    let d = in_hand-cons (key_names_page id) second hand (key_names_page id second) refl in
    omega arith

node-swapped : (hand : List Key) (first second : Key) (id : ℕ) → node_in_hand (second ∷ first ∷ hand) id ≡ node_in_hand (first ∷ second ∷ hand) id
unfolding node_in_hand
node-swapped hand first second id =
    let a = in_hand-cons (key_names_node id) second (first ∷ hand) (key_names_node id second) refl in
    let b = in_hand-cons (key_names_node id) first hand (key_names_node id first) refl in
    let c = in_hand-cons (key_names_node id) first (second ∷ hand) (key_names_node id first) refl in
    let d = in_hand-cons (key_names_node id) second hand (key_names_node id second) refl in
    omega arith

pub hand-swapped : HandSwapped
hand-swapped kernel outside hand first second =
    shares-same kernel outside outside (first ∷ second ∷ hand) (second ∷ first ∷ hand)
    (λ id. ap (λ n. page_places kernel.keys id + outside.pages id + n) (page-swapped hand first second id))
    (λ id. ap (λ n. node_places kernel.keys id + outside.nodes id + n) (node-swapped hand first second id))

-- a key outside counts as in hand
page-out : (kernel : Kernel) (outside : Outside) (hand : List Key) (key : Key) (id : ℕ) → page_names kernel.keys (and_outside outside key) hand id ≡ page_names kernel.keys outside (key ∷ hand) id
unfolding page_in_hand
page-out kernel outside hand key id =
    let e = in_hand-cons (key_names_page id) key hand (key_names_page id key) refl in omega arith

node-out : (kernel : Kernel) (outside : Outside) (hand : List Key) (key : Key) (id : ℕ) → node_names kernel.keys (and_outside outside key) hand id ≡ node_names kernel.keys outside (key ∷ hand) id
unfolding node_in_hand
node-out kernel outside hand key id =
    let e = in_hand-cons (key_names_node id) key hand (key_names_node id key) refl in omega arith

pub handed-out : HandedOut
handed-out kernel outside hand key = (
  shares-same kernel outside (and_outside outside key) (key ∷ hand) hand (page-out kernel outside hand key) (node-out kernel outside hand key),
  shares-same kernel (and_outside outside key) outside hand (key ∷ hand) (λ id. sym (page-out kernel outside hand key id))
      (λ id. sym (node-out kernel outside hand key id)),
)
