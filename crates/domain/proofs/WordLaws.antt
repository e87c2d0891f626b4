-- The register node and the descriptor node of a domain, while numbers are written in them.
use Rattle.std.proofs.Common.{◌≡◌, ◌≢◌, ◌<◌, ◌≤◌, ◌+◌, ◌-◌, ◌*◌, ◌/◌, ◌%◌, ◌⊎◌, ℕ, Option, Some, None, true, false, nat_lt, List, [], ◌∷◌, length, get_or, get_or-set_same, get_or-set_other, set, refl, ap, sym, ◌∙◌, arith, ⊎_elim, if◌then◌else◌, zero, suc, replicate}
use Rattle.std.specs.Option.{is_some, ForSome}
use Rattle.std.specs.Prelude.{MatchOption}
use Rattle.std.proofs.Math.Path.{fun_ext}
use Rattle.std.proofs.lemmas.Bool.{and_parts, cases_eq, cases_lt, lt-ltb, le-ltb, ne_eqb}
use Rattle.std.proofs.lemmas.List.{get_or_push, length-append, length-set, ext_get_or}
use Rattle.std.proofs.Math.ListN.{get_or-append}
use Rattle.kn_base.specs.declared.key.Key.{Key}
use Rattle.kn_base.specs.declared.key.Key.TheVariants.{Number}
use Rattle.unix_model.specs.Tables.{at, with_at, tabulate}
use Rattle.unix_model.specs.declared.instructions.Regs.{Regs}
use Rattle.unix_model.proofs.TableLaws.{with_at-twice, with_at-same}
use Rattle.domain.specs.Keys.{is_number, is_meter, node_in, word_in, words_in}
use Rattle.domain.specs.Domains.{Domain, no_domain, full_domain, domain_by, domain_at, words_of, node_words, words_by, regs_by, description_by, lives_by}
use Rattle.domain.specs.Rules.{RowsGood, IsNamed, WordsGood, written}
use Rattle.domain.specs.Sets.{HoldsWords}
use Rattle.domain.proofs.RowLaws.{here_at, other_at, changed_at, row_case, number_no_node, root_unnamed, rows_good_same}
use Rattle.domain.proofs.FieldLaws.{root_whole}
use Rattle.domain.proofs.DomainLaws.{live_meter, words_other, same_domain, a_root, root_domain, lives_row_same, first_word, second_word, third_word}

pub no_root : (f : ℕ → Key) (a x : ℕ → ℕ) → is_meter (f 2) ≡ false → domain_by f a x ≡ no_domain
no_root f a x e = rw e refl

pub number_no_meter : (key : Key) → is_number key ≡ true → is_meter key ≡ false
number_no_meter (Number body) number = refl
number_no_meter _ number = cc

-- a node of words is no root
pub words_no_root : (rows : ℕ → ℕ → Key) (node : ℕ) → RowsGood rows → IsNamed rows node → is_meter (rows node 2) ≡ false
words_no_root rows node good is = number_no_meter (rows node 2) (good.plain is.by is.place node 2 is.named (omega arith))

-- A node that a root names holds another row, which is no root's. No other domain changes.
pub named_row : (rows : ℕ → ℕ → Key) (root node place : ℕ) (row : ℕ → Key) → RowsGood rows → is_meter (rows root 2) ≡ true → node_in (rows root place) ≡ Some node → is_meter (row 2) ≡ false
    → domain_at (with_at rows node row)
    ≡ with_at (domain_at rows) root (full_domain (rows root) (words_of (with_at rows node row) (node_in (rows root 3))) (words_of (with_at rows node row) (node_in (rows root 4))))
unfolding domain_at
named_row rows root node place row good meter named none =
    changed_at (domain_at rows) (domain_at (with_at rows node row)) root
    (full_domain (rows root) (words_of (with_at rows node row) (node_in (rows root 3))) (words_of (with_at rows node row) (node_in (rows root 4))))
    (let is : with_at rows node row root ≡ rows root = other_at rows node root row (λ e. root_unnamed rows root good meter root place (named ∙ ap Some (sym e))) in
    ap (λ (f : ℕ → Key). domain_by f (words_of (with_at rows node row) (node_in (f 3))) (words_of (with_at rows node row) (node_in (f 4)))) is
    ∙ a_root (rows root) (words_of (with_at rows node row) (node_in (rows root 3))) (words_of (with_at rows node row) (node_in (rows root 4))) meter)
    (λ q apart. ⊎_elim
    (λ (e : q ≡ node).
    let is : with_at rows node row q ≡ row = ap (with_at rows node row) e ∙ here_at rows node row in
    ap (λ (f : ℕ → Key). domain_by f (words_of (with_at rows node row) (node_in (f 3))) (words_of (with_at rows node row) (node_in (f 4)))) is
    ∙ no_root row (words_of (with_at rows node row) (node_in (row 3))) (words_of (with_at rows node row) (node_in (row 4))) none
    ∙ sym (no_root (rows q) (words_of rows (node_in (rows q 3))) (words_of rows (node_in (rows q 4)))
    (ap (λ k. is_meter (rows k 2)) e ∙ number_no_meter (rows node 2) (good.plain root place node 2 named (omega arith)))))
    (λ (d : q ≢ node).
    let is : with_at rows node row q ≡ rows q = other_at rows node q row d in
    ap (λ (f : ℕ → Key). domain_by f (words_of (with_at rows node row) (node_in (f 3))) (words_of (with_at rows node row) (node_in (f 4)))) is
    ∙ same_domain (rows q) (rows q) (words_of (with_at rows node row) (node_in (rows q 3))) (words_of rows (node_in (rows q 3)))
    (words_of (with_at rows node row) (node_in (rows q 4))) (words_of rows (node_in (rows q 4))) refl
    (words_other rows node row (node_in (rows q 3)) (λ m e same. apart (good.single q 3 root place m e (named ∙ ap Some (sym same))).0))
    (words_other rows node row (node_in (rows q 4)) (λ m e same. apart (good.single q 4 root place m e (named ∙ ap Some (sym same))).0)))
    (cases_eq q node))

words_here : (rows : ℕ → ℕ → Key) (node : ℕ) (row : ℕ → Key) (named : Option ℕ) → named ≡ Some node → words_of (with_at rows node row) named ≡ node_words row
words_here rows node row named e = ap (words_of (with_at rows node row)) e ∙ ap node_words (here_at rows node row)

-- the register node holds other words
pub regs_row_set : (rows : ℕ → ℕ → Key) (root node : ℕ) (row : ℕ → Key) (words : ℕ → ℕ) → RowsGood rows → is_meter (rows root 2) ≡ true → node_in (rows root 3) ≡ Some node
    → is_meter (row 2) ≡ false → node_words row ≡ words
    → domain_at (with_at rows node row) ≡ with_at (domain_at rows) root (record (at (domain_at rows) root) { regs = words })
unfolding full_domain
regs_row_set rows root node row words good meter named none is =
    named_row rows root node 3 row good meter named none
    ∙ ap (with_at (domain_at rows) root)
    (ap (λ w. full_domain (rows root) w (words_of (with_at rows node row) (node_in (rows root 4)))) (words_here rows node row (node_in (rows root 3)) named ∙ is)
    ∙ ap (full_domain (rows root) words) (words_other rows node row (node_in (rows root 4)) (λ m e same.
    let no : 4 ≡ 3 = (good.single root 4 root 3 m e (named ∙ ap Some (sym same))).1 in absurd (omega arith)))
    ∙ ap (λ (d : Domain). let e : Domain = record d { regs = words } in e) (sym (root_domain rows root meter)))

-- the descriptor node holds other words
pub descriptors_row_set : (rows : ℕ → ℕ → Key) (root node : ℕ) (row : ℕ → Key) (descriptors : ℕ → Option ℕ) → RowsGood rows → is_meter (rows root 2) ≡ true → node_in (rows root 4) ≡ Some node
    → is_meter (row 2) ≡ false → (λ n. description_by (node_words row n)) ≡ descriptors
    → domain_at (with_at rows node row) ≡ with_at (domain_at rows) root (record (at (domain_at rows) root) { descriptors = descriptors })
unfolding full_domain
descriptors_row_set rows root node row descriptors good meter named none is =
    named_row rows root node 4 row good meter named none
    ∙ ap (with_at (domain_at rows) root)
    (ap (λ w. full_domain (rows root) w (words_of (with_at rows node row) (node_in (rows root 4)))) (words_other rows node row (node_in (rows root 3)) (λ m e same.
    let no : 3 ≡ 4 = (good.single root 3 root 4 m e (named ∙ ap Some (sym same))).1 in absurd (omega arith)))
    ∙ ap (full_domain (rows root) (words_of rows (node_in (rows root 3)))) (words_here rows node row (node_in (rows root 4)) named)
    ∙ ap (λ f. let e : Domain = record (full_domain (rows root) (words_of rows (node_in (rows root 3))) (words_of rows (node_in (rows root 4)))) { descriptors = f } in e) is
    ∙ ap (λ (d : Domain). let e : Domain = record d { descriptors = descriptors } in e) (sym (root_domain rows root meter)))

-- a number in place of a number of a node of words
pub row_names : (rows : ℕ → ℕ → Key) (node place : ℕ) (key : Key) → RowsGood rows → IsNamed rows node → place < 11 → is_number key ≡ true → (i : ℕ) → node_in (with_at (rows node) place key i) ≡ node_in (rows node i)
row_names rows node place key good is below number i = row_case (rows node) place key (λ k. node_in k ≡ node_in (rows node i)) i
    (λ e. number_no_node key number ∙ sym (ap (λ j. node_in (rows node j)) e ∙ number_no_node (rows node place) (good.plain is.by is.place node place is.named below)))
    (λ d. refl)

-- each key names the node that it named
pub names_kept : (rows : ℕ → ℕ → Key) (node place : ℕ) (key : Key) → RowsGood rows → IsNamed rows node → place < 11 → is_number key ≡ true
    → (a i : ℕ) → node_in (written rows node place key a i) ≡ node_in (rows a i)
unfolding at
names_kept rows node place key good is below number a i = row_case rows node (with_at (rows node) place key) (λ (r : ℕ → Key). node_in (r i) ≡ node_in (rows a i)) a
    (λ e. row_names rows node place key good is below number i ∙ ap (λ k. node_in (rows k i)) (sym e))
    (λ d. refl)

pub words_good : (rows : ℕ → ℕ → Key) (node place : ℕ) (key : Key) → RowsGood rows → IsNamed rows node → place < 11 → is_number key ≡ true → WordsGood rows node (with_at (rows node) place key)
    → RowsGood (written rows node place key)
unfolding at
words_good rows node place key good is below number words =
    rows_good_same rows node (with_at (rows node) place key) good
    (row_names rows node place key good is below number)
    (λ a i j h low. row_case (rows node) place key (λ k. is_number k ≡ true) j (λ e. number) (λ d. good.plain a i node j h low))
    (λ a i j h above. other_at (rows node) place j key (λ e. absurd (omega arith)) ∙ good.blank a i node j h above)
    words
    (λ meter. let no : false ≡ true = sym (words_still rows node place key good is number) ∙ meter in cc)
    (λ meter. let no : false ≡ true = sym (words_still rows node place key good is number) ∙ meter in cc)
  where
    words_still : (rows : ℕ → ℕ → Key) (node place : ℕ) (key : Key) → RowsGood rows → IsNamed rows node → is_number key ≡ true → is_meter (with_at (rows node) place key 2) ≡ false
    words_still rows node place key good is number = row_case (rows node) place key (λ k. is_meter k ≡ false) 2 (λ e. number_no_meter key number) (λ d. words_no_root rows node good is)

pub words_keep_no_root : (rows : ℕ → ℕ → Key) (node place : ℕ) (key : Key) → RowsGood rows → IsNamed rows node → is_number key ≡ true → is_meter (with_at (rows node) place key 2) ≡ false
words_keep_no_root rows node place key good is number = row_case (rows node) place key (λ k. is_meter k ≡ false) 2 (λ e. number_no_meter key number) (λ d. words_no_root rows node good is)

-- lives, while a node of words changes
pub words_lives : (rows fixed : ℕ → ℕ → Key) (node : ℕ) (row : ℕ → Key) → is_meter (rows node 2) ≡ false → is_meter (row 2) ≡ false → lives_by (with_at rows node row) fixed ≡ lives_by rows fixed
words_lives rows fixed node row was now = lives_row_same rows fixed node row (now ∙ sym was) (λ meter. let no : false ≡ true = sym was ∙ meter in cc)

-- none of the words is written yet, ..
pub holds_none : (rows : ℕ → ℕ → Key) (node : ℕ) (words : ℕ → ℕ) → RowsGood rows → IsNamed rows node → HoldsWords rows rows node words 0
unfolding at
holds_none rows node words good is = record {
  now = rows node;
  is = sym (with_at-same rows node (rows node) refl);
  names = λ place. refl;
  numbers = λ place below. good.plain is.by is.place node place is.named below;
  holds = λ n none. absurd (omega arith);
}

one_of_three : (key : Key) (words : ℕ → ℕ) (base r : ℕ) → r < 3 → words_in key ≡ words base ∷ words (base + 1) ∷ words (base + 2) ∷ [] → word_in key r ≡ words (base + r)
one_of_three key words base r low e = ⊎_elim
    (λ (t : r ≡ 0). ap (word_in key) t ∙ first_word key (words base) (words (base + 1)) (words (base + 2)) e ∙ ap words (let n : base ≡ base + r = omega arith in n))
    (λ (d : r ≢ 0). ⊎_elim
    (λ (t : r ≡ 1). ap (word_in key) t ∙ second_word key (words base) (words (base + 1)) (words (base + 2)) e ∙ ap words (let n : base + 1 ≡ base + r = omega arith in n))
    (λ (f : r ≢ 1). ap (word_in key) (let n : r ≡ 2 = omega arith in n) ∙ third_word key (words base) (words (base + 1)) (words (base + 2)) e ∙ ap words (let n : base + 2 ≡ base + r = omega arith in n))
    (cases_eq r 1))
    (cases_eq r 0)

-- .. and three more are
pub holds_more : (rows mid new : ℕ → ℕ → Key) (node count : ℕ) (words : ℕ → ℕ) (key : Key) → RowsGood rows → IsNamed rows node → count < 11 → HoldsWords rows mid node words count
    → is_number key ≡ true → words_in key ≡ words (3 * count) ∷ words (3 * count + 1) ∷ words (3 * count + 2) ∷ [] → new ≡ written mid node count key → HoldsWords rows new node words (count + 1)
unfolding at
holds_more rows mid new node count words key good is below so_far number three e = record {
  now = with_at so_far.now count key;
  is = e ∙ ap (λ r. with_at r node (with_at (r node) count key)) so_far.is
      ∙ ap (λ (r : ℕ → Key). with_at (with_at rows node so_far.now) node (with_at r count key)) (here_at rows node so_far.now)
      ∙ with_at-twice rows node so_far.now (with_at so_far.now count key);
  names = λ place. row_case so_far.now count key (λ k. node_in k ≡ node_in (rows node place)) place
      (λ f. number_no_node key number ∙ sym (ap (λ j. node_in (rows node j)) f ∙ number_no_node (rows node count) (good.plain is.by is.place node count is.named below)))
      (λ d. so_far.names place);
  numbers = λ place low. row_case so_far.now count key (λ k. is_number k ≡ true) place (λ f. number) (λ d. so_far.numbers place low);
  holds = λ n less. row_case so_far.now count key (λ k. word_in k (n % 3) ≡ words n) (n / 3)
      (λ f. one_of_three key words (3 * count) (n % 3) (let low : n % 3 < 3 = omega arith in low) three ∙ ap words (let same : 3 * count + n % 3 ≡ n = omega arith in same))
      (λ d. so_far.holds n (let low : n < 3 * count = omega arith in low));
}

-- the words of a node are these, once all are written
pub all_words : (rows new : ℕ → ℕ → Key) (node : ℕ) (words : ℕ → ℕ) (holds : HoldsWords rows new node words 11) → ((n : ℕ) → 33 ≤ n → words n ≡ 0) → node_words holds.now ≡ words
unfolding node_words
all_words rows new node words holds past = fun_ext (λ n. ⊎_elim
    (λ (t : n < 33). rw (lt-ltb n 33 t) (holds.holds n (let low : n < 3 * 11 = omega arith in low)))
    (λ (t : 33 ≤ n). rw (le-ltb n 33 t) (sym (past n t)))
    (cases_lt n 33))

pub no_register : (regs : Regs) (n : ℕ) → 33 ≤ n → words_by regs n ≡ 0
unfolding words_by
no_register regs n past = rw (le-ltb n 33 past) refl

-- a word of a node, in the number that holds it
pub word_of : (row : ℕ → Key) (n : ℕ) → n < 33 → node_words row n ≡ word_in (row (n / 3)) (n % 3)
unfolding node_words
word_of row n low = rw (lt-ltb n 33 low) refl

-- the descriptors of a node in which one word is another
one_word : (key : Key) (words : List ℕ) (r : ℕ) → r < 3 → words_in key ≡ words → word_in key r ≡ get_or words r 0
one_word key words r low e = ⊎_elim
    (λ (t : r ≡ 0). ap (word_in key) t ∙ ap (λ w. get_or w 0 0) e ∙ ap (λ m. get_or words m 0) (sym t))
    (λ (d : r ≢ 0). ⊎_elim
    (λ (t : r ≡ 1). ap (word_in key) t ∙ ap (λ w. get_or w 1 0) e ∙ ap (λ m. get_or words m 0) (sym t))
    (λ (f : r ≢ 1). let two : r ≡ 2 = omega arith in ap (word_in key) two ∙ ap (λ w. get_or w 2 0) e ∙ ap (λ m. get_or words m 0) (sym two))
    (cases_eq r 1))
    (cases_eq r 0)

pub word_kept : (row : ℕ → Key) (number word : ℕ) (key : Key) → words_in key ≡ set (words_in (row (number / 3))) (number % 3) word
    → (q : ℕ) → q ≢ number → node_words (with_at row (number / 3) key) q ≡ node_words row q
unfolding node_words
word_kept row number word key words q apart = ap (λ w. if nat_lt q 33 then w else 0)
    (row_case row (number / 3) key (λ k. word_in k (q % 3) ≡ word_in (row (q / 3)) (q % 3)) (q / 3)
    (λ e.
    let low : q % 3 < 3 = omega arith in
    let other : q % 3 ≢ number % 3 = omega arith in
    one_word key (set (words_in (row (number / 3))) (number % 3) word) (q % 3) low words
    ∙ get_or-set_other (words_in (row (number / 3))) (number % 3) (q % 3) word 0 other
    ∙ sym (one_word (row (number / 3)) (words_in (row (number / 3))) (q % 3) low refl)
    ∙ ap (λ m. word_in (row m) (q % 3)) (sym e))
    (λ d. refl))

-- the word that was written
pub word_now : (row : ℕ → Key) (number word : ℕ) (key : Key) → number < 32 → words_in key ≡ set (words_in (row (number / 3))) (number % 3) word
    → node_words (with_at row (number / 3) key) number ≡ word
word_now row number word key low words =
    word_of (with_at row (number / 3) key) number (omega arith)
    ∙ ap (λ k. word_in k (number % 3)) (here_at row (number / 3) key)
    ∙ one_word key (set (words_in (row (number / 3))) (number % 3) word) (number % 3) (let l : number % 3 < 3 = omega arith in l) words
    ∙ get_or-set_same (words_in (row (number / 3))) (number % 3) word 0 (let l : number % 3 < 3 = omega arith in l)

pub descriptor_changed : (row : ℕ → Key) (number word : ℕ) (key : Key) (description : Option ℕ) → number < 32
    → words_in key ≡ set (words_in (row (number / 3))) (number % 3) word → description_by word ≡ description
    → (λ n. description_by (node_words (with_at row (number / 3) key) n)) ≡ with_at (λ n. description_by (node_words row n)) number description
descriptor_changed row number word key description low words is =
    changed_at (λ n. description_by (node_words row n)) (λ n. description_by (node_words (with_at row (number / 3) key) n)) number description
    (ap description_by (word_now row number word key low words) ∙ is)
    (λ q apart. ap description_by (word_kept row number word key words q apart))

-- registers that are read three at a time
pub set_three : (x : List ℕ) (words : ℕ → ℕ) (place a b c : ℕ) → 3 * place + 2 < length x → ((k : ℕ) → k < 3 * place → get_or x k 0 ≡ words k)
    → a ≡ words (3 * place) → b ≡ words (3 * place + 1) → c ≡ words (3 * place + 2)
    → (k : ℕ) → k < 3 * (place + 1) → get_or (set (set (set x (3 * place) a) (3 * place + 1) b) (3 * place + 2) c) k 0 ≡ words k
set_three x words place a b c inside before first second third k below =
    let one = length-set x (3 * place) a in
    let two = length-set (set x (3 * place) a) (3 * place + 1) b in
    ⊎_elim
    (λ (e : k ≡ 3 * place + 2). ap (λ m. get_or (set (set (set x (3 * place) a) (3 * place + 1) b) (3 * place + 2) c) m 0) e
    ∙ get_or-set_same (set (set x (3 * place) a) (3 * place + 1) b) (3 * place + 2) c 0 (omega arith) ∙ third ∙ ap words (sym e))
    (λ (d : k ≢ 3 * place + 2). get_or-set_other (set (set x (3 * place) a) (3 * place + 1) b) (3 * place + 2) k c 0 d ∙ ⊎_elim
    (λ (e : k ≡ 3 * place + 1). ap (λ m. get_or (set (set x (3 * place) a) (3 * place + 1) b) m 0) e
    ∙ get_or-set_same (set x (3 * place) a) (3 * place + 1) b 0 (omega arith) ∙ second ∙ ap words (sym e))
    (λ (f : k ≢ 3 * place + 1). get_or-set_other (set x (3 * place) a) (3 * place + 1) k b 0 f ∙ ⊎_elim
    (λ (e : k ≡ 3 * place). ap (λ m. get_or (set x (3 * place) a) m 0) e ∙ get_or-set_same x (3 * place) a 0 (omega arith) ∙ first ∙ ap words (sym e))
    (λ (g : k ≢ 3 * place). get_or-set_other x (3 * place) k a 0 g ∙ before k (omega arith))
    (cases_eq k (3 * place)))
    (cases_eq k (3 * place + 1)))
    (cases_eq k (3 * place + 2))

length-tabulate : (f : ℕ → ℕ) (n : ℕ) → length (tabulate f n) ≡ n
unfolding tabulate
length-tabulate f zero = refl
length-tabulate f (suc n) = length-append (tabulate f n) (f n ∷ []) ∙ ap (λ m. m + 1) (length-tabulate f n) ∙ (let e : n + 1 ≡ suc n = omega arith in e)

get_or-tabulate : (f : ℕ → ℕ) (n k : ℕ) → k < n → get_or (tabulate f n) k 0 ≡ f k
unfolding tabulate
get_or-tabulate f zero k none = absurd (omega arith)
get_or-tabulate f (suc n) k below = ⊎_elim
    (λ (t : k < n). get_or-append (tabulate f n) (f n ∷ []) 0 k (let e = length-tabulate f n in omega arith) ∙ get_or-tabulate f n k t)
    (λ (t : n ≤ k). let same : k ≡ n = omega arith in get_or_push (tabulate f n) (f n) 0 k (length-tabulate f n ∙ sym same) ∙ ap f (sym same))
    (cases_lt k n)

pub listed : (xs : List ℕ) (f : ℕ → ℕ) (n : ℕ) → length xs ≡ n → ((k : ℕ) → k < n → get_or xs k 0 ≡ f k) → xs ≡ tabulate f n
listed xs f n size reads = ext_get_or 0 xs (tabulate f n) (size ∙ sym (length-tabulate f n))
    (λ k inside. reads k (let e = size in omega arith) ∙ sym (get_or-tabulate f n k (let e = size in omega arith)))

pub two_last : (x : List ℕ) (f : ℕ → ℕ) (next last : ℕ) → length x ≡ 32 → ((k : ℕ) → k < 30 → get_or x k 0 ≡ f k) → next ≡ f 30 → last ≡ f 31 → set (set x 30 next) 31 last ≡ tabulate f 32
two_last x f next last size before a b =
    let one = length-set x 30 next in
    let two = length-set (set x 30 next) 31 last in
    listed (set (set x 30 next) 31 last) f 32 (omega arith) (λ k below. ⊎_elim
    (λ (e : k ≡ 31). ap (λ m. get_or (set (set x 30 next) 31 last) m 0) e ∙ get_or-set_same (set x 30 next) 31 last 0 (omega arith) ∙ b ∙ ap f (sym e))
    (λ (d : k ≢ 31). get_or-set_other (set x 30 next) 31 k last 0 d ∙ ⊎_elim
    (λ (e : k ≡ 30). ap (λ m. get_or (set x 30 next) m 0) e ∙ get_or-set_same x 30 next 0 (omega arith) ∙ a ∙ ap f (sym e))
    (λ (g : k ≢ 30). get_or-set_other x 30 k next 0 g ∙ before k (omega arith))
    (cases_eq k 30))
    (cases_eq k 31))

-- without a register node all registers are zero
pub no_registers : tabulate (λ n. 0) 32 ≡ replicate 32 0
unfolding tabulate
no_registers = refl

-- what stands in the two nodes of a root
pub root_regs : (rows : ℕ → ℕ → Key) (root : ℕ) (named : Option ℕ) → (at (domain_at rows) root).live ≡ true → node_in (rows root 3) ≡ named → (at (domain_at rows) root).regs ≡ words_of rows named
unfolding full_domain
root_regs rows root named live is = ap (λ (d : Domain). d.regs) (root_domain rows root (live_meter rows root live)) ∙ ap (words_of rows) is

pub root_descriptors : (rows : ℕ → ℕ → Key) (root : ℕ) (named : Option ℕ) → (at (domain_at rows) root).live ≡ true → node_in (rows root 4) ≡ named
    → (at (domain_at rows) root).descriptors ≡ (λ n. description_by (words_of rows named n))
unfolding full_domain
root_descriptors rows root named live is =
    ap (λ (d : Domain). d.descriptors) (root_domain rows root (live_meter rows root live)) ∙ ap (λ o. λ n. description_by (words_of rows o n)) is

pub whole_named : (rows : ℕ → ℕ → Key) (root place : ℕ) → (at (domain_at rows) root).live ≡ true → (at (domain_at rows) root).whole ≡ true → (place ≡ 3) ⊎ (place ≡ 4) → node_in (rows root place) ≡ None → ⊥
whole_named rows root place live whole which none =
    let both = sym (root_whole rows root live) ∙ whole in
    ⊎_elim
    (λ (e : place ≡ 3).
    let no : false ≡ true = ap is_some (sym (ap (λ p. node_in (rows root p)) (sym e) ∙ none)) ∙ (and_parts (is_some (node_in (rows root 3))) (is_some (node_in (rows root 4))) both).0 in cc)
    (λ (e : place ≡ 4).
    let no : false ≡ true = ap is_some (sym (ap (λ p. node_in (rows root p)) (sym e) ∙ none)) ∙ (and_parts (is_some (node_in (rows root 3))) (is_some (node_in (rows root 4))) both).1 in cc)
    which

-- registers are set
pub regs_set : (rows new : ℕ → ℕ → Key) (root node : ℕ) (words : ℕ → ℕ) → RowsGood rows → (at (domain_at rows) root).live ≡ true → node_in (rows root 3) ≡ Some node
    → HoldsWords rows new node words 11 → ((n : ℕ) → 33 ≤ n → words n ≡ 0)
    → domain_at new ≡ with_at (domain_at rows) root (record (at (domain_at rows) root) { regs = words })
regs_set rows new root node words good live named holds past =
    ap domain_at holds.is
    ∙ regs_row_set rows root node holds.now words good (live_meter rows root live) named (number_no_meter (holds.now 2) (holds.numbers 2 (omega arith))) (all_words rows new node words holds past)

pub regs_lives : (rows new fixed : ℕ → ℕ → Key) (node : ℕ) (words : ℕ → ℕ) → RowsGood rows → IsNamed rows node → HoldsWords rows new node words 11 → lives_by new fixed ≡ lives_by rows fixed
regs_lives rows new fixed node words good is holds =
    ap (λ r. lives_by r fixed) holds.is
    ∙ words_lives rows fixed node holds.now (words_no_root rows node good is) (number_no_meter (holds.now 2) (holds.numbers 2 (omega arith)))

-- a descriptor is set
pub description_again : (description : Option ℕ) (word : ℕ) → MatchOption description (word ≡ 0) (λ n. word ≡ n + 1) → ForSome description (λ n. n < 2048) → description_by word ≡ description
description_again None word e low = ap description_by e
description_again (Some n) word e low = ap description_by e ∙ back n (low n refl)
  where
    back : (n : ℕ) → n < 2048 → description_by (n + 1) ≡ Some n
    back n low = rw (ne_eqb (n + 1) 0 (λ e. absurd (omega arith))) (ap Some (let e : n + 1 - 1 ≡ n = omega arith in e))

pub word_few : (description : Option ℕ) (word : ℕ) → MatchOption description (word ≡ 0) (λ n. word ≡ n + 1) → ForSome description (λ n. n < 2048) → word ≤ 2048
word_few None word e low = omega arith
word_few (Some n) word e low = let few = low n refl in omega arith

-- a key in which one of the words that were read was set
pub word_set : (key : Key) (read there : List ℕ) (n word : ℕ) → words_in key ≡ set read n word → read ≡ there → words_in key ≡ set there n word
word_set key read there n word is told = is ∙ ap (λ (words : List ℕ). set words n word) told

pub descriptor_set : (rows : ℕ → ℕ → Key) (root node number word : ℕ) (key : Key) (description : Option ℕ) → RowsGood rows → (at (domain_at rows) root).live ≡ true → node_in (rows root 4) ≡ Some node
    → number < 32 → is_number key ≡ true → words_in key ≡ set (words_in (rows node (number / 3))) (number % 3) word → description_by word ≡ description
    → domain_at (written rows node (number / 3) key)
    ≡ with_at (domain_at rows) root (record (at (domain_at rows) root) { descriptors = with_at (at (domain_at rows) root).descriptors number description })
unfolding at
descriptor_set rows root node number word key description good live named low number_key words is =
    descriptors_row_set rows root node (with_at (rows node) (number / 3) key) (with_at (at (domain_at rows) root).descriptors number description) good (live_meter rows root live) named
    (words_keep_no_root rows node (number / 3) key good (record { by = root; place = 4; named = named }) number_key)
    (descriptor_changed (rows node) number word key description low words is
    ∙ ap (λ f. with_at f number description) (sym (root_descriptors rows root (Some node) live named)))

pub put_lives : (rows fixed : ℕ → ℕ → Key) (node place : ℕ) (key : Key) → RowsGood rows → IsNamed rows node → is_number key ≡ true → lives_by (written rows node place key) fixed ≡ lives_by rows fixed
unfolding at
put_lives rows fixed node place key good is number =
    words_lives rows fixed node (with_at (rows node) place key) (words_no_root rows node good is) (words_keep_no_root rows node place key good is number)

at_is : {X : Type 0} (f : ℕ → X) (n : ℕ) → at f n ≡ f n
unfolding at
at_is f n = refl

pub root_descriptor : (rows : ℕ → ℕ → Key) (root : ℕ) (named : Option ℕ) (number : ℕ) → (at (domain_at rows) root).live ≡ true → node_in (rows root 4) ≡ named
    → at (at (domain_at rows) root).descriptors number ≡ description_by (words_of rows named number)
root_descriptor rows root named number live is = ap (λ (f : ℕ → Option ℕ). at f number) (root_descriptors rows root named live is) ∙ at_is (λ n. description_by (words_of rows named n)) number

pub zero_registers : (let r : Regs = record { x = replicate 32 0; pc = 0 } in r) ≡ regs_by (λ n. 0)
zero_registers = ap (λ (l : List ℕ). let r : Regs = record { x = l; pc = 0 } in r) (sym no_registers)

-- the three words at a place
pub three_words : (row : ℕ → Key) (words : List ℕ) (place r : ℕ) → r < 3 → place < 11 → words ≡ words_in (row place) → get_or words r 0 ≡ node_words row (3 * place + r)
three_words row words place r low below e =
    ap (λ (w : List ℕ). get_or w r 0) e ∙ sym (one_word (row place) (words_in (row place)) r low refl)
    ∙ ap (λ p. word_in (row p) r) (let d : place ≡ (3 * place + r) / 3 = omega arith in d)
    ∙ ap (word_in (row ((3 * place + r) / 3))) (let m : r ≡ (3 * place + r) % 3 = omega arith in m)
    ∙ sym (word_of row (3 * place + r) (omega arith))

-- three registers more were read of a node, ..
module _ (row : ℕ → Key) (x new read : List ℕ) (place : ℕ) (now : new ≡ set (set (set x (3 * place) (get_or read 0 0)) (3 * place + 1) (get_or read 1 0)) (3 * place + 2) (get_or read 2 0)) where
  pub three_long : length new ≡ length x
  three_long =
      ap length now ∙ length-set (set (set x (3 * place) (get_or read 0 0)) (3 * place + 1) (get_or read 1 0)) (3 * place + 2) (get_or read 2 0)
      ∙ length-set (set x (3 * place) (get_or read 0 0)) (3 * place + 1) (get_or read 1 0) ∙ length-set x (3 * place) (get_or read 0 0)

  pub three_read : place < 10 → length x ≡ 32 → read ≡ words_in (row place) → ((k : ℕ) → k < 3 * place → get_or x k 0 ≡ node_words row k) → (k : ℕ) → k < 3 * (place + 1) → get_or new k 0 ≡ node_words row k
  three_read low size told before k below =
      ap (λ (l : List ℕ). get_or l k 0) now
      ∙ set_three x (node_words row) place (get_or read 0 0) (get_or read 1 0) (get_or read 2 0) (omega arith) before
      (three_words row read place 0 (omega arith) (omega arith) told ∙ ap (node_words row) (let e : 3 * place + 0 ≡ 3 * place = omega arith in e))
      (three_words row read place 1 (omega arith) (omega arith) told) (three_words row read place 2 (omega arith) (omega arith) told) k below

-- .. and the last two, and pc
pub regs_told : (row : ℕ → Key) (x read : List ℕ) → length x ≡ 32 → read ≡ words_in (row 10) → ((k : ℕ) → k < 30 → get_or x k 0 ≡ node_words row k)
    → record { x = set (set x 30 (get_or read 0 0)) 31 (get_or read 1 0); pc = get_or read 2 0 } ≡ regs_by (node_words row)
regs_told row x read size told before =
    ap (λ (p : ℕ). let r : Regs = record { x = set (set x 30 (get_or read 0 0)) 31 (get_or read 1 0); pc = p } in r) (three_words row read 10 2 (omega arith) (omega arith) told)
    ∙ ap (λ (l : List ℕ). let r : Regs = record { x = l; pc = node_words row 32 } in r)
    (two_last x (node_words row) (get_or read 0 0) (get_or read 1 0) size before (three_words row read 10 0 (omega arith) (omega arith) told) (three_words row read 10 1 (omega arith) (omega arith) told))
