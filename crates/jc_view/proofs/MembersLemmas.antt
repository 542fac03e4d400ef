-- About Visible and Parts: the members of a map, written one after another; what is shown at a key; the line.
use Rattle.std.proofs.Common.{◌≡◌, ℕ, suc, ◌<◌, ◌≤◌, List, [], ◌∷◌, ◌++◌, Bool, true, false, cond, Option, Some, None, is_some, length, take, get_or, Bor, Contains, append_assoc, refl, sym, ◌∙◌, ap, subst, codes, arith}
use Rattle.std.specs.List.{AllByRecursion}
use Rattle.json.specs.Json.{Json, Members, no_members, member, object}
use Rattle.json.specs.Print.{print}
use Rattle.json.specs.Token.{Token}
use Rattle.json.specs.Token as T
use Rattle.json.specs.Tree.{json_tokens, members_tokens}
use Rattle.json.specs.Written.{Written}
use Rattle.std.proofs.lemmas.List.{append-nil, take_all, length-map}
use Rattle.jc_rules.specs.declared.id.Id.{Id}
use Rattle.jc_rules.specs.declared.key.Key.{Key}
use Rattle.jc_rules.specs.declared.key.Key.TheVariants as K
use Rattle.jc_rules.specs.Order.{key_cmp}
use Rattle.jc_rules.specs.Entries.{IsRising, keys_of, find}
use Rattle.jc_rules.specs.declared.key.Tagged.{Tagged}
use Rattle.jc_rules.specs.declared.key.Tagged.TheVariants.{MapT, ListT}
use Rattle.jc_rules.specs.ContextsAt.{or_empty}
use Rattle.jc_rules.specs.Context.{Context, context, keys, presences, links, registers, content, Register}
use Rattle.jc_rules.specs.WellFormed.{IsWellFormedContext}
use Rattle.jc_tree.specs.declared.store.Hint.{Hint}
use Rattle.jc_tree.specs.Tree.{Tree, HasPlace, here, all_keys, keys_lent}
use Rattle.jc_tree.specs.Walks.{entry_of, entries_at}
use Rattle.jc_tree.proofs.WalksEntriesLemmas.{all-left, all-right, all_entries, entries_at-more}
use Rattle.jc_tree.proofs.WellFormedLemmas.{presences_rise}
use Rattle.jc_meaning.proofs.ComparedContextsLemmas.{StandsBelow, stands_below}
use Rattle.jc_view.specs.declared.document.Branch.{Branch}
use Rattle.jc_view.specs.declared.document.Branch.TheVariants as B
use Rattle.jc_view.specs.declared.document.Form.{Form}
use Rattle.jc_view.specs.declared.document.Form.TheVariants as F
use Rattle.jc_view.specs.Visible.{GoesThrough, present, marked, members_at, elements_after, or_no_value, with_part, with_values, parts_json, one_of, map_json, list_json, document, line_json}
use Rattle.jc_json.specs.Gains.{Gains}
use Rattle.jc_view.specs.Parts.{parts_shown_at, node_json, child_json, shows_at, tag_of, form_of, members_front, member_shown, items_front, part_tokens, values_tokens, first_tokens, if_so}
use Rattle.jc_view.proofs.PresentLemmas.{present_by, place_is}
use Rattle.jc_view.proofs.ElementsLemmas.{items_tokens_are}
use Rattle.jc_json.proofs.GainsLemmas.{gains_then}
use Rattle.jc_cursor.proofs.MapNamesLemmas.{one_lent_more}

pub members_tokens_are : (show : Key → Json) (p : List (Key × List Id)) → members_tokens (members_at show p) ≡ members_front show p ++ T.end_object ∷ []
members_tokens_are show [] = refl
members_tokens_are show ((K.Name s, ids) ∷ p) =
    ap (λ x. T.key (marked s) ∷ x) (ap (λ x. json_tokens (show (K.Name s)) ++ x) (members_tokens_are show p) ∙ sym (append_assoc (json_tokens (show (K.Name s))) (members_front show p) (T.end_object ∷ [])))
members_tokens_are show ((K.Doc, ids) ∷ p) = members_tokens_are show p
members_tokens_are show ((K.Head, ids) ∷ p) = members_tokens_are show p
members_tokens_are show ((K.Elem i, ids) ∷ p) = members_tokens_are show p

pub front-append : (show : Key → Json) (p q : List (Key × List Id)) → members_front show (p ++ q) ≡ members_front show p ++ members_front show q
front-append show [] q = refl
front-append show ((K.Name s, ids) ∷ p) q =
    ap (λ x. T.key (marked s) ∷ x) (ap (λ x. json_tokens (show (K.Name s)) ++ x) (front-append show p q) ∙ sym (append_assoc (json_tokens (show (K.Name s))) (members_front show p) (members_front show q)))
front-append show ((K.Doc, ids) ∷ p) q = front-append show p q
front-append show ((K.Head, ids) ∷ p) q = front-append show p q
front-append show ((K.Elem i, ids) ∷ p) q = front-append show p q

present-append : (p q : List (Key × List Id)) → present (p ++ q) ≡ present p ++ present q
present-append [] q = refl
present-append ((k, []) ∷ p) q = present-append p q
present-append ((k, i ∷ is) ∷ p) q = ap (λ r. (k, i ∷ is) ∷ r) (present-append p q)

-- the members at the first so many of the keys
abbrev pub members_among : (Key → Json) → List (Bor Key × Hint) → ℕ → Context → List Token
members_among show lent n c = members_front show (present (entries_at (take n (keys_lent lent)) (presences c)))

pub one_member_more : (show : Key → Json) (lent : List (Bor Key × Hint)) (n : ℕ) (x : Bor Key × Hint) (c : Context) (a b d : Written) → n < length lent → x ≡ get_or lent n x → Gains a b (members_among show lent n c) → Gains b d (member_shown show x.0.now c) → Gains a d (members_among show lent (suc n) c)
one_member_more show lent n x c a b d h is before more =
    let ks = take n (keys_lent lent) in
    let one = entry_of x.0.now (find key_cmp x.0.now (presences c)) in
    let all : members_among show lent (suc n) c ≡ members_among show lent n c ++ member_shown show x.0.now c =
    ap (λ js. members_front show (present (entries_at js (presences c)))) (one_lent_more lent n x h is)
    ∙ ap (λ p. members_front show (present p)) (entries_at-more ks x.0.now (presences c))
    ∙ ap (members_front show) (present-append (entries_at ks (presences c)) one)
    ∙ front-append show (present (entries_at ks (presences c))) (present one) in
    subst (Gains a d) (sym all) (gains_then a b d (members_among show lent n c) (member_shown show x.0.now c) before more)

-- at all keys these are all members
pub all_members : (show : Key → Json) (lent : List (Bor Key × Hint)) (n : ℕ) (c : Context) → length lent ≤ n → IsWellFormedContext c → IsRising key_cmp (keys_lent lent) → AllByRecursion (Contains (keys_lent lent)) (all_keys c) → members_among show lent n c ≡ members_front show (present (presences c))
all_members show lent n c h kept r all =
    let whole : take n (keys_lent lent) ≡ keys_lent lent = take_all n (keys_lent lent) (omega (arith, h, length-map lent (λ (l : Bor Key × Hint). l.0.now))) in
    let those = all-right (Contains (keys_lent lent)) (keys c) (keys_of (presences c)) (all-left (Contains (keys_lent lent)) (keys c ++ keys_of (presences c)) (keys_of (links c)) all) in
    ap (λ ks. members_front show (present (entries_at ks (presences c)))) whole ∙ ap (λ p. members_front show (present p)) (all_entries (keys_lent lent) (presences c) r (presences_rise c kept) those)

-- a member, if its key is a name that is present
pub member_by : (show : Key → Json) (s : List ℕ) (c : Context) (b : Bool) → b ≡ is_some (find key_cmp (K.Name s) (present (presences c))) → IsRising key_cmp (keys_of (presences c))
    → member_shown show (K.Name s) c ≡ cond b (T.key (marked s) ∷ json_tokens (show (K.Name s))) []
member_by show s c b e h = go (find key_cmp (K.Name s) (presences c)) refl
  where
    go : (o : Option (List Id)) → find key_cmp (K.Name s) (presences c) ≡ o → members_front show (present (entry_of (K.Name s) (find key_cmp (K.Name s) (presences c)))) ≡ cond b (T.key (marked s) ∷ json_tokens (show (K.Name s))) []
    go None f = let n : b ≡ false = e ∙ present_by (K.Name s) (presences c) None h (sym f) in rw (f, n) refl
    go (Some []) f = let n : b ≡ false = e ∙ present_by (K.Name s) (presences c) (Some []) h (sym f) in rw (f, n) refl
    go (Some (i ∷ is)) f =
        let n : b ≡ true = e ∙ present_by (K.Name s) (presences c) (Some (i ∷ is)) h (sym f) in
        rw (f, n) (ap (λ x. T.key (marked s) ∷ x) (append-nil (json_tokens (show (K.Name s)))))

-- ---- one place

part_front : (k : List ℕ) (b : Bool) (j : Json) (ms : Members) → members_tokens (with_part k (if_so b j) ms) ≡ part_tokens k b j ++ members_tokens ms
part_front k true j ms = refl
part_front k false j ms = refl

values_front : (names : List (List ℕ)) (r : Register) → members_tokens (with_values names r) ≡ values_tokens names r ++ T.end_object ∷ []
values_front names [] = refl
values_front names (e ∷ r) = refl

-- the tokens of all that stands at a key, from the name on
pub every_is : (names : List (List ℕ)) (r : Register) (map list : Bool) (m l : Json)
    → json_tokens (object (member (codes "!conflict") (parts_json names r (if_so map m) (if_so list l)) no_members))
    ≡ (T.begin_object ∷ []) ++ (T.key (codes "!conflict") ∷ []) ++ (T.begin_object ∷ []) ++ part_tokens (codes "list") list l ++ part_tokens (codes "map") map m ++ values_tokens names r ++ (T.end_object ∷ []) ++ (T.end_object ∷ [])
every_is names r map list m l =
    let p1 = part_tokens (codes "list") list l in
    let p2 = part_tokens (codes "map") map m in
    let v = values_tokens names r in
    let parts : members_tokens (with_part (codes "list") (if_so list l) (with_part (codes "map") (if_so map m) (with_values names r))) ≡ p1 ++ p2 ++ v ++ (T.end_object ∷ []) =
    part_front (codes "list") list l _
    ∙ ap (λ x. p1 ++ x) (part_front (codes "map") map m _ ∙ ap (λ x. p2 ++ x) (values_front names r))
    ∙ sym (append_assoc p1 p2 (v ++ (T.end_object ∷ [])))
    ∙ sym (append_assoc (p1 ++ p2) v (T.end_object ∷ [])) in
    ap (λ x. T.begin_object ∷ T.key (codes "!conflict") ∷ T.begin_object ∷ (x ++ T.end_object ∷ [])) parts

-- the tokens of a place that is shown in this form, with what its map and its list show
abbrev pub form_tokens : List (List ℕ) → Register → Bool → Bool → (Branch → Json) → Form → List Token
form_tokens names r map list child F.Value = first_tokens r
form_tokens names r map list child (F.Child b) = json_tokens (child b)
form_tokens names r map list child F.Every =
    json_tokens (object (member (codes "!conflict") (parts_json names r (if_so map (child B.Map)) (if_so list (child B.List))) no_members))

by_form : (names : List (List ℕ)) (r : Register) (map list : Bool) (child : Branch → Json)
    → json_tokens (one_of names r (if_so map (child B.Map)) (if_so list (child B.List))) ≡ form_tokens names r map list child (form_of r map list)
by_form names [] false false child = refl
by_form names [] true false child = refl
by_form names [] false true child = refl
by_form names [] true true child = refl
by_form names (e ∷ []) false false child = refl
by_form names (e ∷ []) true false child = refl
by_form names (e ∷ []) false true child = refl
by_form names (e ∷ []) true true child = refl
by_form names (e ∷ d ∷ r) false false child = refl
by_form names (e ∷ d ∷ r) true false child = refl
by_form names (e ∷ d ∷ r) false true child = refl
by_form names (e ∷ d ∷ r) true true child = refl

-- what is shown at a key, by the form that was chosen for its values and for whether its map and its list are shown
pub place_by : (names : List (List ℕ)) (goes : GoesThrough) (at p : List Tagged) (k : Key) (a : Tree) (r : Register) (map list : Bool) (form : Form)
    → p ≡ at → r ≡ or_no_value (find key_cmp k (registers (here at a))) → map ≡ shows_at goes p (MapT k) (here p a) → list ≡ shows_at goes p (ListT k) (here p a) → form ≡ form_of r map list
    → json_tokens (parts_shown_at names goes at (here at a) k) ≡ form_tokens names r map list (λ b. child_json names goes at (tag_of b k) (here at a)) form
place_by names goes at p k a r map list form ep er em el ef =
    let c = here at a in
    let m : map ≡ shows_at goes at (MapT k) c = em ∙ ap (λ (s : List Tagged). shows_at goes s (MapT k) (here s a)) ep in
    let l : list ≡ shows_at goes at (ListT k) c = el ∙ ap (λ (s : List Tagged). shows_at goes s (ListT k) (here s a)) ep in
    rw (ef, er, m, l) (ap json_tokens (place_is names goes at k c) ∙ by_form names (or_no_value (find key_cmp k (registers c))) (shows_at goes at (MapT k) c) (shows_at goes at (ListT k) c) (λ b. child_json names goes at (tag_of b k) c))

-- ---- whole maps and lists

pub child_stands : (b : Branch) (at : List Tagged) (k : Key) (a : Tree) → HasPlace at a → is_some (content (tag_of b k) (here at a)) ≡ true → StandsBelow at (tag_of b k) a
child_stands B.Map at k a h e = stands_below at (MapT k) a h tt e
child_stands B.List at k a h e = stands_below at (ListT k) a h tt e

module _ (names : List (List ℕ)) (goes : GoesThrough) (at : List Tagged) where
  pub map_is : (c : Context) → json_tokens (map_json names goes at c) ≡ (T.begin_object ∷ []) ++ members_front (parts_shown_at names goes at c) (present (presences c)) ++ (T.end_object ∷ [])
  map_is (context m l r p n) = ap (λ x. T.begin_object ∷ x) (members_tokens_are (parts_shown_at names goes at (context m l r p n)) (present p))

  pub list_is : (c : Context) → json_tokens (list_json names goes at c)
      ≡ (T.begin_array ∷ []) ++ items_front (parts_shown_at names goes at c) (present (presences c)) (elements_after (length (links c)) K.Head (links c)) ++ (T.end_array ∷ [])
  list_is (context m l r p n) = ap (λ x. T.begin_array ∷ x) (items_tokens_are (parts_shown_at names goes at (context m l r p n)) (present p) (elements_after (length n) K.Head n))

  -- what stands under a key, at the path that is longer by it
  pub child_is : (b : Branch) (k : Key) (p : List Tagged) (a : Tree) → StandsBelow at (tag_of b k) a → p ≡ at ++ tag_of b k ∷ [] → node_json names goes p (tag_of b k) (here p a) ≡ child_json names goes at (tag_of b k) (here at a)
  child_is b k p a x e =
      ap (λ (s : List Tagged). node_json names goes s (tag_of b k) (here s a)) e ∙ ap (node_json names goes (at ++ tag_of b k ∷ []) (tag_of b k)) (x.is ∙ sym (ap or_empty x.found))

-- ---- the line

document_is : (names : List (List ℕ)) (goes : GoesThrough) (c : Context) → document names goes c ≡ if_so (is_some (find key_cmp K.Doc (present (presences c)))) (parts_shown_at names goes [] c K.Doc)
document_is names goes (context m l r p n) = refl

pub view_is : (names : List (List ℕ)) (name : List ℕ) (goes : GoesThrough) (c : Context) → json_tokens (line_json name (document names goes c))
    ≡ (T.begin_object ∷ []) ++ part_tokens (codes "doc") (is_some (find key_cmp K.Doc (present (presences c)))) (parts_shown_at names goes [] c K.Doc) ++ (T.key (codes "name") ∷ []) ++ (T.string name ∷ []) ++ (T.end_object ∷ [])
view_is names name goes c =
    let b = is_some (find key_cmp K.Doc (present (presences c))) in
    let j = parts_shown_at names goes [] c K.Doc in
    let p = part_tokens (codes "doc") b j in
    ap (λ o. json_tokens (line_json name o)) (document_is names goes c)
    ∙ ap (λ x. T.begin_object ∷ x) (part_front (codes "doc") b j (member (codes "name") (Rattle.json.specs.Json.string name) no_members)
    ∙ sym (append_assoc p (T.key (codes "name") ∷ []) (T.string name ∷ T.end_object ∷ []))
    ∙ sym (append_assoc (p ++ (T.key (codes "name") ∷ [])) (T.string name ∷ []) (T.end_object ∷ [])))

pub printed : (a b : Written) (ts : List Token) (items : List ℕ) → a.before ≡ [] → a.tokens ≡ [] → Gains a b ts → items ≡ b.before ++ print b.tokens → items ≡ print ts
printed a b ts items e f g h =
    let before : b.before ≡ [] = g.before ∙ e in
    let tokens : b.tokens ≡ ts = g.tokens ∙ ap (λ x. x ++ ts) f in
    h ∙ ap (λ x. x ++ print b.tokens) before ∙ ap print tokens
