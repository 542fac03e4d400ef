-- About Parts: the tokens of members, and the line that they are; the tokens of the rules of a trace.
use Rattle.std.proofs.Common.{◌≡◌, ◌≤◌, ℕ, ◌+◌, List, [], ◌∷◌, ◌++◌, length, take, flat_map, Result, Ok, Err, OnOk, append_assoc, refl, sym, ◌∙◌, ap, subst, arith}
use Rattle.std.proofs.lemmas.Grind.{common_steps}
use Rattle.std.proofs.lemmas.List.Concat.{flat_map-append}
use Rattle.json.specs.Print.{print}
use Rattle.json.specs.Token.{Token}
use Rattle.json.specs.Token as T
use Rattle.json.specs.Tree.{json_tokens, items_tokens, members_tokens}
use Rattle.json.specs.Written.{Written, Writes}
use Rattle.jc_rules.specs.declared.rule.Rule.{Rule}
use Rattle.jc_rules.specs.declared.run.Run.{Run}
use Rattle.jc_rules.specs.Runs.{deeper, rows_of_all}
use Rattle.jc_rules.proofs.RunsLemmas.{deeper_more}
use Rattle.jc_json.specs.Gains.{Gains}
use Rattle.jc_json.proofs.GainsLemmas.{gains_then, gains_between, gains_one}
use Rattle.jc_journal.specs.Operation.{NamedJson, json_members, json_object}
use Rattle.jc_journal.specs.EventLine.{rule_items, members_line}
use Rattle.jc_journal.specs.Parts.{member_tokens, row_tokens}

pub tokens-append : (es fs : List NamedJson) → member_tokens (es ++ fs) ≡ member_tokens es ++ member_tokens fs
tokens-append [] fs = refl
tokens-append (e ∷ es) fs =
    ap (λ (ts : List Token). T.key e.0 ∷ ts)
    (ap (λ (ts : List Token). json_tokens e.1 ++ ts) (tokens-append es fs) ∙ sym (append_assoc (json_tokens e.1) (member_tokens es) (member_tokens fs)))

-- members, and more of them
pub members_then : (a b c : Written) (es fs : List NamedJson) → Gains a b (member_tokens es) → Gains b c (member_tokens fs) → Gains a c (member_tokens (es ++ fs))
members_then a b c es fs g h = subst (Gains a c) (sym (tokens-append es fs)) (gains_then a b c (member_tokens es) (member_tokens fs) g h)

members_end : (es : List NamedJson) → members_tokens (json_members es) ≡ member_tokens es ++ T.end_object ∷ []
members_end [] = refl
members_end (e ∷ es) =
    ap (λ (ts : List Token). T.key e.0 ∷ ts)
    (ap (λ (ts : List Token). json_tokens e.1 ++ ts) (members_end es) ∙ sym (append_assoc (json_tokens e.1) (member_tokens es) (T.end_object ∷ [])))

pub object_is : (es : List NamedJson) → json_tokens (json_object es) ≡ (T.begin_object ∷ []) ++ member_tokens es ++ (T.end_object ∷ [])
object_is es = ap (λ (ts : List Token). T.begin_object ∷ ts) (members_end es)

-- an object's beginning, its members and its end
pub object_written : (a b c d : Written) (es : List NamedJson) → Gains a b (T.begin_object ∷ []) → Gains b c (member_tokens es) → Gains c d (T.end_object ∷ []) → Gains a d (json_tokens (json_object es))
object_written a b c d es f g h = gains_between a b c d T.begin_object T.end_object (member_tokens es) (json_tokens (json_object es)) (object_is es) f g h

-- a line's beginning, its members and its end
pub line_is : (begun done : Written) (es : List NamedJson) (line : List ℕ) → begun.before ≡ [] → begun.tokens ≡ T.begin_object ∷ [] → Gains begun done (member_tokens es) → line ≡ (done.before ++ print (done.tokens ++ T.end_object ∷ [])) ++ 10 ∷ [] → line ≡ members_line es
line_is begun done es line b t g e =
    let before : done.before ≡ [] = g.before ∙ b in
    let tokens : done.tokens ++ T.end_object ∷ [] ≡ json_tokens (json_object es) =
    ap (λ (ts : List Token). ts ++ T.end_object ∷ []) (g.tokens ∙ ap (λ (ts : List Token). ts ++ member_tokens es) t) ∙ sym (object_is es) in
    e
    ∙ ap (λ (x : List ℕ). (x ++ print (done.tokens ++ T.end_object ∷ [])) ++ 10 ∷ []) before
    ∙ ap (λ (ts : List Token). print ts ++ 10 ∷ []) tokens

-- ---- the rules of a trace, run by run

rows_end : (rows : List (Rule × ℕ)) → items_tokens (rule_items rows) ≡ flat_map row_tokens rows ++ T.end_array ∷ []
rows_end [] = refl
rows_end (row ∷ rows) = ap (λ ts. row_tokens row ++ ts) (rows_end rows)

-- rows, and more of them
rows_then : (a b c : Written) (xs ys : List (Rule × ℕ)) → Gains a b (flat_map row_tokens xs) → Gains b c (flat_map row_tokens ys) → Gains a c (flat_map row_tokens (xs ++ ys))
rows_then a b c xs ys g h = subst (Gains a c) (sym (flat_map-append row_tokens xs ys)) (gains_then a b c (flat_map row_tokens xs) (flat_map row_tokens ys) g h)

-- the next row of a run
pub run_then : (a b c : Written) (rule : Rule) (depth i n : ℕ) → n ≡ i → Gains a b (flat_map row_tokens (deeper rule depth i)) → Gains b c (row_tokens (rule, depth + n)) → Gains a c (flat_map row_tokens (deeper rule depth (i + 1)))
run_then a b c rule depth i n is g h =
    let row : List (Rule × ℕ) = (rule, depth + i) ∷ [] in
    let one : Gains b c (flat_map row_tokens row) = subst (λ m. Gains b c (row_tokens (rule, depth + m))) is h in
    subst (λ (rows : List (Rule × ℕ)). Gains a c (flat_map row_tokens rows)) (sym (deeper_more rule depth i)) (rows_then a b c (deeper rule depth i) row g one)

-- a list's beginning, the rules of all runs and its end
pub rows_written : {E : Type 0} (r : Result (Unit {0}) E) (a b c d : Written) (runs : List Run) (i : ℕ) → length runs ≤ i → Gains a b (T.begin_array ∷ []) → Gains b c (flat_map row_tokens (rows_of_all (take i runs))) → Writes r c d T.end_array → OnOk r (Gains a d (T.begin_array ∷ items_tokens (rule_items (rows_of_all runs))))
rows_written (Ok u) a b c d runs i all f g w =
    let rows = rows_of_all runs in
    let whole : take i runs ≡ runs = grind (arith, common_steps) in
    gains_between a b c d T.begin_array T.end_array (flat_map row_tokens rows) (T.begin_array ∷ items_tokens (rule_items rows)) (ap (λ (ts : List Token). T.begin_array ∷ ts) (rows_end rows))
    f (subst (λ (rs : List Run). Gains b c (flat_map row_tokens (rows_of_all rs))) whole g) (gains_one (Ok u) c d T.end_array u refl w)
rows_written (Err e) a b c d runs i all f g w = tt
