-- About specs/Dump: no dump has a float, so its text is compact JSON.
use Rattle.std.proofs.Common.{◌≡◌, ℕ, List, [], ◌∷◌, ◌++◌, map, Option, None, Some, codes, false, refl}
use Rattle.serde_json.specs.Data.{Data}
use Rattle.serde_json.specs.Written.{has_float}
use Rattle.jc_rules.specs.declared.id.Id.{Id}
use Rattle.jc_rules.specs.declared.operation.Cursor.{Cursor}
use Rattle.jc_rules.specs.declared.value.Value.{Value}
use Rattle.jc_rules.specs.Context.{Context}
use Rattle.jc_rules.specs.State.{Bound, ACursor, Names, Pairs}
use Rattle.jc_json.specs.Json.{key_text, tagged_text, object_of, texts_data}
use Rattle.jc_json.proofs.JsonFloatsLemmas.{HaveNone, object_float, all-map, texts_float, ids_float, value_float, context_float}
use Rattle.jc_cursor.specs.Bounds.{vars_of}
use Rattle.jc_dump.specs.declared.dump.Shown.{Shown}
use Rattle.jc_dump.specs.Dump.{cursor_data, pairs_data, bound_data, var_member, vars_data}
use Rattle.jc_dump.specs.DumpParts.{shown_members, tree_members}

pairs_float : (names : List (List ℕ)) (pairs : List (Id × Value)) → has_float (pairs_data names pairs) ≡ false
pairs_float names [] = refl
pairs_float names (e ∷ es) = rw (value_float e.1) (pairs_float names es)

one_float : (k : List ℕ) (d : Data) → has_float d ≡ false → has_float (object_of ((k, d) ∷ [])) ≡ false
one_float k d h = object_float ((k, d) ∷ []) (h, tt)

pub cursor_float : (names : List (List ℕ)) (c : Cursor) → has_float (cursor_data names c) ≡ false
cursor_float names c = texts_float (map (λ t. tagged_text names t) c.path ++ key_text names c.last ∷ [])

pub bound_float : (names : List (List ℕ)) (b : Bound) → has_float (bound_data names b) ≡ false
bound_float names (ACursor c) = one_float (codes "cursor") (cursor_data names c) (cursor_float names c)
bound_float names (Names keys) = one_float (codes "keys") (texts_data keys) (texts_float keys)
bound_float names (Pairs pairs) = one_float (codes "values") (pairs_data names pairs) (pairs_float names pairs)

vars_float : (names : List (List ℕ)) (vars : List (List ℕ × Bound)) → has_float (vars_data names vars) ≡ false
vars_float names vars = object_float (map (var_member names) vars) (all-map (var_member names) (λ e. bound_float names e.1) vars)

pub shown_float : (names : List (List ℕ)) (shown : Shown) (tree : Option Context) → has_float (object_of (shown_members names shown tree)) ≡ false
unfolding shown_members
shown_float names shown tree =
    object_float (shown_members names shown tree)
    (refl, (refl, (refl, (ids_float names shown.ops.items, (ids_float names shown.queue.items, (ids_float names shown.recv.items, (ids_float names shown.send.items, others tree)))))))
  where
    vars : has_float (vars_data names (vars_of shown.vars.now.entries)) ≡ false
    vars = vars_float names (vars_of shown.vars.now.entries)

    others : (tree : Option Context) → HaveNone (tree_members names tree ++ (codes "vars", vars_data names (vars_of shown.vars.now.entries)) ∷ [])
    others None = (vars, tt)
    others (Some c) = (context_float names c, (vars, tt))
