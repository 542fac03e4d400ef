-- About Operation: counters one by one, and an operation with the version vector in place of the identifiers.
use Rattle.std.proofs.Common.{◌≡◌, ℕ, zero, suc, ◌<◌, List, [], ◌∷◌, ◌++◌, length, drop, codes, refl, ◌∙◌, ap, arith}
use Rattle.json.specs.Json.{string}
use Rattle.jc_rules.specs.declared.id.Id.{Id}
use Rattle.jc_rules.specs.declared.operation.Op.{Op}
use Rattle.jc_rules.specs.ReplicaNames.{name_at}
use Rattle.jc_rules.specs.VersionVectors.{covered, greatest_of}
use Rattle.jc_rules.proofs.CoveredLemmas.{greatest_of-filled}
use Rattle.jc_json.specs.Json.{id_text}
use Rattle.jc_vectors.specs.StoredStates.{stored_op}
use Rattle.jc_journal.specs.Operation.{NamedJson, json_object, cursor_json, counter_member, counter_members, mutation_name, mutation_value, op_json}

-- the name of a replica is the next one
name_next : (names : List (List ℕ)) (p : ℕ) → p < length names → drop p names ≡ name_at names p ∷ drop (suc p) names
name_next [] p l = absurd (omega arith)
name_next (x ∷ xs) zero l = refl
name_next (x ∷ xs) (suc p) l = name_next xs p (omega arith)

-- the counters of the replicas from p on
pub counters_next : (names : List (List ℕ)) (ids : List Id) (p : ℕ) → p < length names
    → counter_members p (drop p names) ids ≡ counter_member (name_at names p) (greatest_of p ids) ++ counter_members (suc p) (drop (suc p) names) ids
counters_next names ids p l = ap (λ (ns : List (List ℕ)). counter_members p ns ids) (name_next names p l)

counters_kept : (p : ℕ) (names : List (List ℕ)) (ids : List Id) → counter_members p names (covered ids) ≡ counter_members p names ids
counters_kept p [] ids = refl
counters_kept p (name ∷ names) ids =
    ap (λ n. counter_member name n ++ counter_members (suc p) names (covered ids)) (greatest_of-filled p ids)
    ∙ ap (λ (ms : List NamedJson). counter_member name (greatest_of p ids) ++ ms) (counters_kept (suc p) names ids)

pub op_kept : (names : List (List ℕ)) (o : Op) → op_json names (stored_op o) ≡ op_json names o
op_kept names o =
    ap (λ (ms : List NamedJson). json_object (
    (codes "cursor", cursor_json names o.cursor) ∷ (codes "deps", json_object ms) ∷ (codes "id", string (id_text names o.id))
    ∷ (codes "mutation", string (mutation_name o.mutation)) ∷ mutation_value o.mutation))
    (counters_kept 0 names o.deps)
