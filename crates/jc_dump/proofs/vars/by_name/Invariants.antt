use Rattle.std.proofs.Common.{◌≡◌, ℕ, List, map}
use Rattle.serde_json.specs.Data.{no_members}
use Rattle.jc_cursor.specs.Bounds.{vars_of}
use Rattle.jc_json.specs.Json.{put_all}
use Rattle.jc_json.specs.Parts.{shown_as}
use Rattle.jc_dump.specs.Dump.{var_member}
use Rattle.jc_dump.specs.DumpParts.{bound_shown}
use Rattle.jc_dump.proofs.vars.by_name.Given as goal

abbrev pub invariant-loop-name : goal.invariant-loop-name
invariant-loop-name l = (names : List (List ℕ)) → put_all (map (var_member names) (vars_of l.name-iterator)) (shown_as (bound_shown names) l.found.entries) ≡ put_all (map (var_member names) (vars_of l.vars.entries)) no_members
