use Rattle.std.proofs.Common.{rules, ◌≡◌, ℕ, List, map, string_bytes, ap, sym, ◌∙◌}
use Rattle.serde_json.specs.Data.{put}
use Rattle.jc_cursor.specs.declared.bound.Bound.{Bound}
use Rattle.jc_cursor.specs.Bounds.{bound_of, vars_of}
use Rattle.jc_json.specs.Json.{put_all}
use Rattle.jc_json.specs.Parts.{shown_as}
use Rattle.jc_json.proofs.PartsSendLemmas.{shown-insert}
use Rattle.jc_dump.specs.Dump.{var_member, bound_data}
use Rattle.jc_dump.specs.DumpParts.{bound_shown}
use Rattle.jc_dump.proofs.vars.by_name.Goals as goal

pub loop-name-preserved : goal.loop-name-preserved
loop-name-preserved c = λ names.
    let k = c.in-Some.name.now in
    let shown = bound_data names (bound_of c.in-Some.bound.now) in
    let found = c.loop-name.found.entries in
    let rest = map (var_member names) (vars_of c.next.new.self) in
    let named : string_bytes c.in_ok-name.name ≡ k = search rules in
    ap (put_all rest) (ap (shown_as (bound_shown names)) c.in_ok-insert.ensures.entries
    ∙ shown-insert (bound_shown names) found c.in_ok-name.name _
    ∙ ap (λ t. put t shown (shown_as (bound_shown names) found)) named)
    ∙ sym (ap (λ (es : List (List ℕ × Bound)). put_all (map (var_member names) (vars_of es)) (shown_as (bound_shown names) found)) c.in-Some.ensures.steps)
    ∙ c.loop-name.invariant names
