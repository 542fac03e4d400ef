use Rattle.std.proofs.Common.{rules, ◌≡◌, None, Some, refl, sym, ◌∙◌}
use Rattle.serde_json.specs.Data.{string}
use Rattle.jc_rules.specs.Context.{maps, lists, registers, presences, links}
use Rattle.jc_tree.specs.Tree.{here}
use Rattle.jc_json.specs.Json.{next_text, ids_data, register_data, context_data}
use Rattle.jc_json.proofs.PartsPlacesLemmas.{value_shown, no_child_found, child_is}
use Rattle.jc_json.proofs.tree.part_at.Goals as goal

pub returns-in_err-list_by-in-List-clause-shown : goal.returns-in_err-list_by-in-List-clause-shown
returns-in_err-list_by-in-List-clause-shown g c = λ at named names.
    let none : c.from_residual.result ≡ None = search rules in
    rw (none, c.in-List.is) (value_shown (context_data names) c.args.key.key.now (lists (here at (g.S.TreeStore.tree c.args.store.now))) None (no_child_found _ (c.in_err-list_by-in-List.ensures.some at named)))

pub returns-in_ok-list_by-in-List-clause-shown : goal.returns-in_ok-list_by-in-List-clause-shown
returns-in_ok-list_by-in-List-clause-shown g c = λ at named names.
    let store = c.args.store.now in
    let tree = g.S.TreeStore.tree store in
    let child = c.in_ok-list_by-in-List.field-0 in
    let path = g.met.S.TreeStore.one store child _ (c.in_ok-list_by-in-List.ensures.named at named) in
    let there = g.met.S.TreeStore.there store c.args.key.place at named in
    rw c.in-List.is (value_shown (context_data names) c.args.key.key.now (lists (here at tree)) (Some (here (g.S.TreeStore.path store child) tree)) (child_is at tree.now there _ _ _ refl path (c.in_ok-list_by-in-List.ensures.some at named)))

pub returns-in_err-map_by-in-Map-clause-shown : goal.returns-in_err-map_by-in-Map-clause-shown
returns-in_err-map_by-in-Map-clause-shown g c = λ at named names.
    let none : c.from_residual-in_err-map_by-in-Map.result ≡ None = search rules in
    rw (none, c.in-Map.is) (value_shown (context_data names) c.args.key.key.now (maps (here at (g.S.TreeStore.tree c.args.store.now))) None (no_child_found _ (c.in_err-map_by-in-Map.ensures.some at named)))

pub returns-in_ok-map_by-in-Map-clause-shown : goal.returns-in_ok-map_by-in-Map-clause-shown
returns-in_ok-map_by-in-Map-clause-shown g c = λ at named names.
    let store = c.args.store.now in
    let tree = g.S.TreeStore.tree store in
    let child = c.in_ok-map_by-in-Map.field-0 in
    let path = g.met.S.TreeStore.one store child _ (c.in_ok-map_by-in-Map.ensures.named at named) in
    let there = g.met.S.TreeStore.there store c.args.key.place at named in
    rw c.in-Map.is (value_shown (context_data names) c.args.key.key.now (maps (here at tree)) (Some (here (g.S.TreeStore.path store child) tree)) (child_is at tree.now there _ _ _ refl path (c.in_ok-map_by-in-Map.ensures.some at named)))

pub returns-in_err-step_by-in-Next-clause-shown : goal.returns-in_err-step_by-in-Next-clause-shown
returns-in_err-step_by-in-Next-clause-shown g c = λ at named names.
    let none : c.from_residual-in_err-step_by-in-Next.result ≡ None = search rules in
    rw (none, c.in-Next.is) (value_shown (λ n. string (next_text names n)) c.args.key.key.now (links (here at (g.S.TreeStore.tree c.args.store.now))) None (sym c.in_err-step_by-in-Next.was ∙ c.step_by.ensures.next at named))

pub returns-in_ok-step_by-in-Next-clause-shown : goal.returns-in_ok-step_by-in-Next-clause-shown
returns-in_ok-step_by-in-Next-clause-shown g c = λ at named names.
    rw c.in-Next.is (value_shown (λ n. string (next_text names n)) c.args.key.key.now (links (here at (g.S.TreeStore.tree c.args.store.now))) (Some c.in_ok-step_by-in-Next.field-0) (sym c.in_ok-step_by-in-Next.was ∙ c.step_by.ensures.next at named))

pub returns-in_err-presence_by-in-Presence-clause-shown : goal.returns-in_err-presence_by-in-Presence-clause-shown
returns-in_err-presence_by-in-Presence-clause-shown g c = λ at named names.
    let none : c.from_residual-in_err-presence_by-in-Presence.result ≡ None = search rules in
    rw (none, c.in-Presence.is) (value_shown (ids_data names) c.args.key.key.now (presences (here at (g.S.TreeStore.tree c.args.store.now))) None (c.in_err-presence_by-in-Presence.ensures at named))

pub returns-in_ok-presence_by-in-Presence-clause-shown : goal.returns-in_ok-presence_by-in-Presence-clause-shown
returns-in_ok-presence_by-in-Presence-clause-shown g c = λ at named names.
    rw c.in-Presence.is (value_shown (ids_data names) c.args.key.key.now (presences (here at (g.S.TreeStore.tree c.args.store.now))) (Some c.in_ok-presence_by-in-Presence.field-0.now) (c.in_ok-presence_by-in-Presence.ensures at named))

pub returns-in_err-register_by-in-Register-clause-shown : goal.returns-in_err-register_by-in-Register-clause-shown
returns-in_err-register_by-in-Register-clause-shown g c = λ at named names.
    let none : c.from_residual-in_err-register_by-in-Register.result ≡ None = search rules in
    rw (none, c.in-Register.is) (value_shown (register_data names) c.args.key.key.now (registers (here at (g.S.TreeStore.tree c.args.store.now))) None (c.in_err-register_by-in-Register.ensures at named))

pub returns-in_ok-register_by-in-Register-clause-shown : goal.returns-in_ok-register_by-in-Register-clause-shown
returns-in_ok-register_by-in-Register-clause-shown g c = λ at named names.
    rw c.in-Register.is (value_shown (register_data names) c.args.key.key.now (registers (here at (g.S.TreeStore.tree c.args.store.now))) (Some c.in_ok-register_by-in-Register.field-0.now) (c.in_ok-register_by-in-Register.ensures at named))
