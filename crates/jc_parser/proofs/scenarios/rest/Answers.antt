use Rattle.std.proofs.Common.{◌≡◌, ◌-◌, List, [], ◌∷◌, ◌++◌, map, Err, Ok, sym, ap, ◌∙◌}
use Rattle.std.proofs.lemmas.Result.{err_from_is_err_and}
use Rattle.jc_parser.specs.declared.scenarios.NamedReplica.{NamedReplica}
use Rattle.std.specs.Prelude.{codes}
use Rattle.jc_parser.specs.ReaderState.{is_word}
use Rattle.jc_parser.specs.ScenarioReader.{part_at, tail_at}
use Rattle.jc_parser.specs.ScenarioViews.{part_view, names_of}
use Rattle.jc_parser.proofs.ScenarioLoopsLemmas.{then_parts}
use Rattle.jc_parser.proofs.ScenarioLoopsLemmas.{pushed, names_pushed, first_fails, first_read, replicas_full, replicas_fail, replicas_next, replicas_done, replicas_end}
use Rattle.jc_parser.proofs.scenarios.rest.Goals as goal

pub returns-in_err-first : goal.returns-in_err-first
returns-in_err-first c =
    let p = err_from_is_err_and c.from_residual.result c.from_residual.ensures.1 in
    let none : c.deref.result.now ≡ [] = c.deref.ensures.value ∙ c.new-replicas.ensures.items in
    rw (p.1, p.2) (λ kept. first_fails c.args.version 100000 63 c.args.cursor.now c.in_err-first.field-0.0 ((rw none at c.in_err-first.ensures) kept))

pub replicas-init : goal.replicas-init
replicas-init c =
    let none : c.deref.result.now ≡ [] = c.deref.ensures.value ∙ c.new-replicas.ensures.items in
    let read : part_at [] c.args.cursor.now ≡ Ok (part_view c.in_ok-first.first, c.replica.new.cursor) = rw none at c.in_ok-first.ensures in
    let items : c.push.new.self.items ≡ c.in_ok-first.first ∷ [] = c.in_ok-push.ensures.items ∙ ap (λ (l : List NamedReplica). l ++ c.in_ok-first.first ∷ []) c.new-replicas.ensures.items in
    first_read c.args.version 100000 63 c.args.cursor.now c.replica.new.cursor (part_view c.in_ok-first.first) read
    ∙ ap (λ (l : List NamedReplica). then_parts (map part_view l) (tail_at c.args.version 100000 63 (names_of l) c.replica.new.cursor)) (sym items)

pub returns-then-left-eq0 : goal.returns-then-left-eq0
returns-then-left-eq0 c kept =
    let now : c.deref-then-left-eq0.result.now ≡ c.replicas.replicas.items = c.deref-then-left-eq0.ensures.value in
    let fault = rw now at c.crowd.ensures in
    c.replicas.invariant
    ∙ replicas_full c.args.version 100000 c.replicas.left (names_of c.replicas.replicas.items) (map part_view c.replicas.replicas.items) c.replicas.cursor c.advance.new.self c.if-left-eq0.true (sym c.begins_word.ensures ∙ c.replicas-test.true) (c.advance.ensures (is_word (codes "replica")) (sym c.begins_word.ensures ∙ c.replicas-test.true))
    ∙ ap (λ d. Err d) (sym (fault kept))

pub returns-in_err-next : goal.returns-in_err-next
returns-in_err-next c =
    let p = err_from_is_err_and c.from_residual-in_err-next.result c.from_residual-in_err-next.ensures.1 in
    let now : c.deref-in-replicas.result.now ≡ c.replicas.replicas.items = c.deref-in-replicas.ensures.value in
    rw (p.1, p.2) (λ kept. c.replicas.invariant ∙ replicas_fail c.args.version 100000 c.replicas.left (names_of c.replicas.replicas.items) (map part_view c.replicas.replicas.items) c.replicas.cursor c.advance.new.self c.in_err-next.field-0.0 c.if-left-eq0.false (sym c.begins_word.ensures ∙ c.replicas-test.true) (c.advance.ensures (is_word (codes "replica")) (sym c.begins_word.ensures ∙ c.replicas-test.true)) ((rw now at c.in_err-next.ensures) kept))

pub replicas-preserved : goal.replicas-preserved
replicas-preserved c =
    let now : c.deref-in-replicas.result.now ≡ c.replicas.replicas.items = c.deref-in-replicas.ensures.value in
    let next : NamedReplica = c.in_ok-next.next in
    let read : part_at (names_of c.replicas.replicas.items) c.advance.new.self ≡ Ok (part_view next, c.replica-in-replicas.new.cursor) = rw now at c.in_ok-next.ensures in
    let items : c.push-in-replicas.new.self.items ≡ c.replicas.replicas.items ++ next ∷ [] = c.in_ok-push-2.ensures.items in
    c.replicas.invariant
    ∙ replicas_next c.args.version 100000 c.replicas.left (names_of c.replicas.replicas.items) (map part_view c.replicas.replicas.items) c.replicas.cursor c.advance.new.self c.replica-in-replicas.new.cursor (part_view next) c.if-left-eq0.false (sym c.begins_word.ensures ∙ c.replicas-test.true) (c.advance.ensures (is_word (codes "replica")) (sym c.begins_word.ensures ∙ c.replicas-test.true)) read
    ∙ ap (λ l. then_parts l (tail_at c.args.version 100000 (c.replicas.left - 1) (names_of c.replicas.replicas.items ++ next.name ∷ []) c.replica-in-replicas.new.cursor)) (sym (pushed c.replicas.replicas.items next))
    ∙ ap (λ l. then_parts (map part_view (c.replicas.replicas.items ++ next ∷ [])) (tail_at c.args.version 100000 (c.replicas.left - 1) l c.replica-in-replicas.new.cursor)) (sym (names_pushed c.replicas.replicas.items next))
    ∙ ap (λ (l : List NamedReplica). then_parts (map part_view l) (tail_at c.args.version 100000 (c.replicas.left - 1) (names_of l) c.replica-in-replicas.new.cursor)) (sym items)

pub returns-in_err-given : goal.returns-in_err-given
returns-in_err-given c =
    let p = err_from_is_err_and c.from_residual-in_err-given.result c.from_residual-in_err-given.ensures.1 in
    rw (p.1, p.2) (λ kept. c.replicas.invariant ∙ replicas_end c.args.version 100000 c.replicas.left (names_of c.replicas.replicas.items) (map part_view c.replicas.replicas.items) c.replicas.cursor c.in_err-given.field-0.0 (sym c.begins_word.ensures ∙ c.replicas-test.false) (c.in_err-given.ensures kept))

pub returns : goal.returns
returns c = c.replicas.invariant ∙ replicas_done c.args.version 100000 c.replicas.left (names_of c.replicas.replicas.items) (map part_view c.replicas.replicas.items) c.replicas.cursor c.blocks-2.new.cursor c.in_ok-given.given.items c.in_ok-given.events.items (sym c.begins_word.ensures ∙ c.replicas-test.false) c.in_ok-given.ensures
