use Rattle.std.proofs.Common.{rules, ◌≡◌, ◌≢◌, ◌∙◌, List, [], ap, sym, subst, None, length, map, string_bytes, true-eqb, false-eqb}
use Rattle.clap.specs.Words.{HasKind, Text, fault_of, subcommand_of, subcommand_rows_of}
use Rattle.jc_cli.specs.Program.{program}
use Rattle.jc_cli.specs.Arguments.{with_help_meant}
use Rattle.jc_cli.proofs.ProgramCommandsLemmas.{none_said, some_said, unasked, unsaid, faulty, faultless_asks_nothing, ordered, unordered}
use Rattle.jc_cli.proofs.LimitsLemmas.{order_in_range, serve_has_no_file}
use Rattle.jc_cli.proofs.reading.order_of.Goals as goal

pub returns-then-is_empty-clause-ok : goal.returns-then-is_empty-clause-ok
returns-then-is_empty-clause-ok c =
    let none : length c.args.words.now ≡ 0 = true-eqb _ 0 c.if-is_empty.ensures in
    unsaid (map string_bytes c.args.words.now) c.in_ok-file.file (none_said string_bytes c.args.words.now none) c.in_ok-file.ensures

-- what clap refuses is no order
pub returns-in-Err-clause-err : goal.returns-in-Err-clause-err
returns-in-Err-clause-err c =
    let some : length c.args.words.now ≢ 0 = false-eqb _ 0 c.if-is_empty.ensures in
    let same : map (λ s. s.now) c.deref.result.now ≡ with_help_meant (map string_bytes c.args.words.now) = search rules in
    let why = subst (λ (ws : List Text). HasKind (fault_of program ws) c.in-Err.error) same c.in-Err.ensures.kinds in
    faulty _ (map string_bytes c.args.words.now) c.fault_by.result (some_said string_bytes c.args.words.now some) why c.fault_by.ensures.kind

pub returns-clause-ok : goal.returns-clause-ok
returns-clause-ok c =
    let some : length c.args.words.now ≢ 0 = false-eqb _ 0 c.if-is_empty.ensures in
    let same : map (λ s. s.now) c.deref.result.now ≡ with_help_meant (map string_bytes c.args.words.now) = search rules in
    ordered (map string_bytes c.args.words.now) _ _ (some_said string_bytes c.args.words.now some)
    (sym (ap (fault_of program) same) ∙ c.in-Ok.ensures.kinds) (c.in-Ok.ensures.ok ∙ ap (subcommand_of program) same) (sym c.in-Some.is ∙ c.in_ok-order.ensures)

-- what it takes is an order
pub unreachable-requires : goal.unreachable-requires
unreachable-requires c =
    let words = map string_bytes c.args.words.now in
    let some = some_said string_bytes c.args.words.now (false-eqb _ 0 c.if-is_empty.ensures) in
    let same : map (λ s. s.now) c.deref.result.now ≡ with_help_meant (map string_bytes c.args.words.now) = search rules in
    let none : fault_of program (with_help_meant words) ≡ [] = sym (ap (fault_of program) same) ∙ c.in-Ok.ensures.kinds in
    let named = c.in-Ok.ensures.ok ∙ ap (subcommand_of program) same in
    unordered c.faultless_words_are_orders.ensures words some none (ordered words _ None some none named (sym c.in-None.is ∙ c.in_ok-order.ensures))

-- an order asks for no help
pub returns-then-is_empty-clause-help : goal.returns-then-is_empty-clause-help
returns-then-is_empty-clause-help c = λ asks.
    let none : length c.args.words.now ≡ 0 = true-eqb _ 0 c.if-is_empty.ensures in
    absurd (unasked (map string_bytes c.args.words.now) (none_said string_bytes c.args.words.now none) asks)

pub returns-clause-help : goal.returns-clause-help
returns-clause-help c = λ asks.
    let same : map (λ s. s.now) c.deref.result.now ≡ with_help_meant (map string_bytes c.args.words.now) = search rules in
    let none : fault_of program (with_help_meant (map string_bytes c.args.words.now)) ≡ [] = sym (ap (fault_of program) same) ∙ c.in-Ok.ensures.kinds in
    absurd (faultless_asks_nothing (map string_bytes c.args.words.now) none asks)

pub returns-clause-limit : goal.returns-clause-limit
returns-clause-limit c = order_in_range (subcommand_rows_of c.in-Ok.matches) c.in-Some.order (sym (sym c.in-Some.is ∙ c.in_ok-order.ensures))

pub returns-clause-served : goal.returns-clause-served
returns-clause-served c = serve_has_no_file (subcommand_rows_of c.in-Ok.matches) c.in-Some.order (sym (sym c.in-Some.is ∙ c.in_ok-order.ensures))
