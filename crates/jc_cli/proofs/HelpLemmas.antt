-- About Arguments (AsksHelp): a call for help or for the version is the only fault of its arguments.
use Rattle.std.proofs.Common.{◌≡◌, ◌&&◌, ◌||◌, ◌==◌, ◌+◌, ℕ, zero, suc, nat_lt, List, [], ◌∷◌, Bool, true, false, not, Option, Some, None, if◌then◌else◌, inl, inr, refl, ap, sym, ◌∙◌, min, drop, length, is_some, find, slice_get, codes, encode_utf8}
use Rattle.std.specs.List.{list_any}
use Rattle.std.specs.Option.{option_map_or}
use Rattle.std.specs.Str.{bytes_eq, chars}
use Rattle.clap.proofs.OnLiterals.{clap_on_literals}
use Rattle.clap.specs.Facts.{unwrap_or_range, parser_of_value, explicit_source}
use Rattle.clap.specs.Lexer.{long_of, short_of}
use Rattle.clap.specs.Matches.{count_text}
use Rattle.clap.specs.Faults.{count_fault, set_fault, action_fault, use_fault, settle_fault, react_fault, option_fault, long_fault, short_fault, bundle_step_fault, flags_fault, flag_word_fault, other_fault, stray_fault, step_fault, turn_fault, walk_fault, default_fault, defaults_fault, check_fault, level_fault, entered_fault, built_fault, fault_of}
use Rattle.clap.specs.Kinds.{Kinds, IsAmong, or_else, value_kinds, values_kinds, range_kinds, request_kinds}
use Rattle.clap.specs.Simple.{App, Shape, built, argument_words, entered, label_of, names_of}
use Rattle.clap.specs.Takes.{is_given}
use Rattle.clap.specs.Values.{refused_kind}
use Rattle.clap.specs.ValueTests.{accepts}
use Rattle.clap.specs.Walk.{Held, Names, Row, Rule, Step, Text, Waiting, Walk, idle, option, positional, value, next, trailing, subcommand, action_of, answers_to, arg_by_id, arg_by_index, arg_by_long, arg_by_short, attached_value, count_of, finished, has_row, is_empty, is_pending, most_values, nothing_held, reacted, settled, subcommand_met, takes_several, takes_values, values_or_missing, walk, walk_from, walked, with_default, word_met}
use Rattle.clap.specs.declared.builder.action.ArgAction.{ArgAction}
use Rattle.clap.specs.declared.builder.action.ArgAction.TheVariants as A
use Rattle.clap.specs.declared.builder.value_parser.ValueParser.{ValueParser}
use Rattle.clap.specs.declared.error.kind.ErrorKind.{ErrorKind}
use Rattle.clap.specs.declared.error.kind.ErrorKind.TheVariants as K
use Rattle.jc_cli.specs.Program.{program}
use Rattle.jc_cli.specs.Arguments.{IsCall}

record IsAlone (kinds : Kinds) : Type 0 where
  alone : (call : ErrorKind) → IsCall call → IsAmong call kinds → kinds ≡ call ∷ []

none : IsAlone []
none = record { alone = λ call is h. absurd h }

one_is : (k call : ErrorKind) → IsAmong call (k ∷ []) → k ∷ [] ≡ call ∷ []
one_is k call (inl same) = ap (λ (x : ErrorKind). x ∷ []) (sym same)
one_is k call (inr more) = absurd more

one : (k : ErrorKind) → IsAlone (k ∷ [])
one k = record { alone = λ call is h. one_is k call h }

either : {a b : Kinds} → IsAlone a → IsAlone b → IsAlone (or_else a b)
either {a = []} p q = q
either {a = k ∷ ks} p q = p

by_test : {a b : Kinds} (t : Bool) → IsAlone a → IsAlone b → IsAlone (if t then a else b)
by_test true p q = p
by_test false p q = q

if_any : {X : Type 0} {f : X → Kinds} {d : Kinds} (o : Option X) → ((x : X) → IsAlone (f x)) → IsAlone d → IsAlone (option_map_or f o d)
if_any None p q = q
if_any (Some x) p q = p x

-- ---- one use of an argument

of_value : (ic : Bool) (parser : ValueParser) (text : Text) → IsAlone (value_kinds ic parser text)
of_value ic parser text = by_test (accepts ic parser text) none (one (refused_kind parser))

of_values : (ic : Bool) (parser : ValueParser) (texts : List Text) → IsAlone (values_kinds ic parser texts)
of_values ic parser [] = none
of_values ic parser (v ∷ vs) = either (of_value ic parser v) (of_values ic parser vs)

of_range : (least most n : ℕ) → IsAlone (range_kinds least most n)
of_range least most n =
    by_test (nat_lt 0 least && n == 0) (one K.InvalidValue)
    (by_test (least == most) (by_test (least == n) none (one K.WrongNumberOfValues))
    (by_test (nat_lt n least) (one K.TooFewValues) (by_test (nat_lt most n) (one K.TooManyValues) none)))

of_request : (a : ArgAction) → IsAlone (request_kinds a)
of_request A.Help = one K.DisplayHelp
of_request A.HelpShort = one K.DisplayHelp
of_request A.HelpLong = one K.DisplayHelp
of_request A.Version = one K.DisplayVersion
of_request _ = none

of_check : (s : Shape) (rows : List Row) (has : Bool) → IsAlone (check_fault s rows has)
of_check s rows has =
    by_test (not has && (s.arg_required_else_help && not (list_any (λ r. explicit_source r.source) rows))) (one K.DisplayHelpOnMissingArgumentOrSubcommand)
    (by_test (not has && s.subcommand_required) (one K.MissingSubcommand)
    (by_test (not (s.subcommand_negates_reqs && has) && list_any (λ a. a.required && not (is_given a.id rows)) s.rules) (one K.MissingRequiredArgument) none))

of_count : (a : Rule) (values : List Text) (rows : List Row) → IsAlone (count_fault a values rows)
of_count a [] rows = of_value a.ignore_case (parser_of_value a.parser) (count_text (min (count_of a.id rows + 1) 255))
of_count a (v ∷ vs) rows = of_values a.ignore_case (parser_of_value a.parser) (v ∷ vs)

of_set : (again : Bool) (a : Rule) (values : List Text) (rows : List Row) → IsAlone (set_fault again a values rows)
of_set again a values rows =
    either (by_test (has_row a.id rows && not again) (one K.ArgumentConflict) none) (of_values a.ignore_case (parser_of_value a.parser) values)

of_action : (x : ArgAction) (again : Bool) (a : Rule) (values : List Text) (rows : List Row) → IsAlone (action_fault x again a values rows)
of_action A.Append again a values rows = of_values a.ignore_case (parser_of_value a.parser) values
of_action A.Count again a values rows = of_count a values rows
of_action A.Help again a values rows = one K.DisplayHelp
of_action A.HelpShort again a values rows = one K.DisplayHelp
of_action A.HelpLong again a values rows = one K.DisplayHelp
of_action A.Version again a values rows = one K.DisplayVersion
of_action _ again a values rows = of_set again a values rows

of_use : (again : Bool) (a : Rule) (values : List Text) (rows : List Row) → IsAlone (use_fault again a values rows)
of_use again a values rows =
    either (of_range (unwrap_or_range a.range).start_inclusive (most_values a) (length values)) (of_action (action_of a) again a (values_or_missing a values) rows)

-- ---- the words

of_settled : (c : List Rule) (again : Bool) (h : Held) → IsAlone (settle_fault c again h)
of_settled c again h = if_any h.pending (λ p. if_any (arg_by_id c p.0) (λ a. of_use again a p.1 h.rows) none) none

of_reaction : (c : List Rule) (again : Bool) (a : Rule) (values : List Text) (h : Held) → IsAlone (react_fault c again a values h)
of_reaction c again a values h = either (of_settled c again h) (of_use again a values (settled c h).rows)

of_option : (c : List Rule) (again : Bool) (a : Rule) (v : Option Text) (h : Held) → IsAlone (option_fault c again a v h)
of_option c again a (Some v) h = of_reaction c again a (v ∷ []) h
of_option c again a None h = of_settled c again h

of_long : (c : List Rule) (again : Bool) (a : Option Rule) (v : Option Text) (h : Held) → IsAlone (long_fault c again a v h)
of_long c again None v h = one K.UnknownArgument
of_long c again (Some a) v h =
    by_test (takes_values a) (of_option c again a v h) (by_test (is_some v) (one K.TooManyValues) (of_reaction c again a [] h))

of_short : (c : List Rule) (again : Bool) (a : Option Rule) (rest : Text) (h : Held) (more : Held → Kinds) → ((k : Held) → IsAlone (more k)) → IsAlone (short_fault c again a rest h more)
of_short c again None rest h more p = one K.UnknownArgument
of_short c again (Some a) rest h more p =
    by_test (takes_values a) (of_option c again a (attached_value rest) h) (either (of_reaction c again a [] h) (p (reacted c a [] h)))

of_bundle_step : (c : List Rule) (again : Bool) (x : Option ℕ) (flags : Text) (skip : ℕ) (h : Held) (more : Text → ℕ → Held → Kinds) → ((t : Text) (n : ℕ) (k : Held) → IsAlone (more t n k)) → IsAlone (bundle_step_fault c again x flags skip h more)
of_bundle_step c again None flags skip h more p = none
of_bundle_step c again (Some x) flags zero h more p =
    let rest = drop (length (encode_utf8 x)) flags in
    of_short c again (arg_by_short c x) rest h (more rest 0) (p rest 0)
of_bundle_step c again (Some x) flags (suc skip) h more p = p (drop (length (encode_utf8 x)) flags) skip h

of_flags : (c : List Rule) (again : Bool) (k : ℕ) (flags : Text) (skip : ℕ) (h : Held) → IsAlone (flags_fault c again k flags skip h)
unfolding flags_fault
of_flags c again zero flags skip h = none
of_flags c again (suc k) flags skip h =
    of_bundle_step c again (slice_get (chars flags) 0) flags skip h (flags_fault c again k) (of_flags c again k)

of_flag_word : (c : List Rule) (again : Bool) (p : Option (Text × Option Text)) (word : Text) (h : Held) → IsAlone (flag_word_fault c again p word h)
of_flag_word c again (Some p) word h = of_long c again (arg_by_long c p.0) p.1 h
of_flag_word c again None word h =
    if_any (short_of word) (λ flags. of_flags c again (length flags) flags h.skip (record h { skip = 0 })) none

-- where the command `help` is disabled, no word asks for it
disabled_help : (t b : Bool) (k : Kinds) → b ≡ true → IsAlone (if t && not b then k else [])
disabled_help true true k e = none
disabled_help false true k e = none
disabled_help t false k e = cc

of_other : (s : Shape) (met : Option Text) (word : Text) (h : Held) → ((name : Text) → met ≡ Some name → s.disable_help_subcommand ≡ true) → IsAlone (other_fault s met word h)
of_other s (Some name) word h p =
    disabled_help (bytes_eq name (codes "help")) s.disable_help_subcommand (K.DisplayHelp ∷ K.InvalidSubcommand ∷ []) (p name refl)
of_other s None word h p = by_test (bytes_eq word (45 ∷ 45 ∷ [])) none (of_flag_word s.rules s.args_override_self (long_of word) word h)

stray_is : (call : ErrorKind) → IsCall call → IsAmong call (K.UnknownArgument ∷ K.InvalidSubcommand ∷ []) → K.UnknownArgument ∷ K.InvalidSubcommand ∷ [] ≡ call ∷ []
stray_is call (inl help) (inl same) = let bad = sym help ∙ same in cc
stray_is call (inr version) (inl same) = let bad = sym version ∙ same in cc
stray_is call (inl help) (inr (inl same)) = let bad = sym help ∙ same in cc
stray_is call (inr version) (inr (inl same)) = let bad = sym version ∙ same in cc
stray_is call is (inr (inr more)) = absurd more

of_stray : (s : Shape) → IsAlone (stray_fault s)
of_stray s = by_test s.is_leaf (one K.UnknownArgument) (record { alone = stray_is })

of_step : (s : Shape) (position : ℕ) (h : Held) (step : Step) → IsAlone (step_fault s position h step)
of_step s position h value =
    if_any (arg_by_index s.rules position) (λ a. by_test (is_pending a h.pending && takes_several a) none (of_settled s.rules s.args_override_self h)) (of_stray s)
of_step s position h (next w) = none
of_step s position h (trailing n) = none
of_step s position h (subcommand t) = none

-- Where a word names a command, the command `help` is disabled.
abbrev HasNoHelp : Shape → Names → Type 0
HasNoHelp s names = (waiting : Waiting) (word name : Text) → subcommand_met names waiting word ≡ Some name → s.disable_help_subcommand ≡ true

of_turn : (s : Shape) (names : Names) (w : Walk) (word : Text) → HasNoHelp s names → IsAlone (turn_fault s names w word)
of_turn s names w word p =
    let met = word_met s.rules names w.is_trailing w.waiting w.position word w.held in
    by_test (is_some w.stopped) none
    (either (by_test w.is_trailing none (of_other s (subcommand_met names w.waiting word) word w.held (p w.waiting word))) (of_step s w.position met.0 met.1))

of_walk : (s : Shape) (names : Names) (w : Walk) (words : List Text) → HasNoHelp s names → IsAlone (walk_fault s names w words)
unfolding walk_fault
of_walk s names w [] p = none
of_walk s names w (word ∷ rest) p = either (of_turn s names w word p) (of_walk s names (walked s.rules names w word) rest p)

-- ---- after the words

of_default : (rows : List Row) (a : Rule) → IsAlone (default_fault rows a)
of_default rows a =
    by_test (has_row a.id rows || is_empty a.defaults) none (either (of_request (action_of a)) (of_values a.ignore_case (parser_of_value a.parser) a.defaults))

of_defaults : (rows : List Row) (rules : List Rule) → IsAlone (defaults_fault rows rules)
unfolding defaults_fault
of_defaults rows [] = none
of_defaults rows (a ∷ rest) = either (of_default rows a) (of_defaults (with_default rows a) rest)

of_level : (s : Shape) (names : Names) (h : Held) (words : List Text) (has : Bool) (below : Kinds) → HasNoHelp s names → IsAlone below → IsAlone (level_fault s names h words has below)
of_level s names h words has below p q =
    let end = (walk s.rules names h words).held in
    either (of_walk s names (walk_from h) words p)
    (either q (either (of_settled s.rules s.args_override_self end) (either (of_defaults (settled s.rules end).rows s.rules) (of_check s (finished s.rules end) has))))

no_names : (s : Shape) → HasNoHelp s []
no_names s idle word name e = cc
no_names s (option t) word name e = cc
no_names s positional word name e = cc

of_entered : (a : App) (stop : Option (Text × List Text)) → IsAlone (entered_fault a stop)
of_entered a stop =
    if_any stop (λ p. if_any (find (λ s. answers_to p.0 (label_of s)) a.subs) (λ s. of_level s [] nothing_held p.1 false [] (no_names s) none) none) none

of_built : (a : App) (h : Held) (words : List Text) → a.top.disable_help_subcommand ≡ true → IsAlone (built_fault a h words)
of_built a h words e =
    let stop = (walk a.top.rules (names_of a) h words).stopped in
    of_level a.top (names_of a) h words (is_some (entered a stop)) (entered_fault a stop) (λ _ _ _ _. e) (of_entered a stop)

disabled : (built program).top.disable_help_subcommand ≡ true
unfolding program clap_on_literals
disabled = refl

-- a call among the faults of words is the only fault
pub call_alone : (call : ErrorKind) (words : List Text) → IsCall call → IsAmong call (fault_of program words) → fault_of program words ≡ call ∷ []
call_alone call words is among = (of_built (built program) nothing_held (argument_words program words) disabled).alone call is among
