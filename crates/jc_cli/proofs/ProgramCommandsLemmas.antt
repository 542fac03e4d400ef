-- About Arguments (words_order): the command that the arguments are, by what they matched. For `order_of`.
use Rattle.std.proofs.Common.{◌≡◌, ◌≢◌, ◌⊎◌, List, [], ◌∷◌, subst, true, Option, Some, None, Box, option_map, refl, ap, sym, ◌∙◌, inl, inr, codes, length, map}
use Rattle.std.specs.Box.{box_value}
use Rattle.std.specs.Option.{option_and_then}
use Rattle.clap.specs.Words.{IsAmong, Kinds, Row, Text, subcommand_of, subcommand_name_of, subcommand_rows_of}
use Rattle.clap.specs.Simple.{subcommand_rows}
use Rattle.clap.specs.declared.error.kind.ErrorKind.{ErrorKind}
use Rattle.clap.specs.declared.error.kind.ErrorKind.TheVariants.{DisplayHelp, DisplayVersion, OutOfMemory}
use Rattle.clap.specs.declared.parser.matches.ArgMatches.{ArgMatches}
use Rattle.clap.specs.declared.parser.matches.ArgMatches.TheViews.{out-ArgMatches, out-SubCommand}
use Rattle.clap.specs.declared.parser.matches.SubCommand.{SubCommand}
use Rattle.jc_cli.specs.Laws.{FaultlessAreOrders}
use Rattle.jc_cli.specs.Program.{program}
use Rattle.jc_cli.specs.Arguments.{with_help_meant, order_by, order_in, with_file, words_faults, words_order, AsksHelp, IsCall, IsFaultBy, IsFaultless, IsWordsFault}
use Rattle.jc_cli.proofs.HelpLemmas.{call_alone}
use Rattle.jc_cli.proofs.LiteralsLemmas.{none_asked}
use Rattle.jc_cli.specs.declared.order.Task.{Task}
use Rattle.jc_cli.specs.declared.order.Task.TheVariants.{Show}
use Rattle.jc_cli.specs.declared.order.View.TheVariants.{Run}
use Rattle.jc_cli.specs.declared.order.Order.{Order}
use Rattle.jc_cli.specs.declared.fault.WordsFault.{WordsFault}
use Rattle.jc_cli.specs.declared.fault.WordsFault.TheVariants.{Help, Usage, Memory}

-- ---- the command that words matched

pub whole : (o : Option (Text × List Row)) (name : Text) (rows : List Row) → Some name ≡ option_map (λ p. p.0) o → Some rows ≡ option_map (λ p. p.1) o → o ≡ Some (name, rows)
whole None name rows e f = cc
whole (Some p) name rows e f =
    let first : name ≡ p.0 = cc in
    let second : rows ≡ p.1 = cc in
    sym (ap (λ n. Some (n, rows)) first ∙ ap (λ r. Some (p.0, r)) second)

module _ {Z : Type 0} where
  names : (o : Option (Box SubCommand Z)) → option_map (λ b. (out-SubCommand (box_value b)).name.now) o ≡ option_map (λ p. p.0) (subcommand_rows o)
  names None = refl
  names (Some b) = refl

pub name_is : (m : ArgMatches) → subcommand_name_of m ≡ option_map (λ p. p.0) (subcommand_rows_of m)
name_is m = names (out-ArgMatches m).subcommand

-- ---- words that have a fault

among_one : (k call : ErrorKind) (kinds : Kinds) → IsAmong k kinds → kinds ≡ call ∷ [] → k ≡ call
among_one k call (x ∷ []) (inl same) e = let first : x ≡ call = cc in same ∙ first
among_one k call (x ∷ []) (inr more) e = absurd more
among_one k call (x ∷ y ∷ kinds) among e = cc
among_one k call [] among e = absurd among

no_order : (k : ErrorKind) (kinds : Kinds) (s : Option (Text × List Row)) → IsAmong k kinds → order_by kinds s ≡ None
no_order k [] s among = absurd among
no_order k (x ∷ kinds) s among = refl

pub no_words_order : (k : ErrorKind) (words : List Text) → words ≢ [] → IsAmong k (words_faults words) → words_order words ≡ None
unfolding words_order
no_words_order k [] some among = absurd (some refl)
no_words_order k (w ∷ ws) some among = no_order k (words_faults (w ∷ ws)) _ among

-- a call among the faults is what the words ask
asks_by : (k : ErrorKind) (words : List Text) → IsCall k → IsAmong k (words_faults words) → AsksHelp words
asks_by k words (inl help) among = inl (subst (λ (x : ErrorKind). words_faults words ≡ x ∷ []) help (call_alone k (with_help_meant words) (inl help) among))
asks_by k words (inr version) among = inr (subst (λ (x : ErrorKind). words_faults words ≡ x ∷ []) version (call_alone k (with_help_meant words) (inr version) among))

-- where the words ask, each of the faults is a call
call_by : (k : ErrorKind) (words : List Text) → IsAmong k (words_faults words) → AsksHelp words → IsCall k
call_by k words among (inl help) = inl (among_one k DisplayHelp (words_faults words) among help)
call_by k words among (inr version) = inr (among_one k DisplayVersion (words_faults words) among version)

memory_no_call : (k : ErrorKind) → k ≡ OutOfMemory → IsCall k → ⊥
memory_no_call k memory (inl help) = let bad : OutOfMemory ≡ DisplayHelp = sym memory ∙ help in cc
memory_no_call k memory (inr version) = let bad : OutOfMemory ≡ DisplayVersion = sym memory ∙ version in cc

-- the answer for an error is why the words are no order
pub faulty : (k : ErrorKind) (words : List Text) (fault : WordsFault) → words ≢ [] → (k ≡ OutOfMemory) ⊎ IsAmong k (words_faults words) → IsFaultBy k fault → IsWordsFault words fault
faulty k words Memory some why by = tt
faulty k words (Help text) some (inl memory) call = absurd (memory_no_call k memory call)
faulty k words (Help text) some (inr among) call = (no_words_order k words some among, asks_by k words call among)
faulty k words (Usage text) some (inl memory) (no_call, no_memory) = absurd (no_memory memory)
faulty k words (Usage text) some (inr among) (no_call, no_memory) = (no_words_order k words some among, λ asks. no_call (call_by k words among asks))

-- words that ask for help are no order
pub asks_none : (words : List Text) → AsksHelp words → words_order words ≡ None
unfolding words_order
asks_none [] asks = absurd (none_asked asks)
asks_none (w ∷ ws) (inl help) = ap (λ kinds. order_by kinds (subcommand_of program (with_help_meant (w ∷ ws)))) help
asks_none (w ∷ ws) (inr version) = ap (λ kinds. order_by kinds (subcommand_of program (with_help_meant (w ∷ ws)))) version

-- words without a fault ask for nothing
pub faultless_asks_nothing : (words : List Text) → IsFaultless words → AsksHelp words → ⊥
faultless_asks_nothing words none (inl help) = let bad : [] ≡ DisplayHelp ∷ [] = sym none ∙ help in cc
faultless_asks_nothing words none (inr version) = let bad : [] ≡ DisplayVersion ∷ [] = sym none ∙ version in cc

-- without a fault the words are taken for the order of their command
pub ordered : (words : List Text) (s : Option (Text × List Row)) (o : Option Order) → words ≢ [] → words_faults words ≡ [] → s ≡ subcommand_of program (with_help_meant words) → o ≡ option_and_then order_in s → words_order words ≡ o
unfolding words_order
ordered [] s o some none is e = absurd (some refl)
ordered (w ∷ ws) s o some none is e = ap (λ kinds. order_by kinds (subcommand_of program (with_help_meant (w ∷ ws)))) none ∙ ap (option_and_then order_in) (sym is) ∙ sym e

-- by the law, words without a fault are not without an order
pub unordered : FaultlessAreOrders → (words : List Text) → words ≢ [] → IsFaultless words → words_order words ≡ None → ⊥
unordered law [] some none e = some refl
unordered law (w ∷ ws) some none e = let bad = sym (law w ws none).1 ∙ e in cc

-- without a file there is no order
pub no_file : (t : Option Task) → with_file t None ≡ None
no_file None = refl
no_file (Some task) = refl

-- no words
pub unsaid : (words : List Text) (file : Text) → words ≡ [] → file ≡ codes "-" → words_order words ≡ Some (record { task = Show (Run true); file = file })
unfolding words_order
unsaid [] file e f = ap (λ (x : Text). Some (record { task = Show (Run true); file = x })) (sym f)
unsaid (w ∷ ws) file e f = cc

pub none_said : {X : Type 0} (f : X → Text) (xs : List X) → length xs ≡ 0 → map f xs ≡ []
none_said f [] e = refl
none_said f (x ∷ xs) e = cc

pub some_said : {X : Type 0} (f : X → Text) (xs : List X) → (length xs ≡ 0 → ⊥) → map f xs ≢ []
some_said f [] some e = some refl
some_said f (x ∷ xs) some e = cc

-- no words ask for no help
pub unasked : (words : List Text) → words ≡ [] → AsksHelp words → ⊥
unasked words e asks = none_asked (subst AsksHelp e asks)
