use Rattle.std.proofs.Common.{ap, ◌∙◌, map, subst}
use Rattle.std.proofs.lemmas.Result.{IfOk-weaker}
use Rattle.clap.specs.Words.{App, is_simple, is_simple_and_free, subcommand_of, FailsBy, fault_of}
use Rattle.jc_cli.proofs.LiteralsLemmas.{simple, free}
use Rattle.jc_cli.proofs.reading.matches_of.Goals as goal

pub returns-clause-ok : goal.returns-clause-ok
returns-clause-ok c =
    IfOk-weaker c.try_get_matches_from.result _ _ (λ m h. (h (ap is_simple c.in_ok-definition.ensures ∙ simple)).1 ∙ ap (λ (a : App). subcommand_of a (map (λ s. s.now) c.args.words.now)) c.in_ok-definition.ensures) c.try_get_matches_from.ensures.matches

pub returns-clause-kinds : goal.returns-clause-kinds
returns-clause-kinds c =
    subst (λ (a : App). FailsBy (fault_of a (map (λ s. s.now) c.args.words.now)) c.try_get_matches_from.result) c.in_ok-definition.ensures
    (c.try_get_matches_from.ensures.kinds (ap is_simple_and_free c.in_ok-definition.ensures ∙ free))
