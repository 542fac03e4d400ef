-- About Program: the definition is simple, and no arguments lack a command.
use Rattle.std.proofs.Common.{◌≡◌, ◌∙◌, inl, inr, [], ◌∷◌, true, refl, sym}
use Rattle.clap.specs.Words.{is_simple, is_simple_and_free}
use Rattle.clap.proofs.OnLiterals.{clap_on_literals}
use Rattle.clap.specs.declared.error.kind.ErrorKind.TheVariants.{DisplayHelp, DisplayVersion, MissingSubcommand}
use Rattle.jc_cli.specs.Program.{program}
use Rattle.jc_cli.specs.Arguments.{with_help_meant, words_faults, AsksHelp}

pub simple : is_simple program ≡ true
unfolding program clap_on_literals
simple = refl

pub free : is_simple_and_free program ≡ true
unfolding program clap_on_literals
free = refl

-- no words: a command is wanted
none_wanted : words_faults [] ≡ MissingSubcommand ∷ []
unfolding program clap_on_literals with_help_meant
none_wanted = refl

-- so they ask for no help
pub none_asked : AsksHelp [] → ⊥
none_asked (inl help) = let bad : MissingSubcommand ∷ [] ≡ DisplayHelp ∷ [] = sym none_wanted ∙ help in cc
none_asked (inr version) = let bad : MissingSubcommand ∷ [] ≡ DisplayVersion ∷ [] = sym none_wanted ∙ version in cc
