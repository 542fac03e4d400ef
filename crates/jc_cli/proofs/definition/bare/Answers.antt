use Rattle.std.proofs.Common.{ap, codes, true, ◌≡◌, ◌∙◌}
use Rattle.clap.specs.Words.{App, app_of, new_app}
use Rattle.clap.specs.Simple.{app_of_fields}
use Rattle.jc_cli.proofs.definition.bare.Goals as goal

bare_name : App → App
bare_name a = record { top = record a.top { no_binary_name = true }; subs = a.subs }

bare_help : App → App
bare_help a = record { top = record a.top { disable_help_subcommand = true }; subs = a.subs }

bare_wanted : App → App
bare_wanted a = record { top = record a.top { subcommand_required = true }; subs = a.subs }

bare_version : App → App
bare_version a = record { top = record a.top { has_version = true }; subs = a.subs }

pub returns : goal.returns
unfolding bare_name bare_help bare_wanted bare_version
returns c =
    let named : app_of c.override_usage.result ≡ new_app (codes "jsoncrdt") = ap app_of_fields c.override_usage.ensures ∙ ap app_of_fields c.about.ensures ∙ ap app_of_fields c.in_ok-bin_name.ensures.0 ∙ c.new.ensures.app in
    let dated : app_of c.after_help.result ≡ bare_version (new_app (codes "jsoncrdt")) = ap app_of_fields c.after_help.ensures ∙ ap app_of_fields c.version.ensures ∙ ap bare_version named in
    let first = ap app_of_fields c.no_binary_name.ensures ∙ ap bare_name dated in
    let second = ap app_of_fields c.disable_help_subcommand.ensures ∙ ap bare_help first in
    ap app_of_fields c.subcommand_required-top.ensures ∙ ap bare_wanted second
