use Rattle.std.proofs.Common.{length, subst}
use Rattle.jc_looks.specs.Looks.{IsWithin}
use Rattle.jc_looks.proofs.LooksLemmas.{shows_brief}
use Rattle.jc_looks.proofs.looks.shown.Goals as goal

pub brief_of-requires : goal.brief_of-requires
brief_of-requires c = subst (IsWithin (length c.args.net.now.history.now.states)) c.in-Brief.is c.requires

pub returns-in_ok-brief_of-in-Brief : goal.returns-in_ok-brief_of-in-Brief
returns-in_ok-brief_of-in-Brief c = shows_brief c.args.net.now.names c.args.net.now.history.now.states c.args.look.now c.in-Brief.p c.in_ok-brief_of-in-Brief.field-0.items c.in-Brief.is c.requires c.in_ok-brief_of-in-Brief.ensures
