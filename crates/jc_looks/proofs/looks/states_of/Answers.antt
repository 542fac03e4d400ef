use Rattle.std.proofs.Common.{length, sym, subst}
use Rattle.std.proofs.lemmas.Result.{IfOk-weaker}
use Rattle.jc_looks.specs.declared.looks.Look.TheVariants as L
use Rattle.jc_looks.specs.Looks.{ShowsLook, IsWithin}
use Rattle.jc_looks.proofs.LooksLemmas.{shows_state}
use Rattle.jc_looks.proofs.looks.states_of.Goals as goal

pub state_of-requires : goal.state_of-requires
state_of-requires c = subst (λ r. IsWithin (length c.args.net.now.history.now.states) (L.State r)) c.in-Some.is c.requires

pub returns-in-Some : goal.returns-in-Some
returns-in-Some c =
    let names = c.args.net.now.names in
    let states = c.args.net.now.history.now.states in
    IfOk-weaker c.state_of.result _ _ (λ answer h. shows_state names states c.args.p c.in-Some.p answer.items c.in-Some.is c.requires h) c.state_of.ensures

pub returns-in-None : goal.returns-in-None
returns-in-None c =
    let names = c.args.net.now.names in
    let states = c.args.net.now.history.now.states in
    IfOk-weaker c.states.result _ _ (λ answer h. subst (λ r. ShowsLook names states (L.State r) answer.items) (sym c.in-None.is) h) c.states.ensures
