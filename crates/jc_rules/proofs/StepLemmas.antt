-- About specs/Step: an event has one step at most.
use Rattle.std.proofs.Common.{◌≡◌, ℕ, List, [], ◌∷◌, sym, ◌∙◌, ap, slice_set}
use Rattle.std.proofs.lemmas.Option.{same_Some}
use Rattle.jc_rules.specs.declared.operation.Event.{Event}
use Rattle.jc_rules.specs.declared.rule.Rule.{Rule}
use Rattle.jc_rules.specs.State.{State}
use Rattle.jc_rules.specs.Derivation.{Question, Occur, ToState, gives, asked, conclusion, trace}
use Rattle.jc_rules.specs.Step.{Step, After, replica_of}
use Rattle.jc_rules.proofs.DerivationLemmas.{same_derivation}

same_state : (q r : Question) (A B : State) → gives q (ToState A) ≡ gives r (ToState B) → A ≡ B
same_state q r A B e = cc

pub one_step : (network : List State) (event : Event) (new other : List State) (rows other_rows : List (Rule × ℕ)) → Step network event new rows → Step network event other other_rows → (new ≡ other) × (rows ≡ other_rows)
one_step network event new other rows other_rows a b =
    let before : a.before ≡ b.before = same_Some a.before b.before (sym a.is_there ∙ b.is_there) in
    let read : a.read ≡ b.read = same_Some a.read b.read (sym a.reads ∙ b.reads) in
    let question : asked (conclusion a.derivation) ≡ asked (conclusion b.derivation) = ap asked a.concludes ∙ ((λ i. Occur (before i) event (read i)) ∙ sym (ap asked b.concludes)) in
    let one : a.derivation ≡ b.derivation = same_derivation a.derivation b.derivation a.holds b.holds question in
    let after : a.after ≡ b.after = same_state (Occur a.before event a.read) (Occur b.before event b.read) a.after b.after (sym a.concludes ∙ (ap conclusion one ∙ b.concludes)) in
    (a.is_new ∙ (ap (slice_set network (replica_of event)) after ∙ sym b.is_new), a.is_trace ∙ (ap (trace 0) one ∙ sym b.is_trace))

pub one_after : (network : List State) (events : List Event) (last other : List State) → After network events last → After network events other → last ≡ other
one_after network [] last other a b = sym a ∙ b
one_after network (e ∷ es) last other a b =
    let same : a.0 ≡ b.0 = (one_step network e a.0 b.0 a.1 b.1 a.2 b.2).0 in
    one_after b.0 es last other (rw (← same) (a.3)) b.3
