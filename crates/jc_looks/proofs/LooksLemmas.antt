-- Of `Looks`: lists of views, and what is shown of a network's replica.
use Rattle.std.proofs.Common.{◌≡◌, ℕ, zero, suc, ◌+◌, ◌<◌, ◌≤◌, List, [], ◌∷◌, ◌++◌, length, take, get_or, slice_get, Option, Some, IfSome, inr, refl, sym, ap, subst, ◌∙◌, arith}
use Rattle.std.proofs.lemmas.List.{take_all}
use Rattle.std.proofs.lemmas.Option.{slice_get-get_or}
use Rattle.jc_rules.specs.declared.operation.Event.{Event}
use Rattle.jc_rules.specs.Refused.{Cause}
use Rattle.jc_rules.specs.ReplicaNames.{name_at}
use Rattle.jc_rules.specs.State.{State, Bound, start}
use Rattle.jc_rules.specs.Context.{Context}
use Rattle.jc_rules.specs.Syntax.{Expr}
use Rattle.jc_rules.specs.Step.{Network, AfterIn}
use Rattle.jc_rules.specs.Trace.{Rows}
use Rattle.jc_scenario.specs.WellFormed.{Scenario}
use Rattle.jc_replica.specs.ReplicaHistory.{ReplicaHistory, no_rows}
use Rattle.jc_network.specs.declared.fault.Stuck.{Stuck}
use Rattle.jc_network.specs.Given.{before_given, IsGivenFault}
use Rattle.jc_network.specs.Steps.{HasReplica}
use Rattle.jc_network.proofs.GivenLemmas.{led_or_stuck}
use Rattle.jc_cursor.specs.Evaluates.{Evaluates, IsEvalRefused}
use Rattle.jc_answers.specs.declared.arrays.ArrayText.{ArrayText}
use Rattle.jc_answers.specs.Parts.{HasItems}
use Rattle.jc_dump.specs.Dump.{brief_text}
use Rattle.jc_looks.specs.declared.fault.LookFault.{LookFault}
use Rattle.jc_looks.specs.declared.fault.LookFault.TheVariants as F
use Rattle.jc_looks.specs.declared.looks.Look.{Look}
use Rattle.jc_looks.specs.declared.looks.Look.TheVariants as L
use Rattle.jc_looks.specs.LookFaults.{RefusesBy}
use Rattle.jc_looks.specs.Looks.{texts_from, view_text, state_text, Gives, OfReplica, no_value_answer, ShowsValue, ShowsLook, IsWithin}

-- ---- lists of texts

module _ (text : List (List ℕ) → List ℕ → State → List ℕ) (names : List (List ℕ)) where
  next_text : (n p : ℕ) (states : List State) (A : State) → slice_get states p ≡ Some A → texts_from text n names (take (suc p) states) ≡ texts_from text n names (take p states) ++ text names (name_at names (n + p)) A ∷ []
  next_text n p [] A e = let no : slice_get {X = State} [] p ≡ Some A = e in cc
  next_text n zero (B ∷ states) A e =
      let same : B ≡ A = cc in
      let number : n ≡ n + 0 = omega arith in
      λ i. text names (name_at names (number i)) (same i) ∷ []
  next_text n (suc p) (B ∷ states) A e =
      let number : suc n + p ≡ n + suc p = omega arith in
      ap (λ ts. text names (name_at names n) B ∷ ts) (next_text (suc n) p states A e ∙ ap (λ k. texts_from text (suc n) names (take p states) ++ text names (name_at names k) A ∷ []) number)

  texts_more : (states : List State) (p : ℕ) (found : List ℕ) → p < length states → ((A : State) → slice_get states p ≡ Some A → found ≡ text names (name_at names p) A) → texts_from text 0 names (take p states) ++ found ∷ [] ≡ texts_from text 0 names (take (p + 1) states)
  texts_more states p found lt h =
      let there = slice_get-get_or states p (start []) lt in
      let A = get_or states p (start []) in
      let one : p + 1 ≡ suc p = omega arith in
      let number : 0 + p ≡ p = omega arith in
      ap (λ t. texts_from text 0 names (take p states) ++ t ∷ []) (h A there) ∙ ap (λ k. texts_from text 0 names (take p states) ++ text names (name_at names k) A ∷ []) (sym number) ∙ sym (next_text 0 p states A there) ∙ ap (λ m. texts_from text 0 names (take m states)) (sym one)

  pub more_texts : (states : List State) (p : ℕ) (a : ArrayText) (found : List ℕ) → p < length states → ((A : State) → slice_get states p ≡ Some A → found ≡ text names (name_at names p) A) → HasItems a (texts_from text 0 names (take p states) ++ found ∷ []) → HasItems a (texts_from text 0 names (take (p + 1) states))
  more_texts states p a found lt is h = subst (HasItems a) (texts_more states p found lt is) h

  pub all_texts : (states : List State) (n : ℕ) (a : ArrayText) → length states ≤ n → HasItems a (texts_from text 0 names (take n states)) → HasItems a (texts_from text 0 names states)
  all_texts states n a enough h = subst (HasItems a) (ap (texts_from text 0 names) (take_all n states enough)) h

-- ---- values

-- what the parts of a replica give is given in its state
pub gives_in : (states : List State) (p : ℕ) (replica : ReplicaHistory) (tree : Context) (vars : List (List ℕ × Bound)) (e : Expr) (b : Bound) (old new : Rows)
    → HasReplica states p replica → tree ≡ replica.history.now.tree → vars ≡ replica.history.now.vars → old ≡ no_rows → Evaluates tree vars e b old new → OfReplica states p (λ A. Gives A e b)
gives_in states p replica tree vars e b old new has tree_is vars_is first h =
    let same_tree : tree ≡ has.at.tree = tree_is ∙ ap (λ (S : State). S.tree) has.kept in
    let same_vars : vars ≡ has.at.vars = vars_is ∙ ap (λ (S : State). S.vars) has.kept in
    (has.at, has.there, (new, subst (λ r. Evaluates has.at.tree has.at.vars e b r new) first (subst (λ v. Evaluates has.at.tree v e b old new) same_vars (subst (λ t. Evaluates t vars e b old new) same_tree h))))

-- and what they refuse is refused in it
pub refused_in : (states : List State) (p : ℕ) (replica : ReplicaHistory) (tree : Context) (vars : List (List ℕ × Bound)) (e : Expr) (names all : List (List ℕ)) (cause : Option Cause) (why : Cause) (answer : List ℕ)
    → HasReplica states p replica → tree ≡ replica.history.now.tree → vars ≡ replica.history.now.vars → names ≡ all → IfSome cause (λ due. IsEvalRefused tree vars e due) → cause ≡ Some why → answer ≡ no_value_answer names why
    → OfReplica states p (λ A. (due : Cause) × IsEvalRefused A.tree A.vars e due × (answer ≡ no_value_answer all due))
refused_in states p replica tree vars e names all cause why answer has tree_is vars_is same h some is =
    let same_tree : tree ≡ has.at.tree = tree_is ∙ ap (λ (S : State). S.tree) has.kept in
    let same_vars : vars ≡ has.at.vars = vars_is ∙ ap (λ (S : State). S.vars) has.kept in
    let refused : IsEvalRefused tree vars e why = subst (λ o. IfSome o (λ due. IsEvalRefused tree vars e due)) some h in
    (has.at, has.there, (why, subst (λ v. IsEvalRefused has.at.tree v e why) same_vars (subst (λ t. IsEvalRefused t vars e why) same_tree refused), is ∙ ap (λ ns. no_value_answer ns why) same))

-- ---- a replica that is there

-- the state of a replica that is there
pub of_each : (states : List State) (p : ℕ) (has : State → Type 0) → p < length states → ((A : State) → slice_get states p ≡ Some A → has A) → OfReplica states p has
of_each states p has lt h =
    let there = slice_get-get_or states p (start []) lt in
    (get_or states p (start []), there, h (get_or states p (start [])) there)

-- ---- looks

pub shows_view : (names : List (List ℕ)) (states : List State) (q : Option ℕ) (p : ℕ) (items : List ℕ) → q ≡ Some p → IsWithin (length states) (L.View q) → ((A : State) → slice_get states p ≡ Some A → items ≡ view_text names (name_at names p) A) → ShowsLook names states (L.View q) items
shows_view names states q p items some within h =
    subst (λ r. ShowsLook names states (L.View r) items) (sym some) (of_each states p (λ A. items ≡ view_text names (name_at names p) A) (subst (λ r. IsWithin (length states) (L.View r)) some within) h)

pub shows_state : (names : List (List ℕ)) (states : List State) (q : Option ℕ) (p : ℕ) (items : List ℕ) → q ≡ Some p → IsWithin (length states) (L.State q) → ((A : State) → slice_get states p ≡ Some A → items ≡ state_text names (name_at names p) A) → ShowsLook names states (L.State q) items
shows_state names states q p items some within h =
    subst (λ r. ShowsLook names states (L.State r) items) (sym some) (of_each states p (λ A. items ≡ state_text names (name_at names p) A) (subst (λ r. IsWithin (length states) (L.State r)) some within) h)

pub shows_brief : (names : List (List ℕ)) (states : List State) (look : Look) (p : ℕ) (items : List ℕ) → look ≡ L.Brief p → IsWithin (length states) look → ((A : State) → slice_get states p ≡ Some A → items ≡ brief_text names (name_at names p) A) → ShowsLook names states look items
shows_brief names states look p items is within h =
    subst (λ l. ShowsLook names states l items) (sym is) (of_each states p (λ A. items ≡ brief_text names (name_at names p) A) (subst (IsWithin (length states)) is within) h)

-- where an expression gives nothing, that is shown of it
pub refused_shows : (text : State → Bound → List ℕ) (names : List (List ℕ)) (states : List State) (p : ℕ) (e : Expr) (fault : LookFault)
    → RefusesBy (λ answer. OfReplica states p (λ A. (why : Cause) × IsEvalRefused A.tree A.vars e why × (answer ≡ no_value_answer names why))) fault
    → RefusesBy (λ answer. OfReplica states p (λ A. ShowsValue (text A) names A e answer)) fault
refused_shows text names states p e (F.Refused answer) h = (h.0, h.1, inr h.2)
refused_shows text names states p e F.Memory h = tt

-- ---- networks before the start

-- of given events that lead somewhere none is stuck
pub none_stuck : (s : Scenario) (given : List Event) (first last : Network) (at : ℕ) (t : Stuck) → first ≡ before_given s → AfterIn (before_given s) given last → IsGivenFault first given at t → ⊥
none_stuck s given first last at t is led h =
    let fault : IsGivenFault (before_given s) given at t = subst (λ (N : Network). IsGivenFault N given at t) is h in
    (led_or_stuck s.scripts (before_given s) given ([], refl)).1 last at fault.event fault.why led fault.stuck
