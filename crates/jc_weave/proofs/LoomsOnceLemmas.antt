-- About specs/Looms and Laws: a loom has one turn at most, so a seed has one schedule.
use Rattle.std.proofs.Common.{arith, ◌≡◌, ℕ, List, [], ◌∷◌, refl, sym, ◌∙◌, ap, subst, slice_set, None, inl, inr, ◌⊎◌}
use Rattle.std.proofs.lemmas.Option.{same_Some, none-some}
use Rattle.jc_rules.specs.declared.operation.Event.{Event}
use Rattle.jc_rules.specs.Refused.{Cause, IsStuckIn}
use Rattle.jc_rules.specs.Step.{Network, StepIn}
use Rattle.jc_rules.proofs.VersionLemmas.{one_step_in, one_after_in, one_stuck_in, stuck_in_has_none}
use Rattle.jc_network.specs.Given.{before_given}
use Rattle.jc_scenario.specs.WellFormed.{Scenario}
use Rattle.jc_choice.specs.declared.end.End.{End}
use Rattle.jc_weave.specs.Looms.{Loom, LoomTurn, makes, finishes, gets_stuck, MakesChosen, LeavesLoom, ChoosesStuck, IsLoomTurn, WeavesTo, drawn_replica, drawn_choice}
use Rattle.jc_weave.specs.Weaving.{loom, first_loom, made_events, stuck_events, ends_in, IsWoven}

same_loom : (M K : Loom) → M.network ≡ K.network → M.phases ≡ K.phases → M.live ≡ K.live → M.generator ≡ K.generator → M.left ≡ K.left → M ≡ K
same_loom M K a b c d e = λ i. loom (a i) (b i) (c i) (d i) (e i)

-- a choice isn't none
no_choice : (L M : Loom) (e : Event) → MakesChosen L e M → drawn_choice L ≡ None → ⊥
no_choice L M e m none = none-some _ (sym none ∙ m.is_chosen)

stuck_choice : (L : Loom) (e : Event) (why : Cause) → ChoosesStuck L e why → drawn_choice L ≡ None → ⊥
stuck_choice L e why c none = none-some _ (sym none ∙ c.is_chosen)

-- what is made isn't stuck
not_stuck : (L M : Loom) (e f : Event) (why : Cause) → MakesChosen L e M → ChoosesStuck L f why → ⊥
not_stuck L M e f why m c =
    let same : e ≡ f = ap (λ x. x.0) (same_Some (e, m.next) (f, c.next) (sym m.is_chosen ∙ c.is_chosen)) in
    stuck_in_has_none L.network M.network f why m.rows c.is_stuck (subst (λ (g : Event). StepIn L.network g M.network m.rows) same m.step)

one_made : (L M K : Loom) (e f : Event) → MakesChosen L e M → MakesChosen L f K → (e ≡ f) × (M ≡ K)
one_made L M K e f a b =
    let both = same_Some (e, a.next) (f, b.next) (sym a.is_chosen ∙ b.is_chosen) in
    let same : e ≡ f = ap (λ x. x.0) both in
    let step = one_step_in L.network e M.network K.network a.rows b.rows a.step (subst (λ (g : Event). StepIn L.network g K.network b.rows) (sym same) b.step) in
    (same, same_loom M K step.0 (a.phases ∙ (ap (λ x. slice_set L.phases (drawn_replica L) x.1) both ∙ sym b.phases)) (a.live ∙ sym b.live) (a.generator ∙ sym b.generator) (omega (arith, a.left, b.left)))

one_left : (L M K : Loom) → LeavesLoom L M → LeavesLoom L K → M ≡ K
one_left L M K a b = same_loom M K (a.network ∙ sym b.network) (a.phases ∙ sym b.phases) (a.live ∙ sym b.live) (a.generator ∙ sym b.generator) (a.left ∙ sym b.left)

one_stuck : (L : Loom) (e f : Event) (why due : Cause) → ChoosesStuck L e why → ChoosesStuck L f due → gets_stuck e why ≡ gets_stuck f due
one_stuck L e f why due a b =
    let same : e ≡ f = ap (λ x. x.0) (same_Some (e, a.next) (f, b.next) (sym a.is_chosen ∙ b.is_chosen)) in
    let cause : why ≡ due = one_stuck_in L.network f why due (subst (λ (g : Event). IsStuckIn L.network g why) same a.is_stuck) b.is_stuck in
    λ i. gets_stuck (same i) (cause i)

one_turn : (L M K : Loom) (t u : LoomTurn) → IsLoomTurn L t M → IsLoomTurn L u K → (t ≡ u) × (M ≡ K)
one_turn L M K (makes e) (makes f) a b = let h = one_made L M K e f a.does b.does in (ap makes h.0, h.1)
one_turn L M K (finishes p) (finishes q) a b = (ap finishes (a.does.0 ∙ sym b.does.0), one_left L M K a.does.2 b.does.2)
one_turn L M K (gets_stuck e why) (gets_stuck f due) a b = (one_stuck L e f why due a.does.0 b.does.0, one_left L M K a.does.1 b.does.1)
one_turn L M K (makes e) (finishes q) a b = absurd (no_choice L M e a.does b.does.1)
one_turn L M K (finishes p) (makes f) a b = absurd (no_choice L K f b.does a.does.1)
one_turn L M K (gets_stuck e why) (finishes q) a b = absurd (stuck_choice L e why a.does.0 b.does.1)
one_turn L M K (finishes p) (gets_stuck f due) a b = absurd (stuck_choice L f due b.does.0 a.does.1)
one_turn L M K (makes e) (gets_stuck f due) a b = absurd (not_stuck L M e f due a.does b.does.0)
one_turn L M K (gets_stuck e why) (makes f) a b = absurd (not_stuck L K f e why b.does a.does.0)

abbrev HasEnded : Loom → Type 0
HasEnded M = (M.left ≡ 0) ⊎ (M.live ≡ [])

-- where a loom has ended there is no turn
no_turn : (L M K : Loom) (u : LoomTurn) → L ≡ M → HasEnded M → IsLoomTurn L u K → ⊥
no_turn L M K u same (inl none) is = absurd (omega (arith, is.room, ap (λ (X : Loom). X.left) same, none))
no_turn L M K u same (inr none) is = absurd (is.some (ap (λ (X : Loom). X.live) same ∙ none))

once : (L M K : Loom) (ts us : List LoomTurn) → WeavesTo L ts M → WeavesTo L us K → HasEnded M → HasEnded K → (ts ≡ us) × (M ≡ K)
once L M K [] [] a b em ek = (refl, sym a ∙ b)
once L M K [] (u ∷ us) a b em ek = absurd (no_turn L M b.0 u a em b.1)
once L M K (t ∷ ts) [] a b em ek = absurd (no_turn L K a.0 t b ek a.1)
once L M K (t ∷ ts) (u ∷ us) a b em ek =
    let h = one_turn L a.0 b.0 t u a.1 b.1 in
    let rest = once b.0 M K ts us (subst (λ (X : Loom). WeavesTo X ts M) h.1 a.2) b.2 em ek in
    ((λ i. h.0 i ∷ rest.0 i), rest.1)

pub one_schedule : (s : Scenario) (seed limit : ℕ) (a b : List Event) (N M : Network) (ends others : List End) → IsWoven s seed limit a N ends → IsWoven s seed limit b M others → (a ≡ b) × (N ≡ M) × (ends ≡ others)
one_schedule s seed limit a b N M ends others x y =
    let start : x.after.start ≡ y.after.start = one_after_in (before_given s) s.given x.after.start y.after.start x.after.is_start y.after.is_start in
    let weaves = subst (λ (S : Network). WeavesTo (first_loom s S seed limit) x.after.turns x.last) start x.after.weaves in
    let h = once (first_loom s y.after.start seed limit) x.last y.last x.after.turns y.after.turns weaves y.after.weaves x.is_over y.is_over in
    let network : N ≡ M = x.is_network ∙ (ap (λ (X : Loom). X.network) h.1 ∙ sym y.is_network) in
    let stucks : x.stucks ≡ y.stucks = x.after.stuck ∙ (ap stuck_events h.0 ∙ sym y.after.stuck) in (
      x.after.events ∙ (ap made_events h.0 ∙ sym y.after.events),
      network,
      x.are_ends ∙ ((λ i. ends_in (stucks i) (network i).states s.names) ∙ sym y.are_ends),
    )
