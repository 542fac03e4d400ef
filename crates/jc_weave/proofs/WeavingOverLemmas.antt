-- About specs/Weaving and Laws: the turns of a seed come to an end.
use Rattle.std.proofs.Common.{arith, ◌≡◌, ◌≢◌, ℕ, zero, suc, ◌+◌, ◌≤◌, List, [], ◌∷◌, ◌⊎◌, inl, inr, Option, Some, None, refl, sym, ◌∙◌, length, slice_set}
use Rattle.rand_pcg.specs.Pcg.{pcg32}
use Rattle.jc_rules.specs.declared.operation.Event.{Event}
use Rattle.jc_rules.specs.Syntax.{Cmd}
use Rattle.jc_network.specs.Laws.{IsReached}
use Rattle.jc_network.proofs.EnabledLemmas.{StepsOrStuckIn}
use Rattle.jc_network.proofs.GivenLemmas.{step_or_stuck_in, reached_more}
use Rattle.jc_network.proofs.GivenHistoryLemmas.{start_reached}
use Rattle.jc_choice.specs.declared.phase.Phase.{Phase}
use Rattle.jc_weave.specs.Laws.{EachSeedWeaves}
use Rattle.jc_weave.specs.Looms.{Loom, LoomTurn, makes, finishes, gets_stuck, IsLoomTurn, WeavesTo, LeavesLoom, drawn_replica, drawn_choice, without_replica}
use Rattle.jc_weave.specs.Weaving.{loom, first_loom, numbers_from, made_events, stuck_events, ends_in}
use Rattle.jc_weave.proofs.LoomsLemmas.{fewer}

-- turns that lead from the loom to one at which no event may be made, or each replica has left
record IsOverAfter (L : Loom) : Type 0 where
  last : Loom
  turns : List LoomTurn
  weaves : WeavesTo L turns last
  is_over : (last.left ≡ 0) ⊎ (last.live ≡ [])

over_now : (L : Loom) → (L.left ≡ 0) ⊎ (L.live ≡ []) → IsOverAfter L
over_now L e = record { last = L; turns = []; weaves = refl; is_over = e }

over_after : (L M : Loom) (t : LoomTurn) → IsLoomTurn L t M → IsOverAfter M → IsOverAfter L
over_after L M t is o = record { last = o.last; turns = t ∷ o.turns; weaves = (M, is, o.weaves); is_over = o.is_over }

-- where the drawn replica leaves
abbrev after_leaving : Loom → Loom
after_leaving L = loom L.network L.phases (without_replica (drawn_replica L) L.live) (pcg32 L.generator).1 L.left

leaves : (L : Loom) → LeavesLoom L (after_leaving L)
leaves L = record { network = refl; phases = refl; live = refl; generator = refl; left = refl }

abbrev EndsWithin : List (List Cmd) → ℕ → Type 0
EndsWithin scripts n = (M : Loom) → IsReached scripts M.network.states → M.left + length M.live ≤ n → IsOverAfter M

turns_end : (scripts : List (List Cmd)) (n : ℕ) (L : Loom) → IsReached scripts L.network.states → L.left + length L.live ≤ n → IsOverAfter L
turns_end scripts zero L r few = over_now L (inl (omega (arith, few)))
turns_end scripts (suc n) L r few = by_left (λ M. turns_end scripts n M) L.left refl L.live refl
  where
    fewer_live : L.live ≢ [] → L.left + length (without_replica (drawn_replica L) L.live) ≤ n
    fewer_live some = omega (arith, few, fewer L.network.states L.phases L.live L.generator (drawn_replica L) some refl)

    by_step : EndsWithin scripts n → (e : Event) (next : Phase) (k : ℕ) → L.left ≡ suc k → L.live ≢ [] → drawn_choice L ≡ Some (e, next) → StepsOrStuckIn L.network e → IsOverAfter L
    by_step rest e next k room some is (inl (N, rows, step)) =
        let M : Loom = loom N (slice_set L.phases (drawn_replica L) next) L.live (pcg32 L.generator).1 k in
        over_after L M (makes e) (record {
          room = omega (arith, room);
          some = some;
          does = record {
            next = next;
            rows = rows;
            is_chosen = is;
            step = step;
            phases = refl;
            live = refl;
            generator = refl;
            left = omega (arith, room);
          };
        }) (rest M (reached_more scripts L.network N e rows r step) (omega (arith, few, room)))
    by_step rest e next k room some is (inr (why, stuck)) =
        over_after L (after_leaving L) (gets_stuck e why) (record {
          room = omega (arith, room);
          some = some;
          does = (record { next = next; is_chosen = is; is_stuck = stuck }, leaves L);
        }) (rest (after_leaving L) r (fewer_live some))

    by_choice : EndsWithin scripts n → (k : ℕ) → L.left ≡ suc k → L.live ≢ [] → (o : Option (Event × Phase)) → drawn_choice L ≡ o → IsOverAfter L
    by_choice rest k room some None is =
        over_after L (after_leaving L) (finishes (drawn_replica L)) (record { room = omega (arith, room); some = some; does = (refl, is, leaves L) }) (rest (after_leaving L) r (fewer_live some))
    by_choice rest k room some (Some (e, next)) is = by_step rest e next k room some is (step_or_stuck_in scripts L.network e r)

    by_left : EndsWithin scripts n → (left : ℕ) → L.left ≡ left → (live : List ℕ) → L.live ≡ live → IsOverAfter L
    by_left rest zero none live are = over_now L (inl none)
    by_left rest (suc k) room [] are = over_now L (inr are)
    by_left rest (suc k) room (p ∷ ps) are =
        by_choice rest k room (λ none. let no : p ∷ ps ≡ [] = sym are ∙ none in cc) (drawn_choice L) refl

pub each_seed_weaves : EachSeedWeaves
each_seed_weaves s start seed limit is =
    let over = turns_end s.scripts (limit + length (numbers_from 0 s.names)) (first_loom s start seed limit) (start_reached s start is) (omega arith) in (
      made_events over.turns,
      over.last.network,
      ends_in (stuck_events over.turns) over.last.network.states s.names,
      record {
        last = over.last;
        stucks = stuck_events over.turns;
        after = record {
          start = start;
          is_start = is;
          turns = over.turns;
          weaves = over.weaves;
          events = refl;
          stuck = refl;
        };
        is_over = over.is_over;
        is_network = refl;
        are_ends = refl;
      },
    )
