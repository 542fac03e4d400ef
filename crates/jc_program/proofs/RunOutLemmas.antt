-- About PlayResult (Added): what a task added to an output that was made over a sink, and what of it is written then.
use Rattle.std.proofs.Common.{◌≡◌, ℕ, List, [], ◌∷◌, ◌++◌, Bool, true, false, not, take, Result, Ok, Err, IfOk, OnErr, sym, subst, append-nil, arith}
use Rattle.jc_scenario.specs.WellFormed.{Scenario}
use Rattle.jc_network.specs.Given.{LedOrStuck}
use Rattle.jc_network.specs.Laws.{StepOrStuck}
use Rattle.jc_io.specs.Written.{Stream, Wrote, WrotePart, Written, WrittenInPart}
use Rattle.jc_io.proofs.WrittenLemmas.{part_of_longer}
use Rattle.jc_cli.specs.declared.order.View.{View}
use Rattle.jc_out.specs.Out.{OutState, GaveText, AddsText}
use Rattle.jc_out.specs.Pieces.{EndsBy, EndsAfter, pieces_text}
use Rattle.jc_program.specs.declared.run.Halted.{Halted}
use Rattle.jc_program.specs.PlayResult.{Added}
use Rattle.jc_program.specs.ViewText.{Shows}
use Rattle.jc_program.specs.ViewOutput.{IsUnfinishedOf}
use Rattle.jc_program.proofs.SomeRunLemmas.{view_front}

-- what holds after a fault that is passed on
pub on_err : {T E : Type 0} (X : Type 0) (r : Result T E) → X → OnErr r X
on_err X (Ok v) x = tt
on_err X (Err e) x = x

-- whether a write failed, by what the end of the output says
pub broken_by : (is_broken whole told : Bool) → whole ≡ not is_broken → whole ≡ told → is_broken ≡ not told
broken_by is_broken whole told e t = grind arith

-- An output that was given nothing was given the added text, and ended. Once it is gone its sink is the stream `now`.
module _ (first now : Stream) (a b o : OutState) (same : o.stream ≡ now) (none : GaveText [] first a) (ends : (n : ℕ) (pieces : List (List ℕ)) (first : Stream) → GaveText (pieces_text (take n pieces)) first b → EndsAfter n pieces first o) where
  at_end : (broken : Bool) → o.is_broken ≡ broken → (text : List ℕ) → AddsText text a b → EndsBy broken 1 (text ∷ []) first now
  at_end broken is text added =
      let ended = ends 1 (text ∷ []) first (subst (λ t. GaveText t first b) (sym (append-nil text)) (added.1 first [] none)) in
      subst (λ k. EndsBy k 1 (text ∷ []) first now) is (subst (EndsBy o.is_broken 1 (text ∷ []) first) same ended)

  pub whole_written : (IsText : List ℕ → Type 0) → o.is_broken ≡ false → Added IsText a b → Written IsText first now
  whole_written IsText sound (text, is, added) = (text, is, subst (λ t. Wrote t first now) (append-nil text) (at_end false sound text added))

  part_written : o.is_broken ≡ true → (text : List ℕ) → AddsText text a b → WrotePart text first now
  part_written broken text added = subst (λ t. WrotePart t first now) (append-nil text) (at_end true broken text added)

  -- what was written of a view, whole or begun, is written of a whole text
  pub view_cut : StepOrStuck → LedOrStuck → (view : View) (s : Scenario) (result : Result ℕ Halted) → o.is_broken ≡ true → IfOk result (λ status. Added (λ text. Shows view s text status) a b) → OnErr result (Added (IsUnfinishedOf view s) a b) → WrittenInPart (λ text. (status : ℕ) × Shows view s text status) first now
  view_cut step led view s (Ok status) broken (text, shown, added) begun = (text, (status, shown), part_written broken text added)
  view_cut step led view s (Err halted) broken shown (text, begun, added) =
      let whole = view_front step led view s text begun in
      (text ++ whole.0, (whole.1, whole.2), part_of_longer first now text whole.0 (part_written broken text added))
