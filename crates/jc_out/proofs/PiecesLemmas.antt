-- About Pieces: the first pieces, which an output was given, and its end.
use Rattle.std.proofs.Common.{◌≡◌, ℕ, zero, suc, List, [], ◌∷◌, ◌++◌, Bool, true, false, take, drop, refl, ap, sym, subst, ◌∙◌, append_assoc, append-nil}
use Rattle.jc_io.specs.Written.{Stream, WrotePart}
use Rattle.jc_out.specs.Out.{OutState, GaveText, AddsText}
use Rattle.jc_out.specs.Pieces.{pieces_text, EndsAfter, EndsBy}
use Rattle.jc_io.proofs.WrittenLemmas.{part_of_longer}
use Rattle.jc_out.proofs.OutLemmas.{gave_whole, gave_part}

-- the first pieces, and then the others
split_text : (n : ℕ) (pieces : List (List ℕ)) → pieces_text pieces ≡ pieces_text (take n pieces) ++ pieces_text (drop n pieces)
split_text zero pieces = refl
split_text (suc n) [] = refl
split_text (suc n) (piece ∷ pieces) = ap (λ t. piece ++ t) (split_text n pieces) ∙ sym (append_assoc piece (pieces_text (take n pieces)) (pieces_text (drop n pieces)))

ends_by : (is_broken : Bool) (n : ℕ) (pieces : List (List ℕ)) (first : Stream) (o : OutState) → o.is_broken ≡ is_broken → (is_broken ≡ false → o.held ≡ []) → GaveText (pieces_text (take n pieces)) first o → EndsBy is_broken n pieces first o.stream
ends_by false n pieces first o is none h = gave_whole (pieces_text (take n pieces)) first o is (none refl) h
ends_by true n pieces first o is none h =
    subst (λ t. WrotePart t first o.stream) (sym (split_text n pieces)) (part_of_longer first o.stream (pieces_text (take n pieces)) (pieces_text (drop n pieces)) (gave_part (pieces_text (take n pieces)) first o is h))

-- an output that was given the first pieces, and of which all was sent then
pub ends_after : (n : ℕ) (pieces : List (List ℕ)) (first : Stream) (a o : OutState) → AddsText [] a o → (o.is_broken ≡ false → o.held ≡ []) → GaveText (pieces_text (take n pieces)) first a → EndsAfter n pieces first o
ends_after n pieces first a o added none h =
    ends_by o.is_broken n pieces first o refl none (subst (λ t. GaveText t first o) (append-nil (pieces_text (take n pieces))) (added.1 first (pieces_text (take n pieces)) h))
