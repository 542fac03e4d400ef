-- About specs/Lines: the line of a stuck event, from its refusal, its key and its event.
use Rattle.std.proofs.Common.{◌≡◌, ℕ, List, [], ◌++◌, None, codes, decimal, append-nil, refl, sym, ◌∙◌, ap}
use Rattle.jc_rules.specs.declared.operation.Event.{Event}
use Rattle.jc_rules.specs.Refusals.{refusal_number, refusal_name}
use Rattle.jc_rules.specs.Refused.{Cause, because, no_node, refusal_of}
use Rattle.jc_printer.specs.Canon.{canon_event}
use Rattle.jc_network.specs.declared.fault.Stuck.{Stuck}
use Rattle.jc_network.specs.Steps.{stuck_for, key_of_event}
use Rattle.jc_dump.specs.Lines.{absent_text, stuck_text}

absent_none : (names : List (List ℕ)) (why : Cause) → key_of_event why ≡ None → absent_text names why ≡ []
absent_none names (because r) e = refl
absent_none names (no_node k) e = cc

-- the words before the key
abbrev front : ℕ → List ℕ → List ℕ
front number cause = codes "stuck " ++ decimal number ++ codes " " ++ cause ++ codes " "

module _ (names : List (List ℕ)) (s : Stuck) (why : Cause) (event : Event) (is : s ≡ stuck_for why event) where
  refusal_is : s.refusal ≡ refusal_of why
  refusal_is = ap (λ (x : Stuck). x.refusal) is

  event_is : canon_event names s.event ≡ canon_event names event
  event_is = ap (λ (x : Stuck). canon_event names x.event) is

  -- without a key
  pub line_without : (n : ℕ) (cause text shown : List ℕ) → s.key ≡ None → n ≡ refusal_number s.refusal → cause ≡ refusal_name s.refusal → text ≡ canon_event names s.event → shown ≡ codes "stuck " ++ decimal n ++ codes " " ++ cause ++ codes " " ++ text ++ codes "\n" → shown ≡ stuck_text names why event
  line_without n cause text shown none num name t line =
      line
      ∙ ap (λ m. front m cause ++ text ++ codes "\n") (num ∙ ap refusal_number refusal_is)
      ∙ ap (λ c. front (refusal_number (refusal_of why)) c ++ text ++ codes "\n") (name ∙ ap refusal_name refusal_is)
      ∙ ap (λ t. front (refusal_number (refusal_of why)) (refusal_name (refusal_of why)) ++ t ++ codes "\n") (t ∙ event_is)
      ∙ ap (λ f. f ++ canon_event names event ++ codes "\n") (sym (append-nil (front (refusal_number (refusal_of why)) (refusal_name (refusal_of why)))))
      ∙ ap (λ k. front (refusal_number (refusal_of why)) (refusal_name (refusal_of why)) ++ k ++ canon_event names event ++ codes "\n") (sym (absent_none names why (sym (ap (λ (x : Stuck). x.key) is) ∙ none)))
