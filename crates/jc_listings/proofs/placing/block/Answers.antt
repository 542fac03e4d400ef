use Rattle.std.proofs.Common.{◌≡◌, length, map, get_or, codes, Some, None, true, false, sym, ap, ◌∙◌, arith}
use Rattle.std.specs.Str.{bytes_eq}
use Rattle.std.proofs.lemmas.List.Elements.{All-get_or}
use Rattle.jc_syntax.specs.Lexemes.{IsTokenOf, token_bytes}
use Rattle.jc_answers.specs.JsonTexts.{array_text}
use Rattle.jc_listings.specs.Places.{span_answer, block_text}
use Rattle.jc_listings.proofs.PlacesLemmas.{no_token, opened_plain, opened_replica, block_room, own_room, part_begins, block_told, block_counted}
use Rattle.jc_listings.proofs.placing.block.Goals as goal

pub slice_of-kind-requires : goal.slice_of-kind-requires
slice_of-kind-requires c =
    let room = block_room c.args.text.now c.args.tokens.now c.requires.begins in
    All-get_or (IsTokenOf c.args.text.now) c.args.tokens.now 0 no_token (omega arith) c.requires.each

pub slice_of-name-requires : goal.slice_of-name-requires
slice_of-name-requires c =
    let room = block_room c.args.text.now c.args.tokens.now c.requires.begins in
    All-get_or (IsTokenOf c.args.text.now) c.args.tokens.now 1 no_token (omega arith) c.requires.each

pub braced-requires : goal.braced-requires
braced-requires c =
    let text = c.args.text.now in
    let ts = c.args.tokens.now in
    let named : bytes_eq (token_bytes text (get_or ts 0 no_token)) (codes "replica") ≡ true = sym (ap (λ v. bytes_eq v (codes "replica")) c.slice_of-kind.ensures) ∙ (sym c.eq.ensures ∙ c.if-eq.true) in
    part_begins ts 3 (opened_replica text ts named c.requires.begins).items

pub overflow_add-result : goal.overflow_add-result
overflow_add-result c =
    let text = c.args.text.now in
    let ts = c.args.tokens.now in
    let named : bytes_eq (token_bytes text (get_or ts 0 no_token)) (codes "replica") ≡ true = sym (ap (λ v. bytes_eq v (codes "replica")) c.slice_of-kind.ensures) ∙ (sym c.eq.ensures ∙ c.if-eq.true) in
    let h = c.requires.begins in
    let size = block_counted text ts h.block (length h.own) 3 c.in_ok-behind.behind.len _ (opened_replica text ts named h) c.in_ok-behind.ensures.len in
    omega (arith, size, own_room text ts h)

pub returns-in_ok-behind-clause-text : goal.returns-in_ok-behind-clause-text
returns-in_ok-behind-clause-text c = λ h.
    let text = c.args.text.now in
    let ts = c.args.tokens.now in
    let named : bytes_eq (token_bytes text (get_or ts 0 no_token)) (codes "replica") ≡ true = sym (ap (λ v. bytes_eq v (codes "replica")) c.slice_of-kind.ensures) ∙ (sym c.eq.ensures ∙ c.if-eq.true) in
    block_told text c.in_ok-behind.behind.text.items ts h.block (length h.own) 3 _ (opened_replica text ts named h)
    (λ k. c.in_ok-behind.ensures.text k ∙ (λ i. block_text (c.slice_of-kind.ensures i) (Some (c.slice_of-name.ensures i)) ((get_or ts 0 no_token).start, k.closes.stop) (array_text (map span_answer k.spans))))

pub returns-in_ok-behind-clause-len : goal.returns-in_ok-behind-clause-len
returns-in_ok-behind-clause-len c = λ h.
    let text = c.args.text.now in
    let ts = c.args.tokens.now in
    let named : bytes_eq (token_bytes text (get_or ts 0 no_token)) (codes "replica") ≡ true = sym (ap (λ v. bytes_eq v (codes "replica")) c.slice_of-kind.ensures) ∙ (sym c.eq.ensures ∙ c.if-eq.true) in
    block_counted text ts h.block (length h.own) 3 c.in_ok-behind.behind.len _ (opened_replica text ts named h) c.in_ok-behind.ensures.len

pub braced-requires-else-eq : goal.braced-requires-else-eq
braced-requires-else-eq c =
    let text = c.args.text.now in
    let ts = c.args.tokens.now in
    let no_name : bytes_eq (token_bytes text (get_or ts 0 no_token)) (codes "replica") ≡ false = sym (ap (λ v. bytes_eq v (codes "replica")) c.slice_of-kind.ensures) ∙ (sym c.eq.ensures ∙ c.if-eq.false) in
    part_begins ts 2 (opened_plain text ts no_name c.requires.begins).items

pub overflow_add-result-else-eq : goal.overflow_add-result-else-eq
overflow_add-result-else-eq c =
    let text = c.args.text.now in
    let ts = c.args.tokens.now in
    let no_name : bytes_eq (token_bytes text (get_or ts 0 no_token)) (codes "replica") ≡ false = sym (ap (λ v. bytes_eq v (codes "replica")) c.slice_of-kind.ensures) ∙ (sym c.eq.ensures ∙ c.if-eq.false) in
    let h = c.requires.begins in
    let size = block_counted text ts h.block (length h.own) 2 c.in_ok-behind-2.behind.len None (opened_plain text ts no_name h) c.in_ok-behind-2.ensures.len in
    omega (arith, size, own_room text ts h)

pub returns-in_ok-behind-2-clause-text : goal.returns-in_ok-behind-2-clause-text
returns-in_ok-behind-2-clause-text c = λ h.
    let text = c.args.text.now in
    let ts = c.args.tokens.now in
    let no_name : bytes_eq (token_bytes text (get_or ts 0 no_token)) (codes "replica") ≡ false = sym (ap (λ v. bytes_eq v (codes "replica")) c.slice_of-kind.ensures) ∙ (sym c.eq.ensures ∙ c.if-eq.false) in
    block_told text c.in_ok-behind-2.behind.text.items ts h.block (length h.own) 2 None (opened_plain text ts no_name h)
    (λ k. c.in_ok-behind-2.ensures.text k ∙ (λ i. block_text (c.slice_of-kind.ensures i) None ((get_or ts 0 no_token).start, k.closes.stop) (array_text (map span_answer k.spans))))

pub returns-in_ok-behind-2-clause-len : goal.returns-in_ok-behind-2-clause-len
returns-in_ok-behind-2-clause-len c = λ h.
    let text = c.args.text.now in
    let ts = c.args.tokens.now in
    let no_name : bytes_eq (token_bytes text (get_or ts 0 no_token)) (codes "replica") ≡ false = sym (ap (λ v. bytes_eq v (codes "replica")) c.slice_of-kind.ensures) ∙ (sym c.eq.ensures ∙ c.if-eq.false) in
    block_counted text ts h.block (length h.own) 2 c.in_ok-behind-2.behind.len None (opened_plain text ts no_name h) c.in_ok-behind-2.ensures.len
