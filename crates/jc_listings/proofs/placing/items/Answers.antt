use Rattle.std.proofs.Common.{◌+◌, ◌∙◌, ℕ, subst, sym, arith}
use Rattle.jc_listings.proofs.PlacesLemmas.{no_token, item_len_of, ItemsHere, ItemRoom, item_room, items_begin, items_room, items_end, more_behind_semi, more_at_close}
use Rattle.jc_listings.proofs.placing.items.Goals.{then-is_semi, else-is_semi}
use Rattle.jc_listings.proofs.placing.items.Goals as goal

pub items-init : goal.items-init
items-init c =
    let begun = items_begin c.args.tokens.now c.in_ok-spans.spans c.in_ok-spans.ensures in
    (items_room c.args.tokens.now 0 c.in_ok-spans.spans c.requires begun, begun)

pub overflow_add-at : goal.overflow_add-at
overflow_add-at c =
    let ts = c.args.tokens.now in
    let at = c.items.at in
    let len = c.item_len-len.result in
    let r : ItemRoom ts at len = item_room ts at len c.items.spans no_token c.items.invariant.1 c.items.invariant.0 (c.is_close.ensures.not c.items-test.true) (item_len_of ts at len c.item_len-len.ensures) c.requires in
    omega arith

pub overflow_sub-at : goal.overflow_sub-at
overflow_sub-at c =
    let ts = c.args.tokens.now in
    let at = c.items.at in
    let len = c.item_len-len.result in
    let r : ItemRoom ts at len = item_room ts at len c.items.spans no_token c.items.invariant.1 c.items.invariant.0 (c.is_close.ensures.not c.items-test.true) (item_len_of ts at len c.item_len-len.ensures) c.requires in
    omega arith

pub bounds-tokens-at-in-items-2 : goal.bounds-tokens-at-in-items-2
bounds-tokens-at-in-items-2 c =
    let ts = c.args.tokens.now in
    let at = c.items.at in
    let len = c.item_len-len.result in
    let r : ItemRoom ts at len = item_room ts at len c.items.spans no_token c.items.invariant.1 c.items.invariant.0 (c.is_close.ensures.not c.items-test.true) (item_len_of ts at len c.item_len-len.ensures) c.requires in
    omega arith

pub offset_bounds-tokens-at-in-items-3 : goal.offset_bounds-tokens-at-in-items-3
offset_bounds-tokens-at-in-items-3 c =
    let ts = c.args.tokens.now in
    let at = c.items.at in
    let len = c.item_len-len.result in
    let r : ItemRoom ts at len = item_room ts at len c.items.spans no_token c.items.invariant.1 c.items.invariant.0 (c.is_close.ensures.not c.items-test.true) (item_len_of ts at len c.item_len-len.ensures) c.requires in
    omega arith

pub overflow_add-at-in-items : goal.overflow_add-at-in-items
overflow_add-at-in-items c =
    let ts = c.args.tokens.now in
    let at = c.items.at in
    let len = c.item_len-len.result in
    let r : ItemRoom ts at len = item_room ts at len c.items.spans no_token c.items.invariant.1 c.items.invariant.0 (c.is_close.ensures.not c.items-test.true) (item_len_of ts at len c.item_len-len.ensures) c.requires in
    omega arith

pub bounds-tokens-at-in-items-3 : goal.bounds-tokens-at-in-items-3
bounds-tokens-at-in-items-3 c =
    let ts = c.args.tokens.now in
    let at = c.items.at in
    let len = c.item_len-len.result in
    let r : ItemRoom ts at len = item_room ts at len c.items.spans no_token c.items.invariant.1 c.items.invariant.0 (c.is_close.ensures.not c.items-test.true) (item_len_of ts at len c.item_len-len.ensures) c.requires in
    omega arith

pub offset_bounds-tokens-at-in-items-4 : goal.offset_bounds-tokens-at-in-items-4
offset_bounds-tokens-at-in-items-4 c =
    let ts = c.args.tokens.now in
    let at = c.items.at in
    let len = c.item_len-len.result in
    let r : ItemRoom ts at len = item_room ts at len c.items.spans no_token c.items.invariant.1 c.items.invariant.0 (c.is_close.ensures.not c.items-test.true) (item_len_of ts at len c.item_len-len.ensures) c.requires in
    omega arith

pub items-smaller : goal.items-smaller
items-smaller c =
    let ts = c.args.tokens.now in
    let at = c.items.at in
    let len = c.item_len-len.result in
    let r : ItemRoom ts at len = item_room ts at len c.items.spans no_token c.items.invariant.1 c.items.invariant.0 (c.is_close.ensures.not c.items-test.true) (item_len_of ts at len c.item_len-len.ensures) c.requires in
    elim c.if-is_semi.branch [ then-is_semi w ↦ omega (arith, w.at-is) | else-is_semi w ↦ omega (arith, w.at-is) ]

pub items-preserved : goal.items-preserved
items-preserved c =
    let ts = c.args.tokens.now in
    let at = c.items.at in
    let len = c.item_len-len.result in
    let a = c.items.spans in
    let b = c.push.new.self in
    let unclosed = c.is_close.ensures.not c.items-test.true in
    let own = item_len_of ts at len c.item_len-len.ensures in
    let told = c.as_slice.ensures.value ∙ c.in_ok-span.ensures in
    let r : ItemRoom ts at len = item_room ts at len a no_token c.items.invariant.1 c.items.invariant.0 unclosed own c.requires in
    elim c.if-is_semi.branch [
      | then-is_semi w ↦
          let goes = more_behind_semi ts at len a b no_token c.items.invariant.1 c.items.invariant.0 unclosed own c.as_slice.result.now told c.in_ok-push.ensures (c.is_semi.ensures.yes w.if-is_semi.true) in
          subst (λ (i : ℕ). ItemsHere ts i b) (sym w.at-is) (items_room ts (at + len + 1) b c.requires goes, goes)
      | else-is_semi w ↦
          let goes = more_at_close ts at len a b no_token c.items.invariant.1 c.items.invariant.0 unclosed own c.as_slice.result.now told c.in_ok-push.ensures (c.is_semi.ensures.not w.if-is_semi.false) in
          subst (λ (i : ℕ). ItemsHere ts i b) (sym w.at-is) (r.behind, goes)
    ]

pub returns-clause-text : goal.returns-clause-text
returns-clause-text c = λ h.
    let done = items_end c.args.tokens.now c.items.at c.items.spans no_token c.items.invariant.1 c.items.invariant.0 (c.is_close.ensures.yes c.items-test.false) h in
    c.in_ok-text.ensures _ done.0

pub returns-clause-len : goal.returns-clause-len
returns-clause-len c = λ h.
    (items_end c.args.tokens.now c.items.at c.items.spans no_token c.items.invariant.1 c.items.invariant.0 (c.is_close.ensures.yes c.items-test.false) h).1
