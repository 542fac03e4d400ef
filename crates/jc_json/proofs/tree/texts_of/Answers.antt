use Rattle.std.proofs.Common.{◌≡◌, [], ◌∷◌, ◌++◌, ◌+◌, length, take, drop, length-append, sym, ap, ◌∙◌, subst, arith}
use Rattle.std.specs.List.{flat_map}
use Rattle.std.specs.Str.{IsUtf8}
use Rattle.std.proofs.lemmas.List.{map_more, take_all, drop_more}
use Rattle.jc_tree.specs.Tree.{keys_lent}
use Rattle.jc_json.specs.Json.{closed_text}
use Rattle.jc_json.specs.Parts.{Texts, AreTextsFrom}
use Rattle.jc_json.proofs.PartsJoinedLemmas.{len_at, first_text, other_texts, cut_between, others_utf8}
use Rattle.jc_json.proofs.PartsOrderLemmas.{from_begins, from_goes_on}
use Rattle.jc_json.proofs.tree.texts_of.Goals as goal

pub loop-number-init : goal.loop-number-init
loop-number-init c =
    let none = c.in_ok-texts.ensures.items in (
      c.utf8.all,
      ap (λ (ts : Texts). length ts) none,
      λ names j. (subst (AreTextsFrom names []) (sym none) (from_begins names), j.texts),
    )

pub split_at-requires : goal.split_at-requires
split_at-requires c =
    let names = c.requires.0 in
    let keys = c.args.keys.now in
    let n = c.loop-number.number in
    let lent = c.index-keys-number.result in
    let left = drop_more keys n lent c.loop-number-test.true ∙ ap (λ l. l ∷ drop (n + 1) keys) (sym c.index-keys-number.is) in
    cut_between names lent.0.now (keys_lent (drop (n + 1) keys)) c.loop-number.rest.now _
    ((c.loop-number.invariant.2 names c.requires.1).1 ∙ ap (λ ks. flat_map (closed_text names) (keys_lent ks)) left)
    (len_at names keys c.args.lens.now c.args.all.now n lent c.requires.1 c.loop-number-test.true c.index-keys-number.is)
    c.loop-number.invariant.0

pub loop-number-preserved : goal.loop-number-preserved
loop-number-preserved c =
    let keys = c.args.keys.now in
    let n = c.loop-number.number in
    let old = c.loop-number.texts.items in
    let lent = c.index-keys-number.result in
    let text = c.split_at.result.0 in
    let new : c.push.new.self.items ≡ old ++ ((text, n), lent) ∷ [] = c.in_ok-push.ensures.items in
    let long : length old ≡ n = c.loop-number.invariant.1 in
    let left = drop_more keys n lent c.loop-number-test.true ∙ ap (λ l. l ∷ drop (n + 1) keys) (sym c.index-keys-number.is) in (
      subst IsUtf8 (sym c.split_at.ensures.back)
          (others_utf8 c.requires.0 lent.0.now (keys_lent (drop (n + 1) keys)) c.loop-number.rest.now _
          ((c.loop-number.invariant.2 c.requires.0 c.requires.1).1 ∙ ap (λ ks. flat_map (closed_text c.requires.0) (keys_lent ks)) left)
          (len_at c.requires.0 keys c.args.lens.now c.args.all.now n lent c.requires.1 c.loop-number-test.true c.index-keys-number.is)
          c.loop-number.invariant.0),
      ap (λ (ts : Texts). length ts) new ∙ length-append old (((text, n), lent) ∷ []) ∙ omega (arith, long),
      λ names j.
          let so_far = c.loop-number.invariant.2 names j in
          let rest = so_far.1 ∙ ap (λ ks. flat_map (closed_text names) (keys_lent ks)) left in
          let len = len_at names keys c.args.lens.now c.args.all.now n lent j c.loop-number-test.true c.index-keys-number.is in
          let is : text.now ≡ closed_text names lent.0.now = c.split_at.ensures.front ∙ first_text names lent.0.now (keys_lent (drop (n + 1) keys)) c.loop-number.rest.now _ rest len in (
            rw (map_more (λ l. l.0.now) keys n lent (omega arith), sym c.index-keys-number.is)
                (subst (AreTextsFrom names _) (sym new) (from_goes_on names (keys_lent (take n keys)) n old text lent long is so_far.0)),
            c.split_at.ensures.back ∙ other_texts names lent.0.now (keys_lent (drop (n + 1) keys)) c.loop-number.rest.now _ rest len,
          ),
    )

pub returns : goal.returns
returns c = λ names j.
    subst (λ ks. AreTextsFrom names (keys_lent ks) c.loop-number.texts.items) (take_all c.loop-number.number c.args.keys.now (omega arith)) (c.loop-number.invariant.2 names j).0
