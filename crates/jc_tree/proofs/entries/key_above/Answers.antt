use Rattle.std.proofs.Common.{◌≡◌, ◌∙◌, sym, rules, option_copied, option_map, slice_get, add-one}
use Rattle.jc_rules.specs.Entries.{keys_of}
use Rattle.jc_tree.specs.Tree.{least_after}
use Rattle.jc_tree.proofs.SortedLemmas.{lent_key, least-none, least-stands, least-belongs}
use Rattle.jc_tree.proofs.entries.key_above.Goals as goal
use Rattle.jc_tree.proofs.entries.key_above.Goals.{in-None, in-Some+in-Ok, in-Some+in-Err}

pub returns : goal.returns
returns g c =
    let es = c.args.entries.now in
    let lent : option_copied c.map.result ≡ option_map (λ e. e.0) (slice_get es c.match-after.first) = lent_key es c.match-after.first c.get.result c.map.result _ c.get.ensures.lookup c.map.ensures.cases (λ x y p. search rules) in
    lent ∙ sym (elim c.match-after.branch as (λ _. least_after (option_copied c.args.after) (keys_of es) ≡ option_map (λ e. e.0) (slice_get es c.match-after.first)) [
      | in-None w ↦ rw (w.in-None.is, w.first-is) (least-none es c.requires)
      | in-Some+in-Ok w ↦ rw (w.in-Some.is, w.first-is, add-one) (least-stands w.in-Some.key.now es w.in-Ok.i c.requires w.in-Ok.ensures)
      | in-Some+in-Err w ↦ rw (w.in-Some.is, w.first-is) (least-belongs w.in-Some.key.now es w.in-Err.i c.requires w.in-Err.ensures)
    ])
