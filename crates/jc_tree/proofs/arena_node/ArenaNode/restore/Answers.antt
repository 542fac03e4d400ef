use Rattle.std.proofs.Common.{◌≡◌, ◌≤◌, List, length, take, sym, ◌∙◌, ap, subst, arith}
use Rattle.jc_rules.specs.declared.key.Key.{Key}
use Rattle.jc_tree.specs.Tree.{count_present}
use Rattle.jc_tree.specs.Arena.{Flat}
use Rattle.jc_tree.specs.Numbered.{column_entries}
use Rattle.jc_tree.specs.Blocks.{AreFit}
use Rattle.jc_tree.proofs.arena_node.ArenaNode.restore.Goals as goal

pub invariant_of-self : goal.invariant_of-self
invariant_of-self c =
    let old = c.self.inside.keys in
    let new = c.trim.new.keys in
    let left : take c.len.result old.keys ≡ new.keys = ap (λ n. take n old.keys) c.len.ensures ∙ sym c.trim.ensures.keys in
    let within : length old.keys ≤ c.len-count.result = omega (arith, c.len-count.ensures) in
    let kept = c.forget_all.ensures.fit old.keys (column_entries c.self.inside.links.items old) (column_entries c.self.inside.presences old) within c.self.invariant.fit in
    let seen = subst (λ (f : Flat). AreFit (take c.len.result old.keys) f.links f.presences c.forget_all.new.self) (sym c.trim.ensures.seen) kept in
    record {
      within = c.trim.ensures.within;
      count = c.self.invariant.count ∙ ap count_present (sym (ap (λ (f : Flat). f.presences) c.trim.ensures.seen));
      fit = subst (λ (ks : List Key). AreFit ks (column_entries c.trim.new.links.items new) (column_entries c.trim.new.presences new) c.forget_all.new.self) left seen;
    }
