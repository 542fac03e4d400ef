use Rattle.std.proofs.Common.{rules}
use Rattle.jc_tree.proofs.arena.ArenaTreeTreeStore.set_presence_at.Goals as goal

pub change-requires : goal.change-requires
change-requires c = record {
  there = c.requires.named;
  inside = tt;
  fit = search rules;
}
