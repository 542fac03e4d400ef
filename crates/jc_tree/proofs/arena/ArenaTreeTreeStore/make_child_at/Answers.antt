use Rattle.jc_tree.proofs.ArenaStepsLemmas.{context_key}
use Rattle.jc_tree.proofs.arena.ArenaTreeTreeStore.make_child_at.Goals as goal

pub change-requires : goal.change-requires
change-requires c = record {
  there = (c.requires.0, c.requires.1);
  inside = rw (c.in_ok-copy-in-RegT.ensures, c.in-RegT.is) tt;
  fit = tt;
}

pub make_node-requires : goal.make_node-requires
make_node-requires c = record {
  absent = c.requires;
  context = context_key c.args.key.now c.in_default.not-RegT;
}
