use Rattle.jc_tree.proofs.arena.ArenaTreeTreeStore.set_next_at.Goals as goal

pub change-requires : goal.change-requires
change-requires c = record {
  there = c.requires;
  inside = tt;
  fit = tt;
}
