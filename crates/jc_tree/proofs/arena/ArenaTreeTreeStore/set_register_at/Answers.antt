use Rattle.jc_tree.proofs.arena.ArenaTreeTreeStore.set_register_at.Goals as goal

pub change-requires : goal.change-requires
change-requires c = record {
  there = c.requires.named;
  inside = tt;
  fit = rw c.new.ensures c.requires.kept;
}
