-- About Tree: what is at a place after something was put there.
use Rattle.std.proofs.Common.{◌≡◌, ◌≢◌, List, Option, Some, None, is_some, refl, sym, ◌∙◌}
use Rattle.jc_rules.specs.declared.key.Key.{Key}
use Rattle.jc_rules.specs.declared.key.Tagged.{Tagged}
use Rattle.jc_rules.specs.declared.key.Tagged.TheVariants.{MapT, ListT, RegT}
use Rattle.jc_rules.specs.Context.{Context, Register, content, node_of, values_of, maps, lists, registers}
use Rattle.jc_rules.specs.Order.{key_cmp}
use Rattle.jc_rules.specs.Entries.{find}
use Rattle.jc_rules.specs.Paths.{HasContext}
use Rattle.jc_rules.specs.ContextsAt.{node_at, node_in, with_node_at}
use Rattle.jc_rules.proofs.ContextsAtLemmas.{there, node-with, with_node-twice}
use Rattle.jc_tree.specs.Tree.{Tree, HasPlace, here}

-- where there is a context, there is a place
pub some_place : (at : List Tagged) (c d : Context) → node_at at c ≡ Some d → node_at at c ≢ None
some_place at c d e h = let f : None ≡ Some d = sym h ∙ e in cc

-- the place is still there, with what was put there
pub then_node : (at : List Tagged) (y : Context) (a b : Tree) → HasPlace at a → b.now ≡ with_node_at at y a.now → node_at at b.now ≡ Some y
then_node at y a b p e = rw e (node-with at (here at a) y a.now (there at a.now p))

pub then_here : (at : List Tagged) (y : Context) (a b : Tree) → HasPlace at a → b.now ≡ with_node_at at y a.now → here at b ≡ y
then_here at y a b p e = rw (then_node at y a b p e) refl

pub then_place : (at : List Tagged) (y : Context) (a b : Tree) → HasPlace at a → b.now ≡ with_node_at at y a.now → HasPlace at b
then_place at y a b p e = some_place at b.now y (then_node at y a b p e)

-- of two that were put there, the later
pub then_now : (at : List Tagged) (y z : Context) (a b d : Tree) → b.now ≡ with_node_at at y a.now → d.now ≡ with_node_at at z b.now → d.now ≡ with_node_at at z a.now
then_now at y z a b d e f = rw (f, e) (with_node-twice at y z a.now)

-- where anything is under a map's or a list's tagged key, it is a context
pub some_content : (t : Tagged) (c : Context) → HasContext t → is_some (node_in (content t c)) ≡ is_some (content t c)
some_content (MapT k) c h = go (find key_cmp k (maps c))
  where
    go : (o : Option Context) → is_some (node_in (node_of o)) ≡ is_some (node_of o)
    go None = refl
    go (Some d) = refl
some_content (ListT k) c h = go (find key_cmp k (lists c))
  where
    go : (o : Option Context) → is_some (node_in (node_of o)) ≡ is_some (node_of o)
    go None = refl
    go (Some d) = refl
some_content (RegT k) c h = absurd h

-- and none under a register's
pub no_node : (k : Key) (c : Context) → node_in (content (RegT k) c) ≡ None
no_node k c = go (find key_cmp k (registers c))
  where
    go : (o : Option Register) → node_in (values_of o) ≡ None
    go None = refl
    go (Some r) = refl
