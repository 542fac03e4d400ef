-- Which undo record a small one is.
use Rattle.std.specs.Prelude.{List, Option, Some, None, option_map}
use Rattle.std.specs.Global.{Box}
use Rattle.jc_rules.specs.declared.id.Id.{Id}
use Rattle.jc_rules.specs.declared.key.Key.{Key}
use Rattle.jc_rules.specs.declared.key.Next.TheVariants.{Tail, Elem}
use Rattle.jc_rules.specs.declared.value.Value.{Value}
use Rattle.jc_rules.specs.Context.{Register}
use Rattle.jc_tree.specs.declared.node.Former.{Former}
use Rattle.jc_tree.specs.declared.node.Former.TheVariants as F
use Rattle.jc_tree.specs.declared.small_former.Kind.{Kind}
use Rattle.jc_tree.specs.declared.small_former.Kind.TheVariants as K
use Rattle.jc_tree.specs.declared.small_former.Kept.{Kept}
use Rattle.jc_tree.specs.declared.small_former.Kept.TheVariants as W

-- what is in the box, if there is one
abbrev pub kept_value : Option (Box Kept) → Option Kept
kept_value o = option_map (λ b. b.value) o

abbrev pub pairs_kept : Option Kept → Option Register
pairs_kept (Some (W.Register r)) = Some r
pairs_kept _ = None

abbrev pub value_kept : Option Kept → Option Value
value_kept (Some (W.Value v)) = Some v
value_kept _ = None

abbrev pub ids_kept : Option Kept → Option (List Id)
ids_kept (Some (W.Presence s)) = Some s
ids_kept _ = None

-- the record of this kind, by its key, its identifier, and what was replaced
abbrev pub former_of_form : Kind → Key → Id → Option Kept → Former
former_of_form K.Map k i o = F.Map k
former_of_form K.List k i o = F.List k
former_of_form K.Register k i o = F.Register k (pairs_kept o)
former_of_form K.Value k i o = F.Value k i (value_kept o)
former_of_form K.Presence k i o = F.Presence k (ids_kept o)
former_of_form K.NoLink k i o = F.Link k None
former_of_form K.Tail k i o = F.Link k (Some Tail)
former_of_form K.Elem k i o = F.Link k (Some (Elem i))
former_of_form K.NoId k i o = F.NoId k i
former_of_form K.Same k i o = F.Same
