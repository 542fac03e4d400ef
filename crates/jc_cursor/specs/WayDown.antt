-- Ways down a path, by one rule for each key: the selectors of `jc_cursor` go by them.
use Rattle.std.specs.Prelude.{◌≡◌, ◌≤◌, List, [], ◌∷◌, Some, None}
use Rattle.jc_rules.specs.declared.key.Tagged.{Tagged}
use Rattle.jc_rules.specs.declared.rule.Rule.{Rule}
use Rattle.jc_rules.specs.Context.{Context, Node, content}
use Rattle.jc_rules.specs.ContextsAt.{context_at}
use Rattle.jc_rules.specs.Derivation.{Question, Answer, gives}
use Rattle.jc_rules.specs.Derives.{Derives}
use Rattle.jc_rules.specs.Refused.{Cause, no_node, Refused}
use Rattle.jc_rules.specs.Table.{Follows}
use Rattle.jc_rules.specs.Trace.{Rows, IsLonger, at_depth}

-- nothing of the trace was taken away, and it is at the same depth or deeper
pub record IsGrown (t u : Rows) : Type 0 where
  pub longer : IsLonger t u
  pub deeper : t.depth ≤ u.depth

-- The rule answers the question below a path from the one below its rest.
pub record Descends (r : Rule) (Q : List Tagged → Context → Question) (A : List Tagged → Answer) : Type 0 where
  pub follows : (k : Tagged) (rest : List Tagged) (c d : Context) → content k c ≡ Some (Node d)
      → Follows r (Q (k ∷ rest) c) (A (k ∷ rest)) (gives (Q rest d) (A rest) ∷ [])

-- The question below a path is refused where a node on it isn't there, and where it is refused below.
pub record Refuses (Q : List Tagged → Context → Question) : Type 0 where
  pub missing : (k : Tagged) (rest : List Tagged) (c : Context) → content k c ≡ None
      → Refused (Q (k ∷ rest) c) (no_node k)
  pub below : (k : Tagged) (rest : List Tagged) (c d : Context) (why : Cause) → content k c ≡ Some (Node d)
      → Refused (Q rest d) why → Refused (Q (k ∷ rest) c) why

-- What is derived at the end of the path is derived for the whole: the trace has come to the rules there.
abbrev pub LeadsDown : Rule → List Tagged → Context → Rows → Rows → Type 0
LeadsDown r path c t u =
    (Q : List Tagged → Context → Question) (A : List Tagged → Answer) (v : Rows)
    → Descends r Q A → Derives (Q [] (context_at path c)) (A []) u v
    → Derives (Q path c) (A path) t (at_depth t.depth v)

-- What is refused at the end of the path is refused for the whole.
abbrev pub RefusesDown : List Tagged → Context → Type 0
RefusesDown path c =
    (Q : List Tagged → Context → Question) (why : Cause)
    → Refuses Q → Refused (Q [] (context_at path c)) why → Refused (Q path c) why

-- The question is refused on the way.
abbrev pub RefusedOnWay : List Tagged → Context → Cause → Type 0
RefusedOnWay path c why = (Q : List Tagged → Context → Question) → Refuses Q → Refused (Q path c) why
