use Rattle.std.proofs.Common.{◌≡◌, ℕ, List, length, take, drop}
use denote.Text.{Utf8}
use denote.Shadow.{shadow}
use Rattle.std.specs.List.{flat_map}
use Rattle.jc_tree.specs.Tree.{keys_lent}
use Rattle.jc_json.specs.Json.{closed_text}
use Rattle.jc_json.specs.Parts.{AreJoined, AreTextsFrom}
use Rattle.jc_json.proofs.tree.texts_of.Given as goal

abbrev pub invariant-loop-number : goal.invariant-loop-number
invariant-loop-number l =
    shadow (Utf8 l.rest)
    × (length l.texts.items ≡ l.number)
    × ((names : List (List ℕ)) → AreJoined names (keys_lent l.keys) l.all l.lens
    → AreTextsFrom names (keys_lent (take l.number l.keys)) l.texts.items × (l.rest ≡ flat_map (closed_text names) (keys_lent (drop l.number l.keys))))
