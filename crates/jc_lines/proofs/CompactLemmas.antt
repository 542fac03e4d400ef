-- Compact texts of data have no LF.
use Rattle.std.proofs.Common.{suc, pos, negsuc, Bool, true, false, [], ◌∷◌, refl}
use Rattle.serde_json.specs.Data.{Num, unsigned, negative, float, Data, null, boolean, number, string, array, object, Items, no_items, item, Members, no_members, member}
use Rattle.serde_json.specs.Written.{number_text, compact_text, items_text, members_text, comma_if}
use Rattle.jc_lines.specs.OneLine.{HasNoLf}
use Rattle.jc_lines.proofs.NoLfLemmas.{literal, whole, more, decimal_line, json_quoted}

number_line : (n : Num) → HasNoLf (number_text n)
number_line (unsigned n) = decimal_line n
number_line (negative (pos n)) = decimal_line n
number_line (negative (negsuc n)) = more {x = 45} (λ e. cc) (decimal_line (suc n))
number_line (float x) = literal [] refl

comma_line : (later : Bool) → HasNoLf (comma_if later)
comma_line true = literal (44 ∷ []) refl
comma_line false = literal [] refl

mutual
  pub compact_line : (d : Data) → HasNoLf (compact_text d)
  compact_line null = literal (compact_text null) refl
  compact_line (boolean true) = literal (compact_text (boolean true)) refl
  compact_line (boolean false) = literal (compact_text (boolean false)) refl
  compact_line (number n) = number_line n
  compact_line (string s) = json_quoted s
  compact_line (array ds) = more {x = 91} (λ e. cc) (items_line false ds)
  compact_line (object ms) = more {x = 123} (λ e. cc) (members_line false ms)

  items_line : (later : Bool) (ds : Items) → HasNoLf (items_text later ds)
  items_line later no_items = literal (93 ∷ []) refl
  items_line later (item d ds) = whole (comma_line later) (whole (compact_line d) (items_line true ds))

  members_line : (later : Bool) (ms : Members) → HasNoLf (members_text later ms)
  members_line later no_members = literal (125 ∷ []) refl
  members_line later (member k d ms) =
      whole (comma_line later) (whole (json_quoted k) (more {x = 58} (λ e. cc) (whole (compact_line d) (members_line true ms))))
