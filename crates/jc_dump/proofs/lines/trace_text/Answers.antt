use Rattle.std.proofs.Common.{sym, subst, IsUtf8}
use Rattle.std.proofs.lemmas.Str.{IsUtf8-nil}
use Rattle.jc_dump.proofs.lines.trace_text.Goals as goal

pub into_text-requires : goal.into_text-requires
into_text-requires c = c.push_rows.ensures.utf8 (subst IsUtf8 (sym c.new-lines.ensures.items) IsUtf8-nil)
