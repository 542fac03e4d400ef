use Rattle.std.proofs.Common.{sym, subst, IsUtf8}
use Rattle.std.proofs.lemmas.Str.{IsUtf8-nil}
use Rattle.jc_dump.proofs.texts.block_text.Goals as goal

pub into_text-requires : goal.into_text-requires
into_text-requires c = c.push_block.ensures.utf8 (subst IsUtf8 (sym c.new-block.ensures.items) IsUtf8-nil)
