use Rattle.std.proofs.Common.{rules}
use Rattle.jc_json.proofs.texts.tagged_text.Goals as goal

-- a list's tag
pub returns-in-ListT : goal.returns-in-ListT
returns-in-ListT c = search rules
