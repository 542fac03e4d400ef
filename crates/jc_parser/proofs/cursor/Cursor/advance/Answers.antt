use Rattle.std.proofs.lemmas.List.Elements.{All-drop, All-take}
use Rattle.jc_syntax.specs.Lexemes.{IsTokenOf}
use Rattle.jc_parser.proofs.FirstTokensLemmas.{skipped}
use Rattle.jc_parser.proofs.cursor.Cursor.advance.Goals as goal

pub invariant_of-self : goal.invariant_of-self
invariant_of-self c =
    let own = IsTokenOf c.self.inside.text.now in
    All-take own _ _ (All-drop own 1 c.self.inside.tokens.now c.self.invariant)

pub returns-in-len1-up : goal.returns-in-len1-up
returns-in-len1-up c = λ p yes. skipped p c.self.inside.text.now c.self.inside.tokens.now c.args.self.now c.self.view_is yes
