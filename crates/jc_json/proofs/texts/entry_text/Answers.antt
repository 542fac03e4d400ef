use Rattle.std.proofs.Common.{rules, ◌≡◌, List, ℕ, ◌++◌, codes, string_bytes, append_assoc, ap, sym, ◌∙◌}
use Rattle.std.proofs.lemmas.Result.{IfOk-weaker}
use Rattle.jc_json.specs.Json.{key_text}
use Rattle.jc_json.proofs.texts.entry_text.Goals as goal

pieces : (s a b c d e : List ℕ) → s ≡ a ++ (b ++ (c ++ e)) → c ≡ d → s ≡ a ++ b ++ d ++ e
pieces s a b c d e f g = f ∙ ap (λ x. a ++ (b ++ (x ++ e))) g ∙ sym (append_assoc a b (d ++ e)) ∙ sym (append_assoc (a ++ b) d e)

pub returns : goal.returns
returns c =
    let key : c.as_str-key.result.now ≡ key_text c.args.names.now c.args.key.now = search rules in
    IfOk-weaker c.format.result _ _ (λ s h. pieces (string_bytes s) c.args.kind.now (codes "(") c.as_str-key.result.now (key_text c.args.names.now c.args.key.now) (codes ")") h key) c.format.ensures.ok
