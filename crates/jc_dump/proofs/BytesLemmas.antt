-- About Bytes: texts to which more is appended.
use Rattle.std.proofs.Common.{◌≡◌, ℕ, List, [], ◌++◌, length, take, Result, Ok, Err, cond, is_ok, sym, ap, subst, ◌∙◌, append-nil, append_assoc}
use Rattle.std.specs.Str.{IsUtf8}
use Rattle.std.proofs.lemmas.List.{take_at}
use Rattle.std.proofs.lemmas.Str.{IsUtf8-append}
use Rattle.jc_dump.specs.Bytes.{BeginsWith}

pub pushed_begins : {T E : Type 0} (r : Result T E) (old new text : List ℕ) → new ≡ cond (is_ok r) (old ++ text) old → BeginsWith old new
pushed_begins (Ok x) old new text is = (text, is)
pushed_begins (Err e) old new text is = ([], is ∙ sym (append-nil old))

pub pushed_utf8 : {T E : Type 0} (r : Result T E) (old new text : List ℕ) → new ≡ cond (is_ok r) (old ++ text) old → IsUtf8 text → IsUtf8 old → IsUtf8 new
pushed_utf8 (Ok x) old new text is own before = subst IsUtf8 (sym is) (IsUtf8-append old text before own)
pushed_utf8 (Err e) old new text is own before = subst IsUtf8 (sym is) before

pub begins_same : (old new : List ℕ) → new ≡ old → BeginsWith old new
begins_same old new is = ([], is ∙ sym (append-nil old))

-- one piece after another
pub begins_on : (a b c : List ℕ) → BeginsWith a b → BeginsWith b c → BeginsWith a c
begins_on a b c (more, is) (again, has) = (more ++ again, has ∙ (ap (λ l. l ++ again) is ∙ append_assoc a more again))

-- what was there, after a cut at its length
pub cut_back : (old new cut : List ℕ) (n : ℕ) → length old ≡ n → BeginsWith old new → cut ≡ take n new → cut ≡ old
cut_back old new cut n size (more, is) at = at ∙ (ap (λ l. take n l) is ∙ take_at old more n size)
