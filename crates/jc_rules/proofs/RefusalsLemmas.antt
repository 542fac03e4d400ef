-- About specs/RuleNames and Refusals: different rules have different names, and different refusals different numbers.
use Rattle.std.proofs.Common.{◌≡◌, ℕ, ◌<◌, List, [], ◌∷◌, get_or, refl, sym, ◌∙◌, ap, Option, Some, None, arith, ◌==◌, if◌then◌else◌}
use Rattle.std.specs.Str.{bytes_eq}
use Rattle.std.proofs.lemmas.Option.{same_Some}
use Rattle.jc_rules.specs.RuleNames.{rule_name}
use Rattle.jc_rules.specs.Refusals.{refusal_number}
use Rattle.jc_rules.specs.declared.rule.Rule.{Rule}
use Rattle.jc_rules.specs.declared.rule.Rule.TheVariants as R
use Rattle.jc_rules.specs.declared.refusal.Refusal.{Refusal}
use Rattle.jc_rules.specs.declared.refusal.Refusal.TheVariants as F
use Rattle.jc_rules.specs.declared.rule.TheConstants.{RULES}

abbrev pub rule_place : Rule → ℕ
rule_place R.Exec = 0
rule_place R.Let = 1
rule_place R.Var = 2
rule_place R.Doc = 3
rule_place R.Get = 4
rule_place R.Idx1 = 5
rule_place R.Idx2 = 6
rule_place R.Idx3 = 7
rule_place R.Idx4 = 8
rule_place R.Idx5 = 9
rule_place R.Keys1 = 10
rule_place R.Keys2 = 11
rule_place R.Keys3 = 12
rule_place R.Val1 = 13
rule_place R.Val2 = 14
rule_place R.Val3 = 15
rule_place R.MakeAssign = 16
rule_place R.MakeInsert = 17
rule_place R.MakeDelete = 18
rule_place R.MakeOp = 19
rule_place R.ApplyLocal = 20
rule_place R.Send = 21
rule_place R.Recv = 22
rule_place R.RecvOne = 23
rule_place R.ApplyRemote = 24
rule_place R.Done = 25
rule_place R.Descend = 26
rule_place R.ChildGet = 27
rule_place R.ChildMap = 28
rule_place R.ChildList = 29
rule_place R.ChildReg = 30
rule_place R.AddId1 = 31
rule_place R.AddId2 = 32
rule_place R.Presence1 = 33
rule_place R.Presence2 = 34
rule_place R.Assign = 35
rule_place R.EmptyMap = 36
rule_place R.EmptyList = 37
rule_place R.Insert1 = 38
rule_place R.Insert2 = 39
rule_place R.Delete = 40
rule_place R.ClearElem = 41
rule_place R.ClearAny = 42
rule_place R.ClearNone = 43
rule_place R.ClearReg = 44
rule_place R.ClearMap1 = 45
rule_place R.ClearMap2 = 46
rule_place R.ClearMap3 = 47
rule_place R.ClearList1 = 48
rule_place R.ClearList2 = 49
rule_place R.ClearList3 = 50

pub rule_at : (r d : Rule) → get_or RULES (rule_place r) d ≡ r
rule_at R.Exec d = refl
rule_at _ d = refl

-- the list that has each rule at its place
pub every_rule : (rules : List Rule) × ((r d : Rule) → get_or rules (rule_place r) d ≡ r)
every_rule = (RULES, rule_at)

pub rule_within : (r : Rule) → rule_place r < 51
rule_within R.Exec = omega arith
rule_within _ = omega arith

-- the rule with the name, and the refusal with the number
abbrev rule_named : List ℕ → List Rule → Option Rule
rule_named name [] = None
rule_named name (r ∷ rs) = if bytes_eq name (rule_name r) then Some r else rule_named name rs

abbrev refusal_numbered : ℕ → List Refusal → Option Refusal
refusal_numbered n [] = None
refusal_numbered n (r ∷ rs) = if n == refusal_number r then Some r else refusal_numbered n rs

named_back : (r : Rule) → rule_named (rule_name r) RULES ≡ Some r
named_back R.Exec = refl
named_back _ = refl

-- each refusal once
abbrev refusals : List Refusal
refusals = F.BadByte ∷ F.OpenString ∷ F.BadEscape ∷ F.LoneSurrogate ∷ F.BadNumber ∷ F.TextTooLong ∷ F.Unexpected ∷ F.EndOfText ∷ F.IndexTooLarge ∷ F.ReservedName ∷ F.TooManyCommands ∷ F.TooLongExpression ∷ F.NotUtf8 ∷ F.NoHeader ∷ F.SameName ∷ F.NoReplica ∷ F.TooManyReplicas ∷ F.UnknownReplica ∷ F.TooManyEvents ∷ F.NotInList ∷ F.UnboundVariable ∷ F.GetOnHead ∷ F.NotACursor ∷ F.NoSuchNode ∷ F.PastEnd ∷ F.NoMap ∷ F.NoRegister ∷ F.TooDeep ∷ F.NoCommand ∷ F.AtYield ∷ F.NotAtYield ∷ F.NotActed ∷ F.NotReceived ∷ F.AlreadyApplied ∷ F.DepsMissing ∷ F.NoSuchReplica ∷ F.Full ∷ F.WrongVersion ∷ F.NoPasses ∷ F.TooManyTakes ∷ F.Spent ∷ F.MissingPass ∷ F.GivenStuck ∷ F.GateCount ∷ F.LimitTooLarge ∷ F.NoThread ∷ F.AtStart ∷ F.AtEnd ∷ F.PastSchedule ∷ F.NoSuchBreak ∷ F.TooManyBreaks ∷ F.ReadFailed ∷ F.WriteFailed ∷ F.TooManyLines ∷ F.BadLine ∷ []

numbered_back : (r : Refusal) → refusal_numbered (refusal_number r) refusals ≡ Some r
numbered_back F.BadByte = refl
numbered_back _ = refl

pub names_differ : (r s : Rule) → rule_name r ≡ rule_name s → r ≡ s
names_differ r s e = same_Some r s (sym (named_back r) ∙ (ap (λ n. rule_named n RULES) e ∙ named_back s))

pub numbers_differ : (r s : Refusal) → refusal_number r ≡ refusal_number s → r ≡ s
numbers_differ r s e = same_Some r s (sym (numbered_back r) ∙ (ap (λ n. refusal_numbered n refusals) e ∙ numbered_back s))
