-- Events that are refused, and why.
use Rattle.std.specs.Prelude.{◌<◌, List, [], ◌∷◌, length, codes, true, false}
use Rattle.jc_rules.specs.declared.key.Key.TheVariants as K
use Rattle.jc_rules.specs.declared.key.Tagged.{Tagged}
use Rattle.jc_rules.specs.declared.key.Tagged.TheVariants.{MapT, ListT}
use Rattle.jc_rules.specs.declared.operation.Event.{Event}
use Rattle.jc_rules.specs.declared.operation.Event.TheVariants as E
use Rattle.jc_rules.specs.declared.version.Version.{Version}
use Rattle.jc_rules.specs.declared.version.Version.TheVariants.{One, Two}
use Rattle.jc_rules.specs.Context.{empty}
use Rattle.jc_rules.specs.Syntax.{Expr, TheDoc, Variable, GetKey, Index, KeysOf, ValuesOf, LetIn, SetTo, InsertAfter, Yield}
use Rattle.jc_rules.specs.State.{State, start, ACursor, Names}
use Rattle.jc_rules.specs.Derivation.{Occur}
use Rattle.jc_rules.specs.Refused.{Cause, because, no_node, Refused, IsStuck, IsStuckIn}
use Rattle.jc_rules.specs.declared.refusal.Refusal.TheVariants as F
use Rattle.jc_rules.specs.Step.{Network}
use Rattle.jc_rules.specs.Table.{cursor}
use Rattle.jc_rules.specs.Examples.{by_a, alone}
use Rattle.jc_rules.specs.Examples.Registers.{one, assign_one, assign_two, assigned}
use Rattle.jc_rules.specs.Examples.Lists.{make_list, tree_1, after_5}

-- in the state the event, which reads nothing, is refused for this cause
abbrev pub IsRefusedExample : State → Event → Cause → Type 0
IsRefusedExample A event why = Refused (Occur A event []) why

-- `doc.get("a")`
abbrev pub at_a : Expr
at_a = GetKey TheDoc (codes "a")

-- Events in the course of `doc.get("a") := 1; yield`: `a.send` before the assignment, `a.exec` and `a.done` after it,
-- `a.apply(1, a)` and `a.apply(9, a)` after `a.send` and `a.recv(a)`, and `a.exec` and `a.done` after `a.done`.
abbrev pub exchanged : State
exchanged = record (assigned (Yield ∷ []) []) { acted = true; send = assign_one ∷ []; recv = assign_one ∷ [] }

abbrev pub SendBeforeYield : Type 0
SendBeforeYield = IsRefusedExample (start (SetTo at_a one ∷ Yield ∷ [])) (E.Send 0) (because F.NotAtYield)

abbrev pub RunAtYield : Type 0
RunAtYield = IsRefusedExample (assigned (Yield ∷ []) []) (E.Exec 0) (because F.AtYield)

abbrev pub DoneTooEarly : Type 0
DoneTooEarly = IsRefusedExample (assigned (Yield ∷ []) []) (E.Done 0) (because F.NotActed)

abbrev pub ApplyTwice : Type 0
ApplyTwice = IsRefusedExample exchanged (E.Apply 0 (by_a 1)) (because F.AlreadyApplied)

abbrev pub ApplyUnreceived : Type 0
ApplyUnreceived = IsRefusedExample exchanged (E.Apply 0 (by_a 9)) (because F.NotReceived)

abbrev pub RunPastScript : Type 0
RunPastScript = IsRefusedExample (record exchanged { left = []; acted = false }) (E.Exec 0) (because F.NoCommand)

abbrev pub DonePastScript : Type 0
DonePastScript = IsRefusedExample (record exchanged { left = []; acted = false }) (E.Done 0) (because F.NoCommand)

-- `b.apply(2, a)` before `b.apply(1, a)`
abbrev pub DependencyMissing : Type 0
DependencyMissing =
    IsRefusedExample (record (start (Yield ∷ [])) { acted = true; recv = assign_one ∷ assign_two ∷ [] })
    (E.Apply 1 (by_a 2)) (because F.DepsMissing)

-- first commands on a fresh replica: `let x = doc.get("l").idx(0)`, `let s = x`, `let s = doc.keys`,
-- `let s = doc.values` and `doc.get("a").insertAfter(1)`
abbrev pub IndexInNothing : Type 0
IndexInNothing =
    IsRefusedExample (start (LetIn (codes "x") (Index (GetKey TheDoc (codes "l")) 0) ∷ []))
    (E.Exec 0) (no_node (MapT K.Doc))

abbrev pub VariableUnbound : Type 0
VariableUnbound =
    IsRefusedExample (start (LetIn (codes "s") (Variable (codes "x")) ∷ [])) (E.Exec 0) (because F.UnboundVariable)

abbrev pub KeysOfNothing : Type 0
KeysOfNothing = IsRefusedExample (start (LetIn (codes "s") (KeysOf TheDoc) ∷ [])) (E.Exec 0) (because F.NoMap)

abbrev pub ValuesOfNothing : Type 0
ValuesOfNothing = IsRefusedExample (start (LetIn (codes "s") (ValuesOf TheDoc) ∷ [])) (E.Exec 0) (because F.NoRegister)

abbrev pub InsertInNothing : Type 0
InsertInNothing = IsRefusedExample (start (InsertAfter at_a one ∷ [])) (E.Exec 0) (because F.NotInList)

-- `let x = doc.get("l").idx(0)` where only "a" is
abbrev pub IndexInMap : Type 0
IndexInMap =
    IsRefusedExample (assigned (LetIn (codes "x") (Index (GetKey TheDoc (codes "l")) 0) ∷ []) [])
    (E.Exec 0) (no_node (ListT (K.Name (codes "l"))))

-- `let w = doc.idx(2)` where one element isn't deleted
abbrev pub IndexPastEnd : Type 0
IndexPastEnd = IsRefusedExample after_5 (E.Exec 0) (because F.PastEnd)

-- `s := 1` where s is a list of names
abbrev pub AssignmentToNames : Type 0
AssignmentToNames =
    IsRefusedExample (assigned (SetTo (Variable (codes "s")) one ∷ []) ((codes "s", Names (codes "a" ∷ [])) ∷ []))
    (E.Exec 0) (because F.NotACursor)

-- `doc.idx(0).get("a") := 1` where the document is a list
abbrev pub KeyOfHead : Type 0
KeyOfHead =
    IsRefusedExample (alone (SetTo (GetKey (Index TheDoc 0) (codes "a")) one ∷ []) [] tree_1 (by_a 1 ∷ []) (make_list ∷ []))
    (E.Exec 0) (because F.GetOnHead)

-- `let x = x.get("a")` where the path of x has more than 511 keys
abbrev pub KeyTooDeep : Type 0
KeyTooDeep =
    (path : List Tagged) → 511 < length path
    → IsRefusedExample
    (alone
    (LetIn (codes "x") (GetKey (Variable (codes "x")) (codes "a")) ∷ [])
    ((codes "x", ACursor (cursor path (K.Name (codes "a")))) ∷ []) empty [] [])
    (E.Exec 0) (because F.TooDeep)

-- the same below a path: `let s = doc.get("a").keys` where only a value is under "a", and on a fresh replica
-- `let s = doc.get("a").keys` and `let s = doc.get("a").values`
abbrev pub KeysOfRegister : Type 0
KeysOfRegister = IsRefusedExample (assigned (LetIn (codes "s") (KeysOf at_a) ∷ []) []) (E.Exec 0) (because F.NoMap)

abbrev pub KeysInNothing : Type 0
KeysInNothing = IsRefusedExample (start (LetIn (codes "s") (KeysOf at_a) ∷ [])) (E.Exec 0) (no_node (MapT K.Doc))

abbrev pub ValuesInNothing : Type 0
ValuesInNothing = IsRefusedExample (start (LetIn (codes "s") (ValuesOf at_a) ∷ [])) (E.Exec 0) (no_node (MapT K.Doc))

-- `let s = doc.get("a").get("b").keys` where only a value is under "a": the path's second key isn't there
abbrev pub KeysBelowRegister : Type 0
KeysBelowRegister =
    IsRefusedExample (assigned (LetIn (codes "s") (KeysOf (GetKey at_a (codes "b"))) ∷ []) [])
    (E.Exec 0) (no_node (MapT (K.Name (codes "a"))))

-- In a network of one replica that is at a yield: it receives from a second one, a second one runs, and it applies an
-- operation of one that isn't there, which is asked for among the received ones alone.
abbrev pub FromNobody : Type 0
FromNobody = IsStuck (start (Yield ∷ []) ∷ []) (E.Recv 0 1) (because F.NoSuchReplica)

abbrev pub ByNobody : Type 0
ByNobody = IsStuck (start (Yield ∷ []) ∷ []) (E.Exec 1) (because F.NoSuchReplica)

abbrev pub OfNobody : Type 0
OfNobody = IsStuck (start (Yield ∷ []) ∷ []) (E.Apply 0 (record { counter = 1; replica = 1 })) (because F.NotReceived)

-- It takes an operation that it doesn't offer itself; where scenarios have no such events; and from a second replica,
-- which isn't there.
abbrev pub in_version : Version → Network
in_version version = record { version = version; states = start (Yield ∷ []) ∷ [] }

abbrev pub TakeUnoffered : Type 0
TakeUnoffered = IsStuckIn (in_version Two) (E.Take 0 0 (by_a 1)) (because F.NotReceived)

abbrev pub TakeInFirst : Type 0
TakeInFirst = IsStuckIn (in_version One) (E.Take 0 0 (by_a 1)) (because F.WrongVersion)

abbrev pub TakeFromNobody : Type 0
TakeFromNobody = IsStuckIn (in_version One) (E.Take 0 1 (by_a 1)) (because F.NoSuchReplica)
