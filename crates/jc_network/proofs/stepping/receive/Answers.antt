use Rattle.std.proofs.Common.{◌≡◌, ◌<◌, ◌+◌, Some, length, ◌++◌, slice_get, slice_set, slice_index_or, refl, sym, ◌∙◌, ap, subst, arith}
use Rattle.jc_replica.specs.Answers.{AnswersEvent}
use Rattle.jc_replica.specs.Operations.{AreHanded, AreOfOne}
use Rattle.jc_replica.specs.Received.{receiving_event}
use Rattle.jc_network.proofs.StepsLemmas.{received}
use Rattle.jc_network.proofs.HalvesLemmas.{index_get, get_front, get_back, set_front, set_back}
use Rattle.jc_network.proofs.stepping.receive.Goals as goal

-- ---- from itself

pub returns-then-to-from : goal.returns-then-to-from
returns-then-to-from c =
    let xs = c.args.replicas.now in
    let a = slice_index_or xs c.from-to.result c.index-replicas-to.result in
    let is : c.from-to.result ≡ c.args.p = c.from-to.ensures in
    let there : slice_get xs c.args.p ≡ Some a = subst (λ n. slice_get xs n ≡ Some a) is (index_get xs _ _ (rw is c.requires.receiver) c.index-replicas-to.is ∙ ap (λ x. Some x) c.index-replicas-to.is) in
    let same : c.args.p ≡ c.args.q = sym is ∙ (c.if-to-from.true ∙ c.from-from.ensures) in
    let sender : slice_get xs c.args.q ≡ Some a = subst (λ n. slice_get xs n ≡ Some a) same there in
    let number : a.number ≡ c.args.p = c.requires.numbered c.args.p a there in
    let answers = subst (λ n. AnswersEvent (receiving_event n c.args.id a.number) a.history.now.send a c.read_own.new.replica c.read_own.result) (number ∙ same) c.read_own.ensures in
    received xs _ c.args.p c.args.q c.args.id a c.read_own.new.replica a a.history.now.send c.read_own.result there sender refl (ap (λ n. slice_set xs n c.read_own.new.replica) is) number answers

-- ---- from a later one

pub read_from-requires-clause-handed : goal.read_from-requires-clause-handed
read_from-requires-clause-handed c =
    let whole = c.args.replicas.now in
    let xs = c.split_at_mut-front.result.0.now in
    let ys = c.split_at_mut-front.result.1.now in
    let b = slice_index_or ys 0 c.index-back-0.result in
    let from : c.from-from.result ≡ c.args.q = c.from-from.ensures in
    let parts : whole ≡ xs ++ ys = c.split_at_mut-front.ensures.value in
    let len : length xs ≡ c.args.q = c.split_at_mut-front.ensures.front_len ∙ from in
    let whole_len : length ys + c.from-from.result ≡ length whole = c.split_at_mut-front.ensures.back_len in
    let other : slice_get ys 0 ≡ Some b = index_get ys 0 _ (omega (arith, whole_len, from, c.requires.sender)) c.index-back-0.is ∙ ap (λ x. Some x) c.index-back-0.is in
    let sender : slice_get whole c.args.q ≡ Some b = rw parts (subst (λ n. slice_get (xs ++ ys) n ≡ Some b) len (get_back xs ys b other)) in
    subst AreHanded (sym c.sent.ensures.sent) (c.requires.hand c.args.q b sender)

pub read_from-requires-clause-own : goal.read_from-requires-clause-own
read_from-requires-clause-own c =
    let whole = c.args.replicas.now in
    let xs = c.split_at_mut-front.result.0.now in
    let ys = c.split_at_mut-front.result.1.now in
    let b = slice_index_or ys 0 c.index-back-0.result in
    let from : c.from-from.result ≡ c.args.q = c.from-from.ensures in
    let parts : whole ≡ xs ++ ys = c.split_at_mut-front.ensures.value in
    let len : length xs ≡ c.args.q = c.split_at_mut-front.ensures.front_len ∙ from in
    let whole_len : length ys + c.from-from.result ≡ length whole = c.split_at_mut-front.ensures.back_len in
    let other : slice_get ys 0 ≡ Some b = index_get ys 0 _ (omega (arith, whole_len, from, c.requires.sender)) c.index-back-0.is ∙ ap (λ x. Some x) c.index-back-0.is in
    let sender : slice_get whole c.args.q ≡ Some b = rw parts (subst (λ n. slice_get (xs ++ ys) n ≡ Some b) len (get_back xs ys b other)) in
    subst AreOfOne (sym c.sent.ensures.sent) (c.requires.own c.args.q b sender)

pub returns-then-to-from-2 : goal.returns-then-to-from-2
returns-then-to-from-2 c =
    let whole = c.args.replicas.now in
    let xs = c.split_at_mut-front.result.0.now in
    let ys = c.split_at_mut-front.result.1.now in
    let a = slice_index_or xs c.from-to.result c.index-front-to.result in
    let b = slice_index_or ys 0 c.index-back-0.result in
    let to : c.from-to.result ≡ c.args.p = c.from-to.ensures in
    let from : c.from-from.result ≡ c.args.q = c.from-from.ensures in
    let parts : whole ≡ xs ++ ys = c.split_at_mut-front.ensures.value in
    let len : length xs ≡ c.args.q = c.split_at_mut-front.ensures.front_len ∙ from in
    let whole_len : length ys + c.from-from.result ≡ length whole = c.split_at_mut-front.ensures.back_len in
    let less : c.from-to.result < c.from-from.result = c.if-to-from-2.true in
    let have : slice_get xs c.from-to.result ≡ Some a = index_get xs _ _ (omega (arith, less, len, from)) c.index-front-to.is ∙ ap (λ x. Some x) c.index-front-to.is in
    let other : slice_get ys 0 ≡ Some b = index_get ys 0 _ (omega (arith, whole_len, from, c.requires.sender)) c.index-back-0.is ∙ ap (λ x. Some x) c.index-back-0.is in
    let there : slice_get whole c.args.p ≡ Some a = rw parts (subst (λ n. slice_get (xs ++ ys) n ≡ Some a) to (get_front xs ys _ a have)) in
    let sender : slice_get whole c.args.q ≡ Some b = rw parts (subst (λ n. slice_get (xs ++ ys) n ≡ Some b) len (get_back xs ys b other)) in
    let now = sym (rw parts (subst (λ n. slice_set (xs ++ ys) n c.read_from.new.replica ≡ slice_set xs c.from-to.result c.read_from.new.replica ++ ys) to (set_front xs ys _ a c.read_from.new.replica have))) in
    received whole _ c.args.p c.args.q c.args.id a c.read_from.new.replica b _ _ there sender c.sent.ensures.sent now (c.requires.numbered c.args.p a there) (c.read_from.ensures c.args.q)

-- ---- from an earlier one

pub read_from-requires-else-to-from-2-clause-handed : goal.read_from-requires-else-to-from-2-clause-handed
read_from-requires-else-to-from-2-clause-handed c =
    let whole = c.args.replicas.now in
    let split = c.split_at_mut-front-else-to-from-2 in
    let xs = split.result.0.now in
    let ys = split.result.1.now in
    let b = slice_index_or xs c.from-from.result c.index-front-from.result in
    let to : c.from-to.result ≡ c.args.p = c.from-to.ensures in
    let from : c.from-from.result ≡ c.args.q = c.from-from.ensures in
    let parts : whole ≡ xs ++ ys = split.ensures.value in
    let len : length xs ≡ c.args.p = split.ensures.front_len ∙ to in
    let other : slice_get xs c.from-from.result ≡ Some b = index_get xs _ _ (omega (arith, c.if-to-from.false, c.if-to-from-2.false, len, to)) c.index-front-from.is ∙ ap (λ x. Some x) c.index-front-from.is in
    let sender : slice_get whole c.args.q ≡ Some b = rw parts (subst (λ n. slice_get (xs ++ ys) n ≡ Some b) from (get_front xs ys _ b other)) in
    subst AreHanded (sym c.sent-else-to-from-2.ensures.sent) (c.requires.hand c.args.q b sender)

pub read_from-requires-else-to-from-2-clause-own : goal.read_from-requires-else-to-from-2-clause-own
read_from-requires-else-to-from-2-clause-own c =
    let whole = c.args.replicas.now in
    let split = c.split_at_mut-front-else-to-from-2 in
    let xs = split.result.0.now in
    let ys = split.result.1.now in
    let b = slice_index_or xs c.from-from.result c.index-front-from.result in
    let to : c.from-to.result ≡ c.args.p = c.from-to.ensures in
    let from : c.from-from.result ≡ c.args.q = c.from-from.ensures in
    let parts : whole ≡ xs ++ ys = split.ensures.value in
    let len : length xs ≡ c.args.p = split.ensures.front_len ∙ to in
    let other : slice_get xs c.from-from.result ≡ Some b = index_get xs _ _ (omega (arith, c.if-to-from.false, c.if-to-from-2.false, len, to)) c.index-front-from.is ∙ ap (λ x. Some x) c.index-front-from.is in
    let sender : slice_get whole c.args.q ≡ Some b = rw parts (subst (λ n. slice_get (xs ++ ys) n ≡ Some b) from (get_front xs ys _ b other)) in
    subst AreOfOne (sym c.sent-else-to-from-2.ensures.sent) (c.requires.own c.args.q b sender)

pub returns-else-to-from-2 : goal.returns-else-to-from-2
returns-else-to-from-2 c =
    let whole = c.args.replicas.now in
    let split = c.split_at_mut-front-else-to-from-2 in
    let xs = split.result.0.now in
    let ys = split.result.1.now in
    let b = slice_index_or xs c.from-from.result c.index-front-from.result in
    let a = slice_index_or ys 0 c.index-back-0-else-to-from-2.result in
    let new = c.read_from-else-to-from-2.new.replica in
    let to : c.from-to.result ≡ c.args.p = c.from-to.ensures in
    let from : c.from-from.result ≡ c.args.q = c.from-from.ensures in
    let parts : whole ≡ xs ++ ys = split.ensures.value in
    let len : length xs ≡ c.args.p = split.ensures.front_len ∙ to in
    let whole_len : length ys + c.from-to.result ≡ length whole = split.ensures.back_len in
    let have : slice_get ys 0 ≡ Some a = index_get ys 0 _ (omega (arith, whole_len, to, c.requires.receiver)) c.index-back-0-else-to-from-2.is ∙ ap (λ x. Some x) c.index-back-0-else-to-from-2.is in
    let other : slice_get xs c.from-from.result ≡ Some b = index_get xs _ _ (omega (arith, c.if-to-from.false, c.if-to-from-2.false, len, to)) c.index-front-from.is ∙ ap (λ x. Some x) c.index-front-from.is in
    let there : slice_get whole c.args.p ≡ Some a = rw parts (subst (λ n. slice_get (xs ++ ys) n ≡ Some a) len (get_back xs ys a have)) in
    let sender : slice_get whole c.args.q ≡ Some b = rw parts (subst (λ n. slice_get (xs ++ ys) n ≡ Some b) from (get_front xs ys _ b other)) in
    let now = sym (rw parts (subst (λ n. slice_set (xs ++ ys) n new ≡ xs ++ slice_set ys 0 new) len (set_back xs ys new))) in
    received whole _ c.args.p c.args.q c.args.id a new b _ _ there sender c.sent-else-to-from-2.ensures.sent now (c.requires.numbered c.args.p a there) (c.read_from-else-to-from-2.ensures c.args.q)
