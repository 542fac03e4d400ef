-- About PromiseFacts: each fact follows from the promise.
use Rattle.std.proofs.Common.{◌≡◌, ◌≢◌, ◌⊎◌, ◌∙◌, ℕ, inl, inr, List, [], ◌∷◌, Option, Some, None, Ok, Err, codes, refl, sym, ap, subst}
use Rattle.std.proofs.lemmas.Option.{same_Some}
use Rattle.jc_cli.specs.Arguments.{words_order, AsksHelp, IsFaultless}
use Rattle.jc_cli.specs.declared.order.Order.{Order}
use Rattle.jc_cli.specs.declared.order.Task.{Task}
use Rattle.jc_cli.specs.declared.order.Task.TheVariants.{Show, Debug, Serve, Threads, Weave}
use Rattle.jc_program.specs.declared.fault.WorkFault.{WorkFault}
use Rattle.jc_program.specs.declared.fault.WorkFault.TheVariants.{Read, Write, TooManyLines, CutShort, NoThread, Memory}
use Rattle.jc_program.specs.WorkFaults.{fault_status, fault_line}
use Rattle.jc_program.specs.ViewOutput.{AreTold, told_by}
use Rattle.jc_program.specs.Faults.{IsCause, IsUnread}
use Rattle.jc_program.specs.SessionRuns.{lines_by}
use Rattle.jc_program.specs.Commands.{IsAlone, IsSilent, ReadsTextAlone, IsDone, IsStoppedCommand, IsThreadsOrder, IsWeaveOrder}
use Rattle.jc_program.specs.ThreadRuns.{IsByThreads, AreThreadScenario, Records, HaveThreaded, IsThreadsFault}
use Rattle.jc_program.specs.WeaveRuns.{IsBySeed}
use Rattle.jc_io.specs.Streams.{ConsumesUpTo}
use Rattle.jc_runner.specs.declared.starting.SpawnRefused.{SpawnRefused}
use Rattle.jc_io.specs.Written.{Stream, Wrote, WrotePart}
use Rattle.jc_program.specs.Promise.{World, Files, Promise, All, Says, Carried, Stopped, Completes, Breaks, done, text_refused, stuck, given_stuck, thread_starved, help, usage, read_failed, write_failed, help_write_failed, too_many_lines, cut_short, no_thread, no_memory, no_memory_for_words}
use Rattle.jc_cli.specs.Laws.{FaultlessAreOrders}
use Rattle.jc_cli.proofs.ProgramCommandsLemmas.{asks_none}
use Rattle.jc_program.specs.PromiseFacts.{DoneFact, StoppedFact, ThreadsFact, HelpFact, LostFact, FaultyFact, UnshownFact, ShownFact, UnreadFact, OtherFileFact, MostFact, FailedFact, Facts}
use Rattle.jc_program.specs.Laws.{PromiseGivesFacts, AlonePromiseGivesFacts}
use Rattle.jc_program.proofs.CommandsLemmas as E
use Rattle.jc_io.specs.declared.io.ReadFault.TheVariants as I
use Rattle.jc_program.proofs.FoundLemmas.{recording_unread}
use Rattle.jc_program.proofs.WeaveRunsLemmas.{woven_not_five}
use Rattle.jc_program.proofs.PromiseLemmas.{alone_at, silent_at, loses_none}

-- ---- statuses

five_is_no_end : (bytes : List ℕ) → E.IsEnd bytes 5 → ⊥
five_is_no_end bytes e = at 5 e refl
  where
    at : (n : ℕ) → E.IsEnd bytes n → n ≡ 5 → ⊥
    at n E.well e = cc
    at n E.text_refused e = cc
    at n (E.event_stuck start) e = cc
    at n (E.given_stuck given) e = cc

-- nor is 5 the status of a woven schedule
woven_not_starved : (seed limit : ℕ) (bytes out lines : List ℕ) → Records (IsBySeed seed limit) bytes out lines 5 → ⊥
woven_not_starved seed limit bytes out lines (Ok s, is, inl h) = woven_not_five s seed limit out lines h
woven_not_starved seed limit bytes out lines (Ok s, is, inr h) = let e : ◌≡◌ {A = ℕ} 5 3 = h.0.ends in cc
woven_not_starved seed limit bytes out lines (Err fault, is, h) = let e : ◌≡◌ {A = ℕ} 5 1 = h.0.ends in cc

-- a task without threads that came to its end hasn't the status 5
pub not_starved : (task : Task) (bytes : List ℕ) (lines : Option (List ℕ)) (old new : World) → IsAlone task → Completes task bytes lines old new 5 → ⊥
not_starved (Show view) bytes lines old new alone h = five_is_no_end bytes (E.of_view view bytes h.0.0 5 h.0.1)
not_starved Debug bytes lines old new alone h = five_is_no_end bytes (E.of_session bytes lines h.0.0 old.out new.out 5 h.0.1 h.0.2)
not_starved Serve bytes lines old new alone h = let e : ◌≡◌ {A = ℕ} 5 0 = h.0.0 in cc
not_starved (Threads limit) bytes lines old new alone h = absurd alone
not_starved (Weave seed limit) bytes lines old new alone h = woven_not_starved seed limit bytes h.1.0 h.0 h.1.1

pub none_some : {X : Type 0} {x : X} {o : Option X} → o ≡ None → o ≡ Some x → ⊥
none_some {x = x} e f = let bad : None ≡ Some x = sym e ∙ f in cc

-- ---- arguments

-- arguments without a fault are a command
pub faultless_some : FaultlessAreOrders → (words : List (List ℕ)) → IsFaultless words → words_order words ≡ None → ⊥
unfolding words_order
faultless_some law [] free none = cc
faultless_some law (w ∷ ws) free none = none_some none (law w ws free).1

-- ---- what went out after a fault

breaks_stop : (task : Task) (fault : WorkFault) (bytes : List ℕ) (told lines left : Option (List ℕ)) (old new : Stream) → AreTold told bytes → IsAlone task → Breaks task fault bytes lines left old new → IsStoppedCommand task fault told lines left old new
breaks_stop Serve fault bytes told lines left old new is alone h = h
breaks_stop (Threads limit) fault bytes told lines left old new is alone h = absurd alone
breaks_stop _ fault bytes told lines left old new is alone h = (bytes, is, h)

abbrev Stop : Files → World → World → WorkFault → Order → Type 0
Stop files old new fault order =
    IsCause fault (IsUnread files.may_fail order.file) old.input.failures new.input.failures old.out.failures new.out.failures
    × IsStoppedCommand order.task fault (told_by old.input.bytes files.texts order.file) (lines_by old.input.bytes order.file) (lines_by new.input.bytes order.file) old.out new.out

of_stop : {Does : Task → Type 0} (files : Files) (words : List (List ℕ)) (old new : World) (n : ℕ) (fault : WorkFault) → n ≡ fault_status fault → (s : Stopped Does files words old new fault) → IsCause fault (IsUnread files.may_fail s.order.file) old.input.failures new.input.failures old.out.failures new.out.failures → StoppedFact files words old new n
of_stop files words old new n fault status s cause order some alone ends =
    let same : s.order ≡ order = same_Some s.order order (sym s.is_order ∙ some) in
    let own : IsAlone s.order.task = subst (λ (o : Order). IsAlone o.task) (sym same) alone in
    let stop : Stop files old new fault order = subst (Stop files old new fault) same (cause, breaks_stop s.order.task fault s.bytes (told_by old.input.bytes files.texts s.order.file) (lines_by old.input.bytes s.order.file) (lines_by new.input.bytes s.order.file) old.out new.out s.told own s.breaks) in
    (fault, status, s.line, stop.0, stop.1)

-- ---- tasks

complete_done : (task : Task) (bytes : List ℕ) (told lines : Option (List ℕ)) (old new : World) (n : ℕ) → IsAlone task → AreTold told bytes → Completes task bytes lines old new n → IsDone task told lines old.out new.out (Says old new) n
complete_done (Show view) bytes told lines old new n alone is h = (bytes, is, h.0)
complete_done Debug bytes told lines old new n alone is h = (bytes, is, h.0)
complete_done Serve bytes told lines old new n alone is h = h.0
complete_done (Threads limit) bytes told lines old new n alone is h = absurd alone
complete_done (Weave seed limit) bytes told lines old new n alone is h = (bytes, is, h)

pub complete_quiet : (task : Task) (bytes : List ℕ) (lines : Option (List ℕ)) (old new : World) (n : ℕ) → IsSilent task → Completes task bytes lines old new n → new.err ≡ old.err
complete_quiet (Threads limit) bytes lines old new n silent h = absurd silent
complete_quiet (Weave seed limit) bytes lines old new n silent h = absurd silent
complete_quiet _ bytes lines old new n silent h = h.1

pub unthreaded : (refused : SpawnRefused) (task : Task) (bytes : List ℕ) (lines left : Option (List ℕ)) (old new : Stream) → IsAlone task → Breaks task (NoThread refused) bytes lines left old new → ⊥
unthreaded refused (Threads limit) bytes lines left old new alone h = absurd alone
unthreaded refused (Weave seed limit) bytes lines left old new alone h = h.1
unthreaded refused _ bytes lines left old new alone h = h

fault_ends : (fault : WorkFault) (n : ℕ) → n ≡ fault_status fault → n ≢ 4 → n ≢ 5 → ⊥
fault_ends (NoThread refused) n e four five = five e
fault_ends Memory n e four five = five e
fault_ends _ n e four five = four e

fault_no_refusal : (fault : WorkFault) (n : ℕ) → n ≡ fault_status fault → (n ≡ 1) ⊎ (n ≡ 3) → ⊥
fault_no_refusal fault n e (inl one) = fault_ends fault 1 (sym one ∙ e) (λ four. cc) (λ five. cc)
fault_no_refusal fault n e (inr three) = fault_ends fault 3 (sym three ∙ e) (λ four. cc) (λ five. cc)

-- where the status isn't 4, neither a read nor a write failed
cause_unfailed : (fault : WorkFault) (unread : Type 0) (a b c d n : ℕ) → IsCause fault unread a b c d → n ≡ fault_status fault → n ≢ 4 → (b ≡ a) × (d ≡ c)
cause_unfailed (NoThread refused) unread a b c d n cause ends four = cause
cause_unfailed Memory unread a b c d n cause ends four = cause
cause_unfailed _ unread a b c d n cause ends four = absurd (four ends)

-- where no line is read
no_lines : {A B C D : Type 0} → A ⊎ (B ⊎ C) → A ⊎ (B ⊎ (C ⊎ D))
no_lines (inl a) = inl a
no_lines (inr (inl b)) = inr (inl b)
no_lines (inr (inr c)) = inr (inr (inl c))

-- ---- the ways to end

-- for arguments that are no command
data NoCommand (words : List (List ℕ)) (old new : World) : ℕ → Type 0 where
  helped : (text : List ℕ) → AsksHelp words → text ≢ [] → Wrote text old.out new.out → new.err ≡ old.err → NoCommand words old new 0
  unhelped : (text : List ℕ) → AsksHelp words → WrotePart text old.out new.out → Says old new (fault_line Write) → NoCommand words old new 4
  wrong : (text : List ℕ) → (AsksHelp words → ⊥) → text ≢ [] → Says old new text → new.out ≡ old.out → NoCommand words old new 2

-- The promise's ways, put together where most facts don't tell them apart: a command came to its end, a fault stopped
-- it, there was no memory for the arguments, or they are no command.
data Way (Does : Task → Type 0) (files : Files) (words : List (List ℕ)) (old new : World) : ℕ → Type 0 where
  ended : {n : ℕ} → n ≢ 2 → n ≢ 4 → Carried Does files words old new n → Way Does files words old new n
  stopped : {n : ℕ} (fault : WorkFault) → n ≡ fault_status fault → (s : Stopped Does files words old new fault) → IsCause fault (IsUnread files.may_fail s.order.file) old.input.failures new.input.failures old.out.failures new.out.failures → Way Does files words old new n
  unstarted : new.input ≡ old.input → new.out ≡ old.out → Says old new (fault_line Memory) → Way Does files words old new 5
  no_command : {n : ℕ} → words_order words ≡ None → new.input ≡ old.input → NoCommand words old new n → Way Does files words old new n

module _ (Does : Task → Type 0) (files : Files) (words : List (List ℕ)) (old new : World) where
  way_of : {n : ℕ} → Promise Does files words old new n → Way Does files words old new n
  way_of (done c) = ended (λ two. cc) (λ four. cc) c
  way_of (text_refused c) = ended (λ two. cc) (λ four. cc) c
  way_of (stuck c start) = ended (λ two. cc) (λ four. cc) c
  way_of (given_stuck c given) = ended (λ two. cc) (λ four. cc) c
  way_of (thread_starved c) = ended (λ two. cc) (λ four. cc) c
  way_of (help text none by full out input err) = no_command none input (helped text by full out err)
  way_of (usage text none by full says input out) = no_command none input (wrong text by full says out)
  way_of (read_failed s cause same) = stopped Read refl s (cause, same)
  way_of (write_failed s failed same) = stopped Write refl s (same, failed)
  way_of (help_write_failed text none by part input says) = no_command none input (unhelped text by part says)
  way_of (too_many_lines s same) = stopped TooManyLines refl s (same.input, same.out)
  way_of (cut_short s same) = stopped CutShort refl s (same.input, same.out)
  way_of (no_thread refused s same) = stopped (NoThread refused) refl s (same.input, same.out)
  way_of (no_memory s same) = stopped Memory refl s (same.input, same.out)
  way_of (no_memory_for_words input out says) = unstarted input out says

  -- ---- arguments that are no command

  -- the status 2 is that of wrong arguments
  usage_at : {n : ℕ} → Way Does files words old new n → n ≡ 2 → (words_order words ≡ None) × ((text : List ℕ) × (text ≢ []) × Says old new text) × (new.out ≡ old.out)
  usage_at (ended two four c) e = absurd (two e)
  usage_at (stopped fault ends s cause) e = absurd (fault_ends fault 2 (sym e ∙ ends) (λ four. cc) (λ five. cc))
  usage_at (no_command none input (wrong text by full says out)) e = (none, (text, full, says), out)
  usage_at _ e = cc

  help_of : {n : ℕ} → Way Does files words old new n → HelpFact files words old new n
  help_of (ended two four c) asks = absurd (none_some (asks_none words asks) c.is_order)
  help_of (stopped fault ends s cause) asks = absurd (none_some (asks_none words asks) s.is_order)
  help_of (unstarted input out says) asks = inr (inr refl)
  help_of (no_command none input (helped text by full out err)) asks = inl refl
  help_of (no_command none input (unhelped text by part says)) asks = inr (inl refl)
  help_of (no_command none input (wrong text by full says out)) asks = absurd (by asks)

  lost_of : {n : ℕ} → Way Does files words old new n → LostFact files words old new n
  lost_of (ended two four c) none e = absurd (none_some none c.is_order)
  lost_of (stopped fault ends s cause) none e = absurd (none_some none s.is_order)
  lost_of (no_command unknown input (unhelped text by part says)) none e = ((text, part), says)
  lost_of _ none e = cc

  faulty_of : {n : ℕ} → Way Does files words old new n → FaultyFact files words old new n
  faulty_of (ended two four c) none unasked = absurd (none_some none c.is_order)
  faulty_of (stopped fault ends s cause) none unasked = absurd (none_some none s.is_order)
  faulty_of (unstarted input out says) none unasked = inr refl
  faulty_of (no_command unknown input (helped text by full out err)) none unasked = absurd (unasked by)
  faulty_of (no_command unknown input (unhelped text by part says)) none unasked = absurd (unasked by)
  faulty_of (no_command unknown input (wrong text by full says out)) none unasked = inl refl

  unshown_of : {n : ℕ} → Way Does files words old new n → UnshownFact files words old new n
  unshown_of (ended two four c) none e = absurd (none_some none c.is_order)
  unshown_of (stopped fault ends s cause) none e = absurd (none_some none s.is_order)
  unshown_of (unstarted input out says) none e = out
  unshown_of (no_command unknown input (wrong text by full says out)) none e = out
  unshown_of _ none e = cc

  shown_of : {n : ℕ} → Way Does files words old new n → ShownFact files words old new n
  shown_of (ended two four c) none e = absurd (none_some none c.is_order)
  shown_of (stopped fault ends s cause) none e = absurd (none_some none s.is_order)
  shown_of (no_command unknown input (helped text by full out err)) none e = (text, full, out)
  shown_of _ none e = cc

  unread_of : {n : ℕ} → Way Does files words old new n → UnreadFact files words old new n
  unread_of (ended two four c) none = absurd (none_some none c.is_order)
  unread_of (stopped fault ends s cause) none = absurd (none_some none s.is_order)
  unread_of (unstarted input out says) none = input
  unread_of (no_command unknown input way) none = input

  -- ---- failures

  failed_of : {n : ℕ} → Way Does files words old new n → FailedFact files words old new n
  failed_of (ended two four c) e = (c.none_failed.input, c.none_failed.out)
  failed_of {n} (stopped fault ends s cause) e = cause_unfailed fault (IsUnread files.may_fail s.order.file) old.input.failures new.input.failures old.out.failures new.out.failures n cause ends e
  failed_of (unstarted input out says) e = (ap (λ (s : Stream). s.failures) input, ap (λ (s : Stream). s.failures) out)
  failed_of (no_command none input (helped text by full out err)) e = (ap (λ (s : Stream). s.failures) input, out.1)
  failed_of (no_command none input (unhelped text by part says)) e = absurd (e refl)
  failed_of (no_command none input (wrong text by full says out)) e = (ap (λ (s : Stream). s.failures) input, ap (λ (s : Stream). s.failures) out)

  -- ---- commands

  -- a task without threads that came to its end hasn't the status 5
  ended_unstarved : {n : ℕ} → (c : Carried Does files words old new n) → IsAlone c.order.task → n ≢ 5
  ended_unstarved c alone five =
      let lines = lines_by old.input.bytes c.order.file in
      not_starved c.order.task c.bytes lines old new alone (subst (λ (n : ℕ). Completes c.order.task c.bytes lines old new n) five c.completes)

  -- a command for which nothing was read or done
  unstarted_stops : (order : Order) → new.input ≡ old.input → new.out ≡ old.out → IsStoppedCommand order.task Memory (told_by old.input.bytes files.texts order.file) (lines_by old.input.bytes order.file) (lines_by new.input.bytes order.file) old.out new.out
  unstarted_stops order input out =
      let told = told_by old.input.bytes files.texts order.file in
      let lines = lines_by old.input.bytes order.file in
      subst (λ (s : Stream). IsStoppedCommand order.task Memory told lines (lines_by s.bytes order.file) old.out new.out) (sym input)
      (E.nothing_done order.task told lines old.out new.out out)

  stopped_of : {n : ℕ} → Way Does files words old new n → StoppedFact files words old new n
  stopped_of (ended two four c) order some alone (inl e) = absurd (four e)
  stopped_of (ended two four c) order some alone (inr e) =
      let same : c.order ≡ order = same_Some c.order order (sym c.is_order ∙ some) in
      absurd (ended_unstarved c (subst (λ (o : Order). IsAlone o.task) (sym same) alone) e)
  stopped_of {n} (stopped fault ends s cause) order some alone known = of_stop files words old new n fault ends s cause order some alone known
  stopped_of (unstarted input out says) order some alone known = (Memory, refl, says, (ap (λ (s : Stream). s.failures) input, ap (λ (s : Stream). s.failures) out), unstarted_stops order input out)
  stopped_of (no_command none input way) order some alone known = absurd (none_some none some)

  done_of : {n : ℕ} → Way Does files words old new n → DoneFact files words old new n
  done_of {n} (ended two unfailed c) order some alone four five =
      let same : c.order ≡ order = same_Some c.order order (sym c.is_order ∙ some) in
      let own : IsAlone c.order.task = subst (λ (o : Order). IsAlone o.task) (sym same) alone in
      subst (λ (o : Order). IsDone o.task (told_by old.input.bytes files.texts o.file) (lines_by old.input.bytes o.file) old.out new.out (Says old new) n) same (complete_done c.order.task c.bytes (told_by old.input.bytes files.texts c.order.file) (lines_by old.input.bytes c.order.file) old new n own c.told c.completes)
  done_of {n} (stopped fault ends s cause) order some alone four five = absurd (fault_ends fault n ends four five)
  done_of (unstarted input out says) order some alone four five = absurd (five refl)
  done_of (no_command none input way) order some alone four five = absurd (none_some none some)

  abbrev Threaded : ℕ → ℕ → Order → Type 0
  Threaded limit n order =
      HaveThreaded limit (told_by old.input.bytes files.texts order.file) old.out new.out (Says old new) n
      ⊎ IsThreadsFault limit (told_by old.input.bytes files.texts order.file) (IsUnread files.may_fail order.file) old.input.failures new.input.failures old.out new.out (Says old new) n

  threads_of : {n : ℕ} → Way Does files words old new n → ThreadsFact files words old new n
  threads_of {n} (ended two four c) order limit some is =
      let same : c.order ≡ order = same_Some c.order order (sym c.is_order ∙ some) in
      let task : c.order.task ≡ Threads limit = ap (λ (o : Order). o.task) same ∙ is in
      let h : Completes (Threads limit) c.bytes (lines_by old.input.bytes c.order.file) old new n = subst (λ (t : Task). Completes t c.bytes (lines_by old.input.bytes c.order.file) old new n) task c.completes in
      subst (Threaded limit n) same (inl (c.bytes, c.told, h))
  threads_of {n} (stopped fault ends s cause) order limit some is =
      let same : s.order ≡ order = same_Some s.order order (sym s.is_order ∙ some) in
      let task : s.order.task ≡ Threads limit = ap (λ (o : Order). o.task) same ∙ is in
      let lines = lines_by old.input.bytes s.order.file in
      let left = lines_by new.input.bytes s.order.file in
      let h : Breaks (Threads limit) fault s.bytes lines left old.out new.out = subst (λ (t : Task). Breaks t fault s.bytes lines left old.out new.out) task s.breaks in
      subst (Threaded limit n) same (inr (record { fault = fault; ends = ends; line = s.line; cause = cause; stops = (s.bytes, s.told, h) }))
  threads_of (unstarted input out says) order limit some is =
      let cause : IsCause Memory (IsUnread files.may_fail order.file) old.input.failures new.input.failures old.out.failures new.out.failures = (ap (λ (s : Stream). s.failures) input, ap (λ (s : Stream). s.failures) out) in
      let told = told_by old.input.bytes files.texts order.file in
      inr (record { fault = Memory; ends = refl; line = says; cause = cause; stops = recording_unread (IsByThreads limit) AreThreadScenario told old.out new.out I.Memory out })
  threads_of (no_command none input way) order limit some is = absurd (none_some none some)

  other_file_of : {n : ℕ} → Way Does files words old new n → OtherFileFact files words old new n
  other_file_of {n} (ended two four c) order some by other =
      let same : c.order ≡ order = same_Some c.order order (sym c.is_order ∙ some) in
      subst (λ (o : Order). ReadsTextAlone o.task ⊎ ((n ≡ 1) ⊎ (n ≡ 3)) → o.file ≢ codes "-" → new.input ≡ old.input) same (λ h. (c.reads (no_lines h)).other_file) by other
  other_file_of {n} (stopped fault ends s cause) order some (inl by) other =
      let same : s.order ≡ order = same_Some s.order order (sym s.is_order ∙ some) in
      subst (λ (o : Order). ReadsTextAlone o.task → o.file ≢ codes "-" → new.input ≡ old.input) same (λ h. (s.reads (inl h)).other_file) by other
  other_file_of {n} (stopped fault ends s cause) order some (inr known) other = absurd (fault_no_refusal fault n ends known)
  other_file_of (unstarted input out says) order some by other = input
  other_file_of (no_command none input way) order some by other = absurd (none_some none some)

  most_of : {n : ℕ} → Way Does files words old new n → MostFact files words old new n
  most_of {n} (ended two four c) order some by =
      let same : c.order ≡ order = same_Some c.order order (sym c.is_order ∙ some) in
      subst (λ (o : Order). ReadsTextAlone o.task ⊎ (o.file ≡ codes "-") → ConsumesUpTo 8388609 old.input.bytes new.input.bytes) same (λ h. (c.reads (elim h [ inl a ↦ inl a | inr b ↦ inr (inr (inr b)) ])).most) by
  most_of {n} (stopped fault ends s cause) order some by =
      let same : s.order ≡ order = same_Some s.order order (sym s.is_order ∙ some) in
      subst (λ (o : Order). ReadsTextAlone o.task ⊎ (o.file ≡ codes "-") → ConsumesUpTo 8388609 old.input.bytes new.input.bytes) same (λ h. (s.reads (elim h [ inl a ↦ inl a | inr b ↦ inr (inr (inr b)) ])).most) by
  most_of (unstarted input out says) order some by = loses_none old.input.bytes new.input.bytes (ap (λ (s : Stream). s.bytes) input)
  most_of (no_command none input way) order some by = absurd (none_some none some)

  -- ---- standard error

  stop_line : (fault : WorkFault) → (s : Stopped Does files words old new fault) → IsAlone s.order.task → fault_status fault ≡ 5 → Says old new (codes "no memory\n")
  stop_line (NoThread refused) s alone e = absurd (unthreaded refused s.order.task s.bytes (lines_by old.input.bytes s.order.file) (lines_by new.input.bytes s.order.file) old.out new.out alone s.breaks)
  stop_line Memory s alone e = s.line
  stop_line _ s alone e = cc

  memory_line_of : {n : ℕ} → ((o : Order) → words_order words ≡ Some o → Does o.task → IsAlone o.task) → Way Does files words old new n → n ≡ 5 → Says old new (codes "no memory\n")
  memory_line_of alone (ended two four c) e = absurd (ended_unstarved c (alone c.order c.is_order c.does) e)
  memory_line_of alone (stopped fault ends s cause) e = stop_line fault s (alone s.order s.is_order s.does) (sym ends ∙ e)
  memory_line_of alone (unstarted input out says) e = says
  memory_line_of alone (no_command none input (wrong text by full says out)) e = cc
  memory_line_of alone _ e = cc

  quiet_of : {n : ℕ} → ((o : Order) → words_order words ≡ Some o → Does o.task → IsSilent o.task) → Way Does files words old new n → n ≢ 2 → n ≢ 4 → n ≢ 5 → new.err ≡ old.err
  quiet_of {n} silent (ended unused whole c) two four five = complete_quiet c.order.task c.bytes (lines_by old.input.bytes c.order.file) old new n (silent c.order c.is_order c.does) c.completes
  quiet_of {n} silent (stopped fault ends s cause) two four five = absurd (fault_ends fault n ends four five)
  quiet_of silent (unstarted input out says) two four five = absurd (five refl)
  quiet_of silent (no_command none input (helped text by full out err)) two four five = err
  quiet_of silent (no_command none input (unhelped text by part says)) two four five = absurd (four refl)
  quiet_of silent (no_command none input (wrong text by full says out)) two four five = absurd (two refl)

-- without the command `threads` a command's task is one that waits for nobody, and without `weave` a silent one
without_threads : (words : List (List ℕ)) (order : Order) → words_order words ≡ Some order → (IsThreadsOrder words → ⊥) → IsAlone order.task
without_threads words order some none = alone_at order.task (λ limit is. none (order, limit, some, is))

without_weave : (words : List (List ℕ)) (order : Order) → words_order words ≡ Some order → (IsWeaveOrder words → ⊥) → IsAlone order.task → IsSilent order.task
without_weave words order some none alone = silent_at order.task alone (λ seed limit is. none (order, seed, limit, some, is))

facts_of : (Does : Task → Type 0) → FaultlessAreOrders → (files : Files) (words : List (List ℕ)) (old new : World) (n : ℕ) → Promise Does files words old new n → Facts files words old new n
facts_of Does law files words old new n p =
    let way = way_of Does files words old new p in
    record {
      order = λ order some two. none_some (usage_at Does files words old new way two).0 some;
      taken = λ free two. faultless_some law words free (usage_at Does files words old new way two).0;
      done = done_of Does files words old new way;
      stopped = stopped_of Does files words old new way;
      threads = threads_of Does files words old new way;
      help = help_of Does files words old new way;
      lost = lost_of Does files words old new way;
      faulty = faulty_of Does files words old new way;
      silent = λ two. (usage_at Does files words old new way two).2;
      unshown = unshown_of Does files words old new way;
      shown = shown_of Does files words old new way;
      usage = λ two. (usage_at Does files words old new way two).1;
      unread = unread_of Does files words old new way;
      other_file = other_file_of Does files words old new way;
      most = most_of Does files words old new way;
      failed = failed_of Does files words old new way;
      memory_line = λ alone. memory_line_of Does files words old new (λ o some does. without_threads words o some alone) way;
      quiet = λ alone still. quiet_of Does files words old new (λ o some does. without_weave words o some still (without_threads words o some alone)) way;
    }

pub promise_gives_facts : FaultlessAreOrders → PromiseGivesFacts
promise_gives_facts law = facts_of All law

-- ---- the tasks that wait for nobody

module _ (files : Files) (words : List (List ℕ)) (old new : World) (order : Order) (limit : ℕ) (some : words_order words ≡ Some order) (is : order.task ≡ Threads limit) where
  -- a run by threads isn't one of them
  waits : (o : Order) → words_order words ≡ Some o → IsAlone o.task → ⊥
  waits o other alone =
      let same : o ≡ order = same_Some o order (sym other ∙ some) in
      subst IsAlone (ap (λ (o : Order). o.task) same ∙ is) alone

  -- for threads there was no memory for the arguments
  starving : {n : ℕ} → Way IsAlone files words old new n → (n ≡ 5) × (new.out ≡ old.out)
  starving (ended two four c) = absurd (waits c.order c.is_order c.does)
  starving (stopped fault ends s cause) = absurd (waits s.order s.is_order s.does)
  starving (unstarted input out says) = (refl, out)
  starving (no_command none input way) = absurd (none_some none some)

pub alone_promise_gives_facts : FaultlessAreOrders → AlonePromiseGivesFacts
alone_promise_gives_facts law files words old new None (asks, same) = record {
  waits = λ e. asks;
  untouched = λ e. (ap (λ (w : World). w.input) same, ap (λ (w : World). w.out) same, ap (λ (w : World). w.err) same);
  threads = λ order limit some is. inl refl;
  unwritten = λ order limit some is e. cc;
  facts = λ status e. cc;
  memory_line = λ e. cc;
  quiet = λ still two four five. ap (λ (w : World). w.err) same;
}
alone_promise_gives_facts law files words old new (Some n) p =
    let way = way_of IsAlone files words old new p in
    record {
      waits = λ e. cc;
      untouched = λ e. cc;
      threads = λ order limit some is. inr (ap Some (starving files words old new order limit some is way).0);
      unwritten = λ order limit some is e. (starving files words old new order limit some is way).1;
      facts = λ status e. subst (Facts files words old new) (same_Some n status e) (facts_of IsAlone law files words old new n p);
      memory_line = λ e. memory_line_of IsAlone files words old new (λ o some alone. alone) way (same_Some n 5 e);
      quiet = λ still two four five. quiet_of IsAlone files words old new (λ o some alone. without_weave words o some still alone) way (λ e. two (ap Some e)) (λ e. four (ap Some e)) (λ e. five (ap Some e));
    }
