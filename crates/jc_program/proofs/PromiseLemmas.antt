-- About Promise: each end of the program keeps it. `work`, `work_alone` and `exit` use it.
use Rattle.std.proofs.Common.{◌≡◌, ◌≢◌, ◌⊎◌, ℕ, inl, inr, List, [], Bool, true, false, Option, Some, None, Ok, Err, codes, string_bytes, refl, sym, ap, subst, arith}
use Rattle.std.proofs.lemmas.Slice.Eq.{bytes_eq-Decides}
use Rattle.std.specs.Str.{bytes_eq}
use Rattle.jc_io.specs.Streams.{ConsumesUpTo}
use Rattle.jc_rules.specs.Step.{Network}
use Rattle.jc_scenario.specs.WellFormed.{Scenario}
use Rattle.jc_network.specs.Given.{IsStart}
use Rattle.jc_cli.specs.Arguments.{words_order, IsWordsFault, HasText}
use Rattle.jc_cli.specs.declared.fault.WordsFault.{WordsFault}
use Rattle.jc_cli.specs.declared.fault.WordsFault.TheVariants as W
use Rattle.jc_cli.specs.declared.order.Order.{Order}
use Rattle.jc_cli.specs.declared.order.Task.{Task}
use Rattle.jc_cli.specs.declared.order.Task.TheVariants.{Show, Debug, Serve, Threads, Weave}
use Rattle.jc_program.specs.declared.fault.WorkFault.{WorkFault}
use Rattle.jc_program.specs.declared.fault.WorkFault.TheVariants.{Read, Write, TooManyLines, CutShort, NoThread, Memory}
use Rattle.jc_program.specs.declared.recording.Outcome.{Outcome}
use Rattle.jc_program.specs.declared.recording.Recording.{Recording}
use Rattle.jc_program.specs.declared.recording.Outcome.TheVariants as O
use Rattle.jc_program.specs.WorkFaults.{Explains, fault_status, fault_line}
use Rattle.jc_program.specs.ViewOutput.{AreTold, told_by}
use Rattle.jc_program.specs.Faults.{IsCause, IsUnread}
use Rattle.jc_program.specs.SessionRuns.{lines_by}
use Rattle.jc_program.specs.ThreadRuns.{outcome_status, Records, IsByThreads}
use Rattle.jc_program.specs.WeaveRuns.{IsBySeed}
use Rattle.jc_program.specs.Commands.{IsAlone, IsSilent, ReadsTextAlone, IsDone, IsStoppedCommand}
use Rattle.jc_io.specs.Written.{Stream}
use Rattle.jc_program.specs.Promise.{World, Files, NoneFailed, ReadsText, ReadsFor, HasStart, Promise, All, Says, Carried, Stopped, Completes, Breaks, done, text_refused, stuck, given_stuck, thread_starved, help, usage, read_failed, write_failed, help_write_failed, too_many_lines, cut_short, no_thread, no_memory, no_memory_for_words}
use Rattle.jc_program.proofs.FoundLemmas.{some_bytes}
use Rattle.jc_program.proofs.SessionRunsLemmas.{no_dash}
use Rattle.jc_program.proofs.CommandsLemmas as E

-- ---- tasks

-- a task on the file of this name came to its end
abbrev pub HasCompleted : Files → List ℕ → Task → World → World → ℕ → Type 0
HasCompleted files file task old new n =
    (bytes : List ℕ) × AreTold (told_by old.input.bytes files.texts file) bytes × Completes task bytes (lines_by old.input.bytes file) old new n

-- a fault stopped it
abbrev pub HasBroken : Files → List ℕ → Task → World → World → WorkFault → Type 0
HasBroken files file task old new fault =
    (bytes : List ℕ) × AreTold (told_by old.input.bytes files.texts file) bytes × Breaks task fault bytes (lines_by old.input.bytes file) (lines_by new.input.bytes file) old.out new.out

-- a task without threads came to its end
pub completed : (task : Task) (told lines : Option (List ℕ)) (old new : World) (n : ℕ) → IsDone task told lines old.out new.out (Says old new) n → (IsSilent task → new.err ≡ old.err) → (bytes : List ℕ) × AreTold told bytes × Completes task bytes lines old new n
completed (Show view) told lines old new n h quiet = (h.0, h.1, (h.2, quiet tt))
completed Debug told lines old new n h quiet = (h.0, h.1, (h.2, quiet tt))
completed Serve told lines old new n h quiet = let b = some_bytes told in (b.0, b.1, (h, quiet tt))
completed (Threads limit) told lines old new n h quiet = absurd h
completed (Weave seed limit) told lines old new n h quiet = h

-- or a fault stopped it
pub broken : (task : Task) (fault : WorkFault) (told lines left : Option (List ℕ)) (old new : Stream) → IsAlone task → IsStoppedCommand task fault told lines left old new → (bytes : List ℕ) × AreTold told bytes × Breaks task fault bytes lines left old new
broken Serve fault told lines left old new alone h = let b = some_bytes told in (b.0, b.1, h)
broken (Threads limit) fault told lines left old new alone h = absurd alone
broken _ fault told lines left old new alone h = h

-- a task that isn't `Threads` is without threads
pub alone_at : (task : Task) → ((limit : ℕ) → task ≡ Threads limit → ⊥) → IsAlone task
alone_at (Threads limit) none = absurd (none limit refl)
alone_at _ none = tt

-- a task without threads that isn't `Weave` leaves standard error alone
pub silent_at : (task : Task) → IsAlone task → ((seed limit : ℕ) → task ≡ Weave seed limit → ⊥) → IsSilent task
silent_at (Threads limit) alone none = absurd alone
silent_at (Weave seed limit) alone none = absurd (none seed limit refl)
silent_at _ alone none = tt

-- ---- statuses

-- a status of a command on these bytes that came to its end
data IsStatus (bytes : List ℕ) : ℕ → Type 0 where
  at_end : {n : ℕ} → E.IsEnd bytes n → IsStatus bytes n
  at_5 : IsStatus bytes 5

of_outcome : (bytes : List ℕ) → HasStart bytes → (outcome : Outcome) → IsStatus bytes (outcome_status outcome)
of_outcome bytes start O.NoMemory = at_5
of_outcome bytes start O.Stuck = at_end (E.event_stuck start)
of_outcome bytes start O.Done = at_end E.well

-- where a recording is one from a start
of_recording : (IsMade : Scenario → Recording → Type 0) → ((s : Scenario) (r : Recording) → IsMade s r → (start : Network) × IsStart s start) → (bytes out lines : List ℕ) (n : ℕ) → Records IsMade bytes out lines n → IsStatus bytes n
of_recording IsMade starts bytes out lines n (Ok s, is, inl h) =
    let start = starts s h.recording h.is_recording in
    subst (IsStatus bytes) (sym h.ends) (of_outcome bytes (s, start.0, is, start.1) h.recording.outcome)
of_recording IsMade starts bytes out lines n (Ok s, is, inr h) = at_end (E.of_given bytes s out n is h.0)
of_recording IsMade starts bytes out lines n (Err fault, is, h) = subst (IsStatus bytes) (sym h.0.ends) (at_end E.text_refused)

of_task : (task : Task) (bytes : List ℕ) (lines : Option (List ℕ)) (old new : World) (n : ℕ) → Completes task bytes lines old new n → IsStatus bytes n
of_task (Show view) bytes lines old new n h = at_end (E.of_view view bytes h.0.0 n h.0.1)
of_task Debug bytes lines old new n h = at_end (E.of_session bytes lines h.0.0 old.out new.out n h.0.1 h.0.2)
of_task Serve bytes lines old new n h = subst (IsStatus bytes) (sym h.0.0) (at_end E.well)
of_task (Threads limit) bytes lines old new n h = of_recording (IsByThreads limit) (λ s r is. (is.is_report.legal.start, is.is_report.legal.is_start)) bytes h.1.0 h.0 n h.1.1
of_task (Weave seed limit) bytes lines old new n h = of_recording (IsBySeed seed limit) (λ s r is. (is.is_woven.after.start, is.is_woven.after.is_start)) bytes h.1.0 h.0 n h.1.1

-- ---- what is read

is_dash : (file : List ℕ) → (file ≡ codes "-") ⊎ (file ≢ codes "-")
is_dash file = by (bytes_eq file (codes "-")) refl
  where
    by : (t : Bool) → bytes_eq file (codes "-") ≡ t → (file ≡ codes "-") ⊎ (file ≢ codes "-")
    by true e = inl ((bytes_eq-Decides file (codes "-")).0 e)
    by false e = inr (no_dash file e)

pub loses_none : (a b : Option (List ℕ)) → b ≡ a → ConsumesUpTo 8388609 a b
loses_none None b same = ([], omega arith, tt)
loses_none (Some xs) b same = ([], omega arith, rw same refl)

module _ (order : Order) (n : ℕ) (old new : World)
    (most : ReadsTextAlone order.task ⊎ (order.file ≡ codes "-") → ConsumesUpTo 8388609 old.input.bytes new.input.bytes)
    (untouched : ReadsTextAlone order.task ⊎ ((n ≡ 1) ⊎ (n ≡ 3)) → order.file ≢ codes "-" → new.input ≡ old.input) where
  reads_known : ReadsTextAlone order.task ⊎ ((n ≡ 1) ⊎ (n ≡ 3)) → ReadsText order.file old new
  reads_known by = record {
    other_file = untouched by;
    most = elim (is_dash order.file) [ inl file ↦ most (inr file) | inr file ↦ loses_none old.input.bytes new.input.bytes (ap (λ (s : Stream). s.bytes) (untouched by file)) ];
  }

  pub reads_for : ReadsFor order n old new
  reads_for (inr (inr (inr file))) = record { other_file = λ other. absurd (other file); most = most (inr file) }
  reads_for (inr (inr (inl three))) = reads_known (inr (inr three))
  reads_for (inr (inl one)) = reads_known (inr (inl one))
  reads_for (inl alone) = reads_known (inl alone)

-- ---- the promise

module _ (Does : Task → Type 0) (files : Files) (words : List (List ℕ)) (old new : World) where
  -- for arguments that are no command nothing was read
  pub explained : (fault : WordsFault) (n : ℕ) → IsWordsFault words fault → HasText fault → Explains fault old.out new.out old.err new.err n → new.input ≡ old.input → Promise Does files words old new n
  explained (W.Help text) n why some (inl (e, wrote, quiet)) input = subst (Promise Does files words old new) (sym e) (help (string_bytes text) why.0 why.1 some wrote input quiet)
  explained (W.Help text) n why some (inr (e, part, says)) input = subst (Promise Does files words old new) (sym e) (help_write_failed (string_bytes text) why.0 why.1 part input says)
  explained (W.Usage text) n why some (e, out, says) input = subst (Promise Does files words old new) (sym e) (usage (string_bytes text) why.0 why.1 some says input out)
  explained W.Memory n why some (e, out, says) input = subst (Promise Does files words old new) (sym e) (no_memory_for_words input out says)

  at_status : {n : ℕ} (c : Carried Does files words old new n) → IsStatus c.bytes n → Promise Does files words old new n
  at_status c (at_end E.well) = done c
  at_status c (at_end E.text_refused) = text_refused c
  at_status c (at_end (E.event_stuck start)) = stuck c start
  at_status c (at_end (E.given_stuck given)) = given_stuck c given
  at_status c at_5 = thread_starved c

  ended : {n : ℕ} → Carried Does files words old new n → Promise Does files words old new n
  ended {n} c = at_status c (of_task c.order.task c.bytes (lines_by old.input.bytes c.order.file) old new n c.completes)

  halted : (fault : WorkFault) (n : ℕ) → n ≡ fault_status fault → (s : Stopped Does files words old new fault) → IsCause fault (IsUnread files.may_fail s.order.file) old.input.failures new.input.failures old.out.failures new.out.failures → Promise Does files words old new n
  halted Read n e s c = subst (Promise Does files words old new) (sym e) (read_failed s c.0 c.1)
  halted Write n e s c = subst (Promise Does files words old new) (sym e) (write_failed s c.1 c.0)
  halted TooManyLines n e s c = subst (Promise Does files words old new) (sym e) (too_many_lines s (record { input = c.0; out = c.1 }))
  halted CutShort n e s c = subst (Promise Does files words old new) (sym e) (cut_short s (record { input = c.0; out = c.1 }))
  halted (NoThread refused) n e s c = subst (Promise Does files words old new) (sym e) (no_thread refused s (record { input = c.0; out = c.1 }))
  halted Memory n e s c = subst (Promise Does files words old new) (sym e) (no_memory s (record { input = c.0; out = c.1 }))

  module _ (order : Order) (is_order : words_order words ≡ Some order) (does : Does order.task) where
    -- the command came to its end
    pub carried : (n : ℕ) → HasCompleted files order.file order.task old new n → ReadsFor order n old new → NoneFailed old new → Promise Does files words old new n
    carried n (bytes, told, completes) reads free =
        ended (record { order = order; is_order = is_order; does = does; bytes = bytes; told = told; completes = completes; reads = reads; none_failed = free })

    -- a fault stopped it
    pub stopped : (fault : WorkFault) (n : ℕ) → n ≡ fault_status fault → HasBroken files order.file order.task old new fault → IsCause fault (IsUnread files.may_fail order.file) old.input.failures new.input.failures old.out.failures new.out.failures → ReadsFor order 4 old new → Says old new (fault_line fault) → Promise Does files words old new n
    stopped fault n e (bytes, told, breaks) cause reads line =
        halted fault n e (record { order = order; is_order = is_order; does = does; bytes = bytes; told = told; breaks = breaks; reads = reads; line = line }) cause

-- ---- more tasks

module _ (files : Files) (words : List (List ℕ)) (old new : World) where
  abbrev carried_more : {n : ℕ} → Carried IsAlone files words old new n → Carried All files words old new n
  carried_more c = record { order = c.order; is_order = c.is_order; does = tt; bytes = c.bytes; told = c.told; completes = c.completes; reads = c.reads; none_failed = c.none_failed }

  abbrev stopped_more : {fault : WorkFault} → Stopped IsAlone files words old new fault → Stopped All files words old new fault
  stopped_more s = record { order = s.order; is_order = s.is_order; does = tt; bytes = s.bytes; told = s.told; breaks = s.breaks; reads = s.reads; line = s.line }

  -- what is promised of the tasks that wait for nobody is promised of all
  pub more_tasks : {n : ℕ} → Promise IsAlone files words old new n → Promise All files words old new n
  more_tasks (done c) = done (carried_more c)
  more_tasks (text_refused c) = text_refused (carried_more c)
  more_tasks (stuck c start) = stuck (carried_more c) start
  more_tasks (given_stuck c given) = given_stuck (carried_more c) given
  more_tasks (thread_starved c) = thread_starved (carried_more c)
  more_tasks (help text none by full out input err) = help text none by full out input err
  more_tasks (usage text none by full says input out) = usage text none by full says input out
  more_tasks (read_failed s cause same) = read_failed (stopped_more s) cause same
  more_tasks (write_failed s failed same) = write_failed (stopped_more s) failed same
  more_tasks (help_write_failed text none by part input says) = help_write_failed text none by part input says
  more_tasks (too_many_lines s same) = too_many_lines (stopped_more s) same
  more_tasks (cut_short s same) = cut_short (stopped_more s) same
  more_tasks (no_thread refused s same) = no_thread refused (stopped_more s) same
  more_tasks (no_memory s same) = no_memory (stopped_more s) same
  more_tasks (no_memory_for_words input out says) = no_memory_for_words input out says
