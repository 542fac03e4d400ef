use Rattle.jc_serve.proofs.SubjectsLemmas.{no_memory, refused_new}
use Rattle.jc_serve.proofs.subjects.subject_of.Goals as goal

pub returns-in_ok-fault_answer-in-Err : goal.returns-in_ok-fault_answer-in-Err
returns-in_ok-fault_answer-in-Err c =
    let text = c.args.text.now in
    let fault = c.in-Err.fault in
    let why = c.in_ok-fault_answer-in-Err.field-0 in
    let says = c.in_ok-fault_answer-in-Err.ensures in
    refused_new text fault why (c.in-Err.ensures.fault (no_memory text fault why.items says)) says
