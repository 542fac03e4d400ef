use Rattle.jc_syntax.specs.Trees.{cmd_of}
use Rattle.jc_printer.specs.Canon.{canon_cmd}
use Rattle.jc_printer.proofs.PushedTextsLemmas.{item_pushed}
use Rattle.jc_printer.proofs.print.print_script.Goals as goal

-- one command more is written, behind its semicolon and blank
pub loop-cmd-preserved : goal.loop-cmd-preserved
loop-cmd-preserved c = item_pushed cmd_of canon_cmd _ _ c.loop-cmd.cmd-index c.cmd-item.result _ _ _ _ c.loop-cmd-test.true c.cmd-item.is c.loop-cmd.invariant c.in_ok-push_str.ensures.bytes c.in_ok-write_cmd-2.ensures
