use Rattle.std.proofs.Common.{◌<◌, length, arith, false-eqb}
use Rattle.std.proofs.lemmas.Str.{IsCharBoundary-after_ascii}
use Rattle.jc_printer.proofs.quote.split_first.Goals as goal

pub range_from-requires : goal.range_from-requires
range_from-requires c _ =
    let some : 0 < length c.args.text.now = omega (arith, false-eqb _ 0 c.if-is_empty.ensures) in
    IsCharBoundary-after_ascii c.args.text.now 0 c.utf8.text some (c.requires.ascii some)
