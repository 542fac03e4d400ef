use Rattle.std.proofs.Common.{refl}
use Rattle.jc_dump.proofs.RowsLemmas.{other_digit, other_digits}
use Rattle.jc_dump.proofs.rows.RowLine.set_last_digit.Goals as goal

pub returns : goal.returns
returns c =
    let line = c.args.self.now in
    let kept = c.requires.line in (
      record {
        text = other_digit line.rule line.depth c.args.depth line.last_digit line.bytes.items kept.small c.ranges.depth.fits c.requires.near kept.digits kept.text;
        digits = other_digits line.depth c.args.depth line.last_digit kept.small c.ranges.depth.fits c.requires.near kept.digits;
        small = c.ranges.depth.fits;
        name = kept.name;
      },
      refl,
      refl,
    )
