use Rattle.std.proofs.Common.{◌≡◌, ◌+◌, ◌-◌, ◌<◌, ◌++◌, length, decimal, refl, ap, ◌∙◌, arith}
use Rattle.std.proofs.lemmas.Fmt.{decimal_nonempty}
use Rattle.jc_dump.specs.Lines.{row_text}
use Rattle.jc_dump.proofs.rows.RowLine.write.Goals as goal

pub overflow_sub-self : goal.overflow_sub-self
overflow_sub-self c =
    let some : 0 < length (decimal c.args.depth) = decimal_nonempty c.args.depth c.ranges.depth.fits in
    omega (arith, some, c.in_ok-digits.ensures.digits)

pub returns : goal.returns
returns c =
    let some : 0 < length (decimal c.args.depth) = decimal_nonempty c.args.depth c.ranges.depth.fits in
    let last : c.in_ok-digits.digits - 1 + 1 ≡ length (decimal c.args.depth) = omega (arith, some, c.in_ok-digits.ensures.digits) in (
      record {
        text = c.in_ok-digits.ensures.line ∙ ap (λ l. l ++ row_text (c.args.rule, c.args.depth)) c.clear.ensures.items;
        digits = last;
        small = c.ranges.depth.fits;
        name = c.in_ok-digits.ensures.name;
      },
      refl,
      refl,
    )
