use Rattle.std.proofs.Common.{◌≡◌, length, sym, subst, IsUtf8, arith}
use Rattle.jc_dump.proofs.BytesLemmas.{cut_back}
use Rattle.jc_dump.proofs.texts.push_block.Goals as goal

pub returns-in-Err-clause-err : goal.returns-in-Err-clause-err
returns-in-Err-clause-err c =
    let size : length c.args.out.now.items ≡ c.len-before.result = omega (arith, c.len-before.ensures, c.args.out.now.ok.0) in
    cut_back c.args.out.now.items c.write_block.new.out.items c.truncate.new.self.items c.len-before.result size c.write_block.ensures.begins c.truncate.ensures.items

pub returns-in-Err-clause-utf8 : goal.returns-in-Err-clause-utf8
returns-in-Err-clause-utf8 c = λ h.
    let size : length c.args.out.now.items ≡ c.len-before.result = omega (arith, c.len-before.ensures, c.args.out.now.ok.0) in
    subst IsUtf8 (sym (cut_back c.args.out.now.items c.write_block.new.out.items c.truncate.new.self.items c.len-before.result size c.write_block.ensures.begins c.truncate.ensures.items)) h
