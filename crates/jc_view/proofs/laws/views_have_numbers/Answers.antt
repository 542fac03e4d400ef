use Rattle.jc_view.proofs.NumbersLemmas.{view_numbers}
use Rattle.jc_view.proofs.laws.views_have_numbers.Goals as goal

pub returns : goal.returns
returns c = λ names name A. view_numbers names name A
