use Rattle.jc_view.proofs.DroppedLemmas.{document_dropped}
use Rattle.jc_view.proofs.laws.dropped_show_the_same.Goals as goal

pub returns : goal.returns
returns c = λ names goes d. document_dropped names goes d
