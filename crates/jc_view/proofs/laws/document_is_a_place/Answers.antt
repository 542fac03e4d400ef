use Rattle.jc_view.proofs.PlacesLemmas.{shown_of_document}
use Rattle.jc_view.proofs.laws.document_is_a_place.Goals as goal

pub returns : goal.returns
returns c = λ names name A cursor e f. shown_of_document names name A cursor e f
