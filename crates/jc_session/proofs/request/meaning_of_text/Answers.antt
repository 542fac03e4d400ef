use Rattle.std.proofs.Common.{subst, sym}
use Rattle.std.specs.List.{prefix_len}
use Rattle.jc_session.specs.Requests.{is_blank_char}
use Rattle.jc_session.specs.Views.{AreAscii}
use Rattle.jc_session.proofs.RequestsLemmas.{ascii_drop}
use Rattle.jc_session.proofs.request.meaning_of_text.Goals as goal

pub ascii_text-requires : goal.ascii_text-requires
ascii_text-requires c =
    let rest = (c.in-Some.ensures.ascii c.requires).1 in
    subst AreAscii (sym c.past_blanks.ensures) (ascii_drop (prefix_len is_blank_char c.in-Some.rest.now) c.in-Some.rest.now rest)
