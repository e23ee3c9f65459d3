use Rattle.std.proofs.Common.{map, sym, ap, ◌∙◌}
use Rattle.std.specs.Prelude.{slice_get}
use Rattle.cps_server.specs.Code.Opened.{value_of}
use Rattle.cps_server.specs.ServerState.{without}
use Rattle.cps_server.proofs.TextLemmas.{without-removed}
use Rattle.cps_server.proofs.open_texts.OpenTexts.take_first.Goals as goal

pub returns-clause-left : goal.returns-clause-left
returns-clause-left c =
    let first = c.in_ok-at.ensures.found in
    let list = c.self.inside.list.items in
    ap (λ xs. without c.args.uri.now (map value_of xs)) c.remove.ensures.items
    ∙ without-removed c.args.uri.now list c.in_ok-at.at first.one (ap (λ xs. slice_get xs c.in_ok-at.at) (sym c.deref.ensures.value) ∙ first.there) first.under
    ∙ ap (without c.args.uri.now) c.self.view_is
