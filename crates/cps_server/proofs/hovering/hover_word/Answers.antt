use Rattle.std.proofs.Common.{subst}
use Rattle.std.specs.Prelude.{option_map}
use Rattle.cps_server.specs.Rows.{ShowsBehind}
use Rattle.cps_server.proofs.HintLemmas.{if-ok-as}
use Rattle.cps_server.proofs.hovering.hover_word.Goals as goal

pub returns : goal.returns
returns c =
    let shown = option_map (λ text. text.items) c.in_ok-shown.shown in
    if-ok-as c.hover.result
    (λ json is. (shown, subst (λ front. ShowsBehind c.args.deck.document.now c.args.position.line front shown) c.in_ok-front.ensures c.in_ok-shown.ensures, is)) c.hover.ensures
