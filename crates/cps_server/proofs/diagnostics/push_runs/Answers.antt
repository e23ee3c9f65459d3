use Rattle.std.proofs.Common.{inl, [], ◌∷◌, ◌++◌}
use Rattle.std.proofs.lemmas.List.Elements.{All-push}
use Rattle.cps_server.specs.Diagnostics.{TellsBeside}
use Rattle.cps_server.specs.Code.Writing.{listener_of}
use Rattle.cps_server.proofs.WritingLemmas.{idle-behind, none-beside}
use Rattle.cps_server.proofs.diagnostics.push_runs.Goals as goal

pub loop-lines-init : goal.loop-lines-init
loop-lines-init c = none-beside (listener_of c.args.deck) c.args.deck.document.now c.args.later c.args.list.now.items

pub loop-lines-preserved : goal.loop-lines-preserved
loop-lines-preserved c =
    let told = c.loop-lines.invariant.0 in
    let json = c.in_ok-push_idle.ensures.0 in (
      told ++ json ∷ [],
      All-push (TellsBeside (listener_of c.args.deck) c.args.deck.document.now) told json c.loop-lines.invariant.1 (inl c.in_ok-push_idle.ensures.1),
      λ rest. idle-behind c.loop-lines.later json told rest c.args.later c.args.list.now.items c.loop-lines.list.items c.push_comma.new.text.items
          c.push_idle.new.list.items c.in_ok-push_comma.ensures c.in_ok-push_idle.ensures.2 (c.loop-lines.invariant.2 (json ∷ rest)),
    )
