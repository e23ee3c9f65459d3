use Rattle.std.proofs.Common.{rules, ◌≡◌, ◌≤◌, [], drop, length, map, subst, sym, arith}
use Rattle.std.proofs.lemmas.List.{append-nil, drop_all}
use Rattle.std.specs.List.{AllZip}
use Rattle.serde_json.specs.View.{view}
use Rattle.cps_server.specs.Results.{TellsHighlight}
use Rattle.cps_server.proofs.word_locations.tell_highlights.Goals as goal

pub returns : goal.returns
returns c =
    let mentions = c.args.mentions.now in
    let all : length mentions ≤ c.loop-mention.mention-index = omega (arith, c.loop-mention-test.false) in
    let none : drop c.loop-mention.mention-index mentions ≡ [] = drop_all c.loop-mention.mention-index mentions all in (
      map view c.loop-mention.told.items,
      subst (AllZip TellsHighlight mentions) (append-nil (map view c.loop-mention.told.items)) (c.loop-mention.invariant [] (subst (λ ms. AllZip TellsHighlight ms []) (sym none) tt)),
      search rules,
    )
