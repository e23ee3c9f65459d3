use Rattle.std.proofs.Common.{◌≡◌, ◌++◌, map, take}
use Rattle.serde_json.specs.View.{view}
use Rattle.cps_server.specs.Tokens.{number_json}
use Rattle.cps_server.proofs.token_data.push_all.Given as goal

abbrev pub invariant-loop-number : goal.invariant-loop-number
invariant-loop-number l = map view l.numbers.items ≡ map view l.fn.numbers.items ++ map number_json (take l.number-index l.more)
