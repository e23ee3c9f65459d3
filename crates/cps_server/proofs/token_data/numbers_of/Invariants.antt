use Rattle.std.proofs.Common.{◌≡◌, ◌++◌, drop, map}
use Rattle.serde_json.specs.View.{view}
use Rattle.cps_server.specs.Tokens.{encoded, encoded_behind, number_json}
use Rattle.cps_server.proofs.token_data.numbers_of.Given as goal

-- the numbers of the tokens that are left stand behind those that are there
abbrev pub invariant-loop-token : goal.invariant-loop-token
invariant-loop-token l =
    map view l.numbers.items ++ map number_json (encoded_behind l.line l.start (drop l.token-index l.tokens)) ≡ map number_json (encoded l.tokens)
