-- For the code, not part of what a reader believes: tokens as they are told, line by line.
use Rattle.std.specs.Prelude.{◌≡◌, ◌<◌, ◌≤◌, ℕ, List}
use Rattle.std.specs.List.{All}
use Rattle.cps_rpc.specs.declared.encoding.Encoding.{Encoding}
use Rattle.cps_server.specs.declared.token.Token.{Token}
use Rattle.cps_server.specs.Tokens.{AreTokens, IsToken}

-- a token ends before a place of a line
pub record EndsBy (line start : ℕ) (token : Token) : Type 0 where
  pub above : token.line ≤ line
  pub units : token.line ≡ line → token.end ≤ start

-- all of a text's tokens do
pub record EndBy (encoding : Encoding) (text : List ℕ) (line start : ℕ) (tokens : List Token) : Type 0 where
  pub each : AreTokens encoding text tokens
  pub before : All (EndsBy line start) tokens

-- a token of a line begins at a place or behind it
pub record BeginsBehind (encoding : Encoding) (text : List ℕ) (line start : ℕ) (token : Token) : Type 0 where
  pub here : token.line ≡ line
  pub units : start ≤ token.start
  pub fits : IsToken encoding text token

-- a token stands in lines from one up to another
pub record IsBetween (first end : ℕ) (token : Token) : Type 0 where
  pub from : first ≤ token.line
  pub below : token.line < end

-- those that a line adds stand in it
abbrev pub KeepsBetween : ℕ → List Token → List Token → Type 0
KeepsBetween line old new = (first end : ℕ) → first ≤ line → line < end → All (IsBetween first end) old → All (IsBetween first end) new
