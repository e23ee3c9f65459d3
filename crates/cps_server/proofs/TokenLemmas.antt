-- Tokens, one after another.
use Rattle.std.proofs.Common.{◌≡◌, ap, ◌∙◌, ℕ, ◌+◌, ◌-◌, ◌<◌, ◌≤◌, List, [], ◌∷◌, ◌++◌, length, get_or, arith}
use Rattle.std.specs.List.{All}
use Rattle.std.proofs.lemmas.List.Elements.{All-get_or, All-push}
use Rattle.std.proofs.lemmas.List.Quantifiers.{all_pairs_push}
use Rattle.cps_rpc.specs.declared.encoding.Encoding.{Encoding}
use Rattle.cps_rpc.specs.declared.position.Range.{Range}
use Rattle.cps_rpc.specs.Positions.{units}
use Rattle.cps_server.specs.declared.token.Token.{Token}
use Rattle.cps_server.specs.Tokens.{IsInLines, IsToken, Precedes}
use Rattle.cps_server.specs.Code.TokenList.{BeginsBehind, EndBy, EndsBy, IsBetween, KeepsBetween}

all-so : {T : Type 0} (P Q : T → Type 0) → ((x : T) → P x → Q x) → (xs : List T) → All P xs → All Q xs
all-so P Q so xs each = λ k d within. so (get_or xs k d) (each k d within)

-- one token more
pub token-more : (encoding : Encoding) (text : List ℕ) (line start : ℕ) (tokens : List Token) (token : Token) → EndBy encoding text line start tokens
    → BeginsBehind encoding text line start token → EndBy encoding text line token.end (tokens ++ token ∷ [])
token-more encoding text line start tokens token ended begins = record {
  each = record {
    each = All-push (IsToken encoding text) tokens token ended.each.each begins.fits;
    order = all_pairs_push Precedes tokens token ended.each.order
        (λ k d within. precedes (get_or tokens k d) (All-get_or (EndsBy line start) tokens k d within ended.before));
  };
  before = All-push (EndsBy line token.end) tokens token (all-so (EndsBy line start) (EndsBy line token.end) later tokens ended.before) itself;
}
  where
    precedes : (x : Token) → EndsBy line start x → Precedes x token
    precedes x by = record {
      line = omega (arith, by.above, begins.here);
      units = λ same. let in_line : x.line ≡ line = same ∙ begins.here in omega (arith, by.units in_line, begins.units);
    }

    later : (x : Token) → EndsBy line start x → EndsBy line token.end x
    later x by = record {
      above = by.above;
      units = λ same. omega (arith, by.units same, begins.units, begins.fits.some);
    }

    itself : EndsBy line token.end token
    itself = record { above = omega (arith, begins.here); units = λ same. omega arith }

-- the next line
pub line-more : (encoding : Encoding) (text : List ℕ) (line start : ℕ) (tokens : List Token) → EndBy encoding text line start tokens
    → EndBy encoding text (line + 1) 0 tokens
line-more encoding text line start tokens ended = record {
  each = ended.each;
  before = all-so (EndsBy line start) (EndsBy (line + 1) 0) next tokens ended.before;
}
  where
    next : (x : Token) → EndsBy line start x → EndsBy (line + 1) 0 x
    next x by = record {
      above = omega (arith, by.above);
      units = λ same. omega (arith, by.above, same);
    }

no-place : (tokens : List Token) → tokens ≡ [] → (k : ℕ) → k < length tokens → ⊥
no-place tokens none k within = omega (arith, within, ap length none)

-- no tokens
pub none-ended : (encoding : Encoding) (text : List ℕ) (line start : ℕ) (tokens : List Token) → tokens ≡ [] → EndBy encoding text line start tokens
none-ended encoding text line start tokens none = record {
  each = record {
    each = λ k d within. absurd (no-place tokens none k within);
    order = λ i j d before within. absurd (no-place tokens none j within);
  };
  before = λ k d within. absurd (no-place tokens none k within);
}

pub none-between : (first end : ℕ) (tokens : List Token) → tokens ≡ [] → All (IsBetween first end) tokens
none-between first end tokens none = λ k d within. absurd (no-place tokens none k within)

-- tokens between the lines of a range
pub in-range : (range : Range) (end : ℕ) (tokens : List Token) → end ≤ range.end.line + 1 → All (IsBetween range.start.line end) tokens
    → All (IsInLines range) tokens
in-range range end tokens within all =
    all-so (IsBetween range.start.line end) (IsInLines range) (λ x is. record { first = is.from; last = omega (arith, is.below, within) }) tokens all

-- two additions to a line
pub keeps-both : (line : ℕ) (old middle new : List Token) → KeepsBetween line old middle → KeepsBetween line middle new → KeepsBetween line old new
keeps-both line old middle new before after first end from below all = after first end from below (before first end from below all)
