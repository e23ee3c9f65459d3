-- Bytes cut at their newlines.
use Rattle.std.proofs.Common.{◌≡◌, ℕ, suc, ◌+◌, ◌<◌, Bool, true, false, cond, not, ◌&&◌, eqb, List, [], ◌∷◌, ◌++◌, length, get_or, take, drop, flat_map, None, Some, refl, sym, ap, subst, ◌∙◌, arith, append_assoc}
use Rattle.std.specs.Prelude.{◌==◌}
use Rattle.std.specs.List.{list_all, position, position_or_len}
use Rattle.std.proofs.lemmas.List.{take_all, take-append-drop, drop_more}
use Rattle.std.proofs.lemmas.List.Quantifiers.{position-Some}
use Rattle.std.proofs.lemmas.List.Folds.{list_all-append}
use Rattle.std.proofs.lemmas.Grind.{flat_map-append, common_steps}
use Rattle.std.proofs.lemmas.Bool.Decides.{nat_tests}
use Rattle.cps_text.proofs.PlaceLemmas.{position_or_len-none}
use Rattle.cps_input.specs.Lines.{Splits, has_no_newline, newline}

abbrev ended : List ℕ → List ℕ
ended line = line ++ newline ∷ []

pub both : (a b : Bool) → a ≡ true → b ≡ true → (a && b) ≡ true
both a b p q = rw (p, q) refl

pub left_true : (a b : Bool) → (a && b) ≡ true → a ≡ true
left_true true b h = refl
left_true false b h = cc

pub right_true : (a b : Bool) → (a && b) ≡ true → b ≡ true
right_true true b h = h
right_true false b h = cc

pub splits-none : Splits [] [] []
splits-none = record { whole = refl; each = refl; last = refl }

-- a newline ends the line that has begun
pub splits-line : (taken more : List ℕ) (lines later : List (List ℕ)) (rest last : List ℕ) → Splits taken lines rest → Splits more later last
    → Splits (taken ++ newline ∷ more) (lines ++ rest ∷ later) last
splits-line taken more lines later rest last front back = record {
  whole =
      let f = front.whole in let b = back.whole in
      let joined : flat_map ended (lines ++ rest ∷ later) ≡ flat_map ended lines ++ flat_map ended (rest ∷ later) = flat_map-append ended lines (rest ∷ later) in
      rw (joined, f, b) (simp append_assoc);
  each = list_all-append has_no_newline lines (rest ∷ later) ∙ both (list_all has_no_newline lines) (list_all has_no_newline (rest ∷ later)) front.each
      (both (has_no_newline rest) (list_all has_no_newline later) front.last back.each);
  last = back.last;
}

-- bytes of the line that has begun
pub splits-piece : (taken : List ℕ) (lines : List (List ℕ)) (rest piece : List ℕ) → Splits taken lines rest → has_no_newline piece ≡ true
    → Splits (taken ++ piece) lines (rest ++ piece)
splits-piece taken lines rest piece so_far other = record {
  whole = ap (λ b. b ++ piece) so_far.whole ∙ append_assoc (flat_map ended lines) rest piece;
  each = so_far.each;
  last = list_all-append (λ b. not (eqb b newline)) rest piece ∙ both (has_no_newline rest) (has_no_newline piece) so_far.last other;
}

pub record Split (bytes : List ℕ) : Type 0 where
  pub lines : List (List ℕ)
  pub rest : List ℕ
  pub splits : Splits bytes lines rest

split_onto : (byte : ℕ) (bytes : List ℕ) (lines : List (List ℕ)) (rest : List ℕ) → eqb byte newline ≡ false → Splits bytes lines rest → Split (byte ∷ bytes)
split_onto byte bytes [] rest other splits = record {
  lines = [];
  rest = byte ∷ rest;
  splits = record {
    whole = ap (λ b. byte ∷ b) splits.whole;
    each = refl;
    last = both (not (eqb byte newline)) (has_no_newline rest) (rw other refl) splits.last;
  };
}
split_onto byte bytes (line ∷ lines) rest other splits = record {
  lines = (byte ∷ line) ∷ lines;
  rest = rest;
  splits = record {
    whole = ap (λ b. byte ∷ b) splits.whole;
    each = both (has_no_newline (byte ∷ line)) (list_all has_no_newline lines)
        (both (not (eqb byte newline)) (has_no_newline line) (rw other refl) (left_true (has_no_newline line) (list_all has_no_newline lines) splits.each))
        (right_true (has_no_newline line) (list_all has_no_newline lines) splits.each);
    last = splits.last;
  };
}

split_front : (byte : ℕ) (bytes : List ℕ) (test : Bool) → eqb byte newline ≡ test → Split bytes → Split (byte ∷ bytes)
split_front byte bytes true is split =
    let same : byte ≡ newline = grind (arith, nat_tests) in
    record {
      lines = [] ∷ split.lines;
      rest = split.rest;
      splits = record {
        whole = let w = split.splits.whole in rw (same, ← w) refl;
        each = split.splits.each;
        last = split.splits.last;
      };
    }
split_front byte bytes false is split = split_onto byte bytes split.lines split.rest is split.splits

-- each text can be cut
pub split_of : (bytes : List ℕ) → Split bytes
split_of [] = record { lines = []; rest = []; splits = splits-none }
split_of (byte ∷ bytes) = split_front byte bytes (eqb byte newline) refl (split_of bytes)

-- ---- the first newline

abbrev is_newline : ℕ → Bool
is_newline byte = byte == newline

passing_front : (byte : ℕ) (bytes : List ℕ) (test : Bool) → not (eqb byte newline) ≡ test → has_no_newline (take (position_or_len is_newline bytes) bytes) ≡ true
    → has_no_newline (take (cond test (1 + position_or_len is_newline bytes) 0) (byte ∷ bytes)) ≡ true
passing_front byte bytes true is later =
    let len = position_or_len is_newline bytes in
    let next : suc len ≡ 1 + len = omega arith in
    subst (λ n. has_no_newline (take n (byte ∷ bytes)) ≡ true) next (both (not (eqb byte newline)) (has_no_newline (take len bytes)) is later)
passing_front byte bytes false is later = refl

none_before : (bytes : List ℕ) → has_no_newline (take (position_or_len is_newline bytes) bytes) ≡ true
none_before [] = refl
none_before (byte ∷ bytes) = passing_front byte bytes (not (eqb byte newline)) refl (none_before bytes)

-- what stands before the first newline, and behind it
pub record Cut (bytes : List ℕ) (at : ℕ) : Type 0 where
  pub within : at < length bytes
  pub whole : bytes ≡ take at bytes ++ newline ∷ drop (at + 1) bytes
  pub front : has_no_newline (take at bytes) ≡ true

pub cut_at : (bytes : List ℕ) (at : ℕ) → Some at ≡ position is_newline bytes → Cut bytes at
cut_at bytes at is =
    let place : position_or_len is_newline bytes ≡ at = grind (arith, common_steps) in
    let found = position-Some is_newline bytes at 0 (sym is) in
    let here : get_or bytes at 0 ≡ newline = let test = found.1 in grind (arith, nat_tests) in
    record {
      within = found.0;
      whole = sym (take-append-drop at bytes) ∙ ap (λ b. take at bytes ++ b) (drop_more bytes at 0 found.0 ∙ ap (λ b. b ∷ drop (at + 1) bytes) here);
      front = subst (λ n. has_no_newline (take n bytes) ≡ true) place (none_before bytes);
    }

pub no_newline : (bytes : List ℕ) → None ≡ position is_newline bytes → has_no_newline bytes ≡ true
no_newline bytes none =
    let all = position_or_len-none is_newline bytes none in
    subst (λ b. has_no_newline b ≡ true) (ap (λ n. take n bytes) (sym all) ∙ take_all (length bytes) bytes (omega arith)) (none_before bytes)
