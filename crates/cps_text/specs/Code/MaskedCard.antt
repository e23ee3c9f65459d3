-- For the code that reads the fields of a card by masks, not part of what a reader believes.
use Rattle.std.specs.Prelude.{ℕ, List, ◌≡◌, ◌≤◌, length, take, map}
use Rattle.std.specs.Simd.Lanes.{mask_l}
use Rattle.cps_text.specs.declared.masked_card.MaskedCard.{MaskedCard}
use Rattle.cps_text.specs.Text.{is_blank, is_filled}

-- the bits of the columns that are filled, and of those that are blank
pub record AreMasks (columns : List ℕ) (f b : ℕ) : Type 0 where
  pub filled : f ≡ mask_l (map is_filled columns)
  pub blank : b ≡ mask_l (map is_blank columns)

-- the masks of a card are those of 64 columns that begin with it, unless it has more
pub record IsMasked (card : MaskedCard) : Type 0 where
  pub columns : List ℕ
  pub long : length columns ≡ 64
  pub masks : AreMasks columns card.filled card.blank
  pub front : length card.text.now ≤ 64 → take (length card.text.now) columns ≡ card.text.now
