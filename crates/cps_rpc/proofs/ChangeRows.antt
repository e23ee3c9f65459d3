-- Lines, sources and changes, worked by hand.
use Rattle.std.specs.Prelude.{◌≡◌, ℕ, [], ◌∷◌, ◌++◌, codes, Option, Some, None, refl}
use Rattle.cps_rpc.specs.declared.encoding.Encoding.TheVariants.{Utf8, Utf16}
use Rattle.cps_rpc.specs.declared.position.Range.{Range}
use Rattle.cps_rpc.specs.Changes.{changed, first_touched, end_touched}
use Rattle.cps_rpc.specs.Lines.{text_lines, source_lines}

-- ---- lines

no_text : text_lines [] ≡ [] ∷ []
no_text = refl

ended_line : text_lines (codes "A\n") ≡ codes "A" ∷ [] ∷ []
ended_line = refl

two_lines : text_lines (codes "A\r\n\nB") ≡ codes "A\r" ∷ [] ∷ codes "B" ∷ []
two_lines = refl

-- ---- sources

no_source : source_lines [] ≡ []
no_source = refl

empty_line : source_lines (codes "\n") ≡ [] ∷ []
empty_line = refl

one_line : source_lines (codes "A\n") ≡ codes "A" ∷ []
one_line = refl

unended_line : source_lines (codes "A") ≡ codes "A" ∷ []
unended_line = refl

returns : source_lines (codes "A\r\nB\r") ≡ codes "A" ∷ codes "B" ∷ []
returns = refl

return_alone : source_lines (codes "\r") ≡ [] ∷ []
return_alone = refl

return_inside : source_lines (codes "A\rB\n") ≡ codes "A\rB" ∷ []
return_inside = refl

-- ---- changes

abbrev between : ℕ → ℕ → ℕ → ℕ → Option Range
between line character last behind = Some (record { start = record { line = line; character = character }; end = record { line = last; character = behind } })

whole : changed Utf8 (codes "AB\nC") None (codes "X") ≡ codes "X"
whole = refl

key : changed Utf16 (codes "AB\nC") (between 0 1 0 1) (codes "X") ≡ codes "AXB\nC"
key = refl

joined : changed Utf8 (codes "AB\nC") (between 0 1 1 0) (codes "X") ≡ codes "AXC"
joined = refl

cut : changed Utf8 (codes "AB\nC") (between 0 1 0 2) (codes "\n\n") ≡ codes "A\n\n\nC"
cut = refl

end_before_start : changed Utf8 (codes "AB\nC") (between 1 0 0 1) (codes "X") ≡ codes "AB\nXC"
end_before_start = refl

behind_line : changed Utf8 (codes "AB\r\nC") (between 0 9 0 9) (codes "X") ≡ codes "ABX\r\nC"
behind_line = refl

behind_text : changed Utf8 (codes "AB\nC") (between 5 0 6 0) (codes "X") ≡ codes "AB\nCX"
behind_text = refl

-- a pair of UTF-16, of which an end that stands in it takes nothing
in_pair : changed Utf16 (0xF0 ∷ 0x9F ∷ 0x98 ∷ 0x80 ∷ []) (between 0 0 0 1) (codes "X") ≡ codes "X" ++ 0xF0 ∷ 0x9F ∷ 0x98 ∷ 0x80 ∷ []
in_pair = refl

pair : changed Utf16 (0xF0 ∷ 0x9F ∷ 0x98 ∷ 0x80 ∷ []) (between 0 0 0 2) (codes "X") ≡ codes "X"
pair = refl

-- ---- the lines that a change touches

first : first_touched (text_lines (codes "A\nB\nC")) (between 1 0 7 0) ≡ 1
first = refl

last : end_touched (text_lines (codes "A\nB\nC")) (between 1 0 7 0) ≡ 3
last = refl

last_before_first : end_touched (text_lines (codes "A\nB\nC")) (between 1 0 0 0) ≡ 2
last_before_first = refl
