-- The definitions, computed on small examples.
use Rattle.std.specs.Prelude.{◌≡◌, ℕ, List, [], ◌∷◌, ◌++◌, codes, replicate, slice_index, unwrap_or, refl}
use Rattle.std.specs.List.{flat_map}
use Rattle.cps_text.specs.declared.name.Name.{Name}
use Rattle.cps_text.specs.Name.{name_of}
use Rattle.cps_mention.specs.CallLines.{Substitutes, argument, columns, generated, origins_of, put_in, text_of}
use Rattle.cps_mention.specs.Mentions.{line_of, text_in}

source : List (List ℕ)
source = codes "TAB_P     CON     1" ∷ codes "          M       A" ∷ []

one_stretch : text_in source (record { line = 1; first = 11; end = 14 }) ≡ codes "CON"
unfolding source
one_stretch = refl

joined : flat_map (text_in source) (record { line = 1; first = 1; end = 4 } ∷ record { line = 2; first = 19; end = 20 } ∷ []) ≡ codes "TABA"
unfolding source
joined = refl

no_line : line_of source 3 ≡ []
unfolding source
no_line = refl

-- a call of a macro with a parameter P and a local name L; its argument X stands in column 18 of line 9, and the lines of the body in line 3

name : List ℕ → Name
name text = unwrap_or (name_of text) (record { bytes = [] })

stands : Substitutes
stands = (name (codes "P"), argument ((slice_index (codes "X") 0, columns 9 17 1) ∷ [])) ∷ (name (codes "L"), generated (codes "~0000001")) ∷ []

joined_text : text_of (put_in stands 3 (codes "L_P")) ≡ codes "~0000001X"
unfolding stands name
joined_text = refl

joined_origins : origins_of (put_in stands 3 (codes "L_P")) ≡ replicate 8 (columns 3 0 1) ++ columns 9 17 1 ∷ []
unfolding stands name
joined_origins = refl

mark_left_out : origins_of (put_in stands 3 (codes " P_1")) ≡ columns 3 0 1 ∷ columns 9 17 1 ∷ columns 3 3 1 ∷ []
unfolding stands name
mark_left_out = refl

comment_stays : origins_of (put_in stands 3 (codes "*P_")) ≡ columns 3 0 1 ∷ columns 3 1 1 ∷ columns 3 2 1 ∷ []
unfolding stands name
comment_stays = refl
