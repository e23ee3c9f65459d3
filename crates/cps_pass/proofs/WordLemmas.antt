-- Words of characters, one more.
use Rattle.std.proofs.Common.{◌≡◌, ℕ, ◌+◌, ◌*◌, arith, sym, ap, ◌∙◌, List, [], ◌∷◌, ◌++◌, take, drop}
use Rattle.std.proofs.lemmas.List.FromFn.{map-range_with_len_more}
use Rattle.std.proofs.lemmas.List.{map-append}
use Rattle.cps_expr.specs.declared.machine.Machine.{Machine}
use Rattle.cps_expr.specs.Item.{bits_of, characters_in_word, packed_characters}
use Rattle.cps_state.specs.declared.made.Content.{Content}
use Rattle.cps_state.specs.declared.made.Content.TheVariants as content
use Rattle.cps_pass.specs.Words.{number_words, text_words}

-- the characters of one of the words
abbrev word_of : Machine → ℕ → List ℕ → ℕ → ℕ
word_of machine fill text word = packed_characters (characters_in_word machine) fill (take (characters_in_word machine) (drop (characters_in_word machine * word) text))

pub text-next : (machine : Machine) (fill word width number : ℕ) (text : List ℕ) (contents more : List Content)
    → width ≡ bits_of machine → number ≡ word_of machine fill text word → more ≡ contents ++ content.Number width number ∷ []
    → contents ≡ number_words machine (text_words machine fill word text) → more ≡ number_words machine (text_words machine fill (word + 1) text)
text-next machine fill word width number text contents more wide is pushed before =
    pushed ∙ (λ i. before i ++ content.Number (wide i) (is i) ∷ [])
    ∙ sym (ap (number_words machine) (map-range_with_len_more (word_of machine fill text) 0 word word (omega (arith)))
    ∙ map-append (content.Number (bits_of machine)) (text_words machine fill word text) (word_of machine fill text word ∷ []))
