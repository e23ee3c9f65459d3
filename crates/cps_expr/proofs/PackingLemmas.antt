-- Display codes, one behind the other.
use Rattle.std.proofs.Common.{◌≡◌, ℕ, zero, suc, ◌+◌, ◌-◌, ◌^◌, ◌<◌, ◌≤◌, List, length, ◌++◌, append_assoc, refl, sym, ap, ◌∙◌, arith}
use Rattle.std.specs.Prelude.{fold, replicate, unwrap_or}
use Rattle.std.proofs.Math.Nat.{pow-le-pow_right}
use Rattle.std.proofs.lemmas.List.{length-append, length-map, length-replicate, replicate-append-replicate}
use Rattle.cps_text.specs.Display.{display_of}
use Rattle.cps_text.specs.declared.data_item.Side.TheVariants.{Right, LeftWithBlanks}
use Rattle.cps_expr.specs.Item.{blank_code, codes_of, filled, packed, sided, with_code}

pub few-small : (word count : ℕ) → word < 64 ^ count → count < 10 → word < 2 ^ 54
few-small word count fits few =
    let most : 64 ^ count ≤ 64 ^ 9 = pow-le-pow_right {n = 64} (omega arith) {i = count} {j = 9} (omega arith) in
    omega arith

fill-first : (word code n m : ℕ) → n ≡ suc m → fold with_code word (replicate n code) ≡ fold with_code (with_code word code) (replicate m code)
fill-first word code zero m is = absurd (omega arith)
fill-first word code (suc n) m is = let same : n ≡ m = omega arith in rw same refl

-- one code less is missing
pub fill-next : (word code missing i : ℕ) → i < missing → fold with_code (with_code word code) (replicate (missing - (i + 1)) code) ≡ fold with_code word (replicate (missing - i) code)
fill-next word code missing i more = let is : missing - i ≡ suc (missing - (i + 1)) = omega arith in rw (fill-first word code (missing - i) (missing - (i + 1)) is) refl

-- zeros before codes don't count
zeros-front : (n : ℕ) (word : List ℕ) → fold with_code 0 (replicate n 0 ++ word) ≡ fold with_code 0 word
zeros-front zero word = refl
zeros-front (suc n) word = zeros-front n word

pub right-packed : (count most : ℕ) (word : List ℕ) → packed (filled count blank_code word) ≡ packed (sided most Right (filled count blank_code word))
right-packed count most word = sym (zeros-front (most - length (filled count blank_code word)) (filled count blank_code word))

-- blanks behind blanks
blank-filled : (count most : ℕ) (word : List ℕ) → length word ≤ count → count ≤ most → filled most blank_code word ≡ sided most LeftWithBlanks (filled count blank_code word)
blank-filled count most word behind few =
    let here = count - length word in
    let all : length (filled count blank_code word) ≡ count = length-append word (replicate here blank_code) ∙ ap (λ n. length word + n) (length-replicate here blank_code) ∙ omega arith in
    let more = most - count in
    let both : most - length word ≡ here + more = omega arith in
    ap (λ n. word ++ replicate n blank_code) both
    ∙ ap (λ codes. word ++ codes) (sym (replicate-append-replicate here more blank_code))
    ∙ sym (append_assoc word (replicate here blank_code) (replicate more blank_code))
    ∙ ap (λ n. (word ++ replicate here blank_code) ++ replicate (most - n) blank_code) (sym all)

pub blanks-behind : (count most : ℕ) (characters : List ℕ) → length characters ≤ count → count ≤ most → filled most blank_code (codes_of characters) ≡ sided most LeftWithBlanks (filled count blank_code (codes_of characters))
blanks-behind count most characters behind few =
    let same : length (codes_of characters) ≡ length characters = length-map characters (λ c. unwrap_or (display_of c) 0) in
    blank-filled count most (codes_of characters) (omega arith) few

pub within-word : (word count most : ℕ) → word < 64 ^ count → count ≤ most → word < 64 ^ most
within-word word count most fits few =
    let more : 64 ^ count ≤ 64 ^ most = pow-le-pow_right {n = 64} (omega arith) {i = count} {j = most} few in
    omega arith
