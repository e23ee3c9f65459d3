-- The numbers that items had.
use Rattle.std.proofs.Common.{◌≡◌, ℕ, zero, suc, ◌+◌, ◌-◌, ◌<◌, ◌≤◌, refl, sym, ap, ◌∙◌, List, [], ◌∷◌, ◌++◌, length, get_or, take, drop, map, arith}
use Rattle.std.proofs.lemmas.List.{map-append, drop-take, take_all, length-drop}
use Rattle.cps_edit.specs.declared.exchange.Exchange.{Exchange}
use Rattle.cps_edit.specs.Exchange.{IsWithin, exchanged}
use Rattle.cps_edit.specs.Numbers.{numbers, picked, exchanged_numbers}
use Rattle.cps_edit.specs.ExchangeLaws.{ExchangesPick}

module _ {X : Type 0} where
  drop-first : (at : ℕ) (xs : List X) (other : X) → at < length xs → drop at xs ≡ get_or xs at other ∷ drop (at + 1) xs
  drop-first at [] other lt = absurd (omega (arith, lt))
  drop-first zero (x ∷ xs) other lt = refl
  drop-first (suc at) (x ∷ xs) other lt =
      let next : suc (at + 1) ≡ suc at + 1 = omega arith in
      drop-first at xs other (omega (arith, lt)) ∙ ap (λ k. get_or xs at other ∷ drop k (x ∷ xs)) next

  run : (xs : List X) (other : X) (at n : ℕ) → at + n ≤ length xs → picked xs other (numbers at n) ≡ take n (drop at xs)
  run xs other at zero le = refl
  run xs other at (suc n) le =
      ap (λ ys. get_or xs at other ∷ ys) (run xs other (at + 1) n (omega (arith, le))) ∙ ap (take (suc n)) (sym (drop-first at xs other (omega (arith, le))))

  all : (xs : List X) (other : X) (e : Exchange) → IsWithin (length xs) e → exchanged e xs ≡ picked xs other (exchanged_numbers (length xs) e)
  all xs other e within =
      let pick : ℕ → X = λ k. get_or xs k other in
      let one = numbers 0 e.keep in
      let two = numbers e.mid (e.from - e.mid) in
      let three = numbers e.keep (e.mid - e.keep) in
      let four = numbers e.from (length xs - e.from) in
      let a : map pick one ≡ take e.keep xs = run xs other 0 e.keep (omega (arith, within.first, within.second, within.all)) in
      let from : e.mid + (e.from - e.mid) ≡ e.from = omega (arith, within.second) in
      let mid : e.keep + (e.mid - e.keep) ≡ e.mid = omega (arith, within.first) in
      let b : map pick two ≡ drop e.mid (take e.from xs) =
      run xs other e.mid (e.from - e.mid) (omega (arith, within.second, within.all)) ∙ sym (drop-take e.mid (e.from - e.mid) xs) ∙ ap (λ k. drop e.mid (take k xs)) from in
      let c : map pick three ≡ drop e.keep (take e.mid xs) =
      run xs other e.keep (e.mid - e.keep) (omega (arith, within.first, within.second, within.all)) ∙ sym (drop-take e.keep (e.mid - e.keep) xs) ∙ ap (λ k. drop e.keep (take k xs)) mid in
      let d : map pick (four ++ []) ≡ drop e.from xs =
      map-append pick four [] ∙ none (map pick four) ∙ run xs other e.from (length xs - e.from) (omega (arith, within.all))
      ∙ take_all (length xs - e.from) (drop e.from xs) (omega (arith, length-drop e.from xs)) in
      (λ i. sym a i ++ (sym b i ++ (sym c i ++ sym d i)))
      ∙ ap (λ ys. map pick one ++ (map pick two ++ ys)) (sym (map-append pick three (four ++ [])))
      ∙ ap (λ ys. map pick one ++ ys) (sym (map-append pick two (three ++ (four ++ []))))
      ∙ sym (map-append pick one (two ++ (three ++ (four ++ []))))
    where
      none : (ys : List X) → ys ++ [] ≡ ys
      none [] = refl
      none (y ∷ ys) = ap (λ zs. y ∷ zs) (none ys)

  pub exchanged-picks : ExchangesPick X
  exchanged-picks xs other = (all xs other, run xs other)
