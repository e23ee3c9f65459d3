-- Lists in which two runs have changed places.
use Rattle.std.proofs.Common.{◌≡◌, ℕ, suc, ◌+◌, ◌-◌, ◌<◌, ◌≤◌, refl, sym, ap, ◌∙◌, List, [], ◌∷◌, ◌++◌, append_assoc, zero-add, length, take, drop, arith, true, false, Bool}
use Rattle.std.specs.Prelude.{if◌then◌else◌, nat_eq, ◌||◌}
use Rattle.std.proofs.lemmas.List.{length-append, length-take, length-take-le, length-drop, drop_all, drop-append-le, drop-take, drop-drop, take-append-drop, take-take}
use Rattle.std.proofs.lemmas.Bool.{lt-ltb, le-ltb}
use Rattle.std.proofs.lemmas.Bool.Decides.{nat_tests}
use Rattle.cps_edit.specs.declared.exchange.Exchange.{Exchange}
use Rattle.cps_edit.specs.Exchange.{IsWithin, exchanged, exchange_at, is_idle, move}
use Rattle.cps_edit.specs.ExchangeLaws.{without_run, run_of, set_in, MovesTakeOut, TurnsBack}

module _ {X : Type 0} where
  pub take-past : (xs ys : List X) (k : ℕ) → take (length xs + k) (xs ++ ys) ≡ xs ++ take k ys
  take-past [] ys k = ap (λ j. take j ys) (zero-add k)
  take-past (x ∷ xs) ys k =
      let next : suc (length xs) + k ≡ suc (length xs + k) = omega arith in
      ap (λ j. take j (x ∷ xs ++ ys)) next ∙ ap (λ zs. x ∷ zs) (take-past xs ys k)

  pub drop-past : (xs ys : List X) (k : ℕ) → drop (length xs + k) (xs ++ ys) ≡ drop k ys
  drop-past [] ys k = ap (λ j. drop j ys) (zero-add k)
  drop-past (x ∷ xs) ys k =
      let next : suc (length xs) + k ≡ suc (length xs + k) = omega arith in
      ap (λ j. drop j (x ∷ xs ++ ys)) next ∙ drop-past xs ys k

  pub take-here : (xs ys : List X) (n : ℕ) → n ≡ length xs → take n (xs ++ ys) ≡ xs
  take-here xs ys n e =
      let here : n ≡ length xs + 0 = omega (arith, e) in
      ap (λ k. take k (xs ++ ys)) here ∙ take-past xs ys 0 ∙ none xs
    where
      none : (zs : List X) → zs ++ [] ≡ zs
      none [] = refl
      none (z ∷ zs) = ap (λ us. z ∷ us) (none zs)

  pub drop-here : (xs ys : List X) (n : ℕ) → n ≡ length xs → drop n (xs ++ ys) ≡ ys
  drop-here xs ys n e =
      let here : n ≡ length xs + 0 = omega (arith, e) in
      ap (λ k. drop k (xs ++ ys)) here ∙ drop-past xs ys 0

  pub take-both : (xs ys zs : List X) (n : ℕ) → n ≡ length xs + length ys → take n (xs ++ (ys ++ zs)) ≡ xs ++ ys
  take-both xs ys zs n e = ap (λ k. take k (xs ++ (ys ++ zs))) e ∙ take-past xs (ys ++ zs) (length ys) ∙ ap (λ us. xs ++ us) (take-here ys zs (length ys) refl)

  pub drop-both : (xs ys zs : List X) (n : ℕ) → n ≡ length xs + length ys → drop n (xs ++ (ys ++ zs)) ≡ zs
  drop-both xs ys zs n e = ap (λ k. drop k (xs ++ (ys ++ zs))) e ∙ drop-past xs (ys ++ zs) (length ys) ∙ drop-here ys zs (length ys) refl

  -- four runs, of which the second and the third change places
  pub parts : (az bs cs ds : List X) (keep mid from : ℕ) → keep ≡ length az → mid ≡ length az + length bs → from ≡ length az + (length bs + length cs)
      → exchanged (exchange_at keep mid from) (az ++ (bs ++ (cs ++ ds))) ≡ az ++ (cs ++ (bs ++ ds))
  parts az bs cs ds keep mid from p q r =
      let xs = az ++ (bs ++ (cs ++ ds)) in
      let first : take keep xs ≡ az = take-here az (bs ++ (cs ++ ds)) keep p in
      let upto : take from xs ≡ az ++ (bs ++ cs) =
      ap (λ k. take k xs) r ∙ take-past az (bs ++ (cs ++ ds)) (length bs + length cs) ∙ ap (λ us. az ++ us) (take-past bs (cs ++ ds) (length cs) ∙ ap (λ us. bs ++ us) (take-here cs ds (length cs) refl)) in
      let third : drop mid (take from xs) ≡ cs = ap (drop mid) upto ∙ drop-both az bs cs mid q in
      let second : drop keep (take mid xs) ≡ bs = ap (drop keep) (take-both az bs (cs ++ ds) mid q) ∙ drop-here az bs keep p in
      let count : length bs + length cs ≡ length (bs ++ cs) = sym (length-append bs cs) in
      let last : drop from xs ≡ ds =
      ap (drop from) (ap (λ us. az ++ us) (sym (append_assoc bs cs ds))) ∙ drop-both az (bs ++ cs) ds from (r ∙ ap (λ k. length az + k) count) in
      λ i. first i ++ (third i ++ (second i ++ last i))

  pub between-split : (a b : ℕ) (xs : List X) → a ≤ b → b ≤ length xs → drop a xs ≡ drop a (take b xs) ++ drop b xs
  between-split a b xs le within =
      ap (drop a) (sym (take-append-drop b xs)) ∙ drop-append-le a (take b xs) (drop b xs) (omega (arith, le, length-take-le b xs within))

  pub between-long : (a b : ℕ) (xs : List X) → a ≤ b → b ≤ length xs → length (drop a (take b xs)) ≡ b - a
  between-long a b xs le within = length-drop a (take b xs) ∙ ap (λ k. k - a) (length-take-le b xs within)

  -- a list is its four runs
  pub whole : (xs : List X) (a b c : ℕ) → a ≤ b → b ≤ c → c ≤ length xs → take a xs ++ (drop a (take b xs) ++ (drop b (take c xs) ++ drop c xs)) ≡ xs
  whole xs a b c p q r =
      ap (λ us. take a xs ++ (drop a (take b xs) ++ us)) (sym (between-split b c xs q r))
      ∙ ap (λ us. take a xs ++ us) (sym (between-split a b xs p (omega (arith, q, r)))) ∙ take-append-drop a xs

  -- as many as there were
  pub exchanged-long : (xs : List X) (e : Exchange) → IsWithin (length xs) e → length (exchanged e xs) ≡ length xs
  exchanged-long xs e within =
      let front = take e.keep xs in
      let second = drop e.mid (take e.from xs) in
      let first = drop e.keep (take e.mid xs) in
      let back = drop e.from xs in
      let mid : e.mid ≤ length xs = omega (arith, within.second, within.all) in
      let a : length front ≡ e.keep = length-take-le e.keep xs (omega (arith, within.first, mid)) in
      let b : length second ≡ e.from - e.mid = between-long e.mid e.from xs within.second within.all in
      let c : length first ≡ e.mid - e.keep = between-long e.keep e.mid xs within.first mid in
      let d : length back ≡ length xs - e.from = length-drop e.from xs in
      length-append front (second ++ (first ++ back))
      ∙ ap (λ k. length front + k) (length-append second (first ++ back) ∙ ap (λ k. length second + k) (length-append first back))
      ∙ omega (arith, a, b, c, d, within.first, within.second, within.all)

  pub turns-back : TurnsBack X
  turns-back xs e within =
      let long : e.mid ≤ length xs = omega (arith, within.second, within.all) in
      let a = length-take-le e.keep xs (omega (arith, within.first, long)) in
      let b = between-long e.keep e.mid xs within.first long in
      let c = between-long e.mid e.from xs within.second within.all in (
        record {
          first = omega arith;
          second = omega (arith, within.first, within.second);
          all = omega (arith, within.all, exchanged-long xs e within);
        },
        parts (take e.keep xs) (drop e.mid (take e.from xs)) (drop e.keep (take e.mid xs)) (drop e.from xs) e.keep (e.keep + (e.from - e.mid)) e.from
            (sym a) (omega (arith, a, c)) (omega (arith, a, b, c, within.first, within.second))
            ∙ whole xs e.keep e.mid e.from within.first within.second within.all,
      )

  -- a part of a list whose first items have gone to its end
  pub rotated : (xs : List X) (e : Exchange) → IsWithin (length xs) e → (ys : List X)
      → ys ≡ drop (e.mid - e.keep) (take (e.from - e.keep) (drop e.keep xs)) ++ take (e.mid - e.keep) (take (e.from - e.keep) (drop e.keep xs))
      → take e.keep xs ++ (ys ++ drop (e.from - e.keep) (drop e.keep xs)) ≡ exchanged e xs
  rotated xs e within ys is =
      let mid : e.keep + (e.mid - e.keep) ≡ e.mid = omega (arith, within.first) in
      let from : e.keep + (e.from - e.keep) ≡ e.from = omega (arith, within.first, within.second) in
      let run : take (e.from - e.keep) (drop e.keep xs) ≡ drop e.keep (take e.from xs) =
      sym (drop-take e.keep (e.from - e.keep) xs) ∙ ap (λ k. drop e.keep (take k xs)) from in
      let second : drop (e.mid - e.keep) (drop e.keep (take e.from xs)) ≡ drop e.mid (take e.from xs) =
      drop-drop (e.mid - e.keep) e.keep (take e.from xs) ∙ ap (λ k. drop k (take e.from xs)) mid in
      let first : take (e.mid - e.keep) (drop e.keep (take e.from xs)) ≡ drop e.keep (take e.mid xs) =
      sym (drop-take e.keep (e.mid - e.keep) (take e.from xs)) ∙ ap (λ k. drop e.keep (take k (take e.from xs))) mid
      ∙ ap (drop e.keep) (take-take e.mid e.from xs within.second) in
      let rest : drop (e.from - e.keep) (drop e.keep xs) ≡ drop e.from xs = drop-drop (e.from - e.keep) e.keep xs ∙ ap (λ k. drop k xs) from in
      let parts : ys ≡ drop e.mid (take e.from xs) ++ drop e.keep (take e.mid xs) =
      is ∙ (λ i. drop (e.mid - e.keep) (run i) ++ take (e.mid - e.keep) (run i)) ∙ (λ i. second i ++ first i) in
      (λ i. take e.keep xs ++ (parts i ++ rest i))
      ∙ ap (λ us. take e.keep xs ++ us) (append_assoc (drop e.mid (take e.from xs)) (drop e.keep (take e.mid xs)) (drop e.from xs))

  -- where a run has no item, nothing changes its place
  pub idle-same : (xs : List X) (e : Exchange) → is_idle e ≡ true → IsWithin (length xs) e → exchanged e xs ≡ xs
  idle-same xs e idle within = at (nat_eq e.keep e.mid) refl
    where
      all : take e.keep xs ++ (drop e.keep (take e.mid xs) ++ (drop e.mid (take e.from xs) ++ drop e.from xs)) ≡ xs
      all = whole xs e.keep e.mid e.from within.first within.second within.all

      at : (b : Bool) → nat_eq e.keep e.mid ≡ b → exchanged e xs ≡ xs
      at true is =
          let same : e.keep ≡ e.mid = grind (arith, nat_tests) in
          let none : drop e.keep (take e.mid xs) ≡ [] = drop_all e.keep (take e.mid xs) (omega (arith, same, length-take e.mid xs)) in
          ap (λ us. take e.keep xs ++ (drop e.mid (take e.from xs) ++ (us ++ drop e.from xs))) none
          ∙ sym (ap (λ us. take e.keep xs ++ (us ++ (drop e.mid (take e.from xs) ++ drop e.from xs))) none) ∙ all
      at false out =
          let last : nat_eq e.mid e.from ≡ true = sym (ap (λ b. b || nat_eq e.mid e.from) out) ∙ idle in
          let same : e.mid ≡ e.from = grind (arith, nat_tests) in
          let none : drop e.mid (take e.from xs) ≡ [] = drop_all e.mid (take e.from xs) (omega (arith, same, length-take e.from xs)) in
          ap (λ us. take e.keep xs ++ (us ++ (drop e.keep (take e.mid xs) ++ drop e.from xs))) none
          ∙ sym (ap (λ us. take e.keep xs ++ (drop e.keep (take e.mid xs) ++ (us ++ drop e.from xs))) none) ∙ all

  take-split : (a b : ℕ) (xs : List X) → a ≤ b → b ≤ length xs → take b xs ≡ take a xs ++ drop a (take b xs)
  take-split a b xs le within = sym (take-append-drop a (take b xs)) ∙ ap (λ us. us ++ drop a (take b xs)) (take-take a b xs le)

  pub takes-out : MovesTakeOut X
  takes-out xs first last after one ordered within at = (up, down)
    where
      up : after < first → exchanged (move first last after) xs ≡ set_in (without_run xs first last) after (run_of xs first last)
      up less =
          let run = drop (first - 1) (take last xs) in
          let between = drop after (take (first - 1) xs) in
          let front = take after xs in
          let long : length front ≡ after = length-take-le after xs at in
          let without : take (first - 1) xs ++ drop last xs ≡ front ++ (between ++ drop last xs) =
          ap (λ us. us ++ drop last xs) (take-split after (first - 1) xs (omega (arith, less)) (omega (arith, ordered, within))) ∙ append_assoc front between (drop last xs) in
          let head : take after (take (first - 1) xs ++ drop last xs) ≡ front = ap (take after) without ∙ take-here front (between ++ drop last xs) after (sym long) in
          let tail : drop after (take (first - 1) xs ++ drop last xs) ≡ between ++ drop last xs = ap (drop after) without ∙ drop-here front (between ++ drop last xs) after (sym long) in
          ap (λ b. exchanged (if b then exchange_at after (first - 1) last else exchange_at (first - 1) last after) xs) (lt-ltb after first less)
          ∙ (λ i. sym head i ++ (run ++ sym tail i))

      down : last ≤ after → exchanged (move first last after) xs ≡ set_in (without_run xs first last) (after - (last - (first - 1))) (run_of xs first last)
      down past =
          let run = drop (first - 1) (take last xs) in
          let between = drop last (take after xs) in
          let front = take (first - 1) xs in
          let place = after - (last - (first - 1)) in
          let long : length front ≡ first - 1 = length-take-le (first - 1) xs (omega (arith, ordered, within)) in
          let count : place ≡ length front + length between = omega (arith, long, between-long last after xs past at, one, ordered, past) in
          let without : front ++ drop last xs ≡ front ++ (between ++ drop after xs) = ap (λ us. front ++ us) (between-split last after xs past at) in
          let head : take place (front ++ drop last xs) ≡ front ++ between = ap (take place) without ∙ take-both front between (drop after xs) place count in
          let tail : drop place (front ++ drop last xs) ≡ drop after xs = ap (drop place) without ∙ drop-both front between (drop after xs) place count in
          ap (λ b. exchanged (if b then exchange_at after (first - 1) last else exchange_at (first - 1) last after) xs) (le-ltb after first (omega (arith, ordered, past)))
          ∙ sym (append_assoc front between (run ++ drop after xs)) ∙ (λ i. sym head i ++ (run ++ sym tail i))
