-- The lines that an edit disturbs, counted one by one.
use Rattle.std.proofs.Common.{◌≡◌, ℕ, zero, suc, ◌+◌, refl, sym, ap, ◌∙◌, Bool, List, [], ◌∷◌, ◌++◌, length, take, drop, map, Option, arith}
use Rattle.std.specs.Prelude.{if◌then◌else◌}
use Rattle.std.proofs.lemmas.List.{map-append, take-map, drop-map}
use Rattle.cps_state.specs.Course.{Trace}
use Rattle.cps_state.specs.Keys.{State, first_state}
use Rattle.cps_edit.specs.declared.exchange.Exchange.{Exchange}
use Rattle.cps_edit.specs.Exchange.{exchanged}
use Rattle.cps_edit.specs.Passes.{after, state_after, traces_from}
use Rattle.cps_edit.specs.Splice.{Splice, spliced}
use Rattle.cps_edit.specs.Disturbed.{Placed, kept, fresh, all_kept, placed, is_disturbed, disturbed_from, is_redone_at, redone_places}
use Rattle.cps_chunk.specs.EditLaws.{count_below, line_of, lines_of, did_before, PlacesAreTheSource, OnesAreCounted, TwosAreCounted}

-- ---- the lines of the new source

kept-lines : (f : State) (ls : List (List ℕ)) → lines_of (kept ls (traces_from f ls)) ≡ ls
kept-lines f [] = refl
kept-lines f (l ∷ ls) = ap (λ (xs : List (List ℕ)). l ∷ xs) (kept-lines (after f l) ls)

fresh-lines : (ls : List (List ℕ)) → lines_of (map fresh ls) ≡ ls
fresh-lines [] = refl
fresh-lines (l ∷ ls) = ap (λ (xs : List (List ℕ)). l ∷ xs) (fresh-lines ls)

-- a front of the lines, and what stands behind some of them
kept-front : (n : ℕ) (lines : List (List ℕ)) → lines_of (take n (all_kept lines)) ≡ take n lines
kept-front n lines = sym (take-map line_of n (all_kept lines)) ∙ ap (take n) (kept-lines first_state lines)

kept-back : (n : ℕ) (lines : List (List ℕ)) → lines_of (drop n (all_kept lines)) ≡ drop n lines
kept-back n lines = sym (drop-map line_of n (all_kept lines)) ∙ ap (drop n) (kept-lines first_state lines)

kept-run : (n m : ℕ) (lines : List (List ℕ)) → lines_of (drop n (take m (all_kept lines))) ≡ drop n (take m lines)
kept-run n m lines = sym (drop-map line_of n (take m (all_kept lines))) ∙ ap (drop n) (kept-front m lines)

placed-lines : (lines : List (List ℕ)) (splice : Splice) → lines_of (placed lines splice) ≡ spliced lines splice
placed-lines lines splice =
    let front = take splice.keep (all_kept lines) in
    let new = map fresh splice.new in
    let back = drop splice.from (all_kept lines) in
    map-append line_of front (new ++ back)
    ∙ (λ i. kept-front splice.keep lines i ++ map-append line_of new back i)
    ∙ (λ i. take splice.keep lines ++ (fresh-lines splice.new i ++ kept-back splice.from lines i))

exchanged-lines : (lines : List (List ℕ)) (e : Exchange) → lines_of (exchanged e (all_kept lines)) ≡ exchanged e lines
exchanged-lines lines e =
    let all = all_kept lines in
    let front = take e.keep all in
    let second = drop e.mid (take e.from all) in
    let first = drop e.keep (take e.mid all) in
    let back = drop e.from all in
    map-append line_of front (second ++ (first ++ back))
    ∙ (λ i. kept-front e.keep lines i ++ map-append line_of second (first ++ back) i)
    ∙ (λ i. take e.keep lines ++ (kept-run e.mid e.from lines i ++ map-append line_of first back i))
    ∙ (λ i. take e.keep lines ++ (drop e.mid (take e.from lines) ++ (kept-run e.keep e.mid lines i ++ kept-back e.from lines i)))

pub places-are-the-source : PlacesAreTheSource
places-are-the-source lines = (placed-lines lines, exchanged-lines lines)

-- ---- a sum over them

-- the first number apart
count-first : (passes : ℕ → Bool) (n : ℕ) → count_below passes (suc n) ≡ (if passes 0 then 1 else 0) + count_below (λ k. passes (suc k)) n
count-first passes zero = omega arith
count-first passes (suc n) = omega (arith, count-first passes n)

module _ (test : Option Trace → State → Bool) (sum : State → List Placed → ℕ) (none : (f : State) → sum f [] ≡ 0)
    (more : (f : State) (p : Placed) (ps : List Placed) → sum f (p ∷ ps) ≡ (if test p.old f then 1 else 0) + sum (after f p.line) ps) where
  counted : (f : State) (ps : List Placed) → sum f ps ≡ count_below (λ n. test (did_before ps n) (state_after f (take n (lines_of ps)))) (length ps)
  counted f [] = none f
  counted f (p ∷ ps) =
      more f p ps ∙ ap (λ k. (if test p.old f then 1 else 0) + k) (counted (after f p.line) ps)
      ∙ sym (count-first (λ n. test (did_before (p ∷ ps) n) (state_after f (take n (lines_of (p ∷ ps))))) (length ps))

pub ones-counted : OnesAreCounted
ones-counted places = counted is_disturbed disturbed_from (λ f. refl) (λ f p ps. refl) first_state places

pub twos-counted : TwosAreCounted
twos-counted was now places = counted (is_redone_at was now) (redone_places was now) (λ f. refl) (λ f p ps. refl) first_state places
