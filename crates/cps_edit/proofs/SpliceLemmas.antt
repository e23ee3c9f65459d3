-- The traces and the count of a spliced source.
use Rattle.std.proofs.Common.{◌≡◌, ℕ, zero, suc, ◌+◌, refl, sym, ap, subst, ◌∙◌, List, [], ◌∷◌, ◌++◌, zero-add, length, take, drop, map, Some, false, not, arith}
use Rattle.std.specs.Prelude.{if◌then◌else◌}
use Rattle.cps_state.specs.declared.key.Put.{Put}
use Rattle.cps_state.specs.Keys.{State, first_state, with_put, overwritten}
use Rattle.cps_state.specs.Course.{Trace}
use Rattle.cps_pass.specs.Expansion.{trace_of}
use Rattle.cps_final.specs.Layout.{puts_of}
use Rattle.cps_edit.specs.Passes.{after, state_after, traces_from}
use Rattle.cps_edit.specs.Splice.{splice_at, spliced}
use Rattle.cps_edit.specs.Disturbed.{Placed, kept, all_kept, fresh, is_disturbed, disturbed_from, ones_of}
use Rattle.cps_edit.specs.Renewed.{AllWereMeant}
use Rattle.cps_final.proofs.AnswerLemmas.{asks-decide}
use Rattle.cps_edit.proofs.AskedLemmas.{asked-here}

pub length-traces_from : (f : State) (ls : List (List ℕ)) → length (traces_from f ls) ≡ length ls
length-traces_from f [] = refl
length-traces_from f (l ∷ ls) = ap suc (length-traces_from (after f l) ls)

pub take-traces_from : (n : ℕ) (f : State) (ls : List (List ℕ)) → take n (traces_from f ls) ≡ traces_from f (take n ls)
take-traces_from zero f ls = refl
take-traces_from (suc n) f [] = refl
take-traces_from (suc n) f (l ∷ ls) = ap (λ ts. trace_of l f ∷ ts) (take-traces_from n (after f l) ls)

pub drop-traces_from : (n : ℕ) (f : State) (ls : List (List ℕ)) → drop n (traces_from f ls) ≡ traces_from (state_after f (take n ls)) (drop n ls)
drop-traces_from zero f ls = refl
drop-traces_from (suc n) f [] = refl
drop-traces_from (suc n) f (l ∷ ls) = drop-traces_from n (after f l) ls

pub traces_from-append : (f : State) (xs ys : List (List ℕ)) → traces_from f (xs ++ ys) ≡ traces_from f xs ++ traces_from (state_after f xs) ys
traces_from-append f [] ys = refl
traces_from-append f (x ∷ xs) ys = ap (λ ts. trace_of x f ∷ ts) (traces_from-append (after f x) xs ys)

pub state_after-append : (f : State) (xs ys : List (List ℕ)) → state_after f (xs ++ ys) ≡ state_after (state_after f xs) ys
state_after-append f [] ys = refl
state_after-append f (x ∷ xs) ys = state_after-append (after f x) xs ys

-- the state after lines is what their puts leave
pub overwritten-append : (s : State) (puts more : List Put) → overwritten s (puts ++ more) ≡ overwritten (overwritten s puts) more
overwritten-append s [] more = refl
overwritten-append s (p ∷ puts) more = overwritten-append (with_put s p) puts more

pub puts-state : (s : State) (lines : List (List ℕ)) → overwritten s (puts_of (traces_from s lines)) ≡ state_after s lines
puts-state s [] = refl
puts-state s (l ∷ lines) = overwritten-append s (trace_of l s).puts (puts_of (traces_from (after s l) lines)) ∙ puts-state (after s l) lines

pub AllWereMeant-traces_from : (f : State) (ls : List (List ℕ)) → AllWereMeant ls (traces_from f ls)
AllWereMeant-traces_from f [] = tt
AllWereMeant-traces_from f (l ∷ ls) = ((f, refl), AllWereMeant-traces_from (after f l) ls)

pub AllWereMeant-drop : (n : ℕ) (f : State) (ls : List (List ℕ)) → AllWereMeant (drop n ls) (drop n (traces_from f ls))
AllWereMeant-drop n f ls = subst (λ (ts : List Trace). AllWereMeant (drop n ls) ts) (sym (drop-traces_from n f ls)) (AllWereMeant-traces_from (state_after f (take n ls)) (drop n ls))

-- the traces of a spliced source
pub traces_from-spliced : (ls new : List (List ℕ)) (keep from : ℕ) (firsts lasts : List Trace)
    → firsts ≡ traces_from (state_after first_state (take keep ls)) new → lasts ≡ traces_from (state_after (state_after first_state (take keep ls)) new) (drop from ls)
    → take keep (traces_from first_state ls) ++ (firsts ++ lasts) ≡ traces_from first_state (spliced ls (splice_at keep from new))
traces_from-spliced ls new keep from firsts lasts p q =
    let g = state_after first_state (take keep ls) in
    ap (λ ts. take keep (traces_from first_state ls) ++ (ts ++ lasts)) p
    ∙ ap (λ ts. take keep (traces_from first_state ls) ++ (traces_from g new ++ ts)) q
    ∙ ap (λ ts. take keep (traces_from first_state ls) ++ ts) (sym (traces_from-append g new (drop from ls)))
    ∙ ap (λ ts. ts ++ traces_from g (new ++ drop from ls)) (take-traces_from keep first_state ls)
    ∙ sym (traces_from-append first_state (take keep ls) (new ++ drop from ls))

pub kept-drop : (n : ℕ) (ls : List (List ℕ)) (ts : List Trace) → drop n (kept ls ts) ≡ kept (drop n ls) (drop n ts)
kept-drop zero ls ts = refl
kept-drop (suc n) [] ts = refl
kept-drop (suc n) (l ∷ ls) [] = kept_none (drop n ls)
  where
    kept_none : (ms : List (List ℕ)) → [] ≡ kept ms []
    kept_none [] = refl
    kept_none (m ∷ ms) = refl
kept-drop (suc n) (l ∷ ls) (t ∷ ts) = kept-drop n ls ts

-- a line is not disturbed where it stood
pub undisturbed : (l : List ℕ) (f : State) → is_disturbed (Some (trace_of l f)) f ≡ false
undisturbed l f = ap not ((asks-decide (trace_of l f).asks f).1 (asked-here l f))

-- nor are lines
pub none-disturbed : (f : State) (ls : List (List ℕ)) → disturbed_from f (kept ls (traces_from f ls)) ≡ 0
none-disturbed f [] = refl
none-disturbed f (l ∷ ls) = λ i. (if undisturbed l f i then 1 else 0) + none-disturbed (after f l) ls i

disturbed_from-prefix : (n : ℕ) (f : State) (ls : List (List ℕ)) (ps : List Placed) → disturbed_from f (take n (kept ls (traces_from f ls)) ++ ps) ≡ disturbed_from (state_after f (take n ls)) ps
disturbed_from-prefix zero f ls ps = refl
disturbed_from-prefix (suc n) f [] ps = refl
disturbed_from-prefix (suc n) f (l ∷ ls) ps =
    let rest = disturbed_from (after f l) (take n (kept ls (traces_from (after f l) ls)) ++ ps) in
    ap (λ b. (if b then 1 else 0) + rest) (undisturbed l f) ∙ zero-add rest ∙ disturbed_from-prefix n (after f l) ls ps

disturbed_from-new : (f : State) (new : List (List ℕ)) (ps : List Placed) → disturbed_from f (map fresh new ++ ps) ≡ length new + disturbed_from (state_after f new) ps
disturbed_from-new f [] ps = omega arith
disturbed_from-new f (l ∷ new) ps = omega (arith, disturbed_from-new (after f l) new ps)

pub disturbed-is : (ls new : List (List ℕ)) (keep from : ℕ) → ones_of ls (splice_at keep from new) ≡ length new + disturbed_from (state_after (state_after first_state (take keep ls)) new) (kept (drop from ls) (drop from (traces_from first_state ls)))
disturbed-is ls new keep from =
    let g = state_after first_state (take keep ls) in
    disturbed_from-prefix keep first_state ls (map fresh new ++ drop from (all_kept ls))
    ∙ disturbed_from-new g new (drop from (all_kept ls))
    ∙ ap (λ ps. length new + disturbed_from (state_after g new) ps) (kept-drop from ls (traces_from first_state ls))
