-- A run that is gathered line by line.
use Rattle.std.proofs.Common.{◌≡◌, ℕ, ◌+◌, ◌<◌, refl, sym, ap, subst, ◌∙◌, Bool, true, false, cond, List, [], ◌∷◌, ◌++◌, append_assoc, fold, take, get_or, length, Option, Some, None}
use Rattle.std.specs.Prelude.{not, is_some, if◌then◌else◌}
use Rattle.std.proofs.lemmas.List.{take_more}
use Rattle.cps_state.specs.declared.key.Key.{Key}
use Rattle.cps_state.specs.declared.key.Answer.{Answer}
use Rattle.cps_state.specs.declared.key.Asked.{Asked}
use Rattle.cps_state.specs.declared.key.Put.{Put}
use Rattle.cps_state.specs.contracts.key.KeyPartialEq.TheImpl.{eq-value}
use Rattle.cps_state.specs.Course.{Trace, known_in}
use Rattle.cps_state.specs.Keys.{same_key}
use Rattle.cps_state.proofs.KnownLemmas.{same_key_is, same_key-true, known_in-put, known_in-ask}
use Rattle.cps_final.specs.Run.{Run, with_ask, with_asks, joined}
use Rattle.std.specs.HashSet.{contains}
use Rattle.cps_final.specs.declared.outside.OutsideAsks.{OutsideAsks}
use Rattle.cps_final.specs.Code.RunGathering.{IsOutside}

-- one key more
abbrev pub HasMore : (Key → Bool) → Key → (Key → Bool) → Type 0
HasMore old key new = (k : Key) → new k ≡ cond (eq-value.it key k) true (old k)

not-false : (b : Bool) → not b ≡ false → b ≡ true
not-false true is = refl
not-false false is = cc

not-true : (b : Bool) → not b ≡ true → b ≡ false
not-true false is = refl
not-true true is = cc

-- ---- asks

module _ (run : Run) (a : Asked) where
  knows-more : (old new : Key → Bool) → ((k : Key) → old k ≡ is_some (known_in run.asks run.puts k)) → HasMore old a.key new
      → (k : Key) → new k ≡ is_some (known_in (with_ask run.puts run.asks a) run.puts k)
  knows-more old new knew more k =
      more k ∙ (λ i. cond (same_key_is a.key k i) true (knew k i)) ∙ at (known_in run.asks run.puts a.key) refl (same_key a.key k) refl
    where
      at : (o : Option (Option Answer)) → known_in run.asks run.puts a.key ≡ o → (same : Bool) → same_key a.key k ≡ same
          → cond same true (is_some (known_in run.asks run.puts k)) ≡ is_some (known_in (if is_some o then run.asks else run.asks ++ a ∷ []) run.puts k)
      at (Some x) known true same = sym (ap is_some (ap (known_in run.asks run.puts) (sym (same_key-true a.key k same)) ∙ known))
      at (Some x) known false same = refl
      at None known true same = sym (ap is_some (known_in-ask run.asks run.puts a k known ∙ ap (λ b. if b then Some a.answer else known_in run.asks run.puts k) same))
      at None known false same = sym (ap is_some (known_in-ask run.asks run.puts a k known ∙ ap (λ b. if b then Some a.answer else known_in run.asks run.puts k) same))

  -- a key that is known is not asked again
  pub asked-again : (old new : OutsideAsks) (is_new : Bool) → IsOutside old run → is_new ≡ not (contains (eq-value.it) old.known a.key) → is_new ≡ false → new.asks.items ≡ old.asks.items → HasMore (contains (eq-value.it) old.known) a.key (contains (eq-value.it) new.known)
      → IsOutside new (record run { asks = with_ask run.puts run.asks a })
  asked-again old new is_new is tells known asks more =
      let there : is_some (known_in run.asks run.puts a.key) ≡ true = sym (is.known a.key) ∙ not-false (contains (eq-value.it) old.known a.key) (sym tells ∙ known) in
      record {
        asks = asks ∙ is.asks ∙ sym (ap (λ b. if b then run.asks else run.asks ++ a ∷ []) there);
        known = knows-more (contains (eq-value.it) old.known) (contains (eq-value.it) new.known) is.known more;
      }

  pub asked-first : (old new : OutsideAsks) (is_new : Bool) (same : Asked) → IsOutside old run → is_new ≡ not (contains (eq-value.it) old.known a.key) → is_new ≡ true → same ≡ a → new.asks.items ≡ old.asks.items ++ same ∷ []
      → HasMore (contains (eq-value.it) old.known) a.key (contains (eq-value.it) new.known) → IsOutside new (record run { asks = with_ask run.puts run.asks a })
  asked-first old new is_new same is tells known one asks more =
      let absent : is_some (known_in run.asks run.puts a.key) ≡ false = sym (is.known a.key) ∙ not-true (contains (eq-value.it) old.known a.key) (sym tells ∙ known) in
      record {
        asks = asks ∙ (λ i. is.asks i ++ one i ∷ []) ∙ sym (ap (λ b. if b then run.asks else run.asks ++ a ∷ []) absent);
        known = knows-more (contains (eq-value.it) old.known) (contains (eq-value.it) new.known) is.known more;
      }

asks-push : (puts : List Put) (asks more : List Asked) (a : Asked) → with_asks puts asks (more ++ a ∷ []) ≡ with_ask puts (with_asks puts asks more) a
asks-push puts asks [] a = refl
asks-push puts asks (b ∷ more) a = asks-push puts (with_ask puts asks b) more a

-- the asks of a line one after another
pub asks-next : (run : Run) (more : List Asked) (i : ℕ) (a : Asked) (new : OutsideAsks) → i < length more → a ≡ get_or more i a
    → IsOutside new (record run { asks = with_ask run.puts (with_asks run.puts run.asks (take i more)) a }) → IsOutside new (record run { asks = with_asks run.puts run.asks (take (i + 1) more) })
asks-next run more i a new lt is made =
    let whole : take (i + 1) more ≡ take i more ++ a ∷ [] = take_more more i a lt ∙ ap (λ b. take i more ++ b ∷ []) (sym is) in
    subst (λ asks. IsOutside new (record run { asks = asks })) (sym (ap (with_asks run.puts run.asks) whole ∙ asks-push run.puts run.asks (take i more) a)) made

-- ---- puts

put-more : (run : Run) (before : List Put) (p : Put) (old new : OutsideAsks) → IsOutside old (record run { puts = before }) → new.asks.items ≡ old.asks.items → HasMore (contains (eq-value.it) old.known) p.key (contains (eq-value.it) new.known)
    → IsOutside new (record run { puts = before ++ p ∷ [] })
put-more run before p old new is asks more = record {
  asks = asks ∙ is.asks;
  known = λ k. more k ∙ (λ i. cond (same_key_is p.key k i) true (is.known k i)) ∙ at k (same_key p.key k) ∙ sym (ap is_some (known_in-put run.asks before p k));
}
  where
    at : (k : Key) (same : Bool) → cond same true (is_some (known_in run.asks before k)) ≡ is_some (if same then Some (Some p.answer) else known_in run.asks before k)
    at k true = refl
    at k false = refl

-- the puts of a line one after another
pub puts-more : (run : Run) (puts : List Put) (i : ℕ) (p : Put) (old new : OutsideAsks) → i < length puts → p ≡ get_or puts i p → IsOutside old (record run { puts = run.puts ++ take i puts })
    → new.asks.items ≡ old.asks.items → HasMore (contains (eq-value.it) old.known) p.key (contains (eq-value.it) new.known) → IsOutside new (record run { puts = run.puts ++ take (i + 1) puts })
puts-more run puts i p old new lt is was asks more =
    let whole : run.puts ++ take (i + 1) puts ≡ (run.puts ++ take i puts) ++ p ∷ [] =
    ap (λ ps. run.puts ++ ps) (take_more puts i p lt ∙ ap (λ q. take i puts ++ q ∷ []) (sym is)) ∙ sym (append_assoc run.puts (take i puts) (p ∷ [])) in
    subst (λ ps. IsOutside new (record run { puts = ps })) (sym whole) (put-more run (run.puts ++ take i puts) p old new was asks more)

-- ---- lines

run-push : (run : Run) (ts : List Trace) (t : Trace) → fold joined run (ts ++ t ∷ []) ≡ joined (fold joined run ts) t
run-push run [] t = refl
run-push run (u ∷ ts) t = run-push (joined run u) ts t

pub lines-next : (run : Run) (ts : List Trace) (i : ℕ) (t : Trace) (new : OutsideAsks) → i < length ts → t ≡ get_or ts i t
    → IsOutside new (joined (fold joined run (take i ts)) t) → IsOutside new (fold joined run (take (i + 1) ts))
lines-next run ts i t new lt is made =
    let whole : take (i + 1) ts ≡ take i ts ++ t ∷ [] = take_more ts i t lt ∙ ap (λ u. take i ts ++ u ∷ []) (sym is) in
    subst (IsOutside new) (sym (ap (fold joined run) whole ∙ run-push run (take i ts) t)) made
