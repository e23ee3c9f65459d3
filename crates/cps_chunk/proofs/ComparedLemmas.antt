-- Keys that lines put now or put before, gathered and compared.
use Rattle.std.proofs.Common.{◌≡◌, refl, sym, ap, subst, ◌∙◌, ℕ, ◌+◌, ◌<◌, ◌≤◌, Bool, true, false, ◌||◌, List, [], ◌∷◌, ◌++◌, length, get_or, take, drop, Option, None, Some, append-nil, arith}
use Rattle.std.specs.Prelude.{is_some, unwrap_or, option_map, if◌then◌else◌}
use Rattle.std.specs.List.{list_any, slice_get}
use Rattle.std.specs.Option.{option_eq, option_or}
use Rattle.std.proofs.lemmas.List.{drop_more, drop_all, take_all, take_more}
use Rattle.std.proofs.lemmas.List.Folds.{list_any_more}
use Rattle.std.proofs.lemmas.List.Concat.{flat_map-append}
use Rattle.std.proofs.lemmas.Option.{slice_get_within, get_or_from_slice_get}
use Rattle.std.proofs.lemmas.Map.Entries.{length-keys_of}
use Rattle.cps_state.specs.declared.key.Key.{Key}
use Rattle.cps_state.specs.declared.key.Answer.{Answer}
use Rattle.cps_state.specs.declared.key.Put.{Put}
use Rattle.cps_state.specs.contracts.key.KeyEq.TheImpl.Laws.{laws-law}
use Rattle.cps_state.specs.Course.{Trace, last_put}
use Rattle.cps_state.specs.Keys.{State, same_key, with_put, overwritten}
use Rattle.cps_state.proofs.KnownLemmas.{same_key_is, same_key-true}
use Rattle.cps_final.specs.declared.changes.Changes.{Changes as KeptChanges}
use Rattle.cps_final.specs.Changes.{Changed, changed, with_change, without}
use Rattle.cps_final.specs.Code.Kept.{changes_in, count_of, keys_in}
use Rattle.cps_final.proofs.ChangedLemmas.{overwritten-last}
use Rattle.cps_final.proofs.KeptLemmas.{eq, has-key}
use Rattle.cps_final.specs.Layout.{puts_of}
use Rattle.cps_final.specs.Holds.{same_answer}
use Rattle.cps_chunk.specs.Code.Compared.{compared, with_all_kept, with_difference, with_kept, with_puts}
use Rattle.cps_chunk.specs.Noted.{AreHeld, asked_or, difference, last_puts, noted}
use Rattle.cps_chunk.proofs.NotedLemmas.{asked_or-at}

-- ---- puts

last_put-append : (olds puts : List Put) (k : Key) → last_put (olds ++ puts) k ≡ option_or (last_put puts k) (last_put olds k)
last_put-append [] puts k = at (last_put puts k)
  where
    at : (o : Option Answer) → o ≡ option_or o None
    at None = refl
    at (Some a) = refl
last_put-append (p ∷ olds) puts k =
    ap (λ (o : Option Answer). option_or o (if same_key p.key k then Some p.answer else None)) (last_put-append olds puts k) ∙ at (last_put puts k)
  where
    at : (o : Option Answer) → option_or (option_or o (last_put olds k)) (if same_key p.key k then Some p.answer else None)
        ≡ option_or o (option_or (last_put olds k) (if same_key p.key k then Some p.answer else None))
    at None = refl
    at (Some a) = refl

overwritten-append : (f : State) (olds puts : List Put) → overwritten f (olds ++ puts) ≡ overwritten (overwritten f olds) puts
overwritten-append f [] puts = refl
overwritten-append f (p ∷ olds) puts = overwritten-append (with_put f p) olds puts

-- puts behind others
pub last_puts-more : (now : Changed) (olds puts : List Put) → now ≡ last_puts olds → with_puts now puts ≡ last_puts (olds ++ puts)
last_puts-more now olds puts is = λ i. λ k. (ap (λ (c : Changed). with_puts c puts k) is ∙ at (last_put puts k) (last_put olds k) ∙ sym (ap (option_map Some) (last_put-append olds puts k))) i
  where
    at : (new old : Option Answer) → option_or (option_map Some new) (option_map Some old) ≡ option_map Some (option_or new old)
    at None old = refl
    at (Some a) old = refl

pub with_puts-append : (now : Changed) (olds puts : List Put) → with_puts (with_puts now olds) puts ≡ with_puts now (olds ++ puts)
with_puts-append now olds puts =
    λ i. λ k. (at (last_put puts k) (last_put olds k) (now k) ∙ sym (ap (λ (o : Option Answer). option_or (option_map Some o) (now k)) (last_put-append olds puts k))) i
  where
    at : (new old : Option Answer) (there : Option (Option Answer))
        → option_or (option_map Some new) (option_or (option_map Some old) there) ≡ option_or (option_map Some (option_or new old)) there
    at None old there = refl
    at (Some a) old there = refl

-- no key is kept of no put
pub all-kept-none : (now : Changed) (state : State) → now ≡ with_all_kept now [] state
all-kept-none now state = λ i. λ k. at (now k) i
  where
    at : (there : Option (Option Answer)) → there ≡ (if is_some there then there else None)
    at None = refl
    at (Some a) = refl

-- one put of the list is gone over
with_puts-put : (now : Changed) (p : Put) (puts : List Put) → with_puts (with_change now p.key (Some p.answer)) puts ≡ with_puts now (p ∷ puts)
with_puts-put now p puts = λ i. λ k. at k (last_put puts k) (same_key p.key k) i
  where
    at : (k : Key) (last : Option Answer) (here : Bool)
        → option_or (option_map Some last) (if here then Some (Some p.answer) else now k)
        ≡ option_or (option_map Some (option_or last (if here then Some p.answer else None))) (now k)
    at k (Some a) here = refl
    at k None true = refl
    at k None false = refl

pub puts-next : (now before end : Changed) (puts : List Put) (i : ℕ) (p : Put) → i < length puts → p ≡ get_or puts i p → now ≡ with_change before p.key (Some p.answer)
    → with_puts before (drop i puts) ≡ end → with_puts now (drop (i + 1) puts) ≡ end
puts-next now before end puts i p lt is made so_far =
    ap (λ (c : Changed). with_puts c (drop (i + 1) puts)) made ∙ with_puts-put before p (drop (i + 1) puts)
    ∙ ap (λ (q : Put). with_puts before (q ∷ drop (i + 1) puts)) is ∙ sym (ap (with_puts before) (drop_more puts i p lt)) ∙ so_far

-- all of the list is gone over
pub puts-all : (now end : Changed) (puts : List Put) (i : ℕ) → length puts ≤ i → with_puts now (drop i puts) ≡ end → now ≡ end
puts-all now end puts i all so_far = sym (ap (with_puts now) (drop_all i puts all)) ∙ so_far

-- puts over a state with changes
pub changed-with_puts : (now : Changed) (puts : List Put) (f : State) → changed (with_puts now puts) f ≡ overwritten (changed now f) puts
changed-with_puts now puts f = λ i. λ k. (at k (last_put puts k) ∙ sym (overwritten-last (changed now f) puts k)) i
  where
    at : (k : Key) (last : Option Answer) → unwrap_or (option_or (option_map Some last) (now k)) (f k) ≡ option_or last (unwrap_or (now k) (f k))
    at k None = refl
    at k (Some a) = refl

-- ---- keys that are kept

or-none : (o : Option Answer) → option_or o None ≡ o
or-none None = refl
or-none (Some a) = refl

-- what is known, or else what stands there where the key is put
abbrev or_there : Option (Option Answer) → Option Answer → Option Answer → Option (Option Answer)
or_there known put there = if is_some known then known else if is_some put then Some there else None

put-there : (last : Option Answer) (a : Answer) (there : Option Answer) → or_there None (option_or last (Some a)) there ≡ Some there
put-there None a there = refl
put-there (Some b) a there = refl

none-there : (known : Option (Option Answer)) (there : Option Answer) → or_there known None there ≡ known
none-there None there = refl
none-there (Some a) there = refl

module _ (now : Changed) (f : State) (p : Put) (k : Key) where
  with-kept-at : (has : Bool) → (if has then now else with_change now p.key (f p.key)) k ≡ (if has then now k else if same_key p.key k then Some (f p.key) else now k)
  with-kept-at true = refl
  with-kept-at false = refl

  kept-at : (last : Option Answer) (has : Option (Option Answer)) → now p.key ≡ has → (here : Bool) → same_key p.key k ≡ here
      → or_there (if is_some has then now k else if here then Some (f p.key) else now k) last (f k)
      ≡ or_there (now k) (option_or last (if here then Some p.answer else None)) (f k)
  kept-at last (Some x) is false same = ap (λ (o : Option Answer). or_there (now k) o (f k)) (sym (or-none last))
  kept-at last None is false same = ap (λ (o : Option Answer). or_there (now k) o (f k)) (sym (or-none last))
  kept-at last (Some x) is true same =
      let here : now k ≡ Some x = ap now (sym (same_key-true p.key k same)) ∙ is in
      ap (λ (o : Option (Option Answer)). or_there o last (f k)) here
      ∙ sym (ap (λ (o : Option (Option Answer)). or_there o (option_or last (Some p.answer)) (f k)) here)
  kept-at last None is true same =
      let here : now k ≡ None = ap now (sym (same_key-true p.key k same)) ∙ is in
      ap (λ (q : Key). Some (f q)) (same_key-true p.key k same) ∙ sym (put-there last p.answer (f k))
      ∙ sym (ap (λ (o : Option (Option Answer)). or_there o (option_or last (Some p.answer)) (f k)) here)

kept-put : (now : Changed) (f : State) (p : Put) (puts : List Put) → with_all_kept (with_kept now p.key (f p.key)) puts f ≡ with_all_kept now (p ∷ puts) f
kept-put now f p puts = λ i. λ k. (
    ap (λ (o : Option (Option Answer)). or_there o (last_put puts k) (f k)) (with-kept-at now f p k (is_some (now p.key)))
    ∙ kept-at now f p k (last_put puts k) (now p.key) refl (same_key p.key k) refl) i

pub kept-next : (now before end : Changed) (f : State) (puts : List Put) (i : ℕ) (p : Put) → i < length puts → p ≡ get_or puts i p → now ≡ with_kept before p.key (f p.key)
    → with_all_kept before (drop i puts) f ≡ end → with_all_kept now (drop (i + 1) puts) f ≡ end
kept-next now before end f puts i p lt is made so_far =
    ap (λ (c : Changed). with_all_kept c (drop (i + 1) puts) f) made ∙ kept-put before f p (drop (i + 1) puts)
    ∙ ap (λ (q : Put). with_all_kept before (q ∷ drop (i + 1) puts) f) is ∙ sym (ap (λ (ps : List Put). with_all_kept before ps f) (drop_more puts i p lt)) ∙ so_far

pub kept-all : (now end : Changed) (f : State) (puts : List Put) (i : ℕ) → length puts ≤ i → with_all_kept now (drop i puts) f ≡ end → now ≡ end
kept-all now end f puts i all so_far =
    sym (λ j. λ k. none-there (now k) (f k) j) ∙ sym (ap (λ (ps : List Put). with_all_kept now ps f) (drop_all i puts all)) ∙ so_far

-- ---- lines, one after another

taken-at : (start : Option (Option Answer)) (old new there known : Option Answer) → (old ≡ None → known ≡ there)
    → or_there (or_there start old there) new known ≡ or_there start (option_or new old) there
taken-at (Some x) old new there known same = refl
taken-at None (Some a) None there known same = refl
taken-at None (Some a) (Some b) there known same = refl
taken-at None None None there known same = refl
taken-at None None (Some b) there known same = ap Some (same refl)

module _ (before : State) (gone : List Trace) (i : ℕ) (t : Trace) (lt : i < length gone) (is : t ≡ get_or gone i t)
    (held : AreHeld (overwritten before (puts_of (take i gone))) (drop i gone)) where
  abbrev olds : List Put
  olds = puts_of (take i gone)

  olds-more : puts_of (take (i + 1) gone) ≡ olds ++ t.puts
  olds-more =
      ap puts_of (take_more gone i t lt) ∙ flat_map-append (λ (u : Trace). u.puts) (take i gone) (get_or gone i t ∷ [])
      ∙ ap (λ (ps : List Put). olds ++ ps) (append-nil (get_or gone i t).puts) ∙ ap (λ (u : Trace). olds ++ u.puts) (sym is)

  held-here : AreHeld (overwritten before olds) (t ∷ drop (i + 1) gone)
  held-here = subst (λ (ts : List Trace). AreHeld (overwritten before olds) ts) (drop_more gone i t lt ∙ ap (λ (u : Trace). u ∷ drop (i + 1) gone) (sym is)) held

  pub held-next : AreHeld (overwritten before (puts_of (take (i + 1) gone))) (drop (i + 1) gone)
  held-next =
      subst (λ (f : State). AreHeld f (drop (i + 1) gone)) (sym (ap (overwritten before) olds-more ∙ overwritten-append before olds t.puts)) held-here.1

  pub former-next : (now next : Changed) → now ≡ last_puts olds → next ≡ with_puts now t.puts → next ≡ last_puts (puts_of (take (i + 1) gone))
  former-next now next was made = made ∙ last_puts-more now olds t.puts was ∙ ap last_puts (sym olds-more)

  known-here : (k : Key) → last_put olds k ≡ None → asked_or t.asks before k ≡ before k
  known-here k none = asked_or-at t.asks before (overwritten before olds) k held-here.0 (overwritten-last before olds k ∙ ap (λ (o : Option Answer). option_or o (before k)) none)

  pub taken-next : (start now next c : Changed) → now ≡ with_all_kept start olds (changed c before) → next ≡ with_all_kept now t.puts (changed c (asked_or t.asks before))
      → next ≡ with_all_kept start (puts_of (take (i + 1) gone)) (changed c before)
  taken-next start now next c was made =
      made ∙ ap (λ (n : Changed). with_all_kept n t.puts (changed c (asked_or t.asks before))) was
      ∙ (λ j. λ k. (taken-at (start k) (last_put olds k) (last_put t.puts k) (changed c before k) (changed c (asked_or t.asks before) k)
      (λ none. ap (unwrap_or (c k)) (known-here k none))
      ∙ ap (λ (o : Option Answer). or_there (start k) o (changed c before k)) (sym (last_put-append olds t.puts k))) j)
      ∙ ap (λ (ps : List Put). with_all_kept start ps (changed c before)) (sym olds-more)

-- ---- keys that are compared

-- one key is compared: the same stands there, or something else
pub compared-same : (now next : Changed) (key : Key) (a b : Option Answer) → option_eq same_answer a b ≡ true → next ≡ without now key → next ≡ with_difference now key a b
compared-same now next key a b same made = made ∙ λ i. λ k. if same_key key k then (if sym same i then None else Some a) else now k

-- the keys so far are compared
pub record Compared (ks : List Key) (now present : Changed) (was : State) (next : Changed) : Type 0 where
  pub changes : (k : Key) → next k ≡ (if list_any (eq k) ks then difference (unwrap_or (present k) None) (was k) else now k)

pub compared-none : (ks : List Key) (now present : Changed) (was : State) → Compared (take 0 ks) now present was now
compared-none ks now present was = record { changes = λ k. refl }

or-true : (b : Bool) → (b || true) ≡ true
or-true true = refl
or-true false = refl

or-false : (b : Bool) → (b || false) ≡ b
or-false true = refl
or-false false = refl

module _ (ks : List Key) (i : ℕ) (at : Key) (is : slice_get ks i ≡ Some at) where
  more-at : (k : Key) (b : Bool) → same_key at k ≡ b → list_any (eq k) (take (i + 1) ks) ≡ (list_any (eq k) (take i ks) || b)
  more-at k b same =
      list_any_more (eq k) ks i at (slice_get_within ks i at is) ∙ ap (λ (x : Key). list_any (eq k) (take i ks) || eq k x) (get_or_from_slice_get ks i at at is)
      ∙ ap (λ (c : Bool). list_any (eq k) (take i ks) || c) (laws-law.symm k at ∙ same_key_is at k ∙ same)

  module _ (now present : Changed) (was : State) (between next : Changed) (before : Compared (take i ks) now present was between)
      (made : next ≡ with_difference between at (unwrap_or (present at) None) (was at)) where
    abbrev there : Key → Option (Option Answer)
    there k = difference (unwrap_or (present k) None) (was k)

    at-key : (k : Key) (b : Bool) → same_key at k ≡ b → (if b then there at else between k) ≡ (if list_any (eq k) (take i ks) || b then there k else now k)
    at-key k true same = ap there (same_key-true at k same) ∙ sym (ap (λ (b : Bool). if b then there k else now k) (or-true (list_any (eq k) (take i ks))))
    at-key k false same = before.changes k ∙ sym (ap (λ (b : Bool). if b then there k else now k) (or-false (list_any (eq k) (take i ks))))

    pub compared-next : Compared (take (i + 1) ks) now present was next
    compared-next = record {
      changes = λ k.
          ap (λ (c : Changed). c k) made ∙ at-key k (same_key at k) refl ∙ sym (ap (λ (b : Bool). if b then there k else now k) (more-at k (same_key at k) refl));
    }

-- all keys
pub compared-all : (old : KeptChanges) (count : ℕ) (now : Changed) (was : State) (next : Changed) → count_of old ≤ count
    → Compared (take count (keys_in old)) now (changes_in old) was next → next ≡ compared now (changes_in old) was
compared-all old count now was next all done =
    λ i. λ k. (
    let len = length-keys_of old.answers.entries in
    let whole : length (keys_in old) ≤ count = omega arith in
    done.changes k
    ∙ ap (λ (b : Bool). if b then difference (unwrap_or (changes_in old k) None) (was k) else now k)
    (ap (list_any (eq k)) (take_all count (keys_in old) whole) ∙ sym (has-key (eq k) old.answers.entries))) i

-- ---- the end of the present lines

-- what is compared is what is noted
pub compared-noted : (c : Changed) (before : State) (olds news : List Put)
    → compared c (with_all_kept (last_puts news) olds (changed c before)) (changed (last_puts olds) before) ≡ noted c before olds news
compared-noted c before olds news = λ i. λ k. at k (last_put olds k) (last_put news k) (overwritten-last before olds k) (overwritten-last (changed c before) news k) i
  where
    at : (k : Key) (old new : Option Answer) → overwritten before olds k ≡ option_or old (before k) → overwritten (changed c before) news k ≡ option_or new (changed c before k)
        → (if is_some (or_there (option_map Some new) old (changed c before k))
        then difference (unwrap_or (or_there (option_map Some new) old (changed c before k)) None) (unwrap_or (option_map Some old) (before k)) else c k)
        ≡ (if is_some old || is_some new then difference (overwritten (changed c before) news k) (overwritten before olds k) else c k)
    at k (Some a) (Some b) was is = λ i. difference (sym is i) (sym was i)
    at k (Some a) None was is = λ i. difference (sym is i) (sym was i)
    at k None (Some b) was is = λ i. difference (sym is i) (sym was i)
    at k None None was is = refl

pub closed : (c next present former : Changed) (before : State) (olds news : List Put) (start : Changed) → start ≡ last_puts news
    → present ≡ with_all_kept start olds (changed c before) → former ≡ last_puts olds → next ≡ compared c present (changed former before)
    → next ≡ noted c before olds news
closed c next present former before olds news start puts there was made =
    made ∙ (λ i. compared c ((there ∙ ap (λ (s : Changed). with_all_kept s olds (changed c before)) puts) i) (changed (was i) before)) ∙ compared-noted c before olds news
