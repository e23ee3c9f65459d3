-- Where what is known of a key stands, after one more ask or put.
use Rattle.std.proofs.Common.{◌≡◌, refl, sym, ap, subst, ◌∙◌, ℕ, suc, zero, ◌+◌, ◌-◌, ◌<◌, ◌≤◌, List, [], ◌∷◌, ◌++◌, length, take, get_or, Option, Some, None, true, false, Bool, cond, arith, length-append}
use Rattle.std.specs.Prelude.{if◌then◌else◌, option_map, option_and_then, slice_get, is_some, IfSome}
use Rattle.std.specs.Option.{option_or}
use Rattle.std.proofs.lemmas.Option.{slice_get-get_or}
use Rattle.std.proofs.lemmas.List.{take_more, length-take-le, map-append, length-map}
use Rattle.cps_state.specs.declared.key.Key.{Key}
use Rattle.cps_state.specs.declared.key.Answer.{Answer}
use Rattle.cps_state.specs.declared.key.Asked.{Asked as Ask}
use Rattle.cps_state.specs.declared.key.Put.{Put as APut}
use Rattle.cps_state.specs.contracts.key.KeyPartialEq.TheImpl.{eq-value}
use Rattle.cps_state.specs.Keys.{State, same_key}
use Rattle.cps_state.specs.Course.{last_put, last_ask, known_in}
use Rattle.cps_state.proofs.KnownLemmas.{last_put-push, last_ask-push, known_in-put, known_in-ask, same_key_is}
use Rattle.cps_state.specs.declared.log.LogPlace.{LogPlace}
use Rattle.cps_state.specs.declared.log.LogPlace.TheVariants.{Asked, Put}
use Rattle.cps_state.specs.Code.Log.{asked_in, put_at, asked_at, found_in, StandsIn, Indexes}

slice_get-last : {X : Type 0} (xs : List X) (x : X) → slice_get (xs ++ x ∷ []) (length xs) ≡ Some x
slice_get-last [] x = refl
slice_get-last (y ∷ xs) x = slice_get-last xs x

slice_get-front : {X : Type 0} (xs : List X) (x : X) (i : ℕ) → i < length xs → slice_get (xs ++ x ∷ []) i ≡ slice_get xs i
slice_get-front [] x i lt = absurd (omega (arith, lt))
slice_get-front (y ∷ xs) x zero lt = refl
slice_get-front (y ∷ xs) x (suc i) lt = slice_get-front xs x i (omega (arith, lt))

slice_get-some : {X : Type 0} (xs : List X) (i : ℕ) → i < length xs → is_some (slice_get xs i) ≡ true
slice_get-some [] i lt = absurd (omega (arith, lt))
slice_get-some (y ∷ xs) zero lt = refl
slice_get-some (y ∷ xs) (suc i) lt = slice_get-some xs i (omega (arith, lt))

map-some : {X Y : Type 0} (f : X → Y) (o : Option X) → is_some o ≡ true → is_some (option_map f o) ≡ true
map-some f None h = h
map-some f (Some x) h = refl

-- ---- keys that are asked in a state

pub asked-more : (f : State) (ks : List Key) (k : Key) → asked_in f (ks ++ k ∷ []) ≡ asked_in f ks ++ record { key = k; answer = f k } ∷ []
asked-more f ks k = map-append (λ (q : Key). record { key = q; answer = f q }) ks (k ∷ [])

-- the keys in front of a place, and the one that stands there
pub asked-next : (f : State) (ks : List Key) (i : ℕ) (d : Key) (answer : Option Answer) (old new : List Ask) → i < length ks → answer ≡ f (get_or ks i d)
    → new ≡ old ++ record { key = get_or ks i d; answer = answer } ∷ [] → old ≡ asked_in f (take i ks) → new ≡ asked_in f (take (i + 1) ks)
asked-next f ks i d answer old new lt is pushed before =
    let k = get_or ks i d in
    pushed ∙ ap (λ (a : Option Answer). old ++ record { key = k; answer = a } ∷ []) is
    ∙ ap (λ (es : List Ask). es ++ record { key = k; answer = f k } ∷ []) before ∙ sym (asked-more f (take i ks) k)
    ∙ sym (ap (asked_in f) (take_more ks i d lt))

pub asked-at : (f : State) (ks : List Key) (i : ℕ) → asked_at (asked_in f ks) i ≡ option_map f (slice_get ks i)
asked-at f [] zero = refl
asked-at f [] (suc i) = refl
asked-at f (k ∷ ks) zero = refl
asked-at f (k ∷ ks) (suc i) = asked-at f ks i

last-key-push : (f : State) (ks : List Key) (q k : Key) → last_ask (asked_in f (ks ++ q ∷ [])) k ≡ (if same_key q k then Some (f q) else last_ask (asked_in f ks) k)
last-key-push f ks q k = ap (λ es. last_ask es k) (asked-more f ks q) ∙ last_ask-push (asked_in f ks) (record { key = q; answer = f q }) k

pub key-last : (f : State) (ks : List Key) (k : Key) (n : ℕ) → n ≡ length ks → asked_at (asked_in f (ks ++ k ∷ [])) n ≡ Some (f k)
key-last f ks k n is = asked-at f (ks ++ k ∷ []) n ∙ ap (λ i. option_map f (slice_get (ks ++ k ∷ []) i)) is ∙ ap (option_map f) (slice_get-last ks k)

pub key-there : (f : State) (ks : List Key) (place : ℕ) → place < length ks → is_some (asked_at (asked_in f ks) place) ≡ true
key-there f ks place lt = ap is_some (asked-at f ks place) ∙ map-some f (slice_get ks place) (slice_get-some ks place lt)

pub put-there : (ps : List APut) (place : ℕ) → place < length ps → is_some (option_map (λ (a : Answer). Some a) (put_at ps place)) ≡ true
put-there ps place lt = map-some (λ (a : Answer). Some a) (put_at ps place) (map-some (λ (p : APut). p.answer) (slice_get ps place) (slice_get-some ps place lt))

-- ---- what was found is what is known

known-put : (o : Option Answer) (a : Option (Option Answer)) → is_some o ≡ true → option_map Some o ≡ option_or (option_map Some o) a
known-put None a none = cc
known-put (Some x) a some = refl

pub put-known : (es : List Ask) (ps : List APut) (place : ℕ) (k : Key) → place < length ps → put_at ps place ≡ last_put ps k → found_in es ps (Put place) ≡ known_in es ps k
put-known es ps place k within is =
    known-put (put_at ps place) (last_ask es k) (map-some (λ (p : APut). p.answer) (slice_get ps place) (slice_get-some ps place within))
    ∙ ap (λ o. option_or (option_map Some o) (last_ask es k)) is

pub index-known : (es : List Ask) (ps : List APut) (k : Key) (o : Option LogPlace) → Indexes es ps k o → option_and_then (found_in es ps) o ≡ known_in es ps k
index-known es ps k None is = sym is
index-known es ps k (Some known) is = is.1

-- ---- looking through from the back

pub not-last-put : (ps : List APut) (i : ℕ) (d : APut) (k : Key) → i < length ps → same_key (get_or ps i d).key k ≡ false → last_put (take (i + 1) ps) k ≡ last_put (take i ps) k
not-last-put ps i d k lt other =
    ap (λ xs. last_put xs k) (take_more ps i d lt) ∙ last_put-push (take i ps) (get_or ps i d) k
    ∙ ap (λ b. if b then Some (get_or ps i d).answer else last_put (take i ps) k) other

pub is-last-put : (ps : List APut) (i : ℕ) (d : APut) (k : Key) → i < length ps → same_key (get_or ps i d).key k ≡ true → last_put (take (i + 1) ps) k ≡ Some (get_or ps i d).answer
is-last-put ps i d k lt same =
    ap (λ xs. last_put xs k) (take_more ps i d lt) ∙ last_put-push (take i ps) (get_or ps i d) k
    ∙ ap (λ b. if b then Some (get_or ps i d).answer else last_put (take i ps) k) same

not-last-key : (f : State) (ks : List Key) (i : ℕ) (d k : Key) → i < length ks → same_key (get_or ks i d) k ≡ false → last_ask (asked_in f (take (i + 1) ks)) k ≡ last_ask (asked_in f (take i ks)) k
not-last-key f ks i d k lt other =
    ap (λ xs. last_ask (asked_in f xs) k) (take_more ks i d lt) ∙ last-key-push f (take i ks) (get_or ks i d) k
    ∙ ap (λ b. if b then Some (f (get_or ks i d)) else last_ask (asked_in f (take i ks)) k) other

is-last-key : (f : State) (ks : List Key) (i : ℕ) (d k : Key) → i < length ks → same_key (get_or ks i d) k ≡ true → last_ask (asked_in f (take (i + 1) ks)) k ≡ Some (f (get_or ks i d))
is-last-key f ks i d k lt same =
    ap (λ xs. last_ask (asked_in f xs) k) (take_more ks i d lt) ∙ last-key-push f (take i ks) (get_or ks i d) k
    ∙ ap (λ b. if b then Some (f (get_or ks i d)) else last_ask (asked_in f (take i ks)) k) same

-- the same where a place is told by the one after it
back : (n : ℕ) → 0 < n → n ≡ (n - 1) + 1
back n some = omega (arith, some)

pub put-before : (ps : List APut) (n : ℕ) (d : APut) (k : Key) → 0 < n → n ≤ length ps → same_key (get_or ps (n - 1) d).key k ≡ false → last_put (take n ps) k ≡ last_put (take (n - 1) ps) k
put-before ps n d k some within other = ap (λ m. last_put (take m ps) k) (back n some) ∙ not-last-put ps (n - 1) d k (omega (arith, some, within)) other

pub put-found : (ps : List APut) (n : ℕ) (d : APut) (k : Key) → 0 < n → n ≤ length ps → same_key (get_or ps (n - 1) d).key k ≡ true → put_at ps (n - 1) ≡ last_put (take n ps) k
put-found ps n d k some within same =
    ap (option_map (λ (p : APut). p.answer)) (slice_get-get_or ps (n - 1) d (omega (arith, some, within)))
    ∙ sym (ap (λ m. last_put (take m ps) k) (back n some) ∙ is-last-put ps (n - 1) d k (omega (arith, some, within)) same)

pub key-before : (f : State) (ks : List Key) (n : ℕ) (d k : Key) → 0 < n → n ≤ length ks → same_key (get_or ks (n - 1) d) k ≡ false → last_ask (asked_in f (take n ks)) k ≡ last_ask (asked_in f (take (n - 1) ks)) k
key-before f ks n d k some within other = ap (λ m. last_ask (asked_in f (take m ks)) k) (back n some) ∙ not-last-key f ks (n - 1) d k (omega (arith, some, within)) other

pub key-found : (f : State) (ks : List Key) (n : ℕ) (d k : Key) → 0 < n → n ≤ length ks → same_key (get_or ks (n - 1) d) k ≡ true → asked_at (asked_in f ks) (n - 1) ≡ last_ask (asked_in f (take n ks)) k
key-found f ks n d k some within same =
    asked-at f ks (n - 1) ∙ ap (option_map f) (slice_get-get_or ks (n - 1) d (omega (arith, some, within)))
    ∙ sym (ap (λ m. last_ask (asked_in f (take m ks)) k) (back n some) ∙ is-last-key f ks (n - 1) d k (omega (arith, some, within)) same)

-- ---- an index

-- a place stands where it stood, after one more ask or put
in-more-asks : (es : List Ask) (ps : List APut) (e : Ask) (known : LogPlace) → StandsIn es ps known → StandsIn (es ++ e ∷ []) ps known × (found_in (es ++ e ∷ []) ps known ≡ found_in es ps known)
in-more-asks es ps e (Asked i) lt = (omega (arith, length-append es (e ∷ []), lt), ap (option_map (λ (a : Ask). a.answer)) (slice_get-front es e i lt))
in-more-asks es ps e (Put i) lt = (lt, refl)

in-more-puts : (es : List Ask) (ps : List APut) (p : APut) (known : LogPlace) → StandsIn es ps known → StandsIn es (ps ++ p ∷ []) known × (found_in es (ps ++ p ∷ []) known ≡ found_in es ps known)
in-more-puts es ps p (Asked i) lt = (lt, refl)
in-more-puts es ps p (Put i) lt = (omega (arith, length-append ps (p ∷ []), lt), ap (λ (o : Option APut). option_map Some (option_map (λ (q : APut). q.answer) o)) (slice_get-front ps p i lt))

-- what is known of a key is the same as it was
same-ask : (es : List Ask) (ps : List APut) (e : Ask) (k : Key) (o : Option LogPlace) → known_in (es ++ e ∷ []) ps k ≡ known_in es ps k → Indexes es ps k o → Indexes (es ++ e ∷ []) ps k o
same-ask es ps e k None same is = same ∙ is
same-ask es ps e k (Some known) same is = let more = in-more-asks es ps e known is.0 in (more.0, more.1 ∙ is.1 ∙ sym same)

same-put : (es : List Ask) (ps : List APut) (p : APut) (k : Key) (o : Option LogPlace) → known_in es (ps ++ p ∷ []) k ≡ known_in es ps k → Indexes es ps k o → Indexes es (ps ++ p ∷ []) k o
same-put es ps p k None same is = same ∙ is
same-put es ps p k (Some known) same is = let more = in-more-puts es ps p known is.0 in (more.0, more.1 ∙ is.1 ∙ sym same)

last-ask-is : (es : List Ask) (ps : List APut) (e : Ask) (k : Key) → known_in (es ++ e ∷ []) ps k ≡ Some e.answer → Indexes (es ++ e ∷ []) ps k (Some (Asked (length es)))
last-ask-is es ps e k is = (omega (arith, length-append es (e ∷ [])), ap (option_map (λ (a : Ask). a.answer)) (slice_get-last es e) ∙ sym is)

last-put-is : (es : List Ask) (ps : List APut) (p : APut) (k : Key) → known_in es (ps ++ p ∷ []) k ≡ Some (Some p.answer) → Indexes es (ps ++ p ∷ []) k (Some (Put (length ps)))
last-put-is es ps p k is = (omega (arith, length-append ps (p ∷ [])), ap (λ (o : Option APut). option_map Some (option_map (λ (q : APut). q.answer) o)) (slice_get-last ps p) ∙ sym is)

indexes-ask-by : (same : Bool) (es : List Ask) (ps : List APut) (e : Ask) (k : Key) (old : Option LogPlace) → known_in (es ++ e ∷ []) ps k ≡ (if same then Some e.answer else known_in es ps k)
    → Indexes es ps k old → Indexes (es ++ e ∷ []) ps k (cond same (Some (Asked (length es))) old)
indexes-ask-by true es ps e k old is was = last-ask-is es ps e k is
indexes-ask-by false es ps e k old is was = same-ask es ps e k old is was

indexes-put-by : (same : Bool) (es : List Ask) (ps : List APut) (p : APut) (k : Key) (old : Option LogPlace) → known_in es (ps ++ p ∷ []) k ≡ (if same then Some (Some p.answer) else known_in es ps k)
    → Indexes es ps k old → Indexes es (ps ++ p ∷ []) k (cond same (Some (Put (length ps))) old)
indexes-put-by true es ps p k old is was = last-put-is es ps p k is
indexes-put-by false es ps p k old is was = same-put es ps p k old is was

-- one more ask of a key of which nothing is known
indexes-ask : (es : List Ask) (ps : List APut) (e : Ask) (k : Key) (new old : Option LogPlace) → known_in es ps e.key ≡ None → new ≡ cond ((eq-value.it) e.key k) (Some (Asked (length es))) old
    → Indexes es ps k old → Indexes (es ++ e ∷ []) ps k new
indexes-ask es ps e k new old none is was =
    subst (λ (o : Option LogPlace). Indexes (es ++ e ∷ []) ps k o) (sym (is ∙ ap (λ b. cond b (Some (Asked (length es))) old) (same_key_is e.key k)))
    (indexes-ask-by (same_key e.key k) es ps e k old (known_in-ask es ps e k none) was)

pub indexes-key : (f : State) (ks : List Key) (ps : List APut) (q k : Key) (new old : Option LogPlace) → known_in (asked_in f ks) ps q ≡ None
    → new ≡ cond ((eq-value.it) q k) (Some (Asked (length ks))) old → Indexes (asked_in f ks) ps k old → Indexes (asked_in f (ks ++ q ∷ [])) ps k new
indexes-key f ks ps q k new old none is was =
    subst (λ (es : List Ask). Indexes es ps k new) (sym (asked-more f ks q))
    (indexes-ask (asked_in f ks) ps (record { key = q; answer = f q }) k new old none (is ∙ ap (λ n. cond ((eq-value.it) q k) (Some (Asked n)) old) (sym (length-map ks _))) was)

-- one more ask, where nothing was put
indexes-first-ask : (es : List Ask) (e : Ask) (k : Key) (new old : Option LogPlace) → new ≡ cond ((eq-value.it) e.key k) (Some (Asked (length es))) old
    → Indexes es [] k old → Indexes (es ++ e ∷ []) [] k new
indexes-first-ask es e k new old is was =
    subst (λ (o : Option LogPlace). Indexes (es ++ e ∷ []) [] k o) (sym (is ∙ ap (λ b. cond b (Some (Asked (length es))) old) (same_key_is e.key k)))
    (indexes-ask-by (same_key e.key k) es [] e k old (last_ask-push es e k) was)

-- one more put
pub indexes-put : (es : List Ask) (ps : List APut) (p : APut) (k : Key) (new old : Option LogPlace) → new ≡ cond ((eq-value.it) p.key k) (Some (Put (length ps))) old
    → Indexes es ps k old → Indexes es (ps ++ p ∷ []) k new
indexes-put es ps p k new old is was =
    subst (λ (o : Option LogPlace). Indexes es (ps ++ p ∷ []) k o) (sym (is ∙ ap (λ b. cond b (Some (Put (length ps))) old) (same_key_is p.key k)))
    (indexes-put-by (same_key p.key k) es ps p k old (known_in-put es ps p k) was)

-- something stands at a place that there is
pub stands-some : (es : List Ask) (ps : List APut) (known : LogPlace) → StandsIn es ps known → is_some (found_in es ps known) ≡ true
stands-some es ps (Asked i) lt = map-some (λ (a : Ask). a.answer) (slice_get es i) (slice_get-some es i lt)
stands-some es ps (Put i) lt = map-some (λ (a : Answer). Some a) (put_at ps i) (map-some (λ (p : APut). p.answer) (slice_get ps i) (slice_get-some ps i lt))

-- ---- an index that is made from all asks, and then from all puts

pub indexes-next-key : (f : State) (ks : List Key) (i : ℕ) (d k : Key) (new old : Option LogPlace) → i < length ks → new ≡ cond ((eq-value.it) (get_or ks i d) k) (Some (Asked i)) old
    → Indexes (asked_in f (take i ks)) [] k old → Indexes (asked_in f (take (i + 1) ks)) [] k new
indexes-next-key f ks i d k new old lt is was =
    let q = get_or ks i d in
    let count = length-map (take i ks) (λ (q : Key). record { key = q; answer = f q }) ∙ length-take-le i ks (omega (arith, lt)) in
    subst (λ (es : List Ask). Indexes es [] k new) (sym (ap (asked_in f) (take_more ks i d lt) ∙ asked-more f (take i ks) q))
    (indexes-first-ask (asked_in f (take i ks)) (record { key = q; answer = f q }) k new old
    (is ∙ ap (λ (n : ℕ). cond ((eq-value.it) q k) (Some (Asked n)) old) (sym count)) was)

pub indexes-next-put : (es : List Ask) (ps : List APut) (i : ℕ) (d : APut) (k : Key) (new old : Option LogPlace) → i < length ps → new ≡ cond ((eq-value.it) (get_or ps i d).key k) (Some (Put i)) old
    → Indexes es (take i ps) k old → Indexes es (take (i + 1) ps) k new
indexes-next-put es ps i d k new old lt is was =
    subst (λ (xs : List APut). Indexes es xs k new) (sym (take_more ps i d lt))
    (indexes-put es (take i ps) (get_or ps i d) k new old
    (is ∙ ap (λ (n : ℕ). cond ((eq-value.it) (get_or ps i d).key k) (Some (Put n)) old) (sym (length-take-le i ps (omega (arith, lt))))) was)

-- something stands at a place that an index has
pub index-there : (es : List Ask) (ps : List APut) (k : Key) (o : Option LogPlace) → Indexes es ps k o → IfSome o (λ known. is_some (found_in es ps known) ≡ true)
index-there es ps k None is = tt
index-there es ps k (Some known) is = stands-some es ps known is.0
