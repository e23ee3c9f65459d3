-- Courses that stand only where they ask the counter of one block.
use Rattle.std.proofs.Common.{◌≡◌, refl, sym, ap, ◌∙◌, subst, arith, ℕ, zero, Bool, true, false, ◌||◌, ◌&&◌, List, [], ◌∷◌, ◌++◌, Option, Some, None, ◌==◌}
use Rattle.std.specs.Prelude.{if◌then◌else◌, is_some}
use Rattle.std.specs.List.{list_any}
use Rattle.std.proofs.lemmas.Bool.Decides.{nat_tests}
use Rattle.std.specs.Cmp.Lexicographic.{pointwise}
use Rattle.cps_text.specs.declared.name.Name.{Name}
use Rattle.cps_state.specs.declared.item.Stand.{Stand}
use Rattle.cps_state.specs.declared.item.Stand.TheVariants.{Nowhere, In}
use Rattle.cps_state.specs.declared.key.Key.{Key}
use Rattle.cps_state.specs.declared.key.Key.TheVariants as key
use Rattle.cps_state.specs.declared.key.Answer.{Answer}
use Rattle.cps_state.specs.Course.{Course, stop, ask, put, stand, fill, mark, tell, settle, begin, Part, Running, known_at, answer_at, with_ask, with_put_made, stood, filled, marked, with_read, settled_by}
use Rattle.cps_state.specs.Keys.{State, same_key}
use Rattle.cps_chunk.specs.Listed.{reached}
use Rattle.cps_chunk.specs.Standing.{asked_by, stand_by}

-- ---- what a course may do: the counter is not asked yet, was asked just now, or was asked and the statement stands

pub data Mark : Type 0 where
  fresh : Mark
  owing : Mark
  settled : Mark

-- it stands exactly behind an ask of the block's counter, in that block
abbrev pub Fits : Option Name → Course → Mark → Type 0
Fits b stop fresh = Unit {0}
Fits b stop owing = ⊥
Fits b stop settled = Unit {0}
Fits b (ask k next) fresh = (a : Option Answer) → Fits b (next a) (if same_key (key.Counter b) k then owing else fresh)
Fits b (ask k next) owing = ⊥
Fits b (ask k next) settled = (a : Option Answer) → Fits b (next a) settled
Fits b (put p rest) m = Fits b rest m
Fits b (stand block rest) fresh = ⊥
Fits b (stand block rest) owing = (block ≡ b) × Fits b rest settled
Fits b (stand block rest) settled = (block ≡ b) × Fits b rest settled
Fits b (fill made rest) m = Fits b rest m
Fits b (mark flags rest) m = Fits b rest m
Fits b (tell name rest) m = Fits b rest m
Fits b (settle rest) m = Fits b rest m
Fits b (begin depth text rest) fresh = Unit {0}
Fits b (begin depth text rest) owing = ⊥
Fits b (begin depth text rest) settled = Unit {0}

-- ---- then it stands where it asks

-- an ask, where this is known of its key
asking_with : State → Running → Key → Option (Option Answer) → Running
asking_with f t k known = if is_some known then t else record t { asks = t.asks ++ record { key = k; answer = f k } ∷ [] }

asked-present : (f : State) (t : Running) (k : Key) (known : Option (Option Answer)) → (asking_with f t k known).present.stand ≡ t.present.stand
unfolding asking_with
asked-present f t k (Some a) = refl
asked-present f t k None = refl

-- asking changes no place
pub asked-stand : (f : State) (t : Running) (k : Key) → (with_ask f t k).present.stand ≡ t.present.stand
unfolding asking_with
asked-stand f t k = asked-present f t k (known_at t k)

-- where a statement stands so far
abbrev Agrees : Option Name → Mark → Stand → Type 0
Agrees b fresh s = s ≡ Nowhere
Agrees b owing s = s ≡ Nowhere
Agrees b settled s = s ≡ In b

-- where it stands at its end
abbrev stand_after : Option Name → Mark → List Key → Stand
stand_after b fresh keys = stand_by b keys
stand_after b owing keys = In b
stand_after b settled keys = In b

agrees-asked : (c : Bool) (b : Option Name) (s : Stand) → s ≡ Nowhere → Agrees b (if c then owing else fresh) s
agrees-asked true b s is = is
agrees-asked false b s is = is

after-asked : (c : Bool) (b : Option Name) (k : Key) (keys : List Key) (s : Stand) → same_key (key.Counter b) k ≡ c
    → s ≡ stand_after b (if c then owing else fresh) keys → s ≡ stand_by b (k ∷ keys)
after-asked true b k keys s asks is = is ∙ sym (ap (λ c. if c || list_any (same_key (key.Counter b)) keys then In b else Nowhere) asks)
after-asked false b k keys s asks is = is ∙ sym (ap (λ c. if c || list_any (same_key (key.Counter b)) keys then In b else Nowhere) asks)

pub stands : (course : Course) (b : Option Name) (f : State) (t : Running) (m : Mark) → Fits b course m → Agrees b m t.present.stand
    → (reached zero course f t).present.stand ≡ stand_after b m (asked_by course f t)
unfolding asking_with
stands stop b f t fresh is so = so
stands stop b f t owing is so = absurd is
stands stop b f t settled is so = so
stands (ask k next) b f t fresh is so =
    let a = answer_at f t k in
    after-asked (same_key (key.Counter b) k) b k (asked_by (next a) f (with_ask f t k)) (reached zero (next a) f (with_ask f t k)).present.stand refl
    (stands (next (answer_at f t k)) b f (with_ask f t k) (if same_key (key.Counter b) k then owing else fresh) (is a)
    (agrees-asked (same_key (key.Counter b) k) b (with_ask f t k).present.stand (asked-present f t k (known_at t k) ∙ so)))
stands (ask k next) b f t owing is so = absurd is
stands (ask k next) b f t settled is so =
    stands (next (answer_at f t k)) b f (with_ask f t k) settled (is (answer_at f t k)) (asked-present f t k (known_at t k) ∙ so)
stands (put p rest) b f t m is so = stands rest b f (with_put_made t p) m is so
stands (stand block rest) b f t fresh is so = absurd is
stands (stand block rest) b f t owing is so = stands rest b f (stood t block) settled is.1 (ap (λ (b : Option Name). In b) is.0)
stands (stand block rest) b f t settled is so = stands rest b f (stood t block) settled is.1 (ap (λ (b : Option Name). In b) is.0)
stands (fill made rest) b f t m is so = stands rest b f (filled t made) m is so
stands (mark flags rest) b f t m is so = stands rest b f (marked t flags) m is so
stands (tell name rest) b f t m is so = stands rest b f (with_read t name) m is so
stands (settle rest) b f t m is so = stands rest b f (settled_by t) m is so
stands (begin depth text rest) b f t fresh is so = so
stands (begin depth text rest) b f t owing is so = absurd is
stands (begin depth text rest) b f t settled is so = so

-- ---- parts of a course: whether the statement stands already

abbrev pub mark_of : Bool → Mark
mark_of true = settled
mark_of false = fresh

pub stop-fits : (b : Option Name) (m : Bool) → Fits b stop (mark_of m)
stop-fits b true = tt
stop-fits b false = tt

pub if-fits : (b : Option Name) (m : Mark) (c : Bool) (one other : Part) (rest : Course) → Fits b (one rest) m → Fits b (other rest) m → Fits b ((if c then one else other) rest) m
if-fits b m true one other rest first second = first
if-fits b m false one other rest first second = second

-- asking a key that isn't the block's counter
pub ask-fits : (b : Option Name) (m : Bool) (k : Key) (next : Option Answer → Course) → same_key (key.Counter b) k ≡ false
    → ((a : Option Answer) → Fits b (next a) (mark_of m)) → Fits b (ask k next) (mark_of m)
ask-fits b true k next other later = later
ask-fits b false k next other later = λ a. subst (λ (c : Bool). Fits b (next a) (if c then owing else fresh)) (sym other) (later a)

same-number : (n : ℕ) → (n == n) ≡ true
same-number n = grind (arith, nat_tests)

same-bytes : (bytes : List ℕ) → pointwise ◌==◌ bytes bytes ≡ true
same-bytes [] = refl
same-bytes (n ∷ bytes) = ap (λ b. (n == n) && b) (same-bytes bytes) ∙ ap (λ b. b && true) (same-number n)

same-counter : (b : Option Name) → same_key (key.Counter b) (key.Counter b) ≡ true
same-counter None = refl
same-counter (Some name) = same-bytes name.bytes

-- asking it, and standing there
pub place-fits : (b : Option Name) (m : Bool) (next : Option Answer → Course) → ((a : Option Answer) → Fits b (next a) settled)
    → Fits b (ask (key.Counter b) (λ a. stand b (next a))) (mark_of m)
place-fits b true next later = λ a. (refl, later a)
place-fits b false next later =
    λ a. subst (λ (c : Bool). Fits b (stand b (next a)) (if c then owing else fresh)) (sym (same-counter b)) (refl, later a)
