-- Lines that are passed at once: all that they ask together stands.
use Rattle.std.proofs.Common.{◌≡◌, ◌≤◌, refl, sym, ap, subst, ◌∙◌, ℕ, take, Bool, true, false, ◌||◌, List, [], ◌∷◌, ◌++◌, append_assoc, append-nil, map, Option, None, Some}
use Rattle.std.specs.Prelude.{is_some, fold, if◌then◌else◌}
use Rattle.std.proofs.lemmas.Bool.{and_parts, and_from, eq-eqb}
use Rattle.std.specs.List.{list_all, list_any}
use Rattle.std.proofs.lemmas.List.{map-append}
use Rattle.std.proofs.lemmas.List.Folds.{list_all-append}
use Rattle.cps_text.specs.declared.name.Name.{Name}
use Rattle.cps_state.specs.declared.hashing.Hashing.{Hashing}
use Rattle.cps_state.specs.declared.key.Key.{Key}
use Rattle.cps_state.specs.declared.key.Key.TheVariants as key
use Rattle.cps_state.specs.declared.key.Answer.{Answer}
use Rattle.cps_state.specs.declared.key.Asked.{Asked}
use Rattle.cps_state.specs.declared.key.Put.{Put}
use Rattle.cps_state.specs.Course.{Trace, known_in}
use Rattle.cps_state.specs.Keys.{State, first_state, overwritten, same_block, same_key}
use Rattle.cps_final.specs.Changes.{Changed, changed, agreed}
use Rattle.cps_final.proofs.ChangedLemmas.{settled-law}
use Rattle.cps_final.specs.Layout.{puts_of}
use Rattle.cps_final.specs.Holds.{holds}
use Rattle.cps_final.specs.Run.{Run, empty_run, with_ask, with_asks, joined, run_of}
use Rattle.cps_final.proofs.AnswerLemmas.{asks-decide}
use Rattle.cps_final.proofs.DecideLemmas.{name-decides}
use Rattle.cps_edit.specs.Passes.{state_after, traces_from, traces_of}
use Rattle.cps_edit.proofs.SpliceLemmas.{none-disturbed, puts-state}
use Rattle.cps_chunk.specs.declared.key_filter.KeyFilter.{KeyFilter}
use Rattle.cps_chunk.specs.KeyFilter.{mark_of, has, AreMarked, asks_at, keys_asked}
use Rattle.cps_chunk.specs.Noted.{stands_at, stands}
use Rattle.cps_chunk.specs.Code.Sought.{is_asked}
use Rattle.cps_chunk.specs.Replayed.{replayed}
use Rattle.cps_chunk.specs.Code.Walk.{stretch}
use Rattle.cps_chunk.proofs.NotedLemmas.{stands-holds}
use Rattle.cps_chunk.proofs.ReplayedLemmas.{replayed-none}
use Rattle.cps_chunk.specs.RunLaws.{RunStands}
use Rattle.cps_chunk.proofs.RunLemmas.{run-law, asks-no-more}
use Rattle.cps_chunk.proofs.WalkLemmas.{stretch-did, stretch-state}

-- ---- no changed key has its mark

abbrev pub AreUnmarked : Hashing → KeyFilter → Changed → Type 0
AreUnmarked hashing m now = (k : Key) → is_some (now k) ≡ true → has m (mark_of hashing k) ≡ false

abbrev ask-key : Asked → Key
ask-key a = a.key

module _ (p : Key → Bool) where
  abbrev AllPass : List Asked → Type 0
  AllPass asks = list_all p (map ask-key asks) ≡ true

  pass-append : (keys more : List Key) → list_all p keys ≡ true → list_all p more ≡ true → list_all p (keys ++ more) ≡ true
  pass-append keys more one two = list_all-append p keys more ∙ and_from _ _ one two

  pass-parts : (keys more : List Key) → list_all p (keys ++ more) ≡ true → (list_all p keys ≡ true) × (list_all p more ≡ true)
  pass-parts keys more all = and_parts _ _ (sym (list_all-append p keys more) ∙ all)

  -- asks of keys that pass, where no changed key does
  pass-asks : (now : Changed) → ((k : Key) → is_some (now k) ≡ true → p k ≡ false) → (asks : List Asked) → AllPass asks → stands now asks ≡ true
  pass-asks now absent [] all = refl
  pass-asks now absent (a ∷ asks) all =
      let parts = and_parts (p a.key) (list_all p (map ask-key asks)) all in
      and_from (stands_at (now a.key) a.answer) (stands now asks) (at parts.0 (now a.key) refl) (pass-asks now absent asks parts.1)
    where
      at : p a.key ≡ true → (there : Option (Option Answer)) → now a.key ≡ there → stands_at there a.answer ≡ true
      at here None is = refl
      at here (Some x) is =
          let none : true ≡ false = sym here ∙ absent a.key (ap is_some is) in
          cc

  -- a run asks no more than its lines
  pass-one : (puts : List Put) (asks : List Asked) (a : Asked) → AllPass asks → p a.key ≡ true → AllPass (with_ask puts asks a)
  pass-one puts asks a all one = at (is_some (known_in asks puts a.key))
    where
      at : (known : Bool) → AllPass (if known then asks else asks ++ a ∷ [])
      at true = all
      at false =
          subst (λ keys. list_all p keys ≡ true) (sym (map-append ask-key asks (a ∷ []))) (pass-append (map ask-key asks) (a.key ∷ []) all (and_from (p a.key) true one refl))

  pass-more : (puts : List Put) (asks more : List Asked) → AllPass asks → AllPass more → AllPass (with_asks puts asks more)
  pass-more puts asks [] all here = all
  pass-more puts asks (a ∷ more) all here =
      let parts = and_parts (p a.key) (list_all p (map ask-key more)) here in
      pass-more puts (with_ask puts asks a) more (pass-one puts asks a all parts.0) parts.1

  pass-lines : (run : Run) (ts : List Trace) → AllPass run.asks → list_all p (keys_asked ts) ≡ true → AllPass (fold joined run ts).asks
  pass-lines run [] all here = all
  pass-lines run (t ∷ ts) all here =
      let parts = pass-parts (asks_at t) (keys_asked ts) here in
      pass-lines (joined run t) ts (pass-more run.puts run.asks t.asks all parts.0) parts.1

  -- what lines ask stands, whose keys all pass where no changed key does
  pub passing-stands : (now : Changed) → ((k : Key) → is_some (now k) ≡ true → p k ≡ false) → (ts : List Trace) → list_all p (keys_asked ts) ≡ true
      → stands now (run_of ts).asks ≡ true
  passing-stands now absent ts here = pass-asks now absent (run_of ts).asks (pass-lines empty_run ts refl here)

pub unmarked-stands : (hashing : Hashing) (m : KeyFilter) (now : Changed) → AreUnmarked hashing m now → (ts : List Trace) → AreMarked hashing m (keys_asked ts)
    → stands now (run_of ts).asks ≡ true
unmarked-stands hashing m now absent ts here = passing-stands (λ k. has m (mark_of hashing k)) now absent ts here

-- ---- lines that ask no changed key

same_block-refl : (block : Option Name) → same_block block block ≡ true
same_block-refl None = refl
same_block-refl (Some name) = (name-decides name name).1 refl

same_key-refl : (k : Key) → same_key k k ≡ true
same_key-refl key.Control = refl
same_key-refl (key.Counter block) = same_block-refl block
same_key-refl (key.Label name) = (name-decides name name).1 refl
same_key-refl (key.Setting name) = (name-decides name name).1 refl
same_key-refl key.Uses = refl
same_key-refl key.Ifs = refl
same_key-refl key.Blocks = refl
same_key-refl (key.Macro name) = (name-decides name name).1 refl
same_key-refl (key.Kept n) = eq-eqb n n refl
same_key-refl key.Locals = refl

abbrev asks-key : List Asked → Key → Bool
asks-key asks k = list_any (λ (a : Asked). same_key a.key k) asks

list-more : {X : Type 0} (p q : X → Bool) → ((x : X) → p x ≡ true → q x ≡ true) → (xs : List X) → list_all p xs ≡ true → list_all q xs ≡ true
list-more p q next [] all = refl
list-more p q next (x ∷ xs) all =
    let parts = and_parts (p x) (list_all p xs) all in
    and_from (q x) (list_all q xs) (next x parts.0) (list-more p q next xs parts.1)

or-first : (a b : Bool) → a ≡ true → (a || b) ≡ true
or-first a b is = ap (λ c. c || b) is

or-second : (a b : Bool) → b ≡ true → (a || b) ≡ true
or-second true b is = refl
or-second false b is = is

-- each key that lines ask is asked by one of them
own-asks : (asks : List Asked) → list_all (asks-key asks) (map ask-key asks) ≡ true
own-asks [] = refl
own-asks (a ∷ asks) =
    and_from (asks-key (a ∷ asks) a.key) _ (or-first (same_key a.key a.key) (asks-key asks a.key) (same_key-refl a.key))
    (list-more (asks-key asks) (asks-key (a ∷ asks)) (λ k here. or-second (same_key a.key k) (asks-key asks k) here) (map ask-key asks) (own-asks asks))

own-keys : (ts : List Trace) → list_all (is_asked ts) (keys_asked ts) ≡ true
own-keys [] = refl
own-keys (t ∷ ts) =
    list_all-append (is_asked (t ∷ ts)) (asks_at t) (keys_asked ts)
    ∙ and_from _ _
    (list-more (asks-key t.asks) (is_asked (t ∷ ts)) (λ k here. or-first (asks-key t.asks k) (is_asked ts k) here) (asks_at t) (own-asks t.asks))
    (list-more (is_asked ts) (is_asked (t ∷ ts)) (λ k here. or-second (asks-key t.asks k) (is_asked ts k) here) (keys_asked ts) (own-keys ts))

pub unasked-stands : (now : Changed) (ts : List Trace) → ((k : Key) → is_some (now k) ≡ true → is_asked ts k ≡ false) → stands now (run_of ts).asks ≡ true
unasked-stands now ts absent = passing-stands (is_asked ts) now absent ts (own-keys ts)

-- ---- what the lines of a run put

run-puts : (run : Run) (ts : List Trace) → (fold joined run ts).puts ≡ run.puts ++ puts_of ts
run-puts run [] = sym (append-nil run.puts)
run-puts run (t ∷ ts) = run-puts (joined run t) ts ∙ append_assoc run.puts t.puts (puts_of ts)

-- ---- lines in front of which that stood, over changes

module _ (now : Changed) (f : State) (ls : List (List ℕ)) where
  -- all that they ask stands if it holds in the changed state
  pub run-stands : stands now (run_of (traces_from f ls)).asks ≡ holds (run_of (traces_from f ls)).asks (changed now f)
  run-stands =
      let ts = traces_from f ls in
      stands-holds now (run_of ts).asks f ((asks-decide (run_of ts).asks f).0 (asks-no-more f f ls (none-disturbed f ls)))

  module _ (stood : stands now (run_of (traces_from f ls)).asks ≡ true) where
    there : RunStands (changed now f) ls (traces_from f ls)
    there = run-law f (changed now f) ls (sym run-stands ∙ stood)

    -- then none of them is made anew
    pub passed-none : (i : ℕ) → replayed (changed now f) i ls (traces_from f ls) ≡ []
    passed-none i = replayed-none (changed now f) i ls (traces_from f ls) there.undisturbed

    -- and they leave those changes that they don't put
    pub passed-state : changed (agreed now (puts_of (traces_from f ls))) (state_after f ls) ≡ state_after (changed now f) ls
    passed-state =
        let puts = puts_of (traces_from f ls) in
        ap (changed (agreed now puts)) (sym (puts-state f ls)) ∙ sym (settled-law now f puts)
        ∙ ap (overwritten (changed now f)) (sym (run-puts empty_run (traces_from f ls))) ∙ sym there.behind

-- ---- a stretch of the lines of a source

module _ (lines : List (List ℕ)) (traces : List Trace) (did : traces ≡ traces_of lines) (a b : ℕ) (le : a ≤ b) (now : Changed) where
  abbrev front : State
  front = state_after first_state (take a lines)

  same : stretch a b traces ≡ traces_from front (stretch a b lines)
  same = stretch-did lines traces did a b le

  pub part-stands : stands now (run_of (stretch a b traces)).asks ≡ holds (run_of (stretch a b traces)).asks (changed now front)
  part-stands =
      ap (λ ts. stands now (run_of ts).asks) same ∙ run-stands now front (stretch a b lines) ∙ ap (λ ts. holds (run_of ts).asks (changed now front)) (sym same)

  module _ (stood : stands now (run_of (stretch a b traces)).asks ≡ true) where
    still : stands now (run_of (traces_from front (stretch a b lines))).asks ≡ true
    still = ap (λ ts. stands now (run_of ts).asks) (sym same) ∙ stood

    pub part-none : replayed (changed now front) a (stretch a b lines) (stretch a b traces) ≡ []
    part-none = ap (replayed (changed now front) a (stretch a b lines)) same ∙ passed-none now front (stretch a b lines) still a

    pub part-left : changed (agreed now (puts_of (stretch a b traces))) (state_after first_state (take b lines)) ≡ state_after (changed now front) (stretch a b lines)
    part-left =
        (λ i. changed (agreed now (puts_of (same i))) (sym (stretch-state lines traces did a b le) i)) ∙ passed-state now front (stretch a b lines) still
