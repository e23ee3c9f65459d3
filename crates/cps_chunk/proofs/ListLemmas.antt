-- What a course does, by the list of its statements.
use Rattle.std.proofs.Common.{◌≡◌, refl, sym, ap, ◌∙◌, ℕ, zero, suc, ◌+◌, ◌-◌, ◌<◌, ◌≤◌, min, Bool, true, false, not, ◌||◌, List, [], ◌∷◌, ◌++◌, length, take, map, Option, Some, None, arith}
use Rattle.std.specs.Prelude.{if◌then◌else◌, is_some, nat_lt}
use Rattle.std.specs.List.{list_any}
use Rattle.std.proofs.lemmas.Bool.{lt-ltb, le-ltb, ltb-true, ltb-false}
use Rattle.std.proofs.lemmas.List.{length_push, append-nil}
use Rattle.cps_state.specs.declared.key.Key.{Key}
use Rattle.cps_state.specs.declared.key.Answer.{Answer}
use Rattle.cps_state.specs.declared.item.Item.{Item}
use Rattle.cps_state.specs.Course.{Course, stop, ask, put, stand, fill, mark, tell, settle, begin, Running, run, started, known_at, answer_at, with_ask, with_put_made, stood, filled, marked, with_read, settled_by, items_of, begun, most_statements, too_much, Trace, traced}
use Rattle.cps_state.specs.Keys.{State}
use Rattle.cps_chunk.specs.Listed.{Entry, listed, reached, expansion, is_deep, is_dropped, before_deep, allowed, trace_in, trace_by_list}
use Rattle.cps_chunk.specs.CourseLaws.{entry_of, own_entry}

-- ---- the limits, one statement at a time

-- after so many statements, one of these is too much
abbrev pub drops : ℕ → List Entry → Bool
drops count [] = false
drops count (entry ∷ entries) = if too_much count entry.depth then true else drops (count + 1) entries

-- how many of these come before the first one that is too much
abbrev pub fits : ℕ → List Entry → ℕ
fits count [] = 0
fits count (entry ∷ entries) = if too_much count entry.depth then 0 else suc (fits (count + 1) entries)

-- an ask, where this is known of its key
asking_with : State → Running → Key → Option (Option Answer) → Running
asking_with f t k known = if is_some known then t else record t { asks = t.asks ++ record { key = k; answer = f k } ∷ [] }

-- asking touches no item
asked-finished : (f : State) (t : Running) (k : Key) (known : Option (Option Answer)) → (asking_with f t k known).finished ≡ t.finished
unfolding asking_with
asked-finished f t k (Some a) = refl
asked-finished f t k None = refl

-- a statement that begins, if it isn't too much
goes : Bool → Course → State → Running → Running → Running × Bool
goes stops rest f t next = if stops then (t, false) else run rest f next

begun-listed : (stops : Bool) (depth : ℕ) (text : List ℕ) (rest : Course) (f : State) (t : Running) (left : ℕ) (over : Bool)
    → run rest f (begun t depth text) ≡ (reached left rest f (begun t depth text), not over)
    → goes stops rest f t (begun t depth text) ≡ (reached (if stops then 0 else suc left) (begin depth text rest) f t, not (if stops then true else over))
unfolding goes
begun-listed true depth text rest f t left over same = refl
begun-listed false depth text rest f t left over same = same

pub run-listed : (course : Course) (f : State) (t : Running) (count : ℕ) → length t.finished ≡ count
    → run course f t ≡ (reached (fits count (listed course f t)) course f t, not (drops count (listed course f t)))
unfolding asking_with goes
run-listed stop f t count is = refl
run-listed (ask k next) f t count is =
    run-listed (next (answer_at f t k)) f (with_ask f t k) count (ap (λ (items : List Item). length items) (asked-finished f t k (known_at t k)) ∙ is)
run-listed (put p rest) f t count is = run-listed rest f (with_put_made t p) count is
run-listed (stand block rest) f t count is = run-listed rest f (stood t block) count is
run-listed (fill made rest) f t count is = run-listed rest f (filled t made) count is
run-listed (mark flags rest) f t count is = run-listed rest f (marked t flags) count is
run-listed (tell name rest) f t count is = run-listed rest f (with_read t name) count is
run-listed (settle rest) f t count is = run-listed rest f (settled_by t) count is
run-listed (begin depth text rest) f t count is =
    let next : Running = begun t depth text in
    ap (λ n. goes (too_much n depth) rest f t next) is
    ∙ begun-listed (too_much count depth) depth text rest f t (fits (count + 1) (listed rest f next)) (drops (count + 1) (listed rest f next))
    (run-listed rest f next (count + 1) (length_push t.finished t.present ∙ ap (λ n. n + 1) is))

-- ---- the limits, of whole lists

or-true : (b : Bool) → b || true ≡ true
or-true true = refl
or-true false = refl

below-most : (n : ℕ) → nat_lt n most_statements ≡ true → n + 1 ≤ most_statements
below-most n lt = omega (arith, ltb-true n most_statements lt)

above-most : (n m : ℕ) → nat_lt n most_statements ≡ false → most_statements < n + suc m
above-most n m ge = omega (arith, ltb-false n most_statements ge)

one-more : (n m : ℕ) → n + 1 + m ≡ n + suc m
one-more n m = omega arith

zero-more : (n : ℕ) → 0 + n ≡ n
zero-more n = omega arith

drops-is : (count : ℕ) (entries : List Entry) → count ≤ most_statements → drops count entries ≡ list_any is_deep entries || nat_lt most_statements (count + length entries)
drops-is count [] le = sym (le-ltb most_statements (count + 0) (omega arith))
drops-is count (entry ∷ entries) le =
    elim (is_deep entry) as (λ b. (if b || not (nat_lt count most_statements) then true else drops (count + 1) entries) ≡ (b || list_any is_deep entries) || nat_lt most_statements (count + suc (length entries))) [
      | true ↦ refl
      | false ↦ elim (nat_lt count most_statements) as (λ b. nat_lt count most_statements ≡ b → (if not b then true else drops (count + 1) entries) ≡ list_any is_deep entries || nat_lt most_statements (count + suc (length entries))) [
        | true ↦ λ lt. drops-is (count + 1) entries (below-most count lt) ∙ ap (λ m. list_any is_deep entries || nat_lt most_statements m) (one-more count (length entries))
        | false ↦ λ ge. sym (ap (λ b. list_any is_deep entries || b) (lt-ltb most_statements (count + suc (length entries)) (above-most count (length entries) ge)) ∙ or-true (list_any is_deep entries))
      ] refl
    ]

min-none : (n : ℕ) → 0 ≡ min (most_statements - n) 0
min-none n = omega arith

min-next : (n m : ℕ) → n < most_statements → suc (min (most_statements - (n + 1)) m) ≡ min (most_statements - n) (m + 1)
min-next n m lt = omega arith

min-most : (n m : ℕ) → most_statements ≤ n → 0 ≡ min (most_statements - n) m
min-most n m le = omega arith

fits-is : (count : ℕ) (entries : List Entry) → count ≤ most_statements → fits count entries ≡ min (most_statements - count) (before_deep entries)
fits-is count [] le = min-none count
fits-is count (entry ∷ entries) le =
    elim (is_deep entry) as (λ b. (if b || not (nat_lt count most_statements) then 0 else suc (fits (count + 1) entries)) ≡ min (most_statements - count) (if b then 0 else before_deep entries + 1)) [
      | true ↦ min-none count
      | false ↦ elim (nat_lt count most_statements) as (λ b. nat_lt count most_statements ≡ b → (if not b then 0 else suc (fits (count + 1) entries)) ≡ min (most_statements - count) (before_deep entries + 1)) [
        | true ↦ λ lt. ap suc (fits-is (count + 1) entries (below-most count lt)) ∙ min-next count (before_deep entries) (ltb-true count most_statements lt)
        | false ↦ λ ge. min-most count (before_deep entries + 1) (ltb-false count most_statements ge)
      ] refl
    ]

drops-first : (entries : List Entry) → drops 0 entries ≡ is_dropped entries
drops-first entries = drops-is 0 entries (omega arith) ∙ ap (λ m. list_any is_deep entries || nat_lt most_statements m) (zero-more (length entries))

pub by-list : (course : Course) (f : State) → trace_in course f ≡ trace_by_list course f
by-list course f =
    let entries = expansion course f in
    ap (λ r. traced r) (run-listed course f started 0 refl
    ∙ ap (λ n. (reached n course f started, not (drops 0 entries))) (fits-is 0 entries (omega arith))
    ∙ ap (λ over. (reached (allowed entries) course f started, not over)) (drops-first entries))

-- ---- a list that isn't dropped

-- none of it is too much
fits-all : (count : ℕ) (entries : List Entry) → drops count entries ≡ false → fits count entries ≡ length entries
fits-all count [] none = refl
fits-all count (entry ∷ entries) none =
    elim (too_much count entry.depth) as (λ b. (if b then true else drops (count + 1) entries) ≡ false → (if b then 0 else suc (fits (count + 1) entries)) ≡ suc (length entries)) [
      | true ↦ λ over. absurd cc
      | false ↦ λ over. ap suc (fits-all (count + 1) entries over)
    ] none

pub none-dropped : (course : Course) (f : State) → is_dropped (expansion course f) ≡ false → trace_in course f ≡ traced (reached (length (expansion course f)) course f started, true)
none-dropped course f is =
    let entries = expansion course f in
    let none : drops 0 entries ≡ false = drops-first entries ∙ is in
    ap (λ r. traced r) (run-listed course f started 0 refl
    ∙ ap (λ n. (reached n course f started, not (drops 0 entries))) (fits-all 0 entries none)
    ∙ ap (λ over. (reached (length entries) course f started, not over)) none)

-- ---- its items

abbrev pub entries_of : Running → List Entry
entries_of t = map entry_of (items_of t)

asked-entries : (f : State) (t : Running) (k : Key) (known : Option (Option Answer)) → entries_of (asking_with f t k known) ≡ entries_of t
unfolding asking_with
asked-entries f t k (Some a) = refl
asked-entries f t k None = refl

-- what a statement makes changes neither its depth nor its text
filled-entries : (items : List Item) (a b : Item) → entry_of a ≡ entry_of b → map entry_of (items ++ a ∷ []) ≡ map entry_of (items ++ b ∷ [])
filled-entries [] a b same = ap (λ (e : Entry). e ∷ []) same
filled-entries (item ∷ items) a b same = ap (λ entries. entry_of item ∷ entries) (filled-entries items a b same)

push-entries : (items : List Item) (a b : Item) (entries : List Entry)
    → map entry_of ((items ++ a ∷ []) ++ b ∷ []) ++ entries ≡ map entry_of (items ++ a ∷ []) ++ entry_of b ∷ entries
push-entries [] a b entries = refl
push-entries (item ∷ items) a b entries = ap (λ es. entry_of item ∷ es) (push-entries items a b entries)

-- the items are those of the statements that have begun
reached-entries : (count : ℕ) (course : Course) (f : State) (t : Running) → entries_of (reached count course f t) ≡ entries_of t ++ take count (listed course f t)
unfolding asking_with
reached-entries zero stop f t = sym (append-nil (entries_of t))
reached-entries (suc count) stop f t = sym (append-nil (entries_of t))
reached-entries count (ask k next) f t =
    reached-entries count (next (answer_at f t k)) f (with_ask f t k)
    ∙ ap (λ es. es ++ take count (listed (next (answer_at f t k)) f (with_ask f t k))) (asked-entries f t k (known_at t k))
reached-entries count (put p rest) f t = reached-entries count rest f (with_put_made t p)
reached-entries count (stand block rest) f t =
    reached-entries count rest f (stood t block)
    ∙ ap (λ es. es ++ take count (listed rest f (stood t block))) (filled-entries t.finished (stood t block).present t.present refl)
reached-entries count (fill made rest) f t =
    reached-entries count rest f (filled t made)
    ∙ ap (λ es. es ++ take count (listed rest f (filled t made))) (filled-entries t.finished (filled t made).present t.present refl)
reached-entries count (mark flags rest) f t =
    reached-entries count rest f (marked t flags)
    ∙ ap (λ es. es ++ take count (listed rest f (marked t flags))) (filled-entries t.finished (marked t flags).present t.present refl)
reached-entries count (tell name rest) f t = reached-entries count rest f (with_read t name)
reached-entries count (settle rest) f t = reached-entries count rest f (settled_by t)
reached-entries zero (begin depth text rest) f t = sym (append-nil (entries_of t))
reached-entries (suc count) (begin depth text rest) f t =
    reached-entries count rest f (begun t depth text)
    ∙ push-entries t.finished t.present (begun t depth text).present (take count (listed rest f (begun t depth text)))

take-all : (entries : List Entry) → take (length entries) entries ≡ entries
take-all [] = refl
take-all (entry ∷ entries) = ap (λ es. entry ∷ es) (take-all entries)

pub items-list : (course : Course) (f : State) → is_dropped (expansion course f) ≡ false → map entry_of (trace_in course f).items ≡ own_entry ∷ expansion course f
items-list course f is =
    let entries = expansion course f in
    ap (λ (trace : Trace). map entry_of trace.items) (none-dropped course f is)
    ∙ reached-entries (length entries) course f started
    ∙ ap (λ (es : List Entry). entries_of started ++ es) (take-all entries)
