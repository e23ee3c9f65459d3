-- How many items a line has, and how deep they stand.
use Rattle.std.proofs.Common.{◌≡◌, refl, ap, ◌∙◌, ℕ, ◌+◌, ◌<◌, ◌≤◌, Bool, true, false, not, List, [], ◌∷◌, ◌++◌, length, cond, Option, Some, None, arith}
use Rattle.std.specs.Prelude.{nat_lt, is_some, if◌then◌else◌}
use Rattle.std.specs.List.{All}
use Rattle.std.proofs.lemmas.Bool.{ltb-true, ltb-false, not-false, or_parts}
use Rattle.std.proofs.lemmas.List.{length-append}
use Rattle.std.proofs.lemmas.List.Elements.{All-nil, All-push, filter-append}
use Rattle.cps_state.specs.declared.item.Item.{Item}
use Rattle.cps_state.specs.declared.key.Key.{Key}
use Rattle.cps_state.specs.declared.key.Answer.{Answer}
use Rattle.cps_state.specs.Course.{Course, stop, ask, put, stand, fill, mark, tell, settle, begin, Running, run, started, known_at, answer_at, with_ask, with_put_made, stood, filled, marked, with_read, settled_by, begun, deepest, most_statements, too_much, traced, first_item, dropped_item}
use Rattle.cps_state.specs.Keys.{State}
use Rattle.cps_pass.specs.Bounded.{below_the_line, AreFew}

-- ---- statements that are finished, and then one at a depth

Shallow : Item → Type 0
Shallow item = item.depth ≤ deepest

one_below : ℕ → ℕ
one_below depth = cond (nat_lt 0 depth) 1 0

-- the line's own statement stands in no expansion
record Few (finished : List Item) (depth : ℕ) : Type 0 where
  pub count : length finished ≤ most_statements
  pub below : length (below_the_line finished) + one_below depth ≤ length finished
  pub shallow : All Shallow finished
  pub present : depth ≤ deepest

few-started : Few started.finished started.present.depth
unfolding Shallow one_below
few-started = record { count = omega arith; below = omega arith; shallow = All-nil Shallow; present = omega arith }

one-most : (depth : ℕ) → one_below depth ≤ 1
unfolding one_below
one-most depth = elim (nat_lt 0 depth) as (λ b. cond b 1 0 ≤ 1) [ true ↦ omega arith | false ↦ omega arith ]

one-filtered : (item : Item) → length (below_the_line (item ∷ [])) ≡ one_below item.depth
unfolding one_below
one-filtered item = elim (nat_lt 0 item.depth) as (λ b. length (cond b (item ∷ []) []) ≡ cond b 1 0) [ true ↦ refl | false ↦ refl ]

below-push : (items : List Item) (item : Item) → length (below_the_line (items ++ item ∷ [])) ≡ length (below_the_line items) + one_below item.depth
below-push items item =
    ap (λ (xs : List Item). length xs) (filter-append (λ (x : Item). nat_lt 0 x.depth) items (item ∷ []))
    ∙ length-append (below_the_line items) (below_the_line (item ∷ []))
    ∙ ap (λ n. length (below_the_line items) + n) (one-filtered item)

length-one-more : (items : List Item) (item : Item) → length (items ++ item ∷ []) ≡ length items + 1
length-one-more items item = length-append items (item ∷ [])

-- one more begins
few-next : (finished : List Item) (item : Item) (depth : ℕ) → length finished < most_statements → depth ≤ deepest → Few finished item.depth → Few (finished ++ item ∷ []) depth
unfolding Shallow
few-next finished item depth lt le few =
    let length_is : length (finished ++ item ∷ []) ≡ length finished + 1 = length-one-more finished item in
    let below_is : length (below_the_line (finished ++ item ∷ [])) ≡ length (below_the_line finished) + one_below item.depth = below-push finished item in
    let one : one_below depth ≤ 1 = one-most depth in
    let below = few.below in
    record {
      count = omega arith;
      below = omega arith;
      shallow = All-push Shallow finished item few.shallow few.present;
      present = le;
    }

-- all of them
few-end : (finished : List Item) (item : Item) → Few finished item.depth → AreFew (finished ++ item ∷ [])
unfolding Shallow
few-end finished item few =
    let length_is : length (finished ++ item ∷ []) ≡ length finished + 1 = length-one-more finished item in
    let below_is : length (below_the_line (finished ++ item ∷ [])) ≡ length (below_the_line finished) + one_below item.depth = below-push finished item in
    let count = few.count in
    let below = few.below in
    record { all = omega arith; expanded = omega arith; shallow = All-push Shallow finished item few.shallow few.present }

-- ---- a course

-- an ask, where this is known of its key
asking_with : State → Running → Key → Option (Option Answer) → Running
asking_with f t k known = if is_some known then t else record t { asks = t.asks ++ record { key = k; answer = f k } ∷ [] }

few-asking : (f : State) (t : Running) (k : Key) (known : Option (Option Answer)) → Few t.finished t.present.depth
    → Few (asking_with f t k known).finished (asking_with f t k known).present.depth
unfolding asking_with
few-asking f t k (Some a) few = few
few-asking f t k None few = few

-- a statement that begins, if it isn't too much
goes : Bool → Course → State → Running → Running → Running × Bool
goes stops rest f t next = if stops then (t, false) else run rest f next

few-begun : (t : Running) (depth : ℕ) (text : List ℕ) → too_much (length t.finished) depth ≡ false → Few t.finished t.present.depth
    → Few (begun t depth text).finished (begun t depth text).present.depth
few-begun t depth text fits few =
    let deep = nat_lt deepest depth in
    let many = nat_lt (length t.finished) most_statements in
    let parts : (deep ≡ false) × (not many ≡ false) = or_parts deep (not many) fits in
    few-next t.finished t.present depth (ltb-true (length t.finished) most_statements (not-false many parts.1)) (ltb-false deepest depth parts.0) few

few-goes : (stops : Bool) (rest : Course) (f : State) (t next : Running) → Few t.finished t.present.depth
    → (stops ≡ false → Few (run rest f next).0.finished (run rest f next).0.present.depth)
    → Few (goes stops rest f t next).0.finished (goes stops rest f t next).0.present.depth
unfolding goes
few-goes true rest f t next few later = few
few-goes false rest f t next few later = later refl

few-run : (course : Course) (f : State) (t : Running) → Few t.finished t.present.depth → Few (run course f t).0.finished (run course f t).0.present.depth
unfolding asking_with goes
few-run stop f t few = few
few-run (ask k next) f t few = few-run (next (answer_at f t k)) f (with_ask f t k) (few-asking f t k (known_at t k) few)
few-run (put p rest) f t few = few-run rest f (with_put_made t p) few
few-run (stand block rest) f t few = few-run rest f (stood t block) few
few-run (fill made rest) f t few = few-run rest f (filled t made) few
few-run (mark flags rest) f t few = few-run rest f (marked t flags) few
few-run (tell name rest) f t few = few-run rest f (with_read t name) few
few-run (settle rest) f t few = few-run rest f (settled_by t) few
few-run (begin depth text rest) f t few =
    few-goes (too_much (length t.finished) depth) rest f t (begun t depth text) few (λ fits. few-run rest f (begun t depth text) (few-begun t depth text fits few))

-- ---- the trace of a line

-- a line that is dropped has one item
few-traced : (r : Running × Bool) → Few r.0.finished r.0.present.depth → AreFew (traced r).items
few-traced (t, true) few = few-end t.finished t.present few
few-traced (t, false) few = few-end [] (dropped_item (first_item t.finished t.present)) few-started

pub items-few : (course : Course) (f : State) → AreFew (traced (run course f started)).items
items-few course f = few-traced (run course f started) (few-run course f started few-started)
