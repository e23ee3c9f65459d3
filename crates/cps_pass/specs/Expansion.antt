-- What a source line does in pass one: its own statement, and the statements that it opens. From the manual's descriptions of DUP and of macro calls; how
-- deep expansions may stand, and how many statements a line may stand for, are our profile's.
use Rattle.std.specs.Prelude.{ℕ, ◌-◌, zero, suc, ◌+◌, Bool, true, false, List, [], ◌∷◌, map, if◌then◌else◌}
use Rattle.cps_text.specs.Insertion.{inserted}
use Rattle.cps_state.specs.declared.key.Mode.{Mode}
use Rattle.cps_state.specs.declared.key.Mode.TheVariants.{KeepDup}
use Rattle.cps_state.specs.Course.{stop, begin, mark, settle, Part, ◌before◌, nothing, run, started, deepest, Trace, traced}
use Rattle.cps_state.specs.Keys.{State}
use Rattle.cps_state.specs.Made.{no_flags}
use Rattle.cps_pass.specs.declared.scope.Scope.{Scope}
use Rattle.cps_pass.specs.declared.scope.Scope.TheVariants.{Source, Expansion}
use Rattle.cps_pass.specs.Locals.{naming_all}
use Rattle.cps_pass.specs.Meaning.{statement}
use Rattle.cps_pass.specs.Opening.{Opening, plain, naming}
use Rattle.cps_pass.specs.Own.{new_expansion}

-- ---- the end of an expansion

abbrev pub is_dup_body : Mode → Bool
is_dup_body (KeepDup body) = true
is_dup_body _ = false

abbrev pub keeps_lines : Scope → Bool
keeps_lines Source = false
keeps_lines (Expansion own) = is_dup_body own.mode

-- a body of DUP that is open ends with the expansion: E on its last statement
abbrev pub ended : Scope → Part
ended scope = if keeps_lines scope then mark (record no_flags { structure = true }) else nothing

-- ---- statements one after another, each followed by those that it opens, one deeper

abbrev pub walk : (ℕ → Opening → Part) → ℕ → Scope → List (List ℕ) → (Scope → Part) → Part
walk nested depth scope [] next = next scope
walk nested depth scope (text ∷ texts) next =
    begin depth text before statement scope text (λ later opened. nested (depth + 1) opened before walk nested depth later texts next)

-- the statements of an expansion at a depth, where so many depths are looked at; it begins with no open range, and lines are assembled. LOCAL lines come first,
-- and what the lines behind them are follows from the names of these
unfoldable pub body : ℕ → ℕ → Opening → Part
body zero depth opened rest = rest
body (suc depths) depth (plain texts) rest = walk (body depths) depth (Expansion new_expansion) texts ended rest
body (suc depths) depth (naming pairs locals lines) rest =
    naming_all depth pairs locals (λ named. walk (body depths) depth (Expansion new_expansion) (map (inserted named) lines) ended) rest

-- the first depth that is too deep: what stands below is not looked at
abbrev pub too_deep : ℕ
too_deep = deepest + 1

-- the statements that a statement opens, at their depth, down to that
abbrev pub opened_at : ℕ → Opening → Part
opened_at depth opening = body (too_deep + 1 - depth) depth opening

-- statements at a depth, each followed by those that it opens
abbrev pub walk_at : ℕ → Scope → List (List ℕ) → (Scope → Part) → Part
walk_at depth scope texts next = walk (body (too_deep - depth)) depth scope texts next

-- ---- a source line

abbrev pub line_part : List ℕ → Part
line_part text = statement Source text (λ later opened. settle before body too_deep 1 opened)

-- what a line asks, puts and makes in a state
abbrev pub trace_of : List ℕ → State → Trace
trace_of line state = traced (run (line_part line stop) state started)
