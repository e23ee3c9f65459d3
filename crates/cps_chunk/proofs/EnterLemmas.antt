-- New lines, one after another.
use Rattle.std.proofs.Common.{◌≡◌, sym, ap, ◌∙◌, ℕ, ◌+◌, ◌<◌, ◌≤◌, List, [], ◌∷◌, ◌++◌, append_assoc, append-nil, length, get_or, drop}
use Rattle.std.proofs.lemmas.List.{drop_all}
use Rattle.std.proofs.lemmas.List.Concat.{flat_map-append}
use Rattle.cps_state.specs.Course.{Trace}
use Rattle.cps_state.specs.Keys.{State}
use Rattle.cps_final.specs.Layout.{puts_of}
use Rattle.cps_pass.specs.Expansion.{trace_of}
use Rattle.cps_edit.specs.Passes.{after, traces_from}
use Rattle.cps_edit.proofs.TakenLemmas.{drop_at}

pub puts-push : (done : List Trace) (t : Trace) → puts_of (done ++ t ∷ []) ≡ puts_of done ++ t.puts
puts-push done t = flat_map-append (λ (u : Trace). u.puts) done (t ∷ []) ∙ ap (λ ps. puts_of done ++ ps) (append-nil t.puts)

module _ (lines : List (List ℕ)) (i : ℕ) (f : State) (done whole : List Trace) (so_far : done ++ traces_from f (drop i lines) ≡ whole) where
  -- one line more
  pub entered-next : (line : List ℕ) (t : Trace) (g : State) → i < length lines → line ≡ get_or lines i line → t ≡ trace_of line f → g ≡ after f line
      → (done ++ t ∷ []) ++ traces_from g (drop (i + 1) lines) ≡ whole
  entered-next line t g lt is does next =
      append_assoc done (t ∷ []) (traces_from g (drop (i + 1) lines))
      ∙ (λ j. done ++ (does j ∷ traces_from (next j) (drop (i + 1) lines)))
      ∙ ap (λ ls. done ++ traces_from f ls) (sym (drop_at lines i line lt is)) ∙ so_far

  -- all of them
  pub entered-all : length lines ≤ i → done ≡ whole
  entered-all all = sym (append-nil done) ∙ ap (λ ls. done ++ traces_from f ls) (sym (drop_all i lines all)) ∙ so_far
