use Rattle.std.proofs.Common.{◌≡◌, ℕ, ◌-◌, true, List, [], ◌∷◌, length, refl, sym, ap, subst, ◌∙◌}
use Rattle.std.specs.Prelude.{Option, IfSome, is_some}
use Rattle.cps_final.specs.Finals.{Finals, is_open_at_end}
use Rattle.cps_edit.specs.Assembly.{ends_open}
use Rattle.cps_cause.specs.declared.cause.Cause.{Cause}
use Rattle.cps_cause.specs.declared.letter.Letter.{Letter}
use Rattle.cps_cause.specs.declared.letter.Letter.TheVariants.{E}
use Rattle.cps_cause.specs.Letters.{letter_of}
use Rattle.cps_server.specs.Document.{source_of_text}
use Rattle.cps_server.specs.declared.mark_kind.MarkKind.TheVariants as kinds
use Rattle.cps_server.specs.Marks.{Mark, MarksEnd}
use Rattle.cps_server.proofs.marking.push_end.Goals as goal

pub returns : goal.returns
returns c =
    let source = source_of_text c.args.document.now in
    let columns = c.within-columns.result in
    let place : Mark = record { line = c.saturating_sub-last.result; first = columns.first; last = columns.last; kind = kinds.Flag c.letter-letter.result } in
    let ends : true ≡ ends_open source =
    sym (ap is_some c.in-Some.is) ∙ c.in_ok-cause.ensures.open ∙ ap (λ (f : Finals). is_open_at_end f) c.finals.ensures
    ∙ ap (λ (ls : List (List ℕ)). ends_open ls) c.session-session.ensures in
    let letter : letter_of c.in-Some.cause ≡ E =
    subst (λ (cause : Option Cause). IfSome cause (λ found. letter_of found ≡ E)) c.in-Some.is c.in_ok-cause.ensures.letter in
    let last : c.saturating_sub-last.result ≡ length source - 1 =
    c.saturating_sub-last.ensures ∙ ap (λ (n : ℕ). n - 1) (c.count-count.ensures.count ∙ ap length c.session-session.ensures) in (
      place ∷ [],
      subst (λ b. MarksEnd b (length source - 1) (place ∷ [])) ends (place, refl, last, ap (λ (l : Letter). kinds.Flag l) (c.letter-letter.ensures ∙ letter)),
      c.in_ok-push.ensures,
    )
