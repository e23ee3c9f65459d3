use Rattle.std.proofs.Common.{◌≡◌, ◌+◌, ◌≤◌, ◌++◌, ◌∷◌, [], List, Vec, Global, take, sym, subst, ap, ◌∙◌, arith}
use Rattle.cps_text.specs.declared.name.Name.{Name}
use Rattle.cps_final.specs.Code.Kept.{count_of, keys_in}
use Rattle.cps_live.proofs.DifferenceLemmas.{AreListedOf, listed-none, listed-label, listed-same, listed-other, listed-all}
use Rattle.cps_live.proofs.differences.list_labels.Goals as goal
use Rattle.cps_live.proofs.differences.list_labels.Goals.{in-Label+then-not-label+in_ok-push, in-Label+else-not-label, in_default}

pub loop-i-init : goal.loop-i-init
loop-i-init c =
    subst (λ (ls : List Name). AreListedOf c.args.ends [] ls) (sym c.new-labels.ensures.items) (listed-none c.args.ends (keys_in c.args.ends.patch.now.changes))

pub loop-i-preserved : goal.loop-i-preserved
loop-i-preserved c =
    let ends = c.args.ends in
    let keys = keys_in ends.patch.now.changes in
    let i = c.loop-i.i in
    let listed : List Name → Type 0 = λ ls. AreListedOf ends (take (i + 1) keys) ls in
    elim c.match-key.branch [
      | in-Label+then-not-label+in_ok-push w ↦
          let made : c.match-key.labels.items ≡ c.loop-i.labels.items ++ w.in-Label.name ∷ [] = ap (λ (v : Vec Name Global). v.items) w.labels-is ∙ w.in_ok-push.ensures.items in
          subst listed (sym made)
          (listed-label ends keys i c.key.result c.key.ensures.key c.loop-i.labels.items c.loop-i.invariant w.in-Label.name w.in-Label.is (sym w.label.ensures ∙ w.if-not-label.true))
      | in-Label+else-not-label w ↦
          subst listed (sym (ap (λ (v : Vec Name Global). v.items) w.labels-is))
          (listed-same ends keys i c.key.result c.key.ensures.key c.loop-i.labels.items c.loop-i.invariant w.in-Label.name w.in-Label.is (sym w.label.ensures ∙ w.if-not-label.false))
      | in_default w ↦
          subst listed (sym (ap (λ (v : Vec Name Global). v.items) w.labels-is))
          (listed-other ends keys i c.key.result c.key.ensures.key c.loop-i.labels.items c.loop-i.invariant w.in_default.not-Label)
    ]

pub returns : goal.returns
returns c =
    let past : count_of c.args.ends.patch.now.changes ≤ c.loop-i.i = omega arith in
    listed-all c.args.ends c.loop-i.i c.loop-i.labels.items past c.loop-i.invariant
