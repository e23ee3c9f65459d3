use Rattle.std.proofs.Common.{rules, ◌≡◌, ℕ, List, ◌+◌, ◌-◌, ◌++◌, sym, ap, ◌∙◌, length, take, arith}
use Rattle.std.proofs.lemmas.List.{append-nil, length-append, take-append-drop}
use Rattle.std.proofs.lemmas.Slice.{take-put_mid, drop-put_mid}
use Rattle.std.proofs.Math.Seq.{take-append_seam}
use Rattle.std.proofs.Math.ListN.{drop_of_length-le}
use Rattle.cps_state.specs.Flags.{letters}
use Rattle.cps_list.specs.Columns.{at_left}
use Rattle.cps_list.proofs.FrontLemmas.{at_left-length, end-written, front-filled, front-long, letters-length}
use Rattle.cps_list.proofs.listing.push_flagged_front.Goals as goal

pub write_front-requires-clause-columns : goal.write_front-requires-clause-columns
write_front-requires-clause-columns c =
    let text = c.args.text.now.items in
    let begun = letters c.args.row.now.flags in
    let at : c.len-before.result ≡ length text = search rules in
    let filled : c.fill_columns.new.text.items ≡ text ++ at_left 44 begun = c.in_ok-fill_columns.ensures.row text begun c.in_ok-push_letters.ensures at in
    let all : c.deref_mut.result.now ≡ text ++ at_left 44 begun = c.deref_mut.ensures.value ∙ filled in
    ap length (front-filled text begun _ c.len-before.result all at (letters-length c.args.row.now)) ∙ at_left-length begun 44 (let few = letters-length c.args.row.now in omega (arith, few))

pub write_front-requires-clause-begun : goal.write_front-requires-clause-begun
write_front-requires-clause-begun c =
    let text = c.args.text.now.items in
    let begun = letters c.args.row.now.flags in
    let at : c.len-before.result ≡ length text = search rules in
    let filled : c.fill_columns.new.text.items ≡ text ++ at_left 44 begun = c.in_ok-fill_columns.ensures.row text begun c.in_ok-push_letters.ensures at in
    let all : c.deref_mut.result.now ≡ text ++ at_left 44 begun = c.deref_mut.ensures.value ∙ filled in
    record {
      filled = front-filled text begun _ c.len-before.result all at (letters-length c.args.row.now);
      within = let few = letters-length c.args.row.now in omega (arith, few);
    }

pub returns : goal.returns
returns c =
    let text = c.args.text.now.items in
    let begun = letters c.args.row.now.flags in
    let few = letters-length c.args.row.now in
    let before = c.len-before.result in
    let at : before ≡ length text = search rules in
    let filled : c.fill_columns.new.text.items ≡ text ++ at_left 44 begun = c.in_ok-fill_columns.ensures.row text begun c.in_ok-push_letters.ensures at in
    let all : List ℕ = c.deref_mut.result.now in
    let held : all ≡ text ++ at_left 44 begun = c.deref_mut.ensures.value ∙ filled in
    let front = c.write_front.new.front in
    let wide : length front ≡ 44 = front-long front _ 43 c.write_front.ensures (omega arith) in
    let long : length all ≡ before + 44 = ap length held ∙ length-append text (at_left 44 begun) ∙ (λ i. sym at i + at_left-length begun 44 (omega (arith, few)) i) in
    let taken = take-put_mid before (length all - before) all front (before + 44) (omega (arith, wide)) (omega (arith, long)) ∙ ap (λ t. t ++ front) (ap (take before) held ∙ ap (λ n. take n (text ++ at_left 44 begun)) at ∙ take-append_seam text (at_left 44 begun)) in
    let dropped = drop-put_mid before (length all - before) all front (before + 44) (omega (arith, long)) (omega (arith, long)) (omega (arith, wide, long)) ∙ drop_of_length-le all (omega (arith, long)) in
    let size : length c.fill_columns.new.text.items ≡ length text + length front = ap length filled ∙ length-append text (at_left 44 begun) ∙ ap (λ n. length text + n) (at_left-length begun 44 (omega (arith, few)) ∙ sym wide) in
    record {
      front = front;
      whole = end-written c.fill_columns.new.text.len text front _ _ (sym (take-append-drop (before + 44) _) ∙ (λ i. taken i ++ dropped i) ∙ append-nil (text ++ front)) size (sym c.deref_mut.ensures.len ∙ ap length c.deref_mut.ensures.value);
      is = c.write_front.ensures;
    }
