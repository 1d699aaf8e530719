use Rattle.std.proofs.Common.{◌≡◌, ◌++◌, [], cond, string_bytes, length, ◌∙◌, sym, ap, append-nil, arith}
use Rattle.design.specs.Plans.{outcome}
use Rattle.plain_survey.proofs.Reports.{finished_is}
use Rattle.sample_file.specs.Text.{unit_line, unit_lines}
use Rattle.response.proofs.InOrder.{at_order, units_in_order}
use Rattle.response.proofs.Lines.{one_line_more}
use Rattle.response.proofs.Questions.{taken_answered}
use Rattle.response.proofs.Values.{never_refused, one_value}
use Rattle.response.proofs.asking.write_taken.Goals as goal
use Rattle.response.proofs.asking.write_taken.Goals.{then-branch+in_ok-write_unit, else-branch}

pub returns-in_err-taken : goal.returns-in_err-taken
returns-in_err-taken g c r share ends ordered =
    let u = outcome r.tree in
    let many = units_in_order (length r.list) share c.args.shares.now ordered in
    let a = taken_answered r u c.loop-k.k c.taken.result (finished_is r.tree ends.ended) (omega arith) (c.taken.ensures.answer _ ends.stands.means) in
    never_refused c.taken.result (u c.loop-k.k) c.in_err-taken.field-0.0 a c.in_err-taken.was

pub loop-k-preserved : goal.loop-k-preserved
loop-k-preserved g c r share ends ordered =
    let u = outcome r.tree in
    let old = string_bytes c.args.text.now in
    let now = string_bytes c.loop-k.text in
    let new = string_bytes c.if-branch.text in
    let many = units_in_order (length r.list) share c.args.shares.now ordered in
    let a = taken_answered r u c.loop-k.k c.taken.result (finished_is r.tree ends.ended) (omega arith) (c.taken.ensures.answer _ ends.stands.means) in
    let taken = one_value c.taken.result c.in_ok-taken.field-0 (u c.loop-k.k) c.in_ok-taken.was a in
    let so_far = c.loop-k.invariant r share ends ordered in
    one_line_more old now new u share c.loop-k.k c.in_ok-taken.field-0 taken so_far
    (elim c.if-branch.branch [
      | then-branch+in_ok-write_unit w ↦
          ap (λ t. string_bytes t) w.text-is ∙ w.in_ok-write_unit.ensures ∙ ap (λ x. now ++ unit_line c.loop-k.k x) (at_order (length r.list) share c.args.shares.now c.loop-k.k _ ordered (omega arith))
          ∙ ap (λ b. now ++ cond b (unit_line c.loop-k.k (share c.loop-k.k)) []) (sym w.if-branch.true)
      | else-branch w ↦ ap (λ t. string_bytes t) w.text-is ∙ sym (append-nil now) ∙ ap (λ b. now ++ cond b (unit_line c.loop-k.k (share c.loop-k.k)) []) (sym w.if-branch.false)
    ])

pub returns : goal.returns
returns g c r share ends ordered =
    let many = units_in_order (length r.list) share c.args.shares.now ordered in
    let all : c.loop-k.k ≡ length r.list = omega arith in
    c.loop-k.invariant r share ends ordered ∙ ap (λ n. string_bytes c.args.text.now ++ unit_lines n (outcome r.tree) share) all
