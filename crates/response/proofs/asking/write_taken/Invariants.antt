use Rattle.std.proofs.Common.{◌≡◌, ◌++◌, ℕ, length, string_bytes}
use Rattle.design.specs.Fractions.{Fraction}
use Rattle.plain_survey.specs.States.{PlainRun}
use Rattle.design.specs.Plans.{outcome}
use Rattle.sample_file.specs.Text.{unit_lines}
use Rattle.response.specs.Runs.{EndsAt, in_order}
use Rattle.response.proofs.asking.write_taken.Given as goal

abbrev pub invariant-loop-k : goal.invariant-loop-k
invariant-loop-k g l =
    (r : PlainRun) (share : ℕ → Fraction) → EndsAt g.D.Design g.S.Source l.survey r → l.shares ≡ in_order (length r.list) share
    → string_bytes l.text ≡ string_bytes l.fn.text ++ unit_lines l.k (outcome r.tree) share
