-- `judge_walk` meets its contract: four steps, the first refusal decides. Assumes nothing.
use mathlib.Core.Path.{ap, ◌∙◌}
use Rattle.basics.proofs.Verdicts.{number_positive, err_exit, err_stop, ok_go}
use Rattle.reading.specs.Reading.{step_verdict, steps_verdict}
use Rattle.reading.proofs.walking.judge_walk.Goals as goal

pub returns-in_err-judge_step : goal.returns-in_err-judge_step
unfolding steps_verdict
returns-in_err-judge_step c =
    let one = step_verdict c.args.message.now in
    err_exit _ _ c.from_residual.ensures.1 (err_stop _ (number_positive _) (c.in_err-judge_step.ensures ∙ ap one c.start.ensures))

pub returns-in_err-judge_step-2 : goal.returns-in_err-judge_step-2
unfolding steps_verdict
returns-in_err-judge_step-2 c =
    let one = step_verdict c.args.message.now in
    err_exit _ _ c.from_residual-in_err-judge_step-2.ensures.1
    (ok_go (c.in_ok-judge_step.ensures ∙ ap one c.start.ensures) (err_stop _ (number_positive _) (c.in_err-judge_step-2.ensures ∙ ap one c.at.ensures)))

pub returns-in_err-judge_step-3 : goal.returns-in_err-judge_step-3
unfolding steps_verdict
returns-in_err-judge_step-3 c =
    let one = step_verdict c.args.message.now in
    err_exit _ _ c.from_residual-in_err-judge_step-3.ensures.1
    (ok_go (c.in_ok-judge_step.ensures ∙ ap one c.start.ensures)
    (ok_go (c.in_ok-judge_step-2.ensures ∙ ap one c.at.ensures) (err_stop _ (number_positive _) (c.in_err-judge_step-3.ensures ∙ ap one c.at-2.ensures))))

pub returns : goal.returns
unfolding steps_verdict
returns c =
    let one = step_verdict c.args.message.now in
    ok_go (c.in_ok-judge_step.ensures ∙ ap one c.start.ensures)
    (ok_go (c.in_ok-judge_step-2.ensures ∙ ap one c.at.ensures)
    (ok_go (c.in_ok-judge_step-3.ensures ∙ ap one c.at-2.ensures) (c.judge_step-4.ensures ∙ ap one c.at-3.ensures)))
